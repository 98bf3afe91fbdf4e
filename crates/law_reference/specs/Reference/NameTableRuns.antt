-- That each vat of a run knows each name once, where the notes that arrive bring what is new.
use Rattle.std.specs.Prelude.{◌≡◌, ℕ, zero, suc, ◌+◌, ◌≤◌, Bool, true, false, List, [], ◌∷◌, ◌++◌, Some, slice_get, ◌==◌}
use Rattle.def_machine.specs.Values.{Name, Root, Object, Promise, Answer, Gift, Sent, same_name}
use Rattle.def_machine.specs.State.{Note, Vat}
use Rattle.def_run.specs.World.{Script, Program, Entry, Turn, Carry, CutLink, NoticeLink, Link, World, Goes, link_at, read_note, names_of, begins, open_from, step, steps_from}
use Rattle.law_fate.specs.Name.Names.{names_in}
use Rattle.law_fate.specs.Name.Runs.{KnowsOnce}
use Rattle.def_machine.specs.State.{Deliver, GiftEntry}
use Rattle.def_machine.specs.Values.{answer_of}
use Rattle.def_machine.specs.Arrive.{Incoming, Old, New}
use Rattle.law_reference.specs.Reference.Knowing.{one, claims, numbered, new_in_all, brings}

-- One where x may be known to vat v and has no number of it: it is no object, no promise of it, no answer of a message of it, and no gift.
unfoldable pub other : ℕ → Name → ℕ
other v (Root w) = 1
other v (Object w i) = 0
other v (Promise w i) = elim (v == w) [ true ↦ 0 | false ↦ 1 ]
other v (Answer h m) = elim (v == m.sender) [ true ↦ 0 | false ↦ 1 ]
other v (Gift h i) = 0
other v (Sent m) = 1

-- How often x may be claimed at vat v once those words were drawn: once, but not before it is numbered.
unfoldable pub allowed : ℕ → Name → Vat Name → List ℕ → ℕ
allowed v x s d = other v x + numbered v x s.promises s.messages d

-- whether it is the name of an object of vat v
unfoldable pub is_own_name : ℕ → Name → Bool
is_own_name v (Object w i) = v == w
is_own_name v _ = false

-- whether a note names such an object
unfoldable pub is_own : ℕ → Incoming Name Name → Bool
is_own v (Old n) = is_own_name v n
is_own v (New n h) = false

-- the answer that a message brings here
unfoldable pub answer_here : ℕ → Name → Incoming Name Name → ℕ
answer_here v x (Old m) = one (answer_of v m) x
answer_here v x (New m h) = one (answer_of v m) x

-- How often a note brings x: as `brings` has it, but that a message on an object of this vat is not sent on.
unfoldable pub brings_here : ℕ → Name → ℕ → List (GiftEntry Name) → Note (Incoming Name Name) → ℕ
brings_here v x from gs (Deliver d n verb ys) = elim (is_own v n) [ true ↦ answer_here v x d.message + new_in_all x ys | false ↦ brings v x from gs (Deliver d n verb ys) ]
brings_here v x from gs n = brings v x from gs n

-- The note brings to that vat each name once at most, and none that is claimed there.
abbrev pub BringsNew : World → ℕ → ℕ → Note Name → Vat Name → Type 0
BringsNew w from to n s = (x : Name) → claims to x s.known + brings_here to x from s.gifts (read_note (names_of s) n) ≤ allowed to x s w.drawn

-- and so does the first note on the link that an entry carries from
abbrev pub EntryBringsNew : World → Entry → Type 0
EntryBringsNew w (Carry from to) = (l : Link) (n : Note Name) (ns : List (Note Name)) (s : Vat Name) → link_at from to w.links ≡ Some l → l.notes ≡ n ∷ ns → slice_get w.vats to ≡ Some s → BringsNew w from to n s
EntryBringsNew w (Turn v) = Unit {0}
EntryBringsNew w (CutLink v u) = Unit {0}
EntryBringsNew w (NoticeLink v u) = Unit {0}

-- and so does each entry of these, from that world on
abbrev pub NotesBringNew : Script → List Entry → ℕ → World → Type 0
NotesBringNew script [] k w = Unit {0}
NotesBringNew script (e ∷ es) k w = EntryBringsNew w e × ((y : World) → step script e k w ≡ Goes y → NotesBringNew script es (suc k) y)

-- the names that each vat knows differ pairwise
abbrev pub NamesDiffer : World → Type 0
NamesDiffer w = (v : ℕ) (s : Vat Name) → slice_get w.vats v ≡ Some s
    → (i j : ℕ) (a b : Name) → slice_get (names_in s.known) i ≡ Some a → slice_get (names_in s.known) j ≡ Some b → same_name a b ≡ (i == j)

-- They do after any of the opening turns, and after all of them and any entries by which notes bring what is new.
abbrev pub NamesAreKnownOnce : Type 0
NamesAreKnownOnce = (script : Script) → KnowsOnce script
    → ((ps rest : List Program) (w : World) → script.vats ≡ ps ++ rest → open_from script zero ps (begins script) ≡ Goes w → NamesDiffer w)
    × ((w x : World) (es : List Entry) (k : ℕ) → open_from script zero script.vats (begins script) ≡ Goes w → NotesBringNew script es k w → steps_from script es k w ≡ Goes x → NamesDiffer x)

-- opens the definitions of this file
unfoldable pub opened_runs : Unit {0}
unfolding other allowed is_own_name is_own answer_here brings_here
opened_runs = tt
