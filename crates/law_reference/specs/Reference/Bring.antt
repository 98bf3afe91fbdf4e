-- In every run the notes that arrive bring what is new, of all names but gifts.
use Rattle.std.specs.Prelude.{◌≡◌, ℕ, ◌+◌, ◌≤◌, List, ◌∷◌, Some, slice_get}
use Rattle.def_machine.specs.Values.{Name, Root, Object, Promise, Answer, Gift, Sent}
use Rattle.def_machine.specs.State.{Note, Vat}
use Rattle.def_run.specs.World.{Link, link_at, read_note, names_of}
use Rattle.law_fate.specs.Name.Runs.{InRuns}
use Rattle.law_reference.specs.Reference.Knowing.{claims}
use Rattle.law_reference.specs.Reference.NameTableRuns.{allowed, brings_here}

-- it is no gift
abbrev pub IsNoGift : Name → Type 0
IsNoGift (Root w) = Unit {0}
IsNoGift (Object w i) = Unit {0}
IsNoGift (Promise w i) = Unit {0}
IsNoGift (Answer h m) = Unit {0}
IsNoGift (Gift h i) = ⊥
IsNoGift (Sent m) = Unit {0}

-- The first note on each link brings each name but gifts once at most, and none that is claimed at the receiver.
abbrev pub NotesBringNewButGifts : Type 0
NotesBringNewButGifts = InRuns (λ w. (from to : ℕ) (l : Link) (n : Note Name) (ns : List (Note Name)) (s : Vat Name) → link_at from to w.links ≡ Some l → l.notes ≡ n ∷ ns → slice_get w.vats to ≡ Some s
    → (x : Name) → IsNoGift x → claims to x s.known + brings_here to x from s.gifts (read_note (names_of s) n) ≤ allowed to x s w.drawn)
