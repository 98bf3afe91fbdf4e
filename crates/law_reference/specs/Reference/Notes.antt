-- What the notes between two vats are about: a vat tells only of its own names, and asks only for names of the receiver.
use Rattle.std.specs.Prelude.{◌≡◌, ℕ, zero, Bool, true, false, List, ◌++◌, ◌⊎◌, Option, Some, None, slice_get}
use Rattle.def_machine.specs.Values.{Value, Null, Flag, Number, Letter, Text, Prim, Broken, Items, Ref, Name, host_of, answer_of}
use Rattle.def_machine.specs.State.{Passed, Passeds, Plain, AGift, Many, NoMore, More, Note, Deliver, Open, Ask, SettledTo, Elsewhere, Shorten, Vat, is_in}
use Rattle.def_run.specs.World.{Script, Program, Entry, Link, World, Goes, begins, open_from, steps_from, link_at}
use Rattle.law_fate.specs.Name.Names.{AllOf, IsEventual}
use Rattle.law_fate.specs.Name.Runs.{KnowsOnce}
use Rattle.law_reference.specs.Reference.Cuts.{NoticesFollowCuts}

-- A message goes to a name of w, a gift is opened as a name of w, and a gift of w is asked for. What is told of is a name of v. What is to be shortened is a name of w; an object needs no telling.
abbrev pub IsBetween : ℕ → ℕ → Note Name → Type 0
IsBetween v w (Deliver m n verb ys) = host_of n ≡ w
IsBetween v w (Open i n) = host_of n ≡ w
IsBetween v w (Ask p i n) = host_of n ≡ w
IsBetween v w (SettledTo n y) = host_of n ≡ v
IsBetween v w (Elsewhere n c) = host_of n ≡ v
IsBetween v w (Shorten n c i) = IsEventual n → host_of n ≡ w

-- so are all notes that were put on a link, and all that are under way on it
abbrev pub LinkFits : Link → Type 0
LinkFits l = AllOf (IsBetween l.from l.to) l.log × AllOf (IsBetween l.from l.to) l.notes

-- In every world of a run each note is about a name of one of the two vats of its link.
abbrev pub NotesNameTheirEnds : Type 0
NotesNameTheirEnds = (script : Script) → KnowsOnce script
    → ((ps rest : List Program) (w : World) → script.vats ≡ ps ++ rest → open_from script zero ps (begins script) ≡ Goes w → AllOf LinkFits w.links)
    × ((w x : World) (es : List Entry) (k : ℕ) → open_from script zero script.vats (begins script) ≡ Goes w → steps_from script es k w ≡ Goes x → AllOf LinkFits x.links)

-- a name of one of the two vats, or data
abbrev pub IsOfEither : ℕ → ℕ → Value Name → Type 0
IsOfEither v w (Ref n) = (host_of n ≡ v) ⊎ (host_of n ≡ w)
IsOfEither v w Null = Unit {0}
IsOfEither v w (Flag b) = Unit {0}
IsOfEither v w (Number z) = Unit {0}
IsOfEither v w (Letter c) = Unit {0}
IsOfEither v w (Text t) = Unit {0}
IsOfEither v w (Prim i) = Unit {0}
IsOfEither v w (Broken t) = Unit {0}
IsOfEither v w (Items k) = Unit {0}

-- the same of each part of what passes that is no gift
abbrev mutual
  pub PassesBetween : ℕ → ℕ → Passed Name → Type 0
  PassesBetween v w (Plain y) = IsOfEither v w y
  PassesBetween v w (AGift h i) = Unit {0}
  PassesBetween v w (Many ys) = AllPassBetween v w ys

  pub AllPassBetween : ℕ → ℕ → Passeds Name → Type 0
  AllPassBetween v w NoMore = Unit {0}
  AllPassBetween v w (More y ys) = PassesBetween v w y × AllPassBetween v w ys

-- what the answer that a note asks of vat w is called: its name, and none where the note asks for no answer
abbrev pub answer_due : ℕ → Bool → Name → Option Name
answer_due w true m = Some (answer_of w m)
answer_due w false m = None

-- that is what the sender of a note to w calls it
abbrev pub NamesItsAnswer : ℕ → Note Name → Type 0
NamesItsAnswer w (Deliver d n verb ys) = d.answer ≡ answer_due w d.asks d.message
NamesItsAnswer w (Open i n) = Unit {0}
NamesItsAnswer w (Ask p i n) = Unit {0}
NamesItsAnswer w (SettledTo n y) = Unit {0}
NamesItsAnswer w (Elsewhere n c) = Unit {0}
NamesItsAnswer w (Shorten n c i) = Unit {0}

-- of the arguments of a message, with the answer that it asks for, and of what a name settled to
abbrev pub Carries : ℕ → ℕ → Note Name → Type 0
Carries v w (Deliver m n verb ys) = AllPassBetween v w ys × NamesItsAnswer w (Deliver m n verb ys)
Carries v w (SettledTo n y) = PassesBetween v w y
Carries v w (Open i n) = Unit {0}
Carries v w (Ask p i n) = Unit {0}
Carries v w (Elsewhere n c) = Unit {0}
Carries v w (Shorten n c i) = Unit {0}

-- on a link, of all notes that were put and of all that are under way
abbrev pub LinkCarries : Link → Type 0
LinkCarries l = AllOf (Carries l.from l.to) l.log × AllOf (Carries l.from l.to) l.notes

-- In every world of a run each name that passes in a note, and not as a gift, is of one of the two vats of its link, and the answer that a note asks for is called by its name.
abbrev pub NotesCarryTheirEnds : Type 0
NotesCarryTheirEnds = (script : Script) → KnowsOnce script
    → ((ps rest : List Program) (w : World) → script.vats ≡ ps ++ rest → open_from script zero ps (begins script) ≡ Goes w → AllOf LinkCarries w.links)
    × ((w x : World) (es : List Entry) (k : ℕ) → open_from script zero script.vats (begins script) ≡ Goes w → steps_from script es k w ≡ Goes x → AllOf LinkCarries x.links)

module _ (s : Vat Name) where
  -- its host was not noticed
  abbrev pub IsSpared : Name → Type 0
  IsSpared n = is_in (host_of n) s.noticed ≡ false

  abbrev pub ValueSpared : Value Name → Type 0
  ValueSpared (Ref n) = IsSpared n
  ValueSpared Null = Unit {0}
  ValueSpared (Flag b) = Unit {0}
  ValueSpared (Number z) = Unit {0}
  ValueSpared (Letter c) = Unit {0}
  ValueSpared (Text t) = Unit {0}
  ValueSpared (Prim i) = Unit {0}
  ValueSpared (Broken t) = Unit {0}
  ValueSpared (Items k) = Unit {0}

  -- the same of each part of what passes that is no gift
  abbrev mutual
    pub PassesSpared : Passed Name → Type 0
    PassesSpared (Plain y) = ValueSpared y
    PassesSpared (AGift h i) = Unit {0}
    PassesSpared (Many ys) = AllPassSpared ys

    pub AllPassSpared : Passeds Name → Type 0
    AllPassSpared NoMore = Unit {0}
    AllPassSpared (More y ys) = PassesSpared y × AllPassSpared ys

  -- of the name that a note is about, and of what passes in it
  abbrev pub NoteSpared : Note Name → Type 0
  NoteSpared (Deliver m n verb ys) = IsSpared n × AllPassSpared ys
  NoteSpared (Open i n) = IsSpared n
  NoteSpared (Ask p i n) = IsSpared n
  NoteSpared (SettledTo n y) = IsSpared n × PassesSpared y
  NoteSpared (Elsewhere n c) = IsSpared n
  NoteSpared (Shorten n c i) = IsEventual n → IsSpared n

-- In every world of a run, each note that is under way to a vat on a link that is not cut names nothing whose host the vat noticed.
abbrev pub NotesNameNobodyNoticed : Type 0
NotesNameNobodyNoticed = (script : Script) → KnowsOnce script → (w x : World) (es : List Entry) (k : ℕ) → NoticesFollowCuts es → open_from script zero script.vats (begins script) ≡ Goes w → steps_from script es k w ≡ Goes x
    → (u v : ℕ) (s : Vat Name) (l : Link) → slice_get x.vats v ≡ Some s → link_at u v x.links ≡ Some l → l.cut ≡ false → AllOf (NoteSpared s) l.notes
