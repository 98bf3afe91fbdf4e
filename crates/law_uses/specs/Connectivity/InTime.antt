-- That the lines of a step are connected as they are told: what a line uses was known by what was there then, and not by what came to be later in the step.
use Rattle.std.specs.Prelude.{◌≡◌, ℕ, false, List, [], ◌∷◌, ◌++◌, Option, Some, None, map, slice_get, ◌⊎◌}
use Rattle.def_machine.specs.Values.{Words, Value, Name, Naming, naming, numbering, IsOwn}
use Rattle.def_machine.specs.State.{Binding, Made, Happened, Called, Back, ListCame, Settles, Waits, Views, Lost, Posted, ObjectMade, Vat, PromiseMade}
use Rattle.law_machine.specs.Machine.Steps.{Step, does, After}
use Rattle.law_uses.specs.Connectivity.Known.{IsAmong, AllOf, Holdings, IsThing, Knows}
use Rattle.law_uses.specs.Connectivity.Connected.{uses, itself, open_from, BackWell, held_from}
use Rattle.law_uses.specs.Connectivity.News.{list_made, Adds}
use Rattle.law_uses.specs.Connectivity.Liveness.{live_at}

-- first: what there was before the step, and what the step is given
module _ {N W : Type 0} (K : Naming N W) (first : Holdings N W) where
  -- what a line is read against that was told in that state of the vat
  abbrev pub held_then : Vat N → Holdings N W
  held_then r = record { things = r.things; lists = r.lists; slots = r.slots; before = first.before; given = first.given; start = first.start }

  -- The vat as it was when these lines had been told: each list and each object was there before the step, or one of them tells of it.
  pub record Moment (so : List (Happened N)) (r : Vat N) : Type 0 where
    pub lines : r.happened ≡ so
    pub lists : Adds first.lists (map list_made so) r.lists
    pub objects : (i node : ℕ) (caught : List (Binding N)) (stamps : List (Value N)) → slice_get r.things i ≡ Some (Made node caught stamps)
        → (slice_get first.things i ≡ Some (Made node caught stamps)) ⊎ ((a : ℕ) × (x : Words) × IsAmong (ObjectMade a (K.object i) x (map (λ b. b.bound) caught) stamps) so)

  -- what a line uses was known then, but for what it makes
  abbrev pub UsesThen : List (Happened N) → Vat N → Happened N → Type 0
  UsesThen so r e = AllOf (λ u. Knows K (held_then r) so u.0 u.1 ⊎ IsAmong u.1 (itself e)) (uses e)

  -- what gives a value back gave what was known then
  abbrev pub GivesThen : List (Happened N) → Vat N → Happened N → Type 0
  GivesThen so r (Back a v) = BackWell K (held_then r) so a v (open_from [] so)
  GivesThen so r _ = Unit {0}

  -- a call that begins an activation is on what was followed to an object that was there then
  abbrev pub BeginsThen : List (Happened N) → Vat N → Value N → Option ℕ → Type 0
  BeginsThen so r x None = Unit {0}
  BeginsThen so r x (Some b) = (i node : ℕ) × (caught : List (Binding N)) × (stamps : List (Value N)) × IsThing K first.before so x i × (slice_get r.things i ≡ Some (Made node caught stamps))

  abbrev pub CallsThen : List (Happened N) → Vat N → Happened N → Type 0
  CallsThen so r (Called a x verb args b) = BeginsThen so r x b
  CallsThen so r _ = Unit {0}

  -- an object is made under a number of its own vat, and a promise is one of its own
  abbrev pub MakesOwn : Happened N → Type 0
  MakesOwn (ObjectMade a me x caught stamps) = (i : ℕ) × (me ≡ K.object i)
  MakesOwn (PromiseMade a p r) = (i k : ℕ) × (p ≡ K.made (IsOwn i) k)
  MakesOwn _ = Unit {0}

  abbrev pub WellThen : List (Happened N) → Happened N → Type 0
  WellThen so e = (r : Vat N) × Moment so r × UsesThen so r e × GivesThen so r e × CallsThen so r e × MakesOwn e

  -- a line, after these; of lines of no activation nothing is said
  abbrev pub InTime : List (Happened N) → Happened N → Type 0
  InTime so (ListCame k vs) = Unit {0}
  InTime so (Settles p y) = Unit {0}
  InTime so (Waits p q) = Unit {0}
  InTime so (Views p q) = Unit {0}
  InTime so (Lost m) = Unit {0}
  InTime so (Posted w m) = Unit {0}
  InTime so e = WellThen so e

  -- lines that come after these
  abbrev pub AllInTime : List (Happened N) → List (Happened N) → Type 0
  AllInTime so [] = Unit {0}
  AllInTime so (e ∷ es) = InTime so e × AllInTime (so ++ e ∷ []) es

-- the lines of each step, however it ends, from a vat in which nothing has happened in the step and nothing is live
abbrev pub StepsInTime : {N W : Type 0} → Naming N W → Type 0
StepsInTime {N} {W} K = (step : Step N W) (s : Vat N) → s.happened ≡ [] → ((i : ℕ) → live_at s.things i ≡ false) → After (λ s t. AllInTime K (held_from step s s) [] t.happened) s (does K step s)

-- under global names and under local numbers
abbrev pub StepsAreInTime : Type 0
StepsAreInTime = ((word : ℕ → ℕ) (v : ℕ) → StepsInTime (naming word v)) × ((word : ℕ → ℕ) → StepsInTime (numbering {W = Name} word))
