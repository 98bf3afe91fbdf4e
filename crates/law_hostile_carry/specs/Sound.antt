-- What each honest vat is in a run with hostile vats.
use Rattle.std.specs.Prelude.{◌≡◌, ℕ, [], Some, slice_get}
use Rattle.def_machine.specs.Values.{Name}
use Rattle.def_machine.specs.State.{Vat}
use Rattle.def_run.specs.World.{names}
use Rattle.def_hostile.specs.Hostile.{Play, Scene}
use Rattle.def_hostile.specs.Plays.{ComesTo}
use Rattle.law_machine.specs.Machine.Breaks.{FarApart}
use Rattle.law_fate.specs.Fates.Sound.{Parts}
use Rattle.law_injected.specs.HostileRuns.{IsHostile}

-- of each honest vat of each configuration to which a run with a hostile vat comes
abbrev pub InHonestVats : (Play → ℕ → Vat Name → Type 0) → Type 0
InHonestVats P = (play : Play) (h : ℕ) → IsHostile play h → (s : Scene) → ComesTo play s → (v : ℕ) (t : Vat Name) → slice_get s.world.vats v ≡ Some t → (IsHostile play v → ⊥) → P play v t

-- Its number, what it knows of names, and the gifts of which it is the host: no name that it knows is an object, none settled to a promise, it tells of its own names alone and holds messages on them alone, and a name that is viewed has another host.
abbrev pub HonestVatsAreSound : Type 0
HonestVatsAreSound = InHonestVats (λ play v t. Parts v t.number t.known t.gifts [])

-- No object of another vat is among the names that it knows.
abbrev pub FarObjectsAreApart : Type 0
FarObjectsAreApart = InHonestVats (λ play v t. FarApart (names play.script v) t)
