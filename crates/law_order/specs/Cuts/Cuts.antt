-- A cut of the links between two vats, and what is ahead of what after it.
use Rattle.std.specs.Prelude.{◌≡◌, ℕ, Bool, List, [], ◌⊎◌}
use Rattle.def_machine.specs.Values.{Value, Name}
use Rattle.def_run.specs.World.{Script, CutLink, World, Goes, step}
use Rattle.law_machine.specs.Run.Moves.{IsReached}
use Rattle.law_order.specs.Ordering.Ways.{Lane, Way, Item, Place, Nowhere, Mid, Ways, IsIn, Doom, Ahead}
use Rattle.law_order.specs.Ordering.Messages.{StandsAt, IsNowhere, LacksAt, StaysBehind}
use Rattle.law_order.specs.Ordering.Places.{leads, ways}
use Rattle.law_order.specs.Cuts.Letting.{OneLetsGo, AllLogged}

-- From w to u lanes were shut: a message leaves its lane only where that leads nowhere from now on. Every other lane leads where it led, or to what is doomed.
pub record IsShutOff (w u : Ways) : Type 0 where
  pub stands : (l : Lane) (i : Item) → IsIn i (w.stands l) → IsIn i (u.stands l) ⊎ ((n : Name) → u.onward l n ≡ Nowhere)
  pub links : (a b : ℕ) → ((n : Name) → u.onward (Way a b) n ≡ w.onward (Way a b) n) ⊎ ((n : Name) → u.onward (Way a b) n ≡ Nowhere)
  pub lanes : (l : Lane) (n : Name) → (u.onward l n ≡ w.onward l n) ⊎ Doom u (u.onward l n)

-- one of the links between the two
abbrev pub IsBetween : ℕ → ℕ → Lane → Type 0
IsBetween a b l = (l ≡ Way a b) ⊎ (l ≡ Way b a)

-- From w to y, in which the links between a and b were cut, what is doomed stays doomed and what is ahead stays ahead.
pub record CutKeeps (script : Script) (honest : ℕ → Bool) (w y : World) (a b : ℕ) : Type 0 where
  -- each reference of each vat leads where it led
  pub leading : (u : ℕ) (x : Value Name) → leads script honest y.vats y.links u x ≡ leads script honest w.vats w.links u x
  pub places : (c : Place) → StaysBehind (ways script honest w) (ways script honest y) c c
  -- Each message that is not on these links stands where it stood.
  pub apart : (l : Lane) → (IsBetween a b l → ⊥) → (ways script honest y).stands l ≡ (ways script honest w).stands l
  -- What stood on them is gone, and where it stood what comes is doomed.
  pub gone : (l : Lane) → IsBetween a b l → (ways script honest y).stands l ≡ []
  pub lost : (m : Name) (l : Lane) (c : List Item) (n : Name) → IsBetween a b l → StandsAt (ways script honest w) m l c n → Doom (ways script honest y) (Mid l c n)

-- ---- laws

abbrev pub ShuttingKeeps : Type 0
ShuttingKeeps = (w u : Ways) → IsShutOff w u → (c : Place) → StaysBehind w u c c

-- It asks that at most one note under way lets each gift go, and that each note under way was logged.
abbrev pub CutsKeep : Type 0
CutsKeep = (script : Script) (honest : ℕ → Bool) (w y : World) (a b k : ℕ) → OneLetsGo w.links → AllLogged w.links → step script (CutLink a b) k w ≡ Goes y → CutKeeps script honest w y a b

-- So it is in every run.
abbrev pub CutsKeepInRuns : Type 0
CutsKeepInRuns = (script : Script) (honest : ℕ → Bool) (w y : World) (a b k : ℕ) → IsReached script w → step script (CutLink a b) k w ≡ Goes y → CutKeeps script honest w y a b

-- A message that a cut lost, and that stands nowhere then, dooms all places that it was ahead of and does not stand in front of.
abbrev pub CutMessagesDoom : Type 0
CutMessagesDoom = (script : Script) (honest : ℕ → Bool) (w y : World) (a b : ℕ) (m : Name) → CutKeeps script honest w y a b → IsNowhere (ways script honest y) m
    → (c : Place) → LacksAt m c → Ahead (ways script honest w) m c → Doom (ways script honest y) c
