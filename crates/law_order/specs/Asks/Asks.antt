-- What a carry of a note keeps, and which note it carries.
use Rattle.std.specs.Prelude.{◌≡◌, ℕ, Bool, false, List, ◌∷◌, Some, slice_get}
use Rattle.def_machine.specs.Values.{Value, Name}
use Rattle.def_machine.specs.State.{Note, Vat}
use Rattle.def_run.specs.World.{Script, Link, World, link_at}
use Rattle.law_order.specs.Ordering.Ways.{Lane, Item, Mid}
use Rattle.law_order.specs.Ordering.Messages.{More, StaysBehind}
use Rattle.law_order.specs.Ordering.Places.{leads, ways}

-- From w to y each reference and all that stays where it stood keeps its order, and messages come to the ends of lanes alone: so each stands where it stood.
pub record StepKeeps (script : Script) (honest : ℕ → Bool) (w y : World) : Type 0 where
  pub references : (u : ℕ) (x : Value Name) → StaysBehind (ways script honest w) (ways script honest y) (leads script honest w.vats w.links u x) (leads script honest y.vats y.links u x)
  pub places : (l : Lane) (b : List Item) (n : Name) → StaysBehind (ways script honest w) (ways script honest y) (Mid l b n) (Mid l b n)
  pub more : (l : Lane) → More (ways script honest w) (ways script honest y) l

-- That is the first note on the link from a to b, which is not cut.
pub record Bears (w : World) (a b : ℕ) (m : Note Name) : Type 0 where
  pub vat : Vat Name
  pub there : slice_get w.vats b ≡ Some vat
  pub link : Link
  pub found : link_at a b w.links ≡ Some link
  pub uncut : link.cut ≡ false
  pub rest : List (Note Name)
  pub first : link.notes ≡ m ∷ rest
