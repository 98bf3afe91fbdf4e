-- Where each step of a run is made of small steps, the run is in order.
use Rattle.std.specs.Prelude.{◌≡◌, ℕ, zero, ◌+◌, Bool, List, [], ◌∷◌, ◌++◌, length}
use Rattle.def_run.specs.World.{Script, Program, Entry, World, Goes, begins, open_vat, open_from, step, steps_from, run}
use Rattle.law_order.specs.Ordering.Order.{Ordered}
use Rattle.law_order.specs.Ordering.Example.{history_of}
use Rattle.law_order.specs.History.Befores.{TellsOrder}
use Rattle.law_order.specs.History.Tells.{SmallStep, Tale}
use Rattle.law_order.specs.History.Told.{IsTold}

-- What a history of the run tells of places is kept by each small step.
abbrev pub SmallStepsKeep : Type 0
SmallStepsKeep = (script : Script) (honest : ℕ → Bool) (x y : World) → IsTold script x.history → TellsOrder script honest x → SmallStep script honest x y → TellsOrder script honest y

-- Each opening turn and each entry of the run of a script is made of small steps, after all that went before; an entry, where the history so far tells of places as it should.
pub record StepsAreTales (script : Script) (honest : ℕ → Bool) : Type 0 where
  pub opening : (ps rest : List Program) (p : Program) (w y : World) → script.vats ≡ ps ++ p ∷ rest → open_from script zero ps (begins script) ≡ Goes w
      → open_vat script (length ps) p w ≡ Goes y → Tale script honest w y
  pub entry : (es rest : List Entry) (e : Entry) (w x y : World) → script.schedule ≡ es ++ e ∷ rest → open_from script zero script.vats (begins script) ≡ Goes w → steps_from script es 1 w ≡ Goes x
      → step script e (1 + length es) x ≡ Goes y → steps_from script (es ++ e ∷ []) 1 w ≡ Goes y → TellsOrder script honest x → Tale script honest x y

-- Then the run is in order, up to a stop too.
abbrev pub TalesAreOrdered : Type 0
TalesAreOrdered = (script : Script) (honest : ℕ → Bool) → StepsAreTales script honest → Ordered (history_of (run script))
