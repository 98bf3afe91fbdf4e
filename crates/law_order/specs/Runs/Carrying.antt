-- A message is carried in a run.
use Rattle.std.specs.Prelude.{◌≡◌, ℕ, zero, Bool, List, [], ◌∷◌, ◌++◌}
use Rattle.def_machine.specs.Values.{Words, Name}
use Rattle.def_machine.specs.State.{Passeds, Delivery}
use Rattle.def_run.specs.World.{Script, Carry, Entry, World, Goes, begins, open_from, steps_from}
use Rattle.law_fate.specs.Name.Runs.{KnowsOnce}
use Rattle.law_order.specs.Ordering.Places.{item}
use Rattle.law_order.specs.Carries.Carries.{BearsMessage, OrderKept}

-- In every run, as the next entry carries that message, order is kept; where the message goes on to a vat that is not honest, behind all others.
abbrev pub MessageCarriesKeepInRuns : Type 0
MessageCarriesKeepInRuns = (script : Script) → KnowsOnce script → (w x y : World) (es : List Entry) (k a b : ℕ)
    → open_from script zero script.vats (begins script) ≡ Goes w → steps_from script es k w ≡ Goes x → steps_from script (es ++ Carry a b ∷ []) k w ≡ Goes y
    → (honest : ℕ → Bool) (d : Delivery Name) (n : Name) (verb : Words) (ys : Passeds Name) → BearsMessage script honest x a b d n verb ys → OrderKept script honest x y a b (item d.message n)
