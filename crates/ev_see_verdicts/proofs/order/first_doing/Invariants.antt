-- no line so far does it
use Rattle.std.proofs.Common.{◌≡◌, ◌<◌, ℕ, false, slice_get, Some}
use Rattle.def_event.specs.declared.event.Event.{Event}
use Rattle.ev_see_verdicts.specs.Judged.{does}
use Rattle.ev_see_verdicts.proofs.order.first_doing.Given as goal

abbrev pub invariant-loop-index : goal.invariant-loop-index
invariant-loop-index l = (j : ℕ) (e : Event) → j < l.index → slice_get l.events j ≡ Some e → does l.deed l.message e ≡ false
