-- What is known of each world that a run comes to.
use Rattle.std.proofs.Common.{[], sym, append-nil}
use Rattle.def_run.specs.World.{Script, World}
use Rattle.law_machine.specs.Run.Moves.{IsReached}
use Rattle.law_machine.proofs.Run.Honest.{honest_reached}
use Rattle.law_fate.specs.Name.Runs.{KnowsOnce}
use Rattle.law_fate.proofs.Name.Run.{Stands, opened_stands, steps_stand}
use Rattle.law_order.proofs.Runs.LinkRuns.{reached_linked}
use Rattle.law_order.specs.History.Told.{IsOfRun, opened, entered}
use Rattle.law_order.proofs.Tales.Receivers.{receiver}
use Rattle.law_order.proofs.Sending.Far.{far_names_rest}
use Rattle.law_order.proofs.Sending.Passing.{AllMeet}
use Rattle.law_order.proofs.Sending.Sending.{Around}

module _ (script : Script) where
  pub reached_of : (w : World) → IsOfRun script w → IsReached script w
  reached_of w (opened ps rest i e) = (honest_reached script).0 ps rest w i e
  reached_of w (entered es rest o i a e) = (honest_reached script).1 o w es 1 a e

  module _ (once : KnowsOnce script) where
    pub stands_in : (w : World) → IsOfRun script w → Stands script w
    stands_in w (opened ps rest i e) = opened_stands script once ps rest w i e
    stands_in w (entered es rest o i a e) = steps_stand script es 1 o w (opened_stands script once script.vats [] o (sym (append-nil script.vats)) a) e

    meets : (w : World) → IsOfRun script w → AllMeet w
    meets w of_run = let stands = stands_in w of_run in record {
      linked = λ a b s t e f other. let p = stands.vats a s e in let q = stands.vats b t f in reached_linked script w (reached_of w of_run) a b p.low q.low other;
      receivers = λ a b l e. receiver script w (reached_of w of_run) a b l e;
    }

    pub around_of : (w : World) → IsOfRun script w → Around script w
    around_of w of_run = record { of_run = of_run; stands = stands_in w of_run; linked = reached_linked script w (reached_of w of_run); meet = meets w of_run; far = far_names_rest script once w of_run }
