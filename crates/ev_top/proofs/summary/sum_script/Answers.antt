use Rattle.std.proofs.Common.{[], string_bytes}
use Rattle.std.proofs.lemmas.Result.{IfOk-weaker}
use Rattle.ev_top.specs.Summary.{summary_of}
use Rattle.ev_top.proofs.ReadLemmas.{due_of_trees}
use Rattle.ev_top.proofs.summary.sum_script.Goals as goal

pub returns-in-Ok : goal.returns-in-Ok
returns-in-Ok c =
    IfOk-weaker c.sum_run.result _ _
    (λ reply due. due_of_trees summary_of c.args.script.now [] c.args.script.now.vats c.in-Ok.programs.items reply.status (string_bytes reply.text) c.in-Ok.ensures.read due)
    c.sum_run.ensures
