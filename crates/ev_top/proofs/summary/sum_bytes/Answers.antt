use Rattle.std.proofs.Common.{ℕ, Result, string_bytes, sym, subst}
use Rattle.std.proofs.lemmas.Result.{IfOk-weaker}
use Rattle.ev_script.specs.declared.script.Script.{Script}
use Rattle.ev_top.specs.RunDue.{IsDueOfScript}
use Rattle.ev_top.specs.Summary.{summary_of}
use Rattle.ev_top.proofs.summary.sum_bytes.Goals as goal

pub returns-in-Ok : goal.returns-in-Ok
returns-in-Ok c =
    IfOk-weaker c.sum_script.result _ _
    (λ reply due. subst (λ (found : Result Script ℕ). IsDueOfScript summary_of found reply.status (string_bytes reply.text)) (sym c.in-Ok.ensures.reads) due)
    c.sum_script.ensures
