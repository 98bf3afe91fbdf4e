use Rattle.std.proofs.Common.{ℕ, List, ◌∙◌, string_bytes, subst}
use Rattle.std.proofs.lemmas.Result.{IfOk-weaker}
use Rattle.ev_top.specs.RunDue.{IsDueOfScript}
use Rattle.ev_script.specs.Script.{read as script_from}
use Rattle.ev_top.specs.Summary.{summary_of}
use Rattle.ev_top.proofs.summary.sum_generated.Goals as goal

pub returns : goal.returns
returns c =
    IfOk-weaker c.sum_bytes.result _ _
    (λ reply due. subst (λ (bytes : List ℕ). IsDueOfScript summary_of (script_from bytes) reply.status (string_bytes reply.text)) (c.as_bytes.ensures.value ∙ c.in_ok-text.ensures) due)
    c.sum_bytes.ensures
