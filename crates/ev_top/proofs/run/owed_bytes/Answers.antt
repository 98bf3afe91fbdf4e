use Rattle.std.proofs.Common.{ℕ, Result, sym, subst}
use Rattle.std.proofs.lemmas.Result.{IfOk-weaker}
use Rattle.ev_script.specs.declared.script.Script.{Script}
use Rattle.ev_top.specs.RunDue.{IsDueOfScript, debt_of}
use Rattle.ev_top.specs.Machine.{text_of}
use Rattle.ev_top.proofs.run.owed_bytes.Goals as goal

pub returns-in-Ok-clause-due : goal.returns-in-Ok-clause-due
returns-in-Ok-clause-due c =
    IfOk-weaker c.owed_script.result _ _
    (λ owed due. subst (λ (found : Result Script ℕ). IsDueOfScript (text_of c.args.wire) found (debt_of owed).status (debt_of owed).text) (sym c.in-Ok.ensures.reads) due)
    c.owed_script.ensures.due
