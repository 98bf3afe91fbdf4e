use Rattle.std.proofs.Common.{Ok, Err, List, ℕ, subst}
use Rattle.std.proofs.lemmas.Result.{IfOk-weaker}
use Rattle.ev_reader.specs.Program.{Answers}
use Rattle.ev_top.proofs.expansion.reply_text.Goals as goal

pub returns-in-Ok : goal.returns-in-Ok
returns-in-Ok c =
    IfOk-weaker c.reply_form.result _ _
    (λ reply told. (Ok c.in-Ok.scoped, subst (λ (given : List (List ℕ)). Answers (Ok c.in-Ok.scoped) c.args.text.now given) c.in_ok-given.ensures c.in-Ok.ensures, told))
    c.reply_form.ensures

pub returns : goal.returns
returns c =
    IfOk-weaker c.reply_fault.result _ _
    (λ reply told. (Err c.in-Err.fault, subst (λ (given : List (List ℕ)). Answers (Err c.in-Err.fault) c.args.text.now given) c.in_ok-given.ensures c.in-Err.ensures, told))
    c.reply_fault.ensures
