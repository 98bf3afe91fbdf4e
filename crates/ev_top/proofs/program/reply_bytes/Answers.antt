use Rattle.std.proofs.Common.{string_bytes}
use Rattle.std.proofs.lemmas.Result.{IfOk-weaker}
use Rattle.ev_top.specs.RunDue.{debt_of}
use Rattle.ev_top.specs.declared.command.Command.TheVariants.{Run, Sum}
use Rattle.ev_top.proofs.DueLemmas.{whole}
use Rattle.ev_top.proofs.program.reply_bytes.Goals as goal

pub returns-in-Run-clause-whole : goal.returns-in-Run-clause-whole
returns-in-Run-clause-whole c =
    IfOk-weaker c.owed_bytes.result _ _ (λ owed due. whole (Run c.in-Run.wire) c.args.bytes.now (debt_of owed).status (debt_of owed).text due) c.owed_bytes.ensures.due

pub returns-in_ok-sum_generated-in-Sum-clause-whole : goal.returns-in_ok-sum_generated-in-Sum-clause-whole
returns-in_ok-sum_generated-in-Sum-clause-whole c =
    let reply = c.in_ok-sum_generated-in-Sum.field-0 in
    whole (Sum c.in-Sum.number) c.args.bytes.now reply.status (string_bytes reply.text) c.in_ok-sum_generated-in-Sum.ensures
