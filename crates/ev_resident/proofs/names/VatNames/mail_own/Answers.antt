use Rattle.std.proofs.Common.{ap, sym, ◌∙◌}
use Rattle.ev_resident.specs.Names.{Named}
use Rattle.ev_resident.proofs.Growth.{mails_on, mails_done}
use Rattle.ev_resident.proofs.names.VatNames.mail_own.Goals as goal

pub loop-number-preserved : goal.loop-number-preserved
loop-number-preserved c = (
  ap (λ (t : Named). t.naming.vat) c.in_ok-mail_one.ensures ∙ c.loop-number.invariant.0,
  mails_on c.args.self.now.naming.vat c.loop-number.number c.args.messages c.loop-number.self c.mail_one.new.self c.loop-number-test.true
      c.loop-number.invariant.0 c.in_ok-mail_one.ensures
      ∙ c.loop-number.invariant.1,
)

pub returns : goal.returns
returns c =
    sym (mails_done c.args.self.now.naming.vat c.loop-number.number c.args.messages c.loop-number.self c.loop-number-test.false)
    ∙ c.loop-number.invariant.1
