use Rattle.ev_resident.proofs.Naming.{names_stand, names_stood}
use Rattle.ev_resident.proofs.outcome.name_step.Goals as goal

pub returns-clause-names : goal.returns-clause-names
returns-clause-names c = λ w s last u t messages brought after stands carries says.
    let h = c.args.host.now in
    let n = c.args.names.now in
    let made = c.in_ok-after_step.ensures in
    names_stand w h s after u last t messages brought c.args.carried n _ stands carries
    (made.stands w after.outbox after.happened brought says t (names_stood w h s after u last t n stands) last stands.counts)
    (made.counts w) made.vat
