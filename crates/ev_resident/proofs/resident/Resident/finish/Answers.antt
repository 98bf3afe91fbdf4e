use Rattle.std.proofs.Common.{sym, subst, ◌∙◌, ap}
use Rattle.ev_arrive.specs.declared.host.Host.{Host}
use Rattle.ev_resident.specs.NamesStanding.{Says}
use Rattle.ev_resident.specs.OutcomeStanding.{IsAfter}
use Rattle.ev_vat.specs.declared.Vat.{Vat}
use Rattle.ev_resident.proofs.Worlds.{is_after, world_then}
use Rattle.ev_resident.proofs.resident.Resident.finish.Goals as goal

pub returns-clause-told : goal.returns-clause-told
returns-clause-told c = λ w u m b s messages brought step stands objects carries says cuts.
    let q = c.args.self.now.member in
    let xs = c.args.sendings.items in
    let v = world_then m b s xs q step in
    let same = sym (c.host-host.ensures ∙ ap (λ (x : Vat). x.host) c.vat.ensures) in
    c.in_ok-outgoing.ensures.told v w u m.names s m.vat b.connections messages brought
    (subst (λ (h : Host). IsAfter v h s) same (is_after m b s xs q step))
    stands objects carries
    (subst (λ (h : Host). Says h.inside.words c.args.told brought) same says)
    cuts step.leaves.sends step.leaves.fits
