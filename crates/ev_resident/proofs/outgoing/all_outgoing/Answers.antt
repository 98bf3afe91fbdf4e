use Rattle.std.proofs.Common.{Some, length, refl, sym, ap, ◌∙◌}
use Rattle.std.proofs.lemmas.Bool.{ltb-true}
use Rattle.std.proofs.lemmas.Option.{slice_get-get_or}
use Rattle.ev_pass.specs.declared.post.Put.{Put}
use Rattle.ev_resident.specs.Framing.{all_outgoing}
use Rattle.ev_resident.proofs.Framing.{goes_on}
use Rattle.ev_resident.proofs.outgoing.all_outgoing.Goals as goal

pub loop-sending-init : goal.loop-sending-init
loop-sending-init c = (unfold all_outgoing in c.new-out.ensures.items, refl)

pub loop-sending-preserved : goal.loop-sending-preserved
loop-sending-preserved c =
    goes_on c.args.noting.now c.loop-sending.yielded c.args.puts.now c.in-Some.sending c.in-Some-get.put.now c.loop-sending.index c.loop-sending.out.items c.push.new.self.items
    c.in_ok-outgoing_of.field-0 (slice_get-get_or c.args.puts.now c.loop-sending.index c.in-Some-get.put.now (ltb-true c.loop-sending.index (length c.args.puts.now) (sym c.in-Some-get.ensures.lookup.0)) ∙ ap (λ (p : Put). Some p) (sym c.in-Some-get.ensures.lookup.1)) c.in_ok-outgoing_of.ensures c.in_ok-push.ensures.items c.loop-sending.invariant
