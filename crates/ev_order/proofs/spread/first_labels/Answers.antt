-- No place has a label at first, and what the seeds label stands in the vector.
use Rattle.std.proofs.Common.{◌≡◌, None, length, sym, ◌∙◌, ap, subst, drop}
use Rattle.std.proofs.Math.ListN.{replicate, length-replicate}
use Rattle.std.proofs.lemmas.List.{take_at}
use Rattle.ev_order.specs.Spread.{HasFirstLabels}
use Rattle.ev_order.proofs.Labelling.{all_free, grown}
use Rattle.ev_order.proofs.spread.first_labels.Goals as goal

pub spread_all-requires : goal.spread_all-requires
spread_all-requires c =
    let is : c.deref_mut.result.now ≡ replicate (length c.args.places.now) None = c.deref_mut.ensures.value ∙ c.in_ok-resize.ensures.items ∙ grown (length c.args.places.now) _ c.new-labels.result.items c.new-labels.ensures.items c.new-labels.ensures.len in
    record {
      length = ap length is ∙ length-replicate (length c.args.places.now) None;
      free = all_free (length c.args.places.now) c.deref_mut.result.now is;
    }

pub returns : goal.returns
returns c =
    let new = c.spread_all.new.labels in
    let same : length new ≡ c.resize.new.self.len = c.spread_all.auto.labels ∙ c.deref_mut.ensures.len in
    subst (HasFirstLabels c.args.places.now c.args.seeds.now) (sym (take_at new (drop (length new) c.resize.new.self.items) c.resize.new.self.len same)) c.in_ok-spread_all.ensures
