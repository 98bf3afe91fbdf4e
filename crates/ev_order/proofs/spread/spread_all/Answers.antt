-- Each step spreads one seed.
use Rattle.std.proofs.Common.{None}
use Rattle.std.proofs.lemmas.Option.{slice_get-get_or}
use Rattle.ev_order.proofs.Labelling.{next_seed, no_labels_yet, all_seeds}
use Rattle.ev_order.proofs.spread.spread_all.Goals as goal

pub loop-label-init : goal.loop-label-init
loop-label-init c = no_labels_yet c.args.places.now c.args.seeds.now c.args.labels.now c.requires.length c.requires.free

pub loop-label-preserved : goal.loop-label-preserved
loop-label-preserved c = next_seed c.args.places.now c.args.seeds.now c.loop-label.labels c.spread_seed.new.labels c.loop-label.label _ c.loop-label.invariant (slice_get-get_or c.args.seeds.now c.loop-label.label None c.loop-label-test.true) c.in_ok-spread_seed.ensures

pub returns : goal.returns
returns c = all_seeds c.args.places.now c.args.seeds.now c.loop-label.labels c.loop-label.label c.loop-label.invariant c.loop-label-test.false
