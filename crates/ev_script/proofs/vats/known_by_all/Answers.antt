use Rattle.std.proofs.Common.{arith}
use Rattle.ev_script.proofs.KnownLemmas.{goes, stops, ends, known_same}
use Rattle.ev_script.proofs.vats.known_by_all.Goals as goal

pub returns-in_default : goal.returns-in_default
returns-in_default c =
    stops c.args.names.now c.vat-item.result c.loop-vat.scripts _ c.args.vats.now c.loop-vat.vat-index c.loop-vat-test.true
    c.vat-item.is c.loop-vat.invariant.1
    (known_same c.args.names.now c.loop-vat.place c.loop-vat.vat-index c.as_slice.result.now c.vat-item.result.knows _ _ c.loop-vat.invariant.0 c.as_slice.ensures c.in_ok-knows.ensures c.in_default.is)

pub loop-vat-preserved : goal.loop-vat-preserved
loop-vat-preserved c = (
  omega (arith, c.loop-vat.invariant.0),
  goes c.args.names.now c.vat-item.result c.in-Some.knows c.loop-vat.scripts _ _ c.args.vats.now c.loop-vat.vat-index
      c.loop-vat-test.true c.vat-item.is c.loop-vat.invariant.1
      (known_same c.args.names.now c.loop-vat.place c.loop-vat.vat-index c.as_slice.result.now c.vat-item.result.knows _ _ c.loop-vat.invariant.0 c.as_slice.ensures c.in_ok-knows.ensures c.in-Some.is)
      (cc (c.in_ok-push.ensures.ok, c.in_ok-copy_of.ensures, c.in_ok-copy_of-2.ensures)),
)

pub returns : goal.returns
returns c = ends c.args.names.now c.loop-vat.scripts _ c.args.vats.now c.loop-vat.vat-index c.loop-vat-test.false c.loop-vat.invariant.1
