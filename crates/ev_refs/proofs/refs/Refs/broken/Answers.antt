use Rattle.ev_refs.proofs.Tells.{breaks, broken_so}
use Rattle.ev_refs.proofs.refs.Refs.broken.Goals as goal

pub returns : goal.returns
returns c = record {
  is = broken_so c.args.self.now c.args.value c.deref.result c.broken_of.result c.deref.ensures c.broken_of.ensures;
  means = breaks c.args.self.now c.args.value c.deref.result c.broken_of.result c.deref.ensures c.broken_of.ensures;
}
