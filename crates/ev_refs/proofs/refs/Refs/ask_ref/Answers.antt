use Rattle.ev_refs.proofs.Tells.{tells, told_so}
use Rattle.ev_refs.proofs.refs.Refs.ask_ref.Goals as goal

pub returns : goal.returns
returns c = record {
  is = told_so c.args.self.now c.args.test c.args.value c.deref-end.result c.place.result c.told.result c.deref-end.ensures c.place.ensures c.told.ensures;
  means = tells c.args.self.now c.args.test c.args.value c.deref-end.result c.place.result c.told.result c.deref-end.ensures c.place.ensures c.told.ensures;
}
