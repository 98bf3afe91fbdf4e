use Rattle.ev_pass.proofs.Packs.{told_on}
use Rattle.ev_pass.proofs.interior.Interior.inform.Goals as goal

pub returns : goal.returns
returns c =
    told_on c.args.name c.args.vat c.is_noticed.result c.deref-end.result c.place-place.result c.args.self.now c.inform_at.new.self c.inform_at.result c.is_noticed.ensures c.if-is_noticed.false c.deref-end.ensures c.place-place.ensures c.inform_at.ensures
