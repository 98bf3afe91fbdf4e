use Rattle.std.proofs.Common.{ap, ◌∙◌}
use Rattle.ev_wire.specs.declared.learnt.LearntKey.{LearntKey}
use Rattle.ev_wire.specs.Learnt.{put}
use Rattle.ev_wire.proofs.LearntLemmas.{gift_of, gifts_of, put_insert}
use Rattle.ev_wire.proofs.learnt.LearntTable.put.Goals as goal

pub returns-clause-ok : goal.returns-clause-ok
returns-clause-ok c =
    let key : LearntKey = record { host = c.args.host; provider = c.args.provider; word = c.args.word } in
    ap gifts_of c.in_ok-insert.ensures.entries ∙ put_insert key c.args.name c.self.inside.names.entries ∙ ap (put (gift_of (key, c.args.name))) c.self.view_is
