use Rattle.std.proofs.Common.{ap, ◌∙◌}
use Rattle.ev_wire.specs.declared.learnt.LearntKey.{LearntKey}
use Rattle.ev_wire.specs.Learnt.{find}
use Rattle.ev_wire.proofs.LearntLemmas.{find_lookup}
use Rattle.ev_wire.proofs.learnt.LearntTable.seen.Goals as goal

pub returns-in-Some : goal.returns-in-Some
returns-in-Some c =
    let key : LearntKey = record { host = c.args.host; provider = c.args.provider; word = c.args.word } in
    (c.in-Some.ensures ∙ c.get.ensures.value) ∙ find_lookup key c.self.inside.names.entries ∙ ap (find c.args.host c.args.provider c.args.word) c.self.view_is

pub returns-in-None : goal.returns-in-None
returns-in-None c =
    let key : LearntKey = record { host = c.args.host; provider = c.args.provider; word = c.args.word } in
    (c.in-None.ensures ∙ c.get.ensures.value) ∙ find_lookup key c.self.inside.names.entries ∙ ap (find c.args.host c.args.provider c.args.word) c.self.view_is
