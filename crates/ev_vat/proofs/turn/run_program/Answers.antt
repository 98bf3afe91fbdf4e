use Rattle.std.proofs.Common.{List, subst}
use Rattle.std.specs.Prelude.{reverse}
use Rattle.ev_vat.specs.Turn.{bonds_from, evaluated}
use Rattle.ev_room.specs.Acts.{Gives}
use Rattle.ev_room.specs.Reading.{names, roots_from}
use Rattle.ev_room.specs.declared.scope.Binding.{Binding}
use Rattle.ev_steps.specs.Steps.{alone, evaluator}
use Rattle.ev_vat.proofs.Turns.{program_met, ran}
use Rattle.ev_vat.proofs.turn.run_program.Goals as goal

pub returns : goal.returns
returns c =
    let r = ran c.args.inside.now c.evaluated-outcome.new.inside
    (alone (evaluator c.args.program.now c.args.depth) 0 (record { act = c.args.act; nouns = reverse (bonds_from 1 c.args.nouns.now) }) c.args.inside.now)
    (λ w. evaluated (names w) c.args.program.now c.args.depth (roots_from 1 c.args.nouns.now) c.args.act)
    (program_met c.args.program.now c.args.depth c.args.act c.args.inside.now c.requires.sound c.args.nouns.now)
    c.evaluated-outcome.result c.ending.result
    (subst (λ (bs : List Binding). Gives c.evaluated-outcome.result c.evaluated-outcome.new.inside (alone (evaluator c.args.program.now c.args.depth) 0 (record { act = c.args.act; nouns = bs }) c.args.inside.now))
    c.in_ok-bound.ensures c.evaluated-outcome.ensures.outcome)
    c.ending.ensures in
    record { turn = r.turn; grown = r.grown; stays = r.stays; left = r.left; there = r.there }
