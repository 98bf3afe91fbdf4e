use Rattle.def_machine.specs.Calls as calls
use Rattle.def_machine.specs.Eval as theirs
use Rattle.ev_room.specs.Reading.{names, value_of, values_of}
use Rattle.ev_steps.specs.Steps.{evaluator, turn_value}
use Rattle.ev_vat.proofs.Turns.{message_met, ran}
use Rattle.ev_vat.proofs.turn.run_message.Goals as goal

pub returns : goal.returns
returns c =
    let r = ran c.args.inside.now c.take_message-outcome.new.room (turn_value c.args.program.now (evaluator c.args.program.now c.args.depth) c.args.act c.args.target c.args.verb.now c.args.args.now c.args.inside.now)
    (λ w. calls.turn_value (names w) c.args.program.now (theirs.evaluator (names w) c.args.program.now c.args.depth) c.args.act (value_of w c.args.target) c.args.verb.now (values_of w c.args.args.now))
    (message_met c.args.program.now c.args.depth c.args.act c.args.inside.now c.requires.sound c.args.target c.args.verb.now c.args.args.now c.requires.target c.requires.args)
    c.take_message-outcome.result c.ending.result c.take_message-outcome.ensures.outcome c.ending.ensures in
    record { turn = r.turn; grown = r.grown; stays = r.stays; left = r.left; there = r.there }
