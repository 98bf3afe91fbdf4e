use Rattle.std.proofs.Common.{◌≡◌, ◌++◌, List, Ok, subst}
use Rattle.ev_base.specs.declared.values.Value.{Value as Held}
use Rattle.def_machine.specs.Calls.{turn_value}
use Rattle.def_machine.specs.Eval.{evaluator}
use Rattle.def_machine.specs.Values.{Words}
use Rattle.ev_vat.specs.Turn.{Ends, turn_of}
use Rattle.ev_room.specs.Reading.{World, names, texts_of, value_of, values_of, vat_of}
use Rattle.ev_vat.proofs.Steps.{told_sound, takes, takes_grown, takes_stays, takes_sound}
use Rattle.ev_vat.proofs.vat.take.Goals as goal

pub run_message-requires-clause-sound : goal.run_message-requires-clause-sound
run_message-requires-clause-sound c = told_sound c.args.message.now c.args.inside.now c.begin.new.inside c.tell_taken.new.inside c.in_ok-act.act c.requires.sound c.in_ok-act.ensures c.in_ok-tell_taken.ensures

-- what was run, of the arguments of the message
ran : (c : goal.After-close) (w : World) (rest : List Words) → texts_of w ≡ c.run_message.new.inside.heap.texts ++ rest → c.tell_taken.new.inside.words.key ≡ w.key
    → Ends w (Ok c.in_ok-ended.ended) c.run_message.new.inside
    (turn_of (turn_value (names w) c.args.program.now (evaluator (names w) c.args.program.now c.args.depth) c.in_ok-act.act (value_of w c.args.message.now.target) c.args.message.now.verb (values_of w c.args.message.now.args))
    (vat_of w c.tell_taken.new.inside))
ran c w rest before key =
    subst (λ (vs : List Held). Ends w (Ok c.in_ok-ended.ended) c.run_message.new.inside
    (turn_of (turn_value (names w) c.args.program.now (evaluator (names w) c.args.program.now c.args.depth) c.in_ok-act.act (value_of w c.args.message.now.target) c.args.message.now.verb (values_of w vs))
    (vat_of w c.tell_taken.new.inside)))
    c.as_slice.ensures (c.in_ok-ended.ensures.turn w rest before key)

pub returns-clause-step : goal.returns-clause-step
returns-clause-step c =
    takes c.args.message.now c.args.inside.now c.begin.new.inside c.tell_taken.new.inside c.in_ok-act.act c.requires.sound c.in_ok-act.ensures c.in_ok-tell_taken.ensures
    c.run_message.new.inside c.close.new.inside c.args.program.now c.args.depth c.in_ok-ended.ended c.close.result
    (ran c) c.in_ok-ended.ensures.grown c.in_ok-ended.ensures.stays c.in_ok-ended.ensures.left c.in_ok-ended.ensures.there c.close.ensures

pub returns-clause-grown : goal.returns-clause-grown
returns-clause-grown c =
    takes_grown c.args.message.now c.args.inside.now c.begin.new.inside c.tell_taken.new.inside c.in_ok-act.act c.requires.sound c.in_ok-act.ensures c.in_ok-tell_taken.ensures
    c.run_message.new.inside c.close.new.inside c.args.program.now c.args.depth c.in_ok-ended.ended c.close.result
    (ran c) c.in_ok-ended.ensures.grown c.in_ok-ended.ensures.stays c.in_ok-ended.ensures.left c.in_ok-ended.ensures.there c.close.ensures

pub returns-clause-stays : goal.returns-clause-stays
returns-clause-stays c =
    takes_stays c.args.message.now c.args.inside.now c.begin.new.inside c.tell_taken.new.inside c.in_ok-act.act c.requires.sound c.in_ok-act.ensures c.in_ok-tell_taken.ensures
    c.run_message.new.inside c.close.new.inside c.args.program.now c.args.depth c.in_ok-ended.ended c.close.result
    (ran c) c.in_ok-ended.ensures.grown c.in_ok-ended.ensures.stays c.in_ok-ended.ensures.left c.in_ok-ended.ensures.there c.close.ensures

pub returns-clause-sound : goal.returns-clause-sound
returns-clause-sound c =
    takes_sound c.args.message.now c.args.inside.now c.begin.new.inside c.tell_taken.new.inside c.in_ok-act.act c.requires.sound c.in_ok-act.ensures c.in_ok-tell_taken.ensures
    c.run_message.new.inside c.close.new.inside c.args.program.now c.args.depth c.in_ok-ended.ended c.close.result
    (ran c) c.in_ok-ended.ensures.grown c.in_ok-ended.ensures.stays c.in_ok-ended.ensures.left c.in_ok-ended.ensures.there c.close.ensures
