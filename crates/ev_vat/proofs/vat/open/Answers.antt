use Rattle.ev_base.specs.declared.values.Value.TheVariants.{Null}
use Rattle.ev_room.specs.Reading.{roots_from}
use Rattle.ev_vat.proofs.Steps.{begun_sound, opens, opens_grown, opens_stays, opens_sound}
use Rattle.ev_vat.proofs.vat.open.Goals as goal

pub run_program-requires : goal.run_program-requires
run_program-requires c = record { sound = begun_sound Null c.args.inside.now c.begin.new.inside c.in_ok-act.act c.requires.sound c.in_ok-act.ensures }

pub returns-clause-step : goal.returns-clause-step
returns-clause-step c =
    opens c.args.inside.now c.begin.new.inside c.run_program.new.inside c.close.new.inside c.args.program.now c.args.depth c.in_ok-act.act (roots_from 1 c.args.nouns.now) c.in_ok-ended.ended c.close.result
    c.requires.sound c.in_ok-act.ensures c.in_ok-ended.ensures.turn c.in_ok-ended.ensures.grown c.in_ok-ended.ensures.stays c.in_ok-ended.ensures.left c.in_ok-ended.ensures.there c.close.ensures

pub returns-clause-grown : goal.returns-clause-grown
returns-clause-grown c =
    opens_grown c.args.inside.now c.begin.new.inside c.run_program.new.inside c.close.new.inside c.args.program.now c.args.depth c.in_ok-act.act (roots_from 1 c.args.nouns.now) c.in_ok-ended.ended c.close.result
    c.requires.sound c.in_ok-act.ensures c.in_ok-ended.ensures.turn c.in_ok-ended.ensures.grown c.in_ok-ended.ensures.stays c.in_ok-ended.ensures.left c.in_ok-ended.ensures.there c.close.ensures

pub returns-clause-stays : goal.returns-clause-stays
returns-clause-stays c =
    opens_stays c.args.inside.now c.begin.new.inside c.run_program.new.inside c.close.new.inside c.args.program.now c.args.depth c.in_ok-act.act (roots_from 1 c.args.nouns.now) c.in_ok-ended.ended c.close.result
    c.requires.sound c.in_ok-act.ensures c.in_ok-ended.ensures.turn c.in_ok-ended.ensures.grown c.in_ok-ended.ensures.stays c.in_ok-ended.ensures.left c.in_ok-ended.ensures.there c.close.ensures

pub returns-clause-sound : goal.returns-clause-sound
returns-clause-sound c =
    opens_sound c.args.inside.now c.begin.new.inside c.run_program.new.inside c.close.new.inside c.args.program.now c.args.depth c.in_ok-act.act (roots_from 1 c.args.nouns.now) c.in_ok-ended.ended c.close.result
    c.requires.sound c.in_ok-act.ensures c.in_ok-ended.ensures.turn c.in_ok-ended.ensures.grown c.in_ok-ended.ensures.stays c.in_ok-ended.ensures.left c.in_ok-ended.ensures.there c.close.ensures
