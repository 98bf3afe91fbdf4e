use Rattle.ev_sturdy.specs.Answers.{earlier}
use Rattle.ev_sturdy.proofs.Earlier.{earlier_none, earlier_some, registers_so, stops_so}
use Rattle.ev_sturdy.proofs.answers.registering.Goals as goal

pub returns-in_ok-registered-in-Ok-clause-gives : goal.returns-in_ok-registered-in-Ok-clause-gives
returns-in_ok-registered-in-Ok-clause-gives c =
    let words = c.args.words.now in
    registers_so words.key words.count c.args.object c.args.sturdy.now c.registered.new.sturdy _ c.in-Ok.swiss (earlier words.key words.count)
    (earlier_none words c.in-Ok.ensures.differs) c.in-Ok.ensures.value c.in_ok-registered-in-Ok.ensures

pub returns-in-Err-WordRepeated-clause-gives : goal.returns-in-Err-WordRepeated-clause-gives
returns-in-Err-WordRepeated-clause-gives c =
    let words = c.args.words.now in
    let first = c.in-Err-WordRepeated.first in
    let second = c.in-Err-WordRepeated.second in
    let why = rw c.in-Err-WordRepeated.field-0-is at c.in-Err-WordRepeated.ensures.fault in
    stops_so words.key words.count c.args.object c.args.sturdy.now first second (earlier words.key words.count)
    (earlier_some words first second why) why.0
