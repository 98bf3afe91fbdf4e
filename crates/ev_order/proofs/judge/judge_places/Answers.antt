-- The answer by the places is that of the trace.
use Rattle.ev_order.proofs.Answered.{fits, ordered_none, overtaken_some, overtaken_none}
use Rattle.ev_order.proofs.Judged.{single_sent}
use Rattle.ev_order.proofs.judge.judge_places.Goals as goal

pub earliest-requires-clause-fit : goal.earliest-requires-clause-fit
earliest-requires-clause-fit c = fits c.args.events.now c.args.places.now c.args.sent.now c.requires.graph c.requires.sent

pub earliest-requires-clause-single : goal.earliest-requires-clause-single
earliest-requires-clause-single c = single_sent c.args.events.now c.args.places.now c.requires.graph c.args.sent.now c.args.taken.now c.requires.sent c.requires.taken

pub returns-in_default : goal.returns-in_default
returns-in_default c = ordered_none c.args.events.now c.args.places.now c.requires.graph c.args.sent.now c.args.taken.now c.requires.sent c.requires.taken c.in_ok-line.field-0 c.in_ok-line.ensures c.in_default.is

pub earlier-requires : goal.earlier-requires
earlier-requires c = fits c.args.events.now c.args.places.now c.args.sent.now c.requires.graph c.requires.sent

pub returns-in-Some-2 : goal.returns-in-Some-2
returns-in-Some-2 c =
    overtaken_some c.args.events.now c.args.places.now c.requires.graph c.args.sent.now c.args.taken.now c.requires.sent c.requires.taken c.in_ok-line.field-0 c.in-Some.line c.in-Some.later c.in_ok-message.field-0 c.in-Some-2.message c.in_ok-line.ensures c.in-Some.is c.in_ok-message.ensures c.in-Some-2.is

pub returns-in-None : goal.returns-in-None
returns-in-None c =
    overtaken_none c.args.events.now c.args.places.now c.requires.graph c.args.sent.now c.args.taken.now c.requires.sent c.requires.taken c.in_ok-line.field-0 c.in-Some.line c.in-Some.later c.in_ok-message.field-0 c.in_ok-line.ensures c.in-Some.is c.in_ok-message.ensures c.in-None.is
