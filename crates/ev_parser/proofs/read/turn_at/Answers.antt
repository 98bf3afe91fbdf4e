use Rattle.std.proofs.Common.{◌∙◌, ap}
use Rattle.ev_parser.specs.Draft.{lead_part}
use Rattle.ev_parser.proofs.Turns.{picked_as, none_picked, turn_takes, turn_open, turn_wraps, turn_stuck, turn_ends, stuck_at, ends_at}
use Rattle.ev_parser.proofs.read.turn_at.Goals as goal

pub returns-in_ok-taken-in-Some-Takes-clause-comes : goal.returns-in_ok-taken-in-Some-Takes-clause-comes
returns-in_ok-taken-in-Some-Takes-clause-comes c = λ o h. turn_takes _ _ c.args.stand c.in_ok-taken-in-Some-Takes.taken _ _ c.in-Some-Takes.next o (picked_as _ _ _ _ _ c.in-Some-Takes.ensures c.moves_of.ensures c.in-Some-Takes.field-0-is) c.in_ok-taken-in-Some-Takes.ensures h

pub returns-in_ok-opened-in-Some-Reads-clause-comes : goal.returns-in_ok-opened-in-Some-Reads-clause-comes
returns-in_ok-opened-in-Some-Reads-clause-comes c = λ o h. turn_open _ _ _ c.args.stand _ c.in-Some-Reads.line c.in-Some-Reads.next _ o (picked_as _ _ _ _ _ c.in-Some-Reads.ensures c.moves_of.ensures c.in-Some-Reads.field-0-is) c.in_ok-opened-in-Some-Reads.ensures h

pub returns-in_ok-wrapped-in-Some-Wraps-clause-comes : goal.returns-in_ok-wrapped-in-Some-Wraps-clause-comes
returns-in_ok-wrapped-in-Some-Wraps-clause-comes c = λ o h. turn_wraps _ _ _ c.args.stand c.in_ok-wrapped-in-Some-Wraps.wrapped _ _ _ c.in-Some-Wraps.shape c.in-Some-Wraps.next _ o (picked_as _ _ _ _ _ c.in-Some-Wraps.ensures c.moves_of.ensures c.in-Some-Wraps.field-0-is) (c.lead_of-lead.ensures ∙ ap lead_part c.deref.ensures.value) c.in_ok-tree-in-Some-Wraps.ensures c.in_ok-wrapped-in-Some-Wraps.ensures h

pub returns-in-None-ends_before-clause-comes : goal.returns-in-None-ends_before-clause-comes
returns-in-None-ends_before-clause-comes c = λ o h. turn_stuck _ _ c.args.stand _ o (stuck_at c.args.stand.place c.args.word (none_picked _ _ _ c.in-None.ensures c.moves_of.ensures) c.in-None-ends_before.ensures) h

pub returns-in_ok-tree-in-Some-clause-comes : goal.returns-in_ok-tree-in-Some-clause-comes
returns-in_ok-tree-in-Some-clause-comes c = λ o h. turn_ends _ _ _ c.args.stand _ c.in-Some.shape _ o (ends_at c.args.stand.place c.args.word c.in-Some.shape (none_picked _ _ _ c.in-None.ensures c.moves_of.ensures) c.in-Some.ensures) c.in_ok-tree-in-Some.ensures h
