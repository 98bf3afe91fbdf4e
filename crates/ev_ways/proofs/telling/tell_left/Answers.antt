use Rattle.std.proofs.Common.{[], ◌∷◌, ◌++◌, ap, ◌∙◌}
use Rattle.def_event.specs.declared.event.Event.TheVariants.{LeftLink}
use Rattle.def_event.specs.declared.note.ShownNote.{ShownNote}
use Rattle.ev_ways.proofs.Tellings.{shrunk, left_all, left_next}
use Rattle.ev_ways.proofs.telling.tell_left.Goals as goal

pub loop-label-preserved : goal.loop-label-preserved
loop-label-preserved c = left_next c.args.from c.args.to c.loop-label.history c.push.new.self c.in-Some.label c.pop_front.new.self.items c.loop-label.labels.items c.in-Some.ensures.items (c.in_ok-push.ensures.ok ∙ ap (λ (n : ShownNote). c.loop-label.history ++ LeftLink c.args.from c.args.to n ∷ []) c.in_ok-note.ensures) ∙ c.loop-label.invariant

pub returns : goal.returns
returns c = left_all c.args.from c.args.to c.loop-label.history _ c.loop-label.labels.items (shrunk c.loop-label.labels.items (c.in_default.ensures.items ∙ c.in_default.ensures.rest)) c.loop-label.invariant
