use Rattle.std.proofs.Common.{List, [], ◌∷◌, ◌++◌, ap, ◌∙◌}
use Rattle.ev_parser.specs.declared.draft.Waiting.{Waiting}
use Rattle.ev_parser.specs.declared.draft.Waiting.TheVariants as waits
use Rattle.ev_parser.proofs.Stacks.{inside_fits, inside_framed}
use Rattle.ev_parser.proofs.frames.Frames.push_inside.Goals as goal

pub invariant_of-self-in-Ok : goal.invariant_of-self-in-Ok
invariant_of-self-in-Ok c = inside_fits _ _ _ _ _ c.in_ok-push.ensures.items c.in-Ok.ensures.items c.self.invariant

pub returns-in-Ok-clause-ok : goal.returns-in-Ok-clause-ok
returns-in-Ok-clause-ok c = inside_framed _ _ _ _ _ c.in_ok-push.ensures.items c.in-Ok.ensures.items c.self.invariant ∙ ap (λ (ws : List Waiting). ws ++ waits.Inside c.args.stand ∷ []) c.self.view_is
