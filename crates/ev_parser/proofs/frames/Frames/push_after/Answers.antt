use Rattle.std.proofs.Common.{List, [], ◌∷◌, ◌++◌, ap, ◌∙◌}
use Rattle.ev_parser.specs.declared.draft.Waiting.{Waiting}
use Rattle.ev_parser.specs.declared.draft.Waiting.TheVariants as waits
use Rattle.ev_parser.proofs.Stacks.{after_fits, after_framed}
use Rattle.ev_parser.proofs.frames.Frames.push_after.Goals as goal

pub invariant_of-self-2 : goal.invariant_of-self-2
invariant_of-self-2 c = after_fits _ _ _ c.in_ok-push.ensures.items ∙ c.self.invariant

pub returns-clause-ok : goal.returns-clause-ok
returns-clause-ok c = after_framed _ _ _ _ c.in_ok-push.ensures.items c.self.invariant ∙ ap (λ (ws : List Waiting). ws ++ waits.After c.args.tail ∷ []) c.self.view_is
