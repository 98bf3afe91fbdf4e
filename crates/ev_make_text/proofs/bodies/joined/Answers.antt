use Rattle.std.proofs.Common.{◌∷◌, ◌++◌, ◌-◌, ◌∙◌, ap, rules, take, drop, length}
use Rattle.std.specs.List.{flat_map}
use Rattle.ev_make_text.proofs.Lists.{joined_whole}
use Rattle.ev_make_text.proofs.bodies.joined.Goals as goal

pub returns : goal.returns
returns c = joined_whole 10 c.args.parts.now c.first-item.result c.push_parts.new.out c.in-len1-up.len_at_least c.first-item.is
    (c.in_ok-push_parts.ensures ∙ ap (λ x. x ++ flat_map (λ p. 10 ∷ p) (take (length c.args.parts.now - 1) (drop 1 c.args.parts.now))) (search rules))
