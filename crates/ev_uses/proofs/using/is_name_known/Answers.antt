use Rattle.std.proofs.Common.{◌≡◌, true, false, Some, sym, ap, ◌∙◌}
use Rattle.ev_links.specs.declared.label.Label.{Label}
use Rattle.ev_uses.proofs.Known.{made_decides, name_found}
use Rattle.ev_uses.proofs.using.is_name_known.Goals as goal

pub returns-then-is_made : goal.returns-then-is_made
returns-then-is_made c =
    made_decides c.args.knowledge.now c.args.activation c.args.made c.args.name.now (c.is_made.ensures.0 c.if-is_made.true ∙ ap (λ (l : Label). Some l) c.name_label.ensures)

pub returns : goal.returns
returns c =
    name_found c.knows.result c.args.knowledge.now c.knows.new.self c.args.activation c.args.made c.args.name.now
    (λ e. let made = c.is_made.ensures.1 (e ∙ ap (λ (l : Label). Some l) (sym c.name_label.ensures)) in
    let bad : true ≡ false = sym made ∙ c.if-is_made.false in absurd cc)
    c.knows.ensures
