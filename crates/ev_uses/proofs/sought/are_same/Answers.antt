use Rattle.std.proofs.Common.{◌≡◌, true, subst}
use Rattle.std.specs.Bool.{Decides}
use Rattle.std.proofs.lemmas.Slice.Eq.{slice_eq-Decides}
use Rattle.ev_links.specs.declared.label.Label.{Label}
use Rattle.ev_links.specs.contracts.label.LabelPartialEq.TheImpl.{eq-value}
use Rattle.ev_links.proofs.Spreading.{exact_label}
use Rattle.ev_uses.proofs.sought.are_same.Goals as goal

label_decides : (a b : Label) → Decides (eq-value.it a b) (a ≡ b)
label_decides a b = (exact_label.same a b, λ e. subst (λ (x : Label). eq-value.it a x ≡ true) e (exact_label.itself a))

pub returns : goal.returns
returns c = slice_eq-Decides {E = eq-value.it} label_decides c.args.labels.now c.args.others.now c.eq.result c.eq.ensures
