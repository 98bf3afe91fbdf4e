use Rattle.std.proofs.Common.{ℕ, List, ap, subst}
use Rattle.std.proofs.lemmas.Result.{IfOk-weaker}
use Rattle.ev_base.specs.declared.names.Name.{Name}
use Rattle.ev_known.specs.declared.facts.Activation.{Activation}
use Rattle.ev_uses.specs.Using.{DecidesAll}
use Rattle.ev_uses.proofs.Known.{line_decided}
use Rattle.ev_uses.proofs.using.uses_known.Goals as goal

pub returns : goal.returns
returns c past h =
    let by : Activation = record { at = c.args.at; number = c.user-number.result } in
    IfOk-weaker c.are_all_known.result _ _ (
    λ b decides.
    line_decided c.args.knowledge.now c.are_all_known.new.knowledge c.args.at c.args.event.now by c.made_label.result b past
    (ap (λ (n : ℕ). record { at = c.args.at; number = n }) c.user-number.ensures) c.made_label.ensures
    (subst (λ (ns : List Name). DecidesAll c.args.knowledge.now c.are_all_known.new.knowledge by c.made_label.result ns b) c.values_used.ensures decides) h
    ) c.are_all_known.ensures
