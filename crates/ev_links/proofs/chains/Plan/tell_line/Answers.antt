use Rattle.std.proofs.Common.{◌∷◌, sym, subst}
use Rattle.std.specs.Prelude.{OnOk}
use Rattle.def_event.specs.declared.event.Event.{Event}
use Rattle.ev_links.specs.Plan.{IsPlanOf}
use Rattle.ev_links.proofs.Planning.{grown_unsettled}
use Rattle.ev_links.proofs.chains.Plan.tell_line.Goals as goal

pub returns-in-Settle : goal.returns-in-Settle
returns-in-Settle c past h =
    subst (λ (e : Event). OnOk c.settle.result (IsPlanOf (record { at = c.args.at; event = e } ∷ past) c.settle.new.self)) (sym c.in-Settle.is) (c.settle.ensures past h)

pub returns-in_default : goal.returns-in_default
returns-in_default c past h = grown_unsettled past c.args.at c.args.event.now c.args.self.now c.in_default.not-Settle h
