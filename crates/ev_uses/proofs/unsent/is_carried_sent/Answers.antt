use Rattle.std.proofs.Common.{ℕ, List, [], Option, sym, ap, subst, ◌∙◌}
use Rattle.std.specs.Prelude.{unwrap_or}
use Rattle.std.proofs.lemmas.Result.{IfOk-weaker}
use Rattle.def_event.specs.Uses.{delivered}
use Rattle.ev_links.specs.declared.label.Label.{Label}
use Rattle.ev_uses.specs.Finding.{found_at}
use Rattle.ev_uses.specs.Lines.{AddsThings, holds, things_with}
use Rattle.ev_uses.specs.Sought.{ReachesSought}
use Rattle.ev_uses.proofs.Deciding.{carried_sought, nothing_carried}
use Rattle.ev_uses.proofs.Finding.{before_is}
use Rattle.ev_uses.proofs.unsent.is_carried_sent.Goals as goal

pub returns-in_default : goal.returns-in_default
returns-in_default c past carried known f o = nothing_carried past (delivered c.args.note.now) (sym c.delivered_message.ensures.all ∙ c.in_default.is)

pub returns : goal.returns
returns c past carried known f o =
    let these = delivered c.args.note.now in
    let found = unwrap_or (found_at holds c.args.events.now c.find.result) [] in
    IfOk-weaker c.reach_sought.result _ _ (
    λ b reached.
    carried_sought c.args.links.now past these c.in-Some.message found c.add_delivered.new.labels c.add_held_at.new.labels c.reach_sought.new.labels b o
    (sym c.delivered_message.ensures.all ∙ c.in-Some.is)
    (subst (λ (ls : List Label). AddsThings (things_with these) ls c.add_delivered.new.labels) carried c.in_ok-add_delivered.ensures)
    (subst (λ (ls : List Label). AddsThings found ls c.add_held_at.new.labels) known c.in_ok-add_held_at.ensures)
    (ap (λ (p : Option ℕ). unwrap_or (found_at holds c.args.events.now p) []) c.find.ensures ∙ before_is c.args.events.now c.args.before.now past c.in-Some.message f)
    (subst (λ (ls : List Label). ReachesSought c.args.links.now c.add_held_at.new.labels c.reach_sought.new.labels ls b) c.as_slice.ensures reached)
    ) c.reach_sought.ensures
