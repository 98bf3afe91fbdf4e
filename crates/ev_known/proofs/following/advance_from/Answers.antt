use Rattle.std.proofs.Common.{◌≡◌, false, Some, sym, ap, ◌∙◌}
use Rattle.def_event.specs.Uses.{is_object}
use Rattle.ev_known.specs.Following.{is_object_label}
use Rattle.ev_known.proofs.Naming.{object_label}
use Rattle.ev_known.proofs.following.advance_from.Goals as goal

pub returns-in-To : goal.returns-in-To
returns-in-To c h =
    let other : is_object c.args.name.now ≡ false
    = sym (object_label c.args.name.now) ∙ ap is_object_label (sym c.name_label-from.ensures) ∙ sym c.is_object.ensures ∙ c.if-is_object.false in
    c.advance.ensures c.args.settled.now c.args.name.now (sym c.name_label-from.ensures) other (sym c.find.ensures ∙ c.in-Some.is ∙ ap Some c.in-To.is) h
