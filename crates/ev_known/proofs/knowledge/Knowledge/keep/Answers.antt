use Rattle.std.proofs.Common.{◌≡◌, true, sym, ap, subst, ◌∙◌}
use Rattle.std.proofs.lemmas.Result.{on_ok_weaker}
use Rattle.ev_known.specs.Knowing.{Known, KnownStand, is_led}
use Rattle.ev_known.proofs.Knowing.{kept_stand}
use Rattle.ev_known.proofs.knowledge.Knowledge.keep.Goals as goal

pub returns : goal.returns
returns c past h =
    let k : Known
    = record { facts = c.self.inside.facts; following = c.self.inside.following; runs = c.self.inside.runs; links = c.self.inside.links; marks = c.self.inside.marks; found = c.self.inside.found } in
    let inside : KnownStand k past = subst (λ (x : Known). KnownStand x past) (sym c.self.view_is) h in
    let led : is_led k c.args.activation c.args.label ≡ true
    = ap (λ (x : Known). is_led x c.args.activation c.args.label) c.self.view_is ∙ sym c.is_led.ensures ∙ c.if-not-is_led.false in
    on_ok_weaker c.add.result (kept_stand k past c.args.activation c.args.label c.add.new.self inside led) c.add.ensures
