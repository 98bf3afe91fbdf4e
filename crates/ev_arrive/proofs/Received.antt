-- What comes in by what it tells, and by where it would lead.
use Rattle.std.proofs.Common.{◌≡◌, ◌∙◌, ℕ, Bool, true, false, Ok, refl, sym, ap, subst}
use Rattle.std.specs.Prelude.{Result}
use Rattle.ev_pass.specs.declared.interior.Stop.{Stop}
use Rattle.ev_arrive.specs.Acts.{Gives, Out, give}
use Rattle.ev_arrive.specs.Noting.{arrive}
use Rattle.ev_arrive.specs.Receiving.{break_back, leads_back, receive, receive_by, tells_nothing}
use Rattle.ev_arrive.specs.declared.brought.Heard.{Heard}
use Rattle.ev_arrive.specs.declared.host.Host.{Host}
use Rattle.ev_arrive.specs.declared.receiving.Sight.{Sight}

module _ (from : ℕ) (see : Sight) (note : Heard) (h : Host) (a : Bool) (is : a ≡ tells_nothing from see note h) where
  by_tests : (b x y : Bool) → b ≡ leads_back see note h → a ≡ x → b ≡ y → receive from see note h ≡ receive_by x y from note h
  unfolding receive
  by_tests b x y at e f = ap (λ (z : Bool). receive_by z (leads_back see note h) from note h) (sym is ∙ e) ∙ ap (λ (z : Bool). receive_by x z from note h) (sym at ∙ f)

  pub nothing : a ≡ true → receive from see note h ≡ (Ok tt, h)
  unfolding receive_by give
  nothing e = by_tests (leads_back see note h) true (leads_back see note h) refl e refl

  module _ (u : Host) (r : Result (Unit {0}) Stop) (b : Bool) (at : b ≡ leads_back see note h) where
    pub back : a ≡ false → b ≡ true → Gives r u (break_back note h) → Gives r u (receive from see note h)
    unfolding receive_by
    back e f g = subst (λ (o : Out (Unit {0})). Gives r u o) (sym (by_tests b false true at e f)) g

    pub on : a ≡ false → b ≡ false → Gives r u (arrive from note h) → Gives r u (receive from see note h)
    unfolding receive_by
    on e f g = subst (λ (o : Out (Unit {0})). Gives r u o) (sym (by_tests b false false at e f)) g
