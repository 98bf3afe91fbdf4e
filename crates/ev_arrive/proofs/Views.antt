-- Where a gift is, and whether a link was noticed as cut.
use Rattle.std.proofs.Common.{◌≡◌, ◌==◌, ◌∙◌, ℕ, Bool, true, false, sym, ap, subst}
use Rattle.std.specs.Prelude.{Result, if◌then◌else◌}
use Rattle.def_machine.specs.State.{is_in}
use Rattle.ev_pass.specs.declared.interior.Stop.{Stop}
use Rattle.ev_arrive.specs.Acts.{Gives, Out}
use Rattle.ev_arrive.specs.Breaking.{break_name}
use Rattle.ev_arrive.specs.Hosting.{have_gift}
use Rattle.ev_arrive.specs.Viewing.{ask_there, gift_there, settled_at, view_there}
use Rattle.ev_arrive.specs.declared.host.Host.{Host}

module _ (v h c i : ℕ) (k u : Host) (r : Result ℕ Stop) where
  by_test : (b : Bool) → (c == v) ≡ b → gift_there v h c i k ≡ (if b then have_gift h i else ask_there h c i) k
  unfolding gift_there
  by_test b e = ap (λ (x : Bool). (if x then have_gift h i else ask_there h c i) k) e

  pub here : (c == v) ≡ true → Gives r u (have_gift h i k) → Gives r u (gift_there v h c i k)
  here e g = subst (λ (o : Out ℕ). Gives r u o) (sym (by_test true e)) g

  pub there : (c == v) ≡ false → Gives r u (ask_there h c i k) → Gives r u (gift_there v h c i k)
  there e g = subst (λ (o : Out ℕ). Gives r u o) (sym (by_test false e)) g

module _ (n c : ℕ) (k u : Host) (r : Result (Unit {0}) Stop) (b : Bool) (is : b ≡ is_in c k.inside.refs.noticed) where
  by_notice : (x : Bool) → b ≡ x → settled_at n c k ≡ (if x then break_name n else view_there n c) k
  unfolding settled_at
  by_notice x e = ap (λ (y : Bool). (if y then break_name n else view_there n c) k) (sym is ∙ e)

  pub gone : b ≡ true → Gives r u (break_name n k) → Gives r u (settled_at n c k)
  gone e g = subst (λ (o : Out (Unit {0})). Gives r u o) (sym (by_notice true e)) g

  pub not_gone : b ≡ false → Gives r u (view_there n c k) → Gives r u (settled_at n c k)
  not_gone e g = subst (λ (o : Out (Unit {0})). Gives r u o) (sym (by_notice false e)) g
