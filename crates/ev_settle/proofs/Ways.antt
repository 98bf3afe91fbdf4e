-- What waits, or is broken since it would wait on itself.
use Rattle.std.proofs.Common.{◌≡◌, ℕ, Bool, true, false, length, sym, ap, ◌∙◌, subst}
use Rattle.std.specs.Prelude.{Result, if◌then◌else◌}
use Rattle.ev_base.specs.declared.values.Value.{Value}
use Rattle.ev_base.specs.declared.values.Value.TheVariants as held
use Rattle.ev_pass.specs.Acts.{Out, Gives}
use Rattle.ev_pass.specs.declared.interior.Interior.{Interior}
use Rattle.ev_pass.specs.declared.interior.Stop.{Stop}
use Rattle.ev_refs.specs.Waiting.{waits_lead}
use Rattle.ev_settle.specs.Changes.{wait_on}
use Rattle.ev_settle.specs.Resolving.{wait_unless_cycle}
use Rattle.ev_settle.specs.Settling.{settle}

module _ (p q : ℕ) (s u : Interior) (r : Result (Unit {0}) Stop) (b : Bool) where
  pub back : (v : Value) → b ≡ waits_lead (length s.refs.known) s.refs.known p q → b ≡ true → v ≡ held.Broken s.refs.cycle → Gives r u (settle p v s) → Gives r u (wait_unless_cycle p q s)
  unfolding wait_unless_cycle
  back v e h is g =
      let goes : wait_unless_cycle p q s ≡ settle p v s =
      ap (λ (x : Bool). (if x then settle p (held.Broken s.refs.cycle) else wait_on p q) s) (sym e ∙ h) ∙ ap (λ (x : Value). settle p x s) (sym is) in
      subst (λ (o : Out (Unit {0})). Gives r u o) (sym goes) g

  pub on : b ≡ waits_lead (length s.refs.known) s.refs.known p q → b ≡ false → Gives r u (wait_on p q s) → Gives r u (wait_unless_cycle p q s)
  unfolding wait_unless_cycle
  on e h g =
      let goes : wait_unless_cycle p q s ≡ wait_on p q s = ap (λ (x : Bool). (if x then settle p (held.Broken s.refs.cycle) else wait_on p q) s) (sym e ∙ h) in
      subst (λ (o : Out (Unit {0})). Gives r u o) (sym goes) g
