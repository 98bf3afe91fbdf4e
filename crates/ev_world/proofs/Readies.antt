-- Each vat is ready for its next step.
use Rattle.std.proofs.Common.{◌≡◌, ◌⊎◌, inl, inr, ℕ, ◌<◌, List, Some, length, sym, ap, subst, ◌∙◌}
use Rattle.std.specs.Prelude.{slice_get, slice_set}
use Rattle.std.proofs.lemmas.List.{length-set}
use Rattle.ev_resident.specs.declared.Member.{Member}
use Rattle.ev_resident.specs.declared.resident.Resident.{Resident}
use Rattle.ev_resident.specs.Vat.{IsReady}
use Rattle.ev_world.specs.Exporting.{AreTold}
use Rattle.ev_world.specs.Standing.{AreReady}
use Rattle.ev_world.proofs.Objects.{is_within, same_or_not, set_other, set_there}
use Rattle.ev_world.proofs.Telling.{only, stands}

-- the others stay as they were
pub set_ready : (rs : List Resident) (u : ℕ) (q : Resident) → AreReady rs → IsReady q.member.vat → AreReady (slice_set rs u q)
set_ready rs u q all one = λ h x f. by h x f (same_or_not u h)
  where
    by : (h : ℕ) (x : Resident) → slice_get (slice_set rs u q) h ≡ Some x → (u ≡ h) ⊎ (u ≡ h → ⊥) → IsReady x.member.vat
    by h x f (inl i) =
        let less : h < length rs = subst (λ (n : ℕ). h < n) (length-set rs u q) (is_within (slice_set rs u q) h x f) in
        let there : slice_get (slice_set rs u q) u ≡ Some q = set_there rs u q (subst (λ (j : ℕ). j < length rs) (sym i) less) in
        subst (λ (z : Resident). IsReady z.member.vat) (only there (ap (slice_get (slice_set rs u q)) i ∙ f)) one
    by h x f (inr ne) = all h x (sym (set_other rs u h q ne) ∙ f)

-- what is told to a vat changes its names alone
pub told_ready : (u : ℕ) (c : Member) (before : List ℕ) (rs qs : List Resident) → AreTold u c before (length rs) rs qs → AreReady rs → AreReady qs
told_ready u c before rs qs are all = λ h x f.
    let within : h < length rs = subst (λ (n : ℕ). h < n) are.same (is_within qs h x f) in
    let z = stands rs h within in
    subst (λ (y : Resident). IsReady y.member.vat) (sym (only f (are.told h z.0 z.1 within))) (all h z.0 z.1)
