-- Texts of different keys are different.
use Rattle.std.proofs.Common.{◌≡◌, ◌∙◌, ℕ, List, Bool, true, false, refl, ap, sym}
use Rattle.std.specs.Str.{bytes_eq}
use Rattle.std.proofs.lemmas.Slice.Eq.{bytes_eq-Decides}
use Rattle.ev_base.specs.Keys.{key_from}

keys_differ : (a b : List ℕ) (r : Bool) → bytes_eq a b ≡ r → ¬ (key_from 0 a ≡ key_from 0 b) → r ≡ false
keys_differ a b false e h = refl
keys_differ a b true e h = absurd (h (ap (key_from 0) ((bytes_eq-Decides a b).0 e)))

-- where the keys differ, so do the texts
pub other_key : (j k : ℕ) (a b : List ℕ) → j ≡ key_from 0 a → k ≡ key_from 0 b → ¬ (j ≡ k) → false ≡ bytes_eq a b
other_key j k a b p q h = sym (keys_differ a b (bytes_eq a b) refl (λ e. h (p ∙ e ∙ sym q)))
