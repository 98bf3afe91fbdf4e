-- The test of UTF-8 is the fact.
use Rattle.std.proofs.Common.{◌≡◌, ℕ, Bool, true, false, List, refl}
use Rattle.std.specs.Str.{IsUtf8, is_utf8}
use Rattle.std.proofs.lemmas.Str.{IsUtf8-from_is_utf8, is_utf8-from_IsUtf8}

by_test : (b : Bool) (P : Type 0) → (b ≡ true → P) → (P → ⊥) → b ≡ false
by_test true P h denied = absurd (denied (h refl))
by_test false P h denied = refl

-- where bytes are no text, the test says so
pub not_utf8 : (bs : List ℕ) → (IsUtf8 bs → ⊥) → is_utf8 bs ≡ false
not_utf8 bs denied = by_test (is_utf8 bs) (IsUtf8 bs) (IsUtf8-from_is_utf8 bs) denied

pub is_text : (bs : List ℕ) → IsUtf8 bs → is_utf8 bs ≡ true
is_text bs h = is_utf8-from_IsUtf8 bs h
