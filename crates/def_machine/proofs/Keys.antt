-- The key of a gift tells its provider and its word, and each number is a key.
use Rattle.std.proofs.Common.{◌≡◌, ℕ, zero, suc, ◌<◌, ◌≤◌, ◌*◌, ◌/◌, ◌%◌, Bool, true, false, refl, sym, ap, ◌∙◌, ◌==◌, arith}
use Rattle.std.proofs.lemmas.Bool.{eqb-true}
use Rattle.def_machine.specs.Values.{key, word_in, provider_in, word_of, provider_of, under}

chosen : (b : Bool) (x y z : ℕ) → b ≡ true → x ≡ z → ◌≡◌ {A = ℕ} (elim b [ true ↦ x | false ↦ y ]) z
chosen true x y z e f = f
chosen false x y z e f = cc

passed : (b : Bool) (x y z : ℕ) → b ≡ false → y ≡ z → ◌≡◌ {A = ℕ} (elim b [ true ↦ x | false ↦ y ]) z
passed true x y z e f = cc
passed false x y z e f = f

even : (w : ℕ) → ((2 * w) % 2 == 0) ≡ true
even w = let e : (2 * w) % 2 ≡ 0 = omega arith in ap (λ (n : ℕ). n == 0) e

odd : (k : ℕ) → (suc (2 * k) % 2 == 0) ≡ false
odd k = let e : suc (2 * k) % 2 ≡ 1 = omega arith in ap (λ (n : ℕ). n == 0) e

half_even : (w : ℕ) → (2 * w) / 2 ≡ w
half_even w = omega arith

half_odd : (k : ℕ) → suc (2 * k) / 2 ≡ k
half_odd k = omega arith

-- a key is no less than its provider
no_less : (p w : ℕ) → p ≤ key p w
unfolding key
no_less zero w = omega arith
no_less (suc p) w = let h = no_less p w in omega arith

word_found : (d p w : ℕ) → p < d → word_in d (key p w) ≡ w
unfolding word_in key
word_found zero p w h = absurd (omega arith)
word_found (suc d) zero w h = chosen ((2 * w) % 2 == 0) ((2 * w) / 2) (word_in d ((2 * w) / 2)) w (even w) (half_even w)
word_found (suc d) (suc p) w h =
    let k = key p w in
    let less : p < d = omega arith in
    passed (suc (2 * k) % 2 == 0) (suc (2 * k) / 2) (word_in d (suc (2 * k) / 2)) w (odd k) (ap (word_in d) (half_odd k) ∙ word_found d p w less)

provider_found : (d p w : ℕ) → p < d → provider_in d (key p w) ≡ p
unfolding provider_in key
provider_found zero p w h = absurd (omega arith)
provider_found (suc d) zero w h = chosen ((2 * w) % 2 == 0) zero (suc (provider_in d ((2 * w) / 2))) zero (even w) refl
provider_found (suc d) (suc p) w h =
    let k = key p w in
    let less : p < d = omega arith in
    passed (suc (2 * k) % 2 == 0) zero (suc (provider_in d (suc (2 * k) / 2))) (suc p) (odd k) (ap (λ (n : ℕ). suc (provider_in d n)) (half_odd k) ∙ ap suc (provider_found d p w less))

pub word_key : (p w : ℕ) → word_of (key p w) ≡ w
unfolding word_of
word_key p w = let h = no_less p w in word_found (suc (key p w)) p w (omega arith)

pub provider_key : (p w : ℕ) → provider_of (key p w) ≡ p
unfolding provider_of
provider_key p w = let h = no_less p w in provider_found (suc (key p w)) p w (omega arith)

pub word_under : (p i : ℕ) → word_of (under p i) ≡ word_of i
unfolding under
word_under p i = word_key p (word_of i)

pub provider_under : (p i : ℕ) → provider_of (under p i) ≡ p
unfolding under
provider_under p i = provider_key p (word_of i)

pub word_under_key : (q p w : ℕ) → word_of (under q (key p w)) ≡ w
word_under_key q p w = word_under q (key p w) ∙ word_key p w

-- ---- each number is a key

one_left : (r : ℕ) → r < 2 → (r == 0) ≡ false → r ≡ 1
one_left zero h e = cc
one_left (suc zero) h e = refl
one_left (suc (suc r)) h e = absurd (omega arith)

by_half : (i : ℕ) (b : Bool) → (i % 2 == 0) ≡ b → (d : ℕ) → i < suc d → ((j : ℕ) → j < d → key (provider_in d j) (word_in d j) ≡ j)
    → key (elim b [ true ↦ zero | false ↦ suc (provider_in d (i / 2)) ]) (elim b [ true ↦ i / 2 | false ↦ word_in d (i / 2) ]) ≡ i
unfolding key
by_half i true e d less h = let z : i % 2 ≡ 0 = eqb-true (i % 2) 0 e in omega arith
by_half i false e d less h =
    let one : i % 2 ≡ 1 = one_left (i % 2) (omega arith) e in
    let half : i / 2 < d = omega arith in
    let again : key (provider_in d (i / 2)) (word_in d (i / 2)) ≡ i / 2 = h (i / 2) half in
    omega arith

key_found : (d i : ℕ) → i < d → key (provider_in d i) (word_in d i) ≡ i
unfolding provider_in word_in
key_found zero i h = absurd (omega arith)
key_found (suc d) i h = by_half i (i % 2 == 0) refl d h (λ j less. key_found d j less)

pub key_again : (i : ℕ) → key (provider_of i) (word_of i) ≡ i
unfolding provider_of word_of
key_again i = key_found (suc i) i (omega arith)

-- so what has that provider is the key of its word under it
pub key_of : (p i : ℕ) → provider_of i ≡ p → key p (word_of i) ≡ i
key_of p i e = ap (λ (q : ℕ). key q (word_of i)) (sym e) ∙ key_again i
