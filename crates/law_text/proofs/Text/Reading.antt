-- How pieces of words are read.
use Rattle.std.proofs.Common.{◌≡◌, ℕ, zero, suc, ◌+◌, ◌/◌, ◌%◌, ◌<◌, ◌≤◌, ◌&&◌, cond, eqb, ltb, leb, not, Bool, true, false, ℤ, pos, negsuc, List, [], ◌∷◌, ◌++◌, Option, Some, None, refl, sym, ◌∙◌, ap, subst, arith}
use Rattle.std.specs.Prelude.{decimal}
use Rattle.std.specs.List.{list_all}
use Rattle.std.specs.Char.{digit_char}
use Rattle.std.specs.Fmt.{digit_glyph, digits_onto, digits, signed_decimal}
use Rattle.std.proofs.lemmas.Bool.{and_parts, eqb-true}
use Rattle.std.proofs.lemmas.Bool.Decides.{nat_tests}
use Rattle.law_text.proofs.Text.Front.{both_true}
use Rattle.law_text.specs.Text.Words.{Place, Outside, behind, reads_on, reads, IsWord, ordinary, IsOrdinary}

-- it is read from one place to another
abbrev pub Goes : Place → List ℕ → Place → Type 0
Goes p xs q = reads xs p ≡ Some q

pub goes_on : (p q r : Place) (xs ys : List ℕ) → Goes p xs q → Goes q ys r → Goes p (xs ++ ys) r
goes_on p q r [] ys h k = let same : p ≡ q = cc in subst (λ o. Goes o ys r) (sym same) k
goes_on p q r (x ∷ xs) ys h k = by (behind p x) h (λ o i. goes_on o q r xs ys i k)
  where
    by : (o : Option Place) → reads_on (reads xs) o ≡ Some q → ((o : Place) → Goes o xs q → Goes o (xs ++ ys) r) → reads_on (reads (xs ++ ys)) o ≡ Some r
    by None i f = cc
    by (Some o) i f = f o i

pub goes_first : (p q r : Place) (c : ℕ) (cs : List ℕ) → behind p c ≡ Some q → Goes q cs r → Goes p (c ∷ cs) r
goes_first p q r c cs h k = ap (reads_on (reads cs)) h ∙ k

-- ---- ordinary bytes

-- a test, and what follows where it is false
pub passed : (A : Type 0) (b : Bool) (x y z : A) → b ≡ false → y ≡ z → cond b x y ≡ z
passed A true x y z e h = cc
passed A false x y z e h = h

pub unmet : (b : Bool) → not b ≡ true → b ≡ false
unmet true e = cc
unmet false e = refl

pub outside : (d c : ℕ) → ordinary c ≡ true → behind (Outside d) c ≡ Some (Outside d)
outside d c h =
    let a = and_parts (not (eqb c 10)) _ h in let b = and_parts (not (eqb c 32)) _ a.1 in let e = and_parts (not (eqb c 34)) _ b.1 in let f = and_parts (not (eqb c 39)) _ e.1 in let g = and_parts (not (eqb c 91)) (not (eqb c 93)) f.1 in
    passed (Option Place) (eqb c 10) _ _ _ (unmet (eqb c 10) a.0) (passed (Option Place) (eqb c 32) _ _ _ (unmet (eqb c 32) b.0) (passed (Option Place) (eqb c 34) _ _ _ (unmet (eqb c 34) e.0)
    (passed (Option Place) (eqb c 39) _ _ _ (unmet (eqb c 39) f.0) (passed (Option Place) (eqb c 91) _ _ _ (unmet (eqb c 91) g.0) (passed (Option Place) (eqb c 93) _ _ _ (unmet (eqb c 93) g.1) refl)))))

pub ordinary_goes : (d : ℕ) (w : List ℕ) → IsOrdinary w → Goes (Outside d) w (Outside d)
ordinary_goes d [] h = refl
ordinary_goes d (c ∷ cs) h = let both = and_parts (ordinary c) (list_all ordinary cs) h in goes_first (Outside d) (Outside d) (Outside d) c cs (outside d c both.0) (ordinary_goes d cs both.1)

pub ordinary_word : (w : List ℕ) → IsOrdinary w → IsWord w
ordinary_word w h d = ordinary_goes d w h

pub word_append : (xs ys : List ℕ) → IsWord xs → IsWord ys → IsWord (xs ++ ys)
word_append xs ys h k d = goes_on (Outside d) (Outside d) (Outside d) xs ys (h d) (k d)

pub word_cons : (c : ℕ) (cs : List ℕ) → ordinary c ≡ true → IsWord cs → IsWord (c ∷ cs)
word_cons c cs h k d = goes_first (Outside d) (Outside d) (Outside d) c cs (outside d c h) (k d)

ordinary_cons : (c : ℕ) (cs : List ℕ) → ordinary c ≡ true → IsOrdinary cs → IsOrdinary (c ∷ cs)
ordinary_cons c cs h k = both_true (ordinary c) (list_all ordinary cs) h k

-- a byte that differs from these six
pub six : (c : ℕ) → not (eqb c 10) ≡ true → not (eqb c 32) ≡ true → not (eqb c 34) ≡ true → not (eqb c 39) ≡ true → not (eqb c 91) ≡ true → not (eqb c 93) ≡ true → ordinary c ≡ true
six c a b e f g h = both_true _ _ a (both_true _ _ b (both_true _ _ e (both_true _ _ f (both_true _ _ g h))))

-- by a test that each of the six fails
pub differs : (c k : ℕ) (p : ℕ → Bool) → p k ≡ false → p c ≡ true → not (eqb c k) ≡ true
differs c k p at is = by (eqb c k) refl
  where
    true_false : true ≡ false → ⊥
    true_false e = cc

    by : (b : Bool) → eqb c k ≡ b → not b ≡ true
    by true e = absurd (true_false (sym is ∙ ap p (eqb-true c k e) ∙ at))
    by false e = refl

-- ---- numbers

is_digit : ℕ → Bool
is_digit c = leb 48 c && leb c 57

digit_ordinary : (c : ℕ) → 47 < c → c < 58 → ordinary c ≡ true
digit_ordinary c h k = six c (grind (arith, nat_tests)) (grind (arith, nat_tests)) (grind (arith, nat_tests)) (grind (arith, nat_tests)) (grind (arith, nat_tests)) (grind (arith, nat_tests))

pub letter_ordinary : (c : ℕ) → 93 < c → ordinary c ≡ true
letter_ordinary c h = six c (grind (arith, nat_tests)) (grind (arith, nat_tests)) (grind (arith, nat_tests)) (grind (arith, nat_tests)) (grind (arith, nat_tests)) (grind (arith, nat_tests))

pick_ordinary : (b : Bool) (x y : ℕ) → (b ≡ true → ordinary x ≡ true) → (b ≡ false → ordinary y ≡ true) → ordinary (cond b x y) ≡ true
pick_ordinary true x y h k = h refl
pick_ordinary false x y h k = k refl

below_ten : (d : ℕ) → ltb d 10 ≡ true → d < 10
below_ten d e = grind (arith, nat_tests)

from_ten : (d : ℕ) → ltb d 10 ≡ false → 10 ≤ d
from_ten d e = grind (arith, nat_tests)

pub digit_char_ordinary : (d : ℕ) → ordinary (digit_char d) ≡ true
digit_char_ordinary d = pick_ordinary (ltb d 10) (48 + d) (87 + d) (λ e. let l = below_ten d e in digit_ordinary (48 + d) (omega arith) (omega arith)) (λ e. let l = from_ten d e in letter_ordinary (87 + d) (omega arith))

pick_all : (b : Bool) (xs ys : List ℕ) → IsOrdinary xs → IsOrdinary ys → IsOrdinary (cond b xs ys)
pick_all true xs ys h k = h
pick_all false xs ys h k = k

onto_ordinary : (k base n : ℕ) (acc : List ℕ) → IsOrdinary acc → IsOrdinary (digits_onto k base false n acc)
onto_ordinary zero base n acc h = h
onto_ordinary (suc k) base n acc h =
    let one : IsOrdinary (digit_glyph false (n % base) ∷ acc) = ordinary_cons (digit_glyph false (n % base)) acc (digit_char_ordinary (n % base)) h in
    pick_all (eqb (n / base) 0) (digit_glyph false (n % base) ∷ acc) (digits_onto k base false (n / base) (digit_glyph false (n % base) ∷ acc)) one (onto_ordinary k base (n / base) (digit_glyph false (n % base) ∷ acc) one)

pub decimal_ordinary : (n : ℕ) → IsOrdinary (decimal n)
unfolding digits
decimal_ordinary n = onto_ordinary 64 10 n [] refl

pub decimal_word : (n : ℕ) → IsWord (decimal n)
decimal_word n = ordinary_word (decimal n) (decimal_ordinary n)

pub signed_word : (z : ℤ) → IsWord (signed_decimal z)
signed_word (pos n) = decimal_word n
signed_word (negsuc n) = word_cons 45 (decimal (suc n)) refl (decimal_word (suc n))
