-- A text that was written between quotes is read again.
use Rattle.std.proofs.Common.{◌&&◌, ◌≡◌, ℕ, zero, suc, ◌+◌, ◌*◌, ◌/◌, ◌%◌, ◌<◌, Bool, true, false, cond, eqb, ltb, List, [], ◌∷◌, ◌++◌, length, Some, None, Option, option_and_then, Ok, refl, sym, ◌∙◌, ap, subst, arith, append_assoc, lit<}
use Rattle.std.specs.List.{flat_map}
use Rattle.std.specs.Char.{digit_value, digit_char}
use Rattle.std.proofs.lemmas.Bool.{eqb-true, ltb-true, lt-ltb}
use Rattle.std.proofs.lemmas.Bool.Decides.{nat_tests}
use Rattle.std.proofs.lemmas.Str.{encode_ascii, digit_value-digit_char}
use lib.Utf8.{low_scalar}
use Rattle.def_text.specs.Quoting.{by_number, escaped, quoted}
use Rattle.ev_text.specs.Unquoting.{mark, stands_for_itself, with_front, escape, hexadecimal, numbered, text_behind, unquoted}
use Rattle.ev_text.proofs.UnquotingLemmas.{one_escape, one_plain, closing, passes}

-- what stands for a byte is read as that byte
pub record ReadsAs (piece : List ℕ) (b : ℕ) : Type 0 where
  pub read : (place : ℕ) (rest : List ℕ) → text_behind zero place (piece ++ rest) ≡ with_front (b ∷ []) (text_behind zero (place + length piece) rest)

letter : (b l : ℕ) → b < 128 → ((rest : List ℕ) → escape (l ∷ rest) ≡ Some (b, 1)) → ReadsAs (92 ∷ l ∷ []) b
letter b l narrow e = record {
  read = λ place rest. one_escape 92 place (l ∷ rest) (b, 1) refl (e rest)
      ∙ ap (λ xs. with_front xs (text_behind 1 (suc place) (l ∷ rest))) (encode_ascii b narrow)
      ∙ ap (with_front (b ∷ [])) (passes 1 (suc place) (l ∷ rest) (omega arith) ∙ ap (λ k. text_behind zero k rest) (omega arith));
}

sum : (u v b : ℕ) → u * 16 + v ≡ b → ((0 * 16 + 0) * 16 + u) * 16 + v ≡ b
sum u v b e = omega arith

below : (b k : ℕ) → b < 32 → b / 16 < k + 2
below b k h = omega arith

rest_below : (b k : ℕ) → b < 32 → b % 16 < k + 16
rest_below b k h = omega arith

again : (b : ℕ) → b / 16 * 16 + b % 16 ≡ b
again b = omega arith

low : (b : ℕ) → b < 32 → b < 55296
low b h = omega arith

narrow : (b : ℕ) → b < 32 → b < 128
narrow b h = omega arith

-- two zeros and two digits, by the digits' values
abbrev parts : ℕ → ℕ → Option ℕ
parts u v = cond (true && true && ltb u 16 && ltb v 16) (Some (((0 * 16 + 0) * 16 + u) * 16 + v)) None

parts_are : (u v b : ℕ) → u < 16 → v < 16 → u * 16 + v ≡ b → parts u v ≡ Some b
parts_are u v b small less e =
    ap (λ t. cond (true && true && t && ltb v 16) (Some (((0 * 16 + 0) * 16 + u) * 16 + v)) None) (lt-ltb u 16 small)
    ∙ ap (λ t. cond t (Some (((0 * 16 + 0) * 16 + u) * 16 + v)) None) (lt-ltb v 16 less) ∙ ap Some (sum u v b e)

digits_of : (b : ℕ) → b < 32 → hexadecimal 48 48 (digit_char (b / 16)) (digit_char (b % 16)) ≡ Some b
digits_of b h =
    ap (λ u. parts u (digit_value (digit_char (b % 16)))) (digit_value-digit_char (b / 16) (below b 34 h))
    ∙ ap (parts (b / 16)) (digit_value-digit_char (b % 16) (rest_below b 20 h))
    ∙ parts_are (b / 16) (b % 16) b (below b 14 h) (rest_below b 0 h) (again b)

number : (b : ℕ) → b < 32 → ReadsAs (by_number b) b
number b h = record {
  read = λ place rest.
      one_escape 92 place (117 ∷ 48 ∷ 48 ∷ digit_char (b / 16) ∷ digit_char (b % 16) ∷ rest) (b, 5) refl
      (ap (option_and_then numbered) (digits_of b h) ∙ ap (λ t. cond t (Some (b, 5)) None) (low_scalar b (low b h)))
      ∙ ap (λ xs. with_front xs (text_behind 5 (suc place) (117 ∷ 48 ∷ 48 ∷ digit_char (b / 16) ∷ digit_char (b % 16) ∷ rest))) (encode_ascii b (narrow b h))
      ∙ ap (with_front (b ∷ [])) (passes 5 (suc place) (117 ∷ 48 ∷ 48 ∷ digit_char (b / 16) ∷ digit_char (b % 16) ∷ rest) (omega arith) ∙ ap (λ k. text_behind zero k rest) (omega arith));
}

mark_of : (b : ℕ) → eqb b 92 ≡ false → eqb b 34 ≡ false → mark b ≡ stands_for_itself
mark_of b slash quote = grind (arith, nat_tests)

plain_byte : (b : ℕ) → eqb b 92 ≡ false → eqb b 34 ≡ false → ReadsAs (b ∷ []) b
plain_byte b slash quote = record {
  read = λ place rest. one_plain b place rest (mark_of b slash quote) ∙ ap (λ k. with_front (b ∷ []) (text_behind zero k rest)) (omega arith);
}

either : (t : Bool) (x y : List ℕ) (b : ℕ) → (t ≡ true → ReadsAs x b) → (t ≡ false → ReadsAs y b) → ReadsAs (cond t x y) b
either true x y b p q = p refl
either false x y b p q = q refl

same_letter : (b c l : ℕ) → eqb b c ≡ true → c < 128 → ((rest : List ℕ) → escape (l ∷ rest) ≡ Some (c, 1)) → ReadsAs (92 ∷ l ∷ []) b
same_letter b c l e n at = subst (ReadsAs (92 ∷ l ∷ [])) (sym (eqb-true b c e)) (letter c l n at)

pub escaped_reads : (b : ℕ) → ReadsAs (escaped b) b
escaped_reads b =
    either (eqb b 10) _ _ b (λ h. same_letter b 10 110 h (lit< tt) (λ _. refl)) (λ n1.
    either (eqb b 9) _ _ b (λ h. same_letter b 9 116 h (lit< tt) (λ _. refl)) (λ n2.
    either (eqb b 13) _ _ b (λ h. same_letter b 13 114 h (lit< tt) (λ _. refl)) (λ n3.
    either (eqb b 92) _ _ b (λ h. same_letter b 92 92 h (lit< tt) (λ _. refl)) (λ slash.
    either (eqb b 34) _ _ b (λ h. same_letter b 34 34 h (lit< tt) (λ _. refl)) (λ quote.
    either (ltb b 32) _ _ b (λ h. number b (ltb-true b 32 h)) (λ n4. plain_byte b slash quote))))))

-- what was written of a text is read to its end
all_read : (text : List ℕ) (place : ℕ) → text_behind zero place (flat_map escaped text ++ 34 ∷ []) ≡ Ok text
all_read [] place = closing 34 place [] refl
all_read (b ∷ text) place =
    ap (text_behind zero place) (append_assoc (escaped b) (flat_map escaped text) (34 ∷ []))
    ∙ (escaped_reads b).read place (flat_map escaped text ++ 34 ∷ []) ∙ ap (with_front (b ∷ [])) (all_read text (place + length (escaped b)))

pub reads_quoted : (text : List ℕ) → unquoted (quoted text) ≡ Ok text
reads_quoted text = all_read text 1
