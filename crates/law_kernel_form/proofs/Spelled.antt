-- The characters between quotes.
use Rattle.std.proofs.Common.{◌≡◌, ℕ, ◌&&◌, ◌/◌, ◌%◌, ◌<◌, cond, eqb, ltb, Bool, true, false, List, [], ◌∷◌, ◌++◌, refl, sym, ◌∙◌, ap, subst, arith, lit<}
use Rattle.std.specs.Char.{encode_utf8, digit_char, IsScalar}
use Rattle.std.specs.Str.{chars, IsUtf8, encode_utf8_all}
use Rattle.std.specs.List.{flat_map}
use lib.Utf8.{scalar, scalars, low_scalar}
use Rattle.std.proofs.lemmas.Bool.{ltb-true}
use Rattle.std.proofs.lemmas.Bool.Decides.{nat_tests}
use Rattle.std.proofs.lemmas.List.{append-nil}
use Rattle.std.proofs.lemmas.Str.{encode_ascii, encodes-append, chars_from_encodes, encodes-chars, scalars-chars}
use Rattle.def_text.specs.Quoting.{by_number, escaped, escaped_character, quoted, quoted_character}
use Rattle.ev_text.proofs.QuotingLemmas.{escaped_first}

-- by the test that a choice was made by
pub either : {A : Type 0} (P : A → Type 0) (t : Bool) (x y : A) → (t ≡ true → P x) → (t ≡ false → P y) → P (cond t x y)
either P true x y p q = p refl
either P false x y p q = q refl

-- the characters that stand for a character in a text, and between `'`
abbrev pub spelled : ℕ → List ℕ
spelled c = cond (ltb c 128) (escaped c) (c ∷ [])

abbrev pub spelled_alone : ℕ → List ℕ
spelled_alone c = cond (eqb c 39) (92 ∷ 39 ∷ []) (spelled c)

-- these characters are spelled so in bytes
pub record Spells (cs bytes : List ℕ) : Type 0 where
  pub scalars : scalars cs ≡ true
  pub encodes : encode_utf8_all cs ≡ bytes

both : (a b : Bool) → a ≡ true → b ≡ true → (a && b) ≡ true
both true true d e = refl
both true false d e = absurd (cc)
both false b d e = absurd (cc)

left : (a b : Bool) → (a && b) ≡ true → a ≡ true
left true b e = refl
left false b e = absurd (cc)

right : (a b : Bool) → (a && b) ≡ true → b ≡ true
right true b e = e
right false b e = absurd (cc)

scalars_both : (xs ys : List ℕ) → scalars xs ≡ true → scalars ys ≡ true → scalars (xs ++ ys) ≡ true
scalars_both [] ys d e = e
scalars_both (x ∷ xs) ys d e = both (scalar x) (scalars (xs ++ ys)) (left (scalar x) (scalars xs) d) (scalars_both xs ys (right (scalar x) (scalars xs) d) e)

pub spells_both : (xs ys us vs : List ℕ) → Spells xs us → Spells ys vs → Spells (xs ++ ys) (us ++ vs)
spells_both xs ys us vs p q = record {
  scalars = scalars_both xs ys p.scalars q.scalars;
  encodes = encodes-append xs ys ∙ ap (λ zs. zs ++ encode_utf8_all ys) p.encodes ∙ ap (λ zs. us ++ zs) q.encodes;
}

pub nothing : Spells [] []
nothing = record { scalars = refl; encodes = refl }

pub ascii : (c : ℕ) (xs us : List ℕ) → c < 128 → Spells xs us → Spells (c ∷ xs) (c ∷ us)
ascii c xs us h p = record {
  scalars = both (scalar c) (scalars xs) (low_scalar c (omega arith)) p.scalars;
  encodes = ap (λ zs. zs ++ encode_utf8_all xs) (encode_ascii c h) ∙ ap (λ zs. c ∷ zs) p.encodes;
}

abbrev Plain : List ℕ → Type 0
Plain xs = Spells xs xs

letter : (l : ℕ) → l < 128 → Plain (92 ∷ l ∷ [])
letter l h = ascii 92 (l ∷ []) (l ∷ []) (lit< tt) (ascii l [] [] h nothing)

digit_narrow : (d : ℕ) → d < 16 → digit_char d < 128
digit_narrow d h = grind (arith, nat_tests)

high_digit : (c : ℕ) → c < 128 → c / 16 < 16
high_digit c h = omega arith

low_digit : (c : ℕ) → c % 16 < 16
low_digit c = omega arith

number : (c : ℕ) → c < 128 → Plain (by_number c)
number c h =
    let u = digit_char (c / 16) in let v = digit_char (c % 16) in
    ascii 92 _ _ (lit< tt) (ascii 117 _ _ (lit< tt) (ascii 48 _ _ (lit< tt) (ascii 48 _ _ (lit< tt)
    (ascii u (v ∷ []) (v ∷ []) (digit_narrow (c / 16) (high_digit c h)) (ascii v [] [] (digit_narrow (c % 16) (low_digit c)) nothing)))))

escaped_plain : (c : ℕ) → c < 128 → Plain (escaped c)
escaped_plain c h =
    either Plain (eqb c 10) _ _ (λ _. letter 110 (lit< tt)) (λ _.
    either Plain (eqb c 9) _ _ (λ _. letter 116 (lit< tt)) (λ _.
    either Plain (eqb c 13) _ _ (λ _. letter 114 (lit< tt)) (λ _.
    either Plain (eqb c 92) _ _ (λ _. letter 92 (lit< tt)) (λ _.
    either Plain (eqb c 34) _ _ (λ _. letter 34 (lit< tt)) (λ _.
    either Plain (ltb c 32) _ _ (λ _. number c h) (λ _. ascii c [] [] h nothing))))))

alone : (c : ℕ) → IsScalar c → Spells (c ∷ []) (encode_utf8 c)
alone c h = record { scalars = both (scalar c) true h refl; encodes = append-nil (encode_utf8 c) }

by_width : (c : ℕ) (b : Bool) → ltb c 128 ≡ b → IsScalar c → Spells (cond b (escaped c) (c ∷ [])) (cond b (escaped c) (encode_utf8 c))
by_width c true e h = escaped_plain c (ltb-true c 128 e)
by_width c false e h = alone c h

pub spells_character : (c : ℕ) → IsScalar c → Spells (spelled c) (escaped_character c)
spells_character c h = by_width c (ltb c 128) refl h

by_quote : (c : ℕ) (b : Bool) → IsScalar c → Spells (cond b (92 ∷ 39 ∷ []) (spelled c)) (cond b (92 ∷ 39 ∷ []) (escaped_character c))
by_quote c true h = letter 39 (lit< tt)
by_quote c false h = spells_character c h

spells_inside : (cs : List ℕ) → scalars cs ≡ true → Spells (flat_map spelled cs) (flat_map escaped (encode_utf8_all cs))
spells_inside [] e = nothing
spells_inside (c ∷ cs) e =
    subst (λ bytes. Spells (spelled c ++ flat_map spelled cs) bytes) (sym (escaped_first c (encode_utf8_all cs) (encode_utf8 c ++ encode_utf8_all cs) refl))
    (spells_both (spelled c) (flat_map spelled cs) (escaped_character c) (flat_map escaped (encode_utf8_all cs)) (spells_character c (left (scalar c) (scalars cs) e))
    (spells_inside cs (right (scalar c) (scalars cs) e)))

between : (q : ℕ) (cs bytes : List ℕ) → q < 128 → Spells cs bytes → Spells (q ∷ (cs ++ q ∷ [])) (q ∷ (bytes ++ q ∷ []))
between q cs bytes h p = ascii q (cs ++ q ∷ []) (bytes ++ q ∷ []) h (spells_both cs (q ∷ []) bytes (q ∷ []) p (ascii q [] [] h nothing))

-- a text between quotes, and a character
pub spells_quoted : (text : List ℕ) → IsUtf8 text → Spells (34 ∷ (flat_map spelled (chars text) ++ 34 ∷ [])) (quoted text)
spells_quoted text utf8 = between 34 (flat_map spelled (chars text)) (flat_map escaped text) (lit< tt)
    (subst (λ bytes. Spells (flat_map spelled (chars text)) (flat_map escaped bytes)) (encodes-chars text utf8) (spells_inside (chars text) (scalars-chars text utf8)))

pub spells_quoted_character : (c : ℕ) → IsScalar c → Spells (39 ∷ (spelled_alone c ++ 39 ∷ [])) (quoted_character c)
spells_quoted_character c h = between 39 (spelled_alone c) (cond (eqb c 39) (92 ∷ 39 ∷ []) (escaped_character c)) (lit< tt) (by_quote c (eqb c 39) h)

-- so these are the characters
pub spells_utf8 : (cs bytes : List ℕ) → Spells cs bytes → IsUtf8 bytes
spells_utf8 cs bytes p = (cs, (p.scalars, p.encodes))

pub spells_chars : (cs bytes : List ℕ) → Spells cs bytes → chars bytes ≡ cs
spells_chars cs bytes p = sym (chars_from_encodes cs bytes (spells_utf8 cs bytes p) p.encodes)
