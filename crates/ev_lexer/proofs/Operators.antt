-- Where an operator at the front of a text ends.
use Rattle.std.proofs.Common.{◌≡◌, ◌⊎◌, inl, inr, ℕ, zero, suc, ◌+◌, ◌-◌, ◌<◌, ◌≤◌, ◌&&◌, IsTrue, Bool, true, false, cond, ltb, List, [], ◌∷◌, length, take, get_or, Option, Some, None, option_map, refl, sym, ◌∙◌, ap, subst, arith, slice_range}
use Rattle.std.proofs.lemmas.Bool.{ltb-true}
use Rattle.std.proofs.lemmas.Slice.Eq.{bytes_eq-Decides}
use Rattle.std.proofs.lemmas.List.{get_or-take}
use Rattle.std.proofs.lemmas.Str.{IsCharBoundary-after_ascii}
use Rattle.std.specs.List.{list_all, find}
use Rattle.std.specs.Str.{IsUtf8, IsCharBoundary, bytes_eq}
use Rattle.def_syntax.specs.declared.token.TokenKind.{TokenKind}
use Rattle.ev_lexer.specs.Words.{kind_among, operators, operator_of}

pub either : (b : Bool) → (b ≡ true) ⊎ (b ≡ false)
either true = inl refl
either false = inr refl

pub both : (a b : Bool) → (a && b) ≡ true → (a ≡ true) × (b ≡ true)
both true b e = (refl, e)
both false b e = absurd (cc)

-- what holds of each spelling in a table holds of a word that is found there
found_among : (test : List ℕ → Bool) (entries : List (List ℕ × TokenKind)) (word : List ℕ) (kind : TokenKind)
    → list_all (λ (e : List ℕ × TokenKind). test e.0) entries ≡ true → kind_among entries word ≡ Some kind → test word ≡ true
found_among test [] word kind all found = absurd (cc)
found_among test (entry ∷ more) word kind all found = elim (either (bytes_eq word entry.0)) [
  | inl same ↦ ap test ((bytes_eq-Decides word entry.0).0 same) ∙ (both (test entry.0) _ all).0
  | inr other ↦ found_among test more word kind (both (test entry.0) _ all).1
      (sym (ap (λ b. option_map (λ (e : List ℕ × TokenKind). e.1) (cond b (Some entry) (find (λ (e : List ℕ × TokenKind). bytes_eq word e.0) more))) other) ∙ found)
]

-- some bytes, all of them in ASCII
abbrev is_spelling : List ℕ → Bool
is_spelling word = ltb 0 (length word) && list_all (λ b. ltb b 128) word

operators_are : list_all (λ (e : List ℕ × TokenKind). is_spelling e.0) operators ≡ true
operators_are = refl

narrow_at : (bytes : List ℕ) (i d : ℕ) → list_all (λ b. ltb b 128) bytes ≡ true → i < length bytes → get_or bytes i d < 128
narrow_at [] i d all lt = absurd (omega arith)
narrow_at (b ∷ bytes) zero d all lt = ltb-true b 128 (both (ltb b 128) _ all).0
narrow_at (b ∷ bytes) (suc i) d all lt = narrow_at bytes i d (both (ltb b 128) _ all).1 (omega arith)

pub taken_within : (m : ℕ) (bytes : List ℕ) → (length (take m bytes) ≤ m) × (length (take m bytes) ≤ length bytes)
taken_within zero bytes = (omega arith, omega arith)
taken_within (suc m) [] = (omega arith, omega arith)
taken_within (suc m) (b ∷ bytes) = let rest = taken_within m bytes in (omega arith, omega arith)

-- a text may be cut behind an operator
pub operator_cut : (most : ℕ) (text : List ℕ) (kind : TokenKind) → IsUtf8 text → kind_among operators (take most text) ≡ Some kind
    → (0 < length (take most text)) × IsCharBoundary text (length (take most text))
operator_cut most text kind utf8 found =
    let spelled : is_spelling (take most text) ≡ true = found_among is_spelling operators (take most text) kind operators_are found in
    let some : 0 < length (take most text) = ltb-true 0 (length (take most text)) (both (ltb 0 (length (take most text))) _ spelled).0 in
    let within : (length (take most text) ≤ most) × (length (take most text) ≤ length text) = taken_within most text in
    let last : get_or (take most text) (length (take most text) - 1) 0 < 128 = narrow_at (take most text) (length (take most text) - 1) 0 (both (ltb 0 (length (take most text))) _ spelled).1 (omega arith) in
    let here : get_or text (length (take most text) - 1) 0 < 128 = subst (λ b. b < 128) (get_or-take most text (length (take most text) - 1) 0 (omega arith)) last in
    let behind : (length (take most text) - 1) + 1 ≡ length (take most text) = omega arith in
    (some, subst (IsCharBoundary text) behind (IsCharBoundary-after_ascii text (length (take most text) - 1) utf8 (omega arith) here))

pub contradicts : (b : Bool) → IsTrue b → b ≡ false → ⊥
contradicts true h e = absurd (cc)
contradicts false h e = absurd (cc)

-- the first bytes of a text that may have fewer
pub record Least (n most : ℕ) (text : List ℕ) : Type 0 where
  pub taken : take n text ≡ take most text
  pub long : length (take most text) ≡ n

pub least : (n most : ℕ) (text : List ℕ) → n ≤ most → n ≤ length text → (n < most → n ≡ length text) → Least n most text
least zero zero text h g e = record { taken = refl; long = refl }
least zero (suc most) [] h g e = record { taken = refl; long = refl }
least zero (suc most) (b ∷ text) h g e = let wrong : 0 ≡ suc (length text) = e (omega arith) in absurd (omega arith)
least (suc n) zero text h g e = absurd (omega arith)
least (suc n) (suc most) [] h g e = absurd (omega arith)
least (suc n) (suc most) (b ∷ text) h g e =
    let rest : Least n most text = least n most text (omega arith) (omega arith) (λ lt. let same : suc n ≡ suc (length text) = e (omega arith) in omega arith) in
    record { taken = ap (λ xs. b ∷ xs) rest.taken; long = ap suc rest.long }

none_unless : (kind : Option TokenKind) (n most : ℕ) (text : List ℕ) → IsUtf8 text → Least n most text → (IsCharBoundary text n → ⊥) → kind_among operators (take most text) ≡ kind
    → ◌≡◌ {A = Option (TokenKind × ℕ)} None (option_map (λ (k : TokenKind). (k, length (take most text))) kind)
none_unless None n most text utf8 l never e = refl
none_unless (Some k) n most text utf8 l never e = absurd (never (subst (IsCharBoundary text) l.long (operator_cut most text k utf8 e).1))

-- no operator ends where a text may not be cut
pub no_operator : (n most : ℕ) (text : List ℕ) → IsUtf8 text → Least n most text → (IsCharBoundary text n → ⊥) → ◌≡◌ {A = Option (TokenKind × ℕ)} None (operator_of most text)
no_operator n most text utf8 l never = none_unless (kind_among operators (take most text)) n most text utf8 l never refl

minus_zero : (k : ℕ) → k - 0 ≡ k
minus_zero k = omega arith

pub operator_is : (kind : Option TokenKind) (n most : ℕ) (text spelled : List ℕ) → Least n most text → spelled ≡ slice_range text 0 n → kind ≡ kind_among operators spelled
    → ◌≡◌ {A = Option (TokenKind × ℕ)} (option_map (λ (k : TokenKind). (k, n)) kind) (operator_of most text)
operator_is kind n most text spelled l is e =
    let same : spelled ≡ take most text = is ∙ ap (λ k. take k text) (minus_zero n) ∙ l.taken in
    ap (option_map (λ (k : TokenKind). (k, n))) (e ∙ ap (kind_among operators) same)
    ∙ ap (λ m. option_map (λ (k : TokenKind). (k, m)) (kind_among operators (take most text))) (sym l.long)
