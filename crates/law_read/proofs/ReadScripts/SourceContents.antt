-- What a string of JSON stands for is in UTF-8, where the text that it stands in is.
use Rattle.std.proofs.Common.{◌≡◌, ◌⊎◌, inl, inr, ℕ, zero, suc, ◌+◌, ◌*◌, ◌<◌, ◌&&◌, ◌==◌, Bool, true, false, cond, nat_lt, List, [], ◌∷◌, ◌++◌, length, get_or, Option, Some, None, refl, sym, ◌∙◌, ap, subst, arith, append_assoc, append-nil, length-append}
use Rattle.std.specs.Prelude.{option_and_then}
use Rattle.std.specs.Char.{digit_value, is_digit, encode_utf8}
use Rattle.std.specs.Str.{IsUtf8, IsCharBoundary}
use Rattle.std.proofs.lemmas.Bool.Decides.{nat_tests}
use Rattle.std.proofs.lemmas.List.{take_at, drop_at}
use Rattle.std.proofs.lemmas.Str.{IsUtf8-append, IsUtf8-encode, IsUtf8-take, IsUtf8-drop, IsUtf8-from_ascii, IsCharBoundary-after_ascii, IsCharBoundary-before_ascii}
use Rattle.json.specs.Text.{code_unit, short_escape, is_high_surrogate, is_low_surrogate, surrogate_pair, plain, after_backslash, after_u, after_high, prepend, content}
use lib.Utf8.{scalar}

some_same : {A : Type 0} {x y : A} → Some x ≡ Some y → x ≡ y
some_same e = cc

-- ---- where a text may be cut

-- what stands behind a byte in ASCII
pub behind : (x : ℕ) (xs : List ℕ) → IsUtf8 (x ∷ xs) → x < 128 → IsUtf8 xs
behind x xs u h = IsUtf8-drop (x ∷ xs) 1 u (IsCharBoundary-after_ascii (x ∷ xs) 0 u (omega arith) h)

here : (front xs : List ℕ) (x : ℕ) → get_or (front ++ x ∷ xs) (length front) 0 ≡ x
here [] xs x = refl
here (y ∷ front) xs x = here front xs x

-- what stands on either side of one
pub beside : (front xs : List ℕ) (x : ℕ) → IsUtf8 (front ++ x ∷ xs) → x < 128 → IsUtf8 front × IsUtf8 xs
beside front xs x u h =
    let b : IsCharBoundary (front ++ x ∷ xs) (length front) = IsCharBoundary-before_ascii (front ++ x ∷ xs) (length front) (omega (arith, length-append front (x ∷ xs))) (omega (arith, here front xs x)) in (
      subst IsUtf8 (take_at front (x ∷ xs) (length front) refl) (IsUtf8-take (front ++ x ∷ xs) (length front) u b),
      behind x xs (subst IsUtf8 (drop_at front (x ∷ xs) (length front) refl) (IsUtf8-drop (front ++ x ∷ xs) (length front) u b)) h,
    )

-- ---- what is put in front of a content

prepended : (front : List ℕ) (r : Option (List ℕ)) (s : List ℕ) → prepend front r ≡ Some s → IsUtf8 front → ((t : List ℕ) → r ≡ Some t → IsUtf8 t) → IsUtf8 s
prepended front None s e u f = absurd (cc)
prepended front (Some t) s e u f = subst IsUtf8 (some_same e) (IsUtf8-append front t u (f t refl))

chosen : {A : Type 0} (b : Bool) (x y z : A) → cond b x y ≡ z → ((b ≡ true) × (x ≡ z)) ⊎ ((b ≡ false) × (y ≡ z))
chosen true x y z e = inl (refl, e)
chosen false x y z e = inr (refl, e)

none_some : {A : Type 0} {x : A} → None ≡ Some x → ⊥
none_some e = cc

answered : {A B : Type 0} (o : Option A) (f : A → Option B) (y : B) → option_and_then f o ≡ Some y → (x : A) × (o ≡ Some x) × (f x ≡ Some y)
answered (Some x) f y e = (x, refl, e)
answered None f y e = cc

-- what shorter strings stand for is in UTF-8, with what was read before it
abbrev Good : ℕ → Type 0
Good k = (front xs s : List ℕ) → length xs < k → IsUtf8 (front ++ xs) → content plain xs ≡ Some s → IsUtf8 (front ++ s)

-- the same of a string to which some bytes come that an escape stands for
escape_good : (k : ℕ) → Good k → (bytes xs s : List ℕ) → length xs < k → IsUtf8 xs → IsUtf8 bytes → prepend bytes (content plain xs) ≡ Some s → IsUtf8 s
escape_good k g bytes xs s h u b e = prepended bytes (content plain xs) s e b (λ t c. g [] xs t h u c)

-- ---- escapes

one_ascii : (c : ℕ) → c < 128 → IsUtf8 (c ∷ [])
one_ascii c h = IsUtf8-from_ascii (c ∷ []) (λ i. only i)
  where
    only : (i : ℕ) → get_or (c ∷ []) i 0 < 128
    only zero = h
    only (suc i) = omega arith

short_is : (x c : ℕ) → short_escape x ≡ Some c → (c < 128) × (x < 128)
unfolding short_escape
short_is x c e = (grind (arith, nat_tests), grind (arith, nat_tests))

digit_is : (x : ℕ) → is_digit x 16 ≡ true → (digit_value x < 16) × (x < 128)
digit_is x e = (grind (arith, nat_tests), grind (arith, nat_tests))

pub is_byte : (x b : ℕ) → (x == b) ≡ true → b < 128 → x < 128
is_byte x b e h = grind (arith, nat_tests)

both : (a b : Bool) → (a && b) ≡ true → (a ≡ true) × (b ≡ true)
both true b e = (refl, e)
both false b e = absurd (cc)

record Hex (a b c d u : ℕ) : Type 0 where
  small : u < 65536
  first : a < 128
  second : b < 128
  third : c < 128
  fourth : d < 128

unit_of : (a b c d u : ℕ) → (is_digit a 16 && is_digit b 16 && is_digit c 16 && is_digit d 16) ≡ true → digit_value a * 4096 + digit_value b * 256 + digit_value c * 16 + digit_value d ≡ u → Hex a b c d u
unit_of a b c d u t e =
    let r = both (is_digit a 16 && is_digit b 16 && is_digit c 16) (is_digit d 16) t in
    let q = both (is_digit a 16 && is_digit b 16) (is_digit c 16) r.0 in
    let p = both (is_digit a 16) (is_digit b 16) q.0 in
    let x = digit_is a p.0 in
    let y = digit_is b p.1 in
    let z = digit_is c q.1 in
    let w = digit_is d r.1 in
    record { small = omega (arith, x.0, y.0, z.0, w.0, e); first = x.1; second = y.1; third = z.1; fourth = w.1 }

unit_is : (a b c d u : ℕ) → code_unit a b c d ≡ Some u → Hex a b c d u
unfolding code_unit
unit_is a b c d u e = elim (chosen (is_digit a 16 && is_digit b 16 && is_digit c 16 && is_digit d 16) _ None (Some u) e) [
  | inl h ↦ unit_of a b c d u h.0 (some_same h.1)
  | inr h ↦ absurd (none_some h.1)
]

-- a surrogate is none
alone : (u : ℕ) → u < 65536 → is_high_surrogate u ≡ false → is_low_surrogate u ≡ false → scalar u ≡ true
alone u h e f = grind (arith, nat_tests)

paired : (h l : ℕ) → is_high_surrogate h ≡ true → is_low_surrogate l ≡ true → scalar (surrogate_pair h l) ≡ true
paired h l e f = grind (arith, nat_tests)

low_good : (k h : ℕ) → Good k → is_high_surrogate h ≡ true → (xs s : List ℕ) → length xs < k → IsUtf8 xs → content (after_high h) xs ≡ Some s → IsUtf8 s
unfolding content
low_good k h g high (x ∷ y ∷ a ∷ b ∷ c ∷ d ∷ xs) s n u e = elim (chosen ((x == 92) && (y == 117)) _ None (Some s) e) [
  | inr o ↦ absurd (none_some o.1)
  | inl i ↦
      let l = answered (code_unit a b c d) (λ l. cond (is_low_surrogate l) (prepend (encode_utf8 (surrogate_pair h l)) (content plain xs)) None) s i.1 in
      let q = unit_is a b c d l.0 l.1 in
      let t = both (x == 92) (y == 117) i.0 in
      let v = behind d xs (behind c (d ∷ xs) (behind b (c ∷ d ∷ xs) (behind a (b ∷ c ∷ d ∷ xs) (behind y (a ∷ b ∷ c ∷ d ∷ xs) (behind x (y ∷ a ∷ b ∷ c ∷ d ∷ xs) u (is_byte x 92 t.0 (omega arith))) (is_byte y 117 t.1 (omega arith))) q.first) q.second) q.third) q.fourth in
      elim (chosen (is_low_surrogate l.0) _ None (Some s) l.2) [
        | inr o ↦ absurd (none_some o.1)
        | inl j ↦ escape_good k g (encode_utf8 (surrogate_pair h l.0)) xs s (omega (arith, n)) v (IsUtf8-encode (surrogate_pair h l.0) (paired h l.0 high j.0)) j.1
      ]
]
low_good k h g high other s n u e = absurd (none_some e)

unicode_good : (k : ℕ) → Good k → (xs s : List ℕ) → length xs < k → IsUtf8 xs → content after_u xs ≡ Some s → IsUtf8 s
unfolding content
unicode_good k g (a ∷ b ∷ c ∷ d ∷ xs) s n u e =
    let l = answered (code_unit a b c d) (λ z. cond (is_high_surrogate z) (content (after_high z) xs) (cond (is_low_surrogate z) None (prepend (encode_utf8 z) (content plain xs)))) s e in
    let q = unit_is a b c d l.0 l.1 in
    let v = behind d xs (behind c (d ∷ xs) (behind b (c ∷ d ∷ xs) (behind a (b ∷ c ∷ d ∷ xs) u q.first) q.second) q.third) q.fourth in
    elim (chosen (is_high_surrogate l.0) _ _ (Some s) l.2) [
      | inl i ↦ low_good k l.0 g i.0 xs s (omega (arith, n)) v i.1
      | inr o ↦ elim (chosen (is_low_surrogate l.0) None _ (Some s) o.1) [
        | inl j ↦ absurd (none_some j.1)
        | inr p ↦ escape_good k g (encode_utf8 l.0) xs s (omega (arith, n)) v (IsUtf8-encode l.0 (alone l.0 q.small o.0 p.0)) p.1
      ]
    ]
unicode_good k g other s n u e = absurd (none_some e)

backslash_good : (k : ℕ) → Good k → (xs s : List ℕ) → length xs < k → IsUtf8 xs → content after_backslash xs ≡ Some s → IsUtf8 s
unfolding content
backslash_good k g [] s n u e = absurd (none_some e)
backslash_good k g (x ∷ xs) s n u e = elim (chosen (x == 117) _ _ (Some s) e) [
  | inl i ↦ unicode_good k g xs s (omega (arith, n)) (behind x xs u (is_byte x 117 i.0 (omega arith))) i.1
  | inr o ↦
      let c = answered (short_escape x) (λ c. prepend (c ∷ []) (content plain xs)) s o.1 in
      let small = short_is x c.0 c.1 in
      escape_good k g (c.0 ∷ []) xs s (omega (arith, n)) (behind x xs u small.1) (one_ascii c.0 small.0) c.2
]

-- ---- the whole

front_good : (k : ℕ) → Good k → (x : ℕ) (front xs s : List ℕ) (r : Option (List ℕ)) → length xs < k → IsUtf8 (front ++ x ∷ xs) → r ≡ content plain xs → prepend (x ∷ []) r ≡ Some s → IsUtf8 (front ++ s)
front_good k g x front xs s None h u r e = absurd (none_some e)
front_good k g x front xs s (Some t) h u r e =
    let w : IsUtf8 ((front ++ x ∷ []) ++ xs) = subst IsUtf8 (sym (append_assoc front (x ∷ []) xs)) u in
    subst IsUtf8 (append_assoc front (x ∷ []) t ∙ ap (λ (y : List ℕ). front ++ y) (some_same e)) (g (front ++ x ∷ []) xs t h w (sym r))

good : (k : ℕ) → Good k
unfolding content
good zero front xs s h u e = absurd (omega (arith, h))
good (suc k) front [] s h u e = absurd (none_some e)
good (suc k) front (x ∷ xs) s h u e = elim (chosen (x == 34) _ _ (Some s) e) [
  | inl i ↦ subst IsUtf8 (sym (append-nil front) ∙ ap (λ (y : List ℕ). front ++ y) (some_same i.1)) (beside front xs x u (is_byte x 34 i.0 (omega arith))).0
  | inr o ↦ elim (chosen (x == 92) _ _ (Some s) o.1) [
    | inl i ↦ let b = beside front xs x u (is_byte x 92 i.0 (omega arith)) in IsUtf8-append front s b.0 (backslash_good k (good k) xs s (omega (arith, h)) b.1 i.1)
    | inr p ↦ elim (chosen (nat_lt x 32) None _ (Some s) p.1) [
      | inl i ↦ absurd (none_some i.1)
      | inr q ↦ front_good k (good k) x front xs s (content plain xs) (omega (arith, h)) u refl q.1
    ]
  ]
]

pub content_is_text : (xs s : List ℕ) → IsUtf8 xs → content plain xs ≡ Some s → IsUtf8 s
content_is_text xs s u e = good (suc (length xs)) [] xs s (omega arith) u e
