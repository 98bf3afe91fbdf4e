-- How the reading of a text between quotes goes on.
use Rattle.std.proofs.Common.{lit<, IfSome, IsTrue, slice_range, add-one, add-zero, slice_get, length-drop, ◌⊎◌, inl, inr, ⊎_elim, option_map, ◌≡◌, ℕ, zero, suc, ◌+◌, ◌-◌, ◌<◌, ◌≤◌, Bool, true, false, cond, eqb, List, [], ◌∷◌, ◌++◌, length, take, drop, get_or, Option, Some, None, Result, Ok, Err, refl, sym, ◌∙◌, ap, subst, arith, append_assoc, encode_utf8}
use Rattle.std.proofs.lemmas.Bool.Decides.{nat_tests}
use Rattle.std.specs.Char.{digit_value}
use Rattle.std.proofs.lemmas.List.{append-nil}
use Rattle.std.proofs.lemmas.Bool.{eqb-true}
use Rattle.std.specs.List.{prefix_len}
use Rattle.std.specs.Str.{IsUtf8, IsCharBoundary}
use Rattle.std.proofs.lemmas.Str.{IsCharBoundary-after_ascii, encode_ascii}
use Rattle.std.proofs.lemmas.Option.{option_and_then_some, same_Some}
use Rattle.ev_text.specs.Unquoting.{unquoted, closes, begins_escape, stands_for_itself, mark, is_plain, with_front, closed, escape, by_digits, hexadecimal, numbered, named, text_behind}

pub with_front_nil : (r : Result (List ℕ) ℕ) → with_front [] r ≡ r
with_front_nil (Ok text) = refl
with_front_nil (Err place) = refl

pub with_front_append : (xs ys : List ℕ) (r : Result (List ℕ) ℕ) → with_front (xs ++ ys) r ≡ with_front xs (with_front ys r)
with_front_append xs ys (Ok text) = ap Ok (append_assoc xs ys text)
with_front_append xs ys (Err place) = refl

-- bytes that belong to an escape are passed over
pub passes : (k place : ℕ) (bytes : List ℕ) → k ≤ length bytes → text_behind k place bytes ≡ text_behind zero (place + k) (drop k bytes)
unfolding text_behind
passes zero place bytes h = ap (λ n. text_behind zero n bytes) (omega arith)
passes (suc k) place [] h = absurd (omega arith)
passes (suc k) place (b ∷ more) h = passes k (suc place) more (omega arith) ∙ ap (λ n. text_behind zero n (drop k more)) (omega arith)

pub mark_plain : (b : ℕ) → is_plain b ≡ true → mark b ≡ stands_for_itself
mark_plain b e = grind (arith, nat_tests)

mark_closes : (b : ℕ) → b ≡ 34 → mark b ≡ closes
mark_closes b e = grind (arith, nat_tests)

mark_escape : (b : ℕ) → b ≡ 92 → mark b ≡ begins_escape
mark_escape b e = grind (arith, nat_tests)

pub one_plain : (b place : ℕ) (more : List ℕ) → mark b ≡ stands_for_itself → text_behind zero place (b ∷ more) ≡ with_front (b ∷ []) (text_behind zero (suc place) more)
unfolding text_behind
one_plain b place more e = rw (e, text_behind) refl

pub closing : (b place : ℕ) (more : List ℕ) → b ≡ 34 → text_behind zero place (b ∷ more) ≡ closed (suc place) more
unfolding text_behind
closing b place more e = rw (mark_closes b e, text_behind) refl

pub no_escape : (b place : ℕ) (more : List ℕ) → b ≡ 92 → escape more ≡ None → text_behind zero place (b ∷ more) ≡ Err place
unfolding text_behind
no_escape b place more e none = rw (mark_escape b e, text_behind) (rw (none, text_behind) refl)

pub one_escape : (b place : ℕ) (more : List ℕ) (found : ℕ × ℕ) → b ≡ 92 → escape more ≡ Some found → text_behind zero place (b ∷ more) ≡ with_front (encode_utf8 found.0) (text_behind found.1 (suc place) more)
unfolding text_behind
one_escape b place more found e some = rw (mark_escape b e, text_behind) (rw (some, text_behind) refl)

sub_one_suc : (k : ℕ) → 0 < k → suc (k - 1) ≡ k
sub_one_suc k h = omega arith

one_more : (k : ℕ) → 1 + k ≡ suc k
one_more k = omega arith

suc_within : (k : ℕ) (whole more : List ℕ) → length whole ≡ suc (length more) → k ≤ length more → k < length whole
suc_within k whole more e h = omega arith

shorter : (k : ℕ) (more : List ℕ) → k ≤ length more → length (drop k more) + k ≡ length more
shorter k more h = omega (arith, length-drop k more)

shorter_than : (after more : List ℕ) (k : ℕ) → length after + k ≡ length more → 0 < k → length after < suc (length more)
shorter_than after more k e h = omega arith

places : (place k : ℕ) (after more : List ℕ) → length after + k ≡ length more → suc place + k ≡ place + (suc (length more) - length after)
places place k after more e = omega arith

suc_le : {m n : ℕ} → m ≤ n → suc m ≤ suc n
suc_le h = omega arith

less : {m n : ℕ} → suc m < suc n → m < n
less h = omega arith

positive : (n : ℕ) → 0 < suc n
positive n = omega arith

low_high : {b : ℕ} → b < 128 → 128 ≤ b → ⊥
low_high l h = omega arith

moved : (place k : ℕ) → suc place + k ≡ place + suc k
moved place k = omega arith

pub chosen : {A : Type 0} (b : Bool) (x y z : A) → cond b x y ≡ z → ((b ≡ true) × (x ≡ z)) ⊎ ((b ≡ false) × (y ≡ z))
chosen true x y z e = inl (refl, e)
chosen false x y z e = inr (refl, e)

option_map_some : {A B P : Type 0} (f : A → B) (o : Option A) (y : B) → option_map f o ≡ Some y → ((x : A) → o ≡ Some x → f x ≡ y → P) → P
option_map_some f None y e k = absurd (cc)
option_map_some f (Some x) y e k = k x refl (same_Some _ _ e)

named_ascii : (letter c : ℕ) → named letter ≡ Some c → letter < 128
named_ascii letter c e = grind (arith, nat_tests)

digit_ascii : (d : ℕ) → digit_value d < 16 → d < 128
digit_ascii d e = grind (arith, nat_tests)

hexadecimal_ascii : (a b c d n : ℕ) → hexadecimal a b c d ≡ Some n → d < 128
hexadecimal_ascii a b c d n e = digit_ascii d (grind (arith, nat_tests))

numbered_taken : (n : ℕ) (found : ℕ × ℕ) → numbered n ≡ Some found → found.1 ≡ 5
numbered_taken n found e = grind (arith, nat_tests)

-- an escape takes some of the bytes, and the last of them is in ASCII
pub record TakesOf (more : List ℕ) (found : ℕ × ℕ) : Type 0 where
  pub within : found.1 ≤ length more
  pub some : 0 < found.1
  pub ascii : get_or more (found.1 - 1) 0 < 128

-- the same of the digits behind a letter
digits_take : (letter : ℕ) (more : List ℕ) (found : ℕ × ℕ) → by_digits more ≡ Some found → TakesOf (letter ∷ more) found
digits_take letter [] found e = absurd (cc)
digits_take letter (a ∷ []) found e = absurd (cc)
digits_take letter (a ∷ b ∷ []) found e = absurd (cc)
digits_take letter (a ∷ b ∷ c ∷ []) found e = absurd (cc)
digits_take letter (a ∷ b ∷ c ∷ d ∷ more) found e =
    option_and_then_some numbered (hexadecimal a b c d) found e (λ n at is.
    let five : found.1 ≡ 5 = numbered_taken n found is in
    record {
      within = rw five (omega arith);
      some = rw five (omega arith);
      ascii = rw five (hexadecimal_ascii a b c d n at);
    })

letter_takes : (letter : ℕ) (more : List ℕ) (found : ℕ × ℕ) → option_map (λ c. (c, 1)) (named letter) ≡ Some found → TakesOf (letter ∷ more) found
letter_takes letter more found e =
    option_map_some (λ c. (c, 1)) (named letter) found e (λ c at is.
    let one : found.1 ≡ 1 = sym (ap (λ p. p.1) is) in
    record {
      within = rw one (omega arith);
      some = rw one (omega arith);
      ascii = rw one (named_ascii letter c at);
    })

pub escape_takes : (more : List ℕ) (found : ℕ × ℕ) → escape more ≡ Some found → TakesOf more found
escape_takes [] found e = absurd (cc)
escape_takes (letter ∷ more) found e =
    ⊎_elim (λ h. digits_take letter more found h.1) (λ h. letter_takes letter more found h.1) (chosen (eqb letter 117) _ _ (Some found) e)

pub none_escapes : (rest : List ℕ) → slice_get rest 0 ≡ Some 92 → escape (drop 1 rest) ≡ None → (place : ℕ) → text_behind zero place rest ≡ Err place
none_escapes [] first none place = absurd (cc)
none_escapes (b ∷ more) first none place = no_escape b place more (same_Some _ _ first) none

-- a text may be cut behind an escape
pub cut_behind : (rest : List ℕ) (found : ℕ × ℕ) → IsUtf8 rest → slice_get rest 0 ≡ Some 92 → escape (drop 1 rest) ≡ Some found → IsCharBoundary rest (1 + found.1)
cut_behind [] found utf8 first some = absurd (cc)
cut_behind (b ∷ more) found utf8 first some =
    let takes : TakesOf more found = escape_takes more found some in
    let same : suc (found.1 - 1) ≡ found.1 = sub_one_suc found.1 takes.some in
    let here : get_or (b ∷ more) found.1 0 < 128 = subst (λ k. get_or (b ∷ more) k 0 < 128) same takes.ascii in
    let cut : IsCharBoundary (b ∷ more) (found.1 + 1) = IsCharBoundary-after_ascii (b ∷ more) found.1 utf8 (suc_within found.1 (b ∷ more) more refl takes.within) here in
    let swap : found.1 + 1 ≡ 1 + found.1 = omega arith in
    subst (λ k. IsCharBoundary (b ∷ more) k) swap cut

pub some_escapes : (rest after : List ℕ) (found : ℕ × ℕ) → slice_get rest 0 ≡ Some 92 → escape (drop 1 rest) ≡ Some found → after ≡ drop (1 + found.1) rest
    → (length after < length rest) × ((place : ℕ) → text_behind zero place rest ≡ with_front (encode_utf8 found.0) (text_behind zero (place + (length rest - length after)) after))
some_escapes [] after found first some behind = absurd (cc)
some_escapes (b ∷ more) after found first some behind =
    let takes : TakesOf more found = escape_takes more found some in
    let same : after ≡ drop found.1 more = behind ∙ ap (λ k. drop k (b ∷ more)) (one_more found.1) in
    let short : length after + found.1 ≡ length more = ap (λ xs. length xs + found.1) same ∙ shorter found.1 more takes.within in (
      shorter_than after more found.1 short takes.some,
      λ place. one_escape b place more found (same_Some _ _ first) some
          ∙ ap (with_front (encode_utf8 found.0)) (passes found.1 (suc place) more takes.within
          ∙ ap (λ xs. text_behind zero (suc place + found.1) xs) (sym same)
          ∙ ap (λ k. text_behind zero k after) (places place found.1 after more short)),
    )

-- so many bytes at the front are read as they stand
abbrev PlainFront : List ℕ → ℕ → Type 0
PlainFront rest k = (k ≤ length rest) × ((place : ℕ) → text_behind zero place rest ≡ with_front (take k rest) (text_behind zero (place + k) (drop k rest)))

none_plain : (rest : List ℕ) → PlainFront rest 0
none_plain rest = (omega arith, λ place. sym (with_front_nil _) ∙ ap (λ k. with_front [] (text_behind zero k rest)) (sym (add-zero place)))

more_plain : (b k : ℕ) (more : List ℕ) → is_plain b ≡ true → PlainFront more k → PlainFront (b ∷ more) (suc k)
more_plain b k more h front = (
  suc_le front.0,
  λ place. one_plain b place more (mark_plain b h) ∙ ap (with_front (b ∷ [])) (front.1 (suc place))
      ∙ sym (with_front_append (b ∷ []) (take k more) _) ∙ ap (λ n. with_front (b ∷ take k more) (text_behind zero n (drop k more))) (moved place k),
)

passing : (b : ℕ) (more : List ℕ) → is_plain b ≡ true → prefix_len is_plain (b ∷ more) ≡ suc (prefix_len is_plain more)
passing b more h = ap (λ t. cond t (1 + prefix_len is_plain more) 0) h ∙ one_more (prefix_len is_plain more)

failing : (b : ℕ) (more : List ℕ) → is_plain b ≡ false → prefix_len is_plain (b ∷ more) ≡ 0
failing b more h = ap (λ t. cond t (1 + prefix_len is_plain more) 0) h

minus_zero : (k : ℕ) → k - 0 ≡ k
minus_zero k = omega arith

grows : (n k m : ℕ) → n + 0 ≡ k → k ≡ suc m → 0 < n
grows n k m a b = omega arith

true_is : (b : Bool) → IsTrue b → b ≡ true
true_is true h = refl
true_is false h = absurd (cc)

pub bool_cases : (b : Bool) → (b ≡ true) ⊎ (b ≡ false)
bool_cases true = inl refl
bool_cases false = inr refl

pub plain_front : (rest : List ℕ) → PlainFront rest (prefix_len is_plain rest)
plain_front [] = none_plain []
plain_front (b ∷ more) = elim (bool_cases (is_plain b)) [
  | inl h ↦ subst (PlainFront (b ∷ more)) (sym (passing b more h)) (more_plain b _ more h (plain_front more))
  | inr h ↦ subst (PlainFront (b ∷ more)) (sym (failing b more h)) (none_plain (b ∷ more))
]

not_plain_ascii : (b : ℕ) → is_plain b ≡ false → b < 128
not_plain_ascii b e = grind (arith, nat_tests)

abbrev MarkAt : List ℕ → ℕ → Type 0
MarkAt rest k = k < length rest → get_or rest k 0 < 128

mark_behind : (rest : List ℕ) → MarkAt rest (prefix_len is_plain rest)
mark_behind [] = λ h. absurd (omega arith)
mark_behind (b ∷ more) = elim (bool_cases (is_plain b)) [
  | inl h ↦ subst (MarkAt (b ∷ more)) (sym (passing b more h)) (λ lt. mark_behind more (less lt))
  | inr h ↦ subst (MarkAt (b ∷ more)) (sym (failing b more h)) (λ lt. not_plain_ascii b h)
]

-- a text may be cut behind what stands for itself
pub cut_plain : (rest : List ℕ) (k : ℕ) → k ≡ prefix_len is_plain rest → IsCharBoundary rest k
cut_plain rest k e = subst (IsCharBoundary rest) (sym e) ((plain_front rest).0, λ lt high. absurd (low_high (mark_behind rest lt) high))

pub some_plain : (rest front : List ℕ) (k : ℕ) → k ≡ prefix_len is_plain rest → length front + 0 ≡ k → IfSome (slice_get rest 0) (λ b. IsTrue (is_plain b) → 0 < length front)
some_plain [] front k e l = tt
some_plain (b ∷ more) front k e l = λ h. grows (length front) k (prefix_len is_plain more) l (e ∙ passing b more (true_is (is_plain b) h))

pub plain_split : (rest front after : List ℕ) (k : ℕ) → k ≡ prefix_len is_plain rest → front ≡ slice_range rest 0 k → length front + 0 ≡ k → after ≡ drop k rest
    → (place : ℕ) → text_behind zero place rest ≡ with_front front (text_behind zero (place + length front) after)
plain_split rest front after k e f l a place =
    (subst (PlainFront rest) (sym e) (plain_front rest)).1 place
    ∙ ap (λ xs. with_front xs (text_behind zero (place + k) (drop k rest))) (ap (λ n. take n rest) (sym (minus_zero k)) ∙ sym f)
    ∙ ap (with_front front) (ap (λ n. text_behind zero (place + n) (drop k rest)) (sym l ∙ add-zero (length front)) ∙ ap (text_behind zero (place + length front)) (sym a))

-- the text ends where the rest does
pub at_quote : (text rest : List ℕ) (place b : ℕ) (due : Result (List ℕ) ℕ) → slice_get rest 0 ≡ Some b → b ≡ 34 → length rest ≡ 1 → with_front text (text_behind zero place rest) ≡ due → due ≡ Ok text
at_quote text [] place b due first quote one so_far = absurd (cc)
at_quote text (x ∷ []) place b due first quote one so_far =
    sym so_far ∙ ap (with_front text) (closing x place [] (same_Some _ _ first ∙ quote)) ∙ ap Ok (append-nil text)
at_quote text (x ∷ y ∷ more) place b due first quote one so_far = absurd (omega arith)

pub before_more : (text rest : List ℕ) (place b : ℕ) (due : Result (List ℕ) ℕ) → slice_get rest 0 ≡ Some b → b ≡ 34 → ¬ (length rest ≡ 1) → with_front text (text_behind zero place rest) ≡ due → due ≡ Err (place + 1)
before_more text [] place b due first quote some so_far = absurd (cc)
before_more text (x ∷ []) place b due first quote some so_far = absurd (some refl)
before_more text (x ∷ y ∷ more) place b due first quote some so_far =
    sym so_far ∙ ap (with_front text) (closing x place (y ∷ more) (same_Some _ _ first ∙ quote)) ∙ ap Err (sym (add-one place))

pub no_end : (text rest : List ℕ) (place : ℕ) (due : Result (List ℕ) ℕ) → slice_get rest 0 ≡ None → with_front text (text_behind zero place rest) ≡ due → due ≡ Err place
unfolding text_behind
no_end text [] place due none so_far = sym so_far
no_end text (b ∷ rest) place due none so_far = absurd (cc)

-- a text that does not begin with a quote
pub not_opened : (spelling : List ℕ) → ((rest : List ℕ) → spelling ≡ encode_utf8 34 ++ rest → ⊥) → unquoted spelling ≡ Err 0
not_opened [] h = refl
not_opened (b ∷ more) h = elim (bool_cases (eqb b 34)) [
  | inl e ↦ absurd (h more (ap (λ x. x ∷ more) (eqb-true b 34 e) ∙ sym (ap (λ xs. xs ++ more) (encode_ascii 34 (lit< tt)))))
  | inr e ↦ ap (λ t. cond t (text_behind zero 1 more) (Err 0)) e
]
