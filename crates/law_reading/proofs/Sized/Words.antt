-- No text of a token is too long.
use Rattle.std.proofs.Common.{◌≡◌, ℕ, zero, suc, ◌+◌, ◌-◌, ◌*◌, ◌≤◌, ◌&&◌, Bool, true, false, cond, eqb, List, [], ◌∷◌, length, drop, nat_le, slice_get, slice_range, Option, Some, None, Result, Ok, Err, codes, refl, arith, length-append}
use Rattle.std.specs.Prelude.{encode_utf8}
use Rattle.std.proofs.lemmas.List.{length-take, length-drop}
use Rattle.std.proofs.lemmas.Str.{length-encode, len_utf8_bounds}
use Rattle.def_syntax.specs.declared.token.Token.{Token}
use Rattle.def_syntax.specs.declared.syntax.Word.{Word}
use Rattle.ev_text.specs.Unquoting.{Mark, closes, begins_escape, stands_for_itself, mark, escape, with_front, closed, text_behind, unquoted}
use Rattle.ev_parser.specs.declared.draft.Part.{Part}
use Rattle.ev_parser.specs.declared.draft.Part.TheVariants as piece
use Rattle.ev_parser.specs.Surface.{is_boundary, cut, token_text, word_text, part_text, text_at}
use Rattle.ev_desugar.specs.Words.{text_found, text, verb_behind, ejector}
use Rattle.law_reading.specs.Sized.Weights.{over}

-- ---- what stands between quotes

abbrev size : Result (List ℕ) ℕ → ℕ
size (Ok t) = length t
size (Err p) = 0

front_size : (front : List ℕ) (r : Result (List ℕ) ℕ) → size (with_front front r) ≤ length front + size r
front_size front (Ok t) = omega (arith, length-append front t)
front_size front (Err p) = omega arith

closed_size : (place : ℕ) (more : List ℕ) → size (closed place more) ≡ 0
closed_size place [] = refl
closed_size place (b ∷ more) = refl

encoded : (c : ℕ) → length (encode_utf8 c) ≤ 4
encoded c = omega (arith, length-encode c, (len_utf8_bounds c).1)

-- what stands behind a byte stands for at most four bytes each
abbrev Short : ℕ → List ℕ → Type 0
Short place more = (n : ℕ) → size (text_behind n (suc place) more) ≤ 4 * length more

escaped : (o : Option (ℕ × ℕ)) (place : ℕ) (more : List ℕ) → Short place more
    → size (elim o as (λ _. Result (List ℕ) ℕ) [ None ↦ Err place | Some found ↦ with_front (encode_utf8 found.0) (text_behind found.1 (suc place) more) ]) ≤ 4 * suc (length more)
escaped None place more h = omega arith
escaped (Some found) place more h = omega (arith, front_size (encode_utf8 found.0) (text_behind found.1 (suc place) more), encoded found.0, h found.1)

marked : (m : Mark) (b place : ℕ) (more : List ℕ) → Short place more
    → size (elim m as (λ _. Result (List ℕ) ℕ) [
      | closes ↦ closed (suc place) more
      | begins_escape ↦ elim (escape more) as (λ _. Result (List ℕ) ℕ) [ None ↦ Err place | Some found ↦ with_front (encode_utf8 found.0) (text_behind found.1 (suc place) more) ]
      | stands_for_itself ↦ with_front (b ∷ []) (text_behind zero (suc place) more)
    ]) ≤ 4 * suc (length more)
marked closes b place more h = omega (arith, closed_size (suc place) more)
marked begins_escape b place more h = escaped (escape more) place more h
marked stands_for_itself b place more h = omega (arith, front_size (b ∷ []) (text_behind zero (suc place) more), h zero)

behind_size : (passed place : ℕ) (bytes : List ℕ) → size (text_behind passed place bytes) ≤ 4 * length bytes
unfolding text_behind
behind_size passed place [] = omega arith
behind_size (suc passed) place (b ∷ more) = omega (arith, behind_size passed (suc place) more)
behind_size zero place (b ∷ more) = marked (mark b) b place more (λ n. behind_size n (suc place) more)

quoted : (q : Bool) (more : List ℕ) → size (cond q (text_behind zero 1 more) (Err 0)) ≤ 4 * suc (length more)
quoted true more = omega (arith, behind_size zero 1 more)
quoted false more = omega arith

unquoted_size : (x : List ℕ) → size (unquoted x) ≤ 4 * length x
unquoted_size [] = omega arith
unquoted_size (b ∷ more) = quoted (eqb b 34) more

found_size : (r : Result (List ℕ) ℕ) → length (text_found r) ≡ size r
unfolding text_found
found_size (Ok t) = refl
found_size (Err p) = refl

text_size : (x : List ℕ) → length (text x) ≤ 4 * length x
unfolding text
text_size x = omega (arith, found_size (unquoted x), unquoted_size x)

pub text_over : (x : List ℕ) → length x ≤ 65536 → over (text x) ≡ 0
text_over x h = omega (arith, text_size x)

either : (b : Bool) (x y : List ℕ) (n : ℕ) → length x ≤ n → length y ≤ n → length (cond b x y) ≤ n
either true x y n h k = h
either false x y n h k = k

verb_size : (x : List ℕ) → length (verb_behind x) ≤ 4 * length x
unfolding verb_behind
verb_size [] = omega arith
verb_size (b ∷ v) = either (eqb b 34) (text (b ∷ v)) (b ∷ v) (4 * length (b ∷ v)) (text_size (b ∷ v)) (omega arith)

pub verb_over : (x : List ℕ) → length x ≤ 65536 → over (verb_behind x) ≡ 0
verb_over x h = omega (arith, verb_size x)

pub ejector_over : (x : List ℕ) → length x ≤ 65536 → over (ejector x) ≡ 0
unfolding ejector
ejector_over x h = omega (arith, length-append (codes "__") x)

pub name_over : (x : List ℕ) → length x ≤ 65536 → over x ≡ 0
name_over x h = omega arith

-- ---- the text of a token

cut_size : (s : List ℕ) (i j : ℕ) → length (cut s i j) ≤ length s
cut_size s i j = either (nat_le i j && (is_boundary s i && is_boundary s j)) (slice_range s i j) [] (length s) (omega (arith, length-take (j - i) (drop i s), length-drop i s)) (omega arith)

token_size : (s : List ℕ) (o : Option Token) → length (token_text s o) ≤ length s
token_size s None = omega arith
token_size s (Some t) = cut_size s t.start t.end

pub word_size : (s : List ℕ) (ts : List Token) (w : Word) → length (word_text s ts w) ≤ length s
word_size s ts w = token_size s (slice_get ts w.number)

part_size : (s : List ℕ) (ts : List Token) (o : Option Part) → length (part_text s ts o) ≤ length s
part_size s ts (Some (piece.Token w)) = word_size s ts w
part_size s ts other = omega arith

pub text_at_size : (s : List ℕ) (ts : List Token) (ps : List Part) (k : ℕ) → length (text_at s ts ps k) ≤ length s
text_at_size s ts ps k = part_size s ts (slice_get ps k)
