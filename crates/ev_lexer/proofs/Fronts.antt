-- How the front of a text is read that goes on with an identifier.
use Rattle.std.proofs.Common.{◌≡◌, ℕ, suc, ◌+◌, ◌≤◌, true, false, cond, List, [], ◌∷◌, ◌++◌, length, take, drop, refl, sym, ◌∙◌, ap, subst, arith, append_assoc, slice_range, ◌-◌}
use Rattle.std.specs.Char.{encode_utf8, len_utf8}
use Rattle.std.specs.List.{prefix_len}
use Rattle.std.specs.Str.{chars, IsUtf8, IsCharBoundary, encode_utf8_all}
use Rattle.std.proofs.lemmas.List.{append-nil, length-append, take_at, drop_at}
use Rattle.std.proofs.lemmas.Str.{chars-nil, chars_past_char, IsUtf8-past_char, IsCharBoundary-at_seam, IsCharBoundary-from_rest, length-encode}
use Rattle.def_text.specs.Keywords.{begins_identifier, continues_identifier}
use Rattle.def_syntax.specs.declared.token.TokenKind.{TokenKind}
use Rattle.ev_lexer.specs.declared.pieces.Piece.TheVariants.{Whole}
use Rattle.ev_lexer.specs.Words.{longest_operator, word_kind}
use Rattle.ev_lexer.specs.Pieces.{front_word, operator, word, word_or_operator}

-- the characters at the front that go on
abbrev pub going : List ℕ → List ℕ
going cs = encode_utf8_all (take (prefix_len continues_identifier cs) cs)

one_more : (k : ℕ) → 1 + k ≡ suc k
one_more k = omega arith

going_on : (c : ℕ) (cs : List ℕ) → continues_identifier c ≡ true → going (c ∷ cs) ≡ encode_utf8 c ++ going cs
going_on c cs e =
    ap (λ t. encode_utf8_all (take (cond t (1 + prefix_len continues_identifier cs) 0) (c ∷ cs))) e
    ∙ ap (λ k. encode_utf8_all (take k (c ∷ cs))) (one_more (prefix_len continues_identifier cs))

going_ends : (c : ℕ) (cs : List ℕ) → continues_identifier c ≡ false → going (c ∷ cs) ≡ []
going_ends c cs e = ap (λ t. encode_utf8_all (take (cond t (1 + prefix_len continues_identifier cs) 0) (c ∷ cs))) e

-- so many bytes were read of a text, and what is left
pub record Goes (n : ℕ) (rest text : List ℕ) : Type 0 where
  pub front : List ℕ
  pub long : length front ≡ n
  pub whole : text ≡ front ++ rest
  pub utf8 : IsUtf8 rest
  pub read : front ++ going (chars rest) ≡ going (chars text)

begins : (text : List ℕ) → IsUtf8 text → Goes 0 text text
begins text utf8 = record { front = []; long = refl; whole = refl; utf8 = utf8; read = refl }

pub begins_at : (rest text : List ℕ) → rest ≡ text → IsUtf8 text → Goes 0 rest text
begins_at rest text e utf8 = subst (λ xs. Goes 0 xs text) (sym e) (begins text utf8)

goes_on : (c n : ℕ) (rest after text : List ℕ) → rest ≡ encode_utf8 c ++ after → continues_identifier c ≡ true → Goes n rest text → Goes (n + len_utf8 c) after text
goes_on c n rest after text here goes so_far = record {
  front = so_far.front ++ encode_utf8 c;
  long = length-append so_far.front (encode_utf8 c) ∙ ap (λ k. k + length (encode_utf8 c)) so_far.long ∙ ap (λ k. n + k) (length-encode c);
  whole = so_far.whole ∙ ap (λ xs. so_far.front ++ xs) here ∙ sym (append_assoc so_far.front (encode_utf8 c) after);
  utf8 = IsUtf8-past_char rest after c so_far.utf8 here;
  read =
      append_assoc so_far.front (encode_utf8 c) (going (chars after))
      ∙ ap (λ xs. so_far.front ++ xs) (sym (ap going (chars_past_char rest after c so_far.utf8 here) ∙ going_on c (chars after) goes))
      ∙ so_far.read;
}

pub goes_further : (c n w : ℕ) (rest after text : List ℕ) → w ≡ len_utf8 c → rest ≡ encode_utf8 c ++ after → continues_identifier c ≡ true → Goes n rest text → Goes (n + w) after text
goes_further c n w rest after text wide here goes so_far = subst (λ k. Goes (n + k) after text) (sym wide) (goes_on c n rest after text here goes so_far)

-- so many bytes at the front go on, and the text may be cut behind them
pub record Front (n : ℕ) (text : List ℕ) : Type 0 where
  pub read : take n text ≡ going (chars text)
  pub boundary : IsCharBoundary text n

stops : (n : ℕ) (rest text : List ℕ) → going (chars rest) ≡ [] → Goes n rest text → Front n text
stops n rest text none so_far = record {
  read =
      ap (take n) so_far.whole ∙ take_at so_far.front rest n so_far.long ∙ sym (append-nil so_far.front)
      ∙ ap (λ xs. so_far.front ++ xs) (sym none) ∙ so_far.read;
  boundary = subst (IsCharBoundary text) so_far.long (IsCharBoundary-at_seam text so_far.front rest so_far.whole so_far.utf8);
}

pub stops_before : (c n : ℕ) (rest after text : List ℕ) → rest ≡ encode_utf8 c ++ after → continues_identifier c ≡ false → Goes n rest text → Front n text
stops_before c n rest after text here other so_far =
    stops n rest text (ap going (chars_past_char rest after c so_far.utf8 here) ∙ going_ends c (chars after) other) so_far

nothing_left : (rest : List ℕ) → length rest ≡ 0 → going (chars rest) ≡ []
nothing_left [] e = ap going chars-nil
nothing_left (b ∷ rest) e = absurd (omega arith)

pub stops_at_end : (n : ℕ) (rest text : List ℕ) → length rest ≡ 0 → Goes n rest text → Front n text
stops_at_end n rest text e so_far = stops n rest text (nothing_left rest e) so_far

within : (a b c n : ℕ) → a + b ≡ c → a ≡ n → n ≤ c
within a b c n e f = omega arith

pub goes_within : (n : ℕ) (rest text : List ℕ) → Goes n rest text → n ≤ length text
goes_within n rest text so_far =
    within (length so_far.front) (length rest) (length text) n (sym (length-append so_far.front rest) ∙ sym (ap length so_far.whole)) so_far.long

pub goes_after : (c n w : ℕ) (rest after text : List ℕ) → w ≡ len_utf8 c → rest ≡ encode_utf8 c ++ after → continues_identifier c ≡ true → Goes n rest text → n + w ≤ length text
goes_after c n w rest after text wide here goes so_far = goes_within (n + w) after text (goes_further c n w rest after text wide here goes so_far)

behind_first : (c : ℕ) (text rest : List ℕ) → text ≡ encode_utf8 c ++ rest → drop (len_utf8 c) text ≡ rest
behind_first c text rest here = ap (drop (len_utf8 c)) here ∙ drop_at (encode_utf8 c) rest (len_utf8 c) (length-encode c)

first_within : (c : ℕ) (text rest : List ℕ) → text ≡ encode_utf8 c ++ rest → len_utf8 c ≤ length text
first_within c text rest here = within (length (encode_utf8 c)) (length rest) (length text) (len_utf8 c) (sym (length-append (encode_utf8 c) rest) ∙ sym (ap length here)) (length-encode c)

-- a text may be cut behind its first character and those that go on
pub word_boundary : (c w n : ℕ) (text rest : List ℕ) → w ≡ len_utf8 c → text ≡ encode_utf8 c ++ rest → IsCharBoundary rest n → IsCharBoundary text (w + n)
word_boundary c w n text rest wide here cut =
    subst (λ k. IsCharBoundary text (k + n)) (sym wide)
    (IsCharBoundary-from_rest text (len_utf8 c) n (first_within c text rest here) (subst (λ xs. IsCharBoundary xs n) (sym (behind_first c text rest here)) cut))

take_behind : (front rest : List ℕ) (n : ℕ) → take (length front + n) (front ++ rest) ≡ front ++ take n rest
take_behind [] rest n = ap (λ k. take k rest) (omega arith)
take_behind (b ∷ front) rest n =
    let next : suc (length front) + n ≡ suc (length front + n) = omega arith in
    ap (λ k. take k (b ∷ (front ++ rest))) next ∙ ap (λ xs. b ∷ xs) (take_behind front rest n)

minus_zero : (k : ℕ) → k - 0 ≡ k
minus_zero k = omega arith

-- and what stands before is the word
word_spelled : (c w n : ℕ) (text rest spelled : List ℕ) → w ≡ len_utf8 c → text ≡ encode_utf8 c ++ rest → take n rest ≡ going (chars rest) → spelled ≡ slice_range text 0 (w + n)
    → spelled ≡ front_word c (chars rest)
word_spelled c w n text rest spelled wide here read is =
    is ∙ ap (λ k. take k text) (minus_zero (w + n)) ∙ ap (take (w + n)) here
    ∙ ap (λ k. take (k + n) (encode_utf8 c ++ rest)) (wide ∙ sym (length-encode c)) ∙ take_behind (encode_utf8 c) rest n ∙ ap (λ xs. encode_utf8 c ++ xs) read

same_long : (m n : ℕ) → m + 0 ≡ n → m ≡ n
same_long m n e = omega arith

pub word_is : (kind : TokenKind) (c w n : ℕ) (text rest spelled : List ℕ) → w ≡ len_utf8 c → text ≡ encode_utf8 c ++ rest → take n rest ≡ going (chars rest) → spelled ≡ slice_range text 0 (w + n)
    → length spelled + 0 ≡ w + n → kind ≡ word_kind spelled → Whole kind (w + n) ≡ word (front_word c (chars rest))
word_is kind c w n text rest spelled wide here read is long e =
    ap (λ k. Whole k (w + n)) e ∙ ap (Whole (word_kind spelled)) (sym (same_long (length spelled) (w + n) long))
    ∙ ap word (word_spelled c w n text rest spelled wide here read is)

-- a text whose first character begins no word
pub not_a_word : (c : ℕ) (text behind : List ℕ) → IsUtf8 text → text ≡ encode_utf8 c ++ behind → begins_identifier c ≡ false → word_or_operator text (chars text) ≡ operator (longest_operator text)
not_a_word c text behind utf8 here other =
    ap (word_or_operator text) (chars_past_char text behind c utf8 here)
    ∙ ap (λ t. cond t (word (front_word c (chars behind))) (operator (longest_operator text))) other
