-- The words of a line, character by character.
use Rattle.std.proofs.Common.{◌&&◌, ◌≡◌, ℕ, ◌+◌, ◌<◌, ◌≤◌, ◌^◌, Bool, true, false, eqb, List, [], ◌∷◌, ◌++◌, length, length-append, append_assoc, inl, inr, refl, sym, ◌∙◌, ap, arith}
use Rattle.std.specs.Prelude.{nat_le}
use Rattle.std.specs.Char.{encode_utf8}
use Rattle.std.specs.List.{list_all}
use Rattle.std.proofs.lemmas.List.{append-nil}
use Rattle.std.proofs.lemmas.Bool.{cases_lt}
use Rattle.std.proofs.lemmas.Bool.Decides.{nat_tests}
use Rattle.std.proofs.lemmas.Str.{encode_ascii}
use Rattle.ev_trace_words.specs.declared.words.Quote.{Quote}
use Rattle.ev_trace_words.specs.declared.words.Quote.TheVariants.{Outside, InText, InCharacter, EscapedText, EscapedCharacter}
use Rattle.ev_trace_words.specs.Words.{behind_depth, behind_quote, ends_word, is_outside, words_from, words_of}

-- ---- bytes of a character that takes several end no word, and only the first of them may end an escape

abbrev calm : Quote → Quote
calm Outside = Outside
calm InText = InText
calm InCharacter = InCharacter
calm EscapedText = InText
calm EscapedCharacter = InCharacter

calm_twice : (quote : Quote) → calm (calm quote) ≡ calm quote
calm_twice Outside = refl
calm_twice InText = refl
calm_twice InCharacter = refl
calm_twice EscapedText = refl
calm_twice EscapedCharacter = refl

not_mark : (b mark : ℕ) → 128 ≤ b → mark < 128 → eqb b mark ≡ false
not_mark b mark high low = grind (arith, nat_tests)

calm_behind : (quote : Quote) (b : ℕ) → 128 ≤ b → behind_quote quote b ≡ calm quote
calm_behind Outside b h = rw (not_mark b 34 h (omega arith), not_mark b 39 h (omega arith)) refl
calm_behind InText b h = rw (not_mark b 92 h (omega arith), not_mark b 34 h (omega arith)) refl
calm_behind InCharacter b h = rw (not_mark b 92 h (omega arith), not_mark b 39 h (omega arith)) refl
calm_behind EscapedText b h = refl
calm_behind EscapedCharacter b h = refl

same_depth : (quote : Quote) (depth b : ℕ) → 128 ≤ b → behind_depth quote depth b ≡ depth
same_depth Outside depth b h = rw (not_mark b 91 h (omega arith), not_mark b 93 h (omega arith)) refl
same_depth InText depth b h = refl
same_depth InCharacter depth b h = refl
same_depth EscapedText depth b h = refl
same_depth EscapedCharacter depth b h = refl

ends_none : (quote : Quote) (depth b : ℕ) → 128 ≤ b → ends_word quote depth b ≡ false
ends_none quote depth b h = rw (not_mark b 32 h (omega arith)) refl

-- a byte that ends no word
pub goes_on : (quote : Quote) (depth b : ℕ) (word bs : List ℕ) → ends_word quote depth b ≡ false
    → words_from quote depth word (b ∷ bs) ≡ words_from (behind_quote quote b) (behind_depth quote depth b) (word ++ b ∷ []) bs
unfolding words_from
goes_on quote depth b word bs e = rw e refl

-- a byte that ends a word
pub ends : (quote : Quote) (depth b : ℕ) (word bs : List ℕ) → ends_word quote depth b ≡ true
    → words_from quote depth word (b ∷ bs) ≡ word ∷ words_from quote depth [] bs
unfolding words_from
ends quote depth b word bs e = rw e refl

wide_byte : (quote : Quote) (depth b : ℕ) (word bs : List ℕ) → 128 ≤ b → words_from quote depth word (b ∷ bs) ≡ words_from (calm quote) depth (word ++ b ∷ []) bs
wide_byte quote depth b word bs h =
    goes_on quote depth b word bs (ends_none quote depth b h)
    ∙ ap (λ q. words_from q (behind_depth quote depth b) (word ++ b ∷ []) bs) (calm_behind quote b h)
    ∙ ap (λ d. words_from (calm quote) d (word ++ b ∷ []) bs) (same_depth quote depth b h)

high : (b : ℕ) → nat_le 128 b ≡ true → 128 ≤ b
high b e = grind (arith, nat_tests)

both_left : (a b : Bool) → (a && b) ≡ true → a ≡ true
both_left true b e = refl
both_left false b e = absurd cc

both_right : (a b : Bool) → (a && b) ≡ true → b ≡ true
both_right true b e = e
both_right false b e = absurd cc

-- what stands at a place where no escape is open
calm_bytes : (quote : Quote) (depth : ℕ) (word bs rest : List ℕ) → calm quote ≡ quote → list_all (nat_le 128) bs ≡ true
    → words_from quote depth word (bs ++ rest) ≡ words_from quote depth (word ++ bs) rest
calm_bytes quote depth word [] rest q e = ap (λ w. words_from quote depth w rest) (sym (append-nil word))
calm_bytes quote depth word (b ∷ bs) rest q e =
    wide_byte quote depth b word (bs ++ rest) (high b (both_left (nat_le 128 b) (list_all (nat_le 128) bs) e))
    ∙ ap (λ k. words_from k depth (word ++ b ∷ []) (bs ++ rest)) q
    ∙ calm_bytes quote depth (word ++ b ∷ []) bs rest q (both_right (nat_le 128 b) (list_all (nat_le 128) bs) e)
    ∙ ap (λ w. words_from quote depth w rest) (append_assoc word (b ∷ []) bs)

wide_bytes : (quote : Quote) (depth : ℕ) (word bs rest : List ℕ) → 0 < length bs → list_all (nat_le 128) bs ≡ true
    → words_from quote depth word (bs ++ rest) ≡ words_from (calm quote) depth (word ++ bs) rest
wide_bytes quote depth word [] rest some e = absurd (omega arith)
wide_bytes quote depth word (b ∷ bs) rest some e =
    wide_byte quote depth b word (bs ++ rest) (high b (both_left (nat_le 128 b) (list_all (nat_le 128) bs) e))
    ∙ calm_bytes (calm quote) depth (word ++ b ∷ []) bs rest (calm_twice quote) (both_right (nat_le 128 b) (list_all (nat_le 128) bs) e)
    ∙ ap (λ w. words_from (calm quote) depth w rest) (append_assoc word (b ∷ []) bs)

wide : (c : ℕ) → 128 ≤ c → list_all (nat_le 128) (encode_utf8 c) ≡ true
unfolding encode_utf8
wide c h = grind (arith, nat_tests)

some_bytes : (c : ℕ) → 128 ≤ c → 0 < length (encode_utf8 c)
unfolding encode_utf8
some_bytes c h = grind (arith, nat_tests)

-- ---- a character that ends no word

narrow_character : (quote : Quote) (depth c : ℕ) (word rest : List ℕ) → c < 128 → ends_word quote depth c ≡ false
    → words_from quote depth word (encode_utf8 c ++ rest) ≡ words_from (behind_quote quote c) (behind_depth quote depth c) (word ++ encode_utf8 c) rest
narrow_character quote depth c word rest low e =
    ap (λ bs. words_from quote depth word (bs ++ rest)) (encode_ascii c low) ∙ goes_on quote depth c word rest e
    ∙ ap (λ bs. words_from (behind_quote quote c) (behind_depth quote depth c) (word ++ bs) rest) (sym (encode_ascii c low))

wide_character : (quote : Quote) (depth c : ℕ) (word rest : List ℕ) → 128 ≤ c
    → words_from quote depth word (encode_utf8 c ++ rest) ≡ words_from (behind_quote quote c) (behind_depth quote depth c) (word ++ encode_utf8 c) rest
wide_character quote depth c word rest h =
    wide_bytes quote depth word (encode_utf8 c) rest (some_bytes c h) (wide c h)
    ∙ ap (λ q. words_from q depth (word ++ encode_utf8 c) rest) (sym (calm_behind quote c h))
    ∙ ap (λ d. words_from (behind_quote quote c) d (word ++ encode_utf8 c) rest) (sym (same_depth quote depth c h))

character_goes_on : (quote : Quote) (depth c : ℕ) (word rest : List ℕ) → ends_word quote depth c ≡ false
    → words_from quote depth word (encode_utf8 c ++ rest) ≡ words_from (behind_quote quote c) (behind_depth quote depth c) (word ++ encode_utf8 c) rest
character_goes_on quote depth c word rest e = elim (cases_lt c 128) [
  | inl low ↦ narrow_character quote depth c word rest low e
  | inr h ↦ wide_character quote depth c word rest h
]

space_is_narrow : (quote : Quote) (depth c : ℕ) → ends_word quote depth c ≡ true → c < 128
space_is_narrow quote depth c e = let s : eqb c 32 ≡ true = both_left (eqb c 32) (is_outside quote) (both_left (eqb c 32 && is_outside quote) (eqb depth 0) e) in grind (arith, nat_tests)

-- ---- the loop

-- the words that were read, and those of what is left, are the words of the line
pub record Reads (words : List (List ℕ)) (quote : Quote) (depth : ℕ) (word rest line : List ℕ) : Type 0 where
  pub within : depth + length rest ≤ length line
  pub made : words ++ words_from quote depth word rest ≡ words_of line

deeper : (quote : Quote) (depth b : ℕ) → behind_depth quote depth b ≤ depth + 1
deeper Outside depth b = grind (arith, nat_tests)
deeper InText depth b = omega arith
deeper InCharacter depth b = omega arith
deeper EscapedText depth b = omega arith
deeper EscapedCharacter depth b = omega arith

shorter : (c : ℕ) (rest text : List ℕ) → text ≡ encode_utf8 c ++ rest → length rest < length text
shorter c rest text e = elim (cases_lt c 128) [
  | inl low ↦ let n : length text ≡ 1 + length rest = ap length (e ∙ ap (λ bs. bs ++ rest) (encode_ascii c low)) ∙ (omega arith) in omega arith
  | inr h ↦ let n : length text ≡ length (encode_utf8 c) + length rest = ap length e ∙ length-append (encode_utf8 c) rest in omega (arith, some_bytes c h)
]

pub reads_on : (quote : Quote) (depth c : ℕ) (words : List (List ℕ)) (word new text rest line : List ℕ) → ends_word quote depth c ≡ false → text ≡ encode_utf8 c ++ rest → new ≡ word ++ encode_utf8 c
    → Reads words quote depth word text line → Reads words (behind_quote quote c) (behind_depth quote depth c) new rest line
reads_on quote depth c words word new text rest line e here wrote so_far = record {
  within = omega (arith, so_far.within, deeper quote depth c, shorter c rest text here);
  made =
      ap (λ w. words ++ words_from (behind_quote quote c) (behind_depth quote depth c) w rest) wrote
      ∙ ap (λ ws. words ++ ws) (sym (ap (words_from quote depth word) here ∙ character_goes_on quote depth c word rest e)) ∙ so_far.made;
}

pub reads_word : (quote : Quote) (depth c : ℕ) (words more : List (List ℕ)) (word text rest line : List ℕ) → ends_word quote depth c ≡ true → text ≡ encode_utf8 c ++ rest → more ≡ words ++ word ∷ []
    → Reads words quote depth word text line → Reads more quote depth [] rest line
reads_word quote depth c words more word text rest line e here grown so_far = record {
  within = omega (arith, so_far.within, shorter c rest text here);
  made =
      ap (λ ws. ws ++ words_from quote depth [] rest) grown ∙ append_assoc words (word ∷ []) (words_from quote depth [] rest)
      ∙ ap (λ ws. words ++ ws) (sym (ap (words_from quote depth word) (here ∙ ap (λ bs. bs ++ rest) (encode_ascii c (space_is_narrow quote depth c e))) ∙ ends quote depth c word rest e))
      ∙ so_far.made;
}

pub reads_on_by : (quote next : Quote) (depth deep c : ℕ) (words : List (List ℕ)) (word new text rest line : List ℕ) → next ≡ behind_quote quote c → deep ≡ behind_depth quote depth c
    → ends_word quote depth c ≡ false → text ≡ encode_utf8 c ++ rest → new ≡ word ++ encode_utf8 c → Reads words quote depth word text line → Reads words next deep new rest line
reads_on_by quote next depth deep c words word new text rest line q d e here wrote so_far = rw (q, d) (reads_on quote depth c words word new text rest line e here wrote so_far)

pub reads_word_by : (quote : Quote) (depth c : ℕ) (words more : List (List ℕ)) (word read fresh text rest line : List ℕ) → fresh ≡ [] → read ≡ word → ends_word quote depth c ≡ true
    → text ≡ encode_utf8 c ++ rest → more ≡ words ++ read ∷ [] → Reads words quote depth word text line → Reads more quote depth fresh rest line
reads_word_by quote depth c words more word read fresh text rest line f r e here grown so_far =
    rw f (reads_word quote depth c words more word text rest line e here (grown ∙ ap (λ w. words ++ w ∷ []) r) so_far)

at_end : (quote : Quote) (depth : ℕ) (word rest : List ℕ) → length rest ≡ 0 → words_from quote depth word rest ≡ word ∷ []
unfolding words_from
at_end quote depth word [] e = refl
at_end quote depth word (b ∷ bs) e = absurd (omega arith)

pub all_read : (quote : Quote) (depth : ℕ) (words more : List (List ℕ)) (word rest line : List ℕ) → length rest ≡ 0 → more ≡ words ++ word ∷ []
    → Reads words quote depth word rest line → more ≡ words_of line
all_read quote depth words more word rest line none grown so_far = grown ∙ ap (λ ws. words ++ ws) (sym (at_end quote depth word rest none)) ∙ so_far.made

pub room : (depth : ℕ) (quote : Quote) (c : ℕ) (words : List (List ℕ)) (word text rest line : List ℕ) → text ≡ encode_utf8 c ++ rest → length line < 2 ^ 63
    → Reads words quote depth word text line → depth + 1 < 2 ^ 64
room depth quote c words word text rest line here small so_far = omega (arith, so_far.within, shorter c rest text here)
