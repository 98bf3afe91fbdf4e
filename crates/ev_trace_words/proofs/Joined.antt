-- The words of a line, with a space between two, are the line.
use Rattle.std.proofs.Common.{◌&&◌, ◌≡◌, ℕ, ◌<◌, Bool, true, false, eqb, List, [], ◌∷◌, ◌++◌, length, append_assoc, refl, sym, ◌∙◌, ap, arith}
use Rattle.std.specs.List.{flat_map}
use Rattle.std.proofs.lemmas.Bool.{eqb-true}
use Rattle.def_event.specs.Lines.{spaced}
use Rattle.ev_trace_words.specs.declared.words.Quote.{Quote}
use Rattle.ev_trace_words.specs.declared.words.Quote.TheVariants.{Outside}
use Rattle.ev_trace_words.specs.Words.{behind_depth, behind_quote, ends_word, is_outside, words_from, words_of}
use Rattle.ev_trace_words.proofs.WordLemmas.{goes_on, ends}

some_by : (quote : Quote) (depth b : ℕ) (word bs : List ℕ) (t : Bool) → ends_word quote depth b ≡ t → 0 < length (words_from (behind_quote quote b) (behind_depth quote depth b) (word ++ b ∷ []) bs)
    → 0 < length (words_from quote depth word (b ∷ bs))
some_by quote depth b word bs true e h = let n = ap length (ends quote depth b word bs e) in omega (arith, n)
some_by quote depth b word bs false e h = let n = ap length (goes_on quote depth b word bs e) in omega (arith, n, h)

-- there is at least one word
some : (quote : Quote) (depth : ℕ) (word bs : List ℕ) → 0 < length (words_from quote depth word bs)
unfolding words_from
some quote depth word [] = omega arith
some quote depth word (b ∷ bs) = some_by quote depth b word bs (ends_word quote depth b) refl (some (behind_quote quote b) (behind_depth quote depth b) (word ++ b ∷ []) bs)

lead : (words : List (List ℕ)) → 0 < length words → flat_map (λ v. 32 ∷ v) words ≡ 32 ∷ spaced words
lead [] h = absurd (omega arith)
lead (w ∷ words) h = refl

space : (quote : Quote) (depth b : ℕ) → ends_word quote depth b ≡ true → b ≡ 32
space quote depth b e = eqb-true b 32 (first (eqb b 32) (is_outside quote) (first (eqb b 32 && is_outside quote) (eqb depth 0) e))
  where
    first : (s t : Bool) → (s && t) ≡ true → s ≡ true
    first true t e = refl
    first false t e = absurd cc

joined_by : (quote : Quote) (depth b : ℕ) (word bs : List ℕ) (t : Bool) → ends_word quote depth b ≡ t → spaced (words_from quote depth [] bs) ≡ bs
    → spaced (words_from (behind_quote quote b) (behind_depth quote depth b) (word ++ b ∷ []) bs) ≡ (word ++ b ∷ []) ++ bs → spaced (words_from quote depth word (b ∷ bs)) ≡ word ++ b ∷ bs
joined_by quote depth b word bs true e next on =
    ap spaced (ends quote depth b word bs e)
    ∙ ap (λ v. word ++ v) (lead (words_from quote depth [] bs) (some quote depth [] bs) ∙ ap (λ v. 32 ∷ v) next ∙ ap (λ c. c ∷ bs) (sym (space quote depth b e)))
joined_by quote depth b word bs false e next on = ap spaced (goes_on quote depth b word bs e) ∙ on ∙ append_assoc word (b ∷ []) bs

joined : (quote : Quote) (depth : ℕ) (word bs : List ℕ) → spaced (words_from quote depth word bs) ≡ word ++ bs
unfolding words_from
joined quote depth word [] = refl
joined quote depth word (b ∷ bs) =
    joined_by quote depth b word bs (ends_word quote depth b) refl (joined quote depth [] bs) (joined (behind_quote quote b) (behind_depth quote depth b) (word ++ b ∷ []) bs)

pub line_again : (line : List ℕ) → spaced (words_of line) ≡ line
line_again line = joined Outside 0 [] line
