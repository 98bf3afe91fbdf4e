-- Names of vats that stand in a word are found there.
use Rattle.std.proofs.Common.{◌≡◌, ◌++◌, ◌&&◌, ◌||◌, ℕ, Bool, true, false, eqb, List, [], ◌∷◌, Option, Some, None, inl, inr, refl, sym, ◌∙◌, ap, subst, append_assoc, arith}
use Rattle.std.specs.List.{list_all}
use Rattle.std.proofs.lemmas.Bool.Decides.{nat_tests}
use Rattle.std.proofs.lemmas.List.{append-nil}
use Rattle.ev_script.specs.Vats.{is_lower_or_digit}
use Rattle.law_text.specs.Text.Words.{Place, Outside, IsWord, behind, reads, reads_on}
use Rattle.law_text.proofs.Text.Reading.{Goes}
use Rattle.ev_trace_words.specs.declared.words.Quote.{Quote}
use Rattle.ev_trace_words.specs.declared.words.Quote.TheVariants as quote
use Rattle.ev_trace_words.specs.Words.{behind_quote, is_outside}
use Rattle.ev_trace.specs.Naming.{ends_name, is_mark, only_if, scan}
use Rattle.law_trace.specs.Trace.Found.{Stands}
use Rattle.law_trace.proofs.Trace.ValuesAgain.{both}
use Rattle.law_trace.proofs.Trace.WordsAgain.{Steps, quote_of, steps}

pub in_left : (n : List ℕ) (xs ys : List (List ℕ)) → Stands n xs → Stands n (xs ++ ys)
in_left n [] ys h = absurd h
in_left n (x ∷ xs) ys (inl e) = inl e
in_left n (x ∷ xs) ys (inr h) = inr (in_left n xs ys h)

pub in_right : (n : List ℕ) (xs ys : List (List ℕ)) → Stands n ys → Stands n (xs ++ ys)
in_right n [] ys h = h
in_right n (x ∷ xs) ys h = inr (in_right n xs ys h)

-- ---- a run of letters and digits

letter_on : (q : Quote) (rooted provides : Bool) (run : List ℕ) (b : ℕ) (rest : List ℕ) → (is_outside q && is_lower_or_digit b) ≡ true → scan q rooted provides run (b ∷ rest) ≡ scan q rooted provides (run ++ b ∷ []) rest
unfolding scan
letter_on q rooted provides run b rest e = rw e refl

pub runs_on : (rooted provides : Bool) (run w rest : List ℕ) → list_all is_lower_or_digit w ≡ true → scan quote.Outside rooted provides run (w ++ rest) ≡ scan quote.Outside rooted provides (run ++ w) rest
runs_on rooted provides run [] rest h = ap (λ r. scan quote.Outside rooted provides r rest) (sym (append-nil run))
runs_on rooted provides run (b ∷ w) rest h =
    let t = both (is_lower_or_digit b) (list_all is_lower_or_digit w) h in
    letter_on quote.Outside rooted provides run b (w ++ rest) t.0 ∙ runs_on rooted provides (run ++ b ∷ []) w rest t.1 ∙ ap (λ r. scan quote.Outside rooted provides r rest) (append_assoc run (b ∷ []) w)

-- which stands behind no `^`
pub run_on : (rooted : Bool) (run w rest : List ℕ) → list_all is_lower_or_digit w ≡ true → scan quote.Outside rooted false run (w ++ rest) ≡ scan quote.Outside rooted false (run ++ w) rest
run_on rooted run w rest h = runs_on rooted false run w rest h

-- a byte that is no letter and no digit
pub ends_on : (q : Quote) (rooted provides : Bool) (run : List ℕ) (b : ℕ) (rest : List ℕ) → (is_outside q && is_lower_or_digit b) ≡ false
    → scan q rooted provides run (b ∷ rest) ≡ only_if (is_outside q && ends_name rooted provides b) run ++ scan (behind_quote q b) (is_outside q && eqb b 64) (is_outside q && eqb b 94) [] rest
unfolding scan
ends_on q rooted provides run b rest e = rw e refl

pub other_on : (q : Quote) (rooted : Bool) (run : List ℕ) (b : ℕ) (rest : List ℕ) → (is_outside q && is_lower_or_digit b) ≡ false
    → scan q rooted false run (b ∷ rest) ≡ only_if (is_outside q && (rooted || is_mark b)) run ++ scan (behind_quote q b) (is_outside q && eqb b 64) (is_outside q && eqb b 94) [] rest
other_on q rooted run b rest e = ends_on q rooted false run b rest e

kept_run : (t : Bool) (run : List ℕ) (rest : List (List ℕ)) → t ≡ true → Stands run (only_if t run ++ rest)
kept_run true run rest e = inl refl
kept_run false run rest e = absurd cc

-- a name in front of a mark
pub mark_in : (w rest : List ℕ) (mark : ℕ) → list_all is_lower_or_digit w ≡ true → is_lower_or_digit mark ≡ false → is_mark mark ≡ true → Stands w (scan quote.Outside false false [] (w ++ mark ∷ rest))
mark_in w rest mark h e m =
    subst (Stands w) (sym (run_on false [] w (mark ∷ rest) h ∙ other_on quote.Outside false w mark rest e)) (kept_run (is_mark mark) w (scan (behind_quote quote.Outside mark) (eqb mark 64) (eqb mark 94) [] rest) m)

-- a name behind the mark of an answer
pub behind_in : (n w rest : List ℕ) → list_all is_lower_or_digit w ≡ true → Stands n (scan quote.Outside false false [] rest) → Stands n (scan quote.Outside false false [] (w ++ 63 ∷ rest))
behind_in n w rest h i = subst (Stands n) (sym (run_on false [] w (63 ∷ rest) h ∙ other_on quote.Outside false w 63 rest refl)) (inr i)

-- the provider behind the mark of a gift
pub provider_in : (n w rest : List ℕ) → list_all is_lower_or_digit w ≡ true → list_all is_lower_or_digit n ≡ true → Stands n (scan quote.Outside false false [] (w ++ 94 ∷ (n ++ 58 ∷ rest)))
provider_in n w rest h k =
    subst (Stands n) (sym (run_on false [] w (94 ∷ (n ++ 58 ∷ rest)) h ∙ other_on quote.Outside false w 94 (n ++ 58 ∷ rest) refl))
    (inr (subst (Stands n) (sym (runs_on false true [] n (58 ∷ rest) k ∙ ends_on quote.Outside false true n 58 rest refl)) (inl refl)))

-- what may stand behind a value: nothing, or a byte that is no letter and no digit
abbrev pub Ends : List ℕ → Type 0
Ends [] = Unit {0}
Ends (c ∷ rest) = is_lower_or_digit c ≡ false

rooted_end : (w tail : List ℕ) → Ends tail → Stands w (scan quote.Outside true false w tail)
unfolding scan
rooted_end w [] e = inl refl
rooted_end w (c ∷ tail) e = subst (Stands w) (sym (other_on quote.Outside true w c tail e)) (inl refl)

-- a name that stands alone, and a root
pub bare_in : (w tail : List ℕ) → list_all is_lower_or_digit w ≡ true → Ends tail → Stands w (scan quote.Outside true false [] (w ++ tail))
bare_in w tail h e = subst (Stands w) (sym (run_on true [] w tail h)) (rooted_end w tail e)

pub root_in : (w tail : List ℕ) → list_all is_lower_or_digit w ≡ true → Ends tail → Stands w (scan quote.Outside false false [] (64 ∷ (w ++ tail)))
root_in w tail h e = subst (Stands w) (sym (other_on quote.Outside false [] 64 (w ++ tail) refl)) (bare_in w tail h e)

-- ---- behind a whole word

abbrev quote_after : Quote → List ℕ → Quote
quote_after q [] = q
quote_after q (b ∷ bs) = quote_after (behind_quote q b) bs

along : (p q : Place) (xs : List ℕ) → Goes p xs q → quote_after (quote_of p) xs ≡ quote_of q
along p q [] h = let same : p ≡ q = cc in ap quote_of same
along p q (x ∷ xs) h = by (behind p x) (steps p x) h (λ r i. along r q xs i)
  where
    by : (o : Option Place) → Steps p x o → reads_on (reads xs) o ≡ Some q → ((r : Place) → Goes r xs q → quote_after (quote_of r) xs ≡ quote_of q) → quote_after (behind_quote (quote_of p) x) xs ≡ quote_of q
    by None s i more = cc
    by (Some r) s i more = ap (λ k. quote_after k xs) s.1 ∙ more r i

letter_stays : (b : ℕ) → is_lower_or_digit b ≡ true → behind_quote quote.Outside b ≡ quote.Outside
letter_stays b h = rw (not_mark b 34 h refl, not_mark b 39 h refl) refl
  where
    not_mark : (b k : ℕ) → is_lower_or_digit b ≡ true → is_lower_or_digit k ≡ false → eqb b k ≡ false
    not_mark b k h e = grind (arith, nat_tests)

-- a letter outside quotes leaves the reader there
stays : (q : Quote) (b : ℕ) → (is_outside q && is_lower_or_digit b) ≡ true → behind_quote q b ≡ q
stays quote.Outside b h = letter_stays b h
stays other b h = absurd cc

behind_space : (n : List ℕ) (q : Quote) (rooted provides : Bool) (run rest : List ℕ) → q ≡ quote.Outside → Stands n (scan quote.Outside false false [] rest) → Stands n (scan q rooted provides run (32 ∷ rest))
behind_space n q rooted provides run rest e i =
    subst (λ k. Stands n (scan k rooted provides run (32 ∷ rest))) (sym e)
    (subst (Stands n) (sym (ends_on quote.Outside rooted provides run 32 rest refl)) (in_right n (only_if (ends_name rooted provides 32) run) (scan quote.Outside false false [] rest) i))

word_behind : (n : List ℕ) (q : Quote) (rooted provides : Bool) (run xs rest : List ℕ) → quote_after q xs ≡ quote.Outside → Stands n (scan quote.Outside false false [] rest) → Stands n (scan q rooted provides run (xs ++ 32 ∷ rest))
word_behind n q rooted provides run [] rest e i = behind_space n q rooted provides run rest e i
word_behind n q rooted provides run (b ∷ xs) rest e i =
    by (is_outside q && is_lower_or_digit b) refl (λ r p more k. word_behind n q r p more xs rest k i) (λ r p. word_behind n (behind_quote q b) r p [] xs rest e i)
  where
    by : (t : Bool) → (is_outside q && is_lower_or_digit b) ≡ t → ((r p : Bool) (more : List ℕ) → quote_after q xs ≡ quote.Outside → Stands n (scan q r p more (xs ++ 32 ∷ rest)))
        → ((r p : Bool) → Stands n (scan (behind_quote q b) r p [] (xs ++ 32 ∷ rest))) → Stands n (scan q rooted provides run (b ∷ (xs ++ 32 ∷ rest)))
    by true s same other = subst (Stands n) (sym (letter_on q rooted provides run b (xs ++ 32 ∷ rest) s)) (same rooted provides (run ++ b ∷ []) (ap (λ k. quote_after k xs) (sym (stays q b s)) ∙ e))
    by false s same other =
        subst (Stands n) (sym (ends_on q rooted provides run b (xs ++ 32 ∷ rest) s)) (in_right n (only_if (is_outside q && ends_name rooted provides b) run) _ (other (is_outside q && eqb b 64) (is_outside q && eqb b 94)))

-- what is found behind a word and a space is found in the whole
pub later_in : (n w rest : List ℕ) → IsWord w → Stands n (scan quote.Outside false false [] rest) → Stands n (scan quote.Outside false false [] (w ++ 32 ∷ rest))
later_in n w rest h i = word_behind n quote.Outside false false [] w rest (along (Outside 0) (Outside 0) w (h 0)) i
