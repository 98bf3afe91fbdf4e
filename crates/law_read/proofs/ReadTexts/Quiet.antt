-- Where no name is found: in words without marks, and between quotes.
use Rattle.std.proofs.Common.{◌≡◌, ◌++◌, ◌+◌, ◌/◌, ◌%◌, ◌<◌, ◌&&◌, ◌||◌, ℕ, zero, suc, Bool, true, false, not, cond, eqb, ltb, List, [], ◌∷◌, Some, refl, sym, ◌∙◌, ap, subst, append_assoc, arith}
use Rattle.std.specs.Prelude.{slice_get}
use Rattle.std.specs.List.{flat_map, list_all}
use Rattle.std.specs.Char.{digit_char, encode_utf8}
use Rattle.std.proofs.lemmas.Bool.Decides.{nat_tests}
use Rattle.def_text.specs.Quoting.{by_number, escaped, escaped_character, quoted, quoted_character}
use Rattle.ev_script.specs.Vats.{is_lower_or_digit}
use Rattle.law_text.proofs.Text.Front.{both_true, true_false}
use Rattle.law_text.proofs.Text.Quotes.{encoded}
use Rattle.law_text.proofs.Text.Reading.{differs, unmet}
use Rattle.ev_trace_words.specs.declared.words.Quote.{Quote}
use Rattle.ev_trace_words.specs.declared.words.Quote.TheVariants.{Outside, InText, InCharacter, EscapedText, EscapedCharacter}
use Rattle.ev_trace_words.specs.Words.{behind_quote, is_outside}
use Rattle.ev_trace.specs.Naming.{is_mark, only_if, scan}
use Rattle.law_trace.proofs.Trace.ValuesAgain.{both}
use Rattle.law_trace.proofs.Trace.ScanLemmas.{ends_on, other_on, run_on}

-- what is found in a word that stands for a value
abbrev pub In : List ℕ → List (List ℕ)
In word = scan Outside false false [] word

-- ---- bytes of words without marks

-- the quotes, `@`, and the marks behind names of vats
abbrev pub loud : List ℕ
loud = 34 ∷ 39 ∷ 64 ∷ 46 ∷ 126 ∷ 63 ∷ 94 ∷ 37 ∷ 38 ∷ 47 ∷ []

abbrev pub is_quiet : ℕ → Bool
is_quiet b = list_all (λ k. not (eqb b k)) loud

apart_from : (p : ℕ → Bool) (b : ℕ) (ks : List ℕ) → list_all (λ k. not (p k)) ks ≡ true → p b ≡ true → list_all (λ k. not (eqb b k)) ks ≡ true
apart_from p b [] h e = refl
apart_from p b (k ∷ ks) h e =
    let t = both (not (p k)) (list_all (λ j. not (p j)) ks) h in both_true (not (eqb b k)) (list_all (λ j. not (eqb b j)) ks) (differs b k p (unmet (p k) t.0) e) (apart_from p b ks t.1 e)

-- by a test that none of those passes
pub quiet_by : (p : ℕ → Bool) (b : ℕ) → list_all (λ k. not (p k)) loud ≡ true → p b ≡ true → is_quiet b ≡ true
quiet_by p b h e = apart_from p b loud h e

at : (p : ℕ → Bool) (ks : List ℕ) (i k : ℕ) → slice_get ks i ≡ Some k → list_all p ks ≡ true → p k ≡ true
at p [] i k e h = absurd cc
at p (j ∷ ks) zero k e h = let same : j ≡ k = cc in subst (λ n. p n ≡ true) same (both (p j) (list_all p ks) h).0
at p (j ∷ ks) (suc i) k e h = at p ks i k e (both (p j) (list_all p ks) h).1

off : (b : ℕ) → is_quiet b ≡ true → (i k : ℕ) → slice_get loud i ≡ Some k → eqb b k ≡ false
off b h i k e = unmet (eqb b k) (at (λ j. not (eqb b j)) loud i k e h)

no_mark : (b : ℕ) → is_quiet b ≡ true → is_mark b ≡ false
no_mark b h = rw (off b h 3 46 refl, off b h 4 126 refl, off b h 5 63 refl, off b h 6 94 refl, off b h 7 37 refl, off b h 8 38 refl, off b h 9 47 refl) refl

stays : (b : ℕ) → is_quiet b ≡ true → behind_quote Outside b ≡ Outside
stays b h = rw (off b h 0 34 refl, off b h 1 39 refl) refl

quiet_one : (run : List ℕ) (b : ℕ) (rest : List ℕ) → is_quiet b ≡ true → is_lower_or_digit b ≡ false → scan Outside false false run (b ∷ rest) ≡ In rest
quiet_one run b rest h e =
    other_on Outside false run b rest e ∙ ap (λ t. only_if t run ++ scan (behind_quote Outside b) (eqb b 64) (eqb b 94) [] rest) (no_mark b h)
    ∙ ap (λ q. scan q (eqb b 64) (eqb b 94) [] rest) (stays b h) ∙ ap (λ t. scan Outside t (eqb b 94) [] rest) (off b h 2 64 refl) ∙ ap (λ t. scan Outside false t [] rest) (off b h 6 94 refl)

-- ---- what may stand behind a word: nothing, or a byte that is no letter, no digit, no mark and no colon

abbrev pub Stops : List ℕ → Type 0
Stops [] = Unit {0}
Stops (c ∷ rest) = (is_lower_or_digit c ≡ false) × (is_mark c ≡ false) × (eqb c 58 ≡ false)

-- the run that was read is no name there
unrooted : (run tail : List ℕ) → Stops tail → scan Outside false false run tail ≡ In tail
unfolding scan
unrooted run [] e = refl
unrooted run (c ∷ tail) e =
    let more = scan (behind_quote Outside c) (eqb c 64) (eqb c 94) [] tail in
    other_on Outside false run c tail e.0 ∙ ap (λ t. only_if t run ++ more) e.1 ∙ sym (ap (λ t. only_if t [] ++ more) e.1) ∙ sym (other_on Outside false [] c tail e.0)

-- and behind `@`, or where a vat stands, it is one
pub rooted : (run tail : List ℕ) → Stops tail → scan Outside true false run tail ≡ run ∷ In tail
unfolding scan
rooted run [] e = refl
rooted run (c ∷ tail) e =
    let more = scan (behind_quote Outside c) (eqb c 64) (eqb c 94) [] tail in
    other_on Outside true run c tail e.0 ∙ ap (λ xs. run ∷ xs) (sym (other_on Outside false [] c tail e.0 ∙ ap (λ t. only_if t [] ++ more) e.1))

-- behind `^` it is the number of a gift
pub numbering : (run tail : List ℕ) → Stops tail → scan Outside false true run tail ≡ In tail
unfolding scan
numbering run [] e = refl
numbering run (c ∷ tail) e =
    let more = scan (behind_quote Outside c) (eqb c 64) (eqb c 94) [] tail in
    ends_on Outside false true run c tail e.0 ∙ ap (λ t. only_if (t || (false || is_mark c)) run ++ more) e.2 ∙ ap (λ t. only_if t run ++ more) e.1 ∙ sym (ap (λ t. only_if t [] ++ more) e.1) ∙ sym (other_on Outside false [] c tail e.0)

quiet_from : (run w tail : List ℕ) → list_all is_quiet w ≡ true → Stops tail → scan Outside false false run (w ++ tail) ≡ In tail
quiet_from run [] tail h e = unrooted run tail e
quiet_from run (b ∷ w) tail h e = let t = both (is_quiet b) (list_all is_quiet w) h in by (is_lower_or_digit b) refl t.0 (λ r. quiet_from r w tail t.1 e)
  where
    by : (t : Bool) → is_lower_or_digit b ≡ t → is_quiet b ≡ true → ((r : List ℕ) → scan Outside false false r (w ++ tail) ≡ In tail) → scan Outside false false run (b ∷ (w ++ tail)) ≡ In tail
    by true s q more = run_on false run (b ∷ []) (w ++ tail) (both_true (is_lower_or_digit b) true s refl) ∙ more (run ++ b ∷ [])
    by false s q more = quiet_one run b (w ++ tail) q s ∙ more []

-- nothing is found in a word without marks
pub quiet_word : (w tail : List ℕ) → list_all is_quiet w ≡ true → Stops tail → In (w ++ tail) ≡ In tail
quiet_word w tail h e = quiet_from [] w tail h e

-- ---- between quotes

step : (q r : Quote) (b : ℕ) (rest : List ℕ) → is_outside q ≡ false → behind_quote q b ≡ r → scan q false false [] (b ∷ rest) ≡ scan r false false [] rest
step q r b rest e f =
    other_on q false [] b rest (ap (λ t. t && is_lower_or_digit b) e) ∙ ap (λ t. only_if (t && is_mark b) [] ++ scan (behind_quote q b) (t && eqb b 64) (t && eqb b 94) [] rest) e ∙ ap (λ k. scan k false false [] rest) f

-- between quotes of one kind, where a byte that is neither the quote nor a backslash stays there, and an escape comes back
record Between (here shield : Quote) (quote : ℕ) : Type 0 where
  on : (b : ℕ) → eqb b quote ≡ false → eqb b 92 ≡ false → behind_quote here b ≡ here
  slash : behind_quote here 92 ≡ shield
  back : (b : ℕ) → behind_quote shield b ≡ here
  within : is_outside here ≡ false
  shielded : is_outside shield ≡ false

double : Between InText EscapedText 34
double = record { on = λ b e f. rw (f, e) refl; slash = refl; back = λ b. refl; within = refl; shielded = refl }

single : Between InCharacter EscapedCharacter 39
single = record { on = λ b e f. rw (f, e) refl; slash = refl; back = λ b. refl; within = refl; shielded = refl }

digit_low : (d k : ℕ) → ltb d 10 ≡ true → k < 48 → (eqb (48 + d) k ≡ false) × (eqb (48 + d) 92 ≡ false)
digit_low d k e h = (grind (arith, nat_tests), grind (arith, nat_tests))

digit_high : (d k : ℕ) → ltb d 10 ≡ false → k < 48 → (eqb (87 + d) k ≡ false) × (eqb (87 + d) 92 ≡ false)
digit_high d k e h = (grind (arith, nat_tests), grind (arith, nat_tests))

digit_is : (d k : ℕ) → k < 48 → (eqb (digit_char d) k ≡ false) × (eqb (digit_char d) 92 ≡ false)
digit_is d k h = by (ltb d 10) refl
  where
    by : (t : Bool) → ltb d 10 ≡ t → (eqb (cond t (48 + d) (87 + d)) k ≡ false) × (eqb (cond t (48 + d) (87 + d)) 92 ≡ false)
    by true e = digit_low d k e h
    by false e = digit_high d k e h

wide_is : (b k : ℕ) → 127 < b → k < 48 → (eqb b k ≡ false) × (eqb b 92 ≡ false)
wide_is b k h l = (grind (arith, nat_tests), grind (arith, nat_tests))

module _ (here shield : Quote) (quote : ℕ) (q : Between here shield quote) (low : quote < 48) where
  -- nothing is found in it, and what stands behind is between the quotes too
  abbrev Silent : List ℕ → Type 0
  Silent w = (rest : List ℕ) → scan here false false [] (w ++ rest) ≡ scan here false false [] rest

  one : (b : ℕ) → eqb b quote ≡ false → eqb b 92 ≡ false → Silent (b ∷ [])
  one b e f rest = step here here b rest q.within (q.on b e f)

  escape : (b : ℕ) → Silent (92 ∷ b ∷ [])
  escape b rest = step here shield 92 (b ∷ rest) q.within q.slash ∙ step shield here b rest q.shielded (q.back b)

  joined : (xs ys : List ℕ) → Silent xs → Silent ys → Silent (xs ++ ys)
  joined xs ys h k rest = ap (scan here false false []) (append_assoc xs ys rest) ∙ h (ys ++ rest) ∙ k rest

  digit : (d : ℕ) → Silent (digit_char d ∷ [])
  digit d = let t = digit_is d quote low in one (digit_char d) t.0 t.1

  zero_digit : Silent (48 ∷ [])
  zero_digit = digit 0

  numbered : (b : ℕ) → Silent (by_number b)
  numbered b =
      let last = joined (digit_char (b / 16) ∷ []) (digit_char (b % 16) ∷ []) (digit (b / 16)) (digit (b % 16)) in
      joined (92 ∷ 117 ∷ []) (48 ∷ 48 ∷ digit_char (b / 16) ∷ digit_char (b % 16) ∷ []) (escape 117)
      (joined (48 ∷ []) (48 ∷ digit_char (b / 16) ∷ digit_char (b % 16) ∷ []) zero_digit (joined (48 ∷ []) (digit_char (b / 16) ∷ digit_char (b % 16) ∷ []) zero_digit last))

  pick : (t : Bool) (xs ys : List ℕ) → (t ≡ true → Silent xs) → (t ≡ false → Silent ys) → Silent (cond t xs ys)
  pick true xs ys h k = h refl
  pick false xs ys h k = k refl

  -- what stands for a byte, where that is not the quote or has an escape
  one_escaped : (b : ℕ) → (eqb b 34 ≡ false → eqb b quote ≡ false) → Silent (escaped b)
  one_escaped b apart =
      pick (eqb b 10) _ _ (λ e. escape 110) (λ e.
      pick (eqb b 9) _ _ (λ e. escape 116) (λ e.
      pick (eqb b 13) _ _ (λ e. escape 114) (λ e.
      pick (eqb b 92) _ _ (λ e. escape 92) (λ slash.
      pick (eqb b 34) _ _ (λ e. escape 34) (λ e.
      pick (ltb b 32) _ _ (λ f. numbered b) (λ f. one b (apart e) slash))))))

  each_escaped : (text : List ℕ) → ((b : ℕ) → Silent (escaped b)) → Silent (flat_map escaped text)
  each_escaped [] h = λ rest. refl
  each_escaped (b ∷ text) h = joined (escaped b) (flat_map escaped text) (h b) (each_escaped text h)

  wide : (b : ℕ) (bs : List ℕ) → 127 < b → Silent bs → Silent (b ∷ bs)
  wide b bs h k = let t = wide_is b quote h low in joined (b ∷ []) bs (one b t.0 t.1) k

-- nothing is found in a text
pub quoted_word : (text rest : List ℕ) → In (quoted text ++ rest) ≡ In rest
quoted_word text rest =
    let inner = flat_map escaped text in
    other_on Outside false [] 34 ((inner ++ 34 ∷ []) ++ rest) refl ∙ ap (scan InText false false []) (append_assoc inner (34 ∷ []) rest)
    ∙ each_escaped InText EscapedText 34 double (omega arith) text (λ b. one_escaped InText EscapedText 34 double (omega arith) b (λ e. e)) (34 ∷ rest)
    ∙ step InText Outside 34 rest refl refl

-- and in a character
character_inner : (c : ℕ) → Silent InCharacter EscapedCharacter 39 single (omega arith) (cond (eqb c 39) (92 ∷ 39 ∷ []) (escaped_character c))
character_inner c =
    let low : 39 < 48 = omega arith in
    pick InCharacter EscapedCharacter 39 single low (eqb c 39) (92 ∷ 39 ∷ []) (escaped_character c) (λ e. escape InCharacter EscapedCharacter 39 single low 39)
    (λ apart. pick InCharacter EscapedCharacter 39 single low (ltb c 128) (escaped c) (encode_utf8 c) (λ e. one_escaped InCharacter EscapedCharacter 39 single low c (λ f. apart))
    (λ e. encoded (Silent InCharacter EscapedCharacter 39 single low) (λ rest. refl) (wide InCharacter EscapedCharacter 39 single low) c (λ f. absurd (true_false (sym f ∙ e)))))

pub character_word : (c : ℕ) (rest : List ℕ) → In (quoted_character c ++ rest) ≡ In rest
character_word c rest =
    let inner = cond (eqb c 39) (92 ∷ 39 ∷ []) (escaped_character c) in
    other_on Outside false [] 39 ((inner ++ 39 ∷ []) ++ rest) refl ∙ ap (scan InCharacter false false []) (append_assoc inner (39 ∷ []) rest)
    ∙ character_inner c (39 ∷ rest) ∙ step InCharacter Outside 39 rest refl refl
