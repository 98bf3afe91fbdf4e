-- Longer texts are read as their spelling.
use Rattle.std.proofs.Common.{◌≡◌, ◌<◌, ◌≤◌, ◌+◌, ◌-◌, ◌++◌, ◌&&◌, ◌^◌, ℕ, zero, suc, Bool, true, false, not, cond, eqb, ltb, leb, List, [], ◌∷◌, Option, Some, length, length-append, take, drop, take_at, drop_at, refl, sym, ◌∙◌, ap, append_assoc, arith}
use Rattle.std.specs.Prelude.{chars, decimal, option_map, slice_index, Result, Ok}
use Rattle.std.specs.Char.{is_ascii_digit}
use Rattle.std.specs.Path.{rfind_below, rsplit_once}
use Rattle.std.specs.Str.{all_ascii_digits, encode_utf8_all}
use Rattle.std.proofs.Math.Utf8.{scalars}
use Rattle.std.proofs.lemmas.Bool.{leb-true}
use Rattle.std.proofs.lemmas.Bool.Decides.{nat_tests}
use Rattle.std.proofs.lemmas.Str.{chars-encodes, encodes-chars, length-le-encodes, scalars-chars}
use Rattle.def_text.specs.Quoting.{quoted, shortened, shown_length}
use Rattle.ev_trace_words.specs.Parts.{behind_mark, count}
use Rattle.ev_trace_words.specs.Texts.{cut, cut_by, shown_text, text, whole}
use Rattle.ev_trace_words.specs.Values.{all_of}
use Rattle.ev_trace_words.proofs.Printed.{count_again, digits_lack, lacks, split_again}
use Rattle.law_trace.specs.Trace.Seen.{seen_text}
use Rattle.law_trace.specs.Trace.Readable.{IsText}
use Rattle.law_trace.proofs.Trace.ValuesAgain.{both}
use Rattle.law_trace.proofs.Trace.IntegersAgain.{decimal_some, digits_alone}
use Rattle.law_trace.proofs.Trace.TextsAgain.{shown_again, text_again}

-- ---- one after another

pub all_more : {A B : Type 0} (f : A → Result B ℕ) (x : A) (xs : List A) (y : B) (ys : List B) → f x ≡ Ok y → all_of f xs ≡ Ok ys → all_of f (x ∷ xs) ≡ Ok (y ∷ ys)
all_more f x xs y ys e g = rw e (rw g refl)

-- ---- split at a mark

-- where the mark is the first byte
pub behind_again : (mark : ℕ) (rest : List ℕ) → behind_mark mark (mark ∷ rest) ≡ Some rest
behind_again mark rest = rw (split_again mark [] rest refl) refl

-- ---- split at a last mark

not_it : (b mark : ℕ) → not (eqb b mark) ≡ true → eqb b mark ≡ false
not_it b mark h = grind (arith, nat_tests)

same_mark : (mark : ℕ) → eqb mark mark ≡ true
same_mark mark = grind (arith, nat_tests)

-- what stands at the mark, and behind it
at_mark : (mark : ℕ) (front behind : List ℕ) → slice_index (front ++ mark ∷ behind) (length front) ≡ mark
at_mark mark [] behind = refl
at_mark mark (b ∷ front) behind = at_mark mark front behind

past_mark : (mark : ℕ) (front behind : List ℕ) (n : ℕ) → slice_index (front ++ mark ∷ behind) (suc (n + length front)) ≡ slice_index behind n
past_mark mark [] behind n = let same : n + 0 ≡ n = omega arith in ap (slice_index behind) same
past_mark mark (b ∷ front) behind n = let same : suc (n + suc (length front)) ≡ suc (suc (n + length front)) = omega arith in ap (slice_index (b ∷ (front ++ mark ∷ behind))) same ∙ past_mark mark front behind n

lacks_there : (mark : ℕ) (word : List ℕ) (n : ℕ) → n < length word → lacks mark word ≡ true → eqb (slice_index word n) mark ≡ false
lacks_there mark [] n l h = absurd (omega arith)
lacks_there mark (b ∷ word) zero l h = not_it b mark (both (not (eqb b mark)) (lacks mark word) h).0
lacks_there mark (b ∷ word) (suc n) l h = lacks_there mark word n (omega arith) (both (not (eqb b mark)) (lacks mark word) h).1

found : (mark : ℕ) (front behind : List ℕ) (n m : ℕ) → m ≡ n + length front → n ≤ length behind → lacks mark behind ≡ true → rfind_below mark (front ++ mark ∷ behind) (suc m) ≡ Some (length front)
found mark front behind zero m e l h =
    let word = front ++ mark ∷ behind in
    let same : m ≡ length front = omega (arith, e) in
    ap (λ c. cond {A = Option ℕ} (eqb c mark) (Some m) (rfind_below mark word m)) (ap (slice_index word) same ∙ at_mark mark front behind)
    ∙ ap (λ b. cond {A = Option ℕ} b (Some m) (rfind_below mark word m)) (same_mark mark) ∙ ap Some same
found mark front behind (suc n) zero e l h = absurd (omega (arith, e))
found mark front behind (suc n) (suc m) e l h =
    let word = front ++ mark ∷ behind in
    let same : suc m ≡ suc (n + length front) = omega (arith, e) in
    ap (λ c. cond {A = Option ℕ} (eqb c mark) (Some (suc m)) (rfind_below mark word (suc m))) (ap (slice_index word) same ∙ past_mark mark front behind n)
    ∙ ap (λ b. cond {A = Option ℕ} b (Some (suc m)) (rfind_below mark word (suc m))) (lacks_there mark behind n (omega arith) h)
    ∙ found mark front behind n m (omega (arith, same)) (omega arith) h

pub last_split : (mark : ℕ) (front behind : List ℕ) → lacks mark behind ≡ true → rsplit_once mark (front ++ mark ∷ behind) ≡ Some (front, behind)
unfolding rsplit_once
last_split mark front behind h =
    let word = front ++ mark ∷ behind in
    let long : length word ≡ suc (length behind + length front) = omega (arith, length-append front (mark ∷ behind)) in
    let one : length (front ++ mark ∷ []) ≡ length front + 1 = length-append front (mark ∷ []) in
    let first : take (length front) word ≡ front = take_at front (mark ∷ behind) (length front) refl in
    let second : drop (length front + 1) word ≡ behind = ap (drop (length front + 1)) (sym (append_assoc front (mark ∷ []) behind)) ∙ drop_at (front ++ mark ∷ []) behind (length front + 1) one in
    ap (λ n. option_map (λ (i : ℕ). (take i word, drop (i + 1) word)) (rfind_below mark word n)) long
    ∙ ap (option_map (λ (i : ℕ). (take i word, drop (i + 1) word))) (found mark front behind (length behind) (length behind + length front) refl (omega arith) h)
    ∙ ap (λ f. Some (f, drop (length front + 1) word)) first ∙ ap (λ b. Some (front, b)) second

-- ---- a word that ends with a digit

last_past : (b : ℕ) (word : List ℕ) → 0 < length word → slice_index (b ∷ word) (length (b ∷ word) - 1) ≡ slice_index word (length word - 1)
last_past b word h = let place : length (b ∷ word) - 1 ≡ suc (length word - 1) = omega arith in ap (slice_index (b ∷ word)) place

last_digit : (word : List ℕ) → 0 < length word → all_ascii_digits word ≡ true → is_ascii_digit (slice_index word (length word - 1)) ≡ true
last_digit [] l h = absurd (omega arith)
last_digit (b ∷ []) l h = (both (is_ascii_digit b) true h).0
last_digit (b ∷ c ∷ word) l h = ap is_ascii_digit (last_past b (c ∷ word) (omega arith)) ∙ last_digit (c ∷ word) (omega arith) (both (is_ascii_digit b) (all_ascii_digits (c ∷ word)) h).1

last_behind : (front word : List ℕ) → 0 < length word → slice_index (front ++ word) (length (front ++ word) - 1) ≡ slice_index word (length word - 1)
last_behind [] word h = refl
last_behind (b ∷ front) word h =
    let long : 0 < length (front ++ word) = omega (arith, length-append front word, h) in last_past b (front ++ word) long ∙ last_behind front word h

no_quote : (b : ℕ) → is_ascii_digit b ≡ true → eqb b 34 ≡ false
no_quote b h = grind (arith, nat_tests)

ends_so : (front word : List ℕ) → 0 < length word → all_ascii_digits word ≡ true → eqb (slice_index (front ++ word) (length (front ++ word) - 1)) 34 ≡ false
ends_so front word l h = ap (λ c. eqb c 34) (last_behind front word l) ∙ no_quote (slice_index word (length word - 1)) (last_digit word l h)

-- ---- the spelling of a longer text

scalars-take : (n : ℕ) (cs : List ℕ) → scalars cs ≡ true → scalars (take n cs) ≡ true
scalars-take zero cs h = refl
scalars-take (suc n) [] h = refl
scalars-take (suc n) (c ∷ cs) h = let t = both _ (scalars cs) h in and_true _ (scalars (take n cs)) t.0 (scalars-take n cs t.1)
  where
    and_true : (a b : Bool) → a ≡ true → b ≡ true → (a && b) ≡ true
    and_true a b e f = rw (e, f) refl

length-take : (n : ℕ) (cs : List ℕ) → n ≤ length cs → length (take n cs) ≡ n
length-take zero cs h = refl
length-take (suc n) [] h = absurd (omega arith)
length-take (suc n) (c ∷ cs) h = ap suc (length-take n cs (omega arith))

cut_is : (word first second front : List ℕ) (more : ℕ) → rsplit_once 43 word ≡ Some (first, second) → text first ≡ Ok front → count second ≡ Some more → eqb (length (chars front)) 32 ≡ true → ltb 0 more ≡ true
    → cut word ≡ Ok word
cut_is word first second front more s t c e f = ap (cut_by word) s ∙ by t c e f
  where
    by : text first ≡ Ok front → count second ≡ Some more → eqb (length (chars front)) 32 ≡ true → ltb 0 more ≡ true → cut_by word (Some (first, second)) ≡ Ok word
    by t c e f = rw t (rw c (rw (e, f) refl))

equal : (n k : ℕ) → n ≡ k → eqb n k ≡ true
equal n k e = grind (arith, nat_tests)

below : (n k : ℕ) → n < k → ltb n k ≡ true
below n k h = grind (arith, nat_tests)

module _ (t : List ℕ) (is : IsText t) (longer : 32 < length (chars t)) where
  abbrev front : List ℕ
  front = encode_utf8_all (take shown_length (chars t))

  abbrev more : ℕ
  more = length (chars t) - shown_length

  few : length (chars t) < 2 ^ 64
  few =
      let most : length (chars t) ≤ length (encode_utf8_all (chars t)) = length-le-encodes (chars t) in
      let same : length (encode_utf8_all (chars t)) ≡ length t = ap length (encodes-chars t is.0) in
      let small : length t < 2 ^ 64 = is.1 in
      omega (arith, most, same, small)

  more_small : more < 2 ^ 64
  more_small = omega (arith, few)

  more_wide : more < 10 ^ 64
  more_wide = omega (arith, few)

  more_some : 0 < more
  more_some = omega (arith, longer)

  thirty_two : length (chars front) ≡ 32
  thirty_two = ap length (chars-encodes (take shown_length (chars t)) (scalars-take shown_length (chars t) (scalars-chars t is.0))) ∙ length-take 32 (chars t) (omega (arith, longer))

  abbrev spelled : List ℕ
  spelled = quoted front ++ 43 ∷ decimal more

  read_cut : cut spelled ≡ Ok spelled
  read_cut = cut_is spelled (quoted front) (decimal more) front more (last_split 43 (quoted front) (decimal more) (digits_lack 43 more refl more_small)) (text_again front) (count_again more more_small)
      (equal (length (chars front)) 32 thirty_two) (below 0 more more_some)

  no_end : eqb (slice_index spelled (length spelled - 1)) 34 ≡ false
  no_end = ap (λ w. eqb (slice_index w (length w - 1)) 34) (sym (append_assoc (quoted front) (43 ∷ []) (decimal more))) ∙ ends_so (quoted front ++ 43 ∷ []) (decimal more) (decimal_some more more_wide) (digits_alone more more_wide)

  pub longer_again : shown_text spelled ≡ Ok spelled
  longer_again = ap (λ b. cond {A = Result (List ℕ) ℕ} b (whole spelled) (cut spelled)) no_end ∙ read_cut

over : (n : ℕ) → leb n 32 ≡ false → 32 < n
over n e = grind (arith, nat_tests)

by_length : (t : List ℕ) (b : Bool) → IsText t → leb (length (chars t)) 32 ≡ b → shown_text (cond b (quoted t) (quoted (encode_utf8_all (take shown_length (chars t))) ++ 43 ∷ decimal (length (chars t) - shown_length)))
    ≡ Ok (cond b t (cond b (quoted t) (quoted (encode_utf8_all (take shown_length (chars t))) ++ 43 ∷ decimal (length (chars t) - shown_length))))
by_length t true is e = shown_again t (leb-true (length (chars t)) 32 e)
by_length t false is e = longer_again t is (over (length (chars t)) e)

-- a text is read as what is seen of it
pub seen_again : (t : List ℕ) → IsText t → shown_text (shortened t) ≡ Ok (seen_text t)
seen_again t is = by_length t (leb (length (chars t)) 32) is refl
