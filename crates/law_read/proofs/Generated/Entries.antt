-- The entries of a generated script.
use Rattle.std.proofs.Common.{◌≡◌, ◌≤◌, ◌<◌, ◌+◌, ◌*◌, ◌==◌, ◌^◌, ℕ, zero, suc, Bool, true, false, ◌&&◌, nat_lt, List, [], ◌∷◌, ◌++◌, codes, decimal, Option, Some, None, length, map, get_or, is_some, if◌then◌else◌, option_map, option_and_then, refl, ap, ap₂, ◌∙◌, arith, append-nil, length-append}
use Rattle.std.specs.Prelude.{nat_le}
use Rattle.std.specs.Int.Digits.{digits_of}
use Rattle.std.specs.List.{flat_map, list_all, range_with_len, repeat}
use Rattle.std.proofs.lemmas.Bool.{and_parts}
use Rattle.std.proofs.lemmas.Bool.Decides.{nat_tests}
use Rattle.std.proofs.lemmas.Fmt.{decimal-digits_of}
use Rattle.std.proofs.lemmas.Grind.{flat_map-append}
use Rattle.std.proofs.lemmas.List.FromFn.{length-map-range_with_len}
use Rattle.std.proofs.lemmas.Int.Digits.{first_digits_of}
use Rattle.serde_json.specs.Data.{Data, string}
use Rattle.ev_text.specs.Lines.{split}
use Rattle.ev_generate.specs.Generated.{entry, spelled_entry}
use Rattle.ev_script.specs.Json.{each, listed}
use Rattle.ev_script.specs.Schedule.{are_in_order, begins_with_zero, bounded_rounds, is_numeral, is_spelled, may_follow, most_rounds, placed, rounds_of, round, step_in, told, written}
use Rattle.ev_script.specs.declared.script.Entry.{Entry}
use Rattle.ev_script.specs.declared.script.Entry.TheVariants.{Turn, Carry, Notice}
use Rattle.law_read.specs.Generated.Accepted.{chosen}
use Rattle.law_read.proofs.Generated.Plain.{are_plain, both, decimal_digits, decimal_value}
use Rattle.law_read.proofs.Generated.Texts.{all_plain, texts, with_comma}

abbrev pub vat_names : List (List ℕ)
vat_names = codes "v0" ∷ codes "v1" ∷ codes "v2" ∷ []

-- ---- what a list of options gives

abbrev one_or_none : {A : Type 0} → Option A → List A
one_or_none None = []
one_or_none (Some x) = x ∷ []

abbrev pub collected : {A B : Type 0} → (A → Option B) → List A → List B
collected f [] = []
collected f (x ∷ xs) = one_or_none (f x) ++ collected f xs

gives : {B : Type 0} (o : Option B) (x : Option (List B)) (ys : List B) → is_some o ≡ true → x ≡ Some ys
    → option_and_then (λ y. option_and_then (λ zs. Some (y ∷ zs)) x) o ≡ Some (one_or_none o ++ ys)
gives None x ys h e = cc
gives (Some y) x ys h e = ap (λ o. option_and_then (λ zs. Some (y ∷ zs)) o) e

abbrev all_some : {A B : Type 0} → (A → Option B) → List A → Bool
all_some f [] = true
all_some f (x ∷ xs) = is_some (f x) && all_some f xs

pub each_gives : {A B : Type 0} (f : A → Option B) (xs : List A) → all_some f xs ≡ true → each f xs ≡ Some (collected f xs)
each_gives f [] h = refl
each_gives f (x ∷ xs) h = let p = and_parts (is_some (f x)) (all_some f xs) h in gives (f x) (each f xs) (collected f xs) p.0 (each_gives f xs p.1)

-- ---- what one value of a schedule is written out as

abbrev pub entries_of_value : Data → List Entry
entries_of_value d = flat_map (written (round 3)) (one_or_none (step_in vat_names d))

-- no notice
abbrev is_quiet : Entry → Bool
is_quiet (Notice v w) = false
is_quiet other = true

record Right (text : List ℕ) (e : Entry) : Type 0 where
  plain : are_plain text ≡ true
  spelled : is_spelled vat_names (string text) ≡ true
  some : is_some (step_in vat_names (string text)) ≡ true
  written_out : entries_of_value (string text) ≡ e ∷ []
  quiet : is_quiet e ≡ true

either : (b : Bool) (t u : List ℕ) (e f : Entry) → Right t e → Right u f → Right (if b then t else u) (if b then e else f)
either true t u e f x y = x
either false t u e f x y = y

leaf : (t : List ℕ) (e : Entry) → are_plain t ≡ true → is_spelled vat_names (string t) ≡ true → is_some (step_in vat_names (string t)) ≡ true → entries_of_value (string t) ≡ e ∷ [] → is_quiet e ≡ true
    → Right t e
leaf t e p q r w k = record { plain = p; spelled = q; some = r; written_out = w; quiet = k }

choice_right : (c : ℕ) → Right (entry c) (chosen c)
choice_right c =
    either (c == 0) _ _ _ _ (leaf (codes "turn v0") (Turn 0) refl refl refl refl refl)
    (either (c == 1) _ _ _ _ (leaf (codes "turn v1") (Turn 1) refl refl refl refl refl)
    (either (c == 2) _ _ _ _ (leaf (codes "turn v2") (Turn 2) refl refl refl refl refl)
    (either (c == 3) _ _ _ _ (leaf (codes "carry v0 v1") (Carry 0 1) refl refl refl refl refl)
    (either (c == 4) _ _ _ _ (leaf (codes "carry v0 v2") (Carry 0 2) refl refl refl refl refl)
    (either (c == 5) _ _ _ _ (leaf (codes "carry v1 v0") (Carry 1 0) refl refl refl refl refl)
    (either (c == 6) _ _ _ _ (leaf (codes "carry v1 v2") (Carry 1 2) refl refl refl refl refl)
    (either (c == 7) _ _ _ _ (leaf (codes "carry v2 v0") (Carry 2 0) refl refl refl refl refl)
    (leaf (codes "carry v2 v1") (Carry 2 1) refl refl refl refl refl))))))))

-- ---- the drain

first_not_zero : (ds : List ℕ) → 0 < get_or ds 0 0 → begins_with_zero (map (λ d. 48 + d) ds) ≡ false
first_not_zero [] h = refl
first_not_zero (d ∷ ds) h = grind (arith, nat_tests)

not_zero : (m : ℕ) → 0 < m → m < 2 ^ 64 → begins_with_zero (decimal m) ≡ false
not_zero m some small =
    ap begins_with_zero (decimal-digits_of m some small) ∙ first_not_zero (digits_of 10 m) (first_digits_of 10 m (omega arith) some)

-- and it has a digit
some_digit : (ds : List ℕ) → 0 < get_or ds 0 0 → (length (map (λ d. 48 + d) ds) == 0) ≡ false
some_digit [] h = absurd (omega (arith, h))
some_digit (d ∷ ds) h = grind (arith, nat_tests)

has_digit : (m : ℕ) → 0 < m → m < 2 ^ 64 → (length (decimal m) == 0) ≡ false
has_digit m some small =
    ap (λ (t : List ℕ). length t == 0) (decimal-digits_of m some small) ∙ some_digit (digits_of 10 m) (first_digits_of 10 m (omega arith) some)

numeral : (m : ℕ) → 0 < m → m < 2 ^ 64 → is_numeral (decimal m) ≡ true
numeral m some small = rw (has_digit m some small, decimal_digits m small, not_zero m some small) refl

at_most : (m most : ℕ) → m ≤ most → nat_le m most ≡ true
at_most m most h = grind (arith, nat_tests)

drain_rounds : (m : ℕ) → 0 < m → m ≤ 100000 → rounds_of (decimal m) ≡ Some m
drain_rounds m some few =
    let small : m < 2 ^ 64 = omega arith in
    ap (λ (b : Bool). if b then bounded_rounds (decimal m) else None) (numeral m some small)
    ∙ ap (λ (k : ℕ). if nat_le k most_rounds then Some k else None) (decimal_value m small) ∙ ap (λ (b : Bool). if b then Some m else None) (at_most m most_rounds few)

drain_split : (t : List ℕ) → split (codes "drain " ++ t) ≡ Some (codes "drain", t)
drain_split t =
    let within : nat_lt 5 (length (codes "drain " ++ t)) ≡ true = grind (arith, nat_tests) in
    ap (λ (b : Bool). if b then Some (codes "drain", t) else None) within

-- how a drain is spelled, with what is made of that
mapped : {A B C : Type 0} (f : A → B) (g : Option B → C) (o : Option A) (a : A) → o ≡ Some a → g (option_map f o) ≡ g (Some (f a))
mapped f g o a e = ap (λ x. g (option_map f x)) e

drain_spelled : (m : ℕ) → 0 < m → m ≤ 100000 → is_spelled vat_names (string (codes "drain " ++ decimal m)) ≡ true
drain_spelled m some few =
    ap (λ (o : Option (List ℕ × List ℕ)). is_some (option_and_then (λ (words : List ℕ × List ℕ). told vat_names words.0 words.1) o)) (drain_split (decimal m))
    ∙ mapped _ is_some (rounds_of (decimal m)) m (drain_rounds m some few)

drain_some : (m : ℕ) → 0 < m → m ≤ 100000 → is_some (step_in vat_names (string (codes "drain " ++ decimal m))) ≡ true
drain_some m some few =
    ap (λ (o : Option (List ℕ × List ℕ)). is_some (option_and_then placed (option_and_then (λ (words : List ℕ × List ℕ). told vat_names words.0 words.1) o))) (drain_split (decimal m))
    ∙ mapped _ (λ o. is_some (option_and_then placed o)) (rounds_of (decimal m)) m (drain_rounds m some few)

drain_written : (m : ℕ) → 0 < m → m ≤ 100000 → entries_of_value (string (codes "drain " ++ decimal m)) ≡ repeat m (round 3)
drain_written m some few =
    ap (λ (o : Option (List ℕ × List ℕ)). flat_map (written (round 3)) (one_or_none (option_and_then placed (option_and_then (λ (words : List ℕ × List ℕ). told vat_names words.0 words.1) o))))
    (drain_split (decimal m))
    ∙ mapped _ (λ o. flat_map (written (round 3)) (one_or_none (option_and_then placed o))) (rounds_of (decimal m)) m (drain_rounds m some few) ∙ append-nil (repeat m (round 3))

-- ---- all of them

module _ (g : ℕ → ℕ) where
  -- the texts of the chosen entries, and what they come to
  abbrev pub spellings : List ℕ → List (List ℕ)
  spellings xs = map (λ i. entry (g i)) xs

  abbrev pub picked : List ℕ → List Entry
  picked xs = map (λ i. chosen (g i)) xs

  pub spellings_plain : (xs : List ℕ) → all_plain (spellings xs) ≡ true
  spellings_plain [] = refl
  spellings_plain (x ∷ xs) = both (are_plain (entry (g x))) (all_plain (spellings xs)) (choice_right (g x)).plain (spellings_plain xs)

  -- as the generated text has them
  pub spellings_text : (xs : List ℕ) → flat_map with_comma (spellings xs) ≡ flat_map (λ i. spelled_entry (g i)) xs
  spellings_text [] = refl
  spellings_text (x ∷ xs) = ap (λ (t : List ℕ). spelled_entry (g x) ++ t) (spellings_text xs)

  picked_quiet : (xs : List ℕ) (es : List Entry) → list_all is_quiet es ≡ true → list_all is_quiet (picked xs ++ es) ≡ true
  picked_quiet [] es h = h
  picked_quiet (x ∷ xs) es h = both (is_quiet (chosen (g x))) (list_all is_quiet (picked xs ++ es)) (choice_right (g x)).quiet (picked_quiet xs es h)

  module _ (m : ℕ) (some : 0 < m) (few : m ≤ 100000) where
    -- the values of the schedule
    abbrev pub values : List ℕ → List Data
    values xs = listed (texts (spellings xs ++ (codes "drain " ++ decimal m) ∷ []))

    pub values_spelled : (xs : List ℕ) → list_all (is_spelled vat_names) (values xs) ≡ true
    values_spelled [] = both (is_spelled vat_names (string (codes "drain " ++ decimal m))) true (drain_spelled m some few) refl
    values_spelled (x ∷ xs) =
        both (is_spelled vat_names (string (entry (g x)))) (list_all (is_spelled vat_names) (values xs)) (choice_right (g x)).spelled (values_spelled xs)

    pub values_some : (xs : List ℕ) → all_some (step_in vat_names) (values xs) ≡ true
    values_some [] = both (is_some (step_in vat_names (string (codes "drain " ++ decimal m)))) true (drain_some m some few) refl
    values_some (x ∷ xs) =
        both (is_some (step_in vat_names (string (entry (g x))))) (all_some (step_in vat_names) (values xs)) (choice_right (g x)).some (values_some xs)

    one_more : (d : Data) (ds : List Data)
        → flat_map (written (round 3)) (one_or_none (step_in vat_names d) ++ collected (step_in vat_names) ds) ≡ entries_of_value d ++ flat_map (written (round 3)) (collected (step_in vat_names) ds)
    one_more d ds = flat_map-append (written (round 3)) (one_or_none (step_in vat_names d)) (collected (step_in vat_names) ds)

    pub values_written : (xs : List ℕ) → flat_map (written (round 3)) (collected (step_in vat_names) (values xs)) ≡ picked xs ++ repeat m (round 3)
    values_written [] =
        one_more (string (codes "drain " ++ decimal m)) [] ∙ ap (λ (es : List Entry). es ++ []) (drain_written m some few) ∙ append-nil (repeat m (round 3))
    values_written (x ∷ xs) =
        one_more (string (entry (g x))) (values xs) ∙ ap₂ (λ (es fs : List Entry). es ++ fs) (choice_right (g x)).written_out (values_written xs)

-- ---- the schedule

rounds_quiet : (m : ℕ) → list_all is_quiet (repeat m (round 3)) ≡ true
rounds_quiet zero = refl
rounds_quiet (suc m) = rounds_quiet m

pub schedule_quiet : (g : ℕ → ℕ) (xs : List ℕ) (m : ℕ) → list_all is_quiet (picked g xs ++ repeat m (round 3)) ≡ true
schedule_quiet g xs m = picked_quiet g xs (repeat m (round 3)) (rounds_quiet m)

quiet_follows : (before : List Entry) (e : Entry) → is_quiet e ≡ true → may_follow before e ≡ true
quiet_follows before (Notice v w) h = cc
quiet_follows before other h = refl

pub in_order : (before es : List Entry) → list_all is_quiet es ≡ true → are_in_order before es ≡ true
in_order before [] h = refl
in_order before (e ∷ es) h =
    let p = and_parts (is_quiet e) (list_all is_quiet es) h in
    both (may_follow before e) (are_in_order (before ++ e ∷ []) es) (quiet_follows before e p.0) (in_order (before ++ e ∷ []) es p.1)

rounds_long : (m : ℕ) → length (repeat m (round 3)) ≡ 9 * m
rounds_long zero = refl
rounds_long (suc m) = let h : length (repeat m (round 3)) ≡ 9 * m = rounds_long m in omega (arith, h)

pub schedule_long : (g : ℕ → ℕ) (n m : ℕ) → length (picked g (range_with_len 0 n) ++ repeat m (round 3)) ≡ n + 9 * m
schedule_long g n m =
    let all = length-append (picked g (range_with_len 0 n)) (repeat m (round 3)) in
    let front : length (picked g (range_with_len 0 n)) ≡ n = length-map-range_with_len (λ i. chosen (g i)) 0 n in
    let back = rounds_long m in
    omega (arith, all, front, back)
