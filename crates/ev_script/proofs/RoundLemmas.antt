-- Rounds written out, entry by entry.
use Rattle.std.proofs.Common.{◌≡◌, ◌<◌, ◌≤◌, ◌+◌, ◌-◌, ◌*◌, ◌^◌, ◌++◌, ⊎_elim, Option, Some, None, ℕ, zero, suc, Bool, true, false, List, [], ◌∷◌, length, get_or, drop, refl, sym, ◌∙◌, ap, append_assoc, append-nil, arith}
use Rattle.std.specs.Prelude.{nat_le, ◌==◌, MatchOption, SomeIff}
use Rattle.std.specs.List.{repeat, range_with_len}
use Rattle.std.proofs.lemmas.List.{length-append}
use Rattle.std.proofs.lemmas.Bool.{cases_lt}
use Rattle.std.proofs.lemmas.Bool.Decides.{nat_tests}
use Rattle.ev_script.specs.declared.script.Entry.{Entry}
use Rattle.ev_script.specs.declared.entries.Step.{Step}
use Rattle.ev_script.specs.declared.entries.Step.TheVariants.{Rounds}
use Rattle.ev_script.specs.Schedule.{written, written_out}
use Rattle.ev_script.specs.Script.{most_entries}
use Rattle.ev_script.proofs.EachLemmas.{next_item, nothing_behind}

-- ---- a loop over the numbers below n

range_next : (i n : ℕ) → i < n → range_with_len i (n - i) ≡ i ∷ range_with_len (i + 1) (n - (i + 1))
range_next i n lt = let e : n - i ≡ suc (n - (i + 1)) = omega arith in ap (range_with_len i) e

range_end : (i n : ℕ) → n ≤ i → range_with_len i (n - i) ≡ []
range_end i n le = let e : n - i ≡ 0 = omega arith in ap (range_with_len i) e

-- a function of a list that appends for each item
pub goes : (F : List ℕ → List Entry) (g out more whole : List Entry) (i n : ℕ) → i < n → F (i ∷ range_with_len (i + 1) (n - (i + 1))) ≡ g ++ F (range_with_len (i + 1) (n - (i + 1)))
    → out ++ F (range_with_len i (n - i)) ≡ whole → more ≡ out ++ g → more ++ F (range_with_len (i + 1) (n - (i + 1))) ≡ whole
goes F g out more whole i n lt step so_far m =
    ap (λ ys. ys ++ F (range_with_len (i + 1) (n - (i + 1)))) m ∙ append_assoc out g (F (range_with_len (i + 1) (n - (i + 1))))
    ∙ ap (λ ys. out ++ ys) (sym step) ∙ ap (λ r. out ++ F r) (sym (range_next i n lt)) ∙ so_far

pub ends : (F : List ℕ → List Entry) (out whole : List Entry) (i n : ℕ) → n ≤ i → F [] ≡ [] → out ++ F (range_with_len i (n - i)) ≡ whole → out ≡ whole
ends F out whole i n le none so_far =
    sym (append-nil out) ∙ ap (λ ys. out ++ ys) (sym none) ∙ ap (λ r. out ++ F r) (sym (range_end i n le)) ∙ so_far

-- ---- rounds

pub repeat_none : {A : Type 0} (n : ℕ) → repeat {A = A} n [] ≡ []
repeat_none zero = refl
repeat_none (suc n) = repeat_none n

pub length_repeat : {A : Type 0} (n : ℕ) (xs : List A) → length (repeat n xs) ≡ n * length xs
length_repeat zero xs = omega arith
length_repeat (suc n) xs = let e = length_repeat n xs in omega (arith, length-append xs (repeat n xs))

pub repeat_goes : (xs out more whole : List Entry) (left : ℕ) → 0 < left → out ++ repeat left xs ≡ whole → more ≡ out ++ xs → more ++ repeat (left - 1) xs ≡ whole
repeat_goes xs out more whole left some so_far m =
    let e : left ≡ suc (left - 1) = omega arith in
    ap (λ ys. ys ++ repeat (left - 1) xs) m ∙ append_assoc out xs (repeat (left - 1) xs) ∙ ap (λ k. out ++ repeat k xs) (sym e) ∙ so_far

pub repeat_ends : (xs out whole : List Entry) (left : ℕ) → left ≤ 0 → out ++ repeat left xs ≡ whole → out ≡ whole
repeat_ends xs out whole left none so_far =
    let e : left ≡ 0 = omega arith in
    sym (append-nil out) ∙ ap (λ k. out ++ repeat k xs) (sym e) ∙ so_far

-- ---- steps

pub written_goes : (round out more whole : List Entry) (x : Step) (xs : List Step) (i : ℕ) → i < length xs → x ≡ get_or xs i x
    → out ++ written_out round (drop i xs) ≡ whole → more ≡ out ++ written round x → more ++ written_out round (drop (i + 1) xs) ≡ whole
written_goes round out more whole x xs i lt is so_far m =
    ap (λ ys. ys ++ written_out round (drop (i + 1) xs)) m ∙ append_assoc out (written round x) (written_out round (drop (i + 1) xs))
    ∙ ap (λ ys. out ++ written_out round ys) (sym (next_item x xs i lt is)) ∙ so_far

pub written_ends : (round out whole : List Entry) (xs : List Step) (i : ℕ) → length xs ≤ i → out ++ written_out round (drop i xs) ≡ whole → out ≡ whole
written_ends round out whole xs i le so_far =
    sym (append-nil out) ∙ ap (λ ys. out ++ written_out round ys) (sym (nothing_behind xs i le)) ∙ so_far

-- how many are left, and then this step and those behind it
pub count_next : (round : List Entry) (x : Step) (xs : List Step) (i : ℕ) → i < length xs → x ≡ get_or xs i x
    → length (written_out round (drop i xs)) ≡ length (written round x) + length (written_out round (drop (i + 1) xs))
count_next round x xs i lt is =
    ap (λ ys. length (written_out round ys)) (next_item x xs i lt is) ∙ length-append (written round x) (written_out round (drop (i + 1) xs))

pub count_end : (round : List Entry) (xs : List Step) (i : ℕ) → length xs ≤ i → length (written_out round (drop i xs)) ≡ 0
count_end round xs i le = ap (λ ys. length (written_out round ys)) (nothing_behind xs i le)

pub few : (n : ℕ) → n ≤ most_entries → true ≡ nat_le n most_entries
few n h = grind (arith, nat_tests)

pub many : (n : ℕ) → most_entries < n → false ≡ nat_le n most_entries
many n h = grind (arith, nat_tests)

-- no vats: rounds are nothing
pub nothing_repeated : (round out : List Entry) (n : ℕ) (empty : Bool) → empty ≡ (length round == 0) → empty ≡ true → out ≡ out ++ repeat n round
nothing_repeated [] out n empty e t = sym (append-nil out) ∙ ap (λ ys. out ++ ys) (sym (repeat_none n))
nothing_repeated (x ∷ round) out n empty e t = absurd (grind (arith, nat_tests))

-- how many entries so many rounds are
pub sized : (o : Option ℕ) (r n : ℕ) (round : List Entry) (step : Step) → r ≡ n → step ≡ Rounds n → SomeIff o (r * length round < 2 ^ 64) (r * length round)
    → MatchOption o (most_entries < length (written round step)) (λ size. size ≡ length (written round step))
sized None r n round step e is h =
    let k : length (written round step) ≡ r * length round = ap (λ s. length (written round s)) is ∙ length_repeat n round ∙ ap (λ m. m * length round) (sym e) in
    ⊎_elim (λ (lt : r * length round < 2 ^ 64). absurd (h lt)) (λ (le : 2 ^ 64 ≤ r * length round). rw k (omega arith)) (cases_lt (r * length round) (2 ^ 64))
sized (Some size) r n round step e is h =
    let k : length (written round step) ≡ r * length round = ap (λ s. length (written round s)) is ∙ length_repeat n round ∙ ap (λ m. m * length round) (sym e) in
    h.1 ∙ sym k
