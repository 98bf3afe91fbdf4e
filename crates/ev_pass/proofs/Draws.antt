-- A drawn word, among the words that were drawn before.
use Rattle.std.proofs.Common.{◌≡◌, ℕ, zero, suc, ◌+◌, ◌<◌, ◌≤◌, ⊎_elim, Bool, true, false, List, [], ◌∷◌, ◌++◌, Option, Some, None, length, refl, sym, ap, subst, ◌∙◌, arith, length-append}
use Rattle.std.specs.Prelude.{◌==◌}
use Rattle.std.proofs.lemmas.Bool.{eqb-true, cases_lt}
use Rattle.std.proofs.lemmas.Cmp.{nat_eq_equiv}
use Rattle.ev_intro.specs.Word.{Drawn, word, IsNew, IsDrawFault}
use Rattle.ev_intro.specs.declared.words.DrawFault.TheVariants.{WordRepeated}
use Rattle.def_machine.specs.State.{drawn_at}
use Rattle.ev_pass.specs.Acts.{words_by}

or_else : Option ℕ → Option ℕ → Option ℕ
or_else (Some i) o = Some i
or_else None o = o

at_end : ℕ → Bool → Option ℕ
at_end k true = Some k
at_end k false = None

ahead : (b : Bool) (k : ℕ) (o p : Option ℕ) → elim b [ true ↦ Some k | false ↦ or_else o p ] ≡ or_else (elim b [ true ↦ Some k | false ↦ o ]) p
unfolding or_else
ahead true k o p = refl
ahead false k o p = refl

alone : (k : ℕ) (b : Bool) → elim b as (λ _. Option ℕ) [ true ↦ Some k | false ↦ None ] ≡ at_end k b
unfolding at_end
alone k true = refl
alone k false = refl

pushed : (k w x : ℕ) (xs : List ℕ) → drawn_at k w (xs ++ x ∷ []) ≡ or_else (drawn_at k w xs) (at_end (k + length xs) (w == x))
unfolding drawn_at or_else
pushed k w x [] = let here : k ≡ k + zero = omega arith in alone k (w == x) ∙ ap (λ (i : ℕ). at_end i (w == x)) here
pushed k w x (y ∷ ys) =
    let more : suc k + length ys ≡ k + suc (length ys) = omega arith in
    ap (λ (o : Option ℕ). elim (w == y) [ true ↦ Some k | false ↦ o ]) (pushed (suc k) w x ys ∙ ap (λ (i : ℕ). or_else (drawn_at (suc k) w ys) (at_end i (w == x))) more)
    ∙ ahead (w == y) k (drawn_at (suc k) w ys) (at_end (k + suc (length ys)) (w == x))

so_many : (key : List ℕ) (n : ℕ) → length (words_by key n) ≡ n
unfolding words_by
so_many key zero = refl
so_many key (suc n) = omega (arith, so_many key n, length-append (words_by key n) (word key n ∷ []))

-- one draw more
one_more : (key : List ℕ) (n w : ℕ) → drawn_at zero w (words_by key (suc n)) ≡ or_else (drawn_at zero w (words_by key n)) (at_end n (w == word key n))
unfolding words_by
one_more key n w =
    let count : 0 + length (words_by key n) ≡ n = omega (arith, so_many key n) in
    pushed zero w (word key n) (words_by key n) ∙ ap (λ (i : ℕ). or_else (drawn_at zero w (words_by key n)) (at_end i (w == word key n))) count

other : (b : Bool) → (b ≡ true → ⊥) → b ≡ false
other true f = absurd (f refl)
other false f = refl

differs : (m n : ℕ) → (m ≡ n → ⊥) → (m == n) ≡ false
differs m n h = other (m == n) (λ e. h (eqb-true m n e))

none_found : (key : List ℕ) (n w : ℕ) → ((i : ℕ) → i < n → word key i ≡ w → ⊥) → drawn_at zero w (words_by key n) ≡ None
unfolding words_by drawn_at or_else at_end
none_found key zero w h = refl
none_found key (suc n) w h =
    let front : drawn_at zero w (words_by key n) ≡ None = none_found key n w (λ i lt. h i (omega arith)) in
    let last : (w == word key n) ≡ false = differs w (word key n) (λ e. h n (omega arith) (sym e)) in
    one_more key n w ∙ ap (λ (o : Option ℕ). or_else o (at_end n (w == word key n))) front ∙ ap (λ (b : Bool). at_end n b) last

first_found : (key : List ℕ) (n w i : ℕ) → i < n → word key i ≡ w → ((k : ℕ) → k < i → word key k ≡ w → ⊥) → drawn_at zero w (words_by key n) ≡ Some i
unfolding or_else at_end
first_found key zero w i lt same h = let none : ⊥ = omega arith in absurd none
first_found key (suc n) w i lt same h = one_more key n w ∙ ⊎_elim
    (λ (below : i < n). ap (λ (o : Option ℕ). or_else o (at_end n (w == word key n))) (first_found key n w i below same h))
    (λ (at : n ≤ i).
    let is : n ≡ i = omega arith in
    let front : drawn_at zero w (words_by key n) ≡ None = none_found key n w (λ k less. h k (omega arith)) in
    let last : (w == word key n) ≡ true = subst (λ (x : ℕ). (w == x) ≡ true) (sym same ∙ ap (word key) (sym is)) (nat_eq_equiv.refl w) in
    ap (λ (o : Option ℕ). or_else o (at_end n (w == word key n))) front ∙ ap (λ (b : Bool). at_end n b) last ∙ ap Some is)
    (cases_lt i n)

pub new_word : (d : Drawn) → IsNew d → drawn_at zero (word d.key d.count) (words_by d.key d.count) ≡ None
new_word d new = none_found d.key d.count (word d.key d.count) new

pub old_word : (d : Drawn) (i j : ℕ) → IsDrawFault d (WordRepeated i j) → (drawn_at zero (word d.key d.count) (words_by d.key d.count) ≡ Some i) × (d.count ≡ j)
old_word d i j h =
    let at : j ≡ d.count = h.0 in
    let below : i < d.count = omega (arith, h.1, at) in
    (first_found d.key d.count (word d.key d.count) i below (h.2 ∙ ap (word d.key) at) (λ k lt same. h.3 k lt (same ∙ ap (word d.key) (sym at))), sym at)
