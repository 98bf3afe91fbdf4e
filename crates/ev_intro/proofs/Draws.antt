-- What a look-up among the first draws tells.
use Rattle.std.proofs.Common.{◌≡◌, ℕ, zero, suc, ◌*◌, ◌<◌, ◌≤◌, ⊎_elim, Bool, true, false, true≢false, cond, nat_eq, List, [], ◌∷◌, ◌++◌, length, Option, Some, None, refl, sym, ap, subst, ◌∙◌, arith}
use Rattle.std.specs.Map.{lookup}
use Rattle.std.proofs.lemmas.Bool.{eqb-true, cases_lt}
use Rattle.std.proofs.lemmas.Cmp.{nat_eq_equiv}
use Rattle.std.proofs.lemmas.List.{length-append}
use Rattle.rand_chacha.specs.ChaCha.{ChaCha, key_of}
use Rattle.ev_intro.specs.Word.{number_at, word, draws}

-- the second where the first is none
abbrev pub or_else : Option ℕ → Option ℕ → Option ℕ
or_else None o = o
or_else (Some x) o = Some x

first_of : (b : Bool) (v : ℕ) (o p : Option ℕ) → cond b (Some v) (or_else o p) ≡ or_else (cond b (Some v) o) p
first_of true v o p = refl
first_of false v o p = refl

pub lookup-push : (t : ℕ → Bool) (es : List (ℕ × ℕ)) (k v : ℕ) → lookup t (es ++ (k, v) ∷ []) ≡ or_else (lookup t es) (cond (t k) (Some v) None)
lookup-push t [] k v = refl
lookup-push t (e ∷ es) k v = ap (λ (o : Option ℕ). cond (t e.0) (Some e.1) o) (lookup-push t es k v) ∙ first_of (t e.0) e.1 (lookup t es) (cond (t k) (Some v) None)

-- what was found, among the first or as the last
pub either : (o : Option ℕ) (b : Bool) (v i : ℕ) (P : Type 0) → or_else o (cond b (Some v) None) ≡ Some i → (o ≡ Some i → P) → ((b ≡ true) × (v ≡ i) × (o ≡ None) → P) → P
either (Some x) b v i P e f g = f e
either None true v i P e f g = g (refl, cc, refl)
either None false v i P e f g = absurd cc

pub neither : (o : Option ℕ) (b : Bool) (v : ℕ) → or_else o (cond b (Some v) None) ≡ None → (o ≡ None) × (b ≡ false)
neither (Some x) b v e = absurd cc
neither None true v e = absurd cc
neither None false v e = (refl, refl)

pub draws_found : (key : List ℕ) (n w i : ℕ) → lookup (nat_eq w) (draws key n) ≡ Some i → (i < n) × (w ≡ word key i)
unfolding draws
draws_found key zero w i e = absurd cc
draws_found key (suc n) w i e =
    either (lookup (nat_eq w) (draws key n)) (nat_eq w (word key n)) n i ((i < suc n) × (w ≡ word key i))
    (sym (lookup-push (nat_eq w) (draws key n) (word key n) n) ∙ e)
    (λ h. let p = draws_found key n w i h in (omega (arith, p.0), p.1))
    (λ h. (omega (arith, h.1), eqb-true w (word key n) h.0 ∙ ap (word key) h.1))

pub draws_none : (key : List ℕ) (n w : ℕ) → lookup (nat_eq w) (draws key n) ≡ None → (i : ℕ) → i < n → word key i ≡ w → ⊥
unfolding draws
draws_none key zero w e i lt same = omega arith
draws_none key (suc n) w e i lt same =
    let p = neither (lookup (nat_eq w) (draws key n)) (nat_eq w (word key n)) n (sym (lookup-push (nat_eq w) (draws key n) (word key n) n) ∙ e) in
    ⊎_elim
    (λ (below : i < n). draws_none key n w p.0 i below same)
    (λ (at : n ≤ i).
    let is : i ≡ n = omega arith in
    let again : nat_eq w (word key n) ≡ true = subst (λ (x : ℕ). nat_eq w x ≡ true) (sym same ∙ ap (word key) is) (nat_eq_equiv.refl w) in
    absurd (true≢false (sym again ∙ p.1)))
    (cases_lt i n)

-- the draw that was found is the first with that word
draws_first : (key : List ℕ) (n w i : ℕ) → lookup (nat_eq w) (draws key n) ≡ Some i → (k : ℕ) → k < i → word key k ≡ w → ⊥
unfolding draws
draws_first key zero w i e k lt same = absurd cc
draws_first key (suc n) w i e k lt same =
    either (lookup (nat_eq w) (draws key n)) (nat_eq w (word key n)) n i ⊥
    (sym (lookup-push (nat_eq w) (draws key n) (word key n) n) ∙ e)
    (λ h. draws_first key n w i h k lt same)
    (λ h. draws_none key n w h.2 k (omega (arith, h.1)) same)

pub draws_length : (key : List ℕ) (n : ℕ) → length (draws key n) ≡ n
unfolding draws
draws_length key zero = refl
draws_length key (suc n) = omega (arith, draws_length key n, length-append (draws key n) ((word key n, n) ∷ []))

-- ---- as they stand in a `Words`

-- the next number of the stream is the next word
pub number_is : (key : List ℕ) (n number : ℕ) (s : ChaCha) → s ≡ record { key = key_of key; stream = 0; word_pos = 4 * n } → number ≡ number_at s.key s.word_pos → number ≡ word key n
number_is key n number s stands value = value ∙ ap (λ (c : ChaCha). number_at c.key c.word_pos) stands

pub repeats : (key : List ℕ) (n number first : ℕ) (es : List (ℕ × ℕ)) → es ≡ draws key n → number ≡ word key n → lookup (nat_eq number) es ≡ Some first → (first < n) × (word key first ≡ word key n) × ((k : ℕ) → k < first → word key k ≡ word key n → ⊥)
repeats key n number first es stands is found =
    let there : lookup (nat_eq number) (draws key n) ≡ Some first = ap (lookup (nat_eq number)) (sym stands) ∙ found in
    let p = draws_found key n number first there in
    (p.0, sym p.1 ∙ is, λ k lt same. draws_first key n number first there k lt (same ∙ sym is))

pub is_new : (key : List ℕ) (n number : ℕ) (es : List (ℕ × ℕ)) → es ≡ draws key n → number ≡ word key n → lookup (nat_eq number) es ≡ None → (i : ℕ) → i < n → word key i ≡ word key n → ⊥
is_new key n number es stands is absent i lt same = draws_none key n number (ap (lookup (nat_eq number)) (sym stands) ∙ absent) i lt (same ∙ sym is)

-- one more draw
pub one_more : (key : List ℕ) (n number count : ℕ) (es after : List (ℕ × ℕ)) → es ≡ draws key n → number ≡ word key n → count ≡ n → after ≡ es ++ (number, count) ∷ [] → after ≡ draws key (suc n)
unfolding draws
one_more key n number count es after stands is at grown =
    grown ∙ ap (λ (xs : List (ℕ × ℕ)). xs ++ (number, count) ∷ []) stands ∙ ap (λ (w : ℕ). draws key n ++ (w, count) ∷ []) is ∙ ap (λ (m : ℕ). draws key n ++ (word key n, m) ∷ []) at
