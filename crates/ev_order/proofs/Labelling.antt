-- What holds after some of the seeds.
use Rattle.std.specs.Prelude.{◌≡◌, ◌<◌, ◌≤◌, ◌-◌, ℕ, List, [], ◌++◌, take, length, Option, Some, None, slice_get}
use Rattle.std.proofs.Common.{arith, sym, ◌∙◌, ◌+◌, ap, subst, ⊎_elim}
use Rattle.std.proofs.lemmas.Option.{slice_get_within, get_or_from_slice_get}
use Rattle.std.proofs.Math.ListN.{replicate, length-replicate}
use Rattle.std.proofs.lemmas.List.{get_or-replicate, take_all}
use Rattle.std.proofs.lemmas.Bool.Decides.{eqb_tells}
use Rattle.ev_order.specs.declared.spread.Place.{Place}
use Rattle.ev_order.specs.Spread.{Leads, Here, On, Labels, HasLabel, IsLabelled, IsSeed, IsWhole, Spreads, SpreadsSeed, HasFirstLabels}

-- what the first i seeds lead to is labelled, by the first of them, and nothing else
pub record Labelling (places : List Place) (seeds : List (Option ℕ)) (labels : Labels) (i : ℕ) : Type 0 where
  pub whole : IsWhole places labels
  pub leads : (n k : ℕ) → HasLabel labels n k → (k < i) × ((a : ℕ) × IsSeed seeds k a × Leads places a n)
  pub first : (n k a : ℕ) → k < i → IsSeed seeds k a → Leads places a n → n < length places → (j : ℕ) × (j ≤ k) × HasLabel labels n j

-- what a labelled place leads to is labelled
all_labelled : (places : List Place) (labels : Labels) (a n : ℕ) → IsWhole places labels → (a < length places → IsLabelled labels a) → Leads places a n → n < length places → IsLabelled labels n
all_labelled places labels a n whole start (Here b e) inside = subst (IsLabelled labels) (sym e) (start (subst (λ (x : ℕ). x < length places) e inside))
all_labelled places labels a n whole start (On b c led on) inside = whole.closed b c (all_labelled places labels a b whole start led (slice_get_within places b on.0 on.1)) on inside

spreads_further : (places : List Place) (seeds : List (Option ℕ)) (old now : Labels) (i seed : ℕ) → Labelling places seeds old i → slice_get seeds i ≡ Some (Some seed) → Spreads places seed i old now
    → Labelling places seeds now (i + 1)
spreads_further places seeds old now i seed l at s = record {
  whole = s.whole;
  leads = λ n k h. ⊎_elim
      (λ (earlier : HasLabel old n k). let w = l.leads n k earlier in (omega (arith, w.0), w.1))
      (λ (new : (k ≡ i) × Leads places seed n). (omega (arith, new.0), (seed, ap (slice_get seeds) new.0 ∙ at, new.1)))
      (s.fresh n k h);
  first = λ n k a less is led inside. ⊎_elim
      (λ (same : (_ : _) × (k ≡ i)).
      let two : Some (Some a) ≡ Some (Some seed) = sym is ∙ ap (slice_get seeds) same.1 ∙ at in
      let e : a ≡ seed = cc in
      let h = all_labelled places now seed n s.whole s.seeded (subst (λ (x : ℕ). Leads places x n) e led) inside in
      ⊎_elim
      (λ (earlier : HasLabel old n h.0). (h.0, omega (arith, (l.leads n h.0 earlier).0, same.1), h.1))
      (λ (new : (h.0 ≡ i) × Leads places seed n). (h.0, omega (arith, new.0, same.1), h.1))
      (s.fresh n h.0 h.1))
      (λ (other : (_ : _) × (k ≡ i → ⊥)).
      let w = l.first n k a (omega (arith, other.1)) is led inside in
      (w.0, w.1, s.kept n w.0 w.2))
      (eqb_tells k i);
}

passes_over : (places : List Place) (seeds : List (Option ℕ)) (labels : Labels) (i : ℕ) → Labelling places seeds labels i → slice_get seeds i ≡ Some None → Labelling places seeds labels (i + 1)
passes_over places seeds labels i l at = record {
  whole = l.whole;
  leads = λ n k h. let w = l.leads n k h in (omega (arith, w.0), w.1);
  first = λ n k a less is led inside. ⊎_elim
      (λ (same : (_ : _) × (k ≡ i)). let two : Some (Some a) ≡ Some None = sym is ∙ ap (slice_get seeds) same.1 ∙ at in cc)
      (λ (other : (_ : _) × (k ≡ i → ⊥)). l.first n k a (omega (arith, other.1)) is led inside)
      (eqb_tells k i);
}

pub next_seed : (places : List Place) (seeds : List (Option ℕ)) (old now : Labels) (i : ℕ) (o : Option ℕ) → Labelling places seeds old i → slice_get seeds i ≡ Some o → SpreadsSeed places o i old now
    → Labelling places seeds now (i + 1)
next_seed places seeds old now i None l at same = subst (λ (ls : Labels). Labelling places seeds ls (i + 1)) (sym same) (passes_over places seeds old i l at)
next_seed places seeds old now i (Some seed) l at s = spreads_further places seeds old now i seed l at s

pub no_labels_yet : (places : List Place) (seeds : List (Option ℕ)) (labels : Labels) → length labels ≡ length places → ((n k : ℕ) → HasLabel labels n k → ⊥) → Labelling places seeds labels 0
no_labels_yet places seeds labels same none = record {
  whole = record { same_length = same; closed = λ a b labelled on inside. absurd (none a labelled.0 labelled.1) };
  leads = λ n k h. absurd (none n k h);
  first = λ n k a less is led inside. absurd (omega arith);
}

pub all_seeds : (places : List Place) (seeds : List (Option ℕ)) (labels : Labels) (i : ℕ) → Labelling places seeds labels i → length seeds ≤ i → HasFirstLabels places seeds labels
all_seeds places seeds labels i l past = record {
  same_length = l.whole.same_length;
  leads = λ n k h. (l.leads n k h).1;
  first = λ n k a is led inside. l.first n k a (omega (arith, slice_get_within seeds k (Some a) is)) is led inside;
}

abbrev no_label : Option ℕ
no_label = None

-- where each label is missing no place is labelled
pub all_free : (count : ℕ) (labels : Labels) → labels ≡ replicate count None → (n k : ℕ) → HasLabel labels n k → ⊥
all_free count labels e n k h =
    let is : slice_get (replicate count no_label) n ≡ Some (Some k) = sym (ap (λ (ls : Labels). slice_get ls n) e) ∙ h in
    let inside = slice_get_within (replicate count None) n (Some k) is in
    let one : Some k ≡ None = sym (get_or_from_slice_get (replicate count None) n (Some k) None is) ∙ get_or-replicate count n None None (omega (arith, inside, length-replicate count no_label)) in
    cc

-- a vector that was empty, with labels that are missing behind
pub grown : (count m : ℕ) (xs : Labels) → xs ≡ [] → m ≡ 0 → take count xs ++ replicate (count - m) None ≡ replicate count None
grown count m xs e z = ap (λ (ys : Labels). ys ++ replicate (count - m) None) (take_all count xs (omega (arith, ap length e)) ∙ e) ∙ ap (λ (k : ℕ). replicate k no_label) (omega (arith, z))
