-- What holds while a label spreads from a seed.
use Rattle.std.specs.Prelude.{◌≡◌, ◌<◌, ◌≤◌, ◌⊎◌, ℕ, Bool, true, false, List, [], ◌∷◌, ◌++◌, length, Option, Some, None, slice_get}
use Rattle.std.proofs.Common.{refl, arith, sym, ◌∙◌, ◌+◌, ap, subst, ⊎_elim, suc, zero, inl, inr}
use Rattle.std.proofs.Math.ListN.{set, length-set}
use Rattle.std.proofs.lemmas.List.{length-append}
use Rattle.std.proofs.lemmas.Option.{slice_get_within, slice_get-get_or}
use Rattle.std.proofs.lemmas.Bool.Decides.{eqb_tells}
use Rattle.ev_order.specs.declared.spread.Place.{Place}
use Rattle.ev_order.specs.Spread.{LeadsOn, Leads, Here, On, Labels, HasLabel, IsLabelled, is_free, labelled, reached_by, labelled_target, reached_target, gone_on, reached_from, IsWhole, Spreads}
use Rattle.ev_order.proofs.Lists.{get_written, get_unwritten, get_front, get_end, get_either}

-- the place is among those reached that are still to be gone on from
abbrev pub IsWaiting : List ℕ → ℕ → ℕ → Type 0
IsWaiting reached i a = (j : ℕ) × (i ≤ j) × (slice_get reached j ≡ Some a)

-- The label spread from the seed, over old labels, up to the place reached as number i.
pub record Spreading (places : List Place) (seed label : ℕ) (old now : Labels) (reached : List ℕ) (i : ℕ) : Type 0 where
  pub same_length : length now ≡ length places
  pub kept : (n k : ℕ) → HasLabel old n k → HasLabel now n k
  pub fresh : (n k : ℕ) → HasLabel now n k → HasLabel old n k ⊎ ((k ≡ label) × Leads places seed n)
  pub within : i ≤ length reached
  pub reaches : (j n : ℕ) → i ≤ j → slice_get reached j ≡ Some n → Leads places seed n
  pub done : (a b : ℕ) → IsLabelled now a → LeadsOn places a b → b < length places → IsLabelled now b ⊎ IsWaiting reached i a

-- a label at a free place, read anywhere
label_at : (now : Labels) (b label n k : ℕ) → slice_get now b ≡ Some None → HasLabel (set now b (Some label)) n k → HasLabel now n k ⊎ ((n ≡ b) × (k ≡ label))
label_at now b label n k free h =
    ⊎_elim
    (λ (same : (_ : _) × (n ≡ b)). inr (same.1, let e : Some (Some k) ≡ Some (Some label) = sym h ∙ ap (slice_get (set now b (Some label))) same.1 ∙ get_written now b (Some label) None free in cc))
    (λ (other : (_ : _) × (n ≡ b → ⊥)). inl (sym (get_unwritten now b n (Some label) other.1) ∙ h))
    (eqb_tells n b)

-- a labelled place keeps its label
label_stays : (now : Labels) (b label n k : ℕ) → slice_get now b ≡ Some None → HasLabel now n k → HasLabel (set now b (Some label)) n k
label_stays now b label n k free h = get_unwritten now b n (Some label) (λ e. let two : Some (Some k) ≡ Some None = sym h ∙ ap (slice_get now) e ∙ free in cc) ∙ h

-- a free place to which the seed leads is labelled
frees : (places : List Place) (seed label : ℕ) (old now : Labels) (reached : List ℕ) (i b : ℕ) → Spreading places seed label old now reached i → Leads places seed b
    → slice_get now b ≡ Some None → Spreading places seed label old (set now b (Some label)) (reached ++ b ∷ []) i
frees places seed label old now reached i b s led free = record {
  same_length = length-set now b (Some label) ∙ s.same_length;
  kept = λ n k h. label_stays now b label n k free (s.kept n k h);
  fresh = λ n k h. ⊎_elim (s.fresh n k) (λ (new : (n ≡ b) × (k ≡ label)). inr (new.1, subst (Leads places seed) (sym new.0) led)) (label_at now b label n k free h);
  within = omega (arith, length-append reached (b ∷ []), s.within);
  reaches = λ j n le h. ⊎_elim (s.reaches j n le) (λ (new : (j ≡ length reached) × (n ≡ b)). subst (Leads places seed) (sym new.1) led) (get_either reached b j n h);
  done = λ a c labelled on inside. ⊎_elim
      (λ (earlier : HasLabel now a labelled.0). ⊎_elim
      (λ (there : IsLabelled now c). inl (there.0, label_stays now b label c there.0 free there.1))
      (λ (waits : IsWaiting reached i a). inr (waits.0, waits.1, get_front reached (b ∷ []) waits.0 a waits.2))
      (s.done a c (labelled.0, earlier) on inside))
      (λ (new : (a ≡ b) × (labelled.0 ≡ label)). inr (length reached, s.within, get_end reached b ∙ ap Some (sym new.0)))
      (label_at now b label a labelled.0 free labelled.1);
}

-- A place to which the seed leads is labelled, where it is there.
pub labels_one : (places : List Place) (seed label : ℕ) (old now : Labels) (reached : List ℕ) (i b : ℕ) → Spreading places seed label old now reached i → Leads places seed b
    → Spreading places seed label old (labelled b label now) (reached_by b now reached) i
labels_one places seed label old now reached i b s led = cases (slice_get now b) refl
  where
    cases : (o : Option (Option ℕ)) → slice_get now b ≡ o → Spreading places seed label old (labelled b label now) (reached_by b now reached) i
    cases None e = rw e s
    cases (Some None) e = rw e (frees places seed label old now reached i b s led e)
    cases (Some (Some k)) e = rw e s

-- it is labelled then
pub is_labelled : (b label : ℕ) (now : Labels) → b < length now → IsLabelled (labelled b label now) b
is_labelled b label now inside = cases (slice_get now b) refl
  where
    cases : (o : Option (Option ℕ)) → slice_get now b ≡ o → IsLabelled (labelled b label now) b
    cases None e = let there = slice_get-get_or now b None inside in let two : Some _ ≡ None = sym there ∙ e in cc
    cases (Some None) e = rw e (label, get_written now b (Some label) None e)
    cases (Some (Some k)) e = rw e (k, e)

-- other labels stay
pub stays_labelled : (b label : ℕ) (now : Labels) (n : ℕ) → IsLabelled now n → IsLabelled (labelled b label now) n
stays_labelled b label now n h = cases (slice_get now b) refl
  where
    cases : (o : Option (Option ℕ)) → slice_get now b ≡ o → IsLabelled (labelled b label now) n
    cases None e = rw e h
    cases (Some None) e = rw e (h.0, label_stays now b label n h.0 e h.1)
    cases (Some (Some k)) e = rw e h

reached_stays : (b : ℕ) (now : Labels) (reached : List ℕ) (i a : ℕ) → slice_get reached i ≡ Some a → slice_get (reached_by b now reached) i ≡ Some a
reached_stays b now reached i a h = cases (is_free (slice_get now b)) refl
  where
    cases : (f : Bool) → is_free (slice_get now b) ≡ f → slice_get (reached_by b now reached) i ≡ Some a
    cases true e = rw e (get_front reached (b ∷ []) i a h)
    cases false e = rw e h

-- ---- what a place leads to

pub labels_target : (places : List Place) (seed label : ℕ) (old now : Labels) (reached : List ℕ) (i : ℕ) (t : Option ℕ) → Spreading places seed label old now reached i → ((b : ℕ) → t ≡ Some b → Leads places seed b)
    → Spreading places seed label old (labelled_target t label now) (reached_target t now reached) i
labels_target places seed label old now reached i None s led = s
labels_target places seed label old now reached i (Some b) s led = labels_one places seed label old now reached i b s (led b refl)

target_stays : (t : Option ℕ) (label : ℕ) (now : Labels) (n : ℕ) → IsLabelled now n → IsLabelled (labelled_target t label now) n
target_stays None label now n h = h
target_stays (Some b) label now n h = stays_labelled b label now n h

target_labelled : (t : Option ℕ) (label : ℕ) (now : Labels) (b : ℕ) → t ≡ Some b → b < length now → IsLabelled (labelled_target t label now) b
target_labelled t label now b e inside = subst (λ (u : Option ℕ). IsLabelled (labelled_target u label now) b) (sym e) (is_labelled b label now inside)

target_reached : (t : Option ℕ) (now : Labels) (reached : List ℕ) (i a : ℕ) → slice_get reached i ≡ Some a → slice_get (reached_target t now reached) i ≡ Some a
target_reached None now reached i a h = h
target_reached (Some b) now reached i a h = reached_stays b now reached i a h

-- a place whose targets are labelled is done with
pub advances : (places : List Place) (seed label : ℕ) (old now : Labels) (reached : List ℕ) (i a : ℕ) → Spreading places seed label old now reached i → slice_get reached i ≡ Some a
    → ((b : ℕ) → LeadsOn places a b → b < length places → IsLabelled now b) → Spreading places seed label old now reached (i + 1)
advances places seed label old now reached i a s at next = record {
  same_length = s.same_length;
  kept = s.kept;
  fresh = s.fresh;
  within = omega (arith, slice_get_within reached i a at);
  reaches = λ j n le h. s.reaches j n (omega arith) h;
  done = λ c b labelled on inside. ⊎_elim
      (λ (there : IsLabelled now b). inl there)
      (λ (waits : IsWaiting reached i c). ⊎_elim
      (λ (same : (_ : _) × (waits.0 ≡ i)).
      let two : Some c ≡ Some a = sym waits.2 ∙ ap (slice_get reached) same.1 ∙ at in
      let is : c ≡ a = cc in
      inl (next b (subst (λ (x : ℕ). LeadsOn places x b) is on) inside))
      (λ (other : (_ : _) × (waits.0 ≡ i → ⊥)). inr (waits.0, omega (arith, waits.1, other.1), waits.2))
      (eqb_tells waits.0 i))
      (s.done c b labelled on inside);
}

goes_on_at : (places : List Place) (seed label : ℕ) (old now : Labels) (reached : List ℕ) (i a : ℕ) (p : Place) → Spreading places seed label old now reached i → slice_get reached i ≡ Some a → slice_get places a ≡ Some p
    → Spreading places seed label old (gone_on (Some p) label now) (reached_from (Some p) label now reached) (i + 1)
goes_on_at places seed label old now reached i a p s at there =
    let led = s.reaches i a (omega arith) at in
    let one = labels_target places seed label old now reached i p.next s (λ b e. On a b led (p, there, inl e)) in
    let two = labels_target places seed label old _ _ i p.over one (λ b e. On a b led (p, there, inr e)) in
    advances places seed label old _ _ i a two
    (target_reached p.over _ _ i a (target_reached p.next now reached i a at))
    (λ b on inside.
    let same : Some on.0 ≡ Some p = sym on.1 ∙ there in
    let is : on.0 ≡ p = cc in
    ⊎_elim
    (λ (e : on.0.next ≡ Some b). target_stays p.over label _ b (target_labelled p.next label now b (sym (ap (λ (q : Place). q.next) is) ∙ e) (rw s.same_length inside)))
    (λ (e : on.0.over ≡ Some b). target_labelled p.over label _ b (sym (ap (λ (q : Place). q.over) is) ∙ e) (rw one.same_length inside))
    on.2)

-- The place reached as number i is gone on from.
pub goes_on : (places : List Place) (seed label : ℕ) (old now : Labels) (reached : List ℕ) (i a : ℕ) (o : Option Place) → slice_get places a ≡ o → Spreading places seed label old now reached i → slice_get reached i ≡ Some a
    → Spreading places seed label old (gone_on o label now) (reached_from o label now reached) (i + 1)
goes_on places seed label old now reached i a None none s at = advances places seed label old now reached i a s at (λ b on inside. let two : Some on.0 ≡ None = sym on.1 ∙ none in cc)
goes_on places seed label old now reached i a (Some p) there s at = goes_on_at places seed label old now reached i a p s at there

-- no label is lost
pub labels_stay : (o : Option Place) (label : ℕ) (now : Labels) (n : ℕ) → IsLabelled now n → IsLabelled (gone_on o label now) n
labels_stay None label now n h = h
labels_stay (Some p) label now n h = target_stays p.over label _ n (target_stays p.next label now n h)

-- ---- begin and end

pub begins : (places : List Place) (seed label : ℕ) (old : Labels) (reached : List ℕ) → IsWhole places old
    → Spreading places seed label old (labelled seed label old) (reached_by seed old reached) (length reached)
begins places seed label old reached whole = labels_one places seed label old old reached (length reached) seed start (Here seed refl)
  where
    start : Spreading places seed label old old reached (length reached)
    start = record {
      same_length = whole.same_length;
      kept = λ n k h. h;
      fresh = λ n k h. inl h;
      within = omega arith;
      reaches = λ j n le h. absurd (omega (arith, slice_get_within reached j n h));
      done = λ a b labelled on inside. inl (whole.closed a b labelled on inside);
    }

pub ends : (places : List Place) (seed label : ℕ) (old now : Labels) (reached : List ℕ) (i : ℕ) → Spreading places seed label old now reached i → length reached ≤ i → (seed < length places → IsLabelled now seed)
    → Spreads places seed label old now
ends places seed label old now reached i s past seeded = record {
  whole = record {
    same_length = s.same_length;
    closed = λ a b labelled on inside. ⊎_elim
        (λ (there : IsLabelled now b). there)
        (λ (waits : IsWaiting reached i a). absurd (omega (arith, waits.1, slice_get_within reached waits.0 a waits.2)))
        (s.done a b labelled on inside);
  };
  kept = s.kept;
  fresh = s.fresh;
  seeded = seeded;
}

-- ---- it ends

-- how many places have no label
pub free_places : Labels → ℕ
free_places [] = 0
free_places (None ∷ labels) = suc (free_places labels)
free_places (Some k ∷ labels) = free_places labels

one_less : (labels : Labels) (b k : ℕ) → slice_get labels b ≡ Some None → free_places (set labels b (Some k)) + 1 ≡ free_places labels
unfolding free_places
one_less [] zero k h = cc
one_less [] (suc b) k h = cc
one_less (None ∷ labels) zero k h = omega arith
one_less (Some j ∷ labels) zero k h = cc
one_less (None ∷ labels) (suc b) k h = let e = one_less labels b k h in omega arith
one_less (Some j ∷ labels) (suc b) k h = one_less labels b k h

-- Each label makes one free place less and one reached place more.
pub keeps_sum : (b k : ℕ) (labels : Labels) (reached : List ℕ) → free_places (labelled b k labels) + length (reached_by b labels reached) ≡ free_places labels + length reached
keeps_sum b k labels reached = cases (slice_get labels b) refl
  where
    cases : (o : Option (Option ℕ)) → slice_get labels b ≡ o → free_places (labelled b k labels) + length (reached_by b labels reached) ≡ free_places labels + length reached
    cases None e = rw e refl
    cases (Some None) e = rw e (omega (arith, one_less labels b k e, length-append reached (b ∷ [])))
    cases (Some (Some j)) e = rw e refl

target_keeps_sum : (t : Option ℕ) (k : ℕ) (labels : Labels) (reached : List ℕ) → free_places (labelled_target t k labels) + length (reached_target t labels reached) ≡ free_places labels + length reached
target_keeps_sum None k labels reached = refl
target_keeps_sum (Some b) k labels reached = keeps_sum b k labels reached

pub going_keeps_sum : (o : Option Place) (k : ℕ) (labels : Labels) (reached : List ℕ) → free_places (gone_on o k labels) + length (reached_from o k labels reached) ≡ free_places labels + length reached
going_keeps_sum None k labels reached = refl
going_keeps_sum (Some p) k labels reached = target_keeps_sum p.over k (labelled_target p.next k labels) (reached_target p.next labels reached) ∙ target_keeps_sum p.next k labels reached
