-- Lists that are looked at layer by layer show whether a part is unsettled.
use Rattle.std.proofs.Common.{◌≡◌, ℕ, zero, suc, ◌-◌, ◌<◌, arith, Bool, true, false, nat_eq, List, [], ◌∷◌, ◌++◌, Some, None, length, refl, sym, ap, subst, ◌∙◌}
use Rattle.std.specs.Prelude.{◌||◌, if◌then◌else◌}
use Rattle.std.specs.List.{list_any}
use Rattle.std.proofs.lemmas.Bool.{eqb-true}
use Rattle.indexmap.specs.IndexSet.{insert_key}
use Rattle.ev_base.specs.declared.values.Value.{Value}
use Rattle.ev_base.specs.declared.values.Value.TheVariants as held
use Rattle.ev_pass.specs.declared.interior.Interior.{Interior}
use Rattle.ev_prims.specs.Answers.{members_at}
use Rattle.ev_refs.specs.Follow.{followed, led, severed, place_of}
use Rattle.ev_refs.specs.Leading.{list_of}
use Rattle.ev_steps.specs.Layers.{Looks, any_open, any_within}
use Rattle.ev_steps.specs.Same.{any_of, is_open, is_unsettled, open_by}

-- ---- tests of two

or_true : (a : Bool) → (a || true) ≡ true
or_true true = refl
or_true false = refl

or_none : (a : Bool) → (a || false) ≡ a
or_none true = refl
or_none false = refl

-- the second of three first
or_turned : (a b c : Bool) → (a || (b || c)) ≡ (b || (a || c))
or_turned true true c = refl
or_turned true false c = refl
or_turned false true c = refl
or_turned false false c = refl

or_again : (a b : Bool) → a ≡ true → (a || b) ≡ true
or_again true b e = refl
or_again false b e = absurd (cc)

or_chosen : (a b : Bool) → (if a then true else b) ≡ (a || b)
or_chosen true b = refl
or_chosen false b = refl

or_assoc : (a b c : Bool) → ((a || b) || c) ≡ (a || (b || c))
or_assoc true b c = refl
or_assoc false b c = refl

module _ (i : Interior) where
  plain : (members : List Value → Bool) (z : Value) → list_of z ≡ None → open_by i members z ≡ is_unsettled (place_of i.refs z)
  unfolding open_by
  plain members (held.List k) m = absurd (cc)
  plain members held.Null m = refl
  plain members (held.Bool b) m = refl
  plain members (held.Int z) m = refl
  plain members (held.Char c) m = refl
  plain members (held.Text t) m = refl
  plain members (held.Prim p) m = refl
  plain members (held.Obj o) m = refl
  plain members (held.Prom p) m = refl
  plain members (held.Far h p) m = refl
  plain members (held.Broken t) m = refl

  open_value : (d : ℕ) (v y : Value) → followed i.refs v ≡ y → list_of y ≡ None → is_open i d v ≡ is_unsettled (place_of i.refs y)
  unfolding is_open
  open_value zero v y e n = ap (λ (z : Value). open_by i (λ vs. false) z) e ∙ plain (λ vs. false) y n
  open_value (suc d) v y e n = ap (λ (z : Value). open_by i (any_of (λ w. is_open i d w)) z) e ∙ plain (any_of (λ w. is_open i d w)) y n

  pub list_itself : (k : ℕ) → followed i.refs (held.List k) ≡ held.List k
  unfolding followed led severed
  list_itself k = refl

  open_as : (d : ℕ) (v : Value) (k : ℕ) → followed i.refs v ≡ held.List k → is_open i d v ≡ is_open i d (held.List k)
  unfolding is_open
  open_as zero v k e = ap (λ (y : Value). open_by i (λ vs. false) y) (e ∙ sym (list_itself k))
  open_as (suc d) v k e = ap (λ (y : Value). open_by i (any_of (λ w. is_open i d w)) y) (e ∙ sym (list_itself k))

  -- a list is open where a member is
  open_in : (d k : ℕ) → is_open i (suc d) (held.List k) ≡ any_of (λ v. is_open i d v) (members_at i.heap k)
  unfolding is_open open_by
  open_in d k = ap (λ (y : Value). open_by i (any_of (λ v. is_open i d v)) y) (list_itself k)

  none_deep : (k : ℕ) → is_open i zero (held.List k) ≡ false
  unfolding is_open open_by
  none_deep k = ap (λ (y : Value). open_by i (λ vs. false) y) (list_itself k)

  -- ---- a list for the next layer

  abbrev of_list : ℕ → ℕ → Bool
  of_list d k = is_open i d (held.List k)

  pushed : (d k : ℕ) (ks : List ℕ) → any_open i d (ks ++ k ∷ []) ≡ (of_list d k || any_open i d ks)
  unfolding any_open
  pushed d k [] = refl
  pushed d k (j ∷ ks) = ap (λ (b : Bool). of_list d j || b) (pushed d k ks) ∙ or_turned (of_list d j) (of_list d k) (any_open i d ks)

  or_once : (a b : Bool) → (a || (a || b)) ≡ (a || b)
  or_once true b = refl
  or_once false b = refl

  among : (d k : ℕ) (ks : List ℕ) → list_any (nat_eq k) ks ≡ true → (of_list d k || any_open i d ks) ≡ any_open i d ks
  unfolding any_open
  among d k [] e = absurd (cc)
  among d k (j ∷ ks) e = by (nat_eq k j) refl (among d k ks)
    where
      by : (b : Bool) → nat_eq k j ≡ b → (list_any (nat_eq k) ks ≡ true → (of_list d k || any_open i d ks) ≡ any_open i d ks) → (of_list d k || (of_list d j || any_open i d ks)) ≡ (of_list d j || any_open i d ks)
      by true h more =
          let same : k ≡ j = eqb-true k j h in
          ap (λ (n : ℕ). of_list d n || (of_list d j || any_open i d ks)) same ∙ or_once (of_list d j) (any_open i d ks)
      by false h more =
          let rest : list_any (nat_eq k) ks ≡ true = subst (λ (b : Bool). (b || list_any (nat_eq k) ks) ≡ true) h e in
          or_turned (of_list d k) (of_list d j) (any_open i d ks) ∙ ap (λ (b : Bool). of_list d j || b) (more rest)

  inserted : (d k : ℕ) (ks : List ℕ) → any_open i d (insert_key nat_eq ks k) ≡ (of_list d k || any_open i d ks)
  inserted d k ks = by (list_any (nat_eq k) ks) refl
    where
      by : (b : Bool) → list_any (nat_eq k) ks ≡ b → any_open i d (if b then ks else ks ++ k ∷ []) ≡ (of_list d k || any_open i d ks)
      by true e = sym (among d k ks e)
      by false e = pushed d k ks

  -- ---- looking at one value, and at several

  list_is : (y : Value) (k : ℕ) → list_of y ≡ Some k → y ≡ held.List k
  list_is (held.List j) k e = let same : j ≡ k = cc in ap held.List same
  list_is held.Null k e = absurd (cc)
  list_is (held.Bool b) k e = absurd (cc)
  list_is (held.Int z) k e = absurd (cc)
  list_is (held.Char c) k e = absurd (cc)
  list_is (held.Text t) k e = absurd (cc)
  list_is (held.Prim p) k e = absurd (cc)
  list_is (held.Obj o) k e = absurd (cc)
  list_is (held.Prom p) k e = absurd (cc)
  list_is (held.Far h p) k e = absurd (cc)
  list_is (held.Broken t) k e = absurd (cc)

  pub looks_list : (v y : Value) (k : ℕ) (before after : List ℕ) → y ≡ followed i.refs v → list_of y ≡ Some k → after ≡ insert_key nat_eq before k
      → Looks i (λ d. is_open i d v) before false after
  looks_list v y k before after e l a d =
      ap (λ (b : Bool). b || any_open i d before) (open_as d v k (sym e ∙ list_is y k l))
      ∙ sym (inserted d k before) ∙ ap (any_open i d) (sym a)

  pub looks_value : (v y : Value) (b : Bool) (before : List ℕ) → y ≡ followed i.refs v → list_of y ≡ None → b ≡ is_unsettled (place_of i.refs y)
      → Looks i (λ d. is_open i d v) before b before
  looks_value v y b before e l u d = ap (λ (c : Bool). c || any_open i d before) (open_value d v y (sym e) l ∙ sym u)

  -- ---- layers

  alone : (p : Bool) (d : ℕ) (before : List ℕ) → before ≡ [] → (p || any_open i d before) ≡ p
  unfolding any_open
  alone p d before e = rw e (or_none p)

  pub first_found : (v : Value) (before after : List ℕ) (found : Bool) (d : ℕ) → before ≡ [] → found ≡ true → Looks i (λ n. is_open i n v) before found after → is_open i d v ≡ true
  first_found v before after found d e f h = sym (alone (is_open i d v) d before e) ∙ h d ∙ ap (λ (b : Bool). b || any_open i d after) f

  pub first_missed : (v : Value) (before after : List ℕ) (found : Bool) (d : ℕ) → before ≡ [] → found ≡ false → Looks i (λ n. is_open i n v) before found after → is_open i d v ≡ any_open i d after
  first_missed v before after found d e f h = sym (alone (is_open i d v) d before e) ∙ h d ∙ ap (λ (b : Bool). b || any_open i d after) f

  within_is : (d : ℕ) (ks : List ℕ) → any_open i (suc d) ks ≡ any_within i d ks
  unfolding any_open
  within_is d [] = refl
  within_is d (k ∷ ks) =
      ap (λ (b : Bool). b || any_open i (suc d) ks) (open_in d k)
      ∙ ap (λ (b : Bool). any_of (λ v. is_open i d v) (members_at i.heap k) || b) (within_is d ks)
      ∙ sym (or_chosen (any_of (λ v. is_open i d v) (members_at i.heap k)) (any_within i d ks))

  pub next_found : (ks before after : List ℕ) (found : Bool) (d : ℕ) → 0 < d → before ≡ [] → found ≡ true → Looks i (λ n. any_within i n ks) before found after → any_open i d ks ≡ true
  next_found ks before after found zero l e f h = absurd (omega arith)
  next_found ks before after found (suc d) l e f h = within_is d ks ∙ sym (alone (any_within i d ks) d before e) ∙ h d ∙ ap (λ (b : Bool). b || any_open i d after) f

  pub next_missed : (ks before after : List ℕ) (found : Bool) (d : ℕ) → 0 < d → before ≡ [] → found ≡ false → Looks i (λ n. any_within i n ks) before found after → any_open i d ks ≡ any_open i (d - 1) after
  next_missed ks before after found zero l e f h = absurd (omega arith)
  next_missed ks before after found (suc d) l e f h =
      let same : d ≡ suc d - 1 = omega arith in
      within_is d ks ∙ sym (alone (any_within i d ks) d before e) ∙ h d ∙ ap (λ (b : Bool). b || any_open i d after) f ∙ ap (λ (n : ℕ). any_open i n after) same

  pub none_left : (d : ℕ) (ks : List ℕ) → length ks ≡ 0 → any_open i d ks ≡ false
  unfolding any_open
  none_left d [] e = refl
  none_left d (k ∷ ks) e = absurd (omega arith)

  pub none_lower : (ks : List ℕ) → any_open i zero ks ≡ false
  unfolding any_open
  none_lower [] = refl
  none_lower (k ∷ ks) = rw (none_deep k) (none_lower ks)
