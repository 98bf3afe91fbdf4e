-- What a vat exported is told one place after the other.
use Rattle.std.proofs.Common.{◌≡◌, ◌⊎◌, inl, inr, ℕ, zero, suc, ◌+◌, ◌<◌, ◌≤◌, List, [], ◌∷◌, ◌++◌, Option, Some, get_or, length, map, refl, sym, ap, subst, ◌∙◌, append_assoc, append-nil, arith}
use Rattle.std.specs.Prelude.{drop, slice_get, slice_set}
use Rattle.std.proofs.lemmas.List.{length-append, length-map, length-set}
use Rattle.ev_base.specs.declared.values.Value.{Value}
use Rattle.ev_resident.specs.declared.Member.{Member}
use Rattle.ev_resident.specs.Names.{Named}
use Rattle.ev_resident.specs.declared.resident.Resident.{Resident}
use Rattle.ev_step_lines.specs.Lines.{with_import}
use Rattle.ev_world.specs.Exporting.{AreCounted, AreTold, exports_for, object_of, told_by, with_imports}
use Rattle.ev_world.proofs.Objects.{same_or_not, set_other, set_there}

-- ---- places

-- what stands at a place within a list
pub stands : {A : Type 0} (xs : List A) (i : ℕ) → i < length xs → (y : A) × (slice_get xs i ≡ Some y)
stands [] i h = absurd (omega arith)
stands (x ∷ xs) zero h = (x, refl)
stands (x ∷ xs) (suc i) h = stands xs i (omega arith)

pub only : {A : Type 0} {o : Option A} {x y : A} → o ≡ Some x → o ≡ Some y → x ≡ y
only e f = cc

less_or_not : (i j : ℕ) → (i < j) ⊎ (j ≤ i)
less_or_not i zero = inr (omega arith)
less_or_not zero (suc j) = inl (omega arith)
less_or_not (suc i) (suc j) = elim (less_or_not i j) as (λ _. (suc i < suc j) ⊎ (suc j ≤ suc i)) [ inl h ↦ inl (omega (arith, h)) | inr h ↦ inr (omega (arith, h)) ]

drop_suc : {A : Type 0} (xs : List A) (k : ℕ) (x : A) → slice_get xs k ≡ Some x → drop k xs ≡ x ∷ drop (suc k) xs
drop_suc [] k x e = absurd cc
drop_suc (y ∷ ys) zero x e = cc
drop_suc (y ∷ ys) (suc k) x e = drop_suc ys k x e

drop_at : {A : Type 0} (xs : List A) (k : ℕ) (x : A) → slice_get xs k ≡ Some x → drop k xs ≡ x ∷ drop (k + 1) xs
drop_at xs k x e = let next : suc k ≡ k + 1 = omega arith in drop_suc xs k x e ∙ ap (λ (j : ℕ). x ∷ drop j xs) next

drop_past : {A : Type 0} (xs : List A) (k : ℕ) → length xs ≤ k → drop k xs ≡ []
drop_past [] zero h = refl
drop_past [] (suc k) h = refl
drop_past (x ∷ xs) zero h = absurd (omega arith)
drop_past (x ∷ xs) (suc k) h = drop_past xs k (omega arith)

map_at : {A B : Type 0} (f : A → B) (xs : List A) (k : ℕ) (x : A) → slice_get xs k ≡ Some x → slice_get (map f xs) k ≡ Some (f x)
map_at f [] k x e = absurd cc
map_at f (y ∷ ys) zero x e = cc
map_at f (y ∷ ys) (suc k) x e = map_at f ys k x e

-- ---- objects that came since

pub since_next : (vs : List Value) (os next : List ℕ) (known k o : ℕ) (v : Value) → os ++ drop k (map object_of vs) ≡ drop known (map object_of vs) → slice_get vs k ≡ Some v → o ≡ object_of v → next ≡ os ++ o ∷ []
    → next ++ drop (k + 1) (map object_of vs) ≡ drop known (map object_of vs)
since_next vs os next known k o v so_far there is more =
    ap (λ (xs : List ℕ). xs ++ drop (k + 1) (map object_of vs)) (more ∙ ap (λ (n : ℕ). os ++ n ∷ []) is)
    ∙ append_assoc os (object_of v ∷ []) (drop (k + 1) (map object_of vs))
    ∙ ap (λ (xs : List ℕ). os ++ xs) (sym (drop_at (map object_of vs) k (object_of v) (map_at object_of vs k v there)))
    ∙ so_far

pub since_all : (vs : List Value) (os : List ℕ) (known k : ℕ) → os ++ drop k (map object_of vs) ≡ drop known (map object_of vs) → length vs ≤ k → os ≡ drop known (map object_of vs)
since_all vs os known k so_far past =
    sym (append-nil os)
    ∙ ap (λ (xs : List ℕ). os ++ xs) (sym (drop_past (map object_of vs) k (subst (λ (n : ℕ). n ≤ k) (sym (length-map vs object_of)) past)))
    ∙ so_far

pub imports_next : (h : ℕ) (all : List ℕ) (n m first : Named) (k o : ℕ) → with_imports h (drop k all) n ≡ with_imports h all first → slice_get all k ≡ Some o → m ≡ record n { naming = with_import h o n.naming }
    → with_imports h (drop (k + 1) all) m ≡ with_imports h all first
imports_next h all n m first k o so_far there next =
    ap (λ (x : Named). with_imports h (drop (k + 1) all) x) next ∙ one ∙ ap (λ (os : List ℕ). with_imports h os n) (sym (drop_at all k o there)) ∙ so_far
  where
    one : with_imports h (drop (k + 1) all) (record n { naming = with_import h o n.naming }) ≡ with_imports h (o ∷ drop (k + 1) all) n
    one = unfold with_imports in refl

pub imports_all : (h : ℕ) (all : List ℕ) (n first : Named) (k : ℕ) → with_imports h (drop k all) n ≡ with_imports h all first → length all ≤ k → n ≡ with_imports h all first
imports_all h all n first k so_far past = none ∙ ap (λ (os : List ℕ). with_imports h os n) (sym (drop_past all k past)) ∙ so_far
  where
    none : n ≡ with_imports h [] n
    none = unfold with_imports in refl

-- ---- residents

pub none_told : (u : ℕ) (c : Member) (before : List ℕ) (rs : List Resident) → AreTold u c before zero rs rs
none_told u c before rs = record { same = refl; told = λ p r e less. absurd (omega (arith, less)); left = λ p r e more. e }

-- the one that tells stays the same member
teller : (u : ℕ) (q : Resident) (before : List ℕ) (k : ℕ) (rs qs : List Resident) → AreTold u q.member before k rs qs → slice_get rs u ≡ Some q → (x : Resident) × ((slice_get qs u ≡ Some x) × (x.member ≡ q.member))
teller u q before k rs qs are e = by (less_or_not u k)
  where
    by : (u < k) ⊎ (k ≤ u) → (x : Resident) × ((slice_get qs u ≡ Some x) × (x.member ≡ q.member))
    by (inl less) = (told_by u q.member before u q, (are.told u q e less, refl))
    by (inr more) = (q, (are.left u q e more, refl))

pub told_next : (u : ℕ) (q : Resident) (before : List ℕ) (k : ℕ) (rs qs next : List Resident) → AreTold u q.member before k rs qs → slice_get rs u ≡ Some q → k < length rs
    → ((x r : Resident) → slice_get qs u ≡ Some x → slice_get qs k ≡ Some r → next ≡ slice_set qs k (told_by u x.member before k r)) → AreTold u q.member before (k + 1) rs next
told_next u q before k rs qs next are e less f = record {
  same = ap length is ∙ length-set qs k (told_by u q.member before k r.0) ∙ are.same;
  told = λ p y i lt. by_told p y i lt (same_or_not k p);
  left = λ p y i more. ap (λ (ts : List Resident). slice_get ts p) is ∙ set_other qs k p (told_by u q.member before k r.0) (λ j. absurd (omega (arith, j, more))) ∙ are.left p y i (omega (arith, more));
}
  where
    r : (y : Resident) × (slice_get rs k ≡ Some y)
    r = stands rs k less

    x : (z : Resident) × ((slice_get qs u ≡ Some z) × (z.member ≡ q.member))
    x = teller u q before k rs qs are e

    is : next ≡ slice_set qs k (told_by u q.member before k r.0)
    is = f x.0 r.0 x.1.0 (are.left k r.0 r.1 (omega arith)) ∙ ap (λ (c : Member). slice_set qs k (told_by u c before k r.0)) x.1.1

    within : k < length qs
    within = subst (λ (n : ℕ). k < n) (sym are.same) less

    below : (p : ℕ) → p < k + 1 → (k ≡ p → ⊥) → p < k
    below p lt ne = elim (less_or_not p k) as (λ _. p < k) [ inl h ↦ h | inr h ↦ absurd (ne (omega (arith, lt, h))) ]

    by_told : (p : ℕ) (y : Resident) → slice_get rs p ≡ Some y → p < k + 1 → (k ≡ p) ⊎ (k ≡ p → ⊥) → slice_get next p ≡ Some (told_by u q.member before p y)
    by_told p y i lt (inl j) =
        let same : r.0 ≡ y = only r.1 (ap (slice_get rs) j ∙ i) in
        subst (λ (n : ℕ). slice_get next n ≡ Some (told_by u q.member before n y)) j
        (subst (λ (z : Resident). slice_get next k ≡ Some (told_by u q.member before k z)) same
        (ap (λ (ts : List Resident). slice_get ts k) is ∙ set_there qs k (told_by u q.member before k r.0) within))
    by_told p y i lt (inr ne) = ap (λ (ts : List Resident). slice_get ts p) is ∙ set_other qs k p (told_by u q.member before k r.0) ne ∙ are.told p y i (below p lt ne)

-- ---- counts

pub none_counted : (c : Member) → AreCounted c zero []
none_counted c = record { long = refl; each = λ h less. absurd (omega (arith, less)) }

got_behind : (ks : List ℕ) (h n : ℕ) → (h < length ks → get_or (ks ++ n ∷ []) h zero ≡ get_or ks h zero) × (h ≡ length ks → get_or (ks ++ n ∷ []) h zero ≡ n)
got_behind [] zero n = (λ less. absurd (omega (arith, less)), λ e. refl)
got_behind [] (suc h) n = (λ less. absurd (omega (arith, less)), λ e. absurd (omega (arith, e)))
got_behind (k ∷ ks) zero n = (λ less. refl, λ e. absurd (omega (arith, e)))
got_behind (k ∷ ks) (suc h) n = let is = got_behind ks h n in (λ less. is.0 (omega (arith, less)), λ e. is.1 (omega (arith, e)))

pub counted_next : (c : Member) (k n : ℕ) (ks next : List ℕ) → AreCounted c k ks → n ≡ exports_for k c → next ≡ ks ++ n ∷ [] → AreCounted c (k + 1) next
counted_next c k n ks next are is more = record {
  long = ap length more ∙ length-append ks (n ∷ []) ∙ ap (λ (j : ℕ). j + 1) are.long;
  each = λ h less. ap (λ (js : List ℕ). get_or js h zero) more ∙ by h less (same_or_not h k);
}
  where
    by : (h : ℕ) → h < k + 1 → (h ≡ k) ⊎ (h ≡ k → ⊥) → get_or (ks ++ n ∷ []) h zero ≡ exports_for h c
    by h less (inl e) = (got_behind ks h n).1 (e ∙ sym are.long) ∙ is ∙ ap (λ (j : ℕ). exports_for j c) (sym e)
    by h less (inr ne) = let lt : h < k = elim (less_or_not h k) as (λ _. h < k) [ inl i ↦ i | inr i ↦ absurd (ne (omega (arith, less, i))) ] in (got_behind ks h n).0 (subst (λ (j : ℕ). h < j) (sym are.long) lt) ∙ are.each h lt
