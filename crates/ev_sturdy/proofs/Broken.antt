-- A reference that was broken is broken for good.
use Rattle.std.proofs.Common.{◌≡◌, ◌⊎◌, inl, inr, ℕ, zero, suc, ◌<◌, Bool, true, false, cond, nat_eq, nat_lt, List, [], ◌∷◌, ◌++◌, length, Option, Some, None, refl, sym, ap, ◌∙◌, arith}
use Rattle.std.specs.Prelude.{slice_get}
use Rattle.std.specs.List.{list_any}
use Rattle.std.proofs.lemmas.Bool.{eqb-true, lt-ltb}
use Rattle.std.proofs.lemmas.Option.{slice_get_within}
use Rattle.ev_sturdy.specs.declared.sturdy.Side.TheVariants.{Host, Guest}
use Rattle.ev_sturdy.specs.declared.sturdy.Used.TheVariants.{Object, Lost, Broken, Nothing}
use Rattle.ev_sturdy.specs.Kept.{Kept, used, used_now, used_earlier}
use Rattle.ev_sturdy.specs.Past.{Deed, Registered, Connected, Shown, Cut, Noticed, kept, after, StaysBroken}
use Rattle.ev_sturdy.proofs.Past.{step}

-- ---- why a reference is broken

-- it is of this connection, and the guest noticed the cut
abbrev IsOver : ℕ → ℕ → Kept → Type 0
IsOver number position k = (number ≡ length k.earlier) × (k.is_noticed_by_guest ≡ true) × (object : ℕ) × (slice_get k.shown position ≡ Some object)

-- it is of an earlier connection
abbrev IsEarlier : ℕ → ℕ → Kept → Type 0
IsEarlier number position k = (count : ℕ) × (slice_get k.earlier number ≡ Some count) × (nat_lt position count ≡ true)

abbrev IsBroken : ℕ → ℕ → Kept → Type 0
IsBroken number position k = IsOver number position k ⊎ IsEarlier number position k

by_flags : (noticed cut : Bool) (object : ℕ) → cond noticed Broken (cond cut Lost (Object object)) ≡ Broken → noticed ≡ true
by_flags true cut object h = refl
by_flags false true object h = absurd cc
by_flags false false object h = absurd cc

over_parts : (k : Kept) (o : Option ℕ) → used_now k o ≡ Broken → (k.is_noticed_by_guest ≡ true) × (object : ℕ) × (o ≡ Some object)
over_parts k None h = absurd cc
over_parts k (Some object) h = (by_flags k.is_noticed_by_guest k.is_cut object h, object, refl)

by_count : (b : Bool) → cond b Broken Nothing ≡ Broken → b ≡ true
by_count true h = refl
by_count false h = absurd cc

earlier_parts : (position : ℕ) (o : Option ℕ) → used_earlier position o ≡ Broken → (count : ℕ) × (o ≡ Some count) × (nat_lt position count ≡ true)
earlier_parts position None h = absurd cc
earlier_parts position (Some count) h = (count, refl, by_count (nat_lt position count) h)

parts_by : (number position : ℕ) (k : Kept) (b : Bool) → nat_eq number (length k.earlier) ≡ b
    → cond b (used_now k (slice_get k.shown position)) (used_earlier position (slice_get k.earlier number)) ≡ Broken → IsBroken number position k
parts_by number position k true e h =
    let p = over_parts k (slice_get k.shown position) h in inl (eqb-true number (length k.earlier) e, p.0, p.1, p.2)
parts_by number position k false e h = inr (earlier_parts position (slice_get k.earlier number) h)

why : (number position : ℕ) (k : Kept) → used number position k ≡ Broken → IsBroken number position k
why number position k h = parts_by number position k (nat_eq number (length k.earlier)) refl h

same : (n : ℕ) → nat_eq n n ≡ true
same zero = refl
same (suc n) = grind arith

over_so : (number position : ℕ) (k : Kept) → IsOver number position k → used number position k ≡ Broken
over_so number position k h =
    let is_this : nat_eq number (length k.earlier) ≡ true = ap (λ (n : ℕ). nat_eq number n) (sym h.0) ∙ same number in
    rw is_this (rw h.3 (rw h.1 refl))

differs : (number count : ℕ) (b : Bool) → nat_eq number count ≡ b → number < count → b ≡ false
differs number count false e lt = refl
differs number count true e lt = let is : number ≡ count = eqb-true number count e in absurd (omega arith)

earlier_so : (number position : ℕ) (k : Kept) → IsEarlier number position k → used number position k ≡ Broken
earlier_so number position k h =
    let other : nat_eq number (length k.earlier) ≡ false =
    differs number (length k.earlier) (nat_eq number (length k.earlier)) refl (slice_get_within k.earlier number h.0 h.1) in
    rw other (rw h.1 (rw h.2 refl))

so : (number position : ℕ) (k : Kept) → IsBroken number position k → used number position k ≡ Broken
so number position k (inl h) = over_so number position k h
so number position k (inr h) = earlier_so number position k h

-- ---- no deed mends it

-- a list still has what it had, once more stands behind it
still_there : (xs ys : List ℕ) (i x : ℕ) → slice_get xs i ≡ Some x → slice_get (xs ++ ys) i ≡ Some x
still_there [] ys i x h = absurd cc
still_there (y ∷ xs) ys zero x h = h
still_there (y ∷ xs) ys (suc i) x h = still_there xs ys i x h

last_of : (xs : List ℕ) (x : ℕ) → slice_get (xs ++ x ∷ []) (length xs) ≡ Some x
last_of [] x = refl
last_of (y ∷ xs) x = last_of xs x

still_shown_by : (b : Bool) (object : ℕ) (shown : List ℕ) (i x : ℕ) → slice_get shown i ≡ Some x → slice_get (cond b shown (shown ++ object ∷ [])) i ≡ Some x
still_shown_by true object shown i x h = h
still_shown_by false object shown i x h = still_there shown (object ∷ []) i x h

still_broken : (deed : Deed) (number position : ℕ) (k : Kept) → IsBroken number position k → IsBroken number position (after deed k)
still_broken (Registered swiss object) number position k h = h
still_broken Cut number position k h = h
still_broken (Noticed Host) number position k h = h
still_broken (Noticed Guest) number position k (inl h) = inl (h.0, refl, h.2, h.3)
still_broken (Noticed Guest) number position k (inr h) = inr h
still_broken (Shown object) number position k (inl h) =
    inl (h.0, h.1, h.2, still_shown_by (list_any (nat_eq object) k.shown) object k.shown position h.2 h.3)
still_broken (Shown object) number position k (inr h) = inr h
still_broken Connected number position k (inl h) =
    let count = length k.shown in
    inr (
      count,
      ap (slice_get (k.earlier ++ count ∷ [])) h.0 ∙ last_of k.earlier count,
      lt-ltb position count (slice_get_within k.shown position h.2 h.3),
    )
still_broken Connected number position k (inr h) =
    inr (h.0, still_there k.earlier (length k.shown ∷ []) number h.0 h.1, h.2)

pub stays_broken : StaysBroken
stays_broken number position [] past h = h
stays_broken number position (deed ∷ more) past h =
    let k = kept (more ++ past) in
    ap (used number position) (step deed (more ++ past))
    ∙ so number position (after deed k) (still_broken deed number position k (why number position k (stays_broken number position more past h)))
