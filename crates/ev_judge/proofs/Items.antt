-- The items of a frame one after the other, as a loop judges them.
use Rattle.std.proofs.Common.{◌≡◌, ℕ, suc, ◌<◌, ◌≤◌, Bool, true, false, List, length, drop, get_or, refl, sym, ◌∙◌, ap, subst, add-one}
use Rattle.std.proofs.lemmas.List.{drop_all, drop_more}
use Rattle.def_op.specs.declared.spots.Spot.{Spot}
use Rattle.def_hostile.specs.Judge.{Counts, Look, Judged, Fine, Faulty, judged, judged_on, item_passes, passes_where}

module _ (vats me peer : ℕ) (c : Counts) where
  -- an item passes, and the others are left
  pub goes_on : (spots : List Spot) (k : ℕ) (d : Spot) (l after : Look) (b : Bool) (total : Judged) → k < length spots
      → item_passes vats me peer c (get_or spots k d).part l ≡ passes_where b after → b ≡ true → judged vats me peer c (drop k spots) l ≡ total → judged vats me peer c (drop (suc k) spots) after ≡ total
  unfolding judged judged_on passes_where
  goes_on spots k d l after b total lt is so so_far = subst (λ (n : ℕ). judged vats me peer c (drop n spots) after ≡ total) (add-one k) (sym (ap (λ (ss : List Spot). judged vats me peer c ss l) (drop_more spots k d lt) ∙ rw (is, so) refl) ∙ so_far)

  -- an item does not pass
  pub stops : (spots : List Spot) (k : ℕ) (d : Spot) (l after : Look) (b : Bool) (total : Judged) → k < length spots
      → item_passes vats me peer c (get_or spots k d).part l ≡ passes_where b after → b ≡ false → judged vats me peer c (drop k spots) l ≡ total → Faulty (get_or spots k d).at ≡ total
  unfolding judged judged_on passes_where
  stops spots k d l after b total lt is so so_far = sym (ap (λ (ss : List Spot). judged vats me peer c ss l) (drop_more spots k d lt) ∙ rw (is, so) refl) ∙ so_far

  -- no item is left
  pub is_done : (spots : List Spot) (k : ℕ) (l : Look) (total : Judged) → length spots ≤ k → judged vats me peer c (drop k spots) l ≡ total → Fine l.new ≡ total
  unfolding judged
  is_done spots k l total le so_far = sym (ap (λ (ss : List Spot). judged vats me peer c ss l) (drop_all k spots le)) ∙ so_far
