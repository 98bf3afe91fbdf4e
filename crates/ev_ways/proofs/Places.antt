-- The ways in order, and the rows in which they are kept.
use Rattle.std.proofs.Common.{◌≡◌, ℕ, zero, suc, ◌+◌, ◌<◌, Bool, true, false, List, [], ◌∷◌, ◌++◌, Option, Some, None, refl, sym, ap, ◌∙◌, subst, arith}
use Rattle.std.specs.Prelude.{◌==◌, slice_get, if◌then◌else◌}
use Rattle.std.proofs.lemmas.Bool.{eqb-true, eq-eqb}
use Rattle.ev_ways.specs.Rows.{Lane, of_found, set_found, with_at, changed_from, changed}
use Rattle.ev_ways.specs.Standing.{Placed, placed_to, placed_from}

pub chosen : {A : Type 0} (c : Bool) (x y : A) → c ≡ true → ◌≡◌ {A = A} (elim c [ true ↦ x | false ↦ y ]) x
chosen true x y e = refl
chosen false x y e = cc

pub refused : {A : Type 0} (c : Bool) (x y : A) → c ≡ false → ◌≡◌ {A = A} (elim c [ true ↦ x | false ↦ y ]) y
refused false x y e = refl
refused true x y e = cc

-- what is not equal is not tested so
pub unequal : (a b : ℕ) → (a ≡ b → ⊥) → (a == b) ≡ false
unequal a b n = by (a == b) refl
  where
    by : (t : Bool) → (a == b) ≡ t → (a == b) ≡ false
    by true e = absurd (n (eqb-true a b e))
    by false e = e

-- ---- ways by their ends

unfoldable pub is_placed : ℕ → ℕ → Placed → Bool
is_placed v u p = elim (p.from == v) [ true ↦ p.to == u | false ↦ false ]

unfoldable pub placed_at : ℕ → ℕ → List Placed → Option Placed
placed_at v u [] = None
placed_at v u (p ∷ ps) = elim (is_placed v u p) [ true ↦ Some p | false ↦ placed_at v u ps ]

unfoldable pub with_placed : (Placed → Placed) → ℕ → ℕ → List Placed → List Placed
with_placed f v u [] = []
with_placed f v u (p ∷ ps) = elim (is_placed v u p) [ true ↦ f p ∷ ps | false ↦ p ∷ with_placed f v u ps ]

-- a change of what stands on a way
abbrev pub on : (Lane → Lane) → Placed → Placed
on g p = record { from = p.from; to = p.to; lane = g p.lane }

pub key_here : (v u : ℕ) (l : Lane) → is_placed v u (record { from = v; to = u; lane = l }) ≡ true
unfolding is_placed
key_here v u l = chosen (v == v) (u == u) false (eq-eqb v v refl) ∙ eq-eqb u u refl

pub other_sender : (v u : ℕ) (p : Placed) → (p.from ≡ v → ⊥) → is_placed v u p ≡ false
unfolding is_placed
other_sender v u p n = refused (p.from == v) (p.to == u) false (unequal p.from v n)

pub other_receiver : (v u : ℕ) (p : Placed) → (p.to ≡ u → ⊥) → is_placed v u p ≡ false
unfolding is_placed
other_receiver v u p n = by (p.from == v)
  where
    by : (t : Bool) → elim t [ true ↦ p.to == u | false ↦ false ] ≡ false
    by true = unequal p.to u n
    by false = refl

-- none of these is the way from v to u
abbrev pub Clear : ℕ → ℕ → List Placed → Type 0
Clear v u [] = Unit {0}
Clear v u (p ∷ ps) = (is_placed v u p ≡ false) × Clear v u ps

pub clear_join : (v u : ℕ) (ps qs : List Placed) → Clear v u ps → Clear v u qs → Clear v u (ps ++ qs)
clear_join v u [] qs h k = k
clear_join v u (p ∷ ps) qs h k = (h.0, clear_join v u ps qs h.1 k)

clear_or : (v u : ℕ) (b : Bool) (p : Placed) (ps : List Placed) → is_placed v u p ≡ false → Clear v u ps → Clear v u (elim b [ true ↦ ps | false ↦ p ∷ ps ])
clear_or v u true p ps e h = h
clear_or v u false p ps e h = (e, h)

-- no way of vat v is from another
pub row_clear : (a u v k : ℕ) (r : List Lane) → (v ≡ a → ⊥) → Clear a u (placed_to v k r)
unfolding placed_to
row_clear a u v k [] n = tt
row_clear a u v k (l ∷ ls) n = clear_or a u (v == k) (record { from = v; to = k; lane = l }) (placed_to v (suc k) ls) (other_sender a u (record { from = v; to = k; lane = l }) n) (row_clear a u v (suc k) ls n)

-- nor to one before k
pub row_ahead : (a u v k : ℕ) (r : List Lane) → u < k → Clear a u (placed_to v k r)
unfolding placed_to
row_ahead a u v k [] n = tt
row_ahead a u v k (l ∷ ls) n = clear_or a u (v == k) (record { from = v; to = k; lane = l }) (placed_to v (suc k) ls) (other_receiver a u (record { from = v; to = k; lane = l }) (λ e. omega arith)) (row_ahead a u v (suc k) ls (omega arith))

-- nor to itself
own_or : (v k : ℕ) (b : Bool) (l : Lane) (ps : List Placed) → (v == k) ≡ b → Clear v v ps → Clear v v (elim b [ true ↦ ps | false ↦ record { from = v; to = k; lane = l } ∷ ps ])
own_or v k true l ps e h = h
own_or v k false l ps e h = (other_receiver v v (record { from = v; to = k; lane = l }) (λ i. let t : true ≡ false = sym (eq-eqb v k (sym i)) ∙ e in cc), h)

pub row_own : (v k : ℕ) (r : List Lane) → Clear v v (placed_to v k r)
unfolding placed_to
row_own v k [] = tt
row_own v k (l ∷ ls) = own_or v k (v == k) l (placed_to v (suc k) ls) refl (row_own v (suc k) ls)

pub rows_ahead : (a u k : ℕ) (rows : List (List Lane)) → a < k → Clear a u (placed_from k rows)
unfolding placed_from
rows_ahead a u k [] h = tt
rows_ahead a u k (r ∷ rs) h = clear_join a u (placed_to k zero r) (placed_from (suc k) rs) (row_clear a u k zero r (λ e. omega arith)) (rows_ahead a u (suc k) rs (omega arith))

own_same : (v k : ℕ) (r : List Lane) (t : Bool) → (k == v) ≡ t → Clear v v (placed_to k zero r)
own_same v k r true e = subst (λ (w : ℕ). Clear w w (placed_to k zero r)) (eqb-true k v e) (row_own k zero r)
own_same v k r false e = row_clear v v k zero r (λ i. let t : true ≡ false = sym (eq-eqb k v i) ∙ e in cc)

pub rows_own : (v k : ℕ) (rows : List (List Lane)) → Clear v v (placed_from k rows)
unfolding placed_from
rows_own v k [] = tt
rows_own v k (r ∷ rs) = clear_join v v (placed_to k zero r) (placed_from (suc k) rs) (own_same v k r (k == v) refl) (rows_own v (suc k) rs)

-- ---- one way of many that stand in two parts

module _ (f : Placed → Placed) (v u : ℕ) where
  pub with_clear : (ps : List Placed) → Clear v u ps → with_placed f v u ps ≡ ps
  unfolding with_placed
  with_clear [] h = refl
  with_clear (p ∷ ps) h = refused (is_placed v u p) (f p ∷ ps) (p ∷ with_placed f v u ps) h.0 ∙ ap (λ (qs : List Placed). p ∷ qs) (with_clear ps h.1)

  front_or : (b : Bool) (p : Placed) (ps qs : List Placed) → with_placed f v u (ps ++ qs) ≡ with_placed f v u ps ++ qs
      → elim b [ true ↦ f p ∷ (ps ++ qs) | false ↦ p ∷ with_placed f v u (ps ++ qs) ] ≡ (elim b [ true ↦ f p ∷ ps | false ↦ p ∷ with_placed f v u ps ]) ++ qs
  front_or true p ps qs h = refl
  front_or false p ps qs h = ap (λ (rs : List Placed). p ∷ rs) h

  pub with_front : (ps qs : List Placed) → Clear v u qs → with_placed f v u (ps ++ qs) ≡ with_placed f v u ps ++ qs
  unfolding with_placed
  with_front [] qs h = with_clear qs h
  with_front (p ∷ ps) qs h = front_or (is_placed v u p) p ps qs (with_front ps qs h)

  pub with_back : (ps qs : List Placed) → Clear v u ps → with_placed f v u (ps ++ qs) ≡ ps ++ with_placed f v u qs
  unfolding with_placed
  with_back [] qs h = refl
  with_back (p ∷ ps) qs h = refused (is_placed v u p) (f p ∷ (ps ++ qs)) (p ∷ with_placed f v u (ps ++ qs)) h.0 ∙ ap (λ (rs : List Placed). p ∷ rs) (with_back ps qs h.1)

module _ (v u : ℕ) where
  pub at_clear : (ps : List Placed) → Clear v u ps → placed_at v u ps ≡ None
  unfolding placed_at
  at_clear [] h = refl
  at_clear (p ∷ ps) h = refused (is_placed v u p) (Some p) (placed_at v u ps) h.0 ∙ at_clear ps h.1

  at_or : (b : Bool) (p : Placed) (o q : Option Placed) → o ≡ q → ◌≡◌ {A = Option Placed} (elim b [ true ↦ Some p | false ↦ o ]) (elim b [ true ↦ Some p | false ↦ q ])
  at_or true p o q h = refl
  at_or false p o q h = h

  pub at_front : (ps qs : List Placed) → Clear v u qs → placed_at v u (ps ++ qs) ≡ placed_at v u ps
  unfolding placed_at
  at_front [] qs h = at_clear qs h
  at_front (p ∷ ps) qs h = at_or (is_placed v u p) p (placed_at v u (ps ++ qs)) (placed_at v u ps) (at_front ps qs h)

  pub at_back : (ps qs : List Placed) → Clear v u ps → placed_at v u (ps ++ qs) ≡ placed_at v u qs
  unfolding placed_at
  at_back [] qs h = refl
  at_back (p ∷ ps) qs h = refused (is_placed v u p) (Some p) (placed_at v u (ps ++ qs)) h.0 ∙ at_back ps qs h.1

-- ---- what stands at a number

module _ {A : Type 0} (f : A → A) where
  next_found : (i : ℕ) (x : A) (xs : List A) (o : Option A) → set_found f (suc i) (x ∷ xs) o ≡ x ∷ set_found f i xs o
  unfolding set_found
  next_found i x xs None = refl
  next_found i x xs (Some y) = refl

  pub with_next : (i : ℕ) (x : A) (xs : List A) → with_at f (suc i) (x ∷ xs) ≡ x ∷ with_at f i xs
  unfolding with_at
  with_next i x xs = next_found i x xs (slice_get xs i)

-- ---- a change of one way

module _ (g : Lane → Lane) where
  here_or : (v u : ℕ) (b : Bool) (p q : Placed) (ps : List Placed) → b ≡ false → q ≡ on g p → is_placed v u p ≡ true
      → elim b [ true ↦ ps | false ↦ q ∷ ps ] ≡ with_placed (on g) v u (elim b [ true ↦ ps | false ↦ p ∷ ps ])
  unfolding with_placed
  here_or v u false p q ps e i h = ap (λ (r : Placed). r ∷ ps) i ∙ sym (chosen (is_placed v u p) (on g p ∷ ps) (p ∷ with_placed (on g) v u ps) h)
  here_or v u true p q ps e i h = cc

  next_or : (v u : ℕ) (b : Bool) (p : Placed) (ps qs : List Placed) → is_placed v u p ≡ false → qs ≡ with_placed (on g) v u ps
      → elim b [ true ↦ qs | false ↦ p ∷ qs ] ≡ with_placed (on g) v u (elim b [ true ↦ ps | false ↦ p ∷ ps ])
  unfolding with_placed
  next_or v u true p ps qs e h = h
  next_or v u false p ps qs e h = ap (λ (rs : List Placed). p ∷ rs) h ∙ sym (refused (is_placed v u p) (on g p ∷ ps) (p ∷ with_placed (on g) v u ps) e)

  pub row_with : (v u k i : ℕ) (r : List Lane) → (v ≡ u → ⊥) → u ≡ k + i → placed_to v k (with_at g i r) ≡ with_placed (on g) v u (placed_to v k r)
  unfolding placed_to with_placed with_at set_found
  row_with v u k i [] n e = refl
  row_with v u k zero (l ∷ ls) n e =
      let j : k ≡ u = omega arith in
      here_or v u (v == k) (record { from = v; to = k; lane = l }) (record { from = v; to = k; lane = g l }) (placed_to v (suc k) ls) (unequal v k (λ h. n (h ∙ j))) refl
      (subst (λ (w : ℕ). is_placed v w (record { from = v; to = k; lane = l }) ≡ true) j (key_here v k l))
  row_with v u k (suc i) (l ∷ ls) n e =
      ap (λ (xs : List Lane). placed_to v k xs) (with_next g i l ls)
      ∙ next_or v u (v == k) (record { from = v; to = k; lane = l }) (placed_to v (suc k) ls) (placed_to v (suc k) (with_at g i ls))
      (other_receiver v u (record { from = v; to = k; lane = l }) (λ h. omega arith)) (row_with v u (suc k) i ls n (omega arith))

  rows_here : (v u k : ℕ) (r : List Lane) (rs : List (List Lane)) → (v ≡ u → ⊥) → v ≡ k → placed_to k zero (with_at g u r) ++ placed_from (suc k) rs ≡ with_placed (on g) v u (placed_to k zero r ++ placed_from (suc k) rs)
  rows_here v u k r rs n e =
      ap (λ (ps : List Placed). ps ++ placed_from (suc k) rs) (row_with k u zero u r (λ h. n (e ∙ h)) (omega arith) ∙ ap (λ (w : ℕ). with_placed (on g) w u (placed_to k zero r)) (sym e))
      ∙ sym (with_front (on g) v u (placed_to k zero r) (placed_from (suc k) rs) (rows_ahead v u (suc k) rs (omega arith)))

  pub rows_with : (v u k i : ℕ) (rows : List (List Lane)) → (v ≡ u → ⊥) → v ≡ k + i → placed_from k (changed_from g i u rows) ≡ with_placed (on g) v u (placed_from k rows)
  unfolding placed_from with_placed with_at set_found changed_from
  rows_with v u k i [] n e = refl
  rows_with v u k zero (r ∷ rs) n e = rows_here v u k r rs n (omega arith)
  rows_with v u k (suc i) (r ∷ rs) n e =
      ap (λ (xs : List (List Lane)). placed_from k xs) (with_next (λ (xs : List Lane). with_at g u xs) i r rs)
      ∙ (ap (λ (ps : List Placed). placed_to k zero r ++ ps) (rows_with v u (suc k) i rs n (omega arith))
      ∙ sym (with_back (on g) v u (placed_to k zero r) (placed_from (suc k) rs) (row_clear v u k zero r (λ h. omega arith))))

  changed_or : (v u : ℕ) (rows : List (List Lane)) (b : Bool) → (v == u) ≡ b → placed_from zero (if b then rows else changed_from g v u rows) ≡ with_placed (on g) v u (placed_from zero rows)
  changed_or v u rows true e = sym (with_clear (on g) v u (placed_from zero rows) (subst (λ (w : ℕ). Clear v w (placed_from zero rows)) (eqb-true v u e) (rows_own v zero rows)))
  changed_or v u rows false e = rows_with v u zero v rows (λ i. let t : true ≡ false = sym (eq-eqb v u i) ∙ e in cc) (omega arith)

  -- the change is one of the way among the others
  pub changes_placed : (v u : ℕ) (rows : List (List Lane)) → placed_from zero (changed g v u rows) ≡ with_placed (on g) v u (placed_from zero rows)
  unfolding changed
  changes_placed v u rows = changed_or v u rows (v == u) refl

-- ---- what is found

-- the way there with its ends
unfoldable pub place_for : ℕ → ℕ → Lane → Option Placed
place_for v u l = Some (record { from = v; to = u; lane = l })

-- the way from v to u
unfoldable pub found_in : ℕ → ℕ → List Lane → Option Placed
found_in v u r = of_found (place_for v u) (slice_get r u)

found_here : (v u : ℕ) (b : Bool) (l : Lane) (k : ℕ) (ps : List Placed) → b ≡ false → k ≡ u → placed_at v u (elim b [ true ↦ ps | false ↦ record { from = v; to = k; lane = l } ∷ ps ]) ≡ Some (record { from = v; to = u; lane = l })
unfolding placed_at
found_here v u false l k ps e j =
    chosen (is_placed v u (record { from = v; to = k; lane = l })) (Some (record { from = v; to = k; lane = l })) (placed_at v u ps) (subst (λ (w : ℕ). is_placed v w (record { from = v; to = k; lane = l }) ≡ true) j (key_here v k l))
    ∙ ap (λ (w : ℕ). Some (record { from = v; to = w; lane = l })) j
found_here v u true l k ps e j = cc

found_next : (v u : ℕ) (b : Bool) (p : Placed) (ps : List Placed) → is_placed v u p ≡ false → placed_at v u (elim b [ true ↦ ps | false ↦ p ∷ ps ]) ≡ placed_at v u ps
unfolding placed_at
found_next v u true p ps e = refl
found_next v u false p ps e = refused (is_placed v u p) (Some p) (placed_at v u ps) e

pub row_found : (v u k i : ℕ) (r : List Lane) → (v ≡ u → ⊥) → u ≡ k + i → placed_at v u (placed_to v k r) ≡ of_found (place_for v u) (slice_get r i)
unfolding placed_to placed_at of_found place_for
row_found v u k i [] n e = refl
row_found v u k zero (l ∷ ls) n e = let j : k ≡ u = omega arith in found_here v u (v == k) l k (placed_to v (suc k) ls) (unequal v k (λ h. n (h ∙ j))) j
row_found v u k (suc i) (l ∷ ls) n e =
    found_next v u (v == k) (record { from = v; to = k; lane = l }) (placed_to v (suc k) ls) (other_receiver v u (record { from = v; to = k; lane = l }) (λ h. omega arith))
    ∙ row_found v u (suc k) i ls n (omega arith)

rows_first : (v u k : ℕ) (r : List Lane) (rs : List (List Lane)) → (v ≡ u → ⊥) → v ≡ k → placed_at v u (placed_to k zero r ++ placed_from (suc k) rs) ≡ found_in v u r
unfolding found_in
rows_first v u k r rs n e =
    at_front v u (placed_to k zero r) (placed_from (suc k) rs) (rows_ahead v u (suc k) rs (omega arith))
    ∙ (ap (λ (w : ℕ). placed_at v u (placed_to w zero r)) (sym e) ∙ row_found v u zero u r n (omega arith))

pub rows_found : (v u k i : ℕ) (rows : List (List Lane)) → (v ≡ u → ⊥) → v ≡ k + i → placed_at v u (placed_from k rows) ≡ of_found (found_in v u) (slice_get rows i)
unfolding placed_from placed_at of_found
rows_found v u k i [] n e = refl
rows_found v u k zero (r ∷ rs) n e = rows_first v u k r rs n (omega arith)
rows_found v u k (suc i) (r ∷ rs) n e =
    at_back v u (placed_to k zero r) (placed_from (suc k) rs) (row_clear v u k zero r (λ h. omega arith))
    ∙ rows_found v u (suc k) i rs n (omega arith)

pub own_found : (v : ℕ) (rows : List (List Lane)) → placed_at v v (placed_from zero rows) ≡ None
own_found v rows = at_clear v v (placed_from zero rows) (rows_own v zero rows)
