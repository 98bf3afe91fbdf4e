-- One way of those that the rows stand for.
use Rattle.std.proofs.Common.{◌≡◌, ◌⊎◌, inl, inr, ℕ, zero, suc, Bool, true, false, List, [], ◌∷◌, Option, Some, None, refl, sym, ap, ◌∙◌, subst, length}
use Rattle.std.specs.Prelude.{◌==◌, slice_get, if◌then◌else◌}
use Rattle.std.proofs.lemmas.Bool.{eqb-true, eq-eqb}
use Rattle.std.proofs.lemmas.List.{length-set}
use Rattle.def_run.specs.Numbers.{Way, is_way, way_at, with_way}
use Rattle.ev_ways.specs.Rows.{Lane, fresh, set_found, with_at, changed_from, changed}
use Rattle.ev_ways.specs.Standing.{Placed, IsWay, AreWays, WaysStand, placed_from}
use Rattle.ev_ways.proofs.Places.{on, is_placed, placed_at, with_placed, changes_placed}

-- ---- ways by their ends

ends_or : (x y v u : ℕ) (s t : Bool) → (x == v) ≡ s → (y == u) ≡ t → elim s [ true ↦ t | false ↦ false ] ≡ true → (x ≡ v) × (y ≡ u)
ends_or x y v u true true e f g = (eqb-true x v e, eqb-true y u f)
ends_or x y v u true false e f g = cc
ends_or x y v u false t e f g = cc

pub ends : (v u : ℕ) (l : Way) → is_way v u l ≡ true → (l.from ≡ v) × (l.to ≡ u)
unfolding is_way
ends v u l e = ends_or l.from l.to v u (l.from == v) (l.to == u) refl refl e

key_alike : (ds : List ℕ) (v u : ℕ) (l : Way) (p : Placed) → IsWay ds l p → is_placed v u p ≡ is_way v u l
unfolding is_way is_placed
key_alike ds v u l p h = rw (h.sender, h.receiver) refl

-- ---- what is found

-- a way of the run in numbers and what stands for it
pub record Found (ds : List ℕ) (v u : ℕ) (l : Way) (p : Placed) : Type 0 where
  pub stands : IsWay ds l p
  pub sent : l.from ≡ v
  pub received : l.to ≡ u

abbrev pub MayStand : List ℕ → ℕ → ℕ → Option Way → Option Placed → Type 0
MayStand ds v u None None = Unit {0}
MayStand ds v u (Some l) (Some p) = Found ds v u l p
MayStand ds v u None (Some p) = ⊥
MayStand ds v u (Some l) None = ⊥

found_or : (ds : List ℕ) (v u : ℕ) (b c : Bool) (l : Way) (p : Placed) (o : Option Way) (q : Option Placed) → is_way v u l ≡ b → c ≡ b → IsWay ds l p → MayStand ds v u o q
    → MayStand ds v u (elim b [ true ↦ Some l | false ↦ o ]) (elim c [ true ↦ Some p | false ↦ q ])
found_or ds v u true true l p o q e i h k = let j = ends v u l e in record { stands = h; sent = j.0; received = j.1 }
found_or ds v u false false l p o q e i h k = k
found_or ds v u true false l p o q e i h k = cc
found_or ds v u false true l p o q e i h k = cc

pub finds : (ds : List ℕ) (v u : ℕ) (ls : List Way) (ps : List Placed) → AreWays ds ls ps → MayStand ds v u (way_at v u ls) (placed_at v u ps)
unfolding way_at placed_at
finds ds v u [] [] h = tt
finds ds v u (l ∷ ls) (p ∷ ps) h = found_or ds v u (is_way v u l) (is_placed v u p) l p (way_at v u ls) (placed_at v u ps) refl (key_alike ds v u l p h.0) h.0 (finds ds v u ls ps h.1)
finds ds v u [] (p ∷ ps) h = absurd h
finds ds v u (l ∷ ls) [] h = absurd h

-- ---- one of them is changed

module _ (ds : List ℕ) (f : Way → Way) (g : Lane → Lane) (v u : ℕ) where
  -- a change of the way that is found is one of what stands for it
  abbrev pub ChangesAlike : Option Way → Type 0
  ChangesAlike o = (l : Way) (p : Placed) → o ≡ Some l → Found ds v u l p → IsWay ds (f l) (on g p)

  with_or : (b c : Bool) (l : Way) (p : Placed) (ls ms : List Way) (ps qs : List Placed) → is_way v u l ≡ b → c ≡ b → ChangesAlike (elim b [ true ↦ Some l | false ↦ way_at v u ls ])
      → IsWay ds l p → AreWays ds ls ps → (ChangesAlike (way_at v u ls) → AreWays ds ms qs) → AreWays ds (elim b [ true ↦ f l ∷ ls | false ↦ l ∷ ms ]) (elim c [ true ↦ on g p ∷ ps | false ↦ p ∷ qs ])
  with_or true true l p ls ms ps qs e i k h hs next = let j = ends v u l e in (k l p refl (record { stands = h; sent = j.0; received = j.1 }), hs)
  with_or false false l p ls ms ps qs e i k h hs next = (h, next k)
  with_or true false l p ls ms ps qs e i k h hs next = cc
  with_or false true l p ls ms ps qs e i k h hs next = cc

  pub with_stands : (ls : List Way) (ps : List Placed) → AreWays ds ls ps → ChangesAlike (way_at v u ls) → AreWays ds (with_way f v u ls) (with_placed (on g) v u ps)
  unfolding way_at with_way with_placed
  with_stands [] [] h k = tt
  with_stands (l ∷ ls) (p ∷ ps) h k =
      with_or (is_way v u l) (is_placed v u p) l p ls (with_way f v u ls) ps (with_placed (on g) v u ps) refl (key_alike ds v u l p h.0) k h.0 h.1 (with_stands ls ps h.1)
  with_stands [] (p ∷ ps) h k = absurd h
  with_stands (l ∷ ls) [] h k = absurd h

-- ---- what stands at a number once one was changed

module _ {A : Type 0} (f : A → A) where
  -- it stood there before, or is the one that was changed
  abbrev pub Came : ℕ → ℕ → List A → A → Type 0
  Came i j xs y = (slice_get xs j ≡ Some y) ⊎ ((j ≡ i) × ((x : A) × (slice_get xs j ≡ Some x) × (y ≡ f x)))

  came_next : (i j : ℕ) (x : A) (xs : List A) (y : A) → Came i j xs y → Came (suc i) (suc j) (x ∷ xs) y
  came_next i j x xs y (inl h) = inl h
  came_next i j x xs y (inr h) = inr (ap suc h.0, h.1)

  came_of : (i j : ℕ) (xs : List A) (y : A) (o : Option A) → slice_get xs i ≡ o → slice_get (set_found f i xs o) j ≡ Some y → Came i j xs y
  unfolding set_found
  came_of i j xs y None e h = inl h
  came_of i j [] y (Some x) e h = cc
  came_of zero zero (z ∷ zs) y (Some x) e h = inr (refl, (z, refl, let a : f x ≡ y = cc in let b : z ≡ x = cc in sym a ∙ ap f (sym b)))
  came_of zero (suc j) (z ∷ zs) y (Some x) e h = inl h
  came_of (suc i) zero (z ∷ zs) y (Some x) e h = inl h
  came_of (suc i) (suc j) (z ∷ zs) y (Some x) e h = came_next i j z zs y (came_of i j zs y (Some x) e h)

  pub came : (i j : ℕ) (xs : List A) (y : A) → slice_get (with_at f i xs) j ≡ Some y → Came i j xs y
  unfolding with_at
  came i j xs y h = came_of i j xs y (slice_get xs i) refl h

  long_of : (i : ℕ) (xs : List A) (o : Option A) → length (set_found f i xs o) ≡ length xs
  unfolding set_found
  long_of i xs None = refl
  long_of i xs (Some x) = length-set xs i (f x)

  pub as_long : (i : ℕ) (xs : List A) → length (with_at f i xs) ≡ length xs
  unfolding with_at
  as_long i xs = long_of i xs (slice_get xs i)

-- ---- the rows once a way was changed

module _ (n : ℕ) (g : Lane → Lane) (v u : ℕ) (rows : List (List Lane)) where
  -- a row for each of n vats, and in each a way
  abbrev pub AreLong : List (List Lane) → Type 0
  AreLong rs = (a : ℕ) (r : List Lane) → slice_get rs a ≡ Some r → length r ≡ n

  abbrev pub AreUnused : List (List Lane) → Type 0
  AreUnused rs = (a : ℕ) (r : List Lane) (l : Lane) → slice_get rs a ≡ Some r → slice_get r a ≡ Some l → l ≡ fresh

  long_by : AreLong rows → (a : ℕ) (r : List Lane) → Came (λ (xs : List Lane). with_at g u xs) v a rows r → length r ≡ n
  long_by h a r (inl e) = h a r e
  long_by h a r (inr e) = ap (λ (xs : List Lane). length xs) e.1.2 ∙ (as_long g u e.1.0 ∙ h a e.1.0 e.1.1)

  unused_in : AreUnused rows → (v ≡ u → ⊥) → (a : ℕ) (r : List Lane) (l : Lane) → a ≡ v → slice_get rows a ≡ Some r → Came g u a r l → l ≡ fresh
  unused_in h m a r l e i (inl k) = h a r l i k
  unused_in h m a r l e i (inr k) = absurd (m (sym e ∙ k.0))

  unused_by : AreUnused rows → (v ≡ u → ⊥) → (a : ℕ) (r : List Lane) (l : Lane) → Came (λ (xs : List Lane). with_at g u xs) v a rows r → slice_get r a ≡ Some l → l ≡ fresh
  unused_by h m a r l (inl e) k = h a r l e k
  unused_by h m a r l (inr e) k = unused_in h m a e.1.0 l e.0 e.1.1 (came g u a e.1.0 l (subst (λ (xs : List Lane). slice_get xs a ≡ Some l) e.1.2 k))

  shape_or : (b : Bool) → (v == u) ≡ b → length rows ≡ n → AreLong rows → AreUnused rows
      → (length (if b then rows else changed_from g v u rows) ≡ n) × AreLong (if b then rows else changed_from g v u rows) × AreUnused (if b then rows else changed_from g v u rows)
  unfolding changed_from
  shape_or true e l h k = (l, h, k)
  shape_or false e l h k = (
    as_long (λ (xs : List Lane). with_at g u xs) v rows ∙ l,
    λ a r i. long_by h a r (came (λ (xs : List Lane). with_at g u xs) v a rows r i),
    λ a r x i j. unused_by k (λ d. let t : true ≡ false = sym (eq-eqb v u d) ∙ e in cc) a r x (came (λ (xs : List Lane). with_at g u xs) v a rows r i) j,
  )

  shape : length rows ≡ n → AreLong rows → AreUnused rows → (length (changed g v u rows) ≡ n) × AreLong (changed g v u rows) × AreUnused (changed g v u rows)
  unfolding changed
  shape l h k = shape_or (v == u) refl l h k

-- A way is changed on both sides.
pub changes_stand : (ds : List ℕ) (n v u : ℕ) (f : Way → Way) (g : Lane → Lane) (ls : List Way) (rows : List (List Lane)) → WaysStand ds n ls rows → ChangesAlike ds f g v u (way_at v u ls)
    → WaysStand ds n (with_way f v u ls) (changed g v u rows)
changes_stand ds n v u f g ls rows h k =
    let s = shape n g v u rows h.senders h.receivers h.unused in
    record {
      ways = subst (λ (ps : List Placed). AreWays ds (with_way f v u ls) ps) (sym (changes_placed g v u rows)) (with_stands ds f g v u ls (placed_from zero rows) h.ways k);
      senders = s.0;
      receivers = s.1;
      unused = s.2;
    }
