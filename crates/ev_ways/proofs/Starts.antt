-- The ways at the start.
use Rattle.std.proofs.Common.{◌≡◌, ℕ, zero, suc, Bool, true, false, List, [], ◌∷◌, ◌++◌, Some, refl, sym, ap, ◌∙◌, subst, length}
use Rattle.std.specs.Prelude.{◌==◌, replicate, slice_get}
use Rattle.std.proofs.lemmas.List.{length-replicate}
use Rattle.def_run.specs.World.{Program}
use Rattle.def_run.specs.Numbers.{Way, ways_from, ways_to}
use Rattle.ev_ways.specs.Rows.{Lane, fresh, fresh_row, fresh_rows}
use Rattle.ev_ways.specs.Standing.{Placed, AreWays, IsWay, placed_from, placed_to}
use Rattle.ev_ways.specs.Statements.{StartStands}

pub ways_join : (ds : List ℕ) (ls ms : List Way) (ps qs : List Placed) → AreWays ds ls ps → AreWays ds ms qs → AreWays ds (ls ++ ms) (ps ++ qs)
ways_join ds [] ms [] qs h k = k
ways_join ds (l ∷ ls) ms (p ∷ ps) qs h k = (h.0, ways_join ds ls ms ps qs h.1 k)
ways_join ds [] ms (p ∷ ps) qs h k = absurd h
ways_join ds (l ∷ ls) ms [] qs h k = absurd h

one_or : (ds : List ℕ) (b : Bool) (l : Way) (p : Placed) (ls : List Way) (ps : List Placed) → IsWay ds l p → AreWays ds ls ps → AreWays ds (elim b [ true ↦ ls | false ↦ l ∷ ls ]) (elim b [ true ↦ ps | false ↦ p ∷ ps ])
one_or ds true l p ls ps h k = k
one_or ds false l p ls ps h k = (h, k)

row_starts : (ds : List ℕ) (v u : ℕ) (ps : List Program) → AreWays ds (ways_to v u ps) (placed_to v u (replicate (length ps) fresh))
unfolding ways_to placed_to
row_starts ds v u [] = tt
row_starts ds v u (p ∷ ps) =
    one_or ds (v == u) (record { from = v; to = u; cut = false; frames = [] }) (record { from = v; to = u; lane = fresh }) (ways_to v (suc u) ps) (placed_to v (suc u) (replicate (length ps) fresh))
    (record { sender = refl; receiver = refl; is_cut = refl; under_way = tt }) (row_starts ds v (suc u) ps)

rows_start : (ds : List ℕ) (all : List Program) (v : ℕ) (ps : List Program) → AreWays ds (ways_from all v ps) (placed_from v (replicate (length ps) (fresh_row (length all))))
unfolding ways_from placed_from fresh_row
rows_start ds all v [] = tt
rows_start ds all v (p ∷ ps) =
    ways_join ds (ways_to v zero all) (ways_from all (suc v) ps) (placed_to v zero (replicate (length all) fresh)) (placed_from (suc v) (replicate (length ps) (fresh_row (length all))))
    (row_starts ds v zero all) (rows_start ds all (suc v) ps)

-- what stands in a list of one and the same is that
repeated : {A : Type 0} (n i : ℕ) (x y : A) → slice_get (replicate n x) i ≡ Some y → y ≡ x
repeated zero i x y e = cc
repeated (suc n) zero x y e = let h : x ≡ y = cc in sym h
repeated (suc n) (suc i) x y e = repeated n i x y e

pub start_stands : StartStands
unfolding fresh_rows fresh_row
start_stands ds ps = record {
  ways = rows_start ds ps zero ps;
  senders = length-replicate (length ps) (replicate (length ps) fresh);
  receivers = λ v r e. ap (λ (xs : List Lane). length xs) (repeated (length ps) v (replicate (length ps) fresh) r e) ∙ length-replicate (length ps) fresh;
  unused = λ v r l e i. repeated (length ps) v fresh l (subst (λ (xs : List Lane). slice_get xs v ≡ Some l) (repeated (length ps) v (replicate (length ps) fresh) r e) i);
}
