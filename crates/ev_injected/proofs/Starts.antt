-- The queues at the start.
use Rattle.std.proofs.Common.{◌≡◌, ℕ, zero, suc, ◌+◌, Bool, true, false, List, [], ◌∷◌, ◌++◌, length, map, refl, sym, ap, ◌∙◌, arith}
use Rattle.std.specs.Prelude.{◌==◌}
use Rattle.std.proofs.lemmas.List.{append_assoc, append-nil, map-append}
use Rattle.def_run.specs.World.{Program}
use Rattle.def_run.specs.Numbers.{Way, begins, link_of, ways_from, ways_to}
use Rattle.def_hostile.specs.Hostile.{Play, Raw, raw_of}
use Rattle.ev_injected.specs.Lanes.{fresh, fresh_from, fresh_to, unless_same}
use Rattle.ev_injected.specs.Statements.{StartsAreFresh}

module _ (play : Play) where
  raw_at : Way → Raw
  raw_at l = raw_of play (link_of l)

  one_more : (b : Bool) (v u : ℕ) (rs : List Raw) (ls : List Way)
      → unless_same b v u rs ++ map raw_at ls ≡ rs ++ map raw_at (elim b [ true ↦ ls | false ↦ record { from = v; to = u; cut = false; frames = [] } ∷ ls ])
  unfolding raw_at raw_of link_of
  one_more true v u rs ls = refl
  one_more false v u rs ls = append_assoc rs (fresh v u ∷ []) (map raw_at ls)

  -- those from one vat, as far as both have come
  row_joins : (v u : ℕ) (ps : List Program) → fresh_to v u ++ map raw_at (ways_to v u ps) ≡ fresh_to v (u + length ps)
  unfolding fresh_to ways_to
  row_joins v u [] = append-nil (fresh_to v u) ∙ ap (fresh_to v) (let e : u ≡ u + zero = omega arith in e)
  row_joins v u (p ∷ ps) =
      sym (one_more (v == u) v u (fresh_to v u) (ways_to v (suc u) ps))
      ∙ (row_joins v (suc u) ps ∙ ap (fresh_to v) (let e : suc u + length ps ≡ u + suc (length ps) = omega arith in e))

  row_is : (v : ℕ) (ps : List Program) → map raw_at (ways_to v zero ps) ≡ fresh_to v (length ps)
  unfolding fresh_to
  row_is v ps = row_joins v zero ps ∙ ap (fresh_to v) (let e : zero + length ps ≡ length ps = omega arith in e)

  rows_join : (all : List Program) (v : ℕ) (ps : List Program) → fresh_from (length all) v ++ map raw_at (ways_from all v ps) ≡ fresh_from (length all) (v + length ps)
  unfolding fresh_from ways_from
  rows_join all v [] = append-nil (fresh_from (length all) v) ∙ ap (fresh_from (length all)) (let e : v ≡ v + zero = omega arith in e)
  rows_join all v (p ∷ ps) =
      ap (λ (rs : List Raw). fresh_from (length all) v ++ rs) (map-append raw_at (ways_to v zero all) (ways_from all (suc v) ps))
      ∙ (sym (append_assoc (fresh_from (length all) v) (map raw_at (ways_to v zero all)) (map raw_at (ways_from all (suc v) ps)))
      ∙ (ap (λ (rs : List Raw). (fresh_from (length all) v ++ rs) ++ map raw_at (ways_from all (suc v) ps)) (row_is v all)
      ∙ (rows_join all (suc v) ps ∙ ap (fresh_from (length all)) (let e : suc v + length ps ≡ v + suc (length ps) = omega arith in e))))

pub starts_are_fresh : StartsAreFresh
unfolding begins fresh_from raw_at
starts_are_fresh play = rows_join play play.script.vats zero play.script.vats ∙ ap (fresh_from (length play.script.vats)) (let e : zero + length play.script.vats ≡ length play.script.vats = omega arith in e)

-- ---- as they are made, one after the other

one_by : (b : Bool) (v u : ℕ) (old rs : List Raw) → unless_same b v u (old ++ rs) ≡ old ++ unless_same b v u rs
one_by true v u old rs = refl
one_by false v u old rs = append_assoc old rs (fresh v u ∷ [])

pub one_open : (v u : ℕ) (old rs ss : List Raw) → rs ≡ old ++ fresh_to v u → ss ≡ unless_same (v == u) v u rs → ss ≡ old ++ fresh_to v (u + 1)
unfolding fresh_to
one_open v u old rs ss e f =
    f ∙ (ap (unless_same (v == u) v u) e ∙ (one_by (v == u) v u old (fresh_to v u) ∙ ap (λ (n : ℕ). old ++ fresh_to v n) (let g : suc u ≡ u + 1 = omega arith in g)))

pub row_open : (n v : ℕ) (rs ss : List Raw) → rs ≡ fresh_from n v → ss ≡ rs ++ fresh_to v n → ss ≡ fresh_from n (v + 1)
unfolding fresh_from
row_open n v rs ss e f = f ∙ (ap (λ (xs : List Raw). xs ++ fresh_to v n) e ∙ ap (fresh_from n) (let g : suc v ≡ v + 1 = omega arith in g))
