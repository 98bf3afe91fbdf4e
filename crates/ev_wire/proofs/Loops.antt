-- Parts that are described one after the other, as a loop does it.
use Rattle.std.proofs.Common.{◌≡◌, ℕ, ◌+◌, ◌<◌, ◌≤◌, List, [], ◌∷◌, ◌++◌, map, length, drop, get_or, refl, sym, ap, ◌∙◌, append_assoc, append-nil}
use Rattle.std.proofs.lemmas.List.{drop_all, drop_more, map_push}
use Rattle.def_op.specs.declared.op.Desc.{Desc}
use Rattle.def_op.specs.Frames.{Described, members, more}
use Rattle.def_op.specs.Views.{described, all_described}
use Rattle.ev_pass.specs.Notes.{all_parcels, parcel}
use Rattle.ev_pass.specs.declared.interior.Interior.{Interior}
use Rattle.ev_pass.specs.declared.note.Passed.{Passed}
use Rattle.ev_tables.specs.Table.{Table}
use Rattle.ev_refs.specs.References.{References}
use Rattle.ev_wire.specs.Writing.{described_parcel, described_parcels, numbered_parcel, numbered_parcels}

-- what describes each
abbrev pub each_described : Interior → Table → List Passed → List Described
each_described i t ps = map (λ (p : Passed). described_parcel i (parcel p) t) ps

pub as_members : (i : Interior) (t : Table) (ps : List Passed) → members (each_described i t ps) ≡ described_parcels i (all_parcels ps) t
unfolding described_parcels
as_members i t [] = refl
as_members i t (p ∷ ps) = ap (more (described_parcel i (parcel p) t)) (as_members i t ps)

first : (ps : List Passed) (k : ℕ) (p : Passed) → k < length ps → p ≡ get_or ps k p → drop k ps ≡ p ∷ drop (k + 1) ps
first ps k p lt is = drop_more ps k p lt ∙ ap (λ (z : Passed). z ∷ drop (k + 1) ps) (sym is)

module _ (i : Interior) (t : Table) where
  pub goes_on : (front after : List Desc) (ps : List Passed) (k : ℕ) (p : Passed) (d : Desc) (total : List Described) → k < length ps → p ≡ get_or ps k p → described d ≡ described_parcel i (parcel p) t → after ≡ front ++ d ∷ []
      → map described front ++ each_described i t (drop k ps) ≡ total → map described after ++ each_described i t (drop (k + 1) ps) ≡ total
  goes_on front after ps k p d total lt at is grown so_far =
      ap (λ (ds : List Desc). map described ds ++ each_described i t (drop (k + 1) ps)) grown
      ∙ ap (λ (ds : List Described). ds ++ each_described i t (drop (k + 1) ps)) (map_push described front d)
      ∙ append_assoc (map described front) (described d ∷ []) (each_described i t (drop (k + 1) ps))
      ∙ ap (λ (x : Described). map described front ++ x ∷ each_described i t (drop (k + 1) ps)) is
      ∙ ap (λ (qs : List Passed). map described front ++ each_described i t qs) (sym (first ps k p lt at))
      ∙ so_far

  pub is_done : (front : List Desc) (ps : List Passed) (k : ℕ) → length ps ≤ k → map described front ++ each_described i t (drop k ps) ≡ each_described i t ps → all_described front ≡ described_parcels i (all_parcels ps) t
  is_done front ps k le so_far =
      ap members (sym (append-nil (map described front)) ∙ ap (λ (qs : List Passed). map described front ++ each_described i t qs) (sym (drop_all k ps le)) ∙ so_far) ∙ as_members i t ps

-- ---- numbers

module _ (r : References) where
  pub numbers_on : (ps : List Passed) (k : ℕ) (p : Passed) (t u w : Table) → k < length ps → p ≡ get_or ps k p → u ≡ numbered_parcel r (parcel p) t → numbered_parcels r (all_parcels (drop k ps)) t ≡ w → numbered_parcels r (all_parcels (drop (k + 1) ps)) u ≡ w
  unfolding numbered_parcels
  numbers_on ps k p t u w lt at is so_far =
      ap (numbered_parcels r (all_parcels (drop (k + 1) ps))) is ∙ ap (λ (qs : List Passed). numbered_parcels r (all_parcels qs) t) (sym (first ps k p lt at)) ∙ so_far

  pub numbers_done : (ps : List Passed) (k : ℕ) (t w : Table) → length ps ≤ k → numbered_parcels r (all_parcels (drop k ps)) t ≡ w → t ≡ w
  unfolding numbered_parcels
  numbers_done ps k t w le so_far = ap (λ (qs : List Passed). numbered_parcels r (all_parcels qs) t) (sym (drop_all k ps le)) ∙ so_far
