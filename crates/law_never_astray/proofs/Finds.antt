-- What a node asks for is there.
use Rattle.std.proofs.Common.{◌≡◌, ℕ, zero, ◌<◌, Bool, true, false, List, [], ◌∷◌, ◌++◌, Option, Some, None, refl, length, arith}
use Rattle.std.specs.Prelude.{slice_get}
use Rattle.def_machine.specs.Values.{Words, Value, Name, Local, Naming, naming, numbering}
use Rattle.def_machine.specs.State.{Bound, Fixed, Slot, Cell, SlotRead, Vat, Fuel, Astray, Done, Gives, Stops, ◌>>=◌, ◌>>◌, and_then, look, tell, give, stop, for_some}
use Rattle.def_machine.specs.Scopes.{bound_in, read_cell, read_bound}
use Rattle.def_kernel.specs.declared.node.Node.{Node}
use Rattle.law_never_astray.specs.Covered.{Stands}
use Rattle.law_never_astray.specs.CoveredLaws.{NounsAreFoundBy, NounsAreFound, FormsAreBuiltBy, FormsAreBuilt}
use Rattle.law_never_astray.proofs.Leads.{AtStops, Ends, Nothing, slot_there}
use Rattle.law_never_astray.proofs.Forms.{lead_form}

-- ---- nouns

module _ {N : Type 0} (s : Vat N) where
  slot_found : (k : ℕ) → k < length s.slots → (c : Cell N) × (slice_get s.slots k ≡ Some c)
  slot_found k l = go (slice_get s.slots k) refl
    where
      go : (o : Option (Cell N)) → slice_get s.slots k ≡ o → (c : Cell N) × (slice_get s.slots k ≡ Some c)
      go (Some c) e = (c, e)
      go None e = absurd (slot_there s.slots k e l)

  cell_read : (act k : ℕ) (o : Option (Cell N)) (c : Cell N) → o ≡ Some c → (v : Value N) × (t : Vat N) × (read_cell act k o s ≡ Gives v t)
  unfolding read_cell ◌>>◌ and_then tell give
  cell_read act k (Some d) c e = (d.value, record s { happened = s.happened ++ SlotRead act k d.value ∷ [] }, refl)
  cell_read act k None c e = cc

  safe_read : (o : Option (Value N)) (w : Value N) → o ≡ Some w → (v : Value N) × (t : Vat N) × (for_some o give (stop Astray) s ≡ Gives v t)
  unfolding for_some give
  safe_read (Some u) w e = (u, s, refl)
  safe_read None w e = cc

  read_found : (act : ℕ) (is_var : Bool) (x : Words) (o : Option (Bound N)) → Stands (length s.slots) is_var x o → (v : Value N) × (t : Vat N) × (read_bound act o x s ≡ Gives v t)
  unfolding read_bound ◌>>=◌ and_then look give
  read_found act true x (Some (Slot k)) h = let c = slot_found k h in cell_read act k (slice_get s.slots k) c.0 c.1
  read_found act false x (Some (Slot k)) h = absurd h
  read_found act false x (Some (Fixed w g)) h = (w, s, refl)
  read_found act false x None h = safe_read _ h.0 h.1
  read_found act true x other h = absurd h

  var_found : (is_var : Bool) (x : Words) (o : Option (Bound N)) → Stands (length s.slots) is_var x o → is_var ≡ true → (k : ℕ) × (c : Cell N) × (o ≡ Some (Slot k)) × (slice_get s.slots k ≡ Some c)
  var_found true x (Some (Slot k)) h e = let c = slot_found k h in (k, c.0, refl, c.1)
  var_found false x o h e = cc
  var_found true x other h e = absurd h

nouns_found : (N : Type 0) → NounsAreFoundBy N
nouns_found N s nouns scopes x is_var c e = (λ act. read_found s act is_var x (bound_in nouns x) (c x is_var e), var_found s is_var x (bound_in nouns x) (c x is_var e))

pub nouns_are_found : NounsAreFound
nouns_are_found = (nouns_found Name, nouns_found Local)

-- ---- forms

abbrev NeverAstray : {N : Type 0} → AtStops N
NeverAstray c s = c ≡ Astray → ⊥

never_ends : {N A : Type 0} (tree : List Node) (many : ℕ) (t : Vat N) (d : Done N A) → Ends tree NeverAstray many Nothing d → d ≡ Stops Astray t → ⊥
never_ends tree many t (Stops c u) h e = h (let same : c ≡ Astray = cc in same)
never_ends tree many t other h e = cc

fuel_not : Fuel ≡ Astray → ⊥
fuel_not e = cc

forms_built : {N W : Type 0} (K : Naming N W) → FormsAreBuiltBy K
forms_built K tree act e n s t i c = let l = lead_form K tree NeverAstray (λ u. fuel_not) zero act e n i in never_ends tree (length s.slots) t _ (l.after s (omega arith, c))

pub forms_are_built : FormsAreBuilt
forms_are_built = (λ word v. forms_built (naming word v), λ word. forms_built (numbering word))
