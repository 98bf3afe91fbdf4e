-- What a vat has for its peers stays as it is to be.
use Rattle.std.proofs.Common.{◌≡◌, ℕ, zero, suc, Bool, true, false, List, [], ◌∷◌, map, get_or, Option, Some, None, is_some, refl, sym, ap, ◌∙◌}
use Rattle.std.specs.Prelude.{slice_get}
use Rattle.ev_base.specs.declared.values.Value.{Value}
use Rattle.def_machine.specs.Values.{Local, Prom, Mess, same_local}
use Rattle.def_run.specs.Connections.{Connection, stands_in}
use Rattle.def_run.specs.Vats.{unconnected}
use Rattle.ev_tables.specs.Table.{Table, place_of}
use Rattle.ev_tables.specs.Standing.{connection_of, first_number, is_own, is_reference, local_of, promises, sight_of}
use Rattle.ev_tables.proofs.NumberedPlaces.{as_values, stands}
use Rattle.ev_wire.specs.Writing.{is_mine}
use Rattle.def_run.specs.Seeing.{among, has_number}
use Rattle.ev_wire.specs.Standing.{connections_of}
use Rattle.ev_wire.specs.PeerStatements.{StaysFor}
use Rattle.ev_wire.proofs.PeerSights.{own_is}

-- ---- what stands on a connection

next_is : (b x y : Bool) → x ≡ y → ◌≡◌ {A = Bool} (elim b [ true ↦ true | false ↦ x ]) (elim b [ true ↦ true | false ↦ y ])
next_is true x y e = refl
next_is false x y e = e

among_is : (ns : List Local) (n : Local) → among ns n ≡ stands_in (sight_of (λ k. true) (Mess 0)) ns n
unfolding among stands_in
among_is [] n = refl
among_is (m ∷ ms) n = next_is (same_local m n) (among ms n) (stands_in (sight_of (λ k. true) (Mess 0)) ms n) (among_is ms n)

pub values_among : (v : Value) (vs : List Value) → is_reference v ≡ true → among (map local_of vs) (local_of v) ≡ is_some (place_of v vs)
values_among v vs r = among_is (map local_of vs) (local_of v) ∙ stands (λ k. true) (Mess 0) v vs r

pub promises_among : (v : Value) (ns : List ℕ) → is_reference v ≡ true → among (map Prom ns) (local_of v) ≡ is_some (place_of v (promises ns))
promises_among v ns r = ap (λ (ls : List Local). among ls (local_of v)) (as_values ns) ∙ values_among v (promises ns) r

pub absent : (o : Option ℕ) → is_some o ≡ false → o ≡ None
absent None e = refl
absent (Some n) e = absurd cc

-- nowhere among four
nowhere : (e a q i : Bool) → ◌≡◌ {A = Bool} (elim e [ true ↦ true | false ↦ elim a [ true ↦ true | false ↦ elim q [ true ↦ true | false ↦ i ] ] ]) false → (e ≡ false) × (a ≡ false) × (q ≡ false) × (i ≡ false)
nowhere true a q i h = absurd cc
nowhere false true q i h = absurd cc
nowhere false false true i h = absurd cc
nowhere false false false i h = (refl, refl, refl, h)

pub connection_at : (ts : List Table) (v : ℕ) (t : Table) → slice_get ts v ≡ Some t → get_or (connections_of ts) v unconnected ≡ connection_of t
connection_at [] v t e = absurd cc
connection_at (x ∷ xs) zero t e = let f : x ≡ t = cc in ap connection_of f
connection_at (x ∷ xs) (suc v) t e = connection_at xs v t e

module _ (v : Value) (t : Table) (r : is_reference v ≡ true) where
  -- what has no number is found nowhere
  unplaced : has_number (connection_of t) (local_of v) ≡ false → (place_of v t.exports ≡ None) × (place_of v (promises t.answers) ≡ None) × (place_of v (promises t.asked) ≡ None) × (place_of v t.imports ≡ None)
  unfolding has_number
  unplaced h =
      let all = nowhere (among (map local_of t.exports) (local_of v)) (among (map Prom t.answers) (local_of v)) (among (map Prom t.asked) (local_of v)) (among (map local_of t.imports) (local_of v)) h in (
        absent _ (sym (values_among v t.exports r) ∙ all.0),
        absent _ (sym (promises_among v t.answers r) ∙ all.1),
        absent _ (sym (promises_among v t.asked r) ∙ all.2),
        absent _ (sym (values_among v t.imports r) ∙ all.3),
      )

  unnumbered : (b : Bool) → has_number (connection_of t) (local_of v) ≡ false → first_number b v t ≡ None
  unfolding first_number
  unnumbered true h = let all = unplaced h in rw (all.0, all.1) refl
  unnumbered false h = let all = unplaced h in rw (all.2, all.3) refl

  -- the number that came first is the same, where what has a number is the vat's own as before
  first_stays : (a b : Bool) → (has_number (connection_of t) (local_of v) ≡ true → b ≡ a) → (c : Bool) → has_number (connection_of t) (local_of v) ≡ c → first_number a v t ≡ first_number b v t
  first_stays a b same true e = ap (λ (x : Bool). first_number x v t) (sym (same e))
  first_stays a b same false e = unnumbered a e ∙ sym (unnumbered b e)

pub stays_for : StaysFor
stays_for xs ys q r s t ts before after same all = λ v table at.
    let was = all v table at in
    let now : (n : Local) → has_number (connection_of table) n ≡ true → is_own (is_mine r) n ≡ is_own (is_mine q) n =
    λ n h. sym (own_is ys r t after n) ∙ same v n (ap (λ (c : Connection Local). has_number c n) (connection_at ts v table at) ∙ h) ∙ own_is xs q s before n in
    record {
      peer = was.peer;
      is_open = was.is_open;
      kept = record {
        found = λ w ref. was.kept.found w ref ∙ first_stays w table ref (is_own (is_mine q) (local_of w)) (is_own (is_mine r) (local_of w)) (now (local_of w)) (has_number (connection_of table) (local_of w)) refl;
        exports = was.kept.exports;
        imports = was.kept.imports;
      };
    }
