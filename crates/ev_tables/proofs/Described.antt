-- A reference is described as the machine says.
use Rattle.std.proofs.Common.{◌≡◌, ℕ, Bool, true, false, List, map, Option, Some, None, is_some, refl, sym, ap, ◌∙◌}
use Rattle.std.specs.Prelude.{option_map}
use Rattle.std.proofs.lemmas.List.{length-map}
use Rattle.ev_base.specs.declared.values.Value.{Value}
use Rattle.ev_base.specs.declared.values.Value.TheVariants as held
use Rattle.def_machine.specs.Values.{Local, Prom}
use Rattle.def_op.specs.Frames as frames
use Rattle.def_run.specs.Connections.{Connection, stands_in, place_in, position, mine as by_mine, yours as by_yours, described}
use Rattle.ev_tables.specs.Table.{Table, description, export_number, place_of}
use Rattle.ev_tables.specs.declared.numeral.Number.TheVariants.{YourExport, YourAnswer, MyAnswer}
use Rattle.ev_tables.specs.Standing.{IsKept, connection_of, first_number, is_object, is_own, is_reference, local_of, or_else, promises, sight_of}
use Rattle.ev_tables.specs.Numbering.{described_by, described_in}
use Rattle.ev_tables.specs.Statements.{DescribesAsTheMachine}
use Rattle.ev_tables.proofs.NumberedPlaces.{stands, place, place_or, as_values}

module _ (mine : ℕ → Bool) (answer : Local) where
  -- what the vat hosts is no object of another vat
  position_is : (v : Value) (p : ℕ) → is_reference v ≡ true → is_own mine (local_of v) ≡ true → description (export_number v p) ≡ position (sight_of mine answer) (is_object (local_of v)) p
  unfolding is_reference is_own local_of is_object position
  position_is (held.Obj i) p r e = refl
  position_is (held.Prom n) p r e = refl
  position_is (held.Far h q) p r e = absurd cc
  position_is v p r e = absurd cc

  -- of the vat's own
  own_is : (v : Value) (t : Table) (c : Connection Local) (e a : Option ℕ) (b : Bool) → is_reference v ≡ true → is_own mine (local_of v) ≡ true
      → b ≡ is_some e → place_in (sight_of mine answer) c.exports (local_of v) ≡ place_or mine answer t.exports e → place_in (sight_of mine answer) c.answers (local_of v) ≡ place_or mine answer (promises t.answers) a
      → described_by true t (or_else (option_map (export_number v) e) (option_map MyAnswer a)) ≡ by_mine (sight_of mine answer) c (local_of v) b
  unfolding described_by by_mine
  own_is v t c (Some p) a b r o s x y = rw (s, x) (position_is v p r o)
  own_is v t c None (Some q) b r o s x y = rw (s, y) refl
  own_is v t c None None b r o s x y = rw (s, y) (ap frames.MyAnswer (sym (length-map t.answers held.Prom)))

  -- of the peer's
  your_is : (v : Value) (t : Table) (c : Connection Local) (q i : Option ℕ) (b : Bool)
      → b ≡ is_some q → place_in (sight_of mine answer) c.questions (local_of v) ≡ place_or mine answer (promises t.asked) q → place_in (sight_of mine answer) c.imports (local_of v) ≡ place_or mine answer t.imports i
      → described_by false t (or_else (option_map YourAnswer q) (option_map YourExport i)) ≡ by_yours (sight_of mine answer) c (local_of v) b
  unfolding described_by by_yours
  your_is v t c (Some k) i b s x y = rw (s, x) refl
  your_is v t c None (Some p) b s x y = rw (s, y) refl
  your_is v t c None None b s x y = rw (s, y) refl

  placed : (v : Value) (ns : List ℕ) → is_reference v ≡ true → place_in (sight_of mine answer) (map Prom ns) (local_of v) ≡ place_or mine answer (promises ns) (place_of v (promises ns))
  placed v ns r = rw (as_values ns) (place mine answer v (promises ns) r)

  by_host : (v : Value) (t : Table) (own : Bool) → is_own mine (local_of v) ≡ own → is_reference v ≡ true → IsKept mine t
      → described_by own t (first_number own v t) ≡ elim own [ true ↦ by_mine (sight_of mine answer) (connection_of t) (local_of v) (stands_in (sight_of mine answer) (connection_of t).exports (local_of v)) | false ↦ by_yours (sight_of mine answer) (connection_of t) (local_of v) (stands_in (sight_of mine answer) (connection_of t).questions (local_of v)) ]
  unfolding first_number
  by_host v t true o r k =
      own_is v t (connection_of t) (place_of v t.exports) (place_of v (promises t.answers)) (stands_in (sight_of mine answer) (connection_of t).exports (local_of v)) r o (stands mine answer v t.exports r) (place mine answer v t.exports r) (placed v t.answers r)
  by_host v t false o r k =
      your_is v t (connection_of t) (place_of v (promises t.asked)) (place_of v t.imports) (stands_in (sight_of mine answer) (connection_of t).questions (local_of v))
      (ap (λ ls. stands_in (sight_of mine answer) ls (local_of v)) (as_values t.asked) ∙ stands mine answer v (promises t.asked) r) (placed v t.asked r) (place mine answer v t.imports r)

pub describes : DescribesAsTheMachine
unfolding described_in described
describes mine answer v t r k =
    let own = is_own mine (local_of v) in
    ap (described_by own t) (k.found v r) ∙ by_host mine answer v t own refl r k
