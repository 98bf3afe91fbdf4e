-- What the vat hosts and tells first comes to have the position that the machine gives it.
use Rattle.std.proofs.Common.{◌≡◌, ℕ, Bool, true, false, cond, List, [], ◌∷◌, ◌++◌, map, Option, Some, None, is_some, refl, sym, ap, subst, ◌∙◌}
use Rattle.std.specs.Prelude.{option_map}
use Rattle.std.proofs.lemmas.List.{map-append}
use Rattle.ev_base.specs.declared.values.Value.{Value}
use Rattle.def_machine.specs.Values.{Local, Prom}
use Rattle.def_run.specs.Connections.{stands_in, exported_as}
use Rattle.ev_tables.specs.Table.{Table, export_number, exported, name_of, place_of}
use Rattle.ev_tables.specs.declared.numeral.Number.{Number}
use Rattle.ev_tables.specs.declared.numeral.Number.TheVariants.{MyAnswer}
use Rattle.ev_tables.specs.Standing.{IsKept, connection_of, first_number, is_own, is_reference, local_of, or_else, promises, sight_of}
use Rattle.ev_tables.specs.Numbering.{numbered}
use Rattle.ev_tables.specs.Statements.{NumbersAsTheMachine}
use Rattle.ev_tables.proofs.NumberedPlaces.{stands, as_values}
use Rattle.ev_tables.proofs.Kept.{absent_own, export_keeps, with_export}

if_true : (b : Bool) (x y : List Local) → b ≡ true → ◌≡◌ {A = List Local} (elim b [ true ↦ x | false ↦ y ]) x
if_true true x y e = refl
if_true false x y e = absurd cc

if_false : (b : Bool) (x y : List Local) → b ≡ false → ◌≡◌ {A = List Local} (elim b [ true ↦ x | false ↦ y ]) y
if_false false x y e = refl
if_false true x y e = absurd cc

module _ (mine : ℕ → Bool) (answer : Local) where
  -- it is exported where it stands nowhere
  by_places : (f g : ℕ → Number) (n : Local) (ns : List Local) (e a : Option ℕ) (b c : Bool) → b ≡ is_some a → c ≡ is_some e
      → ◌≡◌ {A = List Local} (elim b [ true ↦ ns | false ↦ elim c [ true ↦ ns | false ↦ ns ++ n ∷ [] ] ]) (cond (is_some (or_else (option_map f e) (option_map g a))) ns (ns ++ n ∷ []))
  by_places f g n ns (Some p) (Some q) b c x y = rw (x) refl
  by_places f g n ns (Some p) None b c x y = rw (x, y) refl
  by_places f g n ns None (Some q) b c x y = rw (x) refl
  by_places f g n ns None None b c x y = rw (x, y) refl

  by_own : (n : Local) (asked ns : List Local) → is_own mine n ≡ true → exported_as (sight_of mine answer) asked n ns ≡ elim (stands_in (sight_of mine answer) asked n) [ true ↦ ns | false ↦ elim (stands_in (sight_of mine answer) ns n) [ true ↦ ns | false ↦ ns ++ n ∷ [] ] ]
  unfolding exported_as
  by_own n asked ns o = if_true (is_own mine n) (elim (stands_in (sight_of mine answer) asked n) [ true ↦ ns | false ↦ elim (stands_in (sight_of mine answer) ns n) [ true ↦ ns | false ↦ ns ++ n ∷ [] ] ]) ns o

  by_other : (n : Local) (asked ns : List Local) → is_own mine n ≡ false → exported_as (sight_of mine answer) asked n ns ≡ ns
  unfolding exported_as
  by_other n asked ns o = if_false (is_own mine n) (elim (stands_in (sight_of mine answer) asked n) [ true ↦ ns | false ↦ elim (stands_in (sight_of mine answer) ns n) [ true ↦ ns | false ↦ ns ++ n ∷ [] ] ]) ns o

  exports_own : (v : Value) (t : Table) → is_reference v ≡ true → IsKept mine t → is_own mine (local_of v) ≡ true
      → exported_as (sight_of mine answer) (connection_of t).answers (local_of v) (connection_of t).exports ≡ cond (is_some (name_of v t.names)) (connection_of t).exports ((connection_of t).exports ++ local_of v ∷ [])
  unfolding first_number
  exports_own v t r k o =
      let s = sight_of mine answer in
      by_own (local_of v) (map Prom t.answers) (map local_of t.exports) o
      ∙ by_places (export_number v) MyAnswer (local_of v) (map local_of t.exports) (place_of v t.exports) (place_of v (promises t.answers)) (stands_in s (map Prom t.answers) (local_of v)) (stands_in s (map local_of t.exports) (local_of v))
      (ap (λ (ls : List Local). stands_in s ls (local_of v)) (as_values t.answers) ∙ stands mine answer v (promises t.answers) r) (stands mine answer v t.exports r)
      ∙ ap (λ (o : Option Number). cond (is_some o) (map local_of t.exports) (map local_of t.exports ++ local_of v ∷ [])) (sym (k.found v r ∙ ap (λ (b : Bool). first_number b v t) o))

  exported_is : (v : Value) (t : Table) → place_of v t.exports ≡ None → exported v t ≡ with_export mine v t
  exported_is v t e = rw (e) refl

  abbrev pub Numbers : Bool → Value → Table → Type 0
  Numbers own v t =
      (connection_of (numbered own v t) ≡ record (connection_of t) { exports = exported_as (sight_of mine answer) (connection_of t).answers (local_of v) (connection_of t).exports })
      × IsKept mine (numbered own v t)

  -- it has a number, or gets one
  stays : (v : Value) (t : Table) (m : Number) → name_of v t.names ≡ Some m → numbered true v t ≡ t
  unfolding numbered
  stays v t m e = ap (λ (o : Option Number). cond (is_some o) t (exported v t)) e

  grows : (v : Value) (t : Table) → name_of v t.names ≡ None → place_of v t.exports ≡ None → numbered true v t ≡ with_export mine v t
  unfolding numbered
  grows v t e f = ap (λ (o : Option Number). cond (is_some o) t (exported v t)) e ∙ exported_is v t f

  abbrev pub Becomes : Value → Table → Table → Type 0
  Becomes v t u = (connection_of u ≡ record (connection_of t) { exports = exported_as (sight_of mine answer) (connection_of t).answers (local_of v) (connection_of t).exports }) × IsKept mine u

  told : (v : Value) (t : Table) → is_reference v ≡ true → IsKept mine t → is_own mine (local_of v) ≡ true → (o : Option Number) → name_of v t.names ≡ o → Numbers true v t
  told v t r k own (Some m) e =
      let same : exported_as (sight_of mine answer) (connection_of t).answers (local_of v) (connection_of t).exports ≡ (connection_of t).exports =
      exports_own v t r k own ∙ ap (λ (o : Option Number). cond (is_some o) (connection_of t).exports ((connection_of t).exports ++ local_of v ∷ [])) e in
      subst (Becomes v t) (sym (stays v t m e)) (ap (λ (ls : List Local). record (connection_of t) { exports = ls }) (sym same), k)
  told v t r k own None e =
      let gone = absent_own mine v t r own k e in
      let more : exported_as (sight_of mine answer) (connection_of t).answers (local_of v) (connection_of t).exports ≡ map local_of (t.exports ++ v ∷ []) =
      exports_own v t r k own ∙ ap (λ (o : Option Number). cond (is_some o) (connection_of t).exports ((connection_of t).exports ++ local_of v ∷ [])) e ∙ sym (map-append local_of t.exports (v ∷ [])) in
      subst (Becomes v t) (sym (grows v t e gone.0)) (ap (λ (ls : List Local). record (connection_of t) { exports = ls }) (sym more), export_keeps mine v t r own e k)

  by_host : (v : Value) (t : Table) → is_reference v ≡ true → IsKept mine t → (own : Bool) → is_own mine (local_of v) ≡ own → Numbers own v t
  unfolding numbered
  by_host v t r k true o = told v t r k o (name_of v t.names) refl
  by_host v t r k false o = (ap (λ (ls : List Local). record (connection_of t) { exports = ls }) (sym (by_other (local_of v) (connection_of t).answers (connection_of t).exports o)), k)

pub numbers : NumbersAsTheMachine
numbers mine answer v t r k = by_host mine answer v t r k (is_own mine (local_of v)) refl
