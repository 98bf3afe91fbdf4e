-- Places in a list of values, and of what they stand for.
use Rattle.std.proofs.Common.{◌≡◌, ℕ, zero, suc, Bool, true, false, cond, List, [], ◌∷◌, map, length, Option, Some, None, is_some, refl, ap, ◌∙◌, ◌==◌, ◌&&◌}
use Rattle.std.specs.Prelude.{option_map}
use Rattle.std.proofs.lemmas.Cmp.{nat_eq_equiv}
use Rattle.ev_base.specs.declared.values.Value.{Value}
use Rattle.ev_base.specs.declared.values.Value.TheVariants as held
use Rattle.def_machine.specs.Values.{Local, Prom, same_local}
use Rattle.def_run.specs.Connections.{stands_in, place_in}
use Rattle.ev_tables.specs.Table.{place_of}
use Rattle.ev_tables.specs.Thing.{same_value}
use Rattle.ev_tables.specs.Standing.{local_of, is_reference, sight_of, promises}

turned : (a b : ℕ) → (a == b) ≡ (b == a)
turned a b = nat_eq_equiv.symm a b

-- the tests of the code and of the machine are one, where a reference is looked for
pub same_is : (v t : Value) → is_reference v ≡ true → same_local (local_of t) (local_of v) ≡ same_value v t
unfolding local_of is_reference same_local same_value
same_is (held.Obj i) (held.Obj j) r = turned j i
same_is (held.Prom i) (held.Prom j) r = turned j i
same_is (held.Far h p) (held.Far g q) r = ap (λ (b : Bool). b && (q == p)) (turned g h) ∙ ap (λ (b : Bool). (h == g) && b) (turned q p)
same_is (held.Obj i) (held.Prom j) r = refl
same_is (held.Obj i) (held.Far g q) r = refl
same_is (held.Obj i) held.Null r = refl
same_is (held.Obj i) (held.Bool b) r = refl
same_is (held.Obj i) (held.Int b) r = refl
same_is (held.Obj i) (held.Char b) r = refl
same_is (held.Obj i) (held.Text b) r = refl
same_is (held.Obj i) (held.List b) r = refl
same_is (held.Obj i) (held.Prim b) r = refl
same_is (held.Obj i) (held.Broken b) r = refl
same_is (held.Prom i) (held.Obj j) r = refl
same_is (held.Prom i) (held.Far g q) r = refl
same_is (held.Prom i) held.Null r = refl
same_is (held.Prom i) (held.Bool b) r = refl
same_is (held.Prom i) (held.Int b) r = refl
same_is (held.Prom i) (held.Char b) r = refl
same_is (held.Prom i) (held.Text b) r = refl
same_is (held.Prom i) (held.List b) r = refl
same_is (held.Prom i) (held.Prim b) r = refl
same_is (held.Prom i) (held.Broken b) r = refl
same_is (held.Far h p) (held.Obj j) r = refl
same_is (held.Far h p) (held.Prom j) r = refl
same_is (held.Far h p) held.Null r = refl
same_is (held.Far h p) (held.Bool b) r = refl
same_is (held.Far h p) (held.Int b) r = refl
same_is (held.Far h p) (held.Char b) r = refl
same_is (held.Far h p) (held.Text b) r = refl
same_is (held.Far h p) (held.List b) r = refl
same_is (held.Far h p) (held.Prim b) r = refl
same_is (held.Far h p) (held.Broken b) r = refl
same_is held.Null t r = absurd cc
same_is (held.Bool b) t r = absurd cc
same_is (held.Int b) t r = absurd cc
same_is (held.Char b) t r = absurd cc
same_is (held.Text b) t r = absurd cc
same_is (held.List b) t r = absurd cc
same_is (held.Prim b) t r = absurd cc
same_is (held.Broken b) t r = absurd cc

module _ (mine : ℕ → Bool) (answer : Local) where
  stands_next : (b c : Bool) (o : Option ℕ) → b ≡ c → (m : Bool) → m ≡ is_some o → elim b [ true ↦ true | false ↦ m ] ≡ is_some (cond c (Some 0) (option_map suc o))
  stands_next b true o e m f = rw (e) refl
  stands_next b false None e m f = rw (e, f) refl
  stands_next b false (Some n) e m f = rw (e, f) refl

  pub stands : (v : Value) (ts : List Value) → is_reference v ≡ true → stands_in (sight_of mine answer) (map local_of ts) (local_of v) ≡ is_some (place_of v ts)
  unfolding stands_in
  stands v [] r = refl
  stands v (t ∷ ts) r = stands_next (same_local (local_of t) (local_of v)) (same_value v t) (place_of v ts) (same_is v t r) (stands_in (sight_of mine answer) (map local_of ts) (local_of v)) (stands v ts r)

  -- where it stands, or how many there are
  abbrev pub place_or : List Value → Option ℕ → ℕ
  place_or ts (Some n) = n
  place_or ts None = length ts

  place_next : (b c : Bool) (t : Value) (ts : List Value) (o : Option ℕ) → b ≡ c → (n : ℕ) → n ≡ place_or ts o → elim b [ true ↦ zero | false ↦ suc n ] ≡ place_or (t ∷ ts) (cond c (Some 0) (option_map suc o))
  place_next b true t ts o e n f = rw (e) refl
  place_next b false t ts None e n f = rw (e, f) refl
  place_next b false t ts (Some k) e n f = rw (e, f) refl

  pub place : (v : Value) (ts : List Value) → is_reference v ≡ true → place_in (sight_of mine answer) (map local_of ts) (local_of v) ≡ place_or ts (place_of v ts)
  unfolding place_in
  place v [] r = refl
  place v (t ∷ ts) r = place_next (same_local (local_of t) (local_of v)) (same_value v t) t ts (place_of v ts) (same_is v t r) (place_in (sight_of mine answer) (map local_of ts) (local_of v)) (place v ts r)

-- promises as values
pub as_values : (ns : List ℕ) → map Prom ns ≡ map local_of (promises ns)
unfolding local_of
as_values [] = refl
as_values (n ∷ ns) = ap (λ (ls : List Local). Prom n ∷ ls) (as_values ns)
