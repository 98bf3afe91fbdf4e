-- The laws of exports in runs.
use Rattle.std.proofs.Common.{◌≡◌, ℕ, zero, Bool, true, false, List, [], ◌∷◌, Option, Some, None, refl, sym, ap, ◌∙◌, ◌==◌, ◌&&◌}
use Rattle.std.specs.Prelude.{slice_get}
use Rattle.std.proofs.lemmas.Bool.{eqb-true, eq-eqb}
use Rattle.def_machine.specs.Values.{Name, Object, host_of, same_name, Foreign, spot_of}
use Rattle.def_run.specs.World as world
use Rattle.def_run.specs.World.{Link, World}
use Rattle.law_reference.specs.Reference.Logs as wire
use Rattle.law_fate.specs.Name.Names.{AllOf}
use Rattle.law_fate.proofs.Name.SameNames.{false_true}
use Rattle.law_reference.specs.Reference.Exports.{InAllRuns, PositionsAreOfOneName, object_of, exported_at, ExportsAreDistinct}
use Rattle.law_reference.proofs.Reference.Positions.{Fine, exports_fine, one_position, host_at}
use Rattle.law_reference.proofs.Reference.Roots.{Rooted, AllRooted, steps_rooted, opens_rooted, begins_rooted}

pub in_all_runs : (P : World → Type 0) → ((w : World) → AllRooted w → P w) → InAllRuns P
in_all_runs P f script = (
  λ ps w e. f w (opens_rooted script zero ps (world.begins script) w (begins_rooted script) e),
  λ w x es k opened stepped. f x (steps_rooted script es k w x (opens_rooted script zero script.vats (world.begins script) w (begins_rooted script) opened) stepped),
)

-- ---- the roots of the link from one vat to another

no_link : (v : ℕ) → Fine v (wire.roots_of None)
unfolding wire.roots_of
no_link v = (tt, tt)

from_is : (v u : ℕ) (l : Link) → world.is_link v u l ≡ true → l.from ≡ v
unfolding world.is_link
from_is v u l e = eqb-true l.from v (first (l.from == v) (l.to == u) e)
  where
    first : (a b : Bool) → elim a [ true ↦ b | false ↦ false ] ≡ true → a ≡ true
    first true b e = refl
    first false b e = absurd (false_true e)

either_roots : (b : Bool) (v u : ℕ) (l : Link) (o : Option Link) → world.is_link v u l ≡ b → Rooted l → Fine v (wire.roots_of o) → Fine v (wire.roots_of (elim b [ true ↦ Some l | false ↦ o ]))
unfolding wire.roots_of
either_roots true v u l o e h i = rw (from_is v u l e) at h
either_roots false v u l o e h i = i

roots_fine : (v u : ℕ) (ls : List Link) → AllOf Rooted ls → Fine v (wire.roots_of (world.link_at v u ls))
unfolding world.link_at
roots_fine v u [] h = no_link v
roots_fine v u (l ∷ ls) h = either_roots (world.is_link v u l) v u l (world.link_at v u ls) refl h.0 (roots_fine v u ls h.1)

positions_fine : (word : ℕ → ℕ) (ls : List Link) (v u : ℕ) → AllOf Rooted ls → Fine v (wire.exports word ls v u)
unfolding wire.exports
positions_fine word ls v u h = exports_fine v (wire.questions word ls u v) (wire.log_of (world.link_at v u ls)) (wire.roots_of (world.link_at v u ls)) (roots_fine v u ls h)

pub positions_are_of_one_name : PositionsAreOfOneName
positions_are_of_one_name word = in_all_runs _ (λ w h v u. positions_fine word w.links v u h)

-- ---- tables

-- what stands at the position of an object is that object of its host
object_is : (v : ℕ) (o : Option Name) (j : ℕ) → ((n : Name) → o ≡ Some n → host_of n ≡ v) → object_of o ≡ Some j → o ≡ Some (Object v j)
unfolding object_of host_of
object_is v (Some (Object w i)) j f e = let a : w ≡ v = f (Object w i) refl in let b : i ≡ j = cc in rw (a, b) refl
object_is v other j f e = cc

module _ (ls : List Link) (rooted : AllOf Rooted ls) (v : ℕ) where
  abbrev Given : ℕ → List Name
  Given h = wire.exports (λ i. i) ls h v

  exported : (h p j : ℕ) (b : Bool) → elim b [ true ↦ None | false ↦ object_of (slice_get (Given h) p) ] ≡ Some j → (b ≡ false) × (slice_get (Given h) p ≡ Some (Object h j))
  exported h p j true e = cc
  exported h p j false e = (refl, object_is h (slice_get (Given h) p) j (λ n i. host_at h (Given h) p n (positions_fine (λ i. i) ls h v rooted).1 i) e)

  found_there : (h p j : ℕ) → exported_at ls v h p ≡ Some j → ((v == h) ≡ false) × (slice_get (Given h) p ≡ Some (Object h j))
  unfolding exported_at
  found_there h p j e = exported h p j (v == h) e

  abroad : (h p j : ℕ) → exported_at ls v h p ≡ Some j → spot_of v (Object h j) ≡ Foreign h
  unfolding spot_of
  abroad h p j e = rw ((found_there h p j e).0, spot_of) refl

  object_same : (h i j : ℕ) → Object h i ≡ Object h j → i ≡ j
  object_same h i j e = cc

  some_is : (a b : Name) → Some a ≡ Some b → a ≡ b
  some_is a b e = cc

  -- two positions with one host, and two numbers
  numbers_alike : (h p q i j : ℕ) → slice_get (Given h) p ≡ Some (Object h i) → slice_get (Given h) q ≡ Some (Object h j) → (b c : Bool) → (i == j) ≡ b → (p == q) ≡ c → b ≡ c
  numbers_alike h p q i j e f true true x y = refl
  numbers_alike h p q i j e f false false x y = refl
  numbers_alike h p q i j e f true false x y = let g : i ≡ j = eqb-true i j x in let k : p ≡ q = one_position (Given h) p q (Object h j) (positions_fine (λ i. i) ls h v rooted).0 (e ∙ ap (λ z. Some (Object h z)) g) f in absurd (false_true (sym y ∙ eq-eqb p q k))
  numbers_alike h p q i j e f false true x y = let g : p ≡ q = eqb-true p q y in let k : Some (Object h i) ≡ Some (Object h j) = sym e ∙ ap (λ z. slice_get (Given h) z) g ∙ f in absurd (false_true (sym x ∙ eq-eqb i j (object_same h i j (some_is (Object h i) (Object h j) k))))

  hosts_alike : (h p g q i j : ℕ) → slice_get (Given h) p ≡ Some (Object h i) → slice_get (Given g) q ≡ Some (Object g j) → (b : Bool) → (h == g) ≡ b → (b && (i == j)) ≡ (b && (p == q))
  hosts_alike h p g q i j e f true x = let s : h ≡ g = eqb-true h g x in numbers_alike g p q i j (rw s at e) f (i == j) (p == q) refl refl
  hosts_alike h p g q i j e f false x = refl

  pub distinct : (h p g q i j : ℕ) → exported_at ls v h p ≡ Some i → exported_at ls v g q ≡ Some j → same_name (Object h i) (Object g j) ≡ ((h == g) && (p == q))
  unfolding same_name
  distinct h p g q i j e f = hosts_alike h p g q i j (found_there h p i e).1 (found_there g q j f).1 (h == g) refl

  pub both : ((h p j : ℕ) → exported_at ls v h p ≡ Some j → spot_of v (Object h j) ≡ Foreign h)
      × ((h p g q i j : ℕ) → exported_at ls v h p ≡ Some i → exported_at ls v g q ≡ Some j → same_name (Object h i) (Object g j) ≡ ((h == g) && (p == q)))
  both = (abroad, distinct)

pub exports_are_distinct : ExportsAreDistinct
exports_are_distinct = in_all_runs _ (λ w h v. both w.links h v)
