-- What passes in a note is paid for by its weight, and is no heavier.
use Rattle.std.proofs.Common.{◌≡◌, ℕ, zero, suc, ◌+◌, ◌-◌, ◌≤◌, Bool, true, false, List, [], ◌∷◌, Option, Some, None, refl, arith, leb-true, codes}
use Rattle.std.specs.Prelude.{nat_le}
use Rattle.def_machine.specs.Values.{Value, Null, Flag, Number, Letter, Text, Prim, Broken, Items, Ref, Naming}
use Rattle.def_machine.specs.State.{Passed, Plain, Many, Vat}
use Rattle.def_machine.specs.Refs as refs
use Rattle.def_machine.specs.Refs.{take_room, room_behind, room_by, room_after, own_weight, most, highest, follow, shape, shape_by, shapes}
use Rattle.def_machine.specs.Native.{list_at}
use Rattle.law_machine.specs.Costs.Sizes.{load, loads}

-- ---- weights

some_is : {A : Type 0} (a b : A) → Some a ≡ Some b → a ≡ b
some_is a b e = cc

none_is : {A : Type 0} (b : A) → None ≡ Some b → ⊥
none_is b e = cc

took : (n room left : ℕ) → take_room n room ≡ Some left → n + left ≤ room
unfolding take_room
took n room left e = by (nat_le n room) refl e
  where
    by : (b : Bool) → nat_le n room ≡ b → ◌≡◌ {A = Option ℕ} (elim b [ true ↦ Some (room - n) | false ↦ None ]) (Some left) → n + left ≤ room
    by true q f = let l : n ≤ room = leb-true n room q in let same : room - n ≡ left = some_is (room - n) left f in omega (arith, l, same)
    by false q f = absurd (none_is left f)

weighs : {N : Type 0} (y : Value N) → 1 ≤ own_weight y
unfolding own_weight
weighs (Text t) = omega arith
weighs other = omega arith

module _ {N W : Type 0} (K : Naming N W) (s : Vat N) where
  -- of a value that is no list
  one_light : (y : Value N) (room left : ℕ) → take_room (own_weight y) room ≡ Some left → 1 + left ≤ room
  one_light y room left e = let l = weighs y in let k = took (own_weight y) room left e in omega (arith, l, k)

  all_light : (one : Value N → ℕ → Option ℕ) (f : Value N → Passed N) → ((v : Value N) (room left : ℕ) → one v room ≡ Some left → load (f v) + left ≤ room)
      → (vs : List (Value N)) (room left : ℕ) → room_behind one vs room ≡ Some left → loads (shapes K f vs) + left ≤ room
  unfolding room_behind shapes
  all_light one f h [] room left e = let same : room ≡ left = some_is room left e in omega (arith, same)
  all_light one f h (v ∷ vs) room left e = by (λ l g. all_light one f h vs l left g) (one v room) refl e
    where
      by : ((l : ℕ) → room_behind one vs l ≡ Some left → loads (shapes K f vs) + left ≤ l) → (o : Option ℕ) → one v room ≡ o
          → ◌≡◌ {A = Option ℕ} (elim o [ Some l ↦ room_behind one vs l | None ↦ None ]) (Some left) → load (f v) + loads (shapes K f vs) + left ≤ room
      by rest (Some l) q g = let a = h v room l q in let b = rest l g in omega (arith, a, b)
      by rest None q g = absurd (none_is left g)

  list_light : (members : List (Value N) → ℕ → Option ℕ) (f : List (Value N) → Passed N) (vs : List (Value N)) → ((room left : ℕ) → members vs room ≡ Some left → load (f vs) + left ≤ suc room)
      → (room left : ℕ) (o : Option ℕ) → take_room 1 room ≡ o → ◌≡◌ {A = Option ℕ} (elim o [ Some l ↦ members vs l | None ↦ None ]) (Some left) → load (f vs) + left ≤ room
  list_light members f vs h room left (Some l) q e = let a = took 1 room l q in let b = h l left e in omega (arith, a, b)
  list_light members f vs h room left None q e = absurd (none_is left e)

  by_light : (members : List (Value N) → ℕ → Option ℕ) (f : List (Value N) → Passed N) → ((vs : List (Value N)) (room left : ℕ) → members vs room ≡ Some left → load (f vs) + left ≤ suc room)
      → (y : Value N) (room left : ℕ) → room_by members s.lists y room ≡ Some left → load (shape_by K f s.lists y) + left ≤ room
  unfolding room_by shape_by
  by_light members f h (Items k) room left e = list_light members f (list_at s.lists k) (h (list_at s.lists k)) room left (take_room 1 room) refl e
  by_light members f h Null room left e = one_light Null room left e
  by_light members f h (Flag b) room left e = one_light (Flag b) room left e
  by_light members f h (Number z) room left e = one_light (Number z) room left e
  by_light members f h (Letter c) room left e = one_light (Letter c) room left e
  by_light members f h (Text t) room left e = one_light (Text t) room left e
  by_light members f h (Prim n) room left e = one_light (Prim n) room left e
  by_light members f h (Broken p) room left e = one_light (Broken p) room left e
  by_light members f h (Ref n) room left e = one_light (Ref n) room left e

  -- what passes for a value is no heavier than the room that it takes
  shape_light : (d : ℕ) (x : Value N) (room left : ℕ) → room_after (follow K s) s.lists d x room ≡ Some left → load (shape K d s x) + left ≤ room
  unfolding room_after shape
  shape_light zero x room left e = by_light (λ vs l. None) (λ vs. Plain (Broken (codes "too heavy"))) (λ vs r l f. absurd (none_is l f)) (follow K s x) room left e
  shape_light (suc d) x room left e = by_light (room_behind (λ w l. room_after (follow K s) s.lists d w l)) (λ vs. Many (shapes K (λ v. shape K d s v) vs))
      (λ vs r l f. let a = all_light (λ w k. room_after (follow K s) s.lists d w k) (λ v. shape K d s v) (λ v q k g. shape_light d v q k g) vs r l f in omega (arith, a)) (follow K s x) room left e

  list_parcel : (x : Value N) (o : Option ℕ) → room_after (follow K s) s.lists highest x most ≡ o → load (refs.parcel_of_list K s x o).value ≤ (refs.parcel_of_list K s x o).weight
  unfolding refs.parcel_of_list refs.too_heavy
  list_parcel x (Some left) e = let a = shape_light highest x most left e in omega (arith, a)
  list_parcel x None e = omega arith

  at_parcel : (y : Value N) → load (refs.parcel_at K s y).value ≤ (refs.parcel_at K s y).weight
  unfolding refs.parcel_at
  at_parcel (Items k) = list_parcel (Items k) (room_after (follow K s) s.lists highest (Items k) most) refl
  at_parcel Null = weighs Null
  at_parcel (Flag b) = weighs (Flag b)
  at_parcel (Number z) = weighs (Number z)
  at_parcel (Letter c) = weighs (Letter c)
  at_parcel (Text t) = weighs (Text t)
  at_parcel (Prim n) = weighs (Prim n)
  at_parcel (Broken p) = weighs (Broken p)
  at_parcel (Ref n) = weighs (Ref n)

  pub light_parcel : (x : Value N) → load (refs.parcel K s x).value ≤ (refs.parcel K s x).weight
  unfolding refs.parcel
  light_parcel x = at_parcel (follow K s x)
