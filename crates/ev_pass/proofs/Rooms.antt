-- The room that values leave is what the machine finds.
use Rattle.std.proofs.Common.{◌≡◌, ℕ, zero, suc, ◌+◌, ◌-◌, Bool, true, false, nat_le, List, [], ◌∷◌, Option, Some, None, Ok, Err, length, map, refl, sym, ap, ◌∙◌, subst, arith}
use Rattle.std.specs.Prelude.{Result, if◌then◌else◌, option_map, slice_get, unwrap_or}
use Rattle.std.proofs.lemmas.Option.{slice_get-map}
use Rattle.ev_base.specs.declared.values.Value.{Value as Held}
use Rattle.ev_base.specs.declared.values.Value.TheVariants as held
use Rattle.ev_heap.specs.Contents.{Contents}
use Rattle.def_machine.specs.Native.{list_at}
use Rattle.def_machine.specs.Refs as refs
use Rattle.def_machine.specs.Refs.{room_behind, room_by}
use Rattle.def_machine.specs.Values.{Words, Value, Local}
use Rattle.ev_refs.specs.Follow.{followed}
use Rattle.ev_refs.specs.Leading.{lists_in, members_at}
use Rattle.ev_refs.specs.Reading.{text_by, value_by}
use Rattle.ev_refs.specs.References.{References}
use Rattle.ev_pass.specs.Measuring.{own_weight, take_room, on_room, rooms, room_at, listed_room, room_after, room_in}
use Rattle.ev_pass.specs.declared.measure.Misfit.{Misfit}
use Rattle.ev_pass.specs.declared.measure.Misfit.TheVariants.{TooHeavy, Missing}

-- where no text is missing, it is that
abbrev pub Agrees : Result ℕ Misfit → Option ℕ → Type 0
Agrees (Ok n) o = o ≡ Some n
Agrees (Err TooHeavy) o = o ≡ None
Agrees (Err Missing) o = Unit {0}

found_is : (ts : List Words) (o : Option (List Held)) → elim (option_map (map (value_by ts)) o) [ Some vs ↦ vs | None ↦ [] ] ≡ map (value_by ts) (unwrap_or o [])
found_is ts None = refl
found_is ts (Some vs) = refl

pub members_are : (ts : List Words) (ls : List (List Held)) (k : ℕ) → list_at (map (map (value_by ts)) ls) k ≡ map (value_by ts) (members_at ls k)
unfolding list_at
members_are ts ls k = ap (λ (o : Option (List (Value Local))). elim o [ Some vs ↦ vs | None ↦ [] ]) (slice_get-map (map (value_by ts)) ls k) ∙ found_is ts (slice_get ls k)

fits_is : (n room : ℕ) (b : Bool) → Agrees (if b then Ok (room - n) else Err TooHeavy) (elim b [ true ↦ Some (room - n) | false ↦ None ])
fits_is n room true = refl
fits_is n room false = refl

take_is : (n room : ℕ) → Agrees (take_room (Some n) room) (refs.take_room n room)
unfolding take_room refs.take_room
take_is n room = fits_is n room (nat_le n room)

module _ (ts : List Words) (h : Contents) (texts : (id : ℕ) (t : Words) → slice_get h.texts id ≡ Some t → text_by ts id ≡ t) where
  text_is : (id room : ℕ) (o : Option (List ℕ)) → slice_get h.texts id ≡ o → Agrees (take_room (option_map (λ t. length {A = ℕ} t + 1) o) room) (refs.take_room (1 + length (text_by ts id)) room)
  unfolding take_room
  text_is id room None e = tt
  text_is id room (Some t) e =
      let same : length t + 1 ≡ 1 + length (text_by ts id) = omega (arith, ap length (texts id t e)) in
      subst (λ (n : ℕ). Agrees (take_room (Some (length t + 1)) room) (refs.take_room n room)) same (take_is (length t + 1) room)

  -- of what is no list
  pub own_is : (v : Held) (room : ℕ) → ((k : ℕ) → v ≡ held.List k → ⊥) → Agrees (take_room (own_weight h v) room) (refs.take_room (refs.own_weight (value_by ts v)) room)
  unfolding refs.own_weight
  own_is (held.Text id) room no_list = text_is id room (slice_get h.texts id) refl
  own_is (held.Broken id) room no_list = text_is id room (slice_get h.texts id) refl
  own_is (held.List k) room no_list = absurd (no_list k refl)
  own_is held.Null room no_list = take_is 1 room
  own_is (held.Bool b) room no_list = take_is 1 room
  own_is (held.Int z) room no_list = take_is 1 room
  own_is (held.Char c) room no_list = take_is 1 room
  own_is (held.Prim n) room no_list = take_is 1 room
  own_is (held.Obj i) room no_list = take_is 1 room
  own_is (held.Prom n) room no_list = take_is 1 room
  own_is (held.Far a p) room no_list = take_is 1 room

  one_behind : (f : Held → ℕ → Result ℕ Misfit) (g : Value Local → ℕ → Option ℕ) (vs : List Held) → ((room : ℕ) → Agrees (rooms f vs room) (room_behind g (map (value_by ts) vs) room)) → (r : Result ℕ Misfit) (o : Option ℕ) → Agrees r o
      → Agrees (on_room (rooms f vs) r) (elim o [ Some left ↦ room_behind g (map (value_by ts) vs) left | None ↦ None ])
  unfolding on_room
  one_behind f g vs more (Ok left) o e = rw e (more left)
  one_behind f g vs more (Err TooHeavy) o e = rw e refl
  one_behind f g vs more (Err Missing) o e = tt

  behind_is : (f : Held → ℕ → Result ℕ Misfit) (g : Value Local → ℕ → Option ℕ) → ((v : Held) (room : ℕ) → Agrees (f v room) (g (value_by ts v) room)) → (vs : List Held) (room : ℕ) → Agrees (rooms f vs room) (room_behind g (map (value_by ts) vs) room)
  unfolding rooms room_behind
  behind_is f g same [] room = refl
  behind_is f g same (v ∷ vs) room = one_behind f g vs (behind_is f g same vs) (f v room) (g (value_by ts v) room) (same v room)

  -- a list takes one, and then its members
  one_first : (f : ℕ → Result ℕ Misfit) (g : ℕ → Option ℕ) → ((left : ℕ) → Agrees (f left) (g left)) → (r : Result ℕ Misfit) (o : Option ℕ) → Agrees r o → Agrees (on_room f r) (elim o [ Some left ↦ g left | None ↦ None ])
  unfolding on_room
  one_first f g same (Ok left) o e = rw e (same left)
  one_first f g same (Err TooHeavy) o e = rw e refl
  one_first f g same (Err Missing) o e = tt

  none_left : (o : Option ℕ) → elim o as (λ _. Option ℕ) [ Some left ↦ None | None ↦ None ] ≡ None
  none_left (Some left) = refl
  none_left None = refl

  abbrev lists : List (List (Value Local))
  lists = map (map (value_by ts)) (lists_in h)

  module _ (r : References) (f : Value Local → Value Local) (follows : (v : Held) → f (value_by ts v) ≡ value_by ts (followed r v)) where
    -- a followed value, by what its members leave
    at_is : (inside : ℕ → ℕ → Result ℕ Misfit) (members : List (Value Local) → ℕ → Option ℕ) → ((k room : ℕ) → Agrees (inside k room) (room_by members lists (value_by ts (held.List k)) room)) → (y : Held) (room : ℕ)
        → Agrees (room_at inside h y room) (room_by members lists (value_by ts y) room)
    unfolding room_at room_by
    at_is inside members same (held.List k) room = same k room
    at_is inside members same held.Null room = own_is held.Null room (λ k e. cc)
    at_is inside members same (held.Bool b) room = own_is (held.Bool b) room (λ k e. cc)
    at_is inside members same (held.Int z) room = own_is (held.Int z) room (λ k e. cc)
    at_is inside members same (held.Char c) room = own_is (held.Char c) room (λ k e. cc)
    at_is inside members same (held.Text id) room = own_is (held.Text id) room (λ k e. cc)
    at_is inside members same (held.Prim n) room = own_is (held.Prim n) room (λ k e. cc)
    at_is inside members same (held.Obj i) room = own_is (held.Obj i) room (λ k e. cc)
    at_is inside members same (held.Prom n) room = own_is (held.Prom n) room (λ k e. cc)
    at_is inside members same (held.Far a p) room = own_is (held.Far a p) room (λ k e. cc)
    at_is inside members same (held.Broken id) room = own_is (held.Broken id) room (λ k e. cc)

    abbrev inner : ℕ → List (Value Local) → ℕ → Option ℕ
    inner zero = λ vs left. None
    inner (suc d) = room_behind (λ w left. refs.room_after f lists d w left)

    by_inner : (d : ℕ) (x : Value Local) (room : ℕ) → refs.room_after f lists d x room ≡ room_by (inner d) lists (f x) room
    unfolding refs.room_after
    by_inner zero x room = refl
    by_inner (suc d) x room = refl

    in_is : (d k room : ℕ) → Agrees (room_in d r h k room) (room_by (inner d) lists (value_by ts (held.List k)) room)
    unfolding room_in room_by listed_room
    in_is zero k room = none_left (refs.take_room 1 room)
    in_is (suc d) k room =
        one_first (rooms (λ v left. room_at (λ j less. room_in d r h j less) h (followed r v) left) (members_at (lists_in h) k)) (λ left. room_behind (λ w less. refs.room_after f lists d w less) (list_at lists k) left)
        (λ left. subst (λ (vs : List (Value Local)). Agrees (rooms (λ v less. room_at (λ j least. room_in d r h j least) h (followed r v) less) (members_at (lists_in h) k) left) (room_behind (λ w less. refs.room_after f lists d w less) vs left))
        (sym (members_are ts (lists_in h) k))
        (behind_is _ _ (λ v less. subst (λ (o : Option ℕ). Agrees (room_at (λ j least. room_in d r h j least) h (followed r v) less) o) (sym (by_inner d (value_by ts v) less ∙ ap (λ (y : Value Local). room_by (inner d) lists y less) (follows v)))
        (at_is (λ j least. room_in d r h j least) (inner d) (in_is d) (followed r v) less)) (members_at (lists_in h) k) left))
        (take_room (Some 1) room) (refs.take_room 1 room) (take_is 1 room)

    -- the room that a value leaves
    pub room_is : (d : ℕ) (v : Held) (room : ℕ) → Agrees (room_after d r h v room) (refs.room_after f lists d (value_by ts v) room)
    unfolding room_after
    room_is d v room =
        subst (λ (o : Option ℕ). Agrees (room_at (λ k left. room_in d r h k left) h (followed r v) room) o) (sym (by_inner d (value_by ts v) room ∙ ap (λ (y : Value Local). room_by (inner d) lists y room) (follows v)))
        (at_is (λ k left. room_in d r h k left) (inner d) (in_is d) (followed r v) room)
