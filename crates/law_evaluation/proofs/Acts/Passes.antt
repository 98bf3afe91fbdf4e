-- What passes to another vat, and messages that go out.
use Rattle.std.proofs.Common.{◌≡◌, ℕ, zero, suc, ◌-◌, Bool, true, false, List, [], ◌∷◌, Option, Some, None, Ok, Err, refl, subst, sym}
use Rattle.std.specs.Prelude.{Result, ◌==◌, nat_le, if◌then◌else◌}
use Rattle.ev_base.specs.declared.values.Value.{Value}
use Rattle.ev_base.specs.declared.values.Value.TheVariants as held
use Rattle.ev_heap.specs.Contents.{Contents}
use Rattle.def_machine.specs.State.{is_in}
use Rattle.def_machine.specs.Values.{Words, key}
use Rattle.ev_refs.specs.Follow.{followed, place_of}
use Rattle.ev_refs.specs.Leading.{lists_in, members_at}
use Rattle.ev_refs.specs.References.{References}
use Rattle.ev_refs.specs.declared.follow.Place.{Place}
use Rattle.ev_refs.specs.declared.follow.Place.TheVariants.{Near, Mine, FarPromise, FarObject, Gone}
use Rattle.ev_pass.specs.Acts.{Act, ◌>>=◌, ◌>>◌, give, fail, tell, spend, draw, send_out, to_tell}
use Rattle.ev_pass.specs.Delivering.{posted, deliver, inform_plainly, inform_at, inform}
use Rattle.ev_pass.specs.Measuring.{own_weight, take_room, on_room, rooms, room_at, listed_room, room_in, room_after, weighed_list, weighed_data, weighed_end, weighed}
use Rattle.ev_pass.specs.Notes.{Parcel, Plain, Gift, Many, NoMore, More, Open, Deliver, Settled, Elsewhere}
use Rattle.ev_pass.specs.Passing.{provide, introduce, address_plain, packs, pack_at, wrap, pack_list, pack_end, pass_weighed, pass_by, pass}
use Rattle.ev_pass.specs.declared.interior.Interior.{Interior}
use Rattle.ev_pass.specs.declared.interior.Stop.{Stop}
use Rattle.ev_pass.specs.declared.measure.Misfit.{Misfit}
use Rattle.ev_pass.specs.declared.measure.Misfit.TheVariants as misfit
use Rattle.ev_pass.specs.declared.measure.Weighed.{Weighed}
use Rattle.ev_pass.specs.declared.note.Reference.{Reference}
use Rattle.ev_pass.specs.declared.note.Reference.TheVariants as reference
use Rattle.ev_room.specs.Holding.{Every, IsOf}
use Rattle.law_evaluation.specs.Acts.Kinds.{Base, ReferencesIn, GroundOf, InsideOf, StopOf, EndsOf, Anything}
use Rattle.law_evaluation.proofs.Acts.Acts.{then_of, give_of, tell_of, spend_of, send_out_of, to_tell_of, draw_of}
use Rattle.law_evaluation.proofs.Acts.Follows.{followed_of}
use Rattle.law_evaluation.proofs.Acts.Lists.{every_one}

-- ---- no text is missing

abbrev Measured : Result ℕ Misfit → Type 0
Measured (Err misfit.Missing) = ⊥
Measured other = Unit {0}

fits : (b : Bool) (n : ℕ) → Measured (if b then Ok n else Err misfit.TooHeavy)
fits true n = tt
fits false n = tt

took : (o : Option ℕ) (n room : ℕ) → o ≡ Some n → Measured (take_room o room)
unfolding take_room
took None n room e = absurd (cc)
took (Some m) n room e = fits (nat_le m room) (room - m)

then_measured : (f : ℕ → Result ℕ Misfit) (r : Result ℕ Misfit) → Measured r → ((left : ℕ) → Measured (f left)) → Measured (on_room f r)
unfolding on_room
then_measured f (Ok left) a each = each left
then_measured f (Err misfit.TooHeavy) a each = tt
then_measured f (Err misfit.Missing) a each = a

module _ (kind : Value → Bool) (base : Base) (ground : GroundOf kind base) where
  all_measured : (f : Value → ℕ → Result ℕ Misfit) (vs : List Value) (room : ℕ) → Every (IsOf kind) vs → ((v : Value) → IsOf kind v → (left : ℕ) → Measured (f v left)) → Measured (rooms f vs room)
  unfolding rooms
  all_measured f [] room a each = tt
  all_measured f (v ∷ vs) room a each = then_measured (rooms f vs) (f v room) (each v a.0 room) (λ left. all_measured f vs left a.1 each)

  data_measured : (v : Value) (room : ℕ) → IsOf kind v → Measured (take_room (own_weight base.heap v) room)
  data_measured v room a = let w = ground.texts v a in took (own_weight base.heap v) w.0 room w.1

  at_measured : (inside : ℕ → ℕ → Result ℕ Misfit) (v : Value) (room : ℕ) → IsOf kind v → ((k left : ℕ) → Measured (inside k left)) → Measured (room_at inside base.heap v room)
  unfolding room_at
  at_measured inside (held.List k) room a each = each k room
  at_measured inside held.Null room a each = data_measured held.Null room a
  at_measured inside (held.Bool b) room a each = data_measured (held.Bool b) room a
  at_measured inside (held.Int z) room a each = data_measured (held.Int z) room a
  at_measured inside (held.Char c) room a each = data_measured (held.Char c) room a
  at_measured inside (held.Text t) room a each = data_measured (held.Text t) room a
  at_measured inside (held.Prim n) room a each = data_measured (held.Prim n) room a
  at_measured inside (held.Obj i) room a each = data_measured (held.Obj i) room a
  at_measured inside (held.Prom n) room a each = data_measured (held.Prom n) room a
  at_measured inside (held.Far w p) room a each = data_measured (held.Far w p) room a
  at_measured inside (held.Broken t) room a each = data_measured (held.Broken t) room a

  list_measured : (d : ℕ) (r : References) (k room : ℕ) → ReferencesIn kind base r → Measured (room_in d r base.heap k room)
  unfolding room_in listed_room
  list_measured zero r k room a = tt
  list_measured (suc d) r k room a =
      then_measured (rooms (λ v left. room_at (λ j less. room_in d r base.heap j less) base.heap (followed r v) left) (members_at (lists_in base.heap) k)) (take_room (Some 1) room) (took (Some 1) 1 room refl)
      (λ left. all_measured (λ v less. room_at (λ j least. room_in d r base.heap j least) base.heap (followed r v) less) (members_at (lists_in base.heap) k) left (ground.members k)
      (λ v b less. at_measured (λ j least. room_in d r base.heap j least) (followed r v) less (followed_of kind base ground r v a b) (λ j least. list_measured d r j least a)))

  value_measured : (d : ℕ) (r : References) (v : Value) (room : ℕ) → ReferencesIn kind base r → IsOf kind v → Measured (room_after d r base.heap v room)
  unfolding room_after
  value_measured d r v room a b = at_measured (λ k left. room_in d r base.heap k left) (followed r v) room (followed_of kind base ground r v a b) (λ k left. list_measured d r k left a)

  -- ---- what is weighed

  abbrev WeighedOf : Result Weighed Stop → Type 0
  WeighedOf (Ok x) = Unit {0}
  WeighedOf (Err e) = StopOf e

  list_weighed : (i : Interior) (k : ℕ) (r : Result ℕ Misfit) → Measured r → WeighedOf (weighed_list i k r)
  unfolding weighed_list
  list_weighed i k (Err misfit.Missing) a = a
  list_weighed i k other a = tt

  data_weighed : (v : Value) (o : Option ℕ) (n : ℕ) → o ≡ Some n → WeighedOf (weighed_data v o)
  unfolding weighed_data
  data_weighed v (Some m) n e = tt
  data_weighed v None n e = absurd (cc)

  held_weighed : (i : Interior) (v : Value) → i.heap ≡ base.heap → IsOf kind v → WeighedOf (weighed_data v (own_weight i.heap v))
  held_weighed i v e a = let w = ground.texts v a in data_weighed v (own_weight i.heap v) w.0 (subst (λ (x : Contents). own_weight x v ≡ Some w.0) (sym e) w.1)

  end_weighed : (i : Interior) (v : Value) → InsideOf kind base i → IsOf kind v → WeighedOf (weighed_end i v)
  unfolding weighed_end
  end_weighed i (held.List k) good a = list_weighed i k _ (subst (λ (x : Contents). Measured (room_after 100 i.refs x (held.List k) 65536)) (sym good.heap) (value_measured 100 i.refs (held.List k) 65536 good.refs a))
  end_weighed i held.Null good a = held_weighed i held.Null good.heap a
  end_weighed i (held.Bool b) good a = held_weighed i (held.Bool b) good.heap a
  end_weighed i (held.Int z) good a = held_weighed i (held.Int z) good.heap a
  end_weighed i (held.Char c) good a = held_weighed i (held.Char c) good.heap a
  end_weighed i (held.Text t) good a = held_weighed i (held.Text t) good.heap a
  end_weighed i (held.Prim n) good a = held_weighed i (held.Prim n) good.heap a
  end_weighed i (held.Obj j) good a = held_weighed i (held.Obj j) good.heap a
  end_weighed i (held.Prom n) good a = held_weighed i (held.Prom n) good.heap a
  end_weighed i (held.Far w p) good a = held_weighed i (held.Far w p) good.heap a
  end_weighed i (held.Broken t) good a = held_weighed i (held.Broken t) good.heap a

  weighed_of : (i : Interior) (v : Value) → InsideOf kind base i → IsOf kind v → WeighedOf (weighed i v)
  unfolding weighed
  weighed_of i v good a = end_weighed i (followed i.refs v) good (followed_of kind base ground i.refs v good.refs a)

  -- ---- packing

  provide_of : (w : ℕ) (x : Reference) (i : Interior) → InsideOf kind base i → EndsOf kind base Anything (provide w x i)
  unfolding provide ◌>>=◌ ◌>>◌
  provide_of w x i good =
      then_of kind base Anything Anything (draw i) _ (draw_of kind base i good)
      (λ k a j next. then_of kind base Anything Anything (send_out w (Open (key i.refs.me k) x) j) _ (send_out_of kind base w (Open (key i.refs.me k) x) j next)
      (λ u b l last. give_of kind base Anything (Gift w (key i.refs.me k)) l tt last))

  introduce_if : (b : Bool) (y : Value) (w : ℕ) (x : Reference) (i : Interior) → InsideOf kind base i → EndsOf kind base Anything ((if b then give (Plain y) else provide w x) i)
  introduce_if true y w x i good = give_of kind base Anything (Plain y) i tt good
  introduce_if false y w x i good = provide_of w x i good

  address_of : (w : ℕ) (y : Value) (p : Place) (i : Interior) → InsideOf kind base i → EndsOf kind base Anything (address_plain w y p i)
  unfolding address_plain introduce ◌>>◌
  address_of w y (FarPromise v n) i good = introduce_if (v == w) y v (reference.Promise n) i good
  address_of w y (FarObject v p) i good = introduce_if (v == w) y v (reference.Far v p) i good
  address_of w y (Mine n) i good = then_of kind base Anything Anything (to_tell w n i) _ (to_tell_of kind base w n i good) (λ u a j next. give_of kind base Anything (Plain y) j tt next)
  address_of w y other i good = give_of kind base Anything (Plain y) i tt good

  packs_of : (P : Value → Type 0) (f : Value → Act Parcel) (vs : List Value) (i : Interior) → Every P vs
      → ((v : Value) → P v → (j : Interior) → InsideOf kind base j → EndsOf kind base Anything (f v j)) → InsideOf kind base i → EndsOf kind base Anything (packs f vs i)
  unfolding packs ◌>>=◌
  packs_of P f [] i a each good = give_of kind base Anything NoMore i tt good
  packs_of P f (v ∷ vs) i a each good =
      then_of kind base Anything Anything (f v i) _ (each v a.0 i good)
      (λ p b j next. then_of kind base Anything Anything (packs f vs j) _ (packs_of P f vs j a.1 each next)
      (λ ps c k last. give_of kind base Anything (More p ps) k tt last))

  pack_at_of : (inside : ℕ → Act Parcel) (w : ℕ) (y : Value) (i : Interior) → ((k : ℕ) (j : Interior) → InsideOf kind base j → EndsOf kind base Anything (inside k j)) → InsideOf kind base i
      → EndsOf kind base Anything (pack_at inside w y i)
  unfolding pack_at
  pack_at_of inside w (held.List k) i each good = each k i good
  pack_at_of inside w held.Null i each good = address_of w held.Null (place_of i.refs held.Null) i good
  pack_at_of inside w (held.Bool b) i each good = address_of w (held.Bool b) (place_of i.refs (held.Bool b)) i good
  pack_at_of inside w (held.Int z) i each good = address_of w (held.Int z) (place_of i.refs (held.Int z)) i good
  pack_at_of inside w (held.Char c) i each good = address_of w (held.Char c) (place_of i.refs (held.Char c)) i good
  pack_at_of inside w (held.Text t) i each good = address_of w (held.Text t) (place_of i.refs (held.Text t)) i good
  pack_at_of inside w (held.Prim n) i each good = address_of w (held.Prim n) (place_of i.refs (held.Prim n)) i good
  pack_at_of inside w (held.Obj k) i each good = address_of w (held.Obj k) (place_of i.refs (held.Obj k)) i good
  pack_at_of inside w (held.Prom n) i each good = address_of w (held.Prom n) (place_of i.refs (held.Prom n)) i good
  pack_at_of inside w (held.Far v p) i each good = address_of w (held.Far v p) (place_of i.refs (held.Far v p)) i good
  pack_at_of inside w (held.Broken t) i each good = address_of w (held.Broken t) (place_of i.refs (held.Broken t)) i good

  pack_list_of : (d w k : ℕ) (i : Interior) → InsideOf kind base i → EndsOf kind base Anything (pack_list d w k i)
  unfolding pack_list ◌>>=◌ wrap
  pack_list_of zero w k i good = give_of kind base Anything (Plain (held.Broken i.too_heavy)) i tt good
  pack_list_of (suc d) w k i good =
      then_of kind base Anything Anything (packs (λ v t. pack_at (λ j. pack_list d w j) w (followed t.refs v) t) (members_at (lists_in i.heap) k) i) _
      (packs_of Anything (λ v t. pack_at (λ j. pack_list d w j) w (followed t.refs v) t) (members_at (lists_in i.heap) k) i (every_one Anything _ (λ v. tt))
      (λ v a t next. pack_at_of (λ j. pack_list d w j) w (followed t.refs v) t (λ j u more. pack_list_of d w j u more) next) good)
      (λ ps b j next. give_of kind base Anything (Many ps) j tt next)

  pass_found : (w : ℕ) (r : Result Weighed Stop) (i : Interior) → WeighedOf r → InsideOf kind base i → EndsOf kind base Anything (pass_by w r i)
  unfolding pass_by pass_weighed pack_end fail ◌>>◌
  pass_found w (Ok x) i a good =
      then_of kind base Anything Anything (spend x.weight i) _ (spend_of kind base x.weight i good)
      (λ u b j next. pack_at_of (λ k. pack_list 100 w k) w x.value j (λ k l more. pack_list_of 100 w k l more) next)
  pass_found w (Err e) i a good = (a, good)

  pub pass_of : (w : ℕ) (v : Value) (i : Interior) → InsideOf kind base i → IsOf kind v → EndsOf kind base Anything (pass w v i)
  unfolding pass
  pass_of w v i good a = pass_found w (weighed i v) i (weighed_of i v good a) good

  -- ---- going out

  pub deliver_of : (m : ℕ) (o : Option ℕ) (verb : Words) (args : List Value) (w : ℕ) (x : Reference) (i : Interior) → InsideOf kind base i → Every (IsOf kind) args
      → EndsOf kind base Anything (deliver m o verb args w x i)
  unfolding deliver ◌>>=◌ ◌>>◌
  deliver_of m o verb args w x i good a =
      then_of kind base Anything Anything (packs (pass w) args i) _ (packs_of (IsOf kind) (pass w) args i a (λ v b j next. pass_of w v j next b) good)
      (λ ps b j next. then_of kind base Anything Anything (tell (posted w m) j) _ (tell_of kind base (posted w m) j next)
      (λ u c k last. send_out_of kind base w (Deliver m o x verb ps) k last))

  plainly_of : (p w : ℕ) (y : Value) (i : Interior) → InsideOf kind base i → IsOf kind y → EndsOf kind base Anything (inform_plainly p w y i)
  unfolding inform_plainly ◌>>=◌
  plainly_of p w y i good a = then_of kind base Anything Anything (pass w y i) _ (pass_of w y i good a) (λ z b j next. send_out_of kind base w (Settled p z) j next)

  inform_at_of : (p w : ℕ) (y : Value) (q : Place) (i : Interior) → InsideOf kind base i → IsOf kind y → EndsOf kind base Anything (inform_at p w y q i)
  unfolding inform_at
  inform_at_of p w y (FarObject v x) i good a = send_out_of kind base w (Elsewhere p v) i good
  inform_at_of p w y other i good a = plainly_of p w y i good a

  inform_if : (b : Bool) (p w : ℕ) (y : Value) (q : Place) (i : Interior) → InsideOf kind base i → IsOf kind y → EndsOf kind base Anything ((if b then give tt else inform_at p w y q) i)
  inform_if true p w y q i good a = give_of kind base Anything tt i tt good
  inform_if false p w y q i good a = inform_at_of p w y q i good a

  pub inform_of : (p w : ℕ) (i : Interior) → InsideOf kind base i → EndsOf kind base Anything (inform p w i)
  unfolding inform
  inform_of p w i good = let y = followed i.refs (held.Prom p) in inform_if (is_in w i.refs.noticed) p w y (place_of i.refs y) i good (followed_of kind base ground i.refs (held.Prom p) good.refs (ground.names p))

pub passes : (kind : Value → Bool) (base : Base) (i : Interior) → GroundOf kind base → InsideOf kind base i → (w : ℕ) (v : Value) → IsOf kind v → EndsOf kind base Anything (pass w v i)
passes kind base i ground good w v a = pass_of kind base ground w v i good a
