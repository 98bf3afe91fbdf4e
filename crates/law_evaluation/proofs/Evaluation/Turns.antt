-- What a turn runs over the state of the code is what the machine's turn runs.
use Rattle.std.proofs.Common.{◌≡◌, ℕ, Bool, true, List, Option, Some, None, map, refl, sym, subst}
use Rattle.std.specs.Prelude.{slice_get, option_map, reverse}
use Rattle.ev_base.specs.declared.values.Value.{Value as Held}
use Rattle.ev_base.specs.declared.values.Value.TheVariants as held
use Rattle.ev_heap.specs.declared.kept.AuditView.{AuditView}
use Rattle.ev_heap.specs.declared.kept.Caught.{Caught}
use Rattle.ev_heap.specs.declared.kept.Shape.{Shape}
use Rattle.ev_heap.specs.declared.kept.Shape.TheVariants as shape
use Rattle.ev_heap.specs.declared.kept.Thing.{Thing as HeldThing}
use Rattle.def_kernel.specs.declared.node.Node.{Node}
use Rattle.def_machine.specs.Values.{Words, Ref, Local, Obj, local_spot, numbering}
use Rattle.def_machine.specs.State.{Made, Vat, opened_state}
use Rattle.def_machine.specs.Scopes as scopes
use Rattle.def_machine.specs.Calls as calls
use Rattle.ev_pass.specs.declared.interior.Interior.{Interior as Room}
use Rattle.ev_room.specs.declared.object.Object.{Object}
use Rattle.ev_room.specs.declared.scope.Binding.{Binding}
use Rattle.ev_room.specs.Reading.{World, names, value_of, values_of, shape_in, thing_of}
use Rattle.ev_room.specs.Sound.{IsSound, IsPlainShape, IsPlainThing, caught_of, is_there, are_there, are_bound}
use Rattle.ev_room.specs.Acts.{Out, and_then, ◌>>=◌, fail, code_in, code_of, look_code, ejected}
use Rattle.ev_steps.specs.Steps.{Evaluator, again_by, run_object, turn_code, turn_object, turn_value}
use Rattle.law_evaluation.proofs.Acts.Leaving.{answer_met, asked_is, asked_there}
use Rattle.law_evaluation.proofs.Acts.Making.{things_at, thing_is, code_is}
use Rattle.law_evaluation.proofs.Acts.Stands.{Met, vat, a_value, bond_of, stop_met, throw_met}
use Rattle.law_evaluation.proofs.Acts.Promises.{resolver_met}
use Rattle.law_evaluation.proofs.Evaluation.Auditing.{audition_met}
use Rattle.law_evaluation.proofs.Evaluation.Calls.{answered_met}
use Rattle.law_evaluation.proofs.Evaluation.IsMet.{IsMet}
use Rattle.law_evaluation.proofs.Evaluation.Meets.{again_met}
use Rattle.law_evaluation.proofs.Evaluation.Objects.{object_run_met}
use Rattle.law_evaluation.proofs.Evaluation.Primitives.{primitive_met}

-- the code of what stands there, and then its turn
after_code : List Node → Evaluator → ℕ → ℕ → Words → List Held → Option HeldThing → Room → Out Held
after_code tree rec act i verb args o s = and_then (code_in o, s) (turn_code tree rec act i verb args)

module _ (w : World) (tree : List Node) (rec : Evaluator) (their : scopes.Evaluator Local) (h : IsMet w rec their) (act : ℕ) (verb : Words) (args : List Held) where
  -- ---- objects

  -- what a turn at something of that shape does
  abbrev ShapeMet : ℕ → Room → Bool → Shape → Type 0
  ShapeMet i s live sh = Met w a_value s (after_code tree rec act i verb args (Some (record { shape = sh; alive = live })) s) (calls.turn_thing (names w) tree their act i (Some (shape_in w live sh)) verb (values_of w args) (vat w s))

  made_turn_met : (i : ℕ) (o : Object) (stamps : List Held) (s : Room) → IsSound s → are_there s.heap args ≡ true → are_bound s.heap o.nouns ≡ true
      → Met w a_value s (run_object tree rec o.node verb args (record { act = act; nouns = reverse o.nouns }) s) (calls.turn_thing (names w) tree their act i (Some (Made o.node (map (bond_of w) o.nouns) (values_of w stamps))) verb (values_of w args) (vat w s))
  unfolding calls.turn_thing
  made_turn_met i o stamps s sound a k = object_run_met w tree rec their h act verb args o s sound a k

  made_met : (i node : ℕ) (bs : List Binding) (stamps : List Held) (live : Bool) (s : Room) → IsSound s → are_there s.heap args ≡ true → are_bound s.heap bs ≡ true → ShapeMet i s live (shape.Made node (map caught_of bs) stamps)
  unfolding after_code and_then code_in turn_code
  made_met i node bs stamps live s sound a k = rw (code_is node bs stamps live, thing_is w node bs stamps live) (made_turn_met i (record { node = node; nouns = bs }) stamps s sound a k)

  ejector_met : (i : ℕ) (live : Bool) (s : Room) → IsSound s → are_there s.heap args ≡ true → ShapeMet i s live shape.Ejector
  unfolding after_code and_then code_in code_of turn_code calls.turn_thing calls.thing_answer
  ejector_met i live s sound a = rw (asked_is w verb args) (answer_met w tree i live (ejected verb args) s sound (asked_there s verb args a))

  resolver_turn_met : (i p : ℕ) (live : Bool) (s : Room) → IsSound s → are_there s.heap args ≡ true → ShapeMet i s live (shape.Resolver p)
  unfolding after_code and_then code_in code_of turn_code calls.turn_thing calls.thing_answer
  resolver_turn_met i p live s sound a = resolver_met w tree s sound p verb args a

  audition_turn_met : (i : ℕ) (view : AuditView) (live : Bool) (s : Room) → IsSound s → are_there s.heap args ≡ true → ShapeMet i s live (shape.Audition view)
  unfolding after_code and_then code_in code_of turn_code calls.turn_thing calls.thing_answer
  audition_turn_met i view live s sound a = audition_met w tree (again_by tree rec None) (calls.call (names w) tree their) (again_met w tree rec their h) act live view verb args s sound a

  shape_met : (i : ℕ) (sh : Shape) (live : Bool) (s : Room) → IsSound s → are_there s.heap args ≡ true → IsPlainShape s.heap sh → ShapeMet i s live sh
  shape_met i (shape.Made node caught stamps) live s sound a p =
      subst (λ (cs : List Caught). ShapeMet i s live (shape.Made node cs stamps)) (sym p.1.0)
      (made_met i node p.0 stamps live s sound a p.1.1.1)
  shape_met i shape.Ejector live s sound a p = ejector_met i live s sound a
  shape_met i (shape.Resolver k) live s sound a p = resolver_turn_met i k live s sound a
  shape_met i (shape.Audition view) live s sound a p = audition_turn_met i view live s sound a

  none_met : (i : ℕ) (s : Room) → IsSound s → Met w a_value s (after_code tree rec act i verb args None s) (calls.turn_thing (names w) tree their act i None verb (values_of w args) (vat w s))
  unfolding after_code and_then code_in calls.turn_thing fail
  none_met i s sound = stop_met w a_value s

  thing_met : (i : ℕ) (o : Option HeldThing) (s : Room) → IsSound s → are_there s.heap args ≡ true → ((t : HeldThing) → o ≡ Some t → IsPlainThing s.heap t)
      → Met w a_value s (after_code tree rec act i verb args o s) (calls.turn_thing (names w) tree their act i (option_map (thing_of w) o) verb (values_of w args) (vat w s))
  thing_met i None s sound a f = none_met i s sound
  thing_met i (Some t) s sound a f = shape_met i t.shape t.alive s sound a (f t refl)

  spot_is : (i : ℕ) (v : Vat Local) → calls.turn_value (names w) tree their act (Ref (Obj i)) verb (values_of w args) v ≡ calls.turn_thing (names w) tree their act i (slice_get v.things i) verb (values_of w args) v
  unfolding calls.turn_value calls.turn_spot numbering local_spot opened_state
  spot_is i v = refl

  turn_object_is : (i : ℕ) (s : Room) → turn_object tree rec act i verb args s ≡ after_code tree rec act i verb args (slice_get s.heap.things i) s
  unfolding turn_object look_code after_code ◌>>=◌
  turn_object_is i s = refl

  turn_object_met : (i : ℕ) (s : Room) → IsSound s → are_there s.heap args ≡ true
      → Met w a_value s (turn_object tree rec act i verb args s) (calls.turn_value (names w) tree their act (Ref (Obj i)) verb (values_of w args) (vat w s))
  turn_object_met i s sound a = rw (turn_object_is i s, spot_is i (vat w s), things_at w s i) (thing_met i (slice_get s.heap.things i) s sound a (sound.things i))

  -- ---- values

  -- a message on a value
  pub turn_value_met : (x : Held) (s : Room) → IsSound s → is_there s.heap x ≡ true → are_there s.heap args ≡ true
      → Met w a_value s (turn_value tree rec act x verb args s) (calls.turn_value (names w) tree their act (value_of w x) verb (values_of w args) (vat w s))
  unfolding turn_value calls.turn_value
  turn_value_met (held.Obj i) s sound j a = turn_object_met i s sound a
  turn_value_met (held.Broken id) s sound j a = throw_met w a_value id s sound j
  turn_value_met (held.Prim n) s sound j a = primitive_met w tree (again_by tree rec None) (calls.call (names w) tree their) (again_met w tree rec their h) act n verb args s sound a
  turn_value_met held.Null s sound j a = answered_met w tree (again_by tree rec None) (calls.call (names w) tree their) (again_met w tree rec their h) act held.Null verb args s sound j a
  turn_value_met (held.Bool b) s sound j a = answered_met w tree (again_by tree rec None) (calls.call (names w) tree their) (again_met w tree rec their h) act (held.Bool b) verb args s sound j a
  turn_value_met (held.Int z) s sound j a = answered_met w tree (again_by tree rec None) (calls.call (names w) tree their) (again_met w tree rec their h) act (held.Int z) verb args s sound j a
  turn_value_met (held.Char c) s sound j a = answered_met w tree (again_by tree rec None) (calls.call (names w) tree their) (again_met w tree rec their h) act (held.Char c) verb args s sound j a
  turn_value_met (held.Text id) s sound j a = answered_met w tree (again_by tree rec None) (calls.call (names w) tree their) (again_met w tree rec their h) act (held.Text id) verb args s sound j a
  turn_value_met (held.List k) s sound j a = answered_met w tree (again_by tree rec None) (calls.call (names w) tree their) (again_met w tree rec their h) act (held.List k) verb args s sound j a
  turn_value_met other s sound j a = unfold calls.turn_spot numbering local_spot in stop_met w a_value s
