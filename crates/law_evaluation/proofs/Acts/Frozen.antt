-- What is frozen in a heap is frozen in the machine.
use Rattle.std.proofs.Common.{◌≡◌, ℕ, Bool, true, false, List, [], Option, Some, None, refl, ap, ◌∙◌, ◌&&◌, nat_le}
use Rattle.std.specs.Prelude.{slice_get, option_map, unwrap_or}
use Rattle.ev_base.specs.declared.values.Value.{Value as Held}
use Rattle.ev_base.specs.declared.values.Value.TheVariants as held
use Rattle.ev_heap.specs.Contents.{height_of, is_plain}
use Rattle.ev_heap.specs.declared.kept.Shape.{Shape}
use Rattle.ev_heap.specs.declared.kept.Shape.TheVariants as shape
use Rattle.ev_heap.specs.declared.kept.Thing.{Thing as HeldThing}
use Rattle.def_kernel.specs.declared.node.Node.{Node}
use Rattle.def_machine.specs.Perform as perform
use Rattle.def_machine.specs.Refs.{highest}
use Rattle.def_machine.specs.Scopes as scopes
use Rattle.def_machine.specs.Values.{Value, Local, Prim, Ref, Obj, Prom, Far, numbering, local_spot}
use Rattle.ev_audit.specs.Frozen.{is_frozen, stamps_at}
use Rattle.ev_audit.specs.Stamps.{bears, stamps_in}
use Rattle.ev_audit.proofs.Stamping.{bears_is}
use Rattle.ev_intro.specs.Word.{word}
use Rattle.ev_room.specs.Reading.{World, names, text_of, value_of, values_of, thing_of}
use Rattle.ev_room.specs.Acts.{is_stamped}
use Rattle.ev_room.specs.Sound.{Each, IsListed, is_there}
use Rattle.ev_pass.specs.declared.interior.Interior.{Interior as Room}
use Rattle.law_evaluation.proofs.Acts.Making.{things_at}
use Rattle.law_evaluation.proofs.Acts.Plain.{plain_within}
use Rattle.law_evaluation.proofs.Acts.Stands.{vat, lists_of}

module _ (w : World) (tree : List Node) (s : Room) (sound : Each (IsListed s.heap) s.heap.lists) where
  shape_stamps : (live : Bool) (sh : Shape) → scopes.stamps_of (Some (thing_of w (record { shape = sh; alive = live }))) ≡ values_of w (stamps_in sh)
  unfolding scopes.stamps_of
  shape_stamps live (shape.Made node caught stamps) = refl
  shape_stamps live other = refl

  stamps_are : (o : Option HeldThing) → scopes.stamps_of (option_map (thing_of w) o) ≡ values_of w (unwrap_or (option_map (λ t. stamps_in t.shape) o) [])
  unfolding scopes.stamps_of
  stamps_are None = refl
  stamps_are (Some t) = shape_stamps t.alive t.shape

  object_stamped : (a : Held) (i : ℕ) → perform.is_stamped (names w) tree (vat w s) (value_of w a) (Ref (Obj i)) ≡ bears a (stamps_at s.heap i)
  unfolding perform.is_stamped perform.stamps_at numbering local_spot
  object_stamped a i =
      ap (λ (ss : List (Value Local)). perform.has_stamp (names w) tree (value_of w a) ss) (ap scopes.stamps_of (things_at w s i) ∙ stamps_are (slice_get s.heap.things i))
      ∙ bears_is (word w.key) tree (text_of w) a (stamps_at s.heap i)

  -- whether a followed value bears the stamp of a followed auditor
  pub stamped_is : (a x : Held) → perform.is_stamped (names w) tree (vat w s) (value_of w a) (value_of w x) ≡ is_stamped s.heap a x
  unfolding is_stamped
  stamped_is a (held.Obj i) = object_stamped a i
  stamped_is a (held.Prom k) = unfold perform.is_stamped perform.stamps_at perform.has_stamp numbering local_spot in refl
  stamped_is a (held.Far v p) = unfold perform.is_stamped perform.stamps_at perform.has_stamp numbering local_spot in refl
  stamped_is a other = unfold perform.is_stamped in refl

  object_frozen : (i : ℕ) → perform.is_frozen (names w) tree (vat w s) (Ref (Obj i)) ≡ is_frozen s.heap (held.Obj i)
  unfolding perform.is_frozen
  object_frozen i = object_stamped (held.Prim 17) i

  data_frozen : (v : Held) → is_there s.heap v ≡ true → scopes.is_plain highest (vat w s).lists (value_of w v) ≡ (is_plain s.heap v && nat_le (height_of s.heap v) 100)
  unfolding highest
  data_frozen v t = ap (λ (ls : List (List (Value Local))). scopes.is_plain 100 ls (value_of w v)) (lists_of w s) ∙ plain_within w s.heap sound 100 v t

  promise_frozen : (k : ℕ) → perform.is_frozen (names w) tree (vat w s) (Ref (Prom k)) ≡ false
  unfolding perform.is_frozen perform.is_stamped perform.stamps_at perform.has_stamp numbering local_spot
  promise_frozen k = refl

  far_frozen : (v p : ℕ) → perform.is_frozen (names w) tree (vat w s) (Ref (Far v p)) ≡ false
  unfolding perform.is_frozen perform.is_stamped perform.stamps_at perform.has_stamp numbering local_spot
  far_frozen v p = refl

  -- data, a primitive, or an object with DeepFrozen's stamp
  pub frozen_is : (v : Held) → is_there s.heap v ≡ true → perform.is_frozen (names w) tree (vat w s) (value_of w v) ≡ is_frozen s.heap v
  unfolding perform.is_frozen
  frozen_is (held.Obj i) t = object_frozen i
  frozen_is held.Null t = data_frozen held.Null t
  frozen_is (held.Bool b) t = data_frozen (held.Bool b) t
  frozen_is (held.Int z) t = data_frozen (held.Int z) t
  frozen_is (held.Char c) t = data_frozen (held.Char c) t
  frozen_is (held.Text i) t = data_frozen (held.Text i) t
  frozen_is (held.Broken i) t = data_frozen (held.Broken i) t
  frozen_is (held.Prim n) t = data_frozen (held.Prim n) t
  frozen_is (held.List k) t = data_frozen (held.List k) t
  frozen_is (held.Prom k) t = promise_frozen k
  frozen_is (held.Far v p) t = far_frozen v p
