-- What native guards take of a value, as it is held and as it is followed, is what the machine's take.
use Rattle.std.proofs.Common.{◌≡◌, ℕ, Bool, true, false, List, Some, None, ◌++◌, refl, ap, ◌∙◌}
use Rattle.std.specs.Prelude.{◌==◌, codes, if◌then◌else◌, option_map}
use Rattle.ev_audit.specs.Frozen.{is_near}
use Rattle.ev_base.specs.declared.values.Value.{Value as Held}
use Rattle.ev_base.specs.declared.values.Value.TheVariants as held
use Rattle.ev_prims.specs.Primitives.{guard_in, kind_in}
use Rattle.ev_prims.specs.declared.primitives.Guard.{Guard}
use Rattle.ev_prims.specs.declared.primitives.Kind.{Kind}
use Rattle.ev_prims.specs.declared.primitives.Kind.TheVariants as kind
use Rattle.def_kernel.specs.declared.node.Node.{Node}
use Rattle.def_machine.specs.Native.{OrNull, guard_name}
use Rattle.def_machine.specs.Perform as perform
use Rattle.def_machine.specs.Refs as refs
use Rattle.def_machine.specs.Scopes as scopes
use Rattle.ev_room.specs.Takings.{is_null, is_kind, kind_takes, takes, refusal_id}
use Rattle.ev_refs.specs.Follow.{host_of, hosted, place_of}
use Rattle.ev_refs.specs.Reading.{place_by}
use Rattle.ev_refs.specs.declared.follow.Place.TheVariants.{Mine, FarPromise}
use Rattle.ev_room.specs.Reading.{World, names, text_of, texts_of, value_of}
use Rattle.ev_room.specs.Sound.{Each, IsListed, is_there}
use Rattle.ev_pass.specs.declared.interior.Interior.{Interior as Room}
use Rattle.law_evaluation.proofs.Acts.Frozen.{frozen_is}
use Rattle.law_evaluation.proofs.Acts.Stands.{vat, place_is}

-- ---- what is thrown

plain_text : (w : World) (k : Kind) → text_of w (refusal_id (record { kind = k; or_null = false })) ≡ codes "not " ++ guard_name (kind_in k)
unfolding guard_name
plain_text w kind.Any = refl
plain_text w other = refl

null_text : (w : World) (k : Kind) → text_of w (refusal_id (record { kind = k; or_null = true })) ≡ codes "not " ++ guard_name (OrNull (kind_in k))
unfolding guard_name
null_text w kind.Any = refl
null_text w other = refl

refusal_by : (w : World) (k : Kind) (b : Bool) → text_of w (refusal_id (record { kind = k; or_null = b })) ≡ codes "not " ++ guard_name (guard_in (record { kind = k; or_null = b }))
refusal_by w k true = null_text w k
refusal_by w k false = plain_text w k

pub refusal_text : (w : World) (g : Guard) → text_of w (refusal_id g) ≡ codes "not " ++ guard_name (guard_in g)
refusal_text w g = refusal_by w g.kind g.or_null

-- ---- what is taken

where_is : (w : World) (a b : Bool) (v : Held) → a ≡ b → option_map (value_of w) (if b then Some v else None) ≡ scopes.where_true a (value_of w v)
unfolding scopes.where_true
where_is w true true v e = refl
where_is w false false v e = refl
where_is w true false v e = absurd (cc)
where_is w false true v e = absurd (cc)

module _ (w : World) (tree : List Node) (s : Room) (sound : Each (IsListed s.heap) s.heap.lists) (x y : Held) (t : is_there s.heap y ≡ true) where
  mine_or_far : (b : Bool) (n h : ℕ) → scopes.is_near (place_by (texts_of w) (if b then Mine n else FarPromise h n)) ≡ false
  unfolding scopes.is_near
  mine_or_far true n h = refl
  mine_or_far false n h = refl

  near_placed : (v : Held) → scopes.is_near (place_by (texts_of w) (place_of s.refs v)) ≡ is_near v
  unfolding place_of hosted scopes.is_near
  near_placed (held.Prom n) = mine_or_far (s.refs.me == host_of s.refs n) n (host_of s.refs n)
  near_placed (held.Far h p) = refl
  near_placed (held.Broken id) = refl
  near_placed _ = refl

  near_is : (v : Held) → scopes.is_near (refs.place (names w) (vat w s) (value_of w v)) ≡ is_near v
  near_is v = ap scopes.is_near (place_is w s v) ∙ near_placed v

  int_is : (v : Held) → scopes.is_int (value_of w v) ≡ is_kind s.heap kind.Int v
  unfolding scopes.is_int
  int_is (held.Int z) = refl
  int_is _ = refl

  boolean_is : (v : Held) → scopes.is_boolean (value_of w v) ≡ is_kind s.heap kind.Boolean v
  unfolding scopes.is_boolean
  boolean_is (held.Bool b) = refl
  boolean_is _ = refl

  char_is : (v : Held) → scopes.is_char (value_of w v) ≡ is_kind s.heap kind.Char v
  unfolding scopes.is_char
  char_is (held.Char c) = refl
  char_is _ = refl

  text_is : (v : Held) → scopes.is_text (value_of w v) ≡ is_kind s.heap kind.Text v
  unfolding scopes.is_text
  text_is (held.Text id) = refl
  text_is _ = refl

  list_is : (v : Held) → scopes.is_list (value_of w v) ≡ is_kind s.heap kind.List v
  unfolding scopes.is_list
  list_is (held.List k) = refl
  list_is _ = refl

  null_is : (v : Held) → scopes.is_null (value_of w v) ≡ is_null v
  unfolding scopes.is_null
  null_is held.Null = refl
  null_is _ = refl

  kind_is : (k : Kind) → option_map (value_of w) (kind_takes s.heap k x y) ≡ perform.taken (names w) tree (vat w s) (kind_in k) (value_of w x) (value_of w y)
  unfolding perform.taken
  kind_is kind.Int = where_is w _ _ y (int_is y)
  kind_is kind.Boolean = where_is w _ _ y (boolean_is y)
  kind_is kind.Char = where_is w _ _ y (char_is y)
  kind_is kind.Text = where_is w _ _ y (text_is y)
  kind_is kind.List = where_is w _ _ y (list_is y)
  kind_is kind.Null = where_is w _ _ y (null_is y)
  kind_is kind.Near = where_is w _ _ y (near_is y)
  kind_is kind.Frozen = where_is w _ _ y (frozen_is w tree s sound y t)
  kind_is other = refl

  null_or_is : (k : Kind) (a b : Bool) → a ≡ b
      → option_map (value_of w) (if b then Some held.Null else kind_takes s.heap k x y)
      ≡ elim a [ true ↦ Some (value_of w held.Null) | false ↦ perform.taken (names w) tree (vat w s) (kind_in k) (value_of w x) (value_of w y) ]
  null_or_is k true true e = refl
  null_or_is k false false e = kind_is k
  null_or_is k true false e = absurd (cc)
  null_or_is k false true e = absurd (cc)

  or_null_is : (k : Kind) → option_map (value_of w) (if is_null y then Some held.Null else kind_takes s.heap k x y)
      ≡ perform.taken (names w) tree (vat w s) (OrNull (kind_in k)) (value_of w x) (value_of w y)
  unfolding perform.taken
  or_null_is k = null_or_is k (scopes.is_null (value_of w y)) (is_null y) (null_is y)

  taken_by : (k : Kind) (b : Bool) → option_map (value_of w) (takes s.heap (record { kind = k; or_null = b }) x y)
      ≡ perform.taken (names w) tree (vat w s) (guard_in (record { kind = k; or_null = b })) (value_of w x) (value_of w y)
  taken_by k true = or_null_is k
  taken_by k false = kind_is k

  pub taken_is : (g : Guard) → option_map (value_of w) (takes s.heap g x y) ≡ perform.taken (names w) tree (vat w s) (guard_in g) (value_of w x) (value_of w y)
  taken_is g = taken_by g.kind g.or_null
