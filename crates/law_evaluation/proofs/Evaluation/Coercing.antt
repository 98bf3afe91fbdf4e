-- Failings, and what guards make of values, are the machine's.
use Rattle.std.proofs.Common.{◌≡◌, ℕ, nat_lt, Bool, true, false, List, [], ◌∷◌, ◌++◌, Option, Some, None, length, refl, subst}
use Rattle.std.specs.Prelude.{codes, if◌then◌else◌, option_map}
use Rattle.ev_base.specs.declared.values.Value.{Value as Held}
use Rattle.ev_base.specs.declared.values.Value.TheVariants as held
use Rattle.ev_heap.specs.Contents.{Contents}
use Rattle.ev_heap.specs.declared.kept.GuardKind.{GuardKind}
use Rattle.ev_heap.specs.declared.kept.GuardKind.TheVariants.{Native, User}
use Rattle.ev_audit.specs.Views.{guard_of}
use Rattle.def_kernel.specs.declared.node.Node.{Node}
use Rattle.def_machine.specs.Values.{Words, Value, Null, Prim, Ref, Local, Obj, numbering, local_spot}
use Rattle.def_machine.specs.State.{Vat, for_some, opened_state}
use Rattle.def_machine.specs.State as machine
use Rattle.def_machine.specs.Refs.{follow}
use Rattle.def_machine.specs.Refs as refs
use Rattle.def_machine.specs.Native as native
use Rattle.def_machine.specs.Scopes as scopes
use Rattle.def_machine.specs.Perform as perform
use Rattle.ev_prims.specs.Asks.{primitive_at}
use Rattle.ev_prims.specs.Primitives.{guard_in, primitive_in}
use Rattle.ev_prims.specs.declared.primitives.Guard.{Guard}
use Rattle.ev_prims.specs.declared.primitives.Kind.{Kind}
use Rattle.ev_prims.specs.declared.primitives.Kind.TheVariants as kind
use Rattle.ev_prims.specs.declared.primitives.Primitive.{Primitive}
use Rattle.ev_prims.specs.declared.primitives.Primitive.TheVariants.{Guarding}
use Rattle.ev_room.specs.Acts.{◌>>◌}
use Rattle.ev_room.specs.Coercion.{coerced_by, guard_coerced, native_coerced, taken_as, there_as}
use Rattle.ev_room.specs.Reading.{World, names, text_of, value_of}
use Rattle.ev_room.specs.Sound.{IsSound, is_there, are_there, not_a_guard_id}
use Rattle.ev_room.specs.Takings.{is_kind, is_null, kind_takes, takes, refusal_id}
use Rattle.ev_pass.specs.declared.interior.Interior.{Interior as Room}
use Rattle.law_evaluation.proofs.Acts.Coercing.{primitive_is}
use Rattle.law_evaluation.proofs.Acts.Sounds.{there_on, all_and}
use Rattle.law_evaluation.proofs.Acts.Following.{followed_there}
use Rattle.law_evaluation.proofs.Acts.Stands.{Look, Met, vat, a_value, known_there, follow_is, then_met, give_met, throw_met}
use Rattle.law_evaluation.proofs.Acts.Takings.{taken_is, refusal_text}
use Rattle.ev_refs.specs.Follow.{followed}
use Rattle.ev_steps.specs.Steps.{Caller, failed_by, failed, handed, coerced_as, coerce}
use Rattle.law_evaluation.proofs.Evaluation.Calls.{CallsMet}

-- ---- what is taken stands there

where_there : (h : Contents) (b : Bool) (v u : Held) → (if b then Some v else None) ≡ Some u → is_there h v ≡ true → is_there h u ≡ true
where_there h true v u e i = let is : v ≡ u = cc in subst (λ (x : Held). is_there h x ≡ true) is i
where_there h false v u e i = absurd (cc)

-- of a value as it is held and as it is followed
module _ (h : Contents) (x y u : Held) (held' : is_there h x ≡ true) (there : is_there h y ≡ true) where
  kind_there : (k : Kind) → kind_takes h k x y ≡ Some u → is_there h u ≡ true
  kind_there kind.Any e = let is : x ≡ u = cc in subst (λ (z : Held). is_there h z ≡ true) is held'
  kind_there kind.Void e = let is : held.Null ≡ u = cc in subst (λ (z : Held). is_there h z ≡ true) is refl
  kind_there kind.Int e = where_there h (is_kind h kind.Int y) y u e there
  kind_there kind.Boolean e = where_there h (is_kind h kind.Boolean y) y u e there
  kind_there kind.Char e = where_there h (is_kind h kind.Char y) y u e there
  kind_there kind.Text e = where_there h (is_kind h kind.Text y) y u e there
  kind_there kind.List e = where_there h (is_kind h kind.List y) y u e there
  kind_there kind.Null e = where_there h (is_kind h kind.Null y) y u e there
  kind_there kind.Near e = where_there h (is_kind h kind.Near y) y u e there
  kind_there kind.Frozen e = where_there h (is_kind h kind.Frozen y) y u e there

  null_there : (k : Kind) (b : Bool) → (if b then Some held.Null else kind_takes h k x y) ≡ Some u → is_there h u ≡ true
  null_there k true e = let is : held.Null ≡ u = cc in subst (λ (z : Held). is_there h z ≡ true) is refl
  null_there k false e = kind_there k e

  taken_by_there : (k : Kind) (b : Bool) → takes h (record { kind = k; or_null = b }) x y ≡ Some u → is_there h u ≡ true
  taken_by_there k true e = null_there k (is_null y) e
  taken_by_there k false e = kind_there k e

  taken_there : (g : Guard) → takes h g x y ≡ Some u → is_there h u ≡ true
  taken_there g e = taken_by_there g.kind g.or_null e

-- ---- the problem of a refusal is among the first texts

small_by : (k : Kind) (b : Bool) → nat_lt (refusal_id (record { kind = k; or_null = b })) 47 ≡ true
small_by kind.Any true = refl
small_by kind.Any false = refl
small_by other true = refl
small_by other false = refl

refusal_small : (g : Guard) → nat_lt (refusal_id g) 47 ≡ true
refusal_small g = small_by g.kind g.or_null

-- ---- null

null_is : (w : World) (x : Held) → scopes.is_null (value_of w x) ≡ is_null x
unfolding scopes.is_null
null_is w held.Null = refl
null_is w other = refl

-- two values that stand there
pub pair_there : (x y : Held) (s : Room) → is_there s.heap x ≡ true → is_there s.heap y ≡ true → are_there s.heap (x ∷ y ∷ []) ≡ true
pair_there x y s i j = all_and (is_there s.heap x) (are_there s.heap (y ∷ [])) i (all_and (is_there s.heap y) true j refl)

module _ (w : World) (tree : List Node) (again : Caller) (their : scopes.Caller Local) (h : CallsMet w again their) where
  -- ---- failings

  tests_null : {B : Type 0} (act : ℕ) (j : Value Local) (p : Words) (v : Vat Local)
      → perform.failed (names w) tree {A = B} their act j p v ≡ perform.fail_by (names w) tree {A = B} their act j p (scopes.is_null (follow (names w) v j)) v
  unfolding perform.failed opened_state
  tests_null act j p v = refl

  fail_by_met : {A B : Type 0} (look : Look A B) (act : ℕ) (j : Held) (id : ℕ) (b : Bool) (s : Room) → IsSound s → is_there s.heap j ≡ true → nat_lt id (length s.heap.texts) ≡ true
      → Met w look s (failed_by {A = A} again act j id b s) (perform.fail_by (names w) tree {A = B} their act (value_of w j) (text_of w id) b (vat w s))
  unfolding failed_by perform.fail_by ◌>>◌ machine.◌>>◌
  fail_by_met look act j id true s sound i k = throw_met w look id s sound k
  fail_by_met look act j id false s sound i k =
      then_met _ _ (h act j (codes "run") (held.Text id ∷ []) s sound i (all_and (is_there s.heap (held.Text id)) true k refl))
      (λ u t q m g. throw_met w look id t q (there_on g (held.Text id) k))

  pub failed_met : {A B : Type 0} (look : Look A B) (act : ℕ) (j : Held) (id : ℕ) (s : Room) → IsSound s → is_there s.heap j ≡ true → nat_lt id (length s.heap.texts) ≡ true
      → Met w look s (failed {A = A} again act j id s) (perform.failed (names w) tree {A = B} their act (value_of w j) (text_of w id) (vat w s))
  unfolding failed
  failed_met {B = B} look act j id s sound i k =
      rw (
        tests_null {B = B} act (value_of w j) (text_of w id) (vat w s),
        follow_is w s sound j,
        null_is w (followed s.refs j),
      ) (fail_by_met look act j id (is_null (followed s.refs j)) s sound i k)

  -- ---- the ejector as it is handed on

  handed_is : (j : Value Local) (v : Vat Local) → perform.handed (names w) tree j v ≡ (if scopes.is_null (follow (names w) v j) then machine.give Null else machine.give j) v
  unfolding perform.handed opened_state
  handed_is j v = refl

  handed_if : (j : Held) (b : Bool) (v : Vat Local) → (if b then machine.give Null else machine.give (value_of w j)) v ≡ machine.give (value_of w (if b then held.Null else j)) v
  handed_if j true v = refl
  handed_if j false v = refl

  pub handed_gives : (j : Held) (s : Room) → IsSound s → perform.handed (names w) tree (value_of w j) (vat w s) ≡ machine.give (value_of w (handed s j)) (vat w s)
  unfolding handed
  handed_gives j s sound =
      rw (
        handed_is (value_of w j) (vat w s),
        follow_is w s sound j,
        null_is w (followed s.refs j),
      ) (handed_if j (is_null (followed s.refs j)) (vat w s))

  one_there : (j : Held) (b : Bool) (s : Room) → is_there s.heap j ≡ true → is_there s.heap (if b then held.Null else j) ≡ true
  one_there j true s i = refl
  one_there j false s i = i

  pub handed_there : (j : Held) (s : Room) → is_there s.heap j ≡ true → is_there s.heap (handed s j) ≡ true
  unfolding handed
  handed_there j s i = one_there j (is_null (followed s.refs j)) s i

  -- ---- native guards

  native_coerce_is : (act : ℕ) (g : native.Guard) (j x : Value Local) (v : Vat Local)
      → perform.native_coerce (names w) tree their act g j x v
      ≡ for_some (perform.taken (names w) tree v g x (follow (names w) v x)) machine.give (perform.failed (names w) tree their act j (codes "not " ++ native.guard_name g)) v
  unfolding perform.native_coerce machine.◌>>=◌ machine.look machine.and_then
  native_coerce_is act g j x v = refl

  refused_met : (act : ℕ) (g : Guard) (j : Held) (s : Room) → IsSound s → is_there s.heap j ≡ true
      → Met w a_value s (failed again act j (refusal_id g) s) (perform.failed (names w) tree their act (value_of w j) (codes "not " ++ native.guard_name (guard_in g)) (vat w s))
  refused_met act g j s sound i =
      subst (λ (t : Words). Met w a_value s (failed again act j (refusal_id g) s) (perform.failed (names w) tree their act (value_of w j) t (vat w s))) (refusal_text w g)
      (failed_met a_value act j (refusal_id g) s sound i (known_there s sound (refusal_id g) (refusal_small g)))

  taken_met : (act : ℕ) (g : Guard) (x y j : Held) (o : Option Held) (s : Room) → IsSound s → is_there s.heap x ≡ true → is_there s.heap y ≡ true → is_there s.heap j ≡ true → takes s.heap g x y ≡ o
      → Met w a_value s (coerced_as again act j (taken_as (refusal_id g) o) s)
      (for_some (option_map (value_of w) o) machine.give (perform.failed (names w) tree their act (value_of w j) (codes "not " ++ native.guard_name (guard_in g))) (vat w s))
  unfolding coerced_as for_some
  taken_met act g x y j (Some u) s sound i k l e = give_met w a_value u s sound (taken_there s.heap x y u i k g e)
  taken_met act g x y j None s sound i k l e = refused_met act g j s sound l

  there_met : (act : ℕ) (g : Guard) (v j : Held) (b : Bool) (s : Room) → IsSound s → is_there s.heap v ≡ true → is_there s.heap j ≡ true → b ≡ true
      → Met w a_value s (coerced_as again act j (there_as s.heap g v (followed s.refs v) b) s) (perform.native_coerce (names w) tree their act (guard_in g) (value_of w j) (value_of w v) (vat w s))
  there_met act g v j true s sound i l e =
      let k = followed_there s sound v i in
      rw (native_coerce_is act (guard_in g) (value_of w j) (value_of w v) (vat w s), follow_is w s sound v, ← taken_is w tree s sound.lists v (followed s.refs v) k g)
      (taken_met act g v (followed s.refs v) j (takes s.heap g v (followed s.refs v)) s sound i k l refl)
  there_met act g v j false s sound i l e = absurd (cc)

  pub guard_coerced_met : (act : ℕ) (g : Guard) (v j : Held) (s : Room) → IsSound s → is_there s.heap v ≡ true → is_there s.heap j ≡ true
      → Met w a_value s (coerced_as again act j (guard_coerced s.heap g v (followed s.refs v)) s) (perform.native_coerce (names w) tree their act (guard_in g) (value_of w j) (value_of w v) (vat w s))
  unfolding guard_coerced
  guard_coerced_met act g v j s sound i l = there_met act g v j (is_there s.heap (followed s.refs v)) s sound i l (followed_there s sound v i)

  primitive_met : (act : ℕ) (p : Primitive) (v j : Held) (s : Room) → IsSound s → is_there s.heap v ≡ true → is_there s.heap j ≡ true
      → Met w a_value s (coerced_as again act j (coerced_by s.heap p v (followed s.refs v)) s) (perform.coerce_native (names w) tree their act (native.native_guard (primitive_in p)) (value_of w j) (value_of w v) (vat w s))
  unfolding perform.coerce_native native.native_guard
  primitive_met act (Guarding g) v j s sound i l = guard_coerced_met act g v j s sound i l
  primitive_met act _ v j s sound i l = unfold coerced_as in throw_met w a_value not_a_guard_id s sound (known_there s sound not_a_guard_id refl)

  native_is : (act n : ℕ) (j x : Value Local) (v : Vat Local)
      → perform.coerce (names w) tree their act (Prim n) j x v ≡ perform.coerce_native (names w) tree their act (native.native_guard (native.primitive n)) j x v
  unfolding perform.coerce
  native_is act n j x v = refl

  native_met : (act n : ℕ) (v j : Held) (s : Room) → IsSound s → is_there s.heap v ≡ true → is_there s.heap j ≡ true
      → Met w a_value s (coerced_as again act j (native_coerced s.heap n v (followed s.refs v)) s) (perform.coerce (names w) tree their act (Prim n) (value_of w j) (value_of w v) (vat w s))
  unfolding native_coerced
  native_met act n v j s sound i l = rw (native_is act n (value_of w j) (value_of w v) (vat w s), primitive_is n) (primitive_met act (primitive_at n) v j s sound i l)

  -- ---- objects as guards

  object_is : (act i : ℕ) (j x : Value Local) (v : Vat Local)
      → perform.coerce (names w) tree their act (Ref (Obj i)) j x v
      ≡ machine.and_then (perform.handed (names w) tree j v) (λ k. their act (Ref (Obj i)) (codes "coerce") (x ∷ k ∷ []))
  unfolding perform.coerce perform.coerce_near refs.place refs.spotted numbering local_spot machine.◌>>=◌ machine.look machine.and_then
  object_is act i j x v = refl

  given_first : {A B : Type 0} (a : A) (m : A → machine.Act Local B) (v : Vat Local) → machine.and_then (machine.give a v) m ≡ m a v
  unfolding opened_state
  given_first a m v = refl

  -- what is handed on, and then
  pub handed_then : {B : Type 0} (j : Held) (s : Room) (m : Value Local → machine.Act Local B) → IsSound s
      → machine.and_then (perform.handed (names w) tree (value_of w j) (vat w s)) m ≡ m (value_of w (handed s j)) (vat w s)
  handed_then j s m sound = rw (handed_gives j s sound) (given_first (value_of w (handed s j)) m (vat w s))

  object_met : (act i : ℕ) (v j : Held) (s : Room) → IsSound s → is_there s.heap v ≡ true → is_there s.heap j ≡ true
      → Met w a_value s (again act (held.Obj i) (codes "coerce") (v ∷ handed s j ∷ []) s) (perform.coerce (names w) tree their act (Ref (Obj i)) (value_of w j) (value_of w v) (vat w s))
  object_met act i v j s sound k l =
      rw (
        object_is act i (value_of w j) (value_of w v) (vat w s),
        handed_then j s (λ x. their act (Ref (Obj i)) (codes "coerce") (value_of w v ∷ x ∷ [])) sound,
      ) (h act (held.Obj i) (codes "coerce") (v ∷ handed s j ∷ []) s sound refl (pair_there v (handed s j) s k (handed_there j s l)))

  pub coerce_met : (act : ℕ) (g : GuardKind) (v j : Held) (s : Room) → IsSound s → is_there s.heap v ≡ true → is_there s.heap j ≡ true
      → Met w a_value s (coerce again act g j v s) (perform.coerce (names w) tree their act (guard_of g) (value_of w j) (value_of w v) (vat w s))
  unfolding coerce
  coerce_met act (Native n) v j s sound i l = native_met act n v j s sound i l
  coerce_met act (User k) v j s sound i l = object_met act k v j s sound i l
