-- Failings, and guards of patterns and of var slots.
use Rattle.std.proofs.Common.{◌≡◌, ℕ, Bool, true, false, List, [], ◌∷◌, Option, Some, None, Ok, Err, length, refl, sym, ap, ◌∙◌}
use Rattle.std.specs.Prelude.{Result, slice_get, option_map, codes}
use Rattle.ev_base.specs.declared.values.Value.{Value}
use Rattle.ev_base.specs.declared.values.Value.TheVariants as held
use Rattle.ev_heap.specs.declared.kept.Cell.{Cell}
use Rattle.ev_heap.specs.declared.kept.GuardKind.{GuardKind}
use Rattle.ev_heap.specs.declared.kept.GuardKind.TheVariants.{Native, User}
use Rattle.def_kernel.specs.declared.node.Node.{Node}
use Rattle.def_machine.specs.Values.{Words}
use Rattle.ev_room.specs.declared.exit.Exit.{Exit}
use Rattle.ev_room.specs.declared.exit.Exit.TheVariants.{Thrown, Astray}
use Rattle.ev_room.specs.declared.coercion.Coerced.{Coerced as Outcome}
use Rattle.ev_room.specs.declared.coercion.Coerced.TheVariants as outcome
use Rattle.ev_pass.specs.declared.interior.Interior.{Interior as Room}
use Rattle.ev_room.specs.declared.scope.Bound.TheVariants.{Fixed, Slot}
use Rattle.ev_room.specs.declared.scope.Scope.{Scope}
use Rattle.ev_room.specs.Acts.{Act, Out, Gives, and_then, ◌>>=◌, ◌>>◌, give, fail, write_slot}
use Rattle.ev_room.specs.Coercion.{native_coerced}
use Rattle.ev_room.specs.Sound.{no_guard, not_a_guard_id}
use Rattle.ev_steps.specs.declared.target.Target.{Target}
use Rattle.ev_refs.specs.Follow.{followed, led, severed}
use Rattle.ev_room.specs.Takings.{is_null}
use Rattle.ev_steps.specs.Steps.{Caller, evaluator, call, failed_by, failed, handed, coerced_as, coerce, write_under, write_cell, write_bound, bind_coerced, bind_by, bind_under, bind_guarded}
use Rattle.ev_frames.specs.declared.frames.Frame.{Frame}
use Rattle.ev_frames.specs.declared.frames.Frame.TheVariants.{Part as PartOf}
use Rattle.ev_frames.specs.declared.frames.Part.TheVariants.{Writes, Guarded, Coerced, Fails}
use Rattle.ev_frames.specs.declared.now.Now.{Now}
use Rattle.ev_frames.specs.Rest.{Goes, rest, going, bound_as, settled}
use Rattle.ev_frames.proofs.Failing.{null_fails, other_fails}
use Rattle.ev_frames.proofs.Rests.{goes_as, part_pushed}
use Rattle.ev_nodes.proofs.Patterning.{expression_after}

-- ---- failings

lost_after : (o : Out Value) (id : ℕ) (f : Value → Act Scope) → and_then (and_then o (λ _. fail {A = Value} (Thrown id))) f ≡ and_then o (λ _. fail {A = Scope} (Thrown id))
unfolding and_then fail
lost_after (Ok v, t) id f = refl
lost_after (Err e, t) id f = refl

never_by : (again : Caller) (act : ℕ) (j : Value) (id : ℕ) (b : Bool) (s : Room) (f : Value → Act Scope) → and_then (failed_by {A = Value} again act j id b s) f ≡ failed_by {A = Scope} again act j id b s
unfolding failed_by ◌>>◌
never_by again act j id true s f = unfold and_then fail in refl
never_by again act j id false s f = lost_after (again act j (codes "run") (held.Text id ∷ []) s) id f

-- what fails gives nothing
never_gives : (again : Caller) (act : ℕ) (j : Value) (id : ℕ) (s : Room) (f : Value → Act Scope) → and_then (failed {A = Value} again act j id s) f ≡ failed {A = Scope} again act j id s
unfolding failed
never_gives again act j id s f = never_by again act j id (is_null (followed s.refs j)) s f

thrown_after : (o : Out Value) (here : Scope) (id : ℕ) → bound_as (and_then o (λ _. fail {A = Scope} (Thrown id))) ≡ and_then (settled here o) (λ x. fail (Thrown id))
unfolding and_then give fail
thrown_after (Ok v, t) here id = refl
thrown_after (Err e, t) here id = refl

module _ (tree : List Node) (d : ℕ) (fs gs : List Frame) (here : Scope) (s : Room) (j : Value) (id : ℕ) where
  pub fails_at_once : is_null (followed s.refs j) ≡ true → rest tree fs here (bound_as (failed (call tree (evaluator tree d)) here.act j id s)) ≡ rest tree fs here (Err (Thrown id), s)
  unfolding and_then
  fails_at_once e = rw (null_fails {A = Scope} (call tree (evaluator tree d)) here.act j id s e) refl

  pub fails_by : (hs : List Frame) (r : Result Now Exit) (a : Scope) (u : Room) → is_null (followed s.refs j) ≡ false → gs ≡ PartOf d (length here.nouns) (Fails id) ∷ fs
      → Goes tree r hs a u (rest tree gs here (settled here (call tree (evaluator tree d) here.act j (codes "run") (held.Text id ∷ []) s)))
      → Goes tree r hs a u (rest tree fs here (bound_as (failed (call tree (evaluator tree d)) here.act j id s)))
  unfolding going
  fails_by hs r a u e pushed g =
      goes_as tree r hs a u (rest tree gs here (settled here (call tree (evaluator tree d) here.act j (codes "run") (held.Text id ∷ []) s))) _
      (rw (pushed, other_fails {A = Scope} (call tree (evaluator tree d)) here.act j id s e)
      (ap (λ (o : Out (Value × Scope)). rest tree fs here o) (thrown_after (call tree (evaluator tree d) here.act j (codes "run") (held.Text id ∷ []) s) here id)
      ∙ sym (part_pushed tree d (Fails id) fs here (settled here (call tree (evaluator tree d) here.act j (codes "run") (held.Text id ∷ []) s))))) g

-- ---- what comes of native guards

coerce_is : (again : Caller) (act n : ℕ) (j v : Value) (s : Room) (c : Outcome) (near : Value) → near ≡ followed s.refs v → native_coerced s.heap n v near ≡ c → coerce again act (Native n) j v s ≡ coerced_as again act j c s
unfolding coerce
coerce_is again act n j v s c near is e = ap (λ (x : Outcome). coerced_as again act j x s) (ap (λ (y : Value). native_coerced s.heap n v y) (sym is) ∙ e)

module _ (tree : List Node) (d : ℕ) (fs : List Frame) (here : Scope) (s : Room) (t : Target) (n : ℕ) (v j : Value) where
  pub native_takes : (w : Value) (gs : List Frame) (a : Scope) (u : Room) (r : Result Now Exit)
      → Goes tree r gs a u (rest tree fs here (bound_as (bind_coerced here.act t (Native n) w here s)))
      → (near : Value) → near ≡ followed s.refs v → native_coerced s.heap n v near ≡ outcome.Takes w
      → Goes tree r gs a u (rest tree fs here (bound_as (bind_by tree (evaluator tree d) here.act t v j (Native n) here s)))
  unfolding bind_by coerced_as ◌>>=◌ and_then give
  native_takes w gs a u r g near is e =
      goes_as tree r gs a u (rest tree fs here (bound_as (bind_coerced here.act t (Native n) w here s))) _ (rw (coerce_is (call tree (evaluator tree d)) here.act n j v s (outcome.Takes w) near is e) refl) g

  refused_is : (id : ℕ) → (near : Value) → near ≡ followed s.refs v → native_coerced s.heap n v near ≡ outcome.Refuses id → bind_by tree (evaluator tree d) here.act t v j (Native n) here s ≡ failed {A = Scope} (call tree (evaluator tree d)) here.act j id s
  unfolding bind_by coerced_as ◌>>=◌
  refused_is id near is e =
      rw (coerce_is (call tree (evaluator tree d)) here.act n j v s (outcome.Refuses id) near is e)
      (never_gives (call tree (evaluator tree d)) here.act j id s (λ (x : Value). bind_coerced here.act t (Native n) x here))

  pub native_refuses : (id : ℕ) (gs : List Frame) (a : Scope) (u : Room) (r : Result Now Exit)
      → Goes tree r gs a u (rest tree fs here (bound_as (failed (call tree (evaluator tree d)) here.act j id s)))
      → (near : Value) → near ≡ followed s.refs v → native_coerced s.heap n v near ≡ outcome.Refuses id
      → Goes tree r gs a u (rest tree fs here (bound_as (bind_by tree (evaluator tree d) here.act t v j (Native n) here s)))
  native_refuses id gs a u r g near is e =
      goes_as tree r gs a u (rest tree fs here (bound_as (failed (call tree (evaluator tree d)) here.act j id s))) _ (ap (λ (o : Out Scope). rest tree fs here (bound_as o)) (refused_is id near is e)) g

  pub native_none : (near : Value) → near ≡ followed s.refs v → native_coerced s.heap n v near ≡ outcome.NoGuard → rest tree fs here (bound_as (bind_by tree (evaluator tree d) here.act t v j (Native n) here s)) ≡ rest tree fs here (Err (Thrown not_a_guard_id), s)
  unfolding bind_by coerced_as ◌>>=◌ and_then fail
  native_none near is e = rw (coerce_is (call tree (evaluator tree d)) here.act n j v s outcome.NoGuard near is e) refl

  pub native_astray : (near : Value) → near ≡ followed s.refs v → native_coerced s.heap n v near ≡ outcome.Astray → rest tree fs here (bound_as (bind_by tree (evaluator tree d) here.act t v j (Native n) here s)) ≡ rest tree fs here (Err Astray, s)
  unfolding bind_by coerced_as ◌>>=◌ and_then fail
  native_astray near is e = rw (coerce_is (call tree (evaluator tree d)) here.act n j v s outcome.Astray near is e) refl

-- ---- objects as guards

pub asked_as : (tree : List Node) (d : ℕ) (fs gs : List Frame) (here a : Scope) (s u : Room) (r : Result Now Exit) (x : Value) (verb : Words) (args : List Value) → verb ≡ codes "coerce"
    → Goes tree r gs a u (rest tree fs here (settled here (call tree (evaluator tree d) here.act x verb args s)))
    → Goes tree r gs a u (rest tree fs here (settled here (call tree (evaluator tree d) here.act x (codes "coerce") args s)))
asked_as tree d fs gs here a s u r x verb args e g = rw (← e) g

module _ (tree : List Node) (d : ℕ) (fs gs hs : List Frame) (here a : Scope) (s u : Room) (r : Result Now Exit) where
  coerced_after : (o : Out Value) (t : Target) (k : GuardKind)
      → and_then (settled here o) (λ x. going tree (evaluator tree d) here.act (length here.nouns) (Coerced t k) x.0 x.1) ≡ bound_as (and_then o (λ y. bind_coerced here.act t k y here))
  unfolding and_then give going
  coerced_after (Ok v, z) t k = refl
  coerced_after (Err e, z) t k = refl

  pub object_binds : (t : Target) (i : ℕ) (v j : Value) → gs ≡ PartOf d (length here.nouns) (Coerced t (User i)) ∷ fs
      → Goes tree r hs a u (rest tree gs here (settled here (call tree (evaluator tree d) here.act (held.Obj i) (codes "coerce") (v ∷ handed s j ∷ []) s)))
      → Goes tree r hs a u (rest tree fs here (bound_as (bind_by tree (evaluator tree d) here.act t v j (User i) here s)))
  unfolding bind_by coerce ◌>>=◌
  object_binds t i v j pushed g =
      goes_as tree r hs a u (rest tree gs here (settled here (call tree (evaluator tree d) here.act (held.Obj i) (codes "coerce") (v ∷ handed s j ∷ []) s))) _
      (rw pushed (ap (λ (o : Out (Value × Scope)). rest tree fs here o) (sym (coerced_after (call tree (evaluator tree d) here.act (held.Obj i) (codes "coerce") (v ∷ handed s j ∷ []) s) t (User i)))
      ∙ sym (part_pushed tree d (Coerced t (User i)) fs here (settled here (call tree (evaluator tree d) here.act (held.Obj i) (codes "coerce") (v ∷ handed s j ∷ []) s))))) g

  written_after : (o : Out Value) (k : ℕ)
      → and_then (settled here o) (λ x. going tree (evaluator tree d) here.act (length here.nouns) (Writes k) x.0 x.1) ≡ settled here (and_then o (λ y. write_slot here.act k y))
  unfolding and_then give going
  written_after (Ok v, z) k = refl
  written_after (Err e, z) k = refl

  pub object_writes : (k i : ℕ) (v j : Value) → gs ≡ PartOf d (length here.nouns) (Writes k) ∷ fs → j ≡ held.Null
      → Goes tree r hs a u (rest tree gs here (settled here (call tree (evaluator tree d) here.act (held.Obj i) (codes "coerce") (v ∷ handed s j ∷ []) s)))
      → Goes tree r hs a u (rest tree fs here (settled here (write_under (call tree (evaluator tree d)) here.act k (User i) v s)))
  unfolding write_under coerce ◌>>=◌
  object_writes k i v j pushed e g =
      goes_as tree r hs a u (rest tree gs here (settled here (call tree (evaluator tree d) here.act (held.Obj i) (codes "coerce") (v ∷ handed s j ∷ []) s))) _
      (rw (pushed, e) (ap (λ (o : Out (Value × Scope)). rest tree fs here o) (sym (written_after (call tree (evaluator tree d) here.act (held.Obj i) (codes "coerce") (v ∷ handed s held.Null ∷ []) s) k))
      ∙ sym (part_pushed tree d (Writes k) fs here (settled here (call tree (evaluator tree d) here.act (held.Obj i) (codes "coerce") (v ∷ handed s held.Null ∷ []) s))))) g

-- ---- a guard is evaluated first

module _ (tree : List Node) (d : ℕ) (fs gs : List Frame) (here : Scope) (s : Room) (t : Target) (v j : Value) where
  pub guard_begins : (e : ℕ) → gs ≡ PartOf d (length here.nouns) (Guarded t v j) ∷ fs
      → rest tree fs here (bound_as (bind_guarded tree (evaluator tree d) t (Some e) v j here s)) ≡ rest tree gs here ((evaluator tree d).expression e here s)
  unfolding bind_guarded going ◌>>=◌
  guard_begins e pushed =
      rw pushed (ap (λ (o : Out (Value × Scope)). rest tree fs here o) (sym (expression_after ((evaluator tree d).expression e here s) (λ x b u. bind_under tree (evaluator tree d) here.act t v j (followed u.refs x) b u)))
      ∙ sym (part_pushed tree d (Guarded t v j) fs here ((evaluator tree d).expression e here s)))

  pub guard_none : (hs : List Frame) (a : Scope) (u : Room) (r : Result Now Exit)
      → Goes tree r hs a u (rest tree fs here (bound_as (bind_coerced here.act t no_guard v here s)))
      → Goes tree r hs a u (rest tree fs here (bound_as (bind_guarded tree (evaluator tree d) t None v j here s)))
  unfolding bind_guarded
  guard_none hs a u r g = g

-- ---- var slots

gives_as : (r : Result Value Exit) (u : Room) (due own : Out Value) → own ≡ due → Gives r u due → Gives r u own
gives_as r u due own e h = rw e h

module _ (tree : List Node) (d act k n : ℕ) (v : Value) (s : Room) where
  pub under_takes : (w : Value) (r : Result Value Exit) (u : Room) → Gives r u (write_slot act k w s) → (near : Value) → near ≡ followed s.refs v → native_coerced s.heap n v near ≡ outcome.Takes w → Gives r u (write_under (call tree (evaluator tree d)) act k (Native n) v s)
  unfolding write_under coerced_as ◌>>=◌ and_then give
  under_takes w r u g near is e = gives_as r u (write_slot act k w s) _ (rw (coerce_is (call tree (evaluator tree d)) act n held.Null v s (outcome.Takes w) near is e) refl) g

  pub under_refuses : (id : ℕ) → (near : Value) → near ≡ followed s.refs v → native_coerced s.heap n v near ≡ outcome.Refuses id → write_under (call tree (evaluator tree d)) act k (Native n) v s ≡ (Err (Thrown id), s)
  unfolding write_under coerced_as failed failed_by followed led severed ◌>>=◌ and_then fail
  under_refuses id near is e = rw (coerce_is (call tree (evaluator tree d)) act n held.Null v s (outcome.Refuses id) near is e) refl

  pub under_none : (near : Value) → near ≡ followed s.refs v → native_coerced s.heap n v near ≡ outcome.NoGuard → write_under (call tree (evaluator tree d)) act k (Native n) v s ≡ (Err (Thrown not_a_guard_id), s)
  unfolding write_under coerced_as ◌>>=◌ and_then fail
  under_none near is e = rw (coerce_is (call tree (evaluator tree d)) act n held.Null v s outcome.NoGuard near is e) refl

  pub under_astray : (near : Value) → near ≡ followed s.refs v → native_coerced s.heap n v near ≡ outcome.Astray → write_under (call tree (evaluator tree d)) act k (Native n) v s ≡ (Err Astray, s)
  unfolding write_under coerced_as ◌>>=◌ and_then fail
  under_astray near is e = rw (coerce_is (call tree (evaluator tree d)) act n held.Null v s outcome.Astray near is e) refl

cell_as : (again : Caller) (act k : ℕ) (v : Value) (o : Option Cell) (g : GuardKind) (s : Room) → option_map (λ (c : Cell). c.guard) o ≡ Some g → write_cell again act k v o s ≡ write_under again act k g v s
unfolding write_cell
cell_as again act k v None g s e = absurd (cc)
cell_as again act k v (Some c) g s e = let is : c.guard ≡ g = cc in rw is refl

no_cell : (again : Caller) (act k : ℕ) (v : Value) (o : Option Cell) (s : Room) → option_map (λ (c : Cell). c.guard) o ≡ None → write_cell again act k v o s ≡ (Err Astray, s)
unfolding write_cell fail
no_cell again act k v None s e = refl
no_cell again act k v (Some c) s e = absurd (cc)

module _ (tree : List Node) (d : ℕ) (fs : List Frame) (here : Scope) (s : Room) (k : ℕ) (v : Value) where
  pub cell_none : option_map (λ (c : Cell). c.guard) (slice_get s.heap.slots k) ≡ None
      → rest tree fs here (settled here (write_cell (call tree (evaluator tree d)) here.act k v (slice_get s.heap.slots k) s)) ≡ rest tree fs here (Err Astray, s)
  unfolding and_then
  cell_none e = rw (no_cell (call tree (evaluator tree d)) here.act k v (slice_get s.heap.slots k) s e) refl

  pub cell_goes : (g : GuardKind) (gs : List Frame) (a : Scope) (u : Room) (r : Result Now Exit)
      → Goes tree r gs a u (rest tree fs here (settled here (write_under (call tree (evaluator tree d)) here.act k g v s)))
      → option_map (λ (c : Cell). c.guard) (slice_get s.heap.slots k) ≡ Some g
      → Goes tree r gs a u (rest tree fs here (settled here (write_cell (call tree (evaluator tree d)) here.act k v (slice_get s.heap.slots k) s)))
  cell_goes g gs a u r h e =
      goes_as tree r gs a u (rest tree fs here (settled here (write_under (call tree (evaluator tree d)) here.act k g v s))) _
      (ap (λ (o : Out Value). rest tree fs here (settled here o)) (cell_as (call tree (evaluator tree d)) here.act k v (slice_get s.heap.slots k) g s e)) h

  pub bound_goes : (gs : List Frame) (a : Scope) (u : Room) (r : Result Now Exit)
      → Goes tree r gs a u (rest tree fs here (settled here (write_cell (call tree (evaluator tree d)) here.act k v (slice_get s.heap.slots k) s)))
      → Goes tree r gs a u (rest tree fs here (settled here (write_bound (call tree (evaluator tree d)) here.act (Some (Slot k)) v s)))
  unfolding write_bound
  bound_goes gs a u r h = h

module _ (tree : List Node) (d : ℕ) (fs : List Frame) (here : Scope) (s : Room) (v : Value) where
  pub bound_fixed : (x : Value) (g : GuardKind) → rest tree fs here (settled here (write_bound (call tree (evaluator tree d)) here.act (Some (Fixed x g)) v s)) ≡ rest tree fs here (Err Astray, s)
  unfolding write_bound and_then fail
  bound_fixed x g = refl

  pub bound_none : rest tree fs here (settled here (write_bound (call tree (evaluator tree d)) here.act None v s)) ≡ rest tree fs here (Err Astray, s)
  unfolding write_bound and_then fail
  bound_none = refl
