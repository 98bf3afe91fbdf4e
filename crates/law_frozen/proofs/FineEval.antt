-- All of evaluation, from a sound state, ends in a sound state.
use Rattle.std.proofs.Common.{◌≡◌, ℕ, zero, suc, Bool, true, false, List, [], ◌∷◌, ◌++◌, Option, Some, None, refl, sym, subst, length, map, codes, ◌⊎◌, inl, inr}
use Rattle.std.specs.Prelude.{slice_get}
use Rattle.def_machine.specs.Values.{Words, Value, Null, Flag, Text, Prim, Broken, Items, Ref, Naming, Spot, Own}
use Rattle.def_machine.specs.State.{Bound, Fixed, Slot, Scope, Binding, Cell, View, FreeName, IsItself, Thing, Made, Ejector, Audition, Resolver, Message, Standing, Unsettled, Vat, Done, Gives, Act, ◌>>=◌, ◌>>◌, and_then, give, throw, eject, look, tell, new_thing, ObjectMade, for_some, WhereSome}
use Rattle.def_machine.specs.Refs.{Place, Near, standing_of, settle, resolve}
use Rattle.def_machine.specs.Form.{Item, Begin, End, Word, Fact as Fixing, literal_value}
use Rattle.def_machine.specs.Free.{BoundNoun, same_words}
use Rattle.def_machine.specs.Native as native
use Rattle.def_machine.specs.Native.{Reply, Says, Writes, Lists as Listed, Iterates, Fails, Guard, guard_name, native_guard, primitive, Primitive, Guarding, DeepFrozen, Asked, MakesList, Loops, SendsTo, CallsTo, MakesPromise, Breaks, Tells, Whens, IsStamped, Coerces, AddsNull, NoMethod}
use Rattle.def_machine.specs.Scopes as scopes
use Rattle.def_machine.specs.Perform as perform
use Rattle.def_machine.specs.Calls as calls
use Rattle.def_machine.specs.Eval as eval
use Rattle.def_machine.specs.Scopes.{meets, any_guard, frozen_guard, freezes, Answer, Evaluator, Caller, Body, Case, AuditionAsk, GetsForm, GetsGuard, Asks, NoAuditionAsk, ResolverAsk, Resolves, Smashes, NoResolverAsk}
use Rattle.def_kernel.specs.declared.node.Node.{Node}
use Rattle.def_kernel.specs.declared.node.Node.TheVariants.{Lit, Final, Any}
use Rattle.law_frozen.specs.Frozen.{AllOf, IsAmong, Lists, IsThere, AreThere, IsFrozen, BoundWell, NounWell, FrozenCapture, ThingWell, deep_frozen}
use Rattle.law_frozen.proofs.Facts.{all_map, all_end, noun_up, thing_up}
use Rattle.law_frozen.proofs.Fine.{Keeper, grows_same, resolvable, fine_bind, MayBe, Fact, Also, IsValue, AreValues, AreLists, IsBound, AreNouns, IsMessage, IsThing, IsView, MayValue, MayBound, MayCell, MayThing, IsReply, IsAsked, IsAuditionAsk, IsResolverAsk, StampsMeet, Approves, scope, answer, answers, nothing, Holds, Ends, Gets, Fine, fine, get_end, grows_things, widen, got, got_left, got_both, got_itself, got_ref, got_text, got_nothing, fine_bind, fine_ending, fine_more, fine_left, fine_if, fine_give, fine_throw, fine_eject, fine_stop, fine_tell, fine_spend, then_unit}
use Rattle.law_frozen.proofs.Looks.{looks, look_follow}
use Rattle.law_frozen.proofs.Serves.{Serves, Closing, serve_promise, serve_break, serve_send, serve_send_only, serve_react, serve_close}
use Rattle.law_frozen.proofs.EvalFacts.{knows, false_true, under, look_bound, some_bound, bound_well, got_noun, got_unguarded, got_of_bound, got_item, got_lists, got_literal, got_view}

-- a call, whatever is called
abbrev pub GoodCaller : {N W : Type 0} (K : Naming N W) → Keeper K → Caller N → Type 0
GoodCaller {N} K M again = (C : Fact N) (act : ℕ) (x : Value N) → Gets K C (IsValue x) → (verb : Words) (args : List (Value N)) → Gets K C (AreValues args) → Fine K M C (again act x verb args) IsValue

-- so do the nodes below
pub record GoodEvaluator {N W : Type 0} (K : Naming N W) (M : Keeper K) (rec : Evaluator N) : Type 0 where
  pub expression : (C : Fact N) (id : ℕ) (here : Scope N) → Gets K C (AreNouns here.nouns) → Fine K M C (rec.expression id here) answer
  pub pattern : (C : Fact N) (id : ℕ) (v : Value N) → Gets K C (IsValue v) → (j : Value N) → Gets K C (IsValue j) → (here : Scope N) → Gets K C (AreNouns here.nouns) → Fine K M C (rec.pattern id v j here) scope

module _ {N W : Type 0} (K : Naming N W) (M : Keeper K) (serves : Serves K M) (spots : (i : ℕ) → K.spot (K.object i) ≡ Own i) (tree : List Node) where
  pub fine_answered : {C : Fact N} → (x1 : Scope N) → Gets K C (AreNouns x1.nouns) → (x2 : Value N) → Gets K C (IsValue x2) → Fine K M C (scopes.answered x1 x2) answer
  unfolding scopes.answered
  fine_answered {C = C} here g1 v g2 = search (fine, looks, knows) depth 30

  pub fine_read_cell : {C : Fact N} → (x1 : ℕ) → (x2 : ℕ) → (x3 : Option (Cell N)) → Gets K C (MayCell x3) → Fine K M C (scopes.read_cell x1 x2 x3) IsValue
  unfolding scopes.read_cell
  fine_read_cell {C = C} act k None g1 = search (fine, looks, knows) depth 30
  fine_read_cell {C = C} act k (Some c) g1 = let dg_g1 : Gets K C (IsValue c.guard) = record { at = λ ts ls h. (g1.at ts ls h).0 } in let dv_g1 : Gets K C (IsValue c.value) = record { at = λ ts ls h. (g1.at ts ls h).1 } in search (fine, looks, knows) depth 30

  pub fine_read_bound : {C : Fact N} → (x1 : ℕ) → (x2 : Option (Bound N)) → Gets K C (MayBound x2) → (x3 : Words) → Fine K M C (scopes.read_bound x1 x2 x3) IsValue
  unfolding scopes.read_bound
  fine_read_bound {C = C} act (Some (Fixed v g)) g1 x = let d_g1 : Gets K C (IsValue v) = record { at = λ ts ls h. (g1.at ts ls h).0 } in search (fine, looks, knows) depth 30
  fine_read_bound {C = C} act (Some (Slot k)) g1 x = search (fine, looks, knows, fine_read_cell) depth 30
  fine_read_bound {C = C} act None g1 x = search (fine, looks, knows) depth 30

  pub fine_ended : {C : Fact N} → (x1 : ℕ) → (x2 : Act N (Value N)) → Fine K M C x2 IsValue → Fine K M C (scopes.ended x1 x2) IsValue
  unfolding scopes.ended
  fine_ended {C = C} act m h2 = search (fine, looks, knows) depth 30

  pub fine_with_lines : {C : Fact N} → (x1 : ℕ) → (x2 : Value N) → Gets K C (IsValue x2) → (x3 : Words) → (x4 : List (Value N)) → Gets K C (AreValues x4) → (x5 : Act N (Value N)) → Fine K M C x5 IsValue → Fine K M C (scopes.with_lines x1 x2 x3 x4 x5) IsValue
  unfolding scopes.with_lines
  fine_with_lines {C = C} act x g1 verb args g2 m h5 = search (fine, looks, knows, fine_ended) depth 30

  pub fine_fail_by : {C : Fact N} → {A : Type 0} → {G : A → Fact N} → (x1 : Caller N) → GoodCaller K M x1 → (x2 : ℕ) → (x3 : Value N) → Gets K C (IsValue x3) → (x4 : Words) → (x5 : Bool) → Fine K M C (perform.fail_by K tree {A = A} x1 x2 x3 x4 x5) G
  unfolding perform.fail_by
  fine_fail_by {C = C} again h1 act j g1 p true = search (fine, looks, knows) depth 30
  fine_fail_by {C = C} again h1 act j g1 p false = search (fine, looks, knows) depth 30

  pub fine_failed : {C : Fact N} → {A : Type 0} → {G : A → Fact N} → (x1 : Caller N) → GoodCaller K M x1 → (x2 : ℕ) → (x3 : Value N) → Gets K C (IsValue x3) → (x4 : Words) → Fine K M C (perform.failed K tree {A = A} x1 x2 x3 x4) G
  unfolding perform.failed
  fine_failed {C = C} again h1 act j g1 p = search (fine, looks, knows, fine_fail_by) depth 30

  pub fine_handed : {C : Fact N} → (x1 : Value N) → Gets K C (IsValue x1) → Fine K M C (perform.handed K tree x1) IsValue
  unfolding perform.handed
  fine_handed {C = C} j g1 = search (fine, looks, knows) depth 30

  pub fine_native_coerce : {C : Fact N} → (again : Caller N) → GoodCaller K M again → (act : ℕ) → (g : Guard) → (j : Value N) → Gets K C (IsValue j) → (x : Value N) → Gets K C (IsValue x) → Fine K M C (perform.native_coerce K tree again act g j x) IsValue
  unfolding perform.native_coerce
  fine_native_coerce {C = C} again h1 act g j g1 x g2 = search (fine, looks, knows, fine_failed) depth 30

  native_bound : {C : Fact N} → (again : Caller N) → GoodCaller K M again → (act n : ℕ) → (g : Guard) → primitive n ≡ Guarding g → (j : Value N) → Gets K C (IsValue j) → (x : Value N) → Gets K C (IsValue x) → Fine K M C (perform.native_coerce K tree again act g j x) (λ v. IsBound (Fixed v (Prim n)))
  unfolding perform.native_coerce
  native_bound {C = C} again h1 act n g e j g1 x g2 = fine_bind K M (λ o. MayBound (under K (Prim n) o)) (look_bound K tree M n g e x g2)
      (λ o. some_bound K M (Prim n) o (got K C (MayBound (under K (Prim n) o))) (fine_failed {C = Also C (MayBound (under K (Prim n) o))} again h1 act j (got_left K C (MayBound (under K (Prim n) o)) (IsValue j) g1) (codes "not " ++ guard_name g)))

  coerce_prim : {C : Fact N} → (again : Caller N) → GoodCaller K M again → (act n : ℕ) → (p : Primitive) → primitive n ≡ p → (j : Value N) → Gets K C (IsValue j) → (x : Value N) → Gets K C (IsValue x) → Fine K M C (perform.coerce_native K tree again act (native_guard p) j x) (λ v. IsBound (Fixed v (Prim n)))
  unfolding perform.coerce_native native_guard
  coerce_prim {C = C} again h1 act n (Guarding g) e j g1 x g2 = native_bound again h1 act n g e j g1 x g2
  coerce_prim {C = C} again h1 act n other e j g1 x g2 = fine_throw K M _

  pub fine_coerce_near : {C : Fact N} → (x1 : Caller N) → GoodCaller K M x1 → (x2 : ℕ) → (x3 : Value N) → Gets K C (IsValue x3) → (x4 : Value N) → Gets K C (IsValue x4) → (x5 : Value N) → Gets K C (IsValue x5) → (x6 : Place N) → Fine K M C (perform.coerce_near K tree x1 x2 x3 x4 x5 x6) IsValue
  unfolding perform.coerce_near
  fine_coerce_near {C = C} again h1 act g g1 j g2 x g3 Near = search (fine, looks, knows, fine_handed) depth 30
  fine_coerce_near {C = C} again h1 act g g1 j g2 x g3 _ = search (fine, looks, knows) depth 30

  pub coerce_bound : {C : Fact N} → (again : Caller N) → GoodCaller K M again → (act : ℕ) → (g : Value N) → Gets K C (IsValue g) → (j : Value N) → Gets K C (IsValue j) → (x : Value N) → Gets K C (IsValue x) → Fine K M C (perform.coerce K tree again act g j x) (λ v. IsBound (Fixed v g))
  unfolding perform.coerce
  coerce_bound {C = C} again h1 act (Prim n) g0 j g1 x g2 = coerce_prim again h1 act n (primitive n) refl j g1 x g2
  coerce_bound {C = C} again h1 act (Ref n) g0 j g1 x g2 = let all : Fine K M C (perform.coerce K tree again act (Ref n) j x) IsValue = search (fine, looks, knows, fine_coerce_near) depth 30 in fine_more K M IsValue (λ v. IsBound (Fixed v (Ref n))) all (λ v. got_unguarded K v n)
  coerce_bound {C = C} again h1 act other g0 j g1 x g2 = fine_throw K M _

  pub fine_coerce : {C : Fact N} → (again : Caller N) → GoodCaller K M again → (act : ℕ) → (g : Value N) → Gets K C (IsValue g) → (j : Value N) → Gets K C (IsValue j) → (x : Value N) → Gets K C (IsValue x) → Fine K M C (perform.coerce K tree again act g j x) IsValue
  fine_coerce {C = C} again h1 act g g0 j g1 x g2 = fine_more K M (λ v. IsBound (Fixed v g)) IsValue (coerce_bound again h1 act g g0 j g1 x g2) (λ v. got_of_bound K v g)

  pub fine_store : {C : Fact N} → (x1 : ℕ) → (x2 : List (Value N)) → Gets K C (AreValues x2) → Fine K M C (perform.store K tree x1 x2) IsValue
  unfolding perform.store
  fine_store {C = C} act vs g1 = search (fine, looks, knows) depth 30

  pub fine_make_list : {C : Fact N} → (x1 : ℕ) → (x2 : List (Value N)) → Gets K C (AreValues x2) → Fine K M C (perform.make_list K tree x1 x2) IsValue
  unfolding perform.make_list
  fine_make_list {C = C} act vs g1 = search (fine, looks, knows, fine_store) depth 30

  pub fine_spell : {C : Fact N} → (x1 : Words) → Fine K M C (perform.spell K tree x1) IsValue
  unfolding perform.spell
  fine_spell {C = C} t = search (fine, looks, knows) depth 30

  pub fine_write_text : {C : Fact N} → (x1 : Words) → Fine K M C (perform.write_text K tree x1) IsValue
  unfolding perform.write_text
  fine_write_text {C = C} t = search (fine, looks, knows, fine_spell) depth 30

  pub fine_iterate : {C : Fact N} → (x1 : Caller N) → GoodCaller K M x1 → (x2 : ℕ) → (x3 : Value N) → Gets K C (IsValue x3) → (x4 : ℕ) → (x5 : List (Value N)) → Gets K C (AreValues x5) → Fine K M C (perform.iterate K tree x1 x2 x3 x4 x5) IsValue
  unfolding perform.iterate
  fine_iterate {C = C} again h act o g1 k [] g2 = search (fine, looks, knows) depth 30
  fine_iterate {C = C} again h act o g1 k (v ∷ vs) g2 = let d0_g2 : Gets K C (IsValue v) = record { at = λ ts ls h. (g2.at ts ls h).0 } in let d1_g2 : Gets K C (AreValues vs) = record { at = λ ts ls h. (g2.at ts ls h).1 } in let rest : (D : Fact N) → Gets K D (IsValue o) → Gets K D (AreValues vs) → Fine K M D (perform.iterate K tree again act o (suc k) vs) IsValue = λ D a b. fine_iterate {C = D} again h act o a (suc k) vs b in search (fine, looks, knows) depth 30

  pub fine_reply : {C : Fact N} → (x1 : Caller N) → GoodCaller K M x1 → (x2 : ℕ) → (x3 : Reply N) → Gets K C (IsReply x3) → Fine K M C (perform.reply K tree x1 x2 x3) IsValue
  unfolding perform.reply
  fine_reply {C = C} again h1 act (Says v) g1 = let d_g1 : Gets K C (IsValue v) = record { at = λ ts ls h. (g1.at ts ls h) } in search (fine, looks, knows) depth 30
  fine_reply {C = C} again h1 act (Writes t) g1 = search (fine, looks, knows, fine_write_text) depth 30
  fine_reply {C = C} again h1 act (Listed vs) g1 = let d_g1 : Gets K C (AreValues vs) = record { at = λ ts ls h. (g1.at ts ls h) } in search (fine, looks, knows, fine_make_list) depth 30
  fine_reply {C = C} again h1 act (Iterates o vs) g1 = let do_g1 : Gets K C (IsValue o) = record { at = λ ts ls h. (g1.at ts ls h).0 } in let d_g1 : Gets K C (AreValues vs) = record { at = λ ts ls h. (g1.at ts ls h).1 } in search (fine, looks, knows, fine_iterate) depth 30
  fine_reply {C = C} again h1 act (Fails p) g1 = search (fine, looks, knows) depth 30

  pub fine_data_answer : {C : Fact N} → (x1 : Caller N) → GoodCaller K M x1 → (x2 : ℕ) → (x3 : Value N) → Gets K C (IsValue x3) → (x4 : Words) → (x5 : List (Value N)) → Gets K C (AreValues x5) → Fine K M C (perform.data_answer K tree x1 x2 x3 x4 x5) IsValue
  unfolding perform.data_answer
  fine_data_answer {C = C} again h1 act y g1 verb args g2 = search (fine, looks, knows, fine_reply) depth 30

  pub fine_send_by : {C : Fact N} → (x0 : Bool) → (x1 : ℕ) → (x2 : Value N) → Gets K C (IsValue x2) → (x3 : Words) → (x4 : List (Value N)) → Gets K C (AreValues x4) → Fine K M C (perform.send_by K tree x0 x1 x2 x3 x4) IsValue
  unfolding perform.send_by
  fine_send_by {C = C} only act x g1 verb args g2 = search (fine, looks, knows, serve_send, serve_send_only) depth 30

  pub fine_send_listed : {C : Fact N} → (x0 : Bool) → (x1 : ℕ) → (x2 : Value N) → Gets K C (IsValue x2) → (x3 : Words) → (x4 : List (Value N)) → Gets K C (AreValues x4) → Fine K M C (perform.send_listed K tree x0 x1 x2 x3 x4) IsValue
  unfolding perform.send_listed
  fine_send_listed {C = C} only act x g1 verb args g2 = search (fine, looks, knows, fine_send_by) depth 30

  pub fine_send_with : {C : Fact N} → (x0 : Bool) → (x1 : ℕ) → (x2 : Value N) → Gets K C (IsValue x2) → (x3 : Value N) → Gets K C (IsValue x3) → (x4 : Value N) → Gets K C (IsValue x4) → Fine K M C (perform.send_with K tree x0 x1 x2 x3 x4) IsValue
  unfolding perform.send_with
  fine_send_with {C = C} only act x g1 (Text verb) g2 (Items k) g3 = search (fine, looks, knows, fine_send_listed) depth 30
  fine_send_with {C = C} only act x g1 _ g2 _ g3 = search (fine, looks, knows) depth 30

  pub fine_call_listed : {C : Fact N} → (x1 : Caller N) → GoodCaller K M x1 → (x2 : ℕ) → (x3 : Value N) → Gets K C (IsValue x3) → (x4 : Words) → (x5 : List (Value N)) → Gets K C (AreValues x5) → Fine K M C (perform.call_listed K tree x1 x2 x3 x4 x5) IsValue
  unfolding perform.call_listed
  fine_call_listed {C = C} again h1 act x g1 verb args g2 = search (fine, looks, knows) depth 30

  pub fine_call_with : {C : Fact N} → (x1 : Caller N) → GoodCaller K M x1 → (x2 : ℕ) → (x3 : Value N) → Gets K C (IsValue x3) → (x4 : Value N) → Gets K C (IsValue x4) → (x5 : Value N) → Gets K C (IsValue x5) → Fine K M C (perform.call_with K tree x1 x2 x3 x4 x5) IsValue
  unfolding perform.call_with
  fine_call_with {C = C} again h1 act x g1 (Text verb) g2 (Items k) g3 = search (fine, looks, knows, fine_call_listed) depth 30
  fine_call_with {C = C} again h1 act x g1 _ g2 _ g3 = search (fine, looks, knows) depth 30

  pub fine_make_promise : {C : Fact N} → (x1 : ℕ) → Fine K M C (perform.make_promise K tree x1) IsValue
  unfolding perform.make_promise
  fine_make_promise {C = C} act = fine_bind K M {C = C} {H = IsValue} resolvable (serve_promise K M serves {C = C}) (λ p. search (fine, looks, knows, fine_make_list) depth 30)

  pub fine_react_near : {C : Fact N} → (x1 : ℕ) → (x2 : Value N) → Gets K C (IsValue x2) → (x3 : Value N) → Gets K C (IsValue x3) → (x4 : Value N) → Gets K C (IsValue x4) → (x5 : Place N) → Fine K M C (perform.react_near K tree x1 x2 x3 x4 x5) IsValue
  unfolding perform.react_near
  fine_react_near {C = C} act x g1 o g2 y g3 Near = search (fine, looks, knows, serve_react) depth 30
  fine_react_near {C = C} act x g1 o g2 y g3 _ = search (fine, looks, knows) depth 30

  pub fine_when_resolved : {C : Fact N} → (x1 : ℕ) → (x2 : Value N) → Gets K C (IsValue x2) → (x3 : Value N) → Gets K C (IsValue x3) → Fine K M C (perform.when_resolved K tree x1 x2 x3) IsValue
  unfolding perform.when_resolved
  fine_when_resolved {C = C} act x g1 o g2 = search (fine, looks, knows, fine_react_near) depth 30

  pub fine_after_turn : {C : Fact N} → (x1 : Act N (Value N)) → Fine K M C x1 IsValue → (x2 : Value N) → Gets K C (IsValue x2) → Fine K M C (perform.after_turn K tree x1 x2) IsValue
  unfolding perform.after_turn
  fine_after_turn {C = C} more h1 (Flag true) g1 = search (fine, looks, knows) depth 30
  fine_after_turn {C = C} more h1 other g1 = search (fine, looks, knows) depth 30

  pub fine_turns : {C : Fact N} → (x1 : ℕ) → (x2 : Act N (Value N)) → Fine K M C x2 IsValue → Fine K M C (perform.turns K tree x1 x2) IsValue
  unfolding perform.turns
  fine_turns {C = C} zero body h = search (fine, looks, knows) depth 30
  fine_turns {C = C} (suc n) body h = let rest : (x y : Value N) → Fine K M (Also (Also C (IsValue x)) (IsValue y)) (λ s. perform.turns K tree n body s) IsValue = λ x y. fine_left K M (fine_left K M (fine_turns {C = C} n body h)) in search (fine, looks, knows, fine_after_turn) depth 30

  pub fine_loop : {C : Fact N} → (x1 : Act N (Value N)) → Fine K M C x1 IsValue → Fine K M C (perform.loop K tree x1) IsValue
  unfolding perform.loop
  fine_loop {C = C} body h1 = search (fine, looks, knows, fine_turns) depth 30

  pub fine_perform : {C : Fact N} → (x1 : Caller N) → GoodCaller K M x1 → (x2 : ℕ) → (x3 : Asked N) → Gets K C (IsAsked x3) → Fine K M C (perform.perform K tree x1 x2 x3) IsValue
  unfolding perform.perform
  fine_perform {C = C} again h1 act (MakesList vs) g1 = let d_g1 : Gets K C (AreValues vs) = record { at = λ ts ls h. (g1.at ts ls h) } in search (fine, looks, knows, fine_make_list) depth 30
  fine_perform {C = C} again h1 act (Loops o) g1 = let d_g1 : Gets K C (IsValue o) = record { at = λ ts ls h. (g1.at ts ls h) } in search (fine, looks, knows, fine_loop) depth 30
  fine_perform {C = C} again h1 act (SendsTo only x v l) g1 = let d0_g1 : Gets K C (IsValue x) = record { at = λ ts ls h. (g1.at ts ls h).0 } in let d1_g1 : Gets K C (IsValue v) = record { at = λ ts ls h. (g1.at ts ls h).1 } in let d2_g1 : Gets K C (IsValue l) = record { at = λ ts ls h. (g1.at ts ls h).2 } in search (fine, looks, knows, fine_send_with) depth 30
  fine_perform {C = C} again h1 act (CallsTo x v l) g1 = let d0_g1 : Gets K C (IsValue x) = record { at = λ ts ls h. (g1.at ts ls h).0 } in let d1_g1 : Gets K C (IsValue v) = record { at = λ ts ls h. (g1.at ts ls h).1 } in let d2_g1 : Gets K C (IsValue l) = record { at = λ ts ls h. (g1.at ts ls h).2 } in search (fine, looks, knows, fine_call_with) depth 30
  fine_perform {C = C} again h1 act MakesPromise g1 = search (fine, looks, knows, fine_make_promise) depth 30
  fine_perform {C = C} again h1 act (Breaks t) g1 = let d_g1 : Gets K C (IsValue t) = record { at = λ ts ls h. (g1.at ts ls h) } in search (fine, looks, knows, fine_reply) depth 30
  fine_perform {C = C} again h1 act (Tells test x) g1 = let d_g1 : Gets K C (IsValue x) = record { at = λ ts ls h. (g1.at ts ls h) } in search (fine, looks, knows, fine_reply) depth 30
  fine_perform {C = C} again h1 act (Whens x o) g1 = let d0_g1 : Gets K C (IsValue x) = record { at = λ ts ls h. (g1.at ts ls h).0 } in let d1_g1 : Gets K C (IsValue o) = record { at = λ ts ls h. (g1.at ts ls h).1 } in search (fine, looks, knows, fine_when_resolved) depth 30
  fine_perform {C = C} again h1 act (IsStamped a x) g1 = search (fine, looks, knows) depth 30
  fine_perform {C = C} again h1 act (Coerces g x j) g1 = let d0_g1 : Gets K C (IsValue x) = record { at = λ ts ls h. (g1.at ts ls h).0 } in let d1_g1 : Gets K C (IsValue j) = record { at = λ ts ls h. (g1.at ts ls h).1 } in search (fine, looks, knows, fine_native_coerce) depth 30
  fine_perform {C = C} again h1 act (AddsNull g) g1 = let d_g1 : Gets K C (IsValue g) = record { at = λ ts ls h. (g1.at ts ls h) } in search (fine, looks, knows, fine_reply) depth 30
  fine_perform {C = C} again h1 act NoMethod g1 = search (fine, looks, knows) depth 30
  fine_perform {C = C} again h1 act other g1 = search (fine, looks, knows, fine_reply) depth 30

  pub fine_leave : {C : Fact N} → {A : Type 0} → {G : A → Fact N} → (x1 : ℕ) → (x2 : Act N A) → Fine K M C x2 G → Fine K M C (calls.leave K tree {A = A} x1 x2) G
  unfolding calls.leave
  fine_leave {C = C} j m h2 = search (fine, looks, knows) depth 30

  pub fine_leaving : {C : Fact N} → {A : Type 0} → {G : A → Fact N} → (n : ℕ) → (m : Act N A) → Fine K M C m G → Fine K M C (calls.leaving K tree {A = A} n m) G
  unfolding calls.leaving
  fine_leaving {C = C} {G = G} n m h = fine_ending K M G h (λ a. fine_leave n (give a) (fine_give K M a (got K C (G a)))) (λ p. fine_leave n (throw p) (fine_throw K M p)) (λ k v. fine_leave n (eject k v) (fine_eject K M k v (got K C (IsValue v))))

  pub fine_audit : {C : Fact N} → (x1 : Caller N) → GoodCaller K M x1 → (x2 : ℕ) → (x3 : View N) → Gets K C (IsView x3) → (x4 : Value N) → Gets K C (IsValue x4) → (x5 : Place N) → Fine K M C (calls.audit K tree x1 x2 x3 x4 x5) nothing
  unfolding calls.audit
  fine_audit {C = C} again h1 act view g1 a g2 Near = search (fine, looks, knows, fine_leaving) depth 30
  fine_audit {C = C} again h1 act view g1 a g2 _ = search (fine, looks, knows) depth 30

  prim_number : (n : ℕ) → ◌≡◌ {A = Value N} (Prim n) deep_frozen → n ≡ 17
  prim_number n e = cc

  by_its_rule : (n : ℕ) (fs : List (FreeName N)) → n ≡ 17 → scopes.approves (primitive n) fs ≡ true → meets DeepFrozen fs ≡ true
  unfolding scopes.approves scopes.rule_of primitive native.numbered native.primitives
  by_its_rule n fs e d = subst (λ (k : ℕ). scopes.approves (primitive k) fs ≡ true) e d

  no_prim : (n : N) → Ref n ≡ deep_frozen → ⊥
  no_prim n e = cc

  pub fine_verdict : {C : Fact N} → (again : Caller N) → GoodCaller K M again → (act : ℕ) → (view : View N) → Gets K C (IsView view) → (a : Value N) → Gets K C (IsValue a) → (y : Value N) → Fine K M C (calls.verdict K tree again act view a y) (λ b. Approves view.free y b)
  unfolding calls.verdict
  fine_verdict {C = C} again h1 act view g1 a g2 (Prim n) = fine_if K M (scopes.is_auditor (primitive n)) (fine_give K M _ (record { at = λ ts ls c e d. by_its_rule n view.free (prim_number n e) d })) (fine_throw K M _)
  fine_verdict {C = C} again h1 act view g1 a g2 (Ref n) = let all : Fine K M C (calls.verdict K tree again act view a (Ref n)) nothing = search (fine, looks, knows, fine_audit) depth 30 in fine_more K M nothing (λ b. Approves view.free (Ref n) b) all (λ b. record { at = λ ts ls c e. absurd (no_prim n e) })
  fine_verdict {C = C} again h1 act view g1 a g2 other = fine_throw K M _

  pub any_verdict : {C : Fact N} → (again : Caller N) → GoodCaller K M again → (act : ℕ) → (view : View N) → Gets K C (IsView view) → (a : Value N) → Gets K C (IsValue a) → (y : Value N) → Fine K M C (calls.verdict K tree again act view a y) nothing
  any_verdict {C = C} again h1 act view g1 a g2 y = fine_more K M (λ b. Approves view.free y b) nothing (fine_verdict again h1 act view g1 a g2 y) (λ b. got_nothing K (Approves view.free y b))

  among_meets : (fs : List (FreeName N)) (y : Value N) (ys : List (Value N)) → (y ≡ deep_frozen → meets DeepFrozen fs ≡ true) → (IsAmong deep_frozen ys → meets DeepFrozen fs ≡ true) → (deep_frozen ≡ y) ⊎ IsAmong deep_frozen ys → meets DeepFrozen fs ≡ true
  among_meets fs y ys f g (inl e) = f (sym e)
  among_meets fs y ys f g (inr e) = g e

  stamped : (ls : Lists N) (fs : List (FreeName N)) (b : Bool) (y : Value N) (ys : List (Value N)) → IsThere ls y → (y ≡ deep_frozen → b ≡ true → meets DeepFrozen fs ≡ true) → AreThere ls ys → (IsAmong deep_frozen ys → meets DeepFrozen fs ≡ true)
      → AreThere ls (calls.with_stamp K tree b y ys) × (IsAmong deep_frozen (calls.with_stamp K tree b y ys) → meets DeepFrozen fs ≡ true)
  unfolding calls.with_stamp
  stamped ls fs true y ys i f h k = ((i, h), λ a. among_meets fs y ys (λ e. f e refl) k a)
  stamped ls fs false y ys i f h k = (h, k)

  pub fine_ask_all : {C : Fact N} → (again : Caller N) → GoodCaller K M again → (act : ℕ) → (view : View N) → Gets K C (IsView view) → (xs : List (Value N)) → Gets K C (AreValues xs) → Fine K M C (calls.ask_all K tree again act view xs) (λ ys. Also (AreValues ys) (StampsMeet view.free ys))
  unfolding calls.ask_all
  fine_ask_all {C = C} again h1 act view g1 [] g2 = fine_give K M [] (record { at = λ ts ls c. (tt, λ e. absurd e) })
  fine_ask_all {C = C} again h1 act view g1 (a ∷ as') g2 = let da : Gets K C (IsValue a) = record { at = λ ts ls h. (g2.at ts ls h).0 } in let ds : Gets K C (AreValues as') = record { at = λ ts ls h. (g2.at ts ls h).1 } in
      fine_bind K M IsValue (look_follow K M a da) (λ y. fine_bind K M (λ b. Approves view.free y b) (fine_verdict {C = Also C (IsValue y)} again h1 act view (got_left K C (IsValue y) (IsView view) g1) a (got_left K C (IsValue y) (IsValue a) da) y)
      (λ b. fine_bind K M (λ ys. Also (AreValues ys) (StampsMeet view.free ys)) (fine_ask_all {C = Also (Also C (IsValue y)) (Approves view.free y b)} again h1 act view (got_left K (Also C (IsValue y)) (Approves view.free y b) (IsView view) (got_left K C (IsValue y) (IsView view) g1)) as' (got_left K (Also C (IsValue y)) (Approves view.free y b) (AreValues as') (got_left K C (IsValue y) (AreValues as') ds)))
      (λ ys. fine_give K M _ (record { at = λ ts ls c. stamped ls view.free b y ys c.0.0.1 c.0.1 c.1.0 c.1.1 }))))

  pub fine_build : {C : Fact N} → (act : ℕ) → (is : List Item) → (fs : Lists N) → Gets K C (AreLists fs) → Fine K M C (calls.build K tree act is fs) IsValue
  unfolding calls.build
  fine_build {C = C} act (Begin ∷ is) fs g = fine_build {C = C} act is ([] ∷ fs) (got_lists K C fs g)
  fine_build {C = C} act (Word w ∷ is) fs g = fine_build {C = C} act is (calls.with_item K tree (Text w) fs) (got_item K tree C (Text w) fs (got_text K C w) g)
  fine_build {C = C} act (Fixing l ∷ is) fs g = fine_build {C = C} act is (calls.with_item K tree (literal_value l) fs) (got_item K tree C (literal_value l) fs (got_literal K C l) g)
  fine_build {C = C} act (End ∷ []) (f ∷ fs) g = fine_make_list act f (record { at = λ ts ls h. (g.at ts ls h).0 })
  fine_build {C = C} act (End ∷ i ∷ is) (f ∷ fs) g = fine_bind K M IsValue (fine_make_list act f (record { at = λ ts ls h. (g.at ts ls h).0 })) (λ v. fine_build {C = Also C (IsValue v)} act (i ∷ is) (calls.with_item K tree v fs) (got_item K tree (Also C (IsValue v)) v fs (got K C (IsValue v)) (record { at = λ ts ls h. (g.at ts ls h.0).1 })))
  fine_build {C = C} act _ _ g = fine_stop K M _

  pub fine_audition_live : {C : Fact N} → (x1 : Caller N) → GoodCaller K M x1 → (x2 : ℕ) → (x3 : View N) → Gets K C (IsView x3) → (x4 : AuditionAsk N) → Gets K C (IsAuditionAsk x4) → Fine K M C (calls.audition_live K tree x1 x2 x3 x4) IsValue
  unfolding calls.audition_live
  fine_audition_live {C = C} again h1 act view g1 GetsForm g2 = search (fine, looks, knows, fine_build) depth 30
  fine_audition_live {C = C} again h1 act view g1 (GetsGuard x) g2 = let d_g2 : Gets K C (IsValue x) = record { at = λ ts ls h. (g2.at ts ls h) } in search (fine, looks, knows, fine_reply) depth 30
  fine_audition_live {C = C} again h1 act view g1 (Asks a) g2 = let d_g2 : Gets K C (IsValue a) = record { at = λ ts ls h. (g2.at ts ls h) } in search (fine, looks, knows, any_verdict) depth 30
  fine_audition_live {C = C} again h1 act view g1 NoAuditionAsk g2 = search (fine, looks, knows) depth 30

  pub fine_audition_answer : {C : Fact N} → (x1 : Caller N) → GoodCaller K M x1 → (x2 : ℕ) → (x3 : Bool) → (x4 : View N) → Gets K C (IsView x4) → (x5 : AuditionAsk N) → Gets K C (IsAuditionAsk x5) → Fine K M C (calls.audition_answer K tree x1 x2 x3 x4 x5) IsValue
  unfolding calls.audition_answer
  fine_audition_answer {C = C} again h1 act live view g1 NoAuditionAsk g2 = search (fine, looks, knows) depth 30
  fine_audition_answer {C = C} again h1 act true view g1 ask g2 = search (fine, looks, knows, fine_audition_live) depth 30
  fine_audition_answer {C = C} again h1 act false view g1 ask g2 = search (fine, looks, knows) depth 30

  pub fine_ejector_answer : {C : Fact N} → (x1 : ℕ) → (x2 : Bool) → (x3 : Option (Value N)) → Gets K C (MayValue x3) → Fine K M C (calls.ejector_answer K tree x1 x2 x3) IsValue
  unfolding calls.ejector_answer
  fine_ejector_answer {C = C} i live None g1 = search (fine, looks, knows) depth 30
  fine_ejector_answer {C = C} i true (Some v) g1 = let d_g1 : Gets K C (IsValue v) = record { at = λ ts ls h. (g1.at ts ls h) } in search (fine, looks, knows) depth 30
  fine_ejector_answer {C = C} i false (Some v) g1 = let d_g1 : Gets K C (IsValue v) = record { at = λ ts ls h. (g1.at ts ls h) } in search (fine, looks, knows) depth 30

  then_null : (s : Vat N) (d : Done N (Unit {0})) → Ends K M nothing s d → Ends K M IsValue s (and_then d (λ _. give Null))
  unfolding and_then give
  then_null s (Gives a t) h = (h.0, h.1, tt)
  then_null s other h = h

  -- how an act ends from each state in which a name did neither settle nor wait
  abbrev OpenEnds : Fact N → N → Act N (Unit {0}) → Type 0
  OpenEnds C p m = (s : Vat N) → M.holds s → Holds K s.things s.lists C → standing_of K s.known p ≡ Unsettled → Ends K M nothing s (m s)

  open_ends : (C : Fact N) (p : N) (m : Act N (Unit {0})) → OpenEnds C p m → (s : Vat N) → M.holds s → Holds K s.things s.lists C → (w : Standing N) → standing_of K s.known p ≡ w → Ends K M IsValue s (calls.where_unresolved K tree w m s)
  unfolding calls.where_unresolved ◌>>◌ throw
  open_ends C p m ends s h c Unsettled e = then_null s (m s) (ends s h c e)
  open_ends C p m ends s h c other e = (grows_same s.things s.lists, h)

  -- a resolver resolves and breaks none but a name that did neither settle nor wait
  fine_open : {C : Fact N} (p : N) (m : Act N (Unit {0})) → OpenEnds C p m → Fine K M C (look (λ s. standing_of K s.known p) >>= (λ w. calls.where_unresolved K tree w m)) IsValue
  unfolding ◌>>=◌ look and_then
  fine_open {C = C} p m ends = record { after = λ s h c. open_ends C p m ends s h c (standing_of K s.known p) refl }

  pub fine_smash : {C : Fact N} → (x1 : N) → Gets K C (resolvable x1) → (x2 : Value N) → Gets K C (IsValue x2) → Fine K M C (calls.smash K tree x1 x2) IsValue
  unfolding calls.smash
  fine_smash {C = C} p own (Text t) g1 = fine_open p (settle K p (Broken t)) (serves.smashes C p t own)
  fine_smash {C = C} p own _ g1 = search (fine, looks, knows) depth 30

  pub fine_resolver_answer : {C : Fact N} → (x1 : N) → Gets K C (resolvable x1) → (x2 : ResolverAsk N) → Gets K C (IsResolverAsk x2) → Fine K M C (calls.resolver_answer K tree x1 x2) IsValue
  unfolding calls.resolver_answer
  fine_resolver_answer {C = C} p own (Resolves x) g1 = fine_open p (resolve K p x) (serves.resolves C p x own (record { at = λ ts ls h. g1.at ts ls h }))
  fine_resolver_answer {C = C} p own (Smashes x) g1 = let d_g1 : Gets K C (IsValue x) = record { at = λ ts ls h. (g1.at ts ls h) } in search (fine, looks, knows, fine_smash) depth 30
  fine_resolver_answer {C = C} p own NoResolverAsk g1 = search (fine, looks, knows) depth 30

  pub fine_bind_all : {C : Fact N} → (x1 : Evaluator N) → GoodEvaluator K M x1 → (x2 : List ℕ) → (x3 : List (Value N)) → Gets K C (AreValues x3) → (x4 : Value N) → Gets K C (IsValue x4) → (x5 : Scope N) → Gets K C (AreNouns x5.nouns) → Fine K M C (calls.bind_all K tree x1 x2 x3 x4 x5) scope
  unfolding calls.bind_all
  fine_bind_all {C = C} rec good [] vs g1 j g2 here g3 = search (fine, looks, knows) depth 30
  fine_bind_all {C = C} rec good (p ∷ ps) [] g1 j g2 here g3 = search (fine, looks, knows) depth 30
  fine_bind_all {C = C} rec good (p ∷ ps) (v ∷ vs) g1 j g2 here g3 = let d0_g1 : Gets K C (IsValue v) = record { at = λ ts ls h. (g1.at ts ls h).0 } in let d1_g1 : Gets K C (AreValues vs) = record { at = λ ts ls h. (g1.at ts ls h).1 } in let rest : (D : Fact N) (next : Scope N) → Gets K D (AreValues vs) → Gets K D (IsValue j) → Gets K D (AreNouns next.nouns) → Fine K M D (calls.bind_all K tree rec ps vs j next) scope = λ D next a b c. fine_bind_all {C = D} rec good ps vs a j b next c in search (fine, looks, knows, good.pattern) depth 30

  pub fine_new_ejector : {C : Fact N} → (x1 : ℕ) → Fine K M C (calls.new_ejector K tree x1) nothing
  unfolding calls.new_ejector
  fine_new_ejector {C = C} act = search (fine, looks, knows) depth 30

  pub fine_hand_over : {C : Fact N} → (x1 : ℕ) → (x2 : ℕ) → (x3 : Act N (Value N)) → Fine K M C x3 IsValue → (x4 : ℕ) → (x5 : Value N) → Gets K C (IsValue x5) → Fine K M C (calls.hand_over K tree x1 x2 x3 x4 x5) IsValue
  unfolding calls.hand_over
  fine_hand_over {C = C} act j next h3 n v g1 = search (fine, looks, knows) depth 30

  pub fine_matched : {C : Fact N} → (x1 : Evaluator N) → GoodEvaluator K M x1 → (x2 : ℕ) → (x3 : ℕ) → (x4 : ℕ) → (x5 : Act N (Value N)) → Fine K M C x5 IsValue → (x6 : Act N (Scope N)) → Fine K M C x6 scope → Fine K M C (calls.matched K tree x1 x2 x3 x4 x5 x6) IsValue
  unfolding calls.matched
  fine_matched {C = C} rec good act j body next h5 m h6 = let later : (v : Value N) → Fine K M (Also C (IsValue v)) next IsValue = λ v. fine_left K M h5 in search (fine, looks, knows, fine_leave, fine_hand_over, good.expression) depth 30

  pub fine_match_all : {C : Fact N} → (x1 : Evaluator N) → GoodEvaluator K M x1 → (x2 : List Case) → (x3 : Value N) → Gets K C (IsValue x3) → (x4 : Scope N) → Gets K C (AreNouns x4.nouns) → Fine K M C (calls.match_all K tree x1 x2 x3 x4) IsValue
  unfolding calls.match_all
  fine_match_all {C = C} rec good [] v g1 here g2 = search (fine, looks, knows) depth 30
  fine_match_all {C = C} rec good (m ∷ ms) v g1 here g2 = let rest : Fine K M C (λ s. calls.match_all K tree rec ms v here s) IsValue = fine_match_all {C = C} rec good ms v g1 here g2 in search (fine, looks, knows, fine_new_ejector, fine_matched, good.pattern) depth 30

  pub fine_try_matchers : {C : Fact N} → (x1 : Evaluator N) → GoodEvaluator K M x1 → (x2 : List Case) → (x3 : Words) → (x4 : List (Value N)) → Gets K C (AreValues x4) → (x5 : Scope N) → Gets K C (AreNouns x5.nouns) → Fine K M C (calls.try_matchers K tree x1 x2 x3 x4 x5) IsValue
  unfolding calls.try_matchers
  fine_try_matchers {C = C} rec good [] verb args g1 here g2 = search (fine, looks, knows) depth 30
  fine_try_matchers {C = C} rec good (m ∷ ms) verb args g1 here g2 = search (fine, looks, knows, fine_make_list, fine_match_all) depth 30

  pub fine_run_body : {C : Fact N} → (x1 : Evaluator N) → GoodEvaluator K M x1 → (x2 : List Case) → (x3 : Words) → (x4 : Option Body) → (x5 : List (Value N)) → Gets K C (AreValues x5) → (x6 : Scope N) → Gets K C (AreNouns x6.nouns) → Fine K M C (calls.run_body K tree x1 x2 x3 x4 x5 x6) IsValue
  unfolding calls.run_body
  fine_run_body {C = C} rec good ms verb (Some b) args g1 here g2 = search (fine, looks, knows, fine_bind_all, good.expression) depth 30
  fine_run_body {C = C} rec good ms verb None args g1 here g2 = search (fine, looks, knows, fine_try_matchers) depth 30

  pub fine_run_object : {C : Fact N} → (x1 : Evaluator N) → GoodEvaluator K M x1 → (x2 : List ℕ) → (x3 : Words) → (x4 : List (Value N)) → Gets K C (AreValues x4) → (x5 : Scope N) → Gets K C (AreNouns x5.nouns) → Fine K M C (calls.run_object K tree x1 x2 x3 x4 x5) IsValue
  unfolding calls.run_object
  fine_run_object {C = C} rec good members verb args g1 here g2 = search (fine, looks, knows, fine_run_body) depth 30

  pub fine_thing_answer : {C : Fact N} → (x1 : Caller N) → GoodCaller K M x1 → (x2 : ℕ) → (x3 : ℕ) → (x4 : Thing N) → Gets K C (IsThing x4) → (x5 : Words) → (x6 : List (Value N)) → Gets K C (AreValues x6) → Fine K M C (calls.thing_answer K tree x1 x2 x3 x4 x5 x6) IsValue
  unfolding calls.thing_answer
  fine_thing_answer {C = C} again h1 act i (Ejector live) g1 verb args g2 = search (fine, looks, knows, fine_ejector_answer) depth 30
  fine_thing_answer {C = C} again h1 act i (Audition live view) g1 verb args g2 = let d_g1 : Gets K C (IsView view) = record { at = λ ts ls h. (g1.at ts ls h) } in search (fine, looks, knows, fine_audition_answer) depth 30
  fine_thing_answer {C = C} again h1 act i (Resolver p) g1 verb args g2 = search (fine, looks, knows, fine_resolver_answer) depth 30
  fine_thing_answer {C = C} again h1 act i (Made node caught stamps) g1 verb args g2 = search (fine, looks, knows) depth 30

  pub fine_call_thing : {C : Fact N} → (x1 : Evaluator N) → GoodEvaluator K M x1 → (x2 : Caller N) → GoodCaller K M x2 → (x3 : ℕ) → (x4 : Value N) → Gets K C (IsValue x4) → (x5 : ℕ) → (x6 : Option (Thing N)) → Gets K C (MayThing x6) → (x7 : Words) → (x8 : List (Value N)) → Gets K C (AreValues x8) → Fine K M C (calls.call_thing K tree x1 x2 x3 x4 x5 x6 x7 x8) IsValue
  unfolding calls.call_thing
  fine_call_thing {C = C} rec good again h2 act x g1 i None g2 verb args g3 = search (fine, looks, knows) depth 30
  fine_call_thing {C = C} rec good again h2 act x g1 i (Some (Made node caught stamps)) g2 verb args g3 = let dc_g2 : Gets K C (AreNouns caught) = record { at = λ ts ls h. (g2.at ts ls h).0 } in search (fine, looks, knows, fine_ended, fine_run_object) depth 30
  fine_call_thing {C = C} rec good again h2 act x g1 i (Some t) g2 verb args g3 = let dt_g2 : Gets K C (IsThing t) = record { at = λ ts ls h. (g2.at ts ls h) } in search (fine, looks, knows, fine_with_lines, fine_thing_answer) depth 30

  pub fine_call_spot : {C : Fact N} → (x1 : Evaluator N) → GoodEvaluator K M x1 → (x2 : Caller N) → GoodCaller K M x2 → (x3 : ℕ) → (x4 : Value N) → Gets K C (IsValue x4) → (x5 : Spot) → (x6 : Words) → (x7 : List (Value N)) → Gets K C (AreValues x7) → Fine K M C (calls.call_spot K tree x1 x2 x3 x4 x5 x6 x7) IsValue
  unfolding calls.call_spot
  fine_call_spot {C = C} rec good again h2 act x g1 (Own i) verb args g2 = search (fine, looks, knows, fine_call_thing) depth 30
  fine_call_spot {C = C} rec good again h2 act x g1 _ verb args g2 = search (fine, looks, knows) depth 30

  pub fine_call_value : {C : Fact N} → (x1 : Evaluator N) → GoodEvaluator K M x1 → (x2 : Caller N) → GoodCaller K M x2 → (x3 : ℕ) → (x4 : Value N) → Gets K C (IsValue x4) → (x5 : Value N) → Gets K C (IsValue x5) → (x6 : Words) → (x7 : List (Value N)) → Gets K C (AreValues x7) → Fine K M C (calls.call_value K tree x1 x2 x3 x4 x5 x6 x7) IsValue
  unfolding calls.call_value
  fine_call_value {C = C} rec good again h2 act x g1 (Ref n) g2 verb args g3 = search (fine, looks, knows, fine_call_spot, fine_perform, fine_with_lines, fine_data_answer) depth 30
  fine_call_value {C = C} rec good again h2 act x g1 other g2 verb args g3 = search (fine, looks, knows, fine_call_spot, fine_perform, fine_with_lines, fine_data_answer) depth 30

  pub fine_call_one : {C : Fact N} → (x1 : Evaluator N) → GoodEvaluator K M x1 → (x2 : Caller N) → GoodCaller K M x2 → (x3 : ℕ) → (x4 : Value N) → Gets K C (IsValue x4) → (x5 : Words) → (x6 : List (Value N)) → Gets K C (AreValues x6) → Fine K M C (calls.call_one K tree x1 x2 x3 x4 x5 x6) IsValue
  unfolding calls.call_one
  fine_call_one {C = C} rec good again h2 act x g1 verb args g2 = search (fine, looks, knows, fine_call_value) depth 30

  pub fine_call_at : {C : Fact N} → (x1 : ℕ) → (x2 : Evaluator N) → GoodEvaluator K M x2 → (x3 : ℕ) → (x4 : Value N) → Gets K C (IsValue x4) → (x5 : Words) → (x6 : List (Value N)) → Gets K C (AreValues x6) → Fine K M C (calls.call_at K tree x1 x2 x3 x4 x5 x6) IsValue
  unfolding calls.call_at
  fine_call_at {C = C} zero rec good act x g1 verb args g2 = search (fine, looks, knows) depth 30
  fine_call_at {C = C} (suc d) rec good act x g1 verb args g2 = fine_call_one rec good (λ a y v xs. calls.call_at K tree d rec a y v xs) (λ D a y g v xs k. fine_call_at {C = D} d rec good a y g v xs k) act x g1 verb args g2

  pub fine_call : {C : Fact N} → (x1 : Evaluator N) → GoodEvaluator K M x1 → (x2 : ℕ) → (x3 : Value N) → Gets K C (IsValue x3) → (x4 : Words) → (x5 : List (Value N)) → Gets K C (AreValues x5) → Fine K M C (calls.call K tree x1 x2 x3 x4 x5) IsValue
  unfolding calls.call
  fine_call {C = C} rec good act x g1 verb args g2 = search (fine, looks, knows, fine_call_at) depth 30

  pub fine_turn_thing : {C : Fact N} → (x1 : Evaluator N) → GoodEvaluator K M x1 → (x2 : ℕ) → (x3 : ℕ) → (x4 : Option (Thing N)) → Gets K C (MayThing x4) → (x5 : Words) → (x6 : List (Value N)) → Gets K C (AreValues x6) → Fine K M C (calls.turn_thing K tree x1 x2 x3 x4 x5 x6) IsValue
  unfolding calls.turn_thing
  fine_turn_thing {C = C} rec good act i None g1 verb args g2 = search (fine, looks, knows) depth 30
  fine_turn_thing {C = C} rec good act i (Some (Made node caught stamps)) g1 verb args g2 = let dc_g1 : Gets K C (AreNouns caught) = record { at = λ ts ls h. (g1.at ts ls h).0 } in search (fine, looks, knows, fine_run_object) depth 30
  fine_turn_thing {C = C} rec good act i (Some t) g1 verb args g2 = let dt_g1 : Gets K C (IsThing t) = record { at = λ ts ls h. (g1.at ts ls h) } in search (fine, looks, knows, fine_thing_answer, fine_call) depth 30

  pub fine_turn_spot : {C : Fact N} → (x1 : Evaluator N) → GoodEvaluator K M x1 → (x2 : ℕ) → (x3 : Spot) → (x4 : Words) → (x5 : List (Value N)) → Gets K C (AreValues x5) → Fine K M C (calls.turn_spot K tree x1 x2 x3 x4 x5) IsValue
  unfolding calls.turn_spot
  fine_turn_spot {C = C} rec good act (Own i) verb args g1 = search (fine, looks, knows, fine_turn_thing) depth 30
  fine_turn_spot {C = C} rec good act _ verb args g1 = search (fine, looks, knows) depth 30

  pub fine_turn_value : {C : Fact N} → (x1 : Evaluator N) → GoodEvaluator K M x1 → (x2 : ℕ) → (x3 : Value N) → Gets K C (IsValue x3) → (x4 : Words) → (x5 : List (Value N)) → Gets K C (AreValues x5) → Fine K M C (calls.turn_value K tree x1 x2 x3 x4 x5) IsValue
  unfolding calls.turn_value
  fine_turn_value {C = C} rec good act (Ref n) g1 verb args g2 = search (fine, looks, knows, fine_turn_spot, fine_perform, fine_call, fine_data_answer) depth 30
  fine_turn_value {C = C} rec good act other g1 verb args g2 = search (fine, looks, knows, fine_turn_spot, fine_perform, fine_call, fine_data_answer) depth 30

  -- ---- making objects

  caught_one : (P : Binding N → Type 0) (x : Words) (o : Option (Bound N)) (rest : List (Binding N)) → MayBe (λ b. P (record { noun = x; bound = b })) o → AllOf P rest → AllOf P (elim o [ Some b ↦ record { noun = x; bound = b } ∷ rest | None ↦ rest ])
  caught_one P x (Some b) rest h k = (h, k)
  caught_one P x None rest h k = k

  caught_well : (ts : List (Thing N)) (ls : Lists N) (here : Scope N) (xs : List Words) → AllOf (NounWell K ts ls) here.nouns → AllOf (NounWell K ts ls) (scopes.captures here xs)
  unfolding scopes.captures
  caught_well ts ls here [] h = tt
  caught_well ts ls here (x ∷ xs) h = caught_one (NounWell K ts ls) x (scopes.bound_in here.nouns x) (scopes.captures here xs) (bound_well K ts ls here.nouns x h) (caught_well ts ls here xs h)

  both_true : (b c : Bool) → elim b [ true ↦ c | false ↦ false ] ≡ true → (b ≡ true) × (c ≡ true)
  both_true true c e = (refl, e)
  both_true false c e = absurd (false_true e)

  freedom_frozen : (ts : List (Thing N)) (ls : Lists N) (o : Option (Bound N)) (x : Words) → MayBe (BoundWell K ts ls) o → scopes.frozen_freedom (scopes.freedom_of_bound o x) ≡ true → MayBe (FrozenCapture K ts ls) o
  unfolding scopes.frozen_freedom scopes.freedom_of_bound
  freedom_frozen ts ls (Some (Fixed v g)) x h e = h.2 e
  freedom_frozen ts ls (Some (Slot k)) x h e = absurd (false_true e)
  freedom_frozen ts ls None x h e = tt

  final_frozen : (ts : List (Thing N)) (ls : Lists N) (b : Bool) (o : Option (Bound N)) (x : Words) (v : Value N) → MayBe (BoundWell K ts ls) o → IsFrozen K ts ls v
      → scopes.frozen_freedom (elim b [ true ↦ IsItself | false ↦ scopes.freedom_of_bound o x ]) ≡ true → MayBe (FrozenCapture K ts ls) (elim b [ true ↦ Some (Fixed v any_guard) | false ↦ o ])
  final_frozen ts ls true o x v h f e = f
  final_frozen ts ls false o x v h f e = freedom_frozen ts ls o x h e

  name_frozen : (ts : List (Thing N)) (ls : Lists N) (p : Option Node) (here : Scope N) (v : Value N) (x : Words) → AllOf (NounWell K ts ls) here.nouns → IsFrozen K ts ls v
      → scopes.frozen_freedom (scopes.freedom_of (scopes.own_noun p) here.nouns x) ≡ true → MayBe (FrozenCapture K ts ls) (scopes.bound_in (scopes.named p v here).nouns x)
  unfolding scopes.freedom_of scopes.own_noun scopes.is_own scopes.named scopes.with_noun scopes.bound_in
  name_frozen ts ls (Some (Final y g)) here v x h f e = final_frozen ts ls (same_words y x) (scopes.bound_in here.nouns x) x v (bound_well K ts ls here.nouns x h) f e
  name_frozen ts ls _ here v x h f e = freedom_frozen ts ls (scopes.bound_in here.nouns x) x (bound_well K ts ls here.nouns x h) e

  all_frozen : (ts : List (Thing N)) (ls : Lists N) (p : Option Node) (here : Scope N) (v : Value N) (xs : List Words) → AllOf (NounWell K ts ls) here.nouns → IsFrozen K ts ls v
      → meets DeepFrozen (scopes.free_names (scopes.own_noun p) here.nouns xs) ≡ true → AllOf (λ b. FrozenCapture K ts ls b.bound) (scopes.captures (scopes.named p v here) xs)
  unfolding scopes.captures scopes.free_names meets scopes.fits
  all_frozen ts ls p here v [] h f e = tt
  all_frozen ts ls p here v (x ∷ xs) h f e = let parts : (scopes.frozen_freedom (scopes.freedom_of (scopes.own_noun p) here.nouns x) ≡ true) × (meets DeepFrozen (scopes.free_names (scopes.own_noun p) here.nouns xs) ≡ true) = both_true (scopes.frozen_freedom (scopes.freedom_of (scopes.own_noun p) here.nouns x)) (meets DeepFrozen (scopes.free_names (scopes.own_noun p) here.nouns xs)) e in
      caught_one (λ b. FrozenCapture K ts ls b.bound) x (scopes.bound_in (scopes.named p v here).nouns x) (scopes.captures (scopes.named p v here) xs) (name_frozen ts ls p here v x h f parts.0) (all_frozen ts ls p here v xs h f parts.1)

  named_well : (ts : List (Thing N)) (ls : Lists N) (p : Option Node) (n : N) (here : Scope N) → AllOf (NounWell K ts ls) here.nouns → AllOf (NounWell K ts ls) (scopes.named p (Ref n) here).nouns
  unfolding scopes.named scopes.with_noun any_guard frozen_guard freezes primitive native.numbered native.primitives
  named_well ts ls (Some (Final y g)) n here h = ((tt, tt, λ e. absurd (false_true e)), h)
  named_well ts ls _ n here h = h

  made_ends : (node : ℕ) (caught : List (Binding N)) (stamps : List (Value N)) (rest : Act N (Answer N)) (C : Fact N) (s : Vat N) → M.holds s
      → ThingWell K (s.things ++ Made node caught stamps ∷ []) s.lists (Made node caught stamps) → Holds K (s.things ++ Made node caught stamps ∷ []) s.lists C → Fine K M C rest answer
      → Ends K M answer s ((new_thing (Made node caught stamps) >> rest) s)
  unfolding new_thing ◌>>◌ and_then
  made_ends node caught stamps rest C s h w c r = let us : List (Thing N) = s.things ++ Made node caught stamps ∷ [] in let t : Vat N = record s { things = us } in let grown = grows_things s.things s.lists (Made node caught stamps) in
      widen K M answer s t (rest t) grown (r.after t (M.quiet s t (refl, refl, refl, inl refl, refl, refl, refl, refl) h (let i = M.sound s h in record { things = all_end _ s.things (Made node caught stamps) (all_map (thing_up s.things s.lists us s.lists grown K) s.things i.things) w; slots = i.slots; lists = i.lists; stacked = i.stacked; queue = i.queue; known = i.known; outbox = i.outbox })) c)

  object_ends : (node : ℕ) (p : Option Node) (xs : List Words) (stamps : List (Value N)) (here : Scope N) (s : Vat N) → M.holds s → AllOf (NounWell K s.things s.lists) here.nouns → AreThere s.lists stamps
      → (IsAmong deep_frozen stamps → meets DeepFrozen (scopes.free_names (scopes.own_noun p) here.nouns xs) ≡ true)
      → Ends K M answer s (calls.object_as K tree node p xs stamps (K.object (length s.things)) here s)
  unfolding calls.object_as calls.object_in calls.object_made
  object_ends node p xs stamps here s h nouns i m =
      let me : N = K.object (length s.things) in let after : Scope N = scopes.named p (Ref me) here in let caught : List (Binding N) = scopes.captures after xs in
      let us : List (Thing N) = s.things ++ Made node caught stamps ∷ [] in let grown = grows_things s.things s.lists (Made node caught stamps) in
      let here_now : AllOf (NounWell K us s.lists) here.nouns = all_map (noun_up s.things s.lists us s.lists grown K) here.nouns nouns in
      let after_now : AllOf (NounWell K us s.lists) after.nouns = named_well us s.lists p me here here_now in
      made_ends node caught stamps (tell (ObjectMade here.act me (scopes.name_of p) (map (λ b. b.bound) caught) stamps) >> scopes.answered after (Ref me)) (AreNouns after.nouns) s h
      (caught_well us s.lists after xs after_now, i, λ a. all_frozen us s.lists p here (Ref me) xs here_now (length s.things, spots (length s.things), (node, caught, stamps, get_end s.things (Made node caught stamps), a)) (m a))
      after_now (then_unit K M (fine_tell K M _) (fine_answered after (got_itself K (AreNouns after.nouns)) (Ref me) (got_ref K (AreNouns after.nouns) me)))

  object_after : {C : Fact N} (node : ℕ) (p : Option Node) (xs : List Words) (stamps : List (Value N)) (here : Scope N) → Gets K C (AreNouns here.nouns) → Gets K C (AreValues stamps) → Gets K C (StampsMeet (scopes.free_names (scopes.own_noun p) here.nouns xs) stamps)
      → Fine K M C (look (λ s. length s.things) >>= (λ n. calls.object_as K tree node p xs stamps (K.object n) here)) answer
  unfolding ◌>>=◌ look and_then
  object_after node p xs stamps here g i m = record { after = λ s h c. object_ends node p xs stamps here s h (g.at s.things s.lists c) (i.at s.things s.lists c) (m.at s.things s.lists c) }

  pub fine_make_object : {C : Fact N} → (again : Caller N) → GoodCaller K M again → (node : ℕ) → (p : Option Node) → (xs : List Words) → (auditors : List (Value N)) → Gets K C (AreValues auditors) → (here : Scope N) → Gets K C (AreNouns here.nouns) → Fine K M C (calls.make_object K tree again node p xs auditors here) answer
  unfolding calls.make_object calls.view_of
  fine_make_object {C = C} again h1 node p xs auditors g1 here g2 = let fs : List (FreeName N) = scopes.free_names (scopes.own_noun p) here.nouns xs in
      fine_bind K M (λ ys. Also (AreValues ys) (StampsMeet fs ys)) (fine_ask_all again h1 here.act (calls.view_of K tree node p xs here) (got_view K tree C node p xs here g2) auditors g1)
      (λ stamps. object_after node p xs stamps here (got_left K C (Also (AreValues stamps) (StampsMeet fs stamps)) (AreNouns here.nouns) g2) (record { at = λ ts ls c. c.1.0 }) (record { at = λ ts ls c. c.1.1 }))

  pub fine_all_of : {C : Fact N} → (x1 : Evaluator N) → GoodEvaluator K M x1 → (x2 : List ℕ) → (x3 : Scope N) → Gets K C (AreNouns x3.nouns) → Fine K M C (eval.all_of K tree x1 x2 x3) answers
  unfolding eval.all_of
  fine_all_of {C = C} rec good [] here g1 = search (fine, looks, knows) depth 30
  fine_all_of {C = C} rec good (e ∷ es) here g1 = let rest : (D : Fact N) (next : Scope N) → Gets K D (AreNouns next.nouns) → Fine K M D (eval.all_of K tree rec es next) answers = λ D next a. fine_all_of {C = D} rec good es next a in search (fine, looks, knows, good.expression) depth 30

  pub fine_last_of : {C : Fact N} → (x1 : Evaluator N) → GoodEvaluator K M x1 → (x2 : Answer N) → Gets K C (Also (IsValue x2.value) (AreNouns x2.scope.nouns)) → (x3 : List ℕ) → Fine K M C (eval.last_of K tree x1 x2 x3) answer
  unfolding eval.last_of
  fine_last_of {C = C} rec good x g1 [] = search (fine, looks, knows) depth 30
  fine_last_of {C = C} rec good x g1 (e ∷ es) = let dn : Gets K C (AreNouns x.scope.nouns) = record { at = λ ts ls h. (g1.at ts ls h).1 } in let rest : (D : Fact N) (y : Answer N) → Gets K D (Also (IsValue y.value) (AreNouns y.scope.nouns)) → Fine K M D (eval.last_of K tree rec y es) answer = λ D y a. fine_last_of {C = D} rec good y a es in search (fine, looks, knows, good.expression) depth 30

  pub fine_exit_of : {C : Fact N} → (x1 : Evaluator N) → GoodEvaluator K M x1 → (x2 : Option ℕ) → (x3 : Scope N) → Gets K C (AreNouns x3.nouns) → Fine K M C (eval.exit_of K tree x1 x2 x3) answer
  unfolding eval.exit_of
  fine_exit_of {C = C} rec good None here g1 = search (fine, looks, knows, fine_answered) depth 30
  fine_exit_of {C = C} rec good (Some j) here g1 = search (fine, looks, knows, good.expression) depth 30

  pub fine_caught_by : {C : Fact N} → (x1 : Evaluator N) → GoodEvaluator K M x1 → (x2 : Scope N) → Gets K C (AreNouns x2.nouns) → (x3 : Option (ℕ × ℕ)) → (x4 : Value N) → Gets K C (IsValue x4) → Fine K M C (eval.caught_by K tree x1 x2 x3 x4) answer
  unfolding eval.caught_by
  fine_caught_by {C = C} rec good here g1 None v g2 = search (fine, looks, knows, fine_answered) depth 30
  fine_caught_by {C = C} rec good here g1 (Some c) v g2 = search (fine, looks, knows, fine_answered, good.expression, good.pattern) depth 30

  pub fine_escaped : {C : Fact N} → (x1 : Evaluator N) → GoodEvaluator K M x1 → (x2 : ℕ) → (x3 : Scope N) → Gets K C (AreNouns x3.nouns) → (x4 : Option (ℕ × ℕ)) → (x5 : Act N (Answer N)) → Fine K M C x5 answer → Fine K M C (eval.escaped K tree x1 x2 x3 x4 x5) answer
  unfolding eval.escaped
  fine_escaped {C = C} rec good j here g1 c m h5 = search (fine, looks, knows, fine_leave, fine_answered, fine_caught_by) depth 30

  pub fine_handles : {C : Fact N} → (x1 : Evaluator N) → GoodEvaluator K M x1 → (x2 : ℕ) → (x3 : ℕ) → (x4 : Scope N) → Gets K C (AreNouns x4.nouns) → (x5 : Words) → Fine K M C (eval.handles K tree x1 x2 x3 x4 x5) answer
  unfolding eval.handles
  fine_handles {C = C} rec good p h here g1 t = search (fine, looks, knows, fine_answered, good.expression, good.pattern) depth 30

  pub fine_tried : {C : Fact N} → (x1 : Evaluator N) → GoodEvaluator K M x1 → (x2 : ℕ) → (x3 : ℕ) → (x4 : Scope N) → Gets K C (AreNouns x4.nouns) → (x5 : Act N (Answer N)) → Fine K M C x5 answer → Fine K M C (eval.tried K tree x1 x2 x3 x4 x5) answer
  unfolding eval.tried
  fine_tried {C = C} rec good p h here g1 m h5 = search (fine, looks, knows, fine_answered, fine_handles) depth 30

  pub fine_at_last : {C : Fact N} → (x1 : Evaluator N) → GoodEvaluator K M x1 → (x2 : ℕ) → (x3 : Scope N) → Gets K C (AreNouns x3.nouns) → (x4 : Act N (Answer N)) → Fine K M C x4 answer → Fine K M C (eval.at_last K tree x1 x2 x3 x4) answer
  unfolding eval.at_last
  fine_at_last {C = C} rec good b here g1 m h4 = search (fine, looks, knows, fine_answered, good.expression) depth 30

  pub fine_choose : {C : Fact N} → (x1 : Evaluator N) → GoodEvaluator K M x1 → (x2 : ℕ) → (x3 : ℕ) → (x4 : Scope N) → Gets K C (AreNouns x4.nouns) → (x5 : Scope N) → Gets K C (AreNouns x5.nouns) → (x6 : Value N) → Gets K C (IsValue x6) → Fine K M C (eval.choose K tree x1 x2 x3 x4 x5 x6) answer
  unfolding eval.choose
  fine_choose {C = C} rec good a b here g1 inner g2 (Flag true) g3 = search (fine, looks, knows, fine_answered, good.expression) depth 30
  fine_choose {C = C} rec good a b here g1 inner g2 other g3 = search (fine, looks, knows, fine_answered, good.expression) depth 30

  pub fine_unmatched_noun : {C : Fact N} → (x1 : ℕ) → (x2 : Bool) → Fine K M C (eval.unmatched_noun K tree x1 x2) IsBound
  unfolding eval.unmatched_noun
  fine_unmatched_noun {C = C} act false = search (fine, looks, knows) depth 30
  fine_unmatched_noun {C = C} act true = search (fine, looks, knows) depth 30

  pub fine_unmatched : {C : Fact N} → (bs : List BoundNoun) → (here : Scope N) → Gets K C (AreNouns here.nouns) → Fine K M C (eval.unmatched K tree bs here) scope
  unfolding eval.unmatched scopes.with_noun
  fine_unmatched {C = C} [] here g = fine_give K M here g
  fine_unmatched {C = C} (b ∷ bs) here g = fine_bind K M IsBound (fine_unmatched_noun here.act b.is_var) (λ n. fine_unmatched {C = Also C (IsBound n)} bs (scopes.with_noun b.noun n here) (got_noun K (Also C (IsBound n)) b.noun n here.nouns (got K C (IsBound n)) (got_left K C (IsBound n) (AreNouns here.nouns) g)))

  pub fine_not_matched : {C : Fact N} → (p : ℕ) → (here : Scope N) → Gets K C (AreNouns here.nouns) → (v : Value N) → Fine K M C (eval.not_matched K tree p here v) answer
  unfolding eval.not_matched
  fine_not_matched {C = C} p here g v = search (fine, looks, knows, fine_unmatched, fine_answered) depth 30

  pub fine_match_ended : {C : Fact N} → (x1 : ℕ) → (x2 : ℕ) → (x3 : Scope N) → Gets K C (AreNouns x3.nouns) → (x4 : Act N (Scope N)) → Fine K M C x4 scope → Fine K M C (eval.match_ended K tree x1 x2 x3 x4) answer
  unfolding eval.match_ended
  fine_match_ended {C = C} j p here g1 m h4 = search (fine, looks, knows, fine_leave, fine_answered, fine_not_matched) depth 30

  pub fine_write_cell : {C : Fact N} → (x1 : Evaluator N) → GoodEvaluator K M x1 → (x2 : ℕ) → (x3 : ℕ) → (x4 : Value N) → Gets K C (IsValue x4) → (x5 : Option (Cell N)) → Gets K C (MayCell x5) → Fine K M C (eval.write_cell K tree x1 x2 x3 x4 x5) IsValue
  unfolding eval.write_cell
  fine_write_cell {C = C} rec good act k v g1 None g2 = search (fine, looks, knows) depth 30
  fine_write_cell {C = C} rec good act k v g1 (Some c) g2 = let dg_g2 : Gets K C (IsValue c.guard) = record { at = λ ts ls h. (g2.at ts ls h).0 } in let dv_g2 : Gets K C (IsValue c.value) = record { at = λ ts ls h. (g2.at ts ls h).1 } in search (fine, looks, knows, fine_coerce, fine_call) depth 30

  pub fine_write_bound : {C : Fact N} → (x1 : Evaluator N) → GoodEvaluator K M x1 → (x2 : ℕ) → (x3 : Option (Bound N)) → Gets K C (MayBound x3) → (x4 : Value N) → Gets K C (IsValue x4) → Fine K M C (eval.write_bound K tree x1 x2 x3 x4) IsValue
  unfolding eval.write_bound
  fine_write_bound {C = C} rec good act (Some (Slot k)) g1 v g2 = search (fine, looks, knows, fine_write_cell) depth 30
  fine_write_bound {C = C} rec good act _ g1 v g2 = search (fine, looks, knows) depth 30

  pub fine_guard_of : {C : Fact N} → (x1 : Evaluator N) → GoodEvaluator K M x1 → (x2 : Option ℕ) → (x3 : Scope N) → Gets K C (AreNouns x3.nouns) → Fine K M C (eval.guard_of K tree x1 x2 x3) answer
  unfolding eval.guard_of
  fine_guard_of {C = C} rec good None here g1 = search (fine, looks, knows, fine_answered) depth 30
  fine_guard_of {C = C} rec good (Some g) here g1 = search (fine, looks, knows, fine_answered, good.expression) depth 30

  pub fine_bind_list : {C : Fact N} → (x1 : Evaluator N) → GoodEvaluator K M x1 → (x2 : List ℕ) → (x3 : Value N) → Gets K C (IsValue x3) → (x4 : Scope N) → Gets K C (AreNouns x4.nouns) → (x5 : List (Value N)) → Gets K C (AreValues x5) → Fine K M C (eval.bind_list K tree x1 x2 x3 x4 x5) scope
  unfolding eval.bind_list
  fine_bind_list {C = C} rec good ps j g1 here g2 vs g3 = search (fine, looks, knows, fine_bind_all, fine_failed, fine_call) depth 30

  pub fine_bind_items : {C : Fact N} → (x1 : Evaluator N) → GoodEvaluator K M x1 → (x2 : List ℕ) → (x3 : Value N) → Gets K C (IsValue x3) → (x4 : Scope N) → Gets K C (AreNouns x4.nouns) → (x5 : Value N) → Gets K C (IsValue x5) → Fine K M C (eval.bind_items K tree x1 x2 x3 x4 x5) scope
  unfolding eval.bind_items
  fine_bind_items {C = C} rec good ps j g1 here g2 (Items k) g3 = search (fine, looks, knows, fine_bind_list) depth 30
  fine_bind_items {C = C} rec good ps j g1 here g2 _ g3 = search (fine, looks, knows, fine_failed, fine_call) depth 30

  -- what a guard coerced is good under that guard
  bind_coerced : {B : Type 0} {C : Fact N} {f : Value N → Act N B} {H : B → Fact N} (again : Caller N) → GoodCaller K M again → (act : ℕ) (g : Value N) → Gets K C (IsValue g) → (j : Value N) → Gets K C (IsValue j) → (x : Value N) → Gets K C (IsValue x)
      → ((y : Value N) → Fine K M (Also C (Also (IsValue y) (IsBound (Fixed y g)))) (f y) H) → Fine K M C (perform.coerce K tree again act g j x >>= f) H
  bind_coerced again h act g g0 j g1 x g2 k = fine_bind K M (λ y. Also (IsValue y) (IsBound (Fixed y g)))
      (fine_more K M (λ y. IsBound (Fixed y g)) (λ y. Also (IsValue y) (IsBound (Fixed y g))) (coerce_bound again h act g g0 j g1 x g2) (λ y. got_both K (IsBound (Fixed y g)) (IsValue y) (IsBound (Fixed y g)) (got_of_bound K y g) (got_itself K (IsBound (Fixed y g))))) k

  -- what the nodes of the language are put together from: a node that is put together so too is no more text here
  ruleset nodes = (bind_coerced, fine, looks, knows, fine_answered, fine_read_bound, fine_write_bound, fine_failed, fine_handed, fine_coerce, fine_make_list, fine_leave, fine_bind_all, fine_new_ejector, fine_call, fine_make_object, fine_all_of, fine_last_of, fine_exit_of, fine_caught_by, fine_escaped, fine_handles, fine_tried, fine_at_last, fine_choose, fine_unmatched, fine_not_matched, fine_match_ended, fine_guard_of, fine_bind_list, fine_bind_items)

  pub fine_step : {C : Fact N} → (x1 : Evaluator N) → GoodEvaluator K M x1 → (x2 : ℕ) → (x3 : Node) → (x4 : Scope N) → Gets K C (AreNouns x4.nouns) → Fine K M C (eval.step K tree x1 x2 x3 x4) answer
  unfolding eval.step
  fine_step {C = C} rec good id (Lit l) here g1 = search (nodes, good.expression, good.pattern) depth 30
  fine_step {C = C} rec good id other here g1 = search (nodes, good.expression, good.pattern) depth 30

  pub fine_bind_step : {C : Fact N} → (rec : Evaluator N) → GoodEvaluator K M rec → (n : Node) → (v : Value N) → Gets K C (IsValue v) → (j : Value N) → Gets K C (IsValue j) → (here : Scope N) → Gets K C (AreNouns here.nouns) → Fine K M C (eval.bind_step K tree rec n v j here) scope
  unfolding eval.bind_step scopes.with_noun
  fine_bind_step {C = C} rec good (Any g) v g1 j g2 here g3 = search (nodes, good.expression, good.pattern) depth 30
  fine_bind_step {C = C} rec good other v g1 j g2 here g3 = search (nodes, good.expression, good.pattern) depth 30

  pub fine_bind_found : {C : Fact N} → (rec : Evaluator N) → GoodEvaluator K M rec → (o : Option Node) → (v : Value N) → Gets K C (IsValue v) → (j : Value N) → Gets K C (IsValue j) → (here : Scope N) → Gets K C (AreNouns here.nouns) → Fine K M C (eval.bind_found K tree rec o v j here) scope
  unfolding eval.bind_found
  fine_bind_found {C = C} rec good None v g1 j g2 here g3 = fine_stop K M _
  fine_bind_found {C = C} rec good (Some n) v g1 j g2 here g3 = fine_bind_step rec good n v g1 j g2 here g3

  pub fine_step_found : {C : Fact N} → (x1 : Evaluator N) → GoodEvaluator K M x1 → (x2 : ℕ) → (x3 : Option Node) → (x4 : Scope N) → Gets K C (AreNouns x4.nouns) → Fine K M C (eval.step_found K tree x1 x2 x3 x4) answer
  unfolding eval.step_found
  fine_step_found {C = C} rec good id None here g1 = search (fine, looks, knows) depth 30
  fine_step_found {C = C} rec good id (Some n) here g1 = search (fine, looks, knows, fine_step) depth 30

  good_deeper : (rec : Evaluator N) → GoodEvaluator K M rec → GoodEvaluator K M (eval.deeper K tree rec)
  unfolding eval.deeper
  good_deeper rec good = record {
    expression = λ C id here g. then_unit K M (fine_spend K M 1) (fine_step_found rec good id (slice_get tree id) here g);
    pattern = λ C id v g1 j g2 here g3. then_unit K M (fine_spend K M 1) (fine_bind_found rec good (slice_get tree id) v g1 j g2 here g3);
  }

  pub good_evaluator : (d : ℕ) → GoodEvaluator K M (eval.evaluator K tree d)
  unfolding eval.evaluator
  good_evaluator zero = record { expression = λ C id here g. fine_stop K M _; pattern = λ C id v g1 j g2 here g3. fine_stop K M _ }
  good_evaluator (suc d) = good_deeper (eval.evaluator K tree d) (good_evaluator d)

  pub fine_closes : {C : Fact N} → (x1 : ℕ) → (x2 : Option N) → WhereSome (Closing K M) x2 → (x3 : Act N (Value N)) → Fine K M C x3 IsValue → Fine K M C (eval.closes K tree x1 x2 x3) nothing
  unfolding eval.closes for_some
  fine_closes {C = C} act (Some p) closing m h3 = search (fine, looks, knows, serve_close, serve_break) depth 30
  fine_closes {C = C} act None closing m h3 = search (fine, looks, knows) depth 30

  pub fine_opening : {C : Fact N} → (x1 : ℕ) → (x2 : N) → Closing K M x2 → (x3 : List (Binding N)) → Gets K C (AreNouns x3) → Fine K M C (eval.opening K tree x1 x2 x3) nothing
  unfolding eval.opening
  fine_opening {C = C} depth p closing given g1 = let good : GoodEvaluator K M (eval.evaluator K tree depth) = good_evaluator depth in search (fine, looks, knows, fine_closes, good.expression) depth 30

  pub fine_taking : {C : Fact N} → (x1 : ℕ) → (x2 : Message N) → WhereSome (Closing K M) x2.answer → Gets K C (IsMessage x2) → Fine K M C (eval.taking K tree x1 x2) nothing
  unfolding eval.taking
  fine_taking {C = C} depth m closing g1 = let mt_m : Gets K C (IsValue m.target) = record { at = λ ts ls h. (g1.at ts ls h).0 } in let ma_m : Gets K C (AreValues m.args) = record { at = λ ts ls h. (g1.at ts ls h).1 } in let good : GoodEvaluator K M (eval.evaluator K tree depth) = good_evaluator depth in search (fine, looks, knows, fine_closes, fine_turn_value) depth 30
