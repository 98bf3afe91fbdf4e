-- All of evaluation, from a sound state, ends in a sound state.
use Rattle.std.proofs.Common.{◌≡◌, ℕ, zero, suc, Bool, true, false, List, [], ◌∷◌, ◌++◌, Option, Some, None, refl, length, map}
use Rattle.std.specs.Prelude.{slice_get}
use Rattle.def_machine.specs.Values.{Words, Value, Null, Flag, Text, Prim, Broken, Items, Ref, Naming, Spot, Own}
use Rattle.def_machine.specs.State.{Bound, Fixed, Slot, Scope, Binding, Cell, View, Thing, Made, Ejector, Audition, Resolver, Message, Took, Called, Back, Thrown, Left, Standing, Unsettled, Vat, Act, ◌>>=◌, ◌>>◌, and_then, new_thing, give, look, throw, eject, ending, tell, for_some, WhereSome}
use Rattle.def_machine.specs.Refs as refs
use Rattle.def_machine.specs.Refs.{Place, Near}
use Rattle.def_machine.specs.Form.{Item, Begin, End, Word, Fact as Fixing, literal_value}
use Rattle.def_machine.specs.Free.{BoundNoun}
use Rattle.def_machine.specs.Native.{Reply, Says, Writes, Lists as Listed, Iterates, Fails, Guard, Asked, MakesList, Loops, SendsTo, CallsTo, MakesPromise, Breaks, Tells, Whens, IsStamped, Coerces, AddsNull, NoMethod}
use Rattle.def_machine.specs.Scopes as scopes
use Rattle.def_machine.specs.Perform as perform
use Rattle.def_machine.specs.Calls as calls
use Rattle.def_machine.specs.Eval as eval
use Rattle.def_machine.specs.Scopes.{Answer, Evaluator, Caller, Body, Case, AuditionAsk, GetsForm, GetsGuard, Asks, NoAuditionAsk, ResolverAsk, Resolves, Smashes, NoResolverAsk}
use Rattle.def_kernel.specs.declared.node.Node.{Node}
use Rattle.def_kernel.specs.declared.node.Node.TheVariants.{Lit, Any}
use Rattle.law_machine.proofs.Machine.Walks.{IsNoResolver}
use Rattle.law_fate.specs.Name.Names.{AllOf, ValuesOk, NounOk, ThingOk}
use Rattle.law_fate.proofs.Name.Facts.{MayBe, Holds, Fact, Also, IsName, IsValue, AreValues, AreLists, IsBound, AreNouns, IsMessage, IsThing, IsView, IsPlace, MayValue, MayBound, MayCell, MayThing, IsReply, IsAsked, IsAuditionAsk, IsResolverAsk, scope, answer, answers, nothing, MayName}
use Rattle.law_fate.proofs.Name.Care.{Care, Under, Makes, Sound, Gets, Ends, Fine, got, got_left, got_null, got_text, got_ejector, got_audition, got_resolver, widen, rise, thing_comes, told_called, told_back, told_thrown, told_left, told_ejector_made, told_object_made, less_ends, end_ends, fine_bind, fine_ending, fine_left, fine_give, fine_throw, fine_eject, fine_stop, fine_spend, fine_activation, fine_tell, bind_number, bind_name, bind_values, then_unit}
use Rattle.law_fate.proofs.Name.Looks.{get_all, looks, look_place, look_place_of}
use Rattle.law_fate.proofs.Name.Serves.{HasResolver, Serves, Closing, served, served_by, closing_by, closing_some, below_end, serve_promise, serve_break, serve_close, serve_thing, bind_object}
use Rattle.law_fate.proofs.Name.EvalFacts.{knows, got_resolver_ask, got_noun, got_named, got_captures, got_view, got_item, got_lists, got_literal}

-- a call, whatever is called
abbrev pub GoodCaller : {N : Type 0} → Care N → Caller N → Type 0
GoodCaller {N} S again = (C : Fact N) (act : ℕ) (x : Value N) → Gets S C (IsValue x) → (verb : Words) (args : List (Value N)) → Gets S C (AreValues args) → Fine S C (again act x verb args) IsValue

-- so do the nodes below
pub record GoodEvaluator {N : Type 0} (S : Care N) (rec : Evaluator N) : Type 0 where
  pub expression : (C : Fact N) (id : ℕ) (here : Scope N) → Gets S C (AreNouns here.nouns) → Fine S C (rec.expression id here) answer
  pub pattern : (C : Fact N) (id : ℕ) (v : Value N) → Gets S C (IsValue v) → (j : Value N) → Gets S C (IsValue j) → (here : Scope N) → Gets S C (AreNouns here.nouns) → Fine S C (rec.pattern id v j here) scope

module _ {N W : Type 0} (K : Naming N W) (S : Care N) (serves : Serves K S) (tree : List Node) where
  place_here : {C : Fact N} (y : Value N) → Gets S C (IsValue y) → Fine S C (look (λ s. refs.place K s y)) IsPlace
  place_here y g = look_place K S serves.spots y g

  place_of_here : {C : Fact N} (x : Value N) → Gets S C (IsValue x) → Fine S C (look (λ s. refs.place K s (refs.follow K s x))) IsPlace
  place_of_here x g = look_place_of K S serves.spots x g

  pub fine_answered : {C : Fact N} → (x1 : Scope N) → Gets S C (AreNouns x1.nouns) → (x2 : Value N) → Gets S C (IsValue x2) → Fine S C (scopes.answered x1 x2) answer
  unfolding scopes.answered
  fine_answered {C = C} here g1 v g2 = search (served, looks, place_here, place_of_here, knows) depth 30

  pub fine_read_cell : {C : Fact N} → (x1 : ℕ) → (x2 : ℕ) → (x3 : Option (Cell N)) → Gets S C (MayCell x3) → Fine S C (scopes.read_cell x1 x2 x3) IsValue
  unfolding scopes.read_cell
  fine_read_cell {C = C} act k None g1 = search (served, looks, place_here, place_of_here, knows) depth 30
  fine_read_cell {C = C} act k (Some c) g1 = let dg_g1 : Gets S C (IsValue c.guard) = record { at = λ s h. (g1.at s h).0 } in let dv_g1 : Gets S C (IsValue c.value) = record { at = λ s h. (g1.at s h).1 } in search (served, looks, place_here, place_of_here, knows) depth 30

  pub fine_read_bound : {C : Fact N} → (x1 : ℕ) → (x2 : Option (Bound N)) → Gets S C (MayBound x2) → (x3 : Words) → Fine S C (scopes.read_bound x1 x2 x3) IsValue
  unfolding scopes.read_bound
  fine_read_bound {C = C} act (Some (Fixed v g)) g1 x = let d_g1 : Gets S C (IsValue v) = record { at = λ s h. (g1.at s h).0 } in search (served, looks, place_here, place_of_here, knows) depth 30
  fine_read_bound {C = C} act (Some (Slot k)) g1 x = search (served, looks, place_here, place_of_here, knows, fine_read_cell) depth 30
  fine_read_bound {C = C} act None g1 x = search (served, looks, place_here, place_of_here, knows) depth 30

  pub fine_ended : {C : Fact N} → (x1 : ℕ) → (x2 : Act N (Value N)) → Fine S C x2 IsValue → Fine S C (scopes.ended x1 x2) IsValue
  unfolding scopes.ended
  fine_ended {C = C} act m h2 = search (served, looks, place_here, place_of_here, knows) depth 30

  pub fine_with_lines : {C : Fact N} → (x1 : ℕ) → (x2 : Value N) → Gets S C (IsValue x2) → (x3 : Words) → (x4 : List (Value N)) → Gets S C (AreValues x4) → (x5 : Act N (Value N)) → Fine S C x5 IsValue → Fine S C (scopes.with_lines x1 x2 x3 x4 x5) IsValue
  unfolding scopes.with_lines
  fine_with_lines {C = C} act x g1 verb args g2 m h5 = search (served, looks, place_here, place_of_here, knows, fine_ended) depth 30

  pub fine_fail_by : {C : Fact N} → {A : Type 0} → {G : A → Fact N} → (x1 : Caller N) → GoodCaller S x1 → (x2 : ℕ) → (x3 : Value N) → Gets S C (IsValue x3) → (x4 : Words) → (x5 : Bool) → Fine S C (perform.fail_by K tree {A = A} x1 x2 x3 x4 x5) G
  unfolding perform.fail_by
  fine_fail_by {C = C} again h1 act j g1 p true = search (served, looks, place_here, place_of_here, knows) depth 30
  fine_fail_by {C = C} again h1 act j g1 p false = search (served, looks, place_here, place_of_here, knows) depth 30

  pub fine_failed : {C : Fact N} → {A : Type 0} → {G : A → Fact N} → (x1 : Caller N) → GoodCaller S x1 → (x2 : ℕ) → (x3 : Value N) → Gets S C (IsValue x3) → (x4 : Words) → Fine S C (perform.failed K tree {A = A} x1 x2 x3 x4) G
  unfolding perform.failed
  fine_failed {C = C} again h1 act j g1 p = search (served, looks, place_here, place_of_here, knows, fine_fail_by) depth 30

  pub fine_handed : {C : Fact N} → (x1 : Value N) → Gets S C (IsValue x1) → Fine S C (perform.handed K tree x1) IsValue
  unfolding perform.handed
  fine_handed {C = C} j g1 = search (served, looks, place_here, place_of_here, knows) depth 30

  pub fine_native_coerce : {C : Fact N} → (again : Caller N) → GoodCaller S again → (act : ℕ) → (g : Guard) → (j : Value N) → Gets S C (IsValue j) → (x : Value N) → Gets S C (IsValue x) → Fine S C (perform.native_coerce K tree again act g j x) IsValue
  unfolding perform.native_coerce
  fine_native_coerce {C = C} again h1 act g j g1 x g2 = search (served, looks, place_here, place_of_here, knows, fine_failed) depth 30

  pub fine_coerce_native : {C : Fact N} → (again : Caller N) → GoodCaller S again → (act : ℕ) → (o : Option Guard) → (j : Value N) → Gets S C (IsValue j) → (x : Value N) → Gets S C (IsValue x) → Fine S C (perform.coerce_native K tree again act o j x) IsValue
  unfolding perform.coerce_native
  fine_coerce_native {C = C} again h1 act (Some g) j g1 x g2 = search (served, looks, place_here, place_of_here, knows, fine_native_coerce) depth 30
  fine_coerce_native {C = C} again h1 act None j g1 x g2 = search (served, looks, place_here, place_of_here, knows) depth 30

  pub fine_coerce_near : {C : Fact N} → (x1 : Caller N) → GoodCaller S x1 → (x2 : ℕ) → (x3 : Value N) → Gets S C (IsValue x3) → (x4 : Value N) → Gets S C (IsValue x4) → (x5 : Value N) → Gets S C (IsValue x5) → (x6 : Place N) → Fine S C (perform.coerce_near K tree x1 x2 x3 x4 x5 x6) IsValue
  unfolding perform.coerce_near
  fine_coerce_near {C = C} again h1 act g g1 j g2 x g3 Near = search (served, looks, place_here, place_of_here, knows, fine_handed) depth 30
  fine_coerce_near {C = C} again h1 act g g1 j g2 x g3 _ = search (served, looks, place_here, place_of_here, knows) depth 30

  pub fine_coerce : {C : Fact N} → (again : Caller N) → GoodCaller S again → (act : ℕ) → (g : Value N) → Gets S C (IsValue g) → (j : Value N) → Gets S C (IsValue j) → (x : Value N) → Gets S C (IsValue x) → Fine S C (perform.coerce K tree again act g j x) IsValue
  unfolding perform.coerce
  fine_coerce {C = C} again h1 act (Prim n) g0 j g1 x g2 = search (served, looks, place_here, place_of_here, knows, fine_coerce_native, fine_coerce_near) depth 30
  fine_coerce {C = C} again h1 act other g0 j g1 x g2 = search (served, looks, place_here, place_of_here, knows, fine_coerce_native, fine_coerce_near) depth 30

  pub fine_store : {C : Fact N} → (x1 : ℕ) → (x2 : List (Value N)) → Gets S C (AreValues x2) → Fine S C (perform.store K tree x1 x2) IsValue
  unfolding perform.store
  fine_store {C = C} act vs g1 = search (served, looks, place_here, place_of_here, knows) depth 30

  pub fine_make_list : {C : Fact N} → (x1 : ℕ) → (x2 : List (Value N)) → Gets S C (AreValues x2) → Fine S C (perform.make_list K tree x1 x2) IsValue
  unfolding perform.make_list
  fine_make_list {C = C} act vs g1 = search (served, looks, place_here, place_of_here, knows, fine_store) depth 30

  pub fine_spell : {C : Fact N} → (x1 : Words) → Fine S C (perform.spell K tree x1) IsValue
  unfolding perform.spell
  fine_spell {C = C} t = search (served, looks, place_here, place_of_here, knows) depth 30

  pub fine_write_text : {C : Fact N} → (x1 : Words) → Fine S C (perform.write_text K tree x1) IsValue
  unfolding perform.write_text
  fine_write_text {C = C} t = search (served, looks, place_here, place_of_here, knows, fine_spell) depth 30

  pub fine_iterate : {C : Fact N} → (x1 : Caller N) → GoodCaller S x1 → (x2 : ℕ) → (x3 : Value N) → Gets S C (IsValue x3) → (x4 : ℕ) → (x5 : List (Value N)) → Gets S C (AreValues x5) → Fine S C (perform.iterate K tree x1 x2 x3 x4 x5) IsValue
  unfolding perform.iterate
  fine_iterate {C = C} again h act o g1 k [] g2 = search (served, looks, place_here, place_of_here, knows) depth 30
  fine_iterate {C = C} again h act o g1 k (v ∷ vs) g2 = let d0_g2 : Gets S C (IsValue v) = record { at = λ s h. (g2.at s h).0 } in let d1_g2 : Gets S C (AreValues vs) = record { at = λ s h. (g2.at s h).1 } in let rest : (D : Fact N) → Gets S D (IsValue o) → Gets S D (AreValues vs) → Fine S D (perform.iterate K tree again act o (suc k) vs) IsValue = λ D a b. fine_iterate {C = D} again h act o a (suc k) vs b in search (served, looks, place_here, place_of_here, knows) depth 30

  pub fine_reply : {C : Fact N} → (x1 : Caller N) → GoodCaller S x1 → (x2 : ℕ) → (x3 : Reply N) → Gets S C (IsReply x3) → Fine S C (perform.reply K tree x1 x2 x3) IsValue
  unfolding perform.reply
  fine_reply {C = C} again h1 act (Says v) g1 = let d_g1 : Gets S C (IsValue v) = record { at = λ s h. (g1.at s h) } in search (served, looks, place_here, place_of_here, knows) depth 30
  fine_reply {C = C} again h1 act (Writes t) g1 = search (served, looks, place_here, place_of_here, knows, fine_write_text) depth 30
  fine_reply {C = C} again h1 act (Listed vs) g1 = let d_g1 : Gets S C (AreValues vs) = record { at = λ s h. (g1.at s h) } in search (served, looks, place_here, place_of_here, knows, fine_make_list) depth 30
  fine_reply {C = C} again h1 act (Iterates o vs) g1 = let do_g1 : Gets S C (IsValue o) = record { at = λ s h. (g1.at s h).0 } in let d_g1 : Gets S C (AreValues vs) = record { at = λ s h. (g1.at s h).1 } in search (served, looks, place_here, place_of_here, knows, fine_iterate) depth 30
  fine_reply {C = C} again h1 act (Fails p) g1 = search (served, looks, place_here, place_of_here, knows) depth 30

  pub fine_data_answer : {C : Fact N} → (x1 : Caller N) → GoodCaller S x1 → (x2 : ℕ) → (x3 : Value N) → Gets S C (IsValue x3) → (x4 : Words) → (x5 : List (Value N)) → Gets S C (AreValues x5) → Fine S C (perform.data_answer K tree x1 x2 x3 x4 x5) IsValue
  unfolding perform.data_answer
  fine_data_answer {C = C} again h1 act y g1 verb args g2 = search (served, looks, place_here, place_of_here, knows, fine_reply) depth 30

  pub fine_send_by : {C : Fact N} → (x0 : Bool) → (x1 : ℕ) → (x2 : Value N) → Gets S C (IsValue x2) → (x3 : Words) → (x4 : List (Value N)) → Gets S C (AreValues x4) → Fine S C (perform.send_by K tree x0 x1 x2 x3 x4) IsValue
  unfolding perform.send_by
  fine_send_by {C = C} only act x g1 verb args g2 = search (served, looks, place_here, place_of_here, knows) depth 30

  pub fine_send_listed : {C : Fact N} → (x0 : Bool) → (x1 : ℕ) → (x2 : Value N) → Gets S C (IsValue x2) → (x3 : Words) → (x4 : List (Value N)) → Gets S C (AreValues x4) → Fine S C (perform.send_listed K tree x0 x1 x2 x3 x4) IsValue
  unfolding perform.send_listed
  fine_send_listed {C = C} only act x g1 verb args g2 = search (served, looks, place_here, place_of_here, knows, fine_send_by) depth 30

  pub fine_send_with : {C : Fact N} → (x0 : Bool) → (x1 : ℕ) → (x2 : Value N) → Gets S C (IsValue x2) → (x3 : Value N) → Gets S C (IsValue x3) → (x4 : Value N) → Gets S C (IsValue x4) → Fine S C (perform.send_with K tree x0 x1 x2 x3 x4) IsValue
  unfolding perform.send_with
  fine_send_with {C = C} only act x g1 (Text verb) g2 (Items k) g3 = search (served, looks, place_here, place_of_here, knows, fine_send_listed) depth 30
  fine_send_with {C = C} only act x g1 _ g2 _ g3 = search (served, looks, place_here, place_of_here, knows) depth 30

  pub fine_call_listed : {C : Fact N} → (x1 : Caller N) → GoodCaller S x1 → (x2 : ℕ) → (x3 : Value N) → Gets S C (IsValue x3) → (x4 : Words) → (x5 : List (Value N)) → Gets S C (AreValues x5) → Fine S C (perform.call_listed K tree x1 x2 x3 x4 x5) IsValue
  unfolding perform.call_listed
  fine_call_listed {C = C} again h1 act x g1 verb args g2 = search (served, looks, place_here, place_of_here, knows) depth 30

  pub fine_call_with : {C : Fact N} → (x1 : Caller N) → GoodCaller S x1 → (x2 : ℕ) → (x3 : Value N) → Gets S C (IsValue x3) → (x4 : Value N) → Gets S C (IsValue x4) → (x5 : Value N) → Gets S C (IsValue x5) → Fine S C (perform.call_with K tree x1 x2 x3 x4 x5) IsValue
  unfolding perform.call_with
  fine_call_with {C = C} again h1 act x g1 (Text verb) g2 (Items k) g3 = search (served, looks, place_here, place_of_here, knows, fine_call_listed) depth 30
  fine_call_with {C = C} again h1 act x g1 _ g2 _ g3 = search (served, looks, place_here, place_of_here, knows) depth 30

  pub fine_make_promise : {C : Fact N} → (x1 : ℕ) → Fine S C (perform.make_promise K tree x1) IsValue
  unfolding perform.make_promise
  fine_make_promise {C = C} act = bind_name S (serve_promise K S serves) (λ p. bind_object K S serves (serve_thing K S serves (Resolver p) (got_resolver S (Also C (IsName p)) p (got S C (IsName p)))) (λ r. search (served, looks, place_here, place_of_here, knows, fine_make_list) depth 30))

  pub fine_react_near : {C : Fact N} → (x1 : ℕ) → (x2 : Value N) → Gets S C (IsValue x2) → (x3 : Value N) → Gets S C (IsValue x3) → (x4 : Value N) → Gets S C (IsValue x4) → (x5 : Place N) → Gets S C (IsPlace x5) → Fine S C (perform.react_near K tree x1 x2 x3 x4 x5) IsValue
  unfolding perform.react_near
  fine_react_near {C = C} act x g1 o g2 y g3 Near p7 = search (served, looks, place_here, place_of_here, knows) depth 30
  fine_react_near {C = C} act x g1 o g2 y g3 _ p7 = search (served, looks, place_here, place_of_here, knows) depth 30

  pub fine_when_resolved : {C : Fact N} → (x1 : ℕ) → (x2 : Value N) → Gets S C (IsValue x2) → (x3 : Value N) → Gets S C (IsValue x3) → Fine S C (perform.when_resolved K tree x1 x2 x3) IsValue
  unfolding perform.when_resolved
  fine_when_resolved {C = C} act x g1 o g2 = search (served, looks, place_here, place_of_here, knows, fine_react_near) depth 30

  pub fine_after_turn : {C : Fact N} → (x1 : Act N (Value N)) → Fine S C x1 IsValue → (x2 : Value N) → Gets S C (IsValue x2) → Fine S C (perform.after_turn K tree x1 x2) IsValue
  unfolding perform.after_turn
  fine_after_turn {C = C} more h1 (Flag true) g1 = search (served, looks, place_here, place_of_here, knows) depth 30
  fine_after_turn {C = C} more h1 other g1 = search (served, looks, place_here, place_of_here, knows) depth 30

  pub fine_turns : {C : Fact N} → (x1 : ℕ) → (x2 : Act N (Value N)) → Fine S C x2 IsValue → Fine S C (perform.turns K tree x1 x2) IsValue
  unfolding perform.turns
  fine_turns {C = C} zero body h = search (served, looks, place_here, place_of_here, knows) depth 30
  fine_turns {C = C} (suc n) body h = let rest : (x y : Value N) → Fine S (Also (Also C (IsValue x)) (IsValue y)) (λ s. perform.turns K tree n body s) IsValue = λ x y. fine_left S (fine_left S (fine_turns {C = C} n body h)) in search (served, looks, place_here, place_of_here, knows, fine_after_turn) depth 30

  pub fine_loop : {C : Fact N} → (x1 : Act N (Value N)) → Fine S C x1 IsValue → Fine S C (perform.loop K tree x1) IsValue
  unfolding perform.loop
  fine_loop {C = C} body h1 = search (served, looks, place_here, place_of_here, knows, fine_turns) depth 30

  pub fine_perform : {C : Fact N} → (x1 : Caller N) → GoodCaller S x1 → (x2 : ℕ) → (x3 : Asked N) → Gets S C (IsAsked x3) → Fine S C (perform.perform K tree x1 x2 x3) IsValue
  unfolding perform.perform
  fine_perform {C = C} again h1 act (MakesList vs) g1 = let d_g1 : Gets S C (AreValues vs) = record { at = λ s h. (g1.at s h) } in search (served, looks, place_here, place_of_here, knows, fine_make_list) depth 30
  fine_perform {C = C} again h1 act (Loops o) g1 = let d_g1 : Gets S C (IsValue o) = record { at = λ s h. (g1.at s h) } in search (served, looks, place_here, place_of_here, knows, fine_loop) depth 30
  fine_perform {C = C} again h1 act (SendsTo only x v l) g1 = let d0_g1 : Gets S C (IsValue x) = record { at = λ s h. (g1.at s h).0 } in let d1_g1 : Gets S C (IsValue v) = record { at = λ s h. (g1.at s h).1 } in let d2_g1 : Gets S C (IsValue l) = record { at = λ s h. (g1.at s h).2 } in search (served, looks, place_here, place_of_here, knows, fine_send_with) depth 30
  fine_perform {C = C} again h1 act (CallsTo x v l) g1 = let d0_g1 : Gets S C (IsValue x) = record { at = λ s h. (g1.at s h).0 } in let d1_g1 : Gets S C (IsValue v) = record { at = λ s h. (g1.at s h).1 } in let d2_g1 : Gets S C (IsValue l) = record { at = λ s h. (g1.at s h).2 } in search (served, looks, place_here, place_of_here, knows, fine_call_with) depth 30
  fine_perform {C = C} again h1 act MakesPromise g1 = search (served, looks, place_here, place_of_here, knows, fine_make_promise) depth 30
  fine_perform {C = C} again h1 act (Breaks t) g1 = let d_g1 : Gets S C (IsValue t) = record { at = λ s h. (g1.at s h) } in search (served, looks, place_here, place_of_here, knows, fine_reply) depth 30
  fine_perform {C = C} again h1 act (Tells test x) g1 = let d_g1 : Gets S C (IsValue x) = record { at = λ s h. (g1.at s h) } in search (served, looks, place_here, place_of_here, knows, fine_reply) depth 30
  fine_perform {C = C} again h1 act (Whens x o) g1 = let d0_g1 : Gets S C (IsValue x) = record { at = λ s h. (g1.at s h).0 } in let d1_g1 : Gets S C (IsValue o) = record { at = λ s h. (g1.at s h).1 } in search (served, looks, place_here, place_of_here, knows, fine_when_resolved) depth 30
  fine_perform {C = C} again h1 act (IsStamped a x) g1 = search (served, looks, place_here, place_of_here, knows) depth 30
  fine_perform {C = C} again h1 act (Coerces g x j) g1 = let d0_g1 : Gets S C (IsValue x) = record { at = λ s h. (g1.at s h).0 } in let d1_g1 : Gets S C (IsValue j) = record { at = λ s h. (g1.at s h).1 } in search (served, looks, place_here, place_of_here, knows, fine_native_coerce) depth 30
  fine_perform {C = C} again h1 act (AddsNull g) g1 = let d_g1 : Gets S C (IsValue g) = record { at = λ s h. (g1.at s h) } in search (served, looks, place_here, place_of_here, knows, fine_reply) depth 30
  fine_perform {C = C} again h1 act NoMethod g1 = search (served, looks, place_here, place_of_here, knows) depth 30
  fine_perform {C = C} again h1 act other g1 = search (served, looks, place_here, place_of_here, knows, fine_reply) depth 30

  pub fine_leave : {C : Fact N} → {A : Type 0} → {G : A → Fact N} → (x1 : ℕ) → (x2 : Act N A) → Fine S C x2 G → Fine S C (calls.leave K tree {A = A} x1 x2) G
  unfolding calls.leave
  fine_leave {C = C} j m h2 = search (served, looks, place_here, place_of_here, knows) depth 30

  pub fine_leaving : {C : Fact N} → {A : Type 0} → {G : A → Fact N} → (n : ℕ) → (m : Act N A) → Fine S C m G → Fine S C (calls.leaving K tree {A = A} n m) G
  unfolding calls.leaving
  fine_leaving {C = C} {G = G} n m h = fine_ending S G h (λ a. fine_leave n (give a) (fine_give S a (got S C (G a)))) (λ p. fine_leave n (throw p) (fine_throw S p)) (λ k v. fine_leave n (eject k v) (fine_eject S k v (got S C (IsValue v))))

  pub fine_audit : {C : Fact N} → (x1 : Caller N) → GoodCaller S x1 → (x2 : ℕ) → (x3 : View N) → Gets S C (IsView x3) → (x4 : Value N) → Gets S C (IsValue x4) → (x5 : Place N) → Gets S C (IsPlace x5) → Fine S C (calls.audit K tree x1 x2 x3 x4 x5) nothing
  unfolding calls.audit
  fine_audit {C = C} again h1 act view g1 a g2 Near p7 = bind_object K S serves (serve_thing K S serves (Audition true view) (got_audition S C true view g1)) (λ n. search (served, looks, place_here, place_of_here, knows, fine_leaving) depth 30)
  fine_audit {C = C} again h1 act view g1 a g2 _ p7 = search (served, looks, place_here, place_of_here, knows) depth 30

  pub fine_verdict : {C : Fact N} → (again : Caller N) → GoodCaller S again → (act : ℕ) → (view : View N) → Gets S C (IsView view) → (a : Value N) → Gets S C (IsValue a) → (y : Value N) → Gets S C (IsValue y) → Fine S C (calls.verdict K tree again act view a y) nothing
  unfolding calls.verdict
  fine_verdict {C = C} again h1 act view g1 a g2 (Prim n) g3 = search (served, looks, place_here, place_of_here, knows, fine_audit) depth 30
  fine_verdict {C = C} again h1 act view g1 a g2 other g3 = search (served, looks, place_here, place_of_here, knows, fine_audit) depth 30

  pub fine_ask_all : {C : Fact N} → (again : Caller N) → GoodCaller S again → (act : ℕ) → (view : View N) → Gets S C (IsView view) → (xs : List (Value N)) → Gets S C (AreValues xs) → Fine S C (calls.ask_all K tree again act view xs) AreValues
  unfolding calls.ask_all
  fine_ask_all {C = C} again h1 act view g1 [] g2 = search (served, looks, place_here, place_of_here, knows) depth 30
  fine_ask_all {C = C} again h1 act view g1 (a ∷ as') g2 = let da : Gets S C (IsValue a) = record { at = λ s h. (g2.at s h).0 } in let ds : Gets S C (AreValues as') = record { at = λ s h. (g2.at s h).1 } in
      let rest : (D : Fact N) → Gets S D (IsView view) → Gets S D (AreValues as') → Fine S D (calls.ask_all K tree again act view as') AreValues = λ D i k. fine_ask_all {C = D} again h1 act view i as' k in search (served, looks, place_here, place_of_here, knows, fine_verdict) depth 30

  pub fine_build : {C : Fact N} → (act : ℕ) → (is : List Item) → (fs : List (List (Value N))) → Gets S C (AreLists fs) → Fine S C (calls.build K tree act is fs) IsValue
  unfolding calls.build
  fine_build {C = C} act (Begin ∷ is) fs g = fine_build {C = C} act is ([] ∷ fs) (got_lists S C fs g)
  fine_build {C = C} act (Word w ∷ is) fs g = fine_build {C = C} act is (calls.with_item K tree (Text w) fs) (got_item K S tree C (Text w) fs (got_text S C w) g)
  fine_build {C = C} act (Fixing l ∷ is) fs g = fine_build {C = C} act is (calls.with_item K tree (literal_value l) fs) (got_item K S tree C (literal_value l) fs (got_literal S C l) g)
  fine_build {C = C} act (End ∷ []) (f ∷ fs) g = fine_make_list act f (record { at = λ s h. (g.at s h).0 })
  fine_build {C = C} act (End ∷ i ∷ is) (f ∷ fs) g = fine_bind S IsValue (fine_make_list act f (record { at = λ s h. (g.at s h).0 })) (λ v. fine_build {C = Also C (IsValue v)} act (i ∷ is) (calls.with_item K tree v fs) (got_item K S tree (Also C (IsValue v)) v fs (got S C (IsValue v)) (record { at = λ s h. (g.at s h.0).1 })))
  fine_build {C = C} act _ _ g = fine_stop S _

  pub fine_audition_live : {C : Fact N} → (x1 : Caller N) → GoodCaller S x1 → (x2 : ℕ) → (x3 : View N) → Gets S C (IsView x3) → (x4 : AuditionAsk N) → Gets S C (IsAuditionAsk x4) → Fine S C (calls.audition_live K tree x1 x2 x3 x4) IsValue
  unfolding calls.audition_live
  fine_audition_live {C = C} again h1 act view g1 GetsForm g2 = search (served, looks, place_here, place_of_here, knows, fine_build) depth 30
  fine_audition_live {C = C} again h1 act view g1 (GetsGuard x) g2 = let d_g2 : Gets S C (IsValue x) = record { at = λ s h. (g2.at s h) } in search (served, looks, place_here, place_of_here, knows, fine_reply) depth 30
  fine_audition_live {C = C} again h1 act view g1 (Asks a) g2 = let d_g2 : Gets S C (IsValue a) = record { at = λ s h. (g2.at s h) } in search (served, looks, place_here, place_of_here, knows, fine_verdict) depth 30
  fine_audition_live {C = C} again h1 act view g1 NoAuditionAsk g2 = search (served, looks, place_here, place_of_here, knows) depth 30

  pub fine_audition_answer : {C : Fact N} → (x1 : Caller N) → GoodCaller S x1 → (x2 : ℕ) → (x3 : Bool) → (x4 : View N) → Gets S C (IsView x4) → (x5 : AuditionAsk N) → Gets S C (IsAuditionAsk x5) → Fine S C (calls.audition_answer K tree x1 x2 x3 x4 x5) IsValue
  unfolding calls.audition_answer
  fine_audition_answer {C = C} again h1 act live view g1 NoAuditionAsk g2 = search (served, looks, place_here, place_of_here, knows) depth 30
  fine_audition_answer {C = C} again h1 act true view g1 ask g2 = search (served, looks, place_here, place_of_here, knows, fine_audition_live) depth 30
  fine_audition_answer {C = C} again h1 act false view g1 ask g2 = search (served, looks, place_here, place_of_here, knows) depth 30

  pub fine_ejector_answer : {C : Fact N} → (x1 : ℕ) → (x2 : Bool) → (x3 : Option (Value N)) → Gets S C (MayValue x3) → Fine S C (calls.ejector_answer K tree x1 x2 x3) IsValue
  unfolding calls.ejector_answer
  fine_ejector_answer {C = C} i live None g1 = search (served, looks, place_here, place_of_here, knows) depth 30
  fine_ejector_answer {C = C} i true (Some v) g1 = let d_g1 : Gets S C (IsValue v) = record { at = λ s h. (g1.at s h) } in search (served, looks, place_here, place_of_here, knows) depth 30
  fine_ejector_answer {C = C} i false (Some v) g1 = let d_g1 : Gets S C (IsValue v) = record { at = λ s h. (g1.at s h) } in search (served, looks, place_here, place_of_here, knows) depth 30

  -- how an act ends from each state that has a resolver of that promise
  record From {A : Type 0} (C : Fact N) (p : N) (m : Act N A) (G : A → Fact N) : Type 0 where
    pub after : (s : Vat N) → Sound S s → Holds (S.ok s) C → HasResolver s p → Ends S G s (m s)

  any_from : {A : Type 0} {C : Fact N} (p : N) {m : Act N A} {G : A → Fact N} → Fine S C m G → From C p m G
  any_from p h = record { after = λ s i c r. h.after s i c }

  -- and in which it did neither settle nor wait
  abbrev OpenEnds : Fact N → N → Act N (Unit {0}) → Type 0
  OpenEnds C p m = (s : Vat N) → Sound S s → Holds (S.ok s) C → HasResolver s p → refs.standing_of K s.known p ≡ Unsettled → Ends S nothing s (m s)

  open_ends : (C : Fact N) (p : N) (m : Act N (Unit {0})) → OpenEnds C p m → (s : Vat N) → Sound S s → Holds (S.ok s) C → HasResolver s p → (w : Standing N) → refs.standing_of K s.known p ≡ w → Ends S IsValue s (calls.where_unresolved K tree w m s)
  unfolding calls.where_unresolved ◌>>◌ throw
  open_ends C p m ends s h c r Unsettled e = less_ends S C nothing IsValue s (m s) (λ _. give Null) c (ends s h c r e) (λ _. fine_give S Null (got_null S C))
  open_ends C p m ends s h c r other e = (S.same s, h)

  -- a resolver resolves and breaks none but a name that did neither settle nor wait
  from_open : {C : Fact N} (p : N) (m : Act N (Unit {0})) → OpenEnds C p m → From C p (look (λ s. refs.standing_of K s.known p) >>= (λ w. calls.where_unresolved K tree w m)) IsValue
  unfolding ◌>>=◌ look and_then
  from_open {C = C} p m ends = record { after = λ s h c r. open_ends C p m ends s h c r (refs.standing_of K s.known p) refl }

  from_smash : {C : Fact N} (p : N) → Gets S C (IsName p) → (y : Value N) → From C p (calls.smash K tree p y) IsValue
  unfolding calls.smash
  from_smash {C = C} p n0 (Text t) = from_open p (refs.settle K p (Broken t)) (serves.smashes C p n0 t)
  from_smash {C = C} p n0 other = any_from p (fine_throw S _)

  from_resolver_answer : {C : Fact N} (p : N) → Gets S C (IsName p) → (ask : ResolverAsk N) → Gets S C (IsResolverAsk ask) → From C p (calls.resolver_answer K tree p ask) IsValue
  unfolding calls.resolver_answer ◌>>=◌ look and_then
  from_resolver_answer {C = C} p n0 (Resolves x) g = from_open p (refs.resolve K p x) (serves.resolves C p n0 x (record { at = λ s h. g.at s h }))
  from_resolver_answer {C = C} p n0 (Smashes x) g = record { after = λ s h c r. (from_smash p n0 (refs.follow K s x)).after s h c r }
  from_resolver_answer {C = C} p n0 NoResolverAsk g = any_from p (fine_throw S _)

  from_thing_answer : {C : Fact N} (again : Caller N) (act i : ℕ) (p : N) → Gets S C (IsName p) → (verb : Words) (args : List (Value N)) → Gets S C (AreValues args) → From C p (calls.thing_answer K tree again act i (Resolver p) verb args) IsValue
  unfolding calls.thing_answer
  from_thing_answer {C = C} again act i p n0 verb args g = from_resolver_answer p n0 (scopes.resolver_ask verb args) (got_resolver_ask S C verb args g)

  back : {C : Fact N} (act : ℕ) (y : Value N) → Fine S (Also C (IsValue y)) (tell (Back act y) >> give y) IsValue
  back {C = C} act y = then_unit S (told_back S act y) (fine_give S y (got S C (IsValue y)))

  thrown : {C : Fact N} (act : ℕ) (q : Words) → Fine S C (tell (Thrown act q) >> throw q) IsValue
  thrown act q = then_unit S (told_thrown S act q) (fine_throw S q)

  left : {C : Fact N} (act k : ℕ) (y : Value N) → Fine S (Also C (IsValue y)) (tell (Left act) >> eject k y) IsValue
  left {C = C} act k y = then_unit S (told_left S act) (fine_eject S k y (got S C (IsValue y)))

  -- with the lines of a call
  from_lines : {C : Fact N} (p : N) (act : ℕ) (x : Value N) (verb : Words) (args : List (Value N)) (m : Act N (Value N)) → From C p m IsValue → From C p (scopes.with_lines act x verb args m) IsValue
  unfolding scopes.with_lines scopes.ended ending ◌>>◌ tell and_then
  from_lines {C = C} p act x verb args m f = record {
    after = λ s h c r. let e = (told_called S {C = C} act x verb args None).after s h c in let t : Vat N = record s { happened = s.happened ++ Called act x verb args None ∷ [] } in let d = rise S s t e.0 C c in
        widen S IsValue s t _ e.0 (end_ends S C IsValue IsValue t (m t) _ _ _ d (f.after t e.1 d r) (back act) (thrown act) (left act));
  }

  pub fine_bind_all : {C : Fact N} → (x1 : Evaluator N) → GoodEvaluator S x1 → (x2 : List ℕ) → (x3 : List (Value N)) → Gets S C (AreValues x3) → (x4 : Value N) → Gets S C (IsValue x4) → (x5 : Scope N) → Gets S C (AreNouns x5.nouns) → Fine S C (calls.bind_all K tree x1 x2 x3 x4 x5) scope
  unfolding calls.bind_all
  fine_bind_all {C = C} rec good [] vs g1 j g2 here g3 = search (served, looks, place_here, place_of_here, knows) depth 30
  fine_bind_all {C = C} rec good (p ∷ ps) [] g1 j g2 here g3 = search (served, looks, place_here, place_of_here, knows) depth 30
  fine_bind_all {C = C} rec good (p ∷ ps) (v ∷ vs) g1 j g2 here g3 = let d0_g1 : Gets S C (IsValue v) = record { at = λ s h. (g1.at s h).0 } in let d1_g1 : Gets S C (AreValues vs) = record { at = λ s h. (g1.at s h).1 } in let rest : (D : Fact N) (next : Scope N) → Gets S D (AreValues vs) → Gets S D (IsValue j) → Gets S D (AreNouns next.nouns) → Fine S D (calls.bind_all K tree rec ps vs j next) scope = λ D next a b c. fine_bind_all {C = D} rec good ps vs a j b next c in search (served, looks, place_here, place_of_here, knows, good.pattern) depth 30

  pub fine_new_ejector : {C : Fact N} → (x1 : ℕ) → Fine S C (calls.new_ejector K tree x1) (λ i. IsName (K.object i))
  unfolding calls.new_ejector
  fine_new_ejector {C = C} act = bind_object K S serves (serve_thing K S serves (Ejector true) (got_ejector S C true)) (λ j. then_unit S (told_ejector_made S act (K.object j)) (fine_give S j (got S C (IsName (K.object j)))))

  bind_ejector : {B : Type 0} {C : Fact N} {f : ℕ → Act N B} {H : B → Fact N} (act : ℕ) → ((j : ℕ) → Fine S (Also C (IsName (K.object j))) (f j) H) → Fine S C (calls.new_ejector K tree act >>= f) H
  bind_ejector act k = bind_object K S serves (fine_new_ejector act) k

  pub fine_hand_over : {C : Fact N} → (x1 : ℕ) → (x2 : ℕ) → (x3 : Act N (Value N)) → Fine S C x3 IsValue → (x4 : ℕ) → (x5 : Value N) → Gets S C (IsValue x5) → Fine S C (calls.hand_over K tree x1 x2 x3 x4 x5) IsValue
  unfolding calls.hand_over
  fine_hand_over {C = C} act j next h3 n v g1 = search (served, looks, place_here, place_of_here, knows) depth 30

  pub fine_matched : {C : Fact N} → (x1 : Evaluator N) → GoodEvaluator S x1 → (x2 : ℕ) → (x3 : ℕ) → (x4 : ℕ) → (x5 : Act N (Value N)) → Fine S C x5 IsValue → (x6 : Act N (Scope N)) → Fine S C x6 scope → Fine S C (calls.matched K tree x1 x2 x3 x4 x5 x6) IsValue
  unfolding calls.matched
  fine_matched {C = C} rec good act j body next h5 m h6 = let later : (v : Value N) → Fine S (Also C (IsValue v)) next IsValue = λ v. fine_left S h5 in search (served, looks, place_here, place_of_here, knows, fine_leave, fine_hand_over, good.expression) depth 30

  pub fine_match_all : {C : Fact N} → (x1 : Evaluator N) → GoodEvaluator S x1 → (x2 : List Case) → (x3 : Value N) → Gets S C (IsValue x3) → (x4 : Scope N) → Gets S C (AreNouns x4.nouns) → Fine S C (calls.match_all K tree x1 x2 x3 x4) IsValue
  unfolding calls.match_all
  fine_match_all {C = C} rec good [] v g1 here g2 = search (served, looks, place_here, place_of_here, knows) depth 30
  fine_match_all {C = C} rec good (m ∷ ms) v g1 here g2 = bind_object K S serves (fine_new_ejector here.act) (λ j. let rest : Fine S (Also C (IsName (K.object j))) (λ s. calls.match_all K tree rec ms v here s) IsValue = fine_left S (fine_match_all {C = C} rec good ms v g1 here g2) in search (served, looks, place_here, place_of_here, knows, fine_matched, good.pattern) depth 30)

  pub fine_try_matchers : {C : Fact N} → (x1 : Evaluator N) → GoodEvaluator S x1 → (x2 : List Case) → (x3 : Words) → (x4 : List (Value N)) → Gets S C (AreValues x4) → (x5 : Scope N) → Gets S C (AreNouns x5.nouns) → Fine S C (calls.try_matchers K tree x1 x2 x3 x4 x5) IsValue
  unfolding calls.try_matchers
  fine_try_matchers {C = C} rec good [] verb args g1 here g2 = search (served, looks, place_here, place_of_here, knows) depth 30
  fine_try_matchers {C = C} rec good (m ∷ ms) verb args g1 here g2 = search (served, looks, place_here, place_of_here, knows, fine_make_list, fine_match_all) depth 30

  pub fine_run_body : {C : Fact N} → (x1 : Evaluator N) → GoodEvaluator S x1 → (x2 : List Case) → (x3 : Words) → (x4 : Option Body) → (x5 : List (Value N)) → Gets S C (AreValues x5) → (x6 : Scope N) → Gets S C (AreNouns x6.nouns) → Fine S C (calls.run_body K tree x1 x2 x3 x4 x5 x6) IsValue
  unfolding calls.run_body
  fine_run_body {C = C} rec good ms verb (Some b) args g1 here g2 = search (served, looks, place_here, place_of_here, knows, fine_bind_all, good.expression) depth 30
  fine_run_body {C = C} rec good ms verb None args g1 here g2 = search (served, looks, place_here, place_of_here, knows, fine_try_matchers) depth 30

  pub fine_run_object : {C : Fact N} → (x1 : Evaluator N) → GoodEvaluator S x1 → (x2 : List ℕ) → (x3 : Words) → (x4 : List (Value N)) → Gets S C (AreValues x4) → (x5 : Scope N) → Gets S C (AreNouns x5.nouns) → Fine S C (calls.run_object K tree x1 x2 x3 x4 x5) IsValue
  unfolding calls.run_object
  fine_run_object {C = C} rec good members verb args g1 here g2 = search (served, looks, place_here, place_of_here, knows, fine_run_body) depth 30

  pub fine_thing_answer : {C : Fact N} → (x1 : Caller N) → GoodCaller S x1 → (x2 : ℕ) → (x3 : ℕ) → (x4 : Thing N) → IsNoResolver (Some x4) → Gets S C (IsThing x4) → (x5 : Words) → (x6 : List (Value N)) → Gets S C (AreValues x6) → Fine S C (calls.thing_answer K tree x1 x2 x3 x4 x5 x6) IsValue
  unfolding calls.thing_answer
  fine_thing_answer {C = C} again h1 act i (Ejector live) plain g1 verb args g2 = search (served, looks, place_here, place_of_here, knows, fine_ejector_answer) depth 30
  fine_thing_answer {C = C} again h1 act i (Audition live view) plain g1 verb args g2 = let d_g1 : Gets S C (IsView view) = record { at = λ s h. (g1.at s h) } in search (served, looks, place_here, place_of_here, knows, fine_audition_answer) depth 30
  fine_thing_answer {C = C} again h1 act i (Resolver p) plain g1 verb args g2 = absurd plain
  fine_thing_answer {C = C} again h1 act i (Made node caught stamps) plain g1 verb args g2 = search (served, looks, place_here, place_of_here, knows) depth 30

  pub fine_call_thing : {C : Fact N} → (x1 : Evaluator N) → GoodEvaluator S x1 → (x2 : Caller N) → GoodCaller S x2 → (x3 : ℕ) → (x4 : Value N) → Gets S C (IsValue x4) → (x5 : ℕ) → (x6 : Option (Thing N)) → IsNoResolver x6 → Gets S C (MayThing x6) → (x7 : Words) → (x8 : List (Value N)) → Gets S C (AreValues x8) → Fine S C (calls.call_thing K tree x1 x2 x3 x4 x5 x6 x7 x8) IsValue
  unfolding calls.call_thing
  fine_call_thing {C = C} rec good again h2 act x g1 i None plain g2 verb args g3 = search (served, looks, place_here, place_of_here, knows) depth 30
  fine_call_thing {C = C} rec good again h2 act x g1 i (Some (Made node caught stamps)) plain g2 verb args g3 = let dc_g2 : Gets S C (AreNouns caught) = record { at = λ s h. (g2.at s h).0 } in search (served, looks, place_here, place_of_here, knows, fine_ended, fine_run_object) depth 30
  fine_call_thing {C = C} rec good again h2 act x g1 i (Some t) plain g2 verb args g3 = let dt_g2 : Gets S C (IsThing t) = record { at = λ s h. (g2.at s h) } in fine_with_lines act x g1 verb args g3 _ (fine_thing_answer again h2 act i t plain dt_g2 verb args g3)

  call_by_resolver : {C : Fact N} (rec : Evaluator N) (again : Caller N) (act : ℕ) (x : Value N) (i : ℕ) (p : N) → Gets S C (IsName p) → (verb : Words) (args : List (Value N)) → Gets S C (AreValues args) → From C p (calls.call_thing K tree rec again act x i (Some (Resolver p)) verb args) IsValue
  unfolding calls.call_thing
  call_by_resolver rec again act x i p n0 verb args g = from_lines p act x verb args (calls.thing_answer K tree again act i (Resolver p) verb args) (from_thing_answer again act i p n0 verb args g)

  -- what is done with a thing that is looked up: with a resolver, from a state that has it
  with_thing : {C : Fact N} (i : ℕ) (f : Option (Thing N) → Act N (Value N)) → ((p : N) → From (Also C (IsName p)) p (f (Some (Resolver p))) IsValue) → ((z : Option (Thing N)) → IsNoResolver z → Fine S (Also C (MayThing z)) (f z) IsValue)
      → Fine S C (look (λ s. slice_get s.things i) >>= f) IsValue
  unfolding ◌>>=◌ look and_then
  with_thing {C = C} i f h k = record { after = λ s g c. go s g c (slice_get s.things i) refl (get_all (ThingOk (S.ok s)) s.things i g.parts.things) }
    where
      go : (s : Vat N) → Sound S s → Holds (S.ok s) C → (z : Option (Thing N)) → slice_get s.things i ≡ z → MayBe (ThingOk (S.ok s)) z → Ends S IsValue s (f z s)
      go s g c None e o = (k None tt).after s g (c, o)
      go s g c (Some (Resolver p)) e o = (h p).after s g (c, o) (i, e)
      go s g c (Some (Made a b d)) e o = (k (Some (Made a b d)) tt).after s g (c, o)
      go s g c (Some (Ejector b)) e o = (k (Some (Ejector b)) tt).after s g (c, o)
      go s g c (Some (Audition b x)) e o = (k (Some (Audition b x)) tt).after s g (c, o)

  pub fine_call_spot : {C : Fact N} → (x1 : Evaluator N) → GoodEvaluator S x1 → (x2 : Caller N) → GoodCaller S x2 → (x3 : ℕ) → (x4 : Value N) → Gets S C (IsValue x4) → (x5 : Spot) → (x6 : Words) → (x7 : List (Value N)) → Gets S C (AreValues x7) → Fine S C (calls.call_spot K tree x1 x2 x3 x4 x5 x6 x7) IsValue
  unfolding calls.call_spot
  fine_call_spot {C = C} rec good again h2 act x g1 (Own i) verb args g2 = with_thing i (λ z. calls.call_thing K tree rec again act x i z verb args)
      (λ p. call_by_resolver rec again act x i p (got S C (IsName p)) verb args (got_left S C (IsName p) (AreValues args) g2))
      (λ z plain. fine_call_thing rec good again h2 act x (got_left S C (MayThing z) (IsValue x) g1) i z plain (got S C (MayThing z)) verb args (got_left S C (MayThing z) (AreValues args) g2))
  fine_call_spot {C = C} rec good again h2 act x g1 _ verb args g2 = search (served, looks, place_here, place_of_here, knows) depth 30

  pub fine_call_value : {C : Fact N} → (x1 : Evaluator N) → GoodEvaluator S x1 → (x2 : Caller N) → GoodCaller S x2 → (x3 : ℕ) → (x4 : Value N) → Gets S C (IsValue x4) → (x5 : Value N) → Gets S C (IsValue x5) → (x6 : Words) → (x7 : List (Value N)) → Gets S C (AreValues x7) → Fine S C (calls.call_value K tree x1 x2 x3 x4 x5 x6 x7) IsValue
  unfolding calls.call_value
  fine_call_value {C = C} rec good again h2 act x g1 (Ref n) g2 verb args g3 = search (served, looks, place_here, place_of_here, knows, fine_call_spot, fine_perform, fine_with_lines, fine_data_answer) depth 30
  fine_call_value {C = C} rec good again h2 act x g1 other g2 verb args g3 = search (served, looks, place_here, place_of_here, knows, fine_call_spot, fine_perform, fine_with_lines, fine_data_answer) depth 30

  pub fine_call_one : {C : Fact N} → (x1 : Evaluator N) → GoodEvaluator S x1 → (x2 : Caller N) → GoodCaller S x2 → (x3 : ℕ) → (x4 : Value N) → Gets S C (IsValue x4) → (x5 : Words) → (x6 : List (Value N)) → Gets S C (AreValues x6) → Fine S C (calls.call_one K tree x1 x2 x3 x4 x5 x6) IsValue
  unfolding calls.call_one
  fine_call_one {C = C} rec good again h2 act x g1 verb args g2 = search (served, looks, place_here, place_of_here, knows, fine_call_value) depth 30

  pub fine_call_at : {C : Fact N} → (x1 : ℕ) → (x2 : Evaluator N) → GoodEvaluator S x2 → (x3 : ℕ) → (x4 : Value N) → Gets S C (IsValue x4) → (x5 : Words) → (x6 : List (Value N)) → Gets S C (AreValues x6) → Fine S C (calls.call_at K tree x1 x2 x3 x4 x5 x6) IsValue
  unfolding calls.call_at
  fine_call_at {C = C} zero rec good act x g1 verb args g2 = search (served, looks, place_here, place_of_here, knows) depth 30
  fine_call_at {C = C} (suc d) rec good act x g1 verb args g2 = fine_call_one rec good (λ a y v xs. calls.call_at K tree d rec a y v xs) (λ D a y g v xs k. fine_call_at {C = D} d rec good a y g v xs k) act x g1 verb args g2

  pub fine_call : {C : Fact N} → (x1 : Evaluator N) → GoodEvaluator S x1 → (x2 : ℕ) → (x3 : Value N) → Gets S C (IsValue x3) → (x4 : Words) → (x5 : List (Value N)) → Gets S C (AreValues x5) → Fine S C (calls.call K tree x1 x2 x3 x4 x5) IsValue
  unfolding calls.call
  fine_call {C = C} rec good act x g1 verb args g2 = search (served, looks, place_here, place_of_here, knows, fine_call_at) depth 30

  pub fine_turn_thing : {C : Fact N} → (x1 : Evaluator N) → GoodEvaluator S x1 → (x2 : ℕ) → (x3 : ℕ) → (x4 : Option (Thing N)) → IsNoResolver x4 → Gets S C (MayThing x4) → (x5 : Words) → (x6 : List (Value N)) → Gets S C (AreValues x6) → Fine S C (calls.turn_thing K tree x1 x2 x3 x4 x5 x6) IsValue
  unfolding calls.turn_thing
  fine_turn_thing {C = C} rec good act i None plain g1 verb args g2 = search (served, looks, place_here, place_of_here, knows) depth 30
  fine_turn_thing {C = C} rec good act i (Some (Made node caught stamps)) plain g1 verb args g2 = let dc_g1 : Gets S C (AreNouns caught) = record { at = λ s h. (g1.at s h).0 } in search (served, looks, place_here, place_of_here, knows, fine_run_object) depth 30
  fine_turn_thing {C = C} rec good act i (Some t) plain g1 verb args g2 = let dt_g1 : Gets S C (IsThing t) = record { at = λ s h. (g1.at s h) } in fine_thing_answer (calls.call K tree rec) (λ D a y g v xs k. fine_call rec good a y g v xs k) act i t plain dt_g1 verb args g2

  turn_by_resolver : {C : Fact N} (rec : Evaluator N) (act i : ℕ) (p : N) → Gets S C (IsName p) → (verb : Words) (args : List (Value N)) → Gets S C (AreValues args) → From C p (calls.turn_thing K tree rec act i (Some (Resolver p)) verb args) IsValue
  unfolding calls.turn_thing
  turn_by_resolver rec act i p n0 verb args g = from_thing_answer (calls.call K tree rec) act i p n0 verb args g

  pub fine_turn_spot : {C : Fact N} → (x1 : Evaluator N) → GoodEvaluator S x1 → (x2 : ℕ) → (x3 : Spot) → (x4 : Words) → (x5 : List (Value N)) → Gets S C (AreValues x5) → Fine S C (calls.turn_spot K tree x1 x2 x3 x4 x5) IsValue
  unfolding calls.turn_spot
  fine_turn_spot {C = C} rec good act (Own i) verb args g1 = with_thing i (λ z. calls.turn_thing K tree rec act i z verb args)
      (λ p. turn_by_resolver rec act i p (got S C (IsName p)) verb args (got_left S C (IsName p) (AreValues args) g1))
      (λ z plain. fine_turn_thing rec good act i z plain (got S C (MayThing z)) verb args (got_left S C (MayThing z) (AreValues args) g1))
  fine_turn_spot {C = C} rec good act _ verb args g1 = search (served, looks, place_here, place_of_here, knows) depth 30

  pub fine_turn_value : {C : Fact N} → (x1 : Evaluator N) → GoodEvaluator S x1 → (x2 : ℕ) → (x3 : Value N) → Gets S C (IsValue x3) → (x4 : Words) → (x5 : List (Value N)) → Gets S C (AreValues x5) → Fine S C (calls.turn_value K tree x1 x2 x3 x4 x5) IsValue
  unfolding calls.turn_value
  fine_turn_value {C = C} rec good act (Ref n) g1 verb args g2 = search (served, looks, place_here, place_of_here, knows, fine_turn_spot, fine_perform, fine_call, fine_data_answer) depth 30
  fine_turn_value {C = C} rec good act other g1 verb args g2 = search (served, looks, place_here, place_of_here, knows, fine_turn_spot, fine_perform, fine_call, fine_data_answer) depth 30

  -- ---- making objects

  -- an object may be among its own captures: they are good once it is there
  object_ends : (node : ℕ) (p : Option Node) (xs : List Words) (stamps : List (Value N)) (here : Scope N) (s : Vat N) → Sound S s → AllOf (NounOk (S.ok s)) here.nouns → ValuesOk (S.ok s) stamps
      → Ends S answer s (calls.object_as K tree node p xs stamps (K.object (length s.things)) here s)
  unfolding calls.object_as calls.object_in calls.object_made ◌>>◌ and_then new_thing
  object_ends node p xs stamps here s h nouns i =
      let me : N = K.object (length s.things) in let after : Scope N = scopes.named p (Ref me) here in let caught : List (Binding N) = scopes.captures after xs in
      let x : Thing N = Made node caught stamps in let t : Vat N = record s { things = s.things ++ x ∷ [] } in let r = (S.thing s x).0 in
      let C : Fact N = Also (IsName me) (AreNouns here.nouns) in let c : Holds (S.ok t) C = (serves.object t (length s.things) (below_end s.things x), rise S s t r (AreNouns here.nouns) nouns) in
      let own : Gets S C (IsValue (Ref me)) = record { at = λ u k. k.0 } in let in_after : Gets S C (AreNouns after.nouns) = got_named S C p (Ref me) here own (record { at = λ u k. k.1 }) in
      let e = thing_comes S s x h ((got_captures S C after xs in_after).at t c, rise S s t r (AreValues stamps) i) in
      widen S answer s t _ e.0 ((then_unit S (told_object_made S here.act me (scopes.name_of p) (map (λ b. b.bound) caught) stamps) (fine_answered after in_after (Ref me) own)).after t e.1 c)

  object_after : {C : Fact N} (node : ℕ) (p : Option Node) (xs : List Words) (stamps : List (Value N)) (here : Scope N) → Gets S C (AreNouns here.nouns) → Gets S C (AreValues stamps)
      → Fine S C (look (λ s. length s.things) >>= (λ n. calls.object_as K tree node p xs stamps (K.object n) here)) answer
  unfolding look ◌>>=◌ and_then
  object_after node p xs stamps here g i = record { after = λ s h c. object_ends node p xs stamps here s h (g.at s c) (i.at s c) }

  pub fine_make_object : {C : Fact N} → (again : Caller N) → GoodCaller S again → (node : ℕ) → (p : Option Node) → (xs : List Words) → (auditors : List (Value N)) → Gets S C (AreValues auditors) → (here : Scope N) → Gets S C (AreNouns here.nouns) → Fine S C (calls.make_object K tree again node p xs auditors here) answer
  unfolding calls.make_object
  fine_make_object {C = C} again h1 node p xs auditors g1 here g2 = bind_values S (fine_ask_all again h1 here.act (calls.view_of K tree node p xs here) (got_view K S tree C node p xs here g2) auditors g1)
      (λ stamps. object_after node p xs stamps here (got_left S C (AreValues stamps) (AreNouns here.nouns) g2) (got S C (AreValues stamps)))

  pub fine_all_of : {C : Fact N} → (x1 : Evaluator N) → GoodEvaluator S x1 → (x2 : List ℕ) → (x3 : Scope N) → Gets S C (AreNouns x3.nouns) → Fine S C (eval.all_of K tree x1 x2 x3) answers
  unfolding eval.all_of
  fine_all_of {C = C} rec good [] here g1 = search (served, looks, place_here, place_of_here, knows) depth 30
  fine_all_of {C = C} rec good (e ∷ es) here g1 = let rest : (D : Fact N) (next : Scope N) → Gets S D (AreNouns next.nouns) → Fine S D (eval.all_of K tree rec es next) answers = λ D next a. fine_all_of {C = D} rec good es next a in search (served, looks, place_here, place_of_here, knows, good.expression) depth 30

  pub fine_last_of : {C : Fact N} → (x1 : Evaluator N) → GoodEvaluator S x1 → (x2 : Answer N) → Gets S C (Also (IsValue x2.value) (AreNouns x2.scope.nouns)) → (x3 : List ℕ) → Fine S C (eval.last_of K tree x1 x2 x3) answer
  unfolding eval.last_of
  fine_last_of {C = C} rec good x g1 [] = search (served, looks, place_here, place_of_here, knows) depth 30
  fine_last_of {C = C} rec good x g1 (e ∷ es) = let dn : Gets S C (AreNouns x.scope.nouns) = record { at = λ s h. (g1.at s h).1 } in let rest : (D : Fact N) (y : Answer N) → Gets S D (Also (IsValue y.value) (AreNouns y.scope.nouns)) → Fine S D (eval.last_of K tree rec y es) answer = λ D y a. fine_last_of {C = D} rec good y a es in search (served, looks, place_here, place_of_here, knows, good.expression) depth 30

  pub fine_exit_of : {C : Fact N} → (x1 : Evaluator N) → GoodEvaluator S x1 → (x2 : Option ℕ) → (x3 : Scope N) → Gets S C (AreNouns x3.nouns) → Fine S C (eval.exit_of K tree x1 x2 x3) answer
  unfolding eval.exit_of
  fine_exit_of {C = C} rec good None here g1 = search (served, looks, place_here, place_of_here, knows, fine_answered) depth 30
  fine_exit_of {C = C} rec good (Some j) here g1 = search (served, looks, place_here, place_of_here, knows, good.expression) depth 30

  pub fine_caught_by : {C : Fact N} → (x1 : Evaluator N) → GoodEvaluator S x1 → (x2 : Scope N) → Gets S C (AreNouns x2.nouns) → (x3 : Option (ℕ × ℕ)) → (x4 : Value N) → Gets S C (IsValue x4) → Fine S C (eval.caught_by K tree x1 x2 x3 x4) answer
  unfolding eval.caught_by
  fine_caught_by {C = C} rec good here g1 None v g2 = search (served, looks, place_here, place_of_here, knows, fine_answered) depth 30
  fine_caught_by {C = C} rec good here g1 (Some c) v g2 = search (served, looks, place_here, place_of_here, knows, fine_answered, good.expression, good.pattern) depth 30

  pub fine_escaped : {C : Fact N} → (x1 : Evaluator N) → GoodEvaluator S x1 → (x2 : ℕ) → (x3 : Scope N) → Gets S C (AreNouns x3.nouns) → (x4 : Option (ℕ × ℕ)) → (x5 : Act N (Answer N)) → Fine S C x5 answer → Fine S C (eval.escaped K tree x1 x2 x3 x4 x5) answer
  unfolding eval.escaped
  fine_escaped {C = C} rec good j here g1 c m h5 = search (served, looks, place_here, place_of_here, knows, fine_leave, fine_answered, fine_caught_by) depth 30

  pub fine_handles : {C : Fact N} → (x1 : Evaluator N) → GoodEvaluator S x1 → (x2 : ℕ) → (x3 : ℕ) → (x4 : Scope N) → Gets S C (AreNouns x4.nouns) → (x5 : Words) → Fine S C (eval.handles K tree x1 x2 x3 x4 x5) answer
  unfolding eval.handles
  fine_handles {C = C} rec good p h here g1 t = search (served, looks, place_here, place_of_here, knows, fine_answered, good.expression, good.pattern) depth 30

  pub fine_tried : {C : Fact N} → (x1 : Evaluator N) → GoodEvaluator S x1 → (x2 : ℕ) → (x3 : ℕ) → (x4 : Scope N) → Gets S C (AreNouns x4.nouns) → (x5 : Act N (Answer N)) → Fine S C x5 answer → Fine S C (eval.tried K tree x1 x2 x3 x4 x5) answer
  unfolding eval.tried
  fine_tried {C = C} rec good p h here g1 m h5 = search (served, looks, place_here, place_of_here, knows, fine_answered, fine_handles) depth 30

  pub fine_at_last : {C : Fact N} → (x1 : Evaluator N) → GoodEvaluator S x1 → (x2 : ℕ) → (x3 : Scope N) → Gets S C (AreNouns x3.nouns) → (x4 : Act N (Answer N)) → Fine S C x4 answer → Fine S C (eval.at_last K tree x1 x2 x3 x4) answer
  unfolding eval.at_last
  fine_at_last {C = C} rec good b here g1 m h4 = search (served, looks, place_here, place_of_here, knows, fine_answered, good.expression) depth 30

  pub fine_choose : {C : Fact N} → (x1 : Evaluator N) → GoodEvaluator S x1 → (x2 : ℕ) → (x3 : ℕ) → (x4 : Scope N) → Gets S C (AreNouns x4.nouns) → (x5 : Scope N) → Gets S C (AreNouns x5.nouns) → (x6 : Value N) → Gets S C (IsValue x6) → Fine S C (eval.choose K tree x1 x2 x3 x4 x5 x6) answer
  unfolding eval.choose
  fine_choose {C = C} rec good a b here g1 inner g2 (Flag true) g3 = search (served, looks, place_here, place_of_here, knows, fine_answered, good.expression) depth 30
  fine_choose {C = C} rec good a b here g1 inner g2 other g3 = search (served, looks, place_here, place_of_here, knows, fine_answered, good.expression) depth 30

  pub fine_unmatched_noun : {C : Fact N} → (x1 : ℕ) → (x2 : Bool) → Fine S C (eval.unmatched_noun K tree x1 x2) IsBound
  unfolding eval.unmatched_noun
  fine_unmatched_noun {C = C} act false = search (served, looks, place_here, place_of_here, knows) depth 30
  fine_unmatched_noun {C = C} act true = search (served, looks, place_here, place_of_here, knows) depth 30

  pub fine_unmatched : {C : Fact N} → (bs : List BoundNoun) → (here : Scope N) → Gets S C (AreNouns here.nouns) → Fine S C (eval.unmatched K tree bs here) scope
  unfolding eval.unmatched scopes.with_noun
  fine_unmatched {C = C} [] here g = fine_give S here g
  fine_unmatched {C = C} (b ∷ bs) here g = fine_bind S IsBound (fine_unmatched_noun here.act b.is_var) (λ n. fine_unmatched {C = Also C (IsBound n)} bs (scopes.with_noun b.noun n here) (got_noun S (Also C (IsBound n)) b.noun n here.nouns (got S C (IsBound n)) (got_left S C (IsBound n) (AreNouns here.nouns) g)))

  pub fine_not_matched : {C : Fact N} → (p : ℕ) → (here : Scope N) → Gets S C (AreNouns here.nouns) → (v : Value N) → Fine S C (eval.not_matched K tree p here v) answer
  unfolding eval.not_matched
  fine_not_matched {C = C} p here g v = search (served, looks, place_here, place_of_here, knows, fine_unmatched, fine_answered) depth 30

  pub fine_match_ended : {C : Fact N} → (x1 : ℕ) → (x2 : ℕ) → (x3 : Scope N) → Gets S C (AreNouns x3.nouns) → (x4 : Act N (Scope N)) → Fine S C x4 scope → Fine S C (eval.match_ended K tree x1 x2 x3 x4) answer
  unfolding eval.match_ended
  fine_match_ended {C = C} j p here g1 m h4 = search (served, looks, place_here, place_of_here, knows, fine_leave, fine_answered, fine_not_matched) depth 30

  pub fine_write_cell : {C : Fact N} → (x1 : Evaluator N) → GoodEvaluator S x1 → (x2 : ℕ) → (x3 : ℕ) → (x4 : Value N) → Gets S C (IsValue x4) → (x5 : Option (Cell N)) → Gets S C (MayCell x5) → Fine S C (eval.write_cell K tree x1 x2 x3 x4 x5) IsValue
  unfolding eval.write_cell
  fine_write_cell {C = C} rec good act k v g1 None g2 = search (served, looks, place_here, place_of_here, knows) depth 30
  fine_write_cell {C = C} rec good act k v g1 (Some c) g2 = let dg_g2 : Gets S C (IsValue c.guard) = record { at = λ s h. (g2.at s h).0 } in let dv_g2 : Gets S C (IsValue c.value) = record { at = λ s h. (g2.at s h).1 } in search (served, looks, place_here, place_of_here, knows, fine_coerce, fine_call) depth 30

  pub fine_write_bound : {C : Fact N} → (x1 : Evaluator N) → GoodEvaluator S x1 → (x2 : ℕ) → (x3 : Option (Bound N)) → Gets S C (MayBound x3) → (x4 : Value N) → Gets S C (IsValue x4) → Fine S C (eval.write_bound K tree x1 x2 x3 x4) IsValue
  unfolding eval.write_bound
  fine_write_bound {C = C} rec good act (Some (Slot k)) g1 v g2 = search (served, looks, place_here, place_of_here, knows, fine_write_cell) depth 30
  fine_write_bound {C = C} rec good act _ g1 v g2 = search (served, looks, place_here, place_of_here, knows) depth 30

  pub fine_guard_of : {C : Fact N} → (x1 : Evaluator N) → GoodEvaluator S x1 → (x2 : Option ℕ) → (x3 : Scope N) → Gets S C (AreNouns x3.nouns) → Fine S C (eval.guard_of K tree x1 x2 x3) answer
  unfolding eval.guard_of
  fine_guard_of {C = C} rec good None here g1 = search (served, looks, place_here, place_of_here, knows, fine_answered) depth 30
  fine_guard_of {C = C} rec good (Some g) here g1 = search (served, looks, place_here, place_of_here, knows, fine_answered, good.expression) depth 30

  pub fine_bind_list : {C : Fact N} → (x1 : Evaluator N) → GoodEvaluator S x1 → (x2 : List ℕ) → (x3 : Value N) → Gets S C (IsValue x3) → (x4 : Scope N) → Gets S C (AreNouns x4.nouns) → (x5 : List (Value N)) → Gets S C (AreValues x5) → Fine S C (eval.bind_list K tree x1 x2 x3 x4 x5) scope
  unfolding eval.bind_list
  fine_bind_list {C = C} rec good ps j g1 here g2 vs g3 = search (served, looks, place_here, place_of_here, knows, fine_bind_all, fine_failed, fine_call) depth 30

  pub fine_bind_items : {C : Fact N} → (x1 : Evaluator N) → GoodEvaluator S x1 → (x2 : List ℕ) → (x3 : Value N) → Gets S C (IsValue x3) → (x4 : Scope N) → Gets S C (AreNouns x4.nouns) → (x5 : Value N) → Gets S C (IsValue x5) → Fine S C (eval.bind_items K tree x1 x2 x3 x4 x5) scope
  unfolding eval.bind_items
  fine_bind_items {C = C} rec good ps j g1 here g2 (Items k) g3 = search (served, looks, place_here, place_of_here, knows, fine_bind_list) depth 30
  fine_bind_items {C = C} rec good ps j g1 here g2 _ g3 = search (served, looks, place_here, place_of_here, knows, fine_failed, fine_call) depth 30

  -- what the nodes of the language are put together from: a node that is put together so too is no more text here
  ruleset nodes = (bind_ejector, served, looks, place_here, place_of_here, knows, fine_answered, fine_read_bound, fine_write_bound, fine_failed, fine_handed, fine_coerce, fine_make_list, fine_leave, fine_bind_all, fine_call, fine_make_object, fine_all_of, fine_last_of, fine_exit_of, fine_caught_by, fine_escaped, fine_handles, fine_tried, fine_at_last, fine_choose, fine_unmatched, fine_not_matched, fine_match_ended, fine_guard_of, fine_bind_list, fine_bind_items)

  pub fine_step : {C : Fact N} → (x1 : Evaluator N) → GoodEvaluator S x1 → (x2 : ℕ) → (x3 : Node) → (x4 : Scope N) → Gets S C (AreNouns x4.nouns) → Fine S C (eval.step K tree x1 x2 x3 x4) answer
  unfolding eval.step
  fine_step {C = C} rec good id (Lit l) here g1 = search (nodes, good.expression, good.pattern) depth 30
  fine_step {C = C} rec good id other here g1 = search (nodes, good.expression, good.pattern) depth 30

  pub fine_bind_step : {C : Fact N} → (rec : Evaluator N) → GoodEvaluator S rec → (n : Node) → (v : Value N) → Gets S C (IsValue v) → (j : Value N) → Gets S C (IsValue j) → (here : Scope N) → Gets S C (AreNouns here.nouns) → Fine S C (eval.bind_step K tree rec n v j here) scope
  unfolding eval.bind_step scopes.with_noun
  fine_bind_step {C = C} rec good (Any g) v g1 j g2 here g3 = search (nodes, good.expression, good.pattern) depth 30
  fine_bind_step {C = C} rec good other v g1 j g2 here g3 = search (nodes, good.expression, good.pattern) depth 30

  pub fine_bind_found : {C : Fact N} → (rec : Evaluator N) → GoodEvaluator S rec → (o : Option Node) → (v : Value N) → Gets S C (IsValue v) → (j : Value N) → Gets S C (IsValue j) → (here : Scope N) → Gets S C (AreNouns here.nouns) → Fine S C (eval.bind_found K tree rec o v j here) scope
  unfolding eval.bind_found
  fine_bind_found {C = C} rec good None v g1 j g2 here g3 = fine_stop S _
  fine_bind_found {C = C} rec good (Some n) v g1 j g2 here g3 = fine_bind_step rec good n v g1 j g2 here g3

  pub fine_step_found : {C : Fact N} → (x1 : Evaluator N) → GoodEvaluator S x1 → (x2 : ℕ) → (x3 : Option Node) → (x4 : Scope N) → Gets S C (AreNouns x4.nouns) → Fine S C (eval.step_found K tree x1 x2 x3 x4) answer
  unfolding eval.step_found
  fine_step_found {C = C} rec good id None here g1 = search (served, looks, place_here, place_of_here, knows) depth 30
  fine_step_found {C = C} rec good id (Some n) here g1 = search (served, looks, place_here, place_of_here, knows, fine_step) depth 30

  good_deeper : (rec : Evaluator N) → GoodEvaluator S rec → GoodEvaluator S (eval.deeper K tree rec)
  unfolding eval.deeper
  good_deeper rec good = record {
    expression = λ C id here g. then_unit S (fine_spend S 1) (fine_step_found rec good id (slice_get tree id) here g);
    pattern = λ C id v g1 j g2 here g3. then_unit S (fine_spend S 1) (fine_bind_found rec good (slice_get tree id) v g1 j g2 here g3);
  }

  pub good_evaluator : (d : ℕ) → GoodEvaluator S (eval.evaluator K tree d)
  unfolding eval.evaluator
  good_evaluator zero = record { expression = λ C id here g. fine_stop S _; pattern = λ C id v g1 j g2 here g3. fine_stop S _ }
  good_evaluator (suc d) = good_deeper (eval.evaluator K tree d) (good_evaluator d)

  pub fine_closes : {C : Fact N} → (x1 : ℕ) → (x2 : Option N) → Gets S C (MayName x2) → WhereSome (Closing K S) x2 → (x3 : Act N (Value N)) → Fine S C x3 IsValue → Fine S C (eval.closes K tree x1 x2 x3) nothing
  unfolding eval.closes for_some
  fine_closes {C = C} act (Some p) n1 closing m h3 = let name : Gets S C (IsName p) = record { at = λ s h. n1.at s h } in search (served, looks, place_here, place_of_here, knows, serve_close, serve_break) depth 30
  fine_closes {C = C} act None n1 closing m h3 = search (served, looks, place_here, place_of_here, knows) depth 30

  pub fine_opening : {C : Fact N} → (x1 : ℕ) → (x2 : N) → Gets S C (IsName x2) → Closing K S x2 → (x3 : List (Binding N)) → Gets S C (AreNouns x3) → Fine S C (eval.opening K tree x1 x2 x3) nothing
  unfolding eval.opening
  fine_opening {C = C} depth p n1 closing given g1 = let good : GoodEvaluator S (eval.evaluator K tree depth) = good_evaluator depth in
      search (served, looks, place_here, place_of_here, knows, fine_closes, good.expression) depth 30

  -- a turn, once its message is taken
  pub fine_turn : {C : Fact N} → (depth act : ℕ) → (m : Message N) → Gets S C (IsMessage m) → WhereSome (Closing K S) m.answer → Fine S C (eval.closes K tree act m.answer (calls.turn_value K tree (eval.evaluator K tree depth) act m.target m.verb m.args)) nothing
  fine_turn {C = C} depth act m g1 closing = let mt_m : Gets S C (IsValue m.target) = record { at = λ s h. (g1.at s h).1 } in let ma_m : Gets S C (AreValues m.args) = record { at = λ s h. (g1.at s h).2 } in let mr_m : Gets S C (MayName m.answer) = record { at = λ s h. (g1.at s h).3 } in
      fine_closes act m.answer mr_m closing _ (fine_turn_value (eval.evaluator K tree depth) (good_evaluator depth) act m.target mt_m m.verb m.args ma_m)

-- where each single change is cared for, a turn is too
pub fine_taking : {N W : Type 0} (K : Naming N W) (S : Care N) (law : Under K S) (makes : Makes K S) (tree : List Node) {C : Fact N} (depth : ℕ) (m : Message N) → Gets S C (IsMessage m) → Fine S C (eval.taking K tree depth m) nothing
unfolding eval.taking
fine_taking K S law makes tree depth m g = bind_number S (fine_activation S) (λ a. then_unit S (fine_tell K S law (Took a m)) (fine_turn K S (served_by K S law makes) tree depth a m g (closing_some K S (closing_by K S law) m.answer)))
