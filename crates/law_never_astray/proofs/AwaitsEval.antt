-- All of evaluation leaves by ejectors alone that are awaited.
use Rattle.std.proofs.Common.{◌≡◌, ℕ, zero, suc, Bool, true, false, List, [], ◌∷◌, Option, Some, None, refl, ap}
use Rattle.def_machine.specs.Values.{Words, Value, Null, Flag, Text, Prim, Items, Ref, Naming, Spot, Own}
use Rattle.def_machine.specs.State.{Bound, Slot, Scope, Binding, Cell, View, Thing, Made, Ejector, Audition, Resolver, Standing, Unsettled, Act, Got, ◌>>=◌, ◌>>◌, give, throw, tell}
use Rattle.def_machine.specs.Refs.{Place, Near}
use Rattle.def_machine.specs.Form.{Item, Begin, End, Word, Fact}
use Rattle.def_machine.specs.Free.{BoundNoun}
use Rattle.def_machine.specs.Native.{Reply, Writes, Guard, Asked, MakesList}
use Rattle.def_machine.specs.Scopes as scopes
use Rattle.def_machine.specs.Perform as perform
use Rattle.def_machine.specs.Calls as calls
use Rattle.def_machine.specs.Eval as eval
use Rattle.def_machine.specs.Scopes.{Answer, Evaluator, Caller, Body, Case, AuditionAsk, GetsForm, NoAuditionAsk, ResolverAsk, Resolves}
use Rattle.def_kernel.specs.declared.node.Node.{Node}
use Rattle.def_kernel.specs.declared.node.Node.TheVariants.{Escape, MatchBind, Any}
use Rattle.law_machine.proofs.Machine.Walks.{walk_bind, walk_then}
use Rattle.law_fate.specs.Name.Names.{IsAmong}
use Rattle.law_never_astray.proofs.Awaits.{Awaited, AwaitedBy, awaited_closed, awaits, await_ending, await_eject, await_look_thing, await_escape, await_break, await_resolve, await_send, await_send_only, await_react, await_ended, await_leaving}

-- a call does, whatever is called
abbrev pub GoodCaller : {N : Type 0} → Caller N → Type 0
GoodCaller {N} again = (esc : List ℕ) (act : ℕ) (x : Value N) (verb : Words) (args : List (Value N)) → Awaited esc (again act x verb args)

-- so do the nodes below
pub record GoodEvaluator {N : Type 0} (rec : Evaluator N) : Type 0 where
  pub expression : (esc : List ℕ) (id : ℕ) (here : Scope N) → Awaited esc (rec.expression id here)
  pub pattern : (esc : List ℕ) (id : ℕ) (v j : Value N) (here : Scope N) → Awaited esc (rec.pattern id v j here)

-- a thing that was found under that number; an ejector that is live is awaited
abbrev pub IsFound : {N : Type 0} → List ℕ → ℕ → Option (Thing N) → Type 0
IsFound esc i o = o ≡ Some (Ejector true) → IsAmong i esc

module _ {N W : Type 0} (K : Naming N W) (tree : List Node) where
  pub await_answered : (esc : List ℕ) → (x1 : Scope N) → (x2 : Value N) → Awaited esc (scopes.answered x1 x2)
  unfolding scopes.answered
  await_answered esc here v = search (awaits) depth 14

  pub await_read_cell : (esc : List ℕ) → (x1 : ℕ) → (x2 : ℕ) → (x3 : Option (Cell N)) → Awaited esc (scopes.read_cell x1 x2 x3)
  unfolding scopes.read_cell
  await_read_cell esc act k None = search (awaits) depth 14
  await_read_cell esc act k (Some c) = search (awaits) depth 14

  pub await_read_bound : (esc : List ℕ) → (x1 : ℕ) → (x2 : Option (Bound N)) → (x3 : Words) → Awaited esc (scopes.read_bound x1 x2 x3)
  unfolding scopes.read_bound
  await_read_bound esc act (Some (Slot k)) x = search (awaits, await_read_cell) depth 14
  await_read_bound esc act other x = search (awaits) depth 14

  pub await_with_lines : (esc : List ℕ) → (x1 : ℕ) → (x2 : Value N) → (x3 : Words) → (x4 : List (Value N)) → (x5 : Act N (Value N)) → Awaited esc x5 → Awaited esc (scopes.with_lines x1 x2 x3 x4 x5)
  unfolding scopes.with_lines
  await_with_lines esc act x verb args m h5 = search (awaits, await_ended) depth 14

  pub await_fail_by : (esc : List ℕ) → {A : Type 0} → (x1 : Caller N) → GoodCaller x1 → (x2 : ℕ) → (x3 : Value N) → (x4 : Words) → (x5 : Bool) → Awaited esc (perform.fail_by K tree {A = A} x1 x2 x3 x4 x5)
  unfolding perform.fail_by
  await_fail_by esc again h1 act j p true = search (awaits) depth 14
  await_fail_by esc again h1 act j p false = search (awaits) depth 14

  pub await_failed : (esc : List ℕ) → {A : Type 0} → (x1 : Caller N) → GoodCaller x1 → (x2 : ℕ) → (x3 : Value N) → (x4 : Words) → Awaited esc (perform.failed K tree {A = A} x1 x2 x3 x4)
  unfolding perform.failed
  await_failed esc again h1 act j p = search (awaits, await_fail_by) depth 14

  pub await_handed : (esc : List ℕ) → (x1 : Value N) → Awaited esc (perform.handed K tree x1)
  unfolding perform.handed
  await_handed esc j = search (awaits) depth 14

  pub await_native_coerce : (esc : List ℕ) → (x1 : Caller N) → GoodCaller x1 → (x2 : ℕ) → (x3 : Guard) → (x4 : Value N) → (x5 : Value N) → Awaited esc (perform.native_coerce K tree x1 x2 x3 x4 x5)
  unfolding perform.native_coerce
  await_native_coerce esc again h1 act g j x = search (awaits, await_failed) depth 14

  pub await_coerce_near : (esc : List ℕ) → (x1 : Caller N) → GoodCaller x1 → (x2 : ℕ) → (x3 : Value N) → (x4 : Value N) → (x5 : Value N) → (x6 : Place N) → Awaited esc (perform.coerce_near K tree x1 x2 x3 x4 x5 x6)
  unfolding perform.coerce_near
  await_coerce_near esc again h1 act g j x Near = search (awaits, await_handed) depth 14
  await_coerce_near esc again h1 act g j x _ = search (awaits) depth 14

  pub await_coerce_native : (esc : List ℕ) → (x1 : Caller N) → GoodCaller x1 → (x2 : ℕ) → (x3 : Option Guard) → (x4 : Value N) → (x5 : Value N) → Awaited esc (perform.coerce_native K tree x1 x2 x3 x4 x5)
  unfolding perform.coerce_native
  await_coerce_native esc again h1 act (Some g) j x = search (awaits, await_native_coerce) depth 14
  await_coerce_native esc again h1 act None j x = search (awaits) depth 14

  pub await_coerce : (esc : List ℕ) → (x1 : Caller N) → GoodCaller x1 → (x2 : ℕ) → (x3 : Value N) → (x4 : Value N) → (x5 : Value N) → Awaited esc (perform.coerce K tree x1 x2 x3 x4 x5)
  unfolding perform.coerce
  await_coerce esc again h1 act (Prim n) j x = search (awaits, await_coerce_native, await_coerce_near) depth 14
  await_coerce esc again h1 act other j x = search (awaits, await_coerce_native, await_coerce_near) depth 14

  pub await_store : (esc : List ℕ) → (x1 : ℕ) → (x2 : List (Value N)) → Awaited esc (perform.store K tree x1 x2)
  unfolding perform.store
  await_store esc act vs = search (awaits) depth 14

  pub await_make_list : (esc : List ℕ) → (x1 : ℕ) → (x2 : List (Value N)) → Awaited esc (perform.make_list K tree x1 x2)
  unfolding perform.make_list
  await_make_list esc act vs = search (awaits, await_store) depth 14

  pub await_spell : (esc : List ℕ) → (x1 : Words) → Awaited esc (perform.spell K tree x1)
  unfolding perform.spell
  await_spell esc t = search (awaits) depth 14

  pub await_write_text : (esc : List ℕ) → (x1 : Words) → Awaited esc (perform.write_text K tree x1)
  unfolding perform.write_text
  await_write_text esc t = search (awaits, await_spell) depth 14

  pub await_iterate : (esc : List ℕ) → (x1 : Caller N) → GoodCaller x1 → (x2 : ℕ) → (x3 : Value N) → (x4 : ℕ) → (x5 : List (Value N)) → Awaited esc (perform.iterate K tree x1 x2 x3 x4 x5)
  unfolding perform.iterate
  await_iterate esc again h act o k [] = search (awaits)
  await_iterate esc again h act o k (v ∷ vs) = let rest = await_iterate esc again h act o (suc k) vs in search (awaits)

  pub await_reply : (esc : List ℕ) → (x1 : Caller N) → GoodCaller x1 → (x2 : ℕ) → (x3 : Reply N) → Awaited esc (perform.reply K tree x1 x2 x3)
  unfolding perform.reply
  await_reply esc again h1 act (Writes t) = search (awaits, await_write_text, await_make_list, await_iterate) depth 14
  await_reply esc again h1 act other = search (awaits, await_write_text, await_make_list, await_iterate) depth 14

  pub await_data_answer : (esc : List ℕ) → (x1 : Caller N) → GoodCaller x1 → (x2 : ℕ) → (x3 : Value N) → (x4 : Words) → (x5 : List (Value N)) → Awaited esc (perform.data_answer K tree x1 x2 x3 x4 x5)
  unfolding perform.data_answer
  await_data_answer esc again h1 act y verb args = search (awaits, await_reply) depth 14

  pub await_send_by : (esc : List ℕ) → (x0 : Bool) → (x1 : ℕ) → (x2 : Value N) → (x3 : Words) → (x4 : List (Value N)) → Awaited esc (perform.send_by K tree x0 x1 x2 x3 x4)
  unfolding perform.send_by
  await_send_by esc only act x verb args = search (awaits, await_send, await_send_only) depth 14

  pub await_send_listed : (esc : List ℕ) → (x0 : Bool) → (x1 : ℕ) → (x2 : Value N) → (x3 : Words) → (x4 : List (Value N)) → Awaited esc (perform.send_listed K tree x0 x1 x2 x3 x4)
  unfolding perform.send_listed
  await_send_listed esc only act x verb args = search (awaits, await_send_by) depth 14

  pub await_send_with : (esc : List ℕ) → (x0 : Bool) → (x1 : ℕ) → (x2 : Value N) → (x3 : Value N) → (x4 : Value N) → Awaited esc (perform.send_with K tree x0 x1 x2 x3 x4)
  unfolding perform.send_with
  await_send_with esc only act x (Text verb) (Items k) = search (awaits, await_send_listed) depth 14
  await_send_with esc only act x _ _ = search (awaits) depth 14

  pub await_call_listed : (esc : List ℕ) → (x1 : Caller N) → GoodCaller x1 → (x2 : ℕ) → (x3 : Value N) → (x4 : Words) → (x5 : List (Value N)) → Awaited esc (perform.call_listed K tree x1 x2 x3 x4 x5)
  unfolding perform.call_listed
  await_call_listed esc again h1 act x verb args = search (awaits) depth 14

  pub await_call_with : (esc : List ℕ) → (x1 : Caller N) → GoodCaller x1 → (x2 : ℕ) → (x3 : Value N) → (x4 : Value N) → (x5 : Value N) → Awaited esc (perform.call_with K tree x1 x2 x3 x4 x5)
  unfolding perform.call_with
  await_call_with esc again h1 act x (Text verb) (Items k) = search (awaits, await_call_listed) depth 14
  await_call_with esc again h1 act x _ _ = search (awaits) depth 14

  pub await_make_promise : (esc : List ℕ) → (x1 : ℕ) → Awaited esc (perform.make_promise K tree x1)
  unfolding perform.make_promise
  await_make_promise esc act = search (awaits, await_make_list) depth 14

  pub await_react_near : (esc : List ℕ) → (x1 : ℕ) → (x2 : Value N) → (x3 : Value N) → (x4 : Value N) → (x5 : Place N) → Awaited esc (perform.react_near K tree x1 x2 x3 x4 x5)
  unfolding perform.react_near
  await_react_near esc act x o y Near = search (awaits, await_react) depth 14
  await_react_near esc act x o y _ = search (awaits) depth 14

  pub await_when_resolved : (esc : List ℕ) → (x1 : ℕ) → (x2 : Value N) → (x3 : Value N) → Awaited esc (perform.when_resolved K tree x1 x2 x3)
  unfolding perform.when_resolved
  await_when_resolved esc act x o = search (awaits, await_react_near) depth 14

  pub await_after_turn : (esc : List ℕ) → (x1 : Act N (Value N)) → Awaited esc x1 → (x2 : Value N) → Awaited esc (perform.after_turn K tree x1 x2)
  unfolding perform.after_turn
  await_after_turn esc more h1 (Flag true) = search awaits depth 14
  await_after_turn esc more h1 other = search awaits depth 14

  pub await_turns : (esc : List ℕ) → (x1 : ℕ) → (x2 : Act N (Value N)) → Awaited esc x2 → Awaited esc (perform.turns K tree x1 x2)
  unfolding perform.turns
  await_turns esc zero body h = search (awaits)
  await_turns esc (suc n) body h = let rest = await_turns esc n body h in search (awaits, await_after_turn) depth 14

  pub await_loop : (esc : List ℕ) → (x1 : Act N (Value N)) → Awaited esc x1 → Awaited esc (perform.loop K tree x1)
  unfolding perform.loop
  await_loop esc body h1 = search (awaits, await_turns) depth 14

  pub await_perform : (esc : List ℕ) → (x1 : Caller N) → GoodCaller x1 → (x2 : ℕ) → (x3 : Asked N) → Awaited esc (perform.perform K tree x1 x2 x3)
  unfolding perform.perform
  await_perform esc again h1 act (MakesList vs) = search (awaits, await_make_list, await_loop, await_send_with, await_call_with, await_make_promise, await_when_resolved, await_native_coerce, await_reply) depth 14
  await_perform esc again h1 act other = search (awaits, await_make_list, await_loop, await_send_with, await_call_with, await_make_promise, await_when_resolved, await_native_coerce, await_reply) depth 14

  pub await_audit : (esc : List ℕ) → (x1 : Caller N) → GoodCaller x1 → (x2 : ℕ) → (x3 : View N) → (x4 : Value N) → (x5 : Place N) → Awaited esc (calls.audit K tree x1 x2 x3 x4 x5)
  unfolding calls.audit
  await_audit esc again h1 act view a Near = search (awaits, await_leaving) depth 14
  await_audit esc again h1 act view a _ = search (awaits) depth 14

  pub await_verdict : (esc : List ℕ) → (x1 : Caller N) → GoodCaller x1 → (x2 : ℕ) → (x3 : View N) → (x4 : Value N) → (x5 : Value N) → Awaited esc (calls.verdict K tree x1 x2 x3 x4 x5)
  unfolding calls.verdict
  await_verdict esc again h1 act view a (Prim n) = search (awaits, await_audit) depth 14
  await_verdict esc again h1 act view a other = search (awaits, await_audit) depth 14

  pub await_ask_all : (esc : List ℕ) → (x1 : Caller N) → GoodCaller x1 → (x2 : ℕ) → (x3 : View N) → (x4 : List (Value N)) → Awaited esc (calls.ask_all K tree x1 x2 x3 x4)
  unfolding calls.ask_all
  await_ask_all esc again h act view [] = search (awaits)
  await_ask_all esc again h act view (a ∷ as') = let rest = await_ask_all esc again h act view as' in search (awaits, await_verdict) depth 14

  pub await_build : (esc : List ℕ) → (x1 : ℕ) → (x2 : List Item) → (x3 : List (List (Value N))) → Awaited esc (calls.build K tree x1 x2 x3)
  unfolding calls.build
  await_build esc act (Begin ∷ is) fs = await_build esc act is ([] ∷ fs)
  await_build esc act (Word w ∷ is) fs = await_build esc act is _
  await_build esc act (Fact l ∷ is) fs = await_build esc act is _
  await_build esc act (End ∷ []) (f ∷ fs) = search await_make_list
  await_build esc act (End ∷ i ∷ is) (f ∷ fs) = let rest = λ (gs : List (List (Value N))). await_build esc act (i ∷ is) gs in search (awaits, await_make_list)
  await_build esc act _ _ = search (awaits)

  pub await_audition_live : (esc : List ℕ) → (x1 : Caller N) → GoodCaller x1 → (x2 : ℕ) → (x3 : View N) → (x4 : AuditionAsk N) → Awaited esc (calls.audition_live K tree x1 x2 x3 x4)
  unfolding calls.audition_live
  await_audition_live esc again h1 act view GetsForm = search (awaits, await_build, await_reply, await_verdict) depth 14
  await_audition_live esc again h1 act view other = search (awaits, await_build, await_reply, await_verdict) depth 14

  pub await_audition_answer : (esc : List ℕ) → (x1 : Caller N) → GoodCaller x1 → (x2 : ℕ) → (x3 : Bool) → (x4 : View N) → (x5 : AuditionAsk N) → Awaited esc (calls.audition_answer K tree x1 x2 x3 x4 x5)
  unfolding calls.audition_answer
  await_audition_answer esc again h1 act live view NoAuditionAsk = search (awaits) depth 14
  await_audition_answer esc again h1 act true view ask = search (awaits, await_audition_live) depth 14
  await_audition_answer esc again h1 act false view ask = search (awaits) depth 14

  pub await_ejector_answer : (esc : List ℕ) → (x1 : ℕ) → (x2 : Bool) → (x2 ≡ true → IsAmong x1 esc) → (x3 : Option (Value N)) → Awaited esc (calls.ejector_answer K tree x1 x2 x3)
  unfolding calls.ejector_answer
  await_ejector_answer esc i live h None = search (awaits) depth 14
  await_ejector_answer esc i true h (Some v) = await_eject esc i v (h refl)
  await_ejector_answer esc i false h (Some v) = search (awaits) depth 14

  pub await_where_unresolved : (esc : List ℕ) → (x1 : Standing N) → (x2 : Act N (Unit {0})) → Awaited esc x2 → Awaited esc (calls.where_unresolved K tree x1 x2)
  unfolding calls.where_unresolved
  await_where_unresolved esc Unsettled m h2 = search (awaits) depth 14
  await_where_unresolved esc _ m h2 = search (awaits) depth 14

  pub await_smash : (esc : List ℕ) → (x1 : N) → (x2 : Value N) → Awaited esc (calls.smash K tree x1 x2)
  unfolding calls.smash
  await_smash esc p (Text t) = search (awaits, await_where_unresolved, await_break) depth 14
  await_smash esc p _ = search (awaits) depth 14

  pub await_resolver_answer : (esc : List ℕ) → (x1 : N) → (x2 : ResolverAsk N) → Awaited esc (calls.resolver_answer K tree x1 x2)
  unfolding calls.resolver_answer
  await_resolver_answer esc p (Resolves x) = search (awaits, await_where_unresolved, await_resolve, await_smash) depth 14
  await_resolver_answer esc p other = search (awaits, await_where_unresolved, await_resolve, await_smash) depth 14

  pub await_bind_all : (esc : List ℕ) → (x1 : Evaluator N) → GoodEvaluator x1 → (x2 : List ℕ) → (x3 : List (Value N)) → (x4 : Value N) → (x5 : Scope N) → Awaited esc (calls.bind_all K tree x1 x2 x3 x4 x5)
  unfolding calls.bind_all
  await_bind_all esc rec good [] vs j here = search (awaits)
  await_bind_all esc rec good (p ∷ ps) [] j here = search (awaits)
  await_bind_all esc rec good (p ∷ ps) (v ∷ vs) j here = let rest = await_bind_all esc rec good ps vs j in search (awaits, good.pattern)

  pub await_matched : (esc : List ℕ) → (x1 : Evaluator N) → GoodEvaluator x1 → (x2 : ℕ) → (x4 : ℕ) → (x5 : Act N (Value N)) → Awaited esc x5 → (x6 : ℕ → Act N (Scope N)) → ((j : ℕ) → Awaited (j ∷ esc) (x6 j)) → Awaited esc (calls.new_ejector K tree x2 >>= λ j. calls.matched K tree x1 x2 j x4 x5 (x6 j))
  unfolding calls.matched calls.hand_over
  await_matched esc rec good act body next h5 m h6 = await_escape esc K tree act {f = λ j inner. rec.expression body inner >>= λ x. give x.value} {g = λ j p. throw p} {x = λ j v. tell (Got act v) >> next} {m = m}
      (λ j inner. search (awaits, good.expression) depth 14) (λ j p. search (awaits) depth 14) (λ j v. search (awaits) depth 14) h6

  pub await_match_all : (esc : List ℕ) → (x1 : Evaluator N) → GoodEvaluator x1 → (x2 : List Case) → (x3 : Value N) → (x4 : Scope N) → Awaited esc (calls.match_all K tree x1 x2 x3 x4)
  unfolding calls.match_all
  await_match_all esc rec good [] v here = search (awaits)
  await_match_all esc rec good (m ∷ ms) v here = await_matched esc rec good here.act m.body (λ s. calls.match_all K tree rec ms v here s) (await_match_all esc rec good ms v here)
      (λ j. rec.pattern m.pattern v (Ref (K.object j)) here) (λ j. good.pattern (j ∷ esc) m.pattern v (Ref (K.object j)) here)

  pub await_try_matchers : (esc : List ℕ) → (x1 : Evaluator N) → GoodEvaluator x1 → (x2 : List Case) → (x3 : Words) → (x4 : List (Value N)) → (x5 : Scope N) → Awaited esc (calls.try_matchers K tree x1 x2 x3 x4 x5)
  unfolding calls.try_matchers
  await_try_matchers esc rec good [] verb args here = search (awaits) depth 14
  await_try_matchers esc rec good (m ∷ ms) verb args here = search (awaits, await_make_list, await_match_all) depth 14

  pub await_run_body : (esc : List ℕ) → (x1 : Evaluator N) → GoodEvaluator x1 → (x2 : List Case) → (x3 : Words) → (x4 : Option Body) → (x5 : List (Value N)) → (x6 : Scope N) → Awaited esc (calls.run_body K tree x1 x2 x3 x4 x5 x6)
  unfolding calls.run_body
  await_run_body esc rec good ms verb (Some b) args here = search (awaits, await_bind_all, good.expression) depth 14
  await_run_body esc rec good ms verb None args here = search (awaits, await_try_matchers) depth 14

  pub await_run_object : (esc : List ℕ) → (x1 : Evaluator N) → GoodEvaluator x1 → (x2 : List ℕ) → (x3 : Words) → (x4 : List (Value N)) → (x5 : Scope N) → Awaited esc (calls.run_object K tree x1 x2 x3 x4 x5)
  unfolding calls.run_object
  await_run_object esc rec good members verb args here = search (awaits, await_run_body) depth 14

  pub await_thing_answer : (esc : List ℕ) → (x1 : Caller N) → GoodCaller x1 → (x2 : ℕ) → (x3 : ℕ) → (x4 : Thing N) → IsFound esc x3 (Some x4) → (x5 : Words) → (x6 : List (Value N)) → Awaited esc (calls.thing_answer K tree x1 x2 x3 x4 x5 x6)
  unfolding calls.thing_answer
  await_thing_answer esc again h1 act i (Ejector live) f verb args = await_ejector_answer esc i live (λ e. f (ap (λ b. Some (Ejector b)) e)) _
  await_thing_answer esc again h1 act i (Audition live view) f verb args = search (awaits, await_audition_answer) depth 14
  await_thing_answer esc again h1 act i (Resolver p) f verb args = search (awaits, await_resolver_answer) depth 14
  await_thing_answer esc again h1 act i (Made node caught stamps) f verb args = search (awaits) depth 14

  pub await_call_thing : (esc : List ℕ) → (x1 : Evaluator N) → GoodEvaluator x1 → (x2 : Caller N) → GoodCaller x2 → (x3 : ℕ) → (x4 : Value N) → (x5 : ℕ) → (x6 : Option (Thing N)) → IsFound esc x5 x6 → (x7 : Words) → (x8 : List (Value N)) → Awaited esc (calls.call_thing K tree x1 x2 x3 x4 x5 x6 x7 x8)
  unfolding calls.call_thing
  await_call_thing esc rec good again h2 act x i None f verb args = search (awaits) depth 14
  await_call_thing esc rec good again h2 act x i (Some (Made node caught stamps)) f verb args = search (awaits, await_ended, await_run_object) depth 14
  await_call_thing esc rec good again h2 act x i (Some t) f verb args = await_with_lines esc act x verb args _ (await_thing_answer esc again h2 act i t f verb args)

  pub await_call_spot : (esc : List ℕ) → (x1 : Evaluator N) → GoodEvaluator x1 → (x2 : Caller N) → GoodCaller x2 → (x3 : ℕ) → (x4 : Value N) → (x5 : Spot) → (x6 : Words) → (x7 : List (Value N)) → Awaited esc (calls.call_spot K tree x1 x2 x3 x4 x5 x6 x7)
  unfolding calls.call_spot
  await_call_spot esc rec good again h2 act x (Own i) verb args = await_look_thing esc i (λ o f. await_call_thing esc rec good again h2 act x i o f verb args)
  await_call_spot esc rec good again h2 act x _ verb args = search (awaits) depth 14

  pub await_call_value : (esc : List ℕ) → (x1 : Evaluator N) → GoodEvaluator x1 → (x2 : Caller N) → GoodCaller x2 → (x3 : ℕ) → (x4 : Value N) → (x5 : Value N) → (x6 : Words) → (x7 : List (Value N)) → Awaited esc (calls.call_value K tree x1 x2 x3 x4 x5 x6 x7)
  unfolding calls.call_value
  await_call_value esc rec good again h2 act x (Ref n) verb args = search (awaits, await_call_spot, await_perform, await_with_lines, await_data_answer) depth 14
  await_call_value esc rec good again h2 act x other verb args = search (awaits, await_call_spot, await_perform, await_with_lines, await_data_answer) depth 14

  pub await_call_one : (esc : List ℕ) → (x1 : Evaluator N) → GoodEvaluator x1 → (x2 : Caller N) → GoodCaller x2 → (x3 : ℕ) → (x4 : Value N) → (x5 : Words) → (x6 : List (Value N)) → Awaited esc (calls.call_one K tree x1 x2 x3 x4 x5 x6)
  unfolding calls.call_one
  await_call_one esc rec good again h2 act x verb args = search (awaits, await_call_value) depth 14

  pub await_call_at : (esc : List ℕ) → (x1 : ℕ) → (x2 : Evaluator N) → GoodEvaluator x2 → (x3 : ℕ) → (x4 : Value N) → (x5 : Words) → (x6 : List (Value N)) → Awaited esc (calls.call_at K tree x1 x2 x3 x4 x5 x6)
  unfolding calls.call_at
  await_call_at esc zero rec good act x verb args = search (awaits)
  await_call_at esc (suc d) rec good act x verb args = await_call_one esc rec good (λ a y v xs. calls.call_at K tree d rec a y v xs) (λ zs a y v xs. await_call_at zs d rec good a y v xs) act x verb args

  pub await_call : (esc : List ℕ) → (x1 : Evaluator N) → GoodEvaluator x1 → (x2 : ℕ) → (x3 : Value N) → (x4 : Words) → (x5 : List (Value N)) → Awaited esc (calls.call K tree x1 x2 x3 x4 x5)
  unfolding calls.call
  await_call esc rec good act x verb args = search (awaits, await_call_at) depth 14

  pub await_turn_thing : (esc : List ℕ) → (x1 : Evaluator N) → GoodEvaluator x1 → (x2 : ℕ) → (x3 : ℕ) → (x4 : Option (Thing N)) → IsFound esc x3 x4 → (x5 : Words) → (x6 : List (Value N)) → Awaited esc (calls.turn_thing K tree x1 x2 x3 x4 x5 x6)
  unfolding calls.turn_thing
  await_turn_thing esc rec good act i None f verb args = search (awaits) depth 14
  await_turn_thing esc rec good act i (Some (Made node caught stamps)) f verb args = search (awaits, await_run_object) depth 14
  await_turn_thing esc rec good act i (Some t) f verb args = await_thing_answer esc (calls.call K tree rec) (λ xs a x v vs. await_call xs rec good a x v vs) act i t f verb args

  pub await_turn_spot : (esc : List ℕ) → (x1 : Evaluator N) → GoodEvaluator x1 → (x2 : ℕ) → (x3 : Spot) → (x4 : Words) → (x5 : List (Value N)) → Awaited esc (calls.turn_spot K tree x1 x2 x3 x4 x5)
  unfolding calls.turn_spot
  await_turn_spot esc rec good act (Own i) verb args = await_look_thing esc i (λ o f. await_turn_thing esc rec good act i o f verb args)
  await_turn_spot esc rec good act _ verb args = search (awaits) depth 14

  pub await_turn_value : (esc : List ℕ) → (x1 : Evaluator N) → GoodEvaluator x1 → (x2 : ℕ) → (x3 : Value N) → (x4 : Words) → (x5 : List (Value N)) → Awaited esc (calls.turn_value K tree x1 x2 x3 x4 x5)
  unfolding calls.turn_value
  await_turn_value esc rec good act (Ref n) verb args = search (awaits, await_turn_spot, await_perform, await_call, await_data_answer) depth 14
  await_turn_value esc rec good act other verb args = search (awaits, await_turn_spot, await_perform, await_call, await_data_answer) depth 14

  pub await_object_made : (esc : List ℕ) → (x1 : ℕ) → (x2 : Words) → (x3 : ℕ) → (x4 : N) → (x5 : Scope N) → (x6 : List (Value N)) → (x7 : List (Binding N)) → Awaited esc (calls.object_made K tree x1 x2 x3 x4 x5 x6 x7)
  unfolding calls.object_made
  await_object_made esc node x act me after stamps caught = search (awaits, await_answered) depth 14

  pub await_object_in : (esc : List ℕ) → (x1 : ℕ) → (x2 : Words) → (x3 : List Words) → (x4 : ℕ) → (x5 : N) → (x6 : List (Value N)) → (x7 : Scope N) → Awaited esc (calls.object_in K tree x1 x2 x3 x4 x5 x6 x7)
  unfolding calls.object_in
  await_object_in esc node x free act me stamps after = search (awaits, await_object_made) depth 14

  pub await_object_as : (esc : List ℕ) → (x1 : ℕ) → (x2 : Option Node) → (x3 : List Words) → (x4 : List (Value N)) → (x5 : N) → (x6 : Scope N) → Awaited esc (calls.object_as K tree x1 x2 x3 x4 x5 x6)
  unfolding calls.object_as
  await_object_as esc node p free stamps me here = search (awaits, await_object_in) depth 14

  pub await_make_object : (esc : List ℕ) → (x1 : Caller N) → GoodCaller x1 → (x2 : ℕ) → (x3 : Option Node) → (x4 : List Words) → (x5 : List (Value N)) → (x6 : Scope N) → Awaited esc (calls.make_object K tree x1 x2 x3 x4 x5 x6)
  unfolding calls.make_object
  await_make_object esc again h1 node p free auditors here = search (awaits, await_ask_all, await_object_as) depth 14

  pub await_all_of : (esc : List ℕ) → (x1 : Evaluator N) → GoodEvaluator x1 → (x2 : List ℕ) → (x3 : Scope N) → Awaited esc (eval.all_of K tree x1 x2 x3)
  unfolding eval.all_of
  await_all_of esc rec good [] here = search (awaits)
  await_all_of esc rec good (e ∷ es) here = let rest = await_all_of esc rec good es in search (awaits, good.expression) depth 14

  pub await_last_of : (esc : List ℕ) → (x1 : Evaluator N) → GoodEvaluator x1 → (x2 : Answer N) → (x3 : List ℕ) → Awaited esc (eval.last_of K tree x1 x2 x3)
  unfolding eval.last_of
  await_last_of esc rec good x [] = search (awaits)
  await_last_of esc rec good x (e ∷ es) = let rest = λ (y : scopes.Answer N). await_last_of esc rec good y es in search (awaits, good.expression)

  pub await_exit_of : (esc : List ℕ) → (x1 : Evaluator N) → GoodEvaluator x1 → (x2 : Option ℕ) → (x3 : Scope N) → Awaited esc (eval.exit_of K tree x1 x2 x3)
  unfolding eval.exit_of
  await_exit_of esc rec good None here = search (awaits, await_answered) depth 14
  await_exit_of esc rec good (Some j) here = search (awaits, good.expression) depth 14

  pub await_caught_by : (esc : List ℕ) → (x1 : Evaluator N) → GoodEvaluator x1 → (x2 : Scope N) → (x3 : Option (ℕ × ℕ)) → (x4 : Value N) → Awaited esc (eval.caught_by K tree x1 x2 x3 x4)
  unfolding eval.caught_by
  await_caught_by esc rec good here None v = search (awaits, await_answered) depth 14
  await_caught_by esc rec good here (Some c) v = search (awaits, await_answered, good.expression, good.pattern) depth 14

  pub await_escaped : (esc : List ℕ) → (x1 : Evaluator N) → GoodEvaluator x1 → (x2 : ℕ) → (x3 : Scope N) → (x4 : Option (ℕ × ℕ)) → (x5 : ℕ → Act N (Answer N)) → ((j : ℕ) → Awaited (j ∷ esc) (x5 j)) → Awaited esc (calls.new_ejector K tree x2 >>= λ j. eval.escaped K tree x1 j x3 x4 (x5 j))
  unfolding eval.escaped
  await_escaped esc rec good act here c m h5 = await_escape esc K tree act {f = λ j x. scopes.answered here x.value} {g = λ j p. throw p} {x = λ j v. eval.caught_by K tree rec here c v} {m = m}
      (λ j x. search (awaits, await_answered) depth 14) (λ j p. search (awaits) depth 14) (λ j v. search (awaits, await_caught_by) depth 14) h5

  pub await_handles : (esc : List ℕ) → (x1 : Evaluator N) → GoodEvaluator x1 → (x2 : ℕ) → (x3 : ℕ) → (x4 : Scope N) → (x5 : Words) → Awaited esc (eval.handles K tree x1 x2 x3 x4 x5)
  unfolding eval.handles
  await_handles esc rec good p h here t = search (awaits, await_answered, good.expression, good.pattern) depth 14

  pub await_tried : (esc : List ℕ) → (x1 : Evaluator N) → GoodEvaluator x1 → (x2 : ℕ) → (x3 : ℕ) → (x4 : Scope N) → (x5 : Act N (Answer N)) → Awaited esc x5 → Awaited esc (eval.tried K tree x1 x2 x3 x4 x5)
  unfolding eval.tried
  await_tried esc rec good p h here m h5 = await_ending esc (λ x. search (awaits, await_answered) depth 14) (λ t. search (awaits, await_handles) depth 14) (λ n v i. await_eject esc n v i) h5

  pub await_at_last : (esc : List ℕ) → (x1 : Evaluator N) → GoodEvaluator x1 → (x2 : ℕ) → (x3 : Scope N) → (x4 : Act N (Answer N)) → Awaited esc x4 → Awaited esc (eval.at_last K tree x1 x2 x3 x4)
  unfolding eval.at_last
  await_at_last esc rec good b here m h4 = await_ending esc (λ x. search (awaits, await_answered, good.expression) depth 14) (λ p. search (awaits, good.expression) depth 14)
      (λ n v i. walk_then (AwaitedBy esc) (awaited_closed esc) (good.expression esc b here) (await_eject esc n v i)) h4

  pub await_choose : (esc : List ℕ) → (x1 : Evaluator N) → GoodEvaluator x1 → (x2 : ℕ) → (x3 : ℕ) → (x4 : Scope N) → (x5 : Scope N) → (x6 : Value N) → Awaited esc (eval.choose K tree x1 x2 x3 x4 x5 x6)
  unfolding eval.choose
  await_choose esc rec good a b here inner (Flag true) = search (awaits, await_answered, good.expression) depth 14
  await_choose esc rec good a b here inner other = search (awaits, await_answered, good.expression) depth 14

  pub await_unmatched_noun : (esc : List ℕ) → (x1 : ℕ) → (x2 : Bool) → Awaited esc (eval.unmatched_noun K tree x1 x2)
  unfolding eval.unmatched_noun
  await_unmatched_noun esc act false = search (awaits) depth 14
  await_unmatched_noun esc act true = search (awaits) depth 14

  pub await_unmatched : (esc : List ℕ) → (x1 : List BoundNoun) → (x2 : Scope N) → Awaited esc (eval.unmatched K tree x1 x2)
  unfolding eval.unmatched
  await_unmatched esc [] here = search (awaits)
  await_unmatched esc (b ∷ bs) here = let rest = await_unmatched esc bs in search (awaits, await_unmatched_noun) depth 14

  pub await_not_matched : (esc : List ℕ) → (x1 : ℕ) → (x2 : Scope N) → (x3 : Value N) → Awaited esc (eval.not_matched K tree x1 x2 x3)
  unfolding eval.not_matched
  await_not_matched esc p here v = search (awaits, await_unmatched, await_answered) depth 14

  pub await_match_ended : (esc : List ℕ) → (x1 : ℕ) → (x2 : ℕ) → (x3 : Scope N) → (x4 : ℕ → Act N (Scope N)) → ((j : ℕ) → Awaited (j ∷ esc) (x4 j)) → Awaited esc (calls.new_ejector K tree x1 >>= λ j. eval.match_ended K tree j x2 x3 (x4 j))
  unfolding eval.match_ended
  await_match_ended esc act p here m h4 = await_escape esc K tree act {f = λ j inner. scopes.answered inner (Flag true)} {g = λ j t. throw t} {x = λ j v. eval.not_matched K tree p here v} {m = m}
      (λ j inner. search (awaits, await_answered) depth 14) (λ j t. search (awaits) depth 14) (λ j v. search (awaits, await_not_matched) depth 14) h4

  pub await_write_cell : (esc : List ℕ) → (x1 : Evaluator N) → GoodEvaluator x1 → (x2 : ℕ) → (x3 : ℕ) → (x4 : Value N) → (x5 : Option (Cell N)) → Awaited esc (eval.write_cell K tree x1 x2 x3 x4 x5)
  unfolding eval.write_cell
  await_write_cell esc rec good act k v None = search (awaits) depth 14
  await_write_cell esc rec good act k v (Some c) = search (awaits, await_coerce, await_call) depth 14

  pub await_write_bound : (esc : List ℕ) → (x1 : Evaluator N) → GoodEvaluator x1 → (x2 : ℕ) → (x3 : Option (Bound N)) → (x4 : Value N) → Awaited esc (eval.write_bound K tree x1 x2 x3 x4)
  unfolding eval.write_bound
  await_write_bound esc rec good act (Some (Slot k)) v = search (awaits, await_write_cell) depth 14
  await_write_bound esc rec good act _ v = search (awaits) depth 14

  pub await_guard_of : (esc : List ℕ) → (x1 : Evaluator N) → GoodEvaluator x1 → (x2 : Option ℕ) → (x3 : Scope N) → Awaited esc (eval.guard_of K tree x1 x2 x3)
  unfolding eval.guard_of
  await_guard_of esc rec good None here = search (awaits, await_answered) depth 14
  await_guard_of esc rec good (Some g) here = search (awaits, await_answered, good.expression) depth 14

  pub await_bind_list : (esc : List ℕ) → (x1 : Evaluator N) → GoodEvaluator x1 → (x2 : List ℕ) → (x3 : Value N) → (x4 : Scope N) → (x5 : List (Value N)) → Awaited esc (eval.bind_list K tree x1 x2 x3 x4 x5)
  unfolding eval.bind_list
  await_bind_list esc rec good ps j here vs = search (awaits, await_bind_all, await_failed, await_call) depth 14

  pub await_bind_items : (esc : List ℕ) → (x1 : Evaluator N) → GoodEvaluator x1 → (x2 : List ℕ) → (x3 : Value N) → (x4 : Scope N) → (x5 : Value N) → Awaited esc (eval.bind_items K tree x1 x2 x3 x4 x5)
  unfolding eval.bind_items
  await_bind_items esc rec good ps j here (Items k) = search (awaits, await_bind_list) depth 14
  await_bind_items esc rec good ps j here _ = search (awaits, await_failed, await_call) depth 14

  -- what evaluating a node is put together from: a node made of these needs no clause of its own
  ruleset nodes = (awaits, await_answered, await_read_bound, await_write_bound, await_failed, await_handed, await_coerce, await_make_list, await_bind_all, await_call, await_make_object, await_all_of, await_last_of, await_exit_of, await_caught_by, await_handles, await_tried, await_at_last, await_choose, await_unmatched, await_not_matched, await_guard_of, await_bind_list, await_bind_items)

  pub await_step : (esc : List ℕ) → (x1 : Evaluator N) → GoodEvaluator x1 → (x2 : ℕ) → (x3 : Node) → (x4 : Scope N) → Awaited esc (eval.step K tree x1 x2 x3 x4)
  unfolding eval.step
  await_step esc rec good id (Escape p body c) here = await_escaped esc rec good here.act here c (λ j. rec.pattern p (Ref (K.object j)) Null here >>= λ inner. rec.expression body inner)
      (λ j. walk_bind (AwaitedBy (j ∷ esc)) (awaited_closed (j ∷ esc)) (good.pattern (j ∷ esc) p (Ref (K.object j)) Null here) (λ inner. good.expression (j ∷ esc) body inner))
  await_step esc rec good id (MatchBind e p) here = walk_bind (AwaitedBy esc) (awaited_closed esc) (good.expression esc e here) (λ x. await_match_ended esc here.act p x.scope (λ j. rec.pattern p x.value (Ref (K.object j)) x.scope)
      (λ j. good.pattern (j ∷ esc) p x.value (Ref (K.object j)) x.scope))
  await_step esc rec good id other here = search (nodes, good.expression, good.pattern) depth 14

  pub await_bind_step : (esc : List ℕ) → (x1 : Evaluator N) → GoodEvaluator x1 → (x2 : Node) → (x3 : Value N) → (x4 : Value N) → (x5 : Scope N) → Awaited esc (eval.bind_step K tree x1 x2 x3 x4 x5)
  unfolding eval.bind_step
  await_bind_step esc rec good (Any g) v j here = search (nodes, good.expression, good.pattern) depth 14
  await_bind_step esc rec good other v j here = search (nodes, good.expression, good.pattern) depth 14

  pub await_step_found : (esc : List ℕ) → (x1 : Evaluator N) → GoodEvaluator x1 → (x2 : ℕ) → (x3 : Option Node) → (x4 : Scope N) → Awaited esc (eval.step_found K tree x1 x2 x3 x4)
  unfolding eval.step_found
  await_step_found esc rec good id None here = search (awaits) depth 14
  await_step_found esc rec good id (Some n) here = search (awaits, await_step) depth 14

  pub await_bind_found : (esc : List ℕ) → (x1 : Evaluator N) → GoodEvaluator x1 → (x2 : Option Node) → (x3 : Value N) → (x4 : Value N) → (x5 : Scope N) → Awaited esc (eval.bind_found K tree x1 x2 x3 x4 x5)
  unfolding eval.bind_found
  await_bind_found esc rec good None v j here = search (awaits) depth 14
  await_bind_found esc rec good (Some n) v j here = search (awaits, await_bind_step) depth 14

  pub good_deeper : (rec : Evaluator N) → GoodEvaluator rec → GoodEvaluator (eval.deeper K tree rec)
  unfolding eval.deeper
  good_deeper rec good = record {
    expression = λ esc id here. search (awaits, await_step_found);
    pattern = λ esc id v j here. search (awaits, await_bind_found);
  }

  -- what each single change keeps, the evaluator of every depth keeps
  pub good_evaluator : (d : ℕ) → GoodEvaluator (eval.evaluator K tree d)
  unfolding eval.evaluator
  good_evaluator zero = record { expression = λ esc id here. search (awaits); pattern = λ esc id v j here. search (awaits) }
  good_evaluator (suc d) = good_deeper (eval.evaluator K tree d) (good_evaluator d)
