-- All of evaluation has what each change and block of it has.
use Rattle.std.proofs.Common.{ℕ, zero, suc, Bool, true, false, List, [], ◌∷◌, Option, Some, None, codes, if◌then◌else◌, ◌==◌}
use Rattle.def_machine.specs.Values.{Words, Value, Null, Flag, Text, Prim, Broken, Items, Ref, Naming, Spot, Own}
use Rattle.def_machine.specs.State.{Bound, Slot, Scope, Binding, Cell, View, Thing, Made, Ejector, Audition, Resolver, Message, Standing, Unsettled, Act, Took, Got, SlotMade, SlotRead, SlotWrote, ListMade, PromiseMade, ObjectMade, Finished, Threw, ◌>>=◌, ◌>>◌, give, throw, eject, ending, tell, spend, new_activation, new_thing, new_slot, write_slot, new_list, new_promise, for_some, WhereSome}
use Rattle.def_machine.specs.Refs.{Place, Near, follow, standing_of, settle, resolve, send, send_only, react}
use Rattle.def_machine.specs.Form.{Item, Begin, End, Word, Fact}
use Rattle.def_machine.specs.Free.{BoundNoun}
use Rattle.def_machine.specs.Native.{Reply, Writes, Guard, Asked, MakesList}
use Rattle.def_machine.specs.Scopes as scopes
use Rattle.def_machine.specs.Perform as perform
use Rattle.def_machine.specs.Calls as calls
use Rattle.def_machine.specs.Eval as eval
use Rattle.def_machine.specs.Scopes.{Answer, Evaluator, Caller, Body, Case, AuditionAsk, GetsForm, NoAuditionAsk, ResolverAsk, Resolves, Smashes, NoResolverAsk}
use Rattle.def_kernel.specs.declared.node.Node.{Node}
use Rattle.def_kernel.specs.declared.node.Node.TheVariants.{Escape, MatchBind, Any}
use Rattle.std.specs.Prelude.{slice_get}
use Rattle.law_machine.proofs.Machine.Walks.{Property, Holds, IsClosed, IsEnding, IsNoResolver, InEval, InEvalUnder, InNodes, walk, walk_bind, walk_look}

module _ {N : Type 0} (P : Property N) (law : IsEnding P) where
  pub eval_throw : {A : Type 0} (p : Words) → Holds P (throw {A = A} p)
  eval_throw p = law.throws p

  pub eval_eject : {A : Type 0} (n : ℕ) (v : Value N) → Holds P (eject {A = A} n v)
  eval_eject n v = law.ejects n v

  pub eval_ending : {A B : Type 0} {f : A → Act N B} {g : Words → Act N B} {h : ℕ → Value N → Act N B} {m : Act N A}
      → ((a : A) → Holds P (f a)) → ((p : Words) → Holds P (g p)) → ((n : ℕ) (v : Value N) → Holds P (h n v)) → Holds P m → Holds P (ending f g h m)
  eval_ending i j k r = law.ends i j k r

module _ {N : Type 0} (P : Property N) (law : InEval P) where
  pub tells_got : (a : ℕ) (v : Value N) → Holds P (tell (Got a v))
  tells_got a v = law.tells (Got a v) tt

  pub tells_slot_made : (a k : ℕ) (v : Value N) → Holds P (tell (SlotMade a k v))
  tells_slot_made a k v = law.tells (SlotMade a k v) tt

  pub tells_slot_read : (a k : ℕ) (v : Value N) → Holds P (tell (SlotRead a k v))
  tells_slot_read a k v = law.tells (SlotRead a k v) tt

  pub tells_slot_wrote : (a k : ℕ) (v : Value N) → Holds P (tell (SlotWrote a k v))
  tells_slot_wrote a k v = law.tells (SlotWrote a k v) tt

  pub tells_list_made : (a k : ℕ) (vs : List (Value N)) → Holds P (tell (ListMade a k vs))
  tells_list_made a k vs = law.tells (ListMade a k vs) tt

  pub tells_promise_made : (a : ℕ) (p r : N) → Holds P (tell (PromiseMade a p r))
  tells_promise_made a p r = law.tells (PromiseMade a p r) tt

  pub tells_object_made : (a : ℕ) (me : N) (x : Words) (bs : List (Bound N)) (ys : List (Value N)) → Holds P (tell (ObjectMade a me x bs ys))
  tells_object_made a me x bs ys = law.tells (ObjectMade a me x bs ys) tt

  pub tells_finished : (a : ℕ) (v : Value N) → Holds P (tell (Finished a v))
  tells_finished a v = law.tells (Finished a v) tt

  pub tells_threw : (a : ℕ) (p : Words) → Holds P (tell (Threw a p))
  tells_threw a p = law.tells (Threw a p) tt

  pub eval_spend : (n : ℕ) → Holds P (spend n)
  eval_spend n = law.spends n

  pub eval_activation : Holds P new_activation
  eval_activation = law.activates

  pub eval_object : (node : ℕ) (caught : List (Binding N)) (stamps : List (Value N)) → Holds P (new_thing (Made node caught stamps))
  eval_object node caught stamps = law.objects node caught stamps

  pub eval_slot : (g v : Value N) → Holds P (new_slot g v)
  eval_slot g v = law.slots g v

  pub eval_write : (n : ℕ) (v : Value N) → Holds P (write_slot n v)
  eval_write n v = law.writes n v

  pub eval_list : (vs : List (Value N)) → Holds P (new_list vs)
  eval_list vs = law.lists vs

module _ {N W : Type 0} (P : Property N) (K : Naming N W) (tree : List Node) (under : InNodes P K tree) where
  pub eval_send : (act : ℕ) (x : Value N) (verb : Words) (args : List (Value N)) → Holds P (send K act x verb args)
  eval_send act x verb args = under.sends act x verb args

  pub eval_send_only : (act : ℕ) (x : Value N) (verb : Words) (args : List (Value N)) → Holds P (send_only K act x verb args)
  eval_send_only act x verb args = under.sends_only act x verb args

  pub eval_react : (act : ℕ) (x o near : Value N) → Holds P (react K act x o near)
  eval_react act x o near = under.reacts act x o near

pub ruleset eval_walk = (walk, tells_got, tells_slot_made, tells_slot_read, tells_slot_wrote, tells_list_made, tells_promise_made, tells_object_made, tells_finished, tells_threw, eval_throw, eval_eject, eval_ending, eval_spend, eval_activation, eval_object, eval_slot, eval_write, eval_list)

-- a call has it, whatever is called
abbrev pub GoodCaller : {N : Type 0} → Property N → Caller N → Type 0
GoodCaller {N} P again = (act : ℕ) (x : Value N) (verb : Words) (args : List (Value N)) → Holds P (again act x verb args)

-- so have the nodes below
pub record GoodEvaluator {N : Type 0} (P : Property N) (rec : Evaluator N) : Type 0 where
  pub expression : (id : ℕ) (here : Scope N) → Holds P (rec.expression id here)
  pub pattern : (id : ℕ) (v j : Value N) (here : Scope N) → Holds P (rec.pattern id v j here)

module _ {N : Type 0} (P : Property N) (base : IsClosed P) (law : InEval P) where
  pub walk_answered : (x1 : Scope N) → (x2 : Value N) → Holds P (scopes.answered x1 x2)
  unfolding scopes.answered
  walk_answered here v = search (eval_walk) depth 14

  pub walk_read_cell : (x1 : ℕ) → (x2 : ℕ) → (x3 : Option (Cell N)) → Holds P (scopes.read_cell x1 x2 x3)
  unfolding scopes.read_cell
  walk_read_cell act k None = search (eval_walk) depth 14
  walk_read_cell act k (Some c) = search (eval_walk) depth 14

  pub walk_read_bound : (x1 : ℕ) → (x2 : Option (Bound N)) → (x3 : Words) → Holds P (scopes.read_bound x1 x2 x3)
  unfolding scopes.read_bound
  walk_read_bound act (Some (Slot k)) x = search (eval_walk, walk_read_cell) depth 14
  walk_read_bound act other x = search (eval_walk) depth 14

  pub walk_with_lines : (x1 : ℕ) → (x2 : Value N) → (x3 : Words) → (x4 : List (Value N)) → (x5 : Act N (Value N)) → Holds P x5 → Holds P (scopes.with_lines x1 x2 x3 x4 x5)
  unfolding scopes.with_lines
  walk_with_lines act x verb args m h5 = law.calls act x verb args h5

-- what a resolver answers
module _ {N W : Type 0} (P : Property N) (K : Naming N W) (tree : List Node) (under : InNodes P K tree) where
  smash_by_resolver : (p : N) → (x2 : Value N) → Holds (under.by_resolver p) (calls.smash K tree p x2)
  unfolding calls.smash
  smash_by_resolver p (Text t) = under.breaks p t
  smash_by_resolver p other = (under.ends p).throws (codes "bad argument")

  answer_by_resolver : (p : N) → (x2 : ResolverAsk N) → Holds (under.by_resolver p) (calls.resolver_answer K tree p x2)
  unfolding calls.resolver_answer
  answer_by_resolver p (Resolves x) = under.resolves p x
  answer_by_resolver p (Smashes x) = walk_bind (under.by_resolver p) (under.closed p) (walk_look (under.by_resolver p) (under.closed p) (λ s. follow K s x)) (λ y. smash_by_resolver p y)
  answer_by_resolver p NoResolverAsk = (under.ends p).throws (codes "no method")

  thing_by_resolver : (again : Caller N) (act i : ℕ) (p : N) (verb : Words) (args : List (Value N)) → Holds (under.by_resolver p) (calls.thing_answer K tree again act i (Resolver p) verb args)
  unfolding calls.thing_answer
  thing_by_resolver again act i p verb args = answer_by_resolver p (scopes.resolver_ask verb args)

  call_by_resolver : (rec : Evaluator N) (again : Caller N) (act : ℕ) (x : Value N) (i : ℕ) (p : N) (verb : Words) (args : List (Value N)) → Holds (under.by_resolver p) (calls.call_thing K tree rec again act x i (Some (Resolver p)) verb args)
  unfolding calls.call_thing scopes.with_lines
  call_by_resolver rec again act x i p verb args = under.calls p act x verb args (thing_by_resolver again act i p verb args)

  turn_by_resolver : (rec : Evaluator N) (act i : ℕ) (p : N) (verb : Words) (args : List (Value N)) → Holds (under.by_resolver p) (calls.turn_thing K tree rec act i (Some (Resolver p)) verb args)
  unfolding calls.turn_thing
  turn_by_resolver rec act i p verb args = thing_by_resolver (calls.call K tree rec) act i p verb args

module _ {N W : Type 0} (P : Property N) (K : Naming N W) (tree : List Node) (base : IsClosed P) (ending' : IsEnding P) (law : InEval P) (under : InNodes P K tree) where
  pub walk_fail_by : {A : Type 0} → (x1 : Caller N) → GoodCaller P x1 → (x2 : ℕ) → (x3 : Value N) → (x4 : Words) → (x5 : Bool) → Holds P (perform.fail_by K tree {A = A} x1 x2 x3 x4 x5)
  unfolding perform.fail_by
  walk_fail_by again h1 act j p true = search (eval_walk) depth 14
  walk_fail_by again h1 act j p false = search (eval_walk) depth 14

  pub walk_failed : {A : Type 0} → (x1 : Caller N) → GoodCaller P x1 → (x2 : ℕ) → (x3 : Value N) → (x4 : Words) → Holds P (perform.failed K tree {A = A} x1 x2 x3 x4)
  unfolding perform.failed
  walk_failed again h1 act j p = search (eval_walk, walk_fail_by) depth 14

  pub walk_handed : (x1 : Value N) → Holds P (perform.handed K tree x1)
  unfolding perform.handed
  walk_handed j = search (eval_walk) depth 14

  pub walk_native_coerce : (x1 : Caller N) → GoodCaller P x1 → (x2 : ℕ) → (x3 : Guard) → (x4 : Value N) → (x5 : Value N) → Holds P (perform.native_coerce K tree x1 x2 x3 x4 x5)
  unfolding perform.native_coerce
  walk_native_coerce again h1 act g j x = search (eval_walk, walk_failed) depth 14

  pub walk_coerce_near : (x1 : Caller N) → GoodCaller P x1 → (x2 : ℕ) → (x3 : Value N) → (x4 : Value N) → (x5 : Value N) → (x6 : Place N) → Holds P (perform.coerce_near K tree x1 x2 x3 x4 x5 x6)
  unfolding perform.coerce_near
  walk_coerce_near again h1 act g j x Near = search (eval_walk, walk_handed) depth 14
  walk_coerce_near again h1 act g j x _ = search (eval_walk) depth 14

  pub walk_coerce_native : (x1 : Caller N) → GoodCaller P x1 → (x2 : ℕ) → (x3 : Option Guard) → (x4 : Value N) → (x5 : Value N) → Holds P (perform.coerce_native K tree x1 x2 x3 x4 x5)
  unfolding perform.coerce_native
  walk_coerce_native again h1 act (Some g) j x = search (eval_walk, walk_native_coerce) depth 14
  walk_coerce_native again h1 act None j x = search (eval_walk) depth 14

  pub walk_coerce : (x1 : Caller N) → GoodCaller P x1 → (x2 : ℕ) → (x3 : Value N) → (x4 : Value N) → (x5 : Value N) → Holds P (perform.coerce K tree x1 x2 x3 x4 x5)
  unfolding perform.coerce
  walk_coerce again h1 act (Prim n) j x = search (eval_walk, walk_coerce_native, walk_coerce_near) depth 14
  walk_coerce again h1 act other j x = search (eval_walk, walk_coerce_native, walk_coerce_near) depth 14

  pub walk_store : (x1 : ℕ) → (x2 : List (Value N)) → Holds P (perform.store K tree x1 x2)
  unfolding perform.store
  walk_store act vs = search (eval_walk) depth 14

  pub walk_make_list : (x1 : ℕ) → (x2 : List (Value N)) → Holds P (perform.make_list K tree x1 x2)
  unfolding perform.make_list
  walk_make_list act vs = search (eval_walk, walk_store) depth 14

  pub walk_spell : (x1 : Words) → Holds P (perform.spell K tree x1)
  unfolding perform.spell
  walk_spell t = search (eval_walk) depth 14

  pub walk_write_text : (x1 : Words) → Holds P (perform.write_text K tree x1)
  unfolding perform.write_text
  walk_write_text t = search (eval_walk, walk_spell) depth 14

  pub walk_iterate : (x1 : Caller N) → GoodCaller P x1 → (x2 : ℕ) → (x3 : Value N) → (x4 : ℕ) → (x5 : List (Value N)) → Holds P (perform.iterate K tree x1 x2 x3 x4 x5)
  unfolding perform.iterate
  walk_iterate again h act o k [] = search eval_walk
  walk_iterate again h act o k (v ∷ vs) = let rest = walk_iterate again h act o (suc k) vs in search eval_walk

  pub walk_reply : (x1 : Caller N) → GoodCaller P x1 → (x2 : ℕ) → (x3 : Reply N) → Holds P (perform.reply K tree x1 x2 x3)
  unfolding perform.reply
  walk_reply again h1 act (Writes t) = search (eval_walk, walk_write_text, walk_make_list, walk_iterate) depth 14
  walk_reply again h1 act other = search (eval_walk, walk_write_text, walk_make_list, walk_iterate) depth 14

  pub walk_data_answer : (x1 : Caller N) → GoodCaller P x1 → (x2 : ℕ) → (x3 : Value N) → (x4 : Words) → (x5 : List (Value N)) → Holds P (perform.data_answer K tree x1 x2 x3 x4 x5)
  unfolding perform.data_answer
  walk_data_answer again h1 act y verb args = search (eval_walk, walk_reply) depth 14

  pub walk_send_by : (x0 : Bool) → (x1 : ℕ) → (x2 : Value N) → (x3 : Words) → (x4 : List (Value N)) → Holds P (perform.send_by K tree x0 x1 x2 x3 x4)
  unfolding perform.send_by
  walk_send_by only act x verb args = search (eval_walk, eval_send, eval_send_only) depth 14

  pub walk_send_listed : (x0 : Bool) → (x1 : ℕ) → (x2 : Value N) → (x3 : Words) → (x4 : List (Value N)) → Holds P (perform.send_listed K tree x0 x1 x2 x3 x4)
  unfolding perform.send_listed
  walk_send_listed only act x verb args = search (eval_walk, walk_send_by) depth 14

  pub walk_send_with : (x0 : Bool) → (x1 : ℕ) → (x2 : Value N) → (x3 : Value N) → (x4 : Value N) → Holds P (perform.send_with K tree x0 x1 x2 x3 x4)
  unfolding perform.send_with
  walk_send_with only act x (Text verb) (Items k) = search (eval_walk, walk_send_listed) depth 14
  walk_send_with only act x _ _ = search (eval_walk) depth 14

  pub walk_call_listed : (x1 : Caller N) → GoodCaller P x1 → (x2 : ℕ) → (x3 : Value N) → (x4 : Words) → (x5 : List (Value N)) → Holds P (perform.call_listed K tree x1 x2 x3 x4 x5)
  unfolding perform.call_listed
  walk_call_listed again h1 act x verb args = search (eval_walk) depth 14

  pub walk_call_with : (x1 : Caller N) → GoodCaller P x1 → (x2 : ℕ) → (x3 : Value N) → (x4 : Value N) → (x5 : Value N) → Holds P (perform.call_with K tree x1 x2 x3 x4 x5)
  unfolding perform.call_with
  walk_call_with again h1 act x (Text verb) (Items k) = search (eval_walk, walk_call_listed) depth 14
  walk_call_with again h1 act x _ _ = search (eval_walk) depth 14

  pub walk_make_promise : (x1 : ℕ) → Holds P (perform.make_promise K tree x1)
  unfolding perform.make_promise
  walk_make_promise act = under.promises {f = λ p r. tell (PromiseMade act p (K.object r)) >> perform.make_list K tree act (Ref p ∷ Ref (K.object r) ∷ [])} (λ p r. search (eval_walk, walk_make_list) depth 14)

  pub walk_react_near : (x1 : ℕ) → (x2 : Value N) → (x3 : Value N) → (x4 : Value N) → (x5 : Place N) → Holds P (perform.react_near K tree x1 x2 x3 x4 x5)
  unfolding perform.react_near
  walk_react_near act x o y Near = search (eval_walk, eval_react) depth 14
  walk_react_near act x o y _ = search (eval_walk) depth 14

  pub walk_when_resolved : (x1 : ℕ) → (x2 : Value N) → (x3 : Value N) → Holds P (perform.when_resolved K tree x1 x2 x3)
  unfolding perform.when_resolved
  walk_when_resolved act x o = search (eval_walk, walk_react_near) depth 14

  pub walk_after_turn : (x1 : Act N (Value N)) → Holds P x1 → (x2 : Value N) → Holds P (perform.after_turn K tree x1 x2)
  unfolding perform.after_turn
  walk_after_turn more h1 (Flag true) = search eval_walk depth 14
  walk_after_turn more h1 other = search eval_walk depth 14

  pub walk_turns : (x1 : ℕ) → (x2 : Act N (Value N)) → Holds P x2 → Holds P (perform.turns K tree x1 x2)
  unfolding perform.turns
  walk_turns zero body h = search eval_walk
  walk_turns (suc n) body h = let rest = walk_turns n body h in search (eval_walk, walk_after_turn) depth 14

  pub walk_loop : (x1 : Act N (Value N)) → Holds P x1 → Holds P (perform.loop K tree x1)
  unfolding perform.loop
  walk_loop body h1 = search (eval_walk, walk_turns) depth 14

  pub walk_perform : (x1 : Caller N) → GoodCaller P x1 → (x2 : ℕ) → (x3 : Asked N) → Holds P (perform.perform K tree x1 x2 x3)
  unfolding perform.perform
  walk_perform again h1 act (MakesList vs) = search (eval_walk, walk_make_list, walk_loop, walk_send_with, walk_call_with, walk_make_promise, walk_when_resolved, walk_native_coerce, walk_reply) depth 14
  walk_perform again h1 act other = search (eval_walk, walk_make_list, walk_loop, walk_send_with, walk_call_with, walk_make_promise, walk_when_resolved, walk_native_coerce, walk_reply) depth 14

  pub walk_audit : (x1 : Caller N) → GoodCaller P x1 → (x2 : ℕ) → (x3 : View N) → (x4 : Value N) → (x5 : Place N) → Holds P (calls.audit K tree x1 x2 x3 x4 x5)
  unfolding calls.audit
  walk_audit again h1 act view a Near = under.audits act view {m = λ n. again act a (codes "audit") (Ref (K.object n) ∷ [])} (λ n. h1 act a (codes "audit") (Ref (K.object n) ∷ [])) (λ v. search (eval_walk) depth 14)
  walk_audit again h1 act view a _ = search (eval_walk) depth 14

  pub walk_verdict : (x1 : Caller N) → GoodCaller P x1 → (x2 : ℕ) → (x3 : View N) → (x4 : Value N) → (x5 : Value N) → Holds P (calls.verdict K tree x1 x2 x3 x4 x5)
  unfolding calls.verdict
  walk_verdict again h1 act view a (Prim n) = search (eval_walk, walk_audit) depth 14
  walk_verdict again h1 act view a other = search (eval_walk, walk_audit) depth 14

  pub walk_ask_all : (x1 : Caller N) → GoodCaller P x1 → (x2 : ℕ) → (x3 : View N) → (x4 : List (Value N)) → Holds P (calls.ask_all K tree x1 x2 x3 x4)
  unfolding calls.ask_all
  walk_ask_all again h act view [] = search eval_walk
  walk_ask_all again h act view (a ∷ as') = let rest = walk_ask_all again h act view as' in search (eval_walk, walk_verdict) depth 14

  pub walk_build : (x1 : ℕ) → (x2 : List Item) → (x3 : List (List (Value N))) → Holds P (calls.build K tree x1 x2 x3)
  unfolding calls.build
  walk_build act (Begin ∷ is) fs = walk_build act is ([] ∷ fs)
  walk_build act (Word w ∷ is) fs = walk_build act is _
  walk_build act (Fact l ∷ is) fs = walk_build act is _
  walk_build act (End ∷ []) (f ∷ fs) = search walk_make_list
  walk_build act (End ∷ i ∷ is) (f ∷ fs) = let rest = λ (gs : List (List (Value N))). walk_build act (i ∷ is) gs in search (eval_walk, walk_make_list)
  walk_build act _ _ = search eval_walk

  pub walk_audition_live : (x1 : Caller N) → GoodCaller P x1 → (x2 : ℕ) → (x3 : View N) → (x4 : AuditionAsk N) → Holds P (calls.audition_live K tree x1 x2 x3 x4)
  unfolding calls.audition_live
  walk_audition_live again h1 act view GetsForm = search (eval_walk, walk_build, walk_reply, walk_verdict) depth 14
  walk_audition_live again h1 act view other = search (eval_walk, walk_build, walk_reply, walk_verdict) depth 14

  pub walk_audition_answer : (x1 : Caller N) → GoodCaller P x1 → (x2 : ℕ) → (x3 : Bool) → (x4 : View N) → (x5 : AuditionAsk N) → Holds P (calls.audition_answer K tree x1 x2 x3 x4 x5)
  unfolding calls.audition_answer
  walk_audition_answer again h1 act live view NoAuditionAsk = search (eval_walk) depth 14
  walk_audition_answer again h1 act true view ask = search (eval_walk, walk_audition_live) depth 14
  walk_audition_answer again h1 act false view ask = search (eval_walk) depth 14

  pub walk_ejector_answer : (x1 : ℕ) → (x2 : Bool) → (x3 : Option (Value N)) → Holds P (calls.ejector_answer K tree x1 x2 x3)
  unfolding calls.ejector_answer
  walk_ejector_answer i live None = search (eval_walk) depth 14
  walk_ejector_answer i true (Some v) = search (eval_walk) depth 14
  walk_ejector_answer i false (Some v) = search (eval_walk) depth 14

  pub walk_bind_all : (x1 : Evaluator N) → GoodEvaluator P x1 → (x2 : List ℕ) → (x3 : List (Value N)) → (x4 : Value N) → (x5 : Scope N) → Holds P (calls.bind_all K tree x1 x2 x3 x4 x5)
  unfolding calls.bind_all
  walk_bind_all rec good [] vs j here = search eval_walk
  walk_bind_all rec good (p ∷ ps) [] j here = search eval_walk
  walk_bind_all rec good (p ∷ ps) (v ∷ vs) j here = let rest = walk_bind_all rec good ps vs j in search (eval_walk, good.pattern)

  pub walk_hand_over : (x1 : ℕ) → (x2 : ℕ) → (x3 : Act N (Value N)) → Holds P x3 → (x4 : ℕ) → (x5 : Value N) → Holds P (calls.hand_over K tree x1 x2 x3 x4 x5)
  unfolding calls.hand_over
  walk_hand_over act j next h3 n v = search (eval_walk) depth 14

  pub walk_matched : (x1 : Evaluator N) → GoodEvaluator P x1 → (x2 : ℕ) → (x4 : ℕ) → (x5 : Act N (Value N)) → Holds P x5 → (x6 : ℕ → Act N (Scope N)) → ((j : ℕ) → Holds P (x6 j)) → Holds P (calls.new_ejector K tree x2 >>= λ j. calls.matched K tree x1 x2 j x4 x5 (x6 j))
  unfolding calls.matched
  walk_matched rec good act body next h5 m h6 = under.escapes act {f = λ j inner. rec.expression body inner >>= λ x. give x.value} {g = λ j p. throw p} {h = λ j n v. calls.hand_over K tree act j next n v} {m = m}
      (λ j inner. search (eval_walk, good.expression) depth 14) (λ j p. search (eval_walk) depth 14) (λ j n v. search (eval_walk, walk_hand_over) depth 14) h6

  pub walk_match_all : (x1 : Evaluator N) → GoodEvaluator P x1 → (x2 : List Case) → (x3 : Value N) → (x4 : Scope N) → Holds P (calls.match_all K tree x1 x2 x3 x4)
  unfolding calls.match_all
  walk_match_all rec good [] v here = search eval_walk
  walk_match_all rec good (m ∷ ms) v here = walk_matched rec good here.act m.body (λ s. calls.match_all K tree rec ms v here s) (walk_match_all rec good ms v here)
      (λ j. rec.pattern m.pattern v (Ref (K.object j)) here) (λ j. good.pattern m.pattern v (Ref (K.object j)) here)

  pub walk_try_matchers : (x1 : Evaluator N) → GoodEvaluator P x1 → (x2 : List Case) → (x3 : Words) → (x4 : List (Value N)) → (x5 : Scope N) → Holds P (calls.try_matchers K tree x1 x2 x3 x4 x5)
  unfolding calls.try_matchers
  walk_try_matchers rec good [] verb args here = search (eval_walk) depth 14
  walk_try_matchers rec good (m ∷ ms) verb args here = search (eval_walk, walk_make_list, walk_match_all) depth 14

  pub walk_run_body : (x1 : Evaluator N) → GoodEvaluator P x1 → (x2 : List Case) → (x3 : Words) → (x4 : Option Body) → (x5 : List (Value N)) → (x6 : Scope N) → Holds P (calls.run_body K tree x1 x2 x3 x4 x5 x6)
  unfolding calls.run_body
  walk_run_body rec good ms verb (Some b) args here = search (eval_walk, walk_bind_all, good.expression) depth 14
  walk_run_body rec good ms verb None args here = search (eval_walk, walk_try_matchers) depth 14

  pub walk_run_object : (x1 : Evaluator N) → GoodEvaluator P x1 → (x2 : List ℕ) → (x3 : Words) → (x4 : List (Value N)) → (x5 : Scope N) → Holds P (calls.run_object K tree x1 x2 x3 x4 x5)
  unfolding calls.run_object
  walk_run_object rec good members verb args here = search (eval_walk, walk_run_body) depth 14

  pub walk_thing_answer : (x1 : Caller N) → GoodCaller P x1 → (x2 : ℕ) → (x3 : ℕ) → (x4 : Thing N) → IsNoResolver (Some x4) → (x5 : Words) → (x6 : List (Value N)) → Holds P (calls.thing_answer K tree x1 x2 x3 x4 x5 x6)
  unfolding calls.thing_answer
  walk_thing_answer again h1 act i (Resolver p) plain verb args = absurd plain
  walk_thing_answer again h1 act i (Ejector live) plain verb args = search (eval_walk, walk_ejector_answer) depth 14
  walk_thing_answer again h1 act i other plain verb args = search (eval_walk, walk_audition_answer) depth 14

  pub walk_call_thing : (x1 : Evaluator N) → GoodEvaluator P x1 → (x2 : Caller N) → GoodCaller P x2 → (x3 : ℕ) → (x4 : Value N) → (x5 : ℕ) → (x6 : Option (Thing N)) → IsNoResolver x6 → (x7 : Words) → (x8 : List (Value N)) → Holds P (calls.call_thing K tree x1 x2 x3 x4 x5 x6 x7 x8)
  unfolding calls.call_thing
  walk_call_thing rec good again h2 act x i None plain verb args = search (eval_walk) depth 14
  walk_call_thing rec good again h2 act x i (Some (Made node caught stamps)) plain verb args = law.begins act x verb args (λ b. search (eval_walk, walk_run_object) depth 14)
  walk_call_thing rec good again h2 act x i (Some t) plain verb args = walk_with_lines P base law act x verb args _ (walk_thing_answer again h2 act i t plain verb args)

  pub walk_call_spot : (x1 : Evaluator N) → GoodEvaluator P x1 → (x2 : Caller N) → GoodCaller P x2 → (x3 : ℕ) → (x4 : Value N) → (x5 : Spot) → (x6 : Words) → (x7 : List (Value N)) → Holds P (calls.call_spot K tree x1 x2 x3 x4 x5 x6 x7)
  unfolding calls.call_spot
  walk_call_spot rec good again h2 act x (Own i) verb args = under.things i {f = λ t. calls.call_thing K tree rec again act x i t verb args} (λ p. call_by_resolver P K tree under rec again act x i p verb args) (λ o plain. walk_call_thing rec good again h2 act x i o plain verb args)
  walk_call_spot rec good again h2 act x _ verb args = search (eval_walk) depth 14

  pub walk_call_value : (x1 : Evaluator N) → GoodEvaluator P x1 → (x2 : Caller N) → GoodCaller P x2 → (x3 : ℕ) → (x4 : Value N) → (x5 : Value N) → (x6 : Words) → (x7 : List (Value N)) → Holds P (calls.call_value K tree x1 x2 x3 x4 x5 x6 x7)
  unfolding calls.call_value
  walk_call_value rec good again h2 act x (Ref n) verb args = search (eval_walk, walk_call_spot, walk_perform, walk_with_lines, walk_data_answer) depth 14
  walk_call_value rec good again h2 act x other verb args = search (eval_walk, walk_call_spot, walk_perform, walk_with_lines, walk_data_answer) depth 14

  pub walk_call_one : (x1 : Evaluator N) → GoodEvaluator P x1 → (x2 : Caller N) → GoodCaller P x2 → (x3 : ℕ) → (x4 : Value N) → (x5 : Words) → (x6 : List (Value N)) → Holds P (calls.call_one K tree x1 x2 x3 x4 x5 x6)
  unfolding calls.call_one
  walk_call_one rec good again h2 act x verb args = search (eval_walk, walk_call_value) depth 14

  pub walk_call_at : (x1 : ℕ) → (x2 : Evaluator N) → GoodEvaluator P x2 → (x3 : ℕ) → (x4 : Value N) → (x5 : Words) → (x6 : List (Value N)) → Holds P (calls.call_at K tree x1 x2 x3 x4 x5 x6)
  unfolding calls.call_at
  walk_call_at zero rec good act x verb args = search eval_walk
  walk_call_at (suc d) rec good act x verb args = walk_call_one rec good (λ a y v xs. calls.call_at K tree d rec a y v xs) (λ a y v xs. walk_call_at d rec good a y v xs) act x verb args

  pub walk_call : (x1 : Evaluator N) → GoodEvaluator P x1 → (x2 : ℕ) → (x3 : Value N) → (x4 : Words) → (x5 : List (Value N)) → Holds P (calls.call K tree x1 x2 x3 x4 x5)
  unfolding calls.call
  walk_call rec good act x verb args = search (eval_walk, walk_call_at) depth 14

  pub walk_turn_thing : (x1 : Evaluator N) → GoodEvaluator P x1 → (x2 : ℕ) → (x3 : ℕ) → (x4 : Option (Thing N)) → IsNoResolver x4 → (x5 : Words) → (x6 : List (Value N)) → Holds P (calls.turn_thing K tree x1 x2 x3 x4 x5 x6)
  unfolding calls.turn_thing
  walk_turn_thing rec good act i None plain verb args = search (eval_walk) depth 14
  walk_turn_thing rec good act i (Some (Made node caught stamps)) plain verb args = search (eval_walk, walk_run_object) depth 14
  walk_turn_thing rec good act i (Some t) plain verb args = walk_thing_answer (calls.call K tree rec) (λ a y w xs. walk_call rec good a y w xs) act i t plain verb args

  pub walk_turn_spot : (x1 : Evaluator N) → GoodEvaluator P x1 → (x2 : ℕ) → (x3 : Spot) → (x4 : Words) → (x5 : List (Value N)) → Holds P (calls.turn_spot K tree x1 x2 x3 x4 x5)
  unfolding calls.turn_spot
  walk_turn_spot rec good act (Own i) verb args = under.things i {f = λ t. calls.turn_thing K tree rec act i t verb args} (λ p. turn_by_resolver P K tree under rec act i p verb args) (λ o plain. walk_turn_thing rec good act i o plain verb args)
  walk_turn_spot rec good act _ verb args = search (eval_walk) depth 14

  pub walk_turn_value : (x1 : Evaluator N) → GoodEvaluator P x1 → (x2 : ℕ) → (x3 : Value N) → (x4 : Words) → (x5 : List (Value N)) → Holds P (calls.turn_value K tree x1 x2 x3 x4 x5)
  unfolding calls.turn_value
  walk_turn_value rec good act (Ref n) verb args = search (eval_walk, walk_turn_spot, walk_perform, walk_call, walk_data_answer) depth 14
  walk_turn_value rec good act other verb args = search (eval_walk, walk_turn_spot, walk_perform, walk_call, walk_data_answer) depth 14

  pub walk_object_made : (x1 : ℕ) → (x2 : Words) → (x3 : ℕ) → (x4 : N) → (x5 : Scope N) → (x6 : List (Value N)) → (x7 : List (Binding N)) → Holds P (calls.object_made K tree x1 x2 x3 x4 x5 x6 x7)
  unfolding calls.object_made
  walk_object_made node x act me after stamps caught = search (eval_walk, walk_answered) depth 14

  pub walk_object_in : (x1 : ℕ) → (x2 : Words) → (x3 : List Words) → (x4 : ℕ) → (x5 : N) → (x6 : List (Value N)) → (x7 : Scope N) → Holds P (calls.object_in K tree x1 x2 x3 x4 x5 x6 x7)
  unfolding calls.object_in
  walk_object_in node x free act me stamps after = search (eval_walk, walk_object_made) depth 14

  pub walk_object_as : (x1 : ℕ) → (x2 : Option Node) → (x3 : List Words) → (x4 : List (Value N)) → (x5 : N) → (x6 : Scope N) → Holds P (calls.object_as K tree x1 x2 x3 x4 x5 x6)
  unfolding calls.object_as
  walk_object_as node p free stamps me here = search (eval_walk, walk_object_in) depth 14

  pub walk_make_object : (x1 : Caller N) → GoodCaller P x1 → (x2 : ℕ) → (x3 : Option Node) → (x4 : List Words) → (x5 : List (Value N)) → (x6 : Scope N) → Holds P (calls.make_object K tree x1 x2 x3 x4 x5 x6)
  unfolding calls.make_object
  walk_make_object again h1 node p free auditors here = search (eval_walk, walk_ask_all, walk_object_as) depth 14

  pub walk_all_of : (x1 : Evaluator N) → GoodEvaluator P x1 → (x2 : List ℕ) → (x3 : Scope N) → Holds P (eval.all_of K tree x1 x2 x3)
  unfolding eval.all_of
  walk_all_of rec good [] here = search eval_walk
  walk_all_of rec good (e ∷ es) here = let rest = walk_all_of rec good es in search (eval_walk, good.expression) depth 14

  pub walk_last_of : (x1 : Evaluator N) → GoodEvaluator P x1 → (x2 : Answer N) → (x3 : List ℕ) → Holds P (eval.last_of K tree x1 x2 x3)
  unfolding eval.last_of
  walk_last_of rec good x [] = search eval_walk
  walk_last_of rec good x (e ∷ es) = let rest = λ (y : scopes.Answer N). walk_last_of rec good y es in search (eval_walk, good.expression)

  pub walk_exit_of : (x1 : Evaluator N) → GoodEvaluator P x1 → (x2 : Option ℕ) → (x3 : Scope N) → Holds P (eval.exit_of K tree x1 x2 x3)
  unfolding eval.exit_of
  walk_exit_of rec good None here = search (eval_walk, walk_answered) depth 14
  walk_exit_of rec good (Some j) here = search (eval_walk, good.expression) depth 14

  pub walk_caught_by : (x1 : Evaluator N) → GoodEvaluator P x1 → (x2 : Scope N) → (x3 : Option (ℕ × ℕ)) → (x4 : Value N) → Holds P (eval.caught_by K tree x1 x2 x3 x4)
  unfolding eval.caught_by
  walk_caught_by rec good here None v = search (eval_walk, walk_answered) depth 14
  walk_caught_by rec good here (Some c) v = search (eval_walk, walk_answered, good.expression, good.pattern) depth 14

  pub walk_escaped : (x1 : Evaluator N) → GoodEvaluator P x1 → (x2 : ℕ) → (x3 : Scope N) → (x4 : Option (ℕ × ℕ)) → (x5 : ℕ → Act N (Answer N)) → ((j : ℕ) → Holds P (x5 j)) → Holds P (calls.new_ejector K tree x2 >>= λ j. eval.escaped K tree x1 j x3 x4 (x5 j))
  unfolding eval.escaped
  walk_escaped rec good act here c m h5 = under.escapes act {f = λ j x. scopes.answered here x.value} {g = λ j p. throw p} {h = λ j n v. if n == j then eval.caught_by K tree rec here c v else eject n v} {m = m}
      (λ j x. search (eval_walk, walk_answered) depth 14) (λ j p. search (eval_walk) depth 14) (λ j n v. search (eval_walk, walk_caught_by) depth 14) h5

  pub walk_handles : (x1 : Evaluator N) → GoodEvaluator P x1 → (x2 : ℕ) → (x3 : ℕ) → (x4 : Scope N) → (x5 : Words) → Holds P (eval.handles K tree x1 x2 x3 x4 x5)
  unfolding eval.handles
  walk_handles rec good p h here t = search (eval_walk, walk_answered, good.expression, good.pattern) depth 14

  pub walk_tried : (x1 : Evaluator N) → GoodEvaluator P x1 → (x2 : ℕ) → (x3 : ℕ) → (x4 : Scope N) → (x5 : Act N (Answer N)) → Holds P x5 → Holds P (eval.tried K tree x1 x2 x3 x4 x5)
  unfolding eval.tried
  walk_tried rec good p h here m h5 = search (eval_walk, walk_answered, walk_handles) depth 14

  pub walk_at_last : (x1 : Evaluator N) → GoodEvaluator P x1 → (x2 : ℕ) → (x3 : Scope N) → (x4 : Act N (Answer N)) → Holds P x4 → Holds P (eval.at_last K tree x1 x2 x3 x4)
  unfolding eval.at_last
  walk_at_last rec good b here m h4 = search (eval_walk, walk_answered, good.expression) depth 14

  pub walk_choose : (x1 : Evaluator N) → GoodEvaluator P x1 → (x2 : ℕ) → (x3 : ℕ) → (x4 : Scope N) → (x5 : Scope N) → (x6 : Value N) → Holds P (eval.choose K tree x1 x2 x3 x4 x5 x6)
  unfolding eval.choose
  walk_choose rec good a b here inner (Flag true) = search (eval_walk, walk_answered, good.expression) depth 14
  walk_choose rec good a b here inner other = search (eval_walk, walk_answered, good.expression) depth 14

  pub walk_unmatched_noun : (x1 : ℕ) → (x2 : Bool) → Holds P (eval.unmatched_noun K tree x1 x2)
  unfolding eval.unmatched_noun
  walk_unmatched_noun act false = search (eval_walk) depth 14
  walk_unmatched_noun act true = search (eval_walk) depth 14

  pub walk_unmatched : (x1 : List BoundNoun) → (x2 : Scope N) → Holds P (eval.unmatched K tree x1 x2)
  unfolding eval.unmatched
  walk_unmatched [] here = search eval_walk
  walk_unmatched (b ∷ bs) here = let rest = walk_unmatched bs in search (eval_walk, walk_unmatched_noun) depth 14

  pub walk_not_matched : (x1 : ℕ) → (x2 : Scope N) → (x3 : Value N) → Holds P (eval.not_matched K tree x1 x2 x3)
  unfolding eval.not_matched
  walk_not_matched p here v = search (eval_walk, walk_unmatched, walk_answered) depth 14

  pub walk_match_ended : (x1 : ℕ) → (x2 : ℕ) → (x3 : Scope N) → (x4 : ℕ → Act N (Scope N)) → ((j : ℕ) → Holds P (x4 j)) → Holds P (calls.new_ejector K tree x1 >>= λ j. eval.match_ended K tree j x2 x3 (x4 j))
  unfolding eval.match_ended
  walk_match_ended act p here m h4 = under.escapes act {f = λ j inner. scopes.answered inner (Flag true)} {g = λ j t. throw t} {h = λ j n v. if n == j then eval.not_matched K tree p here v else eject n v} {m = m}
      (λ j inner. search (eval_walk, walk_answered) depth 14) (λ j t. search (eval_walk) depth 14) (λ j n v. search (eval_walk, walk_not_matched) depth 14) h4

  pub walk_write_cell : (x1 : Evaluator N) → GoodEvaluator P x1 → (x2 : ℕ) → (x3 : ℕ) → (x4 : Value N) → (x5 : Option (Cell N)) → Holds P (eval.write_cell K tree x1 x2 x3 x4 x5)
  unfolding eval.write_cell
  walk_write_cell rec good act k v None = search (eval_walk) depth 14
  walk_write_cell rec good act k v (Some c) = search (eval_walk, walk_coerce, walk_call) depth 14

  pub walk_write_bound : (x1 : Evaluator N) → GoodEvaluator P x1 → (x2 : ℕ) → (x3 : Option (Bound N)) → (x4 : Value N) → Holds P (eval.write_bound K tree x1 x2 x3 x4)
  unfolding eval.write_bound
  walk_write_bound rec good act (Some (Slot k)) v = search (eval_walk, walk_write_cell) depth 14
  walk_write_bound rec good act _ v = search (eval_walk) depth 14

  pub walk_guard_of : (x1 : Evaluator N) → GoodEvaluator P x1 → (x2 : Option ℕ) → (x3 : Scope N) → Holds P (eval.guard_of K tree x1 x2 x3)
  unfolding eval.guard_of
  walk_guard_of rec good None here = search (eval_walk, walk_answered) depth 14
  walk_guard_of rec good (Some g) here = search (eval_walk, walk_answered, good.expression) depth 14

  pub walk_bind_list : (x1 : Evaluator N) → GoodEvaluator P x1 → (x2 : List ℕ) → (x3 : Value N) → (x4 : Scope N) → (x5 : List (Value N)) → Holds P (eval.bind_list K tree x1 x2 x3 x4 x5)
  unfolding eval.bind_list
  walk_bind_list rec good ps j here vs = search (eval_walk, walk_bind_all, walk_failed, walk_call) depth 14

  pub walk_bind_items : (x1 : Evaluator N) → GoodEvaluator P x1 → (x2 : List ℕ) → (x3 : Value N) → (x4 : Scope N) → (x5 : Value N) → Holds P (eval.bind_items K tree x1 x2 x3 x4 x5)
  unfolding eval.bind_items
  walk_bind_items rec good ps j here (Items k) = search (eval_walk, walk_bind_list) depth 14
  walk_bind_items rec good ps j here _ = search (eval_walk, walk_failed, walk_call) depth 14

  -- what the nodes of the language are put together from: a node that is put together so too is no more text here
  ruleset nodes = (eval_walk, walk_answered, walk_read_bound, walk_write_bound, walk_failed, walk_handed, walk_coerce, walk_make_list, walk_bind_all, walk_call, walk_make_object, walk_all_of, walk_last_of, walk_exit_of, walk_caught_by, walk_handles, walk_tried, walk_at_last, walk_choose, walk_unmatched, walk_not_matched, walk_guard_of, walk_bind_list, walk_bind_items)

  pub walk_step : (x1 : Evaluator N) → GoodEvaluator P x1 → (x2 : ℕ) → (x3 : Node) → (x4 : Scope N) → Holds P (eval.step K tree x1 x2 x3 x4)
  unfolding eval.step
  walk_step rec good id (Escape p body c) here = walk_escaped rec good here.act here c (λ j. rec.pattern p (Ref (K.object j)) Null here >>= λ inner. rec.expression body inner)
      (λ j. search (eval_walk, good.expression, good.pattern) depth 14)
  walk_step rec good id (MatchBind e p) here = walk_bind P base (good.expression e here) (λ x. walk_match_ended here.act p x.scope (λ j. rec.pattern p x.value (Ref (K.object j)) x.scope)
      (λ j. good.pattern p x.value (Ref (K.object j)) x.scope))
  walk_step rec good id other here = search (nodes, good.expression, good.pattern) depth 14

  pub walk_bind_step : (x1 : Evaluator N) → GoodEvaluator P x1 → (x2 : Node) → (x3 : Value N) → (x4 : Value N) → (x5 : Scope N) → Holds P (eval.bind_step K tree x1 x2 x3 x4 x5)
  unfolding eval.bind_step
  walk_bind_step rec good (Any g) v j here = search (nodes, good.expression, good.pattern) depth 14
  walk_bind_step rec good other v j here = search (nodes, good.expression, good.pattern) depth 14

  pub walk_step_found : (x1 : Evaluator N) → GoodEvaluator P x1 → (x2 : ℕ) → (x3 : Option Node) → (x4 : Scope N) → Holds P (eval.step_found K tree x1 x2 x3 x4)
  unfolding eval.step_found
  walk_step_found rec good id None here = search (eval_walk) depth 14
  walk_step_found rec good id (Some n) here = search (eval_walk, walk_step) depth 14

  pub walk_bind_found : (x1 : Evaluator N) → GoodEvaluator P x1 → (x2 : Option Node) → (x3 : Value N) → (x4 : Value N) → (x5 : Scope N) → Holds P (eval.bind_found K tree x1 x2 x3 x4 x5)
  unfolding eval.bind_found
  walk_bind_found rec good None v j here = search (eval_walk) depth 14
  walk_bind_found rec good (Some n) v j here = search (eval_walk, walk_bind_step) depth 14

  pub good_deeper : (rec : Evaluator N) → GoodEvaluator P rec → GoodEvaluator P (eval.deeper K tree rec)
  unfolding eval.deeper
  good_deeper rec good = record {
    expression = λ id here. search (eval_walk, walk_step_found);
    pattern = λ id v j here. search (eval_walk, walk_bind_found);
  }

  -- what each single change keeps, the evaluator of every depth keeps
  pub good_evaluator : (d : ℕ) → GoodEvaluator P (eval.evaluator K tree d)
  unfolding eval.evaluator
  good_evaluator zero = record { expression = λ id here. search eval_walk; pattern = λ id v j here. search eval_walk }
  good_evaluator (suc d) = good_deeper (eval.evaluator K tree d) (good_evaluator d)

pub ruleset eval_walks = (eval_walk, eval_send, eval_send_only, eval_react, walk_answered, walk_read_cell, walk_read_bound, walk_with_lines, walk_fail_by, walk_failed, walk_handed, walk_native_coerce, walk_coerce_near, walk_coerce_native, walk_coerce, walk_store, walk_make_list, walk_spell, walk_write_text, walk_iterate, walk_reply, walk_data_answer, walk_send_by, walk_send_listed, walk_send_with, walk_call_listed, walk_call_with, walk_make_promise, walk_react_near, walk_when_resolved, walk_after_turn, walk_turns, walk_loop, walk_perform, walk_audit, walk_verdict, walk_ask_all, walk_build, walk_audition_live, walk_audition_answer, walk_ejector_answer, walk_bind_all, walk_hand_over, walk_matched, walk_match_all, walk_try_matchers, walk_run_body, walk_run_object, walk_thing_answer, walk_call_thing, walk_call_spot, walk_call_value, walk_call_one, walk_call_at, walk_call, walk_turn_thing, walk_turn_spot, walk_turn_value, walk_object_made, walk_object_in, walk_object_as, walk_make_object, walk_all_of, walk_last_of, walk_exit_of, walk_caught_by, walk_escaped, walk_handles, walk_tried, walk_at_last, walk_choose, walk_unmatched_noun, walk_unmatched, walk_not_matched, walk_match_ended, walk_write_cell, walk_write_bound, walk_step, walk_guard_of, walk_bind_list, walk_bind_items, walk_bind_step, walk_step_found, walk_bind_found)

-- Where all of P is kept from each state, there is no need to ask for a resolver.
module _ {N W : Type 0} (P : Property N) (K : Naming N W) (tree : List Node) (base : IsClosed P) (ending' : IsEnding P) (law : InEval P) (under : InEvalUnder P K tree) where
  walk_where_unresolved : (x1 : Standing N) → (x2 : Act N (Unit {0})) → Holds P x2 → Holds P (calls.where_unresolved K tree x1 x2)
  unfolding calls.where_unresolved
  walk_where_unresolved Unsettled m h2 = search (eval_walk) depth 14
  walk_where_unresolved _ m h2 = search (eval_walk) depth 14

  by_kind : {f : Option (Thing N) → Act N (Value N)} → ((p : N) → Holds P (f (Some (Resolver p)))) → ((o : Option (Thing N)) → IsNoResolver o → Holds P (f o)) → (o : Option (Thing N)) → Holds P (f o)
  by_kind h k (Some (Resolver p)) = h p
  by_kind h k other = k other tt

  pub in_nodes : InNodes P K tree
  in_nodes = record {
    by_resolver = λ p. P;
    closed = λ p. base;
    ends = λ p. ending';
    calls = λ p act x verb args {m} h. law.calls act x verb args h;
    promises = λ {f} h. walk_bind P base under.promises (λ p. walk_bind P base (under.resolvers p) (λ r. h p r));
    things = λ i {f} h k. walk_bind P base (walk_look P base (λ s. slice_get s.things i)) (by_kind h k);
    audits = λ act view {m} {f} h k. under.audits act view {m = m} {f = f} h k;
    escapes = λ act {f} {g} {h} {m} x y z w. under.escapes act {f = f} {g = g} {h = h} {m = m} x y z w;
    breaks = λ p t. walk_bind P base (walk_look P base (λ s. standing_of K s.known p)) (λ w. walk_where_unresolved w _ (under.breaks p t));
    resolves = under.resolves;
    sends = under.sends;
    sends_only = under.sends_only;
    reacts = under.reacts;
  }

  pub walk_closes : (act : ℕ) (o : Option N) → WhereSome (λ p. (v : Value N) → Holds P (resolve K p v)) o → (m : Act N (Value N)) → Holds P m → Holds P (eval.closes K tree act o m)
  unfolding eval.closes for_some
  walk_closes act (Some p) settled m h = search (eval_walk, settled, under.breaks) depth 14
  walk_closes act None settled m h = search (eval_walk) depth 14

  -- the opening turn, where the root may be resolved at its end
  pub walk_opening : (depth : ℕ) (p : N) (given : List (Binding N)) → ((v : Value N) → Holds P (resolve K p v)) → Holds P (eval.opening K tree depth p given)
  unfolding eval.opening
  walk_opening depth p given settled = let good = good_evaluator P K tree base ending' law in_nodes depth in
      walk_bind P base law.activates (λ a. walk_closes a (Some p) settled _ (search (eval_walk, good.expression) depth 14))

  -- what a turn does with a message that is taken
  pub walk_turn : (depth act : ℕ) (m : Message N) → WhereSome (λ p. (v : Value N) → Holds P (resolve K p v)) m.answer → Holds P (eval.closes K tree act m.answer (calls.turn_value K tree (eval.evaluator K tree depth) act m.target m.verb m.args))
  walk_turn depth act m settled = let good = good_evaluator P K tree base ending' law in_nodes depth in walk_closes act m.answer settled _ (walk_turn_value P K tree base ending' law in_nodes _ good act m.target m.verb m.args)

  -- a turn, where the answer may be resolved at its end and the message be taken
  pub walk_taking : (depth : ℕ) (m : Message N) → ((f : ℕ → Act N (Unit {0})) → ((a : ℕ) → Holds P (f a)) → Holds P (new_activation >>= λ a. tell (Took a m) >> f a)) → WhereSome (λ p. (v : Value N) → Holds P (resolve K p v)) m.answer → Holds P (eval.taking K tree depth m)
  unfolding eval.taking
  walk_taking depth m took settled = took _ (λ a. walk_turn depth a m settled)
