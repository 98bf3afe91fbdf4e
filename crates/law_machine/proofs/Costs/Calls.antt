-- A call costs no more than a call may, and a light one less.
use Rattle.std.proofs.Common.{ℕ, zero, suc, ◌+◌, ◌≤◌, Bool, true, false, List, [], ◌∷◌, Option, Some, None, ◌==◌, arith}
use Rattle.def_machine.specs.Values.{Words, Value, Null, Flag, Number, Letter, Text, Prim, Broken, Items, Ref, Naming, Spot, Own}
use Rattle.def_machine.specs.State.{Binding, Scope, View, FreeName, Thing, Made, Ejector, Audition, Resolver, Standing, Unsettled, Act, throw}
use Rattle.def_machine.specs.Free.{entry, same_words}
use Rattle.def_machine.specs.Refs.{Place, Near}
use Rattle.def_machine.specs.Form.{Item, Begin, End, Word, Fact, items_of, literal_value}
use Rattle.def_machine.specs.Native as native
use Rattle.def_machine.specs.Native.{primitive}
use Rattle.def_machine.specs.Scopes as scopes
use Rattle.def_machine.specs.Scopes.{Evaluator, Caller, Body, Case, AuditionAsk, GetsForm, GetsGuard, Asks, NoAuditionAsk, ResolverAsk, Resolves, Smashes, NoResolverAsk}
use Rattle.def_machine.specs.Perform as perform
use Rattle.def_machine.specs.Calls as calls
use Rattle.def_kernel.specs.declared.node.Node.{Node}
use Rattle.law_machine.proofs.Costs.Costs.{Prices, Costs, cost_up, cost_bind, cost_then, free_bind, free_then, look_bind, cost_give, cost_throw, cost_eject, cost_stop, cost_look, cost_if, cost_ending, cost_closing, cost_tell, cost_activation, cost_thing, cost_kill}
use Rattle.law_machine.proofs.Costs.Refs.{free_settle, free_resolve}
use Rattle.law_machine.proofs.Costs.Natives.{Light, Audits, verb_of, args_of, level, IsShortReply}
use Rattle.law_machine.proofs.Costs.Perform.{GoodCaller, at_most, cost_make_list, cost_full_list, cost_reply, cost_data_answer, light_data_answer, cost_perform, light_primitive}

-- What evaluates the nodes below earns: ten are left of what it spent.
pub record GoodEvaluator (P : Prices) {N : Type 0} (rec : Evaluator N) : Type 0 where
  pub expression : (id : ℕ) (here : Scope N) → Costs P 0 0 (rec.expression id here)
  pub pattern : (id : ℕ) (v j : Value N) (here : Scope N) → Costs P 0 0 (rec.pattern id v j here)

-- how many lists end in a form
abbrev pub ends_in : List Item → ℕ
ends_in [] = zero
ends_in (Begin ∷ is) = ends_in is
ends_in (End ∷ is) = suc (ends_in is)
ends_in (Word w ∷ is) = ends_in is
ends_in (Fact l ∷ is) = ends_in is

module _ (P : Prices) {N W : Type 0} (K : Naming N W) (tree : List Node) (formed : (id : ℕ) → ends_in (items_of tree id) ≤ P.tree) where
  at_call : {A : Type 0} {m : Act N A} {c d : ℕ} → c ≤ P.fuel + P.fuel + P.tree + 30 → d ≤ P.fuel + P.fuel + P.tree + 30 → Costs P c d m → Costs P P.call P.call m
  at_call l k h = at_most P K tree l k h

  thrown : {A : Type 0} (p : Words) → Costs P {N = N} P.call P.call (throw {A = A} p)
  thrown p = at_call (omega arith) (omega arith) (cost_throw P p)

  pub cost_ended : {c d : ℕ} (act : ℕ) (m : Act N (Value N)) → c ≤ d + 10 → d ≤ c + 10 → Costs P c d m → Costs P c d (scopes.ended act m)
  unfolding scopes.ended
  cost_ended act m l k h = cost_closing P l h (λ v. free_then P (cost_tell P _) (cost_give P v)) (λ p. free_then P (cost_tell P _) (cost_throw P p)) (λ n v. free_then P (cost_tell P _) (cost_eject P n v)) k

  with_lines : {c d : ℕ} (act : ℕ) (x : Value N) (verb : Words) (args : List (Value N)) (m : Act N (Value N)) → c ≤ d + 10 → d ≤ c + 10 → Costs P c d m → Costs P c d (scopes.with_lines act x verb args m)
  unfolding scopes.with_lines
  with_lines act x verb args m l k h = free_then P (cost_tell P _) (cost_ended act m l k h)

  -- ---- auditing

  pub cost_leave : {A : Type 0} {c d : ℕ} (j : ℕ) {m : Act N A} → Costs P c d m → Costs P c d (calls.leave K tree j m)
  unfolding calls.leave
  cost_leave j h = free_then P (cost_kill P j) h

  leaving : {A : Type 0} {c d : ℕ} (j : ℕ) (m : Act N A) → c ≤ d + 10 → d ≤ c + 10 → Costs P c d m → Costs P c d (calls.leaving K tree j m)
  unfolding calls.leaving
  leaving j m l k h = cost_closing P l h (λ v. cost_leave j (cost_give P v)) (λ p. cost_leave j (cost_throw P p)) (λ n v. cost_leave j (cost_eject P n v)) k

  -- the audition is paid for by the auditor's code, where it gives
  audit : (again : Caller N) → GoodCaller P again → (act : ℕ) (view : View N) (a : Value N) (p : Place N) → Costs P 10 13 (calls.audit K tree again act view a p)
  unfolding calls.audit
  audit again good act view a Near = cost_bind P (cost_thing P (Audition true view)) (λ n. free_then P (cost_tell P _) (cost_bind P {c = 2} {d = 12} (leaving n _ (omega arith) (omega arith) (good.light (Audits (Ref (K.object n))) act a))
      (λ v. cost_look P _) (omega arith) (omega arith) (omega arith))) (omega arith) (omega arith) (omega arith)
  audit again good act view a other = cost_up P (omega arith) (omega arith) (cost_throw P _)

  no_auditor : {A : Type 0} (p : Words) → Costs P {N = N} 10 13 (throw {A = A} p)
  no_auditor p = cost_up P (omega arith) (omega arith) (cost_throw P p)

  verdict : (again : Caller N) → GoodCaller P again → (act : ℕ) (view : View N) (a y : Value N) → Costs P 10 13 (calls.verdict K tree again act view a y)
  unfolding calls.verdict
  verdict again good act view a (Prim n) = cost_if P _ (cost_up P (omega arith) (omega arith) (cost_give P _)) (no_auditor _)
  verdict again good act view a (Ref n) = free_bind P (cost_look P _) (λ p. audit again good act view a p)
  verdict again good act view a other = no_auditor _

  ask_all : (again : Caller N) → GoodCaller P again → (act : ℕ) (view : View N) (as' : List (Value N)) → Costs P 10 13 (calls.ask_all K tree again act view as')
  unfolding calls.ask_all
  ask_all again good act view [] = cost_up P (omega arith) (omega arith) (cost_give P [])
  ask_all again good act view (a ∷ as') = free_bind P (cost_look P _) (λ y. cost_bind P (verdict again good act view a y) (λ b. cost_bind P {c = 10} {d = 13} (ask_all again good act view as') (λ ys. cost_give P _) (omega arith) (omega arith) (omega arith)) (omega arith) (omega arith) (omega arith))

  -- each list of a form may be empty
  build : (act : ℕ) (is : List Item) (fs : List (List (Value N))) → Costs P (10 + ends_in is) (10 + ends_in is) (calls.build K tree act is fs)
  unfolding calls.build
  build act (Begin ∷ is) fs = build act is ([] ∷ fs)
  build act (Word w ∷ is) fs = build act is (calls.with_item K tree (Text w) fs)
  build act (Fact l ∷ is) fs = build act is (calls.with_item K tree (literal_value l) fs)
  build act (End ∷ []) (f ∷ fs) = cost_up P (omega arith) (omega arith) (cost_make_list P K tree act f)
  build act (End ∷ i ∷ is) (f ∷ fs) = cost_bind P (cost_make_list P K tree act f) (λ v. build act (i ∷ is) (calls.with_item K tree v fs)) (omega arith) (omega arith) (omega arith)
  build act (End ∷ []) [] = cost_stop P _
  build act (End ∷ i ∷ is) [] = cost_stop P _
  build act [] fs = cost_stop P _

  guard_short : (fs : List (FreeName N)) (x : Words) → IsShortReply P.fuel (scopes.guard_at fs x)
  unfolding scopes.guard_at
  guard_short [] x = tt
  guard_short (f ∷ fs) x = by (same_words f.noun x) (guard_short fs x)
    where
      by : (b : Bool) → IsShortReply P.fuel (scopes.guard_at fs x) → IsShortReply P.fuel (elim b [ true ↦ native.Says (scopes.guard_told f.freedom) | false ↦ scopes.guard_at fs x ])
      by true h = tt
      by false h = h

  asked_short : (fs : List (FreeName N)) (x : Value N) → IsShortReply P.fuel (scopes.guard_asked fs x)
  unfolding scopes.guard_asked
  asked_short fs (Text t) = guard_short fs t
  asked_short fs _ = tt

  audition_live : (again : Caller N) → GoodCaller P again → (act : ℕ) (view : View N) (q : AuditionAsk N) → Costs P P.call P.call (calls.audition_live K tree again act view q)
  unfolding calls.audition_live
  audition_live again good act view GetsForm = let few = formed view.node in at_call (omega (arith, few)) (omega (arith, few)) (build act (items_of tree view.node) [])
  audition_live again good act view (GetsGuard x) = look_bind P _ _ (λ s short. cost_reply P K tree again good act _ (asked_short view.free _))
  audition_live again good act view (Asks a) = at_call (omega arith) (omega arith) (free_bind P (cost_look P _) (λ y. cost_bind P {c = 10} {d = 13} (verdict again good act view a y) (λ b. cost_give P _) (omega arith) (omega arith) (omega arith)))
  audition_live again good act view NoAuditionAsk = thrown _

  audition_answer : (again : Caller N) → GoodCaller P again → (act : ℕ) (live : Bool) (view : View N) (q : AuditionAsk N) → Costs P P.call P.call (calls.audition_answer K tree again act live view q)
  unfolding calls.audition_answer
  audition_answer again good act live view NoAuditionAsk = thrown _
  audition_answer again good act true view GetsForm = audition_live again good act view GetsForm
  audition_answer again good act true view (GetsGuard x) = audition_live again good act view (GetsGuard x)
  audition_answer again good act true view (Asks a) = audition_live again good act view (Asks a)
  audition_answer again good act false view other = thrown _

  -- ---- ejectors and resolvers

  ejector_answer : (i : ℕ) (live : Bool) (o : Option (Value N)) → Costs P 0 10 (calls.ejector_answer K tree i live o)
  unfolding calls.ejector_answer
  ejector_answer i live None = cost_throw P _
  ejector_answer i true (Some v) = cost_eject P i v
  ejector_answer i false (Some v) = cost_throw P _

  where_unresolved : (w : Standing N) (m : Act N (Unit {0})) → Costs P 10 0 m → Costs P 10 10 (calls.where_unresolved K tree w m)
  unfolding calls.where_unresolved
  where_unresolved Unsettled m h = cost_up P (omega arith) (omega arith) (free_then P h (cost_give P Null))
  where_unresolved other m h = cost_up P (omega arith) (omega arith) (cost_throw P _)

  smash : (p : N) (y : Value N) → Costs P 10 10 (calls.smash K tree p y)
  unfolding calls.smash
  smash p (Text t) = free_bind P (cost_look P _) (λ w. where_unresolved w _ (free_settle P K p _))
  smash p _ = cost_up P (omega arith) (omega arith) (cost_throw P _)

  resolver_answer : (p : N) (q : ResolverAsk N) → Costs P 10 10 (calls.resolver_answer K tree p q)
  unfolding calls.resolver_answer
  resolver_answer p (Resolves x) = free_bind P (cost_look P _) (λ w. where_unresolved w _ (free_resolve P K p x))
  resolver_answer p (Smashes x) = free_bind P (cost_look P _) (λ y. smash p y)
  resolver_answer p NoResolverAsk = cost_up P (omega arith) (omega arith) (cost_throw P _)

  thing_answer : (again : Caller N) → GoodCaller P again → (act i : ℕ) (t : Thing N) (verb : Words) (args : List (Value N)) → Costs P P.call P.call (calls.thing_answer K tree again act i t verb args)
  unfolding calls.thing_answer
  thing_answer again good act i (Ejector live) verb args = at_call (omega arith) (omega arith) (ejector_answer i live _)
  thing_answer again good act i (Audition live view) verb args = audition_answer again good act live view _
  thing_answer again good act i (Resolver p) verb args = at_call (omega arith) (omega arith) (resolver_answer p _)
  thing_answer again good act i (Made node caught stamps) verb args = cost_stop P _

  -- no ejector, audition or resolver gives to a light call
  light_thing : (again : Caller N) (act i : ℕ) (t : Thing N) (l : Light N) → Costs P 0 10 (calls.thing_answer K tree again act i t (verb_of l) (args_of l))
  unfolding calls.thing_answer calls.audition_answer calls.resolver_answer scopes.audition_ask scopes.resolver_ask entry same_words
  light_thing again act i (Ejector live) l = ejector_answer i live _
  light_thing again act i (Audition live view) (Audits x) = cost_throw P _
  light_thing again act i (Resolver p) (Audits x) = cost_throw P _
  light_thing again act i (Made node caught stamps) l = cost_stop P _
  light_thing again act i another other = cost_throw P _

  -- ---- objects

  pub free_bind_all : (rec : Evaluator N) → GoodEvaluator P rec → (ps : List ℕ) (vs : List (Value N)) (j : Value N) (here : Scope N) → Costs P 10 10 (calls.bind_all K tree rec ps vs j here)
  unfolding calls.bind_all
  free_bind_all rec good [] vs j here = cost_up P (omega arith) (omega arith) (cost_give P here)
  free_bind_all rec good (p ∷ ps) [] j here = cost_up P (omega arith) (omega arith) (cost_give P here)
  free_bind_all rec good (p ∷ ps) (v ∷ vs) j here = cost_bind P (good.pattern p v j here) (λ next. free_bind_all rec good ps vs j next) (omega arith) (omega arith) (omega arith)

  pub cost_new_ejector : (act : ℕ) → Costs P 11 1 (calls.new_ejector K tree act)
  unfolding calls.new_ejector
  cost_new_ejector act = cost_bind P (cost_thing P _) (λ j. free_then P (cost_tell P _) (cost_give P j)) (omega arith) (omega arith) (omega arith)

  hand_over : (act j : ℕ) (next : Act N (Value N)) (n : ℕ) (v : Value N) → Costs P 1 11 next → Costs P 1 11 (calls.hand_over K tree act j next n v)
  unfolding calls.hand_over
  hand_over act j next n v h = cost_if P (n == j) (free_then P (cost_tell P _) h) (cost_up P (omega arith) (omega arith) (cost_eject P n v))

  matched : (rec : Evaluator N) → GoodEvaluator P rec → (act j body : ℕ) (next : Act N (Value N)) (m : Act N (Scope N)) → Costs P 1 11 next → Costs P 0 0 m → Costs P 0 1 (calls.matched K tree rec act j body next m)
  unfolding calls.matched
  matched rec good act j body next m h k = cost_ending P k (λ inner. cost_leave j (cost_bind P {c = 0} {d = 0} (good.expression body inner) (λ x. cost_give P _) (omega arith) (omega arith) (omega arith)))
      (λ p. cost_leave j (cost_up P {c = 1} {d = 11} (omega arith) (omega arith) (cost_throw P p))) (λ n v. cost_leave j (hand_over act j next n v h)) (omega arith) (omega arith) (omega arith) (omega arith)

  -- The ejector of a matcher is paid for by its pattern.
  match_all : (rec : Evaluator N) → GoodEvaluator P rec → (ms : List Case) (v : Value N) (here : Scope N) → Costs P 1 11 (calls.match_all K tree rec ms v here)
  unfolding calls.match_all
  match_all rec good [] v here = cost_up P (omega arith) (omega arith) (cost_throw P _)
  match_all rec good (m ∷ ms) v here = cost_bind P (cost_new_ejector here.act) (λ j. matched rec good here.act j m.body (λ s. calls.match_all K tree rec ms v here s) _ (match_all rec good ms v here) (good.pattern m.pattern v (Ref (K.object j)) here)) (omega arith) (omega arith) (omega arith)

  try_matchers : (rec : Evaluator N) → GoodEvaluator P rec → (ms : List Case) (verb : Words) (args : List (Value N)) (here : Scope N) → Costs P 1 11 (calls.try_matchers K tree rec ms verb args here)
  unfolding calls.try_matchers
  try_matchers rec good [] verb args here = cost_up P (omega arith) (omega arith) (cost_throw P _)
  try_matchers rec good (m ∷ ms) verb args here = cost_bind P (cost_make_list P K tree here.act args) (λ l. cost_bind P {c = 0} {d = 10} (cost_full_list P K tree here.act _ _) (λ pair. match_all rec good (m ∷ ms) pair here) (omega arith) (omega arith) (omega arith)) (omega arith) (omega arith) (omega arith)

  run_body : (rec : Evaluator N) → GoodEvaluator P rec → (ms : List Case) (verb : Words) (o : Option Body) (args : List (Value N)) (here : Scope N) → Costs P 1 11 (calls.run_body K tree rec ms verb o args here)
  unfolding calls.run_body
  run_body rec good ms verb (Some b) args here = cost_bind P (free_bind_all rec good b.patterns args Null here) (λ inner. cost_bind P {c = 0} {d = 0} (good.expression b.body inner) (λ x. cost_give P _) (omega arith) (omega arith) (omega arith)) (omega arith) (omega arith) (omega arith)
  run_body rec good ms verb None args here = try_matchers rec good ms verb args here

  run_object : (rec : Evaluator N) → GoodEvaluator P rec → (members : List ℕ) (verb : Words) (args : List (Value N)) (here : Scope N) → Costs P 1 11 (calls.run_object K tree rec members verb args here)
  unfolding calls.run_object
  run_object rec good members verb args here = run_body rec good _ verb _ args here

  -- ---- calls

  -- the activation is paid for by the object's code, where it gives
  call_made : (rec : Evaluator N) → GoodEvaluator P rec → (again : Caller N) (act : ℕ) (x : Value N) (i node : ℕ) (caught : List (Binding N)) (stamps : List (Value N)) (verb : Words) (args : List (Value N))
      → Costs P 2 12 (calls.call_thing K tree rec again act x i (Some (Made node caught stamps)) verb args)
  unfolding calls.call_thing
  call_made rec good again act x i node caught stamps verb args = cost_bind P (cost_activation P) (λ b. free_then P (cost_tell P _) (cost_ended act _ (omega arith) (omega arith) (run_object rec good _ verb args _))) (omega arith) (omega arith) (omega arith)

  call_thing : (rec : Evaluator N) → GoodEvaluator P rec → (again : Caller N) → GoodCaller P again → (act : ℕ) (x : Value N) (i : ℕ) (o : Option (Thing N)) (verb : Words) (args : List (Value N)) → Costs P P.call P.call (calls.call_thing K tree rec again act x i o verb args)
  unfolding calls.call_thing
  call_thing rec good again h act x i None verb args = cost_stop P _
  call_thing rec good again h act x i (Some (Made node caught stamps)) verb args = at_call (omega arith) (omega arith) (call_made rec good again act x i node caught stamps verb args)
  call_thing rec good again h act x i (Some (Ejector live)) verb args = with_lines act x verb args _ (omega arith) (omega arith) (thing_answer again h act i (Ejector live) verb args)
  call_thing rec good again h act x i (Some (Audition live view)) verb args = with_lines act x verb args _ (omega arith) (omega arith) (thing_answer again h act i (Audition live view) verb args)
  call_thing rec good again h act x i (Some (Resolver p)) verb args = with_lines act x verb args _ (omega arith) (omega arith) (thing_answer again h act i (Resolver p) verb args)

  two : (l : Light N) → 2 ≤ level l
  two (Audits x) = omega arith
  two other = omega arith

  light_called : (rec : Evaluator N) → GoodEvaluator P rec → (again : Caller N) (act : ℕ) (x : Value N) (i : ℕ) (o : Option (Thing N)) (l : Light N) → Costs P (level l) 12 (calls.call_thing K tree rec again act x i o (verb_of l) (args_of l))
  unfolding calls.call_thing
  light_called rec good again act x i None l = cost_stop P _
  light_called rec good again act x i (Some (Made node caught stamps)) l = cost_up P (two l) (omega arith) (call_made rec good again act x i node caught stamps (verb_of l) (args_of l))
  light_called rec good again act x i (Some (Ejector live)) l = cost_up P (omega arith) (omega arith) (with_lines act x (verb_of l) (args_of l) _ (omega arith) (omega arith) (light_thing again act i (Ejector live) l))
  light_called rec good again act x i (Some (Audition live view)) l = cost_up P (omega arith) (omega arith) (with_lines act x (verb_of l) (args_of l) _ (omega arith) (omega arith) (light_thing again act i (Audition live view) l))
  light_called rec good again act x i (Some (Resolver p)) l = cost_up P (omega arith) (omega arith) (with_lines act x (verb_of l) (args_of l) _ (omega arith) (omega arith) (light_thing again act i (Resolver p) l))

  call_spot : (rec : Evaluator N) → GoodEvaluator P rec → (again : Caller N) → GoodCaller P again → (act : ℕ) (x : Value N) (p : Spot) (verb : Words) (args : List (Value N)) → Costs P P.call P.call (calls.call_spot K tree rec again act x p verb args)
  unfolding calls.call_spot
  call_spot rec good again h act x (Own i) verb args = free_bind P (cost_look P _) (λ t. call_thing rec good again h act x i t verb args)
  call_spot rec good again h act x other verb args = thrown _

  light_spot : (rec : Evaluator N) → GoodEvaluator P rec → (again : Caller N) (act : ℕ) (x : Value N) (p : Spot) (l : Light N) → Costs P (level l) 12 (calls.call_spot K tree rec again act x p (verb_of l) (args_of l))
  unfolding calls.call_spot
  light_spot rec good again act x (Own i) l = free_bind P (cost_look P _) (λ t. light_called rec good again act x i t l)
  light_spot rec good again act x other l = cost_up P (omega arith) (omega arith) (cost_throw P _)

  near : (l : Light N) → (level l ≤ 22) × (12 ≤ level l + 10)
  near (Audits x) = (omega arith, omega arith)
  near other = (omega arith, omega arith)

  data_called : (again : Caller N) → GoodCaller P again → (act : ℕ) (x y : Value N) (verb : Words) (args : List (Value N)) → Costs P P.call P.call (scopes.with_lines act x verb args (perform.data_answer K tree again act y verb args))
  data_called again h act x y verb args = with_lines act x verb args _ (omega arith) (omega arith) (cost_data_answer P K tree again h act y verb args)

  light_data_called : (again : Caller N) (act : ℕ) (x y : Value N) (l : Light N) → Costs P (level l) 12 (scopes.with_lines act x (verb_of l) (args_of l) (perform.data_answer K tree again act y (verb_of l) (args_of l)))
  light_data_called again act x y l = with_lines act x (verb_of l) (args_of l) _ (near l).0 (near l).1 (light_data_answer P K tree again act y l)

  call_value : (rec : Evaluator N) → GoodEvaluator P rec → (again : Caller N) → GoodCaller P again → (act : ℕ) (x y : Value N) (verb : Words) (args : List (Value N)) → Costs P P.call P.call (calls.call_value K tree rec again act x y verb args)
  unfolding calls.call_value
  call_value rec good again h act x (Ref n) verb args = call_spot rec good again h act x (K.spot n) verb args
  call_value rec good again h act x (Broken p) verb args = thrown p
  call_value rec good again h act x (Prim n) verb args = cost_perform P K tree again h act _
  call_value rec good again h act x Null verb args = data_called again h act x Null verb args
  call_value rec good again h act x (Flag b) verb args = data_called again h act x (Flag b) verb args
  call_value rec good again h act x (Number z) verb args = data_called again h act x (Number z) verb args
  call_value rec good again h act x (Letter c) verb args = data_called again h act x (Letter c) verb args
  call_value rec good again h act x (Text t) verb args = data_called again h act x (Text t) verb args
  call_value rec good again h act x (Items k) verb args = data_called again h act x (Items k) verb args

  light_value : (rec : Evaluator N) → GoodEvaluator P rec → (again : Caller N) (act : ℕ) (x y : Value N) (l : Light N) → Costs P (level l) 12 (calls.call_value K tree rec again act x y (verb_of l) (args_of l))
  unfolding calls.call_value
  light_value rec good again act x (Ref n) l = light_spot rec good again act x (K.spot n) l
  light_value rec good again act x (Broken p) l = cost_up P (omega arith) (omega arith) (cost_throw P p)
  light_value rec good again act x (Prim n) l = light_primitive P K tree again act (primitive n) l
  light_value rec good again act x Null l = light_data_called again act x Null l
  light_value rec good again act x (Flag b) l = light_data_called again act x (Flag b) l
  light_value rec good again act x (Number z) l = light_data_called again act x (Number z) l
  light_value rec good again act x (Letter c) l = light_data_called again act x (Letter c) l
  light_value rec good again act x (Text t) l = light_data_called again act x (Text t) l
  light_value rec good again act x (Items k) l = light_data_called again act x (Items k) l

  module _ (rec : Evaluator N) (good : GoodEvaluator P rec) where
    call_one : (again : Caller N) → GoodCaller P again → GoodCaller P (calls.call_one K tree rec again)
    unfolding calls.call_one
    call_one again h = record {
      any = λ act x verb args. free_bind P (cost_look P _) (λ y. call_value rec good again h act x y verb args);
      light = λ l act x. free_bind P (cost_look P _) (λ y. light_value rec good again act x y l);
    }

    call_at : (d : ℕ) → GoodCaller P (calls.call_at K tree d rec)
    unfolding calls.call_at
    call_at zero = record { any = λ act x verb args. cost_stop P _; light = λ l act x. cost_stop P _ }
    call_at (suc d) = let h = call_one (λ a y v xs. calls.call_at K tree d rec a y v xs) (record { any = λ act x verb args. (call_at d).any act x verb args; light = λ l act x. (call_at d).light l act x }) in
        record { any = λ act x verb args. h.any act x verb args; light = λ l act x. h.light l act x }

    pub good_call : GoodCaller P (calls.call K tree rec)
    unfolding calls.call
    good_call = record {
      any = λ act x verb args. free_bind P (cost_look P _) (λ n. (call_at n).any act x verb args);
      light = λ l act x. free_bind P (cost_look P _) (λ n. (call_at n).light l act x);
    }

    turn_thing : (act i : ℕ) (o : Option (Thing N)) (verb : Words) (args : List (Value N)) → Costs P P.call P.call (calls.turn_thing K tree rec act i o verb args)
    unfolding calls.turn_thing
    turn_thing act i None verb args = cost_stop P _
    turn_thing act i (Some (Made node caught stamps)) verb args = at_call (omega arith) (omega arith) (run_object rec good _ verb args _)
    turn_thing act i (Some (Ejector live)) verb args = thing_answer _ good_call act i (Ejector live) verb args
    turn_thing act i (Some (Audition live view)) verb args = thing_answer _ good_call act i (Audition live view) verb args
    turn_thing act i (Some (Resolver p)) verb args = thing_answer _ good_call act i (Resolver p) verb args

    turn_spot : (act : ℕ) (p : Spot) (verb : Words) (args : List (Value N)) → Costs P P.call P.call (calls.turn_spot K tree rec act p verb args)
    unfolding calls.turn_spot
    turn_spot act (Own i) verb args = free_bind P (cost_look P _) (λ t. turn_thing act i t verb args)
    turn_spot act other verb args = cost_stop P _

    pub cost_turn_value : (act : ℕ) (x : Value N) (verb : Words) (args : List (Value N)) → Costs P P.call P.call (calls.turn_value K tree rec act x verb args)
    unfolding calls.turn_value
    cost_turn_value act (Ref n) verb args = turn_spot act (K.spot n) verb args
    cost_turn_value act (Broken p) verb args = thrown p
    cost_turn_value act (Prim n) verb args = cost_perform P K tree _ good_call act _
    cost_turn_value act Null verb args = cost_data_answer P K tree _ good_call act Null verb args
    cost_turn_value act (Flag b) verb args = cost_data_answer P K tree _ good_call act (Flag b) verb args
    cost_turn_value act (Number z) verb args = cost_data_answer P K tree _ good_call act (Number z) verb args
    cost_turn_value act (Letter c) verb args = cost_data_answer P K tree _ good_call act (Letter c) verb args
    cost_turn_value act (Text t) verb args = cost_data_answer P K tree _ good_call act (Text t) verb args
    cost_turn_value act (Items k) verb args = cost_data_answer P K tree _ good_call act (Items k) verb args

  -- ---- making objects

  answered : (here : Scope N) (v : Value N) → Costs P 10 0 (scopes.answered here v)
  unfolding scopes.answered
  answered here v = cost_give P _

  object_as : (node : ℕ) (o : Option Node) (free : List Words) (stamps : List (Value N)) (me : N) (here : Scope N) → Costs P 11 1 (calls.object_as K tree node o free stamps me here)
  unfolding calls.object_as calls.object_in calls.object_made
  object_as node o free stamps me here = cost_then P (cost_thing P _) (free_then P (cost_tell P _) (answered _ (Ref me))) (omega arith) (omega arith) (omega arith)

  pub cost_make_object : (again : Caller N) → GoodCaller P again → (node : ℕ) (o : Option Node) (free : List Words) (auditors : List (Value N)) (here : Scope N) → Costs P 11 13 (calls.make_object K tree again node o free auditors here)
  unfolding calls.make_object
  cost_make_object again good node o free auditors here = cost_bind P (ask_all again good here.act _ auditors) (λ stamps. free_bind P (cost_look P _) (λ n. object_as node o free stamps (K.object n) here)) (omega arith) (omega arith) (omega arith)
