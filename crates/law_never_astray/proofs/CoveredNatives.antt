-- What guards, data, primitives and auditors do.
use Rattle.std.proofs.Common.{ℕ, zero, suc, Bool, true, false, List, [], ◌∷◌, Option, Some, None}
use Rattle.def_machine.specs.Values.{Words, Value, Flag, Text, Prim, Items, Naming}
use Rattle.def_machine.specs.State.{View, Audition, Standing, Unsettled, Vat, Fuel, Act, spend, new_thing}
use Rattle.def_machine.specs.Refs.{Place, Near}
use Rattle.def_machine.specs.Native.{Reply, Writes, Guard, Asked, MakesList}
use Rattle.def_machine.specs.Scopes as scopes
use Rattle.def_machine.specs.Perform as perform
use Rattle.def_machine.specs.Calls as calls
use Rattle.def_machine.specs.Scopes.{Caller, ResolverAsk, Resolves}
use Rattle.def_kernel.specs.declared.node.Node.{Node}
use Rattle.def_kernel.specs.Trees.{Has}
use Rattle.law_never_astray.proofs.Leads.{AtStops, Leads, Nothing, Refers, MayStop, leads, lead_stop, lead_spend, lead_thing, lead_kill, lead_then, lead_ends, lead_give, lead_throw, lead_eject}

-- a call does, whatever is called
abbrev pub GoodCaller : {N : Type 0} → List Node → AtStops N → Caller N → Type 0
GoodCaller {N} tree F again = (many act : ℕ) (x : Value N) (verb : Words) (args : List (Value N)) → Leads tree F many Nothing (again act x verb args)

-- what is judged is a node of the tree
abbrev pub IsSeen : {N : Type 0} → List Node → View N → Type 0
IsSeen tree view = (x : Node) × Has tree view.node x

module _ {N : Type 0} (tree : List Node) (F : AtStops N) where
  pub lead_audition : {n : ℕ} (view : View N) → IsSeen tree view → Leads tree F n Nothing (new_thing (Audition true view))
  lead_audition view seen = lead_thing tree F (Audition true view) (λ k l. seen)

  pub lead_leaving : {W A : Type 0} {n : ℕ} (K : Naming N W) (i : ℕ) (m : Act N A) → Leads tree F n Nothing m → Leads tree F n Nothing (calls.leaving K tree i m)
  unfolding calls.leaving calls.leave
  lead_leaving K i m h = lead_ends tree F (λ v. lead_then tree F (lead_kill tree F i) (lead_give tree F v)) (λ p. lead_then tree F (lead_kill tree F i) (lead_throw tree F p)) (λ k v. lead_then tree F (lead_kill tree F i) (lead_eject tree F k v)) h

  pub lead_ended : {n : ℕ} (act : ℕ) (m : Act N (Value N)) → Leads tree F n Nothing m → Leads tree F n Nothing (scopes.ended act m)
  unfolding scopes.ended
  lead_ended act m h = search leads depth 14

  pub lead_with_lines : {n : ℕ} (act : ℕ) (x : Value N) (verb : Words) (args : List (Value N)) (m : Act N (Value N)) → Leads tree F n Nothing m → Leads tree F n Nothing (scopes.with_lines act x verb args m)
  unfolding scopes.with_lines
  lead_with_lines act x verb args m h = search (leads, lead_ended) depth 14

module _ {N W : Type 0} (K : Naming N W) (tree : List Node) (F : AtStops N) (fuel : (s : Vat N) → F Fuel s) where
  spends : {n : ℕ} (i : ℕ) → Leads tree F n Nothing (spend i)
  spends i = lead_spend tree F i fuel

  store_leads : (many act : ℕ) (vs : List (Value N)) → Leads tree F many Nothing (perform.store K tree act vs)
  unfolding perform.store
  store_leads many act vs = search (leads, spends) depth 14

  pub list_leads : (many act : ℕ) (vs : List (Value N)) → Leads tree F many Nothing (perform.make_list K tree act vs)
  unfolding perform.make_list
  list_leads many act vs = search (leads, store_leads) depth 14

  spell_leads : (many : ℕ) (t : Words) → Leads tree F many Nothing (perform.spell K tree t)
  unfolding perform.spell
  spell_leads many t = search (leads, spends) depth 14

  text_leads : (many : ℕ) (t : Words) → Leads tree F many Nothing (perform.write_text K tree t)
  unfolding perform.write_text
  text_leads many t = search (leads, spell_leads) depth 14

module _ {N W : Type 0} (K : Naming N W) (tree : List Node) (F : AtStops N) (may : MayStop F) (refs : Refers K tree F) where
  pub lead_make_list : (many act : ℕ) (vs : List (Value N)) → Leads tree F many Nothing (perform.make_list K tree act vs)
  lead_make_list many act vs = list_leads K tree F may.fuel many act vs

  lead_write_text : (many : ℕ) (t : Words) → Leads tree F many Nothing (perform.write_text K tree t)
  lead_write_text many t = text_leads K tree F may.fuel many t

  pub lead_fail_by : (many : ℕ) → {A : Type 0} → {H : ℕ → A → Type 0} → (x1 : Caller N) → GoodCaller tree F x1 → (x2 : ℕ) → (x3 : Value N) → (x4 : Words) → (x5 : Bool) → Leads tree F many H (perform.fail_by K tree {A = A} x1 x2 x3 x4 x5)
  unfolding perform.fail_by
  lead_fail_by many again h1 act j p true = search (leads) depth 14
  lead_fail_by many again h1 act j p false = search (leads) depth 14

  pub lead_failed : (many : ℕ) → {A : Type 0} → {H : ℕ → A → Type 0} → (x1 : Caller N) → GoodCaller tree F x1 → (x2 : ℕ) → (x3 : Value N) → (x4 : Words) → Leads tree F many H (perform.failed K tree {A = A} x1 x2 x3 x4)
  unfolding perform.failed
  lead_failed many again h1 act j p = search (leads, lead_fail_by) depth 14

  pub lead_handed : (many : ℕ) → (x1 : Value N) → Leads tree F many Nothing (perform.handed K tree x1)
  unfolding perform.handed
  lead_handed many j = search (leads) depth 14

  pub lead_native_coerce : (many : ℕ) → (x1 : Caller N) → GoodCaller tree F x1 → (x2 : ℕ) → (x3 : Guard) → (x4 : Value N) → (x5 : Value N) → Leads tree F many Nothing (perform.native_coerce K tree x1 x2 x3 x4 x5)
  unfolding perform.native_coerce
  lead_native_coerce many again h1 act g j x = search (leads, lead_failed) depth 14

  pub lead_coerce_near : (many : ℕ) → (x1 : Caller N) → GoodCaller tree F x1 → (x2 : ℕ) → (x3 : Value N) → (x4 : Value N) → (x5 : Value N) → (x6 : Place N) → Leads tree F many Nothing (perform.coerce_near K tree x1 x2 x3 x4 x5 x6)
  unfolding perform.coerce_near
  lead_coerce_near many again h1 act g j x Near = search (leads, lead_handed) depth 14
  lead_coerce_near many again h1 act g j x _ = search (leads) depth 14

  pub lead_coerce_native : (many : ℕ) → (x1 : Caller N) → GoodCaller tree F x1 → (x2 : ℕ) → (x3 : Option Guard) → (x4 : Value N) → (x5 : Value N) → Leads tree F many Nothing (perform.coerce_native K tree x1 x2 x3 x4 x5)
  unfolding perform.coerce_native
  lead_coerce_native many again h1 act (Some g) j x = search (leads, lead_native_coerce) depth 14
  lead_coerce_native many again h1 act None j x = search (leads) depth 14

  pub lead_coerce : (many : ℕ) → (x1 : Caller N) → GoodCaller tree F x1 → (x2 : ℕ) → (x3 : Value N) → (x4 : Value N) → (x5 : Value N) → Leads tree F many Nothing (perform.coerce K tree x1 x2 x3 x4 x5)
  unfolding perform.coerce
  lead_coerce many again h1 act (Prim n) j x = search (leads, lead_coerce_native, lead_coerce_near) depth 14
  lead_coerce many again h1 act other j x = search (leads, lead_coerce_native, lead_coerce_near) depth 14

  pub lead_iterate : (many : ℕ) → (x1 : Caller N) → GoodCaller tree F x1 → (x2 : ℕ) → (x3 : Value N) → (x4 : ℕ) → (x5 : List (Value N)) → Leads tree F many Nothing (perform.iterate K tree x1 x2 x3 x4 x5)
  unfolding perform.iterate
  lead_iterate many again h act o k [] = search leads
  lead_iterate many again h act o k (v ∷ vs) = let rest = lead_iterate many again h act o (suc k) vs in search leads

  pub lead_reply : (many : ℕ) → (x1 : Caller N) → GoodCaller tree F x1 → (x2 : ℕ) → (x3 : Reply N) → Leads tree F many Nothing (perform.reply K tree x1 x2 x3)
  unfolding perform.reply
  lead_reply many again h1 act (Writes t) = search (leads, lead_write_text, lead_make_list, lead_iterate) depth 14
  lead_reply many again h1 act other = search (leads, lead_write_text, lead_make_list, lead_iterate) depth 14

  pub lead_data_answer : (many : ℕ) → (x1 : Caller N) → GoodCaller tree F x1 → (x2 : ℕ) → (x3 : Value N) → (x4 : Words) → (x5 : List (Value N)) → Leads tree F many Nothing (perform.data_answer K tree x1 x2 x3 x4 x5)
  unfolding perform.data_answer
  lead_data_answer many again h1 act y verb args = search (leads, lead_reply) depth 14

  pub lead_send_by : (many : ℕ) → (x0 : Bool) → (x1 : ℕ) → (x2 : Value N) → (x3 : Words) → (x4 : List (Value N)) → Leads tree F many Nothing (perform.send_by K tree x0 x1 x2 x3 x4)
  unfolding perform.send_by
  lead_send_by many only act x verb args = search (leads, refs.sends, refs.sends_only) depth 14

  pub lead_send_listed : (many : ℕ) → (x0 : Bool) → (x1 : ℕ) → (x2 : Value N) → (x3 : Words) → (x4 : List (Value N)) → Leads tree F many Nothing (perform.send_listed K tree x0 x1 x2 x3 x4)
  unfolding perform.send_listed
  lead_send_listed many only act x verb args = search (leads, lead_send_by) depth 14

  pub lead_send_with : (many : ℕ) → (x0 : Bool) → (x1 : ℕ) → (x2 : Value N) → (x3 : Value N) → (x4 : Value N) → Leads tree F many Nothing (perform.send_with K tree x0 x1 x2 x3 x4)
  unfolding perform.send_with
  lead_send_with many only act x (Text verb) (Items k) = search (leads, lead_send_listed) depth 14
  lead_send_with many only act x _ _ = search (leads) depth 14

  pub lead_call_listed : (many : ℕ) → (x1 : Caller N) → GoodCaller tree F x1 → (x2 : ℕ) → (x3 : Value N) → (x4 : Words) → (x5 : List (Value N)) → Leads tree F many Nothing (perform.call_listed K tree x1 x2 x3 x4 x5)
  unfolding perform.call_listed
  lead_call_listed many again h1 act x verb args = search (leads) depth 14

  pub lead_call_with : (many : ℕ) → (x1 : Caller N) → GoodCaller tree F x1 → (x2 : ℕ) → (x3 : Value N) → (x4 : Value N) → (x5 : Value N) → Leads tree F many Nothing (perform.call_with K tree x1 x2 x3 x4 x5)
  unfolding perform.call_with
  lead_call_with many again h1 act x (Text verb) (Items k) = search (leads, lead_call_listed) depth 14
  lead_call_with many again h1 act x _ _ = search (leads) depth 14

  pub lead_make_promise : (many : ℕ) → (x1 : ℕ) → Leads tree F many Nothing (perform.make_promise K tree x1)
  unfolding perform.make_promise
  lead_make_promise many act = search (leads, refs.promises, lead_make_list) depth 14

  pub lead_react_near : (many : ℕ) → (x1 : ℕ) → (x2 : Value N) → (x3 : Value N) → (x4 : Value N) → (x5 : Place N) → Leads tree F many Nothing (perform.react_near K tree x1 x2 x3 x4 x5)
  unfolding perform.react_near
  lead_react_near many act x o y Near = search (leads, refs.reacts) depth 14
  lead_react_near many act x o y _ = search (leads) depth 14

  pub lead_when_resolved : (many : ℕ) → (x1 : ℕ) → (x2 : Value N) → (x3 : Value N) → Leads tree F many Nothing (perform.when_resolved K tree x1 x2 x3)
  unfolding perform.when_resolved
  lead_when_resolved many act x o = search (leads, lead_react_near) depth 14

  pub lead_after_turn : (many : ℕ) → (x1 : Act N (Value N)) → Leads tree F many Nothing x1 → (x2 : Value N) → Leads tree F many Nothing (perform.after_turn K tree x1 x2)
  unfolding perform.after_turn
  lead_after_turn many more h1 (Flag true) = search leads depth 14
  lead_after_turn many more h1 other = search leads depth 14

  pub lead_turns : (many : ℕ) → (x1 : ℕ) → (x2 : Act N (Value N)) → Leads tree F many Nothing x2 → Leads tree F many Nothing (perform.turns K tree x1 x2)
  unfolding perform.turns
  lead_turns many zero body h = lead_stop tree F Fuel may.fuel
  lead_turns many (suc n) body h = let rest = lead_turns many n body h in search (leads, lead_after_turn) depth 14

  pub lead_loop : (many : ℕ) → (x1 : Act N (Value N)) → Leads tree F many Nothing x1 → Leads tree F many Nothing (perform.loop K tree x1)
  unfolding perform.loop
  lead_loop many body h1 = search (leads, lead_turns) depth 14

  pub lead_perform : (many : ℕ) → (x1 : Caller N) → GoodCaller tree F x1 → (x2 : ℕ) → (x3 : Asked N) → Leads tree F many Nothing (perform.perform K tree x1 x2 x3)
  unfolding perform.perform
  lead_perform many again h1 act (MakesList vs) = search (leads, lead_make_list, lead_loop, lead_send_with, lead_call_with, lead_make_promise, lead_when_resolved, lead_native_coerce, lead_reply) depth 14
  lead_perform many again h1 act other = search (leads, lead_make_list, lead_loop, lead_send_with, lead_call_with, lead_make_promise, lead_when_resolved, lead_native_coerce, lead_reply) depth 14

  pub lead_audit : (many : ℕ) → (x1 : Caller N) → GoodCaller tree F x1 → (x2 : ℕ) → (x3 : View N) → IsSeen tree x3 → (x4 : Value N) → (x5 : Place N) → Leads tree F many Nothing (calls.audit K tree x1 x2 x3 x4 x5)
  unfolding calls.audit
  lead_audit many again h1 act view seen a Near = search (leads, lead_audition, lead_leaving) depth 14
  lead_audit many again h1 act view seen a _ = search (leads) depth 14

  pub lead_verdict : (many : ℕ) → (x1 : Caller N) → GoodCaller tree F x1 → (x2 : ℕ) → (x3 : View N) → IsSeen tree x3 → (x4 : Value N) → (x5 : Value N) → Leads tree F many Nothing (calls.verdict K tree x1 x2 x3 x4 x5)
  unfolding calls.verdict
  lead_verdict many again h1 act view seen a (Prim n) = search (leads, lead_audit) depth 14
  lead_verdict many again h1 act view seen a other = search (leads, lead_audit) depth 14

  pub lead_ask_all : (many : ℕ) → (x1 : Caller N) → GoodCaller tree F x1 → (x2 : ℕ) → (x3 : View N) → IsSeen tree x3 → (x4 : List (Value N)) → Leads tree F many Nothing (calls.ask_all K tree x1 x2 x3 x4)
  unfolding calls.ask_all
  lead_ask_all many again h act view seen [] = search leads
  lead_ask_all many again h act view seen (a ∷ as') = let rest = lead_ask_all many again h act view seen as' in search (leads, lead_verdict) depth 14

  pub lead_ejector_answer : (many : ℕ) → (x1 : ℕ) → (x2 : Bool) → (x3 : Option (Value N)) → Leads tree F many Nothing (calls.ejector_answer K tree x1 x2 x3)
  unfolding calls.ejector_answer
  lead_ejector_answer many i live None = search (leads) depth 14
  lead_ejector_answer many i true (Some v) = search (leads) depth 14
  lead_ejector_answer many i false (Some v) = search (leads) depth 14

  pub lead_where_unresolved : (many : ℕ) → (x1 : Standing N) → (x2 : Act N (Unit {0})) → Leads tree F many Nothing x2 → Leads tree F many Nothing (calls.where_unresolved K tree x1 x2)
  unfolding calls.where_unresolved
  lead_where_unresolved many Unsettled m h2 = search (leads) depth 14
  lead_where_unresolved many _ m h2 = search (leads) depth 14

  pub lead_smash : (many : ℕ) → (x1 : N) → (x2 : Value N) → Leads tree F many Nothing (calls.smash K tree x1 x2)
  unfolding calls.smash
  lead_smash many p (Text t) = search (leads, lead_where_unresolved, refs.breaks) depth 14
  lead_smash many p _ = search (leads) depth 14

  pub lead_resolver_answer : (many : ℕ) → (x1 : N) → (x2 : ResolverAsk N) → Leads tree F many Nothing (calls.resolver_answer K tree x1 x2)
  unfolding calls.resolver_answer
  lead_resolver_answer many p (Resolves x) = search (leads, lead_where_unresolved, refs.resolves, lead_smash) depth 14
  lead_resolver_answer many p other = search (leads, lead_where_unresolved, refs.resolves, lead_smash) depth 14
