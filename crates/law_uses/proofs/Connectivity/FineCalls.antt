-- Evaluation, from a connected history, ends in a connected history: calls.
use Rattle.std.proofs.Common.{◌≡◌, ℕ, zero, suc, Bool, true, false, List, [], ◌∷◌, ◌++◌, Option, Some, None, refl, sym, ap, ◌∙◌, subst, length, map, ◌⊎◌, inl, inr}
use Rattle.std.specs.Prelude.{slice_get, codes}
use Rattle.def_machine.specs.Values.{Words, Value, Null, Flag, Number, Letter, Text, Prim, Broken, Items, Ref, Naming, Spot, Own, Foreign, NoObject}
use Rattle.def_machine.specs.State.{Bound, Fixed, Slot, Scope, Binding, Cell, View, Thing, Made, Ejector, Audition, Resolver, Standing, Unsettled, Happened, Called, AuditionMade, Vat, Done, Gives, Throws, Ejects, Stops, Act, ◌>>=◌, ◌>>◌, and_then, ending, give, throw, eject, look, tell, new_thing, new_activation}
use Rattle.def_machine.specs.Refs.{Place, Near, follow, settle, resolve}
use Rattle.def_machine.specs.Form.{Item as Piece, Begin, End, Word, Fact as Fixing, literal_value}
use Rattle.def_machine.specs.Native.{Reply, Says, Writes, Lists as Listed, Iterates, Fails, Guard, Asked, MakesList, Loops, SendsTo, CallsTo, MakesPromise, Tells, Whens, IsStamped, Coerces, NoMethod}
use Rattle.def_machine.specs.Free.{same_words}
use Rattle.def_machine.specs.Scopes as scopes
use Rattle.def_machine.specs.Perform as perform
use Rattle.def_machine.specs.Calls as calls
use Rattle.def_machine.specs.Scopes.{Evaluator, Caller, Body, Case, AuditionAsk, GetsForm, GetsGuard, Asks, NoAuditionAsk, ResolverAsk, Resolves, Smashes, NoResolverAsk}
use Rattle.def_kernel.specs.declared.node.Node.{Node}
use Rattle.law_uses.specs.Connectivity.Known.{AValue, AGuard, itself as at_itself, IsAmong, AllOf, tells, by, values, Runs, called, told, endowed}
use Rattle.law_uses.specs.Connectivity.Connected.{served, unless_begun, open_after, callee, uses, evaluates, asks}
use Rattle.law_uses.specs.Connectivity.Settlings.{resolved, smashed}
use Rattle.law_uses.proofs.Connectivity.Traces.{among_last}
use Rattle.law_uses.specs.Connectivity.Activations.{Rises}
use Rattle.law_uses.specs.Connectivity.News.{own_number, thing_made, slot_made, list_made}
use Rattle.law_uses.proofs.Connectivity.Rising.{rises_line, rises_new, length_end}
use Rattle.law_uses.proofs.Connectivity.Adding.{adds_line}
use Rattle.law_uses.proofs.Connectivity.Ground.{Ground, opens, with_line, opens_last, held, Has, Knew, Judged, Grows, Good, has_up, thing_up, judges_up, judges_told, view_up, judged_up, grows_line, grows_trans, grows_by, grows_same, makes_none, good_block, good_line, good_by}
use Rattle.law_uses.proofs.Connectivity.Fine.{Fact, Nothing, Also, IsAct, IsValue, IsGuard, IsCallee, AreValues, AreLists, IsSlot, IsScope, MayBound, MayCell, WasPut, Leads, IsReply, IsAsked, IsAuditionAsk, MadeEjector, WasHanded, MayHand, WasCalled, IsAt, AskedOf, IsJudging, IsJudged, MayGive, MayThing, answer, nothing, NounKnown, Judging, Holds, Gets, Passes, Ends, Fine, get_or_last, old_thing, ResolverOf, HandedTo, MayAsk, GivenTo, MaySettle, grows_thing, holds_up, still_holds, passes_same, widen, fine_bind, fine_less, fine_ending, fine_more, fine_left, fine_give, fine_throw, fine_eject, fine_stop, fine_look, act_is, is_told}
use Rattle.law_uses.proofs.Connectivity.Looks.{look_cell, got, got_left, got_itself, got_flag, got_text, got_no_lists, got_lists, got_literal, got_asked, got_audition_ask, got_hand, got_may_ask, look_lead, got_may_give, got_item, got_judged, got_callee, got_coercer, look_thing, look_leads, look_coerce, GuardReply, guard_asked_known}
use Rattle.law_uses.proofs.Connectivity.Rules.{fine, bind_flag, bind_resolver, own_promise, fine_send, fine_react, if_same, then_got, called_well, CallEnds, ended_ends, fine_with_lines, nouns_from, fine_send_only, bind_standing, fine_settle, fine_resolve}

-- a call by the activation, whatever is called
abbrev pub GoodCaller : {N W : Type 0} (K : Naming N W) → Ground N W → ℕ → Caller N → Type 0
GoodCaller {N} K E a again = (C : Fact N) (act : ℕ) → Gets K E a C (IsAct act) → (x : Value N) → Gets K E a C (IsValue x) → (verb : Words) (args : List (Value N)) → Gets K E a C (AreValues args) → Fine K E a C (again act x verb args) IsValue

-- a call by the activation on what it knows as a guard, to coerce
abbrev pub GoodCoercer : {N W : Type 0} (K : Naming N W) → Ground N W → ℕ → Caller N → Type 0
GoodCoercer {N} K E a again = (C : Fact N) (act : ℕ) → Gets K E a C (IsAct act) → (g : Value N) → Gets K E a C (IsGuard g) → (x : Value N) → Gets K E a C (IsValue x) → (j : Value N) → Gets K E a C (IsValue j) → Fine K E a C (again act g (codes "coerce") (x ∷ j ∷ [])) IsValue

-- so do the nodes below, whichever activation evaluates them
pub record GoodEvaluator {N W : Type 0} (K : Naming N W) (E : Ground N W) (rec : Evaluator N) : Type 0 where
  pub expression : (a : ℕ) (C : Fact N) (id : ℕ) (here : Scope N) → Gets K E a C (IsScope here) → Fine K E a C (rec.expression id here) answer
  pub pattern : (a : ℕ) (C : Fact N) (id : ℕ) (v : Value N) → Gets K E a C (IsValue v) → (j : Value N) → Gets K E a C (IsValue j) → (here : Scope N) → Gets K E a C (IsScope here) → Fine K E a C (rec.pattern id v j here) IsScope

module _ {N W : Type 0} (K : Naming N W) (E : Ground N W) (spots : (i : ℕ) → K.spot (K.object i) ≡ Own i) (tree : List Node) where
  pub fine_answered : {a : ℕ} {C : Fact N} → (here : Scope N) → Gets K E a C (IsScope here) → (v : Value N) → Gets K E a C (IsValue v) → Fine K E a C (scopes.answered here v) answer
  unfolding scopes.answered
  fine_answered {a = a} {C = C} here g_here v g_v = search (fine) depth 30

  pub fine_read_cell : {a : ℕ} {C : Fact N} → (act : ℕ) → Gets K E a C (IsAct act) → (k : ℕ) → Gets K E a C (IsSlot k) → (o : Option (Cell N)) → Gets K E a C (MayCell k o) → Fine K E a C (scopes.read_cell act k o) IsValue
  unfolding scopes.read_cell
  fine_read_cell {a = a} {C = C} act i k g None h = search (fine) depth 30
  fine_read_cell {a = a} {C = C} act i k g (Some c) h = let p : Gets K E a C (WasPut k c.value) = record { at = λ s b. (h.at s b).1 } in search (fine) depth 30

  pub fine_read_bound : {a : ℕ} {C : Fact N} → (act : ℕ) → Gets K E a C (IsAct act) → (o : Option (Bound N)) → Gets K E a C (MayBound o) → (x : Words) → Fine K E a C (scopes.read_bound act o x) IsValue
  unfolding scopes.read_bound
  fine_read_bound {a = a} {C = C} act i (Some (Fixed v g)) h x = let d : Gets K E a C (IsValue v) = record { at = λ s b. (h.at s b).0 } in search (fine) depth 30
  fine_read_bound {a = a} {C = C} act i (Some (Slot k)) h x = let d : Gets K E a C (IsSlot k) = record { at = λ s b. h.at s b } in fine_bind K E a (MayCell k) (look_cell K E a k d)
      (λ c. fine_read_cell {C = Also C (MayCell k c)} act (got_left K E a C (MayCell k c) (IsAct act) i) k (got_left K E a C (MayCell k c) (IsSlot k) d) c (got K E a C (MayCell k c)))
  fine_read_bound {a = a} {C = C} act i None h x = search (fine) depth 30

  pub fine_fail_by : {a : ℕ} {C : Fact N} {A : Type 0} {H : A → Fact N} → (again : Caller N) → GoodCaller K E a again → (act : ℕ) → Gets K E a C (IsAct act) → (j : Value N) → Gets K E a C (IsValue j) → (p : Words) → (b : Bool) → Fine K E a C (perform.fail_by K tree {A = A} again act j p b) H
  unfolding perform.fail_by
  fine_fail_by {a = a} {C = C} {H = H} again g_again act g_act j g_j p true = search (fine) depth 30
  fine_fail_by {a = a} {C = C} {H = H} again g_again act g_act j g_j p false = search (fine) depth 30

  pub fine_failed : {a : ℕ} {C : Fact N} {A : Type 0} {H : A → Fact N} → (again : Caller N) → GoodCaller K E a again → (act : ℕ) → Gets K E a C (IsAct act) → (j : Value N) → Gets K E a C (IsValue j) → (p : Words) → Fine K E a C (perform.failed K tree {A = A} again act j p) H
  unfolding perform.failed
  fine_failed {a = a} {C = C} {H = H} again g_again act g_act j g_j p = search (fine, fine_fail_by) depth 30

  pub fine_handed : {a : ℕ} {C : Fact N} → (j : Value N) → Gets K E a C (IsValue j) → Fine K E a C (perform.handed K tree j) IsValue
  unfolding perform.handed
  fine_handed {a = a} {C = C} j g_j = search (fine) depth 30

  pub fine_native_coerce : {a : ℕ} {C : Fact N} → (again : Caller N) → GoodCaller K E a again → (act : ℕ) → Gets K E a C (IsAct act) → (g : Guard) → (j : Value N) → Gets K E a C (IsValue j) → (x : Value N) → Gets K E a C (IsValue x) → Fine K E a C (perform.native_coerce K tree again act g j x) IsValue
  unfolding perform.native_coerce
  fine_native_coerce {a = a} {C = C} again g_again act g_act g j g_j x g_x = search (fine, fine_failed) depth 30

  pub fine_coerce_near : {a : ℕ} {C : Fact N} → (again : Caller N) → GoodCoercer K E a again → (act : ℕ) → Gets K E a C (IsAct act) → (g : Value N) → Gets K E a C (IsGuard g) → (j : Value N) → Gets K E a C (IsValue j) → (x : Value N) → Gets K E a C (IsValue x) → (p : Place N) → Fine K E a C (perform.coerce_near K tree again act g j x p) IsValue
  unfolding perform.coerce_near
  fine_coerce_near {a = a} {C = C} again g_again act g_act g g_g j g_j x g_x Near = search (fine, fine_handed) depth 30
  fine_coerce_near {a = a} {C = C} again g_again act g_act g g_g j g_j x g_x _ = search (fine) depth 30

  pub fine_coerce_native : {a : ℕ} {C : Fact N} → (again : Caller N) → GoodCaller K E a again → (act : ℕ) → Gets K E a C (IsAct act) → (o : Option Guard) → (j : Value N) → Gets K E a C (IsValue j) → (x : Value N) → Gets K E a C (IsValue x) → Fine K E a C (perform.coerce_native K tree again act o j x) IsValue
  unfolding perform.coerce_native
  fine_coerce_native {a = a} {C = C} again g_again act g_act (Some g) j g_j x g_x = search (fine, fine_native_coerce) depth 30
  fine_coerce_native {a = a} {C = C} again g_again act g_act None j g_j x g_x = search (fine) depth 30

  pub fine_coerce : {a : ℕ} {C : Fact N} → (again : Caller N) → GoodCaller K E a again → GoodCoercer K E a again → (act : ℕ) → Gets K E a C (IsAct act) → (g : Value N) → Gets K E a C (IsGuard g) → (j : Value N) → Gets K E a C (IsValue j) → (x : Value N) → Gets K E a C (IsValue x) → Fine K E a C (perform.coerce K tree again act g j x) IsValue
  unfolding perform.coerce
  fine_coerce {a = a} {C = C} again g_again h_again act g_act (Prim n) g_g j g_j x g_x = search (fine, fine_coerce_native, fine_coerce_near) depth 30
  fine_coerce {a = a} {C = C} again g_again h_again act g_act other g_g j g_j x g_x = search (fine, fine_coerce_native, fine_coerce_near) depth 30

  pub fine_store : {a : ℕ} {C : Fact N} → (act : ℕ) → Gets K E a C (IsAct act) → (vs : List (Value N)) → Gets K E a C (AreValues vs) → Fine K E a C (perform.store K tree act vs) IsValue
  unfolding perform.store
  fine_store {a = a} {C = C} act g_act vs g_vs = search (fine) depth 30

  pub fine_make_list : {a : ℕ} {C : Fact N} → (act : ℕ) → Gets K E a C (IsAct act) → (vs : List (Value N)) → Gets K E a C (AreValues vs) → Fine K E a C (perform.make_list K tree act vs) IsValue
  unfolding perform.make_list
  fine_make_list {a = a} {C = C} act g_act vs g_vs = search (fine, fine_store) depth 30

  pub fine_spell : {a : ℕ} {C : Fact N} → (t : Words) → Fine K E a C (perform.spell K tree t) IsValue
  unfolding perform.spell
  fine_spell {a = a} {C = C} t = search (fine) depth 30

  pub fine_write_text : {a : ℕ} {C : Fact N} → (t : Words) → Fine K E a C (perform.write_text K tree t) IsValue
  unfolding perform.write_text
  fine_write_text {a = a} {C = C} t = search (fine, fine_spell) depth 30

  pub fine_iterate : {a : ℕ} {C : Fact N} → (again : Caller N) → GoodCaller K E a again → (act : ℕ) → Gets K E a C (IsAct act) → (o : Value N) → Gets K E a C (IsValue o) → (k : ℕ) → (vs : List (Value N)) → Gets K E a C (AreValues vs) → Fine K E a C (perform.iterate K tree again act o k vs) IsValue
  unfolding perform.iterate
  fine_iterate {a = a} {C = C} again g_again act g_act o g_o k [] g_vs = search (fine) depth 30
  fine_iterate {a = a} {C = C} again g_again act g_act o g_o k (v ∷ vs) g_vs = let d0 : Gets K E a C (IsValue v) = record { at = λ s h. (g_vs.at s h).0 } in let d1 : Gets K E a C (AreValues vs) = record { at = λ s h. (g_vs.at s h).1 } in let rest : (D : Fact N) → Gets K E a D (IsAct act) → Gets K E a D (IsValue o) → Gets K E a D (AreValues vs) → Fine K E a D (perform.iterate K tree again act o (suc k) vs) IsValue = λ D i x y. fine_iterate {C = D} again g_again act i o x (suc k) vs y in search (fine) depth 30

  pub fine_reply : {a : ℕ} {C : Fact N} → (again : Caller N) → GoodCaller K E a again → (act : ℕ) → Gets K E a C (IsAct act) → (r : Reply N) → Gets K E a C (IsReply r) → Fine K E a C (perform.reply K tree again act r) IsValue
  unfolding perform.reply
  fine_reply {a = a} {C = C} again g_again act g_act (Says v) g_r = let d : Gets K E a C (IsValue v) = record { at = λ s h. g_r.at s h } in search (fine) depth 30
  fine_reply {a = a} {C = C} again g_again act g_act (Writes t) g_r = search (fine, fine_write_text) depth 30
  fine_reply {a = a} {C = C} again g_again act g_act (Listed vs) g_r = let d : Gets K E a C (AreValues vs) = record { at = λ s h. g_r.at s h } in search (fine, fine_make_list) depth 30
  fine_reply {a = a} {C = C} again g_again act g_act (Iterates o vs) g_r = let d0 : Gets K E a C (IsValue o) = record { at = λ s h. (g_r.at s h).0 } in let d1 : Gets K E a C (AreValues vs) = record { at = λ s h. (g_r.at s h).1 } in search (fine, fine_iterate) depth 30
  fine_reply {a = a} {C = C} again g_again act g_act (Fails p) g_r = search (fine) depth 30

  pub fine_data_answer : {a : ℕ} {C : Fact N} → (again : Caller N) → GoodCaller K E a again → (act : ℕ) → Gets K E a C (IsAct act) → (y : Value N) → Gets K E a C (IsValue y) → (verb : Words) → (args : List (Value N)) → Gets K E a C (AreValues args) → Fine K E a C (perform.data_answer K tree again act y verb args) IsValue
  unfolding perform.data_answer
  fine_data_answer {a = a} {C = C} again g_again act g_act y g_y verb args g_args = search (fine, fine_reply) depth 30

  pub fine_send_by : {a : ℕ} {C : Fact N} → (only : Bool) → (act : ℕ) → Gets K E a C (IsAct act) → (x : Value N) → Gets K E a C (IsValue x) → (verb : Words) → (args : List (Value N)) → Gets K E a C (AreValues args) → Fine K E a C (perform.send_by K tree only act x verb args) IsValue
  unfolding perform.send_by
  fine_send_by {a = a} {C = C} only act g_act x g_x verb args g_args = search (fine, fine_send, fine_send_only) depth 30

  pub fine_send_listed : {a : ℕ} {C : Fact N} → (only : Bool) → (act : ℕ) → Gets K E a C (IsAct act) → (x : Value N) → Gets K E a C (IsValue x) → (verb : Words) → (args : List (Value N)) → Gets K E a C (AreValues args) → Fine K E a C (perform.send_listed K tree only act x verb args) IsValue
  unfolding perform.send_listed
  fine_send_listed {a = a} {C = C} only act g_act x g_x verb args g_args = search (fine, fine_send_by) depth 30

  pub fine_send_with : {a : ℕ} {C : Fact N} → (only : Bool) → (act : ℕ) → Gets K E a C (IsAct act) → (x : Value N) → Gets K E a C (IsValue x) → (v : Value N) → Gets K E a C (IsValue v) → (l : Value N) → Gets K E a C (IsValue l) → Fine K E a C (perform.send_with K tree only act x v l) IsValue
  unfolding perform.send_with
  fine_send_with {a = a} {C = C} only act g_act x g_x (Text verb) g_v (Items k) g_l = search (fine, fine_send_listed) depth 30
  fine_send_with {a = a} {C = C} only act g_act x g_x _ g_v _ g_l = search (fine) depth 30

  pub fine_call_listed : {a : ℕ} {C : Fact N} → (again : Caller N) → GoodCaller K E a again → (act : ℕ) → Gets K E a C (IsAct act) → (x : Value N) → Gets K E a C (IsValue x) → (verb : Words) → (args : List (Value N)) → Gets K E a C (AreValues args) → Fine K E a C (perform.call_listed K tree again act x verb args) IsValue
  unfolding perform.call_listed
  fine_call_listed {a = a} {C = C} again g_again act g_act x g_x verb args g_args = search (fine) depth 30

  pub fine_call_with : {a : ℕ} {C : Fact N} → (again : Caller N) → GoodCaller K E a again → (act : ℕ) → Gets K E a C (IsAct act) → (x : Value N) → Gets K E a C (IsValue x) → (v : Value N) → Gets K E a C (IsValue v) → (l : Value N) → Gets K E a C (IsValue l) → Fine K E a C (perform.call_with K tree again act x v l) IsValue
  unfolding perform.call_with
  fine_call_with {a = a} {C = C} again g_again act g_act x g_x (Text verb) g_v (Items k) g_l = search (fine, fine_call_listed) depth 30
  fine_call_with {a = a} {C = C} again g_again act g_act x g_x _ g_v _ g_l = search (fine) depth 30

  pub fine_make_promise : {a : ℕ} {C : Fact N} → (act : ℕ) → Gets K E a C (IsAct act) → Fine K E a C (perform.make_promise K tree act) IsValue
  unfolding perform.make_promise
  fine_make_promise {a = a} {C = C} act g_act = own_promise K E a (λ p o. bind_resolver K E a spots act p o g_act (λ r. let D : Fact N = Also (IsValue (Ref p)) (IsValue (Ref (K.object r))) in
      fine_make_list {C = Also C D} act (got_left K E a C D (IsAct act) g_act) (Ref p ∷ Ref (K.object r) ∷ []) (record { at = λ s h. (h.1.0, (h.1.1, tt)) })))

  pub fine_react_near : {a : ℕ} {C : Fact N} → (act : ℕ) → Gets K E a C (IsAct act) → (x : Value N) → Gets K E a C (IsValue x) → (o : Value N) → Gets K E a C (IsValue o) → (y : Value N) → Gets K E a C (Leads o y) → (p : Place N) → Fine K E a C (perform.react_near K tree act x o y p) IsValue
  unfolding perform.react_near
  fine_react_near {a = a} {C = C} act g_act x g_x o g_o y g_y Near = search (fine, fine_react) depth 30
  fine_react_near {a = a} {C = C} act g_act x g_x o g_o y g_y _ = search (fine) depth 30

  pub fine_when_resolved : {a : ℕ} {C : Fact N} → (act : ℕ) → Gets K E a C (IsAct act) → (x : Value N) → Gets K E a C (IsValue x) → (o : Value N) → Gets K E a C (IsValue o) → Fine K E a C (perform.when_resolved K tree act x o) IsValue
  unfolding perform.when_resolved
  fine_when_resolved {a = a} {C = C} act g_act x g_x o g_o = fine_bind K E a (Leads o) (look_lead K E a o) (λ y. fine_less K E a nothing (fine_look K E a _) (λ p.
      fine_react_near act (got_left K E a C (Leads o y) (IsAct act) g_act) x (got_left K E a C (Leads o y) (IsValue x) g_x) o (got_left K E a C (Leads o y) (IsValue o) g_o) y (got K E a C (Leads o y)) p))

  pub fine_after_turn : {a : ℕ} {C : Fact N} → (more : Act N (Value N)) → Fine K E a C more IsValue → (v : Value N) → Fine K E a C (perform.after_turn K tree more v) IsValue
  unfolding perform.after_turn
  fine_after_turn {a = a} {C = C} more g_more (Flag true) = search fine depth 30
  fine_after_turn {a = a} {C = C} more g_more other = search fine depth 30

  pub fine_turns : {a : ℕ} {C : Fact N} → (n : ℕ) → (body : Act N (Value N)) → Fine K E a C body IsValue → Fine K E a C (perform.turns K tree n body) IsValue
  unfolding perform.turns
  fine_turns {a = a} {C = C} zero body g_body = search (fine) depth 30
  fine_turns {a = a} {C = C} (suc n) body g_body = let rest : (x y : Value N) → Fine K E a (Also (Also C (IsValue x)) (IsValue y)) (λ s. perform.turns K tree n body s) IsValue = λ x y. fine_left K E a (fine_left K E a (fine_turns {C = C} n body g_body)) in search (fine, fine_after_turn) depth 30

  pub fine_loop : {a : ℕ} {C : Fact N} → (body : Act N (Value N)) → Fine K E a C body IsValue → Fine K E a C (perform.loop K tree body) IsValue
  unfolding perform.loop
  fine_loop {a = a} {C = C} body g_body = search (fine, fine_turns) depth 30

  pub fine_perform : {a : ℕ} {C : Fact N} → (again : Caller N) → GoodCaller K E a again → (act : ℕ) → Gets K E a C (IsAct act) → (q : Asked N) → Gets K E a C (IsAsked q) → Fine K E a C (perform.perform K tree again act q) IsValue
  unfolding perform.perform
  fine_perform {a = a} {C = C} again g_again act g_act (MakesList vs) g_q = let d : Gets K E a C (AreValues vs) = record { at = λ s h. g_q.at s h } in search (fine, fine_make_list) depth 30
  fine_perform {a = a} {C = C} again g_again act g_act (Loops o) g_q = let d : Gets K E a C (IsValue o) = record { at = λ s h. g_q.at s h } in search (fine, fine_loop) depth 30
  fine_perform {a = a} {C = C} again g_again act g_act (SendsTo only x v l) g_q = let d0 : Gets K E a C (IsValue x) = record { at = λ s h. (g_q.at s h).0 } in let d1 : Gets K E a C (IsValue v) = record { at = λ s h. (g_q.at s h).1 } in let d2 : Gets K E a C (IsValue l) = record { at = λ s h. (g_q.at s h).2 } in search (fine, fine_send_with) depth 30
  fine_perform {a = a} {C = C} again g_again act g_act (CallsTo x v l) g_q = let d0 : Gets K E a C (IsValue x) = record { at = λ s h. (g_q.at s h).0 } in let d1 : Gets K E a C (IsValue v) = record { at = λ s h. (g_q.at s h).1 } in let d2 : Gets K E a C (IsValue l) = record { at = λ s h. (g_q.at s h).2 } in search (fine, fine_call_with) depth 30
  fine_perform {a = a} {C = C} again g_again act g_act MakesPromise g_q = search (fine, fine_make_promise) depth 30
  fine_perform {a = a} {C = C} again g_again act g_act (Tells test x) g_q = let d : Gets K E a C (IsValue x) = record { at = λ s h. g_q.at s h } in search (fine, fine_reply) depth 30
  fine_perform {a = a} {C = C} again g_again act g_act (Whens x o) g_q = let d0 : Gets K E a C (IsValue x) = record { at = λ s h. (g_q.at s h).0 } in let d1 : Gets K E a C (IsValue o) = record { at = λ s h. (g_q.at s h).1 } in search (fine, fine_when_resolved) depth 30
  fine_perform {a = a} {C = C} again g_again act g_act (IsStamped b x) g_q = bind_flag K E a (fine_look K E a _) (λ b. fine_give K E a (Flag b) (got_flag K E a C b))
  fine_perform {a = a} {C = C} again g_again act g_act (Coerces g x j) g_q = let d0 : Gets K E a C (IsValue x) = record { at = λ s h. (g_q.at s h).0 } in let d1 : Gets K E a C (IsValue j) = record { at = λ s h. (g_q.at s h).1 } in search (fine, fine_native_coerce) depth 30
  fine_perform {a = a} {C = C} again g_again act g_act NoMethod g_q = search (fine) depth 30
  fine_perform {a = a} {C = C} again g_again act g_act other g_q = search (fine, fine_reply) depth 30

  pub fine_leave : {a : ℕ} {C : Fact N} {A : Type 0} {H : A → Fact N} → (j : ℕ) → (m : Act N A) → Fine K E a C m H → Fine K E a C (calls.leave K tree {A = A} j m) H
  unfolding calls.leave
  fine_leave {a = a} {C = C} {H = H} j m g_m = search (fine) depth 30

  pub fine_leaving : {a : ℕ} {C : Fact N} {A : Type 0} {H : A → Fact N} → (n : ℕ) → (m : Act N A) → Fine K E a C m H → Fine K E a C (calls.leaving K tree {A = A} n m) H
  unfolding calls.leaving
  fine_leaving {a = a} {C = C} {H = H} n m h = fine_ending K E a H h (λ x. fine_leave n (give x) (fine_give K E a x (got K E a C (H x)))) (λ p. fine_leave n (throw p) (fine_throw K E a p)) (λ k v. fine_leave n (eject k v) (fine_eject K E a k v (got K E a C (WasHanded k v))))

  -- a new audition judges what it is made for
  judges_new : (a : ℕ) (s : Vat N) (view : View N) → Judging K E a s view → let t : Vat N = with_line (record s { things = s.things ++ Audition true view ∷ [] }) (AuditionMade a (K.object (length s.things))) in Grows K E s t → Judged K E t (length s.things) view
  judges_new a s view (inl h) g = (a, evaluates (K.object (length s.things)) s.happened [] refl (spots (length s.things)) h.0, view_up K E s _ g a view h.1)
  judges_new a s view (inr h) g = (h.2, asks a h.1 h.0 (K.object (length s.things)) s.happened [] refl (spots (length s.things)) h.3 (thing_up K E s _ g h.0 h.1 h.4) (judges_up K E s _ g h.2 h.1 h.5), view_up K E s _ g h.2 view h.6)

  no_object : (view : View N) (node : ℕ) (caught : List (Binding N)) (stamps : List (Value N)) → Audition true view ≡ Made node caught stamps → ⊥
  no_object view node caught stamps e = cc

  no_resolver : (view : View N) (p : N) → Audition true view ≡ Resolver p → ⊥
  no_resolver view p e = cc

  old_object : (view : View N) (ts : List (Thing N)) (i node : ℕ) (caught : List (Binding N)) (stamps : List (Value N)) → (slice_get ts i ≡ Some (Made node caught stamps)) ⊎ ((i ≡ length ts) × (Audition true view ≡ Made node caught stamps)) → slice_get ts i ≡ Some (Made node caught stamps)
  old_object view ts i node caught stamps (inl e) = e
  old_object view ts i node caught stamps (inr e) = absurd (no_object view node caught stamps e.1)

  audition_is : (x y : View N) → Audition true x ≡ Audition true y → x ≡ y
  audition_is x y e = cc

  new_judged : (a : ℕ) (s : Vat N) (view : View N) → Good K E s → let t : Vat N = with_line (record s { things = s.things ++ Audition true view ∷ [] }) (AuditionMade a (K.object (length s.things))) in Grows K E s t → Judged K E t (length s.things) view
      → (i : ℕ) (w : View N) → (slice_get s.things i ≡ Some (Audition true w)) ⊎ ((i ≡ length s.things) × (Audition true view ≡ Audition true w)) → Judged K E t i w
  new_judged a s view g r j i w (inl e) = judged_up K E s _ r i w (g.judged i w e)
  new_judged a s view g r j i w (inr e) = subst (λ n. Judged K E (with_line (record s { things = s.things ++ Audition true view ∷ [] }) (AuditionMade a (K.object (length s.things)))) n w) (sym e.0) (subst (λ x. Judged K E (with_line (record s { things = s.things ++ Audition true view ∷ [] }) (AuditionMade a (K.object (length s.things)))) (length s.things) x) (audition_is view w e.1) j)

  audition_now : (a : ℕ) {C : Fact N} (view : View N) {B : Type 0} {f : ℕ → Act N B} {H : B → Fact N} → Gets K E a C (IsJudging view) → ((n : ℕ) → Fine K E a (Also C (IsValue (Ref (K.object n)))) (f n) H)
      → Fine K E a C (new_thing (Audition true view) >>= (λ n. tell (AuditionMade a (K.object n)) >> f n)) H
  unfolding new_thing ◌>>=◌ tell ◌>>◌ and_then uses by tells open_after
  audition_now a {C = C} view {f = f} {H = H} i h = record {
    after = λ s g c. let n = length s.things in let e : Happened N = AuditionMade a (K.object n) in let u : Vat N = record s { things = s.things ++ Audition true view ∷ [] } in let t : Vat N = with_line u e in
        let r : Grows K E s t = grows_trans K E s u t (grows_thing K E a s (Audition true view)) (grows_line K E u e) in
        let p : Passes K E a s t = (r, opens_last u e) in
        let good : Good K E t = good_block K E s t e refl (refl, refl, refl, refl, refl, refl) tt r.grown (tt, tt) tt (tt, tt, tt, tt)
        (λ k w q. inr (new_judged a s view g r (judges_new a s view (i.at s c) r) k w (get_or_last s.things (Audition true view) (Audition true w) k q)))
        (λ k p q. inl (old_thing K E a s.things (Audition true view) (Resolver p) k (no_resolver view p) (get_or_last s.things (Audition true view) (Resolver p) k q)))
        (λ k node caught stamps q. inl (old_object view s.things k node caught stamps (get_or_last s.things (Audition true view) (Made node caught stamps) k q)))
        (λ k x q. inl q)
        (λ q. subst (λ m. Rises (length E.things) (map (thing_made K) (s.happened ++ e ∷ [])) m) (sym (length_end s.things (Audition true view))) (rises_new (thing_made K) (length E.things) n s.happened e (ap own_number (spots n)) q))
        (rises_line slot_made (length E.slots) (length s.slots) s.happened e refl) (adds_line list_made E.start.vat.lists s.lists s.happened e refl) g in
        widen K E a H s t (f n t) p ((h n).after t good (still_holds K E a s t p C c, is_told K E a u e (AValue (Ref (K.object n))) (inl refl)));
  }

  audition_begins : (a : ℕ) {C : Fact N} (act : ℕ) (view : View N) {B : Type 0} {f : ℕ → Act N B} {H : B → Fact N} → Gets K E a C (IsAct act) → Gets K E a C (IsJudging view) → ((n : ℕ) → Fine K E a (Also C (IsValue (Ref (K.object n)))) (f n) H)
      → Fine K E a C (new_thing (Audition true view) >>= (λ n. tell (AuditionMade act (K.object n)) >> f n)) H
  audition_begins a act view {f = f} i j h = act_is K E a act (λ b. new_thing (Audition true view) >>= (λ n. tell (AuditionMade b (K.object n)) >> f n)) i (audition_now a view j h)

  pub fine_audit : {a : ℕ} {C : Fact N} → (again : Caller N) → GoodCaller K E a again → (act : ℕ) → Gets K E a C (IsAct act) → (view : View N) → Gets K E a C (IsJudging view) → (x : Value N) → Gets K E a C (IsValue x) → (p : Place N) → Fine K E a C (calls.audit K tree again act view x p) nothing
  unfolding calls.audit
  fine_audit {a = a} {C = C} again g_again act g_act view g_view x g_x Near = audition_begins a act view g_act g_view (λ n. fine_bind K E a IsValue (fine_leaving n _ (g_again (Also C (IsValue (Ref (K.object n)))) act (got_left K E a C (IsValue (Ref (K.object n))) (IsAct act) g_act) x (got_left K E a C (IsValue (Ref (K.object n))) (IsValue x) g_x) _ (Ref (K.object n) ∷ []) (record { at = λ s h. (h.1, tt) }))) (λ v. fine_look K E a _))
  fine_audit {a = a} {C = C} again g_again act g_act view g_view x g_x _ = search (fine) depth 30

  pub fine_verdict : {a : ℕ} {C : Fact N} → (again : Caller N) → GoodCaller K E a again → (act : ℕ) → Gets K E a C (IsAct act) → (view : View N) → Gets K E a C (IsJudging view) → (x : Value N) → Gets K E a C (IsValue x) → (y : Value N) → Fine K E a C (calls.verdict K tree again act view x y) nothing
  unfolding calls.verdict
  fine_verdict {a = a} {C = C} again g_again act g_act view g_view x g_x (Prim n) = search (fine, fine_audit) depth 30
  fine_verdict {a = a} {C = C} again g_again act g_act view g_view x g_x other = search (fine, fine_audit) depth 30

  pub fine_ask_all : {a : ℕ} {C : Fact N} → (again : Caller N) → GoodCaller K E a again → (act : ℕ) → Gets K E a C (IsAct act) → (view : View N) → Gets K E a C (IsJudging view) → (xs : List (Value N)) → Gets K E a C (AreValues xs) → Fine K E a C (calls.ask_all K tree again act view xs) AreValues
  unfolding calls.ask_all
  fine_ask_all {a = a} {C = C} again g_again act g_act view g_view [] g_xs = search (fine) depth 30
  fine_ask_all {a = a} {C = C} again g_again act g_act view g_view (x ∷ xs) g_xs = let d0 : Gets K E a C (IsValue x) = record { at = λ s h. (g_xs.at s h).0 } in let d1 : Gets K E a C (AreValues xs) = record { at = λ s h. (g_xs.at s h).1 } in let rest : (D : Fact N) → Gets K E a D (IsAct act) → Gets K E a D (IsJudging view) → Gets K E a D (AreValues xs) → Fine K E a D (calls.ask_all K tree again act view xs) AreValues = λ D i j k. fine_ask_all {C = D} again g_again act i view j xs k in search (fine, fine_verdict) depth 30

  pub fine_build : {a : ℕ} {C : Fact N} → (act : ℕ) → Gets K E a C (IsAct act) → (is : List Piece) → (fs : List (List (Value N))) → Gets K E a C (AreLists fs) → Fine K E a C (calls.build K tree act is fs) IsValue
  unfolding calls.build
  fine_build {a = a} {C = C} act g_act (Begin ∷ is) fs g_fs = fine_build {C = C} act g_act is ([] ∷ fs) (got_lists K E a C fs g_fs)
  fine_build {a = a} {C = C} act g_act (Word w ∷ is) fs g_fs = fine_build {C = C} act g_act is (calls.with_item K tree (Text w) fs) (got_item K E a tree C (Text w) fs (got_text K E a C w) g_fs)
  fine_build {a = a} {C = C} act g_act (Fixing l ∷ is) fs g_fs = fine_build {C = C} act g_act is (calls.with_item K tree (literal_value l) fs) (got_item K E a tree C (literal_value l) fs (got_literal K E a C l) g_fs)
  fine_build {a = a} {C = C} act g_act (End ∷ []) (f ∷ fs) g_fs = fine_make_list act g_act f (record { at = λ s h. (g_fs.at s h).0 })
  fine_build {a = a} {C = C} act g_act (End ∷ i ∷ is) (f ∷ fs) g_fs = fine_bind K E a IsValue (fine_make_list act g_act f (record { at = λ s h. (g_fs.at s h).0 })) (λ v. fine_build {C = Also C (IsValue v)} act (got_left K E a C (IsValue v) (IsAct act) g_act) (i ∷ is) (calls.with_item K tree v fs) (got_item K E a tree (Also C (IsValue v)) v fs (got K E a C (IsValue v)) (record { at = λ s h. (g_fs.at s h.0).1 })))
  fine_build {a = a} {C = C} act g_act _ _ g_fs = fine_stop K E a _

  guard_ends : (a : ℕ) (again : Caller N) (act : ℕ) (x : Value N) (verb : Words) (s : Vat N) (r : Reply N) → Good K E s → GuardReply K E a tree (λ v. Holds K E a s (MayGive x verb v)) r → Ends K E a (MayGive x verb) s (perform.reply K tree again act r s)
  unfolding perform.reply give throw
  guard_ends a again act x verb s (Says v) g h = (passes_same K E a s, g, h)
  guard_ends a again act x verb s (Fails p) g h = (passes_same K E a s, g)
  guard_ends a again act x verb s other g h = absurd h

  reply_map : (a : ℕ) (P Q : Value N → Type 0) → ((v : Value N) → P v → Q v) → (r : Reply N) → GuardReply K E a tree P r → GuardReply K E a tree Q r
  reply_map a P Q f (Says v) h = f v h
  reply_map a P Q f (Fails p) h = tt
  reply_map a P Q f other h = absurd h

  -- the guard that an audition tells is known as a guard to who evaluates what it judges
  guard_given : {a : ℕ} {C : Fact N} (again : Caller N) (act : ℕ) (view : View N) (x : Value N) (verb : Words) (y : Value N) (i : ℕ) → ((s : Vat N) → Holds K E a s C → same_words (codes "getGuard") verb ≡ true) → Gets K E a C (AskedOf x verb i) → Gets K E a C (IsJudged i view)
      → Fine K E a C (look (λ s. scopes.guard_asked view.free (follow K s y)) >>= (λ r. perform.reply K tree again act r)) (MayGive x verb)
  unfolding ◌>>=◌ look and_then
  guard_given {a = a} again act view x verb y i q g j = record {
    after = λ s h c. let t = g.at s c in let d = j.at s c in
        guard_ends a again act x verb s (scopes.guard_asked view.free (follow K s y)) h (reply_map a (λ v. Has K E s d.0 (AGuard v)) (λ v. Holds K E a s (MayGive x verb v)) (λ v k. inr (q s c, d.0, i, t, d.1, k)) (scopes.guard_asked view.free (follow K s y)) (guard_asked_known K E a tree s d.0 view.free (follow K s y) d.2));
  }

  given_of : {a : ℕ} {C : Fact N} {m : Act N (Value N)} (x : Value N) (verb : Words) → Fine K E a C m IsValue → Fine K E a C m (MayGive x verb)
  given_of {a = a} x verb h = fine_more K E a IsValue (MayGive x verb) h (λ v. got_may_give K E a (IsValue v) x verb v (got_itself K E a (IsValue v)))

  -- an audition that is called
  audition_live : {a : ℕ} {C : Fact N} (again : Caller N) → GoodCaller K E a again → (act : ℕ) → Gets K E a C (IsAct act) → (view : View N) (verb : Words) (q : AuditionAsk N) → Gets K E a C (IsAuditionAsk verb q)
      → (x : Value N) (args : List (Value N)) (i : ℕ) → Gets K E a C (WasCalled x verb args) → Gets K E a C (AskedOf x verb i) → Gets K E a C (IsAt x i) → Gets K E a C (IsJudged i view) → Fine K E a C (calls.audition_live K tree again act view q) (MayGive x verb)
  unfolding calls.audition_live
  audition_live {a = a} {C = C} again g act k view verb GetsForm h x args i c u t j = given_of x verb (fine_build act k _ [] (got_no_lists K E a C))
  audition_live {a = a} {C = C} again g act k view verb (GetsGuard y) h x args i c u t j = guard_given again act view x verb y i (λ s b. h.at s b) u j
  audition_live {a = a} {C = C} again g act k view verb (Asks y) h x args i c u t j = let d : Gets K E a C (IsValue y) = record { at = λ s b. h.at s b } in let w : Gets K E a C (IsJudging view) = got_judged K E a tree C view x verb args i c t j in given_of x verb (search (fine, fine_verdict) depth 30)
  audition_live {a = a} {C = C} again g act k view verb NoAuditionAsk h x args i c u t j = fine_throw K E a _

  audition_called : {a : ℕ} {C : Fact N} (again : Caller N) → GoodCaller K E a again → (act : ℕ) → Gets K E a C (IsAct act) → (view : View N) (verb : Words) (q : AuditionAsk N) → Gets K E a C (IsAuditionAsk verb q)
      → (x : Value N) (args : List (Value N)) (i : ℕ) → Gets K E a C (WasCalled x verb args) → Gets K E a C (AskedOf x verb i) → Gets K E a C (IsAt x i) → Gets K E a C (IsJudged i view) → Fine K E a C (calls.audition_answer K tree again act true view q) (MayGive x verb)
  unfolding calls.audition_answer
  audition_called {a = a} again g act k view verb GetsForm h x args i c u t j = audition_live again g act k view verb GetsForm h x args i c u t j
  audition_called {a = a} again g act k view verb (GetsGuard y) h x args i c u t j = audition_live again g act k view verb (GetsGuard y) h x args i c u t j
  audition_called {a = a} again g act k view verb (Asks y) h x args i c u t j = audition_live again g act k view verb (Asks y) h x args i c u t j
  audition_called {a = a} again g act k view verb NoAuditionAsk h x args i c u t j = fine_throw K E a _

  pub audition_dead : {a : ℕ} {C : Fact N} {H : Value N → Fact N} (again : Caller N) (act : ℕ) (view : View N) (q : AuditionAsk N) → Fine K E a C (calls.audition_answer K tree again act false view q) H
  unfolding calls.audition_answer
  audition_dead {a = a} again act view GetsForm = fine_throw K E a _
  audition_dead {a = a} again act view other = fine_throw K E a _

  ejector_called : {a : ℕ} {C : Fact N} {H : Value N → Fact N} (i : ℕ) (live : Bool) (o : Option (Value N)) → Gets K E a C (MayHand i o) → Fine K E a C (calls.ejector_answer K tree i live o) H
  unfolding calls.ejector_answer
  ejector_called {a = a} i live None g = fine_throw K E a _
  ejector_called {a = a} i true (Some v) g = fine_eject K E a i v (record { at = λ s h. g.at s h })
  ejector_called {a = a} i false (Some v) g = fine_throw K E a _

  pub ejector_dead : {a : ℕ} {C : Fact N} {H : Value N → Fact N} (i : ℕ) (o : Option (Value N)) → Fine K E a C (calls.ejector_answer K tree i false o) H
  unfolding calls.ejector_answer
  ejector_dead {a = a} i None = fine_throw K E a _
  ejector_dead {a = a} i (Some v) = fine_throw K E a _

  pub fine_where_unresolved : {a : ℕ} {C : Fact N} → (w : Standing N) → (m : Act N (Unit {0})) → Fine K E a C m nothing → Fine K E a C (calls.where_unresolved K tree w m) IsValue
  unfolding calls.where_unresolved
  fine_where_unresolved {a = a} {C = C} Unsettled m g_m = search (fine) depth 30
  fine_where_unresolved {a = a} {C = C} _ m g_m = search (fine) depth 30

  -- the text of a problem, to which the argument leads
  pub fine_smash : {a : ℕ} {C : Fact N} → (i : ℕ) (p : N) → Gets K E a C (ResolverOf i p) → (x : Value N) → Gets K E a C (HandedTo i (codes "smash") x) → (v : Value N) → Gets K E a C (Leads x v) → Fine K E a C (calls.smash K tree p v) IsValue
  unfolding calls.smash
  fine_smash {a = a} {C = C} i p r x h (Text t) l = let d : Gets K E a C (MaySettle p (Broken t)) = record { at = λ s c. inl (Broken t, smashed i x (r.at s c) (h.at s c) (l.at s c), inl (inl at_itself)) } in
      bind_standing K E a (fine_look K E a _) (λ w. fine_where_unresolved w (settle K p (Broken t)) (fine_settle K E a p (Broken t) d))
  fine_smash {a = a} {C = C} i p r x h _ l = search (fine) depth 30

  pub fine_resolver_answer : {a : ℕ} {C : Fact N} → (i : ℕ) (p : N) → Gets K E a C (ResolverOf i p) → (q : ResolverAsk N) → Gets K E a C (MayAsk i q) → Fine K E a C (calls.resolver_answer K tree p q) IsValue
  unfolding calls.resolver_answer
  fine_resolver_answer {a = a} {C = C} i p r (Resolves x) h = let d : Gets K E a C (GivenTo p x) = record { at = λ s c. resolved i (r.at s c) (h.at s c) } in
      bind_standing K E a (fine_look K E a _) (λ w. fine_where_unresolved w (resolve K p x) (fine_resolve K E a p x d))
  fine_resolver_answer {a = a} {C = C} i p r (Smashes x) h = fine_bind K E a (Leads x) (look_lead K E a x)
      (λ y. fine_smash i p (got_left K E a C (Leads x y) (ResolverOf i p) r) x (record { at = λ s c. h.at s c.0 }) y (got K E a C (Leads x y)))
  fine_resolver_answer {a = a} {C = C} i p r NoResolverAsk h = fine_throw K E a _

  pub fine_bind_all : {a : ℕ} {C : Fact N} → (rec : Evaluator N) → GoodEvaluator K E rec → (ps : List ℕ) → (vs : List (Value N)) → Gets K E a C (AreValues vs) → (j : Value N) → Gets K E a C (IsValue j) → (here : Scope N) → Gets K E a C (IsScope here) → Fine K E a C (calls.bind_all K tree rec ps vs j here) IsScope
  unfolding calls.bind_all
  fine_bind_all {a = a} {C = C} rec g_rec [] vs g_vs j g_j here g_here = search (fine) depth 30
  fine_bind_all {a = a} {C = C} rec g_rec (p ∷ ps) [] g_vs j g_j here g_here = search (fine) depth 30
  fine_bind_all {a = a} {C = C} rec g_rec (p ∷ ps) (v ∷ vs) g_vs j g_j here g_here = let d0 : Gets K E a C (IsValue v) = record { at = λ s h. (g_vs.at s h).0 } in let d1 : Gets K E a C (AreValues vs) = record { at = λ s h. (g_vs.at s h).1 } in let rest : (D : Fact N) (next : Scope N) → Gets K E a D (AreValues vs) → Gets K E a D (IsValue j) → Gets K E a D (IsScope next) → Fine K E a D (calls.bind_all K tree rec ps vs j next) IsScope = λ D next x y z. fine_bind_all {C = D} rec g_rec ps vs x j y next z in search (fine, g_rec.pattern) depth 30

  handed_over : {a : ℕ} {C : Fact N} (act : ℕ) → Gets K E a C (IsAct act) → (j : ℕ) → Gets K E a C (MadeEjector j) → (next : Act N (Value N)) → Fine K E a C next IsValue → (n : ℕ) (v : Value N) → Gets K E a C (WasHanded n v) → Fine K E a C (calls.hand_over K tree act j next n v) IsValue
  unfolding calls.hand_over
  handed_over {a = a} {C = C} act i j g next h n v w = if_same K E a n j (λ e. then_got K E a spots act j n v i e g w (fine_left K E a h)) (fine_eject K E a n v w)

  pub fine_matched : {a : ℕ} {C : Fact N} (rec : Evaluator N) → GoodEvaluator K E rec → (act : ℕ) → Gets K E a C (IsAct act) → (j : ℕ) → Gets K E a C (MadeEjector j) → (body : ℕ) → (next : Act N (Value N)) → Fine K E a C next IsValue → (m : Act N (Scope N)) → Fine K E a C m IsScope → Fine K E a C (calls.matched K tree rec act j body next m) IsValue
  unfolding calls.matched
  fine_matched {a = a} {C = C} rec good act i j g body next h m f = let later : (n : ℕ) (v : Value N) → Fine K E a (Also C (WasHanded n v)) (calls.hand_over K tree act j next n v) IsValue = λ n v. handed_over {C = Also C (WasHanded n v)} act (got_left K E a C (WasHanded n v) (IsAct act) i) j (got_left K E a C (WasHanded n v) (MadeEjector j) g) next (fine_left K E a h) n v (got K E a C (WasHanded n v)) in search (fine, fine_leave, good.expression) depth 30

  pub fine_match_all : {a : ℕ} {C : Fact N} → (rec : Evaluator N) → GoodEvaluator K E rec → (ms : List Case) → (v : Value N) → Gets K E a C (IsValue v) → (here : Scope N) → Gets K E a C (IsScope here) → Fine K E a C (calls.match_all K tree rec ms v here) IsValue
  unfolding calls.match_all
  fine_match_all {a = a} {C = C} rec g_rec [] v g_v here g_here = search (fine) depth 30
  fine_match_all {a = a} {C = C} rec g_rec (m ∷ ms) v g_v here g_here = let rest : (j : ℕ) → Fine K E a (Also C (Also (IsValue (Ref (K.object j))) (MadeEjector j))) (λ s. calls.match_all K tree rec ms v here s) IsValue = λ j. fine_left K E a (fine_match_all {C = C} rec g_rec ms v g_v here g_here) in search (fine, fine_matched, g_rec.pattern) depth 30

  pub fine_try_matchers : {a : ℕ} {C : Fact N} → (rec : Evaluator N) → GoodEvaluator K E rec → (ms : List Case) → (verb : Words) → (args : List (Value N)) → Gets K E a C (AreValues args) → (here : Scope N) → Gets K E a C (IsScope here) → Fine K E a C (calls.try_matchers K tree rec ms verb args here) IsValue
  unfolding calls.try_matchers
  fine_try_matchers {a = a} {C = C} rec g_rec [] verb args g_args here g_here = search (fine) depth 30
  fine_try_matchers {a = a} {C = C} rec g_rec (m ∷ ms) verb args g_args here g_here = search (fine, fine_make_list, fine_match_all) depth 30

  pub fine_run_body : {a : ℕ} {C : Fact N} → (rec : Evaluator N) → GoodEvaluator K E rec → (ms : List Case) → (verb : Words) → (b : Option Body) → (args : List (Value N)) → Gets K E a C (AreValues args) → (here : Scope N) → Gets K E a C (IsScope here) → Fine K E a C (calls.run_body K tree rec ms verb b args here) IsValue
  unfolding calls.run_body
  fine_run_body {a = a} {C = C} rec g_rec ms verb (Some b) args g_args here g_here = search (fine, fine_bind_all, g_rec.expression) depth 30
  fine_run_body {a = a} {C = C} rec g_rec ms verb None args g_args here g_here = search (fine, fine_try_matchers) depth 30

  pub fine_run_object : {a : ℕ} {C : Fact N} → (rec : Evaluator N) → GoodEvaluator K E rec → (ms : List ℕ) → (verb : Words) → (args : List (Value N)) → Gets K E a C (AreValues args) → (here : Scope N) → Gets K E a C (IsScope here) → Fine K E a C (calls.run_object K tree rec ms verb args here) IsValue
  unfolding calls.run_object
  fine_run_object {a = a} {C = C} rec g_rec ms verb args g_args here g_here = search (fine, fine_run_body) depth 30

  -- what held of a thing before it was called
  abbrev asked_of : Value N → Words → ℕ → Thing N → Fact N
  asked_of x verb i (Audition true view) = AskedOf x verb i
  asked_of x verb i other = Nothing

  asked_now : (a : ℕ) (s : Vat N) (x : Value N) (verb : Words) (args : List (Value N)) (i : ℕ) (t : Thing N) → Holds K E a s (MayThing i (Some t)) → Holds K E a s (IsAt x i) → Holds K E a (with_line s (Called a x verb args None)) (asked_of x verb i t)
  unfolding open_after
  asked_now a s x verb args i (Audition true view) j p = let m = judges_told K (held K E s) s.happened j.0 i j.1 in (args, s.happened, [], refl, opens_last s (Called a x verb args None), p, m.0, m.1, m.2, m.3)
  asked_now a s x verb args i other j p = tt

  -- what an ejector, an audition or a resolver answers to a call
  thing_called : {a : ℕ} {C : Fact N} (again : Caller N) → GoodCaller K E a again → (act : ℕ) → Gets K E a C (IsAct act) → (i : ℕ) (t : Thing N) → Gets K E a C (MayThing i (Some t)) → (x : Value N) (verb : Words) (args : List (Value N)) → Gets K E a C (AreValues args)
      → Gets K E a C (WasCalled x verb args) → Gets K E a C (asked_of x verb i t) → Gets K E a C (IsAt x i) → Fine K E a C (calls.thing_answer K tree again act i t verb args) (MayGive x verb)
  unfolding calls.thing_answer
  thing_called {a = a} {C = C} again good act k i (Ejector live) g x verb args h c u p = ejector_called i live _ (got_hand K E a C i x verb args c p)
  thing_called {a = a} {C = C} again good act k i (Audition true view) g x verb args h c u p = audition_called again good act k view verb _ (got_audition_ask K E a C verb args h) x args i c (record { at = λ s b. u.at s b }) p (record { at = λ s b. g.at s b })
  thing_called {a = a} {C = C} again good act k i (Audition false view) g x verb args h c u p = audition_dead again act view _
  thing_called {a = a} {C = C} again good act k i (Resolver q) g x verb args h c u p = given_of x verb (fine_resolver_answer i q (record { at = λ s b. g.at s b }) _ (got_may_ask K E a C i x verb args c p))
  thing_called {a = a} {C = C} again good act k i (Made node caught stamps) g x verb args h c u p = fine_stop K E a _

  lines_thing : {a : ℕ} {C : Fact N} (again : Caller N) → GoodCaller K E a again → (act : ℕ) → Gets K E a C (IsAct act) → (x : Value N) (i : ℕ) (t : Thing N) → Gets K E a C (MayThing i (Some t)) → (verb : Words) (args : List (Value N)) → Gets K E a C (IsCallee x verb args) → Gets K E a C (AreValues args)
      → Gets K E a C (IsAt x i) → Fine K E a C (scopes.with_lines act x verb args (calls.thing_answer K tree again act i t verb args)) IsValue
  lines_thing {a = a} {C = C} again good act k x i t g verb args v h p = fine_with_lines K E a (Also (Also (IsAct act) (MayThing i (Some t))) (Also (AreValues args) (IsAt x i))) (asked_of x verb i t) act x verb args (calls.thing_answer K tree again act i t verb args) (λ s u. ((tt, tt), (tt, tt))) (record { at = λ s b. ((k.at s b, g.at s b), (h.at s b, p.at s b)) })
      (λ s b. asked_now a s x verb args i t (g.at s b) (p.at s b)) k v h
      (thing_called again good act (record { at = λ s b. b.0.0.0.0 }) i t (record { at = λ s b. b.0.0.0.1 }) x verb args (record { at = λ s b. b.0.0.1.0 }) (record { at = λ s b. b.1 }) (record { at = λ s b. b.0.1 }) (record { at = λ s b. b.0.0.1.1 }))

  lines_data : {a : ℕ} {C : Fact N} (again : Caller N) → GoodCaller K E a again → (act : ℕ) → Gets K E a C (IsAct act) → (x : Value N) → Gets K E a C (IsValue x) → (y : Value N) → Gets K E a C (IsValue y) → (verb : Words) (args : List (Value N)) → Gets K E a C (AreValues args)
      → Fine K E a C (scopes.with_lines act x verb args (perform.data_answer K tree again act y verb args)) IsValue
  lines_data {a = a} {C = C} again good act k x v y g verb args h = fine_with_lines K E a (Also (Also (IsAct act) (IsValue y)) (AreValues args)) Nothing act x verb args (perform.data_answer K tree again act y verb args) (λ s u. ((tt, tt), tt)) (record { at = λ s b. ((k.at s b, g.at s b), h.at s b) }) (λ s b. tt) k (got_callee K E a C x verb args v) h
      (given_of x verb (fine_data_answer again good act (record { at = λ s b. b.0.0.0.0 }) y (record { at = λ s b. b.0.0.0.1 }) verb args (record { at = λ s b. b.0.0.1 })))

  -- from what the new activation did since the call began
  run_ends : (a b : ℕ) (s t : Vat N) (x : Value N) (verb : Words) (d : Done N (Value N)) → Grows K E s t → opens t ≡ record { caller = a; receiver = x; verb = verb; begun = Some b } ∷ opens s → Ends K E b IsValue t d → CallEnds K E a s x verb (Some b) d
  run_ends a b s t x verb (Gives v u) g e h = ((grows_trans K E s t u g h.0.0, h.0.1 ∙ e), h.1, h.2)
  run_ends a b s t x verb (Throws p u) g e h = ((grows_trans K E s t u g h.0.0, h.0.1 ∙ e), h.1)
  run_ends a b s t x verb (Ejects n v u) g e h = ((grows_trans K E s t u g h.0.0, h.0.1 ∙ e), h.1, h.2)
  run_ends a b s t x verb (Stops c u) g e h = h

  each_told : (t : Vat N) (b : ℕ) (vs : List (Value N)) → ((v : Value N) → IsAmong v vs → Knew K E t b v) → AllOf (Knew K E t b) vs
  each_told t b [] f = tt
  each_told t b (v ∷ vs) f = (f v (inl refl), each_told t b vs (λ w m. f w (inr m)))

  by_values : (b : ℕ) (vs : List (Value N)) (v : Value N) → IsAmong v vs → IsAmong (b, AValue v) (by b (values vs))
  unfolding by values
  by_values b [] v m = absurd m
  by_values b (w ∷ vs) v (inl e) = inl (ap (λ (u : Value N). (b, AValue u)) e)
  by_values b (w ∷ vs) v (inr m) = inr (by_values b vs v m)

  args_told : (s : Vat N) (act b : ℕ) (x : Value N) (verb : Words) (args : List (Value N)) → AllOf (Knew K E (with_line s (Called act x verb args (Some b))) b) args
  unfolding tells
  args_told s act b x verb args = each_told (with_line s (Called act x verb args (Some b))) b args (λ v m. told (Called act x verb args (Some b)) (among_last s.happened (Called act x verb args (Some b))) (by_values b args v m))

  object_now : (a : ℕ) {C : Fact N} (rec : Evaluator N) → GoodEvaluator K E rec → (x : Value N) (i node : ℕ) (caught : List (Binding N)) (stamps : List (Value N)) → Gets K E a C (MayThing i (Some (Made node caught stamps))) → (ms : List ℕ) (verb : Words) (args : List (Value N)) → Gets K E a C (IsCallee x verb args) → Gets K E a C (AreValues args) → Gets K E a C (IsAt x i)
      → Fine K E a C (new_activation >>= (λ b. tell (Called a x verb args (Some b)) >> scopes.ended a (calls.run_object K tree rec ms verb args (record { act = b; nouns = caught })))) IsValue
  unfolding new_activation ◌>>=◌ tell ◌>>◌ and_then scopes.ended ending served unless_begun open_after
  object_now a {C = C} rec good x i node caught stamps g ms verb args v h p = record {
    after = λ s q c. let b = s.activations in let r : Vat N = record s { activations = suc b } in let e : Happened N = Called a x verb args (Some b) in let t : Vat N = with_line r e in
        let z : Grows K E s r = grows_by K E s r refl (grows_same K E s).grown in
        let w : Grows K E s t = grows_trans K E s r t z (grows_line K E r e) in
        let o : opens t ≡ record { caller = a; receiver = x; verb = verb; begun = Some b } ∷ opens s = opens_last r e in
        let here : Scope N = record { act = b; nouns = caught } in
        let good_r : Good K E r = good_by K E s r refl (refl, refl, refl, refl, refl, refl) (grows_same K E s).grown (makes_none K E s r refl refl) refl q in
        let good_t : Good K E t = good_line K E r e refl refl refl tt good_r (called_well K E a r x verb args (Some b) (has_up K E s r z a (callee x verb args) (v.at s c)) (holds_up K E a s r z (AreValues args) tt (h.at s c))) tt tt (i, node, caught, stamps, p.at s c, g.at s c) in
        let runs : Runs K (held K E t) t.happened b i = called a x verb args (among_last r.happened e) (thing_up K E s t w x i (p.at s c)) in
        let nouns : AllOf (NounKnown K E b t) caught = nouns_from K E b t caught (λ k m. endowed i node caught stamps runs (g.at s c) m) in
        let body : Act N (Value N) = calls.run_object K tree rec ms verb args here in
        let f : Fine K E b (Also (IsScope here) (AreValues args)) body IsValue = fine_run_object rec good ms verb args (record { at = λ s h. h.1 }) here (record { at = λ s h. h.0 }) in
        ended_ends K E a s x verb (Some b) (body t) (run_ends a b s t x verb (body t) w o (f.after t good_t ((refl, nouns, ap served o), args_told r a b x verb args)));
  }

  object_called : {a : ℕ} {C : Fact N} (rec : Evaluator N) → GoodEvaluator K E rec → (act : ℕ) → Gets K E a C (IsAct act) → (x : Value N) (i node : ℕ) (caught : List (Binding N)) (stamps : List (Value N)) → Gets K E a C (MayThing i (Some (Made node caught stamps))) → (ms : List ℕ) (verb : Words) (args : List (Value N)) → Gets K E a C (IsCallee x verb args) → Gets K E a C (AreValues args) → Gets K E a C (IsAt x i)
      → Fine K E a C (new_activation >>= (λ b. tell (Called act x verb args (Some b)) >> scopes.ended act (calls.run_object K tree rec ms verb args (record { act = b; nouns = caught })))) IsValue
  object_called {a = a} rec good act k x i node caught stamps g ms verb args v h p = act_is K E a act (λ c. new_activation >>= (λ b. tell (Called c x verb args (Some b)) >> scopes.ended c (calls.run_object K tree rec ms verb args (record { act = b; nouns = caught })))) k (object_now a rec good x i node caught stamps g ms verb args v h p)

  fine_call_thing : {a : ℕ} {C : Fact N} (rec : Evaluator N) → GoodEvaluator K E rec → (again : Caller N) → GoodCaller K E a again → (act : ℕ) → Gets K E a C (IsAct act) → (x : Value N) (i : ℕ) (o : Option (Thing N)) → Gets K E a C (MayThing i o) → (verb : Words) (args : List (Value N)) → Gets K E a C (IsCallee x verb args) → Gets K E a C (AreValues args) → Gets K E a C (IsAt x i)
      → Fine K E a C (calls.call_thing K tree rec again act x i o verb args) IsValue
  unfolding calls.call_thing
  fine_call_thing {a = a} rec good again fair act k x i None g verb args v h p = fine_stop K E a _
  fine_call_thing {a = a} rec good again fair act k x i (Some (Made node caught stamps)) g verb args v h p = object_called rec good act k x i node caught stamps g _ verb args v h p
  fine_call_thing {a = a} rec good again fair act k x i (Some (Ejector live)) g verb args v h p = lines_thing again fair act k x i (Ejector live) g verb args v h p
  fine_call_thing {a = a} rec good again fair act k x i (Some (Audition live view)) g verb args v h p = lines_thing again fair act k x i (Audition live view) g verb args v h p
  fine_call_thing {a = a} rec good again fair act k x i (Some (Resolver q)) g verb args v h p = lines_thing again fair act k x i (Resolver q) g verb args v h p

  fine_call_spot : {a : ℕ} {C : Fact N} (rec : Evaluator N) → GoodEvaluator K E rec → (again : Caller N) → GoodCaller K E a again → (act : ℕ) → Gets K E a C (IsAct act) → (x : Value N) (n : N) → Gets K E a C (Leads x (Ref n)) → (spot : Spot) → K.spot n ≡ spot → (verb : Words) (args : List (Value N)) → Gets K E a C (IsCallee x verb args) → Gets K E a C (AreValues args)
      → Fine K E a C (calls.call_spot K tree rec again act x spot verb args) IsValue
  unfolding calls.call_spot
  fine_call_spot {a = a} {C = C} rec good again fair act k x n l (Own i) e verb args v h = fine_bind K E a (MayThing i) (look_thing K E a i)
      (λ o. let D : Fact N = Also C (MayThing i o) in fine_call_thing {C = D} rec good again (λ F b j y f w ys u. fair F b j y f w ys u) act (got_left K E a C (MayThing i o) (IsAct act) k) x i o (got K E a C (MayThing i o)) verb args (got_left K E a C (MayThing i o) (IsCallee x verb args) v) (got_left K E a C (MayThing i o) (AreValues args) h) (record { at = λ s b. at_spot s (l.at s b.0) }))
    where
      at_spot : (s : Vat N) → Holds K E a s (Leads x (Ref n)) → Holds K E a s (IsAt x i)
      at_spot s (inl r) = (n, r, e)
      at_spot s (inr p) = let e = p.1 in cc
  fine_call_spot {a = a} rec good again fair act k x n l (Foreign w) e verb args v h = fine_throw K E a _
  fine_call_spot {a = a} rec good again fair act k x n l NoObject e verb args v h = fine_throw K E a _

  fine_call_value : {a : ℕ} {C : Fact N} (rec : Evaluator N) → GoodEvaluator K E rec → (again : Caller N) → GoodCaller K E a again → (act : ℕ) → Gets K E a C (IsAct act) → (x : Value N) → Gets K E a C (IsValue x) → (y : Value N) → Gets K E a C (IsValue y) → Gets K E a C (Leads x y) → (verb : Words) (args : List (Value N)) → Gets K E a C (AreValues args)
      → Fine K E a C (calls.call_value K tree rec again act x y verb args) IsValue
  unfolding calls.call_value
  fine_call_value {a = a} {C = C} rec good again fair act k x v (Ref n) w l verb args h = fine_call_spot rec good again fair act k x n l (K.spot n) refl verb args (got_callee K E a C x verb args v) h
  fine_call_value {a = a} rec good again fair act k x v (Broken p) w l verb args h = fine_throw K E a p
  fine_call_value {a = a} {C = C} rec good again fair act k x v (Prim n) w l verb args h = fine_perform again fair act k _ (got_asked K E a C _ verb args h)
  fine_call_value {a = a} rec good again fair act k x v Null w l verb args h = lines_data again fair act k x v Null w verb args h
  fine_call_value {a = a} rec good again fair act k x v (Flag b) w l verb args h = lines_data again fair act k x v (Flag b) w verb args h
  fine_call_value {a = a} rec good again fair act k x v (Number z) w l verb args h = lines_data again fair act k x v (Number z) w verb args h
  fine_call_value {a = a} rec good again fair act k x v (Letter c) w l verb args h = lines_data again fair act k x v (Letter c) w verb args h
  fine_call_value {a = a} rec good again fair act k x v (Text t) w l verb args h = lines_data again fair act k x v (Text t) w verb args h
  fine_call_value {a = a} rec good again fair act k x v (Items n) w l verb args h = lines_data again fair act k x v (Items n) w verb args h

  fine_call_one : {a : ℕ} {C : Fact N} (rec : Evaluator N) → GoodEvaluator K E rec → (again : Caller N) → GoodCaller K E a again → (act : ℕ) → Gets K E a C (IsAct act) → (x : Value N) → Gets K E a C (IsValue x) → (verb : Words) (args : List (Value N)) → Gets K E a C (AreValues args)
      → Fine K E a C (calls.call_one K tree rec again act x verb args) IsValue
  unfolding calls.call_one
  fine_call_one {a = a} {C = C} rec good again fair act k x v verb args h = fine_bind K E a (λ y. Also (IsValue y) (Leads x y)) (look_leads K E a x v)
      (λ y. let D : Fact N = Also (IsValue y) (Leads x y) in fine_call_value {C = Also C D} rec good again fair act (got_left K E a C D (IsAct act) k) x (got_left K E a C D (IsValue x) v) y (record { at = λ s b. b.1.0 }) (record { at = λ s b. b.1.1 }) verb args (got_left K E a C D (AreValues args) h))

  fine_call_at : {a : ℕ} {C : Fact N} (d : ℕ) (rec : Evaluator N) → GoodEvaluator K E rec → (act : ℕ) → Gets K E a C (IsAct act) → (x : Value N) → Gets K E a C (IsValue x) → (verb : Words) (args : List (Value N)) → Gets K E a C (AreValues args) → Fine K E a C (calls.call_at K tree d rec act x verb args) IsValue
  unfolding calls.call_at
  fine_call_at {a = a} zero rec good act k x v verb args h = fine_stop K E a _
  fine_call_at {a = a} (suc d) rec good act k x v verb args h = fine_call_one rec good (λ b y w xs. calls.call_at K tree d rec b y w xs) (λ D b i y g w xs u. fine_call_at {C = D} d rec good b i y g w xs u) act k x v verb args h

  pub fine_call : {a : ℕ} {C : Fact N} (rec : Evaluator N) → GoodEvaluator K E rec → (act : ℕ) → Gets K E a C (IsAct act) → (x : Value N) → Gets K E a C (IsValue x) → (verb : Words) (args : List (Value N)) → Gets K E a C (AreValues args) → Fine K E a C (calls.call K tree rec act x verb args) IsValue
  unfolding calls.call
  fine_call {a = a} {C = C} rec good act k x v verb args h = fine_less K E a nothing (fine_look K E a _) (λ n. fine_call_at n rec good act k x v verb args h)

  -- ---- calls to coerce, on what is known as a guard

  -- no data coerces, whatever is known of it
  coerce_data : {a : ℕ} {C : Fact N} (again : Caller N) → GoodCaller K E a again → (act : ℕ) → Gets K E a C (IsAct act) → (g : Value N) → Gets K E a C (IsGuard g) → (y x : Value N) → Gets K E a C (IsValue x) → (j : Value N) → Gets K E a C (IsValue j)
      → Fine K E a C (scopes.with_lines act g (codes "coerce") (x ∷ j ∷ []) (perform.data_answer K tree again act y (codes "coerce") (x ∷ j ∷ []))) IsValue
  unfolding perform.data_answer
  coerce_data {a = a} {C = C} again good act k g v y x h j i = fine_with_lines K E a (IsAct act) Nothing act g (codes "coerce") (x ∷ j ∷ []) _ (λ s u. tt) k (λ s b. tt) k (got_coercer K E a C g x j v) (record { at = λ s b. (h.at s b, (i.at s b, tt)) })
      (given_of g (codes "coerce") (fine_bind K E a IsReply (look_coerce K E a y x j) (λ r. fine_reply again good act (record { at = λ s b. b.0.0.0 }) r (record { at = λ s b. b.1 }))))

  coerce_value : {a : ℕ} {C : Fact N} (rec : Evaluator N) → GoodEvaluator K E rec → (again : Caller N) → GoodCaller K E a again → (act : ℕ) → Gets K E a C (IsAct act) → (g : Value N) → Gets K E a C (IsGuard g) → (y : Value N) → Gets K E a C (Leads g y) → (x : Value N) → Gets K E a C (IsValue x) → (j : Value N) → Gets K E a C (IsValue j)
      → Fine K E a C (calls.call_value K tree rec again act g y (codes "coerce") (x ∷ j ∷ [])) IsValue
  unfolding calls.call_value
  coerce_value {a = a} {C = C} rec good again fair act k g v (Ref n) l x h j i = fine_call_spot rec good again fair act k g n l (K.spot n) refl (codes "coerce") (x ∷ j ∷ []) (got_coercer K E a C g x j v) (record { at = λ s b. (h.at s b, (i.at s b, tt)) })
  coerce_value {a = a} rec good again fair act k g v (Broken p) l x h j i = fine_throw K E a p
  coerce_value {a = a} {C = C} rec good again fair act k g v (Prim n) l x h j i = fine_perform again fair act k _ (got_asked K E a C _ (codes "coerce") (x ∷ j ∷ []) (record { at = λ s b. (h.at s b, (i.at s b, tt)) }))
  coerce_value {a = a} rec good again fair act k g v Null l x h j i = coerce_data again fair act k g v Null x h j i
  coerce_value {a = a} rec good again fair act k g v (Flag b) l x h j i = coerce_data again fair act k g v (Flag b) x h j i
  coerce_value {a = a} rec good again fair act k g v (Number z) l x h j i = coerce_data again fair act k g v (Number z) x h j i
  coerce_value {a = a} rec good again fair act k g v (Letter c) l x h j i = coerce_data again fair act k g v (Letter c) x h j i
  coerce_value {a = a} rec good again fair act k g v (Text t) l x h j i = coerce_data again fair act k g v (Text t) x h j i
  coerce_value {a = a} rec good again fair act k g v (Items n) l x h j i = coerce_data again fair act k g v (Items n) x h j i

  coerce_at : {a : ℕ} {C : Fact N} (d : ℕ) (rec : Evaluator N) → GoodEvaluator K E rec → (act : ℕ) → Gets K E a C (IsAct act) → (g : Value N) → Gets K E a C (IsGuard g) → (x : Value N) → Gets K E a C (IsValue x) → (j : Value N) → Gets K E a C (IsValue j) → Fine K E a C (calls.call_at K tree d rec act g (codes "coerce") (x ∷ j ∷ [])) IsValue
  unfolding calls.call_at calls.call_one
  coerce_at {a = a} zero rec good act k g v x h j i = fine_stop K E a _
  coerce_at {a = a} {C = C} (suc d) rec good act k g v x h j i = fine_bind K E a (Leads g) (look_lead K E a g)
      (λ y. coerce_value {C = Also C (Leads g y)} rec good (λ b z w xs. calls.call_at K tree d rec b z w xs) (λ D b l z p w xs u. fine_call_at {C = D} d rec good b l z p w xs u) act (got_left K E a C (Leads g y) (IsAct act) k) g (got_left K E a C (Leads g y) (IsGuard g) v) y (got K E a C (Leads g y)) x (got_left K E a C (Leads g y) (IsValue x) h) j (got_left K E a C (Leads g y) (IsValue j) i))

  pub fine_call_guard : {a : ℕ} {C : Fact N} (rec : Evaluator N) → GoodEvaluator K E rec → (act : ℕ) → Gets K E a C (IsAct act) → (g : Value N) → Gets K E a C (IsGuard g) → (x : Value N) → Gets K E a C (IsValue x) → (j : Value N) → Gets K E a C (IsValue j) → Fine K E a C (calls.call K tree rec act g (codes "coerce") (x ∷ j ∷ [])) IsValue
  unfolding calls.call
  fine_call_guard {a = a} rec good act k g v x h j i = fine_less K E a nothing (fine_look K E a _) (λ n. coerce_at n rec good act k g v x h j i)
