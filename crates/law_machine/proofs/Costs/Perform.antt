-- What guards, data and primitives do costs a call at most.
use Rattle.std.proofs.Common.{◌≡◌, ℕ, zero, suc, ◌+◌, ◌≤◌, Bool, true, false, List, [], ◌∷◌, Option, Some, None, pos, inl, inr, ◌⊎◌, sym, subst, length, map, codes, arith}
use Rattle.def_machine.specs.Values.{Words, Value, Flag, Number, Letter, Text, Prim, Items, Ref, Naming}
use Rattle.def_machine.specs.State.{Resolver, Vat, Act, throw}
use Rattle.def_machine.specs.Refs as refs
use Rattle.def_machine.specs.Refs.{Place, Near, Away}
use Rattle.def_machine.specs.Native as native
use Rattle.def_machine.specs.Native.{Reply, Says, Writes, Lists, Iterates, Fails, Guard, RefTest, Fulfillment, Asked, MakesList, Ranges, Same, Compares, Loops, SendsTo, CallsTo, MakesPromise, Breaks, Tells, Whens, ThrowsIt, IsStamped, Coerces, AddsNull, NoMethod}
use Rattle.def_machine.specs.Scopes.{Caller}
use Rattle.def_machine.specs.Perform as perform
use Rattle.def_kernel.specs.declared.node.Node.{Node}
use Rattle.law_machine.proofs.Costs.Costs.{Prices, paid, paid_for, paid_more, Costs, cost_up, cost_bind, cost_then, free_bind, free_then, look_bind, cost_give, cost_throw, cost_stop, cost_look, cost_some, cost_if, spend_then, cost_tell, cost_thing, cost_list}
use Rattle.law_machine.proofs.Costs.Refs.{cost_promise, cost_send, cost_send_only, cost_react}
use Rattle.law_machine.proofs.Costs.Natives.{Light, Starts, Places, Pairs, verb_of, args_of, level, IsLightAsk, IsLightReply, IsShortReply, light_asked, light_data, data_short, range_short, compared_short, null_reply_short}

-- what any call costs at most, and what one costs that is light
pub record GoodCaller (P : Prices) {N : Type 0} (again : Caller N) : Type 0 where
  pub any : (act : ℕ) (x : Value N) (verb : Words) (args : List (Value N)) → Costs P P.call P.call (again act x verb args)
  pub light : (l : Light N) (act : ℕ) (x : Value N) → Costs P (level l) 12 (again act x (verb_of l) (args_of l))

module _ (P : Prices) {N W : Type 0} (K : Naming N W) (tree : List Node) where
  -- ---- by how much a call may cost

  -- what costs no more than a call
  pub at_most : {A : Type 0} {m : Act N A} {c d : ℕ} → c ≤ P.fuel + P.fuel + P.tree + 30 → d ≤ P.fuel + P.fuel + P.tree + 30 → Costs P c d m → Costs P P.call P.call m
  at_most l k h = let most = P.calls in cost_up P (omega (arith, l, most)) (omega (arith, k, most)) h

  -- ---- lists and texts

  units : 60 ≤ P.unit
  units = let l = P.units in omega (arith, l)

  pays : (n : ℕ) → n ≤ paid P.unit n
  pays n = let l = units in paid_for P.unit n (omega (arith, l))

  any_list : (vs : List (Value N)) → 11 + length vs ≤ 11 + paid P.unit (length vs)
  any_list vs = let l = pays (length vs) in omega (arith, l)

  full_list : (v : Value N) (vs : List (Value N)) → 11 + length (v ∷ vs) ≤ 0 + paid P.unit (length (v ∷ vs))
  full_list v vs = let e = paid_more P.unit (length vs) in let l = pays (length vs) in let u = units in omega (arith, e, l, u)

  stored : (c act : ℕ) (vs : List (Value N)) → 11 + length vs ≤ c + paid P.unit (length vs) → Costs P c 1 (perform.store K tree act vs)
  unfolding perform.store
  stored c act vs l = let p = pays (length vs) in spend_then P {e = 11 + length vs} {f = 1 + length vs} (length vs) (λ few. cost_bind P (cost_list P vs few) (λ k. free_then P (cost_tell P _) (cost_give P _)) (omega arith) (omega arith) (omega arith)) l (omega (arith, p))

  tested : (c act : ℕ) (vs : List (Value N)) → 11 + length vs ≤ c + paid P.unit (length vs) → Costs P c 10 (perform.make_list K tree act vs)
  unfolding perform.make_list
  tested c act vs l = free_bind P (cost_look P _) (λ good. cost_if P good (cost_up P (omega arith) (omega arith) (stored c act vs l)) (cost_up P (omega arith) (omega arith) (cost_throw P _)))

  -- a list may be empty, and then it is free
  pub cost_make_list : (act : ℕ) (vs : List (Value N)) → Costs P 11 10 (perform.make_list K tree act vs)
  cost_make_list act vs = tested 11 act vs (any_list vs)

  pub cost_full_list : (act : ℕ) (v : Value N) (vs : List (Value N)) → Costs P 0 10 (perform.make_list K tree act (v ∷ vs))
  cost_full_list act v vs = tested 0 act (v ∷ vs) (full_list v vs)

  spell : (t : Words) → Costs P 10 0 (perform.spell K tree t)
  unfolding perform.spell
  spell t = spend_then P {e = 10} {f = 0} (length t) (λ few. cost_give P _) (omega arith) (omega arith)

  write_text : (t : Words) → Costs P 10 10 (perform.write_text K tree t)
  unfolding perform.write_text
  write_text t = cost_if P _ (cost_up P (omega arith) (omega arith) (spell t)) (cost_up P (omega arith) (omega arith) (cost_throw P _))

  -- ---- calls that answers make

  iterate_letters : (again : Caller N) → GoodCaller P again → (act : ℕ) (o : Value N) (k : ℕ) (cs : List ℕ) → Costs P 10 12 (perform.iterate K tree again act o k (map Letter cs))
  unfolding perform.iterate
  iterate_letters again good act o k [] = cost_up P (omega arith) (omega arith) (cost_give P _)
  iterate_letters again good act o k (c ∷ cs) = cost_then P (good.light (Places (pos k) c) act o) (iterate_letters again good act o (suc k) cs) (omega arith) (omega arith) (omega arith)

  iterate_list : (again : Caller N) → GoodCaller P again → (act : ℕ) (o : Value N) (k : ℕ) (vs : List (Value N)) → Costs P (10 + length vs) (12 + length vs) (perform.iterate K tree again act o k vs)
  unfolding perform.iterate
  iterate_list again good act o k [] = cost_up P (omega arith) (omega arith) (cost_give P _)
  iterate_list again good act o k (v ∷ vs) = cost_then P (good.light (Pairs (Number (pos k)) v) act o) (iterate_list again good act o (suc k) vs) (omega arith) (omega arith) (omega arith)

  iterates : (again : Caller N) → GoodCaller P again → (act : ℕ) (o : Value N) (vs : List (Value N)) → (length vs ≤ P.fuel) ⊎ ((cs : List ℕ) × (vs ≡ map Letter cs)) → Costs P P.call P.call (perform.iterate K tree again act o 0 vs)
  iterates again good act o vs (inl l) = at_most (omega (arith, l)) (omega (arith, l)) (iterate_list again good act o 0 vs)
  iterates again good act o vs (inr h) = at_most (omega arith) (omega arith) (subst (λ us. Costs P 10 12 (perform.iterate K tree again act o 0 us)) (sym h.1) (iterate_letters again good act o 0 h.0))

  pub cost_reply : (again : Caller N) → GoodCaller P again → (act : ℕ) (r : Reply N) → IsShortReply P.fuel r → Costs P P.call P.call (perform.reply K tree again act r)
  unfolding perform.reply
  cost_reply again good act (Says v) h = at_most (omega arith) (omega arith) (cost_give P _)
  cost_reply again good act (Writes t) h = at_most (omega arith) (omega arith) (write_text t)
  cost_reply again good act (Lists vs) h = at_most (omega arith) (omega arith) (cost_make_list act vs)
  cost_reply again good act (Iterates o vs) h = iterates again good act o vs h
  cost_reply again good act (Fails p) h = at_most (omega arith) (omega arith) (cost_throw P p)

  light_reply : (again : Caller N) (act n : ℕ) (r : Reply N) → IsLightReply n r → Costs P n 12 (perform.reply K tree again act r)
  unfolding perform.reply
  light_reply again act n (Says v) h = cost_up P h (omega arith) (cost_give P _)
  light_reply again act n (Writes t) h = cost_up P h (omega arith) (write_text t)
  light_reply again act n (Lists vs) h = cost_up P h (omega arith) (cost_make_list act vs)
  light_reply again act n (Iterates o vs) h = absurd h
  light_reply again act n (Fails p) h = cost_up P (omega arith) (omega arith) (cost_throw P p)

  pub cost_data_answer : (again : Caller N) → GoodCaller P again → (act : ℕ) (y : Value N) (verb : Words) (args : List (Value N)) → Costs P P.call P.call (perform.data_answer K tree again act y verb args)
  unfolding perform.data_answer
  cost_data_answer again good act y verb args = look_bind P _ _ (λ s short. cost_reply again good act _ (data_short N P.fuel s.lists short.lists y verb args _))

  pub light_data_answer : (again : Caller N) (act : ℕ) (y : Value N) (l : Light N) → Costs P (level l) 12 (perform.data_answer K tree again act y (verb_of l) (args_of l))
  unfolding perform.data_answer
  light_data_answer again act y l = look_bind P _ _ (λ s short. light_reply again act (level l) _ (light_data K s y l))

  -- ---- guards

  fail_by : {A : Type 0} (again : Caller N) → GoodCaller P again → (act : ℕ) (j : Value N) (p : Words) (b : Bool) → Costs P P.call P.call (perform.fail_by K tree {A = A} again act j p b)
  unfolding perform.fail_by
  fail_by again good act j p true = at_most (omega arith) (omega arith) (cost_throw P p)
  fail_by again good act j p false = cost_then P (good.any act j _ _) (cost_throw P p) (omega arith) (omega arith) (omega arith)

  pub cost_failed : {A : Type 0} (again : Caller N) → GoodCaller P again → (act : ℕ) (j : Value N) (p : Words) → Costs P P.call P.call (perform.failed K tree {A = A} again act j p)
  unfolding perform.failed
  cost_failed again good act j p = free_bind P (cost_look P _) (λ none. fail_by again good act j p none)

  pub free_handed : (j : Value N) → Costs P 10 0 (perform.handed K tree j)
  unfolding perform.handed
  free_handed j = free_bind P (cost_look P _) (λ none. cost_if P none (cost_give P _) (cost_give P j))

  native_coerce : (again : Caller N) → GoodCaller P again → (act : ℕ) (g : Guard) (j x : Value N) → Costs P P.call P.call (perform.native_coerce K tree again act g j x)
  unfolding perform.native_coerce
  native_coerce again good act g j x = free_bind P (cost_look P _) (λ y. cost_some P y (λ v. at_most (omega arith) (omega arith) (cost_give P v)) (cost_failed again good act j _))

  coerce_near : (again : Caller N) → GoodCaller P again → (act : ℕ) (g j x : Value N) (p : Place N) → Costs P P.call P.call (perform.coerce_near K tree again act g j x p)
  unfolding perform.coerce_near
  coerce_near again good act g j x Near = free_bind P (free_handed j) (λ k. good.any act g _ _)
  coerce_near again good act g j x other = at_most (omega arith) (omega arith) (cost_throw P _)

  coerce_native : (again : Caller N) → GoodCaller P again → (act : ℕ) (o : Option Guard) (j x : Value N) → Costs P P.call P.call (perform.coerce_native K tree again act o j x)
  unfolding perform.coerce_native
  coerce_native again good act (Some g) j x = native_coerce again good act g j x
  coerce_native again good act None j x = at_most (omega arith) (omega arith) (cost_throw P _)

  pub cost_coerce : (again : Caller N) → GoodCaller P again → (act : ℕ) (g j x : Value N) → Costs P P.call P.call (perform.coerce K tree again act g j x)
  unfolding perform.coerce
  cost_coerce again good act (Prim n) j x = coerce_native again good act _ j x
  cost_coerce again good act (Ref n) j x = free_bind P (cost_look P _) (λ p. coerce_near again good act (Ref n) j x p)
  cost_coerce again good act other j x = at_most (omega arith) (omega arith) (cost_throw P _)

  -- ---- E, Ref and the loop

  bad : {A : Type 0} (p : Words) → Costs P {N = N} 11 10 (throw {A = A} p)
  bad p = cost_up P (omega arith) (omega arith) (cost_throw P p)

  send_listed : (only : Bool) (act : ℕ) (x : Value N) (verb : Words) (args : List (Value N)) → Costs P 11 10 (perform.send_listed K tree only act x verb args)
  unfolding perform.send_listed perform.send_by
  send_listed only act x verb args = cost_if P _ (cost_if P only (cost_up P (omega arith) (omega arith) (cost_send_only P K act x verb args)) (cost_up P (omega arith) (omega arith) (cost_send P K act x verb args))) (bad _)

  text_sent : (only : Bool) (act : ℕ) (x : Value N) (t : Words) (l : Value N) → Costs P 11 10 (perform.send_with K tree only act x (Text t) l)
  unfolding perform.send_with
  text_sent only act x t (Items k) = free_bind P (cost_look P _) (λ args. send_listed only act x t args)
  text_sent only act x t _ = bad _

  send_with : (only : Bool) (act : ℕ) (x v l : Value N) → Costs P 11 10 (perform.send_with K tree only act x v l)
  unfolding perform.send_with
  send_with only act x (Text t) l = text_sent only act x t l
  send_with only act x _ l = bad _

  call_listed : (again : Caller N) → GoodCaller P again → (act : ℕ) (x : Value N) (verb : Words) (args : List (Value N)) → Costs P P.call P.call (perform.call_listed K tree again act x verb args)
  unfolding perform.call_listed
  call_listed again good act x verb args = cost_if P _ (good.any act x verb args) (at_most (omega arith) (omega arith) (cost_throw P _))

  text_called : (again : Caller N) → GoodCaller P again → (act : ℕ) (x : Value N) (t : Words) (l : Value N) → Costs P P.call P.call (perform.call_with K tree again act x (Text t) l)
  unfolding perform.call_with
  text_called again good act x t (Items k) = free_bind P (cost_look P _) (λ args. call_listed again good act x t args)
  text_called again good act x t _ = at_most (omega arith) (omega arith) (cost_throw P _)

  call_with : (again : Caller N) → GoodCaller P again → (act : ℕ) (x v l : Value N) → Costs P P.call P.call (perform.call_with K tree again act x v l)
  unfolding perform.call_with
  call_with again good act x (Text t) l = text_called again good act x t l
  call_with again good act x _ l = at_most (omega arith) (omega arith) (cost_throw P _)

  make_promise : (act : ℕ) → Costs P 2 12 (perform.make_promise K tree act)
  unfolding perform.make_promise
  make_promise act = cost_bind P (cost_promise P K) (λ p. cost_bind P {c = 1} {d = 11} (cost_thing P (Resolver p)) (λ r. free_then P (cost_tell P _) (cost_full_list act _ _)) (omega arith) (omega arith) (omega arith)) (omega arith) (omega arith) (omega arith)

  broken_short : (v : Value N) → IsShortReply P.fuel (perform.broken_text K tree v)
  unfolding perform.broken_text
  broken_short (Text t) = tt
  broken_short _ = tt

  thrown_short : (v : Value N) → IsShortReply P.fuel (perform.thrown_text K tree v)
  unfolding perform.thrown_text
  thrown_short (Text t) = tt
  thrown_short _ = tt

  fulfilled_short : (x : Value N) (p : Place N) → IsShortReply P.fuel (perform.fulfilled K tree x p)
  unfolding perform.fulfilled
  fulfilled_short x Near = tt
  fulfilled_short x (Away h n true) = tt
  fulfilled_short x other = tt

  test_short : (t : RefTest) (x : Value N) (p : Place N) → IsShortReply P.fuel (perform.test_reply K tree t x p)
  unfolding perform.test_reply
  test_short Fulfillment x p = fulfilled_short x p
  test_short other x p = tt

  same_short : (s : Vat N) (x y : Value N) → IsShortReply P.fuel (perform.same_reply K tree s x y)
  unfolding perform.same_reply
  same_short s x y = by (refs.any_of K (perform.is_open K tree (length s.lists) s) (x ∷ y ∷ []))
    where
      by : (b : Bool) → IsShortReply {N = N} P.fuel (elim b [ true ↦ Fails (codes "not settled") | false ↦ Says (Flag (perform.is_same K tree (length s.lists) s x y)) ])
      by true = tt
      by false = tt

  react_near : (act : ℕ) (x o y : Value N) (p : Place N) → Costs P 11 10 (perform.react_near K tree act x o y p)
  unfolding perform.react_near
  react_near act x o y Near = cost_up P (omega arith) (omega arith) (cost_react P K act x o y)
  react_near act x o y other = bad _

  when_resolved : (act : ℕ) (x o : Value N) → Costs P 11 10 (perform.when_resolved K tree act x o)
  unfolding perform.when_resolved
  when_resolved act x o = free_bind P (cost_look P _) (λ y. free_bind P (cost_look P _) (λ p. react_near act x o y p))

  after_turn : (n : ℕ) (more : Act N (Value N)) → Costs P (10 + n) (12 + n) more → (v : Value N) → Costs P (10 + n) (12 + n) (perform.after_turn K tree more v)
  unfolding perform.after_turn
  after_turn n more h (Flag true) = h
  after_turn n more h (Flag false) = cost_up P (omega arith) (omega arith) (cost_give P _)
  after_turn n more h _ = cost_up P (omega arith) (omega arith) (cost_throw P _)

  turns : (n : ℕ) (body : Act N (Value N)) → Costs P 11 12 body → Costs P (10 + n) (12 + n) (perform.turns K tree n body)
  unfolding perform.turns
  turns zero body h = cost_stop P _
  turns (suc n) body h = cost_bind P h (λ x. free_bind P (cost_look P _) (λ y. after_turn n (λ s. perform.turns K tree n body s) (turns n body h) y)) (omega arith) (omega arith) (omega arith)

  loop : (body : Act N (Value N)) → Costs P 11 12 body → Costs P P.call P.call (perform.loop K tree body)
  unfolding perform.loop
  loop body h = look_bind P _ _ (λ s short. let l = short.fuel in at_most (omega (arith, l)) (omega (arith, l)) (turns (suc s.fuel) body h))

  -- ---- primitives

  pub cost_perform : (again : Caller N) → GoodCaller P again → (act : ℕ) (q : Asked N) → Costs P P.call P.call (perform.perform K tree again act q)
  unfolding perform.perform
  cost_perform again good act (MakesList vs) = at_most (omega arith) (omega arith) (cost_make_list act vs)
  cost_perform again good act (Ranges last a b) = look_bind P _ _ (λ s short. cost_reply again good act _ (range_short N P.fuel last _ _))
  cost_perform again good act (Same a b) = look_bind P _ _ (λ s short. cost_reply again good act _ (same_short s a b))
  cost_perform again good act (Compares test a b) = look_bind P _ _ (λ s short. cost_reply again good act _ (compared_short N P.fuel test _))
  cost_perform again good act (Loops o) = loop _ (good.light Starts act o)
  cost_perform again good act (SendsTo only x v l) = at_most (omega arith) (omega arith) (free_bind P (cost_look P _) (λ verb. free_bind P (cost_look P _) (λ list. send_with only act x verb list)))
  cost_perform again good act (CallsTo x v l) = free_bind P (cost_look P _) (λ verb. free_bind P (cost_look P _) (λ list. call_with again good act x verb list))
  cost_perform again good act MakesPromise = at_most (omega arith) (omega arith) (make_promise act)
  cost_perform again good act (Breaks t) = look_bind P _ _ (λ s short. cost_reply again good act _ (broken_short _))
  cost_perform again good act (Tells test x) = look_bind P _ _ (λ s short. cost_reply again good act _ (test_short test x _))
  cost_perform again good act (Whens x o) = at_most (omega arith) (omega arith) (when_resolved act x o)
  cost_perform again good act (ThrowsIt t) = look_bind P _ _ (λ s short. cost_reply again good act _ (thrown_short _))
  cost_perform again good act (IsStamped a x) = at_most (omega arith) (omega arith) (free_bind P (cost_look P _) (λ b. cost_give P _))
  cost_perform again good act (Coerces g x j) = native_coerce again good act g j x
  cost_perform again good act (AddsNull g) = look_bind P _ _ (λ s short. cost_reply again good act _ (null_reply_short N P.fuel _))
  cost_perform again good act NoMethod = at_most (omega arith) (omega arith) (cost_throw P _)

  light_list : (n act : ℕ) (vs : List (Value N)) → IsLightAsk n (MakesList vs) → Costs P n 12 (perform.make_list K tree act vs)
  light_list n act [] h = cost_up P h (omega arith) (cost_make_list act [])
  light_list n act (v ∷ vs) h = cost_up P (omega arith) (omega arith) (cost_full_list act v vs)

  light_perform : (again : Caller N) (act n : ℕ) (q : Asked N) → IsLightAsk n q → Costs P n 12 (perform.perform K tree again act q)
  unfolding perform.perform
  light_perform again act n (MakesList vs) h = light_list n act vs h
  light_perform again act n (IsStamped a x) h = cost_up P h (omega arith) (free_bind P (cost_look P _) (λ b. cost_give P _))
  light_perform again act n NoMethod h = cost_up P (omega arith) (omega arith) (cost_throw P _)
  light_perform again act n _ h = absurd h

  pub light_primitive : (again : Caller N) (act : ℕ) (p : native.Primitive) (l : Light N) → Costs P (level l) 12 (perform.perform K tree again act (native.asked p (verb_of l) (args_of l)))
  light_primitive again act p l = light_perform again act (level l) _ (light_asked p l)
