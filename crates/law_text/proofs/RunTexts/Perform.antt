-- What guards, data and primitives do.
use Rattle.def_kernel.specs.Trees.{IsInt}
use Rattle.std.specs.Str.{IsUtf8}
use Rattle.std.proofs.Common.{ℕ, zero, suc, ◌<◌, Bool, true, false, List, [], ◌∷◌, Option, Some, None, length, codes, pos, refl, ◌+◌, ◌^◌, arith}
use Rattle.std.specs.Prelude.{nat_le}
use Rattle.def_machine.specs.Values.{Words, Value, Null, Flag, Number, Text, Prim, Items, Ref, Name, Naming, naming}
use Rattle.def_machine.specs.State.{Resolver, ListMade, PromiseMade, Fuel, Vat, Act, WhereSome, ◌>>=◌, look}
use Rattle.def_machine.specs.Refs as refs
use Rattle.def_machine.specs.Refs.{Place, Near, Mine, Away, Gone}
use Rattle.def_machine.specs.Native as native
use Rattle.def_machine.specs.Native.{Reply, Says, Writes, Lists as Listed, Iterates, Fails, Guard, AnyGuard, VoidGuard, OrNull, RefTest, OptProblem, Fulfillment, NoTest, Asked, MakesList, Ranges, Same, Compares, Loops, SendsTo, CallsTo, MakesPromise, Breaks, Tells, Whens, ThrowsIt, IsStamped, Coerces, AddsNull, NoMethod}
use Rattle.def_machine.specs.Scopes as scopes
use Rattle.def_machine.specs.Scopes.{Caller}
use Rattle.def_machine.specs.Perform as perform
use Rattle.def_kernel.specs.declared.node.Node.{Node}
use Rattle.law_text.specs.RunTexts.Fitting.{Limits, IsLow, NameFits, ValueFits, ValuesFit, VatFits, TextFits, size, spread}
use Rattle.law_text.proofs.RunTexts.Fine.{Fine, nothing, fine_bind, fine_then, fine_give, fine_throw, fine_stop, fine_look, fine_sees, fine_some, fine_if, fine_left, fine_tell, fine_spend, fine_list, fine_thing, fine_if_so, fine_look_at}
use Rattle.law_text.proofs.RunTexts.Texts.{plain, short_text}
use Rattle.law_text.proofs.RunTexts.Natives.{ReplyFits, AskedFits, either_has, data_fits, range_fits, compared_fits, null_reply_fits, guard_given, primitive_guarded, GuardFits, list_at_fits}
use Rattle.law_text.proofs.RunTexts.Refs.{where_is, PlaceFits, fine_promise, fine_send, fine_send_only, fine_react, follow_fits, follows_fit, place_fits, look_follow}

-- a call, whatever is called
abbrev pub GoodCaller : Limits → Caller Name → Type 1
GoodCaller L again = (D : Type 0) (act : ℕ) (x : Value Name) (verb : Words) (args : List (Value Name)) → (D → IsLow L act) → (D → ValueFits L x) → (D → TextFits verb) → (D → ValuesFit L args) → Fine L D (again act x verb args) (ValueFits L)

module _ (L : Limits) (word : ℕ → ℕ) (v : ℕ) (inside : v < L.many) (tree : List Node) where
  abbrev K : Naming Name Name
  K = naming word v

  -- ---- guards

  where_taken : (b : Bool) (y : Value Name) → ValueFits L y → WhereSome (ValueFits L) (scopes.where_true b y)
  unfolding scopes.where_true
  where_taken true y f = f
  where_taken false y f = tt

  by_null : (b : Bool) (o : Option (Value Name)) → WhereSome (ValueFits L) o → WhereSome (ValueFits L) (elim b [ true ↦ Some Null | false ↦ o ])
  by_null true o i = tt
  by_null false o i = i

  taken_fits : (s : Vat Name) (g : Guard) (x y : Value Name) → ValueFits L x → ValueFits L y → WhereSome (ValueFits L) (perform.taken K tree s g x y)
  unfolding perform.taken
  taken_fits s AnyGuard x y i j = i
  taken_fits s VoidGuard x y i j = tt
  taken_fits s (OrNull g) x y i j = by_null (scopes.is_null y) (perform.taken K tree s g x y) (taken_fits s g x y i j)
  taken_fits s other x y i j = where_taken _ y j

  pub fine_failed : {C A : Type 0} {G : A → Type 0} (again : Caller Name) → GoodCaller L again → (act : ℕ) (j : Value Name) (p : Words) → (C → IsLow L act) → (C → ValueFits L j) → (C → TextFits p) → Fine L C (perform.failed K tree {A = A} again act j p) G
  unfolding perform.failed perform.fail_by
  fine_failed {C = C} {A = A} {G = G} again good act j p a f u = fine_bind L (nothing L) (fine_sees L _) (λ b. by b)
    where
      by : (b : Bool) → Fine L (C × Unit {0}) (perform.fail_by K tree {A = A} again act j p b) G
      by true = fine_throw L p (λ c. u c.0)
      by false = fine_then L (good _ act j (codes "run") (Text p ∷ []) (λ c. a c.0) (λ c. f c.0) (λ c. plain _ refl) (λ c. (u c.0, tt))) (fine_throw L p (λ c. u c.0))

  pub fine_handed : {C : Type 0} (j : Value Name) → (C → ValueFits L j) → Fine L C (perform.handed K tree j) (ValueFits L)
  unfolding perform.handed
  fine_handed j f = fine_bind L (nothing L) (fine_sees L _) (λ none. fine_if L none (fine_give L Null (λ c. tt)) (fine_give L j (λ c. f c.0)))

  native_coerce : {C : Type 0} (again : Caller Name) → GoodCaller L again → (act : ℕ) (g : Guard) (j x : Value Name) → (C → GuardFits L g) → (C → IsLow L act) → (C → ValueFits L j) → (C → ValueFits L x) → Fine L C (perform.native_coerce K tree again act g j x) (ValueFits L)
  unfolding perform.native_coerce
  native_coerce again good act g j x q a f h = fine_bind L (WhereSome (ValueFits L)) (fine_look L _ (λ s k c. taken_fits s g x _ (h c) (follow_fits L word v inside s x k (h c))))
      (λ y. fine_some L (ValueFits L) y (λ z e. fine_give L z (λ c. where_is (ValueFits L) y z e c.1)) (fine_failed again good act j _ (λ c. a c.0) (λ c. f c.0) (λ c. q c.0)))

  coerce_near : {C : Type 0} (again : Caller Name) → GoodCaller L again → (act : ℕ) (g j x : Value Name) (p : Place Name) → (C → IsLow L act) → (C → ValueFits L g) → (C → ValueFits L j) → (C → ValueFits L x) → Fine L C (perform.coerce_near K tree again act g j x p) (ValueFits L)
  unfolding perform.coerce_near
  coerce_near again good act g j x Near a e f h = fine_bind L (ValueFits L) (fine_handed j f) (λ k. good _ act g (codes "coerce") (x ∷ k ∷ []) (λ c. a c.0) (λ c. e c.0) (λ c. plain _ refl) (λ c. (h c.0, (c.1, tt))))
  coerce_near again good act g j x _ a e f h = fine_throw L _ (λ c. plain _ refl)

  coerce_native : {C : Type 0} (again : Caller Name) → GoodCaller L again → (act : ℕ) (o : Option Guard) (j x : Value Name) → (C → WhereSome (GuardFits L) o) → (C → IsLow L act) → (C → ValueFits L j) → (C → ValueFits L x) → Fine L C (perform.coerce_native K tree again act o j x) (ValueFits L)
  unfolding perform.coerce_native
  coerce_native again good act (Some g) j x q a f h = native_coerce again good act g j x q a f h
  coerce_native again good act None j x q a f h = fine_throw L _ (λ c. plain _ refl)

  pub fine_coerce : {C : Type 0} (again : Caller Name) → GoodCaller L again → (act : ℕ) (g j x : Value Name) → (C → IsLow L act) → (C → ValueFits L g) → (C → ValueFits L j) → (C → ValueFits L x) → Fine L C (perform.coerce K tree again act g j x) (ValueFits L)
  unfolding perform.coerce
  fine_coerce again good act (Prim n) j x a e f h = coerce_native again good act _ j x (λ c. guard_given L (native.primitive n) (primitive_guarded L n)) a f h
  fine_coerce again good act (Ref n) j x a e f h = fine_bind L (nothing L) (fine_sees L _) (λ p. coerce_near again good act (Ref n) j x p (λ c. a c.0) (λ c. e c.0) (λ c. f c.0) (λ c. h c.0))
  fine_coerce again good act _ j x a e f h = fine_throw L _ (λ c. plain _ refl)

  -- ---- lists and texts

  pub fine_make_list : {C : Type 0} (act : ℕ) (vs : List (Value Name)) → (C → IsLow L act) → (C → ValuesFit L vs) → Fine L C (perform.make_list K tree act vs) (ValueFits L)
  unfolding perform.make_list perform.store
  fine_make_list act vs a f = fine_bind L (nothing L) (fine_sees L _) (λ good. fine_if L good
      (fine_then L (fine_spend L _) (fine_bind L (IsLow L) (fine_list L vs (λ c. f c.0)) (λ k. fine_then L (fine_tell L (ListMade act k vs) (λ c. (a c.0.0, c.1, f c.0.0))) (fine_give L (Items k) (λ c. c.1)))))
      (fine_throw L _ (λ c. plain _ refl)))

  write_text : {C : Type 0} (t : Words) → (C → IsUtf8 t) → Fine L C (perform.write_text K tree t) (ValueFits L)
  unfolding perform.write_text perform.spell
  write_text t f = fine_if_so L (nat_le (length t) 65535) (λ e. fine_then L (fine_spend L _) (fine_give L (Text t) (λ c. (f c, short_text (length t) e)))) (fine_throw L _ (λ c. plain _ refl))

  place : (k n : ℕ) → k + n < 2 ^ 64 → IsInt (pos k)
  place k n l = omega (arith, l)

  further : (k n : ℕ) → k + suc n < 2 ^ 64 → suc k + n < 2 ^ 64
  further k n l = omega (arith, l)

  first : (n : ℕ) → n < 2 ^ 64 → 0 + n < 2 ^ 64
  first n l = omega (arith, l)

  iterate : {C : Type 0} (again : Caller Name) → GoodCaller L again → (act : ℕ) (o : Value Name) (k : ℕ) (vs : List (Value Name)) → (C → IsLow L act) → (C → ValueFits L o) → (C → ValuesFit L vs) → (C → k + length vs < 2 ^ 64) → Fine L C (perform.iterate K tree again act o k vs) (ValueFits L)
  unfolding perform.iterate
  iterate again good act o k [] a f h low = fine_give L Null (λ c. tt)
  iterate again good act o k (x ∷ vs) a f h low = fine_then L (good _ act o (codes "run") (Number (pos k) ∷ x ∷ []) a f (λ c. plain _ refl) (λ c. (place k (suc (length vs)) (low c), ((h c).0, tt)))) (iterate again good act o (suc k) vs a f (λ c. (h c).1) (λ c. further k (length vs) (low c)))

  pub fine_reply : {C : Type 0} (again : Caller Name) → GoodCaller L again → (act : ℕ) (r : Reply Name) → (C → IsLow L act) → (C → ReplyFits L r) → Fine L C (perform.reply K tree again act r) (ValueFits L)
  unfolding perform.reply
  fine_reply again good act (Says x) a f = fine_give L x f
  fine_reply again good act (Writes t) a f = write_text t f
  fine_reply again good act (Listed vs) a f = fine_make_list act vs a f
  fine_reply again good act (Iterates o vs) a f = iterate again good act o 0 vs a (λ c. (f c).0) (λ c. (f c).1) (λ c. first (length vs) (f c).2)
  fine_reply again good act (Fails p) a f = fine_throw L p f

  -- what is replied from what is looked at
  replied : {C : Type 0} (again : Caller Name) → GoodCaller L again → (act : ℕ) (r : Vat Name → Reply Name) → (C → IsLow L act) → ((s : Vat Name) → VatFits L s → size s < L.limit → C → ReplyFits L (r s)) → Fine L C (look r >>= λ x. perform.reply K tree again act x) (ValueFits L)
  replied again good act r a f = fine_bind L (ReplyFits L) (fine_look_at L r f) (λ x. fine_reply again good act x (λ c. a c.0) (λ c. c.1))

  few : (s : Vat Name) → size s < L.limit → spread s.lists < 2 ^ 64
  unfolding size
  few s low = let m = L.most in omega (arith, low, m)

  pub fine_data_answer : {C : Type 0} (again : Caller Name) → GoodCaller L again → (act : ℕ) (y : Value Name) (verb : Words) (args : List (Value Name)) → (C → IsLow L act) → (C → ValueFits L y) → (C → ValuesFit L args) → Fine L C (perform.data_answer K tree again act y verb args) (ValueFits L)
  unfolding perform.data_answer
  fine_data_answer again good act y verb args a f h = replied again good act _ a (λ s k low c. data_fits L s.lists k.lists (few s low) y (f c) verb args _ (h c) (follows_fit L word v inside s args k (h c)))

  -- ---- E and Ref

  send_by : {C : Type 0} (only : Bool) (act : ℕ) (x : Value Name) (verb : Words) (args : List (Value Name)) → (C → IsLow L act) → (C → ValueFits L x) → (C → TextFits verb) → (C → ValuesFit L args) → Fine L C (perform.send_by K tree only act x verb args) (ValueFits L)
  unfolding perform.send_by
  send_by only act x verb args a f u h = fine_if L only (fine_send_only L word v inside act x verb args a f u h) (fine_send L word v inside act x verb args a f u h)

  send_with : {C : Type 0} (only : Bool) (act : ℕ) (x y l : Value Name) → (C → IsLow L act) → (C → ValueFits L x) → (C → ValueFits L y) → Fine L C (perform.send_with K tree only act x y l) (ValueFits L)
  unfolding perform.send_with perform.send_listed
  send_with only act x (Text verb) (Items k) a f u = fine_bind L (ValuesFit L) (fine_look L _ (λ s h c. list_at_fits L s.lists k h.lists))
      (λ args. fine_if L (nat_le (length args) 255) (send_by only act x verb args (λ c. a c.0) (λ c. f c.0) (λ c. u c.0) (λ c. c.1)) (fine_throw L _ (λ c. plain _ refl)))
  send_with only act x (Text verb) _ a f u = fine_throw L _ (λ c. plain _ refl)
  send_with only act x _ l a f u = fine_throw L _ (λ c. plain _ refl)

  call_with : {C : Type 0} (again : Caller Name) → GoodCaller L again → (act : ℕ) (x y l : Value Name) → (C → IsLow L act) → (C → ValueFits L x) → (C → ValueFits L y) → Fine L C (perform.call_with K tree again act x y l) (ValueFits L)
  unfolding perform.call_with perform.call_listed
  call_with again good act x (Text verb) (Items k) a f u = fine_bind L (ValuesFit L) (fine_look L _ (λ s h c. list_at_fits L s.lists k h.lists))
      (λ args. fine_if L (nat_le (length args) 255) (good _ act x verb args (λ c. a c.0) (λ c. f c.0) (λ c. u c.0) (λ c. c.1)) (fine_throw L _ (λ c. plain _ refl)))
  call_with again good act x (Text verb) _ a f u = fine_throw L _ (λ c. plain _ refl)
  call_with again good act x _ l a f u = fine_throw L _ (λ c. plain _ refl)

  made_object : (i : ℕ) → IsLow L i → NameFits L (K.object i)
  unfolding naming
  made_object i low = (inside, low)

  make_promise : {C : Type 0} (act : ℕ) → (C → IsLow L act) → Fine L C (perform.make_promise K tree act) (ValueFits L)
  unfolding perform.make_promise
  make_promise act a = fine_bind L (NameFits L) (fine_promise L word v inside) (λ p. fine_bind L (IsLow L) (fine_thing L (Resolver p) (λ c. c.1))
      (λ r. fine_then L (fine_tell L (PromiseMade act p (K.object r)) (λ c. (a c.0.0, c.0.1, made_object r c.1))) (fine_make_list act _ (λ c. a c.0.0) (λ c. (c.0.1, (made_object r c.1, tt))))))

  broken_fits : (x : Value Name) → ValueFits L x → ReplyFits L (perform.broken_text K tree x)
  unfolding perform.broken_text
  broken_fits (Text t) f = f
  broken_fits _ f = plain _ refl

  thrown_fits : (x : Value Name) → ValueFits L x → ReplyFits L (perform.thrown_text K tree x)
  unfolding perform.thrown_text
  thrown_fits (Text t) f = f
  thrown_fits _ f = plain _ refl

  problem_fits : (p : Place Name) → PlaceFits L p → ValueFits L (perform.problem_of K tree p)
  unfolding perform.problem_of
  problem_fits (Gone t) f = f
  problem_fits other f = tt

  fulfilled_fits : (x : Value Name) (p : Place Name) → ValueFits L x → PlaceFits L p → ReplyFits L (perform.fulfilled K tree x p)
  unfolding perform.fulfilled
  fulfilled_fits x (Away h n false) f g = plain _ refl
  fulfilled_fits x (Gone t) f g = g
  fulfilled_fits x (Mine n) f g = plain _ refl
  fulfilled_fits x other f g = f

  test_fits : (t : RefTest) (x : Value Name) (p : Place Name) → ValueFits L x → PlaceFits L p → ReplyFits L (perform.test_reply K tree t x p)
  unfolding perform.test_reply
  test_fits OptProblem x p f g = problem_fits p g
  test_fits Fulfillment x p f g = fulfilled_fits x p f g
  test_fits NoTest x p f g = plain _ refl
  test_fits other x p f g = tt

  same_fits : (s : Vat Name) (x y : Value Name) → ReplyFits L (perform.same_reply K tree s x y)
  unfolding perform.same_reply
  same_fits s x y = either_has (ReplyFits L) (refs.any_of K (perform.is_open K tree (length s.lists) s) (x ∷ y ∷ [])) _ _ (plain _ refl) tt

  when_resolved : {C : Type 0} (act : ℕ) (x o : Value Name) → (C → IsLow L act) → (C → ValueFits L x) → (C → ValueFits L o) → Fine L C (perform.when_resolved K tree act x o) (ValueFits L)
  unfolding perform.when_resolved perform.react_near
  when_resolved {C = C} act x o a f g = fine_bind L (ValueFits L) (look_follow L word v inside o g) (λ y. fine_bind L (nothing L) (fine_sees L _) (λ p. near y p))
    where
      near : (y : Value Name) (p : Place Name) → Fine L ((C × ValueFits L y) × Unit {0}) (perform.react_near K tree act x o y p) (ValueFits L)
      near y Near = fine_react L word v inside act x o y (λ c. a c.0.0) (λ c. f c.0.0) (λ c. g c.0.0) (λ c. c.0.1)
      near y other = fine_throw L _ (λ c. plain _ refl)

  after_turn : {C : Type 0} (more : Act Name (Value Name)) (y : Value Name) → Fine L C more (ValueFits L) → Fine L C (perform.after_turn K tree more y) (ValueFits L)
  unfolding perform.after_turn
  after_turn more (Flag true) h = h
  after_turn more (Flag false) h = fine_give L Null (λ c. tt)
  after_turn more _ h = fine_throw L _ (λ c. plain _ refl)

  turns : {C : Type 0} (n : ℕ) (body : Act Name (Value Name)) → Fine L C body (ValueFits L) → Fine L C (perform.turns K tree n body) (ValueFits L)
  unfolding perform.turns
  turns zero body h = fine_stop L Fuel
  turns (suc n) body h = fine_bind L (ValueFits L) h (λ x. fine_bind L (nothing L) (fine_sees L _) (λ y. after_turn (λ s. perform.turns K tree n body s) y (fine_left L (fine_left L (turns n body h)))))

  loop : {C : Type 0} (body : Act Name (Value Name)) → Fine L C body (ValueFits L) → Fine L C (perform.loop K tree body) (ValueFits L)
  unfolding perform.loop
  loop body h = fine_bind L (nothing L) (fine_sees L _) (λ n. turns n body (fine_left L h))

  pub fine_perform : {C : Type 0} (again : Caller Name) → GoodCaller L again → (act : ℕ) (q : Asked Name) → (C → IsLow L act) → (C → AskedFits L q) → Fine L C (perform.perform K tree again act q) (ValueFits L)
  unfolding perform.perform
  fine_perform again good act (MakesList vs) a f = fine_make_list act vs a f
  fine_perform again good act (Ranges last x y) a f = replied again good act _ a (λ s h low c. range_fits L last _ _ (follow_fits L word v inside s x h (f c).0) (follow_fits L word v inside s y h (f c).1))
  fine_perform again good act (Same x y) a f = replied again good act _ a (λ s h low c. same_fits s x y)
  fine_perform again good act (Compares test x y) a f = replied again good act _ a (λ s h low c. compared_fits L test _)
  fine_perform {C = C} again good act (Loops o) a f = loop _ (good C act o (codes "run") [] a f (λ c. plain _ refl) (λ c. tt))
  fine_perform again good act (SendsTo only x y l) a f = fine_bind L (ValueFits L) (look_follow L word v inside y (λ c. (f c).1)) (λ verb. fine_bind L (nothing L) (fine_sees L _) (λ list. send_with only act x verb list (λ c. a c.0.0) (λ c. (f c.0.0).0) (λ c. c.0.1)))
  fine_perform again good act (CallsTo x y l) a f = fine_bind L (ValueFits L) (look_follow L word v inside y (λ c. (f c).1)) (λ verb. fine_bind L (nothing L) (fine_sees L _) (λ list. call_with again good act x verb list (λ c. a c.0.0) (λ c. (f c.0.0).0) (λ c. c.0.1)))
  fine_perform again good act MakesPromise a f = make_promise act a
  fine_perform again good act (Breaks t) a f = replied again good act _ a (λ s h low c. broken_fits _ (follow_fits L word v inside s t h (f c)))
  fine_perform again good act (Tells test x) a f = replied again good act _ a (λ s h low c. test_fits test x _ (f c) (place_fits L word v inside s _ h (follow_fits L word v inside s x h (f c))))
  fine_perform again good act (Whens x o) a f = when_resolved act x o a (λ c. (f c).0) (λ c. (f c).1)
  fine_perform again good act (ThrowsIt t) a f = replied again good act _ a (λ s h low c. thrown_fits _ (follow_fits L word v inside s t h (f c)))
  fine_perform again good act (IsStamped p x) a f = fine_bind L (nothing L) (fine_sees L _) (λ b. fine_give L (Flag b) (λ c. tt))
  fine_perform again good act (Coerces g x j) a f = native_coerce again good act g j x (λ c. (f c).0) a (λ c. (f c).2) (λ c. (f c).1)
  fine_perform again good act (AddsNull g) a f = replied again good act _ a (λ s h low c. null_reply_fits L _)
  fine_perform again good act NoMethod a f = fine_throw L _ (λ c. plain _ refl)
