-- Evaluation in an environment that covers the scopes of a node does not go astray, where the nodes below do not.
use Rattle.std.proofs.Common.{◌≡◌, ℕ, ◌<◌, Bool, List, [], ◌∷◌, Option, Some, None, if◌then◌else◌, refl, length, arith}
use Rattle.std.specs.Prelude.{slice_get}
use Rattle.def_machine.specs.Values.{Words, Value, Null, Text, Prim, Broken, Ref, Naming, Spot, Own}
use Rattle.def_machine.specs.State.{Scope, Thing, Made, Ejector, Audition, Resolver, Message, Known, Vat, Act, ◌>>=◌, eject}
use Rattle.def_machine.specs.Scopes as scopes
use Rattle.def_machine.specs.Calls as calls
use Rattle.def_machine.specs.Eval as eval
use Rattle.def_machine.specs.Native as native
use Rattle.def_machine.specs.Scopes.{Answer, Answers, Evaluator, Caller, Body, Case, members_of, method_of, matchers_of}
use Rattle.def_kernel.specs.declared.node.Node.{Node}
use Rattle.def_kernel.specs.declared.shape.Kind.TheVariants.{Expression, Pattern, Member}
use Rattle.law_never_astray.specs.Scoped.{Scopes, Scoped, AllScoped, no_more, one_more}
use Rattle.law_fate.specs.Name.Names.{Named}
use Rattle.law_fate.proofs.Name.Facts.{Fact, Also, IsName, IsValue, AreValues, AreNouns, IsThing, scope, answer, answers}
use Rattle.law_fate.proofs.Name.Care.{Care, Gets, got, got_left, got_right, got_itself, got_both, got_null, got_text, got_none, got_more, got_ref, told_called}
use Rattle.law_fate.proofs.Name.Looks.{look_follow}
use Rattle.law_fate.proofs.Name.EvalFacts.{got_asked, got_audition_ask, got_resolver_ask, got_ejector_ask}
use Rattle.law_never_astray.specs.Formed.{AllOf, Formed}
use Rattle.law_never_astray.specs.Covered.{Covers, ThingCarries}
use Rattle.law_never_astray.proofs.Statics.{IsOpen}
use Rattle.law_never_astray.proofs.Members.{CaseStands, body_stands, cases_stand}
use Rattle.law_never_astray.proofs.Leads.{Nothing, covers_up, slot_there}
use Rattle.law_never_astray.proofs.CoveredEval as stand
use Rattle.law_never_astray.proofs.CoveredEval.{opened, opened_all}
use Rattle.law_never_astray.proofs.Good.{Good, good_bind, good_left, good_ending, good_if, good_give, good_gives, good_throw, good_eject, good_seen, good_told, good_activation, good_look_thing, go_unit, on_number, on_value}
use Rattle.law_never_astray.proofs.Natives.{GoodCaller, Works, on_object, good_ended, good_with_lines, good_make_list, good_data_answer, good_perform, good_leave, good_ejector_answer, good_resolver_answer, good_audition_answer, good_new_ejector, good_hand_over}

-- so do the nodes below
pub record GoodEvaluator {N : Type 0} (S : Care N) (tree : List Node) (Bad : Vat N → Type 0) (Rests : List (Message N) → List (Known N) → Type 0) (rec : Evaluator N) : Type 0 where
  pub expression : (C : Fact N) (many : ℕ) (s t : Scopes) (n : ℕ) (here : Scope N) → Gets S C (AreNouns here.nouns) → IsOpen s → Formed tree Expression n → Scoped tree s n t → Covers many here.nouns s
      → Good S tree Bad Rests C many (rec.expression n here) answer (stand.answer t)
  pub pattern : (C : Fact N) (many : ℕ) (s t : Scopes) (n : ℕ) (v j : Value N) (here : Scope N) → Gets S C (IsValue v) → Gets S C (IsValue j) → Gets S C (AreNouns here.nouns) → IsOpen s → Formed tree Pattern n → Scoped tree s n t → Covers many here.nouns s
      → Good S tree Bad Rests C many (rec.pattern n v j here) scope (stand.environment t)

-- an object of this vat that is named is one of its things
abbrev pub NamesThere : {N W : Type 0} → Naming N W → Care N → Type 0
NamesThere {N} K S = (s : Vat N) (n : N) → S.ok s (Named n) → (i : ℕ) → K.spot n ≡ Own i → i < length s.things

-- ---- facts on what is given

module _ {N : Type 0} (S : Care N) where
  pub lift : {C D F : Fact N} → Gets S C F → Gets S (Also C D) F
  lift {C = C} {D = D} {F = F} g = got_left S C D F g

  pub top : {C D : Fact N} → Gets S (Also C D) D
  top {C = C} {D = D} = got S C D

  pub val : {C : Fact N} (x : Answer N) → Gets S (Also C (answer x)) (IsValue x.value)
  val {C = C} x = got_right S C (answer x) (IsValue x.value) (got_left S (IsValue x.value) (AreNouns x.scope.nouns) (IsValue x.value) (got_itself S (IsValue x.value)))

  pub env : {C : Fact N} (x : Answer N) → Gets S (Also C (answer x)) (AreNouns x.scope.nouns)
  env {C = C} x = got_right S C (answer x) (AreNouns x.scope.nouns) (got S (IsValue x.value) (AreNouns x.scope.nouns))

  pub vals : {C : Fact N} (x : Answers N) → Gets S (Also C (answers x)) (AreValues x.values)
  vals {C = C} x = got_right S C (answers x) (AreValues x.values) (got_left S (AreValues x.values) (AreNouns x.scope.nouns) (AreValues x.values) (got_itself S (AreValues x.values)))

  pub envs : {C : Fact N} (x : Answers N) → Gets S (Also C (answers x)) (AreNouns x.scope.nouns)
  envs {C = C} x = got_right S C (answers x) (AreNouns x.scope.nouns) (got S (AreValues x.values) (AreNouns x.scope.nouns))

  pub two : {C D F : Fact N} → Gets S C D → Gets S C F → Gets S C (Also D F)
  two {C = C} {D = D} {F = F} g k = got_both S C D F g k

  pub more : {C : Fact N} (v : Value N) (vs : List (Value N)) → Gets S C (IsValue v) → Gets S C (AreValues vs) → Gets S C (AreValues (v ∷ vs))
  more {C = C} v vs g k = got_more S C v vs g k

  pub as_ref : {C : Fact N} (n : N) → Gets S C (IsName n) → Gets S C (IsValue (Ref n))
  as_ref {C = C} n g = got_ref S C n g

  pub as_name : {C : Fact N} (n : N) → Gets S C (IsValue (Ref n)) → Gets S C (IsName n)
  as_name n g = record { at = λ s c. g.at s c }

module _ {N W : Type 0} (K : Naming N W) (S : Care N) (tree : List Node) (Bad : Vat N → Type 0) (Rests : List (Message N) → List (Known N) → Type 0) (works : Works K S tree Bad Rests) where
  abbrev Does : Fact N → ℕ → {A : Type 0} → Act N A → (A → Fact N) → (ℕ → A → Type 0) → Type 0
  Does C many m H G = Good S tree Bad Rests C many m H G

  pub good_answered : {C : Fact N} {many : ℕ} (s : Scopes) (here : Scope N) (v : Value N) → Gets S C (IsValue v) → Gets S C (AreNouns here.nouns) → Covers many here.nouns s → Does C many (scopes.answered here v) answer (stand.answer s)
  unfolding scopes.answered
  good_answered {many = many} s here v g e c = good_gives S tree Bad Rests (stand.answer s) _ (two S g e) (λ k l. covers_up many k l here.nouns s c)

  pub good_unless : {A : Type 0} {C : Fact N} {many : ℕ} {H : A → Fact N} {G : ℕ → A → Type 0} (b : Bool) (i : ℕ) (v : Value N) {m : Act N A} → Gets S C (IsValue v) → Does C many m H G → Does C many (if b then m else eject i v) H G
  good_unless b i v g h = good_if S tree Bad Rests b h (good_eject S tree Bad Rests i v g)

  module _ (rec : Evaluator N) (good : GoodEvaluator S tree Bad Rests rec) where
    -- ---- one after another

    pub good_all : (C : Fact N) (many : ℕ) (s t : Scopes) (es : List ℕ) (here : Scope N) → Gets S C (AreNouns here.nouns) → IsOpen s → AllOf (Formed tree Expression) es → AllScoped tree s es t → Covers many here.nouns s → Does C many (eval.all_of K tree rec es here) answers (stand.answers t)
    unfolding eval.all_of
    good_all C many s t es here e o f no_more c = good_gives S tree Bad Rests (stand.answers t) _ (two S (got_none S C) e) (λ k l. covers_up many k l here.nouns t c)
    good_all C many s t es here e o f (one_more {t = r} {n = n} {ns = ms} a b) c = good_bind S tree Bad Rests answer (stand.answer r) (good.expression C many s r n here e o f.0 a c)
        (λ k x l g. good_bind S tree Bad Rests answers (stand.answers t) (good_all (Also C (answer x)) k r t ms x.scope (env S x) (opened tree s r Expression n o f.0 a) f.1 b g)
        (λ i xs m h. good_gives S tree Bad Rests (stand.answers t) _ (two S (more S x.value xs.values (lift S (val S x)) (vals S xs)) (envs S xs)) (λ z w. covers_up i z w xs.scope.nouns t h)))

    pub good_last : (C : Fact N) (many : ℕ) (s t : Scopes) (x : Answer N) (es : List ℕ) → Gets S C (IsValue x.value) → Gets S C (AreNouns x.scope.nouns) → IsOpen s → AllOf (Formed tree Expression) es → AllScoped tree s es t → Covers many x.scope.nouns s
        → Does C many (eval.last_of K tree rec x es) answer (stand.answer t)
    unfolding eval.last_of
    good_last C many s t x es g e o f no_more c = good_gives S tree Bad Rests (stand.answer t) _ (two S g e) (λ k l. covers_up many k l x.scope.nouns t c)
    good_last C many s t x es g e o f (one_more {t = r} {n = n} {ns = ms} a b) c = good_bind S tree Bad Rests answer (stand.answer r) (good.expression C many s r n x.scope e o f.0 a c)
        (λ k y l h. good_last (Also C (answer y)) k r t y ms (val S y) (env S y) (opened tree s r Expression n o f.0 a) f.1 b h)

    pub good_bind_all : (C : Fact N) (many : ℕ) (s t : Scopes) (ps : List ℕ) (vs : List (Value N)) (j : Value N) (here : Scope N) → Gets S C (AreValues vs) → Gets S C (IsValue j) → Gets S C (AreNouns here.nouns) → IsOpen s → AllOf (Formed tree Pattern) ps → AllScoped tree s ps t
        → length ps ≡ length vs → Covers many here.nouns s → Does C many (calls.bind_all K tree rec ps vs j here) scope (stand.environment t)
    unfolding calls.bind_all
    good_bind_all C many s t ps vs j here g i e o f no_more q c = good_gives S tree Bad Rests (stand.environment t) here e (λ k l. covers_up many k l here.nouns t c)
    good_bind_all C many s t ps [] j here g i e o f (one_more a b) q c = absurd (omega (arith, q))
    good_bind_all C many s t ps (v ∷ vs) j here g i e o f (one_more {t = r} {n = p} {ns = qs} a b) q c = let first : Gets S C (IsValue v) = record { at = λ u h. (g.at u h).0 } in let rest : Gets S C (AreValues vs) = record { at = λ u h. (g.at u h).1 } in
        good_bind S tree Bad Rests scope (stand.environment r) (good.pattern C many s r p v j here first i e o f.0 a c)
        (λ k next l h. good_bind_all (Also C (AreNouns next.nouns)) k r t qs vs j next (lift S rest) (lift S i) (top S) (opened tree s r Pattern p o f.0 a) f.1 b (omega (arith, q)) h)

    -- a pattern in a scope of its own, and an expression behind it
    pub good_inside : (C : Fact N) (many : ℕ) (s u w : Scopes) (p b : ℕ) (v j : Value N) (here : Scope N) → Gets S C (IsValue v) → Gets S C (IsValue j) → Gets S C (AreNouns here.nouns) → Formed tree Pattern p → Formed tree Expression b → Scoped tree ([] ∷ s) p u → Scoped tree u b w → Covers many here.nouns s
        → Does C many (rec.pattern p v j here >>= λ inner. rec.expression b inner) answer (stand.answer w)
    good_inside C many s u w p b v j here g i e f h d x c = good_bind S tree Bad Rests scope (stand.environment u) (good.pattern C many ([] ∷ s) u p v j here g i e tt f d c)
        (λ k inner l y. good.expression (Also C (AreNouns inner.nouns)) k u w b inner (top S) (opened tree ([] ∷ s) u Pattern p tt f d) h x y)

    -- ---- objects

    good_match_all : (C : Fact N) (many : ℕ) (s : Scopes) (ms : List Case) (v : Value N) (here : Scope N) → Gets S C (IsValue v) → Gets S C (AreNouns here.nouns) → AllOf (CaseStands tree s) ms → Covers many here.nouns s → Does C many (calls.match_all K tree rec ms v here) IsValue Nothing
    unfolding calls.match_all calls.matched
    good_match_all C many s [] v here g e f c = good_throw S tree Bad Rests _
    good_match_all C many s (m ∷ ms) v here g e f c = let rest = good_match_all C many s ms v here g e f.1 c in
        on_object K S tree Bad Rests works (good_new_ejector K S tree Bad Rests works here.act) (λ j. good_ending S tree Bad Rests scope (stand.environment f.0.inner)
        (good.pattern (Also C (IsName (K.object j))) many ([] ∷ s) f.0.inner m.pattern v (Ref (K.object j)) here (lift S g) (as_ref S (K.object j) (top S)) (lift S e) tt f.0.is_pattern f.0.pattern c)
        (λ k inner l h. good_leave K S tree Bad Rests works j _ (good_bind S tree Bad Rests answer (stand.answer f.0.end) (good.expression _ k f.0.inner f.0.end m.body inner (top S) (opened tree ([] ∷ s) f.0.inner Pattern m.pattern tt f.0.is_pattern f.0.pattern) f.0.is_expression f.0.body h)
        (λ i x q d. good_give S tree Bad Rests x.value (val S x))))
        (λ p. good_leave K S tree Bad Rests works j _ (good_throw S tree Bad Rests p)) (λ n w. good_leave K S tree Bad Rests works j _ (good_hand_over K S tree Bad Rests works here.act j _ (good_left S tree Bad Rests (good_left S tree Bad Rests rest)) n w (top S))))

    good_try_matchers : (C : Fact N) (many : ℕ) (s : Scopes) (ms : List Case) (verb : Words) (args : List (Value N)) (here : Scope N) → Gets S C (AreValues args) → Gets S C (AreNouns here.nouns) → AllOf (CaseStands tree s) ms → Covers many here.nouns s
        → Does C many (calls.try_matchers K tree rec ms verb args here) IsValue Nothing
    unfolding calls.try_matchers
    good_try_matchers C many s [] verb args here g e f c = good_throw S tree Bad Rests _
    good_try_matchers C many s (m ∷ ms) verb args here g e f c = on_value S tree Bad Rests (good_make_list K S tree Bad Rests works here.act args g)
        (λ l. on_value S tree Bad Rests (good_make_list K S tree Bad Rests works here.act (Text verb ∷ l ∷ []) (more S (Text verb) (l ∷ []) (got_text S _ verb) (more S l [] (top S) (got_none S _))))
        (λ pair. good_match_all _ many s (m ∷ ms) pair here (top S) (lift S (lift S e)) f c))

    pub good_run_object : (C : Fact N) (many : ℕ) (s t : Scopes) (members : List ℕ) (verb : Words) (args : List (Value N)) (here : Scope N) → Gets S C (AreValues args) → Gets S C (AreNouns here.nouns) → AllOf (Formed tree Member) members → AllScoped tree s members t → Covers many here.nouns s
        → Does C many (calls.run_object K tree rec members verb args here) IsValue Nothing
    unfolding calls.run_object calls.run_body
    good_run_object C many s t members verb args here g e f d c = go (method_of tree members verb (length args)) refl
      where
        go : (o : Option Body) → method_of tree members verb (length args) ≡ o → Good S tree Bad Rests C many (calls.run_body K tree rec (matchers_of tree members) verb o args here) IsValue Nothing
        go None q = good_try_matchers C many s (matchers_of tree members) verb args here g e (cases_stand tree s t members d f) c
        go (Some b) q = let x = body_stands tree s t members verb (length args) b d f q in
            good_bind S tree Bad Rests scope (stand.environment x.inner) (good_bind_all C many ([] ∷ s) x.inner b.patterns args Null here g (got_null S C) e tt x.are_patterns x.patterns x.many c)
            (λ k inner l h. good_bind S tree Bad Rests answer (stand.answer x.end) (good.expression _ k x.inner x.end b.body inner (top S) (opened_all tree ([] ∷ s) x.inner Pattern b.patterns tt x.are_patterns x.patterns) x.is_expression x.body h)
            (λ i y m w. good_give S tree Bad Rests y.value (val S y)))

    -- ---- calls

    good_call_thing : (again : Caller N) → GoodCaller S tree Bad Rests again → (C : Fact N) (many act : ℕ) (x : Value N) → Gets S C (IsValue x) → (i : ℕ) (t : Thing N) → Gets S C (IsThing t) → ThingCarries tree many t → (verb : Words) (args : List (Value N)) → Gets S C (AreValues args)
        → Does C many (calls.call_thing K tree rec again act x i (Some t) verb args) IsValue Nothing
    unfolding calls.call_thing calls.thing_answer
    good_call_thing again h C many act x gx i (Made node caught stamps) g c verb args e = let nouns : Gets S C (AreNouns caught) = record { at = λ s k. (g.at s k).0 } in on_number S tree Bad Rests (good_activation S tree Bad Rests)
        (λ b. go_unit S tree Bad Rests (good_told S tree Bad Rests _ (told_called S act x verb args (Some b))) (good_ended K S tree Bad Rests works act _ (good_run_object C many c.0 c.1 (members_of (slice_get tree node)) verb args (record { act = b; nouns = caught }) e nouns c.3 c.4 c.2)))
    good_call_thing again h C many act x gx i (Ejector live) g c verb args e = good_with_lines K S tree Bad Rests works act x gx verb args e _ (good_ejector_answer K S tree Bad Rests works i live _ (got_ejector_ask S C verb args e))
    good_call_thing again h C many act x gx i (Audition live view) g c verb args e = good_with_lines K S tree Bad Rests works act x gx verb args e _ (good_audition_answer K S tree Bad Rests works again h act live view c (record { at = λ s k. g.at s k }) _ (got_audition_ask S C verb args e))
    good_call_thing again h C many act x gx i (Resolver p) g c verb args e = good_with_lines K S tree Bad Rests works act x gx verb args e _ (good_resolver_answer K S tree Bad Rests works p (record { at = λ s k. g.at s k }) _ (got_resolver_ask S C verb args e))

    module _ (names : NamesThere K S) where
      good_call_spot : (again : Caller N) → GoodCaller S tree Bad Rests again → (C : Fact N) (many act : ℕ) (x : Value N) → Gets S C (IsValue x) → (n : N) → Gets S C (IsName n) → (p : Spot) → K.spot n ≡ p → (verb : Words) (args : List (Value N)) → Gets S C (AreValues args)
          → Does C many (calls.call_spot K tree rec again act x p verb args) IsValue Nothing
      unfolding calls.call_spot
      good_call_spot again h C many act x gx n g (Own i) q verb args e = good_look_thing S tree Bad Rests i _ (λ s w c f. slot_there s.things i f (names s n (g.at s c) i q)) (λ k t l c. good_call_thing again h _ k act x (lift S gx) i t (top S) c verb args (lift S e))
      good_call_spot again h C many act x gx n g other q verb args e = good_throw S tree Bad Rests _

      good_call_value : (again : Caller N) → GoodCaller S tree Bad Rests again → (C : Fact N) (many act : ℕ) (x y : Value N) → Gets S C (IsValue x) → Gets S C (IsValue y) → (verb : Words) (args : List (Value N)) → Gets S C (AreValues args) → Does C many (calls.call_value K tree rec again act x y verb args) IsValue Nothing
      unfolding calls.call_value
      good_call_value again h C many act x (Ref n) gx g verb args e = good_call_spot again h C many act x gx n (as_name S n g) (K.spot n) refl verb args e
      good_call_value again h C many act x (Broken p) gx g verb args e = good_throw S tree Bad Rests p
      good_call_value again h C many act x (Prim n) gx g verb args e = good_perform K S tree Bad Rests works again h act _ (got_asked S C (native.primitive n) verb args e)
      good_call_value again h C many act x y gx g verb args e = good_with_lines K S tree Bad Rests works act x gx verb args e _ (good_data_answer K S tree Bad Rests works again h act y g verb args e)

      -- a call, over calls inside it
      pub good_call_one : (again : Caller N) → GoodCaller S tree Bad Rests again → GoodCaller S tree Bad Rests (calls.call_one K tree rec again)
      unfolding calls.call_one
      good_call_one again h C many act x g verb args e = on_value S tree Bad Rests (good_seen S tree Bad Rests _ (look_follow K S x g)) (λ y. good_call_value again h _ many act x y (lift S g) (top S) verb args (lift S e))

      -- what a turn does with a message on a value of its own vat
      good_turn_thing : GoodCaller S tree Bad Rests (calls.call K tree rec) → (C : Fact N) (many act i : ℕ) (t : Thing N) → Gets S C (IsThing t) → ThingCarries tree many t → (verb : Words) (args : List (Value N)) → Gets S C (AreValues args)
          → Does C many (calls.turn_thing K tree rec act i (Some t) verb args) IsValue Nothing
      unfolding calls.turn_thing calls.thing_answer
      good_turn_thing h C many act i (Made node caught stamps) g c verb args e = good_run_object C many c.0 c.1 (members_of (slice_get tree node)) verb args (record { act = act; nouns = caught }) e (record { at = λ s k. (g.at s k).0 }) c.3 c.4 c.2
      good_turn_thing h C many act i (Ejector live) g c verb args e = good_ejector_answer K S tree Bad Rests works i live _ (got_ejector_ask S C verb args e)
      good_turn_thing h C many act i (Audition live view) g c verb args e = good_audition_answer K S tree Bad Rests works (calls.call K tree rec) h act live view c (record { at = λ s k. g.at s k }) _ (got_audition_ask S C verb args e)
      good_turn_thing h C many act i (Resolver p) g c verb args e = good_resolver_answer K S tree Bad Rests works p (record { at = λ s k. g.at s k }) _ (got_resolver_ask S C verb args e)

      good_turn_spot : GoodCaller S tree Bad Rests (calls.call K tree rec) → (C : Fact N) (many act : ℕ) (n : N) → Gets S C (IsName n) → (i : ℕ) → K.spot n ≡ Own i → (p : Spot) → K.spot n ≡ p → (verb : Words) (args : List (Value N)) → Gets S C (AreValues args)
          → Does C many (calls.turn_spot K tree rec act p verb args) IsValue Nothing
      unfolding calls.turn_spot
      good_turn_spot h C many act n g i own (Own k) q verb args e = good_look_thing S tree Bad Rests k _ (λ s w c f. slot_there s.things k f (names s n (g.at s c) k q)) (λ z t l c. good_turn_thing h _ z act k t (top S) c verb args (lift S e))
      good_turn_spot h C many act n g i own other q verb args e = cc

      pub good_turn_value : GoodCaller S tree Bad Rests (calls.call K tree rec) → (C : Fact N) (many act : ℕ) (x : Value N) → Gets S C (IsValue x) → ((n : N) → x ≡ Ref n → (i : ℕ) × (K.spot n ≡ Own i)) → (verb : Words) (args : List (Value N)) → Gets S C (AreValues args)
          → Does C many (calls.turn_value K tree rec act x verb args) IsValue Nothing
      unfolding calls.turn_value
      good_turn_value h C many act (Ref n) g own verb args e = let o = own n refl in good_turn_spot h C many act n (as_name S n g) o.0 o.1 (K.spot n) refl verb args e
      good_turn_value h C many act (Broken p) g own verb args e = good_throw S tree Bad Rests p
      good_turn_value h C many act (Prim n) g own verb args e = good_perform K S tree Bad Rests works (calls.call K tree rec) h act _ (got_asked S C (native.primitive n) verb args e)
      good_turn_value h C many act y g own verb args e = good_data_answer K S tree Bad Rests works (calls.call K tree rec) h act y g verb args e
