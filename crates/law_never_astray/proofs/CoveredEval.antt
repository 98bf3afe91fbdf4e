-- Evaluation in an environment that covers the scopes of a node gives one that covers the scopes after it.
use Rattle.std.proofs.Common.{◌≡◌, ℕ, Bool, true, false, List, [], ◌∷◌, Option, Some, None, if◌then◌else◌, ◌==◌, refl, ◌⊎◌, inl, inr, length, arith}
use Rattle.std.specs.Prelude.{slice_get}
use Rattle.def_machine.specs.Values.{Words, Value, Null, Flag, Prim, Broken, Ref, Naming, Spot, Own, Foreign, NoObject}
use Rattle.def_machine.specs.State.{Scope, View, Thing, Made, Ejector, Audition, Resolver, Vat, Astray, Act, ◌>>=◌, stop, eject}
use Rattle.def_machine.specs.Scopes as scopes
use Rattle.def_machine.specs.Calls as calls
use Rattle.def_machine.specs.Eval as eval
use Rattle.def_machine.specs.Scopes.{Answer, Answers, Evaluator, Caller, Body, Case, AuditionAsk, GetsForm, GetsGuard, Asks, NoAuditionAsk, members_of, method_of, matchers_of}
use Rattle.def_kernel.specs.declared.node.Node.{Node}
use Rattle.def_kernel.specs.declared.shape.Kind.{Kind}
use Rattle.def_kernel.specs.declared.shape.Kind.TheVariants.{Expression, Pattern, Member}
use Rattle.law_never_astray.specs.Scoped.{Scopes, Scoped, AllScoped, no_more, one_more}
use Rattle.law_never_astray.specs.Formed.{AllOf, Formed}
use Rattle.law_never_astray.specs.Covered.{Covers, ThingCarries}
use Rattle.law_never_astray.proofs.Statics.{IsOpen}
use Rattle.law_never_astray.proofs.Binds.{node_binds, all_binds}
use Rattle.law_never_astray.proofs.Members.{CaseStands, body_stands, cases_stand}
use Rattle.law_never_astray.proofs.Leads.{AtStops, Leads, Nothing, Refers, MayStop, covers_up, lead_bind, lead_next, lead_then, lead_give, lead_gives, lead_look, lead_throw, lead_eject, lead_stop, lead_if, lead_ending, lead_tell, lead_activation, lead_thing, lead_kill, lead_look_thing}
use Rattle.law_never_astray.proofs.CoveredNatives.{GoodCaller, IsSeen, lead_ended, lead_with_lines, lead_make_list, lead_data_answer, lead_reply, lead_perform, lead_verdict, lead_ejector_answer, lead_resolver_answer}
use Rattle.law_never_astray.proofs.Forms.{lead_form}

abbrev pub answer : {N : Type 0} → Scopes → ℕ → Answer N → Type 0
answer t k x = Covers k x.scope.nouns t

abbrev pub answers : {N : Type 0} → Scopes → ℕ → Answers N → Type 0
answers t k x = Covers k x.scope.nouns t

abbrev pub environment : {N : Type 0} → Scopes → ℕ → Scope N → Type 0
environment t k here = Covers k here.nouns t

-- so do the nodes below
pub record GoodEvaluator {N : Type 0} (tree : List Node) (F : AtStops N) (rec : Evaluator N) : Type 0 where
  pub expression : (many : ℕ) (s t : Scopes) (n : ℕ) (here : Scope N) → IsOpen s → Formed tree Expression n → Scoped tree s n t → Covers many here.nouns s → Leads tree F many (answer t) (rec.expression n here)
  pub pattern : (many : ℕ) (s t : Scopes) (n : ℕ) (v j : Value N) (here : Scope N) → IsOpen s → Formed tree Pattern n → Scoped tree s n t → Covers many here.nouns s → Leads tree F many (environment t) (rec.pattern n v j here)

module _ (tree : List Node) where
  pub opened : (s t : Scopes) (kind : Kind) (n : ℕ) → IsOpen s → Formed tree kind n → Scoped tree s n t → IsOpen t
  opened s t kind n o f d = let b = node_binds tree s t n d o (length tree) kind f in b.opened

  pub opened_all : (s t : Scopes) (kind : Kind) (ns : List ℕ) → IsOpen s → AllOf (Formed tree kind) ns → AllScoped tree s ns t → IsOpen t
  opened_all s t kind ns o f d = let b = all_binds tree s t ns d o (length tree) kind f in b.opened

module _ {N W : Type 0} (K : Naming N W) (tree : List Node) (F : AtStops N) (may : MayStop F) (refs : Refers K tree F) where
  pub lead_answered : (many : ℕ) (s : Scopes) (here : Scope N) (v : Value N) → Covers many here.nouns s → Leads tree F many (answer s) (scopes.answered here v)
  unfolding scopes.answered
  lead_answered many s here v c = lead_gives tree F (answer s) _ (λ k l. covers_up many k l here.nouns s c)

  pub lead_ejector : (many act : ℕ) → Leads tree F many Nothing (calls.new_ejector K tree act)
  unfolding calls.new_ejector
  lead_ejector many act = lead_next tree F (lead_thing tree F (Ejector true) (λ k l. tt)) (λ j. lead_then tree F (lead_tell tree F _) (lead_give tree F j))

  pub lead_leave : {A : Type 0} {many : ℕ} {H : ℕ → A → Type 0} (j : ℕ) {m : Act N A} → Leads tree F many H m → Leads tree F many H (calls.leave K tree j m)
  unfolding calls.leave
  lead_leave j h = lead_then tree F (lead_kill tree F j) h

  pub lead_unless : {A : Type 0} {many : ℕ} {H : ℕ → A → Type 0} (b : Bool) (i : ℕ) (v : Value N) {m : Act N A} → Leads tree F many H m → Leads tree F many H (if b then m else eject i v)
  lead_unless b i v h = lead_if tree F b h (lead_eject tree F i v)

  -- ---- things

  lead_audition_live : (many : ℕ) (again : Caller N) → GoodCaller tree F again → (act : ℕ) (view : View N) → IsSeen tree view → (ask : AuditionAsk N) → Leads tree F many Nothing (calls.audition_live K tree again act view ask)
  unfolding calls.audition_live
  lead_audition_live many again h act view seen GetsForm = lead_form K tree F may.fuel many act view.node seen.0 seen.1
  lead_audition_live many again h act view seen (GetsGuard x) = lead_next tree F (lead_look tree F _) (λ r. lead_reply K tree F may refs many again h act r)
  lead_audition_live many again h act view seen (Asks a) = lead_next tree F (lead_look tree F _) (λ y. lead_next tree F (lead_verdict K tree F may refs many again h act view seen a y) (λ b. lead_give tree F (Flag b)))
  lead_audition_live many again h act view seen NoAuditionAsk = lead_throw tree F _

  lead_audition_answer : (many : ℕ) (again : Caller N) → GoodCaller tree F again → (act : ℕ) (live : Bool) (view : View N) → IsSeen tree view → (ask : AuditionAsk N) → Leads tree F many Nothing (calls.audition_answer K tree again act live view ask)
  unfolding calls.audition_answer
  lead_audition_answer many again h act live view seen NoAuditionAsk = lead_throw tree F _
  lead_audition_answer many again h act true view seen ask = lead_audition_live many again h act view seen ask
  lead_audition_answer many again h act false view seen ask = lead_throw tree F _

  module _ (rec : Evaluator N) (good : GoodEvaluator tree F rec) where
    -- ---- one after another

    pub lead_all : (many : ℕ) (s t : Scopes) (es : List ℕ) (here : Scope N) → IsOpen s → AllOf (Formed tree Expression) es → AllScoped tree s es t → Covers many here.nouns s → Leads tree F many (answers t) (eval.all_of K tree rec es here)
    unfolding eval.all_of
    lead_all many s t es here o f no_more c = lead_gives tree F (answers t) _ (λ k l. covers_up many k l here.nouns t c)
    lead_all many s t es here o f (one_more {t = r} {n = e} {ns = ms} a b) c = lead_bind tree F (answer r) (good.expression many s r e here o f.0 a c)
        (λ k x l g. lead_bind tree F (answers t) (lead_all k r t ms x.scope (opened tree s r Expression e o f.0 a) f.1 b g) (λ i xs m h. lead_gives tree F (answers t) _ (λ z w. covers_up i z w xs.scope.nouns t h)))

    pub lead_last : (many : ℕ) (s t : Scopes) (x : Answer N) (es : List ℕ) → IsOpen s → AllOf (Formed tree Expression) es → AllScoped tree s es t → Covers many x.scope.nouns s → Leads tree F many (answer t) (eval.last_of K tree rec x es)
    unfolding eval.last_of
    lead_last many s t x es o f no_more c = lead_gives tree F (answer t) _ (λ k l. covers_up many k l x.scope.nouns t c)
    lead_last many s t x es o f (one_more {t = r} {n = e} {ns = ms} a b) c = lead_bind tree F (answer r) (good.expression many s r e x.scope o f.0 a c) (λ k y l g. lead_last k r t y ms (opened tree s r Expression e o f.0 a) f.1 b g)

    pub lead_bind_all : (many : ℕ) (s t : Scopes) (ps : List ℕ) (vs : List (Value N)) (j : Value N) (here : Scope N) → IsOpen s → AllOf (Formed tree Pattern) ps → AllScoped tree s ps t → length ps ≡ length vs → Covers many here.nouns s
        → Leads tree F many (environment t) (calls.bind_all K tree rec ps vs j here)
    unfolding calls.bind_all
    lead_bind_all many s t ps vs j here o f no_more e c = lead_gives tree F (environment t) _ (λ k l. covers_up many k l here.nouns t c)
    lead_bind_all many s t ps [] j here o f (one_more a b) e c = absurd (omega (arith, e))
    lead_bind_all many s t ps (v ∷ vs) j here o f (one_more {t = r} {n = p} {ns = qs} a b) e c = lead_bind tree F (environment r) (good.pattern many s r p v j here o f.0 a c)
        (λ k next l g. lead_bind_all k r t qs vs j next (opened tree s r Pattern p o f.0 a) f.1 b (omega (arith, e)) g)

    -- a pattern in a scope of its own, and an expression behind it
    pub lead_inside : (many : ℕ) (s u w : Scopes) (p b : ℕ) (v j : Value N) (here : Scope N) → Formed tree Pattern p → Formed tree Expression b → Scoped tree ([] ∷ s) p u → Scoped tree u b w → Covers many here.nouns s
        → Leads tree F many (answer w) (rec.pattern p v j here >>= λ inner. rec.expression b inner)
    lead_inside many s u w p b v j here f g d e c = lead_bind tree F (environment u) (good.pattern many ([] ∷ s) u p v j here tt f d c) (λ k inner l h. good.expression k u w b inner (opened tree ([] ∷ s) u Pattern p tt f d) g e h)

    -- ---- objects

    lead_match_all : (many : ℕ) (s : Scopes) (ms : List Case) (v : Value N) (here : Scope N) → AllOf (CaseStands tree s) ms → Covers many here.nouns s → Leads tree F many Nothing (calls.match_all K tree rec ms v here)
    unfolding calls.match_all calls.matched calls.hand_over
    lead_match_all many s [] v here f c = lead_throw tree F _
    lead_match_all many s (m ∷ ms) v here f c = let rest = lead_match_all many s ms v here f.1 c in
        lead_next tree F (lead_ejector many here.act) (λ j. lead_ending tree F (environment f.0.inner) (good.pattern many ([] ∷ s) f.0.inner m.pattern v (Ref (K.object j)) here tt f.0.is_pattern f.0.pattern c)
        (λ k inner l g. lead_leave j (lead_bind tree F (answer f.0.end) (good.expression k f.0.inner f.0.end m.body inner (opened tree ([] ∷ s) f.0.inner Pattern m.pattern tt f.0.is_pattern f.0.pattern) f.0.is_expression f.0.body g) (λ i x m' h. lead_give tree F x.value)))
        (λ p. lead_leave j (lead_throw tree F p)) (λ n w. lead_leave j (lead_unless (n == j) n w (lead_then tree F (lead_tell tree F _) rest))))

    lead_try_matchers : (many : ℕ) (s : Scopes) (ms : List Case) (verb : Words) (args : List (Value N)) (here : Scope N) → AllOf (CaseStands tree s) ms → Covers many here.nouns s → Leads tree F many Nothing (calls.try_matchers K tree rec ms verb args here)
    unfolding calls.try_matchers
    lead_try_matchers many s [] verb args here f c = lead_throw tree F _
    lead_try_matchers many s (m ∷ ms) verb args here f c = lead_next tree F (lead_make_list K tree F may refs many here.act args)
        (λ l. lead_next tree F (lead_make_list K tree F may refs many here.act _) (λ pair. lead_match_all many s (m ∷ ms) pair here f c))

    lead_run_object : (many : ℕ) (s t : Scopes) (members : List ℕ) (verb : Words) (args : List (Value N)) (here : Scope N) → AllOf (Formed tree Member) members → AllScoped tree s members t → Covers many here.nouns s
        → Leads tree F many Nothing (calls.run_object K tree rec members verb args here)
    unfolding calls.run_object calls.run_body
    lead_run_object many s t members verb args here f d c = go (method_of tree members verb (length args)) refl
      where
        go : (o : Option Body) → method_of tree members verb (length args) ≡ o → Leads tree F many Nothing (calls.run_body K tree rec (matchers_of tree members) verb o args here)
        go None e = lead_try_matchers many s (matchers_of tree members) verb args here (cases_stand tree s t members d f) c
        go (Some b) e = let x = body_stands tree s t members verb (length args) b d f e in
            lead_bind tree F (environment x.inner) (lead_bind_all many ([] ∷ s) x.inner b.patterns args Null here tt x.are_patterns x.patterns x.many c)
            (λ k inner l g. lead_bind tree F (answer x.end) (good.expression k x.inner x.end b.body inner (opened_all tree ([] ∷ s) x.inner Pattern b.patterns tt x.are_patterns x.patterns) x.is_expression x.body g) (λ i y m h. lead_give tree F y.value))

    -- ---- calls

    lead_call_thing : (again : Caller N) → GoodCaller tree F again → (many act : ℕ) (x : Value N) (i : ℕ) (t : Thing N) → ThingCarries tree many t → (verb : Words) (args : List (Value N)) → Leads tree F many Nothing (calls.call_thing K tree rec again act x i (Some t) verb args)
    unfolding calls.call_thing calls.thing_answer
    lead_call_thing again h many act x i (Made node caught stamps) c verb args = lead_next tree F (lead_activation tree F)
        (λ b. lead_then tree F (lead_tell tree F _) (lead_ended tree F act _ (lead_run_object many c.0 c.1 (members_of (slice_get tree node)) verb args (record { act = b; nouns = caught }) c.3 c.4 c.2)))
    lead_call_thing again h many act x i (Ejector live) c verb args = lead_with_lines tree F act x verb args _ (lead_ejector_answer K tree F may refs many i live _)
    lead_call_thing again h many act x i (Audition live view) c verb args = lead_with_lines tree F act x verb args _ (lead_audition_answer many again h act live view c _)
    lead_call_thing again h many act x i (Resolver p) c verb args = lead_with_lines tree F act x verb args _ (lead_resolver_answer K tree F may refs many p _)

    lead_call_spot : (again : Caller N) → GoodCaller tree F again → (many act : ℕ) (x : Value N) (p : Spot) (verb : Words) (args : List (Value N)) → Leads tree F many Nothing (calls.call_spot K tree rec again act x p verb args)
    unfolding calls.call_spot calls.call_thing stop
    lead_call_spot again h many act x (Own i) verb args = lead_look_thing tree F i _ (λ s e. may.lost s i e) (λ k t l c. lead_call_thing again h k act x i t c verb args)
    lead_call_spot again h many act x other verb args = lead_throw tree F _

    lead_call_value : (again : Caller N) → GoodCaller tree F again → (many act : ℕ) (x y : Value N) (verb : Words) (args : List (Value N)) → Leads tree F many Nothing (calls.call_value K tree rec again act x y verb args)
    unfolding calls.call_value
    lead_call_value again h many act x (Ref n) verb args = lead_call_spot again h many act x (K.spot n) verb args
    lead_call_value again h many act x (Broken p) verb args = lead_throw tree F p
    lead_call_value again h many act x (Prim n) verb args = lead_perform K tree F may refs many again h act _
    lead_call_value again h many act x y verb args = lead_with_lines tree F act x verb args _ (lead_data_answer K tree F may refs many again h act y verb args)

    -- a call, over calls inside it
    pub lead_call_one : (again : Caller N) → GoodCaller tree F again → GoodCaller tree F (calls.call_one K tree rec again)
    unfolding calls.call_one
    lead_call_one again h many act x verb args = lead_next tree F (lead_look tree F _) (λ y. lead_call_value again h many act x y verb args)

    -- what a turn does with a message on a value of its own vat
    lead_turn_thing : GoodCaller tree F (calls.call K tree rec) → (many act i : ℕ) (t : Thing N) → ThingCarries tree many t → (verb : Words) (args : List (Value N)) → Leads tree F many Nothing (calls.turn_thing K tree rec act i (Some t) verb args)
    unfolding calls.turn_thing calls.thing_answer
    lead_turn_thing h many act i (Made node caught stamps) c verb args = lead_run_object many c.0 c.1 (members_of (slice_get tree node)) verb args (record { act = act; nouns = caught }) c.3 c.4 c.2
    lead_turn_thing h many act i (Ejector live) c verb args = lead_ejector_answer K tree F may refs many i live _
    lead_turn_thing h many act i (Audition live view) c verb args = lead_audition_answer many (calls.call K tree rec) h act live view c _
    lead_turn_thing h many act i (Resolver p) c verb args = lead_resolver_answer K tree F may refs many p _

    lead_turn_spot : GoodCaller tree F (calls.call K tree rec) → (many act i : ℕ) (verb : Words) (args : List (Value N)) → Leads tree F many Nothing (calls.turn_spot K tree rec act (Own i) verb args)
    unfolding calls.turn_spot calls.turn_thing stop
    lead_turn_spot h many act i verb args = lead_look_thing tree F i _ (λ s e. may.lost s i e) (λ k t l c. lead_turn_thing h k act i t c verb args)

    -- where it is of another vat, of a stop
    lead_aimed : GoodCaller tree F (calls.call K tree rec) → (many act : ℕ) (p : Spot) → ((i : ℕ) × (p ≡ Own i)) ⊎ ((s : Vat N) → F Astray s) → (verb : Words) (args : List (Value N)) → Leads tree F many Nothing (calls.turn_spot K tree rec act p verb args)
    unfolding calls.turn_spot
    lead_aimed h many act (Own i) o verb args = lead_turn_spot h many act i verb args
    lead_aimed h many act (Foreign w) (inl o) verb args = let e = o.1 in cc
    lead_aimed h many act NoObject (inl o) verb args = let e = o.1 in cc
    lead_aimed h many act other (inr o) verb args = lead_stop tree F Astray o

    pub lead_turn_value : GoodCaller tree F (calls.call K tree rec) → (many act : ℕ) (x : Value N) → ((n : N) → x ≡ Ref n → ((i : ℕ) × (K.spot n ≡ Own i)) ⊎ ((s : Vat N) → F Astray s)) → (verb : Words) (args : List (Value N)) → Leads tree F many Nothing (calls.turn_value K tree rec act x verb args)
    unfolding calls.turn_value
    lead_turn_value h many act (Ref n) own verb args = lead_aimed h many act (K.spot n) (own n refl) verb args
    lead_turn_value h many act (Broken p) own verb args = lead_throw tree F p
    lead_turn_value h many act (Prim n) own verb args = lead_perform K tree F may refs many (calls.call K tree rec) h act _
    lead_turn_value h many act y own verb args = lead_data_answer K tree F may refs many (calls.call K tree rec) h act y verb args
