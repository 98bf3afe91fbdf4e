-- All of evaluation, and whole turns.
use Rattle.std.proofs.Common.{ℕ, zero, suc, ◌<◌, Bool, true, false, List, [], ◌∷◌, Option, Some, None, ◌==◌, refl, length, codes}
use Rattle.std.specs.Prelude.{slice_get}
use Rattle.def_machine.specs.Values.{Words, Value, Null, Flag, Text, Broken, Items, Ref, Name, Naming, naming}
use Rattle.def_machine.specs.State.{Bound, Fixed, Slot, Binding, Scope, Cell, Message, Took, Finished, Threw, Got, SlotRead, SlotWrote, Deep, Astray, Vat, Happened, Stop, Act, WhereSome, ◌>>=◌, ◌>>◌, give, stop, look, tell, new_slot}
use Rattle.def_machine.specs.Free.{BoundNoun, bound_nouns}
use Rattle.def_machine.specs.Form.{literal_value}
use Rattle.def_machine.specs.Native as native
use Rattle.def_machine.specs.Refs as refs
use Rattle.def_kernel.specs.declared.node.Literal.{Literal}
use Rattle.def_machine.specs.Scopes as scopes
use Rattle.def_machine.specs.Scopes.{Answer, Answers, Evaluator}
use Rattle.def_machine.specs.Perform as perform
use Rattle.def_machine.specs.Calls as calls
use Rattle.def_machine.specs.Eval as eval
use Rattle.def_kernel.specs.declared.node.Node.{Node}
use Rattle.def_kernel.specs.declared.node.Node.TheVariants.{Hide, Any}
use Rattle.law_text.specs.Text.Feeds.{AllOf}
use Rattle.law_text.specs.RunTexts.Fitting.{Limits, TextFits, LineFits, IsLow, NameFits, ValueFits, ValuesFit, BoundFits, NounsFit, CellFits, MessageFits}
use Rattle.law_text.specs.RunTexts.Spelled.{LiteralFits, NodeFits, TreeFits}
use Rattle.law_text.proofs.RunTexts.Fine.{Fine, nothing, fine_bind, fine_then, fine_give, fine_throw, fine_eject, fine_stop, fine_look, fine_some, fine_if, fine_ending, fine_tell, fine_spend, fine_activation, fine_slot, fine_write}
use Rattle.law_text.proofs.RunTexts.Texts.{plain}
use Rattle.law_text.proofs.RunTexts.Natives.{entry_has, list_at_fits}
use Rattle.law_text.proofs.RunTexts.Refs.{where_is, fine_settle, fine_resolve, look_follow}
use Rattle.law_text.proofs.RunTexts.Perform.{GoodCaller, fine_failed, fine_handed, fine_coerce}
use Rattle.law_text.proofs.RunTexts.Calls.{ScopeFits, AnswerFits, AnswersFit, GoodEvaluator, bound_fits, literal_fits, made_object, fine_answered, fine_leave, fine_ejector, fine_bind_all, fine_unless, fine_call, fine_turn_value, fine_make_object, node_at}

-- what is known where the first has a member
record Knows (C D : Type 0) : Type 0 where
  pub from : C → D

known_last : {C D : Type 0} → Knows (C × D) D
known_last = record { from = λ c. c.1 }

known_left : {C D F : Type 0} → Knows C F → Knows (C × D) F
known_left h = record { from = λ c. h.from c.0 }

known_right : {C D F : Type 0} → Knows D F → Knows (C × D) F
known_right h = record { from = λ c. h.from c.1 }

known_itself : {C : Type 0} → Knows C C
known_itself = record { from = λ c. c }

known_text : {C : Type 0} {t : Words} → TextFits t → Knows C (TextFits t)
known_text h = record { from = λ c. h }

known_nothing : {C : Type 0} → Knows C (Unit {0})
known_nothing = record { from = λ c. tt }

known_both : {C D F : Type 0} → Knows C D → Knows C F → Knows C (D × F)
known_both h k = record { from = λ c. (h.from c, k.from c) }

known_three : {C D F G : Type 0} → Knows C D → Knows C F → Knows C G → Knows C (D × F × G)
known_three h k l = record { from = λ c. (h.from c, k.from c, l.from c) }

module _ (L : Limits) (word : ℕ → ℕ) (v : ℕ) (inside : v < L.many) (tree : List Node) (good_tree : TreeFits tree) where
  abbrev K : Naming Name Name
  K = naming word v

  answered : {C : Type 0} (here : Scope Name) (x : Value Name) → (C → ScopeFits L here) → (C → ValueFits L x) → Fine L C (scopes.answered here x) (AnswerFits L)
  answered here x h f = fine_answered L word v inside tree good_tree here x h f

  -- ---- nouns

  safe_fits : (x : Words) → WhereSome (ValueFits L) (native.safe_value x)
  unfolding native.safe_value native.prims_from
  safe_fits x = entry_has (WhereSome (ValueFits L)) _ _ x (tt, (tt, (tt, (refl, (refl, (refl, (refl, (refl, (refl, (refl, (refl, (refl, (refl, (refl, (refl, (refl, (refl, (refl, (refl, (refl, (refl, (refl, (refl, tt))))))))))))))))))))))) tt

  look_cell : {C : Type 0} (k : ℕ) → Fine L C (look (λ (s : Vat Name). slice_get s.slots k)) (WhereSome (CellFits L))
  look_cell k = fine_look L _ (λ s h c. found s.slots k h.slots)
    where
      found : (cs : List (Cell Name)) (k : ℕ) → AllOf (CellFits L) cs → WhereSome (CellFits L) (slice_get cs k)
      found [] k h = tt
      found (x ∷ cs) zero h = h.0
      found (x ∷ cs) (suc k) h = found cs k h.1

  read_bound : {C : Type 0} (act : ℕ) (o : Option (Bound Name)) (x : Words) → (C → IsLow L act) → (C → WhereSome (BoundFits L) o) → Fine L C (scopes.read_bound act o x) (ValueFits L)
  unfolding scopes.read_bound scopes.read_cell
  read_bound act (Some (Fixed y g)) x a f = fine_give L y (λ c. (f c).0)
  read_bound {C = C} act (Some (Slot k)) x a f = fine_bind L (WhereSome (CellFits L)) (look_cell k) (λ o. cell o)
    where
      cell : (o : Option (Cell Name)) → Fine L (C × WhereSome (CellFits L) o) (scopes.read_cell act k o) (ValueFits L)
      cell None = fine_stop L Astray
      cell (Some d) = fine_then L (fine_tell L (SlotRead act k d.value) (λ c. (a c.0, f c.0, c.1.1))) (fine_give L d.value (λ c. c.1.1))
  read_bound act None x a f = fine_some L (ValueFits L) (native.safe_value x) (λ y e. fine_give L y (λ c. where_is (ValueFits L) (native.safe_value x) y e (safe_fits x))) (fine_stop L Astray)

  module _ (rec : Evaluator Name) (good : GoodEvaluator L rec) where
    again : GoodCaller L (calls.call K tree rec)
    again = fine_call L word v inside tree good_tree rec good

    all_of : (es : List ℕ) (here : Scope Name) {C : Type 0} → (C → ScopeFits L here) → Fine L C (eval.all_of K tree rec es here) (AnswersFit L)
    unfolding eval.all_of
    all_of [] here h = fine_give L _ (λ c. (tt, h c))
    all_of (e ∷ es) here h = fine_bind L (AnswerFits L) (good.expression _ e here h) (λ x. fine_bind L (AnswersFit L) (all_of es x.scope (λ c. c.1.1)) (λ xs. fine_give L _ (λ c. ((c.0.1.0, c.1.0), c.1.1))))

    last_of : (x : Answer Name) (es : List ℕ) {C : Type 0} → (C → AnswerFits L x) → Fine L C (eval.last_of K tree rec x es) (AnswerFits L)
    unfolding eval.last_of
    last_of x [] h = fine_give L x h
    last_of x (e ∷ es) h = fine_bind L (AnswerFits L) (good.expression _ e x.scope (λ c. (h c).1)) (λ y. last_of y es (λ c. c.1))

    exit_of : {C : Type 0} (o : Option ℕ) (here : Scope Name) → (C → ScopeFits L here) → Fine L C (eval.exit_of K tree rec o here) (AnswerFits L)
    unfolding eval.exit_of
    exit_of None here h = answered here Null h (λ c. tt)
    exit_of (Some j) here h = good.expression _ j here h

    -- a pattern and an expression behind it, answered round them
    handled : {C : Type 0} (p b : ℕ) (x j : Value Name) (here : Scope Name) → (C → ValueFits L x) → (C → ValueFits L j) → (C → ScopeFits L here) → Fine L C (rec.pattern p x j here >>= λ inner. rec.expression b inner >>= λ y. scopes.answered here y.value) (AnswerFits L)
    handled p b x j here f g h = fine_bind L (ScopeFits L) (good.pattern _ p x j here f g h) (λ inner. fine_bind L (AnswerFits L) (good.expression _ b inner (λ c. c.1)) (λ y. answered here y.value (λ c. h c.0.0) (λ c. c.1.0)))

    caught_by : {C : Type 0} (here : Scope Name) (o : Option (ℕ × ℕ)) (x : Value Name) → (C → ScopeFits L here) → (C → ValueFits L x) → Fine L C (eval.caught_by K tree rec here o x) (AnswerFits L)
    unfolding eval.caught_by
    caught_by here None x h f = fine_then L (fine_tell L (Got here.act x) (λ c. ((h c).0, f c))) (answered here x h f)
    caught_by here (Some q) x h f = fine_then L (fine_tell L (Got here.act x) (λ c. ((h c).0, f c))) (handled q.0 q.1 x Null here f (λ c. tt) h)

    escaped : {C : Type 0} (j : ℕ) (here : Scope Name) (o : Option (ℕ × ℕ)) {m : Act Name (Answer Name)} → (C → ScopeFits L here) → Fine L C m (AnswerFits L) → Fine L C (eval.escaped K tree rec j here o m) (AnswerFits L)
    unfolding eval.escaped
    escaped j here o h k = fine_ending L (AnswerFits L) k (λ x. fine_leave L word v inside tree good_tree j (answered here x.value (λ c. h c.0) (λ c. c.1.0))) (λ p. fine_leave L word v inside tree good_tree j (fine_throw L p (λ c. c.1)))
        (λ n x. fine_leave L word v inside tree good_tree j (fine_unless L word v inside tree good_tree rec good (n == j) n x (λ c. c.1) (caught_by here o x (λ c. h c.0) (λ c. c.1))))

    tried : {C : Type 0} (p b : ℕ) (here : Scope Name) {m : Act Name (Answer Name)} → (C → ScopeFits L here) → Fine L C m (AnswerFits L) → Fine L C (eval.tried K tree rec p b here m) (AnswerFits L)
    unfolding eval.tried eval.handles
    tried p b here h k = fine_ending L (AnswerFits L) k (λ x. answered here x.value (λ c. h c.0) (λ c. c.1.0)) (λ t. handled p b (Text t) Null here (λ c. c.1) (λ c. tt) (λ c. h c.0)) (λ n x. fine_eject L n x (λ c. c.1))

    at_last : {C : Type 0} (b : ℕ) (here : Scope Name) {m : Act Name (Answer Name)} → (C → ScopeFits L here) → Fine L C m (AnswerFits L) → Fine L C (eval.at_last K tree rec b here m) (AnswerFits L)
    unfolding eval.at_last
    at_last b here h k = fine_ending L (AnswerFits L) k (λ x. fine_then L (good.expression _ b here (λ c. h c.0)) (answered here x.value (λ c. h c.0) (λ c. c.1.0)))
        (λ p. fine_then L (good.expression _ b here (λ c. h c.0)) (fine_throw L p (λ c. c.1))) (λ n x. fine_then L (good.expression _ b here (λ c. h c.0)) (fine_eject L n x (λ c. c.1)))

    choose : {C : Type 0} (a b : ℕ) (here inner : Scope Name) (y : Value Name) → (C → ScopeFits L here) → (C → ScopeFits L inner) → Fine L C (eval.choose K tree rec a b here inner y) (AnswerFits L)
    unfolding eval.choose
    choose a b here inner (Flag true) h i = fine_bind L (AnswerFits L) (good.expression _ a inner i) (λ x. answered here x.value (λ c. h c.0) (λ c. c.1.0))
    choose a b here inner (Flag false) h i = fine_bind L (AnswerFits L) (good.expression _ b here h) (λ x. answered here x.value (λ c. h c.0) (λ c. c.1.0))
    choose a b here inner _ h i = fine_throw L _ (λ c. plain _ refl)

    unmatched_noun : {C : Type 0} (act : ℕ) (b : Bool) → (C → IsLow L act) → Fine L C (eval.unmatched_noun K tree act b) (BoundFits L)
    unfolding eval.unmatched_noun eval.no_match scopes.any_guard
    unmatched_noun act false a = fine_give L _ (λ c. (plain _ refl, refl))
    unmatched_noun act true a = fine_bind L (IsLow L) (fine_slot L _ _ (λ c. refl) (λ c. plain _ refl)) (λ k. fine_then L (fine_tell L _ (λ c. (a c.0, c.1, plain _ refl))) (fine_give L (Slot k) (λ c. c.1)))

    unmatched : (bs : List BoundNoun) (here : Scope Name) {C : Type 0} → (C → ScopeFits L here) → Fine L C (eval.unmatched K tree bs here) (ScopeFits L)
    unfolding eval.unmatched scopes.with_noun
    unmatched [] here h = fine_give L here h
    unmatched (b ∷ bs) here h = fine_bind L (BoundFits L) (unmatched_noun here.act b.is_var (λ c. (h c).0)) (λ o. unmatched bs (scopes.with_noun b.noun o here) (λ c. ((h c.0).0, (c.1, (h c.0).1))))

    not_matched : {C : Type 0} (p : ℕ) (here : Scope Name) (x : Value Name) → (C → ScopeFits L here) → (C → ValueFits L x) → Fine L C (eval.not_matched K tree p here x) (AnswerFits L)
    unfolding eval.not_matched
    not_matched p here x h f = fine_then L (fine_tell L (Got here.act x) (λ c. ((h c).0, f c))) (fine_bind L (ScopeFits L) (unmatched (bound_nouns tree p) here h) (λ after. answered after (Flag false) (λ c. c.1) (λ c. tt)))

    match_ended : {C : Type 0} (j p : ℕ) (here : Scope Name) {m : Act Name (Scope Name)} → (C → ScopeFits L here) → Fine L C m (ScopeFits L) → Fine L C (eval.match_ended K tree j p here m) (AnswerFits L)
    unfolding eval.match_ended
    match_ended j p here h k = fine_ending L (ScopeFits L) k (λ inner. fine_leave L word v inside tree good_tree j (answered inner (Flag true) (λ c. c.1) (λ c. tt))) (λ t. fine_leave L word v inside tree good_tree j (fine_throw L t (λ c. c.1)))
        (λ n x. fine_leave L word v inside tree good_tree j (fine_unless L word v inside tree good_tree rec good (n == j) n x (λ c. c.1) (not_matched p here x (λ c. h c.0) (λ c. c.1))))

    write_bound : {C : Type 0} (act : ℕ) (o : Option (Bound Name)) (x : Value Name) → (C → IsLow L act) → (C → WhereSome (BoundFits L) o) → (C → ValueFits L x) → Fine L C (eval.write_bound K tree rec act o x) (ValueFits L)
    unfolding eval.write_bound eval.write_cell
    write_bound act (Some (Fixed y g)) x a f h = fine_stop L Astray
    write_bound {C = C} act (Some (Slot k)) x a f h = fine_bind L (WhereSome (CellFits L)) (look_cell k) (λ o. cell o)
      where
        cell : (o : Option (Cell Name)) → Fine L (C × WhereSome (CellFits L) o) (eval.write_cell K tree rec act k x o) (ValueFits L)
        cell None = fine_stop L Astray
        cell (Some d) = fine_bind L (ValueFits L) (fine_coerce L word v inside tree (calls.call K tree rec) again act d.guard Null x (λ c. a c.0) (λ c. c.1.0) (λ c. tt) (λ c. h c.0))
            (λ w. fine_then L (fine_write L k w (λ c. c.1)) (fine_then L (fine_tell L (SlotWrote act k w) (λ c. (a c.0.0, f c.0.0, c.1))) (fine_give L w (λ c. c.1))))
    write_bound act None x a f h = fine_stop L Astray

    -- ---- patterns

    guard_of : {C : Type 0} (o : Option ℕ) (here : Scope Name) → (C → ScopeFits L here) → Fine L C (eval.guard_of K tree rec o here) (AnswerFits L)
    unfolding eval.guard_of scopes.any_guard
    guard_of None here h = answered here _ h (λ c. refl)
    guard_of (Some g) here h = fine_bind L (AnswerFits L) (good.expression _ g here h) (λ x. fine_bind L (ValueFits L) (look_follow L word v inside x.value (λ c. c.1.0)) (λ y. answered x.scope y (λ c. c.0.1.1) (λ c. c.1)))

    coerced : {C : Type 0} (act : ℕ) (g j x : Value Name) → (C → IsLow L act) → (C → ValueFits L g) → (C → ValueFits L j) → (C → ValueFits L x) → Fine L C (perform.coerce K tree (calls.call K tree rec) act g j x) (ValueFits L)
    coerced act g j x a e f h = fine_coerce L word v inside tree (calls.call K tree rec) again act g j x a e f h

    no_list : {C : Type 0} (act : ℕ) (j : Value Name) → (C → IsLow L act) → (C → ValueFits L j) → Fine L C (perform.failed K tree {A = Scope Name} (calls.call K tree rec) act j (codes "not a list")) (ScopeFits L)
    no_list act j a f = fine_failed L word v inside tree (calls.call K tree rec) again act j (codes "not a list") a f (λ c. plain _ refl)

    bind_items : {C : Type 0} (ps : List ℕ) (j : Value Name) (here : Scope Name) (y : Value Name) → (C → ValueFits L j) → (C → ScopeFits L here) → Fine L C (eval.bind_items K tree rec ps j here y) (ScopeFits L)
    unfolding eval.bind_items eval.bind_list
    bind_items ps j here (Items k) f h = fine_bind L (ValuesFit L) (fine_look L _ (λ s i c. list_at_fits L s.lists k i.lists))
        (λ vs. fine_if L (length vs == length ps) (fine_bind_all L word v inside tree good_tree rec good ps vs j here (λ c. c.1) (λ c. f c.0) (λ c. h c.0)) (no_list here.act j (λ c. (h c.0).0) (λ c. f c.0)))
    bind_items ps j here _ f h = no_list here.act j (λ c. (h c).0) f

    -- ---- nodes: what each is put together from, over what is known where the first type has a member

    bind_answer : {B C : Type 0} {m : Act Name (Answer Name)} {f : Answer Name → Act Name B} {H : B → Type 0} → Fine L C m (AnswerFits L) → ((x : Answer Name) → Fine L (C × AnswerFits L x) (f x) H) → Fine L C (m >>= f) H
    bind_answer h k = fine_bind L (AnswerFits L) h k

    bind_answers : {B C : Type 0} {m : Act Name (Answers Name)} {f : Answers Name → Act Name B} {H : B → Type 0} → Fine L C m (AnswersFit L) → ((x : Answers Name) → Fine L (C × AnswersFit L x) (f x) H) → Fine L C (m >>= f) H
    bind_answers h k = fine_bind L (AnswersFit L) h k

    bind_scope : {B C : Type 0} {m : Act Name (Scope Name)} {f : Scope Name → Act Name B} {H : B → Type 0} → Fine L C m (ScopeFits L) → ((x : Scope Name) → Fine L (C × ScopeFits L x) (f x) H) → Fine L C (m >>= f) H
    bind_scope h k = fine_bind L (ScopeFits L) h k

    bind_value : {B C : Type 0} {m : Act Name (Value Name)} {f : Value Name → Act Name B} {H : B → Type 0} → Fine L C m (ValueFits L) → ((x : Value Name) → Fine L (C × ValueFits L x) (f x) H) → Fine L C (m >>= f) H
    bind_value h k = fine_bind L (ValueFits L) h k

    bind_low : {B C : Type 0} {m : Act Name ℕ} {f : ℕ → Act Name B} {H : B → Type 0} → Fine L C m (IsLow L) → ((x : ℕ) → Fine L (C × IsLow L x) (f x) H) → Fine L C (m >>= f) H
    bind_low h k = fine_bind L (IsLow L) h k

    tells : {C B : Type 0} {H : B → Type 0} {n : Act Name B} (t : Happened Name) → Knows C (LineFits L t) → Fine L C n H → Fine L C (tell t >> n) H
    tells t h k = fine_then L (fine_tell L t h.from) k

    gives : {C A : Type 0} {G : A → Type 0} (x : A) → Knows C (G x) → Fine L C (give x) G
    gives x h = fine_give L x h.from

    stops : {C A : Type 0} {G : A → Type 0} (d : Stop) → Fine L C (stop {A = A} d) G
    stops d = fine_stop L d

    makes_slot : {C : Type 0} (g x : Value Name) → Knows C (ValueFits L g) → Knows C (ValueFits L x) → Fine L C (new_slot g x) (IsLow L)
    makes_slot g x h f = fine_slot L g x h.from f.from

    makes_ejector : {C : Type 0} (act : ℕ) → Knows C (IsLow L act) → Fine L C (calls.new_ejector K tree act) (IsLow L)
    makes_ejector act a = fine_ejector L word v inside tree good_tree act a.from

    makes_object : {C : Type 0} (node p : ℕ) (free : List Words) (auditors : List (Value Name)) (here : Scope Name) → Knows C (ValuesFit L auditors) → Knows C (ScopeFits L here) → Fine L C (calls.make_object K tree (calls.call K tree rec) node (slice_get tree p) free auditors here) (AnswerFits L)
    makes_object node p free auditors here f h = fine_make_object L word v inside tree good_tree (calls.call K tree rec) again node (slice_get tree p) free auditors here (node_at tree p good_tree) f.from h.from

    follows : {C : Type 0} (x : Value Name) → Knows C (ValueFits L x) → Fine L C (look (λ s. refs.follow K s x)) (ValueFits L)
    follows x h = look_follow L word v inside x h.from

    calls_any : {C : Type 0} (act : ℕ) (x : Value Name) (verb : Words) (args : List (Value Name)) → Knows C (IsLow L act) → Knows C (ValueFits L x) → Knows C (TextFits verb) → Knows C (ValuesFit L args) → Fine L C (calls.call K tree rec act x verb args) (ValueFits L)
    calls_any act x verb args a f t g = again _ act x verb args a.from f.from t.from g.from

    hands : {C : Type 0} (j : Value Name) → Knows C (ValueFits L j) → Fine L C (perform.handed K tree j) (ValueFits L)
    hands j h = fine_handed L word v inside tree j h.from

    coerces : {C : Type 0} (act : ℕ) (g j x : Value Name) → Knows C (IsLow L act) → Knows C (ValueFits L g) → Knows C (ValueFits L j) → Knows C (ValueFits L x) → Fine L C (perform.coerce K tree (calls.call K tree rec) act g j x) (ValueFits L)
    coerces act g j x a e f h = coerced act g j x a.from e.from f.from h.from

    evaluates : {C : Type 0} (e : ℕ) (here : Scope Name) → Knows C (ScopeFits L here) → Fine L C (rec.expression e here) (AnswerFits L)
    evaluates e here h = good.expression _ e here h.from

    evaluates_all : {C : Type 0} (es : List ℕ) (here : Scope Name) → Knows C (ScopeFits L here) → Fine L C (eval.all_of K tree rec es here) (AnswersFit L)
    evaluates_all es here h = all_of es here h.from

    evaluates_last : {C : Type 0} (x : Answer Name) (es : List ℕ) → Knows C (AnswerFits L x) → Fine L C (eval.last_of K tree rec x es) (AnswerFits L)
    evaluates_last x es h = last_of x es h.from

    binds : {C : Type 0} (p : ℕ) (x j : Value Name) (here : Scope Name) → Knows C (ValueFits L x) → Knows C (ValueFits L j) → Knows C (ScopeFits L here) → Fine L C (rec.pattern p x j here) (ScopeFits L)
    binds p x j here f g h = good.pattern _ p x j here f.from g.from h.from

    binds_items : {C : Type 0} (ps : List ℕ) (j : Value Name) (here : Scope Name) (y : Value Name) → Knows C (ValueFits L j) → Knows C (ScopeFits L here) → Fine L C (eval.bind_items K tree rec ps j here y) (ScopeFits L)
    binds_items ps j here y f h = bind_items ps j here y f.from h.from

    answers : {C : Type 0} (here : Scope Name) (x : Value Name) → Knows C (ScopeFits L here) → Knows C (ValueFits L x) → Fine L C (scopes.answered here x) (AnswerFits L)
    answers here x h f = answered here x h.from f.from

    reads : {C : Type 0} (act : ℕ) (o : Option (Bound Name)) (x : Words) → Knows C (IsLow L act) → Knows C (WhereSome (BoundFits L) o) → Fine L C (scopes.read_bound act o x) (ValueFits L)
    reads act o x a f = read_bound act o x a.from f.from

    writes : {C : Type 0} (act : ℕ) (o : Option (Bound Name)) (x : Value Name) → Knows C (IsLow L act) → Knows C (WhereSome (BoundFits L) o) → Knows C (ValueFits L x) → Fine L C (eval.write_bound K tree rec act o x) (ValueFits L)
    writes act o x a f h = write_bound act o x a.from f.from h.from

    exits : {C : Type 0} (o : Option ℕ) (here : Scope Name) → Knows C (ScopeFits L here) → Fine L C (eval.exit_of K tree rec o here) (AnswerFits L)
    exits o here h = exit_of o here h.from

    escapes : {C : Type 0} (j : ℕ) (here : Scope Name) (o : Option (ℕ × ℕ)) {m : Act Name (Answer Name)} → Knows C (ScopeFits L here) → Fine L C m (AnswerFits L) → Fine L C (eval.escaped K tree rec j here o m) (AnswerFits L)
    escapes j here o h k = escaped j here o h.from k

    tries : {C : Type 0} (p b : ℕ) (here : Scope Name) {m : Act Name (Answer Name)} → Knows C (ScopeFits L here) → Fine L C m (AnswerFits L) → Fine L C (eval.tried K tree rec p b here m) (AnswerFits L)
    tries p b here h k = tried p b here h.from k

    closes_with : {C : Type 0} (b : ℕ) (here : Scope Name) {m : Act Name (Answer Name)} → Knows C (ScopeFits L here) → Fine L C m (AnswerFits L) → Fine L C (eval.at_last K tree rec b here m) (AnswerFits L)
    closes_with b here h k = at_last b here h.from k

    chooses : {C : Type 0} (a b : ℕ) (here inner : Scope Name) (y : Value Name) → Knows C (ScopeFits L here) → Knows C (ScopeFits L inner) → Fine L C (eval.choose K tree rec a b here inner y) (AnswerFits L)
    chooses a b here inner y h i = choose a b here inner y h.from i.from

    matches : {C : Type 0} (j p : ℕ) (here : Scope Name) {m : Act Name (Scope Name)} → Knows C (ScopeFits L here) → Fine L C m (ScopeFits L) → Fine L C (eval.match_ended K tree j p here m) (AnswerFits L)
    matches j p here h k = match_ended j p here h.from k

    guards : {C : Type 0} (o : Option ℕ) (here : Scope Name) → Knows C (ScopeFits L here) → Fine L C (eval.guard_of K tree rec o here) (AnswerFits L)
    guards o here h = guard_of o here h.from

    known_ejector : {C : Type 0} (j : ℕ) → Knows C (IsLow L j) → Knows C (ValueFits L (Ref (K.object j)))
    known_ejector j h = record { from = λ c. made_object L word v inside tree good_tree j (h.from c) }

    known_literal : {C : Type 0} (l : Literal) → LiteralFits l → Knows C (ValueFits L (literal_value l))
    known_literal l f = record { from = λ c. literal_fits L l f }

    -- a node that is put together from these is no more text here
    ruleset nodes = (bind_answer, bind_answers, bind_scope, bind_value, bind_low, tells, gives, stops, makes_slot, makes_ejector, makes_object, follows, calls_any, hands, coerces, evaluates, evaluates_all, evaluates_last, binds, binds_items, answers, reads, writes, exits, escapes, tries, closes_with, chooses, matches, guards, known_itself, known_last, known_left, known_right, known_ejector, known_literal, known_text, known_nothing, known_both, known_three, plain)

    node_fits : {C : Type 0} (id : ℕ) (n : Node) (here : Scope Name) → NodeFits n → Knows C (ScopeFits L here) → Knows C (IsLow L here.act) → ((x : Words) → Knows C (WhereSome (BoundFits L) (scopes.bound_in here.nouns x))) → Fine L C (eval.step K tree rec id n here) (AnswerFits L)
    unfolding eval.step
    node_fits id (Hide e) here f h a noun = search nodes depth 30
    node_fits id other here f h a noun = search nodes depth 30

    step : {C : Type 0} (id : ℕ) (n : Node) (here : Scope Name) → NodeFits n → (C → ScopeFits L here) → Fine L C (eval.step K tree rec id n here) (AnswerFits L)
    step id n here f h = node_fits id n here f (record { from = h }) (record { from = λ c. (h c).0 }) (λ x. record { from = λ c. bound_fits L here.nouns x (h c).1 })

    pattern_fits : {C : Type 0} (n : Node) (x j : Value Name) (here : Scope Name) → NodeFits n → Knows C (ValueFits L x) → Knows C (ValueFits L j) → Knows C (ScopeFits L here) → Knows C (IsLow L here.act) → Fine L C (eval.bind_step K tree rec n x j here) (ScopeFits L)
    unfolding eval.bind_step scopes.with_noun
    pattern_fits (Any g) x j here f e k h a = search nodes depth 30
    pattern_fits other x j here f e k h a = search nodes depth 30

    bind_step : {C : Type 0} (n : Node) (x j : Value Name) (here : Scope Name) → NodeFits n → (C → ValueFits L x) → (C → ValueFits L j) → (C → ScopeFits L here) → Fine L C (eval.bind_step K tree rec n x j here) (ScopeFits L)
    bind_step n x j here f e k h = pattern_fits n x j here f (record { from = e }) (record { from = k }) (record { from = h }) (record { from = λ c. (h c).0 })

    -- ---- depth

    deeper : GoodEvaluator L (eval.deeper K tree rec)
    unfolding eval.deeper eval.step_found eval.bind_found
    deeper = record {
      expression = λ D id here h. fine_then L (fine_spend L 1) (found D id (slice_get tree id) (node_at tree id good_tree) here h);
      pattern = λ D id x j here f g h. fine_then L (fine_spend L 1) (bound D (slice_get tree id) (node_at tree id good_tree) x j here f g h);
    }
      where
        found : (D : Type 0) (id : ℕ) (o : Option Node) → WhereSome NodeFits o → (here : Scope Name) → (D → ScopeFits L here) → Fine L D (eval.step_found K tree rec id o here) (AnswerFits L)
        found D id None w here h = fine_stop L Astray
        found D id (Some n) w here h = step id n here w h

        bound : (D : Type 0) (o : Option Node) → WhereSome NodeFits o → (x j : Value Name) (here : Scope Name) → (D → ValueFits L x) → (D → ValueFits L j) → (D → ScopeFits L here) → Fine L D (eval.bind_found K tree rec o x j here) (ScopeFits L)
        bound D None w x j here f g h = fine_stop L Astray
        bound D (Some n) w x j here f g h = bind_step n x j here w f g h

  evaluator : (d : ℕ) → GoodEvaluator L (eval.evaluator K tree d)
  unfolding eval.evaluator
  evaluator zero = record { expression = λ D id here h. fine_stop L Deep; pattern = λ D id x j here f g h. fine_stop L Deep }
  evaluator (suc d) = deeper (eval.evaluator K tree d) (evaluator d)

  -- ---- turns

  closes : {C : Type 0} (act : ℕ) (o : Option Name) (m : Act Name (Value Name)) → (C → IsLow L act) → (C → WhereSome (NameFits L) o) → Fine L C m (ValueFits L) → Fine L C (eval.closes K tree act o m) (nothing L)
  unfolding eval.closes
  closes act o m a w h = fine_ending L (ValueFits L) h
      (λ x. fine_then L (fine_tell L (Finished act x) (λ c. (a c.0, c.1))) (fine_some L (NameFits L) o (λ p e. fine_resolve L word v inside p x (λ c. where_is (NameFits L) o p e (w c.0)) (λ c. c.1)) (fine_give L tt (λ c. tt))))
      (λ t. fine_then L (fine_tell L (Threw act t) (λ c. (a c.0, c.1))) (fine_some L (NameFits L) o (λ p e. fine_settle L word v inside _ p (Broken t) (λ c. where_is (NameFits L) o p e (w c.0)) (λ c. c.1)) (fine_give L tt (λ c. tt))))
      (λ n x. fine_stop L Astray)

  pub fine_opening : {C : Type 0} (depth : ℕ) (p : Name) (given : List (Binding Name)) → (C → NameFits L p) → (C → NounsFit L given) → Fine L C (eval.opening K tree depth p given) (nothing L)
  unfolding eval.opening
  fine_opening depth p given f g = fine_bind L (IsLow L) (fine_activation L) (λ a. closes a (Some p) _ (λ c. c.1) (λ c. f c.0) (fine_bind L (AnswerFits L) ((evaluator depth).expression _ 0 (record { act = a; nouns = given }) (λ c. (c.1, g c.0))) (λ x. fine_give L x.value (λ c. c.1.0))))

  pub fine_taking : {C : Type 0} (depth : ℕ) (m : Message Name) → (C → MessageFits L m) → Fine L C (eval.taking K tree depth m) (nothing L)
  unfolding eval.taking
  fine_taking depth m f = fine_bind L (IsLow L) (fine_activation L) (λ a. fine_then L (fine_tell L (Took a m) (λ c. (c.1, f c.0)))
      (closes a m.answer _ (λ c. c.1) (λ c. (f c.0).4) (fine_turn_value L word v inside tree good_tree (eval.evaluator K tree depth) (evaluator depth) a m.target m.verb m.args (λ c. c.1) (λ c. (f c.0).1) (λ c. (f c.0).2) (λ c. (f c.0).3))))
