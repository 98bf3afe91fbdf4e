-- Each node, in an environment that covers the scopes in which it stands.
use Rattle.std.proofs.Common.{◌≡◌, ℕ, ◌<◌, Bool, true, false, List, [], ◌∷◌, Option, Some, None, if◌then◌else◌, ◌==◌, refl, sym, subst, length, codes, arith}
use Rattle.std.specs.Prelude.{slice_get}
use Rattle.std.proofs.lemmas.Bool.{eqb-true}
use Rattle.def_machine.specs.Values.{Words, Value, Null, Flag, Text, Items, Ref, Naming}
use Rattle.def_machine.specs.State.{Bound, Fixed, Slot, Scope, Made, Act, ◌>>=◌, for_some, give, stop, Astray}
use Rattle.def_machine.specs.Free.{BoundNoun, bound_nouns, free_nouns}
use Rattle.def_machine.specs.Scopes as scopes
use Rattle.def_machine.specs.Perform as perform
use Rattle.def_machine.specs.Calls as calls
use Rattle.def_machine.specs.Eval as eval
use Rattle.def_machine.specs.Scopes.{Answer, Evaluator, bound_in, with_noun, named, members_of}
use Rattle.def_kernel.specs.declared.node.Node.{Node}
use Rattle.def_kernel.specs.declared.node.Node.TheVariants.{Object}
use Rattle.def_kernel.specs.declared.shape.Kind.TheVariants.{Expression, Pattern, Member, Naming as AName}
use Rattle.def_kernel.specs.Trees.{Has}
use Rattle.law_never_astray.specs.Scoped.{Scopes, Scoped, MayScoped, AllScoped, is_literal, is_noun, is_set, is_def, is_call, is_sequence, is_choice, is_escape, is_escape_catch, is_try, is_finally, is_hide, is_match, is_object, is_method, is_matcher, is_final, is_var, is_any, is_list, is_via, has_none, has_one}
use Rattle.def_machine.specs.State.{WhereSome}
use Rattle.law_never_astray.specs.Formed.{AllOf, Formed}
use Rattle.law_never_astray.specs.Covered.{Stands, Covers, ThingCarries}
use Rattle.law_never_astray.proofs.Statics.{IsOpen}
use Rattle.law_never_astray.proofs.Parts.{formed_parts}
use Rattle.law_never_astray.proofs.Binds.{node_binds, may_binds, members_stay}
use Rattle.law_never_astray.proofs.Captures.{covers_named, members_carry, Extends, covers_extended, extends_none, extends_more}
use Rattle.law_never_astray.proofs.Leads.{AtStops, Leads, Nothing, Refers, MayStop, covers_up, stands_up, lead_bind, lead_next, lead_then, lead_give, lead_gives, lead_look, lead_throw, lead_eject, lead_ending, lead_ends, lead_more, lead_forget, lead_tell, lead_slot, lead_write, lead_thing, lead_look_slot}
use Rattle.law_never_astray.proofs.CoveredNatives.{GoodCaller, lead_failed, lead_handed, lead_coerce, lead_ask_all}
use Rattle.law_never_astray.proofs.CoveredEval.{answer, answers, environment, GoodEvaluator, opened, opened_all, lead_answered, lead_ejector, lead_leave, lead_unless, lead_all, lead_last, lead_bind_all, lead_inside}

module _ (tree : List Node) where
  pub opened_may : (s t : Scopes) (j : Option ℕ) → IsOpen s → WhereSome (Formed tree Expression) j → MayScoped tree s j t → IsOpen t
  opened_may s t j o f d = let b = may_binds tree s t j d o (length tree) f in b.opened

module _ {N : Type 0} (tree : List Node) where
  -- the name of an object is bound round it
  pub named_covers : (many : ℕ) (s u : Scopes) (p : ℕ) (v : Value N) (here : Scope N) → Formed tree AName p → Scoped tree s p u → Covers many here.nouns s → Covers many (named (slice_get tree p) v here).nouns u
  unfolding named with_noun
  named_covers many s u p v here f (is_final {name = x} e has_none b) c = subst (λ o. Covers many (named o v here).nouns u) (sym e) (covers_named many here.nouns x (Fixed v scopes.any_guard) false s b tt c)
  named_covers many s u p v here f (is_final e (has_one a) b) c = absurd (formed_parts tree AName p _ f e)
  named_covers many s u p v here f (is_any e has_none) c = subst (λ o. Covers many (named o v here).nouns u) (sym e) c
  named_covers many s u p v here f (is_any e (has_one a)) c = absurd (formed_parts tree AName p _ f e)
  named_covers many s u p v here f (is_literal e) c = absurd (formed_parts tree AName p _ f e)
  named_covers many s u p v here f (is_noun e b) c = absurd (formed_parts tree AName p _ f e)
  named_covers many s u p v here f (is_set e b a) c = absurd (formed_parts tree AName p _ f e)
  named_covers many s u p v here f (is_def e j a q) c = absurd (formed_parts tree AName p _ f e)
  named_covers many s u p v here f (is_call e r a) c = absurd (formed_parts tree AName p _ f e)
  named_covers many s u p v here f (is_sequence e a) c = absurd (formed_parts tree AName p _ f e)
  named_covers many s u p v here f (is_choice e a b d) c = absurd (formed_parts tree AName p _ f e)
  named_covers many s u p v here f (is_escape e q b) c = absurd (formed_parts tree AName p _ f e)
  named_covers many s u p v here f (is_escape_catch e q b r d) c = absurd (formed_parts tree AName p _ f e)
  named_covers many s u p v here f (is_try e b q d) c = absurd (formed_parts tree AName p _ f e)
  named_covers many s u p v here f (is_finally e a b) c = absurd (formed_parts tree AName p _ f e)
  named_covers many s u p v here f (is_hide e a) c = absurd (formed_parts tree AName p _ f e)
  named_covers many s u p v here f (is_match e a q) c = absurd (formed_parts tree AName p _ f e)
  named_covers many s u p v here f (is_object e a q m) c = absurd (formed_parts tree AName p _ f e)
  named_covers many s u p v here f (is_method e a b) c = absurd (formed_parts tree AName p _ f e)
  named_covers many s u p v here f (is_matcher e q b) c = absurd (formed_parts tree AName p _ f e)
  named_covers many s u p v here f (is_var e g i) c = absurd (formed_parts tree AName p _ f e)
  named_covers many s u p v here f (is_list e a) c = absurd (formed_parts tree AName p _ f e)
  named_covers many s u p v here f (is_via e a q) c = absurd (formed_parts tree AName p _ f e)

  -- what an object that is made carries
  pub object_carries : (many : ℕ) (u t : Scopes) (id p : ℕ) (auditors members : List ℕ) (after : Scope N) (stamps : List (Value N)) → IsOpen u → Has tree id (Object p auditors members) → AllOf (Formed tree Member) members → AllScoped tree u members t
      → Covers many after.nouns u → ThingCarries tree many (Made id (scopes.captures after (free_nouns tree members)) stamps)
  unfolding members_of
  object_carries many u t id p auditors members after stamps o e f d c = let x = members_carry tree many after u t members o f d c in
      subst (λ z. (s r : Scopes) × Covers many (scopes.captures after (free_nouns tree members)) s × AllOf (Formed tree Member) (members_of z) × AllScoped tree s (members_of z) r) (sym e) (x.0, x.1, x.2, f, x.3)

module _ {N W : Type 0} (K : Naming N W) (tree : List Node) (F : AtStops N) (may : MayStop F) (refs : Refers K tree F) (rec : Evaluator N) (good : GoodEvaluator tree F rec) (again : GoodCaller tree F (calls.call K tree rec)) where
  -- ---- nouns

  lead_read : (many act : ℕ) (v : Bool) (x : Words) (o : Option (Bound N)) → Stands many v x o → Leads tree F many Nothing (scopes.read_bound act o x)
  unfolding scopes.read_bound scopes.read_cell for_some
  lead_read many act true x (Some (Slot k)) h = lead_look_slot tree F k _ h (λ c. lead_then tree F (lead_tell tree F _) (lead_give tree F c.value))
  lead_read many act false x (Some (Fixed w g)) h = lead_give tree F w
  lead_read many act false x (Some (Slot k)) h = absurd h
  lead_read many act false x None h = subst (λ p. Leads tree F many Nothing (for_some p give (stop Astray))) (sym h.1) (lead_give tree F h.0)
  lead_read many act true x other h = absurd h

  lead_write_bound : (many act : ℕ) (x : Words) (o : Option (Bound N)) (v : Value N) → Stands many true x o → Leads tree F many Nothing (eval.write_bound K tree rec act o v)
  unfolding eval.write_bound eval.write_cell
  lead_write_bound many act x (Some (Slot k)) v h = lead_look_slot tree F k _ h (λ c. lead_next tree F (lead_coerce K tree F may refs many (calls.call K tree rec) again act c.guard Null v)
      (λ w. lead_then tree F (lead_write tree F k w) (lead_then tree F (lead_tell tree F _) (lead_give tree F w))))
  lead_write_bound many act x other v h = absurd h

  lead_exit : (many : ℕ) (s t : Scopes) (j : Option ℕ) (here : Scope N) → IsOpen s → WhereSome (Formed tree Expression) j → MayScoped tree s j t → Covers many here.nouns s → Leads tree F many (answer t) (eval.exit_of K tree rec j here)
  unfolding eval.exit_of
  lead_exit many s t j here o f has_none c = lead_answered K tree F may refs many t here Null c
  lead_exit many s t j here o f (has_one {n = n} a) c = good.expression many s t n here o f a c

  lead_guard : (many : ℕ) (s t : Scopes) (j : Option ℕ) (here : Scope N) → IsOpen s → WhereSome (Formed tree Expression) j → MayScoped tree s j t → Covers many here.nouns s → Leads tree F many (answer t) (eval.guard_of K tree rec j here)
  unfolding eval.guard_of
  lead_guard many s t j here o f has_none c = lead_answered K tree F may refs many t here _ c
  lead_guard many s t j here o f (has_one {n = n} a) c = lead_bind tree F (answer t) (good.expression many s t n here o f a c) (λ k x l g. lead_next tree F (lead_look tree F _) (λ y. lead_answered K tree F may refs k t x.scope y g))

  -- ---- nodes with a scope of their own

  -- what is answered in the environment round it
  lead_round : {A : Type 0} (many : ℕ) (s : Scopes) (here : Scope N) {m : Act N A} (value : A → Value N) → Covers many here.nouns s → Leads tree F many Nothing m → Leads tree F many (answer s) (m >>= λ x. scopes.answered here (value x))
  lead_round many s here value c h = lead_next tree F h (λ x. lead_answered K tree F may refs many s here (value x) c)

  -- a pattern and an expression behind it, and what is answered round them
  lead_handled : (many : ℕ) (s u w : Scopes) (p b : ℕ) (v j : Value N) (here : Scope N) → Formed tree Pattern p → Formed tree Expression b → Scoped tree ([] ∷ s) p u → Scoped tree u b w → Covers many here.nouns s
      → Leads tree F many (answer s) (rec.pattern p v j here >>= λ inner. rec.expression b inner >>= λ x. scopes.answered here x.value)
  lead_handled many s u w p b v j here f g d e c = lead_bind tree F (environment u) (good.pattern many ([] ∷ s) u p v j here tt f d c)
      (λ k inner l h. lead_round k s here (λ x. x.value) (covers_up many k l here.nouns s c) (lead_forget tree F (answer w) (good.expression k u w b inner (opened tree ([] ∷ s) u Pattern p tt f d) g e h)))

  lead_escaped : (many : ℕ) (s : Scopes) (j : ℕ) (here : Scope N) (c : Option (ℕ × ℕ)) {m : Act N (Answer N)} → Covers many here.nouns s → ((v : Value N) → Leads tree F many (answer s) (eval.caught_by K tree rec here c v)) → Leads tree F many Nothing m
      → Leads tree F many (answer s) (eval.escaped K tree rec j here c m)
  unfolding eval.escaped
  lead_escaped many s j here c d caught h = lead_ends tree F (λ x. lead_leave K tree F may refs j (lead_answered K tree F may refs many s here x.value d)) (λ p. lead_leave K tree F may refs j (lead_throw tree F p))
      (λ n v. lead_leave K tree F may refs j (lead_unless K tree F may refs (n == j) n v (caught v))) h

  lead_caught_none : (many : ℕ) (s : Scopes) (here : Scope N) (v : Value N) → Covers many here.nouns s → Leads tree F many (answer s) (eval.caught_by K tree rec here None v)
  unfolding eval.caught_by
  lead_caught_none many s here v c = lead_then tree F (lead_tell tree F _) (lead_answered K tree F may refs many s here v c)

  lead_caught_some : (many : ℕ) (s u w : Scopes) (q b : ℕ) (here : Scope N) (v : Value N) → Formed tree Pattern q → Formed tree Expression b → Scoped tree ([] ∷ s) q u → Scoped tree u b w → Covers many here.nouns s
      → Leads tree F many (answer s) (eval.caught_by K tree rec here (Some (q, b)) v)
  unfolding eval.caught_by
  lead_caught_some many s u w q b here v f g d e c = lead_then tree F (lead_tell tree F _) (lead_handled many s u w q b v Null here f g d e c)

  lead_tried : (many : ℕ) (s u w : Scopes) (p h : ℕ) (here : Scope N) {m : Act N (Answer N)} → Formed tree Pattern p → Formed tree Expression h → Scoped tree ([] ∷ s) p u → Scoped tree u h w → Covers many here.nouns s → Leads tree F many Nothing m
      → Leads tree F many (answer s) (eval.tried K tree rec p h here m)
  unfolding eval.tried eval.handles
  lead_tried many s u w p h here f g d e c r = lead_ends tree F (λ x. lead_answered K tree F may refs many s here x.value c) (λ t. lead_handled many s u w p h (Text t) Null here f g d e c) (λ n v. lead_eject tree F n v) r

  lead_at_last : (many : ℕ) (s w : Scopes) (b : ℕ) (here : Scope N) {m : Act N (Answer N)} → Formed tree Expression b → Scoped tree ([] ∷ s) b w → Covers many here.nouns s → Leads tree F many Nothing m → Leads tree F many (answer s) (eval.at_last K tree rec b here m)
  unfolding eval.at_last
  lead_at_last many s w b here f d c r = let last : Leads tree F many Nothing (rec.expression b here) = lead_forget tree F (answer w) (good.expression many ([] ∷ s) w b here tt f d c) in
      lead_ends tree F (λ x. lead_then tree F last (lead_answered K tree F may refs many s here x.value c)) (λ p. lead_then tree F last (lead_throw tree F p)) (λ n v. lead_then tree F last (lead_eject tree F n v)) r

  lead_choose : (many : ℕ) (s t u v : Scopes) (a b : ℕ) (here inner : Scope N) (y : Value N) → IsOpen t → Formed tree Expression a → Formed tree Expression b → Scoped tree t a u → Scoped tree ([] ∷ s) b v → Covers many here.nouns s → Covers many inner.nouns t
      → Leads tree F many (answer s) (eval.choose K tree rec a b here inner y)
  unfolding eval.choose
  lead_choose many s t u v a b here inner (Flag true) o f g d e c i = lead_round many s here (λ x. x.value) c (lead_forget tree F (answer u) (good.expression many t u a inner o f d i))
  lead_choose many s t u v a b here inner (Flag false) o f g d e c i = lead_round many s here (λ x. x.value) c (lead_forget tree F (answer v) (good.expression many ([] ∷ s) v b here tt g e c))
  lead_choose many s t u v a b here inner _ o f g d e c i = lead_throw tree F _

  -- ---- matches

  lead_unmatched_noun : (many act : ℕ) (v : Bool) (x : Words) → Leads tree F many (λ k o. Stands k v x (Some o)) (eval.unmatched_noun K tree act v)
  unfolding eval.unmatched_noun
  lead_unmatched_noun many act false x = lead_gives tree F _ _ (λ k l. tt)
  lead_unmatched_noun many act true x = lead_bind tree F (λ k i. i < k) (lead_slot tree F _ _) (λ k i l g. lead_then tree F (lead_tell tree F _) (lead_gives tree F _ (Slot i) (λ z w. omega arith)))

  lead_unmatched : (many : ℕ) (bs : List BoundNoun) (here : Scope N) → Leads tree F many (λ k (after : Scope N). Extends k bs here.nouns after.nouns) (eval.unmatched K tree bs here)
  unfolding eval.unmatched with_noun
  lead_unmatched many [] here = lead_gives tree F _ here (λ k l. extends_none k here.nouns)
  lead_unmatched many (b ∷ bs) here = lead_bind tree F (λ k o. Stands k b.is_var b.noun (Some o)) (lead_unmatched_noun many here.act b.is_var b.noun)
      (λ k o l g. lead_more tree F (λ i (after : Scope N). Extends i bs (record { noun = b.noun; bound = o } ∷ here.nouns) after.nouns) (λ i after m e. extends_more i b o bs here.nouns after.nouns (stands_up k i m b.is_var b.noun (Some o) g) e)
      (lead_unmatched k bs (with_noun b.noun o here)))

  lead_not_matched : (many : ℕ) (s t : Scopes) (p : ℕ) (here : Scope N) (v : Value N) → IsOpen s → Formed tree Pattern p → Scoped tree s p t → Covers many here.nouns s → Leads tree F many (answer t) (eval.not_matched K tree p here v)
  unfolding eval.not_matched bound_nouns
  lead_not_matched many s t p here v o f d c = lead_then tree F (lead_tell tree F _) (lead_bind tree F (λ k (after : Scope N). Extends k (bound_nouns tree p) here.nouns after.nouns) (lead_unmatched many (bound_nouns tree p) here)
      (λ k after l e. lead_answered K tree F may refs k t after _ (covers_extended k (bound_nouns tree p) here.nouns after.nouns s t (covers_up many k l here.nouns s c) (node_binds tree s t p d o (length tree) Pattern f) e)))

  lead_match_ended : (many : ℕ) (s t : Scopes) (j p : ℕ) (here : Scope N) {m : Act N (Scope N)} → IsOpen s → Formed tree Pattern p → Scoped tree s p t → Covers many here.nouns s → Leads tree F many (environment t) m → Leads tree F many (answer t) (eval.match_ended K tree j p here m)
  unfolding eval.match_ended
  lead_match_ended many s t j p here o f d c r = lead_ending tree F (environment t) r (λ k inner l g. lead_leave K tree F may refs j (lead_answered K tree F may refs k t inner (Flag true) g)) (λ q. lead_leave K tree F may refs j (lead_throw tree F q))
      (λ n v. lead_leave K tree F may refs j (lead_unless K tree F may refs (n == j) n v (lead_not_matched many s t p here v o f d c)))

  -- ---- objects

  lead_make_object : (many : ℕ) (s u t : Scopes) (id p : ℕ) (auditors members : List ℕ) (vs : List (Value N)) (here : Scope N) → IsOpen s → Has tree id (Object p auditors members) → Formed tree AName p → AllOf (Formed tree Member) members
      → Scoped tree s p u → AllScoped tree u members t → Covers many here.nouns s → Leads tree F many (answer t) (calls.make_object K tree (calls.call K tree rec) id (slice_get tree p) (free_nouns tree members) vs here)
  unfolding calls.make_object calls.object_as calls.object_in calls.object_made calls.view_of
  lead_make_object many s u t id p auditors members vs here o e f g d a c = lead_next tree F (lead_ask_all K tree F may refs many (calls.call K tree rec) again here.act _ (_, e) vs)
      (λ stamps. lead_next tree F (lead_look tree F _) (λ n. let after : Scope N = named (slice_get tree p) (Ref (K.object n)) here in let cu : Covers many after.nouns u = named_covers tree many s u p (Ref (K.object n)) here f d c in
      lead_then tree F (lead_thing tree F (Made id (scopes.captures after (free_nouns tree members)) stamps) (λ k l. object_carries tree k u t id p auditors members after stamps (opened tree s u AName p o f d) e g a (covers_up many k l after.nouns u cu)))
      (lead_then tree F (lead_tell tree F _) (lead_answered K tree F may refs many t after (Ref (K.object n)) (subst (λ z. Covers many after.nouns z) (members_stay tree u t members a (length tree) g) cu)))))

  -- ---- expressions

  at_node : {H : ℕ → Answer N → Type 0} (many n : ℕ) (node : Node) (here : Scope N) → Has tree n node → Leads tree F many H (eval.step_found K tree rec n (Some node) here) → Leads tree F many H (eval.step_found K tree rec n (slice_get tree n) here)
  at_node {H = H} many n node here e h = subst (λ o. Leads tree F many H (eval.step_found K tree rec n o here)) (sym e) h

  pub lead_expression : (many : ℕ) (s t : Scopes) (n : ℕ) (here : Scope N) → IsOpen s → Formed tree Expression n → Scoped tree s n t → Covers many here.nouns s → Leads tree F many (answer t) (eval.step_found K tree rec n (slice_get tree n) here)
  unfolding eval.step_found eval.step
  lead_expression many s t n here o f (is_literal e) c = at_node many n _ here e (lead_answered K tree F may refs many s here _ c)
  lead_expression many s t n here o f (is_noun {name = x} {is_var = v} e b) c = at_node many n _ here e (lead_next tree F (lead_read many here.act v x (bound_in here.nouns x) (c x v b)) (λ y. lead_answered K tree F may refs many s here y c))
  lead_expression many s t n here o f (is_set {e = a} {name = x} e b d) c = at_node many n _ here e (let g = formed_parts tree Expression n _ f e in lead_bind tree F (answer t) (good.expression many s t a here o g d c)
      (λ k y l h. lead_next tree F (lead_write_bound k here.act x (bound_in here.nouns x) y.value (stands_up many k l true x (bound_in here.nouns x) (c x true b))) (λ w. lead_answered K tree F may refs k t y.scope w h)))
  lead_expression many s t n here o f (is_def {t = u} {u = w} {p = p} {e = a} {exit = j} e x y z) c = at_node many n _ here e (let g = formed_parts tree Expression n _ f e in let ou = opened_may tree s u j o g.1 x in
      lead_bind tree F (answer u) (lead_exit many s u j here o g.1 x c) (λ k q l h. lead_bind tree F (answer w) (good.expression k u w a q.scope ou g.2 y h)
      (λ i r m h'. lead_bind tree F (environment t) (good.pattern i w t p r.value q.value r.scope (opened tree u w Expression a ou g.2 y) g.0 z h') (λ z' after m' h''. lead_answered K tree F may refs z' t after r.value h''))))
  lead_expression many s t n here o f (is_call {t = u} {r = r} {verb = verb} {args = args} e x y) c = at_node many n _ here e (let g = formed_parts tree Expression n _ f e in
      lead_bind tree F (answer u) (good.expression many s u r here o g.0 x c) (λ k q l h. lead_bind tree F (answers t) (lead_all K tree F may refs rec good k u t args q.scope (opened tree s u Expression r o g.0 x) g.1 y h)
      (λ i qs m h'. lead_next tree F (again i here.act q.value verb qs.values) (λ v. lead_answered K tree F may refs i t qs.scope v h'))))
  lead_expression many s t n here o f (is_sequence {parts = es} e x) c = at_node many n _ here e (let g = formed_parts tree Expression n _ f e in lead_last K tree F may refs rec good many s t (record { value = Null; scope = here }) es o g x c)
  lead_expression many s t n here o f (is_choice {t = u} {u = w} {v = v} {a = a} {b = b} {c = d} e x y z) c = at_node many n _ here e (let g = formed_parts tree Expression n _ f e in
      lead_bind tree F (answer u) (good.expression many ([] ∷ s) u a here tt g.0 x c) (λ k q l h. lead_next tree F (lead_look tree F _) (λ r. lead_choose k s u w v b d here q.scope r (opened tree ([] ∷ s) u Expression a tt g.0 x) g.1 g.2 y z (covers_up many k l here.nouns s c) h)))
  lead_expression many s t n here o f (is_escape {t = u} {u = w} {p = p} {b = b} e x y) c = at_node many n _ here e (let g = formed_parts tree Expression n _ f e in lead_next tree F (lead_ejector K tree F may refs many here.act)
      (λ j. lead_escaped many s j here None c (λ v. lead_caught_none many s here v c) (lead_forget tree F (answer w) (lead_inside K tree F may refs rec good many s u w p b (Ref (K.object j)) Null here g.0 g.1 x y c))))
  lead_expression many s t n here o f (is_escape_catch {t = u} {u = w} {p = p} {b = b} {q = q} {c = d} e x y z r) c = at_node many n _ here e (let g = formed_parts tree Expression n _ f e in lead_next tree F (lead_ejector K tree F may refs many here.act)
      (λ j. lead_escaped many s j here (Some (q, d)) c (λ v. lead_caught_some many s _ _ q d here v g.2.0 g.2.1 z r c) (lead_forget tree F (answer w) (lead_inside K tree F may refs rec good many s u w p b (Ref (K.object j)) Null here g.0 g.1 x y c))))
  lead_expression many s t n here o f (is_try {t = u} {b = b} {p = p} {h = d} e x y z) c = at_node many n _ here e (let g = formed_parts tree Expression n _ f e in
      lead_tried many s _ _ p d here g.1 g.2 y z c (lead_forget tree F (answer u) (good.expression many ([] ∷ s) u b here tt g.0 x c)))
  lead_expression many s t n here o f (is_finally {t = u} {a = a} {b = b} e x y) c = at_node many n _ here e (let g = formed_parts tree Expression n _ f e in
      lead_at_last many s _ b here g.1 y c (lead_forget tree F (answer u) (good.expression many ([] ∷ s) u a here tt g.0 x c)))
  lead_expression many s t n here o f (is_hide {t = u} {e = a} e x) c = at_node many n _ here e (let g = formed_parts tree Expression n _ f e in
      lead_round many s here (λ (y : Answer N). y.value) c (lead_forget tree F (answer u) (good.expression many ([] ∷ s) u a here tt g x c)))
  lead_expression many s t n here o f (is_match {t = u} {e = a} {p = p} e x y) c = at_node many n _ here e (let g = formed_parts tree Expression n _ f e in let ou = opened tree s u Expression a o g.0 x in
      lead_bind tree F (answer u) (good.expression many s u a here o g.0 x c) (λ k q l h. lead_next tree F (lead_ejector K tree F may refs k here.act)
      (λ j. lead_match_ended k u t j p q.scope ou g.1 y h (good.pattern k u t p q.value (Ref (K.object j)) q.scope ou g.1 y h))))
  lead_expression many s t n here o f (is_object {t = u} {u = w} {p = p} {auditors = as'} {members = ms} e x y z) c = at_node many n _ here e (let g = formed_parts tree Expression n _ f e in
      lead_bind tree F (answers u) (lead_all K tree F may refs rec good many s u as' here o g.1 x c) (λ k q l h. lead_make_object k u w t n p as' ms q.values q.scope (opened_all tree s u Expression as' o g.1 x) e g.0 g.2 y z h))
  lead_expression many s t n here o f (is_method e x y) c = absurd (formed_parts tree Expression n _ f e)
  lead_expression many s t n here o f (is_matcher e x y) c = absurd (formed_parts tree Expression n _ f e)
  lead_expression many s t n here o f (is_final e x y) c = absurd (formed_parts tree Expression n _ f e)
  lead_expression many s t n here o f (is_var e x y) c = absurd (formed_parts tree Expression n _ f e)
  lead_expression many s t n here o f (is_any e x) c = absurd (formed_parts tree Expression n _ f e)
  lead_expression many s t n here o f (is_list e x) c = absurd (formed_parts tree Expression n _ f e)
  lead_expression many s t n here o f (is_via e x y) c = absurd (formed_parts tree Expression n _ f e)

  -- ---- patterns

  lead_bind_list : (many : ℕ) (s t : Scopes) (ps : List ℕ) (j : Value N) (here : Scope N) (vs : List (Value N)) → IsOpen s → AllOf (Formed tree Pattern) ps → AllScoped tree s ps t → Covers many here.nouns s → Leads tree F many (environment t) (eval.bind_list K tree rec ps j here vs)
  unfolding eval.bind_list
  lead_bind_list many s t ps j here vs o f d c = go (length vs == length ps) refl
    where
      go : (b : Bool) → (length vs == length ps) ≡ b → Leads tree F many (environment t) (if b then calls.bind_all K tree rec ps vs j here else perform.failed K tree (calls.call K tree rec) here.act j (codes "not a list"))
      go true e = lead_bind_all K tree F may refs rec good many s t ps vs j here o f d (sym (eqb-true (length vs) (length ps) e)) c
      go false e = lead_failed K tree F may refs many (calls.call K tree rec) again here.act j _

  lead_bind_items : (many : ℕ) (s t : Scopes) (ps : List ℕ) (j : Value N) (here : Scope N) (y : Value N) → IsOpen s → AllOf (Formed tree Pattern) ps → AllScoped tree s ps t → Covers many here.nouns s → Leads tree F many (environment t) (eval.bind_items K tree rec ps j here y)
  unfolding eval.bind_items
  lead_bind_items many s t ps j here (Items k) o f d c = lead_next tree F (lead_look tree F _) (λ vs. lead_bind_list many s t ps j here vs o f d c)
  lead_bind_items many s t ps j here _ o f d c = lead_failed K tree F may refs many (calls.call K tree rec) again here.act j _

  at_pattern : (many : ℕ) (t : Scopes) (n : ℕ) (node : Node) (v j : Value N) (here : Scope N) → Has tree n node → Leads tree F many (environment t) (eval.bind_found K tree rec (Some node) v j here) → Leads tree F many (environment t) (eval.bind_found K tree rec (slice_get tree n) v j here)
  at_pattern many t n node v j here e h = subst (λ o. Leads tree F many (environment t) (eval.bind_found K tree rec o v j here)) (sym e) h

  pub lead_pattern : (many : ℕ) (s t : Scopes) (n : ℕ) (v j : Value N) (here : Scope N) → IsOpen s → Formed tree Pattern n → Scoped tree s n t → Covers many here.nouns s → Leads tree F many (environment t) (eval.bind_found K tree rec (slice_get tree n) v j here)
  unfolding eval.bind_found eval.bind_step with_noun
  lead_pattern many s t n v j here o f (is_final {t = r} {name = x} {guard = g} e a b) c = at_pattern many t n _ v j here e (lead_bind tree F (answer r) (lead_guard many s r g here o (formed_parts tree Pattern n _ f e) a c)
      (λ k y l h. lead_next tree F (lead_coerce K tree F may refs k (calls.call K tree rec) again here.act y.value j v) (λ w. lead_gives tree F (environment t) _ (λ i m. covers_named i y.scope.nouns x (Fixed w y.value) false r b tt (covers_up k i m y.scope.nouns r h)))))
  lead_pattern many s t n v j here o f (is_var {t = r} {name = x} {guard = g} e a b) c = at_pattern many t n _ v j here e (lead_bind tree F (answer r) (lead_guard many s r g here o (formed_parts tree Pattern n _ f e) a c)
      (λ k y l h. lead_next tree F (lead_coerce K tree F may refs k (calls.call K tree rec) again here.act y.value j v) (λ w. lead_bind tree F (λ i z. z < i) (lead_slot tree F y.value w)
      (λ i z m q. lead_then tree F (lead_tell tree F _) (lead_gives tree F (environment t) _ (λ i' m'. covers_named i' y.scope.nouns x (Slot z) true r b (omega arith) (covers_up k i' (omega arith) y.scope.nouns r h)))))))
  lead_pattern many s t n v j here o f (is_any {guard = g} e a) c = at_pattern many t n _ v j here e (lead_bind tree F (answer t) (lead_guard many s t g here o (formed_parts tree Pattern n _ f e) a c)
      (λ k y l h. lead_next tree F (lead_coerce K tree F may refs k (calls.call K tree rec) again here.act y.value j v) (λ w. lead_gives tree F (environment t) _ (λ i m. covers_up k i m y.scope.nouns t h))))
  lead_pattern many s t n v j here o f (is_list {patterns = ps} e a) c = at_pattern many t n _ v j here e (lead_next tree F (lead_look tree F _) (λ y. lead_bind_items many s t ps j here y o (formed_parts tree Pattern n _ f e) a c))
  lead_pattern many s t n v j here o f (is_via {t = r} {e = a} {p = p} e x y) c = at_pattern many t n _ v j here e (let g = formed_parts tree Pattern n _ f e in lead_bind tree F (answer r) (good.expression many s r a here o g.0 x c)
      (λ k q l h. lead_next tree F (lead_handed K tree F may refs k j) (λ d. lead_next tree F (again k here.act q.value _ _) (λ z. good.pattern k r t p z j q.scope (opened tree s r Expression a o g.0 x) g.1 y h))))
  lead_pattern many s t n v j here o f (is_literal e) c = absurd (formed_parts tree Pattern n _ f e)
  lead_pattern many s t n v j here o f (is_noun e b) c = absurd (formed_parts tree Pattern n _ f e)
  lead_pattern many s t n v j here o f (is_set e b a) c = absurd (formed_parts tree Pattern n _ f e)
  lead_pattern many s t n v j here o f (is_def e i a p) c = absurd (formed_parts tree Pattern n _ f e)
  lead_pattern many s t n v j here o f (is_call e r a) c = absurd (formed_parts tree Pattern n _ f e)
  lead_pattern many s t n v j here o f (is_sequence e a) c = absurd (formed_parts tree Pattern n _ f e)
  lead_pattern many s t n v j here o f (is_choice e a b d) c = absurd (formed_parts tree Pattern n _ f e)
  lead_pattern many s t n v j here o f (is_escape e p b) c = absurd (formed_parts tree Pattern n _ f e)
  lead_pattern many s t n v j here o f (is_escape_catch e p b q d) c = absurd (formed_parts tree Pattern n _ f e)
  lead_pattern many s t n v j here o f (is_try e b p d) c = absurd (formed_parts tree Pattern n _ f e)
  lead_pattern many s t n v j here o f (is_finally e a b) c = absurd (formed_parts tree Pattern n _ f e)
  lead_pattern many s t n v j here o f (is_hide e a) c = absurd (formed_parts tree Pattern n _ f e)
  lead_pattern many s t n v j here o f (is_match e a p) c = absurd (formed_parts tree Pattern n _ f e)
  lead_pattern many s t n v j here o f (is_object e a p m) c = absurd (formed_parts tree Pattern n _ f e)
  lead_pattern many s t n v j here o f (is_method e a b) c = absurd (formed_parts tree Pattern n _ f e)
  lead_pattern many s t n v j here o f (is_matcher e p b) c = absurd (formed_parts tree Pattern n _ f e)
