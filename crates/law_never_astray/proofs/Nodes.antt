-- Each node, in an environment that covers the scopes in which it stands, does not go astray.
use Rattle.std.proofs.Common.{◌≡◌, ℕ, ◌<◌, Bool, true, false, List, [], ◌∷◌, ◌++◌, Option, Some, None, if◌then◌else◌, ◌==◌, refl, sym, subst, length, map, codes, arith}
use Rattle.std.specs.Prelude.{slice_get}
use Rattle.std.proofs.lemmas.Bool.{eqb-true}
use Rattle.def_machine.specs.Values.{Words, Value, Null, Flag, Text, Items, Ref, Naming}
use Rattle.def_machine.specs.State.{Bound, Fixed, Slot, Binding, Scope, Thing, Made, Message, Known, Vat, Act, WhereSome, ◌>>=◌, ◌>>◌, and_then, for_some, give, look, stop, new_thing, Astray}
use Rattle.def_machine.specs.Free.{BoundNoun, bound_nouns, free_nouns}
use Rattle.def_machine.specs.Native.{safe_value}
use Rattle.def_machine.specs.Scopes as scopes
use Rattle.def_machine.specs.Perform as perform
use Rattle.def_machine.specs.Calls as calls
use Rattle.def_machine.specs.Eval as eval
use Rattle.def_machine.specs.Scopes.{Answer, Evaluator, bound_in, with_noun, named}
use Rattle.def_kernel.specs.declared.node.Node.{Node}
use Rattle.def_kernel.specs.declared.node.Node.TheVariants.{Object}
use Rattle.def_kernel.specs.declared.shape.Kind.TheVariants.{Expression, Pattern, Member, Naming as AName}
use Rattle.def_kernel.specs.Trees.{Has}
use Rattle.law_never_astray.specs.Scoped.{Scopes, Scoped, MayScoped, AllScoped, is_literal, is_noun, is_set, is_def, is_call, is_sequence, is_choice, is_escape, is_escape_catch, is_try, is_finally, is_hide, is_match, is_object, is_method, is_matcher, is_final, is_var, is_any, is_list, is_via, has_none, has_one}
use Rattle.law_fate.proofs.Name.Facts.{Fact, Also, IsName, IsValue, AreValues, AreNouns, IsBound, MayBound, MayValue, scope, answer, answers, nothing, Holds}
use Rattle.law_fate.proofs.Name.Care.{Care, Sound, Gets, got_null, got_flag, got_text, got_none, told_got, told_slot_made, told_slot_read, told_slot_wrote, told_object_made, rise, thing_comes}
use Rattle.law_fate.proofs.Name.Looks.{look_follow, look_list}
use Rattle.law_fate.proofs.Name.EvalFacts.{got_bound_in, got_noun, got_fixed, got_slot, got_named, got_captures, got_view, got_literal, got_safe, got_any, got_no_match}
use Rattle.law_fate.proofs.Name.Serves.{below_end}
use Rattle.law_never_astray.specs.Formed.{AllOf, Formed}
use Rattle.law_never_astray.specs.Covered.{Stands, Covers}
use Rattle.law_never_astray.proofs.Statics.{IsOpen}
use Rattle.law_never_astray.proofs.Parts.{formed_parts}
use Rattle.law_never_astray.proofs.Binds.{node_binds, members_stay}
use Rattle.law_never_astray.proofs.Captures.{covers_named, Extends, covers_extended, extends_none, extends_more}
use Rattle.law_never_astray.proofs.Leads.{Nothing, Kept, covers_up, stands_up, lead_thing}
use Rattle.law_never_astray.proofs.CoveredEval as stand
use Rattle.law_never_astray.proofs.CoveredEval.{opened, opened_all}
use Rattle.law_never_astray.proofs.CoveredNodes.{opened_may, named_covers, object_carries}
use Rattle.law_never_astray.proofs.Good.{Good, Goes, Off, good_bind, good_next, good_then, good_ending, good_ends, good_forget, good_more, further, good_give, good_gives, good_throw, good_eject, good_seen, good_told, good_slot, good_write, good_look_slot, go_unit, on_value, on_values}
use Rattle.law_never_astray.proofs.Natives.{GoodCaller, Works, on_object, good_failed, good_handed, good_coerce, good_ask_all, good_leave, good_new_ejector}
use Rattle.law_never_astray.proofs.Eval.{GoodEvaluator, lift, top, val, env, vals, envs, more, as_ref, good_answered, good_unless, good_all, good_last, good_bind_all, good_inside}

module _ {N W : Type 0} (K : Naming N W) (S : Care N) (tree : List Node) (Bad : Vat N → Type 0) (Rests : List (Message N) → List (Known N) → Type 0) (works : Works K S tree Bad Rests) (rec : Evaluator N) (good : GoodEvaluator S tree Bad Rests rec) (again : GoodCaller S tree Bad Rests (calls.call K tree rec)) where
  abbrev Does : Fact N → ℕ → {A : Type 0} → Act N A → (A → Fact N) → (ℕ → A → Type 0) → Type 0
  Does C many m H G = Good S tree Bad Rests C many m H G

  -- ---- nouns

  good_read : (C : Fact N) (many act : ℕ) (v : Bool) (x : Words) (o : Option (Bound N)) → Gets S C (MayBound o) → Stands many v x o → Does C many (scopes.read_bound act o x) IsValue Nothing
  unfolding scopes.read_bound scopes.read_cell for_some
  good_read C many act true x (Some (Slot k)) i h = good_look_slot S tree Bad Rests k _ h (λ c. go_unit S tree Bad Rests (good_told S tree Bad Rests _ (told_slot_read S act k c.value)) (good_give S tree Bad Rests c.value (record { at = λ s q. q.1.1 })))
  good_read C many act false x (Some (Fixed w g)) i h = good_give S tree Bad Rests w (record { at = λ s q. (i.at s q).0 })
  good_read C many act false x (Some (Slot k)) i h = absurd h
  good_read C many act false x None i h = subst (λ p. Good S tree Bad Rests C many (for_some p give (stop Astray)) IsValue Nothing) (sym h.1) (good_give S tree Bad Rests h.0 (safe h.0 h.1))
    where
      safe : (w : Value N) → safe_value x ≡ Some w → Gets S C (IsValue w)
      safe w e = record { at = λ s q. subst (λ o. Holds (S.ok s) (MayValue o)) e ((got_safe S C x).at s q) }
  good_read C many act true x other i h = absurd h

  good_write_bound : (C : Fact N) (many act : ℕ) (x : Words) (o : Option (Bound N)) (v : Value N) → Gets S C (IsValue v) → Stands many true x o → Does C many (eval.write_bound K tree rec act o v) IsValue Nothing
  unfolding eval.write_bound eval.write_cell
  good_write_bound C many act x (Some (Slot k)) v g h = good_look_slot S tree Bad Rests k _ h (λ c. on_value S tree Bad Rests (good_coerce K S tree Bad Rests works (calls.call K tree rec) again act c.guard (record { at = λ s q. q.1.0 }) Null (got_null S _) v (lift S g))
      (λ w. go_unit S tree Bad Rests (good_write S tree Bad Rests k w (top S)) (go_unit S tree Bad Rests (good_told S tree Bad Rests _ (told_slot_wrote S act k w)) (good_give S tree Bad Rests w (top S)))))
  good_write_bound C many act x other v g h = absurd h

  good_exit : (C : Fact N) (many : ℕ) (s t : Scopes) (j : Option ℕ) (here : Scope N) → Gets S C (AreNouns here.nouns) → IsOpen s → WhereSome (Formed tree Expression) j → MayScoped tree s j t → Covers many here.nouns s → Does C many (eval.exit_of K tree rec j here) answer (stand.answer t)
  unfolding eval.exit_of
  good_exit C many s t j here e o f has_none c = good_answered K S tree Bad Rests works t here Null (got_null S C) e c
  good_exit C many s t j here e o f (has_one {n = n} a) c = good.expression C many s t n here e o f a c

  good_guard : (C : Fact N) (many : ℕ) (s t : Scopes) (j : Option ℕ) (here : Scope N) → Gets S C (AreNouns here.nouns) → IsOpen s → WhereSome (Formed tree Expression) j → MayScoped tree s j t → Covers many here.nouns s → Does C many (eval.guard_of K tree rec j here) answer (stand.answer t)
  unfolding eval.guard_of
  good_guard C many s t j here e o f has_none c = good_answered K S tree Bad Rests works t here _ (got_any S C) e c
  good_guard C many s t j here e o f (has_one {n = n} a) c = good_bind S tree Bad Rests answer (stand.answer t) (good.expression C many s t n here e o f a c)
      (λ k x l g. on_value S tree Bad Rests (good_seen S tree Bad Rests _ (look_follow K S x.value (val S x))) (λ y. good_answered K S tree Bad Rests works t x.scope y (top S) (lift S (env S x)) g))

  -- ---- nodes with a scope of their own

  -- what is answered in the environment round it
  good_round : (C : Fact N) (many : ℕ) (s : Scopes) (here : Scope N) {m : Act N (Answer N)} → Gets S C (AreNouns here.nouns) → Covers many here.nouns s → Does C many m answer Nothing → Does C many (m >>= λ x. scopes.answered here x.value) answer (stand.answer s)
  good_round C many s here e c h = good_next S tree Bad Rests answer h (λ x. good_answered K S tree Bad Rests works s here x.value (val S x) (lift S e) c)

  -- a pattern and an expression behind it, and what is answered round them
  good_handled : (C : Fact N) (many : ℕ) (s u w : Scopes) (p b : ℕ) (v j : Value N) (here : Scope N) → Gets S C (IsValue v) → Gets S C (IsValue j) → Gets S C (AreNouns here.nouns) → Formed tree Pattern p → Formed tree Expression b → Scoped tree ([] ∷ s) p u → Scoped tree u b w → Covers many here.nouns s
      → Does C many (rec.pattern p v j here >>= λ inner. rec.expression b inner >>= λ x. scopes.answered here x.value) answer (stand.answer s)
  good_handled C many s u w p b v j here a i n f g d e c = good_bind S tree Bad Rests scope (stand.environment u) (good.pattern C many ([] ∷ s) u p v j here a i n tt f d c)
      (λ k inner l h. good_round (Also C (AreNouns inner.nouns)) k s here (lift S n) (covers_up many k l here.nouns s c) (good_forget S tree Bad Rests (stand.answer w) (good.expression _ k u w b inner (top S) (opened tree ([] ∷ s) u Pattern p tt f d) g e h)))

  good_escaped : (C : Fact N) (many : ℕ) (s : Scopes) (j : ℕ) (here : Scope N) (c : Option (ℕ × ℕ)) {m : Act N (Answer N)} → Gets S C (AreNouns here.nouns) → Covers many here.nouns s → ((v : Value N) → Does (Also C (IsValue v)) many (eval.caught_by K tree rec here c v) answer (stand.answer s)) → Does C many m answer Nothing
      → Does C many (eval.escaped K tree rec j here c m) answer (stand.answer s)
  unfolding eval.escaped
  good_escaped C many s j here c e d caught h = good_ends S tree Bad Rests answer h (λ x. good_leave K S tree Bad Rests works j _ (good_answered K S tree Bad Rests works s here x.value (val S x) (lift S e) d)) (λ p. good_leave K S tree Bad Rests works j _ (good_throw S tree Bad Rests p))
      (λ n v. good_leave K S tree Bad Rests works j _ (good_unless K S tree Bad Rests works (n == j) n v (top S) (caught v)))

  good_caught_none : (C : Fact N) (many : ℕ) (s : Scopes) (here : Scope N) (v : Value N) → Gets S C (IsValue v) → Gets S C (AreNouns here.nouns) → Covers many here.nouns s → Does C many (eval.caught_by K tree rec here None v) answer (stand.answer s)
  unfolding eval.caught_by
  good_caught_none C many s here v g e c = go_unit S tree Bad Rests (good_told S tree Bad Rests _ (told_got S here.act v)) (good_answered K S tree Bad Rests works s here v g e c)

  good_caught_some : (C : Fact N) (many : ℕ) (s u w : Scopes) (q b : ℕ) (here : Scope N) (v : Value N) → Gets S C (IsValue v) → Gets S C (AreNouns here.nouns) → Formed tree Pattern q → Formed tree Expression b → Scoped tree ([] ∷ s) q u → Scoped tree u b w → Covers many here.nouns s
      → Does C many (eval.caught_by K tree rec here (Some (q, b)) v) answer (stand.answer s)
  unfolding eval.caught_by
  good_caught_some C many s u w q b here v g n f h d e c = go_unit S tree Bad Rests (good_told S tree Bad Rests _ (told_got S here.act v)) (good_handled C many s u w q b v Null here g (got_null S C) n f h d e c)

  good_tried : (C : Fact N) (many : ℕ) (s u w : Scopes) (p h : ℕ) (here : Scope N) {m : Act N (Answer N)} → Gets S C (AreNouns here.nouns) → Formed tree Pattern p → Formed tree Expression h → Scoped tree ([] ∷ s) p u → Scoped tree u h w → Covers many here.nouns s → Does C many m answer Nothing
      → Does C many (eval.tried K tree rec p h here m) answer (stand.answer s)
  unfolding eval.tried eval.handles
  good_tried C many s u w p h here n f g d e c r = good_ends S tree Bad Rests answer r (λ x. good_answered K S tree Bad Rests works s here x.value (val S x) (lift S n) c) (λ t. good_handled C many s u w p h (Text t) Null here (got_text S C t) (got_null S C) n f g d e c) (λ i v. good_eject S tree Bad Rests i v (top S))

  good_at_last : (C : Fact N) (many : ℕ) (s w : Scopes) (b : ℕ) (here : Scope N) {m : Act N (Answer N)} → Gets S C (AreNouns here.nouns) → Formed tree Expression b → Scoped tree ([] ∷ s) b w → Covers many here.nouns s → Does C many m answer Nothing → Does C many (eval.at_last K tree rec b here m) answer (stand.answer s)
  unfolding eval.at_last
  good_at_last C many s w b here n f d c r = let last : (D : Fact N) → Gets S D (AreNouns here.nouns) → Good S tree Bad Rests D many (rec.expression b here) answer Nothing = λ D e. good_forget S tree Bad Rests (stand.answer w) (good.expression D many ([] ∷ s) w b here e tt f d c) in
      good_ends S tree Bad Rests answer r (λ x. good_then S tree Bad Rests answer (last _ (lift S n)) (good_answered K S tree Bad Rests works s here x.value (val S x) (lift S n) c)) (λ p. good_then S tree Bad Rests answer (last _ n) (good_throw S tree Bad Rests p)) (λ i v. good_then S tree Bad Rests answer (last _ (lift S n)) (good_eject S tree Bad Rests i v (top S)))

  good_choose : (C : Fact N) (many : ℕ) (s t u v : Scopes) (a b : ℕ) (here inner : Scope N) (y : Value N) → Gets S C (AreNouns here.nouns) → Gets S C (AreNouns inner.nouns) → IsOpen t → Formed tree Expression a → Formed tree Expression b → Scoped tree t a u → Scoped tree ([] ∷ s) b v → Covers many here.nouns s → Covers many inner.nouns t
      → Does C many (eval.choose K tree rec a b here inner y) answer (stand.answer s)
  unfolding eval.choose
  good_choose C many s t u v a b here inner (Flag true) n q o f g d e c i = good_round C many s here n c (good_forget S tree Bad Rests (stand.answer u) (good.expression C many t u a inner q o f d i))
  good_choose C many s t u v a b here inner (Flag false) n q o f g d e c i = good_round C many s here n c (good_forget S tree Bad Rests (stand.answer v) (good.expression C many ([] ∷ s) v b here n tt g e c))
  good_choose C many s t u v a b here inner _ n q o f g d e c i = good_throw S tree Bad Rests _

  -- ---- matches

  good_unmatched_noun : (C : Fact N) (many act : ℕ) (v : Bool) (x : Words) → Does C many (eval.unmatched_noun K tree act v) IsBound (λ k o. Stands k v x (Some o))
  unfolding eval.unmatched_noun
  good_unmatched_noun C many act false x = good_gives S tree Bad Rests _ _ (got_fixed S C _ _ (got_no_match K S tree C) (got_any S C)) (λ k l. tt)
  good_unmatched_noun C many act true x = good_bind S tree Bad Rests nothing (λ k i. i < k) (good_slot S tree Bad Rests _ _ (got_any S C) (got_no_match K S tree C)) (λ k i l g. go_unit S tree Bad Rests (good_told S tree Bad Rests _ (told_slot_made S act i _)) (good_gives S tree Bad Rests _ (Slot i) (got_slot S _ i) (λ z w. omega arith)))

  good_unmatched : (C : Fact N) (many : ℕ) (bs : List BoundNoun) (here : Scope N) → Gets S C (AreNouns here.nouns) → Does C many (eval.unmatched K tree bs here) scope (λ k (after : Scope N). Extends k bs here.nouns after.nouns)
  unfolding eval.unmatched with_noun
  good_unmatched C many [] here e = good_gives S tree Bad Rests _ here e (λ k l. extends_none k here.nouns)
  good_unmatched C many (b ∷ bs) here e = good_bind S tree Bad Rests IsBound (λ k o. Stands k b.is_var b.noun (Some o)) (good_unmatched_noun C many here.act b.is_var b.noun)
      (λ k o l g. extended k o g (good_unmatched (Also C (IsBound o)) k bs (with_noun b.noun o here) (got_noun S (Also C (IsBound o)) b.noun o here.nouns (top S) (lift S e))))
    where
      extended : (k : ℕ) (o : Bound N) → Stands k b.is_var b.noun (Some o) → Good S tree Bad Rests (Also C (IsBound o)) k (eval.unmatched K tree bs (with_noun b.noun o here)) scope (λ i (after : Scope N). Extends i bs (record { noun = b.noun; bound = o } ∷ here.nouns) after.nouns)
          → Good S tree Bad Rests (Also C (IsBound o)) k (eval.unmatched K tree bs (with_noun b.noun o here)) scope (λ i (after : Scope N). Extends i (b ∷ bs) here.nouns after.nouns)
      extended k o g h = good_more S tree Bad Rests (λ i (after : Scope N). Extends i bs (record { noun = b.noun; bound = o } ∷ here.nouns) after.nouns) (λ i after m e. extends_more i b o bs here.nouns after.nouns (stands_up k i m b.is_var b.noun (Some o) g) e) h

  good_not_matched : (C : Fact N) (many : ℕ) (s t : Scopes) (p : ℕ) (here : Scope N) (v : Value N) → Gets S C (AreNouns here.nouns) → IsOpen s → Formed tree Pattern p → Scoped tree s p t → Covers many here.nouns s → Does C many (eval.not_matched K tree p here v) answer (stand.answer t)
  unfolding eval.not_matched bound_nouns
  good_not_matched C many s t p here v n o f d c = go_unit S tree Bad Rests (good_told S tree Bad Rests _ (told_got S here.act v)) (good_bind S tree Bad Rests scope (λ k (after : Scope N). Extends k (bound_nouns tree p) here.nouns after.nouns) (good_unmatched C many (bound_nouns tree p) here n)
      (λ k after l e. good_answered K S tree Bad Rests works t after (Flag false) (got_flag S _ false) (top S) (covers_extended k (bound_nouns tree p) here.nouns after.nouns s t (covers_up many k l here.nouns s c) (node_binds tree s t p d o (length tree) Pattern f) e)))

  good_match_ended : (C : Fact N) (many : ℕ) (s t : Scopes) (j p : ℕ) (here : Scope N) {m : Act N (Scope N)} → Gets S C (AreNouns here.nouns) → IsOpen s → Formed tree Pattern p → Scoped tree s p t → Covers many here.nouns s → Does C many m scope (stand.environment t) → Does C many (eval.match_ended K tree j p here m) answer (stand.answer t)
  unfolding eval.match_ended
  good_match_ended C many s t j p here n o f d c r = good_ending S tree Bad Rests scope (stand.environment t) r (λ k inner l g. good_leave K S tree Bad Rests works j _ (good_answered K S tree Bad Rests works t inner (Flag true) (got_flag S _ true) (top S) g)) (λ q. good_leave K S tree Bad Rests works j _ (good_throw S tree Bad Rests q))
      (λ i v. good_leave K S tree Bad Rests works j _ (good_unless K S tree Bad Rests works (i == j) i v (top S) (good_not_matched _ many s t p here v (lift S n) o f d c)))

  -- ---- objects

  -- an object may be among its own captures: they are good once it is there
  object_goes : (many : ℕ) (u t : Scopes) (id p : ℕ) (auditors members : List ℕ) (stamps : List (Value N)) (here : Scope N) (s : Vat N) → Sound S s → Holds (S.ok s) (AreNouns here.nouns) → Holds (S.ok s) (AreValues stamps) → Kept tree many s → Rests s.queue s.known → IsOpen u → Has tree id (Object p auditors members)
      → AllOf (Formed tree Member) members → AllScoped tree u members t → Covers many (named (slice_get tree p) (Ref (K.object (length s.things))) here).nouns u
      → Goes S tree Bad Rests answer (stand.answer t) s (calls.object_as K tree id (slice_get tree p) (free_nouns tree members) stamps (K.object (length s.things)) here s)
  unfolding calls.object_as calls.object_in calls.object_made ◌>>◌ and_then new_thing
  object_goes many u t id p auditors members stamps here s h nouns i kept rests o e g a c =
      let me : N = K.object (length s.things) in let after : Scope N = named (slice_get tree p) (Ref me) here in let caught : List (Binding N) = scopes.captures after (free_nouns tree members) in
      let x : Thing N = Made id caught stamps in let v : Vat N = record s { things = s.things ++ x ∷ [] } in let r = (S.thing s x).0 in
      let C : Fact N = Also (IsName me) (AreNouns here.nouns) in let f : Holds (S.ok v) C = (works.serves.object v (length s.things) (below_end s.things x), rise S s v r (AreNouns here.nouns) nouns) in
      let own : Gets S C (IsValue (Ref me)) = record { at = λ w k. k.0 } in let in_after : Gets S C (AreNouns after.nouns) = got_named S C (slice_get tree p) (Ref me) here own (record { at = λ w k. k.1 }) in
      let ok = thing_comes S s x h ((got_captures S C after (free_nouns tree members) in_after).at v f, rise S s v r (AreValues stamps) i) in
      let carried = (lead_thing tree (Off S tree Bad Rests) x (λ k l. object_carries tree k u t id p auditors members after stamps o e g a (covers_up many k l after.nouns u c))).after s kept in
      let covers : Covers many after.nouns t = subst (λ z. Covers many after.nouns z) (members_stay tree u t members a (length tree) g) c in
      further S tree Bad Rests answer (stand.answer t) s v _ ok.0 carried.0.0 ((go_unit S tree Bad Rests (good_told S tree Bad Rests _ (told_object_made S here.act me (scopes.name_of (slice_get tree p)) (map (λ b. b.bound) caught) stamps))
      (good_answered K S tree Bad Rests works {C = C} t after (Ref me) own in_after covers)).after v ok.1 f (let l = kept.0 in let m = carried.0.0 in (omega arith, carried.0.1)) rests)

  object_after : (C : Fact N) (many : ℕ) (s u t : Scopes) (id p : ℕ) (auditors members : List ℕ) (stamps : List (Value N)) (here : Scope N) → Gets S C (AreValues stamps) → Gets S C (AreNouns here.nouns) → IsOpen s → Has tree id (Object p auditors members) → Formed tree AName p → AllOf (Formed tree Member) members
      → Scoped tree s p u → AllScoped tree u members t → Covers many here.nouns s → Does C many (look (λ s. length s.things) >>= (λ n. calls.object_as K tree id (slice_get tree p) (free_nouns tree members) stamps (K.object n) here)) answer (stand.answer t)
  unfolding look ◌>>=◌ and_then
  object_after C many s u t id p auditors members stamps here x n o e f g d a c = record {
    after = λ w h i k r. object_goes many u t id p auditors members stamps here w h (n.at w i) (x.at w i) k r (opened tree s u AName p o f d) e g a (named_covers tree many s u p (Ref (K.object (length w.things))) here f d c);
  }

  good_make_object : (C : Fact N) (many : ℕ) (s u t : Scopes) (id p : ℕ) (auditors members : List ℕ) (vs : List (Value N)) (here : Scope N) → Gets S C (AreValues vs) → Gets S C (AreNouns here.nouns) → IsOpen s → Has tree id (Object p auditors members) → Formed tree AName p → AllOf (Formed tree Member) members
      → Scoped tree s p u → AllScoped tree u members t → Covers many here.nouns s → Does C many (calls.make_object K tree (calls.call K tree rec) id (slice_get tree p) (free_nouns tree members) vs here) answer (stand.answer t)
  unfolding calls.make_object calls.view_of
  good_make_object C many s u t id p auditors members vs here x n o e f g d a c = on_values S tree Bad Rests (good_ask_all K S tree Bad Rests works (calls.call K tree rec) again here.act _ (_, e) (got_view K S tree C id (slice_get tree p) (free_nouns tree members) here n) vs x)
      (λ stamps. object_after (Also C (AreValues stamps)) many s u t id p auditors members stamps here (top S) (lift S n) o e f g d a c)

  -- ---- expressions

  at_node : (C : Fact N) (many n : ℕ) (node : Node) (here : Scope N) {G : ℕ → Answer N → Type 0} → Has tree n node → Does C many (eval.step_found K tree rec n (Some node) here) answer G → Does C many (eval.step_found K tree rec n (slice_get tree n) here) answer G
  at_node C many n node here {G = G} e h = subst (λ o. Good S tree Bad Rests C many (eval.step_found K tree rec n o here) answer G) (sym e) h

  pub good_expression : (C : Fact N) (many : ℕ) (s t : Scopes) (n : ℕ) (here : Scope N) → Gets S C (AreNouns here.nouns) → IsOpen s → Formed tree Expression n → Scoped tree s n t → Covers many here.nouns s → Does C many (eval.step_found K tree rec n (slice_get tree n) here) answer (stand.answer t)
  unfolding eval.step_found eval.step
  good_expression C many s t n here i o f (is_literal {l = l} e) c = at_node C many n _ here e (good_answered K S tree Bad Rests works s here _ (got_literal S C l) i c)
  good_expression C many s t n here i o f (is_noun {name = x} {is_var = v} e b) c = at_node C many n _ here e (on_value S tree Bad Rests (good_read C many here.act v x (bound_in here.nouns x) (got_bound_in S C here.nouns x i) (c x v b)) (λ y. good_answered K S tree Bad Rests works s here y (top S) (lift S i) c))
  good_expression C many s t n here i o f (is_set {e = a} {name = x} e b d) c = at_node C many n _ here e (let g = formed_parts tree Expression n _ f e in good_bind S tree Bad Rests answer (stand.answer t) (good.expression C many s t a here i o g d c)
      (λ k y l h. on_value S tree Bad Rests (good_write_bound _ k here.act x (bound_in here.nouns x) y.value (val S y) (stands_up many k l true x (bound_in here.nouns x) (c x true b))) (λ w. good_answered K S tree Bad Rests works t y.scope w (top S) (lift S (env S y)) h)))
  good_expression C many s t n here i o f (is_def {t = u} {u = w} {p = p} {e = a} {exit = j} e x y z) c = at_node C many n _ here e (let g = formed_parts tree Expression n _ f e in let ou = opened_may tree s u j o g.1 x in
      good_bind S tree Bad Rests answer (stand.answer u) (good_exit C many s u j here i o g.1 x c) (λ k q l h. good_bind S tree Bad Rests answer (stand.answer w) (good.expression _ k u w a q.scope (env S q) ou g.2 y h)
      (λ k' r m h'. good_bind S tree Bad Rests scope (stand.environment t) (good.pattern _ k' w t p r.value q.value r.scope (val S r) (lift S (val S q)) (env S r) (opened tree u w Expression a ou g.2 y) g.0 z h')
      (λ z' after m' h''. good_answered K S tree Bad Rests works t after r.value (lift S (val S r)) (top S) h''))))
  good_expression C many s t n here i o f (is_call {t = u} {r = r} {verb = verb} {args = args} e x y) c = at_node C many n _ here e (let g = formed_parts tree Expression n _ f e in
      good_bind S tree Bad Rests answer (stand.answer u) (good.expression C many s u r here i o g.0 x c) (λ k q l h. good_bind S tree Bad Rests answers (stand.answers t) (good_all K S tree Bad Rests works rec good _ k u t args q.scope (env S q) (opened tree s u Expression r o g.0 x) g.1 y h)
      (λ k' qs m h'. on_value S tree Bad Rests (again _ k' here.act q.value (lift S (val S q)) verb qs.values (vals S qs)) (λ v. good_answered K S tree Bad Rests works t qs.scope v (top S) (lift S (envs S qs)) h'))))
  good_expression C many s t n here i o f (is_sequence {parts = es} e x) c = at_node C many n _ here e (let g = formed_parts tree Expression n _ f e in good_last K S tree Bad Rests works rec good C many s t (record { value = Null; scope = here }) es (got_null S C) i o g x c)
  good_expression C many s t n here i o f (is_choice {t = u} {u = w} {v = v} {a = a} {b = b} {c = d} e x y z) c = at_node C many n _ here e (let g = formed_parts tree Expression n _ f e in
      good_bind S tree Bad Rests answer (stand.answer u) (good.expression C many ([] ∷ s) u a here i tt g.0 x c) (λ k q l h. on_value S tree Bad Rests (good_seen S tree Bad Rests _ (look_follow K S q.value (val S q)))
      (λ r. good_choose _ k s u w v b d here q.scope r (lift S (lift S i)) (lift S (env S q)) (opened tree ([] ∷ s) u Expression a tt g.0 x) g.1 g.2 y z (covers_up many k l here.nouns s c) h)))
  good_expression C many s t n here i o f (is_escape {t = u} {u = w} {p = p} {b = b} e x y) c = at_node C many n _ here e (let g = formed_parts tree Expression n _ f e in on_object K S tree Bad Rests works (good_new_ejector K S tree Bad Rests works here.act)
      (λ j. good_escaped _ many s j here None (lift S i) c (λ v. good_caught_none _ many s here v (top S) (lift S (lift S i)) c)
      (good_forget S tree Bad Rests (stand.answer w) (good_inside K S tree Bad Rests works rec good _ many s u w p b (Ref (K.object j)) Null here (as_ref S (K.object j) (top S)) (got_null S _) (lift S i) g.0 g.1 x y c))))
  good_expression C many s t n here i o f (is_escape_catch {t = u} {u = w} {p = p} {b = b} {q = q} {c = d} e x y z r) c = at_node C many n _ here e (let g = formed_parts tree Expression n _ f e in on_object K S tree Bad Rests works (good_new_ejector K S tree Bad Rests works here.act)
      (λ j. good_escaped _ many s j here (Some (q, d)) (lift S i) c (λ v. good_caught_some _ many s _ _ q d here v (top S) (lift S (lift S i)) g.2.0 g.2.1 z r c)
      (good_forget S tree Bad Rests (stand.answer w) (good_inside K S tree Bad Rests works rec good _ many s u w p b (Ref (K.object j)) Null here (as_ref S (K.object j) (top S)) (got_null S _) (lift S i) g.0 g.1 x y c))))
  good_expression C many s t n here i o f (is_try {t = u} {b = b} {p = p} {h = d} e x y z) c = at_node C many n _ here e (let g = formed_parts tree Expression n _ f e in
      good_tried C many s _ _ p d here i g.1 g.2 y z c (good_forget S tree Bad Rests (stand.answer u) (good.expression C many ([] ∷ s) u b here i tt g.0 x c)))
  good_expression C many s t n here i o f (is_finally {t = u} {a = a} {b = b} e x y) c = at_node C many n _ here e (let g = formed_parts tree Expression n _ f e in
      good_at_last C many s _ b here i g.1 y c (good_forget S tree Bad Rests (stand.answer u) (good.expression C many ([] ∷ s) u a here i tt g.0 x c)))
  good_expression C many s t n here i o f (is_hide {t = u} {e = a} e x) c = at_node C many n _ here e (let g = formed_parts tree Expression n _ f e in good_round C many s here i c (good_forget S tree Bad Rests (stand.answer u) (good.expression C many ([] ∷ s) u a here i tt g x c)))
  good_expression C many s t n here i o f (is_match {t = u} {e = a} {p = p} e x y) c = at_node C many n _ here e (let g = formed_parts tree Expression n _ f e in let ou = opened tree s u Expression a o g.0 x in
      good_bind S tree Bad Rests answer (stand.answer u) (good.expression C many s u a here i o g.0 x c) (λ k q l h. on_object K S tree Bad Rests works (good_new_ejector K S tree Bad Rests works here.act)
      (λ j. good_match_ended _ k u t j p q.scope (lift S (env S q)) ou g.1 y h (good.pattern _ k u t p q.value (Ref (K.object j)) q.scope (lift S (val S q)) (as_ref S (K.object j) (top S)) (lift S (env S q)) ou g.1 y h))))
  good_expression C many s t n here i o f (is_object {t = u} {u = w} {p = p} {auditors = as'} {members = ms} e x y z) c = at_node C many n _ here e (let g = formed_parts tree Expression n _ f e in
      good_bind S tree Bad Rests answers (stand.answers u) (good_all K S tree Bad Rests works rec good C many s u as' here i o g.1 x c) (λ k q l h. good_make_object _ k u w t n p as' ms q.values q.scope (vals S q) (envs S q) (opened_all tree s u Expression as' o g.1 x) e g.0 g.2 y z h))
  good_expression C many s t n here i o f (is_method e x y) c = absurd (formed_parts tree Expression n _ f e)
  good_expression C many s t n here i o f (is_matcher e x y) c = absurd (formed_parts tree Expression n _ f e)
  good_expression C many s t n here i o f (is_final e x y) c = absurd (formed_parts tree Expression n _ f e)
  good_expression C many s t n here i o f (is_var e x y) c = absurd (formed_parts tree Expression n _ f e)
  good_expression C many s t n here i o f (is_any e x) c = absurd (formed_parts tree Expression n _ f e)
  good_expression C many s t n here i o f (is_list e x) c = absurd (formed_parts tree Expression n _ f e)
  good_expression C many s t n here i o f (is_via e x y) c = absurd (formed_parts tree Expression n _ f e)

  -- ---- patterns

  good_bind_list : (C : Fact N) (many : ℕ) (s t : Scopes) (ps : List ℕ) (j : Value N) (here : Scope N) (vs : List (Value N)) → Gets S C (IsValue j) → Gets S C (AreNouns here.nouns) → Gets S C (AreValues vs) → IsOpen s → AllOf (Formed tree Pattern) ps → AllScoped tree s ps t → Covers many here.nouns s
      → Does C many (eval.bind_list K tree rec ps j here vs) scope (stand.environment t)
  unfolding eval.bind_list
  good_bind_list C many s t ps j here vs i q v o f d c = go (length vs == length ps) refl
    where
      go : (b : Bool) → (length vs == length ps) ≡ b → Good S tree Bad Rests C many (if b then calls.bind_all K tree rec ps vs j here else perform.failed K tree (calls.call K tree rec) here.act j (codes "not a list")) scope (stand.environment t)
      go true e = good_bind_all K S tree Bad Rests works rec good C many s t ps vs j here v i q o f d (sym (eqb-true (length vs) (length ps) e)) c
      go false e = good_failed K S tree Bad Rests works (calls.call K tree rec) again here.act j i _

  good_bind_items : (C : Fact N) (many : ℕ) (s t : Scopes) (ps : List ℕ) (j : Value N) (here : Scope N) (y : Value N) → Gets S C (IsValue j) → Gets S C (AreNouns here.nouns) → IsOpen s → AllOf (Formed tree Pattern) ps → AllScoped tree s ps t → Covers many here.nouns s
      → Does C many (eval.bind_items K tree rec ps j here y) scope (stand.environment t)
  unfolding eval.bind_items
  good_bind_items C many s t ps j here (Items k) i q o f d c = on_values S tree Bad Rests (good_seen S tree Bad Rests _ (look_list S k)) (λ vs. good_bind_list _ many s t ps j here vs (lift S i) (lift S q) (top S) o f d c)
  good_bind_items C many s t ps j here _ i q o f d c = good_failed K S tree Bad Rests works (calls.call K tree rec) again here.act j i _

  at_pattern : (C : Fact N) (many : ℕ) (t : Scopes) (n : ℕ) (node : Node) (v j : Value N) (here : Scope N) → Has tree n node → Does C many (eval.bind_found K tree rec (Some node) v j here) scope (stand.environment t) → Does C many (eval.bind_found K tree rec (slice_get tree n) v j here) scope (stand.environment t)
  at_pattern C many t n node v j here e h = subst (λ o. Good S tree Bad Rests C many (eval.bind_found K tree rec o v j here) scope (stand.environment t)) (sym e) h

  pub good_pattern : (C : Fact N) (many : ℕ) (s t : Scopes) (n : ℕ) (v j : Value N) (here : Scope N) → Gets S C (IsValue v) → Gets S C (IsValue j) → Gets S C (AreNouns here.nouns) → IsOpen s → Formed tree Pattern n → Scoped tree s n t → Covers many here.nouns s
      → Does C many (eval.bind_found K tree rec (slice_get tree n) v j here) scope (stand.environment t)
  unfolding eval.bind_found eval.bind_step with_noun
  good_pattern C many s t n v j here gv gj gn o f (is_final {t = r} {name = x} {guard = g} e a b) c = at_pattern C many t n _ v j here e (good_bind S tree Bad Rests answer (stand.answer r) (good_guard C many s r g here gn o (formed_parts tree Pattern n _ f e) a c)
      (λ k y l h. on_value S tree Bad Rests (good_coerce K S tree Bad Rests works (calls.call K tree rec) again here.act y.value (val S y) j (lift S gj) v (lift S gv))
      (λ w. good_gives S tree Bad Rests (stand.environment t) _ (got_noun S _ x (Fixed w y.value) y.scope.nouns (got_fixed S _ w y.value (top S) (lift S (val S y))) (lift S (env S y))) (λ i m. covers_named i y.scope.nouns x (Fixed w y.value) false r b tt (covers_up k i m y.scope.nouns r h)))))
  good_pattern C many s t n v j here gv gj gn o f (is_var {t = r} {name = x} {guard = g} e a b) c = at_pattern C many t n _ v j here e (good_bind S tree Bad Rests answer (stand.answer r) (good_guard C many s r g here gn o (formed_parts tree Pattern n _ f e) a c)
      (λ k y l h. on_value S tree Bad Rests (good_coerce K S tree Bad Rests works (calls.call K tree rec) again here.act y.value (val S y) j (lift S gj) v (lift S gv))
      (λ w. good_bind S tree Bad Rests nothing (λ i z. z < i) (good_slot S tree Bad Rests y.value w (lift S (val S y)) (top S))
      (λ i z m q. go_unit S tree Bad Rests (good_told S tree Bad Rests _ (told_slot_made S here.act z w)) (good_gives S tree Bad Rests (stand.environment t) _ (got_noun S _ x (Slot z) y.scope.nouns (got_slot S _ z) (lift S (lift S (env S y))))
      (λ i' m'. covers_named i' y.scope.nouns x (Slot z) true r b (omega arith) (covers_up k i' (omega arith) y.scope.nouns r h)))))))
  good_pattern C many s t n v j here gv gj gn o f (is_any {guard = g} e a) c = at_pattern C many t n _ v j here e (good_bind S tree Bad Rests answer (stand.answer t) (good_guard C many s t g here gn o (formed_parts tree Pattern n _ f e) a c)
      (λ k y l h. on_value S tree Bad Rests (good_coerce K S tree Bad Rests works (calls.call K tree rec) again here.act y.value (val S y) j (lift S gj) v (lift S gv))
      (λ w. good_gives S tree Bad Rests (stand.environment t) y.scope (lift S (env S y)) (λ i m. covers_up k i m y.scope.nouns t h))))
  good_pattern C many s t n v j here gv gj gn o f (is_list {patterns = ps} e a) c = at_pattern C many t n _ v j here e (on_value S tree Bad Rests (good_seen S tree Bad Rests _ (look_follow K S v gv)) (λ y. good_bind_items _ many s t ps j here y (lift S gj) (lift S gn) o (formed_parts tree Pattern n _ f e) a c))
  good_pattern C many s t n v j here gv gj gn o f (is_via {t = r} {e = a} {p = p} e x y) c = at_pattern C many t n _ v j here e (let g = formed_parts tree Pattern n _ f e in good_bind S tree Bad Rests answer (stand.answer r) (good.expression C many s r a here gn o g.0 x c)
      (λ k q l h. on_value S tree Bad Rests (good_handed K S tree Bad Rests works j (lift S gj)) (λ d. on_value S tree Bad Rests (again _ k here.act q.value (lift S (val S q)) (codes "run") (v ∷ d ∷ []) (more S v (d ∷ []) (lift S (lift S gv)) (more S d [] (top S) (got_none S _))))
      (λ z. good.pattern _ k r t p z j q.scope (top S) (lift S (lift S (lift S gj))) (lift S (lift S (env S q))) (opened tree s r Expression a o g.0 x) g.1 y h))))
  good_pattern C many s t n v j here gv gj gn o f (is_literal e) c = absurd (formed_parts tree Pattern n _ f e)
  good_pattern C many s t n v j here gv gj gn o f (is_noun e b) c = absurd (formed_parts tree Pattern n _ f e)
  good_pattern C many s t n v j here gv gj gn o f (is_set e b a) c = absurd (formed_parts tree Pattern n _ f e)
  good_pattern C many s t n v j here gv gj gn o f (is_def e i a p) c = absurd (formed_parts tree Pattern n _ f e)
  good_pattern C many s t n v j here gv gj gn o f (is_call e r a) c = absurd (formed_parts tree Pattern n _ f e)
  good_pattern C many s t n v j here gv gj gn o f (is_sequence e a) c = absurd (formed_parts tree Pattern n _ f e)
  good_pattern C many s t n v j here gv gj gn o f (is_choice e a b d) c = absurd (formed_parts tree Pattern n _ f e)
  good_pattern C many s t n v j here gv gj gn o f (is_escape e p b) c = absurd (formed_parts tree Pattern n _ f e)
  good_pattern C many s t n v j here gv gj gn o f (is_escape_catch e p b q d) c = absurd (formed_parts tree Pattern n _ f e)
  good_pattern C many s t n v j here gv gj gn o f (is_try e b p d) c = absurd (formed_parts tree Pattern n _ f e)
  good_pattern C many s t n v j here gv gj gn o f (is_finally e a b) c = absurd (formed_parts tree Pattern n _ f e)
  good_pattern C many s t n v j here gv gj gn o f (is_hide e a) c = absurd (formed_parts tree Pattern n _ f e)
  good_pattern C many s t n v j here gv gj gn o f (is_match e a p) c = absurd (formed_parts tree Pattern n _ f e)
  good_pattern C many s t n v j here gv gj gn o f (is_object e a p m) c = absurd (formed_parts tree Pattern n _ f e)
  good_pattern C many s t n v j here gv gj gn o f (is_method e a b) c = absurd (formed_parts tree Pattern n _ f e)
  good_pattern C many s t n v j here gv gj gn o f (is_matcher e p b) c = absurd (formed_parts tree Pattern n _ f e)
