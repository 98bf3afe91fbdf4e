-- What an activation looks at, it knows.
use Rattle.std.proofs.Common.{◌≡◌, ℕ, Bool, true, false, List, [], ◌∷◌, ◌++◌, Option, Some, None, refl, subst, length, map, ◌⊎◌, inl, inr}
use Rattle.std.specs.Prelude.{slice_get, codes}
use Rattle.def_machine.specs.Values.{Words, Value, Null, Flag, Number, Text, Prim, Items, Naming}
use Rattle.def_machine.specs.State.{Bound, Fixed, Slot, Binding, Scope, Freedom, IsItself, IsFinal, FreeName, View, Cell, Thing, Made, Audition, Resolver, Called, Vat, look}
use Rattle.def_machine.specs.Refs as refs
use Rattle.def_machine.specs.Refs.{Place, Near, Away, follow, place}
use Rattle.def_machine.specs.Free.{same_words, entry}
use Rattle.def_machine.specs.Form as form
use Rattle.def_machine.specs.Native as native
use Rattle.def_machine.specs.Native.{list_at, Reply, Says, Fails, Guard, AnyGuard, VoidGuard, IntGuard, BooleanGuard, CharGuard, TextGuard, ListGuard, NullGuard, NearGuard, FrozenGuard, OrNull, Primitive, RefTest, OptProblem, Fulfillment, NoTest, Order}
use Rattle.def_machine.specs.Scopes as scopes
use Rattle.def_machine.specs.Scopes.{any_guard, with_noun}
use Rattle.def_machine.specs.Perform as perform
use Rattle.def_machine.specs.Calls as calls
use Rattle.def_machine.specs.Eval as eval
use Rattle.def_kernel.specs.declared.node.Node.{Node}
use Rattle.def_kernel.specs.declared.node.Literal.{Literal}
use Rattle.def_kernel.specs.declared.node.Literal.TheVariants as literal
use Rattle.law_uses.specs.Connectivity.Known.{AValue, AGuard, ASlot, IsAmong, AllOf, Reaches, itself, onward, plain, member, followed, serves, guard}
use Rattle.law_uses.specs.Connectivity.Connected.{callee}
use Rattle.law_machine.specs.Natives.Natives.{IsPlain, ReplyHas}
use Rattle.law_machine.proofs.Natives.Natives.{either_has, entry_has, compared_has, range_has, null_reply_has, asked_has}
use Rattle.law_uses.proofs.Connectivity.Natives.{answers_known}
use Rattle.law_uses.specs.Connectivity.Settlings.{IsHanded}
use Rattle.law_uses.proofs.Connectivity.StepTraces.{told_follows}
use Rattle.law_uses.proofs.Connectivity.RefsCauses.{follows_now, placed}
use Rattle.law_uses.proofs.Connectivity.Ground.{Ground, held, Has, Knew, FreedomKnown, Good, PutTold}
use Rattle.law_uses.proofs.Connectivity.Fine.{MayBe, Fact, Nothing, Also, IsAct, IsValue, IsGuard, IsCallee, AreValues, AreLists, IsSlot, IsBound, IsScope, MayValue, MayBound, MayCell, Leads, IsReply, IsAsked, IsAuditionAsk, MayHand, WasCalled, IsAt, IsJudging, IsJudged, MayGive, MayThing, MayAsk, IsPlaced, AskHas, BoundKnown, NounKnown, AuditionAskKnown, Handed, ThingThere, Gets, Fine, fine_sees}

module _ {N W : Type 0} (K : Naming N W) (E : Ground N W) (a : ℕ) where
  knew_plain : (s : Vat N) (v : Value N) → IsPlain v → Knew K E s a v
  knew_plain s v h = plain h

  -- ---- what follows from facts

  pub got : (C D : Fact N) → Gets K E a (Also C D) D
  got C D = record { at = λ s h. h.1 }

  pub got_left : (C D F : Fact N) → Gets K E a C F → Gets K E a (Also C D) F
  got_left C D F g = record { at = λ s h. g.at s h.0 }

  pub got_right : (C D F : Fact N) → Gets K E a D F → Gets K E a (Also C D) F
  got_right C D F g = record { at = λ s h. g.at s h.1 }

  pub got_itself : (C : Fact N) → Gets K E a C C
  got_itself C = record { at = λ s h. h }

  pub got_both : (C D F : Fact N) → Gets K E a C D → Gets K E a C F → Gets K E a C (Also D F)
  got_both C D F g k = record { at = λ s h. (g.at s h, k.at s h) }

  pub got_nothing : (C : Fact N) → Gets K E a C Nothing
  got_nothing C = record { at = λ s h. tt }

  pub got_guard : (C : Fact N) (v : Value N) → Gets K E a C (IsValue v) → Gets K E a C (IsGuard v)
  got_guard C v g = record { at = λ s h. serves (g.at s h) }

  known_callee : (s : Vat N) (x : Value N) (verb : Words) (args : List (Value N)) → Knew K E s a x → Has K E s a (callee x verb args)
  unfolding callee
  known_callee s x verb (v ∷ j ∷ []) h = either_has (Has K E s a) (same_words (codes "coerce") verb) (AGuard x) (AValue x) (serves h) h
  known_callee s x verb other h = h

  pub got_callee : (C : Fact N) (x : Value N) (verb : Words) (args : List (Value N)) → Gets K E a C (IsValue x) → Gets K E a C (IsCallee x verb args)
  got_callee C x verb args g = record { at = λ s h. known_callee s x verb args (g.at s h) }

  -- a guard may be called to coerce
  pub got_coercer : (C : Fact N) (g v j : Value N) → Gets K E a C (IsGuard g) → Gets K E a C (IsCallee g (codes "coerce") (v ∷ j ∷ []))
  unfolding callee same_words
  got_coercer C g v j k = record { at = λ s h. k.at s h }

  pub got_null : (C : Fact N) → Gets K E a C (IsValue Null)
  got_null C = record { at = λ s h. plain tt }

  pub got_flag : (C : Fact N) (b : Bool) → Gets K E a C (IsValue (Flag b))
  got_flag C b = record { at = λ s h. plain tt }

  pub got_number : (C : Fact N) (z : _) → Gets K E a C (IsValue (Number z))
  got_number C z = record { at = λ s h. plain tt }

  pub got_text : (C : Fact N) (t : Words) → Gets K E a C (IsValue (Text t))
  got_text C t = record { at = λ s h. plain tt }

  pub got_prim : (C : Fact N) (n : ℕ) → Gets K E a C (IsValue (Prim n))
  got_prim C n = record { at = λ s h. plain tt }

  pub got_none : (C : Fact N) → Gets K E a C (AreValues [])
  got_none C = record { at = λ s h. tt }

  pub got_more : (C : Fact N) (v : Value N) (vs : List (Value N)) → Gets K E a C (IsValue v) → Gets K E a C (AreValues vs) → Gets K E a C (AreValues (v ∷ vs))
  got_more C v vs g k = record { at = λ s h. (g.at s h, k.at s h) }

  pub got_no_lists : (C : Fact N) → Gets K E a C (AreLists [])
  got_no_lists C = record { at = λ s h. tt }

  pub got_lists : (C : Fact N) (fs : List (List (Value N))) → Gets K E a C (AreLists fs) → Gets K E a C (AreLists ([] ∷ fs))
  got_lists C fs g = record { at = λ s h. (tt, g.at s h) }

  pub got_act : (C : Fact N) (here : Scope N) → Gets K E a C (IsScope here) → Gets K E a C (IsAct here.act)
  got_act C here g = record { at = λ s h. (g.at s h).0 }

  pub got_with : (C : Fact N) (x : Words) (b : Bound N) (here : Scope N) → Gets K E a C (IsBound b) → Gets K E a C (IsScope here) → Gets K E a C (IsScope (with_noun x b here))
  unfolding with_noun
  got_with C x b here g k = record { at = λ s h. let i = k.at s h in (i.0, (g.at s h, i.1), i.2) }

  pub got_fixed : (C : Fact N) (v g : Value N) → Gets K E a C (IsValue v) → Gets K E a C (IsValue g) → Gets K E a C (IsBound (Fixed v g))
  got_fixed C v g i j = record { at = λ s h. (i.at s h, serves (j.at s h)) }

  pub got_slot : (C : Fact N) (k : ℕ) → Gets K E a C (IsSlot k) → Gets K E a C (IsBound (Slot k))
  got_slot C k g = record { at = λ s h. g.at s h }

  pub got_any : (C : Fact N) → Gets K E a C (IsValue any_guard)
  unfolding any_guard
  got_any C = record { at = λ s h. plain tt }

  pub got_no_match : (C : Fact N) (tree : List Node) → Gets K E a C (IsValue (eval.no_match K tree))
  unfolding eval.no_match
  got_no_match C tree = record { at = λ s h. plain tt }

  literal_knew : (s : Vat N) (l : Literal) → Knew K E s a (form.literal_value l)
  unfolding form.literal_value
  literal_knew s (literal.Int z) = plain tt
  literal_knew s other = plain tt

  pub got_literal : (C : Fact N) (l : Literal) → Gets K E a C (IsValue (form.literal_value l))
  got_literal C l = record { at = λ s h. literal_knew s l }

  safe_knew : (s : Vat N) (x : Words) → MayBe (Knew K E s a) (native.safe_value {N = N} x)
  unfolding native.safe_value native.prims_from
  safe_knew s x = let p : (v : Value N) → IsPlain v → Knew K E s a v = knew_plain s in entry_has (MayBe (Knew K E s a)) _ _ x (p Null tt, (p (Flag true) tt, (p (Flag false) tt, (p (Prim 0) tt, (p (Prim 1) tt, (p (Prim 2) tt, (p (Prim 3) tt, (p (Prim 4) tt, (p (Prim 5) tt, (p (Prim 6) tt, (p (Prim 7) tt, (p (Prim 8) tt, (p (Prim 9) tt, (p (Prim 10) tt, (p (Prim 11) tt, (p (Prim 12) tt, (p (Prim 13) tt, (p (Prim 14) tt, (p (Prim 15) tt, (p (Prim 16) tt, (p (Prim 17) tt, (p (Prim 18) tt, (p (Prim 19) tt, tt))))))))))))))))))))))) tt

  pub got_safe : (C : Fact N) (x : Words) → Gets K E a C (MayValue (native.safe_value x))
  got_safe C x = record { at = λ s h. safe_knew s x }

  bound_either : (s : Vat N) (c : Bool) (b : Binding N) (o : Option (Bound N)) → BoundKnown K E a s b.bound → MayBe (BoundKnown K E a s) o → MayBe (BoundKnown K E a s) (elim c [ true ↦ Some b.bound | false ↦ o ])
  bound_either s true b o h i = h
  bound_either s false b o h i = i

  pub bound_known : (s : Vat N) (ns : List (Binding N)) (x : Words) → AllOf (NounKnown K E a s) ns → MayBe (BoundKnown K E a s) (scopes.bound_in ns x)
  unfolding scopes.bound_in
  bound_known s [] x h = tt
  bound_known s (b ∷ bs) x h = bound_either s (same_words b.noun x) b (scopes.bound_in bs x) h.0 (bound_known s bs x h.1)

  pub got_bound_in : (C : Fact N) (here : Scope N) (x : Words) → Gets K E a C (IsScope here) → Gets K E a C (MayBound (scopes.bound_in here.nouns x))
  got_bound_in C here x g = record { at = λ s h. bound_known s here.nouns x (g.at s h).1 }

  pub got_asked : (C : Fact N) (p : Primitive) (verb : Words) (args : List (Value N)) → Gets K E a C (AreValues args) → Gets K E a C (IsAsked (native.asked p verb args))
  got_asked C p verb args g = record { at = λ s h. asked_has (Knew K E s a) (knew_plain s) p verb args (g.at s h) }

  -- what a table has at a word, of which it has that entry
  entry_at : {A : Type 0} (P : A → Type 0) (es : List (Words × A)) (a : A) (x : Words) → AllOf (λ (e : Words × A). same_words e.0 x ≡ true → P e.1) es → P a → P (entry es a x)
  unfolding entry
  entry_at P [] a x h i = i
  entry_at P (e ∷ es) a x h i = either (same_words e.0 x) refl (entry_at P es a x h.1 i)
    where
      either : (b : Bool) → same_words e.0 x ≡ b → P (entry es a x) → P (elim b [ true ↦ e.1 | false ↦ entry es a x ])
      either true q r = h.0 q
      either false q r = r

  audition_known : (s : Vat N) (verb : Words) (args : List (Value N)) → AllOf (Knew K E s a) args → AuditionAskKnown K E a s verb (scopes.audition_ask verb args)
  unfolding scopes.audition_ask
  audition_known s verb [] h = entry_has (AuditionAskKnown K E a s verb) _ _ verb (tt, tt) tt
  audition_known s verb (x ∷ []) h = entry_at (AuditionAskKnown K E a s verb) _ _ verb (λ q. q, (λ q. h.0, tt)) tt
  audition_known s verb (x ∷ y ∷ ys) h = tt

  pub got_audition_ask : (C : Fact N) (verb : Words) (args : List (Value N)) → Gets K E a C (AreValues args) → Gets K E a C (IsAuditionAsk verb (scopes.audition_ask verb args))
  got_audition_ask C verb args g = record { at = λ s h. audition_known s verb args (g.at s h) }

  handed_known : (s : Vat N) (i : ℕ) (x : Value N) (verb : Words) (args : List (Value N)) → ((v : Value N) → IsAmong v (Null ∷ args) → Handed K E a s i v) → MayBe (Handed K E a s i) (scopes.ejector_ask verb args)
  unfolding scopes.ejector_ask
  handed_known s i x verb [] f = entry_has (MayBe (Handed K E a s i)) _ _ verb (f Null (inl refl), tt) tt
  handed_known s i x verb (y ∷ []) f = entry_has (MayBe (Handed K E a s i)) _ _ verb (f y (inr (inl refl)), tt) tt
  handed_known s i x verb (y ∷ z ∷ zs) f = tt

  pub got_hand : (C : Fact N) (i : ℕ) (x : Value N) (verb : Words) (args : List (Value N)) → Gets K E a C (WasCalled x verb args) → Gets K E a C (IsAt x i) → Gets K E a C (MayHand i (scopes.ejector_ask verb args))
  got_hand C i x verb args g k = record { at = λ s h. let c = g.at s h in let t = k.at s h in handed_known s i x verb args (λ v m. (c.0, x, verb, args, c.1, t, m)) }

  -- what a resolver may be asked, of one argument
  pub resolver_asked : (s : Vat N) (i : ℕ) (verb : Words) (args : List (Value N)) → ((name : Words) (v : Value N) → args ≡ v ∷ [] → same_words name verb ≡ true → IsHanded K E.start s.happened i name v) → AskHas K E a s i (scopes.resolver_ask verb args)
  unfolding scopes.resolver_ask
  resolver_asked s i verb (y ∷ []) f = entry_at (AskHas K E a s i) _ _ verb (f (codes "resolve") y refl, (f (codes "smash") y refl, tt)) tt
  resolver_asked s i verb other f = tt

  pub got_may_ask : (C : Fact N) (i : ℕ) (x : Value N) (verb : Words) (args : List (Value N)) → Gets K E a C (WasCalled x verb args) → Gets K E a C (IsAt x i) → Gets K E a C (MayAsk i (scopes.resolver_ask verb args))
  got_may_ask C i x verb args g k = record { at = λ s h. let c = g.at s h in let t = k.at s h in resolver_asked s i verb args (λ name v e q. inl (c.0, x, verb, subst (λ xs. IsAmong (Called c.0 x verb xs None) s.happened) e c.1, q, t)) }

  pub got_may_give : (C : Fact N) (x : Value N) (verb : Words) (v : Value N) → Gets K E a C (IsValue v) → Gets K E a C (MayGive x verb v)
  got_may_give C x verb v g = record { at = λ s h. inl (g.at s h) }

  -- ---- following

  knew_reached : (s : Vat N) (x y : Value N) → Reaches K E.start.vat.known s.happened x y → Knew K E s a x → Knew K E s a y
  knew_reached s x y itself h = h
  knew_reached s x y (onward z l r) h = knew_reached s z y r (followed x h l)

  knew_led : (s : Vat N) (x y : Value N) → Reaches K E.start.vat.known s.happened x y ⊎ IsPlain y → Knew K E s a x → Knew K E s a y
  knew_led s x y (inl r) h = knew_reached s x y r h
  knew_led s x y (inr p) h = plain p

  pub knew_follow : (s : Vat N) → Good K E s → (x : Value N) → Knew K E s a x → Knew K E s a (follow K s x)
  knew_follow s g x h = knew_led s x (follow K s x) (told_follows K E.start.vat.known s g.causes.told x) h

  all_follow : (s : Vat N) → Good K E s → (xs : List (Value N)) → AllOf (Knew K E s a) xs → AllOf (Knew K E s a) (map (follow K s) xs)
  all_follow s g [] h = tt
  all_follow s g (x ∷ xs) h = (knew_follow s g x h.0, all_follow s g xs h.1)

  pub look_follow : {C : Fact N} (x : Value N) → Gets K E a C (IsValue x) → Fine K E a C (look (λ s. follow K s x)) IsValue
  look_follow x g = fine_sees K E a (λ s. follow K s x) IsValue (λ s h c. knew_follow s h x (g.at s c))

  pub look_leads : {C : Fact N} (x : Value N) → Gets K E a C (IsValue x) → Fine K E a C (look (λ s. follow K s x)) (λ y. Also (IsValue y) (Leads x y))
  look_leads x g = fine_sees K E a (λ s. follow K s x) (λ y. Also (IsValue y) (Leads x y)) (λ s h c. (knew_follow s h x (g.at s c), follows_now K E.start s h.causes x))

  pub look_lead : {C : Fact N} (x : Value N) → Fine K E a C (look (λ s. follow K s x)) (Leads x)
  look_lead x = fine_sees K E a (λ s. follow K s x) (Leads x) (λ s h c. follows_now K E.start s h.causes x)

  pub look_place : {C : Fact N} (y : Value N) → Fine K E a C (look (λ s. place K s y)) (IsPlaced y)
  look_place y = fine_sees K E a (λ s. place K s y) (IsPlaced y) (λ s h c. placed K E.start s y)

  -- ---- other looks

  each_member : (s : Vat N) (vs : List (Value N)) → ((v : Value N) → IsAmong v vs → Knew K E s a v) → AllOf (Knew K E s a) vs
  each_member s [] f = tt
  each_member s (v ∷ vs) f = (f v (inl refl), each_member s vs (λ w i. f w (inr i)))

  found_members : (s : Vat N) (k : ℕ) (o : Option (List (Value N))) → slice_get s.lists k ≡ o → Knew K E s a (Items k) → AllOf (Knew K E s a) (elim o [ Some vs ↦ vs | None ↦ [] ])
  found_members s k (Some vs) e i = each_member s vs (λ v m. member k vs i e m)
  found_members s k None e i = tt

  members_known : (s : Vat N) (k : ℕ) → Knew K E s a (Items k) → AllOf (Knew K E s a) (list_at s.lists k)
  unfolding list_at
  members_known s k i = found_members s k (slice_get s.lists k) refl i

  pub look_list : {C : Fact N} (k : ℕ) → Gets K E a C (IsValue (Items k)) → Fine K E a C (look (λ s. list_at s.lists k)) AreValues
  look_list k g = fine_sees K E a (λ s. list_at s.lists k) AreValues (λ s h c. members_known s k (g.at s c))

  cell_known : (s : Vat N) → Good K E s → (k : ℕ) (o : Option (Cell N)) → slice_get s.slots k ≡ o → Has K E s a (ASlot k) → MayBe (λ c. Has K E s a (AGuard c.guard) × PutTold K E s k c.value) o
  cell_known s g k (Some c) e h = (guard k c h e, g.cells k c e)
  cell_known s g k None e h = tt

  pub look_cell : {C : Fact N} (k : ℕ) → Gets K E a C (IsSlot k) → Fine K E a C (look (λ s. slice_get s.slots k)) (MayCell k)
  look_cell k g = fine_sees K E a (λ s. slice_get s.slots k) (MayCell k) (λ s h c. cell_known s h k (slice_get s.slots k) refl (g.at s c))

  thing_there : (s : Vat N) → Good K E s → (i : ℕ) (o : Option (Thing N)) → slice_get s.things i ≡ o → MayBe (ThingThere K E a s i) o
  thing_there s g i (Some (Made node caught stamps)) e = e
  thing_there s g i (Some (Audition true view)) e = g.judged i view e
  thing_there s g i (Some (Resolver p)) e = g.resolvers i p e
  thing_there s g i other e = tt

  pub look_thing : {C : Fact N} (i : ℕ) → Fine K E a C (look (λ s. slice_get s.things i)) (MayThing i)
  look_thing i = fine_sees K E a (λ s. slice_get s.things i) (MayThing i) (λ s h c. thing_there s h i (slice_get s.things i) refl)

  pub look_data : {C : Fact N} (y : Value N) (verb : Words) (args : List (Value N)) → Gets K E a C (IsValue y) → Gets K E a C (AreValues args) → Fine K E a C (look (λ s. native.data_reply s.lists y verb args (map (follow K s) args))) IsReply
  look_data y verb args g k = fine_sees K E a (λ s. native.data_reply s.lists y verb args (map (follow K s) args)) IsReply
      (λ s h c. answers_known K (held K E s) s.happened a y verb args (map (follow K s) args) (g.at s c) (k.at s c) (all_follow s h args (k.at s c)))

  -- no data coerces
  none_coerces : (s : Vat N) (y v j w k : Value N) → ReplyHas (Knew K E s a) (native.data_reply s.lists y (codes "coerce") (v ∷ j ∷ []) (w ∷ k ∷ []))
  unfolding native.data_reply native.int_reply native.flag_reply native.letter_reply native.text_reply native.list_reply native.no_method entry same_words
  none_coerces s Null v j w k = tt
  none_coerces s other v j w k = tt

  pub look_coerce : {C : Fact N} (y v j : Value N) → Fine K E a C (look (λ s. native.data_reply s.lists y (codes "coerce") (v ∷ j ∷ []) (map (follow K s) (v ∷ j ∷ [])))) IsReply
  look_coerce y v j = fine_sees K E a (λ s. native.data_reply s.lists y (codes "coerce") (v ∷ j ∷ []) (map (follow K s) (v ∷ j ∷ []))) IsReply (λ s h c. none_coerces s y v j (follow K s v) (follow K s j))

  pub look_range : {C : Fact N} (last : Bool) (x y : Value N) → Fine K E a C (look (λ s. native.range_reply last (follow K s x) (follow K s y))) IsReply
  look_range last x y = fine_sees K E a (λ s. native.range_reply last (follow K s x) (follow K s y)) IsReply (λ s h c. range_has (Knew K E s a) (knew_plain s) last (follow K s x) (follow K s y))

  pub look_compared : {C : Fact N} (test : Order → Bool) (x y : Value N) → Fine K E a C (look (λ s. native.compared test (native.value_order (follow K s x) (follow K s y)))) IsReply
  look_compared test x y = fine_sees K E a (λ s. native.compared test (native.value_order (follow K s x) (follow K s y))) IsReply (λ s h c. compared_has (Knew K E s a) (knew_plain s) test _)

  pub look_null_or : {C : Fact N} (x : Value N) → Fine K E a C (look (λ s. native.null_or_reply (follow K s x))) IsReply
  look_null_or x = fine_sees K E a (λ s. native.null_or_reply (follow K s x)) IsReply (λ s h c. null_reply_has (Knew K E s a) (knew_plain s) (follow K s x))

module _ {N W : Type 0} (K : Naming N W) (E : Ground N W) (a : ℕ) (tree : List Node) where
  where_taken : (P : Value N → Type 0) (b : Bool) (y : Value N) → P y → MayBe P (scopes.where_true b y)
  unfolding scopes.where_true
  where_taken P true y h = h
  where_taken P false y h = tt

  by_null : (P : Value N → Type 0) (b : Bool) (o : Option (Value N)) → P Null → MayBe P o → MayBe P (elim b [ true ↦ Some Null | false ↦ o ])
  by_null P true o h i = h
  by_null P false o h i = i

  taken_known : (s : Vat N) (g : Guard) (x y : Value N) → Knew K E s a x → Knew K E s a y → MayBe (Knew K E s a) (perform.taken K tree s g x y)
  unfolding perform.taken
  taken_known s AnyGuard x y i j = i
  taken_known s VoidGuard x y i j = plain tt
  taken_known s IntGuard x y i j = where_taken _ (scopes.is_int y) y j
  taken_known s BooleanGuard x y i j = where_taken _ (scopes.is_boolean y) y j
  taken_known s CharGuard x y i j = where_taken _ (scopes.is_char y) y j
  taken_known s TextGuard x y i j = where_taken _ (scopes.is_text y) y j
  taken_known s ListGuard x y i j = where_taken _ (scopes.is_list y) y j
  taken_known s NullGuard x y i j = where_taken _ (scopes.is_null y) y j
  taken_known s NearGuard x y i j = where_taken _ (scopes.is_near (refs.place K s y)) y j
  taken_known s FrozenGuard x y i j = where_taken _ (perform.is_frozen K tree s y) y j
  taken_known s (OrNull g) x y i j = by_null _ (scopes.is_null y) (perform.taken K tree s g x y) (plain tt) (taken_known s g x y i j)

  pub look_taken : {C : Fact N} (g : Guard) (x : Value N) → Gets K E a C (IsValue x) → Fine K E a C (look (λ s. perform.taken K tree s g x (follow K s x))) MayValue
  look_taken g x k = fine_sees K E a (λ s. perform.taken K tree s g x (follow K s x)) MayValue (λ s h c. taken_known s g x (follow K s x) (k.at s c) (knew_follow K E a s h x (k.at s c)))

  same_known : (s : Vat N) (x y : Value N) → ReplyHas (Knew K E s a) (perform.same_reply K tree s x y)
  unfolding perform.same_reply
  same_known s x y = either_has (ReplyHas (Knew K E s a)) (refs.any_of K (perform.is_open K tree (length s.lists) s) (x ∷ y ∷ [])) _ _ tt (plain tt)

  pub look_same : {C : Fact N} (x y : Value N) → Fine K E a C (look (λ s. perform.same_reply K tree s x y)) IsReply
  look_same x y = fine_sees K E a (λ s. perform.same_reply K tree s x y) IsReply (λ s h c. same_known s x y)

  broken_known : (s : Vat N) (x : Value N) → ReplyHas (Knew K E s a) (perform.broken_text K tree x)
  unfolding perform.broken_text
  broken_known s (Text t) = plain tt
  broken_known s other = tt

  pub look_broken : {C : Fact N} (x : Value N) → Fine K E a C (look (λ s. perform.broken_text K tree (follow K s x))) IsReply
  look_broken x = fine_sees K E a (λ s. perform.broken_text K tree (follow K s x)) IsReply (λ s h c. broken_known s (follow K s x))

  thrown_known : (s : Vat N) (x : Value N) → ReplyHas (Knew K E s a) (perform.thrown_text K tree x)
  unfolding perform.thrown_text
  thrown_known s Null = tt
  thrown_known s other = tt

  pub look_thrown : {C : Fact N} (x : Value N) → Fine K E a C (look (λ s. perform.thrown_text K tree (follow K s x))) IsReply
  look_thrown x = fine_sees K E a (λ s. perform.thrown_text K tree (follow K s x)) IsReply (λ s h c. thrown_known s (follow K s x))

  problem_known : (s : Vat N) (p : Place N) → Knew K E s a (perform.problem_of K tree p)
  unfolding perform.problem_of
  problem_known s Near = plain tt
  problem_known s other = plain tt

  fulfilled_known : (s : Vat N) (x : Value N) (p : Place N) → Knew K E s a x → ReplyHas (Knew K E s a) (perform.fulfilled K tree x p)
  unfolding perform.fulfilled
  fulfilled_known s x Near i = i
  fulfilled_known s x (Away h n true) i = i
  fulfilled_known s x other i = tt

  test_known : (s : Vat N) (t : RefTest) (x : Value N) (p : Place N) → Knew K E s a x → ReplyHas (Knew K E s a) (perform.test_reply K tree t x p)
  unfolding perform.test_reply
  test_known s OptProblem x p i = problem_known s p
  test_known s Fulfillment x p i = fulfilled_known s x p i
  test_known s NoTest x p i = tt
  test_known s other x p i = plain tt

  pub look_test : {C : Fact N} (t : RefTest) (x : Value N) → Gets K E a C (IsValue x) → Fine K E a C (look (λ s. perform.test_reply K tree t x (refs.place K s (follow K s x)))) IsReply
  look_test t x g = fine_sees K E a (λ s. perform.test_reply K tree t x (refs.place K s (follow K s x))) IsReply (λ s h c. test_known s t x (refs.place K s (follow K s x)) (g.at s c))

  item_known : (s : Vat N) (v : Value N) (fs : List (List (Value N))) → Knew K E s a v → AllOf (AllOf (Knew K E s a)) fs → AllOf (AllOf (Knew K E s a)) (calls.with_item K tree v fs)
  unfolding calls.with_item
  item_known s v [] i h = tt
  item_known s v (f ∷ fs) i h = (all_last f h.0, h.1)
    where
      all_last : (xs : List (Value N)) → AllOf (Knew K E s a) xs → AllOf (Knew K E s a) (xs ++ v ∷ [])
      all_last [] k = (i, tt)
      all_last (x ∷ xs) k = (k.0, all_last xs k.1)

  pub got_item : (C : Fact N) (v : Value N) (fs : List (List (Value N))) → Gets K E a C (IsValue v) → Gets K E a C (AreLists fs) → Gets K E a C (AreLists (calls.with_item K tree v fs))
  got_item C v fs g h = record { at = λ s c. item_known s v fs (g.at s c) (h.at s c) }

  stamps_known : (s : Vat N) (b : Bool) (y : Value N) (ys : List (Value N)) → Knew K E s a y → AllOf (Knew K E s a) ys → AllOf (Knew K E s a) (calls.with_stamp K tree b y ys)
  unfolding calls.with_stamp
  stamps_known s true y ys i h = (i, h)
  stamps_known s false y ys i h = h

  pub got_stamp : (C : Fact N) (b : Bool) (y : Value N) (ys : List (Value N)) → Gets K E a C (IsValue y) → Gets K E a C (AreValues ys) → Gets K E a C (AreValues (calls.with_stamp K tree b y ys))
  got_stamp C b y ys g h = record { at = λ s c. stamps_known s b y ys (g.at s c) (h.at s c) }

  -- ---- what an audition tells

  freedom_bound : (s : Vat N) (o : Option (Bound N)) (x : Words) → MayBe (BoundKnown K E a s) o → FreedomKnown K E s a (scopes.freedom_of_bound o x)
  unfolding scopes.freedom_of_bound
  freedom_bound s (Some (Fixed v g)) x h = h.1
  freedom_bound s other x h = tt

  free_known : (s : Vat N) (own : Option Words) (ns : List (Binding N)) (xs : List Words) → AllOf (NounKnown K E a s) ns → AllOf (λ (f : FreeName N). FreedomKnown K E s a f.freedom) (scopes.free_names own ns xs)
  unfolding scopes.free_names scopes.freedom_of
  free_known s own ns [] h = tt
  free_known s own ns (x ∷ xs) h = (either_has (FreedomKnown K E s a) (scopes.is_own own x) IsItself (scopes.freedom_of_bound (scopes.bound_in ns x) x) tt (freedom_bound s (scopes.bound_in ns x) x (bound_known K E a s ns x h)), free_known s own ns xs h)

  pub got_judging : (C : Fact N) (node : ℕ) (p : Option Node) (xs : List Words) (here : Scope N) → Gets K E a C (IsScope here) → Gets K E a C (IsJudging (calls.view_of K tree node p xs here))
  unfolding calls.view_of
  got_judging C node p xs here g = record { at = λ s h. let i = g.at s h in inl (i.2, free_known s (scopes.own_noun p) here.nouns xs i.1) }

  -- an audition that answers judges, and may ask another on the same
  pub got_judged : (C : Fact N) (view : View N) (x : Value N) (verb : Words) (args : List (Value N)) (i : ℕ) → Gets K E a C (WasCalled x verb args) → Gets K E a C (IsAt x i) → Gets K E a C (IsJudged i view) → Gets K E a C (IsJudging view)
  got_judged C view x verb args i g k j = record { at = λ s h. let c = g.at s h in let d = j.at s h in inr (x, i, d.0, c.2, k.at s h, d.1, d.2) }

  told_known : (s : Vat N) (b : ℕ) (f : Freedom N) → FreedomKnown K E s b f → Has K E s b (AGuard (scopes.guard_told f))
  unfolding scopes.guard_told any_guard
  told_known s b (IsFinal g) h = h
  told_known s b other h = serves (plain tt)

  -- a guard that is told, or no reply
  abbrev pub GuardReply : (Value N → Type 0) → Reply N → Type 0
  GuardReply P (Says v) = P v
  GuardReply P (Fails p) = Unit {0}
  GuardReply P other = ⊥

  guard_at_known : (s : Vat N) (b : ℕ) (fs : List (FreeName N)) (x : Words) → AllOf (λ (f : FreeName N). FreedomKnown K E s b f.freedom) fs → GuardReply (λ v. Has K E s b (AGuard v)) (scopes.guard_at fs x)
  unfolding scopes.guard_at
  guard_at_known s b [] x h = tt
  guard_at_known s b (f ∷ fs) x h = either_has (GuardReply (λ v. Has K E s b (AGuard v))) (same_words f.noun x) (Says (scopes.guard_told f.freedom)) (scopes.guard_at fs x) (told_known s b f.freedom h.0) (guard_at_known s b fs x h.1)

  pub guard_asked_known : (s : Vat N) (b : ℕ) (fs : List (FreeName N)) (x : Value N) → AllOf (λ (f : FreeName N). FreedomKnown K E s b f.freedom) fs → GuardReply (λ v. Has K E s b (AGuard v)) (scopes.guard_asked fs x)
  unfolding scopes.guard_asked
  guard_asked_known s b fs (Text t) h = guard_at_known s b fs t h
  guard_asked_known s b fs other h = tt
