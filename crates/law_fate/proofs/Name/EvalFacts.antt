-- What evaluation knows of the names in what it has in hand: scopes, captures, views and replies.
use Rattle.std.proofs.Common.{ℕ, Bool, true, false, List, [], ◌∷◌, ◌++◌, Option, Some, None, length, map}
use Rattle.def_machine.specs.Values.{Words, Value, Null, Text, Ref, Naming}
use Rattle.def_machine.specs.State.{Bound, Fixed, Slot, Binding, Scope, Freedom, IsItself, IsFinal, FreeName, View, Made, Vat, look}
use Rattle.def_machine.specs.Refs as refs
use Rattle.def_machine.specs.Refs.{Place, Near, Away}
use Rattle.def_machine.specs.Free.{same_words}
use Rattle.def_machine.specs.Form as form
use Rattle.def_machine.specs.Native as native
use Rattle.def_machine.specs.Native.{Says, Guard, AnyGuard, VoidGuard, IntGuard, BooleanGuard, CharGuard, TextGuard, ListGuard, NullGuard, NearGuard, FrozenGuard, OrNull, Primitive, RefTest, OptProblem, Fulfillment, Order}
use Rattle.def_machine.specs.Scopes as scopes
use Rattle.def_machine.specs.Perform as perform
use Rattle.def_machine.specs.Calls as calls
use Rattle.def_machine.specs.Eval as eval
use Rattle.def_machine.specs.Scopes.{any_guard}
use Rattle.def_kernel.specs.declared.node.Node.{Node}
use Rattle.def_kernel.specs.declared.node.Node.TheVariants.{Final}
use Rattle.def_kernel.specs.declared.node.Literal.{Literal}
use Rattle.def_kernel.specs.declared.node.Literal.TheVariants as literal
use Rattle.law_machine.specs.Natives.Natives.{IsPlain}
use Rattle.law_machine.proofs.Natives.Natives.{either_has, entry_has, data_has, range_has, compared_has, null_reply_has, asked_has}
use Rattle.law_fate.specs.Name.Names.{Bit, AllOf, ValueOk, ValuesOk, KnownOk, FreedomOk, BoundOk, NounOk}
use Rattle.law_fate.proofs.Name.Facts.{MayBe, ReplyOk, AuditionAskOk, ResolverAskOk, Fact, IsValue, AreValues, AreLists, IsBound, AreNouns, IsThing, IsView, MayValue, MayBound, IsReply, IsAsked, IsAuditionAsk, IsResolverAsk}
use Rattle.law_fate.proofs.Name.Care.{Care, Gets, Fine, fine_sees}
use Rattle.law_fate.proofs.Name.Looks.{follow_ok, list_at_ok}

pub plain_ok : {N : Type 0} (P : Bit N → Type 0) (v : Value N) → IsPlain v → ValueOk P v
plain_ok P (Ref n) h = absurd h
plain_ok P other h = tt

module _ {N : Type 0} (S : Care N) where
  bound_either : (P : Bit N → Type 0) (c : Bool) (b : Binding N) (o : Option (Bound N)) → NounOk P b → MayBe (BoundOk P) o → MayBe (BoundOk P) (elim c [ true ↦ Some b.bound | false ↦ o ])
  bound_either P true b o h i = h
  bound_either P false b o h i = i

  pub bound_ok : (P : Bit N → Type 0) (ns : List (Binding N)) (x : Words) → AllOf (NounOk P) ns → MayBe (BoundOk P) (scopes.bound_in ns x)
  unfolding scopes.bound_in
  bound_ok P [] x h = tt
  bound_ok P (b ∷ bs) x h = bound_either P (same_words b.noun x) b (scopes.bound_in bs x) h.0 (bound_ok P bs x h.1)

  pub got_bound_in : (C : Fact N) (ns : List (Binding N)) (x : Words) → Gets S C (AreNouns ns) → Gets S C (MayBound (scopes.bound_in ns x))
  got_bound_in C ns x g = record { at = λ s c. bound_ok (S.ok s) ns x (g.at s c) }

  pub got_noun : (C : Fact N) (x : Words) (b : Bound N) (ns : List (Binding N)) → Gets S C (IsBound b) → Gets S C (AreNouns ns) → Gets S C (AreNouns (record { noun = x; bound = b } ∷ ns))
  got_noun C x b ns g h = record { at = λ s c. (g.at s c, h.at s c) }

  pub got_fixed : (C : Fact N) (v g : Value N) → Gets S C (IsValue v) → Gets S C (IsValue g) → Gets S C (IsBound (Fixed v g))
  got_fixed C v g h k = record { at = λ s c. (h.at s c, k.at s c) }

  caught_one : (Q : Binding N → Type 0) (x : Words) (o : Option (Bound N)) (rest : List (Binding N)) → MayBe (λ b. Q (record { noun = x; bound = b })) o → AllOf Q rest → AllOf Q (elim o [ Some b ↦ record { noun = x; bound = b } ∷ rest | None ↦ rest ])
  caught_one Q x (Some b) rest h k = (h, k)
  caught_one Q x None rest h k = k

  caught_ok : (P : Bit N → Type 0) (here : Scope N) (xs : List Words) → AllOf (NounOk P) here.nouns → AllOf (NounOk P) (scopes.captures here xs)
  unfolding scopes.captures
  caught_ok P here [] h = tt
  caught_ok P here (x ∷ xs) h = caught_one (NounOk P) x (scopes.bound_in here.nouns x) (scopes.captures here xs) (bound_ok P here.nouns x h) (caught_ok P here xs h)

  pub got_captures : (C : Fact N) (here : Scope N) (xs : List Words) → Gets S C (AreNouns here.nouns) → Gets S C (AreNouns (scopes.captures here xs))
  got_captures C here xs g = record { at = λ s c. caught_ok (S.ok s) here xs (g.at s c) }

  named_ok : (P : Bit N → Type 0) (p : Option Node) (v : Value N) (here : Scope N) → ValueOk P v → AllOf (NounOk P) here.nouns → AllOf (NounOk P) (scopes.named p v here).nouns
  unfolding scopes.named scopes.with_noun any_guard
  named_ok P (Some (Final x g)) v here h k = ((h, tt), k)
  named_ok P other v here h k = k

  pub got_named : (C : Fact N) (p : Option Node) (v : Value N) (here : Scope N) → Gets S C (IsValue v) → Gets S C (AreNouns here.nouns) → Gets S C (AreNouns (scopes.named p v here).nouns)
  got_named C p v here g h = record { at = λ s c. named_ok (S.ok s) p v here (g.at s c) (h.at s c) }

  pub got_made : (C : Fact N) (node : ℕ) (caught : List (Binding N)) (stamps : List (Value N)) → Gets S C (AreNouns caught) → Gets S C (AreValues stamps) → Gets S C (IsThing (Made node caught stamps))
  got_made C node caught stamps g h = record { at = λ s c. (g.at s c, h.at s c) }

  pub got_slot : (C : Fact N) (k : ℕ) → Gets S C (IsBound (Slot k))
  got_slot C k = record { at = λ s c. tt }

  audition_ok : (P : Bit N → Type 0) (verb : Words) (args : List (Value N)) → ValuesOk P args → AuditionAskOk P (scopes.audition_ask verb args)
  unfolding scopes.audition_ask
  audition_ok P verb [] h = entry_has (AuditionAskOk P) _ _ verb (tt, tt) tt
  audition_ok P verb (x ∷ []) h = let i : ValueOk P x = h.0 in entry_has (AuditionAskOk P) _ _ verb (i, (i, tt)) tt
  audition_ok P verb (x ∷ y ∷ ys) h = tt

  resolver_ok : (P : Bit N → Type 0) (verb : Words) (args : List (Value N)) → ValuesOk P args → ResolverAskOk P (scopes.resolver_ask verb args)
  unfolding scopes.resolver_ask
  resolver_ok P verb (x ∷ []) h = let i : ValueOk P x = h.0 in entry_has (ResolverAskOk P) _ _ verb (i, (i, tt)) tt
  resolver_ok P verb other h = tt

  ejector_ok : (P : Bit N → Type 0) (verb : Words) (args : List (Value N)) → ValuesOk P args → MayBe (ValueOk P) (scopes.ejector_ask verb args)
  unfolding scopes.ejector_ask
  ejector_ok P verb [] h = entry_has (MayBe (ValueOk P)) _ _ verb (tt, tt) tt
  ejector_ok P verb (x ∷ []) h = entry_has (MayBe (ValueOk P)) _ _ verb (h.0, tt) tt
  ejector_ok P verb (x ∷ y ∷ ys) h = tt

  pub got_asked : (C : Fact N) (p : Primitive) (verb : Words) (args : List (Value N)) → Gets S C (AreValues args) → Gets S C (IsAsked (native.asked p verb args))
  got_asked C p verb args g = record { at = λ s c. asked_has (ValueOk (S.ok s)) (plain_ok (S.ok s)) p verb args (g.at s c) }

  pub got_audition_ask : (C : Fact N) (verb : Words) (args : List (Value N)) → Gets S C (AreValues args) → Gets S C (IsAuditionAsk (scopes.audition_ask verb args))
  got_audition_ask C verb args g = record { at = λ s c. audition_ok (S.ok s) verb args (g.at s c) }

  pub got_resolver_ask : (C : Fact N) (verb : Words) (args : List (Value N)) → Gets S C (AreValues args) → Gets S C (IsResolverAsk (scopes.resolver_ask verb args))
  got_resolver_ask C verb args g = record { at = λ s c. resolver_ok (S.ok s) verb args (g.at s c) }

  pub got_ejector_ask : (C : Fact N) (verb : Words) (args : List (Value N)) → Gets S C (AreValues args) → Gets S C (MayValue (scopes.ejector_ask verb args))
  got_ejector_ask C verb args g = record { at = λ s c. ejector_ok (S.ok s) verb args (g.at s c) }

  literal_ok : (P : Bit N → Type 0) (l : Literal) → ValueOk P (form.literal_value {N = N} l)
  unfolding form.literal_value
  literal_ok P (literal.Int z) = tt
  literal_ok P other = tt

  pub got_literal : (C : Fact N) (l : Literal) → Gets S C (IsValue (form.literal_value l))
  got_literal C l = record { at = λ s c. literal_ok (S.ok s) l }

  safe_ok : (P : Bit N → Type 0) (x : Words) → MayBe (ValueOk P) (native.safe_value {N = N} x)
  unfolding native.safe_value native.prims_from
  safe_ok P x = entry_has (MayBe (ValueOk P)) _ _ x (tt, (tt, (tt, (tt, (tt, (tt, (tt, (tt, (tt, (tt, (tt, (tt, (tt, (tt, (tt, (tt, (tt, (tt, (tt, (tt, (tt, (tt, (tt, tt))))))))))))))))))))))) tt

  pub got_safe : (C : Fact N) (x : Words) → Gets S C (MayValue (native.safe_value x))
  got_safe C x = record { at = λ s c. safe_ok (S.ok s) x }

  pub got_any : (C : Fact N) → Gets S C (IsValue any_guard)
  unfolding any_guard
  got_any C = record { at = λ s c. tt }

  freedom_bound_ok : (P : Bit N → Type 0) (o : Option (Bound N)) (x : Words) → MayBe (BoundOk P) o → FreedomOk P (scopes.freedom_of_bound o x)
  unfolding scopes.freedom_of_bound
  freedom_bound_ok P (Some (Fixed v g)) x h = h.1
  freedom_bound_ok P other x h = tt

  freedom_ok : (P : Bit N → Type 0) (own : Option Words) (ns : List (Binding N)) (x : Words) → AllOf (NounOk P) ns → FreedomOk P (scopes.freedom_of own ns x)
  unfolding scopes.freedom_of
  freedom_ok P own ns x h = either_has (FreedomOk P) (scopes.is_own own x) IsItself (scopes.freedom_of_bound (scopes.bound_in ns x) x) tt (freedom_bound_ok P (scopes.bound_in ns x) x (bound_ok P ns x h))

  free_ok : (P : Bit N → Type 0) (own : Option Words) (ns : List (Binding N)) (xs : List Words) → AllOf (NounOk P) ns → AllOf (λ (f : FreeName N). FreedomOk P f.freedom) (scopes.free_names own ns xs)
  unfolding scopes.free_names
  free_ok P own ns [] h = tt
  free_ok P own ns (x ∷ xs) h = (freedom_ok P own ns x h, free_ok P own ns xs h)

  told_ok : (P : Bit N → Type 0) (x : Freedom N) → FreedomOk P x → ValueOk P (scopes.guard_told x)
  unfolding scopes.guard_told any_guard
  told_ok P (IsFinal g) h = h
  told_ok P other h = tt

  guard_at_ok : (P : Bit N → Type 0) (fs : List (FreeName N)) (x : Words) → AllOf (λ (f : FreeName N). FreedomOk P f.freedom) fs → ReplyOk P (scopes.guard_at fs x)
  unfolding scopes.guard_at
  guard_at_ok P [] x h = tt
  guard_at_ok P (f ∷ fs) x h = either_has (ReplyOk P) (same_words f.noun x) (Says (scopes.guard_told f.freedom)) (scopes.guard_at fs x) (told_ok P f.freedom h.0) (guard_at_ok P fs x h.1)

  guard_asked_ok : (P : Bit N → Type 0) (fs : List (FreeName N)) (x : Value N) → AllOf (λ (f : FreeName N). FreedomOk P f.freedom) fs → ReplyOk P (scopes.guard_asked fs x)
  unfolding scopes.guard_asked
  guard_asked_ok P fs (Text t) h = guard_at_ok P fs t h
  guard_asked_ok P fs other h = tt

  pub got_lists : (C : Fact N) (fs : List (List (Value N))) → Gets S C (AreLists fs) → Gets S C (AreLists ([] ∷ fs))
  got_lists C fs h = record { at = λ s c. (tt, h.at s c) }

  pub got_no_lists : (C : Fact N) → Gets S C (AreLists [])
  got_no_lists C = record { at = λ s c. tt }

module _ {N W : Type 0} (K : Naming N W) (S : Care N) where
  pub look_guard : {C : Fact N} (view : View N) (x : Value N) → Gets S C (IsView view) → Fine S C (look (λ s. scopes.guard_asked view.free (refs.follow K s x))) IsReply
  look_guard view x g = fine_sees S (λ s. scopes.guard_asked view.free (refs.follow K s x)) IsReply (λ s h c. guard_asked_ok S (S.ok s) view.free (refs.follow K s x) (g.at s c))

  follows_ok : (P : Bit N → Type 0) (s : Vat N) → AllOf (KnownOk P) s.known → (xs : List (Value N)) → ValuesOk P xs → ValuesOk P (map (refs.follow K s) xs)
  follows_ok P s h [] i = tt
  follows_ok P s h (x ∷ xs) i = (follow_ok K P s h x i.0, follows_ok P s h xs i.1)

  pub look_data : {C : Fact N} (y : Value N) (verb : Words) (args : List (Value N)) → Gets S C (IsValue y) → Gets S C (AreValues args) → Fine S C (look (λ s. native.data_reply s.lists y verb args (map (refs.follow K s) args))) IsReply
  look_data y verb args g k = fine_sees S (λ s. native.data_reply s.lists y verb args (map (refs.follow K s) args)) IsReply
      (λ s h c. data_has (ValueOk (S.ok s)) (plain_ok (S.ok s)) s.lists (λ i l. list_at_ok (S.ok s) s.lists i h.parts.lists) y verb args (map (refs.follow K s) args) (g.at s c) (k.at s c) (follows_ok (S.ok s) s h.parts.known args (k.at s c)))

  pub look_range : {C : Fact N} (last : Bool) (a b : Value N) → Fine S C (look (λ s. native.range_reply last (refs.follow K s a) (refs.follow K s b))) IsReply
  look_range last a b = fine_sees S (λ s. native.range_reply last (refs.follow K s a) (refs.follow K s b)) IsReply (λ s h c. range_has (ValueOk (S.ok s)) (plain_ok (S.ok s)) last (refs.follow K s a) (refs.follow K s b))

  pub look_compared : {C : Fact N} (test : Order → Bool) (a b : Value N) → Fine S C (look (λ s. native.compared test (native.value_order (refs.follow K s a) (refs.follow K s b)))) IsReply
  look_compared test a b = fine_sees S (λ s. native.compared test (native.value_order (refs.follow K s a) (refs.follow K s b))) IsReply (λ s h c. compared_has (ValueOk (S.ok s)) (plain_ok (S.ok s)) test _)

  pub look_null_or : {C : Fact N} (x : Value N) → Fine S C (look (λ s. native.null_or_reply (refs.follow K s x))) IsReply
  look_null_or x = fine_sees S (λ s. native.null_or_reply (refs.follow K s x)) IsReply (λ s h c. null_reply_has (ValueOk (S.ok s)) (plain_ok (S.ok s)) (refs.follow K s x))

module _ {N W : Type 0} (K : Naming N W) (S : Care N) (tree : List Node) where
  where_taken : (P : Bit N → Type 0) (b : Bool) (y : Value N) → ValueOk P y → MayBe (ValueOk P) (scopes.where_true b y)
  unfolding scopes.where_true
  where_taken P true y h = h
  where_taken P false y h = tt

  by_null : (P : Bit N → Type 0) (b : Bool) (o : Option (Value N)) → MayBe (ValueOk P) o → MayBe (ValueOk P) (elim b [ true ↦ Some Null | false ↦ o ])
  by_null P true o i = tt
  by_null P false o i = i

  taken_ok : (P : Bit N → Type 0) (s : Vat N) (g : Guard) (x y : Value N) → ValueOk P x → ValueOk P y → MayBe (ValueOk P) (perform.taken K tree s g x y)
  unfolding perform.taken
  taken_ok P s AnyGuard x y i j = i
  taken_ok P s VoidGuard x y i j = tt
  taken_ok P s IntGuard x y i j = where_taken P (scopes.is_int y) y j
  taken_ok P s BooleanGuard x y i j = where_taken P (scopes.is_boolean y) y j
  taken_ok P s CharGuard x y i j = where_taken P (scopes.is_char y) y j
  taken_ok P s TextGuard x y i j = where_taken P (scopes.is_text y) y j
  taken_ok P s ListGuard x y i j = where_taken P (scopes.is_list y) y j
  taken_ok P s NullGuard x y i j = where_taken P (scopes.is_null y) y j
  taken_ok P s NearGuard x y i j = where_taken P (scopes.is_near (refs.place K s y)) y j
  taken_ok P s FrozenGuard x y i j = where_taken P (perform.is_frozen K tree s y) y j
  taken_ok P s (OrNull g) x y i j = by_null P (scopes.is_null y) (perform.taken K tree s g x y) (taken_ok P s g x y i j)

  pub look_taken : {C : Fact N} (g : Guard) (x : Value N) → Gets S C (IsValue x) → Fine S C (look (λ s. perform.taken K tree s g x (refs.follow K s x))) MayValue
  look_taken g x k = fine_sees S (λ s. perform.taken K tree s g x (refs.follow K s x)) MayValue (λ s h c. taken_ok (S.ok s) s g x (refs.follow K s x) (k.at s c) (follow_ok K (S.ok s) s h.parts.known x (k.at s c)))

  stamped : (P : Bit N → Type 0) (b : Bool) (y : Value N) (ys : List (Value N)) → ValueOk P y → ValuesOk P ys → ValuesOk P (calls.with_stamp K tree b y ys)
  unfolding calls.with_stamp
  stamped P true y ys i h = (i, h)
  stamped P false y ys i h = h

  pub got_stamped : (C : Fact N) (b : Bool) (y : Value N) (ys : List (Value N)) → Gets S C (IsValue y) → Gets S C (AreValues ys) → Gets S C (AreValues (calls.with_stamp K tree b y ys))
  got_stamped C b y ys g h = record { at = λ s c. stamped (S.ok s) b y ys (g.at s c) (h.at s c) }

  pub got_no_match : (C : Fact N) → Gets S C (IsValue (eval.no_match K tree))
  unfolding eval.no_match
  got_no_match C = record { at = λ s c. tt }

  pub got_view : (C : Fact N) (node : ℕ) (p : Option Node) (xs : List Words) (here : Scope N) → Gets S C (AreNouns here.nouns) → Gets S C (IsView (calls.view_of K tree node p xs here))
  unfolding calls.view_of
  got_view C node p xs here g = record { at = λ s c. free_ok S (S.ok s) (scopes.own_noun p) here.nouns xs (g.at s c) }

  same_ok : (P : Bit N → Type 0) (s : Vat N) (a b : Value N) → ReplyOk P (perform.same_reply K tree s a b)
  unfolding perform.same_reply
  same_ok P s a b = either_has (ReplyOk P) (refs.any_of K (perform.is_open K tree (length s.lists) s) (a ∷ b ∷ [])) _ _ tt tt

  pub look_same : {C : Fact N} (a b : Value N) → Fine S C (look (λ s. perform.same_reply K tree s a b)) IsReply
  look_same a b = fine_sees S (λ s. perform.same_reply K tree s a b) IsReply (λ s h c. same_ok (S.ok s) s a b)

  broken_ok : (P : Bit N → Type 0) (x : Value N) → ReplyOk P (perform.broken_text K tree x)
  unfolding perform.broken_text
  broken_ok P Null = tt
  broken_ok P other = tt

  pub look_broken : {C : Fact N} (x : Value N) → Fine S C (look (λ s. perform.broken_text K tree (refs.follow K s x))) IsReply
  look_broken x = fine_sees S (λ s. perform.broken_text K tree (refs.follow K s x)) IsReply (λ s h c. broken_ok (S.ok s) (refs.follow K s x))

  thrown_ok : (P : Bit N → Type 0) (x : Value N) → ReplyOk P (perform.thrown_text K tree x)
  unfolding perform.thrown_text
  thrown_ok P Null = tt
  thrown_ok P other = tt

  pub look_thrown : {C : Fact N} (x : Value N) → Fine S C (look (λ s. perform.thrown_text K tree (refs.follow K s x))) IsReply
  look_thrown x = fine_sees S (λ s. perform.thrown_text K tree (refs.follow K s x)) IsReply (λ s h c. thrown_ok (S.ok s) (refs.follow K s x))

  problem_ok : (P : Bit N → Type 0) (p : Place N) → ValueOk P (perform.problem_of K tree p)
  unfolding perform.problem_of
  problem_ok P Near = tt
  problem_ok P other = tt

  fulfilled_ok : (P : Bit N → Type 0) (x : Value N) (p : Place N) → ValueOk P x → ReplyOk P (perform.fulfilled K tree x p)
  unfolding perform.fulfilled
  fulfilled_ok P x Near i = i
  fulfilled_ok P x (Away h n true) i = i
  fulfilled_ok P x other i = tt

  test_ok : (P : Bit N → Type 0) (t : RefTest) (x : Value N) (p : Place N) → ValueOk P x → ReplyOk P (perform.test_reply K tree t x p)
  unfolding perform.test_reply
  test_ok P OptProblem x p i = problem_ok P p
  test_ok P Fulfillment x p i = fulfilled_ok P x p i
  test_ok P other x p i = tt

  pub look_test : {C : Fact N} (t : RefTest) (x : Value N) → Gets S C (IsValue x) → Fine S C (look (λ s. perform.test_reply K tree t x (refs.place K s (refs.follow K s x)))) IsReply
  look_test t x g = fine_sees S (λ s. perform.test_reply K tree t x (refs.place K s (refs.follow K s x))) IsReply (λ s h c. test_ok (S.ok s) t x (refs.place K s (refs.follow K s x)) (g.at s c))

  item_ok : (P : Bit N → Type 0) (v : Value N) (fs : List (List (Value N))) → ValueOk P v → AllOf (ValuesOk P) fs → AllOf (ValuesOk P) (calls.with_item K tree v fs)
  unfolding calls.with_item
  item_ok P v [] i h = tt
  item_ok P v (f ∷ fs) i h = (all_last f h.0, h.1)
    where
      all_last : (xs : List (Value N)) → ValuesOk P xs → ValuesOk P (xs ++ v ∷ [])
      all_last [] k = (i, tt)
      all_last (x ∷ xs) k = (k.0, all_last xs k.1)

  pub got_item : (C : Fact N) (v : Value N) (fs : List (List (Value N))) → Gets S C (IsValue v) → Gets S C (AreLists fs) → Gets S C (AreLists (calls.with_item K tree v fs))
  got_item C v fs g h = record { at = λ s c. item_ok (S.ok s) v fs (g.at s c) (h.at s c) }

pub ruleset knows = (look_taken, got_bound_in, got_noun, got_fixed, got_captures, got_named, got_made, got_stamped, got_slot, got_asked, got_audition_ask, got_resolver_ask, got_ejector_ask, got_literal, got_safe, got_any, got_no_match, got_view, look_guard, look_data, look_range, look_same, look_compared, look_broken, look_thrown, look_test, look_null_or, got_item, got_lists, got_no_lists)
