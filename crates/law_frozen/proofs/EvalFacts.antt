-- What evaluation knows of what it has in hand: guards, scopes, captures, views and replies.
use Rattle.std.proofs.Common.{◌≡◌, ℕ, zero, suc, Bool, true, false, List, [], ◌∷◌, ◌++◌, Option, Some, None, refl, sym, ap, ◌∙◌, length, map, ◌==◌, inl, inr}
use Rattle.std.specs.Prelude.{slice_get}
use Rattle.std.proofs.lemmas.Bool.{eqb-true}
use Rattle.def_machine.specs.Values.{Words, Value, Null, Flag, Number, Letter, Text, Prim, Broken, Items, Ref, Naming, Spot, Own}
use Rattle.def_machine.specs.State.{Bound, Fixed, Slot, Binding, Scope, Freedom, IsItself, IsFinal, FreeName, View, Thing, Made, Vat, Act, look, for_some, give}
use Rattle.def_machine.specs.Refs as refs
use Rattle.def_machine.specs.Refs.{Place, Near, Away}
use Rattle.def_machine.specs.Free.{same_words}
use Rattle.def_machine.specs.Form as form
use Rattle.def_machine.specs.Native as native
use Rattle.def_machine.specs.Native.{list_at, Says, Guard, AnyGuard, VoidGuard, IntGuard, BooleanGuard, CharGuard, TextGuard, ListGuard, NullGuard, NearGuard, FrozenGuard, OrNull, Primitive, Guarding, RefTest, OptProblem, Fulfillment, Order, primitive}
use Rattle.def_machine.specs.Scopes as scopes
use Rattle.def_machine.specs.Perform as perform
use Rattle.def_machine.specs.Calls as calls
use Rattle.def_machine.specs.Eval as eval
use Rattle.def_machine.specs.Scopes.{frozen_guard, freezes, any_guard}
use Rattle.def_kernel.specs.declared.node.Node.{Node}
use Rattle.def_kernel.specs.declared.node.Literal.{Literal}
use Rattle.def_kernel.specs.declared.node.Literal.TheVariants as literal
use Rattle.law_machine.specs.Natives.Natives.{IsPlain}
use Rattle.law_machine.proofs.Natives.Natives.{either_has, entry_has, data_has, range_has, compared_has, null_reply_has, asked_has}
use Rattle.law_frozen.specs.Frozen.{AllOf, IsAmong, Lists, IsThere, AreThere, FreedomThere, HasNoName, BearsFrozen, IsFrozen, BoundWell, NounWell, Sound, deep_frozen}
use Rattle.law_frozen.proofs.Fine.{Keeper, MayBe, Fact, IsValue, AreValues, AreLists, IsBound, AreNouns, IsView, MayValue, MayBound, IsReply, IsAsked, IsAuditionAsk, IsResolverAsk, ReplyThere, AuditionAskThere, ResolverAskThere, Gets, Fine, fine_sees, fine_give}
use Rattle.law_frozen.proofs.Looks.{get_all, list_at_there, follow_there}
use Rattle.law_frozen.proofs.Facts.{all_append}

three : {A : Type 0} (P : A → Type 0) (xs ys zs : List A) → AllOf P xs → AllOf P ys → AllOf P zs → AllOf P (xs ++ ys ++ zs)
three P xs ys zs h i j = search (all_append)

pub plain_there : {N : Type 0} (ls : Lists N) (v : Value N) → IsPlain v → IsThere ls v
plain_there ls (Items k) h = absurd h
plain_there ls other h = tt

pub no_true : (b : Bool) → b ≡ false → b ≡ true → ⊥
no_true b e h = cc

pub false_true : false ≡ true → ⊥
false_true e = cc

same_cons : (b : Bool) (a c : ℕ) (as' cs : Words) → (b ≡ true → a ≡ c) → (same_words as' cs ≡ true → as' ≡ cs) → elim b [ true ↦ same_words as' cs | false ↦ false ] ≡ true → a ∷ as' ≡ c ∷ cs
same_cons true a c as' cs h k e = let x = h refl in let y = k e in cc
same_cons false a c as' cs h k e = absurd (false_true e)

nat_same : (a b : ℕ) → (a == b) ≡ true → a ≡ b
nat_same a b e = eqb-true a b e

pub same_is : (a b : Words) → same_words a b ≡ true → a ≡ b
unfolding same_words
same_is [] [] e = refl
same_is [] (b ∷ bs) e = absurd (false_true e)
same_is (a ∷ as') [] e = absurd (false_true e)
same_is (a ∷ as') (b ∷ bs) e = same_cons (a == b) a b as' bs (nat_same a b) (same_is as' bs) e

module _ {N W : Type 0} (K : Naming N W) where
  plain_list : (ls : Lists N) (d k : ℕ) (vs : List (Value N)) → slice_get ls k ≡ Some vs → list_at ls k ≡ vs
  unfolding list_at
  plain_list ls d k vs e = rw (e, list_at) refl

  both_plain : (b c : Bool) (P Q : Type 0) → (b ≡ true → P) → (c ≡ true → Q) → elim b [ true ↦ c | false ↦ false ] ≡ true → P × Q
  both_plain true c P Q f g e = (f refl, g e)
  both_plain false c P Q f g e = absurd (false_true e)

  plains_from : (ls : Lists N) (f : Value N → Bool) (P : Value N → Type 0) → ((v : Value N) → IsThere ls v → f v ≡ true → P v) → (vs : List (Value N)) → AreThere ls vs → scopes.all_plain f vs ≡ true → AllOf P vs
  unfolding scopes.all_plain
  plains_from ls f P g [] h e = tt
  plains_from ls f P g (v ∷ vs) h e = both_plain (f v) (scopes.all_plain f vs) (P v) (AllOf P vs) (g v h.0) (plains_from ls f P g vs h.1) e

  no_some : (vs : List (Value N)) → None ≡ Some vs → ⊥
  no_some vs e = cc

  member_there : (ls : Lists N) (o : Option (List (Value N))) (vs : List (Value N)) → o ≡ Some vs → MayBe (AreThere ls) o → AreThere ls vs
  member_there ls (Some ws) vs e h = let same : ws ≡ vs = cc in rw same at h
  member_there ls None vs e h = absurd (no_some vs e)

  plain_from : (ls : Lists N) (d : ℕ) (v : Value N) → AllOf (AreThere ls) ls → IsThere ls v → scopes.is_plain d ls v ≡ true → HasNoName d ls v
  unfolding scopes.is_plain scopes.plain_by
  plain_from ls zero (Items k) all h e = absurd (false_true e)
  plain_from ls zero (Ref n) all h e = absurd (false_true e)
  plain_from ls (suc d) (Items k) all h e = let members : AreThere ls h.0 = member_there ls (slice_get ls k) h.0 h.1 (get_all (AreThere ls) ls k all) in
      (h.0, h.1, plains_from ls (λ w. scopes.is_plain d ls w) (λ v. HasNoName d ls v) (λ v i j. plain_from ls d v all i j) h.0 members (sym (ap (λ vs. scopes.all_plain (λ w. scopes.is_plain d ls w) vs) (plain_list ls d k h.0 h.1)) ∙ e))
  plain_from ls (suc d) (Ref n) all h e = absurd (false_true e)
  plain_from ls zero other all h e = tt
  plain_from ls (suc d) other all h e = tt

  data_frozen : (ts : List (Thing N)) (ls : Lists N) (f : Value N → Bool) → ((k : ℕ) → f (Items k) ≡ false) → ((n : N) → f (Ref n) ≡ false) → (y : Value N) → f y ≡ true → IsFrozen K ts ls y
  data_frozen ts ls f a b (Items k) e = absurd (no_true (f (Items k)) (a k) e)
  data_frozen ts ls f a b (Ref n) e = absurd (no_true (f (Ref n)) (b n) e)
  data_frozen ts ls f a b other e = tt

  -- there, and frozen under a frozen guard
  abbrev Taken : List (Thing N) → Lists N → Guard → Value N → Type 0
  Taken ts ls g v = IsThere ls v × (freezes (Guarding g) ≡ true → IsFrozen K ts ls v)

  where_taken : (P : Value N → Type 0) (b : Bool) (y : Value N) → (b ≡ true → P y) → MayBe P (scopes.where_true b y)
  unfolding scopes.where_true
  where_taken P true y h = h refl
  where_taken P false y h = tt

  by_null : (P : Value N → Type 0) (b : Bool) (o : Option (Value N)) → P Null → MayBe P o → MayBe P (elim b [ true ↦ Some Null | false ↦ o ])
  by_null P true o h i = h
  by_null P false o h i = i

  there_of : (ts : List (Thing N)) (ls : Lists N) (g k : Guard) (o : Option (Value N)) → (freezes (Guarding k) ≡ true → ⊥) → MayBe (Taken ts ls g) o → MayBe (Taken ts ls k) o
  there_of ts ls g k (Some v) n h = (h.0, λ e. absurd (n e))
  there_of ts ls g k None n h = tt

  -- what is bound so, where there is something
  abbrev pub under : Value N → Option (Value N) → Option (Bound N)
  under g (Some v) = Some (Fixed v g)
  under g None = None

  bound_taken : (ts : List (Thing N)) (ls : Lists N) (n : ℕ) (g : Guard) → primitive n ≡ Guarding g → (o : Option (Value N)) → MayBe (Taken ts ls g) o → MayBe (BoundWell K ts ls) (under (Prim n) o)
  unfolding scopes.frozen_guard
  bound_taken ts ls n g e (Some v) h = (h.0, tt, λ d. h.1 (sym (ap freezes e) ∙ d))
  bound_taken ts ls n g e None h = tt

  value_taken : (ts : List (Thing N)) (ls : Lists N) (g : Guard) (o : Option (Value N)) → MayBe (Taken ts ls g) o → MayBe (IsThere ls) o
  value_taken ts ls g (Some v) h = h.0
  value_taken ts ls g None h = tt

  pub some_bound : (M : Keeper K) → {C : Fact N} (g : Value N) (o : Option (Value N)) {m : Act N (Value N)} → Gets K C (MayBound (under g o)) → Fine K M C m (λ v. IsBound (Fixed v g)) → Fine K M C (for_some o give m) (λ v. IsBound (Fixed v g))
  unfolding for_some
  some_bound M g (Some v) i h = fine_give K M v (record { at = λ ts ls c. i.at ts ls c })
  some_bound M g None i h = h

  bound_either : (ts : List (Thing N)) (ls : Lists N) (b : Binding N) (o : Option (Bound N)) (x : Words) (c : Bool) → same_words b.noun x ≡ c → NounWell K ts ls b
      → MayBe (BoundWell K ts ls) o → MayBe (BoundWell K ts ls) (elim c [ true ↦ Some b.bound | false ↦ o ])
  bound_either ts ls b o x true e h i = h
  bound_either ts ls b o x false e h i = i

  pub bound_well : (ts : List (Thing N)) (ls : Lists N) (ns : List (Binding N)) (x : Words) → AllOf (NounWell K ts ls) ns → MayBe (BoundWell K ts ls) (scopes.bound_in ns x)
  unfolding scopes.bound_in
  bound_well ts ls [] x h = tt
  bound_well ts ls (b ∷ bs) x h = bound_either ts ls b (scopes.bound_in bs x) x (same_words b.noun x) refl h.0 (bound_well ts ls bs x h.1)

  pub got_bound_in : (C : Fact N) (ns : List (Binding N)) (x : Words) → Gets K C (AreNouns ns) → Gets K C (MayBound (scopes.bound_in ns x))
  got_bound_in C ns x g = record { at = λ ts ls c. bound_well ts ls ns x (g.at ts ls c) }

  pub got_noun : (C : Fact N) (x : Words) (b : Bound N) (ns : List (Binding N)) → Gets K C (IsBound b) → Gets K C (AreNouns ns) → Gets K C (AreNouns (record { noun = x; bound = b } ∷ ns))
  got_noun C x b ns g h = record { at = λ ts ls c. (g.at ts ls c, h.at ts ls c) }

  pub got_slot : (C : Fact N) (k : ℕ) → Gets K C (IsBound (Slot k))
  got_slot C k = record { at = λ ts ls c. tt }

  audition_there : (ls : Lists N) (verb : Words) (args : List (Value N)) → AreThere ls args → AuditionAskThere ls (scopes.audition_ask verb args)
  unfolding scopes.audition_ask
  audition_there ls verb [] h = entry_has (AuditionAskThere ls) _ _ verb (tt, tt) tt
  audition_there ls verb (x ∷ []) h = let i : IsThere ls x = h.0 in entry_has (AuditionAskThere ls) _ _ verb (i, (i, tt)) tt
  audition_there ls verb (x ∷ y ∷ ys) h = tt

  resolver_there : (ls : Lists N) (verb : Words) (args : List (Value N)) → AreThere ls args → ResolverAskThere ls (scopes.resolver_ask verb args)
  unfolding scopes.resolver_ask
  resolver_there ls verb (x ∷ []) h = let i : IsThere ls x = h.0 in entry_has (ResolverAskThere ls) _ _ verb (i, (i, tt)) tt
  resolver_there ls verb other h = tt

  ejector_there : (ls : Lists N) (verb : Words) (args : List (Value N)) → AreThere ls args → MayBe (IsThere ls) (scopes.ejector_ask verb args)
  unfolding scopes.ejector_ask
  ejector_there ls verb [] h = entry_has (MayBe (IsThere ls)) _ _ verb (tt, tt) tt
  ejector_there ls verb (x ∷ []) h = entry_has (MayBe (IsThere ls)) _ _ verb (h.0, tt) tt
  ejector_there ls verb (x ∷ y ∷ ys) h = tt

  pub got_asked : (C : Fact N) (p : Primitive) (verb : Words) (args : List (Value N)) → Gets K C (AreValues args) → Gets K C (IsAsked (native.asked p verb args))
  got_asked C p verb args g = record { at = λ ts ls c. asked_has (IsThere ls) (plain_there ls) p verb args (g.at ts ls c) }

  pub got_audition_ask : (C : Fact N) (verb : Words) (args : List (Value N)) → Gets K C (AreValues args) → Gets K C (IsAuditionAsk (scopes.audition_ask verb args))
  got_audition_ask C verb args g = record { at = λ ts ls c. audition_there ls verb args (g.at ts ls c) }

  pub got_resolver_ask : (C : Fact N) (verb : Words) (args : List (Value N)) → Gets K C (AreValues args) → Gets K C (IsResolverAsk (scopes.resolver_ask verb args))
  got_resolver_ask C verb args g = record { at = λ ts ls c. resolver_there ls verb args (g.at ts ls c) }

  pub got_ejector_ask : (C : Fact N) (verb : Words) (args : List (Value N)) → Gets K C (AreValues args) → Gets K C (MayValue (scopes.ejector_ask verb args))
  got_ejector_ask C verb args g = record { at = λ ts ls c. ejector_there ls verb args (g.at ts ls c) }

  literal_there : (ls : Lists N) (l : Literal) → IsThere ls (form.literal_value {N = N} l)
  unfolding form.literal_value
  literal_there ls (literal.Int z) = tt
  literal_there ls other = tt

  pub got_literal : (C : Fact N) (l : Literal) → Gets K C (IsValue (form.literal_value l))
  got_literal C l = record { at = λ ts ls c. literal_there ls l }

  safe_there : (ls : Lists N) (x : Words) → MayBe (IsThere ls) (native.safe_value {N = N} x)
  unfolding native.safe_value native.prims_from
  safe_there ls x = entry_has (MayBe (IsThere ls)) _ _ x (tt, (tt, (tt, (tt, (tt, (tt, (tt, (tt, (tt, (tt, (tt, (tt, (tt, (tt, (tt, (tt, (tt, (tt, (tt, (tt, (tt, (tt, (tt, tt))))))))))))))))))))))) tt

  pub got_safe : (C : Fact N) (x : Words) → Gets K C (MayValue (native.safe_value x))
  got_safe C x = record { at = λ ts ls c. safe_there ls x }

  pub got_any : (C : Fact N) → Gets K C (IsValue any_guard)
  unfolding any_guard
  got_any C = record { at = λ ts ls c. tt }

  pub got_under_any : (C : Fact N) (v : Value N) → Gets K C (IsValue v) → Gets K C (IsBound (Fixed v any_guard))
  unfolding any_guard scopes.frozen_guard scopes.freezes primitive native.numbered native.primitives
  got_under_any C v g = record { at = λ ts ls c. (g.at ts ls c, tt, λ e. absurd (false_true e)) }

  pub got_unguarded : (v : Value N) (n : N) → Gets K (IsValue v) (IsBound (Fixed v (Ref n)))
  unfolding scopes.frozen_guard
  got_unguarded v n = record { at = λ ts ls c. (c, tt, λ e. absurd (false_true e)) }

  pub got_of_bound : (v g : Value N) → Gets K (IsBound (Fixed v g)) (IsValue v)
  got_of_bound v g = record { at = λ ts ls c. c.0 }

  freedom_bound_there : (ts : List (Thing N)) (ls : Lists N) (o : Option (Bound N)) (x : Words) → MayBe (BoundWell K ts ls) o → FreedomThere ls (scopes.freedom_of_bound o x)
  unfolding scopes.freedom_of_bound
  freedom_bound_there ts ls (Some (Fixed v g)) x h = h.1
  freedom_bound_there ts ls other x h = tt

  freedom_there : (ts : List (Thing N)) (ls : Lists N) (own : Option Words) (ns : List (Binding N)) (x : Words) → AllOf (NounWell K ts ls) ns → FreedomThere ls (scopes.freedom_of own ns x)
  unfolding scopes.freedom_of
  freedom_there ts ls own ns x h = either_has (FreedomThere ls) (scopes.is_own own x) IsItself (scopes.freedom_of_bound (scopes.bound_in ns x) x) tt (freedom_bound_there ts ls (scopes.bound_in ns x) x (bound_well ts ls ns x h))

  free_there : (ts : List (Thing N)) (ls : Lists N) (own : Option Words) (ns : List (Binding N)) (xs : List Words) → AllOf (NounWell K ts ls) ns → AllOf (λ (f : FreeName N). FreedomThere ls f.freedom) (scopes.free_names own ns xs)
  unfolding scopes.free_names
  free_there ts ls own ns [] h = tt
  free_there ts ls own ns (x ∷ xs) h = (freedom_there ts ls own ns x h, free_there ts ls own ns xs h)

  told_there : (ls : Lists N) (x : Freedom N) → FreedomThere ls x → IsThere ls (scopes.guard_told x)
  unfolding scopes.guard_told any_guard
  told_there ls (IsFinal g) h = h
  told_there ls other h = tt

  guard_at_there : (ls : Lists N) (fs : List (FreeName N)) (x : Words) → AllOf (λ (f : FreeName N). FreedomThere ls f.freedom) fs → ReplyThere ls (scopes.guard_at fs x)
  unfolding scopes.guard_at
  guard_at_there ls [] x h = tt
  guard_at_there ls (f ∷ fs) x h = either_has (ReplyThere ls) (same_words f.noun x) (Says (scopes.guard_told f.freedom)) (scopes.guard_at fs x) (told_there ls f.freedom h.0) (guard_at_there ls fs x h.1)

  guard_asked_there : (ls : Lists N) (fs : List (FreeName N)) (x : Value N) → AllOf (λ (f : FreeName N). FreedomThere ls f.freedom) fs → ReplyThere ls (scopes.guard_asked fs x)
  unfolding scopes.guard_asked
  guard_asked_there ls fs (Text t) h = guard_at_there ls fs t h
  guard_asked_there ls fs other h = tt

  pub look_guard : (M : Keeper K) → {C : Fact N} (view : View N) (x : Value N) → Gets K C (IsView view) → Fine K M C (look (λ s. scopes.guard_asked view.free (refs.follow K s x))) IsReply
  look_guard M view x g = fine_sees K M (λ s. scopes.guard_asked view.free (refs.follow K s x)) IsReply (λ s h c. guard_asked_there s.lists view.free (refs.follow K s x) (g.at s.things s.lists c))

  follows_there : (s : Vat N) → Sound K s → (xs : List (Value N)) → AreThere s.lists xs → AreThere s.lists (map (refs.follow K s) xs)
  follows_there s h [] i = tt
  follows_there s h (x ∷ xs) i = (follow_there K s h x i.0, follows_there s h xs i.1)

  pub look_data : (M : Keeper K) → {C : Fact N} (y : Value N) (verb : Words) (args : List (Value N)) → Gets K C (IsValue y) → Gets K C (AreValues args) → Fine K M C (look (λ s. native.data_reply s.lists y verb args (map (refs.follow K s) args))) IsReply
  look_data M y verb args g k = fine_sees K M (λ s. native.data_reply s.lists y verb args (map (refs.follow K s) args)) IsReply
      (λ s h c. data_has (IsThere s.lists) (plain_there s.lists) s.lists (λ i l. list_at_there s.lists s.lists i h.lists) y verb args (map (refs.follow K s) args) (g.at s.things s.lists c) (k.at s.things s.lists c) (follows_there s h args (k.at s.things s.lists c)))

  pub look_range : (M : Keeper K) → {C : Fact N} (last : Bool) (a b : Value N) → Fine K M C (look (λ s. native.range_reply last (refs.follow K s a) (refs.follow K s b))) IsReply
  look_range M last a b = fine_sees K M (λ s. native.range_reply last (refs.follow K s a) (refs.follow K s b)) IsReply (λ s h c. range_has (IsThere s.lists) (plain_there s.lists) last (refs.follow K s a) (refs.follow K s b))

  pub look_compared : (M : Keeper K) → {C : Fact N} (test : Order → Bool) (a b : Value N) → Fine K M C (look (λ s. native.compared test (native.value_order (refs.follow K s a) (refs.follow K s b)))) IsReply
  look_compared M test a b = fine_sees K M (λ s. native.compared test (native.value_order (refs.follow K s a) (refs.follow K s b))) IsReply (λ s h c. compared_has (IsThere s.lists) (plain_there s.lists) test _)

  pub look_null_or : (M : Keeper K) → {C : Fact N} (x : Value N) → Fine K M C (look (λ s. native.null_or_reply (refs.follow K s x))) IsReply
  look_null_or M x = fine_sees K M (λ s. native.null_or_reply (refs.follow K s x)) IsReply (λ s h c. null_reply_has (IsThere s.lists) (plain_there s.lists) (refs.follow K s x))

  pub got_lists : (C : Fact N) (fs : Lists N) → Gets K C (AreLists fs) → Gets K C (AreLists ([] ∷ fs))
  got_lists C fs h = record { at = λ ts ls c. (tt, h.at ts ls c) }

  pub got_no_lists : (C : Fact N) → Gets K C (AreLists [])
  got_no_lists C = record { at = λ ts ls c. tt }

module _ {N W : Type 0} (K : Naming N W) (tree : List Node) where
  stamp_among : (stamps : List (Value N)) → perform.has_stamp K tree deep_frozen stamps ≡ true → IsAmong deep_frozen stamps
  unfolding perform.has_stamp perform.same_stamp
  stamp_among [] e = absurd (false_true e)
  stamp_among (Null ∷ ss) e = inr (stamp_among ss e)
  stamp_among (Flag b ∷ ss) e = inr (stamp_among ss e)
  stamp_among (Number z ∷ ss) e = inr (stamp_among ss e)
  stamp_among (Letter c ∷ ss) e = inr (stamp_among ss e)
  stamp_among (Text t ∷ ss) e = inr (stamp_among ss e)
  stamp_among (Prim n ∷ ss) e = either n (17 == n) (nat_same 17 n) (stamp_among ss) e
    where
      either : (n : ℕ) (b : Bool) → (b ≡ true → 17 ≡ n) → (perform.has_stamp K tree deep_frozen ss ≡ true → IsAmong deep_frozen ss) → elim b [ true ↦ true | false ↦ perform.has_stamp K tree deep_frozen ss ] ≡ true → IsAmong deep_frozen (Prim n ∷ ss)
      either n true f g e = inl (ap Prim (f refl))
      either n false f g e = inr (g e)
  stamp_among (Broken p ∷ ss) e = inr (stamp_among ss e)
  stamp_among (Items k ∷ ss) e = inr (stamp_among ss e)
  stamp_among (Ref m ∷ ss) e = inr (stamp_among ss e)

  bears_from : (ts : List (Thing N)) (i : ℕ) (o : Option (Thing N)) → slice_get ts i ≡ o → perform.has_stamp K tree deep_frozen (scopes.stamps_of o) ≡ true → BearsFrozen ts i
  unfolding scopes.stamps_of perform.has_stamp
  bears_from ts i (Some (Made node caught stamps)) e h = (node, caught, stamps, e, stamp_among stamps h)
  bears_from ts i other e h = absurd (false_true h)

  spot_frozen : (s : Vat N) (n : N) (p : Spot) → K.spot n ≡ p → perform.has_stamp K tree deep_frozen (perform.stamps_at K tree s p) ≡ true → IsFrozen K s.things s.lists (Ref n)
  unfolding perform.stamps_at perform.has_stamp
  spot_frozen s n (Own i) e h = (i, e, bears_from s.things i (slice_get s.things i) refl h)
  spot_frozen s n other e h = absurd (false_true h)

  frozen_from : (s : Vat N) → Sound K s → (y : Value N) → IsThere s.lists y → perform.is_frozen K tree s y ≡ true → IsFrozen K s.things s.lists y
  unfolding perform.is_frozen perform.is_stamped refs.highest
  frozen_from s h (Items k) i e = plain_from K s.lists 100 (Items k) h.lists i e
  frozen_from s h (Ref n) i e = spot_frozen s n (K.spot n) refl e
  frozen_from s h other i e = tt

  pub taken_well : (s : Vat N) → Sound K s → (g : Guard) (x y : Value N) → IsThere s.lists x → IsThere s.lists y → MayBe (Taken K s.things s.lists g) (perform.taken K tree s g x y)
  unfolding perform.taken scopes.freezes scopes.is_int scopes.is_boolean scopes.is_char scopes.is_text scopes.is_list scopes.is_null
  taken_well s h AnyGuard x y i j = (i, λ e. absurd (false_true e))
  taken_well s h VoidGuard x y i j = (tt, λ e. tt)
  taken_well s h IntGuard x y i j = where_taken K _ (scopes.is_int y) y (λ e. (j, λ d. data_frozen K s.things s.lists scopes.is_int (λ k. refl) (λ n. refl) y e))
  taken_well s h BooleanGuard x y i j = where_taken K _ (scopes.is_boolean y) y (λ e. (j, λ d. data_frozen K s.things s.lists scopes.is_boolean (λ k. refl) (λ n. refl) y e))
  taken_well s h CharGuard x y i j = where_taken K _ (scopes.is_char y) y (λ e. (j, λ d. data_frozen K s.things s.lists scopes.is_char (λ k. refl) (λ n. refl) y e))
  taken_well s h TextGuard x y i j = where_taken K _ (scopes.is_text y) y (λ e. (j, λ d. data_frozen K s.things s.lists scopes.is_text (λ k. refl) (λ n. refl) y e))
  taken_well s h ListGuard x y i j = where_taken K _ (scopes.is_list y) y (λ e. (j, λ d. absurd (false_true d)))
  taken_well s h NullGuard x y i j = where_taken K _ (scopes.is_null y) y (λ e. (j, λ d. absurd (false_true d)))
  taken_well s h NearGuard x y i j = where_taken K _ (scopes.is_near (refs.place K s y)) y (λ e. (j, λ d. absurd (false_true d)))
  taken_well s h FrozenGuard x y i j = where_taken K _ (perform.is_frozen K tree s y) y (λ e. (j, λ d. frozen_from s h y j e))
  taken_well s h (OrNull g) x y i j = by_null K _ (scopes.is_null y) (perform.taken K tree s g x y) (tt, λ e. absurd (false_true e)) (there_of K s.things s.lists g (OrNull g) (perform.taken K tree s g x y) (λ e. false_true e) (taken_well s h g x y i j))

  pub look_taken : (M : Keeper K) → {C : Fact N} (g : Guard) (x : Value N) → Gets K C (IsValue x) → Fine K M C (look (λ s. perform.taken K tree s g x (refs.follow K s x))) MayValue
  look_taken M g x k = fine_sees K M (λ s. perform.taken K tree s g x (refs.follow K s x)) MayValue (λ s h c. value_taken K s.things s.lists g _ (taken_well s h g x (refs.follow K s x) (k.at s.things s.lists c) (follow_there K s h x (k.at s.things s.lists c))))

  pub look_bound : (M : Keeper K) → {C : Fact N} (n : ℕ) (g : Guard) → primitive n ≡ Guarding g → (x : Value N) → Gets K C (IsValue x) → Fine K M C (look (λ s. perform.taken K tree s g x (refs.follow K s x))) (λ o. MayBound (under K (Prim n) o))
  look_bound M n g e x k = fine_sees K M (λ s. perform.taken K tree s g x (refs.follow K s x)) (λ o. MayBound (under K (Prim n) o)) (λ s h c. bound_taken K s.things s.lists n g e _ (taken_well s h g x (refs.follow K s x) (k.at s.things s.lists c) (follow_there K s h x (k.at s.things s.lists c))))

  pub got_no_match : (C : Fact N) → Gets K C (IsValue (eval.no_match K tree))
  unfolding eval.no_match
  got_no_match C = record { at = λ ts ls c. tt }

  pub got_view : (C : Fact N) (node : ℕ) (p : Option Node) (xs : List Words) (here : Scope N) → Gets K C (AreNouns here.nouns) → Gets K C (IsView (calls.view_of K tree node p xs here))
  unfolding calls.view_of
  got_view C node p xs here g = record { at = λ ts ls c. free_there K ts ls (scopes.own_noun p) here.nouns xs (g.at ts ls c) }

  same_there : (s : Vat N) (a b : Value N) → ReplyThere s.lists (perform.same_reply K tree s a b)
  unfolding perform.same_reply
  same_there s a b = either_has (ReplyThere s.lists) (refs.any_of K (perform.is_open K tree (length s.lists) s) (a ∷ b ∷ [])) _ _ tt tt

  pub look_same : (M : Keeper K) → {C : Fact N} (a b : Value N) → Fine K M C (look (λ s. perform.same_reply K tree s a b)) IsReply
  look_same M a b = fine_sees K M (λ s. perform.same_reply K tree s a b) IsReply (λ s h c. same_there s a b)

  broken_there : (ls : Lists N) (x : Value N) → ReplyThere ls (perform.broken_text K tree x)
  unfolding perform.broken_text
  broken_there ls Null = tt
  broken_there ls other = tt

  pub look_broken : (M : Keeper K) → {C : Fact N} (x : Value N) → Fine K M C (look (λ s. perform.broken_text K tree (refs.follow K s x))) IsReply
  look_broken M x = fine_sees K M (λ s. perform.broken_text K tree (refs.follow K s x)) IsReply (λ s h c. broken_there s.lists (refs.follow K s x))

  thrown_there : (ls : Lists N) (x : Value N) → ReplyThere ls (perform.thrown_text K tree x)
  unfolding perform.thrown_text
  thrown_there ls Null = tt
  thrown_there ls other = tt

  pub look_thrown : (M : Keeper K) → {C : Fact N} (x : Value N) → Fine K M C (look (λ s. perform.thrown_text K tree (refs.follow K s x))) IsReply
  look_thrown M x = fine_sees K M (λ s. perform.thrown_text K tree (refs.follow K s x)) IsReply (λ s h c. thrown_there s.lists (refs.follow K s x))

  problem_there : (ls : Lists N) (p : Place N) → IsThere ls (perform.problem_of K tree p)
  unfolding perform.problem_of
  problem_there ls Near = tt
  problem_there ls other = tt

  fulfilled_there : (ls : Lists N) (x : Value N) (p : Place N) → IsThere ls x → ReplyThere ls (perform.fulfilled K tree x p)
  unfolding perform.fulfilled
  fulfilled_there ls x Near i = i
  fulfilled_there ls x (Away h n true) i = i
  fulfilled_there ls x other i = tt

  test_there : (ls : Lists N) (t : RefTest) (x : Value N) (p : Place N) → IsThere ls x → ReplyThere ls (perform.test_reply K tree t x p)
  unfolding perform.test_reply
  test_there ls OptProblem x p i = problem_there ls p
  test_there ls Fulfillment x p i = fulfilled_there ls x p i
  test_there ls other x p i = tt

  pub look_test : (M : Keeper K) → {C : Fact N} (t : RefTest) (x : Value N) → Gets K C (IsValue x) → Fine K M C (look (λ s. perform.test_reply K tree t x (refs.place K s (refs.follow K s x)))) IsReply
  look_test M t x g = fine_sees K M (λ s. perform.test_reply K tree t x (refs.place K s (refs.follow K s x))) IsReply (λ s h c. test_there s.lists t x (refs.place K s (refs.follow K s x)) (g.at s.things s.lists c))

  item_there : (ls : Lists N) (v : Value N) (fs : Lists N) → IsThere ls v → AllOf (AreThere ls) fs → AllOf (AreThere ls) (calls.with_item K tree v fs)
  unfolding calls.with_item
  item_there ls v [] i h = tt
  item_there ls v (f ∷ fs) i h = (all_last f h.0, h.1)
    where
      all_last : (xs : List (Value N)) → AreThere ls xs → AreThere ls (xs ++ v ∷ [])
      all_last [] k = (i, tt)
      all_last (x ∷ xs) k = (k.0, all_last xs k.1)

  pub got_item : (C : Fact N) (v : Value N) (fs : Lists N) → Gets K C (IsValue v) → Gets K C (AreLists fs) → Gets K C (AreLists (calls.with_item K tree v fs))
  got_item C v fs g h = record { at = λ ts ls c. item_there ls v fs (g.at ts ls c) (h.at ts ls c) }

pub ruleset knows = (look_taken, got_bound_in, got_noun, got_slot, got_asked, got_audition_ask, got_resolver_ask, got_ejector_ask, got_literal, got_safe, got_any, got_no_match, got_under_any, got_view, look_guard, look_data, look_range, look_same, look_compared, look_broken, look_thrown, look_test, look_null_or, got_item, got_lists, got_no_lists)
