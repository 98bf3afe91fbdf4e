-- The lines of every step are connected.
use Rattle.std.proofs.Common.{◌≡◌, ◌≤◌, arith, length, ℕ, zero, suc, true, false, List, [], ◌∷◌, ◌++◌, Option, Some, None, refl, sym, ap, ◌∙◌, subst, map, inl, inr}
use Rattle.std.specs.Prelude.{slice_get}
use Rattle.std.proofs.lemmas.Bool.{eq-eqb}
use Rattle.def_machine.specs.Values.{Words, Value, Null, Flag, Number, Letter, Text, Prim, Broken, Items, Ref, Name, Naming, naming, numbering, spot_of, local_spot, Spot, Own, Foreign}
use Rattle.def_machine.specs.State.{Binding, Scope, Thing, Made, Ejector, Audition, Resolver, Message, Standing, WaitsOn, Viewed, Settled, Known, Happened, Took, Finished, Threw, Vat, Done, Gives, Throws, Ejects, Stops, Astray, Act, ◌>>=◌, ◌>>◌, and_then, end_by, ending, give, throw, stop, look, tell, new_activation, for_some}
use Rattle.def_machine.specs.Refs.{standing_of, settle, resolve}
use Rattle.def_machine.specs.Free.{same_words}
use Rattle.def_machine.specs.Native.{asked, primitive}
use Rattle.def_machine.specs.Scopes.{Evaluator, members_of, resolver_ask}
use Rattle.def_machine.specs.Perform as perform
use Rattle.def_machine.specs.Calls as calls
use Rattle.def_machine.specs.Eval as eval
use Rattle.def_kernel.specs.declared.node.Node.{Node}
use Rattle.law_machine.specs.Machine.Steps.{Step, Opens, Takes, Receives, Notices, does, After}
use Rattle.law_uses.specs.Connectivity.Known.{Item, AValue, IsAmong, AllOf, Start, itself as at_itself, Reaches, Runs, took, initial, endowed, told, settled, viewed, tells, by, values, data_of, parts_of_all}
use Rattle.law_uses.specs.Connectivity.Connected.{served, open_from, open_after, uses, Connected, given_to, held_from}
use Rattle.law_uses.specs.Connectivity.Liveness.{live_at, is_live}
use Rattle.law_uses.specs.Connectivity.Settlings.{IsHanded, Owes, gave, threw as threw_by, held as held_before}
use Rattle.law_uses.proofs.Connectivity.Traces.{IsTold, among_last}
use Rattle.law_uses.proofs.Connectivity.Causes.{Causes, CausedAfter, EntryTold, WaitTold, MessageTold, GiftTold, HostTold, OnwardTold}
use Rattle.law_uses.proofs.Connectivity.ArriveCauses.{arrives_well, notices_well}
use Rattle.law_uses.specs.Connectivity.Activations.{Rises}
use Rattle.law_uses.specs.Connectivity.News.{thing_made, slot_made, list_made, Adds, MadeNew, StepsMakeNew}
use Rattle.law_uses.specs.Connectivity.UseLaws.{StepsConnect}
use Rattle.law_uses.specs.Connectivity.InTime.{AllInTime, StepsInTime}
use Rattle.law_uses.specs.Connectivity.Told.{ObjectsTold, SlotsTold, ReadsTold, ResolversTold, WaitsTold, StepsTell}
use Rattle.law_uses.proofs.Connectivity.ArriveIdle.{idle_arrive, idle_notice}
use Rattle.law_uses.proofs.Connectivity.Ground.{Ground, opens, with_line, opens_last, held, first, Has, Knew, Good, grows_same, makes_none, good_line, good_by}
use Rattle.law_uses.proofs.Connectivity.Fine.{Fact, Nothing, Also, IsAct, IsValue, AreValues, IsScope, answer, nothing, Gets, Ends, Fine, passes_same, widen, fine_bind, fine_give, IsLine, ResolverOf, MayAsk, then_line, idle_ends}
use Rattle.law_uses.proofs.Connectivity.Looks.{got_itself, got_asked, resolver_asked}
use Rattle.law_uses.proofs.Connectivity.Rules.{fine_settle, fine_resolve, nouns_from}
use Rattle.law_uses.proofs.Connectivity.FineCalls.{GoodEvaluator, fine_data_answer, fine_perform, fine_resolver_answer, fine_run_object, fine_call, audition_dead, ejector_dead}
use Rattle.law_uses.proofs.Connectivity.FineEval.{good_evaluator}

no_less : (n : ℕ) → n ≤ n
no_less n = omega arith

true_false : true ≡ false → ⊥
true_false e = cc

some_is : {A : Type 0} (x y : A) → Some x ≡ Some y → x ≡ y
some_is x y e = cc

live_found : {N : Type 0} (ts : List (Thing N)) (i : ℕ) (t : Thing N) → slice_get ts i ≡ Some t → live_at ts i ≡ is_live t
unfolding live_at
live_found [] i t e = cc
live_found (x ∷ ts) zero t e = ap is_live (some_is x t e)
live_found (x ∷ ts) (suc i) t e = live_found ts i t e

all_from : {N A : Type 0} (P : A → Type 0) (f : A → Item N) (xs : List A) (Q : Item N → Type 0) → ((x : A) → Q (f x) → P x) → ((i : Item N) → IsAmong i (map f xs) → Q i) → AllOf P xs
all_from P f [] Q g h = tt
all_from P f (x ∷ xs) Q g h = (g x (h (f x) (inl refl)), all_from P f xs Q g (λ i m. h i (inr m)))

pub among_left : {A : Type 0} (x : A) (xs ys : List A) → IsAmong x xs → IsAmong x (xs ++ ys)
among_left x [] ys m = absurd m
among_left x (z ∷ xs) ys (inl e) = inl e
among_left x (z ∷ xs) ys (inr m) = inr (among_left x xs ys m)

pub among_right : {A : Type 0} (x : A) (xs ys : List A) → IsAmong x ys → IsAmong x (xs ++ ys)
among_right x [] ys m = m
among_right x (z ∷ xs) ys m = inr (among_right x xs ys m)

by_among : {N : Type 0} (a : ℕ) (i : Item N) (is : List (Item N)) → IsAmong i is → IsAmong (a, i) (by a is)
unfolding by
by_among a i [] m = absurd m
by_among a i (j ∷ is) (inl e) = inl (ap (λ (k : Item _). (a, k)) e)
by_among a i (j ∷ is) (inr m) = inr (by_among a i is m)

module _ {N W : Type 0} (K : Naming N W) (E : Ground N W) (spots : (i : ℕ) → K.spot (K.object i) ≡ Own i) (a : ℕ) where
  -- ---- the end of a turn

  -- the answer, where there is one
  if_owed : {C : Fact N} (o : Option N) {f : N → Act N (Unit {0})} → ((p : N) → o ≡ Some p → Fine K E a C (f p) nothing) → Fine K E a C (for_some o f (give tt)) nothing
  unfolding for_some
  if_owed (Some p) h = h p refl
  if_owed {C = C} None h = fine_give K E a tt (record { at = λ s c. tt })

  abbrev OwesAll : Option N → Type 0
  OwesAll o = (p : N) → o ≡ Some p → Owes K E.start a p

  finished : {C : Fact N} (o : Option N) → OwesAll o → (v : Value N) → Gets K E a C (IsValue v) → Fine K E a C (tell (Finished a v) >> for_some o (λ p. resolve K p v) (give tt)) nothing
  unfolding uses by open_after
  finished o w v g = then_line K E a {D = IsLine (Finished a v)} (Finished a v) refl refl refl (λ so. tt) tt (λ s. refl) (λ s i c. ((inl (g.at s c), tt), tt)) (λ s c. tt) (λ s c. among_last s.happened (Finished a v))
      (if_owed o (λ p e. fine_resolve K E a p v (record { at = λ s c. gave a c.1 (w p e) })))

  threw : {C : Fact N} (o : Option N) → OwesAll o → (t : Words) → Fine K E a C (tell (Threw a t) >> for_some o (λ p. settle K p (Broken t)) (give tt)) nothing
  unfolding uses by open_after
  threw o w t = then_line K E a {D = IsLine (Threw a t)} (Threw a t) refl refl refl (λ so. tt) tt (λ s. refl) (λ s i c. (tt, tt)) (λ s c. tt) (λ s c. among_last s.happened (Threw a t))
      (if_owed o (λ p e. fine_settle K E a p (Broken t) (record { at = λ s c. inl (Broken t, threw_by a c.1 (w p e), inl (inl at_itself)) })))

  closes_ends : (o : Option N) → OwesAll o → (s : Vat N) (d : Done N (Value N)) → Ends K E a IsValue s d → Ends K E a nothing s (end_by (λ v. tell (Finished a v) >> for_some o (λ p. resolve K p v) (give tt)) (λ t. tell (Threw a t) >> for_some o (λ p. settle K p (Broken t)) (give tt)) (λ n v. stop Astray) d)
  unfolding end_by stop
  closes_ends o w s (Gives v t) h = widen K E a nothing s t ((tell (Finished a v) >> for_some o (λ p. resolve K p v) (give tt)) t) h.0 ((finished o w v (got_itself K E a (IsValue v))).after t h.1 h.2)
  closes_ends o w s (Throws q t) h = widen K E a nothing s t ((tell (Threw a q) >> for_some o (λ p. settle K p (Broken q)) (give tt)) t) h.0 ((threw {C = Nothing} o w q).after t h.1 tt)
  closes_ends o w s (Ejects n v t) h = h.1
  closes_ends o w s (Stops c t) h = h

  act_itself : {C : Fact N} → Gets K E a C (IsAct a)
  act_itself = record { at = λ s h. refl }

  -- ---- a turn

  module _ (tree : List Node) (rec : Evaluator N) (good : GoodEvaluator K E rec) (verb : Words) (args : List (Value N)) (s : Vat N) (g : Good K E s) (has : AllOf (Knew K E s a) args) (still : (i : ℕ) → live_at s.things i ≡ false) (none : served (opens s) ≡ None) where
    not_live : (i : ℕ) (t : Thing N) → slice_get s.things i ≡ Some t → is_live t ≡ true → ⊥
    not_live i t e l = true_false (sym l ∙ sym (live_found s.things i t e) ∙ still i)

    turn_thing_ends : (i : ℕ) (o : Option (Thing N)) → slice_get s.things i ≡ o → Runs K (held K E s) s.happened a i → ((name : Words) (v : Value N) → args ≡ v ∷ [] → same_words name verb ≡ true → IsHanded K E.start s.happened i name v) → Ends K E a IsValue s (calls.turn_thing K tree rec a i o verb args s)
    unfolding calls.turn_thing calls.thing_answer stop is_live
    turn_thing_ends i None e r h = g
    turn_thing_ends i (Some (Made node caught stamps)) e r h = let here : Scope N = record { act = a; nouns = caught } in
        (fine_run_object K E spots tree {C = Also (IsScope here) (AreValues args)} rec good (members_of (slice_get tree node)) verb args (record { at = λ s h. h.1 }) here (record { at = λ s h. h.0 })).after s g
        ((refl, nouns_from K E a s caught (λ k m. endowed i node caught stamps r e m), none), has)
    turn_thing_ends i (Some (Ejector true)) e r h = absurd (not_live i (Ejector true) e refl)
    turn_thing_ends i (Some (Ejector false)) e r h = (ejector_dead K E spots tree {a = a} {C = Nothing} {H = IsValue} i _).after s g tt
    turn_thing_ends i (Some (Audition true view)) e r h = absurd (not_live i (Audition true view) e refl)
    turn_thing_ends i (Some (Audition false view)) e r h = (audition_dead K E spots tree {a = a} {C = Nothing} {H = IsValue} (calls.call K tree rec) a view _).after s g tt
    turn_thing_ends i (Some (Resolver p)) e r h = (fine_resolver_answer K E spots tree {C = Also (ResolverOf i p) (MayAsk i (resolver_ask verb args))} i p (record { at = λ s c. c.0 }) _ (record { at = λ s c. c.1 })).after s g (g.resolvers i p e, resolver_asked K E a s i verb args h)

    turn_spot_ends : (p : Spot) → ((i : ℕ) → p ≡ Own i → Runs K (held K E s) s.happened a i) → ((i : ℕ) → p ≡ Own i → (name : Words) (v : Value N) → args ≡ v ∷ [] → same_words name verb ≡ true → IsHanded K E.start s.happened i name v) → Ends K E a IsValue s (calls.turn_spot K tree rec a p verb args s)
    unfolding calls.turn_spot look ◌>>=◌ and_then stop
    turn_spot_ends (Own i) r h = turn_thing_ends i (slice_get s.things i) refl (r i refl) (h i refl)
    turn_spot_ends other r h = g

    turn_data : (y : Value N) → Knew K E s a y → Ends K E a IsValue s (perform.data_answer K tree (calls.call K tree rec) a y verb args s)
    turn_data y k = (fine_data_answer K E spots tree {C = Also (IsValue y) (AreValues args)} (calls.call K tree rec) (λ D act i x h v xs j. fine_call K E spots tree {C = D} rec good act i x h v xs j) a act_itself y (record { at = λ s h. h.0 }) verb args (record { at = λ s h. h.1 })).after s g (k, has)

    turn_ends : (y : Value N) → ((i : Item N) → IsAmong i (data_of y) → Has K E s a i) → ((n : N) (i : ℕ) → y ≡ Ref n → K.spot n ≡ Own i → Runs K (held K E s) s.happened a i) → ((n : N) (i : ℕ) → y ≡ Ref n → K.spot n ≡ Own i → (name : Words) (v : Value N) → args ≡ v ∷ [] → same_words name verb ≡ true → IsHanded K E.start s.happened i name v) → Ends K E a IsValue s (calls.turn_value K tree rec a y verb args s)
    unfolding calls.turn_value throw data_of
    turn_ends (Ref n) d r h = turn_spot_ends (K.spot n) (λ i e. r n i refl e) (λ i e. h n i refl e)
    turn_ends (Broken p) d r h = (passes_same K E a s, g)
    turn_ends (Prim n) d r h = (fine_perform K E spots tree {C = AreValues args} (calls.call K tree rec) (λ D act i x h v xs j. fine_call K E spots tree {C = D} rec good act i x h v xs j) a act_itself (asked (primitive n) verb args) (got_asked K E a (AreValues args) (primitive n) verb args (got_itself K E a (AreValues args)))).after s g has
    turn_ends Null d r h = turn_data Null (d (AValue Null) (inl refl))
    turn_ends (Flag b) d r h = turn_data (Flag b) (d (AValue (Flag b)) (inl refl))
    turn_ends (Number z) d r h = turn_data (Number z) (d (AValue (Number z)) (inl refl))
    turn_ends (Letter c) d r h = turn_data (Letter c) (d (AValue (Letter c)) (inl refl))
    turn_ends (Text t) d r h = turn_data (Text t) (d (AValue (Text t)) (inl refl))
    turn_ends (Items k) d r h = turn_data (Items k) (d (AValue (Items k)) (inl refl))

  abbrev counted : Vat N → Vat N
  counted s = record s { activations = suc s.activations }

  good_counted : (s : Vat N) → Good K E s → Good K E (counted s)
  good_counted s g = good_by K E s (counted s) refl (refl, refl, refl, refl, refl, refl) (grows_same K E s).grown (makes_none K E s (counted s) refl refl) refl g

  no_calls : (s : Vat N) → s.happened ≡ [] → served (opens s) ≡ None
  unfolding served open_from
  no_calls s e = ap (λ es. served (open_from [] es)) e

  opening_ends : (tree : List Node) (depth : ℕ) (p : N) → Owes K E.start a p → (given : List (Binding N)) (s : Vat N) → s.activations ≡ a → s.happened ≡ [] → Good K E s → ((i : Item N) → IsAmong i (parts_of_all (map (λ b. b.bound) given)) → IsAmong (a, i) E.given)
      → Ends K E a nothing (counted s) (eval.opening K tree depth p given s)
  unfolding eval.opening eval.closes new_activation ending ◌>>=◌ and_then
  opening_ends tree depth p w given s e n g h = let here : Scope N = record { act = a; nouns = given } in
      subst (λ b. Ends K E a nothing (counted s) (eval.closes K tree b (Some p) ((eval.evaluator K tree depth).expression 0 (record { act = b; nouns = given }) >>= (λ x. give x.value)) (counted s))) (sym e)
      (closes_ends (Some p) (λ q f. subst (λ m. Owes K E.start a m) (some_is p q f) w) (counted s) _ ((fine_bind K E a {H = IsValue} answer ((good_evaluator K E spots tree depth).expression a (IsScope here) 0 here (got_itself K E a (IsScope here))) (λ x. fine_give K E a x.value (record { at = λ s h. h.1.0 }))).after (counted s) (good_counted s g)
      (refl, nouns_from K E a (counted s) given (λ i m. initial (h i m)), no_calls s n)))

  took_good : (r : Vat N) (m : Message N) → Good K E r → Good K E (with_line r (Took a m))
  unfolding uses
  took_good r m g = good_line K E r (Took a m) refl refl refl tt g (tt, tt) tt tt tt

  took_none : (r : Vat N) (m : Message N) → served (opens r) ≡ None → served (opens (with_line r (Took a m))) ≡ None
  unfolding open_after
  took_none r m e = ap served (opens_last r (Took a m)) ∙ e

  took_told : (r : Vat N) (m : Message N) (i : Item N) → IsAmong i (map AValue m.args ++ data_of m.target) → Has K E (with_line r (Took a m)) a i
  unfolding tells values
  took_told r m i j = told (Took a m) (among_last r.happened (Took a m)) (by_among a i (map AValue m.args ++ data_of m.target) j)

  taking_ends : (tree : List Node) (depth : ℕ) (m : Message N) → OwesAll m.answer → (s : Vat N) → s.activations ≡ a → s.happened ≡ [] → ((i : ℕ) → live_at s.things i ≡ false) → Good K E s → Ends K E a nothing (with_line (counted s) (Took a m)) (eval.taking K tree depth m s)
  unfolding eval.taking eval.closes new_activation ending tell ◌>>=◌ ◌>>◌ and_then
  taking_ends tree depth m w s e n still g = let r : Vat N = counted s in let l : Happened N = Took a m in let t : Vat N = with_line r l in
      subst (λ b. Ends K E a nothing (with_line (counted s) (Took a m)) (eval.closes K tree b m.answer (calls.turn_value K tree (eval.evaluator K tree depth) b m.target m.verb m.args) (with_line (counted s) (Took b m)))) (sym e)
      (closes_ends m.answer w t _ (turn_ends tree (eval.evaluator K tree depth) (good_evaluator K E spots tree depth) m.verb m.args t (took_good r m (good_counted s g))
      (all_from (Knew K E t a) AValue m.args (Has K E t a) (λ v k. k) (λ i j. took_told r m i (among_left i (map AValue m.args) (data_of m.target) j))) still (took_none r m (no_calls r n)) m.target (λ i j. took_told r m i (among_right i (map AValue m.args) (data_of m.target) j))
      (λ k i f h. took m (among_last r.happened l) (k, subst (λ z. Reaches K E.start.vat.known t.happened z (Ref k)) (sym f) at_itself, h))
      (λ k i f h name v j q. inr (a, m, among_last r.happened l, j, q, (k, subst (λ z. Reaches K E.start.vat.known t.happened z (Ref k)) (sym f) at_itself, h)))))

module _ {N W : Type 0} (K : Naming N W) where
  first_told : (ks : List (Known N)) (so : List (Happened N)) (x : Standing N) (n : N) → standing_of K ks n ≡ x → IsTold K ks so n x
  first_told ks so (Settled y) n e = settled e
  first_told ks so (Viewed q) n e = viewed e
  first_told ks so other n e = tt

  first_onward : (step : Step N W) (s : Vat N) (so : List (Happened N)) (x : Standing N) (n : N) → standing_of K s.known n ≡ x → OnwardTold K (record { step = step; vat = s }) so n x
  first_onward step s so (WaitsOn q) n e = inl e
  first_onward step s so other n e = tt

  each_among : {A : Type 0} (P : A → Type 0) (xs : List A) → ((x : A) → IsAmong x xs → P x) → AllOf P xs
  each_among P [] f = tt
  each_among P (x ∷ xs) f = (f x (inl refl), each_among P xs (λ y m. f y (inr m)))

  pub first_causes : (step : Step N W) (s : Vat N) → s.happened ≡ [] → Causes K (record { step = step; vat = s }) s
  first_causes step s e = let E : Start N W = record { step = step; vat = s } in record {
    told = λ n. first_told s.known s.happened (standing_of K s.known n) n refl;
    lines = subst (λ es. CausedAfter K E [] es) (sym e) tt;
    entries = each_among (EntryTold K E s.happened) s.known (λ k m. (each_among (WaitTold K E s.happened k.name) k.waiting (λ q i. inl (k, m, refl, i)), each_among (MessageTold K E s.happened) k.held (λ x i p f. (x.target, held_before k x m i f, inl at_itself))));
    gifts = each_among (GiftTold K E) s.gifts (λ g m. inl (g, m, refl, refl, refl));
    noticed = λ w h. inl h;
    number = refl;
    names = no_less (length s.known);
    mails = no_less (length s.mails);
    promises = no_less s.promises;
    hosts = each_among (HostTold K E) s.known (λ k m. inl (k, m, refl, refl));
    onward = λ n. first_onward step s s.happened (standing_of K s.known n) n refl;
    lists = subst (λ es. Adds s.lists (map list_made es) s.lists) (sym e) refl;
  }

module _ {N W : Type 0} (K : Naming N W) (spots : (i : ℕ) → K.spot (K.object i) ≡ Own i) where
  abbrev first_ground : List (ℕ × Item N) → Step N W → Vat N → Ground N W
  first_ground given step s = record { things = s.things; slots = s.slots; given = given; start = record { step = step; vat = s } }

  -- at the beginning of a step
  good_first : (given : List (ℕ × Item N)) (step : Step N W) (s : Vat N) → s.happened ≡ [] → ((i : ℕ) → live_at s.things i ≡ false) → Good K (first_ground given step s) s
  unfolding is_live
  good_first given step s e still = record {
    causes = first_causes K step s e;
    lines = subst (λ es. Connected K (held K (first_ground given step s) s) es) (sym e) tt;
    timely = subst (λ es. AllInTime K (first K (first_ground given step s)) [] es) (sym e) tt;
    resolvers = λ i p f. inl f;
    judged = λ i view f. absurd (true_false (sym (live_found s.things i (Audition true view) f) ∙ still i));
    made = λ i node caught stamps f. inl f;
    cells = λ k c f. inl (c, f, refl);
    reads = subst (λ es. ReadsTold s.slots [] es) (sym e) tt;
    things_rise = subst (λ es. Rises (length s.things) (map (thing_made K) es) (length s.things)) (sym e) (no_less (length s.things));
    slots_rise = subst (λ es. Rises (length s.slots) (map slot_made es) (length s.slots)) (sym e) (no_less (length s.slots));
    lists_told = subst (λ es. Adds s.lists (map list_made es) s.lists) (sym e) refl;
  }

  abbrev ground : Step N W → Vat N → Ground N W
  ground step s = first_ground (given_to s step) step s

  ends_good : (E : Ground N W) (a : ℕ) {A : Type 0} (G : A → Fact N) (r s : Vat N) (d : Done N A) → Ends K E a G s d → After (λ s t. Good K E t) r d
  ends_good E a G r s (Stops c t) h = h
  ends_good E a G r s other h = h.1

  steps_good : (step : Step N W) (s : Vat N) → s.happened ≡ [] → ((i : ℕ) → live_at s.things i ≡ false) → After (λ r t. Good K (ground step s) t) s (does K step s)
  unfolding does given_to
  steps_good (Opens tree depth root given) s e still = let E : Ground N W = ground (Opens tree depth root given) s in
      ends_good E s.activations nothing s (counted K E spots s.activations s) _ (opening_ends K E spots s.activations tree depth root (refl, refl) given s refl e (good_first E.given (Opens tree depth root given) s e still) (λ i m. by_among s.activations i (parts_of_all (map (λ b. b.bound) given)) m))
  steps_good (Takes tree depth m) s e still = let E : Ground N W = ground (Takes tree depth m) s in
      ends_good E s.activations nothing s _ _ (taking_ends K E spots s.activations tree depth m (λ p f. (refl, f)) s refl e still (good_first [] (Takes tree depth m) s e still))
  steps_good (Receives from n) s e still = let E : Ground N W = ground (Receives from n) s in
      ends_good E 0 nothing s s _ (let g = good_first [] (Receives from n) s e still in idle_ends K E 0 s _ g ((idle_arrive K from n).after s) (arrives_well K E.start from n refl s g.causes))
  steps_good (Notices w) s e still = let E : Ground N W = ground (Notices w) s in
      ends_good E 0 nothing s s _ (let g = good_first [] (Notices w) s e still in idle_ends K E 0 s _ g ((idle_notice K w).after s) (notices_well K E.start w refl s g.causes refl))

  good_connected : (step : Step N W) (s : Vat N) (d : Done N (Unit {0})) → After (λ r t. Good K (ground step s) t) s d → After (λ s t. Connected K (held_from step s t) t.happened) s d
  unfolding held_from
  good_connected step s (Gives x t) h = h.lines
  good_connected step s other h = h.lines

  member_has : {A : Type 0} (P : A → Type 0) (xs : List A) → AllOf P xs → (x : A) → IsAmong x xs → P x
  member_has P [] h x m = absurd m
  member_has P (y ∷ xs) h x (inl e) = subst P (sym e) h.0
  member_has P (y ∷ xs) h x (inr m) = member_has P xs h.1 x m

  waits_told : (step : Step N W) (s t : Vat N) → Good K (ground step s) t → WaitsTold K s t
  waits_told step s t h k p m n = let E : Start N W = record { step = step; vat = s } in
      member_has (λ q. WaitTold K E t.happened k.name q) k.waiting (member_has (EntryTold K E t.happened) t.known h.causes.entries k m).0 p n

  good_told : (step : Step N W) (s : Vat N) (d : Done N (Unit {0})) → After (λ r t. Good K (ground step s) t) s d → After (λ s t. ObjectsTold K s t × SlotsTold s t × ReadsTold s.slots [] t.happened × ResolversTold K s t × WaitsTold K s t) s d
  good_told step s (Gives x t) h = (h.made, h.cells, h.reads, h.resolvers, waits_told step s t h)
  good_told step s (Throws p t) h = (h.made, h.cells, h.reads, h.resolvers, waits_told step s t h)
  good_told step s (Ejects n v t) h = (h.made, h.cells, h.reads, h.resolvers, waits_told step s t h)
  good_told step s (Stops c t) h = (h.made, h.cells, h.reads, h.resolvers, waits_told step s t h)

  good_new : (step : Step N W) (s : Vat N) (d : Done N (Unit {0})) → After (λ r t. Good K (ground step s) t) s d → After (MadeNew K) s d
  good_new step s (Gives x t) h = (h.things_rise, h.slots_rise, h.lists_told)
  good_new step s other h = (h.things_rise, h.slots_rise, h.lists_told)

  good_timely : (step : Step N W) (s : Vat N) (d : Done N (Unit {0})) → After (λ r t. Good K (ground step s) t) s d → After (λ s t. AllInTime K (held_from step s s) [] t.happened) s d
  unfolding held_from
  good_timely step s (Gives x t) h = h.timely
  good_timely step s other h = h.timely

  pub steps_in_time : StepsInTime K
  steps_in_time step s e still = good_timely step s (does K step s) (steps_good step s e still)

  pub steps_make_new : StepsMakeNew K
  steps_make_new step s e still = good_new step s (does K step s) (steps_good step s e still)

  pub steps_connect : StepsConnect K
  steps_connect step s e still = good_connected step s (does K step s) (steps_good step s e still)

  pub steps_tell : StepsTell K
  steps_tell step s e still = good_told step s (does K step s) (steps_good step s e still)

pub named_spots : (word : ℕ → ℕ) (v i : ℕ) → (naming word v).spot ((naming word v).object i) ≡ Own i
unfolding naming spot_of
named_spots word v i = ap (λ b. elim b [ true ↦ Own i | false ↦ Foreign v ]) (eq-eqb v v refl)

numbered_spots : (word : ℕ → ℕ) (i : ℕ) → (numbering {W = Name} word).spot ((numbering {W = Name} word).object i) ≡ Own i
unfolding numbering local_spot
numbered_spots word i = refl

pub named_connect : (word : ℕ → ℕ) (v : ℕ) → StepsConnect (naming word v)
named_connect word v step s e still = steps_connect (naming word v) (named_spots word v) step s e still

pub numbered_connect : (word : ℕ → ℕ) → StepsConnect (numbering {W = Name} word)
numbered_connect word step s e still = steps_connect (numbering {W = Name} word) (numbered_spots word) step s e still

pub named_in_time : (word : ℕ → ℕ) (v : ℕ) → StepsInTime (naming word v)
named_in_time word v step s e still = steps_in_time (naming word v) (named_spots word v) step s e still

pub numbered_in_time : (word : ℕ → ℕ) → StepsInTime (numbering {W = Name} word)
numbered_in_time word step s e still = steps_in_time (numbering {W = Name} word) (numbered_spots word) step s e still

pub named_tell : (word : ℕ → ℕ) (v : ℕ) → StepsTell (naming word v)
named_tell word v step s e still = steps_tell (naming word v) (named_spots word v) step s e still

pub numbered_tell : (word : ℕ → ℕ) → StepsTell (numbering {W = Name} word)
numbered_tell word step s e still = steps_tell (numbering {W = Name} word) (numbered_spots word) step s e still

pub named_new : (word : ℕ → ℕ) (v : ℕ) → StepsMakeNew (naming word v)
named_new word v step s e still = steps_make_new (naming word v) (named_spots word v) step s e still

pub numbered_new : (word : ℕ → ℕ) → StepsMakeNew (numbering {W = Name} word)
numbered_new word step s e still = steps_make_new (numbering {W = Name} word) (numbered_spots word) step s e still
