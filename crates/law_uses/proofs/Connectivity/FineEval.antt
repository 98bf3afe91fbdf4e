-- Evaluation, from a connected history, ends in a connected history: nodes.
use Rattle.std.proofs.Common.{◌≡◌, ℕ, zero, suc, Bool, true, false, List, [], ◌∷◌, ◌++◌, Option, Some, None, if◌then◌else◌, refl, sym, ap, ◌∙◌, subst, length, map, ◌⊎◌, inl, inr, ◌==◌}
use Rattle.std.specs.Prelude.{slice_get}
use Rattle.def_machine.specs.Values.{Words, Value, Flag, Items, Ref, Naming, Own as IsOwn}
use Rattle.def_machine.specs.State.{Bound, Fixed, Slot, Scope, Binding, Cell, Thing, Made, Resolver, Happened, Audition, View, ObjectMade, Vat, Act, ◌>>=◌, ◌>>◌, and_then, give, eject, look, tell, new_thing}
use Rattle.def_machine.specs.Free.{same_words, BoundNoun}
use Rattle.def_machine.specs.Scopes as scopes
use Rattle.def_machine.specs.Calls as calls
use Rattle.def_machine.specs.Eval as eval
use Rattle.def_machine.specs.Scopes.{any_guard, Answer, Evaluator, Caller}
use Rattle.def_kernel.specs.declared.node.Node.{Node}
use Rattle.def_kernel.specs.declared.node.Node.TheVariants.{Lit, Final, Any}
use Rattle.law_uses.specs.Connectivity.Known.{Item, AValue, AGuard, ASlot, IsAmong, AllOf, Knows, plain, serves, tells, by, values, parts_of, parts_of_all}
use Rattle.law_uses.specs.Connectivity.Connected.{LineWell, served, open_after, uses, itself}
use Rattle.law_uses.proofs.Connectivity.Traces.{among_last}
use Rattle.law_uses.specs.Connectivity.Activations.{Rises}
use Rattle.law_uses.specs.Connectivity.News.{own_number, thing_made, slot_made, list_made}
use Rattle.law_uses.proofs.Connectivity.Rising.{rises_line, rises_new, length_end}
use Rattle.law_uses.proofs.Connectivity.Adding.{adds_line}
use Rattle.law_uses.proofs.Connectivity.Idle.{joined}
use Rattle.law_uses.proofs.Connectivity.Ground.{Ground, all_map, opens, with_line, opens_last, held, Has, Knew, Grows, Good, Then, ObjectTold, has_up, grows_line, good_block}
use Rattle.law_uses.proofs.Connectivity.Fine.{MayBe, Fact, Also, IsAct, IsValue, IsGuard, AreValues, IsSlot, IsBound, IsScope, MayBound, MayCell, MadeEjector, WasHanded, answer, answers, BoundKnown, NounKnown, Gets, Passes, Ends, Fine, holds_up, widen, grows_thing, get_or_last, old_thing, uses_values, is_told, fine_bind, fine_give, fine_eject, fine_stop, fine_spend}
use Rattle.law_uses.proofs.Connectivity.Looks.{look_cell, got, got_left, got_act, got_with, got_judging}
use Rattle.law_uses.proofs.Connectivity.Rules.{fine, then_unit, if_same, then_got}
use Rattle.law_uses.proofs.Connectivity.FineCalls.{GoodCaller, GoodEvaluator, fine_answered, fine_read_bound, fine_failed, fine_handed, fine_coerce, fine_leave, fine_ask_all, fine_bind_all, fine_call, fine_call_guard}

module _ {N W : Type 0} (K : Naming N W) (E : Ground N W) (spots : (i : ℕ) → K.spot (K.object i) ≡ IsOwn i) (tree : List Node) where
  -- known, or the object that is made
  abbrev Own : ℕ → Vat N → N → Item N → Type 0
  Own a s me i = Has K E s a i ⊎ IsAmong i (AValue (Ref me) ∷ [])

  abbrev BoundOwn : ℕ → Vat N → N → Bound N → Type 0
  BoundOwn a s me (Fixed v g) = Own a s me (AValue v) × Own a s me (AGuard g)
  BoundOwn a s me (Slot k) = Own a s me (ASlot k)

  abbrev NounOwn : ℕ → Vat N → N → Binding N → Type 0
  NounOwn a s me b = BoundOwn a s me b.bound

  own_known : (a : ℕ) (s : Vat N) (me : N) (b : Bound N) → BoundKnown K E a s b → BoundOwn a s me b
  own_known a s me (Fixed v g) h = (inl h.0, inl h.1)
  own_known a s me (Slot k) h = inl h

  named_own : (a : ℕ) (s : Vat N) (me : N) (p : Option Node) (here : Scope N) → AllOf (NounOwn a s me) here.nouns → AllOf (NounOwn a s me) (scopes.named p (Ref me) here).nouns
  unfolding scopes.named scopes.with_noun any_guard
  named_own a s me (Some (Final y g)) here h = ((inr (inl refl), inl (serves (plain tt))), h)
  named_own a s me _ here h = h

  named_act : (p : Option Node) (v : Value N) (here : Scope N) → (scopes.named p v here).act ≡ here.act
  unfolding scopes.named scopes.with_noun
  named_act (Some (Final y g)) v here = refl
  named_act _ v here = refl

  found_own : (a : ℕ) (s : Vat N) (me : N) (c : Bool) (b : Binding N) (o : Option (Bound N)) → NounOwn a s me b → MayBe (BoundOwn a s me) o → MayBe (BoundOwn a s me) (elim c [ true ↦ Some b.bound | false ↦ o ])
  found_own a s me true b o h i = h
  found_own a s me false b o h i = i

  bound_own : (a : ℕ) (s : Vat N) (me : N) (ns : List (Binding N)) (x : Words) → AllOf (NounOwn a s me) ns → MayBe (BoundOwn a s me) (scopes.bound_in ns x)
  unfolding scopes.bound_in
  bound_own a s me [] x h = tt
  bound_own a s me (b ∷ bs) x h = found_own a s me (same_words b.noun x) b (scopes.bound_in bs x) h.0 (bound_own a s me bs x h.1)

  caught_one : (a : ℕ) (s : Vat N) (me : N) (x : Words) (o : Option (Bound N)) (rest : List (Binding N)) → MayBe (BoundOwn a s me) o → AllOf (NounOwn a s me) rest → AllOf (NounOwn a s me) (elim o [ Some b ↦ record { noun = x; bound = b } ∷ rest | None ↦ rest ])
  caught_one a s me x (Some b) rest h k = (h, k)
  caught_one a s me x None rest h k = k

  caught_own : (a : ℕ) (s : Vat N) (me : N) (here : Scope N) (xs : List Words) → AllOf (NounOwn a s me) here.nouns → AllOf (NounOwn a s me) (scopes.captures here xs)
  unfolding scopes.captures
  caught_own a s me here [] h = tt
  caught_own a s me here (x ∷ xs) h = caught_one a s me x (scopes.bound_in here.nouns x) (scopes.captures here xs) (bound_own a s me here.nouns x h) (caught_own a s me here xs h)

  -- what an object is made with
  abbrev Uses : ℕ → Vat N → N → List (ℕ × Item N) → Type 0
  Uses a s me us = AllOf (λ u. Knows K (held K E s) s.happened u.0 u.1 ⊎ IsAmong u.1 (AValue (Ref me) ∷ [])) us

  uses_bound : (a : ℕ) (s : Vat N) (me : N) (b : Bound N) (rest : List (Item N)) → BoundOwn a s me b → Uses a s me (by a rest) → Uses a s me (by a (parts_of b ++ rest))
  unfolding by parts_of
  uses_bound a s me (Fixed v g) rest h k = (h.0, (h.1, k))
  uses_bound a s me (Slot n) rest h k = (h, k)

  tail_of : (x y z : List (Item N)) → (x ++ y) ++ z ≡ x ++ (y ++ z)
  tail_of x y z = joined x y z

  uses_caught : (a : ℕ) (s : Vat N) (me : N) (bs : List (Binding N)) (rest : List (Item N)) → AllOf (NounOwn a s me) bs → Uses a s me (by a rest) → Uses a s me (by a (parts_of_all (map (λ b. b.bound) bs) ++ rest))
  unfolding parts_of_all
  uses_caught a s me [] rest h k = k
  uses_caught a s me (b ∷ bs) rest h k = subst (λ is. Uses a s me (by a is)) (sym (tail_of (parts_of b.bound) (parts_of_all (map (λ b. b.bound) bs)) rest)) (uses_bound a s me b.bound (parts_of_all (map (λ b. b.bound) bs) ++ rest) h.0 (uses_caught a s me bs rest h.1 k))

  now_known : (a : ℕ) (s t : Vat N) (me : N) → Grows K E s t → Knew K E t a (Ref me) → (b : Bound N) → BoundOwn a s me b → BoundKnown K E a t b
  now_known a s t me g k (Fixed v w) h = (one (AValue v) h.0, one (AGuard w) h.1)
    where
      one : (i : Item N) → Own a s me i → Has K E t a i
      one i (inl j) = has_up K E s t g a i j
      one i (inr (inl e)) = subst (λ j. Has K E t a j) (sym e) k
      one i (inr (inr e)) = absurd e
  now_known a s t me g k (Slot n) h = slot h
    where
      slot : Own a s me (ASlot n) → Has K E t a (ASlot n)
      slot (inl j) = has_up K E s t g a (ASlot n) j
      slot (inr (inl e)) = subst (λ j. Has K E t a j) (sym e) k
      slot (inr (inr e)) = absurd e

  -- what it is made with was known before it was there
  made_then : (a i : ℕ) (x : Words) (caught : List (Binding N)) (stamps : List (Value N)) (s : Vat N) → AllOf (NounOwn a s (K.object i)) caught → AllOf (Knew K E s a) stamps → Then K E s (ObjectMade a (K.object i) x (map (λ b. b.bound) caught) stamps)
  unfolding uses itself
  made_then a i x caught stamps s own h = (uses_caught a s (K.object i) caught (values stamps) own (uses_values K E a s (AValue (Ref (K.object i)) ∷ []) stamps h), tt, tt, (i, refl))

  made_now : (a : ℕ) (me : N) (x : Words) (caught : List (Binding N)) (stamps : List (Value N)) (after : Scope N) (u : Vat N) → after.act ≡ a → (LineWell K (held K E u) u.happened (ObjectMade a me x (map (λ b. b.bound) caught) stamps) → Good K E (with_line u (ObjectMade a me x (map (λ b. b.bound) caught) stamps))) → AllOf (NounOwn a u me) after.nouns → AllOf (NounOwn a u me) caught → served (opens u) ≡ None → AllOf (Knew K E u a) stamps
      → Ends K E a answer u ((tell (ObjectMade a me x (map (λ b. b.bound) caught) stamps) >> scopes.answered after (Ref me)) u)
  unfolding tell ◌>>◌ and_then scopes.answered give uses itself by values tells open_after
  made_now a me x caught stamps after u e g nouns own o h = let l : Happened N = ObjectMade a me x (map (λ b. b.bound) caught) stamps in let t : Vat N = with_line u l in let r : Grows K E u t = grows_line K E u l in
      let k : Knew K E t a (Ref me) = is_told K E a u l (AValue (Ref me)) (inl refl) in (
        (r, opens_last u l),
        g (uses_caught a u me caught (values stamps) own (uses_values K E a u (AValue (Ref me) ∷ []) stamps h), tt),
        (k, (e, all_map (NounOwn a u me) (NounKnown K E a t) (λ b j. now_known a u t me r k b.bound j) after.nouns nouns, ap served (opens_last u l) ∙ o)),
      )

  made_ends : (a : ℕ) (me : N) (x : Words) (caught : List (Binding N)) (stamps : List (Value N)) (after : Scope N) (u : Vat N) (act : ℕ) → after.act ≡ a → act ≡ a → (LineWell K (held K E u) u.happened (ObjectMade a me x (map (λ b. b.bound) caught) stamps) → Good K E (with_line u (ObjectMade a me x (map (λ b. b.bound) caught) stamps))) → AllOf (NounOwn a u me) after.nouns → AllOf (NounOwn a u me) caught → served (opens u) ≡ None → AllOf (Knew K E u a) stamps
      → Ends K E a answer u ((tell (ObjectMade act me x (map (λ b. b.bound) caught) stamps) >> scopes.answered after (Ref me)) u)
  made_ends a me x caught stamps after u act e f g nouns own o h = subst (λ b. Ends K E a answer u ((tell (ObjectMade b me x (map (λ b. b.bound) caught) stamps) >> scopes.answered after (Ref me)) u)) (sym f) (made_now a me x caught stamps after u e g nouns own o h)

  made_parts : (node m : ℕ) (caught cs : List (Binding N)) (stamps ys : List (Value N)) → Made node caught stamps ≡ Made m cs ys → (caught ≡ cs) × (stamps ≡ ys)
  made_parts node m caught cs stamps ys e = (cc, cc)

  no_audition : (node : ℕ) (caught : List (Binding N)) (stamps : List (Value N)) (view : View N) → Made node caught stamps ≡ Audition true view → ⊥
  no_audition node caught stamps view e = cc

  no_resolver : (node : ℕ) (caught : List (Binding N)) (stamps : List (Value N)) (p : N) → Made node caught stamps ≡ Resolver p → ⊥
  no_resolver node caught stamps p e = cc

  old_audition : (ts : List (Thing N)) (i node : ℕ) (caught : List (Binding N)) (stamps : List (Value N)) (view : View N) → (slice_get ts i ≡ Some (Audition true view)) ⊎ ((i ≡ length ts) × (Made node caught stamps ≡ Audition true view)) → slice_get ts i ≡ Some (Audition true view)
  old_audition ts i node caught stamps view (inl e) = e
  old_audition ts i node caught stamps view (inr e) = absurd (no_audition node caught stamps view e.1)

  object_told : (a node : ℕ) (x : Words) (caught : List (Binding N)) (stamps : List (Value N)) (s : Vat N) (i m : ℕ) (cs : List (Binding N)) (ys : List (Value N)) → (slice_get s.things i ≡ Some (Made m cs ys)) ⊎ ((i ≡ length s.things) × (Made node caught stamps ≡ Made m cs ys))
      → (slice_get s.things i ≡ Some (Made m cs ys)) ⊎ ObjectTold K E (with_line (record s { things = s.things ++ Made node caught stamps ∷ [] }) (ObjectMade a (K.object (length s.things)) x (map (λ b. b.bound) caught) stamps)) i m cs ys
  object_told a node x caught stamps s i m cs ys (inl e) = inl e
  object_told a node x caught stamps s i m cs ys (inr e) = let lines : List (Happened N) = s.happened ++ ObjectMade a (K.object (length s.things)) x (map (λ b. b.bound) caught) stamps ∷ [] in let parts = made_parts node m caught cs stamps ys e.1 in
      inr (inr (
        a,
        x,
        subst (λ j. IsAmong (ObjectMade a (K.object j) x (map (λ b. b.bound) cs) ys) lines) (sym e.0)
            (subst (λ zs. IsAmong (ObjectMade a (K.object (length s.things)) x (map (λ b. b.bound) cs) zs) lines) parts.1 (subst (λ bs. IsAmong (ObjectMade a (K.object (length s.things)) x (map (λ b. b.bound) bs) stamps) lines) parts.0 (among_last s.happened _))),
      ))

  object_good : (a node : ℕ) (x : Words) (caught : List (Binding N)) (stamps : List (Value N)) (s : Vat N) → Good K E s → let u : Vat N = record s { things = s.things ++ Made node caught stamps ∷ [] } in let l : Happened N = ObjectMade a (K.object (length s.things)) x (map (λ b. b.bound) caught) stamps in
      Then K E s l → LineWell K (held K E u) u.happened l → Good K E (with_line u l)
  unfolding tell
  object_good a node x caught stamps s g tw w = let u : Vat N = record s { things = s.things ++ Made node caught stamps ∷ [] } in let l : Happened N = ObjectMade a (K.object (length s.things)) x (map (λ b. b.bound) caught) stamps in
      good_block K E s (with_line u l) l refl (refl, refl, refl, refl, refl, refl) tt (grows_thing K E a s (Made node caught stamps)).grown w tt tw
      (λ i view q. inl (old_audition s.things i node caught stamps view (get_or_last s.things (Made node caught stamps) (Audition true view) i q)))
      (λ i p q. inl (old_thing K E a s.things (Made node caught stamps) (Resolver p) i (no_resolver node caught stamps p) (get_or_last s.things (Made node caught stamps) (Resolver p) i q)))
      (λ i m cs ys q. object_told a node x caught stamps s i m cs ys (get_or_last s.things (Made node caught stamps) (Made m cs ys) i q)) (λ i c q. inl q)
      (λ q. subst (λ n. Rises (length E.things) (map (thing_made K) (s.happened ++ l ∷ [])) n) (sym (length_end s.things (Made node caught stamps))) (rises_new (thing_made K) (length E.things) (length s.things) s.happened l (ap own_number (spots (length s.things))) q))
      (rises_line slot_made (length E.slots) (length s.slots) s.happened l refl) (adds_line list_made E.start.vat.lists s.lists s.happened l refl) g

  object_ends : (a : ℕ) (node : ℕ) (p : Option Node) (xs : List Words) (stamps : List (Value N)) (here : Scope N) (s : Vat N) → Good K E s → here.act ≡ a → AllOf (NounKnown K E a s) here.nouns → served (opens s) ≡ None → AllOf (Knew K E s a) stamps
      → Ends K E a answer s (calls.object_as K tree node p xs stamps (K.object (length s.things)) here s)
  unfolding calls.object_as calls.object_in calls.object_made new_thing ◌>>◌ and_then
  object_ends a node p xs stamps here s g e nouns o h = let me : N = K.object (length s.things) in let after : Scope N = scopes.named p (Ref me) here in let caught : List (Binding N) = scopes.captures after xs in
      let u : Vat N = record s { things = s.things ++ Made node caught stamps ∷ [] } in let r : Grows K E s u = grows_thing K E a s (Made node caught stamps) in let q : Passes K E a s u = (r, refl) in
      let owned : AllOf (NounOwn a u me) after.nouns = named_own a u me p here (all_map (NounKnown K E a s) (NounOwn a u me) (λ b k. own_known a u me b.bound (holds_up K E a s u r (IsBound b.bound) tt k)) here.nouns nouns) in
      let then_owned : AllOf (NounOwn a s me) after.nouns = named_own a s me p here (all_map (NounKnown K E a s) (NounOwn a s me) (λ b k. own_known a s me b.bound k) here.nouns nouns) in
      widen K E a answer s u _ q (made_ends a me (scopes.name_of p) caught stamps after u here.act (named_act p (Ref me) here ∙ e) e (object_good a node (scopes.name_of p) caught stamps s g (made_then a (length s.things) (scopes.name_of p) caught stamps s (caught_own a s me after xs then_owned) h)) owned (caught_own a u me after xs owned) o (holds_up K E a s u r (AreValues stamps) tt h))

  object_after : {a : ℕ} {C : Fact N} (node : ℕ) (p : Option Node) (xs : List Words) (stamps : List (Value N)) (here : Scope N) → Gets K E a C (IsScope here) → Gets K E a C (AreValues stamps)
      → Fine K E a C (look (λ s. length s.things) >>= (λ n. calls.object_as K tree node p xs stamps (K.object n) here)) answer
  unfolding ◌>>=◌ look and_then
  object_after {a = a} node p xs stamps here g i = record { after = λ s h c. let w = g.at s c in object_ends a node p xs stamps here s h w.0 w.1 w.2 (i.at s c) }

  fine_make_object : {a : ℕ} {C : Fact N} → (again : Caller N) → GoodCaller K E a again → (node : ℕ) → (p : Option Node) → (xs : List Words) → (auditors : List (Value N)) → Gets K E a C (AreValues auditors) → (here : Scope N) → Gets K E a C (IsScope here) → Fine K E a C (calls.make_object K tree again node p xs auditors here) answer
  unfolding calls.make_object
  fine_make_object {a = a} {C = C} again h node p xs auditors g here k = fine_bind K E a AreValues (fine_ask_all K E spots tree again h here.act (got_act K E a C here k) (calls.view_of K tree node p xs here) (got_judging K E a tree C node p xs here k) auditors g)
      (λ stamps. object_after node p xs stamps here (got_left K E a C (AreValues stamps) (IsScope here) k) (got K E a C (AreValues stamps)))

  pub fine_all_of : {a : ℕ} {C : Fact N} → (rec : Evaluator N) → GoodEvaluator K E rec → (es : List ℕ) → (here : Scope N) → Gets K E a C (IsScope here) → Fine K E a C (eval.all_of K tree rec es here) answers
  unfolding eval.all_of
  fine_all_of {a = a} {C = C} rec g_rec [] here g_here = search (fine) depth 30
  fine_all_of {a = a} {C = C} rec g_rec (e ∷ es) here g_here = let rest : (D : Fact N) (next : Scope N) → Gets K E a D (IsScope next) → Fine K E a D (eval.all_of K tree rec es next) answers = λ D next x. fine_all_of {C = D} rec g_rec es next x in search (fine, g_rec.expression) depth 30

  pub fine_last_of : {a : ℕ} {C : Fact N} → (rec : Evaluator N) → GoodEvaluator K E rec → (x : Answer N) → Gets K E a C (answer x) → (es : List ℕ) → Fine K E a C (eval.last_of K tree rec x es) answer
  unfolding eval.last_of
  fine_last_of {a = a} {C = C} rec g_rec x g_x [] = search (fine) depth 30
  fine_last_of {a = a} {C = C} rec g_rec x g_x (e ∷ es) = let dn : Gets K E a C (IsScope x.scope) = record { at = λ s h. (g_x.at s h).1 } in let rest : (D : Fact N) (y : Answer N) → Gets K E a D (Also (IsValue y.value) (IsScope y.scope)) → Fine K E a D (eval.last_of K tree rec y es) answer = λ D y i. fine_last_of {C = D} rec g_rec y i es in search (fine, g_rec.expression) depth 30

  pub fine_exit_of : {a : ℕ} {C : Fact N} → (rec : Evaluator N) → GoodEvaluator K E rec → (o : Option ℕ) → (here : Scope N) → Gets K E a C (IsScope here) → Fine K E a C (eval.exit_of K tree rec o here) answer
  unfolding eval.exit_of
  fine_exit_of {a = a} {C = C} rec g_rec None here g_here = search (fine, fine_answered) depth 30
  fine_exit_of {a = a} {C = C} rec g_rec (Some j) here g_here = search (fine, g_rec.expression) depth 30

  fine_caught_by : {a : ℕ} {C : Fact N} (rec : Evaluator N) → GoodEvaluator K E rec → (j n : ℕ) → n ≡ j → (here : Scope N) → Gets K E a C (IsScope here) → (c : Option (ℕ × ℕ)) (v : Value N) → Gets K E a C (MadeEjector j) → Gets K E a C (WasHanded n v) → Fine K E a C (eval.caught_by K tree rec here c v) answer
  unfolding eval.caught_by
  fine_caught_by {a = a} {C = C} rec good j n e here g None v m w = then_got K E a spots here.act j n v (got_act K E a C here g) e m w (search (fine, fine_answered) depth 30)
  fine_caught_by {a = a} {C = C} rec good j n e here g (Some c) v m w = then_got K E a spots here.act j n v (got_act K E a C here g) e m w (search (fine, fine_answered, good.expression, good.pattern) depth 30)

  fine_escaped : {a : ℕ} {C : Fact N} (rec : Evaluator N) → GoodEvaluator K E rec → (j : ℕ) → Gets K E a C (MadeEjector j) → (here : Scope N) → Gets K E a C (IsScope here) → (c : Option (ℕ × ℕ)) (m : Act N (Answer N)) → Fine K E a C m answer → Fine K E a C (eval.escaped K tree rec j here c m) answer
  unfolding eval.escaped
  fine_escaped {a = a} {C = C} rec good j k here g c m h = let caught : (n : ℕ) (v : Value N) → Fine K E a (Also C (WasHanded n v)) (if n == j then eval.caught_by K tree rec here c v else eject n v) answer = λ n v. if_same K E a n j (λ e. fine_caught_by {C = Also C (WasHanded n v)} rec good j n e here (got_left K E a C (WasHanded n v) (IsScope here) g) c v (got_left K E a C (WasHanded n v) (MadeEjector j) k) (got K E a C (WasHanded n v))) (fine_eject K E a n v (got K E a C (WasHanded n v))) in search (fine, fine_leave, fine_answered) depth 30

  pub fine_handles : {a : ℕ} {C : Fact N} → (rec : Evaluator N) → GoodEvaluator K E rec → (p : ℕ) → (h : ℕ) → (here : Scope N) → Gets K E a C (IsScope here) → (t : Words) → Fine K E a C (eval.handles K tree rec p h here t) answer
  unfolding eval.handles
  fine_handles {a = a} {C = C} rec g_rec p h here g_here t = search (fine, fine_answered, g_rec.expression, g_rec.pattern) depth 30

  pub fine_tried : {a : ℕ} {C : Fact N} → (rec : Evaluator N) → GoodEvaluator K E rec → (p : ℕ) → (h : ℕ) → (here : Scope N) → Gets K E a C (IsScope here) → (m : Act N (Answer N)) → Fine K E a C m answer → Fine K E a C (eval.tried K tree rec p h here m) answer
  unfolding eval.tried
  fine_tried {a = a} {C = C} rec g_rec p h here g_here m g_m = search (fine, fine_answered, fine_handles) depth 30

  pub fine_at_last : {a : ℕ} {C : Fact N} → (rec : Evaluator N) → GoodEvaluator K E rec → (b : ℕ) → (here : Scope N) → Gets K E a C (IsScope here) → (m : Act N (Answer N)) → Fine K E a C m answer → Fine K E a C (eval.at_last K tree rec b here m) answer
  unfolding eval.at_last
  fine_at_last {a = a} {C = C} rec g_rec b here g_here m g_m = search (fine, fine_answered, g_rec.expression) depth 30

  pub fine_choose : {a : ℕ} {C : Fact N} → (rec : Evaluator N) → GoodEvaluator K E rec → (x : ℕ) → (y : ℕ) → (here : Scope N) → Gets K E a C (IsScope here) → (inner : Scope N) → Gets K E a C (IsScope inner) → (v : Value N) → Fine K E a C (eval.choose K tree rec x y here inner v) answer
  unfolding eval.choose
  fine_choose {a = a} {C = C} rec g_rec x y here g_here inner g_inner (Flag true) = search (fine, fine_answered, g_rec.expression) depth 30
  fine_choose {a = a} {C = C} rec g_rec x y here g_here inner g_inner other = search (fine, fine_answered, g_rec.expression) depth 30

  pub fine_unmatched_noun : {a : ℕ} {C : Fact N} → (act : ℕ) → Gets K E a C (IsAct act) → (b : Bool) → Fine K E a C (eval.unmatched_noun K tree act b) IsBound
  unfolding eval.unmatched_noun
  fine_unmatched_noun {a = a} {C = C} act g_act false = search (fine) depth 30
  fine_unmatched_noun {a = a} {C = C} act g_act true = search (fine) depth 30

  fine_unmatched : {a : ℕ} {C : Fact N} → (bs : List BoundNoun) → (here : Scope N) → Gets K E a C (IsScope here) → Fine K E a C (eval.unmatched K tree bs here) IsScope
  unfolding eval.unmatched
  fine_unmatched {a = a} {C = C} [] here g = fine_give K E a here g
  fine_unmatched {a = a} {C = C} (b ∷ bs) here g = fine_bind K E a IsBound (fine_unmatched_noun here.act (got_act K E a C here g) b.is_var) (λ n. fine_unmatched {C = Also C (IsBound n)} bs (scopes.with_noun b.noun n here) (got_with K E a (Also C (IsBound n)) b.noun n here (got K E a C (IsBound n)) (got_left K E a C (IsBound n) (IsScope here) g)))

  fine_not_matched : {a : ℕ} {C : Fact N} → (j n : ℕ) → n ≡ j → (p : ℕ) → (here : Scope N) → Gets K E a C (IsScope here) → (v : Value N) → Gets K E a C (MadeEjector j) → Gets K E a C (WasHanded n v) → Fine K E a C (eval.not_matched K tree p here v) answer
  unfolding eval.not_matched
  fine_not_matched {a = a} {C = C} j n e p here g v m w = then_got K E a spots here.act j n v (got_act K E a C here g) e m w (search (fine, fine_unmatched, fine_answered) depth 30)

  fine_match_ended : {a : ℕ} {C : Fact N} → (j : ℕ) → Gets K E a C (MadeEjector j) → (p : ℕ) → (here : Scope N) → Gets K E a C (IsScope here) → (m : Act N (Scope N)) → Fine K E a C m IsScope → Fine K E a C (eval.match_ended K tree j p here m) answer
  unfolding eval.match_ended
  fine_match_ended {a = a} {C = C} j k p here g m h = let caught : (n : ℕ) (v : Value N) → Fine K E a (Also C (WasHanded n v)) (if n == j then eval.not_matched K tree p here v else eject n v) answer = λ n v. if_same K E a n j (λ e. fine_not_matched {C = Also C (WasHanded n v)} j n e p here (got_left K E a C (WasHanded n v) (IsScope here) g) v (got_left K E a C (WasHanded n v) (MadeEjector j) k) (got K E a C (WasHanded n v))) (fine_eject K E a n v (got K E a C (WasHanded n v))) in search (fine, fine_leave, fine_answered) depth 30

  pub fine_write_cell : {a : ℕ} {C : Fact N} → (rec : Evaluator N) → GoodEvaluator K E rec → (act : ℕ) → Gets K E a C (IsAct act) → (k : ℕ) → Gets K E a C (IsSlot k) → (v : Value N) → Gets K E a C (IsValue v) → (o : Option (Cell N)) → Gets K E a C (MayCell k o) → Fine K E a C (eval.write_cell K tree rec act k v o) IsValue
  unfolding eval.write_cell
  fine_write_cell {a = a} {C = C} rec good act i k g v h None m = search (fine) depth 30
  fine_write_cell {a = a} {C = C} rec good act i k g v h (Some c) m = let d : Gets K E a C (IsGuard c.guard) = record { at = λ s b. (m.at s b).0 } in search (fine, fine_coerce, fine_call, fine_call_guard) depth 30

  pub fine_write_bound : {a : ℕ} {C : Fact N} → (rec : Evaluator N) → GoodEvaluator K E rec → (act : ℕ) → Gets K E a C (IsAct act) → (o : Option (Bound N)) → Gets K E a C (MayBound o) → (v : Value N) → Gets K E a C (IsValue v) → Fine K E a C (eval.write_bound K tree rec act o v) IsValue
  unfolding eval.write_bound
  fine_write_bound {a = a} {C = C} rec good act i (Some (Slot k)) h v g = let d : Gets K E a C (IsSlot k) = record { at = λ s b. h.at s b } in fine_bind K E a (MayCell k) (look_cell K E a k d)
      (λ c. fine_write_cell {C = Also C (MayCell k c)} rec good act (got_left K E a C (MayCell k c) (IsAct act) i) k (got_left K E a C (MayCell k c) (IsSlot k) d) v (got_left K E a C (MayCell k c) (IsValue v) g) c (got K E a C (MayCell k c)))
  fine_write_bound {a = a} {C = C} rec good act i _ h v g = search (fine) depth 30

  pub fine_guard_of : {a : ℕ} {C : Fact N} → (rec : Evaluator N) → GoodEvaluator K E rec → (o : Option ℕ) → (here : Scope N) → Gets K E a C (IsScope here) → Fine K E a C (eval.guard_of K tree rec o here) answer
  unfolding eval.guard_of
  fine_guard_of {a = a} {C = C} rec g_rec None here g_here = search (fine, fine_answered) depth 30
  fine_guard_of {a = a} {C = C} rec g_rec (Some g) here g_here = search (fine, fine_answered, g_rec.expression) depth 30

  pub fine_bind_list : {a : ℕ} {C : Fact N} → (rec : Evaluator N) → GoodEvaluator K E rec → (ps : List ℕ) → (j : Value N) → Gets K E a C (IsValue j) → (here : Scope N) → Gets K E a C (IsScope here) → (vs : List (Value N)) → Gets K E a C (AreValues vs) → Fine K E a C (eval.bind_list K tree rec ps j here vs) IsScope
  unfolding eval.bind_list
  fine_bind_list {a = a} {C = C} rec g_rec ps j g_j here g_here vs g_vs = search (fine, fine_bind_all, fine_failed, fine_call) depth 30

  pub fine_bind_items : {a : ℕ} {C : Fact N} → (rec : Evaluator N) → GoodEvaluator K E rec → (ps : List ℕ) → (j : Value N) → Gets K E a C (IsValue j) → (here : Scope N) → Gets K E a C (IsScope here) → (v : Value N) → Gets K E a C (IsValue v) → Fine K E a C (eval.bind_items K tree rec ps j here v) IsScope
  unfolding eval.bind_items
  fine_bind_items {a = a} {C = C} rec g_rec ps j g_j here g_here (Items k) g_v = search (fine, fine_bind_list) depth 30
  fine_bind_items {a = a} {C = C} rec g_rec ps j g_j here g_here _ g_v = search (fine, fine_failed, fine_call) depth 30

  -- what the nodes of the language are put together from: a node that is put together so too is no more text here
  ruleset nodes = (fine, fine_answered, fine_read_bound, fine_write_bound, fine_failed, fine_handed, fine_coerce, fine_leave, fine_bind_all, fine_call, fine_call_guard, fine_make_object, fine_all_of, fine_last_of, fine_exit_of, fine_caught_by, fine_escaped, fine_handles, fine_tried, fine_at_last, fine_choose, fine_unmatched, fine_not_matched, fine_match_ended, fine_guard_of, fine_bind_list, fine_bind_items)

  pub fine_step : {a : ℕ} {C : Fact N} → (rec : Evaluator N) → GoodEvaluator K E rec → (id : ℕ) → (n : Node) → (here : Scope N) → Gets K E a C (IsScope here) → Fine K E a C (eval.step K tree rec id n here) answer
  unfolding eval.step
  fine_step {a = a} {C = C} rec good id (Lit l) here g = search (nodes, good.expression, good.pattern) depth 30
  fine_step {a = a} {C = C} rec good id other here g = search (nodes, good.expression, good.pattern) depth 30

  pub fine_bind_step : {a : ℕ} {C : Fact N} → (rec : Evaluator N) → GoodEvaluator K E rec → (n : Node) → (v : Value N) → Gets K E a C (IsValue v) → (j : Value N) → Gets K E a C (IsValue j) → (here : Scope N) → Gets K E a C (IsScope here) → Fine K E a C (eval.bind_step K tree rec n v j here) IsScope
  unfolding eval.bind_step
  fine_bind_step {a = a} {C = C} rec good (Any o) v g j h here k = search (nodes, good.expression, good.pattern) depth 30
  fine_bind_step {a = a} {C = C} rec good other v g j h here k = search (nodes, good.expression, good.pattern) depth 30

  fine_bind_found : {a : ℕ} {C : Fact N} → (rec : Evaluator N) → GoodEvaluator K E rec → (o : Option Node) → (v : Value N) → Gets K E a C (IsValue v) → (j : Value N) → Gets K E a C (IsValue j) → (here : Scope N) → Gets K E a C (IsScope here) → Fine K E a C (eval.bind_found K tree rec o v j here) IsScope
  unfolding eval.bind_found
  fine_bind_found {a = a} rec good None v g j h here k = fine_stop K E a _
  fine_bind_found {a = a} rec good (Some n) v g j h here k = fine_bind_step rec good n v g j h here k

  fine_step_found : {a : ℕ} {C : Fact N} → (rec : Evaluator N) → GoodEvaluator K E rec → (id : ℕ) → (o : Option Node) → (here : Scope N) → Gets K E a C (IsScope here) → Fine K E a C (eval.step_found K tree rec id o here) answer
  unfolding eval.step_found
  fine_step_found {a = a} rec good id None here g = fine_stop K E a _
  fine_step_found {a = a} rec good id (Some n) here g = fine_step rec good id n here g

  good_deeper : (rec : Evaluator N) → GoodEvaluator K E rec → GoodEvaluator K E (eval.deeper K tree rec)
  unfolding eval.deeper
  good_deeper rec good = record {
    expression = λ a C id here g. then_unit K E a (fine_spend K E a 1) (fine_step_found rec good id (slice_get tree id) here g);
    pattern = λ a C id v g j h here k. then_unit K E a (fine_spend K E a 1) (fine_bind_found rec good (slice_get tree id) v g j h here k);
  }

  pub good_evaluator : (d : ℕ) → GoodEvaluator K E (eval.evaluator K tree d)
  unfolding eval.evaluator
  good_evaluator zero = record { expression = λ a C id here g. fine_stop K E a _; pattern = λ a C id v g j h here k. fine_stop K E a _ }
  good_evaluator (suc d) = good_deeper (eval.evaluator K tree d) (good_evaluator d)
