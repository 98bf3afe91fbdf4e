-- A turn, from the state in which its message is taken to that in which it ended: what holds of each state on the way that each act of evaluation keeps, and what follows where the answer is resolved, or breaks.
use Rattle.std.proofs.Common.{◌≡◌, ℕ, suc, ◌-◌, true, List, [], ◌∷◌, ◌++◌, Option, Some, None, refl, sym, subst}
use Rattle.std.proofs.lemmas.List.{append-nil}
use Rattle.std.specs.Prelude.{slice_get}
use Rattle.def_kernel.specs.declared.node.Node.{Node}
use Rattle.def_machine.specs.Values.{Words, Value, Broken, Name, Promise, Naming, naming, name_of}
use Rattle.def_machine.specs.State.{Cell, Thing, Scope, Message, Unsettled, Happened, Finished, Threw, Vat, Done, Gives, Throws, Ejects, Stops, Astray, Act, ◌>>=◌, ◌>>◌, and_then, end_by, ending, for_some, give, stop, tell, new_promise, begun, change, dead, holding}
use Rattle.def_machine.specs.Refs as refs
use Rattle.def_machine.specs.Refs.{standing_of}
use Rattle.def_machine.specs.Calls as calls
use Rattle.def_machine.specs.Eval as eval
use Rattle.def_run.specs.Draws.{draw_word}
use Rattle.def_run.specs.World.{Script, World}
use Rattle.law_machine.specs.Machine.Steps.{IsQuiet}
use Rattle.law_machine.proofs.Machine.Keeps.{Keeps, IsKept}
use Rattle.law_machine.proofs.Machine.RefsKeeps.{keeps_settle, keeps_resolve, keeps_send, keeps_send_only, keeps_react}
use Rattle.law_machine.proofs.Machine.RefsQuiet.{quiet_settle, quiet_resolve, quiet_send, quiet_send_only, quiet_react}
use Rattle.law_machine.proofs.Machine.StepLaws.{get_append}
use Rattle.law_fate.specs.Name.Names.{AllOf, Named, ValueOk, ValuesOk}
use Rattle.law_fate.proofs.Name.Facts.{Holds, Fact, Also, IsValue, AreValues, AreNouns, nothing}
use Rattle.law_fate.proofs.Name.Facts as facts
use Rattle.law_fate.proofs.Name.Care.{Care, TellsOfNone, Under, Makes, Sound, Gets, Ends, Fine, got_entry, fine_bind, fine_give, fine_promise}
use Rattle.law_fate.proofs.Name.CareEval.{GoodEvaluator, good_evaluator, fine_turn_value}
use Rattle.law_fate.proofs.Name.CareRefs.{fine_settle, fine_resolve, fine_send, fine_send_only, fine_react}
use Rattle.law_fate.proofs.Name.Run.{inside, low_at, Stands}
use Rattle.law_fate.proofs.Name.Serves.{HasResolver, Serves}
use Rattle.law_fate.proofs.Name.Tracked.{tracked, tracked_under, tracked_makes}
use Rattle.law_order.specs.Ordering.Settlings.{with_line}
use Rattle.law_order.proofs.Steady.Steady.{after_at}
use Rattle.law_order.proofs.TurnTales.Stays.{Stays, stays_kept, stays_under}
use Rattle.law_order.proofs.TurnTales.Still.{KeptStill, Still, with_still, without, still_of, joined, lift_of}
use Rattle.law_reference.proofs.Reference.CareMore.{Leaves}

-- where an act gives or stops
leaves_gives : {A : Type 0} (P : Vat Name → Type 0) (d : Done Name A) → IsQuiet d → ((a : A) (t : Vat Name) → d ≡ Gives a t → P t) → Leaves P d
leaves_gives P (Gives a t) q f = f a t refl
leaves_gives P (Throws p t) q f = absurd q
leaves_gives P (Ejects n y t) q f = absurd q
leaves_gives P (Stops c t) q f = tt

module _ (script : Script) (w : World) (v : ℕ) (r : Vat Name) (there : slice_get w.vats v ≡ Some r) (h : Stands script w) where
  abbrev pub word : ℕ → ℕ
  word = draw_word script.key

  abbrev pub K : Naming Name Name
  K = naming word v

  -- what is known of the names in hand
  abbrev pub T : Care Name
  T = tracked true (inside script) w.vats v r there (low_at script w h v r there)

  -- with other fuel, counts, things, slots and lists, and with those lines
  abbrev pub Aside : Vat Name → ℕ → List (Happened Name) → ℕ → List (Thing Name) → List (Cell Name) → List (List (Value Name)) → Vat Name
  Aside s fuel lines acts things slots lists = record s { fuel = fuel; happened = lines; activations = acts; things = things; slots = slots; lists = lists }

  abbrev pub Promised : Vat Name → Vat Name
  Promised s = record s { promises = suc s.promises; known = s.known ++ begun (Promise v s.promises) s.number ∷ [] }

  module _ (end : Vat Name) (Fit : Vat Name → Type 0) where
    abbrev Then : Vat Name → Type 0
    Then s = Stays K s end

    -- What holds of a state holds of the next, where all that was told and made stays to the end.
    pub record Acts : Type 0 where
      pub quietly : (s : Vat Name) (fuel : ℕ) (lines more : List (Happened Name)) (acts : ℕ) (things : List (Thing Name)) (slots : List (Cell Name)) (lists : List (List (Value Name))) → lines ≡ s.happened ++ more → AllOf TellsOfNone more → ((k : ℕ) (vs : List (Value Name)) → slice_get s.lists k ≡ Some vs → slice_get lists k ≡ Some vs)
          → Then (Aside s fuel lines acts things slots lists) → Fit s → Fit (Aside s fuel lines acts things slots lists)
      pub promised : (s : Vat Name) → Sound T s → Then (Promised s) → Fit s → Fit (Promised s)
      pub sent : (act : ℕ) (x : Value Name) (verb : Words) (args : List (Value Name)) (s t : Vat Name) (a : Value Name) → Sound T s → ValueOk (T.ok s) x → ValuesOk (T.ok s) args → refs.send K act x verb args s ≡ Gives a t → Then t → Fit s → Fit t
      pub sent_only : (act : ℕ) (x : Value Name) (verb : Words) (args : List (Value Name)) (s t : Vat Name) (a : Value Name) → Sound T s → ValueOk (T.ok s) x → ValuesOk (T.ok s) args → refs.send_only K act x verb args s ≡ Gives a t → Then t → Fit s → Fit t
      pub reacted : (act : ℕ) (x y near : Value Name) (s t : Vat Name) (a : Value Name) → Sound T s → ValueOk (T.ok s) x → ValueOk (T.ok s) y → ValueOk (T.ok s) near → refs.react K act x y near s ≡ Gives a t → Then t → Fit s → Fit t
      -- by a resolver of that promise, which did neither settle nor wait
      pub broken : (p : Name) (x : Words) (s t : Vat Name) → Sound T s → T.ok s (Named p) → HasResolver s p → standing_of K s.known p ≡ Unsettled → refs.settle K p (Broken x) s ≡ Gives tt t → Then s → Then t → Fit s → Fit t
      pub resolved : (p : Name) (y : Value Name) (s t : Vat Name) → Sound T s → T.ok s (Named p) → ValueOk (T.ok s) y → HasResolver s p → standing_of K s.known p ≡ Unsettled → refs.resolve K p y s ≡ Gives tt t → Then s → Then t → Fit s → Fit t

    module _ (acts : Acts) where
      -- ---- the care of a turn

      abbrev P : Vat Name → Type 0
      P s = Then s → Fit s

      kept : IsKept (Stays K)
      kept = stays_kept K

      stays_by : {A : Type 0} (m : Act Name A) → Keeps (Stays K) m → (s t : Vat Name) (a : A) → m s ≡ Gives a t → Stays K s t
      stays_by m k s t a e = after_at (Stays K) s (m s) a t e (k.after s)

      none_more : (s : Vat Name) → s.happened ≡ s.happened ++ []
      none_more s = sym (append-nil s.happened)

      still : KeptStill P
      still = record {
        fuel = λ s n o g. acts.quietly s (s.fuel - n) s.happened [] s.activations s.things s.slots s.lists (none_more s) tt (λ k vs e. e) g (o (kept.trans {s = s} {t = record s { fuel = s.fuel - n }} {u = end} (kept.fuel s n) g));
        told = λ s e q o g. acts.quietly s s.fuel (s.happened ++ e ∷ []) (e ∷ []) s.activations s.things s.slots s.lists refl (q, tt) (λ k vs i. i) g (o (kept.trans {s = s} {t = record s { happened = s.happened ++ e ∷ [] }} {u = end} (kept.happened s e) g));
        activations = λ s o g. acts.quietly s s.fuel s.happened [] (suc s.activations) s.things s.slots s.lists (none_more s) tt (λ k vs e. e) g (o (kept.trans {s = s} {t = record s { activations = suc s.activations }} {u = end} (kept.activations s) g));
        thing = λ s z o g. acts.quietly s s.fuel s.happened [] s.activations (s.things ++ z ∷ []) s.slots s.lists (none_more s) tt (λ k vs e. e) g (o (kept.trans {s = s} {t = record s { things = s.things ++ z ∷ [] }} {u = end} (kept.thing s z) g));
        killed = λ s n o g. acts.quietly s s.fuel s.happened [] s.activations (change dead n s.things) s.slots s.lists (none_more s) tt (λ k vs e. e) g (o (kept.trans {s = s} {t = record s { things = change dead n s.things }} {u = end} (kept.killed s n) g));
        slot = λ s c o g. acts.quietly s s.fuel s.happened [] s.activations s.things (s.slots ++ c ∷ []) s.lists (none_more s) tt (λ k vs e. e) g (o (kept.trans {s = s} {t = record s { slots = s.slots ++ c ∷ [] }} {u = end} (kept.slot s c) g));
        written = λ s n y o g. acts.quietly s s.fuel s.happened [] s.activations s.things (change (holding y) n s.slots) s.lists (none_more s) tt (λ k vs e. e) g (o (kept.trans {s = s} {t = record s { slots = change (holding y) n s.slots }} {u = end} (kept.written s n y) g));
        list = λ s ys o g. acts.quietly s s.fuel s.happened [] s.activations s.things s.slots (s.lists ++ ys ∷ []) (none_more s) tt (λ k vs e. get_append s.lists (ys ∷ []) k vs e) g (o (kept.trans {s = s} {t = record s { lists = s.lists ++ ys ∷ [] }} {u = end} (kept.list s ys) g));
      }

      abbrev V : Care Name
      V = Still T P still

      law : Under K T
      law = tracked_under true (inside script) w.vats v r there (low_at script w h v r there) word

      makes : Makes K T
      makes = tracked_makes (inside script) w.vats v r there (low_at script w h v r there) word

      gets : {C F : Fact Name} → Gets V C F → Gets T C F
      gets g = record { at = λ t c. g.at t c }

      back : {A : Type 0} (m : Act Name A) → Keeps (Stays K) m → (s t : Vat Name) (a : A) → m s ≡ Gives a t → Then t → Then s
      back m k s t a e g = kept.trans {s = s} {t = t} {u = end} (stays_by m k s t a e) g

      promise_leaves : (s : Vat Name) → Sound T s → P s → Leaves P (new_promise K s)
      unfolding new_promise naming name_of
      promise_leaves s sound o g = acts.promised s sound g (o (kept.trans {s = s} {t = Promised s} {u = end} ((stays_under K).promised s) g))

      serves : Serves K V
      serves = record {
        spots = record { alike = λ a b e. let spots = law.spots in spots.alike a b e; placed = λ t m n i. let spots = law.spots in spots.placed t m.0 n i };
        object = λ t i l. law.object t i l;
        promises = λ C. lift_of T P still (fine_promise K T law makes) (λ s sound c o. promise_leaves s sound o);
        smashes = λ C p g x s sound c has u. joined T P still nothing s (refs.settle K p (Broken x) s) ((fine_settle K T law p (got_entry T C p (gets g)) (Broken x) (record { at = λ z d. tt })).after s (without T P still s sound) c)
            (leaves_gives P (refs.settle K p (Broken x) s) ((quiet_settle K p (Broken x)).after s) (λ a t e f. let b = back (refs.settle K p (Broken x)) (keeps_settle K (Stays K) kept (stays_under K) p (Broken x)) s t a e f in acts.broken p x s t (without T P still s sound) (g.at s c) has u e b f (still_of T P still s sound b)));
        resolves = λ C p g y i s sound c has u. joined T P still nothing s (refs.resolve K p y s) ((fine_resolve K T law p (got_entry T C p (gets g)) y (gets i)).after s (without T P still s sound) c)
            (leaves_gives P (refs.resolve K p y s) ((quiet_resolve K p y).after s) (λ a t e f. let b = back (refs.resolve K p y) (keeps_resolve K (Stays K) kept (stays_under K) p y) s t a e f in acts.resolved p y s t (without T P still s sound) (g.at s c) (i.at s c) has u e b f (still_of T P still s sound b)));
        sends = λ C act x g verb args i. lift_of T P still (fine_send K T law makes act x (gets g) verb args (gets i)) (λ s sound c o. leaves_gives P (refs.send K act x verb args s) ((quiet_send K act x verb args).after s)
            (λ a t e f. acts.sent act x verb args s t a sound (g.at s c) (i.at s c) e f (o (back (refs.send K act x verb args) (keeps_send K (Stays K) kept (stays_under K) act x verb args) s t a e f))));
        sends_only = λ C act x g verb args i. lift_of T P still (fine_send_only K T law makes act x (gets g) verb args (gets i)) (λ s sound c o. leaves_gives P (refs.send_only K act x verb args s) ((quiet_send_only K act x verb args).after s)
            (λ a t e f. acts.sent_only act x verb args s t a sound (g.at s c) (i.at s c) e f (o (back (refs.send_only K act x verb args) (keeps_send_only K (Stays K) kept (stays_under K) act x verb args) s t a e f))));
        reacts = λ C act x g y i near j. lift_of T P still (fine_react K T law makes act x (gets g) y (gets i) near (gets j)) (λ s sound c o. leaves_gives P (refs.react K act x y near s) ((quiet_react K act x y near).after s)
            (λ a t e f. acts.reacted act x y near s t a sound (g.at s c) (i.at s c) (j.at s c) e f (o (back (refs.react K act x y near) (keeps_react K (Stays K) kept (stays_under K) act x y near) s t a e f))));
      }

      -- ---- the end of a turn

      module _ (answer : Option Name) (Ended : Type 0) where
        pub record Closes : Type 0 where
          pub closed : (act : ℕ) (p : Name) (y : Value Name) (s : Vat Name) → answer ≡ Some p → Sound T s → T.ok s (Named p) → ValueOk (T.ok s) y → refs.resolve K p y (with_line s (Finished act y)) ≡ Gives tt end → Then (with_line s (Finished act y)) → Fit s → Ended
          pub failed : (act : ℕ) (p : Name) (x : Words) (s : Vat Name) → answer ≡ Some p → Sound T s → T.ok s (Named p) → refs.settle K p (Broken x) (with_line s (Threw act x)) ≡ Gives tt end → Then (with_line s (Threw act x)) → Fit s → Ended
          pub unasked : (e : Happened Name) (s : Vat Name) → answer ≡ None → TellsOfNone e → with_line s e ≡ end → Fit s → Ended

        module _ (closes : Closes) where
          abbrev Answered : Vat Name → Type 0
          Answered s = (p : Name) → answer ≡ Some p → T.ok s (Named p)

          line_then : (s : Vat Name) (e : Happened Name) → Stays K (with_line s e) end → Stays K s end
          line_then s e g = kept.trans {s = s} {t = with_line s e} {u = end} (kept.happened s e) g

          finished : (act : ℕ) (y : Value Name) (s : Vat Name) → Sound V s → Answered s → ValueOk (T.ok s) y → (o : Option Name) → answer ≡ o → (tell (Finished act y) >> for_some o (λ p. refs.resolve K p y) (give tt)) s ≡ Gives tt end → Ended
          unfolding tell ◌>>◌ and_then for_some give
          finished act y s sound named ok (Some p) is e = let g = stays_by (refs.resolve K p y) (keeps_resolve K (Stays K) kept (stays_under K) p y) (with_line s (Finished act y)) end tt e in
              closes.closed act p y s is (without T P still s sound) (named p is) ok e g (still_of T P still s sound (line_then s (Finished act y) g))
          finished act y s sound named ok None is e = let same : with_line s (Finished act y) ≡ end = cc in closes.unasked (Finished act y) s is tt same (still_of T P still s sound (subst (λ z. Stays K s z) same (kept.happened s (Finished act y))))

          threw : (act : ℕ) (x : Words) (s : Vat Name) → Sound V s → Answered s → (o : Option Name) → answer ≡ o → (tell (Threw act x) >> for_some o (λ p. refs.settle K p (Broken x)) (give tt)) s ≡ Gives tt end → Ended
          unfolding tell ◌>>◌ and_then for_some give
          threw act x s sound named (Some p) is e = let g = stays_by (refs.settle K p (Broken x)) (keeps_settle K (Stays K) kept (stays_under K) p (Broken x)) (with_line s (Threw act x)) end tt e in
              closes.failed act p x s is (without T P still s sound) (named p is) e g (still_of T P still s sound (line_then s (Threw act x) g))
          threw act x s sound named None is e = let same : with_line s (Threw act x) ≡ end = cc in closes.unasked (Threw act x) s is tt same (still_of T P still s sound (subst (λ z. Stays K s z) same (kept.happened s (Threw act x))))

          answered_on : (s t : Vat Name) → T.rel s t → Answered s → Answered t
          answered_on s t up f p is = T.up s t up (Named p) (f p is)

          ended_by : (act : ℕ) (s : Vat Name) → Answered s → (d : Done Name (Value Name)) → Ends V IsValue s d
              → end_by (λ y. tell (Finished act y) >> for_some answer (λ p. refs.resolve K p y) (give tt)) (λ x. tell (Threw act x) >> for_some answer (λ p. refs.settle K p (Broken x)) (give tt)) (λ n y. stop Astray) d ≡ Gives tt end → Ended
          unfolding end_by stop
          ended_by act s named (Gives y t) k e = finished act y t k.1 (answered_on s t k.0 named) k.2 answer refl e
          ended_by act s named (Throws x t) k e = threw act x t k.1 (answered_on s t k.0 named) answer refl e
          ended_by act s named (Ejects n y t) k e = cc
          ended_by act s named (Stops c t) k e = cc

          module _ (tree : List Node) (depth act : ℕ) (s : Vat Name) (sound : Sound T s) (fit : Fit s) (named : Answered s) where
            start : Sound V s
            start = with_still T P still s sound (λ g. fit)

            -- from where the message is taken
            pub turn_ends : (m : Message Name) → ValueOk (T.ok s) m.target → ValuesOk (T.ok s) m.args → eval.closes K tree act answer (calls.turn_value K tree (eval.evaluator K tree depth) act m.target m.verb m.args) s ≡ Gives tt end → Ended
            unfolding eval.closes ending
            turn_ends m x xs e = ended_by act s named (calls.turn_value K tree (eval.evaluator K tree depth) act m.target m.verb m.args s)
                ((fine_turn_value K V serves tree {C = Also (IsValue m.target) (AreValues m.args)} (eval.evaluator K tree depth) (good_evaluator K V serves tree depth) act m.target (record { at = λ z c. c.0 }) m.verb m.args (record { at = λ z c. c.1 })).after s start (x, xs)) e

            -- from where the opening begins
            pub opening_ends : (given : Scope Name) → Holds (T.ok s) (AreNouns given.nouns) → eval.closes K tree act answer ((eval.evaluator K tree depth).expression 0 given >>= (λ x. give x.value)) s ≡ Gives tt end → Ended
            unfolding eval.closes ending
            opening_ends given ok e = ended_by act s named (((eval.evaluator K tree depth).expression 0 given >>= (λ x. give x.value)) s) ((opened given).after s start ok) e
              where
                opened : (given : Scope Name) → Fine V (AreNouns given.nouns) ((eval.evaluator K tree depth).expression 0 given >>= (λ x. give x.value)) IsValue
                opened given = let good : GoodEvaluator V (eval.evaluator K tree depth) = good_evaluator K V serves tree depth in
                    fine_bind V facts.answer (good.expression (AreNouns given.nouns) 0 given (record { at = λ z c. c })) (λ x. fine_give V x.value (record { at = λ z c. c.1.0 }))
