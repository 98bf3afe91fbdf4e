-- The rules by which evaluation is gone over.
use Rattle.std.proofs.Common.{◌≡◌, ◌≤◌, ℕ, Bool, true, false, List, [], ◌∷◌, ◌++◌, Option, None, if◌then◌else◌, refl, ap, ◌∙◌, subst, map, inl, inr, suc, length, ◌==◌, Some}
use Rattle.std.proofs.lemmas.Bool.{eqb-true}
use Rattle.def_machine.specs.Values.{Words, Value, Ref, Naming, Own, Null, IsOwn}
use Rattle.def_machine.specs.State.{Bound, Fixed, Slot, Binding, Scope, Thing, Ejector, Resolver, Message, Standing, Happened, Called, Back, Thrown, Left, Got, EjectorMade, PromiseMade, Sends, Reacts, Vat, Done, Gives, Throws, Ejects, Stops, Act, ◌>>=◌, ◌>>◌, and_then, end_by, ending, give, throw, eject, tell, new_thing, new_promise, begun}
use Rattle.def_machine.specs.Refs as refs
use Rattle.def_machine.specs.Refs.{Place, settle, resolve}
use Rattle.def_machine.specs.Native.{Reply}
use Rattle.def_machine.specs.Scopes as scopes
use Rattle.def_machine.specs.Scopes.{Answer, Answers}
use Rattle.def_machine.specs.Calls as calls
use Rattle.def_kernel.specs.declared.node.Node.{Node}
use Rattle.law_uses.specs.Connectivity.Known as known
use Rattle.law_uses.specs.Connectivity.Known.{Item, AValue, AGuard, ASlot, IsAmong, AllOf, tells, by, parts_of, parts_of_all}
use Rattle.law_uses.specs.Connectivity.Connected.{Open, without_first, served, unless_begun, open_after, LineWell, GivenBack, callee, uses, itself}
use Rattle.law_uses.proofs.Connectivity.Traces.{among_last}
use Rattle.law_uses.specs.Connectivity.Settlings.{sent}
use Rattle.law_uses.proofs.Connectivity.Causes.{steady_promise, steady_message, steady_lone_message}
use Rattle.law_uses.proofs.Connectivity.RefsCauses.{settles_well, resolves_well, sends_first, steady_react_at}
use Rattle.law_uses.specs.Connectivity.News.{own_number}
use Rattle.law_uses.proofs.Connectivity.Idle.{idle_promise, idle_message, idle_lone_message}
use Rattle.law_uses.proofs.Connectivity.RefsIdle.{idle_settle, idle_resolve, idle_send_first, idle_react_at}
use Rattle.law_uses.proofs.Connectivity.Ground.{Ground, opens, with_line, opens_last, held, Has, Knew, Grows, Good, grows_line, grows_trans, good_line}
use Rattle.law_uses.proofs.Connectivity.Fine.{Fact, Nothing, Also, IsAct, IsValue, IsCallee, AreValues, IsBound, IsScope, MayValue, MadeEjector, WasHanded, WasCalled, MayGive, IsReply, answer, answers, nothing, BoundKnown, NounKnown, Handed, Holds, Gets, Keeps, Passes, Ends, Fine, holds_up, still_holds, handed_up, widen, fine_bind, fine_less, fine_then, fine_ending, fine_some, fine_some_name, fine_if, fine_give, fine_throw, fine_eject, fine_stop, fine_look, act_is, then_line, thing_block, uses_values, is_told, fine_left, fine_spend, fine_kill, bind_slot, bind_list, then_read, then_wrote, fine_idle, fine_steady, Leads, IsPlaced, IsLine, GivenTo, MaySettle}
use Rattle.law_uses.proofs.Connectivity.Looks.{got, got_left, got_right, got_itself, got_both, got_nothing, got_guard, got_null, got_flag, got_number, got_text, got_prim, got_none, got_more, got_no_lists, got_lists, got_act, got_with, got_fixed, got_slot, got_any, got_no_match, got_literal, got_safe, got_bound_in, got_asked, got_audition_ask, got_may_give, got_item, got_stamp, look_follow, look_leads, look_place, look_list, look_cell, look_data, look_range, look_compared, look_null_or, look_taken, look_same, look_broken, look_thrown, look_test}

module _ {N W : Type 0} (K : Naming N W) (E : Ground N W) (a : ℕ) where
  -- ---- by what is given

  pub then_unit : {B : Type 0} {C : Fact N} {m : Act N (Unit {0})} {n : Act N B} {H : B → Fact N} → Fine K E a C m nothing → Fine K E a C n H → Fine K E a C (m >> n) H
  then_unit h k = fine_then K E a nothing h k

  pub then_value : {B : Type 0} {C : Fact N} {m : Act N (Value N)} {n : Act N B} {H : B → Fact N} → Fine K E a C m IsValue → Fine K E a C n H → Fine K E a C (m >> n) H
  then_value h k = fine_then K E a IsValue h k

  pub then_answer : {B : Type 0} {C : Fact N} {m : Act N (Answer N)} {n : Act N B} {H : B → Fact N} → Fine K E a C m answer → Fine K E a C n H → Fine K E a C (m >> n) H
  then_answer h k = fine_then K E a answer h k

  pub bind_number : {B : Type 0} {C : Fact N} {m : Act N ℕ} {f : ℕ → Act N B} {H : B → Fact N} → Fine K E a C m nothing → ((x : ℕ) → Fine K E a C (f x) H) → Fine K E a C (m >>= f) H
  bind_number h k = fine_less K E a nothing h k

  pub bind_name : {B : Type 0} {C : Fact N} {m : Act N N} {f : N → Act N B} {H : B → Fact N} → Fine K E a C m nothing → ((x : N) → Fine K E a C (f x) H) → Fine K E a C (m >>= f) H
  bind_name h k = fine_less K E a nothing h k

  pub bind_flag : {B : Type 0} {C : Fact N} {m : Act N Bool} {f : Bool → Act N B} {H : B → Fact N} → Fine K E a C m nothing → ((x : Bool) → Fine K E a C (f x) H) → Fine K E a C (m >>= f) H
  bind_flag h k = fine_less K E a nothing h k

  pub bind_place : {B : Type 0} {C : Fact N} {m : Act N (Place N)} {f : Place N → Act N B} {H : B → Fact N} → Fine K E a C m nothing → ((x : Place N) → Fine K E a C (f x) H) → Fine K E a C (m >>= f) H
  bind_place h k = fine_less K E a nothing h k

  pub bind_standing : {B : Type 0} {C : Fact N} {m : Act N (Standing N)} {f : Standing N → Act N B} {H : B → Fact N} → Fine K E a C m nothing → ((x : Standing N) → Fine K E a C (f x) H) → Fine K E a C (m >>= f) H
  bind_standing h k = fine_less K E a nothing h k

  pub bind_value : {B : Type 0} {C : Fact N} {m : Act N (Value N)} {f : Value N → Act N B} {H : B → Fact N} → Fine K E a C m IsValue → ((x : Value N) → Fine K E a (Also C (IsValue x)) (f x) H) → Fine K E a C (m >>= f) H
  bind_value h k = fine_bind K E a IsValue h k

  pub bind_values : {B : Type 0} {C : Fact N} {m : Act N (List (Value N))} {f : List (Value N) → Act N B} {H : B → Fact N} → Fine K E a C m AreValues → ((x : List (Value N)) → Fine K E a (Also C (AreValues x)) (f x) H) → Fine K E a C (m >>= f) H
  bind_values h k = fine_bind K E a AreValues h k

  pub bind_scope : {B : Type 0} {C : Fact N} {m : Act N (Scope N)} {f : Scope N → Act N B} {H : B → Fact N} → Fine K E a C m IsScope → ((x : Scope N) → Fine K E a (Also C (IsScope x)) (f x) H) → Fine K E a C (m >>= f) H
  bind_scope h k = fine_bind K E a IsScope h k

  pub bind_answer : {B : Type 0} {C : Fact N} {m : Act N (Answer N)} {f : Answer N → Act N B} {H : B → Fact N} → Fine K E a C m answer → ((x : Answer N) → Fine K E a (Also C (Also (IsValue x.value) (IsScope x.scope))) (f x) H) → Fine K E a C (m >>= f) H
  bind_answer h k = fine_bind K E a answer h k

  pub bind_answers : {B : Type 0} {C : Fact N} {m : Act N (Answers N)} {f : Answers N → Act N B} {H : B → Fact N} → Fine K E a C m answers → ((x : Answers N) → Fine K E a (Also C (Also (AreValues x.values) (IsScope x.scope))) (f x) H) → Fine K E a C (m >>= f) H
  bind_answers h k = fine_bind K E a answers h k

  pub bind_may_value : {B : Type 0} {C : Fact N} {m : Act N (Option (Value N))} {f : Option (Value N) → Act N B} {H : B → Fact N} → Fine K E a C m MayValue → ((x : Option (Value N)) → Fine K E a (Also C (MayValue x)) (f x) H) → Fine K E a C (m >>= f) H
  bind_may_value h k = fine_bind K E a MayValue h k

  pub bind_reply : {B : Type 0} {C : Fact N} {m : Act N (Reply N)} {f : Reply N → Act N B} {H : B → Fact N} → Fine K E a C m IsReply → ((x : Reply N) → Fine K E a (Also C (IsReply x)) (f x) H) → Fine K E a C (m >>= f) H
  bind_reply h k = fine_bind K E a IsReply h k

  pub bind_bound : {B : Type 0} {C : Fact N} {m : Act N (Bound N)} {f : Bound N → Act N B} {H : B → Fact N} → Fine K E a C m IsBound → ((x : Bound N) → Fine K E a (Also C (IsBound x)) (f x) H) → Fine K E a C (m >>= f) H
  bind_bound h k = fine_bind K E a IsBound h k

  pub end_scope : {B : Type 0} {C : Fact N} {m : Act N (Scope N)} {f : Scope N → Act N B} {k : Words → Act N B} {l : ℕ → Value N → Act N B} {H : B → Fact N} → Fine K E a C m IsScope
      → ((x : Scope N) → Fine K E a (Also C (IsScope x)) (f x) H) → ((p : Words) → Fine K E a C (k p) H) → ((n : ℕ) (v : Value N) → Fine K E a (Also C (WasHanded n v)) (l n v) H) → Fine K E a C (ending f k l m) H
  end_scope h x y z = fine_ending K E a IsScope h x y z

  pub end_answer : {B : Type 0} {C : Fact N} {m : Act N (Answer N)} {f : Answer N → Act N B} {k : Words → Act N B} {l : ℕ → Value N → Act N B} {H : B → Fact N} → Fine K E a C m answer
      → ((x : Answer N) → Fine K E a (Also C (Also (IsValue x.value) (IsScope x.scope))) (f x) H) → ((p : Words) → Fine K E a C (k p) H) → ((n : ℕ) (v : Value N) → Fine K E a (Also C (WasHanded n v)) (l n v) H) → Fine K E a C (ending f k l m) H
  end_answer h x y z = fine_ending K E a answer h x y z

  -- ---- references

  pub fine_settle : {C : Fact N} (p : N) (y : Value N) → Gets K E a C (MaySettle p y) → Fine K E a C (settle K p y) nothing
  fine_settle p y g = fine_idle K E a (idle_settle K p y) (λ s h c. settles_well K E.start p y s h (g.at s c))

  pub fine_resolve : {C : Fact N} (p : N) (x : Value N) → Gets K E a C (GivenTo p x) → Fine K E a C (resolve K p x) nothing
  fine_resolve p x g = fine_idle K E a (idle_resolve K p x) (λ s h c. resolves_well K E.start p x s h (g.at s c))

  pub fine_promise : {C : Fact N} → Fine K E a C (new_promise K) nothing
  fine_promise = fine_steady K E a (idle_promise K) (steady_promise K E.start)

  -- the promise that a vat makes is its own, of a new number
  abbrev pub IsNewPromise : N → Type 0
  IsNewPromise p = (i k : ℕ) × (p ≡ K.made (IsOwn i) k) × (E.start.vat.promises ≤ i) × (length E.start.vat.known ≤ k)

  pub own_promise : {B : Type 0} {C : Fact N} {f : N → Act N B} {H : B → Fact N} → ((p : N) → IsNewPromise p → Fine K E a C (f p) H) → Fine K E a C (new_promise K >>= f) H
  unfolding new_promise ◌>>=◌ and_then
  own_promise {C = C} {f = f} {H = H} h = record {
    after = λ s g c. let p : N = K.made (IsOwn s.promises) (length s.known) in let t : Vat N = record s { promises = suc s.promises; known = s.known ++ begun p s.number ∷ [] } in let made = (fine_promise {C = C}).after s g c in
        widen K E a H s t (f p t) made.0 ((h p (s.promises, length s.known, refl, g.causes.promises, g.causes.names)).after t made.1 (still_holds K E a s t made.0 C c));
  }

  sends_now : {B : Type 0} {C : Fact N} (m : Message N) (n : N) → m.answer ≡ Some n → {k : Act N B} {H : B → Fact N} → Gets K E a C (IsValue m.target) → Gets K E a C (AreValues m.args) → Fine K E a (Also C (Also (IsValue (Ref n)) (IsLine (Sends a m)))) k H → Fine K E a C (tell (Sends a m) >> k) H
  unfolding uses by tells known.answers open_after itself
  sends_now m n e g i h = then_line K E a (Sends a m) refl refl refl (λ so. tt) tt (λ s. refl) (λ s o c. (uses_values K E a s [] (m.target ∷ m.args) (g.at s c, i.at s c), tt)) (λ s c. tt) (λ s c. (is_told K E a s (Sends a m) (AValue (Ref n)) (rw e (inl refl)), among_last s.happened (Sends a m))) h

  sends_lone : {B : Type 0} {C : Fact N} (m : Message N) {k : Act N B} {H : B → Fact N} → Gets K E a C (IsValue m.target) → Gets K E a C (AreValues m.args) → Fine K E a C k H → Fine K E a C (tell (Sends a m) >> k) H
  unfolding uses by open_after itself
  sends_lone m g i h = then_line K E a {D = Nothing} (Sends a m) refl refl refl (λ so. tt) tt (λ s. refl) (λ s o c. (uses_values K E a s [] (m.target ∷ m.args) (g.at s c, i.at s c), tt)) (λ s c. tt) (λ s c. tt) (fine_left K E a h)

  then_sends_lone : {B : Type 0} {C : Fact N} (act : ℕ) (m : Message N) {k : Act N B} {H : B → Fact N} → Gets K E a C (IsAct act) → Gets K E a C (IsValue m.target) → Gets K E a C (AreValues m.args) → Fine K E a C k H → Fine K E a C (tell (Sends act m) >> k) H
  then_sends_lone act m {k = k} i g j h = act_is K E a act (λ b. tell (Sends b m) >> k) i (sends_lone m g j h)

  then_sends : {B : Type 0} {C : Fact N} (act : ℕ) (m : Message N) (n : N) → m.answer ≡ Some n → {k : Act N B} {H : B → Fact N} → Gets K E a C (IsAct act) → Gets K E a C (IsValue m.target) → Gets K E a C (AreValues m.args) → Fine K E a (Also C (Also (IsValue (Ref n)) (IsLine (Sends a m)))) k H → Fine K E a C (tell (Sends act m) >> k) H
  then_sends act m n e {k = k} i g j h = act_is K E a act (λ b. tell (Sends b m) >> k) i (sends_now m n e g j h)

  pub fine_send : {C : Fact N} (act : ℕ) → Gets K E a C (IsAct act) → (x : Value N) → Gets K E a C (IsValue x) → (verb : Words) (args : List (Value N)) → Gets K E a C (AreValues args) → Fine K E a C (refs.send K act x verb args) IsValue
  unfolding refs.send
  fine_send {C = C} act i x g verb args h = fine_bind K E a (λ y. Also (IsValue y) (Leads x y)) (look_leads K E a x g) (λ y. fine_bind K E a (IsPlaced y) (look_place K E a y) (λ p. let D : Fact N = Also (Also C (Also (IsValue y) (Leads x y))) (IsPlaced y p) in
      fine_less K E a {C = D} nothing (fine_look K E a _) (λ v. fine_less K E a nothing (fine_steady K E a (idle_message K _) (steady_message K E.start _)) (λ new.
      then_sends act (record { id = new.0; target = x; verb = verb; args = args; answer = Some new.1 }) new.1 refl (record { at = λ s c. i.at s c.0.0 }) (record { at = λ s c. g.at s c.0.0 }) (record { at = λ s c. h.at s c.0.0 })
      (fine_then K E a nothing (fine_idle K E a (idle_send_first K _ y p) (λ s d c. sends_first K E.start _ y p c.0.1 s d (λ q e. (x, sent a (record { id = new.0; target = x; verb = verb; args = args; answer = Some new.1 }) c.1.1 e, c.0.0.1.1))))
      (fine_give K E a (Ref new.1) (record { at = λ s c. c.1.0 })))))))

  no_answer : (q : N) → None ≡ Some q → ⊥
  no_answer q e = cc

  pub fine_send_only : {C : Fact N} (act : ℕ) → Gets K E a C (IsAct act) → (x : Value N) → Gets K E a C (IsValue x) → (verb : Words) (args : List (Value N)) → Gets K E a C (AreValues args) → Fine K E a C (refs.send_only K act x verb args) IsValue
  unfolding refs.send_only
  fine_send_only {C = C} act i x g verb args h = fine_less K E a nothing (fine_look K E a _) (λ y. fine_bind K E a (IsPlaced y) (look_place K E a y) (λ p.
      fine_less K E a {C = Also C (IsPlaced y p)} nothing (fine_steady K E a (idle_lone_message K) (steady_lone_message K E.start)) (λ id.
      then_sends_lone act (record { id = id; target = x; verb = verb; args = args; answer = None }) (record { at = λ s c. i.at s c.0 }) (record { at = λ s c. g.at s c.0 }) (record { at = λ s c. h.at s c.0 })
      (fine_then K E a nothing (fine_idle K E a (idle_send_first K _ y p) (λ s d c. sends_first K E.start _ y p c.1 s d (λ q e. absurd (no_answer q e)))) (fine_give K E a Null (got_null K E a (Also C (IsPlaced y p))))))))

  reacts_now : {B : Type 0} {C : Fact N} (x o : Value N) (m : Message N) (n : N) → m.answer ≡ Some n → {k : Act N B} {H : B → Fact N} → Gets K E a C (IsValue x) → Gets K E a C (IsValue o) → Gets K E a C (Leads o m.target) → Fine K E a (Also C (IsValue (Ref n))) k H → Fine K E a C (tell (Reacts a x o m) >> k) H
  unfolding uses by tells known.answers open_after itself
  reacts_now x o m n e g i l h = then_line K E a (Reacts a x o m) refl refl refl (λ so. tt) tt (λ s. refl) (λ s q c. (uses_values K E a s [] (x ∷ o ∷ []) (g.at s c, (i.at s c, tt)), l.at s c)) (λ s c. tt) (λ s c. is_told K E a s (Reacts a x o m) (AValue (Ref n)) (rw e (inl refl))) h

  then_reacts : {B : Type 0} {C : Fact N} (act : ℕ) (x o : Value N) (m : Message N) (n : N) → m.answer ≡ Some n → {k : Act N B} {H : B → Fact N} → Gets K E a C (IsAct act) → Gets K E a C (IsValue x) → Gets K E a C (IsValue o) → Gets K E a C (Leads o m.target) → Fine K E a (Also C (IsValue (Ref n))) k H → Fine K E a C (tell (Reacts act x o m) >> k) H
  then_reacts act x o m n e {k = k} i g j l h = act_is K E a act (λ b. tell (Reacts b x o m) >> k) i (reacts_now x o m n e g j l h)

  pub fine_react : {C : Fact N} (act : ℕ) → Gets K E a C (IsAct act) → (x : Value N) → Gets K E a C (IsValue x) → (o : Value N) → Gets K E a C (IsValue o) → (near : Value N) → Gets K E a C (Leads o near) → Fine K E a C (refs.react K act x o near) IsValue
  unfolding refs.react refs.reaction
  fine_react {C = C} act i x g o h near l = fine_less K E a nothing (fine_look K E a _) (λ v. fine_less K E a nothing (fine_steady K E a (idle_message K v) (steady_message K E.start v)) (λ new.
      then_reacts act x o (refs.reaction K new.0 near x new.1) new.1 refl i g h l
      (fine_less K E a nothing (fine_look K E a _) (λ p. fine_then K E a nothing (fine_steady K E a (idle_react_at K _ p) (steady_react_at K E.start _ p)) (fine_give K E a (Ref new.1) (got K E a C (IsValue (Ref new.1))))))))

  -- ---- ejectors

  same_then : {B : Type 0} {C : Fact N} (n j : ℕ) (b : Bool) {m k : Act N B} {H : B → Fact N} → (n == j) ≡ b → (n ≡ j → Fine K E a C m H) → Fine K E a C k H → Fine K E a C (if b then m else k) H
  same_then n j true e h k = h (eqb-true n j e)
  same_then n j false e h k = k

  pub if_same : {B : Type 0} {C : Fact N} (n j : ℕ) {m k : Act N B} {H : B → Fact N} → (n ≡ j → Fine K E a C m H) → Fine K E a C k H → Fine K E a C (if n == j then m else k) H
  if_same n j h k = same_then n j (n == j) refl h k

  module _ (spots : (i : ℕ) → K.spot (K.object i) ≡ Own i) where
    got_now : {B : Type 0} {C : Fact N} (j : ℕ) (v : Value N) {m : Act N B} {H : B → Fact N} → Gets K E a C (MadeEjector j) → Gets K E a C (WasHanded j v) → Fine K E a (Also C (IsValue v)) m H → Fine K E a C (tell (Got a v) >> m) H
    unfolding uses by tells open_after
    got_now j v g i h = then_line K E a (Got a v) refl refl refl (λ so. tt) tt (λ s. refl) (λ s q c. let w = i.at s c in (tt, (w.0, j, w.1, w.2, w.3, K.object j, w.4, w.5, g.at s c, spots j, w.6))) (λ s c. tt) (λ s c. is_told K E a s (Got a v) (AValue v) (inl refl)) h

    -- what an activation gets was handed to an ejector that it made
    pub then_got : {B : Type 0} {C : Fact N} (act j n : ℕ) (v : Value N) {m : Act N B} {H : B → Fact N} → Gets K E a C (IsAct act) → n ≡ j → Gets K E a C (MadeEjector j) → Gets K E a C (WasHanded n v) → Fine K E a (Also C (IsValue v)) m H → Fine K E a C (tell (Got act v) >> m) H
    then_got {C = C} act j n v {m = m} i e g k h = act_is K E a act (λ b. tell (Got b v) >> m) i (got_now j v g (subst (λ l. Gets K E a C (WasHanded l v)) e k) h)

  module _ (spots : (i : ℕ) → K.spot (K.object i) ≡ Own i) where
    no_resolver : (p : N) → Ejector true ≡ Resolver p → ⊥
    no_resolver p e = cc

    same_promise : (p q : N) → ◌≡◌ {A = Thing N} (Resolver p) (Resolver q) → p ≡ q
    same_promise p q e = cc

    fine_ejector : (tree : List Node) {C : Fact N} (act : ℕ) → Gets K E a C (IsAct act) → Fine K E a C (calls.new_ejector K tree act) (λ j. Also (IsValue (Ref (K.object j))) (MadeEjector j))
    unfolding calls.new_ejector uses by tells open_after itself
    fine_ejector tree {C = C} act i = act_is K E a act (λ b. new_thing (Ejector true) >>= (λ j. tell (EjectorMade b (K.object j)) >> give j)) i
        (thing_block K E a (Ejector true) tt (λ j. EjectorMade a (K.object j)) (λ n. ap own_number (spots n)) (λ n. refl) (λ n. refl) (λ n. tt) (λ so n. tt) (λ so n. tt) (λ so n p e. absurd (no_resolver p e)) (λ j. Also (IsValue (Ref (K.object j))) (MadeEjector j)) (λ s n. refl) (λ s n. (tt, tt))
        (λ s j. (is_told K E a s (EjectorMade a (K.object j)) (AValue (Ref (K.object j))) (inl refl), among_last s.happened (EjectorMade a (K.object j)))) (λ j. fine_give K E a j (got K E a C (Also (IsValue (Ref (K.object j))) (MadeEjector j)))))

    pub bind_ejector : {B : Type 0} (tree : List Node) {C : Fact N} (act : ℕ) {f : ℕ → Act N B} {H : B → Fact N} → Gets K E a C (IsAct act) → ((j : ℕ) → Fine K E a (Also C (Also (IsValue (Ref (K.object j))) (MadeEjector j))) (f j) H) → Fine K E a C (calls.new_ejector K tree act >>= f) H
    bind_ejector tree act i h = fine_bind K E a (λ j. Also (IsValue (Ref (K.object j))) (MadeEjector j)) (fine_ejector tree act i) h

    resolver_now : {B : Type 0} {C : Fact N} (p : N) → IsNewPromise p → {f : ℕ → Act N B} {H : B → Fact N} → ((r : ℕ) → Fine K E a (Also C (Also (IsValue (Ref p)) (IsValue (Ref (K.object r))))) (f r) H) → Fine K E a C (new_thing (Resolver p) >>= (λ r. tell (PromiseMade a p (K.object r)) >> f r)) H
    unfolding uses by tells open_after
    resolver_now p o h = thing_block K E a (Resolver p) tt (λ r. PromiseMade a p (K.object r)) (λ n. ap own_number (spots n)) (λ n. refl) (λ n. refl) (λ n. (o.0, o.1, o.2)) (λ so n. tt) (λ so n. tt) (λ so n q e. inr (a, K.object n, subst (λ z. IsAmong (PromiseMade a z (K.object n)) (so ++ PromiseMade a p (K.object n) ∷ [])) (same_promise p q e) (among_last so _), spots n)) (λ r. Also (IsValue (Ref p)) (IsValue (Ref (K.object r)))) (λ s n. refl) (λ s n. (tt, o))
        (λ s r. (is_told K E a s (PromiseMade a p (K.object r)) (AValue (Ref p)) (inl refl), is_told K E a s (PromiseMade a p (K.object r)) (AValue (Ref (K.object r))) (inr (inl refl)))) h

    pub bind_resolver : {B : Type 0} {C : Fact N} (act : ℕ) (p : N) → IsNewPromise p → {f : ℕ → Act N B} {H : B → Fact N} → Gets K E a C (IsAct act) → ((r : ℕ) → Fine K E a (Also C (Also (IsValue (Ref p)) (IsValue (Ref (K.object r))))) (f r) H) → Fine K E a C (new_thing (Resolver p) >>= (λ r. tell (PromiseMade act p (K.object r)) >> f r)) H
    bind_resolver act p o {f = f} i h = act_is K E a act (λ b. new_thing (Resolver p) >>= (λ r. tell (PromiseMade b p (K.object r)) >> f r)) i (resolver_now p o h)

  -- ---- a call, with its lines

  -- the state in which a call has begun
  pub called_well : (s : Vat N) (x : Value N) (verb : Words) (args : List (Value N)) (o : Option ℕ) → Has K E s a (callee x verb args) → AllOf (Knew K E s a) args → LineWell K (held K E s) s.happened (Called a x verb args o)
  unfolding uses by itself
  called_well s x verb args o g h = ((inl g, uses_values K E a s [] args h), tt)

  -- it ends the call that it began
  abbrev Begun : Vat N → Vat N → Value N → Words → Option ℕ → Type 0
  Begun s t x verb o = Grows K E s t × (opens t ≡ record { caller = a; receiver = x; verb = verb; begun = o } ∷ opens s)

  after_call : (s t : Vat N) (x : Value N) (verb : Words) (o : Option ℕ) (e : Happened N) → Begun s t x verb o → open_after (opens t) e ≡ without_first (opens t) → Passes K E a s (with_line t e)
  unfolding without_first
  after_call s t x verb o e b c = (grows_trans K E s t (with_line t e) b.0 (grows_line K E t e), opens_last t e ∙ c ∙ ap without_first b.1)

  back_well : (t : Vat N) (x : Value N) (verb : Words) (v : Value N) (o : Option ℕ) (cs : List (Open N)) → opens t ≡ record { caller = a; receiver = x; verb = verb; begun = o } ∷ cs → GivenBack K (held K E t) t.happened a x verb o v → LineWell K (held K E t) t.happened (Back a v)
  unfolding uses
  back_well t x verb v o cs e g = (tt, rw e (refl, g))

  -- how what was called ends, and what may be given back
  abbrev pub CallEnds : Vat N → Value N → Words → Option ℕ → Done N (Value N) → Type 0
  CallEnds s x verb o (Gives v t) = Begun s t x verb o × Good K E t × GivenBack K (held K E t) t.happened a x verb o v
  CallEnds s x verb o (Throws p t) = Begun s t x verb o × Good K E t
  CallEnds s x verb o (Ejects n v t) = Begun s t x verb o × Good K E t × Handed K E a t n v
  CallEnds s x verb o (Stops c t) = Good K E t

  pub ended_ends : (s : Vat N) (x : Value N) (verb : Words) (o : Option ℕ) (d : Done N (Value N)) → CallEnds s x verb o d → Ends K E a IsValue s (end_by (λ v. tell (Back a v) >> give v) (λ p. tell (Thrown a p) >> throw p) (λ n v. tell (Left a) >> eject n v) d)
  unfolding end_by tell ◌>>◌ and_then give throw eject open_after tells by uses
  ended_ends s x verb o (Gives v t) h = (after_call s t x verb o (Back a v) h.0 refl, good_line K E t (Back a v) refl refl refl tt h.1 (back_well t x verb v o (opens s) h.0.1 h.2) tt tt tt, is_told K E a t (Back a v) (AValue v) (inl refl))
  ended_ends s x verb o (Throws p t) h = (after_call s t x verb o (Thrown a p) h.0 refl, good_line K E t (Thrown a p) refl refl refl tt h.1 (tt, tt) tt tt tt)
  ended_ends s x verb o (Ejects n v t) h = (after_call s t x verb o (Left a) h.0 refl, good_line K E t (Left a) refl refl refl tt h.1 (tt, tt) tt tt tt, handed_up K E a t (with_line t (Left a)) (grows_line K E t (Left a)) n v h.2)
  ended_ends s x verb o (Stops c t) h = h

  pub begins : (s : Vat N) (x : Value N) (verb : Words) (args : List (Value N)) (o : Option ℕ) → Begun s (with_line s (Called a x verb args o)) x verb o
  unfolding open_after
  begins s x verb args o = (grows_line K E s (Called a x verb args o), opens_last s (Called a x verb args o))

  -- from what was done since the call began
  given_ends : (s t : Vat N) (x : Value N) (verb : Words) (d : Done N (Value N)) → Begun s t x verb None → Ends K E a (MayGive x verb) t d → CallEnds s x verb None d
  given_ends s t x verb (Gives v u) b h = ((grows_trans K E s t u b.0 h.0.0, h.0.1 ∙ b.1), h.1, h.2)
  given_ends s t x verb (Throws p u) b h = ((grows_trans K E s t u b.0 h.0.0, h.0.1 ∙ b.1), h.1)
  given_ends s t x verb (Ejects n v u) b h = ((grows_trans K E s t u b.0 h.0.0, h.0.1 ∙ b.1), h.1, h.2)
  given_ends s t x verb (Stops c u) b h = h

  lines_now : {C : Fact N} (D F : Fact N) (x : Value N) (verb : Words) (args : List (Value N)) (m : Act N (Value N)) → ((s t : Vat N) → Keeps K E a s t D) → Gets K E a C D → ((s : Vat N) → Holds K E a s C → Holds K E a (with_line s (Called a x verb args None)) F) → Gets K E a C (IsCallee x verb args) → Gets K E a C (AreValues args)
      → Fine K E a (Also (Also D F) (WasCalled x verb args)) m (MayGive x verb) → Fine K E a C (scopes.with_lines a x verb args m) IsValue
  unfolding scopes.with_lines scopes.ended ending tell ◌>>◌ and_then served unless_begun
  lines_now D F x verb args m k d u g h f = record {
    after = λ s i c. let t : Vat N = with_line s (Called a x verb args None) in let b : Begun s t x verb None = begins s x verb args None in
        ended_ends s x verb None (m t) (given_ends s t x verb (m t) b (f.after t (good_line K E s (Called a x verb args None) refl refl refl tt i (called_well s x verb args None (g.at s c) (h.at s c)) tt tt tt)
        ((holds_up K E a s t b.0 D (k s t) (d.at s c), u s c), (a, among_last s.happened (Called a x verb args None), ap served b.1))));
  }

  -- a call that begins no activation, under facts that do not speak of open calls, and one on the moment before it
  pub fine_with_lines : {C : Fact N} (D F : Fact N) (act : ℕ) (x : Value N) (verb : Words) (args : List (Value N)) (m : Act N (Value N)) → ((s t : Vat N) → Keeps K E a s t D) → Gets K E a C D → ((s : Vat N) → Holds K E a s C → Holds K E a (with_line s (Called a x verb args None)) F)
      → Gets K E a C (IsAct act) → Gets K E a C (IsCallee x verb args) → Gets K E a C (AreValues args) → Fine K E a (Also (Also D F) (WasCalled x verb args)) m (MayGive x verb) → Fine K E a C (scopes.with_lines act x verb args m) IsValue
  fine_with_lines D F act x verb args m k d u i g h f = act_is K E a act (λ b. scopes.with_lines b x verb args m) i (lines_now D F x verb args m k d u g h f)

  -- ---- captures

  bound_from : (s : Vat N) (c : Bound N) (rest : List (Item N)) → ((i : Item N) → IsAmong i (parts_of c ++ rest) → Has K E s a i) → BoundKnown K E a s c × ((i : Item N) → IsAmong i rest → Has K E s a i)
  unfolding parts_of
  bound_from s (Fixed v g) rest f = ((f (AValue v) (inl refl), f (AGuard g) (inr (inl refl))), λ i m. f i (inr (inr m)))
  bound_from s (Slot k) rest f = (f (ASlot k) (inl refl), λ i m. f i (inr m))

  pub nouns_from : (s : Vat N) (bs : List (Binding N)) → ((i : Item N) → IsAmong i (parts_of_all (map (λ b. b.bound) bs)) → Has K E s a i) → AllOf (NounKnown K E a s) bs
  unfolding parts_of_all
  nouns_from s [] f = tt
  nouns_from s (b ∷ bs) f = let h = bound_from s b.bound (parts_of_all (map (λ b. b.bound) bs)) f in (h.0, nouns_from s bs h.1)

pub ruleset gets = (got, got_left, got_right, got_itself, got_both, got_nothing, got_guard, got_null, got_flag, got_number, got_text, got_prim, got_none, got_more, got_no_lists, got_lists, got_act, got_with, got_fixed, got_slot, got_any, got_no_match, got_literal, got_safe, got_bound_in, got_asked, got_audition_ask, got_may_give, got_item, got_stamp)

pub ruleset looks = (look_follow, look_list, look_cell, look_data, look_range, look_compared, look_null_or, look_taken, look_same, look_broken, look_thrown, look_test)

pub ruleset fine = (gets, then_read, then_wrote, bind_list, bind_slot, bind_ejector, bind_resolver, then_unit, then_value, then_answer, bind_number, bind_name, bind_flag, bind_place, bind_standing, bind_value, bind_values, bind_scope, bind_answer, bind_answers, bind_may_value, bind_reply, bind_bound, end_scope, end_answer, fine_some, fine_some_name, fine_if, fine_give, fine_throw, fine_eject, fine_stop, fine_look, fine_spend, fine_kill, fine_promise, looks)
