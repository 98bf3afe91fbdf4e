-- Who learns a gift asks its host for it, at once.
use Rattle.std.proofs.Common.{◌≡◌, ℕ, Bool, true, false, List, [], ◌∷◌, ◌++◌, Option, Some, None, refl, inl, inr, if◌then◌else◌, codes, ◌==◌}
use Rattle.def_machine.specs.Values.{Words, Value, Ref, Broken, Name, Naming, IsGift, IsAnswer}
use Rattle.def_machine.specs.State.{Passed, Passeds, Plain, AGift, Many, NoMore, More, Note, Deliver, Ask, SettledTo, Put, Vat, Done, Gives, Act, ◌>>=◌, ◌>>◌, and_then, give, look, come, ToTell, send_out, is_in}
use Rattle.def_machine.specs.Refs as refs
use Rattle.def_machine.specs.Arrive as arrive
use Rattle.def_machine.specs.Arrive.{Incoming}
use Rattle.law_machine.specs.Machine.Steps.{After}
use Rattle.law_machine.proofs.Machine.Keeps.{Keeps, IsKept, IsKeptUnder, keeps_bind, keeps_then, keeps_give, keeps_look, keeps_come, keeps_alter, keeps_if}
use Rattle.law_machine.proofs.Machine.RefsKeeps.{keeps_settle, keeps_send_on}
use Rattle.law_machine.proofs.Machine.ArriveKeeps.{keeps_learn_name, keeps_learn_all, keeps_make_list}
use Rattle.law_reference.specs.Reference.GiftAsking.{Passes, PassesIn, NotePasses, IsAsk, IsAskedOf, NoticedOrAsked, ThenAsked, WhoLearnsAGiftAsks}

in_or : (b c d : Bool) → (c ≡ true → d ≡ true) → elim b [ true ↦ true | false ↦ c ] ≡ true → elim b [ true ↦ true | false ↦ d ] ≡ true
in_or true c d f e = refl
in_or false c d f e = f e

in_end : (h : ℕ) (ws : List ℕ) (w : ℕ) → is_in h ws ≡ true → is_in h (ws ++ w ∷ []) ≡ true
unfolding is_in
in_end h [] w e = cc
in_end h (x ∷ ws) w e = in_or (h == x) (is_in h ws) (is_in h (ws ++ w ∷ [])) (in_end h ws w) e

module _ (K : Naming Name Name) (from h i : ℕ) where
  abbrev Done' : Vat Name → Type 0
  Done' s = NoticedOrAsked h i from s

  abbrev Stays : Vat Name → Vat Name → Type 0
  Stays s t = Done' s → Done' t

  asked_end : (ps : List (Put Name)) (p : Put Name) → IsAskedOf h i from ps → IsAskedOf h i from (ps ++ p ∷ [])
  asked_end [] p a = absurd a
  asked_end (x ∷ ps) p (inl e) = inl e
  asked_end (x ∷ ps) p (inr a) = inr (asked_end ps p a)

  asked_last : (ps : List (Put Name)) (p : Put Name) → p.to ≡ h → IsAsk h i from p.note → IsAskedOf h i from (ps ++ p ∷ [])
  asked_last [] p e a = inl (e, a)
  asked_last (x ∷ ps) p e a = inr (asked_last ps p e a)

  out_stays : (s : Vat Name) (p : Put Name) → Stays s (record s { outbox = s.outbox ++ p ∷ [] })
  out_stays s p (inl e) = inl e
  out_stays s p (inr a) = inr (asked_end s.outbox p a)

  marked_stays : (s : Vat Name) (w : ℕ) → Stays s (record s { noticed = s.noticed ++ w ∷ [] })
  marked_stays s w (inl e) = inl (in_end h s.noticed w e)
  marked_stays s w (inr a) = inr a

  base : IsKept Stays
  base = record {
    same = λ s d. d;
    trans = λ f g d. g (f d);
    fuel = λ s n d. d;
    happened = λ s e d. d;
    activations = λ s d. d;
    thing = λ s x d. d;
    killed = λ s n d. d;
    slot = λ s c d. d;
    written = λ s n v d. d;
    list = λ s vs d. d;
    queue = λ s m d. d;
    outbox = λ s p d. out_stays s p d;
    gift = λ s g d. d;
    opened = λ s p j d. d;
    noticed = λ s w d. marked_stays s w d;
    drawn = λ s w d. d;
  }

  law : IsKeptUnder K Stays
  law = record {
    altered = λ s c n d. d;
    came = λ s c w d. d;
    mailed = λ s c d. d;
    promised = λ s d. d;
    messaged = λ s w id d. d;
    lone = λ s id d. d;
  }

  ends_asked : {A : Type 0} (s : Vat Name) (d : Done Name A) → Done' s → After Stays s d → ThenAsked h i from d
  ends_asked s (Gives a t) q f = f q
  ends_asked s other q f = tt

  -- what follows leaves it asked for, and what comes before does not matter
  asked_then : {A B : Type 0} (d : Done Name A) (f : A → Act Name B) → ThenAsked h i from d → ((a : A) → Keeps Stays (f a)) → ThenAsked h i from (and_then d f)
  unfolding and_then
  asked_then (Gives a t) f q k = ends_asked t (f a t) q ((k a).after t)
  asked_then other f q k = tt

  any_then : {A B : Type 0} (d : Done Name A) (f : A → Act Name B) → ((a : A) (t : Vat Name) → ThenAsked h i from (f a t)) → ThenAsked h i from (and_then d f)
  unfolding and_then
  any_then (Gives a t) f k = k a t
  any_then other f k = tt

  -- ---- learning

  asked_or : (s : Vat Name) (n : Name) (b : Bool) → is_in h s.noticed ≡ b → ThenAsked h i from ((if b then refs.settle K n (Broken (codes "partition")) else send_out h (Ask from i n)) s)
  unfolding send_out
  asked_or s n true e = ends_asked s (refs.settle K n (Broken (codes "partition")) s) (inl e) ((keeps_settle K Stays base law n (Broken (codes "partition"))).after s)
  asked_or s n false e = inr (asked_last s.outbox (record { to = h; note = Ask from i n }) refl (refl, refl))

  ask_for_asks : (n : Name) (s : Vat Name) → ThenAsked h i from (arrive.ask_for K from h i n s)
  unfolding arrive.ask_for ◌>>=◌ and_then look
  ask_for_asks n s = asked_or s n (is_in h s.noticed) refl

  same_asks : (g j : ℕ) (n : Name) (s : Vat Name) → g ≡ h → j ≡ i → ThenAsked h i from (arrive.ask_for K from g j n s)
  same_asks g j n s e f = rw (e, f) (ask_for_asks n s)

  gift_asks : (g j : ℕ) (s : Vat Name) → g ≡ h → j ≡ i → ThenAsked h i from (arrive.learn_gift K from g j s)
  unfolding arrive.learn_gift ◌>>=◌ ◌>>◌
  gift_asks g j s e f = any_then (come K (IsGift g j) g s) (λ n t. and_then (arrive.ask_for K from g j n t) (λ _. give (Ref n))) (λ n t. asked_then (arrive.ask_for K from g j n t) (λ _. give (Ref n)) (same_asks g j n t e f) (λ _. keeps_give Stays base (Ref n)))

  rest : (v : Value Name) (ys : Passeds (Incoming Name Name)) → Keeps Stays (arrive.learn_all K from ys >>= (λ vs. give (v ∷ vs)))
  rest v ys = keeps_bind Stays base (keeps_learn_all K Stays base law from ys) (λ vs. keeps_give Stays base (v ∷ vs))

  mutual
    unfolding arrive.learn arrive.learn_all ◌>>=◌

    learn_asks : (y : Passed (Incoming Name Name)) (s : Vat Name) → Passes h i y → ThenAsked h i from (arrive.learn K from y s)
    learn_asks (Plain y) s p = absurd p
    learn_asks (AGift g j) s p = gift_asks g j s p.0 p.1
    learn_asks (Many ys) s p = asked_then (arrive.learn_all K from ys s) (λ vs. arrive.make_list K vs) (all_asks ys s p) (λ vs. keeps_make_list K Stays base law vs)

    all_asks : (ys : Passeds (Incoming Name Name)) (s : Vat Name) → PassesIn h i ys → ThenAsked h i from (arrive.learn_all K from ys s)
    all_asks NoMore s p = absurd p
    all_asks (More y ys) s (inl p) = asked_then (arrive.learn K from y s) (λ v. arrive.learn_all K from ys >>= (λ vs. give (v ∷ vs))) (learn_asks y s p) (λ v. rest v ys)
    all_asks (More y ys) s (inr p) = any_then (arrive.learn K from y s) (λ v. arrive.learn_all K from ys >>= (λ vs. give (v ∷ vs))) (λ v t. asked_then (arrive.learn_all K from ys t) (λ vs. give (v ∷ vs)) (all_asks ys t p) (λ vs. keeps_give Stays base (v ∷ vs)))

  -- ---- arrival

  abbrev sent_on : Bool → Incoming Name Name → Words → Name → List (Value Name) → Act Name (Unit {0})
  sent_on asks x verb id args = arrive.learn_name K x >>= (λ n. if asks then arrive.send_on_asked K from id n verb args else refs.send_on K (refs.settle K) (record { id = id; target = Ref n; verb = verb; args = args; answer = None }))

  asked_stays : (id n : Name) (verb : Words) (args : List (Value Name)) → Keeps Stays (arrive.send_on_asked K from id n verb args)
  unfolding arrive.send_on_asked
  asked_stays id n verb args = keeps_bind Stays base (keeps_look Stays base (λ s. s.number)) (λ v. keeps_bind Stays base (keeps_come K Stays law (IsAnswer v id) v) (λ a. keeps_then Stays base (keeps_alter K Stays law (ToTell from) a)
      (keeps_send_on K Stays base law (refs.settle K) (keeps_settle K Stays base law) (record { id = id; target = Ref n; verb = verb; args = args; answer = Some a }))))

  sent_stays : (asks : Bool) (x : Incoming Name Name) (verb : Words) (id : Name) (args : List (Value Name)) → Keeps Stays (sent_on asks x verb id args)
  sent_stays asks x verb id args = keeps_bind Stays base (keeps_learn_name K Stays base law x) (λ n. keeps_if Stays base asks (asked_stays id n verb args)
      (keeps_send_on K Stays base law (refs.settle K) (keeps_settle K Stays base law) (record { id = id; target = Ref n; verb = verb; args = args; answer = None })))

  deliver_asks : (m : Incoming Name Name) (asks : Bool) (answer : Option (Incoming Name Name)) (x : Incoming Name Name) (verb : Words) (ys : Passeds (Incoming Name Name)) (s : Vat Name) → PassesIn h i ys → ThenAsked h i from (arrive.arrive_deliver K from (record { message = m; asks = asks; answer = answer }) x verb ys s)
  unfolding arrive.arrive_deliver ◌>>=◌
  deliver_asks m asks answer x verb ys s p = any_then (arrive.learn_message K m s) (λ id. arrive.learn_all K from ys >>= (λ args. sent_on asks x verb id args)) (λ id t. asked_then (arrive.learn_all K from ys t) (λ args. sent_on asks x verb id args) (all_asks ys t p) (λ args. sent_stays asks x verb id args))

  note_asks : (n : Note (Incoming Name Name)) (s : Vat Name) → NotePasses h i n → ThenAsked h i from (arrive.arrive K from n s)
  unfolding arrive.arrive arrive.arrive_settled ◌>>=◌
  note_asks (Deliver d x verb ys) s p = deliver_asks d.message d.asks d.answer x verb ys s p
  note_asks (SettledTo x y) s p = any_then (arrive.learn_name K x s) (λ n. arrive.learn K from y >>= (λ z. refs.settle K n z)) (λ n t. asked_then (arrive.learn K from y t) (λ z. refs.settle K n z) (learn_asks y t p) (λ z. keeps_settle K Stays base law n z))
  note_asks other s p = absurd p

pub who_learns_asks : WhoLearnsAGiftAsks
who_learns_asks K from h i n s p = note_asks K from h i n s p
