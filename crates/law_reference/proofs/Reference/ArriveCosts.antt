-- What arrives makes known what the note brings, and a notice makes nothing known that was not claimed.
use Rattle.std.proofs.Common.{if◌then◌else◌, ◌≡◌, ℕ, zero, ◌+◌, ◌≤◌, Bool, true, false, List, [], ◌∷◌, ◌++◌, Option, Some, None, refl, ◌∙◌, arith, if◌then◌else◌, ◌==◌}
use Rattle.std.proofs.lemmas.Bool.{eqb-true}
use Rattle.def_machine.specs.Values.{Words, Value, Ref, Name, Gift, Naming, IsAnswer, IsGift, IsLearnt, IsCarried, naming, name_of, mail_of, answer_of, key, under}
use Rattle.def_machine.specs.State.{Standing, Viewed, Settled, Known, Passed, Passeds, Plain, AGift, Many, NoMore, More, Note, Deliver, Open, Ask, SettledTo, Elsewhere, Shorten, GiftEntry, Vat, Act, ◌>>=◌, ◌>>◌, ToTell, and_then, mail, give, look, come, alter, begun, draw, draws, drawn_at, send_out, open_gift}
use Rattle.def_machine.specs.Refs.{Place, Away, settle, send_on, resolve}
use Rattle.def_machine.specs.Arrive as arrive
use Rattle.def_machine.specs.Arrive.{Incoming, Old, New, gift_at}
use Rattle.law_machine.specs.Machine.Steps.{After}
use Rattle.law_machine.proofs.Machine.Keeps.{Keeps}
use Rattle.def_machine.proofs.Keys.{word_under_key}
use Rattle.law_fate.proofs.Fates.Spares.{keeps_give, keeps_look}
use Rattle.law_reference.specs.Reference.Knowing.{one, onward, Knowing, new_name, new_in_value, new_in, new_in_all, new_answer, new_gift_here, brings}
use Rattle.law_reference.proofs.Reference.Costs.{spared, none, free, after_here, after_more, after_pays, after_trans, bind_after, costs_more, costs_bind, bind_free, free_bind, free_then, then_free, free_gift, free_open, free_out, free_to_tell, free_mail, costs_come, draw_owes, known_after}
use Rattle.law_reference.proofs.Reference.RefsCosts.{free_refs, free_settle, free_resolve, free_inform, costs_send_on}

module _ (v : ℕ) (x : Name) (word : ℕ → ℕ) where
  abbrev K : Naming Name Name
  K = naming word v

  costs_if : {A : Type 0} (c : ℕ) (b : Bool) {m n : Act Name A} → (b ≡ true → Keeps (Knowing v x c) m) → (b ≡ false → Keeps (Knowing v x c) n) → Keeps (Knowing v x c) (if b then m else n)
  costs_if c true f g = f refl
  costs_if c false f g = g refl

  -- ---- learning

  costs_learn_name : (z : Incoming Name Name) → Keeps (Knowing v x (new_name x z)) (arrive.learn_name K z)
  unfolding arrive.learn_name new_name name_of
  costs_learn_name (Old n) = keeps_give _ (spared v x) n
  costs_learn_name (New n h) = costs_come v x word (IsLearnt n) h

  costs_learn_value : (y : Value (Incoming Name Name)) → Keeps (Knowing v x (new_in_value x y)) (arrive.learn_value K y)
  unfolding arrive.learn_value new_in_value
  costs_learn_value (Ref z) = bind_free v x (new_name x z) (costs_learn_name z) (λ n. keeps_give _ (spared v x) _)
  costs_learn_value other = keeps_give _ (spared v x) _

  free_ask_for : (p h i : ℕ) (n : Name) → Keeps (Knowing v x 0) (arrive.ask_for K p h i n)
  unfolding arrive.ask_for
  free_ask_for p h i n = search (free_refs, spared) depth 14

  costs_learn_gift : (p h i : ℕ) → Keeps (Knowing v x (one (Gift h i) x)) (arrive.learn_gift K p h i)
  unfolding arrive.learn_gift name_of
  costs_learn_gift p h i = bind_free v x (one (Gift h i) x) (costs_come v x word (IsGift h i) h) (λ n. then_free v x 0 (free_ask_for p h i n) (keeps_give _ (spared v x) _))

  free_make_list : (vs : List (Value Name)) → Keeps (Knowing v x 0) (arrive.make_list K vs)
  unfolding arrive.make_list
  free_make_list vs = search (free, spared) depth 14

  mutual
    unfolding arrive.learn arrive.learn_all new_in new_in_all

    costs_learn : (p : ℕ) (y : Passed (Incoming Name Name)) → Keeps (Knowing v x (new_in x y)) (arrive.learn K p y)
    costs_learn p (Plain y) = costs_learn_value y
    costs_learn p (AGift h i) = costs_learn_gift p h i
    costs_learn p (Many ys) = bind_free v x (new_in_all x ys) (costs_learn_all p ys) (λ vs. free_make_list vs)

    pub costs_learn_all : (p : ℕ) (ys : Passeds (Incoming Name Name)) → Keeps (Knowing v x (new_in_all x ys)) (arrive.learn_all K p ys)
    costs_learn_all p NoMore = keeps_give _ (spared v x) _
    costs_learn_all p (More y ys) = costs_bind v x (new_in x y) (new_in_all x ys) (costs_learn p y) (λ z. bind_free v x (new_in_all x ys) (costs_learn_all p ys) (λ zs. keeps_give _ (spared v x) _))

  -- ---- gifts at their host

  costs_gift_or_new : (u p i : ℕ) (o : Option (GiftEntry Name)) → u ≡ v → Keeps (Knowing v x (new_gift_here v x i o)) (arrive.gift_or_new K u p i o)
  unfolding arrive.gift_or_new new_gift_here name_of
  costs_gift_or_new u p i (Some g) e = keeps_give _ (spared v x) g.name
  costs_gift_or_new u p i None e = bind_free v x (one (Gift v i) x) (costs_more v x (one (Gift u i) x) (one (Gift v i) x) (rw e (omega arith)) (costs_come v x word (IsGift u i) u)) (λ n. then_free v x 0 (free_gift v x n p i) (keeps_give _ (spared v x) n))

  have_gift_after : (p i : ℕ) (s : Vat Name) → After (Knowing v x (new_gift_here v x i (gift_at p i s.gifts))) s (arrive.have_gift K p i s)
  unfolding arrive.have_gift ◌>>=◌ and_then look
  have_gift_after p i s = after_here v x (new_gift_here v x i (gift_at p i s.gifts)) s _ (λ e. (costs_gift_or_new s.number p i (gift_at p i s.gifts) e).after s)

  most_one : (i : ℕ) (o : Option (GiftEntry Name)) → new_gift_here v x i o ≤ one (Gift v i) x
  unfolding new_gift_here
  most_one i (Some g) = omega arith
  most_one i None = omega arith

  costs_have_gift : (p i : ℕ) → Keeps (Knowing v x (one (Gift v i) x)) (arrive.have_gift K p i)
  costs_have_gift p i = record { after = λ s. after_more v x (new_gift_here v x i (gift_at p i s.gifts)) (one (Gift v i) x) s (most_one i (gift_at p i s.gifts)) _ (have_gift_after p i s) }

  -- with what follows for free
  then_after : {A B : Type 0} (c : ℕ) (s : Vat Name) (m : Act Name A) (f : A → Act Name B) → After (Knowing v x c) s (m s) → ((a : A) → Keeps (Knowing v x 0) (f a)) → After (Knowing v x c) s ((m >>= f) s)
  unfolding ◌>>=◌
  then_after c s m f h k = after_more v x (c + 0) c s (omega arith) (and_then (m s) f) (bind_after v x c 0 s (m s) f h k)

  free_break_at : (n : Name) (p : Words) (t : Standing Name) → Keeps (Knowing v x 0) (arrive.break_at K n p t)
  unfolding arrive.break_at
  free_break_at n p (Settled y) = search (free_refs, spared) depth 14
  free_break_at n p _ = search (free_refs, free_settle) depth 14

  free_break_unopened : (n : Name) (b : Bool) → Keeps (Knowing v x 0) (arrive.break_unopened K n b)
  unfolding arrive.break_unopened
  free_break_unopened n true = search (free_refs, spared) depth 14
  free_break_unopened n false = search (free_refs, spared, free_break_at) depth 14

  free_tell_asker : (n : Name) (w : ℕ) (t : Standing Name) → Keeps (Knowing v x 0) (arrive.tell_asker K n w t)
  unfolding arrive.tell_asker
  free_tell_asker n w (Settled y) = search (free_refs, free_inform) depth 14
  free_tell_asker n w _ = search free_refs depth 14

  free_break_orphan : (p i : ℕ) (n : Name) → Keeps (Knowing v x 0) (arrive.break_orphan K p i n)
  unfolding arrive.break_orphan
  free_break_orphan p i n = search (free_refs, spared, free_break_unopened) depth 14

  ask_after : (from p i : ℕ) (s : Vat Name) → After (Knowing v x (new_gift_here v x i (gift_at p i s.gifts))) s (arrive.arrive_ask K from p i s)
  unfolding arrive.arrive_ask
  ask_after from p i s = then_after (new_gift_here v x i (gift_at p i s.gifts)) s (arrive.have_gift K p i) _ (have_gift_after p i s)
      (λ n. then_free v x 0 (free_break_orphan p i n) (free_bind v x 0 (keeps_look _ (spared v x) _) (λ t. free_tell_asker n from t)))

  opened_after : (from i : ℕ) (y : Name) (s : Vat Name) → After (Knowing v x (new_gift_here v x i (gift_at from i s.gifts))) s ((arrive.have_gift K from i >>= (λ n. open_gift from i >> resolve K n (Ref y))) s)
  opened_after from i y s = then_after (new_gift_here v x i (gift_at from i s.gifts)) s (arrive.have_gift K from i) _ (have_gift_after from i s) (λ n. then_free v x 0 (free_open v x from i) (free_resolve v x word n (Ref y)))

  open_after : (from i : ℕ) (z : Incoming Name Name) (s : Vat Name) → After (Knowing v x (new_name x z + new_gift_here v x i (gift_at from i s.gifts))) s (arrive.arrive_open K from i z s)
  unfolding arrive.arrive_open arrive.learn_name new_name ◌>>=◌ and_then give come naming name_of
  open_after from i (Old n) s = after_more v x (new_gift_here v x i (gift_at from i s.gifts)) (0 + new_gift_here v x i (gift_at from i s.gifts)) s (omega arith) _ (opened_after from i n s)
  open_after from i (New n h) s = after_trans v x (one n x) (new_gift_here v x i (gift_at from i s.gifts)) s _ (known_after v x s n h) _ (opened_after from i n (record s { known = s.known ++ begun n h ∷ [] }))

  -- ---- views

  free_see : (n g : Name) → Keeps (Knowing v x 0) (arrive.see K n g)
  unfolding arrive.see
  free_see n g = search (free_refs, spared) depth 14

  costs_gift_there : (u h c i : ℕ) → u ≡ v → Keeps (Knowing v x (one (Gift c i) x)) (arrive.gift_there K u h c i)
  unfolding arrive.gift_there name_of
  costs_gift_there u h c i e = costs_if (one (Gift c i) x) (c == u)
      (λ f. let same : c ≡ v = eqb-true c u f ∙ e in costs_more v x (one (Gift v i) x) (one (Gift c i) x) (rw same (omega arith)) (costs_have_gift h i))
      (λ f. bind_free v x (one (Gift c i) x) (costs_come v x word (IsGift c i) c) (λ g. then_free v x 0 (free_out v x c (Ask h i g)) (keeps_give _ (spared v x) g)))

  viewing : (u h c i : ℕ) (n : Name) → u ≡ v → Keeps (Knowing v x (one (Gift c i) x)) (send_out h (Shorten n c i) >> (arrive.gift_there K u h c i >>= (λ g. arrive.see K n g)))
  viewing u h c i n e = free_then v x (one (Gift c i) x) (free_out v x h (Shorten n c i)) (bind_free v x (one (Gift c i) x) (costs_gift_there u h c i e) (λ g. free_see n g))

  drawn_after : (u h c w : ℕ) (n : Name) (s : Vat Name) (o : Option ℕ) → drawn_at zero w s.drawn ≡ o → u ≡ v → After (Knowing v x 0) s (and_then (draws w o s) (λ i. send_out h (Shorten n c (under h i)) >> (arrive.gift_there K u h c (under h i) >>= (λ g. arrive.see K n g))))
  unfolding draws and_then
  drawn_after u h c w n s (Some i) new e = none v x s
  drawn_after u h c w n s None new e = let k : ℕ = under h (key s.number w) in after_pays v x (one (Gift c k) x) s _ (draw_owes v x s w c k (word_under_key h s.number w) new) _ ((viewing u h c k n e).after _)

  free_view_there : (n : Name) (c : ℕ) → Keeps (Knowing v x 0) (arrive.view_there K n c)
  unfolding arrive.view_there ◌>>=◌ and_then look draw
  free_view_there n c = record { after = λ s. after_here v x 0 s _ (λ e. drawn_after s.number _ c _ n s _ refl e) }

  -- ---- arrival

  costs_arrive_elsewhere : (z : Incoming Name Name) (c : ℕ) → Keeps (Knowing v x (new_name x z)) (arrive.arrive_elsewhere K z c)
  unfolding arrive.arrive_elsewhere
  costs_arrive_elsewhere z c = bind_free v x (new_name x z) (costs_learn_name z) (λ n. search (free_refs, spared, free_settle, free_view_there) depth 14)

  free_shorten_to : (i : ℕ) (p : Place Name) → Keeps (Knowing v x 0) (arrive.shorten_to K i p)
  unfolding arrive.shorten_to
  free_shorten_to i (Away h n true) = search free_refs depth 14
  free_shorten_to i _ = search (free_refs, spared) depth 14

  costs_arrive_shorten : (z : Incoming Name Name) (i : ℕ) → Keeps (Knowing v x (new_name x z)) (arrive.arrive_shorten K z i)
  unfolding arrive.arrive_shorten
  costs_arrive_shorten z i = bind_free v x (new_name x z) (costs_learn_name z) (λ n. free_bind v x 0 (keeps_look _ (spared v x) _) (λ p. free_shorten_to i p))

  costs_arrive_settled : (from : ℕ) (z : Incoming Name Name) (y : Passed (Incoming Name Name)) → Keeps (Knowing v x (new_name x z + new_in x y)) (arrive.arrive_settled K from z y)
  unfolding arrive.arrive_settled
  costs_arrive_settled from z y = costs_bind v x (new_name x z) (new_in x y) (costs_learn_name z) (λ n. bind_free v x (new_in x y) (costs_learn from y) (λ r. free_settle v x word n r))

  answered : (from : ℕ) (id n : Name) (verb : Words) (args : List (Value Name)) (u : ℕ) → u ≡ v → Keeps (Knowing v x (one (answer_of v id) x + onward v x id)) (come K (IsAnswer u id) u >>= (λ a. alter K (ToTell from) a >> send_on K (settle K) (record { id = id; target = Ref n; verb = verb; args = args; answer = Some a })))
  unfolding name_of
  answered from id n verb args u e = costs_bind v x (one (answer_of v id) x) (onward v x id) (costs_more v x (one (answer_of u id) x) (one (answer_of v id) x) (rw e (omega arith)) (costs_come v x word (IsAnswer u id) u))
      (λ a. free_then v x (onward v x id) (free_to_tell v x K from a) (costs_send_on v x word (settle K) (free_settle v x word) (record { id = id; target = Ref n; verb = verb; args = args; answer = Some a })))

  asked_first : (from : ℕ) (id n : Name) (verb : Words) (args : List (Value Name)) → Keeps (Knowing v x (one (answer_of v id) x + onward v x id)) (arrive.send_on_asked K from id n verb args)
  unfolding arrive.send_on_asked ◌>>=◌ and_then look
  asked_first from id n verb args = record { after = λ s. after_here v x (one (answer_of v id) x + onward v x id) s _ (λ e. (answered from id n verb args s.number e).after s) }

  -- by whether an answer is asked for
  looks_first : (asks : Bool) (from : ℕ) (id n : Name) (verb : Words) (args : List (Value Name)) → Keeps (Knowing v x (one (answer_of v id) x + onward v x id)) (if asks then arrive.send_on_asked K from id n verb args else send_on K (settle K) (record { id = id; target = Ref n; verb = verb; args = args; answer = None }))
  looks_first true from id n verb args = asked_first from id n verb args
  looks_first false from id n verb args = costs_more v x (onward v x id) (one (answer_of v id) x + onward v x id) (omega arith) (costs_send_on v x word (settle K) (free_settle v x word) (record { id = id; target = Ref n; verb = verb; args = args; answer = None }))

  -- the message that has that name is sent on, once its arguments are learnt
  costs_sent_on : (from : ℕ) (asks : Bool) (z : Incoming Name Name) (verb : Words) (ys : Passeds (Incoming Name Name)) (id : Name)
      → Keeps (Knowing v x (new_in_all x ys + (new_name x z + (one (answer_of v id) x + onward v x id)))) (arrive.learn_all K from ys >>= (λ args. arrive.learn_name K z >>= (λ n. if asks then arrive.send_on_asked K from id n verb args else send_on K (settle K) (record { id = id; target = Ref n; verb = verb; args = args; answer = None }))))
  costs_sent_on from asks z verb ys id = let c : ℕ = one (answer_of v id) x + onward v x id in costs_bind v x (new_in_all x ys) (new_name x z + c) (costs_learn_all from ys) (λ args. costs_bind v x (new_name x z) c (costs_learn_name z) (λ n. looks_first asks from id n verb args))

  deliver_after : (from : ℕ) (m : Incoming Name Name) (asks : Bool) (answer : Option (Incoming Name Name)) (z : Incoming Name Name) (verb : Words) (ys : Passeds (Incoming Name Name)) (s : Vat Name) → After (Knowing v x (new_answer v x m + new_in_all x ys + new_name x z)) s (arrive.arrive_deliver K from (record { message = m; asks = asks; answer = answer }) z verb ys s)
  unfolding arrive.arrive_deliver arrive.learn_message ◌>>=◌ and_then give mail naming mail_of new_answer
  deliver_after from (Old m) asks answer z verb ys s = after_more v x (new_in_all x ys + (new_name x z + (one (answer_of v m) x + onward v x m))) _ s (omega arith) _ ((costs_sent_on from asks z verb ys m).after s)
  deliver_after from (New m h) asks answer z verb ys s = after_more v x (0 + (new_in_all x ys + (new_name x z + (one (answer_of v m) x + onward v x m)))) _ s (omega arith) _
      (after_trans v x 0 (new_in_all x ys + (new_name x z + (one (answer_of v m) x + onward v x m))) s _ ((free_mail v x K (IsCarried m)).after s) _ ((costs_sent_on from asks z verb ys m).after _))

  pub arrive_after : (from : ℕ) (n : Note (Incoming Name Name)) (s : Vat Name) → After (Knowing v x (brings v x from s.gifts n)) s (arrive.arrive K from n s)
  unfolding arrive.arrive brings
  arrive_after from (Deliver d z verb ys) s = deliver_after from d.message d.asks d.answer z verb ys s
  arrive_after from (Open i z) s = open_after from i z s
  arrive_after from (Ask p i z) s = ask_after from p i s
  arrive_after from (SettledTo z y) s = (costs_arrive_settled from z y).after s
  arrive_after from (Elsewhere z c) s = (costs_arrive_elsewhere z c).after s
  arrive_after from (Shorten z c i) s = (costs_arrive_shorten z i).after s

  -- ---- notice

  free_break_hosted : (w : ℕ) (n : Name) (p : Words) (t : Standing Name) → Keeps (Knowing v x 0) (arrive.break_hosted K w n p t)
  unfolding arrive.break_hosted
  free_break_hosted w n p (Viewed q) = search (free_refs, spared) depth 14
  free_break_hosted w n p (Settled y) = search (free_refs, spared) depth 14
  free_break_hosted w n p other = search (free_refs, free_settle) depth 14

  free_notice_name : (w : ℕ) (k : Known Name) → Keeps (Knowing v x 0) (arrive.notice_name K w k)
  unfolding arrive.notice_name
  free_notice_name w k = search (free_refs, spared, free_break_hosted) depth 14

  free_notice_gift : (w : ℕ) (g : GiftEntry Name) → Keeps (Knowing v x 0) (arrive.notice_gift K w g)
  unfolding arrive.notice_gift
  free_notice_gift w g = search (free_refs, spared, free_break_unopened) depth 14

  free_notice_all : (w : ℕ) → Keeps (Knowing v x 0) (arrive.notice_all K w)
  unfolding arrive.notice_all
  free_notice_all w = search (free_refs, spared, free_notice_name, free_notice_gift) depth 14

  pub free_notice : (w : ℕ) → Keeps (Knowing v x 0) (arrive.notice K w)
  unfolding arrive.notice
  free_notice w = search (free_refs, spared, free_notice_all) depth 14
