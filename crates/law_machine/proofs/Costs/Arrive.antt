-- What arrives costs twice what it brings, and a word; and what is noticed costs nothing.
use Rattle.std.proofs.Common.{ℕ, suc, ◌+◌, ◌≤◌, Bool, true, false, List, ◌∷◌, Option, Some, None, ◌==◌, length, arith}
use Rattle.def_machine.specs.Values.{Words, Value, Ref, Naming}
use Rattle.def_machine.specs.State.{Message, Standing, Viewed, Settled, Known, Passed, Passeds, Plain, AGift, Many, NoMore, More, Note, Deliver, Open, Ask, SettledTo, Elsewhere, Shorten, Delivery, GiftEntry, Vat, Done, Gives, Throws, Ejects, Stops, Act, ◌>>=◌, and_then, give}
use Rattle.def_machine.specs.Refs as refs
use Rattle.def_machine.specs.Refs.{Place, Away}
use Rattle.def_machine.specs.Arrive as arrive
use Rattle.def_machine.specs.Arrive.{Incoming, Old, New}
use Rattle.law_machine.specs.Costs.Sizes.{load, loads, note_load}
use Rattle.law_machine.proofs.Costs.Costs.{Prices, Short, worth, Ends, Costs, cost_up, cost_bind, free_bind, free_then, cost_give, cost_look, cost_if, free_each, cost_tell, cost_list, cost_out, cost_gift, cost_open, cost_mark}
use Rattle.law_machine.proofs.Costs.Refs.{cost_alter, cost_come, cost_mail, cost_draw, free_settle, free_resolve, free_send_on, free_inform}

module _ (P : Prices) {N W : Type 0} (K : Naming N W) where
  -- ---- learning

  learn_name : (x : Incoming N W) → Costs P 10 0 (arrive.learn_name K x)
  unfolding arrive.learn_name
  learn_name (Old n) = cost_give P n
  learn_name (New x h) = cost_come P K _ h

  learn_value : (y : Value (Incoming N W)) → Costs P 10 0 (arrive.learn_value K y)
  unfolding arrive.learn_value
  learn_value (Ref x) = free_bind P (learn_name x) (λ n. cost_give P _)
  learn_value other = cost_give P _

  ask_for : (p h i : ℕ) (n : N) → Costs P 10 0 (arrive.ask_for K p h i n)
  unfolding arrive.ask_for
  ask_for p h i n = free_bind P (cost_look P _) (λ gone. cost_if P gone (free_settle P K n _) (cost_out P h (Ask p i n) (omega arith)))

  learn_gift : (p h i : ℕ) → Costs P 10 0 (arrive.learn_gift K p h i)
  unfolding arrive.learn_gift
  learn_gift p h i = free_bind P (cost_come P K _ h) (λ n. free_then P (ask_for p h i n) (cost_give P _))

  make_list : (vs : List (Value N)) → length vs ≤ P.fuel → Costs P (11 + length vs) (1 + length vs) (arrive.make_list K vs)
  unfolding arrive.make_list
  make_list vs l = cost_bind P (cost_list P vs l) (λ k. free_then P (cost_tell P _) (cost_give P _)) (omega arith) (omega arith) (omega arith)

  -- It costs twice that load, less one for each value that it gives.
  abbrev Learns : {A : Type 0} → (A → ℕ) → ℕ → ℕ → Done N A → Type 0
  Learns many w n (Gives a t) = Short P t × (worth P t + many a ≤ w + (n + n)) × (many a ≤ n)
  Learns many w n (Throws p t) = Short P t × (worth P t ≤ w + (n + n))
  Learns many w n (Ejects i v t) = Short P t × (worth P t ≤ w + (n + n))
  Learns many w n (Stops c t) = Unit {0}

  abbrev one : Value N → ℕ
  one v = 1

  free_learns : (w : ℕ) (d : Done N (Value N)) → Ends P w 10 0 d → Learns one w 1 d
  free_learns w (Gives v t) h = (h.0, omega (arith, h.1), omega arith)
  free_learns w (Stops c t) h = tt
  free_learns w other h = (h.0, omega (arith, h.1))

  listed : (v w m n : ℕ) (d : Done N (Value N)) → v + m ≤ w + (n + n) → Ends P v (11 + m) (1 + m) d → Learns one w (suc n) d
  listed v w m n (Gives x t) l h = (h.0, omega (arith, l, h.1), omega arith)
  listed v w m n (Stops c t) l h = tt
  listed v w m n other l h = (h.0, omega (arith, l, h.1))

  then_list : (w n : ℕ) → n ≤ P.fuel → (d : Done N (List (Value N))) → Learns length w n d → Learns one w (suc n) (and_then d (λ vs. arrive.make_list K vs))
  unfolding and_then
  then_list w n l (Gives vs t) h = listed (worth P t) w (length vs) n (arrive.make_list K vs t) h.1 ((make_list vs (omega (arith, l, h.2))).after t h.0)
  then_list w n l (Stops c t) h = tt
  then_list w n l other h = (h.0, omega (arith, h.1))

  more_learnt : (v w m n : ℕ) (x : Value N) → v + 1 ≤ w + (m + m) → 1 ≤ m → (d : Done N (List (Value N))) → Learns length v n d → Learns length w (m + n) (and_then d (λ vs. give (x ∷ vs)))
  unfolding and_then give
  more_learnt v w m n x l k (Gives vs t) h = (h.0, omega (arith, l, h.1), omega (arith, k, h.2))
  more_learnt v w m n x l k (Stops c t) h = tt
  more_learnt v w m n x l k other h = (h.0, omega (arith, l, h.1))

  learn_rest : (p : ℕ) (ys : Passeds (Incoming N W)) (w m : ℕ) (d : Done N (Value N)) → Learns one w m d → ((t : Vat N) → Short P t → Learns length (worth P t) (loads ys) (arrive.learn_all K p ys t))
      → Learns length w (m + loads ys) (and_then d (λ v. arrive.learn_all K p ys >>= λ vs. give (v ∷ vs)))
  unfolding ◌>>=◌ and_then
  learn_rest p ys w m (Gives v t) h all = more_learnt (worth P t) w m (loads ys) v h.1 h.2 (arrive.learn_all K p ys t) (all t h.0)
  learn_rest p ys w m (Stops c t) h all = tt
  learn_rest p ys w m other h all = (h.0, omega (arith, h.1))

  mutual
    unfolding arrive.learn arrive.learn_all ◌>>=◌ give

    learn : (p : ℕ) (y : Passed (Incoming N W)) → load y ≤ P.fuel → (s : Vat N) → Short P s → Learns one (worth P s) (load y) (arrive.learn K p y s)
    learn p (Plain y) l s short = free_learns (worth P s) (arrive.learn_value K y s) ((learn_value y).after s short)
    learn p (AGift h i) l s short = free_learns (worth P s) (arrive.learn_gift K p h i s) ((learn_gift p h i).after s short)
    learn p (Many ys) l s short = then_list (worth P s) (loads ys) (omega (arith, l)) (arrive.learn_all K p ys s) (learn_all p ys (omega (arith, l)) s short)

    learn_all : (p : ℕ) (ys : Passeds (Incoming N W)) → loads ys ≤ P.fuel → (s : Vat N) → Short P s → Learns length (worth P s) (loads ys) (arrive.learn_all K p ys s)
    learn_all p NoMore l s short = (short, omega arith, omega arith)
    learn_all p (More y ys) l s short = learn_rest p ys (worth P s) (load y) (arrive.learn K p y s) (learn p y (omega (arith, l)) s short) (λ t k. learn_all p ys (omega (arith, l)) t k)

  learning : {A : Type 0} (many : A → ℕ) (w n : ℕ) (d : Done N A) → Learns many w n d → Ends P w (10 + (n + n)) (10 + (n + n)) d
  learning many w n (Stops c t) h = tt
  learning many w n other h = (h.0, omega (arith, h.1))

  cost_learn : (p : ℕ) (y : Passed (Incoming N W)) → load y ≤ P.fuel → Costs P (10 + (load y + load y)) (10 + (load y + load y)) (arrive.learn K p y)
  cost_learn p y l = record { after = λ s short. learning one (worth P s) (load y) (arrive.learn K p y s) (learn p y l s short) }

  cost_learn_all : (p : ℕ) (ys : Passeds (Incoming N W)) → loads ys ≤ P.fuel → Costs P (10 + (loads ys + loads ys)) (10 + (loads ys + loads ys)) (arrive.learn_all K p ys)
  cost_learn_all p ys l = record { after = λ s short. learning length (worth P s) (loads ys) (arrive.learn_all K p ys s) (learn_all p ys l s short) }

  learn_message : (x : Incoming N W) → Costs P 10 0 (arrive.learn_message K x)
  unfolding arrive.learn_message
  learn_message (Old n) = cost_give P n
  learn_message (New x h) = cost_mail P K _

  -- ---- gifts at their host

  gift_or_new : (v p i : ℕ) (o : Option (GiftEntry N)) → Costs P 10 0 (arrive.gift_or_new K v p i o)
  unfolding arrive.gift_or_new
  gift_or_new v p i (Some g) = cost_give P _
  gift_or_new v p i None = free_bind P (cost_come P K _ v) (λ n. free_then P (cost_gift P n p i) (cost_give P n))

  have_gift : (p i : ℕ) → Costs P 10 0 (arrive.have_gift K p i)
  unfolding arrive.have_gift
  have_gift p i = free_bind P (cost_look P _) (λ v. free_bind P (cost_look P _) (λ g. gift_or_new v p i g))

  break_at : (n : N) (p : Words) (x : Standing N) → Costs P 10 0 (arrive.break_at K n p x)
  unfolding arrive.break_at
  break_at n p (Settled y) = cost_give P tt
  break_at n p other = free_settle P K n _

  break_unopened : (n : N) (b : Bool) → Costs P 10 0 (arrive.break_unopened K n b)
  unfolding arrive.break_unopened
  break_unopened n true = cost_give P tt
  break_unopened n false = free_bind P (cost_look P _) (λ t. break_at n _ t)

  tell_asker : (n : N) (w : ℕ) (x : Standing N) → Costs P 10 0 (arrive.tell_asker K n w x)
  unfolding arrive.tell_asker
  tell_asker n w (Settled y) = free_inform P K n w
  tell_asker n w other = cost_alter P K _ n

  -- ---- arrival

  sends_on : (m : Message N) → Costs P 10 0 (refs.send_on K (refs.settle K) m)
  sends_on m = free_send_on P K (refs.settle K) (λ q z. free_settle P K q z) m

  send_on_asked : (from : ℕ) (id n : N) (verb : Words) (args : List (Value N)) → Costs P 10 0 (arrive.send_on_asked K from id n verb args)
  unfolding arrive.send_on_asked
  send_on_asked from id n verb args = free_bind P (cost_look P _) (λ v. free_bind P (cost_come P K _ v) (λ a. free_then P (cost_alter P K _ a) (sends_on _)))

  -- what a note brings, twice, and a word
  abbrev Brings : ℕ → Act N (Unit {0}) → Type 0
  Brings n m = Costs P (11 + (n + n)) (11 + (n + n)) m

  free_brings : (n : ℕ) {m : Act N (Unit {0})} → Costs P 10 0 m → Brings n m
  free_brings n h = cost_up P (omega arith) (omega arith) h

  deliver : (from : ℕ) (d : Delivery (Incoming N W)) (x : Incoming N W) (verb : Words) (ys : Passeds (Incoming N W)) → loads ys ≤ P.fuel → Brings (loads ys) (arrive.arrive_deliver K from d x verb ys)
  unfolding arrive.arrive_deliver
  deliver from d x verb ys l = free_bind P (learn_message d.message) (λ id. cost_bind P (cost_learn_all from ys l)
      (λ args. free_bind P (learn_name x) (λ n. cost_if P d.asks (send_on_asked from id n verb args) (sends_on _))) (omega arith) (omega arith) (omega arith))

  opens : (from i : ℕ) (x : Incoming N W) → Costs P 10 0 (arrive.arrive_open K from i x)
  unfolding arrive.arrive_open
  opens from i x = free_bind P (learn_name x) (λ y. free_bind P (have_gift from i) (λ n. free_then P (cost_open P from i) (free_resolve P K n _)))

  break_orphan : (p i : ℕ) (n : N) → Costs P 10 0 (arrive.break_orphan K p i n)
  unfolding arrive.break_orphan
  break_orphan p i n = free_bind P (cost_look P _) (λ gone. free_bind P (cost_look P _) (λ opened. cost_if P gone (break_unopened n opened) (cost_give P tt)))

  asks : (from p i : ℕ) → Costs P 10 0 (arrive.arrive_ask K from p i)
  unfolding arrive.arrive_ask
  asks from p i = free_bind P (have_gift p i) (λ n. free_then P (break_orphan p i n) (free_bind P (cost_look P _) (λ t. tell_asker n from t)))

  settled : (from : ℕ) (x : Incoming N W) (y : Passed (Incoming N W)) → load y ≤ P.fuel → Brings (load y) (arrive.arrive_settled K from x y)
  unfolding arrive.arrive_settled
  settled from x y l = free_bind P (learn_name x) (λ n. cost_bind P (cost_learn from y l) (λ z. free_settle P K n z) (omega arith) (omega arith) (omega arith))

  see : (n g : N) → Costs P 10 0 (arrive.see K n g)
  unfolding arrive.see
  see n g = free_then P (cost_tell P _) (free_then P (cost_alter P K _ n) (cost_alter P K _ g))

  gift_there : (v h c i : ℕ) → Costs P 10 0 (arrive.gift_there K v h c i)
  unfolding arrive.gift_there
  gift_there v h c i = cost_if P (c == v) (have_gift h i) (free_bind P (cost_come P K _ c) (λ g. free_then P (cost_out P c _ (omega arith)) (cost_give P g)))

  view_there : (n : N) (c : ℕ) → Costs P 11 10 (arrive.view_there K n c)
  unfolding arrive.view_there
  view_there n c = free_bind P (cost_look P _) (λ v. free_bind P (cost_look P _) (λ h. cost_bind P (cost_draw P K)
      (λ i. free_then P (cost_out P h _ (omega arith)) (free_bind P (gift_there v h c _) (λ g. see n g))) (omega arith) (omega arith) (omega arith)))

  elsewhere : (x : Incoming N W) (c : ℕ) → Costs P 11 10 (arrive.arrive_elsewhere K x c)
  unfolding arrive.arrive_elsewhere
  elsewhere x c = free_bind P (learn_name x) (λ n. free_bind P (cost_look P _) (λ gone. cost_if P gone (cost_up P (omega arith) (omega arith) (free_settle P K n _)) (view_there n c)))

  shorten_to : (i : ℕ) (p : Place N) → Costs P 10 0 (arrive.shorten_to K i p)
  unfolding arrive.shorten_to
  shorten_to i (Away h n true) = cost_out P h _ (omega arith)
  shorten_to i other = cost_give P tt

  shortens : (x : Incoming N W) (i : ℕ) → Costs P 10 0 (arrive.arrive_shorten K x i)
  unfolding arrive.arrive_shorten
  shortens x i = free_bind P (learn_name x) (λ n. free_bind P (cost_look P _) (λ p. shorten_to i p))

  pub cost_arrive : (from : ℕ) (n : Note (Incoming N W)) → note_load n ≤ P.fuel → Brings (note_load n) (arrive.arrive K from n)
  unfolding arrive.arrive
  cost_arrive from (Deliver d x verb ys) l = deliver from d x verb ys l
  cost_arrive from (Open i x) l = free_brings 0 (opens from i x)
  cost_arrive from (Ask p i x) l = free_brings 0 (asks from p i)
  cost_arrive from (SettledTo x y) l = settled from x y l
  cost_arrive from (Elsewhere x c) l = cost_up P (omega arith) (omega arith) (elsewhere x c)
  cost_arrive from (Shorten x c i) l = free_brings 0 (shortens x i)

  -- ---- notice

  break_hosted : (w : ℕ) (n : N) (p : Words) (x : Standing N) → Costs P 10 0 (arrive.break_hosted K w n p x)
  unfolding arrive.break_hosted
  break_hosted w n p (Viewed q) = cost_give P tt
  break_hosted w n p (Settled y) = cost_give P tt
  break_hosted w n p other = free_settle P K n _

  notice_name : (w : ℕ) (k : Known N) → Costs P 10 0 (arrive.notice_name K w k)
  unfolding arrive.notice_name
  notice_name w k = free_bind P (cost_look P _) (λ t. cost_if P (k.host == w) (break_hosted w k.name _ t) (cost_give P tt))

  notice_gift : (w : ℕ) (g : GiftEntry N) → Costs P 10 0 (arrive.notice_gift K w g)
  unfolding arrive.notice_gift
  notice_gift w g = cost_if P (g.provider == w) (break_unopened g.name g.opened) (cost_give P tt)

  notice_all : (w : ℕ) → Costs P 10 0 (arrive.notice_all K w)
  unfolding arrive.notice_all
  notice_all w = free_then P (cost_mark P w) (free_bind P (cost_look P _) (λ names. free_then P (free_each P names (λ k. notice_name w k)) (free_bind P (cost_look P _) (λ gifts. free_each P gifts (λ g. notice_gift w g)))))

  pub free_notice : (w : ℕ) → Costs P 10 0 (arrive.notice K w)
  unfolding arrive.notice
  free_notice w = free_bind P (cost_look P _) (λ gone. cost_if P gone (cost_give P tt) (notice_all w))
