-- What a vat does keeps what single changes and blocks keep, where a settling, with all that it tells, is one block, and a note that lets a gift go is put with a draw.
use Rattle.std.proofs.Common.{◌≡◌, ℕ, zero, suc, Bool, true, false, List, [], ◌∷◌, ◌++◌, Option, Some, None, refl, sym, ◌∙◌, length}
use Rattle.def_machine.specs.Values.{Words, Value, Broken, Ref, Name, Naming, Coming, Mailing, IsOwn, under}
use Rattle.def_machine.specs.State.{Binding, Message, Standing, Unsettled, WaitsOn, Viewed, Settled, Known, Change, ToTell, Passed, Passeds, Plain, AGift, Many, NoMore, More, Delivery, Note, Deliver, Open, Ask, SettledTo, Elsewhere, Shorten, GiftEntry, Vat, Act, ◌>>=◌, ◌>>◌, and_then, give, look, each, for_some, enqueue, send_out, new_gift, open_gift, mark, alter, come, mail, new_message, new_lone_message, draw, begun}
use Rattle.def_machine.specs.Refs as refs
use Rattle.def_machine.specs.Refs.{Place, Near, Mine, Away, Gone}
use Rattle.def_machine.specs.Arrive as arrive
use Rattle.def_machine.specs.Arrive.{Incoming, Old, New}
use Rattle.def_machine.specs.Eval as eval
use Rattle.def_kernel.specs.declared.node.Node.{Node}
use Rattle.law_machine.specs.Machine.Steps.{After}
use Rattle.law_order.proofs.Ordering.Moves.{Keeps, IsKept, IsKeptUnder, keeps_bind, keeps_then, keeps_if, keeps_give, keeps_stop, keeps_look, keeps_tell, keeps_spend, keeps_list}
use Rattle.law_order.proofs.Ordering.Passings.{keeps_pass, keeps_pass_all}
use Rattle.law_order.proofs.Ordering.Evals.{keeps_opening, keeps_taking}

-- what is to be shown of a relation
pub record IsWalkedWhole (K : Naming Name Name) (R : Vat Name → Vat Name → Type 0) : Type 0 where
  pub base : IsKept R
  pub queues : (m : Message Name) → Keeps R (enqueue m)
  pub gifts : (n : Name) (p j : ℕ) → Keeps R (new_gift n p j)
  pub opens : (p j : ℕ) → Keeps {N = Name} R (open_gift p j)
  pub marks : (w : ℕ) → Keeps {N = Name} R (mark w)
  pub alters : (c : Change Name) (n : Name) → Keeps R (alter K c n)
  pub comes : (c : Coming Name Name) (h : ℕ) → Keeps R (come K c h)
  pub mails : (c : Mailing Name) → Keeps R (mail K c)
  pub messages : (h : ℕ) → Keeps R (new_message K h)
  pub lones : Keeps R (new_lone_message K)
  pub promised : (s : Vat Name) → R s (record s { promises = suc s.promises; known = s.known ++ begun (K.made (IsOwn s.promises) (length s.known)) s.number ∷ [] })
  pub delivers : (w : ℕ) (d : Delivery Name) (n : Name) (verb : Words) (ys : Passeds Name) → Keeps R (send_out w (Deliver d n verb ys))
  pub asks : (w p j : ℕ) (n : Name) → Keeps R (send_out w (Ask p j n))
  -- a gift is let go as its word is drawn, and so is one whose provider is asked to
  pub lets : (h : ℕ) (n : Name) → Keeps {A = Passed Name} R (draw K >>= (λ j. send_out h (Open j n) >> give (AGift h j)))
  pub wants : (h c : ℕ) (n : Name) (f : ℕ → Act Name (Unit {0})) → ((j : ℕ) → Keeps R (f j)) → Keeps R (draw K >>= (λ j. send_out h (Shorten n c (under h j)) >> f j))
  -- a name settles that did not settle before: all that follows inside keeps it but that vats are told of that name
  pub settles : (settle : Name → Value Name → Act Name (Unit {0})) → ((p : Name) (y : Value Name) → Keeps R (settle p y)) → ((m : Message Name) → Keeps R (refs.send_on K settle m))
      → (p : Name) (y : Value Name) (k : Known Name) (s : Vat Name) → refs.entry_of K s.known p ≡ Some k → ((z : Value Name) → k.standing ≡ Settled z → ⊥) → After R s (refs.settle_known K settle p y k s)

unsettled_apart : (z : Value Name) → ◌≡◌ {A = Standing Name} Unsettled (Settled z) → ⊥
unsettled_apart z e = cc

waiting_apart : (q : Name) (z : Value Name) → ◌≡◌ {A = Standing Name} (WaitsOn q) (Settled z) → ⊥
waiting_apart q z e = cc

viewed_apart : (q : Name) (z : Value Name) → ◌≡◌ {A = Standing Name} (Viewed q) (Settled z) → ⊥
viewed_apart q z e = cc

ruleset walks = (keeps_bind, keeps_then, keeps_if, keeps_give, keeps_stop, keeps_look, keeps_tell, keeps_spend, keeps_list)

module _ (K : Naming Name Name) (R : Vat Name → Vat Name → Type 0) (law : IsWalkedWhole K R) where
  base : IsKept R
  base = law.base

  queue : (m : Message Name) → Keeps R (enqueue m)
  queue m = law.queues m

  changes : (c : Change Name) (n : Name) → Keeps R (alter K c n)
  changes c n = law.alters c n

  coming : (c : Coming Name Name) (h : ℕ) → Keeps R (come K c h)
  coming c h = law.comes c h

  deliver_out : (w : ℕ) (d : Delivery Name) (n : Name) (verb : Words) (ys : Passeds Name) → Keeps R (send_out w (Deliver d n verb ys))
  deliver_out w d n verb ys = law.delivers w d n verb ys

  -- ---- acts of references

  passing : (h : ℕ) (x : Value Name) → Keeps R (refs.pass K h x)
  passing h x = keeps_pass K R law.base (λ w n. law.alters (ToTell w) n) law.lets h x

  passing_all : (h : ℕ) (xs : List (Value Name)) → Keeps R (refs.pass_all K h xs)
  passing_all h xs = keeps_pass_all K R law.base (λ w n. law.alters (ToTell w) n) law.lets h xs

  delivering : (m : Message Name) (h : ℕ) (n : Name) → Keeps R (refs.deliver K m h n)
  unfolding refs.deliver
  delivering m h n = search (walks, base, passing_all, deliver_out) depth 14

  waiting_on : (p q : Name) → Keeps R (refs.wait_on K p q)
  unfolding refs.wait_on
  waiting_on p q = search (walks, base, changes) depth 14

  some : {A B : Type 0} (o : Option A) {f : A → Act Name B} {m : Act Name B} → ((a : A) → Keeps R (f a)) → Keeps R m → Keeps R (for_some o f m)
  unfolding for_some
  some (Some a) h k = h a
  some None h k = k

  all : {A : Type 0} {f : A → Act Name (Unit {0})} (xs : List A) → ((x : A) → Keeps R (f x)) → Keeps R (each f xs)
  unfolding each
  all [] h = keeps_give R law.base tt
  all (x ∷ xs) h = keeps_then R law.base (h x) (all xs h)

  passing_on : (m : Message Name) (h : ℕ) (n : Name) → Keeps R (refs.pass_on K m h n)
  unfolding refs.pass_on
  passing_on m h n = search (walks, base, some, coming, delivering, waiting_on) depth 14

  abbrev pub GoodSettler : (Name → Value Name → Act Name (Unit {0})) → Type 0
  GoodSettler settle = (p : Name) (y : Value Name) → Keeps R (settle p y)

  module _ (settle : Name → Value Name → Act Name (Unit {0})) (good : GoodSettler settle) where
    sending_to : (m : Message Name) (y : Value Name) (p : Place Name) → Keeps R (refs.send_to K settle m y p)
    unfolding refs.send_to
    sending_to m y Near = queue (record m { target = y })
    sending_to m y (Mine n) = changes _ n
    sending_to m y (Away h n o) = passing_on m h n
    sending_to m y (Gone p) = search (walks, base, some, good) depth 14

    pub sending_on : (m : Message Name) → Keeps R (refs.send_on K settle m)
    unfolding refs.send_on
    sending_on m = search (walks, base, sending_to) depth 14

    settling_standing : (p : Name) (y : Value Name) (k : Known Name) (s : Vat Name) → refs.entry_of K s.known p ≡ Some k → (x : Standing Name) → k.standing ≡ x → After R s (refs.settle_standing K settle p y k x s)
    unfolding refs.settle_standing give
    settling_standing p y k s e (Settled z) i = law.base.same s
    settling_standing p y k s e Unsettled i = law.settles settle good sending_on p y k s e (λ z j. unsettled_apart z (sym i ∙ j))
    settling_standing p y k s e (WaitsOn q) i = law.settles settle good sending_on p y k s e (λ z j. waiting_apart q z (sym i ∙ j))
    settling_standing p y k s e (Viewed q) i = law.settles settle good sending_on p y k s e (λ z j. viewed_apart q z (sym i ∙ j))

    settling_entry : (p : Name) (y : Value Name) (s : Vat Name) (o : Option (Known Name)) → refs.entry_of K s.known p ≡ o → After R s (refs.settle_entry K settle p y o s)
    unfolding refs.settle_entry give
    settling_entry p y s None e = law.base.same s
    settling_entry p y s (Some k) e = settling_standing p y k s e k.standing refl

    settling_one : GoodSettler (refs.settle_one K settle)
    unfolding refs.settle_one ◌>>=◌ and_then look
    settling_one p y = record { after = λ s. settling_entry p (refs.target_of K s p y) s (refs.entry_of K s.known p) refl }

  settling_at : (d : ℕ) → GoodSettler (refs.settle_at K d)
  unfolding refs.settle_at
  settling_at zero p y = search (walks, base) depth 14
  settling_at (suc d) p y = settling_one (λ q z. refs.settle_at K d q z) (λ q z. settling_at d q z) p y

  pub settling : GoodSettler (refs.settle K)
  unfolding refs.settle
  settling p y = search (walks, base, settling_at) depth 14

  waiting_unless : (p q : Name) → Keeps R (refs.wait_unless_cycle K p q)
  unfolding refs.wait_unless_cycle
  waiting_unless p q = search (walks, base, settling, waiting_on) depth 14

  resolving_to : (p : Name) (y : Value Name) (q : Place Name) → Keeps R (refs.resolve_to K p y q)
  unfolding refs.resolve_to
  resolving_to p y (Mine q) = waiting_unless p q
  resolving_to p y (Away h q false) = waiting_unless p q
  resolving_to p y _ = settling p y

  resolving : GoodSettler (refs.resolve K)
  unfolding refs.resolve
  resolving p y = search (walks, base, resolving_to) depth 14

  sending_first : (m : Message Name) (y : Value Name) (p : Place Name) → Keeps R (refs.send_first K m y p)
  unfolding refs.send_first
  sending_first m y (Away h n o) = delivering m h n
  sending_first m y p = sending_to (refs.settle K) settling m y p

  new : (h : ℕ) → Keeps R (new_message K h)
  new h = law.messages h

  alone : Keeps R (new_lone_message K)
  alone = law.lones

  sending : (act : ℕ) (y : Value Name) (verb : Words) (args : List (Value Name)) → Keeps R (refs.send K act y verb args)
  unfolding refs.send
  sending act y verb args = search (walks, base, new, sending_first) depth 14

  sending_only : (act : ℕ) (y : Value Name) (verb : Words) (args : List (Value Name)) → Keeps R (refs.send_only K act y verb args)
  unfolding refs.send_only
  sending_only act y verb args = search (walks, base, alone, sending_first) depth 14

  reacting_at : (m : Message Name) (p : Place Name) → Keeps R (refs.react_at K m p)
  unfolding refs.react_at
  reacting_at m (Mine n) = changes _ n
  reacting_at m (Away h n false) = changes _ n
  reacting_at m other = queue m

  reacting : (act : ℕ) (y o near : Value Name) → Keeps R (refs.react K act y o near)
  unfolding refs.react
  reacting act y o near = search (walks, base, new, reacting_at) depth 14

  -- ---- turns

  under_names : IsKeptUnder K R
  under_names = record { promised = law.promised; settles = settling; resolves = resolving; sends = sending; sends_only = sending_only; reacts = reacting }

  pub whole_opening : (tree : List Node) (depth : ℕ) (p : Name) (given : List (Binding Name)) → Keeps R (eval.opening K tree depth p given)
  whole_opening tree depth p given = keeps_opening K R law.base under_names tree depth p given

  pub whole_taking : (tree : List Node) (depth : ℕ) (m : Message Name) → Keeps R (eval.taking K tree depth m)
  whole_taking tree depth m = keeps_taking K R law.base under_names tree depth m

  -- ---- what arrives

  mailing : (c : Mailing Name) → Keeps R (mail K c)
  mailing c = law.mails c

  gift : (n : Name) (p j : ℕ) → Keeps R (new_gift n p j)
  gift n p j = law.gifts n p j

  opening : (p j : ℕ) → Keeps {N = Name} R (open_gift p j)
  opening p j = law.opens p j

  asking : (w p j : ℕ) (n : Name) → Keeps R (send_out w (Ask p j n))
  asking w p j n = law.asks w p j n

  marking : (w : ℕ) → Keeps {N = Name} R (mark w)
  marking w = law.marks w

  pub whole_learn_name : (z : Incoming Name Name) → Keeps R (arrive.learn_name K z)
  unfolding arrive.learn_name
  whole_learn_name (Old n) = search (walks, base) depth 14
  whole_learn_name (New n h) = coming _ h

  learning_value : (y : Value (Incoming Name Name)) → Keeps R (arrive.learn_value K y)
  unfolding arrive.learn_value
  learning_value (Ref z) = search (walks, base, whole_learn_name) depth 14
  learning_value other = search (walks, base) depth 14

  asking_for : (p h j : ℕ) (n : Name) → Keeps R (arrive.ask_for K p h j n)
  unfolding arrive.ask_for
  asking_for p h j n = search (walks, base, settling, asking) depth 14

  learning_gift : (p h j : ℕ) → Keeps R (arrive.learn_gift K p h j)
  unfolding arrive.learn_gift
  learning_gift p h j = search (walks, base, coming, asking_for) depth 14

  making_list : (vs : List (Value Name)) → Keeps R (arrive.make_list K vs)
  unfolding arrive.make_list
  making_list vs = search (walks, base) depth 14

  mutual
    unfolding arrive.learn arrive.learn_all

    learning : (p : ℕ) (y : Passed (Incoming Name Name)) → Keeps R (arrive.learn K p y)
    learning p (Plain y) = learning_value y
    learning p (AGift h j) = learning_gift p h j
    learning p (Many ys) = let rest = learning_all p ys in search (walks, base, making_list) depth 14

    learning_all : (p : ℕ) (ys : Passeds (Incoming Name Name)) → Keeps R (arrive.learn_all K p ys)
    learning_all p NoMore = search (walks, base) depth 14
    learning_all p (More y ys) = let one = learning p y in let rest = learning_all p ys in search (walks, base) depth 14

  learning_message : (z : Incoming Name Name) → Keeps R (arrive.learn_message K z)
  unfolding arrive.learn_message
  learning_message (Old n) = search (walks, base) depth 14
  learning_message (New n h) = mailing _

  gift_or_new : (v p j : ℕ) (o : Option (GiftEntry Name)) → Keeps R (arrive.gift_or_new K v p j o)
  unfolding arrive.gift_or_new
  gift_or_new v p j (Some g) = search (walks, base) depth 14
  gift_or_new v p j None = search (walks, base, coming, gift) depth 14

  pub having : (p j : ℕ) → Keeps R (arrive.have_gift K p j)
  unfolding arrive.have_gift
  having p j = search (walks, base, gift_or_new) depth 14

  breaking_at : (n : Name) (p : Words) (t : Standing Name) → Keeps R (arrive.break_at K n p t)
  unfolding arrive.break_at
  breaking_at n p (Settled y) = search (walks, base) depth 14
  breaking_at n p _ = settling n (Broken p)

  breaking_unopened : (n : Name) (b : Bool) → Keeps R (arrive.break_unopened K n b)
  unfolding arrive.break_unopened
  breaking_unopened n true = search (walks, base) depth 14
  breaking_unopened n false = search (walks, base, breaking_at) depth 14

  answering : (from : ℕ) (id n : Name) (verb : Words) (args : List (Value Name)) → Keeps R (arrive.send_on_asked K from id n verb args)
  unfolding arrive.send_on_asked
  answering from id n verb args = let on = λ (m : Message Name). sending_on (refs.settle K) settling m in search (walks, base, coming, changes) depth 14

  arriving_deliver : (from : ℕ) (d : Delivery (Incoming Name Name)) (z : Incoming Name Name) (verb : Words) (ys : Passeds (Incoming Name Name)) → Keeps R (arrive.arrive_deliver K from d z verb ys)
  unfolding arrive.arrive_deliver
  arriving_deliver from d z verb ys = let on = λ (m : Message Name). sending_on (refs.settle K) settling m in search (walks, base, learning_message, learning_all, whole_learn_name, answering) depth 20

  arriving_open : (from j : ℕ) (z : Incoming Name Name) → Keeps R (arrive.arrive_open K from j z)
  unfolding arrive.arrive_open
  arriving_open from j z = search (walks, base, whole_learn_name, having, opening, resolving) depth 14

  pub breaking_orphan : (p j : ℕ) (n : Name) → Keeps R (arrive.break_orphan K p j n)
  unfolding arrive.break_orphan
  breaking_orphan p j n = search (walks, base, breaking_unopened) depth 14

  arriving_settled : (from : ℕ) (z : Incoming Name Name) (y : Passed (Incoming Name Name)) → Keeps R (arrive.arrive_settled K from z y)
  unfolding arrive.arrive_settled
  arriving_settled from z y = search (walks, base, whole_learn_name, learning, settling) depth 14

  seeing : (n g : Name) → Keeps R (arrive.see K n g)
  unfolding arrive.see
  seeing n g = search (walks, base, changes) depth 14

  gift_there : (v h c j : ℕ) → Keeps R (arrive.gift_there K v h c j)
  unfolding arrive.gift_there
  gift_there v h c j = search (walks, base, having, coming, asking) depth 14

  view_then : (v h c : ℕ) (n : Name) (j : ℕ) → Keeps R (arrive.gift_there K v h c (under h j) >>= (λ g. arrive.see K n g))
  view_then v h c n j = keeps_bind R law.base (gift_there v h c (under h j)) (λ g. seeing n g)

  wanting : (v h : ℕ) (n : Name) (c : ℕ) → Keeps R (draw K >>= (λ j. send_out h (Shorten n c (under h j)) >> (arrive.gift_there K v h c (under h j) >>= (λ g. arrive.see K n g))))
  wanting v h n c = law.wants h c n (λ j. arrive.gift_there K v h c (under h j) >>= (λ g. arrive.see K n g)) (λ j. view_then v h c n j)

  view_there : (n : Name) (c : ℕ) → Keeps R (arrive.view_there K n c)
  unfolding arrive.view_there
  view_there n c = search (keeps_bind, keeps_look, base, wanting) depth 14

  arriving_elsewhere : (z : Incoming Name Name) (c : ℕ) → Keeps R (arrive.arrive_elsewhere K z c)
  unfolding arrive.arrive_elsewhere
  arriving_elsewhere z c = search (walks, base, whole_learn_name, settling, view_there) depth 14

  -- any note but one that asks for a gift, of its host or of its provider
  abbrev pub AsksNothing : Note (Incoming Name Name) → Type 0
  AsksNothing (Ask p j z) = ⊥
  AsksNothing (Shorten z c j) = ⊥
  AsksNothing other = Unit {0}

  pub whole_arrive : (from : ℕ) (n : Note (Incoming Name Name)) → AsksNothing n → Keeps R (arrive.arrive K from n)
  unfolding arrive.arrive
  whole_arrive from (Deliver d z verb ys) h = arriving_deliver from d z verb ys
  whole_arrive from (Open j z) h = arriving_open from j z
  whole_arrive from (SettledTo z y) h = arriving_settled from z y
  whole_arrive from (Elsewhere z c) h = arriving_elsewhere z c
  whole_arrive from other h = absurd h

  -- ---- what is noticed

  breaking_hosted : (w : ℕ) (n : Name) (p : Words) (t : Standing Name) → Keeps R (arrive.break_hosted K w n p t)
  unfolding arrive.break_hosted
  breaking_hosted w n p (Viewed q) = search (walks, base) depth 14
  breaking_hosted w n p (Settled y) = search (walks, base) depth 14
  breaking_hosted w n p other = settling n (Broken p)

  noticing_name : (w : ℕ) (k : Known Name) → Keeps R (arrive.notice_name K w k)
  unfolding arrive.notice_name
  noticing_name w k = search (walks, base, breaking_hosted) depth 14

  noticing_gift : (w : ℕ) (g : GiftEntry Name) → Keeps R (arrive.notice_gift K w g)
  unfolding arrive.notice_gift
  noticing_gift w g = search (walks, base, breaking_unopened) depth 14

  noticing_all : (w : ℕ) → Keeps R (arrive.notice_all K w)
  unfolding arrive.notice_all
  noticing_all w = search (walks, base, marking, all, noticing_name, noticing_gift) depth 14

  pub whole_notice : (w : ℕ) → Keeps R (arrive.notice K w)
  unfolding arrive.notice
  whole_notice w = search (walks, base, noticing_all) depth 14
