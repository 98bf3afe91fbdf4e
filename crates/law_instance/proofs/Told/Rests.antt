-- All that a vat does with references, with notes and with cuts keeps that, where what waits, is told of, settles and breaks may do so, and what is opened and noticed.
use Rattle.std.proofs.Common.{◌≡◌, ℕ, zero, suc, Bool, true, false, List, [], ◌∷◌, ◌++◌, Option, Some, None, refl, sym, ap, subst, ◌∙◌, inl, if◌then◌else◌, codes, ◌==◌}
use Rattle.std.proofs.lemmas.Bool.{eqb-true}
use Rattle.std.specs.Prelude.{nat_le}
use Rattle.def_machine.specs.Values.{Words, Value, Broken, Ref, Name, Answer, Gift, Sent, Naming, Coming, Mailing, IsOwn, IsAnswer, IsGift, IsLearnt, Msg, host_of, naming, name_of, answer_of, mail_of}
use Rattle.def_machine.specs.State.{Message, Standing, Viewed, Settled, Known, Hold, Wait, WaitOn, See, React, ToTell, Settle, Passed, Passeds, Plain, AGift, Many, NoMore, More, Delivery, Deliver, Open, Ask, SettledTo, Elsewhere, Shorten, Note, GiftEntry, Happened, Vat, Stop, Done, Gives, Act, ◌>>=◌, ◌>>◌, and_then, for_some, each, give, stop, look, tell, spend, spent, new_list, enqueue, send_out, new_gift, open_gift, mark, draws, alter, come, mail, new_promise, new_message, new_lone_message, draw, begun, is_in, Lost, WhereSome}
use Rattle.def_machine.specs.Refs as refs
use Rattle.def_machine.specs.Refs.{Place, Near, Mine, Away, Gone, entry_of, target_of}
use Rattle.def_machine.specs.Arrive as arrive
use Rattle.def_machine.specs.Arrive.{Incoming, Old, New, gift_at}
use Rattle.law_machine.proofs.Machine.Walks.{Property, Holds, IsClosed, walk, walk_bind, walk_then}
use Rattle.law_fate.specs.Name.Names.{AllOf, HostIsTrue, IsMessageName}
use Rattle.law_fate.proofs.Name.Facts.{all_end}
use Rattle.law_reference.specs.Reference.ListRingless.{told_name}
use Rattle.law_reference.proofs.Gift.Kept.{found_named}
use Rattle.law_instance.proofs.Told.Kept.{Rule, GiftKept, Holdings, opened_kept, named}
use Rattle.law_instance.proofs.Told.Kept as kept

module _ (word : ℕ → ℕ) (v : ℕ) (R : Rule v) where
  abbrev May : Name → Type 0
  May n = R.May n

  abbrev N : Naming Name Name
  N = kept.N word v R

  abbrev Kept : Vat Name → Type 0
  Kept s = kept.Kept word v R s

  abbrev Entry : Known Name → Type 0
  Entry k = kept.Entry word v R k

  abbrev MayAnswer : Message Name → Type 0
  MayAnswer m = kept.MayAnswer word v R m

  abbrev Leaves : {A : Type 0} → (A → Type 0) → Done Name A → Type 0
  Leaves G d = kept.Leaves word v R G d

  abbrev any : {A : Type 0} → A → Type 0
  any a = Unit {0}

  -- what it gives is so
  record Yields {A : Type 0} (G : A → Type 0) (m : Act Name A) : Type 0 where
    pub after : (s : Vat Name) → Kept s → Leaves G (m s)

  abbrev pub Keeps : Property Name
  Keeps A m = (s : Vat Name) → Kept s → Leaves (any {A = A}) (m s)

  -- ---- one thing after another

  bound : {A B : Type 0} (G : A → Type 0) (d : Done Name A) (f : A → Act Name B) → Leaves G d → ((a : A) → G a → Holds Keeps (f a)) → Leaves (any {A = B}) (and_then d f)
  unfolding and_then
  bound G (Gives a t) f h k = (k a h.1).after t h.0
  bound G other f h k = h

  bind_so : {A B : Type 0} (G : A → Type 0) {m : Act Name A} {f : A → Act Name B} → Yields G m → ((a : A) → G a → Holds Keeps (f a)) → Holds Keeps (m >>= f)
  unfolding ◌>>=◌
  bind_so G {m = m} {f = f} h k = record { after = λ s i. bound G (m s) f (h.after s i) k }

  of_any : {A : Type 0} {m : Act Name A} → Holds Keeps m → Yields (any {A = A}) m
  of_any h = record { after = λ s i. h.after s i }

  less_leaves : {A : Type 0} (G : A → Type 0) (d : Done Name A) → Leaves G d → Leaves (any {A = A}) d
  less_leaves G (Gives a t) h = (h.0, tt)
  less_leaves G other h = h

  less : {A : Type 0} (G : A → Type 0) {m : Act Name A} → Yields G m → Holds Keeps m
  less G {m = m} h = record { after = λ s i. less_leaves G (m s) (h.after s i) }

  rest_give : {A : Type 0} (a : A) → Holds Keeps (give a)
  unfolding give
  rest_give a = record { after = λ s h. (h, tt) }

  rest_stop : {A : Type 0} (c : Stop) → Holds Keeps (stop {A = A} c)
  unfolding stop
  rest_stop c = record { after = λ s h. h }

  rest_look : {A : Type 0} (f : Vat Name → A) → Holds Keeps (look f)
  unfolding look
  rest_look f = record { after = λ s h. (h, tt) }

  closed : IsClosed Keeps
  closed = record { gives = rest_give; stops = rest_stop; looks = rest_look; binds = λ {A} {B} {m} {f} h k. bind_so (any {A = A}) (of_any h) (λ a i. k a) }

  some_so : {A B : Type 0} (F : A → Type 0) (o : Option A) {f : A → Act Name B} {m : Act Name B} → WhereSome F o → ((a : A) → F a → Holds Keeps (f a)) → Holds Keeps m → Holds Keeps (for_some o f m)
  unfolding for_some
  some_so F (Some a) i h k = h a i
  some_so F None i h k = k

  each_so : {A : Type 0} (F : A → Type 0) {f : A → Act Name (Unit {0})} (xs : List A) → AllOf F xs → ((x : A) → F x → Holds Keeps (f x)) → Holds Keeps (each f xs)
  unfolding each
  each_so F [] i h = rest_give tt
  each_so F (x ∷ xs) i h = walk_then Keeps closed (h x i.0) (each_so F xs i.1 h)

  -- ---- single changes

  rest_tell : (e : Happened Name) → Holds Keeps (tell e)
  unfolding tell
  rest_tell e = record { after = λ s h. (h, tt) }

  spent_leaves : (n : ℕ) (b : Bool) (s : Vat Name) → Kept s → Leaves (any {A = Unit {0}}) (spent n b s)
  unfolding spent
  spent_leaves n true s h = (h, tt)
  spent_leaves n false s h = h

  rest_spend : (n : ℕ) → Holds Keeps (spend n)
  unfolding spend
  rest_spend n = record { after = λ s h. spent_leaves n (nat_le n s.fuel) s h }

  rest_list : (vs : List (Value Name)) → Holds Keeps (new_list vs)
  unfolding new_list
  rest_list vs = record { after = λ s h. (h, tt) }

  rest_queue : (m : Message Name) → MayAnswer m → Holds Keeps (enqueue m)
  unfolding enqueue
  rest_queue m i = record { after = λ s h. ((h.0, h.1, all_end MayAnswer s.queue m h.2 i, h.3), tt) }

  rest_out : (to : ℕ) (n : Note Name) → Holds Keeps (send_out to n)
  unfolding send_out
  rest_out to n = record { after = λ s h. (h, tt) }

  rest_open : (p i : ℕ) → R.Opens p i → Holds Keeps (open_gift p i)
  unfolding open_gift
  rest_open p i o = record { after = λ s h. let held = h.3 in ((h.0, h.1, h.2, record { gifts = opened_kept v R p i o s.gifts held.gifts; noticed = held.noticed }), tt) }

  rest_mark : (w : ℕ) → R.Out w → Holds Keeps (mark w)
  unfolding mark
  rest_mark w o = record { after = λ s h. let held = h.3 in ((h.0, h.1, h.2, record { gifts = held.gifts; noticed = all_end R.Out s.noticed w held.noticed o }), tt) }

  drawn_leaves : (s : Vat Name) (w : ℕ) (o : Option ℕ) → Kept s → Leaves (any {A = ℕ}) (draws w o s)
  unfolding draws
  drawn_leaves s w (Some i) h = h
  drawn_leaves s w None h = (h, tt)

  rest_draw : Holds Keeps (draw N)
  unfolding draw
  rest_draw = record { after = λ s h. drawn_leaves s _ _ h }

  alter_so : (c : _) (n : Name) → kept.Fair word v R c n → Holds Keeps (alter N c n)
  unfolding alter
  alter_so c n f = record { after = λ s h. ((h.0, kept.changes word v R c n s.known f h.1, h.2, h.3), tt) }

  rest_hold : (m : Message Name) (n : Name) → MayAnswer m → Holds Keeps (alter N (Hold m) n)
  rest_hold m n i = alter_so (Hold m) n i

  rest_react : (m : Message Name) (n : Name) → MayAnswer m → Holds Keeps (alter N (React m) n)
  rest_react m n i = alter_so (React m) n i

  rest_tells : (w : ℕ) (n : Name) → Holds Keeps (alter N (ToTell w) n)
  rest_tells w n = alter_so (ToTell w) n tt

  begun_entry : (n : Name) (h : ℕ) → Entry (begun n h)
  unfolding begun
  begun_entry n h = (inl refl, tt, tt, tt)

  comes : (c : Coming Name Name) (h : ℕ) → Yields (λ n. n ≡ name_of v c) (come N c h)
  unfolding come naming
  comes c h = record { after = λ s i. ((i.0, all_end Entry s.known (begun (name_of v c) h) i.1 (begun_entry (name_of v c) h), i.2, i.3), refl) }

  rest_come : (c : Coming Name Name) (h : ℕ) → Holds Keeps (come N c h)
  rest_come c h = less (λ n. n ≡ name_of v c) (comes c h)

  rest_mail : (c : Mailing Name) → Holds Keeps (mail N c)
  unfolding mail
  rest_mail c = record { after = λ s h. (h, tt) }

  pub rest_promise : Holds Keeps (new_promise N)
  unfolding new_promise naming
  rest_promise = record { after = λ s i. ((i.0, all_end Entry s.known (begun (name_of v (IsOwn s.promises)) s.number) i.1 (begun_entry (name_of v (IsOwn s.promises)) s.number), i.2, i.3), tt) }

  -- the answer of a new message may settle where it is the vat's own
  messages : (h : ℕ) → Yields (λ (x : Name × Name). h ≡ v → May x.1) (new_message N h)
  unfolding new_message naming name_of answer_of mail_of
  messages h = record { after = λ s i. let m : Msg = record { sender = v; number = s.messages } in ((i.0, all_end Entry s.known (begun (Answer h m) h) i.1 (begun_entry (Answer h m) h), i.2, i.3), λ e. subst (λ (u : ℕ). May (Answer u m)) (sym e) (R.answers m)) }

  bind_message : {B : Type 0} (h : ℕ) {f : Name × Name → Act Name B} → ((x : Name × Name) → (h ≡ v → May x.1) → Holds Keeps (f x)) → Holds Keeps (new_message N h >>= f)
  bind_message h k = bind_so (λ (x : Name × Name). h ≡ v → May x.1) (messages h) k

  -- the vat's number
  numbers : Yields (λ (u : ℕ). u ≡ v) (look (λ (s : Vat Name). s.number))
  unfolding look
  numbers = record { after = λ s h. (h, h.0) }

  rest_lone : Holds Keeps (new_lone_message N)
  unfolding new_lone_message
  rest_lone = record { after = λ s h. (h, tt) }

  ruleset rests = (walk, closed, rest_tell, rest_spend, rest_list, rest_queue, rest_out, rest_draw, rest_hold, rest_react, rest_tells, rest_come, rest_mail, rest_lone)

  -- ---- what passes

  rest_address_plain : (w : ℕ) (y : Value Name) (p : Place Name) → Holds Keeps (refs.address_plain N w y p)
  unfolding refs.address_plain
  rest_address_plain w y (Away h n o) = search rests depth 14
  rest_address_plain w y (Mine n) = search rests depth 14
  rest_address_plain w y _ = search rests depth 14

  mutual
    unfolding refs.address refs.address_all

    rest_address : (w : ℕ) (y : Passed Name) → Holds Keeps (refs.address N w y)
    rest_address w (Plain y) = search (rests, rest_address_plain) depth 14
    rest_address w (AGift h i) = search rests
    rest_address w (Many ys) = let rest = rest_address_all w ys in search rests

    rest_address_all : (w : ℕ) (ys : Passeds Name) → Holds Keeps (refs.address_all N w ys)
    rest_address_all w NoMore = search rests
    rest_address_all w (More y ys) = let one = rest_address w y in let rest = rest_address_all w ys in search rests

  rest_pass : (w : ℕ) (x : Value Name) → Holds Keeps (refs.pass N w x)
  unfolding refs.pass
  rest_pass w x = search (rests, rest_address) depth 14

  rest_pass_all : (w : ℕ) (xs : List (Value Name)) → Holds Keeps (refs.pass_all N w xs)
  unfolding refs.pass_all
  rest_pass_all w [] = search rests
  rest_pass_all w (x ∷ xs) = let rest = rest_pass_all w xs in search (rests, rest_pass) depth 14

  rest_deliver : (m : Message Name) (h : ℕ) (n : Name) → Holds Keeps (refs.deliver N m h n)
  unfolding refs.deliver
  rest_deliver m h n = search (rests, rest_pass_all) depth 14

  rest_inform_of : (p : Name) (w : ℕ) (y : Value Name) (q : Place Name) → Holds Keeps (refs.inform_of N p w y q)
  unfolding refs.inform_of
  rest_inform_of p w y (Away h n true) = search rests depth 14
  rest_inform_of p w y _ = search (rests, rest_pass) depth 14

  rest_inform : (p : Name) (w : ℕ) → Holds Keeps (refs.inform N p w)
  unfolding refs.inform
  rest_inform p w = search (rests, rest_inform_of) depth 14

  -- ---- settling

  -- what may settle does so
  abbrev Settler : Type 0
  Settler = Name → Value Name → Act Name (Unit {0})

  abbrev Good : Settler → Type 0
  Good settle = (p : Name) (y : Value Name) → R.May p → Holds Keeps (settle p y)

  rest_wait_on : (p q : Name) → May p → Holds Keeps (refs.wait_on N p q)
  unfolding refs.wait_on
  rest_wait_on p q i = let on = alter_so (WaitOn q) p i in let back = alter_so (Wait p) q i in search rests depth 14

  rest_pass_on : (m : Message Name) (h : ℕ) (n : Name) → MayAnswer m → Holds Keeps (refs.pass_on N m h n)
  unfolding refs.pass_on
  rest_pass_on m h n i = some_so May m.answer i (λ p may. let on = λ (a : Name). rest_wait_on p a may in search (rests, rest_deliver) depth 14) (rest_deliver m h n)

  rest_send_to : (settle : Settler) → Good settle → (m : Message Name) (y : Value Name) (p : Place Name) → MayAnswer m → Holds Keeps (refs.send_to N settle m y p)
  unfolding refs.send_to
  rest_send_to settle good m y Near i = rest_queue (record m { target = y }) i
  rest_send_to settle good m y (Mine n) i = rest_hold (record m { target = y }) n i
  rest_send_to settle good m y (Away h n o) i = rest_pass_on m h n i
  rest_send_to settle good m y (Gone t) i = walk_then Keeps closed (rest_tell (Lost m.id)) (some_so May m.answer i (λ a may. good a (Broken t) may) (rest_give tt))

  rest_send_on : (settle : Settler) → Good settle → (m : Message Name) → MayAnswer m → Holds Keeps (refs.send_on N settle m)
  unfolding refs.send_on
  rest_send_on settle good m i = let to = λ (y : Value Name) (p : Place Name). rest_send_to settle good m y p i in search rests depth 14

  rest_settle_known : (settle : Settler) → Good settle → (p : Name) (y : Value Name) (k : Known Name) → R.May p → Entry k → Holds Keeps (refs.settle_known N settle p y k)
  unfolding refs.settle_known
  rest_settle_known settle good p y k f h = let now = alter_so (Settle y) p f in
      let held = each_so MayAnswer k.held h.1 (λ m i. rest_send_on settle good m i) in let waiting = each_so R.May k.waiting h.2 (λ q i. good q y i) in
      let reacting = each_so MayAnswer k.reactions h.3 (λ m i. rest_queue m i) in search (rests, rest_inform) depth 16

  rest_settle_standing : (settle : Settler) → Good settle → (p : Name) (y : Value Name) (k : Known Name) (t : Standing Name) → R.May p → Entry k → Holds Keeps (refs.settle_standing N settle p y k t)
  unfolding refs.settle_standing
  rest_settle_standing settle good p y k (Settled z) f h = rest_give tt
  rest_settle_standing settle good p y k other f h = rest_settle_known settle good p y k f h

  rest_settle_entry : (settle : Settler) → Good settle → (p : Name) (y : Value Name) (o : Option (Known Name)) → R.May p → WhereSome Entry o → Holds Keeps (refs.settle_entry N settle p y o)
  unfolding refs.settle_entry
  rest_settle_entry settle good p y None f h = rest_give tt
  rest_settle_entry settle good p y (Some k) f h = rest_settle_standing settle good p y k k.standing f h

  rest_settle_one : (settle : Settler) → Good settle → (p : Name) (x : Value Name) → R.May p → Holds Keeps (refs.settle_one N settle p x)
  unfolding refs.settle_one ◌>>=◌ look and_then
  rest_settle_one settle good p x f = record { after = λ s h. (rest_settle_entry settle good p (target_of N s p x) (entry_of N s.known p) f (kept.found word v R s.known p h.1)).after s h }

  rest_settle_at : (d : ℕ) (p : Name) (y : Value Name) → R.May p → Holds Keeps (refs.settle_at N d p y)
  unfolding refs.settle_at
  rest_settle_at zero p y f = search rests
  rest_settle_at (suc d) p y f = rest_settle_one (λ q z. refs.settle_at N d q z) (λ q z g. rest_settle_at d q z g) p y f

  pub rest_settle : (p : Name) (y : Value Name) → R.May p → Holds Keeps (refs.settle N p y)
  unfolding refs.settle
  rest_settle p y f = let at = λ (d : ℕ). rest_settle_at d p y f in search rests depth 14

  pub rest_break : (p : Name) (t : Words) → May p → Holds Keeps (refs.settle N p (Broken t))
  rest_break p t i = rest_settle p (Broken t) i

  rest_wait_unless_cycle : (p q : Name) → May p → Holds Keeps (refs.wait_unless_cycle N p q)
  unfolding refs.wait_unless_cycle
  rest_wait_unless_cycle p q i = let on = rest_wait_on p q i in let break = λ (t : Words). rest_break p t i in search rests depth 14

  rest_resolve_to : (p : Name) (y : Value Name) (q : Place Name) → May p → Holds Keeps (refs.resolve_to N p y q)
  unfolding refs.resolve_to
  rest_resolve_to p y (Mine q) i = rest_wait_unless_cycle p q i
  rest_resolve_to p y (Away h q false) i = rest_wait_unless_cycle p q i
  rest_resolve_to p y other i = rest_settle p y i

  pub rest_resolve : (p : Name) (x : Value Name) → May p → Holds Keeps (refs.resolve N p x)
  unfolding refs.resolve
  rest_resolve p x i = let to = λ (y : Value Name) (q : Place Name). rest_resolve_to p y q i in search rests depth 14

  -- ---- sending and reacting

  good : Good (refs.settle N)
  good p y f = rest_settle p y f

  rest_send_first : (m : Message Name) (y : Value Name) (p : Place Name) → MayAnswer m → Holds Keeps (refs.send_first N m y p)
  unfolding refs.send_first
  rest_send_first m y (Away h n o) i = rest_deliver m h n
  rest_send_first m y Near i = rest_send_to (refs.settle N) good m y Near i
  rest_send_first m y (Mine n) i = rest_send_to (refs.settle N) good m y (Mine n) i
  rest_send_first m y (Gone t) i = rest_send_to (refs.settle N) good m y (Gone t) i

  -- where the message goes out, its answer is another vat's
  sent_first : (u : ℕ) → u ≡ v → (m : Message Name) (a : Name) → m.answer ≡ Some a → (y : Value Name) (p : Place Name) → (refs.answer_host N u p ≡ v → May a) → Holds Keeps (refs.send_first N m y p)
  unfolding refs.send_first refs.answer_host
  sent_first u e m a i y (Away h n o) f = rest_deliver m h n
  sent_first u e m a i y Near f = rest_send_to (refs.settle N) good m y Near (subst (WhereSome May) (sym i) (f e))
  sent_first u e m a i y (Mine n) f = rest_send_to (refs.settle N) good m y (Mine n) (subst (WhereSome May) (sym i) (f e))
  sent_first u e m a i y (Gone t) f = rest_send_to (refs.settle N) good m y (Gone t) (subst (WhereSome May) (sym i) (f e))

  pub rest_send : (act : ℕ) (x : Value Name) (verb : Words) (args : List (Value Name)) → Holds Keeps (refs.send N act x verb args)
  unfolding refs.send
  rest_send act x verb args = walk_bind Keeps closed (rest_look (λ (s : Vat Name). refs.follow N s x)) (λ y. walk_bind Keeps closed (rest_look (λ (s : Vat Name). refs.place N s y)) (λ p.
      bind_so (λ (u : ℕ). u ≡ v) numbers (λ u e. bind_message (refs.answer_host N u p) (λ new may.
      let first = sent_first u e (record { id = new.0; target = y; verb = verb; args = args; answer = Some new.1 }) new.1 refl y p may in search rests depth 14))))

  pub rest_send_only : (act : ℕ) (x : Value Name) (verb : Words) (args : List (Value Name)) → Holds Keeps (refs.send_only N act x verb args)
  unfolding refs.send_only
  rest_send_only act x verb args = let first = λ (m : Name) (y : Value Name) (p : Place Name). rest_send_first (record { id = m; target = y; verb = verb; args = args; answer = None }) y p tt in search rests depth 14

  rest_react_at : (m : Message Name) (p : Place Name) → MayAnswer m → Holds Keeps (refs.react_at N m p)
  unfolding refs.react_at
  rest_react_at m (Mine n) i = rest_react m n i
  rest_react_at m (Away h n false) i = rest_react m n i
  rest_react_at m other i = rest_queue m i

  pub rest_reacts : (act : ℕ) (x o near : Value Name) → Holds Keeps (refs.react N act x o near)
  unfolding refs.react refs.reaction
  rest_reacts act x o near = bind_so (λ (u : ℕ). u ≡ v) numbers (λ u e. bind_message u (λ new may.
      let at = λ (p : Place Name). rest_react_at (refs.reaction N new.0 near x new.1) p (may e) in search rests depth 14))

  -- ---- what a note tells

  learnt : (x : Incoming Name Name) → Yields (λ n. n ≡ told_name x) (arrive.learn_name N x)
  unfolding arrive.learn_name give name_of
  learnt (Old n) = record { after = λ s h. (h, refl) }
  learnt (New x h) = comes (IsLearnt x) h

  rest_learn_name : (x : Incoming Name Name) → Holds Keeps (arrive.learn_name N x)
  rest_learn_name x = less (λ n. n ≡ told_name x) (learnt x)

  rest_learn_value : (y : Value (Incoming Name Name)) → Holds Keeps (arrive.learn_value N y)
  unfolding arrive.learn_value
  rest_learn_value (Ref x) = search (rests, rest_learn_name) depth 14
  rest_learn_value _ = search rests depth 14

  -- a vat that was noticed is one that may be
  out_among : (h : ℕ) (ws : List ℕ) → AllOf R.Out ws → is_in h ws ≡ true → R.Out h
  unfolding is_in
  out_among h [] o e = cc
  out_among h (w ∷ ws) o e = go (h == w) refl e (λ g. out_among h ws o.1 g)
    where
      go : (b : Bool) → (h == w) ≡ b → ◌≡◌ {A = Bool} (elim b [ true ↦ true | false ↦ is_in h ws ]) true → (is_in h ws ≡ true → R.Out h) → R.Out h
      go true f g rest = subst R.Out (sym (eqb-true h w f)) o.0
      go false f g rest = rest g

  ask_or : (p h i : ℕ) (n : Name) (s : Vat Name) (b : Bool) → (b ≡ true → May n) → Kept s → Leaves (any {A = Unit {0}}) ((if b then refs.settle N n (Broken (codes "partition")) else send_out h (Ask p i n)) s)
  ask_or p h i n s true f k = (rest_break n (codes "partition") (f refl)).after s k
  ask_or p h i n s false f k = (rest_out h (Ask p i n)).after s k

  rest_ask_for : (p h i : ℕ) (n : Name) → host_of n ≡ h → Holds Keeps (arrive.ask_for N p h i n)
  unfolding arrive.ask_for ◌>>=◌ look and_then
  rest_ask_for p h i n same = record { after = λ s k. let held = k.3 in ask_or p h i n s (is_in h s.noticed) (λ e. R.gone n (subst R.Out (sym same) (out_among h s.noticed held.noticed e))) k }

  rest_learn_gift : (p h i : ℕ) → Holds Keeps (arrive.learn_gift N p h i)
  unfolding arrive.learn_gift name_of host_of
  rest_learn_gift p h i = bind_so (λ n. n ≡ Gift h i) (comes (IsGift h i) h) (λ n e. let ask = rest_ask_for p h i n (ap host_of e) in search rests depth 14)

  rest_make_list : (vs : List (Value Name)) → Holds Keeps (arrive.make_list N vs)
  unfolding arrive.make_list
  rest_make_list vs = search rests depth 14

  mutual
    unfolding arrive.learn arrive.learn_all

    rest_learn : (p : ℕ) (y : Passed (Incoming Name Name)) → Holds Keeps (arrive.learn N p y)
    rest_learn p (Plain y) = search (rests, rest_learn_value) depth 14
    rest_learn p (AGift h i) = search (rests, rest_learn_gift)
    rest_learn p (Many ys) = let rest = rest_learn_all p ys in search (rests, rest_make_list)

    rest_learn_all : (p : ℕ) (ys : Passeds (Incoming Name Name)) → Holds Keeps (arrive.learn_all N p ys)
    rest_learn_all p NoMore = search rests
    rest_learn_all p (More y ys) = let one = rest_learn p y in let rest = rest_learn_all p ys in search rests

  mailed : (x : Incoming Name Name) → Yields (λ n. n ≡ told_name x) (arrive.learn_message N x)
  unfolding arrive.learn_message give mail naming mail_of
  mailed (Old n) = record { after = λ s h. (h, refl) }
  mailed (New x h) = record { after = λ s i. (i, refl) }

  -- ---- gifts at their host

  gifted : (u p i : ℕ) → u ≡ v → (o : Option (GiftEntry Name)) → WhereSome (λ g. g.name ≡ Gift v i) o → Yields (λ n. n ≡ Gift v i) (arrive.gift_or_new N u p i o)
  unfolding arrive.gift_or_new give name_of new_gift ◌>>=◌ ◌>>◌ come and_then naming
  gifted u p i e (Some g) h = record { after = λ s k. (k, h) }
  gifted u p i e None h = record {
    after = λ s k. let same : Gift u i ≡ Gift v i = subst (λ w. Gift u i ≡ Gift w i) e refl in
        ((k.0, all_end Entry s.known (begun (Gift u i) u) k.1 (begun_entry (Gift u i) u), k.2, let held = k.3 in record { gifts = all_end (GiftKept v R) s.gifts (record { name = Gift u i; provider = p; number = i; opened = false }) held.gifts (same, inl refl); noticed = held.noticed }), same);
  }

  have : (p i : ℕ) → Yields (λ n. n ≡ Gift v i) (arrive.have_gift N p i)
  unfolding arrive.have_gift ◌>>=◌ look and_then
  have p i = record { after = λ s h. (gifted s.number p i h.0 (gift_at p i s.gifts) (found_named v p i s.gifts (let held = h.3 in named v R s.gifts held.gifts))).after s h }

  rest_have_gift : (p i : ℕ) → Holds Keeps (arrive.have_gift N p i)
  rest_have_gift p i = less (λ n. n ≡ Gift v i) (have p i)

  rest_break_at : (n : Name) (p : Words) (t : Standing Name) → May n → Holds Keeps (arrive.break_at N n p t)
  unfolding arrive.break_at
  rest_break_at n p (Settled y) may = search rests depth 14
  rest_break_at n p _ may = rest_break n p may

  rest_break_unopened : (n : Name) (b : Bool) → May n → Holds Keeps (arrive.break_unopened N n b)
  unfolding arrive.break_unopened
  rest_break_unopened n true may = search rests depth 14
  rest_break_unopened n false may = let at = λ (p : Words) (t : Standing Name). rest_break_at n p t may in search rests depth 14

  rest_tell_asker : (n : Name) (w : ℕ) (t : Standing Name) → Holds Keeps (arrive.tell_asker N n w t)
  unfolding arrive.tell_asker
  rest_tell_asker n w (Settled y) = search (rests, rest_inform) depth 14
  rest_tell_asker n w _ = search rests depth 14

  -- ---- arrival

  answer_may : (h : ℕ) (n : Name) → h ≡ v → IsMessageName n → May (answer_of h n)
  unfolding answer_of
  answer_may h (Sent m) e i = subst (λ (u : ℕ). May (Answer u m)) (sym e) (R.answers m)
  answer_may h other e i = absurd i

  comes_answer : (h : ℕ) (id : Name) → h ≡ v → IsMessageName id → Yields May (come N (IsAnswer h id) h)
  unfolding come naming name_of
  comes_answer h id e i = record { after = λ s k. ((k.0, all_end Entry s.known (begun (answer_of h id) h) k.1 (begun_entry (answer_of h id) h), k.2, k.3), answer_may h id e i) }

  rest_send_on_asked : (from : ℕ) (id n : Name) (verb : Words) (args : List (Value Name)) → IsMessageName id → Holds Keeps (arrive.send_on_asked N from id n verb args)
  unfolding arrive.send_on_asked
  rest_send_on_asked from id n verb args i = bind_so (λ (u : ℕ). u ≡ v) numbers (λ u e. bind_so May (comes_answer u id e i) (λ a may. let on = rest_send_on (refs.settle N) good (record { id = id; target = Ref n; verb = verb; args = args; answer = Some a }) may in search rests depth 14))

  rest_arrive_deliver : (from : ℕ) (d : Delivery (Incoming Name Name)) (x : Incoming Name Name) (verb : Words) (ys : Passeds (Incoming Name Name)) → IsMessageName (told_name d.message) → Holds Keeps (arrive.arrive_deliver N from d x verb ys)
  unfolding arrive.arrive_deliver
  rest_arrive_deliver from d x verb ys i = bind_so (λ n. n ≡ told_name d.message) (mailed d.message) (λ id e.
      let asked = λ (n : Name) (args : List (Value Name)). rest_send_on_asked from id n verb args (subst IsMessageName (sym e) i) in
      let alone = λ (n : Name) (args : List (Value Name)). rest_send_on (refs.settle N) good (record { id = id; target = Ref n; verb = verb; args = args; answer = None }) tt in search (rests, rest_learn_all, rest_learn_name) depth 14)

  -- a gift is opened that may settle
  rest_arrive_open : (from i : ℕ) (x : Incoming Name Name) → R.Opens from i → Holds Keeps (arrive.arrive_open N from i x)
  unfolding arrive.arrive_open
  rest_arrive_open from i x may = walk_bind Keeps closed (rest_learn_name x) (λ y. bind_so (λ n. n ≡ Gift v i) (have from i) (λ n e. let resolves = rest_resolve n (Ref y) (subst May (sym e) (R.gifts i)) in let opens = rest_open from i may in search rests depth 14))

  rest_break_orphan : (p i : ℕ) (n : Name) → May n → Holds Keeps (arrive.break_orphan N p i n)
  unfolding arrive.break_orphan
  rest_break_orphan p i n may = let break = λ (b : Bool). rest_break_unopened n b may in search rests depth 14

  rest_arrive_ask : (from p i : ℕ) → Holds Keeps (arrive.arrive_ask N from p i)
  unfolding arrive.arrive_ask
  rest_arrive_ask from p i = bind_so (λ n. n ≡ Gift v i) (have p i) (λ n e. let orphan = rest_break_orphan p i n (subst May (sym e) (R.gifts i)) in search (rests, rest_tell_asker) depth 14)

  rest_arrive_settled : (from : ℕ) (x : Incoming Name Name) (y : Passed (Incoming Name Name)) → May (told_name x) → Holds Keeps (arrive.arrive_settled N from x y)
  unfolding arrive.arrive_settled
  rest_arrive_settled from x y may = bind_so (λ n. n ≡ told_name x) (learnt x) (λ n e. let settles = λ (z : Value Name). rest_settle n z (subst May (sym e) may) in search (rests, rest_learn) depth 14)

  rest_see : (n g : Name) → May n → Holds Keeps (arrive.see N n g)
  unfolding arrive.see
  rest_see n g may = let sees = alter_so (See g) n may in let waits = alter_so (Wait n) g may in search rests depth 14

  rest_gift_there : (u h c i : ℕ) → Holds Keeps (arrive.gift_there N u h c i)
  unfolding arrive.gift_there
  rest_gift_there u h c i = search (rests, rest_have_gift) depth 14

  rest_view_there : (n : Name) (c : ℕ) → May n → Holds Keeps (arrive.view_there N n c)
  unfolding arrive.view_there
  rest_view_there n c may = let sees = λ (g : Name). rest_see n g may in search (rests, rest_gift_there) depth 14

  rest_arrive_elsewhere : (x : Incoming Name Name) (c : ℕ) → May (told_name x) → Holds Keeps (arrive.arrive_elsewhere N x c)
  unfolding arrive.arrive_elsewhere
  rest_arrive_elsewhere x c may = bind_so (λ n. n ≡ told_name x) (learnt x) (λ n e. let view = rest_view_there n c (subst May (sym e) may) in let break = λ (t : Words). rest_break n t (subst May (sym e) may) in search rests depth 14)

  rest_shorten_to : (i : ℕ) (p : Place Name) → Holds Keeps (arrive.shorten_to N i p)
  unfolding arrive.shorten_to
  rest_shorten_to i (Away h n true) = search rests depth 14
  rest_shorten_to i _ = search rests depth 14

  rest_arrive_shorten : (x : Incoming Name Name) (i : ℕ) → Holds Keeps (arrive.arrive_shorten N x i)
  unfolding arrive.arrive_shorten
  rest_arrive_shorten x i = search (rests, rest_learn_name, rest_shorten_to) depth 14

  -- What is asked of a note that arrives: that its message is one, that the gift that it opens may be opened, and so may the name of which it tells what became of it.
  abbrev pub NoteMay : ℕ → Note (Incoming Name Name) → Type 0
  NoteMay from (Deliver d x verb ys) = IsMessageName (told_name d.message)
  NoteMay from (Open i x) = R.Opens from i
  NoteMay from (SettledTo x y) = May (told_name x)
  NoteMay from (Elsewhere x c) = May (told_name x)
  NoteMay from other = Unit {0}

  pub rest_arrive : (from : ℕ) (n : Note (Incoming Name Name)) → NoteMay from n → Holds Keeps (arrive.arrive N from n)
  unfolding arrive.arrive
  rest_arrive from (Deliver d x verb ys) may = rest_arrive_deliver from d x verb ys may
  rest_arrive from (Open i x) may = rest_arrive_open from i x may
  rest_arrive from (Ask p i x) may = rest_arrive_ask from p i
  rest_arrive from (SettledTo x y) may = rest_arrive_settled from x y may
  rest_arrive from (Elsewhere x c) may = rest_arrive_elsewhere x c may
  rest_arrive from (Shorten x c i) may = rest_arrive_shorten x i

  -- ---- notice

  rest_break_hosted : (w : ℕ) (n : Name) (p : Words) (t : Standing Name) → May n → Holds Keeps (arrive.break_hosted N w n p t)
  unfolding arrive.break_hosted
  rest_break_hosted w n p (Viewed q) may = search rests depth 14
  rest_break_hosted w n p (Settled y) may = search rests depth 14
  rest_break_hosted w n p other may = rest_break n p may

  hosted_or : (w : ℕ) (k : Known Name) (b : Bool) → (b ≡ true → May k.name) → (t : Words) (st : Standing Name) → Holds Keeps (if b then arrive.break_hosted N w k.name t st else give tt)
  hosted_or w k true f t st = rest_break_hosted w k.name t st (f refl)
  hosted_or w k false f t st = rest_give tt

  -- where the vat that tells of each name is its host
  rest_notice_name : (w : ℕ) → R.Out w → (k : Known Name) → HostIsTrue k → Holds Keeps (arrive.notice_name N w k)
  unfolding arrive.notice_name
  rest_notice_name w o k same = walk_bind Keeps closed (rest_look _) (λ st. hosted_or w k (k.host == w) (λ e. R.gone k.name (subst R.Out (sym (eqb-true k.host w e) ∙ same) o)) _ st)

  gift_or : (w : ℕ) (g : GiftEntry Name) (b : Bool) → GiftKept v R g → Holds Keeps (if b then arrive.break_unopened N g.name g.opened else give tt)
  gift_or w g true h = rest_break_unopened g.name g.opened (subst May (sym h.0) (R.gifts g.number))
  gift_or w g false h = rest_give tt

  rest_notice_gift : (w : ℕ) (g : GiftEntry Name) → GiftKept v R g → Holds Keeps (arrive.notice_gift N w g)
  unfolding arrive.notice_gift
  rest_notice_gift w g h = gift_or w g (g.provider == w) h

  gifts_noticed : (w : ℕ) (d : Done Name (Unit {0})) → Leaves (any {A = Unit {0}}) d → Leaves (any {A = Unit {0}}) (and_then d (λ _. look (λ (s : Vat Name). s.gifts) >>= (λ gs. each (arrive.notice_gift N w) gs)))
  unfolding ◌>>=◌ and_then look
  gifts_noticed w (Gives a t) h = let held = h.0.3 in (each_so (GiftKept v R) t.gifts held.gifts (λ g i. rest_notice_gift w g i)).after t h.0
  gifts_noticed w other h = h

  notice_so : (w : ℕ) → R.Out w → (s : Vat Name) → AllOf HostIsTrue s.known → Kept s → Leaves (any {A = Unit {0}}) (arrive.notice_all N w s)
  unfolding arrive.notice_all ◌>>=◌ ◌>>◌ and_then look mark
  notice_so w o s hosts h = let held = h.3 in gifts_noticed w (each (arrive.notice_name N w) s.known (record s { noticed = s.noticed ++ w ∷ [] }))
      ((each_so HostIsTrue s.known hosts (λ k i. rest_notice_name w o k i)).after (record s { noticed = s.noticed ++ w ∷ [] }) (h.0, h.1, h.2, record { gifts = held.gifts; noticed = all_end R.Out s.noticed w held.noticed o }))

  notice_or : (w : ℕ) → R.Out w → (s : Vat Name) (b : Bool) → AllOf HostIsTrue s.known → Kept s → Leaves (any {A = Unit {0}}) ((if b then give tt else arrive.notice_all N w) s)
  unfolding give
  notice_or w o s true hosts h = (h, tt)
  notice_or w o s false hosts h = notice_so w o s hosts h

  pub rest_notice : (w : ℕ) → R.Out w → (s : Vat Name) → AllOf HostIsTrue s.known → Kept s → Leaves (any {A = Unit {0}}) (arrive.notice N w s)
  unfolding arrive.notice ◌>>=◌ look and_then
  rest_notice w o s hosts h = notice_or w o s (is_in w s.noticed) hosts h
