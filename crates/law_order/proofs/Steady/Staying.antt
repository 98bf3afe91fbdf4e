-- What holds of one name, with what the vat noticed and put, through all that a settling does: no message here has that name as its answer, so nothing makes it wait.
use Rattle.std.proofs.Common.{◌≡◌, ℕ, zero, suc, ◌≤◌, true, List, [], ◌∷◌, ◌++◌, Option, Some, None, length, refl, sym, subst, ◌∙◌, ◌⊎◌, inl, inr, arith}
use Rattle.def_machine.specs.Values.{Value, Broken, Name, Naming, Coming, naming, name_of, IsAnswer, key}
use Rattle.def_machine.specs.State.{Message, Standing, Settled, Known, Change, Hold, Wait, WaitOn, ToTell, Settle, Settles, Passed, Passeds, AGift, Delivery, Note, Deliver, Open, SettledTo, Elsewhere, Shorten, Vat, Done, Gives, Act, ◌>>=◌, ◌>>◌, and_then, each, give, look, tell, for_some, enqueue, send_out, draw, draws, drawn_at, alter, come, with_change, changed, begun}
use Rattle.def_machine.specs.Refs as refs
use Rattle.def_machine.specs.Refs.{Place, Near, Mine, Away, Gone, entry_of, standing_of}
use Rattle.def_run.specs.Draws.{draw_word}
use Rattle.def_run.specs.World as world
use Rattle.def_run.specs.World.{Script, World, names}
use Rattle.law_machine.specs.Machine.Steps.{After}
use Rattle.law_fate.proofs.Name.Among.{length_end}
use Rattle.law_fate.specs.Fates.Fate.{one, total}
use Rattle.law_reference.specs.Reference.Views.{IsOpen}
use Rattle.law_reference.proofs.Reference.Entries.{Mild, mild_hold, mild_wait, mild_wait_on, mild_to_tell}
use Rattle.law_reference.proofs.Reference.Following.{length_changed}
use Rattle.law_reference.proofs.Reference.Settles.{change_settles}
use Rattle.law_order.specs.Ordering.Steps.{LetsDrawn, AllDrawn}
use Rattle.law_order.specs.Ordering.Worlds.{LetsNothingGo}
use Rattle.law_order.proofs.Ordering.Below.{more_draws, in_more, key_in_last, with_drawn}
use Rattle.law_order.proofs.Ordering.Moves.{Keeps, IsKept, keeps_bind, keeps_then, keeps_if, keeps_give, keeps_stop, keeps_look, keeps_tell, keeps_spend}
use Rattle.law_order.proofs.Ordering.Passings.{keeps_pass, keeps_pass_all}
use Rattle.law_order.proofs.Ordering.Sends.{push_last}
use Rattle.law_order.specs.Waits.Answers.{answered_by, answers, asked_at, askings}
use Rattle.law_order.proofs.Waits.Counts.{one_self, total_end, stands, mild_stands, comes_stands, asks_more, IsMild}
use Rattle.law_order.proofs.Waits.Room as room
use Rattle.law_order.proofs.Waits.Costs.{Ends}
use Rattle.law_order.proofs.Steady.Ends.{ViewsLater, later_come, later_change, later_settle}

pub ruleset moves = (keeps_bind, keeps_then, keeps_if, keeps_give, keeps_stop, keeps_look, keeps_tell, keeps_spend)

nothing_drawn : (d : List ℕ) (n : Note Name) → LetsNothingGo n → LetsDrawn d n
nothing_drawn d (Open i n) h = absurd h
nothing_drawn d (Shorten n c i) h = absurd h
nothing_drawn d other h = tt

module _ (script : Script) (w : World) (v : ℕ) (q : Name) (Stay : Standing Name → Type 0) (hosts : List ℕ) (least : ℕ) where
  abbrev K : Naming Name Name
  K = names script v

  abbrev word : ℕ → ℕ
  word = draw_word script.key

  pub record Good (s : Vat Name) : Type 0 where
    pub noticed : s.noticed ≡ hosts
    pub draws : AllDrawn s.drawn (world.push_all v s.outbox w.links)
    pub later : ViewsLater K s.known
    pub few : least ≤ length s.known
    -- no message that waits is to give the value of the name
    pub asks : askings q s ≡ 0
    pub stay : Stay (standing_of K s.known q)

  pub record Goes (s t : Vat Name) : Type 0 where
    pub on : Good s → Good t

  pub goes : IsKept Goes
  unfolding askings
  goes = record {
    same = λ s. record { on = λ g. g };
    trans = λ a b. record { on = λ g. b.on (a.on g) };
    fuel = λ s n. record { on = λ g. record { noticed = g.noticed; draws = g.draws; later = g.later; few = g.few; asks = g.asks; stay = g.stay } };
    happened = λ s e. record { on = λ g. record { noticed = g.noticed; draws = g.draws; later = g.later; few = g.few; asks = g.asks; stay = g.stay } };
    activations = λ s. record { on = λ g. record { noticed = g.noticed; draws = g.draws; later = g.later; few = g.few; asks = g.asks; stay = g.stay } };
    thing = λ s t. record { on = λ g. record { noticed = g.noticed; draws = g.draws; later = g.later; few = g.few; asks = g.asks; stay = g.stay } };
    killed = λ s n. record { on = λ g. record { noticed = g.noticed; draws = g.draws; later = g.later; few = g.few; asks = g.asks; stay = g.stay } };
    slot = λ s c. record { on = λ g. record { noticed = g.noticed; draws = g.draws; later = g.later; few = g.few; asks = g.asks; stay = g.stay } };
    written = λ s n y. record { on = λ g. record { noticed = g.noticed; draws = g.draws; later = g.later; few = g.few; asks = g.asks; stay = g.stay } };
    list = λ s ys. record { on = λ g. record { noticed = g.noticed; draws = g.draws; later = g.later; few = g.few; asks = g.asks; stay = g.stay } };
  }

  -- ---- single changes

  put_drawn : (s : Vat Name) (to : ℕ) (n : Note Name) (ds : List ℕ) → LetsDrawn ds n → AllDrawn ds (world.push_all v s.outbox w.links) → AllDrawn ds (world.push_all v (s.outbox ++ record { to = to; note = n } ∷ []) w.links)
  put_drawn s to n ds l h = subst (λ ls. AllDrawn ds ls) (sym (push_last v s.outbox (record { to = to; note = n }) w.links)) (with_drawn ds n v to (world.push_all v s.outbox w.links) l h)

  pub go_out : (to : ℕ) (n : Note Name) → LetsNothingGo n → Keeps Goes (send_out to n)
  unfolding send_out askings
  go_out to n l = record { after = λ s. record { on = λ g. record { noticed = g.noticed; draws = put_drawn s to n s.drawn (nothing_drawn s.drawn n l) g.draws; later = g.later; few = g.few; asks = g.asks; stay = g.stay } } }

  pub go_queue : (m : Message Name) → answers q m ≡ 0 → Keeps Goes (enqueue m)
  unfolding enqueue askings
  go_queue m z = record { after = λ s. record { on = λ g. let more = total_end (answers q) s.queue m in let a = g.asks in record { noticed = g.noticed; draws = g.draws; later = g.later; few = g.few; asks = omega arith; stay = g.stay } } }

  pub changes : (c : Change Name) (n : Name) (s : Vat Name) → asks_more q c ≡ 0 → ViewsLater K (with_change K c n s.known) → Stay (standing_of K (with_change K c n s.known) q) → Good s → Good (record s { known = with_change K c n s.known })
  unfolding names askings
  changes c n s z views stays g = let more = room.asked_after word v q c n s.known in let a = g.asks in let few = g.few in let len : length (with_change K c n s.known) ≡ length s.known = length_changed K c n s.known in
      record { noticed = g.noticed; draws = g.draws; later = views; few = omega arith; asks = omega arith; stay = stays }

  pub mildly : (c : Change Name) (n : Name) → IsMild word v c → Mild c → asks_more q c ≡ 0 → Keeps Goes (alter K c n)
  unfolding alter names
  mildly c n mild mild_too z = record { after = λ s. record { on = λ g. changes c n s z (later_change script v c mild_too n s.known g.later) (subst Stay (sym (mild_stands word v c mild n q s.known)) g.stay) g } }

  pub go_hold : (m : Message Name) (n : Name) → answers q m ≡ 0 → Keeps Goes (alter K (Hold m) n)
  go_hold m n z = mildly (Hold m) n tt (mild_hold m) z

  pub go_tells : (h : ℕ) (n : Name) → Keeps Goes (alter K (ToTell h) n)
  go_tells h n = mildly (ToTell h) n tt (mild_to_tell h) refl

  other_stands : (c : Change Name) (n : Name) (ks : List (Known Name)) → one n q ≡ 0 → standing_of K (with_change K c n ks) q ≡ standing_of K ks q
  unfolding names
  other_stands c n ks z = go (stands word v c n q ks)
    where
      go : (standing_of (naming word v) (with_change (naming word v) c n ks) q ≡ standing_of (naming word v) ks q) ⊎ ((k : Known Name) × (n ≡ q) × (standing_of (naming word v) ks q ≡ k.standing) × (standing_of (naming word v) (with_change (naming word v) c n ks) q ≡ (changed c k).standing))
          → standing_of (naming word v) (with_change (naming word v) c n ks) q ≡ standing_of (naming word v) ks q
      go (inl e) = e
      go (inr i) = let is = one_self n q i.1 in absurd (omega arith)

  pub go_waits : (p r : Name) → one p q ≡ 0 → Keeps Goes (alter K (WaitOn r) p)
  unfolding alter
  go_waits p r z = record { after = λ s. record { on = λ g. changes (WaitOn r) p s refl (later_change script v (WaitOn r) (mild_wait_on r) p s.known g.later) (subst Stay (sym (other_stands (WaitOn r) p s.known z)) g.stay) g } }

  pub go_wait : (p r : Name) → Keeps Goes (alter K (Wait r) p)
  go_wait p r = mildly (Wait r) p tt (mild_wait r) refl

  pub go_come : (c : Coming Name Name) (h : ℕ) → Keeps Goes (come K c h)
  unfolding come names naming askings
  go_come c h = record {
    after = λ s. let n : Name = name_of v c in record {
      on = λ g. let more = room.asked_comes word v q n h s.known in let a = g.asks in let few = g.few in
          record { noticed = g.noticed; draws = g.draws; later = later_come script v n h s.known g.later; few = ends_less s.known (begun n h) few; asks = omega arith; stay = subst Stay (sym (comes_stands word v n h q s.known)) g.stay };
    };
  }
    where
      ends_less : (ks : List (Known Name)) (k : Known Name) → least ≤ length ks → least ≤ length (ks ++ k ∷ [])
      ends_less ks k l = let e = length_end ks k in omega arith

  -- a draw, and the note that lets the gift go
  go_lets : (h : ℕ) (n : Name) → Keeps {N = Name} {A = Passed Name} Goes (draw K >>= (λ i. send_out h (Open i n) >> give (AGift h i)))
  unfolding draw ◌>>=◌ ◌>>◌ and_then send_out give draws askings
  go_lets h n = record { after = λ s. go s (K.word (length s.drawn)) (drawn_at zero (K.word (length s.drawn)) s.drawn) }
    where
      go : (s : Vat Name) (x : ℕ) (o : Option ℕ) → After {N = Name} {A = Passed Name} Goes s (and_then (draws x o s) (λ i. send_out h (Open i n) >> give (AGift h i)))
      go s x (Some i) = record { on = λ g. g }
      go s x None = record { on = λ g. record { noticed = g.noticed; draws = put_drawn s h (Open (key s.number x) n) (s.drawn ++ x ∷ []) (key_in_last s.number x s.drawn) (more_draws s.drawn (s.drawn ++ x ∷ []) (world.push_all v s.outbox w.links) (in_more x s.drawn) g.draws); later = g.later; few = g.few; asks = g.asks; stay = g.stay } }

  -- ---- passing, and telling

  go_pass : (h : ℕ) (x : Value Name) → Keeps Goes (refs.pass K h x)
  go_pass h x = keeps_pass K Goes goes go_tells go_lets h x

  go_pass_all : (h : ℕ) (xs : List (Value Name)) → Keeps Goes (refs.pass_all K h xs)
  go_pass_all h xs = keeps_pass_all K Goes goes go_tells go_lets h xs

  go_deliver_out : (h : ℕ) (d : Delivery Name) (n : Name) (verb : _) (ys : Passeds Name) → Keeps Goes (send_out h (Deliver d n verb ys))
  go_deliver_out h d n verb ys = go_out h (Deliver d n verb ys) tt

  go_settled_out : (h : ℕ) (n : Name) (y : Passed Name) → Keeps Goes (send_out h (SettledTo n y))
  go_settled_out h n y = go_out h (SettledTo n y) tt

  pub go_deliver : (m : Message Name) (h : ℕ) (n : Name) → Keeps Goes (refs.deliver K m h n)
  unfolding refs.deliver
  go_deliver m h n = search (moves, goes, go_pass_all, go_deliver_out) depth 14

  go_inform_of : (p : Name) (h : ℕ) (y : Value Name) (r : Place Name) → Keeps Goes (refs.inform_of K p h y r)
  unfolding refs.inform_of
  go_inform_of p h y (Away u n true) = go_out h (Elsewhere p u) tt
  go_inform_of p h y other = search (moves, goes, go_pass, go_settled_out) depth 14

  go_inform : (p : Name) (h : ℕ) → Keeps Goes (refs.inform K p h)
  unfolding refs.inform
  go_inform p h = search (moves, goes, go_inform_of) depth 14

  pub go_wait_on : (p r : Name) → one p q ≡ 0 → Keeps Goes (refs.wait_on K p r)
  unfolding refs.wait_on
  go_wait_on p r z = keeps_then Goes goes (keeps_tell Goes goes _) (keeps_then Goes goes (go_waits p r z) (go_wait r p))

  go_pass_by : (m : Message Name) (h : ℕ) (n : Name) (o : Option Name) → answered_by q o ≡ 0 → Keeps Goes (for_some o (λ p. come K (IsAnswer h m.id) h >>= (λ a. refs.deliver K (record m { answer = Some a }) h n >> refs.wait_on K p a)) (refs.deliver K m h n))
  unfolding for_some answered_by
  go_pass_by m h n (Some p) z = keeps_bind Goes goes (go_come (IsAnswer h m.id) h) (λ a. keeps_then Goes goes (go_deliver (record m { answer = Some a }) h n) (go_wait_on p a z))
  go_pass_by m h n None z = go_deliver m h n

  go_pass_on : (m : Message Name) (h : ℕ) (n : Name) → answers q m ≡ 0 → Keeps Goes (refs.pass_on K m h n)
  unfolding refs.pass_on answers
  go_pass_on m h n z = go_pass_by m h n m.answer z

  -- ---- what ends well

  pub record Does {A : Type 0} (m : Act Name A) : Type 0 where
    pub after : (s : Vat Name) → Good s → Ends Good (m s)

  ended : {A : Type 0} (s : Vat Name) (d : Done Name A) → Good s → After Goes s d → Ends Good d
  ended s (Gives a t) g r = r.on g
  ended s other g r = r.on g

  pub doing : {A : Type 0} {m : Act Name A} → Keeps Goes m → Does m
  doing {m = m} k = record { after = λ s g. ended s (m s) g (k.after s) }

  pub bound : {A B : Type 0} (d : Done Name A) (f : A → Act Name B) → Ends Good d → ((a : A) → Does (f a)) → Ends Good (and_then d f)
  unfolding and_then
  bound (Gives a t) f g k = (k a).after t g
  bound other f g k = g

  pub do_then : {A B : Type 0} {m : Act Name A} {n : Act Name B} → Does m → Does n → Does (m >> n)
  unfolding ◌>>◌
  do_then {m = m} {n = n} h k = record { after = λ s g. bound (m s) (λ _. n) (h.after s g) (λ _. k) }

  pub do_bind : {A B : Type 0} {m : Act Name A} {f : A → Act Name B} → Does m → ((a : A) → Does (f a)) → Does (m >>= f)
  unfolding ◌>>=◌
  do_bind {m = m} {f = f} h k = record { after = λ s g. bound (m s) f (h.after s g) k }

  do_each : {A : Type 0} (f : A → Act Name (Unit {0})) (cost : A → ℕ) → ((x : A) → cost x ≡ 0 → Does (f x)) → (xs : List A) → total cost xs ≡ 0 → Does (each f xs)
  unfolding each total
  do_each f cost h [] z = doing (keeps_give Goes goes tt)
  do_each f cost h (x ∷ xs) z = do_then (h x (omega arith)) (do_each f cost h xs (omega arith))

  none_all : {A : Type 0} (xs : List A) → total (λ (x : A). 0) xs ≡ 0
  unfolding total
  none_all [] = refl
  none_all (x ∷ xs) = let rest = none_all xs in omega arith

  abbrev pub Settler : Type 0
  Settler = Name → Value Name → Act Name (Unit {0})

  abbrev pub GoodSettler : Settler → Type 0
  GoodSettler settle = (p : Name) (y : Value Name) → Does (settle p y)

  module _ (settle : Settler) (good : GoodSettler settle) where
    pub do_lost : (o : Option Name) (y : Value Name) → Does (for_some o (λ a. settle a y) (give tt))
    unfolding for_some
    do_lost (Some a) y = good a y
    do_lost None y = doing (keeps_give Goes goes tt)

    pub do_send_to : (m : Message Name) (y : Value Name) (p : Place Name) → answers q m ≡ 0 → Does (refs.send_to K settle m y p)
    unfolding refs.send_to answers
    do_send_to m y Near z = doing (go_queue (record m { target = y }) z)
    do_send_to m y (Mine n) z = doing (go_hold (record m { target = y }) n z)
    do_send_to m y (Away h n o) z = doing (go_pass_on m h n z)
    do_send_to m y (Gone t) z = do_then (doing (keeps_tell Goes goes _)) (do_lost m.answer (Broken t))

    pub do_send_on : (m : Message Name) → answers q m ≡ 0 → Does (refs.send_on K settle m)
    unfolding refs.send_on
    do_send_on m z = do_bind (doing (keeps_look Goes goes _)) (λ y. do_bind (doing (keeps_look Goes goes _)) (λ p. do_send_to m y p z))

  -- where what settled is as it is to be
  module _ (settled : (y : Value Name) → Stay (Settled y)) where
    pub settles_stay : (y : Value Name) (p : Name) (ks : List (Known Name)) → Stay (standing_of K ks q) → Stay (standing_of K (with_change K (Settle y) p ks) q)
    unfolding names
    settles_stay y p ks h = go (stands word v (Settle y) p q ks)
      where
        go : (standing_of (naming word v) (with_change (naming word v) (Settle y) p ks) q ≡ standing_of (naming word v) ks q) ⊎ ((k : Known Name) × (p ≡ q) × (standing_of (naming word v) ks q ≡ k.standing) × (standing_of (naming word v) (with_change (naming word v) (Settle y) p ks) q ≡ (changed (Settle y) k).standing))
            → Stay (standing_of (naming word v) (with_change (naming word v) (Settle y) p ks) q)
        go (inl e) = subst Stay (sym e) h
        go (inr i) = let z = change_settles y i.0 in subst Stay (sym (i.3 ∙ z.1)) (settled z.0)

    -- what it held, and what reacted, has other answers
    freed_none : (y : Value Name) (p : Name) (k : Known Name) (s : Vat Name) → entry_of K s.known p ≡ Some k → IsOpen k.standing → askings q s ≡ 0 → (total (answers q) k.held ≡ 0) × (total (answers q) k.reactions ≡ 0)
    unfolding names askings asked_at
    freed_none y p k s e loose z = let frees = room.asked_settles word v q y p k s.known e loose in (omega arith, omega arith)

    pub settled_good : (y : Value Name) (p : Name) (s : Vat Name) → Good s → Good (record s { happened = s.happened ++ Settles p y ∷ []; known = with_change K (Settle y) p s.known })
    unfolding askings
    settled_good y p s g = let h = changes (Settle y) p s refl (later_settle script v y p s.known g.later) (settles_stay y p s.known g.stay) g in
        record { noticed = h.noticed; draws = h.draws; later = h.later; few = h.few; asks = h.asks; stay = h.stay }

    module _ (settle : Settler) (good : GoodSettler settle) where
      goes_on : (p : Name) (y : Value Name) (k : Known Name) → total (answers q) k.held ≡ 0 → total (answers q) k.reactions ≡ 0
          → Does (each (refs.send_on K settle) k.held >> (each (λ r. settle r y) k.waiting >> (each enqueue k.reactions >> each (refs.inform K p) k.told)))
      goes_on p y k h r = do_then (do_each (refs.send_on K settle) (answers q) (λ m z. do_send_on settle good m z) k.held h) (do_then (do_each (λ n. settle n y) (λ n. 0) (λ n z. good n y) k.waiting (none_all k.waiting))
          (do_then (do_each enqueue (answers q) (λ m z. doing (go_queue m z)) k.reactions r) (do_each (refs.inform K p) (λ h. 0) (λ h z. doing (go_inform p h)) k.told (none_all k.told))))

      known_good : (p : Name) (y : Value Name) (k : Known Name) (s : Vat Name) → entry_of K s.known p ≡ Some k → IsOpen k.standing → Good s → Ends Good (refs.settle_known K settle p y k s)
      unfolding refs.settle_known ◌>>◌ and_then tell alter
      known_good p y k s e loose g = let none = freed_none y p k s e loose g.asks in (goes_on p y k none.0 none.1).after (record s { happened = s.happened ++ Settles p y ∷ []; known = with_change K (Settle y) p s.known }) (settled_good y p s g)

      standing_good : (p : Name) (y : Value Name) (k : Known Name) (s : Vat Name) → entry_of K s.known p ≡ Some k → (t : Standing Name) → k.standing ≡ t → Good s → Ends Good (refs.settle_standing K settle p y k t s)
      unfolding refs.settle_standing give
      standing_good p y k s e (Settled z) i g = g
      standing_good p y k s e other i g = known_good p y k s e (λ z j. apart (sym i ∙ j)) g
        where
          apart : {z : Value Name} → ◌≡◌ {A = Standing Name} other (Settled z) → ⊥
          apart f = cc

      entry_good : (p : Name) (y : Value Name) (s : Vat Name) (o : Option (Known Name)) → entry_of K s.known p ≡ o → Good s → Ends Good (refs.settle_entry K settle p y o s)
      unfolding refs.settle_entry give
      entry_good p y s None e g = g
      entry_good p y s (Some k) e g = standing_good p y k s e k.standing refl g

      one_good : GoodSettler (refs.settle_one K settle)
      unfolding refs.settle_one ◌>>=◌ and_then look
      one_good p y = record { after = λ s g. entry_good p (refs.target_of K s p y) s (entry_of K s.known p) refl g }

    pub do_settle_at : (d : ℕ) → GoodSettler (refs.settle_at K d)
    unfolding refs.settle_at
    do_settle_at zero p y = doing (keeps_stop Goes goes _)
    do_settle_at (suc d) p y = one_good (λ r z. refs.settle_at K d r z) (λ r z. do_settle_at d r z) p y

    pub do_settle : GoodSettler (refs.settle K)
    unfolding refs.settle
    do_settle p y = do_bind (doing (keeps_look Goes goes _)) (λ d. do_settle_at d p y)
