-- What a vat is to take is on data or on an object of its own: all that it does with references keeps this.
use Rattle.std.proofs.Common.{◌≡◌, ℕ, zero, suc, Bool, true, false, List, [], ◌∷◌, Option, Some, None, refl, subst, ◌==◌}
use Rattle.def_machine.specs.Values.{Words, Value, Null, Broken, Ref, Naming, Coming, Mailing, Spot, Own, Foreign, NoObject}
use Rattle.def_machine.specs.State.{Message, Standing, Settled, Known, Change, Hold, Wait, WaitOn, See, React, ToTell, Settle, Passed, Passeds, Plain, AGift, Many, NoMore, More, Sends, Vat, Act, ◌>>=◌, ◌>>◌, and_then, each, give, look, tell, enqueue, with_change, changed, changed_to, unless_settled, alter, come, mail, draw, draws, new_promise, new_message, new_lone_message, begun}
use Rattle.def_machine.specs.Refs as refs
use Rattle.def_machine.specs.Refs.{Place, Near, Mine, Away, Gone}
use Rattle.law_fate.specs.Name.Names.{AllOf}
use Rattle.law_fate.proofs.Name.Facts.{MayBe, all_end}
use Rattle.law_never_astray.specs.Near.{IsNear, TargetNear, ReactsNear, TargetsNear}
use Rattle.law_never_astray.proofs.Rests.{Quiet, RestsAfter, quiets, quiet_bind, quiet_then, quiet_some, quiet_give, quiet_tell, quiet_each}

-- ---- what a followed value is near

module _ {N W : Type 0} (K : Naming N W) where
  hosted_near : (v h : ℕ) (n : N) (b : Bool) → ◌≡◌ {A = Place N} (elim b [ true ↦ Mine n | false ↦ Away h n false ]) Near → ⊥
  hosted_near v h n true e = cc
  hosted_near v h n false e = cc

  spotted_near : (s : Vat N) (n : N) (p : Spot) → refs.spotted K s n p ≡ Near → (i : ℕ) × (p ≡ Own i)
  unfolding refs.spotted refs.hosted
  spotted_near s n (Own i) e = (i, refl)
  spotted_near s n (Foreign h) e = cc
  spotted_near s n NoObject e = absurd (hosted_near s.number (refs.host_at K s.number s.known n) n (s.number == refs.host_at K s.number s.known n) e)

  pub place_near : (s : Vat N) (y : Value N) → refs.place K s y ≡ Near → IsNear K y
  unfolding refs.place
  place_near s (Ref n) e m q = let same : n ≡ m = cc in let found = spotted_near s n (K.spot n) e in subst (λ z. (i : ℕ) × (K.spot z ≡ Own i)) same found
  place_near s y e m q = cc

  -- ---- single changes

  abbrev ChangeNear : Change N → Type 0
  ChangeNear (React m) = TargetNear K m
  ChangeNear other = Unit {0}

  to_near : (c : Change N) (k : Known N) → ChangeNear c → ReactsNear K k → ReactsNear K (changed_to c k)
  unfolding changed_to
  to_near (React m) k g h = all_end (TargetNear K) k.reactions m h g
  to_near (Settle y) k g h = tt
  to_near other k g h = h

  unless_near : (t : Standing N) (k new : Known N) → ReactsNear K k → ReactsNear K new → ReactsNear K (unless_settled t k new)
  unfolding unless_settled
  unless_near (Settled y) k new h i = h
  unless_near other k new h i = i

  either_near : (b : Bool) (j k : Known N) (js ks : List (Known N)) → ReactsNear K j → ReactsNear K k → AllOf (ReactsNear K) js → AllOf (ReactsNear K) ks → AllOf (ReactsNear K) (elim b [ true ↦ j ∷ ks | false ↦ k ∷ js ])
  either_near true j k js ks a b c d = (a, d)
  either_near false j k js ks a b c d = (b, c)

  change_near : (c : Change N) (n : N) (ks : List (Known N)) → ChangeNear c → AllOf (ReactsNear K) ks → AllOf (ReactsNear K) (with_change K c n ks)
  unfolding with_change changed
  change_near c n [] g h = tt
  change_near c n (k ∷ ks) g h = either_near (K.same k.name n) (changed c k) k (with_change K c n ks) ks (unless_near k.standing k (changed_to c k) h.0 (to_near c k g h.0)) h.0 (change_near c n ks g h.1) h.1

  entry_either : (b : Bool) (k : Known N) (o : Option (Known N)) → ReactsNear K k → MayBe (ReactsNear K) o → MayBe (ReactsNear K) (elim b [ true ↦ Some k | false ↦ o ])
  entry_either true k o h i = h
  entry_either false k o h i = i

  entry_near : (ks : List (Known N)) (n : N) → AllOf (ReactsNear K) ks → MayBe (ReactsNear K) (refs.entry_of K ks n)
  unfolding refs.entry_of
  entry_near [] n h = tt
  entry_near (k ∷ ks) n h = entry_either (K.same k.name n) k (refs.entry_of K ks n) h.0 (entry_near ks n h.1)

  abbrev pub Keeps : {A : Type 0} → Act N A → Type 0
  Keeps m = Quiet (TargetsNear K) m

  keep_queue : (m : Message N) → TargetNear K m → Keeps (enqueue m)
  unfolding enqueue
  keep_queue m g = record { after = λ s r. (all_end (TargetNear K) s.queue m r.0 g, r.1) }

  keep_change : (c : Change N) (n : N) → ChangeNear c → Keeps (alter K c n)
  unfolding alter
  keep_change c n g = record { after = λ s r. (r.0, change_near c n s.known g r.1) }

  pub keep_hold : (m : Message N) (n : N) → Keeps (alter K (Hold m) n)
  keep_hold m n = keep_change (Hold m) n tt

  pub keep_wait : (q n : N) → Keeps (alter K (Wait q) n)
  keep_wait q n = keep_change (Wait q) n tt

  pub keep_wait_on : (q n : N) → Keeps (alter K (WaitOn q) n)
  keep_wait_on q n = keep_change (WaitOn q) n tt

  pub keep_see : (q n : N) → Keeps (alter K (See q) n)
  keep_see q n = keep_change (See q) n tt

  pub keep_tell : (w : ℕ) (n : N) → Keeps (alter K (ToTell w) n)
  keep_tell w n = keep_change (ToTell w) n tt

  pub keep_settled : (y : Value N) (n : N) → Keeps (alter K (Settle y) n)
  keep_settled y n = keep_change (Settle y) n tt

  begun_near : (n : N) (h : ℕ) → ReactsNear K (begun n h)
  unfolding begun
  begun_near n h = tt

  pub keep_come : (c : Coming N W) (h : ℕ) → Keeps (come K c h)
  unfolding come
  keep_come c h = record { after = λ s r. (r.0, all_end (ReactsNear K) s.known _ r.1 (begun_near _ h)) }

  pub keep_mail : (c : Mailing W) → Keeps (mail K c)
  unfolding mail
  keep_mail c = record { after = λ s r. r }

  pub keep_promise : Keeps (new_promise K)
  unfolding new_promise
  keep_promise = record { after = λ s r. (r.0, all_end (ReactsNear K) s.known _ r.1 (begun_near _ s.number)) }

  pub keep_message : (h : ℕ) → Keeps (new_message K h)
  unfolding new_message
  keep_message h = record { after = λ s r. (r.0, all_end (ReactsNear K) s.known _ r.1 (begun_near _ h)) }

  pub keep_lone : Keeps (new_lone_message K)
  unfolding new_lone_message
  keep_lone = record { after = λ s r. r }

  draws_keep : (w : ℕ) (o : Option ℕ) (s : Vat N) → TargetsNear K s.queue s.known → RestsAfter (TargetsNear K) (draws w o s)
  unfolding draws
  draws_keep w (Some i) s r = tt
  draws_keep w None s r = r

  pub keep_draw : Keeps (draw K)
  unfolding draw
  keep_draw = record { after = λ s r. draws_keep _ _ s r }

  pub ruleset keeps = (quiets, keep_hold, keep_wait, keep_wait_on, keep_see, keep_tell, keep_settled, keep_come, keep_mail, keep_promise, keep_message, keep_lone, keep_draw)

  -- ---- references

  keep_address_plain : (w : ℕ) (y : Value N) (p : Place N) → Keeps (refs.address_plain K w y p)
  unfolding refs.address_plain
  keep_address_plain w y (Away h n o) = search (keeps) depth 14
  keep_address_plain w y other = search (keeps) depth 14

  mutual
    unfolding refs.address refs.address_all

    keep_address : (w : ℕ) (y : Passed N) → Keeps (refs.address K w y)
    keep_address w (Plain y) = search (keeps, keep_address_plain) depth 14
    keep_address w (AGift h i) = search (keeps) depth 14
    keep_address w (Many ys) = quiet_bind (TargetsNear K) (keep_address_all w ys) (λ zs. quiet_give (TargetsNear K) (Many zs))

    keep_address_all : (w : ℕ) (ys : Passeds N) → Keeps (refs.address_all K w ys)
    keep_address_all w NoMore = search (keeps) depth 14
    keep_address_all w (More y ys) = quiet_bind (TargetsNear K) (keep_address w y) (λ z. quiet_bind (TargetsNear K) (keep_address_all w ys) (λ zs. quiet_give (TargetsNear K) (More z zs)))

  keep_pass : (w : ℕ) (x : Value N) → Keeps (refs.pass K w x)
  unfolding refs.pass
  keep_pass w x = search (keeps, keep_address) depth 14

  keep_pass_all : (w : ℕ) (xs : List (Value N)) → Keeps (refs.pass_all K w xs)
  unfolding refs.pass_all
  keep_pass_all w [] = search (keeps) depth 14
  keep_pass_all w (x ∷ xs) = quiet_bind (TargetsNear K) (keep_pass w x) (λ y. quiet_bind (TargetsNear K) (keep_pass_all w xs) (λ ys. quiet_give (TargetsNear K) (More y ys)))

  keep_deliver : (m : Message N) (h : ℕ) (n : N) → Keeps (refs.deliver K m h n)
  unfolding refs.deliver
  keep_deliver m h n = search (keeps, keep_pass_all) depth 14

  keep_inform_of : (p : N) (w : ℕ) (y : Value N) (q : Place N) → Keeps (refs.inform_of K p w y q)
  unfolding refs.inform_of
  keep_inform_of p w y (Away h n true) = search (keeps) depth 14
  keep_inform_of p w y other = search (keeps, keep_pass) depth 14

  pub keep_inform : (p : N) (w : ℕ) → Keeps (refs.inform K p w)
  unfolding refs.inform
  keep_inform p w = search (keeps, keep_inform_of) depth 14

  keep_waits : (p q : N) → Keeps (refs.wait_on K p q)
  unfolding refs.wait_on
  keep_waits p q = search (keeps) depth 14

  keep_pass_on : (m : Message N) (h : ℕ) (n : N) → Keeps (refs.pass_on K m h n)
  unfolding refs.pass_on
  keep_pass_on m h n = search (keeps, keep_deliver, keep_waits) depth 14

  abbrev pub KeepsSettling : (N → Value N → Act N (Unit {0})) → Type 0
  KeepsSettling settle = (p : N) (y : Value N) → Keeps (settle p y)

  -- what stands at the place of a followed value is near where that is so
  abbrev IsPlaced : Value N → Place N → Type 0
  IsPlaced y p = p ≡ Near → IsNear K y

  keep_send_to : (settle : N → Value N → Act N (Unit {0})) → KeepsSettling settle → (m : Message N) (y : Value N) (p : Place N) → IsPlaced y p → Keeps (refs.send_to K settle m y p)
  unfolding refs.send_to
  keep_send_to settle good m y Near g = keep_queue (record m { target = y }) (g refl)
  keep_send_to settle good m y (Mine n) g = keep_hold _ n
  keep_send_to settle good m y (Away h n o) g = keep_pass_on m h n
  keep_send_to settle good m y (Gone t) g = quiet_then (TargetsNear K) (quiet_tell (TargetsNear K) _) (quiet_some (TargetsNear K) m.answer (λ a. good a (Broken t)) (quiet_give (TargetsNear K) tt))

  pub keep_send_on : (settle : N → Value N → Act N (Unit {0})) → KeepsSettling settle → (m : Message N) → Keeps (refs.send_on K settle m)
  unfolding refs.send_on ◌>>=◌ look and_then
  keep_send_on settle good m = record { after = λ s r. (keep_send_to settle good m (refs.follow K s m.target) (refs.place K s (refs.follow K s m.target)) (λ e. place_near s _ e)).after s r }

  keep_each : (ms : List (Message N)) → AllOf (TargetNear K) ms → Keeps (each enqueue ms)
  unfolding each
  keep_each [] h = quiet_give (TargetsNear K) tt
  keep_each (m ∷ ms) h = quiet_then (TargetsNear K) (keep_queue m h.0) (keep_each ms h.1)

  keep_known : (settle : N → Value N → Act N (Unit {0})) → KeepsSettling settle → (p : N) (y : Value N) (k : Known N) → ReactsNear K k → Keeps (refs.settle_known K settle p y k)
  unfolding refs.settle_known
  keep_known settle good p y k h = quiet_then (TargetsNear K) (quiet_tell (TargetsNear K) _) (quiet_then (TargetsNear K) (keep_settled y p) (quiet_then (TargetsNear K) (quiet_each (TargetsNear K) k.held (λ m. keep_send_on settle good m))
      (quiet_then (TargetsNear K) (quiet_each (TargetsNear K) k.waiting (λ q. good q y)) (quiet_then (TargetsNear K) (keep_each k.reactions h) (quiet_each (TargetsNear K) k.told (λ w. keep_inform p w))))))

  keep_standing : (settle : N → Value N → Act N (Unit {0})) → KeepsSettling settle → (p : N) (y : Value N) (k : Known N) (t : Standing N) → ReactsNear K k → Keeps (refs.settle_standing K settle p y k t)
  unfolding refs.settle_standing
  keep_standing settle good p y k (Settled z) h = quiet_give (TargetsNear K) tt
  keep_standing settle good p y k other h = keep_known settle good p y k h

  keep_entry : (settle : N → Value N → Act N (Unit {0})) → KeepsSettling settle → (p : N) (y : Value N) (o : Option (Known N)) → MayBe (ReactsNear K) o → Keeps (refs.settle_entry K settle p y o)
  unfolding refs.settle_entry
  keep_entry settle good p y None h = quiet_give (TargetsNear K) tt
  keep_entry settle good p y (Some k) h = keep_standing settle good p y k k.standing h

  keep_one : (settle : N → Value N → Act N (Unit {0})) → KeepsSettling settle → (p : N) (y : Value N) → Keeps (refs.settle_one K settle p y)
  unfolding refs.settle_one ◌>>=◌ look and_then
  keep_one settle good p y = record { after = λ s r. (keep_entry settle good p (refs.target_of K s p y) (refs.entry_of K s.known p) (entry_near s.known p r.1)).after s r }

  keep_settle_at : (d : ℕ) (p : N) (y : Value N) → Keeps (refs.settle_at K d p y)
  unfolding refs.settle_at
  keep_settle_at zero p y = search (keeps) depth 14
  keep_settle_at (suc d) p y = keep_one (λ q z. refs.settle_at K d q z) (λ q z. keep_settle_at d q z) p y

  pub keep_settle : (p : N) (y : Value N) → Keeps (refs.settle K p y)
  unfolding refs.settle
  keep_settle p y = search (keeps, keep_settle_at) depth 14

  keep_wait_unless : (p q : N) → Keeps (refs.wait_unless_cycle K p q)
  unfolding refs.wait_unless_cycle
  keep_wait_unless p q = search (keeps, keep_settle, keep_waits) depth 14

  keep_resolve_to : (p : N) (y : Value N) (q : Place N) → Keeps (refs.resolve_to K p y q)
  unfolding refs.resolve_to
  keep_resolve_to p y (Mine q) = search (keeps, keep_wait_unless) depth 14
  keep_resolve_to p y (Away h q false) = search (keeps, keep_wait_unless) depth 14
  keep_resolve_to p y other = search (keeps, keep_settle) depth 14

  pub keep_resolve : (p : N) (x : Value N) → Keeps (refs.resolve K p x)
  unfolding refs.resolve
  keep_resolve p x = search (keeps, keep_resolve_to) depth 14

  -- ---- sending and reacting

  keep_send_first : (m : Message N) (y : Value N) (p : Place N) → IsPlaced y p → Keeps (refs.send_first K m y p)
  unfolding refs.send_first
  keep_send_first m y (Away h n o) g = keep_deliver m h n
  keep_send_first m y Near g = keep_send_to (refs.settle K) (λ q z. keep_settle q z) m y Near g
  keep_send_first m y (Mine n) g = keep_send_to (refs.settle K) (λ q z. keep_settle q z) m y (Mine n) g
  keep_send_first m y (Gone t) g = keep_send_to (refs.settle K) (λ q z. keep_settle q z) m y (Gone t) g

  sent : {B : Type 0} (act : ℕ) (x y : Value N) (verb : Words) (args : List (Value N)) (p : Place N) → IsPlaced y p → (id : N) (a : Option N) (b : B)
      → Keeps (tell (Sends act (record { id = id; target = x; verb = verb; args = args; answer = a })) >> (refs.send_first K (record { id = id; target = y; verb = verb; args = args; answer = a }) y p >> give b))
  sent act x y verb args p g id a b = quiet_then (TargetsNear K) (quiet_tell (TargetsNear K) _) (quiet_then (TargetsNear K) (keep_send_first _ y p g) (quiet_give (TargetsNear K) b))

  pub keep_send : (act : ℕ) (x : Value N) (verb : Words) (args : List (Value N)) → Keeps (refs.send K act x verb args)
  unfolding refs.send ◌>>=◌ look and_then
  keep_send act x verb args = record {
    after = λ s r. let y : Value N = refs.follow K s x in let p : Place N = refs.place K s y in
        (quiet_bind (TargetsNear K) (keep_message (refs.answer_host K s.number p)) (λ new. sent act x y verb args p (λ e. place_near s y e) new.0 (Some new.1) (Ref new.1))).after s r;
  }

  pub keep_send_only : (act : ℕ) (x : Value N) (verb : Words) (args : List (Value N)) → Keeps (refs.send_only K act x verb args)
  unfolding refs.send_only ◌>>=◌ look and_then
  keep_send_only act x verb args = record {
    after = λ s r. let y : Value N = refs.follow K s x in let p : Place N = refs.place K s y in
        (quiet_bind (TargetsNear K) keep_lone (λ id. sent act x y verb args p (λ e. place_near s y e) id None Null)).after s r;
  }

  keep_react_at : (m : Message N) → TargetNear K m → (p : Place N) → Keeps (refs.react_at K m p)
  unfolding refs.react_at
  keep_react_at m g (Mine n) = keep_change (React m) n g
  keep_react_at m g (Away h n false) = keep_change (React m) n g
  keep_react_at m g other = keep_queue m g

  pub keep_react : (act : ℕ) (x o near : Value N) → IsNear K near → Keeps (refs.react K act x o near)
  unfolding refs.react refs.reaction
  keep_react act x o near g = search (keeps, keep_react_at) depth 14
