-- What passing, sending on, waiting, settling and resolving take of the room for one name.
use Rattle.std.proofs.Common.{◌≡◌, ℕ, zero, suc, ◌+◌, ◌*◌, Bool, true, false, List, [], ◌∷◌, ◌++◌, Option, Some, None, refl, arith, length, if◌then◌else◌}
use Rattle.def_machine.specs.Values.{Words, Value, Broken, Name, Naming, naming, IsAnswer}
use Rattle.def_machine.specs.State.{Message, Standing, Unsettled, WaitsOn, Viewed, Settled, Known, WaitOn, ToTell, Settle, Passed, AGift, Open, Settles, Vat, Act, ◌>>=◌, ◌>>◌, and_then, give, look, tell, each, enqueue, send_out, draw, alter, with_change, changed_to}
use Rattle.def_machine.specs.Refs as refs
use Rattle.def_machine.specs.Refs.{Place, Near, Mine, Away, Gone}
use Rattle.law_fate.specs.Name.Names.{IsEventual}
use Rattle.law_fate.specs.Fates.Fate.{one, total}
use Rattle.law_order.proofs.Ordering.Moves.{Keeps, IsKept, keeps_bind, keeps_then, keeps_if, keeps_give, keeps_stop, keeps_look, keeps_tell, keeps_spend, keeps_list}
use Rattle.law_order.proofs.Ordering.Passings.{keeps_pass, keeps_pass_all}
use Rattle.law_order.specs.Waits.Answers.{answered_by, answers, asked_at, waits_at}
use Rattle.law_order.proofs.Waits.Room.{share, share_most, share_sum}
use Rattle.law_order.proofs.Waits.Costs.{Ends}
use Rattle.law_order.proofs.Waits.Costs as costs

pub ruleset moves = (keeps_bind, keeps_then, keeps_if, keeps_give, keeps_stop, keeps_look, keeps_tell, keeps_spend, keeps_list)

total_twice : (f : Message Name → ℕ) (ms : List (Message Name)) → total (λ m. 2 * f m) ms ≡ 2 * total f ms
unfolding total
total_twice f [] = refl
total_twice f (m ∷ ms) = let rest = total_twice f ms in omega arith

total_share : (owed : Bool) (f : Name → ℕ) (ns : List Name) → total (λ n. share owed (f n)) ns ≡ share owed (total f ns)
unfolding total share
total_share true f [] = refl
total_share false f [] = refl
total_share owed f (n ∷ ns) = let rest = total_share owed f ns in let split = share_sum owed (f n) (total f ns) in omega arith

is_waiting : (q : Name) (t : Standing Name) → t ≡ WaitsOn q → (y : Value Name) → t ≡ Settled y → ⊥
is_waiting q t e y i = cc

is_viewed : (q : Name) (t : Standing Name) → t ≡ Viewed q → (y : Value Name) → t ≡ Settled y → ⊥
is_viewed q t e y i = cc

is_unsettled : (t : Standing Name) → t ≡ Unsettled → (y : Value Name) → t ≡ Settled y → ⊥
is_unsettled t e y i = cc

module _ (word : ℕ → ℕ) (v : ℕ) (x : Name) (owed : Bool) (owes : owed ≡ true → IsEventual x) where
  abbrev N : Naming Name Name
  N = naming word v

  abbrev Spares : Vat Name → Vat Name → Type 0
  Spares s t = costs.Spares word v x owed s t

  abbrev Costs : {A : Type 0} → ℕ → Act Name A → Type 0
  Costs c m = costs.Costs word v x owed c m

  abbrev At : ℕ → Vat Name → Type 0
  At c s = costs.At word v x owed c s

  base : IsKept Spares
  base = costs.spares word v x owed

  out : (to : ℕ) (n : _) → Keeps Spares (send_out to n)
  out to n = costs.spare_out word v x owed to n

  draws : Keeps Spares (draw N)
  draws = costs.spare_draw word v x owed

  tells : (w : ℕ) (n : Name) → Keeps Spares (alter N (ToTell w) n)
  tells w n = costs.spare_tells word v x owed w n

  lets : (h : ℕ) (n : Name) → Keeps {N = Name} {A = Passed Name} Spares (draw N >>= (λ i. send_out h (Open i n) >> give (AGift h i)))
  lets h n = search (moves, base, out, draws) depth 14

  pass : (w : ℕ) (y : Value Name) → Keeps Spares (refs.pass N w y)
  pass w y = keeps_pass N Spares base tells lets w y

  pass_all : (w : ℕ) (ys : List (Value Name)) → Keeps Spares (refs.pass_all N w ys)
  pass_all w ys = keeps_pass_all N Spares base tells lets w ys

  pub spare_deliver : (m : Message Name) (h : ℕ) (n : Name) → Keeps Spares (refs.deliver N m h n)
  unfolding refs.deliver
  spare_deliver m h n = search (moves, base, pass_all, out) depth 14

  inform_of : (p : Name) (w : ℕ) (y : Value Name) (q : Place Name) → Keeps Spares (refs.inform_of N p w y q)
  unfolding refs.inform_of
  inform_of p w y (Away h n true) = out w _
  inform_of p w y other = search (moves, base, pass, out) depth 14

  pub spare_inform : (p : Name) (w : ℕ) → Keeps Spares (refs.inform N p w)
  unfolding refs.inform
  spare_inform p w = search (moves, base, inform_of) depth 14

  told_all : (p : Name) (ws : List ℕ) → Keeps Spares (each (refs.inform N p) ws)
  unfolding each
  told_all p [] = keeps_give Spares base tt
  told_all p (w ∷ ws) = keeps_then Spares base (spare_inform p w) (told_all p ws)

  -- ---- waiting, and sending on

  pub costs_wait_on : (p q : Name) → Costs (2 * one p x) (refs.wait_on N p q)
  unfolding refs.wait_on ◌>>◌ and_then tell alter changed_to
  costs_wait_on p q = record { after = λ e s g. costs.pays_good word v x owed (WaitOn q) q refl refl (λ n. refl) (λ k. refl) owes p e s g }

  costs_pass_on : (m : Message Name) (h : ℕ) (n : Name) → Costs (2 * answers x m) (refs.pass_on N m h n)
  unfolding refs.pass_on answers
  costs_pass_on m h n = costs.costs_some word v x owed m.answer (λ p. costs.free_bind word v x owed (2 * one p x) (costs.spare_come word v x owed (IsAnswer h m.id) h)
      (λ a. costs.free_then word v x owed (2 * one p x) (spare_deliver (record m { answer = Some a }) h n) (costs_wait_on p a))) (costs.costs_free word v x owed 0 (spare_deliver m h n))

  abbrev Settler : Type 0
  Settler = Name → Value Name → Act Name (Unit {0})

  -- where the name is owed, that it settles takes one
  abbrev pub GoodSettler : Settler → Type 0
  GoodSettler settle = (p : Name) (y : Value Name) → Costs (share owed (one p x)) (settle p y)

  module _ (settle : Settler) (good : GoodSettler settle) where
    lost : (t : Words) (a : Name) → Costs (2 * one a x) (settle a (Broken t))
    lost t a = let most = share_most owed (one a x) in costs.costs_more word v x owed (share owed (one a x)) (2 * one a x) (omega arith) (good a (Broken t))

    pub costs_send_to : (m : Message Name) (y : Value Name) (p : Place Name) → Costs (2 * answers x m) (refs.send_to N settle m y p)
    unfolding refs.send_to answers
    costs_send_to m y Near = costs.costs_queue word v x owed (record m { target = y })
    costs_send_to m y (Mine n) = costs.costs_hold word v x owed (record m { target = y }) n
    costs_send_to m y (Away h n o) = costs_pass_on m h n
    costs_send_to m y (Gone t) = costs.free_then word v x owed (2 * answered_by x m.answer) (keeps_tell Spares base _)
        (costs.costs_some word v x owed m.answer (λ a. lost t a) (costs.costs_free word v x owed 0 (keeps_give Spares base tt)))

    pub costs_send_on : (m : Message Name) → Costs (2 * answers x m) (refs.send_on N settle m)
    unfolding refs.send_on
    costs_send_on m = costs.free_bind word v x owed (2 * answers x m) (keeps_look Spares base _) (λ y. costs.free_bind word v x owed (2 * answers x m) (keeps_look Spares base _) (λ p. costs_send_to m y p))

    -- what a name that settles frees is paid for what follows
    freed : (p : Name) (y : Value Name) (k : Known Name) → Costs (2 * asked_at x k + share owed (waits_at x k)) (each (refs.send_on N settle) k.held >> (each (λ q. settle q y) k.waiting >> (each enqueue k.reactions >> each (refs.inform N p) k.told)))
    unfolding asked_at waits_at
    freed p y k = let held = total_twice (answers x) k.held in let reacting = total_twice (answers x) k.reactions in let waits = total_share owed (λ (q : Name). one q x) k.waiting in
        let a : ℕ = total (λ m. 2 * answers x m) k.held in let b : ℕ = total (λ q. share owed (one q x)) k.waiting in let c : ℕ = total (λ m. 2 * answers x m) k.reactions in
        costs.costs_then word v x owed a (b + c) (2 * (total (answers x) k.held + total (answers x) k.reactions) + share owed (total (λ (q : Name). one q x) k.waiting)) (omega arith)
        (costs.costs_each word v x owed (λ m. 2 * answers x m) (refs.send_on N settle) k.held costs_send_on)
        (costs.costs_then word v x owed b c (b + c) (omega arith) (costs.costs_each word v x owed (λ q. share owed (one q x)) (λ q. settle q y) k.waiting (λ q. good q y))
        (costs.then_free word v x owed c (costs.costs_each word v x owed (λ m. 2 * answers x m) enqueue k.reactions (λ m. costs.costs_queue word v x owed m)) (told_all p k.told)))

    settled_known : (p : Name) (y : Value Name) (k : Known Name) (e : ℕ) (s : Vat Name) → refs.entry_of N s.known p ≡ Some k → ((z : Value Name) → k.standing ≡ Settled z → ⊥) → At (share owed (one p x) + e) s → Ends (At e) (refs.settle_known N settle p y k s)
    unfolding refs.settle_known ◌>>◌ and_then tell alter
    settled_known p y k e s i loose g = let t : Vat Name = record s { happened = s.happened ++ Settles p y ∷ []; known = with_change N (Settle y) p s.known } in let rest = freed p y k in
        rest.after e t (costs.less word v x owed (2 * asked_at x k + (share owed (waits_at x k) + e)) ((2 * asked_at x k + share owed (waits_at x k)) + e) (omega arith) t (costs.settles_good word v x owed y p k e s i loose g))

    settled_standing : (p : Name) (y : Value Name) (k : Known Name) (e : ℕ) (s : Vat Name) → refs.entry_of N s.known p ≡ Some k → (t : Standing Name) → k.standing ≡ t → At (share owed (one p x) + e) s → Ends (At e) (refs.settle_standing N settle p y k t s)
    unfolding refs.settle_standing give
    settled_standing p y k e s i (Settled z) j g = costs.less word v x owed (share owed (one p x) + e) e (omega arith) s g
    settled_standing p y k e s i Unsettled j g = settled_known p y k e s i (is_unsettled k.standing j) g
    settled_standing p y k e s i (WaitsOn q) j g = settled_known p y k e s i (is_waiting q k.standing j) g
    settled_standing p y k e s i (Viewed q) j g = settled_known p y k e s i (is_viewed q k.standing j) g

    settled_entry : (p : Name) (y : Value Name) (e : ℕ) (s : Vat Name) (o : Option (Known Name)) → refs.entry_of N s.known p ≡ o → At (share owed (one p x) + e) s → Ends (At e) (refs.settle_entry N settle p y o s)
    unfolding refs.settle_entry give
    settled_entry p y e s None i g = costs.less word v x owed (share owed (one p x) + e) e (omega arith) s g
    settled_entry p y e s (Some k) i g = settled_standing p y k e s i k.standing refl g

    costs_settle_one : GoodSettler (refs.settle_one N settle)
    unfolding refs.settle_one ◌>>=◌ and_then look
    costs_settle_one p y = record { after = λ e s g. settled_entry p (refs.target_of N s p y) e s (refs.entry_of N s.known p) refl g }

  costs_settle_at : (d : ℕ) → GoodSettler (refs.settle_at N d)
  unfolding refs.settle_at
  costs_settle_at zero p y = costs.costs_free word v x owed (share owed (one p x)) (keeps_stop Spares base _)
  costs_settle_at (suc d) p y = costs_settle_one (λ q z. refs.settle_at N d q z) (λ q z. costs_settle_at d q z) p y

  pub costs_settle : GoodSettler (refs.settle N)
  unfolding refs.settle
  costs_settle p y = costs.free_bind word v x owed (share owed (one p x)) (keeps_look Spares base _) (λ d. costs_settle_at d p y)

  -- ---- resolving

  settles_twice : (p : Name) (y : Value Name) → Costs (2 * one p x) (refs.settle N p y)
  settles_twice p y = let most = share_most owed (one p x) in costs.costs_more word v x owed (share owed (one p x)) (2 * one p x) (omega arith) (costs_settle p y)

  costs_wait_unless : (p q : Name) → Costs (2 * one p x) (refs.wait_unless_cycle N p q)
  unfolding refs.wait_unless_cycle
  costs_wait_unless p q = costs.free_bind word v x owed (2 * one p x) (keeps_look Spares base _) (λ back. costs.costs_if word v x owed (2 * one p x) back (settles_twice p _) (costs_wait_on p q))

  costs_resolve_to : (p : Name) (y : Value Name) (q : Place Name) → Costs (2 * one p x) (refs.resolve_to N p y q)
  unfolding refs.resolve_to
  costs_resolve_to p y (Mine q) = costs_wait_unless p q
  costs_resolve_to p y (Away h q false) = costs_wait_unless p q
  costs_resolve_to p y other = settles_twice p y

  pub costs_resolve : (p : Name) (y : Value Name) → Costs (2 * one p x) (refs.resolve N p y)
  unfolding refs.resolve
  costs_resolve p y = costs.free_bind word v x owed (2 * one p x) (keeps_look Spares base _) (λ z. costs.free_bind word v x owed (2 * one p x) (keeps_look Spares base _) (λ q. costs_resolve_to p z q))

  -- a name that did neither settle nor wait, or that settled: it takes what its settling takes
  module _ (p : Name) (e : ℕ) (s : Vat Name) (fits : costs.Fits word v x owed p s.known) (g : At (2 * share owed (one p x) + e) s) where
    settles_so : (y : Value Name) → Ends (At e) (refs.settle N p y s)
    settles_so y = let c = costs_settle p y in c.after e s (costs.less word v x owed (2 * share owed (one p x) + e) (share owed (one p x) + e) (omega arith) s g)

    waits_so : (q : Name) → Ends (At e) (refs.wait_on N p q s)
    unfolding refs.wait_on ◌>>◌ and_then tell alter changed_to
    waits_so q = costs.links_good word v x owed (WaitOn q) q refl refl (λ n. refl) (λ k. refl) p e s fits g

    either_so : (b : Bool) (q : Name) (y : Value Name) → Ends (At e) ((if b then refs.settle N p y else refs.wait_on N p q) s)
    either_so true q y = settles_so y
    either_so false q y = waits_so q

    waits_unless_so : (q : Name) → Ends (At e) (refs.wait_unless_cycle N p q s)
    unfolding refs.wait_unless_cycle ◌>>=◌ and_then look
    waits_unless_so q = either_so (refs.waits_lead N (length s.known) s.known p q) q _

    resolves_to_so : (y : Value Name) (q : Place Name) → Ends (At e) (refs.resolve_to N p y q s)
    unfolding refs.resolve_to
    resolves_to_so y (Mine q) = waits_unless_so q
    resolves_to_so y (Away h q false) = waits_unless_so q
    resolves_to_so y other = settles_so y

    pub resolves_so : (y : Value Name) → Ends (At e) (refs.resolve N p y s)
    unfolding refs.resolve ◌>>=◌ and_then look
    resolves_so y = resolves_to_so (refs.follow N s y) (refs.place N s (refs.follow N s y))
