-- Passing, sending, settling, resolving and reacting double no message.
use Rattle.std.proofs.Common.{◌≡◌, ℕ, zero, suc, ◌+◌, ◌≤◌, Bool, true, false, List, [], ◌∷◌, ◌++◌, Option, Some, None, refl, arith, length}
use Rattle.def_machine.specs.Values.{Words, Value, Broken, Name, Sent, Naming, IsAnswer, IsSent}
use Rattle.def_machine.specs.State.{Message, Standing, Settled, Known, Settle, Passed, Passeds, Plain, AGift, Many, NoMore, More, Sends, Reacts, Settles, Happened, Vat, Act, ◌>>=◌, ◌>>◌, and_then, each, give, look, tell, enqueue, with_change, alter, new_message, begun, new_lone_message}
use Rattle.def_machine.specs.Refs as refs
use Rattle.def_machine.specs.Refs.{Place, Near, Mine, Away, Gone, entry_of}
use Rattle.law_machine.specs.Machine.Steps.{After}
use Rattle.law_machine.proofs.Machine.Keeps.{Keeps}
use Rattle.law_fate.specs.Fates.Fate.{one, among, at_vat, sent_here, gone_here, account}
use Rattle.law_fate.specs.Fates.FateLaws.{numbered, Accounted}
use Rattle.law_fate.proofs.Fates.Spares.{IsSparedUnder, keeps_give, keeps_each, keeps_look}
use Rattle.law_fate.proofs.Fates.Counts.{sent_end, gone_end, names_end, Waits, settling_frees, numbered_next}
use Rattle.law_fate.proofs.Fates.RefsCounts.{costs_some, Owes, free, spared, after_pays, costs_then, free_bind, free_then, then_free, costs_enqueue, costs_put, costs_lost, costs_hold, costs_react, free_come, free_promise}

module _ (cut : ℕ → Bool) (v : ℕ) (x : Name) where
  -- a settler doubles none
  abbrev pub FreeSettler : (Name → Value Name → Act Name (Unit {0})) → Type 0
  FreeSettler settle = (p : Name) (y : Value Name) → Keeps (Accounted cut v x 0) (settle p y)

  module _ {W : Type 0} (K : Naming Name W) where
    free_address_plain : (w : ℕ) (y : Value Name) (p : Place Name) → Keeps (Accounted cut v x 0) (refs.address_plain K w y p)
    unfolding refs.address_plain
    free_address_plain w y (Away h n o) = search (free, spared) depth 14
    free_address_plain w y (Mine n) = search (free, spared) depth 14
    free_address_plain w y _ = search (free, spared) depth 14

    mutual
      unfolding refs.address refs.address_all

      free_address : (w : ℕ) (y : Passed Name) → Keeps (Accounted cut v x 0) (refs.address K w y)
      free_address w (Plain y) = search (free, spared, free_address_plain) depth 14
      free_address w (AGift h i) = search (free, spared)
      free_address w (Many ys) = let rest = free_address_all w ys in search (free, spared)

      free_address_all : (w : ℕ) (ys : Passeds Name) → Keeps (Accounted cut v x 0) (refs.address_all K w ys)
      free_address_all w NoMore = search (free, spared)
      free_address_all w (More y ys) = let one = free_address w y in let rest = free_address_all w ys in search (free, spared)

    pub free_pass : (w : ℕ) (y : Value Name) → Keeps (Accounted cut v x 0) (refs.pass K w y)
    unfolding refs.pass
    free_pass w y = search (free, spared, free_address) depth 14

    free_pass_all : (w : ℕ) (ys : List (Value Name)) → Keeps (Accounted cut v x 0) (refs.pass_all K w ys)
    unfolding refs.pass_all
    free_pass_all w [] = search (free, spared)
    free_pass_all w (y ∷ ys) = let rest = free_pass_all w ys in search (free, spared, free_pass) depth 14

    costs_deliver : (m : Message Name) (h : ℕ) (n : Name) → Keeps (Accounted cut v x (one m.id x)) (refs.deliver K m h n)
    unfolding refs.deliver
    costs_deliver m h n = free_bind cut v x (one m.id x) (free_pass_all h m.args) (λ args. costs_put cut v x h (refs.delivery_of K m) n m.verb args)

    free_waits_on : (p q : Name) → Keeps (Accounted cut v x 0) (refs.wait_on K p q)
    unfolding refs.wait_on
    free_waits_on p q = search (free, spared) depth 14

    costs_pass_on : (m : Message Name) (h : ℕ) (n : Name) → Keeps (Accounted cut v x (one m.id x)) (refs.pass_on K m h n)
    unfolding refs.pass_on
    costs_pass_on m h n = costs_some cut v x (one m.id x) m.answer (λ p. free_bind cut v x (one m.id x) (free_come cut v x K (IsAnswer h m.id) h) (λ a. then_free cut v x (one m.id x) (costs_deliver (record m { answer = Some a }) h n) (free_waits_on p a))) (costs_deliver m h n)

    module _ (settle : Name → Value Name → Act Name (Unit {0})) (good : FreeSettler settle) where
      costs_send_to : (m : Message Name) (y : Value Name) (p : Place Name) → Keeps (Accounted cut v x (one m.id x)) (refs.send_to K settle m y p)
      unfolding refs.send_to
      costs_send_to m y Near = costs_enqueue cut v x (record m { target = y })
      costs_send_to m y (Mine n) = costs_hold cut v x K (record m { target = y }) n
      costs_send_to m y (Away h n o) = costs_pass_on m h n
      costs_send_to m y (Gone p) = then_free cut v x (one m.id x) (costs_lost cut v x m.id) (costs_some cut v x 0 m.answer (λ a. good a (Broken p)) (keeps_give _ (spared cut v x) tt))

      pub costs_send_on : (m : Message Name) → Keeps (Accounted cut v x (one m.id x)) (refs.send_on K settle m)
      unfolding refs.send_on
      costs_send_on m = free_bind cut v x (one m.id x) (keeps_look _ (spared cut v x) _) (λ y. free_bind cut v x (one m.id x) (keeps_look _ (spared cut v x) _) (λ p. costs_send_to m y p))

      costs_all : (ms : List (Message Name)) → Keeps (Accounted cut v x (among x ms)) (each (refs.send_on K settle) ms)
      unfolding each among
      costs_all [] = keeps_give _ (spared cut v x) tt
      costs_all (m ∷ ms) = costs_then cut v x (one m.id x) (among x ms) (costs_send_on m) (costs_all ms)

    costs_queued : (ms : List (Message Name)) → Keeps (Accounted cut v x (among x ms)) (each enqueue ms)
    unfolding each among
    costs_queued [] = keeps_give _ (spared cut v x) tt
    costs_queued (m ∷ ms) = costs_then cut v x (one m.id x) (among x ms) (costs_enqueue cut v x m) (costs_queued ms)

    free_inform_of : (p : Name) (w : ℕ) (y : Value Name) (q : Place Name) → Keeps (Accounted cut v x 0) (refs.inform_of K p w y q)
    unfolding refs.inform_of
    free_inform_of p w y (Away h n true) = search (free, spared) depth 14
    free_inform_of p w y _ = search (free, spared, free_pass) depth 14

    pub free_inform : (p : Name) (w : ℕ) → Keeps (Accounted cut v x 0) (refs.inform K p w)
    unfolding refs.inform
    free_inform p w = search (free, spared, free_inform_of) depth 14

    module _ (settle : Name → Value Name → Act Name (Unit {0})) (good : FreeSettler settle) where
      -- what a name that settles frees finds its places
      freed : (p : Name) (y : Value Name) (k : Known Name) → Keeps (Accounted cut v x (among x k.held + among x k.reactions)) (each (refs.send_on K settle) k.held >> (each (λ q. settle q y) k.waiting >> (each enqueue k.reactions >> each (refs.inform K p) k.told)))
      freed p y k = costs_then cut v x (among x k.held) (among x k.reactions) (costs_all settle good k.held)
          (free_then cut v x (among x k.reactions) (keeps_each _ (spared cut v x) k.waiting (λ q. good q y))
          (then_free cut v x (among x k.reactions) (costs_queued k.reactions) (keeps_each _ (spared cut v x) k.told (free_inform p))))

      frees : (p : Name) (y : Value Name) (k : Known Name) (s : Vat Name) → entry_of K s.known p ≡ Some k → Waits K k.standing
          → Owes cut v x (among x k.held + among x k.reactions) s (record s { happened = s.happened ++ Settles p y ∷ []; known = with_change K (Settle y) p s.known })
      unfolding account at_vat gone_here sent_here
      frees p y k s e h = let less = settling_frees K x y p k s.known e h in let a = gone_end cut x s.happened (Settles p y) in let b = sent_end x s.happened (Settles p y) in record { kept = omega arith; fresh = omega arith }

      settled_known : (p : Name) (y : Value Name) (k : Known Name) (s : Vat Name) → entry_of K s.known p ≡ Some k → Waits K k.standing → After (Accounted cut v x 0) s (refs.settle_known K settle p y k s)
      unfolding refs.settle_known ◌>>◌ and_then tell alter
      settled_known p y k s e h = after_pays cut v x (among x k.held + among x k.reactions) s _ (frees p y k s e h) _ ((freed p y k).after _)

      settled_standing : (p : Name) (y : Value Name) (k : Known Name) (s : Vat Name) → entry_of K s.known p ≡ Some k → (t : Standing Name) → k.standing ≡ t → After (Accounted cut v x 0) s (refs.settle_standing K settle p y k t s)
      unfolding refs.settle_standing give
      settled_standing p y k s e (Settled z) i = (spared cut v x).same s
      settled_standing p y k s e other i = settled_known p y k s e (rw i tt)

      settled_entry : (p : Name) (y : Value Name) (s : Vat Name) (o : Option (Known Name)) → entry_of K s.known p ≡ o → After (Accounted cut v x 0) s (refs.settle_entry K settle p y o s)
      unfolding refs.settle_entry give
      settled_entry p y s None e = (spared cut v x).same s
      settled_entry p y s (Some k) e = settled_standing p y k s e k.standing refl

      free_settle_one : FreeSettler (refs.settle_one K settle)
      unfolding refs.settle_one ◌>>=◌ and_then look
      free_settle_one p y = record { after = λ s. settled_entry p (refs.target_of K s p y) s (entry_of K s.known p) refl }

    free_settle_at : (d : ℕ) → FreeSettler (refs.settle_at K d)
    unfolding refs.settle_at
    free_settle_at zero p y = search (free, spared)
    free_settle_at (suc d) p y = free_settle_one (λ q z. refs.settle_at K d q z) (λ q z. free_settle_at d q z) p y

    pub free_settle : FreeSettler (refs.settle K)
    unfolding refs.settle
    free_settle p y = search (free, spared, free_settle_at) depth 14

    free_wait_unless_cycle : (p q : Name) → Keeps (Accounted cut v x 0) (refs.wait_unless_cycle K p q)
    unfolding refs.wait_unless_cycle
    free_wait_unless_cycle p q = search (free, spared, free_settle, free_waits_on) depth 14

    free_resolve_to : (p : Name) (y : Value Name) (q : Place Name) → Keeps (Accounted cut v x 0) (refs.resolve_to K p y q)
    unfolding refs.resolve_to
    free_resolve_to p y (Mine q) = search (free, spared, free_wait_unless_cycle) depth 14
    free_resolve_to p y (Away h q false) = search (free, spared, free_wait_unless_cycle) depth 14
    free_resolve_to p y _ = search (free, spared, free_settle) depth 14

    pub free_resolve : FreeSettler (refs.resolve K)
    unfolding refs.resolve
    free_resolve p y = search (free, spared, free_resolve_to) depth 14

    -- ---- new messages

    pub costs_send_first : (m : Message Name) (y : Value Name) (p : Place Name) → Keeps (Accounted cut v x (one m.id x)) (refs.send_first K m y p)
    unfolding refs.send_first
    costs_send_first m y (Away h n o) = costs_deliver m h n
    costs_send_first m y Near = costs_send_to (refs.settle K) free_settle m y Near
    costs_send_first m y (Mine n) = costs_send_to (refs.settle K) free_settle m y (Mine n)
    costs_send_first m y (Gone p) = costs_send_to (refs.settle K) free_settle m y (Gone p)

    costs_react_at : (m : Message Name) (p : Place Name) → Keeps (Accounted cut v x (one m.id x)) (refs.react_at K m p)
    unfolding refs.react_at
    costs_react_at m (Mine n) = costs_react cut v x K m n
    costs_react_at m (Away h n false) = costs_react cut v x K m n
    costs_react_at m other = costs_enqueue cut v x m

    module _ (sent : (n k : ℕ) → K.mailed (IsSent n) k ≡ Sent (record { sender = v; number = n })) where
      -- a message that is numbered and sent, and not placed yet
      owes_new : (s : Vat Name) (h : ℕ) (id a : Name) (e : Happened Name) → id ≡ Sent (record { sender = v; number = s.messages }) → sent_here x e ≡ one id x → gone_here cut x e ≡ 0
          → Owes cut v x (one id x) s (record s { messages = suc s.messages; mails = s.mails ++ id ∷ []; known = s.known ++ begun a h ∷ []; happened = s.happened ++ e ∷ [] })
      unfolding account at_vat
      owes_new s h id a e i j k =
          let same = names_end x s.known a h in let b = gone_end cut x s.happened e in let c = sent_end x s.happened e in
          let d : one id x + numbered v s.messages x ≤ numbered v (suc s.messages) x = rw i (numbered_next v s.messages x) in record { kept = omega arith; fresh = omega arith }

      pub free_send : (act : ℕ) (y : Value Name) (verb : Words) (args : List (Value Name)) → Keeps (Accounted cut v x 0) (refs.send K act y verb args)
      unfolding refs.send ◌>>=◌ ◌>>◌ and_then look tell new_message gone_here sent_here
      free_send act y verb args = record {
        after = λ s. let id = K.mailed (IsSent s.messages) (length s.mails) in
            after_pays cut v x (one id x) s _ (owes_new s _ id _ (Sends act _) (sent s.messages (length s.mails)) refl refl) _ ((then_free cut v x (one id x) (costs_send_first _ _ _) (keeps_give _ (spared cut v x) _)).after _);
      }

      owes_lone : (s : Vat Name) (id : Name) (e : Happened Name) → id ≡ Sent (record { sender = v; number = s.messages }) → sent_here x e ≡ one id x → gone_here cut x e ≡ 0
          → Owes cut v x (one id x) s (record s { messages = suc s.messages; mails = s.mails ++ id ∷ []; happened = s.happened ++ e ∷ [] })
      unfolding account at_vat
      owes_lone s id e i j k =
          let b = gone_end cut x s.happened e in let c = sent_end x s.happened e in
          let d : one id x + numbered v s.messages x ≤ numbered v (suc s.messages) x = rw i (numbered_next v s.messages x) in record { kept = omega arith; fresh = omega arith }

      pub free_send_only : (act : ℕ) (y : Value Name) (verb : Words) (args : List (Value Name)) → Keeps (Accounted cut v x 0) (refs.send_only K act y verb args)
      unfolding refs.send_only ◌>>=◌ ◌>>◌ and_then look tell new_lone_message gone_here sent_here
      free_send_only act y verb args = record {
        after = λ s. let id = K.mailed (IsSent s.messages) (length s.mails) in
            after_pays cut v x (one id x) s _ (owes_lone s id (Sends act _) (sent s.messages (length s.mails)) refl refl) _ ((then_free cut v x (one id x) (costs_send_first _ _ _) (keeps_give _ (spared cut v x) _)).after _);
      }

      pub free_react : (act : ℕ) (y o near : Value Name) → Keeps (Accounted cut v x 0) (refs.react K act y o near)
      unfolding refs.react ◌>>=◌ ◌>>◌ and_then look tell new_message refs.reaction gone_here sent_here
      free_react act y o near = record {
        after = λ s. let id = K.mailed (IsSent s.messages) (length s.mails) in
            after_pays cut v x (one id x) s _ (owes_new s _ id _ (Reacts act y o _) (sent s.messages (length s.mails)) refl refl) _ ((then_free cut v x (one id x) (costs_react_at _ _) (keeps_give _ (spared cut v x) _)).after _);
      }

      pub spared_under : IsSparedUnder K (Accounted cut v x 0)
      spared_under = record { promised = free_promise cut v x K; settles = free_settle; resolves = free_resolve; sends = free_send; sends_only = free_send_only; reacts = free_react }

pub ruleset free_refs = (free, free_settle, free_resolve, free_inform)
