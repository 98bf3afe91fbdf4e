-- What is done with references makes known, of the names that were numbered, those that were not claimed.
use Rattle.std.proofs.Common.{◌≡◌, ℕ, zero, suc, ◌+◌, ◌≤◌, Bool, true, false, List, [], ◌∷◌, ◌++◌, Option, Some, None, refl, sym, ◌∙◌, arith, ◌==◌, ◌&&◌}
use Rattle.std.proofs.lemmas.Bool.{eqb-true, eq-eqb}
use Rattle.def_machine.specs.Values.{Words, Value, Broken, Name, Root, Object, Promise, Answer, Gift, Sent, Msg, Naming, IsAnswer, naming, name_of, mail_of, answer_of, host_of, same_name, same_msg}
use Rattle.def_machine.specs.State.{Message, Standing, Settled, Known, Settle, Passed, Passeds, Plain, AGift, Many, NoMore, More, Sends, Reacts, Settles, Lost, Happened, Vat, Act, ◌>>=◌, ◌>>◌, and_then, each, give, look, tell, enqueue, with_change, alter, new_message, begun, for_some, new_lone_message}
use Rattle.def_machine.specs.Refs as refs
use Rattle.def_machine.specs.Refs.{Place, Near, Mine, Away, Gone, entry_of}
use Rattle.law_machine.specs.Machine.Steps.{After}
use Rattle.law_machine.proofs.Machine.Keeps.{Keeps}
use Rattle.law_fate.proofs.Fates.Spares.{IsSparedUnder, keeps_give, keeps_each}
use Rattle.law_reference.specs.Reference.Knowing.{once, one, onward, onward_all, numbered_at, Knowing}
use Rattle.law_reference.proofs.Reference.Abroad.{away_abroad}
use Rattle.law_reference.proofs.Reference.Claims.{Waits, settling_frees, claims_end, answers, answer_next, answer_at}
use Rattle.law_reference.proofs.Reference.Costs.{Owes, free, spared, none, after_here, after_pays, costs_more, costs_then, bind_free, free_then, then_free, free_tell, free_enqueue, free_react, costs_hold, costs_come, free_promise}

-- ---- the answer at another host

other_host : (v h : ℕ) → (v == h) ≡ false → (h == v) ≡ false
other_host v h e = turned (h == v) refl
  where
    turned : (b : Bool) → (h == v) ≡ b → (h == v) ≡ false
    turned true f = absurd (cc_false (sym e ∙ eq-eqb v h (sym (eqb-true h v f))))
      where
        cc_false : false ≡ true → ⊥
        cc_false g = cc
    turned false f = f

never : (b : Bool) → ◌≡◌ {A = ℕ} (elim b [ true ↦ 0 | false ↦ 0 ]) 0
never true = refl
never false = refl

at_most : (b : Bool) (c d : ℕ) → b ≡ false → c ≤ d → c ≤ elim b [ true ↦ 0 | false ↦ d ]
at_most true c d e h = cc
at_most false c d e h = h

sent_onward : (v h : ℕ) (m : Msg) (x : Name) → (v == h) ≡ false → one (Answer h m) x ≤ onward v x (Sent m)
unfolding onward one same_name host_of once
sent_onward v h m (Answer g a) e = same (h == g) refl
  where
    same : (b : Bool) → (h == g) ≡ b → once (b && same_msg m a) ≤ elim (g == v) [ true ↦ 0 | false ↦ one (Answer g m) (Answer g a) ]
    same true f = let i : h ≡ g = eqb-true h g f in at_most (g == v) (once (same_msg m a)) (one (Answer g m) (Answer g a)) (rw i at (other_host v h e)) (let r = eq-eqb g g refl in rw (r, one, same_name) (omega arith))
    same false f = omega arith
sent_onward v h m other e = omega arith

pub onward_covers : (v h : ℕ) (id x : Name) → (v == h) ≡ false → one (answer_of h id) x ≤ onward v x id
unfolding onward answer_of
onward_covers v h (Sent m) x e = sent_onward v h m x e
onward_covers v h other x e = omega arith

module _ (v : ℕ) (x : Name) where
  -- a settler makes no name known that is not claimed
  abbrev pub FreeSettler : (Name → Value Name → Act Name (Unit {0})) → Type 0
  FreeSettler settle = (p : Name) (y : Value Name) → Keeps (Knowing v x 0) (settle p y)

  module _ (word : ℕ → ℕ) where
    abbrev K : Naming Name Name
    K = naming word v

    free_address_plain : (w : ℕ) (y : Value Name) (p : Place Name) → Keeps (Knowing v x 0) (refs.address_plain K w y p)
    unfolding refs.address_plain
    free_address_plain w y (Away h n o) = search (free, spared) depth 14
    free_address_plain w y (Mine n) = search (free, spared) depth 14
    free_address_plain w y _ = search (free, spared) depth 14

    mutual
      unfolding refs.address refs.address_all

      free_address : (w : ℕ) (y : Passed Name) → Keeps (Knowing v x 0) (refs.address K w y)
      free_address w (Plain y) = search (free, spared, free_address_plain) depth 14
      free_address w (AGift h i) = search (free, spared)
      free_address w (Many ys) = let rest = free_address_all w ys in search (free, spared)

      free_address_all : (w : ℕ) (ys : Passeds Name) → Keeps (Knowing v x 0) (refs.address_all K w ys)
      free_address_all w NoMore = search (free, spared)
      free_address_all w (More y ys) = let one = free_address w y in let rest = free_address_all w ys in search (free, spared)

    pub free_pass : (w : ℕ) (y : Value Name) → Keeps (Knowing v x 0) (refs.pass K w y)
    unfolding refs.pass
    free_pass w y = search (free, spared, free_address) depth 14

    free_pass_all : (w : ℕ) (ys : List (Value Name)) → Keeps (Knowing v x 0) (refs.pass_all K w ys)
    unfolding refs.pass_all
    free_pass_all w [] = search (free, spared)
    free_pass_all w (y ∷ ys) = let rest = free_pass_all w ys in search (free, spared, free_pass) depth 14

    free_deliver : (m : Message Name) (h : ℕ) (n : Name) → Keeps (Knowing v x 0) (refs.deliver K m h n)
    unfolding refs.deliver
    free_deliver m h n = search (free, spared, free_pass_all) depth 14

    free_waits_on : (p q : Name) → Keeps (Knowing v x 0) (refs.wait_on K p q)
    unfolding refs.wait_on
    free_waits_on p q = search (free, spared) depth 14

    costs_some : {A B : Type 0} (c : ℕ) (o : Option A) {f : A → Act Name B} {m : Act Name B} → ((a : A) → Keeps (Knowing v x c) (f a)) → Keeps (Knowing v x c) m → Keeps (Knowing v x c) (for_some o f m)
    unfolding for_some
    costs_some c (Some a) h k = h a
    costs_some c None h k = k

    costs_pass_on : (m : Message Name) (h : ℕ) (n : Name) → (v == h) ≡ false → Keeps (Knowing v x (onward v x m.id)) (refs.pass_on K m h n)
    unfolding refs.pass_on name_of
    costs_pass_on m h n e = costs_some (onward v x m.id) m.answer (λ p. bind_free v x (onward v x m.id) (costs_more v x (one (answer_of h m.id) x) (onward v x m.id) (onward_covers v h m.id x e) (costs_come v x word (IsAnswer h m.id) h))
        (λ a. then_free v x 0 (free_deliver (record m { answer = Some a }) h n) (free_waits_on p a))) (costs_more v x 0 (onward v x m.id) (omega arith) (free_deliver m h n))

    module _ (settle : Name → Value Name → Act Name (Unit {0})) (good : FreeSettler settle) where
      costs_send_to : (m : Message Name) (y : Value Name) (p : Place Name) → ((h : ℕ) (n : Name) (o : Bool) → p ≡ Away h n o → (v == h) ≡ false) → Keeps (Knowing v x (onward v x m.id)) (refs.send_to K settle m y p)
      unfolding refs.send_to
      costs_send_to m y Near f = costs_more v x 0 (onward v x m.id) (omega arith) (free_enqueue v x (record m { target = y }))
      costs_send_to m y (Mine n) f = costs_hold v x K (record m { target = y }) n
      costs_send_to m y (Away h n o) f = costs_pass_on m h n (f h n o refl)
      costs_send_to m y (Gone p) f = costs_more v x 0 (onward v x m.id) (omega arith) (then_free v x 0 (free_tell v x (Lost m.id)) (costs_some 0 m.answer (λ a. good a (Broken p)) (keeps_give _ (spared v x) tt)))

      pub costs_send_on : (m : Message Name) → Keeps (Knowing v x (onward v x m.id)) (refs.send_on K settle m)
      unfolding refs.send_on ◌>>=◌ and_then look
      costs_send_on m = record { after = λ s. after_here v x (onward v x m.id) s _ (λ e. (costs_send_to m (refs.follow K s m.target) (refs.place K s (refs.follow K s m.target)) (λ h n o f. away_abroad v word s (refs.follow K s m.target) h n o e f)).after s) }

      costs_all : (ms : List (Message Name)) → Keeps (Knowing v x (onward_all v x ms)) (each (refs.send_on K settle) ms)
      unfolding each onward_all
      costs_all [] = keeps_give _ (spared v x) tt
      costs_all (m ∷ ms) = costs_then v x (onward v x m.id) (onward_all v x ms) (costs_send_on m) (costs_all ms)

    free_inform_of : (p : Name) (w : ℕ) (y : Value Name) (q : Place Name) → Keeps (Knowing v x 0) (refs.inform_of K p w y q)
    unfolding refs.inform_of
    free_inform_of p w y (Away h n true) = search free depth 14
    free_inform_of p w y _ = search (free, spared, free_pass) depth 14

    pub free_inform : (p : Name) (w : ℕ) → Keeps (Knowing v x 0) (refs.inform K p w)
    unfolding refs.inform
    free_inform p w = search (free, spared, free_inform_of) depth 14

    module _ (settle : Name → Value Name → Act Name (Unit {0})) (good : FreeSettler settle) where
      -- what a name that settles frees pays for what is sent on
      freed : (p : Name) (y : Value Name) (k : Known Name) → Keeps (Knowing v x (onward_all v x k.held)) (each (refs.send_on K settle) k.held >> (each (λ q. settle q y) k.waiting >> (each enqueue k.reactions >> each (refs.inform K p) k.told)))
      freed p y k = then_free v x (onward_all v x k.held) (costs_all settle good k.held)
          (free_then v x 0 (keeps_each _ (spared v x) k.waiting (λ q. good q y))
          (then_free v x 0 (keeps_each _ (spared v x) k.reactions (λ m. free_enqueue v x m)) (keeps_each _ (spared v x) k.told (free_inform p))))

      frees : (p : Name) (y : Value Name) (k : Known Name) (s : Vat Name) → entry_of K s.known p ≡ Some k → Waits K v k.standing
          → Owes v x (onward_all v x k.held) s (record s { happened = s.happened ++ Settles p y ∷ []; known = with_change K (Settle y) p s.known })
      unfolding numbered_at
      frees p y k s e h = record { number = λ i. i; kept = λ i. let less = settling_frees K v x y p k s.known e h in omega arith }

      settled_known : (p : Name) (y : Value Name) (k : Known Name) (s : Vat Name) → entry_of K s.known p ≡ Some k → Waits K v k.standing → After (Knowing v x 0) s (refs.settle_known K settle p y k s)
      unfolding refs.settle_known ◌>>◌ and_then tell alter
      settled_known p y k s e h = after_pays v x (onward_all v x k.held) s _ (frees p y k s e h) _ ((freed p y k).after _)

      settled_standing : (p : Name) (y : Value Name) (k : Known Name) (s : Vat Name) → entry_of K s.known p ≡ Some k → (t : Standing Name) → k.standing ≡ t → After (Knowing v x 0) s (refs.settle_standing K settle p y k t s)
      unfolding refs.settle_standing give
      settled_standing p y k s e (Settled z) i = none v x s
      settled_standing p y k s e other i = settled_known p y k s e (rw i tt)

      settled_entry : (p : Name) (y : Value Name) (s : Vat Name) (o : Option (Known Name)) → entry_of K s.known p ≡ o → After (Knowing v x 0) s (refs.settle_entry K settle p y o s)
      unfolding refs.settle_entry give
      settled_entry p y s None e = none v x s
      settled_entry p y s (Some k) e = settled_standing p y k s e k.standing refl

      free_settle_one : FreeSettler (refs.settle_one K settle)
      unfolding refs.settle_one ◌>>=◌ and_then look
      free_settle_one p y = record { after = λ s. settled_entry p (refs.target_of K s p y) s (entry_of K s.known p) refl }

    free_settle_at : (d : ℕ) → FreeSettler (refs.settle_at K d)
    unfolding refs.settle_at
    free_settle_at zero p y = search (free, spared)
    free_settle_at (suc d) p y = free_settle_one (λ q z. refs.settle_at K d q z) (λ q z. free_settle_at d q z) p y

    pub free_settle : FreeSettler (refs.settle K)
    unfolding refs.settle
    free_settle p y = search (free, spared, free_settle_at) depth 14

    free_wait_unless_cycle : (p q : Name) → Keeps (Knowing v x 0) (refs.wait_unless_cycle K p q)
    unfolding refs.wait_unless_cycle
    free_wait_unless_cycle p q = search (free, spared, free_settle, free_waits_on) depth 14

    free_resolve_to : (p : Name) (y : Value Name) (q : Place Name) → Keeps (Knowing v x 0) (refs.resolve_to K p y q)
    unfolding refs.resolve_to
    free_resolve_to p y (Mine q) = search (free, free_wait_unless_cycle) depth 14
    free_resolve_to p y (Away h q false) = search (free, free_wait_unless_cycle) depth 14
    free_resolve_to p y _ = search (free, free_settle) depth 14

    pub free_resolve : FreeSettler (refs.resolve K)
    unfolding refs.resolve
    free_resolve p y = search (free, spared, free_resolve_to) depth 14

    -- ---- new messages

    -- what is left to pay for a new message: its answer elsewhere, where it is held
    unfoldable rest_of : Place Name → Name → ℕ
    rest_of (Mine n) id = onward v x id
    rest_of other id = 0

    costs_send_first : (m : Message Name) (y : Value Name) (p : Place Name) → Keeps (Knowing v x (rest_of p m.id)) (refs.send_first K m y p)
    unfolding refs.send_first rest_of refs.send_to
    costs_send_first m y (Away h n o) = free_deliver m h n
    costs_send_first m y Near = free_enqueue v x (record m { target = y })
    costs_send_first m y (Mine n) = costs_hold v x K (record m { target = y }) n
    costs_send_first m y (Gone p) = then_free v x 0 (free_tell v x (Lost m.id)) (costs_some 0 m.answer (λ a. free_settle a (Broken p)) (keeps_give _ (spared v x) tt))

    free_react_at : (m : Message Name) (p : Place Name) → Keeps (Knowing v x 0) (refs.react_at K m p)
    unfolding refs.react_at
    free_react_at m (Mine n) = free_react v x K m n
    free_react_at m (Away h n false) = free_react v x K m n
    free_react_at m other = free_enqueue v x m

    -- the answer of a new message here, and elsewhere, are no more than one
    here_or_there : (k : ℕ) (y : Name) → one (Answer v (record { sender = v; number = k })) y + onward v y (Sent (record { sender = v; number = k })) ≤ answers v k y
    unfolding onward one same_name answers host_of once
    here_or_there k (Answer g a) = either (v == g) (g == v) refl refl
      where
        either : (b c : Bool) → (v == g) ≡ b → (g == v) ≡ c → once (b && ((v == a.sender) && (k == a.number))) + elim c [ true ↦ 0 | false ↦ one (Answer g (record { sender = v; number = k })) (Answer g a) ] ≤ once ((v == a.sender) && (k == a.number))
        either true true e f = omega arith
        either false true e f = omega arith
        either false false e f = let r = eq-eqb g g refl in rw (r, one, same_name) (omega arith)
        either true false e f = absurd (no (sym f ∙ eq-eqb g v (sym (eqb-true v g e))))
          where
            no : false ≡ true → ⊥
            no i = cc
    here_or_there k (Promise a b) = let none = never (a == v) in omega arith
    here_or_there k (Root a) = let none = never (a == v) in omega arith
    here_or_there k (Object a b) = let none = never (a == v) in omega arith
    here_or_there k (Sent a) = let none = never (a.sender == v) in omega arith
    here_or_there k (Gift a b) = let none = never (a == v) in omega arith

    new_costs : (u : ℕ) (p : Place Name) (k : ℕ) → u ≡ v → one (Answer (refs.answer_host K u p) (record { sender = v; number = k })) x + rest_of p (Sent (record { sender = v; number = k })) ≤ answers v k x
    unfolding rest_of refs.answer_host
    new_costs u (Mine n) k e = rw e (here_or_there k x)
    new_costs u (Away h n o) k e = let a = answer_at h v k x in omega arith
    new_costs u other k e = let a = answer_at u v k x in omega arith

    -- a message that is numbered, and not placed yet
    owes_new : (s : Vat Name) (h c : ℕ) (e : Happened Name) → one (Answer h (record { sender = v; number = s.messages })) x + c ≤ answers v s.messages x
        → Owes v x c s (record s { messages = suc s.messages; mails = s.mails ++ Sent (record { sender = v; number = s.messages }) ∷ []; known = s.known ++ begun (Answer h (record { sender = v; number = s.messages })) h ∷ []; happened = s.happened ++ e ∷ [] })
    unfolding numbered_at
    owes_new s h c e i = record { number = λ j. j; kept = λ j. let more = claims_end v x s.known (Answer h (record { sender = v; number = s.messages })) h in let next = answer_next v x s.promises s.messages s.drawn in omega arith }

    pub free_send : (act : ℕ) (y : Value Name) (verb : Words) (args : List (Value Name)) → Keeps (Knowing v x 0) (refs.send K act y verb args)
    unfolding refs.send ◌>>=◌ ◌>>◌ and_then look tell new_message naming name_of mail_of answer_of
    free_send act y verb args = record {
      after = λ s. after_here v x 0 s _ (λ e. let p = refs.place K s (refs.follow K s y) in let id = Sent (record { sender = v; number = s.messages }) in
          after_pays v x (rest_of p id) s _ (owes_new s (refs.answer_host K s.number p) (rest_of p id) (Sends act _) (new_costs s.number p s.messages e)) _ ((then_free v x (rest_of p id) (costs_send_first _ _ p) (keeps_give _ (spared v x) _)).after _));
    }

    -- a message without an answer, of which less is left to pay for
    rest_costs : (p : Place Name) (k : ℕ) → rest_of p (Sent (record { sender = v; number = k })) ≤ answers v k x
    rest_costs p k = let more = new_costs v p k refl in omega arith

    owes_lone : (s : Vat Name) (c : ℕ) (e : Happened Name) → c ≤ answers v s.messages x
        → Owes v x c s (record s { messages = suc s.messages; mails = s.mails ++ Sent (record { sender = v; number = s.messages }) ∷ []; happened = s.happened ++ e ∷ [] })
    unfolding numbered_at
    owes_lone s c e i = record { number = λ j. j; kept = λ j. let next = answer_next v x s.promises s.messages s.drawn in omega arith }

    pub free_send_only : (act : ℕ) (y : Value Name) (verb : Words) (args : List (Value Name)) → Keeps (Knowing v x 0) (refs.send_only K act y verb args)
    unfolding refs.send_only ◌>>=◌ ◌>>◌ and_then look tell new_lone_message naming mail_of
    free_send_only act y verb args = record {
      after = λ s. let p = refs.place K s (refs.follow K s y) in let id = Sent (record { sender = v; number = s.messages }) in
          after_pays v x (rest_of p id) s _ (owes_lone s (rest_of p id) (Sends act _) (rest_costs p s.messages)) _ ((then_free v x (rest_of p id) (costs_send_first _ _ p) (keeps_give _ (spared v x) _)).after _);
    }

    pub free_reacts : (act : ℕ) (y o near : Value Name) → Keeps (Knowing v x 0) (refs.react K act y o near)
    unfolding refs.react ◌>>=◌ ◌>>◌ and_then look tell new_message refs.reaction naming name_of mail_of answer_of
    free_reacts act y o near = record {
      after = λ s. after_here v x 0 s _ (λ e. after_pays v x 0 s _ (owes_new s s.number 0 (Reacts act y o _) (let a = answer_at s.number v s.messages x in omega arith)) _ ((then_free v x 0 (free_react_at _ _) (keeps_give _ (spared v x) _)).after _));
    }

    pub spared_under : IsSparedUnder K (Knowing v x 0)
    unfolding naming name_of
    spared_under = record { promised = free_promise v x word; settles = free_settle; resolves = free_resolve; sends = free_send; sends_only = free_send_only; reacts = free_reacts }

pub ruleset free_refs = (free, free_settle, free_resolve, free_inform)
