-- What a vat does with references, and its turns: what comes to be known is its own or asked for.
use Rattle.std.proofs.Common.{◌≡◌, ℕ, zero, suc, Bool, true, false, List, [], ◌∷◌, ◌++◌, Option, Some, None, refl, sym, ap, subst, inl, inr, length}
use Rattle.std.specs.Prelude.{is_some}
use Rattle.def_machine.specs.Values.{Words, Value, Null, Broken, Ref, Name, Promise, Answer, Sent, Msg, Naming, IsOwn, IsAnswer, naming, name_of, mail_of, answer_of, host_of}
use Rattle.def_machine.specs.State.{Binding, Message, Standing, Settled, Known, Passed, Passeds, Plain, AGift, Many, NoMore, More, Deliver, SettledTo, Put, Happened, Posted, Sends, Reacts, Took, Vat, Done, Gives, Stops, Act, ◌>>=◌, ◌>>◌, and_then, give, look, tell, send_out, come, new_message, new_lone_message, for_some, begun}
use Rattle.def_machine.specs.Refs as refs
use Rattle.def_machine.specs.Refs.{Place, Near, Mine, Away, Gone, answer_host}
use Rattle.def_machine.specs.Eval as eval
use Rattle.def_kernel.specs.declared.node.Node.{Node}
use Rattle.law_machine.specs.Machine.Steps.{IsQuiet}
use Rattle.law_machine.proofs.Machine.RefsQuiet.{quiet_pass_all}
use Rattle.law_fate.proofs.Fates.Leads.{Leads, Ends, IsLedUnder, leads, widen, leads_bind, leads_then, leads_give, leads_look, leads_activation}
use Rattle.law_fate.proofs.Fates.TurnLeads.{good_evaluator, leads_turn_value, leads_closes, leads_opening}
use Rattle.law_fate.specs.Name.Names.{IsAmong, IsMessageName, names_in}
use Rattle.law_fate.proofs.Name.Among.{among_last, names_end}
use Rattle.law_frame.specs.Frame.Asked.{Listless, AllListless}
use Rattle.law_frame.proofs.Frame.Results.{Result, pass_listless, pass_all_listless}
use Rattle.law_frame.proofs.Frame.WireAsking.{Any, Telling, Asking, Steady, Comes, Or, Owed, base, here, asking, asking_tell, asking_lost, asking_settled, steady_on, told_on, put_on, grown, messaged, messaged_lone, names_on, asked_then}

pub known_last : (ks : List (Known Name)) (n : Name) (h : ℕ) → IsAmong n (names_in (ks ++ begun n h ∷ []))
unfolding begun
known_last ks n h = rw (sym (names_end ks (begun n h))) at (among_last (names_in ks) n)

pub known_end : (ks : List (Known Name)) (n : Name) (h : ℕ) → names_in (ks ++ begun n h ∷ []) ≡ names_in ks ++ n ∷ []
unfolding begun
known_end ks n h = names_end ks (begun n h)

module _ (v : ℕ) (P : Telling) where
  abbrev Goes : Vat Name → Vat Name → Type 0
  Goes = Asking v P

  abbrev Names : Naming Name Name
  Names = naming P.word v

  asking_address_plain : (w : ℕ) (y : Value Name) (p : Place Name) → Leads Any Goes (refs.address_plain Names w y p)
  unfolding refs.address_plain
  asking_address_plain w y (Away h n o) = search (leads, asking, base) depth 14
  asking_address_plain w y (Mine n) = search (leads, asking, base) depth 14
  asking_address_plain w y _ = search (leads, asking, base) depth 14

  mutual
    unfolding refs.address refs.address_all

    asking_address : (w : ℕ) (y : Passed Name) → Leads Any Goes (refs.address Names w y)
    asking_address w (Plain y) = search (leads, base, asking_address_plain) depth 14
    asking_address w (AGift h i) = search (leads, base)
    asking_address w (Many ys) = let rest = asking_address_all w ys in search (leads, base)

    asking_address_all : (w : ℕ) (ys : Passeds Name) → Leads Any Goes (refs.address_all Names w ys)
    asking_address_all w NoMore = search (leads, base)
    asking_address_all w (More y ys) = let one = asking_address w y in let rest = asking_address_all w ys in search (leads, base)

  asking_pass : (w : ℕ) (x : Value Name) → Leads Any Goes (refs.pass Names w x)
  unfolding refs.pass
  asking_pass w x = search (leads, base, asking_address) depth 14

  pub asking_pass_all : (w : ℕ) (xs : List (Value Name)) → Leads Any Goes (refs.pass_all Names w xs)
  unfolding refs.pass_all
  asking_pass_all w [] = search (leads, base)
  asking_pass_all w (x ∷ xs) = let rest = asking_pass_all w xs in search (leads, base, asking_pass) depth 14

  pub asking_wait_on : (p q : Name) → Leads Any Goes (refs.wait_on Names p q)
  unfolding refs.wait_on
  asking_wait_on p q = search (leads, asking, base) depth 14

  told_after : (p : Name) (w : ℕ) (s : Vat Name) (d : Done Name (Passed Name)) → Ends Any Goes s d → Result Listless d → Ends Any Goes s (and_then d (λ z. send_out w (SettledTo p z)))
  unfolding and_then
  told_after p w s (Gives z t) r q = widen Any Goes (base v P) {s = s} {t = t} r (send_out w (SettledTo p z) t) ((asking_settled v P w p z q).after t)
  told_after p w s (Stops c t) r q = tt
  told_after p w s other r q = r

  asking_told : (p : Name) (w : ℕ) (y : Value Name) → Leads Any Goes (refs.pass Names w y >>= (λ z. send_out w (SettledTo p z)))
  unfolding ◌>>=◌
  asking_told p w y = record { after = λ s. told_after p w s (refs.pass Names w y s) ((asking_pass w y).after s) ((pass_listless Names w y).after s) }

  asking_inform_of : (p : Name) (w : ℕ) (y : Value Name) (q : Place Name) → Leads Any Goes (refs.inform_of Names p w y q)
  unfolding refs.inform_of
  asking_inform_of p w y (Away h n true) = search (leads, asking) depth 14
  asking_inform_of p w y _ = asking_told p w y

  pub asking_inform : (p : Name) (w : ℕ) → Leads Any Goes (refs.inform Names p w)
  unfolding refs.inform
  asking_inform p w = search (leads, base, asking_inform_of) depth 14

-- ---- a message goes out

module _ (v : ℕ) (P : Telling) where
  abbrev Ours : Naming Name Name
  Ours = naming P.word v

  -- the note of a message is put
  abbrev Posting : Message Name → ℕ → Name → Passeds Name → Act Name (Unit {0})
  Posting m h n args = tell (Posted h m.id) >> send_out h (Deliver (refs.delivery_of Ours m) n m.verb args)

  posted : (Q : Telling) (m : Message Name) (h : ℕ) (n : Name) (args : Passeds Name) (t : Vat Name) → t.number ≡ v → (is_some m.answer ≡ true → IsAmong (answer_of h m.id) (names_in t.known)) → AllListless args
      → Steady v Q t (record t { happened = t.happened ++ Posted h m.id ∷ []; outbox = t.outbox ++ record { to = h; note = Deliver (refs.delivery_of Ours m) n m.verb args } ∷ [] })
  posted Q m h n args t e k z = let put : Put Name = record { to = h; note = Deliver (refs.delivery_of Ours m) n m.verb args } in
      let one : Vat Name = record t { happened = t.happened ++ Posted h m.id ∷ [] } in let two : Vat Name = record one { outbox = t.outbox ++ put ∷ [] } in
      steady_on v Q t one two (told_on v Q t one (Posted h m.id) refl refl refl refl refl refl refl refl refl tt e) (put_on v Q one two h (Deliver (refs.delivery_of Ours m) n m.verb args) refl refl refl refl refl refl refl refl refl k z e)

  deliver_ends : (m : Message Name) (h : ℕ) (n : Name) (s : Vat Name) (d : Done Name (Passeds Name)) → is_some m.answer ≡ true → IsAmong (answer_of h m.id) (names_in s.known) → IsQuiet d → Result AllListless d → Ends Any (Asking v (Or P (answer_of h m.id))) s d
      → Ends Any (Owed v P (answer_of h m.id)) s (and_then d (λ args. Posting m h n args))
  unfolding and_then ◌>>◌ tell send_out
  deliver_ends m h n s (Gives args t) asks a q z r = λ e. let Q : Telling = Or P (answer_of h m.id) in let b = r e in let put : Put Name = record { to = h; note = Deliver (refs.delivery_of Ours m) n m.verb args } in
      let u : Vat Name = record t { happened = t.happened ++ Posted h m.id ∷ []; outbox = t.outbox ++ put ∷ [] } in
      (steady_on v Q s t u b (posted Q m h n args t b.number (λ i. names_on v Q s t b (answer_of h m.id) a) z), inr (inl (put, among_last t.outbox put, (asks, refl))))
  deliver_ends m h n s (Stops c t) asks a q z r = tt
  deliver_ends m h n s other asks a q z r = absurd q

  pub delivered : (m : Message Name) (h : ℕ) (n : Name) (s : Vat Name) → is_some m.answer ≡ true → IsAmong (answer_of h m.id) (names_in s.known) → Ends Any (Owed v P (answer_of h m.id)) s (refs.deliver Ours m h n s)
  unfolding refs.deliver ◌>>=◌
  delivered m h n s asks a = deliver_ends m h n s (refs.pass_all Ours h m.args s) asks a ((quiet_pass_all Ours h m.args).after s) ((pass_all_listless Ours h m.args).after s) ((asking_pass_all v (Or P (answer_of h m.id)) h m.args).after s)

  -- a message that asks for no answer
  no_answer : (b : Bool) → b ≡ false → b ≡ true → ⊥
  no_answer b e f = cc

  lone_ends : (m : Message Name) (h : ℕ) (n : Name) (s : Vat Name) (d : Done Name (Passeds Name)) → is_some m.answer ≡ false → IsQuiet d → Result AllListless d → Ends Any (Asking v P) s d → Ends Any (Asking v P) s (and_then d (λ args. Posting m h n args))
  unfolding and_then ◌>>◌ tell send_out
  lone_ends m h n s (Gives args t) lone q z r = λ e. let b = r e in let put : Put Name = record { to = h; note = Deliver (refs.delivery_of Ours m) n m.verb args } in
      let u : Vat Name = record t { happened = t.happened ++ Posted h m.id ∷ []; outbox = t.outbox ++ put ∷ [] } in
      steady_on v P s t u b (posted P m h n args t b.number (λ i. absurd (no_answer (is_some m.answer) lone i)) z)
  lone_ends m h n s (Stops c t) lone q z r = tt
  lone_ends m h n s other lone q z r = absurd q

  pub asking_lone : (m : Message Name) (h : ℕ) (n : Name) → is_some m.answer ≡ false → Leads Any (Asking v P) (refs.deliver Ours m h n)
  unfolding refs.deliver ◌>>=◌
  asking_lone m h n lone = record { after = λ s. lone_ends m h n s (refs.pass_all Ours h m.args s) lone ((quiet_pass_all Ours h m.args).after s) ((pass_all_listless Ours h m.args).after s) ((asking_pass_all v P h m.args).after s) }

  came : (s : Vat Name) (n : Name) (h : ℕ) → Asking v (Or P n) s (record s { known = s.known ++ begun n h ∷ [] })
  came s n h = grown v (Or P n) s (record s { known = s.known ++ begun n h ∷ [] }) n refl (known_end s.known n h) refl refl refl refl refl refl refl (inr (inr (inr (inr refl))))

  goes_asking : (m : Message Name) (h : ℕ) (n p : Name) → Leads Any (Asking v P) (come Ours (IsAnswer h m.id) h >>= (λ a. refs.deliver Ours (record m { answer = Some a }) h n >> refs.wait_on Ours p a))
  unfolding ◌>>=◌ ◌>>◌ and_then come naming name_of
  goes_asking m h n p = record {
    after = λ s. let a : Name = answer_of h m.id in let t : Vat Name = record s { known = s.known ++ begun a h ∷ [] } in
        asked_then v P a s t (came s a h) (refs.deliver Ours (record m { answer = Some a }) h n t) (delivered (record m { answer = Some a }) h n t refl (known_last s.known a h)) (λ _. refs.wait_on Ours p a) (λ _. asking_wait_on v (Or P a) p a);
  }

  on_answer : (m : Message Name) (h : ℕ) (n : Name) (o : Option Name) → m.answer ≡ o → Leads Any (Asking v P) (for_some o (λ p. come Ours (IsAnswer h m.id) h >>= (λ a. refs.deliver Ours (record m { answer = Some a }) h n >> refs.wait_on Ours p a)) (refs.deliver Ours m h n))
  unfolding for_some
  on_answer m h n (Some p) e = goes_asking m h n p
  on_answer m h n None e = asking_lone m h n (ap is_some e)

  pub asking_pass_on : (m : Message Name) (h : ℕ) (n : Name) → Leads Any (Asking v P) (refs.pass_on Ours m h n)
  unfolding refs.pass_on
  asking_pass_on m h n = on_answer m h n m.answer refl

-- ---- settling and resolving

abbrev pub AskingSettler : ℕ → Telling → (Name → Value Name → Act Name (Unit {0})) → Type 0
AskingSettler v P settle = (p : Name) (y : Value Name) → Leads Any (Asking v P) (settle p y)

module _ (v : ℕ) (P : Telling) where
  abbrev Leading : Vat Name → Vat Name → Type 0
  Leading = Asking v P

  abbrev Mines : Naming Name Name
  Mines = naming P.word v

  asking_send_to : (settle : Name → Value Name → Act Name (Unit {0})) → AskingSettler v P settle → (m : Message Name) (y : Value Name) (p : Place Name) → Leads Any Leading (refs.send_to Mines settle m y p)
  unfolding refs.send_to for_some
  asking_send_to settle good m y (Away h n o) = asking_pass_on v P m h n
  asking_send_to settle good m y (Gone p) = leads_then Any Leading (base v P) (asking_lost v P m.id) (breaks m.answer p)
    where
      breaks : (o : Option Name) (p : Words) → Leads Any Leading (for_some o (λ a. settle a (Broken p)) (give tt))
      breaks (Some a) p = good a (Broken p)
      breaks None p = leads_give Any Leading (base v P) tt
  asking_send_to settle good m y other = search (leads, asking) depth 14

  pub asking_send_on : (settle : Name → Value Name → Act Name (Unit {0})) → AskingSettler v P settle → (m : Message Name) → Leads Any Leading (refs.send_on Mines settle m)
  unfolding refs.send_on
  asking_send_on settle good m = search (leads, base, asking_send_to) depth 14

  asking_settle_known : (settle : Name → Value Name → Act Name (Unit {0})) → AskingSettler v P settle → (p : Name) (y : Value Name) (k : Known Name) → Leads Any Leading (refs.settle_known Mines settle p y k)
  unfolding refs.settle_known
  asking_settle_known settle good p y k = search (leads, asking, base, good, asking_send_on, asking_inform) depth 20

  asking_settle_standing : (settle : Name → Value Name → Act Name (Unit {0})) → AskingSettler v P settle → (p : Name) (y : Value Name) (k : Known Name) (t : Standing Name) → Leads Any Leading (refs.settle_standing Mines settle p y k t)
  unfolding refs.settle_standing
  asking_settle_standing settle good p y k (Settled z) = search (leads, base)
  asking_settle_standing settle good p y k _ = asking_settle_known settle good p y k

  asking_settle_entry : (settle : Name → Value Name → Act Name (Unit {0})) → AskingSettler v P settle → (p : Name) (y : Value Name) (o : Option (Known Name)) → Leads Any Leading (refs.settle_entry Mines settle p y o)
  unfolding refs.settle_entry
  asking_settle_entry settle good p y None = search (leads, base)
  asking_settle_entry settle good p y (Some k) = asking_settle_standing settle good p y k k.standing

  asking_settle_one : (settle : Name → Value Name → Act Name (Unit {0})) → AskingSettler v P settle → AskingSettler v P (refs.settle_one Mines settle)
  unfolding refs.settle_one
  asking_settle_one settle good p y = search (leads, base, asking_settle_entry) depth 14

  asking_settle_at : (d : ℕ) → AskingSettler v P (refs.settle_at Mines d)
  unfolding refs.settle_at
  asking_settle_at zero p y = search (leads, base)
  asking_settle_at (suc d) p y = asking_settle_one (λ q z. refs.settle_at Mines d q z) (λ q z. asking_settle_at d q z) p y

  pub asking_settle : AskingSettler v P (refs.settle Mines)
  unfolding refs.settle
  asking_settle p y = search (leads, base, asking_settle_at) depth 14

  asking_wait_unless_cycle : (p q : Name) → Leads Any Leading (refs.wait_unless_cycle Mines p q)
  unfolding refs.wait_unless_cycle
  asking_wait_unless_cycle p q = search (leads, base, asking_settle, asking_wait_on) depth 14

  asking_resolve_to : (p : Name) (y : Value Name) (q : Place Name) → Leads Any Leading (refs.resolve_to Mines p y q)
  unfolding refs.resolve_to
  asking_resolve_to p y (Mine q) = asking_wait_unless_cycle p q
  asking_resolve_to p y (Away h q false) = asking_wait_unless_cycle p q
  asking_resolve_to p y _ = asking_settle p y

  pub asking_resolve : AskingSettler v P (refs.resolve Mines)
  unfolding refs.resolve
  asking_resolve p y = search (leads, base, asking_resolve_to) depth 14

  -- ---- new messages

  -- a new answer is that of its message, and is known
  new_answer : (h : ℕ) (m : Msg) (ns : List Name) (n : Name) → Some (Answer h m) ≡ Some n → (n ≡ answer_of (host_of n) (Sent m)) × IsAmong n (ns ++ Answer h m ∷ [])
  unfolding answer_of host_of
  new_answer h m ns n e = let f : Answer h m ≡ n = cc in subst (λ (x : Name). (x ≡ answer_of (host_of x) (Sent m)) × IsAmong x (ns ++ Answer h m ∷ [])) f (refl, among_last ns (Answer h m))

  new_fits : (h : ℕ) (m : Msg) (ns ms : List Name) → IsMessageName (Sent m) × IsAmong (Sent m) (ms ++ Sent m ∷ []) × ((n : Name) → Some (Answer h m) ≡ Some n → (n ≡ answer_of (host_of n) (Sent m)) × IsAmong n (ns ++ Answer h m ∷ []))
  new_fits h m ns ms = (tt, among_last ms (Sent m), new_answer h m ns)

  no_name : (n : Name) → None ≡ Some n → ⊥
  no_name n e = cc

  abbrev SendNew : ℕ → Value Name → Value Name → Words → List (Value Name) → Place Name → ℕ → Act Name (Value Name)
  SendNew act x y verb args p u = new_message Mines (answer_host Mines u p) >>= (λ new. tell (Sends act (record { id = new.0; target = x; verb = verb; args = args; answer = Some new.1 }))
      >> (refs.send_first Mines (record { id = new.0; target = y; verb = verb; args = args; answer = Some new.1 }) y p >> give (Ref new.1)))

  -- the state in which the message is sent
  abbrev Numbered : Vat Name → ℕ → ℕ → Value Name → Words → List (Value Name) → Vat Name
  Numbered s h act x verb args = let m : Msg = record { sender = v; number = s.messages } in
      record s { messages = suc s.messages; mails = s.mails ++ Sent m ∷ []; known = s.known ++ begun (Answer h m) h ∷ []; happened = s.happened ++ Sends act (record { id = Sent m; target = x; verb = verb; args = args; answer = Some (Answer h m) }) ∷ [] }

  -- the answer of a message of the vat's own is known in it
  numbered : (Q : Telling) (s : Vat Name) (h act : ℕ) (x : Value Name) (verb : Words) (args : List (Value Name)) → Comes v Q s (Numbered s h act x verb args) (Answer h (record { sender = v; number = s.messages })) → Asking v Q s (Numbered s h act x verb args)
  numbered Q s h act x verb args k = let m : Msg = record { sender = v; number = s.messages } in let line : Happened Name = Sends act (record { id = Sent m; target = x; verb = verb; args = args; answer = Some (Answer h m) }) in
      messaged v Q s (Numbered s h act x verb args) (Answer h m) line refl (known_end s.known (Answer h m) h) refl refl refl refl refl refl refl (new_fits h m (names_in s.known) s.mails) k

  -- where the vat is its host
  own_numbered : (s : Vat Name) (act : ℕ) (x : Value Name) (verb : Words) (args : List (Value Name)) → s.number ≡ v → Comes v P s (Numbered s s.number act x verb args) (Answer s.number (record { sender = v; number = s.messages }))
  unfolding host_of
  own_numbered s act x verb args e = let m : Msg = record { sender = v; number = s.messages } in let line : Happened Name = Sends act (record { id = Sent m; target = x; verb = verb; args = args; answer = Some (Answer s.number m) }) in
      inl (e, inr (inl (line, among_last s.happened line, refl)))

  sent_own : (act : ℕ) (x y : Value Name) (verb : Words) (args : List (Value Name)) (p : Place Name) (s : Vat Name) → s.number ≡ v → let m : Msg = record { sender = v; number = s.messages } in
      Ends Any Leading s ((refs.send_to Mines (refs.settle Mines) (record { id = Sent m; target = y; verb = verb; args = args; answer = Some (Answer s.number m) }) y p >> give (Ref (Answer s.number m))) (Numbered s s.number act x verb args))
  sent_own act x y verb args p s e = let m : Msg = record { sender = v; number = s.messages } in let t : Vat Name = Numbered s s.number act x verb args in
      widen Any Leading (base v P) {s = s} {t = t} (numbered P s s.number act x verb args (own_numbered s act x verb args e)) ((refs.send_to Mines (refs.settle Mines) (record { id = Sent m; target = y; verb = verb; args = args; answer = Some (Answer s.number m) }) y p >> give (Ref (Answer s.number m))) t) ((leads_then Any Leading (base v P) (asking_send_to (refs.settle Mines) asking_settle _ y p) (leads_give Any Leading (base v P) _)).after t)

  sent : (act : ℕ) (x y : Value Name) (verb : Words) (args : List (Value Name)) (p : Place Name) (s : Vat Name) → s.number ≡ v → Ends Any Leading s (SendNew act x y verb args p s.number s)
  unfolding ◌>>=◌ ◌>>◌ and_then tell new_message naming name_of mail_of answer_of answer_host refs.send_first
  sent act x y verb args (Away h n o) s e = let a : Name = Answer h (record { sender = v; number = s.messages }) in let t : Vat Name = Numbered s h act x verb args in
      let m : Message Name = record { id = Sent (record { sender = v; number = s.messages }); target = y; verb = verb; args = args; answer = Some a } in
      asked_then v P a s t (numbered (Or P a) s h act x verb args (inr (inr (inr (inr refl))))) (refs.deliver Mines m h n t) (delivered v P m h n t refl (known_last s.known a h)) (λ _. give (Ref a)) (λ _. leads_give Any (Asking v (Or P a)) (base v (Or P a)) (Ref a))
  sent act x y verb args Near s e = sent_own act x y verb args Near s e
  sent act x y verb args (Mine n) s e = sent_own act x y verb args (Mine n) s e
  sent act x y verb args (Gone p) s e = sent_own act x y verb args (Gone p) s e

  asking_send : (act : ℕ) (x : Value Name) (verb : Words) (args : List (Value Name)) → Leads Any Leading (refs.send Mines act x verb args)
  unfolding refs.send ◌>>=◌ look and_then
  asking_send act x verb args = record { after = λ s. here v P s (SendNew act x (refs.follow Mines s x) verb args (refs.place Mines s (refs.follow Mines s x)) s.number s) (λ e. sent act x (refs.follow Mines s x) verb args (refs.place Mines s (refs.follow Mines s x)) s e) }

  -- a message without an answer
  abbrev SendLone : ℕ → Value Name → Value Name → Words → List (Value Name) → Place Name → Act Name (Value Name)
  SendLone act x y verb args p = new_lone_message Mines >>= (λ id. tell (Sends act (record { id = id; target = x; verb = verb; args = args; answer = None }))
      >> (refs.send_first Mines (record { id = id; target = y; verb = verb; args = args; answer = None }) y p >> give Null))

  first_lone : (m : Message Name) (y : Value Name) (p : Place Name) → is_some m.answer ≡ false → Leads Any Leading (refs.send_first Mines m y p)
  unfolding refs.send_first
  first_lone m y (Away h n o) e = asking_lone v P m h n e
  first_lone m y Near e = asking_send_to (refs.settle Mines) asking_settle m y Near
  first_lone m y (Mine n) e = asking_send_to (refs.settle Mines) asking_settle m y (Mine n)
  first_lone m y (Gone t) e = asking_send_to (refs.settle Mines) asking_settle m y (Gone t)

  sent_lone : (act : ℕ) (x y : Value Name) (verb : Words) (args : List (Value Name)) (p : Place Name) (s : Vat Name) → Ends Any Leading s (SendLone act x y verb args p s)
  unfolding ◌>>=◌ ◌>>◌ and_then tell new_lone_message naming mail_of
  sent_lone act x y verb args p s = let id : Name = Sent (record { sender = v; number = s.messages }) in let line : Happened Name = Sends act (record { id = id; target = x; verb = verb; args = args; answer = None }) in
      let t : Vat Name = record s { messages = suc s.messages; mails = s.mails ++ id ∷ []; happened = s.happened ++ line ∷ [] } in let m : Message Name = record { id = id; target = y; verb = verb; args = args; answer = None } in
      widen Any Leading (base v P) {s = s} {t = t} (messaged_lone v P s t line refl refl refl refl refl refl refl refl refl (tt, among_last s.mails id, λ n e. absurd (no_name n e))) ((refs.send_first Mines m y p >> give Null) t)
      ((leads_then Any Leading (base v P) (first_lone m y p refl) (leads_give Any Leading (base v P) Null)).after t)

  asking_send_lone : (act : ℕ) (x y : Value Name) (verb : Words) (args : List (Value Name)) (p : Place Name) → Leads Any Leading (SendLone act x y verb args p)
  asking_send_lone act x y verb args p = record { after = sent_lone act x y verb args p }

  asking_send_only : (act : ℕ) (x : Value Name) (verb : Words) (args : List (Value Name)) → Leads Any Leading (refs.send_only Mines act x verb args)
  unfolding refs.send_only
  asking_send_only act x verb args = leads_bind Any Leading (base v P) (leads_look Any Leading (base v P) (λ s. refs.follow Mines s x)) (λ y. leads_bind Any Leading (base v P) (leads_look Any Leading (base v P) (λ s. refs.place Mines s y)) (λ p. asking_send_lone act x y verb args p))

  asking_react_at : (m : Message Name) (p : Place Name) → Leads Any Leading (refs.react_at Mines m p)
  unfolding refs.react_at
  asking_react_at m (Mine n) = search (asking)
  asking_react_at m (Away h n false) = search (asking)
  asking_react_at m _ = search (asking)

  -- what follows once the line is told
  abbrev Placed : Value Name → Value Name → Name → Name → Act Name (Value Name)
  Placed x near id a = look (λ t. refs.place Mines t (refs.follow Mines t x)) >>= (λ p. refs.react_at Mines (refs.reaction Mines id near x a) p >> give (Ref a))

  abbrev Reacting : ℕ → Value Name → Value Name → Value Name → Name → Name → Act Name (Value Name)
  Reacting act x o near id a = tell (Reacts act x o (refs.reaction Mines id near x a)) >> Placed x near id a

  asking_placed : (x near : Value Name) (id a : Name) → Leads Any Leading (Placed x near id a)
  asking_placed x near id a = leads_bind Any Leading (base v P) (leads_look Any Leading (base v P) (λ t. refs.place Mines t (refs.follow Mines t x))) (λ p. leads_then Any Leading (base v P) (asking_react_at (refs.reaction Mines id near x a) p) (leads_give Any Leading (base v P) (Ref a)))

  reacted : (act : ℕ) (x o near : Value Name) (s : Vat Name) → s.number ≡ v → Ends Any Leading s ((new_message Mines s.number >>= (λ new. Reacting act x o near new.0 new.1)) s)
  unfolding ◌>>=◌ ◌>>◌ and_then tell new_message naming name_of mail_of answer_of host_of refs.reaction
  reacted act x o near s e = let m : Msg = record { sender = v; number = s.messages } in let a : Name = Answer s.number m in let line : Happened Name = Reacts act x o (refs.reaction Mines (Sent m) near x a) in
      let t : Vat Name = record s { messages = suc s.messages; mails = s.mails ++ Sent m ∷ []; known = s.known ++ begun a s.number ∷ []; happened = s.happened ++ line ∷ [] } in
      widen Any Leading (base v P) {s = s} {t = t} (messaged v P s t a line refl (known_end s.known a s.number) refl refl refl refl refl refl refl (new_fits s.number m (names_in s.known) s.mails) (inl (e, inr (inl (line, among_last s.happened line, refl))))) (Placed x near (Sent m) a t) ((asking_placed x near (Sent m) a).after t)

  asking_react : (act : ℕ) (x o near : Value Name) → Leads Any Leading (refs.react Mines act x o near)
  unfolding refs.react ◌>>=◌ look and_then
  asking_react act x o near = record { after = λ s. here v P s ((new_message Mines s.number >>= (λ new. Reacting act x o near new.0 new.1)) s) (λ e. reacted act x o near s e) }

  promised : (s : Vat Name) → Leading s (record s { promises = suc s.promises; known = s.known ++ begun (Mines.made (IsOwn s.promises) (length s.known)) s.number ∷ [] })
  unfolding naming name_of host_of
  promised s = grown v P s (record s { promises = suc s.promises; known = s.known ++ begun (Promise v s.promises) s.number ∷ [] }) (Promise v s.promises) refl (known_end s.known (Promise v s.promises) s.number) refl refl refl refl refl refl refl (inl (refl, inl (s.promises, refl)))

  under : IsLedUnder Mines Any Leading
  under = record { promised = promised; breaks = λ p t. asking_settle p (Broken t); resolves = asking_resolve; sends = asking_send; sends_only = asking_send_only; reacts = asking_react }

  pub asking_taking : (tree : List Node) (depth : ℕ) (m : Message Name) → Leads Any Leading (eval.taking Mines tree depth m)
  unfolding eval.taking
  asking_taking tree depth m = leads_bind Any Leading (base v P) (leads_activation Any Leading (base v P)) (λ a. leads_then Any Leading (base v P) (asking_tell v P (Took a m) tt)
      (leads_closes Mines Any Leading (base v P) under tree a m.answer _ (leads_turn_value Mines Any Leading (base v P) under tree (eval.evaluator Mines tree depth) (good_evaluator Mines Any Leading (base v P) under tree depth) a m.target m.verb m.args)))

  pub asking_openings : (tree : List Node) (depth : ℕ) (root : Name) (given : List (Binding Name)) → Leads Any Leading (eval.opening Mines tree depth root given)
  asking_openings tree depth root given = leads_opening Mines Any Leading (base v P) under tree depth root given

pub ruleset asking_refs = (asking, asking_settle, asking_resolve, asking_inform)
