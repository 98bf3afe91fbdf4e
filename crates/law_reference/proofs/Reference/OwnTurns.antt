-- Sends, reactions and turns leave what a vat has its own.
use Rattle.std.proofs.Common.{◌≡◌, ℕ, suc, List, [], ◌∷◌, ◌++◌, refl, false, length, ◌⊎◌, inl, inr, Option, Some, None}
use Rattle.def_machine.specs.Values.{Words, Value, Broken, Ref, Name, Sent, Answer, Promise, Msg, host_of, Naming, naming, name_of, answer_of, mail_of, IsOwn, Null}
use Rattle.def_machine.specs.State.{Binding, Message, Took, Sends, Reacts, Vat, Act, ◌>>=◌, ◌>>◌, and_then, give, look, tell, begun, new_message, new_activation, new_lone_message, WhereSome}
use Rattle.def_machine.specs.Refs as refs
use Rattle.def_machine.specs.Refs.{Place, Near, Mine, Away, Gone, answer_host}
use Rattle.def_machine.specs.Eval as eval
use Rattle.def_kernel.specs.declared.node.Node.{Node}
use Rattle.law_machine.proofs.Machine.RefsQuiet.{quiet_settle, quiet_resolve, quiet_send, quiet_send_only, quiet_react}
use Rattle.law_fate.proofs.Fates.Leads.{Leads, IsLed}
use Rattle.law_reference.proofs.Reference.TurnOpens.{IsLedOpen, good_evaluator, leads_turn_value, leads_closes, leads_opening}
use Rattle.law_fate.specs.Name.Names.{IsMessageName}
use Rattle.law_reference.specs.Reference.Own.{IsOwnMail}
use Rattle.law_reference.proofs.Reference.Gentle.{Gentle, Any, gentle_leads, leads_gentle, leads_at}
use Rattle.law_reference.proofs.Reference.OwnKeeps.{KeepsOwn, widen, with_own, own_bind, own_then, own_give, own_look, own_tell, own_enqueue, own_react, came_own, own_deliver, own_send_to, own_settle, own_resolve, PlaceFits, place_fits, IsFree, open_resolve}
use Rattle.law_reference.proofs.Reference.Wakes.{came_wakes}

or_on : {A B C : Type 0} → A ⊎ B → (A → C ⊎ B) → C ⊎ B
or_on (inl a) f = f a
or_on (inr b) f = inr b

pub where_map : (F G : Name → Type 0) → ((a : Name) → F a → G a) → (o : Option Name) → WhereSome F o → WhereSome G o
where_map F G h (Some a) g = h a g
where_map F G h None g = tt

module _ (word : ℕ → ℕ) (v : ℕ) (Spares : ℕ → Type 0) where
  abbrev Names : Naming Name Name
  Names = naming word v

  -- the message, whose answer the vat hosts where its target is not away
  abbrev OwnAt : Place Name → Message Name → Type 0
  OwnAt (Away h n o) m = IsMessageName m.id × ((host_of n ≡ h) × Spares h)
  OwnAt other m = IsOwnMail v m

  own_first : (m : Message Name) (y : Value Name) (p : Place Name) → OwnAt p m → Gentle (KeepsOwn word v Spares) (refs.send_first Names m y p)
  unfolding refs.send_first
  own_first m y (Away h n o) i = own_deliver word v Spares m h n i.1.0
  own_first m y Near i = own_send_to word v Spares (refs.settle Names) (own_settle word v Spares) m y Near i tt
  own_first m y (Mine n) i = own_send_to word v Spares (refs.settle Names) (own_settle word v Spares) m y (Mine n) i tt
  own_first m y (Gone t) i = own_send_to word v Spares (refs.settle Names) (own_settle word v Spares) m y (Gone t) i tt

  -- with a new message, whose answer is at that host
  with_message : {A : Type 0} (h : ℕ) (f : Name × Name → Act Name A) → (h ≡ v) ⊎ Spares h → ((i : ℕ) → Gentle (KeepsOwn word v Spares) (f (Sent (record { sender = v; number = i }), Answer h (record { sender = v; number = i })))) → Gentle (KeepsOwn word v Spares) (new_message Names h >>= f)
  unfolding ◌>>=◌ new_message and_then naming mail_of name_of answer_of host_of
  with_message h f k g = record {
    after = λ s. let m : Msg = record { sender = v; number = s.messages } in let t : Vat Name = record s { messages = suc s.messages; mails = s.mails ++ Sent m ∷ []; known = s.known ++ begun (Answer h m) h ∷ [] } in
        widen word v Spares s t (f (Sent m, Answer h m) t) (λ o. ((o.0, o.1, came_own word v Spares s (Answer h m) h refl o, o.3, o.4, o.5), came_wakes word v (IsFree word v Spares) s.known (Answer h m) h k)) ((g s.messages).after t);
  }

  own_at : (u i : ℕ) (p : Place Name) (y : Value Name) (verb : Words) (args : List (Value Name)) → u ≡ v → PlaceFits word v Spares p
      → OwnAt p (record { id = Sent (record { sender = v; number = i }); target = y; verb = verb; args = args; answer = Some (Answer (answer_host Names u p) (record { sender = v; number = i })) })
  unfolding answer_host host_of
  own_at u i (Away h n o) y verb args e f = (tt, f)
  own_at u i other y verb args e f = (tt, e)

  host_free : (u : ℕ) (p : Place Name) → u ≡ v → PlaceFits word v Spares p → (answer_host Names u p ≡ v) ⊎ Spares (answer_host Names u p)
  unfolding answer_host
  host_free u (Away h n o) e f = inr f.1
  host_free u other e f = inl e

  abbrev SendNew : ℕ → Value Name → Value Name → Words → List (Value Name) → Place Name → ℕ → Act Name (Value Name)
  SendNew act x y verb args p u = new_message Names (answer_host Names u p) >>= (λ new. tell (Sends act (record { id = new.0; target = x; verb = verb; args = args; answer = Some new.1 }))
      >> (refs.send_first Names (record { id = new.0; target = y; verb = verb; args = args; answer = Some new.1 }) y p >> give (Ref new.1)))

  own_sent : (act : ℕ) (x y : Value Name) (verb : Words) (args : List (Value Name)) (p : Place Name) (u : ℕ) → u ≡ v → PlaceFits word v Spares p → Gentle (KeepsOwn word v Spares) (SendNew act x y verb args p u)
  own_sent act x y verb args p u e f = with_message (answer_host Names u p) _ (host_free u p e f) (λ i. own_then word v Spares (own_tell word v Spares _) (own_then word v Spares (own_first _ y p (own_at u i p y verb args e f)) (own_give word v Spares _)))

  pub own_send : (act : ℕ) (x : Value Name) (verb : Words) (args : List (Value Name)) → Gentle (KeepsOwn word v Spares) (refs.send Names act x verb args)
  unfolding refs.send ◌>>=◌ look and_then
  own_send act x verb args = record { after = λ s. with_own word v Spares s _ (λ o. (own_sent act x (refs.follow Names s x) verb args (refs.place Names s (refs.follow Names s x)) s.number o.0 (place_fits word v Spares s x o)).after s) }

  with_lone : {A : Type 0} (f : Name → Act Name A) → ((i : ℕ) → Gentle (KeepsOwn word v Spares) (f (Sent (record { sender = v; number = i })))) → Gentle (KeepsOwn word v Spares) (new_lone_message Names >>= f)
  unfolding ◌>>=◌ new_lone_message and_then naming mail_of
  with_lone f g = record {
    after = λ s. let m : Msg = record { sender = v; number = s.messages } in let t : Vat Name = record s { messages = suc s.messages; mails = s.mails ++ Sent m ∷ [] } in
        widen word v Spares s t (f (Sent m) t) (λ o. (o, λ n w. inl w)) ((g s.messages).after t);
  }

  lone_at : (i : ℕ) (p : Place Name) (y : Value Name) (verb : Words) (args : List (Value Name)) → PlaceFits word v Spares p → OwnAt p (record { id = Sent (record { sender = v; number = i }); target = y; verb = verb; args = args; answer = None })
  lone_at i (Away h n o) y verb args f = (tt, f)
  lone_at i other y verb args f = (tt, tt)

  abbrev SendLone : ℕ → Value Name → Value Name → Words → List (Value Name) → Place Name → Act Name (Value Name)
  SendLone act x y verb args p = new_lone_message Names >>= (λ id. tell (Sends act (record { id = id; target = x; verb = verb; args = args; answer = None }))
      >> (refs.send_first Names (record { id = id; target = y; verb = verb; args = args; answer = None }) y p >> give Null))

  own_lone : (act : ℕ) (x y : Value Name) (verb : Words) (args : List (Value Name)) (p : Place Name) → PlaceFits word v Spares p → Gentle (KeepsOwn word v Spares) (SendLone act x y verb args p)
  own_lone act x y verb args p f = with_lone _ (λ i. own_then word v Spares (own_tell word v Spares _) (own_then word v Spares (own_first _ y p (lone_at i p y verb args f)) (own_give word v Spares _)))

  pub own_send_only : (act : ℕ) (x : Value Name) (verb : Words) (args : List (Value Name)) → Gentle (KeepsOwn word v Spares) (refs.send_only Names act x verb args)
  unfolding refs.send_only ◌>>=◌ look and_then
  own_send_only act x verb args = record { after = λ s. with_own word v Spares s _ (λ o. (own_lone act x (refs.follow Names s x) verb args (refs.place Names s (refs.follow Names s x)) (place_fits word v Spares s x o)).after s) }

  own_react_at : (m : Message Name) (p : Place Name) → IsOwnMail v m → Gentle (KeepsOwn word v Spares) (refs.react_at Names m p)
  unfolding refs.react_at
  own_react_at m (Mine n) i = own_react word v Spares m n i
  own_react_at m (Away h n false) i = own_react word v Spares m n i
  own_react_at m other i = own_enqueue word v Spares m i

  abbrev ReactNew : ℕ → Value Name → Value Name → Value Name → ℕ → Act Name (Value Name)
  ReactNew act x o near u = new_message Names u >>= (λ new. tell (Reacts act x o (refs.reaction Names new.0 near x new.1)) >> (look (λ s. refs.place Names s (refs.follow Names s x)) >>= (λ p. refs.react_at Names (refs.reaction Names new.0 near x new.1) p >> give (Ref new.1))))

  own_reacted : (act : ℕ) (x o near : Value Name) (u : ℕ) → u ≡ v → Gentle (KeepsOwn word v Spares) (ReactNew act x o near u)
  unfolding refs.reaction host_of
  own_reacted act x o near u e = with_message u _ (inl e) (λ i. own_then word v Spares (own_tell word v Spares _) (own_bind word v Spares (own_look word v Spares _) (λ p. own_then word v Spares (own_react_at _ p (tt, e)) (own_give word v Spares _))))

  pub own_reaction : (act : ℕ) (x o near : Value Name) → Gentle (KeepsOwn word v Spares) (refs.react Names act x o near)
  unfolding refs.react ◌>>=◌ look and_then
  own_reaction act x o near = record { after = λ s. with_own word v Spares s _ (λ h. (own_reacted act x o near s.number h.0).after s) }

  -- ---- turns

  led : IsLed Any (KeepsOwn word v Spares)
  led = record { same = λ s o. (o, λ n w. inl w); trans = λ h k o. let b = h o in let c = k b.0 in (c.0, λ n w. or_on (c.1 n w) (b.1 n)); stops = λ s. tt; stopped = λ h k. tt; fuel = λ s n o. (o, λ m w. inl w); told = λ s e h o. (o, λ n w. inl w); activations = λ s o. (o, λ n w. inl w); thing = λ s t o. (o, λ n w. inl w); killed = λ s n o. (o, λ m w. inl w); slot = λ s c o. (o, λ n w. inl w); written = λ s n x o. (o, λ n w. inl w); list = λ s xs o. (o, λ n w. inl w) }

  promise_own : (s : Vat Name) → KeepsOwn word v Spares s (record s { promises = suc s.promises; known = s.known ++ begun (Names.made (IsOwn s.promises) (length s.known)) s.number ∷ [] })
  unfolding naming name_of host_of
  promise_own s = λ o. ((o.0, o.1, came_own word v Spares s (Promise v s.promises) s.number o.0 o, o.3, o.4, o.5), came_wakes word v (IsFree word v Spares) s.known (Promise v s.promises) s.number (inl refl))

  resolves : (p : Name) (y : Value Name) → IsFree word v Spares p → Leads Any (KeepsOwn word v Spares) (refs.resolve Names p y)
  resolves p y f = leads_gentle (KeepsOwn word v Spares) (refs.resolve Names p y) (quiet_resolve Names p y) (own_resolve word v Spares p y f)

  led_under : IsLedOpen Names Any (KeepsOwn word v Spares)
  led_under = record {
    promised = promise_own;
    breaks = λ p t. leads_gentle (KeepsOwn word v Spares) (refs.settle Names p (Broken t)) (quiet_settle Names p (Broken t)) (own_settle word v Spares p (Broken t));
    resolves = λ p y s e. leads_at (KeepsOwn word v Spares) (refs.resolve Names p y) (quiet_resolve Names p y) s (open_resolve word v Spares p y s e);
    sends = λ act x verb args. leads_gentle (KeepsOwn word v Spares) (refs.send Names act x verb args) (quiet_send Names act x verb args) (own_send act x verb args);
    sends_only = λ act x verb args. leads_gentle (KeepsOwn word v Spares) (refs.send_only Names act x verb args) (quiet_send_only Names act x verb args) (own_send_only act x verb args);
    reacts = λ act x o near. leads_gentle (KeepsOwn word v Spares) (refs.react Names act x o near) (quiet_react Names act x o near) (own_reaction act x o near);
  }

  activation : Gentle (KeepsOwn word v Spares) new_activation
  unfolding new_activation
  activation = record { after = λ s o. (o, λ n w. inl w) }

  pub own_taking : (tree : List Node) (depth : ℕ) (m : Message Name) → WhereSome (λ a. host_of a ≡ v) m.answer → Gentle (KeepsOwn word v Spares) (eval.taking Names tree depth m)
  unfolding eval.taking
  own_taking tree depth m e = own_bind word v Spares activation (λ a. own_then word v Spares (own_tell word v Spares (Took a m))
      (gentle_leads (KeepsOwn word v Spares) _ (leads_closes Names Any (KeepsOwn word v Spares) led led_under tree a m.answer (where_map _ _ (λ p f. λ y. resolves p y (inl f)) m.answer e) _ (leads_turn_value Names Any (KeepsOwn word v Spares) led led_under tree (eval.evaluator Names tree depth) (good_evaluator Names Any (KeepsOwn word v Spares) led led_under tree depth) a m.target m.verb m.args))))

  pub own_opening : (tree : List Node) (depth : ℕ) (root : Name) (given : List (Binding Name)) → host_of root ≡ v → Gentle (KeepsOwn word v Spares) (eval.opening Names tree depth root given)
  own_opening tree depth root given e = gentle_leads (KeepsOwn word v Spares) _ (leads_opening Names Any (KeepsOwn word v Spares) led led_under tree depth root (λ y. resolves root y (inl e)) given)
