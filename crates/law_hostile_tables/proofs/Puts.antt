-- What a vat puts calls the answer that it asks for by its name; and only where a note comes does a vat ask for gifts or come to host more.
use Rattle.std.proofs.Common.{◌≡◌, ℕ, zero, suc, ◌-◌, Bool, true, false, List, [], ◌∷◌, ◌++◌, Option, Some, None, refl, sym, ap, subst, ◌∙◌, ◌⊎◌, inl, inr, length}
use Rattle.std.specs.Prelude.{is_some}
use Rattle.def_machine.specs.Values.{Words, Value, Null, Flag, Number, Letter, Text, Prim, Broken, Items, Ref, Name, Answer, Sent, Msg, Naming, IsOwn, IsAnswer, IsSent, Coming, Mailing, naming, name_of, mail_of, answer_of}
use Rattle.def_machine.specs.State.{Binding, Message, Change, ToTell, Viewed, Standing, Settled, Known, Passed, Passeds, Plain, AGift, Many, NoMore, More, Note, Deliver, Open, Ask, SettledTo, Elsewhere, Shorten, Put, GiftEntry, Happened, Posted, Sends, Took, Vat, Act, ◌>>=◌, ◌>>◌, and_then, give, look, tell, send_out, come, mail, draw, draws, drawn_at, alter, enqueue, mark, open_gift, with_opened, is_gift, with_change, new_message, new_lone_message, new_gift, for_some, is_in, begun, change, dead, holding}
use Rattle.def_machine.specs.Refs as refs
use Rattle.def_machine.specs.Refs.{Place, Near, Mine, Away, Gone, answer_host}
use Rattle.def_machine.specs.Arrive as arrive
use Rattle.def_machine.specs.Arrive.{Incoming, Old, New}
use Rattle.def_machine.specs.Eval as eval
use Rattle.def_kernel.specs.declared.node.Node.{Node}
use Rattle.law_fate.proofs.Fates.Leads.{Leads, Ends, IsLed, IsLedUnder, leads, widen, leads_bind, leads_then, leads_give, leads_look, leads_if, leads_activation}
use Rattle.law_fate.proofs.Fates.TurnLeads.{good_evaluator, leads_turn_value, leads_closes, leads_opening}
use Rattle.law_fate.specs.Name.Names.{AllOf}
use Rattle.law_fate.proofs.Name.Facts.{all_end}
use Rattle.law_reference.specs.Reference.Notes.{NamesItsAnswer, answer_due}
use Rattle.law_frame.proofs.Frame.WireAsking.{gift_names}

-- a stop may leave any state
abbrev pub Any : Vat Name → Vat Name → Type 0
Any s t = Unit {0}

-- A says whether gifts may be asked for, and may come.
module _ (A : Type 0) where
  abbrev pub MayAsk : Note Name → Type 0
  MayAsk (Ask p i n) = A
  MayAsk (Deliver d n verb ys) = Unit {0}
  MayAsk (Open i n) = Unit {0}
  MayAsk (SettledTo n y) = Unit {0}
  MayAsk (Elsewhere n c) = Unit {0}
  MayAsk (Shorten n c i) = Unit {0}

  abbrev pub IsFit : Put Name → Type 0
  IsFit p = NamesItsAnswer p.to p.note × MayAsk p.note

  abbrev pub Keeps : Vat Name → Vat Name → Type 0
  Keeps s t = (AllOf IsFit s.outbox → AllOf IsFit t.outbox) × (A ⊎ (gift_names t.gifts ≡ gift_names s.gifts))

  gifts_on : (xs ys zs : List Name) → A ⊎ (ys ≡ xs) → A ⊎ (zs ≡ ys) → A ⊎ (zs ≡ xs)
  gifts_on xs ys zs (inl a) k = inl a
  gifts_on xs ys zs (inr e) (inl a) = inl a
  gifts_on xs ys zs (inr e) (inr f) = inr (f ∙ e)

  -- neither outbox nor gifts change
  pub same_as : (s t : Vat Name) → t.outbox ≡ s.outbox → t.gifts ≡ s.gifts → Keeps s t
  same_as s t e f = (λ h. subst (AllOf IsFit) (sym e) h, inr (ap gift_names f))

  pub base : IsLed Any Keeps
  base = record {
    same = λ s. same_as s s refl refl;
    trans = λ {s} {t} {u} h k. (λ f. k.0 (h.0 f), gifts_on (gift_names s.gifts) (gift_names t.gifts) (gift_names u.gifts) h.1 k.1);
    stops = λ s. tt;
    stopped = λ h k. tt;
    fuel = λ s n. same_as s (record s { fuel = s.fuel - n }) refl refl;
    told = λ s e h. same_as s (record s { happened = s.happened ++ e ∷ [] }) refl refl;
    activations = λ s. same_as s (record s { activations = suc s.activations }) refl refl;
    thing = λ s t. same_as s (record s { things = s.things ++ t ∷ [] }) refl refl;
    killed = λ s n. same_as s (record s { things = change dead n s.things }) refl refl;
    slot = λ s c. same_as s (record s { slots = s.slots ++ c ∷ [] }) refl refl;
    written = λ s n y. same_as s (record s { slots = change (holding y) n s.slots }) refl refl;
    list = λ s vs. same_as s (record s { lists = s.lists ++ vs ∷ [] }) refl refl;
  }

  pub fit_tell : (e : Happened Name) → Leads Any Keeps (tell e)
  unfolding tell
  fit_tell e = record { after = λ s. same_as s (record s { happened = s.happened ++ e ∷ [] }) refl refl }

  pub fit_enqueue : (m : Message Name) → Leads Any Keeps (enqueue m)
  unfolding enqueue
  fit_enqueue m = record { after = λ s. same_as s (record s { queue = s.queue ++ m ∷ [] }) refl refl }

  pub fit_mark : (w : ℕ) → Leads Any Keeps (mark w)
  unfolding mark
  fit_mark w = record { after = λ s. same_as s (record s { noticed = s.noticed ++ w ∷ [] }) refl refl }

  opened_names : (p i : ℕ) (gs : List (GiftEntry Name)) → gift_names (with_opened p i gs) ≡ gift_names gs
  unfolding with_opened
  opened_names p i [] = refl
  opened_names p i (g ∷ gs) = either (is_gift p i g) (opened_names p i gs)
    where
      either : (b : Bool) → gift_names (with_opened p i gs) ≡ gift_names gs → gift_names (elim b [ true ↦ record g { opened = true } ∷ gs | false ↦ g ∷ with_opened p i gs ]) ≡ gift_names (g ∷ gs)
      either true e = refl
      either false e = ap (λ ns. g.name ∷ ns) e

  pub fit_open : (p i : ℕ) → Leads Any Keeps (open_gift {N = Name} p i)
  unfolding open_gift
  fit_open p i = record { after = λ s. (λ h. h, inr (opened_names p i s.gifts)) }

  pub put_after : (s : Vat Name) (w : ℕ) (n : Note Name) → NamesItsAnswer w n → MayAsk n → Keeps s (record s { outbox = s.outbox ++ record { to = w; note = n } ∷ [] })
  put_after s w n h k = (λ f. all_end IsFit s.outbox (record { to = w; note = n }) f (h, k), inr refl)

  pub fit_settled : (w : ℕ) (n : Name) (y : Passed Name) → Leads Any Keeps (send_out w (SettledTo n y))
  unfolding send_out
  fit_settled w n y = record { after = λ s. put_after s w (SettledTo n y) tt tt }

  pub fit_elsewhere : (w : ℕ) (n : Name) (c : ℕ) → Leads Any Keeps (send_out w (Elsewhere n c))
  unfolding send_out
  fit_elsewhere w n c = record { after = λ s. put_after s w (Elsewhere n c) tt tt }

  pub fit_opening : (w i : ℕ) (n : Name) → Leads Any Keeps (send_out w (Open i n))
  unfolding send_out
  fit_opening w i n = record { after = λ s. put_after s w (Open i n) tt tt }

  pub fit_shorten : (w : ℕ) (n : Name) (c i : ℕ) → Leads Any Keeps (send_out w (Shorten n c i))
  unfolding send_out
  fit_shorten w n c i = record { after = λ s. put_after s w (Shorten n c i) tt tt }

  module _ (word : ℕ → ℕ) (v : ℕ) where
    abbrev K : Naming Name Name
    K = naming word v

    draws_after : (s : Vat Name) (w : ℕ) (o : Option ℕ) → Ends Any Keeps s (draws w o s)
    unfolding draws
    draws_after s w (Some i) = tt
    draws_after s w None = same_as s (record s { drawn = s.drawn ++ w ∷ [] }) refl refl

    pub fit_draw : Leads Any Keeps (draw K)
    unfolding draw
    fit_draw = record { after = λ s. draws_after s (K.word (length s.drawn)) (drawn_at zero (K.word (length s.drawn)) s.drawn) }

    pub fit_alter : (c : Change Name) (n : Name) → Leads Any Keeps (alter K c n)
    unfolding alter
    fit_alter c n = record { after = λ s. same_as s (record s { known = with_change K c n s.known }) refl refl }

    pub fit_come : (c : Coming Name Name) (h : ℕ) → Leads Any Keeps (come K c h)
    unfolding come
    fit_come c h = record { after = λ s. same_as s (record s { known = s.known ++ begun (K.made c (length s.known)) h ∷ [] }) refl refl }

    pub fit_mail : (c : Mailing Name) → Leads Any Keeps (mail K c)
    unfolding mail
    fit_mail c = record { after = λ s. same_as s (record s { mails = s.mails ++ K.mailed c (length s.mails) ∷ [] }) refl refl }

    pub ruleset fitting = (fit_tell, fit_enqueue, fit_mark, fit_open, fit_settled, fit_elsewhere, fit_opening, fit_shorten, fit_draw, fit_alter, fit_come, fit_mail)

    -- ---- what passes

    fit_address_plain : (w : ℕ) (y : Value Name) (p : Place Name) → Leads Any Keeps (refs.address_plain K w y p)
    unfolding refs.address_plain
    fit_address_plain w y (Away h n o) = search (leads, fitting, base) depth 14
    fit_address_plain w y (Mine n) = search (leads, fitting, base) depth 14
    fit_address_plain w y _ = search (leads, fitting, base) depth 14

    mutual
      unfolding refs.address refs.address_all

      fit_address : (w : ℕ) (y : Passed Name) → Leads Any Keeps (refs.address K w y)
      fit_address w (Plain y) = search (leads, base, fit_address_plain) depth 14
      fit_address w (AGift h i) = search (leads, base)
      fit_address w (Many ys) = let rest = fit_address_all w ys in search (leads, base)

      fit_address_all : (w : ℕ) (ys : Passeds Name) → Leads Any Keeps (refs.address_all K w ys)
      fit_address_all w NoMore = search (leads, base)
      fit_address_all w (More y ys) = let one = fit_address w y in let rest = fit_address_all w ys in search (leads, base)

    pub fit_pass : (w : ℕ) (x : Value Name) → Leads Any Keeps (refs.pass K w x)
    unfolding refs.pass
    fit_pass w x = search (leads, base, fit_address) depth 14

    pub fit_pass_all : (w : ℕ) (xs : List (Value Name)) → Leads Any Keeps (refs.pass_all K w xs)
    unfolding refs.pass_all
    fit_pass_all w [] = search (leads, base)
    fit_pass_all w (x ∷ xs) = let rest = fit_pass_all w xs in search (leads, base, fit_pass) depth 14

    pub fit_wait_on : (p q : Name) → Leads Any Keeps (refs.wait_on K p q)
    unfolding refs.wait_on
    fit_wait_on p q = search (leads, fitting, base) depth 14

    fit_inform_of : (p : Name) (w : ℕ) (y : Value Name) (q : Place Name) → Leads Any Keeps (refs.inform_of K p w y q)
    unfolding refs.inform_of
    fit_inform_of p w y (Away h n true) = search (leads, fitting) depth 14
    fit_inform_of p w y _ = leads_bind Any Keeps base (fit_pass w y) (λ z. fit_settled w p z)

    pub fit_inform : (p : Name) (w : ℕ) → Leads Any Keeps (refs.inform K p w)
    unfolding refs.inform
    fit_inform p w = search (leads, base, fit_inform_of) depth 14

    -- ---- a message goes out, where its answer is called by its name

    fit_message : (m : Message Name) (h : ℕ) (n : Name) (args : Passeds Name) → m.answer ≡ answer_due h (is_some m.answer) m.id → Leads Any Keeps (send_out h (Deliver (refs.delivery_of K m) n m.verb args))
    unfolding send_out
    fit_message m h n args e = record { after = λ s. put_after s h (Deliver (refs.delivery_of K m) n m.verb args) e tt }

    pub fit_deliver : (m : Message Name) (h : ℕ) (n : Name) → m.answer ≡ answer_due h (is_some m.answer) m.id → Leads Any Keeps (refs.deliver K m h n)
    unfolding refs.deliver
    fit_deliver m h n e = leads_bind Any Keeps base (fit_pass_all h m.args) (λ args. leads_then Any Keeps base (fit_tell (Posted h m.id)) (fit_message m h n args e))

    goes_on : (m : Message Name) (h : ℕ) (n p : Name) (s : Vat Name) → Ends Any Keeps s ((come K (IsAnswer h m.id) h >>= (λ a. refs.deliver K (record m { answer = Some a }) h n >> refs.wait_on K p a)) s)
    unfolding ◌>>=◌ and_then come naming name_of
    goes_on m h n p s = let a : Name = answer_of h m.id in let t : Vat Name = record s { known = s.known ++ begun a h ∷ [] } in
        widen Any Keeps base {s = s} {t = t} (same_as s t refl refl) ((refs.deliver K (record m { answer = Some a }) h n >> refs.wait_on K p a) t) ((leads_then Any Keeps base (fit_deliver (record m { answer = Some a }) h n refl) (fit_wait_on p a)).after t)

    on_answer : (m : Message Name) (h : ℕ) (n : Name) (o : Option Name) → m.answer ≡ o → Leads Any Keeps (for_some o (λ p. come K (IsAnswer h m.id) h >>= (λ a. refs.deliver K (record m { answer = Some a }) h n >> refs.wait_on K p a)) (refs.deliver K m h n))
    unfolding for_some
    on_answer m h n (Some p) e = record { after = goes_on m h n p }
    on_answer m h n None e = fit_deliver m h n (subst (λ (o : Option Name). o ≡ answer_due h (is_some o) m.id) (sym e) refl)

    pub fit_pass_on : (m : Message Name) (h : ℕ) (n : Name) → Leads Any Keeps (refs.pass_on K m h n)
    unfolding refs.pass_on
    fit_pass_on m h n = on_answer m h n m.answer refl

    -- ---- settling and resolving

    abbrev Settler : (Name → Value Name → Act Name (Unit {0})) → Type 0
    Settler settle = (p : Name) (y : Value Name) → Leads Any Keeps (settle p y)

    fit_send_to : (settle : Name → Value Name → Act Name (Unit {0})) → Settler settle → (m : Message Name) (y : Value Name) (p : Place Name) → Leads Any Keeps (refs.send_to K settle m y p)
    unfolding refs.send_to for_some
    fit_send_to settle good m y (Away h n o) = fit_pass_on m h n
    fit_send_to settle good m y (Gone p) = leads_then Any Keeps base (fit_tell _) (breaks m.answer p)
      where
        breaks : (o : Option Name) (p : Words) → Leads Any Keeps (for_some o (λ a. settle a (Broken p)) (give tt))
        breaks (Some a) p = good a (Broken p)
        breaks None p = leads_give Any Keeps base tt
    fit_send_to settle good m y other = search (leads, fitting) depth 14

    pub fit_send_on : (settle : Name → Value Name → Act Name (Unit {0})) → Settler settle → (m : Message Name) → Leads Any Keeps (refs.send_on K settle m)
    unfolding refs.send_on
    fit_send_on settle good m = search (leads, base, fit_send_to) depth 14

    fit_settle_known : (settle : Name → Value Name → Act Name (Unit {0})) → Settler settle → (p : Name) (y : Value Name) (k : Known Name) → Leads Any Keeps (refs.settle_known K settle p y k)
    unfolding refs.settle_known
    fit_settle_known settle good p y k = search (leads, fitting, base, good, fit_send_on, fit_inform) depth 20

    fit_settle_standing : (settle : Name → Value Name → Act Name (Unit {0})) → Settler settle → (p : Name) (y : Value Name) (k : Known Name) (t : Standing Name) → Leads Any Keeps (refs.settle_standing K settle p y k t)
    unfolding refs.settle_standing
    fit_settle_standing settle good p y k (Settled z) = search (leads, base)
    fit_settle_standing settle good p y k _ = fit_settle_known settle good p y k

    fit_settle_entry : (settle : Name → Value Name → Act Name (Unit {0})) → Settler settle → (p : Name) (y : Value Name) (o : Option (Known Name)) → Leads Any Keeps (refs.settle_entry K settle p y o)
    unfolding refs.settle_entry
    fit_settle_entry settle good p y None = search (leads, base)
    fit_settle_entry settle good p y (Some k) = fit_settle_standing settle good p y k k.standing

    fit_settle_one : (settle : Name → Value Name → Act Name (Unit {0})) → Settler settle → Settler (refs.settle_one K settle)
    unfolding refs.settle_one
    fit_settle_one settle good p y = search (leads, base, fit_settle_entry) depth 14

    fit_settle_at : (d : ℕ) → Settler (refs.settle_at K d)
    unfolding refs.settle_at
    fit_settle_at zero p y = search (leads, base)
    fit_settle_at (suc d) p y = fit_settle_one (λ q z. refs.settle_at K d q z) (λ q z. fit_settle_at d q z) p y

    pub fit_settle : Settler (refs.settle K)
    unfolding refs.settle
    fit_settle p y = search (leads, base, fit_settle_at) depth 14

    fit_wait_unless_cycle : (p q : Name) → Leads Any Keeps (refs.wait_unless_cycle K p q)
    unfolding refs.wait_unless_cycle
    fit_wait_unless_cycle p q = search (leads, base, fit_settle, fit_wait_on) depth 14

    fit_resolve_to : (p : Name) (y : Value Name) (q : Place Name) → Leads Any Keeps (refs.resolve_to K p y q)
    unfolding refs.resolve_to
    fit_resolve_to p y (Mine q) = fit_wait_unless_cycle p q
    fit_resolve_to p y (Away h q false) = fit_wait_unless_cycle p q
    fit_resolve_to p y _ = fit_settle p y

    pub fit_resolve : Settler (refs.resolve K)
    unfolding refs.resolve
    fit_resolve p y = search (leads, base, fit_resolve_to) depth 14

    -- ---- new messages

    first_sent : (act : ℕ) (x y : Value Name) (verb : Words) (args : List (Value Name)) (p : Place Name) (u h : ℕ) (m : Msg) → h ≡ answer_host K u p → Leads Any Keeps (refs.send_first K (record { id = Sent m; target = y; verb = verb; args = args; answer = Some (Answer h m) }) y p)
    unfolding refs.send_first answer_host answer_of
    first_sent act x y verb args (Away g n o) u h m e = fit_deliver _ g n (ap (λ z. Some (Answer z m)) e)
    first_sent act x y verb args p u h m e = fit_send_to (refs.settle K) fit_settle _ y p

    sent : (act : ℕ) (x y : Value Name) (verb : Words) (args : List (Value Name)) (p : Place Name) (u h : ℕ) → h ≡ answer_host K u p → (s : Vat Name) → Ends Any Keeps s ((new_message K h >>= (λ new. tell (Sends act (record { id = new.0; target = x; verb = verb; args = args; answer = Some new.1 }))
        >> (refs.send_first K (record { id = new.0; target = y; verb = verb; args = args; answer = Some new.1 }) y p >> give (Ref new.1)))) s)
    unfolding ◌>>=◌ and_then new_message naming name_of mail_of answer_of
    sent act x y verb args p u h e s = let m : Msg = record { sender = v; number = s.messages } in let a : Name = Answer h m in
        let t : Vat Name = record s { messages = suc s.messages; mails = s.mails ++ Sent m ∷ []; known = s.known ++ begun a h ∷ [] } in
        let rest : Act Name (Value Name) = tell (Sends act (record { id = Sent m; target = x; verb = verb; args = args; answer = Some a })) >> (refs.send_first K (record { id = Sent m; target = y; verb = verb; args = args; answer = Some a }) y p >> give (Ref a)) in
        widen Any Keeps base {s = s} {t = t} (same_as s t refl refl) (rest t) ((leads_then Any Keeps base (fit_tell _) (leads_then Any Keeps base (first_sent act x y verb args p u h m e) (leads_give Any Keeps base (Ref a)))).after t)

    fit_send : (act : ℕ) (x : Value Name) (verb : Words) (args : List (Value Name)) → Leads Any Keeps (refs.send K act x verb args)
    unfolding refs.send ◌>>=◌ look and_then
    fit_send act x verb args = record { after = λ s. sent act x (refs.follow K s x) verb args (refs.place K s (refs.follow K s x)) s.number (answer_host K s.number (refs.place K s (refs.follow K s x))) refl s }

    fit_lone : Leads Any Keeps (new_lone_message K)
    unfolding new_lone_message
    fit_lone = record { after = λ s. same_as s (record s { messages = suc s.messages; mails = s.mails ++ K.mailed (IsSent s.messages) (length s.mails) ∷ [] }) refl refl }

    first_lone : (id : Name) (y : Value Name) (verb : Words) (args : List (Value Name)) (p : Place Name) → Leads Any Keeps (refs.send_first K (record { id = id; target = y; verb = verb; args = args; answer = None }) y p)
    unfolding refs.send_first
    first_lone id y verb args (Away h n o) = fit_deliver _ h n refl
    first_lone id y verb args p = fit_send_to (refs.settle K) fit_settle _ y p

    fit_send_only : (act : ℕ) (x : Value Name) (verb : Words) (args : List (Value Name)) → Leads Any Keeps (refs.send_only K act x verb args)
    unfolding refs.send_only
    fit_send_only act x verb args = leads_bind Any Keeps base (leads_look Any Keeps base (λ s. refs.follow K s x)) (λ y. leads_bind Any Keeps base (leads_look Any Keeps base (λ s. refs.place K s y)) (λ p. leads_bind Any Keeps base fit_lone (λ id. leads_then Any Keeps base (fit_tell _) (leads_then Any Keeps base (first_lone id y verb args p) (leads_give Any Keeps base Null)))))

    fit_react_at : (m : Message Name) (p : Place Name) → Leads Any Keeps (refs.react_at K m p)
    unfolding refs.react_at
    fit_react_at m (Mine n) = search (fitting)
    fit_react_at m (Away h n false) = search (fitting)
    fit_react_at m _ = search (fitting)

    fit_new : (h : ℕ) → Leads Any Keeps (new_message K h)
    unfolding new_message
    fit_new h = record { after = λ s. same_as s (record s { messages = suc s.messages; mails = s.mails ++ K.mailed (IsSent s.messages) (length s.mails) ∷ []; known = s.known ++ begun (K.made (IsAnswer h (K.mailed (IsSent s.messages) (length s.mails))) (length s.known)) h ∷ [] }) refl refl }

    fit_react : (act : ℕ) (x o near : Value Name) → Leads Any Keeps (refs.react K act x o near)
    unfolding refs.react
    fit_react act x o near = leads_bind Any Keeps base (leads_look Any Keeps base (λ s. s.number)) (λ u. leads_bind Any Keeps base (fit_new u) (λ new. leads_then Any Keeps base (fit_tell _) (leads_bind Any Keeps base (leads_look Any Keeps base (λ s. refs.place K s (refs.follow K s x))) (λ p. leads_then Any Keeps base (fit_react_at _ p) (leads_give Any Keeps base (Ref new.1))))))

    fit_promised : (s : Vat Name) → Keeps s (record s { promises = suc s.promises; known = s.known ++ begun (K.made (IsOwn s.promises) (length s.known)) s.number ∷ [] })
    fit_promised s = same_as s (record s { promises = suc s.promises; known = s.known ++ begun (K.made (IsOwn s.promises) (length s.known)) s.number ∷ [] }) refl refl

    under : IsLedUnder K Any Keeps
    under = record { promised = fit_promised; breaks = λ p t. fit_settle p (Broken t); resolves = fit_resolve; sends = fit_send; sends_only = fit_send_only; reacts = fit_react }

    -- ---- turns

    pub fit_taking : (tree : List Node) (depth : ℕ) (m : Message Name) → Leads Any Keeps (eval.taking K tree depth m)
    unfolding eval.taking
    fit_taking tree depth m = leads_bind Any Keeps base (leads_activation Any Keeps base) (λ a. leads_then Any Keeps base (fit_tell (Took a m))
        (leads_closes K Any Keeps base under tree a m.answer _ (leads_turn_value K Any Keeps base under tree (eval.evaluator K tree depth) (good_evaluator K Any Keeps base under tree depth) a m.target m.verb m.args)))

    pub fit_starting : (tree : List Node) (depth : ℕ) (root : Name) (given : List (Binding Name)) → Leads Any Keeps (eval.opening K tree depth root given)
    fit_starting tree depth root given = leads_opening K Any Keeps base under tree depth root given

    -- ---- notices

    fit_break_at : (n : Name) (p : Words) (t : Standing Name) → Leads Any Keeps (arrive.break_at K n p t)
    unfolding arrive.break_at
    fit_break_at n p (Settled y) = search (leads, base)
    fit_break_at n p _ = fit_settle n _

    fit_break_unopened : (n : Name) (b : Bool) → Leads Any Keeps (arrive.break_unopened K n b)
    unfolding arrive.break_unopened
    fit_break_unopened n true = search (leads, base)
    fit_break_unopened n false = search (leads, base, fit_break_at) depth 14

    fit_break_hosted : (w : ℕ) (n : Name) (p : Words) (t : Standing Name) → Leads Any Keeps (arrive.break_hosted K w n p t)
    unfolding arrive.break_hosted
    fit_break_hosted w n p (Viewed q) = search (leads, base)
    fit_break_hosted w n p (Settled y) = search (leads, base)
    fit_break_hosted w n p other = fit_settle n _

    fit_notice_name : (w : ℕ) (k : Known Name) → Leads Any Keeps (arrive.notice_name K w k)
    unfolding arrive.notice_name
    fit_notice_name w k = search (leads, base, fit_break_hosted) depth 14

    fit_notice_gift : (w : ℕ) (g : GiftEntry Name) → Leads Any Keeps (arrive.notice_gift K w g)
    unfolding arrive.notice_gift
    fit_notice_gift w g = search (leads, base, fit_break_unopened) depth 14

    fit_notice_all : (w : ℕ) → Leads Any Keeps (arrive.notice_all K w)
    unfolding arrive.notice_all
    fit_notice_all w = search (leads, fitting, base, fit_notice_name, fit_notice_gift) depth 20

    pub fit_notice : (w : ℕ) → Leads Any Keeps (arrive.notice K w)
    unfolding arrive.notice
    fit_notice w = search (leads, base, fit_notice_all) depth 14

    -- ---- notes, where gifts may be asked for

    module _ (may : A) where
      fit_ask : (w p i : ℕ) (n : Name) → Leads Any Keeps (send_out w (Ask p i n))
      unfolding send_out
      fit_ask w p i n = record { after = λ s. put_after s w (Ask p i n) tt may }

      fit_new_gift : (n : Name) (p i : ℕ) → Leads Any Keeps (new_gift n p i)
      unfolding new_gift
      fit_new_gift n p i = record { after = λ s. (λ h. h, inl may) }

      fit_ask_for : (p h i : ℕ) (n : Name) → Leads Any Keeps (arrive.ask_for K p h i n)
      unfolding arrive.ask_for
      fit_ask_for p h i n = search (leads, base, fit_ask, fit_settle) depth 14

      fit_learn_gift : (p h i : ℕ) → Leads Any Keeps (arrive.learn_gift K p h i)
      unfolding arrive.learn_gift
      fit_learn_gift p h i = search (leads, fitting, base, fit_ask_for) depth 14

      fit_learn_name : (x : Incoming Name Name) → Leads Any Keeps (arrive.learn_name K x)
      unfolding arrive.learn_name
      fit_learn_name (Old n) = search (leads, base)
      fit_learn_name (New x h) = search (fitting)

      fit_learn_value : (y : Value (Incoming Name Name)) → Leads Any Keeps (arrive.learn_value K y)
      unfolding arrive.learn_value
      fit_learn_value (Ref x) = leads_bind Any Keeps base (fit_learn_name x) (λ n. leads_give Any Keeps base (Ref n))
      fit_learn_value Null = search (leads, base)
      fit_learn_value (Flag b) = search (leads, base)
      fit_learn_value (Number z) = search (leads, base)
      fit_learn_value (Letter c) = search (leads, base)
      fit_learn_value (Text t) = search (leads, base)
      fit_learn_value (Prim n) = search (leads, base)
      fit_learn_value (Broken p) = search (leads, base)
      fit_learn_value (Items k) = search (leads, base)

      fit_list : (vs : List (Value Name)) → Leads Any Keeps (arrive.make_list K vs)
      unfolding arrive.make_list
      fit_list vs = search (leads, fitting, base) depth 14

      mutual
        unfolding arrive.learn arrive.learn_all

        fit_learn : (p : ℕ) (y : Passed (Incoming Name Name)) → Leads Any Keeps (arrive.learn K p y)
        fit_learn p (Plain y) = fit_learn_value y
        fit_learn p (AGift h i) = fit_learn_gift p h i
        fit_learn p (Many ys) = leads_bind Any Keeps base (fit_learn_all p ys) (λ vs. fit_list vs)

        fit_learn_all : (p : ℕ) (ys : Passeds (Incoming Name Name)) → Leads Any Keeps (arrive.learn_all K p ys)
        fit_learn_all p NoMore = search (leads, base)
        fit_learn_all p (More y ys) = leads_bind Any Keeps base (fit_learn p y) (λ v. leads_bind Any Keeps base (fit_learn_all p ys) (λ vs. leads_give Any Keeps base (v ∷ vs)))

      fit_learn_message : (x : Incoming Name Name) → Leads Any Keeps (arrive.learn_message K x)
      unfolding arrive.learn_message
      fit_learn_message (Old n) = search (leads, base)
      fit_learn_message (New x h) = search (fitting)

      fit_gift_or_new : (v p i : ℕ) (o : Option (GiftEntry Name)) → Leads Any Keeps (arrive.gift_or_new K v p i o)
      unfolding arrive.gift_or_new
      fit_gift_or_new v p i (Some g) = search (leads, base)
      fit_gift_or_new v p i None = search (leads, fitting, base, fit_new_gift) depth 14

      fit_have_gift : (p i : ℕ) → Leads Any Keeps (arrive.have_gift K p i)
      unfolding arrive.have_gift
      fit_have_gift p i = search (leads, base, fit_gift_or_new) depth 14

      fit_break_orphan : (p i : ℕ) (n : Name) → Leads Any Keeps (arrive.break_orphan K p i n)
      unfolding arrive.break_orphan
      fit_break_orphan p i n = search (leads, base, fit_break_unopened) depth 14

      fit_tell_asker : (n : Name) (w : ℕ) (t : Standing Name) → Leads Any Keeps (arrive.tell_asker K n w t)
      unfolding arrive.tell_asker
      fit_tell_asker n w (Settled y) = fit_inform n w
      fit_tell_asker n w _ = fit_alter (ToTell w) n

      fit_see : (n g : Name) → Leads Any Keeps (arrive.see K n g)
      unfolding arrive.see
      fit_see n g = search (leads, fitting, base) depth 14

      fit_gift_there : (u h c i : ℕ) → Leads Any Keeps (arrive.gift_there K u h c i)
      unfolding arrive.gift_there
      fit_gift_there u h c i = search (leads, fitting, base, fit_have_gift, fit_ask) depth 14

      fit_view_there : (n : Name) (c : ℕ) → Leads Any Keeps (arrive.view_there K n c)
      unfolding arrive.view_there
      fit_view_there n c = search (leads, fitting, base, fit_gift_there, fit_see) depth 20

      fit_shorten_to : (i : ℕ) (p : Place Name) → Leads Any Keeps (arrive.shorten_to K i p)
      unfolding arrive.shorten_to
      fit_shorten_to i (Away h n true) = search (fitting)
      fit_shorten_to i _ = search (leads, base)

      fit_asked : (from : ℕ) (id n : Name) (verb : Words) (args : List (Value Name)) → Leads Any Keeps (arrive.send_on_asked K from id n verb args)
      unfolding arrive.send_on_asked
      fit_asked from id n verb args = leads_bind Any Keeps base (leads_look Any Keeps base (λ s. s.number)) (λ u. leads_bind Any Keeps base (fit_come (IsAnswer u id) u) (λ a. leads_then Any Keeps base (fit_alter (ToTell from) a) (fit_send_on (refs.settle K) fit_settle _)))

      pub fit_arrive : (from : ℕ) (n : Note (Incoming Name Name)) → Leads Any Keeps (arrive.arrive K from n)
      unfolding arrive.arrive arrive.arrive_deliver arrive.arrive_open arrive.arrive_ask arrive.arrive_settled arrive.arrive_elsewhere arrive.arrive_shorten
      fit_arrive from (Deliver d x verb ys) = leads_bind Any Keeps base (fit_learn_message d.message) (λ id. leads_bind Any Keeps base (fit_learn_all from ys) (λ args. leads_bind Any Keeps base (fit_learn_name x) (λ n. leads_if Any Keeps base d.asks (fit_asked from id n verb args) (fit_send_on (refs.settle K) fit_settle _))))
      fit_arrive from (Open i x) = leads_bind Any Keeps base (fit_learn_name x) (λ y. leads_bind Any Keeps base (fit_have_gift from i) (λ n. leads_then Any Keeps base (fit_open from i) (fit_resolve n (Ref y))))
      fit_arrive from (Ask p i x) = leads_bind Any Keeps base (fit_have_gift p i) (λ n. leads_then Any Keeps base (fit_break_orphan p i n) (leads_bind Any Keeps base (leads_look Any Keeps base (λ s. refs.standing_of K s.known n)) (λ t. fit_tell_asker n from t)))
      fit_arrive from (SettledTo x y) = leads_bind Any Keeps base (fit_learn_name x) (λ n. leads_bind Any Keeps base (fit_learn from y) (λ z. fit_settle n z))
      fit_arrive from (Elsewhere x c) = leads_bind Any Keeps base (fit_learn_name x) (λ n. leads_bind Any Keeps base (leads_look Any Keeps base (λ s. is_in c s.noticed)) (λ gone. leads_if Any Keeps base gone (fit_settle n _) (fit_view_there n c)))
      fit_arrive from (Shorten x c i) = leads_bind Any Keeps base (fit_learn_name x) (λ n. leads_bind Any Keeps base (leads_look Any Keeps base (λ s. refs.place K s (refs.follow K s (Ref n)))) (λ p. fit_shorten_to i p))
