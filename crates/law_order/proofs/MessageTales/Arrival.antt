-- What a vat does as a message arrives, in parts: what it learns, then the one act by which the message comes to stand elsewhere or is lost, and what follows.
use Rattle.std.proofs.Common.{◌≡◌, ℕ, zero, suc, ◌-◌, ◌≤◌, Bool, true, false, List, [], ◌∷◌, ◌++◌, Option, Some, None, length, refl, sym, ap, subst, ◌∙◌, inl, if◌then◌else◌}
use Rattle.std.specs.Prelude.{slice_get}
use Rattle.def_machine.specs.Values.{Words, Value, Broken, Ref, Name, Root, Answer, Sent, Msg, Naming, IsAnswer, key, host_of, naming, name_of, mail_of, answer_of}
use Rattle.def_machine.specs.State.{Message, Unsettled, Known, Hold, Wait, WaitOn, Waits, ToTell, Passed, Passeds, AGift, Delivery, Note, Deliver, Open, Put, Lost, Posted, Vat, Done, Gives, Act, ◌>>=◌, ◌>>◌, and_then, give, look, tell, send_out, enqueue, alter, come, mail, draw, draws, drawn_at, each, for_some, begun}
use Rattle.def_machine.specs.State as state
use Rattle.def_machine.specs.Refs as refs
use Rattle.def_machine.specs.Refs.{Near, Mine, Away, Gone, Settler}
use Rattle.def_machine.specs.Arrive as arrive
use Rattle.def_machine.specs.Arrive.{New}
use Rattle.def_run.specs.World as world
use Rattle.def_run.specs.World.{Script, World, names, read_note}
use Rattle.law_machine.specs.Machine.Steps.{After}
use Rattle.law_fate.specs.Name.Names.{AllOf, names_in}
use Rattle.law_order.specs.Ordering.Worlds.{IfGives, LetsNothingGo, AddsOnly, RefersAlike}
use Rattle.law_order.specs.Ordering.Steps.{LeadsAmid, Ready, Grown, StaysReady, IsHeld}
use Rattle.law_order.specs.Ordering.Settlings.{with_line}
use Rattle.law_order.specs.Ordering.Ways.{Way, Place, End}
use Rattle.law_order.specs.Ordering.Places.{aimed, leads_in, leads_at, leads, amid}
use Rattle.law_order.specs.Ordering.Arrivals.{IsOpenWay}
use Rattle.law_order.proofs.Ordering.Adds.{change_adds, alike_same, stays_quiet}
use Rattle.law_order.proofs.Ordering.Coming.{new_entry, old_entry}
use Rattle.law_order.proofs.Ordering.Moves.{Keeps, IsKept}
use Rattle.law_order.proofs.Ordering.News.{stays_self, stays_then}
use Rattle.law_order.proofs.Ordering.Passings.{keeps_pass, keeps_pass_all}
use Rattle.law_order.proofs.Ordering.Sends.{get_put, entry_changed}
use Rattle.law_order.proofs.Ordering.Sent.{leads_there}
use Rattle.law_order.proofs.Ordering.Waiting.{waits_grown}
use Rattle.law_order.proofs.Ordering.Adding.{refers_same}
use Rattle.law_order.proofs.Views.Severed.{IsAlone, came_alone, still_alone}
use Rattle.law_order.proofs.Carries.Informing.{informs_each}
use Rattle.law_order.proofs.MessageTales.Broken.{loose_answer, LeadsOr, leads_or_then, breaks_lead}
use Rattle.law_order.specs.Carries.Carries.{IsNotNext, AllNotNext}
use Rattle.law_order.proofs.Carries.Arriving.{aimed_back, refers_then, some_alike}
use Rattle.law_order.proofs.Carries.Breaking.{IsFresh, Broke, settles_so}
use Rattle.law_order.proofs.Carries.Learning as learning
use Rattle.law_order.proofs.Carries.Learning.{Yields, yields_bind, alone_self, IsAt}
use Rattle.law_order.proofs.Carries.Sending as sending
use Rattle.law_order.proofs.MessageTales.Learnt as learnt
use Rattle.law_order.proofs.MessageTales.Learnt.{IsCalm, IsHaving, answer_host, map_yield}

-- what comes after the vat has learnt, where the message is lost
pub record IsAfter (K : Naming Name Name) (R M : Vat Name → Vat Name → Type 0) : Type 0 where
  pub calm : {s t : Vat Name} → R s t → M s t
  pub trans : {s t u : Vat Name} → M s t → M t u → M s u
  pub lost : (s : Vat Name) (m : Name) → M s (record s { happened = s.happened ++ Lost m ∷ [] })
  pub informs : (s : Vat Name) (p : Name) (hs : List ℕ) → IfGives (λ t. M s t) (each (refs.inform K p) hs s)

-- an answer waits for another, once it was put
pub data Waited (K : Naming Name Name) (t : Vat Name) : Vat Name → Type 0 where
  no_wait : Waited K t t
  waits_for : (g : ℕ) (m : Msg) (z : Name) (k : Known Name) → refs.entry_of K t.known (Answer g m) ≡ Some k → k.standing ≡ Unsettled
      → Waited K t (with_line (record t { known = state.with_change K (Wait (Answer g m)) z (state.with_change K (WaitOn z) (Answer g m) t.known) }) (Waits (Answer g m) z))

-- the vat once the note is put
abbrev pub put_out : Naming Name Name → Message Name → ℕ → Name → Passeds Name → Vat Name → Vat Name
put_out K x h q zs t = record t { happened = t.happened ++ Posted h x.id ∷ []; outbox = t.outbox ++ record { to = h; note = Deliver (refs.delivery_of K x) q x.verb zs } ∷ [] }

module _ (script : Script) (honest : ℕ → Bool) (b : ℕ) (d : Delivery Name) (n : Name) (ys : Passeds Name) (R M : Vat Name → Vat Name → Type 0) (AllHad : List (List (Value Name)) → Passeds Name → List (Value Name) → Type 0) where
  abbrev Stays : Vat Name → Vat Name → Type 0
  Stays s t = (w : World) → StaysReady script honest w b s t

  abbrev HeldBy : Vat Name → Value Name → Type 0
  HeldBy s x = (w : World) → IsHeld script honest w b s x

  -- It goes out to another vat, from the state now, with what was learnt of the note.
  pub record GoesOut (s u : Vat Name) : Type 0 where
    pub now : Vat Name
    pub rel : R s now
    pub stays : Stays s now
    pub target : HeldBy now (Ref n)
    pub mail : Message Name
    pub id : mail.id ≡ d.message
    pub had : AllHad now.lists ys mail.args
    pub held : (w : World) → AllOf (IsHeld script honest w b now) mail.args
    pub host : ℕ
    pub aim : Name
    pub known : Bool
    pub place : refs.place (names script b) now (refs.follow (names script b) now (Ref n)) ≡ Away host aim known
    pub passed : Passeds Name
    pub came_to : Vat Name
    pub run : refs.pass_all (names script b) host mail.args now ≡ Gives passed came_to
    pub alike : RefersAlike (names script b) now (put_out (names script b) mail host aim passed came_to)
    pub waited : Waited (names script b) (put_out (names script b) mail host aim passed came_to) u

  -- The message is nowhere, or came to the queue, or is held, or went out.
  pub data IsPlaced (s u : Vat Name) : Type 0 where
    lost_here : M s u → IsPlaced s u
    to_queue : (q : Vat Name) (x : Message Name) → R s q → x.id ≡ d.message → u ≡ record q { queue = q.queue ++ x ∷ [] } → IsPlaced s u
    to_name : (q : Vat Name) (x : Message Name) (p : Name) → R s q → Stays s q → refs.place (names script b) q (refs.follow (names script b) q (Ref n)) ≡ Mine p → x.id ≡ d.message → u ≡ record q { known = state.with_change (names script b) (Hold x) p q.known } → IsPlaced s u
    to_link : GoesOut s u → IsPlaced s u

  -- What the vat came to from s.
  pub record Arrived (s u : Vat Name) : Type 0 where
    pub leads : LeadsOr script honest b s u
    pub placed : IsPlaced s u

module _ (script : Script) (honest : ℕ → Bool) (w : World) (a b : ℕ) (r : Vat Name) (there : slice_get w.vats b ≡ Some r) (way : IsOpenWay honest a b w) (d : Delivery Name) (n : Name) (verb : Words) (ys : Passeds Name) (msg : Msg) (named : d.message ≡ Sent msg)
    (R M : Vat Name → Vat Name → Type 0) (calm : IsCalm (names script b) R) (after : IsAfter (names script b) R M)
    (Had : List (List (Value Name)) → Passed Name → Value Name → Type 0) (AllHad : List (List (Value Name)) → Passeds Name → List (Value Name) → Type 0) (having : IsHaving Had AllHad)
    (before : msg.sender ≡ b → suc msg.number ≤ r.messages) where
  abbrev K : Naming Name Name
  K = names script b

  abbrev St : Vat Name → Vat Name → Type 0
  St s t = Stays script honest b d n ys R M AllHad s t

  abbrev Hd : Vat Name → Value Name → Type 0
  Hd s x = HeldBy script honest b d n ys R M AllHad s x

  abbrev Out : Vat Name → Vat Name → Type 0
  Out s u = GoesOut script honest b d n ys R M AllHad s u

  abbrev Ends : Vat Name → Vat Name → Type 0
  Ends s u = Arrived script honest b d n ys R M AllHad s u

  abbrev Own : Name
  Own = Answer b msg

  stays_on : (s t u : Vat Name) → St s t → St t u → St s u
  stays_on s t u f g = λ z. stays_then script honest z b {s = s} {t = t} {u = u} (f z) (g z)

  -- what is read of a state is where its references lead
  own_leads : (s : Vat Name) (x : Value Name) → LeadsAmid script honest w b s b x ≡ leads_in script honest b s x
  unfolding leads leads_at amid
  own_leads s x = ap (λ o. leads_at script honest b o x) (get_put w.vats b r s there)

  grown_or : (s t : Vat Name) → Grown script honest w b s t → LeadsOr script honest b s t
  grown_or s t g x = inl (sym (own_leads t x) ∙ g.leading b x ∙ own_leads s x)

  alike_or : (s t : Vat Name) → RefersAlike K s t → LeadsOr script honest b s t
  alike_or s t g x = inl ((refers_same script honest b s t g).leading x)

  placed_from : (s t u : Vat Name) → R s t → St s t → IsPlaced script honest b d n ys R M AllHad t u → IsPlaced script honest b d n ys R M AllHad s u
  placed_from s t u f g (lost_here h) = lost_here (after.trans (after.calm f) h)
  placed_from s t u f g (to_queue q x h e i) = to_queue q x (calm.trans f h) e i
  placed_from s t u f g (to_name q x p h st at e i) = to_name q x p (calm.trans f h) (stays_on s t q g st) at e i
  placed_from s t u f g (to_link o) = to_link (record {
    now = o.now;
    rel = calm.trans f o.rel;
    stays = stays_on s t o.now g o.stays;
    target = o.target;
    mail = o.mail;
    id = o.id;
    had = o.had;
    held = o.held;
    host = o.host;
    aim = o.aim;
    known = o.known;
    place = o.place;
    passed = o.passed;
    came_to = o.came_to;
    run = o.run;
    alike = o.alike;
    waited = o.waited;
  })

  ends_map : (s t : Vat Name) (e : Done Name (Unit {0})) → Ready script honest w b s → R s t → St s t → IfGives (Ends t) e → IfGives (Ends s) e
  ends_map s t (Gives x u) ready f g h = record { leads = leads_or_then script honest b s t u (grown_or s t (g w ready).1) h.leads; placed = placed_from s t u f g h.placed }
  ends_map s t other ready f g h = tt

  waited_or : (t u : Vat Name) → Waited K t u → LeadsOr script honest b t u
  waited_or t u no_wait = λ x. inl refl
  waited_or t u (waits_for g m z k e f) = grown_or t u (waits_grown script honest w b t (Answer g m) z k e f (loose_answer script honest w b r there t g m k e f))

  -- ---- what passes refers alike

  abbrev Alike : Vat Name → Vat Name → Type 0
  Alike s t = RefersAlike K s t

  same_refers : (s t : Vat Name) → t.known ≡ s.known → t.number ≡ s.number → t.gifts ≡ s.gifts → t.noticed ≡ s.noticed → Alike s t
  same_refers s t e f g h = alike_same K s t e f g h

  alike_kept : IsKept Alike
  alike_kept = record {
    same = λ s. same_refers s s refl refl refl refl;
    trans = λ {s} {t} {u} f g. refers_then K s t u f g;
    fuel = λ s k. same_refers s (record s { fuel = s.fuel - k }) refl refl refl refl;
    happened = λ s e. same_refers s (record s { happened = s.happened ++ e ∷ [] }) refl refl refl refl;
    activations = λ s. same_refers s (record s { activations = suc s.activations }) refl refl refl refl;
    thing = λ s t. same_refers s (record s { things = s.things ++ t ∷ [] }) refl refl refl refl;
    killed = λ s k. same_refers s (record s { things = state.change state.dead k s.things }) refl refl refl refl;
    slot = λ s c. same_refers s (record s { slots = s.slots ++ c ∷ [] }) refl refl refl refl;
    written = λ s k x. same_refers s (record s { slots = state.change (state.holding x) k s.slots }) refl refl refl refl;
    list = λ s xs. same_refers s (record s { lists = s.lists ++ xs ∷ [] }) refl refl refl refl;
  }

  alike_told : (h : ℕ) (o : Name) → Keeps Alike (alter K (ToTell h) o)
  unfolding alter
  alike_told h o = record { after = λ s. (change_adds K (ToTell h) o tt s).alike }

  alike_gift : (h : ℕ) (o : Name) → Keeps {N = Name} {A = Passed Name} Alike (draw K >>= (λ i. send_out h (Open i o) >> give (AGift h i)))
  unfolding draw ◌>>=◌ ◌>>◌ and_then send_out give draws
  alike_gift h o = record { after = λ s. go s (drawn_at zero (K.word (length s.drawn)) s.drawn) }
    where
      go : (s : Vat Name) (k : Option ℕ) → After {N = Name} {A = Passed Name} Alike s (and_then (draws (K.word (length s.drawn)) k s) (λ i. send_out h (Open i o) >> give (AGift h i)))
      go s (Some i) = same_refers s s refl refl refl refl
      go s None = let c = K.word (length s.drawn) in same_refers s (record s { drawn = s.drawn ++ c ∷ []; outbox = s.outbox ++ record { to = h; note = Open (key s.number c) o } ∷ [] }) refl refl refl refl

  passes_alike : (h : ℕ) (xs : List (Value Name)) → Keeps Alike (refs.pass_all K h xs)
  passes_alike h xs = keeps_pass_all K Alike alike_kept alike_told alike_gift h xs

  held_then : (s t : Vat Name) → R s t → (z : World) (x : Value Name) → IsHeld script honest z b s x → IsHeld script honest z b t x
  held_then s t f z x i = learnt.held_on script honest z b r b msg R calm Had AllHad having s t f x i

  all_held_then : (s t : Vat Name) → R s t → (z : World) (xs : List (Value Name)) → AllOf (IsHeld script honest z b s) xs → AllOf (IsHeld script honest z b t) xs
  all_held_then s t f z xs i = learnt.all_held_on script honest z b r b msg R calm Had AllHad having s t f xs i

  puts_alike : (to : ℕ) (o : Note Name) → Keeps {N = Name} {A = Unit {0}} Alike (send_out to o)
  unfolding send_out
  puts_alike to o = record { after = λ s. same_refers s (record s { outbox = s.outbox ++ record { to = to; note = o } ∷ [] }) refl refl refl refl }

  informs_alike : (p : Name) (hs : List ℕ) → Keeps Alike (each (refs.inform K p) hs)
  informs_alike p hs = informs_each K Alike alike_kept (λ to y. keeps_pass K Alike alike_kept alike_told alike_gift to y) puts p hs
    where
      puts : (to : ℕ) (o : Note Name) → LetsNothingGo o → Keeps {N = Name} {A = Unit {0}} Alike (send_out to o)
      puts to o i = puts_alike to o

  -- ---- it goes out

  record Delivered (x : Message Name) (h : ℕ) (q : Name) (s t : Vat Name) : Type 0 where
    passed : Passeds Name
    came_to : Vat Name
    run : refs.pass_all K h x.args s ≡ Gives passed came_to
    is : t ≡ put_out K x h q passed came_to
    alike : Alike s t

  delivers : (x : Message Name) (h : ℕ) (q : Name) (s : Vat Name) → IfGives (Delivered x h q s) (refs.deliver K x h q s)
  unfolding refs.deliver ◌>>=◌ ◌>>◌ and_then tell send_out
  delivers x h q s = go (refs.pass_all K h x.args s) refl ((passes_alike h x.args).after s)
    where
      go : (e : Done Name (Passeds Name)) → refs.pass_all K h x.args s ≡ e → After Alike s e → IfGives (Delivered x h q s) (and_then e (λ zs. tell (Posted h x.id) >> send_out h (Deliver (refs.delivery_of K x) q x.verb zs)))
      go (Gives zs t) e g = record { passed = zs; came_to = t; run = e; is = refl; alike = refers_then K s t (put_out K x h q zs t) g (same_refers t (put_out K x h q zs t) refl refl refl refl) }
      go other e g = tt

  -- what it has as it is sent on
  record Has (s : Vat Name) (args : List (Value Name)) : Type 0 where
    target : Hd s (Ref n)
    had : AllHad s.lists ys args
    held : (z : World) → AllOf (IsHeld script honest z b s) args

  -- where it is sent on, it goes to another vat
  abbrev Far : ℕ → Name → Vat Name → Type 0
  Far h q s = (o : Bool) × (refs.place K s (refs.follow K s (Ref n)) ≡ Away h q o)

  abbrev Lead : Vat Name → Place
  Lead s = LeadsAmid script honest w b s b (Ref n)

  far_by : (h : ℕ) (q : Name) (s : Vat Name) → Hd s (Ref n) → Lead s ≡ End (Way b h) q → Far h q s
  far_by h q s known e = aimed_back b h q (refs.follow K s (Ref n)) (refs.place K s (refs.follow K s (Ref n))) (sym (leads_there script honest w b r s there (Ref n) (known w)) ∙ e)

  answer_none : (m : Msg) → Answer b msg ≡ Sent m → ⊥
  answer_none m e = cc

  module _ (x : Message Name) (id : x.id ≡ d.message) (h : ℕ) (q : Name) where
    goes : (s : Vat Name) (z : Option Name) → Has s x.args → Far h q s → (t u : Vat Name) → Delivered (record x { answer = z }) h q s t → Waited K t u → Out s u
    goes s z has at t u f g = record {
      now = s;
      rel = calm.same s;
      stays = λ k. stays_self script honest k b s;
      target = has.target;
      mail = record x { answer = z };
      id = id;
      had = has.had;
      held = has.held;
      host = h;
      aim = q;
      known = at.0;
      place = at.1;
      passed = f.passed;
      came_to = f.came_to;
      run = f.run;
      alike = subst (λ v. RefersAlike K s v) f.is f.alike;
      waited = subst (λ v. Waited K v u) f.is g;
    }

    goes_without : (s : Vat Name) → x.answer ≡ None → Has s x.args → Far h q s → IfGives (Ends s) (refs.pass_on K x h q s)
    unfolding refs.pass_on for_some
    goes_without s none has at =
        subst (λ z. IfGives (Ends s) (for_some z (λ p. come K (IsAnswer h x.id) h >>= (λ z. refs.deliver K (record x { answer = Some z }) h q >> refs.wait_on K p z)) (refs.deliver K x h q) s)) (sym none)
        (less (refs.deliver K x h q s) (delivers x h q s))
      where
        less : (e : Done Name (Unit {0})) → IfGives (Delivered x h q s) e → IfGives (Ends s) e
        less (Gives y t) g = record { leads = alike_or s t g.alike; placed = to_link (goes s x.answer has at t t g no_wait) }
        less other g = tt

    -- with its next answer, once that is known
    waits_on_next : (s : Vat Name) (z : Name) (k : Known Name) → refs.entry_of K s.known Own ≡ Some k → k.standing ≡ Unsettled → Has s x.args → Far h q s
        → IfGives (Ends s) (and_then (refs.deliver K (record x { answer = Some z }) h q s) (λ _. refs.wait_on K Own z))
    unfolding and_then refs.wait_on ◌>>◌ tell alter
    waits_on_next s z k e i has at = go (refs.deliver K (record x { answer = Some z }) h q s) (delivers (record x { answer = Some z }) h q s)
      where
        go : (c : Done Name (Unit {0})) → IfGives (Delivered (record x { answer = Some z }) h q s) c → IfGives (Ends s) (and_then c (λ _. refs.wait_on K Own z))
        go (Gives y t) g = let j = some_alike Own (refs.entry_of K s.known Own) (refs.entry_of K t.known Own) k (g.alike.entries Own) e in let o = waits_for b msg z j.0 j.1 (j.2 ∙ i) in record { leads = leads_or_then script honest b s t _ (alike_or s t g.alike) (waited_or t _ o); placed = to_link (goes s (Some z) has at t _ g o) }
        go other g = tt

    next_known : (s : Vat Name) (k : Known Name) → Ready script honest w b s → s.messages ≡ r.messages → refs.entry_of K s.known Own ≡ Some k → k.standing ≡ Unsettled → Has s x.args → Lead s ≡ End (Way b h) q
        → IfGives (Ends s) (and_then (refs.deliver K (record x { answer = Some (Answer h msg) }) h q (record s { known = s.known ++ begun (Answer h msg) h ∷ [] })) (λ _. refs.wait_on K Own (Answer h msg)))
    unfolding host_of
    next_known s k ready count e i has lead =
        ends_map s t (and_then (refs.deliver K (record x { answer = Some z }) h q t) (λ _. refs.wait_on K Own z)) ready (calm.comes s z h (answer_host h msg)) stays
        (waits_on_next t z k (old_entry K s.known (begun z h) k Own e) i later (far_by h q t later.target ((stays w ready).1.leading b (Ref n) ∙ lead)))
      where
        z : Name
        z = Answer h msg

        t : Vat Name
        t = record s { known = s.known ++ begun z h ∷ [] }

        stays : St s t
        stays = λ c. learning.come_stays script honest c b s z (λ o. o) (Root 0) (sending.next_answer script honest w a b r there way d n verb ys msg named s h (λ f. subst (λ m. suc msg.number ≤ m) (sym count) (before f)))

        later : Has t x.args
        later = record { target = λ c. held_then s t (calm.comes s z h (answer_host h msg)) c (Ref n) (has.target c); had = has.had; held = λ c. all_held_then s t (calm.comes s z h (answer_host h msg)) c x.args (has.held c) }

    goes_with : (s : Vat Name) (k : Known Name) → x.answer ≡ Some Own → Ready script honest w b s → s.messages ≡ r.messages → refs.entry_of K s.known Own ≡ Some k → k.standing ≡ Unsettled → Has s x.args → Lead s ≡ End (Way b h) q → IfGives (Ends s) (refs.pass_on K x h q s)
    unfolding refs.pass_on for_some ◌>>=◌ ◌>>◌ come names naming name_of answer_of refs.deliver refs.wait_on and_then tell alter
    goes_with s k asks ready count e i has lead =
        subst (λ o. IfGives (Ends s) (for_some o (λ p. come K (IsAnswer h x.id) h >>= (λ z. refs.deliver K (record x { answer = Some z }) h q >> refs.wait_on K p z)) (refs.deliver K x h q) s)) (sym asks)
        (subst (λ i. IfGives (Ends s) (and_then (refs.deliver K (record x { answer = Some (answer_of h i) }) h q (record s { known = s.known ++ begun (answer_of h i) h ∷ [] })) (λ _. refs.wait_on K Own (answer_of h i)))) (sym (id ∙ named)) (next_known s k ready count e i has lead))

  -- ---- it is sent on

  module _ (s : Vat Name) (ready : Ready script honest w b s) (count : s.messages ≡ r.messages) (args : List (Value Name)) (has : Has s args) (answer : Option Name) (asked : (p : Name) → answer ≡ Some p → (p ≡ Own) × ((k : Known Name) × IsFresh K b s Own k × IsAlone K s.known Own)) where
    abbrev Mail : Message Name
    Mail = record { id = d.message; target = Ref n; verb = verb; args = args; answer = answer }

    abbrev To : Value Name
    To = refs.follow K s (Ref n)

    abbrev settles : Settler {N = Name} {W = Name} K
    settles = refs.settle K

    abbrev Told : Vat Name
    Told = record s { happened = s.happened ++ Lost d.message ∷ [] }

    lost_then : (e : Done Name (Unit {0})) (t : Vat Name) → M s t → LeadsOr script honest b s t → IfGives (λ u. M t u) e → After Alike t e → IfGives (Ends s) e
    lost_then (Gives x u) t f l h g = record { leads = leads_or_then script honest b s t u l (alike_or t u g); placed = lost_here (after.trans f h) }
    lost_then other t f l h g = tt

    told_or : LeadsOr script honest b s Told
    told_or = alike_or s Told (same_refers s Told refl refl refl refl)

    told_lone : IsAlone K s.known Own → IsAlone K Told.known Own
    told_lone i = i

    broken : (p : Words) (k : Known Name) → IsFresh K b s Own k → IsAlone K s.known Own → IfGives (Ends s) (refs.settle K Own (Broken p) Told)
    broken p k fresh alone = subst (λ e. IfGives (Ends s) e) (sym (settles_so K b Told Own p told))
        (lost_then (each (refs.inform K Own) k.told (Broke K Told Own p)) (Broke K Told Own p) (after.trans (after.lost s d.message) (after.calm (calm.breaks Told Own p b k told)))
        (leads_or_then script honest b s Told (Broke K Told Own p) told_or (breaks_lead script honest b Told Own p told (told_lone alone) (λ o. o) tt ready.number (record { objects = ready.ends.objects; fixed = ready.ends.fixed })))
        (after.informs (Broke K Told Own p) Own k.told) ((informs_alike Own k.told).after (Broke K Told Own p)))
      where
        told : IsFresh K b Told Own k
        told = record { found = fresh.found; unsettled = fresh.unsettled; held = fresh.held; waiting = fresh.waiting; reactions = fresh.reactions; hosted = fresh.hosted }

    sent_lost : (p : Words) (o : Option Name) → answer ≡ o → IfGives (Ends s) (refs.send_to K settles Mail To (Gone p) s)
    unfolding refs.send_to ◌>>◌ and_then tell for_some give
    sent_lost p None e = subst (λ o. IfGives (Ends s) (for_some o (λ z. settles z (Broken p)) (give tt) Told)) (sym e) (record { leads = told_or; placed = lost_here (after.lost s d.message) })
    sent_lost p (Some z) e = let k = asked z e in subst (λ o. IfGives (Ends s) (for_some o (λ z. settles z (Broken p)) (give tt) Told)) (sym (e ∙ ap (λ z. Some z) k.0)) (broken p k.1.0 k.1.1 k.1.2)

    out_by : (h : ℕ) (q : Name) → Lead s ≡ End (Way b h) q → (o : Option Name) → answer ≡ o → IfGives (Ends s) (refs.pass_on K Mail h q s)
    out_by h q lead None e = goes_without Mail refl h q s e has (far_by h q s has.target lead)
    out_by h q lead (Some p) e = let k = asked p e in goes_with Mail refl h q s k.1.0 (e ∙ ap (λ z. Some z) k.0) ready count k.1.1.found k.1.1.unsettled has lead

    away_end : (h : ℕ) (q : Name) (o : Bool) → aimed b To (Away h q o) ≡ End (Way b h) q
    unfolding aimed
    away_end h q o = refl

    sent_to : (p : refs.Place Name) → refs.place K s To ≡ p → IfGives (Ends s) (refs.send_to K settles Mail To p s)
    unfolding refs.send_to enqueue alter
    sent_to Near e = record { leads = alike_or s (record s { queue = s.queue ++ record Mail { target = To } ∷ [] }) (same_refers s (record s { queue = s.queue ++ record Mail { target = To } ∷ [] }) refl refl refl refl); placed = to_queue s (record Mail { target = To }) (calm.same s) refl refl }
    sent_to (Mine q) e = record { leads = alike_or s (record s { known = state.with_change K (Hold (record Mail { target = To })) q s.known }) (change_adds K (Hold (record Mail { target = To })) q tt s).alike; placed = to_name s (record Mail { target = To }) q (calm.same s) (λ k. stays_self script honest k b s) e refl refl }
    sent_to (Away h q o) e = out_by h q (leads_there script honest w b r s there (Ref n) (has.target w) ∙ ap (λ p. aimed b To p) e ∙ away_end h q o) answer refl
    sent_to (Gone p) e = sent_lost p answer refl

    sends : IfGives (Ends s) (refs.send_on K settles Mail s)
    unfolding refs.send_on ◌>>=◌ and_then look
    sends = sent_to (refs.place K s To) refl

  -- ---- with an answer or without, once the note was learnt

  module _ (s : Vat Name) (ks : List Name) (ready : Ready script honest w b s) (at : IsAt script honest w b r b msg ks s) (args : List (Value Name)) (has : Has s args) where
    abbrev Came : Vat Name
    Came = record s { known = s.known ++ begun Own b ∷ [] }

    abbrev ToldOf : Vat Name
    ToldOf = record Came { known = state.with_change K (ToTell a) Own Came.known }

    tells : AddsOnly K Came ToldOf
    tells = change_adds K (ToTell a) Own tt Came

    told_stays : St s ToldOf
    unfolding host_of
    told_stays = λ c. stays_then script honest c b {s = s} {t = Came} {u = ToldOf} (learning.come_stays script honest c b s Own (λ o. o) (Root 0) (sending.next_answer script honest w a b r there way d n verb ys msg named s b (λ f. subst (λ m. suc msg.number ≤ m) (sym at.1) (before f))))
        (stays_quiet script honest c b Came ToldOf (tells, refl, refl, refl))

    told_rel : R s ToldOf
    told_rel = calm.trans (calm.comes s Own b (answer_host b msg)) (calm.tells Came a Own)

    came_found : refs.entry_of K Came.known Own ≡ Some (begun Own b)
    came_found = new_entry K s.known (begun Own b) Own at.4 ∙ alone_self script b Own b tt

    told_fresh : IsFresh K b ToldOf Own (state.changed (ToTell a) (begun Own b))
    unfolding state.changed state.unless_settled state.changed_to begun
    told_fresh = record {
      found = entry_changed K Own (ToTell a) Came.known (begun Own b) came_found;
      unsettled = refl;
      held = refl;
      waiting = refl;
      reactions = refl;
      hosted = refl;
    }

    told_alone : IsAlone K ToldOf.known Own
    unfolding host_of
    told_alone = still_alone K Came ToldOf Own tells.alike (came_alone script honest b s Own ready.ends (λ o. o) at.4)

    told_has : Has ToldOf args
    told_has = record { target = λ c. held_then s ToldOf told_rel c (Ref n) (has.target c); had = has.had; held = λ c. all_held_then s ToldOf told_rel c args (has.held c) }

    no_answer : (p : Name) → None ≡ Some p → ⊥
    no_answer p e = cc

    own_answer : (p : Name) → Some Own ≡ Some p → p ≡ Own
    own_answer p e = cc

    answered : IfGives (Ends s) (arrive.send_on_asked K a d.message n verb args s)
    unfolding arrive.send_on_asked ◌>>=◌ ◌>>◌ and_then look come alter names naming name_of answer_of
    answered = subst (λ v. IfGives (Ends s) (refs.send_on K (refs.settle K) (record { id = d.message; target = Ref n; verb = verb; args = args; answer = Some (answer_of v d.message) }) (record s { known = state.with_change K (ToTell a) (answer_of v d.message) (s.known ++ begun (answer_of v d.message) v ∷ []) }))) (sym ready.number)
        (subst (λ i. IfGives (Ends s) (refs.send_on K (refs.settle K) (record { id = d.message; target = Ref n; verb = verb; args = args; answer = Some (answer_of b i) }) (record s { known = state.with_change K (ToTell a) (answer_of b i) (s.known ++ begun (answer_of b i) b ∷ []) }))) (sym named)
        (ends_map s ToldOf (refs.send_on K (refs.settle K) (record { id = d.message; target = Ref n; verb = verb; args = args; answer = Some Own }) ToldOf) ready told_rel told_stays
        (sends ToldOf (told_stays w ready).0 at.1 args told_has (Some Own) (λ p e. (own_answer p e, (state.changed (ToTell a) (begun Own b), told_fresh, told_alone))))))

    alone : IfGives (Ends s) (refs.send_on K (refs.settle K) (record { id = d.message; target = Ref n; verb = verb; args = args; answer = None }) s)
    alone = sends s ready at.1 args has None (λ p e. absurd (no_answer p e))

    either : (c : Bool) → IfGives (Ends s) ((if c then arrive.send_on_asked K a d.message n verb args else refs.send_on K (refs.settle K) (record { id = d.message; target = Ref n; verb = verb; args = args; answer = None })) s)
    either true = answered
    either false = alone

  -- ---- the whole arrival

  all_yield : {I A : Type 0} (P : I → A → Vat Name → Type 0) (e : Done Name A) → ((i : I) → Yields (P i) e) → Yields (λ x t. (i : I) → P i x t) e
  all_yield P (Gives x t) f = f
  all_yield P other f = tt

  two_yield : {A : Type 0} (P Q : A → Vat Name → Type 0) (e : Done Name A) → Yields P e → Yields Q e → Yields (λ x t. P x t × Q x t) e
  two_yield P Q (Gives x t) f g = (f, g)
  two_yield P Q other f g = tt

  to_ends : (s : Vat Name) (e : Done Name (Unit {0})) → Yields (λ x u. Ends s u) e → IfGives (Ends s) e
  to_ends s (Gives x u) h = h
  to_ends s other h = tt

  from_ends : (s : Vat Name) (e : Done Name (Unit {0})) → IfGives (Ends s) e → Yields (λ x u. Ends s u) e
  from_ends s (Gives x u) h = h
  from_ends s other h = tt

  module _ (s : Vat Name) (ready : Ready script honest w b s) (start : IsAt script honest w b r b msg (names_in r.known) s) (target : IsNotNext b r Own n) (all : AllNotNext b r Own (names_in r.known) ys) where
    abbrev Ns : List Name
    Ns = names_in r.known

    abbrev Ms : List Name
    Ms = (world.read_all ys Ns).known

    abbrev Ks : List Name
    Ks = world.known_after Ms n

    abbrev Act0 : Name → Name → List (Value Name) → Act Name (Unit {0})
    Act0 id m args = if d.asks then arrive.send_on_asked K a id m verb args else refs.send_on K (refs.settle K) (record { id = id; target = Ref m; verb = verb; args = args; answer = None })

    abbrev Learns : World → Vat Name → List Name → Vat Name → Type 0
    Learns z t ns u = learning.Learns script honest z b r b msg t ns u

    -- what holds once the arguments are learnt
    record Args (xs : List (Value Name)) (t : Vat Name) : Type 0 where
      rel : R s t
      stays : St s t
      at : IsAt script honest w b r b msg Ms t
      had : AllHad t.lists ys xs
      held : (z : World) → AllOf (IsHeld script honest z b t) xs

    named_then : (xs : List (Value Name)) (t : Vat Name) → Args xs t → (id : Name) → id ≡ d.message → Yields (λ x u. Ends s u) (and_then (arrive.learn_name K (world.read_name Ms n) t) (λ m. Act0 id m xs))
    named_then xs t g id e = yields_bind (λ m u. ((m ≡ n) × R t u × IsAt script honest w b r b msg Ks u × IsHeld script honest w b u (Ref n)) × ((z : World) → (m ≡ n) × Learns z t Ks u)) (λ x u. Ends s u) (arrive.learn_name K (world.read_name Ms n) t) (λ m. Act0 id m xs)
        (two_yield (λ m u. (m ≡ n) × R t u × IsAt script honest w b r b msg Ks u × IsHeld script honest w b u (Ref n)) (λ m u. (z : World) → (m ≡ n) × Learns z t Ks u) (arrive.learn_name K (world.read_name Ms n) t)
        (learnt.name_learnt script honest w b r b msg R calm Had AllHad having t Ms n target g.at)
        (all_yield (λ z m u. (m ≡ n) × Learns z t Ks u) (arrive.learn_name K (world.read_name Ms n) t) (λ z. learning.learn_name script honest z b r b msg t Ms n target g.at)))
        (λ m u h. subst (λ k. Yields (λ x v. Ends s v) (Act0 id k xs u)) (sym h.0.0) (subst (λ i. Yields (λ x v. Ends s v) (Act0 i n xs u)) (sym e)
        (from_ends s (Act0 d.message n xs u) (ends_map s u (Act0 d.message n xs u) ready (calm.trans g.rel h.0.1) (stays_on s t u g.stays (λ z. (h.1 z).1.0))
        (either u Ks (stays_on s t u g.stays (λ z. (h.1 z).1.0) w ready).0 h.0.2 xs (record {
          target = λ z. same_held u z h.0.3;
          had = subst (λ ls. AllHad ls ys xs) (sym (calm.more h.0.1).1) (having.all_later t.lists (calm.more h.0.1).0 ys xs g.had);
          held = λ z. all_held_then t u h.0.1 z xs (g.held z);
        }) d.asks)))))
      where
        same_held : (u : Vat Name) (z : World) → IsHeld script honest w b u (Ref n) → IsHeld script honest z b u (Ref n)
        same_held u z i = i

    args_then : (t : Vat Name) → R s t → St s t → IsAt script honest w b r b msg Ns t → (id : Name) → id ≡ d.message → Yields (λ x u. Ends s u) (and_then (arrive.learn_all K a (world.read_all ys Ns).read t) (λ xs. arrive.learn_name K (world.read_name Ms n) >>= (λ m. Act0 id m xs)))
    unfolding ◌>>=◌
    args_then t f g at id e = yields_bind Args (λ x u. Ends s u) (arrive.learn_all K a (world.read_all ys Ns).read t) (λ xs. arrive.learn_name K (world.read_name Ms n) >>= (λ m. Act0 id m xs))
        (map_yield (λ xs u. ((z : World) → learnt.AllLearnt script honest z b r b msg R calm Had AllHad having t Ms ys xs u) × ((z : World) → Learns z t Ms u)) Args (arrive.learn_all K a (world.read_all ys Ns).read t)
        (two_yield (λ xs u. (z : World) → learnt.AllLearnt script honest z b r b msg R calm Had AllHad having t Ms ys xs u) (λ xs u. (z : World) → Learns z t Ms u) (arrive.learn_all K a (world.read_all ys Ns).read t)
        (all_yield (λ z xs u. learnt.AllLearnt script honest z b r b msg R calm Had AllHad having t Ms ys xs u) (arrive.learn_all K a (world.read_all ys Ns).read t) (λ z. learnt.all_learnt script honest z b r b msg R calm Had AllHad having t Ns a ys all at))
        (all_yield (λ z xs u. Learns z t Ms u) (arrive.learn_all K a (world.read_all ys Ns).read t) (λ z. learning.learn_all script honest z b r b msg t Ns a ys all at)))
        (λ xs u h. record { rel = calm.trans f (h.0 w).rel; stays = stays_on s t u g (λ z. (h.1 z).0); at = (h.1 w).1; had = (h.0 w).had; held = λ z. (h.0 z).held }))
        (λ xs u h. named_then xs u h id e)

    pub arrives : IfGives (Ends s) (arrive.arrive K a (read_note Ns (Deliver d n verb ys)) s)
    unfolding arrive.arrive arrive.arrive_deliver read_note ◌>>=◌ and_then arrive.learn_message mail names naming mail_of
    arrives = to_ends s _ (args_then Mailed (calm.mails s d.message) mailed start d.message refl)
      where
        Mailed : Vat Name
        Mailed = record s { mails = s.mails ++ d.message ∷ [] }

        mailed : St s Mailed
        mailed = λ z. stays_quiet script honest z b s Mailed (Rattle.law_order.proofs.Ordering.Adds.adds_nothing K s Mailed refl refl refl refl refl refl, refl, refl, refl)
