-- A whole send on what is not broken is a small step.
use Rattle.std.proofs.Common.{◌≡◌, ℕ, suc, Bool, true, false, List, [], ◌∷◌, ◌++◌, Some, None, refl, sym, ap, subst, ◌∙◌}
use Rattle.def_machine.specs.Values.{Words, Value, Null, Ref, Name, Answer, Naming, naming, name_of, mail_of, answer_of}
use Rattle.def_machine.specs.State.{Message, Known, Sends, Vat, Done, Gives, ◌>>=◌, ◌>>◌, and_then, give, look, tell, new_message, new_lone_message, begun}
use Rattle.def_machine.specs.Refs as refs
use Rattle.def_machine.specs.Refs.{Place, Near, Mine, Away, Gone}
use Rattle.def_run.specs.World.{Script, Event, World, names}
use Rattle.law_machine.specs.Machine.Steps.{After}
use Rattle.law_machine.specs.Run.Moves.{went}
use Rattle.law_order.specs.Ordering.Ways.{Way, End, Ways, Ahead}
use Rattle.law_order.specs.Ordering.Places.{held_on, held_in, aimed}
use Rattle.law_order.specs.Ordering.Worlds.{IfGives}
use Rattle.law_order.specs.Ordering.Steps.{WaysAmid, LeadsAmid, Grown, StaysReady}
use Rattle.law_order.proofs.Ordering.Adds.{stays_quiet, adds_nothing}
use Rattle.law_order.proofs.Ordering.Coming.{old_entry}
use Rattle.law_order.proofs.Ordering.News.{stays_then, messaged, lone_messaged}
use Rattle.law_order.proofs.Ordering.Sendings.{stays_send, stays_send_only}
use Rattle.law_order.proofs.Ordering.Sent.{leads_there, mine_waits, sends_are_ahead}
use Rattle.law_order.specs.History.Sends.{lone_message, lone_numbered, asking_message, asking_numbered, CanSend, SendsAreSmallSteps}
use Rattle.law_order.specs.History.Tells.{SmallStep}
use Rattle.law_order.proofs.History.Refs.{PlaceOf, own_object, own_name, of_other, place_is}
use Rattle.law_order.proofs.History.SendActs.{Rest, near, mine, away}
use Rattle.law_order.proofs.History.SentStep.{send_step}

then_gives : {A : Type 0} (P : Vat Name → Type 0) (d : Done Name (Unit {0})) (y : A) → IfGives P d → IfGives P (and_then d (λ _. give y))
unfolding and_then give
then_gives P (Gives b t) y h = h
then_gives P other y h = tt

away_other : (script : Script) (v : ℕ) (s : Vat Name) → s.number ≡ v → (y : Value Name) (h : ℕ) (n : Name) (o : Bool) → refs.place (names script v) s y ≡ Away h n o → h ≡ v → ⊥
unfolding refs.place
away_other script v s number (Ref m) h n o e i = go (place_is script v s number m) e
  where
    host_of : Place Name → ℕ
    host_of (Away g k b) = g
    host_of other = h

    go : {p : Place Name} → PlaceOf v m p → p ≡ Away h n o → ⊥
    go (own_object j f) q = cc
    go own_name q = cc
    go (of_other g b far) q = far (sym (ap host_of q ∙ i))
away_other script v s number other h n o e i = cc

module _ (script : Script) (honest : ℕ → Bool) (w : World) (v act : ℕ) (head : List Event) (s q : Vat Name) (m f : Message Name) (can : CanSend script honest w v head s q m) where
  abbrev K : Naming Name Name
  K = names script v

  abbrev Y : Value Name
  Y = refs.follow K s m.target

  abbrev Led : Value Name → Rattle.law_order.specs.Ordering.Ways.Place
  Led x = LeadsAmid script honest w v s v x

  abbrev Rests : Vat Name → Type 0
  Rests t = Rest script honest can.everyone w v act head can.vat can.found s m t

  leads : Led m.target ≡ aimed v Y (refs.place K s Y)
  leads = leads_there script honest w v can.vat s can.found m.target can.hand

  -- the machine's first step of the message, which is numbered and told of
  module _ (stays : StaysReady script honest w v s q) (queue : q.queue ≡ s.queue) (held : (n : Name) → held_in n (refs.entry_of K q.known n) ≡ held_in n (refs.entry_of K s.known n)) (outbox : q.outbox ≡ s.outbox)
      (line : q.happened ≡ s.happened ++ Sends act m ∷ []) (id : f.id ≡ m.id) (args : f.args ≡ m.args) (knows : (n : Name) (k : Known Name) → refs.entry_of K s.known n ≡ Some k → refs.entry_of K q.known n ≡ Some k) where
    first : (p : Place Name) → refs.place K s Y ≡ p → IfGives Rests (refs.send_first K f Y p q)
    unfolding refs.send_first refs.send_to aimed
    first Near e = near script honest can.everyone w v act head can.vat can.found s m q f Y queue held outbox line id (leads ∙ ap (aimed v Y) e)
    first (Mine n) e =
        let k = mine_waits script honest w v s can.ready m.target n can.hand e in
        mine script honest can.everyone w v act head can.vat can.found s m q f Y queue held outbox line id n k.0 (knows n k.0 k.1) k.2 (leads ∙ ap (aimed v Y) e)
    first (Away h n o) e =
        let l : Led m.target ≡ End (Way v h) n = leads ∙ ap (aimed v Y) e in
        let t = can.there h n l in
        let other : (h ≡ v → ⊥) = away_other script v s can.ready.number Y h n o e in
        let z = can.vats h t.0 t.1 in
        away script honest can.everyone w v act head can.vat can.found s m q f Y queue held outbox line id h n t.0 t.1 z.0 other z.1 (can.passes h t.0 other t.1) (stays can.ready).1 args (λ done so d. subst (λ xs. Rattle.law_order.specs.History.Passings.AllCame (λ y x. Rattle.law_order.specs.History.Passings.CameAs script honest w v h d q done y x) (Rattle.law_order.specs.Ordering.Order.plains xs) xs) (sym args) (can.came h d done so)) l
    first (Gone p) e = absurd (can.unbroken p e)

  -- with what the laws of order say it is a small step
  small : (t : Vat Name) → Grown script honest w v s t → Ahead (WaysAmid script honest w v t) m.id (Led m.target) → Rests t → SmallStep script honest (went v w head s) (went v w head t)
  small t g a x = send_step script honest w v act head s t m (record {
    grown = g;
    after = x.after;
    happened = x.happened;
    quiet = x.quiet;
    comes_there = x.comes_there;
    notes = x.notes;
    ahead = a;
    unsent = can.unsent;
    untaken = can.untaken;
    uncome = can.uncome;
    nowhere = can.nowhere;
  })

  all_small : {A : Type 0} (d : Done Name A) → After (StaysReady script honest w v) s d → IfGives (λ t. Ahead (WaysAmid script honest w v t) m.id (Led m.target)) d → IfGives Rests d → IfGives (λ t. SmallStep script honest (went v w head s) (went v w head t)) d
  all_small (Gives y t) r a x = small t (r can.ready).1 a x
  all_small other r a x = tt

module _ (script : Script) (honest : ℕ → Bool) (w : World) (v act : ℕ) (head : List Event) (s : Vat Name) (x : Value Name) (verb : Words) (args : List (Value Name)) where
  abbrev L : Naming Name Name
  L = names script v

  abbrev To : Value Name
  To = refs.follow L s x

  -- ---- without an answer

  abbrev Lone : Message Name
  Lone = lone_message v s x verb args

  lone_stays : StaysReady script honest w v s (lone_numbered act s Lone)
  lone_stays = let t : Vat Name = record s { messages = suc s.messages; mails = s.mails ++ Lone.id ∷ [] } in
      stays_then script honest w v (lone_messaged script honest w v s) (stays_quiet script honest w v t (lone_numbered act s Lone) (adds_nothing L t (lone_numbered act s Lone) refl refl refl refl refl refl, refl, refl, refl))

  abbrev LoneFirst : Message Name
  LoneFirst = record Lone { target = To }

  lone_rests : (can : CanSend script honest w v head s (lone_numbered act s Lone) Lone) → IfGives (Rests script honest w v act head s (lone_numbered act s Lone) Lone LoneFirst can) (refs.send_only L act x verb args s)
  unfolding refs.send_only ◌>>=◌ ◌>>◌ and_then look tell new_lone_message give names naming name_of mail_of answer_of
  lone_rests can = then_gives (Rests script honest w v act head s (lone_numbered act s Lone) Lone LoneFirst can) (refs.send_first L LoneFirst To (refs.place L s To) (lone_numbered act s Lone)) Null
      (first script honest w v act head s (lone_numbered act s Lone) Lone LoneFirst can lone_stays refl (λ n. refl) refl refl refl refl (λ n k e. e) (refs.place L s To) refl)

  lone_small : CanSend script honest w v head s (lone_numbered act s Lone) Lone → IfGives (λ t. SmallStep script honest (went v w head s) (went v w head t)) (refs.send_only L act x verb args s)
  lone_small can = all_small script honest w v act head s (lone_numbered act s Lone) Lone LoneFirst can (refs.send_only L act x verb args s) (stays_send_only script honest w v act x verb args s can.unbroken)
      ((sends_are_ahead script honest w v act x verb args can.vat s can.found (can.everyone v) (λ h n o e. can.everyone h) can.ready can.hand).1) (lone_rests can)

  -- ---- with an answer

  abbrev Host : ℕ
  Host = refs.answer_host L s.number (refs.place L s To)

  abbrev Asking : Message Name
  Asking = asking_message v Host s x verb args

  abbrev AskingFirst : Message Name
  AskingFirst = record Asking { target = To }

  abbrev Numbered : Vat Name
  Numbered = asking_numbered v act Host s Asking

  asking_stays : StaysReady script honest w v s Numbered
  asking_stays = let t : Vat Name = record s { messages = suc s.messages; mails = s.mails ++ Asking.id ∷ []; known = s.known ++ begun (Answer Host (record { sender = v; number = s.messages })) Host ∷ [] } in
      stays_then script honest w v (messaged script honest w v s Host) (stays_quiet script honest w v t Numbered (adds_nothing L t Numbered refl refl refl refl refl refl, refl, refl, refl))

  -- the answer holds nothing
  pub begun_held : (a : Name) (g : ℕ) (ks : List (Known Name)) (n : Name) → held_in n (refs.entry_of L (ks ++ begun a g ∷ []) n) ≡ held_in n (refs.entry_of L ks n)
  unfolding refs.entry_of held_in held_on begun
  begun_held a g [] n = go (L.same a n)
    where
      go : (b : Bool) → held_in n (elim b [ true ↦ Some (begun a g) | false ↦ None ]) ≡ []
      go true = refl
      go false = refl
  begun_held a g (k ∷ ks) n = go (L.same k.name n) (begun_held a g ks n)
    where
      go : (b : Bool) → held_in n (refs.entry_of L (ks ++ begun a g ∷ []) n) ≡ held_in n (refs.entry_of L ks n)
          → held_in n (elim b [ true ↦ Some k | false ↦ refs.entry_of L (ks ++ begun a g ∷ []) n ]) ≡ held_in n (elim b [ true ↦ Some k | false ↦ refs.entry_of L ks n ])
      go true h = refl
      go false h = h

  asking_rests : (can : CanSend script honest w v head s Numbered Asking) → IfGives (Rests script honest w v act head s Numbered Asking AskingFirst can) (refs.send L act x verb args s)
  unfolding refs.send ◌>>=◌ ◌>>◌ and_then look tell new_message give names naming name_of mail_of answer_of
  asking_rests can = then_gives (Rests script honest w v act head s Numbered Asking AskingFirst can) (refs.send_first L AskingFirst To (refs.place L s To) Numbered) (Ref (Answer Host (record { sender = v; number = s.messages })))
      (first script honest w v act head s Numbered Asking AskingFirst can asking_stays refl (λ n. begun_held (Answer Host (record { sender = v; number = s.messages })) Host s.known n) refl refl refl refl
      (λ n k e. old_entry L s.known (begun (Answer Host (record { sender = v; number = s.messages })) Host) k n e) (refs.place L s To) refl)

  asking_small : CanSend script honest w v head s Numbered Asking → IfGives (λ t. SmallStep script honest (went v w head s) (went v w head t)) (refs.send L act x verb args s)
  asking_small can = all_small script honest w v act head s Numbered Asking AskingFirst can (refs.send L act x verb args s) (stays_send script honest w v act x verb args s can.unbroken)
      ((sends_are_ahead script honest w v act x verb args can.vat s can.found (can.everyone v) (λ h n o e. can.everyone h) can.ready can.hand).0) (asking_rests can)

pub sends_are_small_steps : SendsAreSmallSteps
sends_are_small_steps = λ script honest w v act head s x verb args. (λ can. lone_small script honest w v act head s x verb args can, λ can. asking_small script honest w v act head s x verb args can)
