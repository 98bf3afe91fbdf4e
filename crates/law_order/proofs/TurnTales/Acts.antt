-- What a turn does in the middle of its step, act by act, as small steps.
use Rattle.std.proofs.Common.{◌≡◌, ℕ, zero, suc, Bool, false, List, [], ◌∷◌, ◌++◌, Some, None, refl, sym, ap, ◌∙◌, subst, inl}
use Rattle.std.proofs.lemmas.List.{append-nil}
use Rattle.std.specs.Prelude.{slice_get}
use Rattle.def_machine.specs.Values.{Words, Value, Name, Promise, Sent, IsOwn, Naming, naming, name_of}
use Rattle.def_machine.specs.State.{Message, Passeds, Delivery, Note, Happened, Sends, Lost, Vat, Done, Gives, begun, come}
use Rattle.def_machine.specs.Refs as refs
use Rattle.def_machine.specs.Refs.{Gone, entry_of}
use Rattle.def_run.specs.World as world
use Rattle.def_run.specs.World.{Script, Event, World, names, link_at}
use Rattle.law_fate.specs.Name.Names.{AllOf}
use Rattle.law_machine.specs.Run.Moves.{went}
use Rattle.law_order.specs.Ordering.Ways.{Lane, Queue, Held, Way, Item, Nowhere, Doom, nowhere, doomed_there}
use Rattle.law_order.specs.Ordering.Messages.{StandsAt}
use Rattle.law_order.specs.Ordering.Places.{queued, held_in, aimed, stands_at, ways, ways_of, amid}
use Rattle.law_order.specs.Ordering.Worlds.{IfGives}
use Rattle.law_order.specs.Ordering.Steps.{WaysAmid, LeadsAmid, Ready, Grown, IsHeld}
use Rattle.law_order.specs.Ordering.Order.{comes}
use Rattle.law_order.proofs.Ordering.Adds.{adds_nothing, grown_adds}
use Rattle.law_order.proofs.Ordering.News.{promised}
use Rattle.law_order.proofs.Ordering.Sent.{leads_there}
use Rattle.law_order.specs.History.Lines.{was_sent, was_taken}
use Rattle.law_order.specs.History.Befores.{Brings}
use Rattle.law_order.specs.History.Sends.{CanSend, lone_message, lone_numbered, asking_message, asking_numbered}
use Rattle.law_order.specs.History.Takes.{taken_state}
use Rattle.law_order.specs.History.Tells.{SmallStep, Tale, over, then_on}
use Rattle.law_order.proofs.History.ReactStep.{reactions_are_small_steps}
use Rattle.law_order.proofs.History.Same.{same_worlds}
use Rattle.law_order.proofs.History.SendLaws.{sends_are_small_steps}
use Rattle.law_order.proofs.History.SentStep.{send_step, none_came}
use Rattle.law_order.proofs.History.TakeStep.{takes_are_small_steps}
use Rattle.law_order.specs.Tales.Middle.{middle, IsQuietLine, MovesNone}
use Rattle.law_order.proofs.Tales.Middle.{at_vat, events_quiet, growing_is_small}
use Rattle.law_order.proofs.Tales.Stilling.{base, still, still_come}

gives_at : {A : Type 0} (P : Vat Name → Type 0) (d : Done Name A) (a : A) (t : Vat Name) → d ≡ Gives a t → IfGives P d → P t
gives_at P d a t e h = subst (λ r. IfGives P r) e h

module _ (script : Script) (honest : ℕ → Bool) (w : World) (v : ℕ) (head : List Event) where
  abbrev K : Naming Name Name
  K = names script v

  abbrev M : Vat Name → World
  M s = middle w v head s

  abbrev pub Goes : Vat Name → Vat Name → Type 0
  Goes s t = Tale script honest (middle w v head s) (middle w v head t)

  -- A world that the vat went to, and the one in the middle of its step, differ in nothing that counts.
  into : (s : Vat Name) → SmallStep script honest (went v w head s) (M s)
  unfolding went
  into s = same_worlds script honest (went v w head s) (M s) [] refl refl (sym (append-nil (M s).history)) tt

  out_of : (s : Vat Name) → SmallStep script honest (M s) (went v w head s)
  unfolding went
  out_of s = same_worlds script honest (M s) (went v w head s) [] refl refl (sym (append-nil (M s).history)) tt

  pub goes_by : (s t : Vat Name) → SmallStep script honest (went v w head s) (went v w head t) → Goes s t
  goes_by s t h = then_on {y = went v w head s} (out_of s) (then_on {y = went v w head t} h (then_on (into t) over))

  -- ---- what touches no name and no message

  -- From s to t nothing changed but fuel, things, slots, lists and counts, and quiet lines were told.
  pub record IsQuietly (s t : Vat Name) : Type 0 where
    pub known : t.known ≡ s.known
    pub number : t.number ≡ s.number
    pub gifts : t.gifts ≡ s.gifts
    pub noticed : t.noticed ≡ s.noticed
    pub queue : t.queue ≡ s.queue
    pub outbox : t.outbox ≡ s.outbox
    pub lines : List (Happened Name)
    pub happened : t.happened ≡ s.happened ++ lines
    pub quiet : AllOf IsQuietLine lines

  pub quiet_goes : (s t : Vat Name) → IsQuietly s t → Goes s t
  quiet_goes s t q = then_on (growing_is_small script honest w v head s t
      (grown_adds script honest w v s t (adds_nothing K s t q.known q.number q.gifts q.noticed q.queue q.outbox))
      (record { queue = q.queue; held = λ n. ap (λ ks. held_in n (entry_of K ks n)) q.known; puts = []; outbox = q.outbox ∙ sym (append-nil s.outbox); none = tt; lines = q.lines; happened = q.happened; quiet = q.quiet })) over

  -- ---- a new promise

  module _ (s : Vat Name) (ready : Ready script honest w v s) where
    abbrev Promised : Vat Name
    Promised = record s { promises = suc s.promises; known = s.known ++ begun (Promise v s.promises) s.number ∷ [] }

    abbrev Known_then : Vat Name
    Known_then = record s { known = s.known ++ begun (Promise v s.promises) s.number ∷ [] }

    came : MovesNone K s Known_then
    unfolding come begun names naming name_of
    came = (still_come K (IsOwn s.promises) s.number).after s

    moves : MovesNone K s Promised
    moves = (base K).trans {s = s} {t = Known_then} {u = Promised} came (still K Known_then Promised refl (λ n. refl) refl refl)

    pub promise_goes : Goes s Promised
    promise_goes = then_on (growing_is_small script honest w v head s Promised (promised script honest w v s ready).1 moves) over

  -- ---- a message is taken, and an object reacts

  pub take_goes : (act : ℕ) (r s : Vat Name) (m : Message Name) (ms : List (Message Name)) → slice_get w.vats v ≡ Some r → s.queue ≡ m ∷ ms → Goes s (taken_state act m ms s)
  take_goes act r s m ms at e = goes_by s (taken_state act m ms s) (takes_are_small_steps script honest w v act head r s m ms at e)

  pub react_goes : (act : ℕ) (r s t : Vat Name) (x o near a : Value Name) → slice_get w.vats v ≡ Some r → Ready script honest w v s
      → was_sent (Sent (record { sender = v; number = s.messages })) (M s).history ≡ false → refs.react K act x o near s ≡ Gives a t → Goes s t
  unfolding went
  react_goes act r s t x o near a at ready new e = goes_by s t (gives_at (λ u. SmallStep script honest (went v w head s) (went v w head u)) (refs.react K act x o near s) a t e (reactions_are_small_steps script honest w v act head r s x o near at ready new))

  -- ---- a send

  module _ (act : ℕ) (s t : Vat Name) (x : Value Name) (verb : Words) (args : List (Value Name)) (a : Value Name) where
    abbrev Small : Vat Name → Type 0
    Small u = SmallStep script honest (went v w head s) (went v w head u)

    abbrev Host : ℕ
    Host = refs.answer_host K s.number (refs.place K s (refs.follow K s x))

    pub send_goes : CanSend script honest w v head s (asking_numbered v act Host s (asking_message v Host s x verb args)) (asking_message v Host s x verb args) → refs.send K act x verb args s ≡ Gives a t → Goes s t
    send_goes can e = goes_by s t (gives_at Small (refs.send K act x verb args s) a t e ((sends_are_small_steps script honest w v act head s x verb args).1 can))

    pub send_only_goes : CanSend script honest w v head s (lone_numbered act s (lone_message v s x verb args)) (lone_message v s x verb args) → refs.send_only K act x verb args s ≡ Gives a t → Goes s t
    send_only_goes can e = goes_by s t (gives_at Small (refs.send_only K act x verb args s) a t e ((sends_are_small_steps script honest w v act head s x verb args).0 can))

  -- A message that is sent on what is broken: it is numbered, its line is told, and that it is lost. It is nowhere from then on.
  module _ (act : ℕ) (r s t : Vat Name) (m : Message Name) (p : Words) (at : slice_get w.vats v ≡ Some r) (hand : IsHeld script honest w v s m.target) (gone : refs.place K s (refs.follow K s m.target) ≡ Gone p)
      (grown : Grown script honest w v s t) (queue : t.queue ≡ s.queue) (held : (n : Name) → held_in n (entry_of K t.known n) ≡ held_in n (entry_of K s.known n)) (outbox : t.outbox ≡ s.outbox) (lines : t.happened ≡ s.happened ++ (Sends act m ∷ Lost m.id ∷ []))
      (unsent : was_sent m.id (M s).history ≡ false) (untaken : was_taken m.id (M s).history ≡ false) (uncome : (u : ℕ) → comes u m.id zero (M s).history ≡ None) (stands : (l : Lane) (b : List Item) (n : Name) → StandsAt (WaysAmid script honest w v s) m.id l b n → ⊥) where
    leads_nowhere : LeadsAmid script honest w v s v m.target ≡ Nowhere
    unfolding aimed
    leads_nowhere = leads_there script honest w v r s at m.target hand ∙ ap (aimed v (refs.follow K s m.target)) gone

    abbrev To : World
    To = went v w head t

    abbrev From : World
    From = went v w head s

    same_links : world.push_all v t.outbox w.links ≡ world.push_all v s.outbox w.links
    same_links = ap (λ ps. world.push_all v ps w.links) outbox

    stand_same : (l : Lane) → (WaysAmid script honest w v t).stands l ≡ (WaysAmid script honest w v s).stands l
    unfolding amid ways ways_of stands_at
    stand_same (Queue u) = at_vat (λ z. queued z.queue) [] v u s t w.vats (λ e. ap queued queue)
    stand_same (Held u n) = at_vat (λ z. held_in n (entry_of (names script u) z.known n)) [] v u s t w.vats (λ e. subst (λ z. held_in n (entry_of (names script z) t.known n) ≡ held_in n (entry_of (names script z) s.known n)) (sym e) (held n))
    stand_same (Way a b) = ap (λ ls. stands_at script honest (world.put_at v t w.vats) ls (Way a b)) same_links

    brought : (u g : ℕ) (front : List (Note Name)) (d : Delivery Name) (n : Name) (ys : Passeds Name) → Brings To u g front d n ys → Brings From u g front d n ys
    unfolding went
    brought u g front d n ys b = record { link = b.link; found = ap (λ ls. link_at u g ls) (sym same_links) ∙ b.found; verb = b.verb; rest = b.rest; notes = b.notes }

    pub lost_goes : Goes s t
    unfolding went
    lost_goes = goes_by s t (send_step script honest w v act head s t m (record {
      grown = grown;
      after = Lost m.id ∷ [];
      happened = lines;
      quiet = events_quiet w.links v (Lost m.id ∷ []) (tt, tt);
      comes_there = λ l. none_came (stand_same l);
      notes = λ u g front d n ys b. inl (brought u g front d n ys b);
      ahead = doomed_there (subst (Doom (WaysAmid script honest w v t)) (sym leads_nowhere) nowhere);
      unsent = unsent;
      untaken = untaken;
      uncome = uncome;
      nowhere = stands;
    }))
