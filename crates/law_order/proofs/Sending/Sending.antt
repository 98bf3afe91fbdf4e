-- In the middle of a step of a run a vat can send what it has in hand.
use Rattle.std.proofs.Common.{◌≡◌, ℕ, zero, suc, Bool, true, false, List, [], ◌∷◌, ◌++◌, Some, None, length, refl, sym, subst, ◌∙◌, ◌⊎◌, inl, inr, arith}
use Rattle.std.specs.Prelude.{slice_get}
use Rattle.def_machine.specs.Values.{Words, Value, Null, Flag, Number, Letter, Text, Prim, Broken, Items, Ref, Name, Answer, Sent, Naming, host_of}
use Rattle.def_machine.specs.State.{Message, Known, Unsettled, Vat, begun}
use Rattle.def_machine.specs.Refs as refs
use Rattle.def_machine.specs.Refs.{Gone, entry_of, standing_of, answer_host}
use Rattle.def_run.specs.World.{Script, Event, World, names}
use Rattle.law_machine.specs.Machine.Laws.{SettledStays}
use Rattle.law_machine.specs.Run.Moves.{went}
use Rattle.law_fate.specs.Name.Names.{AllOf, IsAmong, HostIsTrue}
use Rattle.law_fate.proofs.Name.Facts.{all_end}
use Rattle.law_fate.proofs.Name.Run.{Stands}
use Rattle.law_fate.proofs.Fates.Links.{AllLinked}
use Rattle.law_order.specs.Ordering.Ways.{Way, End}
use Rattle.law_order.specs.Ordering.Worlds.{IsObject}
use Rattle.law_order.specs.Ordering.Messages.{StandsAt}
use Rattle.law_order.specs.Ordering.Order.{comes}
use Rattle.law_order.specs.Ordering.Steps.{WaysAmid, LeadsAmid, Ready, StaysReady, IsHeld}
use Rattle.law_order.proofs.Ordering.Adds.{stays_quiet, adds_nothing}
use Rattle.law_order.proofs.Ordering.Coming.{old_entry}
use Rattle.law_order.proofs.Ordering.News.{stays_then, messaged, lone_messaged}
use Rattle.law_order.specs.History.Lines.{was_sent, was_taken}
use Rattle.law_order.specs.History.Passings.{CanPass}
use Rattle.law_order.specs.History.Sends.{lone_message, lone_numbered, asking_message, asking_numbered, CanSend}
use Rattle.law_order.specs.History.Told.{IsOfRun}
use Rattle.law_order.specs.Sending.Came.{Agrees, HoldsMembers}
use Rattle.law_order.specs.Sending.New.{AreNextNew, Counted, IsBegun}
use Rattle.law_order.proofs.Sending.Came.{what_is_sent_came}
use Rattle.law_order.proofs.Sending.New.{next_messages_are_new}
use Rattle.law_order.proofs.Sending.Passing.{AllMeet, FarNamesRest, can_pass, no_objects}
use Rattle.law_order.proofs.Sending.Views.{ViewsRest, views_no_list}

-- what is known of a world that a run comes to
pub record Around (script : Script) (w : World) : Type 0 where
  pub of_run : IsOfRun script w
  pub stands : Stands script w
  pub linked : AllLinked (length script.vats) w.links
  pub meet : AllMeet w
  pub far : FarNamesRest script w

module _ (script : Script) (honest : ℕ → Bool) (everyone : (u : ℕ) → honest u ≡ true) (w : World) (around : Around script w) (v : ℕ) (head : List Event) (came : Name → ℕ) (r q : Vat Name) (begins : IsBegun w v head came r q) where
  abbrev K : Naming Name Name
  K = names script v

  -- Vat v came to s in its step. What it knows is followed to an end, what it has agrees with what the history of the run tells by any time, and it has all members of its lists in hand.
  pub record Having (s : Vat Name) : Type 0 where
    pub ready : Ready script honest w v s
    pub agrees : Agrees script v s
    pub views : ViewsRest script v s.known
    pub members : HoldsMembers script honest w v s
    pub settled : SettledStays K r s
    pub hosts : AllOf HostIsTrue s.known
    pub drawn : (x : ℕ) → IsAmong x w.drawn → IsAmong x s.drawn

  module _ (s : Vat Name) (h : Having s) where
    -- to each other vat what it has in hand can pass
    pub passes : (g : ℕ) (t : Vat Name) → (g ≡ v → ⊥) → slice_get w.vats g ≡ Some t → CanPass script honest w v g t s
    passes g t other there = can_pass script honest w around.stands around.meet around.far v r begins.found s h.ready h.settled h.hosts h.drawn g t other there

  new : (s : Vat Name) → Counted w v came q s → AreNextNew script honest w v head s
  new s c = next_messages_are_new script honest w around.of_run v head came r q s begins c

  vats_sound : (u : ℕ) (t : Vat Name) → slice_get w.vats u ≡ Some t → (t.number ≡ u) × ((o : Name) → IsObject o → entry_of (names script u) t.known o ≡ None)
  vats_sound u t e = let stand = around.stands.vats u t e in let kept = stand.kept in (kept.number, λ o i. no_objects script u t.known kept.apart o i)

  -- the message m is sent on a value in hand that is not broken and leads to a vat that is there; t is the vat once it is numbered
  module _ (s t : Vat Name) (m : Message Name) (counted : Counted w v came q s) (h : Having s) (g : Having t) (id : m.id ≡ Sent (record { sender = v; number = s.messages })) (hand : IsHeld script honest w v s m.target) (unbroken : (p : Words) → refs.place K s (refs.follow K s m.target) ≡ Gone p → ⊥)
      (there : (u : ℕ) (n : Name) → LeadsAmid script honest w v s v m.target ≡ End (Way v u) n → (x : Vat Name) × (slice_get w.vats u ≡ Some x)) (args : AllOf (IsHeld script honest w v t) m.args) where
    pub can_send : CanSend script honest w v head s t m
    unfolding went
    can_send = let z = new s counted in let told = z.told in record {
      everyone = everyone;
      vat = r;
      found = begins.found;
      ready = h.ready;
      hand = hand;
      unbroken = unbroken;
      vats = vats_sound;
      there = there;
      passes = λ u x other e. passes t g u x other e;
      came = λ u d done so. what_is_sent_came script honest w v u t g.agrees (views_no_list script v t g.views) g.members m.args args d done so;
      unsent = subst (λ x. was_sent x (went v w head s).history ≡ false) (sym id) (told.unsent s.messages (omega arith));
      untaken = subst (λ x. was_taken x (went v w head s).history ≡ false) (sym id) (told.untaken s.messages (omega arith));
      uncome = λ u. subst (λ x. comes u x zero (went v w head s).history ≡ None) (sym id) (told.uncome u s.messages (omega arith));
      nowhere = λ l b n k. z.nowhere s.messages (omega arith) l b n (subst (λ x. StandsAt (WaysAmid script honest w v s) x l b n) id k);
    }

  -- ---- once the message is numbered

  module _ (act : ℕ) (s : Vat Name) (x : Value Name) (verb : Words) (args : List (Value Name)) (h : Having s) where
    abbrev Lone : Message Name
    Lone = lone_message v s x verb args

    abbrev LoneTold : Vat Name
    LoneTold = lone_numbered act s Lone

    lone_stays : StaysReady script honest w v s LoneTold
    lone_stays = let t : Vat Name = record s { messages = suc s.messages; mails = s.mails ++ Lone.id ∷ [] } in
        stays_then script honest w v (lone_messaged script honest w v s) (stays_quiet script honest w v t LoneTold (adds_nothing K t LoneTold refl refl refl refl refl refl, refl, refl, refl))

    lone_having : Having LoneTold
    lone_having = let a = h.agrees in record { ready = (lone_stays h.ready).0; agrees = record { lists = a.lists; settled = a.settled }; views = h.views; members = h.members; settled = h.settled; hosts = h.hosts; drawn = h.drawn }

    abbrev Host : ℕ
    Host = answer_host K s.number (refs.place K s (refs.follow K s x))

    abbrev Asking : Message Name
    Asking = asking_message v Host s x verb args

    abbrev AskingTold : Vat Name
    AskingTold = asking_numbered v act Host s Asking

    abbrev New : Known Name
    New = begun (Answer Host (record { sender = v; number = s.messages })) Host

    asking_stays : StaysReady script honest w v s AskingTold
    asking_stays = let t : Vat Name = record s { messages = suc s.messages; mails = s.mails ++ Asking.id ∷ []; known = s.known ++ New ∷ [] } in
        stays_then script honest w v (messaged script honest w v s Host) (stays_quiet script honest w v t AskingTold (adds_nothing K t AskingTold refl refl refl refl refl refl, refl, refl, refl))

    -- its answer stands as a name that is not known
    same_standing : (ks : List (Known Name)) (n : Name) → standing_of K (ks ++ New ∷ []) n ≡ standing_of K ks n
    unfolding standing_of refs.standing_in entry_of begun
    same_standing [] n = go (K.same New.name n)
      where
        go : (b : Bool) → refs.standing_in (elim b [ true ↦ Some New | false ↦ None ]) ≡ Unsettled
        go true = refl
        go false = refl
    same_standing (k ∷ ks) n = go (K.same k.name n) (same_standing ks n)
      where
        go : (b : Bool) → refs.standing_in (entry_of K (ks ++ New ∷ []) n) ≡ refs.standing_in (entry_of K ks n) → refs.standing_in (elim b [ true ↦ Some k | false ↦ entry_of K (ks ++ New ∷ []) n ]) ≡ refs.standing_in (elim b [ true ↦ Some k | false ↦ entry_of K ks n ])
        go true e = refl
        go false e = e

    name_held : (n : Name) → IsObject n ⊎ ((k : Known Name) × (entry_of K s.known n ≡ Some k)) → IsObject n ⊎ ((k : Known Name) × (entry_of K (s.known ++ New ∷ []) n ≡ Some k))
    name_held n (inl i) = inl i
    name_held n (inr k) = inr (k.0, old_entry K s.known New k.0 n k.1)

    held_on : (y : Value Name) → IsHeld script honest w v s y → IsHeld script honest w v AskingTold y
    held_on (Ref n) i = name_held n i
    held_on Null i = tt
    held_on (Flag b) i = tt
    held_on (Number b) i = tt
    held_on (Letter b) i = tt
    held_on (Text b) i = tt
    held_on (Prim b) i = tt
    held_on (Broken b) i = tt
    held_on (Items b) i = tt

    all_held : (ys : List (Value Name)) → AllOf (IsHeld script honest w v s) ys → AllOf (IsHeld script honest w v AskingTold) ys
    all_held [] i = tt
    all_held (y ∷ ys) i = (held_on y i.0, all_held ys i.1)

    asking_having : Having AskingTold
    unfolding host_of begun
    asking_having = let a = h.agrees in let z = h.views in let ks = s.known in record {
      ready = (asking_stays h.ready).0;
      agrees = record { lists = a.lists; settled = λ done so n k y i e. a.settled done so n k y i (sym (same_standing ks n) ∙ e) };
      views = record {
        views = λ n g k e f. z.views n g k (sym (same_standing ks n) ∙ e) (sym (same_standing ks g) ∙ f);
        last = λ n y e. z.last n y (sym (same_standing ks n) ∙ e);
        objects = λ n i. same_standing ks n ∙ z.objects n i;
      };
      members = λ k vs e. all_held vs (h.members k vs e);
      settled = λ n k y e f. old_entry K ks New k n (h.settled n k y e f);
      hosts = all_end HostIsTrue ks New h.hosts refl;
      drawn = h.drawn;
    }

    module _ (counted : Counted w v came q s) (hand : IsHeld script honest w v s x) (unbroken : (p : Words) → refs.place K s (refs.follow K s x) ≡ Gone p → ⊥)
        (there : (u : ℕ) (n : Name) → LeadsAmid script honest w v s v x ≡ End (Way v u) n → (y : Vat Name) × (slice_get w.vats u ≡ Some y)) (held : AllOf (IsHeld script honest w v s) args) where
      -- a send without an answer, and one with an answer
      pub can_send_lone : CanSend script honest w v head s LoneTold Lone
      can_send_lone = can_send s LoneTold Lone counted h lone_having refl hand unbroken there held

      pub can_send_asking : CanSend script honest w v head s AskingTold Asking
      can_send_asking = can_send s AskingTold Asking counted h asking_having refl hand unbroken there (all_held args held)
