-- Lines in which a message is not sent and not carried have nothing of it.
use Rattle.std.proofs.Common.{◌≡◌, ℕ, ◌+◌, Bool, true, false, List, [], ◌∷◌, ◌++◌, Option, Some, None, refl, sym, ap, ◌∙◌, subst, arith, inl, inr, ◌==◌, ◌&&◌, if◌then◌else◌}
use Rattle.std.proofs.lemmas.Bool.{eqb-true, eq-eqb}
use Rattle.ev_base.specs.declared.names.Msg.{Msg as ShownMsg}
use Rattle.ev_base.specs.declared.names.Name.{Name as ShownName}
use Rattle.def_event.specs.declared.shown.Shown.{Shown}
use Rattle.def_event.specs.declared.event.Event.{Event as ShownEvent}
use Rattle.def_event.specs.declared.event.Event.TheVariants as event
use Rattle.def_machine.specs.Values.{Value, Name, Sent, Msg, same_name}
use Rattle.def_machine.specs.State.{Message, Happened, Sends, Reacts, Posted, Note, Deliver, Open}
use Rattle.def_machine.specs.Values.{Words}
use Rattle.def_run.specs.World.{Event, Here, Carried}
use Rattle.def_run.specs.Shown as show
use Rattle.def_run.specs.Text.{shown_events}
use Rattle.law_uses.specs.Connectivity.Known.{IsAmong}
use Rattle.law_fate.specs.Fates.Fate.{once, one, total, sent_by, sent_here, of_note, in_note}
use Rattle.law_fate.specs.Fates.Carry.{carried_by}
use Rattle.def_event.specs.Uses.{AName, all_parts, had, carried_with, delivered_with, delivered, sent_with, of_message, same_message, or_else, first_of, last_of}
use Rattle.law_uses.proofs.Uses.Lines.{last_join, first_join}

-- ---- messages by their names

abbrev pub IsMail : Name → Type 0
IsMail n = (m : Msg) × (n ≡ Sent m)

both : (a b : Bool) → (a && b) ≡ true → (a ≡ true) × (b ≡ true)
both true b e = (refl, e)
both false b e = cc

and_true : (a b : Bool) → a ≡ true → b ≡ true → (a && b) ≡ true
and_true true b e f = f
and_true false b e f = cc

one_none : (b : Bool) → once b ≡ 0 → b ≡ true → ⊥
unfolding once
one_none true e f = cc
one_none false e f = cc

not_true : (b : Bool) → (b ≡ true → ⊥) → b ≡ false
not_true true f = absurd (f refl)
not_true false f = refl

-- a message that is another is shown as another
other_message : (m n : Msg) → one (Sent n) (Sent m) ≡ 0 → same_message (show.msg_of m) (show.msg_of n) ≡ false
unfolding one same_name show.msg_of
other_message m n e = not_true _ (λ f. let h = both (m.sender == n.sender) (m.number == n.number) f in
    one_none _ e (and_true (n.sender == m.sender) (n.number == m.number) (eq-eqb n.sender m.sender (sym (eqb-true m.sender n.sender h.0))) (eq-eqb n.number m.number (sym (eqb-true m.number n.number h.1)))))

pub same_message_self : (i : ShownMsg) → same_message i i ≡ true
same_message_self i = and_true (i.sender == i.sender) (i.number == i.number) (eq-eqb i.sender i.sender refl) (eq-eqb i.number i.number refl)

of_none : {A : Type 0} (i n : ShownMsg) (x : A) → same_message i n ≡ false → of_message i n x ≡ None
of_none i n x e = ap (λ b. if b then Some x else None) e

pub of_some : {A : Type 0} (i n : ShownMsg) (x : A) → same_message i n ≡ true → of_message i n x ≡ Some x
of_some i n x e = ap (λ b. if b then Some x else None) e

abbrev pub HappenedMails : Happened Name → Type 0
HappenedMails (Sends a m) = IsMail m.id
HappenedMails (Reacts a x o m) = IsMail m.id
HappenedMails _ = Unit {0}

abbrev pub NoteMails : Note Name → Type 0
NoteMails (Deliver d n verb ys) = IsMail d.message
NoteMails other = Unit {0}

abbrev pub Mails : Event → Type 0
Mails (Here v e) = HappenedMails e
Mails (Carried k v w n bytes) = NoteMails n
Mails _ = Unit {0}

module _ (draws : List ℕ) (m : Msg) where
  abbrev I : ShownMsg
  I = show.msg_of m

  abbrev X : Name
  X = Sent m

  other : (n : Name) → IsMail n → one n X ≡ 0 → same_message I (show.shown_msg draws n) ≡ false
  unfolding show.shown_msg
  other n k e = subst (λ z. same_message I (show.shown_msg draws z) ≡ false) (sym k.1) (other_message m k.0 (subst (λ z. one z X ≡ 0) k.1 e))

  -- nothing of the message
  abbrev pub Quiet : List ShownEvent → Type 0
  Quiet fs = (last_of (had I) fs ≡ None) × (last_of (carried_with I) fs ≡ None) × (first_of (sent_with I) fs ≡ None)

  quiet_join : (es fs : List ShownEvent) → Quiet es → Quiet fs → Quiet (es ++ fs)
  quiet_join es fs h k = (
    last_join (had I) es fs ∙ ap (λ o. or_else o (last_of (had I) es)) k.0 ∙ h.0,
    last_join (carried_with I) es fs ∙ ap (λ o. or_else o (last_of (carried_with I) es)) k.1 ∙ h.1,
    first_join (sent_with I) es fs ∙ ap (λ o. or_else o (first_of (sent_with I) fs)) h.2 ∙ k.2,
  )

  first_none : {A : Type 0} (n : Name) (x : A) → IsMail n → one n X ≡ 0 → or_else (of_message I (show.shown_msg draws n) x) None ≡ None
  first_none n x k e = ap (λ o. or_else o None) (of_none I (show.shown_msg draws n) x (other n k e))

  send_quiet : (v a : ℕ) (n : Message Name) (o : Option Name) → IsMail n.id → one n.id X ≡ 0 → Quiet (show.shown_send draws v a n o ∷ [])
  unfolding show.shown_send had carried_with sent_with
  send_quiet v a n (Some p) k e = (of_none I (show.shown_msg draws n.id) _ (other n.id k e), refl, first_none n.id _ k e)
  send_quiet v a n None k e = (of_none I (show.shown_msg draws n.id) _ (other n.id k e), refl, first_none n.id _ k e)

  reaction_quiet : (v a : ℕ) (x y : Value Name) (n : Message Name) (o : Option Name) → IsMail n.id → one n.id X ≡ 0 → Quiet (show.shown_reaction draws v a x y n o)
  unfolding show.shown_reaction had carried_with sent_with
  reaction_quiet v a x y n (Some p) k e = (refl, refl, first_none n.id _ k e)
  reaction_quiet v a x y n None k e = (refl, refl, refl)

  happened_quiet : (v : ℕ) (e : Happened Name) → HappenedMails e → sent_here X e ≡ 0 → Quiet (show.shown_happened draws v e)
  unfolding show.shown_happened sent_here had carried_with sent_with
  happened_quiet v (Sends a n) k e = send_quiet v a n n.answer k e
  happened_quiet v (Reacts a x o n) k e = reaction_quiet v a x o n n.answer k e
  happened_quiet v (Posted w n) k e = (refl, refl, refl)
  happened_quiet v _ k e = (refl, refl, refl)

  -- what the line of a carried message has
  pub carry_had : (b : Bool) (k v w : ℕ) (i : ShownMsg) (n : ShownName) (verb : Words) (xs : List Shown) → had I (event.Carry k v w (show.shown_delivery draws b i n verb xs)) ≡ of_message I i (AName n ∷ all_parts xs)
  unfolding show.shown_delivery had delivered
  carry_had true k v w i n verb xs = refl
  carry_had false k v w i n verb xs = refl

  pub carry_with : (b : Bool) (k v w : ℕ) (i : ShownMsg) (n : ShownName) (verb : Words) (xs : List Shown) → carried_with I (event.Carry k v w (show.shown_delivery draws b i n verb xs)) ≡ of_message I i (all_parts xs)
  unfolding show.shown_delivery carried_with delivered_with
  carry_with true k v w i n verb xs = refl
  carry_with false k v w i n verb xs = refl

  carried_quiet : (k v w : ℕ) (n : Note Name) (bytes : List ℕ) → NoteMails n → of_note X n ≡ 0 → Quiet (event.Carry k v w (show.shown_note draws w n) ∷ event.Frame bytes ∷ [])
  unfolding show.shown_note of_note in_note had carried_with sent_with delivered delivered_with
  carried_quiet k v w (Deliver d n verb ys) bytes i e = let f = other d.message i e in (
    carry_had d.asks k v w (show.shown_msg draws d.message) (show.shown_name draws n) verb (show.shown_all draws ys) ∙ of_none I (show.shown_msg draws d.message) _ f,
    carry_with d.asks k v w (show.shown_msg draws d.message) (show.shown_name draws n) verb (show.shown_all draws ys) ∙ of_none I (show.shown_msg draws d.message) _ f,
    refl,
  )
  carried_quiet k v w (Open j n) bytes i e = (refl, refl, refl)
  carried_quiet k v w other bytes i e = (refl, refl, refl)

  pub event_quiet : (e : Event) → Mails e → sent_by X e ≡ 0 → carried_by X e ≡ 0 → Quiet (show.shown_event draws e)
  unfolding show.shown_event sent_by carried_by had carried_with sent_with
  event_quiet (Here v e) k s c = happened_quiet v e k s
  event_quiet (Carried j v w n bytes) k s c = carried_quiet j v w n bytes k c
  event_quiet _ k s c = (refl, refl, refl)

  first_zero : (a b : ℕ) → a + b ≡ 0 → a ≡ 0
  first_zero a b e = omega arith

  last_zero : (a b : ℕ) → a + b ≡ 0 → b ≡ 0
  last_zero a b e = omega arith

  pub all_quiet : (es : List Event) → ((e : Event) → IsAmong e es → Mails e) → total (sent_by X) es ≡ 0 → total (carried_by X) es ≡ 0 → Quiet (shown_events draws es)
  unfolding shown_events total
  all_quiet [] k s c = (refl, refl, refl)
  all_quiet (e ∷ es) k s c = quiet_join (show.shown_event draws e) (shown_events draws es) (event_quiet e (k e (inl refl)) (first_zero (sent_by X e) _ s) (first_zero (carried_by X e) _ c))
      (all_quiet es (λ x i. k x (inr i)) (last_zero (sent_by X e) _ s) (last_zero (carried_by X e) _ c))

  -- ---- not carried, whether it is sent or not

  abbrev pub Uncarried : List ShownEvent → Type 0
  Uncarried fs = last_of (carried_with I) fs ≡ None

  send_uncarried : (v a : ℕ) (n : Message Name) (o : Option Name) → Uncarried (show.shown_send draws v a n o ∷ [])
  unfolding show.shown_send carried_with
  send_uncarried v a n (Some p) = refl
  send_uncarried v a n None = refl

  reaction_uncarried : (v a : ℕ) (x y : Value Name) (n : Message Name) (o : Option Name) → Uncarried (show.shown_reaction draws v a x y n o)
  unfolding show.shown_reaction carried_with
  reaction_uncarried v a x y n (Some p) = refl
  reaction_uncarried v a x y n None = refl

  happened_uncarried : (v : ℕ) (e : Happened Name) → Uncarried (show.shown_happened draws v e)
  unfolding show.shown_happened carried_with
  happened_uncarried v (Sends a n) = send_uncarried v a n n.answer
  happened_uncarried v (Reacts a x o n) = reaction_uncarried v a x o n n.answer
  happened_uncarried v (Posted w n) = refl
  happened_uncarried v _ = refl

  event_uncarried : (e : Event) → Mails e → carried_by X e ≡ 0 → Uncarried (show.shown_event draws e)
  unfolding show.shown_event carried_by carried_with
  event_uncarried (Here v e) k c = happened_uncarried v e
  event_uncarried (Carried j v w n bytes) k c = (carried_quiet j v w n bytes k c).1
  event_uncarried _ k c = refl

  pub all_uncarried : (es : List Event) → ((e : Event) → IsAmong e es → Mails e) → total (carried_by X) es ≡ 0 → Uncarried (shown_events draws es)
  unfolding shown_events total
  all_uncarried [] k c = refl
  all_uncarried (e ∷ es) k c = last_join (carried_with I) (show.shown_event draws e) (shown_events draws es)
      ∙ ap (λ o. or_else o (last_of (carried_with I) (show.shown_event draws e))) (all_uncarried es (λ x i. k x (inr i)) (last_zero (carried_by X e) _ c)) ∙ event_uncarried e (k e (inl refl)) (first_zero (carried_by X e) _ c)
