-- Events print alike under two maps of keys and by two lists of words, where each gift in them does.
use Rattle.std.proofs.Common.{◌≡◌, ℕ, Bool, true, false, List, [], ◌∷◌, Option, Some, None, refl, ap, ◌∙◌, map, option_map}
use Rattle.def_event.specs.declared.shown.Shown.{Shown}
use Rattle.def_event.specs.declared.shown.Shown as shown
use Rattle.def_event.specs.Lines.{members}
use Rattle.ev_base.specs.declared.names.Msg.{Msg as ShownMsg}
use Rattle.ev_base.specs.declared.names.Name.{Name as ShownName}
use Rattle.def_machine.specs.Values.{Value, Ref, Name, Gift, Sent}
use Rattle.def_machine.specs.State.{Bound, Fixed, Slot, Message, Passed, Passeds, Plain, AGift, Many, NoMore, More, Note, Deliver, Open, Ask, SettledTo, Elsewhere, Shorten, Happened, Took, Called, Back, Got, SlotMade, SlotRead, SlotWrote, ListMade, ListCame, EjectorMade, AuditionMade, PromiseMade, ObjectMade, Sends, Reacts, Finished, Settles, Waits, Views, Lost}
use Rattle.def_machine.specs.Maps as maps
use Rattle.def_run.specs.World.{Event, Carried, Here, LostCut, LeftQueue, LeftHeld, LeftWait, LeftLink}
use Rattle.def_hostile.specs.ShownMarks.{shown_name, shown_msg, shown_value, shown_values, shown_slot, shown_capture, shown_passed, shown_all, shown_delivery, shown_note, shown_send, shown_reaction, shown_happened, shown_event, shown_gift}
use Rattle.ev_claims.specs.Telling.{told, told_passed, told_all, told_note, told_event}
use Rattle.law_named_lines.specs.Gifts.{InName, InAnswer, InValue, InValues, InPassed, InAll, InNote, InMessage, InBound, InBounds, InHappened, InEvent}

module _ (d e : List ℕ) (f g : ℕ → ℕ → ℕ) (P : ℕ → ℕ → Type 0) (agree : (h i : ℕ) → P h i → shown_gift d h (f h i) ≡ shown_gift e h (g h i)) where
  name_alike : (n : Name) → InName P n → shown_name d (told f n) ≡ shown_name e (told g n)
  unfolding told shown_name InName
  name_alike (Gift h i) k = agree h i k
  name_alike other k = refl

  sent_alike : (n : Name) → shown_msg d (told f n) ≡ shown_msg e (told g n)
  unfolding told shown_msg
  sent_alike (Sent m) = refl
  sent_alike other = refl

  msg_alike : (n : Name) → shown_msg d n ≡ shown_msg e n
  unfolding shown_msg
  msg_alike (Sent m) = refl
  msg_alike other = refl

  value_alike : (v : ℕ) (y : Value Name) → InValue P y → shown_value d v (maps.value (told f) y) ≡ shown_value e v (maps.value (told g) y)
  unfolding shown_value InValue
  value_alike v (Ref n) k = ap (λ m. shown.Name m) (name_alike n k)
  value_alike v other k = refl

  mutual
    unfolding shown_passed shown_all told_passed told_all InPassed InAll

    passed_alike : (y : Passed Name) → InPassed P y → shown_passed d (told_passed f y) ≡ shown_passed e (told_passed g y)
    passed_alike (Plain y) k = value_alike 0 y k
    passed_alike (AGift h i) k = ap (λ m. shown.Name m) (agree h i k)
    passed_alike (Many ys) k = ap (λ zs. members zs) (all_alike ys k)

    all_alike : (ys : Passeds Name) → InAll P ys → shown_all d (told_all f ys) ≡ shown_all e (told_all g ys)
    all_alike NoMore k = refl
    all_alike (More y ys) k = cc (passed_alike y k.0, all_alike ys k.1)

  by_asking : (b : Bool) (m : ShownMsg) (x : ShownName) (verb : List ℕ) (ys : List Shown) → shown_delivery d b m x verb ys ≡ shown_delivery e b m x verb ys
  unfolding shown_delivery
  by_asking true m x verb ys = refl
  by_asking false m x verb ys = refl

  note_alike : (w : ℕ) (n : Note Name) → InNote P w n → shown_note d w (told_note f w n) ≡ shown_note e w (told_note g w n)
  unfolding shown_note told_note InNote
  note_alike w (Deliver m n verb ys) k = ap (λ x. shown_delivery d m.asks x (shown_name d (told f n)) verb (shown_all d (told_all f ys))) (msg_alike m.message)
      ∙ ap (λ x. shown_delivery d m.asks (shown_msg e m.message) x verb (shown_all d (told_all f ys))) (name_alike n k.0)
      ∙ ap (λ x. shown_delivery d m.asks (shown_msg e m.message) (shown_name e (told g n)) verb x) (all_alike ys k.1)
      ∙ by_asking m.asks (shown_msg e m.message) (shown_name e (told g n)) verb (shown_all e (told_all g ys))
  note_alike w (Open i n) k = cc (agree w i k.0, name_alike n k.1)
  note_alike w (Ask p i n) k = cc (name_alike n k)
  note_alike w (SettledTo n y) k = cc (name_alike n k.0, passed_alike y k.1)
  note_alike w (Elsewhere n c) k = cc (name_alike n k)
  note_alike w (Shorten n c i) k = cc (name_alike n k.0, agree c i k.1)

  -- ---- lines

  module _ (v : ℕ) where
    values_alike : (ys : List (Value Name)) → InValues P ys → shown_values d v (map (maps.value (told f)) ys) ≡ shown_values e v (map (maps.value (told g)) ys)
    unfolding shown_values InValues
    values_alike [] k = refl
    values_alike (y ∷ ys) k = cc (value_alike v y k.0, values_alike ys k.1)

    capture_alike : (b : Bound Name) → InBound P b → shown_capture d v (maps.bound (told f) b) ≡ shown_capture e v (maps.bound (told g) b)
    unfolding shown_capture InBound
    capture_alike (Fixed y z) k = value_alike v y k
    capture_alike (Slot j) k = refl

    captures_alike : (bs : List (Bound Name)) → InBounds P bs → map (shown_capture d v) (map (maps.bound (told f)) bs) ≡ map (shown_capture e v) (map (maps.bound (told g)) bs)
    unfolding InBounds
    captures_alike [] k = refl
    captures_alike (b ∷ bs) k = cc (capture_alike b k.0, captures_alike bs k.1)

    send_alike : (a : ℕ) (m : Message Name) (o : Option Name) → InMessage P m → InAnswer P o → shown_send d v a (maps.message (told f) m) (option_map (told f) o) ≡ shown_send e v a (maps.message (told g) m) (option_map (told g) o)
    unfolding shown_send InMessage InAnswer
    send_alike a m (Some n) k j = cc (sent_alike m.id, value_alike v m.target k.0, values_alike m.args k.1, name_alike n j)
    send_alike a m None k j = cc (sent_alike m.id, value_alike v m.target k.0, values_alike m.args k.1)

    reaction_alike : (a : ℕ) (x o : Value Name) (m : Message Name) (p : Option Name) → InValue P x → InValue P o → InAnswer P p
        → shown_reaction d v a (maps.value (told f) x) (maps.value (told f) o) (maps.message (told f) m) (option_map (told f) p) ≡ shown_reaction e v a (maps.value (told g) x) (maps.value (told g) o) (maps.message (told g) m) (option_map (told g) p)
    unfolding shown_reaction InAnswer
    reaction_alike a x o m (Some n) k j l = cc (sent_alike m.id, value_alike v x k, value_alike v o j, name_alike n l)
    reaction_alike a x o m None k j l = refl

    line_alike : (h : Happened Name) → InHappened P h → shown_happened d v (maps.line (told f) h) ≡ shown_happened e v (maps.line (told g) h)
    unfolding shown_happened shown_slot InHappened InMessage
    line_alike (Took a m) k = cc (sent_alike m.id, value_alike v m.target k.0, values_alike m.args k.1)
    line_alike (Called a x verb args b) k = cc (value_alike v x k.0, values_alike args k.1)
    line_alike (Back a x) k = cc (value_alike v x k)
    line_alike (Got a x) k = cc (value_alike v x k)
    line_alike (SlotMade a j x) k = cc (value_alike v x k)
    line_alike (SlotRead a j x) k = cc (value_alike v x k)
    line_alike (SlotWrote a j x) k = cc (value_alike v x k)
    line_alike (ListMade a j xs) k = cc (values_alike xs k)
    line_alike (ListCame j xs) k = cc (values_alike xs k)
    line_alike (EjectorMade a n) k = cc (name_alike n k)
    line_alike (AuditionMade a n) k = cc (name_alike n k)
    line_alike (PromiseMade a p r) k = cc (name_alike p k.0, name_alike r k.1)
    line_alike (ObjectMade a n x caps stamps) k = cc (name_alike n k.0, captures_alike caps k.1, values_alike stamps k.2)
    line_alike (Sends a m) k = cc (send_alike a m m.answer k.0 k.1)
    line_alike (Reacts a x o m) k = reaction_alike a x o m m.answer k.0 k.1 k.2
    line_alike (Finished a x) k = cc (value_alike v x k)
    line_alike (Settles n x) k = cc (name_alike n k.0, value_alike v x k.1)
    line_alike (Waits p q) k = cc (name_alike p k.0, name_alike q k.1)
    line_alike (Views p q) k = cc (name_alike p k.0, name_alike q k.1)
    line_alike (Lost m) k = cc (sent_alike m)
    line_alike other k = refl

  pub event_alike : (x : Event) → InEvent P x → shown_event d (told_event f x) ≡ shown_event e (told_event g x)
  unfolding shown_event told_event InEvent
  event_alike (Carried k v u n bytes) j = cc (note_alike u n j)
  event_alike (Here v h) j = line_alike v h j
  event_alike (LostCut m) j = cc (msg_alike m)
  event_alike (LeftQueue v m) j = cc (msg_alike m)
  event_alike (LeftHeld v n m) j = cc (name_alike n j, msg_alike m)
  event_alike (LeftWait v n m) j = cc (name_alike n j, msg_alike m)
  event_alike (LeftLink v u n) j = cc (note_alike u n j)
  event_alike other j = refl
