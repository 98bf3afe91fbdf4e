-- Where nothing is claimed, lines are those of a run without hostile vats.
use Rattle.std.proofs.Common.{◌≡◌, ℕ, Bool, true, false, List, [], ◌∷◌, ◌++◌, Option, Some, None, refl, ap, ◌∙◌, map, option_map}
use Rattle.def_event.specs.declared.shown.Shown.{Shown}
use Rattle.def_event.specs.declared.shown.Shown as shown
use Rattle.def_event.specs.declared.event.Event.{Event as ShownEvent}
use Rattle.def_event.specs.Lines.{members}
use Rattle.ev_base.specs.declared.names.Msg.{Msg as ShownMsg}
use Rattle.ev_base.specs.declared.names.Name.{Name as ShownName}
use Rattle.def_machine.specs.Values.{Value, Ref, Name, Gift, Sent}
use Rattle.def_machine.specs.State.{Bound, Fixed, Slot, Message, Passed, Passeds, Plain, AGift, Many, NoMore, More, Note, Deliver, Open, Ask, SettledTo, Elsewhere, Shorten, Happened, Took, Called, Back, Got, SlotMade, SlotRead, SlotWrote, ListMade, ListCame, EjectorMade, AuditionMade, PromiseMade, ObjectMade, Sends, Reacts, Finished, Settles, Waits, Views, Lost}
use Rattle.def_machine.specs.Maps as maps
use Rattle.def_run.specs.Shown.{shown_name, shown_msg, shown_value, shown_values, shown_slot, shown_capture, shown_passed, shown_all, shown_delivery, shown_note, shown_send, shown_reaction, shown_happened, shown_event, shown_gift}
use Rattle.def_run.specs.Text.{shown_events}
use Rattle.def_run.specs.World.{Event, Carried, Here, LostCut, LeftQueue, LeftHeld, LeftWait, LeftLink}
use Rattle.def_hostile.specs.Claims.{is_claimed}
use Rattle.def_hostile.specs.ShownMarks as marks
use Rattle.ev_claims.specs.Statements.{UnclaimedLinesStay}
use Rattle.ev_claims.specs.Telling.{told_if, told_key, told, told_passed, told_all, told_note, told_event, printed_event, printed_events}
use Rattle.ev_claims.proofs.Showing.{base_prints}

-- ---- names

abbrev pub Told : Name → Name
Told n = told (told_key []) n

module _ (d : List ℕ) where
  gift_same : (h i : ℕ) → marks.shown_gift d h (told_key [] h i) ≡ shown_gift d h i
  unfolding told_key told_if is_claimed shown_gift
  gift_same h i = base_prints d h i

  name_same : (n : Name) → marks.shown_name d (Told n) ≡ shown_name d n
  unfolding told marks.shown_name shown_name
  name_same (Gift h i) = gift_same h i
  name_same other = refl

  told_sent : (n : Name) → marks.shown_msg d (Told n) ≡ shown_msg d n
  unfolding told marks.shown_msg shown_msg
  told_sent (Sent m) = refl
  told_sent other = refl

  msg_same : (n : Name) → marks.shown_msg d n ≡ shown_msg d n
  unfolding marks.shown_msg shown_msg
  msg_same (Sent m) = refl
  msg_same other = refl

  -- ---- what a note says

  said_value : (v : ℕ) (y : Value Name) → marks.shown_value d v (maps.value Told y) ≡ shown_value d v y
  unfolding marks.shown_value shown_value
  said_value v (Ref n) = ap (λ m. shown.Name m) (name_same n)
  said_value v other = refl

  mutual
    unfolding marks.shown_passed marks.shown_all shown_passed shown_all told_passed told_all

    said_passed : (y : Passed Name) → marks.shown_passed d (told_passed (told_key []) y) ≡ shown_passed d y
    said_passed (Plain y) = said_value 0 y
    said_passed (AGift g i) = ap (λ m. shown.Name m) (gift_same g i)
    said_passed (Many ys) = ap (λ zs. members zs) (said_all ys)

    said_all : (ys : Passeds Name) → marks.shown_all d (told_all (told_key []) ys) ≡ shown_all d ys
    said_all NoMore = refl
    said_all (More y ys) = cc (said_passed y, said_all ys)

  by_asking : (b : Bool) (m : ShownMsg) (x : ShownName) (verb : List ℕ) (ys : List Shown) → marks.shown_delivery d b m x verb ys ≡ shown_delivery d b m x verb ys
  unfolding marks.shown_delivery shown_delivery
  by_asking true m x verb ys = refl
  by_asking false m x verb ys = refl

  note_same : (w : ℕ) (n : Note Name) → marks.shown_note d w (told_note (told_key []) w n) ≡ shown_note d w n
  unfolding marks.shown_note shown_note told_note
  note_same w (Deliver m n verb ys) = ap (λ x. marks.shown_delivery d m.asks x (marks.shown_name d (Told n)) verb (marks.shown_all d (told_all (told_key []) ys))) (msg_same m.message)
      ∙ ap (λ x. marks.shown_delivery d m.asks (shown_msg d m.message) x verb (marks.shown_all d (told_all (told_key []) ys))) (name_same n)
      ∙ ap (λ x. marks.shown_delivery d m.asks (shown_msg d m.message) (shown_name d n) verb x) (said_all ys)
      ∙ by_asking m.asks (shown_msg d m.message) (shown_name d n) verb (shown_all d ys)
  note_same w (Open i n) = cc (gift_same w i, name_same n)
  note_same w (Ask p i n) = cc (name_same n)
  note_same w (SettledTo n y) = cc (name_same n, said_passed y)
  note_same w (Elsewhere n c) = cc (name_same n)
  note_same w (Shorten n c i) = cc (name_same n, gift_same c i)

  -- ---- lines

  module _ (v : ℕ) where
    values_same : (ys : List (Value Name)) → marks.shown_values d v (map (maps.value Told) ys) ≡ shown_values d v ys
    unfolding marks.shown_values shown_values
    values_same [] = refl
    values_same (y ∷ ys) = cc (said_value v y, values_same ys)

    capture_same : (b : Bound Name) → marks.shown_capture d v (maps.bound Told b) ≡ shown_capture d v b
    unfolding marks.shown_capture shown_capture
    capture_same (Fixed y g) = said_value v y
    capture_same (Slot k) = refl

    captures_same : (bs : List (Bound Name)) → map (marks.shown_capture d v) (map (maps.bound Told) bs) ≡ map (shown_capture d v) bs
    captures_same [] = refl
    captures_same (b ∷ bs) = cc (capture_same b, captures_same bs)

    send_same : (a : ℕ) (m : Message Name) (o : Option Name) → marks.shown_send d v a (maps.message Told m) (option_map Told o) ≡ shown_send d v a m o
    unfolding marks.shown_send shown_send
    send_same a m (Some n) = cc (told_sent m.id, said_value v m.target, values_same m.args, name_same n)
    send_same a m None = cc (told_sent m.id, said_value v m.target, values_same m.args)

    reaction_same : (a : ℕ) (x o : Value Name) (m : Message Name) (p : Option Name) → marks.shown_reaction d v a (maps.value Told x) (maps.value Told o) (maps.message Told m) (option_map Told p) ≡ shown_reaction d v a x o m p
    unfolding marks.shown_reaction shown_reaction
    reaction_same a x o m (Some n) = cc (told_sent m.id, said_value v x, said_value v o, name_same n)
    reaction_same a x o m None = refl

    line_same : (e : Happened Name) → marks.shown_happened d v (maps.line Told e) ≡ shown_happened d v e
    unfolding marks.shown_happened shown_happened marks.shown_slot shown_slot
    line_same (Took a m) = cc (told_sent m.id, said_value v m.target, values_same m.args)
    line_same (Called a x verb args b) = cc (said_value v x, values_same args)
    line_same (Back a x) = cc (said_value v x)
    line_same (Got a x) = cc (said_value v x)
    line_same (SlotMade a k x) = cc (said_value v x)
    line_same (SlotRead a k x) = cc (said_value v x)
    line_same (SlotWrote a k x) = cc (said_value v x)
    line_same (ListMade a k xs) = cc (values_same xs)
    line_same (ListCame k xs) = cc (values_same xs)
    line_same (EjectorMade a n) = cc (name_same n)
    line_same (AuditionMade a n) = cc (name_same n)
    line_same (PromiseMade a p r) = cc (name_same p, name_same r)
    line_same (ObjectMade a n x caps stamps) = cc (name_same n, captures_same caps, values_same stamps)
    line_same (Sends a m) = cc (send_same a m m.answer)
    line_same (Reacts a x o m) = reaction_same a x o m m.answer
    line_same (Finished a x) = cc (said_value v x)
    line_same (Settles n x) = cc (name_same n, said_value v x)
    line_same (Waits p q) = cc (name_same p, name_same q)
    line_same (Views p q) = cc (name_same p, name_same q)
    line_same (Lost m) = cc (told_sent m)
    line_same other = refl

  event_same : (e : Event) → marks.shown_event d (told_event (told_key []) e) ≡ shown_event d e
  unfolding marks.shown_event shown_event told_event
  event_same (Carried k v u n bytes) = cc (note_same u n)
  event_same (Here v e) = line_same v e
  event_same (LostCut m) = cc (msg_same m)
  event_same (LeftQueue v m) = cc (msg_same m)
  event_same (LeftHeld v n m) = cc (name_same n, msg_same m)
  event_same (LeftWait v n m) = cc (name_same n, msg_same m)
  event_same (LeftLink v u n) = cc (note_same u n)
  event_same other = refl

pub unclaimed_lines_stay : UnclaimedLinesStay
unfolding printed_events printed_event shown_events
unclaimed_lines_stay draws [] = refl
unclaimed_lines_stay draws (e ∷ es) = ap (λ (xs : List ShownEvent). xs ++ printed_events (record { draws = draws; claims = [] }) es) (event_same draws e) ∙ ap (λ (xs : List ShownEvent). shown_event draws e ++ xs) (unclaimed_lines_stay draws es)
