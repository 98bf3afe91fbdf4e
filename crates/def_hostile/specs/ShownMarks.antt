-- The events of a run in which vats are hostile, as its history shows them: as events of any run are shown, but for gifts that print by their word.
use Rattle.std.specs.Prelude.{ℕ, ◌-◌, Bool, true, false, Option, Some, None, List, [], ◌∷◌, map}
use Rattle.ev_base.specs.declared.names.Msg.{Msg as ShownMsg}
use Rattle.ev_base.specs.declared.names.Name.{Name as ShownName}
use Rattle.ev_base.specs.declared.names.Name.TheVariants as name
use Rattle.def_event.specs.declared.shown.Shown.{Shown}
use Rattle.def_event.specs.declared.shown.Shown as shown
use Rattle.def_event.specs.declared.note.ShownNote.{ShownNote}
use Rattle.def_event.specs.declared.note.ShownNote.TheVariants as note
use Rattle.def_event.specs.declared.event.Event.{Event as ShownEvent}
use Rattle.def_event.specs.declared.event.Event.TheVariants as event
use Rattle.def_event.specs.Lines.{members}
use Rattle.def_machine.specs.Values.{Words, Value, Null, Flag, Number, Letter, Text, Prim, Broken, Items, Ref, Name, Root, Object, Promise, Answer, Gift, Sent, word_of, provider_of}
use Rattle.def_run.specs.Marks.{is_spelled_out}
use Rattle.def_run.specs.Marks.{opened_marks}
use Rattle.def_machine.specs.State.{Bound, Fixed, Slot, Message, Passed, Passeds, Plain, AGift, Many, NoMore, More, Note, Deliver, Open, Ask, SettledTo, Elsewhere, Shorten, Happened, Took, Called, Back, Thrown, Left, Got, SlotMade, SlotRead, SlotWrote, ListMade, ListCame, EjectorMade, AuditionMade, PromiseMade, ObjectMade, Sends, Reacts, Finished, Threw, Settles, Waits, Views, Lost, Posted}
use Rattle.def_run.specs.World.{Event, Opens, Turned, Idle, Carried, CutAt, NoticedAt, Here, LostCut, LeftQueue, LeftHeld, LeftWait, LeftLink, Ends}
use Rattle.def_run.specs.Shown.{msg_of, place_of}
use Rattle.def_run.specs.Shown.{opened_shown}
use Rattle.def_event.specs.Lines.{opened_lines}

-- a gift by the place of its word among the draws, or by the word itself
unfoldable pub gift_by : List ℕ → ℕ → ℕ → Bool → ShownName
gift_by draws h i true = name.Claimed h (provider_of i - 32) (word_of i)
gift_by draws h i false = name.Gift h (place_of draws (word_of i))

-- where these words were drawn
module _ (draws : List ℕ) where
  unfoldable pub shown_gift : ℕ → ℕ → ShownName
  shown_gift h i = gift_by draws h i (is_spelled_out i)

  -- a name of a message names no thing; it is shown as the answer at its sender
  unfoldable pub shown_name : Name → ShownName
  shown_name (Root v) = name.Root v
  shown_name (Object v n) = name.Object v n
  shown_name (Promise v n) = name.Own v n
  shown_name (Answer h m) = name.Answer h (msg_of m)
  shown_name (Gift h i) = shown_gift h i
  shown_name (Sent m) = name.Answer m.sender (msg_of m)

  -- a message; a name of another kind is none
  unfoldable pub shown_msg : Name → ShownMsg
  shown_msg (Sent m) = msg_of m
  shown_msg _ = record { sender = 0; number = 0 }

  -- a value at vat v
  unfoldable pub shown_value : ℕ → Value Name → Shown
  shown_value v Null = shown.Null
  shown_value v (Flag b) = shown.Bool b
  shown_value v (Number z) = shown.Int z
  shown_value v (Letter c) = shown.Char c
  shown_value v (Text t) = shown.Text t
  shown_value v (Prim n) = shown.Prim n
  shown_value v (Broken p) = shown.Broken p
  shown_value v (Items k) = shown.List v k
  shown_value v (Ref n) = shown.Name (shown_name n)

  unfoldable pub shown_values : ℕ → List (Value Name) → List Shown
  shown_values v xs = map (shown_value v) xs

  unfoldable pub shown_slot : ℕ → ℕ → ℕ × ℕ
  shown_slot v k = (v, k)

  unfoldable pub shown_capture : ℕ → Bound Name → Shown
  shown_capture v (Fixed x g) = shown_value v x
  shown_capture v (Slot k) = shown.Slot v k

  unfoldable mutual
    -- a value of a note
    pub shown_passed : Passed Name → Shown
    shown_passed (Plain y) = shown_value 0 y
    shown_passed (AGift h i) = shown.Name (shown_gift h i)
    shown_passed (Many ys) = members (shown_all ys)

    pub shown_all : Passeds Name → List Shown
    shown_all NoMore = []
    shown_all (More y ys) = shown_passed y ∷ shown_all ys

  -- a message in a note, by whether it asks for an answer
  unfoldable pub shown_delivery : Bool → ShownMsg → ShownName → Words → List Shown → ShownNote
  shown_delivery true m n verb xs = note.Deliver m n verb xs
  shown_delivery false m n verb xs = note.DeliverOnly m n verb xs

  -- a note to vat w
  unfoldable pub shown_note : ℕ → Note Name → ShownNote
  shown_note w (Deliver d n verb ys) = shown_delivery d.asks (shown_msg d.message) (shown_name n) verb (shown_all ys)
  shown_note w (Open i n) = note.Open (shown_gift w i) (shown_name n)
  shown_note w (Ask p i n) = note.Ask (shown_name n) p
  shown_note w (SettledTo n y) = note.Settled (shown_name n) (shown_passed y)
  shown_note w (Elsewhere n c) = note.Elsewhere (shown_name n) c
  shown_note w (Shorten n c i) = note.Shorten (shown_name n) (shown_gift c i)

  -- a send at vat v, by the answer that it has
  unfoldable pub shown_send : ℕ → ℕ → Message Name → Option Name → ShownEvent
  shown_send v a m (Some n) = event.Send (record { activation = a; message = shown_msg m.id; target = shown_value v m.target; verb = m.verb; args = shown_values v m.args; answer = shown_name n })
  shown_send v a m None = event.SendOnly (record { activation = a; message = shown_msg m.id; target = shown_value v m.target; verb = m.verb; args = shown_values v m.args })

  -- a reaction at vat v, which has an answer
  unfoldable pub shown_reaction : ℕ → ℕ → Value Name → Value Name → Message Name → Option Name → List ShownEvent
  shown_reaction v a x o m (Some n) = event.When (record { activation = a; message = shown_msg m.id; value = shown_value v x; reaction = shown_value v o; answer = shown_name n }) ∷ []
  shown_reaction v a x o m None = []

  -- what happens at vat v
  unfoldable pub shown_happened : ℕ → Happened Name → List ShownEvent
  shown_happened v (Took a m) = event.Take (record { activation = a; message = shown_msg m.id; target = shown_value v m.target; verb = m.verb; args = shown_values v m.args }) ∷ []
  shown_happened v (Called a x verb args b) = event.Call (record { activation = a; target = shown_value v x; verb = verb; args = shown_values v args; begun = b }) ∷ []
  shown_happened v (Back a x) = event.Back a (shown_value v x) ∷ []
  shown_happened v (Thrown a p) = event.Thrown a (shown.Text p) ∷ []
  shown_happened v (Left a) = event.Gone a ∷ []
  shown_happened v (Got a x) = event.Got a (shown_value v x) ∷ []
  shown_happened v (SlotMade a k x) = event.Slot a (shown_slot v k) (shown_value v x) ∷ []
  shown_happened v (SlotRead a k x) = event.Read a (shown_slot v k) (shown_value v x) ∷ []
  shown_happened v (SlotWrote a k x) = event.Wrote a (shown_slot v k) (shown_value v x) ∷ []
  shown_happened v (ListMade a k xs) = event.List a (shown_slot v k) (shown_values v xs) ∷ []
  shown_happened v (ListCame k xs) = event.Arrived (shown_slot v k) (shown_values v xs) ∷ []
  shown_happened v (EjectorMade a n) = event.Ejector a (shown.Name (shown_name n)) ∷ []
  shown_happened v (AuditionMade a n) = event.Audition a (shown.Name (shown_name n)) ∷ []
  shown_happened v (PromiseMade a p r) = event.Promise a (shown_name p) (shown.Name (shown_name r)) ∷ []
  shown_happened v (ObjectMade a n x caps stamps) = event.Made (record { activation = a; object = shown.Name (shown_name n); name = x; caps = map (shown_capture v) caps; stamps = shown_values v stamps }) ∷ []
  shown_happened v (Sends a m) = shown_send v a m m.answer ∷ []
  shown_happened v (Reacts a x o m) = shown_reaction v a x o m m.answer
  shown_happened v (Finished a x) = event.Done a (shown_value v x) ∷ []
  shown_happened v (Threw a p) = event.Threw a (shown.Text p) ∷ []
  shown_happened v (Settles n x) = event.Settle (shown_name n) (shown_value v x) ∷ []
  shown_happened v (Waits p q) = event.Wait (shown_name p) (shown_name q) ∷ []
  shown_happened v (Views p q) = event.View (shown_name p) (shown_name q) ∷ []
  shown_happened v (Lost m) = event.LostBroken (shown_msg m) ∷ []
  shown_happened v (Posted w m) = []

  -- an event, with the frame of a note that is carried
  unfoldable pub shown_event : Event → List ShownEvent
  shown_event (Opens v) = event.Open v ∷ []
  shown_event (Turned k v) = event.Turn k v ∷ []
  shown_event (Idle k) = event.Idle k ∷ []
  shown_event (Carried k v w n bytes) = event.Carry k v w (shown_note w n) ∷ event.Frame bytes ∷ []
  shown_event (CutAt k v w) = event.Cut k v w ∷ []
  shown_event (NoticedAt k v w) = event.Notice k v w ∷ []
  shown_event (Here v e) = shown_happened v e
  shown_event (LostCut m) = event.LostCut (shown_msg m) ∷ []
  shown_event (LeftQueue v m) = event.LeftQueue v (shown_msg m) ∷ []
  shown_event (LeftHeld v n m) = event.LeftHeld v (shown_name n) (shown_msg m) ∷ []
  shown_event (LeftWait v n m) = event.LeftWait v (shown.Name (shown_name n)) (shown_msg m) ∷ []
  shown_event (LeftLink v w n) = event.LeftLink v w (shown_note w n) ∷ []
  shown_event Ends = event.End ∷ []

-- opens each definition of this file, and of those below
unfoldable pub opened_shown_marks : Unit {0}
unfolding gift_by shown_gift shown_name shown_msg shown_value shown_values shown_slot shown_capture shown_passed shown_all shown_delivery shown_note shown_send shown_reaction shown_happened shown_event opened_shown opened_lines opened_marks
opened_shown_marks = tt
