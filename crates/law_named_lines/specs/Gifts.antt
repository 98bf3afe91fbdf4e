-- What holds of each gift that a line prints, by its host and its key.
use Rattle.std.specs.Prelude.{ℕ, List, [], ◌∷◌, Option, Some, None}
use Rattle.def_machine.specs.Values.{Value, Ref, Name, Gift}
use Rattle.def_machine.specs.State.{Bound, Fixed, Slot, Message, Passed, Passeds, Plain, AGift, Many, NoMore, More, Note, Deliver, Open, Ask, SettledTo, Elsewhere, Shorten, Happened, Took, Called, Back, Got, SlotMade, SlotRead, SlotWrote, ListMade, ListCame, EjectorMade, AuditionMade, PromiseMade, ObjectMade, Sends, Reacts, Finished, Settles, Waits, Views}
use Rattle.def_run.specs.World.{Event, Carried, Here, LeftHeld, LeftWait, LeftLink}
use Rattle.def_hostile.specs.Hostile.{Line, Told}

module _ (P : ℕ → ℕ → Type 0) where
  unfoldable pub InName : Name → Type 0
  InName (Gift h i) = P h i
  InName _ = Unit {0}

  unfoldable pub InAnswer : Option Name → Type 0
  InAnswer (Some n) = InName n
  InAnswer None = Unit {0}

  unfoldable pub InValue : Value Name → Type 0
  InValue (Ref n) = InName n
  InValue _ = Unit {0}

  unfoldable pub InValues : List (Value Name) → Type 0
  InValues [] = Unit {0}
  InValues (y ∷ ys) = InValue y × InValues ys

  unfoldable mutual
    pub InPassed : Passed Name → Type 0
    InPassed (Plain y) = InValue y
    InPassed (AGift h i) = P h i
    InPassed (Many ys) = InAll ys

    pub InAll : Passeds Name → Type 0
    InAll NoMore = Unit {0}
    InAll (More y ys) = InPassed y × InAll ys

  -- of a note to vat u; the key under which something is asked for does not print
  unfoldable pub InNote : ℕ → Note Name → Type 0
  InNote u (Deliver d n verb ys) = InName n × InAll ys
  InNote u (Open i n) = P u i × InName n
  InNote u (Ask p i n) = InName n
  InNote u (SettledTo n y) = InName n × InPassed y
  InNote u (Elsewhere n c) = InName n
  InNote u (Shorten n c i) = InName n × P c i

  unfoldable pub InMessage : Message Name → Type 0
  InMessage m = InValue m.target × InValues m.args

  unfoldable pub InBound : Bound Name → Type 0
  InBound (Fixed y g) = InValue y
  InBound (Slot k) = Unit {0}

  unfoldable pub InBounds : List (Bound Name) → Type 0
  InBounds [] = Unit {0}
  InBounds (b ∷ bs) = InBound b × InBounds bs

  unfoldable pub InHappened : Happened Name → Type 0
  InHappened (Took a m) = InMessage m
  InHappened (Called a x verb args b) = InValue x × InValues args
  InHappened (Back a x) = InValue x
  InHappened (Got a x) = InValue x
  InHappened (SlotMade a k x) = InValue x
  InHappened (SlotRead a k x) = InValue x
  InHappened (SlotWrote a k x) = InValue x
  InHappened (ListMade a k xs) = InValues xs
  InHappened (ListCame k xs) = InValues xs
  InHappened (EjectorMade a n) = InName n
  InHappened (AuditionMade a n) = InName n
  InHappened (PromiseMade a p r) = InName p × InName r
  InHappened (ObjectMade a n x caps stamps) = InName n × InBounds caps × InValues stamps
  InHappened (Sends a m) = InMessage m × InAnswer m.answer
  InHappened (Reacts a x o m) = InValue x × InValue o × InAnswer m.answer
  InHappened (Finished a x) = InValue x
  InHappened (Settles n x) = InName n × InValue x
  InHappened (Waits p q) = InName p × InName q
  InHappened (Views p q) = InName p × InName q
  InHappened _ = Unit {0}

  unfoldable pub InEvent : Event → Type 0
  InEvent (Carried k v w n bytes) = InNote w n
  InEvent (Here v e) = InHappened e
  InEvent (LeftHeld v n m) = InName n
  InEvent (LeftWait v n m) = InName n
  InEvent (LeftLink v w n) = InNote w n
  InEvent _ = Unit {0}

  unfoldable pub InEvents : List Event → Type 0
  InEvents [] = Unit {0}
  InEvents (e ∷ es) = InEvent e × InEvents es

  -- of what a line tells; the lines of frames that are not read print none
  unfoldable pub InLine : Line → Type 0
  InLine (Told e) = InEvent e
  InLine _ = Unit {0}

  unfoldable pub InLines : List Line → Type 0
  InLines [] = Unit {0}
  InLines (l ∷ ls) = InLine l × InLines ls
