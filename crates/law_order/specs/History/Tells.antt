-- What one small step of a run owes to the order of messages: from one world to the next at most one line counts, and what was ahead of a thing is ahead of it after it.
use Rattle.std.specs.Prelude.{◌≡◌, ℕ, zero, Bool, true, false, List, [], ◌++◌, Option, Some, None, ◌⊎◌}
use Rattle.def_machine.specs.Values.{Ref, Name}
use Rattle.def_machine.specs.State.{Message, Passeds, Delivery, Note, Deliver, Took, Sends}
use Rattle.def_run.specs.World.{Script, Event, Here, Carried, World}
use Rattle.law_fate.specs.Name.Names.{IsAmong}
use Rattle.law_order.specs.Ordering.Ways.{Lane, Queue, Held, Item, Place, Mid, Ahead}
use Rattle.law_order.specs.Ordering.Messages.{StandsAt}
use Rattle.law_order.specs.Ordering.Places.{leads, ways}
use Rattle.law_order.specs.Ordering.Order.{Coming, comes, all_pass_as}
use Rattle.law_order.specs.History.Lines.{AllQuiet, with_first, was_taken, was_sent}
use Rattle.law_order.specs.History.Befores.{Brings, passing_place, up_to, IsBroughtFrom}
use Rattle.law_order.specs.History.Told.{IsTold}

module _ (script : Script) (honest : ℕ → Bool) (x y : World) where
  -- What was at c is at d: the message a, if it was ahead of it, is ahead of it still, or was taken.
  abbrev pub Keeps : Name → Place → Place → Type 0
  Keeps a c d = Ahead (ways script honest x) a c → (was_taken a y.history ≡ true) ⊎ Ahead (ways script honest y) a d

  abbrev pub led : ℕ → Name → Place
  led v n = leads script honest x.vats x.links v (Ref n)

  abbrev pub now_leads : ℕ → Name → Place
  now_leads v n = leads script honest y.vats y.links v (Ref n)

  -- where the reference was before the step in which the line o is told: held by the vat, or brought by the note that arrives in it
  pub data IsSource (o : Option Event) (v : ℕ) (n : Name) : Place → Type 0 where
    held_there : IsSource o v n (led v n)
    learnt_now : {k u : ℕ} {bytes : List ℕ} {d : Delivery Name} {t : Name} {verb : List ℕ} {ys : Passeds Name} → o ≡ Some (Carried k u v (Deliver d t verb ys) bytes) → IsSource o v n (passing_place u v [] d t n)

  -- The note was under way already.
  pub record IsStillBrought (u v : ℕ) (front : List (Note Name)) (d : Delivery Name) (n : Name) (ys : Passeds Name) : Type 0 where
    pub before : List (Note Name)
    pub brings : Brings x u v before d n ys
    pub keeps : (a m : Name) → Keeps a (passing_place u v before d n m) (passing_place u v front d n m)

  -- Its message came to the vat in this step, which put the note: what was ahead of a reference is ahead of what passes for it.
  pub record IsPutNow (o : Option Event) (u v : ℕ) (front : List (Note Name)) (d : Delivery Name) (n : Name) (ys : Passeds Name) : Type 0 where
    pub new : comes u d.message zero x.history ≡ None
    pub coming : Coming
    pub came : comes u d.message zero y.history ≡ Some coming
    pub keeps : (done : List Event) → IsTold script done → (a e m : Name) (c : Place) → IsSource o u e c → IsAmong m (all_pass_as u done e ys coming.args) → Keeps a c (passing_place u v front d n m)

  -- Its message was held till then, and is sent on.
  pub record IsSentOnNow (u v : ℕ) (front : List (Note Name)) (d : Delivery Name) (n : Name) (ys : Passeds Name) : Type 0 where
    pub held_for : Name
    pub aim : Name
    pub before : List Item
    pub stood : StandsAt (ways script honest x) d.message (Held u held_for) before aim
    pub coming : Coming
    pub came : comes u d.message zero x.history ≡ Some coming
    pub keeps : (done : List Event) → IsTold script done → (a e m : Name) (c : Place) → IsBroughtFrom (Held u held_for) (up_to before d.message aim) (led u e) c → IsAmong m (all_pass_as u done e ys coming.args) → Keeps a c (passing_place u v front d n m)

  -- The message stood somewhere already, and what was ahead of it is ahead of it.
  pub record IsStanding (b : Name) (l : Lane) (c : List Item) (n : Name) : Type 0 where
    pub lane : Lane
    pub before : List Item
    pub aim : Name
    pub stood : StandsAt (ways script honest x) b lane before aim
    pub keeps : (a : Name) → Keeps a (Mid lane before aim) (Mid l c n)

  -- It was held there already, and stands there last of those; what it would bring is behind what it was behind.
  pub record IsStillHeld (v : ℕ) (p d : Name) (upto : List Item) : Type 0 where
    pub before : List Item
    pub aim : Name
    pub stood : StandsAt (ways script honest x) d (Held v p) before aim
    pub keeps : (a n : Name) (c k : Place) → IsBroughtFrom (Held v p) (up_to before d aim) (led v n) c → IsBroughtFrom (Held v p) upto (now_leads v n) k → Keeps a c k

  -- It came in this step, and what it would bring is behind what the references were behind.
  pub record IsHeldNow (o : Option Event) (v : ℕ) (p d : Name) (upto : List Item) : Type 0 where
    pub new : comes v d zero x.history ≡ None
    pub coming : Coming
    pub came : comes v d zero y.history ≡ Some coming
    pub keeps : (a n : Name) (c k : Place) → IsSource o v n c → IsBroughtFrom (Held v p) upto (now_leads v n) k → Keeps a c k

  -- The message was neither sent nor taken before. It is ahead of what is sent on its reference from now on, and behind all that was ahead of that.
  pub record IsSentNow (v : ℕ) (m : Message Name) : Type 0 where
    pub unsent : was_sent m.id x.history ≡ false
    pub untaken : was_taken m.id x.history ≡ false
    pub ahead : (n : Name) → m.target ≡ Ref n → Ahead (ways script honest y) m.id (now_leads v n)
    pub behind : (n a : Name) (l : Lane) (b : List Item) (aim : Name) → m.target ≡ Ref n → StandsAt (ways script honest y) m.id l b aim → Keeps a (led v n) (Mid l b aim)

  -- The message arrives, the first of its link. What was ahead of a name in its note is ahead of what is sent on that from now on.
  pub record Arrives (u v : ℕ) (d : Delivery Name) (n : Name) (ys : Passeds Name) : Type 0 where
    pub brings : Brings x u v [] d n ys
    pub learnt : (a m : Name) → Keeps a (passing_place u v [] d n m) (now_leads v m)

  -- what the line says
  abbrev pub IsToldBy : Option Event → Type 0
  IsToldBy (Some (Here v (Sends act m))) = IsSentNow v m
  IsToldBy (Some (Here v (Took act m))) = (n : Name) → m.target ≡ Ref n → StandsAt (ways script honest x) m.id (Queue v) [] n
  IsToldBy (Some (Carried k u v (Deliver d n verb ys) bytes)) = Arrives u v d n ys
  IsToldBy _ = Unit {0}

  pub record SmallStep : Type 0 where
    -- its lines, of which none but the first counts
    pub line : Option Event
    pub quiet : List Event
    pub lines : y.history ≡ x.history ++ with_first line quiet
    pub all_quiet : AllQuiet quiet
    pub told : IsToldBy line
    pub references : (a n : Name) (v : ℕ) → Keeps a (led v n) (now_leads v n)
    pub messages : (b : Name) (l : Lane) (c : List Item) (n : Name) → StandsAt (ways script honest y) b l c n → IsStanding b l c n ⊎ (was_sent b x.history ≡ false)
    pub passings : (u v : ℕ) (front : List (Note Name)) (d : Delivery Name) (n : Name) (ys : Passeds Name) → Brings y u v front d n ys
        → IsStillBrought u v front d n ys ⊎ (IsPutNow line u v front d n ys ⊎ IsSentOnNow u v front d n ys)
    pub carriers : (v : ℕ) (p d q : Name) (b : List Item) → StandsAt (ways script honest y) d (Held v p) b q → IsStillHeld v p d (up_to b d q) ⊎ IsHeldNow line v p d (up_to b d q)

-- From one world to another by small steps, one after another.
pub data Tale (script : Script) (honest : ℕ → Bool) : World → World → Type 0 where
  over : {x : World} → Tale script honest x x
  then_on : {x y z : World} → SmallStep script honest x y → Tale script honest y z → Tale script honest x z
