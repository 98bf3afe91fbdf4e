-- What the lines of a history so far say of the places in the world that they led to: a message that is before a thing is ahead of its place, as long as it was not taken.
use Rattle.std.specs.Prelude.{◌≡◌, ℕ, zero, Bool, true, List, [], ◌∷◌, ◌++◌, Some, nat_le, ◌⊎◌}
use Rattle.def_machine.specs.Values.{Words, Ref, Name}
use Rattle.def_machine.specs.State.{Passeds, Delivery, Note, Deliver}
use Rattle.def_run.specs.World.{Script, Event, Link, World, link_at}
use Rattle.law_fate.specs.Name.Names.{IsAmong}
use Rattle.law_order.specs.Ordering.Ways.{Lane, Held, Way, Item, Place, End, Mid, Ahead}
use Rattle.law_order.specs.Ordering.Messages.{StandsAt}
use Rattle.law_order.specs.Ordering.Places.{item, delivered, leads, ways}
use Rattle.law_order.specs.Ordering.Order.{Coming, Reach, comes, reached, all_pass_as, is_before, keeps_order}
use Rattle.law_order.specs.History.Lines.{was_taken}
use Rattle.law_order.specs.History.Told.{IsTold}

-- A deliver note is under way from vat u to vat v, behind these notes.
pub record Brings (w : World) (u v : ℕ) (front : List (Note Name)) (d : Delivery Name) (n : Name) (ys : Passeds Name) : Type 0 where
  pub link : Link
  pub found : link_at u v w.links ≡ Some link
  pub verb : Words
  pub rest : List (Note Name)
  pub notes : link.notes ≡ front ++ Deliver d n verb ys ∷ rest

-- where a name stands that such a note brings: behind all in front of the note, and behind its own message
abbrev pub passing_place : ℕ → ℕ → List (Note Name) → Delivery Name → Name → Name → Place
passing_place u v front d n m = Mid (Way u v) (delivered front ++ item d.message n ∷ []) m

-- a message of a lane, with what stands in front of it there
abbrev pub up_to : List Item → Name → Name → List Item
up_to b d q = b ++ item d q ∷ []

-- What a message in lane l would bring of a reference with that place, if it were sent on, where b ends with the message: behind what stands in front of it, and behind itself, where the reference leads to the same lane.
pub data IsBroughtFrom (l : Lane) (b : List Item) : Place → Place → Type 0 where
  in_lane : {n : Name} → IsBroughtFrom l b (End l n) (Mid l b n)
  apart : {c : Place} → ((n : Name) → c ≡ End l n → ⊥) → IsBroughtFrom l b c c

-- It came to vat v in that line, as the history tells, and that was no sooner than the reference was reached.
pub record CameBehind (es : List Event) (a : Name) (v : ℕ) (d : Name) (c : Coming) (r : Reach) : Type 0 where
  pub came : comes v d zero es ≡ Some c
  pub reach : IsAmong r (reached a es)
  pub there : r.vat ≡ v
  pub since : nat_le r.since c.line ≡ true

module _ (script : Script) (honest : ℕ → Bool) (w : World) where
  -- The message a was taken, or it is ahead of that place.
  abbrev pub IsBehind : Name → Place → Type 0
  IsBehind a c = (was_taken a w.history ≡ true) ⊎ Ahead (ways script honest w) a c

  -- All that the message a is before is behind it.
  pub record IsFirst (a : Name) : Type 0 where
    -- the references that it reached
    pub references : (r : Reach) → IsAmong r (reached a w.history) → IsBehind a (leads script honest w.vats w.links r.vat (Ref r.name))
    -- the messages that were sent on such
    pub messages : (b : Name) → is_before a b w.history ≡ true → (l : Lane) (c : List Item) (n : Name) → StandsAt (ways script honest w) b l c n → IsBehind a (Mid l c n)
    -- What a note brings for such a reference, if the note's message came to the sender when that was reached; as far as the history of the run may tell of lists by then.
    pub passings : (u v : ℕ) (front : List (Note Name)) (d : Delivery Name) (n : Name) (ys : Passeds Name) → Brings w u v front d n ys
        → (c : Coming) (r : Reach) → CameBehind w.history a u d.message c r
        → (done : List Event) → IsTold script done → (m : Name) → IsAmong m (all_pass_as u done r.name ys c.args) → IsBehind a (passing_place u v front d n m)
    -- What a message that is held would bring for such a reference, if it came when that was reached.
    pub carriers : (v : ℕ) (p d q : Name) (b : List Item) → StandsAt (ways script honest w) d (Held v p) b q
        → (c : Coming) (r : Reach) → CameBehind w.history a v d c r
        → (k : Place) → IsBroughtFrom (Held v p) (up_to b d q) (leads script honest w.vats w.links v (Ref r.name)) k → IsBehind a k

  -- So it is of every message. Each message under way came to the vat that put its note, and each that is held to the vat that holds it. No object took a message too early.
  pub record TellsOrder : Type 0 where
    pub first : (a : Name) → IsFirst a
    pub comings : (u v : ℕ) (front : List (Note Name)) (d : Delivery Name) (n : Name) (ys : Passeds Name) → Brings w u v front d n ys → (c : Coming) × (comes u d.message zero w.history ≡ Some c)
    pub held : (v : ℕ) (p d q : Name) (b : List Item) → StandsAt (ways script honest w) d (Held v p) b q → (c : Coming) × (comes v d zero w.history ≡ Some c)
    pub ordered : (a b : Name) → keeps_order w.history a b ≡ true
