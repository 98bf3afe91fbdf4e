-- The ways that messages have before them, and what is ahead of what on these ways.
use Rattle.std.specs.Prelude.{◌≡◌, ℕ, List, [], ◌∷◌, ◌⊎◌}
use Rattle.def_machine.specs.Values.{Name}

-- where messages stand one behind another
pub data Lane : Type 0 where
  -- the queue of a vat
  Queue : ℕ → Lane
  -- what a vat holds for an unsettled name of its own
  Held : ℕ → Name → Lane
  -- the link from one vat to another
  Way : ℕ → ℕ → Lane

-- a message, and the name on which it stands in its lane
pub record Item : Type 0 where
  pub mail : Name
  pub aim : Name

-- Where a thing is on its way: a message, a reference (where a message would stand that is sent on it now), a name that a note brings, or a note that lets a gift go.
pub data Place : Type 0 where
  -- on data, on a broken reference, or lost: no object will take it
  Nowhere : Place
  -- nothing is said of how it goes on
  Free : Place
  -- behind all that stands in a lane, and behind all that comes to stand there before it does; on that name
  End : Lane → Name → Place
  -- in a lane, where just these stand in front of it; on that name
  Mid : Lane → List Item → Name → Place

pub record Ways : Type 0 where
  -- what stands in a lane, the first in front
  pub stands : Lane → List Item
  -- to which place that goes from a lane which stands there on that name
  pub onward : Lane → Name → Place

abbrev pub IsIn : Item → List Item → Type 0
IsIn i [] = ⊥
IsIn i (j ∷ js) = (i ≡ j) ⊎ IsIn i js

-- all goes one way from there, in its order: a queue is taken in order, and what a name holds is sent on in order, to one place
abbrev pub IsOneWay : Lane → Type 0
IsOneWay (Queue v) = Unit {0}
IsOneWay (Held v n) = Unit {0}
IsOneWay (Way v w) = ⊥

module _ (w : Ways) where
  -- What is at this place will be taken by no object: its way ends nowhere.
  pub data Doom : Place → Type 0 where
    nowhere : Doom Nowhere
    by_end : {l : Lane} {n : Name} → Doom (w.onward l n) → Doom (End l n)
    by_mid : {l : Lane} {b : List Item} {n : Name} → Doom (w.onward l n) → Doom (Mid l b n)

  -- What comes to the second place behind what came to the first stays behind it: to the same place, or to the end of the same lane from which both go on so; or it is doomed.
  pub data Follows : Place → Place → Type 0 where
    doomed : {c d : Place} → Doom d → Follows c d
    one_way : {l : Lane} {m n : Name} → IsOneWay l → Follows (End l m) (End l n)
    alike : {l : Lane} {n : Name} → Follows (End l n) (End l n)
    beside : {l : Lane} {m n : Name} → Follows (w.onward l m) (w.onward l n) → Follows (End l m) (End l n)

  -- The message x is ahead of what is at that place: it stands in front of it there, where what comes behind it follows it, or it is ahead of where that goes; or what is there is doomed.
  pub data Ahead (x : Name) : Place → Type 0 where
    doomed_there : {c : Place} → Doom c → Ahead x c
    in_end : {l : Lane} {m n : Name} → IsIn (record { mail = x; aim = m }) (w.stands l) → Follows (End l m) (End l n) → Ahead x (End l n)
    in_mid : {l : Lane} {b : List Item} {m n : Name} → IsIn (record { mail = x; aim = m }) b → Follows (End l m) (End l n) → Ahead x (Mid l b n)
    past_end : {l : Lane} {n : Name} → Ahead x (w.onward l n) → Ahead x (End l n)
    past_mid : {l : Lane} {b : List Item} {n : Name} → Ahead x (w.onward l n) → Ahead x (Mid l b n)
