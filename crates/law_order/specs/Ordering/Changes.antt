-- The single changes of the ways.
use Rattle.std.specs.Prelude.{◌≡◌, ℕ, List, [], ◌∷◌, ◌⊎◌}
use Rattle.def_machine.specs.Values.{Name}
use Rattle.law_order.specs.Ordering.Ways.{Lane, Queue, Held, Way, Item, Place, Nowhere, Free, End, Mid, Ways, IsIn, IsOneWay, Doom, Ahead}

-- what was at c is at d: it stays, or the first that stood in front of it in that lane left
pub data Beheads (l : Lane) (i : Item) : Place → Place → Type 0 where
  stays : {c : Place} → Beheads l i c c
  nearer : {b : List Item} {n : Name} → Beheads l i (Mid l (i ∷ b) n) (Mid l b n)

-- it has the message x nowhere in front of it
abbrev pub Lacks : Name → List Item → Type 0
Lacks x b = (n : Name) → IsIn (record { mail = x; aim = n }) b → ⊥

-- the same where that message, which left, was the only one of its name in front of anything
pub data Loses (l : Lane) (i : Item) : Place → Place → Type 0 where
  nowhere_still : Loses l i Nowhere Nowhere
  free_still : Loses l i Free Free
  end_still : {k : Lane} {n : Name} → Loses l i (End k n) (End k n)
  mid_still : {k : Lane} {b : List Item} {n : Name} → Lacks i.mail b → Loses l i (Mid k b n) (Mid k b n)
  mid_nearer : {b : List Item} {n : Name} → Lacks i.mail b → Loses l i (Mid l (i ∷ b) n) (Mid l b n)

module _ (w u : Ways) where
  -- No message leaves its lane, and each lane leads where it led; but where nothing was said of how a name goes on, something may be said now.
  pub record Grows : Type 0 where
    pub stands : (l : Lane) (i : Item) → IsIn i (w.stands l) → IsIn i (u.stands l)
    pub onward : (l : Lane) (n : Name) → (u.onward l n ≡ w.onward l n) ⊎ (IsOneWay l × (w.onward l n ≡ Free))

  -- The message i leaves lane l, and no other leaves its lane. Links lead where they led.
  pub record Leaves (l : Lane) (i : Item) : Type 0 where
    pub stands : (k : Lane) (j : Item) → IsIn j (w.stands k) → IsIn j (u.stands k) ⊎ ((k ≡ l) × (j ≡ i))
    pub links : (a b : ℕ) (n : Name) → u.onward (Way a b) n ≡ w.onward (Way a b) n

  -- It comes to the end of the lane to which l leads from there.
  pub record GoesOn (l : Lane) (i : Item) (k : Lane) (n : Name) : Type 0 where
    pub leaves : Leaves l i
    pub lanes : (h : Lane) (m : Name) → Beheads l i (w.onward h m) (u.onward h m)
    pub leads : u.onward l i.aim ≡ End k n
    pub comes : IsIn (record { mail = i.mail; aim = n }) (u.stands k)

  -- It is lost, or comes to data: l leads nowhere from there. It stood nowhere else.
  pub record IsLost (l : Lane) (i : Item) : Type 0 where
    pub leaves : Leaves l i
    pub lanes : (h : Lane) (m : Name) → Loses l i (w.onward h m) (u.onward h m)
    pub leads : u.onward l i.aim ≡ Nowhere
    pub only : (h : Lane) → Lacks i.mail (u.stands h)

  -- It is taken from a queue.
  pub record IsTaken (v : ℕ) (i : Item) : Type 0 where
    pub leaves : Leaves (Queue v) i
    pub lanes : (h : Lane) (m : Name) → u.onward h m ≡ w.onward h m

-- all that stands in a lane goes to one place
abbrev pub GoesOneWay : Ways → Lane → Type 0
GoesOneWay w (Queue v) = (m : Name) → w.onward (Queue v) m ≡ Free
GoesOneWay w (Held v p) = (m n : Name) → w.onward (Held v p) m ≡ w.onward (Held v p) n
GoesOneWay w (Way a b) = Unit {0}

-- ---- laws

-- Nothing is ahead of what stands first in a queue, and it is not doomed.
abbrev pub HeadsAreFree : Type 0
HeadsAreFree = (w : Ways) (v : ℕ) (n : Name) → w.onward (Queue v) n ≡ Free → ((x : Name) → Ahead w x (Mid (Queue v) [] n) → ⊥) × (Doom w (Mid (Queue v) [] n) → ⊥)

-- A message is ahead of all that comes to its lane on the same name after it.
abbrev pub SentIsAhead : Type 0
SentIsAhead = (w : Ways) (l : Lane) (x n : Name) → IsIn (record { mail = x; aim = n }) (w.stands l) → Ahead w x (End l n)

abbrev pub GrowingKeeps : Type 0
GrowingKeeps = (w u : Ways) → Grows w u → (c : Place) → (Doom w c → Doom u c) × ((x : Name) → Ahead w x c → Ahead u x c)

-- What goes on stays ahead, and all others do.
abbrev pub GoingOnKeeps : Type 0
GoingOnKeeps = (w u : Ways) (l k : Lane) (i : Item) (n : Name) → GoesOn w u l i k n → GoesOneWay u l
    → (c d : Place) → Beheads l i c d → (Doom w c → Doom u d) × ((x : Name) → Ahead w x c → Ahead u x d)

-- What is lost was ahead of what is doomed now, and all others stay ahead.
abbrev pub LosingKeeps : Type 0
LosingKeeps = (w u : Ways) (l : Lane) (i : Item) → IsLost w u l i → GoesOneWay u l
    → (c d : Place) → Loses l i c d → (Doom w c → Doom u d) × ((x : Name) → (x ≡ i.mail → ⊥) → Ahead w x c → Ahead u x d) × (Ahead w i.mail c → Doom u d)

-- By the taking of a message all others stay ahead.
abbrev pub TakingKeeps : Type 0
TakingKeeps = (w u : Ways) (v : ℕ) (i : Item) → IsTaken w u v i → (c d : Place) → Beheads (Queue v) i c d → (Doom w c → Doom u d) × ((x : Name) → (x ≡ i.mail → ⊥) → Ahead w x c → Ahead u x d)
