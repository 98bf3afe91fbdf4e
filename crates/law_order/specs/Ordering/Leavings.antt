-- The first message of a lane leaves it, and each other stands where it stood, or one nearer to the front.
use Rattle.std.specs.Prelude.{◌≡◌, ℕ, Bool, List, [], ◌∷◌, ◌++◌, Some, slice_get, ◌⊎◌}
use Rattle.def_machine.specs.Values.{Words, Ref, Name}
use Rattle.def_machine.specs.State.{Message, Passeds, Delivery, Deliver, Vat}
use Rattle.def_run.specs.World.{Script, World, names}
use Rattle.law_order.specs.Ordering.Ways.{Lane, Queue, Way, Item, Nowhere, Mid, Ways}
use Rattle.law_order.specs.Ordering.Changes.{Beheads}
use Rattle.law_order.specs.Ordering.Places.{item, ways, amid}
use Rattle.law_order.specs.Ordering.Messages.{More, StandsAt, StandsOnce, IsPlace}
use Rattle.law_order.specs.Ordering.Worlds.{AddsOnly}
use Rattle.law_order.specs.Ordering.Arrivals.{keeping, IsOpenWay}

-- From w to u the item i, which stood first in lane k, left it. Else messages came to the ends of lanes alone.
pub record FirstLeft (w u : Ways) (k : Lane) (i : Item) : Type 0 where
  pub rest : List Item
  pub first : w.stands k ≡ i ∷ rest
  pub after : (js : List Item) × (u.stands k ≡ rest ++ js)
  pub others : (l : Lane) → (l ≡ k → ⊥) → More w u l

-- Then a message that stood anywhere is the one that left, or it stands where it stood, less that one in front of it.
abbrev pub FirstLeftKeeps : Type 0
FirstLeftKeeps = (w u : Ways) (k : Lane) (i : Item) → FirstLeft w u k i → (m : Name) (l : Lane) (b : List Item) (n : Name) → StandsAt w m l b n
    → ((l ≡ k) × (b ≡ []) × (item m n ≡ i)) ⊎ ((c : List Item) × Beheads k i (Mid l b n) (Mid l c n) × StandsAt u m l c n)

-- So it is as the first message of a queue is taken, if it is on an object.
abbrev pub TakenIsFirst : Type 0
TakenIsFirst = (script : Script) (honest : ℕ → Bool) (w : World) (v : ℕ) (r s : Vat Name) (m : Message Name) (ms : List (Message Name)) (n : Name) → slice_get w.vats v ≡ Some r → s.queue ≡ m ∷ ms → m.target ≡ Ref n
    → FirstLeft (ways script honest (amid v s w)) (ways script honest (amid v (record s { queue = ms }) w)) (Queue v) (item m.id n)

-- A message that is taken, and stood once, is nowhere then.
abbrev pub TakenIsNowhere : Type 0
TakenIsNowhere = (script : Script) (honest : ℕ → Bool) (w : World) (v : ℕ) (r s : Vat Name) (m : Message Name) (ms : List (Message Name)) (n : Name) → slice_get w.vats v ≡ Some r → s.queue ≡ m ∷ ms → m.target ≡ Ref n
    → StandsOnce (ways script honest (amid v s w)) m.id → IsPlace (ways script honest (amid v (record s { queue = ms }) w)) m.id Nowhere

-- So it is as a note arrives that delivers a message, whatever its receiver adds.
abbrev pub CarriedIsFirst : Type 0
CarriedIsFirst = (script : Script) (honest : ℕ → Bool) (w : World) (a b : ℕ) (s t : Vat Name) (m : Delivery Name) (n : Name) (verb : Words) (ys : Passeds Name) → IsOpenWay honest a b w → AddsOnly (names script b) s t
    → FirstLeft (ways script honest (amid b s (keeping a b (Deliver m n verb ys) w))) (ways script honest (amid b t w)) (Way a b) (item m.message n)
