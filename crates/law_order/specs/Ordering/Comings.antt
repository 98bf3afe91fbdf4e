-- Messages come to stand last, where they are sent and where they arrive.
use Rattle.std.specs.Prelude.{◌≡◌, ℕ, Bool, true, List, [], ◌∷◌, ◌++◌, Option, Some, slice_get, ◌⊎◌}
use Rattle.def_machine.specs.Values.{Words, Value, Ref, Name, Sent}
use Rattle.def_machine.specs.State.{Message, Passeds, Delivery, Deliver, Vat, Known}
use Rattle.def_machine.specs.Refs.{Settler, Mine, Away, entry_of, follow, place, send, send_only, send_to}
use Rattle.def_run.specs.World.{Script, World, names}
use Rattle.law_order.specs.Ordering.Ways.{Lane, Queue, Held, Way, Item, Nowhere, Free, End, Mid, Ways, IsIn, Doom, Ahead}
use Rattle.law_order.specs.Ordering.Ways as lanes
use Rattle.law_order.specs.Ordering.Places.{item, aimed, ways, amid}
use Rattle.law_order.specs.Ordering.Worlds.{IfGives, IsWaiting}
use Rattle.law_order.specs.Ordering.Steps.{WaysAmid, LeadsAmid, Ready, IsHeld, KeepsOrder}
use Rattle.law_order.specs.Ordering.Arrivals.{keeping, IsLearnt, IsOpenWay, IsHere}
use Rattle.law_order.specs.Ordering.Changes.{Lacks}
use Rattle.law_order.specs.Ordering.Messages.{StandsAt, StandsOnce, IsNowhere, place_of, StaysBehind}

module _ (w u : Ways) (m : Name) where
  -- From w to u the message came to stand where c led, last in that lane. Or what comes there is lost, and none came.
  abbrev pub ComesLast : lanes.Place → Type 0
  ComesLast (End l n) = (u.stands l ≡ w.stands l ++ item m n ∷ []) ⊎ ((u.stands l ≡ w.stands l) × Doom u (End l n))
  ComesLast Nowhere = Unit {0}
  ComesLast Free = ⊥
  ComesLast (Mid l b n) = ⊥

  -- There it is behind all that was ahead of c.
  abbrev pub ComesBehind : lanes.Place → Type 0
  ComesBehind (End l n) = StaysBehind w u (End l n) (Mid l (w.stands l) n)
  ComesBehind Nowhere = Unit {0}
  ComesBehind Free = ⊥
  ComesBehind (Mid l b n) = ⊥

-- From w to u the first item of lane k came to where c led: it stands last there, behind all that was ahead of it and of c.
abbrev pub MovesLast : Ways → Ways → Lane → Item → lanes.Place → Type 0
MovesLast w u k i (End l n) = (u.stands l ≡ w.stands l ++ item i.mail n ∷ []) × StaysBehind w u (Mid k [] i.aim) (Mid l (w.stands l) n) × StaysBehind w u (End l n) (Mid l (w.stands l) n)
MovesLast w u k i Nowhere = Unit {0}
MovesLast w u k i Free = ⊥
MovesLast w u k i (Mid l b n) = ⊥

-- By a whole send on what a vat has in hand, with an answer or without, the new message comes to stand last where that led: in a queue, in what a name holds, or on a link. All that was ahead of the reference is ahead of it.
-- It asks what the law asks by which it is ahead of what comes there later.
abbrev pub SendsComeLast : Type 0
SendsComeLast = (script : Script) (honest : ℕ → Bool) (w : World) (v act : ℕ) (x : Value Name) (verb : Words) (args : List (Value Name)) (r s : Vat Name)
    → slice_get w.vats v ≡ Some r → honest v ≡ true → ((h : ℕ) (n : Name) (o : Bool) → place (names script v) s (follow (names script v) s x) ≡ Away h n o → honest h ≡ true)
    → Ready script honest w v s → IsHeld script honest w v s x
    → let c = LeadsAmid script honest w v s v x in let m = Sent (record { sender = v; number = s.messages }) in
    let Comes : (Vat Name → Type 0) = (λ t. ComesLast (WaysAmid script honest w v s) (WaysAmid script honest w v t) m c × ComesBehind (WaysAmid script honest w v s) (WaysAmid script honest w v t) m c) in
    IfGives Comes (send (names script v) act x verb args s) × IfGives Comes (send_only (names script v) act x verb args s)

-- As a message arrives for an object of the receiver, or for a promise of its own that waits, it leaves the front of its link and comes to stand last where it is sent on.
abbrev pub CarriedComeLast : Type 0
CarriedComeLast = (script : Script) (honest : ℕ → Bool) (w : World) (a b : ℕ) (r s : Vat Name) (settle : Settler {N = Name} {W = Name} (names script b)) (m : Message Name) (asks : Bool) (answer : Option Name) (n : Name) (verb : Words) (ys : Passeds Name)
    → slice_get w.vats b ≡ Some r → IsOpenWay honest a b w → IsLearnt b script s n
    → let y = follow (names script b) s (Ref n) in let p = place (names script b) s y in
    ((q : Name) → p ≡ Mine q → (k : Known Name) × (entry_of (names script b) s.known q ≡ Some k) × IsWaiting k.standing)
    → IsHere p
    → IfGives (λ t. MovesLast (ways script honest (amid b s (keeping a b (Deliver (record { message = m.id; asks = asks; answer = answer }) n verb ys) w))) (ways script honest (amid b t w)) (Way a b) (item m.id n) (aimed b y p)) (send_to (names script b) settle m y p s)

-- So it does as it arrives for what a third vat hosts, and is put on the link to that, where that link is not cut.
abbrev pub CarriedArePutLast : Type 0
CarriedArePutLast = (script : Script) (honest : ℕ → Bool) (w : World) (a b h : ℕ) (r s : Vat Name) (m : Delivery Name) (n q : Name) (o : Bool) (verb : Words) (ys zs : Passeds Name)
    → slice_get w.vats b ≡ Some r → IsOpenWay honest a b w → IsOpenWay honest b h w → (h ≡ b → ⊥) → IsLearnt b script s n
    → place (names script b) s (follow (names script b) s (Ref n)) ≡ Away h q o
    → MovesLast (ways script honest (amid b s (keeping a b (Deliver m n verb ys) w))) (ways script honest (amid b (record s { outbox = s.outbox ++ record { to = h; note = Deliver m q verb zs } ∷ [] }) w)) (Way a b) (item m.message n) (End (Way b h) q)

-- ---- where order is kept

-- A message that stood somewhere and stands once at most comes from the place that was found for it to the place that is found, and keeps its order; or where it stood what comes is doomed.
abbrev pub FoundPlacesKeep : Type 0
FoundPlacesKeep = (script : Script) (honest : ℕ → Bool) (w : World) (v : ℕ) (s t : Vat Name) (m : Name) → KeepsOrder script honest w v s t → StandsOnce (WaysAmid script honest w v t) m
    → let c = place_of script honest (amid v s w) m in let d = place_of script honest (amid v t w) m in
    (c ≡ Nowhere) ⊎ StaysBehind (WaysAmid script honest w v s) (WaysAmid script honest w v t) c d ⊎ Doom (WaysAmid script honest w v t) c

-- A message that stands nowhere any more dooms what it was ahead of: each reference of each vat, and each place that it did not stand in front of.
abbrev pub LostMessagesDoom : Type 0
LostMessagesDoom = (script : Script) (honest : ℕ → Bool) (w : World) (v : ℕ) (s t : Vat Name) (m : Name) → KeepsOrder script honest w v s t → IsNowhere (WaysAmid script honest w v t) m
    → ((u : ℕ) (x : Value Name) → Ahead (WaysAmid script honest w v s) m (LeadsAmid script honest w v s u x) → Doom (WaysAmid script honest w v t) (LeadsAmid script honest w v t u x))
    × ((l : Lane) (b : List Item) (n : Name) → Lacks m b → Ahead (WaysAmid script honest w v s) m (Mid l b n) → Doom (WaysAmid script honest w v t) (Mid l b n))

-- What is ahead of a message in a queue stands in front of it there.
abbrev pub QueuesTellOrder : Type 0
QueuesTellOrder = (script : Script) (honest : ℕ → Bool) (w : World) (v : ℕ) (a : List Item) (n x : Name) → Ahead (ways script honest w) x (Mid (Queue v) a n) → (o : Name) × IsIn (item x o) a

-- Where order is kept, and a message that was held comes to the queue of the vat: all that was ahead of it stands in front of it there.
-- So those that one name held come in their order; and those that a name held which waits for another come behind all that the other held.
abbrev pub HeldComeInOrder : Type 0
HeldComeInOrder = (script : Script) (honest : ℕ → Bool) (w : World) (v : ℕ) (s t : Vat Name) (m p : Name) (b : List Item) (n : Name) (a : List Item) (o : Name)
    → KeepsOrder script honest w v s t → StandsAt (WaysAmid script honest w v s) m (Held v p) b n → StandsAt (WaysAmid script honest w v t) m (Queue v) a o → StandsOnce (WaysAmid script honest w v t) m
    → (Doom (WaysAmid script honest w v t) (Mid (Held v p) b n) → ⊥)
    → (x : Name) → (((k : Name) × IsIn (item x k) b) ⊎ ((q k : Name) × ((WaysAmid script honest w v s).onward (Held v p) n ≡ End (Held v q) q) × IsIn (item x k) ((WaysAmid script honest w v s).stands (Held v q))))
    → (k : Name) × IsIn (item x k) a
