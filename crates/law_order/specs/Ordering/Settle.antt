-- What becomes of the ways as a name of a vat settles.
use Rattle.std.specs.Prelude.{◌≡◌, ℕ, Bool, true, false, List, [], ◌∷◌, Some, length, slice_get, ◌==◌, ◌&&◌, ◌⊎◌}
use Rattle.def_machine.specs.Values.{Value, Null, Flag, Number, Letter, Text, Prim, Broken, Items, Ref, Name, Naming, Spot, Own, Foreign, NoObject, same_name}
use Rattle.def_machine.specs.State.{Message, Settle, Settled, Known, Vat, each, with_change, is_in}
use Rattle.def_machine.specs.Refs.{Settler, entry_of, severed, place, send_on}
use Rattle.def_run.specs.World.{Script, World, names}
use Rattle.law_order.specs.Ordering.Ways.{Lane, Queue, Held, Way, Item, Place, Nowhere, Free, End, Mid, Ways, IsIn, IsOneWay, Doom, Ahead}
use Rattle.law_order.specs.Ordering.Turns.{Reroutes, IsPassed}
use Rattle.law_order.specs.Ordering.Places.{aimed, ways, amid}
use Rattle.law_order.specs.Ordering.Worlds.{IfGives, IsWaiting, IsObject, StandsAlike, FollowsEnd}

-- ---- what a name of a vat holds goes elsewhere

-- each place, where what was to be held for name p of vat v goes to e at once
unfoldable pub passed_by : ℕ → Name → Place → Place → Place
passed_by v p e (End (Held u q) n) = elim ((u == v) && same_name q p) [ true ↦ e | false ↦ End (Held u q) n ]
passed_by v p e (End (Queue u) n) = End (Queue u) n
passed_by v p e (End (Way a b) n) = End (Way a b) n
passed_by v p e (Mid l b n) = Mid l b n
passed_by v p e Nowhere = Nowhere
passed_by v p e Free = Free

unfoldable pub onward_to : (Lane → Name → Place) → ℕ → Name → Place → Lane → Name → Place
onward_to f v p e (Held u q) n = elim ((u == v) && same_name q p) [ true ↦ e | false ↦ f (Held u q) n ]
onward_to f v p e (Queue u) n = f (Queue u) n
onward_to f v p e (Way a b) n = f (Way a b) n

-- these ways, but what is held for name p of vat v leads to e
unfoldable pub led_to : Ways → ℕ → Name → Place → Ways
led_to w v p e = record { stands = w.stands; onward = onward_to w.onward v p e }

unfoldable pub without : (Lane → List Item) → ℕ → Name → Lane → List Item
without f v p (Held u q) = elim ((u == v) && same_name q p) [ true ↦ [] | false ↦ f (Held u q) ]
without f v p (Queue u) = f (Queue u)
without f v p (Way a b) = f (Way a b)

-- these ways, but name p of vat v holds nothing
unfoldable pub emptied : Ways → ℕ → Name → Ways
emptied w v p = record { stands = without w.stands v p; onward = w.onward }

-- What is doomed stays doomed, and what is ahead stays ahead, where each place becomes what f tells.
abbrev pub KeepsBy : Ways → Ways → (Place → Place) → Type 0
KeepsBy w u f = (c : Place) → (Doom w c → Doom u (f c)) × ((x : Name) → Ahead w x c → Ahead u x (f c))

-- From w to u what name p of vat v held is sent on: all that stood there is ahead of the place e to which that lane leads. No other message leaves its lane, and else the ways grow.
pub record SentOn (w u : Ways) (v : ℕ) (p : Name) (e : Place) : Type 0 where
  pub leads : (n : Name) → u.onward (Held v p) n ≡ e
  pub lanes : (l : Lane) (n : Name) → (u.onward l n ≡ w.onward l n) ⊎ (IsOneWay l × (w.onward l n ≡ Free))
  pub stands : (l : Lane) (i : Item) → IsIn i (w.stands l) → IsIn i (u.stands l) ⊎ ((l ≡ Held v p) × Ahead u i.mail e)

-- ---- settlings

-- data or an object
abbrev pub IsEnded : Value Name → Type 0
IsEnded (Ref n) = IsObject n
IsEnded Null = Unit {0}
IsEnded (Flag b) = Unit {0}
IsEnded (Number z) = Unit {0}
IsEnded (Letter c) = Unit {0}
IsEnded (Text t) = Unit {0}
IsEnded (Prim k) = Unit {0}
IsEnded (Broken p) = Unit {0}
IsEnded (Items k) = Unit {0}

module _ (K : Naming Name Name) (s t : Vat Name) (p : Name) (y : Value Name) where
  -- From s to t the name p, which waits at s, settled to y. All else that tells where messages go is as it was.
  pub record OnlySettles : Type 0 where
    pub number : t.number ≡ s.number
    pub gifts : t.gifts ≡ s.gifts
    pub noticed : t.noticed ≡ s.noticed
    pub queue : t.queue ≡ s.queue
    pub outbox : t.outbox ≡ s.outbox
    pub names_known : length t.known ≡ length s.known
    pub before : (k : Known Name) × (entry_of K s.known p ≡ Some k) × IsWaiting k.standing
    pub after : (k : Known Name) × (entry_of K t.known p ≡ Some k) × (k.standing ≡ Settled y)
    pub others : (n : Name) → (n ≡ p) ⊎ ((n ≡ p → ⊥) × StandsAlike n (entry_of K s.known n) (entry_of K t.known n))

  -- It is a promise of the vat itself, which did not notice itself, and y is data or an object.
  pub record SettlesHere (v : ℕ) : Type 0 where
    pub only : OnlySettles
    pub own : s.number ≡ v
    pub host : (k : Known Name) → entry_of K s.known p ≡ Some k → k.host ≡ v
    pub host_after : (k : Known Name) → entry_of K t.known p ≡ Some k → k.host ≡ v
    pub itself : is_in v s.noticed ≡ false
    pub plain : IsObject p → ⊥
    pub ended : IsEnded y
    pub follows : FollowsEnd K t

-- where a message would stand that is sent on this value, which leads on to nothing
unfoldable pub aimed_at : Script → ℕ → Vat Name → Value Name → Place
aimed_at script v s y = let z = severed (names script v) s y in aimed v z (place (names script v) s z)

-- ---- laws

-- What is ahead stays ahead, and what is doomed stays doomed, as what a name held is sent on.
abbrev pub SendingOnKeeps : Type 0
SendingOnKeeps = (w u : Ways) (v : ℕ) (p : Name) (e : Place) → SentOn w u v p e → KeepsBy w u (λ c. c)

-- As a name settles that holds no message and leads to the place of what it settles to, it is passed by: what would have been held for it goes to that place.
abbrev pub SettledIsPassed : Type 0
SettledIsPassed = (script : Script) (honest : ℕ → Bool) (w : World) (v : ℕ) (r s t : Vat Name) (p : Name) (y : Value Name)
    → slice_get w.vats v ≡ Some r → SettlesHere (names script v) s t p y v
    → let e = aimed_at script v t y in IsPassed (emptied (led_to (ways script honest (amid v s w)) v p e) v p) (ways script honest (amid v t w)) v p e (passed_by v p e)

-- What name p held leads to e from now on: nothing was said of where it led, it led there, or e is doomed.
abbrev pub IsReady : Ways → ℕ → Name → Place → Type 0
IsReady w v p e = (n : Name) → Reroutes w (led_to w v p e) (w.onward (Held v p) n) e

-- Where what a name held is sent on between s and m, as if the name had not settled, and from m to t it settles: what is ahead stays ahead, and what is doomed stays doomed.
abbrev pub SettlingKeeps : Type 0
SettlingKeeps = (script : Script) (honest : ℕ → Bool) (w : World) (v : ℕ) (r s m t : Vat Name) (p : Name) (y : Value Name)
    → slice_get w.vats v ≡ Some r → SettlesHere (names script v) m t p y v
    → let e = aimed_at script v t y in IsReady (ways script honest (amid v s w)) v p e
    → SentOn (led_to (ways script honest (amid v s w)) v p e) (emptied (led_to (ways script honest (amid v m w)) v p e) v p) v p e
    → KeepsBy (ways script honest (amid v s w)) (ways script honest (amid v t w)) (passed_by v p e)

-- ---- by the machine

abbrev pub IsOwnSpot : Spot → Type 0
IsOwnSpot (Own i) = Unit {0}
IsOwnSpot (Foreign h) = ⊥
IsOwnSpot NoObject = ⊥

-- an object of the vat, or data that is not broken
abbrev pub IsHere : Naming Name Name → Value Name → Type 0
IsHere K (Ref n) = IsOwnSpot (K.spot n)
IsHere K Null = Unit {0}
IsHere K (Flag b) = Unit {0}
IsHere K (Number z) = Unit {0}
IsHere K (Letter c) = Unit {0}
IsHere K (Text t) = Unit {0}
IsHere K (Prim k) = Unit {0}
IsHere K (Broken p) = ⊥
IsHere K (Items k) = Unit {0}

-- the vat with p settled to y
abbrev pub settled_to : Naming Name Name → Vat Name → Name → Value Name → Vat Name
settled_to K s p y = record s { known = with_change K (Settle y) p s.known }

abbrev pub AllOn : Name → List (Message Name) → Type 0
AllOn p [] = Unit {0}
AllOn p (m ∷ ms) = (m.target ≡ Ref p) × AllOn p ms

-- A name settles to what is nowhere: to data, or to what is broken. What is ahead stays ahead, and what is doomed stays doomed; what was held for the name is doomed.
abbrev pub SettlingToNothingKeeps : Type 0
SettlingToNothingKeeps = (script : Script) (honest : ℕ → Bool) (w : World) (v : ℕ) (r s : Vat Name) (p : Name) (y : Value Name)
    → slice_get w.vats v ≡ Some r → let t = settled_to (names script v) s p y in SettlesHere (names script v) s t p y v
    → aimed_at script v t y ≡ Nowhere → IsReady (ways script honest (amid v s w)) v p (aimed_at script v t y)
    → KeepsBy (ways script honest (amid v s w)) (ways script honest (amid v t w)) (passed_by v p (aimed_at script v t y))

-- A name settles to an object of the vat, or to data that is not broken, and the messages that it held are sent on: what is ahead stays ahead, and what is doomed stays doomed.
abbrev pub SettlingHereKeeps : Type 0
SettlingHereKeeps = (script : Script) (honest : ℕ → Bool) (w : World) (v : ℕ) (r s : Vat Name) (p : Name) (y : Value Name) (k : Known Name) (settle : Settler {N = Name} {W = Name} (names script v))
    → slice_get w.vats v ≡ Some r → let t = settled_to (names script v) s p y in SettlesHere (names script v) s t p y v
    → entry_of (names script v) s.known p ≡ Some k → AllOn p k.held → IsHere (names script v) y → IsReady (ways script honest (amid v s w)) v p (aimed_at script v t y)
    → IfGives (λ z. KeepsBy (ways script honest (amid v s w)) (ways script honest (amid v z w)) (passed_by v p (aimed_at script v t y))) (each (send_on (names script v) settle) k.held t)

-- opens the definitions of this file
unfoldable pub opened_settle : Unit {0}
unfolding passed_by onward_to led_to without emptied aimed_at
opened_settle = tt
