-- What is ahead in worlds.
use Rattle.std.specs.Prelude.{◌≡◌, ℕ, Bool, true, List, [], ◌∷◌, ◌++◌, Option, Some, None, suc, length, slice_get, ◌⊎◌}
use Rattle.def_machine.specs.Values.{Value, Null, Flag, Number, Letter, Text, Prim, Broken, Items, Ref, Name, Root, Object, Promise, Answer, Gift, Sent, Naming, host_of}
use Rattle.def_machine.specs.State.{Message, Standing, Unsettled, WaitsOn, Viewed, Settled, Known, Note, Deliver, Open, Ask, SettledTo, Elsewhere, Shorten, Put, Vat, Done, Gives, Throws, Ejects, Stops, begun}
use Rattle.def_machine.specs.Refs.{entry_of, follow_at, place, Mine, Away, Settler, send_to}
use Rattle.def_run.specs.World.{Script, Event, World, names, readied}
use Rattle.law_order.specs.Ordering.Ways.{Item, Lane, Queue, Mid, Ways, Doom, Ahead}
use Rattle.law_order.specs.Ordering.Changes.{Grows, IsTaken}
use Rattle.law_order.specs.Ordering.Turns.{Within}
use Rattle.law_order.specs.Ordering.Places.{queued, held_on, held_in, aimed, ways, amid}

-- Nothing is ahead of the place in front of a queue, and it is not doomed, whoever is honest.
abbrev pub QueuesAreFree : Type 0
QueuesAreFree = (script : Script) (honest : ℕ → Bool) (w : World) (v : ℕ) (n : Name) → ((x : Name) → Ahead (ways script honest w) x (Mid (Queue v) [] n) → ⊥) × (Doom (ways script honest w) (Mid (Queue v) [] n) → ⊥)

-- The ways of a world do not hang on its history, its fuel or its draws: an entry that is idle changes none.
abbrev pub IdleChangesNoWay : Type 0
IdleChangesNoWay = (script : Script) (honest : ℕ → Bool) (w : World) (es : List Event) (fuel : ℕ) (drawn : List ℕ) → ways script honest (record w { history = es; fuel = fuel; drawn = drawn }) ≡ ways script honest w

abbrev pub IfGives : {A : Type 0} → (Vat Name → Type 0) → Done Name A → Type 0
IfGives P (Gives a s) = P s
IfGives P (Throws t s) = Unit {0}
IfGives P (Ejects n y s) = Unit {0}
IfGives P (Stops c s) = Unit {0}

-- it has not settled, nor does it have a view
abbrev pub IsWaiting : Standing Name → Type 0
IsWaiting Unsettled = Unit {0}
IsWaiting (WaitsOn q) = Unit {0}
IsWaiting (Viewed q) = ⊥
IsWaiting (Settled y) = ⊥

-- Where a message is sent on a followed value, it is ahead of that place from then on, in the middle of the step of its vat: it stands there, or what is sent there is lost.
-- It asks that the vat and the host of the value are honest, and that a promise of the vat to which the value is followed is known and waits.
abbrev pub SentMessagesAreAhead : Type 0
SentMessagesAreAhead = (script : Script) (honest : ℕ → Bool) (w : World) (v : ℕ) (r s : Vat Name) (settle : Settler {N = Name} {W = Name} (names script v)) (m : Message Name) (y : Value Name)
    → slice_get w.vats v ≡ Some r → honest v ≡ true → ((h : ℕ) (n : Name) (o : Bool) → place (names script v) s y ≡ Away h n o → honest h ≡ true)
    → ((n : Name) → place (names script v) s y ≡ Mine n → (k : Known Name) × (entry_of (names script v) s.known n ≡ Some k) × IsWaiting k.standing)
    → IfGives (λ t. Ahead (ways script honest (amid v t w)) m.id (aimed v y (place (names script v) s y))) (send_to (names script v) settle m y (place (names script v) s y) s)

-- ---- acts that only add

-- it lets no gift go
abbrev pub LetsNothingGo : Note Name → Type 0
LetsNothingGo (Deliver m n verb ys) = Unit {0}
LetsNothingGo (Open i n) = ⊥
LetsNothingGo (Ask p i n) = Unit {0}
LetsNothingGo (SettledTo n y) = Unit {0}
LetsNothingGo (Elsewhere n c) = Unit {0}
LetsNothingGo (Shorten n c i) = ⊥

abbrev pub NothingGoes : List (Put Name) → Type 0
NothingGoes [] = Unit {0}
NothingGoes (p ∷ ps) = LetsNothingGo p.note × NothingGoes ps

-- what is known of a name stands as it stood, and no message that it held is gone
abbrev pub StandsAlike : Name → Option (Known Name) → Option (Known Name) → Type 0
StandsAlike n None None = Unit {0}
StandsAlike n (Some j) (Some k) = (k.standing ≡ j.standing) × (k.host ≡ j.host) × Within (held_on n j.held) (held_on n k.held)
StandsAlike n None (Some k) = ⊥
StandsAlike n (Some j) None = ⊥

-- In s and t no name is known in the one alone, each stands alike, and what names hold in s they hold in t.
pub record RefersAlike (K : Naming Name Name) (s t : Vat Name) : Type 0 where
  pub number : t.number ≡ s.number
  pub gifts : t.gifts ≡ s.gifts
  pub noticed : t.noticed ≡ s.noticed
  pub names_known : length t.known ≡ length s.known
  pub entries : (n : Name) → StandsAlike n (entry_of K s.known n) (entry_of K t.known n)

-- From s to t the vat only added: messages at the ends of its queue and of what names hold, and notes that let no gift go. No name came to be known or stands otherwise.
pub record AddsOnly (K : Naming Name Name) (s t : Vat Name) : Type 0 where
  pub alike : RefersAlike K s t
  pub queue : (js : List Item) × (queued t.queue ≡ queued s.queue ++ js)
  pub held : (n : Name) → (js : List Item) × (held_in n (entry_of K t.known n) ≡ held_in n (entry_of K s.known n) ++ js)
  pub notes : (ps : List (Put Name)) × (t.outbox ≡ s.outbox ++ ps) × NothingGoes ps

-- In the middle of a step the ways only grow by what only adds, so what is ahead stays ahead.
abbrev pub AddingGrows : Type 0
AddingGrows = (script : Script) (honest : ℕ → Bool) (w : World) (v : ℕ) (s t : Vat Name) → AddsOnly (names script v) s t → Grows (ways script honest (amid v s w)) (ways script honest (amid v t w))

-- the same stands in each lane of both, and each leads to the same places
abbrev pub SameWays : Ways → Ways → Type 0
SameWays w u = ((l : Lane) → Within (w.stands l) (u.stands l) × Within (u.stands l) (w.stands l)) × ((l : Lane) (n : Name) → u.onward l n ≡ w.onward l n)

-- A step of a vat begins in the ways of its world.
abbrev pub BeginningChangesNoWay : Type 0
BeginningChangesNoWay = (script : Script) (honest : ℕ → Bool) (w : World) (v : ℕ) (s : Vat Name) → slice_get w.vats v ≡ Some s → SameWays (ways script honest w) (ways script honest (amid v (readied w s) w))

-- As the first message of the queue of a vat is taken, if it is on an object, it leaves the queue, and nothing else changes: so by the law on takings what is ahead stays ahead.
abbrev pub FirstIsTaken : Type 0
FirstIsTaken = (script : Script) (honest : ℕ → Bool) (w : World) (v : ℕ) (s : Vat Name) (m : Message Name) (ms : List (Message Name)) (n : Name) → s.queue ≡ m ∷ ms → m.target ≡ Ref n
    → IsTaken (ways script honest (amid v s w)) (ways script honest (amid v (record s { queue = ms }) w)) v (record { mail = m.id; aim = n })

-- ---- names that come to be known

abbrev pub IsObject : Name → Type 0
IsObject (Object h i) = Unit {0}
IsObject (Root h) = ⊥
IsObject (Promise h i) = ⊥
IsObject (Answer h m) = ⊥
IsObject (Gift h i) = ⊥
IsObject (Sent m) = ⊥

module _ (K : Naming Name Name) (s : Vat Name) where
  abbrev pub IsKnown : Name → Type 0
  IsKnown n = (k : Known Name) × (entry_of K s.known n ≡ Some k)

  -- data, an object, or a name that is known and waits
  abbrev pub IsFixed : Value Name → Type 0
  IsFixed (Ref n) = IsObject n ⊎ ((k : Known Name) × (entry_of K s.known n ≡ Some k) × IsWaiting k.standing)
  IsFixed Null = Unit {0}
  IsFixed (Flag b) = Unit {0}
  IsFixed (Number z) = Unit {0}
  IsFixed (Letter c) = Unit {0}
  IsFixed (Text p) = Unit {0}
  IsFixed (Prim k) = Unit {0}
  IsFixed (Broken p) = Unit {0}
  IsFixed (Items k) = Unit {0}

  -- No object is among the names known, and what is known is followed to data, to an object, or to a name that is known and waits.
  pub record FollowsEnd : Type 0 where
    pub objects : (n : Name) → IsObject n → entry_of K s.known n ≡ None
    pub fixed : (n : Name) → IsKnown n → IsFixed (follow_at K (suc (length s.known)) s.known (Ref n))

-- As a name comes to be known with its host, the ways only grow: it led before to where it leads now.
abbrev pub ComingGrows : Type 0
ComingGrows = (script : Script) (honest : ℕ → Bool) (w : World) (v : ℕ) (s : Vat Name) (n : Name) → FollowsEnd (names script v) s → s.number ≡ v → (IsObject n → ⊥) → entry_of (names script v) s.known n ≡ None
    → Grows (ways script honest (amid v s w)) (ways script honest (amid v (record s { known = s.known ++ begun n (host_of n) ∷ [] }) w))
