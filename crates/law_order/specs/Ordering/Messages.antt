-- The place of each message in the ways of a world.
use Rattle.std.specs.Prelude.{◌≡◌, ℕ, zero, suc, Bool, true, false, List, [], ◌∷◌, ◌++◌, Option, Some, None}
use Rattle.def_machine.specs.Values.{Name, same_name}
use Rattle.def_machine.specs.State.{Known, Vat}
use Rattle.def_run.specs.World.{Script, Link, World}
use Rattle.law_order.specs.Ordering.Ways.{Lane, Queue, Held, Way, Item, Place, Nowhere, Free, End, Mid, Ways, Doom, Ahead}
use Rattle.law_order.specs.Ordering.Changes.{Lacks, Loses, Grows, GoesOn, IsLost, GoesOneWay}
use Rattle.law_order.specs.Ordering.Places.{item, first_place, ways, opened_places}

-- ---- where a message stands

-- The message m stands in lane l on the name n, and just b is in front of it.
pub record StandsAt (w : Ways) (m : Name) (l : Lane) (b : List Item) (n : Name) : Type 0 where
  pub behind : List Item
  pub found : w.stands l ≡ b ++ item m n ∷ behind

-- That is its place. A message that stands in no lane, as one that was taken, is lost, or is on data, is nowhere.
pub data IsPlace (w : Ways) (m : Name) : Place → Type 0 where
  stands_there : {l : Lane} {b : List Item} {n : Name} → StandsAt w m l b n → IsPlace w m (Mid l b n)
  stands_not : ((l : Lane) → Lacks m (w.stands l)) → IsPlace w m Nowhere

-- it stands in one lane at most, and there once
abbrev pub StandsOnce : Ways → Name → Type 0
StandsOnce w m = (l k : Lane) (b c : List Item) (n o : Name) → StandsAt w m l b n → StandsAt w m k c o → Mid k c o ≡ Mid l b n

-- the message stands nowhere in front of that place
abbrev pub LacksAt : Name → Place → Type 0
LacksAt x (Mid l b n) = Lacks x b
LacksAt x Nowhere = Unit {0}
LacksAt x Free = Unit {0}
LacksAt x (End l n) = Unit {0}

-- the message stands nowhere, and in front of nothing
pub record IsNowhere (w : Ways) (x : Name) : Type 0 where
  pub lanes : (l : Lane) → Lacks x (w.stands l)
  pub places : (l : Lane) (n : Name) → LacksAt x (w.onward l n)

-- ---- as it is found

-- its place in lane l, of which those are left behind b
unfoldable pub found_behind : Lane → List Item → List Item → Name → Option Place
found_behind l b [] m = None
found_behind l b (i ∷ js) m = elim (same_name i.mail m) [ true ↦ Some (Mid l b i.aim) | false ↦ found_behind l (b ++ i ∷ []) js m ]

unfoldable pub found_in : Ways → List Lane → Name → Option Place
found_in w [] m = None
found_in w (l ∷ ls) m = first_place (found_behind l [] (w.stands l) m) (found_in w ls m)

unfoldable pub held_lanes : ℕ → List (Known Name) → List Lane
held_lanes v [] = []
held_lanes v (k ∷ ks) = Held v k.name ∷ held_lanes v ks

-- of vats that are numbered from v on
unfoldable pub vat_lanes : ℕ → List (Vat Name) → List Lane
vat_lanes v [] = []
vat_lanes v (s ∷ ss) = Queue v ∷ (held_lanes v s.known ++ vat_lanes (suc v) ss)

unfoldable pub link_lanes : List Link → List Lane
link_lanes [] = []
link_lanes (l ∷ ls) = Way l.from l.to ∷ link_lanes ls

-- each lane in which anything can stand: the queues, what each vat holds for the names that it knows, and the links
unfoldable pub lanes_of : World → List Lane
lanes_of w = vat_lanes zero w.vats ++ link_lanes w.links

unfoldable pub or_nowhere : Option Place → Place
or_nowhere (Some c) = c
or_nowhere None = Nowhere

-- the place of message m in a world
unfoldable pub place_of : Script → (ℕ → Bool) → World → Name → Place
place_of script honest w m = or_nowhere (found_in (ways script honest w) (lanes_of w) m)

-- ---- what comes behind

-- From w to u more came to the end of lane l, and none left it.
abbrev pub More : Ways → Ways → Lane → Type 0
More w u l = (js : List Item) × (u.stands l ≡ w.stands l ++ js)

-- What was at c before a change is at d after it: all that was ahead of it is ahead of it still, and where it was doomed it is.
abbrev pub StaysBehind : Ways → Ways → Place → Place → Type 0
StaysBehind w u c d = (Doom w c → Doom u d) × ((x : Name) → Ahead w x c → Ahead u x d)

-- ---- laws

-- The place that is found is the place of the message, whatever the world.
abbrev pub PlacesAreFound : Type 0
PlacesAreFound = (script : Script) (honest : ℕ → Bool) (w : World) (m : Name) → IsPlace (ways script honest w) m (place_of script honest w m)

-- A message that stands once has no other place.
abbrev pub PlacesAreOne : Type 0
PlacesAreOne = (w : Ways) (m : Name) (c d : Place) → StandsOnce w m → IsPlace w m c → IsPlace w m d → d ≡ c

-- Where the ways grow, all that was ahead of the end of a lane is ahead of what comes to stand there next.
abbrev pub ComersAreBehind : Type 0
ComersAreBehind = (w u : Ways) (l : Lane) (n : Name) → Grows w u → StaysBehind w u (End l n) (Mid l (w.stands l) n)

-- Where the first message of a lane goes on to the end of lane k, it comes behind all that stood there: what was ahead of it, and of that end, is ahead of it now.
abbrev pub GoneOnIsBehind : Type 0
GoneOnIsBehind = (w u : Ways) (l k : Lane) (i : Item) (n : Name) → GoesOn w u l i k n → GoesOneWay u l
    → StaysBehind w u (Mid l [] i.aim) (Mid k (w.stands k) n) × StaysBehind w u (End k n) (Mid k (w.stands k) n)

-- A message that is lost is nowhere, and what it was ahead of is doomed.
abbrev pub LostIsNowhere : Type 0
LostIsNowhere = (w u : Ways) (l : Lane) (i : Item) → IsLost w u l i → GoesOneWay u l
    → IsPlace u i.mail Nowhere × ((c d : Place) → Loses l i c d → Ahead w i.mail c → Doom u d)

-- What a message is ahead of that stands nowhere is doomed.
abbrev pub NowhereIsDoomed : Type 0
NowhereIsDoomed = (w : Ways) (x : Name) (c : Place) → IsNowhere w x → LacksAt x c → Ahead w x c → Doom w c

-- opens the definitions of this file
unfoldable pub opened_messages : Unit {0}
unfolding found_behind found_in held_lanes vat_lanes link_lanes lanes_of or_nowhere place_of opened_places
opened_messages = tt
