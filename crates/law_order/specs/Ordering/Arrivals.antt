-- What is ahead as a note arrives.
use Rattle.std.specs.Prelude.{◌≡◌, ℕ, Bool, true, false, List, [], ◌∷◌, ◌++◌, Option, Some, None, slice_get, ◌⊎◌}
use Rattle.def_machine.specs.Values.{Words, Ref, Name, Gift, Naming}
use Rattle.def_machine.specs.State.{Message, Passeds, Delivery, Note, Deliver, Open, Ask, SettledTo, Elsewhere, Shorten, GiftEntry, Vat, Known, Unsettled, with_opened}
use Rattle.def_machine.specs.Arrive.{gift_at}
use Rattle.def_machine.specs.Refs.{entry_of, standing_of, follow, place, Settler, Near, Mine, Away, Gone, send_to}
use Rattle.def_machine.specs.Refs as refs
use Rattle.def_run.specs.World.{Script, Link, World, link_at, with_link, with_notes, names}
use Rattle.law_order.specs.Ordering.Ways.{Lane, Held, Way, Item, Place, Nowhere, Free, End, Mid, Ways, IsIn, Doom, Ahead}
use Rattle.law_order.specs.Ordering.Changes.{GoesOn, IsLost}
use Rattle.law_order.specs.Ordering.Messages.{IsNowhere}
use Rattle.law_order.specs.Ordering.Turns.{Within, IsTurned}
use Rattle.law_order.specs.Ordering.Places.{item, opened_there, aimed, open_place, gift_place, leads_in, leads_at, ways, amid}
use Rattle.law_order.specs.Ordering.Worlds.{IfGives, IsWaiting, IsObject, IsKnown, SameWays}
use Rattle.law_order.specs.Ordering.Places.{opened_places}

-- ---- a note that has not left its link yet

unfoldable pub in_front : Note Name → Link → Link
in_front n l = record l { notes = n ∷ l.notes }

-- the world in which that note still stands in front of the link from a to b
unfoldable pub keeping : ℕ → ℕ → Note Name → World → World
keeping a b n w = record w { links = with_link (in_front n) a b w.links }

-- An arrival takes the first note from its link; with the note kept there the world is as it was.
abbrev pub ArrivingChangesNothing : Type 0
ArrivingChangesNothing = (w : World) (a b : ℕ) (l : Link) (n : Note Name) (ns : List (Note Name)) → link_at a b w.links ≡ Some l → l.notes ≡ n ∷ ns
    → keeping a b n (record w { links = with_link (with_notes ns) a b w.links }) ≡ w

-- it delivers no message and lets no gift go
abbrev pub IsSilent : Note Name → Type 0
IsSilent (Deliver m n verb ys) = ⊥
IsSilent (Open i n) = ⊥
IsSilent (Ask p i n) = Unit {0}
IsSilent (SettledTo n y) = Unit {0}
IsSilent (Elsewhere n c) = Unit {0}
IsSilent (Shorten n c i) = ⊥

-- Such a note leaves its link in the middle of the step of its receiver, and no way is another.
abbrev pub SilentNotesLeave : Type 0
SilentNotesLeave = (script : Script) (honest : ℕ → Bool) (w : World) (a b : ℕ) (n : Note Name) (s : Vat Name) → IsSilent n
    → SameWays (ways script honest (amid b s (keeping a b n w))) (ways script honest (amid b s w))

-- ---- a message that arrives

-- an object, or a name that the vat knows
abbrev pub IsLearnt : ℕ → Script → Vat Name → Name → Type 0
IsLearnt v script s n = IsObject n ⊎ IsKnown (names script v) s n

-- The link from a to b is there, it is not cut, and both are honest.
pub record IsOpenWay (honest : ℕ → Bool) (a b : ℕ) (w : World) : Type 0 where
  pub link : Link
  pub found : link_at a b w.links ≡ Some link
  pub uncut : link.cut ≡ false
  pub sender : honest a ≡ true
  pub receiver : honest b ≡ true

-- The item goes on from its lane to that place, or is lost where that is nowhere.
abbrev pub GoesTo : Ways → Ways → Lane → Item → Place → Type 0
GoesTo w u l i (End k n) = GoesOn w u l i k n
GoesTo w u l i Nowhere = IsNowhere u i.mail → IsLost w u l i
GoesTo w u l i Free = ⊥
GoesTo w u l i (Mid k b n) = ⊥

-- it is sent to no vat, and not lost
abbrev pub IsHere : refs.Place Name → Type 0
IsHere Near = Unit {0}
IsHere (Mine n) = Unit {0}
IsHere (Away h n o) = ⊥
IsHere (Gone p) = ⊥

-- Of a message that arrives for what is data, an object of the receiver, or a promise of its own that waits: it goes on to where it is sent, in one change with the leaving of its note. On data it is lost.
abbrev pub CarriedMessagesGoOn : Type 0
CarriedMessagesGoOn = (script : Script) (honest : ℕ → Bool) (w : World) (a b : ℕ) (r s : Vat Name) (settle : Settler {N = Name} {W = Name} (names script b)) (m : Message Name) (asks : Bool) (answer : Option Name) (n : Name) (verb : Words) (ys : Passeds Name)
    → slice_get w.vats b ≡ Some r → IsOpenWay honest a b w → IsLearnt b script s n
    → let y = follow (names script b) s (Ref n) in let p = place (names script b) s y in
    ((q : Name) → p ≡ Mine q → (k : Known Name) × (entry_of (names script b) s.known q ≡ Some k) × IsWaiting k.standing)
    → IsHere p
    → IfGives (λ t. GoesTo (ways script honest (amid b s (keeping a b (Deliver (record { message = m.id; asks = asks; answer = answer }) n verb ys) w))) (ways script honest (amid b t w)) (Way a b) (item m.id n) (aimed b y p)) (send_to (names script b) settle m y p s)

-- Of one that arrives for what is broken: it is lost as its note leaves.
abbrev pub CarriedMessagesAreLost : Type 0
CarriedMessagesAreLost = (script : Script) (honest : ℕ → Bool) (w : World) (a b : ℕ) (r s : Vat Name) (m : Delivery Name) (n : Name) (verb : Words) (ys : Passeds Name) (problem : Words)
    → slice_get w.vats b ≡ Some r → IsOpenWay honest a b w → IsLearnt b script s n
    → place (names script b) s (follow (names script b) s (Ref n)) ≡ Gone problem
    → IsNowhere (ways script honest (amid b s w)) m.message
    → IsLost (ways script honest (amid b s (keeping a b (Deliver m n verb ys) w))) (ways script honest (amid b s w)) (Way a b) (item m.message n)

-- Of one that arrives for what is at another vat: it goes on as its new note is put, where that link is not cut.
abbrev pub CarriedMessagesArePutOn : Type 0
CarriedMessagesArePutOn = (script : Script) (honest : ℕ → Bool) (w : World) (a b h : ℕ) (r s : Vat Name) (m : Delivery Name) (n q : Name) (o : Bool) (verb : Words) (ys zs : Passeds Name)
    → slice_get w.vats b ≡ Some r → IsOpenWay honest a b w → IsOpenWay honest b h w → IsLearnt b script s n
    → place (names script b) s (follow (names script b) s (Ref n)) ≡ Away h q o
    → GoesOn (ways script honest (amid b s (keeping a b (Deliver m n verb ys) w))) (ways script honest (amid b (record s { outbox = s.outbox ++ record { to = h; note = Deliver m q verb zs } ∷ [] }) w)) (Way a b) (item m.message n) (Way b h) q

-- ---- learning

-- What is ahead of a name that a note brings, and of which the note stands first on its link, is ahead of where the receiver has that name.
abbrev pub LearntNamesAreBehind : Type 0
LearntNamesAreBehind = (script : Script) (honest : ℕ → Bool) (w : World) (a b : ℕ) (n : Name) → IsOpenWay honest a b w
    → let u = ways script honest w in (Doom u (Mid (Way a b) [] n) → Doom u (leads_at script honest b (slice_get w.vats b) (Ref n))) × ((x : Name) → Ahead u x (Mid (Way a b) [] n) → Ahead u x (leads_at script honest b (slice_get w.vats b) (Ref n)))

-- ---- notes that let gifts go

-- In u all stands and leads as in w, but what name p of vat v holds leads to e.
pub record IsLedTo (w u : Ways) (v : ℕ) (p : Name) (e : Place) : Type 0 where
  pub stands : (l : Lane) → Within (w.stands l) (u.stands l)
  pub there : (n : Name) → u.onward (Held v p) n ≡ e
  pub others : (l : Lane) (n : Name) → (u.onward l n ≡ w.onward l n) ⊎ (l ≡ Held v p)

-- gift g of that provider and draw stands at the vat, was not opened, and waits for nothing else
pub record IsShut (K : Naming Name Name) (s : Vat Name) (provider i : ℕ) (g : Name) : Type 0 where
  pub entry : GiftEntry Name
  pub found : gift_at provider i s.gifts ≡ Some entry
  pub name : entry.name ≡ g
  pub waits : standing_of K s.known g ≡ Unsettled
  pub unopened : opened_there g s.gifts ≡ false

-- As the note that lets a gift go acts, what the gift held leads to where the note's name leads, and else the ways are as they were: so what is ahead stays ahead, by the law on turns.
abbrev pub OpenedGiftsTurn : Type 0
OpenedGiftsTurn = (script : Script) (honest : ℕ → Bool) (w : World) (a b : ℕ) (r s : Vat Name) (i : ℕ) (n : Name)
    → slice_get w.vats b ≡ Some r → IsOpenWay honest a b w → IsShut (names script b) s a i (Gift b i)
    → gift_place script honest b i (amid b s (keeping a b (Open i n) w)).links ≡ Mid (Way a b) [] n
    → (u : Ways) → IsLedTo (ways script honest (amid b (record s { gifts = with_opened a i s.gifts }) w)) u b (Gift b i) (leads_in script honest b s (Ref n))
    → IsTurned (ways script honest (amid b s (keeping a b (Open i n) w))) u

-- As the note that asks for a gift acts, its receiver lets the gift go by a note of its own, which stands behind all that stands on the link to the host: what is ahead stays ahead, by the law on turns.
abbrev pub ShortenedGiftsTurn : Type 0
ShortenedGiftsTurn = (script : Script) (honest : ℕ → Bool) (w : World) (a b c : ℕ) (r s : Vat Name) (i : ℕ) (n q : Name)
    → slice_get w.vats b ≡ Some r → IsOpenWay honest a b w → IsOpenWay honest b c w
    → leads_in script honest b s (Ref n) ≡ End (Way b c) q
    → open_place script honest c i (amid b s w).links ≡ None
    → gift_place script honest c i (amid b s (keeping a b (Shorten n c i) w)).links ≡ Mid (Way a b) [] n
    → IsTurned (ways script honest (amid b s (keeping a b (Shorten n c i) w))) (ways script honest (amid b (record s { outbox = s.outbox ++ record { to = c; note = Open i q } ∷ [] }) w))

-- ---- ways that agree

-- where Good tells by which names things stand in a lane
module _ (Good : Lane → Name → Bool) where
  -- it is in its lane by such a name, and so is all in front of it
  abbrev pub IsGoodPlace : Place → Type 0
  IsGoodPlace Nowhere = Unit {0}
  IsGoodPlace Free = Unit {0}
  IsGoodPlace (End l n) = Good l n ≡ true
  IsGoodPlace (Mid l b n) = (Good l n ≡ true) × ((i : Item) → IsIn i b → Good l i.aim ≡ true)

  -- The two ways agree at all such names, by which all stands, and from which lanes lead on to such places.
  pub record Agree (w u : Ways) : Type 0 where
    pub stands : (l : Lane) → Within (w.stands l) (u.stands l)
    pub onward : (l : Lane) (n : Name) → Good l n ≡ true → u.onward l n ≡ w.onward l n
    pub places : (l : Lane) (n : Name) → Good l n ≡ true → IsGoodPlace (w.onward l n)
    pub items : (l : Lane) (i : Item) → IsIn i (w.stands l) → Good l i.aim ≡ true

-- What is ahead in the one is ahead in the other, and what is doomed is doomed: names by which nothing comes to a lane do not count.
abbrev pub AgreeingKeeps : Type 0
AgreeingKeeps = (Good : Lane → Name → Bool) (w u : Ways) → Agree Good w u → (c : Place) → IsGoodPlace Good c → (Doom w c → Doom u c) × ((x : Name) → Ahead w x c → Ahead u x c)

-- opens each definition of this file, and of those below
unfoldable pub opened_arrivals : Unit {0}
unfolding in_front keeping opened_places
opened_arrivals = tt
