-- The ways of the messages in a world, and the places of things in it.
use Rattle.std.specs.Prelude.{ℕ, Bool, true, false, not, List, [], ◌∷◌, ◌++◌, Option, Some, None, slice_get, ◌==◌, ◌&&◌, ◌||◌}
use Rattle.def_machine.specs.Values.{Value, Ref, Name, Object, Gift, same_name, host_of}
use Rattle.def_machine.specs.State.{Message, Standing, Unsettled, WaitsOn, Viewed, Settled, Known, Note, Deliver, Open, Shorten, GiftEntry, Vat, is_in}
use Rattle.def_machine.specs.Refs.{entry_of, standing_of, follow, place, Near, Mine, Away, Gone}
use Rattle.def_machine.specs.Refs as refs
use Rattle.def_run.specs.World.{Script, Link, World, link_at, names, put_at, push_all}
use Rattle.law_order.specs.Ordering.Ways.{Lane, Queue, Held, Way, Item, Place, Nowhere, Free, End, Mid, Ways}
use Rattle.def_run.specs.World.{opened_world}

-- ---- what stands where

abbrev pub item : Name → Name → Item
item m n = record { mail = m; aim = n }

-- Of the messages in a queue those on an object: data takes messages in no order.
unfoldable pub queued : List (Message Name) → List Item
queued [] = []
queued (m ∷ ms) = elim m.target [ Ref n ↦ item m.id n ∷ queued ms | _ ↦ queued ms ]

unfoldable pub held_on : Name → List (Message Name) → List Item
held_on n [] = []
held_on n (m ∷ ms) = item m.id n ∷ held_on n ms

unfoldable pub held_in : Name → Option (Known Name) → List Item
held_in n (Some k) = held_on n k.held
held_in n None = []

-- of the notes on a link those that deliver messages
unfoldable pub delivered : List (Note Name) → List Item
delivered [] = []
delivered (Deliver m n verb ys ∷ ns) = item m.message n ∷ delivered ns
delivered (n ∷ ns) = delivered ns

-- ---- gifts under way

-- the key of a gift that a note lets go at vat h, where it goes to h itself
unfoldable pub opens : ℕ → Note Name → Bool
opens i (Open j n) = j == i
opens i _ = false

unfoldable pub shortens : ℕ → ℕ → Note Name → Bool
shortens h i (Shorten n c j) = (c == h) && (j == i)
shortens h i _ = false

-- what a note that lets a gift go is about
unfoldable pub subject : Note Name → Option Name
subject (Open i n) = Some n
subject (Shorten n c i) = Some n
subject _ = None

unfoldable pub in_lane : Lane → List Item → Option Name → Option Place
in_lane l b (Some n) = Some (Mid l b n)
in_lane l b None = None

-- the place of the first note that a test holds of, in a lane in which those stand in front
unfoldable pub note_place : (Note Name → Bool) → Lane → List Item → List (Note Name) → Option Place
note_place f l b [] = None
note_place f l b (n ∷ ns) = elim (f n) [ true ↦ in_lane l b (subject n) | false ↦ note_place f l (b ++ delivered (n ∷ [])) ns ]

unfoldable pub any_note : (Note Name → Bool) → List (Note Name) → Bool
any_note f [] = false
any_note f (n ∷ ns) = f n || any_note f ns

unfoldable pub first_place : Option Place → Option Place → Option Place
first_place (Some c) o = Some c
first_place None o = o

unfoldable pub opened_there : Name → List (GiftEntry Name) → Bool
opened_there n [] = false
opened_there n (g ∷ gs) = (same_name g.name n && g.opened) || opened_there n gs

-- ---- where a reference leads

-- where a message would stand that is sent on this followed value now
unfoldable pub aimed : ℕ → Value Name → refs.Place Name → Place
aimed v (Ref n) Near = End (Queue v) n
aimed v y Near = Nowhere
aimed v y (Mine n) = End (Held v n) n
aimed v y (Away h n o) = End (Way v h) n
aimed v y (Gone p) = Nowhere

-- a name that the vat does not know yet, as it will be when it is learnt
unfoldable pub by_host : ℕ → Vat Name → Name → ℕ → Place
by_host v s n h = elim (is_in h s.noticed) [ true ↦ Nowhere | false ↦ elim (v == h) [ true ↦ End (Held v n) n | false ↦ End (Way v h) n ] ]

module _ (script : Script) (honest : ℕ → Bool) where
  -- Only of links between honest vats is anything said.
  unfoldable pub is_honest : Link → Bool
  is_honest l = honest l.from && honest l.to

  -- the note that lets gift i of vat h go where it is: on the link from its provider to h
  unfoldable pub open_place : ℕ → ℕ → List Link → Option Place
  open_place h i [] = None
  open_place h i (l ∷ ls) = elim (is_honest l && (l.to == h)) [
    | true ↦ first_place (note_place (opens i) (Way l.from l.to) [] l.notes) (open_place h i ls)
    | false ↦ open_place h i ls
  ]

  -- the note that asks the provider of that gift to let it go: on the link to the provider
  unfoldable pub shorten_place : ℕ → ℕ → List Link → Option Place
  shorten_place h i [] = None
  shorten_place h i (l ∷ ls) = elim (is_honest l) [
    | true ↦ first_place (note_place (shortens h i) (Way l.from l.to) [] l.notes) (shorten_place h i ls)
    | false ↦ shorten_place h i ls
  ]

  -- whether any such note was ever put
  unfoldable pub was_put : ℕ → ℕ → List Link → Bool
  was_put h i [] = false
  was_put h i (l ∷ ls) = (is_honest l && (((l.to == h) && any_note (opens i) l.log) || any_note (shortens h i) l.log)) || was_put h i ls

  unfoldable pub or_never : Bool → Option Place → Place
  or_never put (Some c) = c
  or_never true None = Nowhere
  or_never false None = Free

  -- What lets a gift go that was not opened: the note on its way to the host, else that on its way to the provider. Where one was put and is there no more, nothing will.
  unfoldable pub gift_place : ℕ → ℕ → List Link → Place
  gift_place h i ls = or_never (was_put h i ls) (first_place (open_place h i ls) (shorten_place h i ls))

  unfoldable pub by_follow : ℕ → Vat Name → Value Name → Place
  by_follow v s x = let y = follow (names script v) s x in aimed v y (place (names script v) s y)

  unfoldable pub of_name : ℕ → Vat Name → Name → Option (Known Name) → Place
  of_name v s (Object h i) o = by_follow v s (Ref (Object h i))
  of_name v s n (Some k) = by_follow v s (Ref n)
  of_name v s n None = by_host v s n (host_of n)

  unfoldable pub leads_in : ℕ → Vat Name → Value Name → Place
  leads_in v s (Ref n) = of_name v s n (entry_of (names script v) s.known n)
  leads_in v s x = by_follow v s x

  unfoldable pub leads_at : ℕ → Option (Vat Name) → Value Name → Place
  leads_at v (Some s) x = leads_in v s x
  leads_at v None x = Nowhere

  -- of the vats and the links of a world
  module _ (vats : List (Vat Name)) (links : List Link) where
    -- the place of a reference: of a value that vat v holds
    unfoldable pub leads : ℕ → Value Name → Place
    leads v x = leads_at v (slice_get vats v) x

    -- ---- where the messages that a name holds go

    -- an unsettled name that waits on none: a gift that was not opened goes by its note, and of any other nothing is said
    unfoldable pub unsettled : ℕ → Name → List (GiftEntry Name) → Place
    unsettled v (Gift h i) gs = elim ((h == v) && not (opened_there (Gift h i) gs)) [ true ↦ gift_place h i links | false ↦ Free ]
    unsettled v n gs = Free

    unfoldable pub released : ℕ → Name → List (GiftEntry Name) → Standing Name → Place
    released v n gs Unsettled = unsettled v n gs
    released v n gs (WaitsOn q) = leads v (Ref q)
    released v n gs (Viewed q) = leads v (Ref q)
    released v n gs (Settled y) = leads v y

    unfoldable pub released_at : ℕ → Name → Option (Vat Name) → Place
    released_at v n (Some s) = released v n s.gifts (standing_of (names script v) s.known n)
    released_at v n None = Nowhere

    -- ---- the ways

    unfoldable pub stands_at : Lane → List Item
    stands_at (Queue v) = elim (slice_get vats v) [ Some s ↦ queued s.queue | None ↦ [] ]
    stands_at (Held v n) = elim (slice_get vats v) [ Some s ↦ held_in n (entry_of (names script v) s.known n) | None ↦ [] ]
    stands_at (Way a b) = elim (link_at a b links) [ Some l ↦ elim (is_honest l) [ true ↦ delivered l.notes | false ↦ [] ] | None ↦ [] ]

    -- a link brings what stands there to where the receiver has its name; what is put on one that is cut is lost
    unfoldable pub over : ℕ → Name → Link → Place
    over b n l = elim (is_honest l) [ true ↦ elim l.cut [ true ↦ Nowhere | false ↦ leads b (Ref n) ] | false ↦ Free ]

    unfoldable pub onward_at : Lane → Name → Place
    onward_at (Queue v) n = Free
    onward_at (Held v p) n = released_at v p (slice_get vats v)
    onward_at (Way a b) n = elim (link_at a b links) [ Some l ↦ over b n l | None ↦ Nowhere ]

    unfoldable pub ways_of : Ways
    ways_of = record { stands = stands_at; onward = onward_at }

  unfoldable pub ways : World → Ways
  ways w = ways_of w.vats w.links

-- the world in the middle of a step of vat v: what the vat put in this step is on its links
unfoldable pub amid : ℕ → Vat Name → World → World
amid v s w = record w { vats = put_at v s w.vats; links = push_all v s.outbox w.links }

-- opens each definition of this file, and of those below
unfoldable pub opened_places : Unit {0}
unfolding queued held_on held_in delivered opens shortens subject in_lane note_place any_note first_place opened_there is_honest open_place shorten_place was_put or_never gift_place aimed by_follow by_host of_name leads_in leads_at leads unsettled released released_at stands_at over onward_at ways_of ways amid opened_world
opened_places = tt
