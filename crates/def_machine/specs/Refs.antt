-- References inside one vat: following, passing, sending, resolving and settling.
use Rattle.std.specs.Prelude.{ℕ, zero, suc, ◌+◌, ◌-◌, Bool, true, false, List, [], ◌∷◌, Option, Some, None, length, ◌==◌, nat_le, if◌then◌else◌, codes, is_some}
use Rattle.def_machine.specs.Values.{Words, Value, Null, Text, Broken, Items, Ref, Naming, Spot, Own, Foreign, NoObject, IsAnswer}
use Rattle.def_machine.specs.State.{Message, Standing, Unsettled, WaitsOn, Viewed, Settled, Known, Hold, Wait, WaitOn, React, ToTell, Settle, Passed, Passeds, Plain, AGift, Many, NoMore, More, Delivery, Deliver, Open, SettledTo, Elsewhere, Vat, Act, Sends, Reacts, Settles, Waits, Lost, Posted, Astray, ◌>>=◌, ◌>>◌, give, look, tell, stop, spend, each, draw, send_out, enqueue, alter, come, new_message, new_lone_message, for_some, is_in}
use Rattle.def_machine.specs.Native.{list_at}
use Rattle.def_machine.specs.State.{opened_state}
use Rattle.def_machine.specs.Native.{opened_native}

-- where a followed value is
pub data Place (N : Type 0) : Type 0 where
  -- data that is not broken, or an object of this vat
  Near : Place N
  -- an unsettled promise of this vat
  Mine : N → Place N
  -- a name of another host; whether it is an object
  Away : ℕ → N → Bool → Place N
  -- broken, with its problem
  Gone : Words → Place N

unfoldable pub standing_in : {N : Type 0} → Option (Known N) → Standing N
standing_in (Some k) = k.standing
standing_in None = Unsettled

unfoldable pub host_in : {N : Type 0} → ℕ → Option (Known N) → ℕ
host_in v (Some k) = k.host
host_in v None = v

-- ---- weights and limits

-- the weight of what is no list
unfoldable pub own_weight : {N : Type 0} → Value N → ℕ
own_weight (Text t) = 1 + length t
own_weight (Broken p) = 1 + length p
own_weight _ = 1

-- the room that is left behind so much
unfoldable pub take_room : ℕ → ℕ → Option ℕ
take_room n room = elim (nat_le n room) [ true ↦ Some (room - n) | false ↦ None ]

-- the room that is left behind all of these
unfoldable pub room_behind : {N : Type 0} → (Value N → ℕ → Option ℕ) → List (Value N) → ℕ → Option ℕ
room_behind f [] room = Some room
room_behind f (v ∷ vs) room = elim (f v room) [ Some left ↦ room_behind f vs left | None ↦ None ]

unfoldable pub room_by : {N : Type 0} → (List (Value N) → ℕ → Option ℕ) → List (List (Value N)) → Value N → ℕ → Option ℕ
room_by members ls (Items k) room = elim (take_room 1 room) [ Some left ↦ members (list_at ls k) left | None ↦ None ]
room_by members ls v room = take_room (own_weight v) room

-- The room that is left behind a value, each part as f follows it; none where it does not fit, or is a list more than so many high.
-- A list weighs 1 and its members.
unfoldable pub room_after : {N : Type 0} → (Value N → Value N) → List (List (Value N)) → ℕ → Value N → ℕ → Option ℕ
room_after f ls zero v room = room_by (λ vs left. None) ls (f v) room
room_after f ls (suc d) v room = room_by (room_behind (λ w left. room_after f ls d w left)) ls (f v) room

-- the greatest weight of a list, and its greatest height
unfoldable pub most : ℕ
most = 65536

unfoldable pub highest : ℕ
highest = 100

unfoldable pub has_room : Option ℕ → Bool
has_room (Some left) = true
has_room None = false

-- whether a list of these is within the limits
unfoldable pub list_fits : {N : Type 0} → List (List (Value N)) → List (Value N) → Bool
list_fits ls vs = has_room (room_behind (λ w left. room_after (λ v. v) ls (highest - 1) w left) vs (most - 1))

-- what passes for an argument, and its weight
pub record Parcel (N : Type 0) : Type 0 where
  pub weight : ℕ
  pub value : Passed N

unfoldable pub too_heavy : {N : Type 0} → Parcel N
too_heavy = record { weight = 10; value = Plain (Broken (codes "too heavy")) }

module _ {N W : Type 0} (K : Naming N W) where
  -- ---- following

  unfoldable pub entry_of : List (Known N) → N → Option (Known N)
  entry_of [] n = None
  entry_of (k ∷ ks) n = elim (K.same k.name n) [ true ↦ Some k | false ↦ entry_of ks n ]

  unfoldable pub standing_of : List (Known N) → N → Standing N
  standing_of ks n = standing_in (entry_of ks n)

  unfoldable pub host_at : ℕ → List (Known N) → N → ℕ
  host_at v ks n = host_in v (entry_of ks n)

  -- on from a name that stands so; waits are not followed
  unfoldable pub led : (Value N → Value N) → N → Standing N → Value N
  led on n (Settled y) = on y
  led on n (Viewed q) = on (Ref q)
  led on n (WaitsOn q) = Ref n
  led on n Unsettled = Ref n

  -- A name is followed to what it settled to and to its view, at most so many times.
  unfoldable pub follow_at : ℕ → List (Known N) → Value N → Value N
  follow_at zero ks x = x
  follow_at (suc d) ks (Ref n) = led (λ y. follow_at d ks y) n (standing_of ks n)
  follow_at (suc d) ks x = x

  -- broken, where its host is noticed
  unfoldable pub severed_by : ℕ → Vat N → N → Value N
  severed_by h s n = elim (is_in h s.noticed) [ true ↦ Broken (codes "partition") | false ↦ Ref n ]

  unfoldable pub severed_at : Vat N → N → Spot → Value N
  severed_at s n (Own i) = Ref n
  severed_at s n (Foreign h) = severed_by h s n
  severed_at s n NoObject = severed_by (host_at s.number s.known n) s n

  unfoldable pub severed : Vat N → Value N → Value N
  severed s (Ref n) = severed_at s n (K.spot n)
  severed s y = y

  -- what a value is followed to at this vat
  unfoldable pub follow : Vat N → Value N → Value N
  follow s x = severed s (follow_at (suc (length s.known)) s.known x)

  unfoldable pub hosted : ℕ → N → ℕ → Place N
  hosted v n h = elim (v == h) [ true ↦ Mine n | false ↦ Away h n false ]

  unfoldable pub spotted : Vat N → N → Spot → Place N
  spotted s n (Own i) = Near
  spotted s n (Foreign h) = Away h n true
  spotted s n NoObject = hosted s.number n (host_at s.number s.known n)

  -- the place of a followed value
  unfoldable pub place : Vat N → Value N → Place N
  place s (Ref n) = spotted s n (K.spot n)
  place s (Broken p) = Gone p
  place s y = Near

  -- ---- passing

  unfoldable pub shapes : (Value N → Passed N) → List (Value N) → Passeds N
  shapes f [] = NoMore
  shapes f (v ∷ vs) = More (f v) (shapes f vs)

  unfoldable pub shape_by : (List (Value N) → Passed N) → List (List (Value N)) → Value N → Passed N
  shape_by members ls (Items k) = members (list_at ls k)
  shape_by members ls y = Plain y

  -- What passes for a value: what its promises settled to stands in their place, at any depth.
  unfoldable pub shape : ℕ → Vat N → Value N → Passed N
  shape zero s x = shape_by (λ vs. Plain (Broken (codes "too heavy"))) s.lists (follow s x)
  shape (suc d) s x = shape_by (λ vs. Many (shapes (λ v. shape d s v) vs)) s.lists (follow s x)

  unfoldable pub parcel_of_list : Vat N → Value N → Option ℕ → Parcel N
  parcel_of_list s x (Some left) = record { weight = most - left; value = shape highest s x }
  parcel_of_list s x None = too_heavy

  unfoldable pub parcel_at : Vat N → Value N → Parcel N
  parcel_at s (Items k) = parcel_of_list s (Items k) (room_after (follow s) s.lists highest (Items k) most)
  parcel_at s y = record { weight = own_weight y; value = Plain y }

  -- a list above the limits passes as broken
  unfoldable pub parcel : Vat N → Value N → Parcel N
  parcel s x = parcel_at s (follow s x)

  -- A name of this vat or of the receiver passes, and the receiver is to be told of a promise of this vat.
  -- Another passes as a gift: its host is told of that by open.
  unfoldable pub address_plain : ℕ → Value N → Place N → Act N (Passed N)
  address_plain w y (Away h n o) = if h == w then give (Plain y) else (do
    i ← draw K
    send_out h (Open i n)
    give (AGift h i))
  address_plain w y (Mine n) = do
    alter K (ToTell w) n
    give (Plain y)
  address_plain w y _ = give (Plain y)

  unfoldable mutual
    -- what passes is made fit for that receiver, from left to right
    pub address : ℕ → Passed N → Act N (Passed N)
    address w (Plain y) = do
      p ← look (λ s. place s y)
      address_plain w y p
    address w (AGift h i) = give (AGift h i)
    address w (Many ys) = do
      zs ← address_all w ys
      give (Many zs)

    pub address_all : ℕ → Passeds N → Act N (Passeds N)
    address_all w NoMore = give NoMore
    address_all w (More y ys) = do
      z ← address w y
      zs ← address_all w ys
      give (More z zs)

  -- one passing: its whole weight is spent, then its words are drawn
  unfoldable pub pass : ℕ → Value N → Act N (Passed N)
  pass w x = do
    y ← look (λ s. parcel s x)
    spend y.weight
    address w y.value

  unfoldable pub pass_all : ℕ → List (Value N) → Act N (Passeds N)
  pass_all w [] = give NoMore
  pass_all w (x ∷ xs) = do
    y ← pass w x
    ys ← pass_all w xs
    give (More y ys)

  -- what a note says of a message: which it is, whether it has an answer, and that answer
  abbrev pub delivery_of : Message N → Delivery N
  delivery_of m = record { message = m.id; asks = is_some m.answer; answer = m.answer }

  -- the arguments pass, and then the note is put
  unfoldable pub deliver : Message N → ℕ → N → Act N (Unit {0})
  deliver m h n = do
    args ← pass_all h m.args
    tell (Posted h m.id)
    send_out h (Deliver (delivery_of m) n m.verb args)

  -- ---- settling

  abbrev pub Settler : Type 0
  Settler = N → Value N → Act N (Unit {0})

  unfoldable pub wait_on : N → N → Act N (Unit {0})
  wait_on p q = do
    tell (Waits p q)
    alter K (WaitOn q) p
    alter K (Wait p) q

  -- The message goes out with a new answer, on which its answer here waits.
  unfoldable pub pass_on : Message N → ℕ → N → Act N (Unit {0})
  pass_on m h n = for_some m.answer (λ p. do
    a ← come K (IsAnswer h m.id) h
    deliver (record m { answer = Some a }) h n
    wait_on p a) (deliver m h n)

  -- a message that is here, with the answer that it may have, on a followed target at this place
  unfoldable pub send_to : Settler → Message N → Value N → Place N → Act N (Unit {0})
  send_to settle m y Near = enqueue (record m { target = y })
  send_to settle m y (Mine n) = alter K (Hold (record m { target = y })) n
  send_to settle m y (Away h n o) = pass_on m h n
  send_to settle m y (Gone p) = do
    tell (Lost m.id)
    for_some m.answer (λ a. settle a (Broken p)) (give tt)

  unfoldable pub send_on : Settler → Message N → Act N (Unit {0})
  send_on settle m = do
    y ← look (λ s. follow s m.target)
    p ← look (λ s. place s y)
    send_to settle m y p

  unfoldable pub inform_of : N → ℕ → Value N → Place N → Act N (Unit {0})
  inform_of p w y (Away h n true) = send_out w (Elsewhere p h)
  inform_of p w y _ = do
    z ← pass w y
    send_out w (SettledTo p z)

  -- A vat is told what a name settled to. One that is noticed is told nothing.
  unfoldable pub inform : N → ℕ → Act N (Unit {0})
  inform p w = do
    y ← look (λ s. follow s (Ref p))
    q ← look (λ s. place s y)
    gone ← look (λ s. is_in w s.noticed)
    if gone then give tt else inform_of p w y q

  unfoldable pub any_of : (Value N → Bool) → List (Value N) → Bool
  any_of f [] = false
  any_of f (v ∷ vs) = elim (f v) [ true ↦ true | false ↦ any_of f vs ]

  unfoldable pub reached : (List (Value N) → Bool) → List (List (Value N)) → N → Value N → Bool
  reached members ls p (Items k) = members (list_at ls k)
  reached members ls p (Ref n) = K.same n p
  reached members ls p _ = false

  -- whether members, each followed, any number of times, lead from a value to that name
  unfoldable pub reaches : ℕ → Vat N → N → Value N → Bool
  reaches zero s p x = false
  reaches (suc d) s p x = reached (any_of (λ v. reaches d s p v)) s.lists p (follow s x)

  unfoldable pub cut_cycle : Bool → Value N → Value N
  cut_cycle true y = Broken (codes "cycle")
  cut_cycle false y = y

  -- what a name settles to: a list that leads back to it is broken
  unfoldable pub target_of : Vat N → N → Value N → Value N
  target_of s p (Items k) = cut_cycle (reaches (suc (length s.lists)) s p (Items k)) (Items k)
  target_of s p y = y

  -- The held messages are sent on, then the names that wait settle, then the reactions are queued, then the vats that are to be told are told.
  unfoldable pub settle_known : Settler → N → Value N → Known N → Act N (Unit {0})
  settle_known settle p y k = do
    tell (Settles p y)
    alter K (Settle y) p
    each (send_on settle) k.held
    each (λ q. settle q y) k.waiting
    each enqueue k.reactions
    each (inform p) k.told

  -- what has settled stays as it is
  unfoldable pub settle_standing : Settler → N → Value N → Known N → Standing N → Act N (Unit {0})
  settle_standing settle p y k (Settled z) = give tt
  settle_standing settle p y k _ = settle_known settle p y k

  unfoldable pub settle_entry : Settler → N → Value N → Option (Known N) → Act N (Unit {0})
  settle_entry settle p y None = give tt
  settle_entry settle p y (Some k) = settle_standing settle p y k k.standing

  unfoldable pub settle_one : Settler → Settler
  settle_one settle p x = do
    y ← look (λ s. target_of s p x)
    k ← look (λ s. entry_of s.known p)
    settle_entry settle p y k

  unfoldable pub settle_at : ℕ → Settler
  settle_at zero p y = stop Astray
  settle_at (suc d) p y = settle_one (λ q z. settle_at d q z) p y

  -- Each settling inside is of another name, so this depth suffices.
  unfoldable pub settle : Settler
  settle p y = do
    n ← look (λ s. suc (suc (length s.known)))
    settle_at n p y

  unfoldable pub led_by_wait : (N → Bool) → Standing N → Bool
  led_by_wait on (WaitsOn q) = on q
  led_by_wait on (Viewed q) = on q
  led_by_wait on _ = false

  -- whether the chain of waits inside this vat leads from n to p, in at most so many steps
  unfoldable pub waits_lead : ℕ → List (Known N) → N → N → Bool
  waits_lead zero ks p n = K.same n p
  waits_lead (suc d) ks p n = elim (K.same n p) [ true ↦ true | false ↦ led_by_wait (λ q. waits_lead d ks p q) (standing_of ks n) ]

  unfoldable pub wait_unless_cycle : N → N → Act N (Unit {0})
  wait_unless_cycle p q = do
    back ← look (λ s. waits_lead (length s.known) s.known p q)
    if back then settle p (Broken (codes "cycle")) else wait_on p q

  unfoldable pub resolve_to : N → Value N → Place N → Act N (Unit {0})
  resolve_to p y (Mine q) = wait_unless_cycle p q
  resolve_to p y (Away h q false) = wait_unless_cycle p q
  resolve_to p y _ = settle p y

  unfoldable pub resolve : N → Value N → Act N (Unit {0})
  resolve p x = do
    y ← look (λ s. follow s x)
    q ← look (λ s. place s y)
    resolve_to p y q

  -- ---- sending and reacting

  -- the host of the answer of a message on a target at this place
  unfoldable pub answer_host : ℕ → Place N → ℕ
  answer_host v (Away h n o) = h
  answer_host v _ = v

  -- a new message, whose answer is at the host of the target
  unfoldable pub send_first : Message N → Value N → Place N → Act N (Unit {0})
  send_first m y (Away h n o) = deliver m h n
  send_first m y p = send_to settle m y p

  -- a send by an activation, on a value as it is held; it gives the answer
  unfoldable pub send : ℕ → Value N → Words → List (Value N) → Act N (Value N)
  send act x verb args = do
    y ← look (λ s. follow s x)
    p ← look (λ s. place s y)
    v ← look (λ s. s.number)
    new ← new_message K (answer_host v p)
    tell (Sends act (record { id = new.0; target = x; verb = verb; args = args; answer = Some new.1 }))
    send_first (record { id = new.0; target = y; verb = verb; args = args; answer = Some new.1 }) y p
    give (Ref new.1)

  -- a send without an answer, which gives nothing
  unfoldable pub send_only : ℕ → Value N → Words → List (Value N) → Act N (Value N)
  send_only act x verb args = do
    y ← look (λ s. follow s x)
    p ← look (λ s. place s y)
    id ← new_lone_message K
    tell (Sends act (record { id = id; target = x; verb = verb; args = args; answer = None }))
    send_first (record { id = id; target = y; verb = verb; args = args; answer = None }) y p
    give Null

  -- a reaction waits at an unsettled name, and else is queued
  unfoldable pub react_at : Message N → Place N → Act N (Unit {0})
  react_at m (Mine n) = alter K (React m) n
  react_at m (Away h n false) = alter K (React m) n
  react_at m _ = enqueue m

  unfoldable pub reaction : N → Value N → Value N → N → Message N
  reaction id o x a = record { id = id; target = o; verb = codes "run"; args = x ∷ []; answer = Some a }

  -- The object o, held so and followed to that, reacts on x.
  unfoldable pub react : ℕ → Value N → Value N → Value N → Act N (Value N)
  react act x o near = do
    v ← look (λ s. s.number)
    new ← new_message K v
    tell (Reacts act x o (reaction new.0 near x new.1))
    p ← look (λ s. place s (follow s x))
    react_at (reaction new.0 near x new.1) p
    give (Ref new.1)

-- opens each definition of this file, and of those below
unfoldable pub opened_refs : Unit {0}
unfolding standing_in host_in own_weight take_room room_behind room_by room_after most highest has_room list_fits too_heavy entry_of standing_of host_at led follow_at severed_by severed_at severed follow hosted spotted place shapes shape_by shape parcel_of_list parcel_at parcel address_plain address address_all pass pass_all deliver wait_on pass_on send_to send_on inform_of inform any_of reached reaches cut_cycle target_of settle_known settle_standing settle_entry settle_one settle_at settle led_by_wait waits_lead wait_unless_cycle resolve_to resolve answer_host send_first send send_only react_at reaction react opened_state opened_native
opened_refs = tt
