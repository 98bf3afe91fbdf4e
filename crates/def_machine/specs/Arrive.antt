-- What comes in from a link: the arrival of each note, and the notice of a cut.
use Rattle.std.specs.Prelude.{ℕ, Bool, true, false, List, [], ◌∷◌, Option, Some, None, ◌==◌, if◌then◌else◌, codes}
use Rattle.def_machine.specs.Values.{Words, Value, Null, Flag, Number, Letter, Text, Prim, Broken, Items, Ref, Naming, IsAnswer, IsGift, IsLearnt, IsCarried, under}
use Rattle.def_machine.specs.State.{Standing, Unsettled, WaitsOn, Viewed, Settled, Known, Wait, See, ToTell, Passed, Passeds, Plain, AGift, Many, NoMore, More, Note, Message, Delivery, Deliver, Open, Ask, SettledTo, Elsewhere, Shorten, GiftEntry, ListCame, Views, Act, ◌>>=◌, ◌>>◌, give, look, tell, each, draw, new_list, new_gift, is_gift, open_gift, mark, send_out, alter, come, mail, is_in}
use Rattle.def_machine.specs.Refs.{Place, Away, standing_of, host_at, follow, place, settle, resolve, send_on, inform}
use Rattle.def_machine.specs.Refs.{opened_refs}

-- A name in a note that arrives: known here by then as that name, or coming to be known, of that host.
pub data Incoming (N W : Type 0) : Type 0 where
  Old : N → Incoming N W
  New : W → ℕ → Incoming N W

unfoldable pub gift_at : {N : Type 0} → ℕ → ℕ → List (GiftEntry N) → Option (GiftEntry N)
gift_at p i [] = None
gift_at p i (g ∷ gs) = elim (is_gift p i g) [ true ↦ Some g | false ↦ gift_at p i gs ]

unfoldable pub opened_in : {N : Type 0} → Option (GiftEntry N) → Bool
opened_in (Some g) = g.opened
opened_in None = false

module _ {N W : Type 0} (K : Naming N W) where
  -- ---- learning

  unfoldable pub learn_name : Incoming N W → Act N N
  learn_name (Old n) = give n
  learn_name (New x h) = come K (IsLearnt x) h

  unfoldable pub learn_value : Value (Incoming N W) → Act N (Value N)
  learn_value Null = give Null
  learn_value (Flag b) = give (Flag b)
  learn_value (Number z) = give (Number z)
  learn_value (Letter c) = give (Letter c)
  learn_value (Text t) = give (Text t)
  learn_value (Prim n) = give (Prim n)
  learn_value (Broken p) = give (Broken p)
  learn_value (Items k) = give (Items k)
  learn_value (Ref x) = do
    n ← learn_name x
    give (Ref n)

  -- a gift is asked for, or is broken where its host is noticed
  unfoldable pub ask_for : ℕ → ℕ → ℕ → N → Act N (Unit {0})
  ask_for p h i n = do
    gone ← look (λ s. is_in h s.noticed)
    if gone then settle K n (Broken (codes "partition")) else send_out h (Ask p i n)

  -- a gift of that provider comes to be known
  unfoldable pub learn_gift : ℕ → ℕ → ℕ → Act N (Value N)
  learn_gift p h i = do
    n ← come K (IsGift h i) h
    ask_for p h i n
    give (Ref n)

  unfoldable pub make_list : List (Value N) → Act N (Value N)
  make_list vs = do
    k ← new_list vs
    tell (ListCame k vs)
    give (Items k)

  unfoldable mutual
    -- a value of a note from that peer, inner parts first, from left to right
    pub learn : ℕ → Passed (Incoming N W) → Act N (Value N)
    learn p (Plain y) = learn_value y
    learn p (AGift h i) = learn_gift p h i
    learn p (Many ys) = do
      vs ← learn_all p ys
      make_list vs

    pub learn_all : ℕ → Passeds (Incoming N W) → Act N (List (Value N))
    learn_all p NoMore = give []
    learn_all p (More y ys) = do
      v ← learn p y
      vs ← learn_all p ys
      give (v ∷ vs)

  unfoldable pub learn_message : Incoming N W → Act N N
  learn_message (Old n) = give n
  learn_message (New x h) = mail K (IsCarried x)

  -- ---- gifts at their host

  -- the gift of that provider and key, which comes to be where it is absent
  unfoldable pub gift_or_new : ℕ → ℕ → ℕ → Option (GiftEntry N) → Act N N
  gift_or_new v p i (Some g) = give g.name
  gift_or_new v p i None = do
    n ← come K (IsGift v i) v
    new_gift n p i
    give n

  unfoldable pub have_gift : ℕ → ℕ → Act N N
  have_gift p i = do
    v ← look (λ s. s.number)
    g ← look (λ s. gift_at p i s.gifts)
    gift_or_new v p i g

  -- an unsettled name breaks
  unfoldable pub break_at : N → Words → Standing N → Act N (Unit {0})
  break_at n p (Settled y) = give tt
  break_at n p _ = settle K n (Broken p)

  -- a gift that was not opened breaks
  unfoldable pub break_unopened : N → Bool → Act N (Unit {0})
  break_unopened n true = give tt
  break_unopened n false = do
    t ← look (λ s. standing_of K s.known n)
    break_at n (codes "partition") t

  unfoldable pub tell_asker : N → ℕ → Standing N → Act N (Unit {0})
  tell_asker n w (Settled y) = inform K n w
  tell_asker n w _ = alter K (ToTell w) n

  -- ---- arrival

  -- the answer comes to be, of which the sender is to be told, and the message is sent on here
  unfoldable pub send_on_asked : ℕ → N → N → Words → List (Value N) → Act N (Unit {0})
  send_on_asked from id n verb args = do
    v ← look (λ s. s.number)
    a ← come K (IsAnswer v id) v
    alter K (ToTell from) a
    send_on K (settle K) (record { id = id; target = Ref n; verb = verb; args = args; answer = Some a })

  -- The arguments are learnt. The message is sent on here, with an answer if it asks for one.
  unfoldable pub arrive_deliver : ℕ → Delivery (Incoming N W) → Incoming N W → Words → Passeds (Incoming N W) → Act N (Unit {0})
  arrive_deliver from d x verb ys = do
    id ← learn_message d.message
    args ← learn_all from ys
    n ← learn_name x
    if d.asks then send_on_asked from id n verb args else send_on K (settle K) (record { id = id; target = Ref n; verb = verb; args = args; answer = None })

  -- the gift is resolved to that
  unfoldable pub arrive_open : ℕ → ℕ → Incoming N W → Act N (Unit {0})
  arrive_open from i x = do
    y ← learn_name x
    n ← have_gift from i
    open_gift from i
    resolve K n (Ref y)

  -- where the provider is noticed, an unopened gift breaks
  unfoldable pub break_orphan : ℕ → ℕ → N → Act N (Unit {0})
  break_orphan p i n = do
    gone ← look (λ s. is_in p s.noticed)
    opened ← look (λ s. opened_in (gift_at p i s.gifts))
    if gone then break_unopened n opened else give tt

  -- The asker is to be told of the gift, at once if it is settled.
  unfoldable pub arrive_ask : ℕ → ℕ → ℕ → Act N (Unit {0})
  arrive_ask from p i = do
    n ← have_gift p i
    break_orphan p i n
    t ← look (λ s. standing_of K s.known n)
    tell_asker n from t

  unfoldable pub arrive_settled : ℕ → Incoming N W → Passed (Incoming N W) → Act N (Unit {0})
  arrive_settled from x y = do
    n ← learn_name x
    z ← learn from y
    settle K n z

  -- the view of the name is a gift, on which it waits
  unfoldable pub see : N → N → Act N (Unit {0})
  see n g = do
    tell (Views n g)
    alter K (See g) n
    alter K (Wait n) g

  -- The gift at host c, of provider h, which is here or is asked for.
  unfoldable pub gift_there : ℕ → ℕ → ℕ → ℕ → Act N N
  gift_there v h c i = if c == v then have_gift h i else (do
    g ← come K (IsGift c i) c
    send_out c (Ask h i g)
    give g)

  -- the object to which the name settled is asked of its host as a gift of the old host
  unfoldable pub view_there : N → ℕ → Act N (Unit {0})
  view_there n c = do
    v ← look (λ s. s.number)
    h ← look (λ s. host_at K s.number s.known n)
    i ← draw K
    send_out h (Shorten n c (under h i))
    g ← gift_there v h c (under h i)
    see n g

  unfoldable pub arrive_elsewhere : Incoming N W → ℕ → Act N (Unit {0})
  arrive_elsewhere x c = do
    n ← learn_name x
    gone ← look (λ s. is_in c s.noticed)
    if gone then settle K n (Broken (codes "partition")) else view_there n c

  unfoldable pub shorten_to : ℕ → Place N → Act N (Unit {0})
  shorten_to i (Away h n true) = send_out h (Open i n)
  shorten_to i _ = give tt

  -- the object to which the name settled is opened as that gift, unless it is broken here
  unfoldable pub arrive_shorten : Incoming N W → ℕ → Act N (Unit {0})
  arrive_shorten x i = do
    n ← learn_name x
    p ← look (λ s. place K s (follow K s (Ref n)))
    shorten_to i p

  -- a note from that peer arrives
  unfoldable pub arrive : ℕ → Note (Incoming N W) → Act N (Unit {0})
  arrive from (Deliver d x verb ys) = arrive_deliver from d x verb ys
  arrive from (Open i x) = arrive_open from i x
  arrive from (Ask p i x) = arrive_ask from p i
  arrive from (SettledTo x y) = arrive_settled from x y
  arrive from (Elsewhere x c) = arrive_elsewhere x c
  arrive from (Shorten x c i) = arrive_shorten x i

  -- ---- notice

  -- a name whose host is that vat and whose view is the name itself breaks
  unfoldable pub break_hosted : ℕ → N → Words → Standing N → Act N (Unit {0})
  break_hosted w n p Unsettled = settle K n (Broken p)
  break_hosted w n p (WaitsOn q) = settle K n (Broken p)
  break_hosted w n p (Viewed q) = give tt
  break_hosted w n p (Settled y) = give tt

  unfoldable pub notice_name : ℕ → Known N → Act N (Unit {0})
  notice_name w k = do
    t ← look (λ s. standing_of K s.known k.name)
    if k.host == w then break_hosted w k.name (codes "partition") t else give tt

  unfoldable pub notice_gift : ℕ → GiftEntry N → Act N (Unit {0})
  notice_gift w g = if g.provider == w then break_unopened g.name g.opened else give tt

  -- the names known by then break in order of coming to be known, and then the unopened gifts of that provider
  unfoldable pub notice_all : ℕ → Act N (Unit {0})
  notice_all w = do
    mark w
    names ← look (λ s. s.known)
    each (notice_name w) names
    gifts ← look (λ s. s.gifts)
    each (notice_gift w) gifts

  -- the link with that vat is noticed as cut, once
  unfoldable pub notice : ℕ → Act N (Unit {0})
  notice w = do
    gone ← look (λ s. is_in w s.noticed)
    if gone then give tt else notice_all w

-- opens each definition of this file, and of those below
unfoldable pub opened_arrive : Unit {0}
unfolding gift_at opened_in learn_name learn_value ask_for learn_gift make_list learn learn_all learn_message gift_or_new have_gift break_at break_unopened tell_asker send_on_asked arrive_deliver arrive_open break_orphan arrive_ask arrive_settled see gift_there view_there arrive_elsewhere shorten_to arrive_shorten arrive break_hosted notice_name notice_gift notice_all notice opened_refs
opened_arrive = tt
