-- What is ahead stays ahead: one induction for every change of the ways.
use Rattle.std.proofs.Common.{◌≡◌, ℕ, List, sym, subst, ◌⊎◌, inl, inr}
use Rattle.def_machine.specs.Values.{Name}
use Rattle.law_order.specs.Ordering.Ways.{Lane, Way, Item, Place, Nowhere, Free, End, Mid, Ways, IsIn, IsOneWay, Doom, nowhere, by_end, by_mid, Follows, doomed, one_way, alike, beside, Ahead, doomed_there, in_end, in_mid, past_end, past_mid}
use Rattle.law_order.specs.Ordering.Turns.{IsDefinite}

-- from that place the way leads, now or later, to one for which Q holds
pub data Leads (w : Ways) (Q : Place → Type 0) : Place → Type 0 where
  now : {c : Place} → Q c → Leads w Q c
  later_end : {l : Lane} {n : Name} → Leads w Q (w.onward l n) → Leads w Q (End l n)
  later_mid : {l : Lane} {b : List Item} {n : Name} → Leads w Q (w.onward l n) → Leads w Q (Mid l b n)

-- it holds of a place where it holds of the next on its way, and of what is doomed
pub record Closed (w : Ways) (P : Place → Type 0) : Type 0 where
  pub of_doom : (c : Place) → Doom w c → P c
  pub of_end : (l : Lane) (n : Name) → P (w.onward l n) → P (End l n)
  pub of_mid : (l : Lane) (b : List Item) (n : Name) → P (w.onward l n) → P (Mid l b n)

pub doom_closed : (w : Ways) → Closed w (Doom w)
doom_closed w = record { of_doom = λ c d. d; of_end = λ l n d. by_end d; of_mid = λ l b n d. by_mid d }

pub ahead_closed : (w : Ways) (x : Name) → Closed w (Ahead w x)
ahead_closed w x = record { of_doom = λ c d. doomed_there d; of_end = λ l n a. past_end a; of_mid = λ l b n a. past_mid a }

pub lead : {Q : Place → Type 0} (w : Ways) (P : Place → Type 0) → Closed w P → ((c : Place) → Q c → P c) → (c : Place) → Leads w Q c → P c
lead w P k f c (now q) = f c q
lead w P k f c (later_end {l = l} {n = n} h) = k.of_end l n (lead w P k f (w.onward l n) h)
lead w P k f c (later_mid {l = l} {b = b} {n = n} h) = k.of_mid l b n (lead w P k f (w.onward l n) h)

-- ---- places that are doomed, or from which something follows

pub doom_end : (w : Ways) (l : Lane) (n : Name) → Doom w (End l n) → Doom w (w.onward l n)
doom_end w l n (by_end h) = h

pub doom_mid : (w : Ways) (l : Lane) (b : List Item) (n : Name) → Doom w (Mid l b n) → Doom w (w.onward l n)
doom_mid w l b n (by_mid h) = h

pub doom_free : (w : Ways) → Doom w Free → ⊥
doom_free w h = elim h [ ]

pub follows_self : (w : Ways) (c : Place) → IsDefinite c → Follows w c c
follows_self w Nowhere d = doomed nowhere
follows_self w (End l n) d = alike
follows_self w other d = absurd d

pub behind_nowhere : (w : Ways) (c : Place) → Follows w Nowhere c → Doom w c
behind_nowhere w c (doomed h) = h

pub behind_free : (w : Ways) (c : Place) → Follows w Free c → Doom w c
behind_free w c (doomed h) = h

-- ---- changes

-- the message x, and what is so where it remains
module _ (w u : Ways) (x : Name) (Stays : Type 0) (Went : Lane → Name → Type 0) where
  -- the message is in the second list where it was in the first, or it went on from there
  abbrev pub Left : Lane → List Item → List Item → Type 0
  Left l b d = (m : Name) → IsIn (record { mail = x; aim = m }) b → (Stays × IsIn (record { mail = x; aim = m }) d) ⊎ Went l m

  abbrev pub Lacks : List Item → Type 0
  Lacks b = (m : Name) → IsIn (record { mail = x; aim = m }) b → ⊥

  -- What was at the first place is at the second after the change.
  pub data Turns : Place → Place → Type 0 where
    from_free : {d : Place} → Turns Free d
    to_doom : {c d : Place} → Doom u d → Turns c d
    same_end : {l : Lane} {n : Name} → Turns (End l n) (End l n)
    same_mid : {l : Lane} {b d : List Item} {n : Name} → Left l b d → Turns (Mid l b n) (Mid l d n)
    -- it comes to a place in that lane behind all that stood there
    held_back : {l : Lane} {b : List Item} {n : Name} {d : Place} → Left l (w.stands l) b → Leads u (λ c. c ≡ Mid l b n) d → Turns (End l n) d
    -- it leaves a lane in which the message was not in front of it
    passed_end : {l : Lane} {n : Name} {d : Place} → Lacks (w.stands l) → Turns (w.onward l n) d → Turns (End l n) d
    passed_mid : {l : Lane} {b : List Item} {n : Name} {d : Place} → Lacks b → Turns (w.onward l n) d → Turns (Mid l b n) d
    -- it has another name from which the lane leads to the same place
    renamed : {l : Lane} {n m : Name} → u.onward l n ≡ u.onward l m → IsDefinite (u.onward l n) → Turns (End l n) (End l m)

  -- the ends of a lane stay, or all of them become one place, or all are doomed
  abbrev pub Shifts : (Place → Place) → Lane → Type 0
  Shifts f l = ((n : Name) → f (End l n) ≡ End l n) ⊎ (((c : Place) × IsOneWay l × IsDefinite c × ((n : Name) → f (End l n) ≡ c)) ⊎ ((n : Name) → Doom u (End l n) × Doom u (f (End l n))))

  -- of the ends of links: it becomes that; in a lane what stands in front does not count for this
  pub data Goes : Place → Place → Type 0 where
    turning : {c d : Place} → Turns c d → Goes c d
    between : {l : Lane} {b d : List Item} {n : Name} → Goes (Mid l b n) (Mid l d n)

  -- A change of the ways, by which places become others as f tells where links lead to them.
  pub record Change (f : Place → Place) : Type 0 where
    pub standing : (l : Lane) → Left l (w.stands l) (u.stands l)
    pub lanes : (l : Lane) (n : Name) → Turns (w.onward l n) (u.onward l n)
    pub links : (a b : ℕ) → ((n : Name) → u.onward (Way a b) n ≡ f (w.onward (Way a b) n)) ⊎ ((n : Name) → u.onward (Way a b) n ≡ Nowhere)
    pub places : (c : Place) → Goes c (f c)
    pub ends : (l : Lane) → Shifts f l

  -- what holds of a place behind the message, where it remains, and where it went on
  pub record Holds (P : Place → Type 0) : Type 0 where
    pub closed : Closed u P
    pub in_place : Stays → (l : Lane) (m n : Name) → IsIn (record { mail = x; aim = m }) (u.stands l) → Follows u (End l m) (End l n) → P (End l n)
    pub in_front : Stays → (l : Lane) (b : List Item) (m n : Name) → IsIn (record { mail = x; aim = m }) b → Follows u (End l m) (End l n) → P (Mid l b n)
    pub went : (l : Lane) (m n : Name) → Went l m → Follows u (End l m) (End l n) → P (u.onward l n)

  module _ (f : Place → Place) (k : Change f) where
    at_mid : (l : Lane) (b : List Item) (n : Name) (d : Place) → Leads u (λ c. c ≡ Mid l b n) d → Leads u (Turns (w.onward l n)) d
    at_mid l b n d (now e) = rw e (later_mid (now (k.lanes l n)))
    at_mid l b n d (later_end h) = later_end (at_mid l b n _ h)
    at_mid l b n d (later_mid h) = later_mid (at_mid l b n _ h)

    -- ---- on from a lane

    on_end : (P : Place → Type 0) → Closed u P → (l : Lane) (n : Name) → ((d : Place) → Turns (w.onward l n) d → P d) → (d : Place) → Turns (End l n) d → P d
    on_end P c l n g d (to_doom h) = c.of_doom d h
    on_end P c l n g d same_end = c.of_end l n (g (u.onward l n) (k.lanes l n))
    on_end P c l n g d (held_back {b = b} i h) = lead u P c g d (at_mid l b n d h)
    on_end P c l n g d (passed_end i t) = g d t
    on_end P c l n g d (renamed {m = m} e i) = c.of_end l m (subst P e (g (u.onward l n) (k.lanes l n)))

    on_mid : (P : Place → Type 0) → Closed u P → (l : Lane) (b : List Item) (n : Name) → ((d : Place) → Turns (w.onward l n) d → P d) → (d : Place) → Turns (Mid l b n) d → P d
    on_mid P c l b n g d (to_doom h) = c.of_doom d h
    on_mid P c l b n g d (same_mid {d = b'} i) = c.of_mid l b' n (g (u.onward l n) (k.lanes l n))
    on_mid P c l b n g d (passed_mid i t) = g d t

    at_nowhere : (d : Place) → Turns Nowhere d → Doom u d
    at_nowhere d (to_doom h) = h

    -- what is doomed stays doomed
    pub doom_kept : (c : Place) → Doom w c → (d : Place) → Turns c d → Doom u d
    doom_kept c nowhere d t = at_nowhere d t
    doom_kept c (by_end {l = l} {n = n} h) d t = on_end (Doom u) (doom_closed u) l n (λ e s. doom_kept (w.onward l n) h e s) d t
    doom_kept c (by_mid {l = l} {b = b} {n = n} h) d t = on_mid (Doom u) (doom_closed u) l b n (λ e s. doom_kept (w.onward l n) h e s) d t

    goes_doomed : (c d : Place) → Doom w c → Goes c d → Doom u d
    goes_doomed c d h (turning t) = doom_kept c h d t
    goes_doomed c d h (between {l = l} {n = n}) = by_mid (doom_kept (w.onward l n) (doom_mid w l _ n h) (u.onward l n) (k.lanes l n))

    -- ---- what follows

    one_way_kept : (l : Lane) (m n : Name) → IsOneWay l → Shifts f l → Follows u (f (End l m)) (f (End l n))
    one_way_kept l m n i (inl e) = rw (e m) (rw (e n) (one_way i))
    one_way_kept l m n i (inr (inr d)) = doomed (d n).1
    one_way_kept l m n i (inr (inl s)) = rw (s.3 m) (rw (s.3 n) (follows_self u s.0 s.2))

    alike_kept : (l : Lane) (n : Name) → Shifts f l → Follows u (f (End l n)) (f (End l n))
    alike_kept l n (inl e) = rw (e n) alike
    alike_kept l n (inr (inr d)) = doomed (d n).1
    alike_kept l n (inr (inl s)) = rw (s.3 n) (follows_self u s.0 s.2)

    link_kept : (a b : ℕ) (m n : Name) → ((o : Name) → u.onward (Way a b) o ≡ f (w.onward (Way a b) o)) ⊎ ((o : Name) → u.onward (Way a b) o ≡ Nowhere) → Follows u (f (w.onward (Way a b) m)) (f (w.onward (Way a b) n)) → Follows u (End (Way a b) m) (End (Way a b) n)
    link_kept a b m n (inl e) h = beside (rw (e m) (rw (e n) h))
    link_kept a b m n (inr e) h = doomed (by_end (rw (e n) nowhere))

    ends_kept : (l : Lane) (m n : Name) → Shifts f l → Follows u (End l m) (End l n) → Follows u (f (End l m)) (f (End l n))
    ends_kept l m n (inl e) h = rw (e m) (rw (e n) h)
    ends_kept l m n (inr (inr d)) h = doomed (d n).1
    ends_kept l m n (inr (inl s)) h = rw (s.3 m) (rw (s.3 n) (follows_self u s.0 s.2))

    beside_kept : (l : Lane) (m n : Name) → Follows u (f (w.onward l m)) (f (w.onward l n)) → Follows u (f (End l m)) (f (End l n))
    beside_kept (Way a b) m n h = ends_kept (Way a b) m n (k.ends (Way a b)) (link_kept a b m n (k.links a b) h)
    beside_kept other m n h = one_way_kept other m n tt (k.ends other)

    pub follows_kept : (c d : Place) → Follows w c d → Follows u (f c) (f d)
    follows_kept c d (doomed h) = doomed (goes_doomed d (f d) h (k.places d))
    follows_kept c d (one_way {l = l} {m = m} {n = n} i) = one_way_kept l m n i (k.ends l)
    follows_kept c d (alike {l = l} {n = n}) = alike_kept l n (k.ends l)
    follows_kept c d (beside {l = l} {m = m} {n = n} h) = beside_kept l m n (follows_kept (w.onward l m) (w.onward l n) h)

    unshifted : (l : Lane) (m n : Name) → Shifts f l → Follows u (f (End l m)) (f (End l n)) → Follows u (End l m) (End l n)
    unshifted l m n (inl e) h = rw (← (e m)) (rw (← (e n)) h)
    unshifted l m n (inr (inr d)) h = doomed (d n).0
    unshifted l m n (inr (inl s)) h = one_way s.1

    follows_there : (l : Lane) (m n : Name) → Follows w (End l m) (End l n) → Follows u (End l m) (End l n)
    follows_there l m n h = unshifted l m n (k.ends l) (follows_kept (End l m) (End l n) h)

    follows_renamed : (l : Lane) (c : Place) (n o : Name) → u.onward l n ≡ u.onward l o → IsDefinite (u.onward l n) → Follows u c (End l n) → Follows u c (End l o)
    follows_renamed l c n o e i (doomed h) = doomed (by_end (subst (Doom u) e (doom_end u l n h)))
    follows_renamed l c n o e i (one_way j) = one_way j
    follows_renamed l c n o e i alike = beside (subst (Follows u (u.onward l n)) e (follows_self u (u.onward l n) i))
    follows_renamed l c n o e i (beside {m = m} h) = beside (subst (Follows u (u.onward l m)) e h)

    -- ---- what is ahead

    module _ (P : Place → Type 0) (p : Holds P) where
      place_end : (l : Lane) (m n : Name) → (Stays × IsIn (record { mail = x; aim = m }) (u.stands l)) ⊎ Went l m → Follows u (End l m) (End l n) → P (End l n)
      place_end l m n (inl i) h = p.in_place i.0 l m n i.1 h
      place_end l m n (inr g) h = p.closed.of_end l n (p.went l m n g h)

      place_mid : (l : Lane) (b : List Item) (m n : Name) → (Stays × IsIn (record { mail = x; aim = m }) b) ⊎ Went l m → Follows u (End l m) (End l n) → P (Mid l b n)
      place_mid l b m n (inl i) h = p.in_front i.0 l b m n i.1 h
      place_mid l b m n (inr g) h = p.closed.of_mid l b n (p.went l m n g h)

      hit_end : (l : Lane) (m n : Name) → IsIn (record { mail = x; aim = m }) (w.stands l) → Follows u (End l m) (End l n) → (d : Place) → Turns (End l n) d → P d
      hit_end l m n i h d (to_doom e) = p.closed.of_doom d e
      hit_end l m n i h d same_end = place_end l m n (k.standing l m i) h
      hit_end l m n i h d (held_back {b = b} j e) = lead u P p.closed (λ c q. subst P (sym q) (place_mid l b m n (j m i) h)) d e
      hit_end l m n i h d (passed_end j t) = absurd (j m i)
      hit_end l m n i h d (renamed {m = o} e j) = place_end l m o (k.standing l m i) (follows_renamed l (End l m) n o e j h)

      hit_mid : (l : Lane) (b : List Item) (m n : Name) → IsIn (record { mail = x; aim = m }) b → Follows u (End l m) (End l n) → (d : Place) → Turns (Mid l b n) d → P d
      hit_mid l b m n i h d (to_doom e) = p.closed.of_doom d e
      hit_mid l b m n i h d (same_mid {d = b'} j) = place_mid l b' m n (j m i) h
      hit_mid l b m n i h d (passed_mid j t) = absurd (j m i)

      -- what is behind the message stays behind it, or meets its end
      pub kept : (c : Place) → Ahead w x c → (d : Place) → Turns c d → P d
      kept c (doomed_there h) d t = p.closed.of_doom d (doom_kept c h d t)
      kept c (in_end {l = l} {m = m} {n = n} i h) d t = hit_end l m n i (follows_there l m n h) d t
      kept c (in_mid {l = l} {b = b} {m = m} {n = n} i h) d t = hit_mid l b m n i (follows_there l m n h) d t
      kept c (past_end {l = l} {n = n} h) d t = on_end P p.closed l n (λ e s. kept (w.onward l n) h e s) d t
      kept c (past_mid {l = l} {b = b} {n = n} h) d t = on_mid P p.closed l b n (λ e s. kept (w.onward l n) h e s) d t
