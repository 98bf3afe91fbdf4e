-- Where order is kept, the places that are found keep it, and what is lost dooms what was behind it.
use Rattle.std.proofs.Common.{◌≡◌, ℕ, Bool, true, false, List, Option, Some, None, refl, sym, subst, ◌⊎◌, inl, inr, eqb-true}
use Rattle.std.proofs.lemmas.Bool.{eqb-false}
use Rattle.std.specs.Prelude.{slice_get, ◌==◌}
use Rattle.def_machine.specs.Values.{Value, Ref, Name, Object, host_of}
use Rattle.def_machine.specs.State.{Known, Vat, is_in}
use Rattle.def_machine.specs.Refs as refs
use Rattle.def_machine.specs.Refs.{Near}
use Rattle.def_run.specs.World.{Script, World, names}
use Rattle.law_order.specs.Ordering.Ways.{Lane, Queue, Held, Way, Item, Place, Nowhere, Free, End, Mid, Ways, IsIn, one_way, Doom, by_end, by_mid, Ahead, doomed_there, in_end, in_mid, past_end, past_mid}
use Rattle.law_order.specs.Ordering.Places.{item, ways, ways_of, onward_at, aimed, by_host, by_follow, of_name, leads_in, leads_at, leads, amid}
use Rattle.law_order.specs.Ordering.Messages.{StandsAt, IsPlace, stands_there, stands_not, StandsOnce, LacksAt, IsNowhere, place_of, StaysBehind, NowhereIsDoomed}
use Rattle.law_order.specs.Ordering.Steps.{WaysAmid, LeadsAmid, IsSentOn, still_held, sent_there, now_lost, KeepsOrder}
use Rattle.law_order.specs.Ordering.Comings.{FoundPlacesKeep, LostMessagesDoom, QueuesTellOrder, HeldComeInOrder}
use Rattle.law_order.proofs.Ordering.Changes.{ahead_free}
use Rattle.law_order.proofs.Ordering.Kept.{doom_free}
use Rattle.law_order.proofs.Ordering.Messages.{places_are_found, places_are_one}

-- ---- what is lost

module _ (w : Ways) (x : Name) (g : IsNowhere w x) where
  doomed_by : (c : Place) → LacksAt x c → Ahead w x c → Doom w c
  doomed_by c h (doomed_there d) = d
  doomed_by c h (in_end {l = l} {m = m} i f) = absurd (g.lanes l m i)
  doomed_by c h (in_mid {m = m} i f) = absurd (h m i)
  doomed_by c h (past_end {l = l} {n = n} a) = by_end (doomed_by (w.onward l n) (g.places l n) a)
  doomed_by c h (past_mid {l = l} {n = n} a) = by_mid (doomed_by (w.onward l n) (g.places l n) a)

pub nowhere_is_doomed : NowhereIsDoomed
nowhere_is_doomed = λ w x c g h a. doomed_by w x g c h a

-- a reference leads to the end of a lane, or nowhere
module _ (x : Name) where
  aimed_lacks : (v : ℕ) (y : Value Name) (p : refs.Place Name) → LacksAt x (aimed v y p)
  unfolding aimed
  aimed_lacks v (Ref n) Near = tt
  aimed_lacks v other Near = tt
  aimed_lacks v y other = tt

  host_lacks : (v : ℕ) (n : Name) (h : ℕ) (a b : Bool) → LacksAt x (elim a [ true ↦ Nowhere | false ↦ elim b [ true ↦ End (Held v n) n | false ↦ End (Way v h) n ] ])
  host_lacks v n h true b = tt
  host_lacks v n h false true = tt
  host_lacks v n h false false = tt

  by_host_lacks : (v : ℕ) (s : Vat Name) (n : Name) (h : ℕ) → LacksAt x (by_host v s n h)
  unfolding by_host
  by_host_lacks v s n h = host_lacks v n h (is_in h s.noticed) (v == h)

  module _ (script : Script) (honest : ℕ → Bool) where
    follow_lacks : (v : ℕ) (s : Vat Name) (y : Value Name) → LacksAt x (by_follow script honest v s y)
    unfolding by_follow
    follow_lacks v s y = let z = refs.follow (names script v) s y in aimed_lacks v z (refs.place (names script v) s z)

    name_lacks : (v : ℕ) (s : Vat Name) (n : Name) (o : Option (Known Name)) → LacksAt x (of_name script honest v s n o)
    unfolding of_name
    name_lacks v s (Object h i) o = follow_lacks v s (Ref (Object h i))
    name_lacks v s other (Some k) = follow_lacks v s (Ref other)
    name_lacks v s other None = by_host_lacks v s other (host_of other)

    in_lacks : (v : ℕ) (s : Vat Name) (y : Value Name) → LacksAt x (leads_in script honest v s y)
    unfolding leads_in
    in_lacks v s (Ref n) = name_lacks v s n (refs.entry_of (names script v) s.known n)
    in_lacks v s other = follow_lacks v s other

    pub at_lacks : (v : ℕ) (o : Option (Vat Name)) (y : Value Name) → LacksAt x (leads_at script honest v o y)
    unfolding leads_at
    at_lacks v (Some s) y = in_lacks v s y
    at_lacks v None y = tt

    pub leads_lack : (w : World) (v : ℕ) (y : Value Name) → LacksAt x (leads script honest w.vats w.links v y)
    unfolding leads
    leads_lack w v y = at_lacks v (slice_get w.vats v) y

pub lost_messages_doom : LostMessagesDoom
lost_messages_doom = λ script honest w v s t m g i.
    let a = WaysAmid script honest w v s in let b = WaysAmid script honest w v t in (
      λ u x h. doomed_by b m i (LeadsAmid script honest w v t u x) (leads_lack m script honest (amid v t w) u x) ((g.references u x).1 m h),
      λ l c n f h. doomed_by b m i (Mid l c n) f ((g.places l c n).1 m h),
    )

-- ---- what is found

module _ (script : Script) (honest : ℕ → Bool) (w : World) (v : ℕ) (s t : Vat Name) (m : Name) (g : KeepsOrder script honest w v s t) (once : StandsOnce (WaysAmid script honest w v t) m) where
  abbrev A : Ways
  A = WaysAmid script honest w v s

  abbrev B : Ways
  B = WaysAmid script honest w v t

  abbrev D : Place
  D = place_of script honest (amid v t w) m

  found_there : (l : Lane) (b : List Item) (n : Name) → StandsAt B m l b n → D ≡ Mid l b n
  found_there l b n h = places_are_one B m (Mid l b n) D once (stands_there h) (places_are_found script honest (amid v t w) m)

  abbrev Fate : Place → Type 0
  Fate c = (c ≡ Nowhere) ⊎ StaysBehind A B c D ⊎ Doom B c

  stays_there : (l : Lane) (b : List Item) (n : Name) → StandsAt B m l b n → Fate (Mid l b n)
  stays_there l b n h = inr (inl (subst (λ d. StaysBehind A B (Mid l b n) d) (sym (found_there l b n h)) (g.places l b n)))

  fate_held : (p : Name) (b : List Item) (n : Name) → IsSentOn script honest w v s t m p b n → Fate (Mid (Held v p) b n)
  fate_held p b n (still_held h) = stays_there (Held v p) b n h
  fate_held p b n (sent_there {l = l} {a = a} {o = o} i h k) = inr (inl (subst (λ d. StaysBehind A B (Mid (Held v p) b n) d) (sym (found_there l a o h)) k))
  fate_held p b n (now_lost h) = inr (inr h)

  fate_in : (u : ℕ) (p : Name) (b : List Item) (n : Name) → StandsAt A m (Held u p) b n → (c : Bool) → (u == v) ≡ c → Fate (Mid (Held u p) b n)
  fate_in u p b n h true e = let i = eqb-true u v e in subst (λ z. Fate (Mid (Held z p) b n)) (sym i) (fate_held p b n (g.held m p b n (subst (λ z. StandsAt A m (Held z p) b n) i h)))
  fate_in u p b n h false e = stays_there (Held u p) b n (g.apart m (Held u p) b n (eqb-false u v e) h)

  fate_at : (l : Lane) (b : List Item) (n : Name) → StandsAt A m l b n → Fate (Mid l b n)
  fate_at (Held u p) b n h = fate_in u p b n h (u == v) refl
  fate_at other b n h = stays_there other b n (g.apart m other b n tt h)

  fate : (c : Place) → IsPlace A m c → Fate c
  fate c (stands_there {l = l} {b = b} {n = n} h) = fate_at l b n h
  fate c (stands_not f) = inl refl

pub found_places_keep : FoundPlacesKeep
found_places_keep = λ script honest w v s t m g once. fate script honest w v s t m g once (place_of script honest (amid v s w) m) (places_are_found script honest (amid v s w) m)

-- ---- in a queue

module _ (w : Ways) (v : ℕ) (free : (n : Name) → w.onward (Queue v) n ≡ Free) where
  in_front : (a : List Item) (n x : Name) → Ahead w x (Mid (Queue v) a n) → (o : Name) × IsIn (item x o) a
  in_front a n x (doomed_there (by_mid h)) = absurd (doom_free w (subst (Doom w) (free n) h))
  in_front a n x (in_mid {m = m} i f) = (m, i)
  in_front a n x (past_mid h) = absurd (ahead_free w x (w.onward (Queue v) n) (free n) h)

queue_free : (script : Script) (honest : ℕ → Bool) (w : World) (v : ℕ) (n : Name) → (ways script honest w).onward (Queue v) n ≡ Free
unfolding ways ways_of onward_at
queue_free script honest w v n = refl

pub queues_tell_order : QueuesTellOrder
queues_tell_order = λ script honest w v a n x h. in_front (ways script honest w) v (λ m. queue_free script honest w v m) a n x h

module _ (script : Script) (honest : ℕ → Bool) (w : World) (v : ℕ) (s t : Vat Name) (m p : Name) (b : List Item) (n : Name) (a : List Item) (o : Name) (g : KeepsOrder script honest w v s t) (stood : StandsAt (WaysAmid script honest w v s) m (Held v p) b n) (stands : StandsAt (WaysAmid script honest w v t) m (Queue v) a o) (once : StandsOnce (WaysAmid script honest w v t) m) (alive : Doom (WaysAmid script honest w v t) (Mid (Held v p) b n) → ⊥) where
  abbrev S : Ways
  S = WaysAmid script honest w v s

  abbrev Z : Ways
  Z = WaysAmid script honest w v t

  abbrev Ahead0 : Name → Type 0
  Ahead0 x = Ahead S x (Mid (Held v p) b n)

  came_behind : IsSentOn script honest w v s t m p b n → StaysBehind S Z (Mid (Held v p) b n) (Mid (Queue v) a o)
  came_behind (still_held h) = subst (λ d. StaysBehind S Z (Mid (Held v p) b n) d) (once (Queue v) (Held v p) a b o n stands h) (g.places (Held v p) b n)
  came_behind (sent_there {l = l} {a = c} {o = k} i h j) = subst (λ d. StaysBehind S Z (Mid (Held v p) b n) d) (sym (once l (Queue v) c a k o h stands)) j
  came_behind (now_lost h) = absurd (alive h)

  was_ahead : (x : Name) → (((k : Name) × IsIn (item x k) b) ⊎ ((q k : Name) × (S.onward (Held v p) n ≡ End (Held v q) q) × IsIn (item x k) (S.stands (Held v q)))) → Ahead0 x
  was_ahead x (inl i) = in_mid i.1 (one_way tt)
  was_ahead x (inr i) = past_mid (subst (Ahead S x) (sym i.2) (in_end i.3 (one_way tt)))

  comes_in_order : (x : Name) → Ahead0 x → (k : Name) × IsIn (item x k) a
  comes_in_order x h = in_front Z v (λ k. queue_free script honest (amid v t w) v k) a o x ((came_behind (g.held m p b n stood)).1 x h)

pub held_come_in_order : HeldComeInOrder
held_come_in_order = λ script honest w v s t m p b n a o g stood stands once alive x i. comes_in_order script honest w v s t m p b n a o g stood stands once alive x (was_ahead script honest w v s t m p b n a o g stood stands once alive x i)
