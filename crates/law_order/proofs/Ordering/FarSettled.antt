-- What becomes of each thing as a name settles to an object of another vat and what it held went out.
use Rattle.std.proofs.Common.{◌≡◌, ℕ, Bool, true, false, List, [], ◌∷◌, ◌++◌, Option, Some, None, refl, sym, ap, subst, ◌∙◌, ◌⊎◌, inl, inr}
use Rattle.std.proofs.lemmas.List.{append_assoc}
use Rattle.std.specs.Prelude.{slice_get}
use Rattle.def_machine.specs.Values.{Ref, Name, Naming}
use Rattle.def_machine.specs.State.{Known, Note, Put, Vat}
use Rattle.def_machine.specs.Refs as refs
use Rattle.def_run.specs.World.{Script, Link, World, names}
use Rattle.def_run.specs.World as world
use Rattle.law_order.specs.Ordering.Ways.{Lane, Queue, Held, Way, Item, Place, Nowhere, Free, End, Mid, Ways, IsIn, IsOneWay, Doom, nowhere, by_end, by_mid, alike, Ahead, doomed_there, in_end}
use Rattle.law_order.specs.Ordering.Changes.{Grows}
use Rattle.law_order.specs.Ordering.Turns.{Within, IsPassed}
use Rattle.law_order.specs.Ordering.Places.{item, held_on, stands_at, ways_of, ways, amid}
use Rattle.law_order.specs.Ordering.Messages.{StandsAt, StaysBehind}
use Rattle.law_order.specs.Ordering.Steps.{WaysAmid, IsSentOn, sent_there, now_lost, StaysInOrder}
use Rattle.law_order.specs.Ordering.Settle.{passed_by, onward_to, led_to, without, emptied, KeepsBy, SentOn, SettlesHere, aimed_at, IsReady, settled_to}
use Rattle.law_order.proofs.Ordering.Arrived.{IsOpen, pushed_cut}
use Rattle.law_order.proofs.Ordering.Changes.{growing_keeps}
use Rattle.law_order.proofs.Ordering.Comings.{IsShut, shut_nowhere, both_honest}
use Rattle.law_order.proofs.Ordering.Far.{WentOut}
use Rattle.law_order.proofs.Ordering.Messages.{behind_then, comes_behind}
use Rattle.law_order.proofs.Ordering.Lanes.{queue_apart, way_apart, held_apart, held_one}
use Rattle.law_order.proofs.Ordering.Named.{Test, test_self, passes_mid, passes_way}
use Rattle.law_order.proofs.Ordering.OrderPassing.{settled_is_passed}
use Rattle.law_order.proofs.Ordering.Pushing.{within_more}
use Rattle.law_order.proofs.Ordering.Sends.{none_some, some_same, pushed_ends, link_here, link_behind, found_ends}
use Rattle.law_order.proofs.Ordering.SettledPlaces.{sent_to, sent_in, in_right, sent_split, behind_queued, settled_more, settles_so}
use Rattle.law_order.proofs.Ordering.Settling.{keeps_then, starting_keeps, sending_on_keeps, turned}
use Rattle.law_order.proofs.Ordering.Standing.{more_then, held_is}
use Rattle.law_order.proofs.Ordering.Turned.{turning_keeps, passing_by_keeps}

-- ---- whether a link is cut

abbrev CutOf : Option Link → Option Bool
CutOf (Some l) = Some l.cut
CutOf None = None

cut_still : (a b v h : ℕ) (n : Note Name) (ls : List Link) → CutOf (world.link_at a b (world.with_link (world.pushed n) v h ls)) ≡ CutOf (world.link_at a b ls)
unfolding world.with_link world.link_at
cut_still a b v h n [] = refl
cut_still a b v h n (k ∷ ls) = go (cut_still a b v h n ls) (world.is_link a b k) (world.is_link v h k) refl
  where
    go : CutOf (world.link_at a b (world.with_link (world.pushed n) v h ls)) ≡ CutOf (world.link_at a b ls) → (c d : Bool) → world.is_link a b k ≡ c
        → CutOf (world.link_at a b (elim d [ true ↦ world.pushed n k ∷ ls | false ↦ k ∷ world.with_link (world.pushed n) v h ls ])) ≡ CutOf (elim c [ true ↦ Some k | false ↦ world.link_at a b ls ])
    go f true true e = ap (λ o. CutOf o) (link_here a b (world.pushed n k) ls (pushed_ends k.cut n k a b refl ∙ e)) ∙ ap (λ c. Some c) (pushed_cut n k k.cut refl)
    go f true false e = ap (λ o. CutOf o) (link_here a b k (world.with_link (world.pushed n) v h ls) e)
    go f false true e = ap (λ o. CutOf o) (link_behind a b (world.pushed n k) ls (pushed_ends k.cut n k a b refl ∙ e))
    go f false false e = ap (λ o. CutOf o) (link_behind a b k (world.with_link (world.pushed n) v h ls) e) ∙ f

cuts_still : (a b v : ℕ) (ps : List (Put Name)) (ls : List Link) → CutOf (world.link_at a b (world.push_all v ps ls)) ≡ CutOf (world.link_at a b ls)
unfolding world.push_all
cuts_still a b v [] ls = refl
cuts_still a b v (p ∷ ps) ls = cuts_still a b v ps (world.with_link (world.pushed p.note) v p.to ls) ∙ cut_still a b v p.to p.note ls

module _ (script : Script) (honest : ℕ → Bool) (v h : ℕ) (here : honest v ≡ true) (there : honest h ≡ true) (ps : List (Put Name)) (ls : List Link) where
  abbrev Before : List Link
  Before = world.push_all v ps ls

  abbrev OpenOrShut : Type 0
  OpenOrShut = IsOpen v h ls ⊎ IsShut script honest (world.link_at v h Before)

  cut_shut : (o : Option Link) → world.link_at v h Before ≡ o → CutOf o ≡ Some true → IsShut script honest o
  cut_shut (Some l) e c = let f = found_ends v h Before l e in (some_same l.cut true c, both_honest script honest v h here there l f.0 f.1)
  cut_shut None e c = none_some true c

  none_shut : (o : Option Link) → CutOf o ≡ None → IsShut script honest o
  none_shut (Some l) c = none_some l.cut (sym c)
  none_shut None c = tt

  by_link : (o : Option Link) → world.link_at v h ls ≡ o → OpenOrShut
  by_link (Some l) e = go l.cut refl
    where
      go : (c : Bool) → l.cut ≡ c → OpenOrShut
      go false i = inl (l, e, i)
      go true i = inr (cut_shut (world.link_at v h Before) refl (cuts_still v h v ps ls ∙ ap (λ o. CutOf o) e ∙ ap (λ c. Some c) i))
  by_link None e = inr (none_shut (world.link_at v h Before) (cuts_still v h v ps ls ∙ ap (λ o. CutOf o) e))

-- ---- the settling

module _ (script : Script) (honest : ℕ → Bool) (w : World) (v h : ℕ) (n : Name) (r : Vat Name) (at : slice_get w.vats v ≡ Some r) (here : honest v ≡ true) (there : honest h ≡ true)
    (s t : Vat Name) (p : Name) (g : SettlesHere (names script v) s (settled_to (names script v) s p (Ref n)) p (Ref n) v) (k : Known Name) (e : refs.entry_of (names script v) s.known p ≡ Some k)
    (ready : IsReady (ways script honest (amid v s w)) v p (aimed_at script v (settled_to (names script v) s p (Ref n)) (Ref n))) (aim : aimed_at script v (settled_to (names script v) s p (Ref n)) (Ref n) ≡ End (Way v h) n)
    (out : WentOut script honest w v h n r at here there (sent_to n (held_on p k.held)) (settled_to (names script v) s p (Ref n)) t) where
  abbrev K : Naming Name Name
  K = names script v

  abbrev T : Vat Name
  T = settled_to K s p (Ref n)

  abbrev E : Place
  E = aimed_at script v T (Ref n)

  abbrev F : Place → Place
  F = passed_by v p E

  abbrev W : Vat Name → Ways
  W q = WaysAmid script honest w v q

  abbrev Led : Ways
  Led = led_to (W s) v p E

  abbrev Let : Ways
  Let = emptied (record { stands = (W t).stands; onward = onward_to (W s).onward v p E }) v p

  abbrev Gone : Ways
  Gone = record { stands = (W t).stands; onward = (W T).onward }

  abbrev Held0 : List Item
  Held0 = held_on p k.held

  stands_still : (l : Lane) → (l ≡ Held v p → ⊥) → Within ((W s).stands l) ((W t).stands l)
  stands_still l f = let m = more_then (W s) (W T) (W t) l (settled_more script honest w v r s p (Ref n) at g l f) (out.grown.more l) in within_more ((W s).stands l) ((W t).stands l) m.0 m.1

  abbrev Fate : Type 0
  Fate = IsOpen v h w.links ⊎ IsShut script honest (world.link_at v h (world.push_all v s.outbox w.links))

  way_stands : IsOpen v h w.links → (W t).stands (Way v h) ≡ (W s).stands (Way v h) ++ sent_to n Held0
  unfolding ways ways_of amid stands_at
  way_stands o = out.last o

  held_stands : (W s).stands (Held v p) ≡ Held0
  held_stands = held_is script honest w v r at s p k e

  shut_before : IsShut script honest (world.link_at v h (world.push_all v s.outbox w.links)) → (q : Vat Name) → q.outbox ≡ s.outbox → (W q).onward (Way v h) n ≡ Nowhere
  unfolding ways ways_of amid
  shut_before i q f = let ls = world.push_all v q.outbox w.links in shut_nowhere script honest v h n (world.put_at v q w.vats) ls (world.link_at v h ls) refl (subst (λ ps. IsShut script honest (world.link_at v h (world.push_all v ps w.links))) (sym f) i)

  -- each that was held is ahead of that end
  sent_ahead : Fate → (i : Item) → IsIn i ((W s).stands (Held v p)) → Ahead Let i.mail E
  unfolding emptied without onward_to
  sent_ahead (inl o) i j = subst (Ahead Let i.mail) (sym aim) (in_end (subst (IsIn (item i.mail n)) (sym (way_stands o)) (in_right (item i.mail n) ((W s).stands (Way v h)) (sent_to n Held0) (sent_in n i.mail i.aim Held0 (subst (IsIn i) held_stands j)))) alike)
  sent_ahead (inr q) i j = subst (Ahead Let i.mail) (sym aim) (doomed_there (by_end (subst (Doom Let) (sym (shut_before q s refl)) nowhere)))

  abbrev Stands : Lane → Item → Type 0
  Stands l i = IsIn i (Let.stands l) ⊎ ((l ≡ Held v p) × Ahead Let i.mail E)

  held_let : Fate → (u : ℕ) (o : Name) (i : Item) → IsIn i ((W s).stands (Held u o)) → Stands (Held u o) i
  unfolding emptied without
  held_let f u o i j = go (Test v p u o) refl
    where
      go : (c : Bool) → Test v p u o ≡ c → IsIn i (elim c [ true ↦ [] | false ↦ (W t).stands (Held u o) ]) ⊎ ((Held u o ≡ Held v p) × Ahead Let i.mail E)
      go true c = inr (held_one u v o p c, sent_ahead f i (subst (λ l. IsIn i ((W s).stands l)) (held_one u v o p c) j))
      go false c = inl (stands_still (Held u o) (held_apart u v o p c) i j)

  stands_let : Fate → (l : Lane) (i : Item) → IsIn i ((W s).stands l) → Stands l i
  unfolding emptied without
  stands_let f (Queue u) i j = inl (stands_still (Queue u) (queue_apart u v p) i j)
  stands_let f (Held u o) i j = held_let f u o i j
  stands_let f (Way a b) i j = inl (stands_still (Way a b) (way_apart a b v p) i j)

  leads_let : (o : Name) → onward_to (W s).onward v p E (Held v p) o ≡ E
  unfolding onward_to
  leads_let o = ap (λ c. elim c [ true ↦ E | false ↦ (W s).onward (Held v p) o ]) (test_self v p)

  sent_on : Fate → SentOn Led Let v p E
  unfolding led_to emptied
  sent_on f = record { leads = λ o. leads_let o; lanes = λ l o. inl refl; stands = λ l i j. stands_let f l i j }

  without_less : (u : ℕ) (o : Name) (c : Bool) → Within (elim c [ true ↦ [] | false ↦ (W t).stands (Held u o) ]) ((W t).stands (Held u o))
  without_less u o true = λ i j. absurd j
  without_less u o false = λ i j. j

  less : (l : Lane) → Within (without (W t).stands v p l) ((W t).stands l)
  unfolding without
  less (Held u o) = without_less u o (Test v p u o)
  less other = λ i j. j

  none_there : (i : Item) → IsIn i (without (W t).stands v p (Held v p)) → ⊥
  unfolding without
  none_there i j = subst (λ c. IsIn i (elim c [ true ↦ [] | false ↦ (W t).stands (Held v p) ])) (test_self v p) j

  passed : IsPassed Let Gone v p E F
  unfolding emptied led_to
  passed = let f = settled_is_passed script honest w v r s T p (Ref n) at g in record {
    stands = λ l. less l;
    none = λ i j. none_there i j;
    leads = f.leads;
    definite = f.definite;
    lanes = f.lanes;
    there = f.there;
    ends = f.ends;
    nowhere_stays = f.nowhere_stays;
    free_stays = f.free_stays;
    mids = f.mids;
  }

  gone_grows : Grows Gone (W t)
  gone_grows = record { stands = λ l i j. j; onward = out.grown.grows.onward }

  let_keeps : KeepsBy Let (W t) F
  let_keeps = keeps_then Let Gone (W t) F (λ c. c) (passing_by_keeps Let Gone v p E F passed) (λ c. growing_keeps Gone (W t) gone_grows c)

  far_keeps : Fate → KeepsBy (W s) (W t) F
  far_keeps f = keeps_then (W s) Led (W t) (λ c. c) F (starting_keeps (W s) v p E ready) (keeps_then Led Let (W t) (λ c. c) F (sending_on_keeps Led Let v p E (sent_on f)) let_keeps)

  -- what was ahead of where the name led is ahead of what comes to the link
  far_leads : Fate → (o : Name) → StaysBehind (W s) (W t) ((W s).onward (Held v p) o) (Mid (Way v h) ((W s).stands (Way v h)) n)
  unfolding led_to
  far_leads f o =
      let c = (W s).onward (Held v p) o in
      let d = Mid (Way v h) ((W s).stands (Way v h)) n in
      let first : StaysBehind (W s) Led c (End (Way v h) n) = subst (λ z. StaysBehind (W s) Led c z) aim (turning_keeps (W s) Led (turned (W s) v p E ready) c E (ready o)) in
      let last : StaysBehind Led (W t) d (F d) = behind_then Led Let (W t) d d (F d) (sending_on_keeps Led Let v p E (sent_on f) d) (let_keeps d) in
      behind_then (W s) Led (W t) c (End (Way v h) n) d first
      (behind_then Led Led (W t) (End (Way v h) n) d d (comes_behind Led (Way v h) ((W s).stands (Way v h)) n (λ i j. j)) (subst (λ z. StaysBehind Led (W t) d z) (passes_mid v p E (Way v h) ((W s).stands (Way v h)) n) last))

  onward_after : (l : Lane) (o : Name) (c : Place) → (W T).onward l o ≡ c → (c ≡ Free → ⊥) → (W t).onward l o ≡ c
  onward_after l o c i f = go (out.grown.grows.onward l o)
    where
      go : ((W t).onward l o ≡ (W T).onward l o) ⊎ (IsOneWay l × ((W T).onward l o ≡ Free)) → (W t).onward l o ≡ c
      go (inl j) = j ∙ i
      go (inr j) = absurd (f (sym i ∙ j.1))

  abbrev IsEnd : Place → Type 0
  IsEnd Free = ⊥
  IsEnd other = Unit {0}

  held_onward : (o : Name) → (W t).onward (Held v p) o ≡ End (Way v h) n
  held_onward o = let f = settled_is_passed script honest w v r s T p (Ref n) at g in
      onward_after (Held v p) o (End (Way v h) n) (f.lanes (Held v p) o ∙ ap (λ c. F c) (f.leads o ∙ aim) ∙ passes_way v p E v h n) (λ i. subst IsEnd i tt)

  way_onward : IsShut script honest (world.link_at v h (world.push_all v s.outbox w.links)) → (W t).onward (Way v h) n ≡ Nowhere
  way_onward q = onward_after (Way v h) n Nowhere (shut_before q T refl) (λ i. subst IsEnd i tt)

  went : Fate → (m : Name) (b : List Item) (o : Name) → StandsAt (W s) m (Held v p) b o → IsSentOn script honest w v s t m p b o
  went (inl i) m b o j =
      let q = (W s).stands (Way v h) in
      let split : Held0 ≡ b ++ item m o ∷ j.behind = sym held_stands ∙ j.found in
      sent_there {l = Way v h} {a = q ++ sent_to n b} {o = n} tt
      (record { behind = sent_to n j.behind; found = way_stands i ∙ ap (λ z. q ++ sent_to n z) split ∙ ap (λ z. q ++ z) (sent_split n m o b j.behind) ∙ sym (append_assoc q (sent_to n b) (item m n ∷ sent_to n j.behind)) })
      (behind_queued (W s) (W t) (Held v p) (Way v h) o n q b (far_leads (inl i) o))
  went (inr q) m b o j = now_lost (by_mid (subst (Doom (W t)) (sym (held_onward o)) (by_end (subst (Doom (W t)) (sym (way_onward q)) nowhere))))

  pub far_so : StaysInOrder script honest w v s t
  far_so = let f = by_link script honest v h here there s.outbox w.links (world.link_at v h w.links) refl in
      (λ q. out.ready, settles_so script honest w v r s p (Ref n) at g t out.grown (far_keeps f) (λ m b o j. went f m b o j))
