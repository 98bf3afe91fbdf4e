-- A message that arrives: it leaves the front of its link and stands where it goes.
use Rattle.std.proofs.Common.{◌≡◌, ℕ, suc, Bool, true, false, List, [], ◌∷◌, ◌++◌, Option, Some, None, length, refl, sym, ap, subst, ◌∙◌, ◌⊎◌, inl, inr}
use Rattle.std.specs.Prelude.{slice_get}
use Rattle.def_machine.specs.Values.{Words, Value, Null, Ref, Name, Root, Object, Promise, Answer, Gift, Sent, Naming}
use Rattle.def_machine.specs.State.{Message, Standing, Settled, Known, Hold, Passeds, Delivery, Note, Deliver, Put, Vat}
use Rattle.def_machine.specs.State as state
use Rattle.def_machine.specs.Refs.{Settler, Near, Mine, Away, Gone}
use Rattle.def_machine.specs.Refs as refs
use Rattle.def_run.specs.World.{Script, Link, World, names}
use Rattle.def_run.specs.World as world
use Rattle.law_order.specs.Ordering.Ways.{Lane, Queue, Held, Way, Item, Place, Nowhere, Free, End, Mid, Ways, IsIn, Doom, by_mid, doomed_there, Ahead, in_mid, past_mid}
use Rattle.law_order.specs.Ordering.Changes.{Beheads, stays, nearer, Loses, nowhere_still, free_still, end_still, mid_still, mid_nearer, Leaves, GoesOn, IsLost}
use Rattle.law_order.specs.Ordering.Turns.{Within}
use Rattle.law_order.specs.Ordering.Places.{item, queued, held_on, delivered, is_honest, aimed, by_follow, of_name, leads_in, leads_at, leads, stands_at, over, onward_at, ways_of, ways, amid}
use Rattle.law_order.specs.Ordering.Worlds.{IfGives, IsWaiting, IsObject, StandsAlike, RefersAlike, NothingGoes}
use Rattle.law_order.specs.Ordering.Messages.{LacksAt, IsNowhere}
use Rattle.law_order.specs.Ordering.Arrivals.{in_front, keeping, IsLearnt, IsOpenWay, GoesTo, IsHere, CarriedMessagesGoOn, CarriedMessagesAreLost, CarriedMessagesArePutOn, LearntNamesAreBehind}
use Rattle.law_order.proofs.Ordering.Sends.{none_some, some_same, pushed_shut, pushed_open, pushed_ends, link_here, link_behind, push_last, get_put, found_ends, in_queue, in_held, held_there, queued_last, held_last, delivered_last, held_by, entry_changed, entry_here, entry_behind, changed_name}
use Rattle.law_order.proofs.Ordering.Adding.{RefersSame, refers_same}
use Rattle.law_order.specs.Ordering.Growing.{AllGrow}
use Rattle.law_order.proofs.Ordering.Pushing.{push_grows, push_append}
use Rattle.law_order.proofs.Ordering.Amid.{stands_grow, onward_same}
use Rattle.law_order.proofs.Ordering.OrderKeeping.{Any, FitsLane, all_put_on, message_all, onward_leaves, links_still, stands_leaves}

-- ---- links that are not cut

-- a link is there, and is cut or not as c says
abbrev pub IsThere : Bool → ℕ → ℕ → List Link → Type 0
IsThere c a b ls = (l : Link) × (world.link_at a b ls ≡ Some l) × (l.cut ≡ c)

abbrev pub IsOpen : ℕ → ℕ → List Link → Type 0
IsOpen a b ls = IsThere false a b ls

pub pushed_cut : (p : Note Name) (l : Link) (c : Bool) → l.cut ≡ c → (world.pushed p l).cut ≡ l.cut
pushed_cut p l true e = ap (λ j. j.cut) (pushed_shut p l e)
pushed_cut p l false e = ap (λ j. j.cut) (pushed_open p l e)

-- it stays so as others change, and as it changes but for that
pub kept_there : (f : Link → Link) (x : Bool) (a b v h : ℕ) → ((l : Link) → world.is_link a b (f l) ≡ world.is_link a b l) → ((l : Link) → (f l).cut ≡ l.cut) → (ls : List Link) → IsThere x a b ls → IsThere x a b (world.with_link f v h ls)
unfolding world.with_link world.link_at
kept_there f x a b v h same cut [] o = none_some o.0 o.1
kept_there f x a b v h same cut (k ∷ ls) o = go (λ q. kept_there f x a b v h same cut ls q) (world.is_link a b k) (world.is_link v h k) refl o
  where
    go : (IsThere x a b ls → IsThere x a b (world.with_link f v h ls)) → (c d : Bool) → world.is_link a b k ≡ c
        → (l : Link) × (elim c [ true ↦ Some k | false ↦ world.link_at a b ls ] ≡ Some l) × (l.cut ≡ x) → IsThere x a b (elim d [ true ↦ f k ∷ ls | false ↦ k ∷ world.with_link f v h ls ])
    go g true true i q = (f k, link_here a b (f k) ls (same k ∙ i), cut k ∙ ap (λ z. z.cut) (some_same k q.0 q.1) ∙ q.2)
    go g true false i q = (k, link_here a b k (world.with_link f v h ls) i, ap (λ z. z.cut) (some_same k q.0 q.1) ∙ q.2)
    go g false true i q = (q.0, link_behind a b (f k) ls (same k ∙ i) ∙ q.1, q.2)
    go g false false i q = let r = g q in (r.0, link_behind a b k (world.with_link f v h ls) i ∙ r.1, r.2)

pub all_there : (x : Bool) (a b v : ℕ) (ps : List (Put Name)) (ls : List Link) → IsThere x a b ls → IsThere x a b (world.push_all v ps ls)
unfolding world.push_all
all_there x a b v [] ls o = o
all_there x a b v (p ∷ ps) ls o = all_there x a b v ps (world.with_link (world.pushed p.note) v p.to ls) (kept_there (world.pushed p.note) x a b v p.to (λ k. pushed_ends k.cut p.note k a b refl) (λ k. pushed_cut p.note k k.cut refl) ls o)

pub all_open : (a b v : ℕ) (ps : List (Put Name)) (ls : List Link) → IsOpen a b ls → IsOpen a b (world.push_all v ps ls)
all_open a b v ps ls o = all_there false a b v ps ls o

-- a note put on such a link stands there
put_there : (v h : ℕ) (p : Note Name) (ls : List Link) (l : Link) → world.link_at v h ls ≡ Some l → world.link_at v h (world.with_link (world.pushed p) v h ls) ≡ Some (world.pushed p l)
unfolding world.with_link world.link_at
put_there v h p [] l e = none_some l e
put_there v h p (k ∷ ls) l e = go (λ q. put_there v h p ls l q) (world.is_link v h k) refl e
  where
    go : (world.link_at v h ls ≡ Some l → world.link_at v h (world.with_link (world.pushed p) v h ls) ≡ Some (world.pushed p l)) → (c : Bool) → world.is_link v h k ≡ c → elim c [ true ↦ Some k | false ↦ world.link_at v h ls ] ≡ Some l
        → world.link_at v h (elim c [ true ↦ world.pushed p k ∷ ls | false ↦ k ∷ world.with_link (world.pushed p) v h ls ]) ≡ Some (world.pushed p l)
    go f true i q = link_here v h (world.pushed p k) ls (pushed_ends k.cut p k v h refl ∙ i) ∙ ap (λ x. Some (world.pushed p x)) (some_same k l q)
    go f false i q = link_behind v h k (world.with_link (world.pushed p) v h ls) i ∙ f q

-- ---- where what was learnt leads

module _ (script : Script) (honest : ℕ → Bool) (v : ℕ) (s : Vat Name) where
  followed_of : (n : Name) (o : Option (Known Name)) → IsObject n ⊎ ((k : Known Name) × (o ≡ Some k)) → of_name script honest v s n o ≡ by_follow script honest v s (Ref n)
  unfolding of_name
  followed_of (Object h i) o e = refl
  followed_of (Root h) None (inl e) = absurd e
  followed_of (Promise h i) None (inl e) = absurd e
  followed_of (Answer h m) None (inl e) = absurd e
  followed_of (Gift h i) None (inl e) = absurd e
  followed_of (Sent m) None (inl e) = absurd e
  followed_of other (Some k) e = refl
  followed_of other None (inr e) = none_some e.0 e.1

  pub learnt_leads : (n : Name) → IsLearnt v script s n → leads_in script honest v s (Ref n) ≡ (let y = refs.follow (names script v) s (Ref n) in aimed v y (refs.place (names script v) s y))
  unfolding leads_in by_follow
  learnt_leads n e = followed_of n (refs.entry_of (names script v) s.known n) e

-- ---- the note leaves

module _ (script : Script) (honest : ℕ → Bool) (w : World) (a b : ℕ) (r s : Vat Name) (m : Delivery Name) (n : Name) (verb : Words) (ys : Passeds Name) (at : slice_get w.vats b ≡ Some r) (way : IsOpenWay honest a b w) where
  abbrev Mail : Note Name
  Mail = Deliver m n verb ys

  abbrev Links : List Link
  Links = world.push_all b s.outbox w.links

  abbrev Before : Ways
  Before = ways script honest (amid b s (keeping a b Mail w))

  abbrev Kept : Ways
  Kept = ways_of script honest (world.put_at b s w.vats) (world.with_link (in_front Mail) a b Links)

  before_is : Kept ≡ Before
  unfolding ways amid keeping
  before_is = ap (λ ls. ways_of script honest (world.put_at b s w.vats) ls) (sym (all_put_on a b b Mail s.outbox w.links))

  open_links : IsOpen a b Links
  open_links = all_open a b b s.outbox w.links (way.link, way.found, way.uncut)

  -- over that link names lead where the receiver has them
  over_open : (vs : List (Vat Name)) (ls : List Link) (o : Name) (l : Link) → is_honest script honest l ≡ true → l.cut ≡ false → over script honest vs ls b o l ≡ leads script honest vs ls b (Ref o)
  unfolding over
  over_open vs ls o l e f =
      ap (λ c. elim c [ true ↦ elim l.cut [ true ↦ Nowhere | false ↦ leads script honest vs ls b (Ref o) ] | false ↦ Free ]) e
      ∙ ap (λ c. elim c [ true ↦ Nowhere | false ↦ leads script honest vs ls b (Ref o) ]) f

  both_honest : (l : Link) → l.from ≡ a → l.to ≡ b → is_honest script honest l ≡ true
  unfolding is_honest
  both_honest l e f = rw e (rw f (rw way.sender way.receiver))

  pub onward_some : (vs : List (Vat Name)) (ls : List Link) (o : Name) (l : Link) → world.link_at a b ls ≡ Some l → l.cut ≡ false → onward_at script honest vs ls (Way a b) o ≡ leads script honest vs ls b (Ref o)
  unfolding onward_at
  onward_some vs ls o l e f = let h = found_ends a b ls l e in
      subst (λ q. elim q [ Some k ↦ over script honest vs ls b o k | None ↦ Nowhere ] ≡ over script honest vs ls b o l) (sym e) refl
      ∙ over_open vs ls o l (both_honest l h.0 h.1) f

  leads_mid : (o : Name) → leads script honest (world.put_at b s w.vats) Links b (Ref o) ≡ leads_in script honest b s (Ref o)
  unfolding leads leads_at
  leads_mid o = ap (λ q. leads_at script honest b q (Ref o)) (get_put w.vats b r s at)

  pub mid_onward : (o : Name) → onward_at script honest (world.put_at b s w.vats) Links (Way a b) o ≡ leads_in script honest b s (Ref o)
  mid_onward o = onward_some (world.put_at b s w.vats) Links o open_links.0 open_links.1 open_links.2 ∙ leads_mid o

  only_one : (i : Item) → IsIn i (delivered (Mail ∷ [])) → i ≡ item m.message n
  unfolding delivered
  only_one i (inl e) = e
  only_one i (inr e) = absurd e

  -- then the vat comes to t, which refers alike, and whose queue and outbox only grew
  module _ (t : Vat Name) (g : RefersSame script honest b s t) (queue : Within (queued s.queue) (queued t.queue)) (ps : List (Put Name)) (put : t.outbox ≡ s.outbox ++ ps) (silent : NothingGoes ps) where
    abbrev Links' : List Link
    Links' = world.push_all b t.outbox w.links

    abbrev After : Ways
    After = ways_of script honest (world.put_at b t w.vats) Links'

    grow : AllGrow Links Links'
    grow = subst (λ ls. AllGrow Links ls) (sym (ap (λ qs. world.push_all b qs w.links) put ∙ push_append b s.outbox ps w.links)) (push_grows b ps Links silent)

    onward_then : (l : Lane) (o : Name) → onward_at script honest (world.put_at b t w.vats) Links' l o ≡ onward_at script honest (world.put_at b s w.vats) Links l o
    onward_then l o = onward_same script honest w.vats Links Links' grow b s t g l o

    left : (l : Lane) (i : Item) → IsIn i (stands_at script honest (world.put_at b s w.vats) Links l) ⊎ ((l ≡ Way a b) × IsIn i (delivered (Mail ∷ []))) → IsIn i (stands_at script honest (world.put_at b t w.vats) Links' l) ⊎ ((l ≡ Way a b) × (i ≡ item m.message n))
    left l i (inl j) = inl (stands_grow script honest w.vats Links Links' grow b s t g queue l i j)
    left l i (inr j) = inr (j.0, only_one i j.1)

    abbrev All : List Link
    All = world.with_link (in_front Mail) a b Links

    leaves : Leaves Kept After (Way a b) (item m.message n)
    unfolding ways_of
    leaves = record {
      stands = λ l i j. left l i (stands_leaves script honest (world.put_at b s w.vats) a b Mail Links l i j);
      links = λ x y o. onward_then (Way x y) o ∙ links_still (Beheads (Way a b) (item m.message n)) Any (λ c. stays) script honest (world.put_at b s w.vats) All Links (message_all m n verb ys a b Links) x y o;
    }

    all_fit : (l : Lane) → FitsLane (Beheads (Way a b) (item m.message n)) Any (λ c. stays) script honest (world.put_at b s w.vats) All Links (message_all m n verb ys a b Links) l
    all_fit (Queue u) = tt
    all_fit (Held u (Gift h i)) = tt
    all_fit other = tt

    lanes : (l : Lane) (o : Name) → Beheads (Way a b) (item m.message n) (onward_at script honest (world.put_at b s w.vats) All l o) (onward_at script honest (world.put_at b t w.vats) Links' l o)
    lanes l o = subst (λ c. Beheads (Way a b) (item m.message n) (onward_at script honest (world.put_at b s w.vats) All l o) c) (sym (onward_then l o)) (onward_leaves (Beheads (Way a b) (item m.message n)) Any (λ c. stays) script honest (world.put_at b s w.vats) All Links (message_all m n verb ys a b Links) l (all_fit l) o)

    leads_to : onward_at script honest (world.put_at b t w.vats) Links' (Way a b) n ≡ leads_in script honest b s (Ref n)
    leads_to = onward_then (Way a b) n ∙ mid_onward n

    goes : (k : Lane) (o : Name) → leads_in script honest b s (Ref n) ≡ End k o → IsIn (item m.message o) (stands_at script honest (world.put_at b t w.vats) Links' k) → GoesOn Kept After (Way a b) (item m.message n) k o
    unfolding ways_of
    goes k o e i = record { leaves = leaves; lanes = λ l q. lanes l q; leads = leads_to ∙ e; comes = i }

    loses : (c d : Place) → Beheads (Way a b) (item m.message n) c d → LacksAt m.message d → Loses (Way a b) (item m.message n) c d
    loses c Nowhere stays h = nowhere_still
    loses c Free stays h = free_still
    loses c (End k q) stays h = end_still
    loses c (Mid k js q) stays h = mid_still h
    loses c d nearer h = mid_nearer h

    lost : leads_in script honest b s (Ref n) ≡ Nowhere → IsNowhere After m.message → IsLost Kept After (Way a b) (item m.message n)
    unfolding ways_of
    lost e h = record { leaves = leaves; lanes = λ l q. loses (onward_at script honest (world.put_at b s w.vats) All l q) (onward_at script honest (world.put_at b t w.vats) Links' l q) (lanes l q) (h.places l q); leads = leads_to ∙ e; only = λ l. h.lanes l }

    there : slice_get (world.put_at b t w.vats) b ≡ Some t
    there = get_put w.vats b r t at

    in_own_queue : (o : Name) → IsIn (item m.message o) (queued t.queue) → IsIn (item m.message o) (stands_at script honest (world.put_at b t w.vats) Links' (Queue b))
    unfolding stands_at
    in_own_queue o i = in_queue (item m.message o) (slice_get (world.put_at b t w.vats) b) t there i

    in_own_name : (q : Name) (k : Known Name) → refs.entry_of (names script b) t.known q ≡ Some k → IsIn (item m.message q) (held_on q k.held) → IsIn (item m.message q) (stands_at script honest (world.put_at b t w.vats) Links' (Held b q))
    unfolding stands_at
    in_own_name q k e i = in_held (names script b) (item m.message q) q (slice_get (world.put_at b t w.vats) b) t there (held_there q (item m.message q) (refs.entry_of (names script b) t.known q) k e i)

-- ---- a name holds one more message

held_more : (n : Name) (q : List (Message Name)) (m : Message Name) → Within (held_on n q) (held_on n (q ++ m ∷ []))
unfolding held_on
held_more n [] m i h = absurd h
held_more n (x ∷ q) m i (inl e) = inl e
held_more n (x ∷ q) m i (inr h) = inr (held_more n q m i h)

holds_alike : (n : Name) (m : Message Name) (k : Known Name) → StandsAlike n (Some k) (Some (state.changed (Hold m) k))
unfolding state.changed state.unless_settled state.changed_to
holds_alike n m k = go k.standing
  where
    go : (q : Standing Name) → StandsAlike n (Some k) (Some (state.unless_settled q k (record k { held = k.held ++ m ∷ [] })))
    go (Settled y) = (refl, refl, λ i h. h)
    go other = (refl, refl, held_more n k.held m)

alike_self : (n : Name) (o : Option (Known Name)) → StandsAlike n o o
alike_self n None = tt
alike_self n (Some k) = (refl, refl, λ i h. h)

module _ (K : Naming Name Name) (q : Name) (m : Message Name) where
  with_alike : (n : Name) (ks : List (Known Name)) → StandsAlike n (refs.entry_of K ks n) (refs.entry_of K (state.with_change K (Hold m) q ks) n)
  unfolding state.with_change refs.entry_of
  with_alike n [] = tt
  with_alike n (k ∷ ks) = go (with_alike n ks) (K.same k.name q) (K.same k.name n) refl
    where
      go : StandsAlike n (refs.entry_of K ks n) (refs.entry_of K (state.with_change K (Hold m) q ks) n) → (c d : Bool) → K.same k.name n ≡ d
          → StandsAlike n (elim d [ true ↦ Some k | false ↦ refs.entry_of K ks n ]) (refs.entry_of K (elim c [ true ↦ state.changed (Hold m) k ∷ ks | false ↦ k ∷ state.with_change K (Hold m) q ks ]) n)
      go f true true i = subst (λ o. StandsAlike n (Some k) o) (sym (entry_here K n (state.changed (Hold m) k) ks (ap (λ x. K.same x n) (changed_name (Hold m) k) ∙ i))) (holds_alike n m k)
      go f true false i = subst (λ o. StandsAlike n (refs.entry_of K ks n) o) (sym (entry_behind K n (state.changed (Hold m) k) ks (ap (λ x. K.same x n) (changed_name (Hold m) k) ∙ i))) (alike_self n (refs.entry_of K ks n))
      go f false true i = subst (λ o. StandsAlike n (Some k) o) (sym (entry_here K n k (state.with_change K (Hold m) q ks) i)) (alike_self n (Some k))
      go f false false i = subst (λ o. StandsAlike n (refs.entry_of K ks n) o) (sym (entry_behind K n k (state.with_change K (Hold m) q ks) i)) f

  with_length : (ks : List (Known Name)) → length (state.with_change K (Hold m) q ks) ≡ length ks
  unfolding state.with_change
  with_length [] = refl
  with_length (k ∷ ks) = go (with_length ks) (K.same k.name q)
    where
      go : length (state.with_change K (Hold m) q ks) ≡ length ks → (c : Bool) → length {A = Known Name} (elim c [ true ↦ state.changed (Hold m) k ∷ ks | false ↦ k ∷ state.with_change K (Hold m) q ks ]) ≡ suc (length ks)
      go e true = refl
      go e false = ap suc e

  pub held_refers : (s : Vat Name) → RefersAlike K s (record s { known = state.with_change K (Hold m) q s.known })
  held_refers s = record { number = refl; gifts = refl; noticed = refl; names_known = with_length s.known; entries = λ n. with_alike n s.known }

-- what else of a vat changes, it refers alike
pub queue_refers : (K : Naming Name Name) (s : Vat Name) (q : List (Message Name)) → RefersAlike K s (record s { queue = q })
queue_refers K s q = record { number = refl; gifts = refl; noticed = refl; names_known = refl; entries = λ n. alike_self n (refs.entry_of K s.known n) }

pub outbox_refers : (K : Naming Name Name) (s : Vat Name) (ps : List (Put Name)) → RefersAlike K s (record s { outbox = ps })
outbox_refers K s ps = record { number = refl; gifts = refl; noticed = refl; names_known = refl; entries = λ n. alike_self n (refs.entry_of K s.known n) }

pub self_refers : (K : Naming Name Name) (s : Vat Name) → RefersAlike K s s
self_refers K s = record { number = refl; gifts = refl; noticed = refl; names_known = refl; entries = λ n. alike_self n (refs.entry_of K s.known n) }

both_behind : (j : Item) (js ks : List Item) → Within js ks → Within (j ∷ js) (j ∷ ks)
both_behind j js ks f i (inl e) = inl e
both_behind j js ks f i (inr h) = inr (f i h)

queued_within : (y : Value Name) (m : Name) (js ks : List Item) → Within js ks → Within (elim y [ Ref n ↦ item m n ∷ js | _ ↦ js ]) (elim y [ Ref n ↦ item m n ∷ ks | _ ↦ ks ])
queued_within (Ref n) m js ks f = λ i h. both_behind (item m n) js ks f i h
queued_within other m js ks f = f

queued_more : (q : List (Message Name)) (m : Message Name) → Within (queued q) (queued (q ++ m ∷ []))
unfolding queued
queued_more [] m = λ i h. absurd h
queued_more (x ∷ q) m = queued_within x.target x.id (queued q) (queued (q ++ m ∷ [])) (queued_more q m)

append_nothing : {A : Type 0} (xs : List A) → xs ≡ xs ++ []
append_nothing [] = refl
append_nothing (x ∷ xs) = ap (λ q. x ∷ q) (append_nothing xs)

-- ---- the message is sent on

module _ (script : Script) (honest : ℕ → Bool) (w : World) (a b : ℕ) (r s : Vat Name) (m : Message Name) (asks : Bool) (answer : Option Name) (n : Name) (verb : Words) (ys : Passeds Name) (at : slice_get w.vats b ≡ Some r) (way : IsOpenWay honest a b w) where
  abbrev Mailed : Delivery Name
  Mailed = record { message = m.id; asks = asks; answer = answer }

  abbrev From : Ways
  From = ways script honest (amid b s (keeping a b (Deliver Mailed n verb ys) w))

  abbrev To : Vat Name → Ways
  To t = ways script honest (amid b t w)

  abbrev K : Naming Name Name
  K = names script b

  after_is : (t : Vat Name) → ways_of script honest (world.put_at b t w.vats) (world.push_all b t.outbox w.links) ≡ To t
  unfolding ways amid
  after_is t = refl

  pub went : (t : Vat Name) (k : Lane) (o : Name) → RefersAlike K s t → Within (queued s.queue) (queued t.queue) → (ps : List (Put Name)) → t.outbox ≡ s.outbox ++ ps → NothingGoes ps
      → leads_in script honest b s (Ref n) ≡ End k o → IsIn (item m.id o) (stands_at script honest (world.put_at b t w.vats) (world.push_all b t.outbox w.links) k) → GoesOn From (To t) (Way a b) (item m.id n) k o
  unfolding ways amid
  went t k o g q ps e h f i = subst (λ u. GoesOn u (To t) (Way a b) (item m.id n) k o) (before_is script honest w a b r s Mailed n verb ys at way) (goes script honest w a b r s Mailed n verb ys at way t (refers_same script honest b s t g) q ps e h k o f i)

  -- It leaves its link, and that leads where the message is to go, whether it stands there then or not.
  pub left_for : (t : Vat Name) (k : Lane) (o : Name) → RefersAlike K s t → Within (queued s.queue) (queued t.queue) → (ps : List (Put Name)) → t.outbox ≡ s.outbox ++ ps → NothingGoes ps → leads_in script honest b s (Ref n) ≡ End k o
      → Leaves From (To t) (Way a b) (item m.id n) × ((l : Lane) (q : Name) → Beheads (Way a b) (item m.id n) (From.onward l q) ((To t).onward l q)) × ((To t).onward (Way a b) n ≡ End k o)
  unfolding ways ways_of amid
  left_for t k o g q ps e h f =
      subst (λ (u : Ways). Leaves u (To t) (Way a b) (item m.id n) × ((l : Lane) (p : Name) → Beheads (Way a b) (item m.id n) (u.onward l p) ((To t).onward l p)) × ((To t).onward (Way a b) n ≡ End k o)) (before_is script honest w a b r s Mailed n verb ys at way)
      (leaves script honest w a b r s Mailed n verb ys at way t (refers_same script honest b s t g) q ps e h, λ l p. lanes script honest w a b r s Mailed n verb ys at way t (refers_same script honest b s t g) q ps e h l p, leads_to script honest w a b r s Mailed n verb ys at way t (refers_same script honest b s t g) q ps e h ∙ f)

  pub gone : (t : Vat Name) → RefersAlike K s t → Within (queued s.queue) (queued t.queue) → t.outbox ≡ s.outbox → leads_in script honest b s (Ref n) ≡ Nowhere → IsNowhere (To t) m.id → IsLost From (To t) (Way a b) (item m.id n)
  unfolding ways amid
  gone t g q e f h = subst (λ u. IsLost u (To t) (Way a b) (item m.id n)) (before_is script honest w a b r s Mailed n verb ys at way) (lost script honest w a b r s Mailed n verb ys at way t (refers_same script honest b s t g) q [] (e ∙ append_nothing s.outbox) tt f h)

  abbrev Then : Place → Vat Name → Type 0
  Then c t = GoesTo From (To t) (Way a b) (item m.id n) c

  abbrev Queued : Value Name → Vat Name
  Queued y = record s { queue = s.queue ++ record m { target = y } ∷ [] }

  data_sent : (y : Value Name) → leads_in script honest b s (Ref n) ≡ Nowhere → Then Nowhere (Queued y)
  data_sent y e h = gone (Queued y) (queue_refers K s (s.queue ++ record m { target = y } ∷ [])) (queued_more s.queue (record m { target = y })) refl e h

  near_sent : (y : Value Name) → leads_in script honest b s (Ref n) ≡ aimed b y Near → Then (aimed b y Near) (Queued y)
  unfolding aimed
  near_sent (Ref o) e = went (Queued (Ref o)) (Queue b) o (queue_refers K s (s.queue ++ record m { target = Ref o } ∷ [])) (queued_more s.queue (record m { target = Ref o })) [] (append_nothing s.outbox) tt e
      (in_own_queue script honest w a b r s Mailed n verb ys at way (Queued (Ref o)) (refers_same script honest b s (Queued (Ref o)) (queue_refers K s (s.queue ++ record m { target = Ref o } ∷ []))) (queued_more s.queue (record m { target = Ref o })) [] (append_nothing s.outbox) tt o (queued_last s.queue (record m { target = Ref o }) o refl))
  near_sent other e = data_sent other e

  mine_sent : (y : Value Name) (q : Name) (k : Known Name) → refs.entry_of K s.known q ≡ Some k → IsWaiting k.standing → leads_in script honest b s (Ref n) ≡ End (Held b q) q
      → Then (End (Held b q) q) (record s { known = state.with_change K (Hold (record m { target = y })) q s.known })
  mine_sent y q k e i f =
      let x : Message Name = record m { target = y } in
      let t : Vat Name = record s { known = state.with_change K (Hold x) q s.known } in
      let g = held_refers K q x s in
      went t (Held b q) q g (λ j h. h) [] (append_nothing s.outbox) tt f
      (in_own_name script honest w a b r s Mailed n verb ys at way t (refers_same script honest b s t g) (λ j h. h) [] (append_nothing s.outbox) tt q (state.changed (Hold x) k) (entry_changed K q (Hold x) s.known k e)
      (subst (λ p. IsIn (item m.id q) (held_on q p)) (sym (held_by k x i)) (held_last k.held x q)))

  module _ (settle : Settler {N = Name} {W = Name} K) where
    sent_here : (y : Value Name) (p : refs.Place Name) → ((q : Name) → p ≡ Mine q → (k : Known Name) × (refs.entry_of K s.known q ≡ Some k) × IsWaiting k.standing) → IsHere p → leads_in script honest b s (Ref n) ≡ aimed b y p
        → IfGives (Then (aimed b y p)) (refs.send_to K settle m y p s)
    unfolding refs.send_to state.enqueue state.alter aimed
    sent_here y Near f h e = near_sent y e
    sent_here y (Mine q) f h e = let k = f q refl in mine_sent y q k.0 k.1 k.2 e
    sent_here y other f h e = absurd h

pub carried_messages_go_on : CarriedMessagesGoOn
carried_messages_go_on = λ script honest w a b r s settle m asks answer n verb ys at way known waiting here.
    let y = refs.follow (names script b) s (Ref n) in
    sent_here script honest w a b r s m asks answer n verb ys at way settle y (refs.place (names script b) s y) waiting here (learnt_leads script honest b s n known)

broken_aimed : (v : ℕ) (y : Value Name) (p : refs.Place Name) (problem : Words) → p ≡ Gone problem → aimed v y p ≡ Nowhere
unfolding aimed
broken_aimed v y p problem e = ap (λ q. aimed v y q) e ∙ gone_aimed y
  where
    gone_aimed : (y : Value Name) → aimed v y (Gone problem) ≡ Nowhere
    gone_aimed (Ref n) = refl
    gone_aimed other = refl

abbrev mail_named : Name → Message Name
mail_named m = record { id = m; target = Null; verb = []; args = []; answer = None }

pub carried_messages_are_lost : CarriedMessagesAreLost
carried_messages_are_lost = λ script honest w a b r s m n verb ys problem at way known broken nothing.
    let y = refs.follow (names script b) s (Ref n) in
    gone script honest w a b r s (mail_named m.message) m.asks m.answer n verb ys at way s (self_refers (names script b) s) (λ i h. h) refl (learnt_leads script honest b s n known ∙ broken_aimed b y (refs.place (names script b) s y) problem broken) nothing

away_aimed : (v : ℕ) (y : Value Name) (p : refs.Place Name) (h : ℕ) (q : Name) (o : Bool) → p ≡ Away h q o → aimed v y p ≡ End (Way v h) q
unfolding aimed
away_aimed v y p h q o e = ap (λ z. aimed v y z) e ∙ away_end y
  where
    away_end : (y : Value Name) → aimed v y (Away h q o) ≡ End (Way v h) q
    away_end (Ref n) = refl
    away_end other = refl

-- a message that is put on an open link stands there
module _ (script : Script) (honest : ℕ → Bool) (w : World) (b h : ℕ) (way : IsOpenWay honest b h w) (m : Delivery Name) (q : Name) (verb : Words) (zs : Passeds Name) (vs : List (Vat Name)) (ps : List (Put Name)) where
  abbrev Put' : Put Name
  Put' = record { to = h; note = Deliver m q verb zs }

  abbrev Were : List Link
  Were = world.push_all b ps w.links

  were_open : IsOpen b h Were
  were_open = all_open b h b ps w.links (way.link, way.found, way.uncut)

  now_at : world.link_at b h (world.push_all b (ps ++ Put' ∷ []) w.links) ≡ Some (world.pushed (Deliver m q verb zs) were_open.0)
  now_at = ap (λ ls. world.link_at b h ls) (push_last b ps Put' w.links) ∙ put_there b h (Deliver m q verb zs) Were were_open.0 were_open.1

  now_notes : (world.pushed (Deliver m q verb zs) were_open.0).notes ≡ were_open.0.notes ++ Deliver m q verb zs ∷ []
  now_notes = ap (λ l. l.notes) (pushed_open (Deliver m q verb zs) were_open.0 were_open.2)

  ends_honest : (l : Link) → l.from ≡ b → l.to ≡ h → is_honest script honest l ≡ true
  unfolding is_honest
  ends_honest l e f = rw e (rw f (rw way.sender way.receiver))

  put_stands : IsIn (item m.message q) (stands_at script honest vs (world.push_all b (ps ++ Put' ∷ []) w.links) (Way b h))
  unfolding stands_at
  put_stands =
      let l = world.pushed (Deliver m q verb zs) were_open.0 in
      let e = found_ends b h (world.push_all b (ps ++ Put' ∷ []) w.links) l now_at in
      subst (λ o. IsIn (item m.message q) (elim o [ Some k ↦ elim (is_honest script honest k) [ true ↦ delivered k.notes | false ↦ [] ] | None ↦ [] ])) (sym now_at)
      (subst (λ c. IsIn (item m.message q) (elim c [ true ↦ delivered l.notes | false ↦ [] ])) (sym (ends_honest l e.0 e.1))
      (subst (λ ns. IsIn (item m.message q) (delivered ns)) (sym now_notes) (delivered_last were_open.0.notes m q verb zs)))

pub carried_messages_are_put_on : CarriedMessagesArePutOn
carried_messages_are_put_on = λ script honest w a b h r s m n q o verb ys zs at way on known away.
    let y = refs.follow (names script b) s (Ref n) in
    let p : Put Name = record { to = h; note = Deliver m q verb zs } in
    let t : Vat Name = record s { outbox = s.outbox ++ p ∷ [] } in
    went script honest w a b r s (mail_named m.message) m.asks m.answer n verb ys at way t (Way b h) q (outbox_refers (names script b) s (s.outbox ++ p ∷ [])) (λ i j. j) (p ∷ []) refl (tt, tt)
    (learnt_leads script honest b s n known ∙ away_aimed b y (refs.place (names script b) s y) h q o away)
    (put_stands script honest w b h on m q verb zs (world.put_at b t w.vats) s.outbox)

-- ---- learning

doom_first : (w : Ways) (l : Lane) (b : List Item) (n : Name) → Doom w (Mid l b n) → Doom w (w.onward l n)
doom_first w l b n (by_mid h) = h

ahead_first : (w : Ways) (l : Lane) (n x : Name) → Ahead w x (Mid l [] n) → Ahead w x (w.onward l n)
ahead_first w l n x (doomed_there h) = doomed_there (doom_first w l [] n h)
ahead_first w l n x (in_mid i f) = absurd i
ahead_first w l n x (past_mid h) = h

module _ (script : Script) (honest : ℕ → Bool) (w : World) (a b : ℕ) (n : Name) (way : IsOpenWay honest a b w) where
  way_honest : (l : Link) → l.from ≡ a → l.to ≡ b → is_honest script honest l ≡ true
  unfolding is_honest
  way_honest l e f = rw e (rw f (rw way.sender way.receiver))

  open_onward : onward_at script honest w.vats w.links (Way a b) n ≡ leads_at script honest b (slice_get w.vats b) (Ref n)
  unfolding onward_at over leads
  open_onward =
      let h = found_ends a b w.links way.link way.found in
      ap (λ q. elim q [ Some k ↦ over script honest w.vats w.links b n k | None ↦ Nowhere ]) way.found
      ∙ ap (λ c. elim c [ true ↦ elim way.link.cut [ true ↦ Nowhere | false ↦ leads script honest w.vats w.links b (Ref n) ] | false ↦ Free ]) (way_honest way.link h.0 h.1)
      ∙ ap (λ c. elim c [ true ↦ Nowhere | false ↦ leads script honest w.vats w.links b (Ref n) ]) way.uncut

  learnt_behind : let u = ways script honest w in (Doom u (Mid (Way a b) [] n) → Doom u (leads_at script honest b (slice_get w.vats b) (Ref n))) × ((x : Name) → Ahead u x (Mid (Way a b) [] n) → Ahead u x (leads_at script honest b (slice_get w.vats b) (Ref n)))
  unfolding ways ways_of
  learnt_behind = let u = ways script honest w in (
    λ h. subst (Doom u) open_onward (doom_first u (Way a b) [] n h),
    λ x h. subst (Ahead u x) open_onward (ahead_first u (Way a b) n x h),
  )

pub learnt_names_are_behind : LearntNamesAreBehind
learnt_names_are_behind = λ script honest w a b n way. learnt_behind script honest w a b n way
