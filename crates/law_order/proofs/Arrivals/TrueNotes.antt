-- A vat is told by notes that are true: each thing keeps its order.
use Rattle.std.proofs.Common.{◌≡◌, ℕ, suc, Bool, true, false, List, Option, Some, None, length, refl, sym, ap, subst, ◌∙◌, ◌⊎◌, inl, inr, eqb-true}
use Rattle.std.proofs.lemmas.Bool.{ne_eqb}
use Rattle.std.specs.Prelude.{slice_get}
use Rattle.def_machine.specs.Values.{Value, Ref, Name, Naming, host_of}
use Rattle.def_machine.specs.State.{Known, Vat, is_in}
use Rattle.def_machine.specs.Refs as refs
use Rattle.def_run.specs.World.{Script, Link, World, names}
use Rattle.def_run.specs.World as world
use Rattle.law_order.specs.Ordering.Ways.{Lane, Queue, Way, Item, Place, Nowhere, End, Mid, Ways, Doom, nowhere, by_end, Follows, doomed, one_way, alike, beside}
use Rattle.law_order.specs.Ordering.Turns.{Within, Comes, Reroutes, ends_now, renamed_so, behind_all, IsDefinite}
use Rattle.law_order.specs.Ordering.Places.{leads_in, leads_at, leads, by_host, by_follow, of_name, onward_at, amid}
use Rattle.law_order.specs.Ordering.Worlds.{IsObject}
use Rattle.law_order.specs.Ordering.Settle.{aimed_at}
use Rattle.law_order.specs.Ordering.Steps.{WaysAmid}
use Rattle.law_order.proofs.Ordering.Far.{far_aimed}
use Rattle.law_order.proofs.Ordering.Kept.{doom_end, follows_self}
use Rattle.law_order.proofs.Ordering.Sends.{get_put}
use Rattle.law_order.proofs.Ordering.Settled.{is_object}
use Rattle.law_order.specs.Arrivals.Tellings.{owned, told_by, HostsAreTold, IsOwnEnd, IsTidy, IsRetold, IsToldOf}
use Rattle.law_order.specs.Arrivals.Notes.{EndsOver, KeepsAll, EndedNamesKeep, SettledNamesKeep, ViewedNamesKeep}
use Rattle.law_order.proofs.Arrivals.Beside.{told_passings_keep}
use Rattle.law_order.proofs.Arrivals.Homes.{object_leads, object_far, link_leads}
use Rattle.law_order.proofs.Arrivals.Reaching.{severed_has, by_host_has}
use Rattle.law_order.proofs.Arrivals.Retold.{retelling_keeps, aside, follows_kept}
use Rattle.law_order.proofs.Arrivals.Tidy.{IsGood, owned_way, owned_queue, owned_held, leads_good, onward_good}
use Rattle.law_order.proofs.Arrivals.Told.{tells_here, of_some, of_none}
use Rattle.law_order.proofs.Arrivals.Telling.{hosts, bring, mine, own_stays, leads_told, onward_is, onward_then, hosts_then, retold, kept}

abbrev IsEnd : Place → Type 0
IsEnd (End l n) = Unit {0}
IsEnd other = ⊥

-- behind what is in a queue nothing follows but what is in it
queue_follows : (w : Ways) (h a b : ℕ) (k o : Name) → Follows w (End (Queue h) k) (End (Way a b) o) → Doom w (End (Way a b) o)
queue_follows w h a b k o (doomed d) = d

module _ (script : Script) (honest : ℕ → Bool) (w : World) (v h : ℕ) (r s t : Vat Name) (n : Name) (y : Value Name) (at : slice_get w.vats v ≡ Some r) (tidy : IsTidy script honest w v s) (g : IsToldOf script v h s t n y) where
  abbrev K : Naming Name Name
  K = names script v

  abbrev Vats : List (Vat Name)
  Vats = world.put_at v s w.vats

  abbrev Vats' : List (Vat Name)
  Vats' = world.put_at v t w.vats

  abbrev Links : List Link
  Links = world.push_all v s.outbox w.links

  abbrev E : Place
  E = aimed_at script v t y

  abbrev F : Place → Place
  F = told_by v n E

  abbrev W : Ways
  W = WaysAmid script honest w v s

  abbrev U : Ways
  U = WaysAmid script honest w v t

  abbrev There : Place
  There = End (Way v h) n

  objects : (u : ℕ) (q : Vat Name) → slice_get Vats u ≡ Some q → (m : Name) → IsObject m → refs.entry_of (names script u) q.known m ≡ None
  unfolding amid
  objects = tidy.objects

  was : (l : Lane) (m : Name) → W.onward l m ≡ onward_at script honest Vats Links l m
  was l m = onward_is script honest w v h r s t n y at tidy g l m

  is_now : (l : Lane) (m : Name) → U.onward l m ≡ onward_at script honest Vats' Links l m
  is_now l m = onward_then script honest w v h r s t n y at tidy g l m

  there_good : IsGood There
  there_good = owned_way v h n g.host

  aim_good : IsGood E
  unfolding aimed_at
  aim_good = severed_has script honest v t (hosts_then script honest w v h r s t n y at tidy g v t (get_put w.vats v r t at)) IsGood (λ m. Unit {0}) tt (λ m. owned_queue v m) (λ m. owned_held v m m) (λ b m q k. owned_way v b m k) y (λ m e. tt)

  module _ (reroute : Reroutes W U There E) where
    doom_there : Doom W There → Doom U E
    doom_there d = (retelling_keeps owned W U (retold script honest w v h r s t n y at tidy g reroute) There E there_good aim_good reroute).0 d

    all_kept : ((m : Name) → host_of m ≡ v → Follows W (leads script honest Vats Links v (Ref m)) There → Follows U (leads script honest Vats Links v (Ref m)) E) → KeepsAll script honest w v s t
    unfolding amid
    all_kept f = (kept script honest w v h r s t n y at tidy g reroute, told_passings_keep script honest w v h r s t n y at tidy g reroute f)

  -- to nothing
  pub ended : E ≡ Nowhere → KeepsAll script honest w v s t
  ended e = let d : Doom U E = subst (Doom U) (sym e) nowhere in all_kept (ends_now d) (λ m i f. doomed d)

  -- ---- to an object of the host

  module _ (here : honest v ≡ true) (there : honest h ≡ true) where
    module _ (o : Name) (is : y ≡ Ref o) (object : IsObject o) (hosted : host_of o ≡ h) (so : leads script honest Vats Links h (Ref n) ≡ End (Queue h) o) (unnoticed : is_in h s.noticed ≡ false) where
      abbrev HomeAt : Option (Vat Name) → Type 0
      HomeAt q = leads_at script honest h q (Ref n) ≡ End (Queue h) o → leads_at script honest h q (Ref o) ≡ End (Queue h) o

      home_at : (q : Option (Vat Name)) → slice_get Vats h ≡ q → HomeAt q
      unfolding leads_at
      home_at (Some q) f e = object_leads script honest h q o object hosted (objects h q f o object)
      home_at None f e = absurd (subst IsEnd (sym e) tt)

      home : leads script honest Vats Links h (Ref o) ≡ End (Queue h) o
      unfolding leads
      home = home_at (slice_get Vats h) refl so

      aim : E ≡ End (Way v h) o
      aim = ap (λ z. aimed_at script v t z) is ∙ far_aimed script v h o (object_far script v h o object hosted (ne_eqb v h (λ e. g.other (sym e)))) t (ap (λ q. is_in h q) g.only.noticed ∙ unnoticed)

      then : (x : Name) → leads script honest Vats Links h (Ref x) ≡ End (Queue h) o → leads script honest Vats' Links h (Ref x) ≡ End (Queue h) o
      unfolding told_by
      then x e = leads_told script honest w v h r s t n y at tidy g h (Ref x) ∙ ap F e

      abbrev SoOver : Type 0
      SoOver = (onward_at script honest Vats' Links (Way v h) o ≡ onward_at script honest Vats' Links (Way v h) n) × IsDefinite (onward_at script honest Vats' Links (Way v h) o)

      same_over : ((x : Name) → onward_at script honest Vats' Links (Way v h) x ≡ Nowhere) ⊎ ((x : Name) → onward_at script honest Vats' Links (Way v h) x ≡ leads script honest Vats' Links h (Ref x)) → SoOver
      same_over (inl f) = (f o ∙ sym (f n), subst IsDefinite (sym (f o)) tt)
      same_over (inr f) = (f o ∙ then o home ∙ sym (f n ∙ then n so), subst IsDefinite (sym (f o ∙ then o home)) tt)

      over : SoOver
      over = same_over (link_leads script honest Vats' Links v h here there)

      alike_now : U.onward (Way v h) o ≡ U.onward (Way v h) n
      alike_now = is_now (Way v h) o ∙ over.0 ∙ sym (is_now (Way v h) n)

      reroute : Reroutes W U There E
      reroute = subst (Reroutes W U There) (sym aim) (renamed_so (sym alike_now) (subst IsDefinite (alike_now) (subst IsDefinite (sym (is_now (Way v h) o)) over.1)))

      ways_turn : IsRetold owned W U
      ways_turn = retold script honest w v h r s t n y at tidy g reroute

      beside_there : (k : Name) → owned (Way v h) k ≡ true → Follows W (W.onward (Way v h) k) (W.onward (Way v h) n) → Follows U (End (Way v h) k) (End (Way v h) o)
      beside_there k e f = to_o (End (Way v h) k) (aside owned W U ways_turn (Way v h) k n e there_good (follows_kept owned W U ways_turn (W.onward (Way v h) k) (W.onward (Way v h) n) (good_on k) (good_on n) f))
        where
          good_on : (x : Name) → IsGood (W.onward (Way v h) x)
          good_on x = subst IsGood (sym (was (Way v h) x)) (onward_good script honest Vats Links (hosts script honest w v h r s t n y at tidy g) (bring script honest w v h r s t n y at tidy g) (Way v h) x)

          -- from both names the link leads on alike
          to_o : (c : Place) → Follows U c (End (Way v h) n) → Follows U c (End (Way v h) o)
          to_o c (doomed d) = doomed (by_end (subst (Doom U) (sym alike_now) (doom_end U (Way v h) n d)))
          to_o c (one_way j) = absurd j
          to_o c alike = beside (subst (λ d. Follows U (U.onward (Way v h) n) d) (sym alike_now) (follows_self U (U.onward (Way v h) n) (subst IsDefinite alike_now (subst IsDefinite (sym (is_now (Way v h) o)) over.1))))
          to_o c (beside {m = k'} f) = beside (subst (λ d. Follows U (U.onward (Way v h) k') d) (sym alike_now) f)

      side : (c : Place) → IsGood c → F c ≡ c → Follows W c There → Follows U c E
      side c i e (doomed d) = doomed (doom_there reroute d)
      side c i e (one_way j) = absurd j
      side c i e alike = subst (λ d. Follows U There d) (sym (sym (tells_here v n E h) ∙ e)) alike
      side c i e (beside {m = k} f) = subst (λ d. Follows U (End (Way v h) k) d) (sym aim) (beside_there k i f)

      own_leads : (m : Name) → host_of m ≡ v → F (leads script honest Vats Links v (Ref m)) ≡ leads script honest Vats Links v (Ref m)
      unfolding leads leads_at
      own_leads m i = subst (λ q. F (leads_at script honest v q (Ref m)) ≡ leads_at script honest v q (Ref m)) (sym (get_put w.vats v r s at)) (own_stays script honest w v h r s t n y at tidy g m i)

      settled_there : KeepsAll script honest w v s t
      settled_there = all_kept reroute (λ m i f. side (leads script honest Vats Links v (Ref m)) (leads_good script honest Vats Links (hosts script honest w v h r s t n y at tidy g) (bring script honest w v h r s t n y at tidy g) v (Ref m)) (own_leads m i) f)

    pub settled_by : (o : Name) → y ≡ Ref o → IsObject o → host_of o ≡ h → leads script honest Vats Links h (Ref n) ≡ End (Queue h) o → (is_in h s.noticed ≡ false) ⊎ (E ≡ Nowhere) → KeepsAll script honest w v s t
    settled_by o e i j so (inl u) = settled_there o e i j so u
    settled_by o e i j so (inr q) = ended q

    -- ---- to an object elsewhere

    -- what a name of the vat's own leads to: at another vat an object
    abbrev IsAway : Place → Type 0
    IsAway (End (Way a b) k) = IsObject k ⊎ (b ≡ v)
    IsAway other = Unit {0}

    abbrev IsOwn : Name → Type 0
    IsOwn k = IsObject k ⊎ (host_of k ≡ v)

    way_away : (b : ℕ) (k : Name) → IsOwn k → host_of k ≡ b → IsAway (End (Way v b) k)
    way_away b k (inl i) e = inl i
    way_away b k (inr i) e = inr (sym e ∙ i)

    own_end : (z : Value Name) → IsOwnEnd v z → (k : Name) → z ≡ Ref k → IsOwn k
    own_end z i k e = subst (IsOwnEnd v) e i

    mine_here : HostsAreTold K s
    mine_here = mine script honest w v h r s t n y at tidy g

    followed_away : (x : Value Name) → IsOwnEnd v (refs.follow_at K (suc (length s.known)) s.known x) → IsAway (by_follow script honest v s x)
    unfolding by_follow refs.follow
    followed_away x i = severed_has script honest v s mine_here IsAway IsOwn tt (λ m. tt) (λ m. tt) (λ b m j e. way_away b m j e) (refs.follow_at K (suc (length s.known)) s.known x) (λ m e. own_end (refs.follow_at K (suc (length s.known)) s.known x) i m e)

    unknown_away : (m : Name) → host_of m ≡ v → IsAway (by_host v s m (host_of m))
    unknown_away m i = by_host_has script honest v s mine_here IsAway IsOwn tt (λ k. tt) (λ k. tt) (λ b k j e. way_away b k j e) m (inr i)

    name_away : (m : Name) (o : Option (Known Name)) → refs.entry_of K s.known m ≡ o → host_of m ≡ v → (IsObject m → ⊥) → IsAway (of_name script honest v s m o)
    name_away m (Some k) e i j = subst IsAway (sym (of_some script honest v h s t n y mine_here g s m k)) (followed_away (Ref m) (tidy.own m k e i))
    name_away m None e i j = subst IsAway (sym (of_none script honest v h s t n y mine_here g s m j)) (unknown_away m i)

    own_away : (m : Name) → host_of m ≡ v → IsObject m ⊎ (IsObject m → ⊥) → IsAway (leads_in script honest v s (Ref m))
    unfolding leads_in
    own_away m i (inl j) = subst IsAway (sym (object_leads script honest v s m j i (objects v s (get_put w.vats v r s at) m j))) tt
    own_away m i (inr j) = name_away m (refs.entry_of K s.known m) refl i j

    leads_away : (m : Name) → host_of m ≡ v → IsAway (leads script honest Vats Links v (Ref m))
    unfolding leads leads_at
    leads_away m i = subst (λ q. IsAway (leads_at script honest v q (Ref m))) (sym (get_put w.vats v r s at)) (own_away m i (is_object m))

    module _ (c : ℕ) (so : EndsOver h c (leads script honest Vats Links h (Ref n))) where
      abbrev AtQueue : Option (Vat Name) → Type 0
      AtQueue q = (k : Name) → IsObject k → host_of k ≡ h → EndsOver h c (leads_at script honest h q (Ref n)) → Follows W (leads_at script honest h q (Ref k)) (leads_at script honest h q (Ref n)) → Doom W (leads_at script honest h q (Ref n))

      over_doomed : (a d : Place) (k : Name) → a ≡ End (Queue h) k → EndsOver h c d → Follows W a d → Doom W d
      over_doomed a d k e (inl i) f = subst (Doom W) (sym i.1) (queue_follows W h h c k i.0 (subst (λ z. Follows W (End (Queue h) k) z) i.1 (subst (λ z. Follows W z d) e f)))
      over_doomed a d k e (inr i) f = subst (Doom W) (sym i) nowhere

      queue_doomed : (q : Option (Vat Name)) → slice_get Vats h ≡ q → AtQueue q
      unfolding leads_at
      queue_doomed (Some q) e k i j o f = over_doomed (leads_in script honest h q (Ref k)) (leads_in script honest h q (Ref n)) k (object_leads script honest h q k i j (objects h q e k i)) o f
      queue_doomed None e k i j o f = nowhere

      leads_doomed : (k : Name) → IsObject k → host_of k ≡ h → Follows W (leads script honest Vats Links h (Ref k)) (leads script honest Vats Links h (Ref n)) → Doom W (leads script honest Vats Links h (Ref n))
      unfolding leads
      leads_doomed k i j f = queue_doomed (slice_get Vats h) refl k i j so f

      abbrev Links' : Type 0
      Links' = ((x : Name) → onward_at script honest Vats Links (Way v h) x ≡ Nowhere) ⊎ ((x : Name) → onward_at script honest Vats Links (Way v h) x ≡ leads script honest Vats Links h (Ref x))

      link_doomed : (k : Name) → IsObject k → host_of k ≡ h → Links' → Follows W (onward_at script honest Vats Links (Way v h) k) (onward_at script honest Vats Links (Way v h) n) → Doom W (onward_at script honest Vats Links (Way v h) n)
      link_doomed k i j (inl e) f = subst (Doom W) (sym (e n)) nowhere
      link_doomed k i j (inr e) f = subst (Doom W) (sym (e n)) (leads_doomed k i j (subst (λ z. Follows W z (leads script honest Vats Links h (Ref n))) (e k) (subst (λ z. Follows W (onward_at script honest Vats Links (Way v h) k) z) (e n) f)))

      away_doomed : (d : Place) → IsGood d → IsAway d → Follows W d There → Doom W There
      unfolding owned
      away_doomed d i j (doomed x) = x
      away_doomed d i j (one_way x) = absurd x
      away_doomed d i (inl j) alike = absurd (g.plain j)
      away_doomed d i (inr j) alike = absurd (g.other j)
      away_doomed d i (inl j) (beside {m = k} f) = by_end (subst (Doom W) (sym (was (Way v h) n)) (link_doomed k j (eqb-true (host_of k) h i) (link_leads script honest Vats Links v h here there) (subst (λ z. Follows W z (onward_at script honest Vats Links (Way v h) n)) (was (Way v h) k) (subst (λ z. Follows W (W.onward (Way v h) k) z) (was (Way v h) n) f))))
      away_doomed d i (inr j) (beside f) = absurd (g.other j)

      module _ (b : List Item) (all : Within (W.stands (Way v h)) b) (comes : Comes U (Mid (Way v h) b n) E ⊎ Doom U E) where
        behind : Comes U (Mid (Way v h) b n) E ⊎ Doom U E → Reroutes W U There E
        behind (inl k) = behind_all all k
        behind (inr d) = ends_now d

        pub viewed_there : KeepsAll script honest w v s t
        viewed_there = all_kept (behind comes) (λ m i f. doomed (doom_there (behind comes) (away_doomed (leads script honest Vats Links v (Ref m)) (leads_good script honest Vats Links (hosts script honest w v h r s t n y at tidy g) (bring script honest w v h r s t n y at tidy g) v (Ref m)) (leads_away m i) f)))

pub ended_names_keep : EndedNamesKeep
ended_names_keep = λ script honest w v h r s t n y at tidy g e. ended script honest w v h r s t n y at tidy g e

pub settled_names_keep : SettledNamesKeep
unfolding amid
settled_names_keep = λ script honest w v h r s t n o at tidy g here there object hosted so. settled_by script honest w v h r s t n (Ref o) at tidy g here there o refl object hosted so g.reached

pub viewed_names_keep : ViewedNamesKeep
unfolding amid
viewed_names_keep = λ script honest w v h c r s t n y b at tidy g here there so all comes. viewed_there script honest w v h r s t n y at tidy g here there c so b all comes
