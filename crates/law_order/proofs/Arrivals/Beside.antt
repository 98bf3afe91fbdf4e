-- As a vat is told of a name of another vat, names that notes bring keep their order.
use Rattle.std.proofs.Common.{◌≡◌, ℕ, Bool, true, false, List, Option, Some, None, refl, sym, ap, subst, ◌∙◌, eqb-true}
use Rattle.std.specs.Prelude.{slice_get, ◌==◌}
use Rattle.std.proofs.lemmas.Bool.{eqb-false}
use Rattle.def_machine.specs.Values.{Value, Ref, Name, host_of}
use Rattle.def_machine.specs.State.{Vat}
use Rattle.def_run.specs.World.{Script, Link, World}
use Rattle.def_run.specs.World as world
use Rattle.law_order.specs.Ordering.Ways.{Lane, Way, Item, Place, Nowhere, Free, End, Mid, Ways, IsIn, Doom, nowhere, by_end, by_mid, Follows, doomed, one_way, alike, beside, Ahead, doomed_there, in_mid, past_mid}
use Rattle.law_order.specs.Ordering.Turns.{Reroutes}
use Rattle.law_order.specs.Ordering.Messages.{StaysBehind}
use Rattle.law_order.specs.Ordering.Places.{is_honest, leads_at, leads, over, onward_at, amid}
use Rattle.law_order.specs.Ordering.Settle.{aimed_at}
use Rattle.law_order.specs.Ordering.Steps.{WaysAmid, LeadsAmid}
use Rattle.law_order.proofs.Ordering.Named.{Test, test_is}
use Rattle.law_order.proofs.Ordering.Kept.{doom_free, behind_free}
use Rattle.law_order.proofs.Ordering.OrderPassing.{Found, here, apart, none, found}
use Rattle.law_order.specs.Arrivals.Tellings.{owned, told_by, IsTidy, IsToldOf, ToldPassingsKeep}
use Rattle.law_order.proofs.Arrivals.Retold.{retelling_keeps, follows_kept}
use Rattle.law_order.proofs.Arrivals.Tidy.{IsGood, leads_good, onward_good}
use Rattle.law_order.proofs.Arrivals.Telling.{hosts, bring, leads_told, leads_own, onward_is, onward_then, hosts_then, onward_turns, retold}

module _ (script : Script) (honest : ℕ → Bool) (w : World) (v h : ℕ) (r s t : Vat Name) (n : Name) (y : Value Name) (at : slice_get w.vats v ≡ Some r) (tidy : IsTidy script honest w v s) (g : IsToldOf script v h s t n y)
    (reroute : Reroutes (WaysAmid script honest w v s) (WaysAmid script honest w v t) (End (Way v h) n) (aimed_at script v t y))
    (aside : (m : Name) → host_of m ≡ v → Follows (WaysAmid script honest w v s) (LeadsAmid script honest w v s v (Ref m)) (End (Way v h) n) → Follows (WaysAmid script honest w v t) (LeadsAmid script honest w v s v (Ref m)) (aimed_at script v t y)) where
  abbrev Vats : List (Vat Name)
  Vats = world.put_at v s w.vats

  abbrev Vats' : List (Vat Name)
  Vats' = world.put_at v t w.vats

  abbrev Links : List Link
  Links = world.push_all v s.outbox w.links

  abbrev E : Place
  E = aimed_at script v t y

  abbrev F : Place → Place
  F = told_by v n E

  abbrev W : Ways
  W = WaysAmid script honest w v s

  abbrev U : Ways
  U = WaysAmid script honest w v t

  abbrev Leads : List (Vat Name) → ℕ → Name → Place
  Leads vs b m = leads script honest vs Links b (Ref m)

  good : (b : ℕ) (m : Name) → IsGood (Leads Vats b m)
  good b m = leads_good script honest Vats Links (hosts script honest w v h r s t n y at tidy g) (bring script honest w v h r s t n y at tidy g) b (Ref m)

  follows_still : (c d : Place) → IsGood c → IsGood d → Follows W c d → Follows U c d
  follows_still c d i j f = follows_kept owned W U (retold script honest w v h r s t n y at tidy g reroute) c d i j f

  -- behind one of the names of vat v
  module _ (k : Name) (own : host_of k ≡ v) where
    abbrev C : Place
    C = Leads Vats v k

    aside_there : Follows W C (End (Way v h) n) → Follows U C E
    unfolding leads amid
    aside_there f = aside k own f

    way_behind : (a b : ℕ) (m : Name) (c : Bool) → Test v n a m ≡ c → IsGood (End (Way a b) m) → Follows W C (End (Way a b) m) → Follows U C (elim c [ true ↦ E | false ↦ End (Way a b) m ])
    unfolding owned
    way_behind a b m true e i f =
        let q = test_is v n a m e in
        let to : b ≡ h = sym (eqb-true (host_of m) b i) ∙ ap (λ z. host_of z) q.1 ∙ g.host in
        aside_there (subst (λ z. Follows W C (End (Way z h) n)) q.0 (subst (λ z. Follows W C (End (Way a z) n)) to (subst (λ z. Follows W C (End (Way a b) z)) q.1 f)))
    way_behind a b m false e i f = follows_still C (End (Way a b) m) (good v k) i f

    place_behind : (d : Place) → IsGood d → Follows W C d → Follows U C (F d)
    unfolding told_by
    place_behind (End (Way a b) m) i f = way_behind a b m (Test v n a m) refl i f
    place_behind other i f = follows_still C other (good v k) i f

  leads_far : (b : ℕ) (m : Name) → (b ≡ v → ⊥) → Leads Vats' b m ≡ Leads Vats b m
  unfolding leads
  leads_far b m away = go (found v s t w.vats b)
    where
      go : Found v s t w.vats b → leads_at script honest b (slice_get Vats' b) (Ref m) ≡ leads_at script honest b (slice_get Vats b) (Ref m)
      go (here e i j) = absurd (away e)
      go (apart e i) = ap (λ o. leads_at script honest b o (Ref m)) i
      go (none i j) = ap (λ o. leads_at script honest b o (Ref m)) (j ∙ sym i)

  leads_behind : (b : ℕ) (k m : Name) → host_of k ≡ b → (c : Bool) → (b == v) ≡ c → Follows W (Leads Vats b k) (Leads Vats b m) → Follows U (Leads Vats' b k) (Leads Vats' b m)
  leads_behind b k m e true i f = let q : b ≡ v = eqb-true b v i in
      subst (λ z. Follows U (Leads Vats' z k) (Leads Vats' z m)) (sym q)
      (subst (λ c. Follows U c (Leads Vats' v m)) (sym (leads_own script honest w v h r s t n y at tidy g v k (e ∙ q))) (subst (λ d. Follows U (Leads Vats v k) d) (sym (leads_told script honest w v h r s t n y at tidy g v (Ref m)))
      (place_behind k (e ∙ q) (Leads Vats v m) (good v m) (subst (λ z. Follows W (Leads Vats z k) (Leads Vats z m)) q f))))
  leads_behind b k m e false i f = let q : (b ≡ v → ⊥) = eqb-false b v i in
      subst (λ c. Follows U c (Leads Vats' b m)) (sym (leads_far b k q)) (subst (λ d. Follows U (Leads Vats b k) d) (sym (leads_far b m q)) (follows_still (Leads Vats b k) (Leads Vats b m) (good b k) (good b m) f))

  abbrev OverBy : List (Vat Name) → Bool → Bool → ℕ → Name → Place
  OverBy vs c d b m = elim c [ true ↦ elim d [ true ↦ Nowhere | false ↦ Leads vs b m ] | false ↦ Free ]

  over_behind : (b : ℕ) (k m : Name) → host_of k ≡ b → (c d : Bool) → Follows W (OverBy Vats c d b k) (OverBy Vats c d b m) → Follows U (OverBy Vats' c d b k) (OverBy Vats' c d b m)
  over_behind b k m e true true f = doomed nowhere
  over_behind b k m e true false f = leads_behind b k m e (b == v) refl f
  over_behind b k m e false d f = absurd (doom_free W (behind_free W Free f))

  abbrev WayOf : List (Vat Name) → ℕ → Name → Option Link → Place
  WayOf vs b m o = elim o [ Some l ↦ over script honest vs Links b m l | None ↦ Nowhere ]

  way_of_behind : (b : ℕ) (k m : Name) → host_of k ≡ b → (o : Option Link) → Follows W (WayOf Vats b k o) (WayOf Vats b m o) → Follows U (WayOf Vats' b k o) (WayOf Vats' b m o)
  unfolding over
  way_of_behind b k m e (Some l) f = over_behind b k m e (is_honest script honest l) l.cut f
  way_of_behind b k m e None f = doomed nowhere

  links_behind : (a b : ℕ) (k m : Name) → host_of k ≡ b → Follows W (onward_at script honest Vats Links (Way a b) k) (onward_at script honest Vats Links (Way a b) m) → Follows U (onward_at script honest Vats' Links (Way a b) k) (onward_at script honest Vats' Links (Way a b) m)
  unfolding onward_at
  links_behind a b k m e f = way_of_behind b k m e (world.link_at a b Links) f

  was : (l : Lane) (m : Name) → W.onward l m ≡ onward_at script honest Vats Links l m
  was l m = onward_is script honest w v h r s t n y at tidy g l m

  is_now : (l : Lane) (m : Name) → U.onward l m ≡ onward_at script honest Vats' Links l m
  is_now l m = onward_then script honest w v h r s t n y at tidy g l m

  lane_behind : (l : Lane) (k m : Name) → owned l k ≡ true → Follows W (W.onward l k) (W.onward l m) → Follows U (End l k) (End l m)
  unfolding owned
  lane_behind (Way a b) k m e f = let l = Way a b in
      beside (subst (λ c. Follows U c (U.onward l m)) (sym (is_now l k)) (subst (λ d. Follows U (onward_at script honest Vats' Links l k) d) (sym (is_now l m))
      (links_behind a b k m (eqb-true (host_of k) b e) (subst (λ c. Follows W c (onward_at script honest Vats Links l m)) (was l k) (subst (λ d. Follows W (W.onward l k) d) (was l m) f)))))
  lane_behind other k m e f = one_way tt

  onward_kept : (l : Lane) (m : Name) → StaysBehind W U (W.onward l m) (U.onward l m)
  onward_kept l m = subst (λ c. StaysBehind W U c (U.onward l m)) (sym (was l m)) (subst (λ d. StaysBehind W U (onward_at script honest Vats Links l m) d) (sym (is_now l m))
      (retelling_keeps owned W U (retold script honest w v h r s t n y at tidy g reroute) (onward_at script honest Vats Links l m) (onward_at script honest Vats' Links l m)
      (onward_good script honest Vats Links (hosts script honest w v h r s t n y at tidy g) (bring script honest w v h r s t n y at tidy g) l m)
      (onward_good script honest Vats' Links (hosts_then script honest w v h r s t n y at tidy g) (bring script honest w v h r s t n y at tidy g) l m)
      (onward_turns script honest w v h r s t n y at tidy g reroute l m)))

  doom_now : (d : Place) → Doom W d → Doom U d
  doom_now d nowhere = nowhere
  doom_now d (by_end {l = l} {n = m} x) = by_end ((onward_kept l m).0 x)
  doom_now d (by_mid {l = l} {n = m} x) = by_mid ((onward_kept l m).0 x)

  ends_behind : (c d : Place) → IsGood c → Follows W c d → Follows U c d
  ends_behind c d i (doomed x) = doomed (doom_now d x)
  ends_behind c d i (one_way j) = one_way j
  ends_behind c d i alike = alike
  ends_behind c d i (beside {l = l} {m = k} {n = m} f) = lane_behind l k m i f

  module _ (l : Lane) (b : List Item) (m : Name) (own : (i : Item) → IsIn i b → owned l i.aim ≡ true) where
    ahead_still : (x : Name) → Ahead W x (Mid l b m) → Ahead U x (Mid l b m)
    ahead_still x (doomed_there d) = doomed_there (doom_now (Mid l b m) d)
    ahead_still x (in_mid {m = k} i f) = in_mid i (ends_behind (End l k) (End l m) (own (record { mail = x; aim = k }) i) f)
    ahead_still x (past_mid a) = past_mid ((onward_kept l m).1 x a)

pub told_passings_keep : ToldPassingsKeep
told_passings_keep = λ script honest w v h r s t n y at tidy g reroute aside l b m i.
    (λ d. doom_now script honest w v h r s t n y at tidy g reroute aside (Mid l b m) d, λ x a. ahead_still script honest w v h r s t n y at tidy g reroute aside l b m i x a)
