-- A vat in which a name settled to an object of another vat, read as though the name waited on that object and still held some messages.
use Rattle.std.proofs.Common.{◌≡◌, ℕ, zero, suc, Bool, false, List, [], Option, Some, None, length, refl, sym, ap, subst, ◌∙◌, ◌⊎◌, inl, inr}
use Rattle.std.specs.Prelude.{slice_get}
use Rattle.def_machine.specs.Values.{Value, Ref, Name, Promise, Answer, Naming, Foreign}
use Rattle.def_machine.specs.State.{Message, Standing, WaitsOn, Viewed, Settled, Known, Vat, is_in}
use Rattle.def_machine.specs.Refs as refs
use Rattle.def_machine.specs.Refs.{entry_of, standing_of, standing_in}
use Rattle.def_run.specs.World as world
use Rattle.def_run.specs.World.{Script, World, names}
use Rattle.law_order.specs.Ordering.Ways.{Held, Way, Place, End}
use Rattle.law_order.specs.Ordering.Places.{aimed, leads, released, released_at, onward_at, ways_of, ways, amid}
use Rattle.law_order.specs.Ordering.Settle.{SettlesHere, aimed_at, passed_by}
use Rattle.law_order.specs.Ordering.Steps.{WaysAmid, LeadsAmid, Ready}
use Rattle.law_order.specs.Ordering.Worlds.{IsObject, IsKnown, IsWaiting, IsFixed, FollowsEnd, StandsAlike}
use Rattle.law_order.proofs.Ordering.Amid.{entry_self}
use Rattle.law_order.proofs.Ordering.Far.{far_aimed}
use Rattle.law_order.proofs.Ordering.OrderPassing.{leads_via}
use Rattle.law_order.proofs.Ordering.Sends.{get_put}
use Rattle.law_order.proofs.Ordering.Sent.{leads_there}
use Rattle.law_order.proofs.Views.Quiet.{is_name}
use Rattle.law_order.proofs.Settling.Put.{put_known, put_here, put_other, put_length}

none_some : {A : Type 0} (k : Known Name) → ◌≡◌ {A = Option (Known Name)} None (Some k) → A
none_some k e = absurd (cc)

settled_waits : (y : Value Name) (t : Standing Name) → t ≡ Settled y → IsWaiting t → ⊥
settled_waits y t e w = subst IsWaiting e w

module _ (script : Script) (honest : ℕ → Bool) (w : World) (v h : ℕ) (r : Vat Name) (at : slice_get w.vats v ≡ Some r) (p n : Name) (k : Known Name) (far : (names script v).spot n ≡ Foreign h) (object : IsObject n) (plain : IsObject p → ⊥) (named : k.name ≡ p) (hosted : k.host ≡ v) where
  abbrev K : Naming Name Name
  K = names script v

  -- what is known of the name, so read
  abbrev pub Seen : List (Message Name) → Known Name
  Seen ms = record k { standing = WaitsOn n; held = ms }

  abbrev pub Read : List (Message Name) → Vat Name → Vat Name
  Read ms u = record u { known = put_known K p (record k { standing = WaitsOn n; held = ms }) u.known }

  abbrev pub E : Place
  E = End (Way v h) n

  -- The name settled so.
  pub record Real (u : Vat Name) : Type 0 where
    pub ready : Ready script honest w v u
    pub known : Known Name
    pub found : entry_of K u.known p ≡ Some known
    pub settled : known.standing ≡ Settled (Ref n)
    pub host : known.host ≡ v
    pub nothing : known.held ≡ []
    pub calm : known.reactions ≡ []
    pub itself : is_in v u.noticed ≡ false
    pub clear : is_in h u.noticed ≡ false

  module _ (ms : List (Message Name)) (u : Vat Name) (g : Real u) where
    abbrev V : Vat Name
    V = Read ms u

    pub seen : entry_of K V.known p ≡ Some (Seen ms)
    seen = put_here script v p (Seen ms) named u.known g.known g.found

    pub others : (m : Name) → (m ≡ p → ⊥) → entry_of K V.known m ≡ entry_of K u.known m
    others m f = put_other script v p (Seen ms) named m f u.known

    pub same_length : length V.known ≡ length u.known
    same_length = put_length script v p (Seen ms) named u.known

    stands_seen : standing_of K V.known p ≡ WaitsOn n
    unfolding standing_of standing_in
    stands_seen = ap (λ o. standing_in o) seen

    stands_settled : standing_of K u.known p ≡ Settled (Ref n)
    unfolding standing_of standing_in
    stands_settled = ap (λ o. standing_in o) g.found ∙ g.settled

    stands_other : (m : Name) → (m ≡ p → ⊥) → standing_of K V.known m ≡ standing_of K u.known m
    unfolding standing_of
    stands_other m f = ap (λ o. standing_in o) (others m f)

    object_apart : (m : Name) → IsObject m → m ≡ p → ⊥
    object_apart m i e = plain (subst IsObject e i)

    object_there : (ks : List (Known Name)) → entry_of K ks n ≡ None → (d : ℕ) → refs.follow_at K d ks (Ref n) ≡ Ref n
    unfolding refs.follow_at refs.led standing_of standing_in
    object_there ks e zero = refl
    object_there ks e (suc d) = ap (λ o. refs.led K (λ z. refs.follow_at K d ks z) n (standing_in o)) e

    unknown : entry_of K u.known n ≡ None
    unknown = g.ready.ends.objects n object

    unknown_then : entry_of K V.known n ≡ None
    unknown_then = others n (object_apart n object) ∙ unknown

    -- ---- what is followed: the same, or to the name, and on to the object

    abbrev Meets : Value Name → Value Name → Type 0
    Meets a b = (a ≡ b) ⊎ ((a ≡ Ref p) × (b ≡ Ref n))

    led_meets : (a b : Value Name → Value Name) → ((z : Value Name) → Meets (a z) (b z)) → (m : Name) (q : Standing Name) → Meets (refs.led K a m q) (refs.led K b m q)
    unfolding refs.led
    led_meets a b f m (Settled z) = f z
    led_meets a b f m (Viewed q) = f (Ref q)
    led_meets a b f m other = inl refl

    name_meets : (d : ℕ) (m : Name) → ((z : Value Name) → Meets (refs.follow_at K d V.known z) (refs.follow_at K d u.known z)) → (m ≡ p) ⊎ (m ≡ p → ⊥) → Meets (refs.follow_at K (suc d) V.known (Ref m)) (refs.follow_at K (suc d) u.known (Ref m))
    unfolding refs.follow_at refs.led
    name_meets d m f (inl e) = inr (
      subst (λ z. refs.led K (λ y. refs.follow_at K d V.known y) z (standing_of K V.known z) ≡ Ref p) (sym e) (ap (λ q. refs.led K (λ y. refs.follow_at K d V.known y) p q) stands_seen),
      subst (λ z. refs.led K (λ y. refs.follow_at K d u.known y) z (standing_of K u.known z) ≡ Ref n) (sym e) (ap (λ q. refs.led K (λ y. refs.follow_at K d u.known y) p q) stands_settled ∙ object_there u.known unknown d),
    )
    name_meets d m f (inr i) = subst (λ q. Meets (refs.led K (λ y. refs.follow_at K d V.known y) m q) (refs.led K (λ y. refs.follow_at K d u.known y) m (standing_of K u.known m))) (sym (stands_other m i)) (led_meets (λ y. refs.follow_at K d V.known y) (λ y. refs.follow_at K d u.known y) f m (standing_of K u.known m))

    pub meets : (d : ℕ) (x : Value Name) → Meets (refs.follow_at K d V.known x) (refs.follow_at K d u.known x)
    unfolding refs.follow_at
    meets zero x = inl refl
    meets (suc d) (Ref m) = name_meets d m (λ z. meets d z) (is_name m p)
    meets (suc d) other = inl refl

    -- ---- it is ready

    -- what waits is another
    pub waits_apart : (m : Name) (j : Known Name) → entry_of K u.known m ≡ Some j → IsWaiting j.standing → m ≡ p → ⊥
    waits_apart m j e i q = settled_waits (Ref n) j.standing (subst (λ (z : Known Name). z.standing ≡ Settled (Ref n)) (some_same g.known j (sym g.found ∙ ap (entry_of K u.known) (sym q) ∙ e)) g.settled) i
      where
        some_same : (a b : Known Name) → Some a ≡ Some b → a ≡ b
        some_same a b f = cc

    fixed_then : (z : Value Name) → IsFixed K u z → IsFixed K V z
    fixed_then (Ref m) (inl i) = inl i
    fixed_then (Ref m) (inr j) = inr (j.0, others m (waits_apart m j.0 j.1 j.2) ∙ j.1, j.2)
    fixed_then other i = tt

    pub known_back : (m : Name) → IsKnown K V m → IsKnown K u m
    known_back m i = go (is_name m p)
      where
        go : (m ≡ p) ⊎ (m ≡ p → ⊥) → IsKnown K u m
        go (inl e) = (g.known, ap (entry_of K u.known) e ∙ g.found)
        go (inr f) = (i.0, sym (others m f) ∙ i.1)

    meets_fixed : (a b : Value Name) → Meets a b → IsFixed K u b → IsFixed K V a
    meets_fixed a b (inl e) i = subst (IsFixed K V) (sym e) (fixed_then b i)
    meets_fixed a b (inr e) i = subst (IsFixed K V) (sym e.0) (inr (Seen ms, seen, tt))

    ends : FollowsEnd K V
    ends = record {
      objects = λ m i. others m (object_apart m i) ∙ g.ready.ends.objects m i;
      fixed = λ m i. meets_fixed (refs.follow_at K (suc (length V.known)) V.known (Ref m)) (refs.follow_at K (suc (length u.known)) u.known (Ref m))
          (subst (λ d. Meets (refs.follow_at K (suc (length V.known)) V.known (Ref m)) (refs.follow_at K (suc d) u.known (Ref m))) same_length (meets (suc (length V.known)) (Ref m))) (g.ready.ends.fixed m (known_back m i));
    }

    none_apart : (m : Name) → entry_of K u.known m ≡ None → m ≡ p → ⊥
    none_apart m e q = none_some g.known (sym e ∙ ap (entry_of K u.known) q ∙ g.found)

    none_then : (m : Name) → entry_of K u.known m ≡ None → entry_of K V.known m ≡ None
    none_then m e = others m (none_apart m e) ∙ e

    pub ready_read : Ready script honest w v (Read ms u)
    ready_read = record {
      number = g.ready.number;
      ends = ends;
      draws = g.ready.draws;
      answers = λ a i j. none_then (Answer a (record { sender = v; number = i })) (g.ready.answers a i j);
      promises = λ i j. none_then (Promise v i) (g.ready.promises i j);
    }

    -- ---- from it to the vat the name settles

    alike : (m : Name) → (m ≡ p) ⊎ (m ≡ p → ⊥) → (m ≡ p) ⊎ ((m ≡ p → ⊥) × StandsAlike m (entry_of K V.known m) (entry_of K u.known m))
    alike m (inl e) = inl e
    alike m (inr f) = inr (f, subst (λ o. StandsAlike m o (entry_of K u.known m)) (sym (others m f)) (entry_self m (entry_of K u.known m)))

    host_by : (o : Option (Known Name)) (a b : Known Name) → o ≡ Some a → o ≡ Some b → a.host ≡ b.host
    host_by o a b e f = let same : a ≡ b = some_same a b (sym e ∙ f) in ap (λ (z : Known Name). z.host) same
      where
        some_same : (x y : Known Name) → Some x ≡ Some y → x ≡ y
        some_same x y f = cc

    pub settles_read : SettlesHere K (Read ms u) u p (Ref n) v
    settles_read = record {
      only = record {
        number = refl;
        gifts = refl;
        noticed = refl;
        queue = refl;
        outbox = refl;
        names_known = sym same_length;
        before = (Seen ms, seen, tt);
        after = (g.known, g.found, g.settled);
        others = λ m. alike m (is_name m p);
      };
      own = g.ready.number;
      host = λ j e. host_by (entry_of K V.known p) j (Seen ms) e seen ∙ hosted;
      host_after = λ j e. host_by (entry_of K u.known p) j g.known e g.found ∙ g.host;
      itself = g.itself;
      plain = plain;
      ended = object;
      follows = g.ready.ends;
    }

    pub aims : aimed_at script v u (Ref n) ≡ E
    aims = far_aimed script v h n far u g.clear

    pub leads_read : (a : ℕ) (x : Value Name) → LeadsAmid script honest w v u a x ≡ passed_by v p E (LeadsAmid script honest w v (Read ms u) a x)
    unfolding amid
    leads_read a x = leads_via script honest w.vats (world.push_all v u.outbox w.links) v r V u p (Ref n) at settles_read a x ∙ ap (λ c. passed_by v p c (leads script honest (world.put_at v V w.vats) (world.push_all v u.outbox w.links) a x)) aims

    follows_object : refs.follow K V (Ref n) ≡ refs.severed K V (Ref n)
    unfolding refs.follow
    follows_object = ap (refs.severed K V) (object_there V.known unknown_then (suc (length V.known)))

    aimed_read : aimed_at script v V (Ref n) ≡ E
    aimed_read = far_aimed script v h n far V g.clear

    pub object_leads : LeadsAmid script honest w v V v (Ref n) ≡ E
    unfolding aimed_at
    object_leads = leads_there script honest w v r V at (Ref n) (inl object) ∙ ap (λ z. aimed v z (refs.place K V z)) follows_object ∙ aimed_read

    -- what the name holds leads to the object
    pub onward_read : (o : Name) → (WaysAmid script honest w v (Read ms u)).onward (Held v p) o ≡ E
    unfolding ways ways_of amid onward_at released_at released
    onward_read o = let vs = world.put_at v V w.vats in let ls = world.push_all v u.outbox w.links in
        ap (λ z. released_at script honest vs ls v p z) (get_put w.vats v r V at) ∙ (ap (λ t. released script honest vs ls v p u.gifts t) stands_seen ∙ object_leads)
