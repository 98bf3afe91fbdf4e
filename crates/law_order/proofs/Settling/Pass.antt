-- What the arguments of a held message bring as it goes out: read as though the name still held it, and those behind it, all that was ahead of a reference in them is ahead of what passes for it.
use Rattle.std.proofs.Common.{◌≡◌, ℕ, zero, suc, Bool, true, false, List, [], ◌∷◌, Option, Some, None, length, refl, sym, ap, subst, ◌∙◌, ◌⊎◌, inl, inr, if◌then◌else◌, ◌==◌, codes}
use Rattle.std.proofs.lemmas.Bool.{eq-eqb}
use Rattle.std.specs.Prelude.{slice_get}
use Rattle.def_machine.specs.Values.{Value, Broken, Ref, Name, Object, Naming, Spot, Own, Foreign, NoObject, naming, spot_of}
use Rattle.def_machine.specs.State.{Message, Standing, WaitsOn, Settled, Known, Passed, Plain, AGift, Open, ToTell, Vat, Done, Gives, ◌>>=◌, ◌>>◌, and_then, give, draw, draws, drawn_at, send_out, alter, with_change, is_in}
use Rattle.def_machine.specs.Refs as refs
use Rattle.def_machine.specs.Refs.{Place, Near, Mine, Away, Gone, entry_of, standing_of, standing_in}
use Rattle.def_run.specs.World.{Script, World, names}
use Rattle.law_fate.specs.Name.Names.{IsAmong}
use Rattle.law_order.specs.Ordering.Ways.{Held, Way, Item, End, Mid, Ways, IsIn, Doom, by_mid, alike, Ahead, doomed_there, in_mid, past_mid}
use Rattle.law_order.specs.Ordering.Ways as lanes
use Rattle.law_order.specs.Ordering.Turns.{Within}
use Rattle.law_order.specs.Ordering.Places.{item, aimed}
use Rattle.law_order.specs.Ordering.Steps.{WaysAmid, LeadsAmid, Ready, Grown, IsHeld}
use Rattle.law_order.specs.Ordering.Worlds.{IsObject, IsWaiting, IsFixed}
use Rattle.law_order.specs.Ordering.Order.{passes}
use Rattle.law_order.specs.Ordering.Settle.{passed_by}
use Rattle.law_order.proofs.Ordering.Brought.{passed_home_is_behind}
use Rattle.law_order.proofs.Ordering.Changes.{growing_keeps}
use Rattle.law_order.proofs.Ordering.Entries.{Differs, as_it_was, changes, differs}
use Rattle.law_order.proofs.Ordering.Named.{passes_here}
use Rattle.law_order.proofs.Ordering.Sent.{leads_there}
use Rattle.law_order.proofs.Views.Quiet.{is_name}
use Rattle.law_order.specs.History.Befores.{IsBroughtFrom}
use Rattle.law_order.specs.History.Passings.{OnGives, CanPass}
use Rattle.law_order.proofs.History.Passed.{Step, BringsName, leaf_passes, passing}
use Rattle.law_order.proofs.History.PassWalk.{LeafOf, IsPassing}
use Rattle.law_order.proofs.Settling.LetsGo.{From, from_there, from_lane, brought_from}
use Rattle.law_order.proofs.Settling.Put.{put_known, put_change}
use Rattle.law_order.proofs.Settling.Read.{Real, others, seen, meets, same_length, leads_read, onward_read}
use Rattle.law_order.proofs.Settling.Waiting.{severed_same, placed_same}

none_some : {A : Type 0} (k : Known Name) → ◌≡◌ {A = Option (Known Name)} None (Some k) → A
none_some k e = absurd (cc)

ref_is : (a b : Name) → ◌≡◌ {A = Value Name} (Ref a) (Ref b) → a ≡ b
ref_is a b e = cc

end_apart : (a b u : ℕ) (p m o : Name) → End (Way a b) m ≡ End (Held u p) o → ⊥
end_apart a b u p m o e = cc

module _ (script : Script) (honest : ℕ → Bool) (w : World) (v h : ℕ) (r : Vat Name) (at : slice_get w.vats v ≡ Some r) (p n : Name) (k : Known Name) (far : (names script v).spot n ≡ Foreign h) (object : IsObject n) (plain : IsObject p → ⊥) (named : k.name ≡ p) (hosted : k.host ≡ v)
    (rh : Vat Name) (everyone : (u : ℕ) → honest u ≡ true) (there : slice_get w.vats h ≡ Some rh) (number : rh.number ≡ h) (other : h ≡ v → ⊥) (objects : (o : Name) → IsObject o → entry_of (names script h) rh.known o ≡ None)
    (mi : Name) (ms : List (Message Name)) where
  abbrev K : Naming Name Name
  K = names script v

  abbrev pub Seen : Vat Name → Vat Name
  Seen u = record u { known = put_known K p (record k { standing = WaitsOn n; held = ms }) u.known }

  abbrev W : Vat Name → Ways
  W t = WaysAmid script honest w v t

  abbrev R : Vat Name → Type 0
  R u = Real script honest w v h r at p n k far object plain named hosted u

  abbrev S : Vat Name → Vat Name → Type 0
  S u t = Step script honest w v h r rh everyone at there number other objects u t

  abbrev E : lanes.Place
  E = End (Way v h) n

  pub record Steps (u t : Vat Name) : Type 0 where
    pub real : S u t
    pub seen : S (Seen u) (Seen t)
    pub keeps : R u → R t
    pub entry : entry_of K t.known p ≡ entry_of K u.known p

  pub record Can (u : Vat Name) : Type 0 where
    pub can : CanPass script honest w v h rh u
    pub seen : CanPass script honest w v h rh (Seen u)
    pub real : R u

  -- the message itself, alone
  abbrev pub Front : List Item
  Front = item mi p ∷ []

  -- What was ahead of what the message would bring for e is ahead of the name m behind it on the link.
  abbrev pub Behind : Vat Name → Vat Name → Name → Name → Type 0
  Behind u t e m = (a : Name) (c : lanes.Place) → IsBroughtFrom (Held v p) Front (LeadsAmid script honest w v (Seen u) v (Ref e)) c → Ahead (W (Seen u)) a c → (bs : List Item) → Within ((W (Seen t)).stands (Way v h)) bs → IsIn (item mi n) bs → Ahead (W (Seen t)) a (Mid (Way v h) bs m)

  pub real_on : (u t : Vat Name) → Ready script honest w v t → entry_of K t.known p ≡ entry_of K u.known p → t.noticed ≡ u.noticed → R u → R t
  real_on u t ready e f g = record { ready = ready; known = g.known; found = e ∙ g.found; settled = g.settled; host = g.host; nothing = g.nothing; calm = g.calm; itself = ap (is_in v) f ∙ g.itself; clear = ap (is_in h) f ∙ g.clear }

  -- ---- the walk's laws, but for single names

  abbrev P : IsPassing script honest w v (λ u t. S u t) (λ u t e m. BringsName script honest w v h r rh everyone at there number other objects u t e m) h (λ u. CanPass script honest w v h rh u)
  P = passing script honest w v h r rh everyone at there number other objects

  steps_self : (u : Vat Name) → Steps u u
  steps_self u = record { real = P.self u; seen = P.self (Seen u); keeps = λ g. g; entry = refl }

  steps_joins : (u t x : Vat Name) → Steps u t → Steps t x → Steps u x
  steps_joins u t x a b = record { real = P.joins u t x a.real b.real; seen = P.joins (Seen u) (Seen t) (Seen x) a.seen b.seen; keeps = λ g. b.keeps (a.keeps g); entry = b.entry ∙ a.entry }

  can_on : (u t : Vat Name) → Steps u t → Can u → Can t
  can_on u t a c = record { can = P.can u t a.real c.can; seen = P.can (Seen u) (Seen t) a.seen c.seen; real = a.keeps c.real }

  fuel_steps : (f : ℕ) (u : Vat Name) → Steps u (record u { fuel = f })
  fuel_steps f u = let a : S u (record u { fuel = f }) = P.fuel f u in record { real = a; seen = P.fuel f (Seen u); keeps = λ g. real_on u (record u { fuel = f }) (a.stays g.ready).0 refl refl g; entry = refl }

  pub grown_seen : (u t : Vat Name) → Steps u t → Can u → Grown script honest w v (Seen u) (Seen t)
  grown_seen u t a c = (a.seen.stays c.seen.ready).1

  behind_on : (u t x : Vat Name) (e m : Name) → Steps t x → Can t → Behind u t e m → Behind u x e m
  behind_on u t x e m a can b y c f i bs within isin = let g = grown_seen t x a can in (growing_keeps (W (Seen t)) (W (Seen x)) g.grows (Mid (Way v h) bs m)).1 y (b y c f i bs (λ j l. within j (g.grows.stands (Way v h) j l)) isin)

  behind_from : (u t x : Vat Name) (e m : Name) → Steps u t → Can u → Behind t x e m → Behind u x e m
  behind_from u t x e m a can b y c f i bs within isin = let g = grown_seen u t a can in
      b y c (subst (λ z. IsBroughtFrom (Held v p) Front z c) (sym (g.leading v (Ref e))) f) ((growing_keeps (W (Seen u)) (W (Seen t)) g.grows c).1 y i) bs within isin

  -- ---- single names: as the machine does it from the vat so read

  record Alike (u : Vat Name) (d : Done Name (Passed Name)) (z : Passed Name) (t : Vat Name) : Type 0 where
    pub gives : d ≡ Gives z (Seen t)
    pub entry : entry_of K t.known p ≡ entry_of K u.known p
    pub noticed : t.noticed ≡ u.noticed

  open_alike : (u : Vat Name) (g : ℕ) (m : Name) (o : Option ℕ) → OnGives (λ z t. Alike u (and_then (draws (K.word (length u.drawn)) o (Seen u)) (λ i. send_out g (Open i m) >> give (AGift g i))) z t) (and_then (draws (K.word (length u.drawn)) o u) (λ i. send_out g (Open i m) >> give (AGift g i)))
  unfolding draws and_then send_out give ◌>>◌
  open_alike u g m (Some j) = tt
  open_alike u g m None = record { gives = refl; entry = refl; noticed = refl }

  away_alike : (u : Vat Name) (g : ℕ) (m : Name) (y : Value Name) (b : Bool) → OnGives (λ z t. Alike u ((if b then give (Plain y) else (draw K >>= (λ i. send_out g (Open i m) >> give (AGift g i)))) (Seen u)) z t) ((if b then give (Plain y) else (draw K >>= (λ i. send_out g (Open i m) >> give (AGift g i)))) u)
  unfolding give draw ◌>>=◌
  away_alike u g m y true = record { gives = refl; entry = refl; noticed = refl }
  away_alike u g m y false = open_alike u g m (drawn_at zero (K.word (length u.drawn)) u.drawn)

  told_entry : (m : Name) → (m ≡ p → ⊥) → (u : Vat Name) → entry_of K (with_change K (ToTell h) m u.known) p ≡ entry_of K u.known p
  told_entry m f u = go (differs script v (ToTell h) m p u.known)
    where
      go : Differs script v (ToTell h) m p (entry_of K u.known p) (entry_of K (with_change K (ToTell h) m u.known) p) → entry_of K (with_change K (ToTell h) m u.known) p ≡ entry_of K u.known p
      go (as_it_was e) = e
      go (changes j e a b) = absurd (f (sym e))

  plain_alike : (u : Vat Name) (y : Value Name) (q : Place Name) → ((m : Name) → q ≡ Mine m → m ≡ p → ⊥) → OnGives (λ z t. Alike u (refs.address_plain K h y q (Seen u)) z t) (refs.address_plain K h y q u)
  unfolding refs.address_plain give alter and_then ◌>>◌
  plain_alike u y (Away g m o) f = away_alike u g m y (g == h)
  plain_alike u y (Mine m) f = record {
    gives = ap (λ ks. Gives (Plain y) (record u { known = ks })) (sym (put_change script v p (record k { standing = WaitsOn n; held = ms }) named (ToTell h) m (f m refl) u.known));
    entry = told_entry m (f m refl) u;
    noticed = refl;
  }
  plain_alike u y Near f = record { gives = refl; entry = refl; noticed = refl }
  plain_alike u y (Gone t) f = record { gives = refl; entry = refl; noticed = refl }

  module _ (u : Vat Name) (can : Can u) where
    abbrev G : R u
    G = can.real

    host_some : (o : Option (Known Name)) (j : Known Name) (x : ℕ) → o ≡ Some j → refs.host_in x o ≡ j.host
    unfolding refs.host_in
    host_some o j x e = ap (λ z. refs.host_in x z) e

    hosts : (m : Name) → refs.host_at K u.number (Seen u).known m ≡ refs.host_at K u.number u.known m
    unfolding refs.host_at
    hosts m = go (is_name m p)
      where
        go : (m ≡ p) ⊎ (m ≡ p → ⊥) → refs.host_in u.number (entry_of K (Seen u).known m) ≡ refs.host_in u.number (entry_of K u.known m)
        go (inl e) = subst (λ z. refs.host_in u.number (entry_of K (Seen u).known z) ≡ refs.host_in u.number (entry_of K u.known z)) (sym e)
            (host_some (entry_of K (Seen u).known p) (record k { standing = WaitsOn n; held = ms }) u.number (seen script honest w v h r at p n k far object plain named hosted ms u G) ∙ (hosted ∙ sym (host_some (entry_of K u.known p) G.known u.number G.found ∙ G.host)))
        go (inr f) = ap (refs.host_in u.number) (others script honest w v h r at p n k far object plain named hosted ms u G m f)

    severs : (z : Value Name) → refs.severed K (Seen u) z ≡ refs.severed K u z
    severs z = severed_same script v u (Seen u) refl refl hosts z

    places : (z : Value Name) → refs.place K (Seen u) z ≡ refs.place K u z
    places z = placed_same script v u (Seen u) refl hosts z

    abbrev Ends : Value Name → Value Name
    Ends x = refs.follow_at K (suc (length u.known)) u.known x

    abbrev Sees : Value Name → Value Name
    Sees x = refs.follow_at K (suc (length (Seen u).known)) (Seen u).known x

    meets_now : (x : Value Name) → (Sees x ≡ Ends x) ⊎ ((Sees x ≡ Ref p) × (Ends x ≡ Ref n))
    meets_now x = subst (λ d. (Sees x ≡ refs.follow_at K (suc d) u.known x) ⊎ ((Sees x ≡ Ref p) × (refs.follow_at K (suc d) u.known x ≡ Ref n))) (same_length script honest w v h r at p n k far object plain named hosted ms u G) (meets script honest w v h r at p n k far object plain named hosted ms u G (suc (length (Seen u).known)) x)

    -- ---- nothing is followed to the name, which settled

    waits_not : (j : Known Name) → entry_of K u.known p ≡ Some j → IsWaiting j.standing → ⊥
    waits_not j e i = settled_no j.standing (subst (λ (z : Known Name). z.standing ≡ Settled (Ref n)) (same_known G.known j (sym G.found ∙ e)) G.settled) i
      where
        same_known : (a b : Known Name) → Some a ≡ Some b → a ≡ b
        same_known a b f = cc

        settled_no : (t : Standing Name) → t ≡ Settled (Ref n) → IsWaiting t → ⊥
        settled_no t f = subst (λ z. IsWaiting z → ⊥) (sym f) (λ z. z)

    unknown_stays : (m : Name) → entry_of K u.known m ≡ None → (d : ℕ) → refs.follow_at K (suc d) u.known (Ref m) ≡ Ref m
    unfolding refs.follow_at refs.led standing_of standing_in
    unknown_stays m e d = ap (λ o. refs.led K (λ z. refs.follow_at K d u.known z) m (standing_in o)) e

    fixed_not : (z : Value Name) → IsFixed K u z → z ≡ Ref p → ⊥
    fixed_not (Ref m) (inl i) e = plain (subst IsObject (ref_is m p e) i)
    fixed_not (Ref m) (inr j) e = waits_not j.0 (subst (λ q. entry_of K u.known q ≡ Some j.0) (ref_is m p e) j.1) j.2
    fixed_not other i e = cc

    ends_by : (m : Name) (o : Option (Known Name)) → entry_of K u.known m ≡ o → Ends (Ref m) ≡ Ref p → ⊥
    ends_by m None e f = none_some G.known (sym (subst (λ q. entry_of K u.known q ≡ None) (ref_is m p (sym (unknown_stays m e (length u.known)) ∙ f)) e) ∙ G.found)
    ends_by m (Some j) e f = fixed_not (Ends (Ref m)) (G.ready.ends.fixed m (j, e)) f

    ends_not : (x : Value Name) → Ends x ≡ Ref p → ⊥
    unfolding refs.follow_at
    ends_not (Ref m) f = ends_by m (entry_of K u.known m) refl f
    ends_not other f = cc

    unsevered : (z : Value Name) (m : Name) → refs.severed K u z ≡ Ref m → z ≡ Ref m
    unfolding refs.severed refs.severed_at refs.severed_by
    unsevered (Ref q) m e = spot (K.spot q) e
      where
        by : (b : Bool) → ◌≡◌ {A = Value Name} (elim b [ true ↦ Broken (codes "partition") | false ↦ Ref q ]) (Ref m) → Ref q ≡ Ref m
        by true i = absurd (cc)
        by false i = i

        spot : (c : Spot) → refs.severed_at K u q c ≡ Ref m → Ref q ≡ Ref m
        spot (Own i) j = j
        spot (Foreign x) j = by (is_in x u.noticed) j
        spot NoObject j = by (is_in (refs.host_at K u.number u.known q) u.noticed) j
    unsevered other m e = cc

    follow_not : (x : Value Name) → refs.follow K u x ≡ Ref p → ⊥
    unfolding refs.follow
    follow_not x e = ends_not x (unsevered (Ends x) p e)

    -- ---- a value that leads through the name

    object_clear : refs.severed K u (Ref n) ≡ Ref n
    unfolding refs.severed refs.severed_at refs.severed_by
    object_clear = ap (λ c. refs.severed_at K u n c) far ∙ ap (λ b. elim b [ true ↦ Broken (codes "partition") | false ↦ Ref n ]) G.clear

    object_place : refs.place K u (Ref n) ≡ Away h n true
    unfolding refs.place refs.spotted
    object_place = ap (λ c. refs.spotted K u n c) far

    held_seen : (x : Value Name) → IsHeld script honest w v u x → IsHeld script honest w v (Seen u) x
    held_seen (Ref m) (inl i) = inl i
    held_seen (Ref m) (inr i) = go (is_name m p)
      where
        go : (m ≡ p) ⊎ (m ≡ p → ⊥) → IsHeld script honest w v (Seen u) (Ref m)
        go (inl e) = inr (record k { standing = WaitsOn n; held = ms }, subst (λ q. entry_of K (Seen u).known q ≡ Some (record k { standing = WaitsOn n; held = ms })) (sym e) (seen script honest w v h r at p n k far object plain named hosted ms u G))
        go (inr f) = inr (i.0, others script honest w v h r at p n k far object plain named hosted ms u G m f ∙ i.1)
    held_seen other i = tt

    -- no reference leads to what the name holds but through the name
    lead_now : (x : Value Name) → IsHeld script honest w v u x → LeadsAmid script honest w v u v x ≡ aimed v (refs.follow K u x) (refs.place K u (refs.follow K u x))
    lead_now x i = leads_there script honest w v r u at x i

    lead_seen : (x : Value Name) → IsHeld script honest w v u x → refs.follow K (Seen u) x ≡ refs.follow K u x → LeadsAmid script honest w v (Seen u) v x ≡ LeadsAmid script honest w v u v x
    lead_seen x i e = leads_there script honest w v r (Seen u) at x (held_seen x i) ∙ (ap (λ y. aimed v y (refs.place K (Seen u) y)) e ∙ (ap (λ q. aimed v (refs.follow K u x) q) (places (refs.follow K u x)) ∙ sym (lead_now x i)))

    not_there : (x : Value Name) → IsHeld script honest w v u x → refs.follow K (Seen u) x ≡ refs.follow K u x → (o : Name) → LeadsAmid script honest w v (Seen u) v x ≡ End (Held v p) o → ⊥
    not_there x i e o f = end_apart v h v p n o (sym (leads_read script honest w v h r at p n k far object plain named hosted ms u G v x ∙ ap (λ c. passed_by v p E c) f ∙ passes_here v p E o) ∙ (sym (lead_seen x i e) ∙ f))

    -- ---- a name that is followed to the same

    behind_same : (t : Vat Name) (x : Value Name) (z : Passed Name) → refs.follow K (Seen u) x ≡ refs.follow K u x → LeafOf script honest w v (λ a b. S a b) (λ a b e m. BringsName script honest w v h r rh everyone at there number other objects a b e m) (Seen u) x z (Seen t)
        → (e : Name) → x ≡ Ref e → IsHeld script honest w v u (Ref e) → (m : Name) → IsAmong m (passes z) → Behind u t e m
    behind_same t x z same l e is i m j a c f ahead bs within isin = go (brought_from (Held v p) Front (LeadsAmid script honest w v (Seen u) v (Ref e)) c f)
      where
        go : From (Held v p) Front (LeadsAmid script honest w v (Seen u) v (Ref e)) c → Ahead (W (Seen t)) a (Mid (Way v h) bs m)
        go (from_there q y) = l.behind e is (held_seen (Ref e) i) m j a (subst (Ahead (W (Seen u)) a) q ahead) bs within
        go (from_lane o q y) = absurd (not_there (Ref e) i (subst (λ z. refs.follow K (Seen u) z ≡ refs.follow K u z) is same) o q)

    -- ---- one that is followed to the name, and on to the object

    aimed_mine : refs.place K (Seen u) (Ref p) ≡ Mine p → aimed v (Ref p) (refs.place K (Seen u) (Ref p)) ≡ End (Held v p) p
    unfolding aimed
    aimed_mine e = ap (λ q. aimed v (Ref p) q) e

    behind_object : (a : Name) (o : Name) → Ahead (W (Seen u)) a (Mid (Held v p) Front o) → (bs : List Item) → Within ((W (Seen u)).stands (Way v h)) bs → IsIn (item mi n) bs → Ahead (W (Seen u)) a (Mid (Way v h) bs n)
    behind_object a o (doomed_there (by_mid d)) bs within isin = passed_home_is_behind (W (Seen u)) v h bs n a within (doomed_there (subst (Doom (W (Seen u))) (onward_read script honest w v h r at p n k far object plain named hosted ms u G o) d))
    behind_object a o (in_mid {m = m} (inl i) f) bs within isin = in_mid (subst (λ z. IsIn (item z n) bs) (sym (ap (λ (y : Item). y.mail) i)) isin) alike
    behind_object a o (in_mid (inr i) f) bs within isin = absurd i
    behind_object a o (past_mid q) bs within isin = passed_home_is_behind (W (Seen u)) v h bs n a within (subst (Ahead (W (Seen u)) a) (onward_read script honest w v h r at p n k far object plain named hosted ms u G o) q)

    spot_plain : (m : Name) → (IsObject m → ⊥) → K.spot m ≡ NoObject
    unfolding names naming spot_of
    spot_plain (Object a i) e = absurd (e tt)
    spot_plain other e = refl

    host_seen : refs.host_at K u.number (Seen u).known p ≡ v
    unfolding refs.host_at
    host_seen = host_some (entry_of K (Seen u).known p) (record k { standing = WaitsOn n; held = ms }) u.number (seen script honest w v h r at p n k far object plain named hosted ms u G) ∙ hosted

    name_clear : refs.severed K (Seen u) (Ref p) ≡ Ref p
    unfolding refs.severed refs.severed_at refs.severed_by
    name_clear = ap (λ q. refs.severed_at K (Seen u) p q) (spot_plain p plain) ∙ (ap (λ a. elim (is_in a u.noticed) [ true ↦ Broken (codes "partition") | false ↦ Ref p ]) host_seen ∙ ap (λ b. elim b [ true ↦ Broken (codes "partition") | false ↦ Ref p ]) G.itself)

    name_mine : refs.place K (Seen u) (Ref p) ≡ Mine p
    unfolding refs.place refs.spotted refs.hosted
    name_mine = ap (λ q. refs.spotted K (Seen u) p q) (spot_plain p plain) ∙ (ap (λ a. elim (u.number == a) [ true ↦ Mine p | false ↦ Away a p false ]) (host_seen ∙ sym G.ready.number) ∙ ap (λ b. elim b [ true ↦ Mine p | false ↦ Away u.number p false ]) (eq-eqb u.number u.number refl))

    follow_seen : (x : Value Name) → Sees x ≡ Ref p → refs.follow K (Seen u) x ≡ Ref p
    unfolding refs.follow
    follow_seen x e = ap (refs.severed K (Seen u)) e ∙ name_clear

    follow_now : (x : Value Name) → Ends x ≡ Ref n → refs.follow K u x ≡ Ref n
    unfolding refs.follow
    follow_now x e = ap (refs.severed K u) e ∙ object_clear

    follow_alike : (x : Value Name) → Sees x ≡ Ends x → refs.follow K (Seen u) x ≡ refs.follow K u x
    unfolding refs.follow
    follow_alike x e = ap (refs.severed K (Seen u)) e ∙ severs (Ends x)

    lead_there : (x : Value Name) → IsHeld script honest w v u x → Sees x ≡ Ref p → LeadsAmid script honest w v (Seen u) v x ≡ End (Held v p) p
    lead_there x i e = leads_there script honest w v r (Seen u) at x (held_seen x i) ∙ (ap (λ y. aimed v y (refs.place K (Seen u) y)) (follow_seen x e) ∙ aimed_mine name_mine)

    passes_one : (m : Name) → IsAmong m (passes (Plain (Ref n))) → m ≡ n
    unfolding passes
    passes_one m (inl e) = e
    passes_one m (inr i) = absurd i

    behind_via : (x : Value Name) → Sees x ≡ Ref p → (e : Name) → x ≡ Ref e → IsHeld script honest w v u (Ref e) → (m : Name) → IsAmong m (passes (Plain (Ref n))) → Behind u u e m
    behind_via x via e is i m j a c f ahead bs within isin = go (brought_from (Held v p) Front (LeadsAmid script honest w v (Seen u) v (Ref e)) c f)
      where
        led : LeadsAmid script honest w v (Seen u) v (Ref e) ≡ End (Held v p) p
        led = lead_there (Ref e) i (subst (λ z. Sees z ≡ Ref p) is via)

        go : From (Held v p) Front (LeadsAmid script honest w v (Seen u) v (Ref e)) c → Ahead (W (Seen u)) a (Mid (Way v h) bs m)
        go (from_there q y) = absurd (y p led)
        go (from_lane o q y) = subst (λ z. Ahead (W (Seen u)) a (Mid (Way v h) bs z)) (sym (passes_one m j)) (behind_object a o (subst (Ahead (W (Seen u)) a) y ahead) bs within isin)

    -- ---- together

    abbrev L : Value Name → Passed Name → Vat Name → Type 0
    L x z t = LeafOf script honest w v Steps Behind u x z t

    abbrev L1 : Vat Name → Value Name → Passed Name → Vat Name → Type 0
    L1 q x z t = LeafOf script honest w v (λ a b. S a b) (λ a b e m. BringsName script honest w v h r rh everyone at there number other objects a b e m) q x z t

    both : (x : Value Name) → refs.follow K (Seen u) x ≡ refs.follow K u x → (d e : Done Name (Passed Name)) → OnGives (λ z t. Alike u e z t) d → OnGives (λ z t. L1 u x z t) d → OnGives (λ z t. L1 (Seen u) x z t) e → OnGives (λ z t. L x z t) d
    both x same (Gives z t) e a l m = let n1 : L1 (Seen u) x z (Seen t) = subst (λ y. OnGives (λ z t. L1 (Seen u) x z t) y) a.gives m in
        record { step = record { real = l.step; seen = n1.step; keeps = λ g. real_on u t (l.step.stays g.ready).0 a.entry a.noticed g; entry = a.entry }; flat = l.flat; behind = λ e is i m j. behind_same t x z same n1 e is i m j }
    both x same other e a l m = tt

    mine_apart : (x y : Value Name) → refs.follow K u x ≡ y → (m : Name) → refs.place K u y ≡ Mine m → m ≡ p → ⊥
    unfolding refs.place refs.spotted refs.hosted
    mine_apart x (Ref q) e m f i = spot (K.spot q) f
      where
        by : (a : ℕ) (b : Bool) → ◌≡◌ {A = Place Name} (elim b [ true ↦ Mine q | false ↦ Away a q false ]) (Mine m) → ⊥
        by a true g = follow_not x (e ∙ ap Ref (same_name g ∙ i))
          where
            same_name : ◌≡◌ {A = Place Name} (Mine q) (Mine m) → q ≡ m
            same_name g = cc
        by a false g = cc

        spot : (c : Spot) → refs.spotted K u q c ≡ Mine m → ⊥
        spot (Own j) g = cc
        spot (Foreign a) g = cc
        spot NoObject g = by (refs.host_at K u.number u.known q) (u.number == refs.host_at K u.number u.known q) g
    mine_apart x other e m f i = cc

    same_leaf : (x y : Value Name) → refs.follow K u x ≡ y → Sees x ≡ Ends x → OnGives (λ z t. L x z t) (refs.address_plain K h y (refs.place K u y) u)
    same_leaf x y e i = both x (follow_alike x i) (refs.address_plain K h y (refs.place K u y) u) (refs.address_plain K h y (refs.place K u y) (Seen u)) (plain_alike u y (refs.place K u y) (mine_apart x y e))
        (leaf_passes script honest w v h r rh everyone at there number other objects u can.can x y e)
        (subst (λ q. OnGives (λ z t. L1 (Seen u) x z t) (refs.address_plain K h y q (Seen u))) (places y) (leaf_passes script honest w v h r rh everyone at there number other objects (Seen u) can.seen x y (follow_alike x i ∙ e)))

    via_act : (b : Bool) (x : Value Name) → Sees x ≡ Ref p → b ≡ true → OnGives (λ z t. L x z t) ((if b then give (Plain (Ref n)) else (draw K >>= (λ i. send_out h (Open i n) >> give (AGift h i)))) u)
    unfolding give
    via_act true x i e = record { step = steps_self u; flat = tt; behind = λ e is l m j. behind_via x i e is l m j }
    via_act false x i e = cc

    via_leaf : (x y : Value Name) → refs.follow K u x ≡ y → Sees x ≡ Ref p → Ends x ≡ Ref n → OnGives (λ z t. L x z t) (refs.address_plain K h y (refs.place K u y) u)
    unfolding refs.address_plain
    via_leaf x y e i f = subst (λ z. OnGives (λ z t. L x z t) (refs.address_plain K h z (refs.place K u z) u)) (sym (follow_now x f) ∙ e)
        (subst (λ q. OnGives (λ z t. L x z t) (refs.address_plain K h (Ref n) q u)) (sym object_place) (via_act (h == h) x i (eq-eqb h h refl)))

    leaf : (x y : Value Name) → refs.follow K u x ≡ y → OnGives (λ z t. L x z t) (refs.address_plain K h y (refs.place K u y) u)
    leaf x y e = go (meets_now x)
      where
        go : (Sees x ≡ Ends x) ⊎ ((Sees x ≡ Ref p) × (Ends x ≡ Ref n)) → OnGives (λ z t. L x z t) (refs.address_plain K h y (refs.place K u y) u)
        go (inl i) = same_leaf x y e i
        go (inr i) = via_leaf x y e i.0 i.1

  -- As the machine passes them.
  pub seen_passing : IsPassing script honest w v (λ u t. Steps u t) (λ u t e m. Behind u t e m) h (λ u. Can u)
  seen_passing = record {
    self = steps_self;
    joins = steps_joins;
    follow = λ a x. a.real.follow x;
    lists = λ a. a.real.lists;
    holds = λ a m i. a.real.holds m i;
    can = can_on;
    fuel = fuel_steps;
    on = behind_on;
    from = behind_from;
    leaf = λ u can x y e. leaf u can x y e;
  }
