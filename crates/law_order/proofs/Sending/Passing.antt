-- What a vat has in hand can pass to each other vat, in the middle of a step of a run.
use Rattle.std.proofs.Common.{◌≡◌, ℕ, zero, suc, Bool, true, false, List, [], ◌∷◌, Option, Some, None, refl, sym, ap, subst, ◌∙◌, ◌⊎◌, inl, inr, ◌==◌, ◌||◌, ◌&&◌, eqb-true}
use Rattle.std.proofs.lemmas.Bool.{eq-eqb}
use Rattle.std.specs.Prelude.{slice_get}
use Rattle.def_machine.specs.Values.{Words, Value, Broken, Ref, Name, Object, Gift, Naming, Spot, Own, Foreign, NoObject, naming, host_of, same_name, same_reference, key}
use Rattle.def_machine.specs.State.{Known, Unsettled, Settled, GiftEntry, Vat, drawn_at}
use Rattle.def_machine.specs.Refs as refs
use Rattle.def_machine.specs.Refs.{Place, Near, Mine, Away, Gone, entry_of, standing_of}
use Rattle.def_machine.proofs.Keys.{word_key}
use Rattle.def_run.specs.Draws.{draw_word}
use Rattle.def_run.specs.World.{Script, Link, World, names, link_at}
use Rattle.law_machine.specs.Machine.Laws.{SettledStays}
use Rattle.law_machine.proofs.Machine.StepLaws.{settled_entry, standing_found}
use Rattle.law_fate.specs.Name.Names.{AllOf, IsAmong, WasMade, IsEventual, HostIsTrue, names_in, KnownOk, GiftOk}
use Rattle.law_fate.proofs.Name.Run.{Had, VatStands, Stands}
use Rattle.law_fate.proofs.Name.SameNames.{same_is, reference_is}
use Rattle.law_order.specs.Ordering.Ways.{Held, Way, End}
use Rattle.law_order.specs.Ordering.Places.{opened_there, aimed}
use Rattle.law_order.specs.Ordering.Worlds.{IsObject, IsWaiting}
use Rattle.law_order.specs.Ordering.Steps.{LeadsAmid, Ready, IsHeld}
use Rattle.law_order.proofs.Ordering.Arrived.{all_there}
use Rattle.law_order.proofs.Ordering.Sent.{leads_there, mine_waits}
use Rattle.law_order.specs.History.Passings.{IsThere, IsNoVat, IsOpenOrLost, CanPass}
use Rattle.law_order.proofs.History.Refs.{PlaceOf, own_object, own_name, of_other, place_is}

-- the name settled at its host
pub record IsSettledAt (script : Script) (w : World) (u : ℕ) (n : Name) : Type 0 where
  pub vat : Vat Name
  pub found : slice_get w.vats u ≡ Some vat
  pub value : Value Name
  pub settled : standing_of (names script u) vat.known n ≡ Settled value

-- A name of another vat is unsettled at a vat, or broken, or it settled at its host.
abbrev pub FarNamesRest : Script → World → Type 0
FarNamesRest script w = (h : ℕ) (t : Vat Name) → slice_get w.vats h ≡ Some t → (n : Name) → (host_of n ≡ h → ⊥)
    → (standing_of (names script h) t.known n ≡ Unsettled) ⊎ (((p : Words) × (standing_of (names script h) t.known n ≡ Settled (Broken p))) ⊎ IsSettledAt script w (host_of n) n)

-- of each two vats that are there a link leads from the one to the other, and no link leads to a vat that is not there
pub record AllMeet (w : World) : Type 0 where
  pub linked : (a b : ℕ) (s t : Vat Name) → slice_get w.vats a ≡ Some s → slice_get w.vats b ≡ Some t → (a ≡ b → ⊥) → (l : Link) × (link_at a b w.links ≡ Some l)
  pub receivers : (a b : ℕ) (l : Link) → link_at a b w.links ≡ Some l → (t : Vat Name) × (slice_get w.vats b ≡ Some t)

-- ---- places

name_is : (a b : Name) → ◌≡◌ {A = Value Name} (Ref a) (Ref b) → a ≡ b
name_is a b e = cc

-- what is aimed over a link is of that other vat
pub aimed_away : (v g : ℕ) (n : Name) (y : Value Name) (p : Place Name) → aimed v y p ≡ End (Way v g) n → (m : Name) × (o : Bool) × (p ≡ Away g m o)
unfolding aimed
aimed_away v g n (Ref m) Near e = absurd (cc)
aimed_away v g n (Ref m) (Mine q) e = absurd (cc)
aimed_away v g n (Ref m) (Away h q o) e = let same : h ≡ g = cc in (q, o, ap (λ u. Away u q o) same)
aimed_away v g n (Ref m) (Gone p) e = absurd (cc)
aimed_away v g n other Near e = absurd (cc)
aimed_away v g n other (Mine q) e = absurd (cc)
aimed_away v g n other (Away h q o) e = let same : h ≡ g = cc in (q, o, ap (λ u. Away u q o) same)
aimed_away v g n other (Gone p) e = absurd (cc)

aimed_mine : (v : ℕ) (n : Name) (y : Value Name) (p : Place Name) → aimed v y p ≡ End (Held v n) n → p ≡ Mine n
unfolding aimed
aimed_mine v n (Ref m) Near e = absurd (cc)
aimed_mine v n (Ref m) (Mine q) e = let same : q ≡ n = cc in ap Mine same
aimed_mine v n (Ref m) (Away h q o) e = absurd (cc)
aimed_mine v n (Ref m) (Gone p) e = absurd (cc)
aimed_mine v n other Near e = absurd (cc)
aimed_mine v n other (Mine q) e = let same : q ≡ n = cc in ap Mine same
aimed_mine v n other (Away h q o) e = absurd (cc)
aimed_mine v n other (Gone p) e = absurd (cc)

some_known : (a b : Known Name) → Some a ≡ Some b → a ≡ b
some_known a b q = cc

none_known : (a : Known Name) → ◌≡◌ {A = Option (Known Name)} None (Some a) → ⊥
none_known a q = cc

-- what stands in the place of a name of the vat's own has it for its host
spotted_host : (script : Script) (v : ℕ) (s : Vat Name) (m n : Name) (k : Known Name) (p : Spot) → entry_of (names script v) s.known n ≡ Some k → refs.spotted (names script v) s m p ≡ Mine n → k.host ≡ s.number
unfolding refs.spotted refs.hosted refs.host_at refs.host_in
spotted_host script v s m n k (Own i) f e = absurd (cc)
spotted_host script v s m n k (Foreign h) f e = absurd (cc)
spotted_host script v s m n k NoObject f e = go (entry_of (names script v) s.known m) refl (s.number == refs.host_in s.number (entry_of (names script v) s.known m)) refl e
  where
    go : (o : Option (Known Name)) → entry_of (names script v) s.known m ≡ o → (b : Bool) → (s.number == refs.host_in s.number o) ≡ b → elim b [ true ↦ Mine m | false ↦ Away (refs.host_in s.number o) m false ] ≡ Mine n → k.host ≡ s.number
    go (Some j) i true g q = let same : m ≡ n = cc in let one : j ≡ k = some_known j k (sym i ∙ ap (entry_of (names script v) s.known) same ∙ f) in ap (λ (z : Known Name). z.host) (sym one) ∙ sym (eqb-true s.number j.host g)
    go None i true g q = let same : m ≡ n = cc in absurd (none_known k (sym i ∙ ap (entry_of (names script v) s.known) same ∙ f))
    go o i false g q = absurd (cc)

placed_host : (script : Script) (v : ℕ) (s : Vat Name) (y : Value Name) (n : Name) (k : Known Name) → entry_of (names script v) s.known n ≡ Some k → refs.place (names script v) s y ≡ Mine n → k.host ≡ s.number
unfolding refs.place
placed_host script v s (Ref m) n k f e = spotted_host script v s m n k ((names script v).spot m) f e
placed_host script v s other n k f e = absurd (cc)

-- what is placed at another vat is of another
pub placed_other : (script : Script) (v : ℕ) (s : Vat Name) → s.number ≡ v → (y : Value Name) (g : ℕ) (m : Name) (o : Bool) → refs.place (names script v) s y ≡ Away g m o → v ≡ g → ⊥
unfolding refs.place
placed_other script v s number (Ref q) g m o e i = go (place_is script v s number q) e
  where
    go : {p : Place Name} → PlaceOf v q p → p ≡ Away g m o → ⊥
    go (own_object j f) d = cc
    go own_name d = cc
    go (of_other h b far) d = let same : h ≡ g = cc in far (i ∙ sym same)
placed_other script v s number other g m o e i = cc

-- ---- gifts of a word that was not drawn

not_among : (k x : ℕ) (ds : List ℕ) → drawn_at k x ds ≡ None → IsAmong x ds → ⊥
unfolding drawn_at
not_among k x [] e a = a
not_among k x (d ∷ ds) e a = go (x == d) refl (not_among (suc k) x ds) e a
  where
    go : (b : Bool) → (x == d) ≡ b → (drawn_at (suc k) x ds ≡ None → IsAmong x ds → ⊥) → ◌≡◌ {A = Option ℕ} (elim b [ true ↦ Some k | false ↦ drawn_at (suc k) x ds ]) None → (x ≡ d) ⊎ IsAmong x ds → ⊥
    go true i f q c = cc
    go false i f q (inl j) = absurd (let t : (x == d) ≡ true = eq-eqb x d j in cc)
    go false i f q (inr c) = f q c

object_apart : (n : Name) → IsObject n → IsEventual n → ⊥
object_apart (Object u i) o e = e
object_apart other o e = o

eventual_name : (ks : List (Known Name)) (n : Name) → AllOf IsEventual (names_in ks) → IsAmong n (names_in ks) → IsEventual n
eventual_name [] n h a = absurd a
eventual_name (k ∷ ks) n h (inl e) = subst IsEventual (sym e) h.0
eventual_name (k ∷ ks) n h (inr a) = eventual_name ks n h.1 a

-- a name that is found is among those known
found_name : (word : ℕ → ℕ) (v : ℕ) (ks : List (Known Name)) (n : Name) (k : Known Name) → entry_of (naming word v) ks n ≡ Some k → IsAmong n (names_in ks)
unfolding entry_of naming
found_name word v [] n k e = absurd (cc)
found_name word v (j ∷ ks) n k e = go (same_reference j.name n) refl (found_name word v ks n k) e
  where
    go : (b : Bool) → same_reference j.name n ≡ b → (entry_of (naming word v) ks n ≡ Some k → IsAmong n (names_in ks)) → ◌≡◌ {A = Option (Known Name)} (elim b [ true ↦ Some j | false ↦ entry_of (naming word v) ks n ]) (Some k) → (n ≡ j.name) ⊎ IsAmong n (names_in ks)
    go true f g i = inl (sym (reference_is j.name n f))
    go false f g i = inr (g i)

none_or : (o : Option (Known Name)) → ((k : Known Name) → o ≡ Some k → ⊥) → o ≡ None
none_or (Some k) f = absurd (f k refl)
none_or None f = refl

pub entry_host : (word : ℕ → ℕ) (v : ℕ) (ks : List (Known Name)) (n : Name) (k : Known Name) → AllOf HostIsTrue ks → entry_of (naming word v) ks n ≡ Some k → k.host ≡ host_of n
unfolding entry_of naming
entry_host word v [] n k h e = absurd (cc)
entry_host word v (j ∷ ks) n k h e = go (same_reference j.name n) refl (entry_host word v ks n k h.1) e
  where
    go : (b : Bool) → same_reference j.name n ≡ b → (entry_of (naming word v) ks n ≡ Some k → k.host ≡ host_of n) → ◌≡◌ {A = Option (Known Name)} (elim b [ true ↦ Some j | false ↦ entry_of (naming word v) ks n ]) (Some k) → k.host ≡ host_of n
    go true f g i = let same : j ≡ k = cc in subst (λ (z : Known Name). z.host ≡ host_of n) same (h.0 ∙ ap host_of (reference_is j.name n f))
    go false f g i = g i

module _ (script : Script) (w : World) (stands : Stands script w) where
  made_names : (u : ℕ) (t : Vat Name) → slice_get w.vats u ≡ Some t → (n : Name) → IsAmong n (names_in t.known) → WasMade w.vats w.drawn n
  made_names u t e n a = let p = (stands.vats u t e).parts in go t.known p.known a
    where
      go : (ks : List (Known Name)) → AllOf (KnownOk (Had script w u t)) ks → IsAmong n (names_in ks) → WasMade w.vats w.drawn n
      go [] h i = absurd i
      go (k ∷ ks) h (inl q) = subst (WasMade w.vats w.drawn) (sym q) h.0.0.0
      go (k ∷ ks) h (inr i) = go ks h.1 i

  -- a gift under a word that was not drawn was not made
  unmade_gift : (x p g : ℕ) → (IsAmong x w.drawn → ⊥) → WasMade w.vats w.drawn (Gift g (key p x)) → ⊥
  unmade_gift x p g f m = f (subst (λ z. IsAmong z w.drawn) (word_key p x) m)

  unopened : (x p u g : ℕ) (t : Vat Name) → (IsAmong x w.drawn → ⊥) → slice_get w.vats u ≡ Some t → opened_there (Gift g (key p x)) t.gifts ≡ false
  unfolding opened_there
  unopened x p u g t f e = let all = (stands.vats u t e).parts in go t.gifts all.gifts
    where
      one : (n : Name) (b : Bool) → WasMade w.vats w.drawn n → same_name n (Gift g (key p x)) ≡ b → b ≡ false
      one n true made q = absurd (unmade_gift x p g f (subst (WasMade w.vats w.drawn) (same_is n (Gift g (key p x)) q) made))
      one n false made q = refl

      go : (gs : List (GiftEntry Name)) → AllOf (GiftOk (Had script w u t)) gs → opened_there (Gift g (key p x)) gs ≡ false
      go [] h = refl
      go (j ∷ gs) h = ap (λ b. (b && j.opened) || opened_there (Gift g (key p x)) gs) (one j.name (same_name j.name (Gift g (key p x))) h.0.0.0 refl) ∙ go gs h.1

  unknown : (x p u g : ℕ) (t : Vat Name) → (IsAmong x w.drawn → ⊥) → slice_get w.vats u ≡ Some t → entry_of (names script u) t.known (Gift g (key p x)) ≡ None
  unfolding names
  unknown x p u g t f e = none_or (entry_of (names script u) t.known (Gift g (key p x))) (λ k i. unmade_gift x p g f (made_names u t e (Gift g (key p x)) (found_name (draw_word script.key) u t.known (Gift g (key p x)) k i)))

-- no object is known
pub no_objects : (script : Script) (u : ℕ) (ks : List (Known Name)) → AllOf IsEventual (names_in ks) → (o : Name) → IsObject o → entry_of (names script u) ks o ≡ None
unfolding names
no_objects script u ks apart o i = none_or (entry_of (names script u) ks o) (λ k e. object_apart o i (eventual_name ks o apart (found_name (draw_word script.key) u ks o k e)))

-- ---- what can pass

module _ (script : Script) (honest : ℕ → Bool) (w : World) (stands : Stands script w) (meet : AllMeet w) (far : FarNamesRest script w) (v : ℕ) (r : Vat Name) (at : slice_get w.vats v ≡ Some r)
    (s : Vat Name) (ready : Ready script honest w v s) (settled : SettledStays (names script v) r s) (hosts : AllOf HostIsTrue s.known) (drawn : (x : ℕ) → IsAmong x w.drawn → IsAmong x s.drawn) where
  abbrev K : Naming Name Name
  K = names script v

  abbrev Followed : Value Name → Value Name
  Followed x = refs.follow K s x

  leads_by : (x : Value Name) → IsHeld script honest w v s x → LeadsAmid script honest w v s v x ≡ aimed v (Followed x) (refs.place K s (Followed x))
  leads_by x i = leads_there script honest w v r s at x i

  -- ---- over links

  found_vat : (g : ℕ) (o : Option Link) → link_at v g w.links ≡ o → (v ≡ g → ⊥) → IsThere w v g ⊎ IsNoVat w g
  found_vat g (Some l) e other = let t = meet.receivers v g l e in inl (record { vat = t.0; found = t.1; link = λ ps. let k = all_there l.cut v g v ps w.links (l, e, refl) in (k.0, k.1) })
  found_vat g None e other = inr (record { none = λ a. none a (link_at a g w.links) refl })
    where
      some_none : (l : Link) → ◌≡◌ {A = Option Link} None (Some l) → ⊥
      some_none l q = cc

      none : (a : ℕ) (o : Option Link) → link_at a g w.links ≡ o → o ≡ None
      none a None i = refl
      none a (Some l) i = let t = meet.receivers a g l i in let k = meet.linked v g r t.0 at t.1 other in absurd (some_none k.0 (sym e ∙ k.1))

  pub vats_there : (x : Value Name) (g : ℕ) (n : Name) → IsHeld script honest w v s x → LeadsAmid script honest w v s v x ≡ End (Way v g) n → IsThere w v g ⊎ IsNoVat w g
  vats_there x g n i e = let a = aimed_away v g n (Followed x) (refs.place K s (Followed x)) (sym (leads_by x i) ∙ e) in
      found_vat g (link_at v g w.links) refl (placed_other script v s ready.number (Followed x) g a.0 a.1 a.2)

  -- ---- names of the vat's own that wait

  rests_at : (h : ℕ) (t : Vat Name) (n : Name) → (h ≡ v → ⊥) → slice_get w.vats h ≡ Some t → host_of n ≡ v → IsWaiting (standing_of K s.known n) → (o : Option (Known Name)) → entry_of (names script h) t.known n ≡ o → IsOpenOrLost script w v h t n
  unfolding standing_of refs.standing_in names
  rests_at h t n other there host waits None e = inl (inl e)
  rests_at h t n other there host waits (Some j) e = go (far h t there n (λ i. other (sym i ∙ host)))
    where
      stand : VatStands script w h t
      stand = stands.vats h t there

      plain : IsObject n → ⊥
      plain i = object_apart n i (eventual_name t.known n (let kept = stand.kept in kept.apart) (found_name (draw_word script.key) h t.known n j e))

      unsettled_is : refs.standing_in (entry_of (names script h) t.known n) ≡ Unsettled → IsWaiting j.standing
      unsettled_is i = subst IsWaiting (sym (sym (ap (λ z. refs.standing_in z) e) ∙ i)) tt

      settled_there : IsSettledAt script w (host_of n) n → ⊥
      settled_there z = let same : z.vat ≡ r = some_vat z.vat r (sym z.found ∙ ap (slice_get w.vats) host ∙ at) in
          let here : standing_of K r.known n ≡ Settled z.value = subst (λ (q : Vat Name). standing_of K q.known n ≡ Settled z.value) same (subst (λ u. standing_of (names script u) z.vat.known n ≡ Settled z.value) host z.settled) in
          subst IsWaiting (later n z.value here) waits
        where
          some_vat : (a b : Vat Name) → Some a ≡ Some b → a ≡ b
          some_vat a b q = cc

          later : (m : Name) (y : Value Name) → standing_of K r.known m ≡ Settled y → standing_of K s.known m ≡ Settled y
          later m y q = let f = settled_entry (entry_of K r.known m) y q in standing_found K s.known m f.0 y (settled m f.0 y f.1 f.2) f.2

      go : (standing_of (names script h) t.known n ≡ Unsettled) ⊎ (((p : Words) × (standing_of (names script h) t.known n ≡ Settled (Broken p))) ⊎ IsSettledAt script w (host_of n) n) → IsOpenOrLost script w v h t n
      go (inl i) = inl (inr (plain, j, e, unsettled_is i, entry_host (draw_word script.key) h t.known n j (let kept = stand.kept in kept.hosts) e ∙ host))
      go (inr (inl i)) = inr (inl (record { known = j; found = e; problem = i.0; broken = sym (ap (λ z. refs.standing_in z) e) ∙ i.1 }))
      go (inr (inr i)) = absurd (settled_there i)

  pub opens_there : (h : ℕ) (t : Vat Name) → (h ≡ v → ⊥) → slice_get w.vats h ≡ Some t → (x : Value Name) (n : Name) → IsHeld script honest w v s x → LeadsAmid script honest w v s v x ≡ End (Held v n) n → (host_of n ≡ v) × IsOpenOrLost script w v h t n
  unfolding names standing_of refs.standing_in
  opens_there h t other there x n i e =
      let p : refs.place K s (Followed x) ≡ Mine n = aimed_mine v n (Followed x) (refs.place K s (Followed x)) (sym (leads_by x i) ∙ e) in
      let k = mine_waits script honest w v s ready x n i p in
      let host : host_of n ≡ v = sym (entry_host (draw_word script.key) v s.known n k.0 hosts k.1) ∙ placed_host script v s (Followed x) n k.0 k.1 p ∙ ready.number in
      (host, rests_at h t n other there host (subst (λ o. IsWaiting (refs.standing_in o)) (sym k.1) k.2) (entry_of (names script h) t.known n) refl)

  gifts_there : (x : ℕ) → drawn_at zero x s.drawn ≡ None → (u g : ℕ) (t : Vat Name) → slice_get w.vats u ≡ Some t → (entry_of (names script u) t.known (Gift g (key v x)) ≡ None) × (opened_there (Gift g (key v x)) t.gifts ≡ false)
  gifts_there x e u g t there = let fresh : (IsAmong x w.drawn → ⊥) = (λ a. not_among zero x s.drawn e (drawn x a)) in (unknown script w stands x v u g t fresh there, unopened script w stands x v u g t fresh there)

  -- what it has in hand can pass to each other vat that is there
  pub can_pass : (h : ℕ) (t : Vat Name) → (h ≡ v → ⊥) → slice_get w.vats h ≡ Some t → CanPass script honest w v h t s
  can_pass h t other there = record { ready = ready; opens = opens_there h t other there; vats = vats_there; gifts = gifts_there }
