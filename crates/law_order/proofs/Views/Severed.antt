-- A name breaks that nothing else is followed to: all is followed to an end still. Where its host was noticed, each reference to it was broken already.
use Rattle.std.proofs.Common.{◌≡◌, ℕ, zero, suc, Bool, true, false, List, [], ◌∷◌, ◌++◌, Option, Some, None, length, refl, sym, ap, subst, ◌∙◌, ◌⊎◌, inl, inr, codes, eqb-true}
use Rattle.std.specs.Prelude.{slice_get, not, ◌==◌, ◌&&◌}
use Rattle.def_machine.specs.Values.{Words, Value, Broken, Ref, Name, Gift, Naming, naming, host_of}
use Rattle.def_machine.specs.State.{Standing, Unsettled, Viewed, Settled, Known, GiftEntry, Vat, begun, is_in}
use Rattle.def_machine.specs.Refs as refs
use Rattle.def_machine.specs.Refs.{entry_of, standing_of, standing_in, follow_at}
use Rattle.def_run.specs.World as world
use Rattle.def_run.specs.World.{Script, Link, names}
use Rattle.law_order.specs.Ordering.Ways.{Place, Nowhere, Free}
use Rattle.law_order.specs.Ordering.Places.{aimed, by_follow, leads_in, gift_place, opened_there, leads_at, leads, unsettled, released, released_at}
use Rattle.law_order.specs.Ordering.Worlds.{IsObject, IsFixed, FollowsEnd, StandsAlike, RefersAlike}
use Rattle.law_order.proofs.Ordering.Adding.{follows_alike}
use Rattle.law_order.proofs.Ordering.Coming.{new_entry, followed}
use Rattle.law_order.proofs.Ordering.Entries.{reference_is}
use Rattle.law_order.specs.Views.Led.{StandsOtherwise, BreaksAsItsHost, SeveredNamesBreakQuietly}
use Rattle.law_order.proofs.Views.Alike.{SameOr, WasFree, EndsNow, grown_by}
use Rattle.law_order.proofs.Views.Quiet as quiet
use Rattle.law_order.proofs.Views.Quiet.{is_name}

-- nothing else that is known is followed to p
abbrev pub IsAlone : Naming Name Name → List (Known Name) → Name → Type 0
IsAlone K ks p = (n : Name) → (n ≡ p → ⊥) → (k : Known Name) → entry_of K ks n ≡ Some k → follow_at K (suc (length ks)) ks (Ref n) ≡ Ref p → ⊥

-- ---- what stands alone

none_some : (k : Known Name) → ◌≡◌ {A = Option (Known Name)} None (Some k) → ⊥
none_some k e = cc

-- a name that comes to be known
module _ (script : Script) (honest : ℕ → Bool) (v : ℕ) (s : Vat Name) (p : Name) (ends : FollowsEnd (names script v) s) (plain : IsObject p → ⊥) (unknown : entry_of (names script v) s.known p ≡ None) where
  abbrev K : Naming Name Name
  K = names script v

  abbrev Came : List (Known Name)
  Came = s.known ++ begun p (host_of p) ∷ []

  not_fixed : IsFixed K s (Ref p) → ⊥
  not_fixed (inl o) = plain o
  not_fixed (inr h) = none_some h.0 (sym unknown ∙ h.1)

  -- what is known but p was known before
  lone : (n : Name) (k : Known Name) → (n ≡ p → ⊥) → (b : Bool) → K.same p n ≡ b → elim b [ true ↦ Some (begun p (host_of p)) | false ↦ None ] ≡ Some k → ⊥
  unfolding names naming
  lone n k f true e i = f (sym (reference_is p n e))
  lone n k f false e i = none_some k i

  lone_entry : (n : Name) (k : Known Name) → (n ≡ p → ⊥) → entry_of K (begun p (host_of p) ∷ []) n ≡ Some k → ⊥
  unfolding entry_of begun
  lone_entry n k f e = lone n k f (K.same p n) refl e

  known_before : (n : Name) (k : Known Name) → (n ≡ p → ⊥) → entry_of K Came n ≡ Some k → (o : Option (Known Name)) → entry_of K s.known n ≡ o → (j : Known Name) × (entry_of K s.known n ≡ Some j)
  known_before n k f e (Some j) i = (j, i)
  known_before n k f e None i = absurd (lone_entry n k f (sym (new_entry K s.known (begun p (host_of p)) n i) ∙ e))

  pub came_alone : IsAlone K Came p
  came_alone n f k e i =
      let j = known_before n k f e (entry_of K s.known n) refl in
      let fixed = ends.fixed n j in
      not_fixed (subst (λ z. IsFixed K s z) (sym (followed script honest v s p ends plain n fixed) ∙ i) fixed)

some_before : (n : Name) (a b : Option (Known Name)) (k : Known Name) → StandsAlike n a b → b ≡ Some k → (j : Known Name) × (a ≡ Some j)
some_before n None None k h e = absurd (none_some k e)
some_before n None (Some q) k h e = absurd h
some_before n (Some j) b k h e = (j, refl)

pub still_alone : (K : Naming Name Name) (s t : Vat Name) (p : Name) → RefersAlike K s t → IsAlone K s.known p → IsAlone K t.known p
still_alone K s t p g h n f k e i =
    let j = some_before n (entry_of K s.known n) (entry_of K t.known n) k (g.entries n) e in
    h n f j.0 j.1 (sym (follows_alike K s t g (suc (length t.known)) (Ref n) ∙ ap (λ d. follow_at K (suc d) s.known (Ref n)) g.names_known) ∙ i)

-- ---- it breaks

module _ (script : Script) (honest : ℕ → Bool) (v : ℕ) (s t : Vat Name) (p : Name) (problem : Words) {old now : Known Name} (g : StandsOtherwise (names script v) s t p old now) (unsettled_before : old.standing ≡ Unsettled) (broken : now.standing ≡ Settled (Broken problem)) where
  abbrev N : Naming Name Name
  N = names script v

  pub stood : standing_of N s.known p ≡ Unsettled
  unfolding standing_of standing_in
  stood = ap (λ o. standing_in o) g.found ∙ unsettled_before

  pub stands : standing_of N t.known p ≡ Settled (Broken problem)
  unfolding standing_of standing_in
  stands = ap (λ o. standing_in o) g.found_then ∙ broken

  abbrev In : ℕ → Value Name → Value Name
  In d z = follow_at N d s.known z

  abbrev Then : ℕ → Value Name → Value Name
  Then d z = follow_at N d t.known z

  -- what is followed to an end ended there before, or at p
  abbrev pub Meets : Value Name → Value Name → Type 0
  Meets a b = (b ≡ a) ⊎ ((a ≡ Ref p) × (b ≡ Broken problem))

  broken_there : (d : ℕ) → Then d (Broken problem) ≡ Broken problem
  unfolding follow_at
  broken_there zero = refl
  broken_there (suc d) = refl

  at_standing : (d : ℕ) (n : Name) (q : Standing Name) → ((z : Value Name) → Meets (In d z) (Then d z)) → Meets (refs.led N (λ z. In d z) n q) (refs.led N (λ z. Then d z) n q)
  unfolding refs.led
  at_standing d n (Viewed q) f = f (Ref q)
  at_standing d n (Settled z) f = f z
  at_standing d n other f = inl refl

  at_p : (d : ℕ) → Meets (refs.led N (λ z. In d z) p (standing_of N s.known p)) (refs.led N (λ z. Then d z) p (standing_of N t.known p))
  unfolding refs.led
  at_p d = inr (ap (λ q. refs.led N (λ z. In d z) p q) stood, ap (λ q. refs.led N (λ z. Then d z) p q) stands ∙ broken_there d)

  at_name : (d : ℕ) (n : Name) → ((z : Value Name) → Meets (In d z) (Then d z)) → Meets (refs.led N (λ z. In d z) n (standing_of N s.known n)) (refs.led N (λ z. Then d z) n (standing_of N t.known n))
  at_name d n f = go (is_name n p)
    where
      go : (n ≡ p) ⊎ (n ≡ p → ⊥) → Meets (refs.led N (λ z. In d z) n (standing_of N s.known n)) (refs.led N (λ z. Then d z) n (standing_of N t.known n))
      go (inl e) = subst (λ m. Meets (refs.led N (λ z. In d z) m (standing_of N s.known m)) (refs.led N (λ z. Then d z) m (standing_of N t.known m))) (sym e) (at_p d)
      go (inr i) = subst (λ q. Meets (refs.led N (λ z. In d z) n (standing_of N s.known n)) (refs.led N (λ z. Then d z) n q)) (sym (quiet.stays script honest v s t p g n i)) (at_standing d n (standing_of N s.known n) f)

  pub meets : (d : ℕ) (x : Value Name) → Meets (In d x) (Then d x)
  unfolding follow_at
  meets zero x = inl refl
  meets (suc d) (Ref n) = at_name d n (λ z. meets d z)
  meets (suc d) other = inl refl

  -- ---- all is followed to an end

  module _ (ends : FollowsEnd N s) (plain : IsObject p → ⊥) (alone : IsAlone N s.known p) where
    abbrev End : ℕ
    End = suc (length t.known)

    same_end : (n : Name) → In End (Ref n) ≡ In (suc (length s.known)) (Ref n)
    same_end n = ap (λ d. In (suc d) (Ref n)) g.names_known

    ends_elsewhere : (n : Name) (k : Known Name) → entry_of N s.known n ≡ Some k → (n ≡ p → ⊥) → Meets (In End (Ref n)) (Then End (Ref n)) → IsFixed N t (Then End (Ref n))
    ends_elsewhere n k e f (inl i) = subst (λ z. IsFixed N t z) (sym (i ∙ same_end n)) (quiet.fixed_then script honest v s t p g (In (suc (length s.known)) (Ref n)) (ends.fixed n (k, e)) (λ j. alone n f k e j))
    ends_elsewhere n k e f (inr i) = subst (λ z. IsFixed N t z) (sym i.1) tt

    followed_p : Then End (Ref p) ≡ Broken problem
    unfolding follow_at refs.led
    followed_p = ap (λ q. refs.led N (λ z. Then (length t.known) z) p q) stands ∙ broken_there (length t.known)

    known_ends : (n : Name) (k : Known Name) → entry_of N t.known n ≡ Some k → IsFixed N t (Then End (Ref n))
    known_ends n k e = go (is_name n p)
      where
        go : (n ≡ p) ⊎ (n ≡ p → ⊥) → IsFixed N t (Then End (Ref n))
        go (inl i) = subst (λ z. IsFixed N t z) (sym (ap (λ m. Then End (Ref m)) i ∙ followed_p)) tt
        go (inr f) = ends_elsewhere n k (sym (g.others n f) ∙ e) f (meets End (Ref n))

    pub ends_then : FollowsEnd N t
    ends_then = record {
      objects = λ n o. g.others n (quiet.unknown_other script honest v s t p g n (ends.objects n o)) ∙ ends.objects n o;
      fixed = λ n h. known_ends n h.0 h.1;
    }

-- ---- where its host was noticed

module _ (script : Script) (honest : ℕ → Bool) (v : ℕ) (s t : Vat Name) (p : Name) (problem : Words) (g : BreaksAsItsHost (names script v) s t p problem) where
  abbrev J : Naming Name Name
  J = names script v

  host_is : refs.host_at J s.number s.known p ≡ g.before.host
  unfolding refs.host_at refs.host_in
  host_is = ap (λ o. refs.host_in s.number o) g.only.found

  was_severed : refs.severed J s (Ref p) ≡ Broken (codes "partition")
  unfolding refs.severed refs.severed_at refs.severed_by
  was_severed = ap (λ q. refs.severed_at J s p q) g.plain ∙ ap (λ h. elim (is_in h s.noticed) [ true ↦ Broken (codes "partition") | false ↦ Ref p ]) host_is ∙ ap (λ c. elim c [ true ↦ Broken (codes "partition") | false ↦ Ref p ]) g.noticed

  abbrev Aim : Vat Name → Value Name → Place
  Aim r z = aimed v (refs.severed J r z) (refs.place J r (refs.severed J r z))

  broken_aim : (r : Vat Name) (w : Words) → aimed v (Broken w) (refs.place J r (Broken w)) ≡ Nowhere
  unfolding aimed refs.place
  broken_aim r w = refl

  aim_before : Aim s (Ref p) ≡ Nowhere
  aim_before = ap (λ z. aimed v z (refs.place J s z)) was_severed ∙ broken_aim s (codes "partition")

  aim_then : Aim t (Broken problem) ≡ Nowhere
  unfolding refs.severed
  aim_then = broken_aim t problem

  aims_on : (a b : Value Name) → Meets script honest v s t p problem g.only g.unsettled g.broken a b → Aim t b ≡ Aim s a
  aims_on a b (inl e) = ap (λ z. Aim t z) e ∙ quiet.aims_same script honest v s t p g.only a
  aims_on a b (inr h) = ap (λ z. Aim t z) h.1 ∙ aim_then ∙ sym (ap (λ z. Aim s z) h.0 ∙ aim_before)

  follows_on : (x : Value Name) → by_follow script honest v t x ≡ by_follow script honest v s x
  unfolding by_follow refs.follow
  follows_on x = aims_on (follow_at J (suc (length s.known)) s.known x) (follow_at J (suc (length t.known)) t.known x)
      (subst (λ d. Meets script honest v s t p problem g.only g.unsettled g.broken (follow_at J (suc d) s.known x) (follow_at J (suc (length t.known)) t.known x)) g.only.names_known (meets script honest v s t p problem g.only g.unsettled g.broken (suc (length t.known)) x))

  pub leads_on : (x : Value Name) → leads_in script honest v t x ≡ leads_in script honest v s x
  leads_on x = quiet.leads_on script honest v s t p g.only follows_on x

  -- ---- what names hold

  module _ (vs : List (Vat Name)) (ls : List Link) where
    abbrev Releases : Name → Vat Name → Place
    Releases q r = released_at script honest vs ls v q (Some r)

    other_same : (q : Name) → (q ≡ p → ⊥) → Releases q t ≡ Releases q s
    unfolding released_at
    other_same q f = ap (λ z. released script honest vs ls v q t.gifts z) (quiet.stays script honest v s t p g.only q f) ∙ ap (λ gs. released script honest vs ls v q gs (standing_of J s.known q)) g.only.gifts

    unsettled_free : (n : Name) (gs : List (GiftEntry Name)) → ((i : ℕ) → n ≡ Gift v i → ⊥) → unsettled script honest vs ls v n gs ≡ Free
    unfolding unsettled
    unsettled_free (Gift h i) gs f = go (h == v) refl
      where
        go : (b : Bool) → (h == v) ≡ b → elim (b && not (opened_there (Gift h i) gs)) [ true ↦ gift_place script honest h i ls | false ↦ Free ] ≡ Free
        go true e = absurd (f i (ap (λ z. Gift z i) (eqb-true h v e)))
        go false e = refl
    unsettled_free other gs f = refl

    p_free : ((i : ℕ) → p ≡ Gift v i → ⊥) → Releases p s ≡ Free
    unfolding released_at released
    p_free f = ap (λ z. released script honest vs ls v p s.gifts z) (stood script honest v s t p problem g.only g.unsettled g.broken) ∙ unsettled_free p s.gifts f

    pub mine : ((i : ℕ) → p ≡ Gift v i → ⊥) → (q : Name) → SameOr WasFree (Releases q s) (Releases q t)
    mine f q = go (is_name q p)
      where
        go : (q ≡ p) ⊎ (q ≡ p → ⊥) → SameOr WasFree (Releases q s) (Releases q t)
        go (inl e) = inr (ap (λ n. Releases n s) e ∙ p_free f)
        go (inr i) = inl (other_same q i)

    -- whatever p is, what it would hold goes nowhere now
    module _ (here : slice_get vs v ≡ Some s) where
      leads_nowhere : leads script honest vs ls v (Broken problem) ≡ Nowhere
      unfolding leads leads_at leads_in by_follow refs.follow refs.follow_at refs.severed
      leads_nowhere = ap (λ o. leads_at script honest v o (Broken problem)) here ∙ broken_aim s problem

      p_ends : Releases p t ≡ Nowhere
      unfolding released_at released
      p_ends = ap (λ z. released script honest vs ls v p t.gifts z) (stands script honest v s t p problem g.only g.unsettled g.broken) ∙ leads_nowhere

      pub mine_ends : (q : Name) → SameOr EndsNow (Releases q s) (Releases q t)
      mine_ends q = go (is_name q p)
        where
          go : (q ≡ p) ⊎ (q ≡ p → ⊥) → SameOr EndsNow (Releases q s) (Releases q t)
          go (inl e) = inr (ap (λ n. Releases n t) e ∙ p_ends)
          go (inr i) = inl (other_same q i)

pub severed_names_break_quietly : SeveredNamesBreakQuietly
severed_names_break_quietly script honest w v s t p problem g f r = (
  quiet.ready_then script honest w v s t p g.only g.follows r,
  grown_by script honest w v s t (λ l. quiet.more script honest w v s t p g.only l) (λ u x. quiet.leading script honest w v s t p g.only same u x)
      (λ l n. quiet.onward_or script honest w v s t p g.only same WasFree (λ vs ls here q. mine script honest v s t p problem g (world.put_at v s vs) ls f q) l n),
)
  where
    same : (x : Value Name) → leads_in script honest v t x ≡ leads_in script honest v s x
    same x = leads_on script honest v s t p problem g x
