-- Where a followed name is, and that it is followed to itself.
use Rattle.std.proofs.Common.{◌≡◌, ℕ, zero, suc, Bool, true, false, List, [], ◌∷◌, Some, length, refl, sym, ap, subst, ◌∙◌, ◌⊎◌, inl, inr, ◌==◌, codes, eqb-true}
use Rattle.std.proofs.lemmas.Bool.{eq-eqb}
use Rattle.std.specs.Prelude.{slice_get}
use Rattle.def_machine.specs.Values.{Value, Broken, Ref, Name, Root, Object, Promise, Answer, Gift, Sent, Naming, Spot, Own, Foreign, NoObject, naming, spot_of}
use Rattle.def_machine.specs.State.{Known, Vat, is_in}
use Rattle.def_machine.specs.Refs as refs
use Rattle.def_machine.specs.Refs.{Place, Near, Mine, Away}
use Rattle.def_run.specs.World.{Script, World, names, put_at}
use Rattle.law_order.specs.Ordering.Places.{aimed}
use Rattle.law_order.specs.Ordering.Worlds.{IsFixed, IsObject, IsWaiting}
use Rattle.law_order.specs.Ordering.Steps.{LeadsAmid, Ready, IsHeld}
use Rattle.law_order.proofs.Ordering.Coming.{waits_here}
use Rattle.law_order.proofs.Ordering.Sent.{leads_there}

pub other_put : {A : Type 0} (v h : ℕ) (t : A) (ss : List A) → (h ≡ v → ⊥) → slice_get (put_at v t ss) h ≡ slice_get ss h
unfolding put_at
other_put v h t [] f = refl
other_put zero zero t (s ∷ ss) f = absurd (f refl)
other_put zero (suc h) t (s ∷ ss) f = refl
other_put (suc v) zero t (s ∷ ss) f = refl
other_put (suc v) (suc h) t (s ∷ ss) f = other_put v h t ss (λ e. f (ap suc e))

-- ---- the place of a name

-- An object of the vat is near; another name of the vat is its own; each other name is of another vat.
pub data PlaceOf (v : ℕ) (m : Name) : Place Name → Type 0 where
  own_object : (i : ℕ) → m ≡ Object v i → PlaceOf v m Near
  own_name : PlaceOf v m (Mine m)
  of_other : (g : ℕ) (o : Bool) → (v ≡ g → ⊥) → PlaceOf v m (Away g m o)

module _ (script : Script) (v : ℕ) (s : Vat Name) (number : s.number ≡ v) where
  abbrev K : Naming Name Name
  K = names script v

  apart : (u g : ℕ) → (u == g) ≡ false → u ≡ g → ⊥
  apart u g e i = absurd (let j : (u == g) ≡ true = eq-eqb u g i in cc)

  hosted_is : (m : Name) (h : ℕ) (b : Bool) → (v == h) ≡ b → PlaceOf v m (elim b [ true ↦ Mine m | false ↦ Away h m false ])
  hosted_is m h true e = own_name
  hosted_is m h false e = of_other h false (apart v h e)

  object_is : (h i : ℕ) (b : Bool) → (v == h) ≡ b → (v ≡ h → Object h i ≡ Object v i) → PlaceOf v (Object h i) (refs.spotted K s (Object h i) (elim b [ true ↦ Own i | false ↦ Foreign h ]))
  unfolding refs.spotted
  object_is h i true e f = own_object i (f (eqb-true v h e))
  object_is h i false e f = of_other h true (apart v h e)

  plain_is : (m : Name) → PlaceOf v m (refs.hosted K s.number m (refs.host_at K s.number s.known m))
  unfolding refs.hosted
  plain_is m = subst (λ u. PlaceOf v m (elim (u == refs.host_at K s.number s.known m) [ true ↦ Mine m | false ↦ Away (refs.host_at K s.number s.known m) m false ])) (sym number) (hosted_is m (refs.host_at K s.number s.known m) (v == refs.host_at K s.number s.known m) refl)

  pub place_is : (m : Name) → PlaceOf v m (refs.place K s (Ref m))
  unfolding refs.place refs.spotted names naming spot_of
  place_is (Object h i) = object_is h i (v == h) refl (λ e. ap (λ u. Object u i) (sym e))
  place_is (Root h) = plain_is (Root h)
  place_is (Promise h i) = plain_is (Promise h i)
  place_is (Answer h a) = plain_is (Answer h a)
  place_is (Gift h i) = plain_is (Gift h i)
  place_is (Sent a) = plain_is (Sent a)

-- ---- what a value is followed to is followed to itself

module _ (script : Script) (honest : ℕ → Bool) (w : World) (v : ℕ) (s : Vat Name) (ready : Ready script honest w v s) where
  abbrev L : Naming Name Name
  L = names script v

  abbrev At : Value Name → Value Name
  At x = refs.follow_at L (suc (length s.known)) s.known x

  waits_itself : (n : Name) → IsWaiting (refs.standing_of L s.known n) → At (Ref n) ≡ Ref n
  unfolding refs.follow_at
  waits_itself n i = waits_here L (λ y. refs.follow_at L (length s.known) s.known y) n (refs.standing_of L s.known n) i

  object_itself : (n : Name) → IsObject n → At (Ref n) ≡ Ref n
  unfolding refs.standing_of refs.standing_in
  object_itself n i = waits_itself n (subst (λ o. IsWaiting (refs.standing_in o)) (sym (ready.ends.objects n i)) tt)

  known_itself : (n : Name) (k : Known Name) → refs.entry_of L s.known n ≡ Some k → IsWaiting k.standing → At (Ref n) ≡ Ref n
  unfolding refs.standing_of refs.standing_in
  known_itself n k e i = waits_itself n (subst (λ o. IsWaiting (refs.standing_in o)) (sym e) i)

  fixed_at : (x : Value Name) → IsHeld script honest w v s x → IsFixed L s (At x)
  unfolding refs.follow_at
  fixed_at (Ref n) (inl i) = subst (IsFixed L s) (sym (object_itself n i)) (inl i)
  fixed_at (Ref n) (inr h) = ready.ends.fixed n h
  fixed_at other i = tt

  record Again (n : Name) : Type 0 where
    pub held : IsHeld script honest w v s (Ref n)
    pub same : refs.follow L s (Ref n) ≡ Ref n

  severed_same : (m n : Name) (p : Spot) → refs.severed_at L s m p ≡ Ref n → m ≡ n
  unfolding refs.severed_at refs.severed_by
  severed_same m n (Own i) e = cc
  severed_same m n (Foreign h) e = go (is_in h s.noticed) e
    where
      go : (b : Bool) → ◌≡◌ {A = Value Name} (elim b [ true ↦ Broken (codes "partition") | false ↦ Ref m ]) (Ref n) → m ≡ n
      go true i = absurd (cc)
      go false i = cc
  severed_same m n NoObject e = go (is_in (refs.host_at L s.number s.known m) s.noticed) e
    where
      go : (b : Bool) → ◌≡◌ {A = Value Name} (elim b [ true ↦ Broken (codes "partition") | false ↦ Ref m ]) (Ref n) → m ≡ n
      go true i = absurd (cc)
      go false i = cc

  again_at : (z : Value Name) (n : Name) → IsFixed L s z → refs.severed L s z ≡ Ref n → Again n
  unfolding refs.severed refs.follow
  again_at (Ref m) n f e = subst Again (severed_same m n (L.spot m) e) (go f)
    where
      sever_self : refs.severed L s (Ref m) ≡ Ref m
      sever_self = e ∙ ap Ref (sym (severed_same m n (L.spot m) e))

      go : IsObject m ⊎ ((k : Known Name) × (refs.entry_of L s.known m ≡ Some k) × IsWaiting k.standing) → Again m
      go (inl i) = record { held = inl i; same = ap (refs.severed L s) (object_itself m i) ∙ sever_self }
      go (inr k) = record { held = inr (k.0, k.1); same = ap (refs.severed L s) (known_itself m k.0 k.1 k.2) ∙ sever_self }
  again_at other n f e = absurd (cc)

  again : (x : Value Name) (n : Name) → IsHeld script honest w v s x → refs.follow L s x ≡ Ref n → Again n
  unfolding refs.follow
  again x n i e = again_at (At x) n (fixed_at x i) e

  -- So it leads to where the value leads, and that is said by its place.
  pub leads_again : (r : Vat Name) → slice_get w.vats v ≡ Some r → (x : Value Name) (n : Name) → IsHeld script honest w v s x → refs.follow L s x ≡ Ref n
      → (LeadsAmid script honest w v s v (Ref n) ≡ LeadsAmid script honest w v s v x) × (LeadsAmid script honest w v s v x ≡ aimed v (Ref n) (refs.place L s (Ref n)))
  leads_again r at x n i e =
      let a = again x n i e in
      let f : LeadsAmid script honest w v s v x ≡ aimed v (Ref n) (refs.place L s (Ref n)) = leads_there script honest w v r s at x i ∙ ap (λ y. aimed v y (refs.place L s y)) e in
      let g : LeadsAmid script honest w v s v (Ref n) ≡ aimed v (Ref n) (refs.place L s (Ref n)) = leads_there script honest w v r s at (Ref n) a.held ∙ ap (λ y. aimed v y (refs.place L s y)) a.same in
      (g ∙ sym f, f)
