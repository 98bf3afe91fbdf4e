-- A gift that stands at its host stays, and one that is opened or asked for stands.
use Rattle.std.proofs.Common.{◌≡◌, ℕ, Bool, true, false, List, [], ◌∷◌, ◌++◌, Option, Some, None, refl, length, inl, inr, ◌==◌}
use Rattle.std.proofs.lemmas.Bool.{eqb-true}
use Rattle.def_machine.specs.Values.{Name, Ref, Naming, IsGift, IsLearnt}
use Rattle.def_machine.specs.State.{GiftEntry, Vat, Done, Gives, Act, ◌>>=◌, ◌>>◌, and_then, give, look, come, new_gift, open_gift, with_opened, is_gift, begun, Open, Ask}
use Rattle.def_machine.specs.Refs as refs
use Rattle.def_machine.specs.Arrive as arrive
use Rattle.def_machine.specs.Arrive.{Incoming, Old, New}
use Rattle.law_machine.specs.Machine.Steps.{After}
use Rattle.law_machine.proofs.Machine.Keeps.{Keeps, IsKept, IsKeptUnder, keeps_bind, keeps_then, keeps_open, keeps_look}
use Rattle.law_machine.proofs.Machine.RefsKeeps.{keeps_resolve}
use Rattle.law_machine.proofs.Machine.ArriveKeeps.{keeps_break_orphan, keeps_tell_asker}
use Rattle.law_machine.proofs.Machine.StepLaws.{kept_by_steps}
use Rattle.law_reference.specs.Reference.Standing.{Stands, GiftsStay, ThenStands, WhatIsOpenedOrAskedForStands}

abbrev SameGifts : Vat Name → Vat Name → Type 0
SameGifts s t = (p i : ℕ) → Stands p i s.gifts → Stands p i t.gifts

stands_end : (p i : ℕ) (gs : List (GiftEntry Name)) (g : GiftEntry Name) → Stands p i gs → Stands p i (gs ++ g ∷ [])
stands_end p i [] g h = absurd h
stands_end p i (x ∷ gs) g (inl h) = inl h
stands_end p i (x ∷ gs) g (inr h) = inr (stands_end p i gs g h)

stands_last : (p i : ℕ) (gs : List (GiftEntry Name)) (g : GiftEntry Name) → g.provider ≡ p → g.number ≡ i → Stands p i (gs ++ g ∷ [])
stands_last p i [] g e f = inl (e, f)
stands_last p i (x ∷ gs) g e f = inr (stands_last p i gs g e f)

opened_or : (p i : ℕ) (b : Bool) (g : GiftEntry Name) (gs hs : List (GiftEntry Name)) → Stands p i (g ∷ gs) → (Stands p i gs → Stands p i hs) → Stands p i (elim b [ true ↦ record g { opened = true } ∷ gs | false ↦ g ∷ hs ])
opened_or p i true g gs hs (inl h) f = inl h
opened_or p i true g gs hs (inr h) f = inr h
opened_or p i false g gs hs (inl h) f = inl h
opened_or p i false g gs hs (inr h) f = inr (f h)

stands_opened : (p i q j : ℕ) (gs : List (GiftEntry Name)) → Stands p i gs → Stands p i (with_opened q j gs)
unfolding with_opened
stands_opened p i q j [] h = absurd h
stands_opened p i q j (g ∷ gs) h = opened_or p i (is_gift q j g) g gs (with_opened q j gs) h (stands_opened p i q j gs)

gifts_law : IsKept SameGifts
gifts_law = record {
  same = λ s p i h. h;
  trans = λ h k p i x. k p i (h p i x);
  fuel = λ s n p i h. h;
  happened = λ s e p i h. h;
  activations = λ s p i h. h;
  thing = λ s x p i h. h;
  killed = λ s n p i h. h;
  slot = λ s c p i h. h;
  written = λ s n v p i h. h;
  list = λ s vs p i h. h;
  queue = λ s m p i h. h;
  outbox = λ s n p i h. h;
  gift = λ s g p i h. stands_end p i s.gifts g h;
  opened = λ s q j p i h. stands_opened p i q j s.gifts h;
  noticed = λ s w p i h. h;
  drawn = λ s w p i h. h;
}

module _ (K : Naming Name Name) where
  gifts_names : IsKeptUnder K SameGifts
  gifts_names = record {
    altered = λ s c n p i h. h;
    came = λ s c w p i h. h;
    mailed = λ s c p i h. h;
    promised = λ s p i h. h;
    messaged = λ s w id p i h. h;
    lone = λ s id p i h. h;
  }

  -- ---- what follows leaves it standing

  ends_standing : (p i : ℕ) (s : Vat Name) (d : Done Name (Unit {0})) → Stands p i s.gifts → After SameGifts s d → ThenStands p i d
  ends_standing p i s (Gives a t) h k = k p i h
  ends_standing p i s other h k = tt

  is_there : (p i : ℕ) (b c : Bool) → elim b [ true ↦ c | false ↦ false ] ≡ true → (b ≡ true) × (c ≡ true)
  is_there p i true c e = (refl, e)
  is_there p i false c e = cc

  gift_is : (p i : ℕ) (g : GiftEntry Name) → is_gift p i g ≡ true → (g.provider ≡ p) × (g.number ≡ i)
  unfolding is_gift
  gift_is p i g e = let r = is_there p i (g.provider == p) (g.number == i) e in (eqb-true g.provider p r.0, eqb-true g.number i r.1)

  found_or : (p i : ℕ) (b : Bool) (g k : GiftEntry Name) (o : Option (GiftEntry Name)) (gs : List (GiftEntry Name)) → (b ≡ true → (g.provider ≡ p) × (g.number ≡ i)) → (o ≡ Some k → Stands p i gs) → elim b [ true ↦ Some g | false ↦ o ] ≡ Some k → Stands p i (g ∷ gs)
  found_or p i true g k o gs f h e = inl (f refl)
  found_or p i false g k o gs f h e = inr (h e)

  found_stands : (p i : ℕ) (gs : List (GiftEntry Name)) (k : GiftEntry Name) → arrive.gift_at p i gs ≡ Some k → Stands p i gs
  unfolding arrive.gift_at
  found_stands p i [] k e = cc
  found_stands p i (g ∷ gs) k e = found_or p i (is_gift p i g) g k (arrive.gift_at p i gs) gs (gift_is p i g) (λ f. found_stands p i gs k f) e

  -- the gift, which comes to be where it is absent, and then anything
  had_then : (u p i : ℕ) (s : Vat Name) (f : Name → Act Name (Unit {0})) → ((n : Name) → Keeps SameGifts (f n)) → (o : Option (GiftEntry Name)) → arrive.gift_at p i s.gifts ≡ o → ThenStands p i (and_then (arrive.gift_or_new K u p i o s) f)
  unfolding arrive.gift_or_new ◌>>=◌ ◌>>◌ and_then come new_gift give
  had_then u p i s f k (Some g) e = ends_standing p i s (f g.name s) (found_stands p i s.gifts g e) ((k g.name).after s)
  had_then u p i s f k None e = let n : Name = K.made (IsGift u i) (length s.known) in let g : GiftEntry Name = record { name = n; provider = p; number = i; opened = false } in
      let t : Vat Name = record s { known = s.known ++ begun n u ∷ []; gifts = s.gifts ++ g ∷ [] } in ends_standing p i t (f n t) (stands_last p i s.gifts g refl refl) ((k n).after t)

  have_then : (p i : ℕ) (s : Vat Name) (f : Name → Act Name (Unit {0})) → ((n : Name) → Keeps SameGifts (f n)) → ThenStands p i ((arrive.have_gift K p i >>= f) s)
  unfolding arrive.have_gift ◌>>=◌ and_then look
  have_then p i s f k = had_then s.number p i s f k (arrive.gift_at p i s.gifts) refl

  opens_keep : (from i : ℕ) (y n : Name) → Keeps SameGifts (open_gift from i >> refs.resolve K n (Ref y))
  opens_keep from i y n = keeps_then SameGifts gifts_law (keeps_open SameGifts gifts_law from i) (keeps_resolve K SameGifts gifts_law gifts_names n (Ref y))

  open_stands : (from i : ℕ) (x : Incoming Name Name) (s : Vat Name) → ThenStands from i (arrive.arrive K from (Open i x) s)
  unfolding arrive.arrive arrive.arrive_open arrive.learn_name ◌>>=◌ and_then give come
  open_stands from i (Old n) s = have_then from i s (λ m. open_gift from i >> refs.resolve K m (Ref n)) (opens_keep from i n)
  open_stands from i (New n h) s = let m : Name = K.made (IsLearnt n) (length s.known) in have_then from i (record s { known = s.known ++ begun m h ∷ [] }) (λ x. open_gift from i >> refs.resolve K x (Ref m)) (opens_keep from i m)

  ask_stands : (from p i : ℕ) (x : Incoming Name Name) (s : Vat Name) → ThenStands p i (arrive.arrive K from (Ask p i x) s)
  unfolding arrive.arrive arrive.arrive_ask
  ask_stands from p i x s = have_then p i s _ (λ n. keeps_then SameGifts gifts_law (keeps_break_orphan K SameGifts gifts_law gifts_names p i n) (keeps_bind SameGifts gifts_law (keeps_look SameGifts gifts_law _) (λ t. keeps_tell_asker K SameGifts gifts_law gifts_names n from t)))

pub gifts_stay : GiftsStay
gifts_stay K step s = kept_by_steps K SameGifts gifts_law (gifts_names K) step s

pub what_is_opened_stands : WhatIsOpenedOrAskedForStands
what_is_opened_stands K from p i x s = (open_stands K from i x s, ask_stands K from p i x s)
