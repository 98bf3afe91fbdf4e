-- Where each reference of a vat leads where it led, the ways lead where they led, but what its names hold may go elsewhere.
use Rattle.std.proofs.Common.{◌≡◌, ℕ, Bool, true, false, List, [], ◌∷◌, ◌++◌, Option, Some, None, refl, sym, ap, subst, ◌∙◌, ◌⊎◌, inl, inr}
use Rattle.std.specs.Prelude.{slice_get}
use Rattle.def_machine.specs.Values.{Value, Ref, Name, Gift}
use Rattle.def_machine.specs.State.{Standing, Unsettled, WaitsOn, Viewed, Settled, GiftEntry, Vat}
use Rattle.def_machine.specs.Refs.{standing_of}
use Rattle.def_run.specs.World as world
use Rattle.def_run.specs.World.{Script, Link, World, names}
use Rattle.law_order.specs.Ordering.Ways.{Lane, Queue, Held, Way, Item, Place, Nowhere, Free, IsIn, IsOneWay}
use Rattle.law_order.specs.Ordering.Messages.{More}
use Rattle.law_order.specs.Ordering.Places.{is_honest, leads_in, leads_at, leads, unsettled, released, released_at, over, onward_at, ways, amid}
use Rattle.law_order.specs.Ordering.Steps.{Grown}
use Rattle.law_order.proofs.Ordering.Amid.{Put, put_either}

-- the same place, or as P has it of the two
abbrev pub SameOr : (Place → Place → Type 0) → Place → Place → Type 0
SameOr P c d = (d ≡ c) ⊎ P c d

-- nothing was said of it
abbrev pub WasFree : Place → Place → Type 0
WasFree c d = c ≡ Free

-- it leads nowhere now
abbrev pub EndsNow : Place → Place → Type 0
EndsNow c d = d ≡ Nowhere

module _ (script : Script) (honest : ℕ → Bool) (v : ℕ) (s t : Vat Name) (leads_on : (x : Value Name) → leads_in script honest v t x ≡ leads_in script honest v s x) where
  module _ (vs : List (Vat Name)) (ls : List Link) where
    abbrev Before : List (Vat Name)
    Before = world.put_at v s vs

    abbrev After : List (Vat Name)
    After = world.put_at v t vs

    leads_by : (u : ℕ) (x : Value Name) → Put v s t vs u → leads_at script honest u (slice_get After u) x ≡ leads_at script honest u (slice_get Before u) x
    unfolding leads_at
    leads_by u x (inl h) = ap (λ o. leads_at script honest u o x) h.2 ∙ subst (λ z. leads_in script honest z t x ≡ leads_in script honest z s x) (sym h.0) (leads_on x) ∙ ap (λ o. leads_at script honest u o x) (sym h.1)
    leads_by u x (inr h) = ap (λ o. leads_at script honest u o x) h

    pub leads_same : (u : ℕ) (x : Value Name) → leads script honest After ls u x ≡ leads script honest Before ls u x
    unfolding leads
    leads_same u x = leads_by u x (put_either v s t vs u)

    unsettled_same : (u : ℕ) (q : Name) (gs : List (GiftEntry Name)) → unsettled script honest After ls u q gs ≡ unsettled script honest Before ls u q gs
    unfolding unsettled
    unsettled_same u (Gift h i) gs = refl
    unsettled_same u other gs = refl

    released_same : (u : ℕ) (q : Name) (gs : List (GiftEntry Name)) (z : Standing Name) → released script honest After ls u q gs z ≡ released script honest Before ls u q gs z
    unfolding released
    released_same u q gs Unsettled = unsettled_same u q gs
    released_same u q gs (WaitsOn z) = leads_same u (Ref z)
    released_same u q gs (Viewed z) = leads_same u (Ref z)
    released_same u q gs (Settled z) = leads_same u z

    released_vat : (u : ℕ) (q : Name) (o : Option (Vat Name)) → released_at script honest After ls u q o ≡ released_at script honest Before ls u q o
    unfolding released_at
    released_vat u q (Some r) = released_same u q r.gifts (standing_of (names script u) r.known q)
    released_vat u q None = refl

    over_same : (b : ℕ) (n : Name) (l : Link) → over script honest After ls b n l ≡ over script honest Before ls b n l
    unfolding over
    over_same b n l = ap (λ c. elim (is_honest script honest l) [ true ↦ elim l.cut [ true ↦ Nowhere | false ↦ c ] | false ↦ Free ]) (leads_same b (Ref n))

    link_same : (b : ℕ) (n : Name) (o : Option Link) → ◌≡◌ {A = Place} (elim o [ Some l ↦ over script honest After ls b n l | None ↦ Nowhere ]) (elim o [ Some l ↦ over script honest Before ls b n l | None ↦ Nowhere ])
    link_same b n (Some l) = over_same b n l
    link_same b n None = refl

    -- what each name of the vat holds goes where it went, or as P has it
    module _ (P : Place → Place → Type 0) (mine : slice_get Before v ≡ Some s → (q : Name) → SameOr P (released_at script honest Before ls v q (Some s)) (released_at script honest Before ls v q (Some t))) where
      abbrev Was : ℕ → Name → Option (Vat Name) → Place
      Was u q o = released_at script honest Before ls u q o

      released_by : (u : ℕ) (q : Name) → Put v s t vs u → SameOr P (Was u q (slice_get Before u)) (released_at script honest After ls u q (slice_get After u))
      released_by u q (inl h) = subst (λ c. SameOr P c (released_at script honest After ls u q (slice_get After u))) (sym (ap (λ o. Was u q o) h.1))
          (subst (λ d. SameOr P (Was u q (Some s)) d) (sym (released_vat u q (slice_get After u) ∙ ap (λ o. Was u q o) h.2))
          (subst (λ z. SameOr P (Was z q (Some s)) (Was z q (Some t))) (sym h.0) (mine (subst (λ z. slice_get Before z ≡ Some s) h.0 h.1) q)))
      released_by u q (inr h) = inl (released_vat u q (slice_get After u) ∙ ap (λ o. Was u q o) h)

      one_way : (u : ℕ) (q n : Name) (c d : Place) → SameOr P c d → (d ≡ c) ⊎ (IsOneWay (Held u q) × P c d)
      one_way u q n c d (inl e) = inl e
      one_way u q n c d (inr h) = inr (tt, h)

      pub onward_same_or : (l : Lane) (n : Name) → (onward_at script honest After ls l n ≡ onward_at script honest Before ls l n) ⊎ (IsOneWay l × P (onward_at script honest Before ls l n) (onward_at script honest After ls l n))
      unfolding onward_at
      onward_same_or (Queue u) n = inl refl
      onward_same_or (Held u q) n = one_way u q n (Was u q (slice_get Before u)) (released_at script honest After ls u q (slice_get After u)) (released_by u q (put_either v s t vs u))
      onward_same_or (Way a b) n = inl (link_same b n (world.link_at a b ls))

in_more : (i : Item) (is js : List Item) → IsIn i is → IsIn i (is ++ js)
in_more i [] js h = absurd h
in_more i (k ∷ is) js (inl e) = inl e
in_more i (k ∷ is) js (inr h) = inr (in_more i is js h)

-- where lanes lead where they led, or nothing was said of where, messages came to their ends alone, and references lead where they led
pub grown_by : (script : Script) (honest : ℕ → Bool) (w : World) (v : ℕ) (s t : Vat Name) → ((l : Lane) → More (ways script honest (amid v s w)) (ways script honest (amid v t w)) l)
    → ((u : ℕ) (x : Value Name) → leads script honest (amid v t w).vats (amid v t w).links u x ≡ leads script honest (amid v s w).vats (amid v s w).links u x)
    → ((l : Lane) (n : Name) → ((ways script honest (amid v t w)).onward l n ≡ (ways script honest (amid v s w)).onward l n) ⊎ (IsOneWay l × ((ways script honest (amid v s w)).onward l n ≡ Free))) → Grown script honest w v s t
grown_by script honest w v s t more leading onward = record {
  grows = record { stands = λ l i h. let m = more l in subst (IsIn i) (sym m.1) (in_more i ((ways script honest (amid v s w)).stands l) m.0 h); onward = onward };
  more = more;
  leading = leading;
}
