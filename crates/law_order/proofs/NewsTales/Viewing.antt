-- A name that comes to have a gift as its view leads to no lane in which a message stands.
use Rattle.std.proofs.Common.{◌≡◌, ℕ, Bool, true, false, [], Some, None, refl, sym, ap, ◌∙◌, ◌⊎◌, inl, inr}
use Rattle.std.specs.Prelude.{slice_get, ◌==◌, ◌&&◌}
use Rattle.def_machine.specs.Values.{Value, Ref, Name, Naming, same_name}
use Rattle.def_machine.specs.State.{Vat}
use Rattle.def_machine.specs.Refs as refs
use Rattle.def_machine.specs.Refs.{Near, Mine, Away, Gone, entry_of}
use Rattle.def_run.specs.World.{Script, World, names}
use Rattle.law_order.specs.Ordering.Ways.{Lane, Queue, Held, Way, Item, IsIn, Place, End}
use Rattle.law_order.specs.Ordering.Places.{held_in, aimed, stands_at, ways_of, ways, amid}
use Rattle.law_order.specs.Ordering.Settle.{aimed_at}
use Rattle.law_order.specs.Ordering.Steps.{WaysAmid, LeadsAmid, Grown}
use Rattle.law_order.proofs.Ordering.Sends.{get_put}
use Rattle.law_order.specs.Arrivals.Tellings.{owned, IsTidy, IsToldOf, told_by}
use Rattle.law_order.proofs.Arrivals.Tidy.{items_good}
use Rattle.law_order.proofs.Arrivals.Telling.{told_names_lead}
use Rattle.law_order.proofs.News.Opening.{mine_is, severed_is}
use Rattle.law_order.specs.Tales.Middle.{MovesNone}

-- where all is tidy what stands on links is the receiver's own
pub stands_good : (script : Script) (honest : ℕ → Bool) (w : World) (v : ℕ) (s : Vat Name) → IsTidy script honest w v s → (l : Lane) (i : Item) → IsIn i ((WaysAmid script honest w v s).stands l) → owned l i.aim ≡ true
unfolding ways ways_of
stands_good script honest w v s h l i k = items_good script honest (amid v s w).vats (amid v s w).links h.hosts h.links l i k

-- each place stays, or what was to go out on the name goes there
pub told_either : (v : ℕ) (n : Name) (e c : Place) → (told_by v n e c ≡ c) ⊎ (told_by v n e c ≡ e)
unfolding told_by
told_either v n e (End (Way a b) m) = go ((a == v) && same_name m n)
  where
    go : (q : Bool) → (elim q [ true ↦ e | false ↦ End (Way a b) m ] ≡ End (Way a b) m) ⊎ (elim q [ true ↦ e | false ↦ End (Way a b) m ] ≡ e)
    go true = inr refl
    go false = inl refl
told_either v n e (End (Queue u) m) = inl refl
told_either v n e (End (Held u q) m) = inl refl
told_either v n e other = inl refl

-- where it leads to a held lane the place is that name
pub aimed_held : (v u : ℕ) (z : Value Name) (q : refs.Place Name) (p m : Name) → aimed v z q ≡ End (Held u p) m → (q ≡ Mine p) × (u ≡ v)
unfolding aimed
aimed_held v u (Ref n) Near p m e = cc
aimed_held v u z (Mine n) p m e = let a : n ≡ p = cc in let b : v ≡ u = cc in (ap Mine a, sym b)
aimed_held v u z (Away h n o) p m e = cc
aimed_held v u z (Gone t) p m e = cc
aimed_held v u other Near p m e = cc

module _ (script : Script) (honest : ℕ → Bool) (w : World) (v h : ℕ) (r s a t : Vat Name) (n q : Name) (at : slice_get w.vats v ≡ Some r) where
  abbrev K : Naming Name Name
  K = names script v

  -- where the view leads
  abbrev E : Place
  E = aimed_at script v t (Ref q)

  -- the gift is new, and holds nothing
  held_none : entry_of K s.known q ≡ None → MovesNone K s t → (WaysAmid script honest w v t).stands (Held v q) ≡ []
  unfolding ways ways_of stands_at amid held_in
  held_none new moves = ap (λ o. elim o [ Some z ↦ held_in q (entry_of K z.known q) | None ↦ [] ]) (get_put w.vats v r t at) ∙ moves.held q ∙ ap (λ o. held_in q o) new

  aims_there : (u : ℕ) (p m : Name) → aimed_at script v t (Ref q) ≡ End (Held u p) m → (p ≡ q) × (u ≡ v)
  unfolding aimed_at
  aims_there u p m e = let z : Value Name = refs.severed K t (Ref q) in let g = aimed_held v u z (refs.place K t z) p m e in
      let is : z ≡ Ref p = mine_is K t p z g.0 in let same : Ref q ≡ Ref p = severed_is K t p (Ref q) is in (name_same same, g.1)
    where
      name_same : {x y : Name} → ◌≡◌ {A = Value Name} (Ref x) (Ref y) → y ≡ x
      name_same f = cc

  pub viewed_leading : Grown script honest w v s a → IsTidy script honest w v a → IsToldOf script v h a t n (Ref q) → entry_of K s.known q ≡ None → MovesNone K s t
      → (u : ℕ) (m : Name) → (LeadsAmid script honest w v t u (Ref m) ≡ LeadsAmid script honest w v s u (Ref m)) ⊎ ((p z : Name) → LeadsAmid script honest w v t u (Ref m) ≡ End (Held u p) z → (WaysAmid script honest w v t).stands (Held u p) ≡ [])
  viewed_leading grown tidy told new moves u m = go (told_either v n E (LeadsAmid script honest w v a u (Ref m)))
    where
      leads : LeadsAmid script honest w v t u (Ref m) ≡ told_by v n E (LeadsAmid script honest w v a u (Ref m))
      leads = told_names_lead script honest w v h r a t n (Ref q) at tidy told u (Ref m)

      empty : (p z : Name) → E ≡ End (Held u p) z → (WaysAmid script honest w v t).stands (Held u p) ≡ []
      empty p z e = let g = aims_there u p z e in ap (λ x. (WaysAmid script honest w v t).stands (Held x p)) g.1 ∙ ap (λ x. (WaysAmid script honest w v t).stands (Held v x)) g.0 ∙ held_none new moves

      go : (told_by v n E (LeadsAmid script honest w v a u (Ref m)) ≡ LeadsAmid script honest w v a u (Ref m)) ⊎ (told_by v n E (LeadsAmid script honest w v a u (Ref m)) ≡ E)
          → (LeadsAmid script honest w v t u (Ref m) ≡ LeadsAmid script honest w v s u (Ref m)) ⊎ ((p z : Name) → LeadsAmid script honest w v t u (Ref m) ≡ End (Held u p) z → (WaysAmid script honest w v t).stands (Held u p) ≡ [])
      go (inl e) = inl (leads ∙ e ∙ grown.leading u (Ref m))
      go (inr e) = inr (λ p z f. empty p z (sym (leads ∙ e) ∙ f))
