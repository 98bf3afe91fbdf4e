-- Where no view of a name settled to a list, what is followed to one settled to it.
use Rattle.std.proofs.Common.{◌≡◌, ℕ, zero, suc, Bool, true, false, List, length, refl, ap, ◌∙◌, codes}
use Rattle.def_machine.specs.Values.{Value, Broken, Items, Ref, Name, Object, Naming, Spot, Own, Foreign, NoObject}
use Rattle.def_machine.specs.State.{Known, Standing, Unsettled, WaitsOn, Viewed, Settled, Vat, is_in}
use Rattle.def_machine.specs.Refs as refs
use Rattle.def_machine.specs.Refs.{standing_of}
use Rattle.def_run.specs.World.{Script, names}
use Rattle.law_fate.specs.Fates.Lasting.{NoPromise, NamesObject}
use Rattle.law_order.specs.Ordering.Worlds.{IsObject}
use Rattle.law_order.specs.Sending.Came.{ViewsNoList}

-- No view settled to a list, a name settled to no promise, and no object is known.
pub record ViewsRest (script : Script) (v : ℕ) (ks : List (Known Name)) : Type 0 where
  pub views : (n g : Name) (k : ℕ) → standing_of (names script v) ks n ≡ Viewed g → standing_of (names script v) ks g ≡ Settled (Items k) → ⊥
  pub last : (n : Name) (y : Value Name) → standing_of (names script v) ks n ≡ Settled y → NoPromise y
  pub objects : (n : Name) → IsObject n → standing_of (names script v) ks n ≡ Unsettled

items_is : (j k : ℕ) → ◌≡◌ {A = Value Name} (Items j) (Items k) → j ≡ k
items_is j k e = cc

named_object : (n : Name) → NamesObject n → IsObject n
named_object (Object u i) h = tt
named_object other h = h

module _ (script : Script) (v : ℕ) (ks : List (Known Name)) (rest : ViewsRest script v ks) where
  abbrev K : Naming Name Name
  K = names script v

  unsettled_not : (n : Name) (k : ℕ) → standing_of K ks n ≡ Unsettled → standing_of K ks n ≡ Settled (Items k) → ⊥
  unsettled_not n k e f = cc

  settled_items : (d k : ℕ) (n : Name) (y : Value Name) → ((m : Name) → refs.follow_at K d ks (Ref m) ≡ Items k → standing_of K ks m ≡ Settled (Items k)) → standing_of K ks n ≡ Settled y → refs.follow_at K d ks y ≡ Items k → standing_of K ks n ≡ Settled (Items k)
  unfolding refs.follow_at
  settled_items d k n (Ref m) f e g = absurd (unsettled_not m k (rest.objects m (named_object m (rest.last n (Ref m) e))) (f m g))
  settled_items zero k n (Items j) f e g = e ∙ ap (λ i. Settled (Items i)) (items_is j k g)
  settled_items (suc d) k n (Items j) f e g = e ∙ ap (λ i. Settled (Items i)) (items_is j k g)
  settled_items zero k n other f e g = absurd (cc)
  settled_items (suc d) k n other f e g = absurd (cc)

  followed : (d k : ℕ) (n : Name) → refs.follow_at K d ks (Ref n) ≡ Items k → standing_of K ks n ≡ Settled (Items k)
  unfolding refs.follow_at refs.led
  followed zero k n e = absurd (cc)
  followed (suc d) k n e = go (standing_of K ks n) refl (λ m. followed d k m) e
    where
      go : (t : Standing Name) → standing_of K ks n ≡ t → ((m : Name) → refs.follow_at K d ks (Ref m) ≡ Items k → standing_of K ks m ≡ Settled (Items k)) → refs.led K (λ y. refs.follow_at K d ks y) n t ≡ Items k → standing_of K ks n ≡ Settled (Items k)
      go (Settled y) i f g = settled_items d k n y f i g
      go (Viewed q) i f g = absurd (rest.views n q k i (f q g))
      go (WaitsOn q) i f g = absurd (cc)
      go Unsettled i f g = absurd (cc)

severed_items : (script : Script) (v : ℕ) (s : Vat Name) (k : ℕ) (y : Value Name) → refs.severed (names script v) s y ≡ Items k → y ≡ Items k
unfolding refs.severed refs.severed_at refs.severed_by
severed_items script v s k (Ref m) e = by_spot ((names script v).spot m) e
  where
    by_host : (b : Bool) → ◌≡◌ {A = Value Name} (elim b [ true ↦ Broken (codes "partition") | false ↦ Ref m ]) (Items k) → ◌≡◌ {A = Value Name} (Ref m) (Items k)
    by_host true f = absurd (cc)
    by_host false f = f

    by_spot : (p : Spot) → refs.severed_at (names script v) s m p ≡ Items k → ◌≡◌ {A = Value Name} (Ref m) (Items k)
    by_spot (Own i) f = f
    by_spot (Foreign h) f = by_host (is_in h s.noticed) f
    by_spot NoObject f = by_host (is_in (refs.host_at (names script v) s.number s.known m) s.noticed) f
severed_items script v s k other e = e

pub views_no_list : (script : Script) (v : ℕ) (s : Vat Name) → ViewsRest script v s.known → ViewsNoList script v s
unfolding refs.follow
views_no_list script v s rest n k e = followed script v s.known rest (suc (length s.known)) k n (severed_items script v s k (refs.follow_at (names script v) (suc (length s.known)) s.known (Ref n)) e)
