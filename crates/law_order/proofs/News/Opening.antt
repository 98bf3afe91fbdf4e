-- A note that opens a gift arrives, whose gift stands there and was not opened: what counts as opened then, and where the note's name leads.
use Rattle.std.proofs.Common.{◌≡◌, ℕ, Bool, true, false, List, [], ◌∷◌, Some, refl, ap, ◌∙◌}
use Rattle.std.specs.Prelude.{codes, ◌==◌, ◌&&◌, ◌||◌}
use Rattle.def_machine.specs.Values.{Value, Broken, Ref, Name, Object, Naming, Spot, Own, Foreign, NoObject, naming, spot_of, same_name}
use Rattle.def_machine.specs.State.{Known, Standing, Unsettled, WaitsOn, WaitOn, GiftEntry, Vat, changed, changed_to, unless_settled, is_in, with_opened, is_gift}
use Rattle.def_machine.specs.Refs as refs
use Rattle.def_machine.specs.Refs.{Mine, Away}
use Rattle.def_machine.specs.Arrive.{gift_at}
use Rattle.def_run.specs.World.{Script, names}
use Rattle.law_order.specs.Ordering.Places.{opened_there}
use Rattle.law_order.specs.Ordering.Worlds.{IsObject}
use Rattle.law_order.proofs.Ordering.Named.{same_self}
use Rattle.law_order.proofs.Ordering.Opened as opened
use Rattle.law_order.proofs.Ordering.Sends.{some_same, none_some}
use Rattle.law_order.specs.News.Opens.{WaitsAt, at_home, abroad}

-- ---- a name that waits

module _ (K : Naming Name Name) (s : Vat Name) (q : Name) where
  spotted_mine : (m : Name) (p : Spot) → refs.spotted K s m p ≡ Mine q → m ≡ q
  unfolding refs.spotted refs.hosted
  spotted_mine m NoObject e = go (s.number == refs.host_at K s.number s.known m) e
    where
      go : (c : Bool) → elim c [ true ↦ Mine m | false ↦ Away (refs.host_at K s.number s.known m) m false ] ≡ Mine q → m ≡ q
      go true f = cc
      go false f = cc
  spotted_mine m other e = cc

  pub mine_is : (z : Value Name) → refs.place K s z ≡ Mine q → z ≡ Ref q
  unfolding refs.place
  mine_is (Ref m) e = ap Ref (spotted_mine m (K.spot m) e)
  mine_is (Broken p) e = cc
  mine_is other e = cc

  spotted_away : (h : ℕ) (m : Name) (p : Spot) → refs.spotted K s m p ≡ Away h q false → m ≡ q
  unfolding refs.spotted refs.hosted
  spotted_away h m NoObject e = go (s.number == refs.host_at K s.number s.known m) e
    where
      go : (c : Bool) → elim c [ true ↦ Mine m | false ↦ Away (refs.host_at K s.number s.known m) m false ] ≡ Away h q false → m ≡ q
      go true f = cc
      go false f = cc
  spotted_away h m other e = cc

  away_is : (h : ℕ) (z : Value Name) → refs.place K s z ≡ Away h q false → z ≡ Ref q
  unfolding refs.place
  away_is h (Ref m) e = ap Ref (spotted_away h m (K.spot m) e)
  away_is h (Broken p) e = cc
  away_is h other e = cc

  pub waits_is : (z : Value Name) (p : refs.Place Name) → refs.place K s z ≡ p → WaitsAt q p → z ≡ Ref q
  waits_is z p e at_home = mine_is z e
  waits_is z p e (abroad {h = h}) = away_is h z e

  severed_by_is : (h : ℕ) (m : Name) → refs.severed_by K h s m ≡ Ref q → m ≡ q
  unfolding refs.severed_by
  severed_by_is h m e = go (is_in h s.noticed) e
    where
      go : (c : Bool) → elim c [ true ↦ Broken (codes "partition") | false ↦ Ref m ] ≡ Ref q → m ≡ q
      go true f = cc
      go false f = cc

  spot_is : (m : Name) (p : Spot) → refs.severed_at K s m p ≡ Ref q → m ≡ q
  unfolding refs.severed_at
  spot_is m (Own j) e = cc
  spot_is m (Foreign g) e = severed_by_is g m e
  spot_is m NoObject e = severed_by_is (refs.host_at K s.number s.known m) m e

  pub severed_is : (z : Value Name) → refs.severed K s z ≡ Ref q → z ≡ Ref q
  unfolding refs.severed
  severed_is (Ref m) e = ap Ref (spot_is m (K.spot m) e)
  severed_is other e = e

-- it is no object
pub no_object : (script : Script) (b : ℕ) (s : Vat Name) (m q : Name) → IsObject m → refs.place (names script b) s (Ref m) ≡ Mine q → ⊥
unfolding refs.place refs.spotted names naming spot_of
no_object script b s (Object g j) q p e = go (b == g) e
  where
    go : (c : Bool) → refs.spotted (names script b) s (Object g j) (elim c [ true ↦ Own j | false ↦ Foreign g ]) ≡ Mine q → ⊥
    go true f = cc
    go false f = cc
no_object script b s other q p e = absurd p

pub no_waiting_object : (script : Script) (b : ℕ) (s : Vat Name) (m q : Name) (p : refs.Place Name) → IsObject m → refs.place (names script b) s (Ref m) ≡ p → WaitsAt q p → ⊥
unfolding refs.place refs.spotted names naming spot_of
no_waiting_object script b s m q p i e at_home = no_object script b s m q i e
no_waiting_object script b s (Object g j) q p i e (abroad {h = h}) = go (b == g) e
  where
    go : (c : Bool) → refs.spotted (names script b) s (Object g j) (elim c [ true ↦ Own j | false ↦ Foreign g ]) ≡ Away h q false → ⊥
    go true f = cc
    go false f = cc
no_waiting_object script b s other q p i e (abroad {h = h}) = absurd i

-- the gift counts as opened
pub opened_now : (a i : ℕ) (g : Name) (gs : List (GiftEntry Name)) (e : GiftEntry Name) → gift_at a i gs ≡ Some e → e.name ≡ g → opened_there g (with_opened a i gs) ≡ true
unfolding gift_at with_opened opened_there
opened_now a i g [] e f h = none_some e f
opened_now a i g (x ∷ gs) e f h = go (λ q. opened_now a i g gs e q h) (is_gift a i x) f
  where
    either : (c d : Bool) → d ≡ true → (c || d) ≡ true
    either true d j = refl
    either false d j = j

    first : (c d : Bool) → c ≡ true → ((c && true) || d) ≡ true
    first true d j = refl
    first false d j = cc

    go : (gift_at a i gs ≡ Some e → opened_there g (with_opened a i gs) ≡ true) → (c : Bool) → elim c [ true ↦ Some x | false ↦ gift_at a i gs ] ≡ Some e
        → opened_there g (elim c [ true ↦ record x { opened = true } ∷ gs | false ↦ x ∷ with_opened a i gs ]) ≡ true
    go r true q = first (same_name x.name g) (opened_there g gs) (ap (λ z. same_name z g) (ap (λ (y : GiftEntry Name). y.name) (some_same x e q) ∙ h) ∙ same_self g)
    go r false q = either (same_name x.name g && x.opened) (opened_there g (with_opened a i gs)) (r q)

waits_by : (q : Name) (t : Standing Name) (j : Known Name) → t ≡ Unsettled → unless_settled t j (record j { standing = WaitsOn q }) ≡ record j { standing = WaitsOn q }
unfolding unless_settled
waits_by q t j e = ap (λ u. unless_settled u j (record j { standing = WaitsOn q })) e

-- a name that was unsettled waits
pub waits_now : (q : Name) (j : Known Name) → j.standing ≡ Unsettled → changed (WaitOn q) j ≡ record j { standing = WaitsOn q }
unfolding changed changed_to
waits_now q j e = waits_by q j.standing j e
