-- A name that holds nothing, read as though it waited on an object of another vat, settles to that: a small step.
use Rattle.std.proofs.Common.{◌≡◌, ℕ, Bool, true, false, List, [], ◌∷◌, ◌++◌, Option, Some, None, refl, sym, ap, subst, ◌∙◌, ◌⊎◌, inl, inr}
use Rattle.std.proofs.lemmas.List.{append-nil}
use Rattle.std.specs.Prelude.{slice_get}
use Rattle.def_machine.specs.Values.{Value, Ref, Name, Naming, Foreign}
use Rattle.def_machine.specs.State.{WaitsOn, Known, Vat}
use Rattle.def_machine.specs.Refs.{entry_of}
use Rattle.def_run.specs.World.{Script, Event, World, names}
use Rattle.law_order.specs.Ordering.Ways.{Lane, Queue, Held, Way, Item, Place, End, Mid, Ways, IsIn, Ahead}
use Rattle.law_order.specs.Ordering.Turns.{Reroutes, stays_so}
use Rattle.law_order.specs.Ordering.Places.{item, queued, held_on, held_in, stands_at, ways_of, ways, amid}
use Rattle.law_order.specs.Ordering.Settle.{IsReady, KeepsBy, SentOn, passed_by, led_to, emptied, onward_to, without}
use Rattle.law_order.specs.Ordering.Steps.{WaysAmid, LeadsAmid}
use Rattle.law_order.specs.Ordering.Worlds.{IsObject}
use Rattle.law_order.proofs.Ordering.Lanes.{Same, same_lane, held_one}
use Rattle.law_order.proofs.Ordering.Named.{Test, test_self, passes_mid}
use Rattle.law_order.proofs.Ordering.Sends.{get_put}
use Rattle.law_order.proofs.Ordering.Settling.{settling_keeps}
use Rattle.law_order.specs.History.Tells.{SmallStep}
use Rattle.law_order.specs.Tales.Middle.{middle}
use Rattle.law_order.proofs.Tales.Middle.{at_vat}
use Rattle.law_order.proofs.Settling.Block.{Passes, stays, went, passes_by}
use Rattle.law_order.proofs.Settling.Later.{NotHeld}
use Rattle.law_order.proofs.Settling.LetsGo.{LetsGo, lets_go_small}
use Rattle.law_order.proofs.Settling.Put.{put_known}
use Rattle.law_order.proofs.Settling.Read.{Real, others, seen, leads_read, onward_read, settles_read, aims}

module _ (script : Script) (honest : ℕ → Bool) (w : World) (v h : ℕ) (head : List Event) (r : Vat Name) (at : slice_get w.vats v ≡ Some r) (p n : Name) (k : Known Name) (far : (names script v).spot n ≡ Foreign h) (object : IsObject n) (plain : IsObject p → ⊥) (named : k.name ≡ p) (hosted : k.host ≡ v)
    (u : Vat Name) (g : Real script honest w v h r at p n k far object plain named hosted u) (empty : g.known.held ≡ []) where
  abbrev K : Naming Name Name
  K = names script v

  abbrev V : Vat Name
  V = record u { known = put_known K p (record k { standing = WaitsOn n; held = [] }) u.known }

  abbrev W : Vat Name → Ways
  W t = WaysAmid script honest w v t

  abbrev E : Place
  E = End (Way v h) n

  leads_now : (a : ℕ) (x : Value Name) → LeadsAmid script honest w v u a x ≡ passed_by v p E (LeadsAmid script honest w v V a x)
  leads_now a x = leads_read script honest w v h r at p n k far object plain named hosted [] u g a x

  nothing_held : (o : Option (Known Name)) (j : Known Name) → o ≡ Some j → j.held ≡ [] → held_in p o ≡ []
  unfolding held_in held_on
  nothing_held o j e f = ap (held_in p) e ∙ ap (held_on p) f

  none_before : (W V).stands (Held v p) ≡ []
  unfolding ways ways_of amid stands_at
  none_before = ap (λ o. elim o [ Some x ↦ held_in p (entry_of K x.known p) | None ↦ [] ]) (get_put w.vats v r V at) ∙ nothing_held (entry_of K V.known p) (record k { standing = WaitsOn n; held = [] }) (seen script honest w v h r at p n k far object plain named hosted [] u g) refl

  none_after : (W u).stands (Held v p) ≡ []
  unfolding ways ways_of amid stands_at
  none_after = ap (λ o. elim o [ Some x ↦ held_in p (entry_of K x.known p) | None ↦ [] ]) (get_put w.vats v r u at) ∙ nothing_held (entry_of K u.known p) g.known g.found empty

  -- ---- what stands where

  held_other : (a : ℕ) (m : Name) → (Held a m ≡ Held v p → ⊥) → (W u).stands (Held a m) ≡ (W V).stands (Held a m)
  unfolding ways ways_of amid stands_at
  held_other a m f = at_vat (λ x. held_in m (entry_of (names script a) x.known m)) [] v a V u w.vats
      (λ e. subst (λ z. held_in m (entry_of (names script z) u.known m) ≡ held_in m (entry_of (names script z) V.known m)) (sym e) (ap (held_in m) (sym (others script honest w v h r at p n k far object plain named hosted [] u g m (λ i. f (ap (λ z. Held z m) e ∙ ap (λ z. Held v z) i))))))

  stand_same : (l : Lane) → (W u).stands l ≡ (W V).stands l
  unfolding ways ways_of amid stands_at
  stand_same (Queue a) = at_vat (λ x. queued x.queue) [] v a V u w.vats (λ e. refl)
  stand_same (Held a m) = go (same_lane (Held a m) (Held v p))
    where
      go : Same (Held a m) (Held v p) → (W u).stands (Held a m) ≡ (W V).stands (Held a m)
      go (inl e) = subst (λ l. (W u).stands l ≡ (W V).stands l) (sym e) (none_after ∙ sym none_before)
      go (inr f) = held_other a m f
  stand_same (Way a b) = refl

  -- ---- what is ahead

  is_ready : IsReady (W V) v p E
  is_ready o = subst (λ c. Reroutes (W V) (led_to (W V) v p E) c E) (sym (onward_read script honest w v h r at p n k far object plain named hosted [] u g o)) stays_so

  none_in : (i : Item) → IsIn i ((W V).stands (Held v p)) → ⊥
  none_in i j = subst (IsIn i) none_before j

  left : (l : Lane) (i : Item) → IsIn i ((W V).stands l) → IsIn i (without (W V).stands v p l)
  unfolding without
  left (Held a m) i j = go (Test v p a m) refl
    where
      go : (c : Bool) → Test v p a m ≡ c → IsIn i (elim c [ true ↦ [] | false ↦ (W V).stands (Held a m) ])
      go true e = none_in i (subst (λ l. IsIn i ((W V).stands l)) (held_one a v m p e) j)
      go false e = j
  left other i j = j

  leads_to : (o : Name) → onward_to (W V).onward v p E (Held v p) o ≡ E
  unfolding onward_to
  leads_to o = ap (λ c. elim c [ true ↦ E | false ↦ (W V).onward (Held v p) o ]) (test_self v p)

  sent_on : SentOn (led_to (W V) v p E) (emptied (led_to (W V) v p E) v p) v p E
  unfolding led_to emptied
  sent_on = record { leads = λ o. leads_to o; lanes = λ l o. inl refl; stands = λ l i j. inl (left l i j) }

  keeps : KeepsBy (W V) (W u) (passed_by v p E)
  keeps = subst (λ c. IsReady (W V) v p c → SentOn (led_to (W V) v p c) (emptied (led_to (W V) v p c) v p) v p c → KeepsBy (W V) (W u) (passed_by v p c)) (aims script honest w v h r at p n k far object plain named hosted [] u g)
      (λ a b. settling_keeps script honest w v r V V u p (Ref n) at (settles_read script honest w v h r at p n k far object plain named hosted [] u g) a b) is_ready sent_on

  -- ---- the step

  lead_by : (a : ℕ) (m : Name) (d : Place) → LeadsAmid script honest w v u a (Ref m) ≡ d → Passes v p E (LeadsAmid script honest w v V a (Ref m)) d
      → (LeadsAmid script honest w v u a (Ref m) ≡ LeadsAmid script honest w v V a (Ref m)) ⊎ ((o : Name) × (LeadsAmid script honest w v V a (Ref m) ≡ End (Held v p) o) × NotHeld (LeadsAmid script honest w v u a (Ref m)))
  lead_by a m d e (stays i) = inl (e ∙ i)
  lead_by a m d e (went o i j) = inr (o, i, subst NotHeld (sym (e ∙ j)) tt)

  nothing_at : (b c : List Item) (i : Item) → [] ≡ b ++ i ∷ c → ⊥
  nothing_at [] c i e = cc
  nothing_at (j ∷ b) c i e = cc

  lets_go : LetsGo script honest (middle w v head V) (middle w v head u) v p
  unfolding ways amid
  lets_go = record {
    told = [];
    lines = sym (append-nil (middle w v head V).history);
    quiet = tt;
    leading = λ a m. lead_by a m (passed_by v p E (LeadsAmid script honest w v V a (Ref m))) (leads_now a (Ref m)) (passes_by v p E (LeadsAmid script honest w v V a (Ref m)));
    references = λ a m x i. subst (Ahead (W u) x) (sym (leads_now a (Ref m))) ((keeps (LeadsAmid script honest w v V a (Ref m))).1 x i);
    places = λ l b m x i. subst (Ahead (W u) x) (passes_mid v p E l b m) ((keeps (Mid l b m)).1 x i);
    empty = λ m b o i. nothing_at b i.behind (item m o) (sym none_after ∙ i.found);
    stands = λ m l b o i. inl (record { behind = i.behind; found = sym (stand_same l) ∙ i.found });
    holds = λ a q m b o i. record { behind = i.behind; found = sym (stand_same (Held a q)) ∙ i.found };
    brought = λ a b front d o ys i. record { before = front; brings = record { link = i.link; found = i.found; verb = i.verb; rest = i.rest; notes = i.notes }; behind = refl };
  }

  pub last_small : SmallStep script honest (middle w v head V) (middle w v head u)
  last_small = lets_go_small script honest (middle w v head V) (middle w v head u) v p lets_go
