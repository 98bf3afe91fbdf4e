-- What is asked of a vat holds of it read so, and of it as it is then.
use Rattle.std.proofs.Common.{◌≡◌, ℕ, suc, Bool, List, [], Some, length, refl, sym, ap, subst, ◌∙◌, ◌⊎◌, inl, inr}
use Rattle.std.proofs.lemmas.List.{append-nil}
use Rattle.std.specs.Prelude.{slice_get}
use Rattle.def_machine.specs.Values.{Value, Items, Ref, Name, Naming, Foreign}
use Rattle.def_machine.specs.State.{Message, WaitsOn, Known, Vat}
use Rattle.def_machine.specs.Refs as refs
use Rattle.def_machine.specs.Refs.{entry_of}
use Rattle.def_run.specs.World.{Script, Event, World, names}
use Rattle.law_fate.specs.Name.Names.{IsAmong}
use Rattle.law_order.specs.Ordering.Ways.{Lane, Way, Place, End}
use Rattle.law_order.specs.Ordering.Settle.{passed_by}
use Rattle.law_order.specs.Ordering.Steps.{LeadsAmid, IsHeld}
use Rattle.law_order.specs.Ordering.Worlds.{IsObject, IsKnown}
use Rattle.law_order.proofs.Views.Quiet.{is_name}
use Rattle.law_order.specs.Tales.Middle.{middle}
use Rattle.law_order.proofs.Settling.Block.{unsevered, severed_list, Passes, stays, went, passes_by}
use Rattle.law_order.proofs.Settling.Later.{NotHeld, Leading, as_it_led, elsewhere, Later, WasHeld, Reacted}
use Rattle.law_order.proofs.Settling.Put.{put_known}
use Rattle.law_order.proofs.Settling.Read.{Real, others, seen, same_length, meets, leads_read, known_back, object_leads}

module _ (script : Script) (honest : ℕ → Bool) (w : World) (v h : ℕ) (head : List Event) (L : Type 0) (r : Vat Name) (at : slice_get w.vats v ≡ Some r) (p n : Name) (k : Known Name) (far : (names script v).spot n ≡ Foreign h) (object : IsObject n) (plain : IsObject p → ⊥) (named : k.name ≡ p) (hosted : k.host ≡ v)
    (ms : List (Message Name)) (u : Vat Name) (g : Real script honest w v h r at p n k far object plain named hosted u) where
  abbrev K : Naming Name Name
  K = names script v

  abbrev V : Vat Name
  V = record u { known = put_known K p (record k { standing = WaitsOn n; held = ms }) u.known }

  abbrev E : Place
  E = End (Way v h) n

  seen_known : (m : Name) → IsKnown K u m → IsKnown K V m
  seen_known m i = go (is_name m p)
    where
      go : (m ≡ p) ⊎ (m ≡ p → ⊥) → IsKnown K V m
      go (inl e) = (record k { standing = WaitsOn n; held = ms }, ap (entry_of K V.known) e ∙ seen script honest w v h r at p n k far object plain named hosted ms u g)
      go (inr f) = (i.0, others script honest w v h r at p n k far object plain named hosted ms u g m f ∙ i.1)

  held_back : (x : Value Name) → IsHeld script honest w v u x → IsHeld script honest w v V x
  held_back (Ref m) (inl i) = inl i
  held_back (Ref m) (inr i) = inr (seen_known m i)
  held_back other i = tt

  lead_by : (x : Value Name) → IsHeld script honest w v u x → (d : Place) → LeadsAmid script honest w v u v x ≡ d → Passes v p E (LeadsAmid script honest w v V v x) d → Leading script honest w v head V u x
  lead_by x i d e (stays j) = as_it_led (held_back x i) (e ∙ j)
  lead_by x i d e (went o j l) = elsewhere (Ref n) (inl object) (subst NotHeld (sym (e ∙ l)) tt) (λ a m f. (n, object_leads script honest w v h r at p n k far object plain named hosted ms u g ∙ ap (λ z. End z n) (one_way a m (sym (e ∙ l) ∙ f))))
    where
      way_of : Place → Lane
      way_of (End q z) = q
      way_of other = Way v h

      one_way : (a : ℕ) (m : Name) → End (Way v h) n ≡ End (Way v a) m → Way v h ≡ Way v a
      one_way a m f = ap way_of f

  some_same : (a b : Known Name) → Some a ≡ Some b → a ≡ b
  some_same a b e = cc

  none_among : (ms : List (Message Name)) (m : Message Name) → ms ≡ [] → IsAmong m ms → ⊥
  none_among ms m e i = subst (IsAmong m) e i

  was_held : (m : Name) (j : Known Name) → entry_of K u.known m ≡ Some j → (x : Message Name) → IsAmong x j.held → WasHeld script honest w v head V m x
  was_held m j e x i = go (is_name m p)
    where
      go : (m ≡ p) ⊎ (m ≡ p → ⊥) → WasHeld script honest w v head V m x
      go (inl f) = absurd (none_among j.held x (ap (λ (z : Known Name). z.held) (some_same j g.known (sym e ∙ ap (entry_of K u.known) f ∙ g.found)) ∙ g.nothing) i)
      go (inr f) = record { known = j; found = others script honest w v h r at p n k far object plain named hosted ms u g m f ∙ e; among = i }

  reacted : (m : Name) (j : Known Name) → entry_of K u.known m ≡ Some j → (x : Message Name) → IsAmong x j.reactions → Reacted script honest w v head V m x
  reacted m j e x i = go (is_name m p)
    where
      go : (m ≡ p) ⊎ (m ≡ p → ⊥) → Reacted script honest w v head V m x
      go (inl f) = absurd (none_among j.reactions x (ap (λ (z : Known Name). z.reactions) (some_same j g.known (sym e ∙ ap (entry_of K u.known) f ∙ g.found)) ∙ g.calm) i)
      go (inr f) = record { known = j; found = others script honest w v h r at p n k far object plain named hosted ms u g m f ∙ e; among = i }

  -- no list is followed to but so
  lists_meet : (x y z : Value Name) (j : ℕ) → (x ≡ y) ⊎ ((x ≡ Ref p) × (y ≡ Ref n)) → y ≡ Items j → x ≡ Items j
  lists_meet x y z j (inl e) f = e ∙ f
  lists_meet x y z j (inr e) f = absurd (apart (sym e.1 ∙ f))
    where
      apart : Ref n ≡ Items j → ⊥
      apart i = cc

  lists_seen : (x : Value Name) (j : ℕ) → refs.follow K u x ≡ Items j → refs.follow K V x ≡ Items j
  unfolding refs.follow
  lists_seen x j e = ap (refs.severed K V) (lists_meet (refs.follow_at K (suc (length V.known)) V.known x) (refs.follow_at K (suc (length V.known)) u.known x) x j (meets script honest w v h r at p n k far object plain named hosted ms u g (suc (length V.known)) x)
      (ap (λ d. refs.follow_at K (suc d) u.known x) (same_length script honest w v h r at p n k far object plain named hosted ms u g) ∙ unsevered K u (refs.follow_at K (suc (length u.known)) u.known x) j e)) ∙ severed_list K V j

  -- From the vat so read to the vat as it is.
  pub real_later : Later script honest w v head L V u
  real_later = record {
    ready = λ q. g.ready;
    leading = λ x i. lead_by x i (passed_by v p E (LeadsAmid script honest w v V v x)) (leads_read script honest w v h r at p n k far object plain named hosted ms u g v x) (passes_by v p E (LeadsAmid script honest w v V v x));
    undrawn = λ x e. e;
    told = [];
    story = sym (append-nil (middle w v head V).history);
    quiet = tt;
    known = λ m i. known_back script honest w v h r at p n k far object plain named hosted ms u g m i;
    lists = refl;
    follows = λ l x j e. lists_seen x j e;
    held = was_held;
    reacts = reacted;
  }
