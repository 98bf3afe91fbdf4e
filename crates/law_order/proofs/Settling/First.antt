-- A name settles to an object of another vat: read as though it waited on that and held what it held, that is a small step; and so is that it settles, where it holds nothing.
use Rattle.std.proofs.Common.{◌≡◌, ℕ, Bool, true, false, List, [], ◌∷◌, ◌++◌, Some, refl, sym, ap, subst, ◌∙◌, ◌⊎◌, inl, inr}
use Rattle.std.specs.Prelude.{slice_get}
use Rattle.def_machine.specs.Values.{Value, Ref, Name, Naming, Foreign}
use Rattle.def_machine.specs.State.{Message, WaitsOn, Settle, Known, Settles, Vat}
use Rattle.def_machine.specs.Refs.{entry_of}
use Rattle.def_run.specs.World.{Script, Event, World, names, events_of}
use Rattle.law_fate.specs.Name.Names.{IsAmong}
use Rattle.law_order.specs.Ordering.Ways.{Lane, Queue, Held, Way, Place, End, Mid, Ways, IsIn, Ahead}
use Rattle.law_order.specs.Ordering.Changes.{Grows}
use Rattle.law_order.specs.Ordering.Places.{queued, held_in, stands_at, ways_of, ways, amid}
use Rattle.law_order.specs.Ordering.Settle.{IsReady, led_to, onward_to, settled_to}
use Rattle.law_order.specs.Ordering.Settlings.{with_line}
use Rattle.law_order.specs.Ordering.Steps.{WaysAmid, LeadsAmid, IsHeld}
use Rattle.law_order.specs.Ordering.Worlds.{IsObject, IsKnown, IsWaiting}
use Rattle.law_order.proofs.Ordering.Changes.{growing_keeps}
use Rattle.law_order.proofs.Ordering.Entries.{Differs, as_it_was, changes, differs, same_length}
use Rattle.law_order.proofs.Ordering.Lanes.{Same, same_lane, held_one, held_apart}
use Rattle.law_order.proofs.Ordering.Named.{Test}
use Rattle.law_order.proofs.Ordering.Settling.{starting_keeps}
use Rattle.law_order.proofs.Views.Quiet.{is_name}
use Rattle.law_order.proofs.Views.Settling.{IsOpen}
use Rattle.law_order.specs.History.Tells.{SmallStep}
use Rattle.law_order.specs.Tales.Middle.{middle}
use Rattle.law_order.proofs.Tales.Middle.{at_vat, events_quiet}
use Rattle.law_order.proofs.Tales.Resting.{resting}
use Rattle.law_order.proofs.Settling.Acts.{story_more}
use Rattle.law_order.proofs.Settling.Later.{as_it_led, Later}
use Rattle.law_order.proofs.Settling.Put.{put_known, put_here, put_other, put_length}
use Rattle.law_order.proofs.Settling.Read.{Real, onward_read, ready_read}
use Rattle.law_order.proofs.Settling.Waiting.{WaitsElse, follow_same, leads_same, onward_same}

module _ (script : Script) (honest : ℕ → Bool) (w : World) (v h : ℕ) (head : List Event) (L : Type 0) (r : Vat Name) (at : slice_get w.vats v ≡ Some r) (p n : Name) (k : Known Name) (far : (names script v).spot n ≡ Foreign h) (object : IsObject n) (plain : IsObject p → ⊥) (named : k.name ≡ p) (host : k.host ≡ v) where
  abbrev K : Naming Name Name
  K = names script v

  abbrev W : Vat Name → Ways
  W t = WaysAmid script honest w v t

  abbrev E : Place
  E = End (Way v h) n

  abbrev Seen0 : List (Message Name) → Known Name
  Seen0 ms = record k { standing = WaitsOn n; held = ms }

  -- ---- as it begins

  module _ (s : Vat Name) (found : entry_of K s.known p ≡ Some k) (waits : IsWaiting k.standing) (open_still : IsOpen k.standing) (ready : IsReady (W s) v p E) where
    abbrev T : Vat Name
    T = settled_to K (with_line s (Settles p (Ref n))) p (Ref n)

    module _ (g : Real script honest w v h r at p n k far object plain named host T) where
      abbrev V : Vat Name
      V = record T { known = put_known K p (record k { standing = WaitsOn n; held = k.held }) T.known }

      other_entry : (m : Name) → (m ≡ p → ⊥) → entry_of K V.known m ≡ entry_of K s.known m
      other_entry m f = put_other script v p (Seen0 k.held) named m f T.known ∙ go (differs script v (Settle (Ref n)) p m s.known)
        where
          go : Differs script v (Settle (Ref n)) p m (entry_of K s.known m) (entry_of K T.known m) → entry_of K T.known m ≡ entry_of K s.known m
          go (as_it_was e) = e
          go (changes j e a b) = absurd (f e)

      seen_now : entry_of K V.known p ≡ Some (Seen0 k.held)
      seen_now = put_here script v p (Seen0 k.held) named T.known g.known g.found

      waits_else : WaitsElse K p s V
      waits_else = record {
        number = refl;
        gifts = refl;
        noticed = refl;
        names_known = put_length script v p (Seen0 k.held) named T.known ∙ same_length script v (Settle (Ref n)) p s.known;
        plain = plain;
        before = k;
        found = found;
        waits = waits;
        after = Seen0 k.held;
        found_then = seen_now;
        waits_then = tt;
        host = refl;
        others = other_entry;
      }

      pub leads_first : (u : ℕ) (x : Value Name) → LeadsAmid script honest w v V u x ≡ LeadsAmid script honest w v s u x
      leads_first u x = leads_same script honest v p s V waits_else w u x

      held_first : (m : Name) → held_in m (entry_of K V.known m) ≡ held_in m (entry_of K s.known m)
      unfolding held_in
      held_first m = go (same_lane (Held v m) (Held v p))
        where
          name_of : Lane → Name
          name_of (Held u q) = q
          name_of other = m

          go : Same (Held v m) (Held v p) → held_in m (entry_of K V.known m) ≡ held_in m (entry_of K s.known m)
          go (inl e) = let i : m ≡ p = ap name_of e in subst (λ z. held_in m (entry_of K V.known z) ≡ held_in m (entry_of K s.known z)) (sym i) (ap (held_in m) seen_now ∙ sym (ap (held_in m) found))
          go (inr f) = ap (held_in m) (other_entry m (λ i. f (ap (λ z. Held v z) i)))

      stand_same : (l : Lane) → (W V).stands l ≡ (W s).stands l
      unfolding ways ways_of amid stands_at
      stand_same (Queue u) = at_vat (λ x. queued x.queue) [] v u s V w.vats (λ e. refl)
      stand_same (Held u m) = at_vat (λ x. held_in m (entry_of (names script u) x.known m)) [] v u s V w.vats (λ e. subst (λ z. held_in m (entry_of (names script z) V.known m) ≡ held_in m (entry_of (names script z) s.known m)) (sym e) (held_first m))
      stand_same (Way a b) = refl

      onward_held : (u : ℕ) (q m : Name) → (W V).onward (Held u q) m ≡ onward_to (W s).onward v p E (Held u q) m
      unfolding onward_to
      onward_held u q m = go (Test v p u q) refl
        where
          go : (c : Bool) → Test v p u q ≡ c → (W V).onward (Held u q) m ≡ elim c [ true ↦ E | false ↦ (W s).onward (Held u q) m ]
          go true e = subst (λ l. (W V).onward l m ≡ E) (sym (held_one u v q p e)) (onward_read script honest w v h r at p n k far object plain named host k.held T g m)
          go false e = onward_same script honest v p s V waits_else w refl (Held u q) m (held_apart u v q p e)

      onward_all : (l : Lane) (m : Name) → (W V).onward l m ≡ onward_to (W s).onward v p E l m
      unfolding onward_to
      onward_all (Queue u) m = onward_same script honest v p s V waits_else w refl (Queue u) m (λ e. queue_no u e)
        where
          queue_no : (u : ℕ) → Queue u ≡ Held v p → ⊥
          queue_no u e = cc
      onward_all (Held u q) m = onward_held u q m
      onward_all (Way a b) m = onward_same script honest v p s V waits_else w refl (Way a b) m (λ e. way_no a b e)
        where
          way_no : (a b : ℕ) → Way a b ≡ Held v p → ⊥
          way_no a b e = cc

      led_grows : Grows (led_to (W s) v p E) (W V)
      unfolding led_to
      led_grows = record { stands = λ l i j. subst (IsIn i) (sym (stand_same l)) j; onward = λ l m. inl (onward_all l m) }

      keeps : (c : Place) (a : Name) → Ahead (W s) a c → Ahead (W V) a c
      keeps c a i = (growing_keeps (led_to (W s) v p E) (W V) led_grows c).1 a ((starting_keeps (W s) v p E ready c).1 a i)

      lines_first : (middle w v head V).history ≡ (middle w v head s).history ++ events_of w.links v (Settles p (Ref n) ∷ [])
      lines_first = story_more script honest w v head L s V (Settles p (Ref n) ∷ []) refl

      -- ---- what is asked of it

      -- it holds what it held, and so much reacts on it
      record WasKnown (m : Name) (j : Known Name) : Type 0 where
        known_then : Known Name
        found_then : entry_of K s.known m ≡ Some known_then
        held_then : known_then.held ≡ j.held
        reacts_then : known_then.reactions ≡ j.reactions

      some_same : (i j : Known Name) → Some i ≡ Some j → i ≡ j
      some_same i j e = cc

      known_back : (m : Name) (j : Known Name) → entry_of K V.known m ≡ Some j → WasKnown m j
      known_back m j e = go (is_name m p)
        where
          go : (m ≡ p) ⊎ (m ≡ p → ⊥) → WasKnown m j
          go (inl q) = let same : Seen0 k.held ≡ j = some_same (Seen0 k.held) j (sym seen_now ∙ (ap (entry_of K V.known) (sym q) ∙ e)) in
              record { known_then = k; found_then = ap (entry_of K s.known) q ∙ found; held_then = ap (λ (z : Known Name). z.held) same; reacts_then = ap (λ (z : Known Name). z.reactions) same }
          go (inr f) = record { known_then = j; found_then = sym (other_entry m f) ∙ e; held_then = refl; reacts_then = refl }

      known_on : (m : Name) → IsKnown K s m → IsKnown K V m
      known_on m i = go (is_name m p)
        where
          go : (m ≡ p) ⊎ (m ≡ p → ⊥) → IsKnown K V m
          go (inl q) = (Seen0 k.held, ap (entry_of K V.known) q ∙ seen_now)
          go (inr f) = (i.0, other_entry m f ∙ i.1)

      held_back : (x : Value Name) → IsHeld script honest w v V x → IsHeld script honest w v s x
      held_back (Ref m) (inl i) = inl i
      held_back (Ref m) (inr i) = let j = known_back m i.0 i.1 in inr (j.known_then, j.found_then)
      held_back other i = tt

      -- What is asked of the vat holds of it read so.
      pub first_later : Later script honest w v head L s V
      first_later = record {
        ready = λ q. ready_read script honest w v h r at p n k far object plain named host k.held T g;
        leading = λ x i. as_it_led (held_back x i) (leads_first v x);
        undrawn = λ x e. e;
        told = events_of w.links v (Settles p (Ref n) ∷ []);
        story = lines_first;
        quiet = events_quiet w.links v (Settles p (Ref n) ∷ []) (tt, tt);
        known = known_on;
        lists = refl;
        follows = λ l x j e. sym (follow_same script honest v p s V waits_else x) ∙ e;
        held = λ m j e x i. let b = known_back m j e in record { known = b.known_then; found = b.found_then; among = subst (IsAmong x) (sym b.held_then) i };
        reacts = λ m j e x i. let b = known_back m j e in record { known = b.known_then; found = b.found_then; among = subst (IsAmong x) (sym b.reacts_then) i };
      }

      pub first_small : SmallStep script honest (middle w v head s) (middle w v head V)
      unfolding ways amid
      first_small = resting script honest (middle w v head s) (middle w v head V) (record {
        told = events_of w.links v (Settles p (Ref n) ∷ []);
        lines = lines_first;
        quiet = events_quiet w.links v (Settles p (Ref n) ∷ []) (tt, tt);
        leading = λ u m. inl (leads_first u (Ref m));
        references = λ u m a i. subst (λ c. Ahead (W V) a c) (sym (leads_first u (Ref m))) (keeps (LeadsAmid script honest w v s u (Ref m)) a i);
        places = λ l b m a i. keeps (Mid l b m) a i;
        stands = λ m l b o i. inl (record { behind = i.behind; found = sym (stand_same l) ∙ i.found });
        holds = λ u q m b o i. record { behind = i.behind; found = sym (stand_same (Held u q)) ∙ i.found };
        brought = λ a b front d o ys i. record { before = front; brings = record { link = i.link; found = i.found; verb = i.verb; rest = i.rest; notes = i.notes }; behind = refl };
      })
