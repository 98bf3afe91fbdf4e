-- A new answer at another vat comes to be known: what is asked of a vat holds of it then.
use Rattle.std.proofs.Common.{◌≡◌, ℕ, zero, suc, Bool, true, false, List, [], ◌∷◌, ◌++◌, Option, Some, None, length, refl, sym, ap, subst, ◌∙◌, inl, inr}
use Rattle.std.proofs.lemmas.List.{append-nil}
use Rattle.def_machine.specs.Values.{Value, Items, Ref, Name, Naming, naming}
use Rattle.def_machine.specs.State.{Message, Standing, Viewed, Settled, Known, Vat, begun}
use Rattle.def_machine.specs.Refs as refs
use Rattle.def_machine.specs.Refs.{entry_of, standing_of, standing_in}
use Rattle.def_run.specs.World.{Script, Event, World, names}
use Rattle.law_fate.specs.Name.Names.{IsAmong}
use Rattle.law_order.specs.Ordering.Worlds.{IsObject, IsKnown, IsWaiting, IsFixed}
use Rattle.law_order.specs.Ordering.Steps.{Ready, Grown, LeadsAmid, IsHeld}
use Rattle.law_order.specs.Ordering.Ways.{Way, End}
use Rattle.law_order.proofs.Ordering.Entries.{reference_is}
use Rattle.law_order.specs.Tales.Middle.{middle}
use Rattle.law_order.proofs.Settling.Block.{unsevered, severed_list}
use Rattle.law_order.proofs.Settling.Later.{NotHeld, Leading, as_it_led, elsewhere, Later, WasHeld, Reacted}
use Rattle.law_order.proofs.Settling.LetsGo.{one_lane}

-- ---- the last of what is known

none_some : (k : Known Name) → ◌≡◌ {A = Option (Known Name)} None (Some k) → ⊥
none_some k e = cc

module _ (K : Naming Name Name) (a : Name) (g : ℕ) where
  -- what is known of a name then was known of it, or is that it began
  pub data Last (m : Name) (o q : Option (Known Name)) : Type 0 where
    known_before : q ≡ o → Last m o q
    began : o ≡ None → q ≡ Some (begun a g) → K.same a m ≡ true → Last m o q

  pub last_known : (ks : List (Known Name)) (m : Name) → Last m (entry_of K ks m) (entry_of K (ks ++ begun a g ∷ []) m)
  unfolding entry_of begun
  last_known [] m = go (K.same a m) refl
    where
      go : (b : Bool) → K.same a m ≡ b → Last m None (elim b [ true ↦ Some (begun a g) | false ↦ None ])
      go true e = began refl refl e
      go false e = known_before refl
  last_known (k ∷ ks) m = go (K.same k.name m) (last_known ks m)
    where
      go : (b : Bool) → Last m (entry_of K ks m) (entry_of K (ks ++ begun a g ∷ []) m) → Last m (elim b [ true ↦ Some k | false ↦ entry_of K ks m ]) (elim b [ true ↦ Some k | false ↦ entry_of K (ks ++ begun a g ∷ []) m ])
      go true h = known_before refl
      go false h = h

  -- ---- what is followed

  last_standing : (ks : List (Known Name)) (m : Name) → standing_of K (ks ++ begun a g ∷ []) m ≡ standing_of K ks m
  unfolding standing_of standing_in begun
  last_standing ks m = go (last_known ks m)
    where
      go : {o q : Option (Known Name)} → Last m o q → standing_in q ≡ standing_in o
      go (known_before e) = ap (λ z. standing_in z) e
      go (began e f i) = ap (λ z. standing_in z) f ∙ sym (ap (λ z. standing_in z) e)

  led_by : (f h : Value Name → Value Name) → ((z : Value Name) → f z ≡ h z) → (m : Name) (q : Standing Name) → refs.led K f m q ≡ refs.led K h m q
  unfolding refs.led
  led_by f h i m (Settled z) = i z
  led_by f h i m (Viewed q) = i (Ref q)
  led_by f h i m other = refl

  pub follow_last : (d : ℕ) (ks : List (Known Name)) (x : Value Name) → refs.follow_at K d (ks ++ begun a g ∷ []) x ≡ refs.follow_at K d ks x
  unfolding refs.follow_at
  follow_last zero ks x = refl
  follow_last (suc d) ks (Ref m) = ap (λ q. refs.led K (λ y. refs.follow_at K d (ks ++ begun a g ∷ []) y) m q) (last_standing ks m) ∙ led_by (λ y. refs.follow_at K d (ks ++ begun a g ∷ []) y) (λ y. refs.follow_at K d ks y) (λ z. follow_last d ks z) m (standing_of K ks m)
  follow_last (suc d) ks other = refl

-- ---- what is followed to an end ends there, however far it is followed

module _ (K : Naming Name Name) (s : Vat Name) (objects : (n : Name) → IsObject n → entry_of K s.known n ≡ None) where
  waits_led : (f : Value Name → Value Name) (m : Name) (q : Standing Name) → IsWaiting q → refs.led K f m q ≡ Ref m
  unfolding refs.led
  waits_led f m (Viewed q) h = absurd h
  waits_led f m (Settled z) h = absurd h
  waits_led f m other h = refl

  stands_by : (m : Name) → IsFixed K s (Ref m) → IsWaiting (standing_of K s.known m)
  unfolding standing_of standing_in
  stands_by m (inl i) = subst (λ o. IsWaiting (standing_in o)) (sym (objects m i)) tt
  stands_by m (inr h) = subst (λ o. IsWaiting (standing_in o)) (sym h.1) h.2

  fixed_here : (d : ℕ) (x : Value Name) → IsFixed K s x → refs.follow_at K d s.known x ≡ x
  unfolding refs.follow_at
  fixed_here zero x h = refl
  fixed_here (suc d) (Ref m) h = waits_led (λ y. refs.follow_at K d s.known y) m (standing_of K s.known m) (stands_by m h)
  fixed_here (suc d) other h = refl

  one_more : (d : ℕ) (m : Name) (q : Standing Name) → ((z : Value Name) → IsFixed K s (refs.follow_at K d s.known z) → refs.follow_at K (suc d) s.known z ≡ refs.follow_at K d s.known z) → IsFixed K s (refs.led K (λ y. refs.follow_at K d s.known y) m q)
      → refs.led K (λ y. refs.follow_at K (suc d) s.known y) m q ≡ refs.led K (λ y. refs.follow_at K d s.known y) m q
  unfolding refs.led
  one_more d m (Settled z) f h = f z h
  one_more d m (Viewed q) f h = f (Ref q) h
  one_more d m other f h = refl

  pub follow_further : (d : ℕ) (x : Value Name) → IsFixed K s (refs.follow_at K d s.known x) → refs.follow_at K (suc d) s.known x ≡ refs.follow_at K d s.known x
  unfolding refs.follow_at
  follow_further zero x h = fixed_here (suc zero) x h
  follow_further (suc d) (Ref m) h = one_more d m (standing_of K s.known m) (λ z i. follow_further d z i) h
  follow_further (suc d) other h = refl

module _ (script : Script) (honest : ℕ → Bool) (w : World) (v : ℕ) (s : Vat Name) (ready : Ready script honest w v s) (a : Name) (g : ℕ) where
  abbrev K : Naming Name Name
  K = names script v

  length_last : (ks : List (Known Name)) (k : Known Name) → length (ks ++ k ∷ []) ≡ suc (length ks)
  length_last [] k = refl
  length_last (x ∷ ks) k = ap suc (length_last ks k)

  ends_by : (m : Name) (o : Option (Known Name)) → entry_of K s.known m ≡ o → refs.follow_at K (suc (suc (length s.known))) s.known (Ref m) ≡ refs.follow_at K (suc (length s.known)) s.known (Ref m)
  unfolding refs.follow_at refs.led standing_of standing_in
  ends_by m None e = ap (λ o. refs.led K (λ y. refs.follow_at K (suc (length s.known)) s.known y) m (standing_in o)) e ∙ sym (ap (λ o. refs.led K (λ y. refs.follow_at K (length s.known) s.known y) m (standing_in o)) e)
  ends_by m (Some k) e = follow_further K s ready.ends.objects (suc (length s.known)) (Ref m) (ready.ends.fixed m (k, e))

  ends_now : (x : Value Name) → refs.follow_at K (suc (suc (length s.known))) s.known x ≡ refs.follow_at K (suc (length s.known)) s.known x
  unfolding refs.follow_at
  ends_now (Ref m) = ends_by m (entry_of K s.known m) refl
  ends_now other = refl

  -- Each value is followed to the same, as far as the vat follows it.
  pub follow_came : (x : Value Name) → refs.follow_at K (suc (length (s.known ++ begun a g ∷ []))) (s.known ++ begun a g ∷ []) x ≡ refs.follow_at K (suc (length s.known)) s.known x
  follow_came x = follow_last K a g (suc (length (s.known ++ begun a g ∷ []))) s.known x ∙ (ap (λ d. refs.follow_at K (suc d) s.known x) (length_last s.known (begun a g)) ∙ ends_now x)

-- ---- what is asked holds then

module _ (script : Script) (honest : ℕ → Bool) (w : World) (v h : ℕ) (head : List Event) (L : Type 0) (s : Vat Name) (ready : Ready script honest w v s) (a n : Name) (object : IsObject n) (ready_then : Ready script honest w v (record s { known = s.known ++ begun a h ∷ [] })) (grown : Grown script honest w v s (record s { known = s.known ++ begun a h ∷ [] }))
    (leads_there : LeadsAmid script honest w v s v (Ref a) ≡ End (Way v h) a) (leads_so : LeadsAmid script honest w v s v (Ref n) ≡ End (Way v h) n) where
  abbrev N : Naming Name Name
  N = names script v

  abbrev Then : Vat Name
  Then = record s { known = s.known ++ begun a h ∷ [] }

  some_same : (j k : Known Name) → Some j ≡ Some k → j ≡ k
  some_same j k e = cc

  name_is : (m : Name) → N.same a m ≡ true → a ≡ m
  unfolding names naming
  name_is m e = reference_is a m e

  new_leads : (m : Name) → a ≡ m → Leading script honest w v head s Then (Ref m)
  new_leads m e = subst (λ z. Leading script honest w v head s Then (Ref z)) e
      (elsewhere (Ref n) (inl object) (subst NotHeld (sym (grown.leading v (Ref a) ∙ leads_there)) tt) (λ b o f. (n, leads_so ∙ ap (λ l. End l n) (lane_is b o (sym (grown.leading v (Ref a) ∙ leads_there) ∙ f)))))
    where
      lane_is : (b : ℕ) (o : Name) → End (Way v h) a ≡ End (Way v b) o → Way v h ≡ Way v b
      lane_is b o f = one_lane (Way v h) (Way v b) a o f

  known_leads : (m : Name) (k : Known Name) → entry_of N Then.known m ≡ Some k → Leading script honest w v head s Then (Ref m)
  known_leads m k e = go (last_known N a h s.known m)
    where
      go : Last N a h m (entry_of N s.known m) (entry_of N Then.known m) → Leading script honest w v head s Then (Ref m)
      go (known_before i) = as_it_led (inr (k, sym i ∙ e)) (grown.leading v (Ref m))
      go (began i f j) = new_leads m (name_is m j)

  leads : (x : Value Name) → IsHeld script honest w v Then x → Leading script honest w v head s Then x
  leads (Ref m) (inl i) = as_it_led (inl i) (grown.leading v (Ref m))
  leads (Ref m) (inr i) = known_leads m i.0 i.1
  leads other i = as_it_led tt (grown.leading v other)

  known_on : (m : Name) → IsKnown N s m → IsKnown N Then m
  known_on m i = go (last_known N a h s.known m)
    where
      go : Last N a h m (entry_of N s.known m) (entry_of N Then.known m) → IsKnown N Then m
      go (known_before e) = (i.0, e ∙ i.1)
      go (began e f j) = absurd (none_some i.0 (sym e ∙ i.1))

  was_held : (m : Name) (k : Known Name) → entry_of N Then.known m ≡ Some k → (x : Message Name) → IsAmong x k.held → WasHeld script honest w v head s m x
  unfolding begun
  was_held m k e x i = go (last_known N a h s.known m)
    where
      go : Last N a h m (entry_of N s.known m) (entry_of N Then.known m) → WasHeld script honest w v head s m x
      go (known_before f) = record { known = k; found = sym f ∙ e; among = i }
      go (began f j l) = absurd (subst (λ (z : Known Name). IsAmong x z.held) (some_same k (begun a h) (sym e ∙ j)) i)

  reacted : (m : Name) (k : Known Name) → entry_of N Then.known m ≡ Some k → (x : Message Name) → IsAmong x k.reactions → Reacted script honest w v head s m x
  unfolding begun
  reacted m k e x i = go (last_known N a h s.known m)
    where
      go : Last N a h m (entry_of N s.known m) (entry_of N Then.known m) → Reacted script honest w v head s m x
      go (known_before f) = record { known = k; found = sym f ∙ e; among = i }
      go (began f j l) = absurd (subst (λ (z : Known Name). IsAmong x z.reactions) (some_same k (begun a h) (sym e ∙ j)) i)

  lists_before : (x : Value Name) (j : ℕ) → refs.follow N Then x ≡ Items j → refs.follow N s x ≡ Items j
  unfolding refs.follow
  lists_before x j e = ap (refs.severed N s) (sym (follow_came script honest w v s ready a h x) ∙ unsevered N Then (refs.follow_at N (suc (length Then.known)) Then.known x) j e) ∙ severed_list N s j

  pub came_later : Later script honest w v head L s (record s { known = s.known ++ begun a h ∷ [] })
  came_later = record {
    ready = λ q. ready_then;
    leading = leads;
    undrawn = λ x e. e;
    told = [];
    story = sym (append-nil (middle w v head s).history);
    quiet = tt;
    known = known_on;
    lists = refl;
    follows = λ l x j e. lists_before x j e;
    held = was_held;
    reacts = reacted;
  }
