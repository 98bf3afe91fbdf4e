-- A name settles to what is no object of another vat, and what it held comes to the queue, or is lost: one small step.
use Rattle.std.proofs.Common.{◌≡◌, ℕ, zero, suc, Bool, true, false, List, [], ◌∷◌, ◌++◌, Some, None, length, refl, sym, ap, subst, ◌∙◌, ◌⊎◌, inl, inr}
use Rattle.std.proofs.lemmas.List.{append-nil}
use Rattle.std.specs.Prelude.{slice_get, codes}
use Rattle.def_machine.specs.Values.{Value, Broken, Items, Ref, Name, Naming, Spot, Own, Foreign, NoObject}
use Rattle.def_machine.specs.State.{Message, Standing, Settled, Viewed, Settle, Known, Vat, is_in, with_change}
use Rattle.def_machine.specs.Refs as refs
use Rattle.def_machine.specs.Refs.{entry_of, standing_of}
use Rattle.def_run.specs.World.{Script, Event, World, names}
use Rattle.law_reference.proofs.Reference.Follow.{eq_dec}
use Rattle.law_order.specs.Ordering.Ways.{Lane, Queue, Held, Way, Item, Place, Nowhere, Free, End, Mid, Ways}
use Rattle.law_order.specs.Ordering.Places.{item, queued, held_on, held_in, stands_at, ways_of, ways, amid}
use Rattle.law_order.specs.Ordering.Messages.{StandsAt}
use Rattle.law_order.specs.Ordering.Settle.{IsEnded, SettlesHere, aimed_at, passed_by, settled_to}
use Rattle.law_order.specs.Ordering.Steps.{WaysAmid, LeadsAmid, IsHeld, StaysInOrder}
use Rattle.law_order.proofs.Ordering.Entries.{Differs, as_it_was, changes, differs, same_length}
use Rattle.law_order.proofs.Ordering.Lanes.{Same, same_lane}
use Rattle.law_order.proofs.Ordering.Named.{passes_here, passes_other, passes_queue, passes_way, passes_mid, passes_nowhere, passes_free}
use Rattle.law_order.proofs.Ordering.Sends.{get_put, entry_changed}
use Rattle.law_order.proofs.Ordering.Settled.{follows_settled, others_standing}
use Rattle.law_order.proofs.Views.Quiet.{is_name}
use Rattle.law_order.proofs.Views.Settling.{IsOpen, settles}
use Rattle.law_order.specs.History.Tells.{over, then_on}
use Rattle.law_order.specs.Tales.Middle.{middle}
use Rattle.law_order.proofs.Tales.Middle.{at_vat}
use Rattle.law_order.proofs.Settling.Acts.{Told}
use Rattle.law_order.proofs.Settling.Frames.{changed_frame, less_mild}
use Rattle.law_order.proofs.Settling.Later.{NotHeld, as_it_led, elsewhere, Leading, Later}
use Rattle.law_order.proofs.Settling.LetsGo.{WentOn, LetsGo, lets_go_small}

-- what becomes of a place as a name is passed by
pub data Passes (v : ℕ) (p : Name) (e c d : Place) : Type 0 where
  stays : d ≡ c → Passes v p e c d
  went : (o : Name) → c ≡ End (Held v p) o → d ≡ e → Passes v p e c d

module _ (v : ℕ) (p : Name) (e : Place) where
  held_lane : (u : ℕ) (q n : Name) → Same (Held u q) (Held v p) → Passes v p e (End (Held u q) n) (passed_by v p e (End (Held u q) n))
  held_lane u q n (inl i) = went n (ap (λ l. End l n) i) (subst (λ l. passed_by v p e (End l n) ≡ e) (sym i) (passes_here v p e n))
  held_lane u q n (inr f) = stays (passes_other v p e u q n (λ i j. f (ap (λ z. Held z q) i ∙ ap (λ z. Held v z) j)))

  pub passes_by : (c : Place) → Passes v p e c (passed_by v p e c)
  passes_by (End (Held u q) n) = held_lane u q n (same_lane (Held u q) (Held v p))
  passes_by (End (Queue u) n) = stays (passes_queue v p e u n)
  passes_by (End (Way a b) n) = stays (passes_way v p e a b n)
  passes_by (Mid l b n) = stays (passes_mid v p e l b n)
  passes_by Nowhere = stays (passes_nowhere v p e)
  passes_by Free = stays (passes_free v p e)

-- a followed list is not severed
module _ (N : Naming Name Name) (q : Vat Name) where
  no_list : (b : Bool) (t : List ℕ) (n : Name) (j : ℕ) → ◌≡◌ {A = Value Name} (elim b [ true ↦ Broken t | false ↦ Ref n ]) (Items j) → ⊥
  no_list true t n j e = cc
  no_list false t n j e = cc

  pub unsevered : (z : Value Name) (j : ℕ) → refs.severed N q z ≡ Items j → z ≡ Items j
  unfolding refs.severed refs.severed_at refs.severed_by
  unsevered (Ref n) j e = absurd (spot (N.spot n) e)
    where
      spot : (c : Spot) → refs.severed_at N q n c ≡ Items j → ⊥
      spot (Own i) i' = cc
      spot (Foreign h) i = no_list (is_in h q.noticed) (codes "partition") n j i
      spot NoObject i = no_list (is_in (refs.host_at N q.number q.known n) q.noticed) (codes "partition") n j i
  unsevered other j e = e

  pub severed_list : (j : ℕ) → refs.severed N q (Items j) ≡ Items j
  unfolding refs.severed
  severed_list j = refl

module _ (script : Script) (v : ℕ) (s : Vat Name) (p : Name) (y : Value Name) (goes : (d : ℕ) → refs.follow_at (names script v) (suc d) (with_change (names script v) (Settle y) p s.known) (Ref p) ≡ y)
    (others : (n : Name) → (n ≡ p → ⊥) → standing_of (names script v) (with_change (names script v) (Settle y) p s.known) n ≡ standing_of (names script v) s.known n) where
  abbrev N : Naming Name Name
  N = names script v

  abbrev Ks : List (Known Name)
  Ks = with_change N (Settle y) p s.known

  abbrev Back : ℕ → Value Name → ℕ → Type 0
  Back d x j = (refs.follow_at N d s.known x ≡ Items j) ⊎ (y ≡ Items j)

  led_back : (d j : ℕ) (n : Name) (q : Standing Name) → ((z : Value Name) → refs.follow_at N d Ks z ≡ Items j → Back d z j) → refs.led N (λ z. refs.follow_at N d Ks z) n q ≡ Items j → (refs.led N (λ z. refs.follow_at N d s.known z) n q ≡ Items j) ⊎ (y ≡ Items j)
  unfolding refs.led
  led_back d j n (Settled z) f e = f z e
  led_back d j n (Viewed q) f e = f (Ref q) e
  led_back d j n other f e = inl e

  name_back : (d j : ℕ) (n : Name) → ((z : Value Name) → refs.follow_at N d Ks z ≡ Items j → Back d z j) → refs.follow_at N (suc d) Ks (Ref n) ≡ Items j → (n ≡ p) ⊎ (n ≡ p → ⊥) → Back (suc d) (Ref n) j
  unfolding refs.follow_at
  name_back d j n f e (inl i) = inr (sym (goes d) ∙ subst (λ z. refs.follow_at N (suc d) Ks (Ref z) ≡ Items j) i e)
  name_back d j n f e (inr i) = led_back d j n (standing_of N s.known n) f (subst (λ q. refs.led N (λ z. refs.follow_at N d Ks z) n q ≡ Items j) (others n i) e)

  follow_back : (d : ℕ) (x : Value Name) (j : ℕ) → refs.follow_at N d Ks x ≡ Items j → Back d x j
  unfolding refs.follow_at
  follow_back zero x j e = inl e
  follow_back (suc d) (Ref n) j e = name_back d j n (λ z i. follow_back d z j i) e (is_name n p)
  follow_back (suc d) other j e = inl e

  -- a list to which a value is followed was there before, or the name settled to it
  pub lists_back : (L : Type 0) → ((j : ℕ) → y ≡ Items j → L) → (L → ⊥) → (x : Value Name) (j : ℕ) → refs.follow N (record s { known = with_change N (Settle y) p s.known }) x ≡ Items j → refs.follow N s x ≡ Items j
  unfolding refs.follow
  lists_back L excuse never x j e = go (follow_back (suc (length Ks)) x j (unsevered N (record s { known = Ks }) (refs.follow_at N (suc (length Ks)) Ks x) j e))
    where
      go : Back (suc (length Ks)) x j → refs.severed N s (refs.follow_at N (suc (length s.known)) s.known x) ≡ Items j
      go (inl i) = ap (refs.severed N s) (subst (λ d. refs.follow_at N (suc d) s.known x ≡ Items j) (same_length script v (Settle y) p s.known) i) ∙ severed_list N s j
      go (inr i) = absurd (never (excuse j i))

module _ (script : Script) (honest : ℕ → Bool) (w : World) (v : ℕ) (head : List Event) (L : Type 0) (r : Vat Name) (at : slice_get w.vats v ≡ Some r) (s : Vat Name) (p : Name) (y : Value Name) (k : Known Name)
    (found : entry_of (names script v) s.known p ≡ Some k) (open_still : IsOpen k.standing) (g : SettlesHere (names script v) s (settled_to (names script v) s p y) p y v) (excuse : (j : ℕ) → y ≡ Items j → L) where
  abbrev K : Naming Name Name
  K = names script v

  abbrev T : Vat Name
  T = settled_to K s p y

  abbrev E : Place
  E = aimed_at script v T y

  -- ---- what names hold

  held_none : held_in p (entry_of K T.known p) ≡ []
  unfolding held_in held_on
  held_none = ap (held_in p) (entry_changed K p (Settle y) s.known k found) ∙ ap (λ (j : Known Name). held_on p j.held) (settles y k open_still)

  held_other : (n : Name) → (n ≡ p → ⊥) → held_in n (entry_of K T.known n) ≡ held_in n (entry_of K s.known n)
  held_other n f = go (differs script v (Settle y) p n s.known)
    where
      go : Differs script v (Settle y) p n (entry_of K s.known n) (entry_of K T.known n) → held_in n (entry_of K T.known n) ≡ held_in n (entry_of K s.known n)
      go (as_it_was e) = ap (held_in n) e
      go (changes j e a b) = absurd (f e)

  held_back : (x : Value Name) → IsHeld script honest w v T x → IsHeld script honest w v s x
  held_back (Ref n) (inl i) = inl i
  held_back (Ref n) (inr i) = inr ((less_mild script v (Settle y) tt p s T refl).known n i)
  held_back other i = tt

  ended_held : (z : Value Name) → IsEnded z → IsHeld script honest w v s z
  ended_held (Ref n) i = inl i
  ended_held other i = tt

  abbrev W : Vat Name → Ways
  W t = WaysAmid script honest w v t

  -- ---- and its queue is that then

  module _ (q : List (Message Name)) where
    abbrev Then : Vat Name
    Then = record s { known = with_change K (Settle y) p s.known; queue = q }

    module _ (order : StaysInOrder script honest w v s Then) (leads_then : (u : ℕ) (x : Value Name) → LeadsAmid script honest w v Then u x ≡ passed_by v p E (LeadsAmid script honest w v s u x)) (unheld : NotHeld E)
        (lanes : (h : ℕ) (n : Name) → E ≡ End (Way v h) n → (m : Name) × (LeadsAmid script honest w v s v y ≡ End (Way v h) m))
        (queue_back : (m : Name) (b : List Item) (n : Name) → StandsAt (W Then) m (Queue v) b n → StandsAt (W s) m (Queue v) b n ⊎ WentOn script honest (middle w v head s) (middle w v head Then) v p m (Queue v) b n) where
      queue_other : (u : ℕ) → (u ≡ v → ⊥) → (W Then).stands (Queue u) ≡ (W s).stands (Queue u)
      unfolding ways ways_of stands_at amid
      queue_other u f = at_vat (λ x. queued x.queue) [] v u s Then w.vats (λ e. absurd (f e))

      held_other_lane : (u : ℕ) (n : Name) → (Held u n ≡ Held v p → ⊥) → (W Then).stands (Held u n) ≡ (W s).stands (Held u n)
      unfolding ways ways_of stands_at amid
      held_other_lane u n f = at_vat (λ x. held_in n (entry_of (names script u) x.known n)) [] v u s Then w.vats
          (λ e. subst (λ z. held_in n (entry_of (names script z) Then.known n) ≡ held_in n (entry_of (names script z) s.known n)) (sym e) (held_other n (λ i. f (ap (λ z. Held z n) e ∙ ap (λ z. Held v z) i))))

      held_lane_none : (W Then).stands (Held v p) ≡ []
      unfolding ways ways_of stands_at amid
      held_lane_none = ap (λ o. elim o [ Some x ↦ held_in p (entry_of K x.known p) | None ↦ [] ]) (get_put w.vats v r Then at) ∙ held_none

      way_same : (a b : ℕ) → (W Then).stands (Way a b) ≡ (W s).stands (Way a b)
      unfolding ways ways_of stands_at amid
      way_same a b = refl

      nothing_at : (b c : List Item) (i : Item) → [] ≡ b ++ i ∷ c → ⊥
      nothing_at [] c i e = cc
      nothing_at (j ∷ b) c i e = cc

      stood : (l : Lane) (m : Name) (b : List Item) (n : Name) → (W Then).stands l ≡ (W s).stands l → StandsAt (W Then) m l b n → StandsAt (W s) m l b n
      stood l m b n e i = record { behind = i.behind; found = sym e ∙ i.found }

      held_stood : (u : ℕ) (o m : Name) (b : List Item) (n : Name) → StandsAt (W Then) m (Held u o) b n → StandsAt (W s) m (Held u o) b n
      held_stood u o m b n i = go (same_lane (Held u o) (Held v p))
        where
          go : Same (Held u o) (Held v p) → StandsAt (W s) m (Held u o) b n
          go (inl e) = absurd (nothing_at b i.behind (item m n) (sym held_lane_none ∙ subst (λ l. (W Then).stands l ≡ b ++ item m n ∷ i.behind) e i.found))
          go (inr f) = stood (Held u o) m b n (held_other_lane u o f) i

      abbrev Either : Lane → Name → List Item → Name → Type 0
      Either l m b n = StandsAt (W s) m l b n ⊎ WentOn script honest (middle w v head s) (middle w v head Then) v p m l b n

      queue_stood : (u : ℕ) (m : Name) (b : List Item) (n : Name) → StandsAt (W Then) m (Queue u) b n → (u ≡ v) ⊎ (u ≡ v → ⊥) → Either (Queue u) m b n
      queue_stood u m b n i (inl e) = subst (λ z. Either (Queue z) m b n) (sym e) (queue_back m b n (subst (λ z. StandsAt (W Then) m (Queue z) b n) e i))
      queue_stood u m b n i (inr f) = inl (stood (Queue u) m b n (queue_other u f) i)

      either : (l : Lane) (m : Name) (b : List Item) (n : Name) → StandsAt (W Then) m l b n → Either l m b n
      either (Queue u) m b n i = queue_stood u m b n i (eq_dec u v)
      either (Held u o) m b n i = inl (held_stood u o m b n i)
      either (Way a c) m b n i = inl (stood (Way a c) m b n (way_same a c) i)

      lead_by : (u : ℕ) (n : Name) (d : Place) → LeadsAmid script honest w v Then u (Ref n) ≡ d → Passes v p E (LeadsAmid script honest w v s u (Ref n)) d
          → (LeadsAmid script honest w v Then u (Ref n) ≡ LeadsAmid script honest w v s u (Ref n)) ⊎ ((o : Name) × (LeadsAmid script honest w v s u (Ref n) ≡ End (Held v p) o) × NotHeld (LeadsAmid script honest w v Then u (Ref n)))
      lead_by u n d e (stays i) = inl (e ∙ i)
      lead_by u n d e (went o i j) = inr (o, i, subst NotHeld (sym (e ∙ j)) unheld)

      lets_go : LetsGo script honest (middle w v head s) (middle w v head Then) v p
      unfolding ways amid
      lets_go = record {
        told = [];
        lines = sym (append-nil (middle w v head s).history);
        quiet = tt;
        leading = λ u n. lead_by u n (passed_by v p E (LeadsAmid script honest w v s u (Ref n))) (leads_then u (Ref n)) (passes_by v p E (LeadsAmid script honest w v s u (Ref n)));
        references = λ u n a i. (order.1.references u (Ref n)).1 a i;
        places = λ l b n a i. (order.1.places l b n).1 a i;
        empty = λ m b n i. nothing_at b i.behind (item m n) (sym held_lane_none ∙ i.found);
        stands = λ m l b n i. either l m b n i;
        holds = λ u o m b n i. held_stood u o m b n i;
        brought = λ a b front d n ys i. record { before = front; brings = record { link = i.link; found = i.found; verb = i.verb; rest = i.rest; notes = i.notes }; behind = refl };
      }

      lead_later : (x : Value Name) → IsHeld script honest w v Then x → (d : Place) → LeadsAmid script honest w v Then v x ≡ d → Passes v p E (LeadsAmid script honest w v s v x) d → Leading script honest w v head s Then x
      lead_later x i d e (stays j) = as_it_led (held_back x i) (e ∙ j)
      lead_later x i d e (went o j l) = elsewhere y (ended_held y g.ended) (subst NotHeld (sym (e ∙ l)) unheld) (λ h n f. lanes h n (sym (e ∙ l) ∙ f))

      lists_then : (L → ⊥) → (x : Value Name) (j : ℕ) → refs.follow K Then x ≡ Items j → refs.follow K s x ≡ Items j
      unfolding refs.follow refs.severed refs.severed_at refs.severed_by
      lists_then never x j e = lists_back script v s p y (follows_settled script honest v s T p y g) (λ n f. others_standing script honest v s T p y g n f) L excuse never x j e

      later : Later script honest w v head L s Then
      later = record {
        ready = order.0;
        leading = λ x i. lead_later x i (passed_by v p E (LeadsAmid script honest w v s v x)) (leads_then v x) (passes_by v p E (LeadsAmid script honest w v s v x));
        undrawn = λ x e. e;
        told = [];
        story = sym (append-nil (middle w v head s).history);
        quiet = tt;
        known = λ n i. (changed_frame K (Settle y) p s T refl refl refl).known n i;
        lists = refl;
        follows = lists_then;
        held = λ n j e m i. let h = (less_mild script v (Settle y) tt p s T refl).held n j e m i in record { known = h.0; found = h.1; among = h.2 };
        reacts = λ n j e m i. let h = (less_mild script v (Settle y) tt p s T refl).reacts n j e m i in record { known = h.0; found = h.1; among = h.2 };
      }

      pub block_told : Told script honest w v head L s Then
      block_told = record { tale = then_on (lets_go_small script honest (middle w v head s) (middle w v head Then) v p lets_go) over; later = later }
