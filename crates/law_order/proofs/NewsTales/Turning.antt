-- A step by which no message moves, while references may come to lead elsewhere, is a small step.
use Rattle.std.proofs.Common.{◌≡◌, ℕ, Bool, true, false, List, [], ◌∷◌, ◌++◌, Option, Some, None, refl, sym, ap, subst, ◌∙◌, ◌⊎◌, inl, inr}
use Rattle.std.specs.Prelude.{◌&&◌}
use Rattle.def_machine.specs.Values.{Name, Ref}
use Rattle.def_machine.specs.State.{Passeds, Delivery, Deliver, Note, Vat}
use Rattle.def_run.specs.World.{Script, Event, Link, World, names, link_at}
use Rattle.law_order.specs.Ordering.Ways.{Lane, Held, Way, Item, IsIn, Place, End, Mid, Ways, Doom, by_end, by_mid, Ahead, doomed_there, in_end, in_mid, past_end, past_mid}
use Rattle.law_order.specs.Ordering.Turns.{Within}
use Rattle.law_order.specs.Ordering.Places.{item, delivered, is_honest, leads, stands_at, ways_of, ways, amid}
use Rattle.law_order.specs.Ordering.Messages.{StandsAt}
use Rattle.law_order.specs.Ordering.Steps.{WaysAmid, LeadsAmid}
use Rattle.law_order.specs.Arrivals.Tellings.{owned}
use Rattle.law_order.specs.Arrivals.Wholes.{KeepsOwnOrder}
use Rattle.law_order.specs.History.Befores.{Brings, up_to, IsBroughtFrom, in_lane, apart}
use Rattle.law_order.specs.History.Tells.{IsStillBrought, SmallStep}
use Rattle.law_order.proofs.History.Same.{brought_once}
use Rattle.law_order.specs.Tales.Middle.{middle, MovesNone}
use Rattle.law_order.specs.Tales.Resting.{WasBrought}
use Rattle.law_order.proofs.Tales.Links.{delivered_both, OnLink}
use Rattle.law_order.proofs.Tales.Middle.{moves_still}
use Rattle.law_order.proofs.Tales.Still.{IsStill}
use Rattle.law_order.proofs.NoticeTales.Small.{nothing_at}

-- ---- places

doom_end : (w : Ways) (l : Lane) (b : List Item) (n : Name) → Doom w (Mid l b n) → Doom w (End l n)
doom_end w l b n (by_mid d) = by_end d

-- what is ahead of a place in a lane is ahead of the end of the lane on that name
end_ahead : (w : Ways) (a : Name) (l : Lane) (b : List Item) (n : Name) → Within b (w.stands l) → Ahead w a (Mid l b n) → Ahead w a (End l n)
end_ahead w a l b n f (doomed_there d) = doomed_there (doom_end w l b n d)
end_ahead w a l b n f (in_mid {m = m} i g) = in_end {m = m} (f (item a m) i) g
end_ahead w a l b n f (past_mid h) = past_end h

-- what stands in front, and the thing itself
front_within : (c r : List Item) (i : Item) → Within (c ++ i ∷ []) (c ++ i ∷ r)
front_within [] r i j (inl e) = inl e
front_within [] r i j (inr h) = absurd h
front_within (k ∷ c) r i j (inl e) = inl e
front_within (k ∷ c) r i j (inr h) = inr (front_within c r i j h)

before_within : (c r : List Item) (i : Item) → Within c (c ++ i ∷ r)
before_within [] r i j h = absurd h
before_within (k ∷ c) r i j (inl e) = inl e
before_within (k ∷ c) r i j (inr h) = inr (before_within c r i j h)

delivered_one : (d : Delivery Name) (n : Name) (verb : List ℕ) (ys : Passeds Name) (ns : List (Note Name)) → delivered (Deliver d n verb ys ∷ ns) ≡ item d.message n ∷ delivered ns
unfolding delivered
delivered_one d n verb ys ns = refl

-- ---- between two worlds

module _ (script : Script) (honest : ℕ → Bool) (all : (h : ℕ) → honest h ≡ true) (x y : World) where
  abbrev W : Ways
  W = ways script honest x

  abbrev U : Ways
  U = ways script honest y

  abbrev Led : ℕ → Name → Place
  Led v n = leads script honest x.vats x.links v (Ref n)

  abbrev Now : ℕ → Name → Place
  Now v n = leads script honest y.vats y.links v (Ref n)

  honest_link : (l : Link) → is_honest script honest l ≡ true
  unfolding is_honest
  honest_link l = ap (λ c. c && honest l.to) (all l.from) ∙ all l.to

  found_row : (o : Option Link) (l : Link) → o ≡ Some l → OnLink script honest o ≡ delivered l.notes
  found_row o l e = ap (λ q. OnLink script honest q) e ∙ ap (λ c. elim c [ true ↦ delivered l.notes | false ↦ [] ]) (honest_link l)

  -- what a note delivers stands on its link behind what the notes in front deliver
  stands_behind : (u v : ℕ) (front : List (Note Name)) (d : Delivery Name) (n : Name) (ys : Passeds Name) → Brings x u v front d n ys → Within (delivered front ++ item d.message n ∷ []) (W.stands (Way u v))
  unfolding ways ways_of stands_at
  stands_behind u v front d n ys b i h = subst (λ js. IsIn i js) (sym (found_row (link_at u v x.links) b.link b.found ∙ ap delivered b.notes ∙ delivered_both front (Deliver d n b.verb ys ∷ b.rest) ∙ ap (λ js. delivered front ++ js) (delivered_one d n b.verb ys b.rest)))
      (front_within (delivered front) (delivered b.rest) (item d.message n) i h)

  -- No message moves, and each reference leads where it led, or to no lane of its vat in which a message stands. What is ahead stays ahead, of each reference and of what is behind what stands there.
  pub record Turns : Type 0 where
    pub still : IsStill script honest x y
    pub leading : (u : ℕ) (n : Name) → (Now u n ≡ Led u n) ⊎ ((p m : Name) → Now u n ≡ End (Held u p) m → U.stands (Held u p) ≡ [])
    pub references : (u : ℕ) (n a : Name) → Ahead W a (Led u n) → Ahead U a (Now u n)
    pub places : (l : Lane) (b : List Item) (n a : Name) → Within b (W.stands l) → Ahead W a (Mid l b n) → Ahead U a (Mid l b n)

  module _ (h : Turns) where
    -- where a held message stands it is behind where a reference leads what it would bring
    brought_ahead : (a : Name) (l : Lane) (b : List Item) (p c : Place) → Within b (W.stands l) → IsBroughtFrom l b p c → Ahead W a c → Ahead W a p
    brought_ahead a l b p c f (in_lane {n = n}) s = end_ahead W a l b n f s
    brought_ahead a l b p c f (apart g) s = s

    led_apart : (l : Lane) (b : List Item) (p k : Place) → ((m : Name) → p ≡ End l m → ⊥) → IsBroughtFrom l b p k → k ≡ p
    led_apart l b p k f g = sym (brought_once l b p p k (apart f) g)

    -- what it would bring stays behind what it was behind
    keeps_brought : (a : Name) (l : Lane) (b : List Item) (p q c k : Place) → Within b (W.stands l) → (q ≡ p) ⊎ ((m : Name) → q ≡ End l m → ⊥) → (Ahead W a p → Ahead U a q) → IsBroughtFrom l b p c → IsBroughtFrom l b q k → Ahead W a c → Ahead U a k
    keeps_brought a l b p q c k within (inr e) r f g s = subst (λ z. Ahead U a z) (sym (led_apart l b q k e g)) (r (brought_ahead a l b p c within f s))
    keeps_brought a l b p q c k within (inl e) r f g s = subst (λ z. Ahead U a z) (brought_once l b p c k f (subst (λ z. IsBroughtFrom l b z k) e g)) (there p c within f (λ t. subst (λ z. Ahead U a z) e (r t)) s)
      where
        there : (p c : Place) → Within b (W.stands l) → IsBroughtFrom l b p c → (Ahead W a p → Ahead U a p) → Ahead W a c → Ahead U a c
        there p c i (in_lane {n = n}) t s = h.places l b n a i s
        there p c i (apart j) t s = t s

    stood : (m : Name) (l : Lane) (c : List Item) (n : Name) → StandsAt U m l c n → StandsAt W m l c n
    stood m l c n s = record { behind = s.behind; found = sym (h.still.stands l) ∙ s.found }

    -- the lane in which it stands is none to which a reference came to lead
    lane_apart : (u : ℕ) (n p m : Name) (b : List Item) (q : Name) → StandsAt U m (Held u p) b q → (Now u n ≡ Led u n) ⊎ ((o z : Name) → Now u n ≡ End (Held u o) z → U.stands (Held u o) ≡ []) → (Now u n ≡ Led u n) ⊎ ((z : Name) → Now u n ≡ End (Held u p) z → ⊥)
    lane_apart u n p m b q s (inl e) = inl e
    lane_apart u n p m b q s (inr f) = inr (λ z e. nothing_at b s.behind (item m q) (sym (f p z e) ∙ s.found))

    still_brought : (u v : ℕ) (front : List (Note Name)) (d : Delivery Name) (n : Name) (ys : Passeds Name) → WasBrought script honest x y u v front d n ys → IsStillBrought script honest x y u v front d n ys
    still_brought u v front d n ys w = record {
      before = w.before;
      brings = w.brings;
      keeps = λ a m s. inr (subst (λ is. Ahead U a (Mid (Way u v) (is ++ item d.message n ∷ []) m)) w.behind (h.places (Way u v) (delivered w.before ++ item d.message n ∷ []) m a (stands_behind u v w.before d n ys w.brings) s));
    }

    pub turning : SmallStep script honest x y
    unfolding stood
    turning = record {
      line = None;
      quiet = h.still.told;
      lines = h.still.lines;
      all_quiet = h.still.quiet;
      told = tt;
      references = λ a n v s. inr (h.references v n a s);
      messages = λ m l c n s. inl (record { lane = l; before = c; aim = n; stood = stood m l c n s; keeps = λ a t. inr (h.places l c n a (λ i j. subst (λ is. IsIn i is) (sym (stood m l c n s).found) (before_within c s.behind (item m n) i j)) t) });
      passings = λ u v front d n ys b. inl (still_brought u v front d n ys (h.still.brought u v front d n ys b));
      carriers = λ v p d aim b s. inl (record {
        before = b;
        aim = aim;
        stood = stood d (Held v p) b aim s;
        keeps = λ a n c k f g t. inr (keeps_brought a (Held v p) (up_to b d aim) (Led v n) (Now v n) c k (λ i j. subst (λ is. IsIn i is) (sym (stood d (Held v p) b aim s).found) (front_within b s.behind (item d aim) i j)) (lane_apart v n p d b aim s (h.leading v n)) (h.references v n a) f g t);
      });
    }

-- ---- in the middle of a step

-- The vat keeps order, and moves no message.
module _ (script : Script) (honest : ℕ → Bool) (all : (h : ℕ) → honest h ≡ true) (w : World) (v : ℕ) (head : List Event) (s t : Vat Name) (h : MovesNone (names script v) s t) (g : KeepsOwnOrder script honest w v s t)
    (own : (l : Lane) (i : Item) → IsIn i ((WaysAmid script honest w v s).stands l) → owned l i.aim ≡ true)
    (leading : (u : ℕ) (n : Name) → (LeadsAmid script honest w v t u (Ref n) ≡ LeadsAmid script honest w v s u (Ref n)) ⊎ ((p m : Name) → LeadsAmid script honest w v t u (Ref n) ≡ End (Held u p) m → (WaysAmid script honest w v t).stands (Held u p) ≡ [])) where
  turns : Turns script honest all (middle w v head s) (middle w v head t)
  unfolding ways amid leads
  turns = record {
    still = moves_still script honest w v head s t h;
    leading = leading;
    references = λ u n a i. (g.references u (Ref n)).1 a i;
    places = λ l b n a i k. (g.passings l b n (λ j z. own l j (i j z))).1 a k;
  }

  pub turned_small : SmallStep script honest (middle w v head s) (middle w v head t)
  turned_small = turning script honest all (middle w v head s) (middle w v head t) turns
