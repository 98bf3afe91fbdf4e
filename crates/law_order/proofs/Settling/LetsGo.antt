-- What a name held goes elsewhere, and the name leads elsewhere: that is a small step, where all stays behind what it was behind.
use Rattle.std.proofs.Common.{◌≡◌, ℕ, Bool, List, [], ◌∷◌, ◌++◌, None, refl, sym, ap, subst, ◌∙◌, ◌⊎◌, inl, inr}
use Rattle.def_machine.specs.Values.{Name, Ref}
use Rattle.def_machine.specs.State.{Passeds, Delivery, Note}
use Rattle.def_run.specs.World.{Script, Event, World}
use Rattle.law_order.specs.Ordering.Ways.{Lane, Held, Way, Item, Place, End, Mid, Ways, Ahead}
use Rattle.law_order.specs.Ordering.Places.{item, delivered, leads, ways}
use Rattle.law_order.specs.Ordering.Messages.{StandsAt}
use Rattle.law_order.specs.History.Lines.{AllQuiet}
use Rattle.law_order.specs.History.Befores.{Brings, up_to, IsBroughtFrom, in_lane, apart}
use Rattle.law_order.specs.History.Tells.{IsStanding, IsStillBrought, SmallStep}
use Rattle.law_order.proofs.History.Same.{brought_once}
use Rattle.law_order.specs.Tales.Resting.{WasBrought}
use Rattle.law_order.proofs.Settling.Later.{NotHeld}

-- where such a thing is brought: where the reference leads, or in the lane
pub data From (l : Lane) (b : List Item) (p c : Place) : Type 0 where
  from_there : c ≡ p → ((n : Name) → p ≡ End l n → ⊥) → From l b p c
  from_lane : (n : Name) → p ≡ End l n → c ≡ Mid l b n → From l b p c

pub brought_from : (l : Lane) (b : List Item) (p c : Place) → IsBroughtFrom l b p c → From l b p c
brought_from l b p c (in_lane {n = n}) = from_lane n refl refl
brought_from l b p c (apart f) = from_there refl f

lane_of : Lane → Place → Lane
lane_of k (End l n) = l
lane_of k other = k

pub one_lane : (l k : Lane) (n m : Name) → End l n ≡ End k m → l ≡ k
unfolding lane_of
one_lane l k n m e = ap (lane_of l) e

module _ (script : Script) (honest : ℕ → Bool) (x y : World) (v : ℕ) (p : Name) where
  abbrev W : Ways
  W = ways script honest x

  abbrev U : Ways
  U = ways script honest y

  abbrev Led : ℕ → Name → Place
  Led u n = leads script honest x.vats x.links u (Ref n)

  abbrev Now : ℕ → Name → Place
  Now u n = leads script honest y.vats y.links u (Ref n)

  -- The message stood in what the name held, and came to that place behind what it was behind.
  pub record WentOn (m : Name) (l : Lane) (b : List Item) (n : Name) : Type 0 where
    pub before : List Item
    pub aim : Name
    pub stood : StandsAt W m (Held v p) before aim
    pub behind : (a : Name) → Ahead W a (Mid (Held v p) before aim) → Ahead U a (Mid l b n)

  pub record LetsGo : Type 0 where
    pub told : List Event
    pub lines : y.history ≡ x.history ++ told
    pub quiet : AllQuiet told
    -- each reference leads where it led; or it led to what the name held, and leads to no such lane now
    pub leading : (u : ℕ) (n : Name) → (Now u n ≡ Led u n) ⊎ ((o : Name) × (Led u n ≡ End (Held v p) o) × NotHeld (Now u n))
    pub references : (u : ℕ) (n a : Name) → Ahead W a (Led u n) → Ahead U a (Now u n)
    pub places : (l : Lane) (b : List Item) (n a : Name) → Ahead W a (Mid l b n) → Ahead U a (Mid l b n)
    pub empty : (m : Name) (b : List Item) (n : Name) → StandsAt U m (Held v p) b n → ⊥
    pub stands : (m : Name) (l : Lane) (b : List Item) (n : Name) → StandsAt U m l b n → StandsAt W m l b n ⊎ WentOn m l b n
    pub holds : (u : ℕ) (q m : Name) (b : List Item) (n : Name) → StandsAt U m (Held u q) b n → StandsAt W m (Held u q) b n
    pub brought : (a b : ℕ) (front : List (Note Name)) (d : Delivery Name) (n : Name) (ys : Passeds Name) → Brings y a b front d n ys → WasBrought script honest x y a b front d n ys

  module _ (h : LetsGo) where
    -- what a held message would bring of a reference that leads where it led
    same_brought : (l : Lane) (b : List Item) (a : Name) (c z : Place) → From l b c z → (Ahead W a c → Ahead U a c) → Ahead W a z → Ahead U a z
    same_brought l b a c z (from_there e t) f i = subst (Ahead U a) (sym e) (f (subst (Ahead W a) e i))
    same_brought l b a c z (from_lane n e g) f i = subst (Ahead U a) (sym g) (h.places l b n a (subst (Ahead W a) g i))

    -- of one that led to what the name held, where the message is held elsewhere
    was_there : (l : Lane) (b : List Item) (c z : Place) (o : Name) → (l ≡ Held v p → ⊥) → c ≡ End (Held v p) o → From l b c z → z ≡ c
    was_there l b c z o f e (from_there i t) = i
    was_there l b c z o f e (from_lane n i j) = absurd (f (one_lane l (Held v p) n o (sym i ∙ e)))

    is_there : (u : ℕ) (q : Name) (b : List Item) (c z : Place) → NotHeld c → From (Held u q) b c z → z ≡ c
    is_there u q b c z f (from_there i t) = i
    is_there u q b c z f (from_lane n i j) = absurd (subst NotHeld i f)

    keeps_brought : (u : ℕ) (q d : Name) (b : List Item) (aim : Name) → StandsAt U d (Held u q) b aim → (w : ℕ) (a n : Name) (c k : Place) → IsBroughtFrom (Held u q) (up_to b d aim) (Led w n) c → IsBroughtFrom (Held u q) (up_to b d aim) (Now w n) k → Ahead W a c → Ahead U a k
    keeps_brought u q d b aim s w a n c k f g i = go (h.leading w n)
      where
        go : (Now w n ≡ Led w n) ⊎ ((o : Name) × (Led w n ≡ End (Held v p) o) × NotHeld (Now w n)) → Ahead U a k
        go (inl e) = subst (Ahead U a) (brought_once (Held u q) (up_to b d aim) (Led w n) c k f (subst (λ z. IsBroughtFrom (Held u q) (up_to b d aim) z k) e g))
            (same_brought (Held u q) (up_to b d aim) a (Led w n) c (brought_from (Held u q) (up_to b d aim) (Led w n) c f) (λ j. subst (Ahead U a) e (h.references w n a j)) i)
        go (inr e) = subst (Ahead U a) (sym (is_there u q (up_to b d aim) (Now w n) k e.2 (brought_from (Held u q) (up_to b d aim) (Now w n) k g)))
            (h.references w n a (subst (Ahead W a) (was_there (Held u q) (up_to b d aim) (Led w n) c e.0 (λ j. h.empty d b aim (subst (λ z. StandsAt U d z b aim) j s)) e.1 (brought_from (Held u q) (up_to b d aim) (Led w n) c f)) i))

    still_brought : (a b : ℕ) (front : List (Note Name)) (d : Delivery Name) (n : Name) (ys : Passeds Name) → WasBrought script honest x y a b front d n ys → IsStillBrought script honest x y a b front d n ys
    still_brought a b front d n ys w = record {
      before = w.before;
      brings = w.brings;
      keeps = λ c m s. inr (subst (λ is. Ahead U c (Mid (Way a b) (is ++ item d.message n ∷ []) m)) w.behind (h.places (Way a b) (delivered w.before ++ item d.message n ∷ []) m c s));
    }

    standing : (m : Name) (l : Lane) (b : List Item) (n : Name) → StandsAt W m l b n ⊎ WentOn m l b n → IsStanding script honest x y m l b n
    standing m l b n (inl s) = record { lane = l; before = b; aim = n; stood = s; keeps = λ a t. inr (h.places l b n a t) }
    standing m l b n (inr s) = record { lane = Held v p; before = s.before; aim = s.aim; stood = s.stood; keeps = λ a t. inr (s.behind a t) }

    pub lets_go_small : SmallStep script honest x y
    lets_go_small = record {
      line = None;
      quiet = h.told;
      lines = h.lines;
      all_quiet = h.quiet;
      told = tt;
      references = λ a n u s. inr (h.references u n a s);
      messages = λ m l b n s. inl (standing m l b n (h.stands m l b n s));
      passings = λ a b front d n ys s. inl (still_brought a b front d n ys (h.brought a b front d n ys s));
      carriers = λ u q d aim b s. inl (record { before = b; aim = aim; stood = h.holds u q d b aim s; keeps = λ a n c k f g t. inr (keeps_brought u q d b aim s u a n c k f g t) });
    }
