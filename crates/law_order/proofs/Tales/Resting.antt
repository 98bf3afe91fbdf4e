-- A step by which no message moves is a small step.
use Rattle.std.proofs.Common.{◌≡◌, ℕ, Bool, false, List, [], ◌∷◌, ◌++◌, None, subst, ◌⊎◌, inl, inr}
use Rattle.def_machine.specs.Values.{Name, Ref}
use Rattle.def_machine.specs.State.{Passeds, Delivery, Note}
use Rattle.def_run.specs.World.{Script, World}
use Rattle.law_order.specs.Ordering.Ways.{Lane, Held, Way, Item, Place, Nowhere, End, Mid, Ways, nowhere, Ahead, doomed_there}
use Rattle.law_order.specs.Ordering.Places.{item, delivered, leads, ways}
use Rattle.law_order.specs.Ordering.Messages.{StandsAt}
use Rattle.law_order.specs.History.Lines.{was_sent}
use Rattle.law_order.specs.History.Befores.{up_to, IsBroughtFrom, in_lane, apart}
use Rattle.law_order.specs.History.Tells.{IsStanding, IsStillBrought, SmallStep}
use Rattle.law_order.proofs.History.Same.{brought_once}
use Rattle.law_order.specs.Tales.Resting.{WasBrought, Rests, RestingIsSmall}

end_apart : (l : Lane) (n : Name) → Nowhere ≡ End l n → ⊥
end_apart l n e = cc

module _ (script : Script) (honest : ℕ → Bool) (x y : World) (h : Rests script honest x y) where
  abbrev W : Ways
  W = ways script honest x

  abbrev U : Ways
  U = ways script honest y

  abbrev Led : ℕ → Name → Place
  Led v n = leads script honest x.vats x.links v (Ref n)

  abbrev Now : ℕ → Name → Place
  Now v n = leads script honest y.vats y.links v (Ref n)

  -- what a message would bring stays behind what it was behind
  keeps_brought : (l : Lane) (b : List Item) (a : Name) (p q c k : Place) → (q ≡ p) ⊎ (q ≡ Nowhere) → (Ahead W a p → Ahead U a q) → IsBroughtFrom l b p c → IsBroughtFrom l b q k → Ahead W a c → Ahead U a k
  keeps_brought l b a p q c k (inr e) r f g s = subst (Ahead U a) (brought_once l b Nowhere Nowhere k (apart (λ n i. end_apart l n i)) (subst (λ z. IsBroughtFrom l b z k) e g)) (doomed_there nowhere)
  keeps_brought l b a p q c k (inl e) r f g s = subst (Ahead U a) (brought_once l b p c k f (subst (λ z. IsBroughtFrom l b z k) e g)) (there p c f (λ t. subst (Ahead U a) e (r t)) s)
    where
      there : (p c : Place) → IsBroughtFrom l b p c → (Ahead W a p → Ahead U a p) → Ahead W a c → Ahead U a c
      there p c (in_lane {n = n}) t s = h.places l b n a s
      there p c (apart i) t s = t s

  still_brought : (u v : ℕ) (front : List (Note Name)) (d : Delivery Name) (n : Name) (ys : Passeds Name) → WasBrought script honest x y u v front d n ys → IsStillBrought script honest x y u v front d n ys
  still_brought u v front d n ys w = record {
    before = w.before;
    brings = w.brings;
    keeps = λ a m s. inr (subst (λ is. Ahead U a (Mid (Way u v) (is ++ item d.message n ∷ []) m)) w.behind (h.places (Way u v) (delivered w.before ++ item d.message n ∷ []) m a s));
  }

  standing : (m : Name) (l : Lane) (c : List Item) (n : Name) → StandsAt W m l c n ⊎ (was_sent m x.history ≡ false) → IsStanding script honest x y m l c n ⊎ (was_sent m x.history ≡ false)
  standing m l c n (inl s) = inl (record { lane = l; before = c; aim = n; stood = s; keeps = λ a t. inr (h.places l c n a t) })
  standing m l c n (inr e) = inr e

  pub resting : SmallStep script honest x y
  resting = record {
    line = None;
    quiet = h.told;
    lines = h.lines;
    all_quiet = h.quiet;
    told = tt;
    references = λ a n v s. inr (h.references v n a s);
    messages = λ m l c n s. standing m l c n (h.stands m l c n s);
    passings = λ u v front d n ys b. inl (still_brought u v front d n ys (h.brought u v front d n ys b));
    carriers = λ v p d aim b s. inl (record {
      before = b;
      aim = aim;
      stood = h.holds v p d b aim s;
      keeps = λ a n c k f g t. inr (keeps_brought (Held v p) (up_to b d aim) a (Led v n) (Now v n) c k (h.leading v n) (h.references v n a) f g t);
    });
  }

pub resting_is_small : RestingIsSmall
resting_is_small script honest x y h = resting script honest x y h
