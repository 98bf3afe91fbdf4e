-- Each thing keeps its order from the place that it had to the place that it has.
use Rattle.std.proofs.Common.{ℕ, Bool, List, sym, subst}
use Rattle.def_machine.specs.Values.{Name}
use Rattle.def_machine.specs.State.{Vat}
use Rattle.def_run.specs.World.{Script, World}
use Rattle.law_order.specs.Ordering.Ways.{Held, Item, Mid, Ways}
use Rattle.law_order.specs.Ordering.Messages.{StaysBehind}
use Rattle.law_order.specs.Ordering.Steps.{WaysAmid, LeadsAmid, Grown, IsSentOn, still_held, sent_there, now_lost, KeepsOrder, StaysInOrder}
use Rattle.law_order.proofs.Ordering.Changes.{growing_keeps}
use Rattle.law_order.proofs.Ordering.Messages.{behind_then}
use Rattle.law_order.proofs.Ordering.Standing.{stands_more}

module _ (script : Script) (honest : ℕ → Bool) (w : World) (v : ℕ) where
  abbrev W : Vat Name → Ways
  W s = WaysAmid script honest w v s

  abbrev Kept : Vat Name → Vat Name → Type 0
  Kept s t = KeepsOrder script honest w v s t

  -- what only grows
  pub kept_grown : (s t : Vat Name) → Grown script honest w v s t → Kept s t
  kept_grown s t g = record {
    references = λ u x. subst (λ c. StaysBehind (W s) (W t) (LeadsAmid script honest w v s u x) c) (sym (g.leading u x)) (growing_keeps (W s) (W t) g.grows (LeadsAmid script honest w v s u x));
    places = λ l b n. growing_keeps (W s) (W t) g.grows (Mid l b n);
    apart = λ m l b n i h. stands_more (W s) (W t) m l b n (g.more l) h;
    held = λ m p b n h. still_held (stands_more (W s) (W t) m (Held v p) b n (g.more (Held v p)) h);
  }

  module _ (s t u : Vat Name) (g : Kept s t) (h : Kept t u) where
    held_then : (m p : Name) (b : List Item) (n : Name) → IsSentOn script honest w v s t m p b n → IsSentOn script honest w v s u m p b n
    held_then m p b n (still_held i) = held_on (h.held m p b n i)
      where
        held_on : IsSentOn script honest w v t u m p b n → IsSentOn script honest w v s u m p b n
        held_on (still_held j) = still_held j
        held_on (sent_there {l = l} {a = a} {o = o} c j k) = sent_there c j (behind_then (W s) (W t) (W u) (Mid (Held v p) b n) (Mid (Held v p) b n) (Mid l a o) (g.places (Held v p) b n) k)
        held_on (now_lost j) = now_lost j
    held_then m p b n (sent_there {l = l} {a = a} {o = o} c i k) = sent_there c (h.apart m l a o c i) (behind_then (W s) (W t) (W u) (Mid (Held v p) b n) (Mid l a o) (Mid l a o) k (h.places l a o))
    held_then m p b n (now_lost i) = now_lost ((h.places (Held v p) b n).0 i)

    pub kept_then : Kept s u
    kept_then = record {
      references = λ k x. behind_then (W s) (W t) (W u) (LeadsAmid script honest w v s k x) (LeadsAmid script honest w v t k x) (LeadsAmid script honest w v u k x) (g.references k x) (h.references k x);
      places = λ l b n. behind_then (W s) (W t) (W u) (Mid l b n) (Mid l b n) (Mid l b n) (g.places l b n) (h.places l b n);
      apart = λ m l b n i j. h.apart m l b n i (g.apart m l b n i j);
      held = λ m p b n i. held_then m p b n (g.held m p b n i);
    }

  abbrev InOrder : Vat Name → Vat Name → Type 0
  InOrder s t = StaysInOrder script honest w v s t

  pub order_then : (s t u : Vat Name) → InOrder s t → InOrder t u → InOrder s u
  order_then s t u g h = (λ r. h.0 (g.0 r), kept_then s t u g.1 h.1)
