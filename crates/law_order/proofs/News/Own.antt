-- What grew and then kept the receiver's own kept that; and what no vat knows as a name was opened nowhere.
use Rattle.std.proofs.Common.{◌≡◌, ℕ, Bool, true, false, List, [], ◌∷◌, refl, ap, subst, ◌∙◌}
use Rattle.std.specs.Prelude.{◌&&◌, ◌||◌}
use Rattle.def_machine.specs.Values.{Value, Name, same_name}
use Rattle.def_machine.specs.State.{Settled, GiftEntry, Vat}
use Rattle.def_run.specs.World.{Script, World}
use Rattle.law_fate.specs.Name.Names.{AllOf, IsHad, IsKnownIn, GiftOk}
use Rattle.law_fate.proofs.Name.SameNames.{same_is}
use Rattle.law_order.specs.Ordering.Ways.{Held, Item, Mid, Ways}
use Rattle.law_order.specs.Ordering.Steps.{WaysAmid, LeadsAmid, IsSentOn, still_held, sent_there, now_lost, Grown}
use Rattle.law_order.specs.Ordering.Places.{opened_there}
use Rattle.law_order.proofs.Ordering.Messages.{behind_then}
use Rattle.law_order.proofs.Ordering.Remaining.{kept_grown}
use Rattle.law_order.proofs.Ordering.Standing.{stands_more}
use Rattle.law_order.specs.Arrivals.Wholes.{KeepsOwnOrder}

pub settled_same : (y z : Value Name) → Settled y ≡ Settled z → y ≡ z
settled_same y z e = cc

-- ---- growth, and then what keeps the receiver's own

module _ (script : Script) (honest : ℕ → Bool) (w : World) (v : ℕ) (s t u : Vat Name) (g : Grown script honest w v s t) (h : KeepsOwnOrder script honest w v t u) where
  abbrev W : Vat Name → Ways
  W q = WaysAmid script honest w v q

  held_after : (m p : Name) (b : List Item) (n : Name) → IsSentOn script honest w v t u m p b n → IsSentOn script honest w v s u m p b n
  held_after m p b n (still_held i) = still_held i
  held_after m p b n (sent_there {l = l} {a = a} {o = o} c j k) = sent_there c j (behind_then (W s) (W t) (W u) (Mid (Held v p) b n) (Mid (Held v p) b n) (Mid l a o) ((kept_grown script honest w v s t g).places (Held v p) b n) k)
  held_after m p b n (now_lost i) = now_lost i

  pub grown_own : KeepsOwnOrder script honest w v s u
  grown_own = let first = kept_grown script honest w v s t g in record {
    references = λ k x. behind_then (W s) (W t) (W u) (LeadsAmid script honest w v s k x) (LeadsAmid script honest w v t k x) (LeadsAmid script honest w v u k x) (first.references k x) (h.references k x);
    passings = λ l b m i. behind_then (W s) (W t) (W u) (Mid l b m) (Mid l b m) (Mid l b m) (first.places l b m) (h.passings l b m i);
    apart = λ m l b n i j. h.apart m l b n i (stands_more (W s) (W t) m l b n (g.more l) j);
    held = λ m p b n j. held_after m p b n (h.held m p b n (stands_more (W s) (W t) m (Held v p) b n (g.more (Held v p)) j));
  }

-- none of that name was opened, where none of its gifts is known
module _ (m : Name) (ns mails : List Name) (unknown : IsKnownIn ns m → ⊥) where
  unopened : (g : GiftEntry Name) (c : Bool) → IsKnownIn ns g.name → same_name g.name m ≡ c → (c && g.opened) ≡ false
  unopened g true i f = absurd (unknown (subst (IsKnownIn ns) (same_is g.name m f) i))
  unopened g false i f = refl

  pub none_opened : (gs : List (GiftEntry Name)) → AllOf (GiftOk (IsHad ns mails)) gs → opened_there m gs ≡ false
  unfolding opened_there
  none_opened [] h = refl
  none_opened (g ∷ gs) h = ap (λ c. c || opened_there m gs) (unopened g (same_name g.name m) h.0.0 refl) ∙ none_opened gs h.1
