-- Ways that agree at all names by which something comes to a lane.
use Rattle.std.proofs.Common.{◌≡◌, Bool, true, sym, subst}
use Rattle.def_machine.specs.Values.{Name}
use Rattle.law_order.specs.Ordering.Ways.{Lane, Place, End, Ways, Doom, nowhere, by_end, by_mid, Follows, doomed, one_way, alike, beside, Ahead, doomed_there, in_end, in_mid, past_end, past_mid}
use Rattle.law_order.specs.Ordering.Arrivals.{IsGoodPlace, Agree, AgreeingKeeps}

module _ (Good : Lane → Name → Bool) (w u : Ways) (g : Agree Good w u) where
  abbrev Fits : Place → Type 0
  Fits = IsGoodPlace Good

  doom_on : (l : Lane) (n : Name) → Good l n ≡ true → Doom u (w.onward l n) → Doom u (u.onward l n)
  doom_on l n h d = subst (Doom u) (sym (g.onward l n h)) d

  doom_agrees : (c : Place) → Fits c → Doom w c → Doom u c
  doom_agrees c h nowhere = nowhere
  doom_agrees c h (by_end {l = l} {n = n} d) = by_end (doom_on l n h (doom_agrees (w.onward l n) (g.places l n h) d))
  doom_agrees c h (by_mid {l = l} {n = n} d) = by_mid (doom_on l n h.0 (doom_agrees (w.onward l n) (g.places l n h.0) d))

  follows_on : (l : Lane) (m n : Name) → Good l m ≡ true → Good l n ≡ true → Follows u (w.onward l m) (w.onward l n) → Follows u (u.onward l m) (u.onward l n)
  follows_on l m n h k f = subst (λ c. Follows u c (u.onward l n)) (sym (g.onward l m h)) (subst (λ d. Follows u (w.onward l m) d) (sym (g.onward l n k)) f)

  follows_agree : (c d : Place) → Fits c → Fits d → Follows w c d → Follows u c d
  follows_agree c d h k (doomed q) = doomed (doom_agrees d k q)
  follows_agree c d h k (one_way i) = one_way i
  follows_agree c d h k alike = alike
  follows_agree c d h k (beside {l = l} {m = m} {n = n} f) = beside (follows_on l m n h k (follows_agree (w.onward l m) (w.onward l n) (g.places l m h) (g.places l n k) f))

  module _ (x : Name) where
    ahead_on : (l : Lane) (n : Name) → Good l n ≡ true → Ahead u x (w.onward l n) → Ahead u x (u.onward l n)
    ahead_on l n h a = subst (Ahead u x) (sym (g.onward l n h)) a

    ahead_agrees : (c : Place) → Fits c → Ahead w x c → Ahead u x c
    ahead_agrees c h (doomed_there d) = doomed_there (doom_agrees c h d)
    ahead_agrees c h (in_end {l = l} {m = m} {n = n} i f) = in_end (g.stands l (record { mail = x; aim = m }) i) (follows_agree (End l m) (End l n) (g.items l (record { mail = x; aim = m }) i) h f)
    ahead_agrees c h (in_mid {l = l} {b = b} {m = m} {n = n} i f) = in_mid i (follows_agree (End l m) (End l n) (h.1 (record { mail = x; aim = m }) i) h.0 f)
    ahead_agrees c h (past_end {l = l} {n = n} a) = past_end (ahead_on l n h (ahead_agrees (w.onward l n) (g.places l n h) a))
    ahead_agrees c h (past_mid {l = l} {n = n} a) = past_mid (ahead_on l n h.0 (ahead_agrees (w.onward l n) (g.places l n h.0) a))

pub agreeing_keeps : AgreeingKeeps
agreeing_keeps = λ Good w u g c h. (λ d. doom_agrees Good w u g c h d, λ x a. ahead_agrees Good w u g x c h a)
