-- What is ahead stays ahead as a name settles and what it held is sent on.
use Rattle.std.proofs.Common.{◌≡◌, ℕ, Bool, true, false, refl, sym, subst, ◌⊎◌, inl, inr}
use Rattle.std.specs.Prelude.{Some, slice_get}
use Rattle.def_machine.specs.Values.{Name, Value}
use Rattle.def_machine.specs.State.{Vat}
use Rattle.def_run.specs.World.{Script, World, names}
use Rattle.law_order.specs.Ordering.Ways.{Lane, Held, Way, Place, Free, End, Mid, Ways, IsIn, IsOneWay, Doom, nowhere, by_end, by_mid, Follows, doomed, one_way, alike, beside, Ahead, doomed_there, in_end, in_mid, past_end, past_mid}
use Rattle.law_order.specs.Ordering.Turns.{Reroutes, stays_so, IsTurned}
use Rattle.law_order.specs.Ordering.Places.{ways, amid}
use Rattle.law_order.specs.Ordering.Messages.{StaysBehind}
use Rattle.law_order.specs.Ordering.Settle.{SettlesHere, passed_by, onward_to, led_to, emptied, KeepsBy, SentOn, aimed_at, IsReady, SendingOnKeeps, SettlingKeeps}
use Rattle.law_order.proofs.Ordering.Named.{Test, test_is, passes_mid}
use Rattle.law_order.proofs.Ordering.Turned.{turning_keeps, passing_by_keeps}
use Rattle.law_order.proofs.Ordering.OrderPassing.{settled_is_passed}
use Rattle.law_order.proofs.Ordering.Messages.{behind_then, comes_behind}

abbrev IsNotFree : Place → Type 0
IsNotFree Free = ⊥
IsNotFree other = Unit {0}

module _ (w u : Ways) (v : ℕ) (p : Name) (e : Place) (g : SentOn w u v p e) where
  doom_not_free : (c : Place) → Doom u c → IsNotFree c
  doom_not_free c nowhere = tt
  doom_not_free c (by_end h) = tt
  doom_not_free c (by_mid h) = tt

  abbrev Lanes : Lane → Name → Type 0
  Lanes l n = (u.onward l n ≡ w.onward l n) ⊎ (IsOneWay l × (w.onward l n ≡ Free))

  doom_lane : (l : Lane) (n : Name) → Lanes l n → Doom u (w.onward l n) → Doom u (u.onward l n)
  doom_lane l n (inl q) h = subst (Doom u) (sym q) h
  doom_lane l n (inr q) h = absurd (subst IsNotFree q.1 (doom_not_free (w.onward l n) h))

  doom_on : (c : Place) → Doom w c → Doom u c
  doom_on c nowhere = nowhere
  doom_on c (by_end {l = l} {n = n} h) = by_end (doom_lane l n (g.lanes l n) (doom_on (w.onward l n) h))
  doom_on c (by_mid {l = l} {n = n} h) = by_mid (doom_lane l n (g.lanes l n) (doom_on (w.onward l n) h))

  link_on : (a b : ℕ) (n : Name) → Lanes (Way a b) n → u.onward (Way a b) n ≡ w.onward (Way a b) n
  link_on a b n (inl q) = q
  link_on a b n (inr q) = absurd q.0

  beside_on : (l : Lane) (m n : Name) → Follows u (w.onward l m) (w.onward l n) → Follows u (End l m) (End l n)
  beside_on (Way a b) m n h = beside (subst (λ c. Follows u c (u.onward (Way a b) n)) (sym (link_on a b m (g.lanes (Way a b) m))) (subst (λ c. Follows u (w.onward (Way a b) m) c) (sym (link_on a b n (g.lanes (Way a b) n))) h))
  beside_on other m n h = one_way tt

  follows_on : (c d : Place) → Follows w c d → Follows u c d
  follows_on c d (doomed h) = doomed (doom_on d h)
  follows_on c d (one_way i) = one_way i
  follows_on c d alike = alike
  follows_on c d (beside {l = l} {m = m} {n = n} h) = beside_on l m n (follows_on (w.onward l m) (w.onward l n) h)

  module _ (x : Name) where
    ahead_not_free : (c : Place) → Ahead u x c → IsNotFree c
    ahead_not_free c (doomed_there h) = doom_not_free c h
    ahead_not_free c (in_end i h) = tt
    ahead_not_free c (in_mid i h) = tt
    ahead_not_free c (past_end h) = tt
    ahead_not_free c (past_mid h) = tt

    ahead_lane : (l : Lane) (n : Name) → Lanes l n → Ahead u x (w.onward l n) → Ahead u x (u.onward l n)
    ahead_lane l n (inl q) h = subst (Ahead u x) (sym q) h
    ahead_lane l n (inr q) h = absurd (subst IsNotFree q.1 (ahead_not_free (w.onward l n) h))

    moved_on : (l : Lane) (n : Name) → l ≡ Held v p → Ahead u x e → Ahead u x (End l n)
    moved_on l n q h = subst (λ k. Ahead u x (End k n)) (sym q) (past_end (subst (Ahead u x) (sym (g.leads n)) h))

    stood_on : (l : Lane) (m n : Name) → Follows u (End l m) (End l n) → IsIn (record { mail = x; aim = m }) (u.stands l) ⊎ ((l ≡ Held v p) × Ahead u x e) → Ahead u x (End l n)
    stood_on l m n h (inl i) = in_end i h
    stood_on l m n h (inr i) = moved_on l n i.0 i.1

    ahead_on : (c : Place) → Ahead w x c → Ahead u x c
    ahead_on c (doomed_there h) = doomed_there (doom_on c h)
    ahead_on c (in_end {l = l} {m = m} {n = n} i h) = stood_on l m n (follows_on (End l m) (End l n) h) (g.stands l (record { mail = x; aim = m }) i)
    ahead_on c (in_mid {l = l} {m = m} {n = n} i h) = in_mid i (follows_on (End l m) (End l n) h)
    ahead_on c (past_end {l = l} {n = n} h) = past_end (ahead_lane l n (g.lanes l n) (ahead_on (w.onward l n) h))
    ahead_on c (past_mid {l = l} {n = n} h) = past_mid (ahead_lane l n (g.lanes l n) (ahead_on (w.onward l n) h))

pub sending_on_keeps : SendingOnKeeps
sending_on_keeps = λ w u v p e g c. (λ h. doom_on w u v p e g c h, λ x h. ahead_on w u v p e g x c h)

-- ---- one after the other

pub keeps_then : (w u z : Ways) (f h : Place → Place) → KeepsBy w u f → KeepsBy u z h → KeepsBy w z (λ c. h (f c))
keeps_then w u z f h a b = λ c. (λ i. (b (f c)).0 ((a c).0 i), λ x i. (b (f c)).1 x ((a c).1 x i))

module _ (w : Ways) (v : ℕ) (p : Name) (e : Place) (ready : IsReady w v p e) where
  abbrev Led : Ways
  Led = led_to w v p e

  abbrev Rerouted : Place → Place → Type 0
  Rerouted = Reroutes w Led

  held_turned : (u : ℕ) (q n : Name) → Rerouted (w.onward (Held u q) n) (onward_to w.onward v p e (Held u q) n)
  unfolding onward_to
  held_turned u q n = go (Test v p u q) refl
    where
      go : (c : Bool) → Test v p u q ≡ c → Rerouted (w.onward (Held u q) n) (elim c [ true ↦ e | false ↦ w.onward (Held u q) n ])
      go true i = let h = test_is v p u q i in subst (λ z. Rerouted (w.onward (Held z q) n) e) (sym h.0) (subst (λ z. Rerouted (w.onward (Held v z) n) e) (sym h.1) (ready n))
      go false i = stays_so

  lane_turned : (l : Lane) (n : Name) → Rerouted (w.onward l n) (onward_to w.onward v p e l n)
  unfolding onward_to
  lane_turned (Held u q) n = held_turned u q n
  lane_turned other n = stays_so

  pub turned : IsTurned w Led
  unfolding led_to onward_to
  turned = record { stands = λ l i h. h; links = λ a b n. refl; lanes = λ l n i. lane_turned l n }

  pub starting_keeps : KeepsBy w Led (λ c. c)
  starting_keeps = λ c. turning_keeps w Led turned c c stays_so

pub settling_keeps : SettlingKeeps
settling_keeps = λ script honest w v r s m t p y at g ready sent.
    let e = aimed_at script v t y in
    let w0 = ways script honest (amid v s w) in
    let w1 = led_to w0 v p e in
    let w2 = emptied (led_to (ways script honest (amid v m w)) v p e) v p in
    let w3 = ways script honest (amid v t w) in
    keeps_then w0 w1 w3 (λ c. c) (passed_by v p e) (starting_keeps w0 v p e ready)
    (keeps_then w1 w2 w3 (λ c. c) (passed_by v p e) (sending_on_keeps w1 w2 v p e sent)
    (passing_by_keeps w2 w3 v p e (passed_by v p e) (settled_is_passed script honest w v r m t p y at g)))

-- What was ahead of where the lane led is ahead of what comes there behind all that stood at that end.
pub settling_leads : (script : Script) (honest : ℕ → Bool) (w : World) (v : ℕ) (r s m t : Vat Name) (p : Name) (y : Value Name)
    → slice_get w.vats v ≡ Some r → SettlesHere (names script v) m t p y v
    → let e = aimed_at script v t y in let a = ways script honest (amid v s w) in let d = ways script honest (amid v t w) in IsReady a v p e
    → SentOn (led_to a v p e) (emptied (led_to (ways script honest (amid v m w)) v p e) v p) v p e
    → (n : Name) (l : Lane) (o : Name) → e ≡ End l o → StaysBehind a d (a.onward (Held v p) n) (Mid l (a.stands l) o)
unfolding led_to
settling_leads = λ script honest w v r s m t p y at g ready sent n l o q.
    let e = aimed_at script v t y in
    let w0 = ways script honest (amid v s w) in
    let w1 = led_to w0 v p e in
    let w2 = emptied (led_to (ways script honest (amid v m w)) v p e) v p in
    let w3 = ways script honest (amid v t w) in
    let c = w0.onward (Held v p) n in
    let d = Mid l (w0.stands l) o in
    let first : StaysBehind w0 w1 c (End l o) = subst (λ z. StaysBehind w0 w1 c z) q (turning_keeps w0 w1 (turned w0 v p e ready) c e (ready n)) in
    let last : StaysBehind w1 w3 d (passed_by v p e d) = behind_then w1 w2 w3 d d (passed_by v p e d) (sending_on_keeps w1 w2 v p e sent d) (passing_by_keeps w2 w3 v p e (passed_by v p e) (settled_is_passed script honest w v r m t p y at g) d) in
    behind_then w0 w1 w3 c (End l o) d first
    (behind_then w1 w1 w3 (End l o) d d (comes_behind w1 l (w0.stands l) o (λ i h. h)) (subst (λ z. StaysBehind w1 w3 d z) (passes_mid v p e l (w0.stands l) o) last))
