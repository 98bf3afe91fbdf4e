-- In a steady state in which the answer of what a turn took is in hand, that is known, unsettled and the vat's own, so it may be resolved, and may break.
use Rattle.std.proofs.Common.{◌≡◌, ℕ, ◌+◌, ◌*◌, ◌≤◌, Bool, true, Option, Some, refl, sym, ap, ◌∙◌, arith}
use Rattle.std.specs.Prelude.{slice_get}
use Rattle.def_machine.specs.Values.{Name, Naming, naming, host_of}
use Rattle.def_machine.specs.State.{Unsettled, Known, Vat}
use Rattle.def_machine.specs.Refs as refs
use Rattle.def_machine.specs.Refs.{entry_of, standing_of}
use Rattle.def_run.specs.Draws.{draw_word}
use Rattle.def_run.specs.World.{Script, World, names}
use Rattle.law_fate.specs.Fates.Fate.{one}
use Rattle.law_order.specs.Waits.Answers.{answered_by}
use Rattle.law_order.proofs.Waits.Classes.{owed_at, fit_at}
use Rattle.law_order.proofs.Waits.Costs as costs
use Rattle.law_order.proofs.Waits.Counts.{one_self}
use Rattle.law_order.proofs.Waits.Room as room
use Rattle.law_order.proofs.Waits.Room.{share, share_most, times}
use Rattle.law_order.proofs.Waits.Sends.{IsFit}
use Rattle.law_order.proofs.Steady.Facts.{hand_host, hand_owed, hand_unsettled}
use Rattle.law_order.proofs.Steady.Steady.{Steady, less}

-- a name that is owed and in hand is known
known_by : (word : ℕ → ℕ) (v : ℕ) (a : Name) (c : ℕ) (t : Vat Name) → 1 ≤ c → costs.At word v a (owed_at v a) c t → owed_at v a ≡ true → (k : Known Name) × (entry_of (naming word v) t.known a ≡ Some k)
known_by word v a c t l h e = let fit : IsFit v a (owed_at v a) = fit_at v a in let fits = h.fits in let most = share_most (owed_at v a) (times a t.known) in room.times_found word v a (fit.eventual e) t.known (omega arith)

module _ (script : Script) (honest : ℕ → Bool) (all : (h : ℕ) → honest h ≡ true) (w : World) (v : ℕ) (r : Vat Name) (at : slice_get w.vats v ≡ Some r) (answer : Option Name) where
  abbrev K : Naming Name Name
  K = names script v

  abbrev Hand : Name → ℕ
  Hand x = 2 * answered_by x answer

  abbrev Nothing : Name → ℕ
  Nothing x = 0

  abbrev S : Vat Name → Type 0
  S s = Steady script w v Hand Nothing s

  -- ---- what it is to answer is resolved, or breaks

  module _ (p : Name) (has : answer ≡ Some p) (s : Vat Name) (h : S s) where
    own_answer : answered_by p answer ≡ 1
    unfolding answered_by
    own_answer = ap (answered_by p) has ∙ one_self p p refl

    two : 2 ≤ Hand p
    two = let e = own_answer in omega arith

    once : 1 ≤ Hand p
    once = let e = two in omega arith

    pub stands : standing_of K s.known p ≡ Unsettled
    stands = (hand_unsettled script w v Hand Nothing s p h two).1

    pub owed : owed_at v p ≡ true
    owed = hand_owed script w v Hand Nothing s p h once

    pub host : host_of p ≡ v
    host = hand_host script w v Hand Nothing s p h once

    pub known : (k : Known Name) × (entry_of K s.known p ≡ Some k)
    unfolding names
    known = known_by (draw_word script.key) v p (Hand p) s once (h.room p) owed

    pub waits : known.0.standing ≡ Unsettled
    unfolding standing_of refs.standing_in
    waits = ap (λ z. refs.standing_in z) (sym known.1) ∙ stands

    answered : (x : Name) → answered_by x answer ≡ one p x
    unfolding answered_by
    answered x = ap (answered_by x) has

    pub in_hand : Steady script w v (λ x. 2 * share (owed_at v x) (one p x) + 0) Nothing s
    in_hand = less script w v Hand Nothing (λ x. 2 * share (owed_at v x) (one p x) + 0) Nothing (λ x. let a = answered x in let m = share_most (owed_at v x) (one p x) in omega arith) (λ x. omega arith) s h

    pub in_hand_once : Steady script w v (λ x. share (owed_at v x) (one p x) + 0) Nothing s
    in_hand_once = less script w v Hand Nothing (λ x. share (owed_at v x) (one p x) + 0) Nothing (λ x. let a = answered x in let m = share_most (owed_at v x) (one p x) in omega arith) (λ x. omega arith) s h
