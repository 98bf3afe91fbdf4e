-- As a turn begins its places are counted, and so they stay as a vat goes on.
use Rattle.std.proofs.Common.{◌≡◌, ℕ, Bool, List, [], ◌∷◌, Some, refl, arith}
use Rattle.std.specs.Prelude.{slice_get}
use Rattle.def_machine.specs.Values.{Name}
use Rattle.def_machine.specs.State.{Message, Vat}
use Rattle.def_run.specs.World.{Opens, Turned, World, readied}
use Rattle.law_fate.specs.Fates.Fate.{one, total, among, at_vat, took_by, sent_by, sent, takes, gone, sent_in, gone_here, sent_here, account}
use Rattle.law_fate.specs.Fates.FateLaws.{Accounted}
use Rattle.law_fate.specs.Fates.Carry.{carried_by, carries}
use Rattle.law_order.specs.History.Takes.{taken_state}
use Rattle.law_order.specs.Sending.New.{Counted, IsBegun}

-- a turn with the message that it takes
pub turn_begins : (w : World) (v k : ℕ) (r : Vat Name) (m : Message Name) (ms : List (Message Name)) → slice_get w.vats v ≡ Some r → r.queue ≡ m ∷ ms → IsBegun w v (Turned k v ∷ []) (λ x. one m.id x) r (record r { queue = ms })
unfolding at_vat among sent takes carries total sent_by took_by carried_by
turn_begins w v k r m ms there e = record { found = there; numbers = refl; places = λ x. rw e (omega arith); sends = λ x. refl; taking = λ x. refl; carrying = λ x. refl }

-- an opening turn
pub opening_begins : (w : World) (v : ℕ) (r : Vat Name) → slice_get w.vats v ≡ Some r → IsBegun w v (Opens v ∷ []) (λ x. 0) r r
unfolding sent takes carries total sent_by took_by carried_by
opening_begins w v r there = record { found = there; numbers = refl; places = λ x. omega arith; sends = λ x. refl; taking = λ x. refl; carrying = λ x. refl }

module _ (w : World) (v : ℕ) (came : Name → ℕ) (q : Vat Name) where
  pub begun_counted : Counted w v came q (readied w q)
  begun_counted cut x = record { kept = omega arith; fresh = omega arith }

  -- all that a vat does but to take keeps them counted
  pub counted_then : (s t : Vat Name) → Counted w v came q s → ((cut : ℕ → Bool) (x : Name) → Accounted cut v x 0 s t) → Counted w v came q t
  counted_then s t c a cut x = let h = c cut x in let k = a cut x in let b = h.kept in let d = h.fresh in let e = k.kept in let f = k.fresh in record { kept = omega arith; fresh = omega arith }

-- the message is taken with which the turn began
pub took_counted : (w : World) (v act : ℕ) (m : Message Name) (r : Vat Name) (ms : List (Message Name)) → Counted w v (λ x. one m.id x) (record r { queue = ms }) (taken_state act m ms (readied w (record r { queue = ms })))
unfolding readied account at_vat gone sent_in gone_here sent_here
took_counted w v act m r ms cut x = record { kept = omega arith; fresh = omega arith }
