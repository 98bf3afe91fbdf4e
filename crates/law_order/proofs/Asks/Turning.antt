-- Where what waits for each gift turns, so does what each vat holds.
use Rattle.std.proofs.Common.{ℕ, Bool, true, false, List, Option, Some, None}
use Rattle.std.specs.Prelude.{slice_get, not, ◌==◌, ◌&&◌}
use Rattle.def_machine.specs.Values.{Name, Gift}
use Rattle.def_machine.specs.State.{Standing, Unsettled, GiftEntry, Vat}
use Rattle.def_machine.specs.Refs.{standing_of}
use Rattle.def_run.specs.World.{Script, Link, names}
use Rattle.law_order.specs.Ordering.Ways.{Lane, Queue, Held, Way, Free, Ways, IsOneWay}
use Rattle.law_order.specs.Ordering.Turns.{Reroutes, stays_so}
use Rattle.law_order.specs.Ordering.Places.{opened_there, gift_place, leads, unsettled, released, released_at, onward_at}

module _ (script : Script) (honest : ℕ → Bool) (vs : List (Vat Name)) (ks ls : List Link) (w u : Ways) (gifts : (g j : ℕ) → Reroutes w u (gift_place script honest g j ks) (gift_place script honest g j ls)) where
  unsettled_if : (x : Bool) (g j : ℕ) → Reroutes w u (elim x [ true ↦ gift_place script honest g j ks | false ↦ Free ]) (elim x [ true ↦ gift_place script honest g j ls | false ↦ Free ])
  unsettled_if true g j = gifts g j
  unsettled_if false g j = stays_so

  unsettled_turns : (v : ℕ) (p : Name) (gs : List (GiftEntry Name)) → Reroutes w u (unsettled script honest vs ks v p gs) (unsettled script honest vs ls v p gs)
  unfolding unsettled
  unsettled_turns v (Gift g j) gs = unsettled_if ((g == v) && not (opened_there (Gift g j) gs)) g j
  unsettled_turns v other gs = stays_so

  released_turns : (v : ℕ) (p : Name) (gs : List (GiftEntry Name)) (x : Standing Name) → Reroutes w u (released script honest vs ks v p gs x) (released script honest vs ls v p gs x)
  unfolding released leads
  released_turns v p gs Unsettled = unsettled_turns v p gs
  released_turns v p gs other = stays_so

  held_turns : (v : ℕ) (p : Name) (o : Option (Vat Name)) → Reroutes w u (released_at script honest vs ks v p o) (released_at script honest vs ls v p o)
  unfolding released_at
  held_turns v p (Some x) = released_turns v p x.gifts (standing_of (names script v) x.known p)
  held_turns v p None = stays_so

  pub lane_turns : (l : Lane) (n : Name) → IsOneWay l → Reroutes w u (onward_at script honest vs ks l n) (onward_at script honest vs ls l n)
  unfolding onward_at
  lane_turns (Queue v) n h = stays_so
  lane_turns (Held v p) n h = held_turns v p (slice_get vs v)
  lane_turns (Way x y) n h = absurd h
