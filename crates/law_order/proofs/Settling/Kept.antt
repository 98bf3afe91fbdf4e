-- What is kept of a vat, and of each message that its names hold, as a name of it breaks or is resolved in the middle of a step.
use Rattle.std.proofs.Common.{◌≡◌, ℕ, ◌+◌, ◌*◌, Bool, true, List, Some}
use Rattle.std.specs.Prelude.{slice_get}
use Rattle.def_machine.specs.Values.{Words, Value, Broken, Name, host_of}
use Rattle.def_machine.specs.State.{Message, Unsettled, Known, Vat, Gives}
use Rattle.def_machine.specs.Refs as refs
use Rattle.def_machine.specs.Refs.{entry_of}
use Rattle.def_run.specs.World.{Script, Event, World, names}
use Rattle.law_fate.specs.Fates.Fate.{one}
use Rattle.law_fate.specs.Name.Names.{IsAmong}
use Rattle.law_order.specs.Ordering.Settlings.{IsLoose}
use Rattle.law_order.specs.History.Tells.{Tale}
use Rattle.law_order.proofs.Steady.Steady.{Steady}
use Rattle.law_order.proofs.Steady.Wells.{MaySettle}
use Rattle.law_order.specs.Tales.Middle.{middle}
use Rattle.law_order.proofs.Waits.Classes.{owed_at}
use Rattle.law_order.proofs.Waits.Room.{share}
use Rattle.law_order.specs.Settling.Holding.{Holds, HeldCame, VatsAreSound}
use Rattle.law_order.proofs.Settling.Acts.{Told}
use Rattle.law_order.proofs.Settling.Later.{Later, holds_on}
use Rattle.law_order.proofs.Settling.Settling.{IsList, settle_tale}
use Rattle.law_order.proofs.Settling.Resolving.{resolve_tale}

module _ (script : Script) (honest : ℕ → Bool) (w : World) (v : ℕ) (head : List Event) where
  -- so it is of each message that a name holds
  abbrev pub AllHeld : (Vat Name → Message Name → Type 0) → Vat Name → Type 0
  AllHeld C s = (n : Name) (k : Known Name) → entry_of (names script v) s.known n ≡ Some k → (m : Message Name) → IsAmong m k.held → C s m

  -- what is so of a message is so still, whatever settles meanwhile
  abbrev pub StaysSo : (Vat Name → Message Name → Type 0) → Type 1
  StaysSo C = (L : Type 0) (s t : Vat Name) → Later script honest w v head L s t → (m : Message Name) → C s m → C t m

  pub all_held_on : (C : Vat Name → Message Name → Type 0) → StaysSo C → (L : Type 0) (s t : Vat Name) → Later script honest w v head L s t → AllHeld C s → AllHeld C t
  all_held_on C stays L s t g h n k e m i = let j = g.held n k e m i in stays L s t g m (h n j.known j.found m j.among)

  -- A tale, to a vat of which what is asked holds.
  abbrev pub ToldTo : (Vat Name → Message Name → Type 0) → Vat Name → Vat Name → Type 0
  ToldTo C s t = Tale script honest (middle w v head s) (middle w v head t) × (Holds script honest w v head t × AllHeld C t)

  pub told_to : (C : Vat Name → Message Name → Type 0) → StaysSo C → (L : Type 0) (s t : Vat Name) → Holds script honest w v head s → AllHeld C s → Told script honest w v head L s t → ToldTo C s t
  told_to C stays L s t holds held h = (h.tale, (holds_on script honest w v head L s t h.later holds, all_held_on C stays L s t h.later held))

  module _ (all : (h : ℕ) → honest h ≡ true) (r : Vat Name) (at : slice_get w.vats v ≡ Some r) (sound : VatsAreSound script w) (C : Vat Name → Message Name → Type 0) (stays : StaysSo C) (c o : Name → ℕ) (p : Name) (s t : Vat Name) (holds : Holds script honest w v head s) (held : AllHeld C s) where
    -- a name breaks
    pub broken_kept : (x : Words) → MaySettle script honest w v p (Broken x) s → Steady script w v (λ n. share (owed_at v n) (one p n) + c n) o s → refs.settle (names script v) p (Broken x) s ≡ Gives tt t → ToldTo C s t
    broken_kept x may h e = told_to C stays (IsList (Broken x)) s t holds held (settle_tale script honest all w v head r at (Broken x) tt sound c o p s t tt h may holds (λ i. absurd i) e).0

    -- a name that is the vat's own, of which a resolver is in hand, is resolved
    pub resolved_kept : (x : Value Name) (k : Known Name) → entry_of (names script v) s.known p ≡ Some k → k.standing ≡ Unsettled → host_of p ≡ v → IsLoose script honest w v p s → Steady script w v (λ n. 2 * share (owed_at v n) (one p n) + c n) o s → HeldCame script honest w v head s
        → refs.resolve (names script v) p x s ≡ Gives tt t → ToldTo C s t
    resolved_kept x k found waits own loose h came e = told_to C stays (IsList (refs.follow (names script v) s x)) s t holds held (resolve_tale script honest all w v head r at sound c o p s t k found waits own loose h holds came x e).0
