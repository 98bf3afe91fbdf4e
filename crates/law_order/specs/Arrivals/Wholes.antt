-- Order is kept of each thing from one state of a vat in the middle of a step to another, and of what a name held that settled meanwhile.
use Rattle.std.specs.Prelude.{◌≡◌, ℕ, Bool, List, []}
use Rattle.def_machine.specs.Values.{Value, Name}
use Rattle.def_machine.specs.State.{Unsettled, Known, Vat}
use Rattle.def_run.specs.World.{Script, World}
use Rattle.law_order.specs.Ordering.Ways.{Lane, Held, Item}
use Rattle.law_order.specs.Ordering.Messages.{StandsAt, StaysBehind}
use Rattle.law_order.specs.Ordering.Steps.{WaysAmid, LeadsAmid, IsApart, IsSentOn}
use Rattle.law_order.specs.Arrivals.Tellings.{KeepsPassings}

module _ (script : Script) (honest : ℕ → Bool) (w : World) (v : ℕ) where
  -- From s to t, in the middle of a step, what is doomed stays doomed and what is ahead stays ahead, of each thing from the place that it had to the place that it has, where what stands on links is the receiver's own.
  pub record KeepsOwnOrder (s t : Vat Name) : Type 0 where
    -- each reference, of each vat
    pub references : (u : ℕ) (x : Value Name) → StaysBehind (WaysAmid script honest w v s) (WaysAmid script honest w v t) (LeadsAmid script honest w v s u x) (LeadsAmid script honest w v t u x)
    -- what stays where it stood, and each name that a note brings
    pub passings : KeepsPassings script honest w v s t
    -- So does each message in a queue, on a link, or held by another vat.
    pub apart : (m : Name) (l : Lane) (b : List Item) (n : Name) → IsApart script honest w v l → StandsAt (WaysAmid script honest w v s) m l b n → StandsAt (WaysAmid script honest w v t) m l b n
    pub held : (m p : Name) (b : List Item) (n : Name) → StandsAt (WaysAmid script honest w v s) m (Held v p) b n → IsSentOn script honest w v s t m p b n

  -- it did not settle and waits for nothing, no message is held for it, and no vat is to be told
  abbrev pub IsIdle : Known Name → Type 0
  IsIdle k = (k.standing ≡ Unsettled) × (k.held ≡ []) × (k.told ≡ [])
