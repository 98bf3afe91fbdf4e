-- A vat marks another as cut off: what led over the link to it leads nowhere from then on.
use Rattle.std.specs.Prelude.{◌≡◌, ℕ, Bool, true, false, [], ◌∷◌, ◌++◌, ◌==◌, ◌&&◌}
use Rattle.def_machine.specs.Values.{Value, Name}
use Rattle.def_machine.specs.State.{Vat}
use Rattle.def_run.specs.World.{Script, World}
use Rattle.law_order.specs.Ordering.Ways.{Lane, Queue, Held, Way, Place, Nowhere, Free, End, Mid}
use Rattle.law_order.specs.Ordering.Messages.{More, StaysBehind}
use Rattle.law_order.specs.Ordering.Steps.{WaysAmid, LeadsAmid, Ready}

-- each place, where what would go to the end of the link from a to b goes nowhere
unfoldable pub past_link : ℕ → ℕ → Place → Place
past_link a b (End (Way c d) n) = elim ((c == a) && (d == b)) [ true ↦ Nowhere | false ↦ End (Way c d) n ]
past_link a b (End (Queue v) n) = End (Queue v) n
past_link a b (End (Held v p) n) = End (Held v p) n
past_link a b (Mid l k n) = Mid l k n
past_link a b Nowhere = Nowhere
past_link a b Free = Free

-- the vat, which noticed that one too
abbrev pub marked : Vat Name → ℕ → Vat Name
marked s u = record s { noticed = s.noticed ++ u ∷ [] }

-- From the state s of vat v, in the middle of a step, to that in which it marked u:
pub record MarkKeeps (script : Script) (honest : ℕ → Bool) (w : World) (v u : ℕ) (s : Vat Name) : Type 0 where
  -- who was ready is
  pub ready : Ready script honest w v s → Ready script honest w v (marked s u)
  -- each reference leads where it led, but those nowhere that led over the link from v to u
  pub leading : (z : ℕ) (x : Value Name) → LeadsAmid script honest w v (marked s u) z x ≡ past_link v u (LeadsAmid script honest w v s z x)
  -- and each thing keeps its order
  pub keeps : (c : Place) → StaysBehind (WaysAmid script honest w v s) (WaysAmid script honest w v (marked s u)) c (past_link v u c)
  pub more : (l : Lane) → More (WaysAmid script honest w v s) (WaysAmid script honest w v (marked s u)) l

-- So it is as a vat marks another, where the link to that leads nowhere, as one that is cut does.
abbrev pub MarksKeep : Type 0
MarksKeep = (script : Script) (honest : ℕ → Bool) (w : World) (v u : ℕ) (s : Vat Name) → s.number ≡ v → (v ≡ u → ⊥) → ((n : Name) → (WaysAmid script honest w v s).onward (Way v u) n ≡ Nowhere) → MarkKeeps script honest w v u s
