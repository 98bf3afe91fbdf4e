-- What a vat in the middle of a step owes to the messages that it holds: they came as the history tells, and what they bring can pass.
use Rattle.std.specs.Prelude.{◌≡◌, ℕ, zero, Bool, false, List, Some, None, slice_get, ◌⊎◌}
use Rattle.def_machine.specs.Values.{Value, Name}
use Rattle.def_machine.specs.State.{Message, Known, Vat}
use Rattle.def_machine.specs.Refs.{entry_of}
use Rattle.def_run.specs.World.{Script, Event, World, names}
use Rattle.law_fate.specs.Name.Names.{IsAmong}
use Rattle.law_order.specs.Ordering.Ways.{Way, End}
use Rattle.law_order.specs.Ordering.Worlds.{IsObject}
use Rattle.law_order.specs.Ordering.Order.{Coming, comes}
use Rattle.law_order.specs.Ordering.Steps.{Ready, LeadsAmid, IsHeld}
use Rattle.law_order.specs.History.Lines.{was_sent}
use Rattle.law_order.specs.History.Passings.{IsThere, IsNoVat, CanPass, AllCame, CameAs}
use Rattle.law_order.specs.History.Told.{IsTold}
use Rattle.law_order.specs.Tales.Middle.{middle}

module _ (script : Script) (honest : ℕ → Bool) (w : World) (v : ℕ) (head : List Event) where
  -- The message came to the vat as the history tells, with what the vat has for its arguments.
  pub record Came (s : Vat Name) (m : Message Name) : Type 0 where
    pub coming : Coming
    pub came : comes v m.id zero (middle w v head s).history ≡ Some coming
    pub args : (h d : ℕ) (done : List Event) → IsTold script done → AllCame (λ z x. CameAs script honest w v h d s done z x) coming.args m.args

  -- so did each that a name holds
  abbrev pub HeldCame : Vat Name → Type 0
  HeldCame s = (n : Name) (k : Known Name) → entry_of (names script v) s.known n ≡ Some k → (m : Message Name) → IsAmong m k.held → Came s m

  pub record Holds (s : Vat Name) : Type 0 where
    pub ready : Ready script honest w v s
    -- what it has leads to vats that are there, or to none, and can pass to each
    pub there : (x : Value Name) (g : ℕ) (n : Name) → IsHeld script honest w v s x → LeadsAmid script honest w v s v x ≡ End (Way v g) n → IsThere w v g ⊎ IsNoVat w g
    pub passes : (h : ℕ) (t : Vat Name) → (h ≡ v → ⊥) → slice_get w.vats h ≡ Some t → CanPass script honest w v h t s
    -- what is to react on a name was never sent
    pub unsent : (n : Name) (k : Known Name) → entry_of (names script v) s.known n ≡ Some k → (m : Message Name) → IsAmong m k.reactions → was_sent m.id (middle w v head s).history ≡ false

-- each vat has its number, and knows no object
abbrev pub VatsAreSound : Script → World → Type 0
VatsAreSound script w = (u : ℕ) (t : Vat Name) → slice_get w.vats u ≡ Some t → (t.number ≡ u) × ((o : Name) → IsObject o → entry_of (names script u) t.known o ≡ None)
