-- Steps by which no message moves: from one world to the next only quiet lines are told, and each reference leads where it led, or nowhere.
use Rattle.std.specs.Prelude.{◌≡◌, ℕ, Bool, false, List, ◌++◌, ◌⊎◌}
use Rattle.def_machine.specs.Values.{Ref, Name}
use Rattle.def_machine.specs.State.{Passeds, Delivery, Note}
use Rattle.def_run.specs.World.{Script, Event, World}
use Rattle.law_order.specs.Ordering.Ways.{Lane, Held, Item, Nowhere, Mid, Ahead}
use Rattle.law_order.specs.Ordering.Messages.{StandsAt}
use Rattle.law_order.specs.Ordering.Places.{delivered, leads, ways}
use Rattle.law_order.specs.History.Lines.{AllQuiet, was_sent}
use Rattle.law_order.specs.History.Befores.{Brings}
use Rattle.law_order.specs.History.Tells.{SmallStep}

module _ (script : Script) (honest : ℕ → Bool) (x y : World) where
  -- The note was under way, behind the same messages.
  pub record WasBrought (u v : ℕ) (front : List (Note Name)) (d : Delivery Name) (n : Name) (ys : Passeds Name) : Type 0 where
    pub before : List (Note Name)
    pub brings : Brings x u v before d n ys
    pub behind : delivered before ≡ delivered front

  pub record Rests : Type 0 where
    pub told : List Event
    pub lines : y.history ≡ x.history ++ told
    pub quiet : AllQuiet told
    pub leading : (u : ℕ) (n : Name) → (leads script honest y.vats y.links u (Ref n) ≡ leads script honest x.vats x.links u (Ref n)) ⊎ (leads script honest y.vats y.links u (Ref n) ≡ Nowhere)
    -- What is ahead stays ahead, and what stands stood there, or was not sent.
    pub references : (u : ℕ) (n a : Name) → Ahead (ways script honest x) a (leads script honest x.vats x.links u (Ref n)) → Ahead (ways script honest y) a (leads script honest y.vats y.links u (Ref n))
    pub places : (l : Lane) (b : List Item) (n a : Name) → Ahead (ways script honest x) a (Mid l b n) → Ahead (ways script honest y) a (Mid l b n)
    pub stands : (m : Name) (l : Lane) (b : List Item) (n : Name) → StandsAt (ways script honest y) m l b n → StandsAt (ways script honest x) m l b n ⊎ (was_sent m x.history ≡ false)
    pub holds : (v : ℕ) (p m : Name) (b : List Item) (n : Name) → StandsAt (ways script honest y) m (Held v p) b n → StandsAt (ways script honest x) m (Held v p) b n
    pub brought : (u v : ℕ) (front : List (Note Name)) (d : Delivery Name) (n : Name) (ys : Passeds Name) → Brings y u v front d n ys → WasBrought u v front d n ys

-- Such a step is a small step.
abbrev pub RestingIsSmall : Type 0
RestingIsSmall = (script : Script) (honest : ℕ → Bool) (x y : World) → Rests script honest x y → SmallStep script honest x y
