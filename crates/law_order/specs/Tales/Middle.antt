-- The world in the middle of a step of a vat, and what the vat does there without moving a message.
use Rattle.std.specs.Prelude.{◌≡◌, ℕ, Bool, List, ◌∷◌, ◌++◌, Some, slice_get}
use Rattle.def_machine.specs.Values.{Name, Naming}
use Rattle.def_machine.specs.State.{Note, Deliver, Put, Happened, Took, Sends, Vat}
use Rattle.def_machine.specs.Refs.{entry_of}
use Rattle.def_run.specs.World.{Script, Event, Link, World, names, put_at, push_all, events_of, readied, connections_after, link_at, with_link, with_notes}
use Rattle.law_fate.specs.Name.Names.{AllOf}
use Rattle.law_order.specs.Ordering.Arrivals.{IsSilent}
use Rattle.law_order.specs.Ordering.Places.{held_in}
use Rattle.law_order.specs.Ordering.Steps.{Grown}
use Rattle.law_order.specs.History.Lines.{AllQuiet}
use Rattle.law_order.specs.History.Tells.{SmallStep}

-- Vat v came to s: its notes are on its links, and its lines stand behind the step's own.
abbrev pub middle : World → ℕ → List Event → Vat Name → World
middle w v head s = record { fuel = s.fuel; drawn = s.drawn; vats = put_at v s w.vats; links = push_all v s.outbox w.links; connections = w.connections; history = w.history ++ head ++ events_of w.links v s.happened }

abbrev pub DeliversNothing : Note Name → Type 0
DeliversNothing (Deliver d n verb ys) = ⊥
DeliversNothing other = Unit {0}

-- no send and no take
abbrev pub IsQuietLine : Happened Name → Type 0
IsQuietLine (Sends act m) = ⊥
IsQuietLine (Took act m) = ⊥
IsQuietLine other = Unit {0}

-- From s to t each message that waits or is held does so still, and none was put.
pub record MovesNone (K : Naming Name Name) (s t : Vat Name) : Type 0 where
  pub queue : t.queue ≡ s.queue
  pub held : (n : Name) → held_in n (entry_of K t.known n) ≡ held_in n (entry_of K s.known n)
  pub puts : List (Put Name)
  pub outbox : t.outbox ≡ s.outbox ++ puts
  pub none : AllOf (λ (p : Put Name). DeliversNothing p.note) puts
  pub lines : List (Happened Name)
  pub happened : t.happened ≡ s.happened ++ lines
  pub quiet : AllOf IsQuietLine lines

-- ---- laws

-- Where the ways only grow and no message moves, the vat makes a small step.
abbrev pub GrowingIsSmall : Type 0
GrowingIsSmall = (script : Script) (honest : ℕ → Bool) (w : World) (v : ℕ) (head : List Event) (s t : Vat Name) → Grown script honest w v s t → MovesNone (names script v) s t → SmallStep script honest (middle w v head s) (middle w v head t)

-- So does a step begin, where its own lines do not count, and so does it end.
abbrev pub BeginningIsSmall : Type 0
BeginningIsSmall = (script : Script) (honest : ℕ → Bool) (w : World) (v : ℕ) (head : List Event) (s : Vat Name) → slice_get w.vats v ≡ Some s → AllQuiet head → SmallStep script honest w (middle w v head (readied w s))

abbrev pub EndingIsSmall : Type 0
EndingIsSmall = (script : Script) (honest : ℕ → Bool) (w : World) (v : ℕ) (head : List Event) (t : Vat Name) → SmallStep script honest (middle w v head t) (record (middle w v head t) { connections = connections_after v t head w.connections })

-- So does the first note leave its link, in the middle of the step of its receiver, if it delivers nothing and lets nothing go.
abbrev pub SilentLeavingIsSmall : Type 0
SilentLeavingIsSmall = (script : Script) (honest : ℕ → Bool) (w : World) (a b : ℕ) (head : List Event) (l : Link) (n : Note Name) (ns : List (Note Name)) → link_at a b w.links ≡ Some l → l.notes ≡ n ∷ ns → IsSilent n
    → (t : Vat Name) → SmallStep script honest (middle w b head t) (middle (record w { links = with_link (with_notes ns) a b w.links }) b head t)
