-- What has a number between two vats keeps it.
use Rattle.std.specs.Prelude.{◌≡◌, ℕ, ◌≤◌, List, ◌++◌}
use Rattle.def_machine.specs.Values.{Name}
use Rattle.def_run.specs.Connections.{Connection}
use Rattle.def_run.specs.Wire.{Connected, connected_at}
use Rattle.def_run.specs.World.{Script, Program, Entry, World, Goes, open_from, steps_from}

-- the second list begins with the first
abbrev pub IsFront : {A : Type 0} → List A → List A → Type 0
IsFront {A} xs ys = (zs : List A) × (ys ≡ xs ++ zs)

-- from one state of a connection to a later one
pub record TablesGrow {N : Type 0} (c d : Connection N) : Type 0 where
  pub exports : IsFront c.exports d.exports
  pub imports : IsFront c.imports d.imports
  pub questions : IsFront c.questions d.questions
  pub answers : IsFront c.answers d.answers

pub record ConnectedGrows (c d : Connected) : Type 0 where
  pub from : d.from ≡ c.from
  pub to : d.to ≡ c.to
  pub tables : TablesGrow c.tables d.tables
  pub written : IsFront c.written d.written
  pub heard : c.heard ≤ d.heard

-- between any two vats
abbrev pub AllGrow : World → World → Type 0
AllGrow w x = (v u : ℕ) → ConnectedGrows (connected_at v u w.connections) (connected_at v u x.connections)

-- from any world on, by any opening turns and by any entries
abbrev pub NumbersStay : Type 0
NumbersStay = (script : Script)
    → ((v : ℕ) (ps : List Program) (w x : World) → open_from script v ps w ≡ Goes x → AllGrow w x)
    × ((es : List Entry) (k : ℕ) (w x : World) → steps_from script es k w ≡ Goes x → AllGrow w x)
