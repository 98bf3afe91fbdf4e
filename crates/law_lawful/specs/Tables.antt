-- What stands in the tables of a connection is of its two vats.
use Rattle.std.specs.Prelude.{◌≡◌, ℕ}
use Rattle.def_machine.specs.Values.{Name, host_of}
use Rattle.def_run.specs.Wire.{Connected}
use Rattle.law_fate.specs.Name.Names.{AllOf}

-- a name of that vat, of which P holds
abbrev pub IsOf : (Name → Type 0) → ℕ → Name → Type 0
IsOf P v n = (host_of n ≡ v) × P n

-- What a vat has exported and what it was asked for it hosts; what it has imported and what it has asked for the peer hosts.
pub record TablesFit (P : Name → Type 0) (c : Connected) : Type 0 where
  pub exports : AllOf (IsOf P c.from) c.tables.exports
  pub imports : AllOf (IsOf P c.to) c.tables.imports
  pub questions : AllOf (IsOf P c.to) c.tables.questions
  pub answers : AllOf (IsOf P c.from) c.tables.answers
