-- What an honest vat judges a frame by, and what names the frame is read by for its line, in numbers and in names.
use Rattle.std.specs.Prelude.{◌≡◌, ℕ, List}
use Rattle.def_machine.specs.Values.{Name, Local}
use Rattle.def_run.specs.Connections.{Connection}
use Rattle.def_run.specs.Numbers.{Vats, name_at_vat}
use Rattle.def_run.specs.Vats.{Member, connection_for}
use Rattle.def_hostile.specs.Arrivals.{counts_in, named_for}
use Rattle.def_hostile.specs.Hostile.{counts}
use Rattle.def_hostile.specs.Judge.{verdict}
use Rattle.law_machine.specs.Renamed.Stands.{Table, Is, found, IsTable}
use Rattle.law_frame.specs.Frame.Together.{changed_tables}

-- The connection of vat u in numbers stands for one in names by a table that tells things apart: a judge finds the same in both.
abbrev pub CountsAgree : Type 0
CountsAgree = (u : ℕ) (t : Table) → IsTable u t → (c : Connection Local) (d : Connection Name) → changed_tables (found u t) c ≡ changed_tables Is d → counts_in c ≡ counts d

-- so each frame has one verdict
abbrev pub VerdictsAgree : Type 0
VerdictsAgree = (u : ℕ) (t : Table) → IsTable u t → (c : Connection Local) (d : Connection Name) → changed_tables (found u t) c ≡ changed_tables Is d
    → (vats h : ℕ) (bytes : List ℕ) → verdict vats u h (counts_in c) bytes ≡ verdict vats u h (counts d) bytes

-- Where the names of vat u are what a table has for its numbers, its connection with each name in its number's place is the one in names: by it the note in a frame's line is read.
abbrev pub NamedTablesAgree : Type 0
NamedTablesAgree = (W : Vats) (u h : ℕ) (t : Table) (m : Member) (d : Connection Name) → ((a : Local) (n : Name) → found u t a ≡ Is n → name_at_vat W.members u m.names a ≡ n)
    → changed_tables (found u t) (connection_for h m) ≡ changed_tables Is d → named_for W.members h u m ≡ d
