-- The table by which the numbers of a vat are read, in each world of a run.
use Rattle.std.specs.Prelude.{◌≡◌, ℕ, zero, List, ◌++◌, Some, slice_get}
use Rattle.def_machine.specs.Values.{Name}
use Rattle.def_machine.specs.State.{Vat}
use Rattle.law_machine.specs.Renamed.Stands.{Table, IsTable}
use Rattle.def_run.specs.World.{Script, Program, Entry, World, Goes, begins, open_from, steps_from}
use Rattle.law_fate.specs.Name.Names.{names_in}
use Rattle.law_fate.specs.Name.Runs.{KnowsOnce}
use Rattle.law_reference.specs.Reference.Exports.{exported_at}
use Rattle.law_reference.specs.Reference.NameTableRuns.{NotesBringNew}

-- The table of vat v: the names that it knows, in the order in which it came to know them, the messages that it has had, and what other vats exported to it.
unfoldable pub table_of : World → ℕ → Vat Name → Table
table_of w v s = record { names = names_in s.known; mails = s.mails; exports = exported_at w.links v }

-- in each vat no two numbers stand for one name or for one object; two may stand for one message, which nothing asks
abbrev pub EachHasTable : World → Type 0
EachHasTable w = (v : ℕ) (s : Vat Name) → slice_get w.vats v ≡ Some s → IsTable v (table_of w v s)

-- It is so after any of the opening turns, and after all of them and any entries by which notes bring what is new.
abbrev pub TablesTellThingsApart : Type 0
TablesTellThingsApart = (script : Script) → KnowsOnce script
    → ((ps rest : List Program) (w : World) → script.vats ≡ ps ++ rest → open_from script zero ps (begins script) ≡ Goes w → EachHasTable w)
    × ((w x : World) (es : List Entry) (k : ℕ) → open_from script zero script.vats (begins script) ≡ Goes w → NotesBringNew script es k w → steps_from script es k w ≡ Goes x → EachHasTable x)
