-- The table by which the numbers of an honest vat are read, in each scene of a play: by what its peers have exported to it, as their own tables tell.
-- By the notes that were put it could not be told: where a vat comes to ask its peer for a gift that this one told it by a position before, as a hostile vat can make it do, the position stays.
use Rattle.std.specs.Prelude.{ℕ, true, false, List, Option, None, slice_get, ◌==◌}
use Rattle.def_machine.specs.Values.{Name}
use Rattle.def_machine.specs.State.{Vat}
use Rattle.def_run.specs.Wire.{Connected, connected_at}
use Rattle.def_run.specs.World.{World}
use Rattle.law_fate.specs.Name.Names.{names_in}
use Rattle.law_machine.specs.Renamed.Stands.{Table}
use Rattle.law_reference.specs.Reference.Exports.{object_of}
use Rattle.law_reference.specs.Reference.Exports.{opened_exports}

-- the number of the object at that position among what host h has exported to vat v, by the host's own table; a vat exports nothing to itself
unfoldable pub had_at : List Connected → ℕ → ℕ → ℕ → Option ℕ
had_at cs v h p = elim (v == h) [ true ↦ None | false ↦ object_of (slice_get (connected_at h v cs).tables.exports p) ]

-- the table of vat v: the names that it knows, in the order in which it came to know them, the messages that it has had, and what others exported to it
unfoldable pub table_in : World → ℕ → Vat Name → Table
table_in w v s = record { names = names_in s.known; mails = s.mails; exports = had_at w.connections v }

-- opens the definitions of this file
unfoldable pub opened_had_tables : Unit {0}
unfolding had_at table_in opened_exports
opened_had_tables = tt
