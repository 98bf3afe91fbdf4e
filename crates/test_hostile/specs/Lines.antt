-- Lines, each with its end.
use Rattle.std.specs.Prelude.{List, [], ◌∷◌, ◌++◌}
use Rattle.def_machine.specs.Values.{Words}
use lib.Utf8.{encodes}
use Rattle.ucd_derived.specs.Binary.{is_xid_start, is_xid_continue}
use Rattle.ucd_derived.specs.XidStartRanges.{xid_start_ranges}
use Rattle.ucd_derived.specs.XidContinueRanges.{xid_continue_ranges}
use Rattle.ucd_table.specs.Rows.{in_ranges}

unfoldable pub lines : List Words → Words
lines [] = []
lines (l ∷ ls) = l ++ 10 ∷ lines ls

-- opens what the machine's own lists of what opens leave closed: texts longer than 32 characters, and Unicode's table
unfoldable pub opened_more : Unit {0}
unfolding lines encodes is_xid_start is_xid_continue xid_start_ranges xid_continue_ranges in_ranges
opened_more = tt
