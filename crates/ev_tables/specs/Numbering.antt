-- How a vat numbers and describes what it tells a peer, in the code's terms.
use Rattle.std.specs.Prelude.{Bool, true, false, is_some, if◌then◌else◌, length, Option, Some, None}
use Rattle.ev_base.specs.declared.values.Value.{Value}
use Rattle.def_op.specs.Frames as frames
use Rattle.ev_tables.specs.declared.numeral.Number.{Number}
use Rattle.ev_tables.specs.Table.{Table, description, exported, name_of}

-- a value of the vat's own comes to have a position where it has no number
unfoldable pub numbered : Bool → Value → Table → Table
numbered own v t = if own then if is_some (name_of v t.names) then t else exported v t else t

-- A number says what it describes. What has none is what would come next: the peer's question for what the vat hosts, else the peer's export.
unfoldable pub described_by : Bool → Table → Option Number → frames.Described
described_by own t (Some n) = description n
described_by true t None = frames.MyAnswer (length t.answers)
described_by false t None = frames.YourExport (length t.imports)

unfoldable pub described_in : Bool → Value → Table → frames.Described
described_in own v t = described_by own t (name_of v t.names)
