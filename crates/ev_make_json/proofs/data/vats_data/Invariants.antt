-- the vats so far, and then the others, are all
use Rattle.std.proofs.Common.{◌≡◌, ◌++◌, map, drop}
use Rattle.serde_json.specs.View.{view}
use Rattle.ev_make_json.specs.Data.{vat_data}
use Rattle.ev_make_json.proofs.data.vats_data.Given as goal

abbrev pub invariant-loop-vat : goal.invariant-loop-vat
invariant-loop-vat l = map view l.values.items ++ map vat_data (drop l.vat-index l.vats) ≡ map vat_data l.vats
