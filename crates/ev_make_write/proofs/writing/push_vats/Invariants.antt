-- what was appended so far, and then the others, are all
use Rattle.std.proofs.Common.{◌≡◌, ◌++◌, drop}
use Rattle.std.specs.List.{flat_map}
use Rattle.ev_make_write.specs.Writing.{vat_text}
use Rattle.ev_make_write.proofs.writing.push_vats.Given as goal

abbrev pub invariant-loop-vat : goal.invariant-loop-vat
invariant-loop-vat l = l.out ++ flat_map vat_text (drop l.vat-index l.vats) ≡ l.fn.out ++ flat_map vat_text l.vats
