-- the entries so far, and then the other turns, are the entries of all
use Rattle.std.proofs.Common.{◌≡◌, ◌++◌, ◌-◌, map}
use Rattle.std.specs.List.{range_with_len}
use Rattle.ev_script.specs.declared.script.Entry.TheVariants.{Turn}
use Rattle.ev_script.proofs.schedule.push_turns.Given as goal

abbrev pub invariant-loop-vat : goal.invariant-loop-vat
invariant-loop-vat l = l.out.items ++ map Turn (range_with_len l.vat (l.vats - l.vat)) ≡ l.fn.out.items ++ map Turn (range_with_len 0 l.vats)
