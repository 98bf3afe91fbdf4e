-- the names so far, and then those of the other lines
use Rattle.std.proofs.Common.{◌≡◌, [], drop}
use Rattle.std.specs.List.{flat_map}
use Rattle.ev_trace.specs.Naming.{line_vats, names_in, with_names}
use Rattle.ev_trace.proofs.naming.names_in.Given as goal

abbrev pub invariant-loop-line : goal.invariant-loop-line
invariant-loop-line l = with_names l.names (flat_map line_vats (drop l.line-index l.lines)) ≡ names_in l.lines
