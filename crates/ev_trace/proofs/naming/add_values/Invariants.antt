-- the names so far, and then those of the other words
use Rattle.std.proofs.Common.{◌≡◌, drop}
use Rattle.ev_trace.specs.Naming.{scanned, with_names}
use Rattle.ev_trace.proofs.naming.add_values.Given as goal

abbrev pub invariant-loop-word : goal.invariant-loop-word
invariant-loop-word l = with_names l.names (scanned (drop l.word-index l.words)) ≡ with_names l.fn.names (scanned l.words)
