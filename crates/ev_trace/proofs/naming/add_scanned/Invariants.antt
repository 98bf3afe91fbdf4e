-- the names so far, and then those of the other bytes
use Rattle.std.proofs.Common.{◌≡◌, [], false, drop, string_bytes}
use Rattle.ev_trace_words.specs.declared.words.Quote.TheVariants.{Outside}
use Rattle.ev_trace.specs.Naming.{scan, with_names}
use Rattle.ev_trace.proofs.naming.add_scanned.Given as goal

abbrev pub invariant-loop-byte : goal.invariant-loop-byte
invariant-loop-byte l = with_names l.names (scan l.at.quote l.at.rooted l.at.provides (string_bytes l.at.run) (drop l.byte-index l.byte-items)) ≡ with_names l.fn.names (scan Outside l.fn.rooted false [] l.byte-items)
