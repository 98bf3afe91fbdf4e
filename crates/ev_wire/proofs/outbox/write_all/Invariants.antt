use Rattle.std.proofs.Common.{◌≡◌, ◌++◌, drop, map}
use Rattle.ev_pass.specs.Notes.{sent}
use Rattle.ev_wire.specs.Putting.{addressed, all_written, put_all}
use Rattle.ev_wire.proofs.outbox.write_all.Given as goal

-- what was written, and then the rest, is all of it; and so with what the vat has for each peer
abbrev pub invariant-loop-put : goal.invariant-loop-put
invariant-loop-put l = (map addressed l.out.items ++ all_written l.inside (map sent (drop l.put-index l.puts)) l.connections.items ≡ all_written l.fn.inside (map sent l.fn.puts) l.fn.connections.items)
    × (put_all l.inside (map sent (drop l.put-index l.puts)) l.connections.items ≡ put_all l.fn.inside (map sent l.fn.puts) l.fn.connections.items)
