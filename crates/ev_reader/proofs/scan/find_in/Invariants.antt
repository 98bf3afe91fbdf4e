-- no inner scope binds the name
use Rattle.std.proofs.Common.{◌≡◌, ◌≤◌, length, take}
use Rattle.std.specs.Prelude.{reverse}
use Rattle.ev_reader.specs.Scopes.{bound}
use Rattle.ev_reader.proofs.scan.find_in.Given as goal

abbrev pub invariant-loop-count : goal.invariant-loop-count
invariant-loop-count l = (l.count ≤ length l.scopes) × (bound l.name (reverse (take l.count l.scopes)) ≡ bound l.name (reverse l.scopes))

abbrev pub decreases-loop-count : goal.decreases-loop-count
decreases-loop-count l = l.count
