-- What the lines so far carry last and send first.
use Rattle.std.proofs.Common.{◌≡◌, [], take}
use Rattle.ev_uses.specs.Finding.{SourcesStand}
use Rattle.ev_uses.proofs.sources.Sources.put_lines.Given as goal

abbrev pub invariant-loop-index : goal.invariant-loop-index
invariant-loop-index l = l.fn.self.carried ≡ [] → l.fn.self.sent ≡ [] → SourcesStand l.events l.self (take l.index l.events)
