use Rattle.std.proofs.Common.{◌≡◌, drop}
use Rattle.def_syntax.specs.Machine.{State}
use Rattle.def_syntax.specs.Heights.{answer_from, answer}
use Rattle.ev_parser.specs.Draft.{ShowsState}
use Rattle.ev_parser.specs.Parsed.{numbered}
use Rattle.ev_parser.proofs.read.read.Given as goal

abbrev pub invariant-loop-i : goal.invariant-loop-i
invariant-loop-i l = (s : State) × ShowsState l.nodes.items l.frames l.stand s × (answer_from (numbered l.i (drop l.i l.tokens)) l.i l.high s ≡ answer (numbered 0 l.tokens))
