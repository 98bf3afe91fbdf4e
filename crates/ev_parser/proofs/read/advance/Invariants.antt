use Rattle.std.proofs.Common.{Option, length}
use Rattle.def_syntax.specs.Machine.{State}
use Rattle.ev_parser.specs.Draft.{Comes, turns_left}
use Rattle.ev_parser.specs.declared.draft.Turn.TheVariants.{At}
use Rattle.ev_parser.proofs.read.advance.Given as goal

abbrev pub invariant-turns : goal.invariant-turns
invariant-turns l = (o : Option State) → Comes l.initial.nodes.items l.initial.frames l.word o (At l.fn.stand) → Comes l.nodes.items l.frames l.word o l.turn

abbrev pub decreases-turns : goal.decreases-turns
decreases-turns l = turns_left l.turn (length l.frames)
