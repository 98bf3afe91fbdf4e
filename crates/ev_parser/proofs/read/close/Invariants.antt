use Rattle.std.proofs.Common.{Option, length}
use Rattle.def_syntax.specs.Grammar.{Tree}
use Rattle.ev_parser.specs.Draft.{Ends, turns_left}
use Rattle.ev_parser.specs.declared.draft.Turn.TheVariants.{At}
use Rattle.ev_parser.proofs.read.close.Given as goal

abbrev pub invariant-turns : goal.invariant-turns
invariant-turns l = (o : Option Tree) → Ends l.initial.nodes.items l.initial.frames o (At l.fn.stand) → Ends l.nodes.items l.frames o l.turn

abbrev pub decreases-turns : goal.decreases-turns
decreases-turns l = turns_left l.turn (length l.frames)
