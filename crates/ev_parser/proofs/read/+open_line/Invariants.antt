use Rattle.ev_parse_table.proofs.Tables.{rank}
use Rattle.ev_parser.proofs.read.+open_line.Given as goal

abbrev pub decreases-open_line : goal.decreases-open_line
decreases-open_line l = rank l.line
