use Rattle.ev_parse_table.proofs.Tables.{rank}
use Rattle.ev_parse_table.proofs.picks.+begins.Given as goal

abbrev pub decreases-begins : goal.decreases-begins
decreases-begins l = rank l.line
