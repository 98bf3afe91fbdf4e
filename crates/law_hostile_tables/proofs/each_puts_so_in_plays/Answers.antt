use Rattle.law_hostile_tables.proofs.Own.{each_puts_so}
use Rattle.law_hostile_tables.proofs.each_puts_so_in_plays.Goals as goal

pub returns : goal.returns
returns c = each_puts_so
