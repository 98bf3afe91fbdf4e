use Rattle.ev_trace_words.proofs.Printed.{name_again}
use Rattle.ev_trace_words.proofs.laws.names_are_read_again.Goals as goal

pub returns : goal.returns
returns c = name_again
