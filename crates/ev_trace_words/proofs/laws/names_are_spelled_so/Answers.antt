use Rattle.ev_trace_words.proofs.Spelled.{name_is}
use Rattle.ev_trace_words.proofs.laws.names_are_spelled_so.Goals as goal

pub returns : goal.returns
returns c = name_is
