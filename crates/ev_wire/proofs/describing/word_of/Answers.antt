use Rattle.std.proofs.Common.{sym}
use Rattle.def_machine.proofs.Keys.{word_key}
use Rattle.ev_wire.proofs.describing.word_of.Goals as goal

pub returns : goal.returns
returns c = sym (word_key c.args.swiss.now.provider c.args.swiss.now.word)
