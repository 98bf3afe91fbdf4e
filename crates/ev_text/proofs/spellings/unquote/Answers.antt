use Rattle.ev_text.proofs.UnquotingLemmas.{not_opened}
use Rattle.ev_text.proofs.spellings.unquote.Goals as goal

pub returns-in-None : goal.returns-in-None
returns-in-None c = not_opened c.args.spelling.now c.in-None.ensures.cases
