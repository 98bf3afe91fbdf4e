use Rattle.def_machine.proofs.Keys.{provider_key, word_key, key_again}
use Rattle.law_machine.proofs.keys.keys_tell.Goals as goal

pub returns : goal.returns
returns c = (provider_key, word_key, key_again)
