use Rattle.law_text.proofs.Text.Named.{message_told}
use Rattle.law_text.proofs.names.texts_tell_messages.Goals as goal

pub returns : goal.returns
returns c = message_told
