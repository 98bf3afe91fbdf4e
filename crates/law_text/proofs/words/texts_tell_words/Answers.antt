use Rattle.law_text.proofs.Text.Told.{texts_tell_words}
use Rattle.law_text.proofs.words.texts_tell_words.Goals as goal

pub returns : goal.returns
returns c = texts_tell_words
