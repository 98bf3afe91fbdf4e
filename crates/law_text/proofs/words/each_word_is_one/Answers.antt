use Rattle.law_text.proofs.Text.Told.{event_words}
use Rattle.law_text.proofs.words.each_word_is_one.Goals as goal

pub returns : goal.returns
returns c = event_words
