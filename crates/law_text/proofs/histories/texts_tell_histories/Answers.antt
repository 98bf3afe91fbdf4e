use Rattle.law_text.proofs.Text.Parted.{texts_tell_histories}
use Rattle.law_text.proofs.histories.texts_tell_histories.Goals as goal

pub returns : goal.returns
returns c = texts_tell_histories
