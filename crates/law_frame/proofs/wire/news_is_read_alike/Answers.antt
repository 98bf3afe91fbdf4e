use Rattle.law_frame.proofs.Frame.News.{news_read}
use Rattle.law_frame.proofs.wire.news_is_read_alike.Goals as goal

pub returns : goal.returns
returns c = news_read
