use Rattle.law_order.proofs.ToldOnce.News.{news_is_new}
use Rattle.law_order.proofs.news_is_new.Goals as goal

pub returns : goal.returns
returns c = news_is_new
