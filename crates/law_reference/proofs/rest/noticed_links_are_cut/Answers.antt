use Rattle.law_reference.proofs.Reference.NoticedRuns.{noticed_links_cut}
use Rattle.law_reference.proofs.rest.noticed_links_are_cut.Goals as goal

pub returns : goal.returns
returns c = noticed_links_cut
