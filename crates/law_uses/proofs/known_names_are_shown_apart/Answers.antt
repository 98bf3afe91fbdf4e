use Rattle.law_uses.proofs.ShownApart.Ends.{shown_apart}
use Rattle.law_uses.proofs.known_names_are_shown_apart.Goals as goal

pub returns : goal.returns
returns c = shown_apart
