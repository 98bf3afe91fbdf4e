use Rattle.std.proofs.Common.{List, [], sym, subst}
use Rattle.ev_known.specs.declared.facts.Fact.{Fact}
use Rattle.ev_known.specs.Telling.{StandsFor}
use Rattle.ev_known.proofs.Told.{nothing_stands}
use Rattle.ev_known.proofs.facts.Facts.new.Goals as goal

pub returns-clause-stands : goal.returns-clause-stands
returns-clause-stands c = subst (λ (fs : List Fact). StandsFor fs []) (sym c.new.ensures.empty) nothing_stands
