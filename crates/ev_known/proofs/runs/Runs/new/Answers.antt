use Rattle.std.proofs.Common.{List, [], sym, subst}
use Rattle.ev_known.specs.declared.facts.Activation.{Activation}
use Rattle.ev_links.specs.declared.label.Label.{Label}
use Rattle.ev_known.specs.Runs.{RunsStand}
use Rattle.ev_known.proofs.Running.{none_run}
use Rattle.ev_known.proofs.runs.Runs.new.Goals as goal

pub returns-clause-stands : goal.returns-clause-stands
returns-clause-stands c = subst (λ (es : List (Activation × Label)). RunsStand es []) (sym c.new.ensures.empty) none_run
