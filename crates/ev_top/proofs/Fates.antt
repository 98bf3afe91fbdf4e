-- Each message in the history that a call owes has one fate.
use Rattle.std.proofs.Common.{◌≡◌, ◌≤◌, ℕ, List, Option, Some, None, IfSome, refl}
use Rattle.def_machine.specs.Values.{Name}
use Rattle.def_run.specs.World as machine
use Rattle.def_run.specs.World.{World, Goes, Stopped}
use Rattle.law_fate.specs.Fates.Fate.{fates, sent}
use Rattle.law_fate.specs.Fates.Carry.{carries}
use Rattle.law_fate.specs.Fates.FateRuns.{Reached}
use Rattle.law_fate.proofs.Fates.RunFates.{one_fate_at_most}
use Rattle.law_fate.proofs.Fates.RunLight.{two_carries_at_most}
use Rattle.law_fate.proofs.Fates.WholeFateLaws.{exactly_one_fate}
use Rattle.ev_top.specs.Headline.{HasOneFate, MessagesHaveOneFate}
use Rattle.ev_top.specs.declared.command.Command.{Command}
use Rattle.ev_top.proofs.Lawful.{lawful}

-- a run that goes to its end has the exact law, and one that stops those of all runs
fated : (x : Name) (r : machine.Run) → ((w : World) → r ≡ Goes w → (fates x w.history ≡ sent x w.history) × (sent x w.history ≤ 1))
    → Reached (λ w. (fates x w.history ≤ sent x w.history) × (sent x w.history ≤ 1)) r → Reached (λ w. carries x w.history ≤ 2) r → HasOneFate x r
fated x (Goes w) exact most carried = ((exact w refl).0, (exact w refl).1, carried)
fated x (Stopped stop step w) exact most carried = (most.0, most.1, carried)

pub one_fate : (left : Option (List ℕ)) (command : Option Command) → IfSome left (λ input. MessagesHaveOneFate command input)
one_fate None command = tt
one_fate (Some input) command = λ script runs x.
    let meets = lawful command input script runs in
    fated x (machine.run script) (exactly_one_fate script meets.0 meets.1 x) (one_fate_at_most x script) ((two_carries_at_most x).1 script)
