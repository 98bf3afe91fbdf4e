use Rattle.std.proofs.Common.{[], ◌∷◌, map, sym, subst}
use Rattle.def_machine.specs.Values.{Root}
use Rattle.ev_resident.specs.Names.{Named}
use Rattle.ev_resident.specs.OutcomeStanding.{NamesStand}
use Rattle.ev_resident.proofs.Roots.{first_stand}
use Rattle.ev_resident.proofs.resident.Resident.start.Goals as goal

pub returns-clause-names : goal.returns-clause-names
returns-clause-names c = λ ds s promises messages gifts.
    subst (λ (n : Named). NamesStand ds c.args.me s (record { known = Root c.args.me ∷ map Root c.args.knows.now; mails = [] }) n) (sym c.in_ok-names.ensures)
    (first_stand ds c.args.me c.args.knows.now c.args.count s promises messages gifts)
