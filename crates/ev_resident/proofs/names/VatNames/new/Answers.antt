use Rattle.std.proofs.Common.{[], ◌∷◌, map, subst, sym}
use Rattle.def_machine.specs.Values.{Root}
use Rattle.ev_resident.specs.Names.{Named}
use Rattle.ev_resident.specs.NamesStanding.{Stands}
use Rattle.ev_resident.proofs.Saying.{first_stand}
use Rattle.ev_resident.proofs.names.VatNames.new.Goals as goal

pub returns-clause-stands : goal.returns-clause-stands
returns-clause-stands c = λ d.
    subst (λ (n : Named). Stands d (record { known = Root c.args.me ∷ map Root c.args.knows.now; mails = [] }) n) (sym c.in_ok-names.ensures)
    (first_stand d c.args.me c.args.knows.now c.args.vats)
