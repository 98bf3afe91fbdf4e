use Rattle.std.proofs.Common.{Result, sym, subst}
use Rattle.def_machine.specs.Arrive as machine
use Rattle.ev_arrive.specs.Hearing.{heard_by}
use Rattle.ev_room.specs.Reading.{names, texts_of}
use Rattle.ev_vat.specs.Vat.{ArrivalIs}
use Rattle.ev_vat.specs.declared.vat.VatStop.{VatStop}
use Rattle.law_evaluation.specs.Arrivals.Arrivals.{vat_in}
use Rattle.ev_vat.proofs.Arrivals.{arrived}
use Rattle.ev_vat.proofs.vat.come_in.Goals as goal

pub returns-clause-step : goal.returns-clause-step
returns-clause-step c w rest front key n x there =
    subst (λ (r : Result (Unit {0}) VatStop). ArrivalIs w r c.arrive.new.host (machine.arrive (names w) c.args.from (heard_by (texts_of w) n x there c.args.from c.args.note) (vat_in w c.args.host.now))) (sym c.closed_by.ensures)
    (arrived c.args.host.now c.arrive.new.host c.args.from c.args.note c.arrive.result c.arrive.ensures c.requires.sound c.requires.fits w rest front key n x there)
