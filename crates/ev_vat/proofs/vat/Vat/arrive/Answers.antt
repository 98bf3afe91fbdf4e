use Rattle.std.proofs.Common.{◌≡◌, ◌++◌, sym, ap, subst}
use Rattle.def_machine.specs.Arrive as machine
use Rattle.ev_arrive.specs.declared.host.Host.{Host}
use Rattle.ev_arrive.specs.Hearing.{heard_by}
use Rattle.ev_room.specs.Reading.{names, texts_of}
use Rattle.ev_vat.specs.Vat.{ArrivalIs}
use Rattle.ev_vat.specs.declared.vat.Vat.{Vat}
use Rattle.law_evaluation.specs.Arrivals.Arrivals.{vat_in}
use Rattle.ev_vat.proofs.vat.Vat.arrive.Goals as goal

pub returns-clause-step : goal.returns-clause-step
returns-clause-step c going w rest front key n x there =
    let e : c.keep_stop.new.self.host ≡ c.come_in-outcome.new.host = ap (λ (v : Vat). v.host) c.keep_stop.ensures in
    subst (λ (h : Host). ArrivalIs w c.come_in-outcome.result h (machine.arrive (names w) c.args.from (heard_by (texts_of w) n x there c.args.from c.args.note) (vat_in w c.args.self.now.host))) (sym e)
    (c.come_in-outcome.ensures.step w rest (subst (λ (h : Host). texts_of w ≡ h.inside.heap.texts ++ rest) e front) key n x there)
