use Rattle.std.proofs.Common.{◌≡◌, ◌++◌, sym, ap, subst}
use Rattle.ev_pass.specs.declared.interior.Interior.{Interior}
use Rattle.ev_room.specs.Reading.{texts_of}
use Rattle.ev_vat.specs.Vat.{TurnIs}
use Rattle.ev_vat.specs.declared.vat.Vat.{Vat}
use Rattle.ev_vat.proofs.vat.Vat.turn.Goals as goal

pub returns-clause-turn : goal.returns-clause-turn
returns-clause-turn c going w rest front key =
    let e : c.keep_stop.new.self.host.inside ≡ c.take_first-outcome.new.inside = ap (λ (v : Vat). v.host.inside) c.keep_stop.ensures in
    subst (λ (i : Interior). TurnIs w c.args.program.now c.args.limits.depth c.take_first-outcome.result c.args.self.now.host.inside i) (sym e)
    (c.take_first-outcome.ensures.turn w rest (subst (λ (i : Interior). texts_of w ≡ i.heap.texts ++ rest) e front) key)
