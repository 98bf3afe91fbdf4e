use Rattle.std.proofs.Common.{Bool, subst, sym}
use Rattle.def_run.specs.Numbers.{steps_from}
use Rattle.def_run.specs.Text.{vat_names}
use Rattle.ev_world.specs.Writing.{GoesTo, IsWritten}
use Rattle.ev_world.proofs.WrittenLoops.{goes_behind}
use Rattle.ev_world.proofs.going.go_on.Goals as goal

pub returns-clause-went : goal.returns-clause-went
returns-clause-went g c = λ S many read steady is_at.
    let names = vat_names S in
    let held = g.K.Sink.written c.args.out.now in
    let opened = c.in_default.ensures.opened S many steady is_at in
    let same = c.in_default.ensures.wire in
    goes_behind S names c.args.world.now.wire held (g.K.Sink.written c.take_all.new.out) c.take_all.result c.take_all.new.world opened.0 opened.1.0
    (subst (λ (b : Bool). GoesTo S names b held (g.K.Sink.written c.take_all.new.out) c.take_all.result (steps_from S S.schedule 1 opened.0) c.take_all.new.world) same
    (c.take_all.ensures.stepped S opened.0 held many read steady opened.1.0
    (subst (λ (b : Bool). IsWritten S names b held (g.K.Sink.written c.open_all.new.out) opened.0 c.open_all.new.world) (sym same) opened.1.1)))
