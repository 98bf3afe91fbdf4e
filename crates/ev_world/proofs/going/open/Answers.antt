use Rattle.std.proofs.Common.{Bool, subst, sym}
use Rattle.std.specs.Prelude.{slice_get}
use Rattle.std.specs.Io.KnownBytes.{Appends}
use Rattle.def_run.specs.Numbers.{Course, open_member}
use Rattle.def_run.specs.Text.{vat_names}
use Rattle.ev_world.specs.Writing.{IsCourse, text_at, untold}
use Rattle.ev_world.proofs.WrittenLoops.{opens_so}
use Rattle.ev_world.proofs.WrittenSteps.{untold_opens}
use Rattle.ev_world.proofs.going.open.Goals as goal

pub returns-clause-step : goal.returns-clause-step
returns-clause-step g c = λ S w p held there at fine.
    let names = vat_names S in
    let u = c.args.vat in
    let course : Course = open_member S u p w (slice_get w.members u) in
    let alone : Course = open_member S u p (untold w) (slice_get w.members u) in
    let same = c.open-opened.ensures.wire in
    subst (λ (b : Bool). IsCourse S names b held (g.K.Sink.written c.end_step.new.out) c.end_step.result course c.end_step.new.world) same
    (c.end_step.ensures.written S w course alone held (subst (λ (b : Bool). Appends held (g.K.Sink.written c.args.out.now) (text_at names b w)) (sym same) at.written)
    (opens_so S u p w fine) (c.open-opened.ensures.step S (untold w) p there at.world (untold_opens S u p w fine)))
