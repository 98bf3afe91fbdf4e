use Rattle.std.proofs.Common.{ℕ, Bool, subst, sym}
use Rattle.std.specs.Io.KnownBytes.{Appends}
use Rattle.def_run.specs.Numbers.{Course, step}
use Rattle.def_run.specs.Text.{vat_names}
use Rattle.ev_world.specs.Standing.{CourseIs}
use Rattle.ev_world.specs.Writing.{IsCourse, text_at, untold}
use Rattle.ev_world.proofs.WrittenLoops.{steps_so}
use Rattle.ev_world.proofs.WrittenSteps.{untold_steps}
use Rattle.law_schedule.specs.Scripts.{machine_entry}
use Rattle.ev_world.proofs.going.take.Goals as goal

pub returns-clause-step : goal.returns-clause-step
returns-clause-step g c = λ S w held numbered at fine.
    let names = vat_names S in
    let e = machine_entry c.args.entry in
    let k = c.args.number in
    let course : Course = step S e k w in
    let alone : Course = step S e k (untold w) in
    let same = c.step-taken.ensures.wire in
    subst (λ (b : Bool). IsCourse S names b held (g.K.Sink.written c.end_step.new.out) c.end_step.result course c.end_step.new.world) same
    (c.end_step.ensures.written S w course alone held (subst (λ (b : Bool). Appends held (g.K.Sink.written c.args.out.now) (text_at names b w)) (sym same) at.written)
    (steps_so S e k w fine)
    (subst (λ (n : ℕ). CourseIs S c.step-taken.result n alone c.step-taken.new.self) numbered (c.step-taken.ensures.step S (untold w) at.world (untold_steps S e k w fine))))
