use Rattle.std.proofs.Common.{◌+◌, ◌<◌, ◌≤◌, ℕ, refl, sym, subst, ◌∙◌}
use Rattle.def_run.specs.Numbers.{Course, Vats, step}
use Rattle.ev_world.specs.Standing.{Comes, HaltsAs, IsWorld}
use Rattle.ev_world.proofs.Loops.{all_stepped, entry_read, many_read, none_stepped, number_of, stepped_halts, stepped_next, steps_by}
use Rattle.ev_world.proofs.world.World.step_all.Goals as goal
use Rattle.law_schedule.specs.Scripts.{machine_entry}

pub loop-index-init : goal.loop-index-init
loop-index-init c = (λ S w many read steady opened is_at. none_stepped S w (λ (y : Vats). IsWorld S y c.args.self.now) is_at, (c.requires.ready, refl))

pub returns-in-Err-clause-stepped : goal.returns-in-Err-clause-stepped
returns-in-Err-clause-stepped c = λ S w many read steady opened is_at.
    stepped_halts S w c.in-Err.stop (c.args.vats + c.loop-index.index) (c.loop-index.index + 1) c.step.new.self.wire c.step.new.self.history
    (stepped_next S w (λ (y : Vats). IsWorld S y c.loop-index.self) (λ (d : Course). HaltsAs c.in-Err.stop (c.args.vats + c.loop-index.index) c.step.new.self.wire d c.step.new.self.history) c.loop-index.index
    steady opened (subst (λ (n : ℕ). c.loop-index.index < n) (sym (many_read S c.args.schedule.now read)) c.loop-index-test.true)
    (steps_by S (λ (y : Vats). IsWorld S y c.loop-index.self) (λ (d : Course). HaltsAs c.in-Err.stop (c.args.vats + c.loop-index.index) c.step.new.self.wire d c.step.new.self.history) c.loop-index.index
    c.index-schedule-index.result c.args.schedule.now read (entry_read c.args.schedule.now c.loop-index.index c.index-schedule-index.result c.loop-index-test.true c.index-schedule-index.is)
    (λ y is_here fine. subst (λ (n : ℕ). HaltsAs c.in-Err.stop n c.step.new.self.wire (step S (machine_entry c.index-schedule-index.result) (c.loop-index.index + 1) y) c.step.new.self.history)
    (number_of S c.args.vats c.loop-index.index many) (c.in-Err.ensures.step S y is_here fine)))
    (c.loop-index.invariant.0 S w many read steady opened is_at))

pub loop-index-preserved : goal.loop-index-preserved
loop-index-preserved c = (
  λ S w many read steady opened is_at.
      stepped_next S w (λ (y : Vats). IsWorld S y c.loop-index.self) (Comes (λ (y : Vats). IsWorld S y c.step.new.self)) c.loop-index.index
      steady opened (subst (λ (n : ℕ). c.loop-index.index < n) (sym (many_read S c.args.schedule.now read)) c.loop-index-test.true)
      (steps_by S (λ (y : Vats). IsWorld S y c.loop-index.self) (Comes (λ (y : Vats). IsWorld S y c.step.new.self)) c.loop-index.index
      c.index-schedule-index.result c.args.schedule.now read (entry_read c.args.schedule.now c.loop-index.index c.index-schedule-index.result c.loop-index-test.true c.index-schedule-index.is)
      (λ y is_here fine. c.in_default.ensures.step S y is_here fine))
      (c.loop-index.invariant.0 S w many read steady opened is_at),
  (c.in_default.ensures.ready, c.in_default.ensures.wire ∙ c.loop-index.invariant.1.1),
)

pub returns-clause-stepped : goal.returns-clause-stepped
returns-clause-stepped c = λ S w many read steady opened is_at.
    all_stepped S w (Comes (λ (y : Vats). IsWorld S y c.loop-index.self)) c.loop-index.index
    (subst (λ (n : ℕ). n ≤ c.loop-index.index) (sym (many_read S c.args.schedule.now read)) c.loop-index-test.false) (c.loop-index.invariant.0 S w many read steady opened is_at)
