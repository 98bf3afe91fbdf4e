use Rattle.std.proofs.Common.{◌+◌, ◌<◌, ◌≤◌, ℕ, Ok, Err, refl, sym, subst, ◌∙◌, arith}
use Rattle.def_run.specs.Numbers.{Vats}
use Rattle.def_run.specs.Text.{vat_names}
use Rattle.ev_world.specs.Standing.{Comes}
use Rattle.ev_world.specs.Writing.{IsWritten}
use Rattle.ev_world.proofs.Loops.{all_stepped, entry_read, many_read, none_stepped, number_of}
use Rattle.ev_world.proofs.WrittenLoops.{rose_since, stepped_by}
use Rattle.ev_world.proofs.WrittenRuns.{stepped_ends}
use Rattle.ev_world.proofs.going.take_all.Goals as goal

pub loop-index-init : goal.loop-index-init
loop-index-init g c = (
  λ S w held many read steady opened is_at. none_stepped S w (λ (y : Vats). IsWritten S (vat_names S) c.args.world.now.wire held (g.K.Sink.written c.args.out.now) y c.args.world.now) is_at,
  c.requires.ready,
  refl,
  omega arith,
)

pub returns-in-Err-clause-stepped : goal.returns-in-Err-clause-stepped
returns-in-Err-clause-stepped g c = λ S w held many read steady opened is_at.
    let k = c.loop-index.index in
    let wire = c.args.world.now.wire in
    stepped_ends S steady c.in-Err.halt (vat_names S) wire held (g.K.Sink.written c.take.new.out) w opened (k + 1)
    (stepped_by S steady (vat_names S) wire c.loop-index.world.wire held (g.K.Sink.written c.loop-index.out) (g.K.Sink.written c.take.new.out) k c.loop-index.world c.take.new.world (Err c.in-Err.halt) c.loop-index.invariant.2 w opened
    (subst (λ (n : ℕ). k < n) (sym (many_read S c.args.schedule.now read)) c.loop-index-test.true) c.index-schedule-index.result c.args.schedule.now read
    (entry_read c.args.schedule.now k c.index-schedule-index.result c.loop-index-test.true c.index-schedule-index.is)
    (λ y at fine. c.in-Err.ensures.step S y held (number_of S c.args.vats k many) at fine) (c.loop-index.invariant.0 S w held many read steady opened is_at))

pub returns-in-Err-clause-fault : goal.returns-in-Err-clause-fault
returns-in-Err-clause-fault g c = λ is. rose_since (g.K.Sink.faults c.args.out.now) (g.K.Sink.faults c.loop-index.out) (g.K.Sink.faults c.take.new.out) c.loop-index.invariant.3 (c.in-Err.ensures.fault is)

pub loop-index-preserved : goal.loop-index-preserved
loop-index-preserved g c = (
  λ S w held many read steady opened is_at.
      let k = c.loop-index.index in
      let wire = c.args.world.now.wire in
      stepped_by S steady (vat_names S) wire c.loop-index.world.wire held (g.K.Sink.written c.loop-index.out) (g.K.Sink.written c.take.new.out) k c.loop-index.world c.take.new.world (Ok tt) c.loop-index.invariant.2 w opened
      (subst (λ (n : ℕ). k < n) (sym (many_read S c.args.schedule.now read)) c.loop-index-test.true) c.index-schedule-index.result c.args.schedule.now read
      (entry_read c.args.schedule.now k c.index-schedule-index.result c.loop-index-test.true c.index-schedule-index.is)
      (λ y at fine. c.in_default.ensures.step S y held (number_of S c.args.vats k many) at fine) (c.loop-index.invariant.0 S w held many read steady opened is_at),
  c.in_default.ensures.ready,
  c.in_default.ensures.wire ∙ c.loop-index.invariant.2,
  omega (arith, c.loop-index.invariant.3, c.in_default.ensures.later),
)

pub returns-clause-stepped : goal.returns-clause-stepped
returns-clause-stepped g c = λ S w held many read steady opened is_at.
    all_stepped S w (Comes (λ (y : Vats). IsWritten S (vat_names S) c.args.world.now.wire held (g.K.Sink.written c.loop-index.out) y c.loop-index.world)) c.loop-index.index
    (subst (λ (n : ℕ). n ≤ c.loop-index.index) (sym (many_read S c.args.schedule.now read)) c.loop-index-test.false) (c.loop-index.invariant.0 S w held many read steady opened is_at)
