use Rattle.std.proofs.Common.{◌+◌, ◌<◌, ◌≤◌, ℕ, Ok, Err, refl, sym, subst, ◌∙◌, arith}
use Rattle.def_run.specs.Numbers.{Vats}
use Rattle.def_run.specs.Text.{vat_names}
use Rattle.ev_world.specs.Standing.{Comes}
use Rattle.ev_world.specs.Writing.{IsWritten}
use Rattle.ev_world.proofs.Loops.{all_opened, none_opened}
use Rattle.ev_world.proofs.WrittenLoops.{opened_by, rose_since}
use Rattle.ev_world.proofs.WrittenRuns.{opened_ends, written_first}
use Rattle.ev_world.proofs.going.open_all.Goals as goal

pub loop-vat-init : goal.loop-vat-init
loop-vat-init g c = (
  λ S many steady is_at.
      let held = g.K.Sink.written c.args.out.now in
      none_opened S (λ (w : Vats). IsWritten S (vat_names S) c.args.world.now.wire held held w c.args.world.now) (written_first S (vat_names S) c.args.world.now.wire held c.args.world.now is_at),
  c.requires.ready,
  refl,
  omega arith,
)

pub returns-in-Err-clause-opened : goal.returns-in-Err-clause-opened
returns-in-Err-clause-opened g c = λ S many steady is_at.
    let held = g.K.Sink.written c.args.out.now in
    let wire = c.args.world.now.wire in
    opened_ends S steady c.in-Err.halt (vat_names S) wire held (g.K.Sink.written c.open.new.out) (c.loop-vat.vat + 1)
    (opened_by S steady (vat_names S) wire c.loop-vat.world.wire held (g.K.Sink.written c.loop-vat.out) (g.K.Sink.written c.open.new.out) c.loop-vat.vat c.loop-vat.world c.open.new.world (Err c.in-Err.halt) c.loop-vat.invariant.2
    (subst (λ (n : ℕ). c.loop-vat.vat < n) (sym many) c.loop-vat-test.true) (λ w p there at fine. c.in-Err.ensures.step S w p held there at fine) (c.loop-vat.invariant.0 S many steady is_at))

pub returns-in-Err-clause-fault : goal.returns-in-Err-clause-fault
returns-in-Err-clause-fault g c = λ is. rose_since (g.K.Sink.faults c.args.out.now) (g.K.Sink.faults c.loop-vat.out) (g.K.Sink.faults c.open.new.out) c.loop-vat.invariant.3 (c.in-Err.ensures.fault is)

pub loop-vat-preserved : goal.loop-vat-preserved
loop-vat-preserved g c = (
  λ S many steady is_at.
      let held = g.K.Sink.written c.args.out.now in
      let wire = c.args.world.now.wire in
      opened_by S steady (vat_names S) wire c.loop-vat.world.wire held (g.K.Sink.written c.loop-vat.out) (g.K.Sink.written c.open.new.out) c.loop-vat.vat c.loop-vat.world c.open.new.world (Ok tt) c.loop-vat.invariant.2
      (subst (λ (n : ℕ). c.loop-vat.vat < n) (sym many) c.loop-vat-test.true) (λ w p there at fine. c.in_default.ensures.step S w p held there at fine) (c.loop-vat.invariant.0 S many steady is_at),
  c.in_default.ensures.ready,
  c.in_default.ensures.wire ∙ c.loop-vat.invariant.2,
  omega (arith, c.loop-vat.invariant.3, c.in_default.ensures.later),
)

pub returns-clause-opened : goal.returns-clause-opened
returns-clause-opened g c = λ S many steady is_at.
    all_opened S (Comes (λ (w : Vats). IsWritten S (vat_names S) c.args.world.now.wire (g.K.Sink.written c.args.out.now) (g.K.Sink.written c.loop-vat.out) w c.loop-vat.world)) c.loop-vat.vat
    (subst (λ (n : ℕ). n ≤ c.loop-vat.vat) (sym many) c.loop-vat-test.false) (c.loop-vat.invariant.0 S many steady is_at)
