use Rattle.std.proofs.Common.{◌+◌, ◌<◌, ◌≤◌, ℕ, refl, sym, subst, ◌∙◌}
use Rattle.def_run.specs.Numbers.{Course, Vats}
use Rattle.ev_world.specs.Standing.{Comes, HaltsAs, IsWorld}
use Rattle.ev_world.proofs.Loops.{all_opened, none_opened, opened_halts, opened_next}
use Rattle.ev_world.proofs.world.World.open_all.Goals as goal

pub loop-vat-init : goal.loop-vat-init
loop-vat-init c = (λ S many steady is_at. none_opened S (λ (w : Vats). IsWorld S w c.args.self.now) is_at, (c.requires.ready, refl))

pub returns-in-Err-clause-opened : goal.returns-in-Err-clause-opened
returns-in-Err-clause-opened c = λ S many steady is_at.
    opened_halts S c.in-Err.stop c.loop-vat.vat (c.loop-vat.vat + 1) c.open.new.self.wire c.open.new.self.history
    (opened_next S (λ (w : Vats). IsWorld S w c.loop-vat.self) (λ (d : Course). HaltsAs c.in-Err.stop c.loop-vat.vat c.open.new.self.wire d c.open.new.self.history) c.loop-vat.vat
    steady (subst (λ (n : ℕ). c.loop-vat.vat < n) (sym many) c.loop-vat-test.true) (λ w p there is_here fine. c.in-Err.ensures.step S w p there is_here fine) (c.loop-vat.invariant.0 S many steady is_at))

pub loop-vat-preserved : goal.loop-vat-preserved
loop-vat-preserved c = (
  λ S many steady is_at.
      opened_next S (λ (w : Vats). IsWorld S w c.loop-vat.self) (Comes (λ (w : Vats). IsWorld S w c.open.new.self)) c.loop-vat.vat
      steady (subst (λ (n : ℕ). c.loop-vat.vat < n) (sym many) c.loop-vat-test.true) (λ w p there is_here fine. c.in_default.ensures.step S w p there is_here fine) (c.loop-vat.invariant.0 S many steady is_at),
  (c.in_default.ensures.ready, c.in_default.ensures.wire ∙ c.loop-vat.invariant.1.1),
)

pub returns-clause-opened : goal.returns-clause-opened
returns-clause-opened c = λ S many steady is_at.
    all_opened S (Comes (λ (w : Vats). IsWorld S w c.loop-vat.self)) c.loop-vat.vat (subst (λ (n : ℕ). n ≤ c.loop-vat.vat) (sym many) c.loop-vat-test.false) (c.loop-vat.invariant.0 S many steady is_at)
