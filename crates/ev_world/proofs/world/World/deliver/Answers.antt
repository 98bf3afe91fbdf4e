use Rattle.std.proofs.Common.{ℕ, List, subst, sym}
use Rattle.def_run.specs.Numbers.{step, step_number}
use Rattle.def_run.specs.World.{Carry}
use Rattle.ev_world.specs.Midway.{IsMidway}
use Rattle.ev_world.proofs.Acting.{stops_with}
use Rattle.ev_world.proofs.world.World.deliver.Goals as goal

pub returns-in_err-heard-clause-step : goal.returns-in_err-heard-clause-step
returns-in_err-heard-clause-step c = λ S w rows at next left steady.
    stops_with S c.from_residual.result c.in_err-heard.field-0.0 (step_number S c.args.number) (step S (Carry c.args.from c.args.to) c.args.number w) c.hear.new.self c.from_residual.ensures
    (c.in_err-heard.ensures.step S w rows c.args.number at next left steady)

pub returns-clause-step : goal.returns-clause-step
returns-clause-step c = λ S w rows at next left steady.
    let heard = c.in_ok-heard.heard in
    let mid = record c.hear.new.self { history = c.tell_note.new.history } in
    c.in_ok-heard.ensures.step S w rows c.args.number at next left steady c.tell_note.new.history c.finish.new.self c.in_ok-tell_note.ensures
    (λ z y head g t midway. c.in_ok-finish.ensures.finished S z y head g t
    (subst (λ (ks : List ℕ). IsMidway S z c.args.to y head g t ks heard.sendings.items c.args.frame.message heard.told mid) (sym c.as_slice.ensures.value) midway))

pub returns-clause-ready : goal.returns-clause-ready
returns-clause-ready c = c.in_ok-finish.ensures.ready c.in_ok-heard.ensures.ready
