use Rattle.std.proofs.Common.{subst}
use Rattle.std.specs.declared.result.Result.{Result}
use Rattle.def_run.specs.Text.{vat_names}
use Rattle.ev_resident.specs.declared.VatStop.{VatStop}
use Rattle.ev_world.specs.Standing.{CourseIs}
use Rattle.ev_world.proofs.WrittenSteps.{step_cut, step_goes, step_stops}
use Rattle.ev_world.proofs.writing.end_step.Goals as goal

pub returns-in-Err-clause-written : goal.returns-in-Err-clause-written
returns-in-Err-clause-written g c = λ S w course alone held before is came.
    let stopped = subst (λ (r : Result (Unit {0}) VatStop). CourseIs S r c.args.step alone c.args.world.now) c.in-Err.is came in
    step_stops S held (g.K.Sink.written c.args.out.now) w course alone c.args.world.now before is c.in-Err.stop c.args.step stopped

pub returns-in-Err-write_account-clause-written : goal.returns-in-Err-write_account-clause-written
returns-in-Err-write_account-clause-written g c = λ S w course alone held before is came.
    let went = subst (λ (r : Result (Unit {0}) VatStop). CourseIs S r c.args.step alone c.args.world.now) c.in-Ok.is came in
    step_cut S held (g.K.Sink.written c.args.out.now) w course alone c.args.world.now before is (g.K.Sink.written c.write_account.new.out) went (λ es told. c.in-Err-write_account.ensures.text (vat_names S) es told)

pub returns-in_default-clause-written : goal.returns-in_default-clause-written
returns-in_default-clause-written g c = λ S w course alone held before is came.
    let went = subst (λ (r : Result (Unit {0}) VatStop). CourseIs S r c.args.step alone c.args.world.now) c.in-Ok.is came in
    step_goes S held (g.K.Sink.written c.args.out.now) w course alone c.args.world.now before is (g.K.Sink.written c.write_account.new.out) c.clear.new.self (λ es told. c.clear.ensures (vat_names S) es told) went
    (λ es told. c.in_default.ensures.text (vat_names S) es told)
