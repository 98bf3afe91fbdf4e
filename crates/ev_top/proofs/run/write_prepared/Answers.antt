use Rattle.std.proofs.Common.{subst, sym}
use Rattle.ev_top.specs.RunDue.{debt_of}
use Rattle.ev_io.specs.Paying.{Settles}
use Rattle.ev_top.specs.declared.reply.Owed.TheVariants.{Run}
use Rattle.ev_io.specs.declared.status.Status.{Status}
use Rattle.ev_top.proofs.Ended.{fault_settles, run_settles, want_settles}
use Rattle.ev_top.proofs.ReadLemmas.{count_is}
use Rattle.ev_top.proofs.run.write_prepared.Goals as goal

pub write_run-requires-clause-programs : goal.write_run-requires-clause-programs
write_run-requires-clause-programs g c = count_is c.args.prepared.script.vats c.args.prepared.script.vats c.args.prepared.programs.items c.requires.1

pub returns-in-Ok-clause-text : goal.returns-in-Ok-clause-text
returns-in-Ok-clause-text g c =
    subst (λ (s : Status). Settles (g.K.Sink.written c.args.out.now) (g.K.Sink.written c.write_run.new.out) (debt_of (Run c.args.prepared)) s) (sym c.status_by.ensures)
    (run_settles c.args.prepared.wire c.args.prepared.script c.args.prepared.programs.items c.requires.0 (g.K.Sink.written c.args.out.now) (g.K.Sink.written c.write_run.new.out) c.in-Ok.end c.in-Ok.ensures.text)

pub returns-in-Err-WriteFault-clause-text : goal.returns-in-Err-WriteFault-clause-text
returns-in-Err-WriteFault-clause-text g c =
    fault_settles c.args.prepared.wire c.args.prepared.script c.args.prepared.programs.items c.requires.0 (g.K.Sink.written c.args.out.now) (g.K.Sink.written c.write_run.new.out) c.in-Err-WriteFault.ensures.text

pub returns-clause-text : goal.returns-clause-text
returns-clause-text g c =
    want_settles c.args.prepared.wire c.args.prepared.script c.args.prepared.programs.items c.requires.0 (g.K.Sink.written c.args.out.now) (g.K.Sink.written c.write_run.new.out) c.in-Err-Memory.ensures.text
