use Rattle.def_run.specs.Text.{vat_names}
use Rattle.ev_world.specs.Writing.{untold}
use Rattle.ev_world.proofs.WrittenRuns.{left_cut, left_short, left_written}
use Rattle.ev_world.proofs.written.write_left.Goals as goal

pub returns-in_default-clause-text : goal.returns-in_default-clause-text
returns-in_default-clause-text g c = λ S w held went at. left_short S c.args.world.wire held (g.K.Sink.written c.args.out.now) w c.args.world went at

pub returns-in-Err-clause-text : goal.returns-in-Err-clause-text
returns-in-Err-clause-text g c = λ S w held went at.
    left_cut S c.args.world.wire held (g.K.Sink.written c.args.out.now) (g.K.Sink.written c.write_account.new.out) w c.args.world c.in-Ok.account went at (c.in-Ok.ensures S (untold w) at.world)
    (λ es told. c.in-Err.ensures.text (vat_names S) es told)

pub returns-clause-text : goal.returns-clause-text
returns-clause-text g c = λ S w held went at.
    left_written S c.args.world.wire held (g.K.Sink.written c.args.out.now) (g.K.Sink.written c.write_account.new.out) w c.args.world c.in-Ok.account went at (c.in-Ok.ensures S (untold w) at.world)
    (λ es told. c.in_default-write_account.ensures.text (vat_names S) es told)
