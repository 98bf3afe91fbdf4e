use Rattle.std.proofs.Common.{ℕ, List, subst}
use Rattle.std.specs.Io.KnownBytes.{Appends}
use Rattle.ev_world.specs.Writing.{AppendsFront}
use Rattle.ev_world.proofs.WrittenRuns.{stop_cut, stop_short, stop_written}
use Rattle.ev_world.proofs.written.write_stop.Goals as goal

pub returns-in_default-clause-text : goal.returns-in_default-clause-text
returns-in_default-clause-text g c = λ S wire held stops.
    let mid = g.K.Sink.written c.args.out.now in
    stop_short S wire held mid c.args.halted.stop c.args.halted.step stops

pub returns-in-Err-clause-text : goal.returns-in-Err-clause-text
returns-in-Err-clause-text g c = λ S wire held stops.
    let mid = g.K.Sink.written c.args.out.now in
    let after = g.K.Sink.written c.write_text.new.out in
    let stop = c.args.halted.stop in
    let k = c.args.halted.step in
    stop_cut S wire held mid after stop k c.in-Ok.told stops c.in-Ok.ensures
    (subst (λ (t : List ℕ). AppendsFront mid after t) c.as_bytes.ensures.value c.in-Err.ensures.text)

pub returns-clause-text : goal.returns-clause-text
returns-clause-text g c = λ S wire held stops.
    let mid = g.K.Sink.written c.args.out.now in
    let after = g.K.Sink.written c.write_text.new.out in
    let stop = c.args.halted.stop in
    let k = c.args.halted.step in
    stop_written S wire held mid after stop k c.in-Ok.told stops c.in-Ok.ensures
    (subst (λ (t : List ℕ). Appends mid after t) c.as_bytes.ensures.value c.in_default-write_text.ensures.text)
