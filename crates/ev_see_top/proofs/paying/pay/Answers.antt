use Rattle.std.proofs.Common.{subst, List, ℕ, refl, inl, inr}
use Rattle.ev_io.specs.Causes.{Rose}
use Rattle.ev_see_top.specs.Due.{debt_of}
use Rattle.ev_see_top.specs.Paying.{Ends}
use Rattle.ev_see_top.proofs.PayLemmas.{both, cut_short, of_second}
use Rattle.ev_see_top.proofs.paying.pay.Goals as goal

pub returns-in-Ok-clause-text : goal.returns-in-Ok-clause-text
returns-in-Ok-clause-text g c =
    let told = g.L.Sink.written c.args.err.now in
    let told' = g.L.Sink.written c.end.new.err in
    let ends = subst (λ (t : List ℕ). Ends c.args.answer.now.status t told told' c.end.result) c.as_bytes-in-Ok.ensures.value c.end.ensures.text in
    both (debt_of c.args.answer.now) c.as_bytes.result.now (g.K.Sink.written c.args.out.now) (g.K.Sink.written c.write_all.new.out) told told' c.end.result
    c.in-Ok.ensures.bytes c.as_bytes.ensures.value ends

pub returns-in-Ok-clause-fault : goal.returns-in-Ok-clause-fault
returns-in-Ok-clause-fault g c =
    of_second (Rose (g.K.Sink.faults c.args.out.now) (g.K.Sink.faults c.write_all.new.out)) (Rose (g.L.Sink.faults c.args.err.now) (g.L.Sink.faults c.end.new.err)) c.args.answer.now.status c.end.result c.end.ensures.fault

pub returns-in-Err-clause-text : goal.returns-in-Err-clause-text
returns-in-Err-clause-text g c =
    cut_short (debt_of c.args.answer.now) c.as_bytes.result.now c.in-Err.ensures.bytes.0 (g.K.Sink.written c.args.out.now) (g.K.Sink.written c.write_all.new.out) (g.L.Sink.written c.args.err.now)
    c.in-Err.ensures.bytes.1 c.as_bytes.ensures.value

pub returns-in-Err-clause-fault : goal.returns-in-Err-clause-fault
returns-in-Err-clause-fault g c = inr (refl, inl c.in-Err.ensures.cause.failed)
