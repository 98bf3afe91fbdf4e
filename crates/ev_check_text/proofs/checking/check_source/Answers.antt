use Rattle.std.proofs.Common.{string_bytes, subst, List, ℕ}
use Rattle.ev_check_text.specs.Due.{IsDueOfInput}
use Rattle.ev_io.proofs.PayLemmas.{finished_left, plain}
use Rattle.ev_io.specs.Paying.{Finishes}
use Rattle.ev_check_text.proofs.checking.check_source.Goals as goal

pub returns-in-Ok-clause-due : goal.returns-in-Ok-clause-due
returns-in-Ok-clause-due g c =
    let reply = c.in-Ok.reply in
    let held = g.K.Sink.written c.args.out.now in
    let held' = g.K.Sink.written c.finish.new.out in
    let written = subst (λ (text : List ℕ). Finishes held held' reply.status text c.finish.result) c.as_bytes.ensures.value c.finish.ensures.text in
    finished_left (Unit {0}) IsDueOfInput (g.S.Source.left c.args.src.now) reply.status (string_bytes reply.text) held held' c.finish.result (plain reply.status c.in-Ok.ensures.kind) c.in-Ok.ensures.due written
