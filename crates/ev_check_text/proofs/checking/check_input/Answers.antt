use Rattle.std.proofs.Common.{subst, List, ℕ, string_bytes}
use Rattle.ev_check_text.specs.Due.{IsDueOfBytes}
use Rattle.ev_check_text.proofs.Checked.{read_few}
use Rattle.ev_check_text.proofs.checking.check_input.Goals as goal

pub returns-in_ok-check_bytes-in-Ok-clause-due : goal.returns-in_ok-check_bytes-in-Ok-clause-due
returns-in_ok-check_bytes-in-Ok-clause-due g c =
    let reply = c.in_ok-check_bytes-in-Ok.field-0 in
    read_few (g.S.Source.left c.args.src.now) (g.S.Source.left c.read_all.new.src) c.in-Ok.bytes reply.status (string_bytes reply.text) c.in-Ok.ensures.taken c.in-Ok.ensures.end
    (subst (λ (bytes : List ℕ). IsDueOfBytes bytes reply.status (string_bytes reply.text)) c.as_slice.ensures c.in_ok-check_bytes-in-Ok.ensures)
