use Rattle.std.proofs.Common.{subst, Some, List, ℕ}
use Rattle.ev_io.specs.Debt.{Debt}
use Rattle.ev_top.specs.RunDue.{debt_of}
use Rattle.ev_top.specs.Due.{IsDue}
use Rattle.ev_top.proofs.DueLemmas.{due_read}
use Rattle.ev_top.proofs.program.reply_to.Goals as goal

pub returns-in_ok-reply_bytes-in-Ok-clause-due : goal.returns-in_ok-reply_bytes-in-Ok-clause-due
returns-in_ok-reply_bytes-in-Ok-clause-due g c =
    let debt : Debt = debt_of c.in_ok-reply_bytes-in-Ok.field-0 in
    due_read c.args.command (g.S.Source.left c.args.src.now) (g.S.Source.left c.read_all.new.src) c.in-Ok.bytes debt.status debt.text
    c.in-Ok.ensures.taken c.in-Ok.ensures.end
    (subst (λ (bytes : List ℕ). IsDue (Some c.args.command) bytes debt.status debt.text) c.as_slice.ensures c.in_ok-reply_bytes-in-Ok.ensures.due)
