use Rattle.std.proofs.Common.{[], refl, subst}
use Rattle.std.specs.Prelude.{string_bytes}
use Rattle.ev_io.specs.Debt.{Debt}
use Rattle.ev_top.specs.RunDue.{IsDueOfVats, Telling, due_of_machine}
use Rattle.ev_top.specs.Unread.{IfRefused}
use Rattle.ev_io.specs.declared.reply.Reply.{Reply}
use Rattle.ev_top.specs.declared.sources.Unread.{Unread}
use Rattle.ev_world.specs.Running.{script_of}
use Rattle.ev_top.specs.Machine.{greatest_depth, text_of}
use Rattle.ev_top.proofs.ReadLemmas.{due_of_trees}
use Rattle.ev_top.proofs.WholeInput.{of_vats}
use Rattle.ev_top.proofs.run.owed_script.Goals as goal

pub returns-in-Ok-clause-due : goal.returns-in-Ok-clause-due
returns-in-Ok-clause-due c =
    let debt : Debt = due_of_machine (text_of c.args.wire) c.args.script (script_of c.args.script c.in-Ok.programs.items greatest_depth) in
    due_of_trees (text_of c.args.wire) c.args.script [] c.args.script.vats c.in-Ok.programs.items debt.status debt.text c.in-Ok.ensures.read (refl, refl)

pub returns-in-Err-Refused-clause-whole : goal.returns-in-Err-Refused-clause-whole
returns-in-Err-Refused-clause-whole c =
    let reply = c.in-Err-Refused.reply in
    let due = subst (λ (unread : Unread). IfRefused unread (λ (r : Reply). (tell : Telling) → IsDueOfVats tell c.args.script [] c.args.script.vats r.status (string_bytes r.text))) c.in-Err-Refused.field-0-is c.in-Err-Refused.ensures.refused in
    of_vats (text_of c.args.wire) c.args.script [] c.args.script.vats reply.status (string_bytes reply.text) (due (text_of c.args.wire))
