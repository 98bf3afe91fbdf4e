use Rattle.std.proofs.Common.{◌≡◌, refl, subst, Option, Some, IsSome}
use Rattle.ev_top.specs.Commands.{command_of}
use Rattle.ev_top.specs.RunDue.{debt_of}
use Rattle.ev_io.specs.Paying.{IsOfRead}
use Rattle.ev_top.specs.Due.{IsDue, Pays}
use Rattle.ev_top.specs.declared.command.Command.{Command}
use Rattle.ev_io.specs.declared.status.Status.{Status}
use Rattle.ev_io.specs.declared.status.Status.TheVariants.{ReadFault}
use Rattle.ev_io.proofs.PayLemmas.{plain, settled_left, settles_as}
use Rattle.ev_top.proofs.DueLemmas.{pays_usage}
use Rattle.ev_top.proofs.at_hand.answer_for.Goals as goal

pub returns-in_default-clause-due : goal.returns-in_default-clause-due
returns-in_default-clause-due g c =
    pays_usage c.command_of.result (command_of c.args.words.now) (Some c.args.bytes.now) (g.K.Sink.written c.args.out.now) (g.K.Sink.written c.finish.new.out)
    c.finish.result c.command_of.ensures c.in_default.not-Some c.finish.ensures.text

pub returns-in-Ok-clause-due : goal.returns-in-Ok-clause-due
returns-in-Ok-clause-due g c =
    let held = g.K.Sink.written c.args.out.now in
    let held' = g.K.Sink.written c.pay.new.out in
    let debt = debt_of c.in-Ok.owed in
    let paid = settled_left (IsSome (Some c.in-Some.command)) (IsDue (Some c.in-Some.command)) (Some c.args.bytes.now) debt held held' c.pay.result refl (plain debt.status c.in-Ok.ensures.kind) c.in-Ok.ensures.due c.pay.ensures.text in
    subst (λ (k : Option Command). Pays held held' c.pay.result k c.args.bytes.now) c.in-Some.ensures paid

pub returns-in-Ok-clause-unread : goal.returns-in-Ok-clause-unread
returns-in-Ok-clause-unread g c = λ is.
    let debt = debt_of c.in-Ok.owed in
    let same =
    settles_as (λ (s : Status). s ≡ ReadFault) (g.K.Sink.written c.args.out.now) (g.K.Sink.written c.pay.new.out) debt c.pay.result c.pay.ensures.text is (λ e. cc) (λ e. cc) in
    subst IsOfRead same.1 c.in-Ok.ensures.kind
