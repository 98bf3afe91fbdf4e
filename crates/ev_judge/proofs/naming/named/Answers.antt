use Rattle.std.proofs.Common.{◌≡◌, ◌∙◌, ◌++◌, List, ap, sym, subst}
use Rattle.std.specs.Prelude.{All}
use Rattle.ev_base.specs.declared.values.Value.{Value}
use Rattle.def_op.specs.Views.{operation}
use Rattle.ev_judge.specs.Named.{WasGiven, named}
use Rattle.ev_judge.proofs.Listed.{were_given}
use Rattle.ev_judge.proofs.naming.named.Goals as goal

pub returns-clause-given : goal.returns-clause-given
returns-clause-given c =
    let noted : c.of.result ≡ named c.args.connection.now (operation c.args.op.now) =
    c.of.ensures ∙ c.in_ok-note_op.ensures ∙ ap (λ (vs : List Value). vs ++ named c.args.connection.now (operation c.args.op.now)) c.new-values.ensures.items in
    subst (All (WasGiven c.args.connection.now)) (sym noted) (were_given c.args.connection.now (operation c.args.op.now))
