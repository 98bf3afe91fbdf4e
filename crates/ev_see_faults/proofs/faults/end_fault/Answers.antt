use Rattle.std.proofs.Common.{◌∙◌, sym, ap}
use Rattle.ev_see_faults.specs.Faults.{fault}
use Rattle.ev_see_faults.proofs.BadLemmas.{not_ending}
use Rattle.ev_see_faults.proofs.faults.end_fault.Goals as goal

pub returns : goal.returns
returns c =
    c.in_ok-fault.ensures ∙ ap fault (c.as_str.ensures.value ∙ c.in_ok-why.ensures) ∙ sym (not_ending c.args.number c.args.line.now (sym c.in_ok-ends.ensures ∙ c.if-branch.false))
