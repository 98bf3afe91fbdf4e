use Rattle.std.proofs.Common.{◌∙◌, ap, ℕ}
use Rattle.def_see.specs.Words.{word}
use Rattle.ev_see_faults.specs.Faults.{bad_text, fault, line_fault}
use Rattle.ev_see_faults.proofs.faults.bad_line.Goals as goal

pub returns : goal.returns
unfolding line_fault
returns c =
    let line = c.word.ensures ∙ ap (λ (i : ℕ). word i c.args.lines.now) c.saturating_sub.ensures in
    c.in_ok-fault.ensures ∙ ap fault (c.as_str.ensures.value ∙ c.in_ok-why.ensures ∙ ap (bad_text c.args.place) line)
