use Rattle.std.proofs.Common.{[], false, ◌∙◌, ap}
use Rattle.ev_trace.specs.Naming.{line_vats, with_names}
use Rattle.ev_trace.proofs.NamingLemmas.{next_word, last_word}
use Rattle.ev_trace.proofs.naming.names_in.Goals as goal

pub loop-line-preserved : goal.loop-line-preserved
loop-line-preserved c =
    next_word line_vats c.line-item.result c.loop-line.names _ _ c.args.lines.now c.loop-line.line-index c.loop-line-test.true c.line-item.is c.loop-line.invariant
    (c.in_ok-add_line.ensures ∙ ap (λ w. with_names c.loop-line.names (line_vats w)) c.as_slice.ensures)

pub returns : goal.returns
returns c = last_word line_vats c.loop-line.names _ c.args.lines.now c.loop-line.line-index c.loop-line-test.false c.loop-line.invariant
