use Rattle.std.proofs.Common.{[], true, false, ◌∙◌, ap}
use Rattle.ev_trace_words.specs.declared.words.Quote.TheVariants.{Outside}
use Rattle.ev_trace.specs.Naming.{scan, with_names}
use Rattle.ev_trace.proofs.NamingLemmas.{next_word, last_word}
use Rattle.ev_trace.proofs.naming.add_bare.Goals as goal

pub loop-word-preserved : goal.loop-word-preserved
loop-word-preserved c =
    next_word (scan Outside true false []) c.word-item.result c.loop-word.names _ _ c.args.words.now c.loop-word.word-index c.loop-word-test.true c.word-item.is c.loop-word.invariant
    (c.in_ok-add_scanned.ensures ∙ ap (λ w. with_names c.loop-word.names (scan Outside true false [] w)) c.as_str.ensures)

pub returns : goal.returns
returns c = last_word (scan Outside true false []) c.loop-word.names _ c.args.words.now c.loop-word.word-index c.loop-word-test.false c.loop-word.invariant
