use Rattle.std.proofs.Common.{◌∙◌, sym, ap}
use Rattle.ev_trace_words.specs.Values.{note_value}
use Rattle.ev_trace_words.proofs.AllOf.{goes_on}
use Rattle.ev_trace_words.proofs.NoteLemmas.{reads_lower}
use Rattle.ev_trace_words.proofs.values.+members.Goals as goal

pub note_values_within-loop-word-preserved : goal.note_values_within-loop-word-preserved
note_values_within-loop-word-preserved t c =
    goes_on (note_value c.args.names.now c.args.height) c.word-item.result c.in-Ok.x c.loop-word.found _ _ c.args.words.now c.loop-word.word-index c.loop-word-test.true c.word-item.is
    c.loop-word.invariant (ap (note_value c.args.names.now c.args.height) (sym c.as_str.ensures) ∙ c.in-Ok.ensures) c.in_ok-push-in-Ok.ensures.ok

pub note_value-returns : goal.note_value-returns
note_value-returns t c = reads_lower c.args.names.now c.args.height c.args.word.now _ c.note_list.result c.if-height-eq0.false c.bracketed.ensures c.note_list.ensures
