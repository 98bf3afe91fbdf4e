use Rattle.std.proofs.Common.{◌∙◌, sym, ap}
use Rattle.ev_trace_words.specs.Values.{value}
use Rattle.ev_trace_words.proofs.AllOf.{goes_on}
use Rattle.ev_trace_words.proofs.values.values.Goals as goal

pub loop-word-preserved : goal.loop-word-preserved
loop-word-preserved c =
    goes_on (value c.args.names.now) c.word-item.result c.in-Ok.x c.loop-word.found _ _ c.args.words.now c.loop-word.word-index c.loop-word-test.true c.word-item.is
    c.loop-word.invariant (ap (value c.args.names.now) (sym c.as_str.ensures) ∙ c.in-Ok.ensures) c.in_ok-push-in-Ok.ensures.ok
