use Rattle.std.proofs.Common.{◌∙◌, sym, ap}
use Rattle.ev_trace_lines.specs.Events.{event_of}
use Rattle.ev_trace.specs.Reading.{kept}
use Rattle.ev_trace_words.proofs.AllOf.{goes_on}
use Rattle.ev_trace.proofs.reading.each_kept.Goals as goal

pub loop-words-preserved : goal.loop-words-preserved
loop-words-preserved c =
    goes_on (λ words. kept (event_of c.args.names.now words)) c.words-item.result c.in-Ok.event c.loop-words.found _ _ c.args.lines.now c.loop-words.words-index c.loop-words-test.true c.words-item.is
    c.loop-words.invariant (ap (λ words. kept (event_of c.args.names.now words)) (sym c.as_slice.ensures) ∙ c.in-Ok.ensures) c.in_ok-push-in-Ok.ensures.ok
