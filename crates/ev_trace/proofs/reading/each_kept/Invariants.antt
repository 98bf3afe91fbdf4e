-- the events so far, and then those of the other lines
use Rattle.std.proofs.Common.{◌≡◌, drop}
use Rattle.ev_trace_words.specs.Values.{all_of}
use Rattle.ev_trace_lines.specs.Events.{event_of}
use Rattle.ev_trace.specs.Reading.{kept}
use Rattle.ev_trace_words.proofs.AllOf.{done_then}
use Rattle.ev_trace.proofs.reading.each_kept.Given as goal

abbrev pub invariant-loop-words : goal.invariant-loop-words
invariant-loop-words l = done_then l.found (all_of (λ words. kept (event_of l.names words)) (drop l.words-index l.lines)) ≡ all_of (λ words. kept (event_of l.names words)) l.lines
