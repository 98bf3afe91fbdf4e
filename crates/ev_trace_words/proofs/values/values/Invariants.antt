-- the values so far, and then those of the other words
use Rattle.std.proofs.Common.{◌≡◌, drop}
use Rattle.ev_trace_words.specs.Values.{all_of, value}
use Rattle.ev_trace_words.proofs.AllOf.{done_then}
use Rattle.ev_trace_words.proofs.values.values.Given as goal

abbrev pub invariant-loop-word : goal.invariant-loop-word
invariant-loop-word l = done_then l.found (all_of (value l.names) (drop l.word-index l.words)) ≡ all_of (value l.names) l.words
