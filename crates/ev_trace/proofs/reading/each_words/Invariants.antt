-- the words of the lines so far
use Rattle.std.proofs.Common.{◌≡◌, map, take}
use Rattle.ev_trace_words.specs.Words.{words_of}
use Rattle.ev_trace.proofs.reading.each_words.Given as goal

abbrev pub invariant-loop-line : goal.invariant-loop-line
invariant-loop-line l = l.found ≡ map words_of (take l.line-index l.lines)
