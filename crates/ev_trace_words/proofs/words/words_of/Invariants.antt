-- the words that were read, and those of what is left, are the words of the line
use Rattle.std.proofs.Common.{string_bytes}
use Rattle.std.specs.Str.Iter.{chars_rest}
use Rattle.ev_trace_words.proofs.WordLemmas.{Reads}
use Rattle.ev_trace_words.proofs.words.words_of.Given as goal

abbrev pub invariant-loop-c : goal.invariant-loop-c
invariant-loop-c l = Reads l.words l.quote l.depth (string_bytes l.word) (chars_rest l.c-iterator) l.line
