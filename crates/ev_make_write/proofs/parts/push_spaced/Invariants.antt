-- what was appended so far, and then the others, are all
use Rattle.std.proofs.Common.{◌≡◌, ◌++◌, drop}
use Rattle.ev_make_write.specs.Writing.{spaced}
use Rattle.ev_make_write.proofs.parts.push_spaced.Given as goal

abbrev pub invariant-loop-word : goal.invariant-loop-word
invariant-loop-word l = l.out ++ spaced (drop l.word-index l.words) ≡ l.fn.out ++ spaced l.words
