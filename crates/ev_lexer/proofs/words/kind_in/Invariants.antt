-- the spellings before are not the word
use Rattle.std.proofs.Common.{◌≡◌, map, length}
use Rattle.ev_lexer.specs.Words.{kind_among}
use Rattle.ev_lexer.proofs.words.kind_in.Given as goal

abbrev pub invariant-loop-table : goal.invariant-loop-table
invariant-loop-table l = kind_among (map (λ e. (e.0.now, e.1)) l.table) l.word ≡ kind_among (map (λ e. (e.0.now, e.1)) l.fn.table) l.word

abbrev pub decreases-loop-table : goal.decreases-loop-table
decreases-loop-table l = length l.table
