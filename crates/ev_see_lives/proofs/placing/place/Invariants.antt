-- the lines so far, and then the others
use Rattle.std.proofs.Common.{◌≡◌, ◌++◌, drop, map}
use Rattle.def_see.specs.Lines.{placed, placed_from}
use Rattle.ev_trace_words.specs.Words.{words_of}
use Rattle.ev_see_lives.proofs.placing.place.Given as goal

abbrev pub invariant-loop-text : goal.invariant-loop-text
invariant-loop-text l =
    l.lines ++ placed_from l.label l.at (map (λ t. words_of t.now) (drop l.text-index l.texts)) ≡ placed (map (λ t. words_of t.now) l.texts)
