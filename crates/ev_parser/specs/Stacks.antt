-- The frames as two stacks: a mark for each frame, and the nodes that wait inside some of them.
use Rattle.std.specs.Prelude.{ℕ, suc, List, [], ◌∷◌}
use Rattle.ev_parser.specs.declared.draft.Stand.{Stand}
use Rattle.ev_parser.specs.declared.draft.Waiting.{Waiting}
use Rattle.ev_parser.specs.declared.draft.Waiting.TheVariants as waits
use Rattle.ev_parser.specs.declared.frames.Mark.{Mark}
use Rattle.ev_parser.specs.declared.frames.Mark.TheVariants as marks
use Rattle.ev_parser.specs.Draft.{low_waiting}

-- how many of the frames have a node
abbrev pub insides : List Mark → ℕ
insides [] = 0
insides (marks.Inside ∷ ms) = suc (insides ms)
insides (marks.After c ∷ ms) = insides ms

-- the frames of these marks; those that have a node have these, in the same order
abbrev pub framed : List Mark → List Stand → List Waiting
framed [] sts = []
framed (marks.After c ∷ ms) sts = waits.After c ∷ framed ms sts
framed (marks.Inside ∷ ms) (st ∷ sts) = waits.Inside st ∷ framed ms sts
framed (marks.Inside ∷ ms) [] = []

-- what all frames make of the height of the tree that the topmost of them waits for
abbrev pub lowered : List Waiting → ℕ → ℕ
lowered [] h = h
lowered (w ∷ ws) h = low_waiting w (lowered ws h)
