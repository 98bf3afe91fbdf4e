-- What is known so far, with the others, is what is known of all.
use Rattle.std.proofs.Common.{◌≡◌, drop}
use Rattle.ev_expand.specs.Marked.{no_marks, together}
use Rattle.ev_expand.proofs.marks.together.Given as goal

abbrev pub invariant-loop-id : goal.invariant-loop-id
invariant-loop-id l = together l.done l.found (drop l.id-index l.ids) ≡ together l.done no_marks l.ids
