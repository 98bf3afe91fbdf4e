-- the texts so far
use Rattle.std.proofs.Common.{◌≡◌, ◌++◌, map, take}
use Rattle.ev_vat.proofs.turn.make_texts.Given as goal

abbrev pub invariant-loop-text : goal.invariant-loop-text
invariant-loop-text l = l.heap ≡ record l.initial.heap { texts = l.initial.heap.texts ++ map (λ text. text.now) (take l.text-index l.texts) }
