use Rattle.std.specs.Prelude.{chars, slice_get}
use Rattle.std.specs.Str.Iter.{chars_rest}
use Rattle.ev_prims.proofs.TextLemmas.{Seeks}
use Rattle.ev_prims.proofs.texts.character_at.Given as goal

abbrev pub invariant-loop-c : goal.invariant-loop-c
invariant-loop-c l = Seeks (chars_rest l.c-iterator) l.left (slice_get (chars l.text) l.fn.place)
