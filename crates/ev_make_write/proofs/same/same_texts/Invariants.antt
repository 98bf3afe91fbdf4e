-- so far they are the same
use Rattle.std.proofs.Common.{◌≡◌, take}
use Rattle.ev_make_write.proofs.same.same_texts.Given as goal

abbrev pub invariant-loop-i : goal.invariant-loop-i
invariant-loop-i l = take l.i l.a ≡ take l.i l.b
