use Rattle.std.proofs.Common.{refl}
use Rattle.ev_intro.specs.Word.{draws}
use Rattle.ev_intro.proofs.words.Words.new.Goals as goal

pub invariant_of-result : goal.invariant_of-result
unfolding draws
invariant_of-result c = rw c.new.ensures.empty (c.from_seed.ensures, refl)
