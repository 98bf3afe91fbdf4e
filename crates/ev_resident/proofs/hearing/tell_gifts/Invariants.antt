use Rattle.std.proofs.Common.{◌≡◌, drop}
use Rattle.ev_resident.specs.Brought.{all_learnt_tell}
use Rattle.ev_resident.proofs.hearing.tell_gifts.Given as goal

-- the gifts so far, and then the rest, tell what all tell
abbrev pub invariant-loop-index : goal.invariant-loop-index
invariant-loop-index l = all_learnt_tell l.words (drop l.index l.gifts) l.told ≡ all_learnt_tell l.words l.gifts l.fn.told
