use Rattle.std.proofs.Common.{◌≡◌, drop}
use Rattle.ev_wire.specs.Learnt.{put_all}
use Rattle.ev_wire.proofs.learnt.LearntTable.learn_all.Given as goal

-- the rest leads to all
abbrev pub invariant-loop-index : goal.invariant-loop-index
invariant-loop-index l = put_all (drop l.index l.more) l.self ≡ put_all l.more l.initial.self
