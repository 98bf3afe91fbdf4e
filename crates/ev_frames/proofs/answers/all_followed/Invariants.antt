use Rattle.std.proofs.Common.{◌≡◌, take}
use Rattle.std.specs.Prelude.{map}
use Rattle.ev_refs.specs.Follow.{followed}
use Rattle.ev_frames.proofs.answers.all_followed.Given as goal

abbrev pub invariant-loop-arg : goal.invariant-loop-arg
invariant-loop-arg l = l.near ≡ map (followed l.refs) (take l.arg-index l.args)
