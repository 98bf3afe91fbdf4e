use Rattle.std.proofs.Common.{rules}
use Rattle.std.proofs.lemmas.List.FromFn.{fill_by_all}
use Rattle.ev_script.specs.Head.{key_byte}
use Rattle.ev_script.proofs.head.key_bytes.Goals as goal

pub returns : goal.returns
returns c = fill_by_all (key_byte c.args.digits.now) c.loop-place.key 32 0 c.loop-place.invariant.0 (search rules)
