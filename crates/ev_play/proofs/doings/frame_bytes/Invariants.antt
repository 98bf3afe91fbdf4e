-- the bytes so far
use Rattle.std.proofs.Common.{◌≡◌, map}
use Rattle.std.specs.List.{range_with_len}
use Rattle.ev_script.specs.Head.{key_byte}
use Rattle.ev_play.proofs.doings.frame_bytes.Given as goal

abbrev pub invariant-loop-place : goal.invariant-loop-place
invariant-loop-place l = l.bytes.items ≡ map (key_byte l.digits) (range_with_len 0 l.place)
