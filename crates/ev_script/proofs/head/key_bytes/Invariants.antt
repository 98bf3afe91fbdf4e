-- the bytes so far are there
use Rattle.std.proofs.Common.{◌≡◌, ℕ, ◌<◌, length, get_or}
use Rattle.ev_script.specs.Head.{key_byte}
use Rattle.ev_script.proofs.head.key_bytes.Given as goal

abbrev pub invariant-loop-place : goal.invariant-loop-place
invariant-loop-place l = (length l.key ≡ 32) × ((k : ℕ) → k < l.place → get_or l.key k 0 ≡ key_byte l.digits k)
