use Rattle.std.proofs.Common.{◌≡◌, drop}
use Rattle.ev_base.specs.Keys.{key_from}
use Rattle.ev_base.proofs.word.key_of.Given as goal

-- the key so far, and then of the rest, is that of the whole
abbrev pub invariant-loop-byte : goal.invariant-loop-byte
invariant-loop-byte l = key_from l.key (drop l.byte-index l.text) ≡ key_from 0 l.text
