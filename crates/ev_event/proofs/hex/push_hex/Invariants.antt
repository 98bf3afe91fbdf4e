-- what is written, and the bytes that are left, are all
use Rattle.std.proofs.Common.{◌≡◌, ◌++◌, drop, string_bytes}
use Rattle.def_event.specs.Lines.{hex}
use Rattle.ev_event.proofs.hex.push_hex.Given as goal

abbrev pub invariant-loop-byte : goal.invariant-loop-byte
invariant-loop-byte l = string_bytes l.out ++ hex (drop l.byte-index l.bytes) ≡ string_bytes l.fn.out ++ hex l.bytes
