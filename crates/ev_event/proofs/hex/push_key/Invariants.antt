-- what is written, and the bytes that are left, are all
use Rattle.std.proofs.Common.{◌≡◌, ◌-◌, ◌++◌, string_bytes}
use Rattle.def_event.specs.Lines.{hex, low_first}
use Rattle.ev_event.proofs.hex.push_key.Given as goal

abbrev pub invariant-loop-turn : goal.invariant-loop-turn
invariant-loop-turn l = string_bytes l.out ++ hex (low_first (16 - l._turn) l.rest) ≡ string_bytes l.fn.out ++ hex (low_first 16 l.fn.word)
