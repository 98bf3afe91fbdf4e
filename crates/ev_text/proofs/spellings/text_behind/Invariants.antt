-- what the bytes spell begins with what is read, and goes on with what the rest spells
use Rattle.std.proofs.Common.{◌≡◌, ◌+◌, length, string_bytes, IsUtf8}
use Rattle.ev_text.specs.Unquoting.{with_front, text_behind}
use Rattle.ev_text.proofs.spellings.text_behind.Given as goal

abbrev pub invariant-loop-first : goal.invariant-loop-first
invariant-loop-first l = record {
  utf8 : IsUtf8 l.rest;
  at : l.place + length l.rest ≡ 1 + length l.behind;
  read : with_front (string_bytes l.text) (text_behind 0 l.place l.rest) ≡ text_behind 0 1 l.behind;
}

abbrev pub decreases-loop-first : goal.decreases-loop-first
decreases-loop-first l = length l.rest
