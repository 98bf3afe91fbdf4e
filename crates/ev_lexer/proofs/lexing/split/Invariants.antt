-- the tokens so far, and then those of the rest, are those of the text
use Rattle.std.proofs.Common.{◌≡◌, ◌+◌, length, IsUtf8}
use Rattle.ev_lexer.specs.Lexed.{split}
use Rattle.ev_lexer.proofs.Splitting.{prepended}
use Rattle.ev_lexer.proofs.lexing.split.Given as goal

abbrev pub invariant-loop-rest : goal.invariant-loop-rest
invariant-loop-rest l = record {
  utf8 : IsUtf8 l.rest;
  at : l.place + length l.rest ≡ length l.text;
  read : prepended l.tokens.items (split 0 l.place l.rest) ≡ split 0 0 l.text;
}

abbrev pub decreases-loop-rest : goal.decreases-loop-rest
decreases-loop-rest l = length l.rest
