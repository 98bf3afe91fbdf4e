-- the front that has been read, and so many more characters, are the first characters of the text
use Rattle.std.proofs.Common.{take, string_bytes}
use Rattle.std.specs.Str.{chars, encode_utf8_all}
use Rattle.std.specs.Str.Iter.{chars_rest}
use Rattle.ev_text.proofs.CharacterLemmas.{Reads}
use Rattle.ev_text.proofs.texts.first_characters.Given as goal

abbrev pub invariant-loop-c : goal.invariant-loop-c
invariant-loop-c l = Reads (string_bytes l.front) (chars_rest l.c-iterator) l.left (encode_utf8_all (take l.fn.count (chars l.text)))
