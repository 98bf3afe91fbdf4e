-- what is written, and the escapes of what is left, are the escapes of the text
use Rattle.std.proofs.Common.{◌≡◌, ◌++◌, ◌∷◌, string_bytes}
use Rattle.std.specs.List.{flat_map}
use Rattle.std.specs.Str.Iter.{chars_rest}
use Rattle.def_text.specs.Quoting.{escaped}
use Rattle.ev_text.proofs.texts.push_quoted.Given as goal

abbrev pub invariant-loop-c : goal.invariant-loop-c
invariant-loop-c l = string_bytes l.out ++ flat_map escaped (chars_rest l.c-iterator) ≡ string_bytes l.fn.out ++ 34 ∷ flat_map escaped l.text
