use Rattle.std.proofs.Common.{◌++◌, string_bytes}
use Rattle.std.specs.List.{flat_map}
use Rattle.std.specs.Str.{chars}
use Rattle.std.specs.Str.Iter.{chars_rest}
use Rattle.def_draw.specs.Diagram.{escaped_character}
use Rattle.ev_see_draw.proofs.LabelLemmas.{Labels}
use Rattle.ev_see_draw.proofs.labels.push_escaped.Given as goal

abbrev pub invariant-loop-c : goal.invariant-loop-c
invariant-loop-c l = Labels (string_bytes l.out) (chars_rest l.c-iterator) (string_bytes l.fn.out ++ flat_map escaped_character (chars l.text))
