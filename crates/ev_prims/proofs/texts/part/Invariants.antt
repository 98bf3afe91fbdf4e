use Rattle.std.specs.Prelude.{chars, string_bytes}
use Rattle.std.specs.Str.Iter.{chars_rest}
use Rattle.def_machine.specs.Native.{encoded, part_of}
use Rattle.ev_prims.proofs.TextLemmas.{Parts}
use Rattle.ev_prims.proofs.texts.part.Given as goal

abbrev pub invariant-loop-c : goal.invariant-loop-c
invariant-loop-c l = Parts (string_bytes l.out) (chars_rest l.c-iterator) l.before l.left (encoded (part_of l.fn.start l.fn.count (chars l.text)))
