use Rattle.std.specs.Prelude.{chars, map}
use Rattle.std.specs.Str.Iter.{chars_rest}
use Rattle.ev_base.specs.declared.values.Value.TheVariants.{Char}
use Rattle.ev_prims.proofs.TextLemmas.{Gathers}
use Rattle.ev_prims.proofs.texts.letters_of.Given as goal

abbrev pub invariant-loop-c : goal.invariant-loop-c
invariant-loop-c l = Gathers l.all (chars_rest l.c-iterator) (map Char (chars l.text))
