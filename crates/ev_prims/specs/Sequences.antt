-- What texts and lists answer alike.
use Rattle.std.specs.Prelude.{ℕ, pos, [], ◌∷◌, codes}
use Rattle.def_machine.specs.Values.{Words, Local, Number}
use Rattle.def_machine.specs.Free.{entry}
use Rattle.def_machine.specs.Native.{Reply, Says, no_method}

-- to a verb without arguments, where there are so many members
abbrev pub size_said : ℕ → Words → Reply Local
size_said n verb = entry ((codes "size", Says (Number (pos n))) ∷ []) no_method verb

-- to a verb with two arguments, where this is what is answered to `run`
abbrev pub run_said : Reply Local → Words → Reply Local
run_said r verb = entry ((codes "run", r) ∷ []) no_method verb
