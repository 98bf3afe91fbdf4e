-- What is said where a native method gives no value.
use Rattle.std.specs.Prelude.{ℕ, List, codes}
use Rattle.ev_integer.specs.Message.{fault_text}
use Rattle.ev_prims.specs.declared.problem.Problem.{Problem}
use Rattle.ev_prims.specs.declared.problem.Problem.TheVariants.{NoMethod, Arithmetic, NotInt, NotChar, NotBoolean, NotText, NotList, OutOfRange, BadArgument, NotComparable, TooHeavy, Unthrowable, DeadEjector}

abbrev pub problem_words : Problem → List ℕ
problem_words NoMethod = codes "no method"
problem_words (Arithmetic fault) = fault_text fault
problem_words NotInt = codes "not int"
problem_words NotChar = codes "not char"
problem_words NotBoolean = codes "not boolean"
problem_words NotText = codes "not String"
problem_words NotList = codes "not List"
problem_words OutOfRange = codes "out of range"
problem_words BadArgument = codes "bad argument"
problem_words NotComparable = codes "not comparable"
problem_words TooHeavy = codes "too heavy"
problem_words Unthrowable = codes "not a text"
problem_words DeadEjector = codes "ejector is dead"
