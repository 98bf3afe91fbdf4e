-- The verbs that the code tells apart, as verbs of the machine.
use Rattle.std.specs.Prelude.{ℕ, ℤ, pos, negsuc, Bool, true, false, if◌then◌else◌, List, [], ◌∷◌, Some, None, codes}
use Rattle.std.specs.declared.option.Option.{Option}
use Rattle.std.specs.Str.{bytes_eq}
use Rattle.ev_prims.specs.Same.{op_of}
use Rattle.def_machine.specs.Values.{Words}
use Rattle.def_machine.specs.Native as native
use Rattle.ev_integer.specs.declared.arithmetic.IntOp.{IntOp}
use Rattle.ev_integer.specs.declared.arithmetic.IntOp.TheVariants.{Add, Subtract, Multiply, FloorDivide, Remainder, Mod, Pow, And, Or, Xor}
use Rattle.ev_prims.specs.declared.asking.RefTest.{RefTest}
use Rattle.ev_prims.specs.declared.asking.RefTest.TheVariants.{IsNear, IsFar, IsResolved, IsBroken, OptProblem, Fulfillment}
use Rattle.ev_prims.specs.declared.flags.Joining.{Joining}
use Rattle.ev_prims.specs.declared.flags.Joining.TheVariants.{Both, Either, Unlike}
use Rattle.ev_prims.specs.declared.integers.AloneVerb.{AloneVerb}
use Rattle.ev_prims.specs.declared.integers.AloneVerb.TheVariants.{Negate, ToChar}
use Rattle.ev_prims.specs.declared.order.Test.{Test}
use Rattle.ev_prims.specs.declared.order.Test.TheVariants.{LessThan, AtMost, AsBigAs, AtLeast, GreaterThan}
use Rattle.ev_prims.specs.declared.verbs.SeqVerb.{SeqVerb}
use Rattle.ev_prims.specs.declared.verbs.SeqVerb.TheVariants as seq

abbrev pub Table : Type 0 → Type 0
Table A = List (Words × Option A)

-- what a table has at a text
abbrev pub picked : {A : Type 0} → List (Words × A) → A → Words → A
picked [] d x = d
picked (e ∷ es) d x = if bytes_eq x e.0 then e.1 else picked es d x

-- ---- integers

abbrev pub operations : Table IntOp
operations =
    (codes "add", Some Add) ∷ (codes "subtract", Some Subtract) ∷ (codes "multiply", Some Multiply) ∷ (codes "floorDivide", Some FloorDivide)
    ∷ (codes "remainder", Some Remainder) ∷ (codes "mod", Some Mod) ∷ (codes "pow", Some Pow)
    ∷ (codes "and", Some And) ∷ (codes "or", Some Or) ∷ (codes "xor", Some Xor) ∷ []

unfoldable pub operation_named : Words → Option IntOp
operation_named x = picked operations None x

abbrev pub int_verb_of : Option IntOp → native.IntVerb
int_verb_of (Some o) = native.Applies (op_of o)
int_verb_of None = native.NoIntVerb

abbrev pub alone_verbs : Table AloneVerb
alone_verbs = (codes "negate", Some Negate) ∷ (codes "asChar", Some ToChar) ∷ []

unfoldable pub alone_named : Words → Option AloneVerb
alone_named x = picked alone_verbs None x

abbrev pub alone_of : Option AloneVerb → native.IntVerb
alone_of (Some Negate) = native.Negates
alone_of (Some ToChar) = native.AsChar
alone_of None = native.NoIntVerb

-- the character whose code a number is
unfoldable pub code_of : ℤ → Option ℕ
code_of (pos n) = if native.is_code n then Some n else None
code_of (negsuc n) = None

-- ---- booleans

abbrev pub joinings : Table Joining
joinings = (codes "and", Some Both) ∷ (codes "or", Some Either) ∷ (codes "xor", Some Unlike) ∷ []

unfoldable pub joining_named : Words → Option Joining
joining_named x = picked joinings None x

abbrev pub flag_verb_of : Option Joining → native.FlagVerb
flag_verb_of (Some Both) = native.Both
flag_verb_of (Some Either) = native.Either
flag_verb_of (Some Unlike) = native.Unlike
flag_verb_of None = native.NoFlagVerb

-- ---- texts and lists

abbrev pub text_verbs : Table SeqVerb
text_verbs = (codes "get", Some seq.Get) ∷ (codes "add", Some seq.Add) ∷ (codes "iterate", Some seq.Iterate) ∷ []

unfoldable pub text_verb_named : Words → Option SeqVerb
text_verb_named x = picked text_verbs None x

abbrev pub list_verbs : Table SeqVerb
list_verbs = (codes "get", Some seq.Get) ∷ (codes "add", Some seq.Add) ∷ (codes "with", Some seq.With) ∷ (codes "iterate", Some seq.Iterate) ∷ []

unfoldable pub list_verb_named : Words → Option SeqVerb
list_verb_named x = picked list_verbs None x

abbrev pub seq_verb_of : Option SeqVerb → native.SeqVerb
seq_verb_of (Some seq.Get) = native.Gets
seq_verb_of (Some seq.Add) = native.Adds
seq_verb_of (Some seq.With) = native.AddsOne
seq_verb_of (Some seq.Iterate) = native.Steps
seq_verb_of None = native.NoSeqVerb

-- ---- primitives

abbrev pub tests : Table Test
tests =
    (codes "lessThan", Some LessThan) ∷ (codes "leq", Some AtMost) ∷ (codes "asBigAs", Some AsBigAs)
    ∷ (codes "geq", Some AtLeast) ∷ (codes "greaterThan", Some GreaterThan) ∷ []

unfoldable pub test_named : Words → Option Test
test_named x = picked tests None x

-- whether the last is among the integers of a range
abbrev pub range_verbs : Table Bool
range_verbs = (codes "through", Some true) ∷ (codes "till", Some false) ∷ []

unfoldable pub range_named : Words → Option Bool
range_named x = picked range_verbs None x

abbrev pub ref_tests : Table RefTest
ref_tests =
    (codes "isNear", Some IsNear) ∷ (codes "isFar", Some IsFar) ∷ (codes "isResolved", Some IsResolved)
    ∷ (codes "isBroken", Some IsBroken) ∷ (codes "optProblem", Some OptProblem) ∷ (codes "fulfillment", Some Fulfillment) ∷ []

unfoldable pub ref_test_named : Words → Option RefTest
ref_test_named x = picked ref_tests None x
