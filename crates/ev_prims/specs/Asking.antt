-- What is asked of a primitive, as the machine tells it.
use Rattle.std.specs.Prelude.{ℕ, List, [], ◌∷◌, codes}
use Rattle.ev_base.specs.declared.values.Value.{Value as Held}
use Rattle.ev_heap.specs.Contents.{Contents}
use Rattle.def_machine.specs.Free.{entry}
use Rattle.def_machine.specs.Values.{Words, Value, Local}
use Rattle.def_machine.specs.Native as native
use Rattle.ev_prims.specs.Orders.{test_in}
use Rattle.ev_prims.specs.Primitives.{guard_in}
use Rattle.ev_prims.specs.Reading.{text_in, value_by, values_by}
use Rattle.ev_prims.specs.declared.asking.Asked.{Asked}
use Rattle.ev_prims.specs.declared.asking.Asked.TheVariants as ask
use Rattle.ev_prims.specs.declared.asking.RefTest.{RefTest}
use Rattle.ev_prims.specs.declared.asking.RefTest.TheVariants.{IsNear, IsFar, IsResolved, IsBroken, OptProblem, Fulfillment}

abbrev pub ref_test_in : RefTest → native.RefTest
ref_test_in IsNear = native.IsNear
ref_test_in IsFar = native.IsFar
ref_test_in IsResolved = native.IsResolved
ref_test_in IsBroken = native.IsBroken
ref_test_in OptProblem = native.OptProblem
ref_test_in Fulfillment = native.Fulfillment

-- with these as the arguments, where each text has its number
abbrev pub asked_with : (ℕ → Words) → List Held → Asked → native.Asked Local
asked_with t args ask.MakesList = native.MakesList (values_by t args)
asked_with t args (ask.Ranges last x y) = native.Ranges last (value_by t x) (value_by t y)
asked_with t args (ask.Same x y) = native.Same (value_by t x) (value_by t y)
asked_with t args (ask.Compares test x y) = native.Compares (test_in test) (value_by t x) (value_by t y)
asked_with t args (ask.Loops x) = native.Loops (value_by t x)
asked_with t args (ask.SendsTo only x v l) = native.SendsTo only (value_by t x) (value_by t v) (value_by t l)
asked_with t args (ask.CallsTo x v l) = native.CallsTo (value_by t x) (value_by t v) (value_by t l)
asked_with t args ask.MakesPromise = native.MakesPromise
asked_with t args (ask.Breaks x) = native.Breaks (value_by t x)
asked_with t args (ask.Tells test x) = native.Tells (ref_test_in test) (value_by t x)
asked_with t args (ask.Whens x o) = native.Whens (value_by t x) (value_by t o)
asked_with t args (ask.ThrowsIt x) = native.ThrowsIt (value_by t x)
asked_with t args (ask.IsStamped a x) = native.IsStamped (value_by t a) (value_by t x)
asked_with t args (ask.Coerces g x j) = native.Coerces (guard_in g) (value_by t x) (value_by t j)
asked_with t args (ask.AddsNull x) = native.AddsNull (value_by t x)
asked_with t args ask.NoMethod = native.NoMethod

abbrev pub asked_in : Contents → List Held → Asked → native.Asked Local
asked_in h args a = asked_with (text_in h) args a

-- the list of these arguments, where the verb asks for it
abbrev pub list_asked : Words → List (Value Local) → native.Asked Local
list_asked verb args = entry ((codes "run", native.MakesList args) ∷ []) native.NoMethod verb
