-- What is asked of a primitive, and what the comparer and ranges answer, in the terms of the code.
use Rattle.std.specs.Prelude.{ℕ, ◌-◌, ℤ, pos, ◌+ℤ◌, Bool, true, false, if◌then◌else◌, nat_lt, nat_le, List, [], ◌∷◌, Some, None, map, slice_get, unwrap_or, codes}
use Rattle.std.specs.declared.option.Option.{Option}
use Rattle.std.specs.Str.{bytes_eq}
use Rattle.ev_base.specs.declared.values.Value.{Value}
use Rattle.ev_base.specs.declared.values.Value.TheVariants as held
use Rattle.def_machine.specs.Free.{same_words}
use Rattle.def_machine.specs.Native as native
use Rattle.def_machine.specs.Values.{Words}
use Rattle.ev_prims.specs.Forms.{args_of}
use Rattle.ev_prims.specs.Orders.{order_in, test_in}
use Rattle.ev_prims.specs.Verbs.{picked, range_named, ref_test_named, test_named}
use Rattle.ev_prims.specs.declared.asking.Asked.{Asked}
use Rattle.ev_prims.specs.declared.asking.Asked.TheVariants.{MakesList, Ranges, Same, Compares, Loops, SendsTo, CallsTo, MakesPromise, Breaks, Tells, Whens, ThrowsIt, IsStamped, Coerces, AddsNull, NoMethod}
use Rattle.ev_prims.specs.declared.asking.RefTest.{RefTest}
use Rattle.ev_prims.specs.declared.forms.Args.{Args}
use Rattle.ev_prims.specs.declared.forms.Args.TheVariants as args
use Rattle.ev_prims.specs.declared.order.Test.{Test}
use Rattle.ev_prims.specs.declared.primitives.Guard.{Guard}
use Rattle.ev_prims.specs.declared.primitives.Kind.{Kind}
use Rattle.ev_prims.specs.declared.primitives.Kind.TheVariants as kind
use Rattle.ev_prims.specs.declared.primitives.Primitive.{Primitive}
use Rattle.ev_prims.specs.declared.primitives.Primitive.TheVariants.{MakeList, Equalizer, Comparer, Looper, Sender, References, Thrower, StampReader, Guarding, Judging, NoPrimitive}
use Rattle.ev_prims.specs.declared.primitives.Rule.TheVariants as rule

-- ---- primitives by their numbers

abbrev pub bare : Kind → Primitive
bare k = Guarding (record { kind = k; or_null = false })

abbrev pub primitives : List Primitive
primitives =
    MakeList ∷ Equalizer ∷ Comparer ∷ Looper ∷ Sender ∷ References ∷ Thrower ∷ StampReader
    ∷ bare kind.Any ∷ bare kind.Void ∷ bare kind.Int ∷ bare kind.Boolean ∷ bare kind.Char
    ∷ bare kind.Text ∷ bare kind.List ∷ bare kind.Null ∷ bare kind.Near ∷ bare kind.Frozen
    ∷ Judging rule.Selfless ∷ Judging rule.Functional ∷ []

unfoldable pub numbered : ℕ → Primitive
numbered n = unwrap_or (slice_get primitives n) NoPrimitive

abbrev pub kind_or_null : Kind → Primitive
kind_or_null kind.Null = NoPrimitive
kind_or_null k = Guarding (record { kind = k; or_null = true })

abbrev pub with_null : Primitive → Primitive
with_null (Guarding g) = kind_or_null g.kind
with_null _ = NoPrimitive

-- the guards that take null as well are numbered from 32 on
unfoldable pub primitive_at : ℕ → Primitive
primitive_at n = if nat_lt n 32 then numbered n else with_null (numbered (n - 32))

-- ---- what is asked

-- where the verb has that name
abbrev pub where_named : Words → Asked → Words → Asked
where_named name a verb = picked ((name, a) ∷ []) NoMethod verb

abbrev pub ranges : Option Bool → Value → Value → Asked
ranges (Some last) a b = Ranges last a b
ranges None a b = NoMethod

abbrev pub list_two : Words → Value → Value → Asked
list_two verb a b = if bytes_eq verb (codes "run") then MakesList else ranges (range_named verb) a b

abbrev pub compares : Option Test → Value → Value → Asked
compares (Some t) a b = Compares t a b
compares None a b = NoMethod

abbrev pub tells : Option RefTest → Value → Asked
tells (Some t) a = Tells t a
tells None a = NoMethod

abbrev pub ref_one : Words → Value → Asked
ref_one verb a = if bytes_eq verb (codes "broken") then Breaks a else tells (ref_test_named verb) a

abbrev pub ref_two : Words → Value → Value → Asked
ref_two verb a b = if same_words (codes "whenResolved") verb then Whens a b else NoMethod

abbrev pub send_three : Words → Value → Value → Value → Asked
send_three verb a b c =
    if same_words (codes "send") verb then SendsTo false a b c
    else if same_words (codes "sendOnly") verb then SendsTo true a b c
    else if same_words (codes "call") verb then CallsTo a b c
    else NoMethod

abbrev pub kind_one : Kind → Words → Value → Asked
kind_one kind.Null verb a = where_named (codes "get") (AddsNull a) verb
kind_one _ verb a = NoMethod

abbrev pub guard_one : Guard → Words → Value → Asked
guard_one g verb a = if g.or_null then NoMethod else kind_one g.kind verb a

unfoldable pub asks_none : Primitive → Words → Asked
asks_none MakeList verb = where_named (codes "run") MakesList verb
asks_none References verb = where_named (codes "promise") MakesPromise verb
asks_none _ verb = NoMethod

unfoldable pub asks_one : Primitive → Words → Value → Asked
asks_one MakeList verb a = where_named (codes "run") MakesList verb
asks_one Looper verb a = where_named (codes "run") (Loops a) verb
asks_one References verb a = ref_one verb a
asks_one Thrower verb a = where_named (codes "run") (ThrowsIt a) verb
asks_one (Guarding g) verb a = guard_one g verb a
asks_one _ verb a = NoMethod

unfoldable pub asks_two : Primitive → Words → Value → Value → Asked
asks_two MakeList verb a b = list_two verb a b
asks_two Equalizer verb a b = where_named (codes "sameEver") (Same a b) verb
asks_two Comparer verb a b = compares (test_named verb) a b
asks_two References verb a b = ref_two verb a b
asks_two StampReader verb a b = where_named (codes "run") (IsStamped a b) verb
asks_two (Guarding g) verb a b = where_named (codes "coerce") (Coerces g a b) verb
asks_two _ verb a b = NoMethod

unfoldable pub asks_three : Primitive → Words → Value → Value → Value → Asked
asks_three MakeList verb a b c = where_named (codes "run") MakesList verb
asks_three Sender verb a b c = send_three verb a b c
asks_three _ verb a b c = NoMethod

unfoldable pub asks_more : Primitive → Words → Asked
asks_more MakeList verb = where_named (codes "run") MakesList verb
asks_more _ verb = NoMethod

unfoldable pub asked_by : Primitive → Words → Args → Asked
asked_by p verb args.Empty = asks_none p verb
asked_by p verb (args.One a) = asks_one p verb a
asked_by p verb (args.Two a b) = asks_two p verb a b
asked_by p verb (args.Three a b c) = asks_three p verb a b c
asked_by p verb args.More = asks_more p verb

-- what is asked of the primitive of that number
abbrev pub asked_of : ℕ → Words → List Value → Asked
asked_of n verb xs = asked_by (primitive_at n) verb (args_of xs)
