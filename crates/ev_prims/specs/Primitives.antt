-- Primitives and native guards, as those of the machine.
use Rattle.std.specs.Prelude.{◌≡◌, false, if◌then◌else◌}
use Rattle.def_machine.specs.Native as native
use Rattle.ev_prims.specs.declared.primitives.Kind.{Kind}
use Rattle.ev_prims.specs.declared.primitives.Kind.TheVariants.{Any, Void, Int, Boolean, Char, Text, List, Null, Near, Frozen}
use Rattle.ev_prims.specs.declared.primitives.Guard.{Guard}
use Rattle.ev_prims.specs.declared.primitives.Primitive.{Primitive}
use Rattle.ev_prims.specs.declared.primitives.Primitive.TheVariants.{MakeList, Equalizer, Comparer, Looper, Sender, References, Thrower, StampReader, Guarding, Judging, NoPrimitive}
use Rattle.ev_prims.specs.declared.primitives.Rule.{Rule}
use Rattle.ev_prims.specs.declared.primitives.Rule.TheVariants.{DeepFrozen, Selfless, Functional}

abbrev pub kind_in : Kind → native.Guard
kind_in Any = native.AnyGuard
kind_in Void = native.VoidGuard
kind_in Int = native.IntGuard
kind_in Boolean = native.BooleanGuard
kind_in Char = native.CharGuard
kind_in Text = native.TextGuard
kind_in List = native.ListGuard
kind_in Null = native.NullGuard
kind_in Near = native.NearGuard
kind_in Frozen = native.FrozenGuard

abbrev pub guard_in : Guard → native.Guard
guard_in g = if g.or_null then native.OrNull (kind_in g.kind) else kind_in g.kind

abbrev pub rule_in : Rule → native.Rule
rule_in DeepFrozen = native.DeepFrozen
rule_in Selfless = native.Selfless
rule_in Functional = native.Functional

abbrev pub primitive_in : Primitive → native.Primitive
primitive_in MakeList = native.MakeList
primitive_in Equalizer = native.Equalizer
primitive_in Comparer = native.Comparer
primitive_in Looper = native.Looper
primitive_in Sender = native.Sender
primitive_in References = native.References
primitive_in Thrower = native.Thrower
primitive_in StampReader = native.StampReader
primitive_in (Guarding g) = native.Guarding (guard_in g)
primitive_in (Judging r) = native.Judging (rule_in r)
primitive_in NoPrimitive = native.NoPrimitive

-- no guard that takes null as well as what it wants
abbrev pub IsBare : Primitive → Type 0
IsBare (Guarding g) = g.or_null ≡ false
IsBare _ = Unit {0}
