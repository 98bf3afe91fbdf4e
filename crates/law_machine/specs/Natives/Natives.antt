-- What data answers, and what primitives answer and are asked, holds nothing but what they are given.
use Rattle.std.specs.Prelude.{◌≡◌, ℕ, Bool, true, List, [], ◌∷◌, Option}
use Rattle.def_machine.specs.Values.{Words, Value, Null, Flag, Number, Letter, Text, Prim, Broken, Items, Ref, Name, Local}
use Rattle.def_machine.specs.Native.{Reply, Says, Writes, Lists, Iterates, Fails, Order, Primitive, Asked, MakesList, Ranges, Same, Compares, Loops, SendsTo, CallsTo, MakesPromise, Breaks, Tells, Whens, ThrowsIt, IsStamped, Coerces, AddsNull, NoMethod, list_at, data_reply, range_reply, compared, null_or_reply, asked}

-- it holds of each
abbrev pub AllOf : {A : Type 0} → (A → Type 0) → List A → Type 0
AllOf P [] = Unit {0}
AllOf P (x ∷ xs) = P x × AllOf P xs

-- data in which no name and no list stands
abbrev pub IsPlain : {N : Type 0} → Value N → Type 0
IsPlain (Ref n) = ⊥
IsPlain (Items k) = ⊥
IsPlain Null = Unit {0}
IsPlain (Flag b) = Unit {0}
IsPlain (Number z) = Unit {0}
IsPlain (Letter c) = Unit {0}
IsPlain (Text t) = Unit {0}
IsPlain (Prim p) = Unit {0}
IsPlain (Broken p) = Unit {0}

-- what is said of each value in an answer
abbrev pub ReplyHas : {N : Type 0} → (Value N → Type 0) → Reply N → Type 0
ReplyHas P (Says v) = P v
ReplyHas P (Writes t) = Unit {0}
ReplyHas P (Lists vs) = AllOf P vs
ReplyHas P (Iterates o vs) = P o × AllOf P vs
ReplyHas P (Fails p) = Unit {0}

-- what is said of each value that a primitive is asked about, where what it leads to may be used or given
abbrev pub AskedHas : {N : Type 0} → (Value N → Type 0) → Asked N → Type 0
AskedHas P (MakesList vs) = AllOf P vs
AskedHas P (Ranges b x y) = Unit {0}
AskedHas P (Same x y) = Unit {0}
AskedHas P (Compares t x y) = Unit {0}
AskedHas P (Loops o) = P o
AskedHas P (SendsTo only x v l) = P x × P v × P l
AskedHas P (CallsTo x v l) = P x × P v × P l
AskedHas P MakesPromise = Unit {0}
AskedHas P (Breaks x) = P x
AskedHas P (Tells t x) = P x
AskedHas P (Whens x o) = P x × P o
AskedHas P (ThrowsIt x) = Unit {0}
AskedHas P (IsStamped b x) = Unit {0}
AskedHas P (Coerces g x j) = P x × P j
AskedHas P (AddsNull x) = P x
AskedHas P NoMethod = Unit {0}

-- a set of values; all plain data is in it
abbrev pub In : {N : Type 0} → (Value N → Bool) → Value N → Type 0
In set v = set v ≡ true

abbrev pub HasPlain : {N : Type 0} → (Value N → Bool) → Type 0
HasPlain {N} set = (v : Value N) → IsPlain v → In set v

-- Of a set that has all plain data, and with each list its members: where it has the data that is called, what it is called with, and what that is followed to, it has each value in the answer.
abbrev pub AddsNothing : Type 0 → Type 0
AddsNothing N = (set : Value N → Bool) (lists : List (List (Value N))) → HasPlain set → ((k : ℕ) → In set (Items k) → AllOf (In set) (list_at lists k))
    → (y : Value N) (verb : Words) (held args : List (Value N)) → In set y → AllOf (In set) held → AllOf (In set) args → ReplyHas (In set) (data_reply lists y verb held args)

-- under global names and under local numbers
abbrev pub DataAddsNothing : Type 0
DataAddsNothing = AddsNothing Name × AddsNothing Local

-- A set that has all plain data has each value in what primitives answer; and where it has what a primitive is called with, each value that it is asked about.
abbrev pub PrimitivesAdd : Type 0 → Type 0
PrimitivesAdd N = (set : Value N → Bool) → HasPlain set
    → ((last : Bool) (a b : Value N) → ReplyHas (In set) (range_reply last a b)) × ((test : Order → Bool) (o : Option Order) → ReplyHas (In set) (compared {N = N} test o)) × ((x : Value N) → ReplyHas (In set) (null_or_reply x))
    × ((p : Primitive) (verb : Words) (args : List (Value N)) → AllOf (In set) args → AskedHas (In set) (asked p verb args))

abbrev pub PrimitivesAddNothing : Type 0
PrimitivesAddNothing = PrimitivesAdd Name × PrimitivesAdd Local
