-- What data answers to calls, and what is asked of primitives.
use Rattle.std.specs.Prelude.{ℕ, zero, suc, ◌+◌, ◌-◌, ℤ, pos, negsuc, neg_ℤ, nat_abs, ◌+ℤ◌, ◌-ℤ◌, int_le, int_lt, nat_le, nat_lt, Bool, true, false, not, ◌==◌, ◌&&◌, ◌||◌, List, [], ◌∷◌, ◌++◌, Option, Some, None, length, slice_get, map, Result, Ok, Err, codes}
use Rattle.std.specs.Char.{encode_utf8}
use Rattle.std.specs.Str.{chars}
use Rattle.std.specs.Fmt.{signed_decimal, digits}
use Rattle.ev_base.specs.SafeScope as safe_scope
use Rattle.def_machine.specs.Values.{Words, Value, Null, Flag, Number, Letter, Text, Prim, Items}
use Rattle.def_machine.specs.Free.{entry}
use Rattle.def_machine.specs.Ints.{IntOp, Add, Subtract, Multiply, FloorDivide, Remainder, Mod, Pow, And, Or, Xor, apply, in_range}
use Rattle.def_machine.specs.Free.{opened_free}
use Rattle.def_machine.specs.Ints.{opened_ints}

-- What is answered to a call, in which the arguments are known both as they are held and as they are followed.
pub data Reply (N : Type 0) : Type 0 where
  Says : Value N → Reply N
  -- a text that is made
  Writes : Words → Reply N
  -- a list that is made
  Lists : List (Value N) → Reply N
  -- run of that value is called with the place of each of these and it, in order
  Iterates : Value N → List (Value N) → Reply N
  Fails : Words → Reply N

unfoldable pub no_method : {N : Type 0} → Reply N
no_method = Fails (codes "no method")

unfoldable pub by_int : {N : Type 0} → Result ℤ Words → Reply N
by_int (Ok z) = Says (Number z)
by_int (Err p) = Fails p

-- ---- integers

pub data IntVerb : Type 0 where
  Applies : IntOp → IntVerb
  Negates : IntVerb
  AsChar : IntVerb
  NoIntVerb : IntVerb

unfoldable pub int_binary : Words → IntVerb
int_binary = entry (
    (codes "add", Applies Add) ∷ (codes "subtract", Applies Subtract) ∷ (codes "multiply", Applies Multiply) ∷ (codes "floorDivide", Applies FloorDivide)
    ∷ (codes "remainder", Applies Remainder) ∷ (codes "mod", Applies Mod) ∷ (codes "pow", Applies Pow)
    ∷ (codes "and", Applies And) ∷ (codes "or", Applies Or) ∷ (codes "xor", Applies Xor) ∷ []) NoIntVerb

unfoldable pub int_unary : Words → IntVerb
int_unary = entry ((codes "negate", Negates) ∷ (codes "asChar", AsChar) ∷ []) NoIntVerb

-- whether it is the code of a character: no surrogate, and within Unicode
unfoldable pub is_code : ℕ → Bool
is_code n = nat_lt n 0xd800 || (nat_le 0xe000 n && nat_le n 0x10ffff)

unfoldable pub as_char : {N : Type 0} → ℤ → Reply N
as_char (pos n) = elim (is_code n) [ true ↦ Says (Letter n) | false ↦ Fails (codes "not char") ]
as_char (negsuc n) = Fails (codes "not char")

unfoldable pub int_alone : {N : Type 0} → IntVerb → ℤ → Reply N
int_alone Negates z = by_int (in_range (neg_ℤ z))
int_alone AsChar z = as_char z
int_alone _ z = no_method

unfoldable pub int_with : {N : Type 0} → IntVerb → ℤ → Value N → Reply N
int_with (Applies op) a (Number b) = by_int (apply op a b)
int_with (Applies op) a _ = Fails (codes "not int")
int_with _ a x = no_method

-- what an integer answers, at followed arguments
unfoldable pub int_reply : {N : Type 0} → ℤ → Words → List (Value N) → Reply N
int_reply a verb [] = int_alone (int_unary verb) a
int_reply a verb (x ∷ []) = int_with (int_binary verb) a x
int_reply a verb _ = no_method

-- ---- booleans and characters

pub data FlagVerb : Type 0 where
  Both : FlagVerb
  Either : FlagVerb
  Unlike : FlagVerb
  NoFlagVerb : FlagVerb

unfoldable pub flag_binary : Words → FlagVerb
flag_binary = entry ((codes "and", Both) ∷ (codes "or", Either) ∷ (codes "xor", Unlike) ∷ []) NoFlagVerb

unfoldable pub flag_joined : FlagVerb → Bool → Bool → Bool
flag_joined Both a b = a && b
flag_joined Either a b = a || b
flag_joined _ a b = elim a [ true ↦ not b | false ↦ b ]

unfoldable pub flag_with : {N : Type 0} → FlagVerb → Bool → Value N → Reply N
flag_with NoFlagVerb a x = no_method
flag_with v a (Flag b) = Says (Flag (flag_joined v a b))
flag_with v a _ = Fails (codes "not boolean")

unfoldable pub flag_reply : {N : Type 0} → Bool → Words → List (Value N) → Reply N
flag_reply a verb [] = entry ((codes "not", Says (Flag (not a))) ∷ []) no_method verb
flag_reply a verb (x ∷ []) = flag_with (flag_binary verb) a x
flag_reply a verb _ = no_method

unfoldable pub letter_reply : {N : Type 0} → ℕ → Words → List (Value N) → Reply N
letter_reply c verb [] = entry ((codes "asInteger", Says (Number (pos c))) ∷ []) no_method verb
letter_reply c verb _ = no_method

-- ---- texts and lists

-- from the i-th on, so many
unfoldable pub part_of : {A : Type 0} → ℕ → ℕ → List A → List A
part_of i n [] = []
part_of (suc i) n (x ∷ xs) = part_of i n xs
part_of zero zero (x ∷ xs) = []
part_of zero (suc n) (x ∷ xs) = x ∷ part_of zero n xs

-- the place that an index names among so many
unfoldable pub index_in : ℕ → ℤ → Option ℕ
index_in n (pos i) = elim (nat_lt i n) [ true ↦ Some i | false ↦ None ]
index_in n (negsuc i) = None

-- from one place to before another, among so many: where it begins, and how many
unfoldable pub range_in : ℕ → ℤ → ℤ → Option (ℕ × ℕ)
range_in n (pos i) (pos j) = elim (nat_le i j && nat_le j n) [ true ↦ Some (i, j - i) | false ↦ None ]
range_in n _ _ = None

unfoldable pub got_at : {A N : Type 0} → (A → Value N) → List A → Option ℕ → Reply N
got_at f xs None = Fails (codes "out of range")
got_at f xs (Some i) = elim (slice_get xs i) [ Some x ↦ Says (f x) | None ↦ Fails (codes "out of range") ]

-- the member at an index
unfoldable pub got : {A N : Type 0} → (A → Value N) → List A → Value N → Reply N
got f xs (Number i) = got_at f xs (index_in (length xs) i)
got f xs _ = Fails (codes "bad argument")

unfoldable pub ran_at : {A N : Type 0} → (List A → Reply N) → List A → Option (ℕ × ℕ) → Reply N
ran_at f xs None = Fails (codes "out of range")
ran_at f xs (Some r) = f (part_of r.0 r.1 xs)

-- the members from an index to before another
unfoldable pub ran : {A N : Type 0} → (List A → Reply N) → List A → Value N → Value N → Reply N
ran f xs (Number i) (Number j) = ran_at f xs (range_in (length xs) i j)
ran f xs _ _ = Fails (codes "bad argument")

unfoldable pub encoded : List ℕ → Words
encoded [] = []
encoded (c ∷ cs) = encode_utf8 c ++ encoded cs

unfoldable pub flag_words : Bool → Words
flag_words true = codes "true"
flag_words false = codes "false"

-- a text with this behind it, printed without quotes
unfoldable pub text_and : {N : Type 0} → Words → Value N → Reply N
text_and t (Text u) = Writes (t ++ u)
text_and t (Number z) = Writes (t ++ signed_decimal z)
text_and t (Letter c) = Writes (t ++ encode_utf8 c)
text_and t (Flag b) = Writes (t ++ flag_words b)
text_and t Null = Writes (t ++ codes "null")
text_and t _ = Fails (codes "not String")

pub data SeqVerb : Type 0 where
  Gets : SeqVerb
  Adds : SeqVerb
  AddsOne : SeqVerb
  Steps : SeqVerb
  NoSeqVerb : SeqVerb

unfoldable pub text_verb : Words → SeqVerb
text_verb = entry ((codes "get", Gets) ∷ (codes "add", Adds) ∷ (codes "iterate", Steps) ∷ []) NoSeqVerb

unfoldable pub list_verb : Words → SeqVerb
list_verb = entry ((codes "get", Gets) ∷ (codes "add", Adds) ∷ (codes "with", AddsOne) ∷ (codes "iterate", Steps) ∷ []) NoSeqVerb

-- one argument, as it is held and as it is followed
unfoldable pub text_with : {N : Type 0} → SeqVerb → Words → Value N → Value N → Reply N
text_with Gets t held x = got Letter (chars t) x
text_with Adds t held x = text_and t x
text_with Steps t held x = Iterates held (map Letter (chars t))
text_with _ t held x = no_method

unfoldable pub text_reply : {N : Type 0} → Words → Words → List (Value N) → List (Value N) → Reply N
text_reply t verb [] _ = entry ((codes "size", Says (Number (pos (length (chars t))))) ∷ []) no_method verb
text_reply t verb (held ∷ []) (x ∷ []) = text_with (text_verb verb) t held x
text_reply t verb _ (i ∷ j ∷ []) = entry ((codes "run", ran (λ cs. Writes (encoded cs)) (chars t) i j) ∷ []) no_method verb
text_reply t verb _ _ = no_method

unfoldable pub list_at : {N : Type 0} → List (List (Value N)) → ℕ → List (Value N)
list_at ls k = elim (slice_get ls k) [ Some vs ↦ vs | None ↦ [] ]

unfoldable pub list_and : {N : Type 0} → List (List (Value N)) → List (Value N) → Value N → Reply N
list_and ls vs (Items k) = Lists (vs ++ list_at ls k)
list_and ls vs _ = Fails (codes "not List")

unfoldable pub list_with : {N : Type 0} → List (List (Value N)) → SeqVerb → List (Value N) → Value N → Value N → Reply N
list_with ls Gets vs held x = got (λ v. v) vs x
list_with ls Adds vs held x = list_and ls vs x
list_with ls AddsOne vs held x = Lists (vs ++ held ∷ [])
list_with ls Steps vs held x = Iterates held vs
list_with ls _ vs held x = no_method

unfoldable pub list_reply : {N : Type 0} → List (List (Value N)) → List (Value N) → Words → List (Value N) → List (Value N) → Reply N
list_reply ls vs verb [] _ = entry ((codes "size", Says (Number (pos (length vs)))) ∷ []) no_method verb
list_reply ls vs verb (held ∷ []) (x ∷ []) = list_with ls (list_verb verb) vs held x
list_reply ls vs verb _ (i ∷ j ∷ []) = entry ((codes "run", ran Lists vs i j) ∷ []) no_method verb
list_reply ls vs verb _ _ = no_method

-- What followed data answers, with the lists of its vat: to a verb, with the arguments as held and as followed.
unfoldable pub data_reply : {N : Type 0} → List (List (Value N)) → Value N → Words → List (Value N) → List (Value N) → Reply N
data_reply ls (Number a) verb held args = int_reply a verb args
data_reply ls (Flag b) verb held args = flag_reply b verb args
data_reply ls (Letter c) verb held args = letter_reply c verb args
data_reply ls (Text t) verb held args = text_reply t verb held args
data_reply ls (Items k) verb held args = list_reply ls (list_at ls k) verb held args
data_reply ls _ verb held args = no_method

-- ---- comparing

pub data Order : Type 0 where
  Less : Order
  Equal : Order
  Greater : Order

unfoldable pub order_of : ℕ → ℕ → Order
order_of a b = elim (nat_lt a b) [ true ↦ Less | false ↦ elim (a == b) [ true ↦ Equal | false ↦ Greater ] ]

unfoldable pub int_order : ℤ → ℤ → Order
int_order a b = elim (int_lt a b) [ true ↦ Less | false ↦ elim (int_le a b) [ true ↦ Equal | false ↦ Greater ] ]

unfoldable pub text_order : Words → Words → Order
text_order [] [] = Equal
text_order [] (b ∷ bs) = Less
text_order (a ∷ as') [] = Greater
text_order (a ∷ as') (b ∷ bs) = elim (order_of a b) [ Less ↦ Less | Equal ↦ text_order as' bs | Greater ↦ Greater ]

-- the order of two of one kind
unfoldable pub value_order : {N : Type 0} → Value N → Value N → Option Order
value_order (Number a) (Number b) = Some (int_order a b)
value_order (Letter a) (Letter b) = Some (order_of a b)
value_order (Text a) (Text b) = Some (text_order a b)
value_order _ _ = None

unfoldable pub compared : {N : Type 0} → (Order → Bool) → Option Order → Reply N
compared test None = Fails (codes "not comparable")
compared test (Some o) = Says (Flag (test o))

unfoldable pub is_less : Order → Bool
is_less Less = true
is_less _ = false

unfoldable pub is_equal : Order → Bool
is_equal Equal = true
is_equal _ = false

unfoldable pub is_more : Order → Bool
is_more Greater = true
is_more _ = false

-- ---- ranges of integers

-- so many integers, from this one on
unfoldable pub counted : {N : Type 0} → ℤ → ℕ → List (Value N)
counted a zero = []
counted a (suc n) = Number a ∷ counted (a +ℤ pos 1) n

-- how many integers there are from one to before another
unfoldable pub gap : ℤ → ℤ → ℕ
gap a b = elim (int_le a b) [ true ↦ nat_abs (b -ℤ a) | false ↦ 0 ]

unfoldable pub range_of : {N : Type 0} → ℤ → ℕ → Reply N
range_of a n = elim (nat_le n 65535) [ true ↦ Lists (counted a n) | false ↦ Fails (codes "too heavy") ]

-- the integers from one to another, by whether the last is among them
unfoldable pub range_reply : {N : Type 0} → Bool → Value N → Value N → Reply N
range_reply true (Number a) (Number b) = range_of a (gap a (b +ℤ pos 1))
range_reply false (Number a) (Number b) = range_of a (gap a b)
range_reply last _ _ = Fails (codes "not int")

-- ---- primitives

-- what a native guard wants
pub data Guard : Type 0 where
  AnyGuard : Guard
  VoidGuard : Guard
  IntGuard : Guard
  BooleanGuard : Guard
  CharGuard : Guard
  TextGuard : Guard
  ListGuard : Guard
  NullGuard : Guard
  NearGuard : Guard
  FrozenGuard : Guard
  -- null, or what that one takes
  OrNull : Guard → Guard

unfoldable pub guard_name : Guard → Words
guard_name AnyGuard = codes "any"
guard_name VoidGuard = codes "void"
guard_name IntGuard = codes "int"
guard_name BooleanGuard = codes "boolean"
guard_name CharGuard = codes "char"
guard_name TextGuard = codes "String"
guard_name ListGuard = codes "List"
guard_name NullGuard = codes "nullOk"
guard_name NearGuard = codes "near"
guard_name FrozenGuard = codes "DeepFrozen"
guard_name (OrNull g) = codes "nullOk:" ++ guard_name g

-- by what a native auditor judges
pub data Rule : Type 0 where
  DeepFrozen : Rule
  Selfless : Rule
  Functional : Rule

pub data Primitive : Type 0 where
  MakeList : Primitive
  Equalizer : Primitive
  Comparer : Primitive
  Looper : Primitive
  Sender : Primitive
  References : Primitive
  Thrower : Primitive
  StampReader : Primitive
  Guarding : Guard → Primitive
  -- an auditor that is no guard
  Judging : Rule → Primitive
  NoPrimitive : Primitive

-- the primitives of the safe scope, each at the place of its number
unfoldable pub primitives : List Primitive
primitives =
    MakeList ∷ Equalizer ∷ Comparer ∷ Looper ∷ Sender ∷ References ∷ Thrower ∷ StampReader
    ∷ Guarding AnyGuard ∷ Guarding VoidGuard ∷ Guarding IntGuard ∷ Guarding BooleanGuard ∷ Guarding CharGuard
    ∷ Guarding TextGuard ∷ Guarding ListGuard ∷ Guarding NullGuard ∷ Guarding NearGuard ∷ Guarding FrozenGuard
    ∷ Judging Selfless ∷ Judging Functional ∷ []

unfoldable pub with_null : Primitive → Primitive
with_null (Guarding NullGuard) = NoPrimitive
with_null (Guarding g) = Guarding (OrNull g)
with_null _ = NoPrimitive

unfoldable pub numbered : ℕ → Primitive
numbered n = elim (slice_get primitives n) [ Some p ↦ p | None ↦ NoPrimitive ]

-- primitive number n; nullOk of guard number n has the number 32 + n
unfoldable pub primitive : ℕ → Primitive
primitive n = elim (nat_lt n 32) [ true ↦ numbered n | false ↦ with_null (numbered (n - 32)) ]

unfoldable pub native_guard : Primitive → Option Guard
native_guard (Guarding g) = Some g
native_guard _ = None

-- nullOk.get, at a followed guard
unfoldable pub null_or : {N : Type 0} → ℕ → Primitive → Reply N
null_or n (Guarding NullGuard) = Fails (codes "bad argument")
null_or n (Guarding (OrNull g)) = Fails (codes "bad argument")
null_or n (Guarding g) = Says (Prim (32 + n))
null_or n _ = Fails (codes "bad argument")

unfoldable pub null_or_reply : {N : Type 0} → Value N → Reply N
null_or_reply (Prim n) = null_or n (primitive n)
null_or_reply _ = Fails (codes "bad argument")

-- what Ref tells of a value
pub data RefTest : Type 0 where
  IsNear : RefTest
  IsFar : RefTest
  IsResolved : RefTest
  IsBroken : RefTest
  OptProblem : RefTest
  Fulfillment : RefTest
  NoTest : RefTest

-- what is asked of a primitive, its arguments as they are held
pub data Asked (N : Type 0) : Type 0 where
  MakesList : List (Value N) → Asked N
  Ranges : Bool → Value N → Value N → Asked N
  Same : Value N → Value N → Asked N
  Compares : (Order → Bool) → Value N → Value N → Asked N
  Loops : Value N → Asked N
  -- whether without an answer, target, verb, list of arguments
  SendsTo : Bool → Value N → Value N → Value N → Asked N
  CallsTo : Value N → Value N → Value N → Asked N
  MakesPromise : Asked N
  Breaks : Value N → Asked N
  Tells : RefTest → Value N → Asked N
  -- a value, and what reacts once it is settled
  Whens : Value N → Value N → Asked N
  ThrowsIt : Value N → Asked N
  -- an auditor, and what may bear its stamp
  IsStamped : Value N → Value N → Asked N
  -- a specimen and an ejector
  Coerces : Guard → Value N → Value N → Asked N
  AddsNull : Value N → Asked N
  NoMethod : Asked N

unfoldable pub list_ask : {N : Type 0} → Words → List (Value N) → Asked N
list_ask verb (a ∷ b ∷ []) = entry ((codes "run", MakesList (a ∷ b ∷ [])) ∷ (codes "through", Ranges true a b) ∷ (codes "till", Ranges false a b) ∷ []) NoMethod verb
list_ask verb args = entry ((codes "run", MakesList args) ∷ []) NoMethod verb

unfoldable pub equalizer_ask : {N : Type 0} → Words → List (Value N) → Asked N
equalizer_ask verb (a ∷ b ∷ []) = entry ((codes "sameEver", Same a b) ∷ []) NoMethod verb
equalizer_ask verb _ = NoMethod

unfoldable pub comparer_ask : {N : Type 0} → Words → List (Value N) → Asked N
comparer_ask verb (a ∷ b ∷ []) = entry (
    (codes "lessThan", Compares is_less a b) ∷ (codes "leq", Compares (λ o. not (is_more o)) a b) ∷ (codes "asBigAs", Compares is_equal a b)
    ∷ (codes "geq", Compares (λ o. not (is_less o)) a b) ∷ (codes "greaterThan", Compares is_more a b) ∷ []) NoMethod verb
comparer_ask verb _ = NoMethod

-- run of one argument
unfoldable pub run_ask : {N : Type 0} → (Value N → Asked N) → Words → List (Value N) → Asked N
run_ask f verb (a ∷ []) = entry ((codes "run", f a) ∷ []) NoMethod verb
run_ask f verb _ = NoMethod

unfoldable pub send_ask : {N : Type 0} → Words → List (Value N) → Asked N
send_ask verb (x ∷ v ∷ l ∷ []) = entry ((codes "send", SendsTo false x v l) ∷ (codes "sendOnly", SendsTo true x v l) ∷ (codes "call", CallsTo x v l) ∷ []) NoMethod verb
send_ask verb _ = NoMethod

unfoldable pub ref_ask : {N : Type 0} → Words → List (Value N) → Asked N
ref_ask verb [] = entry ((codes "promise", MakesPromise) ∷ []) NoMethod verb
ref_ask verb (x ∷ []) = entry (
    (codes "broken", Breaks x) ∷ (codes "isNear", Tells IsNear x) ∷ (codes "isFar", Tells IsFar x) ∷ (codes "isResolved", Tells IsResolved x)
    ∷ (codes "isBroken", Tells IsBroken x) ∷ (codes "optProblem", Tells OptProblem x) ∷ (codes "fulfillment", Tells Fulfillment x) ∷ []) NoMethod verb
ref_ask verb (x ∷ o ∷ []) = entry ((codes "whenResolved", Whens x o) ∷ []) NoMethod verb
ref_ask verb _ = NoMethod

unfoldable pub stamp_ask : {N : Type 0} → Words → List (Value N) → Asked N
stamp_ask verb (a ∷ x ∷ []) = entry ((codes "run", IsStamped a x) ∷ []) NoMethod verb
stamp_ask verb _ = NoMethod

unfoldable pub guard_ask : {N : Type 0} → Guard → Words → List (Value N) → Asked N
guard_ask g verb (x ∷ j ∷ []) = entry ((codes "coerce", Coerces g x j) ∷ []) NoMethod verb
guard_ask NullGuard verb (x ∷ []) = entry ((codes "get", AddsNull x) ∷ []) NoMethod verb
guard_ask g verb _ = NoMethod

unfoldable pub asked : {N : Type 0} → Primitive → Words → List (Value N) → Asked N
asked MakeList verb args = list_ask verb args
asked Equalizer verb args = equalizer_ask verb args
asked Comparer verb args = comparer_ask verb args
asked Looper verb args = run_ask Loops verb args
asked Sender verb args = send_ask verb args
asked References verb args = ref_ask verb args
asked Thrower verb args = run_ask ThrowsIt verb args
asked StampReader verb args = stamp_ask verb args
asked (Guarding g) verb args = guard_ask g verb args
asked (Judging r) verb args = NoMethod
asked NoPrimitive verb args = NoMethod

-- each of these nouns with its primitive, numbered from there on
unfoldable pub prims_from : {N : Type 0} → ℕ → List Words → List (Words × Option (Value N))
prims_from n [] = []
prims_from n (x ∷ xs) = (x, Some (Prim n)) ∷ prims_from (suc n) xs

-- the value of a noun of the safe scope
unfoldable pub safe_value : {N : Type 0} → Words → Option (Value N)
safe_value = entry ((codes "null", Some Null) ∷ (codes "true", Some (Flag true)) ∷ (codes "false", Some (Flag false)) ∷ prims_from 0 safe_scope.primitives) None

-- opens each definition of this file, and of those below
unfoldable pub opened_native : Unit {0}
unfolding no_method by_int int_binary int_unary is_code as_char int_alone int_with int_reply flag_binary flag_joined flag_with flag_reply letter_reply part_of index_in range_in got_at got ran_at ran encoded flag_words text_and text_verb list_verb text_with text_reply list_at list_and list_with list_reply data_reply order_of int_order text_order value_order compared is_less is_equal is_more counted gap range_of range_reply guard_name primitives with_null numbered primitive native_guard null_or null_or_reply list_ask equalizer_ask comparer_ask run_ask send_ask ref_ask stamp_ask guard_ask asked prims_from safe_value opened_free opened_ints encode_utf8 chars digits
opened_native = tt
