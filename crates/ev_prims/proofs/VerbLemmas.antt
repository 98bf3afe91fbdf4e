-- Verbs are told apart as texts are.
use Rattle.std.proofs.Common.{◌≡◌, ℕ, Bool, true, false, ◌&&◌, nat_eq, List, [], ◌∷◌, Option, Some, None, refl, ap, ◌∙◌, arith}
use Rattle.std.specs.Prelude.{codes, if◌then◌else◌}
use Rattle.std.specs.Str.{bytes_eq}
use Rattle.std.proofs.lemmas.Bool.Decides.{nat_tests}
use Rattle.def_machine.specs.Values.{Words, Value, Local}
use Rattle.def_machine.specs.Free.{same_words, entry}
use Rattle.def_machine.specs.Native as native
use Rattle.ev_prims.specs.Asking.{ref_test_in}
use Rattle.ev_prims.specs.Orders.{test_in}
use Rattle.ev_prims.specs.Verbs.{picked, operations, operation_named, int_verb_of, alone_verbs, alone_named, alone_of, joinings, joining_named, flag_verb_of, text_verbs, text_verb_named, list_verbs, list_verb_named, seq_verb_of, tests, test_named, range_verbs, range_named, ref_tests, ref_test_named}
use Rattle.ev_prims.specs.Same.{op_of}
use Rattle.ev_integer.specs.declared.arithmetic.IntOp.{IntOp}
use Rattle.ev_prims.specs.declared.asking.RefTest.{RefTest}
use Rattle.ev_prims.specs.declared.flags.Joining.{Joining}
use Rattle.ev_prims.specs.declared.integers.AloneVerb.TheVariants.{Negate, ToChar}
use Rattle.ev_prims.specs.declared.verbs.SeqVerb.{SeqVerb}
use Rattle.ev_prims.specs.declared.order.Test.{Test}

both : (b p q : Bool) → p ≡ q → elim b [ true ↦ p | false ↦ false ] ≡ b && q
both true p q e = e
both false p q e = refl

turned : (x y : ℕ) → nat_eq x y ≡ nat_eq y x
turned x y = grind (arith, nat_tests)

pub same_turned : (a b : Words) → same_words a b ≡ bytes_eq b a
unfolding same_words
same_turned [] [] = refl
same_turned [] (y ∷ ys) = refl
same_turned (x ∷ xs) [] = refl
same_turned (x ∷ xs) (y ∷ ys) = both (nat_eq x y) (same_words xs ys) (bytes_eq ys xs) (same_turned xs ys) ∙ ap (λ b. b && bytes_eq ys xs) (turned x y)

chosen : {A : Type 0} (b c : Bool) (x y z : A) → b ≡ c → y ≡ z → elim b [ true ↦ x | false ↦ y ] ≡ (if c then x else z)
chosen true true x y z e f = refl
chosen false false x y z e f = f
chosen true false x y z e f = absurd (cc)
chosen false true x y z e f = absurd (cc)

-- the entry of a table at a text, or the last one
pub entry_is : {A : Type 0} (es : List (Words × A)) (d : A) (x : Words) → entry es d x ≡ picked es d x
unfolding entry
entry_is [] d x = refl
entry_is (e ∷ es) d x = chosen (same_words e.0 x) (bytes_eq x e.0) e.1 (entry es d x) (picked es d x) (same_turned e.0 x) (entry_is es d x)

-- a table with each entry put through a function
abbrev pub through : {A B : Type 0} → (A → B) → List (Words × A) → List (Words × B)
through f [] = []
through f (e ∷ es) = (e.0, f e.1) ∷ through f es

either : {A B : Type 0} (f : A → B) (b : Bool) (x y : A) (z : B) → z ≡ f y → (if b then f x else z) ≡ f (if b then x else y)
either f true x y z e = refl
either f false x y z e = e

picked_through : {A B : Type 0} (f : A → B) (es : List (Words × A)) (d : A) (x : Words) → picked (through f es) (f d) x ≡ f (picked es d x)
picked_through f [] d x = refl
picked_through f (e ∷ es) d x = either f (bytes_eq x e.0) e.1 (picked es d x) (picked (through f es) (f d) x) (picked_through f es d x)

-- what a table of the machine has, by a table of the code
pub by_table : {A B : Type 0} (f : A → B) (es : List (Words × A)) (d : A) (x : Words) → entry (through f es) (f d) x ≡ f (picked es d x)
by_table f es d x = entry_is (through f es) (f d) x ∙ picked_through f es d x

pub int_binary_is : (x : Words) → native.int_binary x ≡ int_verb_of (operation_named x)
unfolding native.int_binary operation_named
int_binary_is x = by_table int_verb_of operations None x

pub int_unary_is : (x : Words) → native.int_unary x ≡ alone_of (alone_named x)
unfolding native.int_unary alone_named
int_unary_is x = by_table alone_of alone_verbs None x

pub flag_binary_is : (x : Words) → native.flag_binary x ≡ flag_verb_of (joining_named x)
unfolding native.flag_binary joining_named
flag_binary_is x = by_table flag_verb_of joinings None x

pub text_verb_is : (x : Words) → native.text_verb x ≡ seq_verb_of (text_verb_named x)
unfolding native.text_verb text_verb_named
text_verb_is x = by_table seq_verb_of text_verbs None x

pub list_verb_is : (x : Words) → native.list_verb x ≡ seq_verb_of (list_verb_named x)
unfolding native.list_verb list_verb_named
list_verb_is x = by_table seq_verb_of list_verbs None x

pub int_binary_some : (x : Words) (o : IntOp) → operation_named x ≡ Some o → native.int_binary x ≡ native.Applies (op_of o)
int_binary_some x o e = int_binary_is x ∙ ap int_verb_of e

pub int_binary_none : (x : Words) → operation_named x ≡ None → native.int_binary x ≡ native.NoIntVerb
int_binary_none x e = int_binary_is x ∙ ap int_verb_of e

pub int_negate : (x : Words) → alone_named x ≡ Some Negate → native.int_unary x ≡ native.Negates
int_negate x e = int_unary_is x ∙ ap alone_of e

pub int_char : (x : Words) → alone_named x ≡ Some ToChar → native.int_unary x ≡ native.AsChar
int_char x e = int_unary_is x ∙ ap alone_of e

pub int_unary_none : (x : Words) → alone_named x ≡ None → native.int_unary x ≡ native.NoIntVerb
int_unary_none x e = int_unary_is x ∙ ap alone_of e

pub flag_binary_some : (x : Words) (j : Joining) → joining_named x ≡ Some j → native.flag_binary x ≡ flag_verb_of (Some j)
flag_binary_some x j e = flag_binary_is x ∙ ap flag_verb_of e

pub flag_binary_none : (x : Words) → joining_named x ≡ None → native.flag_binary x ≡ native.NoFlagVerb
flag_binary_none x e = flag_binary_is x ∙ ap flag_verb_of e

pub text_verb_at : (x : Words) (v : Option SeqVerb) → text_verb_named x ≡ v → native.text_verb x ≡ seq_verb_of v
text_verb_at x v e = text_verb_is x ∙ ap seq_verb_of e

pub list_verb_at : (x : Words) (v : Option SeqVerb) → list_verb_named x ≡ v → native.list_verb x ≡ seq_verb_of v
list_verb_at x v e = list_verb_is x ∙ ap seq_verb_of e

-- ---- what is asked of primitives

abbrev pub compares : Value Local → Value Local → Option Test → native.Asked Local
compares a b (Some t) = native.Compares (test_in t) a b
compares a b None = native.NoMethod

pub comparer_is : (x : Words) (a b : Value Local) → native.comparer_ask x (a ∷ b ∷ []) ≡ compares a b (test_named x)
unfolding native.comparer_ask test_named
comparer_is x a b = by_table (compares a b) tests None x

abbrev pub ranges : Value Local → Value Local → Option Bool → native.Asked Local
ranges a b (Some last) = native.Ranges last a b
ranges a b None = native.NoMethod

pub list_ask_is : (x : Words) (a b : Value Local)
    → native.list_ask x (a ∷ b ∷ []) ≡ (if bytes_eq x (codes "run") then native.MakesList (a ∷ b ∷ []) else ranges a b (range_named x))
unfolding native.list_ask range_named entry
list_ask_is x a b =
    chosen (same_words (codes "run") x) (bytes_eq x (codes "run")) (native.MakesList (a ∷ b ∷ []))
    (entry (through (ranges a b) range_verbs) native.NoMethod x) (ranges a b (range_named x))
    (same_turned (codes "run") x) (by_table (ranges a b) range_verbs None x)

abbrev tells : Value Local → Option RefTest → native.Asked Local
tells a (Some t) = native.Tells (ref_test_in t) a
tells a None = native.NoMethod

ref_ask_is : (x : Words) (a : Value Local) → native.ref_ask x (a ∷ []) ≡ (if bytes_eq x (codes "broken") then native.Breaks a else tells a (ref_test_named x))
unfolding native.ref_ask ref_test_named entry
ref_ask_is x a =
    chosen (same_words (codes "broken") x) (bytes_eq x (codes "broken")) (native.Breaks a)
    (entry (through (tells a) ref_tests) native.NoMethod x) (tells a (ref_test_named x))
    (same_turned (codes "broken") x) (by_table (tells a) ref_tests None x)

pub comparer_test : (x : Words) (a b : Value Local) (t : Test) → test_named x ≡ Some t → native.comparer_ask x (a ∷ b ∷ []) ≡ native.Compares (test_in t) a b
comparer_test x a b t e = comparer_is x a b ∙ ap (compares a b) e

pub comparer_none : (x : Words) (a b : Value Local) → test_named x ≡ None → native.comparer_ask x (a ∷ b ∷ []) ≡ native.NoMethod
comparer_none x a b e = comparer_is x a b ∙ ap (compares a b) e

ranged : (x : Words) (a b : Value Local) → bytes_eq x (codes "run") ≡ false → native.list_ask x (a ∷ b ∷ []) ≡ ranges a b (range_named x)
ranged x a b e = list_ask_is x a b ∙ ap (λ c. if c then native.MakesList (a ∷ b ∷ []) else ranges a b (range_named x)) e

pub list_ask_run : (x : Words) (a b : Value Local) → bytes_eq x (codes "run") ≡ true → native.list_ask x (a ∷ b ∷ []) ≡ native.MakesList (a ∷ b ∷ [])
list_ask_run x a b e = list_ask_is x a b ∙ ap (λ c. if c then native.MakesList (a ∷ b ∷ []) else ranges a b (range_named x)) e

pub list_ask_range : (x : Words) (a b : Value Local) (last : Bool) → bytes_eq x (codes "run") ≡ false → range_named x ≡ Some last → native.list_ask x (a ∷ b ∷ []) ≡ native.Ranges last a b
list_ask_range x a b last e f = ranged x a b e ∙ ap (ranges a b) f

pub list_ask_none : (x : Words) (a b : Value Local) → bytes_eq x (codes "run") ≡ false → range_named x ≡ None → native.list_ask x (a ∷ b ∷ []) ≡ native.NoMethod
list_ask_none x a b e f = ranged x a b e ∙ ap (ranges a b) f

told : (x : Words) (a : Value Local) → bytes_eq x (codes "broken") ≡ false → native.ref_ask x (a ∷ []) ≡ tells a (ref_test_named x)
told x a e = ref_ask_is x a ∙ ap (λ c. if c then native.Breaks a else tells a (ref_test_named x)) e

pub ref_ask_breaks : (x : Words) (a : Value Local) → bytes_eq x (codes "broken") ≡ true → native.ref_ask x (a ∷ []) ≡ native.Breaks a
ref_ask_breaks x a e = ref_ask_is x a ∙ ap (λ c. if c then native.Breaks a else tells a (ref_test_named x)) e

pub ref_ask_test : (x : Words) (a : Value Local) (t : RefTest) → bytes_eq x (codes "broken") ≡ false → ref_test_named x ≡ Some t → native.ref_ask x (a ∷ []) ≡ native.Tells (ref_test_in t) a
ref_ask_test x a t e f = told x a e ∙ ap (tells a) f

pub ref_ask_none : (x : Words) (a : Value Local) → bytes_eq x (codes "broken") ≡ false → ref_test_named x ≡ None → native.ref_ask x (a ∷ []) ≡ native.NoMethod
ref_ask_none x a e f = told x a e ∙ ap (tells a) f
