-- What ranges answer is told by what it stands for.
use Rattle.std.proofs.Common.{◌≡◌, ℕ, zero, suc, ℤ, pos, ◌+ℤ◌, Bool, true, false, nat_le, List, [], ◌∷◌, Option, Some, None, Result, Ok, Err, IfOk, map, refl, ap, sym, ◌∙◌}
use Rattle.std.specs.Prelude.{codes}
use Rattle.ev_base.specs.declared.memory.Memory.{Memory}
use Rattle.ev_base.specs.declared.values.Value.{Value as Held}
use Rattle.ev_base.specs.declared.values.Value.TheVariants as held
use Rattle.ev_heap.specs.Contents.{Contents, nothing}
use Rattle.def_machine.specs.Native as native
use Rattle.def_machine.specs.Values.{Words, Value, Number, Local}
use Rattle.ev_integer.specs.declared.arithmetic.NumFault.TheVariants.{Overflow, ZeroDivisor, NegativePower}
use Rattle.ev_prims.specs.Problems.{problem_words}
use Rattle.ev_prims.specs.Ranges.{counted_from, so_many, range_answer}
use Rattle.ev_prims.specs.Reading.{text_in, value_by, values_by, value_in, reply_by, reply_in}
use Rattle.ev_prims.specs.Verbs.{picked}
use Rattle.ev_prims.specs.declared.problem.Problem.{Problem}
use Rattle.ev_prims.specs.declared.problem.Problem.TheVariants.{NoMethod, Arithmetic, NotInt, NotChar, NotBoolean, NotText, NotList, OutOfRange, BadArgument, NotComparable, TooHeavy, Unthrowable, DeadEjector}
use Rattle.ev_prims.specs.declared.reply.Reply.{Reply}
use Rattle.ev_prims.specs.declared.reply.Reply.TheVariants as reply

-- ---- what it stands for

counted_is : (t : ℕ → Words) (a : ℤ) (n : ℕ) → native.counted a n ≡ values_by t (counted_from a n)
unfolding native.counted counted_from
counted_is t a zero = refl
counted_is t a (suc n) = ap (λ (vs : List (Value Local)). Number a ∷ vs) (counted_is t (a +ℤ pos 1) n)

many_is : (t : ℕ → Words) (a : ℤ) (n : ℕ) (b : Bool) → elim b as (λ c. native.Reply Local) [ true ↦ native.Lists (native.counted a n) | false ↦ native.Fails (codes "too heavy") ] ≡ reply_by t (so_many a n b)
unfolding so_many
many_is t a n true = ap (λ (vs : List (Value Local)). native.Lists vs) (counted_is t a n)
many_is t a n false = refl

range_is : (t : ℕ → Words) (a : ℤ) (n : ℕ) → native.range_of a n ≡ reply_by t (so_many a n (nat_le n 65535))
unfolding native.range_of
range_is t a n = many_is t a n (nat_le n 65535)

pub range_means : (t : ℕ → Words) (last : Bool) (x y : Held) → native.range_reply last (value_by t x) (value_by t y) ≡ reply_by t (range_answer last x y)
unfolding native.range_reply range_answer
range_means t true (held.Int a) (held.Int b) = range_is t a (native.gap a (b +ℤ pos 1))
range_means t false (held.Int a) (held.Int b) = range_is t a (native.gap a b)
range_means t true (held.Int a) _ = refl
range_means t false (held.Int a) _ = refl
range_means t true _ y = refl
range_means t false _ y = refl

-- ---- and what is told by it

named : Words → Option Problem
named x = picked (
    (codes "no method", Some NoMethod) ∷ (codes "integer overflow", Some (Arithmetic Overflow)) ∷ (codes "zero divisor", Some (Arithmetic ZeroDivisor))
    ∷ (codes "negative power", Some (Arithmetic NegativePower)) ∷ (codes "not int", Some NotInt) ∷ (codes "not char", Some NotChar) ∷ (codes "not boolean", Some NotBoolean)
    ∷ (codes "not String", Some NotText) ∷ (codes "not List", Some NotList) ∷ (codes "out of range", Some OutOfRange) ∷ (codes "bad argument", Some BadArgument)
    ∷ (codes "not comparable", Some NotComparable) ∷ (codes "too heavy", Some TooHeavy) ∷ (codes "not a text", Some Unthrowable) ∷ (codes "ejector is dead", Some DeadEjector) ∷ []) None x

named_back : (p : Problem) → named (problem_words p) ≡ Some p
unfolding named
named_back NoMethod = refl
named_back (Arithmetic Overflow) = refl
named_back (Arithmetic ZeroDivisor) = refl
named_back (Arithmetic NegativePower) = refl
named_back NotInt = refl
named_back NotChar = refl
named_back NotBoolean = refl
named_back NotText = refl
named_back NotList = refl
named_back OutOfRange = refl
named_back BadArgument = refl
named_back NotComparable = refl
named_back TooHeavy = refl
named_back Unthrowable = refl
named_back DeadEjector = refl

one_problem : (p q : Problem) → problem_words p ≡ problem_words q → p ≡ q
one_problem p q e = let f : Some p ≡ Some q = sym (named_back p) ∙ ap named e ∙ named_back q in cc

unfoldable words_of : native.Reply Local → Option Words
words_of (native.Fails u) = Some u
words_of _ = None

unfoldable listed_in : native.Reply Local → Option (List (Value Local))
listed_in (native.Lists vs) = Some vs
listed_in _ = None

one_failure : (t : ℕ → Words) (r : Reply) (p : Problem) → reply_by t r ≡ native.Fails (problem_words p) → r ≡ reply.Fails p
unfolding words_of
one_failure t (reply.Fails q) p e =
    let f : Some (problem_words q) ≡ Some (problem_words p) = ap words_of e in
    let g : problem_words q ≡ problem_words p = cc in
    ap (λ (x : Problem). reply.Fails x) (one_problem q p g)
one_failure t (reply.Says v) p e = absurd (cc)
one_failure t (reply.Writes u) p e = absurd (cc)
one_failure t (reply.Lists vs) p e = absurd (cc)
one_failure t (reply.Iterates f vs) p e = absurd (cc)

unfoldable number_of : Value Local → Option ℤ
number_of (Number z) = Some z
number_of _ = None

one_number : (t : ℕ → Words) (v : Held) (z : ℤ) → value_by t v ≡ Number z → v ≡ held.Int z
unfolding number_of
one_number t (held.Int y) z e =
    let f : Some y ≡ Some z = ap number_of e in
    let g : y ≡ z = cc in
    ap (λ (x : ℤ). held.Int x) g
one_number t _ z e = absurd (cc)

all_numbers : (t : ℕ → Words) (vs : List Held) (a : ℤ) (n : ℕ) → values_by t vs ≡ native.counted a n → vs ≡ counted_from a n
unfolding native.counted counted_from
all_numbers t [] a zero e = refl
all_numbers t (v ∷ vs) a zero e = absurd (cc)
all_numbers t [] a (suc n) e = absurd (cc)
all_numbers t (v ∷ vs) a (suc n) e =
    let first : value_by t v ≡ Number a = cc in
    let rest : values_by t vs ≡ native.counted (a +ℤ pos 1) n = cc in
    ap (λ (x : Held). x ∷ vs) (one_number t v a first) ∙ ap (λ (xs : List Held). held.Int a ∷ xs) (all_numbers t vs (a +ℤ pos 1) n rest)

one_list : (t : ℕ → Words) (r : Reply) (a : ℤ) (n : ℕ) → reply_by t r ≡ native.Lists (native.counted a n) → r ≡ reply.Lists (counted_from a n)
unfolding listed_in
one_list t (reply.Lists vs) a n e =
    let f : Some (values_by t vs) ≡ Some (native.counted a n) = ap listed_in e in
    let g : values_by t vs ≡ native.counted a n = cc in
    ap (λ (xs : List Held). reply.Lists xs) (all_numbers t vs a n g)
one_list t (reply.Says v) a n e = absurd (cc)
one_list t (reply.Writes u) a n e = absurd (cc)
one_list t (reply.Iterates f vs) a n e = absurd (cc)
one_list t (reply.Fails p) a n e = absurd (cc)

one_many : (t : ℕ → Words) (r : Reply) (a : ℤ) (n : ℕ) (b : Bool) → reply_by t r ≡ reply_by t (so_many a n b) → r ≡ so_many a n b
unfolding so_many
one_many t r a n true e = one_list t r a n (e ∙ ap (λ (vs : List (Value Local)). native.Lists vs) (sym (counted_is t a n)))
one_many t r a n false e = one_failure t r TooHeavy e

one_range : (t : ℕ → Words) (r : Reply) (last : Bool) (x y : Held) → reply_by t r ≡ reply_by t (range_answer last x y) → r ≡ range_answer last x y
unfolding range_answer
one_range t r true (held.Int a) (held.Int b) e = one_many t r a (native.gap a (b +ℤ pos 1)) (nat_le (native.gap a (b +ℤ pos 1)) 65535) e
one_range t r false (held.Int a) (held.Int b) e = one_many t r a (native.gap a b) (nat_le (native.gap a b) 65535) e
one_range t r true (held.Int a) _ e = one_failure t r NotInt e
one_range t r false (held.Int a) _ e = one_failure t r NotInt e
one_range t r true _ y e = one_failure t r NotInt e
one_range t r false _ y e = one_failure t r NotInt e

pub range_so : (last : Bool) (x y : Held) (q : Result Reply Memory) → IfOk q (λ (r : Reply). (h : Contents) → reply_in h r ≡ native.range_reply last (value_in h x) (value_in h y))
    → IfOk q (λ (r : Reply). r ≡ range_answer last x y)
range_so last x y (Ok r) i = one_range (text_in nothing) r last x y (i nothing ∙ range_means (text_in nothing) last x y)
range_so last x y (Err m) i = tt
