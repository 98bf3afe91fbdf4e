-- What data and primitives answer fits where what they are given does.
use lib.Utf8.{scalar_fits}
use Rattle.def_kernel.specs.Trees.{IsInt}
use Rattle.def_machine.specs.State.{WhereSome}
use Rattle.std.proofs.lemmas.Nat.{or_lt, xor_lt, and_le_l}
use Rattle.std.proofs.lemmas.Int.{ints}
use Rattle.std.proofs.Common.{◌≡◌, ℕ, zero, suc, ℤ, pos, negsuc, Bool, true, false, List, [], ◌∷◌, ◌++◌, Option, Some, None, Ok, Err, Result, length, map, codes, ◌+ℤ◌, ◌==◌, ◌%◌, refl, arith, ◌+◌, ◌-◌, ◌≤◌, ◌<◌, ◌^◌, sym, subst, ap}
use Rattle.std.specs.Prelude.{slice_get, nat_le, nat_abs, neg_ℤ, ◌+ℤ◌, ◌-ℤ◌, int_le, nat_lt}
use Rattle.std.specs.Char.{IsScalar}
use Rattle.std.specs.Str.{IsUtf8, chars}
use Rattle.std.proofs.lemmas.Bool.Decides.{nat_tests}
use Rattle.std.proofs.lemmas.Str.{IsUtf8-append, IsUtf8-encode}
use Rattle.def_machine.specs.Values.{Words, Value, Null, Flag, Number, Letter, Text, Prim, Items, Name}
use Rattle.def_machine.specs.Free.{entry, same_words}
use Rattle.def_machine.specs.Ints as ints
use Rattle.def_machine.specs.Ints.{IntOp, FloorDivide, Remainder, Mod, Pow, And, Or, Xor}
use Rattle.def_machine.specs.Native as native
use Rattle.def_machine.specs.Native.{list_at, Reply, Says, Writes, Lists as Listed, Iterates, Fails, IntVerb, Applies, Negates, AsChar, FlagVerb, Both, Either, Unlike, NoFlagVerb, SeqVerb, Gets, Adds, AddsOne, Steps, NoSeqVerb, Order, Guard, AnyGuard, VoidGuard, IntGuard, BooleanGuard, CharGuard, TextGuard, ListGuard, NullGuard, NearGuard, FrozenGuard, OrNull, Primitive, MakeList, Equalizer, Comparer, Looper, Sender, References, Thrower, StampReader, Guarding, Judging, NoPrimitive, Asked, MakesList, Ranges, Loops, SendsTo, CallsTo, Breaks, Tells, Whens, ThrowsIt, Coerces, AddsNull}
use Rattle.law_text.specs.Text.Feeds.{AllOf}
use Rattle.law_text.specs.RunTexts.Fitting.{Limits, ValueFits, ValuesFit, spread, TextFits}
use Rattle.law_text.proofs.RunTexts.Fine.{all_append, all_end}
use Rattle.law_text.proofs.RunTexts.Texts.{utf8, chars_scalar, encoded_utf8, signed_utf8, plain, chars_le}

pub either_has : {A : Type 0} (Q : A → Type 0) (b : Bool) (x y : A) → Q x → Q y → Q (elim b [ true ↦ x | false ↦ y ])
either_has Q true x y h i = h
either_has Q false x y h i = i

either_so : {A : Type 0} (Q : A → Type 0) (b : Bool) (x y : A) → (b ≡ true → Q x) → Q y → Q (elim b [ true ↦ x | false ↦ y ])
either_so Q true x y h i = h refl
either_so Q false x y h i = i

pub entry_has : {A : Type 0} (Q : A → Type 0) (es : List (Words × A)) (a : A) (x : Words) → AllOf (λ (e : Words × A). Q e.1) es → Q a → Q (entry es a x)
unfolding entry
entry_has Q [] a x h i = i
entry_has Q (e ∷ es) a x h i = either_has Q (same_words e.0 x) e.1 (entry es a x) h.0 (entry_has Q es a x h.1 i)

part_all : {A : Type 0} (Q : A → Type 0) (i n : ℕ) (xs : List A) → AllOf Q xs → AllOf Q (native.part_of i n xs)
unfolding native.part_of
part_all Q i n [] h = tt
part_all Q (suc i) n (x ∷ xs) h = part_all Q i n xs h.1
part_all Q zero zero (x ∷ xs) h = tt
part_all Q zero (suc n) (x ∷ xs) h = (h.0, part_all Q zero n xs h.1)

length_map : {A B : Type 0} (f : A → B) (xs : List A) → length (map f xs) ≡ length xs
length_map f [] = refl
length_map f (x ∷ xs) = ap suc (length_map f xs)

-- ---- integers

-- an integer of 128 bits, or a problem that is a text
abbrev ResultFits : Result ℤ Words → Type 0
ResultFits (Ok z) = IsInt z
ResultFits (Err p) = TextFits p

fits_is : (z : ℤ) → ints.fits z ≡ true → IsInt z
unfolding ints.fits
fits_is (pos n) h = grind (arith, nat_tests)
fits_is (negsuc n) h = grind (arith, nat_tests)

in_range_fits : (z : ℤ) → ResultFits (ints.in_range z)
unfolding ints.in_range
in_range_fits z = either_so ResultFits (ints.fits z) (Ok z) (Err (codes "integer overflow")) (fits_is z) (plain _ refl)

divided_fits : (b answer : ℤ) → ResultFits (ints.divided b answer)
unfolding ints.divided
divided_fits b answer = either_has ResultFits (ints.is_zero b) (Err (codes "zero divisor")) (ints.in_range answer) (plain _ refl) (in_range_fits answer)

small_is : (a : ℤ) → nat_le (nat_abs a) 1 ≡ true → IsInt (pos (nat_abs a))
small_is a h = let l : nat_abs a ≤ 1 = grind (arith, nat_tests) in omega (arith, l)

power_fits : (a : ℤ) (n : ℕ) → IsInt a → ResultFits (ints.power a n)
unfolding ints.power ints.is_small
power_fits a n f = either_so ResultFits (nat_le (nat_abs a) 1) _ _
    (λ small. either_has ResultFits (n == 0) (Ok (pos 1)) _ (omega arith) (either_has ResultFits (n % 2 == 0) (Ok (pos (nat_abs a))) (Ok a) (small_is a small) f))
    (either_has ResultFits (nat_le n 127) _ _ (in_range_fits _) (plain _ refl))

powered_fits : (a b : ℤ) → IsInt a → ResultFits (ints.powered a b)
unfolding ints.powered
powered_fits a (pos n) f = power_fits a n f
powered_fits a (negsuc n) f = plain _ refl

bits_low : (a : ℤ) → IsInt a → ints.bits_of a < 2 ^ 128
unfolding ints.bits_of
bits_low (pos n) f = omega (arith, f)
bits_low (negsuc n) f = omega (arith, f)

turned : (k n : ℕ) → k ≡ suc n → n < 2 ^ 127 → IsInt (neg_ℤ (pos k))
turned k n e l = subst (λ z. IsInt (neg_ℤ (pos z))) (sym e) l

low : (u : ℕ) → nat_lt u (2 ^ 127) ≡ true → u < 2 ^ 127
low u e = grind (arith, nat_tests)

high : (u : ℕ) → nat_lt u (2 ^ 127) ≡ false → 2 ^ 127 ≤ u
high u e = grind (arith, nat_tests)

of_bits_is : (u : ℕ) → u < 2 ^ 128 → IsInt (ints.of_bits u)
unfolding ints.of_bits
of_bits_is u l = by (nat_lt u (2 ^ 127)) refl
  where
    by : (b : Bool) → nat_lt u (2 ^ 127) ≡ b → IsInt (elim b [ true ↦ pos u | false ↦ neg_ℤ (pos (2 ^ 128 - u)) ])
    by true e = low u e
    by false e = turned (2 ^ 128 - u) (2 ^ 128 - suc u) (omega (arith, l)) (let h = high u e in omega (arith, h, l))

apply_fits : (op : IntOp) (a b : ℤ) → IsInt a → IsInt b → ResultFits (ints.apply op a b)
unfolding ints.apply
apply_fits FloorDivide a b f g = divided_fits b _
apply_fits Remainder a b f g = divided_fits b _
apply_fits Mod a b f g = divided_fits b _
apply_fits Pow a b f g = powered_fits a b f
apply_fits And a b f g = of_bits_is _ (let l = and_le_l (ints.bits_of a) (ints.bits_of b) in let k = bits_low a f in omega (arith, l, k))
apply_fits Or a b f g = of_bits_is _ (or_lt 128 (ints.bits_of a) (ints.bits_of b) (bits_low a f) (bits_low b g))
apply_fits Xor a b f g = of_bits_is _ (xor_lt 128 (ints.bits_of a) (ints.bits_of b) (bits_low a f) (bits_low b g))
apply_fits other a b f g = in_range_fits _

code_is : (n : ℕ) → native.is_code n ≡ true → IsScalar n
unfolding native.is_code
code_is n h = grind (arith, nat_tests)

module _ (L : Limits) where
  abbrev pub ReplyFits : Reply Name → Type 0
  ReplyFits (Says v) = ValueFits L v
  ReplyFits (Writes t) = IsUtf8 t
  ReplyFits (Listed vs) = ValuesFit L vs
  ReplyFits (Iterates o vs) = ValueFits L o × ValuesFit L vs × (length vs < 2 ^ 64)
  ReplyFits (Fails p) = TextFits p

  -- what is said where a guard refuses
  abbrev pub GuardFits : Guard → Type 0
  GuardFits g = TextFits (codes "not " ++ native.guard_name g)

  abbrev pub AskedFits : Asked Name → Type 0
  AskedFits (MakesList vs) = ValuesFit L vs
  AskedFits (Ranges b x y) = ValueFits L x × ValueFits L y
  AskedFits (Loops o) = ValueFits L o
  AskedFits (SendsTo only x v l) = ValueFits L x × ValueFits L v × ValueFits L l
  AskedFits (CallsTo x v l) = ValueFits L x × ValueFits L v × ValueFits L l
  AskedFits (Breaks x) = ValueFits L x
  AskedFits (Tells t x) = ValueFits L x
  AskedFits (Whens x o) = ValueFits L x × ValueFits L o
  AskedFits (ThrowsIt x) = ValueFits L x
  AskedFits (Coerces g x j) = GuardFits g × ValueFits L x × ValueFits L j
  AskedFits (AddsNull x) = ValueFits L x
  AskedFits other = Unit {0}

  no_method_fits : ReplyFits native.no_method
  unfolding native.no_method
  no_method_fits = plain _ refl

  by_int_fits : (r : Result ℤ Words) → ResultFits r → ReplyFits (native.by_int r)
  unfolding native.by_int
  by_int_fits (Ok z) h = h
  by_int_fits (Err p) h = h

  as_char_fits : (z : ℤ) → ReplyFits (native.as_char z)
  unfolding native.as_char
  as_char_fits (pos n) = either_so ReplyFits (native.is_code n) (Says (Letter n)) _ (code_is n) (plain _ refl)
  as_char_fits (negsuc n) = plain _ refl

  alone_fits : (v : IntVerb) (z : ℤ) → ReplyFits (native.int_alone v z)
  unfolding native.int_alone
  alone_fits Negates z = by_int_fits _ (in_range_fits _)
  alone_fits AsChar z = as_char_fits z
  alone_fits other z = no_method_fits

  with_int_fits : (v : IntVerb) (a : ℤ) (x : Value Name) → IsInt a → ValueFits L x → ReplyFits (native.int_with v a x)
  unfolding native.int_with
  with_int_fits (Applies op) a (Number b) f g = by_int_fits _ (apply_fits op a b f g)
  with_int_fits (Applies op) a _ f g = plain _ refl
  with_int_fits other a x f g = no_method_fits

  int_fits : (a : ℤ) (verb : Words) (xs : List (Value Name)) → IsInt a → ValuesFit L xs → ReplyFits (native.int_reply a verb xs)
  unfolding native.int_reply
  int_fits a verb [] f g = alone_fits (native.int_unary verb) a
  int_fits a verb (x ∷ []) f g = with_int_fits (native.int_binary verb) a x f g.0
  int_fits a verb (x ∷ y ∷ ys) f g = no_method_fits

  joined_fits : (v : FlagVerb) (a : Bool) (x : Value Name) → ReplyFits (native.flag_with v a x)
  unfolding native.flag_with
  joined_fits NoFlagVerb a x = no_method_fits
  joined_fits Both a (Flag b) = tt
  joined_fits Either a (Flag b) = tt
  joined_fits Unlike a (Flag b) = tt
  joined_fits other a _ = plain _ refl

  flag_fits : (a : Bool) (verb : Words) (xs : List (Value Name)) → ReplyFits (native.flag_reply a verb xs)
  unfolding native.flag_reply
  flag_fits a verb [] = entry_has ReplyFits _ _ verb (tt, tt) no_method_fits
  flag_fits a verb (x ∷ []) = joined_fits (native.flag_binary verb) a x
  flag_fits a verb (x ∷ y ∷ ys) = no_method_fits

  letter_int : (c : ℕ) → IsScalar c → IsInt (pos c)
  letter_int c h = let l = scalar_fits c h in omega (arith, l)

  letter_fits : (c : ℕ) → IsScalar c → (verb : Words) (xs : List (Value Name)) → ReplyFits (native.letter_reply c verb xs)
  unfolding native.letter_reply
  letter_fits c h verb [] = entry_has ReplyFits _ _ verb (letter_int c h, tt) no_method_fits
  letter_fits c h verb (x ∷ xs) = no_method_fits

  -- ---- texts and lists

  module _ {A : Type 0} (f : A → Value Name) (Q : A → Type 0) (good : (x : A) → Q x → ValueFits L (f x)) where
    found_fits : (xs : List A) (i : ℕ) → AllOf Q xs → ReplyFits (elim (slice_get xs i) [ Some x ↦ Says (f x) | None ↦ Fails (codes "out of range") ])
    found_fits [] i h = plain _ refl
    found_fits (x ∷ xs) zero h = good x h.0
    found_fits (x ∷ xs) (suc i) h = found_fits xs i h.1

    got_at_fits : (xs : List A) (o : Option ℕ) → AllOf Q xs → ReplyFits (native.got_at f xs o)
    unfolding native.got_at
    got_at_fits xs None h = plain _ refl
    got_at_fits xs (Some i) h = found_fits xs i h

    got_fits : (xs : List A) (v : Value Name) → AllOf Q xs → ReplyFits (native.got f xs v)
    unfolding native.got
    got_fits xs (Number z) h = got_at_fits xs (native.index_in (length xs) z) h
    got_fits xs _ h = plain _ refl

    map_fits : (xs : List A) → AllOf Q xs → ValuesFit L (map f xs)
    map_fits [] h = tt
    map_fits (x ∷ xs) h = (good x h.0, map_fits xs h.1)

  module _ {A : Type 0} (f : List A → Reply Name) (Q : A → Type 0) (good : (xs : List A) → AllOf Q xs → ReplyFits (f xs)) where
    ran_at_fits : (xs : List A) (o : Option (ℕ × ℕ)) → AllOf Q xs → ReplyFits (native.ran_at f xs o)
    unfolding native.ran_at
    ran_at_fits xs None h = plain _ refl
    ran_at_fits xs (Some r) h = good (native.part_of r.0 r.1 xs) (part_all Q r.0 r.1 xs h)

    ran_fits : (xs : List A) (i j : Value Name) → AllOf Q xs → ReplyFits (native.ran f xs i j)
    unfolding native.ran
    ran_fits xs (Number z) (Number y) h = ran_at_fits xs (native.range_in (length xs) z y) h
    ran_fits xs (Number z) _ h = plain _ refl
    ran_fits xs _ j h = plain _ refl

  text_and_fits : (t : Words) → IsUtf8 t → (x : Value Name) → ValueFits L x → ReplyFits (native.text_and t x)
  unfolding native.text_and native.flag_words
  text_and_fits t h (Text u) i = IsUtf8-append t u h i.0
  text_and_fits t h (Number z) i = IsUtf8-append t _ h (signed_utf8 z)
  text_and_fits t h (Letter c) i = IsUtf8-append t _ h (IsUtf8-encode c i)
  text_and_fits t h (Flag true) i = IsUtf8-append t (codes "true") h (utf8 _ refl)
  text_and_fits t h (Flag false) i = IsUtf8-append t (codes "false") h (utf8 _ refl)
  text_and_fits t h Null i = IsUtf8-append t (codes "null") h (utf8 _ refl)
  text_and_fits t h _ i = plain _ refl

  count_int : (n : ℕ) → n < 2 ^ 64 → IsInt (pos n)
  count_int n l = omega (arith, l)

  few_chars : (t : Words) → TextFits t → length (chars t) < 2 ^ 64
  few_chars t u = let l = chars_le t u.0 in let k = u.1 in omega (arith, l, k)

  text_with_fits : (v : SeqVerb) (t : Words) → TextFits t → (held x : Value Name) → ValueFits L held → ValueFits L x → ReplyFits (native.text_with v t held x)
  unfolding native.text_with
  text_with_fits Gets t u held x h i = got_fits Letter IsScalar (λ c s. s) (chars t) x (chars_scalar t u.0)
  text_with_fits Adds t u held x h i = text_and_fits t u.0 x i
  text_with_fits Steps t u held x h i = (h, map_fits Letter IsScalar (λ c s. s) (chars t) (chars_scalar t u.0), subst (λ n. n < 2 ^ 64) (sym (length_map Letter (chars t))) (few_chars t u))
  text_with_fits other t u held x h i = no_method_fits

  run_text : (t : Words) → TextFits t → (i j : Value Name) → ReplyFits (native.ran {A = ℕ} {N = Name} (λ cs. Writes (native.encoded cs)) (chars t) i j)
  run_text t u i j = ran_fits (λ (cs : List ℕ). Writes (native.encoded cs)) IsScalar (λ cs h. encoded_utf8 cs h) (chars t) i j (chars_scalar t u.0)

  text_fits : (t : Words) → TextFits t → (verb : Words) (held xs : List (Value Name)) → ValuesFit L held → ValuesFit L xs → ReplyFits (native.text_reply t verb held xs)
  unfolding native.text_reply
  text_fits t u verb [] xs h i = entry_has ReplyFits _ _ verb (count_int (length (chars t)) (few_chars t u), tt) no_method_fits
  text_fits t u verb (a ∷ []) [] h i = no_method_fits
  text_fits t u verb (a ∷ []) (x ∷ []) h i = text_with_fits (native.text_verb verb) t u a x h.0 i.0
  text_fits t u verb (a ∷ []) (x ∷ y ∷ []) h i = entry_has ReplyFits _ _ verb (run_text t u x y, tt) no_method_fits
  text_fits t u verb (a ∷ []) (x ∷ y ∷ z ∷ zs) h i = no_method_fits
  text_fits t u verb (a ∷ b ∷ cs) (x ∷ y ∷ []) h i = entry_has ReplyFits _ _ verb (run_text t u x y, tt) no_method_fits
  text_fits t u verb (a ∷ b ∷ cs) other h i = no_method_fits

  pub list_at_fits : (ls : List (List (Value Name))) (k : ℕ) → AllOf (ValuesFit L) ls → ValuesFit L (list_at ls k)
  unfolding list_at
  list_at_fits [] k h = tt
  list_at_fits (vs ∷ ls) zero h = h.0
  list_at_fits (vs ∷ ls) (suc k) h = list_at_fits ls k h.1

  list_short : (ls : List (List (Value Name))) (k : ℕ) → length (list_at ls k) ≤ spread ls
  unfolding list_at
  list_short [] k = omega arith
  list_short (vs ∷ ls) zero = omega arith
  list_short (vs ∷ ls) (suc k) = let l = list_short ls k in omega (arith, l)

  module _ (ls : List (List (Value Name))) (all : AllOf (ValuesFit L) ls) (few : spread ls < 2 ^ 64) where
    list_and_fits : (vs : List (Value Name)) (x : Value Name) → ValuesFit L vs → ReplyFits (native.list_and ls vs x)
    unfolding native.list_and
    list_and_fits vs (Items k) h = all_append (ValueFits L) vs (list_at ls k) h (list_at_fits ls k all)
    list_and_fits vs _ h = plain _ refl

    list_with_fits : (v : SeqVerb) (vs : List (Value Name)) (held x : Value Name) → length vs < 2 ^ 64 → ValuesFit L vs → ValueFits L held → ReplyFits (native.list_with ls v vs held x)
    unfolding native.list_with
    list_with_fits Gets vs held x low h i = got_fits (λ v. v) (ValueFits L) (λ v j. j) vs x h
    list_with_fits Adds vs held x low h i = list_and_fits vs x h
    list_with_fits AddsOne vs held x low h i = all_end (ValueFits L) vs held h i
    list_with_fits Steps vs held x low h i = (i, h, low)
    list_with_fits NoSeqVerb vs held x low h i = no_method_fits

    run_list : (vs : List (Value Name)) (i j : Value Name) → ValuesFit L vs → ReplyFits (native.ran Listed vs i j)
    run_list vs i j h = ran_fits Listed (ValueFits L) (λ xs k. k) vs i j h

    list_fits : (vs : List (Value Name)) → length vs < 2 ^ 64 → (verb : Words) (held xs : List (Value Name)) → ValuesFit L vs → ValuesFit L held → ReplyFits (native.list_reply ls vs verb held xs)
    unfolding native.list_reply
    list_fits vs low verb [] xs h i = entry_has ReplyFits _ _ verb (count_int (length vs) low, tt) no_method_fits
    list_fits vs low verb (a ∷ []) [] h i = no_method_fits
    list_fits vs low verb (a ∷ []) (x ∷ []) h i = list_with_fits (native.list_verb verb) vs a x low h i.0
    list_fits vs low verb (a ∷ []) (x ∷ y ∷ []) h i = entry_has ReplyFits _ _ verb (run_list vs x y h, tt) no_method_fits
    list_fits vs low verb (a ∷ []) (x ∷ y ∷ z ∷ zs) h i = no_method_fits
    list_fits vs low verb (a ∷ b ∷ cs) (x ∷ y ∷ []) h i = entry_has ReplyFits _ _ verb (run_list vs x y h, tt) no_method_fits
    list_fits vs low verb (a ∷ b ∷ cs) other h i = no_method_fits

    pub data_fits : (y : Value Name) → ValueFits L y → (verb : Words) (held xs : List (Value Name)) → ValuesFit L held → ValuesFit L xs → ReplyFits (native.data_reply ls y verb held xs)
    unfolding native.data_reply
    data_fits (Flag b) f verb held xs h i = flag_fits b verb xs
    data_fits (Number a) f verb held xs h i = int_fits a verb xs f i
    data_fits (Letter c) f verb held xs h i = letter_fits c f verb xs
    data_fits (Text t) f verb held xs h i = text_fits t f verb held xs h i
    data_fits (Items k) f verb held xs h i = list_fits (list_at ls k) (let l = list_short ls k in omega (arith, l, few)) verb held xs (list_at_fits ls k all) h
    data_fits _ f verb held xs h i = no_method_fits

  pub compared_fits : (test : Order → Bool) (o : Option Order) → ReplyFits (native.compared test o)
  unfolding native.compared
  compared_fits test None = plain _ refl
  compared_fits test (Some o) = tt

  -- so many integers from there on are of 128 bits
  abbrev Room : ℤ → ℕ → Type 0
  Room (pos m) n = m + n ≤ 2 ^ 127
  Room (negsuc m) n = (m < 2 ^ 127) × (n ≤ suc m + 2 ^ 127)

  next_room : (a : ℤ) (n : ℕ) → Room a (suc n) → IsInt a × Room (a +ℤ pos 1) n
  next_room (pos m) n h = let e : pos m +ℤ pos 1 ≡ pos (suc m) = omega (arith, ints) in (omega (arith, h), subst (λ z. Room z n) (sym e) (omega (arith, h)))
  next_room (negsuc zero) n h = let e : negsuc zero +ℤ pos 1 ≡ pos zero = refl in let k = h.1 in (h.0, subst (λ z. Room z n) (sym e) (omega (arith, k)))
  next_room (negsuc (suc m)) n h = let e : negsuc (suc m) +ℤ pos 1 ≡ negsuc m = omega (arith, ints) in let l = h.0 in let k = h.1 in (h.0, subst (λ z. Room z n) (sym e) (omega (arith, l), omega (arith, k)))

  counted_fits : (a : ℤ) (n : ℕ) → Room a n → ValuesFit L (native.counted a n)
  unfolding native.counted
  counted_fits a zero h = tt
  counted_fits a (suc n) h = let next = next_room a n h in (next.0, counted_fits (a +ℤ pos 1) n next.1)

  range_of_fits : (a : ℤ) (n : ℕ) → Room a n → ReplyFits (native.range_of a n)
  unfolding native.range_of
  range_of_fits a n h = either_has ReplyFits (nat_le n 65535) (Listed (native.counted a n)) _ (counted_fits a n h) (plain _ refl)

  -- no more than the greatest and one more
  abbrev IsEnd : ℤ → Type 0
  IsEnd (pos n) = n ≤ 2 ^ 127
  IsEnd (negsuc n) = n < 2 ^ 127

  no_room : (a : ℤ) → IsInt a → Room a 0
  no_room (pos m) h = omega (arith, h)
  no_room (negsuc m) h = (h, omega arith)

  gap_room : (a b : ℤ) → IsInt a → IsEnd b → int_le a b ≡ true → Room a (nat_abs (b -ℤ a))
  gap_room (pos m) (pos k) f g h = let le : m ≤ k = grind (arith, nat_tests) in let e : pos k -ℤ pos m ≡ pos (k - m) = omega (arith, ints, le) in subst (λ z. Room (pos m) (nat_abs z)) (sym e) (omega (arith, g, le))
  gap_room (negsuc m) (pos k) f g h = let e : pos k -ℤ negsuc m ≡ pos (k + suc m) = omega (arith, ints) in subst (λ z. Room (negsuc m) (nat_abs z)) (sym e) (f, omega (arith, g))
  gap_room (negsuc m) (negsuc k) f g h = let le : k ≤ m = grind (arith, nat_tests) in let e : negsuc k -ℤ negsuc m ≡ pos (m - k) = omega (arith, ints, le) in subst (λ z. Room (negsuc m) (nat_abs z)) (sym e) (f, omega (arith, f))
  gap_room (pos m) (negsuc k) f g h = cc

  gap_fits : (a b : ℤ) → IsInt a → IsEnd b → Room a (native.gap a b)
  unfolding native.gap
  gap_fits a b f g = either_so (Room a) (int_le a b) (nat_abs (b -ℤ a)) 0 (gap_room a b f g) (no_room a f)

  one_more : (b : ℤ) → IsInt b → IsEnd (b +ℤ pos 1)
  one_more (pos m) h = let e : pos m +ℤ pos 1 ≡ pos (suc m) = omega (arith, ints) in subst IsEnd (sym e) (omega (arith, h))
  one_more (negsuc zero) h = let e : negsuc zero +ℤ pos 1 ≡ pos zero = refl in subst IsEnd (sym e) (omega arith)
  one_more (negsuc (suc m)) h = let e : negsuc (suc m) +ℤ pos 1 ≡ negsuc m = omega (arith, ints) in subst IsEnd (sym e) (omega (arith, h))

  int_end : (b : ℤ) → IsInt b → IsEnd b
  int_end (pos m) h = omega (arith, h)
  int_end (negsuc m) h = h

  pub range_fits : (last : Bool) (a b : Value Name) → ValueFits L a → ValueFits L b → ReplyFits (native.range_reply last a b)
  unfolding native.range_reply
  range_fits true (Number z) (Number y) f g = range_of_fits z _ (gap_fits z (y +ℤ pos 1) f (one_more y g))
  range_fits false (Number z) (Number y) f g = range_of_fits z _ (gap_fits z y f (int_end y g))
  range_fits true (Number z) _ f g = plain _ refl
  range_fits false (Number z) _ f g = plain _ refl
  range_fits true _ b f g = plain _ refl
  range_fits false _ b f g = plain _ refl

  -- what `nullOk` answers of a primitive with this number
  abbrev NullFits : ℕ → Primitive → Type 0
  NullFits n p = ReplyFits (native.null_or n p)

  -- of each of these, from that number on
  abbrev NullsFit : ℕ → List Primitive → Type 0
  NullsFit n [] = Unit {0}
  NullsFit n (p ∷ ps) = NullFits n p × NullsFit (suc n) ps

  each_null : NullsFit 0 native.primitives
  unfolding native.primitives native.null_or
  each_null = (plain _ refl, (plain _ refl, (plain _ refl, (plain _ refl, (plain _ refl, (plain _ refl, (plain _ refl, (plain _ refl, (refl, (refl, (refl, (refl, (refl, (refl, (refl, (plain _ refl, (refl, (refl, (plain _ refl, (plain _ refl, tt))))))))))))))))))))

  null_at : (ps : List Primitive) (n i k : ℕ) → k ≡ n + i → NullsFit n ps → NullFits k (elim (slice_get ps i) [ Some p ↦ p | None ↦ NoPrimitive ])
  unfolding native.null_or
  null_at [] n i k e h = plain _ refl
  null_at (p ∷ ps) n zero k e h = let same : n ≡ k = omega (arith, e) in subst (λ j. NullFits j p) same h.0
  null_at (p ∷ ps) n (suc i) k e h = null_at ps (suc n) i k (omega (arith, e)) h.1

  -- a guard that takes null already is refused
  null_again : (n : ℕ) (p : Primitive) → NullFits n (native.with_null p)
  unfolding native.with_null native.null_or
  null_again n (Guarding NullGuard) = plain _ refl
  null_again n (Guarding AnyGuard) = plain _ refl
  null_again n (Guarding VoidGuard) = plain _ refl
  null_again n (Guarding IntGuard) = plain _ refl
  null_again n (Guarding BooleanGuard) = plain _ refl
  null_again n (Guarding CharGuard) = plain _ refl
  null_again n (Guarding TextGuard) = plain _ refl
  null_again n (Guarding ListGuard) = plain _ refl
  null_again n (Guarding NearGuard) = plain _ refl
  null_again n (Guarding FrozenGuard) = plain _ refl
  null_again n (Guarding (OrNull g)) = plain _ refl
  null_again n _ = plain _ refl

  null_or_fits : (n : ℕ) → NullFits n (native.primitive n)
  unfolding native.primitive native.numbered
  null_or_fits n = either_has (NullFits n) (nat_lt n 32) (elim (slice_get native.primitives n) [ Some p ↦ p | None ↦ NoPrimitive ]) (native.with_null (elim (slice_get native.primitives (n - 32)) [ Some p ↦ p | None ↦ NoPrimitive ]))
      (null_at native.primitives 0 n n (omega arith) each_null) (null_again n _)

  pub null_reply_fits : (x : Value Name) → ReplyFits (native.null_or_reply x)
  unfolding native.null_or_reply
  null_reply_fits (Prim n) = null_or_fits n
  null_reply_fits _ = plain _ refl

  abbrev pub IsGuarded : Primitive → Type 0
  IsGuarded (Guarding g) = GuardFits g
  IsGuarded _ = Unit {0}

  -- and where it takes null too
  abbrev IsTwice : Primitive → Type 0
  IsTwice (Guarding g) = GuardFits g × GuardFits (OrNull g)
  IsTwice _ = Unit {0}

  all_twice : AllOf IsTwice native.primitives
  unfolding native.primitives native.guard_name
  all_twice = (tt, (tt, (tt, (tt, (tt, (tt, (tt, (tt, ((plain _ refl, plain _ refl), ((plain _ refl, plain _ refl), ((plain _ refl, plain _ refl), ((plain _ refl, plain _ refl), ((plain _ refl, plain _ refl), ((plain _ refl, plain _ refl), ((plain _ refl, plain _ refl), ((plain _ refl, plain _ refl), ((plain _ refl, plain _ refl), ((plain _ refl, plain _ refl), (tt, (tt, tt))))))))))))))))))))

  numbered_twice : (ps : List Primitive) (n : ℕ) → AllOf IsTwice ps → IsTwice (elim (slice_get ps n) [ Some p ↦ p | None ↦ NoPrimitive ])
  numbered_twice [] n h = tt
  numbered_twice (p ∷ ps) zero h = h.0
  numbered_twice (p ∷ ps) (suc n) h = numbered_twice ps n h.1

  once : (p : Primitive) → IsTwice p → IsGuarded p
  once (Guarding g) h = h.0
  once _ h = tt

  null_too : (p : Primitive) → IsTwice p → IsGuarded (native.with_null p)
  unfolding native.with_null
  null_too (Guarding NullGuard) h = tt
  null_too (Guarding AnyGuard) h = h.1
  null_too (Guarding VoidGuard) h = h.1
  null_too (Guarding IntGuard) h = h.1
  null_too (Guarding BooleanGuard) h = h.1
  null_too (Guarding CharGuard) h = h.1
  null_too (Guarding TextGuard) h = h.1
  null_too (Guarding ListGuard) h = h.1
  null_too (Guarding NearGuard) h = h.1
  null_too (Guarding FrozenGuard) h = h.1
  null_too (Guarding (OrNull g)) h = h.1
  null_too _ h = tt

  pub primitive_guarded : (n : ℕ) → IsGuarded (native.primitive n)
  unfolding native.primitive native.numbered
  primitive_guarded n = either_has IsGuarded (nat_lt n 32) (elim (slice_get native.primitives n) [ Some p ↦ p | None ↦ NoPrimitive ]) (native.with_null (elim (slice_get native.primitives (n - 32)) [ Some p ↦ p | None ↦ NoPrimitive ]))
      (once _ (numbered_twice native.primitives n all_twice)) (null_too _ (numbered_twice native.primitives (n - 32) all_twice))

  pub guard_given : (p : Primitive) → IsGuarded p → WhereSome GuardFits (native.native_guard p)
  unfolding native.native_guard
  guard_given (Guarding g) h = h
  guard_given _ h = tt

  -- ---- what is asked of primitives

  guard_fits : (g : Guard) → GuardFits g → (verb : Words) (args : List (Value Name)) → ValuesFit L args → AskedFits (native.guard_ask g verb args)
  unfolding native.guard_ask
  guard_fits g f verb (x ∷ j ∷ []) h = let both : GuardFits g × ValueFits L x × ValueFits L j = (f, h.0, h.1.0) in entry_has AskedFits _ _ verb (both, tt) tt
  guard_fits NullGuard f verb (x ∷ []) h = entry_has AskedFits _ _ verb (h.0, tt) tt
  guard_fits NullGuard f verb [] h = tt
  guard_fits NullGuard f verb (x ∷ y ∷ z ∷ zs) h = tt
  guard_fits _ f verb other h = tt

  pub asked_fits : (p : Primitive) → IsGuarded p → (verb : Words) (args : List (Value Name)) → ValuesFit L args → AskedFits (native.asked p verb args)
  unfolding native.asked native.list_ask native.equalizer_ask native.comparer_ask native.run_ask native.send_ask native.ref_ask native.stamp_ask
  asked_fits MakeList q verb [] h = entry_has AskedFits _ _ verb (tt, tt) tt
  asked_fits MakeList q verb (a ∷ []) h = entry_has AskedFits _ _ verb (h, tt) tt
  asked_fits MakeList q verb (a ∷ b ∷ []) h = let both : ValueFits L a × ValueFits L b = (h.0, h.1.0) in entry_has AskedFits _ _ verb (h, (both, (both, tt))) tt
  asked_fits MakeList q verb (a ∷ b ∷ c ∷ cs) h = entry_has AskedFits _ _ verb (h, tt) tt
  asked_fits Equalizer q verb (a ∷ b ∷ []) h = entry_has AskedFits _ _ verb (tt, tt) tt
  asked_fits Equalizer q verb (a ∷ b ∷ c ∷ cs) h = tt
  asked_fits Comparer q verb (a ∷ b ∷ []) h = entry_has AskedFits _ _ verb (tt, (tt, (tt, (tt, (tt, tt))))) tt
  asked_fits Comparer q verb (a ∷ b ∷ c ∷ cs) h = tt
  asked_fits Looper q verb (a ∷ []) h = entry_has AskedFits _ _ verb (h.0, tt) tt
  asked_fits Looper q verb (a ∷ b ∷ cs) h = tt
  asked_fits Sender q verb (a ∷ b ∷ c ∷ []) h = let all : ValueFits L a × ValueFits L b × ValueFits L c = (h.0, h.1.0, h.1.1.0) in entry_has AskedFits _ _ verb (all, (all, (all, tt))) tt
  asked_fits References q verb [] h = entry_has AskedFits _ _ verb (tt, tt) tt
  asked_fits References q verb (a ∷ []) h = let x : ValueFits L a = h.0 in entry_has AskedFits _ _ verb (x, (x, (x, (x, (x, (x, (x, tt))))))) tt
  asked_fits References q verb (a ∷ b ∷ []) h = let x : ValueFits L a × ValueFits L b = (h.0, h.1.0) in entry_has AskedFits _ _ verb (x, tt) tt
  asked_fits References q verb (a ∷ b ∷ c ∷ cs) h = tt
  asked_fits Thrower q verb (a ∷ []) h = entry_has AskedFits _ _ verb (h.0, tt) tt
  asked_fits Thrower q verb (a ∷ b ∷ cs) h = tt
  asked_fits StampReader q verb (a ∷ b ∷ []) h = entry_has AskedFits _ _ verb (tt, tt) tt
  asked_fits StampReader q verb (a ∷ b ∷ c ∷ cs) h = tt
  asked_fits (Guarding g) q verb args h = guard_fits g q verb args h
  asked_fits (Judging r) q verb args h = tt
  asked_fits NoPrimitive q verb args h = tt
  asked_fits other q verb [] h = tt
  asked_fits other q verb (a ∷ []) h = tt
  asked_fits Sender q verb other h = tt
