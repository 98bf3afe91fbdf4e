-- What data answers, and what primitives answer and are asked, has what is had by all plain data and by what they are given.
use Rattle.std.proofs.Common.{ℕ, zero, suc, ◌+◌, ℤ, pos, negsuc, Bool, true, false, not, List, [], ◌∷◌, ◌++◌, Option, Some, None, Ok, Err, Result, length, map, codes, ◌+ℤ◌}
use Rattle.std.specs.Prelude.{slice_get, nat_le}
use Rattle.std.specs.Str.{chars}
use Rattle.def_machine.specs.Values.{Words, Value, Null, Flag, Number, Letter, Text, Prim, Items}
use Rattle.def_machine.specs.Free.{entry, same_words}
use Rattle.def_machine.specs.Native as native
use Rattle.def_machine.specs.Native.{list_at, Reply, Says, Writes, Lists as Listed, Fails, IntVerb, Applies, Negates, AsChar, FlagVerb, Both, Either, Unlike, NoFlagVerb, SeqVerb, Gets as GetsOne, Adds, AddsOne, Steps, NoSeqVerb, Order, Guard, AnyGuard, VoidGuard, IntGuard, BooleanGuard, CharGuard, TextGuard, ListGuard, NullGuard, NearGuard, FrozenGuard, OrNull, Primitive, MakeList, Equalizer, Comparer, Looper, Sender, References, Thrower, StampReader, Guarding, Judging, NoPrimitive}
use Rattle.law_machine.specs.Natives.Natives.{AllOf, IsPlain, ReplyHas, AskedHas}

abbrev MayBe : {A : Type 0} → (A → Type 0) → Option A → Type 0
MayBe P (Some x) = P x
MayBe P None = Unit {0}

get_all : {A : Type 0} (P : A → Type 0) (xs : List A) (k : ℕ) → AllOf P xs → MayBe P (slice_get xs k)
get_all P [] k h = tt
get_all P (x ∷ xs) zero h = h.0
get_all P (x ∷ xs) (suc k) h = get_all P xs k h.1

all_append : {A : Type 0} (P : A → Type 0) (xs ys : List A) → AllOf P xs → AllOf P ys → AllOf P (xs ++ ys)
all_append P [] ys h k = k
all_append P (x ∷ xs) ys h k = (h.0, all_append P xs ys h.1 k)

all_end : {A : Type 0} (P : A → Type 0) (xs : List A) (x : A) → AllOf P xs → P x → AllOf P (xs ++ x ∷ [])
all_end P [] x h p = (p, tt)
all_end P (y ∷ xs) x h p = (h.0, all_end P xs x h.1 p)

pub either_has : {A : Type 0} (P : A → Type 0) (b : Bool) (x y : A) → P x → P y → P (elim b [ true ↦ x | false ↦ y ])
either_has P true x y h i = h
either_has P false x y h i = i

pub entry_has : {A : Type 0} (P : A → Type 0) (es : List (Words × A)) (a : A) (x : Words) → AllOf (λ (e : Words × A). P e.1) es → P a → P (entry es a x)
unfolding entry
entry_has P [] a x h i = i
entry_has P (e ∷ es) a x h i = either_has P (same_words e.0 x) e.1 (entry es a x) h.0 (entry_has P es a x h.1 i)

all_unit : {A : Type 0} (xs : List A) → AllOf (λ (x : A). Unit {0}) xs
all_unit [] = tt
all_unit (x ∷ xs) = (tt, all_unit xs)

part_all : {A : Type 0} (P : A → Type 0) (i n : ℕ) (xs : List A) → AllOf P xs → AllOf P (native.part_of i n xs)
unfolding native.part_of
part_all P i n [] h = tt
part_all P (suc i) n (x ∷ xs) h = part_all P i n xs h.1
part_all P zero zero (x ∷ xs) h = tt
part_all P zero (suc n) (x ∷ xs) h = (h.0, part_all P zero n xs h.1)

module _ {N : Type 0} (P : Value N → Type 0) (pl : (v : Value N) → IsPlain v → P v) where
  by_int_has : (r : Result ℤ Words) → ReplyHas P (native.by_int {N = N} r)
  unfolding native.by_int
  by_int_has (Ok z) = pl (Number z) tt
  by_int_has (Err p) = tt

  as_char_has : (z : ℤ) → ReplyHas P (native.as_char {N = N} z)
  unfolding native.as_char
  as_char_has (pos n) = either_has (ReplyHas P) (native.is_code n) _ _ (pl (Letter n) tt) tt
  as_char_has (negsuc n) = tt

  alone_has : (v : IntVerb) (z : ℤ) → ReplyHas P (native.int_alone {N = N} v z)
  unfolding native.int_alone native.no_method
  alone_has Negates z = by_int_has _
  alone_has AsChar z = as_char_has z
  alone_has other z = tt

  with_int_has : (v : IntVerb) (a : ℤ) (x : Value N) → ReplyHas P (native.int_with v a x)
  unfolding native.int_with native.no_method
  with_int_has (Applies op) a (Number b) = by_int_has _
  with_int_has (Applies op) a other = tt
  with_int_has other a x = tt

  int_has : (a : ℤ) (verb : Words) (xs : List (Value N)) → ReplyHas P (native.int_reply a verb xs)
  unfolding native.int_reply native.no_method
  int_has a verb [] = alone_has (native.int_unary verb) a
  int_has a verb (x ∷ []) = with_int_has (native.int_binary verb) a x
  int_has a verb (x ∷ y ∷ ys) = tt

  joined_has : (v : FlagVerb) (a : Bool) (x : Value N) → ReplyHas P (native.flag_with v a x)
  unfolding native.flag_with native.no_method
  joined_has NoFlagVerb a x = tt
  joined_has Both a (Flag b) = pl (Flag (native.flag_joined Both a b)) tt
  joined_has Either a (Flag b) = pl (Flag (native.flag_joined Either a b)) tt
  joined_has Unlike a (Flag b) = pl (Flag (native.flag_joined Unlike a b)) tt
  joined_has another a other = tt

  flag_has : (a : Bool) (verb : Words) (xs : List (Value N)) → ReplyHas P (native.flag_reply a verb xs)
  unfolding native.flag_reply native.no_method
  flag_has a verb [] = entry_has (ReplyHas P) _ _ verb (pl (Flag (not a)) tt, tt) tt
  flag_has a verb (x ∷ []) = joined_has (native.flag_binary verb) a x
  flag_has a verb (x ∷ y ∷ ys) = tt

  letter_has : (c : ℕ) (verb : Words) (xs : List (Value N)) → ReplyHas P (native.letter_reply c verb xs)
  unfolding native.letter_reply native.no_method
  letter_has c verb [] = entry_has (ReplyHas P) _ _ verb (pl (Number (pos c)) tt, tt) tt
  letter_has c verb (x ∷ xs) = tt

  module _ {A : Type 0} (f : A → Value N) (R : A → Type 0) (good : (x : A) → R x → P (f x)) where
    found_has : (o : Option A) → MayBe R o → ReplyHas P (elim o [ Some x ↦ Says (f x) | None ↦ Fails (codes "out of range") ])
    found_has (Some x) h = good x h
    found_has None h = tt

    got_at_has : (xs : List A) (o : Option ℕ) → AllOf R xs → ReplyHas P (native.got_at f xs o)
    unfolding native.got_at
    got_at_has xs None h = tt
    got_at_has xs (Some i) h = found_has (slice_get xs i) (get_all R xs i h)

    got_has : (xs : List A) (v : Value N) → AllOf R xs → ReplyHas P (native.got f xs v)
    unfolding native.got
    got_has xs (Number z) h = got_at_has xs (native.index_in (length xs) z) h
    got_has xs other h = tt

    map_has : (xs : List A) → AllOf R xs → AllOf P (map f xs)
    map_has [] h = tt
    map_has (x ∷ xs) h = (good x h.0, map_has xs h.1)

  module _ {A : Type 0} (f : List A → Reply N) (R : A → Type 0) (good : (xs : List A) → AllOf R xs → ReplyHas P (f xs)) where
    ran_at_has : (xs : List A) (o : Option (ℕ × ℕ)) → AllOf R xs → ReplyHas P (native.ran_at f xs o)
    unfolding native.ran_at
    ran_at_has xs None h = tt
    ran_at_has xs (Some r) h = good (native.part_of r.0 r.1 xs) (part_all R r.0 r.1 xs h)

    ran_from : (xs : List A) (z : ℤ) (j : Value N) → AllOf R xs → ReplyHas P (native.ran f xs (Number z) j)
    unfolding native.ran
    ran_from xs z (Number y) h = ran_at_has xs (native.range_in (length xs) z y) h
    ran_from xs z other h = tt

    ran_has : (xs : List A) (i j : Value N) → AllOf R xs → ReplyHas P (native.ran f xs i j)
    unfolding native.ran
    ran_has xs (Number z) j h = ran_from xs z j h
    ran_has xs other j h = tt

  text_and_has : (t : Words) (x : Value N) → ReplyHas P (native.text_and t x)
  unfolding native.text_and
  text_and_has t Null = tt
  text_and_has t other = tt

  text_with_has : (v : SeqVerb) (t : Words) (held x : Value N) → P held → ReplyHas P (native.text_with v t held x)
  unfolding native.text_with native.no_method
  text_with_has GetsOne t held x h = got_has Letter (λ (c : ℕ). Unit {0}) (λ c u. pl (Letter c) tt) (chars t) x (all_unit (chars t))
  text_with_has Adds t held x h = text_and_has t x
  text_with_has Steps t held x h = (h, map_has Letter (λ (c : ℕ). Unit {0}) (λ c u. pl (Letter c) tt) (chars t) (all_unit (chars t)))
  text_with_has other t held x h = tt

  run_text : (t : Words) (i j : Value N) → ReplyHas P (native.ran {A = ℕ} {N = N} (λ cs. Writes (native.encoded cs)) (chars t) i j)
  run_text t i j = ran_has (λ (cs : List ℕ). Writes (native.encoded cs)) (λ (c : ℕ). Unit {0}) (λ cs h. tt) (chars t) i j (all_unit (chars t))

  text_has : (t verb : Words) (held xs : List (Value N)) → AllOf P held → ReplyHas P (native.text_reply t verb held xs)
  unfolding native.text_reply native.no_method
  text_has t verb [] xs h = entry_has (ReplyHas P) _ _ verb (pl (Number (pos (length (chars t)))) tt, tt) tt
  text_has t verb (a ∷ []) [] h = tt
  text_has t verb (a ∷ []) (x ∷ []) h = text_with_has (native.text_verb verb) t a x h.0
  text_has t verb (a ∷ []) (x ∷ y ∷ []) h = entry_has (ReplyHas P) _ _ verb (run_text t x y, tt) tt
  text_has t verb (a ∷ []) (x ∷ y ∷ z ∷ zs) h = tt
  text_has t verb (a ∷ b ∷ cs) (x ∷ y ∷ []) h = entry_has (ReplyHas P) _ _ verb (run_text t x y, tt) tt
  text_has t verb (a ∷ b ∷ cs) other h = tt

  module _ (ms : List (List (Value N))) (all : (k : ℕ) → P (Items k) → AllOf P (list_at ms k)) where
    list_and_has : (vs : List (Value N)) (x : Value N) → AllOf P vs → P x → ReplyHas P (native.list_and ms vs x)
    unfolding native.list_and
    list_and_has vs (Items k) h i = all_append P vs (list_at ms k) h (all k i)
    list_and_has vs other h i = tt

    list_with_has : (v : SeqVerb) (vs : List (Value N)) (held x : Value N) → AllOf P vs → P held → P x → ReplyHas P (native.list_with ms v vs held x)
    unfolding native.list_with native.no_method
    list_with_has GetsOne vs held x h i g = got_has (λ v. v) P (λ v j. j) vs x h
    list_with_has Adds vs held x h i g = list_and_has vs x h g
    list_with_has AddsOne vs held x h i g = all_end P vs held h i
    list_with_has Steps vs held x h i g = (i, h)
    list_with_has NoSeqVerb vs held x h i g = tt

    run_list : (vs : List (Value N)) (i j : Value N) → AllOf P vs → ReplyHas P (native.ran Listed vs i j)
    run_list vs i j h = ran_has Listed P (λ xs k. k) vs i j h

    list_has : (vs : List (Value N)) (verb : Words) (held xs : List (Value N)) → AllOf P vs → AllOf P held → AllOf P xs → ReplyHas P (native.list_reply ms vs verb held xs)
    unfolding native.list_reply native.no_method
    list_has vs verb [] xs h i g = entry_has (ReplyHas P) _ _ verb (pl (Number (pos (length vs))) tt, tt) tt
    list_has vs verb (a ∷ []) [] h i g = tt
    list_has vs verb (a ∷ []) (x ∷ []) h i g = list_with_has (native.list_verb verb) vs a x h i.0 g.0
    list_has vs verb (a ∷ []) (x ∷ y ∷ []) h i g = entry_has (ReplyHas P) _ _ verb (run_list vs x y h, tt) tt
    list_has vs verb (a ∷ []) (x ∷ y ∷ z ∷ zs) h i g = tt
    list_has vs verb (a ∷ b ∷ cs) (x ∷ y ∷ []) h i g = entry_has (ReplyHas P) _ _ verb (run_list vs x y h, tt) tt
    list_has vs verb (a ∷ b ∷ cs) other h i g = tt

    pub data_has : (y : Value N) (verb : Words) (held xs : List (Value N)) → P y → AllOf P held → AllOf P xs → ReplyHas P (native.data_reply ms y verb held xs)
    unfolding native.data_reply native.no_method
    data_has (Flag b) verb held xs i h g = flag_has b verb xs
    data_has (Number a) verb held xs i h g = int_has a verb xs
    data_has (Letter c) verb held xs i h g = letter_has c verb xs
    data_has (Text t) verb held xs i h g = text_has t verb held xs h
    data_has (Items k) verb held xs i h g = list_has (list_at ms k) verb held xs (all k i) h g
    data_has other verb held xs i h g = tt

  pub compared_has : (test : Order → Bool) (o : Option Order) → ReplyHas P (native.compared {N = N} test o)
  unfolding native.compared
  compared_has test None = tt
  compared_has test (Some o) = pl (Flag (test o)) tt

  counted_has : (a : ℤ) (n : ℕ) → AllOf P (native.counted {N = N} a n)
  unfolding native.counted
  counted_has a zero = tt
  counted_has a (suc n) = (pl (Number a) tt, counted_has (a +ℤ pos 1) n)

  range_of_has : (a : ℤ) (n : ℕ) → ReplyHas P (native.range_of {N = N} a n)
  unfolding native.range_of
  range_of_has a n = either_has (ReplyHas P) (nat_le n 65535) (Listed (native.counted a n)) _ (counted_has a n) tt

  range_from : (last : Bool) (z : ℤ) (b : Value N) → ReplyHas P (native.range_reply last (Number z) b)
  unfolding native.range_reply
  range_from true z (Number y) = range_of_has z _
  range_from false z (Number y) = range_of_has z _
  range_from true z other = tt
  range_from false z other = tt

  pub range_has : (last : Bool) (a b : Value N) → ReplyHas P (native.range_reply last a b)
  unfolding native.range_reply
  range_has last (Number z) b = range_from last z b
  range_has true other b = tt
  range_has false other b = tt

  null_or_has : (n : ℕ) (p : Primitive) → ReplyHas P (native.null_or {N = N} n p)
  unfolding native.null_or
  null_or_has n (Guarding AnyGuard) = pl (Prim (32 + n)) tt
  null_or_has n (Guarding VoidGuard) = pl (Prim (32 + n)) tt
  null_or_has n (Guarding IntGuard) = pl (Prim (32 + n)) tt
  null_or_has n (Guarding BooleanGuard) = pl (Prim (32 + n)) tt
  null_or_has n (Guarding CharGuard) = pl (Prim (32 + n)) tt
  null_or_has n (Guarding TextGuard) = pl (Prim (32 + n)) tt
  null_or_has n (Guarding ListGuard) = pl (Prim (32 + n)) tt
  null_or_has n (Guarding NearGuard) = pl (Prim (32 + n)) tt
  null_or_has n (Guarding FrozenGuard) = pl (Prim (32 + n)) tt
  null_or_has n other = tt

  pub null_reply_has : (x : Value N) → ReplyHas P (native.null_or_reply x)
  unfolding native.null_or_reply
  null_reply_has (Prim n) = null_or_has n (native.primitive n)
  null_reply_has other = tt

  -- ---- what is asked of primitives

  coerces : (g : Guard) (verb : Words) (x j : Value N) → P x → P j → AskedHas P (native.guard_ask g verb (x ∷ j ∷ []))
  unfolding native.guard_ask
  coerces g verb x j i k = let both : P x × P j = (i, k) in entry_has (AskedHas P) _ _ verb (both, tt) tt

  guard_has : (g : Guard) (verb : Words) (args : List (Value N)) → AllOf P args → AskedHas P (native.guard_ask g verb args)
  unfolding native.guard_ask
  guard_has g verb (x ∷ j ∷ []) h = coerces g verb x j h.0 h.1.0
  guard_has NullGuard verb (x ∷ []) h = entry_has (AskedHas P) _ _ verb (h.0, tt) tt
  guard_has NullGuard verb [] h = tt
  guard_has NullGuard verb (x ∷ y ∷ z ∷ zs) h = tt
  guard_has other verb [] h = tt
  guard_has AnyGuard verb other h = tt
  guard_has VoidGuard verb other h = tt
  guard_has IntGuard verb other h = tt
  guard_has BooleanGuard verb other h = tt
  guard_has CharGuard verb other h = tt
  guard_has TextGuard verb other h = tt
  guard_has ListGuard verb other h = tt
  guard_has NearGuard verb other h = tt
  guard_has FrozenGuard verb other h = tt
  guard_has (OrNull k) verb other h = tt

  pub asked_has : (p : Primitive) (verb : Words) (args : List (Value N)) → AllOf P args → AskedHas P (native.asked p verb args)
  unfolding native.asked native.list_ask native.equalizer_ask native.comparer_ask native.run_ask native.send_ask native.ref_ask native.stamp_ask
  asked_has MakeList verb [] h = entry_has (AskedHas P) _ _ verb (tt, tt) tt
  asked_has MakeList verb (a ∷ []) h = entry_has (AskedHas P) _ _ verb (h, tt) tt
  asked_has MakeList verb (a ∷ b ∷ []) h = entry_has (AskedHas P) _ _ verb (h, (tt, (tt, tt))) tt
  asked_has MakeList verb (a ∷ b ∷ c ∷ cs) h = entry_has (AskedHas P) _ _ verb (h, tt) tt
  asked_has Equalizer verb (a ∷ b ∷ []) h = entry_has (AskedHas P) _ _ verb (tt, tt) tt
  asked_has Equalizer verb (a ∷ b ∷ c ∷ cs) h = tt
  asked_has Comparer verb (a ∷ b ∷ []) h = entry_has (AskedHas P) _ _ verb (tt, (tt, (tt, (tt, (tt, tt))))) tt
  asked_has Comparer verb (a ∷ b ∷ c ∷ cs) h = tt
  asked_has Looper verb (a ∷ []) h = entry_has (AskedHas P) _ _ verb (h.0, tt) tt
  asked_has Looper verb (a ∷ b ∷ cs) h = tt
  asked_has Sender verb (a ∷ b ∷ c ∷ []) h = let all : P a × P b × P c = (h.0, h.1.0, h.1.1.0) in entry_has (AskedHas P) _ _ verb (all, (all, (all, tt))) tt
  asked_has References verb [] h = entry_has (AskedHas P) _ _ verb (tt, tt) tt
  asked_has References verb (a ∷ []) h = let x : P a = h.0 in entry_has (AskedHas P) _ _ verb (x, (x, (x, (x, (x, (x, (x, tt))))))) tt
  asked_has References verb (a ∷ b ∷ []) h = let x : P a × P b = (h.0, h.1.0) in entry_has (AskedHas P) _ _ verb (x, tt) tt
  asked_has References verb (a ∷ b ∷ c ∷ cs) h = tt
  asked_has Thrower verb (a ∷ []) h = entry_has (AskedHas P) _ _ verb (tt, tt) tt
  asked_has Thrower verb (a ∷ b ∷ cs) h = tt
  asked_has StampReader verb (a ∷ b ∷ []) h = entry_has (AskedHas P) _ _ verb (tt, tt) tt
  asked_has StampReader verb (a ∷ b ∷ c ∷ cs) h = tt
  asked_has (Guarding g) verb args h = guard_has g verb args h
  asked_has (Judging r) verb args h = tt
  asked_has NoPrimitive verb args h = tt
  asked_has other verb [] h = tt
  asked_has other verb (a ∷ []) h = tt
  asked_has Sender verb other h = tt
