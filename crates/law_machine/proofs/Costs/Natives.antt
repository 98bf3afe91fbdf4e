-- What data and primitives answer: which calls are light, and how many calls an answer makes.
use Rattle.std.proofs.Common.{◌≡◌, ℕ, zero, suc, ◌≤◌, Bool, true, false, List, [], ◌∷◌, Option, Some, None, ℤ, pos, negsuc, Ok, Err, Result, ◌⊎◌, inl, inr, refl, length, map, codes, arith}
use Rattle.std.specs.Prelude.{slice_get, nat_le}
use Rattle.std.specs.Str.{chars}
use Rattle.std.specs.List.{AllByRecursion}
use Rattle.def_machine.specs.Values.{Words, Value, Null, Flag, Number, Letter, Text, Prim, Broken, Items, Ref, Naming}
use Rattle.def_machine.specs.State.{Vat}
use Rattle.def_machine.specs.Free.{entry, same_words}
use Rattle.def_machine.specs.Refs.{follow, follow_at, severed}
use Rattle.def_machine.specs.Native as native
use Rattle.def_machine.specs.Native.{Reply, Says, Writes, Lists, Iterates, Fails, IntVerb, Applies, Negates, AsChar, FlagVerb, Both, Either, Unlike, NoFlagVerb, SeqVerb, Gets, Adds, Steps, Order, Guard, NullGuard, OrNull, Primitive, MakeList, StampReader, Guarding, Judging, NoPrimitive, Asked, MakesList, IsStamped, NoMethod, list_at}

-- ---- light calls

-- The calls that a vat makes by itself: an auditor is asked, a loop's turn begins, and each character of a text or member of a list is gone over.
pub data Light (N : Type 0) : Type 0 where
  Audits : Value N → Light N
  Starts : Light N
  Places : ℤ → ℕ → Light N
  Pairs : Value N → Value N → Light N

abbrev pub verb_of : {N : Type 0} → Light N → Words
verb_of (Audits x) = codes "audit"
verb_of other = codes "run"

abbrev pub args_of : {N : Type 0} → Light N → List (Value N)
args_of (Audits x) = x ∷ []
args_of Starts = []
args_of (Places z c) = Number z ∷ Letter c ∷ []
args_of (Pairs a b) = a ∷ b ∷ []

-- what such a call may cost where it gives: an auditor earns, since only an object's code answers; else at most an empty list is made
abbrev pub level : {N : Type 0} → Light N → ℕ
level (Audits x) = 2
level (Places z c) = 10
level other = 11

-- what is asked of a primitive by such a call calls nothing
abbrev pub IsLightAsk : {N : Type 0} → ℕ → Asked N → Type 0
IsLightAsk n (MakesList []) = 11 ≤ n
IsLightAsk n (MakesList (v ∷ vs)) = Unit {0}
IsLightAsk n (IsStamped a x) = 10 ≤ n
IsLightAsk n NoMethod = Unit {0}
IsLightAsk n _ = ⊥

abbrev pub IsLightReply : {N : Type 0} → ℕ → Reply N → Type 0
IsLightReply n (Lists vs) = 11 ≤ n
IsLightReply n (Iterates o vs) = ⊥
IsLightReply n (Fails p) = Unit {0}
IsLightReply n other = 10 ≤ n

module _ {N : Type 0} where
  guard_light : (g : Guard) (l : Light N) → IsLightAsk (level l) (native.guard_ask g (verb_of l) (args_of l))
  unfolding native.guard_ask entry same_words
  guard_light NullGuard (Audits x) = tt
  guard_light NullGuard Starts = tt
  guard_light other (Audits x) = tt
  guard_light other Starts = tt
  guard_light g other = tt

  pub light_asked : (p : Primitive) (l : Light N) → IsLightAsk (level l) (native.asked p (verb_of l) (args_of l))
  unfolding native.asked native.list_ask native.equalizer_ask native.comparer_ask native.run_ask native.send_ask native.ref_ask native.stamp_ask entry same_words
  light_asked MakeList Starts = omega arith
  light_asked StampReader (Places z c) = omega arith
  light_asked StampReader (Pairs a b) = omega arith
  light_asked (Guarding g) l = guard_light g l
  light_asked (Judging r) l = tt
  light_asked NoPrimitive l = tt
  light_asked other (Audits x) = tt
  light_asked other (Places z c) = tt
  light_asked other (Pairs a b) = tt
  light_asked other Starts = tt

  at_light : {A : Type 0} (n : ℕ) (f : List A → Reply N) → ((xs : List A) → IsLightReply n (f xs)) → (xs : List A) (o : Option (ℕ × ℕ)) → IsLightReply n (native.ran_at f xs o)
  unfolding native.ran_at
  at_light n f h xs None = tt
  at_light n f h xs (Some r) = h _

  ran_light : {A : Type 0} (n : ℕ) (f : List A → Reply N) → ((xs : List A) → IsLightReply n (f xs)) → (xs : List A) (x y : Value N) → IsLightReply n (native.ran f xs x y)
  unfolding native.ran
  ran_light n f h xs (Number i) (Number j) = at_light n f h xs _
  ran_light n f h xs (Number i) _ = tt
  ran_light n f h xs _ y = tt

module _ {N W : Type 0} (K : Naming N W) (s : Vat N) where
  -- what data answers to such a call
  pub light_data : (y : Value N) (l : Light N) → IsLightReply (level l) (native.data_reply s.lists y (verb_of l) (args_of l) (map (follow K s) (args_of l)))
  unfolding native.data_reply native.int_reply native.int_with native.int_binary native.int_alone native.int_unary native.flag_reply native.flag_with native.flag_binary native.letter_reply native.text_reply native.text_with native.text_verb native.list_reply native.list_with native.list_verb native.ran native.no_method follow follow_at severed entry same_words
  light_data (Text t) (Pairs a b) = ran_light 11 (λ cs. Writes (native.encoded cs)) (λ xs. omega arith) (chars t) (follow K s a) (follow K s b)
  light_data (Items k) (Pairs a b) = ran_light 11 Lists (λ xs. omega arith) (list_at s.lists k) (follow K s a) (follow K s b)
  light_data Null l = tt
  light_data (Prim n) l = tt
  light_data (Broken p) l = tt
  light_data (Ref n) l = tt
  light_data other (Audits x) = tt
  light_data other Starts = tt
  light_data other (Places i c) = tt
  light_data other (Pairs a b) = tt

-- ---- replies

-- it goes over no more than so many members, or over characters
abbrev pub IsShortReply : {N : Type 0} → ℕ → Reply N → Type 0
IsShortReply n (Iterates o vs) = (length vs ≤ n) ⊎ ((cs : List ℕ) × (vs ≡ map Letter cs))
IsShortReply n other = Unit {0}

either_short : {A : Type 0} (Q : A → Type 0) (b : Bool) (x y : A) → Q x → Q y → Q (elim b [ true ↦ x | false ↦ y ])
either_short Q true x y h k = h
either_short Q false x y h k = k

at_short : {N : Type 0} (n k : ℕ) (ls : List (List (Value N))) → AllByRecursion (λ (vs : List (Value N)). length vs ≤ n) ls → length (list_at ls k) ≤ n
unfolding list_at
at_short n k [] h = omega arith
at_short n zero (l ∷ ls) h = h.0
at_short n (suc k) (l ∷ ls) h = at_short n k ls h.1

module _ (N : Type 0) (n : ℕ) where
  by_int_short : (r : Result ℤ Words) → IsShortReply {N = N} n (native.by_int r)
  unfolding native.by_int
  by_int_short (Ok z) = tt
  by_int_short (Err p) = tt

  char_short : (z : ℤ) → IsShortReply {N = N} n (native.as_char z)
  unfolding native.as_char
  char_short (pos c) = either_short (IsShortReply n) (native.is_code c) _ _ tt tt
  char_short (negsuc c) = tt

  alone_short : (v : IntVerb) (z : ℤ) → IsShortReply {N = N} n (native.int_alone v z)
  unfolding native.int_alone native.no_method
  alone_short Negates z = by_int_short _
  alone_short AsChar z = char_short z
  alone_short other z = tt

  with_short : (v : IntVerb) (a : ℤ) (x : Value N) → IsShortReply n (native.int_with v a x)
  unfolding native.int_with native.no_method
  with_short (Applies op) a (Number b) = by_int_short _
  with_short (Applies op) a _ = tt
  with_short other a x = tt

  int_short : (a : ℤ) (verb : Words) (args : List (Value N)) → IsShortReply n (native.int_reply a verb args)
  unfolding native.int_reply native.no_method
  int_short a verb [] = alone_short (native.int_unary verb) a
  int_short a verb (x ∷ []) = with_short (native.int_binary verb) a x
  int_short a verb (x ∷ y ∷ ys) = tt

  flagged_short : (v : FlagVerb) (a : Bool) (x : Value N) → IsShortReply n (native.flag_with v a x)
  unfolding native.flag_with native.no_method
  flagged_short NoFlagVerb a x = tt
  flagged_short Both a (Flag b) = tt
  flagged_short Either a (Flag b) = tt
  flagged_short Unlike a (Flag b) = tt
  flagged_short other a _ = tt

  flag_short : (a : Bool) (verb : Words) (args : List (Value N)) → IsShortReply n (native.flag_reply a verb args)
  unfolding native.flag_reply native.no_method entry
  flag_short a verb [] = either_short (IsShortReply n) (same_words (codes "not") verb) _ _ tt tt
  flag_short a verb (x ∷ []) = flagged_short (native.flag_binary verb) a x
  flag_short a verb (x ∷ y ∷ ys) = tt

  letter_short : (c : ℕ) (verb : Words) (args : List (Value N)) → IsShortReply n (native.letter_reply c verb args)
  unfolding native.letter_reply native.no_method entry
  letter_short c verb [] = either_short (IsShortReply n) (same_words (codes "asInteger") verb) _ _ tt tt
  letter_short c verb (x ∷ xs) = tt

  found_short : {A : Type 0} (f : A → Value N) (o : Option A) → IsShortReply n (elim o [ Some x ↦ Says (f x) | None ↦ Fails (codes "out of range") ])
  found_short f (Some x) = tt
  found_short f None = tt

  got_at_short : {A : Type 0} (f : A → Value N) (xs : List A) (o : Option ℕ) → IsShortReply n (native.got_at f xs o)
  unfolding native.got_at
  got_at_short f xs None = tt
  got_at_short f xs (Some i) = found_short f (slice_get xs i)

  got_short : {A : Type 0} (f : A → Value N) (xs : List A) (x : Value N) → IsShortReply n (native.got f xs x)
  unfolding native.got
  got_short f xs (Number i) = got_at_short f xs _
  got_short f xs _ = tt

  ran_at_short : {A : Type 0} (f : List A → Reply N) → ((xs : List A) → IsShortReply n (f xs)) → (xs : List A) (o : Option (ℕ × ℕ)) → IsShortReply n (native.ran_at f xs o)
  unfolding native.ran_at
  ran_at_short f h xs None = tt
  ran_at_short f h xs (Some r) = h _

  ran_short : {A : Type 0} (f : List A → Reply N) → ((xs : List A) → IsShortReply n (f xs)) → (xs : List A) (x y : Value N) → IsShortReply n (native.ran f xs x y)
  unfolding native.ran
  ran_short f h xs (Number i) (Number j) = ran_at_short f h xs _
  ran_short f h xs (Number i) _ = tt
  ran_short f h xs _ y = tt

  and_short : (t : Words) (x : Value N) → IsShortReply n (native.text_and t x)
  unfolding native.text_and
  and_short t (Text u) = tt
  and_short t (Number z) = tt
  and_short t (Letter c) = tt
  and_short t (Flag b) = tt
  and_short t Null = tt
  and_short t _ = tt

  text_with_short : (v : SeqVerb) (t : Words) (held x : Value N) → IsShortReply n (native.text_with v t held x)
  unfolding native.text_with native.no_method
  text_with_short Gets t held x = got_short Letter (chars t) x
  text_with_short Adds t held x = and_short t x
  text_with_short Steps t held x = inr (chars t, refl)
  text_with_short other t held x = tt

  text_short : (t verb : Words) (held args : List (Value N)) → IsShortReply n (native.text_reply t verb held args)
  unfolding native.text_reply native.no_method entry
  text_short t verb [] xs = either_short (IsShortReply n) (same_words (codes "size") verb) _ _ tt tt
  text_short t verb (h ∷ []) (x ∷ []) = text_with_short (native.text_verb verb) t h x
  text_short t verb (h ∷ []) [] = tt
  text_short t verb (h ∷ []) (i ∷ j ∷ []) = either_short (IsShortReply n) (same_words (codes "run") verb) _ _ (ran_short _ (λ xs. tt) (chars t) i j) tt
  text_short t verb (h ∷ []) (i ∷ j ∷ k ∷ ks) = tt
  text_short t verb (h ∷ g ∷ gs) (i ∷ j ∷ []) = either_short (IsShortReply n) (same_words (codes "run") verb) _ _ (ran_short _ (λ xs. tt) (chars t) i j) tt
  text_short t verb (h ∷ g ∷ gs) other = tt

  list_and_short : (ls : List (List (Value N))) (vs : List (Value N)) (x : Value N) → IsShortReply n (native.list_and ls vs x)
  unfolding native.list_and
  list_and_short ls vs (Items k) = tt
  list_and_short ls vs _ = tt

  list_with_short : (ls : List (List (Value N))) (v : SeqVerb) (vs : List (Value N)) (held x : Value N) → length vs ≤ n → IsShortReply n (native.list_with ls v vs held x)
  unfolding native.list_with native.no_method
  list_with_short ls Gets vs held x l = got_short (λ v. v) vs x
  list_with_short ls Adds vs held x l = list_and_short ls vs x
  list_with_short ls Steps vs held x l = inl l
  list_with_short ls other vs held x l = tt

  list_short : (ls : List (List (Value N))) (vs : List (Value N)) (verb : Words) (held args : List (Value N)) → length vs ≤ n → IsShortReply n (native.list_reply ls vs verb held args)
  unfolding native.list_reply native.no_method entry
  list_short ls vs verb [] xs l = either_short (IsShortReply n) (same_words (codes "size") verb) _ _ tt tt
  list_short ls vs verb (h ∷ []) (x ∷ []) l = list_with_short ls (native.list_verb verb) vs h x l
  list_short ls vs verb (h ∷ []) [] l = tt
  list_short ls vs verb (h ∷ []) (i ∷ j ∷ []) l = either_short (IsShortReply n) (same_words (codes "run") verb) _ _ (ran_short _ (λ xs. tt) vs i j) tt
  list_short ls vs verb (h ∷ []) (i ∷ j ∷ k ∷ ks) l = tt
  list_short ls vs verb (h ∷ g ∷ gs) (i ∷ j ∷ []) l = either_short (IsShortReply n) (same_words (codes "run") verb) _ _ (ran_short _ (λ xs. tt) vs i j) tt
  list_short ls vs verb (h ∷ g ∷ gs) other l = tt

  pub data_short : (ls : List (List (Value N))) → AllByRecursion (λ (vs : List (Value N)). length vs ≤ n) ls → (y : Value N) (verb : Words) (held args : List (Value N)) → IsShortReply n (native.data_reply ls y verb held args)
  unfolding native.data_reply native.no_method
  data_short ls h (Number a) verb held args = int_short a verb args
  data_short ls h (Flag b) verb held args = flag_short b verb args
  data_short ls h (Letter c) verb held args = letter_short c verb args
  data_short ls h (Text t) verb held args = text_short t verb held args
  data_short ls h (Items k) verb held args = list_short ls (list_at ls k) verb held args (at_short n k ls h)
  data_short ls h other verb held args = tt

  pub range_short : (last : Bool) (a b : Value N) → IsShortReply n (native.range_reply last a b)
  unfolding native.range_reply native.range_of
  range_short true (Number a) (Number b) = either_short (IsShortReply n) (nat_le (native.gap a _) 65535) _ _ tt tt
  range_short false (Number a) (Number b) = either_short (IsShortReply n) (nat_le (native.gap a b) 65535) _ _ tt tt
  range_short true (Number a) _ = tt
  range_short false (Number a) _ = tt
  range_short true _ b = tt
  range_short false _ b = tt

  pub compared_short : (test : Order → Bool) (o : Option Order) → IsShortReply {N = N} n (native.compared test o)
  unfolding native.compared
  compared_short test None = tt
  compared_short test (Some o) = tt

  null_short : (m : ℕ) (p : Primitive) → IsShortReply {N = N} n (native.null_or m p)
  unfolding native.null_or
  null_short m (Guarding NullGuard) = tt
  null_short m (Guarding (OrNull g)) = tt
  null_short m (Guarding _) = tt
  null_short m _ = tt

  pub null_reply_short : (x : Value N) → IsShortReply n (native.null_or_reply x)
  unfolding native.null_or_reply
  null_reply_short (Prim m) = null_short m (native.primitive m)
  null_reply_short _ = tt
