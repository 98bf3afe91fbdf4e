-- What data and primitives answer does not depend on how things are named.
use Rattle.std.proofs.Common.{◌≡◌, ℕ, zero, suc, ℤ, pos, Bool, true, false, List, [], ◌∷◌, ◌++◌, Option, Some, None, refl, ap, map, ◌+ℤ◌}
use Rattle.std.specs.Prelude.{slice_get, option_map, codes, Result, Ok, Err, nat_le, negsuc}
use Rattle.def_machine.specs.Values.{Words, Value, Null, Flag, Number, Letter, Text, Prim, Items}
use Rattle.def_machine.specs.Free.{entry, same_words}
use Rattle.def_machine.specs.Native as native
use Rattle.def_machine.specs.Native.{Reply, Says, Writes, Lists, Iterates, Fails, IntVerb, Applies, Negates, AsChar, FlagVerb, Both, Either, Unlike, NoFlagVerb, SeqVerb, Gets, Adds, AddsOne, Steps, Order, Guard, NullGuard, OrNull, AnyGuard, Primitive, Guarding, MakeList, Equalizer, Comparer, Looper, Sender, References, Thrower, StampReader, Asked, Loops, ThrowsIt, list_at}
use Rattle.def_machine.specs.Maps as maps
use Rattle.law_machine.specs.Renamed.EvalMaps as evals
use Rattle.law_machine.proofs.Renamed.Sim.{map_get, length_map}
use Rattle.law_machine.proofs.Renamed.SimRefs.{list_at_map}

-- an entry of a table whose entries are changed
pub entry_map : {A B : Type 0} (g : A → B) (es : List (Words × A)) (d : A) (x : Words) → entry (map (λ e. (e.0, g e.1)) es) (g d) x ≡ g (entry es d x)
unfolding entry
entry_map g [] d x = refl
entry_map {A} {B} g (e ∷ es) d x = elim (same_words e.0 x) as (λ b. ◌≡◌ {A = B} (elim b [ true ↦ g e.1 | false ↦ entry (map (λ e. (e.0, g e.1)) es) (g d) x ]) (g (elim b [ true ↦ e.1 | false ↦ entry es d x ]))) [ true ↦ refl | false ↦ entry_map g es d x ]

map_map_get : {A B : Type 0} (g : A → B) (xs : List A) (i : ℕ) → slice_get (map g xs) i ≡ option_map g (slice_get xs i)
map_map_get g xs i = map_get g xs i

pub map_append : {A B : Type 0} (g : A → B) (xs ys : List A) → map g (xs ++ ys) ≡ map g xs ++ map g ys
map_append g [] ys = refl
map_append g (x ∷ xs) ys = ap (λ zs. g x ∷ zs) (map_append g xs ys)

part_map : {A B : Type 0} (g : A → B) (i n : ℕ) (xs : List A) → native.part_of i n (map g xs) ≡ map g (native.part_of i n xs)
unfolding native.part_of
part_map g i n [] = refl
part_map g (suc i) n (x ∷ xs) = part_map g i n xs
part_map g zero zero (x ∷ xs) = refl
part_map g zero (suc n) (x ∷ xs) = ap (λ zs. g x ∷ zs) (part_map g zero n xs)

module _ {N M : Type 0} (f : N → M) where
  int_map : (r : Result ℤ Words) → native.by_int r ≡ evals.reply f (native.by_int r)
  unfolding native.by_int
  int_map (Ok z) = refl
  int_map (Err p) = refl

  char_map : (z : ℤ) → native.as_char z ≡ evals.reply f (native.as_char z)
  unfolding native.as_char
  char_map (pos n) = elim (native.is_code n) as (λ b. ◌≡◌ {A = Reply M} (elim b [ true ↦ Says (Letter n) | false ↦ Fails (codes "not char") ]) (evals.reply f (elim b [ true ↦ Says (Letter n) | false ↦ Fails (codes "not char") ]))) [ true ↦ refl | false ↦ refl ]
  char_map (negsuc n) = refl

  int_alone_map : (v : IntVerb) (z : ℤ) → native.int_alone v z ≡ evals.reply f (native.int_alone v z)
  unfolding native.int_alone native.no_method
  int_alone_map Negates z = int_map _
  int_alone_map AsChar z = char_map z
  int_alone_map other z = refl

  int_with_map : (v : IntVerb) (z : ℤ) (x : Value N) → native.int_with v z (maps.value f x) ≡ evals.reply f (native.int_with v z x)
  unfolding native.int_with native.no_method
  int_with_map (Applies op) z (Number b) = int_map _
  int_with_map (Applies op) z _ = refl
  int_with_map other z x = refl

  int_reply_map : (z : ℤ) (verb : Words) (xs : List (Value N)) → native.int_reply z verb (map (maps.value f) xs) ≡ evals.reply f (native.int_reply z verb xs)
  unfolding native.int_reply native.no_method
  int_reply_map z verb [] = int_alone_map _ z
  int_reply_map z verb (x ∷ []) = int_with_map _ z x
  int_reply_map z verb (x ∷ y ∷ zs) = refl

  flag_with_map : (v : FlagVerb) (a : Bool) (x : Value N) → native.flag_with v a (maps.value f x) ≡ evals.reply f (native.flag_with v a x)
  unfolding native.flag_with native.no_method
  flag_with_map NoFlagVerb a x = refl
  flag_with_map Both a (Flag b) = refl
  flag_with_map Either a (Flag b) = refl
  flag_with_map Unlike a (Flag b) = refl
  flag_with_map other a _ = refl

  flag_reply_map : (a : Bool) (verb : Words) (xs : List (Value N)) → native.flag_reply a verb (map (maps.value f) xs) ≡ evals.reply f (native.flag_reply a verb xs)
  unfolding native.flag_reply native.no_method
  flag_reply_map a verb [] = entry_map (evals.reply f) _ _ verb
  flag_reply_map a verb (x ∷ []) = flag_with_map _ a x
  flag_reply_map a verb (x ∷ y ∷ zs) = refl

  letter_reply_map : (c : ℕ) (verb : Words) (xs : List (Value N)) → native.letter_reply c verb (map (maps.value f) xs) ≡ evals.reply f (native.letter_reply c verb xs)
  unfolding native.letter_reply native.no_method
  letter_reply_map c verb [] = entry_map (evals.reply f) _ _ verb
  letter_reply_map c verb (x ∷ zs) = refl

  -- ---- texts and lists

  got_at_letters : (cs : List ℕ) (o : Option ℕ) → native.got_at {N = M} Letter cs o ≡ evals.reply f (native.got_at Letter cs o)
  unfolding native.got_at
  got_at_letters cs None = refl
  got_at_letters cs (Some i) = elim (slice_get cs i) as (λ o. ◌≡◌ {A = Reply M} (elim o [ Some x ↦ Says (Letter x) | None ↦ Fails (codes "out of range") ]) (evals.reply f (elim o [ Some x ↦ Says (Letter x) | None ↦ Fails (codes "out of range") ]))) [ Some x ↦ refl | None ↦ refl ]

  got_letters : (cs : List ℕ) (x : Value N) → native.got {N = M} Letter cs (maps.value f x) ≡ evals.reply f (native.got Letter cs x)
  unfolding native.got
  got_letters cs (Number i) = got_at_letters cs _
  got_letters cs _ = refl

  got_at_values : (vs : List (Value N)) (o : Option ℕ) → native.got_at (λ v. v) (map (maps.value f) vs) o ≡ evals.reply f (native.got_at (λ v. v) vs o)
  unfolding native.got_at
  got_at_values vs None = refl
  got_at_values vs (Some i) = rw (map_get (maps.value f) vs i, native.got_at) (elim (slice_get vs i) as (λ o. ◌≡◌ {A = Reply M} (elim (option_map (maps.value f) o) [ Some x ↦ Says x | None ↦ Fails (codes "out of range") ]) (evals.reply f (elim o [ Some x ↦ Says x | None ↦ Fails (codes "out of range") ]))) [ Some x ↦ refl | None ↦ refl ])

  got_values : (vs : List (Value N)) (x : Value N) → native.got (λ v. v) (map (maps.value f) vs) (maps.value f x) ≡ evals.reply f (native.got (λ v. v) vs x)
  unfolding native.got
  got_values vs (Number i) = rw (length_map (maps.value f) vs) (got_at_values vs _)
  got_values vs _ = refl

  ran_at_text : (cs : List ℕ) (o : Option (ℕ × ℕ)) → native.ran_at {N = M} (λ ds. Writes (native.encoded ds)) cs o ≡ evals.reply f (native.ran_at (λ ds. Writes (native.encoded ds)) cs o)
  unfolding native.ran_at
  ran_at_text cs None = refl
  ran_at_text cs (Some r) = refl

  ran_text : (cs : List ℕ) (x y : Value N) → native.ran {N = M} (λ ds. Writes (native.encoded ds)) cs (maps.value f x) (maps.value f y) ≡ evals.reply f (native.ran (λ ds. Writes (native.encoded ds)) cs x y)
  unfolding native.ran
  ran_text cs (Number i) (Number j) = ran_at_text cs _
  ran_text cs _ _ = refl

  ran_at_list : (vs : List (Value N)) (o : Option (ℕ × ℕ)) → native.ran_at Lists (map (maps.value f) vs) o ≡ evals.reply f (native.ran_at Lists vs o)
  unfolding native.ran_at
  ran_at_list vs None = refl
  ran_at_list vs (Some r) = ap Lists (part_map (maps.value f) r.0 r.1 vs)

  ran_list : (vs : List (Value N)) (x y : Value N) → native.ran Lists (map (maps.value f) vs) (maps.value f x) (maps.value f y) ≡ evals.reply f (native.ran Lists vs x y)
  unfolding native.ran
  ran_list vs (Number i) (Number j) = rw (length_map (maps.value f) vs) (ran_at_list vs _)
  ran_list vs _ _ = refl

  text_and_map : (t : Words) (x : Value N) → native.text_and t (maps.value f x) ≡ evals.reply f (native.text_and t x)
  unfolding native.text_and
  text_and_map t (Text u) = refl
  text_and_map t (Number z) = refl
  text_and_map t (Letter c) = refl
  text_and_map t (Flag b) = refl
  text_and_map t Null = refl
  text_and_map t _ = refl

  letters_map : (cs : List ℕ) → map Letter cs ≡ map (maps.value f) (map Letter cs)
  letters_map [] = refl
  letters_map (c ∷ cs) = ap (λ zs. Letter c ∷ zs) (letters_map cs)

  text_with_map : (v : SeqVerb) (t : Words) (h x : Value N) → native.text_with v t (maps.value f h) (maps.value f x) ≡ evals.reply f (native.text_with v t h x)
  unfolding native.text_with native.no_method
  text_with_map Gets t h x = got_letters _ x
  text_with_map Adds t h x = text_and_map t x
  text_with_map Steps t h x = ap (λ zs. Iterates (maps.value f h) zs) (letters_map _)
  text_with_map other t h x = refl

  list_and_map : (ls : List (List (Value N))) (vs : List (Value N)) (x : Value N) → native.list_and (map (map (maps.value f)) ls) (map (maps.value f) vs) (maps.value f x) ≡ evals.reply f (native.list_and ls vs x)
  unfolding native.list_and
  list_and_map ls vs (Items k) = rw (list_at_map f ls k, map_append (maps.value f) vs (list_at ls k)) refl
  list_and_map ls vs _ = refl

  list_with_map : (ls : List (List (Value N))) (v : SeqVerb) (vs : List (Value N)) (h x : Value N) → native.list_with (map (map (maps.value f)) ls) v (map (maps.value f) vs) (maps.value f h) (maps.value f x) ≡ evals.reply f (native.list_with ls v vs h x)
  unfolding native.list_with native.no_method
  list_with_map ls Gets vs h x = got_values vs x
  list_with_map ls Adds vs h x = list_and_map ls vs x
  list_with_map ls AddsOne vs h x = rw (map_append (maps.value f) vs (h ∷ [])) refl
  list_with_map ls other vs h x = refl

  -- ---- ranges and comparing

  counted_map : (a : ℤ) (n : ℕ) → native.counted a n ≡ map (maps.value f) (native.counted a n)
  unfolding native.counted
  counted_map a zero = refl
  counted_map a (suc n) = ap (λ zs. Number a ∷ zs) (counted_map (a +ℤ pos 1) n)

  range_of_map : (a : ℤ) (n : ℕ) → native.range_of a n ≡ evals.reply f (native.range_of a n)
  unfolding native.range_of
  range_of_map a n = elim (nat_le n 65535) as (λ b. ◌≡◌ {A = Reply M} (elim b [ true ↦ Lists (native.counted a n) | false ↦ Fails (codes "too heavy") ]) (evals.reply f (elim b [ true ↦ Lists (native.counted a n) | false ↦ Fails (codes "too heavy") ]))) [ true ↦ ap Lists (counted_map a n) | false ↦ refl ]

  pub range_map : (last : Bool) (x y : Value N) → native.range_reply last (maps.value f x) (maps.value f y) ≡ evals.reply f (native.range_reply last x y)
  unfolding native.range_reply
  range_map true (Number a) (Number b) = range_of_map a _
  range_map false (Number a) (Number b) = range_of_map a _
  range_map true _ _ = refl
  range_map false _ _ = refl

  pub order_map : (x y : Value N) → native.value_order (maps.value f x) (maps.value f y) ≡ native.value_order x y
  unfolding native.value_order
  order_map (Number a) (Number b) = refl
  order_map (Letter a) (Letter b) = refl
  order_map (Text a) (Text b) = refl
  order_map _ _ = refl

  pub compared_map : (test : Order → Bool) (o : Option Order) → native.compared test o ≡ evals.reply f (native.compared test o)
  unfolding native.compared
  compared_map test None = refl
  compared_map test (Some o) = refl

  null_or_map : (n : ℕ) (p : Primitive) → native.null_or n p ≡ evals.reply f (native.null_or n p)
  unfolding native.null_or
  null_or_map n (Guarding NullGuard) = refl
  null_or_map n (Guarding (OrNull g)) = refl
  null_or_map n (Guarding _) = refl
  null_or_map n _ = refl

  pub null_reply_map : (x : Value N) → native.null_or_reply (maps.value f x) ≡ evals.reply f (native.null_or_reply x)
  unfolding native.null_or_reply
  null_reply_map (Prim n) = null_or_map n _
  null_reply_map _ = refl

  -- ---- what data answers

  text_reply_map : (t verb : Words) (hs xs : List (Value N)) → native.text_reply t verb (map (maps.value f) hs) (map (maps.value f) xs) ≡ evals.reply f (native.text_reply t verb hs xs)
  unfolding native.text_reply native.no_method
  text_reply_map t verb [] xs = entry_map (evals.reply f) _ _ verb
  text_reply_map t verb (h ∷ []) [] = refl
  text_reply_map t verb (h ∷ []) (x ∷ []) = text_with_map _ t h x
  text_reply_map t verb (h ∷ []) (x ∷ y ∷ []) = rw (ran_text _ x y) (entry_map (evals.reply f) _ _ verb)
  text_reply_map t verb (h ∷ []) (x ∷ y ∷ z ∷ zs) = refl
  text_reply_map t verb (h ∷ g ∷ hs) (x ∷ y ∷ []) = rw (ran_text _ x y) (entry_map (evals.reply f) _ _ verb)
  text_reply_map t verb (h ∷ g ∷ hs) other = refl

  list_reply_map : (ls : List (List (Value N))) (vs : List (Value N)) (verb : Words) (hs xs : List (Value N)) → native.list_reply (map (map (maps.value f)) ls) (map (maps.value f) vs) verb (map (maps.value f) hs) (map (maps.value f) xs) ≡ evals.reply f (native.list_reply ls vs verb hs xs)
  unfolding native.list_reply native.no_method
  list_reply_map ls vs verb [] xs = rw (length_map (maps.value f) vs) (entry_map (evals.reply f) _ _ verb)
  list_reply_map ls vs verb (h ∷ []) [] = refl
  list_reply_map ls vs verb (h ∷ []) (x ∷ []) = list_with_map ls _ vs h x
  list_reply_map ls vs verb (h ∷ []) (x ∷ y ∷ []) = rw (ran_list vs x y) (entry_map (evals.reply f) _ _ verb)
  list_reply_map ls vs verb (h ∷ []) (x ∷ y ∷ z ∷ zs) = refl
  list_reply_map ls vs verb (h ∷ g ∷ hs) (x ∷ y ∷ []) = rw (ran_list vs x y) (entry_map (evals.reply f) _ _ verb)
  list_reply_map ls vs verb (h ∷ g ∷ hs) other = refl

  pub data_map : (ls : List (List (Value N))) (y : Value N) (verb : Words) (hs xs : List (Value N)) → native.data_reply (map (map (maps.value f)) ls) (maps.value f y) verb (map (maps.value f) hs) (map (maps.value f) xs) ≡ evals.reply f (native.data_reply ls y verb hs xs)
  unfolding native.data_reply native.no_method
  data_map ls (Number a) verb hs xs = int_reply_map a verb xs
  data_map ls (Flag b) verb hs xs = flag_reply_map b verb xs
  data_map ls (Letter c) verb hs xs = letter_reply_map c verb xs
  data_map ls (Text t) verb hs xs = text_reply_map t verb hs xs
  data_map ls (Items k) verb hs xs = rw (list_at_map f ls k) (list_reply_map ls (list_at ls k) verb hs xs)
  data_map ls _ verb hs xs = refl

  -- ---- what is asked of primitives

  list_ask_map : (verb : Words) (xs : List (Value N)) → native.list_ask verb (map (maps.value f) xs) ≡ evals.asked f (native.list_ask verb xs)
  unfolding native.list_ask
  list_ask_map verb [] = entry_map (evals.asked f) _ _ verb
  list_ask_map verb (x ∷ []) = entry_map (evals.asked f) _ _ verb
  list_ask_map verb (x ∷ y ∷ []) = entry_map (evals.asked f) _ _ verb
  list_ask_map verb (x ∷ y ∷ z ∷ zs) = entry_map (evals.asked f) _ _ verb

  equalizer_ask_map : (verb : Words) (xs : List (Value N)) → native.equalizer_ask verb (map (maps.value f) xs) ≡ evals.asked f (native.equalizer_ask verb xs)
  unfolding native.equalizer_ask
  equalizer_ask_map verb (x ∷ y ∷ []) = entry_map (evals.asked f) _ _ verb
  equalizer_ask_map verb other = refl

  comparer_ask_map : (verb : Words) (xs : List (Value N)) → native.comparer_ask verb (map (maps.value f) xs) ≡ evals.asked f (native.comparer_ask verb xs)
  unfolding native.comparer_ask
  comparer_ask_map verb (x ∷ y ∷ []) = entry_map (evals.asked f) _ _ verb
  comparer_ask_map verb other = refl

  run_ask_map : (F : Value N → Asked N) (G : Value M → Asked M) → ((x : Value N) → G (maps.value f x) ≡ evals.asked f (F x)) → (verb : Words) (xs : List (Value N)) → native.run_ask G verb (map (maps.value f) xs) ≡ evals.asked f (native.run_ask F verb xs)
  unfolding native.run_ask
  run_ask_map F G e verb (x ∷ []) = rw (e x) (entry_map (evals.asked f) _ _ verb)
  run_ask_map F G e verb other = refl

  send_ask_map : (verb : Words) (xs : List (Value N)) → native.send_ask verb (map (maps.value f) xs) ≡ evals.asked f (native.send_ask verb xs)
  unfolding native.send_ask
  send_ask_map verb (x ∷ y ∷ z ∷ []) = entry_map (evals.asked f) _ _ verb
  send_ask_map verb other = refl

  ref_ask_map : (verb : Words) (xs : List (Value N)) → native.ref_ask verb (map (maps.value f) xs) ≡ evals.asked f (native.ref_ask verb xs)
  unfolding native.ref_ask
  ref_ask_map verb (x ∷ y ∷ z ∷ zs) = refl
  ref_ask_map verb other = entry_map (evals.asked f) _ _ verb

  stamp_ask_map : (verb : Words) (xs : List (Value N)) → native.stamp_ask verb (map (maps.value f) xs) ≡ evals.asked f (native.stamp_ask verb xs)
  unfolding native.stamp_ask
  stamp_ask_map verb (x ∷ y ∷ []) = entry_map (evals.asked f) _ _ verb
  stamp_ask_map verb other = refl

  guard_ask_map : (g : Guard) (verb : Words) (xs : List (Value N)) → native.guard_ask g verb (map (maps.value f) xs) ≡ evals.asked f (native.guard_ask g verb xs)
  unfolding native.guard_ask
  guard_ask_map g verb (x ∷ y ∷ []) = entry_map (evals.asked f) _ _ verb
  guard_ask_map NullGuard verb (x ∷ []) = entry_map (evals.asked f) _ _ verb
  guard_ask_map NullGuard verb [] = refl
  guard_ask_map NullGuard verb (x ∷ y ∷ z ∷ zs) = refl
  guard_ask_map AnyGuard verb [] = refl
  guard_ask_map AnyGuard verb (x ∷ []) = refl
  guard_ask_map AnyGuard verb (x ∷ y ∷ z ∷ zs) = refl
  guard_ask_map _ verb other = refl

  pub asked_map : (p : Primitive) (verb : Words) (xs : List (Value N)) → native.asked p verb (map (maps.value f) xs) ≡ evals.asked f (native.asked p verb xs)
  unfolding native.asked
  asked_map MakeList verb xs = list_ask_map verb xs
  asked_map Equalizer verb xs = equalizer_ask_map verb xs
  asked_map Comparer verb xs = comparer_ask_map verb xs
  asked_map Looper verb xs = run_ask_map Loops Loops (λ x. refl) verb xs
  asked_map Sender verb xs = send_ask_map verb xs
  asked_map References verb xs = ref_ask_map verb xs
  asked_map Thrower verb xs = run_ask_map ThrowsIt ThrowsIt (λ x. refl) verb xs
  asked_map StampReader verb xs = stamp_ask_map verb xs
  asked_map (Guarding g) verb xs = guard_ask_map g verb xs
  asked_map other verb xs = refl

  pub safe_map : (x : Words) → native.safe_value x ≡ option_map (maps.value f) (native.safe_value x)
  unfolding native.safe_value native.prims_from
  safe_map x = entry_map (option_map (maps.value f)) _ _ x
