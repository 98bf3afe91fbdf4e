-- What data answers in the terms of the code is what it answers in the machine, where each text and each list has its number.
use Rattle.std.proofs.Common.{◌≡◌, ℕ, ℤ, pos, negsuc, Bool, true, false, List, [], ◌∷◌, ◌++◌, length, Option, Some, None, Result, Ok, Err, IfOk, map, refl, ap, sym, ◌∙◌}
use Rattle.std.specs.Prelude.{codes, chars, not, if◌then◌else◌, option_map, slice_get, unwrap_or, neg_ℤ, ◌-ℤ◌}
use Rattle.std.proofs.Math.IntN.{+ℤ_idl}
use Rattle.std.proofs.lemmas.List.{length-map, map-append}
use Rattle.std.proofs.lemmas.Option.{slice_get-map}
use Rattle.ev_base.specs.declared.values.Value.{Value as Held}
use Rattle.ev_base.specs.declared.values.Value.TheVariants as held
use Rattle.ev_base.specs.declared.memory.Memory.{Memory}
use Rattle.ev_heap.specs.Contents.{Contents}
use Rattle.ev_heap.specs.declared.kept.Listed.{Listed}
use Rattle.ev_prims.specs.Same.{op_of, told}
use Rattle.ev_prims.proofs.Sames as arithmetic
use Rattle.def_machine.specs.Free.{entry}
use Rattle.def_machine.specs.Ints as ints
use Rattle.def_machine.specs.Values.{Words, Value, Letter, Number, Items, Local}
use Rattle.def_machine.specs.Native as native
use Rattle.ev_integer.specs.Ints.{apply}
use Rattle.ev_integer.specs.declared.arithmetic.IntOp.{IntOp}
use Rattle.ev_integer.specs.declared.arithmetic.IntOp.TheVariants.{Subtract}
use Rattle.ev_integer.specs.declared.arithmetic.NumFault.{NumFault}
use Rattle.ev_prims.specs.Answers.{number_answer, char_answer, int_alone, int_joined, int_answer, joined, flag_joined, flag_answer, letter_answer, size_answer, member_answer, place_answer, got, letter_at, got_letter, letters_between, text_ran, text_and, text_with, text_formed, text_answer, members_between, list_ran, list_and, list_with, list_formed, list_answer, members_at, data_answer}
use Rattle.ev_prims.specs.Forms.{form_of}
use Rattle.ev_prims.specs.Reading.{value_by, values_by, reply_by, text_in, lists_in}
use Rattle.ev_prims.specs.Verbs.{picked, code_of, alone_named, alone_of, operation_named, int_verb_of, joining_named, flag_verb_of, text_verb_named, list_verb_named, seq_verb_of}
use Rattle.ev_prims.specs.declared.flags.Joining.{Joining}
use Rattle.ev_prims.specs.declared.flags.Joining.TheVariants.{Both, Either, Unlike}
use Rattle.ev_prims.specs.declared.forms.Form.TheVariants as form
use Rattle.ev_prims.specs.declared.integers.AloneVerb.{AloneVerb}
use Rattle.ev_prims.specs.declared.integers.AloneVerb.TheVariants.{Negate, ToChar}
use Rattle.ev_prims.specs.declared.problem.Problem.TheVariants.{NoMethod}
use Rattle.ev_prims.specs.declared.reply.Reply.{Reply}
use Rattle.ev_prims.specs.declared.reply.Reply.TheVariants as reply
use Rattle.ev_prims.specs.declared.verbs.SeqVerb.{SeqVerb}
use Rattle.ev_prims.specs.declared.verbs.SeqVerb.TheVariants as seq
use Rattle.ev_prims.proofs.SeqLemmas.{part_of_map}
use Rattle.ev_prims.proofs.VerbLemmas.{by_table, int_binary_is, int_unary_is, flag_binary_is, text_verb_is, list_verb_is}

module _ (t : ℕ → Words) where
  -- one entry, or no method
  one_entry : (name : Words) (r : Reply) (s : native.Reply Local) (verb : Words) → s ≡ reply_by t r
      → entry ((name, s) ∷ []) (native.Fails (codes "no method")) verb ≡ reply_by t (picked ((name, r) ∷ []) (reply.Fails NoMethod) verb)
  one_entry name r s verb e =
      ap (λ (x : native.Reply Local). entry ((name, x) ∷ []) (native.Fails (codes "no method")) verb) e
      ∙ by_table (reply_by t) ((name, r) ∷ []) (reply.Fails NoMethod) verb

  -- ---- integers

  number_is : (r : Result ℤ NumFault) → native.by_int (told r) ≡ reply_by t (number_answer r)
  unfolding native.by_int
  number_is (Ok z) = refl
  number_is (Err fault) = refl

  applied_is : (op : IntOp) (a b : ℤ) → native.by_int (ints.apply (op_of op) a b) ≡ reply_by t (number_answer (apply op a b))
  applied_is op a b = ap (native.by_int {N = Local}) (arithmetic.same op a b) ∙ number_is (apply op a b)

  with_is : (o : Option IntOp) (a : ℤ) (x : Held) → native.int_with (int_verb_of o) a (value_by t x) ≡ reply_by t (int_joined o a x)
  unfolding native.int_with int_joined native.no_method
  with_is None a x = refl
  with_is (Some op) a (held.Int b) = applied_is op a b
  with_is (Some op) a _ = refl

  from_zero : (z : ℤ) → pos 0 -ℤ z ≡ neg_ℤ z
  from_zero z = +ℤ_idl (neg_ℤ z)

  negated_is : (a : ℤ) → native.int_alone native.Negates a ≡ reply_by t (number_answer (apply Subtract (pos 0) a))
  unfolding native.int_alone ints.apply
  negated_is a = ap (λ (z : ℤ). native.by_int {N = Local} (ints.in_range z)) (sym (from_zero a)) ∙ applied_is Subtract (pos 0) a

  code_is : (b : Bool) (n : ℕ) → elim b as (λ c. native.Reply Local) [ true ↦ native.Says (Letter n) | false ↦ native.Fails (codes "not char") ] ≡ reply_by t (char_answer (if b then Some n else None))
  code_is true n = refl
  code_is false n = refl

  as_char_is : (a : ℤ) → native.as_char a ≡ reply_by t (char_answer (code_of a))
  unfolding native.as_char code_of
  as_char_is (pos n) = code_is (native.is_code n) n
  as_char_is (negsuc n) = refl

  alone_is : (o : Option AloneVerb) (a : ℤ) → native.int_alone (alone_of o) a ≡ reply_by t (int_alone o a)
  unfolding native.int_alone int_alone native.no_method
  alone_is (Some Negate) a = negated_is a
  alone_is (Some ToChar) a = as_char_is a
  alone_is None a = refl

  int_is : (a : ℤ) (verb : Words) (xs : List Held) → native.int_reply a verb (map (value_by t) xs) ≡ reply_by t (int_answer a verb xs)
  unfolding native.int_reply int_answer native.no_method
  int_is a verb [] = ap (λ (v : native.IntVerb). native.int_alone {N = Local} v a) (int_unary_is verb) ∙ alone_is (alone_named verb) a
  int_is a verb (x ∷ []) = ap (λ (v : native.IntVerb). native.int_with v a (value_by t x)) (int_binary_is verb) ∙ with_is (operation_named verb) a x
  int_is a verb (x ∷ y ∷ ys) = refl

  -- ---- booleans and characters

  unlike_is : (a b : Bool) → elim a [ true ↦ not b | false ↦ b ] ≡ joined Unlike a b
  unlike_is true b = refl
  unlike_is false b = refl

  flag_with_is : (o : Option Joining) (a : Bool) (x : Held) → native.flag_with (flag_verb_of o) a (value_by t x) ≡ reply_by t (flag_joined o a x)
  unfolding native.flag_with flag_joined native.flag_joined native.no_method
  flag_with_is None a x = refl
  flag_with_is (Some Both) a (held.Bool b) = refl
  flag_with_is (Some Either) a (held.Bool b) = refl
  flag_with_is (Some Unlike) a (held.Bool b) = ap (λ (c : Bool). reply_by t (reply.Says (held.Bool c))) (unlike_is a b)
  flag_with_is (Some Both) a _ = refl
  flag_with_is (Some Either) a _ = refl
  flag_with_is (Some Unlike) a _ = refl

  flag_is : (a : Bool) (verb : Words) (xs : List Held) → native.flag_reply a verb (map (value_by t) xs) ≡ reply_by t (flag_answer a verb xs)
  unfolding native.flag_reply flag_answer native.no_method
  flag_is a verb [] = one_entry (codes "not") (reply.Says (held.Bool (not a))) _ verb refl
  flag_is a verb (x ∷ []) = ap (λ (v : native.FlagVerb). native.flag_with v a (value_by t x)) (flag_binary_is verb) ∙ flag_with_is (joining_named verb) a x
  flag_is a verb (x ∷ y ∷ ys) = refl

  letter_is : (c : ℕ) (verb : Words) (xs : List Held) → native.letter_reply c verb (map (value_by t) xs) ≡ reply_by t (letter_answer c verb xs)
  unfolding native.letter_reply letter_answer native.no_method
  letter_is c verb [] = one_entry (codes "asInteger") (reply.Says (held.Int (pos c))) _ verb refl
  letter_is c verb (x ∷ xs) = refl

  -- ---- texts

  size_is : (n : ℕ) (verb : Words) → entry ((codes "size", native.Says (Number (pos n))) ∷ []) native.no_method verb ≡ reply_by t (size_answer n verb)
  unfolding size_answer native.no_method
  size_is n verb = one_entry (codes "size") (reply.Says (held.Int (pos n))) _ verb refl

  letter_said : (o : Option ℕ) → elim o as (λ c. native.Reply Local) [ Some c ↦ native.Says (Letter c) | None ↦ native.Fails (codes "out of range") ] ≡ reply_by t (member_answer (option_map held.Char o))
  letter_said (Some c) = refl
  letter_said None = refl

  letter_at_is : (cs : List ℕ) (o : Option ℕ) → native.got_at Letter cs o ≡ reply_by t (letter_at cs o)
  unfolding native.got_at
  letter_at_is cs None = refl
  letter_at_is cs (Some i) = letter_said (slice_get cs i)

  got_letter_is : (cs : List ℕ) (x : Held) → native.got Letter cs (value_by t x) ≡ reply_by t (got_letter cs x)
  unfolding native.got got_letter
  got_letter_is cs (held.Int z) = letter_at_is cs (native.index_in (length cs) z)
  got_letter_is cs _ = refl

  letters_between_is : (cs : List ℕ) (o : Option (ℕ × ℕ)) → native.ran_at {N = Local} (λ ds. native.Writes (native.encoded ds)) cs o ≡ reply_by t (letters_between cs o)
  unfolding native.ran_at
  letters_between_is cs None = refl
  letters_between_is cs (Some r) = refl

  text_ran_is : (cs : List ℕ) (i j : Held) → native.ran (λ ds. native.Writes (native.encoded ds)) cs (value_by t i) (value_by t j) ≡ reply_by t (text_ran cs i j)
  unfolding native.ran text_ran
  text_ran_is cs (held.Int a) (held.Int b) = letters_between_is cs (native.range_in (length cs) a b)
  text_ran_is cs (held.Int a) _ = refl
  text_ran_is cs _ j = refl

  text_and_is : (u : Words) (x : Held) → native.text_and u (value_by t x) ≡ reply_by t (text_and t u x)
  unfolding native.text_and text_and native.flag_words
  text_and_is u (held.Bool true) = refl
  text_and_is u (held.Bool false) = refl
  text_and_is u _ = refl

  letters_are : (cs : List ℕ) → map Letter cs ≡ values_by t (map held.Char cs)
  letters_are [] = refl
  letters_are (c ∷ cs) = ap (λ (ys : List (Value Local)). Letter c ∷ ys) (letters_are cs)

  text_with_is : (o : Option SeqVerb) (u : Words) (a x : Held) → native.text_with (seq_verb_of o) u (value_by t a) (value_by t x) ≡ reply_by t (text_with t o u a x)
  unfolding native.text_with text_with native.no_method
  text_with_is (Some seq.Get) u a x = got_letter_is (chars u) x
  text_with_is (Some seq.Add) u a x = text_and_is u x
  text_with_is (Some seq.Iterate) u a x = ap (λ (ys : List (Value Local)). native.Iterates (value_by t a) ys) (letters_are (chars u))
  text_with_is (Some seq.With) u a x = refl
  text_with_is None u a x = refl

  text_is : (u verb : Words) (hs xs : List Held) → native.text_reply u verb (map (value_by t) hs) (map (value_by t) xs) ≡ reply_by t (text_answer t u verb hs xs)
  unfolding native.text_reply native.no_method form_of text_formed
  text_is u verb [] xs = size_is (length (chars u)) verb
  text_is u verb (a ∷ []) [] = refl
  text_is u verb (a ∷ []) (x ∷ []) = ap (λ (v : native.SeqVerb). native.text_with v u (value_by t a) (value_by t x)) (text_verb_is verb) ∙ text_with_is (text_verb_named verb) u a x
  text_is u verb (a ∷ []) (x ∷ y ∷ []) = one_entry (codes "run") (text_ran (chars u) x y) _ verb (text_ran_is (chars u) x y)
  text_is u verb (a ∷ []) (x ∷ y ∷ z ∷ xs) = refl
  text_is u verb (a ∷ b ∷ hs) [] = refl
  text_is u verb (a ∷ b ∷ hs) (x ∷ []) = refl
  text_is u verb (a ∷ b ∷ hs) (x ∷ y ∷ []) = one_entry (codes "run") (text_ran (chars u) x y) _ verb (text_ran_is (chars u) x y)
  text_is u verb (a ∷ b ∷ hs) (x ∷ y ∷ z ∷ xs) = refl

  -- ---- lists

  member_said : (o : Option Held) → elim (option_map (value_by t) o) as (λ c. native.Reply Local) [ Some v ↦ native.Says v | None ↦ native.Fails (codes "out of range") ] ≡ reply_by t (member_answer o)
  member_said (Some v) = refl
  member_said None = refl

  place_is : (vs : List Held) (o : Option ℕ) → native.got_at (λ (v : Value Local). v) (map (value_by t) vs) o ≡ reply_by t (place_answer vs o)
  unfolding native.got_at
  place_is vs None = refl
  place_is vs (Some i) =
      ap (λ (o : Option (Value Local)). elim o as (λ c. native.Reply Local) [ Some v ↦ native.Says v | None ↦ native.Fails (codes "out of range") ]) (slice_get-map (value_by t) vs i)
      ∙ member_said (slice_get vs i)

  got_is : (vs : List Held) (x : Held) → native.got (λ (v : Value Local). v) (map (value_by t) vs) (value_by t x) ≡ reply_by t (got vs x)
  unfolding native.got got
  got_is vs (held.Int z) =
      ap (λ (n : ℕ). native.got_at (λ (v : Value Local). v) (map (value_by t) vs) (native.index_in n z)) (length-map vs (value_by t))
      ∙ place_is vs (native.index_in (length vs) z)
  got_is vs _ = refl

  members_between_is : (vs : List Held) (o : Option (ℕ × ℕ)) → native.ran_at native.Lists (map (value_by t) vs) o ≡ reply_by t (members_between vs o)
  unfolding native.ran_at
  members_between_is vs None = refl
  members_between_is vs (Some r) = ap (λ (ys : List (Value Local)). native.Lists ys) (part_of_map (value_by t) r.0 r.1 vs)

  list_ran_is : (vs : List Held) (i j : Held) → native.ran native.Lists (map (value_by t) vs) (value_by t i) (value_by t j) ≡ reply_by t (list_ran vs i j)
  unfolding native.ran list_ran
  list_ran_is vs (held.Int a) (held.Int b) =
      ap (λ (n : ℕ). native.ran_at native.Lists (map (value_by t) vs) (native.range_in n a b)) (length-map vs (value_by t))
      ∙ members_between_is vs (native.range_in (length vs) a b)
  list_ran_is vs (held.Int a) _ = refl
  list_ran_is vs _ j = refl

  -- where the lists of a vat are these
  module _ (ls : List (List (Value Local))) (m : ℕ → List Held) (same : (k : ℕ) → native.list_at ls k ≡ map (value_by t) (m k)) where
    list_and_is : (vs : List Held) (x : Held) → native.list_and ls (map (value_by t) vs) (value_by t x) ≡ reply_by t (list_and m vs x)
    unfolding native.list_and list_and
    list_and_is vs (held.List k) =
        ap (λ (ys : List (Value Local)). native.Lists (map (value_by t) vs ++ ys)) (same k)
        ∙ ap (λ (ys : List (Value Local)). native.Lists ys) (sym (map-append (value_by t) vs (m k)))
    list_and_is vs _ = refl

    list_with_is : (o : Option SeqVerb) (vs : List Held) (a x : Held)
        → native.list_with ls (seq_verb_of o) (map (value_by t) vs) (value_by t a) (value_by t x) ≡ reply_by t (list_with m o vs a x)
    unfolding native.list_with list_with native.no_method
    list_with_is (Some seq.Get) vs a x = got_is vs x
    list_with_is (Some seq.Add) vs a x = list_and_is vs x
    list_with_is (Some seq.With) vs a x = ap (λ (ys : List (Value Local)). native.Lists ys) (sym (map-append (value_by t) vs (a ∷ [])))
    list_with_is (Some seq.Iterate) vs a x = refl
    list_with_is None vs a x = refl

    list_size_is : (vs : List Held) (verb : Words) → entry ((codes "size", native.Says (Number (pos (length (map (value_by t) vs))))) ∷ []) native.no_method verb ≡ reply_by t (size_answer (length vs) verb)
    list_size_is vs verb =
        let same_size : ◌≡◌ {A = native.Reply Local} (native.Says (Number (pos (length (map (value_by t) vs))))) (native.Says (Number (pos (length vs)))) = ap (λ (n : ℕ). native.Says (Number (pos n))) (length-map vs (value_by t)) in
        ap (λ (r : native.Reply Local). entry ((codes "size", r) ∷ []) native.no_method verb) same_size ∙ size_is (length vs) verb

    list_is : (vs : List Held) (verb : Words) (hs xs : List Held) → native.list_reply ls (map (value_by t) vs) verb (map (value_by t) hs) (map (value_by t) xs) ≡ reply_by t (list_answer m vs verb hs xs)
    unfolding native.list_reply native.no_method form_of list_formed
    list_is vs verb [] xs = list_size_is vs verb
    list_is vs verb (a ∷ []) [] = refl
    list_is vs verb (a ∷ []) (x ∷ []) = ap (λ (v : native.SeqVerb). native.list_with ls v (map (value_by t) vs) (value_by t a) (value_by t x)) (list_verb_is verb) ∙ list_with_is (list_verb_named verb) vs a x
    list_is vs verb (a ∷ []) (x ∷ y ∷ []) = one_entry (codes "run") (list_ran vs x y) _ verb (list_ran_is vs x y)
    list_is vs verb (a ∷ []) (x ∷ y ∷ z ∷ xs) = refl
    list_is vs verb (a ∷ b ∷ hs) [] = refl
    list_is vs verb (a ∷ b ∷ hs) (x ∷ []) = refl
    list_is vs verb (a ∷ b ∷ hs) (x ∷ y ∷ []) = one_entry (codes "run") (list_ran vs x y) _ verb (list_ran_is vs x y)
    list_is vs verb (a ∷ b ∷ hs) (x ∷ y ∷ z ∷ xs) = refl

    -- what any held value answers
    pub data_is : (x : Held) (verb : Words) (hs xs : List Held) → native.data_reply ls (value_by t x) verb (map (value_by t) hs) (map (value_by t) xs) ≡ reply_by t (data_answer t m x verb hs xs)
    unfolding native.data_reply data_answer native.no_method
    data_is (held.Int a) verb hs xs = int_is a verb xs
    data_is (held.Bool b) verb hs xs = flag_is b verb xs
    data_is (held.Char c) verb hs xs = letter_is c verb xs
    data_is (held.Text id) verb hs xs = text_is (t id) verb hs xs
    data_is (held.List k) verb hs xs =
        ap (λ (ys : List (Value Local)). native.list_reply ls ys verb (map (value_by t) hs) (map (value_by t) xs)) (same k)
        ∙ list_is (m k) verb hs xs
    data_is _ verb hs xs = refl

  -- the lists of a heap
  pub lists_are : (ls : List Listed) (k : ℕ)
      → native.list_at (map (λ (l : Listed). values_by t l.members) ls) k ≡ map (value_by t) (unwrap_or (option_map (λ (l : Listed). l.members) (slice_get ls k)) [])
  unfolding native.list_at
  lists_are ls k =
      ap (λ (o : Option (List (Value Local))). elim o as (λ c. List (Value Local)) [ Some vs ↦ vs | None ↦ [] ]) (slice_get-map (λ (l : Listed). values_by t l.members) ls k)
      ∙ members_of (slice_get ls k)
    where
      members_of : (o : Option Listed) → elim (option_map (λ (l : Listed). values_by t l.members) o) as (λ c. List (Value Local)) [ Some vs ↦ vs | None ↦ [] ] ≡ map (value_by t) (unwrap_or (option_map (λ (l : Listed). l.members) o) [])
      members_of (Some l) = refl
      members_of None = refl

-- what is answered in a heap
pub means : (h : Contents) (x : Held) (verb : Words) (hs xs : List Held)
    → reply_by (text_in h) (data_answer (text_in h) (members_at h) x verb hs xs) ≡ native.data_reply (lists_in h) (value_by (text_in h) x) verb (map (value_by (text_in h)) hs) (map (value_by (text_in h)) xs)
means h x verb hs xs = sym (data_is (text_in h) (lists_in h) (members_at h) (lists_are (text_in h) h.lists) x verb hs xs)

pub all_means : (h : Contents) (x : Held) (verb : Words) (hs xs : List Held) (q : Result Reply Memory) → IfOk q (λ r. r ≡ data_answer (text_in h) (members_at h) x verb hs xs)
    → IfOk q (λ r. reply_by (text_in h) r ≡ native.data_reply (lists_in h) (value_by (text_in h) x) verb (map (value_by (text_in h)) hs) (map (value_by (text_in h)) xs))
all_means h x verb hs xs (Ok r) e = ap (reply_by (text_in h)) e ∙ means h x verb hs xs
all_means h x verb hs xs (Err m) e = tt
