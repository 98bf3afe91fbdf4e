-- What data answers to calls, in the terms of the code.
use Rattle.std.specs.Prelude.{ℕ, ℤ, pos, Bool, true, false, not, ◌&&◌, ◌||◌, if◌then◌else◌, List, [], ◌∷◌, ◌++◌, Some, None, Result, Ok, Err, map, length, slice_get, option_map, unwrap_or, codes, chars, encode_utf8}
use Rattle.std.specs.declared.option.Option.{Option}
use Rattle.std.specs.Fmt.{signed_decimal}
use Rattle.ev_base.specs.declared.values.Value.{Value}
use Rattle.ev_base.specs.declared.values.Value.TheVariants as held
use Rattle.ev_heap.specs.Contents.{Contents}
use Rattle.def_machine.specs.Values.{Words}
use Rattle.def_machine.specs.Native as native
use Rattle.ev_integer.specs.Ints.{apply}
use Rattle.ev_integer.specs.declared.arithmetic.IntOp.{IntOp}
use Rattle.ev_integer.specs.declared.arithmetic.IntOp.TheVariants.{Subtract}
use Rattle.ev_integer.specs.declared.arithmetic.NumFault.{NumFault}
use Rattle.ev_prims.specs.Forms.{form_of}
use Rattle.ev_prims.specs.Verbs.{picked, alone_named, code_of, operation_named, joining_named, text_verb_named, list_verb_named}
use Rattle.ev_prims.specs.declared.flags.Joining.{Joining}
use Rattle.ev_prims.specs.declared.flags.Joining.TheVariants.{Both, Either, Unlike}
use Rattle.ev_prims.specs.declared.forms.Form.{Form}
use Rattle.ev_prims.specs.declared.forms.Form.TheVariants as form
use Rattle.ev_prims.specs.declared.integers.AloneVerb.{AloneVerb}
use Rattle.ev_prims.specs.declared.integers.AloneVerb.TheVariants.{Negate, ToChar}
use Rattle.ev_prims.specs.declared.problem.Problem.TheVariants.{NoMethod, Arithmetic, NotInt, NotChar, NotBoolean, NotText, NotList, OutOfRange, BadArgument}
use Rattle.ev_prims.specs.declared.reply.Reply.{Reply}
use Rattle.ev_prims.specs.declared.reply.Reply.TheVariants.{Says, Writes, Lists, Iterates, Fails}
use Rattle.ev_prims.specs.declared.verbs.SeqVerb.{SeqVerb}
use Rattle.ev_prims.specs.declared.verbs.SeqVerb.TheVariants as seq

-- ---- integers

abbrev pub number_answer : Result ℤ NumFault → Reply
number_answer (Ok z) = Says (held.Int z)
number_answer (Err fault) = Fails (Arithmetic fault)

abbrev pub char_answer : Option ℕ → Reply
char_answer (Some c) = Says (held.Char c)
char_answer None = Fails NotChar

unfoldable pub int_alone : Option AloneVerb → ℤ → Reply
int_alone (Some Negate) a = number_answer (apply Subtract (pos 0) a)
int_alone (Some ToChar) a = char_answer (code_of a)
int_alone None a = Fails NoMethod

unfoldable pub int_joined : Option IntOp → ℤ → Value → Reply
int_joined (Some op) a (held.Int b) = number_answer (apply op a b)
int_joined (Some op) a _ = Fails NotInt
int_joined None a x = Fails NoMethod

unfoldable pub int_answer : ℤ → Words → List Value → Reply
int_answer a verb [] = int_alone (alone_named verb) a
int_answer a verb (x ∷ []) = int_joined (operation_named verb) a x
int_answer a verb (x ∷ y ∷ ys) = Fails NoMethod

-- ---- booleans and characters

abbrev pub joined : Joining → Bool → Bool → Bool
joined Both a b = a && b
joined Either a b = a || b
joined Unlike a b = if a then not b else b

unfoldable pub flag_joined : Option Joining → Bool → Value → Reply
flag_joined (Some j) a (held.Bool b) = Says (held.Bool (joined j a b))
flag_joined (Some j) a _ = Fails NotBoolean
flag_joined None a x = Fails NoMethod

unfoldable pub flag_answer : Bool → Words → List Value → Reply
flag_answer a verb [] = picked ((codes "not", Says (held.Bool (not a))) ∷ []) (Fails NoMethod) verb
flag_answer a verb (x ∷ []) = flag_joined (joining_named verb) a x
flag_answer a verb (x ∷ y ∷ ys) = Fails NoMethod

unfoldable pub letter_answer : ℕ → Words → List Value → Reply
letter_answer c verb [] = picked ((codes "asInteger", Says (held.Int (pos c))) ∷ []) (Fails NoMethod) verb
letter_answer c verb (x ∷ xs) = Fails NoMethod

-- ---- texts and lists

-- how many members there are
unfoldable pub size_answer : ℕ → Words → Reply
size_answer n verb = picked ((codes "size", Says (held.Int (pos n))) ∷ []) (Fails NoMethod) verb

abbrev pub member_answer : Option Value → Reply
member_answer (Some v) = Says v
member_answer None = Fails OutOfRange

abbrev pub place_answer : List Value → Option ℕ → Reply
place_answer vs (Some i) = member_answer (slice_get vs i)
place_answer vs None = Fails OutOfRange

-- the member at an index
unfoldable pub got : List Value → Value → Reply
got vs (held.Int z) = place_answer vs (native.index_in (length vs) z)
got vs _ = Fails BadArgument

abbrev pub letter_at : List ℕ → Option ℕ → Reply
letter_at cs (Some i) = member_answer (option_map held.Char (slice_get cs i))
letter_at cs None = Fails OutOfRange

-- the character at an index
unfoldable pub got_letter : List ℕ → Value → Reply
got_letter cs (held.Int z) = letter_at cs (native.index_in (length cs) z)
got_letter cs _ = Fails BadArgument

abbrev pub letters_between : List ℕ → Option (ℕ × ℕ) → Reply
letters_between cs (Some r) = Writes (native.encoded (native.part_of r.0 r.1 cs))
letters_between cs None = Fails OutOfRange

-- the characters from an index to before another
unfoldable pub text_ran : List ℕ → Value → Value → Reply
text_ran cs (held.Int a) (held.Int b) = letters_between cs (native.range_in (length cs) a b)
text_ran cs _ _ = Fails BadArgument

-- a text with this behind it, where each text has its number
unfoldable pub text_and : (ℕ → Words) → Words → Value → Reply
text_and t u (held.Text id) = Writes (u ++ t id)
text_and t u (held.Int z) = Writes (u ++ signed_decimal z)
text_and t u (held.Char c) = Writes (u ++ encode_utf8 c)
text_and t u (held.Bool true) = Writes (u ++ codes "true")
text_and t u (held.Bool false) = Writes (u ++ codes "false")
text_and t u held.Null = Writes (u ++ codes "null")
text_and t u _ = Fails NotText

-- one argument, as it is held and as it is followed
unfoldable pub text_with : (ℕ → Words) → Option SeqVerb → Words → Value → Value → Reply
text_with t (Some seq.Get) u a x = got_letter (chars u) x
text_with t (Some seq.Add) u a x = text_and t u x
text_with t (Some seq.Iterate) u a x = Iterates a (map held.Char (chars u))
text_with t (Some seq.With) u a x = Fails NoMethod
text_with t None u a x = Fails NoMethod

unfoldable pub text_formed : (ℕ → Words) → Words → Words → Form → Reply
text_formed t u verb form.Alone = size_answer (length (chars u)) verb
text_formed t u verb (form.One a x) = text_with t (text_verb_named verb) u a x
text_formed t u verb (form.Two i j) = picked ((codes "run", text_ran (chars u) i j) ∷ []) (Fails NoMethod) verb
text_formed t u verb form.Other = Fails NoMethod

abbrev pub text_answer : (ℕ → Words) → Words → Words → List Value → List Value → Reply
text_answer t u verb hs xs = text_formed t u verb (form_of hs xs)

abbrev pub members_between : List Value → Option (ℕ × ℕ) → Reply
members_between vs (Some r) = Lists (native.part_of r.0 r.1 vs)
members_between vs None = Fails OutOfRange

-- the members from an index to before another
unfoldable pub list_ran : List Value → Value → Value → Reply
list_ran vs (held.Int a) (held.Int b) = members_between vs (native.range_in (length vs) a b)
list_ran vs _ _ = Fails BadArgument

-- a list with this list behind it, where each list has its number
unfoldable pub list_and : (ℕ → List Value) → List Value → Value → Reply
list_and m vs (held.List id) = Lists (vs ++ m id)
list_and m vs _ = Fails NotList

unfoldable pub list_with : (ℕ → List Value) → Option SeqVerb → List Value → Value → Value → Reply
list_with m (Some seq.Get) vs a x = got vs x
list_with m (Some seq.Add) vs a x = list_and m vs x
list_with m (Some seq.With) vs a x = Lists (vs ++ a ∷ [])
list_with m (Some seq.Iterate) vs a x = Iterates a vs
list_with m None vs a x = Fails NoMethod

unfoldable pub list_formed : (ℕ → List Value) → List Value → Words → Form → Reply
list_formed m vs verb form.Alone = size_answer (length vs) verb
list_formed m vs verb (form.One a x) = list_with m (list_verb_named verb) vs a x
list_formed m vs verb (form.Two i j) = picked ((codes "run", list_ran vs i j) ∷ []) (Fails NoMethod) verb
list_formed m vs verb form.Other = Fails NoMethod

abbrev pub list_answer : (ℕ → List Value) → List Value → Words → List Value → List Value → Reply
list_answer m vs verb hs xs = list_formed m vs verb (form_of hs xs)

-- the members of the list of that number, and none where there is none
abbrev pub members_at : Contents → ℕ → List Value
members_at h id = unwrap_or (option_map (λ l. l.members) (slice_get h.lists id)) []

-- What a followed value answers to a verb, with the arguments as held and as followed, where each text and each list has its number.
unfoldable pub data_answer : (ℕ → Words) → (ℕ → List Value) → Value → Words → List Value → List Value → Reply
data_answer t m (held.Int a) verb hs xs = int_answer a verb xs
data_answer t m (held.Bool b) verb hs xs = flag_answer b verb xs
data_answer t m (held.Char c) verb hs xs = letter_answer c verb xs
data_answer t m (held.Text id) verb hs xs = text_answer t (t id) verb hs xs
data_answer t m (held.List id) verb hs xs = list_answer m (m id) verb hs xs
data_answer t m _ verb hs xs = Fails NoMethod
