-- What data answers holds values of which each fact holds that holds of what is asked with and of plain data, and needs of the texts
-- no other than those of the receiver and the followed arguments.
use Rattle.std.proofs.Common.{◌≡◌, ℕ, zero, suc, ℤ, pos, Bool, true, false, List, [], ◌∷◌, ◌++◌, Option, Some, None, Result, Ok, Err, map, length, refl, sym, ap, subst, ◌∙◌}
use Rattle.std.specs.Prelude.{if◌then◌else◌, codes, chars, not, option_map, slice_get, unwrap_or}
use Rattle.std.specs.Str.{bytes_eq}
use Rattle.ev_base.specs.declared.values.Value.{Value}
use Rattle.ev_base.specs.declared.values.Value.TheVariants as held
use Rattle.def_machine.specs.Values.{Words}
use Rattle.def_machine.specs.Native as native
use Rattle.ev_integer.specs.Ints.{apply}
use Rattle.ev_integer.specs.declared.arithmetic.IntOp.{IntOp}
use Rattle.ev_integer.specs.declared.arithmetic.IntOp.TheVariants.{Subtract}
use Rattle.ev_integer.specs.declared.arithmetic.NumFault.{NumFault}
use Rattle.ev_prims.specs.Answers.{number_answer, char_answer, int_alone, int_joined, int_answer, joined, flag_joined, flag_answer, letter_answer, size_answer, member_answer, place_answer, got, letter_at, got_letter, letters_between, text_ran, text_and, text_with, text_formed, text_answer, members_between, list_ran, list_and, list_with, list_formed, list_answer, data_answer}
use Rattle.ev_prims.specs.Forms.{form_of}
use Rattle.ev_prims.specs.Verbs.{picked, code_of, alone_named, operation_named, joining_named, text_verb_named, list_verb_named}
use Rattle.ev_prims.specs.declared.flags.Joining.{Joining}
use Rattle.ev_prims.specs.declared.integers.AloneVerb.{AloneVerb}
use Rattle.ev_prims.specs.declared.integers.AloneVerb.TheVariants.{Negate, ToChar}
use Rattle.ev_prims.specs.declared.problem.Problem.TheVariants.{NoMethod}
use Rattle.ev_prims.specs.declared.reply.Reply.{Reply}
use Rattle.ev_prims.specs.declared.reply.Reply.TheVariants.{Says, Writes, Lists, Iterates, Fails}
use Rattle.ev_prims.specs.declared.verbs.SeqVerb.{SeqVerb}
use Rattle.ev_prims.specs.declared.verbs.SeqVerb.TheVariants as seq

-- ---- facts of values

-- each of these values is so
abbrev pub AllOf : (Value → Type 0) → List Value → Type 0
AllOf P [] = Unit {0}
AllOf P (v ∷ vs) = P v × AllOf P vs

-- the values of an answer are so
abbrev pub Fits : (Value → Type 0) → Reply → Type 0
Fits P (Says v) = P v
Fits P (Writes u) = Unit {0}
Fits P (Lists vs) = AllOf P vs
Fits P (Iterates f vs) = P f × AllOf P vs
Fits P (Fails p) = Unit {0}

-- a fact of integers, booleans and characters
pub record IsOfData (P : Value → Type 0) : Type 0 where
  pub int : (z : ℤ) → P (held.Int z)
  pub flag : (b : Bool) → P (held.Bool b)
  pub char : (c : ℕ) → P (held.Char c)

module _ (P : Value → Type 0) (d : IsOfData P) where
  fits_picked : (name : Words) (r : Reply) (verb : Words) → Fits P r → Fits P (picked ((name, r) ∷ []) (Fails NoMethod) verb)
  fits_picked name r verb f = chosen (bytes_eq verb name) r f
    where
      chosen : (b : Bool) (r : Reply) → Fits P r → Fits P (if b then r else Fails NoMethod)
      chosen true r f = f
      chosen false r f = tt

  fits_number : (r : Result ℤ NumFault) → Fits P (number_answer r)
  fits_number (Ok z) = d.int z
  fits_number (Err e) = tt

  fits_char : (o : Option ℕ) → Fits P (char_answer o)
  fits_char (Some c) = d.char c
  fits_char None = tt

  fits_alone : (o : Option AloneVerb) (a : ℤ) → Fits P (int_alone o a)
  unfolding int_alone
  fits_alone (Some Negate) a = fits_number (apply Subtract (pos 0) a)
  fits_alone (Some ToChar) a = fits_char (code_of a)
  fits_alone None a = tt

  fits_joined : (o : Option IntOp) (a : ℤ) (x : Value) → Fits P (int_joined o a x)
  unfolding int_joined
  fits_joined (Some op) a (held.Int b) = fits_number (apply op a b)
  fits_joined (Some op) a _ = tt
  fits_joined None a x = tt

  fits_int : (a : ℤ) (verb : Words) (xs : List Value) → Fits P (int_answer a verb xs)
  unfolding int_answer
  fits_int a verb [] = fits_alone (alone_named verb) a
  fits_int a verb (x ∷ []) = fits_joined (operation_named verb) a x
  fits_int a verb (x ∷ y ∷ ys) = tt

  fits_flags : (o : Option Joining) (a : Bool) (x : Value) → Fits P (flag_joined o a x)
  unfolding flag_joined
  fits_flags (Some j) a (held.Bool b) = d.flag (joined j a b)
  fits_flags (Some j) a _ = tt
  fits_flags None a x = tt

  fits_flag : (a : Bool) (verb : Words) (xs : List Value) → Fits P (flag_answer a verb xs)
  unfolding flag_answer
  fits_flag a verb [] = fits_picked (codes "not") (Says (held.Bool (not a))) verb (d.flag (not a))
  fits_flag a verb (x ∷ []) = fits_flags (joining_named verb) a x
  fits_flag a verb (x ∷ y ∷ ys) = tt

  fits_letter : (c : ℕ) (verb : Words) (xs : List Value) → Fits P (letter_answer c verb xs)
  unfolding letter_answer
  fits_letter c verb [] = fits_picked (codes "asInteger") (Says (held.Int (pos c))) verb (d.int (pos c))
  fits_letter c verb (x ∷ xs) = tt

  fits_size : (n : ℕ) (verb : Words) → Fits P (size_answer n verb)
  unfolding size_answer
  fits_size n verb = fits_picked (codes "size") (Says (held.Int (pos n))) verb (d.int (pos n))

  -- ---- members

  there_at : (vs : List Value) (i : ℕ) → AllOf P vs → Fits P (member_answer (slice_get vs i))
  there_at [] i t = tt
  there_at (v ∷ vs) zero t = t.0
  there_at (v ∷ vs) (suc i) t = there_at vs i t.1

  fits_place : (vs : List Value) (o : Option ℕ) → AllOf P vs → Fits P (place_answer vs o)
  fits_place vs (Some i) t = there_at vs i t
  fits_place vs None t = tt

  fits_got : (vs : List Value) (x : Value) → AllOf P vs → Fits P (got vs x)
  unfolding got
  fits_got vs (held.Int z) t = fits_place vs (native.index_in (length vs) z) t
  fits_got vs _ t = tt

  there_joined : (vs ws : List Value) → AllOf P vs → AllOf P ws → AllOf P (vs ++ ws)
  there_joined [] ws t u = u
  there_joined (v ∷ vs) ws t u =
      (t.0, there_joined vs ws t.1 u)

  there_part : (i n : ℕ) (vs : List Value) → AllOf P vs → AllOf P (native.part_of i n vs)
  unfolding native.part_of
  there_part zero n [] t = tt
  there_part (suc i) n [] t = tt
  there_part (suc i) n (v ∷ vs) t = there_part i n vs t.1
  there_part zero zero (v ∷ vs) t = tt
  there_part zero (suc n) (v ∷ vs) t =
      (t.0, there_part zero n vs t.1)

  fits_between : (vs : List Value) (o : Option (ℕ × ℕ)) → AllOf P vs → Fits P (members_between vs o)
  fits_between vs (Some r) t = there_part r.0 r.1 vs t
  fits_between vs None t = tt

  fits_list_ran : (vs : List Value) (i j : Value) → AllOf P vs → Fits P (list_ran vs i j)
  unfolding list_ran
  fits_list_ran vs (held.Int a) (held.Int b) t = fits_between vs (native.range_in (length vs) a b) t
  fits_list_ran vs (held.Int a) _ t = tt
  fits_list_ran vs _ j t = tt

  -- ---- characters

  letters_there : (cs : List ℕ) → AllOf P (map held.Char cs)
  letters_there [] = tt
  letters_there (c ∷ cs) = (d.char c, letters_there cs)

  fits_letter_at : (cs : List ℕ) (o : Option ℕ) → Fits P (letter_at cs o)
  fits_letter_at cs None = tt
  fits_letter_at cs (Some i) = one (slice_get cs i)
    where
      one : (o : Option ℕ) → Fits P (member_answer (option_map held.Char o))
      one (Some c) = d.char c
      one None = tt

  fits_got_letter : (cs : List ℕ) (x : Value) → Fits P (got_letter cs x)
  unfolding got_letter
  fits_got_letter cs (held.Int z) = fits_letter_at cs (native.index_in (length cs) z)
  fits_got_letter cs _ = tt

  fits_letters : (cs : List ℕ) (o : Option (ℕ × ℕ)) → Fits P (letters_between cs o)
  fits_letters cs (Some r) = tt
  fits_letters cs None = tt

  fits_text_ran : (cs : List ℕ) (i j : Value) → Fits P (text_ran cs i j)
  unfolding text_ran
  fits_text_ran cs (held.Int a) (held.Int b) = fits_letters cs (native.range_in (length cs) a b)
  fits_text_ran cs (held.Int a) _ = tt
  fits_text_ran cs _ j = tt

  fits_text_and : (t : ℕ → Words) (u : Words) (x : Value) → Fits P (text_and t u x)
  unfolding text_and
  fits_text_and t u (held.Bool true) = tt
  fits_text_and t u (held.Bool false) = tt
  fits_text_and t u _ = tt

  fits_text_with : (t : ℕ → Words) (o : Option SeqVerb) (u : Words) (a x : Value) → P a → Fits P (text_with t o u a x)
  unfolding text_with
  fits_text_with t (Some seq.Get) u a x i = fits_got_letter (chars u) x
  fits_text_with t (Some seq.Add) u a x i = fits_text_and t u x
  fits_text_with t (Some seq.Iterate) u a x i = (i, letters_there (chars u))
  fits_text_with t (Some seq.With) u a x i = tt
  fits_text_with t None u a x i = tt

  fits_text : (t : ℕ → Words) (u verb : Words) (hs xs : List Value) → AllOf P hs → Fits P (text_answer t u verb hs xs)
  unfolding form_of text_formed
  fits_text t u verb [] xs i = fits_size (length (chars u)) verb
  fits_text t u verb (a ∷ []) [] i = tt
  fits_text t u verb (a ∷ []) (x ∷ []) i = fits_text_with t (text_verb_named verb) u a x i.0
  fits_text t u verb (a ∷ []) (x ∷ y ∷ []) i = fits_picked (codes "run") (text_ran (chars u) x y) verb (fits_text_ran (chars u) x y)
  fits_text t u verb (a ∷ []) (x ∷ y ∷ z ∷ xs) i = tt
  fits_text t u verb (a ∷ b ∷ hs) [] i = tt
  fits_text t u verb (a ∷ b ∷ hs) (x ∷ []) i = tt
  fits_text t u verb (a ∷ b ∷ hs) (x ∷ y ∷ []) i = fits_picked (codes "run") (text_ran (chars u) x y) verb (fits_text_ran (chars u) x y)
  fits_text t u verb (a ∷ b ∷ hs) (x ∷ y ∷ z ∷ xs) i = tt

  -- where the members of each list stand there
  module _ (m : ℕ → List Value) (each : (k : ℕ) → AllOf P (m k)) where
    fits_list_and : (vs : List Value) (x : Value) → AllOf P vs → Fits P (list_and m vs x)
    unfolding list_and
    fits_list_and vs (held.List k) t = there_joined vs (m k) t (each k)
    fits_list_and vs _ t = tt

    fits_list_with : (o : Option SeqVerb) (vs : List Value) (a x : Value) → AllOf P vs → P a → Fits P (list_with m o vs a x)
    unfolding list_with
    fits_list_with (Some seq.Get) vs a x t i = fits_got vs x t
    fits_list_with (Some seq.Add) vs a x t i = fits_list_and vs x t
    fits_list_with (Some seq.With) vs a x t i = there_joined vs (a ∷ []) t (i, tt)
    fits_list_with (Some seq.Iterate) vs a x t i = (i, t)
    fits_list_with None vs a x t i = tt

    fits_list : (vs : List Value) (verb : Words) (hs xs : List Value) → AllOf P vs → AllOf P hs → Fits P (list_answer m vs verb hs xs)
    unfolding form_of list_formed
    fits_list vs verb [] xs t i = fits_size (length vs) verb
    fits_list vs verb (a ∷ []) [] t i = tt
    fits_list vs verb (a ∷ []) (x ∷ []) t i = fits_list_with (list_verb_named verb) vs a x t i.0
    fits_list vs verb (a ∷ []) (x ∷ y ∷ []) t i = fits_picked (codes "run") (list_ran vs x y) verb (fits_list_ran vs x y t)
    fits_list vs verb (a ∷ []) (x ∷ y ∷ z ∷ xs) t i = tt
    fits_list vs verb (a ∷ b ∷ hs) [] t i = tt
    fits_list vs verb (a ∷ b ∷ hs) (x ∷ []) t i = tt
    fits_list vs verb (a ∷ b ∷ hs) (x ∷ y ∷ []) t i = fits_picked (codes "run") (list_ran vs x y) verb (fits_list_ran vs x y t)
    fits_list vs verb (a ∷ b ∷ hs) (x ∷ y ∷ z ∷ xs) t i = tt

    pub fits_data : (t : ℕ → Words) (x : Value) (verb : Words) (hs xs : List Value) → AllOf P hs → Fits P (data_answer t m x verb hs xs)
    unfolding data_answer
    fits_data t (held.Int a) verb hs xs i = fits_int a verb xs
    fits_data t (held.Bool b) verb hs xs i = fits_flag b verb xs
    fits_data t (held.Char c) verb hs xs i = fits_letter c verb xs
    fits_data t (held.Text id) verb hs xs i = fits_text t (t id) verb hs xs i
    fits_data t (held.List k) verb hs xs i = fits_list (m k) verb hs xs (each k) i
    fits_data t _ verb hs xs i = tt

-- ---- two readings of the texts

-- two readings have one text here
abbrev pub Alike : (ℕ → Words) → (ℕ → Words) → Value → Type 0
Alike t u (held.Text id) = t id ≡ u id
Alike t u _ = Unit {0}

abbrev pub AllAlike : (ℕ → Words) → (ℕ → Words) → List Value → Type 0
AllAlike t u [] = Unit {0}
AllAlike t u (x ∷ xs) = Alike t u x × AllAlike t u xs

module _ (t u : ℕ → Words) where
  and_alike : (s : Words) (x : Value) → Alike t u x → text_and t s x ≡ text_and u s x
  unfolding text_and
  and_alike s (held.Text id) e = ap (λ (v : Words). Writes (s ++ v)) e
  and_alike s (held.Bool true) e = refl
  and_alike s (held.Bool false) e = refl
  and_alike s _ e = refl

  with_alike : (o : Option SeqVerb) (s : Words) (a x : Value) → Alike t u x → text_with t o s a x ≡ text_with u o s a x
  unfolding text_with
  with_alike (Some seq.Get) s a x e = refl
  with_alike (Some seq.Add) s a x e = and_alike s x e
  with_alike (Some seq.Iterate) s a x e = refl
  with_alike (Some seq.With) s a x e = refl
  with_alike None s a x e = refl

  text_alike : (s verb : Words) (hs xs : List Value) → AllAlike t u xs → text_answer t s verb hs xs ≡ text_answer u s verb hs xs
  unfolding form_of text_formed
  text_alike s verb [] xs e = refl
  text_alike s verb (a ∷ []) [] e = refl
  text_alike s verb (a ∷ []) (x ∷ []) e = with_alike (text_verb_named verb) s a x e.0
  text_alike s verb (a ∷ []) (x ∷ y ∷ []) e = refl
  text_alike s verb (a ∷ []) (x ∷ y ∷ z ∷ xs) e = refl
  text_alike s verb (a ∷ b ∷ hs) [] e = refl
  text_alike s verb (a ∷ b ∷ hs) (x ∷ []) e = refl
  text_alike s verb (a ∷ b ∷ hs) (x ∷ y ∷ []) e = refl
  text_alike s verb (a ∷ b ∷ hs) (x ∷ y ∷ z ∷ xs) e = refl

  pub data_alike : (m : ℕ → List Value) (x : Value) (verb : Words) (hs xs : List Value) → Alike t u x → AllAlike t u xs → data_answer t m x verb hs xs ≡ data_answer u m x verb hs xs
  unfolding data_answer
  data_alike m (held.Text id) verb hs xs e es = ap (λ (s : Words). text_answer t s verb hs xs) e ∙ text_alike (u id) verb hs xs es
  data_alike m _ verb hs xs e es = refl
