-- What texts and lists answer, case by case.
use Rattle.std.proofs.Common.{◌≡◌, ℕ, zero, suc, ◌<◌, ℤ, List, [], ◌∷◌, ◌++◌, length, get_or, take, drop, Option, Some, None, Result, Ok, Err, IfOk, refl, ap, sym, ◌∙◌}
use Rattle.std.specs.Prelude.{codes, map, option_map, slice_get, chars, unwrap_or}
use Rattle.std.proofs.lemmas.List.{length-map}
use Rattle.std.proofs.lemmas.Option.{slice_get-map, slice_get-get_or}
use Rattle.ev_base.specs.declared.values.Value.{Value as Held}
use Rattle.ev_base.specs.declared.values.Value.TheVariants as held
use Rattle.ev_heap.specs.Contents.{Contents}
use Rattle.ev_heap.specs.declared.kept.Listed.{Listed}
use Rattle.def_machine.specs.Values.{Words, Value, Number, Letter, Prim, Items, Local}
use Rattle.def_machine.specs.Native.{Reply, Says, Writes, Lists, Iterates, Fails, no_method, part_of, index_in, range_in, got_at, got, ran_at, ran, encoded, text_with, text_reply, text_and, list_at, list_and, list_with, list_reply, text_verb, list_verb}
use Rattle.ev_base.specs.declared.memory.Memory.{Memory}
use Rattle.ev_prims.specs.declared.reply.Reply.{Reply as Answer}
use Rattle.ev_prims.specs.Answers.{members_at}
use Rattle.ev_prims.specs.Reading.{text_in, value_in, values_in, members_in, lists_in, reply_in}
use Rattle.ev_prims.specs.Sequences.{size_said, run_said}
use Rattle.ev_prims.specs.Forms.{form_of}
use Rattle.ev_prims.specs.Verbs.{text_verb_named, list_verb_named}
use Rattle.ev_prims.specs.declared.forms.Form.{Form}
use Rattle.ev_prims.specs.declared.forms.Form.TheVariants as form
use Rattle.ev_prims.specs.declared.verbs.SeqVerb.TheVariants as seq
use Rattle.ev_prims.proofs.VerbLemmas.{text_verb_at, list_verb_at}

module _ {A : Type 0} (f : A → Value Local) where
  at_place : (o : Option A) (x : A) → o ≡ Some x → ◌≡◌ {A = Reply Local} (elim o [ Some y ↦ Says (f y) | None ↦ Fails (codes "out of range") ]) (Says (f x))
  at_place (Some y) x e = let g : y ≡ x = cc in ap (λ z. Says (f z)) g
  at_place None x e = absurd (cc)

  at_none : (o : Option A) → o ≡ None → ◌≡◌ {A = Reply Local} (elim o [ Some y ↦ Says (f y) | None ↦ Fails (codes "out of range") ]) (Fails (codes "out of range"))
  at_none (Some y) e = absurd (cc)
  at_none None e = refl

  -- the member at an index
  pub got_here : (xs : List A) (z : ℤ) (i : ℕ) (x : A) → index_in (length xs) z ≡ Some i → slice_get xs i ≡ Some x → got f xs (Number z) ≡ Says (f x)
  unfolding got got_at
  got_here xs z i x e g = ap (got_at f xs) e ∙ at_place (slice_get xs i) x g

  pub got_past : (xs : List A) (z : ℤ) (i : ℕ) → index_in (length xs) z ≡ Some i → slice_get xs i ≡ None → got f xs (Number z) ≡ Fails (codes "out of range")
  unfolding got got_at
  got_past xs z i e g = ap (got_at f xs) e ∙ at_none (slice_get xs i) g

  pub got_nowhere : (xs : List A) (z : ℤ) → index_in (length xs) z ≡ None → got f xs (Number z) ≡ Fails (codes "out of range")
  unfolding got got_at
  got_nowhere xs z e = ap (got_at f xs) e

-- the members from an index to before another
pub ran_here : {A : Type 0} (f : List A → Reply Local) (xs : List A) (a b : ℤ) (i n : ℕ) → range_in (length xs) a b ≡ Some (i, n) → ran f xs (Number a) (Number b) ≡ f (part_of i n xs)
unfolding ran ran_at
ran_here f xs a b i n e = ap (ran_at f xs) e

pub ran_nowhere : {A : Type 0} (f : List A → Reply Local) (xs : List A) (a b : ℤ) → range_in (length xs) a b ≡ None → ran f xs (Number a) (Number b) ≡ Fails (codes "out of range")
unfolding ran ran_at
ran_nowhere f xs a b e = ap (ran_at f xs) e

-- ---- texts

pub letters_are : (h : Contents) (cs : List ℕ) → values_in h (map held.Char cs) ≡ map Letter cs
letters_are h [] = refl
letters_are h (c ∷ cs) = ap (λ ys. Letter c ∷ ys) (letters_are h cs)

module _ (verb t : Words) (a x : Value Local) where
  pub text_gets : text_verb_named verb ≡ Some seq.Get → text_with (text_verb verb) t a x ≡ got Letter (chars t) x
  unfolding text_with
  text_gets e = ap (λ v. text_with v t a x) (text_verb_at verb (Some seq.Get) e)

  pub text_adds : text_verb_named verb ≡ Some seq.Add → text_with (text_verb verb) t a x ≡ text_and t x
  unfolding text_with
  text_adds e = ap (λ v. text_with v t a x) (text_verb_at verb (Some seq.Add) e)

  pub text_steps : text_verb_named verb ≡ Some seq.Iterate → text_with (text_verb verb) t a x ≡ Iterates a (map Letter (chars t))
  unfolding text_with
  text_steps e = ap (λ v. text_with v t a x) (text_verb_at verb (Some seq.Iterate) e)

  pub text_adds_none : text_verb_named verb ≡ Some seq.With → text_with (text_verb verb) t a x ≡ Fails (codes "no method")
  unfolding text_with no_method
  text_adds_none e = ap (λ v. text_with v t a x) (text_verb_at verb (Some seq.With) e)

  pub text_has_none : text_verb_named verb ≡ None → text_with (text_verb verb) t a x ≡ Fails (codes "no method")
  unfolding text_with no_method
  text_has_none e = ap (λ v. text_with v t a x) (text_verb_at verb None e)

-- what a text answers, by how many arguments there are
abbrev formed : Contents → Words → Words → Form → Reply Local
formed h t verb form.Alone = size_said (length (chars t)) verb
formed h t verb (form.One a x) = text_with (text_verb verb) t (value_in h a) (value_in h x)
formed h t verb (form.Two i j) = run_said (ran (λ cs. Writes (encoded cs)) (chars t) (value_in h i) (value_in h j)) verb
formed h t verb form.Other = Fails (codes "no method")

text_formed : (h : Contents) (t verb : Words) (hs xs : List Held) → text_reply t verb (values_in h hs) (values_in h xs) ≡ formed h t verb (form_of hs xs)
unfolding text_reply no_method form_of
text_formed h t verb [] xs = refl
text_formed h t verb (a ∷ []) [] = refl
text_formed h t verb (a ∷ []) (x ∷ []) = refl
text_formed h t verb (a ∷ []) (x ∷ y ∷ []) = refl
text_formed h t verb (a ∷ []) (x ∷ y ∷ z ∷ xs) = refl
text_formed h t verb (a ∷ b ∷ hs) [] = refl
text_formed h t verb (a ∷ b ∷ hs) (x ∷ []) = refl
text_formed h t verb (a ∷ b ∷ hs) (x ∷ y ∷ []) = refl
text_formed h t verb (a ∷ b ∷ hs) (x ∷ y ∷ z ∷ xs) = refl

module _ (h : Contents) (t verb : Words) (hs xs : List Held) where
  pub text_alone : form_of hs xs ≡ form.Alone → text_reply t verb (values_in h hs) (values_in h xs) ≡ size_said (length (chars t)) verb
  text_alone e = text_formed h t verb hs xs ∙ ap (formed h t verb) e

  pub text_one : (a x : Held) → form_of hs xs ≡ form.One a x
      → text_reply t verb (values_in h hs) (values_in h xs) ≡ text_with (text_verb verb) t (value_in h a) (value_in h x)
  text_one a x e = text_formed h t verb hs xs ∙ ap (formed h t verb) e

  pub text_two : (i j : Held) → form_of hs xs ≡ form.Two i j
      → text_reply t verb (values_in h hs) (values_in h xs) ≡ run_said (ran (λ cs. Writes (encoded cs)) (chars t) (value_in h i) (value_in h j)) verb
  text_two i j e = text_formed h t verb hs xs ∙ ap (formed h t verb) e

  pub text_other : form_of hs xs ≡ form.Other → text_reply t verb (values_in h hs) (values_in h xs) ≡ Fails (codes "no method")
  text_other e = text_formed h t verb hs xs ∙ ap (formed h t verb) e

-- ---- lists

-- a part of what stands for a list stands for that part
pub part_of_map : {A B : Type 0} (f : A → B) (i n : ℕ) (xs : List A) → part_of i n (map f xs) ≡ map f (part_of i n xs)
unfolding part_of
part_of_map f zero n [] = refl
part_of_map f (suc i) n [] = refl
part_of_map f zero zero (x ∷ xs) = refl
part_of_map f zero (suc n) (x ∷ xs) = ap (λ ys. f x ∷ ys) (part_of_map f zero n xs)
part_of_map f (suc i) n (x ∷ xs) = part_of_map f i n xs

pub part_is : {A : Type 0} (i n : ℕ) (xs : List A) → part_of i n xs ≡ take n (drop i xs)
unfolding part_of
part_is zero zero [] = refl
part_is zero (suc n) [] = refl
part_is (suc i) zero [] = refl
part_is (suc i) (suc n) [] = refl
part_is zero zero (x ∷ xs) = refl
part_is zero (suc n) (x ∷ xs) = ap (λ ys. x ∷ ys) (part_is zero n xs)
part_is (suc i) n (x ∷ xs) = part_is i n xs

module _ (h : Contents) where
  found : (o : Option Listed) (ms : List Held) → option_map (λ (l : Listed). l.members) o ≡ Some ms → elim (option_map (members_in h) o) [ Some vs ↦ vs | None ↦ [] ] ≡ values_in h ms
  found (Some l) ms e = let f : Some l.members ≡ Some ms = e in let g : l.members ≡ ms = cc in ap (values_in h) g
  found None ms e = absurd (cc)

  -- the members of a list
  pub list_is : (k : ℕ) (ms : List Held) → option_map (λ (l : Listed). l.members) (slice_get h.lists k) ≡ Some ms → list_at (lists_in h) k ≡ values_in h ms
  unfolding list_at
  list_is k ms e =
      ap (λ o. elim o [ Some vs ↦ vs | None ↦ [] ]) (slice_get-map (members_in h) h.lists k) ∙ found (slice_get h.lists k) ms e

-- the index of a list is that of what stands for it
module _ (g : Held → Value Local) (ms : List Held) where
  index_of : (z : ℤ) (o : Option ℕ) → index_in (length ms) z ≡ o → index_in (length (map g ms)) z ≡ o
  index_of z o e = ap (λ n. index_in n z) (length-map ms g) ∙ e

  range_of : (a b : ℤ) (o : Option (ℕ × ℕ)) → range_in (length ms) a b ≡ o → range_in (length (map g ms)) a b ≡ o
  range_of a b o e = ap (λ n. range_in n a b) (length-map ms g) ∙ e

  pub list_got_here : (z : ℤ) (i : ℕ) (v : Held) → index_in (length ms) z ≡ Some i → i < length ms → v ≡ get_or ms i v
      → got (λ (x : Value Local). x) (map g ms) (Number z) ≡ Says (g v)
  list_got_here z i v e l h =
      got_here (λ (x : Value Local). x) (map g ms) z i (g v) (index_of z (Some i) e)
      (slice_get-map g ms i ∙ ap (option_map g) (slice_get-get_or ms i v l ∙ ap Some (sym h)))

  pub list_got_nowhere : (z : ℤ) → index_in (length ms) z ≡ None → got (λ (x : Value Local). x) (map g ms) (Number z) ≡ Fails (codes "out of range")
  list_got_nowhere z e = got_nowhere (λ (x : Value Local). x) (map g ms) z (index_of z None e)

  pub list_ran_here : (a b : ℤ) (i n : ℕ) → range_in (length ms) a b ≡ Some (i, n) → ran Lists (map g ms) (Number a) (Number b) ≡ Lists (map g (part_of i n ms))
  list_ran_here a b i n e = ran_here Lists (map g ms) a b i n (range_of a b (Some (i, n)) e) ∙ ap Lists (part_of_map g i n ms)

  pub list_ran_nowhere : (a b : ℤ) → range_in (length ms) a b ≡ None → ran Lists (map g ms) (Number a) (Number b) ≡ Fails (codes "out of range")
  list_ran_nowhere a b e = ran_nowhere Lists (map g ms) a b (range_of a b None e)

pub joined_values : (h : Contents) (xs ys : List Held) → values_in h (xs ++ ys) ≡ values_in h xs ++ values_in h ys
joined_values h [] ys = refl
joined_values h (x ∷ xs) ys = ap (λ zs. value_in h x ∷ zs) (joined_values h xs ys)

-- a list with another behind it
pub list_and_list : (h : Contents) (ms more : List Held) (k : ℕ) → option_map (λ (l : Listed). l.members) (slice_get h.lists k) ≡ Some more
    → list_and (lists_in h) (values_in h ms) (Items k) ≡ Lists (values_in h (ms ++ more))
unfolding list_and
list_and_list h ms more k e = ap (λ xs. Lists (values_in h ms ++ xs)) (list_is h k more e) ∙ ap Lists (sym (joined_values h ms more))

module _ (ls : List (List (Value Local))) (verb : Words) (vs : List (Value Local)) (a x : Value Local) where
  pub list_gets : list_verb_named verb ≡ Some seq.Get → list_with ls (list_verb verb) vs a x ≡ got (λ (v : Value Local). v) vs x
  unfolding list_with
  list_gets e = ap (λ v. list_with ls v vs a x) (list_verb_at verb (Some seq.Get) e)

  pub list_adds : list_verb_named verb ≡ Some seq.Add → list_with ls (list_verb verb) vs a x ≡ list_and ls vs x
  unfolding list_with
  list_adds e = ap (λ v. list_with ls v vs a x) (list_verb_at verb (Some seq.Add) e)

  pub list_adds_one : list_verb_named verb ≡ Some seq.With → list_with ls (list_verb verb) vs a x ≡ Lists (vs ++ a ∷ [])
  unfolding list_with
  list_adds_one e = ap (λ v. list_with ls v vs a x) (list_verb_at verb (Some seq.With) e)

  pub list_steps : list_verb_named verb ≡ Some seq.Iterate → list_with ls (list_verb verb) vs a x ≡ Iterates a vs
  unfolding list_with
  list_steps e = ap (λ v. list_with ls v vs a x) (list_verb_at verb (Some seq.Iterate) e)

  pub list_has_none : list_verb_named verb ≡ None → list_with ls (list_verb verb) vs a x ≡ Fails (codes "no method")
  unfolding list_with no_method
  list_has_none e = ap (λ v. list_with ls v vs a x) (list_verb_at verb None e)

-- what a list answers, by how many arguments there are
abbrev list_formed : Contents → List (List (Value Local)) → List (Value Local) → Words → Form → Reply Local
list_formed h ls vs verb form.Alone = size_said (length vs) verb
list_formed h ls vs verb (form.One a x) = list_with ls (list_verb verb) vs (value_in h a) (value_in h x)
list_formed h ls vs verb (form.Two i j) = run_said (ran Lists vs (value_in h i) (value_in h j)) verb
list_formed h ls vs verb form.Other = Fails (codes "no method")

list_by_form : (h : Contents) (ls : List (List (Value Local))) (vs : List (Value Local)) (verb : Words) (hs xs : List Held)
    → list_reply ls vs verb (values_in h hs) (values_in h xs) ≡ list_formed h ls vs verb (form_of hs xs)
unfolding list_reply no_method form_of
list_by_form h ls vs verb [] xs = refl
list_by_form h ls vs verb (a ∷ []) [] = refl
list_by_form h ls vs verb (a ∷ []) (x ∷ []) = refl
list_by_form h ls vs verb (a ∷ []) (x ∷ y ∷ []) = refl
list_by_form h ls vs verb (a ∷ []) (x ∷ y ∷ z ∷ xs) = refl
list_by_form h ls vs verb (a ∷ b ∷ hs) [] = refl
list_by_form h ls vs verb (a ∷ b ∷ hs) (x ∷ []) = refl
list_by_form h ls vs verb (a ∷ b ∷ hs) (x ∷ y ∷ []) = refl
list_by_form h ls vs verb (a ∷ b ∷ hs) (x ∷ y ∷ z ∷ xs) = refl

module _ (h : Contents) (ls : List (List (Value Local))) (ms : List Held) (verb : Words) (hs xs : List Held) where
  pub list_alone : form_of hs xs ≡ form.Alone → list_reply ls (values_in h ms) verb (values_in h hs) (values_in h xs) ≡ size_said (length ms) verb
  list_alone e =
      list_by_form h ls (values_in h ms) verb hs xs ∙ ap (list_formed h ls (values_in h ms) verb) e
      ∙ ap (λ n. size_said n verb) (length-map ms (value_in h))

  pub list_one : (a x : Held) → form_of hs xs ≡ form.One a x
      → list_reply ls (values_in h ms) verb (values_in h hs) (values_in h xs) ≡ list_with ls (list_verb verb) (values_in h ms) (value_in h a) (value_in h x)
  list_one a x e = list_by_form h ls (values_in h ms) verb hs xs ∙ ap (list_formed h ls (values_in h ms) verb) e

  pub list_two : (i j : Held) → form_of hs xs ≡ form.Two i j
      → list_reply ls (values_in h ms) verb (values_in h hs) (values_in h xs) ≡ run_said (ran Lists (values_in h ms) (value_in h i) (value_in h j)) verb
  list_two i j e = list_by_form h ls (values_in h ms) verb hs xs ∙ ap (list_formed h ls (values_in h ms) verb) e

  pub list_other : form_of hs xs ≡ form.Other → list_reply ls (values_in h ms) verb (values_in h hs) (values_in h xs) ≡ Fails (codes "no method")
  list_other e = list_by_form h ls (values_in h ms) verb hs xs ∙ ap (list_formed h ls (values_in h ms) verb) e

-- what is answered, unless memory ran out
pub answered : (h : Contents) (r : Result Answer Memory) (a b : Reply Local) → a ≡ b → IfOk r (λ (t : Answer). reply_in h t ≡ a) → IfOk r (λ (t : Answer). reply_in h t ≡ b)
answered h (Ok t) a b e i = i ∙ e
answered h (Err m) a b e i = tt

pub answered_anywhere : (h : Contents) (r : Result Answer Memory) (a : Contents → Reply Local) (b : Reply Local) → a h ≡ b
    → IfOk r (λ (t : Answer). (k : Contents) → reply_in k t ≡ a k) → IfOk r (λ (t : Answer). reply_in h t ≡ b)
answered_anywhere h (Ok t) a b e i = i h ∙ e
answered_anywhere h (Err m) a b e i = tt

-- ---- what is there

pub member_at : (vs : List Held) (i : ℕ) (v : Held) → i < length vs → v ≡ get_or vs i v → slice_get vs i ≡ Some v
member_at vs i v l h = slice_get-get_or vs i v l ∙ ap Some (sym h)

pub members_here : (h : Contents) (k : ℕ) (ms : List Held) → option_map (λ (l : Listed). l.members) (slice_get h.lists k) ≡ Some ms → members_at h k ≡ ms
members_here h k ms e = ap (λ (o : Option (List Held)). unwrap_or o []) e

pub text_here : (h : Contents) (id : ℕ) (u : Words) → slice_get h.texts id ≡ Some u → text_in h id ≡ u
text_here h id u e = ap (λ (o : Option Words). unwrap_or o []) e
