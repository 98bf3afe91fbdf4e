-- What is written is read.
use Rattle.std.proofs.Common.{◌≡◌, ℕ, zero, suc, Bool, true, false, List, [], ◌∷◌, ◌++◌, Option, Some, None, refl, sym, ap, subst, ◌∙◌, ◌⊎◌, inl, inr, length, ◌==◌, append_assoc}
use Rattle.std.specs.Prelude.{slice_get}
use Rattle.std.proofs.lemmas.Bool.{eq-eqb}
use Rattle.def_op.specs.Frames as op
use Rattle.def_op.specs.Frames.{Described, Members, Operation}
use Rattle.def_machine.specs.Values.{Value, Items, Ref, Name, host_of, same_name, key, word_of}
use Rattle.def_machine.specs.State.{Passed, Passeds, Plain, AGift, Many, NoMore, More, Note, Deliver, Open, Ask, SettledTo, Elsewhere, Shorten}
use Rattle.def_machine.specs.Arrive.{Incoming, Old, New}
use Rattle.def_run.specs.Connections as read
use Rattle.def_run.specs.Connections.{Connection, Stage, Newcomers, Heard, Hearing, stands_in, place_in}
use Rattle.def_run.specs.Wire.{sight, is_object}
use Rattle.law_machine.proofs.Machine.StepLaws.{get_append}
use Rattle.law_fate.proofs.Name.SameNames.{same_is, same_self}
use Rattle.law_frame.specs.Frame.Growing.{IsFront}
use Rattle.law_frame.specs.Frame.Reads as seen
use Rattle.law_frame.specs.Frame.Reads.{found, after_that, IsNumbered, IsRead, ValueFits, PassedFits, AllFit, NoteFits, Brings, WhatIsWrittenIsRead}
use Rattle.law_frame.proofs.Frame.Lists.{front_same, front_more, front_trans}

true_false : (b : Bool) → b ≡ true → b ≡ false → ⊥
true_false b e f = cc

none_end : {A : Type 0} (xs : List A) → slice_get xs (length xs) ≡ None
none_end [] = refl
none_end (x ∷ xs) = none_end xs

same_length : (k : ℕ) → (k == k) ≡ true
same_length k = eq-eqb k k refl

module _ (v u : ℕ) where
  -- ---- numbers

  abbrev In : List Name → Name → Bool
  In ns n = stands_in (sight v u) ns n

  abbrev At : List Name → Name → ℕ
  At ns n = place_in (sight v u) ns n

  in_or : (b : Bool) (ms : List Name) (n : Name) → elim b [ true ↦ true | false ↦ In ms n ] ≡ true → (b ≡ true) ⊎ (In ms n ≡ true)
  in_or true ms n e = inl refl
  in_or false ms n e = inr e

  get_or : (b : Bool) (m n : Name) (ms : List Name) (k : ℕ) → (b ≡ true → m ≡ n) → (b ≡ false → slice_get ms k ≡ Some n) → slice_get (m ∷ ms) (elim b [ true ↦ zero | false ↦ suc k ]) ≡ Some n
  get_or true m n ms k f g = ap Some (f refl)
  get_or false m n ms k f g = g refl

  rest_in : (b : Bool) (ms : List Name) (n : Name) → b ≡ false → elim b [ true ↦ true | false ↦ In ms n ] ≡ true → In ms n ≡ true
  rest_in true ms n e h = cc
  rest_in false ms n e h = h

  get_place : (ns : List Name) (n : Name) → In ns n ≡ true → slice_get ns (At ns n) ≡ Some n
  unfolding stands_in place_in sight
  get_place [] n e = cc
  get_place (m ∷ ms) n e = get_or (same_name m n) m n ms (At ms n) (λ f. same_is m n f) (λ f. get_place ms n (rest_in (same_name m n) ms n f e))

  front_or : (b : Bool) (ns more : List Name) (n : Name) → (b ≡ false → In (ns ++ more) n ≡ true) → elim b [ true ↦ true | false ↦ In (ns ++ more) n ] ≡ true
  front_or true ns more n f = refl
  front_or false ns more n f = f refl

  in_front : (ns more : List Name) (n : Name) → In ns n ≡ true → In (ns ++ more) n ≡ true
  unfolding stands_in sight
  in_front [] more n e = cc
  in_front (m ∷ ms) more n e = front_or (same_name m n) ms more n (λ f. in_front ms more n (rest_in (same_name m n) ms n f e))

  place_or : (b : Bool) (j k : ℕ) → (b ≡ false → j ≡ k) → ◌≡◌ {A = ℕ} (elim b [ true ↦ zero | false ↦ suc j ]) (elim b [ true ↦ zero | false ↦ suc k ])
  place_or true j k f = refl
  place_or false j k f = ap suc (f refl)

  place_front : (ns more : List Name) (n : Name) → In ns n ≡ true → At (ns ++ more) n ≡ At ns n
  unfolding stands_in place_in sight
  place_front [] more n e = cc
  place_front (m ∷ ms) more n e = place_or (same_name m n) (At (ms ++ more) n) (At ms n) (λ f. place_front ms more n (rest_in (same_name m n) ms n f e))

  out_or : (b c : Bool) → elim b [ true ↦ true | false ↦ c ] ≡ false → (b ≡ false) × (c ≡ false)
  out_or true c e = cc
  out_or false c e = (refl, e)

  first_or : (b : Bool) (k : ℕ) → b ≡ true → ◌≡◌ {A = ℕ} (elim b [ true ↦ zero | false ↦ suc k ]) zero
  first_or true k e = refl
  first_or false k e = cc

  next_or : (b : Bool) (j k : ℕ) → b ≡ false → j ≡ k → ◌≡◌ {A = ℕ} (elim b [ true ↦ zero | false ↦ suc j ]) (suc k)
  next_or true j k e f = cc
  next_or false j k e f = ap suc f

  place_new : (ns more : List Name) (n : Name) → In ns n ≡ false → At (ns ++ n ∷ more) n ≡ length ns
  unfolding stands_in place_in sight
  place_new [] more n e = first_or (same_name n n) (At more n) (same_self n)
  place_new (m ∷ ms) more n e = let o = out_or (same_name m n) (In ms n) e in next_or (same_name m n) (At (ms ++ n ∷ more) n) (length ms) o.0 (place_new ms more n o.1)

  here_or : (b : Bool) (more : List Name) (n : Name) → b ≡ true → elim b [ true ↦ true | false ↦ In more n ] ≡ true
  here_or true more n e = refl
  here_or false more n e = cc

  in_new : (ns more : List Name) (n : Name) → In (ns ++ n ∷ more) n ≡ true
  unfolding stands_in sight
  in_new [] more n = here_or (same_name n n) more n (same_self n)
  in_new (m ∷ ms) more n = front_or (same_name m n) ms (n ∷ more) n (λ f. in_new ms more n)

  keep_or : (b : Bool) (ms : List Name) (n m : Name) → (b ≡ false → (In ms m ≡ true) ⊎ (same_name n m ≡ true)) → (elim b [ true ↦ true | false ↦ In ms m ] ≡ true) ⊎ (same_name n m ≡ true)
  keep_or true ms n m f = inl refl
  keep_or false ms n m f = f refl

  in_end : (ns : List Name) (n m : Name) → In (ns ++ n ∷ []) m ≡ true → (In ns m ≡ true) ⊎ (same_name n m ≡ true)
  unfolding stands_in sight
  in_end [] n m e = last (same_name n m) e
    where
      last : (b : Bool) → elim b [ true ↦ true | false ↦ false ] ≡ true → (In [] m ≡ true) ⊎ (b ≡ true)
      last true e = inr refl
      last false e = cc
  in_end (k ∷ ks) n m e = keep_or (same_name k m) ks n m (λ f. in_end ks n m (rest_in (same_name k m) (ks ++ n ∷ []) m f e))

  -- ---- what is exported, in front of what is exported later

  module _ (asked : List Name) where
    -- what stands in the later list and was asked for stands in the earlier
    abbrev Clean : List Name → List Name → Type 0
    Clean is js = IsFront is js × ((m : Name) → In asked m ≡ true → In js m ≡ true → In is m ≡ true)

    clean_same : (is : List Name) → Clean is is
    clean_same is = (front_same is, λ m e f. f)

    clean_trans : (is js ks : List Name) → Clean is js → Clean js ks → Clean is ks
    clean_trans is js ks h k = (front_trans is js ks h.0 k.0, λ m e f. h.1 m e (k.1 m e f))

    abbrev Name_in : Name → List Name → List Name
    Name_in n is = read.exported_as (sight v u) asked n is

    end_or : (n : Name) (is : List Name) (a b : Bool) → In asked n ≡ a → Clean is (elim a [ true ↦ is | false ↦ elim b [ true ↦ is | false ↦ is ++ n ∷ [] ] ])
    end_or n is true b e = clean_same is
    end_or n is false true e = clean_same is
    end_or n is false false e = (front_more is (n ∷ []), λ m f g. in_or_not m f (in_end is n m g))
      where
        in_or_not : (m : Name) → In asked m ≡ true → (In is m ≡ true) ⊎ (same_name n m ≡ true) → In is m ≡ true
        in_or_not m f (inl i) = i
        in_or_not m f (inr s) = absurd (true_false (In asked n) (ap (λ z. In asked z) (same_is n m s) ∙ f) e)

    own_or : (is js : List Name) (b : Bool) → Clean is js → Clean is (elim b [ true ↦ js | false ↦ is ])
    own_or is js true h = h
    own_or is js false h = clean_same is

    name_clean : (n : Name) (is : List Name) → Clean is (Name_in n is)
    unfolding read.exported_as sight
    name_clean n is = own_or is _ (host_of n == v) (end_or n is (In asked n) (In is n) refl)

    value_clean : (y : Value Name) (is : List Name) → Clean is (read.exported_value (sight v u) asked y is)
    unfolding read.exported_value
    value_clean (Ref n) is = name_clean n is
    value_clean other is = clean_same is

    mutual
      unfolding read.exported_passed read.exported_all

      passed_clean : (y : Passed Name) (is : List Name) → Clean is (read.exported_passed (sight v u) asked y is)
      passed_clean (Plain y) is = value_clean y is
      passed_clean (AGift h i) is = clean_same is
      passed_clean (Many ys) is = all_clean ys is

      all_clean : (ys : Passeds Name) (is : List Name) → Clean is (read.exported_all (sight v u) asked ys is)
      all_clean NoMore is = clean_same is
      all_clean (More y ys) is = let js = read.exported_passed (sight v u) asked y is in clean_trans is js (read.exported_all (sight v u) asked ys js) (passed_clean y is) (all_clean ys js)

  -- ---- reading

  module _ (t d : Connection Name) (N : Note Name) (F : Newcomers Name Name) (arrived : d.answers ≡ t.questions) (exports : IsFront t.imports d.exports) (questions : IsFront t.answers d.questions) (b : Brings v u t F N) where
    abbrev E : List Name
    E = read.exported_note (sight v u) t.answers N t.exports

    abbrev c : Connection Name
    c = read.exporting (sight v u) N t

    abbrev Reads : Described → Hearing Name (Incoming Name Name)
    Reads x = read.name_heard is_object u v F d x

    abbrev See : Name → Stage Name → Heard Name (Incoming Name Name)
    See n s = seen.seen_name v u t.answers n s

    old_by : (o : Option Name) (n : Name) (s : Stage Name) → o ≡ Some n → read.told_if {B = Incoming Name Name} Old o s ≡ Some (found (Old n) s)
    unfolding read.told_if read.told
    old_by o n s e = ap (λ z. read.told_if Old z s) e

    your_answer : (n : Name) (s : Stage Name) → In t.questions n ≡ true → Reads (op.YourAnswer (At t.questions n)) s ≡ Some (found (Old n) s)
    unfolding read.name_heard
    your_answer n s e = old_by _ n s (ap (λ qs. slice_get qs (At t.questions n)) arrived ∙ get_place t.questions n e)

    your_export : (n : Name) (s : Stage Name) → In t.imports n ≡ true → Reads (op.YourExport (At t.imports n)) s ≡ Some (found (Old n) s)
    unfolding read.name_heard
    your_export n s e = old_by _ n s (ap (λ ms. slice_get ms (At t.imports n)) exports.1 ∙ get_append t.imports exports.0 (At t.imports n) n (get_place t.imports n e))

    my_answer : (n : Name) (s : Stage Name) → In t.answers n ≡ true → Reads (op.MyAnswer (At t.answers n)) s ≡ Some (found (Old n) s)
    unfolding read.name_heard
    my_answer n s e = old_by _ n s (ap (λ ms. slice_get ms (At t.answers n)) questions.1 ∙ get_append t.answers questions.0 (At t.answers n) n (get_place t.answers n e))

    -- by position, known or new
    known_object : (p : ℕ) (n : Name) (s : Stage Name) (o : Option Name) → is_object n ≡ true → o ≡ Some n → read.object_heard is_object u v F d p o s ≡ Some (found (Old n) s)
    unfolding read.object_heard read.told_where read.told
    known_object p n s o k e = ap (λ z. read.object_heard is_object u v F d p z s) e ∙ is (is_object n) k
      where
        is : (a : Bool) → a ≡ true → read.told_where a (read.told {A = Incoming Name Name} (Old n)) s ≡ Some (found (Old n) s)
        is true k = refl
        is false k = cc

    known_promise : (p : ℕ) (n : Name) (s : Stage Name) (o : Option Name) → is_object n ≡ false → o ≡ Some n → read.promise_heard is_object u v F d p o s ≡ Some (found (Old n) s)
    unfolding read.promise_heard read.told
    known_promise p n s o k e = ap (λ z. read.promise_heard is_object u v F d p z s) e ∙ is (is_object n) k
      where
        is : (a : Bool) → a ≡ false → ◌≡◌ {A = Option (Heard Name (Incoming Name Name))} (elim a [ true ↦ None | false ↦ read.told (Old n) s ]) (Some (found (Old n) s))
        is false k = refl
        is true k = cc

    known_at : (n : Name) (s : Stage Name) (p : ℕ) (a : Bool) → is_object n ≡ a → slice_get s.imports p ≡ Some n → Reads (read.position (sight v u) a p) s ≡ Some (found (Old n) s)
    unfolding read.name_heard read.position
    known_at n s p true k e = known_object p n s (slice_get s.imports p) k e
    known_at n s p false k e = known_promise p n s (slice_get s.imports p) k e

    where_true : {A : Type 0} (a : Bool) (f : Hearing Name A) (s : Stage Name) → a ≡ true → read.told_where a f s ≡ f s
    unfolding read.told_where
    where_true true f s e = refl
    where_true false f s e = cc

    new_object : (p : ℕ) (n : Name) (s : Stage Name) (o : Option Name) → o ≡ None → p ≡ length s.imports → F.object p ≡ n → read.object_heard is_object u v F d p o s ≡ Some (seen.seen_first v u t.answers n true s)
    unfolding read.object_heard read.new_object read.told seen.seen_first
    new_object p n s o e f g = ap (λ z. read.object_heard is_object u v F d p z s) e ∙ where_true (p == length s.imports) (read.new_object is_object u v F d p) s (eq-eqb p (length s.imports) f) ∙ ap (λ m. Some (found (Old m) (record s { imports = s.imports ++ m ∷ [] }))) g

    new_promise : (p : ℕ) (n : Name) (s : Stage Name) (o : Option Name) → o ≡ None → p ≡ length s.imports → F.promise p s.known ≡ n → F.exported p ≡ n → read.promise_heard is_object u v F d p o s ≡ Some (seen.seen_first v u t.answers n false s)
    unfolding read.promise_heard read.new_promise read.told seen.seen_first
    new_promise p n s o e f g h = ap (λ z. read.promise_heard is_object u v F d p z s) e ∙ where_true (p == length s.imports) (read.new_promise is_object u v F d p) s (eq-eqb p (length s.imports) f)
        ∙ ap (λ m. Some (found (New (F.exported p) v) (record s { imports = s.imports ++ m ∷ []; known = suc s.known }))) g ∙ ap (λ m. Some (found (New m v) (record s { imports = s.imports ++ n ∷ []; known = suc s.known }))) h

    new_at : (n : Name) (s : Stage Name) (p : ℕ) (a : Bool) → is_object n ≡ a → slice_get s.imports p ≡ None → p ≡ length s.imports → slice_get E p ≡ Some n → Reads (read.position (sight v u) a p) s ≡ Some (seen.seen_first v u t.answers n a s)
    unfolding read.name_heard read.position
    new_at n s p true k e f g = new_object p n s (slice_get s.imports p) e f (b.object p n g)
    new_at n s p false k e f g = new_promise p n s (slice_get s.imports p) e f (b.promise p s.known n g) (b.exported p n g)

    -- ---- a name

    first_imports : (n : Name) (a : Bool) (s : Stage Name) → (let h : Heard Name (Incoming Name Name) = seen.seen_first v u t.answers n a s in h.after.imports) ≡ s.imports ++ n ∷ []
    unfolding seen.seen_first
    first_imports n true s = refl
    first_imports n false s = refl

    told_before : (n : Name) (s : Stage Name) → In s.imports n ≡ true → IsFront s.imports E → Reads (read.position (sight v u) (is_object n) (At E n)) s ≡ Some (found (Old n) s)
    told_before n s g k = ap (λ p. Reads (read.position (sight v u) (is_object n) p) s) (ap (λ js. At js n) k.1 ∙ place_front s.imports k.0 n g) ∙ known_at n s (At s.imports n) (is_object n) refl (get_place s.imports n g)

    told_now : (n : Name) (s : Stage Name) → In s.imports n ≡ false → IsFront (s.imports ++ n ∷ []) E → Reads (read.position (sight v u) (is_object n) (At E n)) s ≡ Some (seen.seen_first v u t.answers n (is_object n) s)
    told_now n s g k = new_at n s (At E n) (is_object n) refl (ap (λ p. slice_get s.imports p) place ∙ none_end s.imports) place (get_place E n (ap (λ js. In js n) all ∙ in_new s.imports k.0 n))
      where
        all : E ≡ s.imports ++ n ∷ k.0
        all = k.1 ∙ append_assoc s.imports (n ∷ []) k.0

        place : At E n ≡ length s.imports
        place = ap (λ js. At js n) all ∙ place_new s.imports k.0 n g

    -- what is heard is what is seen, and what is exported then stands by its positions
    abbrev IsSeen : {A : Type 0} → Option (Heard Name A) → Heard Name A → List Name → Type 0
    IsSeen o h is = (o ≡ Some h) × (h.after.imports ≡ is)

    in_later : (n : Name) (is more : List Name) → In is n ≡ true → E ≡ is ++ more → In E n ≡ true
    in_later n is more g e = ap (λ js. In js n) e ∙ in_front is more n g

    own_name : (n : Name) (s : Stage Name) (a i e : Bool) → In t.answers n ≡ a → In s.imports n ≡ i → In E n ≡ e → Clean t.answers (elim a [ true ↦ s.imports | false ↦ elim i [ true ↦ s.imports | false ↦ s.imports ++ n ∷ [] ] ]) E
        → IsSeen (Reads (read.mine (sight v u) c n e) s) (elim a [ true ↦ found (Old n) s | false ↦ elim i [ true ↦ found (Old n) s | false ↦ seen.seen_first v u t.answers n (is_object n) s ] ]) (elim a [ true ↦ s.imports | false ↦ elim i [ true ↦ s.imports | false ↦ s.imports ++ n ∷ [] ] ])
    unfolding read.mine sight read.exporting
    own_name n s true true true f g h k = (told_before n s g k.0, refl)
    own_name n s true true false f g h k = absurd (true_false (In E n) (in_later n s.imports k.0.0 g k.0.1) h)
    own_name n s true false true f g h k = absurd (true_false (In s.imports n) (k.1 n f h) g)
    own_name n s true false false f g h k = (my_answer n s f, refl)
    own_name n s false true true f g h k = (told_before n s g k.0, refl)
    own_name n s false true false f g h k = absurd (true_false (In E n) (in_later n s.imports k.0.0 g k.0.1) h)
    own_name n s false false true f g h k = (told_now n s g k.0, first_imports n (is_object n) s)
    own_name n s false false false f g h k = absurd (true_false (In E n) (ap (λ js. In js n) (k.0.1 ∙ append_assoc s.imports (n ∷ []) k.0.0) ∙ in_new s.imports k.0.0 n) h)

    other_name : (n : Name) (s : Stage Name) (q : Bool) → In t.questions n ≡ q → (q ≡ true) ⊎ (In t.imports n ≡ true) → Reads (read.yours (sight v u) c n q) s ≡ Some (found (Old n) s)
    unfolding read.yours read.exporting
    other_name n s true e o = your_answer n s e
    other_name n s false e (inl f) = cc
    other_name n s false e (inr f) = your_export n s f

    told_is : (n : Name) (s : Stage Name) (i : Bool) → seen.seen_told v u t.answers n i s ≡ elim i [ true ↦ found (Old n) s | false ↦ seen.seen_first v u t.answers n (is_object n) s ]
    unfolding seen.seen_told
    told_is n s true = refl
    told_is n s false = refl

    unasked_is : (n : Name) (s : Stage Name) (a : Bool) → seen.seen_unasked v u t.answers n a s ≡ elim a [ true ↦ found (Old n) s | false ↦ elim (In s.imports n) [ true ↦ found (Old n) s | false ↦ seen.seen_first v u t.answers n (is_object n) s ] ]
    unfolding seen.seen_unasked
    unasked_is n s true = refl
    unasked_is n s false = told_is n s (In s.imports n)

    by_host : (n : Name) (s : Stage Name) (h : Bool) → (host_of n == v) ≡ h → IsNumbered v u t n → Clean t.answers (elim h [ true ↦ elim (In t.answers n) [ true ↦ s.imports | false ↦ elim (In s.imports n) [ true ↦ s.imports | false ↦ s.imports ++ n ∷ [] ] ] | false ↦ s.imports ]) E
        → IsSeen (Reads (elim h [ true ↦ read.mine (sight v u) c n (In c.exports n) | false ↦ read.yours (sight v u) c n (In c.questions n) ]) s) (seen.seen_own v u t.answers n h s) (elim h [ true ↦ elim (In t.answers n) [ true ↦ s.imports | false ↦ elim (In s.imports n) [ true ↦ s.imports | false ↦ s.imports ++ n ∷ [] ] ] | false ↦ s.imports ])
    unfolding seen.seen_own read.exporting
    by_host n s true e f k = let r = own_name n s (In t.answers n) (In s.imports n) (In E n) refl refl refl k in let same = unasked_is n s (In t.answers n) in
        (r.0 ∙ ap Some (sym same), ap (λ (h : Heard Name (Incoming Name Name)). h.after.imports) same ∙ r.1)
    by_host n s false e f k = (other_name n s (In t.questions n) refl (numbered f), refl)
      where
        numbered : IsNumbered v u t n → (In t.questions n ≡ true) ⊎ (In t.imports n ≡ true)
        numbered (inl g) = absurd (true_false (host_of n == v) g e)
        numbered (inr o) = o

    name_seen : (n : Name) (s : Stage Name) → IsNumbered v u t n → Clean t.answers (read.exported_as (sight v u) t.answers n s.imports) E → IsSeen (Reads (read.described (sight v u) c n) s) (See n s) (read.exported_as (sight v u) t.answers n s.imports)
    unfolding read.described read.exported_as sight seen.seen_name
    name_seen n s f k = by_host n s (host_of n == v) refl f k

    -- ---- what passes

    next_seen : {A B : Type 0} (f : A → Hearing Name B) (o : Option (Heard Name A)) (h : Heard Name A) → o ≡ Some h → read.next f o ≡ f h.read h.after
    unfolding read.next
    next_seen f o h e = ap (read.next f) e

    abbrev Passing : Described → Hearing Name (Passed (Incoming Name Name))
    Passing x = read.passed_heard is_object u v F d x

    abbrev Passings : Members → Hearing Name (Passeds (Incoming Name Name))
    Passings x = read.all_heard is_object u v F d x

    reference_by : (x : Described) (s : Stage Name) → Option (Heard Name (Passed (Incoming Name Name)))
    reference_by x s = read.next (read.reference_heard is_object u v F d) (Reads x s)

    reference_seen : (n : Name) (s : Stage Name) (o : Option (Heard Name (Incoming Name Name))) (is : List Name) → IsSeen o (See n s) is → IsSeen (read.next (read.reference_heard is_object u v F d) o) (seen.seen_value v u t.answers (Ref n) s) is
    unfolding read.reference_heard read.told seen.seen_value
    reference_seen n s o is h = (next_seen (read.reference_heard is_object u v F d) o (See n s) h.0, h.1)

    -- a description of a name passes as that name
    passing_position : (a : Bool) (p : ℕ) (s : Stage Name) → Passing (read.position (sight v u) a p) s ≡ read.next (read.reference_heard is_object u v F d) (Reads (read.position (sight v u) a p) s)
    unfolding read.passed_heard read.position
    passing_position true p s = refl
    passing_position false p s = refl

    passing_mine : (n : Name) (e : Bool) (s : Stage Name) → Passing (read.mine (sight v u) c n e) s ≡ read.next (read.reference_heard is_object u v F d) (Reads (read.mine (sight v u) c n e) s)
    unfolding read.passed_heard read.mine sight
    passing_mine n true s = passing_position (is_object n) (At c.exports n) s
    passing_mine n false s = refl

    passing_yours : (n : Name) (e : Bool) (s : Stage Name) → Passing (read.yours (sight v u) c n e) s ≡ read.next (read.reference_heard is_object u v F d) (Reads (read.yours (sight v u) c n e) s)
    unfolding read.passed_heard read.yours
    passing_yours n true s = refl
    passing_yours n false s = refl

    passing_or : (n : Name) (h : Bool) (s : Stage Name) → Passing (elim h [ true ↦ read.mine (sight v u) c n (In c.exports n) | false ↦ read.yours (sight v u) c n (In c.questions n) ]) s
        ≡ read.next (read.reference_heard is_object u v F d) (Reads (elim h [ true ↦ read.mine (sight v u) c n (In c.exports n) | false ↦ read.yours (sight v u) c n (In c.questions n) ]) s)
    passing_or n true s = passing_mine n (In c.exports n) s
    passing_or n false s = passing_yours n (In c.questions n) s

    passing_name : (n : Name) (s : Stage Name) → Passing (read.described (sight v u) c n) s ≡ read.next (read.reference_heard is_object u v F d) (Reads (read.described (sight v u) c n) s)
    unfolding read.described sight
    passing_name n s = passing_or n (host_of n == v) s

    value_seen : (y : Value Name) (s : Stage Name) → ValueFits v u t y → Clean t.answers (read.exported_value (sight v u) t.answers y s.imports) E → IsSeen (Passing (read.described_value (sight v u) c y) s) (seen.seen_value v u t.answers y s) (read.exported_value (sight v u) t.answers y s.imports)
    unfolding read.described_value read.exported_value read.passed_heard read.fact_heard read.told seen.seen_value
    value_seen (Ref n) s f k = let r = reference_seen n s (Reads (read.described (sight v u) c n) s) (read.exported_as (sight v u) t.answers n s.imports) (name_seen n s f k) in (passing_name n s ∙ r.0, r.1)
    value_seen (Items i) s f k = absurd f
    value_seen other s f k = (refl, refl)

    gift_seen : (h i : ℕ) (o : Option Name) (s : Stage Name) → IsSeen (read.gift_heard is_object u v F d h i o s) (seen.seen_gift v u t.answers h i o s) s.imports
    unfolding read.gift_heard read.told seen.seen_gift
    gift_seen h i (Some n) s = (refl, refl)
    gift_seen h i None s = (ap (λ m. Some (found (AGift h i) (record s { learnt = s.learnt ++ record { host = h; number = i; name = m } ∷ []; known = suc s.known }))) (b.gift h i s.known), refl)

    mutual
      unfolding read.described_passed read.described_all read.exported_passed read.exported_all read.passed_heard read.all_heard read.told seen.seen_passed seen.seen_all

      passed_seen : (y : Passed Name) (s : Stage Name) → PassedFits v u t y → Clean t.answers (read.exported_passed (sight v u) t.answers y s.imports) E → IsSeen (Passing (read.described_passed (sight v u) c y) s) (seen.seen_passed v u t.answers y s) (read.exported_passed (sight v u) t.answers y s.imports)
      passed_seen (Plain y) s f k = value_seen y s f k
      passed_seen (AGift h i) s f k = let r = gift_seen h i (read.learnt_at h i s.learnt) s in (ap (λ j. read.gift_heard is_object u v F d h j (read.learnt_at h j s.learnt) s) f ∙ r.0, r.1)
      passed_seen (Many ys) s f k = let r = all_seen ys s f k in (next_seen (λ zs. read.told (Many zs)) (Passings (read.described_all (sight v u) c ys) s) (seen.seen_all v u t.answers ys s) r.0, r.1)

      all_seen : (ys : Passeds Name) (s : Stage Name) → AllFit v u t ys → Clean t.answers (read.exported_all (sight v u) t.answers ys s.imports) E → IsSeen (Passings (read.described_all (sight v u) c ys) s) (seen.seen_all v u t.answers ys s) (read.exported_all (sight v u) t.answers ys s.imports)
      all_seen NoMore s f k = (refl, refl)
      all_seen (More y ys) s f k = let is = s.imports in let js = read.exported_passed (sight v u) t.answers y is in let h = seen.seen_passed v u t.answers y s in
          let one = passed_seen y s f.0 (clean_trans t.answers js (read.exported_all (sight v u) t.answers ys js) E (all_clean t.answers ys js) k) in
          let rest = all_seen ys h.after f.1 (subst (λ ms. Clean t.answers (read.exported_all (sight v u) t.answers ys ms) E) (sym one.1) k) in (
            next_seen (λ z r. read.next (λ zs. read.told (More z zs)) (Passings (read.described_all (sight v u) c ys) r)) (Passing (read.described_passed (sight v u) c y) s) h one.0
                ∙ next_seen (λ zs. read.told (More h.read zs)) (Passings (read.described_all (sight v u) c ys) h.after) (seen.seen_all v u t.answers ys h.after) rest.0,
            rest.1 ∙ ap (λ ms. read.exported_all (sight v u) t.answers ys ms) one.1,
          )

    -- ---- the note

    abbrev Hears : Operation → Hearing Name (Note (Incoming Name Name))
    Hears o = read.note_heard is_object u v F d o

    message_seen : (a : Bool) (m : Name) (o : Option Name) (n : Name) (verb : List ℕ) (ys : Passeds Name) (s : Stage Name) → F.message ≡ m → IsNumbered v u t n → AllFit v u t ys → Clean t.answers (read.exported_all (sight v u) t.answers ys (read.exported_as (sight v u) t.answers n s.imports)) E
        → IsSeen (read.message_heard is_object u v F d a (read.described (sight v u) c n) verb (read.described_all (sight v u) c ys) s) (seen.seen_note v u t.answers (Deliver (record { message = m; asks = a; answer = o }) n verb ys) s) (read.exported_all (sight v u) t.answers ys (read.exported_as (sight v u) t.answers n s.imports))
    unfolding read.message_heard read.told seen.seen_note
    message_seen a m o n verb ys s e f g k = let is = read.exported_as (sight v u) t.answers n s.imports in let h = See n s in
        let one = name_seen n s f (clean_trans t.answers is (read.exported_all (sight v u) t.answers ys is) E (all_clean t.answers ys is) k) in
        let rest = all_seen ys h.after g (subst (λ ms. Clean t.answers (read.exported_all (sight v u) t.answers ys ms) E) (sym one.1) k) in let zs = seen.seen_all v u t.answers ys h.after in (
          next_seen (λ x r. read.next (λ ws. read.told (Deliver (record { message = New F.message v; asks = a; answer = None }) x verb ws)) (Passings (read.described_all (sight v u) c ys) r)) (Reads (read.described (sight v u) c n) s) h one.0
              ∙ next_seen (λ ws. read.told (Deliver (record { message = New F.message v; asks = a; answer = None }) h.read verb ws)) (Passings (read.described_all (sight v u) c ys) h.after) zs rest.0
              ∙ ap (λ z. Some (found (Deliver (record { message = New z v; asks = a; answer = None }) h.read verb zs.read) zs.after)) e,
          rest.1 ∙ ap (λ ms. read.exported_all (sight v u) t.answers ys ms) one.1,
        )

    about : (n : Name) (s : Stage Name) (r : Incoming Name Name → Note (Incoming Name Name)) → IsNumbered v u t n → Clean t.answers (read.exported_as (sight v u) t.answers n s.imports) E
        → IsSeen (read.next (λ x. read.told (r x)) (Reads (read.described (sight v u) c n) s)) (after_that (See n s) (λ x. found (r x))) (read.exported_as (sight v u) t.answers n s.imports)
    unfolding read.told
    about n s r f k = let one = name_seen n s f k in (next_seen (λ x. read.told (r x)) (Reads (read.described (sight v u) c n) s) (See n s) one.0, one.1)

    asks_where : (q : ℕ) (f : Hearing Name (Note (Incoming Name Name))) (s : Stage Name) → q ≡ length t.questions → read.told_where (q == length d.answers) f s ≡ f s
    asks_where q f s e = where_true (q == length d.answers) f s (eq-eqb q (length d.answers) (e ∙ ap length (sym arrived)))

    settled_seen : (n : Name) (y : Passed Name) (s : Stage Name) → IsNumbered v u t n → PassedFits v u t y → Clean t.answers (read.exported_passed (sight v u) t.answers y (read.exported_as (sight v u) t.answers n s.imports)) E
        → IsSeen (read.next (λ x. read.outcome_heard is_object u v F d x (op.To (read.described_passed (sight v u) c y))) (Reads (read.described (sight v u) c n) s)) (seen.seen_note v u t.answers (SettledTo n y) s) (read.exported_passed (sight v u) t.answers y (read.exported_as (sight v u) t.answers n s.imports))
    unfolding read.outcome_heard read.told seen.seen_note
    settled_seen n y s f g k = let is = read.exported_as (sight v u) t.answers n s.imports in let h = See n s in
        let one = name_seen n s f (clean_trans t.answers is (read.exported_passed (sight v u) t.answers y is) E (passed_clean t.answers y is) k) in
        let rest = passed_seen y h.after g (subst (λ ms. Clean t.answers (read.exported_passed (sight v u) t.answers y ms) E) (sym one.1) k) in let z = seen.seen_passed v u t.answers y h.after in (
          next_seen (λ x. read.outcome_heard is_object u v F d x (op.To (read.described_passed (sight v u) c y))) (Reads (read.described (sight v u) c n) s) h one.0
              ∙ next_seen (λ w. read.told (SettledTo h.read w)) (Passing (read.described_passed (sight v u) c y) h.after) z rest.0,
          rest.1 ∙ ap (λ ms. read.exported_passed (sight v u) t.answers y ms) one.1,
        )

    asked_seen : (p i : ℕ) (n : Name) (s : Stage Name) → F.asked (length t.questions) ≡ n → IsRead v u t p i → Hears (op.Accept (length c.questions) p (word_of i)) s ≡ Some (found (Ask p i (New n u)) s)
    unfolding read.note_heard read.told read.exporting
    asked_seen p i n s e f = asks_where (length t.questions) (read.told (Ask p (key p (word_of i)) (New (F.asked (length t.questions)) u))) s refl ∙ ap (λ j. Some (found (Ask p j (New (F.asked (length t.questions)) u)) s)) f ∙ ap (λ m. Some (found (Ask p i (New m u)) s)) e

    delivered : (a : Bool) (m n : Name) (verb : List ℕ) (ys : Passeds Name) (s : Stage Name) → Hears (read.delivered (sight v u) a (length c.questions) (read.described (sight v u) c n) verb (read.described_all (sight v u) c ys)) s
        ≡ read.message_heard is_object u v F d a (read.described (sight v u) c n) verb (read.described_all (sight v u) c ys) s
    unfolding read.delivered read.note_heard read.exporting
    delivered true m n verb ys s = asks_where (length t.questions) (read.message_heard is_object u v F d true (read.described (sight v u) c n) verb (read.described_all (sight v u) c ys)) s refl
    delivered false m n verb ys s = refl

  module _ (t d : Connection Name) (F : Newcomers Name Name) (arrived : d.answers ≡ t.questions) (exports : IsFront t.imports d.exports) (questions : IsFront t.answers d.questions) (s : Stage Name) (same : s.imports ≡ t.exports) where
    abbrev Later : Note Name → List Name
    Later n = read.exported_note (sight v u) t.answers n t.exports

    abbrev Result : Note Name → Type 0
    Result n = (read.note_heard is_object u v F d (read.operation (sight v u) (read.exporting (sight v u) n t) n) s ≡ Some (seen.seen_note v u t.answers n s)) × (let h : Heard Name (Note (Incoming Name Name)) = seen.seen_note v u t.answers n s in h.after.imports ≡ Later n)

    from : (n : Note Name) (g : List Name → List Name) → Later n ≡ g t.exports → Clean t.answers (g s.imports) (Later n)
    from n g e = subst (λ js. Clean t.answers (g s.imports) js) (sym (e ∙ ap g (sym same))) (clean_same t.answers (g s.imports))

    note_seen : (n : Note Name) → Brings v u t F n → NoteFits v u t n → Result n
    unfolding read.operation read.note_heard read.exported_note read.outcome_heard read.told seen.seen_note
    note_seen (Deliver x n verb ys) b f = let N : Note Name = Deliver x n verb ys in
        let r = message_seen t d N F arrived exports questions b x.asks x.message x.answer n verb ys s (b.message x n verb ys refl) f.0 f.1 (from N (λ is. read.exported_all (sight v u) t.answers ys (read.exported_as (sight v u) t.answers n is)) refl) in
        (delivered t d N F arrived exports questions b x.asks x.message n verb ys s ∙ r.0, r.1 ∙ ap (λ is. read.exported_all (sight v u) t.answers ys (read.exported_as (sight v u) t.answers n is)) same)
    note_seen (Open i n) b f = let N : Note Name = Open i n in let r = about t d N F arrived exports questions b n s (λ x. Open i x) f.1 (from N (λ is. read.exported_as (sight v u) t.answers n is) refl) in
        (ap (λ j. read.next (λ x. read.told (Open j x)) (read.name_heard is_object u v F d (read.described (sight v u) (read.exporting (sight v u) N t) n) s)) f.0 ∙ r.0, r.1 ∙ ap (λ is. read.exported_as (sight v u) t.answers n is) same)
    note_seen (Ask p i n) b f = (asked_seen t d (Ask p i n) F arrived exports questions b p i n s (b.asked p i n refl) f, same)
    note_seen (SettledTo n y) b f = let N : Note Name = SettledTo n y in let r = settled_seen t d N F arrived exports questions b n y s f.0 f.1 (from N (λ is. read.exported_passed (sight v u) t.answers y (read.exported_as (sight v u) t.answers n is)) refl) in
        (r.0, r.1 ∙ ap (λ is. read.exported_passed (sight v u) t.answers y (read.exported_as (sight v u) t.answers n is)) same)
    note_seen (Elsewhere n c) b f = let N : Note Name = Elsewhere n c in let r = about t d N F arrived exports questions b n s (λ x. Elsewhere x c) f (from N (λ is. read.exported_as (sight v u) t.answers n is) refl) in
        (r.0, r.1 ∙ ap (λ is. read.exported_as (sight v u) t.answers n is) same)
    note_seen (Shorten n c i) b f = let N : Note Name = Shorten n c i in let r = about t d N F arrived exports questions b n s (λ x. Shorten x v i) f.1 (from N (λ is. read.exported_as (sight v u) t.answers n is) refl) in
        (ap (λ j. read.next (λ x. read.told (Shorten x v j)) (read.name_heard is_object u v F d (read.described (sight v u) (read.exporting (sight v u) N t) n) s)) f.0 ∙ r.0, r.1 ∙ ap (λ is. read.exported_as (sight v u) t.answers n is) same)

pub written_read : WhatIsWrittenIsRead
unfolding read.frame_now
written_read v u t d n s F same arrived exports questions fits b = note_seen v u t d F arrived exports questions s same n b fits
