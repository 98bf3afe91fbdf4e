-- Values are told by their texts.
use Rattle.std.proofs.Common.{◌≡◌, ℕ, zero, suc, ◌+◌, ◌/◌, ◌%◌, ◌<◌, ◌^◌, ◌&&◌, cond, eqb, ltb, leb, not, Bool as Bools, true, false, pos, negsuc, List, [], ◌∷◌, ◌++◌, length, refl, sym, ◌∙◌, ap, subst, append_assoc, arith}
use Rattle.std.specs.Prelude.{decimal, codes, drop}
use Rattle.std.specs.List.{list_all}
use Rattle.std.specs.Fmt.{digit_glyph, digits_onto, digits}
use Rattle.std.proofs.lemmas.Bool.{and_parts, eqb-true}
use Rattle.std.proofs.lemmas.Bool.Decides.{nat_tests}
use Rattle.std.proofs.lemmas.Fmt.{decimal_injective, decimal_is_IsNumeral_wide}
use Rattle.std.specs.Str.Parse.{digits_value}
use Rattle.ev_base.specs.declared.names.Name.{Name}
use Rattle.ev_base.specs.declared.names.Name.TheVariants.{Object, Own, Answer, Gift, Root, Claimed}
use Rattle.def_text.specs.Quoting.{shortened}
use Rattle.def_event.specs.declared.shown.Shown.{Shown, Null, Bool, Int, Char, Text, Broken, Prim, List as ListOf, Slot, Name as Named, Members', Row_of-Shown, end_of-Shown, more_of-Shown}
use Rattle.def_event.specs.Lines.{hex, low_first, primitive_name, vat, numbered, message, value, member_values, spaced}
use Rattle.law_text.specs.Text.Names.{unmarked, AreNames}
use Rattle.law_text.specs.Text.Feeds.{AllOf}
use Rattle.law_text.specs.Text.Words.{IsOrdinary, ordinary}
use Rattle.law_text.specs.Text.Values.{names_vat, AreVats, IsValueOf, AreMembersOf, row_members, Alike, AreAlike, same, texts, problems, characters, primitives, lists, none, more}
use Rattle.law_text.proofs.Text.Front.{true_false, both_true, head_is, tail_is, cons_is, two_marks, rest_of, apart}
use Rattle.law_text.proofs.Text.Named.{name_told}
use Rattle.law_text.proofs.Text.Split.{IsFull, members_apart}
use Rattle.law_text.proofs.Text.Told.{member_words}

abbrev All : List ℕ → Type 0
All xs = list_all names_vat xs ≡ true

nothing : (y : ℕ) (ys : List ℕ) → ◌≡◌ {A = List ℕ} [] (y ∷ ys) → ⊥
nothing y ys e = cc

cancel_last : (z : ℕ) (xs ys : List ℕ) → xs ++ z ∷ [] ≡ ys ++ z ∷ [] → xs ≡ ys
cancel_last z [] [] e = refl
cancel_last z [] (y ∷ []) e = absurd (nothing z [] (tail_is z y [] (z ∷ []) e))
cancel_last z [] (y ∷ v ∷ ys) e = absurd (nothing v (ys ++ z ∷ []) (tail_is z y [] (v ∷ (ys ++ z ∷ [])) e))
cancel_last z (x ∷ []) [] e = absurd (nothing z [] (sym (tail_is x z (z ∷ []) [] e)))
cancel_last z (x ∷ v ∷ xs) [] e = absurd (nothing v (xs ++ z ∷ []) (sym (tail_is x z (v ∷ (xs ++ z ∷ [])) [] e)))
cancel_last z (x ∷ xs) (y ∷ ys) e = cons_is x y xs ys (head_is x y (xs ++ z ∷ []) (ys ++ z ∷ []) e) (cancel_last z xs ys (tail_is x y (xs ++ z ∷ []) (ys ++ z ∷ []) e))

-- ---- digits

abbrev pub is_digit : ℕ → Bools
is_digit c = leb 48 c && leb c 57

pub digit_is : (d : ℕ) → d < 10 → is_digit (48 + d) ≡ true
digit_is d h = grind (arith, nat_tests)

digit_names : (d : ℕ) → d < 10 → names_vat (48 + d) ≡ true
digit_names (suc (suc (suc (suc (suc (suc (suc (suc (suc (suc d)))))))))) h = absurd (omega arith)
digit_names other h = refl

-- what holds of each digit
module _ (p : ℕ → Bools) (each : (d : ℕ) → d < 10 → p (48 + d) ≡ true) where
  glyph_passes : (d : ℕ) (b : Bools) → d < 10 → ltb d 10 ≡ b → p (cond b (48 + d) (87 + d)) ≡ true
  glyph_passes d true l e = each d l
  glyph_passes d false l e = absurd (true_false (sym (lt_true d l) ∙ e))
    where
      lt_true : (d : ℕ) → d < 10 → ltb d 10 ≡ true
      lt_true d l = grind (arith, nat_tests)

  pick_all : (b : Bools) (xs ys : List ℕ) → list_all p xs ≡ true → list_all p ys ≡ true → list_all p (cond b xs ys) ≡ true
  pick_all true xs ys h k = h
  pick_all false xs ys h k = k

  below_ten : (n : ℕ) → n % 10 < 10
  below_ten n = omega arith

  onto_pass : (k n : ℕ) (acc : List ℕ) → list_all p acc ≡ true → list_all p (digits_onto k 10 false n acc) ≡ true
  onto_pass zero n acc h = h
  onto_pass (suc k) n acc h =
      let one : list_all p (digit_glyph false (n % 10) ∷ acc) ≡ true = both_true (p (digit_glyph false (n % 10))) (list_all p acc) (glyph_passes (n % 10) (ltb (n % 10) 10) (below_ten n) refl) h in
      pick_all (eqb (n / 10) 0) (digit_glyph false (n % 10) ∷ acc) (digits_onto k 10 false (n / 10) (digit_glyph false (n % 10) ∷ acc)) one (onto_pass k (n / 10) (digit_glyph false (n % 10) ∷ acc) one)

  pub decimal_passes : (n : ℕ) → list_all p (decimal n) ≡ true
  unfolding digits
  decimal_passes n = onto_pass 64 n [] refl

-- a number has a digit
onto_full : (k n c : ℕ) (acc : List ℕ) → (d : ℕ) × (ds : List ℕ) × (digits_onto k 10 false n (c ∷ acc) ≡ d ∷ ds)
onto_full zero n c acc = (c, acc, refl)
onto_full (suc k) n c acc = either (eqb (n / 10) 0) (digit_glyph false (n % 10)) (c ∷ acc) (digits_onto k 10 false (n / 10) (digit_glyph false (n % 10) ∷ c ∷ acc)) (onto_full k (n / 10) (digit_glyph false (n % 10)) (c ∷ acc))
  where
    either : (b : Bools) (c : ℕ) (cs ys : List ℕ) → (d : ℕ) × (ds : List ℕ) × (ys ≡ d ∷ ds) → (d : ℕ) × (ds : List ℕ) × (cond b (c ∷ cs) ys ≡ d ∷ ds)
    either true c cs ys h = (c, cs, refl)
    either false c cs ys h = h

decimal_full : (n : ℕ) → IsFull (decimal n)
unfolding digits
decimal_full n = by (eqb (n / 10) 0) (digit_glyph false (n % 10)) (digits_onto 63 10 false (n / 10) (digit_glyph false (n % 10) ∷ [])) (onto_full 63 (n / 10) (digit_glyph false (n % 10)) [])
  where
    by : (b : Bools) (c : ℕ) (ys : List ℕ) → (d : ℕ) × (ds : List ℕ) × (ys ≡ d ∷ ds) → IsFull (cond b (c ∷ []) ys)
    by true c ys h e = absurd (nothing c [] (sym e))
    by false c ys h e = absurd (nothing h.0 h.1 (sym e ∙ h.2))

no_digits : (n : ℕ) (w : List ℕ) → list_all is_digit w ≡ false → decimal n ≡ w → ⊥
no_digits n w lacks e = true_false (sym (decimal_passes is_digit digit_is n) ∙ ap (list_all is_digit) e ∙ lacks)

wide_is : (m n : ℕ) → m < 10 ^ 64 → n < 10 ^ 64 → decimal m ≡ decimal n → m ≡ n
wide_is m n h k e = sym (decimal_is_IsNumeral_wide m h).1 ∙ ap (digits_value 10) e ∙ (decimal_is_IsNumeral_wide n k).1

suc_is : (m n : ℕ) → suc m ≡ suc n → m ≡ n
suc_is m n e = omega arith

abbrev begins_with : ℕ → List ℕ → Bools
begins_with k [] = false
begins_with k (c ∷ cs) = eqb c k

other_word : (k : ℕ) (v w : List ℕ) → begins_with k v ≡ true → begins_with k w ≡ false → v ≡ w → ⊥
other_word k v w h g e = true_false (sym h ∙ ap (begins_with k) e ∙ g)

-- ---- names

by_test : (c k : ℕ) → names_vat k ≡ false → names_vat c ≡ true → not (eqb c k) ≡ true
by_test c k at is = by (eqb c k) refl
  where
    by : (b : Bools) → eqb c k ≡ b → not b ≡ true
    by true e = absurd (true_false (sym is ∙ ap names_vat (eqb-true c k e) ∙ at))
    by false e = refl

no_mark : (c : ℕ) → names_vat c ≡ true → unmarked c ≡ true
no_mark c h = both_true _ _ (by_test c 46 refl h) (both_true _ _ (by_test c 126 refl h) (both_true _ _ (by_test c 47 refl h) (both_true _ _ (by_test c 63 refl h) (both_true _ _ (by_test c 94 refl h) (by_test c 64 refl h)))))

no_marks : (xs : List ℕ) → All xs → list_all unmarked xs ≡ true
no_marks [] h = refl
no_marks (x ∷ xs) h = both_true (unmarked x) (list_all unmarked xs) (no_mark x (and_parts (names_vat x) (list_all names_vat xs) h).0) (no_marks xs (rest_of names_vat x xs h))

pub are_names : (vats : List (List ℕ)) → AreVats vats → AreNames vats
are_names vats good = record { unmarked = λ v. no_marks (vat vats v) (good.spelled v); differ = good.differ }

abbrev name_mark : Name → ℕ
name_mark (Object v n) = 46
name_mark (Own v n) = 126
name_mark (Answer h m) = 63
name_mark (Gift h i) = 94
name_mark (Root v) = 64
name_mark (Claimed h p word) = 94

marks_name : (a : Name) → unmarked (name_mark a) ≡ false
marks_name (Object v n) = refl
marks_name other = refl

no_name : (a : Name) (k : ℕ) → unmarked k ≡ true → name_mark a ≡ k → ⊥
no_name a k is e = true_false (sym is ∙ sym (ap unmarked e) ∙ marks_name a)

name_fails : (a : Name) → names_vat (name_mark a) ≡ false
name_fails (Object v n) = refl
name_fails other = refl

-- ---- a text begins with its quote

starts_either : (b : Bools) (xs ys : List ℕ) → (r : List ℕ) × (xs ≡ 34 ∷ r) → (r : List ℕ) × (ys ≡ 34 ∷ r) → (r : List ℕ) × (cond b xs ys ≡ 34 ∷ r)
starts_either true xs ys h k = h
starts_either false xs ys h k = k

starts : (t : List ℕ) → (r : List ℕ) × (shortened t ≡ 34 ∷ r)
starts t = starts_either _ _ _ (_, refl) (_, refl)

module _ (vats : List (List ℕ)) (good : AreVats vats) where
  abbrev front : Shown → List ℕ
  front Null = codes "null"
  front (Bool true) = codes "true"
  front (Bool false) = codes "false"
  front (Int (pos n)) = decimal n
  front (Broken t) = codes "broken"
  front (ListOf v n) = vat vats v
  front (Slot v n) = vat vats v
  front (Named (Object v n)) = vat vats v
  front (Named (Own v n)) = vat vats v
  front (Named (Answer h m)) = vat vats h
  front (Named (Gift h i)) = vat vats h
  front (Named (Claimed h p word)) = vat vats h
  front _ = []

  abbrev mark : Shown → ℕ
  mark (Int (negsuc n)) = 45
  mark (Char c) = 39
  mark (Text t) = 34
  mark (Broken t) = 58
  mark (Prim n) = 60
  mark (ListOf v n) = 37
  mark (Slot v n) = 38
  mark (Named a) = name_mark a
  mark (Members' shape row) = 91
  mark other = 10

  -- behind its text a line feed
  parts : (x : Shown) → (r : List ℕ) × (value vats x ++ 10 ∷ [] ≡ front x ++ mark x ∷ r)
  parts (Bool true) = ([], refl)
  parts (Int (negsuc n)) = (decimal (suc n) ++ 10 ∷ [], refl)
  parts (Char c) = (_, refl)
  parts (Text t) = let q = starts t in (q.0 ++ 10 ∷ [], ap (λ xs. xs ++ 10 ∷ []) q.1)
  parts (Broken t) = (shortened t ++ 10 ∷ [], refl)
  parts (Prim n) = ((primitive_name n ++ 62 ∷ []) ++ 10 ∷ [], refl)
  parts (ListOf v n) = (decimal n ++ 10 ∷ [], append_assoc (vat vats v) (37 ∷ decimal n) (10 ∷ []))
  parts (Slot v n) = (decimal n ++ 10 ∷ [], append_assoc (vat vats v) (38 ∷ decimal n) (10 ∷ []))
  parts (Named (Object v n)) = (decimal n ++ 10 ∷ [], append_assoc (vat vats v) (46 ∷ decimal n) (10 ∷ []))
  parts (Named (Own v n)) = (decimal n ++ 10 ∷ [], append_assoc (vat vats v) (126 ∷ decimal n) (10 ∷ []))
  parts (Named (Answer h m)) = (message vats m ++ 10 ∷ [], append_assoc (vat vats h) (63 ∷ message vats m) (10 ∷ []))
  parts (Named (Gift h i)) = (decimal i ++ 10 ∷ [], append_assoc (vat vats h) (94 ∷ decimal i) (10 ∷ []))
  parts (Named (Root v)) = (vat vats v ++ 10 ∷ [], refl)
  parts (Named (Claimed h p word)) = ((vat vats p ++ 58 ∷ hex (low_first 16 word)) ++ 10 ∷ [], append_assoc (vat vats h) (94 ∷ (vat vats p ++ 58 ∷ hex (low_first 16 word))) (10 ∷ []))
  parts (Members' shape row) = (_, refl)
  parts other = ([], refl)

  fronts : (x : Shown) → All (front x)
  fronts (Bool true) = refl
  fronts (Int (pos n)) = decimal_passes names_vat digit_names n
  fronts (ListOf v n) = good.spelled v
  fronts (Slot v n) = good.spelled v
  fronts (Named (Object v n)) = good.spelled v
  fronts (Named (Own v n)) = good.spelled v
  fronts (Named (Answer h m)) = good.spelled h
  fronts (Named (Gift h i)) = good.spelled h
  fronts (Named (Claimed h p word)) = good.spelled h
  fronts other = refl

  marks : (x : Shown) → names_vat (mark x) ≡ false
  marks (Int (pos n)) = refl
  marks (Named a) = name_fails a
  marks other = refl

  -- a thing of a vat by its mark
  pub thing_told : (k v w n x : ℕ) → names_vat k ≡ false → (v < length vats) × (n < 2 ^ 64) → (w < length vats) × (x < 2 ^ 64) → numbered vats v k n ≡ numbered vats w k x → (v ≡ w) × (n ≡ x)
  thing_told k v w n x is h g e = let one = apart names_vat (vat vats v) (vat vats w) (decimal n) (decimal x) k k is is (good.spelled v) (good.spelled w) e in (good.differ v w h.0 g.0 one.0, decimal_injective n x h.1 g.1 one.2)

  -- ---- lists in notes

  vat_ordinary : (c : ℕ) → names_vat c ≡ true → ordinary c ≡ true
  vat_ordinary c h = both_true _ _ (by_test c 10 refl h) (both_true _ _ (by_test c 32 refl h) (both_true _ _ (by_test c 34 refl h) (both_true _ _ (by_test c 39 refl h) (both_true _ _ (by_test c 91 refl h) (by_test c 93 refl h)))))

  all_ordinary : (xs : List ℕ) → All xs → IsOrdinary xs
  all_ordinary [] h = refl
  all_ordinary (x ∷ xs) h = both_true (ordinary x) (list_all ordinary xs) (vat_ordinary x (and_parts (names_vat x) (list_all names_vat xs) h).0) (all_ordinary xs (rest_of names_vat x xs h))

  each_ordinary : (ws : List (List ℕ)) → ((v : ℕ) → All (vat ws v)) → AllOf IsOrdinary ws
  each_ordinary [] h = tt
  each_ordinary (w ∷ ws) h = (all_ordinary w (h zero), each_ordinary ws (λ v. h (suc v)))

  pub ordinary_vats : AllOf IsOrdinary vats
  ordinary_vats = each_ordinary vats good.spelled

  behind_mark : (c : ℕ) (xs r : List ℕ) → IsFull (xs ++ c ∷ r)
  behind_mark c [] r e = cc
  behind_mark c (x ∷ xs) r e = cc

  pub value_full : (x : Shown) → IsFull (value vats x)
  value_full (Bool true) e = cc
  value_full (Int (pos n)) e = decimal_full n e
  value_full (Text t) e = let q = starts t in absurd (nothing 34 q.0 (sym e ∙ q.1))
  value_full (ListOf v n) e = behind_mark 37 (vat vats v) (decimal n) e
  value_full (Slot v n) e = behind_mark 38 (vat vats v) (decimal n) e
  value_full (Named (Object v n)) e = behind_mark 46 (vat vats v) (decimal n) e
  value_full (Named (Own v n)) e = behind_mark 126 (vat vats v) (decimal n) e
  value_full (Named (Answer h m)) e = behind_mark 63 (vat vats h) (message vats m) e
  value_full (Named (Gift h i)) e = behind_mark 94 (vat vats h) (decimal i) e
  value_full (Named (Claimed h p word)) e = behind_mark 94 (vat vats h) (vat vats p ++ 58 ∷ hex (low_first 16 word)) e
  value_full other e = cc

  row_full : {n : _} (row : Row_of-Shown n) → AllOf IsFull (member_values vats row)
  row_full end_of-Shown = tt
  row_full (more_of-Shown x rest) = (value_full x, row_full rest)

  members_told : {m n : _} (r : Row_of-Shown m) (q : Row_of-Shown n) → 91 ∷ (spaced (member_values vats r) ++ 93 ∷ []) ≡ 91 ∷ (spaced (member_values vats q) ++ 93 ∷ []) → member_values vats r ≡ member_values vats q
  members_told r q e = members_apart (member_values vats r) (member_values vats q) (member_words vats ordinary_vats r) (member_words vats ordinary_vats q) (row_full r) (row_full q)
      (tail_is 91 91 (spaced (member_values vats r) ++ 93 ∷ []) (spaced (member_values vats q) ++ 93 ∷ []) e)

  pub head_word : (c d : List ℕ) (cs ds : List (List ℕ)) → ◌≡◌ {A = List (List ℕ)} (c ∷ cs) (d ∷ ds) → c ≡ d
  head_word c d cs ds e = cc

  pub tail_words : (c d : List ℕ) (cs ds : List (List ℕ)) → ◌≡◌ {A = List (List ℕ)} (c ∷ cs) (d ∷ ds) → cs ≡ ds
  tail_words c d cs ds e = cc

  pub no_words : (d : List ℕ) (ds : List (List ℕ)) → ◌≡◌ {A = List (List ℕ)} [] (d ∷ ds) → ⊥
  no_words d ds e = cc

  split : (x y : Shown) → value vats x ≡ value vats y → (front x ≡ front y) × (mark x ≡ mark y)
  split x y e =
      let a = parts x in let b = parts y in
      let one = apart names_vat (front x) (front y) a.0 b.0 (mark x) (mark y) (marks x) (marks y) (fronts x) (fronts y) (sym a.1 ∙ ap (λ xs. xs ++ 10 ∷ []) e ∙ b.1) in
      (one.0, one.1)

  mutual
    inner : {m n : _} (r : Row_of-Shown m) (q : Row_of-Shown n) → AreMembersOf vats r → AreMembersOf vats q → member_values vats r ≡ member_values vats q → AreAlike (row_members r) (row_members q)
    inner end_of-Shown end_of-Shown h k e = none
    inner end_of-Shown (more_of-Shown y others) h k e = absurd (no_words (value vats y) (member_values vats others) e)
    inner (more_of-Shown x rest) end_of-Shown h k e = absurd (no_words (value vats x) (member_values vats rest) (sym e))
    inner (more_of-Shown x rest) (more_of-Shown y others) h k e = let one = head_word (value vats x) (value vats y) (member_values vats rest) (member_values vats others) e in more
        (kinds x y h.0 k.0 one (split x y one).0 (split x y one).1)
        (inner rest others h.1 k.1 (tail_words (value vats x) (value vats y) (member_values vats rest) (member_values vats others) e))

    kinds : (x y : Shown) → IsValueOf vats x → IsValueOf vats y → value vats x ≡ value vats y → front x ≡ front y → mark x ≡ mark y → Alike x y
    kinds Null Null h k e f t' = same
    kinds Null (Bool true) h k e f t' = absurd (other_word 110 (codes "null") (codes "true") refl refl f)
    kinds Null (Bool false) h k e f t' = absurd (other_word 110 (codes "null") (codes "false") refl refl f)
    kinds Null (Int (pos n)) h k e f t' = absurd (no_digits n (codes "null") refl (sym f))
    kinds (Bool true) Null h k e f t' = absurd (other_word 116 (codes "true") (codes "null") refl refl f)
    kinds (Bool true) (Bool true) h k e f t' = same
    kinds (Bool true) (Bool false) h k e f t' = absurd (other_word 116 (codes "true") (codes "false") refl refl f)
    kinds (Bool true) (Int (pos n)) h k e f t' = absurd (no_digits n (codes "true") refl (sym f))
    kinds (Bool true) (Int (negsuc n)) h k e f t' = absurd (two_marks 10 45 refl t')
    kinds (Bool true) (Char d) h k e f t' = absurd (two_marks 10 39 refl t')
    kinds (Bool true) (Text u) h k e f t' = absurd (two_marks 10 34 refl t')
    kinds (Bool true) (Broken u) h k e f t' = absurd (two_marks 10 58 refl t')
    kinds (Bool true) (Prim n) h k e f t' = absurd (two_marks 10 60 refl t')
    kinds (Bool true) (ListOf w n) h k e f t' = absurd (two_marks 10 37 refl t')
    kinds (Bool true) (Slot w n) h k e f t' = absurd (two_marks 10 38 refl t')
    kinds (Bool true) (Named b) h k e f t' = absurd (no_name b 10 refl (sym t'))
    kinds (Bool true) (Members' shape row) h k e f t' = absurd (two_marks 10 91 refl t')
    kinds (Bool false) Null h k e f t' = absurd (other_word 102 (codes "false") (codes "null") refl refl f)
    kinds (Bool false) (Bool true) h k e f t' = absurd (other_word 102 (codes "false") (codes "true") refl refl f)
    kinds (Bool false) (Bool false) h k e f t' = same
    kinds (Bool false) (Int (pos n)) h k e f t' = absurd (no_digits n (codes "false") refl (sym f))
    kinds (Int (pos m)) Null h k e f t' = absurd (no_digits m (codes "null") refl f)
    kinds (Int (pos m)) (Bool true) h k e f t' = absurd (no_digits m (codes "true") refl f)
    kinds (Int (pos m)) (Bool false) h k e f t' = absurd (no_digits m (codes "false") refl f)
    kinds (Int (pos m)) (Int (pos n)) h k e f t' = subst (λ z. Alike (Int (pos m)) (Int z)) (ap pos (wide_is m n h k e)) same
    kinds (Int (negsuc m)) (Bool true) h k e f t' = absurd (two_marks 45 10 refl t')
    kinds (Int (negsuc m)) (Int (negsuc n)) h k e f t' = subst (λ z. Alike (Int (negsuc m)) (Int z)) (ap negsuc (suc_is m n (wide_is (suc m) (suc n) h k (tail_is 45 45 (decimal (suc m)) (decimal (suc n)) e)))) same
    kinds (Int (negsuc m)) (Char d) h k e f t' = absurd (two_marks 45 39 refl t')
    kinds (Int (negsuc m)) (Text u) h k e f t' = absurd (two_marks 45 34 refl t')
    kinds (Int (negsuc m)) (Broken u) h k e f t' = absurd (two_marks 45 58 refl t')
    kinds (Int (negsuc m)) (Prim n) h k e f t' = absurd (two_marks 45 60 refl t')
    kinds (Int (negsuc m)) (ListOf w n) h k e f t' = absurd (two_marks 45 37 refl t')
    kinds (Int (negsuc m)) (Slot w n) h k e f t' = absurd (two_marks 45 38 refl t')
    kinds (Int (negsuc m)) (Named b) h k e f t' = absurd (no_name b 45 refl (sym t'))
    kinds (Int (negsuc m)) (Members' shape row) h k e f t' = absurd (two_marks 45 91 refl t')
    kinds (Char c) (Bool true) h k e f t' = absurd (two_marks 39 10 refl t')
    kinds (Char c) (Int (negsuc n)) h k e f t' = absurd (two_marks 39 45 refl t')
    kinds (Char c) (Char d) h k e f t' = characters e
    kinds (Char c) (Text u) h k e f t' = absurd (two_marks 39 34 refl t')
    kinds (Char c) (Broken u) h k e f t' = absurd (two_marks 39 58 refl t')
    kinds (Char c) (Prim n) h k e f t' = absurd (two_marks 39 60 refl t')
    kinds (Char c) (ListOf w n) h k e f t' = absurd (two_marks 39 37 refl t')
    kinds (Char c) (Slot w n) h k e f t' = absurd (two_marks 39 38 refl t')
    kinds (Char c) (Named b) h k e f t' = absurd (no_name b 39 refl (sym t'))
    kinds (Char c) (Members' shape row) h k e f t' = absurd (two_marks 39 91 refl t')
    kinds (Text t) (Bool true) h k e f t' = absurd (two_marks 34 10 refl t')
    kinds (Text t) (Int (negsuc n)) h k e f t' = absurd (two_marks 34 45 refl t')
    kinds (Text t) (Char d) h k e f t' = absurd (two_marks 34 39 refl t')
    kinds (Text t) (Text u) h k e f t' = texts e
    kinds (Text t) (Broken u) h k e f t' = absurd (two_marks 34 58 refl t')
    kinds (Text t) (Prim n) h k e f t' = absurd (two_marks 34 60 refl t')
    kinds (Text t) (ListOf w n) h k e f t' = absurd (two_marks 34 37 refl t')
    kinds (Text t) (Slot w n) h k e f t' = absurd (two_marks 34 38 refl t')
    kinds (Text t) (Named b) h k e f t' = absurd (no_name b 34 refl (sym t'))
    kinds (Text t) (Members' shape row) h k e f t' = absurd (two_marks 34 91 refl t')
    kinds (Broken t) (Bool true) h k e f t' = absurd (two_marks 58 10 refl t')
    kinds (Broken t) (Int (negsuc n)) h k e f t' = absurd (two_marks 58 45 refl t')
    kinds (Broken t) (Char d) h k e f t' = absurd (two_marks 58 39 refl t')
    kinds (Broken t) (Text u) h k e f t' = absurd (two_marks 58 34 refl t')
    kinds (Broken t) (Broken u) h k e f t' = problems (ap (drop 7) e)
    kinds (Broken t) (Prim n) h k e f t' = absurd (two_marks 58 60 refl t')
    kinds (Broken t) (ListOf w n) h k e f t' = absurd (two_marks 58 37 refl t')
    kinds (Broken t) (Slot w n) h k e f t' = absurd (two_marks 58 38 refl t')
    kinds (Broken t) (Named b) h k e f t' = absurd (no_name b 58 refl (sym t'))
    kinds (Broken t) (Members' shape row) h k e f t' = absurd (two_marks 58 91 refl t')
    kinds (Prim m) (Bool true) h k e f t' = absurd (two_marks 60 10 refl t')
    kinds (Prim m) (Int (negsuc n)) h k e f t' = absurd (two_marks 60 45 refl t')
    kinds (Prim m) (Char d) h k e f t' = absurd (two_marks 60 39 refl t')
    kinds (Prim m) (Text u) h k e f t' = absurd (two_marks 60 34 refl t')
    kinds (Prim m) (Broken u) h k e f t' = absurd (two_marks 60 58 refl t')
    kinds (Prim m) (Prim n) h k e f t' = primitives (cancel_last 62 (primitive_name m) (primitive_name n) (tail_is 60 60 (primitive_name m ++ 62 ∷ []) (primitive_name n ++ 62 ∷ []) e))
    kinds (Prim m) (ListOf w n) h k e f t' = absurd (two_marks 60 37 refl t')
    kinds (Prim m) (Slot w n) h k e f t' = absurd (two_marks 60 38 refl t')
    kinds (Prim m) (Named b) h k e f t' = absurd (no_name b 60 refl (sym t'))
    kinds (Prim m) (Members' shape row) h k e f t' = absurd (two_marks 60 91 refl t')
    kinds (ListOf v m) (Bool true) h k e f t' = absurd (two_marks 37 10 refl t')
    kinds (ListOf v m) (Int (negsuc n)) h k e f t' = absurd (two_marks 37 45 refl t')
    kinds (ListOf v m) (Char d) h k e f t' = absurd (two_marks 37 39 refl t')
    kinds (ListOf v m) (Text u) h k e f t' = absurd (two_marks 37 34 refl t')
    kinds (ListOf v m) (Broken u) h k e f t' = absurd (two_marks 37 58 refl t')
    kinds (ListOf v m) (Prim n) h k e f t' = absurd (two_marks 37 60 refl t')
    kinds (ListOf v m) (ListOf w n) h k e f t' = let one = thing_told 37 v w m n refl h k e in subst (λ z. Alike (ListOf v m) (ListOf w z)) one.1 (subst (λ z. Alike (ListOf v m) (ListOf z m)) one.0 same)
    kinds (ListOf v m) (Slot w n) h k e f t' = absurd (two_marks 37 38 refl t')
    kinds (ListOf v m) (Named b) h k e f t' = absurd (no_name b 37 refl (sym t'))
    kinds (ListOf v m) (Members' shape row) h k e f t' = absurd (two_marks 37 91 refl t')
    kinds (Slot v m) (Bool true) h k e f t' = absurd (two_marks 38 10 refl t')
    kinds (Slot v m) (Int (negsuc n)) h k e f t' = absurd (two_marks 38 45 refl t')
    kinds (Slot v m) (Char d) h k e f t' = absurd (two_marks 38 39 refl t')
    kinds (Slot v m) (Text u) h k e f t' = absurd (two_marks 38 34 refl t')
    kinds (Slot v m) (Broken u) h k e f t' = absurd (two_marks 38 58 refl t')
    kinds (Slot v m) (Prim n) h k e f t' = absurd (two_marks 38 60 refl t')
    kinds (Slot v m) (ListOf w n) h k e f t' = absurd (two_marks 38 37 refl t')
    kinds (Slot v m) (Slot w n) h k e f t' = let one = thing_told 38 v w m n refl h k e in subst (λ z. Alike (Slot v m) (Slot w z)) one.1 (subst (λ z. Alike (Slot v m) (Slot z m)) one.0 same)
    kinds (Slot v m) (Named b) h k e f t' = absurd (no_name b 38 refl (sym t'))
    kinds (Slot v m) (Members' shape row) h k e f t' = absurd (two_marks 38 91 refl t')
    kinds (Named a) (Bool true) h k e f t' = absurd (no_name a 10 refl t')
    kinds (Named a) (Int (negsuc n)) h k e f t' = absurd (no_name a 45 refl t')
    kinds (Named a) (Char d) h k e f t' = absurd (no_name a 39 refl t')
    kinds (Named a) (Text u) h k e f t' = absurd (no_name a 34 refl t')
    kinds (Named a) (Broken u) h k e f t' = absurd (no_name a 58 refl t')
    kinds (Named a) (Prim n) h k e f t' = absurd (no_name a 60 refl t')
    kinds (Named a) (ListOf w n) h k e f t' = absurd (no_name a 37 refl t')
    kinds (Named a) (Slot w n) h k e f t' = absurd (no_name a 38 refl t')
    kinds (Named a) (Named b) h k e f t' = subst (λ z. Alike (Named a) (Named z)) (name_told vats (are_names vats good) a b h k e) same
    kinds (Named a) (Members' shape row) h k e f t' = absurd (no_name a 91 refl t')
    kinds (Members' shape row) (Bool true) h k e f t' = absurd (two_marks 91 10 refl t')
    kinds (Members' shape row) (Int (negsuc n)) h k e f t' = absurd (two_marks 91 45 refl t')
    kinds (Members' shape row) (Char d) h k e f t' = absurd (two_marks 91 39 refl t')
    kinds (Members' shape row) (Text u) h k e f t' = absurd (two_marks 91 34 refl t')
    kinds (Members' shape row) (Broken u) h k e f t' = absurd (two_marks 91 58 refl t')
    kinds (Members' shape row) (Prim n) h k e f t' = absurd (two_marks 91 60 refl t')
    kinds (Members' shape row) (ListOf w n) h k e f t' = absurd (two_marks 91 37 refl t')
    kinds (Members' shape row) (Slot w n) h k e f t' = absurd (two_marks 91 38 refl t')
    kinds (Members' shape row) (Named b) h k e f t' = absurd (no_name b 91 refl (sym t'))
    kinds (Members' shape row) (Members' other others) h k e f t' = lists refl refl (inner row others h k (members_told row others e))
    kinds other (Int (negsuc n)) h k e f t' = absurd (two_marks 10 45 refl t')
    kinds other (Char d) h k e f t' = absurd (two_marks 10 39 refl t')
    kinds other (Text u) h k e f t' = absurd (two_marks 10 34 refl t')
    kinds other (Broken u) h k e f t' = absurd (two_marks 10 58 refl t')
    kinds other (Prim n) h k e f t' = absurd (two_marks 10 60 refl t')
    kinds other (ListOf w n) h k e f t' = absurd (two_marks 10 37 refl t')
    kinds other (Slot w n) h k e f t' = absurd (two_marks 10 38 refl t')
    kinds other (Named b) h k e f t' = absurd (no_name b 10 refl (sym t'))
    kinds other (Members' shape row) h k e f t' = absurd (two_marks 10 91 refl t')
    kinds (Int (negsuc m)) other h k e f t' = absurd (two_marks 45 10 refl t')
    kinds (Char c) other h k e f t' = absurd (two_marks 39 10 refl t')
    kinds (Text t) other h k e f t' = absurd (two_marks 34 10 refl t')
    kinds (Broken t) other h k e f t' = absurd (two_marks 58 10 refl t')
    kinds (Prim m) other h k e f t' = absurd (two_marks 60 10 refl t')
    kinds (ListOf v m) other h k e f t' = absurd (two_marks 37 10 refl t')
    kinds (Slot v m) other h k e f t' = absurd (two_marks 38 10 refl t')
    kinds (Named a) other h k e f t' = absurd (no_name a 10 refl t')
    kinds (Members' shape row) other h k e f t' = absurd (two_marks 91 10 refl t')

  pub value_told : (x y : Shown) → IsValueOf vats x → IsValueOf vats y → value vats x ≡ value vats y → Alike x y
  value_told x y h k e = kinds x y h k e (split x y e).0 (split x y e).1

  -- ---- words that are no values

  abbrev IsPlainWord : List ℕ → Type 0
  IsPlainWord w = All w × (list_all is_digit w ≡ false) × (begins_with 110 w ≡ false) × (begins_with 116 w ≡ false) × (begins_with 102 w ≡ false)

  by_front : (w : List ℕ) → IsPlainWord w → (x : Shown) → w ≡ front x → 10 ≡ mark x → ⊥
  by_front w h Null e t' = other_word 110 (codes "null") w refl h.2 (sym e)
  by_front w h (Bool true) e t' = other_word 116 (codes "true") w refl h.3 (sym e)
  by_front w h (Bool false) e t' = other_word 102 (codes "false") w refl h.4 (sym e)
  by_front w h (Int (pos n)) e t' = no_digits n w h.1 (sym e)
  by_front w h (Int (negsuc n)) e t' = two_marks 10 45 refl t'
  by_front w h (Char c) e t' = two_marks 10 39 refl t'
  by_front w h (Text t) e t' = two_marks 10 34 refl t'
  by_front w h (Broken t) e t' = two_marks 10 58 refl t'
  by_front w h (Prim n) e t' = two_marks 10 60 refl t'
  by_front w h (ListOf v n) e t' = two_marks 10 37 refl t'
  by_front w h (Slot v n) e t' = two_marks 10 38 refl t'
  by_front w h (Named a) e t' = no_name a 10 refl (sym t')
  by_front w h (Members' shape row) e t' = two_marks 10 91 refl t'

  pub no_value : (w : List ℕ) → IsPlainWord w → (x : Shown) → w ≡ value vats x → ⊥
  no_value w h x e =
      let b = parts x in
      let one = apart names_vat w (front x) [] b.0 10 (mark x) refl (marks x) h.0 (fronts x) (ap (λ xs. xs ++ 10 ∷ []) e ∙ b.1) in
      by_front w h x one.0 one.1

  by_arrow : (x : Shown) → codes "->" ≡ value vats x → 45 ≡ mark x → ⊥
  by_arrow (Bool true) e t' = two_marks 45 10 refl t'
  by_arrow (Int (negsuc n)) e t' = no_digits (suc n) (62 ∷ []) refl (sym (tail_is 45 45 (62 ∷ []) (decimal (suc n)) e))
  by_arrow (Char c) e t' = two_marks 45 39 refl t'
  by_arrow (Text t) e t' = two_marks 45 34 refl t'
  by_arrow (Broken t) e t' = two_marks 45 58 refl t'
  by_arrow (Prim n) e t' = two_marks 45 60 refl t'
  by_arrow (ListOf v n) e t' = two_marks 45 37 refl t'
  by_arrow (Slot v n) e t' = two_marks 45 38 refl t'
  by_arrow (Named a) e t' = no_name a 45 refl (sym t')
  by_arrow (Members' shape row) e t' = two_marks 45 91 refl t'
  by_arrow other e t' = two_marks 45 10 refl t'

  pub arrow_is_no_value : (x : Shown) → codes "->" ≡ value vats x → ⊥
  arrow_is_no_value x e =
      let b = parts x in
      let one = apart names_vat [] (front x) (62 ∷ 10 ∷ []) b.0 45 (mark x) refl (marks x) refl (fronts x) (ap (λ xs. xs ++ 10 ∷ []) e ∙ b.1) in
      by_arrow x e one.1
