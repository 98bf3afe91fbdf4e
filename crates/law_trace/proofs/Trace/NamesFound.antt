-- The names that are found in lines are names of vats, and differ.
use Rattle.std.proofs.Common.{◌≡◌, ◌&&◌, ◌||◌, ◌++◌, ℕ, suc, Bool, true, false, not, cond, List, [], ◌∷◌, Option, Some, None, refl, sym, ◌∙◌}
use Rattle.std.specs.Prelude.{is_none, length, nat_le, option_map}
use Rattle.std.specs.List.{flat_map, list_all, list_any}
use Rattle.std.specs.Str.{bytes_eq}
use Rattle.std.proofs.lemmas.List.Folds.{list_all-append}
use Rattle.std.proofs.lemmas.Slice.Eq.{bytes_eq-Decides}
use Rattle.ev_script.specs.Vats.{differ, is_vat_name, place_of}
use Rattle.ev_trace_words.specs.Laws.{AreNames}
use Rattle.ev_trace_lines.specs.Events.{Words}
use Rattle.ev_trace.specs.Naming.{line_vats, names_in, with_name, with_names}
use Rattle.law_trace.proofs.Trace.ValuesAgain.{both}

and_true : (a b : Bool) → a ≡ true → b ≡ true → (a && b) ≡ true
and_true a b e f = rw (e, f) refl

turned : (x y : List ℕ) (t : Bool) → bytes_eq x y ≡ t → bytes_eq y x ≡ false → bytes_eq x y ≡ false
turned x y false e f = e
turned x y true e f = let both_ways : true ≡ false = sym ((bytes_eq-Decides y x).1 (sym ((bytes_eq-Decides x y).0 e))) ∙ f in absurd cc

none_more : (p : List ℕ → Bool) (xs : List (List ℕ)) (y : List ℕ) → not (list_any p xs) ≡ true → p y ≡ false → not (list_any p (xs ++ y ∷ [])) ≡ true
none_more p [] y h e = rw e refl
none_more p (x ∷ xs) y h e = by (p x) h (λ i. none_more p xs y i e)
  where
    by : (t : Bool) → not (t || list_any p xs) ≡ true → (not (list_any p xs) ≡ true → not (list_any p (xs ++ y ∷ [])) ≡ true) → not (t || list_any p (xs ++ y ∷ [])) ≡ true
    by true h more = absurd cc
    by false h more = more h

-- a name that has no place differs from each
not_here : (t : Bool) (o : Option ℕ) → is_none (cond t (Some 0) (option_map suc o)) ≡ true → (t ≡ false) × (is_none o ≡ true)
not_here true o h = absurd cc
not_here false None h = (refl, refl)
not_here false (Some n) h = absurd cc

differ_more : (names : List (List ℕ)) (word : List ℕ) → differ names ≡ true → is_none (place_of names word) ≡ true → differ (names ++ word ∷ []) ≡ true
differ_more [] word h e = refl
differ_more (x ∷ names) word h e =
    let t = both (not (list_any (bytes_eq x) names)) (differ names) h in
    let k = not_here (bytes_eq word x) (place_of names word) e in
    and_true (not (list_any (bytes_eq x) (names ++ word ∷ []))) (differ (names ++ word ∷ [])) (none_more (bytes_eq x) names word t.0 (turned x word (bytes_eq x word) refl k.0)) (differ_more names word t.1 k.1)

lawful_more : (names : List (List ℕ)) (word : List ℕ) → list_all is_vat_name names ≡ true → is_vat_name word ≡ true → list_all is_vat_name (names ++ word ∷ []) ≡ true
lawful_more names word h e = list_all-append is_vat_name names (word ∷ []) ∙ and_true (list_all is_vat_name names) (list_all is_vat_name (word ∷ [])) h (and_true (is_vat_name word) true e refl)

one_more : (names : List (List ℕ)) (word : List ℕ) (t : Bool) → AreNames names → (nat_le (length names) 16 && is_vat_name word && is_none (place_of names word)) ≡ t → AreNames (cond t (names ++ word ∷ []) names)
one_more names word true are e =
    let a = both (nat_le (length names) 16 && is_vat_name word) (is_none (place_of names word)) e in
    record { lawful = lawful_more names word are.lawful (both (nat_le (length names) 16) (is_vat_name word) a.0).1; apart = differ_more names word are.apart a.1 }
one_more names word false are e = are

all_more : (names words : List (List ℕ)) → AreNames names → AreNames (with_names names words)
unfolding with_names
all_more names [] are = are
all_more names (word ∷ words) are = all_more (with_name names word) words (one_more names word (nat_le (length names) 16 && is_vat_name word && is_none (place_of names word)) are refl)

pub names_are : (ls : List Words) → AreNames (names_in ls)
names_are ls = all_more [] (flat_map line_vats ls) (record { lawful = refl; apart = refl })
