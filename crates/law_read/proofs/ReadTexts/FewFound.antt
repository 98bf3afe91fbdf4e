-- No more names are found in lines than there are vats.
use Rattle.std.proofs.Common.{◌≡◌, ◌≤◌, ◌++◌, ◌&&◌, ◌||◌, ℕ, suc, Bool, true, false, not, cond, List, [], ◌∷◌, inl, inr, length, map, refl, sym, ◌∙◌, ap, subst, arith}
use Rattle.std.specs.Prelude.{is_none, nat_le}
use Rattle.std.specs.List.{flat_map, list_any}
use Rattle.std.specs.Str.{bytes_eq}
use Rattle.std.proofs.lemmas.Slice.Eq.{bytes_eq-Decides}
use Rattle.def_event.specs.declared.event.Event.{Event}
use Rattle.def_event.specs.Lines.{words}
use Rattle.ev_script.specs.Vats.{differ, is_vat_name, place_of}
use Rattle.ev_trace_words.specs.Laws.{AreNames}
use Rattle.ev_trace.specs.Naming.{line_vats, with_name, with_names}
use Rattle.law_text.specs.Text.Feeds.{AllOf}
use Rattle.law_trace.specs.Trace.Found.{Stands}
use Rattle.law_trace.specs.Trace.Readable.{Below, IsRead}
use Rattle.law_trace.specs.Trace.Texts.{found}
use Rattle.law_trace.proofs.Trace.NamesFound.{names_are}
use Rattle.law_trace.proofs.Trace.ValuesAgain.{both}
use Rattle.law_read.specs.ReadTexts.Found.{LinesNameVats, OnlyVatsAreFound}
use Rattle.law_read.proofs.ReadTexts.Tells.{AreVats}
use Rattle.law_read.proofs.ReadTexts.LinesTell.{all_join, line}

-- ---- names that differ and stand among others are no more than these

-- all but the first such name
without : List ℕ → List (List ℕ) → List (List ℕ)
without n [] = []
without n (y ∷ ys) = cond (bytes_eq n y) ys (y ∷ without n ys)

same_name : (n y : List ℕ) → n ≡ y → bytes_eq n y ≡ true
same_name n y e = (bytes_eq-Decides n y).1 e

one_less : (n : List ℕ) (ys : List (List ℕ)) → Stands n ys → length ys ≡ suc (length (without n ys))
unfolding without
one_less n [] h = absurd h
one_less n (y ∷ ys) (inl e) = ap (λ t. suc (length (cond t ys (y ∷ without n ys)))) (sym (same_name n y e))
one_less n (y ∷ ys) (inr h) = by (bytes_eq n y) (one_less n ys h)
  where
    by : (t : Bool) → length ys ≡ suc (length (without n ys)) → suc (length ys) ≡ suc (length (cond t ys (y ∷ without n ys)))
    by true e = refl
    by false e = ap suc e

stays_in : (n m : List ℕ) (ys : List (List ℕ)) → bytes_eq n m ≡ false → Stands m ys → Stands m (without n ys)
unfolding without
stays_in n m [] e h = absurd h
stays_in n m (y ∷ ys) e (inl same) = subst (λ t. Stands m (cond t ys (y ∷ without n ys))) (sym (ap (bytes_eq n) (sym same) ∙ e)) (inl same)
stays_in n m (y ∷ ys) e (inr h) = by (bytes_eq n y) h (stays_in n m ys e h)
  where
    by : (t : Bool) → Stands m ys → Stands m (without n ys) → Stands m (cond t ys (y ∷ without n ys))
    by true h k = h
    by false h k = inr k

other_first : (a b : Bool) → not (a || b) ≡ true → (a ≡ false) × (not b ≡ true)
other_first true b h = absurd cc
other_first false b h = (refl, h)

all_stay : (n : List ℕ) (xs ys : List (List ℕ)) → not (list_any (bytes_eq n) xs) ≡ true → AllOf (λ m. Stands m ys) xs → AllOf (λ m. Stands m (without n ys)) xs
all_stay n [] ys d h = tt
all_stay n (x ∷ xs) ys d h = let t = other_first (bytes_eq n x) (list_any (bytes_eq n) xs) d in (stays_in n x ys t.0 h.0, all_stay n xs ys t.1 h.1)

no_more : (xs ys : List (List ℕ)) → differ xs ≡ true → AllOf (λ n. Stands n ys) xs → length xs ≤ length ys
no_more [] ys d h = omega arith
no_more (x ∷ xs) ys d h =
    let t = both (not (list_any (bytes_eq x) xs)) (differ xs) d in let less = one_less x ys h.0 in let more = no_more xs (without x ys) t.1 (all_stay x xs ys t.0 h.1) in omega (arith, less, more)

-- ---- what goes to the end was found

pick : (P : List (List ℕ) → Type 0) (t : Bool) (xs ys : List (List ℕ)) → P xs → P ys → P (cond t xs ys)
pick P true xs ys h k = h
pick P false xs ys h k = k

all_were : (P : List ℕ → Type 0) (ns ws : List (List ℕ)) → AllOf P ns → AllOf P ws → AllOf P (with_names ns ws)
unfolding with_names
all_were P ns [] h k = h
all_were P ns (w ∷ ws) h k =
    all_were P (with_name ns w) ws (pick (AllOf P) (nat_le (length ns) 16 && is_vat_name w && is_none (place_of ns w)) (ns ++ w ∷ []) ns (all_join P ns (w ∷ []) h (k.0, tt)) h) k.1

module _ (names : List (List ℕ)) (are : AreNames names) where
  each_line : (es : List Event) → AllOf (IsRead (Below names)) es → AreVats names are (flat_map line_vats (map (words names) es))
  each_line [] h = tt
  each_line (e ∷ es) h = all_join _ (line_vats (words names e)) (flat_map line_vats (map (words names) es)) (line names are e h.0).1 (each_line es h.1)

pub lines_name : LinesNameVats
lines_name names e are h = (line names are e h).1

pub only_vats : OnlyVatsAreFound
only_vats names es are h =
    let all = all_were (λ n. Stands n names) [] (flat_map line_vats (map (words names) es)) tt (each_line names are es h) in
    (all, no_more (found names es) names (names_are (map (words names) es)).apart all)
