-- Each vat of events has a place among the names that are found in their lines.
use Rattle.std.proofs.Common.{◌≡◌, ◌<◌, ◌≤◌, ◌++◌, ◌&&◌, ℕ, zero, suc, Bool, true, false, cond, List, [], ◌∷◌, Option, Some, None, inl, inr, length, length-append, map, refl, sym, ap, subst, arith}
use Rattle.std.specs.Prelude.{is_none, is_some, nat_le, option_map, unwrap_or}
use Rattle.std.specs.List.{flat_map, list_all}
use Rattle.std.specs.Str.{bytes_eq}
use Rattle.std.proofs.lemmas.Bool.{le-leb}
use Rattle.std.proofs.lemmas.Slice.Eq.{bytes_eq-Decides}
use Rattle.def_event.specs.declared.event.Event.TheVariants.{End}
use Rattle.def_event.specs.Lines.{vat, words}
use Rattle.ev_script.specs.Vats.{is_vat_name, place_of}
use Rattle.ev_trace.specs.Naming.{line_vats, with_name, with_names}
use Rattle.law_trace.specs.Trace.Texts.{found}
use Rattle.law_trace.specs.Trace.Found.{Stands}
use Rattle.law_trace.specs.Trace.Placed.{TextsAreNumbered, VatsHavePlaces, place_in}
use Rattle.law_trace.proofs.Trace.ValuesAgain.{both}
use Rattle.law_trace.proofs.Trace.VatsFound.{events_in}
use Rattle.law_trace.proofs.Trace.WholeAgain.{texts_again}

is_name : (names : List (List ℕ)) (v : ℕ) → list_all is_vat_name names ≡ true → v < length names → is_vat_name (vat names v) ≡ true
is_name [] v e h = absurd (omega arith)
is_name (x ∷ names) zero e h = (both (is_vat_name x) (list_all is_vat_name names) e).0
is_name (x ∷ names) (suc v) e h = is_name names v (both (is_vat_name x) (list_all is_vat_name names) e).1 (omega arith)

-- ---- names that go to the end

-- the name has a place there
abbrev HasPlace : List (List ℕ) → List ℕ → Type 0
HasPlace ns w = is_some (place_of ns w) ≡ true

next_place : (t : Bool) (o p : Option ℕ) → (is_some o ≡ true → is_some p ≡ true) → is_some (cond t (Some 0) (option_map suc o)) ≡ true → is_some (cond t (Some 0) (option_map suc p)) ≡ true
next_place true o p f h = refl
next_place false None p f h = absurd cc
next_place false (Some n) None f h = f refl
next_place false (Some n) (Some m) f h = refl

place_more : (ns : List (List ℕ)) (w x : List ℕ) → HasPlace ns w → HasPlace (ns ++ x ∷ []) w
place_more [] w x h = absurd cc
place_more (y ∷ ns) w x h = next_place (bytes_eq w y) (place_of ns w) (place_of (ns ++ x ∷ []) w) (place_more ns w x) h

some_place : (t : Bool) (o : Option ℕ) → is_some o ≡ true → is_some (cond t (Some 0) (option_map suc o)) ≡ true
some_place true o h = refl
some_place false None h = absurd cc
some_place false (Some n) h = refl

place_last : (ns : List (List ℕ)) (w : List ℕ) → HasPlace (ns ++ w ∷ []) w
place_last [] w = ap (λ t. is_some (cond {A = Option ℕ} t (Some 0) None)) ((bytes_eq-Decides w w).1 refl)
place_last (y ∷ ns) w = some_place (bytes_eq w y) (place_of (ns ++ w ∷ []) w) (place_last ns w)

pick : (P : List (List ℕ) → Type 0) (t : Bool) (xs ys : List (List ℕ)) → (t ≡ true → P xs) → (t ≡ false → P ys) → P (cond t xs ys)
pick P true xs ys h k = h refl
pick P false xs ys h k = k refl

one_keeps : (ns : List (List ℕ)) (w x : List ℕ) → HasPlace ns w → HasPlace (with_name ns x) w
one_keeps ns w x h = pick (λ ms. HasPlace ms w) (nat_le (length ns) 16 && is_vat_name x && is_none (place_of ns x)) (ns ++ x ∷ []) ns (λ e. place_more ns w x h) (λ e. h)

by_place : (ns : List (List ℕ)) (w : List ℕ) (o : Option ℕ) → place_of ns w ≡ o → nat_le (length ns) 16 ≡ true → is_vat_name w ≡ true → HasPlace (with_name ns w) w
by_place ns w (Some n) s few named = one_keeps ns w w (ap is_some s)
by_place ns w None s few named =
    let test : (nat_le (length ns) 16 && is_vat_name w && is_none (place_of ns w)) ≡ true = rw (few, named, s) refl in
    subst (λ t. HasPlace (cond t (ns ++ w ∷ []) ns) w) (sym test) (place_last ns w)

one_longer : (ns : List (List ℕ)) (x : List ℕ) → length ns ≤ length (with_name ns x)
one_longer ns x = pick (λ ms. length ns ≤ length ms) (nat_le (length ns) 16 && is_vat_name x && is_none (place_of ns x)) (ns ++ x ∷ []) ns (λ e. omega (arith, length-append ns (x ∷ []))) (λ e. omega arith)

longer : (ns xs : List (List ℕ)) → length ns ≤ length (with_names ns xs)
unfolding with_names
longer ns [] = omega arith
longer ns (x ∷ xs) = let a = one_longer ns x in let b = longer (with_name ns x) xs in omega (arith, a, b)

all_keep : (ns xs : List (List ℕ)) (w : List ℕ) → HasPlace ns w → HasPlace (with_names ns xs) w
unfolding with_names
all_keep ns [] w h = h
all_keep ns (x ∷ xs) w h = all_keep (with_name ns x) xs w (one_keeps ns w x h)

all_have : (ns xs : List (List ℕ)) (w : List ℕ) → Stands w xs → is_vat_name w ≡ true → length (with_names ns xs) ≤ 16 → HasPlace (with_names ns xs) w
unfolding with_names
all_have ns [] w i named few = absurd i
all_have ns (x ∷ xs) w (inl e) named few =
    let a = one_longer ns x in let b = longer (with_name ns x) xs in
    let less : nat_le (length ns) 16 ≡ true = le-leb (length ns) 16 (omega (arith, a, b, few)) in
    all_keep (with_name ns x) xs w (subst (λ y. HasPlace (with_name ns y) w) e (by_place ns w (place_of ns w) refl less named))
all_have ns (x ∷ xs) w (inr i) named few = all_have (with_name ns x) xs w i named few

its_place : (o : Option ℕ) → is_some o ≡ true → o ≡ Some (unwrap_or o 0)
its_place None h = absurd cc
its_place (Some n) h = refl

pub vats_placed : VatsHavePlaces
vats_placed names es are h few = record {
  few = few;
  placed = events_in names are (λ v. place_of (found names es) (vat names v) ≡ Some (place_in names es v)) es h (λ v l i.
      its_place (place_of (found names es) (vat names v)) (all_have [] (flat_map line_vats (map (words names) es)) (vat names v) i (is_name names v are.lawful l) few));
}

pub texts_numbered : TextsAreNumbered
texts_numbered = record {
  ended = λ names es are h few. texts_again.ended names (place_in names (es ++ End ∷ [])) es (vats_placed names (es ++ End ∷ []) are h few);
  stopped = λ names es stop are h few one is. texts_again.stopped names (place_in names es) es stop (vats_placed names es are h few) one is;
}
