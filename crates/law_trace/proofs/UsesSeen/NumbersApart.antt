-- A vat has the place of its name among those that are found, and where it has none a number behind these: so no two vats have one number.
use Rattle.std.proofs.Common.{◌≡◌, ◌+◌, ◌<◌, ◌∙◌, ℕ, suc, Bool, true, false, cond, List, [], ◌∷◌, length, slice_get, Option, Some, None, option_map, refl, sym, ap, subst, arith}
use Rattle.std.specs.Prelude.{unwrap_or}
use Rattle.std.specs.List.{list_all}
use Rattle.std.specs.Str.{bytes_eq}
use Rattle.std.proofs.lemmas.Option.{slice_get_within}
use Rattle.std.proofs.lemmas.Slice.Eq.{bytes_eq-Decides}
use Rattle.def_event.specs.Lines.{vat}
use Rattle.ev_script.specs.Vats.{is_vat_name, place_of}
use Rattle.ev_trace_words.specs.Laws.{AreNames}
use Rattle.ev_trace_words.proofs.Printed.{place_again}
use Rattle.ev_trace_words.proofs.Spelled.{place_is}
use Rattle.law_trace.proofs.Trace.ValuesAgain.{both as and_parts}
use Rattle.law_trace.proofs.UsesSeen.Same.{some_of}

-- a word that has a place among names is such a name
placed_name : (names : List (List ℕ)) (word : List ℕ) (p : ℕ) → list_all is_vat_name names ≡ true → place_of names word ≡ Some p → is_vat_name word ≡ true
placed_name [] word p all e = absurd cc
placed_name (x ∷ names) word p all e = by (bytes_eq word x) refl e (λ q. placed_name names word q parts.1)
  where
    parts : (is_vat_name x ≡ true) × (list_all is_vat_name names ≡ true)
    parts = and_parts (is_vat_name x) (list_all is_vat_name names) all

    by : (t : Bool) → bytes_eq word x ≡ t → cond t (Some 0) (option_map suc (place_of names word)) ≡ Some p → ((q : ℕ) → place_of names word ≡ Some q → is_vat_name word ≡ true) → is_vat_name word ≡ true
    by true same i more = subst (λ (w : List ℕ). is_vat_name w ≡ true) (sym ((bytes_eq-Decides word x).0 same)) parts.0
    by false same i more = let m = some_of suc (place_of names word) (option_map suc (place_of names word)) p refl i in more m.0 m.1

-- a vat with such a name is one of those that have names
within : (names : List (List ℕ)) (v : ℕ) → is_vat_name (vat names v) ≡ true → v < length names
within names v h = by (slice_get names v) refl h
  where
    by : (o : Option (List ℕ)) → slice_get names v ≡ o → is_vat_name (unwrap_or o []) ≡ true → v < length names
    by None e named = absurd cc
    by (Some x) e named = slice_get_within names v x e

abbrev number_by : ℕ → ℕ → Option ℕ → ℕ
number_by many v None = many + v
number_by many v (Some p) = p

module _ (names found : List (List ℕ)) (are : AreNames names) (too : AreNames found) where
  -- the place of the name of the vat
  abbrev Place : ℕ → Option ℕ → Type 0
  Place v o = place_of found (vat names v) ≡ o

  is_named : (v p : ℕ) → Place v (Some p) → is_vat_name (vat names v) ≡ true
  is_named v p e = placed_name found (vat names v) p too.lawful e

  place_below : (v p : ℕ) → Place v (Some p) → p < length found
  place_below v p e = within found p (subst (λ (w : List ℕ). is_vat_name w ≡ true) (sym (place_is found (vat names v) p e)) (is_named v p e))

  itself : (v p : ℕ) → Place v (Some p) → place_of names (vat names v) ≡ Some v
  itself v p e = place_again names v are.apart (within names v (is_named v p e))

  one_place : (v w p q : ℕ) → Place v (Some p) → Place w (Some q) → p ≡ q → v ≡ w
  one_place v w p q e f same =
      let word : vat names v ≡ vat names w = sym (place_is found (vat names v) p e) ∙ ap (vat found) same ∙ place_is found (vat names w) q f in
      let one : Some v ≡ Some w = sym (itself v p e) ∙ ap (place_of names) word ∙ itself w q f in
      cc

  apart_by : (v w : ℕ) (o q : Option ℕ) → Place v o → Place w q → number_by (length found) v o ≡ number_by (length found) w q → v ≡ w
  apart_by v w None None e f same = omega arith
  apart_by v w None (Some q) e f same = let below = place_below w q f in absurd (omega arith)
  apart_by v w (Some p) None e f same = let below = place_below v p e in absurd (omega arith)
  apart_by v w (Some p) (Some q) e f same = one_place v w p q e f same

abbrev pub number_in : List (List ℕ) → List (List ℕ) → ℕ → ℕ
number_in names found v = number_by (length found) v (place_of found (vat names v))

pub numbers_apart : (names found : List (List ℕ)) → AreNames names → AreNames found → (v w : ℕ) → number_in names found v ≡ number_in names found w → v ≡ w
numbers_apart names found are too v w e = apart_by names found are too v w (place_of found (vat names v)) (place_of found (vat names w)) refl refl e

-- a vat that has a place has that number
pub number_is : (names found : List (List ℕ)) (v p : ℕ) → place_of found (vat names v) ≡ Some p → place_of found (vat names v) ≡ Some (number_in names found v)
number_is names found v p e = e ∙ ap (λ (o : Option ℕ). Some (number_by (length found) v o)) (sym e)
