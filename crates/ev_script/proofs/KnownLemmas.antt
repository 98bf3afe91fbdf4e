-- The vats of a script with whom each knows, vat by vat.
use Rattle.std.proofs.Common.{◌≡◌, ◌<◌, ◌≤◌, ◌+◌, ◌++◌, ℕ, suc, Bool, List, [], ◌∷◌, Option, Some, None, length, get_or, drop, refl, sym, ◌∙◌, ap, add-one, append-nil}
use Rattle.ev_script.specs.Json.{each}
use Rattle.ev_script.specs.Vats.{are_others, known, known_from, place_of}
use Rattle.ev_script.specs.declared.script.VatScript.{VatScript}
use Rattle.ev_script.specs.declared.vats.Described.{Described}
use Rattle.std.specs.Prelude.{option_and_then, if◌then◌else◌}
use Rattle.ev_script.proofs.EachLemmas.{done_and, moved, next_item, nothing_behind}

abbrev pub made : Described → List ℕ → VatScript
made vat knows = record { name = vat.name; knows = knows; source = vat.source }

first : (names : List (List ℕ)) (i : ℕ) (vat : Described) (vats : List Described) (knows : List ℕ) → known names i vat.knows ≡ Some knows
    → known_from names i (vat ∷ vats) ≡ option_and_then (λ rest. Some (made vat knows ∷ rest)) (known_from names (suc i) vats)
first names i vat vats knows e = rw e refl

refused : (names : List (List ℕ)) (i : ℕ) (vat : Described) (vats : List Described) → known names i vat.knows ≡ None → known_from names i (vat ∷ vats) ≡ None
refused names i vat vats e = rw e refl

pub goes : (names : List (List ℕ)) (x : Described) (knows : List ℕ) (done more : List VatScript) (whole : Option (List VatScript)) (xs : List Described) (i : ℕ)
    → i < length xs → x ≡ get_or xs i x → done_and done (known_from names i (drop i xs)) ≡ whole → known names i x.knows ≡ Some knows
    → more ≡ done ++ made x knows ∷ [] → done_and more (known_from names (i + 1) (drop (i + 1) xs)) ≡ whole
goes names x knows done more whole xs i lt is so_far e m =
    ap (λ ys. done_and ys (known_from names (i + 1) (drop (i + 1) xs))) m
    ∙ ap (λ n. done_and (done ++ made x knows ∷ []) (known_from names n (drop (i + 1) xs))) (add-one i)
    ∙ sym (moved done (made x knows) (known_from names (suc i) (drop (i + 1) xs)))
    ∙ ap (done_and done) (sym (first names i x (drop (i + 1) xs) knows e))
    ∙ ap (λ ys. done_and done (known_from names i ys)) (sym (next_item x xs i lt is)) ∙ so_far

pub stops : (names : List (List ℕ)) (x : Described) (done : List VatScript) (whole : Option (List VatScript)) (xs : List Described) (i : ℕ)
    → i < length xs → x ≡ get_or xs i x → done_and done (known_from names i (drop i xs)) ≡ whole → known names i x.knows ≡ None → None ≡ whole
stops names x done whole xs i lt is so_far e =
    ap (done_and done) (sym (refused names i x (drop (i + 1) xs) e))
    ∙ ap (λ ys. done_and done (known_from names i ys)) (sym (next_item x xs i lt is)) ∙ so_far

pub ends : (names : List (List ℕ)) (done : List VatScript) (whole : Option (List VatScript)) (xs : List Described) (i : ℕ) → length xs ≤ i
    → done_and done (known_from names i (drop i xs)) ≡ whole → Some done ≡ whole
ends names done whole xs i h so_far =
    ap Some (sym (append-nil done)) ∙ ap (λ ys. done_and done (known_from names i ys)) (sym (nothing_behind xs i h)) ∙ so_far

pub known_by : (names : List (List ℕ)) (self : ℕ) (words : List (List ℕ)) (places : List ℕ) (b : Bool) → each (place_of names) words ≡ Some places
    → are_others self places ≡ b → known names self words ≡ (if b then Some places else None)
known_by names self words places b e o = rw (e, o) refl

-- the same of a place and words that are equal to these
pub known_same : (names : List (List ℕ)) (place i : ℕ) (ws words : List (List ℕ)) (r o : Option (List ℕ)) → place ≡ i → ws ≡ words
    → r ≡ known names place ws → r ≡ o → known names i words ≡ o
known_same names place i ws words r o p w e f = ap (λ n. known names n words) (sym p) ∙ ap (λ v. known names place v) (sym w) ∙ sym e ∙ f
