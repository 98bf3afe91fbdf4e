-- The place of a word among names, name by name.
use Rattle.std.proofs.Common.{◌≡◌, ◌<◌, ◌≤◌, ◌+◌, ℕ, suc, true, false, List, ◌∷◌, Option, Some, None, length, get_or, drop, refl, sym, ◌∙◌, ap, arith}
use Rattle.std.specs.Prelude.{option_map}
use Rattle.std.specs.Str.{bytes_eq}
use Rattle.ev_script.specs.Vats.{place_of}
use Rattle.ev_script.proofs.EachLemmas.{next_item, nothing_behind}

abbrev pub behind : ℕ → Option ℕ → Option ℕ
behind i o = option_map (λ p. i + p) o

pub behind_none : (o : Option ℕ) → behind 0 o ≡ o
behind_none None = refl
behind_none (Some p) = let e : 0 + p ≡ p = omega arith in ap Some e

one_more : (i : ℕ) (o : Option ℕ) → behind i (option_map suc o) ≡ behind (i + 1) o
one_more i None = refl
one_more i (Some p) = let e : i + suc p ≡ (i + 1) + p = omega arith in ap Some e

pub found : (word x : List ℕ) (names : List (List ℕ)) (i : ℕ) (whole : Option ℕ) → i < length names → x ≡ get_or names i x
    → behind i (place_of (drop i names) word) ≡ whole → bytes_eq word x ≡ true → Some i ≡ whole
found word x names i whole lt is so_far e =
    let here : behind i (place_of (x ∷ drop (i + 1) names) word) ≡ Some (i + 0) = rw e refl in
    let same : i ≡ i + 0 = omega arith in
    ap Some same ∙ sym here ∙ ap (λ ns. behind i (place_of ns word)) (sym (next_item x names i lt is)) ∙ so_far

pub passed : (word x : List ℕ) (names : List (List ℕ)) (i : ℕ) (whole : Option ℕ) → i < length names → x ≡ get_or names i x
    → behind i (place_of (drop i names) word) ≡ whole → bytes_eq word x ≡ false → behind (i + 1) (place_of (drop (i + 1) names) word) ≡ whole
passed word x names i whole lt is so_far e =
    let here : behind i (place_of (x ∷ drop (i + 1) names) word) ≡ behind i (option_map suc (place_of (drop (i + 1) names) word)) = rw e refl in
    sym (one_more i (place_of (drop (i + 1) names) word)) ∙ sym here ∙ ap (λ ns. behind i (place_of ns word)) (sym (next_item x names i lt is)) ∙ so_far

pub absent : (word : List ℕ) (names : List (List ℕ)) (i : ℕ) (whole : Option ℕ) → length names ≤ i
    → behind i (place_of (drop i names) word) ≡ whole → None ≡ whole
absent word names i whole h so_far = ap (λ ns. behind i (place_of ns word)) (sym (nothing_behind names i h)) ∙ so_far
