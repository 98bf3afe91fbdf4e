-- Words, and the names that stay bound.
use Rattle.std.proofs.Common.{◌≡◌, ℕ, ◌-◌, Bool, true, false, ◌&&◌, List, [], ◌∷◌, ◌++◌, length, take, drop, refl, ap, sym, ◌∙◌, arith, length-drop}
use Rattle.std.specs.Prelude.{bytes_eq, reverse}
use Rattle.std.proofs.lemmas.List.{reverse-append, length-reverse, take-append-drop}
use Rattle.std.proofs.Math.Seq.{drop-append_seam}
use Rattle.def_machine.specs.Free.{same_words}

and_then : (b p q : Bool) → p ≡ q → (elim b [ true ↦ p | false ↦ false ]) ≡ b && q
and_then true p q e = e
and_then false p q e = refl

pub same_bytes : (a b : List ℕ) → same_words a b ≡ bytes_eq a b
unfolding same_words
same_bytes [] [] = refl
same_bytes [] (y ∷ ys) = refl
same_bytes (x ∷ xs) [] = refl
same_bytes (x ∷ xs) (y ∷ ys) = and_then _ _ _ (same_bytes xs ys)

pub kept_last : (count : ℕ) (items : List (List ℕ)) → reverse (take count items) ≡ drop (length (reverse items) - count) (reverse items)
kept_last count items =
    let whole : reverse items ≡ reverse (drop count items) ++ reverse (take count items)
    = ap reverse (sym (take-append-drop count items)) ∙ reverse-append (take count items) (drop count items) in
    let front : length (reverse (drop count items)) ≡ length items - count = length-reverse (drop count items) ∙ length-drop count items in
    let all : length (reverse items) ≡ length items = length-reverse items in
    let many : length (reverse items) - count ≡ length (reverse (drop count items)) = ap (λ n. n - count) all ∙ sym front in
    sym (ap (λ n. drop n (reverse items)) many
    ∙ ap (drop (length (reverse (drop count items)))) whole
    ∙ drop-append_seam (reverse (drop count items)) (reverse (take count items)))
