-- Pieces that are written one after another.
use Rattle.std.proofs.Common.{◌≡◌, ℕ, List, [], ◌++◌, Result, Ok, Err, OnOk, sym, ◌∙◌, ap, append_assoc}
use Rattle.std.proofs.lemmas.List.{append-nil}

pub three_written : {V E : Type 0} (r : Result V E) (first second third old one two new : List ℕ)
    → one ≡ old ++ first → two ≡ one ++ second → OnOk r (new ≡ two ++ third) → OnOk r (new ≡ old ++ (first ++ (second ++ (third ++ []))))
three_written (Err e) first second third old one two new a b c = tt
three_written (Ok v) first second third old one two new a b c =
    c ∙ ap (λ xs. xs ++ third) (b ∙ ap (λ xs. xs ++ second) a)
    ∙ append_assoc (old ++ first) second third ∙ append_assoc old first (second ++ third)
    ∙ ap (λ xs. old ++ (first ++ (second ++ xs))) (sym (append-nil third))
