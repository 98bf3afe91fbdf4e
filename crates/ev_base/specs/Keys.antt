-- A number by which texts are mostly told apart.
use Rattle.std.specs.Prelude.{ℕ, ◌+◌, ◌*◌, ◌%◌, List, [], ◌∷◌, None, Some, codes}
use Rattle.std.specs.declared.option.Option.{Option}

abbrev pub next_key : ℕ → ℕ → ℕ
next_key k b = (k * 31 + b) % 4294967291

-- the text of a word: that which calls again carry, where it keeps none
abbrev pub spelled : Option (List ℕ) → List ℕ
spelled None = codes "run"
spelled (Some t) = t

unfoldable pub key_from : ℕ → List ℕ → ℕ
key_from k [] = k
key_from k (b ∷ bs) = key_from (next_key k b) bs
