-- A registration under a digest that has no owner stands last.
use Rattle.std.proofs.Common.{◌≡◌, ℕ, Bool, true, false, cond, List, [], ◌∷◌, ◌++◌, Option, Some, None, refl, ap}
use Rattle.std.specs.Map.{lookup}
use Rattle.std.specs.Str.{bytes_eq}
use Rattle.indexmap.specs.IndexMap.{insert_entry}

abbrev Objects : Type 0
Objects = List (List ℕ × ℕ)

behind : (b : Bool) (n : ℕ) (e : List ℕ × ℕ) (es rest whole : Objects) (found : Option ℕ) → cond b (Some e.1) found ≡ None
    → (found ≡ None → rest ≡ whole) → cond b ((e.0, n) ∷ es) (e ∷ rest) ≡ e ∷ whole
behind true n e es rest whole found h k = absurd cc
behind false n e es rest whole found h k = ap (λ (xs : Objects). e ∷ xs) (k h)

pub new_entry : (d : List ℕ) (n : ℕ) (es : Objects) → lookup (bytes_eq d) es ≡ None → insert_entry bytes_eq es d n ≡ es ++ (d, n) ∷ []
new_entry d n [] h = refl
new_entry d n (e ∷ es) h = behind (bytes_eq d e.0) n e es (insert_entry bytes_eq es d n) (es ++ (d, n) ∷ []) (lookup (bytes_eq d) es) h (new_entry d n es)
