-- Lines that are lent, by their numbers.
use Rattle.std.proofs.Common.{◌≡◌, ℕ, zero, suc, ◌-◌, List, [], ◌∷◌, map, slice_get, Option, Some, None, refl, sym, ap, ◌∙◌}
use Rattle.std.specs.Prelude.{unwrap_or}
use denote.Ref.{Bor}
use Rattle.ev_see_verdicts.specs.Told.{line_text, texts}

there : (ls : List (Bor (List ℕ))) (i : ℕ) (t : Bor (List ℕ)) → slice_get ls i ≡ Some t → slice_get (texts ls) i ≡ Some t.now
there [] i t e = absurd cc
there (l ∷ ls) zero t e = let same : l ≡ t = (let s : Some l ≡ Some t = e in cc) in ap (λ (x : Bor (List ℕ)). Some x.now) same
there (l ∷ ls) (suc i) t e = there ls i t e

nowhere : (ls : List (Bor (List ℕ))) (i : ℕ) → slice_get ls i ≡ None → slice_get (texts ls) i ≡ None
nowhere [] i e = refl
nowhere (l ∷ ls) zero e = absurd cc
nowhere (l ∷ ls) (suc i) e = nowhere ls i e

pub text_there : (ls : List (Bor (List ℕ))) (line : ℕ) (t : Bor (List ℕ)) → slice_get ls (line - 1) ≡ Some t → t.now ≡ line_text (texts ls) line
text_there ls line t e = sym (ap (λ (o : Option (List ℕ)). unwrap_or o []) (there ls (line - 1) t e))

pub no_text : (ls : List (Bor (List ℕ))) (line : ℕ) → slice_get ls (line - 1) ≡ None → [] ≡ line_text (texts ls) line
no_text ls line e = sym (ap (λ (o : Option (List ℕ)). unwrap_or o []) (nowhere ls (line - 1) e))
