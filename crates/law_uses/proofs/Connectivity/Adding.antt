-- What lines tell of is added to what there was.
use Rattle.std.proofs.Common.{◌≡◌, ℕ, List, [], ◌∷◌, ◌++◌, Option, Some, None, length, map, refl, sym, subst}
use Rattle.def_machine.specs.State.{Happened}
use Rattle.law_uses.specs.Connectivity.News.{Adds}

module _ {N A : Type 0} (f : Happened N → Option (ℕ × A)) where
  adds_on : (o : Option (ℕ × A)) (bs cs : List (Option (ℕ × A))) (ys zs : List A) → ((ws : List A) → Adds ws bs ys → Adds ws cs zs) → (xs : List A) → Adds xs (o ∷ bs) ys → Adds xs (o ∷ cs) zs
  adds_on None bs cs ys zs g xs h = g xs h
  adds_on (Some b) bs cs ys zs g xs h = (h.0, g (xs ++ b.1 ∷ []) h.1)

  adds_end : (es : List (Happened N)) (e : Happened N) (ys zs : List A) → ((ws : List A) → ws ≡ ys → Adds ws (f e ∷ []) zs) → (xs : List A) → Adds xs (map f es) ys → Adds xs (map f (es ++ e ∷ [])) zs
  adds_end [] e ys zs g xs h = g xs h
  adds_end (x ∷ es) e ys zs g xs h = adds_on (f x) (map f es) (map f (es ++ e ∷ [])) ys zs (adds_end es e ys zs g) xs h

  at_none : (o : Option (ℕ × A)) (ws ys : List A) → o ≡ None → ws ≡ ys → Adds ws (o ∷ []) ys
  at_none None ws ys e h = h
  at_none (Some b) ws ys e h = cc

  at_some : (o : Option (ℕ × A)) (ws ys : List A) (y : A) → o ≡ Some (length ys, y) → ws ≡ ys → Adds ws (o ∷ []) (ys ++ y ∷ [])
  at_some None ws ys y e h = cc
  at_some (Some b) ws ys y e h = let same : b ≡ (length ys, y) = cc in subst (λ d. (d.0 ≡ length ws) × (ws ++ d.1 ∷ [] ≡ ys ++ y ∷ [])) (sym same) (subst (λ us. (length ys ≡ length us) × (us ++ y ∷ [] ≡ ys ++ y ∷ [])) (sym h) (refl, refl))

  -- a line that tells of none, and one that tells of the next
  pub adds_line : (xs ys : List A) (es : List (Happened N)) (e : Happened N) → f e ≡ None → Adds xs (map f es) ys → Adds xs (map f (es ++ e ∷ [])) ys
  adds_line xs ys es e q h = adds_end es e ys ys (λ ws i. at_none (f e) ws ys q i) xs h

  pub adds_new : (xs ys : List A) (y : A) (es : List (Happened N)) (e : Happened N) → f e ≡ Some (length ys, y) → Adds xs (map f es) ys → Adds xs (map f (es ++ e ∷ [])) (ys ++ y ∷ [])
  adds_new xs ys y es e q h = adds_end es e ys (ys ++ y ∷ []) (λ ws i. at_some (f e) ws ys y q i) xs h
