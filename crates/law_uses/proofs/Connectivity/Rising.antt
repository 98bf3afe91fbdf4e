-- Numbers that lines bring rise.
use Rattle.std.proofs.Common.{◌≡◌, ℕ, suc, ◌≤◌, List, [], ◌∷◌, ◌++◌, Option, Some, None, length, map, refl, ap, arith}
use Rattle.def_machine.specs.State.{Happened}
use Rattle.law_uses.specs.Connectivity.Activations.{Rises}

module _ {N : Type 0} (f : Happened N → Option ℕ) where
  rises_on : (o : Option ℕ) (bs cs : List (Option ℕ)) (m k : ℕ) → ((n : ℕ) → Rises n bs m → Rises n cs k) → (n : ℕ) → Rises n (o ∷ bs) m → Rises n (o ∷ cs) k
  rises_on None bs cs m k g n h = g n h
  rises_on (Some b) bs cs m k g n h = (h.0, g (suc b) h.1)

  rises_end : (es : List (Happened N)) (e : Happened N) (m k : ℕ) → ((n : ℕ) → n ≤ m → Rises n (f e ∷ []) k) → (n : ℕ) → Rises n (map f es) m → Rises n (map f (es ++ e ∷ [])) k
  rises_end [] e m k g n h = g n h
  rises_end (x ∷ es) e m k g n h = rises_on (f x) (map f es) (map f (es ++ e ∷ [])) m k (rises_end es e m k g) n h

  at_none : (o : Option ℕ) (n m : ℕ) → o ≡ None → n ≤ m → Rises n (o ∷ []) m
  at_none None n m e h = h
  at_none (Some b) n m e h = cc

  at_some : (o : Option ℕ) (n m : ℕ) → o ≡ Some m → n ≤ m → Rises n (o ∷ []) (suc m)
  at_some None n m e h = cc
  at_some (Some b) n m e h = let same : m ≡ b = cc in (omega arith, omega arith)

  -- a line that makes none, and one that makes the next
  pub rises_line : (n m : ℕ) (es : List (Happened N)) (e : Happened N) → f e ≡ None → Rises n (map f es) m → Rises n (map f (es ++ e ∷ [])) m
  rises_line n m es e q h = rises_end es e m m (λ k i. at_none (f e) k m q i) n h

  pub rises_new : (n m : ℕ) (es : List (Happened N)) (e : Happened N) → f e ≡ Some m → Rises n (map f es) m → Rises n (map f (es ++ e ∷ [])) (suc m)
  rises_new n m es e q h = rises_end es e m (suc m) (λ k i. at_some (f e) k m q i) n h

pub length_end : {A : Type 0} (xs : List A) (x : A) → length (xs ++ x ∷ []) ≡ suc (length xs)
length_end [] x = refl
length_end (y ∷ xs) x = ap suc (length_end xs x)
