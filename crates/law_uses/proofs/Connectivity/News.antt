-- Numbers that lines bring rise over lines that bring none.
use Rattle.std.proofs.Common.{◌≡◌, ℕ, List, [], ◌∷◌, ◌++◌, Option, None, map, subst}
use Rattle.def_machine.specs.State.{Happened}
use Rattle.law_uses.specs.Connectivity.Known.{AllOf}
use Rattle.law_uses.specs.Connectivity.Activations.{Rises}
use Rattle.law_uses.proofs.Connectivity.Rising.{rises_line}
use Rattle.law_uses.proofs.Connectivity.Idle.{joined, no_more, IsIdle}

module _ {N : Type 0} (f : Happened N → Option ℕ) where
  pub rises_idle : ((e : Happened N) → IsIdle e → f e ≡ None) → (n m : ℕ) (es more : List (Happened N)) → AllOf IsIdle more → Rises n (map f es) m → Rises n (map f (es ++ more)) m
  rises_idle g n m es [] i h = subst (λ xs. Rises n (map f xs) m) (no_more es) h
  rises_idle g n m es (e ∷ more) i h = subst (λ xs. Rises n (map f xs) m) (joined es (e ∷ []) more) (rises_idle g n m (es ++ e ∷ []) more i.1 (rises_line f n m es e (g e i.0) h))
