-- The nodes from one number to before another.
use Rattle.std.proofs.Common.{◌≡◌, ℕ, suc, ◌+◌, List, [], ◌∷◌, ◌++◌, length, Some, refl, sym, subst, arith}
use Rattle.std.specs.Prelude.{slice_get}
use Rattle.def_kernel.specs.declared.node.Node.{Node}

pub data Part (nodes : List Node) : ℕ → ℕ → List Node → Type 0 where
  done : {n : ℕ} → Part nodes n n []
  there : {n m : ℕ} {node : Node} {part : List Node} → slice_get nodes n ≡ Some node → Part nodes (suc n) m part → Part nodes n m (node ∷ part)

pub joined : {nodes : List Node} {n a m : ℕ} {xs ys : List Node} → Part nodes n a xs → Part nodes a m ys → Part nodes n m (xs ++ ys)
joined done q = q
joined (there h p) q = there h (joined p q)

pub long : {nodes : List Node} {n m : ℕ} {part : List Node} → Part nodes n m part → length part + n ≡ m
long done = omega arith
long (there h p) = let e = long p in omega arith

shifted : (x : Node) (nodes : List Node) (n m : ℕ) (part : List Node) → Part (x ∷ nodes) (suc n) (suc m) part → Part nodes n m part
shifted x nodes n _ _ done = done
shifted x nodes n m _ (there h p) = there h (shifted x nodes (suc n) m _ p)

-- all of them
pub whole_part : (nodes : List Node) (m : ℕ) (part : List Node) → length nodes ≡ m → Part nodes 0 m part → part ≡ nodes
whole_part [] m _ e done = refl
whole_part [] m _ e (there h p) = absurd (cc)
whole_part (x ∷ nodes) _ _ e done = absurd (omega arith)
whole_part (x ∷ nodes) m _ e (there {node = node} {part = part} h p) =
    let rest : part ≡ nodes = whole_part nodes (length nodes) part refl (shifted x nodes 0 (length nodes) part (subst (λ k. Part (x ∷ nodes) 1 k part) (sym e) p)) in cc
