-- Which lists of nodes are trees, by examples.
use Rattle.std.specs.Prelude.{[], ◌∷◌, codes, refl, pos}
use Rattle.std.specs.Char.{encode_utf8}
use Rattle.def_kernel.specs.declared.node.Node.TheVariants.{Lit, Call, Hide}
use Rattle.def_kernel.specs.declared.node.Literal.TheVariants.{Int}
use Rattle.def_kernel.specs.Trees.{IsTree, literal, set, def, def_exit, call, sequence, choice, escape, escape_catch, try_catch, finally, hide, match_bind, object, one_more, none}
use Rattle.std.proofs.Common.{lit<}

-- `(call (lit 1) add (hide (lit 2)))`
sum : IsTree (Call 1 (codes "add") (2 ∷ []) ∷ Lit (Int (pos 1)) ∷ Hide 3 ∷ Lit (Int (pos 2)) ∷ [])
unfolding encode_utf8
sum = call refl (codes "add", (refl, refl)) (literal refl (lit< tt)) (one_more (hide refl (literal refl (lit< tt))) none)

-- parts in another order than their forms stand in
no_tree : IsTree (Hide 2 ∷ Lit (Int (pos 1)) ∷ Lit (Int (pos 2)) ∷ []) → ⊥
no_tree (set has _ _) = absurd (cc)
no_tree (def has _ _) = absurd (cc)
no_tree (def_exit has _ _ _) = absurd (cc)
no_tree (call has _ _ _) = absurd (cc)
no_tree (sequence has _ _) = absurd (cc)
no_tree (choice has _ _ _) = absurd (cc)
no_tree (escape has _ _) = absurd (cc)
no_tree (escape_catch has _ _ _ _) = absurd (cc)
no_tree (try_catch has _ _ _) = absurd (cc)
no_tree (finally has _ _) = absurd (cc)
no_tree (hide has _) = absurd (cc)
no_tree (match_bind has _ _) = absurd (cc)
no_tree (object has _ _ _) = absurd (cc)
