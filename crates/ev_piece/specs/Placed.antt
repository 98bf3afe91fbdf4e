-- A piece as a tree: each part is named by its number in the tree.
use Rattle.std.specs.Prelude.{ℕ, suc, ◌+◌, List, [], ◌∷◌, map, Option, Some, None, option_map}
use Rattle.def_kernel.specs.declared.node.Node.{Node}
use Rattle.def_kernel.specs.declared.node.Node.TheVariants.{Lit, Noun, Set, Def, Call, Sequence, If, Escape, Try, Finally, Hide, MatchBind, Object, Method, Matcher, Final, Var, Any, ListPattern, Via}

-- the node at this number, its parts named by their numbers
unfoldable pub node_at : ℕ → Node → Node
node_at n (Lit l) = Lit l
node_at n (Noun x) = Noun x
node_at n (Set x e) = Set x (n + e)
node_at n (Def p j e) = Def (n + p) (option_map (λ i. n + i) j) (n + e)
node_at n (Call r v es) = Call (n + r) v (map (λ i. n + i) es)
node_at n (Sequence es) = Sequence (map (λ i. n + i) es)
node_at n (If a b c) = If (n + a) (n + b) (n + c)
node_at n (Escape p b c) = Escape (n + p) (n + b) (option_map (λ q. (n + q.0, n + q.1)) c)
node_at n (Try b p h) = Try (n + b) (n + p) (n + h)
node_at n (Finally a b) = Finally (n + a) (n + b)
node_at n (Hide e) = Hide (n + e)
node_at n (MatchBind e p) = MatchBind (n + e) (n + p)
node_at n (Object p es ms) = Object (n + p) (map (λ i. n + i) es) (map (λ i. n + i) ms)
node_at n (Method v ps b) = Method v (map (λ i. n + i) ps) (n + b)
node_at n (Matcher p b) = Matcher (n + p) (n + b)
node_at n (Final x g) = Final x (option_map (λ i. n + i) g)
node_at n (Var x g) = Var x (option_map (λ i. n + i) g)
node_at n (Any g) = Any (option_map (λ i. n + i) g)
node_at n (ListPattern ps) = ListPattern (map (λ i. n + i) ps)
node_at n (Via e p) = Via (n + e) (n + p)

-- the nodes by number, the first having this number
unfoldable pub placed : ℕ → List Node → List Node
placed n [] = []
placed n (m ∷ ms) = node_at n m ∷ placed (suc n) ms

unfoldable pub opened_placed : Unit {0}
unfolding node_at placed
opened_placed = tt
