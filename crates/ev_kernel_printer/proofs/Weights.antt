-- How many tasks a task leads to: each leaves less than it was.
use Rattle.std.proofs.Common.{◌≡◌, ℕ, zero, suc, ◌+◌, ◌<◌, List, [], ◌∷◌, ◌++◌, length, refl, ap, sym, ◌∙◌, arith}
use Rattle.std.specs.Prelude.{slice_get, Option, Some, None}
use Rattle.def_kernel.specs.declared.node.Node.{Node}
use Rattle.def_kernel.specs.declared.node.Node.TheVariants.{Lit, Noun, Set, Def, Call, Sequence, If, Escape, Try, Finally, Hide, MatchBind, Object, Method, Matcher, Final, Var, Any, ListPattern, Via}
use Rattle.def_machine.specs.Free.{Walk}
use Rattle.ev_kernel_printer.specs.declared.tasks.Task.{Task}
use Rattle.ev_kernel_printer.specs.declared.tasks.Task.TheVariants.{Visit, Bind, Members, Keep}
use Rattle.ev_kernel_printer.specs.Walks.{visits, tasks_of, tasks_found, members_left, left_over}

abbrev ids_cost : (ℕ → ℕ) → List ℕ → ℕ
ids_cost node [] = 0
ids_cost node (id ∷ ids) = node id + ids_cost node ids

abbrev members_of : Option Node → List ℕ
members_of (Some (Object pattern auditors members)) = members
members_of _ = []

-- the tasks of one level, where a node of the next costs so much
abbrev pub cost_of : List Node → (ℕ → ℕ) → Task → ℕ
cost_of tree node (Visit id height) = node id
cost_of tree node (Members id height) = 2 + ids_cost node (members_of (slice_get tree id))
cost_of tree node _ = 1

abbrev pub costs : List Node → (ℕ → ℕ) → List Task → ℕ
costs tree node [] = 0
costs tree node (task ∷ tasks) = cost_of tree node task + costs tree node tasks

abbrev pub cost : List Node → ℕ → ℕ → ℕ
cost tree zero id = 1
cost tree (suc height) id = suc (costs tree (cost tree height) (tasks_found id height 0 (slice_get tree id)))

abbrev pub weight_of : List Node → Task → ℕ
weight_of tree (Visit id height) = cost tree height id
weight_of tree (Members id height) = 2 + ids_cost (cost tree height) (members_of (slice_get tree id))
weight_of tree _ = 1

abbrev pub weight : List Node → List Task → ℕ
weight tree [] = 0
weight tree (task ∷ tasks) = weight_of tree task + weight tree tasks

weight-append : (tree : List Node) (xs ys : List Task) → weight tree (xs ++ ys) ≡ weight tree xs + weight tree ys
weight-append tree [] ys = omega arith
weight-append tree (x ∷ xs) ys = let rest : weight tree (xs ++ ys) ≡ weight tree xs + weight tree ys = weight-append tree xs ys in omega arith

costs-append : (tree : List Node) (node : ℕ → ℕ) (xs ys : List Task) → costs tree node (xs ++ ys) ≡ costs tree node xs + costs tree node ys
costs-append tree node [] ys = omega arith
costs-append tree node (x ∷ xs) ys = let rest : costs tree node (xs ++ ys) ≡ costs tree node xs + costs tree node ys = costs-append tree node xs ys in omega arith

abbrev Same : List Node → ℕ → List Task → List Task → Type 0
Same tree height xs ys = weight tree xs ≡ costs tree (cost tree height) ys

both : (tree : List Node) (height : ℕ) (xs ys vs ws : List Task) → Same tree height xs vs → Same tree height ys ws → Same tree height (xs ++ ys) (vs ++ ws)
both tree height xs ys vs ws p q =
    weight-append tree xs ys ∙ ap (λ n. n + weight tree ys) p ∙ ap (λ n. costs tree (cost tree height) vs + n) q ∙ sym (costs-append tree (cost tree height) vs ws)

visits-same : (tree : List Node) (height : ℕ) (ids : List ℕ) → Same tree height (visits height ids) (visits height ids)
visits-same tree height [] = refl
visits-same tree height (id ∷ ids) = ap (λ n. cost tree height id + n) (visits-same tree height ids)

visits-cost : (tree : List Node) (height : ℕ) (ids : List ℕ) → weight tree (visits height ids) ≡ ids_cost (cost tree height) ids
visits-cost tree height [] = refl
visits-cost tree height (id ∷ ids) = ap (λ n. cost tree height id + n) (visits-cost tree height ids)

node-same : (tree : List Node) (id height n : ℕ) (node : Node) → Same tree height (tasks_of id height n node) (tasks_of id height 0 node)
node-same tree id height n (Lit literal) = refl
node-same tree id height n (Noun name) = refl
node-same tree id height n (Set name value) = refl
node-same tree id height n (Def pattern None value) = refl
node-same tree id height n (Def pattern (Some exit) value) = refl
node-same tree id height n (Call receiver verb args) = ap (λ k. cost tree height receiver + k) (visits-same tree height args)
node-same tree id height n (Sequence ids) = visits-same tree height ids
node-same tree id height n (If test then_part else_part) = refl
node-same tree id height n (Escape pattern body None) = refl
node-same tree id height n (Escape pattern body (Some caught)) = refl
node-same tree id height n (Try body pattern handler) = refl
node-same tree id height n (Finally body after) = refl
node-same tree id height n (Hide body) = refl
node-same tree id height n (MatchBind value pattern) = refl
node-same tree id height n (Object pattern auditors members) =
    both tree height (visits height auditors) (Visit pattern height ∷ Members id height ∷ []) (visits height auditors) (Visit pattern height ∷ Members id height ∷ []) (visits-same tree height auditors) refl
node-same tree id height n (Method verb patterns body) =
    both tree height (visits height patterns) (Visit body height ∷ Keep n ∷ []) (visits height patterns) (Visit body height ∷ Keep 0 ∷ []) (visits-same tree height patterns) refl
node-same tree id height n (Matcher pattern body) = refl
node-same tree id height n (Final name None) = refl
node-same tree id height n (Final name (Some guard)) = refl
node-same tree id height n (Var name None) = refl
node-same tree id height n (Var name (Some guard)) = refl
node-same tree id height n (Any None) = refl
node-same tree id height n (Any (Some guard)) = refl
node-same tree id height n (ListPattern ids) = visits-same tree height ids
node-same tree id height n (Via value pattern) = refl

found-same : (tree : List Node) (id height n : ℕ) (o : Option Node) → Same tree height (tasks_found id height n o) (tasks_found id height 0 o)
found-same tree id height n None = refl
found-same tree id height n (Some node) = node-same tree id height n node

members-less : (tree : List Node) (height n : ℕ) (o : Option Node) → weight tree (members_left height n o) < 2 + ids_cost (cost tree height) (members_of o)
members-less tree height n (Some (Object pattern auditors members)) =
    let all : weight tree (visits height members ++ Keep n ∷ []) ≡ weight tree (visits height members) + weight tree (Keep n ∷ []) = weight-append tree (visits height members) (Keep n ∷ []) in
    let ids : weight tree (visits height members) ≡ ids_cost (cost tree height) members = visits-cost tree height members in
    omega arith
members-less tree height n None = omega arith
members-less tree height n (Some (Lit l)) = omega arith
members-less tree height n (Some (Noun x)) = omega arith
members-less tree height n (Some (Set x e)) = omega arith
members-less tree height n (Some (Def p j e)) = omega arith
members-less tree height n (Some (Call r v es)) = omega arith
members-less tree height n (Some (Sequence es)) = omega arith
members-less tree height n (Some (If t a b)) = omega arith
members-less tree height n (Some (Escape p b c)) = omega arith
members-less tree height n (Some (Try b p h)) = omega arith
members-less tree height n (Some (Finally a b)) = omega arith
members-less tree height n (Some (Hide e)) = omega arith
members-less tree height n (Some (MatchBind e p)) = omega arith
members-less tree height n (Some (Method v ps b)) = omega arith
members-less tree height n (Some (Matcher p b)) = omega arith
members-less tree height n (Some (Final x g)) = omega arith
members-less tree height n (Some (Var x g)) = omega arith
members-less tree height n (Some (Any g)) = omega arith
members-less tree height n (Some (ListPattern ps)) = omega arith
members-less tree height n (Some (Via e p)) = omega arith

left-less : (tree : List Node) (task : Task) (w : Walk) → weight tree (left_over tree task w) < weight_of tree task
left-less tree (Visit id zero) w = omega arith
left-less tree (Visit id (suc height)) w =
    let same : weight tree (tasks_found id height (length w.bound) (slice_get tree id)) ≡ costs tree (cost tree height) (tasks_found id height 0 (slice_get tree id))
    = found-same tree id height (length w.bound) (slice_get tree id) in
    omega arith
left-less tree (Bind id) w = omega arith
left-less tree (Members id height) w = members-less tree height (length w.bound) (slice_get tree id)
left-less tree (Keep n) w = omega arith

pub shrinks : (tree : List Node) (task : Task) (rest before tasks : List Task) (w : Walk)
    → before ≡ task ∷ rest → tasks ≡ left_over tree task w ++ rest → weight tree tasks < weight tree before
shrinks tree task rest before tasks w first pushed =
    let now : weight tree tasks ≡ weight tree (left_over tree task w) + weight tree rest = ap (weight tree) pushed ∙ weight-append tree (left_over tree task w) rest in
    let then : weight tree before ≡ weight_of tree task + weight tree rest = ap (weight tree) first in
    let less : weight tree (left_over tree task w) < weight_of tree task = left-less tree task w in
    omega arith
