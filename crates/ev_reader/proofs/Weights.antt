-- How many tasks a task leads to: each leaves less than it was.
use Rattle.std.proofs.Common.{◌≡◌, ℕ, zero, suc, ◌+◌, ◌<◌, Bool, true, List, [], ◌∷◌, ◌++◌, refl, ap, sym, ◌∙◌, arith}
use Rattle.std.specs.Prelude.{slice_get, Option, Some, None}
use Rattle.def_kernel.specs.declared.node.Node.{Node}
use Rattle.def_kernel.specs.declared.node.Node.TheVariants.{Lit, Noun, Set, Def, Call, Sequence, If, Escape, Try, Finally, Hide, MatchBind, Object, Method, Matcher, Final, Var, Any, ListPattern, Via}
use Rattle.ev_reader.specs.declared.scan.Scan.{Scan}
use Rattle.ev_reader.specs.declared.task.Task.{Task}
use Rattle.ev_reader.specs.declared.task.Task.TheVariants.{Visit, Bind, Enter, Leave}
use Rattle.ev_reader.specs.Scopes.{is_clean}
use Rattle.ev_reader.specs.Tasks.{visits, tasks_of, tasks_found, left}

-- the tasks of one level, where a node of the next costs so much
abbrev pub cost_of : (ℕ → ℕ) → Task → ℕ
cost_of node (Visit id height) = node id
cost_of node _ = 1

abbrev pub costs : (ℕ → ℕ) → List Task → ℕ
costs node [] = 0
costs node (task ∷ tasks) = cost_of node task + costs node tasks

abbrev pub cost : List Node → ℕ → ℕ → ℕ
cost tree zero id = 1
cost tree (suc height) id = suc (costs (cost tree height) (tasks_found id height true (slice_get tree id)))

abbrev pub weight_of : List Node → Task → ℕ
weight_of tree (Visit id height) = cost tree height id
weight_of tree _ = 1

abbrev pub weight : List Node → List Task → ℕ
weight tree [] = 0
weight tree (task ∷ tasks) = weight_of tree task + weight tree tasks

weight-append : (tree : List Node) (xs ys : List Task) → weight tree (xs ++ ys) ≡ weight tree xs + weight tree ys
weight-append tree [] ys = omega arith
weight-append tree (x ∷ xs) ys = let rest : weight tree (xs ++ ys) ≡ weight tree xs + weight tree ys = weight-append tree xs ys in omega arith

costs-append : (node : ℕ → ℕ) (xs ys : List Task) → costs node (xs ++ ys) ≡ costs node xs + costs node ys
costs-append node [] ys = omega arith
costs-append node (x ∷ xs) ys = let rest : costs node (xs ++ ys) ≡ costs node xs + costs node ys = costs-append node xs ys in omega arith

abbrev Same : List Node → ℕ → List Task → Type 0
Same tree height tasks = weight tree tasks ≡ costs (cost tree height) tasks

both : (tree : List Node) (height : ℕ) (xs ys : List Task) → Same tree height xs → Same tree height ys → Same tree height (xs ++ ys)
both tree height xs ys p q =
    weight-append tree xs ys ∙ ap (λ n. n + weight tree ys) p ∙ ap (λ n. costs (cost tree height) xs + n) q ∙ sym (costs-append (cost tree height) xs ys)

visits-same : (tree : List Node) (height : ℕ) (ids : List ℕ) → Same tree height (visits height ids)
visits-same tree height [] = refl
visits-same tree height (id ∷ ids) = ap (λ n. cost tree height id + n) (visits-same tree height ids)

node-same : (tree : List Node) (id height : ℕ) (clean : Bool) (node : Node) → weight tree (tasks_of id height clean node) ≡ costs (cost tree height) (tasks_of id height true node)
node-same tree id height clean (Lit literal) = refl
node-same tree id height clean (Noun name) = refl
node-same tree id height clean (Set name value) = refl
node-same tree id height clean (Def pattern None value) = refl
node-same tree id height clean (Def pattern (Some exit) value) = refl
node-same tree id height clean (Call receiver verb args) = ap (λ n. cost tree height receiver + n) (visits-same tree height args)
node-same tree id height clean (Sequence ids) = visits-same tree height ids
node-same tree id height clean (If test then_part else_part) = refl
node-same tree id height clean (Escape pattern body None) = refl
node-same tree id height clean (Escape pattern body (Some caught)) = refl
node-same tree id height clean (Try body pattern handler) = refl
node-same tree id height clean (Finally body after) = refl
node-same tree id height clean (Hide body) = refl
node-same tree id height clean (MatchBind value pattern) = refl
node-same tree id height clean (Object pattern auditors members) =
    both tree height (visits height auditors) (Visit pattern height ∷ visits height members) (visits-same tree height auditors) (ap (λ n. cost tree height pattern + n) (visits-same tree height members))
node-same tree id height clean (Method verb patterns body) =
    ap (λ n. 1 + n) (both tree height (visits height patterns) (Visit body height ∷ Leave ∷ []) (visits-same tree height patterns) refl)
node-same tree id height clean (Matcher pattern body) = refl
node-same tree id height clean (Final name None) = refl
node-same tree id height clean (Final name (Some guard)) = refl
node-same tree id height clean (Var name None) = refl
node-same tree id height clean (Var name (Some guard)) = refl
node-same tree id height clean (Any None) = refl
node-same tree id height clean (Any (Some guard)) = refl
node-same tree id height clean (ListPattern ids) = visits-same tree height ids
node-same tree id height clean (Via value pattern) = refl

found-same : (tree : List Node) (id height : ℕ) (clean : Bool) (o : Option Node) → weight tree (tasks_found id height clean o) ≡ costs (cost tree height) (tasks_found id height true o)
found-same tree id height clean None = refl
found-same tree id height clean (Some node) = node-same tree id height clean node

left-less : (tree : List Node) (task : Task) (s : Scan) → weight tree (left tree task s) < weight_of tree task
left-less tree (Visit id zero) s = omega arith
left-less tree (Visit id (suc height)) s =
    let same : weight tree (tasks_found id height (is_clean s) (slice_get tree id)) ≡ costs (cost tree height) (tasks_found id height true (slice_get tree id))
    = found-same tree id height (is_clean s) (slice_get tree id) in
    omega arith
left-less tree (Bind id clean) s = omega arith
left-less tree Enter s = omega arith
left-less tree Leave s = omega arith

pub shrinks : (tree : List Node) (task : Task) (rest before tasks : List Task) (s : Scan)
    → before ≡ task ∷ rest → tasks ≡ left tree task s ++ rest → weight tree tasks < weight tree before
shrinks tree task rest before tasks s first pushed =
    let now : weight tree tasks ≡ weight tree (left tree task s) + weight tree rest = ap (weight tree) pushed ∙ weight-append tree (left tree task s) rest in
    let then : weight tree before ≡ weight_of tree task + weight tree rest = ap (weight tree) first in
    let less : weight tree (left tree task s) < weight_of tree task = left-less tree task s in
    omega arith
