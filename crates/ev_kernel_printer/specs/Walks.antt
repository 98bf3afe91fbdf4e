-- Finding free names, task by task.
use Rattle.std.specs.Prelude.{ℕ, zero, suc, ◌-◌, List, [], ◌∷◌, ◌++◌, length, map, drop, slice_get, Option, Some, None}
use Rattle.def_machine.specs.Free.{Walk, Walker, uses, binds, inside, walk, walk_all}
use Rattle.def_kernel.specs.declared.node.Node.{Node}
use Rattle.def_kernel.specs.declared.node.Node.TheVariants.{Lit, Noun, Set, Def, Call, Sequence, If, Escape, Try, Finally, Hide, MatchBind, Object, Method, Matcher, Final, Var, Any, ListPattern, Via}
use Rattle.ev_kernel_printer.specs.declared.tasks.Task.{Task}
use Rattle.ev_kernel_printer.specs.declared.tasks.Task.TheVariants.{Visit, Bind, Members, Keep}

-- the names that were bound last are bound no more, but for so many
abbrev pub keep : ℕ → Walk → Walk
keep n w = record w { bound = drop (length w.bound - n) w.bound }

abbrev pub visits : ℕ → List ℕ → List Task
visits height ids = map (λ id. Visit id height) ids

abbrev pub perhaps_visit : ℕ → Option ℕ → List Task
perhaps_visit height None = []
perhaps_visit height (Some id) = Visit id height ∷ []

abbrev pub two_inside : ℕ → ℕ → ℕ → ℕ → List Task
two_inside height n a b = Visit a height ∷ Visit b height ∷ Keep n ∷ []

abbrev pub one_inside : ℕ → ℕ → ℕ → List Task
one_inside height n a = Visit a height ∷ Keep n ∷ []

abbrev pub catch_inside : ℕ → ℕ → Option (ℕ × ℕ) → List Task
catch_inside height n None = []
catch_inside height n (Some caught) = two_inside height n caught.0 caught.1

-- the tasks of the node of this number, where so many names are bound as it begins
abbrev pub tasks_of : ℕ → ℕ → ℕ → Node → List Task
tasks_of id height n (Lit literal) = []
tasks_of id height n (Noun name) = []
tasks_of id height n (Set name value) = Visit value height ∷ []
tasks_of id height n (Def pattern exit value) = perhaps_visit height exit ++ Visit value height ∷ Visit pattern height ∷ []
tasks_of id height n (Call receiver verb args) = Visit receiver height ∷ visits height args
tasks_of id height n (Sequence parts) = visits height parts
tasks_of id height n (If test then_part else_part) = two_inside height n test then_part ++ one_inside height n else_part
tasks_of id height n (Escape pattern body caught) = two_inside height n pattern body ++ catch_inside height n caught
tasks_of id height n (Try body pattern handler) = one_inside height n body ++ two_inside height n pattern handler
tasks_of id height n (Finally body after) = one_inside height n body ++ one_inside height n after
tasks_of id height n (Hide body) = one_inside height n body
tasks_of id height n (MatchBind value pattern) = Visit value height ∷ Visit pattern height ∷ []
tasks_of id height n (Object pattern auditors members) = visits height auditors ++ Visit pattern height ∷ Members id height ∷ []
tasks_of id height n (Method verb patterns body) = visits height patterns ++ one_inside height n body
tasks_of id height n (Matcher pattern body) = two_inside height n pattern body
tasks_of id height n (Final name guard) = perhaps_visit height guard ++ Bind id ∷ []
tasks_of id height n (Var name guard) = perhaps_visit height guard ++ Bind id ∷ []
tasks_of id height n (Any guard) = perhaps_visit height guard
tasks_of id height n (ListPattern patterns) = visits height patterns
tasks_of id height n (Via value pattern) = Visit value height ∷ Visit pattern height ∷ []

abbrev pub tasks_found : ℕ → ℕ → ℕ → Option Node → List Task
tasks_found id height n None = []
tasks_found id height n (Some node) = tasks_of id height n node

-- the members of an object, behind which so many names are bound
abbrev pub members_tasks : ℕ → ℕ → Node → List Task
members_tasks height n (Object pattern auditors members) = visits height members ++ Keep n ∷ []
members_tasks height n _ = []

abbrev pub members_left : ℕ → ℕ → Option Node → List Task
members_left height n None = []
members_left height n (Some node) = members_tasks height n node

-- what a node does as it begins, and the pattern of a name as it ends
abbrev pub begins : Node → Walk → Walk
begins (Noun name) w = uses name w
begins (Set name value) w = uses name w
begins _ w = w

abbrev pub begins_found : Option Node → Walk → Walk
begins_found None w = w
begins_found (Some node) w = begins node w

abbrev pub ends : Node → Walk → Walk
ends (Final name guard) w = binds name w
ends (Var name guard) w = binds name w
ends _ w = w

abbrev pub ends_found : Option Node → Walk → Walk
ends_found None w = w
ends_found (Some node) w = ends node w

-- what a task does at once, and the tasks that it leaves
abbrev pub visit_begins : List Node → ℕ → ℕ → Walk → Walk
visit_begins tree id zero w = w
visit_begins tree id (suc height) w = begins_found (slice_get tree id) w

abbrev pub visit_left : List Node → ℕ → ℕ → ℕ → List Task
visit_left tree id zero n = []
visit_left tree id (suc height) n = tasks_found id height n (slice_get tree id)

abbrev pub at_once : List Node → Task → Walk → Walk
at_once tree (Visit id height) w = visit_begins tree id height w
at_once tree (Bind id) w = ends_found (slice_get tree id) w
at_once tree (Members id height) w = w
at_once tree (Keep n) w = keep n w

abbrev pub left_over : List Node → Task → Walk → List Task
left_over tree (Visit id height) w = visit_left tree id height (length w.bound)
left_over tree (Bind id) w = []
left_over tree (Members id height) w = members_left height (length w.bound) (slice_get tree id)
left_over tree (Keep n) w = []
