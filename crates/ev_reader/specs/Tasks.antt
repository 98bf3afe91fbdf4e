-- What is to be done for a node, as a list from the first to the last.
use Rattle.std.specs.Prelude.{ℕ, zero, suc, Bool, true, false, List, [], ◌∷◌, ◌++◌, map, slice_get, Option, Some, None}
use Rattle.def_kernel.specs.declared.node.Node.{Node}
use Rattle.def_kernel.specs.declared.node.Node.TheVariants.{Lit, Noun, Set, Def, Call, Sequence, If, Escape, Try, Finally, Hide, MatchBind, Object, Method, Matcher, Final, Var, Any, ListPattern, Via}
use Rattle.ev_reader.specs.declared.task.Task.{Task}
use Rattle.ev_reader.specs.declared.task.Task.TheVariants.{Visit, Bind, Enter, Leave}
use Rattle.ev_reader.specs.declared.scan.Scan.{Scan}
use Rattle.ev_reader.specs.Scopes.{uses, assigns, binds, enter, leave, is_clean}

abbrev pub visits : ℕ → List ℕ → List Task
visits height ids = map (λ id. Visit id height) ids

abbrev pub perhaps_visit : ℕ → Option ℕ → List Task
perhaps_visit height None = []
perhaps_visit height (Some id) = Visit id height ∷ []

-- two nodes in a scope of their own
abbrev pub visits_inside : ℕ → ℕ → ℕ → List Task
visits_inside height a b = Enter ∷ Visit a height ∷ Visit b height ∷ Leave ∷ []

abbrev pub visit_inside : ℕ → ℕ → List Task
visit_inside height a = Enter ∷ Visit a height ∷ Leave ∷ []

abbrev pub catch_inside : ℕ → Option (ℕ × ℕ) → List Task
catch_inside height None = []
catch_inside height (Some caught) = visits_inside height caught.0 caught.1

-- a node with a scope of its own
abbrev pub opens_scope : Node → Bool
opens_scope (If test then_part else_part) = true
opens_scope (Escape pattern body caught) = true
opens_scope (Try body pattern handler) = true
opens_scope (Finally body after) = true
opens_scope (Hide body) = true
opens_scope (Method verb patterns body) = true
opens_scope (Matcher pattern body) = true
opens_scope _ = false

-- the tasks of the node of this number, which begins without an earlier fault or with one
abbrev pub tasks_of : ℕ → ℕ → Bool → Node → List Task
tasks_of id height clean (Lit literal) = []
tasks_of id height clean (Noun name) = []
tasks_of id height clean (Set name value) = Visit value height ∷ []
tasks_of id height clean (Def pattern exit value) = perhaps_visit height exit ++ Visit value height ∷ Visit pattern height ∷ []
tasks_of id height clean (Call receiver verb args) = Visit receiver height ∷ visits height args
tasks_of id height clean (Sequence parts) = visits height parts
tasks_of id height clean (If test then_part else_part) = visits_inside height test then_part ++ visit_inside height else_part
tasks_of id height clean (Escape pattern body caught) = visits_inside height pattern body ++ catch_inside height caught
tasks_of id height clean (Try body pattern handler) = visit_inside height body ++ visits_inside height pattern handler
tasks_of id height clean (Finally body after) = visit_inside height body ++ visit_inside height after
tasks_of id height clean (Hide body) = visit_inside height body
tasks_of id height clean (MatchBind value pattern) = Visit value height ∷ Visit pattern height ∷ []
tasks_of id height clean (Object pattern auditors members) = visits height auditors ++ Visit pattern height ∷ visits height members
tasks_of id height clean (Method verb patterns body) = Enter ∷ (visits height patterns ++ Visit body height ∷ Leave ∷ [])
tasks_of id height clean (Matcher pattern body) = visits_inside height pattern body
tasks_of id height clean (Final name guard) = perhaps_visit height guard ++ Bind id clean ∷ []
tasks_of id height clean (Var name guard) = perhaps_visit height guard ++ Bind id clean ∷ []
tasks_of id height clean (Any guard) = perhaps_visit height guard
tasks_of id height clean (ListPattern patterns) = visits height patterns
tasks_of id height clean (Via value pattern) = Visit value height ∷ Visit pattern height ∷ []

abbrev pub tasks_found : ℕ → ℕ → Bool → Option Node → List Task
tasks_found id height clean None = []
tasks_found id height clean (Some node) = tasks_of id height clean node

-- what a node does as it begins
abbrev pub begins : ℕ → Node → Scan → Scan
begins id (Noun name) s = uses id name s
begins id (Set name value) s = assigns id name s
begins id _ s = s

abbrev pub begins_found : ℕ → Option Node → Scan → Scan
begins_found id None s = s
begins_found id (Some node) s = begins id node s

-- a pattern of one name ends
abbrev pub ends : ℕ → Bool → Node → Scan → Scan
ends id clean (Final name guard) s = binds id clean name false s
ends id clean (Var name guard) s = binds id clean name true s
ends id clean _ s = s

abbrev pub ends_found : ℕ → Bool → Option Node → Scan → Scan
ends_found id clean None s = s
ends_found id clean (Some node) s = ends id clean node s

-- what a task does at once, and the tasks that it leaves
abbrev pub visit_begins : List Node → ℕ → ℕ → Scan → Scan
visit_begins tree id zero s = s
visit_begins tree id (suc height) s = begins_found id (slice_get tree id) s

abbrev pub visit_left : List Node → ℕ → ℕ → Bool → List Task
visit_left tree id zero clean = []
visit_left tree id (suc height) clean = tasks_found id height clean (slice_get tree id)

abbrev pub at_once : List Node → Task → Scan → Scan
at_once tree (Visit id height) s = visit_begins tree id height s
at_once tree (Bind id clean) s = ends_found id clean (slice_get tree id) s
at_once tree Enter s = enter s
at_once tree Leave s = leave s

abbrev pub left : List Node → Task → Scan → List Task
left tree (Visit id height) s = visit_left tree id height (is_clean s)
left tree _ s = []
