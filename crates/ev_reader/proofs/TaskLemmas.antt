-- Doing the tasks of a node one after the other is visiting it.
use Rattle.std.proofs.Common.{◌≡◌, ℕ, zero, suc, Bool, List, [], ◌∷◌, ◌++◌, length, refl, ap, sym, ◌∙◌}
use Rattle.std.specs.Prelude.{slice_get, Option, Some, None}
use Rattle.def_kernel.specs.declared.node.Node.{Node}
use Rattle.def_kernel.specs.declared.node.Node.TheVariants.{Lit, Noun, Set, Def, Call, Sequence, If, Escape, Try, Finally, Hide, MatchBind, Object, Method, Matcher, Final, Var, Any, ListPattern, Via}
use Rattle.ev_reader.specs.declared.scan.Scan.{Scan}
use Rattle.ev_reader.specs.declared.task.Task.{Task}
use Rattle.ev_reader.specs.declared.task.Task.TheVariants.{Visit, Bind, Enter, Leave}
use Rattle.ev_reader.specs.Scopes.{scan, visit, visit_found, all, enter, leave, is_clean, started}
use Rattle.ev_reader.specs.Tasks.{visits, tasks_of, tasks_found, begins, begins_found, ends_found, at_once, left}

-- the whole of a task, and of tasks
abbrev pub done : List Node → Task → Scan → Scan
done tree (Visit id height) s = scan tree height id s
done tree (Bind id clean) s = ends_found id clean (slice_get tree id) s
done tree Enter s = enter s
done tree Leave s = leave s

abbrev pub all_done : List Node → List Task → Scan → Scan
all_done tree [] s = s
all_done tree (task ∷ tasks) s = all_done tree tasks (done tree task s)

done-append : (tree : List Node) (xs ys : List Task) (s : Scan) → all_done tree (xs ++ ys) s ≡ all_done tree ys (all_done tree xs s)
done-append tree [] ys s = refl
done-append tree (x ∷ xs) ys s = done-append tree xs ys (done tree x s)

visits-done : (tree : List Node) (height : ℕ) (ids : List ℕ) (s : Scan) → all_done tree (visits height ids) s ≡ all (scan tree height) ids s
visits-done tree height [] s = refl
visits-done tree height (id ∷ ids) s = visits-done tree height ids (scan tree height id s)

object-done : (tree : List Node) (height pattern : ℕ) (auditors members : List ℕ) (s : Scan)
    → all_done tree (visits height auditors ++ Visit pattern height ∷ visits height members) s ≡ all (scan tree height) members (scan tree height pattern (all (scan tree height) auditors s))
object-done tree height pattern auditors members s =
    done-append tree (visits height auditors) (Visit pattern height ∷ visits height members) s
    ∙ ap (λ u. all_done tree (visits height members) (scan tree height pattern u)) (visits-done tree height auditors s)
    ∙ visits-done tree height members (scan tree height pattern (all (scan tree height) auditors s))

method-done : (tree : List Node) (height body : ℕ) (patterns : List ℕ) (s : Scan)
    → all_done tree (Enter ∷ (visits height patterns ++ Visit body height ∷ Leave ∷ [])) s ≡ leave (scan tree height body (all (scan tree height) patterns (enter s)))
method-done tree height body patterns s =
    done-append tree (visits height patterns) (Visit body height ∷ Leave ∷ []) (enter s)
    ∙ ap (λ u. leave (scan tree height body u)) (visits-done tree height patterns (enter s))

node-done : (tree : List Node) (id height : ℕ) (node : Node) (s : Scan) → slice_get tree id ≡ Some node
    → all_done tree (tasks_of id height (is_clean s) node) (begins id node s) ≡ visit (scan tree height) id node s
node-done tree id height (Lit literal) s found = refl
node-done tree id height (Noun name) s found = refl
node-done tree id height (Set name value) s found = refl
node-done tree id height (Def pattern None value) s found = refl
node-done tree id height (Def pattern (Some exit) value) s found = refl
node-done tree id height (Call receiver verb args) s found = visits-done tree height args (scan tree height receiver s)
node-done tree id height (Sequence ids) s found = visits-done tree height ids s
node-done tree id height (If test then_part else_part) s found = refl
node-done tree id height (Escape pattern body None) s found = refl
node-done tree id height (Escape pattern body (Some caught)) s found = refl
node-done tree id height (Try body pattern handler) s found = refl
node-done tree id height (Finally body after) s found = refl
node-done tree id height (Hide body) s found = refl
node-done tree id height (MatchBind value pattern) s found = refl
node-done tree id height (Object pattern auditors members) s found = object-done tree height pattern auditors members s
node-done tree id height (Method verb patterns body) s found = method-done tree height body patterns s
node-done tree id height (Matcher pattern body) s found = refl
node-done tree id height (Final name None) s found = ap (λ o. ends_found id (is_clean s) o s) found
node-done tree id height (Final name (Some guard)) s found = ap (λ o. ends_found id (is_clean s) o (scan tree height guard s)) found
node-done tree id height (Var name None) s found = ap (λ o. ends_found id (is_clean s) o s) found
node-done tree id height (Var name (Some guard)) s found = ap (λ o. ends_found id (is_clean s) o (scan tree height guard s)) found
node-done tree id height (Any None) s found = refl
node-done tree id height (Any (Some guard)) s found = refl
node-done tree id height (ListPattern ids) s found = visits-done tree height ids s
node-done tree id height (Via value pattern) s found = refl

found-done : (tree : List Node) (id height : ℕ) (o : Option Node) (s : Scan) → slice_get tree id ≡ o
    → all_done tree (tasks_found id height (is_clean s) o) (begins_found id o s) ≡ visit_found (scan tree height) id o s
found-done tree id height None s found = refl
found-done tree id height (Some node) s found = node-done tree id height node s found

task-done : (tree : List Node) (task : Task) (s : Scan) → all_done tree (left tree task s) (at_once tree task s) ≡ done tree task s
task-done tree (Visit id zero) s = refl
task-done tree (Visit id (suc height)) s = found-done tree id height (slice_get tree id) s refl
task-done tree (Bind id clean) s = refl
task-done tree Enter s = refl
task-done tree Leave s = refl

-- before the first task, behind a task, and behind the last one
pub starts : (tree : List Node) (given : List (List ℕ)) (s : Scan) (none tasks : List Task)
    → s ≡ started given → none ≡ [] → tasks ≡ Visit 0 (length tree) ∷ none → all_done tree tasks s ≡ scan tree (length tree) 0 (started given)
starts tree given s none tasks begun nothing pushed =
    ap (λ ts. all_done tree ts s) (pushed ∙ ap (λ ts. Visit 0 (length tree) ∷ ts) nothing) ∙ ap (scan tree (length tree) 0) begun

pub goes : (tree : List Node) (task : Task) (rest before tasks : List Task) (s next due : Scan)
    → before ≡ task ∷ rest → next ≡ at_once tree task s → tasks ≡ left tree task s ++ rest → all_done tree before s ≡ due → all_done tree tasks next ≡ due
goes tree task rest before tasks s next due first acted pushed was =
    ap (λ ts. all_done tree ts next) pushed
    ∙ ap (all_done tree (left tree task s ++ rest)) acted
    ∙ done-append tree (left tree task s) rest (at_once tree task s)
    ∙ ap (all_done tree rest) (task-done tree task s)
    ∙ ap (λ ts. all_done tree ts s) (sym first) ∙ was

pub ends_here : (tree : List Node) (tasks : List Task) (s due : Scan) → tasks ≡ [] → all_done tree tasks s ≡ due → s.fault ≡ due.fault
ends_here tree tasks s due none was = ap (λ u. u.fault) (sym (ap (λ ts. all_done tree ts s) none) ∙ was)
