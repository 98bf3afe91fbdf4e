-- Doing the tasks of a node one after the other is walking through it.
use Rattle.std.proofs.Common.{◌≡◌, ℕ, zero, suc, ◌+◌, ◌-◌, Bool, true, false, ◌||◌, List, [], ◌∷◌, ◌++◌, length, drop, refl, ap, sym, ◌∙◌, arith, append_assoc, length-append}
use Rattle.std.specs.Prelude.{slice_get, Option, Some, None}
use Rattle.std.proofs.Math.Seq.{drop-append_seam}
use Rattle.def_kernel.specs.declared.node.Node.{Node}
use Rattle.def_kernel.specs.declared.node.Node.TheVariants.{Lit, Noun, Set, Def, Call, Sequence, If, Escape, Try, Finally, Hide, MatchBind, Object, Method, Matcher, Final, Var, Any, ListPattern, Via}
use Rattle.def_machine.specs.Values.{Words}
use Rattle.def_machine.specs.Free.{Walk, Walker, uses, binds, has_words, inside, walk, walk_all, walk_option, walk_object, walk_node, walk_found, free_nouns, opened_free}
use Rattle.ev_kernel_printer.specs.declared.tasks.Task.{Task}
use Rattle.ev_kernel_printer.specs.declared.tasks.Task.TheVariants.{Visit, Bind, Members, Keep}
use Rattle.ev_kernel_printer.specs.Walks.{keep, visits, tasks_of, tasks_found, members_left, begins, begins_found, ends_found, at_once, left_over}

-- ---- walking binds names before those that are bound

pub record Adds (w u : Walk) : Type 0 where
  pub names : List Words
  pub bound_is : u.bound ≡ names ++ w.bound

same : (w : Walk) → Adds w w
same w = record { names = []; bound_is = refl }

then_adds : (w u v : Walk) → Adds w u → Adds u v → Adds w v
then_adds w u v p q = record {
  names = q.names ++ p.names;
  bound_is = q.bound_is ∙ ap (λ ns. q.names ++ ns) p.bound_is ∙ sym (append_assoc q.names p.names w.bound);
}

if_free : (b : Bool) (x : Words) (w : Walk) → Adds w (elim b [ true ↦ w | false ↦ record w { free = w.free ++ x ∷ [] } ])
if_free true x w = same w
if_free false x w = record { names = []; bound_is = refl }

use_adds : (x : Words) (w : Walk) → Adds w (uses x w)
unfolding uses
use_adds x w = if_free (has_words x w.bound || has_words x w.free) x w

bind_adds : (x : Words) (w : Walk) → Adds w (binds x w)
unfolding binds
bind_adds x w = record { names = x ∷ []; bound_is = refl }

inside_adds : (f : Walk → Walk) (w : Walk) → Adds w (inside f w)
unfolding inside
inside_adds f w = record { names = []; bound_is = refl }

abbrev Adding : Walker → Type 0
Adding rec = (e : ℕ) (w : Walk) → Adds w (rec e w)

all_adds : (rec : Walker) → Adding rec → (es : List ℕ) (w : Walk) → Adds w (walk_all rec es w)
unfolding walk_all
all_adds rec good [] w = same w
all_adds rec good (e ∷ es) w = then_adds w (rec e w) (walk_all rec es (rec e w)) (good e w) (all_adds rec good es (rec e w))

option_adds : (rec : Walker) → Adding rec → (o : Option ℕ) (w : Walk) → Adds w (walk_option rec o w)
unfolding walk_option
option_adds rec good None w = same w
option_adds rec good (Some e) w = good e w

two_add : (rec : Walker) → Adding rec → (a b : ℕ) (w : Walk) → Adds w (rec b (rec a w))
two_add rec good a b w = then_adds w (rec a w) (rec b (rec a w)) (good a w) (good b (rec a w))

node_adds : (rec : Walker) → Adding rec → (node : Node) (w : Walk) → Adds w (walk_node rec node w)
unfolding walk_node walk_object
node_adds rec good (Lit l) w = same w
node_adds rec good (Noun x) w = use_adds x w
node_adds rec good (Set x e) w = then_adds w (uses x w) (rec e (uses x w)) (use_adds x w) (good e (uses x w))
node_adds rec good (Def p j e) w = then_adds w (walk_option rec j w) _ (option_adds rec good j w) (two_add rec good e p (walk_option rec j w))
node_adds rec good (Call r v es) w = then_adds w (rec r w) _ (good r w) (all_adds rec good es (rec r w))
node_adds rec good (Sequence es) w = all_adds rec good es w
node_adds rec good (If t a b) w = then_adds w (inside (λ u. rec a (rec t u)) w) _ (inside_adds (λ u. rec a (rec t u)) w) (inside_adds (rec b) (inside (λ u. rec a (rec t u)) w))
node_adds rec good (Escape p b None) w = inside_adds (λ u. rec b (rec p u)) w
node_adds rec good (Escape p b (Some c)) w = then_adds w (inside (λ u. rec b (rec p u)) w) _ (inside_adds (λ u. rec b (rec p u)) w) (inside_adds (λ u. rec c.1 (rec c.0 u)) (inside (λ u. rec b (rec p u)) w))
node_adds rec good (Try b p h) w = then_adds w (inside (rec b) w) _ (inside_adds (rec b) w) (inside_adds (λ u. rec h (rec p u)) (inside (rec b) w))
node_adds rec good (Finally a b) w = then_adds w (inside (rec a) w) _ (inside_adds (rec a) w) (inside_adds (rec b) (inside (rec a) w))
node_adds rec good (Hide e) w = inside_adds (rec e) w
node_adds rec good (MatchBind e p) w = two_add rec good e p w
node_adds rec good (Object p auditors members) w =
    then_adds w (walk_all rec auditors w) _ (all_adds rec good auditors w)
    (then_adds (walk_all rec auditors w) (rec p (walk_all rec auditors w)) _ (good p (walk_all rec auditors w)) (inside_adds (walk_all rec members) (rec p (walk_all rec auditors w))))
node_adds rec good (Method v ps b) w = inside_adds (λ u. rec b (walk_all rec ps u)) w
node_adds rec good (Matcher p b) w = inside_adds (λ u. rec b (rec p u)) w
node_adds rec good (Final x g) w = then_adds w (walk_option rec g w) _ (option_adds rec good g w) (bind_adds x (walk_option rec g w))
node_adds rec good (Var x g) w = then_adds w (walk_option rec g w) _ (option_adds rec good g w) (bind_adds x (walk_option rec g w))
node_adds rec good (Any g) w = option_adds rec good g w
node_adds rec good (ListPattern ps) w = all_adds rec good ps w
node_adds rec good (Via e p) w = two_add rec good e p w

found_adds : (rec : Walker) → Adding rec → (o : Option Node) (w : Walk) → Adds w (walk_found rec o w)
unfolding walk_found
found_adds rec good None w = same w
found_adds rec good (Some node) w = node_adds rec good node w

walk_adds : (tree : List Node) (d : ℕ) → Adding (walk tree d)
unfolding walk
walk_adds tree zero e w = same w
walk_adds tree (suc d) e w = found_adds (λ e w. walk tree d e w) (walk_adds tree d) (slice_get tree e) w

-- ---- so keeping the names that were bound is binding nothing outside

last_of : (names bound : List Words) → drop (length (names ++ bound) - length bound) (names ++ bound) ≡ bound
last_of names bound =
    let long : length (names ++ bound) ≡ length names + length bound = length-append names bound in
    let count : length (names ++ bound) - length bound ≡ length names = omega arith in
    ap (λ n. drop n (names ++ bound)) count ∙ drop-append_seam names bound

kept : (w u : Walk) → Adds w u → keep (length w.bound) u ≡ record u { bound = w.bound }
kept w u p = ap (λ ns. record u { bound = ns }) (ap (λ ns. drop (length ns - length w.bound) ns) p.bound_is ∙ last_of p.names w.bound)

-- ---- the whole of a task, and of tasks

abbrev pub members_of : Walker → Option Node → Walk → Walk
members_of rec (Some (Object pattern auditors members)) w = inside (walk_all rec members) w
members_of rec _ w = w

abbrev pub done : List Node → Task → Walk → Walk
done tree (Visit id height) w = walk tree height id w
done tree (Bind id) w = ends_found (slice_get tree id) w
done tree (Members id height) w = members_of (walk tree height) (slice_get tree id) w
done tree (Keep n) w = keep n w

abbrev pub all_done : List Node → List Task → Walk → Walk
all_done tree [] w = w
all_done tree (task ∷ tasks) w = all_done tree tasks (done tree task w)

done_append : (tree : List Node) (xs ys : List Task) (w : Walk) → all_done tree (xs ++ ys) w ≡ all_done tree ys (all_done tree xs w)
done_append tree [] ys w = refl
done_append tree (x ∷ xs) ys w = done_append tree xs ys (done tree x w)

visits_done : (tree : List Node) (d : ℕ) (ids : List ℕ) (w : Walk) → all_done tree (visits d ids) w ≡ walk_all (walk tree d) ids w
unfolding walk_all
visits_done tree d [] w = refl
visits_done tree d (id ∷ ids) w = visits_done tree d ids (walk tree d id w)

one_done : (tree : List Node) (d a : ℕ) (w : Walk) → keep (length w.bound) (walk tree d a w) ≡ inside (walk tree d a) w
unfolding inside
one_done tree d a w = kept w (walk tree d a w) (walk_adds tree d a w)

two_done : (tree : List Node) (d a b : ℕ) (w : Walk) → keep (length w.bound) (walk tree d b (walk tree d a w)) ≡ inside (λ u. walk tree d b (walk tree d a u)) w
unfolding inside
two_done tree d a b w = kept w (walk tree d b (walk tree d a w)) (two_add (walk tree d) (walk_adds tree d) a b w)

if_done : (tree : List Node) (d t a b : ℕ) (w : Walk)
    → keep (length w.bound) (walk tree d b (keep (length w.bound) (walk tree d a (walk tree d t w)))) ≡ inside (walk tree d b) (inside (λ u. walk tree d a (walk tree d t u)) w)
unfolding inside
if_done tree d t a b w =
    ap (λ u. keep (length w.bound) (walk tree d b u)) (two_done tree d t a w)
    ∙ one_done tree d b (inside (λ u. walk tree d a (walk tree d t u)) w)

catch_done : (tree : List Node) (d p b c e : ℕ) (w : Walk)
    → keep (length w.bound) (walk tree d e (walk tree d c (keep (length w.bound) (walk tree d b (walk tree d p w))))) ≡ inside (λ u. walk tree d e (walk tree d c u)) (inside (λ u. walk tree d b (walk tree d p u)) w)
unfolding inside
catch_done tree d p b c e w =
    ap (λ u. keep (length w.bound) (walk tree d e (walk tree d c u))) (two_done tree d p b w)
    ∙ two_done tree d c e (inside (λ u. walk tree d b (walk tree d p u)) w)

try_done : (tree : List Node) (d b p h : ℕ) (w : Walk)
    → keep (length w.bound) (walk tree d h (walk tree d p (keep (length w.bound) (walk tree d b w)))) ≡ inside (λ u. walk tree d h (walk tree d p u)) (inside (walk tree d b) w)
unfolding inside
try_done tree d b p h w =
    ap (λ u. keep (length w.bound) (walk tree d h (walk tree d p u))) (one_done tree d b w)
    ∙ two_done tree d p h (inside (walk tree d b) w)

finally_done : (tree : List Node) (d a b : ℕ) (w : Walk)
    → keep (length w.bound) (walk tree d b (keep (length w.bound) (walk tree d a w))) ≡ inside (walk tree d b) (inside (walk tree d a) w)
unfolding inside
finally_done tree d a b w =
    ap (λ u. keep (length w.bound) (walk tree d b u)) (one_done tree d a w) ∙ one_done tree d b (inside (walk tree d a) w)

method_done : (tree : List Node) (d b : ℕ) (ps : List ℕ) (w : Walk)
    → all_done tree (visits d ps ++ Visit b d ∷ Keep (length w.bound) ∷ []) w ≡ inside (λ u. walk tree d b (walk_all (walk tree d) ps u)) w
unfolding inside
method_done tree d b ps w =
    done_append tree (visits d ps) (Visit b d ∷ Keep (length w.bound) ∷ []) w
    ∙ ap (λ u. keep (length w.bound) (walk tree d b u)) (visits_done tree d ps w)
    ∙ kept w (walk tree d b (walk_all (walk tree d) ps w))
    (then_adds w (walk_all (walk tree d) ps w) _ (all_adds (walk tree d) (walk_adds tree d) ps w) (walk_adds tree d b (walk_all (walk tree d) ps w)))

members_done : (tree : List Node) (d : ℕ) (ms : List ℕ) (w : Walk) → all_done tree (visits d ms ++ Keep (length w.bound) ∷ []) w ≡ inside (walk_all (walk tree d) ms) w
unfolding inside
members_done tree d ms w =
    done_append tree (visits d ms) (Keep (length w.bound) ∷ []) w
    ∙ ap (keep (length w.bound)) (visits_done tree d ms w)
    ∙ kept w (walk_all (walk tree d) ms w) (all_adds (walk tree d) (walk_adds tree d) ms w)

object_done : (tree : List Node) (id d p : ℕ) (auditors members : List ℕ) (w : Walk) → slice_get tree id ≡ Some (Object p auditors members)
    → all_done tree (visits d auditors ++ Visit p d ∷ Members id d ∷ []) w ≡ walk_object (walk tree d) p auditors members w
unfolding walk_object
object_done tree id d p auditors members w found =
    done_append tree (visits d auditors) (Visit p d ∷ Members id d ∷ []) w
    ∙ ap (λ u. members_of (walk tree d) (slice_get tree id) (walk tree d p u)) (visits_done tree d auditors w)
    ∙ ap (λ o. members_of (walk tree d) o (walk tree d p (walk_all (walk tree d) auditors w))) found

node_done : (tree : List Node) (id d : ℕ) (node : Node) (w : Walk) → slice_get tree id ≡ Some node
    → (n : ℕ) → n ≡ length w.bound → all_done tree (tasks_of id d n node) (begins node w) ≡ walk_node (walk tree d) node w
unfolding walk_node walk_option
node_done tree id d (Lit literal) w found n e = refl
node_done tree id d (Noun name) w found n e = refl
node_done tree id d (Set name value) w found n e = refl
node_done tree id d (Def pattern None value) w found n e = refl
node_done tree id d (Def pattern (Some exit) value) w found n e = refl
node_done tree id d (Call receiver verb args) w found n e = visits_done tree d args (walk tree d receiver w)
node_done tree id d (Sequence ids) w found n e = visits_done tree d ids w
node_done tree id d (If t a b) w found n e = ap (λ k. keep k (walk tree d b (keep k (walk tree d a (walk tree d t w))))) e ∙ if_done tree d t a b w
node_done tree id d (Escape p b None) w found n e = ap (λ k. keep k (walk tree d b (walk tree d p w))) e ∙ two_done tree d p b w
node_done tree id d (Escape p b (Some c)) w found n e =
    ap (λ k. keep k (walk tree d c.1 (walk tree d c.0 (keep k (walk tree d b (walk tree d p w)))))) e ∙ catch_done tree d p b c.0 c.1 w
node_done tree id d (Try b p h) w found n e = ap (λ k. keep k (walk tree d h (walk tree d p (keep k (walk tree d b w))))) e ∙ try_done tree d b p h w
node_done tree id d (Finally a b) w found n e = ap (λ k. keep k (walk tree d b (keep k (walk tree d a w)))) e ∙ finally_done tree d a b w
node_done tree id d (Hide a) w found n e = ap (λ k. keep k (walk tree d a w)) e ∙ one_done tree d a w
node_done tree id d (MatchBind value pattern) w found n e = refl
node_done tree id d (Object pattern auditors members) w found n e = object_done tree id d pattern auditors members w found
node_done tree id d (Method verb ps b) w found n e = ap (λ k. all_done tree (visits d ps ++ Visit b d ∷ Keep k ∷ []) w) e ∙ method_done tree d b ps w
node_done tree id d (Matcher p b) w found n e = ap (λ k. keep k (walk tree d b (walk tree d p w))) e ∙ two_done tree d p b w
node_done tree id d (Final name None) w found n e = ap (λ o. ends_found o w) found
node_done tree id d (Final name (Some guard)) w found n e = ap (λ o. ends_found o (walk tree d guard w)) found
node_done tree id d (Var name None) w found n e = ap (λ o. ends_found o w) found
node_done tree id d (Var name (Some guard)) w found n e = ap (λ o. ends_found o (walk tree d guard w)) found
node_done tree id d (Any None) w found n e = refl
node_done tree id d (Any (Some guard)) w found n e = refl
node_done tree id d (ListPattern ids) w found n e = visits_done tree d ids w
node_done tree id d (Via value pattern) w found n e = refl

found_done : (tree : List Node) (id d : ℕ) (o : Option Node) (w : Walk) → slice_get tree id ≡ o
    → all_done tree (tasks_found id d (length w.bound) o) (begins_found o w) ≡ walk_found (λ e w. walk tree d e w) o w
unfolding walk_found
found_done tree id d None w found = refl
found_done tree id d (Some node) w found = node_done tree id d node w found (length w.bound) refl

members_of_done : (tree : List Node) (d : ℕ) (o : Option Node) (w : Walk) → all_done tree (members_left d (length w.bound) o) w ≡ members_of (walk tree d) o w
members_of_done tree d None w = refl
members_of_done tree d (Some (Object pattern auditors members)) w = members_done tree d members w
members_of_done tree d (Some (Lit l)) w = refl
members_of_done tree d (Some (Noun x)) w = refl
members_of_done tree d (Some (Set x e)) w = refl
members_of_done tree d (Some (Def p j e)) w = refl
members_of_done tree d (Some (Call r v es)) w = refl
members_of_done tree d (Some (Sequence es)) w = refl
members_of_done tree d (Some (If t a b)) w = refl
members_of_done tree d (Some (Escape p b c)) w = refl
members_of_done tree d (Some (Try b p h)) w = refl
members_of_done tree d (Some (Finally a b)) w = refl
members_of_done tree d (Some (Hide e)) w = refl
members_of_done tree d (Some (MatchBind e p)) w = refl
members_of_done tree d (Some (Method v ps b)) w = refl
members_of_done tree d (Some (Matcher p b)) w = refl
members_of_done tree d (Some (Final x g)) w = refl
members_of_done tree d (Some (Var x g)) w = refl
members_of_done tree d (Some (Any g)) w = refl
members_of_done tree d (Some (ListPattern ps)) w = refl
members_of_done tree d (Some (Via e p)) w = refl

task_done : (tree : List Node) (task : Task) (w : Walk) → all_done tree (left_over tree task w) (at_once tree task w) ≡ done tree task w
unfolding walk
task_done tree (Visit id zero) w = refl
task_done tree (Visit id (suc d)) w = found_done tree id d (slice_get tree id) w refl
task_done tree (Bind id) w = refl
task_done tree (Members id d) w = members_of_done tree d (slice_get tree id) w
task_done tree (Keep n) w = refl

-- before the first task, behind a task, and behind the last one
pub starts : (tree : List Node) (ids : List ℕ) (w : Walk) (none tasks : List Task)
    → w ≡ record { bound = []; free = [] } → none ≡ [] → tasks ≡ visits (length tree) ids ++ none → (all_done tree tasks w).free ≡ free_nouns tree ids
unfolding free_nouns
starts tree ids w none tasks begun nothing pushed =
    ap (λ ts. (all_done tree ts w).free) (pushed ∙ ap (λ ts. visits (length tree) ids ++ ts) nothing)
    ∙ ap (λ u. u.free) (done_append tree (visits (length tree) ids) [] w ∙ visits_done tree (length tree) ids w)
    ∙ ap (λ u. (walk_all (walk tree (length tree)) ids u).free) begun

pub goes : (tree : List Node) (task : Task) (rest before tasks : List Task) (w next : Walk) (due : List Words)
    → before ≡ task ∷ rest → next ≡ at_once tree task w → tasks ≡ left_over tree task w ++ rest → (all_done tree before w).free ≡ due → (all_done tree tasks next).free ≡ due
goes tree task rest before tasks w next due first acted pushed was =
    ap (λ ts. (all_done tree ts next).free) pushed
    ∙ ap (λ u. (all_done tree (left_over tree task w ++ rest) u).free) acted
    ∙ ap (λ u. u.free) (done_append tree (left_over tree task w) rest (at_once tree task w) ∙ ap (all_done tree rest) (task_done tree task w))
    ∙ ap (λ ts. (all_done tree ts w).free) (sym first) ∙ was

pub ends_here : (tree : List Node) (tasks : List Task) (w : Walk) (due : List Words) → tasks ≡ [] → (all_done tree tasks w).free ≡ due → w.free ≡ due
ends_here tree tasks w due none was = sym (ap (λ ts. (all_done tree ts w).free) none) ∙ was
