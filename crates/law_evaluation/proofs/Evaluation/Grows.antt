-- Evaluation binds names behind those that were bound, and takes none of them away.
use Rattle.std.proofs.Common.{ℕ, zero, Bool, true, false, List, [], ◌∷◌, ◌++◌, Option, Some, None, Ok, Err, length}
use Rattle.std.specs.Prelude.{slice_get, ◌==◌}
use Rattle.def_kernel.specs.declared.node.Literal.{Literal}
use Rattle.def_kernel.specs.declared.node.Node.{Node}
use Rattle.def_kernel.specs.declared.node.Node.TheVariants.{Lit, Noun, Set, Def, Call, Sequence, If, Escape, Try, Finally, Hide, MatchBind, Object as ObjectNode, Final, Var, Any, ListPattern, Via}
use Rattle.def_machine.specs.Free.{BoundNoun, bound_nouns}
use Rattle.def_machine.specs.Values.{Words}
use Rattle.ev_prims.specs.Answers.{members_at}
use Rattle.ev_base.specs.declared.values.Value.{Value}
use Rattle.ev_base.specs.declared.values.Value.TheVariants as held
use Rattle.ev_pass.specs.declared.interior.Interior.{Interior as Room}
use Rattle.ev_room.specs.declared.scope.Bound.TheVariants.{Fixed, Slot}
use Rattle.ev_room.specs.declared.scope.Scope.{Scope}
use Rattle.ev_heap.specs.declared.kept.GuardKind.{GuardKind}
use Rattle.ev_heap.specs.declared.kept.GuardKind.TheVariants.{Native, User}
use Rattle.ev_steps.specs.declared.target.Target.{Target}
use Rattle.ev_steps.specs.declared.target.Target.TheVariants as target
use Rattle.ev_steps.specs.Steps.{Caller, Evaluator, guarded_node, gathered, last_of, make_object, object_on, call_node, exit_of, define_by, define, literal_node, noun_node, set_node, within, choose, if_node, bind_unmatched, unmatched, not_matched, matched_if, match_ended, match_on, match_node, step, call, failed_by, failed, bind_all, bind_coerced, bind_by, bind_under, bind_guarded, bind_list, bind_items, bind_via, bind_asked, bind_step, step_found, bind_found, deeper, evaluator}
use Rattle.ev_room.specs.Acts.{Out, Act, ◌>>=◌, ◌>>◌, ended_by, fails, cut, leave}
use Rattle.ev_room.specs.Sound.{no_guard, not_a_list_id}
use Rattle.ev_room.specs.Takings.{is_null}
use Rattle.ev_refs.specs.Follow.{followed}
use Rattle.ev_room.specs.declared.exit.Exit.TheVariants as exit
use Rattle.law_evaluation.proofs.Acts.Behind.{Grows, same, onward, with_one, back, then_of, then_any, lost, Holds, Of, GivesMore, BindsMore, given, bound, object_grows}

-- what evaluates nodes
pub record IsGrowing (rec : Evaluator) : Type 0 where
  pub expression : (id : ℕ) (here : Scope) (s : Room) → GivesMore here (rec.expression id here s)
  pub pattern : (id : ℕ) (v j : Value) (here : Scope) (s : Room) → BindsMore here (rec.pattern id v j here s)

-- ---- expressions

literal_grows : (l : Literal) (here : Scope) (s : Room) → GivesMore here (literal_node l here s)
unfolding literal_node ◌>>=◌
literal_grows l here s = then_any _ _ (λ v t. given v t (same here))

noun_grows : (x : Words) (here : Scope) (s : Room) → GivesMore here (noun_node x here s)
unfolding noun_node ◌>>=◌
noun_grows x here s = then_any _ _ (λ v t. given v t (same here))

set_grows : (tree : List Node) (rec : Evaluator) → IsGrowing rec → (x : Words) (e : ℕ) (here : Scope) (s : Room) → GivesMore here (set_node tree rec x e here s)
unfolding set_node ◌>>=◌
set_grows tree rec r x e here s = then_of _ (r.expression e here s) (λ v t g. then_any _ _ (λ u q. given u q g))

exit_grows : (rec : Evaluator) → IsGrowing rec → (j : Option ℕ) (here : Scope) (s : Room) → GivesMore here (exit_of rec j here s)
unfolding exit_of
exit_grows rec r None here s = given held.Null s (same here)
exit_grows rec r (Some j) here s = r.expression j here s

define_by_grows : (rec : Evaluator) → IsGrowing rec → (p e : ℕ) (j : Value) (first here : Scope) (s : Room) → Grows first here → GivesMore first (define_by rec p e j here s)
unfolding define_by ◌>>=◌
define_by_grows rec r p e j first here s f = then_of _ (r.expression e here s) (λ x t g. then_of _ (r.pattern p x.0 j x.1 t) (λ after q h. given x.0 q (onward f (onward g h))))

define_grows : (rec : Evaluator) → IsGrowing rec → (p : ℕ) (j : Option ℕ) (e : ℕ) (here : Scope) (s : Room) → GivesMore here (define rec p j e here s)
unfolding define ◌>>=◌
define_grows rec r p j e here s = then_of _ (exit_grows rec r j here s) (λ y t g. define_by_grows rec r p e y.0 here y.1 t g)

gathered_grows : (rec : Evaluator) → IsGrowing rec → (so_far : List Value) (es : List ℕ) (first here : Scope) (s : Room) → Grows first here → GivesMore first (gathered rec so_far es here s)
unfolding gathered ◌>>=◌
gathered_grows rec r so_far [] first here s g = given so_far s g
gathered_grows rec r so_far (e ∷ es) first here s g = then_of _ (r.expression e here s) (λ x t h. gathered_grows rec r (so_far ++ x.0 ∷ []) es first x.1 t (onward g h))

last_grows : (rec : Evaluator) → IsGrowing rec → (x : Value) (es : List ℕ) (first here : Scope) (s : Room) → Grows first here → GivesMore first (last_of rec x es here s)
unfolding last_of ◌>>=◌
last_grows rec r x [] first here s g = given x s g
last_grows rec r x (e ∷ es) first here s g = then_of _ (r.expression e here s) (λ y t h. last_grows rec r y.0 es first y.1 t (onward g h))

node_grows : (tree : List Node) (rec : Evaluator) → IsGrowing rec → (id p : ℕ) (auditors : List ℕ) (here : Scope) (s : Room) → GivesMore here (object_on tree rec id p [] auditors here s)
unfolding object_on make_object ◌>>=◌
node_grows tree rec r id p auditors here s =
    then_of _ (gathered_grows rec r [] auditors here here s (same here)) (λ xs t g. then_any _ _ (λ stamps u. object_grows tree id p stamps here xs.1 u g))

call_grows : (tree : List Node) (rec : Evaluator) → IsGrowing rec → (f : ℕ) (verb : Words) (args : List ℕ) (here : Scope) (s : Room) → GivesMore here (call_node tree rec f verb args here s)
unfolding call_node ◌>>=◌
call_grows tree rec r f verb args here s =
    then_of _ (r.expression f here s) (λ x t g. then_of _ (gathered_grows rec r [] args here x.1 t g) (λ xs u h. then_any _ _ (λ v q. given v q h)))

within_grows : (rec : Evaluator) → IsGrowing rec → (e : ℕ) (first here : Scope) (s : Room) → Grows first here → GivesMore first (within rec (length first.nouns) e here s)
unfolding within ◌>>=◌
within_grows rec r e first here s g = then_of _ (r.expression e here s) (λ x t h. given x.0 t (back (onward g h)))

choose_grows : (rec : Evaluator) → IsGrowing rec → (a b : ℕ) (x : Value) (first here : Scope) (s : Room) → Grows first here → GivesMore first (choose rec (length first.nouns) a b x here s)
unfolding choose
choose_grows rec r a b (held.Bool true) first here s g = within_grows rec r a first here s g
choose_grows rec r a b (held.Bool false) first here s g = within_grows rec r b first (cut (length first.nouns) here) s (back g)
choose_grows rec r a b _ first here s g = unfold fails in lost _ s

if_grows : (rec : Evaluator) → IsGrowing rec → (c a b : ℕ) (here : Scope) (s : Room) → GivesMore here (if_node rec c a b here s)
unfolding if_node ◌>>=◌
if_grows rec r c a b here s = then_of _ (r.expression c here s) (λ x t g. choose_grows rec r a b (followed t.refs x.0) here x.1 t g)

-- ---- matches

ended_holds : {A B : Type 0} (P : A → Type 0) (Q : B → Type 0) (o : Out A) (f : A → Act B) (g : ℕ → Act B) (h : ℕ → Value → Act B)
    → Holds P o → ((a : A) (t : Room) → P a → Of Q (f a t)) → ((id : ℕ) (t : Room) → Of Q (g id t)) → ((n : ℕ) (v : Value) (t : Room) → Of Q (h n v t)) → Of Q (ended_by f g h o)
unfolding ended_by
ended_holds P Q (Ok a, t) f g h i j k l = j a t i
ended_holds P Q (Err (exit.Thrown id), t) f g h i j k l = k id t
ended_holds P Q (Err (exit.Ejected n v), t) f g h i j k l = l n v t
ended_holds P Q (Err exit.Fuel, t) f g h i j k l = record { holds = tt }
ended_holds P Q (Err exit.Deep, t) f g h i j k l = record { holds = tt }
ended_holds P Q (Err (exit.Repeated a b), t) f g h i j k l = record { holds = tt }
ended_holds P Q (Err exit.Astray, t) f g h i j k l = record { holds = tt }
ended_holds P Q (Err exit.Memory, t) f g h i j k l = record { holds = tt }

one_unmatched : (b : BoundNoun) (here : Scope) (s : Room) → BindsMore here (bind_unmatched b here s)
unfolding bind_unmatched ◌>>=◌
one_unmatched b here s = then_any _ _ (λ n t. bound t (with_one b.noun n here))

unmatched_grows : (bs : List BoundNoun) (first here : Scope) (s : Room) → Grows first here → BindsMore first (unmatched bs here s)
unfolding unmatched ◌>>=◌
unmatched_grows [] first here s g = bound s g
unmatched_grows (b ∷ bs) first here s g = then_of _ (one_unmatched b here s) (λ after t h. unmatched_grows bs first after t (onward g h))

matched_if_grows : (tree : List Node) (p : ℕ) (here : Scope) (n : ℕ) (v : Value) (b : Bool) (s : Room) → GivesMore here (matched_if tree p here n v b s)
unfolding matched_if not_matched ◌>>=◌ ◌>>◌
matched_if_grows tree p here n v true s = then_any _ _ (λ u t. then_of _ (unmatched_grows (bound_nouns tree p) here here t (same here)) (λ after q g. given (held.Bool false) q g))
matched_if_grows tree p here n v false s = lost _ s

onto_first : {A : Type 0} {first here : Scope} {o : Out (A × Scope)} → Grows first here → GivesMore here o → GivesMore first o
onto_first {A = A} {first = first} {here = here} {o = o} g m = record { holds = onto o m.holds }
  where
    onto : (o : Out (A × Scope)) → Holds (λ (x : A × Scope). Grows here x.1) o → Holds (λ (x : A × Scope). Grows first x.1) o
    onto (Ok x, t) h = onward g h
    onto (Err e, t) h = tt

match_ended_grows : (tree : List Node) (j p : ℕ) (here : Scope) (o : Out Scope) → BindsMore here o → GivesMore here (match_ended tree j p here o)
unfolding match_ended leave ◌>>◌
match_ended_grows tree j p here o h =
    ended_holds (λ (x : Scope). Grows here x) (λ (x : Value × Scope). Grows here x.1) o _ _ _ h.holds
    (λ inner t g. then_any _ _ (λ u q. given (held.Bool true) q g))
    (λ id t. then_any _ _ (λ u q. lost _ q))
    (λ n v t. then_any _ _ (λ u q. matched_if_grows tree p here n v (n == j) q))

match_on_grows : (tree : List Node) (rec : Evaluator) → IsGrowing rec → (act p : ℕ) (v : Value) (first here : Scope) (s : Room) → Grows first here → GivesMore first (match_on tree rec act p v here s)
unfolding match_on ◌>>=◌
match_on_grows tree rec r act p v first here s g = then_any _ _ (λ j t. onto_first g (match_ended_grows tree j p here (rec.pattern p v (held.Obj j) here t) (r.pattern p v (held.Obj j) here t)))

match_grows : (tree : List Node) (rec : Evaluator) → IsGrowing rec → (e p : ℕ) (here : Scope) (s : Room) → GivesMore here (match_node tree rec e p here s)
unfolding match_node ◌>>=◌
match_grows tree rec r e p here s = then_of _ (r.expression e here s) (λ x t g. match_on_grows tree rec r here.act p x.0 here x.1 t g)

guarded_grows : (rec : Evaluator) (n : Node) (here : Scope) (s : Room) → GivesMore here (guarded_node rec n here s)
unfolding guarded_node ◌>>=◌
guarded_grows rec n here s = then_any _ _ (λ v t. given v t (same here))

step_grows : (tree : List Node) (rec : Evaluator) → IsGrowing rec → (id : ℕ) (n : Node) (here : Scope) (s : Room) → GivesMore here (step tree rec id n here s)
unfolding step
step_grows tree rec r id (Lit l) here s = literal_grows l here s
step_grows tree rec r id (Noun x) here s = noun_grows x here s
step_grows tree rec r id (Set x e) here s = set_grows tree rec r x e here s
step_grows tree rec r id (Def p j e) here s = define_grows rec r p j e here s
step_grows tree rec r id (Call f verb args) here s = call_grows tree rec r f verb args here s
step_grows tree rec r id (Sequence es) here s = last_grows rec r held.Null es here here s (same here)
step_grows tree rec r id (If c a b) here s = if_grows rec r c a b here s
step_grows tree rec r id (Escape p b c) here s = guarded_grows rec (Escape p b c) here s
step_grows tree rec r id (Try b p h) here s = guarded_grows rec (Try b p h) here s
step_grows tree rec r id (Finally a b) here s = guarded_grows rec (Finally a b) here s
step_grows tree rec r id (Hide e) here s = guarded_grows rec (Hide e) here s
step_grows tree rec r id (MatchBind e p) here s = match_grows tree rec r e p here s
step_grows tree rec r id (ObjectNode p auditors ms) here s = node_grows tree rec r id p auditors here s
step_grows tree rec r id _ here s = lost _ s

-- ---- patterns

coerced_grows : (act : ℕ) (t : Target) (k : GuardKind) (v : Value) (first here : Scope) (s : Room) → Grows first here → BindsMore first (bind_coerced act t k v here s)
unfolding bind_coerced ◌>>=◌ ◌>>◌
coerced_grows act (target.Final x) k v first here s g = bound s (onward g (with_one x (Fixed v k) here))
coerced_grows act (target.Var x) k v first here s g = then_any _ _ (λ n t. then_any _ _ (λ z q. bound q (onward g (with_one x (Slot n) here))))
coerced_grows act target.Nothing k v first here s g = bound s g

under_grows : (tree : List Node) (rec : Evaluator) (act : ℕ) (t : Target) (v j x : Value) (first here : Scope) (s : Room) → Grows first here → BindsMore first (bind_under tree rec act t v j x here s)
unfolding bind_under bind_by ◌>>=◌
under_grows tree rec act t v j (held.Prim n) first here s g = then_any _ _ (λ u q. coerced_grows act t (Native n) u first here q g)
under_grows tree rec act t v j (held.Obj i) first here s g = then_any _ _ (λ u q. coerced_grows act t (User i) u first here q g)
under_grows tree rec act t v j _ first here s g = lost _ s

guarded_pattern_grows : (tree : List Node) (rec : Evaluator) → IsGrowing rec → (t : Target) (k : Option ℕ) (v j : Value) (here : Scope) (s : Room) → BindsMore here (bind_guarded tree rec t k v j here s)
unfolding bind_guarded ◌>>=◌
guarded_pattern_grows tree rec r t None v j here s = coerced_grows here.act t no_guard v here here s (same here)
guarded_pattern_grows tree rec r t (Some e) v j here s = then_of _ (r.expression e here s) (λ x q g. under_grows tree rec here.act t v j (followed q.refs x.0) here x.1 q g)

bind_all_grows : (rec : Evaluator) → IsGrowing rec → (ps : List ℕ) (vs : List Value) (j : Value) (first here : Scope) (s : Room) → Grows first here → BindsMore first (bind_all rec ps vs j here s)
unfolding bind_all ◌>>=◌
bind_all_grows rec r [] vs j first here s g = bound s g
bind_all_grows rec r (p ∷ ps) [] j first here s g = bound s g
bind_all_grows rec r (p ∷ ps) (v ∷ vs) j first here s g = then_of _ (r.pattern p v j here s) (λ after t h. bind_all_grows rec r ps vs j first after t (onward g h))

failed_by_grows : (again : Caller) (act : ℕ) (j : Value) (id : ℕ) (b : Bool) (here : Scope) (s : Room) → BindsMore here (failed_by again act j id b s)
unfolding failed_by ◌>>◌
failed_by_grows again act j id true here s = lost _ s
failed_by_grows again act j id false here s = then_any _ _ (λ y t. lost _ t)

failed_grows : (again : Caller) (act : ℕ) (j : Value) (id : ℕ) (here : Scope) (s : Room) → BindsMore here (failed again act j id s)
unfolding failed
failed_grows again act j id here s = failed_by_grows again act j id (is_null (followed s.refs j)) here s

list_grows : (tree : List Node) (rec : Evaluator) → IsGrowing rec → (ps : List ℕ) (j : Value) (here : Scope) (vs : List Value) (b : Bool) (s : Room) → BindsMore here (bind_list tree rec ps j here vs b s)
unfolding bind_list
list_grows tree rec r ps j here vs true s = bind_all_grows rec r ps vs j here here s (same here)
list_grows tree rec r ps j here vs false s = failed_grows (call tree rec) here.act j not_a_list_id here s

items_grows : (tree : List Node) (rec : Evaluator) → IsGrowing rec → (ps : List ℕ) (j : Value) (here : Scope) (v : Value) (s : Room) → BindsMore here (bind_items tree rec ps j here v s)
unfolding bind_items
items_grows tree rec r ps j here (held.List k) s = list_grows tree rec r ps j here (members_at s.heap k) (length (members_at s.heap k) == length ps) s
items_grows tree rec r ps j here _ s = failed_grows (call tree rec) here.act j not_a_list_id here s

via_grows : (tree : List Node) (rec : Evaluator) → IsGrowing rec → (act p : ℕ) (v j f : Value) (first here : Scope) (s : Room) → Grows first here → BindsMore first (bind_via tree rec act p v j f here s)
unfolding bind_via ◌>>=◌
via_grows tree rec r act p v j f first here s g = then_any _ _ (λ y t. record { holds = onto (rec.pattern p y j here t) (r.pattern p y j here t).holds })
  where
    onto : (o : Out Scope) → Holds (λ (x : Scope). Grows here x) o → Holds (λ (x : Scope). Grows first x) o
    onto (Ok x, t) h = onward g h
    onto (Err e, t) h = tt

bind_grows : (tree : List Node) (rec : Evaluator) → IsGrowing rec → (n : Node) (v j : Value) (here : Scope) (s : Room) → BindsMore here (bind_step tree rec n v j here s)
unfolding bind_step bind_asked ◌>>=◌
bind_grows tree rec r (Final x g) v j here s = guarded_pattern_grows tree rec r (target.Final x) g v j here s
bind_grows tree rec r (Var x g) v j here s = guarded_pattern_grows tree rec r (target.Var x) g v j here s
bind_grows tree rec r (Any g) v j here s = guarded_pattern_grows tree rec r target.Nothing g v j here s
bind_grows tree rec r (ListPattern ps) v j here s = items_grows tree rec r ps j here (followed s.refs v) s
bind_grows tree rec r (Via e p) v j here s = then_of _ (r.expression e here s) (λ f t g. via_grows tree rec r here.act p v j f.0 here f.1 t g)
bind_grows tree rec r _ v j here s = lost _ s

-- ---- the tree and the depth

step_found_grows : (tree : List Node) (rec : Evaluator) → IsGrowing rec → (id : ℕ) (o : Option Node) (here : Scope) (s : Room) → GivesMore here (step_found tree rec id o here s)
unfolding step_found
step_found_grows tree rec r id None here s = lost _ s
step_found_grows tree rec r id (Some n) here s = step_grows tree rec r id n here s

bind_found_grows : (tree : List Node) (rec : Evaluator) → IsGrowing rec → (o : Option Node) (v j : Value) (here : Scope) (s : Room) → BindsMore here (bind_found tree rec o v j here s)
unfolding bind_found
bind_found_grows tree rec r None v j here s = lost _ s
bind_found_grows tree rec r (Some n) v j here s = bind_grows tree rec r n v j here s

pub deeper_grows : (tree : List Node) (rec : Evaluator) → IsGrowing rec → IsGrowing (deeper tree rec)
unfolding deeper ◌>>◌
deeper_grows tree rec r = record {
  expression = λ id here s. then_any _ _ (λ u t. step_found_grows tree rec r id (slice_get tree id) here t);
  pattern = λ id v j here s. then_any _ _ (λ u t. bind_found_grows tree rec r (slice_get tree id) v j here t);
}

pub none_grows : (tree : List Node) → IsGrowing (evaluator tree zero)
unfolding evaluator
none_grows tree = record { expression = λ id here s. lost _ s; pattern = λ id v j here s. lost _ s }
