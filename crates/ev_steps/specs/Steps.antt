-- Evaluation over the state of the code: the machine's evaluation, of each tree.
use Rattle.std.specs.Prelude.{◌+◌, ◌==◌, reverse, ℕ, zero, suc, pos, Bool, true, false, if◌then◌else◌, List, [], ◌∷◌, ◌++◌, Some, None, length, map, slice_get, codes}
use Rattle.std.specs.declared.option.Option.{Option}
use Rattle.ev_base.specs.declared.values.Value.{Value}
use Rattle.ev_base.specs.declared.values.Value.TheVariants as held
use Rattle.ev_heap.specs.declared.happened.Happened.TheVariants as event
use Rattle.def_kernel.specs.declared.node.Literal.{Literal}
use Rattle.def_kernel.specs.declared.node.Literal.TheVariants as literal
use Rattle.def_kernel.specs.declared.node.Node.{Node}
use Rattle.def_kernel.specs.declared.node.Node.TheVariants.{Lit, Noun, Set, Def, Call, Sequence, If, Escape, Try, Finally, Hide, MatchBind, Object as ObjectNode, Method, Matcher, Final, Var, Any, ListPattern, Via}
use Rattle.def_machine.specs.Values.{Words}
use Rattle.def_machine.specs.Free.{BoundNoun, bound_nouns}
use Rattle.def_machine.specs.Scopes.{Case, matchers_of, members_of}
use Rattle.ev_heap.specs.Contents.{Contents}
use Rattle.ev_prims.specs.Answers.{data_answer, members_at}
use Rattle.def_machine.specs.Native.{value_order}
use Rattle.ev_prims.specs.Asks.{asked_of}
use Rattle.ev_prims.specs.Orders.{compared_by}
use Rattle.ev_prims.specs.Ranges.{range_answer}
use Rattle.ev_prims.specs.Reading.{text_in, value_by}
use Rattle.ev_prims.specs.declared.asking.Asked.{Asked}
use Rattle.ev_prims.specs.declared.asking.Asked.TheVariants as ask
use Rattle.ev_prims.specs.declared.order.Test.{Test}
use Rattle.ev_prims.specs.declared.problem.Problem.TheVariants.{NoMethod, NotBoolean}
use Rattle.ev_prims.specs.declared.reply.Reply.{Reply}
use Rattle.ev_prims.specs.declared.reply.Reply.TheVariants as reply
use Rattle.ev_heap.specs.declared.kept.Cell.{Cell}
use Rattle.ev_heap.specs.declared.kept.GuardKind.{GuardKind}
use Rattle.ev_heap.specs.declared.kept.GuardKind.TheVariants.{Native, User}
use Rattle.ev_audit.specs.Asks.{asking}
use Rattle.ev_audit.specs.declared.auditions.AuditionAsk.{AuditionAsk}
use Rattle.ev_audit.specs.declared.auditions.AuditionAsk.TheVariants.{GetsForm, GetsGuard, Asks, NoMethod as NoAsk}
use Rattle.ev_heap.specs.declared.kept.AuditView.{AuditView}
use Rattle.ev_room.specs.Forms.{object_form}
use Rattle.ev_room.specs.Coercion.{guard_coerced, native_coerced, null_or}
use Rattle.ev_room.specs.Takings.{is_null}
use Rattle.ev_room.specs.declared.coercion.Coerced.{Coerced}
use Rattle.ev_room.specs.declared.coercion.Coerced.TheVariants as coerced
use Rattle.ev_room.specs.Sound.{is_there, no_guard, no_match_id, not_a_list_id, not_a_guard_id, not_near_id, bad_message_id, not_an_auditor_id, dead_audition_id}
use Rattle.ev_steps.specs.Same.{same_ever}
use Rattle.ev_refs.specs.Follow.{followed}
use Rattle.ev_steps.specs.declared.message.Request.{Request}
use Rattle.ev_steps.specs.Eventual.{message_in, send_with, make_promise, broken, test_value, when_by, resolving, resolver_answer, call_resolver, opened_eventual}
use Rattle.ev_room.specs.declared.object.Object.{Object}
use Rattle.ev_room.specs.declared.object.Code.{Code}
use Rattle.ev_room.specs.declared.object.Code.TheVariants.{Runs, Leaves, Resolves, Audits}
use Rattle.ev_room.specs.declared.exit.Exit.TheVariants.{Thrown, Ejected, Fuel, Deep, Astray}
use Rattle.ev_pass.specs.declared.interior.Interior.{Interior}
use Rattle.ev_room.specs.declared.scope.Bound.{Bound}
use Rattle.ev_room.specs.declared.scope.Bound.TheVariants.{Fixed, Slot}
use Rattle.ev_room.specs.declared.scope.Scope.{Scope}
use Rattle.ev_steps.specs.declared.target.Target.{Target}
use Rattle.ev_steps.specs.declared.target.Target.TheVariants as target
use Rattle.ev_room.specs.Acts.{Act, ◌>>=◌, ◌>>◌, give, fail, tell, spend, new_activation, new_slot, found_from, read_bound, write_slot, cut, with_noun, fails, problem_id, text_value, write_text, make_list, closed, thrown_id, call_there, object_at, view_at, new_audition, guard_asked, is_stamped, prim_verdict, and_then, first_method, look_code, Out, ended_by, leave, new_ejector, ejected, ejector_answer, call_ejector, answer}

-- a call by an activation: receiver, verb and arguments
abbrev pub Caller : Type 0
Caller = ℕ → Value → Words → List Value → Act Value

-- run of a value is called with each place and the member there
unfoldable pub iterate : Caller → ℕ → Value → ℕ → List Value → Act Value
iterate again act f k [] = give held.Null
iterate again act f k (v ∷ vs) = do
  again act f (codes "run") (held.Int (pos k) ∷ v ∷ [])
  iterate again act f (suc k) vs

-- what data answers is done
unfoldable pub replied : Caller → ℕ → Reply → Act Value
replied again act (reply.Says v) = give v
replied again act (reply.Writes u) = write_text u
replied again act (reply.Lists vs) = make_list act vs
replied again act (reply.Iterates f vs) = iterate again act f 0 vs
replied again act (reply.Fails p) = fails p

-- ---- guards

unfoldable pub failed_by : {A : Type 0} → Caller → ℕ → Value → ℕ → Bool → Act A
failed_by again act j id true = fail (Thrown id)
failed_by again act j id false = again act j (codes "run") (held.Text id ∷ []) >> fail (Thrown id)

-- A failing calls the ejector where there is one, and throws where that comes back.
unfoldable pub failed : {A : Type 0} → Caller → ℕ → Value → ℕ → Act A
failed again act j id = λ s. failed_by again act j id (is_null (followed s.refs j)) s

-- the ejector as it is handed on: null where it is followed to that
unfoldable pub handed : Interior → Value → Value
handed i j = if is_null (followed i.refs j) then held.Null else j

-- what follows a coercion with an ejector, by what came of it
unfoldable pub coerced_as : Caller → ℕ → Value → Coerced → Act Value
coerced_as again act j (coerced.Takes v) = give v
coerced_as again act j (coerced.Refuses id) = failed again act j id
coerced_as again act j coerced.NoGuard = fail (Thrown not_a_guard_id)
coerced_as again act j coerced.Astray = fail Astray

-- a guard coerces a value, with an ejector: an object is called
unfoldable pub coerce : Caller → ℕ → GuardKind → Value → Value → Act Value
coerce again act (Native n) j v = λ s. coerced_as again act j (native_coerced s.heap n v (followed s.refs v)) s
coerce again act (User i) j v = λ s. again act (held.Obj i) (codes "coerce") (v ∷ handed s j ∷ []) s

-- a slot is written with what a guard makes of a value
unfoldable pub write_under : Caller → ℕ → ℕ → GuardKind → Value → Act Value
write_under again act k g v = do
  u ← coerce again act g held.Null v
  write_slot act k u

unfoldable pub write_cell : Caller → ℕ → ℕ → Value → Option Cell → Act Value
write_cell again act k v None = fail Astray
write_cell again act k v (Some c) = write_under again act k c.guard v

unfoldable pub write_bound : Caller → ℕ → Option Bound → Value → Act Value
write_bound again act (Some (Slot k)) v = λ s. write_cell again act k v (slice_get s.heap.slots k) s
write_bound again act (Some (Fixed u g)) v = fail Astray
write_bound again act None v = fail Astray

-- ---- primitives

-- the answer of a turn of a loop tells whether there is another
unfoldable pub after_turn : Act Value → Value → Act Value
after_turn more (held.Bool true) = more
after_turn more (held.Bool false) = give held.Null
after_turn more _ = fails NotBoolean

-- at most so many turns
unfoldable pub turns : Caller → ℕ → Value → ℕ → Act Value
turns again act f zero = fail Fuel
turns again act f (suc n) = do
  x ← again act f (codes "run") []
  λ s. after_turn (turns again act f n) (followed s.refs x) s

-- as many turns at most as there is fuel, of which each turn takes some
unfoldable pub loop : Caller → ℕ → Value → Act Value
loop again act f = λ s. turns again act f (s.micro.fuel + 1) s

unfoldable pub pair_there : Contents → Value → Value → Bool
pair_there h x y = if is_there h x then is_there h y else false

unfoldable pub compared_there : Caller → ℕ → Test → Value → Value → Bool → Act Value
compared_there again act t x y true = λ s. replied again act (compared_by t (value_order (value_by (text_in s.heap) x) (value_by (text_in s.heap) y))) s
compared_there again act t x y false = fail Astray

-- at followed values
unfoldable pub compared_at : Caller → ℕ → Test → Value → Value → Act Value
compared_at again act t x y = λ s. compared_there again act t x y (pair_there s.heap x y) s

unfoldable pub compared : Caller → ℕ → Test → Value → Value → Act Value
compared again act t x y = λ s. compared_at again act t (followed s.refs x) (followed s.refs y) s

unfoldable pub called_with : Caller → ℕ → Value → Option Request → Act Value
called_with again act x (Some m) = again act x m.verb m.args
called_with again act x None = fail (Thrown bad_message_id)

-- what is asked of a primitive, with these as the arguments
unfoldable pub performed : Caller → ℕ → Asked → List Value → Act Value
performed again act ask.MakesList args = make_list act args
performed again act (ask.Ranges last x y) args = λ s. replied again act (range_answer last (followed s.refs x) (followed s.refs y)) s
performed again act (ask.Compares t x y) args = compared again act t x y
performed again act (ask.Loops f) args = loop again act f
performed again act (ask.SendsTo only x v l) args = send_with only act x v l
performed again act (ask.CallsTo x v l) args = λ s. called_with again act x (message_in s.heap (followed s.refs v) (followed s.refs l)) s
performed again act ask.MakesPromise args = make_promise act
performed again act (ask.Breaks t) args = broken t
performed again act (ask.Tells test x) args = test_value test x
performed again act (ask.Whens x o) args = when_by act x o
performed again act (ask.ThrowsIt v) args = λ s. fail (Thrown (thrown_id (followed s.refs v))) s
performed again act ask.NoMethod args = fails NoMethod
performed again act (ask.Same x y) args = same_ever x y
performed again act (ask.Coerces g x j) args = λ s. coerced_as again act j (guard_coerced s.heap g x (followed s.refs x)) s
performed again act (ask.AddsNull x) args = λ s. replied again act (null_or (followed s.refs x)) s
performed again act (ask.IsStamped a x) args = λ s. give (held.Bool (is_stamped s.heap (followed s.refs a) (followed s.refs x))) s

-- ---- data

unfoldable pub answered_there : Caller → ℕ → Value → Words → List Value → Bool → Act Value
answered_there again act x verb args true = λ s. replied again act (data_answer (text_in s.heap) (members_at s.heap) x verb args (map (followed s.refs) args)) s
answered_there again act x verb args false = fail Astray

unfoldable pub answered : Caller → ℕ → Value → Words → List Value → Act Value
answered again act x verb args = λ s. answered_there again act x verb args (call_there s.heap x (map (followed s.refs) args)) s

-- a call on data, held as x and followed to y
unfoldable pub call_data : Caller → ℕ → Value → Value → Words → List Value → Act Value
call_data again act x y verb args = do
  tell (event.Call act x verb args None)
  closed act (answered again act y verb args)

-- ---- auditing

-- however it ends, the audition is dead after it
unfoldable pub leaving : ℕ → Out Value → Out Value
leaving n o = ended_by (λ v. leave n (give v)) (λ id. leave n (fail (Thrown id))) (λ k v. leave n (fail (Ejected k v))) o

-- only true approves
abbrev pub is_true : Value → Bool
is_true (held.Bool b) = b
is_true _ = false

-- what an auditor answered, as it is followed
unfoldable pub approved : Value → Act Value
approved v = λ s. give (held.Bool (is_true (followed s.refs v))) s

unfoldable pub audited : ℕ → Out Value → Out Value
audited n o = and_then (leaving n o) approved

-- an object is asked, with an audition of its own
unfoldable pub audit : Caller → ℕ → AuditView → Value → Act Value
audit again act view a = do
  n ← new_audition act view
  λ s. audited n (again act a (codes "audit") (held.Obj n ∷ []) s)

-- the verdict of an auditor, as it is held and as it is followed: a boolean
unfoldable pub verdict : Caller → ℕ → AuditView → Value → Value → Act Value
verdict again act view a (held.Prim n) = answer (prim_verdict n view)
verdict again act view a (held.Obj i) = audit again act view a
verdict again act view a _ = fail (Thrown not_an_auditor_id)

abbrev pub with_stamp : Bool → Value → List Value → List Value
with_stamp true y ys = ys ++ y ∷ []
with_stamp false y ys = ys

-- each auditor is asked, in order; it gives the stamps, behind those so far
unfoldable pub ask_all : Caller → ℕ → AuditView → List Value → List Value → Act (List Value)
ask_all again act view so_far [] = give so_far
ask_all again act view so_far (a ∷ as') = λ s. and_then (verdict again act view a (followed s.refs a) s) (λ v. ask_all again act view (with_stamp (is_true v) (followed s.refs a) so_far) as')

-- the auditors' values are known; each is asked, and then the object comes to be
unfoldable pub make_object : List Node → Caller → ℕ → ℕ → List Value → List Value → Scope → Act (Value × Scope)
make_object tree again id p so_far auditors here = do
  stamps ← ask_all again here.act (view_at tree id p here) so_far auditors
  object_at tree id p stamps here

unfoldable pub audition_live : List Node → Caller → ℕ → AuditView → AuditionAsk → Act Value
audition_live tree again act view GetsForm = object_form tree act view.node
audition_live tree again act view (GetsGuard x) = λ s. answer (guard_asked s.heap view (followed s.refs x)) s
audition_live tree again act view (Asks a) = λ s. verdict again act view a (followed s.refs a) s
audition_live tree again act view NoAsk = fails NoMethod

-- what a dead one throws: verb and number of arguments are tested first
unfoldable pub dead_problem : AuditionAsk → ℕ
dead_problem NoAsk = problem_id NoMethod
dead_problem _ = dead_audition_id

unfoldable pub audition_answer : List Node → Caller → ℕ → Bool → AuditView → AuditionAsk → Act Value
audition_answer tree again act true view q = audition_live tree again act view q
audition_answer tree again act false view q = fail (Thrown (dead_problem q))

-- a call on an audition, held as x
unfoldable pub call_audition : List Node → Caller → ℕ → Value → Bool → AuditView → Words → List Value → Act Value
call_audition tree again act x live view verb args = do
  tell (event.Call act x verb args None)
  closed act (audition_answer tree again act live view (asking verb args))

-- What evaluates the nodes below: an expression, and a pattern at a specimen with an ejector. Null is no ejector.
pub record Evaluator : Type 0 where
  pub expression : ℕ → Scope → Act (Value × Scope)
  pub pattern : ℕ → Value → Value → Scope → Act Scope

-- ---- objects

-- patterns at values, one after another, with an ejector
unfoldable pub bind_all : Evaluator → List ℕ → List Value → Value → Scope → Act Scope
bind_all rec [] vs j here = give here
bind_all rec (p ∷ ps) [] j here = give here
bind_all rec (p ∷ ps) (v ∷ vs) j here = do
  after ← rec.pattern p v j here
  bind_all rec ps vs j after

unfoldable pub run_method : Evaluator → List ℕ → ℕ → List Value → Scope → Act Value
run_method rec ps b args here = do
  inner ← bind_all rec ps args held.Null here
  x ← rec.expression b inner
  give x.0

unfoldable pub handed_over : {A : Type 0} → ℕ → Act A → ℕ → Value → Bool → Act A
handed_over act next n v true = tell (event.Got act v) >> next
handed_over act next n v false = fail (Ejected n v)

-- A matcher whose pattern is bound gives what its body does. One that left by its ejector hands over.
unfoldable pub matched : Evaluator → ℕ → ℕ → ℕ → Act (Value × Scope) → Out Scope → Out (Value × Scope)
matched rec act j b next o = ended_by (λ inner. leave j (rec.expression b inner)) (λ id. leave j (fail (Thrown id))) (λ n v. leave j (handed_over act next n v (n == j))) o

unfoldable pub match_all : Evaluator → List Case → Value → Scope → Act (Value × Scope)
match_all rec [] v here = fails NoMethod
match_all rec (m ∷ ms) v here = do
  j ← new_ejector here.act
  λ s. matched rec here.act j m.body (match_all rec ms v here) (rec.pattern m.pattern v (held.Obj j) here s)

-- a list of the verb and the list of the arguments
unfoldable pub message_pair : ℕ → Words → List Value → Act Value
message_pair act verb args = do
  l ← make_list act args
  u ← text_value verb
  make_list act (u ∷ l ∷ [])

-- the matchers are tried on one such list
unfoldable pub try_matchers : Evaluator → List Case → Words → List Value → Scope → Act (Value × Scope)
try_matchers rec [] verb args here = fails NoMethod
try_matchers rec (m ∷ ms) verb args here = do
  pair ← message_pair here.act verb args
  match_all rec (m ∷ ms) pair here

unfoldable pub value_of_matchers : Evaluator → List Case → Words → List Value → Scope → Act Value
value_of_matchers rec ms verb args here = do
  x ← try_matchers rec ms verb args here
  give x.0

unfoldable pub run_found : Evaluator → List Case → Words → Option Node → List Value → Scope → Act Value
run_found rec ms verb (Some (Method v ps b)) args here = run_method rec ps b args here
run_found rec ms verb _ args here = value_of_matchers rec ms verb args here

-- what an object does with a message, in the environment of its captures
unfoldable pub run_object : List Node → Evaluator → ℕ → Words → List Value → Scope → Act Value
run_object tree rec node verb args here = run_found rec (matchers_of tree (members_of (slice_get tree node))) verb (first_method tree (members_of (slice_get tree node)) verb (length args)) args here

-- a call on an object, held as x, begins an activation, in which the object's code runs
unfoldable pub call_made : List Node → Evaluator → ℕ → Value → ℕ → Words → List Value → Object → Act Value
call_made tree rec act x i verb args o = do
  b ← new_activation (held.Obj i)
  tell (event.Call act x verb args (Some b))
  closed act (run_object tree rec o.node verb args (record { act = b; nouns = reverse o.nouns }))

-- what is called runs its code, leaves to its escape, resolves its promise, or tells of an object
unfoldable pub call_code : List Node → Evaluator → Caller → ℕ → Value → ℕ → Words → List Value → Code → Act Value
call_code tree rec again act x i verb args (Runs o) = call_made tree rec act x i verb args o
call_code tree rec again act x i verb args (Leaves live) = call_ejector act x i live verb args
call_code tree rec again act x i verb args (Resolves p) = call_resolver act x p verb args
call_code tree rec again act x i verb args (Audits live view) = call_audition tree again act x live view verb args

unfoldable pub call_object : List Node → Evaluator → Caller → ℕ → Value → ℕ → Words → List Value → Act Value
call_object tree rec again act x i verb args = do
  c ← look_code i
  call_code tree rec again act x i verb args c

-- a call on x, as it is held and as it is followed, in which data and primitives call again so
unfoldable pub call_value : List Node → Evaluator → Caller → ℕ → Value → Value → Words → List Value → Act Value
call_value tree rec again act x (held.Obj i) verb args = call_object tree rec again act x i verb args
call_value tree rec again act x (held.Broken id) verb args = fail (Thrown id)
call_value tree rec again act x (held.Prim n) verb args = performed again act (asked_of n verb args) args
call_value tree rec again act x (held.Prom n) verb args = fail (Thrown not_near_id)
call_value tree rec again act x (held.Far h p) verb args = fail (Thrown not_near_id)
call_value tree rec again act x y verb args = call_data again act x y verb args

-- a call in which calls again stand at most so many times one inside another
unfoldable pub call_at : List Node → Evaluator → ℕ → Caller
call_at tree rec zero act x verb args = fail Astray
call_at tree rec (suc n) act x verb args = λ s. call_value tree rec (call_at tree rec n) act x (followed s.refs x) verb args s

unfoldable pub call : List Node → Evaluator → Caller
call tree rec act x verb args = λ s. call_at tree rec (length s.heap.lists + 4) act x verb args s

-- calls again: within so many levels, or, where a turn calls, each with its levels counted anew
unfoldable pub again_by : List Node → Evaluator → Option ℕ → Caller
again_by tree rec None = call tree rec
again_by tree rec (Some n) = call_at tree rec n

-- ---- what a turn runs, which tells no line of its own

unfoldable pub turn_code : List Node → Evaluator → ℕ → ℕ → Words → List Value → Code → Act Value
turn_code tree rec act i verb args (Runs o) = run_object tree rec o.node verb args (record { act = act; nouns = reverse o.nouns })
turn_code tree rec act i verb args (Leaves live) = answer (ejector_answer i live (ejected verb args))
turn_code tree rec act i verb args (Resolves p) = resolver_answer p (resolving verb args)
turn_code tree rec act i verb args (Audits live view) = audition_answer tree (again_by tree rec None) act live view (asking verb args)

unfoldable pub turn_object : List Node → Evaluator → ℕ → ℕ → Words → List Value → Act Value
turn_object tree rec act i verb args = do
  c ← look_code i
  turn_code tree rec act i verb args c

-- a message on a followed value
unfoldable pub turn_value : List Node → Evaluator → ℕ → Value → Words → List Value → Act Value
turn_value tree rec act (held.Obj i) verb args = turn_object tree rec act i verb args
turn_value tree rec act (held.Broken id) verb args = fail (Thrown id)
turn_value tree rec act (held.Prim n) verb args = performed (again_by tree rec None) act (asked_of n verb args) args
turn_value tree rec act (held.Prom n) verb args = fail Astray
turn_value tree rec act (held.Far h p) verb args = fail Astray
turn_value tree rec act y verb args = answered (again_by tree rec None) act y verb args

-- ---- nodes

-- expressions from left to right, behind the values so far
unfoldable pub gathered : Evaluator → List Value → List ℕ → Scope → Act (List Value × Scope)
gathered rec so_far [] here = give (so_far, here)
gathered rec so_far (e ∷ es) here = do
  x ← rec.expression e here
  gathered rec (so_far ++ x.0 ∷ []) es x.1

unfoldable pub last_of : Evaluator → Value → List ℕ → Scope → Act (Value × Scope)
last_of rec x [] here = give (x, here)
last_of rec x (e ∷ es) here = do
  y ← rec.expression e here
  last_of rec y.0 es y.1

unfoldable pub call_node : List Node → Evaluator → ℕ → Words → List ℕ → Scope → Act (Value × Scope)
call_node tree rec r verb args here = do
  x ← rec.expression r here
  xs ← gathered rec [] args x.1
  v ← call tree rec here.act x.0 verb xs.0
  give (v, xs.1)

-- an object expression: its auditors are evaluated from left to right, behind the values so far
unfoldable pub object_on : List Node → Evaluator → ℕ → ℕ → List Value → List ℕ → Scope → Act (Value × Scope)
object_on tree rec id p so_far auditors here = do
  xs ← gathered rec so_far auditors here
  make_object tree (call tree rec) id p [] xs.0 xs.1

-- the ejector of a definition
unfoldable pub exit_of : Evaluator → Option ℕ → Scope → Act (Value × Scope)
exit_of rec None here = give (held.Null, here)
exit_of rec (Some j) here = rec.expression j here

-- a pattern is bound to the value of an expression, and the ejector is known
unfoldable pub define_by : Evaluator → ℕ → ℕ → Value → Scope → Act (Value × Scope)
define_by rec p e j here = do
  x ← rec.expression e here
  after ← rec.pattern p x.0 j x.1
  give (x.0, after)

unfoldable pub define : Evaluator → ℕ → Option ℕ → ℕ → Scope → Act (Value × Scope)
define rec p exit e here = do
  j ← exit_of rec exit here
  define_by rec p e j.0 j.1

unfoldable pub literal_value : Literal → Act Value
literal_value (literal.Int z) = give (held.Int z)
literal_value (literal.Char c) = give (held.Char c)
literal_value (literal.Text u) = text_value u

unfoldable pub literal_node : Literal → Scope → Act (Value × Scope)
literal_node l here = do
  v ← literal_value l
  give (v, here)

unfoldable pub noun_node : Words → Scope → Act (Value × Scope)
noun_node x here = do
  v ← read_bound here.act (found_from None here.nouns x) x
  give (v, here)

-- what the noun stands for before the value is evaluated is written
unfoldable pub set_node : List Node → Evaluator → Words → ℕ → Scope → Act (Value × Scope)
set_node tree rec x e here = do
  v ← rec.expression e here
  u ← write_bound (call tree rec) here.act (found_from None here.nouns x) v.0
  give (u, v.1)

-- an expression whose names are dropped behind it, down to so many
unfoldable pub within : Evaluator → ℕ → ℕ → Scope → Act (Value × Scope)
within rec mark e here = do
  x ← rec.expression e here
  give (x.0, cut mark x.1)

-- the branch that a value chooses, in the scope after the test
unfoldable pub choose : Evaluator → ℕ → ℕ → ℕ → Value → Scope → Act (Value × Scope)
choose rec mark a b (held.Bool true) inner = within rec mark a inner
choose rec mark a b (held.Bool false) inner = within rec mark b (cut mark inner)
choose rec mark a b _ inner = fails NotBoolean

unfoldable pub if_node : Evaluator → ℕ → ℕ → ℕ → Scope → Act (Value × Scope)
if_node rec t a b here = do
  x ← rec.expression t here
  λ s. choose rec (length here.nouns) a b (followed s.refs x.0) x.1 s

-- ---- escapes, problems, and what is evaluated at last

-- an expression whose names are dropped behind it
unfoldable pub alone : Evaluator → ℕ → Scope → Act Value
alone rec e here = do
  x ← rec.expression e here
  give x.0

-- a pattern is bound to a value, and an expression evaluated in the scope after it; the names of both are dropped
unfoldable pub handled : Evaluator → ℕ → ℕ → Value → Scope → Act Value
handled rec p e v here = do
  inner ← rec.pattern p v held.Null here
  x ← rec.expression e inner
  give x.0

unfoldable pub caught_as : Evaluator → Option (ℕ × ℕ) → Value → Scope → Act Value
caught_as rec None v here = give v
caught_as rec (Some c) v here = handled rec c.0 c.1 v here

-- what left by the ejector is the value, or is bound by the catch
unfoldable pub caught_by : Evaluator → Option (ℕ × ℕ) → Value → Scope → Act Value
caught_by rec c v here = do
  tell (event.Got here.act v)
  caught_as rec c v here

unfoldable pub caught_if : Evaluator → Option (ℕ × ℕ) → Scope → ℕ → Value → Bool → Act Value
caught_if rec c here n v true = caught_by rec c v here
caught_if rec c here n v false = fail (Ejected n v)

-- however it ended, the ejector is dead after it
unfoldable pub escaped : Evaluator → ℕ → Option (ℕ × ℕ) → Scope → Out Value → Out Value
escaped rec j c here o = ended_by (λ v. leave j (give v)) (λ id. leave j (fail (Thrown id))) (λ n v. leave j (caught_if rec c here n v (n == j))) o

-- the body of an escape, whose pattern is bound to the ejector
unfoldable pub escaping : Evaluator → ℕ → ℕ → Option (ℕ × ℕ) → Scope → ℕ → Act Value
escaping rec p b c here j = λ s. escaped rec j c here (handled rec p b (held.Obj j) here s)

-- the handler is evaluated at a problem
unfoldable pub tried : Evaluator → ℕ → ℕ → Scope → Out Value → Out Value
tried rec p h here o = ended_by give (λ id. handled rec p h (held.Text id) here) (λ n v. fail (Ejected n v)) o

unfoldable pub trying : Evaluator → ℕ → ℕ → ℕ → Scope → Act Value
trying rec b p h here = λ s. tried rec p h here (alone rec b here s)

-- the second part is evaluated after every end but a stop, and its value is dropped
unfoldable pub at_last : Evaluator → ℕ → Scope → Out Value → Out Value
at_last rec b here o = ended_by (λ v. alone rec b here >> give v) (λ id. alone rec b here >> fail (Thrown id)) (λ n v. alone rec b here >> fail (Ejected n v)) o

unfoldable pub lasting : Evaluator → ℕ → ℕ → Scope → Act Value
lasting rec a b here = λ s. at_last rec b here (alone rec a here s)

-- an escape, a try, a finally or a hide
unfoldable pub guarded : Evaluator → Node → Scope → Act Value
guarded rec (Escape p b c) here = do
  j ← new_ejector here.act
  escaping rec p b c here j
guarded rec (Try b p h) here = trying rec b p h here
guarded rec (Finally a b) here = lasting rec a b here
guarded rec (Hide e) here = alone rec e here
guarded rec _ here = fail Astray

-- it leaves the scope as it was
unfoldable pub guarded_node : Evaluator → Node → Scope → Act (Value × Scope)
guarded_node rec n here = do
  v ← guarded rec n here
  give (v, here)

-- ---- matches

-- what the names of a failed match are bound to
abbrev pub no_match : Value
no_match = held.Broken no_match_id

unfoldable pub unmatched_noun : ℕ → Bool → Act Bound
unmatched_noun act false = give (Fixed no_match no_guard)
unmatched_noun act true = do
  k ← new_slot no_guard no_match
  tell (event.Slot act k no_match)
  give (Slot k)

unfoldable pub bind_unmatched : BoundNoun → Scope → Act Scope
bind_unmatched b here = do
  n ← unmatched_noun here.act b.is_var
  give (with_noun b.noun n here)

-- the names of a failed match are bound anew
unfoldable pub unmatched : List BoundNoun → Scope → Act Scope
unmatched [] here = give here
unmatched (b ∷ bs) here = do
  after ← bind_unmatched b here
  unmatched bs after

unfoldable pub not_matched : List Node → ℕ → Scope → Value → Act (Value × Scope)
not_matched tree p here v = do
  tell (event.Got here.act v)
  after ← unmatched (bound_nouns tree p) here
  give (held.Bool false, after)

unfoldable pub matched_if : List Node → ℕ → Scope → ℕ → Value → Bool → Act (Value × Scope)
matched_if tree p here n v true = not_matched tree p here v
matched_if tree p here n v false = fail (Ejected n v)

-- however a match ended, its ejector is dead after it
unfoldable pub match_ended : List Node → ℕ → ℕ → Scope → Out Scope → Out (Value × Scope)
match_ended tree j p here o = ended_by (λ inner. leave j (give (held.Bool true, inner))) (λ id. leave j (fail (Thrown id))) (λ n v. leave j (matched_if tree p here n v (n == j))) o

unfoldable pub match_on : List Node → Evaluator → ℕ → ℕ → Value → Scope → Act (Value × Scope)
match_on tree rec act p v here = do
  j ← new_ejector act
  λ s. match_ended tree j p here (rec.pattern p v (held.Obj j) here s)

unfoldable pub match_node : List Node → Evaluator → ℕ → ℕ → Scope → Act (Value × Scope)
match_node tree rec e p here = do
  x ← rec.expression e here
  match_on tree rec here.act p x.0 x.1

unfoldable pub step : List Node → Evaluator → ℕ → Node → Scope → Act (Value × Scope)
step tree rec id (Lit l) here = literal_node l here
step tree rec id (Noun x) here = noun_node x here
step tree rec id (Set x e) here = set_node tree rec x e here
step tree rec id (Def p j e) here = define rec p j e here
step tree rec id (Call r verb args) here = call_node tree rec r verb args here
step tree rec id (Sequence es) here = last_of rec held.Null es here
step tree rec id (If t a b) here = if_node rec t a b here
step tree rec id (Escape p b c) here = guarded_node rec (Escape p b c) here
step tree rec id (Try b p h) here = guarded_node rec (Try b p h) here
step tree rec id (Finally a b) here = guarded_node rec (Finally a b) here
step tree rec id (Hide e) here = guarded_node rec (Hide e) here
step tree rec id (MatchBind e p) here = match_node tree rec e p here
step tree rec id (ObjectNode p auditors members) here = object_on tree rec id p [] auditors here
step tree rec id (Method v ps b) here = fail Astray
step tree rec id (Matcher p b) here = fail Astray
step tree rec id (Final x g) here = fail Astray
step tree rec id (Var x g) here = fail Astray
step tree rec id (Any g) here = fail Astray
step tree rec id (ListPattern ps) here = fail Astray
step tree rec id (Via e p) here = fail Astray

-- ---- patterns

-- what a pattern binds to a value that its guard has coerced, which an activation does
unfoldable pub bind_coerced : ℕ → Target → GuardKind → Value → Scope → Act Scope
bind_coerced act (target.Final x) g v here = give (with_noun x (Fixed v g) here)
bind_coerced act (target.Var x) g v here = do
  k ← new_slot g v
  tell (event.Slot act k v)
  give (with_noun x (Slot k) here)
bind_coerced act target.Nothing g v here = give here

unfoldable pub bind_by : List Node → Evaluator → ℕ → Target → Value → Value → GuardKind → Scope → Act Scope
bind_by tree rec act t v j g here = do
  u ← coerce (call tree rec) act g j v
  bind_coerced act t g u here

-- a pattern at a value with an ejector, under a value as its guard
unfoldable pub bind_under : List Node → Evaluator → ℕ → Target → Value → Value → Value → Scope → Act Scope
bind_under tree rec act t v j (held.Prim n) here = bind_by tree rec act t v j (Native n) here
bind_under tree rec act t v j (held.Obj i) here = bind_by tree rec act t v j (User i) here
bind_under tree rec act t v j _ here = fail (Thrown not_a_guard_id)

-- its guard is evaluated first
unfoldable pub bind_guarded : List Node → Evaluator → Target → Option ℕ → Value → Value → Scope → Act Scope
bind_guarded tree rec t None v j here = bind_coerced here.act t no_guard v here
bind_guarded tree rec t (Some e) v j here = do
  g ← rec.expression e here
  λ s. bind_under tree rec here.act t v j (followed s.refs g.0) g.1 s

unfoldable pub bind_list : List Node → Evaluator → List ℕ → Value → Scope → List Value → Bool → Act Scope
bind_list tree rec ps j here vs true = bind_all rec ps vs j here
bind_list tree rec ps j here vs false = failed (call tree rec) here.act j not_a_list_id

-- a list of as many members
unfoldable pub bind_items : List Node → Evaluator → List ℕ → Value → Scope → Value → Act Scope
bind_items tree rec ps j here (held.List k) = λ s. bind_list tree rec ps j here (members_at s.heap k) (length (members_at s.heap k) == length ps) s
bind_items tree rec ps j here v = failed (call tree rec) here.act j not_a_list_id

-- what a value gives for another with an ejector is bound
unfoldable pub bind_via : List Node → Evaluator → ℕ → ℕ → Value → Value → Value → Scope → Act Scope
bind_via tree rec act p v j f here = do
  y ← (λ s. call tree rec act f (codes "run") (v ∷ handed s j ∷ []) s)
  rec.pattern p y j here

unfoldable pub bind_asked : List Node → Evaluator → ℕ → ℕ → Value → Value → Scope → Act Scope
bind_asked tree rec e p v j here = do
  f ← rec.expression e here
  bind_via tree rec here.act p v j f.0 f.1

unfoldable pub bind_step : List Node → Evaluator → Node → Value → Value → Scope → Act Scope
bind_step tree rec (Final x g) v j here = bind_guarded tree rec (target.Final x) g v j here
bind_step tree rec (Var x g) v j here = bind_guarded tree rec (target.Var x) g v j here
bind_step tree rec (Any g) v j here = bind_guarded tree rec target.Nothing g v j here
bind_step tree rec (ListPattern ps) v j here = λ s. bind_items tree rec ps j here (followed s.refs v) s
bind_step tree rec (Via e p) v j here = bind_asked tree rec e p v j here
bind_step tree rec _ v j here = fail Astray

unfoldable pub step_found : List Node → Evaluator → ℕ → Option Node → Scope → Act (Value × Scope)
step_found tree rec id None here = fail Astray
step_found tree rec id (Some n) here = step tree rec id n here

unfoldable pub bind_found : List Node → Evaluator → Option Node → Value → Value → Scope → Act Scope
bind_found tree rec None v j here = fail Astray
bind_found tree rec (Some n) v j here = bind_step tree rec n v j here

unfoldable pub deeper : List Node → Evaluator → Evaluator
deeper tree rec = record {
  expression = λ id here. spend 1 >> step_found tree rec id (slice_get tree id) here;
  pattern = λ id v j here. spend 1 >> bind_found tree rec (slice_get tree id) v j here;
}

-- the evaluator of so many levels
unfoldable pub evaluator : List Node → ℕ → Evaluator
evaluator tree zero = record { expression = λ id here. fail Deep; pattern = λ id v j here. fail Deep }
evaluator tree (suc d) = deeper tree (evaluator tree d)

-- the opening turn evaluates the program in an activation of its own, where no noun is bound
unfoldable pub opening : List Node → ℕ → Act Value
opening tree depth = do
  a ← new_activation held.Null
  x ← (evaluator tree depth).expression 0 (record { act = a; nouns = [] })
  give x.0

-- opens the steps, and not the recursions
unfoldable pub opened_steps : Unit {0}
unfolding after_turn loop pair_there compared_there compared_at compared called_with performed replied answered_there answered call_data leaving approved audited audit verdict make_object audition_live dead_problem audition_answer call_audition call_node run_method handed_over matched message_pair value_of_matchers run_found run_object call_made call_code call_object call_value call again_by turn_code turn_object turn_value object_on exit_of define_by define literal_value literal_node noun_node set_node within choose if_node alone handled caught_as caught_by unmatched_noun bind_unmatched not_matched matched_if match_ended match_on match_node step failed_by failed handed coerced_as coerce write_under write_cell write_bound bind_coerced bind_by bind_under bind_guarded bind_list bind_items bind_via bind_asked bind_step step_found bind_found opening opened_eventual
opened_steps = tt
