-- What is left to do of an evaluation: each frame goes on with what its part gave as Steps goes on there.
use Rattle.std.specs.Prelude.{◌≡◌, ◌≤◌, ℕ, suc, List, [], ◌∷◌, ◌++◌, Option, Some, None, pos, codes, Result, Ok, Err, length, drop, slice_get}
use Rattle.ev_base.specs.declared.values.Value.{Value}
use Rattle.ev_base.specs.declared.values.Value.TheVariants as held
use Rattle.ev_heap.specs.declared.happened.Happened.TheVariants as event
use Rattle.def_kernel.specs.declared.node.Node.{Node}
use Rattle.def_kernel.specs.declared.node.Node.TheVariants.{Call, Sequence, Method}
use Rattle.def_machine.specs.Values.{Words}
use Rattle.def_machine.specs.Scopes.{Case}
use Rattle.ev_room.specs.declared.exit.Exit.{Exit}
use Rattle.ev_room.specs.declared.exit.Exit.TheVariants.{Thrown, Ejected, Astray}
use Rattle.ev_room.specs.declared.exit.Came.{Came}
use Rattle.ev_room.specs.declared.exit.Came.TheVariants.{Gave, Threw, Left}
use Rattle.ev_pass.specs.declared.interior.Interior.{Interior as Room}
use Rattle.ev_prims.specs.declared.reply.Reply.{Reply}
use Rattle.ev_refs.specs.Follow.{followed}
use Rattle.ev_steps.specs.Eventual.{message_in}
use Rattle.ev_room.specs.declared.scope.Scope.{Scope}
use Rattle.ev_room.specs.Acts.{Act, Out, Unless, and_then, ◌>>=◌, ◌>>◌, give, fail, cut, write_slot, closed_by, new_activation, tell}
use Rattle.ev_steps.specs.Steps.{Caller, Evaluator, evaluator, define_by, write_bound, bind_coerced, bind_under, bind_via, match_on, match_ended, matched, match_all, try_matchers, gathered, call, last_of, choose, escaped, tried, at_last, bind_all, again_by, iterate, turns, after_turn, replied, answered, called_with, is_true, audited, with_stamp, make_object, object_on}
use Rattle.ev_frames.specs.declared.frames.Frame.{Frame}
use Rattle.ev_frames.specs.declared.frames.Frame.TheVariants.{Part as PartOf, Guard as GuardOf, Match, Case as CaseOf, Body}
use Rattle.ev_frames.specs.declared.frames.Part.{Part}
use Rattle.ev_frames.specs.declared.frames.Part.TheVariants.{Assign, Writes, Guarded, Coerced, DefineBy, Define, Yields, Then, Binds, Asks, Binding, Fails, Matching, Receiver, Args, Auditors, Stamps as Asked, Sequence as Parts, Test, Branch}
use Rattle.ev_frames.specs.declared.frames.Guard.{Guard}
use Rattle.ev_frames.specs.declared.frames.Guard.TheVariants.{Alone, Escape, Try, First, Last, Audit, Close, Members, Turns}
use Rattle.ev_frames.specs.declared.now.Now.{Now}
use Rattle.ev_frames.specs.declared.now.Now.TheVariants.{Begin, Bind, Member, Turn, Refuse, Calls, Audit as Audits, Ended}

-- a value, without the scope after it
abbrev pub valued : Out (Value × Scope) → Out Value
valued o = and_then o (λ x. give x.0)

-- the same value in a scope
abbrev pub settled : Scope → Out Value → Out (Value × Scope)
settled here o = and_then o (λ v. give (v, here))

-- a scope, as what gives null in it; and the scope of what gives a value
abbrev pub bound_as : Out Scope → Out (Value × Scope)
bound_as o = and_then o (λ after. give (held.Null, after))

-- this value, in the scope that something gives
unfoldable pub yielding : Value → Out Scope → Out (Value × Scope)
yielding v o = and_then o (λ after. give (v, after))

abbrev pub bound_by : Act Scope → Act (Value × Scope)
bound_by m = λ s. bound_as (m s)

abbrev pub scoped : Out (Value × Scope) → Out Scope
scoped o = and_then o (λ x. give x.1)

-- ---- what hands on what its part throws

-- the rest of a call, from these arguments on
unfoldable pub call_on : List Node → Evaluator → ℕ → Value → Words → List Value → List ℕ → Scope → Act (Value × Scope)
call_on tree rec act x verb so_far args here = do
  xs ← gathered rec so_far args here
  v ← call tree rec act x verb xs.0
  give (v, xs.1)

-- the parts of a sequence, and the verb and arguments of a call; none of another node
unfoldable pub parts_of : Option Node → List ℕ
parts_of (Some (Sequence es)) = es
parts_of _ = []

unfoldable pub verb_of : Option Node → Words
verb_of (Some (Call r verb args)) = verb
verb_of _ = []

unfoldable pub args_of : Option Node → List ℕ
args_of (Some (Call r verb args)) = args
args_of _ = []

unfoldable pub going : List Node → Evaluator → ℕ → ℕ → Part → Value → Scope → Act (Value × Scope)
going tree rec act mark (Assign b) v here = λ s. and_then (write_bound (call tree rec) act b v s) (λ u. give (u, here))
going tree rec act mark (Writes k) v here = λ s. and_then (write_slot act k v s) (λ u. give (u, here))
going tree rec act mark (DefineBy p e) v here = define_by rec p e v here
going tree rec act mark (Define p j) v here = λ s. yielding v (rec.pattern p v j here s)
going tree rec act mark (Yields u) v here = give (u, here)
going tree rec act mark (Then b) v here = rec.expression b here
going tree rec act mark (Binds ps vs j k) v here = bound_by (bind_all rec (drop k ps) (drop k vs) j here)
going tree rec act mark (Asks p u j) v here = bound_by (bind_via tree rec act p u j v here)
going tree rec act mark (Binding p j) v here = bound_by (rec.pattern p v j here)
going tree rec act mark (Guarded t u j) v here = λ s. bound_as (bind_under tree rec act t u j (followed s.refs v) here s)
going tree rec act mark (Coerced t g) v here = bound_by (bind_coerced act t g v here)
going tree rec act mark (Fails id) v here = fail (Thrown id)
going tree rec act mark (Matching p) v here = match_on tree rec act p v here
going tree rec act mark (Receiver n) v here = call_on tree rec act v (verb_of (slice_get tree n)) [] (args_of (slice_get tree n)) here
going tree rec act mark (Args n x vs) v here = call_on tree rec act x (verb_of (slice_get tree n)) (vs ++ v ∷ []) (drop (suc (length vs)) (args_of (slice_get tree n))) here
going tree rec act mark (Auditors n p es vs) v here = object_on tree rec n p (vs ++ v ∷ []) (drop (suc (length vs)) es) here
going tree rec act mark (Asked n p y vs k stamps) v here = make_object tree (call tree rec) n p (with_stamp (is_true v) y stamps) (drop k vs) here
going tree rec act mark (Parts n k) v here = last_of rec v (drop k (parts_of (slice_get tree n))) here
going tree rec act mark (Test a b) v here = λ s. choose rec mark a b (followed s.refs v) here s
going tree rec act mark Branch v here = give (v, cut mark here)

-- ---- what leaves its scope as it was

-- how something ended that came to an end so
unfoldable pub came_back : Came → Result Value Exit
came_back (Gave v) = Ok v
came_back (Threw id) = Err (Thrown id)
came_back (Left n v) = Err (Ejected n v)

unfoldable pub guarding : List Node → Evaluator → Guard → Scope → Out Value → Out Value
guarding tree rec Alone here o = o
guarding tree rec (Escape j c) here o = escaped rec j c here o
guarding tree rec (Try p h) here o = tried rec p h here o
guarding tree rec (First b) here o = at_last rec b here o
guarding tree rec (Last c) here o = and_then o (λ _ s. (came_back c, s))
guarding tree rec (Audit j) here o = audited j o
guarding tree rec Close here o = closed_by here.act o
guarding tree rec (Members l f vs k) here o = and_then o (λ _. iterate (again_by tree rec l) here.act f k (drop k vs))
guarding tree rec (Turns l f k) here o = and_then o (λ x s. after_turn (turns (again_by tree rec l) here.act f k) (followed s.refs x) s)

-- ---- all of it

-- what frames make of what their innermost part came to, in this scope
unfoldable pub rest : List Node → List Frame → Scope → Out (Value × Scope) → Out (Value × Scope)
rest tree [] here o = o
rest tree (PartOf d m p ∷ fs) here o = rest tree fs (cut m here) (and_then o (λ x. going tree (evaluator tree d) here.act m p x.0 x.1))
rest tree (GuardOf d m g ∷ fs) here o = rest tree fs (cut m here) (settled (cut m here) (guarding tree (evaluator tree d) g (cut m here) (valued o)))
rest tree (Match m j p ∷ fs) here o = rest tree fs (cut m here) (match_ended tree j p (cut m here) (scoped o))
rest tree (CaseOf d m j b ms k v ∷ fs) here o = rest tree fs (cut m here) (matched (evaluator tree d) here.act j b (match_all (evaluator tree d) (drop k ms) v (cut m here)) (scoped o))
rest tree (Body saved ∷ fs) here o = rest tree fs saved (settled saved (closed_by saved.act (valued o)))

-- each frame began with fewer names than those above it have
unfoldable pub Nested : List Frame → Scope → Type 0
Nested [] here = Unit {0}
Nested (PartOf d m p ∷ fs) here = (m ≤ length here.nouns) × Nested fs (cut m here)
Nested (GuardOf d m g ∷ fs) here = (m ≤ length here.nouns) × Nested fs (cut m here)
Nested (Match m j p ∷ fs) here = (m ≤ length here.nouns) × Nested fs (cut m here)
Nested (CaseOf d m j b ms k v ∷ fs) here = (m ≤ length here.nouns) × Nested fs (cut m here)
Nested (Body saved ∷ fs) here = Nested fs saved

-- the frames make the same of all outcomes in either scope
abbrev pub Same : List Node → List Frame → Scope → Scope → Type 0
Same tree fs a b = (o : Out (Value × Scope)) → rest tree fs a o ≡ rest tree fs b o

-- ---- states

abbrev pub came_to : Came → Scope → Room → Out (Value × Scope)
came_to (Gave v) here s = (Ok (v, here), s)
came_to (Threw id) here s = (Err (Thrown id), s)
came_to (Left n v) here s = (Err (Ejected n v), s)

-- what is due where this comes next
abbrev pub due_of : List Node → Now → List Frame → Scope → Room → Out (Value × Scope)
due_of tree (Begin d id) fs here s = rest tree fs here ((evaluator tree d).expression id here s)
due_of tree (Member d l f k v) fs here s = rest tree fs here (settled here (again_by tree (evaluator tree d) l here.act f (codes "run") (held.Int (pos k) ∷ v ∷ []) s))
due_of tree (Turn d l f) fs here s = rest tree fs here (settled here (again_by tree (evaluator tree d) l here.act f (codes "run") [] s))
due_of tree (Refuse d l j id) fs here s = rest tree fs here (settled here (again_by tree (evaluator tree d) l here.act j (codes "run") (held.Text id ∷ []) s))
due_of tree (Calls d l x v m) fs here s = rest tree fs here (settled here (called_with (again_by tree (evaluator tree d) l) here.act x (message_in s.heap (followed s.refs v) (followed s.refs m)) s))
due_of tree (Audits d l a j) fs here s = rest tree fs here (settled here (again_by tree (evaluator tree d) l here.act a (codes "audit") (held.Obj j ∷ []) s))
due_of tree (Bind d p v j) fs here s = rest tree fs here (bound_as ((evaluator tree d).pattern p v j here s))
due_of tree (Ended c) fs here s = rest tree fs here (came_to c here s)

-- the same of what may have ended without a value
abbrev pub Goes : List Node → Result Now Exit → List Frame → Scope → Room → Out (Value × Scope) → Type 0
Goes tree (Ok now) fs here s due = due ≡ due_of tree now fs here s
Goes tree (Err e) fs here s due = Unless e (due ≡ rest tree fs here (Err e, s))

abbrev pub Stays : Result Now Exit → List Frame → Scope → Type 0
Stays (Ok now) fs here = Nested fs here
Stays (Err e) fs here = Unless e (Nested fs here)

-- what came to an end at once
unfoldable pub given : Result Value Exit → Result Now Exit
given (Ok v) = Ok (Ended (Gave v))
given (Err e) = Err e

-- what data answers, whoever calls and however calls again are made; or some of it does not stand in the heap
abbrev pub Replies : Option Reply → Value → Words → List Value → Room → Type 0
Replies (Some r) x verb args s = (again : Caller) (act : ℕ) → answered again act x verb args s ≡ replied again act r s
Replies None x verb args s = (again : Caller) (act : ℕ) → answered again act x verb args s ≡ (Err Astray, s)

-- patterns, and then an expression in the scope after them
unfoldable pub bound_then : Evaluator → List ℕ → ℕ → List Value → Scope → Act (Value × Scope)
bound_then rec ps b args here = do
  inner ← bind_all rec ps args held.Null here
  rec.expression b inner

-- a method and its arguments, in the scope of its captures
unfoldable pub opened_method : Evaluator → List Case → Words → Option Node → List Value → Scope → Act (Value × Scope)
opened_method rec ms verb (Some (Method v ps b)) args here = bound_then rec ps b args here
opened_method rec ms verb _ args here = try_matchers rec ms verb args here

-- the activation of a call on an object, held as x, whose line is told
unfoldable pub activated : ℕ → Value → ℕ → Words → List Value → Act ℕ
activated act x i verb args = do
  b ← new_activation (held.Obj i)
  tell (event.Call act x verb args (Some b))
  give b

-- a pattern and then an expression in the scope after it
unfoldable pub handled_on : Evaluator → ℕ → ℕ → Value → Scope → Act (Value × Scope)
handled_on rec p e v here = do
  inner ← rec.pattern p v held.Null here
  rec.expression e inner
