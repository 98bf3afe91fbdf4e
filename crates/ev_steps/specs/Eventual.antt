-- What `E`, `Ref` and resolvers do in an activation, in the code's terms.
use Rattle.std.specs.Prelude.{ℕ, Bool, true, false, if◌then◌else◌, nat_le, List, [], ◌∷◌, ◌++◌, Option, Some, None, Result, Ok, Err, codes, length}
use Rattle.std.specs.Str.{bytes_eq}
use Rattle.ev_base.specs.declared.values.Value.{Value}
use Rattle.ev_base.specs.declared.values.Value.TheVariants as held
use Rattle.ev_heap.specs.Contents.{Contents}
use Rattle.ev_heap.specs.declared.happened.Happened.TheVariants as event
use Rattle.ev_heap.specs.declared.kept.Shape.TheVariants as shape
use Rattle.ev_pass.specs.Acts as inside
use Rattle.ev_pass.specs.declared.interior.Stop.{Stop}
use Rattle.ev_pass.specs.declared.interior.Stop.TheVariants as stop
use Rattle.ev_prims.specs.Answers.{members_at}
use Rattle.ev_prims.specs.Reading.{text_in}
use Rattle.ev_prims.specs.declared.asking.RefTest.{RefTest}
use Rattle.ev_refs.specs.Follow.{followed, place_of}
use Rattle.ev_refs.specs.Mailing.{with_promise}
use Rattle.ev_refs.specs.Telling.{broken_of, told_at}
use Rattle.ev_refs.specs.declared.natives.RefReply.{RefReply}
use Rattle.ev_refs.specs.declared.natives.RefReply.TheVariants.{Says, Problem, NotResolved}
use Rattle.ev_settle.specs.Reacting.{tell_resolver, smash_resolver, when_resolved}
use Rattle.ev_settle.specs.Sending.{send, send_only}
use Rattle.ev_settle.specs.declared.resolver.Resolution.{Resolution}
use Rattle.ev_settle.specs.declared.resolver.Resolution.TheVariants.{Resolved, AlreadyResolved, BadArgument as NoProblem}
use Rattle.def_machine.specs.Values.{Words}
use Rattle.ev_prims.specs.declared.problem.Problem.TheVariants.{NoMethod, BadArgument}
use Rattle.ev_steps.specs.declared.message.Request.{Request}
use Rattle.ev_steps.specs.declared.resolver.Resolving.{Resolving}
use Rattle.ev_steps.specs.declared.resolver.Resolving.TheVariants.{Resolves, Smashes, NotAsked}
use Rattle.ev_room.specs.Acts.{Act, Out, ◌>>=◌, ◌>>◌, give, fail, fails, tell, make_list, closed, opened_acts}
use Rattle.ev_room.specs.Sound.{not_near_id, bad_message_id, not_resolved_id, already_resolved_id}
use Rattle.ev_room.specs.declared.exit.Exit.{Exit}
use Rattle.ev_room.specs.declared.exit.Exit.TheVariants.{Thrown, Fuel, Repeated, Astray, Memory}

-- ---- what references do, done by an activation

-- A text that is missing goes astray: where the heap has what the references hold, none is.
unfoldable pub exit_of : Stop → Exit
exit_of stop.Fuel = Fuel
exit_of (stop.Repeated i j) = Repeated i j
exit_of stop.Astray = Astray
exit_of stop.Missing = Astray
exit_of stop.Memory = Memory

unfoldable pub lifted_by : {A : Type 0} → Result A Stop → Result A Exit
lifted_by (Ok a) = Ok a
lifted_by (Err e) = Err (exit_of e)

abbrev pub lifted : {A : Type 0} → inside.Out A → Out A
lifted o = (lifted_by o.0, o.1)

unfoldable pub referred : {A : Type 0} → inside.Act A → Act A
referred m = λ s. lifted (m s)

-- ---- messages

abbrev pub short_message : Words → List Value → Bool → Option Request
short_message verb args true = Some (record { verb = verb; args = args })
short_message verb args false = None

-- The verb and the arguments of a message, by a followed text and a followed list, of 255 members at most.
unfoldable pub message_in : Contents → Value → Value → Option Request
message_in h (held.Text id) (held.List k) = short_message (text_in h id) (members_at h k) (nat_le (length (members_at h k)) 255)
message_in h _ _ = None

-- a send without an answer gives null, and one with an answer gives that
unfoldable pub send_by : Bool → ℕ → Value → Words → List Value → Act Value
send_by true act x verb args = referred (send_only act x verb args) >> give held.Null
send_by false act x verb args = do
  a ← referred (send act x verb args)
  give (held.Prom a)

unfoldable pub send_some : Bool → ℕ → Value → Option Request → Act Value
send_some only act x (Some m) = send_by only act x m.verb m.args
send_some only act x None = fail (Thrown bad_message_id)

-- `E.send` and `E.sendOnly`, on the target as it is held
unfoldable pub send_with : Bool → ℕ → Value → Value → Value → Act Value
send_with only act x v l = λ s. send_some only act x (message_in s.heap (followed s.refs v) (followed s.refs l)) s

-- ---- promises

unfoldable pub new_promise : Act ℕ
new_promise = λ s. (Ok (length s.refs.known), record s { refs = with_promise s.refs })

unfoldable pub new_resolver : ℕ → Act ℕ
new_resolver p = λ s. (Ok (length s.heap.things), record s { heap = record s.heap { things = s.heap.things ++ record { shape = shape.Resolver p; alive = true } ∷ [] } })

-- the promise and its resolver
unfoldable pub make_promise : ℕ → Act Value
make_promise act = do
  p ← new_promise
  r ← new_resolver p
  tell (event.Promise act p (held.Obj r))
  make_list act (held.Prom p ∷ held.Obj r ∷ [])

unfoldable pub broken_as : Option Value → Act Value
broken_as (Some v) = give v
broken_as None = fails BadArgument

-- a broken reference of that problem
unfoldable pub broken : Value → Act Value
broken t = λ s. broken_as (broken_of (followed s.refs t)) s

-- ---- what `Ref` tells of a value

unfoldable pub told_as : RefReply → Act Value
told_as (Says v) = give v
told_as (Problem t) = fail (Thrown t)
told_as NotResolved = fail (Thrown not_resolved_id)

unfoldable pub test_value : RefTest → Value → Act Value
test_value t x = λ s. told_as (told_at t x (place_of s.refs (followed s.refs x))) s

-- ---- reactions

unfoldable pub when_answer : Option ℕ → Act Value
when_answer (Some a) = give (held.Prom a)
when_answer None = fail (Thrown not_near_id)

-- o is asked to react on x
unfoldable pub when_by : ℕ → Value → Value → Act Value
when_by act x o = do
  a ← referred (when_resolved act x o)
  when_answer a

-- ---- resolvers

-- what a resolver is asked
unfoldable pub resolving : Words → List Value → Resolving
resolving verb (x ∷ []) = if bytes_eq verb (codes "resolve") then Resolves x else if bytes_eq verb (codes "smash") then Smashes x else NotAsked
resolving verb _ = NotAsked

unfoldable pub resolution : Resolution → Act Value
resolution Resolved = give held.Null
resolution AlreadyResolved = fail (Thrown already_resolved_id)
resolution NoProblem = fails BadArgument

unfoldable pub resolver_answer : ℕ → Resolving → Act Value
resolver_answer p (Resolves x) = do
  r ← referred (tell_resolver p x)
  resolution r
resolver_answer p (Smashes x) = do
  r ← referred (smash_resolver p x)
  resolution r
resolver_answer p NotAsked = fails NoMethod

-- a call on the resolver of a name, held as x
unfoldable pub call_resolver : ℕ → Value → ℕ → Words → List Value → Act Value
call_resolver act x p verb args = do
  tell (event.Call act x verb args None)
  closed act (resolver_answer p (resolving verb args))

-- opens the acts of this file
unfoldable pub opened_eventual : Unit {0}
unfolding exit_of lifted_by referred message_in send_by send_some send_with new_promise new_resolver make_promise broken_as broken told_as test_value when_answer when_by resolving resolution resolver_answer call_resolver opened_acts
opened_eventual = tt
