-- The parts of a settling, in the code's terms. Each gives what is to be done then, the next part first.
use Rattle.std.specs.Prelude.{◌≡◌, ℕ, zero, suc, Bool, true, false, List, [], ◌∷◌, ◌++◌, Some, None, Result, Ok, Err, length, slice_get, slice_set}
use Rattle.std.specs.declared.option.Option.{Option}
use Rattle.ev_base.specs.declared.values.Value.{Value}
use Rattle.ev_base.specs.declared.values.Value.TheVariants as held
use Rattle.ev_heap.specs.declared.happened.Happened.TheVariants as event
use Rattle.ev_pass.specs.Acts.{Out, Act, Unless, ◌>>=◌, ◌>>◌, give, fail, tell}
use Rattle.ev_pass.specs.Delivering.{deliver, inform}
use Rattle.ev_pass.specs.declared.interior.Interior.{Interior}
use Rattle.ev_pass.specs.declared.interior.Stop.{Stop}
use Rattle.ev_pass.specs.declared.interior.Stop.TheVariants.{Astray, Memory}
use Rattle.ev_pass.specs.declared.note.Reference.{Reference}
use Rattle.ev_pass.specs.declared.note.Reference.TheVariants as reference
use Rattle.ev_refs.specs.Changes.{settled_as, waiters_at}
use Rattle.ev_refs.specs.Follow.{followed, place_of}
use Rattle.ev_refs.specs.Leading.{leads_back, lists_in}
use Rattle.ev_refs.specs.References.{References}
use Rattle.ev_refs.specs.declared.follow.Place.{Place}
use Rattle.ev_refs.specs.declared.follow.Place.TheVariants.{Near, Mine, FarPromise, FarObject, Gone}
use Rattle.ev_refs.specs.declared.known.Known.{Known}
use Rattle.ev_refs.specs.declared.known.Message.{Message}
use Rattle.ev_refs.specs.declared.known.Waiters.{Waiters}
use Rattle.ev_settle.specs.Changes.{come, enqueue, hold, wait_on}
use Rattle.ev_settle.specs.Tasks.{sends, settles, enqueues, informs}
use Rattle.ev_settle.specs.declared.tasks.Task.{Task}
use Rattle.ev_settle.specs.declared.tasks.Task.TheVariants.{SendOn, Settle, Enqueue, Inform}

-- what a function of the code returned, the tasks and the inside that it left are what the definition gives, unless memory ran out
abbrev pub Leaves : Result (Unit {0}) Stop → List Task → Interior → Out (List Task) → Type 0
Leaves (Ok u) ts s out = out ≡ (Ok ts, s)
Leaves (Err e) ts s out = Unless e (out ≡ (Err e, s))

-- a message goes out that asks for an answer: the one that it has here waits on the new one
unfoldable pub pass_asking : Message → ℕ → Reference → ℕ → Act (Unit {0})
pass_asking m h x p = do
  a ← come h
  deliver m.id (Some a) m.verb m.args h x
  wait_on p a

unfoldable pub pass_by_answer : Message → ℕ → Reference → Option ℕ → Act (Unit {0})
pass_by_answer m h x None = deliver m.id None m.verb m.args h x
pass_by_answer m h x (Some p) = pass_asking m h x p

unfoldable pub pass_on : Message → ℕ → Reference → Act (Unit {0})
pass_on m h x = pass_by_answer m h x m.answer

-- the answer of a message that is lost is to be broken
abbrev pub lost_answer : Option ℕ → ℕ → ℕ → List Task → List Task
lost_answer None t d rest = rest
lost_answer (Some a) t d rest = Settle a (held.Broken t) d ∷ rest

-- a message on a followed target at this place
unfoldable pub send_placed : Message → ℕ → Value → Place → List Task → Act (List Task)
send_placed m d y Near rest = enqueue (record m { target = y }) >> give rest
send_placed m d y (Mine n) rest = hold n (record m { target = y }) >> give rest
send_placed m d y (FarPromise h n) rest = pass_on m h (reference.Promise n) >> give rest
send_placed m d y (FarObject h p) rest = pass_on m h (reference.Far h p) >> give rest
send_placed m d y (Gone t) rest = tell (event.LostBroken m.id) >> give (lost_answer m.answer t d rest)

unfoldable pub send_on : Message → ℕ → List Task → Act (List Task)
send_on m d rest = λ s. send_placed m d (followed s.refs m.target) (place_of s.refs (followed s.refs m.target)) rest s

unfoldable pub set_known : ℕ → Known → Act (Unit {0})
set_known n k = λ s. (Ok tt, record s { refs = record s.refs { known = slice_set s.refs.known n k } })

-- the parts of the settling of a name at which these wait
abbrev pub parts_of : ℕ → Value → ℕ → Waiters → List Task
parts_of p v d ws = sends d ws.held ++ (settles d v ws.waiting ++ (enqueues ws.reactions ++ informs p ws.told))

unfoldable pub settle_waiters : ℕ → Value → ℕ → Known → Option Waiters → List Task → Act (List Task)
settle_waiters p v d known None rest = set_known p (settled_as v known) >> give rest
settle_waiters p v d known (Some ws) rest = do
  set_known p (settled_as v known)
  tell (event.Settle p v)
  give (parts_of p v d ws ++ rest)

unfoldable pub settle_found : ℕ → Value → ℕ → Option Known → List Task → Act (List Task)
settle_found p v d None rest = give rest
settle_found p v d (Some known) rest = settle_waiters p v d known (waiters_at known.standing known) rest

unfoldable pub broken_if : Bool → References → Value → Value
broken_if true r v = held.Broken r.cycle
broken_if false r v = v

-- what a name settles to, where the lists of the vat are these: a list whose members lead back to it is broken
unfoldable pub target_of : References → List (List Value) → ℕ → Value → Value
target_of r ls p (held.List k) = broken_if (leads_back (suc (length ls)) r ls p (held.List k)) r (held.List k)
target_of r ls p v = v

unfoldable pub settle_at : ℕ → Value → ℕ → List Task → Act (List Task)
settle_at p v zero rest = fail Astray
settle_at p v (suc d) rest = λ s. settle_found p (target_of s.refs (lists_in s.heap) p v) d (slice_get s.refs.known p) rest s

unfoldable pub perform : Task → List Task → Act (List Task)
perform (SendOn m d) rest = send_on m d rest
perform (Settle p v d) rest = settle_at p v d rest
perform (Enqueue m) rest = enqueue m >> give rest
perform (Inform p w) rest = inform p w >> give rest

unfoldable pub next : (List Task → Act (Unit {0})) → List Task → Act (Unit {0})
next on [] = give tt
next on (t ∷ ts) = perform t ts >>= on

-- All of these are done, in at most so many steps. More than there are numbers of 64 bits need more memory than there is.
unfoldable pub run : ℕ → List Task → Act (Unit {0})
run zero ts = fail Memory
run (suc n) ts = next (run n) ts

unfoldable pub patience : ℕ
patience = 18446744073709551615

-- a name settles
unfoldable pub settle : ℕ → Value → Act (Unit {0})
settle p v = λ s. run patience (Settle p v (suc (suc (length s.refs.known))) ∷ []) s

-- a message that is here is sent on
unfoldable pub forward : Message → Act (Unit {0})
forward m = λ s. run patience (SendOn m (suc (suc (length s.refs.known))) ∷ []) s

-- opens the parts of a settling
unfoldable pub opened_settling : Unit {0}
unfolding pass_asking pass_by_answer pass_on send_placed send_on set_known settle_waiters settle_found broken_if target_of settle_at perform
opened_settling = tt
