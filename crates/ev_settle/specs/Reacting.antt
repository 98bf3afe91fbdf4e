-- Reactions, and what a resolver does, in the code's terms.
use Rattle.std.specs.Prelude.{ℕ, if◌then◌else◌, List, [], ◌∷◌, ◌++◌, Some, None, Ok, codes, slice_get, slice_set}
use Rattle.std.specs.declared.option.Option.{Option}
use Rattle.ev_base.specs.declared.values.Value.{Value}
use Rattle.ev_base.specs.declared.values.Value.TheVariants as held
use Rattle.ev_heap.specs.declared.happened.Happened.TheVariants as event
use Rattle.ev_pass.specs.Acts.{Act, ◌>>=◌, ◌>>◌, give, tell}
use Rattle.ev_refs.specs.Changes.{with_reaction}
use Rattle.ev_refs.specs.Follow.{followed, place_of}
use Rattle.ev_refs.specs.References.{References}
use Rattle.ev_refs.specs.Waiting.{is_open}
use Rattle.ev_refs.specs.declared.follow.Place.{Place}
use Rattle.ev_refs.specs.declared.follow.Place.TheVariants.{Near, Mine, FarPromise, FarObject, Gone}
use Rattle.ev_refs.specs.declared.known.Known.{Known}
use Rattle.ev_refs.specs.declared.known.Message.{Message}
use Rattle.ev_settle.specs.Changes.{enqueue}
use Rattle.ev_settle.specs.Resolving.{resolve}
use Rattle.ev_settle.specs.Sending.{new_message}
use Rattle.ev_settle.specs.Settling.{settle}
use Rattle.ev_settle.specs.declared.resolver.Resolution.{Resolution}
use Rattle.ev_settle.specs.declared.resolver.Resolution.TheVariants.{Resolved, AlreadyResolved, BadArgument}

unfoldable pub reacting_in : ℕ → Message → Option Known → References → References
reacting_in n m None r = r
reacting_in n m (Some k) r = record r { known = slice_set r.known n (with_reaction m k) }

-- a reaction waits at a name, if that is known
unfoldable pub react_known : ℕ → Message → Act (Unit {0})
react_known n m = λ s. (Ok tt, record s { refs = reacting_in n m (slice_get s.refs.known n) s.refs })

-- a reaction on a value at this place waits at an unsettled name of any vat, and else is queued
unfoldable pub react_placed : Message → Place → Act (Unit {0})
react_placed m (Mine n) = react_known n m
react_placed m (FarPromise h n) = react_known n m
react_placed m Near = enqueue m
react_placed m (FarObject h p) = enqueue m
react_placed m (Gone t) = enqueue m

unfoldable pub react_on : Message → Value → Act (Unit {0})
react_on m x = λ s. react_placed m (place_of s.refs (followed s.refs x)) s

-- an object of this vat, held as o and followed to that, is to react on x; its answer is at this vat
unfoldable pub react_new : ℕ → Value → Value → Value → ℕ → Act ℕ
react_new act x o near h = do
  f ← new_message h
  tell (event.When act f.id x o near f.answer)
  react_on (record { id = f.id; target = near; verb = codes "run"; args = x ∷ []; answer = Some f.answer }) x
  give f.answer

unfoldable pub some_answer : ℕ → Act (Option ℕ)
some_answer a = give (Some a)

unfoldable pub when_placed : ℕ → Value → Value → Value → Place → ℕ → Act (Option ℕ)
when_placed act x o y Near h = react_new act x o y h >>= some_answer
when_placed act x o y (Mine n) h = give None
when_placed act x o y (FarPromise a n) h = give None
when_placed act x o y (FarObject a p) h = give None
when_placed act x o y (Gone t) h = give None

-- the name of the answer, or none where the object is not near
unfoldable pub when_resolved : ℕ → Value → Value → Act (Option ℕ)
when_resolved act x o = λ s. when_placed act x o (followed s.refs o) (place_of s.refs (followed s.refs o)) s.refs.me s

-- ---- resolvers

unfoldable pub resolved_by : Act (Unit {0}) → Act Resolution
resolved_by m = m >> give Resolved

-- the resolver of a name is told a value
unfoldable pub tell_resolver : ℕ → Value → Act Resolution
tell_resolver p x = λ s. (if is_open s.refs p then resolved_by (resolve p x) else give AlreadyResolved) s

unfoldable pub smash_with : ℕ → Value → Act Resolution
smash_with p (held.Text t) = λ s. (if is_open s.refs p then resolved_by (settle p (held.Broken t)) else give AlreadyResolved) s
smash_with p _ = give BadArgument

-- or a problem
unfoldable pub smash_resolver : ℕ → Value → Act Resolution
smash_resolver p x = λ s. smash_with p (followed s.refs x) s
