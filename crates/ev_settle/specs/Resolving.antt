-- What a name resolves to, in the code's terms: it settles, or waits on another.
use Rattle.std.specs.Prelude.{ℕ, if◌then◌else◌, length}
use Rattle.ev_base.specs.declared.values.Value.{Value}
use Rattle.ev_base.specs.declared.values.Value.TheVariants as held
use Rattle.ev_pass.specs.Acts.{Act}
use Rattle.ev_refs.specs.Follow.{followed, place_of}
use Rattle.ev_refs.specs.Waiting.{waits_lead}
use Rattle.ev_refs.specs.declared.follow.Place.{Place}
use Rattle.ev_refs.specs.declared.follow.Place.TheVariants.{Near, Mine, FarPromise, FarObject, Gone}
use Rattle.ev_settle.specs.Changes.{wait_on}
use Rattle.ev_settle.specs.Settling.{settle}

-- a name waits on another, or is broken where a chain of waits would lead back to it
unfoldable pub wait_unless_cycle : ℕ → ℕ → Act (Unit {0})
wait_unless_cycle p q = λ s. (if waits_lead (length s.refs.known) s.refs.known p q then settle p (held.Broken s.refs.cycle) else wait_on p q) s

-- it resolves to a followed value at this place
unfoldable pub resolve_placed : ℕ → Value → Place → Act (Unit {0})
resolve_placed p y (Mine q) = wait_unless_cycle p q
resolve_placed p y (FarPromise h q) = wait_unless_cycle p q
resolve_placed p y Near = settle p y
resolve_placed p y (FarObject h q) = settle p y
resolve_placed p y (Gone t) = settle p y

unfoldable pub resolve : ℕ → Value → Act (Unit {0})
resolve p x = λ s. resolve_placed p (followed s.refs x) (place_of s.refs (followed s.refs x)) s
