-- A vat in its own numbers, with what it has for its peers: what a step tells and puts, and what it hears of a frame.
use Rattle.std.specs.Prelude.{ℕ, zero, Bool, true, false, List, [], ◌∷◌, ◌++◌, Option, Some, None, length, get_or, slice_get, ◌==◌}
use Rattle.def_op.specs.Frames.{Operation}
use Rattle.def_machine.specs.Values.{Local, Obj, Prom, Far, Mess, same_local}
use Rattle.def_machine.specs.State.{Known, Note, Deliver, Open, Ask, SettledTo, Elsewhere, Shorten, GiftEntry, Vat}
use Rattle.def_machine.specs.Arrive.{Incoming, gift_at}
use Rattle.def_run.specs.Connections.{Connection, Sight, Learnt, Stage, Newcomers, Heard, note_heard}
use Rattle.def_run.specs.Names.{Names}
use Rattle.def_run.specs.Names.{opened_names}
use Rattle.def_run.specs.Connections.{opened_connections}

pub record Member : Type 0 where
  -- as its last step left it
  pub vat : Vat Local
  -- the gifts that it learnt as gifts
  pub learnt : List (Learnt Local)
  -- what it has for each vat, by that one's number
  pub connections : List (Connection Local)
  pub names : Names

unfoldable pub unconnected : Connection Local
unconnected = record { exports = []; imports = []; questions = []; answers = [] }

unfoldable pub connection_for : ℕ → Member → Connection Local
connection_for v m = get_or m.connections v unconnected

-- ---- how the vat sees its numbers

unfoldable pub host_in : List (Known Local) → ℕ → Option ℕ
host_in ks k = elim (slice_get ks k) [ Some e ↦ Some e.host | None ↦ None ]

-- a number that the vat does not know is its own, as the host of what is not known is the vat itself
unfoldable pub is_hosted : ℕ → Option ℕ → Bool
is_hosted u (Some h) = h == u
is_hosted u None = true

unfoldable pub is_own : ℕ → List (Known Local) → Local → Bool
is_own u ks (Obj i) = true
is_own u ks (Prom k) = is_hosted u (host_in ks k)
is_own u ks (Far h p) = false
is_own u ks (Mess j) = false

unfoldable pub is_object : Local → Bool
is_object (Obj i) = true
is_object (Far h p) = true
is_object (Prom k) = false
is_object (Mess j) = false

-- the answer that a message asks for; of what asks for none nothing looks at it
unfoldable pub answer_in : Note Local → Local
answer_in (Deliver d n verb ys) = elim d.answer [ Some a ↦ a | None ↦ Prom zero ]
answer_in (Open i n) = Prom zero
answer_in (Ask p i n) = Prom zero
answer_in (SettledTo n y) = Prom zero
answer_in (Elsewhere n c) = Prom zero
answer_in (Shorten n c i) = Prom zero

-- as it writes this note
unfoldable pub sight_for : Vat Local → Note Local → Sight Local
sight_for s n = record { same = same_local; own = is_own s.number s.known; object = is_object; answer = λ m. answer_in n }

-- ---- hearing

-- what is new in a frame of that peer, in numbers; what the peer calls it is not looked at
unfoldable pub newcomers : ℕ → Newcomers Local Local
newcomers peer = record { object = Far peer; promise = λ p k. Prom k; gift = λ h i k. Prom k; exported = λ p. Mess zero; asked = λ q. Mess zero; message = Mess zero }

unfoldable pub stage_of : ℕ → Member → Stage Local
stage_of peer m = record { imports = (connection_for peer m).imports; learnt = m.learnt; known = length m.vat.known }

-- what vat m hears in that operation of the peer
unfoldable pub heard_in : ℕ → Operation → Member → Option (Heard Local (Note (Incoming Local Local)))
heard_in peer o m = note_heard is_object m.vat.number peer (newcomers peer) (connection_for peer m) o (stage_of peer m)

-- ---- what a frame leaves, once its note has arrived

-- the number of the answer that a note asked this vat for, where so many names were known once it was read: the answer of a message comes next, a gift has its name
unfoldable pub gift_name : Option (GiftEntry Local) → List Local
gift_name (Some g) = g.name ∷ []
gift_name None = []

unfoldable pub asked_by : ℕ → Vat Local → Note (Incoming Local Local) → List Local
asked_by known s (Deliver d x verb ys) = elim d.asks [ true ↦ Prom known ∷ [] | false ↦ [] ]
asked_by known s (Ask p i x) = gift_name (gift_at p i s.gifts)
asked_by known s (Open i x) = []
asked_by known s (SettledTo x y) = []
asked_by known s (Elsewhere x c) = []
asked_by known s (Shorten x c i) = []

-- the connection with the peer once that was heard and has arrived
unfoldable pub heard_on : Heard Local (Note (Incoming Local Local)) → Vat Local → Connection Local → Connection Local
heard_on h s c = record c { imports = h.after.imports; answers = c.answers ++ asked_by h.after.known s h.read }

-- opens each definition of this file, and of those below
unfoldable pub opened_vats : Unit {0}
unfolding unconnected connection_for host_in is_hosted is_own is_object answer_in sight_for newcomers stage_of heard_in gift_name asked_by heard_on opened_names opened_connections
opened_vats = tt
