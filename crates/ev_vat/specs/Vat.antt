-- The steps of a vat, as the machine has them.
use Rattle.std.specs.Prelude.{◌≡◌, ◌⊎◌, ℕ, Bool, true, false, List, [], ◌∷◌, Option, Some, None, Result, Ok, Err}
use Rattle.def_kernel.specs.declared.node.Node.{Node}
use Rattle.def_machine.specs.Eval.{taking}
use Rattle.def_machine.specs.State as machine
use Rattle.def_machine.specs.State.{Done, Gives, Stops}
use Rattle.def_machine.specs.Values.{Local}
use Rattle.ev_arrive.specs.declared.host.Host.{Host}
use Rattle.ev_vat.specs.declared.turn.Ended.{Ended}
use Rattle.ev_vat.specs.declared.turn.Ended.TheVariants as ended
use Rattle.ev_heap.specs.Contents.{Contents}
use Rattle.ev_heap.specs.declared.happened.Happened.{Happened}
use Rattle.ev_heap.specs.declared.happened.Happened.TheVariants.{Take}
use Rattle.ev_pass.specs.Acts.{Out}
use Rattle.ev_pass.specs.declared.interior.Interior.{Interior}
use Rattle.ev_pass.specs.declared.interior.Stop.{Stop}
use Rattle.ev_pass.specs.declared.interior.Stop.TheVariants as stop
use Rattle.ev_refs.specs.Reading.{message_by}
use Rattle.ev_refs.specs.declared.known.Message.{Message}
use Rattle.ev_room.specs.Reading.{World, names, texts_of, vat_of}
use Rattle.ev_room.specs.Sound.{IsSound, is_there, are_there}
use Rattle.ev_settle.specs.Closing.{finish, throw}
use Rattle.ev_vat.specs.declared.vat.Vat.{Vat}
use Rattle.ev_vat.specs.declared.vat.VatStop.{VatStop}
use Rattle.ev_vat.specs.declared.vat.VatStop.TheVariants.{Fuel, Deep, WordRepeated, Astray, Memory}
use Rattle.law_evaluation.specs.Arrivals.Arrivals.{vat_in}

-- ---- how steps end

unfoldable pub stop_of : Stop → VatStop
stop_of stop.Fuel = Fuel
stop_of (stop.Repeated i j) = WordRepeated i j
stop_of stop.Astray = Astray
stop_of stop.Missing = Astray
stop_of stop.Memory = Memory

unfoldable pub closed_by : Result (Unit {0}) Stop → Result (Unit {0}) VatStop
closed_by (Ok u) = Ok u
closed_by (Err e) = Err (stop_of e)

-- what the code answered and left is what an act on references gives, as the end of a step, unless memory ran out
abbrev pub Closed : Result (Unit {0}) VatStop → Interior → Out (Unit {0}) → Type 0
Closed (Ok u) t out = out ≡ (Ok tt, t)
Closed (Err Fuel) t out = out ≡ (Err stop.Fuel, t)
Closed (Err Deep) t out = ⊥
Closed (Err (WordRepeated i j)) t out = out ≡ (Err (stop.Repeated i j), t)
Closed (Err Astray) t out = (out ≡ (Err stop.Astray, t)) ⊎ (out ≡ (Err stop.Missing, t))
Closed (Err Memory) t out = Unit {0}

-- a fact, unless memory ran out
abbrev pub UnlessMemory : {A : Type 0} → Result A VatStop → Type 0 → Type 0
UnlessMemory (Ok a) fact = fact
UnlessMemory (Err Fuel) fact = fact
UnlessMemory (Err Deep) fact = fact
UnlessMemory (Err (WordRepeated i j)) fact = fact
UnlessMemory (Err Astray) fact = fact
UnlessMemory (Err Memory) fact = Unit {0}

-- how a turn is closed, by how its evaluation ended
abbrev pub ClosesSo : Ended → ℕ → Option ℕ → Result (Unit {0}) VatStop → Interior → Interior → Type 0
ClosesSo (ended.Value v) act answer r s t = Closed r t (finish act answer v s)
ClosesSo (ended.Thrown id) act answer r s t = Closed r t (throw act answer id s)
ClosesSo ended.Fuel act answer r s t = (r ≡ Err Fuel) × (t ≡ s)
ClosesSo ended.Deep act answer r s t = (r ≡ Err Deep) × (t ≡ s)
ClosesSo (ended.Repeated i j) act answer r s t = (r ≡ Err (WordRepeated i j)) × (t ≡ s)
ClosesSo ended.Astray act answer r s t = (r ≡ Err Astray) × (t ≡ s)

abbrev pub StopsWith : machine.Stop → Done Local (Unit {0}) → Type 0
StopsWith c d = (s : machine.Vat Local) × (d ≡ Stops c s)

-- what a step of the code answered is an outcome of the machine that leaves that vat, unless memory ran out; of what a stop leaves nothing is said
abbrev pub EndsAt : machine.Vat Local → Result (Unit {0}) VatStop → Done Local (Unit {0}) → Type 0
EndsAt s (Ok u) d = d ≡ Gives tt s
EndsAt s (Err Fuel) d = StopsWith machine.Fuel d
EndsAt s (Err Deep) d = StopsWith machine.Deep d
EndsAt s (Err (WordRepeated m n)) d = StopsWith (machine.Repeated m n) d
EndsAt s (Err Astray) d = StopsWith machine.Astray d
EndsAt s (Err Memory) d = Unit {0}

-- the same, where it leaves what the code left
abbrev pub StepIs : World → Result (Unit {0}) VatStop → Interior → Done Local (Unit {0}) → Type 0
StepIs w r i d = EndsAt (vat_of w i) r d

-- and of a vat with the gifts that it hosts
abbrev pub ArrivalIs : World → Result (Unit {0}) VatStop → Host → Done Local (Unit {0}) → Type 0
ArrivalIs w r h d = EndsAt (vat_in w h) r d

-- ---- vats that stopped

-- the stop that a call answered, or none
abbrev pub stop_in : {A : Type 0} → Result A VatStop → Option VatStop
stop_in (Ok a) = None
stop_in (Err e) = Some e

-- a vat that did not stop is sound
abbrev pub IsReady : Vat → Type 0
IsReady v = v.stopped ≡ None → IsSound v.host.inside

-- a vat that stopped answers the same stop, and stays as it is
abbrev pub StaysStopped : {A : Type 0} → Vat → Result A VatStop → Vat → Type 0
StaysStopped before r after = (e : VatStop) → before.stopped ≡ Some e → (r ≡ Err e) × (after ≡ before)

-- ---- turns

-- the target and the arguments of a message stand in the heap
abbrev pub MessageThere : Contents → Message → Type 0
MessageThere h m = (is_there h m.target ≡ true) × (are_there h m.args ≡ true)

-- the line of a turn that takes a message
abbrev pub taken : ℕ → Message → Happened
taken act m = Take act m.id m.target m.verb m.args m.answer

-- an inside whose queue is that
abbrev pub with_queue : List Message → Interior → Interior
with_queue ms i = record i { refs = record i.refs { queue = ms } }

abbrev pub TurnOf : World → List Node → ℕ → Result Bool VatStop → Interior → Interior → List Message → Type 0
TurnOf w tree depth r s t [] = (r ≡ Ok false) × (t ≡ s)
TurnOf w tree depth (Ok true) s t (m ∷ ms) = StepIs w (Ok tt) t (taking (names w) tree depth (message_by (texts_of w) m) (vat_of w (with_queue ms s)))
TurnOf w tree depth (Ok false) s t (m ∷ ms) = ⊥
TurnOf w tree depth (Err e) s t (m ∷ ms) = StepIs w (Err e) t (taking (names w) tree depth (message_by (texts_of w) m) (vat_of w (with_queue ms s)))

-- a turn takes the first message of the queue, if there is one
abbrev pub TurnIs : World → List Node → ℕ → Result Bool VatStop → Interior → Interior → Type 0
TurnIs w tree depth r s t = TurnOf w tree depth r s t s.refs.queue
