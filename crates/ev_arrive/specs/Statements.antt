-- What is said of what arrives in the machine's terms.
use Rattle.std.specs.Prelude.{ℕ, Bool, List, None, if◌then◌else◌, map}
use Rattle.ev_base.specs.declared.values.Value.{Value as Held}
use Rattle.def_machine.specs.Refs as refs
use Rattle.def_machine.specs.Arrive as machine
use Rattle.def_machine.specs.State.{Vat}
use Rattle.def_machine.specs.Values.{Words, Value, Local, Mess, Prom, Ref, key as gift_key}
use Rattle.ev_pass.specs.Reading.{Lines, Reads, names_under, reference_by}
use Rattle.ev_pass.specs.declared.note.Reference.{Reference}
use Rattle.ev_refs.specs.Reading.{value_by}
use Rattle.ev_settle.specs.Performing.{Tells}
use Rattle.ev_arrive.specs.Arriving.{arrive_open, arrive_ask}
use Rattle.ev_arrive.specs.Noticing.{notice}
use Rattle.ev_arrive.specs.Viewing.{arrive_elsewhere, arrive_shorten}
use Rattle.ev_arrive.specs.Acts.{value_at}
use Rattle.ev_arrive.specs.Delivering.{deliver, learn_gift, learn_message}
use Rattle.ev_arrive.specs.Reading.{Stands, carried_by, host_at, incoming_by, subject_by}
use Rattle.ev_arrive.specs.declared.host.Carried.{Carried}
use Rattle.ev_arrive.specs.declared.host.Subject.{Subject}
use Rattle.ev_arrive.specs.declared.host.Host.{Host}
use Rattle.ev_arrive.specs.declared.host.Incoming.{Incoming}

abbrev pub OpensAsTheMachine : Type 0
OpensAsTheMachine = (ts : List Words) (key : List ℕ) (line : Lines) (s : Vat Local) (h : Host) (from i : ℕ) (n : Local) (x : Incoming) → Tells ts line → Reads ts key h.inside
    → Stands ts key line s (λ u. u) (arrive_open from i x h) (machine.arrive_open (names_under key) from (gift_key from i) (incoming_by n x) (host_at ts line h s))

abbrev pub IsAskedAsTheMachine : Type 0
IsAskedAsTheMachine = (ts : List Words) (key : List ℕ) (line : Lines) (s : Vat Local) (h : Host) (w p i : ℕ) → Tells ts line → Reads ts key h.inside
    → Stands ts key line s (λ u. u) (arrive_ask w p i h) (machine.arrive_ask (names_under key) w p (gift_key p i) (host_at ts line h s))

abbrev pub NoticesAsTheMachine : Type 0
NoticesAsTheMachine = (ts : List Words) (key : List ℕ) (line : Lines) (s : Vat Local) (h : Host) (w : ℕ) → Tells ts line → Reads ts key h.inside
    → Stands ts key line s (λ u. u) (notice w h) (machine.notice (names_under key) w (host_at ts line h s))

abbrev pub SettlesElsewhereAsTheMachine : Type 0
SettlesElsewhereAsTheMachine = (ts : List Words) (key : List ℕ) (line : Lines) (s : Vat Local) (h : Host) (n : Local) (x : Subject) (c : ℕ) → Tells ts line → Reads ts key h.inside
    → Stands ts key line s (λ u. u) (arrive_elsewhere x c h) (machine.arrive_elsewhere (names_under key) (subject_by n x) c (host_at ts line h s))

abbrev pub ShortensAsTheMachine : Type 0
ShortensAsTheMachine = (ts : List Words) (key : List ℕ) (line : Lines) (s : Vat Local) (h : Host) (n : Local) (x : Incoming) (i : ℕ) → Reads ts key h.inside
    → Stands ts key line s (λ u. u) (arrive_shorten x i h) (machine.arrive_shorten (names_under key) (incoming_by n x) i (host_at ts line h s))

abbrev pub LearnsMessagesAsTheMachine : Type 0
LearnsMessagesAsTheMachine = (ts : List Words) (key : List ℕ) (line : Lines) (s : Vat Local) (h : Host) (n : Local) (v : ℕ) (x : Carried) → Tells ts line → Reads ts key h.inside
    → Stands ts key line s Mess (learn_message x h) (machine.learn_message (names_under key) (carried_by n v x) (host_at ts line h s))

-- what the machine does with a message once it has learnt its number, its arguments and its target
abbrev pub DeliversAsTheMachine : Type 0
DeliversAsTheMachine = (ts : List Words) (key : List ℕ) (line : Lines) (s : Vat Local) (h : Host) (from id : ℕ) (asks : Bool) (r : Reference) (verb : Words) (args : List Held) → Tells ts line → Reads ts key h.inside
    → Stands ts key line s (λ u. u) (deliver from id asks (value_at r) verb args h)
    ((if asks then machine.send_on_asked (names_under key) from (Mess id) (reference_by r) verb (map (value_by ts) args)
    else refs.send_on (names_under key) (refs.settle (names_under key)) (record { id = Mess id; target = Ref (reference_by r); verb = verb; args = map (value_by ts) args; answer = None })) (host_at ts line h s))

abbrev pub ref_of : ℕ → Value Local
ref_of n = Ref (Prom n)

abbrev pub LearnsGiftsAsTheMachine : Type 0
LearnsGiftsAsTheMachine = (ts : List Words) (key : List ℕ) (line : Lines) (s : Vat Local) (h : Host) (p c i : ℕ) → Tells ts line → Reads ts key h.inside
    → Stands ts key line s ref_of (learn_gift p c i h) (machine.learn_gift (names_under key) p c (gift_key p i) (host_at ts line h s))
