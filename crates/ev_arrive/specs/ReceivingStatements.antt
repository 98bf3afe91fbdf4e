-- What is said of notes that come in, in the machine's terms.
use Rattle.std.specs.Prelude.{ℕ, Bool, List, None}
use Rattle.def_machine.specs.Arrive as machine
use Rattle.def_machine.specs.Receive as receiving
use Rattle.def_machine.specs.State.{Vat}
use Rattle.def_machine.specs.Values.{Words, Local}
use Rattle.ev_pass.specs.Reading.{Lines, Reads, names_under}
use Rattle.ev_refs.specs.Reading.{value_by}
use Rattle.ev_settle.specs.Performing.{Tells}
use Rattle.ev_arrive.specs.Reading.{Stands, carried_by, host_at, incoming_by, subject_by}
use Rattle.ev_arrive.specs.declared.host.Carried.{Carried}
use Rattle.ev_arrive.specs.declared.host.Host.{Host}
use Rattle.ev_arrive.specs.declared.host.Incoming.{Incoming}
use Rattle.ev_arrive.specs.declared.host.Subject.{Subject}
use Rattle.ev_arrive.specs.Bringing.{Part, Parts, part}
use Rattle.ev_arrive.specs.Hearing.{Name, Sees, TellsLists, heard_by, part_by, parts_by}
use Rattle.ev_arrive.specs.Learning.{arrive_deliver, arrive_settled, learn}
use Rattle.ev_arrive.specs.Noting.{arrive}
use Rattle.ev_arrive.specs.Receiving.{receive}
use Rattle.ev_arrive.specs.declared.receiving.Sight.{Sight}
use Rattle.ev_arrive.specs.declared.brought.Brought.{Brought}
use Rattle.ev_arrive.specs.declared.brought.Heard.{Heard}

abbrev pub LearnsAsTheMachine : Type 0
LearnsAsTheMachine = (ts : List Words) (key : List ℕ) (line : Lines) (s : Vat Local) (h : Host) (n : Local) (from : ℕ) (b : Brought) → Tells ts line → TellsLists ts line → Reads ts key h.inside
    → Stands ts key line s (value_by ts) (learn 100 from (part b) h) (machine.learn (names_under key) from (part_by ts from n (part b)) (host_at ts line h s))

abbrev pub DeliversNotesAsTheMachine : Type 0
DeliversNotesAsTheMachine = (ts : List Words) (key : List ℕ) (line : Lines) (s : Vat Local) (h : Host) (n : Local) (from : ℕ) (m : Carried) (asks : Bool) (x : Incoming) (verb : Words) (ps : Parts) → Tells ts line → TellsLists ts line → Reads ts key h.inside
    → Stands ts key line s (λ u. u) (arrive_deliver from m asks x verb ps h) (machine.arrive_deliver (names_under key) from (record { message = carried_by n from m; asks = asks; answer = None }) (incoming_by n x) verb (parts_by ts from n ps) (host_at ts line h s))

abbrev pub SettlesAsTheMachine : Type 0
SettlesAsTheMachine = (ts : List Words) (key : List ℕ) (line : Lines) (s : Vat Local) (h : Host) (n : Local) (from : ℕ) (x : Subject) (b : Part) → Tells ts line → TellsLists ts line → Reads ts key h.inside
    → Stands ts key line s (λ u. u) (arrive_settled from x b h) (machine.arrive_settled (names_under key) from (subject_by n x) (part_by ts from n b) (host_at ts line h s))

abbrev pub ArrivesAsTheMachine : Type 0
ArrivesAsTheMachine = (ts : List Words) (key : List ℕ) (line : Lines) (s : Vat Local) (h : Host) (n : Local) (x : Name) (c : ℕ) (from : ℕ) (note : Heard) → Tells ts line → TellsLists ts line → Reads ts key h.inside
    → Stands ts key line s (λ u. u) (arrive from note h) (machine.arrive (names_under key) from (heard_by ts n x c from note) (host_at ts line h s))

abbrev pub ReceivesAsTheMachine : Type 0
ReceivesAsTheMachine = (ts : List Words) (key : List ℕ) (line : Lines) (s : Vat Local) (h : Host) (n : Local) (x : Name) (c : ℕ) (sight : receiving.Sight Local) (from : ℕ) (see : Sight) (note : Heard) → Tells ts line → TellsLists ts line → Reads ts key h.inside → Sees sight h note see
    → Stands ts key line s (λ u. u) (receive from see note h) (receiving.receive (names_under key) sight from (heard_by ts n x c from note) (host_at ts line h s))
