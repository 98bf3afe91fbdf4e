-- What is said of what a vat has for its peers.
use Rattle.std.specs.Prelude.{◌≡◌, List, map}
use Rattle.def_run.specs.Numbers.{Addressed as Framed, all_written, frames_of}
use Rattle.def_machine.specs.State.{Vat}
use Rattle.def_machine.specs.Values.{Name, Words, Local}
use Rattle.ev_pass.specs.Notes.{Sent}
use Rattle.ev_pass.specs.Reading.{put_by}
use Rattle.ev_pass.specs.declared.interior.Interior.{Interior}
use Rattle.ev_refs.specs.References.{References}
use Rattle.ev_tables.specs.Table.{Table}
use Rattle.ev_wire.specs.Putting as code
use Rattle.ev_wire.specs.Putting.{Addressed, put_all}
use Rattle.def_run.specs.Asking.{AskAnew}
use Rattle.def_run.specs.Seeing.{SeesAsBefore}
use Rattle.ev_wire.specs.Standing.{AreFor, HasReferences, connections_of}

-- what stands on a frame, and the vat that it is for
abbrev pub framed : Framed → Addressed
framed x = record { to = x.to; op = x.frame.op }

-- What a vat has for its peers is as it is to be, also after a step that leaves what has a number its own or not.
abbrev pub StaysFor : Type 0
StaysFor = (xs ys : List Words) (q r : References) (s t : Vat Local) (ts : List Table) → HasReferences xs q s → HasReferences ys r t → SeesAsBefore s t (connections_of ts) → AreFor q ts → AreFor r ts

-- What is written of notes are the frames of these notes, and so are the connections after them.
abbrev pub WritesAll : Type 0
WritesAll = (i : Interior) (s : Vat Local) (f : Local → Name) (ns : List Sent) (ts : List Table) → HasReferences i.heap.texts i.refs s → AskAnew s (map (put_by i.heap.texts) ns) (connections_of ts) → AreFor i.refs ts
    → (map framed (frames_of s f (map (put_by i.heap.texts) ns) (connections_of ts)) ≡ code.all_written i ns ts)
    × (connections_of (put_all i ns ts) ≡ all_written s (map (put_by i.heap.texts) ns) (connections_of ts))
    × AreFor i.refs (put_all i ns ts)
