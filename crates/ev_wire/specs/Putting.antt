-- What a vat writes of all the notes of a step, in the code's terms.
use Rattle.std.specs.Prelude.{ℕ, List, [], ◌∷◌, get_or, slice_set}
use Rattle.def_op.specs.Frames.{Operation}
use Rattle.def_op.specs.Views.{operation}
use Rattle.ev_pass.specs.Notes.{Sent}
use Rattle.ev_pass.specs.declared.interior.Interior.{Interior}
use Rattle.ev_tables.specs.Table.{Table, fresh}
use Rattle.ev_wire.specs.Writing.{put_on, written}
use Rattle.ev_wire.specs.declared.outbox.Outgoing.{Outgoing}

-- an operation, and the vat that it is for
pub record Addressed : Type 0 where
  pub to : ℕ
  pub op : Operation

abbrev pub addressed : Outgoing → Addressed
addressed o = record { to = o.to; op = operation o.op }

-- what the vat has for that peer
abbrev pub table_for : ℕ → List Table → Table
table_for v ts = get_or ts v (fresh v)

-- what it has for each peer once this note was put
unfoldable pub put_one : Interior → Sent → List Table → List Table
put_one i s ts = slice_set ts s.to (put_on i s.note (table_for s.to ts))

-- what it has for each peer once these were put, and what was written, in order
unfoldable pub put_all : Interior → List Sent → List Table → List Table
put_all i [] ts = ts
put_all i (s ∷ ss) ts = put_all i ss (put_one i s ts)

unfoldable pub all_written : Interior → List Sent → List Table → List Addressed
all_written i [] ts = []
all_written i (s ∷ ss) ts = record { to = s.to; op = written i s.note (table_for s.to ts) } ∷ all_written i ss (put_one i s ts)
