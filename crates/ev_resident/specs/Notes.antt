-- What a frame tells of its note beside the note's line.
use Rattle.std.specs.Prelude.{ℕ, Bool, false, List, Option, Some, None, is_some}
use Rattle.ev_base.specs.declared.names.Msg.{Msg}
use Rattle.ev_pass.specs.Notes.{Noted, Deliver, Open, Ask, Settled, Elsewhere, Shorten}
use Rattle.ev_step_lines.specs.Lines.{Naming, mail_at}
use Rattle.ev_resident.specs.Noting.{Noting, noted_line}
use Rattle.ev_ways.specs.declared.frame.Frame.{Frame}

-- the message that a note brings, if one
abbrev pub message_of : Naming → Noted → Option Msg
message_of n (Deliver m answer x verb ps) = Some (mail_at n m)
message_of n (Open i x) = None
message_of n (Ask p i a) = None
message_of n (Settled a p) = None
message_of n (Elsewhere a c) = None
message_of n (Shorten a c i) = None

-- whether it brings a message that asks for an answer
abbrev pub asks_of : Noted → Bool
asks_of (Deliver m answer x verb ps) = is_some answer
asks_of (Open i x) = false
asks_of (Ask p i a) = false
asks_of (Settled a p) = false
asks_of (Elsewhere a c) = false
asks_of (Shorten a c i) = false

-- the frame of a note to that vat, which has these bytes
abbrev pub frame_by : Noting → ℕ → Noted → List ℕ → Frame
frame_by n to x bytes = record { bytes = bytes; note = noted_line n to x; message = message_of n.telling.naming x; asks = asks_of x }
