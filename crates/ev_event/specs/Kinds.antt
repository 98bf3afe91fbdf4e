-- The lines of events by their kind: what references do, and what is neither that nor a step of evaluation.
use Rattle.std.specs.Prelude.{ℕ, List, []}
use Rattle.def_event.specs.declared.event.Event.{Event}
use Rattle.def_event.specs.declared.event.Event.TheVariants.{Open, Turn, Idle, Carry, Cut, Notice, Frame, Take, Arrived, Promise, Send, SendOnly, When, Done, Threw, Settle, Wait, View, LostCut, LostBroken, LeftQueue, LeftHeld, LeftWait, LeftLink, End, Raw}
use Rattle.def_event.specs.Lines.{line_of}

-- the line of an entry of a run, of what is left at its end, of the end or about a frame, and none of another event
abbrev pub run_line : List (List ℕ) → Event → List ℕ
run_line vats (Open v) = line_of vats (Open v)
run_line vats (Turn k v) = line_of vats (Turn k v)
run_line vats (Idle k) = line_of vats (Idle k)
run_line vats (Carry k v w note) = line_of vats (Carry k v w note)
run_line vats (Cut k v w) = line_of vats (Cut k v w)
run_line vats (Notice k v w) = line_of vats (Notice k v w)
run_line vats (Frame bytes) = line_of vats (Frame bytes)
run_line vats (LeftQueue v m) = line_of vats (LeftQueue v m)
run_line vats (LeftHeld v p m) = line_of vats (LeftHeld v p m)
run_line vats (LeftWait v x m) = line_of vats (LeftWait v x m)
run_line vats (LeftLink v w note) = line_of vats (LeftLink v w note)
run_line vats End = line_of vats End
run_line vats (Raw line) = line_of vats (Raw line)
run_line vats _ = []

-- the line of what references do, and of a run, and none of a step of evaluation
abbrev pub referred_line : List (List ℕ) → Event → List ℕ
referred_line vats (Take t) = line_of vats (Take t)
referred_line vats (Arrived l members) = line_of vats (Arrived l members)
referred_line vats (Promise a p o) = line_of vats (Promise a p o)
referred_line vats (Send m) = line_of vats (Send m)
referred_line vats (SendOnly m) = line_of vats (SendOnly m)
referred_line vats (When w) = line_of vats (When w)
referred_line vats (Done a x) = line_of vats (Done a x)
referred_line vats (Threw a x) = line_of vats (Threw a x)
referred_line vats (Settle p x) = line_of vats (Settle p x)
referred_line vats (Wait p q) = line_of vats (Wait p q)
referred_line vats (View p q) = line_of vats (View p q)
referred_line vats (LostCut m) = line_of vats (LostCut m)
referred_line vats (LostBroken m) = line_of vats (LostBroken m)
referred_line vats other = run_line vats other
