-- the lanes so far
use Rattle.std.proofs.Common.{◌≡◌, ◌++◌, take, string_bytes}
use Rattle.std.specs.List.{flat_map}
use Rattle.def_draw.specs.Diagram.{participant}
use Rattle.ev_see_draw.proofs.lanes.push_participants.Given as goal

abbrev pub invariant-loop-vat : goal.invariant-loop-vat
invariant-loop-vat l = string_bytes l.out ≡ string_bytes l.fn.out ++ flat_map (participant l.lanes) (take l.vat-index l.lanes)
