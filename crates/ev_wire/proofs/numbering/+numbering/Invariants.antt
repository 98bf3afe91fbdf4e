use Rattle.std.proofs.Common.{◌≡◌, drop}
use Rattle.ev_pass.specs.Notes.{all_parcels}
use Rattle.ev_wire.specs.Writing.{numbered_parcels}
use Rattle.ev_wire.proofs.numbering.+numbering.Given as goal

-- the rest leads to all
abbrev pub invariant-number_all-loop-part : goal.invariant-number_all-loop-part
invariant-number_all-loop-part l = numbered_parcels l.inside.refs (all_parcels (drop l.part-index l.passed)) l.connection ≡ numbered_parcels l.inside.refs (all_parcels l.passed) l.initial.connection
