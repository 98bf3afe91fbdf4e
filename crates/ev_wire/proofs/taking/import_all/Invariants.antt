use Rattle.std.proofs.Common.{◌≡◌, drop}
use Rattle.ev_wire.specs.Taking.{imported_all}
use Rattle.ev_wire.proofs.taking.import_all.Given as goal

-- the rest leads to all
abbrev pub invariant-loop-value : goal.invariant-loop-value
invariant-loop-value l = imported_all (drop l.value-index l.values) l.connection ≡ imported_all l.values l.initial.connection
