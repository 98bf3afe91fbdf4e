use Rattle.std.proofs.Common.{◌≡◌, drop}
use Rattle.ev_resident.specs.Brought.{exported_name, imports_tell}
use Rattle.ev_resident.proofs.hearing.tell_imports.Given as goal

-- those so far, and then the rest, tell what all tell
abbrev pub invariant-loop-value : goal.invariant-loop-value
invariant-loop-value l =
    imports_tell (exported_name l.exporter l.me) l.position (drop l.value-index l.values) l.told ≡ imports_tell (exported_name l.exporter l.me) l.fn.first l.values l.fn.told
