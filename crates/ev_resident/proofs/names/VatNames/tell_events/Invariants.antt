use Rattle.std.proofs.Common.{◌≡◌, drop}
use Rattle.ev_resident.specs.Names.{each_tells, line_tells}
use Rattle.ev_resident.proofs.names.VatNames.tell_events.Given as goal

-- the lines so far, and then the rest, tell what all tell
abbrev pub invariant-loop-line : goal.invariant-loop-line
invariant-loop-line l =
    each_tells (line_tells l.refs l.self.naming.mails l.read.rare) (drop l.line-index l.lines) l.told ≡ each_tells (line_tells l.refs l.self.naming.mails l.read.rare) l.lines l.fn.told
