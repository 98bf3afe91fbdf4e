use Rattle.std.proofs.Common.{◌≡◌, ◌-◌, length}
use Rattle.ev_resident.specs.Names.{all_named}
use Rattle.ev_resident.proofs.names.VatNames.fill.Given as goal

-- as many names are there as were counted, and what is to come makes of them what it makes of those there were
abbrev pub invariant-loop : goal.invariant-loop
invariant-loop l =
    (l.counter ≡ length l.self.naming.names) × (all_named l.told (l.known - l.counter) l.self ≡ all_named l.told (l.known - length l.fn.self.naming.names) l.fn.self)
