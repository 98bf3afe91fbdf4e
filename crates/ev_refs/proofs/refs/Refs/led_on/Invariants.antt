-- The name at hand leads, in the steps that are left, where the first one leads.
use Rattle.std.proofs.Common.{◌≡◌, length, suc, ◌-◌}
use Rattle.ev_refs.specs.Follow.{led_on}
use Rattle.ev_refs.proofs.refs.Refs.led_on.Given as goal

abbrev pub invariant-loop : goal.invariant-loop
invariant-loop l = led_on (l.end - l.counter) l.self.known l.at ≡ led_on (suc (length l.self.known)) l.self.known l.fn.name
