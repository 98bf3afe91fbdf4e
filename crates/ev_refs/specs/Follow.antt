-- Where values lead, and where a followed value is, in the code's terms.
use Rattle.std.specs.Prelude.{ℕ, zero, suc, if◌then◌else◌, List, ◌==◌, Some, None, length, slice_get}
use Rattle.std.specs.declared.option.Option.{Option}
use Rattle.ev_base.specs.declared.values.Value.{Value}
use Rattle.ev_base.specs.declared.values.Value.TheVariants as held
use Rattle.def_machine.specs.State.{is_in}
use Rattle.ev_refs.specs.References.{References}
use Rattle.ev_refs.specs.declared.follow.Place.{Place}
use Rattle.ev_refs.specs.declared.follow.Place.TheVariants.{Near, Mine, FarPromise, FarObject, Gone}
use Rattle.ev_refs.specs.declared.follow.Step.{Step}
use Rattle.ev_refs.specs.declared.follow.Step.TheVariants.{Stays, Leads, Ends}
use Rattle.ev_refs.specs.declared.known.Known.{Known}
use Rattle.ev_refs.specs.declared.known.Standing.{Standing}
use Rattle.ev_refs.specs.declared.known.Standing.TheVariants.{Unsettled, WaitsOn, Viewed, Settled}

-- where a value that a name settled to leads
abbrev pub onward : Value → Step
onward (held.Prom n) = Leads n
onward v = Ends v

-- where a name that stands so leads in one step; waits are not followed
abbrev pub step_from : Standing → Step
step_from Unsettled = Stays
step_from (WaitsOn q) = Stays
step_from (Viewed q) = Leads q
step_from (Settled v) = onward v

unfoldable pub step_found : Option Known → Step
step_found None = Stays
step_found (Some k) = step_from k.standing

unfoldable pub step_of : List Known → ℕ → Step
step_of ks n = step_found (slice_get ks n)

unfoldable pub led_by : (ℕ → Value) → ℕ → Step → Value
led_by on n Stays = held.Prom n
led_by on n (Leads m) = on m
led_by on n (Ends v) = v

-- where a name leads in at most so many steps
unfoldable pub led_on : ℕ → List Known → ℕ → Value
led_on zero ks n = held.Prom n
led_on (suc d) ks n = led_by (λ m. led_on d ks m) n (step_of ks n)

unfoldable pub led : List Known → Value → Value
led ks (held.Prom n) = led_on (suc (length ks)) ks n
led ks v = v

unfoldable pub host_found : ℕ → Option Known → ℕ
host_found me None = me
host_found me (Some k) = k.host

-- the vat that tells of a name; a name that is not known is the vat's own
unfoldable pub host_of : References → ℕ → ℕ
host_of r n = host_found r.me (slice_get r.known n)

-- broken, where its host is noticed
unfoldable pub severed_by : References → ℕ → Value → Value
severed_by r h v = if is_in h r.noticed then held.Broken r.partition else v

unfoldable pub severed : References → Value → Value
severed r (held.Prom n) = severed_by r (host_of r n) (held.Prom n)
severed r (held.Far h p) = severed_by r h (held.Far h p)
severed r v = v

-- what a value is followed to
unfoldable pub followed : References → Value → Value
followed r v = severed r (led r.known v)

unfoldable pub hosted : References → ℕ → ℕ → Place
hosted r n h = if r.me == h then Mine n else FarPromise h n

-- where a followed value is
unfoldable pub place_of : References → Value → Place
place_of r (held.Prom n) = hosted r n (host_of r n)
place_of r (held.Far h p) = FarObject h p
place_of r (held.Broken t) = Gone t
place_of r v = Near
