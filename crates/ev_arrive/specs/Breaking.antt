-- Names that break with a partition, in the code's terms.
use Rattle.std.specs.Prelude.{ℕ, Some, None, slice_get}
use Rattle.std.specs.declared.option.Option.{Option}
use Rattle.ev_base.specs.declared.values.Value.TheVariants as held
use Rattle.ev_refs.specs.References.{References}
use Rattle.ev_refs.specs.declared.known.Known.{Known}
use Rattle.ev_refs.specs.declared.known.Standing.{Standing}
use Rattle.ev_refs.specs.declared.known.Standing.TheVariants.{Unsettled, WaitsOn, Viewed, Settled}
use Rattle.ev_settle.specs.Settling.{settle}
use Rattle.ev_arrive.specs.Acts.{Act, give, within}

abbrev pub standing_found : Option Known → Standing
standing_found (Some k) = k.standing
standing_found None = Unsettled

-- how a name stands
unfoldable pub standing_now : References → ℕ → Standing
standing_now r n = standing_found (slice_get r.known n)

unfoldable pub break_name : ℕ → Act (Unit {0})
break_name n = λ h. within (settle n (held.Broken h.inside.refs.partition)) h

unfoldable pub break_by : ℕ → Standing → Act (Unit {0})
break_by n (Settled v) = give tt
break_by n Unsettled = break_name n
break_by n (WaitsOn q) = break_name n
break_by n (Viewed q) = break_name n

-- a name that did not settle breaks
unfoldable pub break_at : ℕ → Act (Unit {0})
break_at n = λ h. break_by n (standing_now h.inside.refs n) h

unfoldable pub break_hosted_by : ℕ → Standing → Act (Unit {0})
break_hosted_by n Unsettled = break_name n
break_hosted_by n (WaitsOn q) = break_name n
break_hosted_by n (Viewed q) = give tt
break_hosted_by n (Settled v) = give tt

-- a name that did not settle, and whose view is no other name, breaks
unfoldable pub break_hosted : ℕ → Act (Unit {0})
break_hosted n = λ h. break_hosted_by n (standing_now h.inside.refs n) h
