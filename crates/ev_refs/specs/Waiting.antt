-- Chains of names that wait on one another, in the code's terms.
use Rattle.std.specs.Prelude.{◌==◌, ℕ, zero, suc, Bool, true, false, if◌then◌else◌, List, Some, None, slice_get}
use Rattle.std.specs.declared.option.Option.{Option}
use Rattle.ev_refs.specs.References.{References}
use Rattle.ev_refs.specs.declared.known.Known.{Known}
use Rattle.ev_refs.specs.declared.known.Standing.{Standing}
use Rattle.ev_refs.specs.declared.known.Standing.TheVariants.{Unsettled, WaitsOn, Viewed, Settled}

-- the name on which a name that stands so waits
abbrev pub awaited_by : Standing → Option ℕ
awaited_by Unsettled = None
awaited_by (WaitsOn q) = Some q
awaited_by (Viewed q) = Some q
awaited_by (Settled v) = None

unfoldable pub awaited_found : Option Known → Option ℕ
awaited_found None = None
awaited_found (Some k) = awaited_by k.standing

unfoldable pub awaited : List Known → ℕ → Option ℕ
awaited ks n = awaited_found (slice_get ks n)

unfoldable pub on_awaited : (ℕ → Bool) → Option ℕ → Bool
on_awaited f None = false
on_awaited f (Some q) = f q

-- whether a chain of waits leads from n to p, in at most so many steps
unfoldable pub waits_lead : ℕ → List Known → ℕ → ℕ → Bool
waits_lead zero ks p n = n == p
waits_lead (suc d) ks p n = if n == p then true else on_awaited (λ q. waits_lead d ks p q) (awaited ks n)

abbrev pub stands_open : Standing → Bool
stands_open Unsettled = true
stands_open (WaitsOn q) = false
stands_open (Viewed q) = false
stands_open (Settled v) = false

unfoldable pub open_found : Option Known → Bool
open_found None = true
open_found (Some k) = stands_open k.standing

-- whether a name neither settled nor waits
unfoldable pub is_open : References → ℕ → Bool
is_open r p = open_found (slice_get r.known p)
