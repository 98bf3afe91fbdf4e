-- The single changes of what is known of a name, in the code's terms. Nothing changes what is known of a settled name.
use Rattle.std.specs.Prelude.{ℕ, [], ◌∷◌, ◌++◌, Some, None}
use Rattle.std.specs.declared.option.Option.{Option}
use Rattle.ev_base.specs.declared.values.Value.{Value}
use Rattle.def_machine.specs.State.{with_vat}
use Rattle.ev_refs.specs.declared.known.Known.{Known}
use Rattle.ev_refs.specs.declared.known.Message.{Message}
use Rattle.ev_refs.specs.declared.known.Waiters.{Waiters}
use Rattle.ev_refs.specs.declared.known.Standing.{Standing}
use Rattle.ev_refs.specs.declared.known.Standing.TheVariants.{Unsettled, WaitsOn, Viewed, Settled}

unfoldable pub unless_settled : Standing → Known → Known → Known
unless_settled (Settled v) k new = k
unless_settled Unsettled k new = new
unless_settled (WaitsOn q) k new = new
unless_settled (Viewed q) k new = new

abbrev pub with_held : Message → Known → Known
with_held m k = unless_settled k.standing k (record k { held = k.held ++ m ∷ [] })

abbrev pub with_waiting : ℕ → Known → Known
with_waiting q k = unless_settled k.standing k (record k { waiting = k.waiting ++ q ∷ [] })

abbrev pub waiting_on : ℕ → Known → Known
waiting_on q k = unless_settled k.standing k (record k { standing = WaitsOn q })

abbrev pub seen_as : ℕ → Known → Known
seen_as q k = unless_settled k.standing k (record k { standing = Viewed q })

abbrev pub with_reaction : Message → Known → Known
with_reaction m k = unless_settled k.standing k (record k { reactions = k.reactions ++ m ∷ [] })

abbrev pub with_told : ℕ → Known → Known
with_told w k = unless_settled k.standing k (record k { told = with_vat w k.told })

abbrev pub settled_as : Value → Known → Known
settled_as v k = unless_settled k.standing k (record k { standing = Settled v; held = []; waiting = []; reactions = []; told = [] })

-- what waits at a name
abbrev pub waiters_of : Known → Waiters
waiters_of k = record { held = k.held; waiting = k.waiting; reactions = k.reactions; told = k.told }

-- what waits at a name that did not settle
unfoldable pub waiters_at : Standing → Known → Option Waiters
waiters_at (Settled v) k = None
waiters_at Unsettled k = Some (waiters_of k)
waiters_at (WaitsOn q) k = Some (waiters_of k)
waiters_at (Viewed q) k = Some (waiters_of k)
