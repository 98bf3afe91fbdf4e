-- What activations were found to know, in the terms of a set.
use Rattle.std.specs.Prelude.{Bool, List}
use Rattle.std.specs.List.{list_any}
use Rattle.indexmap.specs.IndexSet.{insert_key}
use Rattle.def_event.specs.Uses as uses
use Rattle.def_event.specs.Uses.{IsAmong, Knows, Line, Thing}
use Rattle.ev_known.specs.declared.found.Finding.{Finding}
use Rattle.ev_known.specs.contracts.found.FindingPartialEq.TheImpl.{eq-value}
use Rattle.ev_links.specs.Label.{label}
use Rattle.ev_known.specs.Telling.{activation}

unfoldable pub is_found : List Finding → Finding → Bool
is_found ks k = list_any (eq-value.it k) ks

-- one more, if it is new
unfoldable pub with_found : List Finding → Finding → List Finding
with_found ks k = insert_key eq-value.it ks k

-- what was found is known by these lines
pub record FoundStand (ks : List Finding) (past : List Line) : Type 0 where
  pub each : (a : uses.Activation) (t : Thing) → IsAmong (record { by = activation a; thing = label t }) ks → Knows past a t
