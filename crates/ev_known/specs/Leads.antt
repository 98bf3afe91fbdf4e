-- Links of what is led to, and what the lines say of that.
use Rattle.std.specs.Prelude.{◌≡◌, ◌⊎◌, ◌↔◌, List}
use Rattle.def_event.specs.Uses as uses
use Rattle.def_event.specs.Uses.{IsAmong, IsLead, Lead, Line}
use Rattle.ev_links.specs.declared.label.Label.{Label}
use Rattle.ev_links.specs.declared.links.Link.{Link}
use Rattle.ev_links.specs.declared.links.Way.{Way}
use Rattle.ev_links.specs.declared.links.Way.TheVariants.{Listed, Settled}
use Rattle.ev_links.specs.Label.{label}
use Rattle.ev_links.specs.Links.{row}

abbrev pub way_of : uses.Way → Way
way_of uses.Listed = Listed
way_of (uses.Settled at) = Settled at

-- the link from what leads, of what is led to
abbrev pub backward : Lead → Link
backward d = record { way = way_of d.way; other = label d.from }

-- each of these things has the link more
pub record AddsEach (link : Link) (ts : List Label) (old new : List (Label × List Link)) : Type 0 where
  pub each : (j : Label) (l : Link) → IsAmong l (row new j) ↔ (IsAmong l (row old j) ⊎ (IsAmong j ts × (link ≡ l)))

-- these leads are added
pub record AddsLeads (ds : List Lead) (old new : List (Label × List Link)) : Type 0 where
  pub each : (j : Label) (l : Link) → IsAmong l (row new j) ↔ (IsAmong l (row old j) ⊎ ((d : Lead) × IsAmong d ds × (label d.to ≡ j) × (backward d ≡ l)))

-- the links are those of the lines
pub record LinksStand (rows : List (Label × List Link)) (past : List Line) : Type 0 where
  pub each : (j : Label) (l : Link) → IsAmong l (row rows j) ↔ ((d : Lead) × IsLead past d × (label d.to ≡ j) × (backward d ≡ l))
