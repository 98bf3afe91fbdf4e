-- Links from what leads to what it leads to, and what the lines say of that.
use Rattle.std.specs.Prelude.{◌≡◌, ◌⊎◌, ◌↔◌, List}
use Rattle.def_event.specs.Uses.{IsAmong, IsLead, Lead, Line}
use Rattle.ev_links.specs.declared.label.Label.{Label}
use Rattle.ev_links.specs.declared.links.Link.{Link}
use Rattle.ev_links.specs.declared.links.Way.{Way}
use Rattle.ev_links.specs.Label.{label}
use Rattle.ev_known.specs.Leads.{way_of}
use Rattle.ev_links.specs.Links.{row}

-- the link to what is led to, of what leads
abbrev pub forward : Lead → Link
forward d = record { way = way_of d.way; other = label d.to }

-- the thing has links to these more
pub record LeadsTo (from : Label) (way : Way) (ts : List Label) (old new : List (Label × List Link)) : Type 0 where
  pub each : (j : Label) (l : Link) → IsAmong l (row new j) ↔ (IsAmong l (row old j) ⊎ ((t : Label) × IsAmong t ts × (from ≡ j) × (record { way = way; other = t } ≡ l)))

-- these leads are added
pub record AddsOnward (ds : List Lead) (old new : List (Label × List Link)) : Type 0 where
  pub each : (j : Label) (l : Link) → IsAmong l (row new j) ↔ (IsAmong l (row old j) ⊎ ((d : Lead) × IsAmong d ds × (label d.from ≡ j) × (forward d ≡ l)))

-- the links are those of the lines
pub record OnwardStand (rows : List (Label × List Link)) (past : List Line) : Type 0 where
  pub each : (j : Label) (l : Link) → IsAmong l (row rows j) ↔ ((d : Lead) × IsLead past d × (label d.from ≡ j) × (forward d ≡ l))
