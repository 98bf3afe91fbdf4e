-- What a step of a vat leaves to be told, and what it stands for in the run in numbers.
use Rattle.std.specs.Prelude.{◌≡◌, ℕ, List, [], Option, Some, None, get_or, map, slice_get}
use Rattle.def_run.specs.Names.{Names}
use Rattle.def_run.specs.Vats.{Member, connection_for}
use Rattle.def_machine.specs.State.{Vat}
use Rattle.def_machine.specs.Values.{Local, Obj, Prom, Far, Mess}
use Rattle.def_run.specs.Shown.{shown_name}
use Rattle.ev_arrive.specs.Reading.{with_gifts}
use Rattle.ev_arrive.specs.declared.host.Host.{Host}
use Rattle.ev_resident.specs.Names.{Named}
use Rattle.ev_resident.specs.NamesStanding.{Counts, mails_of}
use Rattle.ev_room.specs.Reading.{World, texts_of, vat_of}

-- The names that are kept stand for those of vat u, as they are printed when these words were drawn; its last step left the vat so.
pub record NamesStand (ds : List ℕ) (u : ℕ) (last : Vat Local) (t : Names) (n : Named) : Type 0 where
  pub vat : n.naming.vat ≡ u
  pub names : n.naming.names ≡ map (shown_name ds) t.known
  pub mails : mails_of n.naming.mails ≡ t.mails
  pub counts : Counts last n

-- the number of an object, and 0 of a promise
abbrev pub object_number : Local → ℕ
object_number (Obj i) = i
object_number (Prom k) = 0
object_number (Far h p) = 0
object_number (Mess j) = 0

-- what that vat exported to vat u, if it is there
abbrev pub exported_to : ℕ → Option Member → List Local
exported_to u (Some m) = (connection_for u m).exports
exported_to u None = []

-- of each vat the numbers of what it exported to vat u, in order
abbrev pub ObjectsStand : List Member → ℕ → List (List ℕ) → Type 0
ObjectsStand ms u objects = (h : ℕ) → get_or objects h [] ≡ map object_number (exported_to u (slice_get ms h))

-- The vat of the machine which a step left, in a world in which nothing was put or happened before, and that has the texts of the heap.
pub record IsAfter (w : World) (h : Host) (s : Vat Local) : Type 0 where
  pub outbox : w.before.outbox ≡ []
  pub happened : w.before.happened ≡ []
  pub texts : texts_of w ≡ h.inside.heap.texts
  pub vat : with_gifts h.gifts (vat_of w h.inside) ≡ s
