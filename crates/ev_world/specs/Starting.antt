-- The vats of a script in the code, each at the start of its run.
use Rattle.std.specs.Prelude.{◌≡◌, ℕ, List, [], ◌∷◌, Some, length, map, slice_get}
use Rattle.def_run.specs.Names.{Names}
use Rattle.def_machine.specs.State as machine
use Rattle.def_machine.specs.Values.{Local, Root}
use Rattle.def_run.specs.World.{Program, knowers}
use Rattle.ev_resident.specs.MemberStanding.{IsMember}
use Rattle.ev_resident.specs.MemberStarting.{rooted_member}
use Rattle.ev_resident.specs.Names.{names_first}
use Rattle.ev_resident.specs.OutcomeStanding.{NamesStand}
use Rattle.ev_resident.specs.Starting.{with_roots}
use Rattle.ev_resident.specs.declared.resident.Resident.{Resident}
use Rattle.ev_script.specs.declared.script.Script.{Script}
use Rattle.ev_script.specs.declared.script.VatScript.{VatScript}
use Rattle.ev_resident.specs.Vat.{IsReady}
use Rattle.law_schedule.specs.Scripts.{machine_vats}

-- the vats from a place on, without their programs, which say nothing of names and of whom a vat knows
abbrev pub bare_from : ℕ → List VatScript → List Program
bare_from place vats = machine_vats (λ k. []) place vats

abbrev pub bare : List VatScript → List Program
bare vats = bare_from 0 vats

-- Vat u of a run of so many, which knows the roots of these vats and is known by those, as it starts.
pub record IsFresh (fuel : ℕ) (under : List ℕ) (u count : ℕ) (knows known_by : List ℕ) (r : Resident) : Type 0 where
  pub member : (t : Names) → IsMember (rooted_member fuel u count knows known_by t) r.member
  pub ready : IsReady r.member.vat
  pub key : r.member.vat.host.inside.words.key ≡ under
  pub names : (ds : List ℕ) (s : machine.Vat Local) → s.promises ≡ 0 → s.messages ≡ 0 → s.gifts ≡ [] → NamesStand ds u s (record { known = Root u ∷ map Root knows; mails = [] }) r.names
  pub objects : r.names ≡ with_roots knows (names_first u knows count)

-- the vat at place u of a script, as a run of the script starts
abbrev pub IsStarted : Script → ℕ → VatScript → Resident → Type 0
IsStarted script u vat r = IsFresh script.fuel script.key u (length script.vats) vat.knows (knowers u 0 (bare script.vats)) r

-- Those at the first places are started.
pub record AreStarted (script : Script) (places : ℕ) (rs : List Resident) : Type 0 where
  pub count : length rs ≡ places
  pub each : (u : ℕ) (vat : VatScript) (r : Resident) → slice_get script.vats u ≡ Some vat → slice_get rs u ≡ Some r → IsStarted script u vat r
