-- A vat of a run in the code, and the vat of the run in numbers that it stands for.
use Rattle.std.specs.Prelude.{◌≡◌, ℕ, List}
use Rattle.def_run.specs.Numbers.{Vats}
use Rattle.def_run.specs.Vats.{Member as Theirs}
use Rattle.def_machine.specs.State.{Vat}
use Rattle.def_machine.specs.Values.{Local}
use Rattle.def_run.specs.World.{Script}
use Rattle.ev_arrive.specs.Reading.{with_gifts}
use Rattle.ev_vat.specs.Standing.{IsMember, Sees}
use Rattle.ev_vat.specs.MemberSteps.{Having, Leaves}
use Rattle.ev_vat.specs.declared.member.Member.{Member}
use Rattle.ev_vat.specs.declared.sending.Sending.{Sending}
use Rattle.ev_resident.specs.OutcomeStanding.{NamesStand, ObjectsStand}
use Rattle.ev_resident.specs.declared.resident.Resident.{Resident}
use Rattle.ev_room.specs.Reading.{World, vat_of}
use Rattle.ev_vat.specs.Vat.{IsReady}

-- Between two steps of the run: it is vat u, which is m, and its names are those that were told.
pub record IsResident (S : Script) (w : Vats) (u : ℕ) (m : Theirs) (r : Resident) : Type 0 where
  pub member : IsMember m r.member
  pub ready : IsReady r.member.vat
  pub key : r.member.vat.host.inside.words.key ≡ S.key
  pub names : NamesStand w.drawn u m.vat m.names r.names
  pub objects : ObjectsStand w.members u r.names.naming.objects

-- A step that found what is had left the vat of the machine so, and those are the frames of what it put; the words that it drew are in it.
pub record IsStepped (b : Having) (s : Vat Local) (xs : List Sending) (c : Member) : Type 0 where
  pub vat : (v : World) → Sees v c.vat.host.inside → with_gifts c.vat.host.gifts (vat_of v c.vat.host.inside) ≡ s
  pub leaves : Leaves b s xs c
