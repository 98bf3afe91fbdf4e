-- The state of a run in the code while a step of a vat is told.
use Rattle.std.specs.Prelude.{◌≡◌, ◌++◌, ◌<◌, ℕ, zero, List, Option, Some, get_or, length, map, slice_get}
use Rattle.def_run.specs.Numbers.{Brought, Vats}
use Rattle.def_run.specs.Vats.{Member, connection_for, unconnected}
use Rattle.def_machine.specs.State as machine
use Rattle.def_machine.specs.Values.{Local}
use Rattle.def_run.specs.Text.{shown_events, vat_names}
use Rattle.def_run.specs.World.{Event, Program, Script, name_at}
use Rattle.ev_base.specs.declared.names.Msg.{Msg}
use Rattle.ev_resident.specs.MemberSteps.{Having}
use Rattle.ev_resident.specs.declared.Sending.{Sending}
use Rattle.ev_resident.specs.Names.{Entry, carried_mails}
use Rattle.ev_resident.specs.NamesStanding.{Says, mails_of}
use Rattle.ev_resident.specs.OutcomeStanding.{NamesStand, ObjectsStand}
use Rattle.ev_resident.specs.Standing.{IsResident, IsStepped}
use Rattle.ev_resident.specs.declared.resident.Resident.{Resident}
use Rattle.ev_resident.specs.Vat.{IsReady}
use Rattle.ev_step_text.specs.Accounts.{IsAccount}
use Rattle.ev_ways.specs.Standing.{WaysStand}
use Rattle.ev_world.specs.Standing.{told_so}
use Rattle.ev_world.specs.declared.world.World.{World}

-- the state of the run, once these words were drawn
abbrev pub drawn_now : List ℕ → Vats → Vats
drawn_now ds w = record w { drawn = ds }

-- what is had once a note brought that
abbrev pub having_of : Brought → Having
having_of b = record { connections = b.connections; learnt = b.learnt }

-- The vat of a step, once it left the machine's vat so and put these frames, and before that is told.
pub record IsActing (S : Script) (w : Vats) (u : ℕ) (m : Member) (b : Brought) (s : machine.Vat Local) (xs : List Sending) (told : List Entry) (r : Resident) : Type 0 where
  pub stepped : IsStepped (having_of b) s xs r.member
  pub ready : IsReady r.member.vat
  pub key : r.member.vat.host.inside.words.key ≡ S.key
  pub names : NamesStand s.drawn u m.vat m.names r.names
  pub objects : ObjectsStand w.members u r.names.naming.objects
  pub room : length r.names.naming.objects ≡ length S.vats
  pub says : Says r.member.vat.host.inside.words told b.told

-- The state of a run from which vat u, which is m, took a step that left it so: what the step put and told is still to go out, and the vat
-- has the words of the run. It had exported so much to each before.
pub record IsMidway (S : Script) (w : Vats) (u : ℕ) (m : Member) (head : List Event) (b : Brought) (s : machine.Vat Local) (before : List ℕ) (xs : List Sending) (carried : Option Msg) (told : List Entry) (c : World) : Type 0 where
  pub here : slice_get w.members u ≡ Some m
  pub own : (r : Resident) → slice_get c.residents.items u ≡ Some r → IsActing S w u m b s xs told r
  pub others : (h : ℕ) (n : Member) (r : Resident) → (u ≡ h → ⊥) → slice_get w.members h ≡ Some n → slice_get c.residents.items h ≡ Some r → IsResident S (drawn_now s.drawn w) h n r
  pub rooms : (h : ℕ) (r : Resident) → slice_get c.residents.items h ≡ Some r → length r.names.naming.objects ≡ length S.vats
  pub mails : mails_of (carried_mails carried) ≡ b.carried
  pub exports : (h : ℕ) → (get_or b.connections h unconnected).exports ≡ (connection_for h m).exports
  pub counts : (h : ℕ) → h < length S.vats → get_or before h zero ≡ length (connection_for h m).exports
  pub key : c.words.key ≡ S.key
  pub depth : c.limits.depth ≡ S.depth
  pub count : length c.residents.items ≡ length S.vats
  pub members : length w.members ≡ length S.vats
  pub programs : c.programs.items ≡ map (λ (p : Program). p.tree) S.vats
  pub nouns : c.nouns.items ≡ map (λ (p : Program). map (name_at S.vats) p.knows) S.vats
  pub ways : WaysStand s.drawn (length S.vats) w.ways c.ways
  pub history : IsAccount (vat_names S) c.history (told_so c.wire (shown_events s.drawn (w.history ++ head)))
