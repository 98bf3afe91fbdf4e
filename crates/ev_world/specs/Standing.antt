-- The state of a run in the code, and the state of the run in numbers that it stands for.
use Rattle.std.specs.Prelude.{◌≡◌, ℕ, Bool, true, false, List, Some, Result, Ok, Err, filter, length, map, slice_get}
use Rattle.def_event.specs.Lines.{is_no_frame}
use Rattle.def_event.specs.declared.event.Event.{Event as ShownEvent}
use Rattle.def_run.specs.Numbers.{Course, Runs, Halts, Vats}
use Rattle.def_run.specs.Vats.{Member}
use Rattle.def_machine.specs.State as machine
use Rattle.def_run.specs.Text.{shown_events, vat_names}
use Rattle.def_run.specs.World.{Program, Script, name_at}
use Rattle.ev_pass.specs.Acts.{words_by}
use Rattle.ev_resident.specs.Standing.{IsResident}
use Rattle.ev_resident.specs.declared.resident.Resident.{Resident}
use Rattle.ev_resident.specs.Vat.{IsReady}
use Rattle.ev_resident.specs.declared.VatStop.{VatStop}
use Rattle.ev_resident.specs.declared.VatStop.TheVariants.{Fuel, Deep, WordRepeated, Astray, Memory}
use Rattle.ev_step_text.specs.Accounts.{IsAccount, Recounts}
use Rattle.ev_step_text.specs.declared.account.Account.{Account}
use Rattle.ev_ways.specs.Standing.{WaysStand}
use Rattle.ev_world.specs.declared.world.Halted.{Halted}
use Rattle.ev_world.specs.declared.world.World.{World}

-- the lines of a history, with the frames where they are asked for
abbrev pub told_so : Bool → List ShownEvent → List ShownEvent
told_so true es = es
told_so false es = filter is_no_frame es

-- each vat is ready for a step
abbrev pub AreReady : List Resident → Type 0
AreReady rs = (u : ℕ) (r : Resident) → slice_get rs u ≡ Some r → IsReady r.member.vat

-- What the code holds between two steps is that state of the run in numbers.
pub record IsWorld (S : Script) (w : Vats) (c : World) : Type 0 where
  pub fuel : c.fuel ≡ w.fuel
  pub key : c.words.key ≡ S.key
  pub drawn : words_by c.words.key c.words.count ≡ w.drawn
  pub depth : c.limits.depth ≡ S.depth
  pub count : length c.residents.items ≡ length S.vats
  pub members : length w.members ≡ length S.vats
  pub residents : (u : ℕ) (m : Member) (r : Resident) → slice_get w.members u ≡ Some m → slice_get c.residents.items u ≡ Some r → IsResident S w u m r
  pub rooms : (u : ℕ) (r : Resident) → slice_get c.residents.items u ≡ Some r → length r.names.naming.objects ≡ length S.vats
  pub programs : c.programs.items ≡ map (λ (p : Program). p.tree) S.vats
  pub nouns : c.nouns.items ≡ map (λ (p : Program). map (name_at S.vats) p.knows) S.vats
  pub ways : WaysStand w.drawn (length S.vats) w.ways c.ways
  pub history : IsAccount (vat_names S) c.history (told_so c.wire (shown_events w.drawn w.history))

-- ---- what a step comes to

-- it came to a state of which that holds
abbrev pub Comes : (Vats → Type 0) → Course → Type 0
Comes At course = (w : Vats) × ((course ≡ Runs w) × At w)

-- a step of that number stopped so, and the lines are those of the steps before
abbrev pub HaltsWith : machine.Stop → ℕ → Bool → Course → Account → Type 0
HaltsWith c step wire course told = (w : Vats) × ((course ≡ Halts c step w) × Recounts told (told_so wire (shown_events w.drawn w.history)))

abbrev pub HaltsAs : VatStop → ℕ → Bool → Course → Account → Type 0
HaltsAs Fuel step wire course told = HaltsWith machine.Fuel step wire course told
HaltsAs Deep step wire course told = HaltsWith machine.Deep step wire course told
HaltsAs (WordRepeated i j) step wire course told = HaltsWith (machine.Repeated i j) step wire course told
HaltsAs Astray step wire course told = HaltsWith machine.Astray step wire course told
HaltsAs Memory step wire course told = Unit {0}

-- what a step of that number came to in the code is what it comes to in the run in numbers, unless memory ran out
abbrev pub CourseIs : Script → Result (Unit {0}) VatStop → ℕ → Course → World → Type 0
CourseIs S (Ok u) step course c = Comes (λ (w : Vats). IsWorld S w c) course
CourseIs S (Err e) step course c = HaltsAs e step c.wire course c.history

-- the same of steps one after the other
abbrev pub RunIs : Script → Result (Unit {0}) Halted → Course → World → Type 0
RunIs S (Ok u) course c = Comes (λ (w : Vats). IsWorld S w c) course
RunIs S (Err h) course c = HaltsAs h.stop h.step c.wire course c.history
