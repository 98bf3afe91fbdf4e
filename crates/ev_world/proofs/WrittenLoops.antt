-- The steps of a run, one after the other, each written before the next.
use Rattle.std.proofs.Common.{◌≡◌, ℕ, zero, ◌+◌, ◌<◌, ◌≤◌, Bool, List, [], Option, Some, Result, length, map, refl, sym, subst, arith}
use Rattle.std.specs.Prelude.{slice_get}
use Rattle.std.proofs.KnownBytes.{Appends-nil}
use Rattle.def_run.specs.Numbers.{Course, Runs, Vats, begins, open_from, open_member, step, steps_from}
use Rattle.def_machine.specs.Values.{Words}
use Rattle.def_run.specs.World.{Entry, Program, Script}
use Rattle.ev_io.specs.Causes.{Rose}
use Rattle.ev_script.specs.declared.script.Entry.{Entry as TheirEntry}
use Rattle.ev_world.specs.Ends.{course_of}
use Rattle.ev_world.specs.Standing.{Comes}
use Rattle.ev_world.specs.Steadily.{OpensSteadily, StepsSteadily}
use Rattle.ev_world.specs.Writing.{AppendsFront, GoesTo, IsCourse, IsStep, IsWritten, untold}
use Rattle.ev_world.specs.declared.world.World.{World}
use Rattle.ev_world.specs.declared.writing.Halt.{Halt}
use Rattle.ev_world.proofs.Loops.{OpenedBy, SteppedBy, opened_next, runs_on, stepped_next, steps_by}
use Rattle.ev_world.proofs.Untold.{open_behind, step_behind}
use Rattle.def_run.specs.Steady.{RunsSteadily}
use Rattle.law_schedule.specs.Scripts.{machine_entry}

pub rose_since : (a b c : ℕ) → a ≤ b → Rose b c → Rose a c
rose_since a b c less rose = omega (arith, less, rose)

-- nothing was written yet
pub none_appended : (held : Option (List ℕ)) (text : List ℕ) → AppendsFront held held text
none_appended held text = ([], Appends-nil held, (text, refl))

-- a step as it is known of one
pub opens_so : (S : Script) (u : ℕ) (p : Program) (w : Vats) → OpensSteadily S u p w → IsStep w (open_member S u p w (slice_get w.members u)) (open_member S u p (untold w) (slice_get w.members u))
opens_so S u p w fine = (open_behind S u p w (slice_get w.members u), λ y e. (fine.shown y e).history)

pub steps_so : (S : Script) (e : Entry) (k : ℕ) (w : Vats) → StepsSteadily S e k w → IsStep w (step S e k w) (step S e k (untold w))
steps_so S e k w fine = (step_behind S e k w, λ y s. (fine.shown y s).history)

module _ (S : Script) (steady : RunsSteadily S) (names : List Words) (wire was : Bool) (held h after : Option (List ℕ)) (k : ℕ) (c d : World) (r : Result (Unit {0}) Halt) (same : was ≡ wire) where
  pub opened_by : k < length S.vats → ((w : Vats) (p : Program) → slice_get S.vats k ≡ Some p → IsWritten S names was held h w c → OpensSteadily S k p w → IsCourse S names was held after r (open_member S k p w (slice_get w.members k)) d)
      → OpenedBy S (Comes (λ (w : Vats). IsWritten S names wire held h w c)) k → OpenedBy S (λ (x : Course). IsCourse S names wire held after r x d) (k + 1)
  opened_by less opens o =
      opened_next S (λ (w : Vats). IsWritten S names wire held h w c) (λ (x : Course). IsCourse S names wire held after r x d) k steady less
      (λ w p there at fine. subst (λ (b : Bool). IsCourse S names b held after r (open_member S k p w (slice_get w.members k)) d) same
      (opens w p there (subst (λ (b : Bool). IsWritten S names b held h w c) (sym same) at) fine)) o

  pub stepped_by : (from : Vats) → open_from S zero S.vats (begins S) ≡ Runs from → k < length S.schedule → (x : TheirEntry) (xs : List TheirEntry) → S.schedule ≡ map machine_entry xs → slice_get xs k ≡ Some x
      → ((w : Vats) → IsWritten S names was held h w c → StepsSteadily S (machine_entry x) (k + 1) w → IsCourse S names was held after r (step S (machine_entry x) (k + 1) w) d)
      → SteppedBy S from (Comes (λ (w : Vats). IsWritten S names wire held h w c)) k → SteppedBy S from (λ (y : Course). IsCourse S names wire held after r y d) (k + 1)
  stepped_by from opened less x xs read there steps o =
      stepped_next S from (λ (w : Vats). IsWritten S names wire held h w c) (λ (y : Course). IsCourse S names wire held after r y d) k steady opened less
      (steps_by S (λ (w : Vats). IsWritten S names wire held h w c) (λ (y : Course). IsCourse S names wire held after r y d) k x xs read there
      (λ w at fine. subst (λ (b : Bool). IsCourse S names b held after r (step S (machine_entry x) (k + 1) w) d) same
      (steps w (subst (λ (b : Bool). IsWritten S names b held h w c) (sym same) at) fine))) o

-- behind the openings
pub goes_behind : (S : Script) (names : List Words) (wire : Bool) (held after : Option (List ℕ)) (r : Result (Unit {0}) Halt) (d : World) (w : Vats) → open_from S zero S.vats (begins S) ≡ Runs w
    → GoesTo S names wire held after r (steps_from S S.schedule 1 w) d → GoesTo S names wire held after r (course_of S) d
goes_behind S names wire held after r d w opened goes =
    subst (λ (c : Course). GoesTo S names wire held after r c d) (sym (runs_on (open_from S zero S.vats (begins S)) (steps_from S S.schedule 1) w opened)) goes
