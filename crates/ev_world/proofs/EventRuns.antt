-- The end of a run in the code that gives its events is that of the run in numbers, and so are the events.
use Rattle.std.proofs.Common.{◌≡◌, ℕ, Bool, false, List, Ok, sym, ap, ◌∙◌}
use Rattle.def_event.specs.declared.event.Event.{Event as ShownEvent}
use Rattle.def_run.specs.Numbers.{Vats, Runs, Halts, close, run}
use Rattle.def_machine.specs.State as machine
use Rattle.def_run.specs.Text.{shown_events, vat_names}
use Rattle.def_run.specs.World.{Script}
use Rattle.ev_resident.specs.declared.VatStop.{VatStop}
use Rattle.ev_resident.specs.declared.VatStop.TheVariants.{Fuel, Deep, WordRepeated, Astray, Memory}
use Rattle.ev_step_text.specs.Accounts.{IsAccount}
use Rattle.ev_step_text.specs.declared.account.Account.{Account}
use Rattle.ev_world.proofs.Wholes.{run_goes, run_halts}
use Rattle.ev_world.specs.Ends.{course_of}
use Rattle.ev_world.specs.Events.{EndsAs, events_of}
use Rattle.ev_world.specs.Running.{end_by, end_of}
use Rattle.ev_world.specs.Standing.{Comes, HaltsAs, HaltsWith, IsWorld, told_so}
use Rattle.ev_world.specs.declared.run.RunEnd.{RunEnd}
use Rattle.ev_world.specs.declared.run.RunEnd.TheVariants as end
use Rattle.ev_world.specs.declared.world.World.{World}

-- the answer tells the run in numbers
abbrev IsRun : Script → List ShownEvent → RunEnd → Type 0
IsRun S told e = (told ≡ events_of (run S)) × (e ≡ end_of (run S))

-- whatever an account is of, these are its events
abbrev Holds : Account → List ShownEvent → Type 0
Holds told events = (names : List (List ℕ)) (es : List ShownEvent) → IsAccount names told es → events ≡ es

halted_with : (S : Script) (was : Bool) (s : machine.Stop) (k : ℕ) (told : Account) (events : List ShownEvent) (e : RunEnd) → was ≡ false → HaltsWith s k was (course_of S) told → Holds told events
    → e ≡ end_by s k → IsRun S events e
halted_with S was s k told events e off (w, (halts, said)) holds is =
    let whole : run S ≡ Halts s k w = run_halts S s k w halts in (
      holds said.names (told_so was (shown_events w.drawn w.history)) said.is ∙ ap (λ (b : Bool). told_so b (shown_events w.drawn w.history)) off ∙ sym (ap events_of whole),
      is ∙ sym (ap end_of whole),
    )

-- a run that stopped
pub halted_is : (S : Script) (was : Bool) (c : VatStop) (k : ℕ) (told : Account) (events : List ShownEvent) (e : RunEnd) → was ≡ false → HaltsAs c k was (course_of S) told → Holds told events → EndsAs c k (Ok e)
    → IsRun S events e
halted_is S was Fuel k told events e off h holds is = halted_with S was machine.Fuel k told events e off h holds is
halted_is S was Deep k told events e off h holds is = halted_with S was machine.Deep k told events e off h holds is
halted_is S was (WordRepeated i j) k told events e off h holds is = halted_with S was (machine.Repeated i j) k told events e off h holds is
halted_is S was Astray k told events e off h holds is = halted_with S was machine.Astray k told events e off h holds is
halted_is S was Memory k told events e off h holds is = absurd is

-- a run that came to its end
pub ended_is : (S : Script) (was : Bool) (c : World) (told : Account) (events : List ShownEvent) → was ≡ false → Comes (λ (w : Vats). IsWorld S w c) (course_of S)
    → ((w : Vats) → IsWorld S w c → Comes (λ (y : Vats). IsAccount (vat_names S) told (told_so was (shown_events y.drawn y.history))) (close S w)) → Holds told events → IsRun S events end.Done
ended_is S was c told events off (w, (went, at)) closes holds =
    let closed = closes w at in
    let whole : run S ≡ Runs closed.0 = run_goes S w closed.0 went closed.1.0 in (
      holds (vat_names S) (told_so was (shown_events closed.0.drawn closed.0.history)) closed.1.1 ∙ ap (λ (b : Bool). told_so b (shown_events closed.0.drawn closed.0.history)) off ∙ sym (ap events_of whole),
      sym (ap end_of whole),
    )
