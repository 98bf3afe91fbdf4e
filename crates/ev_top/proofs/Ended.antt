-- How a run ended and what was written of it is what is due.
use Rattle.std.proofs.Common.{◌≡◌, inl, inr, ℕ, Bool, true, false, List, Ok, Option, refl, sym, ap, ◌∙◌}
use Rattle.std.specs.Io.KnownBytes.{Appends}
use Rattle.def_machine.specs.State.{Stop, Fuel, Deep, Repeated, Astray}
use Rattle.def_run.specs.World as machine
use Rattle.def_run.specs.World.{World, Goes, Stopped}
use Rattle.def_run.specs.Numbers as numbers
use Rattle.def_run.specs.Numbers.{Course, Runs, Halts}
use Rattle.law_frame.specs.Local.Mirrors.{RunMirrors}
use Rattle.law_frame.proofs.Local.Texts.{texts_mirror}
use Rattle.def_run.specs.Steady.{RunsSteadily}
use Rattle.law_schedule.specs.Scripts.{tree_at}
use Rattle.law_read.specs.ReadScripts.Accepted.{MeetsTheLaws}
use Rattle.law_accepted.proofs.Meets.{meets}
use Rattle.ev_reader.specs.declared.accepted.Scoped.{Scoped}
use Rattle.ev_script.specs.Rules.{IsAdmitted}
use Rattle.ev_script.specs.declared.script.Script.{Script}
use Rattle.ev_world.specs.Running.{end_by, end_of, script_of, told_text}
use Rattle.ev_world.specs.declared.run.RunEnd.{RunEnd}
use Rattle.ev_top.specs.Machine.{greatest_depth, text_of}
use Rattle.ev_top.specs.Programs.{trees_of}
use Rattle.ev_world.specs.Writing.{AppendsFront, WritesRun}
use Rattle.ev_io.specs.Debt.{Debt}
use Rattle.ev_top.specs.RunDue.{due_of_run, due_of_machine}
use Rattle.ev_io.specs.Paying.{Settles}
use Rattle.ev_top.specs.RunEnds.{status_by}
use Rattle.ev_io.specs.Words.{IsPrefix}
use Rattle.ev_io.specs.declared.status.Status.TheVariants.{Memory, WriteFault}
use Rattle.ev_top.proofs.Steady.{runs_are_mirrored, runs_are_steady}

-- the end of a run that stopped tells the status that is due
told_stop : (script : Script) (text : List ℕ) (c : Stop) (k : ℕ) (w : World) → status_by script (end_by c k) ≡ (due_of_run script text (Stopped c k w)).status
told_stop script text Fuel k w = refl
told_stop script text Deep k w = refl
told_stop script text (Repeated i j) k w = refl
told_stop script text Astray k w = refl

-- the end of a run in numbers tells the status that is due for the machine's
pub told_end : (script : Script) (text : List ℕ) (r : machine.Run) (c : Course) → RunMirrors r c → status_by script (end_of c) ≡ (due_of_run script text r).status
told_end script text (Goes w) (Runs W) h = refl
told_end script text (Stopped c k w) (Halts d n W) (stops, steps, drawn, history) =
    ap (λ s. status_by script (end_by s n)) (sym stops) ∙ ap (λ i. status_by script (end_by c i)) (sym steps) ∙ told_stop script text c k w
told_end script text (Goes w) (Halts d n W) h = absurd h
told_end script text (Stopped c k w) (Runs W) h = absurd h

-- whatever the end, the text that is due is the run's
pub due_text : (script : Script) (text : List ℕ) (r : machine.Run) → text ≡ (due_of_run script text r).text
due_text script text (Goes w) = refl
due_text script text (Stopped Fuel k w) = refl
due_text script text (Stopped Deep k w) = refl
due_text script text (Stopped (Repeated i j) k w) = refl
due_text script text (Stopped Astray k w) = refl

-- and so does its text
told_same : (wire : Bool) (theirs : machine.Script) → RunMirrors (machine.run theirs) (numbers.run theirs) → told_text wire theirs ≡ text_of wire theirs
told_same true theirs h = (texts_mirror theirs (machine.run theirs) (numbers.run theirs) h).1
told_same false theirs h = (texts_mirror theirs (machine.run theirs) (numbers.run theirs) h).0

-- ---- a script that is read, whose programs are these

module _ (wire : Bool) (script : Script) (programs : List Scoped) (admitted : IsAdmitted script) where
  abbrev theirs : machine.Script
  theirs = script_of script programs greatest_depth

  abbrev debt : Debt
  debt = due_of_machine (text_of wire) script theirs

  lawful : MeetsTheLaws theirs
  lawful = meets script admitted greatest_depth (tree_at (trees_of programs))

  steady : RunsSteadily theirs
  steady = runs_are_steady theirs lawful

  mirrored : RunMirrors (machine.run theirs) (numbers.run theirs)
  mirrored = runs_are_mirrored theirs lawful

  status_told : (e : RunEnd) → e ≡ end_of (numbers.run theirs) → status_by script e ≡ debt.status
  status_told e is = ap (status_by script) is ∙ told_end script (text_of wire theirs) (machine.run theirs) (numbers.run theirs) mirrored

  text_told : told_text wire theirs ≡ debt.text
  text_told = told_same wire theirs mirrored ∙ due_text script (text_of wire theirs) (machine.run theirs)

  -- it was written to its end
  pub run_settles : (held held' : Option (List ℕ)) (e : RunEnd) → (RunsSteadily theirs → WritesRun theirs wire held held' (Ok e)) → Settles held held' debt (status_by script e)
  run_settles held held' e writes =
      let h = writes steady in inl (told_text wire theirs, h.1, inl (status_told e h.0, text_told))

  front_told : (held held' : Option (List ℕ)) → AppendsFront held held' (told_text wire theirs) → (written : List ℕ) × Appends held held' written × IsPrefix written debt.text
  front_told held held' (t, appends, (rest, e)) = (t, appends, (rest, sym text_told ∙ e))

  -- a write failed
  pub fault_settles : (held held' : Option (List ℕ)) → (RunsSteadily theirs → AppendsFront held held' (told_text wire theirs)) → Settles held held' debt WriteFault
  fault_settles held held' writes = let f = front_told held held' (writes steady) in inl (f.0, f.1, inr (refl, f.2))

  -- memory ran out
  pub want_settles : (held held' : Option (List ℕ)) → (RunsSteadily theirs → AppendsFront held held' (told_text wire theirs)) → Settles held held' debt Memory
  want_settles held held' writes = let f = front_told held held' (writes steady) in inr (refl, f.0, f.1, f.2)
