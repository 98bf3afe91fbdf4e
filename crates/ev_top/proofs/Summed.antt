-- What is due for a summary, by the events of a run and how it ended.
use Rattle.std.proofs.Common.{◌≡◌, ℕ, ◌+◌, List, length, refl, sym, ap, ◌∙◌}
use Rattle.std.proofs.lemmas.List.{length-map}
use Rattle.def_event.specs.declared.event.Event.{Event as ShownEvent}
use Rattle.def_machine.specs.State.{Stop, Fuel, Deep, Repeated, Astray}
use Rattle.def_run.specs.Text.{draws_of, history_of, stop_line, stop_text}
use Rattle.def_run.specs.World as machine
use Rattle.def_run.specs.World.{World, Goes, Stopped}
use Rattle.def_run.specs.Numbers as numbers
use Rattle.def_run.specs.Numbers.{Course, Runs, Halts}
use Rattle.law_frame.specs.Local.Mirrors.{RunMirrors}
use Rattle.def_run.specs.Steady.{RunsSteadily}
use Rattle.law_schedule.specs.Scripts.{machine_entry, tree_at}
use Rattle.law_accepted.proofs.Meets.{meets}
use Rattle.ev_reader.specs.declared.accepted.Scoped.{Scoped}
use Rattle.ev_script.specs.Rules.{IsAdmitted}
use Rattle.ev_script.specs.declared.script.Script.{Script}
use Rattle.ev_world.proofs.Wholes.{many_are}
use Rattle.ev_world.specs.Events.{events_of}
use Rattle.ev_world.specs.Running.{end_by, end_of, script_of}
use Rattle.ev_world.specs.declared.run.RunEnd.{RunEnd}
use Rattle.ev_top.specs.RunDue.{IsDueOfTrees}
use Rattle.ev_top.specs.RunEnds.{status_by}
use Rattle.ev_top.specs.Ends.{summed_by}
use Rattle.ev_top.specs.Machine.{greatest_depth}
use Rattle.ev_top.specs.Programs.{trees_of}
use Rattle.ev_top.specs.Summary.{steps_of, summary_by, summary_of}
use Rattle.ev_io.specs.declared.status.Status.{Status}
use Rattle.ev_top.proofs.Ended.{due_text, told_end}
use Rattle.ev_top.proofs.Steady.{runs_are_mirrored, runs_are_steady}

-- where a run stopped
summed_stop : (events : List ShownEvent) (steps : ℕ) (c : Stop) (k : ℕ) (w : World) → summed_by events steps (end_by c k) ≡ stop_text (Stopped c k w)
unfolding stop_text stop_line
summed_stop events steps Fuel k w = refl
summed_stop events steps Deep k w = refl
summed_stop events steps (Repeated i j) k w = refl
summed_stop events steps Astray k w = refl

-- what the run in numbers comes to is what the machine's comes to
summed_same : (theirs : machine.Script) (r : machine.Run) (c : Course) → RunMirrors r c → summed_by (events_of c) (steps_of theirs) (end_of c) ≡ summary_by theirs r
unfolding draws_of history_of
summed_same theirs (Goes w) (Runs W) h = rw (h.drawn, h.history) refl
summed_same theirs (Stopped c k w) (Halts d n W) (stops, steps, drawn, history) =
    ap (λ s. summed_by (events_of (Halts d n W)) (steps_of theirs) (end_by s n)) (sym stops)
    ∙ ap (λ i. summed_by (events_of (Halts d n W)) (steps_of theirs) (end_by c i)) (sym steps)
    ∙ summed_stop (events_of (Halts d n W)) (steps_of theirs) c k w
summed_same theirs (Goes w) (Halts d n W) h = absurd h
summed_same theirs (Stopped c k w) (Runs W) h = absurd h

-- as many steps as the script that was read has vats and entries
steps_are : (script : Script) (programs : List Scoped) → length script.vats + length script.schedule ≡ steps_of (script_of script programs greatest_depth)
steps_are script programs =
    ap (λ (n : ℕ). n + length script.schedule) (sym (many_are script programs greatest_depth))
    ∙ ap (λ (n : ℕ). length (script_of script programs greatest_depth).vats + n) (sym (length-map script.schedule machine_entry))

-- what is due for a summary that was made of these events of a run that ended so
pub script_summed : (script : Script) (programs : List Scoped) (e : RunEnd) (events : List ShownEvent) (status : Status) (written : List ℕ) → IsAdmitted script
    → (RunsSteadily (script_of script programs greatest_depth) → e ≡ end_of (numbers.run (script_of script programs greatest_depth)))
    → (RunsSteadily (script_of script programs greatest_depth) → events ≡ events_of (numbers.run (script_of script programs greatest_depth)))
    → status ≡ status_by script e → written ≡ summed_by events (length script.vats + length script.schedule) e
    → IsDueOfTrees summary_of script (trees_of programs) status written
script_summed script programs e events status written admitted is are ended same =
    let theirs = script_of script programs greatest_depth in
    let lawful = meets script admitted greatest_depth (tree_at (trees_of programs)) in
    let steady = runs_are_steady theirs lawful in
    let mirrors = runs_are_mirrored theirs lawful in
    let told = same ∙ ap (λ (n : ℕ). summed_by events n e) (steps_are script programs) ∙ ap (λ (es : List ShownEvent). summed_by es (steps_of theirs) e) (are steady)
    ∙ ap (summed_by (events_of (numbers.run theirs)) (steps_of theirs)) (is steady) ∙ summed_same theirs (machine.run theirs) (numbers.run theirs) mirrors in (
      ended ∙ ap (status_by script) (is steady) ∙ told_end script (summary_of theirs) (machine.run theirs) (numbers.run theirs) mirrors,
      told ∙ due_text script (summary_of theirs) (machine.run theirs),
    )
