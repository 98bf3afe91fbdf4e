-- The whole run in the code is the run in numbers: its end, and its text.
use Rattle.std.proofs.Common.{◌≡◌, ℕ, zero, suc, Bool, true, false, List, [], ◌∷◌, Result, Err, length, map, refl, sym, ap, subst, ◌∙◌}
use Rattle.def_event.specs.Lines.{render}
use Rattle.def_event.specs.declared.event.Event.{Event as ShownEvent}
use Rattle.def_kernel.specs.declared.node.Node.{Node}
use Rattle.def_run.specs.Numbers.{Course, Runs, Halts, Vats, begins, close, open_from, run, steps_from, then_runs}
use Rattle.def_run.specs.LocalText.{text, wire_text}
use Rattle.def_machine.specs.State as machine
use Rattle.def_machine.specs.Values.{Words}
use Rattle.def_run.specs.Text.{shown_events, vat_names}
use Rattle.def_run.specs.World.{Program, Script}
use Rattle.ev_reader.specs.declared.accepted.Scoped.{Scoped}
use Rattle.ev_script.specs.declared.script.Script.{Script as TheirScript}
use Rattle.ev_script.specs.declared.script.VatScript.{VatScript}
use Rattle.ev_world.proofs.Loops.{halts_on, runs_on}
use Rattle.ev_world.specs.Ends.{course_of, stopped_text}
use Rattle.ev_world.specs.Running.{script_of, told_text, tree_in}
use Rattle.ev_world.specs.Standing.{Comes, RunIs, told_so}
use Rattle.ev_world.specs.declared.world.Halted.{Halted}
use Rattle.ev_world.specs.declared.world.World.{World}
use Rattle.law_schedule.specs.Scripts.{machine_vats}

-- ---- the openings, and then the entries

pub opened_then : (S : Script) (r : Result (Unit {0}) Halted) (At : Vats → Type 0) (c : World) → Comes At (open_from S zero S.vats (begins S))
    → ((w : Vats) → open_from S zero S.vats (begins S) ≡ Runs w → At w → RunIs S r (steps_from S S.schedule 1 w) c) → RunIs S r (course_of S) c
opened_then S r At c came steps =
    subst (λ (d : Course). RunIs S r d c) (sym (runs_on (open_from S zero S.vats (begins S)) (steps_from S S.schedule 1) came.0 came.1.0)) (steps came.0 came.1.0 came.1.1)

pub halted_first : (S : Script) (h : Halted) (c : World) → RunIs S (Err h) (open_from S zero S.vats (begins S)) c → RunIs S (Err h) (course_of S) c
halted_first S h c r = halts_on h.stop h.step c.wire (open_from S zero S.vats (begins S)) (steps_from S S.schedule 1) c.history r

-- ---- the whole

joined : (c : Course) (f g : Vats → Course) → then_runs c (λ w. then_runs (f w) g) ≡ then_runs (then_runs c f) g
unfolding then_runs
joined (Runs w) f g = refl
joined (Halts c k w) f g = refl

whole_is : (S : Script) → run S ≡ then_runs (course_of S) (close S)
unfolding run
whole_is S = joined (open_from S zero S.vats (begins S)) (steps_from S S.schedule 1) (close S)

pub run_goes : (S : Script) (w y : Vats) → course_of S ≡ Runs w → close S w ≡ Runs y → run S ≡ Runs y
run_goes S w y e f = whole_is S ∙ runs_on (course_of S) (close S) w e ∙ f

pub halts_whole : (c : Course) (f : Vats → Course) (s : machine.Stop) (k : ℕ) (w : Vats) → c ≡ Halts s k w → then_runs c f ≡ Halts s k w
unfolding then_runs
halts_whole c f s k w e = rw e refl

pub run_halts : (S : Script) (s : machine.Stop) (k : ℕ) (w : Vats) → course_of S ≡ Halts s k w → run S ≡ Halts s k w
run_halts S s k w e = whole_is S ∙ halts_whole (course_of S) (close S) s k w e

-- ---- the names of the vats

names_from : (tree : ℕ → List Node) (place : ℕ) (vats : List VatScript) → map (λ (p : Program). p.name) (machine_vats tree place vats) ≡ map (λ (v : VatScript). v.name) vats
names_from tree place [] = refl
names_from tree place (v ∷ vs) = ap (λ (names : List Words). v.name ∷ names) (names_from tree (suc place) vs)

pub names_are : (script : TheirScript) (programs : List Scoped) (depth : ℕ) → map (λ (v : VatScript). v.name) script.vats ≡ vat_names (script_of script programs depth)
unfolding vat_names
names_are script programs depth = sym (names_from (tree_in programs) zero script.vats)

many_from : (tree : ℕ → List Node) (place : ℕ) (vats : List VatScript) → length (machine_vats tree place vats) ≡ length vats
many_from tree place [] = refl
many_from tree place (v ∷ vs) = ap suc (many_from tree (suc place) vs)

pub many_are : (script : TheirScript) (programs : List Scoped) (depth : ℕ) → length (script_of script programs depth).vats ≡ length script.vats
many_are script programs depth = many_from (tree_in programs) zero script.vats

-- ---- the text

pub text_goes : (S : Script) (wire : Bool) (y : Vats) (told : List ShownEvent) → run S ≡ Runs y → told ≡ told_so wire (shown_events y.drawn y.history) → render (vat_names S) told ≡ told_text wire S
unfolding text wire_text
text_goes S true y told e t = ap (λ (es : List ShownEvent). render (vat_names S) es) t ∙ sym (ap (λ (c : Course). wire_text S c) e)
text_goes S false y told e t = ap (λ (es : List ShownEvent). render (vat_names S) es) t ∙ sym (ap (λ (c : Course). text S c) e)

pub text_halts : (S : Script) (wire : Bool) (s : machine.Stop) (k : ℕ) (w : Vats) (told : List ShownEvent) → run S ≡ Halts s k w → told ≡ told_so wire (shown_events w.drawn w.history)
    → stopped_text (vat_names S) told s k ≡ told_text wire S
unfolding text wire_text
text_halts S true s k w told e t = ap (λ (es : List ShownEvent). stopped_text (vat_names S) es s k) t ∙ sym (ap (λ (c : Course). wire_text S c) e)
text_halts S false s k w told e t = ap (λ (es : List ShownEvent). stopped_text (vat_names S) es s k) t ∙ sym (ap (λ (c : Course). text S c) e)
