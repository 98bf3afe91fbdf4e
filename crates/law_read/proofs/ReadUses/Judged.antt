-- What is read of the text of a run is judged as its history.
use Rattle.std.proofs.Common.{◌≡◌, ◌≤◌, ◌++◌, ℕ, zero, Bool, true, false, if◌then◌else◌, List, [], ◌∷◌, map, length, Some, None, sym, subst, arith}
use Rattle.std.specs.Prelude.{Result, Ok}
use Rattle.std.specs.Str.{is_utf8}
use Rattle.def_event.specs.declared.event.Event.{Event}
use Rattle.def_event.specs.Lines.{render}
use Rattle.def_machine.specs.State.{Fuel}
use Rattle.def_run.specs.World.{run}
use Rattle.def_run.specs.Text.{stop_line, vat_names}
use Rattle.def_event.specs.declared.trace.Trace.{Trace}
use Rattle.ev_script.specs.Script.{rule, ◌>>=◌}
use Rattle.ev_script.proofs.Admitted.{read_admitted}
use Rattle.ev_trace_words.specs.Laws.{AreNames}
use Rattle.ev_trace.specs.Reading.{read, read_text}
use Rattle.law_read.proofs.ReadScripts.AcceptedTexts.{vats_count}
use Rattle.law_read.specs.ReadTexts.Runs.{shown_of, trace_of}
use Rattle.law_read.proofs.ReadTexts.FewFound.{only_vats}
use Rattle.law_read.proofs.ReadTexts.ScriptsRead.{are_names, events_of_scripts}
use Rattle.law_read.proofs.ReadTexts.Stops.{stop_lines}
use Rattle.law_read.proofs.ReadTexts.WholeTexts.{texts_read}
use Rattle.law_schedule.specs.Scripts.{machine_script}
use Rattle.law_text.specs.Text.Feeds.{AllOf}
use Rattle.law_text.specs.Text.Runs.{events_of}
use Rattle.law_text.proofs.RunTexts.Runs.{named}
use Rattle.law_trace.specs.Trace.Placed.{numbered}
use Rattle.law_trace.specs.Trace.Readable.{Below, IsRead}
use Rattle.law_trace.specs.Trace.Seen.{seen}
use Rattle.law_trace.specs.Trace.Texts.{found}
use Rattle.law_trace.specs.UsesSeen.Alike.{UsesAreSame}
use Rattle.law_trace.proofs.UsesSeen.Joining.{hold_same, hold_through}
use Rattle.law_trace.proofs.UsesSeen.ReadAgain.{read_alike}
use Rattle.law_trace.proofs.UsesSeen.SeenAlike.{uses_without_frames}
use Rattle.law_read.specs.ReadUses.Uses.{UsesAreJudgedAsRead}

-- what bytes say is what their text says
text_or : (bytes : List ℕ) (is : Bool) (t : Trace) → (rule 41 (if is then Some bytes else None) >>= (λ text. read_text text)) ≡ Ok t → read_text bytes ≡ Ok t
text_or bytes true t e = e
text_or bytes false t e = cc

pub text_read : (bytes : List ℕ) (t : Trace) → read bytes ≡ Ok t → read_text bytes ≡ Ok t
text_read bytes t e = text_or bytes (is_utf8 bytes) t e

pub same_trace : (r : Result Trace ℕ) (t u : Trace) → r ≡ Ok t → r ≡ Ok u → t ≡ u
same_trace r t u e f = cc

-- It is said of events that end with any line: so they may be taken as those of a run that stopped, which asks nothing of the last event.
seen_alike : (names : List (List ℕ)) (es : List Event) → AreNames names → length names ≤ 16 → AllOf (IsRead (Below names)) es → UsesAreSame es (map seen (numbered names es))
seen_alike names es are small h =
    let stop = stop_lines Fuel 0 (λ e. cc) tt (omega arith) in
    let few = (only_vats names es are h).1 in
    let r = read_alike.stopped names es (stop_line Fuel 0) are h (omega (arith, few, small)) stop.one stop.read in
    let t = texts_read.stopped names es (stop_line Fuel 0) are small h stop.utf8 stop.one stop.read in
    let text : List ℕ = render names es ++ (stop_line Fuel 0 ++ 10 ∷ []) in
    let told : Trace = record { history = map seen (numbered names es); names = found names es; stop = Some (stop_line Fuel 0) } in
    subst (λ (u : Trace). UsesAreSame es u.history) (same_trace (read_text text) r.0 told r.1 (text_read text told t)) r.2

pub judged_as_read : UsesAreJudgedAsRead
judged_as_read bytes s e depth tree are =
    let m = machine_script depth tree s in
    let r = run m in
    let admitted = read_admitted bytes (Ok s) e in
    let small : length (vat_names m) ≤ 16 = subst (λ n. n ≤ 16) (sym (named m)) (subst (λ n. n ≤ 16) (sym (vats_count tree zero s.vats)) admitted.vats.0) in
    hold_through (events_of r) (shown_of r) (trace_of m r).history (uses_without_frames (events_of r))
    (hold_same (shown_of r) (trace_of m r).history (seen_alike (vat_names m) (shown_of r) (are_names depth tree s admitted) small (events_of_scripts bytes s e depth tree are)))
