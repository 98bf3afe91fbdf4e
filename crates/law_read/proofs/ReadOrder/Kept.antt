-- What is read of the text of a run that is in order is in order.
use Rattle.std.proofs.Common.{◌≤◌, ◌++◌, ℕ, zero, List, [], ◌∷◌, map, length, Some, None, Ok, sym, subst, arith}
use Rattle.def_event.specs.declared.event.Event.{Event}
use Rattle.def_event.specs.Lines.{render}
use Rattle.def_machine.specs.State.{Fuel}
use Rattle.def_run.specs.World.{run}
use Rattle.def_run.specs.Text.{stop_line, vat_names}
use Rattle.def_event.specs.Order.{IsOrdered, JudgesOrder}
use Rattle.def_event.specs.declared.trace.Trace.{Trace}
use Rattle.ev_script.proofs.Admitted.{read_admitted}
use Rattle.ev_trace_words.specs.Laws.{AreNames}
use Rattle.ev_trace.specs.Reading.{read_text}
use Rattle.law_read.proofs.ReadScripts.AcceptedTexts.{vats_count}
use Rattle.law_read.specs.ReadTexts.Runs.{shown_of}
use Rattle.law_read.proofs.ReadTexts.FewFound.{only_vats}
use Rattle.law_read.proofs.ReadTexts.ScriptsRead.{are_names, events_of_scripts}
use Rattle.law_read.proofs.ReadTexts.Stops.{stop_lines}
use Rattle.law_read.proofs.ReadTexts.WholeTexts.{texts_read}
use Rattle.law_schedule.specs.Scripts.{machine_script}
use Rattle.law_text.specs.Text.Feeds.{AllOf}
use Rattle.law_text.specs.Text.Runs.{events_of}
use Rattle.law_text.proofs.RunTexts.Runs.{named}
use Rattle.law_trace.specs.Trace.Placed.{numbered}
use Rattle.law_trace.specs.Trace.Readable.{Below, IsRead}
use Rattle.law_trace.specs.Trace.Seen.{seen}
use Rattle.law_trace.specs.Trace.Texts.{found}
use Rattle.law_trace.proofs.UsesSeen.ReadAgain.{read_as, stopped_text}
use Rattle.law_trace.proofs.Seen.ReadAgain.{order_unframed, order_as_read}
use Rattle.law_read.proofs.ReadUses.Judged.{same_trace, text_read}
use Rattle.law_read.proofs.ReadScripts.Meets.{accepted}
use Rattle.law_trace.proofs.Told.Whole.{shown_runs}
use Rattle.law_read.specs.ReadOrder.Order.{OrderIsKeptAsRead, TextsKeepOrder}

-- It is said of events that end with any line: so they may be taken as those of a run that stopped, which asks nothing of the last event.
seen_in_order : (names : List (List ℕ)) (es : List Event) → AreNames names → length names ≤ 16 → AllOf (IsRead (Below names)) es → IsOrdered es → IsOrdered (map seen (numbered names es))
seen_in_order names es are small h ordered =
    let stop = stop_lines Fuel 0 (λ e. cc) tt (omega arith) in
    let few = (only_vats names es are h).1 in
    let r = stopped_text names are es (stop_line Fuel 0) h (omega (arith, few, small)) stop.one stop.read in
    let t = texts_read.stopped names es (stop_line Fuel 0) are small h stop.utf8 stop.one stop.read in
    let text : List ℕ = render names es ++ (stop_line Fuel 0 ++ 10 ∷ []) in
    let told : Trace = record { history = map seen (numbered names es); names = found names es; stop = Some (stop_line Fuel 0) } in
    subst (λ (u : Trace). IsOrdered u.history) (same_trace (read_text text) (read_as names are es (Some (stop_line Fuel 0))) told r (text_read text told t)) (order_as_read names are es ordered)

pub kept_as_read : OrderIsKeptAsRead
kept_as_read bytes s e depth tree are ordered =
    let m = machine_script depth tree s in
    let r = run m in
    let admitted = read_admitted bytes (Ok s) e in
    let small : length (vat_names m) ≤ 16 = subst (λ n. n ≤ 16) (sym (named m)) (subst (λ n. n ≤ 16) (sym (vats_count tree zero s.vats)) admitted.vats.0) in
    seen_in_order (vat_names m) (shown_of r) (are_names depth tree s admitted) small (events_of_scripts bytes s e depth tree are) (order_unframed (events_of r) ordered)

pub order_kept : TextsKeepOrder
order_kept bytes s e depth tree are ordered =
    let m = machine_script depth tree s in
    let meets = accepted bytes s e depth tree in
    let shown : JudgesOrder (events_of (run m)) None = shown_runs m meets.0 meets.2 ordered in
    (shown, kept_as_read bytes s e depth tree are shown)
