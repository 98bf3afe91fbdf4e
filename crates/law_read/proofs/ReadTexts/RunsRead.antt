-- The text of a run is read again.
use Rattle.std.proofs.Common.{◌≡◌, ◌≤◌, ◌<◌, ◌+◌, ◌^◌, ◌++◌, ℕ, Bool, true, false, cond, List, [], ◌∷◌, None, length, map, filter, refl, sym, ◌∙◌, ap, subst, append_assoc, arith}
use Rattle.std.specs.Prelude.{Ok}
use Rattle.std.proofs.lemmas.List.{append-nil}
use Rattle.def_event.specs.declared.event.Event.{Event as ShownEvent}
use Rattle.def_event.specs.declared.event.Event.TheVariants as event
use Rattle.def_event.specs.Lines.{is_no_frame, render}
use Rattle.def_run.specs.World as world
use Rattle.def_run.specs.World.{Script, Event, Ends, World, Run, Goes, Stopped, run}
use Rattle.def_run.specs.Shown.{shown_event}
use Rattle.def_run.specs.Text.{vat_names, shown_events, history_of, draws_of, stop_text, stop_line, text}
use Rattle.law_text.specs.Text.Feeds.{AllOf}
use Rattle.law_text.proofs.RunTexts.Runs.{named, run_history, drawn_of}
use Rattle.ev_trace_words.specs.Laws.{AreNames}
use Rattle.ev_trace.specs.Reading.{read}
use Rattle.law_trace.specs.Trace.Placed.{numbered}
use Rattle.law_trace.specs.Trace.Readable.{Below, IsRead}
use Rattle.law_trace.specs.Trace.Seen.{seen}
use Rattle.law_trace.specs.Trace.Texts.{found}
use Rattle.law_read.specs.ReadTexts.Runs.{EventsOfRunsAreRead, TextsOfRunsAreRead, IsNotAstray, TellsLowOf, shown_of, trace_of}
use Rattle.law_read.proofs.ReadTexts.EventsRead.{events_read}
use Rattle.law_read.proofs.ReadTexts.Stops.{IsStopLine, stop_lines, steps_few}
use Rattle.law_read.proofs.ReadTexts.WholeTexts.{texts_read}

pub events_of_runs : EventsOfRunsAreRead
events_of_runs script h b = let r = run script in events_read (vat_names script) (draws_of r) (subst (λ l. length l < 2 ^ 64) (drawn_of r) b.drawn) (history_of r) (run_history script h b.made)

-- ---- a run that goes on to its end ends with `end`

shown_more : (d : List ℕ) (xs ys : List Event) → shown_events d (xs ++ ys) ≡ shown_events d xs ++ shown_events d ys
unfolding shown_events
shown_more d [] ys = refl
shown_more d (x ∷ xs) ys = ap (λ es. shown_event d x ++ es) (shown_more d xs ys) ∙ sym (append_assoc (shown_event d x) (shown_events d xs) (shown_events d ys))

kept_more : (xs ys : List ShownEvent) → filter is_no_frame (xs ++ ys) ≡ filter is_no_frame xs ++ filter is_no_frame ys
kept_more [] ys = refl
kept_more (x ∷ xs) ys = by (is_no_frame x) (kept_more xs ys)
  where
    by : (t : Bool) → filter is_no_frame (xs ++ ys) ≡ filter is_no_frame xs ++ filter is_no_frame ys
        → cond t (x ∷ filter is_no_frame (xs ++ ys)) (filter is_no_frame (xs ++ ys)) ≡ cond t (x ∷ filter is_no_frame xs) (filter is_no_frame xs) ++ filter is_no_frame ys
    by true e = ap (λ es. x ∷ es) e
    by false e = e

shown_end : (d : List ℕ) (hs : List Event) → filter is_no_frame (shown_events d (hs ++ Ends ∷ [])) ≡ filter is_no_frame (shown_events d hs) ++ event.End ∷ []
unfolding shown_events shown_event
shown_end d hs = ap (filter is_no_frame) (shown_more d hs (Ends ∷ [])) ∙ kept_more (shown_events d hs) (event.End ∷ [])

same_world : (x y : World) → Goes x ≡ Goes y → x ≡ y
same_world x y e = cc

stopped_goes : (c : _) (k : ℕ) (w y : World) → Stopped c k w ≡ Goes y → ⊥
stopped_goes c k w y e = cc

-- the history ends with that
abbrev EndsSo : World → Type 0
EndsSo w = (hs : List Event) × (w.history ≡ hs ++ Ends ∷ [])

module _ (script : Script) where
  closed_ends : (x w : World) → world.close script x ≡ Goes w → EndsSo w
  unfolding world.close
  closed_ends x w e = (x.history ++ world.left_vats script x.vats ++ world.left_links script x.links, ap (λ (y : World). y.history) (sym (same_world _ w e)))

  then_ends : (r : Run) (f : World → Run) (w : World) → ((x : World) → f x ≡ Goes w → EndsSo w) → world.then_goes r f ≡ Goes w → EndsSo w
  unfolding world.then_goes
  then_ends (Goes x) f w h e = h x e
  then_ends (Stopped c k x) f w h e = absurd (stopped_goes c k x w e)

  run_ends : (w : World) → run script ≡ Goes w → EndsSo w
  unfolding run
  run_ends w e = then_ends _ _ w (λ x f. then_ends _ _ w (λ y g. closed_ends y w g) f) e

  -- ---- reading

  abbrev names : List (List ℕ)
  names = vat_names script

  module _ (are : AreNames names) (few : length names ≤ 16) where
    ended : (w : World) → AllOf (IsRead (Below names)) (shown_of (Goes w)) → EndsSo w → read (text script (Goes w)) ≡ Ok (trace_of script (Goes w))
    unfolding text stop_text history_of draws_of
    ended w h (hs, e) =
        let es = filter is_no_frame (shown_events w.drawn hs) in
        let same : shown_of (Goes w) ≡ es ++ event.End ∷ [] = ap (λ k. filter is_no_frame (shown_events w.drawn k)) e ∙ shown_end w.drawn hs in
        ap read (append-nil (render names (shown_of (Goes w))))
        ∙ subst (λ xs. read (render names xs) ≡ Ok (record { history = map seen (numbered names xs); names = found names xs; stop = None })) (sym same) (texts_read.ended names es are few (subst (AllOf (IsRead (Below names))) same h))

    stopped : (c : _) (k : ℕ) (w : World) → AllOf (IsRead (Below names)) (shown_of (Stopped c k w)) → IsStopLine (stop_line c k) → read (text script (Stopped c k w)) ≡ Ok (trace_of script (Stopped c k w))
    unfolding text stop_text
    stopped c k w h s = texts_read.stopped names (shown_of (Stopped c k w)) (stop_line c k) are few h s.utf8 s.one s.read

    any : length script.vats + length script.schedule < 2 ^ 64 → (r : Run) → run script ≡ r → AllOf (IsRead (Below names)) (shown_of r) → IsNotAstray r → TellsLowOf r → read (text script r) ≡ Ok (trace_of script r)
    any short (Goes w) e h known low = ended w h (run_ends w e)
    any short (Stopped c k w) e h known low = let l = steps_few script c k w e in stopped c k w h (stop_lines c k (known c k w refl) low (omega (arith, l, short)))

pub texts_of_runs : TextsOfRunsAreRead
texts_of_runs script are small short h b known low = any script are (subst (λ n. n ≤ 16) (sym (named script)) small) short (run script) refl (events_of_runs script h b) known low
