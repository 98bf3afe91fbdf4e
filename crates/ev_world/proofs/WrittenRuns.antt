-- What is written of a run is its text, or a front of it.
use Rattle.std.proofs.Common.{◌≡◌, ℕ, zero, ◌+◌, Bool, true, false, List, [], ◌∷◌, ◌++◌, Option, Ok, length, refl, sym, ap, subst, ◌∙◌, append_assoc, append-nil}
use Rattle.std.specs.Prelude.{string_bytes}
use Rattle.std.specs.Io.KnownBytes.{Appends}
use Rattle.std.proofs.KnownBytes.{Appends-nil, Appends-trans}
use Rattle.def_event.specs.Lines.{render}
use Rattle.def_event.specs.declared.event.Event.{Event as ShownEvent}
use Rattle.def_run.specs.Numbers.{Course, Runs, Halts, Vats, begins, close, open_from, run, steps_from, then_runs}
use Rattle.def_machine.specs.State as machine
use Rattle.def_machine.specs.Values.{Words}
use Rattle.def_run.specs.Text.{shown_events, stop_line, vat_names}
use Rattle.def_run.specs.World.{Entry, Program, Script}
use Rattle.ev_resident.specs.declared.VatStop.{VatStop}
use Rattle.ev_resident.specs.declared.VatStop.TheVariants.{Fuel, Deep, WordRepeated, Astray, Memory}
use Rattle.ev_step_text.specs.Accounts.{IsAccount}
use Rattle.ev_step_text.specs.declared.account.Account.{Account}
use Rattle.ev_world.specs.Ends.{StoppedAs, Tells, course_of, line_of_stop}
use Rattle.ev_world.specs.Running.{end_by, end_of, told_text}
use Rattle.ev_world.specs.Standing.{Comes, IsWorld, told_so}
use Rattle.ev_world.specs.Writing.{AppendsFront, EndsAs, IsFront, IsWritten, StopsAs, StopsWith, text_at, text_to, untold}
use Rattle.ev_world.specs.declared.run.RunEnd.TheVariants as end
use Rattle.ev_world.specs.declared.run.Told.{Told}
use Rattle.ev_world.specs.declared.world.World.{World}
use Rattle.ev_world.specs.declared.writing.Halt.{Halt}
use Rattle.ev_world.specs.declared.writing.Halt.TheVariants.{Stopped, Unwritten}
use Rattle.ev_world.proofs.Fronts.{closes_as, opened_text, stepped_text}
use Rattle.ev_world.proofs.Loops.{OpenedBy, SteppedBy, openings_joined, runs_on, steps_joined}
use Rattle.ev_world.proofs.Wholes.{halts_whole, run_goes, text_goes, text_halts}
use Rattle.ev_world.proofs.WrittenSteps.{behind, front_behind, went_on}
use Rattle.def_run.specs.Steady.{RunsSteadily}

-- ---- the start

none_written : (names : List Words) (wire : Bool) (ds : List ℕ) → render names (told_so wire (shown_events ds [])) ≡ []
unfolding shown_events
none_written names true ds = refl
none_written names false ds = refl

pub written_first : (S : Script) (names : List Words) (wire : Bool) (held : Option (List ℕ)) (c : World) → IsWorld S (begins S) c → IsWritten S names wire held held (begins S) c
unfolding begins
written_first S names wire held c at = record {
  world = at;
  written = subst (λ (t : List ℕ). Appends held held t) (sym (none_written names wire [])) (Appends-nil held);
}

-- ---- a run that did not go on

abbrev Halting : Course → Course → Type 0
Halting c d = (s : machine.Stop) (k : ℕ) (w : Vats) → c ≡ Halts s k w → d ≡ Halts s k w

halting_then : (c : Course) (f : Vats → Course) → Halting c (then_runs c f)
halting_then c f s k w e = halts_whole c f s k w e

module _ (names : List Words) (wire : Bool) (held held' : Option (List ℕ)) (c d : Course) (halting : Halting c d) (front : IsFront (text_to names wire c) (text_to names wire d)) where
  front_on : AppendsFront held held' (text_to names wire c) → AppendsFront held held' (text_to names wire d)
  front_on (t, appends, (rest, e)) = (t, appends, (rest ++ front.0, front.1 ∙ ap (λ (xs : List ℕ). xs ++ front.0) e ∙ simp append_assoc))

  stopped_on : (s : machine.Stop) (k : ℕ) → StopsWith s k names wire held held' c → StopsWith s k names wire held held' d
  stopped_on s k (w, is, appends) = (w, halting s k w is, appends)

  stops_on : (stop : VatStop) (k : ℕ) → StopsAs stop k names wire held held' c → StopsAs stop k names wire held held' d
  stops_on Fuel k h = stopped_on machine.Fuel k h
  stops_on Deep k h = stopped_on machine.Deep k h
  stops_on (WordRepeated i j) k h = stopped_on (machine.Repeated i j) k h
  stops_on Astray k h = stopped_on machine.Astray k h
  stops_on Memory k h = front_on h

  ends_on : (halt : Halt) → EndsAs halt names wire held held' c → EndsAs halt names wire held held' d
  ends_on (Stopped h) ends = stops_on h.stop h.step ends
  ends_on (Unwritten why) ends = front_on ends

module _ (S : Script) (steady : RunsSteadily S) (halt : Halt) (names : List Words) (wire : Bool) (held held' : Option (List ℕ)) where
  abbrev Ends : Course → Type 0
  Ends c = EndsAs halt names wire held held' c

  pub opened_ends : (k : ℕ) → OpenedBy S Ends k → Ends (run S)
  unfolding run
  opened_ends k o =
      let some : Course = open_from S zero o.before (begins S) in
      let each : Course = open_from S zero S.vats (begins S) in
      let rest : Vats → Course = λ w. then_runs (steps_from S S.schedule 1 w) (close S) in
      let joined : each ≡ then_runs some (open_from S (0 + length o.before) o.left) = ap (λ (ps : List Program). open_from S zero ps (begins S)) o.all ∙ openings_joined S zero o.before o.left (begins S) in
      ends_on names wire held held' some (run S) (λ s j w e. halts_whole each rest s j w (joined ∙ halts_whole some (open_from S (0 + length o.before) o.left) s j w e))
      (opened_text names wire S steady o.before o.left o.all) halt o.course

  pub stepped_ends : (from : Vats) → open_from S zero S.vats (begins S) ≡ Runs from → (k : ℕ) → SteppedBy S from Ends k → Ends (run S)
  unfolding run
  stepped_ends from opened k o =
      let some : Course = steps_from S o.before 1 from in
      let each : Course = steps_from S S.schedule 1 from in
      let rest : Vats → Course = λ w. then_runs (steps_from S S.schedule 1 w) (close S) in
      let joined : each ≡ then_runs some (steps_from S o.left (1 + length o.before)) = ap (λ (es : List Entry). steps_from S es 1 from) o.all ∙ steps_joined S 1 o.before o.left from in
      let whole : run S ≡ then_runs each (close S) = runs_on (open_from S zero S.vats (begins S)) rest from opened in
      ends_on names wire held held' some (run S) (λ s j w e. whole ∙ halts_whole each (close S) s j w (joined ∙ halts_whole some (steps_from S o.left (1 + length o.before)) s j w e))
      (stepped_text names wire S steady from opened o.before o.left o.all) halt o.course

-- ---- the end

module _ (S : Script) (wire : Bool) where
  -- the lines of its steps, and the line of a stop behind them
  text_whole : (c : Course) → run S ≡ c → IsFront (text_to (vat_names S) wire c) (told_text wire S)
  text_whole (Runs y) e = ([], sym (text_goes S wire y (told_so wire (shown_events y.drawn y.history)) e refl) ∙ sym (append-nil _))
  text_whole (Halts s k w) e = (stop_line s k ++ 10 ∷ [], sym (text_halts S wire s k w (told_so wire (shown_events w.drawn w.history)) e refl))

  pub front_whole : (held held' : Option (List ℕ)) → AppendsFront held held' (text_to (vat_names S) wire (run S)) → AppendsFront held held' (told_text wire S)
  front_whole held held' (t, appends, (rest, e)) =
      let more = text_whole (run S) refl in
      (t, appends, (rest ++ more.0, more.1 ∙ ap (λ (xs : List ℕ). xs ++ more.0) e ∙ simp append_assoc))

  -- it was not finished
  short : (held held' : Option (List ℕ)) (s : machine.Stop) (k : ℕ) → StopsWith s k (vat_names S) wire held held' (run S) → AppendsFront held held' (told_text wire S)
  short held held' s k (w, is, appends) =
      (text_at (vat_names S) wire w, appends, (stop_line s k ++ 10 ∷ [], sym (text_halts S wire s k w (told_so wire (shown_events w.drawn w.history)) is refl)))

  pub stop_short : (held held' : Option (List ℕ)) (stop : VatStop) (k : ℕ) → StopsAs stop k (vat_names S) wire held held' (run S) → AppendsFront held held' (told_text wire S)
  stop_short held held' Fuel k h = short held held' machine.Fuel k h
  stop_short held held' Deep k h = short held held' machine.Deep k h
  stop_short held held' (WordRepeated i j) k h = short held held' (machine.Repeated i j) k h
  stop_short held held' Astray k h = short held held' machine.Astray k h
  stop_short held held' Memory k h = front_whole held held' h

  -- the line of the stop is written, or a front of it
  line_by : (held mid : Option (List ℕ)) (s : machine.Stop) (k : ℕ) (told : Told) → StopsWith s k (vat_names S) wire held mid (run S) → Tells told (end_by s k) (line_of_stop s k)
      → (told.end ≡ end_of (run S)) × (w : Vats) × Appends held mid (text_at (vat_names S) wire w) × (told_text wire S ≡ text_at (vat_names S) wire w ++ string_bytes told.text)
  line_by held mid s k told (w, is, appends) tells = (
    tells.0 ∙ sym (ap end_of is),
    w,
    appends,
    sym (text_halts S wire s k w (told_so wire (shown_events w.drawn w.history)) is refl) ∙ ap (λ (xs : List ℕ). text_at (vat_names S) wire w ++ xs) (sym tells.1),
  )

  told_of_stop : (held mid : Option (List ℕ)) (stop : VatStop) (k : ℕ) (told : Told) → StopsAs stop k (vat_names S) wire held mid (run S) → StoppedAs stop k (Ok told)
      → (told.end ≡ end_of (run S)) × (w : Vats) × Appends held mid (text_at (vat_names S) wire w) × (told_text wire S ≡ text_at (vat_names S) wire w ++ string_bytes told.text)
  told_of_stop held mid Fuel k told h tells = line_by held mid machine.Fuel k told h tells
  told_of_stop held mid Deep k told h tells = line_by held mid machine.Deep k told h tells
  told_of_stop held mid (WordRepeated i j) k told h tells = line_by held mid (machine.Repeated i j) k told h tells
  told_of_stop held mid Astray k told h tells = line_by held mid machine.Astray k told h tells
  told_of_stop held mid Memory k told h tells = absurd tells

  pub stop_written : (held mid after : Option (List ℕ)) (stop : VatStop) (k : ℕ) (told : Told) → StopsAs stop k (vat_names S) wire held mid (run S) → StoppedAs stop k (Ok told)
      → Appends mid after (string_bytes told.text) → (told.end ≡ end_of (run S)) × Appends held after (told_text wire S)
  stop_written held mid after stop k told h tells more =
      let l = told_of_stop held mid stop k told h tells in
      (l.0, subst (λ (t : List ℕ). Appends held after t) (sym l.3) (Appends-trans held mid after (text_at (vat_names S) wire l.1) (string_bytes told.text) l.2 more))

  pub stop_cut : (held mid after : Option (List ℕ)) (stop : VatStop) (k : ℕ) (told : Told) → StopsAs stop k (vat_names S) wire held mid (run S) → StoppedAs stop k (Ok told)
      → AppendsFront mid after (string_bytes told.text) → AppendsFront held after (told_text wire S)
  stop_cut held mid after stop k told h tells more =
      let l = told_of_stop held mid stop k told h tells in front_behind held mid after (text_at (vat_names S) wire l.1) (string_bytes told.text) (told_text wire S) l.2 l.3 more

  -- what is left at the end is written, or a front of it
  left_told : (held mid : Option (List ℕ)) (w : Vats) (c : World) (told : List ShownEvent) → course_of S ≡ Runs w → IsWritten S (vat_names S) wire held mid w c → Comes (λ (y : Vats). told ≡ told_so wire (shown_events y.drawn y.history)) (close S (untold w))
      → (end.Done ≡ end_of (run S)) × (told_text wire S ≡ text_at (vat_names S) wire w ++ render (vat_names S) told)
  left_told held mid w c told went at closes =
      let z = went_on S (vat_names S) wire w (close S w) (close S (untold w)) told (closes_as S w) closes in
      let whole : run S ≡ Runs (behind w z.0) = run_goes S w (behind w z.0) went z.2 in
      (sym (ap end_of whole), sym (text_goes S wire (behind w z.0) (told_so wire (shown_events (behind w z.0).drawn (behind w z.0).history)) whole refl) ∙ z.3)

  pub left_written : (held mid after : Option (List ℕ)) (w : Vats) (c : World) (told : Account) → course_of S ≡ Runs w → IsWritten S (vat_names S) wire held mid w c
      → Comes (λ (y : Vats). IsAccount (vat_names S) told (told_so wire (shown_events y.drawn y.history))) (close S (untold w)) → ((es : List ShownEvent) → IsAccount (vat_names S) told es → Appends mid after (render (vat_names S) es))
      → (end.Done ≡ end_of (run S)) × Appends held after (told_text wire S)
  left_written held mid after w c told went at (y, (closes, is)) written =
      let es : List ShownEvent = told_so wire (shown_events y.drawn y.history) in
      let l = left_told held mid w c es went at (y, (closes, refl)) in
      (l.0, subst (λ (t : List ℕ). Appends held after t) (sym l.1) (Appends-trans held mid after (text_at (vat_names S) wire w) (render (vat_names S) es) at.written (written es is)))

  pub left_cut : (held mid after : Option (List ℕ)) (w : Vats) (c : World) (told : Account) → course_of S ≡ Runs w → IsWritten S (vat_names S) wire held mid w c
      → Comes (λ (y : Vats). IsAccount (vat_names S) told (told_so wire (shown_events y.drawn y.history))) (close S (untold w)) → ((es : List ShownEvent) → IsAccount (vat_names S) told es → AppendsFront mid after (render (vat_names S) es))
      → AppendsFront held after (told_text wire S)
  left_cut held mid after w c told went at (y, (closes, is)) written =
      let es : List ShownEvent = told_so wire (shown_events y.drawn y.history) in
      let l = left_told held mid w c es went at (y, (closes, refl)) in
      front_behind held mid after (text_at (vat_names S) wire w) (render (vat_names S) es) (told_text wire S) at.written l.1 (written es is)

  closed : (v : Vats) → (x : Vats) × (close S v ≡ Runs x)
  unfolding close
  closed v = (_, refl)

  -- the lines of the steps alone
  pub left_short : (held mid : Option (List ℕ)) (w : Vats) (c : World) → course_of S ≡ Runs w → IsWritten S (vat_names S) wire held mid w c → AppendsFront held mid (told_text wire S)
  left_short held mid w c went at =
      let x = closed (untold w) in
      let more : List ShownEvent = told_so wire (shown_events x.0.drawn x.0.history) in
      (text_at (vat_names S) wire w, at.written, (render (vat_names S) more, (left_told held mid w c more went at (x.0, (x.1, refl))).1))
