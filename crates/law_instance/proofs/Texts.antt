-- The text of a run without hostile vats is that of the run of today.
use Rattle.std.proofs.Common.{◌≡◌, ℕ, zero, suc, ◌≤◌, List, [], ◌∷◌, ◌++◌, Some, refl, sym, ap, subst, ◌∙◌, ◌⊎◌, inl, inr, length, map, append-nil}
use Rattle.std.specs.Prelude.{slice_get}
use Rattle.def_event.specs.Lines.{render, render_run}
use Rattle.def_machine.specs.Values.{Name}
use Rattle.def_machine.specs.State.{Known, Note, Vat}
use Rattle.def_run.specs.Shown.{shown_event}
use Rattle.def_run.specs.Text as run
use Rattle.def_run.specs.Text.{vat_names, shown_events, history_of, draws_of}
use Rattle.def_run.specs.World as world
use Rattle.def_run.specs.World.{Script, Program, Entry, Event, LeftQueue, LeftHeld, LeftWait, LeftLink, Ends, Link, World, Run, Goes as Going, Stopped}
use Rattle.def_hostile.specs.Claims.{spelled_event}
use Rattle.def_hostile.specs.Hostile.{Told, Acted, acts}
use Rattle.def_hostile.specs.HostileText as hostile
use Rattle.def_hostile.specs.ShownMarks as marks
use Rattle.law_fate.specs.Fates.WholeFateRuns.{KnowsVats}
use Rattle.law_fate.specs.Name.Names.{AllOf, NoteOk, names_in}
use Rattle.law_fate.specs.Name.Runs.{KnowsOnce}
use Rattle.law_fate.proofs.Name.Facts.{all_append}
use Rattle.law_fate.proofs.Name.Run.{Stands, opened_stands, steps_stand}
use Rattle.law_reference.specs.Reference.Cuts.{NoticesFollowCuts}
use Rattle.law_frame.proofs.Heard.Lift.{opened_holds, stepped_holds}
use Rattle.law_order.proofs.TurnTales.ByTurns.{front_follows}
use Rattle.law_instance.specs.Honest.{honest, EndsIn, HonestTextsAreRuns}
use Rattle.law_instance.proofs.Acts.{GoesFrom, closed_drawn, stop_drawn, stop_history, step_from, open_from_here}
use Rattle.law_instance.proofs.Shown.Low.{IsLow, LowBit, Low, opened_low, stepped_low}
use Rattle.law_instance.proofs.Shown.Same.{IsSame, name_same, msg_same, left_same, lines_shown}
use Rattle.law_instance.proofs.Shown.Steps.{AllSame, step_shown, open_shown}
use Rattle.law_instance.proofs.Whole.{plays_are_runs}

-- ---- the closing list

queue_same : (v : ℕ) (m : Name) → IsSame (LeftQueue v m)
unfolding marks.shown_event shown_event spelled_event
queue_same v m d = cc (msg_same d m)

held_same : (v : ℕ) (n m : Name) → IsLow n → IsSame (LeftHeld v n m)
unfolding marks.shown_event shown_event spelled_event
held_same v n m h d = cc (name_same d n h, msg_same d m)

wait_same : (v : ℕ) (n m : Name) → IsLow n → IsSame (LeftWait v n m)
unfolding marks.shown_event shown_event spelled_event
wait_same v n m h d = cc (name_same d n h, msg_same d m)

ends_same : IsSame Ends
unfolding marks.shown_event shown_event spelled_event
ends_same d = refl

all_mapped : {A : Type 0} (f : A → Event) (xs : List A) → ((x : A) → IsSame (f x)) → AllOf IsSame (map f xs)
all_mapped f [] h = tt
all_mapped f (x ∷ xs) h = (h x, all_mapped f xs h)

-- what holds of each at its place holds of all
all_placed : {A : Type 0} (Q : A → Type 0) (xs : List A) → ((i : ℕ) (x : A) → slice_get xs i ≡ Some x → Q x) → AllOf Q xs
all_placed Q [] h = tt
all_placed Q (x ∷ xs) h = (h zero x refl, all_placed Q xs (λ i y e. h (suc i) y e))

module _ (script : Script) where
  helds_same : (v : ℕ) (ks : List (Known Name)) → AllOf IsLow (names_in ks) → AllOf IsSame (world.left_held script v ks)
  unfolding world.left_held
  helds_same v [] h = tt
  helds_same v (k ∷ ks) h = all_append IsSame (map (λ m. LeftHeld v k.name m.id) k.held) (world.left_held script v ks) (all_mapped (λ m. LeftHeld v k.name m.id) k.held (λ m. held_same v k.name m.id h.0)) (helds_same v ks h.1)

  waits_same : (v : ℕ) (ks : List (Known Name)) → AllOf IsLow (names_in ks) → AllOf IsSame (world.left_wait script v ks)
  unfolding world.left_wait
  waits_same v [] h = tt
  waits_same v (k ∷ ks) h = all_append IsSame (map (λ m. LeftWait v k.name m.id) k.reactions) (world.left_wait script v ks) (all_mapped (λ m. LeftWait v k.name m.id) k.reactions (λ m. wait_same v k.name m.id h.0)) (waits_same v ks h.1)

  vat_same : (s : Vat Name) → AllOf IsLow (names_in s.known) → AllOf IsSame (world.left_vat script s)
  unfolding world.left_vat
  vat_same s h = all_append IsSame (map (λ m. LeftQueue s.number m.id) s.queue ++ world.left_held script s.number s.known) (world.left_wait script s.number s.known)
      (all_append IsSame (map (λ m. LeftQueue s.number m.id) s.queue) (world.left_held script s.number s.known) (all_mapped (λ m. LeftQueue s.number m.id) s.queue (λ m. queue_same s.number m.id)) (helds_same s.number s.known h)) (waits_same s.number s.known h)

  vats_same : (ss : List (Vat Name)) → AllOf (λ (s : Vat Name). AllOf IsLow (names_in s.known)) ss → AllOf IsSame (world.left_vats script ss)
  unfolding world.left_vats
  vats_same [] h = tt
  vats_same (s ∷ ss) h = all_append IsSame (world.left_vat script s) (world.left_vats script ss) (vat_same s h.0) (vats_same ss h.1)

  notes_same : (v u : ℕ) (ns : List (Note Name)) → AllOf (NoteOk LowBit) ns → AllOf IsSame (map (λ n. LeftLink v u n) ns)
  notes_same v u [] h = tt
  notes_same v u (n ∷ ns) h = (left_same v u n h.0, notes_same v u ns h.1)

  links_same : (ls : List Link) → AllOf (λ (l : Link). AllOf (NoteOk LowBit) l.notes) ls → AllOf IsSame (world.left_links script ls)
  unfolding world.left_links
  links_same [] h = tt
  links_same (l ∷ ls) h = all_append IsSame (map (λ n. LeftLink l.from l.to n) l.notes) (world.left_links script ls) (notes_same l.from l.to l.notes h.0) (links_same ls h.1)

  -- ---- runs

  abbrev Fine : Run → Type 0
  Fine r = AllOf IsSame (history_of r)

  closed_fine : (x : World) → Low x → AllSame x → Fine (world.close script x)
  unfolding world.close history_of
  closed_fine x low h = all_append IsSame (x.history ++ world.left_vats script x.vats ++ world.left_links script x.links) (Ends ∷ [])
      (all_append IsSame (x.history ++ world.left_vats script x.vats) (world.left_links script x.links) (all_append IsSame x.history (world.left_vats script x.vats) h (vats_same x.vats (all_placed (λ (s : Vat Name). AllOf IsLow (names_in s.known)) x.vats low.known))) (links_same x.links low.notes)) (ends_same, tt)

  -- where it stopped, nothing more was told
  stopped_fine : (n : ℕ) (x : World) (r : Run) (f : World → Run) → GoesFrom n x r → AllSame x → ((y : World) → r ≡ Going y → Fine (f y)) → Fine (world.then_goes r f)
  unfolding world.then_goes history_of
  stopped_fine n x (Going y) f g h k = k y refl
  stopped_fine n x (Stopped c j y) f g h k = subst (λ es. AllOf IsSame es) (sym (stop_history y x g.1)) h

  steps_fine : (es : List Entry) (k : ℕ) (x : World) → ((fs rest : List Entry) (y : World) → es ≡ fs ++ rest → world.steps_from script fs k x ≡ Going y → AllSame y) → Fine (world.steps_from script es k x)
  unfolding world.steps_from world.then_goes history_of
  steps_fine [] k x h = h [] [] x refl refl
  steps_fine (e ∷ es) k x h = stopped_fine (world.step_number script k) x (world.step script e k x) (world.steps_from script es (suc k)) (step_from script e k x) (h [] (e ∷ es) x refl refl)
      (λ y i. steps_fine es (suc k) y (λ fs rest z split steps. h (e ∷ fs) rest z (ap (λ gs. e ∷ gs) split) (ap (λ r. world.then_goes r (world.steps_from script fs (suc k))) i ∙ steps)))

  opens_fine : (ps : List Program) (v : ℕ) (x : World) → ((qs rest : List Program) (y : World) → ps ≡ qs ++ rest → world.open_from script v qs x ≡ Going y → AllSame y) → Fine (world.open_from script v ps x)
  unfolding world.open_from world.then_goes history_of
  opens_fine [] v x h = h [] [] x refl refl
  opens_fine (p ∷ ps) v x h = stopped_fine v x (world.open_vat script v p x) (world.open_from script (suc v) ps) (open_from_here script v p x) (h [] (p ∷ ps) x refl refl)
      (λ y i. opens_fine ps (suc v) y (λ qs rest z split opened. h (p ∷ qs) rest z (ap (λ gs. p ∷ gs) split) (ap (λ r. world.then_goes r (world.open_from script (suc v) qs)) i ∙ opened)))

  then_fine : (r : Run) (f : World → Run) → Fine r → ((y : World) → r ≡ Going y → Fine (f y)) → Fine (world.then_goes r f)
  unfolding world.then_goes
  then_fine (Going y) f h k = k y refl
  then_fine (Stopped c j y) f h k = h

  module _ (once : KnowsOnce script) (knows : KnowsVats script) (few : length script.vats ≤ 16) where
    abbrev Past : World → Type 0
    Past w = Stands script w × Low w

    opened_past : (ps rest : List Program) (w : World) → script.vats ≡ ps ++ rest → world.open_from script zero ps (world.begins script) ≡ Going w → Past w
    opened_past ps rest w split e = (opened_stands script once ps rest w split e, opened_low script knows few once ps rest w split e)

    stepped_past : (w x : World) (es : List Entry) (k : ℕ) → NoticesFollowCuts es → world.open_from script zero script.vats (world.begins script) ≡ Going w → world.steps_from script es k w ≡ Going x → Past x
    stepped_past w x es k follow opened steps = (steps_stand script es k w x (opened_stands script once script.vats [] w (sym (append-nil script.vats)) opened) steps, stepped_low script knows few once w x es k follow opened steps)

    abbrev Pair : World → World → Type 0
    Pair x y = ((v : ℕ) × (p : Program) × (world.open_vat script v p x ≡ Going y)) ⊎ ((e : Entry) × (k : ℕ) × (world.step script e k x ≡ Going y))

    pair_same : (x y : World) → Past x → Past y → Pair x y → AllSame x → AllSame y
    pair_same x y f g (inl o) h = unfold world.open_vat in open_shown script o.0 o.1 x y (slice_get x.vats o.0) refl f.0 g.0 f.1 g.1 o.2 h
    pair_same x y f g (inr m) h = step_shown script m.0 m.1 x y f.0 g.0 f.1 g.1 m.2 h

    begins_same : AllSame (world.begins script)
    unfolding world.begins
    begins_same = tt

    opened_same : (ps rest : List Program) (w : World) → script.vats ≡ ps ++ rest → world.open_from script zero ps (world.begins script) ≡ Going w → AllSame w
    opened_same = opened_holds script Past Past Pair opened_past stepped_past (λ ps rest p x y split opened opens. inl (length ps, p, opens)) (λ w x y es e k opened stepped goes. inr (e, _, goes)) AllSame
        (λ v p x y f g m o h. pair_same x y f g m h) (λ e k x y f g m i h. pair_same x y f g m h) begins_same

    stepped_same : (w x : World) (es : List Entry) (k : ℕ) → NoticesFollowCuts es → world.open_from script zero script.vats (world.begins script) ≡ Going w → world.steps_from script es k w ≡ Going x → AllSame x
    stepped_same = stepped_holds script Past Past Pair opened_past stepped_past (λ ps rest p x y split opened opens. inl (length ps, p, opens)) (λ w x y es e k opened stepped goes. inr (e, _, goes)) AllSame
        (λ v p x y f g m o h. pair_same x y f g m h) (λ e k x y f g m i h. pair_same x y f g m h) begins_same

    run_fine : NoticesFollowCuts script.schedule → Fine (world.run script)
    unfolding world.run
    run_fine follow = then_fine (world.open_from script zero script.vats (world.begins script)) _ (opens_fine script.vats zero (world.begins script) (λ qs rest y split opened. opened_same qs rest y split opened))
        (λ w opened. then_fine (world.steps_from script script.schedule 1 w) (world.close script) (steps_fine script.schedule 1 w (λ fs rest y split steps. stepped_same w y fs 1 (front_follows script fs rest split follow) opened steps))
        (λ y steps. closed_fine y (stepped_past w y script.schedule 1 follow opened steps).1 (stepped_same w y script.schedule 1 follow opened steps)))

  -- ---- texts

  abbrev Texts : Run → Acted → Type 0
  Texts r a = (hostile.text (honest script) a ≡ run.text script r) × (hostile.wire_text (honest script) a ≡ run.wire_text script r)

  -- the lines of a scene are shown as the history
  same_lines : (x y : World) → y.drawn ≡ x.drawn → y.history ≡ x.history → AllOf IsSame y.history → hostile.shown_lines x.drawn [] (map Told x.history) ≡ shown_events y.drawn y.history
  same_lines x y f e h = ap (λ es. hostile.shown_lines x.drawn [] (map Told es)) (sym e) ∙ lines_shown x.drawn y.history h ∙ ap (λ ds. shown_events ds y.history) (sym f)

  end_lines : (x y : World) → y.drawn ≡ x.drawn → AllOf IsSame y.history → hostile.shown_lines x.drawn [] (map Told y.history) ≡ shown_events y.drawn y.history
  end_lines x y f h = lines_shown x.drawn y.history h ∙ ap (λ ds. shown_events ds y.history) (sym f)

  texts_so : (r : Run) (a : Acted) → Fine r → EndsIn script r a → Texts r a
  unfolding hostile.text hostile.wire_text hostile.shown_scene run.text run.wire_text run.stop_text run.history_of run.draws_of
  texts_so (Going y) a h (x, e, f) = let ns = vat_names script in let same = end_lines x y (closed_drawn script x y e) h in (
    ap (λ b. hostile.text (honest script) b) f ∙ ap (λ es. render_run ns es) same ∙ sym (append-nil (render_run ns (shown_events y.drawn y.history))),
    ap (λ b. hostile.wire_text (honest script) b) f ∙ ap (λ es. render ns es) same ∙ sym (append-nil (render ns (shown_events y.drawn y.history))),
  )
  texts_so (Stopped c n y) a h (x, e, f) = let ns = vat_names script in let same = same_lines x y (stop_drawn y x e) (stop_history y x e) h in (
    ap (λ b. hostile.text (honest script) b) f ∙ ap (λ es. render_run ns es ++ (run.stop_line c n ++ 10 ∷ [])) same,
    ap (λ b. hostile.wire_text (honest script) b) f ∙ ap (λ es. render ns es ++ (run.stop_line c n ++ 10 ∷ [])) same,
  )

pub texts_are_runs : HonestTextsAreRuns
texts_are_runs script accepted = texts_so script (world.run script) (acts (honest script)) (run_fine script accepted.0 accepted.1 accepted.3 accepted.2) (plays_are_runs script accepted).2
