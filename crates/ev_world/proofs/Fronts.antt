-- The lines of the first steps of a run are a front of those of the run.
use Rattle.std.proofs.Common.{◌≡◌, ℕ, zero, suc, ◌+◌, Bool, true, false, List, [], ◌∷◌, ◌++◌, length, refl, sym, ap, subst, ◌∙◌, append_assoc, append-nil, arith}
use Rattle.std.specs.Prelude.{slice_get}
use Rattle.std.proofs.lemmas.List.Concat.{flat_map-append}
use Rattle.std.proofs.lemmas.List.Elements.{filter-append}
use Rattle.def_event.specs.Lines.{is_no_frame, render}
use Rattle.def_event.specs.declared.event.Event.{Event as ShownEvent}
use Rattle.def_run.specs.Numbers.{Course, Runs, Halts, Vats, begins, close, open_from, open_member, run, step, steps_from, then_runs}
use Rattle.def_machine.specs.Values.{Words}
use Rattle.def_run.specs.Text.{shown_events}
use Rattle.def_run.specs.World.{Entry, Program, Script}
use Rattle.ev_ways.proofs.Cuts.{shown_join}
use Rattle.ev_world.specs.Standing.{told_so}
use Rattle.ev_world.specs.Writing.{IsFront, IsStep, text_to, untold}
use Rattle.ev_world.proofs.Loops.{opened_last, openings_joined, stepped_last, steps_joined}
use Rattle.ev_world.proofs.Untold.{close_behind, open_behind, step_behind}
use Rattle.def_run.specs.Steady.{RunsSteadily}

-- ---- fronts of histories

abbrev IsFrontOf : List ShownEvent → List ShownEvent → Type 0
IsFrontOf xs ys = (zs : List ShownEvent) × (ys ≡ xs ++ zs)

-- the lines of the steps of a course
abbrev shown_at : Vats → List ShownEvent
shown_at w = shown_events w.drawn w.history

abbrev shown_to : Course → List ShownEvent
shown_to (Runs w) = shown_at w
shown_to (Halts c k w) = shown_at w

front_same : (xs : List ShownEvent) → IsFrontOf xs xs
front_same xs = ([], sym (append-nil xs))

front_then : (xs ys zs : List ShownEvent) → IsFrontOf xs ys → IsFrontOf ys zs → IsFrontOf xs zs
front_then xs ys zs (a, e) (b, f) = (a ++ b, f ∙ ap (λ (es : List ShownEvent). es ++ b) e ∙ append_assoc xs a b)

-- a step tells more
step_front : (w : Vats) (c d : Course) → IsStep w c d → IsFrontOf (shown_at w) (shown_to c)
step_front w (Runs y) (Runs x) (e, alike) = (
  shown_events y.drawn x.history,
  ap (λ (v : Vats). shown_events y.drawn v.history) e ∙ shown_join y.drawn w.history x.history ∙ ap (λ (es : List ShownEvent). es ++ shown_events y.drawn x.history) (alike y refl),
)
step_front w (Halts c k y) (Halts d j x) ((stops, steps, drawn, history), alike) =
    ([], ap (λ (ds : List ℕ). shown_events ds y.history) drawn ∙ ap (shown_events w.drawn) history ∙ sym (append-nil (shown_at w)))
step_front w (Runs y) (Halts d j x) (e, alike) = absurd e
step_front w (Halts c k y) (Runs x) (e, alike) = absurd e

-- and what comes behind it more again
then_front : (c : Course) (f : Vats → Course) → ((w : Vats) → c ≡ Runs w → IsFrontOf (shown_at w) (shown_to (f w))) → IsFrontOf (shown_to c) (shown_to (then_runs c f))
unfolding then_runs
then_front (Runs w) f h = h w refl
then_front (Halts c k w) f h = front_same (shown_at w)

-- ---- the run

one_more : {A : Type 0} (xs : List A) (x : A) → length (xs ++ x ∷ []) ≡ suc (length xs)
one_more [] x = refl
one_more (y ∷ xs) x = ap suc (one_more xs x)

runs_drawn : (x y : Vats) → Runs x ≡ Runs y → x ≡ y
runs_drawn x y e = cc

module _ (S : Script) where
  pub closes_as : (w : Vats) → IsStep w (close S w) (close S (untold w))
  unfolding close
  closes_as w = (close_behind S w, λ y e. ap (λ (v : Vats). shown_events v.drawn w.history) (sym (runs_drawn _ y e)))

  close_front : (w : Vats) → IsFrontOf (shown_at w) (shown_to (close S w))
  close_front w = step_front w (close S w) (close S (untold w)) (closes_as w)

module _ (S : Script) (steady : RunsSteadily S) where
  pub opens_as : (ps rest : List Program) (p : Program) (w : Vats) → S.vats ≡ ps ++ p ∷ rest → open_from S zero ps (begins S) ≡ Runs w
      → IsStep w (open_member S (length ps) p w (slice_get w.members (length ps))) (open_member S (length ps) p (untold w) (slice_get w.members (length ps)))
  opens_as ps rest p w all runs = (open_behind S (length ps) p w (slice_get w.members (length ps)), λ y e. (steady.shown_opening ps rest p w y all runs e).history)

  pub steps_as : (from : Vats) → open_from S zero S.vats (begins S) ≡ Runs from → (es rest : List Entry) (e : Entry) (k : ℕ) (w : Vats) → S.schedule ≡ es ++ e ∷ rest → steps_from S es 1 from ≡ Runs w
      → IsStep w (step S e k w) (step S e k (untold w))
  steps_as from opened es rest e k w all runs = (step_behind S e k w, λ y s. (steady.shown es rest e k from w y all opened runs s).history)

  openings_front : (ps left : List Program) (w : Vats) → S.vats ≡ ps ++ left → open_from S zero ps (begins S) ≡ Runs w → IsFrontOf (shown_at w) (shown_to (open_from S (length ps) left w))
  unfolding open_from
  openings_front ps [] w all runs = front_same (shown_at w)
  openings_front ps (p ∷ left) w all runs =
      let c : Course = open_member S (length ps) p w (slice_get w.members (length ps)) in
      let further : (y : Vats) → c ≡ Runs y → IsFrontOf (shown_at y) (shown_to (open_from S (suc (length ps)) left y)) =
      λ y e. subst (λ (k : ℕ). IsFrontOf (shown_at y) (shown_to (open_from S k left y))) (one_more ps p)
      (openings_front (ps ++ p ∷ []) left y (all ∙ sym (append_assoc ps (p ∷ []) left)) (opened_last S ps p (begins S) w runs ∙ e)) in
      front_then (shown_at w) (shown_to c) (shown_to (then_runs c (open_from S (suc (length ps)) left)))
      (step_front w c (open_member S (length ps) p (untold w) (slice_get w.members (length ps))) (opens_as ps left p w all runs))
      (then_front c (open_from S (suc (length ps)) left) further)

  steps_front : (from : Vats) → open_from S zero S.vats (begins S) ≡ Runs from → (es left : List Entry) (w : Vats) → S.schedule ≡ es ++ left → steps_from S es 1 from ≡ Runs w
      → IsFrontOf (shown_at w) (shown_to (steps_from S left (suc (length es)) w))
  unfolding steps_from
  steps_front from opened es [] w all runs = front_same (shown_at w)
  steps_front from opened es (e ∷ left) w all runs =
      let k : ℕ = suc (length es) in
      let c : Course = step S e k w in
      let further : (y : Vats) → c ≡ Runs y → IsFrontOf (shown_at y) (shown_to (steps_from S left (suc k) y)) =
      λ y s. subst (λ (j : ℕ). IsFrontOf (shown_at y) (shown_to (steps_from S left (suc j) y))) (one_more es e)
      (steps_front from opened (es ++ e ∷ []) left y (all ∙ sym (append_assoc es (e ∷ []) left)) (stepped_last S es e from w runs ∙ s)) in
      front_then (shown_at w) (shown_to c) (shown_to (then_runs c (steps_from S left (suc k))))
      (step_front w c (step S e k (untold w)) (steps_as from opened es left e k w all runs))
      (then_front c (steps_from S left (suc k)) further)

  entries_front : (from : Vats) → open_from S zero S.vats (begins S) ≡ Runs from → (es left : List Entry) → S.schedule ≡ es ++ left
      → IsFrontOf (shown_to (steps_from S es 1 from)) (shown_to (then_runs (steps_from S S.schedule 1 from) (close S)))
  entries_front from opened es left all =
      let some : Course = steps_from S es 1 from in
      let each : Course = steps_from S S.schedule 1 from in
      let next : 1 + length es ≡ suc (length es) = omega arith in
      let joined : each ≡ then_runs some (steps_from S left (suc (length es))) =
      ap (λ (fs : List Entry). steps_from S fs 1 from) all ∙ steps_joined S 1 es left from ∙ ap (λ (j : ℕ). then_runs some (steps_from S left j)) next in
      front_then (shown_to some) (shown_to each) (shown_to (then_runs each (close S)))
      (subst (λ (c : Course). IsFrontOf (shown_to some) (shown_to c)) (sym joined) (then_front some (steps_from S left (suc (length es))) (λ w e. steps_front from opened es left w all e)))
      (then_front each (close S) (λ w e. close_front S w))

  -- from a state that all openings came to
  behind_openings : (from : Vats) → open_from S zero S.vats (begins S) ≡ Runs from → IsFrontOf (shown_at from) (shown_to (then_runs (steps_from S S.schedule 1 from) (close S)))
  unfolding steps_from
  behind_openings from opened = entries_front from opened [] S.schedule refl

  opened_shown : (ps left : List Program) → S.vats ≡ ps ++ left → IsFrontOf (shown_to (open_from S zero ps (begins S))) (shown_to (run S))
  unfolding run
  opened_shown ps left all =
      let some : Course = open_from S zero ps (begins S) in
      let each : Course = open_from S zero S.vats (begins S) in
      let rest : Vats → Course = λ w. then_runs (steps_from S S.schedule 1 w) (close S) in
      let first : 0 + length ps ≡ length ps = omega arith in
      let joined : each ≡ then_runs some (open_from S (length ps) left) =
      ap (λ (qs : List Program). open_from S zero qs (begins S)) all ∙ openings_joined S zero ps left (begins S) ∙ ap (λ (j : ℕ). then_runs some (open_from S j left)) first in
      front_then (shown_to some) (shown_to each) (shown_to (then_runs each rest))
      (subst (λ (c : Course). IsFrontOf (shown_to some) (shown_to c)) (sym joined) (then_front some (open_from S (length ps) left) (λ w e. openings_front ps left w all e)))
      (then_front each rest behind_openings)

  stepped_shown : (from : Vats) → open_from S zero S.vats (begins S) ≡ Runs from → (es left : List Entry) → S.schedule ≡ es ++ left → IsFrontOf (shown_to (steps_from S es 1 from)) (shown_to (run S))
  unfolding run then_runs
  stepped_shown from opened es left all =
      let rest : Vats → Course = λ w. then_runs (steps_from S S.schedule 1 w) (close S) in
      subst (λ (c : Course). IsFrontOf (shown_to (steps_from S es 1 from)) (shown_to (then_runs c rest))) (sym opened) (entries_front from opened es left all)

-- ---- fronts of texts

told_append : (wire : Bool) (xs ys : List ShownEvent) → told_so wire (xs ++ ys) ≡ told_so wire xs ++ told_so wire ys
told_append true xs ys = refl
told_append false xs ys = filter-append is_no_frame xs ys

pub text_append : (names : List Words) (wire : Bool) (xs ys : List ShownEvent) → render names (told_so wire (xs ++ ys)) ≡ render names (told_so wire xs) ++ render names (told_so wire ys)
text_append names wire xs ys = ap (render names) (told_append wire xs ys) ∙ flat_map-append _ (told_so wire xs) (told_so wire ys)

text_front : (names : List Words) (wire : Bool) (xs ys : List ShownEvent) → IsFrontOf xs ys → IsFront (render names (told_so wire xs)) (render names (told_so wire ys))
text_front names wire xs ys (zs, e) = (render names (told_so wire zs), ap (λ (es : List ShownEvent). render names (told_so wire es)) e ∙ text_append names wire xs zs)

text_is : (names : List Words) (wire : Bool) (c : Course) → render names (told_so wire (shown_to c)) ≡ text_to names wire c
text_is names wire (Runs w) = refl
text_is names wire (Halts c k w) = refl

course_front : (names : List Words) (wire : Bool) (c d : Course) → IsFrontOf (shown_to c) (shown_to d) → IsFront (text_to names wire c) (text_to names wire d)
course_front names wire c d front =
    subst (λ (ys : List ℕ). IsFront (text_to names wire c) ys) (text_is names wire d)
    (subst (λ (xs : List ℕ). IsFront xs (render names (told_so wire (shown_to d)))) (text_is names wire c) (text_front names wire (shown_to c) (shown_to d) front))

pub step_text : (names : List Words) (wire : Bool) (w : Vats) (c d : Course) → IsStep w c d → IsFront (text_to names wire (Runs w)) (text_to names wire c)
step_text names wire w c d is = course_front names wire (Runs w) c (step_front w c d is)

-- the lines of so many opening turns
pub opened_text : (names : List Words) (wire : Bool) (S : Script) → RunsSteadily S → (ps left : List Program) → S.vats ≡ ps ++ left → IsFront (text_to names wire (open_from S zero ps (begins S))) (text_to names wire (run S))
opened_text names wire S steady ps left all = course_front names wire (open_from S zero ps (begins S)) (run S) (opened_shown S steady ps left all)

-- and of so many entries behind them
pub stepped_text : (names : List Words) (wire : Bool) (S : Script) → RunsSteadily S → (from : Vats) → open_from S zero S.vats (begins S) ≡ Runs from → (es left : List Entry) → S.schedule ≡ es ++ left
    → IsFront (text_to names wire (steps_from S es 1 from)) (text_to names wire (run S))
stepped_text names wire S steady from opened es left all = course_front names wire (steps_from S es 1 from) (run S) (stepped_shown S steady from opened es left all)
