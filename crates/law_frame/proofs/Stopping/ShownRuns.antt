-- What the events so far show is the front of what the run shows.
use Rattle.std.proofs.Common.{◌≡◌, ℕ, zero, suc, ◌+◌, List, [], ◌∷◌, ◌++◌, refl, sym, ap, subst, ◌∙◌, length, append_assoc, append-nil, arith}
use Rattle.std.specs.Prelude.{slice_get}
use Rattle.std.proofs.lemmas.Grind.{flat_map-append}
use Rattle.std.proofs.lemmas.List.Elements.{filter-append}
use Rattle.def_event.specs.declared.event.Event.{Event as ShownEvent}
use Rattle.def_event.specs.Lines.{render, render_run}
use Rattle.def_run.specs.Text.{vat_names, shown_events, draws_of, stop_text, text, wire_text}
use Rattle.def_run.specs.World as world
use Rattle.def_run.specs.World.{Script, Program, Entry, World, Run, Goes as Going, Stopped}
use Rattle.law_fate.specs.Name.Runs.{KnowsOnce}
use Rattle.law_fate.proofs.Name.Among.{length_end}
use Rattle.law_fate.proofs.Name.Run.{Stands, step_stands, opens_stand, begins_stands}
use Rattle.law_frame.specs.Stopping.Lines.{IsShownFirst, LinesAreShownSoFar, RunsShowLinesSoFar, OpeningTurnsShowLinesSoFar, IsWrittenFirst, TextsAreWrittenSoFar}
use Rattle.law_frame.proofs.Stopping.Shown.{shown_same, shown_append}
use Rattle.law_frame.proofs.Stopping.Later.{Later, later_then, steps_later, opens_later, close_later}
use Rattle.law_frame.proofs.Stopping.Told.{AllShown, step_shown, open_shown}

-- ---- where each event shows the same ever after

shows_first : (x : World) (r : Run) → AllShown x → Later x.drawn x.history r → IsShownFirst x r
shows_first x r h k = let l = k.draws.0 in let fs = k.events.0 in let d = draws_of r in (
  shown_events d fs,
  ap (λ es. shown_events d es) k.events.1 ∙ shown_append d x.history fs
      ∙ ap (λ xs. xs ++ shown_events d fs) (ap (λ ds. shown_events ds x.history) k.draws.1 ∙ shown_same x.drawn l x.history h),
)

-- ---- runs joined

join_then : (r z : Run) (x : World) (f g : World → Run) → world.then_goes r f ≡ Going x → ((y : World) → f y ≡ Going x → g y ≡ z) → world.then_goes r g ≡ z
unfolding world.then_goes
join_then (Going y) z x f g e h = h y e
join_then (Stopped c k y) z x f g e h = cc

going_is : (w x : World) → Going w ≡ Going x → w ≡ x
going_is w x e = cc

module _ (script : Script) where
  abbrev Whole : World → Run
  Whole w = world.then_goes (world.steps_from script script.schedule 1 w) (world.close script)

  steps_join : (es fs : List Entry) (k : ℕ) (w x : World) → world.steps_from script es k w ≡ Going x → world.steps_from script (es ++ fs) k w ≡ world.steps_from script fs (k + length es) x
  unfolding world.steps_from
  steps_join [] fs k w x e = let n : k ≡ k + 0 = omega arith in ap (λ j. world.steps_from script fs j w) n ∙ ap (λ y. world.steps_from script fs (k + 0) y) (going_is w x e)
  steps_join (e ∷ es) fs k w x i = let n : suc k + length es ≡ k + suc (length es) = omega arith in
      join_then (world.step script e k w) (world.steps_from script fs (k + suc (length es)) x) x (world.steps_from script es (suc k)) (world.steps_from script (es ++ fs) (suc k)) i
      (λ y j. steps_join es fs (suc k) y x j ∙ ap (λ m. world.steps_from script fs m x) n)

  opens_join : (ps qs : List Program) (v : ℕ) (w x : World) → world.open_from script v ps w ≡ Going x → world.open_from script v (ps ++ qs) w ≡ world.open_from script (v + length ps) qs x
  unfolding world.open_from
  opens_join [] qs v w x e = let n : v ≡ v + 0 = omega arith in ap (λ j. world.open_from script j qs w) n ∙ ap (λ y. world.open_from script (v + 0) qs y) (going_is w x e)
  opens_join (p ∷ ps) qs v w x i = let n : suc v + length ps ≡ v + suc (length ps) = omega arith in
      join_then (world.open_vat script v p w) (world.open_from script (v + suc (length ps)) qs x) x (world.open_from script (suc v) ps) (world.open_from script (suc v) (ps ++ qs)) i
      (λ y j. opens_join ps qs (suc v) y x j ∙ ap (λ m. world.open_from script m qs x) n)

  -- ---- each world of a run

  abbrev pub Both : World → Type 0
  Both x = Stands script x × AllShown x

  then_both : (x : World) (r : Run) (f : World → Run) → ((y : World) → r ≡ Going y → Both y) → ((y : World) → Both y → f y ≡ Going x → Both x) → world.then_goes r f ≡ Going x → Both x
  unfolding world.then_goes
  then_both x (Going y) f a b e = b y (a y refl) e
  then_both x (Stopped c n y) f a b e = cc

  pub steps_both : (es : List Entry) (k : ℕ) (w x : World) → Both w → world.steps_from script es k w ≡ Going x → Both x
  unfolding world.steps_from
  steps_both [] k w x h e = subst (λ y. Both y) (going_is w x e) h
  steps_both (entry ∷ es) k w x h e = then_both x (world.step script entry k w) (world.steps_from script es (suc k))
      (λ y i. let g = step_stands script entry k w y h.0 i in (g, step_shown script entry k w y h.0 g i h.1)) (λ y i j. steps_both es (suc k) y x i j) e

  alone_opens : (v : ℕ) (p : Program) (w y : World) → world.open_vat script v p w ≡ Going y → world.open_from script v (p ∷ []) w ≡ Going y
  unfolding world.open_from world.then_goes
  alone_opens v p w y e = rw e refl

  opens_both : (front ps rest : List Program) (w x : World) → script.vats ≡ front ++ (ps ++ rest) → Both w → world.open_from script (length front) ps w ≡ Going x → Both x
  unfolding world.open_from
  opens_both front [] rest w x i h e = subst (λ y. Both y) (going_is w x e) h
  opens_both front (p ∷ ps) rest w x i h e = then_both x (world.open_vat script (length front) p w) (world.open_from script (suc (length front)) ps)
      (λ y j. let g = opens_stand script front (p ∷ []) (ps ++ rest) w y i h.0 (alone_opens (length front) p w y j) in (g, opened_one (length front) p w y h.0 g j h.1))
      (λ y j k. opens_both (front ++ p ∷ []) ps rest y x (i ∙ sym (append_assoc front (p ∷ []) (ps ++ rest))) j (subst (λ n. world.open_from script n ps y ≡ Going x) (sym (length_end front p)) k)) e
    where
      opened_one : (v : ℕ) (p : Program) (w y : World) → Stands script w → Stands script y → world.open_vat script v p w ≡ Going y → AllShown w → AllShown y
      opened_one v p w y h g e old = unfold world.open_vat in (open_shown script v p w y (slice_get w.vats v) refl h g e old)

  begins_both : KnowsOnce script → Both (world.begins script)
  unfolding world.begins
  begins_both once = (begins_stands script once, tt)

  pub opened_both : KnowsOnce script → (ps rest : List Program) (w : World) → script.vats ≡ ps ++ rest → world.open_from script zero ps (world.begins script) ≡ Going w → Both w
  opened_both once ps rest w e i = opens_both [] ps rest (world.begins script) w e (begins_both once) i

  pub all_opened : KnowsOnce script → (w : World) → world.open_from script zero script.vats (world.begins script) ≡ Going w → Both w
  all_opened once w e = opened_both once script.vats [] w (sym (append-nil script.vats)) e

  -- ---- the whole run

  whole_opened : (w : World) → world.open_from script zero script.vats (world.begins script) ≡ Going w → world.run script ≡ Whole w
  unfolding world.run world.then_goes
  whole_opened w e = rw e refl

pub lines_shown_so_far : LinesAreShownSoFar
lines_shown_so_far script once w x es fs k l opened stepped = let b = steps_both script es k w x (all_opened script once w opened) stepped in shows_first x (world.steps_from script fs l x) b.1 (steps_later script fs l x)

pub runs_show : RunsShowLinesSoFar
runs_show script once w x es fs split opened stepped =
    let b = steps_both script es 1 w x (all_opened script once w opened) stepped in
    let rest : Run = world.steps_from script fs (1 + length es) x in
    let whole : world.run script ≡ world.then_goes rest (world.close script) = whole_opened script w opened ∙ ap (λ r. world.then_goes r (world.close script)) (ap (λ zs. world.steps_from script zs 1 w) split ∙ steps_join script es fs 1 w x stepped) in
    shows_first x (world.run script) b.1 (subst (λ r. Later x.drawn x.history r) (sym whole) (later_then x.drawn x.history rest (world.close script) (steps_later script fs (1 + length es) x) (λ y. close_later script y)))

pub openings_show : OpeningTurnsShowLinesSoFar
unfolding world.run
openings_show script once x ps rest split opened =
    let b = opened_both script once ps rest x split opened in
    let later = opens_later script (length ps) rest x in
    let same : world.open_from script zero script.vats (world.begins script) ≡ world.open_from script (length ps) rest x = ap (λ zs. world.open_from script zero zs (world.begins script)) split ∙ opens_join script ps rest zero (world.begins script) x opened ∙ (let n : 0 + length ps ≡ length ps = omega arith in ap (λ j. world.open_from script j rest x) n) in (
      shows_first x (world.open_from script (length ps) rest x) b.1 later,
      shows_first x (world.run script) b.1 (subst (λ r. Later x.drawn x.history (world.then_goes r (Whole script))) (sym same)
          (later_then x.drawn x.history (world.open_from script (length ps) rest x) (Whole script) later
          (λ y. later_then y.drawn y.history (world.steps_from script script.schedule 1 y) (world.close script) (steps_later script script.schedule 1 y) (λ z. close_later script z)))),
    )

-- ---- texts

render_append : (ns : List (List ℕ)) (xs ys : List ShownEvent) → render ns (xs ++ ys) ≡ render ns xs ++ render ns ys
render_append ns xs ys = flat_map-append _ xs ys

run_append : (ns : List (List ℕ)) (xs ys : List ShownEvent) → render_run ns (xs ++ ys) ≡ render_run ns xs ++ render_run ns ys
run_append ns xs ys = ap (λ zs. render ns zs) (filter-append _ xs ys) ∙ render_append ns _ _

written_first : (script : Script) (x : World) (r : Run) → IsShownFirst x r → IsWrittenFirst script x r
unfolding text wire_text
written_first script x r h = let ns = vat_names script in let xs = shown_events x.drawn x.history in let s = stop_text r in (
  (render_run ns h.0 ++ s, ap (λ zs. zs ++ s) (ap (λ es. render_run ns es) h.1 ∙ run_append ns xs h.0) ∙ append_assoc (render_run ns xs) (render_run ns h.0) s),
  (render ns h.0 ++ s, ap (λ zs. zs ++ s) (ap (λ es. render ns es) h.1 ∙ render_append ns xs h.0) ∙ append_assoc (render ns xs) (render ns h.0) s),
)

pub texts_written : TextsAreWrittenSoFar
texts_written script once = (
  λ x ps rest split opened. written_first script x (world.run script) (openings_show script once x ps rest split opened).1,
  λ w x es fs split opened stepped. written_first script x (world.run script) (runs_show script once w x es fs split opened stepped),
)
