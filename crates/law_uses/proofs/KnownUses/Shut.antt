-- Between the steps of a run no call is open, by the lines.
use Rattle.std.proofs.Common.{◌≡◌, ℕ, ◌+◌, ◌==◌, Bool, true, false, List, [], ◌∷◌, ◌++◌, Some, refl, sym, ap, ◌∙◌, subst, append_assoc, append-nil}
use Rattle.std.proofs.lemmas.Bool.{eqb-true, eq-eqb}
use Rattle.def_machine.specs.Values.{Name}
use Rattle.def_machine.specs.State.{Message, Happened, Posted, Vat, Done, Gives}
use Rattle.law_machine.specs.Machine.Steps.{Step, Opens as Starts, Takes, Receives, Notices, does}
use Rattle.def_run.specs.World as world
use Rattle.def_run.specs.World.{Script, Event, LostCut, Link, World, names, readied, events_of, event_of}
use Rattle.def_run.specs.Shown as show
use Rattle.def_run.specs.Text.{shown_events}
use Rattle.law_fate.proofs.Fates.RunCounts.{pick}
use Rattle.law_uses.specs.Connectivity.Begotten.{IsTaken}
use Rattle.law_uses.specs.Connectivity.Nesting.{Nested, nested_from}
use Rattle.law_uses.proofs.Connectivity.StepNests.{steps_nest}
use Rattle.def_event.specs.Uses.{Line, and_lines, place_of}
use Rattle.law_uses.proofs.Uses.Shown.{lines}
use Rattle.law_uses.proofs.Uses.Places.{step_place, opens_place, turned_place, carried_place, noticed_place}
use Rattle.law_uses.proofs.KnownUses.Walk.{Leads, quiet, steps}
use Rattle.law_uses.proofs.KnownUses.Stood.{Came, first, onward}
use Rattle.law_uses.proofs.KnownUses.Opened.{calls, quiet_calls, happened_away, lines_end, nobodys_calls, events_end, At, opens_none}

-- the lines of a step that gives nest
pub step_nested : (script : Script) (v : ℕ) (step : Step Name Name) (r t : Vat Name) → r.happened ≡ [] → does (names script v) step r ≡ Gives tt t → nested_from (Some []) t.happened ≡ Some []
step_nested script v step r t e q = gives (does (names script v) step r) (steps_nest (names script v) step r e) q
  where
    gives : (d : Done Name (Unit {0})) → Nested d → d ≡ Gives tt t → nested_from (Some []) t.happened ≡ Some []
    gives (Gives u x) h i = let same : x ≡ t = cc in subst (λ (z : Vat Name). nested_from (Some []) z.happened ≡ Some []) same h
    gives other h i = cc

module _ (draws : List ℕ) (script : Script) where
  -- the line that tells of a step has the place of its vat
  head_place : (w : World) (v : ℕ) (s : Vat Name) (ms : List (Message Name)) (head : List Event) (step : Step Name Name) → IsTaken script w v s ms head step → (e : Event) × (head ≡ e ∷ []) × ((past : List Line) → place_of (and_lines past (show.shown_event draws e)) ≡ v + 1)
  head_place w v s ms head (Starts tree depth root given) t = (world.Opens v, t.1, opens_place draws v)
  head_place w v s ms head (Takes tree depth m) t = (world.Turned t.0 v, t.1, turned_place draws t.0 v)
  head_place w v s ms head (Receives from n) t = (world.Carried t.0 from v t.3 t.1, t.5, carried_place draws t.0 from v t.3 t.1)
  head_place w v s ms head (Notices u) t = (world.NoticedAt t.0 v u, t.1, noticed_place draws t.0 v u)

  -- the lines of a step have its place
  pub step_placed : (w : World) (v : ℕ) (s : Vat Name) (ms : List (Message Name)) (head : List Event) (step : Step Name Name) → IsTaken script w v s ms head step → (ls : List Link) (whole so rest : List (Happened Name)) → whole ≡ so ++ rest → place_of (At draws ls v (w.history ++ head) so) ≡ v + 1
  step_placed w v s ms head step t ls whole so rest q = let h = head_place w v s ms head step t in
      subst (λ es. place_of (lines draws es) ≡ v + 1) (ap (λ es. es ++ events_of ls v so) (ap (λ es. w.history ++ es) (sym h.1))) (subst (λ es. place_of (lines draws es) ≡ v + 1) (sym (append_assoc w.history (h.0 ∷ []) (events_of ls v so)))
      (step_place draws ls v w.history h.0 whole (events_of ls v so) (events_of ls v rest) h.2 (ap (events_of ls v) q ∙ events_end ls v so rest)))

  -- ---- lines of another vat

  module _ (v a u : ℕ) (not : u ≡ v → ⊥) (ls : List Link) where
    event_away : (past : List Line) (e : Happened Name) → place_of past ≡ u + 1 → calls draws v a (and_lines past (shown_events draws (event_of ls u e))) ≡ calls draws v a past
    unfolding event_of shown_events show.shown_event
    event_away past (Posted w m) p = lost (world.is_cut u w ls)
      where
        lost : (b : Bool) → calls draws v a (and_lines past (shown_events draws (pick b (LostCut m ∷ []) []))) ≡ calls draws v a past
        lost true = quiet_calls draws v a past (LostCut m) (λ w f q. cc)
        lost false = refl
    event_away past e p = ap (λ fs. calls draws v a (and_lines past fs)) (append-nil (show.shown_happened draws u e)) ∙ happened_away draws v a u not past p e

    step_away : (pre : List Event) (whole : List (Happened Name)) → ((so rest : List (Happened Name)) → whole ≡ so ++ rest → place_of (At draws ls u pre so) ≡ u + 1) → (so more : List (Happened Name)) → whole ≡ so ++ more
        → calls draws v a (At draws ls u pre whole) ≡ calls draws v a (At draws ls u pre so)
    unfolding events_of
    step_away pre whole placed so [] q = ap (λ es. calls draws v a (At draws ls u pre es)) (q ∙ append-nil so)
    step_away pre whole placed so (e ∷ more) q = step_away pre whole placed (so ++ e ∷ []) more (q ∙ sym (append_assoc so (e ∷ []) more)) ∙ one
      where
        one : calls draws v a (At draws ls u pre (so ++ e ∷ [])) ≡ calls draws v a (At draws ls u pre so)
        one = ap (λ es. calls draws v a (lines draws (pre ++ es))) (events_end ls u so (e ∷ []) ∙ ap (λ xs. events_of ls u so ++ xs) (append-nil (event_of ls u e)))
            ∙ ap (λ es. calls draws v a (lines draws es)) (sym (append_assoc pre (events_of ls u so) (event_of ls u e)))
            ∙ ap (calls draws v a) (lines_end draws v a (pre ++ events_of ls u so) (event_of ls u e)) ∙ event_away (At draws ls u pre so) e (placed so (e ∷ more) q)

  -- ---- a run

  abbrev pub IsShut : World → Type 0
  IsShut w = (v a : ℕ) → calls draws v a (lines draws w.history) ≡ []

  shut_on : (w x : World) → IsShut w → Leads script w x → IsShut x
  unfolding events_of readied
  shut_on w x h (quiet es none few vats more) v a = ap (λ es. calls draws v a (lines draws es)) more ∙ nobodys_calls draws v a w.history es none ∙ h v a
  shut_on w x h (steps u s t ms head step ls at taken none d new vats more) v a = ap (λ es. calls draws v a (lines draws es)) more ∙ either (u == v) refl
    where
      placed : (so rest : List (Happened Name)) → t.happened ≡ so ++ rest → place_of (At draws ls u (w.history ++ head) so) ≡ u + 1
      placed so rest q = step_placed w u s ms head step taken ls t.happened so rest q

      before : (v a : ℕ) → calls draws v a (lines draws (w.history ++ head)) ≡ []
      before v a = nobodys_calls draws v a w.history head none ∙ h v a

      away : (u ≡ v → ⊥) → calls draws v a (At draws ls u (w.history ++ head) t.happened) ≡ []
      away not = step_away v a u not ls (w.history ++ head) t.happened placed [] t.happened refl ∙ ap (λ es. calls draws v a (lines draws es)) (append-nil (w.history ++ head)) ∙ before v a

      own : calls draws u a (At draws ls u (w.history ++ head) t.happened) ≡ []
      own = opens_none draws ls u (w.history ++ head) t.happened placed (before u) (step_nested script u step (readied w (record s { queue = ms })) t refl d) a

      either : (b : Bool) → (u == v) ≡ b → calls draws v a (At draws ls u (w.history ++ head) t.happened) ≡ []
      either true q = subst (λ z. calls draws z a (At draws ls u (w.history ++ head) t.happened) ≡ []) (eqb-true u v q) own
      either false q = away (λ e. differ e q)
        where
          differ : u ≡ v → (u == v) ≡ false → ⊥
          differ e r = let s : (u == v) ≡ true = eq-eqb u v e in cc

  -- no call is open in a world that the run comes to
  pub came_shut : (w : World) → Came script w → IsShut w
  unfolding world.begins shown_events
  came_shut w first = λ v a. refl
  came_shut x (onward {w = w} c r real l) = shut_on w x (came_shut w c) l
