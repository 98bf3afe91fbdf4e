-- Each law of runs, from the law of steps.
use Rattle.std.proofs.Common.{◌≡◌, ℕ, ◌≤◌, List, [], ◌++◌, refl, sym, ap, ◌∙◌, append_assoc, append-nil, arith}
use Rattle.def_machine.specs.Values.{Name}
use Rattle.def_machine.specs.State.{Vat, Done, Gives}
use Rattle.law_machine.specs.Machine.Steps.{does, After}
use Rattle.law_machine.specs.Machine.Laws.{NoMoreFuel, SameObjects, SameResolvers, DeadEjectors, DeadAuditions, SameLists, SameGuards, SameNames, SettledStays, NoticedStays}
use Rattle.law_machine.proofs.Machine.StepLaws.{fuel_stays, objects_stays, resolvers_stays, ejectors_stays, auditions_stays, lists_stays, guards_stays, names_stays, settled_stays, noticed_stays}
use Rattle.def_run.specs.World.{Script, Program, open_from, Entry, Event, World, Goes, put_back, readied, within, names, events_of, steps_from}
use Rattle.law_machine.specs.Run.Runs.{EachVat}
use Rattle.law_machine.proofs.Run.RunKeeps.{IsKeptByRuns, IsKeptInRuns, each_kept, run_keeps, opens_keep}

objects_in_runs : (script : Script) → IsKeptInRuns script (λ v. SameObjects)
unfolding readied
objects_in_runs script = record {
  same = λ v s i node caught stamps e. e;
  trans = λ v s t u h k i node caught stamps e. k i node caught stamps (h i node caught stamps e);
  steps = λ v what s. objects_stays (names script v) what s;
  ready = λ v w s i node caught stamps e. e;
  taken = λ v s ms i node caught stamps e. e;
}

pub objects_run : (script : Script) (es : List Entry) (k : ℕ) (w x : World) → steps_from script es k w ≡ Goes x → EachVat (λ v. SameObjects) w x
objects_run script = run_keeps script (EachVat (λ v. SameObjects)) (each_kept script (λ v. SameObjects) (objects_in_runs script))

pub objects_open : (script : Script) (v : ℕ) (ps : List Program) (w x : World) → open_from script v ps w ≡ Goes x → EachVat (λ v. SameObjects) w x
objects_open script = opens_keep script (EachVat (λ v. SameObjects)) (each_kept script (λ v. SameObjects) (objects_in_runs script))

resolvers_in_runs : (script : Script) → IsKeptInRuns script (λ v. SameResolvers)
unfolding readied
resolvers_in_runs script = record {
  same = λ v s i p e. e;
  trans = λ v s t u h k i p e. k i p (h i p e);
  steps = λ v what s. resolvers_stays (names script v) what s;
  ready = λ v w s i p e. e;
  taken = λ v s ms i p e. e;
}

pub resolvers_run : (script : Script) (es : List Entry) (k : ℕ) (w x : World) → steps_from script es k w ≡ Goes x → EachVat (λ v. SameResolvers) w x
resolvers_run script = run_keeps script (EachVat (λ v. SameResolvers)) (each_kept script (λ v. SameResolvers) (resolvers_in_runs script))

pub resolvers_open : (script : Script) (v : ℕ) (ps : List Program) (w x : World) → open_from script v ps w ≡ Goes x → EachVat (λ v. SameResolvers) w x
resolvers_open script = opens_keep script (EachVat (λ v. SameResolvers)) (each_kept script (λ v. SameResolvers) (resolvers_in_runs script))

ejectors_in_runs : (script : Script) → IsKeptInRuns script (λ v. DeadEjectors)
unfolding readied
ejectors_in_runs script = record {
  same = λ v s i e. e;
  trans = λ v s t u h k i e. k i (h i e);
  steps = λ v what s. ejectors_stays (names script v) what s;
  ready = λ v w s i e. e;
  taken = λ v s ms i e. e;
}

pub ejectors_run : (script : Script) (es : List Entry) (k : ℕ) (w x : World) → steps_from script es k w ≡ Goes x → EachVat (λ v. DeadEjectors) w x
ejectors_run script = run_keeps script (EachVat (λ v. DeadEjectors)) (each_kept script (λ v. DeadEjectors) (ejectors_in_runs script))

pub ejectors_open : (script : Script) (v : ℕ) (ps : List Program) (w x : World) → open_from script v ps w ≡ Goes x → EachVat (λ v. DeadEjectors) w x
ejectors_open script = opens_keep script (EachVat (λ v. DeadEjectors)) (each_kept script (λ v. DeadEjectors) (ejectors_in_runs script))

auditions_in_runs : (script : Script) → IsKeptInRuns script (λ v. DeadAuditions)
unfolding readied
auditions_in_runs script = record {
  same = λ v s i view e. e;
  trans = λ v s t u h k i view e. k i view (h i view e);
  steps = λ v what s. auditions_stays (names script v) what s;
  ready = λ v w s i view e. e;
  taken = λ v s ms i view e. e;
}

pub auditions_run : (script : Script) (es : List Entry) (k : ℕ) (w x : World) → steps_from script es k w ≡ Goes x → EachVat (λ v. DeadAuditions) w x
auditions_run script = run_keeps script (EachVat (λ v. DeadAuditions)) (each_kept script (λ v. DeadAuditions) (auditions_in_runs script))

pub auditions_open : (script : Script) (v : ℕ) (ps : List Program) (w x : World) → open_from script v ps w ≡ Goes x → EachVat (λ v. DeadAuditions) w x
auditions_open script = opens_keep script (EachVat (λ v. DeadAuditions)) (each_kept script (λ v. DeadAuditions) (auditions_in_runs script))

lists_in_runs : (script : Script) → IsKeptInRuns script (λ v. SameLists)
unfolding readied
lists_in_runs script = record {
  same = λ v s i x e. e;
  trans = λ v s t u h k i x e. k i x (h i x e);
  steps = λ v what s. lists_stays (names script v) what s;
  ready = λ v w s i x e. e;
  taken = λ v s ms i x e. e;
}

pub lists_run : (script : Script) (es : List Entry) (k : ℕ) (w x : World) → steps_from script es k w ≡ Goes x → EachVat (λ v. SameLists) w x
lists_run script = run_keeps script (EachVat (λ v. SameLists)) (each_kept script (λ v. SameLists) (lists_in_runs script))

pub lists_open : (script : Script) (v : ℕ) (ps : List Program) (w x : World) → open_from script v ps w ≡ Goes x → EachVat (λ v. SameLists) w x
lists_open script = opens_keep script (EachVat (λ v. SameLists)) (each_kept script (λ v. SameLists) (lists_in_runs script))

guards_in_runs : (script : Script) → IsKeptInRuns script (λ v. SameGuards)
unfolding readied
guards_in_runs script = record {
  same = λ v s i c e. (c, e, refl);
  trans = λ v s t u h k i c e. let d = h i c e in let f = k i d.0 d.1 in (f.0, f.1, f.2 ∙ d.2);
  steps = λ v what s. guards_stays (names script v) what s;
  ready = λ v w s i c e. (c, e, refl);
  taken = λ v s ms i c e. (c, e, refl);
}

pub guards_run : (script : Script) (es : List Entry) (k : ℕ) (w x : World) → steps_from script es k w ≡ Goes x → EachVat (λ v. SameGuards) w x
guards_run script = run_keeps script (EachVat (λ v. SameGuards)) (each_kept script (λ v. SameGuards) (guards_in_runs script))

pub guards_open : (script : Script) (v : ℕ) (ps : List Program) (w x : World) → open_from script v ps w ≡ Goes x → EachVat (λ v. SameGuards) w x
guards_open script = opens_keep script (EachVat (λ v. SameGuards)) (each_kept script (λ v. SameGuards) (guards_in_runs script))

names_in_runs : (script : Script) → IsKeptInRuns script (λ v. SameNames)
unfolding readied
names_in_runs script = record {
  same = λ v s i x e. (x, e, refl, refl);
  trans = λ v s t u h k i x e. let d = h i x e in let f = k i d.0 d.1 in (f.0, f.1, f.2 ∙ d.2, f.3 ∙ d.3);
  steps = λ v what s. names_stays (names script v) what s;
  ready = λ v w s i x e. (x, e, refl, refl);
  taken = λ v s ms i x e. (x, e, refl, refl);
}

pub names_run : (script : Script) (es : List Entry) (k : ℕ) (w x : World) → steps_from script es k w ≡ Goes x → EachVat (λ v. SameNames) w x
names_run script = run_keeps script (EachVat (λ v. SameNames)) (each_kept script (λ v. SameNames) (names_in_runs script))

pub names_open : (script : Script) (v : ℕ) (ps : List Program) (w x : World) → open_from script v ps w ≡ Goes x → EachVat (λ v. SameNames) w x
names_open script = opens_keep script (EachVat (λ v. SameNames)) (each_kept script (λ v. SameNames) (names_in_runs script))

notices_in_runs : (script : Script) → IsKeptInRuns script (λ v. NoticedStays)
unfolding readied
notices_in_runs script = record {
  same = λ v s x e. e;
  trans = λ v s t u h k x e. k x (h x e);
  steps = λ v what s. noticed_stays (names script v) what s;
  ready = λ v w s x e. e;
  taken = λ v s ms x e. e;
}

pub notices_run : (script : Script) (es : List Entry) (k : ℕ) (w x : World) → steps_from script es k w ≡ Goes x → EachVat (λ v. NoticedStays) w x
notices_run script = run_keeps script (EachVat (λ v. NoticedStays)) (each_kept script (λ v. NoticedStays) (notices_in_runs script))

pub notices_open : (script : Script) (v : ℕ) (ps : List Program) (w x : World) → open_from script v ps w ≡ Goes x → EachVat (λ v. NoticedStays) w x
notices_open script = opens_keep script (EachVat (λ v. NoticedStays)) (each_kept script (λ v. NoticedStays) (notices_in_runs script))

settlings_in_runs : (script : Script) → IsKeptInRuns script (λ v. SettledStays (names script v))
unfolding readied
settlings_in_runs script = record {
  same = λ v s n k y e h. e;
  trans = λ v s t u h j n k y e i. j n k y (h n k y e i) i;
  steps = λ v what s. settled_stays (names script v) what s;
  ready = λ v w s n k y e h. e;
  taken = λ v s ms n k y e h. e;
}

pub settlings_run : (script : Script) (es : List Entry) (k : ℕ) (w x : World) → steps_from script es k w ≡ Goes x → EachVat (λ v. SettledStays (names script v)) w x
settlings_run script = run_keeps script (EachVat (λ v. SettledStays (names script v))) (each_kept script (λ v. SettledStays (names script v)) (settlings_in_runs script))

pub settlings_open : (script : Script) (v : ℕ) (ps : List Program) (w x : World) → open_from script v ps w ≡ Goes x → EachVat (λ v. SettledStays (names script v)) w x
settlings_open script = opens_keep script (EachVat (λ v. SettledStays (names script v))) (each_kept script (λ v. SettledStays (names script v)) (settlings_in_runs script))

-- ---- the fuel and the history of the world

abbrev FuelFalls : World → World → Type 0
FuelFalls w x = x.fuel ≤ w.fuel

abbrev Longer : World → World → Type 0
Longer w x = (es : List Event) × (x.history ≡ w.history ++ es)

world_same : (w x : World) → Goes w ≡ Goes x → w ≡ x
world_same w x e = cc

fuel_put_back : (v : ℕ) (w x : World) (head : List Event) (n : ℕ) (r : Vat Name) (d : Done Name (Unit {0})) → r.fuel ≡ w.fuel → After NoMoreFuel r d → put_back v w head n d ≡ Goes x → FuelFalls w x
unfolding put_back
fuel_put_back v w x head n r (Gives a t) f h i = let same : t.fuel ≡ x.fuel = ap (λ (y : World). y.fuel) (world_same _ x i) in omega arith
fuel_put_back v w x head n r other f h i = cc

fuel_kept : (script : Script) → IsKeptByRuns script FuelFalls
unfolding within readied
fuel_kept script = record {
  same = λ w. omega arith;
  trans = λ w x y h k. omega arith;
  adds = λ w ls es. omega arith;
  links = λ w ls. omega arith;
  vat = λ v w x head n what s q e b i. fuel_put_back v w x head n (readied w q) (does (names script v) what (readied w q)) refl (fuel_stays (names script v) what (readied w q)) i;
}

pub fuel_run : (script : Script) (es : List Entry) (k : ℕ) (w x : World) → steps_from script es k w ≡ Goes x → FuelFalls w x
fuel_run script = run_keeps script FuelFalls (fuel_kept script)

pub fuel_open : (script : Script) (v : ℕ) (ps : List Program) (w x : World) → open_from script v ps w ≡ Goes x → FuelFalls w x
fuel_open script = opens_keep script FuelFalls (fuel_kept script)

history_put_back : (v : ℕ) (w x : World) (head : List Event) (n : ℕ) (d : Done Name (Unit {0})) → put_back v w head n d ≡ Goes x → Longer w x
unfolding put_back
history_put_back v w x head n (Gives a t) i = let same : (w.history ++ head) ++ events_of w.links v t.happened ≡ x.history = ap (λ (y : World). y.history) (world_same _ x i) in
    (head ++ events_of w.links v t.happened, sym same ∙ append_assoc w.history head (events_of w.links v t.happened))
history_put_back v w x head n other i = cc

history_trans : (w x y : World) → Longer w x → Longer x y → Longer w y
history_trans w x y h k = (h.0 ++ k.0, k.1 ∙ ap (λ l. l ++ k.0) h.1 ∙ append_assoc w.history h.0 k.0)

history_kept : (script : Script) → IsKeptByRuns script Longer
unfolding within
history_kept script = record {
  same = λ w. ([], sym (append-nil w.history));
  trans = history_trans;
  adds = λ w ls es. (es, refl);
  links = λ w ls. ([], sym (append-nil w.history));
  vat = λ v w x head n what s q e b i. history_put_back v w x head n (does (names script v) what (readied w q)) i;
}

pub history_run : (script : Script) (es : List Entry) (k : ℕ) (w x : World) → steps_from script es k w ≡ Goes x → Longer w x
history_run script = run_keeps script Longer (history_kept script)

pub history_open : (script : Script) (v : ℕ) (ps : List Program) (w x : World) → open_from script v ps w ≡ Goes x → Longer w x
history_open script = opens_keep script Longer (history_kept script)
