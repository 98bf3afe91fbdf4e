-- Whose code the activations of a run's turns run, by the lines of the run: in a turn every way to an object goes by settlings.
use Rattle.std.proofs.Common.{◌≡◌, ℕ, zero, ◌+◌, false, List, ◌∷◌, ◌++◌, Option, Some, sym, ap, subst, inl, inr}
use Rattle.std.specs.Prelude.{slice_get}
use Rattle.def_machine.specs.Values.{Words, Value, Ref, Name, Object}
use Rattle.def_machine.specs.State.{Known, Settled, Happened, Called, Settles, Vat, Done, Gives}
use Rattle.def_machine.specs.Refs.{standing_of}
use Rattle.law_machine.specs.Machine.Steps.{does, After}
use Rattle.def_run.specs.World as world
use Rattle.def_run.specs.World.{Script, Event, Here, World, Run, Goes, Stopped, names, begins, run}
use Rattle.def_run.specs.Shown.{shown_name}
use Rattle.def_run.specs.Text.{history_of}
use Rattle.law_fate.specs.Name.Names.{IsEventual}
use Rattle.law_fate.specs.Name.Runs.{KnowsOnce}
use Rattle.law_fate.specs.Fates.FateRuns.{Reached}
use Rattle.law_uses.specs.Connectivity.Known.{IsAmong, IsThing, called, took}
use Rattle.law_uses.specs.Connectivity.Known as machine
use Rattle.law_uses.specs.Connectivity.Liveness.{live_at}
use Rattle.law_uses.specs.Connectivity.Connected.{Connected, held_from}
use Rattle.law_uses.specs.Connectivity.Begotten.{LineOf}
use Rattle.law_uses.specs.Connectivity.Runs.{NothingLive}
use Rattle.law_uses.specs.Connectivity.MessageLaws.{AllStem}
use Rattle.law_uses.proofs.Connectivity.RunStems.{messages_stem}
use Rattle.law_uses.proofs.Connectivity.RunDies.{opened_still, run_still}
use Rattle.law_uses.proofs.Connectivity.FineSteps.{steps_connect}
use Rattle.law_uses.proofs.Connectivity.FineRuns.{own_spots}
use Rattle.def_event.specs.Uses as uses
use Rattle.law_uses.specs.Running.Facts.{lines_of, activation}
use Rattle.law_uses.specs.Running.Runs.{IsRun}
use Rattle.law_uses.specs.Running.Running.{SettledApart, ObjectsSettleNot, WaysAreSettled, CallsAreOnObjects, PromisesAreOwn, StandingsAreTold, HasEachLine, TurnsTellWhatRuns, events_before}
use Rattle.law_uses.specs.Running.Resting.{IsTurn}
use Rattle.law_uses.proofs.Running.Course.{Course, opened_course, entered_course}
use Rattle.law_uses.proofs.Running.Stood.{course_stand, course_vats}
use Rattle.law_uses.proofs.Running.Ran.{way_told, lines_tell_what_runs}
use Rattle.law_uses.proofs.Running.Rings.{run_rings}
use Rattle.law_uses.proofs.Running.Resting.{ways_settled}
use Rattle.law_uses.proofs.Running.Names.{name_at, Mine, names_rest}
use Rattle.law_uses.proofs.Running.Steps.{settled_known, none_before, takes_on_objects, takes_in_turns, calls_in_turns, standings_told}

reached_at : (P : World → Type 0) (r : Run) (w : World) → r ≡ Goes w → Reached P r → P w
reached_at P (Goes x) w e h = let same : x ≡ w = cc in subst P same h
reached_at P (Stopped c k x) w e h = cc

module _ (script : Script) (x : World) where
  run_course_at : IsRun script x → Course script x
  run_course_at (inl (ps, rest, q, o)) = opened_course script ps rest x q o
  run_course_at (inr (w, es, k, follows, o, s)) = entered_course script w x es k o s

  pub run_stems : IsRun script x → AllStem x
  run_stems (inl (ps, rest, q, o)) = reached_at AllStem (world.open_from script zero ps (begins script)) x o ((messages_stem script).0 ps)
  run_stems (inr (w, es, k, follows, o, s)) = reached_at AllStem (world.steps_from script es k w) x s ((messages_stem script).1 w es k o)

  pub run_rests : IsRun script x → NothingLive x
  run_rests (inl (ps, rest, q, o)) = opened_still script ps x o
  run_rests (inr (w, es, k, follows, o, s)) = run_still script w x es k o s

-- what settles is known, and no object is
module _ (script : Script) (once : KnowsOnce script) (x : World) (real : IsRun script x) (whole : HasEachLine script x) where
  settled_not : (v u i : ℕ) (y : Value Name) (s : Vat Name) → slice_get x.vats v ≡ Some s → standing_of (names script v) s.known (Object u i) ≡ Settled y → ⊥
  settled_not v u i y s at q = let k = settled_known script v (Object u i) y s.known q in
      subst IsEventual k.2 (name_at (λ (z : Known Name). IsEventual z.name) s.known k.0 ((run_rings script once x real).by.vats v s at).names.eventual k.1)

  objects_settle_not : ObjectsSettleNot script
  objects_settle_not v u i y j = let h = whole v (Settles (Object u i) y) j in let s = course_vats script x (run_course_at script x real) v (Settles (Object u i) y) h in
      settled_not v u i y s.0 s.1 (course_stand script x (run_course_at script x real) v s.0 s.1 (Object u i) y h)

module _ {script : Script} {w : World} {v : ℕ} {e : Happened Name} (l : LineOf script w v e) (from : IsRun script l.from) where
  still : (i : ℕ) → live_at l.before.things i ≡ false
  unfolding world.readied
  still i = let same : l.before.things ≡ l.vat.things = ap (λ (s : Vat Name). s.things) l.ready in subst (λ ts. live_at ts i ≡ false) (sym same) (run_rests script l.from from v l.vat l.here i)

  after_connected : (d : Done Name (Unit {0})) → d ≡ Gives tt l.after → After (λ s t. Connected (names script v) (held_from l.step s t) t.happened) l.before d → Connected (names script v) (held_from l.step l.before l.after) l.after.happened
  after_connected (Gives u t) q h = let same : t ≡ l.after = cc in subst (λ (z : Vat Name). Connected (names script v) (held_from l.step l.before z) z.happened) same h
  after_connected other q h = cc

  wells : Connected (names script v) (held_from l.step l.before l.after) l.after.happened
  wells = after_connected (does (names script v) l.step l.before) l.stepped (steps_connect (names script v) (own_spots script v) l.step l.before (none_before l) still)

  ways : KnowsOnce script → PromisesAreOwn l → IsTurn l.step → WaysAreSettled l
  ways once promised turn = ways_settled l (Mine script once l from turn promised) (names_rest script once l from turn promised) wells

module _ (script : Script) (draws : List ℕ) (once : KnowsOnce script) (apart : SettledApart script draws) (plain : ObjectsSettleNot script) (w : World) (v : ℕ) (e : Happened Name) (l : LineOf script w v e) (from : IsRun script l.from) (k : List Event)
    (at : history_of (run script) ≡ events_before l ++ Here v e ∷ k) (calls : CallsAreOnObjects l) (promised : PromisesAreOwn l) where
  stands : StandingsAreTold l
  stands = standings_told l (run_stems script l.from from)

  each_runs : (b i : ℕ) → machine.Runs (names script v) (held_from l.step l.before l.after) l.so b i → uses.Runs (lines_of draws (events_before l)) (activation v b) (shown_name draws (Object v i))
  each_runs b i (called a x verb args m thing) = lines_tell_what_runs script draws apart plain w v e l k at stands (ways l from once promised (calls_in_turns l a x verb args (Some b) m)) calls (takes_on_objects l) b i (called a x verb args m thing)
  each_runs b i (took m among thing) = lines_tell_what_runs script draws apart plain w v e l k at stands (ways l from once promised (takes_in_turns l b m among)) calls (takes_on_objects l) b i (took m among thing)

  -- in a step that tells of a call, also what a value leads to by some of its lines
  each_way : (a : ℕ) (y : Value Name) (verb : Words) (args : List (Value Name)) (b : Option ℕ) → IsAmong (Called a y verb args b) l.so → (front rest : List (Happened Name)) → l.so ≡ front ++ rest → (x : Value Name) (i : ℕ) → IsThing (names script v) l.before.known front x i
      → (n : Name) × (x ≡ Ref n) × uses.IsFollowed (lines_of draws ((l.from.history ++ l.head) ++ world.events_of l.links v front)) (v + 1) (shown_name draws n) (shown_name draws (Object v i))
  each_way a y verb args b m front rest q x i t = way_told script draws apart plain w v e l k at stands (ways l from once promised (calls_in_turns l a y verb args b m)) calls (takes_on_objects l) front rest q x i t

pub ways_told : (script : Script) (draws : List ℕ) → KnowsOnce script → SettledApart script draws → (x : World) → IsRun script x → HasEachLine script x
    → (w : World) (v : ℕ) (e : Happened Name) (l : LineOf script w v e) → IsRun script l.from → (k : List Event) → history_of (run script) ≡ events_before l ++ Here v e ∷ k → CallsAreOnObjects l → PromisesAreOwn l
    → (a : ℕ) (y : Value Name) (verb : Words) (args : List (Value Name)) (b : Option ℕ) → IsAmong (Called a y verb args b) l.so → (front rest : List (Happened Name)) → l.so ≡ front ++ rest → (z : Value Name) (i : ℕ) → IsThing (names script v) l.before.known front z i
    → (n : Name) × (z ≡ Ref n) × uses.IsFollowed (lines_of draws ((l.from.history ++ l.head) ++ world.events_of l.links v front)) (v + 1) (shown_name draws n) (shown_name draws (Object v i))
ways_told script draws once apart x real whole w v e l from k at calls promised a y verb args b m front rest q z i t = each_way script draws once apart (objects_settle_not script once x real whole) w v e l from k at calls promised a y verb args b m front rest q z i t

pub turns_tell_what_runs : TurnsTellWhatRuns
turns_tell_what_runs script draws once apart x real whole w v e l from k at calls promised b i r = each_runs script draws once apart (objects_settle_not script once x real whole) w v e l from k at calls promised b i r
