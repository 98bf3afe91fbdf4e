-- Which object's code an activation of a run runs, as its lines tell.
use Rattle.std.specs.Prelude.{◌≡◌, ℕ, List, ◌∷◌, ◌++◌, Some}
use Rattle.def_machine.specs.Values.{Words, Value, Ref, Name, Object, Promise, Naming, Own, spot_of}
use Rattle.def_machine.specs.State.{Message, Settled, Known, Happened, Took, Called, Settles, PromiseMade}
use Rattle.def_machine.specs.Refs.{standing_of}
use Rattle.def_run.specs.World.{Script, Event, Here, World, names, events_of, run}
use Rattle.def_run.specs.Shown.{shown_name}
use Rattle.def_run.specs.Text.{history_of}
use Rattle.law_uses.specs.Connectivity.Known.{IsAmong, AreOne, Reaches, Runs}
use Rattle.law_uses.specs.Connectivity.Connected.{held_from}
use Rattle.law_uses.specs.Connectivity.Begotten.{LineOf}
use Rattle.law_uses.specs.Connectivity.Stems.{HasLine}
use Rattle.law_fate.specs.Name.Runs.{KnowsOnce}
use Rattle.law_uses.specs.Running.Runs.{IsRun}
use Rattle.law_uses.specs.Running.Facts.{lines_of, activation}
use Rattle.def_event.specs.Uses as uses

-- ---- ways by settlings alone

module _ (K : Naming Name Name) (before : List (Known Name)) where
  -- A value leads to another by what names settled to, before the step or in these lines of it, and by no view.
  pub data SettledWay (so : List (Happened Name)) : Value Name → Value Name → Type 0 where
    itself : {x : Value Name} → SettledWay so x x
    settled : {n : Name} {z : Value Name} (y : Value Name) → standing_of K before n ≡ Settled y → SettledWay so y z → SettledWay so (Ref n) z
    settles : {n : Name} {z : Value Name} (p : Name) (y : Value Name) → IsAmong (Settles p y) so → AreOne K before p n → SettledWay so y z → SettledWay so (Ref n) z

-- ---- what is asked

-- names that settled at one vat are shown as different names
abbrev pub SettledApart : Script → List ℕ → Type 0
SettledApart script draws = (v : ℕ) (m n : Name) (y z : Value Name) → IsAmong (Here v (Settles m y)) (history_of (run script)) → IsAmong (Here v (Settles n z)) (history_of (run script)) → shown_name draws m ≡ shown_name draws n → m ≡ n

-- no object settles
abbrev pub ObjectsSettleNot : Script → Type 0
ObjectsSettleNot script = (v u i : ℕ) (y : Value Name) → IsAmong (Here v (Settles (Object u i) y)) (history_of (run script)) → ⊥

module _ {script : Script} {w : World} {v : ℕ} {e : Happened Name} (l : LineOf script w v e) where
  -- where a value leads to an object of the vat by the lines of the step so far, it does so by settlings alone
  abbrev pub WaysAreSettled : Type 0
  WaysAreSettled = (front rest : List (Happened Name)) → l.so ≡ front ++ rest → (x : Value Name) (n : Name) (i : ℕ) → Reaches (names script v) l.before.known front x (Ref n) → spot_of v n ≡ Own i → SettledWay (names script v) l.before.known front x (Ref n)

  -- a call that begins an activation is on what leads to an object of the vat by the lines before it
  abbrev pub CallsAreOnObjects : Type 0
  CallsAreOnObjects = (front rest : List (Happened Name)) (a b : ℕ) (x : Value Name) (verb : Words) (args : List (Value Name)) → l.so ≡ front ++ Called a x verb args (Some b) ∷ rest
      → (n : Name) × (i : ℕ) × Reaches (names script v) l.before.known front x (Ref n) × (spot_of v n ≡ Own i)

  -- a message that is taken on a name is taken on an object of the vat
  abbrev pub TakesAreOnObjects : Type 0
  TakesAreOnObjects = (a : ℕ) (m : Message Name) (n : Name) → IsAmong (Took a m) l.so → m.target ≡ Ref n → (i : ℕ) × (spot_of v n ≡ Own i)

  -- each promise that the step makes is one of the vat's own
  abbrev pub PromisesAreOwn : Type 0
  PromisesAreOwn = (a : ℕ) (p r : Name) → IsAmong (PromiseMade a p r) l.after.happened → (i : ℕ) × (p ≡ Promise v i)

  -- the events before the line
  abbrev pub events_before : List Event
  events_before = (l.from.history ++ l.head) ++ events_of l.links v l.so

  -- what names settled to before the step, lines before it tell
  abbrev pub StandingsAreTold : Type 0
  StandingsAreTold = (n : Name) (y : Value Name) → standing_of (names script v) l.before.known n ≡ Settled y → HasLine l.from v (Settles n y)

-- ---- the law

-- Where the machine says of an activation, by the lines of a step so far, which object's code it runs, the lines of the run say so too.
abbrev pub LinesTellWhatRuns : Type 0
LinesTellWhatRuns = (script : Script) (draws : List ℕ) → SettledApart script draws → ObjectsSettleNot script → (w : World) (v : ℕ) (e : Happened Name) (l : LineOf script w v e) (k : List Event) → history_of (run script) ≡ events_before l ++ Here v e ∷ k
    → StandingsAreTold l → WaysAreSettled l → CallsAreOnObjects l → TakesAreOnObjects l
    → (b i : ℕ) → Runs (names script v) (held_from l.step l.before l.after) l.so b i → uses.Runs (lines_of draws (events_before l)) (activation v b) (shown_name draws (Object v i))

-- the history of that world has each line of the run
abbrev pub HasEachLine : Script → World → Type 0
HasEachLine script x = (v : ℕ) (e : Happened Name) → IsAmong (Here v e) (history_of (run script)) → IsAmong (Here v e) x.history

-- In a run, whatever the machine says by the lines of a step so far of which object's code an activation runs, the lines of the run say too.
abbrev pub TurnsTellWhatRuns : Type 0
TurnsTellWhatRuns = (script : Script) (draws : List ℕ) → KnowsOnce script → SettledApart script draws → (x : World) → IsRun script x → HasEachLine script x
    → (w : World) (v : ℕ) (e : Happened Name) (l : LineOf script w v e) → IsRun script l.from → (k : List Event) → history_of (run script) ≡ events_before l ++ Here v e ∷ k → CallsAreOnObjects l → PromisesAreOwn l
    → (b i : ℕ) → Runs (names script v) (held_from l.step l.before l.after) l.so b i → uses.Runs (lines_of draws (events_before l)) (activation v b) (shown_name draws (Object v i))
