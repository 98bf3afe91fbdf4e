-- Each step of the run in numbers keeps what the code of a run asks of it, where the runs mirror each other.
use Rattle.std.specs.Prelude.{◌≡◌, ℕ, zero, ◌<◌, false, List, [], ◌∷◌, ◌++◌, Some, length, slice_get, slice_set}
use Rattle.def_machine.specs.Values.{Name, host_of, Local, Prom}
use Rattle.def_machine.specs.State.{Message, Note, Vat, Gives, Act}
use Rattle.def_machine.specs.Arrive.{Incoming, arrive, notice}
use Rattle.def_machine.specs.Eval.{opening, taking}
use Rattle.def_run.specs.Connections.{Heard}
use Rattle.def_run.specs.Wire.{connected_at}
use Rattle.def_run.specs.World.{Script, Program, Entry, Turn, Carry, CutLink, NoticeLink, World, tree_at}
use Rattle.def_run.specs.Numbers.{Vats, Runs, Way, Frame, begins, given, numbers, open_from, open_member, ready, step, steps_from, way_at}
use Rattle.def_run.specs.Vats.{Member, connection_for, heard_in, heard_on}
use Rattle.law_fate.specs.Name.Names.{AllOf, IsAmong, Once}
use Rattle.law_fate.specs.Name.Runs.{KnowsOnce}
use Rattle.law_fate.specs.Fates.WholeFateRuns.{KnowsVats}
use Rattle.law_reference.specs.Reference.ApartAsking.{InRunsBehindCuts}
use Rattle.law_frame.specs.Local.Joined.{IsLawful}
use Rattle.law_frame.specs.Local.Runs.{EachStepMirrors}
use Rattle.def_run.specs.Asking.{AskAnew}
use Rattle.def_run.specs.Steady.{ShownAlike, RunsSteadily}

-- what was told stays as it was told, in each opening turn and in each entry
pub record IsShownSteadily (script : Script) : Type 0 where
  pub opening : (ps rest : List Program) (p : Program) (w y : Vats) → script.vats ≡ ps ++ p ∷ rest → open_from script zero ps (begins script) ≡ Runs w
      → open_member script (length ps) p w (slice_get w.members (length ps)) ≡ Runs y → ShownAlike w.drawn y.drawn w
  pub entry : (es rest : List Entry) (e : Entry) (k : ℕ) (w x y : Vats) → script.schedule ≡ es ++ e ∷ rest → open_from script zero script.vats (begins script) ≡ Runs w → steps_from script es 1 w ≡ Runs x
      → step script e k x ≡ Runs y → ShownAlike x.drawn y.drawn x

-- so it is in each run that mirrors the machine's
abbrev pub RunsAreShownSteadily : Type 0
RunsAreShownSteadily = (script : Script) → KnowsOnce script → EachStepMirrors script → IsShownSteadily script

-- ---- what a step asks for

-- An act of vat m, as w finds it, asks for what is new.
abbrev pub ActAsksAnew : Vats → Member → Act Local (Unit {0}) → Type 0
ActAsksAnew w m act = (s : Vat Local) → act (ready w m.vat) ≡ Gives tt s → AskAnew s s.outbox m.connections

module _ (script : Script) where
  abbrev pub TurnAsksAnew : Vats → ℕ → Member → List (Message Local) → Type 0
  TurnAsksAnew w u m [] = Unit {0}
  TurnAsksAnew w u m (x ∷ xs) = (s : Vat Local) → taking (numbers script) (tree_at script.vats u) script.depth x (record (ready w m.vat) { queue = xs }) ≡ Gives tt s → AskAnew s s.outbox m.connections

  abbrev pub FrameAsksAnew : Vats → ℕ → Member → Frame → Type 0
  FrameAsksAnew w v m x = (h : Heard Local (Note (Incoming Local Local))) → heard_in v x.op m ≡ Some h → (s : Vat Local) → arrive (numbers script) v h.read (ready w m.vat) ≡ Gives tt s → AskAnew s s.outbox (slice_set m.connections v (heard_on h s (connection_for v m)))

  abbrev pub EntryAsksAnew : Vats → Entry → Type 0
  EntryAsksAnew w (Turn u) = (m : Member) → slice_get w.members u ≡ Some m → TurnAsksAnew w u m m.vat.queue
  EntryAsksAnew w (Carry v u) = (m : Member) (l : Way) (x : Frame) (xs : List Frame) → slice_get w.members u ≡ Some m → way_at v u w.ways ≡ Some l → l.cut ≡ false → l.frames ≡ x ∷ xs → FrameAsksAnew w v m x
  EntryAsksAnew w (CutLink v u) = Unit {0}
  EntryAsksAnew w (NoticeLink v u) = (m : Member) → slice_get w.members v ≡ Some m → ActAsksAnew w m (notice (numbers script) u)

-- so does each opening turn and each entry of a run
pub record RunAsksAnew (script : Script) : Type 0 where
  pub openings : (ps rest : List Program) (p : Program) (w : Vats) → script.vats ≡ ps ++ p ∷ rest → open_from script zero ps (begins script) ≡ Runs w
      → (m : Member) → slice_get w.members (length ps) ≡ Some m → ActAsksAnew w m (opening (numbers script) p.tree script.depth (Prom zero) (given script.vats 1 p.knows))
  pub entries : (es rest : List Entry) (e : Entry) (w x : Vats) → script.schedule ≡ es ++ e ∷ rest → open_from script zero script.vats (begins script) ≡ Runs w → steps_from script es 1 w ≡ Runs x
      → EntryAsksAnew script x e

-- ---- the run

-- Where each step of a run asks for what is new, all that the code of a run asks of it is so.
abbrev pub RunsAreSteadyWhereTheyAskAnew : Type 0
RunsAreSteadyWhereTheyAskAnew = (script : Script) → IsLawful script → EachStepMirrors script → RunAsksAnew script → RunsSteadily script

-- ---- what is new

-- of any two vats of a world
abbrev pub OfTwo : World → (ℕ → ℕ → Type 0) → Type 0
OfTwo w P = (u v : ℕ) → u < length w.vats → v < length w.vats → (v ≡ u → ⊥) → P u v

-- What the one has of what it asked the other for is of that one,
abbrev pub HostsAsked : World → Type 0
HostsAsked w = OfTwo w (λ u v. AllOf (λ n. host_of n ≡ v) (connected_at u v w.connections).tables.questions)

abbrev pub EachHostsAsked : Type 0
EachHostsAsked = InRunsBehindCuts HostsAsked

-- and was asked for once, and was not told by that one, be the two cut off from one another or not.
pub record AsksOnce (w : World) : Type 0 where
  pub asked : OfTwo w (λ u v. Once (connected_at u v w.connections).tables.questions)
  pub untold : OfTwo w (λ u v. (z : Name) → IsAmong z (connected_at u v w.connections).tables.questions → IsAmong z (connected_at u v w.connections).tables.imports → ⊥)

-- So in each world of a run in which each notice stands behind a cut of the same two vats.
abbrev pub EachAsksOnce : Type 0
EachAsksOnce = InRunsBehindCuts AsksOnce

-- Then each step asks for what is new, and all that the code of a run asks of it is so, where each vat of the script knows only vats of it.
abbrev pub RunsAreSteady : Type 0
RunsAreSteady = (script : Script) → IsLawful script → KnowsVats script → EachStepMirrors script → RunsSteadily script

-- And so of each lawful script, as each step of its run mirrors the machine's.
abbrev pub LawfulRunsAreSteady : Type 0
LawfulRunsAreSteady = (script : Script) → IsLawful script → KnowsVats script → RunsSteadily script
