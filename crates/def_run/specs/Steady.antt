-- What the code of a run asks of it: facts of the machine, of each step of the run in numbers.
use Rattle.std.specs.Prelude.{◌≡◌, ℕ, zero, Bool, true, false, List, [], ◌∷◌, ◌++◌, Some, drop, length, map, slice_get, slice_set}
use Rattle.def_machine.specs.Values.{Local, Prom}
use Rattle.def_machine.specs.State.{Message, Note, Vat, Gives, Act}
use Rattle.def_machine.specs.Arrive.{Incoming, arrive, notice}
use Rattle.def_machine.specs.Eval.{opening, taking}
use Rattle.def_run.specs.Connections.{Connection, Heard}
use Rattle.def_run.specs.Shown.{shown_name, shown_note}
use Rattle.def_run.specs.Text.{shown_events}
use Rattle.def_run.specs.World.{Script, Program, Entry, Turn, Carry, CutLink, NoticeLink, tree_at}
use Rattle.def_run.specs.Vats.{Member, asked_by, connection_for, heard_in, heard_on, is_own}
use Rattle.def_run.specs.Numbers.{Vats, Runs, Way, Frame, begins, given, numbers, open_from, open_member, ready, step, steps_from, way_at}
use Rattle.def_run.specs.Asking.{AskAnew}
use Rattle.def_run.specs.Seeing.{SeesAsBefore}

-- ---- a step

-- all of these are the vat's own, or none
abbrev pub AllOwn : Bool → Vat Local → List Local → Type 0
AllOwn b s [] = Unit {0}
AllOwn b s (n ∷ ns) = (is_own s.number s.known n ≡ b) × AllOwn b s ns

-- Vat m, which has these connections once what arrived was heard, is left in state s: what had a number is its own or not as before, and what its notes ask for is new.
pub record StepIsSteady (m : Member) (cs : List (Connection Local)) (s : Vat Local) : Type 0 where
  pub owns : SeesAsBefore m.vat s m.connections
  pub asks : AskAnew s s.outbox cs

-- So is it, and what came to stand at positions is of other vats, and what is answered is the vat's own.
pub record HearingIsSteady (v : ℕ) (m : Member) (h : Heard Local (Note (Incoming Local Local))) (s : Vat Local) : Type 0 where
  pub step : StepIsSteady m (slice_set m.connections v (heard_on h s (connection_for v m))) s
  pub imports : AllOwn false s (drop (length (connection_for v m).imports) h.after.imports)
  pub answers : AllOwn true s (asked_by h.after.known s h.read)

-- an act of vat m, as w finds it
abbrev pub ActIsSteady : Vats → Member → Act Local (Unit {0}) → Type 0
ActIsSteady w m act = (s : Vat Local) → act (ready w m.vat) ≡ Gives tt s → StepIsSteady m m.connections s

module _ (script : Script) where
  abbrev pub TurnIsSteady : Vats → ℕ → Member → List (Message Local) → Type 0
  TurnIsSteady w u m [] = Unit {0}
  TurnIsSteady w u m (x ∷ xs) = (s : Vat Local) → taking (numbers script) (tree_at script.vats u) script.depth x (record (ready w m.vat) { queue = xs }) ≡ Gives tt s → StepIsSteady m m.connections s

  abbrev pub FrameIsSteady : Vats → ℕ → Member → Frame → Type 0
  FrameIsSteady w v m x = (h : Heard Local (Note (Incoming Local Local))) → heard_in v x.op m ≡ Some h → (s : Vat Local) → arrive (numbers script) v h.read (ready w m.vat) ≡ Gives tt s → HearingIsSteady v m h s

  abbrev pub EntryIsSteady : Vats → Entry → Type 0
  EntryIsSteady w (Turn u) = (m : Member) → slice_get w.members u ≡ Some m → TurnIsSteady w u m m.vat.queue
  EntryIsSteady w (Carry v u) = (m : Member) (l : Way) (x : Frame) (xs : List Frame) → slice_get w.members u ≡ Some m → way_at v u w.ways ≡ Some l → l.cut ≡ false → l.frames ≡ x ∷ xs → FrameIsSteady w v m x
  EntryIsSteady w (CutLink v u) = Unit {0}
  EntryIsSteady w (NoticeLink v u) = (m : Member) → slice_get w.members v ≡ Some m → ActIsSteady w m (notice (numbers script) u)

-- ---- what is told stays as it was told

-- What was told, and what names and frames under way would be told as, is told alike under these draws and under those.
pub record ShownAlike (ds es : List ℕ) (w : Vats) : Type 0 where
  pub history : shown_events es w.history ≡ shown_events ds w.history
  pub names : (u : ℕ) (m : Member) → slice_get w.members u ≡ Some m → map (shown_name es) m.names.known ≡ map (shown_name ds) m.names.known
  pub frames : (v u : ℕ) (l : Way) → way_at v u w.ways ≡ Some l → map (λ (x : Frame). shown_note es u x.note) l.frames ≡ map (λ (x : Frame). shown_note ds u x.note) l.frames

-- ---- the run

-- It is so of each opening turn and of each entry of the schedule, from what the run has come to by then.
pub record RunsSteadily (script : Script) : Type 0 where
  pub openings : (ps rest : List Program) (p : Program) (w : Vats) → script.vats ≡ ps ++ p ∷ rest → open_from script zero ps (begins script) ≡ Runs w
      → (m : Member) → slice_get w.members (length ps) ≡ Some m → ActIsSteady w m (opening (numbers script) p.tree script.depth (Prom zero) (given script.vats 1 p.knows))
  pub entries : (es rest : List Entry) (e : Entry) (w x : Vats) → script.schedule ≡ es ++ e ∷ rest → open_from script zero script.vats (begins script) ≡ Runs w → steps_from script es 1 w ≡ Runs x
      → EntryIsSteady script x e
  pub shown_opening : (ps rest : List Program) (p : Program) (w y : Vats) → script.vats ≡ ps ++ p ∷ rest → open_from script zero ps (begins script) ≡ Runs w
      → open_member script (length ps) p w (slice_get w.members (length ps)) ≡ Runs y → ShownAlike w.drawn y.drawn w
  pub shown : (es rest : List Entry) (e : Entry) (k : ℕ) (w x y : Vats) → script.schedule ≡ es ++ e ∷ rest → open_from script zero script.vats (begins script) ≡ Runs w → steps_from script es 1 w ≡ Runs x
      → step script e k x ≡ Runs y → ShownAlike x.drawn y.drawn x
