-- When the history of a run with hostile vats is connected: each line of it is of an honest vat, and what it uses was known to the activation that used it, whatever frames came.
use Rattle.std.specs.Prelude.{◌≡◌, ℕ, false, List, [], ◌∷◌, ◌++◌, ◌⊎◌, Some, slice_get}
use Rattle.def_machine.specs.Values.{Name, Root}
use Rattle.def_machine.specs.State.{Message, Note, Happened, Vat, Gives}
use Rattle.def_machine.specs.Receive.{Sight, receive}
use Rattle.law_machine.specs.Machine.Steps.{Step, Opens as Starts, Takes, Receives, Notices, does}
use Rattle.def_run.specs.World.{Program, Opens, Turned, Carried, NoticedAt, Event, Link, World, link_at, next_frame, names, names_of, read_note, readied, tree_at, events_of}
use Rattle.def_hostile.specs.Hostile.{Play, Scene}
use Rattle.def_hostile.specs.Plays.{ComesTo}
use Rattle.law_adversary.specs.Moves.{entered_at, sight_at}
use Rattle.law_injected.specs.HostileRuns.{IsHostile}
use Rattle.law_scenes.specs.Doings.{IsReal, IsTakenFor}
use Rattle.law_uses.specs.Connectivity.Connected.{Connected, LineWell, held_from}
use Rattle.law_uses.specs.Connectivity.Stems.{HasLine}
use Rattle.law_uses.specs.Connectivity.Runs.{NothingLive}
use Rattle.law_uses.specs.Connectivity.UseLaws.{NextConnected}
use Rattle.law_uses.specs.Connectivity.Begotten.{AreRoots}

-- ---- a line

-- The step that vat v, which is s, takes in a world where the run tells so of it, the world once what is drawn before it is drawn, and the queue that it leaves: the opening turn of its own program, with its own root and the roots that it knows by the script;
-- a turn of the first message of its queue; a note that it receives by its entries, the first on a link to it that is not cut, whoever put it there; or a notice. After it the vat is t.
module _ (play : Play) (w : World) (v : ℕ) (s : Vat Name) (queue : List (Message Name)) (t : Vat Name) where
  abbrev pub IsTaken : List Event → World → Step Name Name → Type 0
  IsTaken head x (Starts tree depth root bs) = (p : Program) × (head ≡ Opens v ∷ []) × (x ≡ w) × (slice_get play.script.vats v ≡ Some p) × (queue ≡ s.queue) × (tree ≡ p.tree) × (depth ≡ play.script.depth) × (root ≡ Root v) × AreRoots play.script.vats p.knows bs
  IsTaken head x (Takes tree depth m) = (k : ℕ) × (head ≡ Turned k v ∷ []) × (x ≡ w) × (s.queue ≡ m ∷ queue) × (tree ≡ tree_at play.script.vats v) × (depth ≡ play.script.depth)
  IsTaken head x (Receives from n) = (k : ℕ) × (l : Link) × (y : Note Name) × (ys : List (Note Name)) × (m : Note Name) × (head ≡ Carried k from v (entered_at w from v s y) (next_frame from v w.connections) ∷ []) × (queue ≡ s.queue)
      × (link_at from v w.links ≡ Some l) × (l.cut ≡ false) × (l.notes ≡ y ∷ ys) × (receive (names play.script v) (sight_at w from v s) from (read_note (names_of s) (entered_at w from v s y)) (readied w s) ≡ Gives tt t)
      × IsTakenFor w (entered_at w from v s y) x m × (n ≡ read_note (names_of s) m)
  IsTaken head x (Notices u) = (k : ℕ) × (head ≡ NoticedAt k v u ∷ []) × (x ≡ w) × (queue ≡ s.queue)

-- A line of vat v in the history of a world: an earlier world of the run, the step that the vat, as it was there, took then and that told the line, and the lines of the step before it and after it.
-- The lines of the step stand together behind the history of the earlier world and the line that tells which step it is.
pub record LineOf (play : Play) (w : World) (v : ℕ) (e : Happened Name) : Type 0 where
  pub step : Step Name Name
  pub from : World
  pub vat : Vat Name
  pub queue : List (Message Name)
  pub drawn : World
  pub before : Vat Name
  pub after : Vat Name
  pub so : List (Happened Name)
  pub rest : List (Happened Name)
  pub links : List Link
  pub head : List Event
  pub later : List Event
  pub honest : IsHostile play v → ⊥
  pub real : IsReal play from
  pub here : slice_get from.vats v ≡ Some vat
  pub taken : IsTaken play from v vat queue after head drawn step
  pub ready : before ≡ readied drawn (record vat { queue = queue })
  pub stepped : does (names play.script v) step before ≡ Gives tt after
  pub together : w.history ≡ from.history ++ head ++ events_of links v after.happened ++ later
  pub told : after.happened ≡ so ++ e ∷ rest

-- it is connected: what it uses was known to the activation that used it, by the lines of the step before it
abbrev pub IsConnected : Play → World → ℕ → Happened Name → Type 0
IsConnected play w v e = (l : LineOf play w v e) × LineWell (names play.script v) (held_from l.step l.before l.after) l.so e

-- ---- the laws

-- It holds of each configuration to which a run with a hostile vat comes.
abbrev pub InPlays : (Play → World → Type 0) → Type 0
InPlays P = (play : Play) (h : ℕ) → IsHostile play h → (s : Scene) → ComesTo play s → P play s.world

-- No ejector and no audition is live, in any vat.
abbrev pub NothingLiveInPlays : Type 0
NothingLiveInPlays = InPlays (λ play w. NothingLive w)

-- The lines of each step that a vat of the configuration may begin are connected.
abbrev pub StepsAreConnectedInPlays : Type 0
StepsAreConnectedInPlays = InPlays (λ play w. NextConnected play.script w)

-- What a vat tells, being s in a world, that becomes t by a note which it receives: nothing, or the connected lines of a step, by what it takes the note for.
abbrev pub ReceivedConnected : Play → World → ℕ → Vat Name → ℕ → Note Name → Vat Name → Type 0
ReceivedConnected play w v s from n t = (t.happened ≡ []) ⊎ ((x : World) × (m : Note Name) × IsTakenFor w n x m
    × (let before : Vat Name = readied x s in let step : Step Name Name = Receives from (read_note (names_of s) m) in
    (does (names play.script v) step before ≡ Gives tt t) × Connected (names play.script v) (held_from step before t) t.happened))

-- whatever note comes to a vat of the configuration, from whomever, and whatever its entries tell of its names
abbrev pub ReceivingIsConnectedInPlays : Type 0
ReceivingIsConnectedInPlays = InPlays (λ play w. (v : ℕ) (s : Vat Name) → slice_get w.vats v ≡ Some s → (sight : Sight Name) (from : ℕ) (n : Note Name) (t : Vat Name)
    → receive (names play.script v) sight from (read_note (names_of s) n) (readied w s) ≡ Gives tt t → ReceivedConnected play w v s from n t)

-- Each line of a vat in the history is of an honest one, and is connected.
abbrev pub LinesConnected : Play → World → Type 0
LinesConnected play w = (v : ℕ) (e : Happened Name) → HasLine w v e → IsConnected play w v e

abbrev pub LinesAreConnectedInPlays : Type 0
LinesAreConnectedInPlays = InPlays LinesConnected
