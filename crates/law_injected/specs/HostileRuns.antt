-- A run in which vats are hostile, by moves: what its frames say is said, and then comes as a note does.
use Rattle.std.specs.Prelude.{◌≡◌, ℕ, zero, Bool, true, List, ◌++◌, Some, length, slice_get}
use Rattle.def_machine.specs.Values.{Name, Sent}
use Rattle.def_machine.specs.State.{Note, Vat, Gives}
use Rattle.def_machine.specs.Arrive.{Incoming}
use Rattle.def_machine.specs.Maps as maps
use Rattle.def_op.specs.Frames.{Operation}
use Rattle.def_run.specs.Connections.{Heard}
use Rattle.def_run.specs.Deeds.{Deed, perform_all}
use Rattle.def_run.specs.Wire.{connected_at}
use Rattle.def_run.specs.World.{Script, Program, World, names, readied}
use Rattle.def_hostile.specs.Judge.{Lawful as IsLawful, verdict}
use Rattle.def_hostile.specs.Hostile.{Play, Scene, Plays, Doing, is_hostile, counts, new_names, deeds_for, read_op, completed, name_in, starts, opens_from, does_all}
use Rattle.law_machine.specs.Machine.Laws.{SameObjects, SameLists, SettledStays, NoticedStays}
use Rattle.law_machine.specs.Run.Moves.{AnyNotice}
use Rattle.law_adversary.specs.Moves.{FramesReached}
use Rattle.law_machine.specs.Run.Runs.{EachVat}

abbrev pub AnyDeed : World → ℕ → Vat Name → Deed → Type 0
AnyDeed w v s d = Unit {0}

-- a hostile vat says nothing but in frames
abbrev pub NothingSaid : World → ℕ → ℕ → Vat Name → Note Name → Type 0
NothingSaid w v u t n = ⊥

module _ (play : Play) where
  abbrev pub IsHostile : ℕ → Type 0
  IsHostile v = is_hostile play v ≡ true

  -- The note is what a frame says, which is that operation and makes those names, and which is lawful from vat h at vat u, an honest one; and the record of h has become t, so as to have names for it.
  pub record IsSpoken (w : World) (h u : ℕ) (t : Vat Name) (n : Note Name) (op : Operation) (new : List Name) : Type 0 where
    pub bytes : List ℕ
    pub kinds : List Bool
    pub record_of : Vat Name
    pub reader : Vat Name
    pub heard : Heard Name (Note (Incoming Name Name))
    pub honest : IsHostile u → ⊥
    pub lawful : verdict (length play.script.vats) u h (counts (connected_at u h w.connections).tables) bytes ≡ IsLawful op kinds
    pub speaks : slice_get w.vats h ≡ Some record_of
    pub hears : slice_get w.vats u ≡ Some reader
    pub makes : new ≡ new_names h (length record_of.things) record_of.promises kinds
    pub reads : read_op play h u (connected_at u h w.connections).tables (new_names h (length record_of.things) record_of.promises kinds) (Sent (record { sender = h; number = record_of.messages })) op ≡ Some heard
    pub says : n ≡ completed play u reader (maps.note name_in heard.read)
    pub prepares : perform_all play.script h (deeds_for u kinds n) (readied w record_of) ≡ Gives tt t

  abbrev pub IsReached : World → Type 0
  IsReached w = FramesReached play.script IsHostile AnyNotice AnyDeed NothingSaid IsSpoken w

-- Every world of a run in which a vat is hostile is reached: each lawful frame is said, and then comes as a note does.
abbrev pub HostileRunsAreReached : Type 0
HostileRunsAreReached = (play : Play) (h : ℕ) → IsHostile play h
    → ((ps rest : List Program) (s : Scene) → play.script.vats ≡ ps ++ rest → opens_from play zero ps (starts play) ≡ Plays s → IsReached play s.world)
    × ((s t : Scene) (ds : List Doing) (k : ℕ) → opens_from play zero play.script.vats (starts play) ≡ Plays s → does_all play ds k s ≡ Plays t → IsReached play t.world)

-- from a scene to one after any doings, where a vat is hostile
abbrev pub KeptByDoings : (Script → ℕ → Vat Name → Vat Name → Type 0) → Type 0
KeptByDoings R = (play : Play) (h : ℕ) → IsHostile play h → (ds : List Doing) (k : ℕ) (s t : Scene) → does_all play ds k s ≡ Plays t → EachVat (R play.script) s.world t.world

-- No step of such a run undoes an object, a list, a notice or a settling.
abbrev pub HostileRunsUndoNothing : Type 0
HostileRunsUndoNothing = KeptByDoings (λ script v. SameObjects) × KeptByDoings (λ script v. SameLists) × KeptByDoings (λ script v. NoticedStays) × KeptByDoings (λ script v. SettledStays (names script v))
