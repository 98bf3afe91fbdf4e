-- The frame that comes next on a link, in the run of a script that is read.
use Rattle.std.specs.Prelude.{◌≡◌, ℕ, false, List, ◌∷◌, ◌++◌, Some, Ok, slice_get}
use Rattle.def_kernel.specs.declared.node.Node.{Node}
use Rattle.def_op.specs.Frames.{spelling}
use Rattle.def_machine.specs.Values.{Name}
use Rattle.def_machine.specs.State.{Note, Vat}
use Rattle.def_run.specs.Connections.{Connection, Learnt, frame_now}
use Rattle.def_run.specs.Wire.{connected_at, sight}
use Rattle.def_run.specs.World as world
use Rattle.def_run.specs.World.{Entry, Link, World, Goes, link_at, next_frame, begins, open_from, steps_from}
use Rattle.ev_script.specs.Script.{read}
use Rattle.ev_script.specs.declared.script.Script.{Script}
use Rattle.law_frame.specs.Frame.Growing.{TablesGrow}
use Rattle.law_frame.specs.Heard.Hearing.{IsHeard, KnowsGifts}
use Rattle.law_schedule.specs.Scripts.{machine_script}

-- the bytes of the next frame from v to u are what v wrote of the note as it put it, by tables that have only grown since
abbrev pub IsWritten : World → ℕ → ℕ → Note Name → Type 0
IsWritten w v u n = (t : Connection Name) × TablesGrow t (connected_at v u w.connections).tables × (t.questions ≡ (connected_at u v w.connections).tables.answers)
    × (next_frame v u w.connections ≡ spelling (frame_now (sight v u) n t))

-- it is so of each note that is next on a link between two vats, as long as that is not cut; and u reads that note in it
abbrev pub FramesAreNotes : World → Type 0
FramesAreNotes w = (v u : ℕ) (r s : Vat Name) → slice_get w.vats v ≡ Some r → slice_get w.vats u ≡ Some s → (v ≡ u → ⊥)
    → (l : Link) → link_at v u w.links ≡ Some l → l.cut ≡ false → (n : Note Name) (ns : List (Note Name)) → l.notes ≡ n ∷ ns
    → IsWritten w v u n × ((gifts : List (Learnt Name)) → KnowsGifts s gifts → IsHeard w v u s n gifts)

-- in each world to which a run comes by entries of its schedule
abbrev pub AllAlong : world.Script → Type 0
AllAlong script = (w x : World) (es rest : List Entry) (k : ℕ) → script.schedule ≡ es ++ rest → open_from script 0 script.vats (begins script) ≡ Goes w → steps_from script es k w ≡ Goes x → FramesAreNotes x

-- Law: so it is in the run of each script that is read.
abbrev pub FramesAreOfTheirNotes : Type 0
FramesAreOfTheirNotes = (bytes : List ℕ) (script : Script) → read bytes ≡ Ok script → (depth : ℕ) (tree : ℕ → List Node) → AllAlong (machine_script depth tree script)
