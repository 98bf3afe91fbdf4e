-- The lines of a step as the machine shows them, where a vat's numbers stand for names.
use Rattle.std.specs.Prelude.{◌≡◌, ℕ, false, Bool, List, get_or, map}
use Rattle.ev_base.specs.declared.names.Name.TheVariants as shown
use Rattle.ev_heap.specs.declared.happened.Happened.{Happened}
use Rattle.def_machine.specs.Maps as maps
use Rattle.def_machine.specs.Values.{Name, Local, Obj, Prom, Far, Mess}
use Rattle.def_run.specs.Shown.{shown_name, shown_msg, shown_note}
use Rattle.def_run.specs.Text.{shown_events}
use Rattle.def_run.specs.World.{Link, events_of, is_cut}
use Rattle.ev_intro.specs.Word.{Drawn}
use Rattle.ev_pass.specs.Notes.{Noted}
use Rattle.ev_pass.specs.Reading.{note_by}
use Rattle.ev_room.specs.Reading.{World, texts_of}
use Rattle.ev_room.specs.Reading as room
use Rattle.ev_resident.specs.Noting.{noted_line}
use Rattle.ev_resident.specs.NamesStanding.{words_of}
use Rattle.ev_step_lines.specs.Lines as lines
use Rattle.ev_step_lines.specs.Lines.{Naming, Telling, name_at, mail_at, object_at}

-- The vat's numbers stand for these names, and the table has them as they are printed when these words were drawn.
pub record Agrees (draws : List ℕ) (f : Local → Name) (n : Naming) : Type 0 where
  pub object : (i : ℕ) → shown_name draws (f (Obj i)) ≡ shown.Object n.vat i
  pub promise : (k : ℕ) → shown_name draws (f (Prom k)) ≡ name_at n k
  pub far : (h p : ℕ) → shown_name draws (f (Far h p)) ≡ shown.Object h (object_at n h p)
  pub message : (m : ℕ) → shown_msg draws (f (Mess m)) ≡ mail_at n m

-- of each vat whether the link to it is cut
abbrev pub TellsCuts : ℕ → List Link → List Bool → Type 0
TellsCuts v links cut = (h : ℕ) → is_cut v h links ≡ get_or cut h false

-- how the lines of a vat are told that has the texts of this world
abbrev pub telling_in : Naming → World → List Bool → Telling
telling_in n w cut = record { naming = n; texts = texts_of w; cut = cut }

-- The lines that are told of what happened are those that the machine shows of it.
abbrev pub LinesAreShown : Type 0
LinesAreShown =
    (draws : List ℕ) (f : Local → Name) (n : Naming) (links : List Link) (cut : List Bool) (w : World) → Agrees draws f n → TellsCuts n.vat links cut
    → (es : List Happened) → shown_events draws (events_of links n.vat (map (maps.line f) (room.lines_of w es))) ≡ lines.lines_of (telling_in n w cut) es

-- A note is shown as the machine shows it.
abbrev pub NotesAreShown : Type 0
NotesAreShown =
    (d : Drawn) (f : Local → Name) (n : Naming) (cut : List Bool) (w : World) → Agrees (words_of d) f n
    → (to : ℕ) (m : Noted) → shown_note (words_of d) to (maps.note f (note_by (texts_of w) m)) ≡ noted_line (record { telling = telling_in n w cut; drawn = d }) to m
