-- In each step of a vat of a run, an answer at another vat that comes to be known stands behind the note of its message.
use Rattle.std.proofs.Common.{◌≡◌, ℕ, List, [], ◌∷◌, Some, ◌⊎◌, inl}
use Rattle.std.specs.Prelude.{slice_get}
use Rattle.def_machine.specs.Values.{Name, Root, Answer, Msg, naming, host_of}
use Rattle.def_machine.specs.State.{Message, Note, Vat}
use Rattle.def_machine.specs.Eval.{opening, taking}
use Rattle.def_machine.specs.Arrive.{arrive, notice}
use Rattle.def_run.specs.Draws.{draw_word}
use Rattle.def_run.specs.World as world
use Rattle.def_run.specs.World.{Script, Program, World, names, names_of, read_note, readied}
use Rattle.law_fate.specs.Name.Names.{IsAmong, NoteOk, names_in}
use Rattle.law_fate.proofs.Name.Run.{Told, inside, low_at, Stands}
use Rattle.law_reference.proofs.Reference.Gentle.{AfterGives}
use Rattle.law_reference.specs.Reference.Behind.{Avoids, NamesNot}
use Rattle.law_reference.proofs.Reference.Beside.{Stays}
use Rattle.law_reference.proofs.Reference.CareBlocks.{Blocks}
use Rattle.law_reference.proofs.Reference.First.{PutsFirst, Held, W, held_stays, other_held, blocks}
use Rattle.law_reference.proofs.Reference.StepsBeside.{turn_fits, notice_fits, opening_fits, note_fits}

-- where the answer is known it was known before, or its message was put in front of all that names it
abbrev pub FirstOut : ℕ → Msg → Vat Name → Vat Name → Type 0
FirstOut g m s t = IsAmong (Answer g m) (names_in t.known) → IsAmong (Answer g m) (names_in s.known) ⊎ PutsFirst g m t.outbox

module _ (script : Script) (g : ℕ) (m : Msg) (v : ℕ) (abroad : g ≡ v → ⊥) where
  module _ (w : World) (s : Vat Name) (there : slice_get w.vats v ≡ Some s) (h : Stands script w) where
    abbrev Was : Type 0
    Was = IsAmong (Answer g m) (names_in s.known)

    stays : Stays (draw_word script.key) v (Held g m Was)
    stays = held_stays g m (draw_word script.key) v Was abroad

    known_before : Held g m Was s.known []
    known_before k = inl k

    goes : Blocks (naming (draw_word script.key) v) (W g m (inside script) w.vats v s there (low_at script w h v s there) (draw_word script.key) Was)
    goes = blocks g m (inside script) w.vats v s there (low_at script w h v s there) (draw_word script.key) Was

    pub turn_first : (n : Message Name) (ms : List (Message Name)) → s.queue ≡ n ∷ ms → AfterGives (FirstOut g m s) (taking (names script v) (world.tree_at script.vats v) script.depth n (readied w (record s { queue = ms })))
    turn_first n ms e = turn_fits script w v s there h (Held g m Was) stays known_before goes n ms e

    pub notice_first : (to : ℕ) → AfterGives (FirstOut g m s) (notice (names script v) to (readied w s))
    notice_first to = notice_fits script w v s there h (Held g m Was) stays known_before goes to

    pub opening_first : (p : Program) → slice_get script.vats v ≡ Some p → AfterGives (FirstOut g m s) (opening (names script v) p.tree script.depth (Root v) (world.given script.vats p.knows) (readied w s))
    opening_first p t = opening_fits script w v s there h (Held g m Was) stays known_before goes p t

    -- where the note that arrives does not name the answer
    pub note_first : (from : ℕ) (n : Note Name) → NoteOk (Told script w) n → NamesNot (Answer g m) n → AfterGives (FirstOut g m s) (arrive (names script v) from (read_note (names_of s) n) (readied w s))
    note_first from n k f = note_fits script w v s there h (Held g m Was) stays known_before goes (Avoids (Answer g m)) (λ a i ks ps o. other_held g m Was a i (host_of a) ks ps o) from n k f
