-- What each step of a vat of a run leaves of what holds beside names.
use Rattle.std.proofs.Common.{◌≡◌, ℕ, List, [], ◌∷◌, ◌++◌, Some, refl}
use Rattle.std.specs.Prelude.{slice_get}
use Rattle.def_machine.specs.Values.{Name, Root, Naming, naming, host_of}
use Rattle.def_machine.specs.State.{Known, Message, Note, Put, begun, Vat}
use Rattle.def_machine.specs.Eval.{opening, taking}
use Rattle.def_machine.specs.Arrive.{arrive, notice}
use Rattle.def_run.specs.Draws.{draw_word}
use Rattle.def_run.specs.World as world
use Rattle.def_run.specs.World.{Script, Program, World, names, names_of, read_note, readied}
use Rattle.law_fate.specs.Name.Names.{Bit, Named, NoteOk, names_in}
use Rattle.law_fate.proofs.Name.Care.{Care}
use Rattle.law_fate.proofs.Name.Serves.{closing_some}
use Rattle.law_fate.proofs.Name.Run.{Told, inside, low_at, Stands, sound_ready, knows_ready}
use Rattle.law_reference.proofs.Reference.Gentle.{AfterGives}
use Rattle.law_reference.proofs.Reference.Beside.{Stays}
use Rattle.law_reference.proofs.Reference.CareBeside.{V as Cares, IsHere, quiet, changes}
use Rattle.law_reference.proofs.Reference.CareMore.{KeptQuiet}
use Rattle.law_reference.proofs.Reference.CareBlocks.{Changes, Blocks, serves_by, closes_by, put_notice}
use Rattle.law_reference.proofs.Reference.StepsMore.{leaves_give, any_keeps, turn_keeps, opening_keeps}
use Rattle.law_reference.proofs.Reference.ArriveBeside.{note_leaves}

module _ (script : Script) (w : World) (v : ℕ) (s : Vat Name) (there : slice_get w.vats v ≡ Some s) (h : Stands script w) (Fit : List (Known Name) → List (Put Name) → Type 0) (stays : Stays (draw_word script.key) v Fit) (fits : Fit s.known [])
    (blocks : Blocks (naming (draw_word script.key) v) (Cares (inside script) w.vats v s there (low_at script w h v s there) (draw_word script.key) Fit)) where
  abbrev K : Naming Name Name
  K = naming (draw_word script.key) v

  abbrev V : Care Name
  V = Cares (inside script) w.vats v s there (low_at script w h v s there) (draw_word script.key) Fit

  abbrev Here : ℕ → Type 0
  Here u = IsHere (inside script) w.vats v s there (low_at script w h v s there) (draw_word script.key) Fit u

  single : Changes K V Here
  single = changes (inside script) w.vats v s there (low_at script w h v s there) (draw_word script.key) Fit stays

  abbrev IsFit : Vat Name → Type 0
  IsFit t = Fit t.known t.outbox

  abbrev keeps_quiet : KeptQuiet IsFit
  keeps_quiet = quiet (inside script) w.vats v s there (low_at script w h v s there) (draw_word script.key) Fit

  starts : (fs ms : List (Message Name)) → s.queue ≡ fs ++ ms → IsFit (readied w (record s { queue = ms }))
  unfolding readied
  starts fs ms e = fits

  pub turn_fits : (m : Message Name) (ms : List (Message Name)) → s.queue ≡ m ∷ ms → AfterGives IsFit (taking (names script v) (world.tree_at script.vats v) script.depth m (readied w (record s { queue = ms })))
  turn_fits m ms e = turn_keeps script w v s there h IsFit keeps_quiet starts (serves_by K V Here single blocks) m ms e (closing_some K V (closes_by K V Here single blocks) m.answer)

  pub opening_fits : (p : Program) → slice_get script.vats v ≡ Some p → AfterGives IsFit (opening (names script v) p.tree script.depth (Root v) (world.given script.vats p.knows) (readied w s))
  opening_fits p t = opening_keeps script w v s there h IsFit keeps_quiet starts (serves_by K V Here single blocks) p t (closes_by K V Here single blocks (Root v))

  pub notice_fits : (to : ℕ) → AfterGives IsFit (notice (names script v) to (readied w s))
  unfolding names
  notice_fits to = any_keeps script w v s there h IsFit keeps_quiet starts (notice K to) (put_notice K V Here single blocks to)

  -- a note arrives that names nothing but what may come to be known
  pub note_fits : (Lets : Bit Name → Type 0) → ((n : Name) → Lets (Named n) → (ks : List (Known Name)) (ps : List (Put Name)) → Fit ks ps → Fit (ks ++ begun n (host_of n) ∷ []) ps) → (from : ℕ) (n : Note Name) → NoteOk (Told script w) n → NoteOk Lets n
      → AfterGives IsFit (arrive (names script v) from (read_note (names_of s) n) (readied w s))
  unfolding names names_of readied
  note_fits Lets lets from n ok f = let k = h.vats v s there in
      leaves_give script w v s there h IsFit keeps_quiet starts (arrive K from (read_note (names_in s.known) n) (readied w s))
      ((note_leaves (inside script) w.vats v s there (low_at script w h v s there) (draw_word script.key) Fit stays blocks w.vats w.drawn Lets lets from (names_in s.known) n ok f).after (readied w s)
      (sound_ready script v w s s there refl refl h k.parts k.kept) (knows_ready script v w s s there refl refl h k.parts k.kept) tt fits)
