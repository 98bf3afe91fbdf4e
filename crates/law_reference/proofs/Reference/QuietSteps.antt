-- No message is made where a note arrives, and none where a vat is noticed.
use Rattle.std.proofs.Common.{◌≡◌, ℕ, false, Some, refl, sym}
use Rattle.std.specs.Prelude.{slice_get}
use Rattle.def_machine.specs.Values.{Name, naming}
use Rattle.def_machine.specs.State.{Note, Vat, Done, Gives}
use Rattle.def_machine.specs.Arrive.{arrive, notice}
use Rattle.def_run.specs.Draws.{draw_word}
use Rattle.def_run.specs.World.{Script, World, names, names_of, read_note, readied}
use Rattle.law_fate.specs.Name.Names.{NoteOk, names_in}
use Rattle.law_fate.proofs.Name.Facts.{Nothing, nothing}
use Rattle.law_fate.proofs.Name.Care.{Care, Fine, Sound, Ends}
use Rattle.law_fate.proofs.Name.CareArrive.{fine_notice}
use Rattle.law_fate.proofs.Name.Tracked.{tracked, tracked_under}
use Rattle.law_fate.proofs.Name.Learn.{Knows, Ended, reads_note}
use Rattle.law_fate.proofs.Name.Run.{Told, inside, low_at, Stands, sound_ready, knows_ready}
use Rattle.law_reference.proofs.Reference.Gentle.{AfterGives}

module _ (script : Script) (v : ℕ) (w : World) (s : Vat Name) (there : slice_get w.vats v ≡ Some s) (h : Stands script w) where
  abbrev F : Care Name
  F = tracked false (inside script) w.vats v s there (low_at script w h v s there)

  quiet_ready : Sound F (readied w s)
  quiet_ready = let k = h.vats v s there in let r = sound_ready script v w s s there refl refl h k.parts k.kept in record { parts = r.parts; more = r.more }

  quiet_knows : Knows false (inside script) w.vats v s there (low_at script w h v s there) (draw_word script.key) w.vats w.drawn (names_in s.known) (readied w s)
  quiet_knows = let k = h.vats v s there in let r = knows_ready script v w s s there refl refl h k.parts k.kept in record { all = r.all; told = r.told; own = r.own; made = r.made }

  quiet_ends : (d : Done Name (Unit {0})) → Ends F nothing (readied w s) d → AfterGives (λ t. t.messages ≡ s.messages) d
  unfolding readied
  quiet_ends (Gives a t) e = let r = e.0 in let i : s.messages ≡ t.messages = r.messages in sym i
  quiet_ends other e = tt

  learnt_ends : (d : Done Name (Unit {0})) → Ended false (inside script) w.vats v s there (low_at script w h v s there) (draw_word script.key) w.vats w.drawn (readied w s) d → AfterGives (λ t. t.messages ≡ s.messages) d
  unfolding readied
  learnt_ends (Gives a t) e = let r = e.0 in let i : s.messages ≡ t.messages = r.messages in sym i
  learnt_ends other e = tt

  pub notice_quiet : (to : ℕ) → AfterGives (λ t. t.messages ≡ s.messages) (notice (names script v) to (readied w s))
  unfolding names
  notice_quiet to = let f : Fine F Nothing (notice (naming (draw_word script.key) v) to) nothing = fine_notice (naming (draw_word script.key) v) F (tracked_under false (inside script) w.vats v s there (low_at script w h v s there) (draw_word script.key)) to in
      quiet_ends (notice (naming (draw_word script.key) v) to (readied w s)) (f.after (readied w s) quiet_ready tt)

  pub note_quiet : (from : ℕ) (n : Note Name) → NoteOk (Told script w) n → AfterGives (λ t. t.messages ≡ s.messages) (arrive (names script v) from (read_note (names_of s) n) (readied w s))
  unfolding names names_of
  note_quiet from n k = learnt_ends (arrive (naming (draw_word script.key) v) from (read_note (names_in s.known) n) (readied w s))
      ((reads_note false (inside script) w.vats v s there (low_at script w h v s there) (draw_word script.key) w.vats w.drawn from (names_in s.known) n k).after (readied w s) quiet_ready quiet_knows tt)
