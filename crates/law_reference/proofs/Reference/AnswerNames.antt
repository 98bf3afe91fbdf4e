-- What the sender of a note calls the answer that it asks for is the name of that answer.
use Rattle.std.proofs.Common.{◌≡◌, ℕ, Option, Some}
use Rattle.def_machine.specs.Values.{Name, Root}
use Rattle.def_machine.specs.State.{Note, Deliver, Put, Vat, Done, Gives}
use Rattle.def_machine.specs.Eval.{opening, taking}
use Rattle.def_machine.specs.Arrive.{arrive, notice}
use Rattle.def_run.specs.World as world
use Rattle.def_run.specs.World.{Script, Link, World, link_at, names, names_of, read_note, readied}
use Rattle.law_machine.specs.Machine.Steps.{Step, Opens as Starts, Takes, Receives, Notices, does}
use Rattle.law_fate.specs.Name.Names.{AllOf, NoteOk}
use Rattle.law_fate.proofs.Name.Among.{all_among}
use Rattle.law_fate.proofs.Name.Facts.{MayBe, all_map}
use Rattle.law_fate.proofs.Name.Run.{Told, Stands, link_holds}
use Rattle.law_machine.specs.Run.Moves.{Does}
use Rattle.law_reference.specs.Reference.Notes.{NamesItsAnswer, Carries}
use Rattle.law_reference.specs.Reference.AnswerNames.{PutsNameAnswers, IsUnderWay, NamesAnswers, AnswersAreNamed}
use Rattle.law_reference.proofs.Reference.Gentle.{AfterGives}
use Rattle.law_reference.proofs.Reference.NotesLift as lift
use Rattle.law_reference.proofs.Reference.OwnRuns.{Any}
use Rattle.law_reference.proofs.Reference.NotesRuns.{CarriesOut, Ever, Its, OfNotes, half_links, links_of, turn_carries, note_carries, notice_carries, opening_carries, opened_all, stepped_all}

named : (v w : ℕ) (n : Note Name) → Carries v w n → NamesItsAnswer w n
named v w (Deliver d n verb ys) h = h.1
named v w other h = tt

at_link : (P : Link → Type 0) (o : Option Link) (l : Link) → o ≡ Some l → MayBe P o → P l
at_link P o l e h = rw e at h

module _ (script : Script) where
  puts_named : (v : ℕ) (s : Vat Name) → CarriesOut script v s → PutsNameAnswers s
  puts_named v s h = all_map (λ (p : Put Name) k. named v p.to p.note k) s.outbox h

  gives_carries : (v : ℕ) (t : Vat Name) (d : Done Name (Unit {0})) → AfterGives (CarriesOut script v) d → d ≡ Gives tt t → CarriesOut script v t
  gives_carries v t d h e = rw e at h

  -- ---- any step that may be the next

  step_carries : (w : World) (v : ℕ) (s q t : Vat Name) (what : Step Name Name) → Stands script w → IsUnderWay w v s what → Does script w v s q t what → CarriesOut script v t
  unfolding does
  step_carries w v s q t (Starts tree depth root given) g i d = let b = d.begins in
      let e : opening (names script v) b.0.tree script.depth (Root v) (world.given script.vats b.0.knows) (readied w s) ≡ Gives tt t = rw (b.2, b.3, b.4, b.5, b.6) at d.gives in
      gives_carries v t _ (opening_carries script w v s g d.there b.0 b.1) e
  step_carries w v s q t (Takes tree depth m) g i d = let b = d.begins in
      let e : taking (names script v) (world.tree_at script.vats v) script.depth m (readied w (record s { queue = b.0 })) ≡ Gives tt t = rw (b.2, b.3, b.4) at d.gives in
      gives_carries v t _ (turn_carries script w v s g d.there m b.0 b.1) e
  step_carries w v s q t (Receives from m) g i d =
      let e : arrive (names script v) from (read_note (names_of s) i.1) (readied w s) ≡ Gives tt t = rw (d.begins, i.4) at d.gives in
      let told : AllOf (NoteOk (Told script w)) i.0.notes = at_link (λ (l : Link). AllOf (NoteOk (Told script w)) l.notes) (link_at from v w.links) i.0 i.2 (link_holds (NoteOk (Told script w)) from v w.links g.links) in
      gives_carries v t _ (note_carries script w v s g d.there from i.1 (all_among (NoteOk (Told script w)) i.0.notes i.1 told i.3)) e
  step_carries w v s q t (Notices u) g i d = let e : notice (names script v) u (readied w s) ≡ Gives tt t = rw d.begins at d.gives in
      gives_carries v t _ (notice_carries script w v s g d.there u) e

  all_named : (w : World) → lift.All script (Its script) (OfNotes script) (Ever script) (Any script) w → NamesAnswers script w
  all_named w h = let both = h.2 in (
    half_links (OfNotes script) (λ v u n. NamesItsAnswer u n) (λ v u n k. named v u n k.1) w.links (links_of script w h),
    (λ v s e. let its : Its script v s = both.0 v s e in puts_named v s its.1),
    (λ v s q t what i d. puts_named v t (step_carries w v s q t what h.0 i d)),
  )

pub answers_named : AnswersAreNamed
answers_named script once = (
  λ ps rest w e i. all_named script w (opened_all script once ps rest w e i),
  λ w x es k e i. all_named script x (stepped_all script once w x es k e i),
)
