-- A step of a vat in a run, from a sound state, ends in a sound state.
use Rattle.std.proofs.Common.{◌≡◌, ℕ, List, [], ◌∷◌, Some}
use Rattle.std.specs.Prelude.{slice_get}
use Rattle.def_machine.specs.Values.{Name, Root, Naming, naming}
use Rattle.def_machine.specs.State.{Message, Note, Vat, Done, Gives}
use Rattle.def_machine.specs.Eval.{opening, taking}
use Rattle.def_machine.specs.Arrive.{arrive, notice}
use Rattle.law_machine.specs.Machine.Steps.{Step, Opens as Starts, Takes, Receives, Notices, does}
use Rattle.def_run.specs.Draws.{draw_word}
use Rattle.def_run.specs.World as world
use Rattle.def_run.specs.World.{Script, Program, World, names, names_of, read_note, readied}
use Rattle.law_fate.specs.Name.Names.{Bit, Named, AllOf, NounOk, MessageOk, Parts}
use Rattle.law_fate.proofs.Name.Facts.{message_up, nouns_up, Fact, Nothing, Also, IsName, AreNouns, IsMessage, Holds, nothing}
use Rattle.law_fate.proofs.Name.Care.{Care, Under, Makes, Sound, Ends, Fine, parts_up}
use Rattle.law_fate.proofs.Name.Serves.{served_by, closing_by}
use Rattle.law_fate.proofs.Name.CareEval.{fine_opening, fine_taking}
use Rattle.law_fate.proofs.Name.CareArrive.{fine_notice}
use Rattle.law_reference.proofs.Reference.Moves.{IsAlone, Does}

module _ (script : Script) (w : World) (v : ℕ) (s : Vat Name) (S : Care Name) (law : Under (naming (draw_word script.key) v) S) (makes : Makes (naming (draw_word script.key) v) S) (P : Bit Name → Type 0) (parts : Parts P s.things s.slots s.lists s.queue s.known s.gifts s.outbox)
    (up : (qs : List (Message Name)) (b : Bit Name) → P b → S.ok (readied w (record s { queue = qs })) b) (more : (qs : List (Message Name)) → S.more (readied w (record s { queue = qs })))
    (roots : (p : Program) → slice_get script.vats v ≡ Some p → P (Named (Root v)) × AllOf (NounOk P) (world.given script.vats p.knows)) where
  abbrev K : Naming Name Name
  K = naming (draw_word script.key) v

  sound_ends : (r t : Vat Name) (d : Done Name (Unit {0})) → Ends S nothing r d → d ≡ Gives tt t → Sound S t
  sound_ends r t d h e = let one : Ends S (nothing {A = Unit {0}}) r (Gives tt t) = rw e at h in one.1

  pub ready : (qs : List (Message Name)) → AllOf (MessageOk P) qs → Sound S (readied w (record s { queue = qs }))
  unfolding readied
  ready qs h = record { parts = parts_up P (S.ok (readied w (record s { queue = qs }))) (up qs) s.things s.slots s.lists qs s.known s.gifts [] emptied; more = more qs }
    where
      emptied : Parts P s.things s.slots s.lists qs s.known s.gifts []
      emptied = record { things = parts.things; slots = parts.slots; lists = parts.lists; queue = h; known = parts.known; gifts = parts.gifts; outbox = tt }

  took : (m : Message Name) (ms : List (Message Name)) → s.queue ≡ m ∷ ms → MessageOk P m × AllOf (MessageOk P) ms
  took m ms e = let all : AllOf (MessageOk P) (m ∷ ms) = rw e at parts.queue in all

  pub does_sound : (q t : Vat Name) (what : Step Name Name) → IsAlone what → Does script w v s q t what → Sound S t
  unfolding does names
  does_sound q t (Starts tree depth root given) o d = let b = d.begins in let all = roots b.0 b.1 in
      let e : opening K tree depth (Root v) (world.given script.vats b.0.knows) (readied w s) ≡ Gives tt t = rw (b.2, b.3, b.4) at d.gives in
      let f : Fine S (Also (IsName (Root v)) (AreNouns (world.given script.vats b.0.knows))) (opening K tree depth (Root v) (world.given script.vats b.0.knows)) nothing = fine_opening K S (served_by K S law makes) tree depth (Root v) (record { at = λ r c. c.0 }) (closing_by K S law (Root v)) (world.given script.vats b.0.knows) (record { at = λ r c. c.1 }) in
      sound_ends (readied w s) t _ (f.after (readied w s) (ready s.queue parts.queue)
      (up s.queue (Named (Root v)) all.0, nouns_up P (S.ok (readied w s)) (up s.queue) (world.given script.vats b.0.knows) all.1)) e
  does_sound q t (Takes tree depth m) o d = let b = d.begins in let all = took m b.0 b.1 in let r : Vat Name = readied w (record s { queue = b.0 }) in
      let e : taking K tree depth m r ≡ Gives tt t = rw b.2 at d.gives in
      let f : Fine S (IsMessage m) (taking K tree depth m) nothing = fine_taking K S law makes tree depth m (record { at = λ r c. c }) in
      sound_ends r t _ (f.after r (ready b.0 all.1) (message_up P (S.ok r) (up b.0) m all.0)) e
  does_sound q t (Receives from n) o d = absurd o
  does_sound q t (Notices u) o d = let e : notice K u (readied w s) ≡ Gives tt t = rw d.begins at d.gives in
      sound_ends (readied w s) t _ ((fine_notice K S law {C = Nothing} u).after (readied w s) (ready s.queue parts.queue) tt) e

  pub arrives_sound : (t : Vat Name) (from : ℕ) (n : Note Name) (C : Fact Name) → Fine S C (arrive K from (read_note (names_of s) n)) nothing → Holds (S.ok (readied w s)) C → Does script w v s s t (Receives from (read_note (names_of s) n)) → Sound S t
  unfolding does names
  arrives_sound t from n C f c d = sound_ends (readied w s) t _ (f.after (readied w s) (ready s.queue parts.queue) c) d.gives
