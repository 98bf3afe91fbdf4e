-- What a step of a run sends, and on what, and what a note brings that arrives, its vat knows after it, or it is an object.
use Rattle.std.proofs.Common.{◌≡◌, ℕ, true, List, [], ◌∷◌, ◌++◌, Option, Some, refl, sym, subst}
use Rattle.std.specs.Prelude.{slice_get}
use Rattle.def_kernel.specs.declared.node.Node.{Node}
use Rattle.def_machine.specs.Values.{Name, Root, Naming, naming}
use Rattle.def_machine.specs.State.{Message, Binding, Note, Took, Vat, Gives, Act, WhereSome}
use Rattle.def_machine.specs.Eval.{opening, taking}
use Rattle.def_machine.specs.Arrive.{arrive, notice}
use Rattle.law_machine.specs.Machine.Steps.{Step, Opens as Starts, Takes, Receives, Notices, does}
use Rattle.def_run.specs.Draws.{draw_word}
use Rattle.def_run.specs.World as world
use Rattle.def_run.specs.World.{Script, Program, Event, World, names, names_of, read_note, readied}
use Rattle.law_fate.specs.Name.Names.{Bit, Named, bare, AllOf, IsAmong, IsMade, IsHad, NounOk, MessageOk, NoteOk, Parts, names_in}
use Rattle.law_fate.proofs.Name.Facts.{all_map, message_up, nouns_up, Fact, Also, IsName, AreNouns, IsMessage, Holds, nothing}
use Rattle.law_fate.proofs.Name.Care.{Care, Under, Makes, Sound, Gets, Ends, Fine, bind_number, then_unit, fine_activation}
use Rattle.law_fate.proofs.Name.CareEval.{fine_turn, fine_opening}
use Rattle.law_fate.proofs.Name.Run.{Had, Told, Inside, inside, low_at, inside_root, knows_low, Stands, given_ok, sound_ready, had_ready}
use Rattle.law_fate.proofs.Name.Serves.{Closing, closing_some}
use Rattle.law_fate.proofs.Name.Tracked.{Kept, IsFar, tracked, tracked_under, tracked_makes}
use Rattle.law_uses.specs.Connectivity.Begotten.{AreRoots, IsTaken}
use Rattle.law_uses.proofs.Connectivity.Idle.{IdleEnds, Idle}
use Rattle.law_uses.proofs.Connectivity.ArriveIdle.{idle_arrive, idle_notice}
use Rattle.law_frame.specs.Frame.Alike.{names_heard}
use Rattle.law_frame.specs.Frame.Lines.{carried_in}
use Rattle.law_frame.proofs.Frame.ArriveAsking.{Has, HasHeard, Reached, arrive_hears}
use Rattle.law_frame.proofs.Frame.WireAsking.{Telling}
use Rattle.law_frame.proofs.Frame.WireRuns.{Wire, mail_fits, no_messages, known_apart, number_is}
use Rattle.law_trace.proofs.Told.Sends.{SendOk, send_up, idle_sends, WithLines, with_lines, lines_of, tells, lined_closing, lined_serves}

-- the names that lines of sends name are known to the vat
abbrev pub KnowsSends : Vat Name → Type 0
KnowsSends t = AllOf (SendOk (IsHad (names_in t.known) t.mails)) t.happened

-- what an opening turn is given is what the script gives
roots_given : (ps : List Program) (ws : List ℕ) (bs : List (Binding Name)) → AreRoots ps ws bs → bs ≡ world.given ps ws
unfolding world.given
roots_given ps [] [] h = refl
roots_given ps (u ∷ us) (b ∷ bs) h = rw (h.0, roots_given ps us bs h.1) refl
roots_given ps [] (b ∷ bs) h = absurd h
roots_given ps (u ∷ us) [] h = absurd h

module _ (script : Script) (w : World) (v : ℕ) (s : Vat Name) (there : slice_get w.vats v ≡ Some s) (h : Stands script w) where
  abbrev K : Naming Name Name
  K = naming (draw_word script.key) v

  abbrev T : Care Name
  T = tracked true (inside script) w.vats v s there (low_at script w h v s there)

  abbrev V : Care Name
  V = WithLines T

  under : Under K T
  under = tracked_under true (inside script) w.vats v s there (low_at script w h v s there) (draw_word script.key)

  makes : Makes K T
  makes = tracked_makes (inside script) w.vats v s there (low_at script w h v s there) (draw_word script.key)

  closing : (o : Option Name) → WhereSome (Closing K V) o
  closing o = closing_some K V (lined_closing K T under) o

  -- a step from q, which is the vat but for its queue
  module _ (q : Vat Name) (same_promises : q.promises ≡ s.promises) (same_messages : q.messages ≡ s.messages) (parts : Parts (λ b. IsMade w.vats w.drawn b × IsHad (names_in q.known) q.mails b × IsFar v b × Inside script (bare b)) q.things q.slots q.lists q.queue q.known q.gifts q.outbox) (kept : Kept v q.number q.known q.mails q.promises) where
    ready_lined : Sound V (readied w q)
    unfolding readied
    ready_lined = with_lines T (readied w q) (sound_ready script v w s q there same_promises same_messages h parts kept) tt

    ended : (C : Fact Name) (a : Act Name (Unit {0})) (t : Vat Name) → Fine V C a nothing → Holds (V.ok (readied w q)) C → a (readied w q) ≡ Gives tt t → KnowsSends t
    ended C a t f c e = let end : Ends V (nothing {A = Unit {0}}) (readied w q) (Gives tt t) = rw e at (f.after (readied w q) ready_lined c) in
        all_map (send_up (T.ok t) (IsHad (names_in t.known) t.mails) (λ b i. i.1)) t.happened (lines_of T t end.1)

  fine_takes : (tree : List Node) (depth : ℕ) (m : Message Name) {C : Fact Name} → Gets V C (IsMessage m) → Fine V C (taking K tree depth m) nothing
  unfolding taking
  fine_takes tree depth m g = bind_number V (fine_activation V) (λ a. then_unit V (tells K T under (Took a m) (λ r c. tt)) (fine_turn K V (lined_serves K T under makes) tree depth a m g (closing m.answer)))

  turn_known : (tree : List Node) (depth : ℕ) (m : Message Name) (ms : List (Message Name)) (t : Vat Name) → s.queue ≡ m ∷ ms → taking K tree depth m (readied w (record s { queue = ms })) ≡ Gives tt t → KnowsSends t
  turn_known tree depth m ms t e gives = let k = h.vats v s there in let p = k.parts in let waiting : AllOf (MessageOk (Had script w v s)) (m ∷ ms) = rw e at p.queue in
      let parts : Parts (Had script w v s) s.things s.slots s.lists ms s.known s.gifts s.outbox = record { things = p.things; slots = p.slots; lists = p.lists; queue = waiting.1; known = p.known; gifts = p.gifts; outbox = p.outbox } in
      let q : Vat Name = record s { queue = ms } in
      ended q refl refl parts k.kept (IsMessage m) (taking K tree depth m) t (fine_takes tree depth m (record { at = λ r c. c })) (message_up (Had script w v s) (V.ok (readied w q)) (had_ready script v w s q there refl refl h parts k.kept) m waiting.0) gives

  opening_known : (p : Program) (tree : List Node) (depth : ℕ) (t : Vat Name) → slice_get script.vats v ≡ Some p → opening K tree depth (Root v) (world.given script.vats p.knows) (readied w s) ≡ Gives tt t → KnowsSends t
  opening_known p tree depth t at gives = let k = h.vats v s there in let roots : AllOf (λ (u : ℕ). IsAmong (Root u) (names_in s.known)) (v ∷ p.knows) = k.roots p at in let given = world.given script.vats p.knows in
      let fit : AllOf (NounOk (Had script w v s)) given = given_ok script w v s p.knows roots.1 (knows_low script p.knows (λ f. f v p at)) in
      let up : (b : Bit Name) → Had script w v s b → V.ok (readied w s) b = had_ready script v w s s there refl refl h k.parts k.kept in
      ended s refl refl k.parts k.kept (Also (IsName (Root v)) (AreNouns given)) (opening K tree depth (Root v) given) t
      (fine_opening K V (lined_serves K T under makes) tree depth (Root v) (record { at = λ r c. c.0 }) (lined_closing K T under (Root v)) given (record { at = λ r c. c.1 }))
      (up (Named (Root v)) (tt, roots.0, tt, inside_root script v (low_at script w h v s there)), nouns_up (Had script w v s) (V.ok (readied w s)) up given fit) gives

  -- what arrives and what is noticed sends nothing
  idle_known : (q : Vat Name) (a : Act Name (Unit {0})) (t : Vat Name) → Idle a → a (readied w q) ≡ Gives tt t → KnowsSends t
  unfolding readied
  idle_known q a t i gives = let end : IdleEnds {A = Unit {0}} (readied w q) (Gives tt t) = rw gives at (i.after (readied w q)) in
      subst (λ es. AllOf (SendOk (IsHad (names_in t.known) t.mails)) es) (sym end.lines) (idle_sends (IsHad (names_in t.known) t.mails) end.more end.idle)

  pub step_known : (ms : List (Message Name)) (head : List Event) (step : Step Name Name) (t : Vat Name) → IsTaken script w v s ms head step → does (names script v) step (readied w (record s { queue = ms })) ≡ Gives tt t → KnowsSends t
  unfolding does names
  step_known ms head (Starts tree depth root bs) t (p, is, at, queue, trees, depths, roots, bound) gives = opening_known p tree depth t at (rw (queue, roots, roots_given script.vats p.knows bs bound) at gives)
  step_known ms head (Takes tree depth m) t taken gives = turn_known tree depth m ms t taken.2 gives
  step_known ms head (Receives from n) t taken gives = idle_known (record s { queue = ms }) (arrive K from n) t (idle_arrive K from n) gives
  step_known ms head (Notices u) t taken gives = idle_known (record s { queue = ms }) (notice K u) t (idle_notice K u) gives

  -- each name that a note brings is known once it has arrived
  pub arrival_heard : Wire script w → (from : ℕ) (n : Note Name) (t : Vat Name) → NoteOk (Told script w) n → does (names script v) (Receives from (read_note (names_of s) n)) (readied w s) ≡ Gives tt t → Has (names_heard (names_in s.known) n) t
  unfolding does names names_of readied
  arrival_heard wire from n t ok gives =
      let P : Telling = record { told = λ m. Unit {0}; passed = λ m. Unit {0}; due = λ m. Unit {0}; word = draw_word script.key } in
      let heard = arrive_hears v P from n (readied w s) (number_is script w v s h there) (mail_fits script w.vats (Told script w) (λ m i. i.0) n ok) (λ m a. tt) (λ m a o. tt) (λ m a. tt) (no_messages script w n ok) (known_apart script w v s h there) (wire.gifts v s there) in
      let end : Reached v P {A = Unit {0}} (HasHeard v P (names_in s.known) n) (record (readied w s) { mails = s.mails ++ carried_in n }) (Gives tt t) = rw gives at heard in
      let has = end.1 in has.0
