-- What more a state keeps, it keeps in each turn of a run.
use Rattle.std.proofs.Common.{◌≡◌, ℕ, true, List, [], ◌∷◌, ◌++◌, Some, refl}
use Rattle.std.specs.Prelude.{slice_get}
use Rattle.def_machine.specs.Values.{Name, Root, Naming, naming}
use Rattle.def_machine.specs.State.{Message, Happened, Took, Vat, Done, Gives, Act, tell, WhereSome}
use Rattle.def_machine.specs.Eval.{opening, taking}
use Rattle.def_kernel.specs.declared.node.Node.{Node}
use Rattle.def_run.specs.Draws.{draw_word}
use Rattle.def_run.specs.World as world
use Rattle.def_run.specs.World.{Script, Program, World, names, readied}
use Rattle.law_fate.specs.Name.Names.{Bit, Named, bare, AllOf, IsAmong, IsMade, NounOk, MessageOk, Parts, names_in, IsHad}
use Rattle.law_fate.proofs.Name.Facts.{message_up, nouns_up, Fact, Nothing, Also, IsName, AreNouns, IsMessage, Holds, nothing}
use Rattle.law_fate.proofs.Name.Care.{Care, Gets, Fine, Sound, bind_number, fine_activation, then_unit, fine_tell}
use Rattle.law_fate.proofs.Name.CareEval.{fine_turn, fine_opening}
use Rattle.law_fate.proofs.Name.Run.{Had, Inside, inside, low_at, inside_root, knows_low, Stands, given_ok, sound_ready, had_ready}
use Rattle.law_fate.proofs.Name.Serves.{Serves, Closing}
use Rattle.law_fate.proofs.Name.Tracked.{Kept, IsFar, tracked, tracked_under}
use Rattle.law_reference.proofs.Reference.Gentle.{AfterGives}
use Rattle.law_reference.proofs.Reference.CareMore.{Leaves, KeptQuiet, More, with_more, lift, ends_leave}

module _ (script : Script) (w : World) (v : ℕ) (s : Vat Name) (there : slice_get w.vats v ≡ Some s) (h : Stands script w) (P : Vat Name → Type 0) (quiet : KeptQuiet P) (starts : (fs ms : List (Message Name)) → s.queue ≡ fs ++ ms → P (readied w (record s { queue = ms }))) where
  abbrev K : Naming Name Name
  K = naming (draw_word script.key) v

  abbrev T : Care Name
  T = tracked true (inside script) w.vats v s there (low_at script w h v s there)

  abbrev V : Care Name
  V = More T P quiet

  pub leaves_give : (d : Done Name (Unit {0})) → Leaves P d → AfterGives P d
  leaves_give (Gives a t) l = l
  leaves_give other l = tt

  module _ (q : Vat Name) (same_promises : q.promises ≡ s.promises) (same_messages : q.messages ≡ s.messages) (parts : Parts (λ b. IsMade w.vats w.drawn b × IsHad (names_in q.known) q.mails b × IsFar v b × Inside script (bare b)) q.things q.slots q.lists q.queue q.known q.gifts q.outbox) (kept : Kept v q.number q.known q.mails q.promises) (more : P (readied w q)) where
    ready_sound : Sound V (readied w q)
    ready_sound = with_more T P quiet (readied w q) (sound_ready script v w s q there same_promises same_messages h parts kept) more

    step_keeps : (C : Fact Name) (a : Act Name (Unit {0})) → Fine V C a nothing → Holds (V.ok (readied w q)) C → AfterGives P (a (readied w q))
    step_keeps C a f c = leaves_give (a (readied w q)) (ends_leave T P quiet nothing (readied w q) (a (readied w q)) (f.after (readied w q) ready_sound c))

  starts_so : P (readied w s)
  unfolding readied
  starts_so = starts [] s.queue refl

  -- what asks for nothing in hand
  pub any_keeps : (a : Act Name (Unit {0})) → Fine V Nothing a nothing → AfterGives P (a (readied w s))
  any_keeps a f = let k = h.vats v s there in step_keeps s refl refl k.parts k.kept starts_so Nothing a f tt

  module _ (serves : Serves K V) where
    told : {C : Fact Name} (e : Happened Name) → Fine V C (tell e) nothing
    unfolding tell
    told e = lift T P quiet (fine_tell K T (tracked_under true (inside script) w.vats v s there (low_at script w h v s there) (draw_word script.key)) e) (λ r o. quiet.told r e o)

    served_taking : (tree : List Node) {C : Fact Name} (depth : ℕ) (m : Message Name) → Gets V C (IsMessage m) → WhereSome (Closing K V) m.answer → Fine V C (taking K tree depth m) nothing
    unfolding taking
    served_taking tree depth m g closing = bind_number V (fine_activation V) (λ a. then_unit V (told (Took a m)) (fine_turn K V serves tree depth a m g closing))

    pub turn_keeps : (m : Message Name) (ms : List (Message Name)) → s.queue ≡ m ∷ ms → WhereSome (Closing K V) m.answer → AfterGives P (taking (names script v) (world.tree_at script.vats v) script.depth m (readied w (record s { queue = ms })))
    unfolding names
    turn_keeps m ms e closing = let k = h.vats v s there in let p = k.parts in let waiting : AllOf (MessageOk (Had script w v s)) (m ∷ ms) = rw e at p.queue in
        let parts : Parts (Had script w v s) s.things s.slots s.lists ms s.known s.gifts s.outbox = record { things = p.things; slots = p.slots; lists = p.lists; queue = waiting.1; known = p.known; gifts = p.gifts; outbox = p.outbox } in
        step_keeps (record s { queue = ms }) refl refl parts k.kept (starts (m ∷ []) ms e) (IsMessage m) (taking K (world.tree_at script.vats v) script.depth m) (served_taking (world.tree_at script.vats v) script.depth m (record { at = λ r c. c }) closing)
        (message_up (Had script w v s) (V.ok (readied w (record s { queue = ms }))) (had_ready script v w s (record s { queue = ms }) there refl refl h parts k.kept) m waiting.0)

    pub opening_keeps : (p : Program) → slice_get script.vats v ≡ Some p → Closing K V (Root v) → AfterGives P (opening (names script v) p.tree script.depth (Root v) (world.given script.vats p.knows) (readied w s))
    unfolding names
    opening_keeps p t closing = let k = h.vats v s there in let roots : AllOf (λ (u : ℕ). IsAmong (Root u) (names_in s.known)) (v ∷ p.knows) = k.roots p t in
        let given : AllOf (NounOk (Had script w v s)) (world.given script.vats p.knows) = given_ok script w v s p.knows roots.1 (knows_low script p.knows (λ f. f v p t)) in
        let up : (b : Bit Name) → Had script w v s b → V.ok (readied w s) b = had_ready script v w s s there refl refl h k.parts k.kept in
        step_keeps s refl refl k.parts k.kept starts_so (Also (IsName (Root v)) (AreNouns (world.given script.vats p.knows))) (opening K p.tree script.depth (Root v) (world.given script.vats p.knows))
        (fine_opening K V serves p.tree script.depth (Root v) (record { at = λ r c. c.0 }) closing (world.given script.vats p.knows) (record { at = λ r c. c.1 }))
        (up (Named (Root v)) (tt, roots.0, tt, inside_root script v (low_at script w h v s there)), nouns_up (Had script w v s) (V.ok (readied w s)) up (world.given script.vats p.knows) given)
