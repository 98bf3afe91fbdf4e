-- In every run a turn that takes a message is made of small steps, where what it does with references is so.
use Rattle.std.proofs.Common.{◌≡◌, ℕ, zero, suc, ◌*◌, Bool, true, List, [], ◌∷◌, Some, refl, sym, subst}
use Rattle.std.proofs.lemmas.List.{append-nil}
use Rattle.std.specs.Prelude.{slice_get}
use Rattle.def_kernel.specs.declared.node.Node.{Node}
use Rattle.def_machine.specs.Values.{Name, Promise}
use Rattle.def_machine.specs.State.{Message, Resolver, Took, Vat, Gives, ◌>>=◌, ◌>>◌, and_then, tell, new_activation, WhereSome}
use Rattle.def_machine.specs.Eval as eval
use Rattle.def_run.specs.World as world
use Rattle.def_run.specs.World.{Script, Entry, Event, Turned, World, Goes, names, readied}
use Rattle.law_fate.specs.Name.Names.{AllOf, Named, MessageOk, Parts}
use Rattle.law_fate.specs.Name.Runs.{KnowsOnce}
use Rattle.law_fate.proofs.Name.Facts.{Nothing, IsMessage, message_up}
use Rattle.law_fate.proofs.Name.Care.{Sound, fine_activation, fine_tell, rise}
use Rattle.law_fate.proofs.Name.Run.{Had, Stands, inside, low_at, opened_stands, steps_stand, sound_ready, had_ready}
use Rattle.law_fate.proofs.Name.Tracked.{tracked_under}
use Rattle.law_reference.specs.Reference.Cuts.{NoticesFollowCuts}
use Rattle.law_order.specs.History.Takes.{taken_state}
use Rattle.law_order.specs.History.Tells.{Tale, over}
use Rattle.law_order.specs.Waits.Answers.{answered_by}
use Rattle.law_order.proofs.Steady.Steady.{Steady}
use Rattle.law_order.specs.Tales.Middle.{middle}
use Rattle.law_order.proofs.Turns.Own as own
use Rattle.law_order.proofs.Turns.TurnRuns as runs
use Rattle.law_order.proofs.TurnTales.Course as course
use Rattle.law_order.proofs.TurnTales.Course.{Given}
use Rattle.law_order.proofs.TurnTales.Turning as turning
use Rattle.law_order.proofs.TurnTales.Turning.{T}

module _ (script : Script) (w : World) (v : ℕ) (s : Vat Name) (there : slice_get w.vats v ≡ Some s) (h : Stands script w) (m : Message Name) (ms : List (Message Name)) (first : s.queue ≡ m ∷ ms) where
  abbrev Start : Vat Name
  Start = readied w (record s { queue = ms })

  waiting : AllOf (MessageOk (Had script w v s)) (m ∷ ms)
  waiting = let k = h.vats v s there in let p = k.parts in rw first at p.queue

  parts : Parts (Had script w v s) s.things s.slots s.lists ms s.known s.gifts s.outbox
  parts = let k = h.vats v s there in let p = k.parts in record { things = p.things; slots = p.slots; lists = p.lists; queue = waiting.1; known = p.known; gifts = p.gifts; outbox = p.outbox }

  sure : Sound (T script w v s there h) Start
  sure = let k = h.vats v s there in sound_ready script v w s (record s { queue = ms }) there refl refl h parts k.kept

  message : MessageOk ((T script w v s there h).ok Start) m
  message = let k = h.vats v s there in message_up (Had script w v s) ((T script w v s there h).ok Start) (had_ready script v w s (record s { queue = ms }) there refl refl h parts k.kept) m waiting.0

  -- as the message is taken
  abbrev pub Taken : Vat Name
  Taken = taken_state s.activations m ms (readied w s)

  abbrev Begun : Vat Name
  Begun = record Start { activations = suc s.activations }

  begun : ((T script w v s there h).rel Start Begun) × Sound (T script w v s there h) Begun
  unfolding new_activation readied
  begun = let k = (fine_activation (T script w v s there h) {C = Nothing}).after Start sure tt in (k.0, k.1)

  taken : ((T script w v s there h).rel Begun Taken) × Sound (T script w v s there h) Taken
  unfolding tell readied
  taken = let k = (fine_tell (turning.K script w v s there h) (T script w v s there h) (tracked_under true (inside script) w.vats v s there (low_at script w h v s there) (turning.word script w v s there h)) {C = Nothing} (Took s.activations m)).after Begun begun.1 tt in (k.0, k.1)

  pub taken_sure : Sound (T script w v s there h) Taken
  taken_sure = taken.1

  -- the message and its answer are in hand
  pub in_hand : MessageOk ((T script w v s there h).ok Taken) m
  in_hand = rise (T script w v s there h) Begun Taken taken.0 (IsMessage m) (rise (T script w v s there h) Start Begun begun.0 (IsMessage m) message)

abbrev pub head_of : ℕ → ℕ → List Event
head_of k v = Turned k v ∷ []

-- ---- a turn of a run

module _ (script : Script) (once : KnowsOnce script) (honest : ℕ → Bool) (all : (u : ℕ) → honest u ≡ true) (w x : World) (es : List Entry) (k : ℕ) (follow : NoticesFollowCuts es) (opened : world.open_from script zero script.vats (world.begins script) ≡ Goes w) (steps : world.steps_from script es k w ≡ Goes x)
    (v : ℕ) (s : Vat Name) (there : slice_get x.vats v ≡ Some s) (m : Message Name) (ms : List (Message Name)) (first : s.queue ≡ m ∷ ms) where
  pub stands : Stands script x
  stands = steps_stand script es k w x (opened_stands script once script.vats [] w (sym (append-nil script.vats)) opened) steps

  abbrev Then' : Vat Name
  Then' = Taken script x v s there stands m ms first

  -- what more is kept, from the message that is taken on, by which the acts are small steps
  pub record Kept (n : ℕ) (t : Vat Name) : Type 1 where
    pub more : Vat Name → Type 0
    pub given : Given script honest all x v s there stands (head_of n v) t more
    pub begins : more (taken_state s.activations m ms (readied x s))

  module _ (n : ℕ) (t : Vat Name) (keeps : Kept n t) (resolvers : (i : ℕ) (p : Name) → slice_get t.things i ≡ Some (Resolver p) → (j : ℕ) × (p ≡ Promise v j)) where
    abbrev Leads : Type 0
    Leads = Tale script honest (middle x v (head_of n v) Then') (middle x v (head_of n v) t)

    steady : Steady script x v (λ a. 2 * answered_by a m.answer) (λ a. 0) Then'
    unfolding readied
    steady = own.aside_steady script x v (λ a. 2 * answered_by a m.answer) (λ a. 0) (readied x (record s { queue = ms })) x.fuel (Took s.activations m ∷ []) (suc s.activations) s.things s.slots s.lists (runs.steady script once w x es k follow opened steps v s there honest all m ms first)

    fit : course.Fit script honest all x v s there stands (head_of n v) t keeps.more (λ a. 2 * answered_by a m.answer) (λ a. 0) Then' Then'
    fit = record { steady = steady; more = keeps.begins; goes = over }

    named : (p : Name) → m.answer ≡ Some p → (T script x v s there stands).ok Then' (Named p)
    named p e = subst (WhereSome (λ a. (T script x v s there stands).ok Then' (Named a))) e (in_hand script x v s there stands m ms first).3

    pub turn_goes : (tree : List Node) (depth : ℕ) → eval.taking (names script v) tree depth m (readied x (record s { queue = ms })) ≡ Gives tt t → Leads
    unfolding eval.taking new_activation tell ◌>>=◌ ◌>>◌ and_then readied names
    turn_goes tree depth e = let keep = keeps.given in turning.turn_ends script x v s there stands t (course.Fit script honest all x v s there stands (head_of n v) t keeps.more (λ a. 2 * answered_by a m.answer) (λ a. 0) Then')
        (course.acts script honest all x v s there stands (head_of n v) t keeps.more keep resolvers Then' (λ a. 2 * answered_by a m.answer) (λ a. 0)) m.answer Leads (course.ending script honest all x v s there stands (head_of n v) t keeps.more keep resolvers Then' m.answer)
        tree depth s.activations Then' (taken_sure script x v s there stands m ms first) fit named m (in_hand script x v s there stands m ms first).1 (in_hand script x v s there stands m ms first).2 e
