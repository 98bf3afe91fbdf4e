-- What more is kept in the middle of a turn holds as the message is taken, and as an opening turn begins.
use Rattle.law_uses.specs.Connectivity.Known as connected
use Rattle.std.proofs.Common.{◌≡◌, ℕ, zero, suc, ◌≤◌, Bool, false, List, [], ◌∷◌, ◌++◌, Some, length, map, refl, sym, subst, inl, inr}
use Rattle.std.specs.Prelude.{slice_get}
use Rattle.def_machine.specs.Values.{Name}
use Rattle.def_machine.specs.State.{Message, Known, Took, Vat, begun}
use Rattle.def_machine.specs.Refs.{entry_of}
use Rattle.def_run.specs.Draws.{draw_word}
use Rattle.def_run.specs.World as world
use Rattle.def_run.specs.World.{Script, Program, Entry, Event, Here, World, Goes, names, readied}
use Rattle.law_fate.specs.Fates.Fate.{one}
use Rattle.law_fate.specs.Name.Names.{AllOf, IsAmong}
use Rattle.law_fate.specs.Name.Runs.{KnowsOnce}
use Rattle.law_reference.proofs.Reference.Told.{found_all}
use Rattle.law_reference.proofs.Reference.ViewsRuns.{views_wait_in_runs}
use Rattle.law_order.specs.History.Lines.{counts, sends_it, was_sent}
use Rattle.law_order.specs.History.Takes.{taken_state}
use Rattle.law_order.proofs.NoticeTales.Unsent.{unsent}
use Rattle.law_order.specs.Sending.Came.{CameSo}
use Rattle.law_order.proofs.Sending.Counting.{begun_counted, took_counted}
use Rattle.law_order.proofs.Sending.HeldCame.{held_came_so}
use Rattle.law_order.proofs.Sending.Keeping.{came_later}
use Rattle.law_order.proofs.Sending.Sending.{Around}
use Rattle.law_order.proofs.Settling.Acts.{story_more}
use Rattle.law_order.proofs.Settling.Later.{unsent_more}
use Rattle.law_order.specs.Tales.Middle.{middle}
use Rattle.law_order.proofs.Tales.Middle.{events_quiet}
use Rattle.law_order.proofs.Waits.Entries.{opened_fresh}
use Rattle.law_order.proofs.TurnTales.Also.{Also}
use Rattle.law_order.proofs.TurnTales.AlsoKept.{sent_both, held_known}
use Rattle.law_order.proofs.TurnTales.Counted.{quietly_counted}
use Rattle.law_order.proofs.TurnTales.OpenRuns.{open_head_of}
use Rattle.law_order.proofs.TurnTales.TurnRuns.{head_of}
use Rattle.law_order.proofs.Steady.Wells.{entry_among}

turned : {A : Type 0} (x : A) (xs : List A) → IsAmong x xs → connected.IsAmong x xs
turned x [] i = i
turned x (y ∷ xs) (inl e) = inl e
turned x (y ∷ xs) (inr i) = inr (turned x xs i)

-- ---- a message is taken

module _ (script : Script) (once : KnowsOnce script) (honest : ℕ → Bool) (w x : World) (es : List Entry) (opened : world.open_from script zero script.vats (world.begins script) ≡ Goes w) (steps : world.steps_from script es 1 w ≡ Goes x) (around : Around script x)
    (v : ℕ) (s : Vat Name) (there : slice_get x.vats v ≡ Some s) (m : Message Name) (ms : List (Message Name)) (n : ℕ) where
  abbrev Start : Vat Name
  Start = readied x (record s { queue = ms })

  abbrev Taken : Vat Name
  Taken = taken_state s.activations m ms (readied x s)

  abbrev Story : Vat Name → List Event
  Story t = (middle x v (head_of n v) t).history

  story : Story Taken ≡ Story Start ++ Here v (Took s.activations m) ∷ []
  unfolding readied world.events_of world.event_of
  story = story_more script honest x v (head_of n v) ⊥ Start Taken (Took s.activations m ∷ []) refl

  -- what reacts on a name was not sent
  reacting : (p : Name) (k : Known Name) → entry_of (names script v) s.known p ≡ Some k → (a : Message Name) → IsAmong a k.reactions → was_sent a.id (Story Taken) ≡ false
  unfolding readied was_sent sends_it counts
  reacting p k e a i = subst (λ hs. was_sent a.id hs ≡ false) (sym story) (sent_both a.id (Story Start) (Here v (Took s.activations m) ∷ [])
      (unsent_more a.id (x.history ++ head_of n v) (world.events_of x.links v []) (unsent_more a.id x.history (head_of n v) (unsent script w x es 1 opened steps v s there a (k, entry_among (names script v) s.known p k e, i)) (refl, tt)) (events_quiet x.links v [] tt)) refl)

  came : (p : Name) (k : Known Name) → entry_of (names script v) s.known p ≡ Some k → (a : Message Name) → IsAmong a k.held → CameSo script honest x v (head_of n v) Taken a
  unfolding readied
  came p k e a i = came_later script honest x v (head_of n v) Start Taken (Here v (Took s.activations m) ∷ []) story (λ j y f. f) (λ y j. held_known script honest x v (head_of n v) Start Taken (λ z g. g) y j) a
      (held_came_so script honest x around v s there k (turned k s.known (entry_among (names script v) s.known p k e)) a (turned a k.held i) (head_of n v) ms)

  pub turn_starts : Also script honest x v (head_of n v) (λ y. one m.id y) s (record s { queue = ms }) (taken_state s.activations m ms (readied x s))
  unfolding readied
  turn_starts = record {
    counted = took_counted x v s.activations m s ms;
    settled = λ p k y e f. e;
    draws = λ i y e. e;
    views = λ p g e. (views_wait_in_runs script once).1 w x es 1 opened steps v s there p g e;
    unsent = reacting;
    came_so = came;
  }

-- ---- an opening turn begins: nothing is held, and nothing reacts

-- it holds nothing, and nothing reacts on it
abbrev IsCalm : Known Name → Type 0
IsCalm k = (k.held ≡ []) × (k.reactions ≡ [])

roots_calm : (us : List ℕ) → AllOf IsCalm (map world.known_root us)
unfolding world.known_root begun
roots_calm [] = tt
roots_calm (u ∷ us) = ((refl, refl), roots_calm us)

fresh_calm : (script : Script) (u : ℕ) (ps : List Program) (i : ℕ) (s : Vat Name) → slice_get (world.fresh_from script u ps) i ≡ Some s → AllOf IsCalm s.known
unfolding world.fresh_from world.fresh world.known_root begun
fresh_calm script u [] i s e = absurd (cc)
fresh_calm script u (p ∷ ps) zero s e = let same : world.fresh script u p ≡ s = cc in subst (λ (t : Vat Name). AllOf IsCalm t.known) same ((refl, refl), roots_calm p.knows)
fresh_calm script u (p ∷ ps) (suc i) s e = fresh_calm script (suc u) ps i s e

none_among : {A : Type 0} (x : A) (xs : List A) → xs ≡ [] → IsAmong x xs → ⊥
none_among x xs e i = subst (λ ys. IsAmong x ys) e i

module _ (script : Script) (once : KnowsOnce script) (honest : ℕ → Bool) (ps rest : List Program) (w : World) (split : script.vats ≡ ps ++ rest) (opened : world.open_from script zero ps (world.begins script) ≡ Goes w) (v : ℕ) (later : length ps ≤ v) (s : Vat Name) (there : slice_get w.vats v ≡ Some s) where
  calm : (p : Name) (k : Known Name) → entry_of (names script v) s.known p ≡ Some k → IsCalm k
  unfolding names
  calm p k e = found_all (draw_word script.key) v IsCalm s.known p k (fresh_calm script zero script.vats v s (opened_fresh script ps rest w split opened v s later there)) e

  pub opening_starts : Also script honest w v (open_head_of v) (λ y. 0) s s (record (readied w s) { activations = suc s.activations })
  unfolding readied
  opening_starts = record {
    counted = quietly_counted (draw_word script.key) w v (λ y. 0) s (readied w s) w.fuel [] [] (suc s.activations) s.things s.slots s.lists refl tt (begun_counted w v (λ y. 0) s);
    settled = λ p k y e f. e;
    draws = λ i y e. e;
    views = λ p g e. (views_wait_in_runs script once).0 ps rest w split opened v s there p g e;
    unsent = λ p k e a i. absurd (none_among a k.reactions (calm p k e).1 i);
    came_so = λ p k e a i. absurd (none_among a k.held (calm p k e).0 i);
  }
