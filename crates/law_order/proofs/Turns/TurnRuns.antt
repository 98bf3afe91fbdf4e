-- As a turn begins in a run, where all are honest, a vat is steady with the answer of what it takes in hand.
use Rattle.std.proofs.Common.{◌≡◌, ℕ, zero, ◌*◌, Bool, true, List, [], ◌∷◌, Some, arith}
use Rattle.std.specs.Prelude.{slice_get}
use Rattle.def_machine.specs.Values.{Name}
use Rattle.def_machine.specs.State.{Message, Vat}
use Rattle.def_run.specs.World as world
use Rattle.def_run.specs.World.{Script, Entry, World, Goes, names, readied}
use Rattle.law_fate.specs.Fates.Fate.{total}
use Rattle.law_fate.specs.Name.Runs.{KnowsOnce}
use Rattle.law_reference.proofs.OwnWaits.Runs.{waits_in_runs}
use Rattle.law_reference.specs.Reference.Cuts.{NoticesFollowCuts}
use Rattle.law_order.specs.Waits.Answers.{answers, answered_by}
use Rattle.law_order.proofs.Steady.Ends.{WaitsAreOwn}
use Rattle.law_order.proofs.Steady.Starts.{of_all, steady_at}
use Rattle.law_order.proofs.Steady.Steady.{Steady, less}

module _ (script : Script) (once : KnowsOnce script) (w x : World) (es : List Entry) (k : ℕ) (follow : NoticesFollowCuts es) (opened : world.open_from script zero script.vats (world.begins script) ≡ Goes w) (steps : world.steps_from script es k w ≡ Goes x)
    (v : ℕ) (s : Vat Name) (there : slice_get x.vats v ≡ Some s) (honest : ℕ → Bool) (all : (h : ℕ) → honest h ≡ true) where
  owners : WaitsAreOwn (names script v) v s.known
  owners = (waits_in_runs script once).1 w x es k opened steps v s there

  module _ (m : Message Name) (ms : List (Message Name)) (first : s.queue ≡ m ∷ ms) where
    abbrev Start : Vat Name
    Start = readied x (record s { queue = ms })

    abbrev Hand : Name → ℕ
    Hand n = 2 * answered_by n m.answer

    pub steady : Steady script x v Hand (λ n. 0) Start
    unfolding of_all total answers
    steady = less script x v (of_all (m ∷ [])) (λ n. 0) Hand (λ n. 0) (λ n. omega arith) (λ n. omega arith) Start (steady_at script once w x es k follow opened steps v s there owners (m ∷ []) ms first)
