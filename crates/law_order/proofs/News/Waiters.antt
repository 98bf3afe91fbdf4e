-- In every run, as a name of another vat settles, the vat is steady and ready, so it follows all that it knows to an end.
use Rattle.std.proofs.Common.{◌≡◌, ℕ, zero, ◌+◌, ◌*◌, Bool, true, List, [], Some, refl, sym, subst, arith}
use Rattle.std.specs.Prelude.{slice_get}
use Rattle.def_machine.specs.Values.{Value, Name, Naming, host_of}
use Rattle.def_machine.specs.State.{Known, Unsettled, Settles, Vat}
use Rattle.def_machine.specs.Refs.{entry_of}
use Rattle.def_run.specs.World.{Script, Entry, World, Goes, begins, open_from, steps_from, names, readied}
use Rattle.law_fate.specs.Name.Runs.{KnowsOnce}
use Rattle.law_fate.specs.Fates.Fate.{one}
use Rattle.law_fate.specs.Fates.Lasting.{NoPromise}
use Rattle.law_reference.specs.Reference.Cuts.{NoticesFollowCuts}
use Rattle.law_reference.specs.Reference.Knowing.{onward_all}
use Rattle.law_reference.specs.Reference.Views.{IsOpen}
use Rattle.law_reference.proofs.Reference.Claims.{Waits}
use Rattle.law_order.specs.Ordering.Settle.{settled_to}
use Rattle.law_order.specs.Ordering.Settlings.{with_line}
use Rattle.law_order.specs.Ordering.Steps.{Ready}
use Rattle.law_order.specs.Ordering.Worlds.{FollowsEnd}
use Rattle.law_order.specs.Waits.Answers.{asked_at, waits_at}
use Rattle.law_order.proofs.Waits.Classes.{owed_at, other_host}
use Rattle.law_order.proofs.Waits.Room.{share}
use Rattle.law_reference.proofs.OwnWaits.Runs.{waits_in_runs}
use Rattle.law_order.proofs.Steady.Facts as facts
use Rattle.law_order.proofs.Steady.Facts.{IsClear}
use Rattle.law_order.proofs.Steady.Starts.{of_all, steady_at}
use Rattle.law_order.proofs.Steady.Steady.{Steady, less, then_steady}

still_open : IsOpen {N = Name} Unsettled
still_open y e = cc

module _ (script : Script) (once : KnowsOnce script) (w x : World) (es : List Entry) (k : ℕ) (follow : NoticesFollowCuts es) (o : open_from script zero script.vats (begins script) ≡ Goes w) (e : steps_from script es k w ≡ Goes x)
    (honest : ℕ → Bool) (all : (h : ℕ) → honest h ≡ true) (b : ℕ) (was : Vat Name) (there : slice_get x.vats b ≡ Some was) (n : Name) (away : host_of n ≡ b → ⊥) (j : Known Name) (found : entry_of (names script b) was.known n ≡ Some j) (waits : j.standing ≡ Unsettled)
    (empty : j.held ≡ []) (y : Value Name) (last : NoPromise y) (clear : IsClear (names script b) was.noticed y) where
  abbrev K : Naming Name Name
  K = names script b

  abbrev Start : Vat Name
  Start = readied x was

  abbrev Then : Vat Name
  Then = settled_to K (with_line Start (Settles n y)) n y

  starts : Steady script x b (of_all []) (λ m. 0) Start
  starts = steady_at script once w x es k follow o e b was there ((waits_in_runs script once).1 w x es k o e b was there) [] was.queue refl

  -- the name is owed nothing, so it is in hand for nothing
  in_hand : Steady script x b (λ m. share (owed_at b m) (one n m) + of_all [] m) (λ m. 0) Start
  in_hand = less script x b (of_all []) (λ m. 0) (λ m. share (owed_at b m) (one n m) + of_all [] m) (λ m. 0) (λ m. let z = other_host b m n away in omega arith) (λ m. omega arith) Start starts

  pub steady_then : Steady script x b (λ m. 2 * asked_at m j + (share (owed_at b m) (waits_at m j) + of_all [] m)) (λ m. onward_all b m j.held + 0) Then
  unfolding readied
  steady_then = then_steady script x b (of_all []) (λ m. 0) n y last j Start found (subst IsOpen (sym waits) still_open) (subst (Waits K b) (sym waits) tt) in_hand

  -- the vat is ready then, and follows all to an end
  pub ready_then : Ready script honest x b Then
  ready_then = facts.ready script x b honest (λ m. 2 * asked_at m j + (share (owed_at b m) (waits_at m j) + of_all [] m)) (λ m. onward_all b m j.held + 0) Then steady_then

  pub follows : FollowsEnd K Then
  follows = ready_then.ends
