-- In every world of a run each vat is steady as a step begins, where what waits on another name is the vat's own.
use Rattle.std.proofs.Common.{◌≡◌, ℕ, zero, ◌+◌, ◌*◌, ◌≤◌, Bool, true, false, List, [], ◌∷◌, ◌++◌, Some, refl, ap, arith}
use Rattle.std.specs.Prelude.{slice_get}
use Rattle.def_machine.specs.Values.{Name}
use Rattle.def_machine.specs.State.{Message, Vat, is_in}
use Rattle.def_run.specs.Draws.{draw_word}
use Rattle.def_run.specs.World as world
use Rattle.def_run.specs.World.{Script, Entry, World, Goes, names, readied}
use Rattle.law_fate.specs.Fates.Fate.{total}
use Rattle.law_fate.specs.Name.Runs.{KnowsOnce}
use Rattle.law_reference.specs.Reference.Cuts.{NoticesFollowCuts}
use Rattle.law_reference.specs.Reference.Knowing.{claims}
use Rattle.law_reference.specs.Reference.NameTableRuns.{allowed}
use Rattle.law_reference.proofs.Reference.ApartWhole.{bring_new}
use Rattle.law_reference.proofs.Reference.Counts.{stepped_counted}
use Rattle.law_reference.proofs.Reference.KnownRuns.{begins_bounded, opens_hold, steps_hold}
use Rattle.law_reference.proofs.Reference.NoticedRuns.{noticed_links_cut}
use Rattle.law_reference.proofs.Reference.ViewsRuns.{views_wait_in_runs}
use Rattle.law_order.proofs.Runs.Beginnings.{vats_are_ready}
use Rattle.law_order.specs.Waits.Answers.{answers}
use Rattle.law_order.proofs.Waits.Classes.{owed_at}
use Rattle.law_order.proofs.Waits.Costs as costs
use Rattle.law_order.proofs.Waits.Runs.{stepped_held}
use Rattle.law_order.proofs.Steady.Ends.{ViewsLater, WaitsAreOwn}
use Rattle.law_order.proofs.Steady.Steady.{Steady}

-- the answers of these messages
unfoldable pub of_all : List (Message Name) → Name → ℕ
of_all ms x = 2 * total (answers x) ms

true_not : (b : Bool) → (b ≡ true → ⊥) → b ≡ false
true_not true f = absurd (f refl)
true_not false f = refl

total_parts : (f : Message Name → ℕ) (fs ms : List (Message Name)) → total f (fs ++ ms) ≡ total f fs + total f ms
unfolding total
total_parts f [] ms = omega arith
total_parts f (m ∷ fs) ms = let rest = total_parts f fs ms in omega arith

module _ (script : Script) (once : KnowsOnce script) (w x : World) (es : List Entry) (k : ℕ) (follow : NoticesFollowCuts es) (opened : world.open_from script zero script.vats (world.begins script) ≡ Goes w) (steps : world.steps_from script es k w ≡ Goes x)
    (v : ℕ) (s : Vat Name) (there : slice_get x.vats v ≡ Some s) (owners : WaitsAreOwn (names script v) v s.known) where
  K_later : ViewsLater (names script v) s.known
  K_later n g e = let a = (views_wait_in_runs script once).1 w x es k opened steps v s there n g e in (a.entry, a.found, a.later)

  -- the vat as it takes these messages from its queue
  abbrev Takes : List (Message Name) → Vat Name
  Takes ms = readied x (record s { queue = ms })

  itself : is_in v s.noticed ≡ false
  itself = true_not (is_in v s.noticed) (λ b. (noticed_links_cut script once w x es k follow opened steps v s there v b).0 refl)

  room_of : (fs ms : List (Message Name)) → s.queue ≡ fs ++ ms → (n : Name) → costs.At (draw_word script.key) v n (owed_at v n) (of_all fs n) (Takes ms)
  unfolding readied of_all
  room_of fs ms e n = let held = stepped_held script once w x es k follow opened steps v s there n in let fits = held.fits in let split : total (answers n) s.queue ≡ total (answers n) (fs ++ ms) = ap (total (answers n)) e in let parts = total_parts (answers n) fs ms in
      record { number = held.number; fits = omega arith; waiting = held.waiting; gifts = held.gifts }

  claims_of : (n : Name) → claims v n s.known ≤ allowed v n s x.drawn
  claims_of n = (steps_hold script es k w x (opens_hold script zero script.vats (world.begins script) w (begins_bounded script once) opened) (bring_new script once w es k follow opened) steps v s there).1 n

  pub steady_at : (fs ms : List (Message Name)) → s.queue ≡ fs ++ ms → Steady script x v (of_all fs) (λ n. 0) (Takes ms)
  unfolding readied allowed
  steady_at fs ms e = let counted = stepped_counted script w x es k opened steps in let sound = counted.sound.vats v s there in record {
    sound = record { same = sound.same; well = sound.well; names = sound.names; own = sound.own; notes = tt };
    later = K_later;
    owners = owners;
    itself = itself;
    draws = ((vats_are_ready script once).1 w x es k opened steps (λ h. true) v s ms there).draws;
    room = room_of fs ms e;
    single = λ n. let c = claims_of n in omega arith;
  }
