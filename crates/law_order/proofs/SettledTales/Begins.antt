-- As an entry of a run begins, what is asked of the vat for settlings by small steps holds of it.
use Rattle.law_uses.specs.Connectivity.Known as connected
use Rattle.std.proofs.Common.{◌≡◌, ℕ, zero, Bool, true, List, Some, [], ◌∷◌, inl, inr}
use Rattle.std.specs.Prelude.{slice_get}
use Rattle.def_machine.specs.Values.{Name}
use Rattle.def_machine.specs.State.{Message, Known, Vat}
use Rattle.def_machine.specs.Refs.{entry_of}
use Rattle.def_run.specs.World.{Script, Entry, Event, World, Goes, begins, open_from, steps_from, names, readied}
use Rattle.law_fate.specs.Name.Names.{IsAmong}
use Rattle.law_fate.specs.Name.Runs.{KnowsOnce}
use Rattle.law_order.specs.History.Lines.{AllQuiet}
use Rattle.law_order.specs.History.Told.{IsOfRun}
use Rattle.law_order.specs.Sending.Came.{CameSo}
use Rattle.law_order.proofs.Sending.Came.{what_is_had_came}
use Rattle.law_order.proofs.Sending.Around.{around_of}
use Rattle.law_order.proofs.Sending.HeldCame.{held_came_so}
use Rattle.law_order.proofs.Sending.Views.{views_no_list}
use Rattle.law_order.proofs.MessageTales.Reaching.{IsAtRest}
use Rattle.law_order.proofs.MessageTales.Rests.{rests}
use Rattle.law_order.specs.Settling.Holding.{HeldCame}
use Rattle.law_order.proofs.Steady.Wells.{entry_among}

turned : {A : Type 0} (x : A) (xs : List A) → IsAmong x xs → connected.IsAmong x xs
turned x [] i = i
turned x (y ∷ xs) (inl e) = inl e
turned x (y ∷ xs) (inr i) = inr (turned x xs i)

module _ (script : Script) (once : KnowsOnce script) (o w : World) (es : List Entry) (k : ℕ) (opened : open_from script zero script.vats (begins script) ≡ Goes o) (steps : steps_from script es k o ≡ Goes w) (of_run : IsOfRun script w)
    (honest : ℕ → Bool) (all : (u : ℕ) → honest u ≡ true) (v : ℕ) (r : Vat Name) (there : slice_get w.vats v ≡ Some r) (head : List Event) (silent : AllQuiet head) where
  abbrev pub Start : Vat Name
  Start = readied w r

  at_rest : IsAtRest script honest w
  at_rest = rests script once honest all w of_run

  held_came_begins : (n : Name) (j : Known Name) → entry_of (names script v) r.known n ≡ Some j → (m : Message Name) → IsAmong m j.held → CameSo script honest w v head Start m
  unfolding readied
  held_came_begins n j e m i = held_came_so script honest w (around_of script once w of_run) v r there j (turned j r.known (entry_among (names script v) r.known n j e)) m (turned m j.held i) head r.queue

  pub came_begins : HeldCame script honest w v head Start
  unfolding readied
  came_begins n j e m i = let c = held_came_begins n j e m i in let true_vat = at_rest.agrees v r there in record {
    coming = c.coming;
    came = c.came;
    args = λ h d done told. what_is_had_came script honest w v h Start (record { lists = true_vat.lists; settled = true_vat.settled }) (views_no_list script v Start (at_rest.views v r there)) (at_rest.members v r there) c.coming.args m.args c.had c.held d done told;
  }
