-- An entry that carries a silent note, and any step of one vat, by what the vat does in the middle of it.
use Rattle.std.proofs.Common.{◌≡◌, ℕ, Bool, true, false, List, [], ◌∷◌, refl, sym, ap, subst, ◌∙◌}
use Rattle.def_machine.specs.Values.{Name}
use Rattle.def_machine.specs.State.{Note, Deliver, Vat, Done, Gives}
use Rattle.def_machine.specs.Arrive.{arrive}
use Rattle.def_run.specs.World as world
use Rattle.def_run.specs.World.{Script, Event, Carry, Carried, World, Goes, names, names_of, read_note, readied, with_link, with_notes}
use Rattle.law_order.specs.Ordering.Arrivals.{IsSilent}
use Rattle.law_order.specs.Asks.Asks.{Bears}
use Rattle.law_order.specs.History.Lines.{counts}
use Rattle.law_order.specs.History.Tells.{Tale, over, then_on}
use Rattle.law_order.specs.Tales.Middle.{middle}
use Rattle.law_order.proofs.Tales.Begun.{begin_small, ended, end_small, tale_both}
use Rattle.law_order.proofs.Tales.Silent.{silent_delivers, silent_small}

goes_is : (x y : World) → Goes x ≡ Goes y → x ≡ y
goes_is x y e = cc

-- where what a vat did gave, the world is the one in which it ended
pub ended_is : (w y : World) (v : ℕ) (head : List Event) (k : ℕ) (d : Done Name (Unit {0})) → world.put_back v w head k d ≡ Goes y → (t : Vat Name) × (d ≡ Gives tt t) × (ended w v head t ≡ y)
unfolding world.put_back
ended_is w y v head k (Gives u t) e = (t, refl, goes_is (ended w v head t) y e)
ended_is w y v head k other e = cc

silent_quiet : (k a b : ℕ) (n : Note Name) (bytes : List ℕ) → IsSilent n → counts (Carried k a b n bytes) ≡ false
unfolding counts
silent_quiet k a b (Deliver d m verb ys) bytes h = absurd h
silent_quiet k a b other bytes h = refl

module _ (script : Script) (honest : ℕ → Bool) (w : World) (a b : ℕ) (n : Note Name) (h : Bears w a b n) where
  abbrev pub Start : Vat Name
  Start = readied w h.vat

  abbrev pub Bare : World
  Bare = record w { links = with_link (with_notes h.rest) a b w.links }

  abbrev pub head_of : ℕ → List Event
  head_of k = Carried k a b n (world.next_frame a b w.connections) ∷ []

  abbrev pub Arrival : Done Name (Unit {0})
  Arrival = arrive (names script b) a (read_note (names_of h.vat) n) Start

  pub step_is : (k : ℕ) → world.step script (Carry a b) k w ≡ world.put_back b Bare (head_of k) (world.step_number script k) Arrival
  unfolding world.step world.carry_link world.carry_notes world.arrives world.within readied
  step_is k =
      ap (λ o. world.carry_link script k a b w o) h.found
      ∙ ap (λ q. elim q [ true ↦ world.idle script k w | false ↦ world.carry_notes script k a b w h.link.notes ]) h.uncut
      ∙ ap (λ ns. world.carry_notes script k a b w ns) h.first
      ∙ ap (λ o. world.arrives script k a b Bare n o) h.there

  pub silent_tale : IsSilent n → (k : ℕ) (y : World) → ((t : Vat Name) → Arrival ≡ Gives tt t → Tale script honest (middle w b (head_of k) Start) (middle w b (head_of k) t)) → world.step script (Carry a b) k w ≡ Goes y → Tale script honest w y
  silent_tale silent k y inner e = go (ended_is Bare y b (head_of k) (world.step_number script k) Arrival (sym (step_is k) ∙ e))
    where
      go : (t : Vat Name) × (Arrival ≡ Gives tt t) × (ended Bare b (head_of k) t ≡ y) → Tale script honest w y
      go (t, f, same) = then_on (begin_small script honest w b (head_of k) h.vat h.there (silent_quiet k a b n (world.next_frame a b w.connections) silent, tt))
          (tale_both script honest (middle w b (head_of k) Start) (middle w b (head_of k) t) y (inner t f)
          (then_on (silent_small script honest w a b (head_of k) h.link n h.rest h.found h.first (silent_delivers n silent) t silent)
          (subst (λ z. Tale script honest (middle Bare b (head_of k) t) z) same (then_on (end_small script honest Bare b (head_of k) t) over))))
