-- From each vat of a script there is a link to each other one, in every world of a run.
use Rattle.std.proofs.Common.{◌≡◌, ℕ, ◌<◌, zero, false, List, ◌++◌, sym, subst, length, ◌==◌, arith, Option, Some, refl}
use Rattle.def_run.specs.World as world
use Rattle.law_reference.specs.Reference.Logs as wire
use Rattle.def_run.specs.World.{Script, Program, Entry, Link, World, Goes as Going}
use Rattle.law_fate.specs.Name.Runs.{KnowsOnce}
use Rattle.law_reference.proofs.Reference.LegRuns.{Before, stands_of}
use Rattle.law_reference.proofs.Reference.LegMoves.{opened_before, stepped_before}
use Rattle.law_reference.proofs.Reference.Moves.{Moved, Still, Severs, Drops, Steps, Arrives, opened_hold, stepped_hold}
use Rattle.law_frame.proofs.Frame.LinksGo.{IsThere, Lasts, with_link_lasts}
use Rattle.law_frame.proofs.Frame.LinksThere.{from_there}
use Rattle.law_frame.proofs.Frame.Sources.{push_all_lasts, take_lasts, severed_stay}

abbrev pub AllLinked : Script → World → Type 0
AllLinked script w = (a b : ℕ) → (a == b) ≡ false → a < length script.vats → b < length script.vats → IsThere w.links a b

pub roots_is : (m : Link) (o : Option Link) → o ≡ Some m → wire.roots_of o ≡ m.roots
unfolding wire.roots_of
roots_is m o e = rw (e, wire.roots_of) refl

-- no move takes a link away
pub lasts_of : (script : Script) (w y : World) → Moved script w y → Lasts w.links y.links
lasts_of script w y (Still v l d) = subst (λ z. Lasts w.links z) (sym l) (λ a b t. t)
lasts_of script w y (Severs c e v l d) = subst (λ z. Lasts w.links z) (sym l)
    (λ a b t. with_link_lasts world.severed_link severed_stay e c (world.with_link world.severed_link c e w.links) a b (with_link_lasts world.severed_link severed_stay c e w.links a b t))
lasts_of script w y (Drops c v n ns l at notes none vats links drawn) = subst (λ z. Lasts w.links z) (sym links) (take_lasts ns c v w.links)
lasts_of script w y (Steps v s q t what alone d vats links drawn first fresh) = subst (λ z. Lasts w.links z) (sym links) (push_all_lasts v t.outbox w.links)
lasts_of script w y (Arrives c v s t n ns l at cut notes d vats links drawn first fresh) = subst (λ z. Lasts w.links z) (sym links)
    (λ a b i. push_all_lasts v t.outbox (world.with_link (world.with_notes ns) c v w.links) a b (take_lasts ns c v w.links a b i))

links_on : (script : Script) (w y : World) → Before script w → Before script y → Moved script w y → AllLinked script w → AllLinked script y
links_on script w y past next m h = λ a b o i j. lasts_of script w y m a b (h a b o i j)

linked_first : (script : Script) → AllLinked script (world.begins script)
unfolding world.begins
linked_first script a b o i j = from_there script.vats a b zero script.vats o j (omega arith) (omega arith)

module _ (script : Script) (once : KnowsOnce script) where
  pub opened_linked : (ps rest : List Program) (w : World) → script.vats ≡ ps ++ rest → world.open_from script zero ps (world.begins script) ≡ Going w → AllLinked script w
  opened_linked = opened_hold script (Before script) (opened_before script once) (stepped_before script once) (stands_of script) (AllLinked script) (links_on script) (linked_first script)

  pub stepped_linked : (w x : World) (es : List Entry) (k : ℕ) → world.open_from script zero script.vats (world.begins script) ≡ Going w → world.steps_from script es k w ≡ Going x → AllLinked script x
  stepped_linked = stepped_hold script (Before script) (opened_before script once) (stepped_before script once) (stands_of script) (AllLinked script) (links_on script) (linked_first script)
