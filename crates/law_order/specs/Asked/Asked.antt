-- A gift that is asked for is opened already, or is new to its host.
use Rattle.std.specs.Prelude.{◌≡◌, ℕ, zero, true, List, None, Some, slice_get}
use Rattle.def_machine.specs.Values.{Name, Gift}
use Rattle.def_machine.specs.State.{Ask, GiftEntry, Vat}
use Rattle.def_machine.specs.Refs.{entry_of}
use Rattle.def_machine.specs.Arrive.{gift_at}
use Rattle.def_run.specs.World.{Script, Entry, Link, World, Goes, begins, open_from, steps_from, link_at, names}
use Rattle.law_fate.specs.Name.Names.{IsAmong}
use Rattle.law_fate.specs.Name.Runs.{KnowsOnce}
use Rattle.law_reference.specs.Reference.Cuts.{NoticesFollowCuts}
use Rattle.law_order.specs.Runs.Beginnings.{InRuns}
use Rattle.law_order.specs.Asks.Asks.{Bears}

-- In every world of a run, where a note under way asks for the gift under a key, each gift under that key that stands at any vat was opened.
abbrev pub AskedForAreOpened : Type 0
AskedForAreOpened = InRuns (λ script w. (u v : ℕ) (l : Link) (p i : ℕ) (n : Name) → link_at u v w.links ≡ Some l → IsAmong (Ask p i n) l.notes
    → (b : ℕ) (s : Vat Name) (g : GiftEntry Name) → slice_get w.vats b ≡ Some s → IsAmong g s.gifts → g.number ≡ i → g.opened ≡ true)

-- In every run in which each notice stands behind its cut, where the first note of a link asks for a gift that does not stand at the receiver, the name of that gift is not known there.
abbrev pub AskedForAreNew : Type 0
AskedForAreNew = (script : Script) → KnowsOnce script → (w x : World) (es : List Entry) (k a b p i : ℕ) (n : Name) → NoticesFollowCuts es
    → open_from script zero script.vats (begins script) ≡ Goes w → steps_from script es k w ≡ Goes x
    → (h : Bears x a b (Ask p i n)) → gift_at p i h.vat.gifts ≡ None → entry_of (names script b) h.vat.known (Gift b i) ≡ None
