-- Gifts at their host that were not opened.
use Rattle.std.specs.Prelude.{◌≡◌, ℕ, zero, false, List, ◌∷◌, ◌⊎◌, Some, slice_get}
use Rattle.def_machine.specs.Values.{Name}
use Rattle.def_machine.specs.State.{GiftEntry, Unsettled, Vat, is_in}
use Rattle.def_machine.specs.Refs.{standing_of}
use Rattle.def_run.specs.World.{Script, Entry, NoticeLink, World, Goes, begins, open_from, steps_from, names}
use Rattle.law_machine.specs.Machine.Breaks.{IsBroken}
use Rattle.law_fate.specs.Name.Runs.{KnowsOnce}
use Rattle.law_reference.specs.Reference.Rest.{InEachVat}

-- Each gift that was not opened did neither settle nor wait on another name, or it is broken.
abbrev pub UnopenedRest : Script → ℕ → Vat Name → Type 0
UnopenedRest script v s = (i : ℕ) (g : GiftEntry Name) → slice_get s.gifts i ≡ Some g → g.opened ≡ false → (standing_of (names script v) s.known g.name ≡ Unsettled) ⊎ IsBroken (names script v) s g.name

abbrev pub UnopenedGiftsRest : Type 0
UnopenedGiftsRest = InEachVat UnopenedRest

-- each gift of provider w that stands in s and was not opened there is broken in t
abbrev pub UnopenedBreak : Script → ℕ → ℕ → Vat Name → Vat Name → Type 0
UnopenedBreak script v w s t = (i : ℕ) (g : GiftEntry Name) → slice_get s.gifts i ≡ Some g → g.provider ≡ w → g.opened ≡ false → IsBroken (names script v) t g.name

-- From any world of a run on: an entry by which vat v first notices the cut of w, and any entries after it.
abbrev pub UnopenedGiftsBreak : Type 0
UnopenedGiftsBreak = (script : Script) → KnowsOnce script → (opened first later : World) (es fs : List Entry) (j k v w : ℕ) → open_from script zero script.vats (begins script) ≡ Goes opened → steps_from script es j opened ≡ Goes first
    → steps_from script (NoticeLink v w ∷ fs) k first ≡ Goes later → (s : Vat Name) → slice_get first.vats v ≡ Some s → is_in w s.noticed ≡ false
    → (t : Vat Name) × (slice_get later.vats v ≡ Some t) × UnopenedBreak script v w s t
