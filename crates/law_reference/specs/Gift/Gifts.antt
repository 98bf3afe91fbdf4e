-- What of gifts no step undoes, and what a notice breaks in every later world.
use Rattle.std.specs.Prelude.{◌≡◌, ℕ, true, false, List, ◌∷◌, Some, slice_get}
use Rattle.def_machine.specs.Values.{Name, Local}
use Rattle.def_machine.specs.State.{GiftEntry, Known, Vat, is_in}
use Rattle.def_machine.specs.Refs.{entry_of}
use Rattle.def_run.specs.World.{Script, Entry, NoticeLink, World, Goes, steps_from, names}
use Rattle.law_machine.specs.Machine.Steps.{KeptBySteps}
use Rattle.law_machine.specs.Machine.Breaks.{still_waits, IsBroken, HostedBreak, GiftsBreak}
use Rattle.law_machine.specs.Run.Runs.{InEachVat}

-- The gift h is g, later: once it was opened it stays opened.
pub record IsLater {N : Type 0} (g h : GiftEntry N) : Type 0 where
  pub name : h.name ≡ g.name
  pub provider : h.provider ≡ g.provider
  pub number : h.number ≡ g.number
  pub opened : g.opened ≡ true → h.opened ≡ true

-- each gift at its place
abbrev pub SameGifts : {N : Type 0} → Vat N → Vat N → Type 0
SameGifts {N} s t = (i : ℕ) (g : GiftEntry N) → slice_get s.gifts i ≡ Some g → (h : GiftEntry N) × (slice_get t.gifts i ≡ Some h) × IsLater g h

abbrev pub GiftsStay : Type 0
GiftsStay = KeptBySteps {N = Name} {W = Name} (λ K. SameGifts) × KeptBySteps {N = Local} {W = Name} (λ K. SameGifts)

abbrev pub GiftsStayInRuns : Type 0
GiftsStayInRuns = InEachVat SameGifts

-- What a notice of vat w left, being s before it, in a later state t.
pub record StaysBroken (script : Script) (v w : ℕ) (s t : Vat Name) : Type 0 where
  -- the names of that host that waited
  pub hosted : HostedBreak (names script v) w s t
  -- the gifts of that provider that were not opened, and waited
  pub gifts : GiftsBreak (names script v) w s t
  -- the gifts of that provider that are not opened by now, were there, and waited
  pub unopened : (i : ℕ) (g h : GiftEntry Name) (k : Known Name) → slice_get s.gifts i ≡ Some g → slice_get t.gifts i ≡ Some h → h.provider ≡ w → h.opened ≡ false
      → entry_of (names script v) s.known g.name ≡ Some k → still_waits k.standing ≡ true → IsBroken (names script v) t h.name

-- From the notice on: an entry by which vat v first notices the cut of w, and any entries after it.
abbrev pub NoticesBreakForGood : Type 0
NoticesBreakForGood = (script : Script) (v w : ℕ) (es : List Entry) (k : ℕ) (first later : World) → steps_from script (NoticeLink v w ∷ es) k first ≡ Goes later
    → (s : Vat Name) → slice_get first.vats v ≡ Some s → is_in w s.noticed ≡ false → (t : Vat Name) × (slice_get later.vats v ≡ Some t) × StaysBroken script v w s t
