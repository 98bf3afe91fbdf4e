-- That names which vats know are shown as different names: a gift is shown by its host and the place of its word, and its word tells its provider.
use Rattle.std.specs.Prelude.{◌≡◌, ℕ, List, Some, slice_get}
use Rattle.def_machine.specs.Values.{Name, Gift, provider_of}
use Rattle.def_machine.specs.State.{Vat}
use Rattle.def_run.specs.World.{Script, World, run}
use Rattle.def_run.specs.Shown.{shown_name}
use Rattle.law_fate.specs.Fates.FateRuns.{Reached}
use Rattle.law_fate.specs.Fates.Lasting.{Each}
use Rattle.law_fate.specs.Name.Names.{IsAmong, names_in}
use Rattle.law_fate.specs.Name.Runs.{KnowsOnce}
use Rattle.law_reference.specs.Reference.ApartAsking.{InRunsBehindCuts}
use Rattle.law_reference.specs.Reference.Cuts.{NoticesFollowCuts}
use Rattle.law_reference.specs.Reference.GiftPassing.{IsProvidedBy, IsProvided, LinkProvides}

-- there is one provider for each word, of whom all notes, all gifts at their hosts and all gifts that vats know tell
abbrev pub KnowsProviders : World → Type 0
KnowsProviders w = (P : ℕ → ℕ) × Each (LinkProvides P w.drawn) w.links
    × ((v : ℕ) (s : Vat Name) → slice_get w.vats v ≡ Some s → Each (IsProvided P w.drawn) s.gifts)
    × ((v h i : ℕ) (s : Vat Name) → slice_get w.vats v ≡ Some s → IsAmong (Gift h i) (names_in s.known) → IsProvidedBy P w.drawn i (provider_of i))

abbrev pub EachKnownGiftTellsItsProvider : Type 0
EachKnownGiftTellsItsProvider = InRunsBehindCuts KnowsProviders

-- names that any of these vats know, and that are shown alike where those words were drawn, are one name
abbrev pub AreApart : List (Vat Name) → List ℕ → Type 0
AreApart vs draws = (u v : ℕ) (s t : Vat Name) → slice_get vs u ≡ Some s → slice_get vs v ≡ Some t
    → (m n : Name) → IsAmong m (names_in s.known) → IsAmong n (names_in t.known) → shown_name draws m ≡ shown_name draws n → m ≡ n

abbrev pub ShownApart : World → Type 0
ShownApart w = AreApart w.vats w.drawn

-- In every world of every run, and at its end or where it stopped.
abbrev pub KnownNamesAreShownApart : Type 0
KnownNamesAreShownApart = InRunsBehindCuts ShownApart × ((script : Script) → KnowsOnce script → NoticesFollowCuts script.schedule → Reached ShownApart (run script))
