-- What holds of the names of gifts, and of those of a run in which vats are hostile.
use Rattle.std.specs.Prelude.{◌≡◌, ℕ, ◌<◌, true, List, []}
use Rattle.def_machine.specs.Values.{key}
use Rattle.def_run.specs.Marks.{placed}
use Rattle.def_run.specs.Shown.{place_of}
use Rattle.def_run.specs.Text.{shown_events}
use Rattle.def_run.specs.World.{Event}
use Rattle.def_hostile.specs.Claims.{Claim}
use Rattle.def_hostile.specs.ShownMarks.{shown_gift}
use Rattle.ev_claims.specs.Gifts.{Named, claiming, has_name, making, name_by}
use Rattle.ev_claims.specs.Telling.{printed_events, told_key}
use Rattle.ev_claims.specs.declared.gift.GiftId.{GiftId}

-- the words have these places among the draws
abbrev pub Places : (ℕ → ℕ) → List ℕ → Type 0
Places place draws = (w : ℕ) → place w ≡ place_of draws w

-- A gift prints so: as itself, and as the entry of a vat that learnt it by a position.
pub record PrintsSo (place : ℕ → ℕ) (draws : List ℕ) (cs : List Claim) (g : GiftId) : Type 0 where
  pub plain : name_by place cs g ≡ shown_gift draws g.host (told_key cs g.host (key g.provider g.word))
  pub entry : name_by place cs g ≡ shown_gift draws g.host (told_key cs g.host (placed (key g.provider g.word)))

abbrev pub NamesAreShown : Type 0
NamesAreShown = (place : ℕ → ℕ) (draws : List ℕ) (cs : List Claim) (g : GiftId) → Places place draws → PrintsSo place draws cs g

-- A gift keeps its name.
pub record KeepsItsName (place : ℕ → ℕ) (n later : Named) (g : GiftId) : Type 0 where
  pub named : has_name later g ≡ true
  pub same : name_by place later.claims g ≡ name_by place n.claims g

-- One that has a name does, whatever draws make and frames name later. Its provider is a vat of a script.
abbrev pub NamedGiftsKeepTheirNames : Type 0
NamedGiftsKeepTheirNames = (place : ℕ → ℕ) (n : Named) (g : GiftId) → g.provider < 16 → has_name n g ≡ true → (gs : List GiftId) → KeepsItsName place n (claiming gs n) g × KeepsItsName place n (making gs n) g

-- Where nothing is claimed the lines are those of a run without hostile vats, whatever keys its gifts have.
abbrev pub UnclaimedLinesStay : Type 0
UnclaimedLinesStay = (draws : List ℕ) (es : List Event) → printed_events (record { draws = draws; claims = [] }) es ≡ shown_events draws es
