-- Gifts that have names, and how they print.
use Rattle.std.specs.Prelude.{ℕ, ◌%◌, Bool, if◌then◌else◌, List, [], ◌∷◌, map}
use Rattle.ev_base.specs.declared.names.Name.{Name as ShownName}
use Rattle.ev_base.specs.declared.names.Name.TheVariants as name
use Rattle.def_machine.specs.Values.{key}
use Rattle.def_hostile.specs.Claims.{Claim, is_claimed}
use Rattle.def_hostile.specs.Made.{claim_all, is_named, with_gifts}
use Rattle.ev_claims.specs.declared.gift.GiftId.{GiftId}

-- the gift by its host and its key
abbrev pub claim_of : GiftId → Claim
claim_of g = record { host = g.host; number = key g.provider g.word }

abbrev pub claims_of : List GiftId → List Claim
claims_of gs = map claim_of gs

-- whether it is among these
unfoldable pub has_gift : List Claim → GiftId → Bool
has_gift cs g = is_claimed cs g.host (key g.provider g.word)

-- these, and that one if it is not among them
unfoldable pub with_gift : GiftId → List Claim → List Claim
with_gift g cs = with_gifts (claim_of g ∷ []) cs

-- ---- what has a name

pub record Named : Type 0 where
  -- what draws made
  pub made : List Claim
  -- what frames named before
  pub claims : List Claim

unfoldable pub nothing_named : Named
nothing_named = record { made = []; claims = [] }

unfoldable pub has_name : Named → GiftId → Bool
has_name n g = is_named n.made n.claims (claim_of g)

-- once draws made these
unfoldable pub making : List GiftId → Named → Named
making gs n = record n { made = with_gifts (claims_of gs) n.made }

-- once a frame named these
unfoldable pub claiming : List GiftId → Named → Named
claiming gs n = record n { claims = claim_all n.made (claims_of gs) n.claims }

-- ---- and how it prints, where words have these places among the draws

-- A gift that is claimed prints by its word, each other by the place of its word. A provider is a vat, so below 16; what a key has beyond is a mark, which does not print.
abbrev pub unmarked : GiftId → GiftId
unmarked g = record { host = g.host; provider = g.provider % 16; word = g.word }

unfoldable pub name_by : (ℕ → ℕ) → List Claim → GiftId → ShownName
name_by place cs g = if has_gift cs (unmarked g) then name.Claimed g.host (g.provider % 16) g.word else name.Gift g.host (place g.word)

-- in a line that names nothing, where a gift without a name prints by its word
unfoldable pub name_untold : (ℕ → ℕ) → Named → GiftId → ShownName
name_untold place n g = if has_name n g then name_by place n.claims g else name.Claimed g.host (g.provider % 16) g.word
