-- Lists and pairs of lists that stand at one depth, which are looked at layer by layer.
use Rattle.std.specs.Prelude.{◌≡◌, ℕ, Bool, true, false, if◌then◌else◌, ◌&&◌, ◌||◌, List, [], ◌∷◌, Some, None}
use Rattle.std.specs.declared.option.Option.{Option}
use Rattle.ev_base.specs.declared.values.Value.{Value}
use Rattle.ev_base.specs.declared.values.Value.TheVariants as held
use Rattle.ev_pass.specs.declared.interior.Interior.{Interior}
use Rattle.ev_prims.specs.Answers.{members_at}
use Rattle.ev_steps.specs.Same.{all_same, any_of, is_open, is_same}
use Rattle.ev_steps.specs.declared.same.Pair.{Pair}

-- ---- unsettled parts

-- whether one of these lists has an unsettled part, in lists of which at most so many stand one inside another
unfoldable pub any_open : Interior → ℕ → List ℕ → Bool
any_open i d [] = false
any_open i d (k ∷ ks) = is_open i d (held.List k) || any_open i d ks

-- whether a member of one of these lists has one
abbrev pub any_within : Interior → ℕ → List ℕ → Bool
any_within i d [] = false
any_within i d (k ∷ ks) = if any_of (λ v. is_open i d v) (members_at i.heap k) then true else any_within i d ks

-- What a look at something, of which parts may be open, found and added to the lists for the next layer, however deep that lies.
abbrev pub Looks : Interior → (ℕ → Bool) → List ℕ → Bool → List ℕ → Type 0
Looks i parts before found after = (d : ℕ) → (parts d || any_open i d before) ≡ (found || any_open i d after)

-- ---- the same parts

-- the pair of lists that two values are
abbrev pub pair_of : Value → Value → Option Pair
pair_of (held.List a) (held.List b) = Some (record { one = a; other = b })
pair_of _ _ = None

abbrev pub is_alike : Interior → ℕ → Pair → Bool
is_alike i d p = is_same i d (held.List p.one) (held.List p.other)

-- whether the lists of each pair are the same
unfoldable pub all_alike : Interior → ℕ → List Pair → Bool
all_alike i d [] = true
all_alike i d (p ∷ ps) = is_alike i d p && all_alike i d ps

-- whether the members of the lists of each pair are the same
abbrev pub all_within : Interior → ℕ → List Pair → Bool
all_within i d [] = true
all_within i d (p ∷ ps) = if all_same (λ v w. is_same i d v w) (members_at i.heap p.one) (members_at i.heap p.other) then all_within i d ps else false

-- What a comparison, of which all parts are to be the same, found and added to the pairs for the next layer, however deep that lies.
abbrev pub Compares : Interior → (ℕ → Bool) → List Pair → Bool → List Pair → Type 0
Compares i parts before same after = (d : ℕ) → (parts d && all_alike i d before) ≡ (same && all_alike i d after)
