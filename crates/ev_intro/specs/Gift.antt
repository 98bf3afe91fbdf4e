-- Gifts of one vat, under provider and swiss number together, in the order of coming.
use Rattle.std.specs.Prelude.{ℕ, zero, suc, Bool, true, false, not, ◌&&◌, ◌==◌, if◌then◌else◌, List, [], ◌∷◌, ◌++◌, Option, Some, None, is_some}

pub record Gift : Type 0 where
  pub provider : ℕ
  pub swiss : ℕ
  pub promise : ℕ
  pub is_opened : Bool

abbrev pub Gifts : Type 0
Gifts = List Gift

-- whether a gift stands under this provider and number
abbrev pub is_under : ℕ → ℕ → Gift → Bool
is_under provider swiss gift = (provider == gift.provider) && (swiss == gift.swiss)

-- the gift's promise, and whether it is opened
abbrev pub find : ℕ → ℕ → Gifts → Option (ℕ × Bool)
find provider swiss [] = None
find provider swiss (g ∷ gs) = if is_under provider swiss g then Some (g.promise, g.is_opened) else find provider swiss gs

-- a gift is put in its place, or last where it was absent
abbrev pub put : Gift → Gifts → Gifts
put gift [] = gift ∷ []
put gift (g ∷ gs) = if is_under gift.provider gift.swiss g then gift ∷ gs else g ∷ put gift gs

-- the promise that was found, or the fresh one
abbrev pub promise_in : Option (ℕ × Bool) → ℕ → ℕ
promise_in None fresh = fresh
promise_in (Some x) fresh = x.0

-- the promise of a gift: its own, or the fresh one where it is absent
abbrev pub promise_of : ℕ → ℕ → ℕ → Gifts → ℕ
promise_of provider swiss fresh gifts = promise_in (find provider swiss gifts) fresh

-- the gift is opened, and keeps its promise and its place
abbrev pub provided : ℕ → ℕ → ℕ → Gifts → Gifts
provided provider swiss fresh gifts =
    put (record { provider = provider; swiss = swiss; promise = promise_of provider swiss fresh gifts; is_opened = true }) gifts

-- the gift is asked for: nothing changes where it is there
abbrev pub accepted : ℕ → ℕ → ℕ → Gifts → Gifts
accepted provider swiss fresh gifts =
    if is_some (find provider swiss gifts) then gifts
    else put (record { provider = provider; swiss = swiss; promise = fresh; is_opened = false }) gifts

-- whether a gift is of this provider and not opened
abbrev pub is_waiting : ℕ → Gift → Bool
is_waiting provider gift = (provider == gift.provider) && not gift.is_opened

-- the promises of the unopened gifts of a provider, in the order of coming
abbrev pub unopened : ℕ → Gifts → List ℕ
unopened provider [] = []
unopened provider (g ∷ gs) = if is_waiting provider g then g.promise ∷ unopened provider gs else unopened provider gs

-- the promise of a gift, where it is of this provider and not opened
abbrev pub waiting : ℕ → Gift → Option ℕ
waiting provider gift = if is_waiting provider gift then Some gift.promise else None

-- the same of the gift at a place
abbrev pub waiting_at : ℕ → Gifts → ℕ → Option ℕ
waiting_at provider [] index = None
waiting_at provider (g ∷ gs) zero = waiting provider g
waiting_at provider (g ∷ gs) (suc index) = waiting_at provider gs index

-- promises, and one more where there is one
abbrev pub and_one : List ℕ → Option ℕ → List ℕ
and_one promises None = promises
and_one promises (Some promise) = promises ++ promise ∷ []

-- what tells a gift of one provider from the others, and its promise
abbrev pub number_and_promise : Gift → ℕ × ℕ
number_and_promise gift = (gift.swiss, gift.promise)
