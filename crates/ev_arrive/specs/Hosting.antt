-- The gifts that a vat hosts, in the code's terms.
use Rattle.std.specs.Prelude.{ℕ, Bool, false, Option, Some, None, Ok}
use Rattle.ev_intro.specs.Gift.{Gifts, find, accepted, provided}
use Rattle.ev_settle.specs.Changes.{come}
use Rattle.ev_arrive.specs.Acts.{Act, ◌>>=◌, ◌>>◌, give, within}

-- a gift that is not there is kept under a name
unfoldable pub keep_gift : ℕ → ℕ → ℕ → Act (Unit {0})
keep_gift p i n = λ h. (Ok tt, record h { gifts = accepted p i n h.gifts })

-- a new name of this vat is that of a gift
unfoldable pub new_gift : ℕ → ℕ → Act ℕ
new_gift p i = λ h. (do
  n ← within (come h.inside.refs.me)
  keep_gift p i n
  give n) h

unfoldable pub have_by : ℕ → ℕ → Option (ℕ × Bool) → Act ℕ
have_by p i (Some g) = give g.0
have_by p i None = new_gift p i

-- the name of a gift, which comes to be where it is absent
unfoldable pub have_gift : ℕ → ℕ → Act ℕ
have_gift p i = λ h. have_by p i (find p i h.gifts) h

unfoldable pub open_by : ℕ → ℕ → Option (ℕ × Bool) → Gifts → Gifts
open_by p i (Some g) gs = provided p i g.0 gs
open_by p i None gs = gs

-- a gift that is there was opened
unfoldable pub open_gift : ℕ → ℕ → Act (Unit {0})
open_gift p i = λ h. (Ok tt, record h { gifts = open_by p i (find p i h.gifts) h.gifts })

abbrev pub opened_in : Option (ℕ × Bool) → Bool
opened_in (Some g) = g.1
opened_in None = false

unfoldable pub is_opened : ℕ → ℕ → Gifts → Bool
is_opened p i gs = opened_in (find p i gs)
