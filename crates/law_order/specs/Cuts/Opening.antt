-- The notes that open gifts: of each key at most one is ever put.
use Rattle.std.specs.Prelude.{ℕ, ◌+◌, ◌≤◌, Bool, false, List, [], ◌∷◌, ◌==◌}
use Rattle.def_machine.specs.Values.{Name}
use Rattle.def_machine.specs.State.{Note, Deliver, Open, Ask, SettledTo, Elsewhere, Shorten}
use Rattle.def_run.specs.World.{Script, Link, World}
use Rattle.law_machine.specs.Run.Moves.{IsReached}
use Rattle.law_order.specs.Cuts.Letting.{once}

-- it opens the gift under that key
unfoldable pub opens : {N : Type 0} → ℕ → Note N → Bool
opens i (Deliver m n verb ys) = false
opens i (Open j n) = j == i
opens i (Ask p j n) = false
opens i (SettledTo n y) = false
opens i (Elsewhere n c) = false
opens i (Shorten n c j) = false

-- it asks the provider of the gift under that key to open it
unfoldable pub asks_to_open : {N : Type 0} → ℕ → Note N → Bool
asks_to_open i (Deliver m n verb ys) = false
asks_to_open i (Open j n) = false
asks_to_open i (Ask p j n) = false
asks_to_open i (SettledTo n y) = false
asks_to_open i (Elsewhere n c) = false
asks_to_open i (Shorten n c j) = j == i

-- how many notes of these do so
unfoldable pub opens_in : ℕ → List (Note Name) → ℕ
opens_in i [] = 0
opens_in i (n ∷ ns) = once (opens i n) + opens_in i ns

unfoldable pub asks_in : ℕ → List (Note Name) → ℕ
asks_in i [] = 0
asks_in i (n ∷ ns) = once (asks_to_open i n) + asks_in i ns

-- how many that open it were ever put
unfoldable pub opens_put : ℕ → List Link → ℕ
opens_put i [] = 0
opens_put i (l ∷ ls) = opens_in i l.log + opens_put i ls

-- how many are under way that ask for that
unfoldable pub asks_under_way : ℕ → List Link → ℕ
asks_under_way i [] = 0
asks_under_way i (l ∷ ls) = asks_in i l.notes + asks_under_way i ls

-- ---- laws

-- In every world of a run at most one note was put that opens the gift under a key, and none as long as one is under way that asks its provider to.
abbrev pub EachGiftIsOpenedOnce : Type 0
EachGiftIsOpenedOnce = (script : Script) (w : World) → IsReached script w → (i : ℕ) → opens_put i w.links + asks_under_way i w.links ≤ 1
