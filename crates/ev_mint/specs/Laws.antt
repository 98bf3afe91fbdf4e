-- What holds of the money of mints, whatever is ordered.
use Rattle.std.specs.Prelude.{◌≡◌, ℕ, List, [], ◌∷◌}
use Rattle.ev_mint.specs.Money.{balances, total_of}
use Rattle.ev_mint.specs.Answers.{Books, empty_books, outcome}
use Rattle.ev_mint.specs.declared.orders.Order.{Order}

-- what is there once orders were answered
abbrev pub books_after : Books → List Order → Books
books_after books [] = books
books_after books (order ∷ orders) = books_after (outcome order books).1 orders

-- Behind any orders the balances of a mint's purses add up to what the mint issued.
abbrev pub BalancesAddUp : Type 0
BalancesAddUp = (orders : List Order) (mint : ℕ)
    → balances mint (books_after empty_books orders).money.purses ≡ total_of mint (books_after empty_books orders).money.totals
