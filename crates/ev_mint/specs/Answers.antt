-- What is answered to an order, by what was made so far, and what is there then. The first refusal of an order is that a number
-- names nothing that was made.
use Rattle.std.specs.Prelude.{◌≡◌, ℕ, ℤ, ◌+◌, ◌==◌, nat_lt, ◌&&◌, if◌then◌else◌, List, ◌++◌, length, codes, decimal, Some, None}
use Rattle.std.specs.Fmt.{signed_decimal}
use Rattle.std.specs.declared.option.Option.{Option}
use Rattle.ev_base.specs.declared.values.Value.{Value}
use Rattle.ev_base.specs.declared.values.Value.TheVariants.{Int}
use Rattle.ev_mint.specs.Money.{Money, no_money, balance_of, deposited, issued, minted, mint_of, most, sprouted, total_of}
use Rattle.ev_mint.specs.Seals.{Made, none_made, branded, sealed, unsealed}
use Rattle.ev_mint.specs.declared.answers.Answer.{Answer}
use Rattle.ev_mint.specs.declared.answers.Answer.TheVariants as answer
use Rattle.ev_mint.specs.declared.orders.Order.{Order}
use Rattle.ev_mint.specs.declared.orders.Order.TheVariants.{Brand, Seal, Unseal, Mint, Issue, Sprout, Deposit, Balance}

-- ---- how an answer is written

abbrev pub answer_text : Answer → List ℕ
answer_text (answer.Brand number) = codes "brand " ++ decimal number
answer_text (answer.Sealed number) = codes "box " ++ decimal number
answer_text (answer.Content content) = signed_decimal content
answer_text answer.OtherBrand = codes "refused brand"
answer_text (answer.Mint number) = codes "mint " ++ decimal number
answer_text (answer.Purse number) = codes "purse " ++ decimal number
answer_text (answer.TooMuch total) = codes "refused much " ++ decimal total
answer_text answer.OtherMint = codes "refused mint"
answer_text (answer.Short had) = codes "refused short " ++ decimal had
answer_text answer.Done = codes "done"
answer_text (answer.Balance balance) = decimal balance
answer_text answer.Unknown = codes "refused unknown"

-- ---- brands and boxes

abbrev pub branding : Made → Answer × Made
branding made = (answer.Brand made.brands, branded made)

abbrev pub sealing : ℕ → ℤ → Made → Answer × Made
sealing brand content made =
    if nat_lt brand made.brands then (answer.Sealed (length made.boxes), sealed brand (Int content) made) else (answer.Unknown, made)

-- what a box holds; nothing but integers is sealed
abbrev pub content_of : Option Value → Answer
content_of None = answer.OtherBrand
content_of (Some (Int content)) = answer.Content content
content_of (Some _) = answer.OtherBrand

abbrev pub unsealing : ℕ → ℕ → Made → Answer
unsealing brand box made =
    if nat_lt brand made.brands && nat_lt box (length made.boxes) then content_of (unsealed brand box made) else answer.Unknown

-- ---- money

abbrev pub minting : Money → Answer × Money
minting money = (answer.Mint (length money.totals), minted money)

abbrev pub issuing : ℕ → ℕ → Money → Answer × Money
issuing mint amount money =
    if nat_lt mint (length money.totals)
    then
    (if nat_lt most (total_of mint money.totals + amount) then (answer.TooMuch (total_of mint money.totals), money)
    else (answer.Purse (length money.purses), issued mint amount money))
    else (answer.Unknown, money)

abbrev pub sprouting : ℕ → Money → Answer × Money
sprouting purse money =
    if nat_lt purse (length money.purses) then (answer.Purse (length money.purses), sprouted purse money) else (answer.Unknown, money)

abbrev pub depositing : ℕ → ℕ → ℕ → Money → Answer × Money
depositing into from amount money =
    if nat_lt into (length money.purses) && nat_lt from (length money.purses)
    then
    (if mint_of into money.purses == mint_of from money.purses
    then
    (if nat_lt (balance_of from money.purses) amount then (answer.Short (balance_of from money.purses), money)
    else (answer.Done, deposited into from amount money))
    else (answer.OtherMint, money))
    else (answer.Unknown, money)

abbrev pub balance : ℕ → Money → Answer
balance purse money = if nat_lt purse (length money.purses) then answer.Balance (balance_of purse money.purses) else answer.Unknown

-- ---- an order

-- all that was made
pub record Books : Type 0 where
  pub made : Made
  pub money : Money

abbrev pub empty_books : Books
empty_books = record { made = none_made; money = no_money }

abbrev pub with_made : Books → Answer × Made → Answer × Books
with_made books done = (done.0, record { made = done.1; money = books.money })

abbrev pub with_money : Books → Answer × Money → Answer × Books
with_money books done = (done.0, record { made = books.made; money = done.1 })

abbrev pub outcome : Order → Books → Answer × Books
outcome Brand books = with_made books (branding books.made)
outcome (Seal brand content) books = with_made books (sealing brand content books.made)
outcome (Unseal brand box) books = (unsealing brand box books.made, books)
outcome Mint books = with_money books (minting books.money)
outcome (Issue mint amount) books = with_money books (issuing mint amount books.money)
outcome (Sprout purse) books = with_money books (sprouting purse books.money)
outcome (Deposit into from amount) books = with_money books (depositing into from amount books.money)
outcome (Balance purse) books = (balance purse books.money, books)

-- what was said, and what is there then
abbrev pub Does : {S : Type 0} → Answer × S → Answer → S → Type 0
Does due said new = (said ≡ due.0) × (new ≡ due.1)
