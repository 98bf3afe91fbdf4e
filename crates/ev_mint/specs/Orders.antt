-- The lines that `mint` reads.
use Rattle.std.specs.Prelude.{ℕ, if◌then◌else◌, List, codes, Some, None, option_map, Result, Ok, Err}
use Rattle.std.specs.declared.option.Option.{Option}
use Rattle.std.specs.Str.{bytes_eq}
use Rattle.ev_text.specs.Lines.{text_of, lines, split, number, integer}
use Rattle.ev_script.specs.Json.{each, ◌>>=◌}
use Rattle.ev_mint.specs.Money.{most}
use Rattle.ev_mint.specs.declared.orders.Order.{Order}
use Rattle.ev_mint.specs.declared.orders.Order.TheVariants.{Brand, Seal, Unseal, Mint, Issue, Sprout, Deposit, Balance}

-- the greatest number of what was made
abbrev pub most_number : ℕ
most_number = 4294967295

-- `brand` or `mint`
abbrev pub alone : List ℕ → Option Order
alone word = if bytes_eq word (codes "brand") then Some Brand else if bytes_eq word (codes "mint") then Some Mint else None

-- a brand, and what is sealed
abbrev pub seal_of : List ℕ → Option Order
seal_of rest = do
  words ← split rest
  brand ← number most_number words.0
  content ← integer words.1
  Some (Seal brand content)

-- a brand and a box
abbrev pub unseal_of : List ℕ → Option Order
unseal_of rest = do
  words ← split rest
  brand ← number most_number words.0
  box ← number most_number words.1
  Some (Unseal brand box)

-- a mint and an amount
abbrev pub issue_of : List ℕ → Option Order
issue_of rest = do
  words ← split rest
  mint ← number most_number words.0
  amount ← number most words.1
  Some (Issue mint amount)

-- the purse into which, the purse from which, and the amount
abbrev pub deposit_of : List ℕ → Option Order
deposit_of rest = do
  words ← split rest
  more ← split words.1
  into ← number most_number words.0
  from ← number most_number more.0
  amount ← number most more.1
  Some (Deposit into from amount)

abbrev pub told : List ℕ → List ℕ → Option Order
told word rest =
    if bytes_eq word (codes "seal") then seal_of rest
    else if bytes_eq word (codes "unseal") then unseal_of rest
    else if bytes_eq word (codes "issue") then issue_of rest
    else if bytes_eq word (codes "sprout") then option_map Sprout (number most_number rest)
    else if bytes_eq word (codes "deposit") then deposit_of rest
    else if bytes_eq word (codes "balance") then option_map Balance (number most_number rest)
    else None

-- what a line says, by the text before its first space and the text behind it
abbrev pub order_by : List ℕ → Option (List ℕ × List ℕ) → Option Order
order_by text None = alone text
order_by text (Some words) = told words.0 words.1

abbrev pub order_of : List ℕ → Option Order
order_of text = order_by text (split text)

-- each line ends with a line feed and is an order
abbrev pub orders : List ℕ → Option (List Order)
orders text = do
  found ← lines text
  each order_of found

-- the orders that bytes are, or the first rule that they break: 31 where they are not UTF-8, and 32 where a line is no
-- order or the last one does not end
abbrev pub orders_by : Option (List Order) → Result (List Order) ℕ
orders_by None = Err 32
orders_by (Some found) = Ok found

abbrev pub read_by : Option (List ℕ) → Result (List Order) ℕ
read_by None = Err 31
read_by (Some text) = orders_by (orders text)

abbrev pub read : List ℕ → Result (List Order) ℕ
read bytes = read_by (text_of bytes)
