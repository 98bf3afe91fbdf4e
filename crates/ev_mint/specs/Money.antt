-- Mints, their purses, and the money in them.
use Rattle.std.specs.Prelude.{◌≡◌, ◌≢◌, ◌<◌, ◌≤◌, ℕ, ◌+◌, ◌-◌, ◌==◌, if◌then◌else◌, List, [], ◌∷◌, ◌++◌, slice_index, slice_index_or, slice_set}
use Rattle.ev_mint.specs.declared.mints.Purse.{Purse}
use Rattle.ev_mint.specs.declared.mints.MintFault.{MintFault}
use Rattle.ev_mint.specs.declared.mints.MintFault.TheVariants.{TooMuch, OtherMint, Short, Memory}

pub record Money : Type 0 where
  -- how much each mint issued, in the order of making
  pub totals : List ℕ
  pub purses : List Purse

-- the most money that a mint issues
abbrev pub most : ℕ
most = 1000000000000000000

abbrev pub no_money : Money
no_money = record { totals = []; purses = [] }

-- how much a mint issued, which is nothing where there is no such mint
abbrev pub total_of : ℕ → List ℕ → ℕ
total_of mint totals = slice_index totals mint

abbrev pub with_total : ℕ → ℕ → List ℕ → List ℕ
with_total mint total totals = slice_set totals mint total

-- the purse at a place, which is an empty one where there is none
abbrev pub no_purse : Purse
no_purse = record { mint = 0; balance = 0 }

abbrev pub purse_at : ℕ → List Purse → Purse
purse_at place purses = slice_index_or purses place no_purse

abbrev pub mint_of : ℕ → List Purse → ℕ
mint_of place purses = (purse_at place purses).mint

abbrev pub balance_of : ℕ → List Purse → ℕ
balance_of place purses = (purse_at place purses).balance

abbrev pub with_balance : ℕ → ℕ → List Purse → List Purse
with_balance place balance purses = slice_set purses place (record { mint = mint_of place purses; balance = balance })

-- what the purses of a mint hold together
abbrev pub held_for : ℕ → Purse → ℕ
held_for mint purse = if purse.mint == mint then purse.balance else 0

abbrev pub balances : ℕ → List Purse → ℕ
balances mint [] = 0
balances mint (purse ∷ purses) = held_for mint purse + balances mint purses

-- The balances of each mint's purses add up to what it issued, which is not too much.
abbrev pub IsSound : List ℕ → List Purse → Type 0
IsSound totals purses = (mint : ℕ) → (balances mint purses ≡ total_of mint totals) × (total_of mint totals ≤ most)

-- ---- what is done

abbrev pub minted : Money → Money
minted money = record money { totals = money.totals ++ 0 ∷ [] }

abbrev pub issued : ℕ → ℕ → Money → Money
issued mint amount money = record {
  totals = with_total mint (total_of mint money.totals + amount) money.totals;
  purses = money.purses ++ record { mint = mint; balance = amount } ∷ [];
}

abbrev pub IsIssueFault : ℕ → ℕ → MintFault → Type 0
IsIssueFault total amount (TooMuch issued) = (issued ≡ total) × (most < total + amount)
IsIssueFault total amount Memory = total + amount ≤ most
IsIssueFault total amount OtherMint = ⊥
IsIssueFault total amount (Short had) = ⊥

abbrev pub sprouted : ℕ → Money → Money
sprouted place money = record money { purses = money.purses ++ record { mint = mint_of place money.purses; balance = 0 } ∷ [] }

abbrev pub taken_out : ℕ → ℕ → List Purse → List Purse
taken_out place amount purses = with_balance place (balance_of place purses - amount) purses

abbrev pub put_in : ℕ → ℕ → List Purse → List Purse
put_in place amount purses = with_balance place (balance_of place purses + amount) purses

abbrev pub deposited : ℕ → ℕ → ℕ → Money → Money
deposited into from amount money = record money { purses = put_in into amount (taken_out from amount money.purses) }

abbrev pub MayDeposit : ℕ → ℕ → ℕ → List Purse → Type 0
MayDeposit into from amount purses = (mint_of into purses ≡ mint_of from purses) × (amount ≤ balance_of from purses)

abbrev pub IsDepositFault : ℕ → ℕ → ℕ → List Purse → MintFault → Type 0
IsDepositFault into from amount purses OtherMint = mint_of into purses ≢ mint_of from purses
IsDepositFault into from amount purses (Short had) = (mint_of into purses ≡ mint_of from purses) × (had ≡ balance_of from purses) × (had < amount)
IsDepositFault into from amount purses Memory = ⊥
IsDepositFault into from amount purses (TooMuch issued) = ⊥
