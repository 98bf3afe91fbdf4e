-- The balances of a mint's purses stay what it issued, whatever is ordered.
use Rattle.std.proofs.Common.{◌≡◌, ◌<◌, ◌≤◌, ◌+◌, ◌&&◌, ◌==◌, ℕ, Bool, true, false, cond, nat_lt, List, [], ◌∷◌, length, refl, arith}
use Rattle.std.proofs.lemmas.Bool.{eqb-true}
use Rattle.std.proofs.lemmas.Bool.Decides.{nat_tests}
use Rattle.ev_mint.specs.Money.{IsSound, Money, balance_of, deposited, issued, mint_of, most, sprouted, total_of}
use Rattle.ev_mint.proofs.Sound.{sound_deposited, sound_issued, sound_minted, sound_sprouted}
use Rattle.ev_mint.specs.Answers.{Books, depositing, empty_books, issuing, outcome, sprouting}
use Rattle.ev_mint.specs.Laws.{BalancesAddUp, books_after}
use Rattle.ev_mint.specs.declared.answers.Answer.{Answer}
use Rattle.ev_mint.specs.declared.answers.Answer.TheVariants as answer
use Rattle.ev_mint.specs.declared.orders.Order.{Order}
use Rattle.ev_mint.specs.declared.orders.Order.TheVariants.{Brand, Seal, Unseal, Mint, Issue, Sprout, Deposit, Balance}

abbrev IsSoundMoney : Money → Type 0
IsSoundMoney money = IsSound money.totals money.purses

is_below : (a b : ℕ) → nat_lt a b ≡ true → a < b
is_below a b h = grind (arith, nat_tests)

is_not_below : (a b : ℕ) → nat_lt a b ≡ false → b ≤ a
is_not_below a b h = grind (arith, nat_tests)

both_hold : (a b : Bool) → (a && b) ≡ true → (a ≡ true) × (b ≡ true)
both_hold true b h = (refl, h)
both_hold false b h = absurd cc

either : (b : Bool) (x y : Answer × Money) → (b ≡ true → IsSoundMoney x.1) → (b ≡ false → IsSoundMoney y.1) → IsSoundMoney (cond b x y).1
either true x y h k = h refl
either false x y h k = k refl

issue_sound : (mint amount : ℕ) (money : Money) → IsSoundMoney money → IsSoundMoney (issuing mint amount money).1
issue_sound mint amount money h =
    let total = total_of mint money.totals in
    let much : Answer × Money = (answer.TooMuch total, money) in
    let done : Answer × Money = (answer.Purse (length money.purses), issued mint amount money) in
    either (nat_lt mint (length money.totals)) (cond (nat_lt most (total + amount)) much done) (answer.Unknown, money)
    (λ lt. either (nat_lt most (total + amount)) much done (λ more. h)
    (λ few. sound_issued money.totals money.purses mint amount (is_below mint (length money.totals) lt) (is_not_below most (total + amount) few) h))
    (λ none. h)

sprout_sound : (purse : ℕ) (money : Money) → IsSoundMoney money → IsSoundMoney (sprouting purse money).1
sprout_sound purse money h =
    either (nat_lt purse (length money.purses)) (answer.Purse (length money.purses), sprouted purse money) (answer.Unknown, money)
    (λ lt. sound_sprouted money.totals money.purses (mint_of purse money.purses) h) (λ none. h)

deposit_sound : (into from amount : ℕ) (money : Money) → IsSoundMoney money → IsSoundMoney (depositing into from amount money).1
deposit_sound into from amount money h =
    let purses = money.purses in
    let there = nat_lt into (length purses) && nat_lt from (length purses) in
    let had = balance_of from purses in
    let short : Answer × Money = (answer.Short had, money) in
    let done : Answer × Money = (answer.Done, deposited into from amount money) in
    let other : Answer × Money = (answer.OtherMint, money) in
    let moved : Answer × Money = cond (nat_lt had amount) short done in
    either there (cond (mint_of into purses == mint_of from purses) moved other) (answer.Unknown, money)
    (λ are.
    let p = both_hold (nat_lt into (length purses)) (nat_lt from (length purses)) are in
    either (mint_of into purses == mint_of from purses) moved other
    (λ same. either (nat_lt had amount) short done (λ less. h)
    (λ enough. sound_deposited money.totals purses into from amount (is_below into (length purses) p.0) (is_below from (length purses) p.1)
    (eqb-true (mint_of into purses) (mint_of from purses) same) (is_not_below had amount enough) h))
    (λ differ. h))
    (λ none. h)

still_sound : (order : Order) (books : Books) → IsSoundMoney books.money → IsSoundMoney (outcome order books).1.money
still_sound Brand books h = h
still_sound (Seal brand content) books h = h
still_sound (Unseal brand box) books h = h
still_sound Mint books h = sound_minted books.money.totals books.money.purses h
still_sound (Issue mint amount) books h = issue_sound mint amount books.money h
still_sound (Sprout purse) books h = sprout_sound purse books.money h
still_sound (Deposit into from amount) books h = deposit_sound into from amount books.money h
still_sound (Balance purse) books h = h

sound_behind : (orders : List Order) (books : Books) → IsSoundMoney books.money → IsSoundMoney (books_after books orders).money
sound_behind [] books h = h
sound_behind (order ∷ orders) books h = sound_behind orders (outcome order books).1 (still_sound order books h)

nothing_issued : IsSoundMoney empty_books.money
nothing_issued mint = (refl, omega arith)

pub balances_add_up : BalancesAddUp
balances_add_up orders mint = (sound_behind orders empty_books nothing_issued mint).0
