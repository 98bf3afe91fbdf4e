use Rattle.std.proofs.Common.{◌≡◌, ◌<◌, ◌≤◌, length, subst, sym, ap, ◌∙◌}
use Rattle.ev_mint.specs.Money.{Money, mint_of, balance_of}
use Rattle.ev_mint.proofs.Sound.{fits_after}
use Rattle.ev_mint.proofs.mints.Mints.deposit.Goals as goal

pub put_in-requires-clause-room : goal.put_in-requires-clause-room
put_in-requires-clause-room c =
    let ps = c.self.inside.purses.items in
    let into = c.args.into in
    let from = c.args.from in
    let amount = c.args.amount in
    let in_lt : into < length ps = subst (λ (k : Money). into < length k.purses) (sym c.self.view_is) c.requires.into in
    let from_lt : from < length ps = subst (λ (k : Money). from < length k.purses) (sym c.self.view_is) c.requires.from in
    let is : mint_of into ps ≡ mint_of from ps = ap (λ p. p.mint) (sym c.purse_in.ensures) ∙ c.if-purse_in.false ∙ ap (λ p. p.mint) c.purse_in-2.ensures in
    let le : amount ≤ balance_of from ps = subst (λ p. amount ≤ p.balance) c.purse_in-had.ensures c.if-had-amount.false in
    fits_after c.self.inside.totals.items ps c.take_out.new.purses.items into from amount c.take_out.ensures in_lt from_lt is le c.self.invariant
