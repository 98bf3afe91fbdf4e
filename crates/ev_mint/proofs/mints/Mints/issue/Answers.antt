use Rattle.std.proofs.Common.{◌<◌, ◌≤◌, ◌+◌, length, subst, sym, arith}
use Rattle.ev_mint.specs.Money.{Money, most}
use Rattle.ev_mint.proofs.Sound.{sound_after}
use Rattle.ev_mint.proofs.mints.Mints.issue.Goals as goal

pub invariant_of-self-2 : goal.invariant_of-self-2
invariant_of-self-2 c =
    let totals = c.self.inside.totals.items in
    let mint = c.args.mint in
    let lt : mint < length totals = subst (λ (k : Money). mint < length k.totals) (sym c.self.view_is) c.requires in
    let le : c.total_in-total.result + c.args.amount ≤ most = omega (arith, (c.self.invariant mint).1, c.total_in-total.ensures, c.if-amount-room.false) in
    sound_after totals c.set_total.new.totals.items c.self.inside.purses.items c.add_purse.new.purses.items mint c.args.amount c.total_in-total.result
    c.set_total.ensures c.in_ok-add_purse.ensures.ok c.total_in-total.ensures lt le c.self.invariant
