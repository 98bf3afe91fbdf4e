use Rattle.std.proofs.Common.{sym, ◌∙◌}
use Rattle.std.proofs.lemmas.Result.{on_ok_weaker}
use Rattle.ev_claims.proofs.Sets.{claimed_not, claimed_part}
use Rattle.ev_claims.proofs.names.GiftNames.claim_one.Goals as goal

pub returns-then-is_named : goal.returns-then-is_named
returns-then-is_named c = claimed_not c.args.self.now c.args.gift.now (sym c.is_named.ensures ∙ c.if-is_named.true)

pub returns : goal.returns
returns c =
    on_ok_weaker c.add.result (λ e. claimed_part c.args.self.now c.self.inside.made c.self.inside.claims c.add.new.self c.args.gift.now c.self.view_is (sym c.is_named.ensures ∙ c.if-is_named.false) e) c.add.ensures.ok
