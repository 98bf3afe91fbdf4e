use Rattle.std.proofs.lemmas.Result.{on_ok_weaker}
use Rattle.ev_claims.proofs.Sets.{made_part}
use Rattle.ev_claims.proofs.names.GiftNames.make_one.Goals as goal

pub returns : goal.returns
returns c = on_ok_weaker c.add.result (λ e. made_part c.args.self.now c.self.inside.made c.self.inside.claims c.add.new.self c.args.gift.now c.self.view_is e) c.add.ensures.ok
