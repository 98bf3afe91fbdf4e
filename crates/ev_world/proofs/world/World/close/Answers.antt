use Rattle.std.proofs.lemmas.Result.{IfOk-weaker}
use Rattle.ev_world.proofs.Closes.{closes}
use Rattle.ev_world.proofs.world.World.close.Goals as goal

pub returns : goal.returns
returns c = λ S w at. IfOk-weaker c.account_to_end.result _ _ (λ last told. closes S w c.args.self at last told) c.account_to_end.ensures
