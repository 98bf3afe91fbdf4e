use Rattle.std.proofs.Common.{sym, ◌∙◌, arith}
use Rattle.ev_known.proofs.Chained.{end_strides}
use Rattle.ev_known.proofs.following.chain_end.Goals as goal

pub returns : goal.returns
returns c settled viewed h =
    end_strides c.args.plan.now c.args.told.now settled viewed c.args.at c.args.name c.in-Some.standing c.in-Some-find.end h (sym c.find.ensures ∙ c.in-Some.is) (sym c.find-2.ensures ∙ c.in-Some-find.is)
    (omega arith)
