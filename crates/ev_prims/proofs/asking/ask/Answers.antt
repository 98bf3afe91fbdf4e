use Rattle.std.proofs.Common.{sym}
use Rattle.ev_prims.proofs.AskLemmas.{asked_same}
use Rattle.ev_prims.proofs.FormLemmas.{one_of_args, two_of_args, three_of_args}
use Rattle.ev_prims.proofs.asking.ask.Goals as goal

pub returns-in-One-clause-means : goal.returns-in-One-clause-means
returns-in-One-clause-means c = λ h.
    asked_same h c.ask_one.result c.args.args.now _ _ _ c.args.verb.now (one_of_args _ _ (sym c.in-One.ensures)) c.primitive_of-primitive.ensures.means (c.ask_one.ensures.means h)

pub returns-in-Two-clause-means : goal.returns-in-Two-clause-means
returns-in-Two-clause-means c = λ h.
    asked_same h c.ask_two.result c.args.args.now _ _ _ c.args.verb.now (two_of_args _ _ _ (sym c.in-Two.ensures)) c.primitive_of-primitive.ensures.means (c.ask_two.ensures.means h)

pub returns-in-Three-clause-means : goal.returns-in-Three-clause-means
returns-in-Three-clause-means c = λ h.
    asked_same h c.ask_three.result c.args.args.now _ _ _ c.args.verb.now (three_of_args _ _ _ _ (sym c.in-Three.ensures)) c.primitive_of-primitive.ensures.means (c.ask_three.ensures.means h)
