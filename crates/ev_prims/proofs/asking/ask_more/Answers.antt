use Rattle.std.proofs.Common.{ap, sym, ◌∙◌}
use Rattle.def_machine.specs.Native.{asked}
use Rattle.ev_prims.specs.Primitives.{primitive_in}
use Rattle.ev_prims.specs.Reading.{values_in}
use Rattle.ev_prims.proofs.AskLemmas.{more_of_list, more_of_other}
use Rattle.ev_prims.proofs.asking.ask_more.Goals as goal

pub returns-in-MakeList-clause-means : goal.returns-in-MakeList-clause-means
returns-in-MakeList-clause-means c = λ h xs e.
    c.makes_list.ensures.means h xs
    ∙ sym (ap (λ p. asked (primitive_in p) c.args.verb.now (values_in h xs)) c.in-MakeList.is ∙ more_of_list h c.args.verb.now xs e)

pub returns-in_default-clause-means : goal.returns-in_default-clause-means
returns-in_default-clause-means c = λ h xs e. sym (more_of_other h c.args.verb.now c.args.primitive xs c.in_default.not-MakeList e)
