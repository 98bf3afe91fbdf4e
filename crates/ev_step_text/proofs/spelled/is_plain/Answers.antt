use Rattle.std.proofs.Common.{Bool, List, Option, ap, subst, sym, ◌∙◌}
use Rattle.def_text.specs.Keywords.{is_identifier}
use Rattle.ev_step_text.specs.Spelled.{IsKnown}
use Rattle.ev_step_text.proofs.SpelledLemmas.{kept}
use Rattle.ev_step_text.proofs.spelled.is_plain.Goals as goal

pub returns-in-Some-clause-plain : goal.returns-in-Some-clause-plain
returns-in-Some-clause-plain c = c.requires.known c.args.place c.in-Some.plain c.in-Some.ensures

pub returns-clause-known : goal.returns-clause-known
returns-clause-known c =
    let verbs = c.args.read.now.verbs in
    let is = c.is_identifier-plain.ensures ∙ ap is_identifier (c.as_str.ensures ∙ c.verb.ensures) in
    subst (λ (known : List (Option Bool)). IsKnown verbs known) (sym c.keep.ensures) (kept verbs c.args.known.now c.args.place c.is_identifier-plain.result is c.requires.known)
