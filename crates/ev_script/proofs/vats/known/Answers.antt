use Rattle.std.proofs.Common.{◌∙◌, sym, ap}
use Rattle.ev_script.specs.Vats.{are_others}
use Rattle.ev_script.proofs.KnownLemmas.{known_by}
use Rattle.ev_script.proofs.vats.known.Goals as goal

pub returns-then-are_others : goal.returns-then-are_others
returns-then-are_others c =
    sym (known_by c.args.names.now c.args.vat c.args.words.now c.in-Some.places _ (sym c.in_ok-places.ensures ∙ c.in-Some.is)
    (ap (are_others c.args.vat) (sym c.as_slice.ensures) ∙ sym c.are_others.ensures ∙ c.if-are_others.true))

pub returns-else-are_others : goal.returns-else-are_others
returns-else-are_others c =
    sym (known_by c.args.names.now c.args.vat c.args.words.now c.in-Some.places _ (sym c.in_ok-places.ensures ∙ c.in-Some.is)
    (ap (are_others c.args.vat) (sym c.as_slice.ensures) ∙ sym c.are_others.ensures ∙ c.if-are_others.false))
