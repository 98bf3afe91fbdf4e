use Rattle.std.proofs.Common.{sym, ◌∙◌}
use Rattle.ev_lexer.proofs.Fronts.{not_a_word}
use Rattle.ev_lexer.proofs.spellings.word_or_operator.Goals as goal

pub returns-else-begins_identifier : goal.returns-else-begins_identifier
returns-else-begins_identifier c =
    c.operator_at-else-begins_identifier.ensures
    ∙ sym (not_a_word c.in-Some.first c.args.text.now _ c.utf8.text (sym c.chars-characters.ensures.rest ∙ c.in-Some.ensures.steps.0) (sym c.begins_identifier.ensures ∙ c.if-begins_identifier.false))
