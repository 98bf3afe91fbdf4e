use Rattle.std.proofs.Common.{arith}
use Rattle.ev_lexer.proofs.Fronts.{word_boundary, word_is}
use Rattle.ev_lexer.proofs.spellings.word.Goals as goal

pub overflow_add-length : goal.overflow_add-length
overflow_add-length c =
    omega (arith, (word_boundary c.args.first c.len_utf8-width.result c.continuing_length.result c.args.text.now c.args.behind.now c.len_utf8-width.ensures.value c.requires c.continuing_length.ensures.boundary).0)

pub range-requires-clause-end_boundary : goal.range-requires-clause-end_boundary
range-requires-clause-end_boundary c =
    word_boundary c.args.first c.len_utf8-width.result c.continuing_length.result c.args.text.now c.args.behind.now c.len_utf8-width.ensures.value c.requires c.continuing_length.ensures.boundary

pub returns : goal.returns
returns c =
    word_is _ c.args.first c.len_utf8-width.result c.continuing_length.result c.args.text.now c.args.behind.now _ c.len_utf8-width.ensures.value c.requires c.continuing_length.ensures.value
    c.range.ensures.value c.range.ensures.len c.word_kind.ensures
