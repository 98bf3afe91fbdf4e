use Rattle.std.proofs.Common.{sym, arith}
use Rattle.ev_lexer.proofs.Boundaries.{behind_quote, before_closing, between_quotes, closing_at}
use Rattle.ev_lexer.proofs.literals.inside.Goals as goal

pub range-requires-clause-start_boundary : goal.range-requires-clause-start_boundary
range-requires-clause-start_boundary c = λ _. behind_quote c.args.rest.now c.args.behind.now c.utf8.rest c.requires.whole

pub range-requires-clause-end_boundary : goal.range-requires-clause-end_boundary
range-requires-clause-end_boundary c = before_closing c.args.rest.now c.args.behind.now c.args.length c.requires.whole c.requires.closed

pub returns : goal.returns
returns c = between_quotes c.args.rest.now c.args.behind.now _ c.args.length c.requires.whole c.range.ensures.value

pub overflow_add-length : goal.overflow_add-length
overflow_add-length c = omega (arith, (closing_at 39 c.args.behind.now c.args.length (sym c.requires.closed)).within)
