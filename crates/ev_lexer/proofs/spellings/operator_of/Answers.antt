use Rattle.std.proofs.Common.{arith, Some, None}
use Rattle.ev_lexer.proofs.Operators.{least, no_operator, operator_is, contradicts}
use Rattle.ev_lexer.proofs.spellings.operator_of.Goals as goal

pub returns-then-not-is_char_boundary : goal.returns-then-not-is_char_boundary
returns-then-not-is_char_boundary c =
    no_operator c.min-length.result c.args.most c.args.text.now c.utf8.text (least _ _ _ (omega arith) (omega arith) (λ lt. omega arith)) (λ cut. contradicts c.is_char_boundary.result (c.is_char_boundary.ensures.test.1 cut) c.if-not-is_char_boundary.true)

pub returns-in-Some : goal.returns-in-Some
returns-in-Some c =
    operator_is (Some c.in-Some.kind) c.min-length.result c.args.most c.args.text.now _ (least _ _ _ (omega arith) (omega arith) (λ lt. omega arith)) c.range.ensures.value c.in-Some.ensures

pub returns-in-None : goal.returns-in-None
returns-in-None c =
    operator_is None c.min-length.result c.args.most c.args.text.now _ (least _ _ _ (omega arith) (omega arith) (λ lt. omega arith)) c.range.ensures.value c.in-None.ensures
