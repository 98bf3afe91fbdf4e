use Rattle.std.proofs.Common.{sym, ◌∙◌, false, [], arith}
use Rattle.ev_lexer.specs.LineEnds.{kept}
use Rattle.ev_lexer.proofs.Keeping.{ends, goes_on}
use Rattle.ev_lexer.proofs.line_ends.drop_line_ends.Goals as goal

pub loop-token-preserved : goal.loop-token-preserved
loop-token-preserved c =
    let e = rw c.deref.ensures.value at c.is_dropped.ensures in
    goes_on _ c.loop-token.left.items _ (kept [] false c.args.tokens.now) _ _ _ _ c.args.tokens.now c.loop-token.token-index (omega arith)
    c.loop-token.invariant (sym e ∙ c.if-is_dropped.false) c.in_ok-push.ensures.items c.in_ok-pass_bracket.ensures c.joins-joined.ensures

pub returns : goal.returns
returns c =
    ends c.loop-token.left.items (kept [] false c.args.tokens.now) _ _ c.args.tokens.now c.loop-token.token-index (omega arith)
    c.loop-token.invariant
