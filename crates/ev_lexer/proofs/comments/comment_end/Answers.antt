use Rattle.std.proofs.Common.{sym, ◌∙◌, arith}
use Rattle.ev_lexer.proofs.Scanning.{comment_ends, comment_goes_on, no_comment_end}
use Rattle.ev_lexer.proofs.comments.comment_end.Goals as goal

pub returns-then-ends_comment-clause-value : goal.returns-then-ends_comment-clause-value
returns-then-ends_comment-clause-value c =
    sym (comment_ends _ _ c.args.bytes.now c.loop-place.place _ (omega arith) (sym c.ends_comment.ensures ∙ c.if-ends_comment.true) c.loop-place.invariant.found)

pub loop-place-preserved : goal.loop-place-preserved
loop-place-preserved c = record {
  near = omega arith;
  found = comment_goes_on _ _ c.args.bytes.now c.loop-place.place _ (omega arith) (sym c.ends_comment.ensures ∙ c.if-ends_comment.false) c.loop-place.invariant.found;
}

pub returns-clause-value : goal.returns-clause-value
returns-clause-value c = sym (no_comment_end c.args.bytes.now c.loop-place.place _ (omega arith) c.loop-place.invariant.found)
