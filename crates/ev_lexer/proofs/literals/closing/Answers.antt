use Rattle.std.proofs.Common.{sym, arith}
use Rattle.ev_lexer.proofs.Scanning.{quote_closes, quote_is_hidden, quote_comes_later, no_quote}
use Rattle.ev_lexer.proofs.literals.closing.Goals as goal

pub returns-then-byte-mark-clause-value : goal.returns-then-byte-mark-clause-value
returns-then-byte-mark-clause-value c =
    sym (quote_closes _ _ c.args.bytes.now c.loop-place.place _ (omega arith) c.if-byte-mark.true c.loop-place.invariant.found)

pub loop-place-preserved-then-byte-eq92 : goal.loop-place-preserved-then-byte-eq92
loop-place-preserved-then-byte-eq92 c = record {
  near = omega arith;
  found = quote_is_hidden _ _ c.args.bytes.now c.loop-place.place _ (omega arith) c.if-byte-mark.false c.if-byte-eq92.true c.loop-place.invariant.found;
}

pub loop-place-preserved : goal.loop-place-preserved
loop-place-preserved c = record {
  near = omega arith;
  found = quote_comes_later _ _ c.args.bytes.now c.loop-place.place _ (omega arith) c.if-byte-mark.false c.if-byte-eq92.false c.loop-place.invariant.found;
}

pub returns-clause-value : goal.returns-clause-value
returns-clause-value c = sym (no_quote _ c.args.bytes.now c.loop-place.place _ (omega arith) c.loop-place.invariant.found)
