use Rattle.std.proofs.Common.{sym, ap, ◌∙◌, ◌+◌, arith}
use Rattle.ev_lexer.proofs.Scanning.{byte_is_plain, escape_is_bad, escape_is_good, no_bad_escape, rest_of}
use Rattle.ev_lexer.specs.Pieces.{escape_length}
use Rattle.ev_lexer.proofs.literals.bad_escape.Goals as goal

pub loop-place-preserved-in-Some : goal.loop-place-preserved-in-Some
loop-place-preserved-in-Some c = record {
  near = omega (arith, c.in-Some.ensures.short);
  found = escape_is_good _ c.in-Some.length c.args.bytes.now c.loop-place.place _ (omega arith) c.if-bytes-place-eq92.true (ap escape_length (sym (rest_of c.args.bytes.now (c.loop-place.place + 1))) ∙ sym c.in-Some.ensures.value) c.loop-place.invariant.found;
}

pub returns-in-None-clause-value : goal.returns-in-None-clause-value
returns-in-None-clause-value c =
    sym (escape_is_bad _ c.args.bytes.now c.loop-place.place _ (omega arith) c.if-bytes-place-eq92.true (ap escape_length (sym (rest_of c.args.bytes.now (c.loop-place.place + 1))) ∙ sym c.in-None.ensures.value) c.loop-place.invariant.found)

pub loop-place-preserved : goal.loop-place-preserved
loop-place-preserved c = record {
  near = omega arith;
  found = byte_is_plain _ c.args.bytes.now c.loop-place.place _ (omega arith) c.if-bytes-place-eq92.false c.loop-place.invariant.found;
}

pub returns-clause-value : goal.returns-clause-value
returns-clause-value c = sym (no_bad_escape c.args.bytes.now c.loop-place.place _ (omega arith) c.loop-place.invariant.found)
