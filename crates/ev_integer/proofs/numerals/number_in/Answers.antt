use Rattle.std.proofs.Common.{◌+◌, arith, sym}
use Rattle.ev_integer.proofs.DigitLemmas.{digit_in_row, value_more, number_of-large}
use Rattle.ev_integer.proofs.numerals.number_in.Goals as goal

pub overflow_sub-byte : goal.overflow_sub-byte
overflow_sub-byte c = omega (arith, digit_in_row c.args.row.now c.loop-byte.byte-index c.requires.digits c.loop-byte-test.true)

pub returns-then-value-digit : goal.returns-then-value-digit
returns-then-value-digit c =
    let digit = digit_in_row c.args.row.now c.loop-byte.byte-index c.requires.digits c.loop-byte-test.true in
    let more = value_more c.args.row.now c.loop-byte.byte-index c.requires.digits c.loop-byte-test.true in
    sym (number_of-large c.args.row.now (c.loop-byte.byte-index + 1) (omega arith))

pub loop-byte-preserved : goal.loop-byte-preserved
loop-byte-preserved c =
    let digit = digit_in_row c.args.row.now c.loop-byte.byte-index c.requires.digits c.loop-byte-test.true in
    let more = value_more c.args.row.now c.loop-byte.byte-index c.requires.digits c.loop-byte-test.true in
    (omega arith, omega arith)
