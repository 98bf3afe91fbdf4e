use Rattle.std.proofs.Common.{◌+◌, ◌-◌, ◌/◌, ◌%◌, ◌<◌, ◌≤◌, [], ◌∷◌, ◌∙◌, append_assoc, arith}
use Rattle.def_op.specs.Numbers.{digit, digits}
use Rattle.ev_op.proofs.Spelled.{digits_more}
use Rattle.ev_op.proofs.writing.+put_digits.Goals as goal

pub returns : goal.returns
returns t c =
    let some : 0 < c.args.places = omega arith in
    let le : c.args.last ≤ c.args.number = omega arith in
    let tail = digits c.args.last c.args.negative (c.args.places - 1) (c.args.number / 128) in
    c.in_ok-put_digits.ensures ∙ rw (c.in_ok-push-2.ensures.items, c.digit-2.ensures.exact, digits_more c.args.last c.args.negative c.args.places c.args.number some le)
    (append_assoc c.args.out.now.items ((128 + digit c.args.negative (c.args.number % 128)) ∷ []) tail)
