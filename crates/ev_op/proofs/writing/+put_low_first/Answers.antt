use Rattle.std.proofs.Common.{◌-◌, ◌/◌, ◌%◌, ◌<◌, [], ◌∷◌, ◌∙◌, append_assoc, arith}
use Rattle.def_op.specs.Numbers.{low_first}
use Rattle.ev_op.proofs.Spelled.{low_first_more}
use Rattle.ev_op.proofs.writing.+put_low_first.Goals as goal

pub returns : goal.returns
returns t c =
    let some : 0 < c.args.places = omega arith in
    c.in_ok-put_low_first.ensures ∙ rw (c.in_ok-push.ensures.items, low_first_more c.args.places c.args.number some)
    (append_assoc c.args.out.now.items ((c.args.number % 256) ∷ []) (low_first (c.args.places - 1) (c.args.number / 256)))
