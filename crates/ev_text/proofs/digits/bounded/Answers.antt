use Rattle.std.proofs.Common.{◌<◌, ◌^◌, arith}
use Rattle.ev_text.proofs.Parsed.{no_number}
use Rattle.ev_text.proofs.digits.bounded.Goals as goal

pub returns-in-Err : goal.returns-in-Err
returns-in-Err c =
    let fits : c.args.most < 2 ^ 64 = omega arith in
    no_number c.args.most c.args.text.now c.parse.result c.in-Err.field-0 c.parse.ensures.value.0 c.requires c.in-Err.is fits
