use Rattle.std.proofs.Common.{◌<◌, length, sym, ◌∙◌, arith}
use Rattle.ev_see_rows.proofs.WideLemmas.{none_wide, wide_from_last, wide_next}
use Rattle.ev_see_rows.proofs.table.widths.Goals as goal

pub loop-behind-init : goal.loop-behind-init
loop-behind-init c = sym (wide_from_last c.args.rows.now ∙ none_wide)

pub loop-behind-preserved : goal.loop-behind-preserved
loop-behind-preserved c =
    let lt : c.loop-behind.behind < length c.args.rows.now = omega arith in
    c.wider-found.ensures ∙ wide_next c.index-rows-rows.result c.loop-behind.found c.args.rows.now c.loop-behind.behind lt c.index-rows-rows.is c.loop-behind.invariant
