use Rattle.std.proofs.Common.{◌≤◌, length, slice_get}
use Rattle.std.proofs.lemmas.Option.{slice_get_past}
use Rattle.ev_see_rows.proofs.BlankLemmas.{no_fate}
use Rattle.ev_see_rows.proofs.rows.add_fate.Goals as goal

pub returns-in-None : goal.returns-in-None
returns-in-None c =
    let past : length c.args.lines.now ≤ c.args.number = c.in-None.ensures.lookup.3 in
    no_fate c.args.found.now (slice_get c.args.lines.now c.args.number) (slice_get_past c.args.lines.now c.args.number past)
