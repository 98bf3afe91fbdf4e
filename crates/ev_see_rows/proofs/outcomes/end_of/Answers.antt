use Rattle.std.proofs.Common.{◌<◌, ◌≤◌, ◌+◌, ◌-◌, ◌∙◌, sym, ap, arith}
use Rattle.def_see.specs.Rows.{awaited, end_from, most_followed}
use Rattle.ev_see_rows.proofs.EndLemmas.{goes_on, stops, all_followed}
use Rattle.ev_see_rows.proofs.outcomes.end_of.Goals as goal

pub returns-in-None : goal.returns-in-None
returns-in-None c =
    let lines = c.args.lines.now in
    let lt : c.loop-followed._followed < 64 = omega arith in
    stops lines c.loop-followed.end (end_from most_followed lines c.args.name.now) c.loop-followed._followed lt (sym (c.in-None.ensures ∙ ap (awaited lines) c.as_str.ensures)) c.loop-followed.invariant

pub loop-followed-preserved : goal.loop-followed-preserved
loop-followed-preserved c =
    let lines = c.args.lines.now in
    let lt : c.loop-followed._followed < 64 = omega arith in
    ap (end_from (64 - (c.loop-followed._followed + 1)) lines) c.in_ok-end-in-Some.ensures
    ∙ goes_on lines c.loop-followed.end c.in-Some.next.now (end_from most_followed lines c.args.name.now) c.loop-followed._followed lt
    (sym (c.in-Some.ensures ∙ ap (awaited lines) c.as_str.ensures)) c.loop-followed.invariant

pub returns : goal.returns
returns c =
    let past : 64 ≤ c.loop-followed._followed = omega arith in
    all_followed c.args.lines.now c.loop-followed.end (end_from most_followed c.args.lines.now c.args.name.now) c.loop-followed._followed past c.loop-followed.invariant
