use Rattle.std.proofs.Common.{sym, ◌∙◌}
use Rattle.ev_links.proofs.Planning.{appended_full, appended_more, appended_stood}
use Rattle.ev_links.proofs.chains.append_in.Goals as goal

pub returns-then-is_some : goal.returns-then-is_some
returns-then-is_some c =
    appended_stood c.args.at c.args.name c.args.chain (record { standings = c.args.standings.now; ends = c.args.ends.now }) c.find.result c.find.ensures (sym c.is_some.ensures ∙ c.if-is_some.true)

pub returns-in_default : goal.returns-in_default
returns-in_default c =
    appended_full c.args.at c.args.name c.args.chain (record { standings = c.args.standings.now; ends = c.args.ends.now }) c.find.result c.find-2.result c.next_place.result c.find.ensures
    (sym c.is_some.ensures ∙ c.if-is_some.false) c.find-2.ensures c.next_place.ensures.next c.in_default.is

pub returns : goal.returns
returns c =
    appended_more c.args.at c.args.name c.args.chain (record { standings = c.args.standings.now; ends = c.args.ends.now }) (record { standings = c.put.new.self; ends = c.put-2.new.self }) c.find.result c.find-2.result
    c.next_place.result c.in-Some.place c.find.ensures (sym c.is_some.ensures ∙ c.if-is_some.false) c.find-2.ensures c.next_place.ensures.next c.next_place.ensures.fits c.in-Some.is c.in_ok-put.ensures
    c.in_ok-put-2.ensures
