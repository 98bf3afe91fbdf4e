use Rattle.std.proofs.Common.{List, sym, subst}
use Rattle.def_run.specs.Numbers.{brought}
use Rattle.ev_resident.specs.Names.{Entry}
use Rattle.ev_resident.specs.NamesStanding.{Says}
use Rattle.ev_resident.specs.Brought.{exported_name}
use Rattle.ev_resident.proofs.Brought.{brought_says, exported_shown}
use Rattle.ev_resident.proofs.Exporting.{connection_between, exports_refer}
use Rattle.ev_wire.specs.Putting.{table_for}
use Rattle.ev_resident.proofs.hearing.told_of.Goals as goal

pub returns : goal.returns
returns c = λ ms v m p h n last here is stands objects at brings carries asking.
    let e = c.args.exporter.now in
    let u = c.args.me in
    let d = c.args.words.now in
    subst (λ (es : List Entry). Says d es (brought ms v u n h m)) (sym c.in_ok-told.ensures)
    (brought_says d ms v u c.args.first m h n c.args.news.now c.args.carried c.args.asks (exported_name e u)
    (exported_shown d ms v u p last (table_for u e.member.connections.items) e.names here stands objects (connection_between p e.member is u) (exports_refer p e.member is u))
    at brings carries asking)
