use Rattle.ev_vat.specs.Starting.{first_tables}
use Rattle.ev_vat.proofs.MemberStarts.{tables_done, tables_on}
use Rattle.ev_vat.proofs.starting.first_connections.Goals as goal

pub loop-peer-preserved : goal.loop-peer-preserved
loop-peer-preserved c =
    tables_on c.args.me c.loop-peer.peer c.args.count c.args.knows.now c.args.known_by.now c.loop-peer.connections.items c.push.new.self.items (first_tables c.args.me 0 c.args.count c.args.knows.now c.args.known_by.now)
    c.in_ok-first_connection.field-0 c.loop-peer-test.true c.in_ok-first_connection.ensures c.in_ok-push.ensures.items c.loop-peer.invariant

pub returns : goal.returns
returns c =
    tables_done c.args.me c.loop-peer.peer c.args.count c.args.knows.now c.args.known_by.now c.loop-peer.connections.items (first_tables c.args.me 0 c.args.count c.args.knows.now c.args.known_by.now) c.loop-peer-test.false c.loop-peer.invariant
