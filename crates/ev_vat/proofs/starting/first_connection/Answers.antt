use Rattle.std.proofs.Common.{true, false, ◌∙◌}
use Rattle.ev_vat.proofs.MemberStarts.{other_table, own_table}
use Rattle.ev_vat.proofs.starting.first_connection.Goals as goal
use Rattle.ev_vat.proofs.starting.first_connection.Goals.{then-ne+in_ok-import_root, then-is_among+in_ok-export_root, else-is_among, else-ne}

pub returns : goal.returns
returns c = elim c.if-ne.branch [
  | then-ne+in_ok-import_root w ↦ elim w.if-is_among.branch [
    | then-is_among+in_ok-export_root x ↦
        other_table c.args.me c.args.peer c.args.knows.now c.args.known_by.now true w.root_of.result c.new-connection.result w.if-is_among.connection c.if-ne.connection
        w.if-ne.ensures x.if-is_among.ensures w.root_of.ensures c.new-connection.ensures (x.connection-is ∙ x.in_ok-export_root.ensures) (w.connection-is ∙ w.in_ok-import_root.ensures)
    | else-is_among x ↦
        other_table c.args.me c.args.peer c.args.knows.now c.args.known_by.now false w.root_of.result c.new-connection.result w.if-is_among.connection c.if-ne.connection
        w.if-ne.ensures x.if-is_among.ensures w.root_of.ensures c.new-connection.ensures x.connection-is (w.connection-is ∙ w.in_ok-import_root.ensures)
  ]
  | else-ne w ↦ own_table c.args.me c.args.peer c.args.knows.now c.args.known_by.now c.new-connection.result c.if-ne.connection w.if-ne.ensures c.new-connection.ensures w.connection-is
]
