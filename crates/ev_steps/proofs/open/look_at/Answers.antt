use Rattle.std.proofs.Common.{sym}
use Rattle.ev_steps.proofs.Opens.{looks_list, looks_value}
use Rattle.ev_steps.proofs.open.look_at.Goals as goal

pub returns-in_ok-insert_full-in-Some : goal.returns-in_ok-insert_full-in-Some
returns-in_ok-insert_full-in-Some c =
    looks_list c.args.room.now c.args.value c.deref-followed.result c.in-Some.list c.args.next.now.keys c.insert_full.new.self.keys
    c.deref-followed.ensures (sym c.in-Some.ensures) c.in_ok-insert_full-in-Some.ensures.keys

pub returns-in-None : goal.returns-in-None
returns-in-None c =
    looks_value c.args.room.now c.args.value c.deref-followed.result c.is_unsettled.result c.args.next.now.keys
    c.deref-followed.ensures (sym c.in-None.ensures) c.is_unsettled.ensures
