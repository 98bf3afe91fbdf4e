use Rattle.std.proofs.Common.{sym}
use Rattle.ev_steps.proofs.Alikes.{compares_pair, compares_value}
use Rattle.ev_steps.proofs.same.compare.Goals as goal

pub returns-in_ok-insert_full-in-Some : goal.returns-in_ok-insert_full-in-Some
returns-in_ok-insert_full-in-Some c =
    compares_pair c.args.room.now c.args.x c.args.y c.deref-first.result c.deref-second.result c.in-Some.pair c.args.next.now.keys c.insert_full.new.self.keys
    c.deref-first.ensures c.deref-second.ensures (sym c.in-Some.ensures) c.in_ok-insert_full-in-Some.ensures.keys

pub returns-in-None : goal.returns-in-None
returns-in-None c =
    compares_value c.args.room.now c.args.x c.args.y c.deref-first.result c.deref-second.result c.same_plain.result c.args.next.now.keys
    c.deref-first.ensures c.deref-second.ensures (sym c.in-None.ensures) c.same_plain.ensures
