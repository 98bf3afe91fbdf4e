use Rattle.ev_room.proofs.Exits.{spent_first}
use Rattle.ev_room.proofs.data.store.Goals as goal

pub returns : goal.returns
returns c = record {
  outcome = spent_first c.args.act c.args.members.now c.args.room.now c.spend.new.room c.keep_list.result c.keep_list.new.room c.in_ok-spend.ensures.outcome c.keep_list.ensures.outcome;
}
