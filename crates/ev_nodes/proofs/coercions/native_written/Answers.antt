use Rattle.std.proofs.Common.{sym, ◌∙◌}
use Rattle.ev_nodes.proofs.Coercing.{under_takes}
use Rattle.ev_nodes.proofs.coercions.native_written.Goals as goal

pub returns-in-Takes : goal.returns-in-Takes
returns-in-Takes c = record {
  outcome = under_takes c.args.program.now c.args.depth c.args.act c.args.slot c.args.number c.args.value c.args.room.now c.in-Takes.taken c.write_slot.result c.write_slot.new.room
      c.write_slot.ensures.outcome c.deref-near.result c.deref-near.ensures (sym c.native_coerced.ensures ∙ c.in-Takes.is);
}
