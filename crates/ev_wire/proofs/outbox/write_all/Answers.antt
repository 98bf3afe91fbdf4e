use Rattle.std.proofs.Common.{ap, map}
use Rattle.def_op.specs.Frames.{Operation}
use Rattle.ev_pass.specs.Notes.{sent}
use Rattle.ev_wire.specs.Putting.{Addressed, all_written, put_all}
use Rattle.ev_wire.proofs.Puts.{tables_done, tables_on, written_done, written_on}
use Rattle.ev_wire.proofs.outbox.write_all.Goals as goal

pub loop-put-preserved : goal.loop-put-preserved
loop-put-preserved c = (
  written_on c.args.inside.now c.loop-put.out.items c.push.new.self.items c.args.puts.now c.loop-put.put-index c.put-item.result (record { to = c.put-item.result.to; op = c.in_ok-op.op }) c.loop-put.connections.items c.write_put.new.connections.items
      (all_written c.args.inside.now (map sent c.args.puts.now) c.args.connections.now.items) c.loop-put-test.true c.put-item.is
      (ap {B = Addressed} (λ (d : Operation). record { to = c.put-item.result.to; op = d }) c.in_ok-op.ensures.op) c.in_default.ensures.items c.in_ok-op.ensures.ok c.loop-put.invariant.0,
  tables_on c.args.inside.now c.args.puts.now c.loop-put.put-index c.put-item.result c.loop-put.connections.items c.write_put.new.connections.items
      (put_all c.args.inside.now (map sent c.args.puts.now) c.args.connections.now.items) c.loop-put-test.true c.put-item.is c.in_ok-op.ensures.ok c.loop-put.invariant.1,
)

pub returns-clause-written : goal.returns-clause-written
returns-clause-written c = written_done c.args.inside.now c.loop-put.out.items c.args.puts.now c.loop-put.put-index c.loop-put.connections.items (all_written c.args.inside.now (map sent c.args.puts.now) c.args.connections.now.items) c.loop-put-test.false c.loop-put.invariant.0

pub returns-clause-ok : goal.returns-clause-ok
returns-clause-ok c = tables_done c.args.inside.now c.args.puts.now c.loop-put.put-index c.loop-put.connections.items (put_all c.args.inside.now (map sent c.args.puts.now) c.args.connections.now.items) c.loop-put-test.false c.loop-put.invariant.1
