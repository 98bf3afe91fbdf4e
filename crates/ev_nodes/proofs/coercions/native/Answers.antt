use Rattle.std.proofs.Common.{sym, ◌∙◌}
use Rattle.ev_nodes.proofs.Coercing.{native_takes, native_refuses}
use Rattle.ev_nodes.proofs.coercions.native.Goals as goal

pub returns-in-Takes-clause-rest : goal.returns-in-Takes-clause-rest
returns-in-Takes-clause-rest c =
    native_takes c.args.program.now c.args.depth c.args.frames.now c.args.here.now c.args.room.now c.args.target.now c.args.number c.args.specimen c.args.ejector
    c.in-Takes.value c.args.frames.now c.coerced.new.here c.coerced.new.room c.coerced.result c.coerced.ensures.rest c.deref-near.result c.deref-near.ensures (sym c.native_coerced.ensures ∙ c.in-Takes.is)

pub returns-in-Refuses-clause-rest : goal.returns-in-Refuses-clause-rest
returns-in-Refuses-clause-rest c =
    native_refuses c.args.program.now c.args.depth c.args.frames.now c.args.here.now c.args.room.now c.args.target.now c.args.number c.args.specimen c.args.ejector
    c.in-Refuses.problem c.failing.new.frames c.failing.new.here c.failing.new.room c.failing.result c.failing.ensures.rest c.deref-near.result c.deref-near.ensures (sym c.native_coerced.ensures ∙ c.in-Refuses.is)
