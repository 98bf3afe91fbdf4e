use Rattle.std.proofs.Common.{refl, ◌∙◌}
use Rattle.ev_frames.proofs.Calling.{made_begins}
use Rattle.ev_frames.proofs.calls.call_made.Goals as goal

pub returns-clause-rest : goal.returns-clause-rest
returns-clause-rest c =
    let e = c.in_ok-begun.ensures.outcome in
    let p = c.in_ok-enter_body.ensures.pushed in
    let i = c.in_ok-enter_body.ensures.scope in
    let n = c.scope.ensures in
    let f = c.first_method-found.ensures in
    made_begins c.args.program.now c.args.depth c.args.frames.now c.enter_body.new.frames c.args.here.now c.args.room.now c.args.receiver c.args.object c.args.verb.now c.args.args.now
    c.args.code c.in_ok-begun.begun c.enter_body.new.here c.found_begins.new.here c.activated.new.room c.found_begins.new.room c.found_begins.result
    _ _ e (i ∙ (rw n refl)) p (let a = c.nodes.ensures in let b = c.nodes-2.ensures in let m = c.members_of-members.ensures in cc) (let a = c.nodes.ensures in let b = c.nodes-2.ensures in let m = c.members_of-members.ensures in cc) c.found_begins.new.frames c.found_begins.ensures.rest
