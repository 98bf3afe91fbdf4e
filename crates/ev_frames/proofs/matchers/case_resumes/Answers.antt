use Rattle.std.proofs.Common.{◌≡◌, true}
use Rattle.std.specs.Prelude.{◌==◌}
use Rattle.ev_frames.proofs.Matching.{case_own}
use Rattle.ev_frames.proofs.matchers.case_resumes.Goals as goal

pub returns-then-own-clause-rest : goal.returns-then-own-clause-rest
returns-then-own-clause-rest c =
    let is = c.in-Left.is in
    let same = c.is_same-own.ensures in
    let yes = c.if-own.true in
    let own : (c.in-Left.by == c.args.ejector) ≡ true = cc in
    rw is (case_own c.args.program.now c.args.depth c.args.mark c.args.ejector c.args.body c.args.matchers c.args.place c.args.message c.args.frames.now c.args.here.now c.args.room.now c.kill.new.room c.requires.nested c.kill.ensures.outcome
    c.in-Left.by c.in-Left.value c.hand_over.new.frames c.hand_over.result c.hand_over.new.here c.hand_over.new.room own (c.hand_over.ensures.rest c.in-Left.by))
