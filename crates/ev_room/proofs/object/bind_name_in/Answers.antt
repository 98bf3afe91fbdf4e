use Rattle.ev_room.proofs.Fronts.{pushed_in_front}
use Rattle.ev_room.proofs.object.bind_name_in.Goals as goal

pub returns-in_ok-noun-in-Final-clause-front : goal.returns-in_ok-noun-in-Final-clause-front
returns-in_ok-noun-in-Final-clause-front c = pushed_in_front c.args.here.now c.push.new.self _ c.push.result c.push.ensures.ok c.push.ensures.err
