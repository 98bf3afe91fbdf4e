use Rattle.ev_room.proofs.Ejectors.{kill_goes}
use Rattle.ev_room.proofs.ejector.end_there.Goals as goal

pub returns : goal.returns
returns c = record { outcome = kill_goes c.args.ejector c.args.room.now c.end_object.new.self c.requires c.end_object.ensures }
