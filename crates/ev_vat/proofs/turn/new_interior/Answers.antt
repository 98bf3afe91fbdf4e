use Rattle.std.proofs.Common.{refl}
use Rattle.ev_vat.proofs.Fresh.{is_sound}
use Rattle.ev_vat.proofs.turn.new_interior.Goals as goal

pub returns-clause-sound : goal.returns-clause-sound
returns-clause-sound c = is_sound _ c.args.number c.in_ok-new_heap.ensures.texts c.new.ensures refl
