use Rattle.ev_vat.proofs.Rooms.{leaf_is, list_is}
use Rattle.ev_vat.proofs.fitting.is_desc.Goals as goal

pub returns-in-ListOf : goal.returns-in-ListOf
returns-in-ListOf c = rw c.is_some.ensures (list_is c.args.desc.now c.in-ListOf.field-0 c.room_beside.result c.in-ListOf.is c.room_beside.ensures)

pub returns-in_default : goal.returns-in_default
returns-in_default c = leaf_is c.args.desc.now c.own_fits.result c.in_default.not-ListOf c.own_fits.ensures
