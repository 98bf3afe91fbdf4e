use Rattle.std.proofs.Common.{◌≡◌, Some, refl}
use Rattle.std.specs.Prelude.{slice_get}
use Rattle.ev_room.proofs.Forming.{step_whole}
use Rattle.ev_room.proofs.form.build.Goals as goal

pub returns-in-Ok-Some : goal.returns-in-Ok-Some
returns-in-Ok-Some c =
    let s = c.in-Some.ensures in
    let at : slice_get c.args.items.now c.loop-item.place ≡ Some c.in-Some.item.now = cc in
    record {
      outcome = step_whole c.args.act c.args.items.now c.loop-item.place c.in-Some.item.now _ c.loop-item.forms c.loop-item.room _ c.in-Ok-Some.whole c.build_item.new.forms c.build_item.new.room at refl
          (let e = c.in-Ok-Some.ensures in let f = c.in-Ok-Some.field-0-is in cc) c.loop-item.invariant;
    }
