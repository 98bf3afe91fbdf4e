use Rattle.std.proofs.Common.{◌≡◌, [], drop, length, ◌-◌}
use Rattle.ev_kernel_printer.specs.Items.{items_in}
use Rattle.ev_room.specs.Forms.{build}
use Rattle.ev_room.proofs.form.build.Given as goal

-- what is left to build is the whole
abbrev pub invariant-loop-item : goal.invariant-loop-item
invariant-loop-item l = build l.act (items_in (drop l.place l.items)) l.forms l.room ≡ build l.act (items_in l.items) [] l.fn.room

abbrev pub decreases-loop-item : goal.decreases-loop-item
decreases-loop-item l = length l.items - l.place
