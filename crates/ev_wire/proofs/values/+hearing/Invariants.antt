use Rattle.std.proofs.Common.{◌≡◌, drop}
use Rattle.def_op.specs.Views.{all_described}
use Rattle.ev_arrive.specs.Bringing.{all_parts}
use Rattle.ev_wire.specs.Hearing.{parts_heard}
use Rattle.ev_wire.proofs.Listing.{with_front}
use Rattle.ev_wire.proofs.values.+hearing.Given as goal

-- what was heard, and then the rest, is all of it
abbrev pub invariant-hear_values-loop-desc : goal.invariant-hear_values-loop-desc
invariant-hear_values-loop-desc l =
    with_front (all_parts l.parts.items) (parts_heard l.inside l.connection l.learnt (all_described (drop l.desc-index l.descs)) l.news) ≡ parts_heard l.inside l.connection l.learnt (all_described l.descs) l.initial.news
