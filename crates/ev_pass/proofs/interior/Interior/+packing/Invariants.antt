use Rattle.std.proofs.Common.{◌≡◌, ◌+◌, ◌*◌, drop}
use Rattle.ev_pass.specs.Notes.{all_parcels}
use Rattle.ev_pass.specs.Passing.{pack, packs}
use Rattle.ev_pass.proofs.Packs.{with_front}
use Rattle.ev_pass.proofs.interior.Interior.+packing.Given as goal

abbrev pub decreases-pack : goal.decreases-pack
decreases-pack l = 4 * l.depth + 2

abbrev pub decreases-pack_end : goal.decreases-pack_end
decreases-pack_end l = 4 * l.depth + 1

abbrev pub decreases-pack_list : goal.decreases-pack_list
decreases-pack_list l = 4 * l.depth

abbrev pub decreases-pack_all : goal.decreases-pack_all
decreases-pack_all l = 4 * l.depth + 3

-- what has passed, and then the rest, is all of it
abbrev pub invariant-pack_all-loop-value : goal.invariant-pack_all-loop-value
invariant-pack_all-loop-value l =
    with_front (all_parcels l.parts.items) (packs (pack l.depth l.to) (drop l.value-index l.values) l.self) ≡ packs (pack l.depth l.to) l.values l.initial.self
