-- What evaluation reads in the inside of a vat is what references read there.
use Rattle.std.specs.Prelude.{◌≡◌, ◌++◌, List}
use Rattle.ev_base.specs.declared.values.Value.{Value as Held}
use Rattle.def_machine.specs.Refs.{follow, place}
use Rattle.def_machine.specs.Values.{Words}
use Rattle.ev_pass.specs.Reading.{Reads, vat_at}
use Rattle.ev_pass.specs.declared.interior.Interior.{Interior}
use Rattle.ev_refs.specs.Follow.{followed, place_of}
use Rattle.ev_refs.specs.Reading.{place_by}
use Rattle.ev_room.specs.Reading.{World, beside, line_of, names, texts_of, value_of, vat_of}
use Rattle.ev_room.specs.Sound.{KnowsProblems}

-- the texts of the heap are a front of those of the end
abbrev pub ReadsAsReferences : Type 0
ReadsAsReferences = (w : World) (i : Interior) (more : List Words) → KnowsProblems i → texts_of w ≡ i.heap.texts ++ more → Reads (texts_of w) i.words.key i

-- what leaves the heap as it is leaves what stands beside references
abbrev pub StandsAsReferences : Type 0
StandsAsReferences = (w : World) (i j : Interior) → j.heap ≡ i.heap → vat_of w j ≡ vat_at (texts_of w) (line_of w) j (beside w i)

abbrev pub FollowsAsReferences : Type 0
FollowsAsReferences = (w : World) (i : Interior) (v : Held) → KnowsProblems i → follow (names w) (vat_of w i) (value_of w v) ≡ value_of w (followed i.refs v)

abbrev pub PlacesAsReferences : Type 0
PlacesAsReferences = (w : World) (i : Interior) (v : Held) → place (names w) (vat_of w i) (value_of w v) ≡ place_by (texts_of w) (place_of i.refs v)
