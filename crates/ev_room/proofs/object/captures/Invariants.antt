use Rattle.std.proofs.Common.{◌≡◌, [], drop}
use Rattle.ev_room.specs.Acts.{captures}
use Rattle.ev_room.proofs.object.captures.Given as goal

-- what is caught so far, and then the rest, is the whole
abbrev pub invariant-loop-noun : goal.invariant-loop-noun
invariant-loop-noun l = captures l.all l.nouns (drop l.noun-index l.free) ≡ captures [] l.nouns l.free
