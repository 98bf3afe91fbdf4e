use Rattle.std.proofs.Common.{◌≡◌, map, take}
use Rattle.std.specs.Prelude.{option_map}
use Rattle.def_machine.specs.Scopes.{own_noun}
use Rattle.ev_room.specs.Acts.{name_seen}
use Rattle.ev_room.proofs.audition.view_of.Given as goal

abbrev pub invariant-loop-noun : goal.invariant-loop-noun
invariant-loop-noun l = l.names ≡ map (name_seen (own_noun (option_map (λ node. node.now) l.pattern)) l.nouns) (take l.noun-index l.free)
