-- the places of the words so far, and then those of the others, are those of all
use Rattle.std.proofs.Common.{◌≡◌, drop}
use Rattle.ev_script.specs.Json.{each}
use Rattle.ev_script.specs.Vats.{place_of}
use Rattle.ev_script.proofs.EachLemmas.{done_and}
use Rattle.ev_script.proofs.vats.places_of.Given as goal

abbrev pub invariant-loop-word : goal.invariant-loop-word
invariant-loop-word l = done_and l.places (each (place_of l.names) (drop l.word-index l.words)) ≡ each (place_of l.names) l.words
