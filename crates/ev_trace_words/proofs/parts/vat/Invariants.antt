-- the place among those left, counted from the first
use Rattle.std.proofs.Common.{◌≡◌, drop}
use Rattle.ev_script.specs.Vats.{place_of}
use Rattle.ev_script.proofs.PlaceLemmas.{behind}
use Rattle.ev_trace_words.proofs.parts.vat.Given as goal

abbrev pub invariant-loop-name : goal.invariant-loop-name
invariant-loop-name l = (l.place ≡ l.name-index) × (behind l.name-index (place_of (drop l.name-index l.names) l.word) ≡ place_of l.names l.word)
