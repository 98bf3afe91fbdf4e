-- the place, counted from those left
use Rattle.std.proofs.Common.{◌≡◌, ◌+◌, drop}
use Rattle.ev_trace_lines.proofs.PlaceLemmas.{place}
use Rattle.ev_trace_lines.proofs.acts.place_of_word.Given as goal

abbrev pub invariant-loop-found : goal.invariant-loop-found
invariant-loop-found l = (l.place ≡ l.found-index) × (l.found-index + place l.word (drop l.found-index l.words) ≡ place l.word l.words)
