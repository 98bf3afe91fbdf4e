-- the values so far, and then those of the other words
use Rattle.std.proofs.Common.{◌≡◌, ◌+◌, ◌*◌, drop}
use Rattle.ev_trace_words.specs.Values.{all_of, note_value}
use Rattle.ev_trace_words.proofs.AllOf.{done_then}
use Rattle.ev_trace_words.proofs.values.+members.Given as goal

abbrev pub decreases-note_value : goal.decreases-note_value
decreases-note_value l = 3 * l.height

abbrev pub decreases-note_list : goal.decreases-note_list
decreases-note_list l = 3 * l.height + 2

abbrev pub decreases-note_values_within : goal.decreases-note_values_within
decreases-note_values_within l = 3 * l.height + 1

abbrev pub invariant-note_values_within-loop-word : goal.invariant-note_values_within-loop-word
invariant-note_values_within-loop-word l = done_then l.found (all_of (note_value l.names l.height) (drop l.word-index l.words)) ≡ all_of (note_value l.names l.height) l.words
