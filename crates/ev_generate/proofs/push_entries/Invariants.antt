-- the entries so far, and then the others, are all; the stream stands at the next
use Rattle.std.proofs.Common.{◌≡◌, ◌++◌, ◌-◌}
use Rattle.std.specs.Prelude.{string_bytes}
use Rattle.std.specs.List.{flat_map, range_with_len}
use Rattle.rand_chacha.specs.ChaCha.{key_of}
use Rattle.ev_generate.specs.Generated.{choice, entries, spelled_entry}
use Rattle.ev_generate.proofs.push_entries.Given as goal

abbrev pub invariant-loop-place : goal.invariant-loop-place
invariant-loop-place l = record {
  so_far : string_bytes l.out ++ flat_map (λ i. spelled_entry (choice l.key i)) (range_with_len l.place (l.n - l.place)) ≡ string_bytes l.fn.out ++ entries l.key l.n;
  stands : l.stream ≡ record { key = key_of l.key; stream = 0; word_pos = l.place };
}
