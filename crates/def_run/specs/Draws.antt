-- The words that a run draws: the key stream of ChaCha20.
use Rattle.std.specs.Prelude.{ℕ, ◌+◌, ◌*◌, ◌^◌, List}
use Rattle.rand_core.specs.Steps.{u32_at}
use Rattle.rand_chacha.specs.ChaCha.{word_at, key_of}
use Rattle.rand_chacha.specs.Block.{quarter_round, column_round, diagonal_round, double_rounds, block_word}

-- word i of stream 0, of 32 bits, under a key of 32 bytes
unfoldable pub stream_word : List ℕ → ℕ → ℕ
stream_word key i = word_at 10 (key_of key) 0 i

-- draw i: four words, the lowest first
unfoldable pub draw_word : List ℕ → ℕ → ℕ
draw_word key i = stream_word key (4 * i) + 2 ^ 32 * stream_word key (4 * i + 1) + 2 ^ 64 * stream_word key (4 * i + 2) + 2 ^ 96 * stream_word key (4 * i + 3)

-- opens each definition of this file, and of those below
unfoldable pub opened_draws : Unit {0}
unfolding stream_word draw_word u32_at quarter_round column_round diagonal_round double_rounds block_word
opened_draws = tt
