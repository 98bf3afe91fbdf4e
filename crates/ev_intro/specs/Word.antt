-- Drawn words: numbers of 128 bits out of the key stream of ChaCha20.
use Rattle.std.specs.Prelude.{◌≡◌, ◌≢◌, ℕ, zero, suc, ◌+◌, ◌*◌, ◌^◌, ◌<◌, List, [], ◌∷◌, ◌++◌, nat_eq, unwrap_or}
use Rattle.std.specs.Map.{lookup}
use Rattle.rand_chacha.specs.ChaCha.{word_at, key_of}
use Rattle.ev_intro.specs.declared.words.DrawFault.{DrawFault}
use Rattle.ev_intro.specs.declared.words.DrawFault.TheVariants as fault

-- the number of four words of 32 bits on stream 0, from a place on, lowest first
unfoldable pub number_at : List ℕ → ℕ → ℕ
number_at words place =
    word_at 10 words 0 place + 2 ^ 32 * word_at 10 words 0 (place + 1)
    + 2 ^ 64 * word_at 10 words 0 (place + 2) + 2 ^ 96 * word_at 10 words 0 (place + 3)

-- draw i under a key of 32 bytes
abbrev pub word : List ℕ → ℕ → ℕ
word key i = number_at (key_of key) (4 * i)

-- the first draws, each with its number
unfoldable pub draws : List ℕ → ℕ → List (ℕ × ℕ)
draws key zero = []
draws key (suc n) = draws key n ++ (word key n, n) ∷ []

-- a key, and how many words were drawn under it
pub record Drawn : Type 0 where
  pub key : List ℕ
  pub count : ℕ

-- which draw gave that word first, or how many there were where none gave it
abbrev pub place : ℕ → Drawn → ℕ
place w drawn = unwrap_or (lookup (nat_eq w) (draws drawn.key drawn.count)) drawn.count

-- no earlier draw gave what the next one gives
abbrev pub IsNew : Drawn → Type 0
IsNew drawn = (i : ℕ) → i < drawn.count → word drawn.key i ≢ word drawn.key drawn.count

-- Why the next word was not drawn: it is that of draw i, and of none before that.
abbrev pub IsDrawFault : Drawn → DrawFault → Type 0
IsDrawFault drawn (fault.WordRepeated i j) = (j ≡ drawn.count) × (i < j) × (word drawn.key i ≡ word drawn.key j) × ((k : ℕ) → k < i → word drawn.key k ≢ word drawn.key j)
IsDrawFault drawn fault.Memory = IsNew drawn
