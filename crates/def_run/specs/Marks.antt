-- Marks on the keys of gifts. A key tells a provider, which is below 16, and a word; a mark adds to the provider, and leaves the word.
use Rattle.std.specs.Prelude.{ℕ, ◌+◌, ◌%◌, Bool, nat_le}
use Rattle.def_machine.specs.Values.{Name, Root, Object, Promise, Answer, Gift, Sent, key, provider_of, word_of}
use Rattle.def_machine.specs.Values.{opened_values}

-- the key without a mark
unfoldable pub base : ℕ → ℕ
base i = key (provider_of i % 16) (word_of i)

-- the gift of that key, as the entry of a vat that learnt it by a position
unfoldable pub placed : ℕ → ℕ
placed i = key (provider_of i % 16 + 16) (word_of i)

-- the gift of that key, as it prints by its word
unfoldable pub spelled_out : ℕ → ℕ
spelled_out i = key (provider_of i % 16 + 32) (word_of i)

unfoldable pub is_spelled_out : ℕ → Bool
is_spelled_out i = nat_le 32 (provider_of i)

-- the name of a gift under another key
unfoldable pub rekeyed : (ℕ → ℕ) → Name → Name
rekeyed f (Gift h i) = Gift h (f i)
rekeyed f (Root v) = Root v
rekeyed f (Object v i) = Object v i
rekeyed f (Promise v i) = Promise v i
rekeyed f (Answer h m) = Answer h m
rekeyed f (Sent m) = Sent m

-- opens each definition of this file
unfoldable pub opened_marks : Unit {0}
unfolding base placed spelled_out is_spelled_out rekeyed opened_values
opened_marks = tt
