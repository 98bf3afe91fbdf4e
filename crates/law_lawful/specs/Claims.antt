-- Names that were made, where a hostile vat may claim a gift under a word that nobody drew.
use Rattle.std.specs.Prelude.{ℕ, ◌<◌, List, ◌⊎◌}
use Rattle.def_machine.specs.Values.{Name, Root, Object, Promise, Answer, Gift, Sent, word_of}
use Rattle.def_machine.specs.State.{Vat}
use Rattle.law_fate.specs.Name.Names.{Bit, Named, Mail, Drew, At, Off, Entered, Owns, Gave, IsAmong, IsMessageMade, promises_of, messages_of}

module _ (Claim : ℕ → Type 0) where
  -- the word of that key is among those drawn, or may be claimed
  abbrev pub HasWord : List ℕ → ℕ → Type 0
  HasWord draws i = IsAmong (word_of i) draws ⊎ Claim (word_of i)

  -- Its number is one that its vat has given: a promise of that vat, an answer of a message of that vat, a gift under such a word. A message is no thing to be named.
  abbrev pub WasMade : List (Vat Name) → List ℕ → Name → Type 0
  WasMade vats draws (Root w) = Unit {0}
  WasMade vats draws (Object w i) = Unit {0}
  WasMade vats draws (Promise w i) = i < promises_of vats w
  WasMade vats draws (Answer h m) = m.number < messages_of vats m.sender
  WasMade vats draws (Gift h i) = HasWord draws i
  WasMade vats draws (Sent m) = ⊥

  abbrev pub IsMade : List (Vat Name) → List ℕ → Bit Name → Type 0
  IsMade vats draws (Named n) = WasMade vats draws n
  IsMade vats draws (Mail n) = IsMessageMade vats n
  IsMade vats draws (Drew i) = HasWord draws i
  IsMade vats draws (At h) = Unit {0}
  IsMade vats draws (Off h) = Unit {0}
  IsMade vats draws (Entered n) = WasMade vats draws n
  IsMade vats draws (Owns n i) = WasMade vats draws n
  IsMade vats draws (Gave i) = HasWord draws i
