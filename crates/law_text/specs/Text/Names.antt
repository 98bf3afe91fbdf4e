-- Names and messages by their texts.
use Rattle.std.specs.Prelude.{◌≡◌, ℕ, ◌<◌, ◌^◌, Bool, true, List, length, not, ◌==◌, ◌&&◌}
use Rattle.std.specs.List.{list_all}
use Rattle.ev_base.specs.declared.names.Name.{Name}
use Rattle.ev_base.specs.declared.names.Name.TheVariants.{Object, Own, Answer, Gift, Root, Claimed}
use Rattle.ev_base.specs.declared.names.Msg.{Msg}
use Rattle.def_event.specs.Lines.{vat, message, name}

-- a byte that is no mark of a name or message: `.`, `~`, `/`, `?`, `^`, `@`
abbrev pub unmarked : ℕ → Bool
unmarked c = not (c == 46) && (not (c == 126) && (not (c == 47) && (not (c == 63) && (not (c == 94) && not (c == 64)))))

-- No name of a vat has a mark in it, and two vats have two names.
pub record AreNames (vats : List (List ℕ)) : Type 0 where
  pub unmarked : (v : ℕ) → list_all unmarked (vat vats v) ≡ true
  pub differ : (v w : ℕ) → v < length vats → w < length vats → vat vats v ≡ vat vats w → v ≡ w

-- its vats are of these, and its number of 64 bits, or of 128 where a hostile vat claimed it
module _ (vats : List (List ℕ)) where
  abbrev pub IsMessageOf : Msg → Type 0
  IsMessageOf m = (m.sender < length vats) × (m.number < 2 ^ 64)

  abbrev pub IsNameOf : Name → Type 0
  IsNameOf (Object v n) = (v < length vats) × (n < 2 ^ 64)
  IsNameOf (Own v n) = (v < length vats) × (n < 2 ^ 64)
  IsNameOf (Answer host m) = (host < length vats) × IsMessageOf m
  IsNameOf (Gift host i) = (host < length vats) × (i < 2 ^ 64)
  IsNameOf (Root v) = v < length vats
  IsNameOf (Claimed host provider word) = (host < length vats) × (provider < length vats) × (word < 2 ^ 128)

abbrev pub TextsTellMessages : Type 0
TextsTellMessages = (vats : List (List ℕ)) → AreNames vats → (m n : Msg) → IsMessageOf vats m → IsMessageOf vats n → message vats m ≡ message vats n → m ≡ n

abbrev pub TextsTellNames : Type 0
TextsTellNames = (vats : List (List ℕ)) → AreNames vats → (a b : Name) → IsNameOf vats a → IsNameOf vats b → name vats a ≡ name vats b → a ≡ b
