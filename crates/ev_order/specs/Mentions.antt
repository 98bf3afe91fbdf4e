-- The first mentions of messages, in the order of the lines.
use Rattle.std.specs.Prelude.{◌≡◌, ◌⊎◌, ℕ, List, [], ◌∷◌, ◌++◌, Some, slice_get}
use Rattle.ev_base.specs.declared.names.Msg.{Msg}
use Rattle.ev_order.specs.declared.mentions.Mention.{Mention}

abbrev pub MentionList : Type 0
MentionList = List (Msg × Mention)

abbrev pub IsThere : Msg → Mention → MentionList → Type 0
IsThere m s list = (n : ℕ) × (slice_get list n ≡ Some (m, s))

abbrev pub IsAbsent : Msg → MentionList → Type 0
IsAbsent m list = (s : Mention) → IsThere m s list → ⊥

-- A message that is there stays as it is, and one that is absent comes last.
abbrev pub IsAdded : Msg → Mention → MentionList → MentionList → Type 0
IsAdded m s old now = (((t : Mention) × IsThere m t old) × (now ≡ old)) ⊎ (IsAbsent m old × (now ≡ old ++ (m, s) ∷ []))
