-- Places of arguments that lead over to where the arguments come.
use Rattle.std.specs.Prelude.{◌≡◌, ◌+◌, ◌<◌, ◌≤◌, ◌⊎◌, ℕ, Bool, true, false, List, length, Option, Some, slice_get}
use Rattle.ev_base.specs.declared.names.Msg.{Msg}
use Rattle.def_event.specs.declared.reference.Reference.{Reference}
use Rattle.ev_order.specs.declared.mentions.Mention.{Mention}
use Rattle.ev_order.specs.declared.spread.Place.{Place}
use Rattle.ev_order.specs.Mentions.{MentionList, IsThere}

abbrev pub is_reference : Option (Option Reference) → Bool
is_reference (Some (Some r)) = true
is_reference _ = false

-- a reference stands at a place
abbrev pub IsReference : List (Option Reference) → ℕ → Type 0
IsReference refs i = is_reference (slice_get refs i) ≡ true

-- place i leads over to place j
abbrev pub HasOver : List Place → ℕ → ℕ → Type 0
HasOver places i j = (p : Place) × (slice_get places i ≡ Some p) × (p.over ≡ Some j)

-- Places of which that is said lead over now, if they led nowhere, and nothing else changes.
pub record Joins (Said : ℕ → ℕ → Type 0) (old now : List Place) : Type 0 where
  pub same_length : length now ≡ length old
  pub next : (i : ℕ) (p : Place) → slice_get now i ≡ Some p → (q : Place) × (slice_get old i ≡ Some q) × (p.next ≡ q.next)
  pub kept : (i j : ℕ) → HasOver old i j → HasOver now i j
  pub said : (i j : ℕ) → HasOver now i j → HasOver old i j ⊎ Said i j
  pub done : (i j : ℕ) → Said i j → (k : ℕ) × HasOver now i k

-- places i and j are those two
pub record IsPair (refs : List (Option Reference)) (from to i j : ℕ) : Type 0 where
  pub first : i ≡ from
  pub second : j ≡ to
  pub here : IsReference refs i
  pub there : IsReference refs j

-- place i is that of an argument where its message is sent, and place j that of the same argument where it comes
pub record IsJoin (refs : List (Option Reference)) (sent carried : Mention) (i j : ℕ) : Type 0 where
  pub same_vat : sent.vat ≡ carried.vat
  pub argument : ℕ
  pub is_sent : argument < sent.args
  pub is_carried : argument < carried.args
  pub first : i ≡ sent.first + argument
  pub second : j ≡ carried.first + argument
  pub here : IsReference refs i
  pub there : IsReference refs j

-- ---- all messages

-- place i is that of an argument of the message that is mentioned as that number, and place j that of the same argument where it comes
pub record IsJoined (refs : List (Option Reference)) (sent carried : MentionList) (i j : ℕ) : Type 0 where
  pub number : ℕ
  pub message : Msg
  pub send : Mention
  pub carry : Mention
  pub at : slice_get sent number ≡ Some (message, send)
  pub comes : IsThere message carry carried
  pub join : IsJoin refs send carry i j

-- the arguments have their places among those
abbrev pub FitIn : List (Option Reference) → MentionList → Type 0
FitIn refs list = (n : ℕ) (m : Msg) (s : Mention) → slice_get list n ≡ Some (m, s) → s.first + s.args ≤ length refs

-- no message is mentioned twice
abbrev pub AreSingle : MentionList → Type 0
AreSingle list = (m : Msg) (s t : Mention) → IsThere m s list → IsThere m t list → s ≡ t
