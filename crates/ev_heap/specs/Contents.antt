-- What a heap holds, and how it changes.
use Rattle.std.specs.Prelude.{ℕ, ◌+◌, ◌<◌, ◌&&◌, max, nat_le, Bool, true, false, if◌then◌else◌, List, [], ◌∷◌, length, fold, sum_by, slice_get, Some, None, option_map, unwrap_or}
use Rattle.std.specs.declared.option.Option.{Option}
use Rattle.ev_base.specs.declared.values.Value.{Value}
use Rattle.ev_base.specs.declared.values.Value.TheVariants as value
use Rattle.ev_heap.specs.declared.kept.Thing.{Thing}
use Rattle.ev_heap.specs.declared.kept.Cell.{Cell}
use Rattle.ev_heap.specs.declared.kept.Listed.{Listed}

-- each kept thing has its place in its list as its number
pub record Contents : Type 0 where
  pub things : List Thing
  pub slots : List Cell
  pub lists : List Listed
  pub texts : List (List ℕ)
  -- for each activation the receiver whose code it runs, null for an opening turn
  pub codes : List Value

abbrev pub nothing : Contents
nothing = record { things = []; slots = []; lists = []; texts = []; codes = [] }

-- a text or a list that the heap keeps, or what is neither
abbrev pub IsWeighable : Contents → Value → Type 0
IsWeighable h (value.Text id) = id < length h.texts
IsWeighable h (value.Broken id) = id < length h.texts
IsWeighable h (value.List id) = id < length h.lists
IsWeighable h _ = Unit {0}

abbrev pub size_of : Option (List ℕ) → ℕ
size_of text = unwrap_or (option_map (length {A = ℕ}) text) 0

abbrev pub weight_in : Option Listed → ℕ
weight_in list = unwrap_or (option_map (λ l. l.weight) list) 0

abbrev pub height_in : Option Listed → ℕ
height_in list = unwrap_or (option_map (λ l. l.height) list) 0

-- A text or a broken reference weighs 1 and its bytes, a list 1 and its members, anything else 1.
abbrev pub weight_of : Contents → Value → ℕ
weight_of h (value.Text id) = size_of (slice_get h.texts id) + 1
weight_of h (value.Broken id) = size_of (slice_get h.texts id) + 1
weight_of h (value.List id) = weight_in (slice_get h.lists id)
weight_of h _ = 1

-- A list is one higher than its highest member.
abbrev pub height_of : Contents → Value → ℕ
height_of h (value.List id) = height_in (slice_get h.lists id)
height_of h _ = 0

abbrev pub weight_of_all : Contents → List Value → ℕ
weight_of_all h members = sum_by (weight_of h) members + 1

abbrev pub height_of_all : Contents → List Value → ℕ
height_of_all h members = fold (λ height v. max height (height_of h v)) 0 members + 1

abbrev pub plain_in : Option Listed → Bool
plain_in list = unwrap_or (option_map (λ l. l.plain) list) false

-- Whether it is data with no name at any depth: an object, a promise and what is far are names, and a list is plain where each member is.
abbrev pub is_plain : Contents → Value → Bool
is_plain h (value.List id) = plain_in (slice_get h.lists id)
is_plain h (value.Obj id) = false
is_plain h (value.Prom id) = false
is_plain h (value.Far vat position) = false
is_plain h _ = true

abbrev pub are_plain : Contents → List Value → Bool
are_plain h [] = true
are_plain h (v ∷ vs) = is_plain h v && are_plain h vs

-- the greatest weight of a list, and its greatest height
abbrev pub most_weight : ℕ
most_weight = 65536

abbrev pub most_height : ℕ
most_height = 100

-- a number that is within a limit
abbrev pub within : ℕ → ℕ → Option ℕ
within limit n = if nat_le n limit then Some n else None

abbrev pub listed : Contents → List Value → Listed
listed h members = record { members = members; weight = weight_of_all h members; height = height_of_all h members; plain = are_plain h members }

-- a list of these members is within the limits
abbrev pub is_light : Contents → List Value → Bool
is_light h members = nat_le (weight_of_all h members) most_weight && nat_le (height_of_all h members) most_height
