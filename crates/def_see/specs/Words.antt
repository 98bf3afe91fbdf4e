-- What the words of a line of a history say. docs/HISTORY.md has the words of each line.
use Rattle.std.specs.Prelude.{ℕ, ◌+◌, ◌-◌, ◌==◌, nat_le, nat_lt, Bool, false, ◌&&◌, ◌||◌, if◌then◌else◌, List, [], ◌∷◌, ◌++◌, length, take, drop, flat_map, slice_get, codes, Option, Some, None, unwrap_or}
use Rattle.std.specs.Str.{bytes_eq}
use Rattle.std.specs.List.{position_or_len, before_first}

abbrev pub Words : Type 0
Words = List (List ℕ)

-- the word at a place, from 0
abbrev pub word : ℕ → Words → List ℕ
word n ws = unwrap_or (slice_get ws n) []

abbrev pub has : ℕ → List ℕ → Words → Bool
has n text ws = bytes_eq (word n ws) text

-- words with a separator between two
abbrev pub joined : List ℕ → Words → List ℕ
joined separator [] = []
joined separator (w ∷ ws) = w ++ flat_map (λ v. separator ++ v) ws

-- ---- the kind of a line

abbrev pub begins_with : ℕ → List ℕ → Bool
begins_with mark [] = false
begins_with mark (b ∷ bs) = b == mark

abbrev pub begins_with_digit : List ℕ → Bool
begins_with_digit [] = false
begins_with_digit (b ∷ bs) = nat_le 48 b && nat_le b 57

-- `!A ACT ..`: an activation does that
unfoldable pub is_act : List ℕ → Words → Bool
is_act act ws = begins_with 33 (word 0 ws) && has 1 act ws

-- `K WORD ..`: an entry of that kind
unfoldable pub is_entry : List ℕ → Words → Bool
is_entry kind ws = begins_with_digit (word 0 ws) && has 1 kind ws

-- a message is sent, with an answer or without, or is to come as a reaction
unfoldable pub sends : Words → Bool
sends ws = is_act (codes "send") ws || is_act (codes "sendonly") ws || is_act (codes "when") ws

-- ---- steps

unfoldable pub begins_step : Words → Bool
begins_step ws = has 0 (codes "open") ws || begins_with_digit (word 0 ws)

-- how a step is called by its first line
unfoldable pub step_label : Words → List ℕ
step_label ws = if has 0 (codes "open") ws then codes "open " ++ word 1 ws else word 0 ws

-- the vat of a step by its first line
unfoldable pub step_vat : Words → List ℕ
step_vat ws =
    if has 0 (codes "open") ws then word 1 ws
    else if has 1 (codes "carry") ws then word 3 ws
    else if has 1 (codes "turn") ws || has 1 (codes "notice") ws then word 2 ws
    else []

-- ---- what a line is about

-- the message of the note that begins at a place
unfoldable pub noted : ℕ → Words → Option (List ℕ)
noted n ws = if has n (codes "deliver") ws || has n (codes "deliveronly") ws then Some (word (n + 1) ws) else None

-- the message that is left, in a queue, on a link, or held or waiting
unfoldable pub left_message : Words → Option (List ℕ)
left_message ws =
    if has 1 (codes "queue") ws then Some (word 3 ws)
    else if has 1 (codes "link") ws then noted 4 ws
    else Some (word 4 ws)

-- the message that is carried, taken, lost or left, or the name that settles or waits
unfoldable pub subject : Words → Option (List ℕ)
subject ws =
    if is_act (codes "take") ws then Some (word 2 ws)
    else if has 0 (codes "lost") ws || has 0 (codes "settle") ws || has 0 (codes "wait") ws then Some (word 1 ws)
    else if has 0 (codes "left") ws then left_message ws
    else if is_entry (codes "carry") ws then noted 4 ws
    else None

-- ---- hosts

-- what stands before the first such character is this
unfoldable pub stands_before : ℕ → List ℕ → List ℕ → Bool
stands_before mark front name =
    nat_lt (position_or_len (λ b. b == mark) name) (length name) && bytes_eq (before_first (λ b. b == mark) name) front

-- `@V`, `V?M`, `V~N` and `V^N` are names at host V
unfoldable pub is_host : List ℕ → List ℕ → Bool
is_host vat name = bytes_eq name (64 ∷ vat) || stands_before 63 vat name || stands_before 126 vat name || stands_before 94 vat name

-- ---- what a send line says

-- the arguments of a send, which has an answer at its end, or of a `sendonly`
unfoldable pub arguments : Words → Words
arguments ws = if is_act (codes "sendonly") ws then drop 5 ws else take (length ws - 7) (drop 5 ws)

-- what the message is sent on, its verb and its arguments; of a reaction what it waits for besides
unfoldable pub what : Words → List ℕ
what ws =
    if is_act (codes "when") ws then codes "when " ++ word 3 ws ++ codes ": " ++ word 4 ws ++ codes " <- run(" ++ word 3 ws ++ codes ")"
    else word 3 ws ++ codes " <- " ++ word 4 ws ++ codes "(" ++ joined (codes ", ") (arguments ws) ++ codes ")"
