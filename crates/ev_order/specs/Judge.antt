-- Whether messages were taken before those that were sent before them.
use Rattle.std.specs.Prelude.{◌≡◌, ◌+◌, ◌-◌, ◌<◌, ◌⊎◌, ℕ, Bool, true, false, not, nat_lt, if◌then◌else◌, List, length, Option, Some, None, MatchOption, option_map, slice_get}
use Rattle.ev_base.specs.declared.names.Msg.{Msg}
use Rattle.def_event.specs.declared.event.Event.{Event}
use Rattle.def_event.specs.Order.{Taking, taking}
use Rattle.ev_order.specs.declared.mentions.Mention.{Mention}
use Rattle.ev_order.specs.declared.spread.Place.{Place}
use Rattle.ev_order.specs.Spread.{HasFirstLabels}
use Rattle.ev_order.specs.Mentions.{MentionList, IsThere, IsAbsent}

-- each message was sent on a place that is there
abbrev pub FitPlaces : List Place → MentionList → Type 0
FitPlaces places sent = (n : ℕ) (m : Msg) (s : Mention) → slice_get sent n ≡ Some (m, s) → s.first + s.args < length places

abbrev pub next_of : Option Place → Option ℕ
next_of None = None
next_of (Some p) = p.next

-- the place that comes next behind that on which a message was sent
abbrev pub seed_of : List Place → Mention → Option ℕ
seed_of places s = next_of (slice_get places (s.first + s.args))

-- a message that was sent is a seed where none takes it
abbrev pub IsUntaken : List Place → MentionList → Msg → Mention → Option ℕ → Type 0
IsUntaken places taken m s o = (IsAbsent m taken × (o ≡ seed_of places s)) ⊎ (((t : Mention) × IsThere m t taken) × (o ≡ None))

-- a message that was taken is a seed where it was sent
abbrev pub IsTakenSeed : List Place → MentionList → Msg → Option ℕ → Type 0
IsTakenSeed places sent m o = ((s : Mention) × IsThere m s sent × (o ≡ seed_of places s)) ⊎ (IsAbsent m sent × (o ≡ None))

-- The first a seeds are of messages that none takes, in the order of sending, and b further ones of those that are taken, the last one first.
pub record IsRanked (places : List Place) (sent taken : MentionList) (seeds : List (Option ℕ)) (a b : ℕ) : Type 0 where
  pub size : length seeds ≡ a + b
  pub first : (n : ℕ) (m : Msg) (s : Mention) (o : Option ℕ) → n < a → slice_get sent n ≡ Some (m, s) → slice_get seeds n ≡ Some o → IsUntaken places taken m s o
  pub second : (n : ℕ) (m : Msg) (t : Mention) (o : Option ℕ) → n < b → slice_get taken (length taken - 1 - n) ≡ Some (m, t) → slice_get seeds (a + n) ≡ Some o → IsTakenSeed places sent m o

abbrev pub late_line : ℕ → Option (Msg × Mention) → Bool
late_line line None = false
late_line line (Some p) = not (nat_lt p.1.line line)

-- The message of a rank is taken by no line before that one. The first s ranks are of messages that none takes, and each other one's take is given.
abbrev pub late : ℕ → ℕ → ℕ → Option (Msg × Mention) → Bool
late s rank line o = if nat_lt rank s then true else late_line line o

-- ---- lines that take too early

-- each message was sent on a place that has a label or none
abbrev pub FitLabels : List (Option ℕ) → MentionList → Type 0
FitLabels labels sent = (n : ℕ) (m : Msg) (s : Mention) → slice_get sent n ≡ Some (m, s) → s.first + s.args < length labels

-- labels are ranks below a count
abbrev pub AreRanks : List (Option ℕ) → ℕ → Type 0
AreRanks labels count = (n k : ℕ) → slice_get labels n ≡ Some (Some k) → k < count

-- whether the label of a place is the rank of a message that no line takes before that one
abbrev pub late_label : MentionList → MentionList → ℕ → Option (Option ℕ) → Bool
late_label sent taken line (Some (Some k)) = late (length sent) k line (slice_get taken (length taken - 1 - (k - length sent)))
late_label sent taken line _ = false

abbrev pub Overtakes : List (Option ℕ) → MentionList → MentionList → Msg → ℕ → Bool → Type 0
Overtakes labels sent taken m line b =
    ((s : Mention) × IsThere m s sent × (b ≡ late_label sent taken line (slice_get labels (s.first + s.args)))) ⊎ (IsAbsent m sent × (b ≡ false))

-- the message is behind one that no line takes before that one
abbrev pub IsEarly : List (Option ℕ) → MentionList → MentionList → Msg → ℕ → Type 0
IsEarly labels sent taken m line = (s : Mention) × IsThere m s sent × (late_label sent taken line (slice_get labels (s.first + s.args)) ≡ true)

-- an object takes the message, and too early
pub record TakesAt (labels : List (Option ℕ)) (sent taken : MentionList) (e : Event) (line : ℕ) (m : Msg) : Type 0 where
  pub take : Taking
  pub takes : taking e ≡ Some take
  pub by_object : take.by_object ≡ true
  pub message : take.message ≡ m
  pub early : IsEarly labels sent taken m line

abbrev pub TakesEarly : List (Option ℕ) → MentionList → MentionList → Event → ℕ → Option Msg → Type 0
TakesEarly labels sent taken e line o = MatchOption o ((m : Msg) → TakesAt labels sent taken e line m → ⊥) (λ m. TakesAt labels sent taken e line m)

-- no line before that one takes too early
abbrev pub NoneEarly : List (Option ℕ) → MentionList → MentionList → List Event → ℕ → Type 0
NoneEarly labels sent taken events line = (j : ℕ) (e : Event) (m : Msg) → j < line → slice_get events j ≡ Some e → TakesAt labels sent taken e j m → ⊥

abbrev pub IsFirstEarly : List (Option ℕ) → MentionList → MentionList → List Event → Option (ℕ × Msg) → Type 0
IsFirstEarly labels sent taken events o = MatchOption o
    (NoneEarly labels sent taken events (length events))
    (λ p. ((e : Event) × (slice_get events p.0 ≡ Some e) × TakesAt labels sent taken e p.0 p.1) × NoneEarly labels sent taken events p.0)

-- ---- messages that wait

-- whether a line before that one takes the message
abbrev pub TellsTaken : MentionList → Msg → ℕ → Bool → Type 0
TellsTaken taken m line b = ((t : Mention) × IsThere m t taken × (b ≡ nat_lt t.line line)) ⊎ (IsAbsent m taken × (b ≡ false))

-- a message is a seed where no line takes it before that one
pub record IsWaiting (places : List Place) (taken : MentionList) (line : ℕ) (m : Msg) (s : Mention) (o : Option ℕ) : Type 0 where
  pub is_taken : Bool
  pub tells : TellsTaken taken m line is_taken
  pub is : o ≡ (if is_taken then None else seed_of places s)

-- the first seeds are of the first messages
pub record AreWaiting (places : List Place) (sent taken : MentionList) (line : ℕ) (seeds : List (Option ℕ)) (count : ℕ) : Type 0 where
  pub size : length seeds ≡ count
  pub each : (n : ℕ) (m : Msg) (s : Mention) (o : Option ℕ) → n < count → slice_get sent n ≡ Some (m, s) → slice_get seeds n ≡ Some o → IsWaiting places taken line m s o

abbrev pub first_label : MentionList → Option (Option ℕ) → Option Msg
first_label sent (Some (Some k)) = option_map (λ (p : Msg × Mention). p.0) (slice_get sent k)
first_label sent _ = None

-- the message of which the number is the label of the place on which another was sent
abbrev pub IsFirstBefore : List (Option ℕ) → MentionList → Msg → Option Msg → Type 0
IsFirstBefore labels sent later o =
    ((s : Mention) × IsThere later s sent × (o ≡ first_label sent (slice_get labels (s.first + s.args)))) ⊎ (IsAbsent later sent × (o ≡ None))

-- each place has the number of the first seed by rank that leads to it
pub record HasRanks (places : List Place) (sent taken : MentionList) (labels : List (Option ℕ)) : Type 0 where
  pub seeds : List (Option ℕ)
  pub ranked : IsRanked places sent taken seeds (length sent) (length taken)
  pub labels_are : HasFirstLabels places seeds labels

-- each place has the number of the first message that waits and leads to it
pub record HasWaiting (places : List Place) (sent taken : MentionList) (line : ℕ) (labels : List (Option ℕ)) : Type 0 where
  pub seeds : List (Option ℕ)
  pub waiting : AreWaiting places sent taken line seeds (length sent)
  pub labels_are : HasFirstLabels places seeds labels

-- the message is that of the first number that leads to the other
pub record IsFound (places : List Place) (sent taken : MentionList) (line : ℕ) (later : Msg) (o : Option Msg) : Type 0 where
  pub labels : List (Option ℕ)
  pub waiting : HasWaiting places sent taken line labels
  pub first : IsFirstBefore labels sent later o

-- the first line that takes too early by some labels
pub record IsEarliest (places : List Place) (sent taken : MentionList) (events : List Event) (o : Option (ℕ × Msg)) : Type 0 where
  pub labels : List (Option ℕ)
  pub ranks : HasRanks places sent taken labels
  pub early : IsFirstEarly labels sent taken events o
