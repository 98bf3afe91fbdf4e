-- What lines say of the order of messages, gathered line by line.
use Rattle.std.specs.Prelude.{◌≡◌, ◌<◌, ℕ, List, [], ◌∷◌, ◌++◌, length, map, take, Option, Some, None, slice_get}
use Rattle.ev_base.specs.declared.names.Msg.{Msg}
use Rattle.def_event.specs.declared.event.Event.{Event}
use Rattle.def_event.specs.declared.reference.Reference.{Reference}
use Rattle.def_event.specs.Order.{Sending, Carrying, Taking, sending, carrying, taking, vat_behind, vat_after, DoesAt, IsFirst}
use Rattle.ev_order.specs.declared.mentions.Mention.{Mention}
use Rattle.ev_order.specs.Mentions.{MentionList, IsThere, IsAdded}
use Rattle.ev_order.specs.Chains.{Chain, IsChain, reference}

pub record Walked : Type 0 where
  pub here : Option ℕ
  pub chain : Chain
  pub sent : MentionList
  pub carried : MentionList
  pub taken : MentionList

-- no line was walked
pub record started (w : Walked) : Type 0 where
  pub here : w.here ≡ None
  pub references : w.chain.references ≡ []
  pub sent : w.sent ≡ []
  pub carried : w.carried ≡ []
  pub taken : w.taken ≡ []

-- ---- the references of a line, each at its place: the arguments of a message, and behind them what it is sent on

abbrev pub sent_references : Option ℕ → Sending → List (Option Reference)
sent_references here s = map (reference here) s.args ++ reference here s.target ∷ []

abbrev pub carried_references : Carrying → List (Option Reference)
carried_references c = map (reference (Some c.reaches)) c.args

-- ---- what a line adds

-- references, and mentions of messages that are sent, carried and taken, each by the number of the line and of its first place
pub record Deed : Type 0 where
  pub references : List (Option Reference)
  pub sent : Option (Msg × (ℕ → ℕ → Mention))
  pub carried : Option (Msg × (ℕ → ℕ → Mention))
  pub taken : Option (Msg × (ℕ → ℕ → Mention))

abbrev pub does_nothing : Deed
does_nothing = record { references = []; sent = None; carried = None; taken = None }

abbrev pub does_send : Option ℕ → Sending → Deed
does_send here s = record {
  references = sent_references here s;
  sent = Some (s.message, λ line first. record { line = line; first = first; args = length s.args; vat = here });
  carried = None;
  taken = None;
}

abbrev pub does_carry : Carrying → Deed
does_carry c = record {
  references = carried_references c;
  sent = None;
  carried = Some (c.message, λ line first. record { line = line; first = first; args = length c.args; vat = Some c.leaves });
  taken = None;
}

abbrev pub does_take : Taking → Deed
does_take t = record {
  references = [];
  sent = None;
  carried = None;
  taken = Some (t.message, λ line first. record { line = line; first = 0; args = 0; vat = None });
}

abbrev pub carries_of : Option Carrying → Deed
carries_of None = does_nothing
carries_of (Some c) = does_carry c

abbrev pub takes_of : Option Taking → Deed
takes_of None = does_nothing
takes_of (Some t) = does_take t

-- a line sends, carries or takes, or none of these
abbrev pub deed_by : Option ℕ → Option Sending → Option Carrying → Option Taking → Deed
deed_by here (Some s) c t = does_send here s
deed_by here None (Some c) t = does_carry c
deed_by here None None t = takes_of t

abbrev pub deed_of : Option ℕ → Event → Deed
deed_of here e = deed_by here (sending e) (carrying e) (taking e)

abbrev pub IsMentioned : ℕ → ℕ → Option (Msg × (ℕ → ℕ → Mention)) → MentionList → MentionList → Type 0
IsMentioned line first None old now = now ≡ old
IsMentioned line first (Some m) old now = IsAdded m.0 (m.1 line first) old now

-- this is added, and the vat stays
pub record Does (line : ℕ) (d : Deed) (old now : Walked) : Type 0 where
  pub here : now.here ≡ old.here
  pub chain : IsChain now.chain
  pub references : now.chain.references ≡ old.chain.references ++ d.references
  pub sent : IsMentioned line (length old.chain.references) d.sent old.sent now.sent
  pub carried : IsMentioned line (length old.chain.references) d.carried old.carried now.carried
  pub taken : IsMentioned line (length old.chain.references) d.taken old.taken now.taken

-- what a line does is added, and the vat is that of the lines behind it
pub record Steps (line : ℕ) (e : Event) (old now : Walked) : Type 0 where
  pub between : Walked
  pub does : Does line (deed_of old.here e) old between
  pub moves : now ≡ record between { here = vat_behind old.here e }

-- ---- what all lines add

-- the references of the places of a line
abbrev pub line_references : Option ℕ → Event → List (Option Reference)
line_references here e = (deed_of here e).references

-- of all lines, behind lines of this vat
abbrev pub all_references : Option ℕ → List Event → List (Option Reference)
all_references here [] = []
all_references here (e ∷ es) = line_references here e ++ all_references (vat_behind here e) es

-- the mention of a message by the lines before its line
abbrev pub sent_mention : List Event → Sending → Mention
sent_mention before s = record { line = length before; first = length (all_references None before); args = length s.args; vat = vat_after None before }

abbrev pub carried_mention : List Event → Carrying → Mention
carried_mention before c = record { line = length before; first = length (all_references None before); args = length c.args; vat = Some c.leaves }

abbrev pub taken_mention : List Event → Taking → Mention
taken_mention before t = record { line = length before; first = 0; args = 0; vat = None }

-- the mention is that of the first line that does that with the message
pub record IsNoted {A : Type 0} (does : Event → Option A) (message : A → Msg) (mention : List Event → A → Mention) (lines : List Event) (m : Msg) (s : Mention) : Type 0 where
  pub what : A
  pub first : IsFirst does message lines s.line what
  pub message_is : message what ≡ m
  pub mention_is : s ≡ mention (take s.line lines) what

-- The list has the first mention of each message, in the order of the lines.
pub record HoldsFirst {A : Type 0} (does : Event → Option A) (message : A → Msg) (mention : List Event → A → Mention) (lines : List Event) (list : MentionList) : Type 0 where
  pub noted : (n : ℕ) (m : Msg) (s : Mention) → slice_get list n ≡ Some (m, s) → IsNoted does message mention lines m s
  pub all : (i : ℕ) (a : A) → DoesAt does lines i a → (s : Mention) × IsThere (message a) s list
  pub ascending : (n k : ℕ) (m l : Msg) (s t : Mention) → n < k → slice_get list n ≡ Some (m, s) → slice_get list k ≡ Some (l, t) → s.line < t.line

abbrev pub HoldsSent : List Event → MentionList → Type 0
HoldsSent lines list = HoldsFirst sending (λ (s : Sending). s.message) sent_mention lines list

abbrev pub HoldsCarried : List Event → MentionList → Type 0
HoldsCarried lines list = HoldsFirst carrying (λ (c : Carrying). c.message) carried_mention lines list

abbrev pub HoldsTaken : List Event → MentionList → Type 0
HoldsTaken lines list = HoldsFirst taking (λ (t : Taking). t.message) taken_mention lines list

-- what all these lines say
pub record IsWalked (lines : List Event) (w : Walked) : Type 0 where
  pub here : w.here ≡ vat_after None lines
  pub chain : IsChain w.chain
  pub references : w.chain.references ≡ all_references None lines
  pub sent : HoldsSent lines w.sent
  pub carried : HoldsCarried lines w.carried
  pub taken : HoldsTaken lines w.taken
