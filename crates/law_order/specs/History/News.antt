-- Messages that a vat numbers next are new to a history.
use Rattle.std.specs.Prelude.{◌≡◌, ℕ, zero, ◌≤◌, false, List, None}
use Rattle.def_machine.specs.Values.{Name, Sent}
use Rattle.def_run.specs.World.{Event}
use Rattle.law_order.specs.Ordering.Order.{comes}
use Rattle.law_order.specs.History.Lines.{was_sent, was_taken}

-- Message n of vat v
abbrev pub message : ℕ → ℕ → Name
message v n = Sent (record { sender = v; number = n })

-- No line tells of a message of vat v from that number on.
pub record IsNewFrom (es : List Event) (v k : ℕ) : Type 0 where
  pub unsent : (n : ℕ) → k ≤ n → was_sent (message v n) es ≡ false
  pub untaken : (n : ℕ) → k ≤ n → was_taken (message v n) es ≡ false
  pub uncome : (u n : ℕ) → k ≤ n → comes u (message v n) zero es ≡ None
