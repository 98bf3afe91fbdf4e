-- The places of a trace and what they lead to.
use Rattle.std.specs.Prelude.{◌≡◌, ◌+◌, ◌<◌, ℕ, List, length, take, Option, Some, None}
use Rattle.def_event.specs.declared.event.Event.{Event}
use Rattle.def_event.specs.declared.reference.Reference.{Reference}
use Rattle.def_event.specs.Order.{Sending, Carrying, IsSent, IsCarried, vat_at}
use Rattle.ev_order.specs.declared.spread.Place.{Place}
use Rattle.ev_order.specs.Chains.{IsLinked}
use Rattle.ev_order.specs.Over.{IsReference, HasOver}
use Rattle.ev_order.specs.Walk.{all_references}

-- the number of the first place of line i
abbrev pub start : List Event → ℕ → ℕ
start lines i = length (all_references None (take i lines))

-- Place i is that of an argument of a message where it is first sent, and place j that of the same argument where it is first carried, from that vat.
pub record IsPassed (lines : List Event) (refs : List (Option Reference)) (i j : ℕ) : Type 0 where
  pub sent : ℕ
  pub carried : ℕ
  pub send : Sending
  pub carry : Carrying
  pub is_sent : IsSent lines sent send
  pub is_carried : IsCarried lines carried carry
  pub same : carry.message ≡ send.message
  pub leaves : vat_at lines sent ≡ Some carry.leaves
  pub argument : ℕ
  pub in_send : argument < length send.args
  pub in_carry : argument < length carry.args
  pub first : i ≡ start lines sent + argument
  pub second : j ≡ start lines carried + argument
  pub here : IsReference refs i
  pub there : IsReference refs j

-- Each place leads to the next one with its reference, and that of a passed argument over to where it comes.
pub record IsGraph (lines : List Event) (places : List Place) : Type 0 where
  pub linked : IsLinked (all_references None lines) places
  pub over : (i j : ℕ) → HasOver places i j → IsPassed lines (all_references None lines) i j
  pub all_over : (i j : ℕ) → IsPassed lines (all_references None lines) i j → HasOver places i j
