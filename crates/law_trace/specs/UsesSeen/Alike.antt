-- Two histories whose uses are judged alike.
use Rattle.std.specs.Prelude.{ℕ, ◌↔◌, List, Option, None}
use Rattle.def_event.specs.declared.event.Event.{Event}
use Rattle.def_event.specs.Uses.{HoldsAt, JudgesUses, UsesKnown, BackKnown, TakesSent, CarriesSent}

-- Of each event of the one history holds what holds of that of the other, point by point, and one answer is the judgement of both.
pub record UsesAreSame (es fs : List Event) : Type 0 where
  pub known : (k : ℕ) → HoldsAt UsesKnown es k ↔ HoldsAt UsesKnown fs k
  pub given_back : (k : ℕ) → HoldsAt BackKnown es k ↔ HoldsAt BackKnown fs k
  pub taken : (k : ℕ) → HoldsAt (λ past l. TakesSent es past l.event) es k ↔ HoldsAt (λ past l. TakesSent fs past l.event) fs k
  pub carried : (k : ℕ) → HoldsAt (λ past l. CarriesSent past l.event) es k ↔ HoldsAt (λ past l. CarriesSent past l.event) fs k
  pub judged : (answer : Option ℕ) → JudgesUses es answer ↔ JudgesUses fs answer

-- Each event of the one history is as the four points say exactly if each of the other is, point by point, and both hold uses or neither does.
pub record HoldAlike (es fs : List Event) : Type 0 where
  pub known : ((k : ℕ) → HoldsAt UsesKnown es k) ↔ ((k : ℕ) → HoldsAt UsesKnown fs k)
  pub given_back : ((k : ℕ) → HoldsAt BackKnown es k) ↔ ((k : ℕ) → HoldsAt BackKnown fs k)
  pub taken : ((k : ℕ) → HoldsAt (λ past l. TakesSent es past l.event) es k) ↔ ((k : ℕ) → HoldsAt (λ past l. TakesSent fs past l.event) fs k)
  pub carried : ((k : ℕ) → HoldsAt (λ past l. CarriesSent past l.event) es k) ↔ ((k : ℕ) → HoldsAt (λ past l. CarriesSent past l.event) fs k)
  pub judged : JudgesUses es None ↔ JudgesUses fs None
