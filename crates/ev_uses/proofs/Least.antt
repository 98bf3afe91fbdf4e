-- The least of the first lines that fail is the first line that fails.
use Rattle.std.proofs.Common.{◌≡◌, ℕ, ◌<◌, ◌≤◌, arith, Bool, true, false, List, Option, Some, None, refl}
use Rattle.std.specs.Prelude.{◌↔◌, nat_lt, if◌then◌else◌}
use Rattle.std.proofs.lemmas.Bool.{ltb-true, ltb-false}
use Rattle.def_event.specs.declared.event.Event.{Event}
use Rattle.def_event.specs.Uses.{CarriesSent, HoldsAt, IsFirstFailing, JudgesUses, Line, LineHolds, TakesSent, line_after, lines_before}
use Rattle.ev_uses.specs.Using.{IsOfKnown}
use Rattle.ev_uses.specs.Earlier.{earlier}

module _ (P Q : List Line → Line → Type 0) (es : List Event) where
  -- both hold of a line
  abbrev Both : List Line → Line → Type 0
  Both past l = P past l × Q past l

  both_at : (k : ℕ) → HoldsAt P es k → HoldsAt Q es k → HoldsAt Both es k
  both_at k p q e get = (p e get, q e get)

  first_at : (k : ℕ) → HoldsAt Both es k → HoldsAt P es k
  first_at k h e get = (h e get).0

  second_at : (k : ℕ) → HoldsAt Both es k → HoldsAt Q es k
  second_at k h e get = (h e get).1

  lesser : (b : Bool) (x y : ℕ) → nat_lt x y ≡ b → IsFirstFailing P es (Some x) → IsFirstFailing Q es (Some y) → IsFirstFailing Both es (if b then Some x else Some y)
  lesser true x y e p q =
      let less : x < y = ltb-true x y e in
      (p.0, p.1, λ h. p.2 (first_at p.0 h), λ j lt. both_at j (p.3 j lt) (q.3 j (omega (arith, less, p.1, q.1, lt))))
  lesser false x y e p q =
      let most : y ≤ x = ltb-false x y e in
      (q.0, q.1, λ h. q.2 (second_at q.0 h), λ j lt. both_at j (p.3 j (omega (arith, most, p.1, q.1, lt))) (q.3 j lt))

  pub least : (a b : Option ℕ) → IsFirstFailing P es a → IsFirstFailing Q es b → IsFirstFailing Both es (earlier a b)
  least None None p q = λ k. both_at k (p k) (q k)
  least None (Some y) p q = (q.0, q.1, λ h. q.2 (second_at q.0 h), λ j lt. both_at j (p j) (q.3 j lt))
  least (Some x) None p q = (p.0, p.1, λ h. p.2 (first_at p.0 h), λ j lt. both_at j (p.3 j lt) (q j))
  least (Some x) (Some y) p q = lesser (nat_lt x y) x y refl p q

-- what says the same of each line fails first at the same line
module _ (P Q : List Line → Line → Type 0) (es : List Event) (same : (past : List Line) (l : Line) → P past l ↔ Q past l) where
  same_at : (k : ℕ) → HoldsAt P es k → HoldsAt Q es k
  same_at k h e get = (same (lines_before es k) (line_after (lines_before es k) e)).0 (h e get)

  back_at : (k : ℕ) → HoldsAt Q es k → HoldsAt P es k
  back_at k h e get = (same (lines_before es k) (line_after (lines_before es k) e)).1 (h e get)

  same_first : (a : Option ℕ) → IsFirstFailing P es a → IsFirstFailing Q es a
  same_first None p = λ k. same_at k (p k)
  same_first (Some x) p = (p.0, p.1, λ h. p.2 (back_at p.0 h), λ j lt. same_at j (p.3 j lt))

-- what is said of messages
abbrev OfMessages : List Event → List Line → Line → Type 0
OfMessages es past l = TakesSent es past l.event × CarriesSent past l.event

pub uses_judged : (es : List Event) (unknown changed unsent : Option ℕ) → IsFirstFailing IsOfKnown es unknown → IsFirstFailing (λ past l. TakesSent es past l.event) es changed
    → IsFirstFailing (λ past l. CarriesSent past l.event) es unsent → JudgesUses es (earlier unknown (earlier changed unsent))
unfolding IsOfKnown
uses_judged es unknown changed unsent u c s =
    same_first (λ past l. IsOfKnown past l × OfMessages es past l) (LineHolds es) es
    (λ past l. (λ h. (h.0.0, h.0.1, h.1.0, h.1.1), λ h. ((h.0, h.1), (h.2, h.3)))) (earlier unknown (earlier changed unsent))
    (least IsOfKnown (OfMessages es) es unknown (earlier changed unsent) u (least (λ past l. TakesSent es past l.event) (λ past l. CarriesSent past l.event) es changed unsent c s))
