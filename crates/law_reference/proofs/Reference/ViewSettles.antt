-- A name that settles to what its view settled to is followed to no list to which it was not, so it closes no ring.
use Rattle.std.proofs.Common.{◌≡◌, ℕ, zero, suc, true, List, refl, sym, ap, ◌∙◌, ◌⊎◌, inl, inr, length}
use Rattle.def_machine.specs.Values.{Value, Items, Ref, Name, Naming}
use Rattle.def_machine.specs.State.{Standing, Viewed, Settled, Known, Settle, Vat, with_change, changed_to}
use Rattle.def_machine.specs.Refs.{standing_of, led, follow_at, follow, severed}
use Rattle.law_reference.specs.Reference.Lists.{NoListLeadsBack, IsEnd, IsTested, ViewSettled, IsBehind}
use Rattle.law_reference.proofs.Reference.Following.{name_list, stands_or, Moves, severed_list, list_severed}
use Rattle.law_reference.proofs.Reference.ListRings.{moves_by, settle_closes_none, plain_closes_none}
use Rattle.law_reference.proofs.Reference.FarEnough.{follows_within, fewer_close_none}

module _ (K : Naming Name Name) (is : (a b : Name) → K.same a b ≡ true → a ≡ b) where
  module _ (ks ls : List (Known Name)) (p g : Name) (y : Value Name) (moves : Moves K ks ls p (Settled y)) (view : standing_of K ks p ≡ Viewed g) (settled : standing_of K ks g ≡ Settled y) (k : ℕ) where
    -- it is followed to that list, in some number of steps
    abbrev Comes : Value Name → Type 0
    Comes v = (e : ℕ) × (follow_at K e ks v ≡ Items k)

    on_led : (n : Name) (t : Standing Name) (d : ℕ) → standing_of K ks n ≡ t → ((z : Value Name) → follow_at K d ls z ≡ Items k → Comes z) → led K (λ z. follow_at K d ls z) n t ≡ Items k → Comes (Ref n)
    unfolding follow_at led
    on_led n (Settled z) d i f e = let at = f z e in (suc at.0, ap (λ t. led K (λ x. follow_at K at.0 ks x) n t) i ∙ at.1)
    on_led n (Viewed q) d i f e = let at = f (Ref q) e in (suc at.0, ap (λ t. led K (λ x. follow_at K at.0 ks x) n t) i ∙ at.1)
    on_led n other d i f e = absurd (name_list n k e)

    by_view : Comes y → Comes (Ref p)
    unfolding follow_at led
    by_view at = (suc (suc at.0), ap (λ t. led K (λ x. follow_at K (suc at.0) ks x) p t) view ∙ ap (λ t. led K (λ x. follow_at K at.0 ks x) g t) settled ∙ at.1)

    at_name : (d : ℕ) (n : Name) → ((z : Value Name) → follow_at K d ls z ≡ Items k → Comes z) → (standing_of K ls n ≡ standing_of K ks n) ⊎ ((n ≡ p) × (standing_of K ls n ≡ Settled y)) → led K (λ z. follow_at K d ls z) n (standing_of K ls n) ≡ Items k → Comes (Ref n)
    unfolding led
    at_name d n f (inl i) e = on_led n (standing_of K ks n) d refl f (sym (ap (λ t. led K (λ z. follow_at K d ls z) n t) i) ∙ e)
    at_name d n f (inr i) e = let at = by_view (f y (sym (ap (λ t. led K (λ z. follow_at K d ls z) n t) i.1) ∙ e)) in (at.0, ap (λ m. follow_at K at.0 ks (Ref m)) i.0 ∙ at.1)

    comes : (d : ℕ) (v : Value Name) → follow_at K d ls v ≡ Items k → Comes v
    unfolding follow_at
    comes zero v e = (zero, e)
    comes (suc d) (Ref n) e = at_name d n (λ z i. comes d z i) (moves n) e
    comes (suc d) other e = (zero, e)

  same_followed : (s : Vat Name) (ls : List (Known Name)) (v : Value Name) (k : ℕ) → ((d : ℕ) → follow_at K d ls v ≡ Items k → (e : ℕ) × (follow_at K e s.known v ≡ Items k)) → follow K (record s { known = ls }) v ≡ Items k → follow K s v ≡ Items k
  unfolding follow
  same_followed s ls v k f e = let at = f (suc (length ls)) (severed_list K (record s { known = ls }) (follow_at K (suc (length ls)) ls v) k e) in
      ap (severed K s) (follows_within K is s.known k at.0 v at.1) ∙ list_severed K s k

  pub view_closes_none : (s : Vat Name) (p g : Name) (y : Value Name) → standing_of K s.known p ≡ Viewed g → standing_of K s.known g ≡ Settled y → NoListLeadsBack K s → NoListLeadsBack K (record s { known = with_change K (Settle y) p s.known })
  unfolding changed_to
  view_closes_none s p g y view settled = let ls : List (Known Name) = with_change K (Settle y) p s.known in let moves : Moves K s.known ls p (Settled y) = moves_by K is (Settle y) p s.known (Settled y) (λ k e. stands_or (Settle y) k (Settled y) refl) in
      fewer_close_none K is s (record s { known = ls }) refl (λ v k. same_followed s ls v k (λ d. comes s.known ls p g y moves view settled k d v))

  -- ---- a name that settles

  pub list_or : {A : Type 0} (y : Value Name) → ((c : ℕ) → y ≡ Items c → A) → (((c : ℕ) → y ≡ Items c → ⊥) → A) → A
  list_or (Items c) f g = f c refl
  list_or other f g = g (λ c e. cc)

  either_closes_none : (s : Vat Name) (y : Value Name) (p : Name) → IsEnd K s y → IsTested K s y p ⊎ ViewSettled K s y p → NoListLeadsBack K s → NoListLeadsBack K (record s { known = with_change K (Settle y) p s.known })
  either_closes_none s y p ends (inl h) none = settle_closes_none K is s y p ends h none
  either_closes_none s y p ends (inr h) none = view_closes_none s p h.0 y h.1 h.2 none

  pub settle_keeps_none : (s : Vat Name) (y : Value Name) (p : Name) → IsBehind K s (Settle y) p → NoListLeadsBack K s → NoListLeadsBack K (record s { known = with_change K (Settle y) p s.known })
  settle_keeps_none s y p h none = list_or y (λ c e. either_closes_none s y p h.0 (h.1 c e) none) (λ not. plain_closes_none K is s y p h.0 not none)
