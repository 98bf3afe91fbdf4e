-- The arguments of one message after the other lead over.
use Rattle.std.specs.Prelude.{◌≡◌, ◌<◌, ◌≤◌, ◌+◌, ℕ, List, length, Option, Some, None, slice_get}
use Rattle.std.proofs.Common.{refl, arith, sym, ◌∙◌, ap, subst, ⊎_elim, inl, inr}
use Rattle.std.proofs.lemmas.Option.{slice_get_within}
use Rattle.std.proofs.lemmas.Bool.Decides.{eqb_tells}
use Rattle.ev_base.specs.declared.names.Msg.{Msg}
use Rattle.def_event.specs.declared.reference.Reference.{Reference}
use Rattle.ev_order.specs.declared.mentions.Mention.{Mention}
use Rattle.ev_order.specs.declared.spread.Place.{Place}
use Rattle.ev_order.specs.Mentions.{MentionList, IsThere, IsAbsent}
use Rattle.ev_order.specs.Over.{Joins, IsJoin, IsJoined, AreSingle}
use Rattle.ev_order.proofs.Joining.{joins_none, joins_both, joins_as}

module _ (refs : List (Option Reference)) (sent carried : MentionList) where
  pub joins_no_message : (n : ℕ) (places : List Place) → slice_get sent n ≡ None → Joins (λ i j. (o : IsJoined refs sent carried i j) × (o.number ≡ n)) places places
  joins_no_message n places none = joins_none (λ i j. (o : IsJoined refs sent carried i j) × (o.number ≡ n)) places
      (λ i j h. let two : Some (h.0.message, h.0.send) ≡ None = sym h.0.at ∙ ap (slice_get sent) h.1 ∙ none in cc)

  pub joins_not_carried : (n : ℕ) (m : Msg) (s : Mention) (places : List Place) → slice_get sent n ≡ Some (m, s) → IsAbsent m carried → Joins (λ i j. (o : IsJoined refs sent carried i j) × (o.number ≡ n)) places places
  joins_not_carried n m s places at absent = joins_none (λ i j. (o : IsJoined refs sent carried i j) × (o.number ≡ n)) places
      (λ i j h.
      let two : Some (h.0.message, h.0.send) ≡ Some (m, s) = sym h.0.at ∙ ap (slice_get sent) h.1 ∙ at in
      let pair : (h.0.message, h.0.send) ≡ (m, s) = cc in
      let is : h.0.message ≡ m = ap (λ (p : Msg × Mention). p.0) pair in
      absurd (absent h.0.carry (subst (λ (x : Msg). IsThere x h.0.carry carried) is h.0.comes)))

  pub joins_message : (n : ℕ) (m : Msg) (s c : Mention) (old now : List Place) → AreSingle carried → slice_get sent n ≡ Some (m, s) → IsThere m c carried → Joins (IsJoin refs s c) old now → Joins (λ i j. (o : IsJoined refs sent carried i j) × (o.number ≡ n)) old now
  joins_message n m s c old now single at comes h = joins_as (IsJoin refs s c) (λ i j. (o : IsJoined refs sent carried i j) × (o.number ≡ n)) old now h
      (λ i j o. (record { number = n; message = m; send = s; carry = c; at = at; comes = comes; join = o }, refl))
      (λ i j o.
      let two : Some (o.0.message, o.0.send) ≡ Some (m, s) = sym o.0.at ∙ ap (slice_get sent) o.1 ∙ at in
      let pair : (o.0.message, o.0.send) ≡ (m, s) = cc in
      let is : o.0.message ≡ m = ap (λ (p : Msg × Mention). p.0) pair in
      let same : o.0.send ≡ s = ap (λ (p : Msg × Mention). p.1) pair in
      let carry : o.0.carry ≡ c = single m o.0.carry c (subst (λ (x : Msg). IsThere x o.0.carry carried) is o.0.comes) comes in
      subst (λ (x : Mention). IsJoin refs s x i j) carry (subst (λ (x : Mention). IsJoin refs x o.0.carry i j) same o.0.join))

  pub joins_first : (places : List Place) → Joins (λ i j. (o : IsJoined refs sent carried i j) × (o.number < 0)) places places
  joins_first places = joins_none (λ i j. (o : IsJoined refs sent carried i j) × (o.number < 0)) places (λ i j h. absurd (omega (arith, h.1)))

  pub joins_more : (n : ℕ) (old mid now : List Place) → Joins (λ i j. (o : IsJoined refs sent carried i j) × (o.number < n)) old mid → Joins (λ i j. (o : IsJoined refs sent carried i j) × (o.number ≡ n)) mid now → Joins (λ i j. (o : IsJoined refs sent carried i j) × (o.number < n + 1)) old now
  joins_more n old mid now f s = joins_both (λ i j. (o : IsJoined refs sent carried i j) × (o.number < n)) (λ i j. (o : IsJoined refs sent carried i j) × (o.number ≡ n)) (λ i j. (o : IsJoined refs sent carried i j) × (o.number < n + 1)) old mid now f s
      (λ i j h. (h.0, omega (arith, h.1)))
      (λ i j h. (h.0, omega (arith, h.1)))
      (λ i j h. ⊎_elim (λ (is : (_ : _) × (h.0.number ≡ n)). inr (h.0, is.1)) (λ (other : (_ : _) × (h.0.number ≡ n → ⊥)). inl (h.0, omega (arith, h.1, other.1))) (eqb_tells h.0.number n))

  pub joins_every : (n : ℕ) (old now : List Place) → length sent ≤ n → Joins (λ i j. (o : IsJoined refs sent carried i j) × (o.number < n)) old now → Joins (IsJoined refs sent carried) old now
  joins_every n old now past h = joins_as (λ i j. (o : IsJoined refs sent carried i j) × (o.number < n)) (IsJoined refs sent carried) old now h
      (λ i j o. o.0)
      (λ i j o. (o, omega (arith, past, slice_get_within sent o.number (o.message, o.send) o.at)))
