-- Places that lead over, one after the other.
use Rattle.std.specs.Prelude.{◌≡◌, ◌<◌, ◌⊎◌, ◌+◌, ℕ, Bool, true, false, List, length, min, not, is_some, Option, Some, None, slice_get}
use Rattle.std.proofs.Common.{eqb, refl, arith, sym, ◌∙◌, ap, subst, ⊎_elim, inl, inr}
use Rattle.std.proofs.Math.ListN.{set, length-set}
use Rattle.std.proofs.lemmas.Option.{slice_get_within}
use Rattle.std.specs.Option.{option_eq}
use Rattle.std.proofs.lemmas.Bool.{eqb-true, eq-eqb}
use Rattle.std.proofs.lemmas.Bool.Decides.{eqb_tells}
use Rattle.def_event.specs.declared.reference.Reference.{Reference}
use Rattle.ev_order.specs.declared.mentions.Mention.{Mention}
use Rattle.ev_order.specs.declared.spread.Place.{Place}
use Rattle.ev_order.specs.Over.{IsReference, is_reference, HasOver, Joins, IsPair, IsJoin}
use Rattle.ev_order.proofs.Lists.{get_written, get_unwritten}

-- nothing changes where nothing is said, or where what is said leads somewhere
pub joins_none : (Said : ℕ → ℕ → Type 0) (places : List Place) → ((i j : ℕ) → Said i j → (k : ℕ) × HasOver places i k) → Joins Said places places
joins_none Said places done = record {
  same_length = refl;
  next = λ i p at. (p, at, refl);
  kept = λ i j h. h;
  said = λ i j h. inl h;
  done = done;
}

-- one after the other
pub joins_both : (First Second Both : ℕ → ℕ → Type 0) (old mid now : List Place) → Joins First old mid → Joins Second mid now → ((i j : ℕ) → First i j → Both i j) → ((i j : ℕ) → Second i j → Both i j) → ((i j : ℕ) → Both i j → First i j ⊎ Second i j) → Joins Both old now
joins_both First Second Both old mid now f s one two split = record {
  same_length = s.same_length ∙ f.same_length;
  next = λ i p at. let q = s.next i p at in let r = f.next i q.0 q.1 in (r.0, r.1, q.2 ∙ r.2);
  kept = λ i j h. s.kept i j (f.kept i j h);
  said = λ i j h. ⊎_elim
      (λ (m : HasOver mid i j). ⊎_elim (λ (o : HasOver old i j). inl o) (λ (a : First i j). inr (one i j a)) (f.said i j m))
      (λ (b : Second i j). inr (two i j b))
      (s.said i j h);
  done = λ i j h. ⊎_elim
      (λ (a : First i j). let k = f.done i j a in (k.0, s.kept i k.0 k.1))
      (λ (b : Second i j). s.done i j b)
      (split i j h);
}

-- the same said otherwise
pub joins_as : (Said Other : ℕ → ℕ → Type 0) (old now : List Place) → Joins Said old now → ((i j : ℕ) → Said i j → Other i j) → ((i j : ℕ) → Other i j → Said i j) → Joins Other old now
joins_as Said Other old now h to from = record {
  same_length = h.same_length;
  next = h.next;
  kept = h.kept;
  said = λ i j o. ⊎_elim (λ (a : HasOver old i j). inl a) (λ (b : Said i j). inr (to i j b)) (h.said i j o);
  done = λ i j o. h.done i j (from i j o);
}

-- a place that led nowhere leads over
pub joins_pair : (refs : List (Option Reference)) (from to : ℕ) (old : List Place) (p : Place) → slice_get old from ≡ Some p → p.over ≡ None → IsReference refs from → IsReference refs to
    → Joins (IsPair refs from to) old (set old from (record p { over = Some to }))
joins_pair refs from to old p at none here there = record {
  same_length = length-set old from (record p { over = Some to });
  next = λ i q h. ⊎_elim
      (λ (same : (_ : _) × (i ≡ from)).
      let two : Some q ≡ Some (record p { over = Some to }) = sym h ∙ ap (slice_get (set old from (record p { over = Some to }))) same.1 ∙ get_written old from (record p { over = Some to }) p at in
      let is : q ≡ record p { over = Some to } = cc in
      (p, ap (slice_get old) same.1 ∙ at, ap (λ (x : Place). x.next) is))
      (λ (other : (_ : _) × (i ≡ from → ⊥)). (q, sym (get_unwritten old from i (record p { over = Some to }) other.1) ∙ h, refl))
      (eqb_tells i from);
  kept = λ i j h. ⊎_elim
      (λ (same : (_ : _) × (i ≡ from)).
      let two : Some h.0 ≡ Some p = sym h.1 ∙ ap (slice_get old) same.1 ∙ at in
      let is : h.0 ≡ p = cc in
      let three : Some j ≡ None = sym h.2 ∙ ap (λ (x : Place). x.over) is ∙ none in
      cc)
      (λ (other : (_ : _) × (i ≡ from → ⊥)). (h.0, get_unwritten old from i (record p { over = Some to }) other.1 ∙ h.1, h.2))
      (eqb_tells i from);
  said = λ i j h. ⊎_elim
      (λ (same : (_ : _) × (i ≡ from)).
      let two : Some h.0 ≡ Some (record p { over = Some to }) = sym h.1 ∙ ap (slice_get (set old from (record p { over = Some to }))) same.1 ∙ get_written old from (record p { over = Some to }) p at in
      let is : h.0 ≡ record p { over = Some to } = cc in
      let three : Some j ≡ Some to = sym h.2 ∙ ap (λ (x : Place). x.over) is in
      let second : j ≡ to = cc in
      inr (record { first = same.1; second = second; here = subst (IsReference refs) (sym same.1) here; there = subst (IsReference refs) (sym second) there }))
      (λ (other : (_ : _) × (i ≡ from → ⊥)). inl (h.0, sym (get_unwritten old from i (record p { over = Some to }) other.1) ∙ h.1, h.2))
      (eqb_tells i from);
  done = λ i j h. (to, (record p { over = Some to }, ap (slice_get (set old from (record p { over = Some to }))) h.first ∙ get_written old from (record p { over = Some to }) p at, refl));
}

-- a reference stands within
pub reference_within : (refs : List (Option Reference)) (i : ℕ) → IsReference refs i → i < length refs
reference_within refs i h = cases (slice_get refs i) refl h
  where
    cases : (o : Option (Option Reference)) → slice_get refs i ≡ o → is_reference o ≡ true → i < length refs
    cases None e is = cc
    cases (Some r) e is = slice_get_within refs i r e

pub none_is : (o : Option ℕ) (r : Bool) → is_some o ≡ not r → r ≡ true → o ≡ None
none_is None r e h = refl
none_is (Some j) r e h = let two : true ≡ false = e ∙ ap not h in cc

pub some_is : (o : Option ℕ) (r : Bool) → is_some o ≡ not r → r ≡ false → (j : ℕ) × (o ≡ Some j)
some_is None r e h = let two : false ≡ true = e ∙ ap not h in cc
some_is (Some j) r e h = (j, refl)

-- ---- all arguments of a message

pub joins_start : (refs : List (Option Reference)) (sent carried : Mention) (places : List Place) → Joins (λ i j. (o : IsJoin refs sent carried i j) × (o.argument < 0)) places places
joins_start refs sent carried places = joins_none (λ i j. (o : IsJoin refs sent carried i j) × (o.argument < 0)) places (λ i j h. absurd (omega (arith, h.1)))

pub joins_next : (refs : List (Option Reference)) (sent carried : Mention) (k : ℕ) (old mid now : List Place) → sent.vat ≡ carried.vat → k < sent.args → k < carried.args
    → Joins (λ i j. (o : IsJoin refs sent carried i j) × (o.argument < k)) old mid → Joins (IsPair refs (sent.first + k) (carried.first + k)) mid now
    → Joins (λ i j. (o : IsJoin refs sent carried i j) × (o.argument < k + 1)) old now
joins_next refs sent carried k old mid now same in_sent in_carried f s =
    joins_both (λ i j. (o : IsJoin refs sent carried i j) × (o.argument < k)) (IsPair refs (sent.first + k) (carried.first + k)) (λ i j. (o : IsJoin refs sent carried i j) × (o.argument < k + 1)) old mid now f s
    (λ i j h. (h.0, omega (arith, h.1)))
    (λ i j h. (record { same_vat = same; argument = k; is_sent = in_sent; is_carried = in_carried; first = h.first; second = h.second; here = h.here; there = h.there }, omega arith))
    (λ i j h. ⊎_elim
    (λ (is : (_ : _) × (h.0.argument ≡ k)). inr (record { first = h.0.first ∙ ap (λ (a : ℕ). sent.first + a) is.1; second = h.0.second ∙ ap (λ (a : ℕ). carried.first + a) is.1; here = h.0.here; there = h.0.there }))
    (λ (other : (_ : _) × (h.0.argument ≡ k → ⊥)). inl (h.0, omega (arith, h.1, other.1)))
    (eqb_tells h.0.argument k))

pub joins_all : (refs : List (Option Reference)) (sent carried : Mention) (k : ℕ) (old now : List Place) → k ≡ min sent.args carried.args → Joins (λ i j. (o : IsJoin refs sent carried i j) × (o.argument < k)) old now → Joins (IsJoin refs sent carried) old now
joins_all refs sent carried k old now e h =
    joins_as (λ i j. (o : IsJoin refs sent carried i j) × (o.argument < k)) (IsJoin refs sent carried) old now h (λ i j o. o.0) (λ i j o. (o, omega (arith, e, o.is_sent, o.is_carried)))

pub joins_no_vat : (refs : List (Option Reference)) (sent carried : Mention) (places : List Place) → (sent.vat ≡ carried.vat → ⊥) → Joins (IsJoin refs sent carried) places places
joins_no_vat refs sent carried places apart = joins_none (IsJoin refs sent carried) places (λ i j o. absurd (apart o.same_vat))

-- ---- vats

vats_are : (a b : Option ℕ) → option_eq eqb a b ≡ true → a ≡ b
vats_are None None h = refl
vats_are (Some x) (Some y) h = ap Some (eqb-true x y h)
vats_are None (Some y) h = cc
vats_are (Some x) None h = cc

itself : (a : Option ℕ) → option_eq eqb a a ≡ true
itself None = refl
itself (Some x) = eq-eqb x x refl

pub one_vat : (a b : Option ℕ) (t : Bool) → t ≡ not (option_eq eqb a b) → t ≡ false → a ≡ b
one_vat a b t e h = vats_are a b (cases (option_eq eqb a b) (sym e ∙ h))
  where
    cases : (u : Bool) → not u ≡ false → u ≡ true
    cases true k = refl
    cases false k = absurd cc

pub two_vats : (a b : Option ℕ) (t : Bool) → t ≡ not (option_eq eqb a b) → t ≡ true → a ≡ b → ⊥
two_vats a b t e h same =
    let is : option_eq eqb a b ≡ true = subst (λ (x : Option ℕ). option_eq eqb a x ≡ true) same (itself a) in
    let no_way : true ≡ false = sym h ∙ e ∙ ap not is in
    cc
