-- One place more in a chain.
use Rattle.std.specs.Prelude.{◌≡◌, ◌<◌, ◌≤◌, ◌⊎◌, ◌+◌, ℕ, List, [], ◌∷◌, ◌++◌, length, Option, Some, None, MatchOption, slice_get}
use Rattle.std.proofs.Common.{refl, arith, sym, ◌∙◌, ap, subst, ⊎_elim, inl, inr}
use Rattle.std.proofs.Math.ListN.{set, length-set}
use Rattle.std.proofs.lemmas.List.{length-append}
use Rattle.std.proofs.lemmas.Option.{slice_get_within, slice_get-get_or}
use Rattle.std.proofs.lemmas.Bool.{cases_lt}
use Rattle.std.proofs.lemmas.Bool.Decides.{eqb_tells}
use Rattle.def_event.specs.declared.reference.Reference.{Reference}
use Rattle.ev_order.specs.declared.spread.Place.{Place}
use Rattle.ev_order.specs.Last.{LastList, IsLast, HasNone, Sets}
use Rattle.ev_order.specs.Chains.{Chain, HasReference, HasNext, IsChain, linked, linked_at, LinksLast}
use Rattle.ev_order.proofs.Lists.{get_written, get_unwritten, get_front, get_end, get_either}
use Rattle.ev_order.proofs.Same.{apart_or_one, found_last}

abbrev no_place : Place
no_place = record { next = None; over = None }

-- the first entry counts alone
one_last : (r : Reference) (es : LastList) (i j : ℕ) → IsLast r i es → IsLast r j es → i ≡ j
one_last r es i j h k = let e : Some i ≡ Some j = sym (found_last r es i h) ∙ found_last r es j k in cc

-- what is read of the places once place l leads to place n and one comes behind
record Grown (o : Option ℕ) (n : ℕ) (old now : List Place) : Type 0 where
  pub same_length : length now ≡ length old + 1
  pub here : (l : ℕ) → o ≡ Some l → l < length old → HasNext now l n
  pub others : (i : ℕ) (p : Place) → (o ≡ Some i → ⊥) → slice_get old i ≡ Some p → slice_get now i ≡ Some p
  pub only : (i : ℕ) (p : Place) → slice_get now i ≡ Some p → (p ≡ no_place) ⊎ (((o ≡ Some i) × (q : Place) × (slice_get old i ≡ Some q) × (p ≡ record q { next = Some n })) ⊎ (slice_get old i ≡ Some p))

grown_none : (n : ℕ) (old : List Place) → Grown None n old (old ++ no_place ∷ [])
grown_none n old = record {
  same_length = length-append old (no_place ∷ []);
  here = λ l e inside. cc;
  others = λ i p apart h. get_front old (no_place ∷ []) i p h;
  only = λ i p h. ⊎_elim (λ (there : slice_get old i ≡ Some p). inr (inr there)) (λ (new : (i ≡ length old) × (p ≡ no_place)). inl new.1) (get_either old no_place i p h);
}

grown_set : (l n : ℕ) (q : Place) (old : List Place) → slice_get old l ≡ Some q → Grown (Some l) n old (set old l (record q { next = Some n }) ++ no_place ∷ [])
grown_set l n q old at = record {
  same_length = length-append (set old l (record q { next = Some n })) (no_place ∷ []) ∙ ap (λ (k : ℕ). k + 1) (length-set old l (record q { next = Some n }));
  here = λ k e inside.
      let same : l ≡ k = cc in
      subst (λ (x : ℕ). HasNext (set old l (record q { next = Some n }) ++ no_place ∷ []) x n) same
      (record q { next = Some n }, get_front (set old l (record q { next = Some n })) (no_place ∷ []) l (record q { next = Some n }) (get_written old l (record q { next = Some n }) q at), refl);
  others = λ i p apart h. get_front (set old l (record q { next = Some n })) (no_place ∷ []) i p (get_unwritten old l i (record q { next = Some n }) (λ e. apart (ap Some (sym e))) ∙ h);
  only = λ i p h. ⊎_elim
      (λ (there : slice_get (set old l (record q { next = Some n })) i ≡ Some p). ⊎_elim
      (λ (same : (_ : _) × (i ≡ l)).
      let two : Some p ≡ Some (record q { next = Some n }) = sym there ∙ ap (slice_get (set old l (record q { next = Some n }))) same.1 ∙ get_written old l (record q { next = Some n }) q at in
      inr (inl (ap Some (sym same.1), q, ap (slice_get old) same.1 ∙ at, cc)))
      (λ (other : (_ : _) × (i ≡ l → ⊥)). inr (inr (sym (get_unwritten old l i (record q { next = Some n }) other.1) ∙ there)))
      (eqb_tells i l))
      (λ (new : (i ≡ length (set old l (record q { next = Some n }))) × (p ≡ no_place)). inl new.1)
      (get_either (set old l (record q { next = Some n })) no_place i p h);
}

grown_at : (l n : ℕ) (old : List Place) (o : Option Place) → slice_get old l ≡ o → l < length old → Grown (Some l) n old (linked_at o l n old ++ no_place ∷ [])
grown_at l n old None e inside = let two : Some _ ≡ None = sym (slice_get-get_or old l no_place inside) ∙ e in cc
grown_at l n old (Some q) e inside = grown_set l n q old e

-- ---- a value that is no reference

-- what it reads of references
old_reference : (refs : List (Option Reference)) (i : ℕ) (q : Reference) → HasReference (refs ++ None ∷ []) i q → HasReference refs i q
old_reference refs i q h = ⊎_elim (λ (there : HasReference refs i q). there) (λ (new : (i ≡ length refs) × (Some q ≡ None)). let e = new.1 in cc) (get_either refs None i (Some q) h)

same_next : (places now : List Place) (n i j : ℕ) → Grown None n places now → HasNext now i j → HasNext places i j
same_next places now n i j g h = ⊎_elim
    (λ (new : h.0 ≡ no_place). let two : Some j ≡ None = sym h.2 ∙ ap (λ (p : Place). p.next) new in cc)
    (λ (old : ((None ≡ Some i) × (q : Place) × (slice_get places i ≡ Some q) × (h.0 ≡ record q { next = Some n })) ⊎ (slice_get places i ≡ Some h.0)). ⊎_elim
    (λ (last : (None ≡ Some i) × (q : Place) × (slice_get places i ≡ Some q) × (h.0 ≡ record q { next = Some n })). let e = last.0 in cc)
    (λ (there : slice_get places i ≡ Some h.0). (h.0, there, h.2))
    old)
    (g.only i h.0 h.1)

kept_next : (o : Option ℕ) (places now : List Place) (n i j : ℕ) → Grown o n places now → (o ≡ Some i → ⊥) → HasNext places i j → HasNext now i j
kept_next o places now n i j g apart h = (h.0, g.others i h.0 apart h.1, h.2)

chains_none : (c : Chain) → IsChain c → (now : List Place) → Grown None (length c.references) c.places now → IsChain (record { places = now; references = c.references ++ None ∷ []; last = c.last })
chains_none c h now g = record {
  linked = record {
    same_length = g.same_length ∙ ap (λ (k : ℕ). k + 1) h.linked.same_length ∙ sym (length-append c.references (None ∷ []));
    next = λ i j at.
        let old = h.linked.next i j (same_next c.places now (length c.references) i j g at) in
        (old.0, (old.1.0, get_front c.references (None ∷ []) i (Some old.1.0) old.1.1, get_front c.references (None ∷ []) j (Some old.1.0) old.1.2));
    nearest = λ i k q less hi hk.
        let old = h.linked.nearest i k q less (old_reference c.references i q hi) (old_reference c.references k q hk) in
        (old.0, old.1, kept_next None c.places now (length c.references) i old.0 g (λ e. cc) old.2);
  };
  no_over = λ i p at. ⊎_elim
      (λ (new : p ≡ no_place). ap (λ (q : Place). q.over) new)
      (λ (old : ((None ≡ Some i) × (q : Place) × (slice_get c.places i ≡ Some q) × (p ≡ record q { next = Some (length c.references) })) ⊎ (slice_get c.places i ≡ Some p)). ⊎_elim
      (λ (last : (None ≡ Some i) × (q : Place) × (slice_get c.places i ≡ Some q) × (p ≡ record q { next = Some (length c.references) })). let e = last.0 in cc)
      (λ (there : slice_get c.places i ≡ Some p). h.no_over i p there)
      old)
      (g.only i p at);
  there = λ r i last. get_front c.references (None ∷ []) i (Some r) (h.there r i last);
  last_one = λ r k at. h.last_one r k (old_reference c.references k r at);
}

-- ---- a reference

-- what is read of references
either_reference : (refs : List (Option Reference)) (r : Reference) (i : ℕ) (q : Reference) → HasReference (refs ++ Some r ∷ []) i q → HasReference refs i q ⊎ ((i ≡ length refs) × (q ≡ r))
either_reference refs r i q h = ⊎_elim (λ (there : HasReference refs i q). inl there) (λ (new : (i ≡ length refs) × (Some q ≡ Some r)). let e = new.1 in inr (new.0, cc)) (get_either refs (Some r) i (Some q) h)

module _ (c : Chain) (h : IsChain c) (r : Reference) (found : Option ℕ) (now : List Place) (after : LastList)
    (is_last : MatchOption found (HasNone r c.last) (λ i. IsLast r i c.last)) (s : Sets r (length c.references) c.last after) (g : Grown found (length c.references) c.places now) where
  is_last_at : (i : ℕ) → found ≡ Some i → IsLast r i c.last
  is_last_at i e = subst (λ (f : Option ℕ). MatchOption f (HasNone r c.last) (λ i. IsLast r i c.last)) e is_last

  -- the last place is found
  finds : (o : Option ℕ) → found ≡ o → (i : ℕ) → IsLast r i c.last → found ≡ Some i
  finds None e i at = absurd (subst (λ (f : Option ℕ). MatchOption f (HasNone r c.last) (λ i. IsLast r i c.last)) e is_last i at)
  finds (Some j) e i at = e ∙ ap Some (one_last r c.last j i (is_last_at j e) at)

  all : List (Option Reference)
  all = c.references ++ Some r ∷ []

  front : (i : ℕ) (q : Reference) → HasReference c.references i q → HasReference all i q
  unfolding all
  front i q at = get_front c.references (Some r ∷ []) i (Some q) at

  next_is : (i j : ℕ) → HasNext now i j → (i < j) × ((q : Reference) × HasReference all i q × HasReference all j q)
  unfolding all
  next_is i j at = ⊎_elim
      (λ (new : at.0 ≡ no_place). let two : Some j ≡ None = sym at.2 ∙ ap (λ (p : Place). p.next) new in cc)
      (λ (old : ((found ≡ Some i) × (q : Place) × (slice_get c.places i ≡ Some q) × (at.0 ≡ record q { next = Some (length c.references) })) ⊎ (slice_get c.places i ≡ Some at.0)). ⊎_elim
      (λ (last : (found ≡ Some i) × (q : Place) × (slice_get c.places i ≡ Some q) × (at.0 ≡ record q { next = Some (length c.references) })).
      let two : Some j ≡ Some (length c.references) = sym at.2 ∙ ap (λ (p : Place). p.next) last.3 in
      let is : j ≡ length c.references = cc in
      let here = h.there r i (is_last_at i last.0) in
      (omega (arith, is, slice_get_within c.references i (Some r) here), (r, front i r here, ap (slice_get all) is ∙ get_end c.references (Some r))))
      (λ (there : slice_get c.places i ≡ Some at.0).
      let k = h.linked.next i j (at.0, there, at.2) in
      (k.0, (k.1.0, front i k.1.0 k.1.1, front j k.1.0 k.1.2)))
      old)
      (g.only i at.0 at.1)

  -- the last place of the reference leads to the new one, and what stands before it leads to what it led to
  nearest_new : (i l : ℕ) → HasReference c.references i r → IsLast r l c.last → i ≤ l → (j : ℕ) × (j ≤ length c.references) × HasNext now i j
  nearest_new i l at last le = ⊎_elim
      (λ (less : i < l).
      let old = h.linked.nearest i l r less at (h.there r l last) in (
        old.0,
        omega (arith, old.1, slice_get_within c.references l (Some r) (h.there r l last)),
        kept_next found c.places now (length c.references) i old.0 g (λ e. let same = one_last r c.last i l (is_last_at i e) last in absurd (omega (arith, same, less))) old.2,
      ))
      (λ (more : l ≤ i).
      let same : l ≡ i = omega (arith, le, more) in
      (length c.references, omega arith, g.here i (finds found refl l last ∙ ap Some same) (omega (arith, slice_get_within c.references i (Some r) at, h.linked.same_length))))
      (cases_lt i l)

  nearest_is : (i k : ℕ) (q : Reference) → i < k → HasReference all i q → HasReference all k q → (j : ℕ) × (j ≤ k) × HasNext now i j
  unfolding all
  nearest_is i k q less hi hk = ⊎_elim
      (λ (old_k : HasReference c.references k q). ⊎_elim
      (λ (old_i : HasReference c.references i q).
      let old = h.linked.nearest i k q less old_i old_k in (
        old.0,
        old.1,
        kept_next found c.places now (length c.references) i old.0 g
            (λ e.
            let last = is_last_at i e in
            let two : Some (Some q) ≡ Some (Some r) = sym old_i ∙ h.there r i last in
            let is : q ≡ r = cc in
            let later = h.last_one r k (subst (HasReference c.references k) is old_k) in
            let same = one_last r c.last i later.0 last later.2 in
            absurd (omega (arith, same, later.1, less)))
            old.2,
      ))
      (λ (new_i : (i ≡ length c.references) × (q ≡ r)). absurd (omega (arith, new_i.0, less, slice_get_within c.references k (Some q) old_k)))
      (either_reference c.references r i q hi))
      (λ (new_k : (k ≡ length c.references) × (q ≡ r)). ⊎_elim
      (λ (old_i : HasReference c.references i q).
      let at = subst (HasReference c.references i) new_k.1 old_i in
      let last = h.last_one r i at in
      let old = nearest_new i last.0 at last.2 last.1 in
      (old.0, omega (arith, old.1, new_k.0), old.2))
      (λ (new_i : (i ≡ length c.references) × (q ≡ r)). absurd (omega (arith, new_i.0, new_k.0, less)))
      (either_reference c.references r i q hi))
      (either_reference c.references r k q hk)

  no_over_is : (i : ℕ) (p : Place) → slice_get now i ≡ Some p → p.over ≡ None
  no_over_is i p at = ⊎_elim
      (λ (new : p ≡ no_place). ap (λ (q : Place). q.over) new)
      (λ (old : ((found ≡ Some i) × (q : Place) × (slice_get c.places i ≡ Some q) × (p ≡ record q { next = Some (length c.references) })) ⊎ (slice_get c.places i ≡ Some p)). ⊎_elim
      (λ (last : (found ≡ Some i) × (q : Place) × (slice_get c.places i ≡ Some q) × (p ≡ record q { next = Some (length c.references) })). ap (λ (x : Place). x.over) last.3 ∙ h.no_over i last.1 last.2)
      (λ (there : slice_get c.places i ≡ Some p). h.no_over i p there)
      old)
      (g.only i p at)

  there_is : (q : Reference) (i : ℕ) → (q ≡ r → ⊥) ⊎ (q ≡ r) → IsLast q i after → HasReference all i q
  unfolding all
  there_is q i (inl apart) last = front i q (h.there q i (s.only q i apart last))
  there_is q i (inr is) last =
      let here = one_last r after i (length c.references) (subst (λ (x : Reference). IsLast x i after) is last) s.set in
      ap (slice_get all) here ∙ get_end c.references (Some r) ∙ ap (λ (x : Reference). Some (Some x)) (sym is)

  last_is : (q : Reference) (k : ℕ) → (q ≡ r → ⊥) ⊎ (q ≡ r) → HasReference all k q → (i : ℕ) × (k ≤ i) × IsLast q i after
  unfolding all
  last_is q k (inl apart) at = ⊎_elim
      (λ (old : HasReference c.references k q). let last = h.last_one q k old in (last.0, last.1, s.kept q last.0 apart last.2))
      (λ (new : (k ≡ length c.references) × (q ≡ r)). absurd (apart new.1))
      (either_reference c.references r k q at)
  last_is q k (inr is) at = (
    length c.references,
    ⊎_elim
        (λ (old : HasReference c.references k q). omega (arith, slice_get_within c.references k (Some q) old))
        (λ (new : (k ≡ length c.references) × (q ≡ r)). omega (arith, new.0))
        (either_reference c.references r k q at),
    subst (λ (x : Reference). IsLast x (length c.references) after) (sym is) s.set,
  )

  chains_some : IsChain (record { places = now; references = c.references ++ Some r ∷ []; last = after })
  unfolding all
  chains_some = record {
    linked = record {
      same_length = g.same_length ∙ ap (λ (k : ℕ). k + 1) h.linked.same_length ∙ sym (length-append c.references (Some r ∷ []));
      next = next_is;
      nearest = nearest_is;
    };
    no_over = no_over_is;
    there = λ q i last. there_is q i (apart_or_one q r) last;
    last_one = λ q k at. last_is q k (apart_or_one q r) at;
  }

-- ---- any value

grown_found : (c : Chain) → IsChain c → (r : Reference) (found : Option ℕ) → MatchOption found (HasNone r c.last) (λ i. IsLast r i c.last) → Grown found (length c.references) c.places (linked found (length c.references) c.places ++ no_place ∷ [])
grown_found c h r None is = grown_none (length c.references) c.places
grown_found c h r (Some l) is = grown_at l (length c.references) c.places (slice_get c.places l) refl (omega (arith, slice_get_within c.references l (Some r) (h.there r l is), h.linked.same_length))

pub grows : (c : Chain) → IsChain c → (o : Option Reference) (now : List Place) (after : LastList) → LinksLast o (length c.references) c.places now c.last after
    → IsChain (record { places = now ++ no_place ∷ []; references = c.references ++ o ∷ []; last = after })
grows c h None now after l =
    let one = chains_none c h (c.places ++ no_place ∷ []) (grown_none (length c.references) c.places) in
    subst (λ (ls : LastList). IsChain (record { places = now ++ no_place ∷ []; references = c.references ++ None ∷ []; last = ls })) (sym l.1)
    (subst (λ (ps : List Place). IsChain (record { places = ps ++ no_place ∷ []; references = c.references ++ None ∷ []; last = c.last })) (sym l.0) one)
grows c h (Some r) now after l =
    let one = chains_some c h r l.found (linked l.found (length c.references) c.places ++ no_place ∷ []) after l.is_last l.sets (grown_found c h r l.found l.is_last) in
    subst (λ (ps : List Place). IsChain (record { places = ps ++ no_place ∷ []; references = c.references ++ Some r ∷ []; last = after })) (sym l.links) one
