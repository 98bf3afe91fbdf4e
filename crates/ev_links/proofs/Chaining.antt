-- Names are added to the ends of chains.
use Rattle.std.proofs.Common.{◌≡◌, ℕ, ◌≤◌, arith, Bool, true, false, cond, List, [], Option, Some, None, refl, sym, ap, subst, ◌∙◌, inl, inr, rules}
use Rattle.std.specs.Prelude.{◌⊎◌, ◌↔◌, IsTrue}
use Rattle.ev_links.specs.declared.chains.End.{End}
use Rattle.ev_links.specs.declared.chains.Spot.{Spot}
use Rattle.ev_links.specs.declared.chains.Standing.{Standing}
use Rattle.ev_links.specs.declared.label.Label.{Label}
use Rattle.ev_links.specs.contracts.chains.SpotPartialEq.TheImpl.{eq-value}
use Rattle.ev_links.specs.Chains.{IsNextPlace, IsWithin, PlanStands, PlanTables, PutsEnd, PutsStanding, end_of, spot, standing}

pub spot_is : (a b : Spot) → IsTrue (eq-value.it a b) ↔ (a ≡ b)
spot_is a b = search rules

-- what is looked up in a table into which something was put: this, or what stood there
pub put_cases : {V : Type 0} (b : Bool) (x y : V) (o p : Option V) → o ≡ cond b (Some x) p → o ≡ Some y → ((b ≡ true) × (x ≡ y)) ⊎ ((b ≡ false) × (p ≡ Some y))
put_cases true x y o p h e = let both : Some x ≡ Some y = sym h ∙ e in let same : x ≡ y = cc in inl (refl, same)
put_cases false x y o p h e = inr (refl, sym h ∙ e)

pub standing_cases : (s q : Spot) (x y : Standing) (old new : List (Spot × Standing)) → PutsStanding s x old new → standing new q ≡ Some y → ((s ≡ q) × (x ≡ y)) ⊎ (standing old q ≡ Some y)
standing_cases s q x y old new h e = elim (put_cases (eq-value.it s q) x y (standing new q) (standing old q) (h q) e) [
  | inl a ↦ inl ((spot_is s q).0 a.0, a.1)
  | inr a ↦ inr a.1
]

pub end_cases : (s q : Spot) (x y : End) (old new : List (Spot × End)) → PutsEnd s x old new → end_of new q ≡ Some y → ((s ≡ q) × (x ≡ y)) ⊎ (end_of old q ≡ Some y)
end_cases s q x y old new h e = elim (put_cases (eq-value.it s q) x y (end_of new q) (end_of old q) (h q) e) [
  | inl a ↦ inl ((spot_is s q).0 a.0, a.1)
  | inr a ↦ inr a.1
]

pub none_planned : (standings : List (Spot × Standing)) (ends : List (Spot × End)) → standings ≡ [] → ends ≡ [] → PlanStands (record { standings = standings; ends = ends })
unfolding standing
none_planned standings ends none empty = record {
  within = λ at l x e. absurd (let bad : None ≡ Some x = ap (λ (es : List (Spot × Standing)). standing es (spot at l)) (sym none) ∙ e in cc);
  one = λ at l m x e f. absurd (let bad : None ≡ Some x = ap (λ (es : List (Spot × Standing)). standing es (spot at l)) (sym none) ∙ e in cc);
}

-- what is within the old end is within the new one
within_more : (b : Bool) (o p : Option End) (n : ℕ) (e : End) → IsNextPlace p (Some e.place) → o ≡ cond b (Some e) p → IsWithin n p → IsWithin n o
within_more true o (Some d) n e next h i = subst (IsWithin n) (sym h) (let more : n ≤ e.place = omega (arith, next, i) in more)
within_more true o None n e next h i = absurd i
within_more false o p n e next h i = subst (IsWithin n) (sym h) i

-- nothing stands after the end
none_after : (p : Option End) (n : ℕ) → IsNextPlace p (Some n) → IsWithin n p → ⊥
none_after None n next i = i
none_after (Some e) n next i = omega (arith, next, i)

within_end : (q : Spot) (e : End) (old new : List (Spot × End)) → PutsEnd q e old new → IsWithin e.place (end_of new q)
within_end q e old new h =
    let now : end_of new q ≡ Some e = h q ∙ ap (λ (c : Bool). cond c (Some e) (end_of old q)) ((spot_is q q).1 refl) in
    subst (IsWithin e.place) (sym now) (let same : e.place ≤ e.place = omega arith in same)

module _ (old new : PlanTables) (at : ℕ) (name chain : Label) (n : ℕ) (h : PlanStands old) (next : IsNextPlace (end_of old.ends (spot at chain)) (Some n)) where
  abbrev there : Standing
  there = record { chain = chain; place = n }

  abbrev now : End
  now = record { place = n; name = name }

  -- nobody stood there
  was_free : (l : Label) → standing old.standings (spot at l) ≡ Some there → ⊥
  was_free l e = none_after (end_of old.ends (spot at chain)) n next (h.within at l there e)

  pub appended : PutsStanding (spot at name) there old.standings new.standings → PutsEnd (spot at chain) now old.ends new.ends → PlanStands new
  appended s e = record {
    within = λ k l x is. elim (standing_cases (spot at name) (spot k l) there x old.standings new.standings s is) [
      | inl a ↦
          let here : at ≡ k = ap (λ (q : Spot). q.at) a.0 in
          subst (λ (y : Standing). IsWithin y.place (end_of new.ends (spot k y.chain))) a.1
          (subst (λ (j : ℕ). IsWithin n (end_of new.ends (spot j chain))) here (within_end (spot at chain) now old.ends new.ends e))
      | inr a ↦ more k l x a
    ];
    one = λ k l m x is that. elim (standing_cases (spot at name) (spot k l) there x old.standings new.standings s is) [
      | inl a ↦ elim (standing_cases (spot at name) (spot k m) there x old.standings new.standings s that) [
        | inl b ↦ sym (ap (λ (q : Spot). q.name) a.0) ∙ ap (λ (q : Spot). q.name) b.0
        | inr b ↦ absurd (was_free m (subst (λ (j : ℕ). standing old.standings (spot j m) ≡ Some there) (sym (ap (λ (q : Spot). q.at) a.0)) (b ∙ ap Some (sym a.1))))
      ]
      | inr a ↦ elim (standing_cases (spot at name) (spot k m) there x old.standings new.standings s that) [
        | inl b ↦ absurd (was_free l (subst (λ (j : ℕ). standing old.standings (spot j l) ≡ Some there) (sym (ap (λ (q : Spot). q.at) b.0)) (a ∙ ap Some (sym b.1))))
        | inr b ↦ h.one k l m x a b
      ]
    ];
  }
    where
      more_if : (b : Bool) (k : ℕ) (x : Standing) → eq-value.it (spot at chain) (spot k x.chain) ≡ b → IsWithin x.place (end_of old.ends (spot k x.chain)) → IsWithin x.place (end_of new.ends (spot k x.chain))
      more_if true k x same i =
          let is = (spot_is (spot at chain) (spot k x.chain)).0 same in
          within_more true (end_of new.ends (spot k x.chain)) (end_of old.ends (spot k x.chain)) x.place now
          (subst (λ (q : Spot). IsNextPlace (end_of old.ends q) (Some n)) is next)
          (e (spot k x.chain) ∙ ap (λ (c : Bool). cond c (Some now) (end_of old.ends (spot k x.chain))) same) i
      more_if false k x other i =
          subst (IsWithin x.place) (sym (e (spot k x.chain) ∙ ap (λ (c : Bool). cond c (Some now) (end_of old.ends (spot k x.chain))) other)) i

      more : (k : ℕ) (l : Label) (x : Standing) → standing old.standings (spot k l) ≡ Some x → IsWithin x.place (end_of new.ends (spot k x.chain))
      more k l x a = more_if (eq-value.it (spot at chain) (spot k x.chain)) k x refl (h.within k l x a)
