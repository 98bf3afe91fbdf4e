-- References that compare as equal are one, and what a map has at a reference is its last place.
use Rattle.std.proofs.Common.{◌≡◌, ◌⊎◌, ℕ, rules, cond, Bool, true, false, [], ◌∷◌, Option, Some, None, MatchOption, refl, sym, ap, ◌∙◌, inl, inr}
use Rattle.std.specs.Map.{lookup}
use Rattle.def_event.specs.declared.reference.Reference.{Reference}
use Rattle.def_event.specs.contracts.reference.ReferencePartialEq.TheImpl as derived
use Rattle.ev_order.specs.Last.{LastList, IsLast, HasNone, Sets}

abbrev pub equal : Reference → Reference → Bool
equal a b = derived.eq-value.it a b

pub tells : (a b : Reference) → equal a b ≡ true → a ≡ b
tells a b h = search rules

pub same : (a b : Reference) → a ≡ b → equal a b ≡ true
same a b h = search rules

pub differs : (a b : Reference) → (a ≡ b → ⊥) → equal a b ≡ false
differs a b h = cases (equal a b) refl
  where
    cases : (t : Bool) → equal a b ≡ t → equal a b ≡ false
    cases true e = absurd (h (tells a b e))
    cases false e = e

pub apart_or_one : (a b : Reference) → (a ≡ b → ⊥) ⊎ (a ≡ b)
apart_or_one a b = cases (equal a b) refl
  where
    cases : (t : Bool) → equal a b ≡ t → (a ≡ b → ⊥) ⊎ (a ≡ b)
    cases true e = inr (tells a b e)
    cases false e = inl (λ h. let two : true ≡ false = sym (same a b h) ∙ e in cc)

last_in : (r : Reference) (e : Reference × ℕ) (es : LastList) (i : ℕ) (b : Bool) → equal r e.0 ≡ b → cond b (Some e.1) (lookup (equal r) es) ≡ Some i → (lookup (equal r) es ≡ Some i → IsLast r i es) → IsLast r i (e ∷ es)
last_in r e es i true is h later = inl (sym (tells r e.0 is), cc)
last_in r e es i false is h later = inr ((λ same_one. let two : true ≡ false = sym (same r e.0 (sym same_one)) ∙ is in cc), later h)

pub last_found : (r : Reference) (es : LastList) (i : ℕ) → lookup (equal r) es ≡ Some i → IsLast r i es
last_found r [] i h = cc
last_found r (e ∷ es) i h = last_in r e es i (equal r e.0) refl h (last_found r es i)

found_in : (r : Reference) (e : Reference × ℕ) (es : LastList) (i : ℕ) (b : Bool) → equal r e.0 ≡ b → IsLast r i (e ∷ es) → (IsLast r i es → lookup (equal r) es ≡ Some i) → cond b (Some e.1) (lookup (equal r) es) ≡ Some i
found_in r e es i true is (inl h) later = ap Some h.1
found_in r e es i false is (inl h) later = let two : true ≡ false = sym (same r e.0 (sym h.0)) ∙ is in cc
found_in r e es i true is (inr h) later = absurd (h.0 (sym (tells r e.0 is)))
found_in r e es i false is (inr h) later = later h.1

pub found_last : (r : Reference) (es : LastList) (i : ℕ) → IsLast r i es → lookup (equal r) es ≡ Some i
found_last r [] i h = absurd h
found_last r (e ∷ es) i h = found_in r e es i (equal r e.0) refl h (found_last r es i)

pub finds_last : (r : Reference) (es : LastList) (o : Option ℕ) → lookup (equal r) es ≡ o → MatchOption o (HasNone r es) (λ i. IsLast r i es)
finds_last r es None e = λ i h. (let two : None ≡ Some i = sym e ∙ found_last r es i h in cc)
finds_last r es (Some i) e = last_found r es i e

-- what holds after a change at one reference
pub sets : (r : Reference) (i : ℕ) (old now : LastList) → lookup (equal r) now ≡ Some i → ((q : Reference) → equal r q ≡ false → lookup (equal q) now ≡ lookup (equal q) old) → Sets r i old now
sets r i old now set others = record {
  set = last_found r now i set;
  kept = λ q j other h. last_found q now j (others q (differs r q (λ e. other (sym e))) ∙ found_last q old j h);
  only = λ q j other h. last_found q old j (sym (others q (differs r q (λ e. other (sym e)))) ∙ found_last q now j h);
}
