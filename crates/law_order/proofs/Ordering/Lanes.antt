-- Which lanes are one.
use Rattle.std.proofs.Common.{◌≡◌, ℕ, Bool, true, false, refl, sym, ap, subst, ◌∙◌, ◌⊎◌, inl, inr, eqb-true}
use Rattle.std.proofs.lemmas.Bool.{eqb-false}
use Rattle.std.specs.Prelude.{◌==◌}
use Rattle.def_machine.specs.Values.{Name}
use Rattle.law_order.specs.Ordering.Ways.{Lane, Queue, Held, Way}
use Rattle.law_order.proofs.Ordering.Named.{Test, test_self, test_is, false_true}

abbrev pub Same : Lane → Lane → Type 0
Same l k = (l ≡ k) ⊎ (l ≡ k → ⊥)

abbrev IsQueue : Lane → Type 0
IsQueue (Queue v) = Unit {0}
IsQueue other = ⊥

abbrev IsHeld : Lane → Type 0
IsHeld (Held v p) = Unit {0}
IsHeld other = ⊥

abbrev IsWay : Lane → Type 0
IsWay (Way a b) = Unit {0}
IsWay other = ⊥

abbrev one_of : Lane → ℕ
one_of (Queue v) = v
one_of (Held v p) = v
one_of (Way a b) = a

abbrev pub other_of : Lane → ℕ
other_of (Queue v) = v
other_of (Held v p) = v
other_of (Way a b) = b

abbrev name_of : Name → Lane → Name
name_of n (Held v p) = p
name_of n other = n

same_queue : (u v : ℕ) (c : Bool) → (u == v) ≡ c → Same (Queue u) (Queue v)
same_queue u v true e = inl (ap Queue (eqb-true u v e))
same_queue u v false e = inr (λ q. eqb-false u v e (ap (λ z. one_of z) q))

pub held_apart : (u v : ℕ) (o p : Name) → Test v p u o ≡ false → Held u o ≡ Held v p → ⊥
held_apart u v o p c i = false_true (sym c ∙ subst (λ z. Test v p z o ≡ true) (sym (ap (λ z. one_of z) i)) (subst (λ z. Test v p v z ≡ true) (sym (ap (λ z. name_of o z) i)) (test_self v p)))

pub held_one : (u v : ℕ) (o p : Name) → Test v p u o ≡ true → Held u o ≡ Held v p
held_one u v o p c = let i = test_is v p u o c in ap (λ z. Held z o) i.0 ∙ ap (λ z. Held v z) i.1

same_held : (u v : ℕ) (p q : Name) (c : Bool) → Test v q u p ≡ c → Same (Held u p) (Held v q)
same_held u v p q true e = inl (held_one u v p q e)
same_held u v p q false e = inr (held_apart u v p q e)

same_way : (a b c d : ℕ) (x y : Bool) → (a == c) ≡ x → (b == d) ≡ y → Same (Way a b) (Way c d)
same_way a b c d true true e f = inl (ap (λ z. Way z b) (eqb-true a c e) ∙ ap (λ z. Way c z) (eqb-true b d f))
same_way a b c d false y e f = inr (λ q. eqb-false a c e (ap (λ z. one_of z) q))
same_way a b c d true false e f = inr (λ q. eqb-false b d f (ap (λ z. other_of z) q))

pub same_lane : (l k : Lane) → Same l k
same_lane (Queue u) (Queue v) = same_queue u v (u == v) refl
same_lane (Held u p) (Held v q) = same_held u v p q (Test v q u p) refl
same_lane (Way a b) (Way c d) = same_way a b c d (a == c) (b == d) refl refl
same_lane (Queue u) other = inr (λ e. subst IsQueue e tt)
same_lane (Held u p) other = inr (λ e. subst IsHeld e tt)
same_lane (Way a b) other = inr (λ e. subst IsWay e tt)

-- ---- apart from what is held

pub queue_apart : (u v : ℕ) (p : Name) → Queue u ≡ Held v p → ⊥
queue_apart u v p e = subst IsQueue e tt

pub way_apart : (a b v : ℕ) (p : Name) → Way a b ≡ Held v p → ⊥
way_apart a b v p e = subst IsWay e tt

pub vat_apart : (u v : ℕ) (o p : Name) → (u ≡ v → ⊥) → Held u o ≡ Held v p → ⊥
vat_apart u v o p f e = f (ap (λ z. one_of z) e)
