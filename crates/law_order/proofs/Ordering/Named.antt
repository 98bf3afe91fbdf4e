-- When names are the same, and what becomes of places as a name is passed by.
use Rattle.std.proofs.Common.{◌≡◌, ℕ, Bool, true, false, refl, sym, ap, subst, ◌∙◌, eqb-true, eq-eqb}
use Rattle.std.specs.Prelude.{◌==◌, ◌&&◌}
use Rattle.def_machine.specs.Values.{Name, Root, Object, Promise, Answer, Gift, Sent, Msg, same_name, same_msg}
use Rattle.law_order.specs.Ordering.Ways.{Lane, Queue, Held, Way, Place, Nowhere, Free, End, Mid}
use Rattle.law_order.specs.Ordering.Settle.{passed_by}

abbrev IsTrue : Bool → Type 0
IsTrue true = Unit {0}
IsTrue false = ⊥

pub false_true : {A : Type 0} → false ≡ true → A
false_true e = absurd (subst IsTrue (sym e) tt)

both : (a b : Bool) → (a && b) ≡ true → (a ≡ true) × (b ≡ true)
both true b e = (refl, e)
both false b e = false_true e

and_true : (a b : Bool) → a ≡ true → b ≡ true → (a && b) ≡ true
and_true true b e f = f
and_true false b e f = false_true e

msg_is : (m n : Msg) → same_msg m n ≡ true → m ≡ n
msg_is m n e = let h = both (m.sender == n.sender) (m.number == n.number) e in let a : m.sender ≡ n.sender = eqb-true m.sender n.sender h.0 in let b : m.number ≡ n.number = eqb-true m.number n.number h.1 in
    ap (λ w. record { sender = w; number = m.number }) a ∙ ap (λ i. record { sender = n.sender; number = i }) b

two_is : (f : ℕ → ℕ → Name) (w u i j : ℕ) → ((w == u) && (i == j)) ≡ true → f w i ≡ f u j
two_is f w u i j e = let h = both (w == u) (i == j) e in ap (λ x. f x i) (eqb-true w u h.0) ∙ ap (f u) (eqb-true i j h.1)

two_same : (w i : ℕ) → ((w == w) && (i == i)) ≡ true
two_same w i = and_true (w == w) (i == i) (eq-eqb w w refl) (eq-eqb i i refl)

pub same_is : (a b : Name) → same_name a b ≡ true → a ≡ b
unfolding same_name
same_is (Root w) (Root u) e = ap Root (eqb-true w u e)
same_is (Object w i) (Object u j) e = two_is Object w u i j e
same_is (Promise w i) (Promise u j) e = two_is Promise w u i j e
same_is (Answer w m) (Answer u n) e = let h = both (w == u) (same_msg m n) e in ap (λ x. Answer x m) (eqb-true w u h.0) ∙ ap (Answer u) (msg_is m n h.1)
same_is (Gift w i) (Gift u j) e = two_is Gift w u i j e
same_is (Sent m) (Sent n) e = ap Sent (msg_is m n e)
same_is _ _ e = false_true e

pub same_self : (a : Name) → same_name a a ≡ true
unfolding same_name
same_self (Root w) = eq-eqb w w refl
same_self (Object w i) = two_same w i
same_self (Promise w i) = two_same w i
same_self (Answer w m) = and_true (w == w) (same_msg m m) (eq-eqb w w refl) (two_same m.sender m.number)
same_self (Gift w i) = two_same w i
same_self (Sent m) = two_same m.sender m.number

-- whether it is that name of that vat
abbrev pub Test : ℕ → Name → ℕ → Name → Bool
Test v p u q = (u == v) && same_name q p

pub test_self : (v : ℕ) (p : Name) → Test v p v p ≡ true
test_self v p = and_true (v == v) (same_name p p) (eq-eqb v v refl) (same_self p)

pub test_is : (v : ℕ) (p : Name) (u : ℕ) (q : Name) → Test v p u q ≡ true → (u ≡ v) × (q ≡ p)
test_is v p u q e = let h = both (u == v) (same_name q p) e in (eqb-true u v h.0, same_is q p h.1)

module _ (v : ℕ) (p : Name) (e : Place) where
  pub passes_here : (n : Name) → passed_by v p e (End (Held v p) n) ≡ e
  unfolding passed_by
  passes_here n = subst (λ c. elim c [ true ↦ e | false ↦ End (Held v p) n ] ≡ e) (sym (test_self v p)) refl

  pub passes_other : (u : ℕ) (q n : Name) → (u ≡ v → q ≡ p → ⊥) → passed_by v p e (End (Held u q) n) ≡ End (Held u q) n
  unfolding passed_by
  passes_other u q n away = go (Test v p u q) refl
    where
      go : (c : Bool) → Test v p u q ≡ c → elim c [ true ↦ e | false ↦ End (Held u q) n ] ≡ End (Held u q) n
      go true i = let h = test_is v p u q i in absurd (away h.0 h.1)
      go false i = refl

  pub passes_queue : (u : ℕ) (n : Name) → passed_by v p e (End (Queue u) n) ≡ End (Queue u) n
  unfolding passed_by
  passes_queue u n = refl

  pub passes_way : (a b : ℕ) (n : Name) → passed_by v p e (End (Way a b) n) ≡ End (Way a b) n
  unfolding passed_by
  passes_way a b n = refl

  pub passes_mid : (l : Lane) (b : _) (n : Name) → passed_by v p e (Mid l b n) ≡ Mid l b n
  unfolding passed_by
  passes_mid l b n = refl

  pub passes_nowhere : passed_by v p e Nowhere ≡ Nowhere
  unfolding passed_by
  passes_nowhere = refl

  pub passes_free : passed_by v p e Free ≡ Free
  unfolding passed_by
  passes_free = refl
