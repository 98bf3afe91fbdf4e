-- How single changes change the claims on a name.
use Rattle.std.proofs.Common.{◌≡◌, ℕ, suc, ◌+◌, ◌≤◌, Bool, true, false, List, [], ◌∷◌, ◌++◌, Option, Some, None, zero, refl, sym, ap, arith, eqb-true, leb-true, ◌∙◌}
use Rattle.std.specs.Prelude.{nat_le, ◌==◌, ◌&&◌}
use Rattle.std.proofs.lemmas.Bool.{le-leb}
use Rattle.def_machine.specs.Values.{Value, Name, Promise, Answer, Gift, Naming, same_name, word_of}
use Rattle.def_machine.specs.State.{Message, Standing, Settled, Known, Change, Hold, Settle, begun, changed, changed_to, unless_settled, with_change, is_in, drawn_at}
use Rattle.def_machine.specs.Refs.{entry_of}
use Rattle.law_fate.proofs.Name.Among.{drawn_last, key_not_drawn}
use Rattle.law_reference.proofs.Reference.Puts.{stay_end, in_among, among_in}
use Rattle.law_reference.specs.Reference.Knowing.{once, one, onward, onward_all, claims, numbered}

pub onward_end : (v : ℕ) (x : Name) (ms : List (Message Name)) (m : Message Name) → onward_all v x (ms ++ m ∷ []) ≡ onward_all v x ms + onward v x m.id
unfolding onward_all
onward_end v x [] m = omega arith
onward_end v x (n ∷ ms) m = let rest = onward_end v x ms m in omega arith

-- a name that comes to be known holds nothing
pub claims_end : (v : ℕ) (x : Name) (ks : List (Known Name)) (n : Name) (h : ℕ) → claims v x (ks ++ begun n h ∷ []) ≡ claims v x ks + one n x
unfolding claims onward_all begun
claims_end v x [] n h = omega arith
claims_end v x (k ∷ ks) n h = let rest = claims_end v x ks n h in omega arith

-- what a change adds
unfoldable pub added : ℕ → Name → Change Name → ℕ
added v x (Hold m) = onward v x m.id
added v x other = 0

abbrev at_known : ℕ → Name → Known Name → ℕ
at_known v x k = one k.name x + onward_all v x k.held

to_adds : (v : ℕ) (x : Name) (c : Change Name) (k : Known Name) → at_known v x (changed_to c k) ≤ at_known v x k + added v x c
unfolding changed_to added onward_all
to_adds v x (Hold m) k = let more = onward_end v x k.held m in omega arith
to_adds v x other k = omega arith

unless_adds : (v : ℕ) (x : Name) (t : Standing Name) (k new : Known Name) (c : ℕ) → at_known v x new ≤ at_known v x k + c → at_known v x (unless_settled t k new) ≤ at_known v x k + c
unfolding unless_settled
unless_adds v x (Settled y) k new c h = omega arith
unless_adds v x other k new c h = h

module _ {W : Type 0} (K : Naming Name W) (v : ℕ) where
  change_adds : (x : Name) (c : Change Name) (k : Known Name) (ks js : List (Known Name)) (b : Bool) → claims v x js ≤ claims v x ks + added v x c
      → claims v x (elim b [ true ↦ changed c k ∷ ks | false ↦ k ∷ js ]) ≤ at_known v x k + claims v x ks + added v x c
  unfolding claims changed
  change_adds x c k ks js true h = let more = unless_adds v x k.standing k (changed_to c k) (added v x c) (to_adds v x c k) in omega arith
  change_adds x c k ks js false h = omega arith

  pub with_change_adds : (x : Name) (c : Change Name) (n : Name) (ks : List (Known Name)) → claims v x (with_change K c n ks) ≤ claims v x ks + added v x c
  unfolding with_change claims
  with_change_adds x c n [] = omega arith
  with_change_adds x c n (k ∷ ks) = change_adds x c k ks (with_change K c n ks) (K.same k.name n) (with_change_adds x c n ks)

  -- what did not settle
  abbrev pub Waits : Standing Name → Type 0
  Waits (Settled y) = ⊥
  Waits other = Unit {0}

  settled_frees : (x : Name) (y : Value Name) (k : Known Name) (t : Standing Name) → Waits t → at_known v x (unless_settled t k (changed_to (Settle y) k)) ≡ one k.name x
  unfolding unless_settled changed_to onward_all
  settled_frees x y k (Settled z) h = absurd h
  settled_frees x y k other h = omega arith

  settle_frees : (x : Name) (y : Value Name) (k j : Known Name) (ks js : List (Known Name)) (o : Option (Known Name)) (b : Bool) → elim b [ true ↦ Some j | false ↦ o ] ≡ Some k → Waits k.standing
      → (o ≡ Some k → claims v x js + onward_all v x k.held ≡ claims v x ks)
      → claims v x (elim b [ true ↦ changed (Settle y) j ∷ ks | false ↦ j ∷ js ]) + onward_all v x k.held ≡ at_known v x j + claims v x ks
  unfolding claims changed
  settle_frees x y k j ks js o true e h rest = let same : j ≡ k = cc in let none = settled_frees x y k k.standing h in rw same (omega arith)
  settle_frees x y k j ks js o false e h rest = let more = rest e in omega arith

  -- a name that settles frees all that it held
  pub settling_frees : (x : Name) (y : Value Name) (p : Name) (k : Known Name) (ks : List (Known Name)) → entry_of K ks p ≡ Some k → Waits k.standing
      → claims v x (with_change K (Settle y) p ks) + onward_all v x k.held ≡ claims v x ks
  unfolding with_change entry_of claims
  settling_frees x y p k [] e h = cc
  settling_frees x y p k (j ∷ ks) e h = settle_frees x y k j ks (with_change K (Settle y) p ks) (entry_of K ks p) (K.same j.name p) e h (λ i. settling_frees x y p k ks i h)

-- ---- numbers

true_false : true ≡ false → ⊥
true_false e = cc

below : (n k : ℕ) (a b c : Bool) → (k == n) ≡ a → nat_le (suc n) k ≡ b → nat_le (suc n) (suc k) ≡ c → once a + once b ≤ once c
unfolding once
below n k true true c e f g = let i = eqb-true k n e in let j = leb-true (suc n) k f in absurd (omega arith)
below n k true false true e f g = omega arith
below n k true false false e f g = let i = eqb-true k n e in absurd (true_false (sym (le-leb (suc n) (suc k) (omega arith)) ∙ g))
below n k false true true e f g = omega arith
below n k false true false e f g = let j = leb-true (suc n) k f in absurd (true_false (sym (le-leb (suc n) (suc k) (omega arith)) ∙ g))
below n k false false c e f g = omega arith

-- the next number is new
next_number : (n k : ℕ) → once (k == n) + once (nat_le (suc n) k) ≤ once (nat_le (suc n) (suc k))
next_number n k = below n k (k == n) (nat_le (suc n) k) (nat_le (suc n) (suc k)) refl refl refl

next_where : (n k : ℕ) (b : Bool) → once (b && (k == n)) + elim b [ true ↦ once (nat_le (suc n) k) | false ↦ 0 ] ≤ elim b [ true ↦ once (nat_le (suc n) (suc k)) | false ↦ 0 ]
unfolding once
next_where n k true = next_number n k
next_where n k false = omega arith

pub promise_next : (v : ℕ) (x : Name) (p m : ℕ) (d : List ℕ) → one (Promise v p) x + numbered v x p m d ≤ numbered v x (suc p) m d
unfolding numbered one same_name once
promise_next v (Promise a b) p m d = next_where b p (v == a)
promise_next v other p m d = omega arith

once_none : once false ≡ 0
unfolding once
once_none = refl

within : (b c : Bool) → once (b && c) ≤ once c
unfolding once
within true c = omega arith
within false true = omega arith
within false false = omega arith

-- a gift under a new word
new_word : (a b c : Bool) → (a ≡ true → b ≡ false) → (a ≡ true → c ≡ true) → (b ≡ true → c ≡ true) → once a + once b ≤ once c
unfolding once
new_word false false c e f g = omega arith
new_word false true true e f g = omega arith
new_word false true false e f g = absurd (true_false (sym (g refl)))
new_word true true c e f g = absurd (true_false (e refl))
new_word true false true e f g = omega arith
new_word true false false e f g = absurd (true_false (sym (f refl)))

next_gift : (b k w : ℕ) (d : List ℕ) → word_of k ≡ w → drawn_at zero w d ≡ None → once (k == b) + once (is_in (word_of b) d) ≤ once (is_in (word_of b) (d ++ w ∷ []))
next_gift b k w d e new = new_word (k == b) (is_in (word_of b) d) (is_in (word_of b) (d ++ w ∷ [])) (λ f. absent (is_in (word_of b) d) refl (eqb-true k b f)) (λ f. among_in (word_of b) (d ++ w ∷ []) (drawn_last d w b (ap word_of (sym (eqb-true k b f)) ∙ e)))
    (λ f. among_in (word_of b) (d ++ w ∷ []) (stay_end d w (word_of b) (in_among (word_of b) d f)))
  where
    absent : (c : Bool) → is_in (word_of b) d ≡ c → k ≡ b → c ≡ false
    absent true f g = absurd (key_not_drawn d w b new (ap word_of (sym g) ∙ e) (in_among (word_of b) d f))
    absent false f g = refl

pub gift_next : (v c k w : ℕ) (x : Name) (p m : ℕ) (d : List ℕ) → word_of k ≡ w → drawn_at zero w d ≡ None → one (Gift c k) x + numbered v x p m d ≤ numbered v x p m (d ++ w ∷ [])
unfolding numbered one same_name
gift_next v c k w (Gift a b) p m d e new = let one = within (c == a) (k == b) in let two = next_gift b k w d e new in omega arith
gift_next v c k w other p m d e new = let none = once_none in omega arith

-- One where x is an answer of the message with that number of vat v.
unfoldable pub answers : ℕ → ℕ → Name → ℕ
answers v k (Answer h a) = once ((v == a.sender) && (k == a.number))
answers v k _ = 0

pub answer_next : (v : ℕ) (x : Name) (p k : ℕ) (d : List ℕ) → answers v k x + numbered v x p k d ≤ numbered v x p (suc k) d
unfolding numbered answers
answer_next v (Answer h a) p k d = next_where a.number k (v == a.sender)
answer_next v other p k d = omega arith

pub answer_at : (h v k : ℕ) (x : Name) → one (Answer h (record { sender = v; number = k })) x ≤ answers v k x
unfolding one answers same_name
answer_at h v k (Answer g a) = within (h == g) ((v == a.sender) && (k == a.number))
answer_at h v k other = let none = once_none in omega arith
