-- How single changes change the counts.
use Rattle.std.proofs.Common.{◌≡◌, ℕ, suc, ◌+◌, ◌≤◌, Bool, true, false, List, [], ◌∷◌, ◌++◌, Option, Some, refl, sym, arith, eqb-true, leb-true, ◌∙◌}
use Rattle.std.specs.Prelude.{nat_le, ◌==◌, ◌&&◌}
use Rattle.std.proofs.lemmas.Bool.{le-leb}
use Rattle.def_machine.specs.Values.{Value, Name, Sent, Msg, Naming, same_name}
use Rattle.def_machine.specs.State.{Message, Standing, Settled, Known, Change, Hold, React, Settle, Put, Happened, begun, changed, changed_to, unless_settled, with_change}
use Rattle.def_machine.specs.Refs.{entry_of}
use Rattle.law_fate.specs.Fates.Fate.{once, one, among, at_names, sent_here, sent_in, gone_here, gone, where_cut, of_note, put_out}
use Rattle.law_fate.specs.Fates.FateLaws.{numbered}

pub among_end : (x : Name) (ms : List (Message Name)) (m : Message Name) → among x (ms ++ m ∷ []) ≡ among x ms + one m.id x
unfolding among
among_end x [] m = omega arith
among_end x (n ∷ ms) m = let rest = among_end x ms m in omega arith

pub sent_end : (x : Name) (es : List (Happened Name)) (e : Happened Name) → sent_in x (es ++ e ∷ []) ≡ sent_in x es + sent_here x e
unfolding sent_in
sent_end x [] e = omega arith
sent_end x (d ∷ es) e = let rest = sent_end x es e in omega arith

pub gone_end : (cut : ℕ → Bool) (x : Name) (es : List (Happened Name)) (e : Happened Name) → gone cut x (es ++ e ∷ []) ≡ gone cut x es + gone_here cut x e
unfolding gone
gone_end cut x [] e = omega arith
gone_end cut x (d ∷ es) e = let rest = gone_end cut x es e in omega arith

pub put_end : (cut : ℕ → Bool) (x : Name) (ps : List (Put Name)) (p : Put Name) → put_out cut x (ps ++ p ∷ []) ≡ put_out cut x ps + where_cut (cut p.to) 0 (of_note x p.note)
unfolding put_out
put_end cut x [] p = omega arith
put_end cut x (q ∷ ps) p = let rest = put_end cut x ps p in omega arith

-- a name that comes to be known holds nothing
pub names_end : (x : Name) (ks : List (Known Name)) (n : Name) (h : ℕ) → at_names x (ks ++ begun n h ∷ []) ≡ at_names x ks
unfolding at_names among begun
names_end x [] n h = refl
names_end x (k ∷ ks) n h = let rest = names_end x ks n h in omega arith

-- what a change adds
unfoldable pub added : Name → Change Name → ℕ
added x (Hold m) = one m.id x
added x (React m) = one m.id x
added x other = 0

abbrev at_known : Name → Known Name → ℕ
at_known x k = among x k.held + among x k.reactions

to_adds : (x : Name) (c : Change Name) (k : Known Name) → at_known x (changed_to c k) ≤ at_known x k + added x c
unfolding changed_to added among
to_adds x (Hold m) k = let more = among_end x k.held m in omega arith
to_adds x (React m) k = let more = among_end x k.reactions m in omega arith
to_adds x other k = omega arith

unless_adds : (x : Name) (t : Standing Name) (k new : Known Name) (c : ℕ) → at_known x new ≤ at_known x k + c → at_known x (unless_settled t k new) ≤ at_known x k + c
unfolding unless_settled
unless_adds x (Settled y) k new c h = omega arith
unless_adds x other k new c h = h

module _ {W : Type 0} (K : Naming Name W) where
  change_adds : (x : Name) (c : Change Name) (k : Known Name) (ks js : List (Known Name)) (b : Bool) → at_names x js ≤ at_names x ks + added x c
      → at_names x (elim b [ true ↦ changed c k ∷ ks | false ↦ k ∷ js ]) ≤ at_known x k + at_names x ks + added x c
  unfolding at_names changed
  change_adds x c k ks js true h = let more = unless_adds x k.standing k (changed_to c k) (added x c) (to_adds x c k) in omega arith
  change_adds x c k ks js false h = omega arith

  pub with_change_adds : (x : Name) (c : Change Name) (n : Name) (ks : List (Known Name)) → at_names x (with_change K c n ks) ≤ at_names x ks + added x c
  unfolding with_change at_names
  with_change_adds x c n [] = omega arith
  with_change_adds x c n (k ∷ ks) = change_adds x c k ks (with_change K c n ks) (K.same k.name n) (with_change_adds x c n ks)

  -- what did not settle
  abbrev pub Waits : Standing Name → Type 0
  Waits (Settled y) = ⊥
  Waits other = Unit {0}

  settled_frees : (x : Name) (y : Value Name) (k : Known Name) (t : Standing Name) → Waits t → at_known x (unless_settled t k (changed_to (Settle y) k)) ≡ 0
  unfolding unless_settled changed_to among
  settled_frees x y k (Settled z) h = absurd h
  settled_frees x y k other h = omega arith

  settle_frees : (x : Name) (y : Value Name) (k j : Known Name) (ks js : List (Known Name)) (o : Option (Known Name)) (b : Bool) → elim b [ true ↦ Some j | false ↦ o ] ≡ Some k → Waits k.standing
      → (o ≡ Some k → at_names x js + at_known x k ≡ at_names x ks)
      → at_names x (elim b [ true ↦ changed (Settle y) j ∷ ks | false ↦ j ∷ js ]) + at_known x k ≡ at_known x j + at_names x ks
  unfolding at_names changed
  settle_frees x y k j ks js o true e h rest = let same : j ≡ k = cc in let none = settled_frees x y k k.standing h in rw same (omega arith)
  settle_frees x y k j ks js o false e h rest = let more = rest e in omega arith

  -- a name that settles frees all that it held and all that reacts on it
  pub settling_frees : (x : Name) (y : Value Name) (p : Name) (k : Known Name) (ks : List (Known Name)) → entry_of K ks p ≡ Some k → Waits k.standing
      → at_names x (with_change K (Settle y) p ks) + at_known x k ≡ at_names x ks
  unfolding with_change entry_of at_names
  settling_frees x y p k [] e h = cc
  settling_frees x y p k (j ∷ ks) e h = settle_frees x y k j ks (with_change K (Settle y) p ks) (entry_of K ks p) (K.same j.name p) e h (λ i. settling_frees x y p k ks i h)

-- ---- the numbers of messages

true_false : true ≡ false → ⊥
true_false e = cc

below : (n k : ℕ) (a b c : Bool) → (k == n) ≡ a → nat_le (suc n) k ≡ b → nat_le (suc n) (suc k) ≡ c → once a + once b ≤ once c
unfolding once
below n k true true c e f g = let i = eqb-true k n e in let j = leb-true (suc n) k f in absurd (omega arith)
below n k true false true e f g = omega arith
below n k true false false e f g = let i = eqb-true k n e in absurd (true_false (sym (le-leb (suc n) (suc k) (omega arith)) ∙ g))
below n k false true true e f g = omega arith
below n k false true false e f g = let j = leb-true (suc n) k f in absurd (true_false (sym (le-leb (suc n) (suc k) (omega arith)) ∙ g))
below n k false false c e f g = omega arith

next_where : (v k : ℕ) (m : Msg) (b : Bool) → once (b && (k == m.number)) + elim b [ true ↦ once (nat_le (suc m.number) k) | false ↦ 0 ] ≤ elim b [ true ↦ once (nat_le (suc m.number) (suc k)) | false ↦ 0 ]
unfolding once
next_where v k m true = below m.number k _ _ _ refl refl refl
next_where v k m false = omega arith

-- the next message of a vat is new
pub numbered_next : (v k : ℕ) (x : Name) → one (Sent (record { sender = v; number = k })) x + numbered v k x ≤ numbered v (suc k) x
unfolding numbered one same_name once
numbered_next v k (Sent m) = next_where v k m (v == m.sender)
numbered_next v k other = omega arith
