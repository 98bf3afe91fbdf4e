-- What follows of a vat in which there is room for each name, and what each name waits on is where it waits.
use Rattle.std.proofs.Common.{◌≡◌, ℕ, ◌+◌, ◌≤◌, Bool, true, false, List, [], ◌∷◌, Some, refl, sym, ap, subst, ◌⊎◌, inl, inr, arith}
use Rattle.def_machine.specs.Values.{Value, Name, naming}
use Rattle.def_machine.specs.State.{Standing, Unsettled, Settled, Known, Vat}
use Rattle.def_machine.specs.Refs.{entry_of, standing_of, standing_in}
use Rattle.def_run.specs.Draws.{draw_word}
use Rattle.def_run.specs.World as world
use Rattle.def_run.specs.World.{Script}
use Rattle.law_fate.specs.Name.Names.{AllOf, IsAmong, Once, names_in, IsEventual}
use Rattle.law_fate.proofs.Name.Among.{all_among}
use Rattle.law_fate.proofs.Name.SameNames.{reference_is}
use Rattle.law_fate.specs.Fates.Fate.{one, total}
use Rattle.law_order.specs.Waits.Answers.{askings, waits_at, waitings, IsWaitOf, AnswersAreOpen, WaitersWait}
use Rattle.law_order.proofs.Waits.Counts.{one_self}
use Rattle.law_order.proofs.Waits.Room.{share, times, unspent}
use Rattle.law_order.proofs.Waits.Room as room
use Rattle.law_order.proofs.Waits.Costs.{one_or}
use Rattle.law_order.proofs.Waits.Costs as costs
use Rattle.law_order.proofs.Waits.Classes.{owed_at}
use Rattle.law_order.proofs.Waits.Moving.{Held}

-- ---- what is known of names

module _ (word : ℕ → ℕ) (v : ℕ) where
  -- what settled is known, so it is no object
  pub settled_eventual : (n : Name) (y : Value Name) (ks : List (Known Name)) → AllOf IsEventual (names_in ks) → standing_of (naming word v) ks n ≡ Settled y → IsEventual n
  unfolding standing_of entry_of standing_in naming
  settled_eventual n y [] h e = absurd (never y e)
    where
      never : (z : Value Name) → ◌≡◌ {A = Standing Name} Unsettled (Settled z) → ⊥
      never z i = cc
  settled_eventual n y (k ∷ ks) h e = go ((naming word v).same k.name n) refl e (λ i. settled_eventual n y ks h.1 i)
    where
      go : (b : Bool) → (naming word v).same k.name n ≡ b → standing_in (elim b [ true ↦ Some k | false ↦ entry_of (naming word v) ks n ]) ≡ Settled y → (standing_in (entry_of (naming word v) ks n) ≡ Settled y → IsEventual n) → IsEventual n
      go true i f rest = subst IsEventual (reference_is k.name n i) h.0
      go false i f rest = rest f

times_absent : (x : Name) (ks : List (Known Name)) → (IsAmong x (names_in ks) → ⊥) → total (λ (j : Known Name). one j.name x) ks ≡ 0
unfolding total
times_absent x [] f = refl
times_absent x (k ∷ ks) f = go (one_or k.name x) (times_absent x ks (λ a. f (inr a)))
  where
    go : (one k.name x ≡ 0) ⊎ (k.name ≡ x) → total (λ (j : Known Name). one j.name x) ks ≡ 0 → one k.name x + total (λ (j : Known Name). one j.name x) ks ≡ 0
    go (inl z) rest = omega arith
    go (inr e) rest = absurd (f (inl (sym e)))

-- a name that is known once is counted once
pub times_most : (x : Name) (ks : List (Known Name)) → Once (names_in ks) → times x ks ≤ 1
unfolding times total
times_most x [] h = omega arith
times_most x (k ∷ ks) h = go (one_or k.name x) (times_most x ks h.1)
  where
    go : (one k.name x ≡ 0) ⊎ (k.name ≡ x) → total (λ (j : Known Name). one j.name x) ks ≤ 1 → one k.name x + total (λ (j : Known Name). one j.name x) ks ≤ 1
    go (inl z) rest = omega arith
    go (inr e) rest = let none = times_absent x ks (λ a. h.0 (subst (λ (m : Name). IsAmong m (names_in ks)) (sym e) a)) in let here = one_self k.name x e in omega arith

module _ (script : Script) where
  abbrev word : ℕ → ℕ
  word = draw_word script.key

  -- ---- what follows

  open_by : (v : ℕ) (s : Vat Name) (a : Name) (o : Bool) → owed_at v a ≡ o → Held script v a s → times a s.known ≤ 1 → 1 ≤ askings a s → (askings a s ≡ 1) × (standing_of (world.names script v) s.known a ≡ Unsettled) × (waitings a s.known ≡ 0)
  unfolding share askings room.burden world.names
  open_by v s a true e h few asked = let fits = h.fits in let b : share (owed_at v a) (room.burden word v a s.known) ≡ room.burden word v a s.known = ap (λ (z : Bool). share z (room.burden word v a s.known)) e in
      let t : share (owed_at v a) (times a s.known) ≡ times a s.known = ap (λ (z : Bool). share z (times a s.known)) e in (omega arith, unspent (standing_of (naming word v) s.known a) (omega arith), omega arith)
  open_by v s a false e h few asked = let fits = h.fits in let t : share (owed_at v a) (times a s.known) ≡ 0 = ap (λ (z : Bool). share z (times a s.known)) e in absurd (omega arith)

  hand_by : (v : ℕ) (s : Vat Name) (a : Name) (c : ℕ) (o : Bool) → owed_at v a ≡ o → costs.At word v a (owed_at v a) (2 + c) s → times a s.known ≤ 1 → (askings a s ≡ 0) × (standing_of (world.names script v) s.known a ≡ Unsettled) × (waitings a s.known ≡ 0)
  unfolding share askings room.burden world.names
  hand_by v s a c true e h few = let fits = h.fits in let b : share (owed_at v a) (room.burden word v a s.known) ≡ room.burden word v a s.known = ap (λ (z : Bool). share z (room.burden word v a s.known)) e in
      let t : share (owed_at v a) (times a s.known) ≡ times a s.known = ap (λ (z : Bool). share z (times a s.known)) e in (omega arith, unspent (standing_of (naming word v) s.known a) (omega arith), omega arith)
  hand_by v s a c false e h few = let fits = h.fits in let t : share (owed_at v a) (times a s.known) ≡ 0 = ap (λ (z : Bool). share z (times a s.known)) e in absurd (omega arith)

  -- so is the answer of a message in hand, for which there is room
  pub hand_open : (v : ℕ) (s : Vat Name) (a : Name) (c : ℕ) → costs.At word v a (owed_at v a) (2 + c) s → times a s.known ≤ 1 → (askings a s ≡ 0) × (standing_of (world.names script v) s.known a ≡ Unsettled) × (waitings a s.known ≡ 0)
  hand_open v s a c h few = hand_by v s a c (owed_at v a) refl h few

  pub answers_open : (v : ℕ) (s : Vat Name) → ((x : Name) → Held script v x s) → Once (names_in s.known) → AnswersAreOpen script v s
  answers_open v s h once a asked = open_by v s a (owed_at v a) refl (h a) (times_most a s.known once) asked

  among_one : (q : Name) (qs : List Name) → IsAmong q qs → 1 ≤ total (λ (p : Name). one p q) qs
  unfolding total
  among_one q [] a = absurd a
  among_one q (p ∷ qs) (inl e) = let here = one_self p q (sym e) in omega arith
  among_one q (p ∷ qs) (inr a) = let rest = among_one q qs a in omega arith

  waits_by : (v : ℕ) (s : Vat Name) (k : Known Name) (q : Name) → IsAmong q k.waiting → room.WaitsAs word v q (standing_of (naming word v) s.known q) k → IsWaitOf k.name (standing_of (world.names script v) s.known q)
  unfolding waits_at world.names
  waits_by v s k q a (inl none) = let most = among_one q k.waiting a in absurd (omega arith)
  waits_by v s k q a (inr w) = w

  pub waits_or : (v : ℕ) (s : Vat Name) (k : Known Name) (q : Name) → IsAmong k s.known → IsAmong q k.waiting → times q s.known ≤ 1 → (2 ≤ times q s.known) ⊎ room.Waiting word v q s.known → IsWaitOf k.name (standing_of (world.names script v) s.known q)
  waits_or v s k q there a few (inl many) = absurd (omega arith)
  waits_or v s k q there a few (inr all) = waits_by v s k q a (all_among (room.WaitsAs word v q (standing_of (naming word v) s.known q)) s.known k all there)

  pub waiters_wait : (v : ℕ) (s : Vat Name) → ((x : Name) → Held script v x s) → Once (names_in s.known) → WaitersWait script v s
  waiters_wait v s h once k q there a = let held = h q in waits_or v s k q there a (times_most q s.known once) held.waiting
