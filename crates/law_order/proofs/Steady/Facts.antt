-- What follows of a steady state: it is ready, the answer of a message in hand is open, what settled is followed to that.
use Rattle.std.proofs.Common.{◌≡◌, ℕ, suc, ◌+◌, ◌-◌, ◌≤◌, ◌<◌, Bool, true, false, List, [], ◌∷◌, None, length, refl, sym, ap, subst, ◌∙◌, ◌⊎◌, inl, inr, arith, ◌==◌, eq-eqb}
use Rattle.std.specs.Prelude.{nat_le, codes}
use Rattle.def_machine.specs.Values.{Value, Broken, Ref, Name, Promise, Answer, Sent, Msg, Naming, host_of, Spot, Own, Foreign, NoObject, same_name}
use Rattle.def_machine.specs.State.{Unsettled, Settled, Known, Vat, is_in}
use Rattle.def_machine.specs.Refs as refs
use Rattle.def_machine.specs.Refs.{entry_of, standing_of, follow_at}
use Rattle.def_run.specs.Draws.{draw_word}
use Rattle.def_run.specs.World.{Script, World, names}
use Rattle.law_fate.specs.Fates.Fate.{one, total}
use Rattle.law_fate.specs.Fates.Fate as fate
use Rattle.law_fate.specs.Fates.Lasting.{NoPromise}
use Rattle.law_reference.specs.Reference.Knowing.{claims, onward, numbered_at}
use Rattle.law_reference.specs.Reference.Knowing as knowing
use Rattle.law_reference.specs.Reference.NameTableRuns.{other, allowed}
use Rattle.law_reference.proofs.Reference.Bounds.{allowed_once}
use Rattle.law_reference.proofs.Reference.Counts.{numbered_none, same_numbers}
use Rattle.law_reference.proofs.Reference.Follow.{eq_dec}
use Rattle.law_reference.proofs.Reference.Fresh.{not_made, made_or}
use Rattle.law_reference.proofs.Reference.Onward.{claims_known, onward_least, once_least}
use Rattle.law_order.specs.Ordering.Steps.{Ready}
use Rattle.law_order.proofs.Runs.Beginnings.{none_found}
use Rattle.law_order.specs.Waits.Answers.{askings}
use Rattle.law_order.proofs.Waits.Classes.{owed_at, other_host}
use Rattle.law_order.proofs.Waits.Costs as costs
use Rattle.law_order.proofs.Waits.Counts.{one_self}
use Rattle.law_order.proofs.Waits.Room.{share, times}
use Rattle.law_order.proofs.Waits.Standing.{hand_open}
use Rattle.law_order.proofs.Steady.Ends.{ended_self, follows_end}
use Rattle.law_order.proofs.Steady.Steady.{Steady}

-- ---- names of the vat itself

own_none : (v k : ℕ) → (v == v) ≡ true → ◌≡◌ {A = ℕ} (elim (v == v) [ true ↦ 0 | false ↦ k ]) 0
own_none v k e = go (v == v) e
  where
    go : (b : Bool) → b ≡ true → ◌≡◌ {A = ℕ} (elim b [ true ↦ 0 | false ↦ k ]) 0
    go true f = refl
    go false f = cc

other_answer : (v g : ℕ) (m : Msg) → m.sender ≡ v → other v (Answer g m) ≡ 0
unfolding other
other_answer v g m e = subst (λ u. ◌≡◌ {A = ℕ} (elim (v == u) [ true ↦ 0 | false ↦ 1 ]) 0) (sym e) (own_none v 1 (eq-eqb v v refl))

-- an answer of a message of the vat that it did not make yet
new_answer : (v h : ℕ) (m : Msg) (s : Vat Name) → m.sender ≡ v → s.messages ≤ m.number → allowed v (Answer h m) s s.drawn ≤ 0
unfolding allowed numbered_at
new_answer v h m s e l = let a = other_answer v h m e in let b = same_numbers v h m s in let c = numbered_none v s.messages m (λ i. l) in omega arith

promise_by : (b : Bool) (p i : ℕ) → b ≡ true → p ≤ i → (elim b [ true ↦ 0 | false ↦ 1 ]) + (elim b [ true ↦ knowing.once (nat_le (suc i) p) | false ↦ 0 ]) ≤ 0
unfolding knowing.once
promise_by true p i e l = let none = not_made i p l in rw none (omega arith)
promise_by false p i e l = cc

new_promise : (v i : ℕ) (s : Vat Name) → s.promises ≤ i → allowed v (Promise v i) s s.drawn ≤ 0
unfolding allowed other knowing.numbered
new_promise v i s l = promise_by (v == v) s.promises i (eq-eqb v v refl) l

module _ (script : Script) (w : World) (v : ℕ) where
  abbrev K : Naming Name Name
  K = names script v

  -- what may not be claimed is not known
  not_known : (c o : Name → ℕ) (s : Vat Name) (x : Name) → Steady script w v c o s → allowed v x s s.drawn ≤ o x → entry_of K s.known x ≡ None
  not_known c o s x h l = none_found script v s.known x (λ a. let k = claims_known v x s.known a in let i = h.single x in absurd (omega arith))

  pub ready : (honest : ℕ → Bool) (c o : Name → ℕ) (s : Vat Name) → Steady script w v c o s → Ready script honest w v s
  ready honest c o s h = record {
    number = h.sound.same;
    ends = follows_end script v s h.sound.well h.later;
    draws = h.draws;
    answers = λ g i l. not_known c o s (Answer g (record { sender = v; number = i })) h (let n = new_answer v g (record { sender = v; number = i }) s refl l in omega arith);
    promises = λ i l. not_known c o s (Promise v i) h (let n = new_promise v i s l in omega arith);
  }

  -- ---- how often a name is known

  times_by : (x : Name) (ks : List (Known Name)) → times x ks ≤ claims v x ks
  unfolding times total claims fate.one knowing.one
  times_by x [] = omega arith
  times_by x (k ∷ ks) = let rest = times_by x ks in let here = once_least (same_name k.name x) in omega arith

  pub known_once : (c o : Name → ℕ) (s : Vat Name) → Steady script w v c o s → (x : Name) → times x s.known ≤ 1
  known_once c o s h x = let a = times_by x s.known in let b = h.single x in let d = allowed_once v x s s.drawn in omega arith

  -- ---- what is in hand

  owed_by : (c o : Name → ℕ) (s : Vat Name) (a : Name) → Steady script w v c o s → 1 ≤ c a → owed_at v a ≡ true
  unfolding share
  owed_by c o s a h l = go (owed_at v a) refl
    where
      go : (b : Bool) → owed_at v a ≡ b → owed_at v a ≡ true
      go true e = e
      go false e = let r = h.room a in let fits = r.fits in let t : share (owed_at v a) (times a s.known) ≡ 0 = ap (λ (z : Bool). share z (times a s.known)) e in absurd (omega arith)

  share_of : (b : Bool) (a : Name) → b ≡ true → share b (one a a) ≡ 0 → ⊥
  unfolding share
  share_of true a e z = let is = one_self a a refl in absurd (omega arith)
  share_of false a e z = cc

  -- a name for which there is room is the vat's own, and no gift
  pub hand_host : (c o : Name → ℕ) (s : Vat Name) (a : Name) → Steady script w v c o s → 1 ≤ c a → host_of a ≡ v
  hand_host c o s a h l = go (eq_dec (host_of a) v)
    where
      go : (host_of a ≡ v) ⊎ (host_of a ≡ v → ⊥) → host_of a ≡ v
      go (inl e) = e
      go (inr f) = absurd (share_of (owed_at v a) a (owed_by c o s a h l) (other_host v a a f))

  -- the answer of a message in hand
  pub hand_unsettled : (c o : Name → ℕ) (s : Vat Name) (a : Name) → Steady script w v c o s → 2 ≤ c a → (askings a s ≡ 0) × (standing_of K s.known a ≡ Unsettled)
  hand_unsettled c o s a h l = let e : 2 + (c a - 2) ≡ c a = omega arith in let r = hand_open script v s a (c a - 2) (subst (λ n. costs.At (draw_word script.key) v a (owed_at v a) n s) (sym e) (h.room a)) (known_once c o s h a) in (r.0, r.1)

  pub hand_owed : (c o : Name → ℕ) (s : Vat Name) (a : Name) → Steady script w v c o s → 1 ≤ c a → owed_at v a ≡ true
  hand_owed c o s a h l = owed_by c o s a h l

  -- ---- a message that goes on

  -- its answer at another host is not known, and it is numbered
  module _ (c o : Name → ℕ) (s : Vat Name) (h : ℕ) (m : Msg) (far : h ≡ v → ⊥) (g : Steady script w v c o s) (claimed : onward v (Answer h m) (Sent m) ≤ o (Answer h m)) where
    counts : 1 ≤ o (Answer h m)
    counts = let a = onward_least v h m (Sent m) far in let b = one_self (Sent m) (Sent m) refl in omega arith

    pub unknown : entry_of K s.known (Answer h m) ≡ None
    unknown = not_known c o s (Answer h m) g (let a = allowed_once v (Answer h m) s s.drawn in let b = counts in omega arith)

    pub before : m.sender ≡ v → suc m.number ≤ s.messages
    before e = go (made_or m.number s.messages)
      where
        go : (m.number < s.messages) ⊎ (s.messages ≤ m.number) → suc m.number ≤ s.messages
        go (inl l) = omega arith
        go (inr l) = let none = new_answer v h m s e l in let i = g.single (Answer h m) in let b = counts in absurd (omega arith)

-- ---- what settled, to data or to an object of a vat whose cut was not noticed

abbrev pub ClearSpot : List ℕ → Spot → Type 0
ClearSpot hs (Own i) = Unit {0}
ClearSpot hs (Foreign h) = is_in h hs ≡ false
ClearSpot hs NoObject = ⊥

abbrev pub IsClear : Naming Name Name → List ℕ → Value Name → Type 0
IsClear K hs (Ref n) = ClearSpot hs (K.spot n)
IsClear K hs other = Unit {0}

module _ (script : Script) (v : ℕ) where
  abbrev N : Naming Name Name
  N = names script v

  spot_clear : (s : Vat Name) (n : Name) (q : Spot) → ClearSpot s.noticed q → refs.severed_at N s n q ≡ Ref n
  unfolding refs.severed_at refs.severed_by
  spot_clear s n (Own i) h = refl
  spot_clear s n (Foreign g) h = ap (λ b. elim b [ true ↦ Broken (codes "partition") | false ↦ Ref n ]) h
  spot_clear s n NoObject h = absurd h

  pub severed_clear : (s : Vat Name) (y : Value Name) → IsClear N s.noticed y → refs.severed N s y ≡ y
  unfolding refs.severed
  severed_clear s (Ref n) h = spot_clear s n (N.spot n) h
  severed_clear s other h = refl

  pub follow_clear : (c o : Name → ℕ) (w : World) (s : Vat Name) (y : Value Name) → Steady script w v c o s → NoPromise y → IsClear N s.noticed y → refs.follow N s y ≡ y
  unfolding refs.follow
  follow_clear c o w s y h last clear = ap (refs.severed N s) (ended_self script v s.known h.sound.well (suc (length s.known)) y last) ∙ severed_clear s y clear

  settled_on : (d : ℕ) (ks : List (Known Name)) (p : Name) (y : Value Name) → standing_of N ks p ≡ Settled y → follow_at N (suc d) ks (Ref p) ≡ follow_at N d ks y
  unfolding follow_at refs.led
  settled_on d ks p y e = ap (λ t. refs.led N (λ z. follow_at N d ks z) p t) e

  -- a name that settled is followed to that
  pub follow_settled : (c o : Name → ℕ) (w : World) (s : Vat Name) (p : Name) (y : Value Name) → Steady script w v c o s → standing_of N s.known p ≡ Settled y → NoPromise y → IsClear N s.noticed y → refs.follow N s (Ref p) ≡ y
  unfolding refs.follow
  follow_settled c o w s p y h e last clear = ap (refs.severed N s) (settled_on (length s.known) s.known p y e ∙ ended_self script v s.known h.sound.well (length s.known) y last) ∙ severed_clear s y clear
