-- How many names of a vat have not settled, and which names it knows, as what is known of names changes.
use Rattle.std.proofs.Common.{◌≡◌, ℕ, zero, suc, ◌+◌, ◌≤◌, Bool, true, false, List, [], ◌∷◌, ◌++◌, Option, Some, None, refl, ap, subst, length, arith}
use Rattle.def_machine.specs.Values.{Value, Naming}
use Rattle.def_machine.specs.State.{Standing, Settled, Known, Change, Hold, Settle, with_change, changed, changed_to, unless_settled}
use Rattle.def_machine.specs.Refs.{entry_of}
use Rattle.law_fate.specs.Name.Names.{AllOf}

-- one, where it has not settled
unfoldable pub open_one : {N : Type 0} → Standing N → ℕ
open_one (Settled y) = zero
open_one other = suc zero

-- how many of the first so many names have not settled
unfoldable pub open_of : {N : Type 0} → ℕ → List (Known N) → ℕ
open_of zero ks = zero
open_of (suc b) [] = zero
open_of (suc b) (k ∷ ks) = open_one k.standing + open_of b ks

open_most : {N : Type 0} (t : Standing N) → open_one t ≤ suc zero
unfolding open_one
open_most (Settled y) = omega arith
open_most other = omega arith

open_changed : {N : Type 0} (c : Change N) (t : Standing N) (k new : Known N) → k.standing ≡ t → open_one (unless_settled t k new).standing ≤ open_one k.standing
unfolding unless_settled open_one
open_changed c (Settled y) k new e = omega arith
open_changed c other k new e = let l = open_most new.standing in let f : open_one k.standing ≡ suc zero = ap open_one e in omega arith

-- no more than there are
pub open_length : {N : Type 0} (b : ℕ) (ks : List (Known N)) → open_of b ks ≤ b
unfolding open_of
open_length zero ks = omega arith
open_length (suc b) [] = omega arith
open_length (suc b) (k ∷ ks) = let l = open_most k.standing in let m = open_length b ks in omega arith

pub either : {A : Type 0} (P : A → Type 0) (x : Bool) (a b : A) → P a → P b → P (elim x [ true ↦ a | false ↦ b ])
either P true a b h i = h
either P false a b h i = i

pub open_zero : {N : Type 0} (ks : List (Known N)) → open_of zero ks ≤ zero
unfolding open_of
open_zero ks = omega arith

module _ {N W : Type 0} (K : Naming N W) where
  -- whether an entry of that name is among the first so many
  unfoldable pub found : ℕ → List (Known N) → N → Bool
  found zero ks n = false
  found (suc b) [] n = false
  found (suc b) (k ∷ ks) n = elim (K.same k.name n) [ true ↦ true | false ↦ found b ks n ]

  -- ---- a change of what is known

  pub to_name : (c : Change N) (k : Known N) → (changed_to c k).name ≡ k.name
  unfolding changed_to
  to_name (Hold m) k = refl
  to_name other k = refl

  unless_name : (t : Standing N) (k new : Known N) → new.name ≡ k.name → (unless_settled t k new).name ≡ k.name
  unfolding unless_settled
  unless_name (Settled y) k new e = refl
  unless_name other k new e = e

  changed_same : (c : Change N) (k : Known N) (n : N) → K.same (changed c k).name n ≡ K.same k.name n
  unfolding changed
  changed_same c k n = ap (λ x. K.same x n) (unless_name k.standing k (changed_to c k) (to_name c k))

  pub length_change : (c : Change N) (n : N) (ks : List (Known N)) → length (with_change K c n ks) ≡ length ks
  unfolding with_change
  length_change c n [] = refl
  length_change c n (k ∷ ks) = either (λ js. length js ≡ suc (length ks)) (K.same k.name n) (changed c k ∷ ks) (k ∷ with_change K c n ks) refl (ap suc (length_change c n ks))

  pub open_change : (c : Change N) (n : N) (b : ℕ) (ks : List (Known N)) → open_of b (with_change K c n ks) ≤ open_of b ks
  unfolding with_change changed open_of
  open_change c n zero ks = omega arith
  open_change c n (suc b) [] = omega arith
  open_change c n (suc b) (k ∷ ks) = let l = open_changed c k.standing k (changed_to c k) refl in let m = open_change c n b ks in
      either (λ js. open_of (suc b) js ≤ open_of (suc b) (k ∷ ks)) (K.same k.name n) (changed c k ∷ ks) (k ∷ with_change K c n ks) (omega arith) (omega arith)

  found_head : (x y : Bool) → y ≡ x → (r q : Bool) → (r ≡ true → q ≡ true) → elim x [ true ↦ true | false ↦ r ] ≡ true → elim y [ true ↦ true | false ↦ q ] ≡ true
  found_head true true e r q f h = refl
  found_head false false e r q f h = f h
  found_head true false e r q f h = cc
  found_head false true e r q f h = refl

  pub found_change : (c : Change N) (n : N) (b : ℕ) (ks : List (Known N)) (m : N) → found b ks m ≡ true → found b (with_change K c n ks) m ≡ true
  unfolding with_change found
  found_change c n zero ks m h = h
  found_change c n (suc b) [] m h = h
  found_change c n (suc b) (k ∷ ks) m h = go (K.same k.name n) (found_change c n b ks m)
    where
      go : (x : Bool) → (found b ks m ≡ true → found b (with_change K c n ks) m ≡ true) → found (suc b) (elim x [ true ↦ changed c k ∷ ks | false ↦ k ∷ with_change K c n ks ]) m ≡ true
      go true f = found_head (K.same k.name m) (K.same (changed c k).name m) (changed_same c k m) (found b ks m) (found b ks m) (λ e. e) h
      go false f = found_head (K.same k.name m) (K.same k.name m) refl (found b ks m) (found b (with_change K c n ks) m) f h

  none_head : (x y : Bool) → y ≡ x → (k j : Known N) (o p : Option (Known N)) → (o ≡ None → p ≡ None) → ◌≡◌ {A = Option (Known N)} (elim x [ true ↦ Some k | false ↦ o ]) None → ◌≡◌ {A = Option (Known N)} (elim y [ true ↦ Some j | false ↦ p ]) None
  none_head true true e k j o p f h = cc
  none_head false false e k j o p f h = f h
  none_head true false e k j o p f h = cc
  none_head false true e k j o p f h = cc

  pub none_change : (c : Change N) (n : N) (ks : List (Known N)) (m : N) → entry_of K ks m ≡ None → entry_of K (with_change K c n ks) m ≡ None
  unfolding with_change entry_of
  none_change c n [] m h = h
  none_change c n (k ∷ ks) m h = go (K.same k.name n) (none_change c n ks m)
    where
      go : (x : Bool) → (entry_of K ks m ≡ None → entry_of K (with_change K c n ks) m ≡ None) → entry_of K (elim x [ true ↦ changed c k ∷ ks | false ↦ k ∷ with_change K c n ks ]) m ≡ None
      go true f = none_head (K.same k.name m) (K.same (changed c k).name m) (changed_same c k m) k (changed c k) (entry_of K ks m) (entry_of K ks m) (λ e. e) h
      go false f = none_head (K.same k.name m) (K.same k.name m) refl k k (entry_of K ks m) (entry_of K (with_change K c n ks) m) f h

  -- ---- a name that comes to be known

  pub open_end : (b : ℕ) (ks : List (Known N)) (k : Known N) → b ≤ length ks → open_of b (ks ++ k ∷ []) ≡ open_of b ks
  unfolding open_of
  open_end zero ks k l = refl
  open_end (suc b) [] k l = absurd (omega arith)
  open_end (suc b) (j ∷ ks) k l = ap (λ x. open_one j.standing + x) (open_end b ks k (omega arith))

  pub length_end : (ks : List (Known N)) (k : Known N) → length (ks ++ k ∷ []) ≡ suc (length ks)
  length_end [] k = refl
  length_end (j ∷ ks) k = ap suc (length_end ks k)

  pub found_end : (b : ℕ) (ks : List (Known N)) (k : Known N) (n : N) → found b ks n ≡ true → found b (ks ++ k ∷ []) n ≡ true
  unfolding found
  found_end zero ks k n h = h
  found_end (suc b) [] k n h = cc
  found_end (suc b) (j ∷ ks) k n h = found_head (K.same j.name n) (K.same j.name n) refl (found b ks n) (found b (ks ++ k ∷ []) n) (found_end b ks k n) h

  pub none_end : (ks : List (Known N)) (k : Known N) (n : N) → K.same k.name n ≡ false → entry_of K ks n ≡ None → entry_of K (ks ++ k ∷ []) n ≡ None
  unfolding entry_of
  none_end [] k n e h = rw e refl
  none_end (j ∷ ks) k n e h = none_head (K.same j.name n) (K.same j.name n) refl j j (entry_of K ks n) (entry_of K (ks ++ k ∷ []) n) (none_end ks k n e) h

  -- an entry that is found
  pub entry_all : (Q : Known N → Type 0) (ks : List (Known N)) (n : N) (k : Known N) → AllOf Q ks → entry_of K ks n ≡ Some k → Q k
  unfolding entry_of
  entry_all Q [] n k h e = cc
  entry_all Q (j ∷ ks) n k h e = go (K.same j.name n) (entry_all Q ks n k h.1) e
    where
      go : (x : Bool) → (entry_of K ks n ≡ Some k → Q k) → ◌≡◌ {A = Option (Known N)} (elim x [ true ↦ Some j | false ↦ entry_of K ks n ]) (Some k) → Q k
      go true i f = let same : j ≡ k = cc in subst Q same h.0
      go false i f = i f

  pub found_entry : (ks : List (Known N)) (n : N) (k : Known N) → entry_of K ks n ≡ Some k → found (length ks) ks n ≡ true
  unfolding entry_of found
  found_entry [] n k e = cc
  found_entry (j ∷ ks) n k e = go (K.same j.name n) (found_entry ks n k) e
    where
      go : (x : Bool) → (entry_of K ks n ≡ Some k → found (length ks) ks n ≡ true) → ◌≡◌ {A = Option (Known N)} (elim x [ true ↦ Some j | false ↦ entry_of K ks n ]) (Some k) → elim x [ true ↦ true | false ↦ found (length ks) ks n ] ≡ true
      go true i f = refl
      go false i f = i f

  settled_open : (t : Standing N) (k new : Known N) → open_one t ≡ suc zero → open_one new.standing ≡ zero → open_one (unless_settled t k new).standing ≡ zero
  unfolding unless_settled open_one
  settled_open (Settled y) k new e f = cc
  settled_open other k new e f = f

  settle_open : (y : Value N) (k : Known N) → open_one (changed_to (Settle y) k).standing ≡ zero
  unfolding changed_to open_one
  settle_open y k = refl

  -- one less is left to settle
  pub less_settled : (y : Value N) (p : N) (b : ℕ) (ks : List (Known N)) (k : Known N) → entry_of K ks p ≡ Some k → found b ks p ≡ true → open_one k.standing ≡ suc zero → suc (open_of b (with_change K (Settle y) p ks)) ≤ open_of b ks
  unfolding entry_of found with_change open_of changed
  less_settled y p b [] k e f l = cc
  less_settled y p zero (j ∷ ks) k e f l = cc
  less_settled y p (suc b) (j ∷ ks) k e f l = go (K.same j.name p) (λ i h. less_settled y p b ks k i h l) e f
    where
      go : (x : Bool) → (entry_of K ks p ≡ Some k → found b ks p ≡ true → suc (open_of b (with_change K (Settle y) p ks)) ≤ open_of b ks)
          → ◌≡◌ {A = Option (Known N)} (elim x [ true ↦ Some j | false ↦ entry_of K ks p ]) (Some k) → elim x [ true ↦ true | false ↦ found b ks p ] ≡ true
          → suc (open_of (suc b) (elim x [ true ↦ changed (Settle y) j ∷ ks | false ↦ j ∷ with_change K (Settle y) p ks ])) ≤ open_of (suc b) (j ∷ ks)
      go true r i h = let same : j ≡ k = cc in let o : open_one j.standing ≡ suc zero = rw same l in let z : open_one (unless_settled j.standing j (changed_to (Settle y) j)).standing ≡ zero = settled_open j.standing j (changed_to (Settle y) j) o (settle_open y j) in omega arith
      go false r i h = let d = r i h in omega arith
