-- The claims on an answer: how often it is known, and the messages that are held for other hosts.
use Rattle.std.proofs.Common.{◌≡◌, ℕ, ◌+◌, ◌≤◌, Bool, true, false, List, [], ◌∷◌, refl, sym, ◌∙◌, inl, inr, arith, subst, ◌==◌, ◌&&◌}
use Rattle.std.proofs.lemmas.Bool.{eqb-true, eq-eqb}
use Rattle.def_machine.specs.Values.{Name, Answer, Sent, Msg, same_name, same_msg, answer_of, host_of}
use Rattle.def_machine.specs.State.{Message, Known}
use Rattle.law_fate.specs.Fates.Fate.{one as same_one, once as same_once, among}
use Rattle.law_fate.specs.Fates.Carry.{held_at}
use Rattle.law_fate.specs.Name.Names.{AllOf, IsAmong, IsMessageName, names_in}
use Rattle.law_fate.proofs.Name.SameNames.{same_self, same_is as is_same}
use Rattle.law_reference.specs.Reference.Knowing.{once, one, onward, onward_all, claims}

true_false : true ≡ false → ⊥
true_false e = cc

pub not_equal : (a b : ℕ) → (a ≡ b → ⊥) → (a == b) ≡ false
not_equal a b f = either (a == b) refl
  where
    either : (c : Bool) → (a == b) ≡ c → (a == b) ≡ false
    either true e = absurd (f (eqb-true a b e))
    either false e = e

pub once_least : (b : Bool) → same_once b ≤ once b
unfolding once same_once
once_least true = omega arith
once_least false = omega arith

pub once_most : (b : Bool) → once b ≤ same_once b
unfolding once same_once
once_most true = omega arith
once_most false = omega arith

nothing : same_once false ≡ 0
unfolding same_once
nothing = refl

at_least : (p q r : Bool) → p ≡ false → q ≡ true → same_once r ≤ elim p [ true ↦ 0 | false ↦ once (q && r) ]
at_least false true r e f = once_least r
at_least false false r e f = cc
at_least true q r e f = cc

zero_when : (p : Bool) (c : ℕ) → p ≡ true → ◌≡◌ {A = ℕ} (elim p [ true ↦ 0 | false ↦ c ]) 0
zero_when true c e = refl
zero_when false c e = cc

once_and : (q r : Bool) → q ≡ true → once (q && r) ≤ same_once r
once_and true r e = once_most r
once_and false r e = cc

-- what a message that is held counts for its answer at another host
pub onward_least : (v g : ℕ) (m : Msg) (id : Name) → (g ≡ v → ⊥) → same_one id (Sent m) ≤ onward v (Answer g m) id
unfolding onward one same_one same_name host_of
onward_least v g m (Sent n) f = at_least (g == v) (g == g) (same_msg n m) (not_equal g v f) (eq-eqb g g refl)
onward_least v g m other f = let z = nothing in omega arith

zero_or : (b : Bool) (c d : ℕ) → c ≤ d → elim b [ true ↦ 0 | false ↦ c ] ≤ d
zero_or true c d h = omega arith
zero_or false c d h = h

same_answer : (g : ℕ) (n m : Msg) → one (Answer g n) (Answer g m) ≤ same_once (same_msg n m)
unfolding one same_name
same_answer g n m = once_and (g == g) (same_msg n m) (eq-eqb g g refl)

pub onward_most : (v g : ℕ) (m : Msg) (id : Name) → IsMessageName id → onward v (Answer g m) id ≤ same_one id (Sent m)
unfolding onward same_one same_name host_of
onward_most v g m (Sent n) i = zero_or (g == v) (one (Answer g n) (Answer g m)) (same_once (same_msg n m)) (same_answer g n m)
onward_most v g m other i = absurd i

pub onward_own : (v : ℕ) (m : Msg) (id : Name) → IsMessageName id → onward v (Answer v m) id ≡ 0
unfolding onward host_of
onward_own v m (Sent n) i = zero_when (v == v) (one (Answer v n) (Answer v m)) (eq-eqb v v refl)
onward_own v m other i = absurd i

-- the answers that a message brings: here, or elsewhere
pub mail_most : (v g : ℕ) (m : Msg) (id : Name) → IsMessageName id → one (answer_of v id) (Answer g m) + onward v (Answer g m) id ≤ same_one id (Sent m)
unfolding onward same_one same_name host_of answer_of one once
mail_most v g m (Sent n) i = either (v == g) (g == v) refl refl
  where
    either : (b c : Bool) → (v == g) ≡ b → (g == v) ≡ c → once (b && same_msg n m) + elim c [ true ↦ 0 | false ↦ once ((g == g) && same_msg n m) ] ≤ same_once (same_msg n m)
    either true true e f = let l = once_most (same_msg n m) in omega arith
    either false true e f = omega arith
    either false false e f = let l = once_and (g == g) (same_msg n m) (eq-eqb g g refl) in omega arith
    either true false e f = absurd (true_false (sym (eq-eqb g v (sym (eqb-true v g e))) ∙ f))
mail_most v g m other i = absurd i

-- ---- sums

pub all_least : (v g : ℕ) (m : Msg) (ms : List (Message Name)) → (g ≡ v → ⊥) → among (Sent m) ms ≤ onward_all v (Answer g m) ms
unfolding among onward_all
all_least v g m [] f = omega arith
all_least v g m (n ∷ ms) f = let a = onward_least v g m n.id f in let b = all_least v g m ms f in omega arith

abbrev pub Mailed : List (Message Name) → Type 0
Mailed ms = AllOf (λ (n : Message Name). IsMessageName n.id) ms

all_most : (v g : ℕ) (m : Msg) (ms : List (Message Name)) → Mailed ms → onward_all v (Answer g m) ms ≤ among (Sent m) ms
unfolding among onward_all
all_most v g m [] h = omega arith
all_most v g m (n ∷ ms) h = let a = onward_most v g m n.id h.0 in let b = all_most v g m ms h.1 in omega arith

all_own : (v : ℕ) (m : Msg) (ms : List (Message Name)) → Mailed ms → onward_all v (Answer v m) ms ≡ 0
unfolding onward_all
all_own v m [] h = refl
all_own v m (n ∷ ms) h = let a = onward_own v m n.id h.0 in let b = all_own v m ms h.1 in omega arith

pub self_one : (x : Name) → one x x ≡ 1
unfolding one once
self_one x = rw (same_self x) refl

-- a name that is known is claimed
pub claims_known : (v : ℕ) (x : Name) (ks : List (Known Name)) → IsAmong x (names_in ks) → 1 ≤ claims v x ks
unfolding claims
claims_known v x [] h = absurd h
claims_known v x (k ∷ ks) (inl e) = let b : one k.name x ≡ 1 = subst (λ z. one k.name z ≡ 1) (sym e) (self_one k.name) in omega arith
claims_known v x (k ∷ ks) (inr h) = let a = claims_known v x ks h in omega arith

-- an answer of another host, and each message that is held for it
held_least : (v g : ℕ) (m : Msg) (ks : List (Known Name)) → (g ≡ v → ⊥) → held_at (Sent m) ks ≤ claims v (Answer g m) ks
unfolding claims held_at
held_least v g m [] f = omega arith
held_least v g m (k ∷ ks) f = let a = all_least v g m k.held f in let b = held_least v g m ks f in omega arith

pub claims_both : (v g : ℕ) (m : Msg) (ks : List (Known Name)) → (g ≡ v → ⊥) → IsAmong (Answer g m) (names_in ks) → 1 + held_at (Sent m) ks ≤ claims v (Answer g m) ks
unfolding claims held_at
claims_both v g m [] f h = absurd h
claims_both v g m (k ∷ ks) f (inl e) = let a = all_least v g m k.held f in let b = held_least v g m ks f in let d : one k.name (Answer g m) ≡ 1 = subst (λ z. one k.name z ≡ 1) (sym e) (self_one k.name) in omega arith
claims_both v g m (k ∷ ks) f (inr h) = let a = all_least v g m k.held f in let b = claims_both v g m ks f h in omega arith

not_one : (n x : Name) → (x ≡ n → ⊥) → one n x ≡ 0
unfolding one once
not_one n x f = either (same_name n x) refl
  where
    either : (b : Bool) → same_name n x ≡ b → once b ≡ 0
    either true e = absurd (f (sym (is_same n x e)))
    either false e = refl

-- an answer that is not known is claimed by what is held alone
pub claims_held : (v g : ℕ) (m : Msg) (ks : List (Known Name)) → AllOf (λ (k : Known Name). Mailed k.held) ks → (IsAmong (Answer g m) (names_in ks) → ⊥) → claims v (Answer g m) ks ≤ held_at (Sent m) ks
unfolding claims held_at
claims_held v g m [] h f = omega arith
claims_held v g m (k ∷ ks) h f = let a = all_most v g m k.held h.0 in let b = claims_held v g m ks h.1 (λ i. f (inr i)) in let c = not_one k.name (Answer g m) (λ e. f (inl e)) in omega arith

-- and one of the vat's own not at all
pub claims_own : (v : ℕ) (m : Msg) (ks : List (Known Name)) → AllOf (λ (k : Known Name). Mailed k.held) ks → (IsAmong (Answer v m) (names_in ks) → ⊥) → claims v (Answer v m) ks ≤ 0
unfolding claims
claims_own v m [] h f = omega arith
claims_own v m (k ∷ ks) h f = let a = all_own v m k.held h.0 in let b = claims_own v m ks h.1 (λ i. f (inr i)) in let c = not_one k.name (Answer v m) (λ e. f (inl e)) in omega arith
