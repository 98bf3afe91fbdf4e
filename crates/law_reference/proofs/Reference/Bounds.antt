-- The claims on each name at a vat stay within what is allowed, by any step whose note brings what is new.
use Rattle.std.proofs.Common.{◌≡◌, ℕ, zero, suc, ◌+◌, ◌≤◌, Bool, true, false, List, [], ◌∷◌, Some, refl, sym, ap, ◌∙◌, arith, map, ◌==◌, inl, inr}
use Rattle.std.specs.Prelude.{slice_get, nat_le}
use Rattle.std.proofs.lemmas.Bool.{eqb-true, eq-eqb}
use Rattle.def_machine.specs.Values.{Name, Root, Object, Promise, Answer, Gift, Sent, same_name, word_of}
use Rattle.def_machine.specs.State.{Known, Vat, begun, is_in}
use Rattle.def_run.specs.World.{known_root}
use Rattle.law_machine.specs.Machine.Laws.{Stays}
use Rattle.law_fate.specs.Name.Names.{IsAmong, Once, names_in}
use Rattle.law_fate.proofs.Name.SameNames.{same_is, same_self, false_true}
use Rattle.law_reference.specs.Reference.Knowing.{once, one, onward_all, claims, numbered, numbered_at, Knowing}
use Rattle.law_reference.specs.Reference.NameTableRuns.{other, allowed}
use Rattle.law_reference.proofs.Reference.Positions.{one_position}
use Rattle.law_reference.proofs.Reference.Puts.{AllStay, in_among, among_in}

-- ---- numbers

once_most : (b : Bool) → once b ≤ 1
unfolding once
once_most true = omega arith
once_most false = omega arith

one_of : (b c : Bool) → elim b [ true ↦ 0 | false ↦ 1 ] + elim b [ true ↦ once c | false ↦ 0 ] ≤ 1
one_of true c = let most = once_most c in omega arith
one_of false c = omega arith

pub allowed_once : (v : ℕ) (x : Name) (s : Vat Name) (d : List ℕ) → allowed v x s d ≤ 1
unfolding allowed other numbered
allowed_once v (Promise w i) s d = one_of (v == w) (nat_le (suc i) s.promises)
allowed_once v (Answer h m) s d = one_of (v == m.sender) (nat_le (suc m.number) s.messages)
allowed_once v (Gift h i) s d = let most = once_most (is_in (word_of i) d) in omega arith
allowed_once v other s d = omega arith

true_false : true ≡ false → ⊥
true_false e = cc

more_or : (b c : Bool) → (b ≡ true → c ≡ true) → once b ≤ once c
unfolding once
more_or true true h = omega arith
more_or false c h = omega arith
more_or true false h = absurd (true_false (sym (h refl)))

in_more : (x : ℕ) (d e : List ℕ) → AllStay d e → is_in x d ≡ true → is_in x e ≡ true
in_more x d e h i = among_in x e (h x (in_among x d i))

pub allowed_more : (v : ℕ) (x : Name) (s : Vat Name) (d e : List ℕ) → AllStay d e → allowed v x s d ≤ allowed v x s e
unfolding allowed other numbered
allowed_more v (Gift a i) s d e h = let more = more_or (is_in (word_of i) d) (is_in (word_of i) e) (in_more (word_of i) d e h) in omega arith
allowed_more v other s d e h = omega arith

get_among : (xs : List ℕ) (i x : ℕ) → slice_get xs i ≡ Some x → IsAmong x xs
get_among [] i x e = cc
get_among (y ∷ ys) zero x e = inl (let f : x ≡ y = cc in f)
get_among (y ∷ ys) (suc i) x e = inr (get_among ys i x e)

among_get : (xs : List ℕ) (x : ℕ) → IsAmong x xs → (i : ℕ) × (slice_get xs i ≡ Some x)
among_get [] x a = absurd a
among_get (y ∷ ys) x (inl e) = (zero, ap Some (sym e))
among_get (y ∷ ys) x (inr a) = let r = among_get ys x a in (suc r.0, r.1)

-- where each keeps its place all are there
pub stays_all : (xs ys : List ℕ) → Stays xs ys → AllStay xs ys
stays_all xs ys h x a = let r = among_get xs x a in get_among ys r.0 x (h r.0 x r.1)

-- ---- a step

-- as vat v, once those words were drawn
abbrev pub Bounded : List ℕ → ℕ → Vat Name → Type 0
Bounded d v s = (s.number ≡ v) × ((x : Name) → claims v x s.known ≤ allowed v x s d)

pub bounded_more : (d e : List ℕ) (v : ℕ) (s : Vat Name) → AllStay d e → Bounded d v s → Bounded e v s
bounded_more d e v s h b = (b.0, λ x. let a = b.1 x in let c = allowed_more v x s d e h in omega arith)

pub step_bounded : (v : ℕ) (q t : Vat Name) (came : Name → ℕ) → q.number ≡ v → ((x : Name) → Knowing v x (came x) q t) → ((x : Name) → claims v x q.known + came x ≤ allowed v x q q.drawn) → Bounded t.drawn v t
unfolding allowed numbered_at
step_bounded v q t came e h b = ((h (Root v)).number e, λ x. let a = (h x).kept e in let c = b x in omega arith)

-- ---- what differs

one_self : (n : Name) → one n n ≡ 1
unfolding one once
one_self n = rw (same_self n) refl

among_claims : (v : ℕ) (n : Name) (ks : List (Known Name)) → IsAmong n (names_in ks) → 1 ≤ claims v n ks
unfolding claims
among_claims v n [] h = absurd h
among_claims v n (k ∷ ks) (inl e) = let self = one_self k.name in rw e (omega arith)
among_claims v n (k ∷ ks) (inr i) = let rest = among_claims v n ks i in omega arith

pub claims_once : (v : ℕ) (ks : List (Known Name)) → ((x : Name) → claims v x ks ≤ 1) → Once (names_in ks)
unfolding claims
claims_once v [] h = tt
claims_once v (k ∷ ks) h = (λ i. no i, claims_once v ks (λ x. let a = h x in omega arith))
  where
    no : IsAmong k.name (names_in ks) → ⊥
    no i = let a = among_claims v k.name ks i in let b = h k.name in let c = one_self k.name in absurd (omega arith)

pub differ : (ns : List Name) → Once ns → (i j : ℕ) (a b : Name) → slice_get ns i ≡ Some a → slice_get ns j ≡ Some b → same_name a b ≡ (i == j)
differ ns h i j a b e f = alike (same_name a b) (i == j) refl refl
  where
    some_is : Some a ≡ Some b → a ≡ b
    some_is g = cc

    alike : (c d : Bool) → same_name a b ≡ c → (i == j) ≡ d → c ≡ d
    alike true true g k = refl
    alike false false g k = refl
    alike true false g k = let n : a ≡ b = same_is a b g in absurd (false_true (sym k ∙ eq-eqb i j (one_position ns i j b h (e ∙ ap Some n) f)))
    alike false true g k = let n : i ≡ j = eqb-true i j k in let m : a ≡ b = some_is (sym e ∙ ap (λ z. slice_get ns z) n ∙ f) in absurd (false_true (sym g ∙ ap (λ z. same_name z b) m ∙ same_self b))

-- ---- the roots that are known from the start

no_root : (v u : ℕ) (us : List ℕ) → (IsAmong u us → ⊥) → claims v (Root u) (map known_root us) ≡ 0
unfolding claims known_root begun onward_all one once same_name
no_root v u [] h = refl
no_root v u (w ∷ us) h = let rest = no_root v u us (λ i. h (inr i)) in other_one (w == u) refl rest
  where
    other_one : (b : Bool) → (w == u) ≡ b → claims v (Root u) (map known_root us) ≡ 0 → once b + 0 + claims v (Root u) (map known_root us) ≡ 0
    other_one true e r = absurd (h (inl (sym (eqb-true w u e))))
    other_one false e r = omega arith

roots_once : (v u : ℕ) (us : List ℕ) → Once us → claims v (Root u) (map known_root us) ≤ 1
unfolding claims known_root begun onward_all one once same_name
roots_once v u [] h = omega arith
roots_once v u (w ∷ us) h = first (w == u) refl (roots_once v u us h.1)
  where
    first : (b : Bool) → (w == u) ≡ b → claims v (Root u) (map known_root us) ≤ 1 → once b + 0 + claims v (Root u) (map known_root us) ≤ 1
    first true e r = let none = no_root v u us (λ i. h.0 (rw (sym (eqb-true w u e)) at i)) in omega arith
    first false e r = omega arith

-- what is no root is not claimed
no_claim : (v : ℕ) (x : Name) (us : List ℕ) → ((w : ℕ) → one (Root w) x ≡ 0) → claims v x (map known_root us) ≡ 0
unfolding claims known_root begun onward_all
no_claim v x [] h = refl
no_claim v x (w ∷ us) h = let rest = no_claim v x us h in let none = h w in omega arith

pub roots_allowed : (v : ℕ) (us : List ℕ) (s : Vat Name) (d : List ℕ) → Once us → (x : Name) → claims v x (map known_root us) ≤ allowed v x s d
unfolding allowed other one same_name once
roots_allowed v us s d h (Root u) = let a = roots_once v u us h in omega arith
roots_allowed v us s d h (Object w i) = let a = no_claim v (Object w i) us (λ u. refl) in omega arith
roots_allowed v us s d h (Promise w i) = let a = no_claim v (Promise w i) us (λ u. refl) in omega arith
roots_allowed v us s d h (Answer w m) = let a = no_claim v (Answer w m) us (λ u. refl) in omega arith
roots_allowed v us s d h (Gift w i) = let a = no_claim v (Gift w i) us (λ u. refl) in omega arith
roots_allowed v us s d h (Sent m) = let a = no_claim v (Sent m) us (λ u. refl) in omega arith
