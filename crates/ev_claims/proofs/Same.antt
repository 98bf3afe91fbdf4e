-- Two gifts are one where their hosts and their keys are.
use Rattle.std.proofs.Common.{◌≡◌, ℕ, Bool, true, false, ◌&&◌, nat_eq, refl, sym, ap, subst, ◌∙◌}
use Rattle.std.proofs.lemmas.Bool.{eqb-true}
use Rattle.std.proofs.lemmas.Cmp.{nat_eq_equiv}
use Rattle.def_machine.specs.Values.{key, provider_of, word_of}
use Rattle.def_machine.proofs.Keys.{provider_key, word_key}
use Rattle.def_hostile.specs.Claims.{is_claim}
use Rattle.ev_claims.specs.Gifts.{claim_of}
use Rattle.ev_claims.specs.declared.gift.GiftId.{GiftId}

abbrev pub same_gift : GiftId → GiftId → Bool
same_gift a b = nat_eq a.host b.host && (nat_eq a.provider b.provider && nat_eq a.word b.word)

both : (a b : Bool) → (a && b) ≡ true → (a ≡ true) × (b ≡ true)
both true true h = (refl, refl)
both true false h = absurd cc
both false b h = absurd cc

joined : (a b : Bool) → a ≡ true → b ≡ true → (a && b) ≡ true
joined true true h k = refl
joined true false h k = absurd cc
joined false b h k = absurd cc

pub alike : (a b : Bool) → (a ≡ true → b ≡ true) → (b ≡ true → a ≡ true) → a ≡ b
alike true b h k = sym (h refl)
alike false true h k = k refl
alike false false h k = refl

pub equal_is : (a b : ℕ) → a ≡ b → nat_eq a b ≡ true
equal_is a b e = subst (λ (x : ℕ). nat_eq a x ≡ true) e (nat_eq_equiv.refl a)

-- a key tells its provider and its word
key_word : (p q w v : ℕ) → key p w ≡ key q v → w ≡ v
key_word p q w v e = sym (word_key p w) ∙ (ap word_of e ∙ word_key q v)

key_provider : (p q w v : ℕ) → key p w ≡ key q v → p ≡ q
key_provider p q w v e = sym (provider_key p w) ∙ (ap provider_of e ∙ provider_key q v)

pub same_is : (a b : GiftId) → same_gift a b ≡ is_claim a.host (key a.provider a.word) (claim_of b)
unfolding is_claim
same_is a b = alike (same_gift a b) (nat_eq b.host a.host && nat_eq (key b.provider b.word) (key a.provider a.word))
    (λ h.
    let p = both (nat_eq a.host b.host) (nat_eq a.provider b.provider && nat_eq a.word b.word) h in
    let q = both (nat_eq a.provider b.provider) (nat_eq a.word b.word) p.1 in
    let e = eqb-true a.host b.host p.0 in
    let f = eqb-true a.provider b.provider q.0 in
    let g = eqb-true a.word b.word q.1 in
    joined (nat_eq b.host a.host) (nat_eq (key b.provider b.word) (key a.provider a.word)) (equal_is b.host a.host (sym e))
    (equal_is (key b.provider b.word) (key a.provider a.word) (ap (λ (x : ℕ). key x b.word) (sym f) ∙ ap (λ (x : ℕ). key a.provider x) (sym g))))
    (λ h.
    let p = both (nat_eq b.host a.host) (nat_eq (key b.provider b.word) (key a.provider a.word)) h in
    let k = eqb-true (key b.provider b.word) (key a.provider a.word) p.1 in
    joined (nat_eq a.host b.host) (nat_eq a.provider b.provider && nat_eq a.word b.word) (equal_is a.host b.host (sym (eqb-true b.host a.host p.0)))
    (joined (nat_eq a.provider b.provider) (nat_eq a.word b.word) (equal_is a.provider b.provider (sym (key_provider b.provider a.provider b.word a.word k)))
    (equal_is a.word b.word (sym (key_word b.provider a.provider b.word a.word k)))))
