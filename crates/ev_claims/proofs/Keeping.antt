-- A gift that has a name keeps it.
use Rattle.std.proofs.Common.{◌≡◌, ℕ, ◌<◌, ◌%◌, if◌then◌else◌, Bool, true, false, ◌||◌, ◌&&◌, nat_eq, List, [], ◌∷◌, ◌++◌, refl, sym, ap, ◌∙◌}
use Rattle.std.proofs.lemmas.Bool.{eqb-true}
use Rattle.def_machine.specs.Values.{key}
use Rattle.ev_base.specs.declared.names.Name.TheVariants as name
use Rattle.std.proofs.Math.Nat.{mod-eq_of_lt}
use Rattle.def_hostile.specs.Claims.{Claim, is_claim, is_claimed}
use Rattle.def_hostile.specs.Made.{claim_all, is_named, with_gifts}
use Rattle.ev_claims.specs.Gifts.{claiming, claims_of, has_gift, has_name, making, name_by}
use Rattle.ev_claims.specs.Statements.{NamedGiftsKeepTheirNames}
use Rattle.ev_claims.specs.declared.gift.GiftId.{GiftId}

-- ---- one more at the end

behind_by : (b : Bool) (x y : Bool) → elim b [ true ↦ true | false ↦ x || y ] ≡ (elim b [ true ↦ true | false ↦ x ] || y)
behind_by true x y = refl
behind_by false x y = refl

alone_by : (b : Bool) → elim b [ true ↦ true | false ↦ false ] ≡ (false || b)
alone_by true = refl
alone_by false = refl

claimed_behind : (cs : List Claim) (c : Claim) (h i : ℕ) → is_claimed (cs ++ c ∷ []) h i ≡ (is_claimed cs h i || is_claim h i c)
unfolding is_claimed
claimed_behind [] c h i = alone_by (is_claim h i c)
claimed_behind (d ∷ cs) c h i =
    ap (λ (x : Bool). elim (is_claim h i d) [ true ↦ true | false ↦ x ]) (claimed_behind cs c h i) ∙ behind_by (is_claim h i d) (is_claimed cs h i) (is_claim h i c)

both : (a b : Bool) → (a && b) ≡ true → (a ≡ true) × (b ≡ true)
both true true h = (refl, refl)
both true false h = absurd cc
both false b h = absurd cc

claim_is : (h i : ℕ) (c : Claim) → is_claim h i c ≡ true → (c.host ≡ h) × (c.number ≡ i)
unfolding is_claim
claim_is h i c e = let p = both (nat_eq c.host h) (nat_eq c.number i) e in (eqb-true c.host h p.0, eqb-true c.number i p.1)

-- ---- claims leave what has a name

or_by : (a b : Bool) → (a || b) ≡ false → (a ≡ false) × (b ≡ false)
or_by true b e = absurd cc
or_by false true e = absurd cc
or_by false false e = (refl, refl)

differ : (made cs : List Claim) (c : Claim) (h i : ℕ) (b : Bool) → is_claim h i c ≡ b → is_named made cs (record { host = h; number = i }) ≡ true → is_named made cs c ≡ false → b ≡ false
unfolding is_named
differ made cs c h i false e f g = refl
differ made cs c h i true e f g =
    let p = claim_is h i c e in
    let s : is_named made cs (record { host = h; number = i }) ≡ is_named made cs c = ap (λ (x : ℕ). is_named made cs (record { host = x; number = i })) (sym p.0) ∙ ap (λ (x : ℕ). is_named made cs (record { host = c.host; number = x })) (sym p.1) in
    let t : true ≡ false = sym f ∙ (s ∙ g) in cc

or_false : (a b : Bool) → b ≡ false → (a || b) ≡ a
or_false true b e = refl
or_false false true e = absurd cc
or_false false false e = refl

step_by : (b : Bool) (made cs : List Claim) (c : Claim) (h i : ℕ) → is_named made cs c ≡ b → is_named made cs (record { host = h; number = i }) ≡ true
    → is_claimed (elim b [ true ↦ cs | false ↦ cs ++ c ∷ [] ]) h i ≡ is_claimed cs h i
step_by true made cs c h i e f = refl
step_by false made cs c h i e f = claimed_behind cs c h i ∙ or_false (is_claimed cs h i) (is_claim h i c) (differ made cs c h i (is_claim h i c) refl f e)

-- a gift that has a name is claimed as before, whatever is claimed
pub claims_keep : (made gs cs : List Claim) (h i : ℕ) → is_named made cs (record { host = h; number = i }) ≡ true → is_claimed (claim_all made gs cs) h i ≡ is_claimed cs h i
unfolding claim_all is_named
claims_keep made [] cs h i f = refl
claims_keep made (c ∷ gs) cs h i f =
    let s = step_by (is_named made cs c) made cs c h i refl f in
    claims_keep made gs (elim (is_named made cs c) [ true ↦ cs | false ↦ cs ++ c ∷ [] ]) h i (ap (λ (x : Bool). x || is_claimed made h i) s ∙ f) ∙ s

-- ---- what is made stays made

grows_by : (b : Bool) (cs : List Claim) (c : Claim) (h i : ℕ) → is_claimed cs h i ≡ true → is_claimed (elim b [ true ↦ cs | false ↦ cs ++ c ∷ [] ]) h i ≡ true
grows_by true cs c h i e = e
grows_by false cs c h i e = claimed_behind cs c h i ∙ ap (λ (x : Bool). x || is_claim h i c) e

pub made_stays : (gs cs : List Claim) (h i : ℕ) → is_claimed cs h i ≡ true → is_claimed (with_gifts gs cs) h i ≡ true
unfolding with_gifts
made_stays [] cs h i e = e
made_stays (c ∷ gs) cs h i e = made_stays gs (elim (is_claimed cs c.host c.number) [ true ↦ cs | false ↦ cs ++ c ∷ [] ]) h i (grows_by (is_claimed cs c.host c.number) cs c h i e)

still : (a b c : Bool) → (a || b) ≡ true → (b ≡ true → c ≡ true) → (a || c) ≡ true
still true b c e f = refl
still false b c e f = f e

-- ---- names

named_alike : (place : ℕ → ℕ) (cs ds : List Claim) (g : GiftId) → g.provider < 16 → has_gift cs g ≡ has_gift ds g → name_by place cs g ≡ name_by place ds g
unfolding name_by has_gift
named_alike place cs ds g h e =
    let b : key (g.provider % 16) g.word ≡ key g.provider g.word = ap (λ (p : ℕ). key p g.word) (mod-eq_of_lt h) in
    let k : is_claimed cs g.host (key (g.provider % 16) g.word) ≡ is_claimed ds g.host (key (g.provider % 16) g.word) = ap (is_claimed cs g.host) b ∙ (e ∙ ap (is_claimed ds g.host) (sym b)) in
    ap (λ (x : Bool). if x then name.Claimed g.host (g.provider % 16) g.word else name.Gift g.host (place g.word)) k

pub named_gifts_keep_their_names : NamedGiftsKeepTheirNames
unfolding has_name has_gift claiming making is_named
named_gifts_keep_their_names place n g h e gs =
    let i = key g.provider g.word in
    let k : is_claimed (claim_all n.made (claims_of gs) n.claims) g.host i ≡ is_claimed n.claims g.host i = claims_keep n.made (claims_of gs) n.claims g.host i e in
    let f : (is_claimed (claim_all n.made (claims_of gs) n.claims) g.host i || is_claimed n.made g.host i) ≡ true = ap (λ (x : Bool). x || is_claimed n.made g.host i) k ∙ e in (
      record { named = f; same = named_alike place (claim_all n.made (claims_of gs) n.claims) n.claims g h k },
      record { named = still (is_claimed n.claims g.host i) (is_claimed n.made g.host i) (is_claimed (with_gifts (claims_of gs) n.made) g.host i) e (made_stays (claims_of gs) n.made g.host i); same = refl },
    )
