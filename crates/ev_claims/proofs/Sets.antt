-- Sets of gifts, as lists of what is claimed.
use Rattle.std.proofs.Common.{◌≡◌, ℕ, suc, ◌+◌, ◌<◌, ◌≤◌, Bool, true, false, ◌||◌, if◌then◌else◌, List, [], ◌∷◌, ◌++◌, drop, get_or, length, refl, sym, ap, subst, ◌∙◌, arith}
use Rattle.std.specs.List.{list_any}
use Rattle.std.proofs.Math.Seq.{drop-cons}
use Rattle.std.proofs.lemmas.List.{drop_all, map-append}
use Rattle.indexmap.specs.IndexSet.{insert_key}
use Rattle.def_machine.specs.Values.{key}
use Rattle.def_hostile.specs.Claims.{Claim, is_claim, is_claimed}
use Rattle.def_hostile.specs.Made.{claim_all, is_named, with_gifts}
use Rattle.ev_claims.specs.Gifts.{Named, claim_of, claiming, claims_of, has_gift, has_name, making, with_gift}
use Rattle.ev_claims.specs.declared.gift.GiftId.{GiftId}
use Rattle.ev_claims.proofs.Same.{same_gift, same_is}

-- ---- one set

either : (a b x y : Bool) → a ≡ b → x ≡ y → (a || x) ≡ elim b [ true ↦ true | false ↦ y ]
either true true x y e f = refl
either false false x y e f = f
either true false x y e f = absurd cc
either false true x y e f = absurd cc

any_is : (g : GiftId) (ks : List GiftId) → list_any (same_gift g) ks ≡ is_claimed (claims_of ks) g.host (key g.provider g.word)
unfolding is_claimed
any_is g [] = refl
any_is g (k ∷ ks) = either (same_gift g k) (is_claim g.host (key g.provider g.word) (claim_of k)) (list_any (same_gift g) ks) (is_claimed (claims_of ks) g.host (key g.provider g.word)) (same_is g k) (any_is g ks)

pub contained : (g : GiftId) (ks : List GiftId) (cs : List Claim) → claims_of ks ≡ cs → list_any (same_gift g) ks ≡ has_gift cs g
unfolding has_gift
contained g ks cs e = any_is g ks ∙ ap (λ (xs : List Claim). is_claimed xs g.host (key g.provider g.word)) e

inserted_by : (a b : Bool) (g : GiftId) (ks : List GiftId) → a ≡ b → claims_of (if a then ks else ks ++ g ∷ []) ≡ elim b [ true ↦ claims_of ks | false ↦ claims_of ks ++ claim_of g ∷ [] ]
inserted_by true true g ks e = refl
inserted_by false false g ks e = map-append claim_of ks (g ∷ [])
inserted_by true false g ks e = absurd cc
inserted_by false true g ks e = absurd cc

pub inserted : (g : GiftId) (ks ls : List GiftId) (cs : List Claim) → claims_of ks ≡ cs → ls ≡ insert_key same_gift ks g → claims_of ls ≡ with_gift g cs
unfolding with_gift with_gifts
inserted g ks ls cs e f =
    ap claims_of f ∙ (inserted_by (list_any (same_gift g) ks) (is_claimed (claims_of ks) g.host (key g.provider g.word)) g ks (any_is g ks)
    ∙ ap (λ (xs : List Claim). with_gifts (claim_of g ∷ []) xs) e)

-- ---- what has a name

pub name_found : (n : Named) (g : GiftId) (a b : Bool) → a ≡ has_gift n.claims g → b ≡ has_gift n.made g → (a || b) ≡ has_name n g
unfolding has_name has_gift is_named
name_found n g a b e f = ap (λ (x : Bool). x || b) e ∙ ap (λ (y : Bool). has_gift n.claims g || y) f

pub made_one : (n m : Named) (g : GiftId) → m.claims ≡ n.claims → m.made ≡ with_gift g n.made → m ≡ making (g ∷ []) n
unfolding making with_gift
made_one n m g e f = λ i. record { made = f i; claims = e i }

claimed_by : (b : Bool) (cs : List Claim) (c : Claim) → b ≡ true → elim b [ true ↦ cs | false ↦ cs ++ c ∷ [] ] ≡ cs
claimed_by true cs c e = refl
claimed_by false cs c e = absurd cc

-- one that has a name is not claimed
pub claimed_not : (n : Named) (g : GiftId) → has_name n g ≡ true → n ≡ claiming (g ∷ []) n
unfolding claiming claim_all has_name
claimed_not n g e = ap (λ (cs : List Claim). record { made = n.made; claims = cs }) (sym (claimed_by (is_named n.made n.claims (claim_of g)) n.claims (claim_of g) e))

unnamed_by : (a b : Bool) (cs : List Claim) (c : Claim) → (a || b) ≡ false → (◌≡◌ {A = List Claim} (elim a [ true ↦ cs | false ↦ cs ++ c ∷ [] ]) (elim (a || b) [ true ↦ cs | false ↦ cs ++ c ∷ [] ]))
unnamed_by true b cs c e = refl
unnamed_by false true cs c e = absurd cc
unnamed_by false false cs c e = refl

-- and one that has none is
pub claimed_one : (n m : Named) (g : GiftId) → has_name n g ≡ false → m.made ≡ n.made → m.claims ≡ with_gift g n.claims → m ≡ claiming (g ∷ []) n
unfolding claiming claim_all has_name with_gift with_gifts is_named
claimed_one n m g e f h =
    let k = h ∙ unnamed_by (is_claimed n.claims g.host (key g.provider g.word)) (is_claimed n.made g.host (key g.provider g.word)) n.claims (claim_of g) e in
    λ i. record { made = f i; claims = k i }

-- the same where the parts are looked at
pub made_part : (n : Named) (ms cs more : List Claim) (g : GiftId) → record { made = ms; claims = cs } ≡ n → more ≡ with_gift g ms → record { made = more; claims = cs } ≡ making (g ∷ []) n
made_part n ms cs more g e f = subst (λ (x : Named). record { made = more; claims = cs } ≡ making (g ∷ []) x) e (made_one (record { made = ms; claims = cs }) (record { made = more; claims = cs }) g refl f)

pub claimed_part : (n : Named) (ms cs more : List Claim) (g : GiftId) → record { made = ms; claims = cs } ≡ n → has_name n g ≡ false → more ≡ with_gift g cs → record { made = ms; claims = more } ≡ claiming (g ∷ []) n
claimed_part n ms cs more g e h f =
    subst (λ (x : Named). record { made = ms; claims = more } ≡ claiming (g ∷ []) x) e
    (claimed_one (record { made = ms; claims = cs }) (record { made = ms; claims = more }) g (ap (λ (x : Named). has_name x g) e ∙ h) refl f)

-- ---- many, one after the other

pub made_start : (gs : List GiftId) (n : Named) → making (drop 0 gs) n ≡ making gs n
made_start gs n = refl

pub made_next : (gs : List GiftId) (i : ℕ) (g : GiftId) (start now after : Named) → i < length gs → g ≡ get_or gs i g → making (drop i gs) now ≡ making gs start → after ≡ making (g ∷ []) now → making (drop (i + 1) gs) after ≡ making gs start
unfolding making with_gifts
made_next gs i g start now after lt at e f =
    let s : i + 1 ≡ suc i = omega arith in
    let d : drop i gs ≡ g ∷ drop (suc i) gs = drop-cons gs i g lt ∙ ap (λ (x : GiftId). x ∷ drop (suc i) gs) (sym at) in
    ap (λ (j : ℕ). making (drop j gs) after) s ∙ (ap (making (drop (suc i) gs)) f ∙ (ap (λ (xs : List GiftId). making xs now) (sym d) ∙ e))

pub made_all : (gs : List GiftId) (i : ℕ) (start now : Named) → length gs ≤ i → making (drop i gs) now ≡ making gs start → now ≡ making gs start
unfolding making with_gifts
made_all gs i start now le e = ap (λ (xs : List GiftId). making xs now) (sym (drop_all i gs le)) ∙ e

pub claimed_next : (gs : List GiftId) (i : ℕ) (g : GiftId) (start now after : Named) → i < length gs → g ≡ get_or gs i g → claiming (drop i gs) now ≡ claiming gs start → after ≡ claiming (g ∷ []) now → claiming (drop (i + 1) gs) after ≡ claiming gs start
unfolding claiming claim_all
claimed_next gs i g start now after lt at e f =
    let s : i + 1 ≡ suc i = omega arith in
    let d : drop i gs ≡ g ∷ drop (suc i) gs = drop-cons gs i g lt ∙ ap (λ (x : GiftId). x ∷ drop (suc i) gs) (sym at) in
    ap (λ (j : ℕ). claiming (drop j gs) after) s ∙ (ap (claiming (drop (suc i) gs)) f ∙ (ap (λ (xs : List GiftId). claiming xs now) (sym d) ∙ e))

pub claimed_all : (gs : List GiftId) (i : ℕ) (start now : Named) → length gs ≤ i → claiming (drop i gs) now ≡ claiming gs start → now ≡ claiming gs start
unfolding claiming claim_all
claimed_all gs i start now le e = ap (λ (xs : List GiftId). claiming xs now) (sym (drop_all i gs le)) ∙ e
