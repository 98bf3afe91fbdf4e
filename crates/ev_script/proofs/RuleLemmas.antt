-- What the rules say of each script that is read, rule by rule.
use Rattle.std.proofs.Common.{◌≡◌, ◌≢◌, ◌<◌, ◌+◌, ◌++◌, ◌&&◌, ◌||◌, ◌==◌, not, ℕ, zero, suc, Bool, true, false, List, [], ◌∷◌, Option, Some, None, All, AllPairs, length, map, slice_get, refl, sym, ap, ap₂, subst, arith, append_assoc, append-nil}
use Rattle.std.specs.Prelude.{option_map, option_and_then, if◌then◌else◌}
use Rattle.std.specs.List.{list_any}
use Rattle.std.specs.Str.{bytes_eq}
use Rattle.std.proofs.lemmas.Bool.Decides.{nat_tests}
use Rattle.std.proofs.lemmas.List.Elements.{All-nil, All-cons, All-head, All-tail}
use Rattle.std.proofs.lemmas.List.Kept.{AllPairs-cons}
use Rattle.std.proofs.lemmas.List.Quantifiers.{all_pairs_push}
use Rattle.std.proofs.lemmas.Slice.Eq.{bytes_eq-Decides}
use Rattle.ev_script.specs.Json.{each}
use Rattle.ev_script.specs.Vats.{differ, place_of, stand_once, are_others, known, known_from, names_of}
use Rattle.ev_script.specs.Rules.{KnowsOthers}
use Rattle.ev_script.specs.declared.vats.Described.{Described}
use Rattle.ev_script.specs.declared.script.VatScript.{VatScript}

-- ---- tests

pub both : (a b : Bool) → (a && b) ≡ true → (a ≡ true) × (b ≡ true)
both true b e = (refl, e)
both false b e = cc

pub untrue : (a : Bool) → not a ≡ true → a ≡ false
untrue true e = cc
untrue false e = refl

neither : (a b : Bool) → (a || b) ≡ false → (a ≡ false) × (b ≡ false)
neither true b e = cc
neither false b e = (refl, e)

pub chosen : {A : Type 0} (b : Bool) (x y : A) → (if b then Some x else None) ≡ Some y → (b ≡ true) × (x ≡ y)
chosen true x y e = (refl, cc)
chosen false x y e = cc

pub nat_apart : (x y : ℕ) → (x == y) ≡ false → x ≢ y
nat_apart x y e = grind (arith, nat_tests)

no_both : (t : Bool) → t ≡ false → t ≡ true → ⊥
no_both true e f = cc
no_both false e f = cc

word_apart : (a b : List ℕ) → bytes_eq a b ≡ false → a ≢ b
word_apart a b e = λ same. no_both (bytes_eq a b) e ((bytes_eq-Decides a b).1 same)

-- no word of these is that one
words_apart : (word : List ℕ) (words : List (List ℕ)) → list_any (bytes_eq word) words ≡ false → All (λ w. word ≢ w) words
words_apart word [] e = All-nil (λ w. word ≢ w)
words_apart word (w ∷ ws) e =
    let n = neither (bytes_eq word w) (list_any (bytes_eq word) ws) e in
    All-cons (λ v. word ≢ v) w ws (word_apart word w n.0) (words_apart word ws n.1)

pub numbers_apart : (k : ℕ) (ns : List ℕ) → list_any (λ n. n == k) ns ≡ false → All (λ n. n ≢ k) ns
numbers_apart k [] e = All-nil (λ n. n ≢ k)
numbers_apart k (n ∷ ns) e =
    let o = neither (n == k) (list_any (λ m. m == k) ns) e in
    All-cons (λ m. m ≢ k) n ns (nat_apart n k o.0) (numbers_apart k ns o.1)

-- ---- what a function answered for each item

pub answered : {A B : Type 0} (o : Option A) (f : A → Option B) (y : B) → option_and_then f o ≡ Some y → (x : A) × (o ≡ Some x) × (f x ≡ Some y)
answered (Some x) f y e = (x, refl, e)
answered None f y e = cc

pub some_same : {A : Type 0} {x y : A} → Some x ≡ Some y → x ≡ y
some_same e = cc

pub mapped : {A B : Type 0} (o : Option A) (f : A → B) (y : B) → option_map f o ≡ Some y → (x : A) × (o ≡ Some x) × (f x ≡ y)
mapped (Some x) f y e = (x, refl, cc)
mapped None f y e = cc

pub each_is : {A B : Type 0} (f : A → Option B) (P : B → Type 0) → ((x : A) (y : B) → f x ≡ Some y → P y) → (xs : List A) (ys : List B) → each f xs ≡ Some ys → All P ys × (length ys ≡ length xs)
each_is f P h [] ys e = let n : [] ≡ ys = some_same e in subst (λ zs. All P zs × (length zs ≡ 0)) n (All-nil P, refl)
each_is f P h (x ∷ xs) ys e =
    let a = answered (f x) (λ y. option_and_then (λ zs. Some (y ∷ zs)) (each f xs)) ys e in
    let b = answered (each f xs) (λ zs. Some (a.0 ∷ zs)) ys a.2 in
    let n : a.0 ∷ b.0 ≡ ys = some_same b.2 in
    let r = each_is f P h xs b.0 b.1 in
    subst (λ zs. All P zs × (length zs ≡ suc (length xs))) n (All-cons P a.0 b.0 (h x a.0 a.1) r.0, ap suc r.1)

-- ---- names that differ

pub names_differ : (words : List (List ℕ)) → differ words ≡ true → AllPairs ◌≢◌ words
names_differ [] e = λ i j d lt within. absurd (omega (arith, within))
names_differ (w ∷ ws) e =
    let b = both (not (list_any (bytes_eq w) ws)) (differ ws) e in
    AllPairs-cons ◌≢◌ w ws (words_apart w ws (untrue _ b.0)) (names_differ ws b.1)

-- ---- whom a vat knows

below_if : (b : Bool) (names : List (List ℕ)) (word : List ℕ) (k : ℕ) → ((m : ℕ) → place_of names word ≡ Some m → m < length names)
    → (if b then Some 0 else option_map suc (place_of names word)) ≡ Some k → k < suc (length names)
below_if true names word k below e = let z : 0 ≡ k = some_same e in omega (arith, z)
below_if false names word k below e =
    let m = mapped (place_of names word) suc k e in
    let l = below m.0 m.1 in
    let s = m.2 in
    omega (arith, l, s)

pub place_below : (names : List (List ℕ)) (word : List ℕ) (k : ℕ) → place_of names word ≡ Some k → k < length names
place_below [] word k e = cc
place_below (n ∷ names) word k e = below_if (bytes_eq word n) names word k (place_below names word) e

-- places that stand once, behind those before them
pub once : (before places : List ℕ) → stand_once before places ≡ true → AllPairs ◌≢◌ before → AllPairs ◌≢◌ (before ++ places)
once before [] e h = subst (AllPairs ◌≢◌) (sym (append-nil before)) h
once before (p ∷ ps) e h =
    let b = both (not (list_any (λ q. q == p) before)) (stand_once (before ++ p ∷ []) ps) e in
    let h' = all_pairs_push ◌≢◌ before p h (numbers_apart p before (untrue _ b.0)) in
    subst (AllPairs ◌≢◌) (append_assoc before (p ∷ []) ps) (once (before ++ p ∷ []) ps b.1 h')

others : (count self : ℕ) (places : List ℕ) → are_others self places ≡ true → All (λ k. k < count) places → All (λ k. (k < count) × (k ≢ self)) places × AllPairs ◌≢◌ places
others count self places e below =
    let b = both (not (list_any (λ p. p == self) places)) (stand_once [] places) e in
    let apart = numbers_apart self places (untrue _ b.0) in
    ((λ k d lt. (below k d lt, apart k d lt)), once [] places b.1 (λ i j d lt within. absurd (omega (arith, within))))

knows_others : (names : List (List ℕ)) (self : ℕ) (words : List (List ℕ)) (places : List ℕ) → known names self words ≡ Some places
    → All (λ k. (k < length names) × (k ≢ self)) places × AllPairs ◌≢◌ places
knows_others names self words places e =
    let a = answered (each (place_of names) words) (λ ps. if are_others self ps then Some ps else None) places e in
    let c = chosen (are_others self a.0) a.0 places a.2 in
    let below = (each_is (place_of names) (λ k. k < length names) (λ w k. place_below names w k) words a.0 a.1).0 in
    subst (λ ps. All (λ k. (k < length names) × (k ≢ self)) ps × AllPairs ◌≢◌ ps) c.1 (others (length names) self a.0 c.0 below)

-- ---- the vats, each with whom it knows

-- what is known of the vats that stand from a place on
abbrev pub FromPlace : ℕ → ℕ → List Described → List VatScript → Type 0
FromPlace count place [] vats = vats ≡ []
FromPlace count place (d ∷ ds) vats = (vat : VatScript) × (rest : List VatScript) × (vats ≡ vat ∷ rest) × (vat.name ≡ d.name) × (vat.source ≡ d.source) × KnowsOthers count place vat × FromPlace count (suc place) ds rest

pub vats_known : (names : List (List ℕ)) (place : ℕ) (ds : List Described) (vats : List VatScript) → known_from names place ds ≡ Some vats → FromPlace (length names) place ds vats
vats_known names place [] vats e = sym (some_same e)
vats_known names place (d ∷ ds) vats e =
    let a = answered (known names place d.knows) (λ knows. option_and_then (λ rest. Some (record { name = d.name; knows = knows; source = d.source } ∷ rest)) (known_from names (suc place) ds)) vats e in
    let b = answered (known_from names (suc place) ds) (λ rest. Some (record { name = d.name; knows = a.0; source = d.source } ∷ rest)) vats a.2 in
    (record { name = d.name; knows = a.0; source = d.source }, b.0, sym (some_same b.2), refl, refl, knows_others names place d.knows a.0 a.1, vats_known names (suc place) ds b.0 b.1)

pub same_names : (count place : ℕ) (ds : List Described) (vats : List VatScript) → FromPlace count place ds vats → (map (λ vat. vat.name) vats ≡ names_of ds) × (length vats ≡ length ds)
same_names count place [] vats h = rw h (refl, refl)
same_names count place (d ∷ ds) vats h =
    let r = same_names count (suc place) ds h.1 h.6 in
    let n = h.3 in
    rw h.2 (ap₂ ◌∷◌ n r.0, ap suc r.1)

pub each_vat : (Q : Described → Type 0) (P : VatScript → Type 0) (count place : ℕ) (ds : List Described) (vats : List VatScript) → FromPlace count place ds vats → All Q ds
    → ((d : Described) (vat : VatScript) → vat.name ≡ d.name → vat.source ≡ d.source → Q d → P vat) → All P vats
each_vat Q P count place [] vats h all f = subst (All P) (sym h) (All-nil P)
each_vat Q P count place (d ∷ ds) vats h all f =
    subst (All P) (sym h.2)
    (All-cons P h.0 h.1 (f d h.0 h.3 h.4 (All-head Q d ds all)) (each_vat Q P count (suc place) ds h.1 h.6 (All-tail Q d ds all) f))

-- the vat at a place
none_there : (vat : VatScript) → None ≡ Some vat → ⊥
none_there vat e = cc

vat_within : (count place : ℕ) (first : VatScript) (rest : List VatScript) → KnowsOthers count place first
    → ((i : ℕ) (vat : VatScript) → slice_get rest i ≡ Some vat → KnowsOthers count (i + suc place) vat)
    → (i : ℕ) (vat : VatScript) → slice_get (first ∷ rest) i ≡ Some vat → KnowsOthers count (i + place) vat
vat_within count place first rest k behind zero vat g =
    let m : place ≡ 0 + place = omega arith in
    subst (λ p. KnowsOthers count p vat) m (subst (KnowsOthers count place) (some_same g) k)
vat_within count place first rest k behind (suc i) vat g =
    let m : i + suc place ≡ suc i + place = omega arith in
    subst (λ p. KnowsOthers count p vat) m (behind i vat g)

pub vat_at : (count place : ℕ) (ds : List Described) (vats : List VatScript) → FromPlace count place ds vats → (i : ℕ) (vat : VatScript) → slice_get vats i ≡ Some vat → KnowsOthers count (i + place) vat
vat_at count place [] vats h i vat g = absurd (none_there vat (subst (λ vs. slice_get vs i ≡ Some vat) h g))
vat_at count place (d ∷ ds) vats h i vat g =
    vat_within count place h.0 h.1 h.5 (vat_at count (suc place) ds h.1 h.6) i vat (subst (λ vs. slice_get vs i ≡ Some vat) h.2 g)
