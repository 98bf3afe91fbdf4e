-- Whom the vats of a script know, and who knows a vat.
use Rattle.std.proofs.Common.{◌≡◌, ◌≢◌, ◌==◌, ◌||◌, ◌+◌, ◌<◌, ◌≤◌, ℕ, zero, suc, Bool, true, false, List, [], ◌∷◌, ◌++◌, Some, All, append_assoc, append-nil, drop, fold, get_or, length, map, nat_eq, slice_get, take, refl, sym, ap, ◌∙◌, arith}
use Rattle.std.specs.List.{list_any}
use Rattle.std.proofs.lemmas.Bool.Decides.{nat_tests}
use Rattle.std.proofs.lemmas.Cmp.{nat_eq_equiv}
use Rattle.std.proofs.lemmas.List.{drop_all, drop_more, map-append, take_more}
use Rattle.std.proofs.lemmas.List.Elements.{All-head, All-tail}
use Rattle.def_kernel.specs.declared.node.Node.{Node}
use Rattle.def_machine.specs.State.{is_in, with_vat}
use Rattle.def_machine.specs.Values.{Words}
use Rattle.def_run.specs.World.{Program, knowers, name_at}
use Rattle.ev_script.specs.declared.script.VatScript.{VatScript}
use Rattle.ev_resident.specs.Rooted.{each_once}
use Rattle.ev_world.specs.Starting.{bare, bare_from}
use Rattle.law_schedule.specs.Scripts.{machine_vats}

pub some_is : {A : Type 0} {x y : A} → Some x ≡ Some y → x ≡ y
some_is e = cc

-- ---- whether a vat is among some

pub apart : (m n : ℕ) → m ≢ n → (m == n) ≡ false
apart m n ne = grind (arith, nat_tests)

abbrev pub or_in : Bool → Bool → Bool
or_in b c = elim b [ true ↦ true | false ↦ c ]

pub absent : (v : ℕ) (vs : List ℕ) → All (λ w. w ≢ v) vs → is_in v vs ≡ false
unfolding is_in
absent v [] all = refl
absent v (w ∷ ws) all =
    ap (λ (b : Bool). or_in b (is_in v ws)) (apart v w (λ e. All-head (λ u. u ≢ v) w ws all (sym e))) ∙ absent v ws (All-tail (λ u. u ≢ v) w ws all)

among_either : (b c d : Bool) → c ≡ d → (b || c) ≡ or_in b d
among_either true c d e = refl
among_either false c d e = e

-- in the words of a slice's `contains`
pub among : (v : ℕ) (vs : List ℕ) → list_any (λ w. nat_eq w v) vs ≡ is_in v vs
unfolding is_in
among v [] = refl
among v (w ∷ ws) = ap (λ (b : Bool). b || list_any (λ u. nat_eq u v) ws) (nat_eq_equiv.symm w v) ∙ among_either (v == w) (list_any (λ u. nat_eq u v) ws) (is_in v ws) (among v ws)

-- ---- who knows a vat, by those at a place and behind it

abbrev with_knower : Bool → ℕ → List ℕ → List ℕ
with_knower b k ks = elim b [ true ↦ k ∷ ks | false ↦ ks ]

knowers_at : (v k : ℕ) (vats : List VatScript) (vat : VatScript) (b : Bool) → k < length vats → vat ≡ get_or vats k vat → b ≡ list_any (λ w. nat_eq w v) vat.knows
    → knowers v k (bare_from k (drop k vats)) ≡ with_knower b k (knowers v (k + 1) (bare_from (k + 1) (drop (k + 1) vats)))
unfolding knowers
knowers_at v k vats vat b less here e =
    let next : suc k ≡ k + 1 = omega arith in
    let rest = drop (k + 1) vats in
    ap (λ (xs : List VatScript). knowers v k (bare_from k xs)) (drop_more vats k vat less ∙ ap (λ (x : VatScript). x ∷ rest) (sym here))
    ∙ ap (λ (x : Bool). with_knower x k (knowers v (suc k) (bare_from (suc k) rest))) (sym (e ∙ among v vat.knows))
    ∙ ap (λ (j : ℕ). with_knower b k (knowers v j (bare_from j rest))) next

pub knower_next : (v k : ℕ) (vats : List VatScript) (vat : VatScript) (front after total : List ℕ) → k < length vats → vat ≡ get_or vats k vat → true ≡ list_any (λ w. nat_eq w v) vat.knows → after ≡ front ++ k ∷ []
    → front ++ knowers v k (bare_from k (drop k vats)) ≡ total → after ++ knowers v (k + 1) (bare_from (k + 1) (drop (k + 1) vats)) ≡ total
knower_next v k vats vat front after total less here e grown so_far =
    let rest = knowers v (k + 1) (bare_from (k + 1) (drop (k + 1) vats)) in
    ap (λ (ks : List ℕ). ks ++ rest) grown ∙ append_assoc front (k ∷ []) rest ∙ ap (λ (ks : List ℕ). front ++ ks) (sym (knowers_at v k vats vat true less here e)) ∙ so_far

pub stranger_next : (v k : ℕ) (vats : List VatScript) (vat : VatScript) (front total : List ℕ) → k < length vats → vat ≡ get_or vats k vat → false ≡ list_any (λ w. nat_eq w v) vat.knows
    → front ++ knowers v k (bare_from k (drop k vats)) ≡ total → front ++ knowers v (k + 1) (bare_from (k + 1) (drop (k + 1) vats)) ≡ total
stranger_next v k vats vat front total less here e so_far = ap (λ (ks : List ℕ). front ++ ks) (sym (knowers_at v k vats vat false less here e)) ∙ so_far

pub knowers_done : (v k : ℕ) (vats : List VatScript) (front total : List ℕ) → length vats ≤ k → front ++ knowers v k (bare_from k (drop k vats)) ≡ total → front ≡ total
unfolding knowers
knowers_done v k vats front total most so_far = sym (append-nil front) ∙ ap (λ (xs : List VatScript). front ++ knowers v k (bare_from k xs)) (sym (drop_all k vats most)) ∙ so_far

-- ---- the nouns of whom a vat knows

name_from : (j : ℕ) (vats : List VatScript) (k : ℕ) (vat : VatScript) → slice_get vats k ≡ Some vat → name_at (bare_from j vats) k ≡ vat.name
unfolding name_at
name_from j [] k vat e = absurd cc
name_from j (x ∷ xs) zero vat e = ap (λ (v : VatScript). v.name) (some_is e)
name_from j (x ∷ xs) (suc k) vat e = name_from (suc j) xs k vat e

pub noun_next : (vats : List VatScript) (ks : List ℕ) (i k : ℕ) (vat : VatScript) (noun : Words) (front after : List Words) → i < length ks → k ≡ get_or ks i k → slice_get vats k ≡ Some vat → noun ≡ vat.name → after ≡ front ++ noun ∷ []
    → front ≡ map (name_at (bare vats)) (take i ks) → after ≡ map (name_at (bare vats)) (take (i + 1) ks)
noun_next vats ks i k vat noun front after less here there is grown so_far =
    let name : ℕ → Words = name_at (bare vats) in
    let read : get_or ks i k ∷ [] ≡ k ∷ [] = ap (λ (j : ℕ). j ∷ []) (sym here) in
    grown
    ∙ ap (λ (w : Words). front ++ w ∷ []) (is ∙ sym (name_from zero vats k vat there))
    ∙ ap (λ (ws : List Words). ws ++ name k ∷ []) so_far
    ∙ sym (map-append name (take i ks) (k ∷ []))
    ∙ ap (λ (js : List ℕ). map name (take i ks ++ js)) (sym read)
    ∙ ap (map name) (sym (take_more ks i k less))

-- ---- programs do not matter to it

module _ (tree : ℕ → List Node) where
  pub knowers_alike : (v k j : ℕ) (vats : List VatScript) → knowers v k (bare_from j vats) ≡ knowers v k (machine_vats tree j vats)
  unfolding knowers
  knowers_alike v k j [] = refl
  knowers_alike v k j (x ∷ xs) = ap (λ (ks : List ℕ). with_knower (is_in v x.knows) k ks) (knowers_alike v (suc k) (suc j) xs)

  pub name_alike : (j w : ℕ) (vats : List VatScript) → name_at (bare_from j vats) w ≡ name_at (machine_vats tree j vats) w
  unfolding name_at
  name_alike j w [] = refl
  name_alike j zero (x ∷ xs) = refl
  name_alike j (suc w) (x ∷ xs) = name_alike (suc j) w xs

  names_alike : (vats : List VatScript) (ks : List ℕ) → map (name_at (bare_from zero vats)) ks ≡ map (name_at (machine_vats tree zero vats)) ks
  names_alike vats [] = refl
  names_alike vats (k ∷ ks) =
      ap (λ (n : Words). n ∷ map (name_at (bare_from zero vats)) ks) (name_alike zero k vats) ∙ ap (λ (ns : List Words). name_at (machine_vats tree zero vats) k ∷ ns) (names_alike vats ks)

  -- the nouns of these vats, where all are those
  pub nouns_alike : (all : List VatScript) (j : ℕ) (vats : List VatScript)
      → map (λ (v : VatScript). map (name_at (bare_from zero all)) v.knows) vats ≡ map (λ (p : Program). map (name_at (machine_vats tree zero all)) p.knows) (machine_vats tree j vats)
  nouns_alike all j [] = refl
  nouns_alike all j (v ∷ vs) =
      ap (λ (ns : List Words). ns ∷ map (λ (x : VatScript). map (name_at (bare_from zero all)) x.knows) vs) (names_alike all v.knows)
      ∙ ap (λ (nss : List (List Words)). map (name_at (machine_vats tree zero all)) v.knows ∷ nss) (nouns_alike all (suc j) vs)

-- ---- each knows it once

abbrev unless_in : Bool → ℕ → List ℕ → List ℕ
unless_in b k ws = elim b [ true ↦ ws | false ↦ ws ++ k ∷ [] ]

in_more : (b c d : Bool) → (c ≡ false → d ≡ false) → or_in b c ≡ false → or_in b d ≡ false
in_more true c d f e = e
in_more false c d f e = f e

absent_more : (x k : ℕ) (ws : List ℕ) → x ≢ k → is_in x ws ≡ false → is_in x (ws ++ k ∷ []) ≡ false
unfolding is_in
absent_more x k [] ne e = ap (λ (b : Bool). or_in b false) (apart x k ne)
absent_more x k (w ∷ ws) ne e = in_more (x == w) (is_in x ws) (is_in x (ws ++ k ∷ [])) (λ f. absent_more x k ws ne f) e

abbrev each_on : List ℕ → List ℕ → List ℕ
each_on ws ks = fold (λ us u. with_vat u us) ws ks

-- none of these is one of those from k on
abbrev NoneFrom : ℕ → List ℕ → Type 0
NoneFrom k ws = (x : ℕ) → k ≤ x → is_in x ws ≡ false

once_by : (k : ℕ) (ws ks : List ℕ) (b : Bool) → NoneFrom k ws → ((us : List ℕ) → NoneFrom (suc k) us → each_on us ks ≡ us ++ ks) → each_on ws (with_knower b k ks) ≡ ws ++ with_knower b k ks
unfolding with_vat
once_by k ws ks true none on =
    ap (λ (us : List ℕ). each_on us ks) (ap (λ (b : Bool). unless_in b k ws) (none k (omega arith)))
    ∙ on (ws ++ k ∷ []) (λ x le. absent_more x k ws (omega arith) (none x (omega arith)))
    ∙ append_assoc ws (k ∷ []) ks
once_by k ws ks false none on = on ws (λ x le. none x (omega arith))

once_from : (v k : ℕ) (ps : List Program) (ws : List ℕ) → NoneFrom k ws → each_on ws (knowers v k ps) ≡ ws ++ knowers v k ps
unfolding knowers
once_from v k [] ws none = sym (append-nil ws)
once_from v k (p ∷ ps) ws none = once_by k ws (knowers v (suc k) ps) (is_in v p.knows) none (λ us h. once_from v (suc k) ps us h)

pub each_knows_once : (v : ℕ) (ps : List Program) → each_once (knowers v zero ps) ≡ knowers v zero ps
unfolding is_in
each_knows_once v ps = once_from v zero ps [] (λ x le. refl)

-- ---- which vats these are

absent_by : (k i : ℕ) (ks : List ℕ) (b : Bool) → i < k → is_in i ks ≡ false → is_in i (with_knower b k ks) ≡ false
unfolding is_in
absent_by k i ks true less e = ap (λ (b : Bool). or_in b (is_in i ks)) (apart i k (omega arith)) ∙ e
absent_by k i ks false less e = e

none_before : (v k i : ℕ) (ps : List Program) → i < k → is_in i (knowers v k ps) ≡ false
unfolding knowers is_in
none_before v k i [] less = refl
none_before v k i (p ∷ ps) less = absent_by k i (knowers v (suc k) ps) (is_in v p.knows) less (none_before v (suc k) i ps (omega arith))

here_by : (k : ℕ) (ks : List ℕ) (b : Bool) → is_in k ks ≡ false → is_in k (with_knower b k ks) ≡ b
unfolding is_in
here_by k ks true e = ap (λ (b : Bool). or_in b (is_in k ks)) (nat_eq_equiv.refl k)
here_by k ks false e = e

behind_by : (k i : ℕ) (ks : List ℕ) (b c : Bool) → k < i → is_in i ks ≡ c → is_in i (with_knower b k ks) ≡ c
unfolding is_in
behind_by k i ks true c less e = ap (λ (b : Bool). or_in b (is_in i ks)) (apart i k (omega arith)) ∙ e
behind_by k i ks false c less e = e

-- the vat at a place is one of them exactly if it knows the vat
pub knows_so : (v k i : ℕ) (ps : List Program) (p : Program) → slice_get ps i ≡ Some p → is_in (k + i) (knowers v k ps) ≡ is_in v p.knows
unfolding knowers
knows_so v k i [] p e = absurd cc
knows_so v k zero (q ∷ ps) p e =
    let at : k + zero ≡ k = omega arith in
    ap (λ (j : ℕ). is_in j (with_knower (is_in v q.knows) k (knowers v (suc k) ps))) at
    ∙ here_by k (knowers v (suc k) ps) (is_in v q.knows) (none_before v (suc k) k ps (omega arith))
    ∙ ap (λ (o : Program). is_in v o.knows) (some_is e)
knows_so v k (suc i) (q ∷ ps) p e =
    let at : suc k + i ≡ k + suc i = omega arith in
    behind_by k (k + suc i) (knowers v (suc k) ps) (is_in v q.knows) (is_in v p.knows) (omega arith) (ap (λ (j : ℕ). is_in j (knowers v (suc k) ps)) (sym at) ∙ knows_so v (suc k) i ps p e)
