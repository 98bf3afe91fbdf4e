-- Where the queue from one vat to another stands.
use Rattle.std.proofs.Common.{◌≡◌, ℕ, zero, suc, ◌+◌, ◌<◌, ◌≤◌, get_or, Bool, true, false, List, [], ◌∷◌, length, take, Option, Some, None, refl, sym, ap, ◌∙◌, arith}
use Rattle.std.specs.Prelude.{slice_get}
use Rattle.std.proofs.lemmas.List.{take_all}
use Rattle.std.proofs.lemmas.Option.{slice_get_read}
use Rattle.def_hostile.specs.Hostile.{Raw, is_raw}
use Rattle.ev_injected.specs.Lanes.{behind, place}

pub behind_some : (o : Option ℕ) (i : ℕ) → behind o ≡ Some i → (j : ℕ) × ((i ≡ suc j) × (o ≡ Some j))
unfolding behind
behind_some None i e = absurd cc
behind_some (Some j) i e = (j, (cc, refl))

pub behind_none : (o : Option ℕ) → behind o ≡ None → o ≡ None
unfolding behind
behind_none None e = refl
behind_none (Some j) e = absurd cc

-- ---- the first of them that fits, one after the other

here_by : (b : Bool) (o : Option ℕ) → b ≡ true → elim b [ true ↦ Some zero | false ↦ behind o ] ≡ Some zero
here_by true o e = refl
here_by false o e = absurd cc

later_by : (b : Bool) (o : Option ℕ) → (◌≡◌ {A = Option ℕ} (elim b [ true ↦ Some zero | false ↦ behind o ]) None) → (b ≡ false) × (o ≡ None)
later_by true o e = absurd cc
later_by false o e = (refl, behind_none o e)

still_by : (b : Bool) (o p : Option ℕ) → b ≡ false → o ≡ p → elim b [ true ↦ Some zero | false ↦ behind o ] ≡ behind p
still_by true o p e f = absurd cc
still_by false o p e f = ap behind f

behind_is : (i : ℕ) → behind (Some i) ≡ Some (suc i)
unfolding behind
behind_is i = refl

behind_is_none : behind None ≡ None
unfolding behind
behind_is_none = refl

pub place_here : (v w : ℕ) (rs : List Raw) (i : ℕ) (r : Raw) → place v w (take i rs) ≡ None → slice_get rs i ≡ Some r → is_raw v w r ≡ true → place v w rs ≡ Some i
unfolding place
place_here v w [] i r e g h = absurd cc
place_here v w (x ∷ rs) zero r e g h = here_by (is_raw v w x) (place v w rs) (let f : x ≡ r = cc in ap (is_raw v w) f ∙ h)
place_here v w (x ∷ rs) (suc i) r e g h =
    let l = later_by (is_raw v w x) (place v w (take i rs)) e in
    still_by (is_raw v w x) (place v w rs) (Some i) l.0 (place_here v w rs i r l.1 g h) ∙ behind_is i

pub place_next : (v w : ℕ) (rs : List Raw) (i : ℕ) (r : Raw) → place v w (take i rs) ≡ None → slice_get rs i ≡ Some r → is_raw v w r ≡ false → place v w (take (suc i) rs) ≡ None
unfolding place
place_next v w [] i r e g h = absurd cc
place_next v w (x ∷ rs) zero r e g h = still_by (is_raw v w x) None None (let f : x ≡ r = cc in ap (is_raw v w) f ∙ h) refl ∙ behind_is_none
place_next v w (x ∷ rs) (suc i) r e g h =
    let l = later_by (is_raw v w x) (place v w (take i rs)) e in
    still_by (is_raw v w x) (place v w (take (suc i) rs)) None l.0 (place_next v w rs i r l.1 g h) ∙ behind_is_none

pub place_none : (v w : ℕ) (rs : List Raw) (n : ℕ) → place v w (take n rs) ≡ None → length rs ≤ n → place v w rs ≡ None
place_none v w rs n e le = ap (place v w) (sym (take_all n rs le)) ∙ e

pub place_start : (v w : ℕ) (rs : List Raw) → place v w (take zero rs) ≡ None
unfolding place
place_start v w rs = refl

-- ---- as they are gone through

-- the queue at hand, after so many
at_hand : (xs : List Raw) (n i : ℕ) (r : Raw) → n ≡ length xs → i < n → r ≡ get_or xs i r → slice_get xs i ≡ Some r
at_hand xs n i r e lt h = slice_get_read xs n i r e lt h

pub found_here : (v w : ℕ) (rs xs : List Raw) (n i k : ℕ) (r : Raw) → xs ≡ rs → k ≡ i → n ≡ length xs → i < n → r ≡ get_or xs i r → place v w (take i xs) ≡ None → is_raw v w r ≡ true → Some k ≡ place v w rs
found_here v w rs xs n i k r e f len lt at none here =
    ap (λ (j : ℕ). Some j) f ∙ (sym (place_here v w xs i r none (at_hand xs n i r len lt at) here) ∙ ap (place v w) e)

pub found_next : (v w : ℕ) (xs : List Raw) (n i : ℕ) (r : Raw) → n ≡ length xs → i < n → r ≡ get_or xs i r → place v w (take i xs) ≡ None → is_raw v w r ≡ false → place v w (take (i + 1) xs) ≡ None
found_next v w xs n i r len lt at none here =
    ap (λ (j : ℕ). place v w (take j xs)) (let e : i + 1 ≡ suc i = omega arith in e) ∙ place_next v w xs i r none (at_hand xs n i r len lt at) here

pub found_none : (v w : ℕ) (rs xs : List Raw) (n i : ℕ) → xs ≡ rs → n ≡ length xs → n ≤ i → place v w (take i xs) ≡ None → None ≡ place v w rs
found_none v w rs xs n i e len le none = sym (place_none v w xs i none (omega arith)) ∙ ap (place v w) e
