-- The entries of the map as gifts of a list.
use Rattle.std.proofs.Common.{◌≡◌, ℕ, zero, suc, ◌+◌, ◌<◌, ◌≤◌, Bool, true, false, cond, ◌&&◌, nat_eq, List, [], ◌∷◌, map, take, length, slice_get, Option, Some, None, refl, sym, ap, ◌∙◌, arith}
use Rattle.std.specs.Prelude.{option_map}
use Rattle.std.specs.Map.{lookup}
use Rattle.std.proofs.lemmas.Bool.{eqb-true}
use Rattle.indexmap.specs.IndexMap.{insert_entry}
use Rattle.ev_intro.specs.declared.gifts.GiftKey.{GiftKey}
use Rattle.ev_intro.specs.declared.gifts.Gift.{Gift as Held}
use Rattle.ev_intro.specs.Gift.{Gift, Gifts, find, put, is_waiting, unopened, and_one, waiting, waiting_at}

abbrev pub gift_of : GiftKey × Held → Gift
gift_of e = record { provider = e.0.provider; swiss = e.0.swiss; promise = e.1.promise; is_opened = e.1.is_opened }

abbrev pub gifts_of : List (GiftKey × Held) → Gifts
gifts_of es = map gift_of es

abbrev pub same_key : GiftKey → GiftKey → Bool
same_key a b = nat_eq a.provider b.provider && nat_eq a.swiss b.swiss

abbrev pub shown : Held → ℕ × Bool
shown g = (g.promise, g.is_opened)

shown_if : (b : Bool) (g : Held) (o : Option Held) → option_map shown (cond b (Some g) o) ≡ cond b (Some (shown g)) (option_map shown o)
shown_if true g o = refl
shown_if false g o = refl

pub find_lookup : (k : GiftKey) (es : List (GiftKey × Held)) → option_map shown (lookup (same_key k) es) ≡ find k.provider k.swiss (gifts_of es)
find_lookup k [] = refl
find_lookup k (e ∷ es) =
    shown_if (same_key k e.0) e.1 (lookup (same_key k) es)
    ∙ ap (λ (o : Option (ℕ × Bool)). cond (same_key k e.0) (Some (shown e.1)) o) (find_lookup k es)

same_parts : (a b : Bool) → (a && b) ≡ true → (a ≡ true) × (b ≡ true)
same_parts true true h = (refl, refl)
same_parts true false h = absurd cc
same_parts false b h = absurd cc

key_is : (a b : GiftKey) → same_key a b ≡ true → a ≡ b
key_is a b h =
    let p = same_parts (nat_eq a.provider b.provider) (nat_eq a.swiss b.swiss) h in
    let e = eqb-true a.provider b.provider p.0 in
    let f = eqb-true a.swiss b.swiss p.1 in
    λ i. record { provider = e i; swiss = f i }

put_if : (b : Bool) (k : GiftKey) (v : Held) (e : GiftKey × Held) (es others : List (GiftKey × Held)) (gs : Gifts) → (b ≡ true → k ≡ e.0) → gifts_of others ≡ gs
    → gifts_of (cond b ((e.0, v) ∷ es) (e ∷ others)) ≡ cond b (gift_of (k, v) ∷ gifts_of es) (gift_of e ∷ gs)
put_if true k v e es others gs is h = ap (λ (key : GiftKey). gift_of (key, v) ∷ gifts_of es) (sym (is refl))
put_if false k v e es others gs is h = ap (λ (x : Gifts). gift_of e ∷ x) h

pub put_insert : (k : GiftKey) (v : Held) (es : List (GiftKey × Held)) → gifts_of (insert_entry same_key es k v) ≡ put (gift_of (k, v)) (gifts_of es)
put_insert k v [] = refl
put_insert k v (e ∷ es) = put_if (same_key k e.0) k v e es (insert_entry same_key es k v) (put (gift_of (k, v)) (gifts_of es)) (key_is k e.0) (put_insert k v es)

take_all_of : (gs : Gifts) (n : ℕ) → length gs ≤ n → take n gs ≡ gs
take_all_of [] zero le = refl
take_all_of [] (suc n) le = refl
take_all_of (g ∷ gs) zero le = absurd (omega arith)
take_all_of (g ∷ gs) (suc n) le = ap (λ (xs : Gifts). g ∷ xs) (take_all_of gs n (omega arith))

-- ---- one more gift

-- the promise of what was found, where it is of this provider and not opened
abbrev pub waiting_in : ℕ → Option Gift → Option ℕ
waiting_in p None = None
waiting_in p (Some g) = waiting p g

pub waiting_entry : (p : ℕ) (es : List (GiftKey × Held)) (i : ℕ) → waiting_at p (gifts_of es) i ≡ waiting_in p (option_map gift_of (slice_get es i))
waiting_entry p [] i = refl
waiting_entry p (e ∷ es) zero = refl
waiting_entry p (e ∷ es) (suc i) = waiting_entry p es i

skip_one : (b : Bool) (x : ℕ) (ps : List ℕ) (o : Option ℕ) → cond b (x ∷ and_one ps o) (and_one ps o) ≡ and_one (cond b (x ∷ ps) ps) o
skip_one true x ps None = refl
skip_one true x ps (Some p) = refl
skip_one false x ps o = refl

one_of : (b : Bool) (x : ℕ) → cond b (x ∷ []) [] ≡ and_one [] (cond b (Some x) None)
one_of true x = refl
one_of false x = refl

pub unopened_more : (p : ℕ) (gs : Gifts) (i : ℕ) → i < length gs → unopened p (take (suc i) gs) ≡ and_one (unopened p (take i gs)) (waiting_at p gs i)
unopened_more p [] i lt = absurd (omega arith)
unopened_more p (g ∷ gs) zero lt = one_of (is_waiting p g) g.promise
unopened_more p (g ∷ gs) (suc i) lt =
    ap (λ (ps : List ℕ). cond (is_waiting p g) (g.promise ∷ ps) ps) (unopened_more p gs i (omega arith))
    ∙ skip_one (is_waiting p g) g.promise (unopened p (take i gs)) (waiting_at p gs i)

pub unopened_step : (p : ℕ) (gs : Gifts) (i : ℕ) (ps : List ℕ) → i < length gs → ps ≡ and_one (unopened p (take i gs)) (waiting_at p gs i) → ps ≡ unopened p (take (i + 1) gs)
unopened_step p gs i ps lt h = let e : suc i ≡ i + 1 = omega arith in h ∙ sym (unopened_more p gs i lt) ∙ ap (λ (n : ℕ). unopened p (take n gs)) e

pub unopened_all : (p : ℕ) (gs : Gifts) (n : ℕ) (ps : List ℕ) → length gs ≤ n → ps ≡ unopened p (take n gs) → ps ≡ unopened p gs
unopened_all p gs n ps le h = h ∙ ap (unopened p) (take_all_of gs n le)
