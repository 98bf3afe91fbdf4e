-- The entries of the map as gifts of a list.
use Rattle.std.proofs.Common.{◌≡◌, ℕ, Bool, true, false, cond, ◌&&◌, nat_eq, List, [], ◌∷◌, map, Option, Some, refl, sym, ap}
use Rattle.std.specs.Map.{lookup}
use Rattle.std.proofs.lemmas.Bool.{eqb-true}
use Rattle.indexmap.specs.IndexMap.{insert_entry}
use Rattle.ev_wire.specs.declared.learnt.LearntKey.{LearntKey}
use Rattle.ev_wire.specs.Learnt.{LearntGift, LearntGifts, find, put}

abbrev pub gift_of : LearntKey × ℕ → LearntGift
gift_of e = record { host = e.0.host; provider = e.0.provider; word = e.0.word; name = e.1 }

abbrev pub gifts_of : List (LearntKey × ℕ) → LearntGifts
gifts_of es = map gift_of es

abbrev pub same_key : LearntKey → LearntKey → Bool
same_key a b = nat_eq a.host b.host && (nat_eq a.provider b.provider && nat_eq a.word b.word)

pub find_lookup : (k : LearntKey) (es : List (LearntKey × ℕ)) → lookup (same_key k) es ≡ find k.host k.provider k.word (gifts_of es)
find_lookup k [] = refl
find_lookup k (e ∷ es) = ap (λ (o : Option ℕ). cond (same_key k e.0) (Some e.1) o) (find_lookup k es)

both : (a b : Bool) → (a && b) ≡ true → (a ≡ true) × (b ≡ true)
both true true h = (refl, refl)
both true false h = absurd cc
both false b h = absurd cc

key_is : (a b : LearntKey) → same_key a b ≡ true → a ≡ b
key_is a b h =
    let p = both (nat_eq a.host b.host) (nat_eq a.provider b.provider && nat_eq a.word b.word) h in
    let q = both (nat_eq a.provider b.provider) (nat_eq a.word b.word) p.1 in
    let e = eqb-true a.host b.host p.0 in
    let f = eqb-true a.provider b.provider q.0 in
    let g = eqb-true a.word b.word q.1 in
    λ i. record { host = e i; provider = f i; word = g i }

put_if : (b : Bool) (k : LearntKey) (v : ℕ) (e : LearntKey × ℕ) (es others : List (LearntKey × ℕ)) (gs : LearntGifts) → (b ≡ true → k ≡ e.0) → gifts_of others ≡ gs
    → gifts_of (cond b ((e.0, v) ∷ es) (e ∷ others)) ≡ cond b (gift_of (k, v) ∷ gifts_of es) (gift_of e ∷ gs)
put_if true k v e es others gs is h = ap (λ (key : LearntKey). gift_of (key, v) ∷ gifts_of es) (sym (is refl))
put_if false k v e es others gs is h = ap (λ (x : LearntGifts). gift_of e ∷ x) h

pub put_insert : (k : LearntKey) (v : ℕ) (es : List (LearntKey × ℕ)) → gifts_of (insert_entry same_key es k v) ≡ put (gift_of (k, v)) (gifts_of es)
put_insert k v [] = refl
put_insert k v (e ∷ es) = put_if (same_key k e.0) k v e es (insert_entry same_key es k v) (put (gift_of (k, v)) (gifts_of es)) (key_is k e.0) (put_insert k v es)
