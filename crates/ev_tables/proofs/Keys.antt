-- Keys of a map as values of a list.
use Rattle.std.proofs.Common.{◌≡◌, ℕ, suc, ◌+◌, ◌<◌, ◌≤◌, Bool, true, false, not, cond, ltb, ⊎_elim, length, arith, List, [], ◌∷◌, ◌++◌, map, position, Option, Some, None, is_some, refl, sym, ap, ◌∙◌}
use Rattle.std.specs.List.{list_any, position_or_len}
use Rattle.std.specs.Prelude.{option_map}
use Rattle.std.proofs.lemmas.Bool.{lt-ltb, le-ltb, cases_lt}
use Rattle.std.specs.Map.{lookup}
use Rattle.ev_base.specs.declared.values.Value.{Value}
use Rattle.ev_tables.specs.declared.numeral.Number.{Number}
use Rattle.ev_tables.specs.declared.thing.Thing.{Thing}
use Rattle.ev_tables.specs.Thing.{same_value}
use Rattle.ev_tables.specs.Table.{name_of, place_of}

abbrev pub values_of : List Thing → List Value
values_of ts = map (λ (t : Thing). t.0) ts

abbrev pub pairs_of : List (Thing × Number) → List (Value × Number)
pairs_of es = map (λ (e : Thing × Number). (e.0.0, e.1)) es

pub name_lookup : (v : Value) (es : List (Thing × Number)) → lookup (λ (t : Thing). same_value v t.0) es ≡ name_of v (pairs_of es)
name_lookup v [] = refl
name_lookup v (e ∷ es) = ap (λ (o : Option Number). cond (same_value v e.0.0) (Some e.1) o) (name_lookup v es)

shifted : (n len : ℕ) → ltb (1 + n) (suc len) ≡ ltb n len
shifted n len = ⊎_elim (λ (lt : n < len). lt-ltb (1 + n) (suc len) (omega arith) ∙ sym (lt-ltb n len lt)) (λ (le : len ≤ n). le-ltb (1 + n) (suc len) (omega arith) ∙ sym (le-ltb n len le)) (cases_lt n len)

mapped : (b : Bool) (n : ℕ) → option_map suc (cond b (Some n) None) ≡ cond b (Some (1 + n)) None
mapped true n = let e : suc n ≡ 1 + n = omega arith in ap (λ (m : ℕ). Some m) e
mapped false n = refl

step : (b : Bool) (n len : ℕ) (o : Option ℕ) → cond (ltb n len) (Some n) None ≡ o
    → cond (ltb (cond (not b) (1 + n) 0) (suc len)) (Some (cond (not b) (1 + n) 0)) None ≡ cond b (Some 0) (option_map suc o)
step true n len o e = rw (lt-ltb 0 (suc len) (omega arith)) refl
step false n len o e = rw (shifted n len) (sym (mapped (ltb n len) n) ∙ ap (option_map suc) e)

pub place_position : (v : Value) (ts : List Thing) → position (λ (t : Thing). same_value v t.0) ts ≡ place_of v (values_of ts)
place_position v [] = refl
place_position v (t ∷ ts) = step (same_value v t.0) (position_or_len (λ (t : Thing). same_value v t.0) ts) (length ts) (place_of v (values_of ts)) (place_position v ts)

none_after : (b : Bool) (o : Option ℕ) → cond b (Some 0) (option_map suc o) ≡ None → (b ≡ false) × (o ≡ None)
none_after true o h = absurd cc
none_after false None h = (refl, refl)
none_after false (Some n) h = absurd cc

pub absent : (v : Value) (ts : List Thing) → place_of v (values_of ts) ≡ None → list_any (λ (t : Thing). same_value v t.0) ts ≡ false
absent v [] h = refl
absent v (t ∷ ts) h =
    let p = none_after (same_value v t.0) (place_of v (values_of ts)) h in
    rw (p.0, absent v ts p.1) refl

-- ---- a new key

pub values_push : (ts : List Thing) (t : Thing) → values_of (ts ++ t ∷ []) ≡ values_of ts ++ t.0 ∷ []
values_push [] t = refl
values_push (s ∷ ts) t = ap (λ (vs : List Value). s.0 ∷ vs) (values_push ts t)

pub pairs_push : (es : List (Thing × Number)) (e : Thing × Number) → pairs_of (es ++ e ∷ []) ≡ pairs_of es ++ (e.0.0, e.1) ∷ []
pairs_push [] e = refl
pairs_push (d ∷ es) e = ap (λ (ps : List (Value × Number)). (d.0.0, d.1) ∷ ps) (pairs_push es e)

pub is_none_from : {A : Type 0} (o : Option A) → is_some o ≡ false → o ≡ None
is_none_from None h = refl
is_none_from (Some x) h = absurd cc
