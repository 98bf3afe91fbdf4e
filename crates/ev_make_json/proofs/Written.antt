-- What is written of what is told is JSON of few levels, and the reader of scripts reads it as what is told.
use Rattle.std.proofs.Common.{◌≡◌, ◌≤◌, ℕ, suc, Bool, true, false, List, [], ◌∷◌, Option, Some, None, Result, Ok, length, map, refl, ◌∙◌, ap, arith, nat_le, String, string_bytes, cond}
use Rattle.std.specs.Prelude.{option_and_then}
use Rattle.std.specs.List.{list_all}
use Rattle.std.specs.declared.alloc.Global.{Global}
use Rattle.std.proofs.lemmas.Str.{IsUtf8-string_bytes}
use Rattle.serde_json.specs.Data.{Data, string, array, object, items_depth, depth}
use Rattle.serde_json.specs.View.{items_of}
use Rattle.serde_json.specs.Written.{has_float, items_have_float}
use Rattle.serde_json.specs.Find.{as_str}
use Rattle.serde_json.specs.Read as json
use Rattle.ev_script.specs.Json.{json_of, each, list_of}
use Rattle.ev_script.specs.Head.{key_from}
use Rattle.ev_script.specs.Vats as vats
use Rattle.ev_script.specs.Vats.{are_vat_names}
use Rattle.ev_script.specs.Script.{◌>>=◌, rule, rule_holds, read_vats, read_schedule, read_rest, read_value, read}
use Rattle.ev_script.specs.declared.script.Script.{Script}
use Rattle.ev_script.specs.declared.script.VatScript.{VatScript}
use Rattle.ev_script.proofs.JsonLemmas.{json_of-read, listed_items_of}
use Rattle.def_vats.specs.declared.told.Told.{Told}
use Rattle.def_vats.specs.declared.told.ToldVat.{ToldVat}
use Rattle.ev_make_json.specs.Data.{fuel_member, script_data, schedule_data, vat_data, with_others}
use Rattle.ev_make_json.specs.Read as told

-- ---- how deep it is

texts_flat : (texts : List (List ℕ)) → items_depth (items_of (map string texts)) ≤ 0
texts_flat [] = omega arith
texts_flat (text ∷ texts) = let h = texts_flat texts in omega arith

vat_low : (vat : ToldVat) → depth (vat_data vat) ≤ 2
vat_low vat = let h = texts_flat vat.knows in omega arith

vats_low : (vats : List ToldVat) → items_depth (items_of (map vat_data vats)) ≤ 2
vats_low [] = omega arith
vats_low (vat ∷ vats) = let h = vats_low vats in let g = vat_low vat in omega arith

low_with : (fuel : Option ℕ) (told : Told) → depth (object (with_others told (fuel_member fuel))) ≤ 127
low_with None told = let h = vats_low told.vats in let g = texts_flat told.schedule in omega arith
low_with (Some n) told = let h = vats_low told.vats in let g = texts_flat told.schedule in omega arith

low : (told : Told) → depth (script_data told) ≤ 127
low told = low_with told.fuel told

-- ---- no number of it is a float

texts_whole : (texts : List (List ℕ)) → items_have_float (items_of (map string texts)) ≡ false
texts_whole [] = refl
texts_whole (text ∷ texts) = texts_whole texts

vat_whole : (vat : ToldVat) → has_float (vat_data vat) ≡ false
vat_whole vat = rw (texts_whole vat.knows) refl

vats_whole : (vs : List ToldVat) → items_have_float (items_of (map vat_data vs)) ≡ false
vats_whole [] = refl
vats_whole (vat ∷ vs) = rw (texts_whole vat.knows) (vats_whole vs)

whole_with : (fuel : Option ℕ) (t : Told) → has_float (object (with_others t (fuel_member fuel))) ≡ false
whole_with None t = rw (texts_whole t.schedule, vats_whole t.vats) refl
whole_with (Some n) t = rw (texts_whole t.schedule, vats_whole t.vats) refl

pub whole : (t : Told) → has_float (script_data t) ≡ false
whole t = whole_with t.fuel t

-- ---- what is read of it

texts_read : (texts : List (List ℕ)) → each as_str (map string texts) ≡ Some texts
texts_read [] = refl
texts_read (text ∷ texts) = ap (λ o. option_and_then (λ ts. Some (text ∷ ts)) o) (texts_read texts)

listed_read : (ds : List Data) → list_of (array (items_of ds)) ≡ Some ds
listed_read ds = ap Some (listed_items_of ds)

vat_read : (vat : ToldVat) → vats.vat_of (vat_data vat) ≡ Some (record { name = vat.name; knows = vat.knows; source = vat.source })
vat_read vat =
    ap (λ o. option_and_then (λ ds. option_and_then (λ ws. Some (record { name = vat.name; knows = ws; source = vat.source })) (each as_str ds)) o) (listed_read (map string vat.knows))
    ∙ ap (λ o. option_and_then (λ ws. Some (record { name = vat.name; knows = ws; source = vat.source })) o) (texts_read vat.knows)

vats_each : (vs : List ToldVat) → each vats.vat_of (map vat_data vs) ≡ Some (map (λ (vat : ToldVat). record { name = vat.name; knows = vat.knows; source = vat.source }) vs)
vats_each [] = refl
vats_each (vat ∷ vs) = simp (vat_read vat, vats_each vs)

same_length : (vs : List ToldVat) → length (map vat_data vs) ≡ length vs
same_length [] = refl
same_length (vat ∷ vs) = ap suc (same_length vs)

same_names : (vs : List ToldVat) → vats.names_of (map (λ (vat : ToldVat). record { name = vat.name; knows = vat.knows; source = vat.source }) vs) ≡ told.names_of vs
same_names [] = refl
same_names (vat ∷ vs) = ap (λ names. vat.name ∷ names) (same_names vs)

same_sources : (vs : List ToldVat) → list_all vats.is_source (map (λ (vat : ToldVat). record { name = vat.name; knows = vat.knows; source = vat.source }) vs) ≡ list_all told.is_source vs
same_sources [] = refl
same_sources (vat ∷ vs) = simp (same_sources vs)

known_step : (vat : ToldVat) (o : Option (List ℕ)) (p q : Option (List VatScript)) → p ≡ q
    → option_and_then (λ knows. option_and_then (λ rest. Some (record { name = vat.name; knows = knows; source = vat.source } ∷ rest)) p) o ≡ told.with_known vat o q
known_step vat None p q e = refl
known_step vat (Some knows) p None e = ap (λ o. option_and_then (λ rest. Some (record { name = vat.name; knows = knows; source = vat.source } ∷ rest)) o) e
known_step vat (Some knows) p (Some rest) e = ap (λ o. option_and_then (λ rest. Some (record { name = vat.name; knows = knows; source = vat.source } ∷ rest)) o) e

same_known : (names : List (List ℕ)) (place : ℕ) (vs : List ToldVat)
    → vats.known_from names place (map (λ (vat : ToldVat). record { name = vat.name; knows = vat.knows; source = vat.source }) vs) ≡ told.known_from names place vs
same_known names place [] = refl
same_known names place (vat ∷ vs) = known_step vat (vats.known names place vat.knows) _ _ (same_known names (suc place) vs)

-- ---- rule by rule

-- the tests of rules 5 to 7 stand in front of what is read behind them
tested : {A B : Type 0} (few named small : Bool) (x : A) (f : A → Result B ℕ) (y : Result B ℕ) → f x ≡ y
    → ((rule_holds 5 few >>= λ a. rule_holds 6 named >>= λ b. rule_holds 7 small >>= λ c. Ok x) >>= f) ≡ (rule_holds 5 few >>= λ a. rule_holds 6 named >>= λ b. rule_holds 7 small >>= λ c. y)
tested false named small x f y e = refl
tested true false small x f y e = refl
tested true true false x f y e = refl
tested true true true x f y e = e

few_first : {A B : Type 0} (few : Bool) (x : A) (f : A → Result B ℕ) → (rule 5 (cond few (Some x) None) >>= f) ≡ (rule_holds 5 few >>= λ a. f x)
few_first true x f = refl
few_first false x f = refl

vats_in_read : (vs : List ToldVat) → vats.vats_in (map vat_data vs)
    ≡ cond (nat_le (length vs) 16) (Some (map (λ (vat : ToldVat). record { name = vat.name; knows = vat.knows; source = vat.source }) vs)) None
vats_in_read vs = rw (same_length vs, vats_each vs) refl

vats_of_read : (t : Told) (fuel : Option ℕ) → vats.vats_of (object (with_others t (fuel_member fuel))) ≡ vats.vats_in (map vat_data t.vats)
vats_of_read t None = ap vats.vats_in (listed_items_of (map vat_data t.vats))
vats_of_read t (Some n) = ap vats.vats_in (listed_items_of (map vat_data t.vats))

-- rules 5 to 7
vats_read : (t : Told) (fuel : Option ℕ) → read_vats (object (with_others t (fuel_member fuel)))
    ≡ (rule_holds 5 (nat_le (length t.vats) 16) >>= λ a. rule_holds 6 (are_vat_names (told.names_of t.vats)) >>= λ b. rule_holds 7 (list_all told.is_source t.vats)
    >>= λ c. Ok (map (λ (vat : ToldVat). record { name = vat.name; knows = vat.knows; source = vat.source }) t.vats))
unfolding read_vats
vats_read t fuel =
    ap (λ o. rule 5 o >>= λ vs. rule_holds 6 (are_vat_names (vats.names_of vs)) >>= λ b. rule_holds 7 (list_all vats.is_source vs) >>= λ c. Ok vs)
    (vats_of_read t fuel ∙ vats_in_read t.vats)
    ∙ few_first (nat_le (length t.vats) 16) (map (λ (vat : ToldVat). record { name = vat.name; knows = vat.knows; source = vat.source }) t.vats)
    (λ vs. rule_holds 6 (are_vat_names (vats.names_of vs)) >>= λ b. rule_holds 7 (list_all vats.is_source vs) >>= λ c. Ok vs)
    ∙ ap (λ names. rule_holds 5 (nat_le (length t.vats) 16) >>= λ a. rule_holds 6 (are_vat_names names)
    >>= λ b. rule_holds 7 (list_all vats.is_source (map (λ (vat : ToldVat). record { name = vat.name; knows = vat.knows; source = vat.source }) t.vats))
    >>= λ c. Ok (map (λ (vat : ToldVat). record { name = vat.name; knows = vat.knows; source = vat.source }) t.vats)) (same_names t.vats)
    ∙ ap (λ small. rule_holds 5 (nat_le (length t.vats) 16) >>= λ a. rule_holds 6 (are_vat_names (told.names_of t.vats)) >>= λ b. rule_holds 7 small
    >>= λ c. Ok (map (λ (vat : ToldVat). record { name = vat.name; knows = vat.knows; source = vat.source }) t.vats)) (same_sources t.vats)

-- rules 9 to 12
schedule_read : (t : Told) (fuel : Option ℕ) (names : List (List ℕ)) → read_schedule names (object (with_others t (fuel_member fuel))) ≡ read_schedule names (schedule_data t.schedule)
unfolding read_schedule
schedule_read t None names = refl
schedule_read t (Some n) names = refl

-- rules 8 to 12
rest_read : (t : Told) (fuel : Option ℕ) (key : List ℕ) (n : ℕ)
    → read_rest key n (map (λ (vat : ToldVat). record { name = vat.name; knows = vat.knows; source = vat.source }) t.vats) (object (with_others t (fuel_member fuel)))
    ≡ (rule 8 (told.known_from (told.names_of t.vats) 0 t.vats) >>= λ known. read_schedule (told.names_of t.vats) (schedule_data t.schedule)
    >>= λ entries. Ok (record { key = key; fuel = n; vats = known; schedule = entries }))
unfolding read_rest
rest_read t fuel key n =
    ap (λ names. rule 8 (vats.known_from names 0 (map (λ (vat : ToldVat). record { name = vat.name; knows = vat.knows; source = vat.source }) t.vats))
    >>= λ known. read_schedule names (object (with_others t (fuel_member fuel))) >>= λ entries. Ok (record { key = key; fuel = n; vats = known; schedule = entries })) (same_names t.vats)
    ∙ ap (λ o. rule 8 o >>= λ known. read_schedule (told.names_of t.vats) (object (with_others t (fuel_member fuel)))
    >>= λ entries. Ok (record { key = key; fuel = n; vats = known; schedule = entries })) (same_known (told.names_of t.vats) 0 t.vats)
    ∙ ap (λ r. rule 8 (told.known_from (told.names_of t.vats) 0 t.vats) >>= λ known. r
    >>= λ entries. Ok (record { key = key; fuel = n; vats = known; schedule = entries })) (schedule_read t fuel (told.names_of t.vats))

-- rules 5 to 12
parts_read : (t : Told) (fuel : Option ℕ) (key : List ℕ) (n : ℕ)
    → (read_vats (object (with_others t (fuel_member fuel))) >>= λ vs. read_rest key n vs (object (with_others t (fuel_member fuel)))) ≡ told.read_vats key n t.vats t.schedule
unfolding told.read_vats
parts_read t fuel key n =
    ap (λ r. r >>= λ vs. read_rest key n vs (object (with_others t (fuel_member fuel)))) (vats_read t fuel)
    ∙ tested (nat_le (length t.vats) 16) (are_vat_names (told.names_of t.vats)) (list_all told.is_source t.vats) _ (λ vs. read_rest key n vs (object (with_others t (fuel_member fuel)))) _
    (rest_read t fuel key n)

-- rules 3 and 4 in front
headed : (key : Option (List ℕ)) (fuel : Option ℕ) (f g : List ℕ → ℕ → Result Script ℕ) → ((k : List ℕ) (n : ℕ) → f k n ≡ g k n)
    → (rule 3 key >>= λ k. rule 4 fuel >>= λ n. f k n) ≡ (rule 3 key >>= λ k. rule 4 fuel >>= λ n. g k n)
headed None fuel f g e = refl
headed (Some k) None f g e = refl
headed (Some k) (Some n) f g e = e k n

value_read : (t : Told) (fuel : Option ℕ) → read_value (object (with_others t (fuel_member fuel)))
    ≡ (rule 3 (key_from t.key) >>= λ k. rule 4 (told.fuel_of fuel) >>= λ n. told.read_vats k n t.vats t.schedule)
unfolding read_value
value_read t None = headed (key_from t.key) (told.fuel_of None) _ _ (parts_read t None)
value_read t (Some m) = headed (key_from t.key) (told.fuel_of (Some m)) _ _ (parts_read t (Some m))

-- ---- the clauses

pub written_value : (t : Told) (s : String Global) → (depth (script_data t) ≤ json.max_depth → json.read (string_bytes s) ≡ Some (script_data t)) → json_of (string_bytes s) ≡ Some (script_data t)
written_value t s h = json_of-read (string_bytes s) (script_data t) (IsUtf8-string_bytes s) (h (low t))

pub written_read : (t : Told) (bytes : List ℕ) → json_of bytes ≡ Some (script_data t) → read bytes ≡ told.read_told t
unfolding read told.read_told
written_read t bytes e = ap (λ o. rule 1 o >>= read_value) e ∙ value_read t t.fuel
