-- The script that is generated for a number is read.
use Rattle.std.proofs.Common.{◌≡◌, ◌≤◌, ◌<◌, ◌+◌, ◌*◌, ℕ, Bool, true, nat_lt, List, [], ◌∷◌, ◌++◌, codes, decimal, Some, None, Ok, Err, if◌then◌else◌, length, refl, sym, ap, ◌∙◌, subst, arith, length-append}
use Rattle.std.specs.Prelude.{nat_le}
use Rattle.std.specs.List.{flat_map, range_with_len, repeat}
use Rattle.std.proofs.lemmas.Bool.{and_parts}
use Rattle.std.proofs.lemmas.Bool.Decides.{nat_tests}
use Rattle.std.proofs.lemmas.Fmt.{length-decimal-le}
use Rattle.std.proofs.lemmas.Str.{is_utf8-from_IsUtf8}
use Rattle.hex.specs.Hex.{encode_lower}
use Rattle.json.proofs.Printed.Utf8.{are_ascii, IsUtf8-are_ascii}
use Rattle.serde_json.specs.Data.{Data}
use Rattle.serde_json.specs.Read as json
use Rattle.serde_json.specs.Written.{compact_text}
use Rattle.ev_generate.specs.Generated.{before_count, behind_count, choice, drain, entries, generated, generated_key, head, vats}
use Rattle.ev_script.specs.Head.{fuel_of}
use Rattle.ev_script.specs.Json.{each, json_of}
use Rattle.ev_script.specs.Schedule.{are_in_order, round, step_in}
use Rattle.ev_script.specs.Script.{◌>>=◌, most_entries, read, read_rest, read_schedule, read_value, read_vats, rule, rule_holds, write_out}
use Rattle.ev_script.specs.Vats.{vats_of}
use Rattle.law_read.specs.Generated.Accepted.{GeneratedScriptsAreLong, GeneratedScriptsAreRead, adding, generated_script, generated_vats, handing_on, sending}
use Rattle.law_read.proofs.Generated.Plain.{ascii_plain, both, decimal_plain}
use Rattle.law_read.proofs.Generated.Texts.{all_plain, script_text, script_value, value_read, with_comma}
use Rattle.law_read.proofs.Generated.Keys.{key_plain, key_read}
use Rattle.law_read.proofs.Generated.Entries.{each_gives, in_order, picked, schedule_long, schedule_quiet, spellings, spellings_plain, spellings_text, values, values_some, values_spelled, values_written, vat_names}

-- ---- the schedule

at_most : (m most : ℕ) → m ≤ most → nat_le m most ≡ true
at_most m most h = grind (arith, nat_tests)

schedule_read : (key first : List ℕ) (g : ℕ → ℕ) (n m : ℕ) → 0 < m → n + 9 * m ≤ 100000
    → read_schedule vat_names (script_value key (spellings g (range_with_len 0 n) ++ (codes "drain " ++ decimal m) ∷ []) first handing_on adding)
    ≡ Ok (picked g (range_with_len 0 n) ++ repeat m (round 3))
unfolding read_schedule write_out
schedule_read key first g n m some few =
    let xs = range_with_len 0 n in
    let all = picked g xs ++ repeat m (round 3) in
    let less : m ≤ 100000 = omega (arith, few) in
    let long : length all ≤ most_entries = let l = schedule_long g n m in omega (arith, l, few) in
    ap (λ (b : Bool). rule 9 (if b then Some (values g m some less xs) else None)
    >>= (λ vs. rule 10 (each (step_in vat_names) vs) >>= (λ steps. write_out (round 3) steps >>= (λ es. rule_holds 12 (are_in_order [] es) >>= (λ u. Ok es)))))
    (values_spelled g m some less xs)
    ∙ ap (λ o. rule 10 o >>= (λ steps. write_out (round 3) steps >>= (λ es. rule_holds 12 (are_in_order [] es) >>= (λ u. Ok es))))
    (each_gives (step_in vat_names) (values g m some less xs) (values_some g m some less xs))
    ∙ ap (λ w. (if nat_le (length w) most_entries then Ok w else Err 11) >>= (λ es. rule_holds 12 (are_in_order [] es) >>= (λ u. Ok es))) (values_written g m some less xs)
    ∙ ap (λ (b : Bool). (if b then Ok all else Err 11) >>= (λ es. rule_holds 12 (are_in_order [] es) >>= (λ u. Ok es))) (at_most (length all) most_entries long)
    ∙ ap (λ (b : Bool). rule_holds 12 b >>= (λ u. Ok all)) (in_order [] all (schedule_quiet g xs m))

-- ---- the value

abbrev value : ℕ → Data
value n = script_value (encode_lower (generated_key n))
    (spellings (choice (generated_key n)) (range_with_len 0 n) ++ (codes "drain " ++ decimal (3 * n + 10)) ∷ []) (sending n) handing_on adding

source_small : (n : ℕ) → n ≤ 3000 → nat_le (length (sending n)) 65536 ≡ true
source_small n few =
    let digits : length (decimal n) ≤ 4 = length-decimal-le 4 n (omega arith) (omega (arith, few)) (omega (arith, few)) in
    let front = length-append (codes "for i in 1.." ++ decimal n) (codes " { v1 <- hop(i, v2) }") in
    let more = length-append (codes "for i in 1..") (decimal n) in
    at_most (length (sending n)) 65536 (omega (arith, front, more, digits))

value_reads : (n : ℕ) → n ≤ 3000 → read_value (value n) ≡ Ok (generated_script n)
unfolding read_value read_vats read_rest
value_reads n few =
    let d = value n in
    ap (λ o. rule 3 o >>= (λ key. rule 4 (fuel_of d) >>= (λ fuel. read_vats d >>= (λ vats. read_rest key fuel vats d)))) (key_read n)
    ∙ ap (λ (b : Bool). (rule 5 (vats_of d) >>= (λ vats. rule_holds 7 b >>= (λ u. Ok vats))) >>= (λ vats. read_rest (generated_key n) 1000000 vats d))
    (both (nat_le (length (sending n)) 65536) true (source_small n few) refl)
    ∙ ap (λ r. r >>= (λ schedule. Ok (record { key = generated_key n; fuel = 1000000; vats = generated_vats n; schedule = schedule })))
    (schedule_read (encode_lower (generated_key n)) (sending n) (choice (generated_key n)) n (3 * n + 10) (omega arith) (omega (arith, few)))

-- ---- the bytes

ascii_append : (xs ys : List ℕ) → are_ascii xs ≡ true → are_ascii ys ≡ true → are_ascii (xs ++ ys) ≡ true
ascii_append [] ys p q = q
ascii_append (x ∷ xs) ys p q = let h = and_parts (nat_lt x 128) (are_ascii xs) p in both (nat_lt x 128) (are_ascii (xs ++ ys)) h.0 (ascii_append xs ys h.1 q)

spelled_ascii : (ts : List (List ℕ)) → all_plain ts ≡ true → are_ascii (flat_map with_comma ts) ≡ true
spelled_ascii [] h = refl
spelled_ascii (t ∷ ts) h =
    let p = and_parts _ _ h in
    ascii_append (with_comma t) (flat_map with_comma ts)
    (ascii_append (codes "\"" ++ t) (codes "\",") (ascii_append (codes "\"") t refl (ascii_plain t p.0)) refl) (spelled_ascii ts p.1)

generated_ascii : (n : ℕ) → n ≤ 3000 → are_ascii (generated n) ≡ true
generated_ascii n few =
    let key = generated_key n in
    let xs = range_with_len 0 n in
    let front : are_ascii (head key) ≡ true =
    ascii_append (codes "{\"key\":\"" ++ encode_lower key) (codes "\",\"schedule\":[") (ascii_append (codes "{\"key\":\"") (encode_lower key) refl (ascii_plain (encode_lower key) (key_plain n))) refl in
    let chosen : are_ascii (entries key n) ≡ true =
    subst (λ (t : List ℕ). are_ascii t ≡ true) (spellings_text (choice key) xs) (spelled_ascii (spellings (choice key) xs) (spellings_plain (choice key) xs)) in
    let rounds : are_ascii (drain n) ≡ true = ascii_append (codes "\"drain ") (decimal (3 * n + 10)) refl (ascii_plain (decimal (3 * n + 10)) (decimal_plain (3 * n + 10) (omega (arith, few)))) in
    let back : are_ascii (vats n) ≡ true =
    ascii_append (before_count ++ decimal n) behind_count (ascii_append before_count (decimal n) refl (ascii_plain (decimal n) (decimal_plain n (omega (arith, few))))) refl in
    ascii_append (head key ++ entries key n ++ drain n) (vats n) (ascii_append (head key ++ entries key n) (drain n) (ascii_append (head key) (entries key n) front chosen) rounds) back

text_is : (n : ℕ) → n ≤ 3000 → compact_text (value n) ≡ generated n
text_is n few =
    let key = generated_key n in
    let xs = range_with_len 0 n in
    script_text (encode_lower key) (spellings (choice key) xs) (decimal (3 * n + 10)) (decimal n) (key_plain n) (spellings_plain (choice key) xs)
    (decimal_plain (3 * n + 10) (omega (arith, few))) (decimal_plain n (omega (arith, few)))
    ∙ ap (λ (t : List ℕ). head key ++ t ++ drain n ++ vats n) (spellings_text (choice key) xs)

json_is : (n : ℕ) → n ≤ 3000 → json_of (generated n) ≡ Some (value n)
unfolding json_of
json_is n few =
    let key = generated_key n in
    ap (λ (b : Bool). if b then json.read (generated n) else None) (is_utf8-from_IsUtf8 (generated n) (IsUtf8-are_ascii (generated n) (generated_ascii n few)))
    ∙ ap json.read (sym (text_is n few))
    ∙ value_read (encode_lower key) (spellings (choice key) (range_with_len 0 n) ++ (codes "drain " ++ decimal (3 * n + 10)) ∷ []) (sending n) handing_on adding

pub are_read : GeneratedScriptsAreRead
unfolding read
are_read n few = ap (λ o. rule 1 o >>= read_value) (json_is n few) ∙ value_reads n few

-- ---- how long it is

pub are_long : GeneratedScriptsAreLong
are_long n = (refl, let l = schedule_long (choice (generated_key n)) n (3 * n + 10) in omega (arith, l))
