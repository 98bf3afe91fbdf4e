-- The text of a JSON object of the shape of a script, where all that it says is plain, and that it is read back.
use Rattle.std.proofs.Common.{◌≡◌, ◌≤◌, ℕ, max, Bool, true, false, ◌&&◌, List, [], ◌∷◌, ◌++◌, codes, Option, Some, option_map, option_and_then, refl, sym, ap, ap₂, ◌∙◌, arith, append_assoc, append-nil}
use Rattle.std.specs.List.{flat_map}
use Rattle.std.proofs.lemmas.Bool.{and_parts}
use Rattle.json.specs.Json as json
use Rattle.json.specs.Json.{if_last}
use Rattle.json.specs.Token.{Token}
use Rattle.json.specs.Print.{escape_byte, quoted}
use Rattle.json.specs.Tree as tree
use Rattle.json.specs.Tree.{HasNumbers, ItemsHaveNumbers, json_tokens}
use Rattle.json.proofs.Printed.Tokens.{tokens-print}
use Rattle.json.proofs.Printed.Trees.{ArePrintable-json_tokens, value-json_tokens}
use Rattle.serde_json.specs.Data.{Data, string, array, object, Items, no_items, item, no_members, member}
use Rattle.serde_json.specs.Read.{max_depth, of_json, of_items, read}
use Rattle.serde_json.specs.Written.{compact_text, items_text, outline, items_outline}
use Rattle.serde_json.proofs.Texts.{print-outline}
use Rattle.ev_generate.specs.Generated.{before_count, behind_count}
use Rattle.law_read.specs.Generated.Accepted.{adding, handing_on}
use Rattle.law_read.proofs.Generated.Plain.{are_plain, escape_plain, plain_append}

abbrev pub texts : List (List ℕ) → Items
texts [] = no_items
texts (t ∷ ts) = item (string t) (texts ts)

abbrev pub all_plain : List (List ℕ) → Bool
all_plain [] = true
all_plain (t ∷ ts) = are_plain t && all_plain ts

-- a vat by whom it knows, its name and its source
abbrev pub vat_value : List (List ℕ) → List ℕ → List ℕ → Data
vat_value knows name source =
    object (member (codes "knows") (array (texts knows)) (member (codes "name") (string name) (member (codes "source") (string source) no_members)))

abbrev pub script_value : List ℕ → List (List ℕ) → List ℕ → List ℕ → List ℕ → Data
script_value key entries first second third =
    object (member (codes "key") (string key) (member (codes "schedule") (array (texts entries))
    (member (codes "vats") (array (item (vat_value (codes "v1" ∷ codes "v2" ∷ []) (codes "v0") first)
    (item (vat_value [] (codes "v1") second) (item (vat_value [] (codes "v2") third) no_items)))) no_members)))

-- ---- its text

quoted_plain : (s : List ℕ) → are_plain s ≡ true → quoted s ≡ 34 ∷ (s ++ 34 ∷ [])
quoted_plain s h = ap (λ (t : List ℕ). 34 ∷ (t ++ 34 ∷ [])) (escape_plain s h)

-- a text as JSON spells it, with a comma behind it
abbrev pub with_comma : List ℕ → List ℕ
with_comma t = codes "\"" ++ t ++ codes "\","

shifted : (a b c d : List ℕ) → (34 ∷ (a ++ 34 ∷ [])) ++ 44 ∷ (b ++ (c ++ d)) ≡ ((34 ∷ (a ++ 34 ∷ 44 ∷ [])) ++ b) ++ (c ++ d)
shifted a b c d = simp append_assoc

-- the texts of a list, the last apart
abbrev joined : List (List ℕ) → List ℕ → List ℕ
joined ts last = flat_map with_comma ts ++ (quoted last ++ 93 ∷ [])

next : (t : List ℕ) (ts : List (List ℕ)) (last : List ℕ) → are_plain t ≡ true → items_text true (texts (ts ++ last ∷ [])) ≡ 44 ∷ joined ts last
    → quoted t ++ items_text true (texts (ts ++ last ∷ [])) ≡ joined (t ∷ ts) last
next t ts last p rest = ap₂ (λ (a b : List ℕ). a ++ b) (quoted_plain t p) rest ∙ shifted t (flat_map with_comma ts) (quoted last) (93 ∷ [])

later : (ts : List (List ℕ)) (last : List ℕ) → all_plain ts ≡ true → items_text true (texts (ts ++ last ∷ [])) ≡ 44 ∷ joined ts last
later [] last p = refl
later (t ∷ ts) last p =
    let h = and_parts (are_plain t) (all_plain ts) p in ap (λ (x : List ℕ). 44 ∷ x) (next t ts last h.0 (later ts last h.1))

entries_text : (ts : List (List ℕ)) (last : List ℕ) → all_plain ts ≡ true → items_text false (texts (ts ++ last ∷ [])) ≡ joined ts last
entries_text [] last p = refl
entries_text (t ∷ ts) last p = let h = and_parts (are_plain t) (all_plain ts) p in next t ts last h.0 (later ts last h.1)

-- the vats behind the first, and the bracket behind them
abbrev others : List ℕ
others =
    codes ",{\"knows\":[],\"name\":\"v1\",\"source\":\"def t { method hop(i, w) { w <- add(i) } }\"},{\"knows\":[],\"name\":\"v2\",\"source\":\"var sum := 0; def t { method add(i) { sum += i } }\"}]"

-- the text by its parts: the key, the entries with the bracket behind them, and the first source
abbrev shape : List ℕ → List ℕ → List ℕ → List ℕ
shape key entries first =
    codes "{\"key\":" ++ (key ++ (codes ",\"schedule\":[" ++ (entries ++ (codes ",\"vats\":[{\"knows\":[\"v1\",\"v2\"],\"name\":\"v0\",\"source\":"
    ++ (((first ++ 125 ∷ []) ++ others) ++ 125 ∷ [])))))

value_text : (key : List ℕ) (entries : List (List ℕ)) (first : List ℕ) → compact_text (script_value key entries first handing_on adding)
    ≡ shape (quoted key) (items_text false (texts entries)) (quoted first)
unfolding escape_byte
value_text key entries first = refl

regrouped : (a q k b x d r e c f n g z t : List ℕ)
    → a ++ ((q ++ (k ++ q)) ++ (b ++ ((x ++ ((q ++ ((d ++ r) ++ q)) ++ e)) ++ (c ++ ((((q ++ ((f ++ n ++ g) ++ q)) ++ z) ++ t) ++ z)))))
    ≡ ((a ++ q) ++ k ++ (q ++ b)) ++ x ++ ((q ++ d) ++ r) ++ ((q ++ (e ++ (c ++ (q ++ f)))) ++ n ++ (g ++ (q ++ (z ++ (t ++ z)))))
regrouped a q k b x d r e c f n g z t = simp append_assoc

fits : (key entries rounds count : List ℕ)
    → shape (34 ∷ (key ++ 34 ∷ [])) (entries ++ ((34 ∷ ((codes "drain " ++ rounds) ++ 34 ∷ [])) ++ 93 ∷ [])) (34 ∷ ((codes "for i in 1.." ++ count ++ codes " { v1 <- hop(i, v2) }") ++ 34 ∷ []))
    ≡ (codes "{\"key\":\"" ++ key ++ codes "\",\"schedule\":[") ++ entries ++ (codes "\"drain " ++ rounds) ++ (before_count ++ count ++ behind_count)
fits key entries rounds count =
    regrouped (codes "{\"key\":") (34 ∷ []) key (codes ",\"schedule\":[") entries (codes "drain ") rounds (93 ∷ [])
    (codes ",\"vats\":[{\"knows\":[\"v1\",\"v2\"],\"name\":\"v0\",\"source\":") (codes "for i in 1..") count (codes " { v1 <- hop(i, v2) }") (125 ∷ []) others

pub script_text : (key : List ℕ) (ts : List (List ℕ)) (rounds count : List ℕ) → are_plain key ≡ true → all_plain ts ≡ true → are_plain rounds ≡ true → are_plain count ≡ true
    → compact_text (script_value key (ts ++ (codes "drain " ++ rounds) ∷ []) (codes "for i in 1.." ++ count ++ codes " { v1 <- hop(i, v2) }") handing_on adding)
    ≡ (codes "{\"key\":\"" ++ key ++ codes "\",\"schedule\":[") ++ flat_map with_comma ts ++ (codes "\"drain " ++ rounds) ++ (before_count ++ count ++ behind_count)
script_text key ts rounds count k t r c =
    let last : List ℕ = codes "drain " ++ rounds in
    let source : List ℕ = codes "for i in 1.." ++ count ++ codes " { v1 <- hop(i, v2) }" in
    let plain_last : are_plain last ≡ true = plain_append (codes "drain ") rounds refl r in
    let plain_source : are_plain source ≡ true =
    plain_append (codes "for i in 1.." ++ count) (codes " { v1 <- hop(i, v2) }") (plain_append (codes "for i in 1..") count refl c) refl in
    value_text key (ts ++ last ∷ []) source
    ∙ ap (λ (x : List ℕ). shape x (items_text false (texts (ts ++ last ∷ []))) (quoted source)) (quoted_plain key k)
    ∙ ap (λ (x : List ℕ). shape (34 ∷ (key ++ 34 ∷ [])) x (quoted source)) (entries_text ts last t ∙ ap (λ (x : List ℕ). flat_map with_comma ts ++ (x ++ 93 ∷ [])) (quoted_plain last plain_last))
    ∙ ap (λ (x : List ℕ). shape (34 ∷ (key ++ 34 ∷ [])) (flat_map with_comma ts ++ ((34 ∷ (last ++ 34 ∷ [])) ++ 93 ∷ [])) x) (quoted_plain source plain_source)
    ∙ fits key (flat_map with_comma ts) rounds count

-- ---- it is read back

texts_numbers : (ts : List (List ℕ)) → ItemsHaveNumbers (items_outline (texts ts))
texts_numbers [] = tt
texts_numbers (t ∷ ts) = (tt, texts_numbers ts)

texts_depth : (ts : List (List ℕ)) → tree.items_depth (items_outline (texts ts)) ≡ 0
texts_depth [] = refl
texts_depth (t ∷ ts) = ap (λ (n : ℕ). max 0 n) (texts_depth ts)

texts_back : (ts : List (List ℕ)) → of_items (items_outline (texts ts)) ≡ Some (texts ts)
texts_back [] = refl
texts_back (t ∷ ts) = ap (option_map (item (string t))) (texts_back ts)

numbers : (key : List ℕ) (ts : List (List ℕ)) (a b c : List ℕ) → HasNumbers (outline (script_value key ts a b c))
numbers key ts a b c = (tt, (texts_numbers ts, (((((tt, (tt, tt)), (tt, (tt, tt)))), ((tt, (tt, (tt, tt))), ((tt, (tt, (tt, tt))), tt))), tt)))

shallow : (key : List ℕ) (ts : List (List ℕ)) (a b c : List ℕ) → tree.depth (outline (script_value key ts a b c)) ≤ max_depth
shallow key ts a b c = rw (texts_depth ts) (omega arith)

back : (key : List ℕ) (ts : List (List ℕ)) (a b c : List ℕ) → of_json (outline (script_value key ts a b c)) ≡ Some (script_value key ts a b c)
back key ts a b c = rw (texts_back ts) refl

-- the value that tokens are, where they are those of one
abbrev of_tokens : List Token → Option Data
of_tokens ts = option_and_then of_json (option_and_then (λ p. if_last p.0 p.1) (json.value max_depth ts))

pub value_read : (key : List ℕ) (ts : List (List ℕ)) (a b c : List ℕ) → read (compact_text (script_value key ts a b c)) ≡ Some (script_value key ts a b c)
value_read key ts a b c =
    let v = script_value key ts a b c in
    let j = outline v in
    ap read (sym (print-outline v)) ∙ ap of_tokens (tokens-print (json_tokens j) (ArePrintable-json_tokens j (numbers key ts a b c)) ∙ sym (append-nil (json_tokens j)))
    ∙ ap (λ (o : Option (json.Json × List Token)). option_and_then of_json (option_and_then (λ p. if_last p.0 p.1) o)) (value-json_tokens j max_depth [] (shallow key ts a b c))
    ∙ back key ts a b c
