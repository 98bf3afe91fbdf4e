-- The program of each vat of a script that is read is in UTF-8, as each string in its JSON is.
use Rattle.std.proofs.Common.{◌≡◌, ℕ, Bool, true, false, List, [], ◌∷◌, Option, Some, None, Result, Ok, Err, All, codes, refl, sym, subst}
use Rattle.std.specs.Prelude.{option_and_then, if◌then◌else◌, length, nat_le}
use Rattle.std.specs.List.{list_all}
use Rattle.std.specs.Ordering.{nat_cmp}
use Rattle.std.specs.Cmp.Lexicographic.{slice_cmp}
use Rattle.std.specs.Str.{IsUtf8, is_utf8}
use Rattle.std.proofs.lemmas.List.Elements.{All-nil, All-cons}
use Rattle.std.proofs.lemmas.Str.{IsUtf8-from_is_utf8}
use Rattle.serde_json.specs.Data.{Data, null, boolean, number, string, array, object, Items, no_items, item, Members, no_members, member}
use Rattle.serde_json.specs.Find.{get, get_member, as_str}
use Rattle.serde_json.specs.Read.{read as value_of}
use Rattle.ev_script.specs.Json.{json_of, text_at, list_of, list_at, listed, each}
use Rattle.ev_script.specs.Head.{is_script_object, key_of, fuel_of}
use Rattle.ev_script.specs.Vats.{is_vat_object, vat_members, vat_of, vats_in, vats_of, names_of, are_vat_names, is_source, known_from}
use Rattle.ev_script.specs.Script.{◌>>=◌, rule, rule_holds, read_vats, read_schedule, read_rest, read_value, read}
use Rattle.ev_script.specs.declared.script.Script.{Script}
use Rattle.ev_script.specs.declared.script.VatScript.{VatScript}
use Rattle.ev_script.proofs.RuleLemmas.{answered, some_same, vats_known, each_vat}
use Rattle.law_read.specs.ReadScripts.Sources.{SourcesAreTexts}
use Rattle.law_read.proofs.ReadScripts.SourceValues.{AllTexts, AllOfItems, AllOfMembers, If, by_order, texts_of}

-- ---- what may be there

-- so is what is there
record Where {A : Type 0} (P : A → Type 0) (o : Option A) : Type 0 where
  there : (x : A) → o ≡ Some x → P x

where_if : {A : Type 0} (P : A → Type 0) (o : Option A) → If P o → Where P o
where_if P o h = record { there = λ x e. subst (If P) e h }

where_then : {A B : Type 0} (P : A → Type 0) (Q : B → Type 0) (f : A → Option B) (o : Option A) → Where P o → ((a : A) → P a → Where Q (f a)) → Where Q (option_and_then f o)
where_then P Q f o h g = record { there = λ y e. let a = answered o f y e in let w = g a.0 (h.there a.0 a.1) in w.there y a.2 }

where_some : {A : Type 0} (P : A → Type 0) (a : A) → P a → Where P (Some a)
where_some P a h = record { there = λ x e. subst P (some_same e) h }

where_test : {A : Type 0} (P : A → Type 0) (t : Bool) (o : Option A) → Where P o → Where P (if t then o else None)
where_test P true o h = h
where_test P false o h = record { there = λ x e. cc }

abbrev Any : {A : Type 0} → A → Type 0
Any a = Unit {0}

where_any : {A : Type 0} (o : Option A) → Where Any o
where_any o = record { there = λ x e. tt }

-- ---- parts of a value

member_text : (k : List ℕ) (ms : Members) → AllOfMembers ms → If AllTexts (get_member k ms)
member_text k no_members h = tt
member_text k (member l e ms) h = by_order (If AllTexts) (slice_cmp nat_cmp k l) (get_member k ms) (Some e) (get_member k ms) (member_text k ms h.1) h.0 (member_text k ms h.1)

get_text : (k : List ℕ) (d : Data) → AllTexts d → If AllTexts (get k d)
get_text k null h = tt
get_text k (boolean b) h = tt
get_text k (number n) h = tt
get_text k (string s) h = tt
get_text k (array ds) h = tt
get_text k (object ms) h = member_text k ms h

str_text : (d : Data) → AllTexts d → If IsUtf8 (as_str d)
str_text null h = tt
str_text (boolean b) h = tt
str_text (number n) h = tt
str_text (string s) h = h
str_text (array ds) h = tt
str_text (object ms) h = tt

text_there : (k : List ℕ) (d : Data) → AllTexts d → Where IsUtf8 (text_at k d)
text_there k d h = where_then AllTexts IsUtf8 as_str (get k d) (where_if AllTexts (get k d) (get_text k d h)) (λ e i. where_if IsUtf8 (as_str e) (str_text e i))

abbrev Listed : List Data → Type 0
Listed [] = Unit {0}
Listed (d ∷ ds) = AllTexts d × Listed ds

listed_text : (ds : Items) → AllOfItems ds → Listed (listed ds)
listed_text no_items h = tt
listed_text (item d ds) h = (h.0, listed_text ds h.1)

list_text : (d : Data) → AllTexts d → If Listed (list_of d)
list_text null h = tt
list_text (boolean b) h = tt
list_text (number n) h = tt
list_text (string s) h = tt
list_text (array ds) h = listed_text ds h
list_text (object ms) h = tt

list_there : (k : List ℕ) (d : Data) → AllTexts d → Where Listed (list_at k d)
list_there k d h = where_then AllTexts Listed list_of (get k d) (where_if AllTexts (get k d) (get_text k d h)) (λ e i. where_if Listed (list_of e) (list_text e i))

-- ---- the vats

members_there : (d : Data) → AllTexts d → Where (λ vat. IsUtf8 vat.source) (vat_members d)
members_there d h =
    where_then Any (λ vat. IsUtf8 vat.source) _ (text_at (codes "name") d) (where_any (text_at (codes "name") d)) (λ name _.
    where_then Any (λ vat. IsUtf8 vat.source) _ (list_at (codes "knows") d) (where_any (list_at (codes "knows") d)) (λ knows _.
    where_then Any (λ vat. IsUtf8 vat.source) _ (each as_str knows) (where_any (each as_str knows)) (λ words _.
    where_then IsUtf8 (λ vat. IsUtf8 vat.source) _ (text_at (codes "source") d) (text_there (codes "source") d h) (λ source u.
    where_some (λ vat. IsUtf8 vat.source) _ u))))

each_there : {A : Type 0} (P : A → Type 0) (f : Data → Option A) → ((d : Data) → AllTexts d → Where P (f d)) → (ds : List Data) → Listed ds → Where (All P) (each f ds)
each_there P f g [] h = where_some (All P) [] (All-nil P)
each_there P f g (d ∷ ds) h =
    where_then P (All P) (λ y. option_and_then (λ ys. Some (y ∷ ys)) (each f ds)) (f d) (g d h.0) (λ y p.
    where_then (All P) (All P) (λ ys. Some (y ∷ ys)) (each f ds) (each_there P f g ds h.1) (λ ys q. where_some (All P) (y ∷ ys) (All-cons P y ys p q)))

vats_there : (d : Data) → AllTexts d → Where (All (λ vat. IsUtf8 vat.source)) (vats_of d)
vats_there d h =
    where_then Listed (All (λ vat. IsUtf8 vat.source)) vats_in (list_at (codes "vats") d) (list_there (codes "vats") d h) (λ ds l.
    where_test (All (λ vat. IsUtf8 vat.source)) (nat_le (length ds) 16) (each vat_of ds)
    (each_there (λ vat. IsUtf8 vat.source) vat_of (λ e i. where_test (λ vat. IsUtf8 vat.source) (is_vat_object e) (vat_members e) (members_there e i)) ds l))

-- ---- the rules, one behind another

gave : {A B : Type 0} (r : Result A ℕ) (f : A → Result B ℕ) (y : B) → (r >>= f) ≡ Ok y → (x : A) × (r ≡ Ok x) × (f x ≡ Ok y)
gave (Ok x) f y e = (x, refl, e)
gave (Err k) f y e = cc

by_rule : {A B : Type 0} (k : ℕ) (o : Option A) (f : A → Result B ℕ) (y : B) → (rule k o >>= f) ≡ Ok y → (x : A) × (o ≡ Some x) × (f x ≡ Ok y)
by_rule k (Some x) f y e = (x, refl, e)
by_rule k None f y e = cc

by_test : {B : Type 0} (k : ℕ) (b : Bool) (f : Unit {0} → Result B ℕ) (y : B) → (rule_holds k b >>= f) ≡ Ok y → f tt ≡ Ok y
by_test k true f y e = e
by_test k false f y e = cc

abbrev value : {A : Type 0} → A → Result A ℕ
value x = Ok x

ok_same : {A : Type 0} {x y : A} → value x ≡ value y → x ≡ y
ok_same e = cc

json_there : (bytes : List ℕ) → Where AllTexts (json_of bytes)
unfolding json_of
json_there bytes = by (is_utf8 bytes) refl
  where
    by : (t : Bool) → is_utf8 bytes ≡ t → Where AllTexts (if t then value_of bytes else None)
    by true i = where_if AllTexts (value_of bytes) (texts_of bytes (IsUtf8-from_is_utf8 bytes i))
    by false i = record { there = λ x e. cc }

pub sources_are_texts : SourcesAreTexts
unfolding read read_value read_vats read_rest
sources_are_texts bytes script e =
    let json = by_rule 1 (json_of bytes) _ script e in
    let object = by_test 2 (is_script_object json.0) _ script json.2 in
    let key = by_rule 3 (key_of json.0) _ script object in
    let fuel = by_rule 4 (fuel_of json.0) _ script key.2 in
    let vats = gave (read_vats json.0) _ script fuel.2 in
    let told = by_rule 5 (vats_of json.0) _ vats.0 vats.1 in
    let named = by_test 6 (are_vat_names (names_of told.0)) _ vats.0 told.2 in
    let small = by_test 7 (list_all is_source told.0) _ vats.0 named in
    let known = by_rule 8 (known_from (names_of vats.0) 0 vats.0) _ script vats.2 in
    let schedule = gave (read_schedule (names_of vats.0) json.0) _ script known.2 in
    let all = vats_there json.0 ((json_there bytes).there json.0 json.1) in
    let texts = subst (All (λ vat. IsUtf8 vat.source)) (ok_same small) (all.there told.0 told.1) in
    subst (λ (s : Script). All (λ (vat : VatScript). IsUtf8 vat.source) s.vats) (ok_same schedule.2)
    (each_vat (λ vat. IsUtf8 vat.source) (λ (vat : VatScript). IsUtf8 vat.source) (length (names_of vats.0)) 0 vats.0 known.0 (vats_known (names_of vats.0) 0 vats.0 known.0 known.1) texts (λ d vat n is u. subst IsUtf8 (sym is) u))
